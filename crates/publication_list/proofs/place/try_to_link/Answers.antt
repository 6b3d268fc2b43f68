-- `try_to_link`: the seat knows whether the row was put in front or the try missed. Each of the three accesses is
-- allowed by what the seat knows then (`see_allowed`, `link_allowed`, `enlist_allowed`).
use Rattle.std.proofs.Common.{arith, ◌∙◌, sym, subst, true}
use Rattle.publication_list.specs.Inside.{IsRowPlace, tries_of}
use Rattle.publication_list.proofs.PlaceSteps.{see_allowed, link_allowed, link_leaves_linked, enlist_allowed}
use Rattle.publication_list.proofs.PlaceSteps.{enlist_leaves_missed}
use Rattle.publication_list.proofs.place.try_to_link.Goals as goal

pub load-first-requires : goal.load-first-requires
load-first-requires c = let t = c.requires.table in (t.0, omega arith, see_allowed _ _ _ _ _ c.requires.seat)

pub store-requires : goal.store-requires
store-requires c =
    let t = c.requires.table in
    let low = c.requires.seat.0 in (
      c.load-first.ensures.0 ∙ t.0,
      omega arith,
      link_allowed _ _ _ _ (tries_of c.args.seat.now.me.0) _
          (subst (IsRowPlace c.args.row true (tries_of c.args.seat.now.me.0))
          (sym c.load-first.ensures.2) c.requires.seat),
    )

pub compare_exchange-requires : goal.compare_exchange-requires
compare_exchange-requires c = let t = c.requires.table in (
  c.store.ensures.0 ∙ (c.load-first.ensures.0 ∙ t.0),
  omega arith,
  enlist_allowed _ _ _ _ (tries_of c.args.seat.now.me.0) _
      (link_leaves_linked _ _ (tries_of c.args.seat.now.me.0) _ _
      (subst (IsRowPlace c.args.row true (tries_of c.args.seat.now.me.0)) (sym c.load-first.ensures.2) c.requires.seat)
      c.store.ensures.2),
)

pub returns-then-compare_exchange-first-clause-seat : goal.returns-then-compare_exchange-first-clause-seat
returns-then-compare_exchange-first-clause-seat c =
    enlist_leaves_missed _ _ _ (tries_of c.args.seat.now.me.0) _ _ c.requires.seat.0
    (link_leaves_linked _ _ (tries_of c.args.seat.now.me.0) _ _
    (subst (IsRowPlace c.args.row true (tries_of c.args.seat.now.me.0)) (sym c.load-first.ensures.2) c.requires.seat)
    c.store.ensures.2) c.compare_exchange.ensures.2 c.if-compare_exchange-first.true
