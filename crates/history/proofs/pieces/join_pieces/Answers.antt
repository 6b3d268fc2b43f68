-- `join_pieces`: the history is the one that the pieces, joined by line feeds, denote. The seams hold the forms of
-- the pieces so far, and those that are left make the rest of the text.
use Rattle.std.proofs.Common.{◌∷◌, ap, sym, ◌∙◌, subst, arith}
use Rattle.std.proofs.lemmas.List.{nil_from_length}
use Rattle.history.specs.Pieces.{joined_by_feeds, AreReadFrom}
use Rattle.history.proofs.PiecesJoined.{nothing_joined, join_more, all_joined}
use Rattle.history.proofs.pieces.join_pieces.Goals as goal

pub loop-read-init : goal.loop-read-init
loop-read-init c = λ pieces are. nothing_joined pieces c.new-seams.result _ are c.new-seams.ensures

pub loop-read-preserved : goal.loop-read-preserved
loop-read-preserved c = λ pieces are.
    join_more (joined_by_feeds pieces) c.loop-read.seams c.in_ok-seams.seams c.in_ok-read.field-0
    c.loop-read.read-iterator.rest.items c.next.new.self.rest.items
    (c.loop-read.invariant pieces are) (c.in-Some.ensures.steps.0
    ∙ ap (λ o. o ∷ c.next.new.self.rest.items) c.in_ok-read.was) (λ ds es h p. c.in_ok-seams.ensures ds es h p)

pub into_history-requires : goal.into_history-requires
into_history-requires c =
    let r = c.requires in
    let ok = c.loop-read.read-iterator.rest.ok in
    let none = c.in-None.ensures.steps.0 in
    let all = all_joined (joined_by_feeds r.0) c.loop-read.seams c.loop-read.read-iterator.rest.items
    (nil_from_length _ (omega (arith, ok, none)))
    (c.loop-read.invariant r.0 (subst (AreReadFrom r.0)
    (sym c.into_iter-read-iterator.ensures.into_iter_gives.0) r.1)) in
    (all.0, all.1)

pub returns : goal.returns
returns c = λ pieces are.
    let ok = c.loop-read.read-iterator.rest.ok in
    let none = c.in-None.ensures.steps.0 in
    let all = all_joined (joined_by_feeds pieces) c.loop-read.seams c.loop-read.read-iterator.rest.items
    (nil_from_length _ (omega (arith, ok, none)))
    (c.loop-read.invariant pieces (subst (AreReadFrom pieces)
    (sym c.into_iter-read-iterator.ensures.into_iter_gives.0) are)) in
    (all.0, all.2, c.into_history.ensures all.0 all.1)
