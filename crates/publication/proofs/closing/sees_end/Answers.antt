-- `sees_end`: the last client knows of the end of the client that it found, or that it was not set. The look keeps
-- the rule of the table (`look_at_end_keeps_rule`); the two outcomes are told apart by the word.
use Rattle.std.proofs.Common.{◌≡◌, ◌≢◌, All, arith, refl, sym, ap, subst, eq-eqb, ◌∙◌}
use Rattle.publication.proofs.Dealing.{own_still, same_desk}
use Rattle.publication.specs.Handles.{Known}
use mathlib.Core.Logic.{dite}
use native.Mathlib.Decide.{ℕ_discrete}
use Rattle.desk_invariant.proofs.Ends.{look_at_end_keeps_rule}
use Rattle.publication.proofs.Endings.{either_view, watching_ok}
use Rattle.publication.proofs.closing.sees_end.Goals as goal

pub load-requires : goal.load-requires
load-requires g c =
    let desk = c.desk.invariant.0 in
    let wide = desk.0 in
    let few = desk.6 in
    let low = c.requires.client in
    let count = ap (λ s. s.clients) c.desk.view_is in (
      ap (λ k. k.desk.table) c.last.view_is
          ∙ (ap (λ s. s.table) c.requires.desk ∙ sym (ap (λ s. s.id.table) c.desk.view_is)),
      omega arith,
      look_at_end_keeps_rule _ _ _ _ _ _ _ _ _ _ c.last.invariant.0.agrees.client_is (omega arith),
    )

pub invariant_of-last : goal.invariant_of-last
invariant_of-last g c = let t = c.load.ensures.2 c.args.client refl in
    let lists : c.load.new.seat.me.0.lists ≡ c.last.inside.seat.me.0.lists =
    dite (ℕ_discrete c.load.result 1) (λ e. ap (λ m. m.0.lists) (t.0 e)) (λ n. ap (λ m. m.0.lists) (t.1 n).0) in (
      watching_ok _ _ _ _ _ _ _ c.load.result c.args.client _ _ c.last.invariant.0 t.0 (λ n. (t.1 n).0),
      own_still _ _ _ _ lists c.last.invariant.1,
    )

pub returns-clause-seen : goal.returns-clause-seen
returns-clause-seen g c = let t = c.load.ensures.2 c.args.client refl in
    either_view c.load.result c.args.client c.last.inside.seat.me.0 c.args.last.now.knows c.load.new.seat.me.0
    (ap (λ k. k.knows) c.last.view_is) (λ e. ap (λ m. m.0) (t.0 e)) (λ n. ap (λ m. m.0) (t.1 n).0)

pub returns-clause-desk : goal.returns-clause-desk
returns-clause-desk g c = let t = c.load.ensures.2 c.args.client refl in
    same_desk c.load.ensures.0 refl
    (dite (ℕ_discrete c.load.result 1) (λ e. ap (λ m. m.0.kinds) (t.0 e)) (λ n. ap (λ m. m.0.kinds) (t.1 n).0)) refl
    (ap (λ k. k.desk) c.last.view_is)

pub returns-clause-untold : goal.returns-clause-untold
returns-clause-untold g c = let t = c.load.ensures.2 c.args.client refl in
    λ f. subst (λ (k : Known). All (λ l. l.client ≢ c.args.client) k.knows.left) c.last.view_is
    (t.1 (λ e. let z = sym f ∙ eq-eqb c.load.result 1 e in absurd (cc))).1
