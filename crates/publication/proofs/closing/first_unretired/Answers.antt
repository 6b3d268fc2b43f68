-- `first_unretired`: a client that is given is still there, and None means that all others have ended. The clients
-- before the one at hand have ended, as the last one has learnt; its own number is passed over.
use Rattle.std.proofs.Common.{arith, ◌≡◌, ◌+◌, Bool, if◌then◌else◌, sym, ap, subst, ◌∙◌}
use Rattle.desk_invariant.specs.Views.{after_end_seen, after_end_unset}
use Rattle.publication.specs.Closing.{HaveEnded, HasLearntEnds}
use Rattle.publication.proofs.Endings.{own_number, one_ended, there_still}
use Rattle.publication.proofs.closing.first_unretired.Goals.{else-client-number-via-then-client-number+else-not-sees_end}
use Rattle.publication.proofs.closing.first_unretired.Goals.{else-client-number-via-else-client-number}
use Rattle.publication.proofs.closing.first_unretired.Goals as goal

pub returns-then-not-sees_end-clause-found : goal.returns-then-not-sees_end-clause-found
returns-then-not-sees_end-clause-found g c =
    let so_far = c.loop-client.invariant in
    let low = c.loop-client-test.true in
    let count = c.clients-client-end.ensures in
    there_still c.args.desk.now c.loop-client.client c.args.last.now c.loop-client.last c.sees_end.new.last
    (omega arith)
    (λ e. c.if-client-number.true (e ∙ (ap (λ k. k.knows.number) so_far.2 ∙ sym c.number-number.ensures.number)))
    (c.sees_end.ensures.seen
    ∙ ap (λ (b : Bool). if b then after_end_seen c.loop-client.client c.loop-client.last.knows else after_end_unset
    c.loop-client.client c.loop-client.last.knows) c.if-not-sees_end.true) so_far.1 so_far.2
    (c.sees_end.ensures.untold c.if-not-sees_end.true)

pub loop-client-preserved : goal.loop-client-preserved
loop-client-preserved g c = let so_far = c.loop-client.invariant in elim c.else-client-number.branch [
  | else-client-number-via-then-client-number+else-not-sees_end w ↦
      let e = one_ended c.loop-client.client c.args.last.now c.loop-client.last w.sees_end.new.last
      w.sees_end.ensures.desk w.sees_end.ensures.places
      (w.sees_end.ensures.seen
      ∙ ap (λ (b : Bool). if b then after_end_seen c.loop-client.client c.loop-client.last.knows else after_end_unset
      c.loop-client.client c.loop-client.last.knows) w.if-not-sees_end.false) so_far.1 so_far.2 in
      let is : c.else-client-number.last ≡ w.sees_end.new.last = w.last-is in (
        ap (λ k. k.desk) is ∙ (w.sees_end.ensures.desk ∙ so_far.0),
        subst (HaveEnded (c.loop-client.client + 1)) (sym is) e.0,
        subst (HasLearntEnds c.args.last.now) (sym is) e.1,
      )
  | else-client-number-via-else-client-number w ↦
      let is : c.else-client-number.last ≡ c.loop-client.last = w.last-is in
      let own = own_number c.loop-client.client c.loop-client.last
      (w.if-client-number.false ∙ (c.number-number.ensures.number ∙ ap (λ k. k.knows.number) (sym so_far.2)))
      so_far.1 in (
        ap (λ k. k.desk) is ∙ so_far.0,
        subst (HaveEnded (c.loop-client.client + 1)) (sym is) own,
        subst (HasLearntEnds c.args.last.now) (sym is) so_far.2,
      )
]
