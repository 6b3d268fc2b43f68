use Rattle.std.proofs.Common.{◌≡◌, ◌∷◌, [], ◌∙◌, ap, subst, sym}
use Rattle.desk_invariant.specs.Views.{end_notice, after_notice}
use Rattle.clients.specs.Made.{HasMetClient, Keeps}
use Rattle.clients.proofs.Meetings.{has_met, keeps_on, keeps_told}
use Rattle.clients.proofs.meeting.meet_and_retire.Goals as goal

pub returns-clause-kept : goal.returns-clause-kept
returns-clause-kept c =
    let own = c.meet_on_all-own.result.0.knows in
    let other = c.meet_on_all-own.result.1.knows in
    let knows : c.tell.new.client.knows ≡ after_notice (end_notice other ∷ []) own = ap (λ k. k.knows) c.tell.ensures
    ∙ ap (λ r. after_notice r.left own) c.retire.ensures in
    subst (Keeps c.args.own.knows) (sym knows)
    (keeps_on c.args.own.knows own (after_notice (end_notice other ∷ []) own) c.meet_on_all-own.ensures.own
    (keeps_told own (end_notice other)))

pub returns-clause-met : goal.returns-clause-met
returns-clause-met c w n desk worked =
    let own = c.meet_on_all-own.result.0.knows in
    let other = c.meet_on_all-own.result.1.knows in
    let knows : c.tell.new.client.knows ≡ after_notice (end_notice other ∷ []) own = ap (λ k. k.knows) c.tell.ensures
    ∙ ap (λ r. after_notice r.left own) c.retire.ensures in
    subst (λ z. HasMetClient w z n) (sym knows)
    (has_met c.args.desk.now w n c.args.other own other worked c.meet_on_all-own.ensures.other desk.kinds
    c.meet_on_all-own.ensures.met c.outstanding.ensures.accounts c.outstanding-2.ensures.accounts)
