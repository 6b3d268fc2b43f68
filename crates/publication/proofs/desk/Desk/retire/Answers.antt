-- `retire`: the client has ended, and its journal is told of in its notice. The client is at rest and its journal
-- is the one that it knows, so the end and its message keep the rules of the desk.
use Rattle.std.proofs.Common.{rules, arith, map, ◌∷◌, [], sym, ap, subst, ◌∙◌}
use Rattle.desk_model.specs.Images.{event_in}
use Rattle.desk_invariant.specs.declared.board.DeskView.{DeskView}
use Rattle.desk_invariant.specs.Views.{journal, end_notice, after_end, IsAtRest}
use Rattle.desk_invariant.proofs.Ends.{end_keeps_rule}
use Rattle.desk_invariant.proofs.Notices.{end_message_keeps_rule}
use Rattle.publication.proofs.desk.Desk.retire.Goals as goal

pub store-requires : goal.store-requires
store-requires g c =
    let desk = c.self.invariant.0 in
    let wide = desk.0 in
    let client = c.client.invariant.0 in
    let low = client.agrees.number_low in
    let exchanged = c.exchange.ensures in
    let turned = c.turn.ensures in
    let same = ap (λ m. m.0) exchanged.3 ∙ ap (λ m. m.0) turned.2 in
    let calm = subst (λ (v : DeskView). IsAtRest v.own) (sym same) client.agrees.at_rest in (
      exchanged.0 ∙ (turned.0 ∙ (ap (λ k. k.desk.table) c.client.view_is
          ∙ (ap (λ s. s.table) c.requires ∙ sym (ap (λ s. s.id.table) c.self.view_is)))),
      omega arith,
      end_keeps_rule _ _ _ _ _ _ _ _ _ _ c.into_journal-journal.result _
          (ap (λ v. v.role) same ∙ client.agrees.client_is)
          (ap (λ v. v.number) same ∙ client.agrees.number_is) calm (ap (λ v. v.held) same ∙ client.free)
          (ap (λ j. map (event_in g.S.SeqObject.op_in g.S.SeqObject.reply_in) j.events.items)
          c.into_journal-journal.ensures ∙ (client.agrees.journal_is ∙ sym (ap journal same)))
          (ap (λ m. m.1) exchanged.3),
    )

pub split_seat-requires : goal.split_seat-requires
split_seat-requires g c =
    let desk = c.self.invariant.0 in
    let wide = desk.0 in
    let client = c.client.invariant.0 in
    let same = ap (λ m. m.0) c.store.ensures.2 ∙ ap (λ m. after_end m.0) c.exchange.ensures.3
    ∙ ap (λ m. after_end m.0) c.turn.ensures.2 in (
      search rules,
      omega arith,
      end_message_keeps_rule _ _ _ _ _ _ _ _ (ap (λ v. v.role) same ∙ client.agrees.client_is) (ap (λ v. v.ended) same),
    )

pub returns : goal.returns
returns g c =
    let client = c.client.invariant.0 in
    let split = c.split_seat.ensures in
    let same = ap (λ m. m.0) c.store.ensures.2 ∙ ap (λ m. after_end m.0) c.exchange.ensures.3
    ∙ ap (λ m. after_end m.0) c.turn.ensures.2 in
    let table = split.3 ∙ (c.store.ensures.0
    ∙ (c.exchange.ensures.0 ∙ (c.turn.ensures.0 ∙ ap (λ k. k.desk.table) c.client.view_is))) in
    let left = ap (λ m. m.0.left) split.4
    ∙ (ap (λ v. end_notice v ∷ []) same ∙ ap (λ k. end_notice k.knows ∷ []) c.client.view_is) in
    λ i. record { table = table i; left = left i }
