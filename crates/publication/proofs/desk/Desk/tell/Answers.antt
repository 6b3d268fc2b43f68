use Rattle.std.proofs.Common.{arith, sym, ap, subst, ◌∙◌}
use Rattle.desk_invariant.proofs.Notices.{notice_keeps_rule}
use Rattle.publication.proofs.Dealing.{own_still}
use Rattle.publication.specs.Handles.{IsClient}
use Rattle.publication.proofs.desk.Desk.tell.Goals as goal

pub join_seat-requires : goal.join_seat-requires
join_seat-requires g c =
    let wide = c.self.invariant.0.0 in
    let table = sym (ap (λ s. s.id.table) c.self.view_is) in (
      ap (λ k. k.desk.table) c.client.view_is ∙ (ap (λ s. s.table) c.requires.client ∙ table),
      ap (λ r. r.table) c.retired.view_is ∙ (c.requires.retired ∙ table),
      c.retired.invariant,
      omega arith,
      notice_keeps_rule _ _ _ _ _ _ _ _ _ _,
    )

pub invariant_of-client : goal.invariant_of-client
invariant_of-client g c = let k = c.client.invariant.0 in (
  subst (IsClient g.S.SeqObject.op_in g.S.SeqObject.reply_in _ _ _ _ c.client.inside.member.journal)
      (sym c.join_seat.ensures.2)
      record { agrees = assumption k.agrees; free = k.free; in_hand = k.in_hand },
  own_still _ _ _ _ (ap (λ m. m.0.lists) c.join_seat.ensures.2) c.client.invariant.1,
)
