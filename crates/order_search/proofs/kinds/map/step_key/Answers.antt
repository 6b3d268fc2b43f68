use Rattle.std.proofs.Common.{rules, ◌≡◌, ◌∙◌, to_z, of_z, w64}
use Rattle.order_search.proofs.Keys.{read_step, reply_step, same_step}
use Rattle.order_search.proofs.kinds.map.step_key.Goals as goal

pub returns : goal.returns
returns c =
    let key : c.args.key ≡ to_z w64 (of_z w64 c.args.key) = search rules in
    same_step _ _ _ _ _ c.new.ensures (reply_step _ _ _ _ _ _ c.any_reply-any_reply.ensures
    (read_step _ _ _ _ _ _ _ _ (c.requires ∙ key) c.in_ok-apply.ensures.ok c.value_of-before.ensures
    c.in_ok-reply.ensures.ok))
