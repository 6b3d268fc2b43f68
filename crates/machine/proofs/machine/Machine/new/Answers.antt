-- `new`: the machine is one at its start, whose objects are empty and whose clients are idle. Its parts are lists
-- of equal values, and `made_start` says that they make the state at the start.
use Rattle.std.proofs.Common.{◌≡◌, ℕ, length, map, sym, ◌∙◌, ap, subst, arith, rules}
use Rattle.std.proofs.lemmas.List.{length-map}
use Rattle.model.specs.Objects.{kind_with}
use Rattle.machine.specs.Machines.{IsMachine, world_of}
use Rattle.machine.proofs.Starting.{start_state, world-start, machine_start, made_start, empties_at}
use Rattle.machine.proofs.machine.Machine.new.Goals as goal

pub invariant_of-result : goal.invariant_of-result
invariant_of-result g c =
    let contents = map g.S.SeqObject.content c.args.objects.items in
    let mapped : length contents ≡ length c.args.objects.items = simp length-map in
    let counted : c.len-count.result ≡ length c.args.objects.items = search rules in
    let long : length contents ≡ c.len-count.result = mapped ∙ sym counted in
    let few = c.requires.objects.1 in
    subst (IsMachine contents) (sym
    (made_start _ _ _ c.args.objects.items c.len-count.result c.args.clients c.args.quota c.in_ok-logs.ensures
    c.in_ok-holders.ensures c.in_ok-hands.ensures c.in_ok-stages.ensures c.in_ok-journals.ensures
    c.in_ok-ended.ensures))
    (subst (λ (n : ℕ). IsMachine contents (start_state (map kind_with contents) n c.args.clients c.args.quota)) long
    (machine_start contents c.args.clients c.args.quota (omega arith) c.requires.clients.1 c.requires.quota
    (empties_at g.S.SeqObject.content c.args.objects.items c.requires.objects.2)))

pub returns-clause-start : goal.returns-clause-start
returns-clause-start g c = ap world_of
    (made_start g.S.SeqObject.content g.S.SeqObject.op_in g.S.SeqObject.reply_in c.args.objects.items
    c.len-count.result c.args.clients c.args.quota c.in_ok-logs.ensures c.in_ok-holders.ensures
    c.in_ok-hands.ensures c.in_ok-stages.ensures c.in_ok-journals.ensures c.in_ok-ended.ensures)
    ∙ world-start (map kind_with (map g.S.SeqObject.content c.args.objects.items)) c.len-count.result c.args.clients
    c.args.quota
