use Rattle.std.proofs.Common.{subst}
use Rattle.publication.specs.Making.{IsLaid}
use Rattle.publication.proofs.NewClients.{opens_on}
use Rattle.publication.proofs.new_desk.new_table.Goals as goal

pub new-requires : goal.new-requires
new-requires g c = opens_on g.S.SeqObject.content g.S.SeqObject.op_in g.S.SeqObject.reply_in c.args.plan.now
    c.args.objects.items
    c.in_ok-slots.slots.items c.requires.plan.1 c.requires.plan.0 c.requires.objects
    (subst (λ ls. IsLaid c.args.objects.items ls c.in_ok-slots.slots.items) c.requires.lists.1 c.in_ok-slots.ensures)
