use Rattle.std.proofs.Common.{arith, ap, ◌∙◌}
use Rattle.publication.specs.Handles.{trying}
use Rattle.publication.proofs.Dealing.{tried}
use Rattle.publication.proofs.client.Places.enlist.Goals as goal

pub returns : goal.returns
returns c =
    let low = c.requires in
    let long = c.self.invariant in
    tried c.self.inside.all.items c.args.object c.index_mut.result.now c.enlist.new.self c.enlist.result
    (omega arith) c.index_mut.ensures.value
    c.enlist.ensures ∙ ap (trying c.args.object c.enlist.result) c.self.view_is
