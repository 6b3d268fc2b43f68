use Rattle.std.proofs.Common.{ap, ◌∙◌, subst}
use Rattle.events.specs.Events.{kind_of_object, denoted}
use Rattle.text_check.proofs.Naming.{orders}
use Rattle.verifying.specs.Decisions.{AreDecisionsOn, certificates_decided}
use Rattle.shards.specs.Dividing.{object_named}
use Rattle.history_commands.specs.Merged.{finding_on}
use Rattle.history_commands.proofs.Merged.{answers_claims}
use Rattle.history_commands.proofs.shard_answer.answer_claims.Goals as goal

pub returns : goal.returns
returns c =
    let es = c.args.history.now in
    let claims = c.args.claims.items in
    let ds = c.in_ok-decisions.decisions.items in
    let name = object_named c.args.shard.count c.args.shard.number in
    answers_claims name es claims c.args.steps ds _
    (subst (λ n. AreDecisionsOn es claims n ds) c.from.ensures c.in_ok-decisions.ensures)
    (λ valid. c.named_objects.ensures (kind_of_object es) (denoted es) c.events.ensures.history
    (orders es (certificates_decided ds) valid))
    (c.finding_of.ensures ∙ ap finding_on c.deref.ensures.value) c.new.ensures.items
    c.in_ok-lines_of.ensures c.in_ok-of.ensures
