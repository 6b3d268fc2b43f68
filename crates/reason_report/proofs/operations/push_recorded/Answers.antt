use Rattle.std.proofs.Common.{◌≡◌, ◌++◌, subst}
use Rattle.std.specs.Prelude.{OnOk}
use Rattle.reason_report.specs.Operations.{said_text}
use Rattle.reason_report.proofs.operations.push_recorded.Goals as goal

pub returns : goal.returns
returns c =
    subst (λ told. OnOk c.push_said.result
    (c.push_said.new.text.items ≡ c.args.text.now.items ++ said_text told c.args.operation.now))
    c.operation_in-recorded.ensures c.push_said.ensures
