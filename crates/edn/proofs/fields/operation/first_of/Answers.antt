use Rattle.std.proofs.Common.{sym}
use Rattle.edn.proofs.Operating.{found_kept, is_found, is_taken}
use Rattle.edn.proofs.fields.operation.first_of.Goals as goal

pub returns-then-not-is_empty : goal.returns-then-not-is_empty
returns-then-not-is_empty c =
    λ before d ts h q. is_found c.args.found.now c.args.key.now c.args.name.now c.if-not-is_empty.ensures before d h

pub returns-then-same_bytes : goal.returns-then-same_bytes
returns-then-same_bytes c =
    is_taken c.args.found.now c.args.value.now c.args.key.now c.args.name.now c.if-not-is_empty.ensures
    c.if-same_bytes.ensures

pub returns : goal.returns
returns c = λ before d ts h q.
    found_kept c.args.found.now c.args.key.now c.args.name.now d before (λ _. sym c.if-same_bytes.ensures) h
