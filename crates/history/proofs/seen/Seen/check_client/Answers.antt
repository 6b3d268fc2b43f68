-- `check_client`: the map fits what was seen, or the fault is the first of the map. The checks are made in the
-- order of the faults, so at each exit the map has passed all checks before.
use Rattle.std.proofs.Common.{sym}
use Rattle.history.specs.Maps.{clients}
use Rattle.history.specs.Faults.{last_map}
use Rattle.history.specs.Seen.{IsProcessKept}
use Rattle.history.specs.Views.{client_map}
use Rattle.history.proofs.FirstFaults.{PassesShape, PassesAll, mixed_first, passes_kind, process_first}
use Rattle.history.proofs.FirstFaults.{process_fault_first, process_allows, none_of_all}
use Rattle.history.proofs.seen.Seen.check_client.Goals as goal

pub returns-then-is_of_other_kind-clause-fault : goal.returns-then-is_of_other_kind-clause-fault
returns-then-is_of_other_kind-clause-fault c = λ ds w value seen.
    let m = client_map c.args.m.now w in
    let shape : PassesShape m c.in-Some.function c.in-Some-action_of.action =
    record { known = c.in-Some.is; action = sym (c.in-Some-action_of.ensures w value) } in
    mixed_first ds m c.in-Some.function c.in-Some-action_of.action c.get.result shape
    (rw c.get.ensures (seen.kinds m.object)) c.if-is_of_other_kind.ensures

pub returns-in-Some-process_fault-clause-fault : goal.returns-in-Some-process_fault-clause-fault
returns-in-Some-process_fault-clause-fault c = λ ds w value seen.
    let m = client_map c.args.m.now w in
    let f = c.in-Some.function in
    let a = c.in-Some-action_of.action in
    let doing : IsProcessKept c.get-process.result (last_map m.process (clients ds)) =
    rw c.get-process.ensures (seen.processes m.process) in
    let shape : PassesShape m f a =
    record { known = c.in-Some.is; action = sym (c.in-Some-action_of.ensures w value) } in
    let kind = passes_kind ds m f a c.get.result shape (rw c.get.ensures (seen.kinds m.object))
    c.if-is_of_other_kind.ensures in
    process_first ds m f a c.in-Some-process_fault.kind kind
    (process_fault_first ds m f c.get-process.result c.in-Some-process_fault.kind c.in-Some.is doing
    (seen.closed m.process) c.in-Some-process_fault.ensures)

pub returns-clause-fits : goal.returns-clause-fits
returns-clause-fits c = λ ds w value seen.
    let m = client_map c.args.m.now w in
    let f = c.in-Some.function in
    let a = c.in-Some-action_of.action in
    let doing : IsProcessKept c.get-process.result (last_map m.process (clients ds)) =
    rw c.get-process.ensures (seen.processes m.process) in
    let shape : PassesShape m f a =
    record { known = c.in-Some.is; action = sym (c.in-Some-action_of.ensures w value) } in
    let kind = passes_kind ds m f a c.get.result shape (rw c.get.ensures (seen.kinds m.object))
    c.if-is_of_other_kind.ensures in
    let passes : PassesAll ds m f a =
    record {
      kind = kind;
      process = process_allows (clients ds) m f c.get-process.result c.in-Some.is doing
          (seen.closed m.process) c.in_default-process_fault.ensures;
    } in
    record {
      known = c.in-Some.is;
      action = sym (c.in-Some-action_of.ensures w value);
      none = none_of_all ds m f a passes;
      of_kind = rw c.get.ensures at c.if-is_of_other_kind.ensures;
    }
