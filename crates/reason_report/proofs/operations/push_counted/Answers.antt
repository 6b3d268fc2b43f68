use Rattle.std.proofs.Common.{◌≡◌, ◌∙◌, ◌++◌, [], false, codes, subst, sym}
use Rattle.std.specs.Prelude.{if◌then◌else◌}
use Rattle.std.proofs.lemmas.Result.{on_ok_weaker}
use Rattle.reason_report.specs.Operations.{call_text, same_invocation}
use Rattle.reason_report.proofs.SegmentsLeft.{two_pushed}
use Rattle.reason_report.proofs.operations.push_counted.Goals as goal

pub returns : goal.returns
returns c =
    let other : same_invocation c.args.recorded.now c.args.counted.now ≡ false = sym c.is_same.ensures
    ∙ c.if-is_same.false in
    let said = call_text c.args.counted.now in
    on_ok_weaker c.push_call.result (λ k.
    subst (λ b. c.push_call.new.text.items ≡ c.args.text.now.items ++ (if b then [] else codes ", counted as " ++ said))
    (sym other)
    (two_pushed _ (codes ", counted as ") said _ _ c.in_ok-extend_from_slice.ensures.items k)) c.push_call.ensures
