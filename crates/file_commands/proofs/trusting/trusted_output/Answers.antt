use Rattle.std.proofs.Common.{◌≡◌, ℕ, List, Option, length, subst}
use Rattle.std.specs.Prelude.{IfSome}
use Rattle.std.proofs.lemmas.Result.{IfOk-weaker}
use Rattle.file_commands.specs.Trusted.{AreTrusted, AreStatusesRead}
use Rattle.file_commands.proofs.trusting.trusted_output.Goals as goal

pub returns-in-Some : goal.returns-in-Some
returns-in-Some g c =
    let all = subst (λ made. IfSome made (λ b. (all : List (Option (List ℕ))) × (length all ≡ c.args.shards)
    × AreStatusesRead (g.F.StatusFiles.holds c.args.files.now) all × AreTrusted b all))
    c.in-Some.is c.in_ok-trusted.ensures in
    IfOk-weaker c.output.result _ _ (λ o k. (all.0, all.1, all.2, k)) (c.output.ensures all.0 all.3)
