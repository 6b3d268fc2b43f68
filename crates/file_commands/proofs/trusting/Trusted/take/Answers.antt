use Rattle.std.proofs.Common.{◌≡◌, ◌++◌, ◌∙◌, ap}
use Rattle.std.specs.Prelude.{unwrap_or}
use Rattle.std.proofs.lemmas.Result.{on_ok_weaker}
use Rattle.history_commands.specs.Merged.{worse}
use Rattle.history_commands.specs.declared.finding.Finding.TheVariants.{Undecided}
use Rattle.file_commands.specs.Trusted.{finding_of, said_line, bytes_read}
use Rattle.file_commands.proofs.TrustedShards.{trusted_push}
use Rattle.file_commands.proofs.trusting.Trusted.take.Goals as goal

pub returns : goal.returns
returns c =
    let b = c.args.self.now in
    let read = bytes_read c.args.read.now in
    let found : c.worse-self.result ≡ worse b.finding (finding_of read) = c.worse-self.ensures
    ∙ ap (worse b.finding) (c.unwrap_or-finding.ensures ∙ ap (λ s. unwrap_or s Undecided) c.said_of-said.ensures) in
    on_ok_weaker c.push_line.result
    (λ lines all h long. trusted_push b _ c.args.shard all read h long found
    (lines ∙ ap (λ s. b.lines.items ++ said_line c.args.shard s) c.said_of-said.ensures)) c.push_line.ensures
