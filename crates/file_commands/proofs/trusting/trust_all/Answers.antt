use Rattle.std.proofs.Common.{◌+◌, ◌++◌, ◌∷◌, ◌∙◌, [], ap, arith, refl, subst, sym}
use Rattle.std.proofs.lemmas.List.{length-append}
use Rattle.file_commands.specs.Trusted.{bytes_read}
use Rattle.file_commands.proofs.Merges.{none_read, read_more}
use Rattle.file_commands.proofs.trusting.trust_all.Goals as goal

pub loop-shard-init : goal.loop-shard-init
loop-shard-init g c = ([], refl, none_read (g.F.StatusFiles.holds c.args.files.now), c.new-trusted.ensures)

pub loop-shard-preserved : goal.loop-shard-preserved
loop-shard-preserved g c =
    let holds = g.F.StatusFiles.holds c.args.files.now in
    let i = c.loop-shard.invariant in
    let read = bytes_read c.in-Ok.read in (
      i.0 ++ read ∷ [],
      length-append i.0 (read ∷ []) ∙ ap (λ n. n + 1) i.1,
      read_more holds i.0 read i.2 (subst (λ n. holds n read) (sym i.1) c.in-Ok.ensures),
      c.in-Ok-take.ensures i.0 i.3 i.1,
    )

pub returns : goal.returns
returns g c =
    let i = c.loop-shard.invariant in
    (i.0, omega (arith, i.1, c.loop-shard-test.false, c.loop-shard.auto.shard-end), i.2, i.3)
