use Rattle.std.proofs.Common.{length, ap, ◌∙◌, arith}
use Rattle.edn_reader.specs.Reading.{skip}
use Rattle.edn_reader.proofs.Lexical.{skip_within}
use Rattle.edn_reader.proofs.elements.Elements.place.Goals as goal

pub overflow_sub-result : goal.overflow_sub-result
overflow_sub-result c =
    omega (
      arith,
      skip_within c.as_bytes.result.now,
      ap length c.skip.ensures,
      ap length c.as_bytes.ensures.value,
      c.args.self.now.within,
    )

pub returns-clause-place : goal.returns-clause-place
returns-clause-place c =
    let s = c.skip.ensures ∙ ap skip c.as_bytes.ensures.value in
    omega (arith, skip_within c.args.self.now.rest.now, ap length s, c.args.self.now.within)
