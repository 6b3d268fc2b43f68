use Rattle.std.proofs.Common.{◌<◌, w64, rules}
use Rattle.std.proofs.lemmas.Int.{to_z-of_z}
use Rattle.model.proofs.Lists.{pairs_from_all}
use Rattle.events.specs.Operations.{calls_of}
use Rattle.cuts.proofs.CutOperations.{rising_calls}
use Rattle.cuts.proofs.Naming.{from_one, without_named}
use Rattle.cuts.proofs.cutting.cut_by.Goals as goal

pub returns-in-From-clause-one : goal.returns-in-From-clause-one
returns-in-From-clause-one c =
    let h = c.args.history.now in
    let rising = pairs_from_all (λ x y. x.number < y.number) (calls_of h.ops)
    (rising_calls h.ops c.ops.ensures.kept.rising) in
    from_one c.args.cut.now c.in-From.number (calls_of h.ops) c.suffix_from.result c.in-From.is rising
    c.suffix_from.ensures.calls

pub returns-in-Without-clause-named : goal.returns-in-Without-clause-named
returns-in-Without-clause-named c =
    without_named c.args.cut.now c.in-Without.value _ c.in-Without.before
    (calls_of c.args.history.now.ops) c.part_without.result c.in-Without.is
    (to_z-of_z w64 c.in-Without.value (search rules)) c.part_without.ensures.calls
