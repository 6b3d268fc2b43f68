use Rattle.std.proofs.Common.{ℤ, count_by, ap, ◌∙◌, w64}
use Rattle.std.proofs.lemmas.Int.{to_z-of_z}
use Rattle.cuts.specs.CutOperations.{op_is_put_before, op_is_taken_before}
use Rattle.cuts.proofs.AbsentValues.{absent_from, absent_to}
use Rattle.cuts.proofs.absent.is_absent.Goals as goal

pub returns-clause-yes : goal.returns-clause-yes
returns-clause-yes c e =
    let os = c.args.operations.now in
    let same = to_z-of_z w64 c.args.value c.ranges.value in
    let put = c.put_count.ensures
    ∙ ap (λ (z : ℤ). count_by (λ o. op_is_put_before z c.args.before o.number o.op o.«end») os) same in
    let taken = c.taken_count.ensures
    ∙ ap (λ (z : ℤ). count_by (λ o. op_is_taken_before z c.args.before o.op o.«end») os) same in
    absent_from c.args.value c.args.before os c.put_count.result c.taken_count.result put taken e

pub returns-clause-no : goal.returns-clause-no
returns-clause-no c absent =
    let os = c.args.operations.now in
    let same = to_z-of_z w64 c.args.value c.ranges.value in
    let put = c.put_count.ensures
    ∙ ap (λ (z : ℤ). count_by (λ o. op_is_put_before z c.args.before o.number o.op o.«end») os) same in
    let taken = c.taken_count.ensures
    ∙ ap (λ (z : ℤ). count_by (λ o. op_is_taken_before z c.args.before o.op o.«end») os) same in
    absent_to c.args.value c.args.before os c.put_count.result c.taken_count.result put taken absent
