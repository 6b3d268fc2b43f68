use Rattle.std.proofs.Common.{◌≡◌, to_z, of_z, w64, arith, rules}
use Rattle.std.proofs.lemmas.Int.{ints}
use Rattle.edn_reader.proofs.UsualFronts.{head_is}
use Rattle.certificate.proofs.UsualForms.{next_number, order_ends}
use Rattle.certificate.proofs.usual.order_after.Goals as goal

pub returns-in-93 : goal.returns-in-93
returns-in-93 c =
    order_ends c.numbers.order.items c.args.text.now c.numbers.rest.now c.after_space-here.result.now _
    c.numbers.invariant
    c.after_space-here.ensures (head_is c.after_space-here.result.now 93 (omega arith) (search rules))

pub numbers-preserved : goal.numbers-preserved
numbers-preserved c =
    let more = next_number c.numbers.order.items c.in_ok-number.number c.args.text.now c.numbers.rest.now
    c.after_space-here.result.now c.in_ok-number.tail.now
    c.numbers.invariant c.after_space-here.ensures c.in_ok-number.ensures in
    let same : to_z w64 (of_z w64 c.in_ok-number.number) ≡ c.in_ok-number.number = omega (arith, ints) in
    rw (c.in-Ok.ensures, same) more
