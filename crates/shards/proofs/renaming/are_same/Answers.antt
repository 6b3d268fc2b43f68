use Rattle.std.proofs.Common.{◌≡◌, Bool, true, false, not, refl, sym, ◌∙◌, rules}
use Rattle.history.specs.contracts.client_map.MapType.{the_type}
use Rattle.shards.proofs.RenamedTexts.{same_map, values_in_same, functions_in_same}
use Rattle.shards.proofs.renaming.are_same.Goals as goal
use denote.Enum.Bare.{same_true}

true_if_not : (x : Bool) → not x ≡ false → x ≡ true
true_if_not true q = refl
true_if_not false q = absurd (cc q)

pub returns : goal.returns
returns c = λ q.
    let a = c.args.a.now in
    let b = c.args.b.now in
    same_map a b c.if-a-b.false c.if-a-b-2.false
    (same_true the_type (search rules) a.map_type b.map_type (true_if_not _ (sym c.ne.ensures ∙ c.if-ne.false)))
    (functions_in_same a.function b.function (true_if_not _ (sym c.ne-2.ensures ∙ c.if-ne-2.false)))
    (values_in_same a.value b.value (sym c.eq.ensures ∙ q))
