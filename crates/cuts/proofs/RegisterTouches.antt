-- The calls of a register do to its cell what their touches say: by cases on the operations.
use Rattle.std.proofs.Common.{arith, rules, ◌≡◌, ℤ, true, false, Option, Some, None, IfSome, ap, sym, ◌∙◌}
use Rattle.model.specs.declared.AnyOp.{AnyOp}
use Rattle.model.specs.declared.AnyReply.{AnyReply}
use Rattle.model.specs.declared.Kind.TheVariants as kind
use Rattle.model.specs.Objects.{Content, register, contains_value, next, kind_of}
use Rattle.cuts.specs.Kinds.Register.{register_touch}
use Rattle.cuts.proofs.Booleans.{false_is_not_true, same_by_test}
use Rattle.cuts.proofs.RegisterCalls.{own_int}
use Rattle.cuts.proofs.Touched.{Did, MayDo, OwnDid}

-- the content of a register
abbrev pub in_register : Content → Option ℤ
in_register (register x) = x
in_register c = None

pub contains_it : (x : Option ℤ) (a : ℤ) → contains_value x a ≡ true → x ≡ Some a
contains_it x a h = grind (arith, same_by_test)

pub contains_other : (x : Option ℤ) (a : ℤ) → contains_value x a ≡ false → x ≡ Some a → ⊥
contains_other x a h e = false_is_not_true (sym h ∙ (ap (λ (z : Option ℤ). contains_value z a) e ∙ own_int a))

abbrev Touches : Option ℤ → AnyOp → Content × AnyReply → Type 0
Touches x op p = Did (register_touch op (Some p.1)) x (in_register p.0)
    × OwnDid (Some (op, p.1)) (register_touch op (Some p.1)) x
    × MayDo (register_touch op None) x (in_register p.0)

pub register_touches : (x : Option ℤ) (op : AnyOp) → IfSome (next (register x) op) (λ p. Touches x op p)
register_touches x op = grind (arith, contains_it, contains_other)

-- only operations of registers do something
pub register_touch_kind : (op : AnyOp) (reply : Option AnyReply)
    → IfSome (register_touch op reply) (λ t. kind_of op ≡ kind.Register)
register_touch_kind op reply = search rules
