-- The calls of a map do to the cell of a key what their touches say: by cases on the operations, and on whether they
-- are on the key.
use Rattle.std.proofs.Common.{arith, rules, ◌≡◌, ℤ, Option, Some, None, IfSome}
use Rattle.std.specs.FinMap as map
use Rattle.model.specs.declared.AnyOp.{AnyOp}
use Rattle.model.specs.declared.AnyReply.{AnyReply}
use Rattle.model.specs.declared.Kind.TheVariants as kind
use Rattle.model.specs.Objects.{Content, table, Table, next, kind_of}
use Rattle.cuts.specs.Kinds.Map.{map_touch}
use Rattle.cuts.proofs.RegisterTouches.{contains_it, contains_other}
use Rattle.cuts.proofs.Tables.{get-insert, get-remove}
use Rattle.std.proofs.lemmas.Int.{ints}
use Rattle.cuts.proofs.Touched.{Did, MayDo, OwnDid}

-- the content of the cell of a key
abbrev pub in_map : ℤ → Content → Option ℤ
in_map key (table m) = map.get m key
in_map key c = None

abbrev Touches : ℤ → Table → AnyOp → Content × AnyReply → Type 0
Touches key m op p = Did (map_touch key op (Some p.1)) (map.get m key) (in_map key p.0)
    × OwnDid None (map_touch key op (Some p.1)) (map.get m key)
    × MayDo (map_touch key op None) (map.get m key) (in_map key p.0)

pub map_touches : (key : ℤ) (m : Table) (op : AnyOp) → IfSome (next (table m) op) (λ p. Touches key m op p)
map_touches key m op = grind (arith, ints, get-insert, get-remove, contains_it, contains_other)

pub map_touch_kind : (key : ℤ) (op : AnyOp) (reply : Option AnyReply)
    → IfSome (map_touch key op reply) (λ t. kind_of op ≡ kind.Map)
map_touch_kind key op reply = search rules
