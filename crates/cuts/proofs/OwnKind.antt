-- An operation is possible only at an object of its kind, and leaves one of that kind: by cases of the kinds.
use Rattle.std.proofs.Common.{rules, ◌≡◌, IfSome}
use Rattle.model.specs.declared.AnyOp.{AnyOp}
use Rattle.model.specs.declared.AnyReply.{AnyReply}
use Rattle.model.specs.Objects.{Content, next, kind_of, kind_with}

-- the operation and what it leaves have the kind of this content
abbrev Same : Content → AnyOp → Content × AnyReply → Type 0
Same c op p = (kind_of op ≡ kind_with c) × (kind_with p.0 ≡ kind_with c)

pub same_kind : (c : Content) (op : AnyOp) → IfSome (next c op) (λ p. Same c op p)
same_kind c op = search rules
