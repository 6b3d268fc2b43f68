-- What the calls of a map do to the cell of a key.
use Rattle.std.specs.Prelude.{ℤ, true, false, Option, Some, None, if◌then◌else◌}
use Rattle.std.specs.Ordering.{int_eq}
use Rattle.model.specs.declared.AnyOp.{AnyOp}
use Rattle.model.specs.declared.AnyOp.TheVariants.{Put, Get, Del, PutIfAbsent, Replace, Assoc}
use Rattle.model.specs.declared.AnyOp.TheVariants.{Dissoc}
use Rattle.model.specs.declared.AnyReply.{AnyReply}
use Rattle.model.specs.declared.AnyReply.TheVariants.{Value, Flag}
use Rattle.cuts.specs.declared.touches.Need.TheVariants.{Any, Is, IsNot}
use Rattle.cuts.specs.declared.touches.Leave.TheVariants.{AsItWas, Content}
use Rattle.cuts.specs.declared.touches.Touch.{Touch}
use Rattle.cuts.specs.Touches.{touch}

-- what is done to the cell of a key by a call on the second key
abbrev pub at_key : ℤ → ℤ → Touch → Option Touch
at_key key k t = if int_eq key k then Some t else None

-- What an operation with this reply did to the cell of the key. With no reply: what it does if it
-- takes effect. One whose condition does not hold leaves the cell as it was.
abbrev pub map_touch : ℤ → AnyOp → Option AnyReply → Option Touch
map_touch key (Put k v) None = at_key key k (touch Any (Content (Some v)))
map_touch key (Put k v) (Some (Value c)) = at_key key k (touch (Is c) (Content (Some v)))
map_touch key (Get k) (Some (Value c)) = at_key key k (touch (Is c) AsItWas)
map_touch key (Del k) None = at_key key k (touch Any (Content None))
map_touch key (Del k) (Some (Value c)) = at_key key k (touch (Is c) (Content None))
map_touch key (PutIfAbsent k v) None = at_key key k (touch (Is None) (Content (Some v)))
map_touch key (PutIfAbsent k v) (Some (Flag true)) =
    at_key key k (touch (Is None) (Content (Some v)))
map_touch key (PutIfAbsent k v) (Some (Flag false)) = at_key key k (touch (IsNot None) AsItWas)
map_touch key (Replace k a b) None = at_key key k (touch (Is (Some a)) (Content (Some b)))
map_touch key (Replace k a b) (Some (Flag true)) =
    at_key key k (touch (Is (Some a)) (Content (Some b)))
map_touch key (Replace k a b) (Some (Flag false)) =
    at_key key k (touch (IsNot (Some a)) AsItWas)
map_touch key (Assoc k v) reply = at_key key k (touch Any (Content (Some v)))
map_touch key (Dissoc k) reply = at_key key k (touch Any (Content None))
map_touch key op reply = None
