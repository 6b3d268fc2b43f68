-- What an operation of a map tells of the key that it changes.
use Rattle.std.specs.Prelude.{ℤ, Option, None}
use Rattle.model.specs.declared.AnyReply.{AnyReply}
use Rattle.model.specs.declared.AnyReply.TheVariants.{Value}
use Rattle.seq_objects.specs.declared.map_object.MapOp.{MapOp}
use Rattle.seq_objects.specs.declared.map_object.MapOp.TheVariants.{Put, Get, Del, PutIfAbsent}
use Rattle.seq_objects.specs.declared.map_object.MapOp.TheVariants.{Replace, Assoc, Dissoc}

-- the value of a reply, if it is one
abbrev pub value_of_reply : AnyReply → Option ℤ
value_of_reply (Value v) = v
value_of_reply reply = None

-- the key of an operation of a map
abbrev pub map_key : MapOp → ℤ
map_key (Put k v) = k
map_key (Get k) = k
map_key (Del k) = k
map_key (PutIfAbsent k v) = k
map_key (Replace k a b) = k
map_key (Assoc k v) = k
map_key (Dissoc k) = k
