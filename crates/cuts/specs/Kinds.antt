-- What parts need to know of the kinds. No definition outside of these files names a kind or an
-- operation. Each kind that has cells has a file of its own, which says what its calls do to a
-- cell, and this file lists them.
use Rattle.std.specs.Prelude.{Bool, true, false, Option, Some, None}
use Rattle.model.specs.declared.Kind.{Kind}
use Rattle.model.specs.declared.Kind.TheVariants as kind
use Rattle.model.specs.declared.AnyOp.{AnyOp}
use Rattle.model.specs.declared.AnyReply.{AnyReply}
use Rattle.cuts.specs.declared.touches.Touch.{Touch}
use Rattle.cuts.specs.declared.kinds.CellId.{CellId}
use Rattle.cuts.specs.declared.kinds.CellId.TheVariants.{OfRegister, OfKey}
use Rattle.cuts.specs.Kinds.Register.{register_touch}
use Rattle.cuts.specs.Kinds.Map.{map_touch}
pub mod Register
pub mod Map
pub mod Containers
pub mod Keeping
pub mod Starts
pub mod Counting

-- whether a part keeps "no value" of the cell: of a register it does, of a key of a map it does not
abbrev pub keeps_none : CellId → Bool
keeps_none OfRegister = true
keeps_none (OfKey key) = false

-- the kind of an object that has a cell at this place
abbrev pub kind_with_cell : CellId → Kind
kind_with_cell OfRegister = kind.Register
kind_with_cell (OfKey key) = kind.Map

-- the kind of a part of an object of this kind
abbrev pub kind_at_cell : CellId → Kind → Kind
kind_at_cell OfRegister k = k
kind_at_cell (OfKey key) k = kind.Register

-- the call itself, if the cell is a register; none if it is a key of a map
abbrev pub own_call : CellId → AnyOp → AnyReply → Option (AnyOp × AnyReply)
own_call OfRegister op reply = Some (op, reply)
own_call (OfKey key) op reply = None

-- what an operation with this reply did to the cell, or does with no reply, if it takes effect
abbrev pub touch_at : CellId → AnyOp → Option AnyReply → Option Touch
touch_at OfRegister op reply = register_touch op reply
touch_at (OfKey key) op reply = map_touch key op reply
