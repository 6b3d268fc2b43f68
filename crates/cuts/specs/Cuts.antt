-- Cuts: what names a part of an object's history, and what the part shows of the whole.
use Rattle.std.specs.Prelude.{◌≡◌, ◌≢◌, ℕ, ℤ, Bool, true, false, List, [], ◌∷◌, All, Option}
use Rattle.std.specs.Ordering.{nat_cmp, int_cmp}
use Rattle.std.specs.BTreeSet.{BTreeSet, contains}
use Rattle.model.specs.declared.Kind.{Kind}
use Rattle.model.specs.declared.AnyOp.{AnyOp}
use Rattle.model.specs.declared.AnyReply.{AnyReply}
use Rattle.model.specs.Orders.{Call, HasNoValidOrder}
use Rattle.events.specs.declared.operations.End.TheVariants.{Failed}
use Rattle.events.specs.declared.operations.Operation.{Operation}
use Rattle.events.specs.Operations.{ObjectCalls, calls_of}
use Rattle.cuts.specs.Absent.{IsWithout}
use Rattle.cuts.specs.Cells.{cell_calls, entry_calls}
use Rattle.cuts.specs.Kinds.{kind_at_cell}
use Rattle.cuts.specs.declared.kinds.CellId.TheVariants.{OfKey}
use Rattle.cuts.specs.Parts.{IsClosed, kept_calls, calls_before, IsStart, calls_from}
use Rattle.cuts.specs.declared.keeping.Values.{Values}
use Rattle.cuts.specs.declared.keeping.Values.TheVariants as which
use Rattle.cuts.specs.declared.cutting.Cut.{Cut}
use Rattle.cuts.specs.declared.cutting.Cut.TheVariants.{From, Until, Without, Keep, Cell, Entry}

-- none of these operations failed
abbrev pub NoneFailed : List Operation → Type 0
NoneFailed ops = All (λ o. o.«end» ≢ Failed) ops

-- A part is of the same object, maybe as an object of another kind, and has no failed operations.
-- If no order of its calls is valid for its kind, then none of the whole's is for the whole's.
pub record IsPart (whole part : ObjectCalls) : Type 0 where
  pub object : part.object ≡ whole.object
  pub none_failed : NoneFailed part.ops
  pub shows : HasNoValidOrder part.kind (calls_of part.ops)
      → HasNoValidOrder whole.kind (calls_of whole.ops)

-- whether these are all values, and not a set of some
abbrev pub keeps_all : Values → Bool
keeps_all which.All = true
keeps_all (which.Only values) = false

-- whether this value is one of those that are kept
abbrev pub keeps_value : Values → ℤ → Bool
keeps_value which.All v = true
keeps_value (which.Only values) v = contains int_cmp values v

-- whether this number is in the set
abbrev pub keeps_number : BTreeSet ℕ → ℕ → Bool
keeps_number numbers n = contains nat_cmp numbers n

-- these values, or keys, and the calls with these numbers make a closed part
abbrev pub IsClosedPart : Values → BTreeSet ℕ → List Call → Type 0
IsClosedPart values numbers calls =
    IsClosed (keeps_all values) (keeps_value values) (keeps_number numbers) calls

-- the calls of the suffix that begins with the call of this number
pub record IsSuffix (from : ℕ) (calls part : List Call) : Type 0 where
  pub at : ℕ
  pub first : Option (AnyOp × AnyReply)
  pub start : IsStart calls from at first
  pub named : part ≡ calls_from from at first calls

-- the calls of the part that a cut names
abbrev pub Names : Cut → List Call → List Call → Type 0
Names (From number) calls part = IsSuffix number calls part
Names (Until number) calls part = part ≡ calls_before number calls
Names (Without value before) calls part = IsWithout value before calls part
Names (Keep values numbers) calls part =
    IsClosedPart values numbers calls × (part ≡ kept_calls (keeps_number numbers) calls)
Names (Cell values other numbers) calls part =
    part ≡ cell_calls (keeps_value values) other (keeps_number numbers) calls
Names (Entry key values other numbers) calls part =
    part ≡ entry_calls key (keeps_value values) other (keeps_number numbers) calls

-- the calls of the part that the cuts name, one after another
abbrev pub NamesPart : List Cut → List Call → List Call → Type 0
NamesPart [] calls part = part ≡ calls
NamesPart (cut ∷ cuts) calls part =
    (next : List Call) × Names cut calls next × NamesPart cuts next part

-- the kind of the part that a cut of an object of this kind names
abbrev pub kind_after_cut : Cut → Kind → Kind
kind_after_cut (From number) kind = kind
kind_after_cut (Until number) kind = kind
kind_after_cut (Without value before) kind = kind
kind_after_cut (Keep values numbers) kind = kind
kind_after_cut (Cell values other numbers) kind = kind
kind_after_cut (Entry key values other numbers) kind = kind_at_cell (OfKey key) kind

-- the kind of the part that cuts of an object of this kind name, one after another
abbrev pub kind_after_cuts : List Cut → Kind → Kind
kind_after_cuts [] kind = kind
kind_after_cuts (cut ∷ cuts) kind = kind_after_cuts cuts (kind_after_cut cut kind)
