-- The values of an operation map, on a token buffer.
use Rattle.std.specs.Prelude.{◌≡◌, ℕ, List, [], ◌∷◌, ◌++◌, codes}
use Rattle.edn_reader.specs.Datum.{keyword, Datum, atom, dictionary, Entries, entry, entries_of}
use Rattle.edn_reader.specs.Token.{Token, open_map, close_map, leaf, entries_tokens}
use Rattle.edn.specs.Fields.{value_at}
use Rattle.edn.specs.Values.{IsValue}
use Rattle.edn.specs.declared.fields.operation.OperationValues.{OperationValues}

-- each value is at the beginning of its token buffer; what has no value is an empty token buffer
pub record HasValues (v : OperationValues) (es : Entries) : Type 0 where
  pub process : IsValue v.process.now (value_at (codes "process") es)
  pub map_type : IsValue v.map_type.now (value_at (codes "type") es)
  pub function : IsValue v.function.now (value_at (codes "f") es)
  pub object : IsValue v.object.now (value_at (codes "object") es)
  pub value : IsValue v.value.now (value_at (codes "value") es)

-- the form is a map that has these values for its keys
abbrev pub IsMapWith : OperationValues → Datum → Type 0
IsMapWith v d = (es : Entries) × (d ≡ dictionary es) × HasValues v es

-- the entries with these pairs in front
abbrev pub onto : List (List ℕ × Datum) → Entries → Entries
onto [] es = es
onto (p ∷ ps) es = entry p.0 p.1 (onto ps es)

-- the tokens do not begin with a key
abbrev pub NoPair : List Token → Type 0
NoPair ts = (k : List ℕ) (us : List Token) → ts ≡ leaf (atom (keyword k)) ∷ us → ⊥

-- the tokens do not begin with a map
abbrev pub NoMap : List Token → Type 0
NoMap ts = (us : List Token) → ts ≡ open_map ∷ us → ⊥

-- how far the pairs of a map were seen
pub record Walk (es : Entries) (tokens : List Token) (v : OperationValues) : Type 0 where
  pub before : List (List ℕ × Datum)
  pub left : Entries
  pub parts : es ≡ onto before left
  pub goes_on : tokens ≡ entries_tokens left ++ close_map ∷ []
  pub so_far : HasValues v (entries_of before)
