-- What the usual reader finds at the front of a text.
use Rattle.std.specs.Prelude.{◌≡◌, ℕ, List, [], ◌∷◌, ◌++◌, Some, codes}
use Rattle.std.specs.Str.{IsUtf8}
use Rattle.edn_reader.specs.Datum.{Atom, Datum, atom, Entries, Lacks, DatumFits, EntriesFit}
use Rattle.edn_reader.specs.Elements.{SpellsFront}
use Rattle.edn_reader.specs.Sound.{BeginWith}
use Rattle.edn_reader.specs.Token.{close_map, leaf, tokens_of, entries_tokens}
use Rattle.edn.specs.Fields.{value_at}
use Rattle.seq_objects.specs.declared.value.Value.{Value}
use Rattle.history.specs.Maps.{object_at, plain_value}
use Rattle.history.specs.Views.{Says}
use Rattle.history.specs.declared.client_map.MapType.{MapType}
use Rattle.history.specs.declared.client_map.MapType.TheVariants.{Invoke, Ok, Fail, Info}
use Rattle.history.specs.declared.client_map.ClientMap.{ClientMap}
use Rattle.history.specs.declared.client_map.OperationMap.{OperationMap}
use Rattle.history.specs.declared.client_map.OperationMap.TheVariants.{OfClient}

-- The text begins with one form, this is what the form says, and this rest follows it.
pub record ReadsForm (text : List ℕ) (said : OperationMap) (rest : List ℕ) : Type 0 where
  pub form : Datum
  pub front : SpellsFront text (form ∷ []) rest
  pub utf8 : IsUtf8 rest
  pub says : Says said form

-- The text begins with the map of a client, this is what the map says, and this rest follows it.
abbrev pub ReadsUsual : List ℕ → ClientMap → List ℕ → Type 0
ReadsUsual text map rest = ReadsForm text (OfClient map) rest

-- ---- the parts of a map. No public clause speaks of them.

-- the keyword after `:type`
abbrev pub type_name : MapType → List ℕ
type_name Invoke = codes "invoke"
type_name Ok = codes "ok"
type_name Fail = codes "fail"
type_name Info = codes "info"

-- The text begins with a form that is this argument or reply, and this rest follows it.
pub record ReadsValue (text : List ℕ) (value : Value) (rest : List ℕ) : Type 0 where
  pub form : Datum
  pub plain : plain_value form ≡ Some value
  pub fits : DatumFits 15 form
  pub begins : BeginWith (tokens_of form) text rest

-- none of these keys is among the pairs
abbrev pub LackEach : List (List ℕ) → Entries → Type 0
LackEach [] es = Unit {0}
LackEach (k ∷ ks) es = Lacks k es × LackEach ks es

-- the keys of an operation: :process, :type, :f and :value
abbrev pub operation_keys : List (List ℕ)
operation_keys = codes "process" ∷ codes "type" ∷ codes "f" ∷ codes "value" ∷ []

-- the keys of an operation, and :object
abbrev pub keys_to_object : List (List ℕ)
keys_to_object = codes "object" ∷ operation_keys

-- the keys of an operation, :object and :time
abbrev pub keys_to_time : List (List ℕ)
keys_to_time = codes "time" ∷ keys_to_object

-- the keys of an operation, :object, :time and :index
abbrev pub keys_to_index : List (List ℕ)
keys_to_index = codes "index" ∷ keys_to_time

-- the key is none of these
abbrev pub IsNoneOf : List ℕ → List (List ℕ) → Type 0
IsNoneOf k [] = Unit {0}
IsNoneOf k (l ∷ ls) = (l ≡ k → ⊥) × IsNoneOf k ls

-- The text begins with what has no elements, and this rest follows it.
abbrev pub ReadsAtom : List ℕ → List ℕ → Type 0
ReadsAtom text rest = (a : Atom) × BeginWith (leaf (atom a) ∷ []) text rest

-- The text begins with pairs of other keys than these and the brace after them. The pairs name this
-- object, and this rest follows.
pub record ReadsLast (keys : List (List ℕ)) (text : List ℕ) (object : ℕ) (rest : List ℕ) : Type 0
  where
    pub pairs : Entries
    pub lack : LackEach keys pairs
    pub object_is : object_at (value_at (codes "object") pairs) ≡ Some object
    pub fits : EntriesFit 15 pairs
    pub begins : BeginWith (entries_tokens pairs ++ close_map ∷ []) text rest
