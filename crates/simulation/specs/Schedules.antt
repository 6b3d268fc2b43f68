-- What the text of a schedule says: a header, and then a step of a client for each further form.
use Rattle.std.specs.Prelude.{◌≡◌, ℕ, ◌-◌, ◌<◌, ◌≤◌, nat_le, ◌&&◌, List, ◌∷◌, Option, Some, None}
use Rattle.std.specs.Prelude.{codes, map, option_map, option_and_then, if◌then◌else◌}
use Rattle.edn_reader.specs.Datum.{Datum, atom, vector, dictionary, Entries}
use Rattle.model.specs.declared.AnyOp.{AnyOp}
use Rattle.seq_objects.specs.Values.{op_with}
use Rattle.edn.specs.Fields.{same_bytes, value_at, natural_in, keyword_in, value_in}
use Rattle.history.specs.Maps.{plain_value}
use Rattle.history.specs.Names.{function_named}
use Rattle.machine.specs.declared.step.Step.{Step}
use Rattle.machine.specs.declared.step.Step.TheVariants.{Draw, Post, Win, Pick, Answer, PutBack}
use Rattle.machine.specs.declared.step.Step.TheVariants.{Take, Release, End}
use Rattle.simulation.specs.declared.header.Header.{Header}
use Rattle.seq_objects.specs.declared.kinds.Kinds.{Kinds}
use Rattle.seq_objects.specs.Kinds.{kinds_named}
use Rattle.desk_model.specs.Limits.{max_objects, max_clients, max_calls}

-- the number, if there is one and it is from low to high
abbrev pub number_within : ℕ → ℕ → Option ℕ → Option ℕ
number_within low high None = None
number_within low high (Some n) = if nat_le low n && nat_le n high then Some n else None

-- the number that a map has for the key, from low to high
abbrev pub number_at : List ℕ → ℕ → ℕ → Entries → Option ℕ
number_at key low high es = number_within low high (natural_in (value_at key es))

-- the number of an object that a map has
abbrev pub object_of_step : Entries → Option ℕ
object_of_step es = number_at (codes "object") 0 (max_objects - 1) es

-- the number of a client that a map has for the key
abbrev pub client_at : List ℕ → Entries → Option ℕ
client_at key es = number_at key 0 (max_clients - 1) es

-- ---- the header

-- the header of these kinds, and of this many objects, clients and calls of each client; `None` if
-- one is absent or malformed
abbrev pub header_with : Option Kinds → Option ℕ → Option ℕ → Option ℕ → Option Header
header_with (Some k) (Some n) (Some c) (Some q) =
    Some (record { kinds = k; objects = n; clients = c; quota = q })
header_with k n c q = None

-- a machine can be made of as many objects, clients and calls as the header says
pub record IsWithin (h : Header) : Type 0 where
  pub objects : (0 < h.objects) × (h.objects ≤ max_objects)
  pub clients : (0 < h.clients) × (h.clients ≤ max_clients)
  pub quota : h.quota ≤ max_calls

-- The header that a form is, if it is one: kinds, and how many objects, clients and calls of each
-- client there are. Other keys are ignored.
abbrev pub header_of : Datum → Option Header
header_of (atom a) = None
header_of (vector ds) = None
header_of (dictionary es) =
    header_with (option_and_then kinds_named (keyword_in (value_at (codes "kind") es)))
    (number_at (codes "objects") 1 max_objects es)
    (number_at (codes "clients") 1 max_clients es)
    (number_at (codes "quota") 0 max_calls es)

-- ---- steps

-- a step of a machine, on an object of any kind
abbrev pub AnyStep : Type 0
AnyStep = Step AnyOp

-- the operation that a function's name and a map's value make
abbrev pub op_named : List ℕ → Entries → Option AnyOp
op_named k es =
    option_and_then (λ f. option_and_then (op_with f)
    (plain_value (value_in (value_at (codes "value") es)))) (function_named k)

-- the draw of a call of this operation on this object; `None` if either is absent or malformed
abbrev pub call_with : Option ℕ → Option AnyOp → Option AnyStep
call_with (Some x) (Some op) = Some (Draw (Some (x, op)))
call_with x op = None

-- The draw of a call has a function and an object, and that of a return has no function.
abbrev pub draw_with : Option Datum → Entries → Option AnyStep
draw_with None es = Some (Draw None)
draw_with (Some d) es =
    call_with (object_of_step es)
    (option_and_then (λ k. op_named k es) (keyword_in (Some d)))

-- the step with this name, and with what the map says under other keys; `None` if there is no such
-- step
abbrev pub step_named : List ℕ → Entries → Option AnyStep
step_named k es =
    if same_bytes k (codes "draw") then draw_with (value_at (codes "f") es) es
    else if same_bytes k (codes "post") then Some Post
    else if same_bytes k (codes "win") then option_map Win (object_of_step es)
    else if same_bytes k (codes "pick") then option_map Pick (client_at (codes "row") es)
    else if same_bytes k (codes "answer") then Some Answer
    else if same_bytes k (codes "put-back") then Some PutBack
    else if same_bytes k (codes "take") then Some Take
    else if same_bytes k (codes "release") then Some Release
    else if same_bytes k (codes "end") then Some End
    else None

-- the step of this client; `None` if either is absent or malformed
abbrev pub step_with : Option ℕ → Option AnyStep → Option (ℕ × AnyStep)
step_with (Some c) (Some s) = Some (c, s)
step_with c s = None

-- the step of a client that a form is, if it is one
abbrev pub step_of : Datum → Option (ℕ × AnyStep)
step_of (atom a) = None
step_of (vector ds) = None
step_of (dictionary es) =
    step_with (client_at (codes "client") es)
    (option_and_then (λ k. step_named k es) (keyword_in (value_at (codes "step") es)))

-- Forms denote a header and steps: the first is the header, and the others are the steps, in order.
pub record Denotes (ds : List Datum) (header : Header) (steps : List (ℕ × AnyStep)) : Type 0 where
  pub first : Datum
  pub rest : List Datum
  pub whole : ds ≡ first ∷ rest
  pub is_header : header_of first ≡ Some header
  pub are_steps : map step_of rest ≡ map (λ s. Some s) steps
