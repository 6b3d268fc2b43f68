-- The forms of lines are a history's maps, and none of them is faulty: each key is read back as what was written
-- (`client_is`), and a line that follows says its action (`action_is`).
use Rattle.std.proofs.Common.{◌≡◌, ℕ, ◌≤◌, cond, Option, Some, None, refl, ap, arith}
use Rattle.std.proofs.lemmas.Bool.{le-leb}
use Rattle.model.specs.declared.AnyOp.{AnyOp}
use Rattle.seq_objects.specs.declared.value.Value.{Value}
use Rattle.seq_objects.specs.Functions.{name_of}
use Rattle.seq_objects.specs.Values.{function_in, op_with, op_value}
use Rattle.events.specs.declared.event.Action.{Action}
use Rattle.events.specs.declared.event.Action.TheVariants.{Invoke, Ok, Fail, Info}
use Rattle.edn.specs.Fields.{max_object}
use Rattle.history.specs.Maps.{ClientMap, MapType, invoke, ok, fail, info, client_of, short_in, type_named, plain_value}
use Rattle.history.specs.Names.{function_named}
use Rattle.history.specs.Denotes.{action_of}
use Rattle.history.proofs.Naming.{named_is}
use Rattle.transcript.specs.declared.line.Line.{Line}
use Rattle.transcript.specs.Lines.{type_of, map_value, value_form, form_of}
use Rattle.transcript.proofs.ClientLines.{Follows}

abbrev pub type_map : Action → MapType
type_map (Invoke o) = invoke
type_map (Ok r) = ok
type_map Fail = fail
type_map Info = info

-- the map that a line is
abbrev pub map_of : Line → ClientMap
map_of l = record {
  process = l.event.process;
  type = type_map l.event.action;
  function = Some (function_in l.op);
  object = l.event.object;
  value = value_form (map_value l.op l.event.action);
}

type_is : (a : Action) → type_named (type_of a) ≡ Some (type_map a)
type_is a = grind arith

object_is : (x : ℕ) → x ≤ max_object → short_in (Some x) ≡ Some x
object_is x low = ap (λ b. cond b (Some x) None) (le-leb x 4294967295 (omega (arith, low)))

pub client_is : (l : Line) → l.event.object ≤ max_object → client_of (form_of l) ≡ Some (map_of l)
client_is l low =
    let name : Some (function_in l.op) ≡ function_named (name_of (function_in l.op)) =
    named_is (Some (function_in l.op)) (name_of (function_in l.op)) refl tt in
    cc (type_is l.event.action, object_is l.event.object low)

value_back : (v : Value) → plain_value (value_form v) ≡ Some v
value_back v = grind arith

op_back : (o : AnyOp) → op_with (function_in o) (op_value o) ≡ Some o
op_back o = grind arith

-- a line that follows says its action
pub action_is : (l : Line) (last : Option Line) → Follows last l
    → action_of (map_of l).type (map_of l) ≡ Some l.event.action
action_is l last h = grind (arith, value_back, op_back)
