-- The lines of a record have integers and names that a text can have (`form_in_profile`), one line at a time
-- (`profiles_more`): tickets and clients are below 2^63, and names are those of functions.
use Rattle.std.proofs.Common.{◌≡◌, ℕ, ◌+◌, ◌<◌, ◌≤◌, ◌^◌, ◌==◌, true, List, [], length, map, get_or, take, All, refl}
use Rattle.std.proofs.Common.{ap, subst, inl, inr, arith, eq-eqb}
use Rattle.std.proofs.lemmas.Bool.{cases_lt}
use Rattle.std.proofs.lemmas.List.{get_or_past, take_all}
use Rattle.std.proofs.lemmas.List.Elements.{All-more}
use Rattle.model.specs.declared.AnyOp.{AnyOp}
use Rattle.model.specs.declared.AnyReply.{AnyReply}
use Rattle.model.specs.Lists.{In}
use Rattle.model.proofs.Lists.{in_filter_from, all_from_in}
use Rattle.edn_reader.specs.Bytes.{is_name}
use Rattle.edn_reader.specs.Text.{InProfile}
use Rattle.seq_objects.specs.Functions.{name_of}
use Rattle.seq_objects.specs.Values.{function_in}
use Rattle.events.specs.declared.event.Action.{Action}
use Rattle.desk_model.specs.World.{AnyEvent}
use Rattle.desk_model.specs.Images.{event_in}
use Rattle.recorder.specs.Records.{Recorded}
use Rattle.recorder.specs.Histories.{journals_in}
use Rattle.transcript.specs.declared.line.Line.{Line}
use Rattle.transcript.specs.Lines.{AreLinesOf, form_of, journal_lines, type_of, value_form, map_value}

function_named : (o : AnyOp) → is_name (name_of (function_in o)) ≡ true
unfolding is_name
function_named o = grind arith

type_named : (a : Action) → is_name (type_of a) ≡ true
unfolding is_name
type_named a = grind arith

pub form_in_profile : (l : Line) → l.event.process < 2 ^ 63 → l.event.object < 2 ^ 63
    → InProfile (value_form (map_value l.op l.event.action)) → InProfile (form_of l)
unfolding is_name
form_in_profile l process object value =
    (refl, process, (refl, type_named l.event.action, (refl, function_named l.op, (refl, value, (refl, object, tt)))))

-- one line more
pub profiles_more : (ls : List Line) (i : ℕ) (d : Line) → i < length ls → All (λ l. InProfile (form_of l)) (take i ls)
    → InProfile (form_of (get_or ls i d)) → All (λ l. InProfile (form_of l)) (take (i + 1) ls)
profiles_more = All-more (λ l. InProfile (form_of l))

pub all_profiles : (ls : List Line) (i : ℕ) → length ls ≤ i → All (λ l. InProfile (form_of l)) (take i ls)
    → All (λ l. InProfile (form_of l)) ls
all_profiles ls i high h = subst (All (λ (l : Line). InProfile (form_of l))) (take_all i ls high) h

module _ {O R : Type 0} (op_in : O → AnyOp) (reply_in : R → AnyReply) (r : Recorded O R) where
  -- past the last client there is no journal
  past : (c : ℕ) → length r.journals ≤ c → journals_in op_in reply_in r c ≡ []
  past c high = ap (map (event_in op_in reply_in)) (get_or_past r.journals c [] high)

  -- No line is of a client past the last.
  pub clients_low : (n : ℕ) → length r.journals < n → (ls : List Line) → AreLinesOf (journals_in op_in reply_in r) ls
      → All (λ l. l.event.process < n) ls
  clients_low n few ls are = all_from_in (λ (l : Line). l.event.process < n) ls (λ l i. low l i)
    where
      low : (l : Line) → In l ls → l.event.process < n
      low l i =
          let own : In l (journal_lines l.event.process (journals_in op_in reply_in r l.event.process)) =
          subst (In l) (are.each l.event.process)
          (in_filter_from (λ (k : Line). k.event.process == l.event.process) l ls i
          (eq-eqb l.event.process l.event.process refl)) in
          elim (cases_lt l.event.process n) [
            | inl h ↦ h
            | inr h ↦ absurd (subst (λ (js : List AnyEvent). In l (journal_lines l.event.process js))
                (past l.event.process (omega arith)) own)
          ]
