-- The tickets of the logs of the named objects are the certificates of a record (`are_certificates`). By one object
-- more at a time (`objects_more`), whose names rise (`names_rise`).
use Rattle.std.proofs.Common.{◌≡◌, ◌↔◌, ℕ, ℤ, pos, ◌+◌, ◌<◌, List, [], ◌∷◌, ◌++◌, length, map, take, get_or, All}
use Rattle.std.proofs.Common.{AllPairs, Contains, refl, ap, sym, ◌∙◌, subst}
use Rattle.std.proofs.lemmas.List.{map-append, take_more}
use Rattle.model.specs.Lists.{In}
use Rattle.model.proofs.Lists.{in_from_get, in_map_from, in_from_contains, contains_from_in, all_at}
use Rattle.model.proofs.Lists.{all_from_in, pairs_from_all, all_from_pairs, pairs_map, pairs_from_map}
use Rattle.model.specs.declared.AnyOp.{AnyOp}
use Rattle.model.specs.declared.AnyReply.{AnyReply}
use Rattle.desk_model.specs.declared.LogEntry.{LogEntry}
use Rattle.desk_model.specs.World.{AnyEntry, AnyEvent}
use Rattle.desk_model.specs.Images.{entry_in}
use Rattle.desk_model.specs.Records.{order_of}
use Rattle.events.specs.declared.event.Event.{Event}
use Rattle.events.specs.Events.{IsNamed}
use Rattle.events.specs.Operations.{ObjectCalls}
use Rattle.certificate.specs.declared.Certificate.{Certificate}
use Rattle.recorder.specs.Records.{Recorded, log_at}
use Rattle.recorder.specs.Histories.{AreEventsOf, IsNamedIn, IsRecord, IsRecordOf, logs_in, max_tickets}
use Rattle.recorder.proofs.Same.{same_by_parts}
use Rattle.transcript.specs.Accounts.{AreCertificatesOf}
use Rattle.transcript.proofs.Naming.{named_in, named_by}

-- the tickets of a log
pub tickets_of : {O R : Type 0} (op_in : O → AnyOp) (reply_in : R → AnyReply) (log : List (LogEntry O R))
    → map (λ e. pos e.ticket) log ≡ order_of (map (entry_in op_in reply_in) log)
tickets_of op_in reply_in [] = refl
tickets_of op_in reply_in (e ∷ log) = ap (λ (zs : List ℤ). pos e.ticket ∷ zs) (tickets_of op_in reply_in log)

-- a named object has a log
pub has_log : (objects : ℕ) (journals : ℕ → List AnyEvent) (logs : ℕ → List AnyEntry) → IsRecord objects journals logs
    → (es : List Event)
    → AreEventsOf journals es → (x : ℕ) → IsNamed es x → x < objects
has_log objects journals logs r es are x n =
    let same : es ≡ r.events = same_by_parts (λ (e : Event). e.number) (λ (e : Event). e.process) es r.events
    (pairs_from_all (λ (a b : Event). a.number < b.number) es are.rising)
    (pairs_from_all (λ (a b : Event). a.number < b.number) r.events r.are_events.rising)
    (λ c. are.each c ∙ sym (r.are_events.each c)) in
    subst (λ (y : ℕ). y < objects) n.on_object
    (all_at (λ (e : Event). e.object < objects) r.events r.on_objects n.event
    (subst (In n.event) same (in_from_contains es n.event n.stands)))

-- the tickets of a log in memory are low
pub log_low : {O R : Type 0} (op_in : O → AnyOp) (reply_in : R → AnyReply) (r : Recorded O R)
    → IsRecordOf op_in reply_in r
    → (x : ℕ) (log : List (LogEntry O R)) → log ≡ log_at r x → All (λ e. e.ticket < max_tickets) log
log_low op_in reply_in r kept x log is = all_from_in (λ (e : LogEntry _ _). e.ticket < max_tickets) log
    (λ e i. all_at (λ (e : AnyEntry). e.ticket < max_tickets) (logs_in op_in reply_in r x) (kept.few_logged x)
    (entry_in op_in reply_in e)
    (subst (λ (xs : List (LogEntry _ _)). In (entry_in op_in reply_in e) (map (entry_in op_in reply_in) xs)) is
    (in_map_from (entry_in op_in reply_in) e log i)))

-- the certificates, in the order of the named objects
pub are_certificates : (journals : ℕ → List AnyEvent) (logs : ℕ → List AnyEntry) (es : List Event)
    → AreEventsOf journals es → (names : List ℕ)
    → AllPairs (λ a b. a < b) names → ((x : ℕ) → Contains names x ↔ IsNamed es x)
    → (cs : List Certificate) → map (λ c. c.object) cs ≡ names
    → All (λ c. c.order.items ≡ order_of (logs c.object)) cs → AreCertificatesOf journals logs cs
are_certificates journals logs es are names up named cs same orders = record {
  rising = all_from_pairs (λ (a b : Certificate). a.object < b.object) cs
      (pairs_from_map (λ a b. a < b) (λ (c : Certificate). c.object) cs
      (pairs_from_all (λ a b. a < b) (map (λ (c : Certificate). c.object) cs)
      (subst (AllPairs (λ a b. a < b)) (sym same) up)));
  named = λ x. subst (λ (ns : List ℕ). Contains ns x ↔ IsNamedIn journals x) (sym same)
      (λ h. named_in journals es are x ((named x).0 h), λ h. (named x).1 (named_by journals es are x h));
  orders = orders;
}

-- one certificate more
pub objects_more : {X : Type 0} (name_in : X → ℕ) (values : List X) (i : ℕ) (value : X) (cs new : List Certificate)
    (c : Certificate) → i < length values → value ≡ get_or values i value
    → map (λ c. c.object) cs ≡ map name_in (take i values) → c.object ≡ name_in value → new ≡ cs ++ c ∷ []
    → map (λ c. c.object) new ≡ map name_in (take (i + 1) values)
objects_more name_in values i value cs new c low is so_far object more =
    ap (map (λ (d : Certificate). d.object)) more
    ∙ (map-append (λ (d : Certificate). d.object) cs (c ∷ [])
    ∙ (ap (λ ns. ns ++ c.object ∷ []) so_far
    ∙ (ap (λ n. map name_in (take i values) ++ n ∷ []) (object ∙ ap name_in is)
    ∙ (sym (map-append name_in (take i values) (get_or values i value ∷ [])) ∙ ap (map name_in)
    (sym (take_more values i value low))))))

-- the name of an object that was split off
pub name_of_item : {X : Type 0} (f : X → ℕ) (vs : List X) (i : ℕ) (v : X) → i < length vs → v ≡ get_or vs i v
    → Contains (map f vs) (f v)
name_of_item f vs i v low is =
    subst (λ x. Contains (map f vs) (f x)) (sym is)
    (contains_from_in (map f vs) (f (get_or vs i v)) (in_map_from f (get_or vs i v) vs (in_from_get vs i v low)))

pub names_rise : (os : List ObjectCalls) → AllPairs (λ a b. a.object < b.object) os
    → AllPairs (λ a b. a < b) (map (λ o. o.object) os)
names_rise os up = all_from_pairs (λ a b. a < b) (map (λ (o : ObjectCalls). o.object) os)
    (pairs_map (λ a b. a < b) (λ (o : ObjectCalls). o.object) os
    (pairs_from_all (λ (a b : ObjectCalls). a.object < b.object) os up))
