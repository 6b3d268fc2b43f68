-- The journals of a record, as they are in memory, have the tickets of its events, each of which is low
-- (`ticket_low`). By reading each event back from its entry.
use Rattle.std.proofs.Common.{◌≡◌, ℕ, ◌<◌, ◌≤◌, ◌==◌, List, [], ◌∷◌, ◌++◌, length, drop, map, filter, get_or, refl}
use Rattle.std.proofs.Common.{ap, sym, ◌∙◌, subst}
use Rattle.std.specs.declared.vec.Vec.{Vec}
use Rattle.std.proofs.Math.ListN as ListN
use Rattle.std.proofs.lemmas.List.{get_or-map, append-nil, at_drop_all}
use Rattle.model.specs.declared.AnyOp.{AnyOp}
use Rattle.model.specs.declared.AnyReply.{AnyReply}
use Rattle.model.specs.Lists.{In}
use Rattle.model.proofs.Lists.{in_map, in_map_from, in_filter, in_from_get, all_at}
use Rattle.desk_model.specs.declared.JournalEvent.{JournalEvent}
use Rattle.desk_model.specs.World.{AnyEntry, AnyEvent, ticket_of}
use Rattle.desk_model.specs.Images.{event_in}
use Rattle.events.specs.declared.event.Event.{Event}
use Rattle.recorder.specs.Records.{Recorded, items_of_each, journal_at}
use Rattle.recorder.specs.Histories.{events_of, max_tickets, IsRecord, IsRecordOf, journals_in}
use Rattle.recorder.proofs.Journals.{numbers_of}
use Rattle.transcript.specs.declared.line.Line.{Line}
use Rattle.transcript.specs.Lines.{lines_in}

-- each ticket of a journal is below the greatest number of them
ticket_low : (objects : ℕ) (journals : ℕ → List AnyEvent) (logs : ℕ → List AnyEntry)
    → IsRecord objects journals logs → (c : ℕ) (e : AnyEvent) → In e (journals c) → ticket_of e < max_tickets
ticket_low objects journals logs r c e i =
    let drawn : In (ticket_of e) (map (λ (f : Event). f.number) (events_of c (journals c))) =
    subst (In (ticket_of e)) (sym (numbers_of c 0 (journals c))) (in_map_from ticket_of e (journals c) i) in
    let own = in_map (λ (f : Event). f.number) (ticket_of e) (filter (λ (f : Event). f.process == c) r.events)
    (subst (λ (fs : List Event). In (ticket_of e) (map (λ (f : Event). f.number) fs))
    (sym (r.are_events.each c)) drawn) in
    subst (λ (n : ℕ). n < max_tickets) (sym own.2)
    (all_at (λ (f : Event). f.number < max_tickets) r.events r.few own.0
    (in_filter (λ (f : Event). f.process == c) own.0 r.events own.1))

module _ {O R : Type 0} (op_in : O → AnyOp) (reply_in : R → AnyReply) where
  -- the journals in memory, and what they stand for
  pub maps : {Z : Type 0} (vs : List (Vec (JournalEvent O R) Z))
      → map (λ v. map (event_in op_in reply_in) v.items) vs ≡ map (map (event_in op_in reply_in)) (items_of_each vs)
  maps [] = refl
  maps (v ∷ vs) = ap (λ js. map (event_in op_in reply_in) v.items ∷ js) (maps vs)

  pub journal_is : (r : Recorded O R) (c : ℕ)
      → get_or (map (map (event_in op_in reply_in)) r.journals) c [] ≡ journals_in op_in reply_in r c
  journal_is r c = ListN.get_or-map (map (event_in op_in reply_in)) r.journals c []

  -- each event of a journal in memory has a ticket below the limit, if the journals are those of a record
  pub low_in : {Z : Type 0} (r : Recorded O R) → IsRecordOf op_in reply_in r → (vs : List (Vec (JournalEvent O R) Z))
      → items_of_each vs ≡ r.journals
      → (c : ℕ) (v : Vec (JournalEvent O R) Z) → c < length vs → v ≡ get_or vs c v
      → (js : List (JournalEvent O R)) → js ≡ v.items → (k : ℕ) (d : JournalEvent O R) → k < length js
      → ticket_of (event_in op_in reply_in (get_or js k d)) < max_tickets
  low_in {Z} r kept vs same c v low read js value k d within =
      let e = event_in op_in reply_in (get_or js k d) in
      let here : js ≡ journal_at r c =
      value ∙ (ap (λ (w : Vec (JournalEvent O R) Z). w.items) read
      ∙ (sym (get_or-map (λ (w : Vec (JournalEvent O R) Z). w.items) vs c v [] low)
      ∙ ap (λ (xs : List (List (JournalEvent O R))). get_or xs c []) same)) in
      ticket_low _ (journals_in op_in reply_in r) _ kept c e
      (subst (λ (xs : List (JournalEvent O R)). In e (map (event_in op_in reply_in) xs)) here
      (in_map_from (event_in op_in reply_in) (get_or js k d) js (in_from_get js k d within)))

  -- no journal is left
  pub all_lines : {Z : Type 0} (vs : List (Vec (JournalEvent O R) Z)) (js : List (List (JournalEvent O R)))
      → items_of_each vs ≡ js → (i : ℕ) (ls : List Line) → length vs ≤ i
      → ls ++ lines_in i (map (λ v. map (event_in op_in reply_in) v.items) (drop i vs))
      ≡ lines_in 0 (map (λ v. map (event_in op_in reply_in) v.items) vs)
      → ls ≡ lines_in 0 (map (map (event_in op_in reply_in)) js)
  all_lines {Z} vs js same i ls high h =
      let none = at_drop_all (λ (ws : List (Vec (JournalEvent O R) Z)). lines_in i
      (map (λ (v : Vec (JournalEvent O R) Z). map (event_in op_in reply_in) v.items) ws)) vs i high in
      sym (ap (λ xs. ls ++ xs) none ∙ append-nil ls)
      ∙ (h ∙ (ap (lines_in 0) (maps vs)
      ∙ ap (λ (xs : List (List (JournalEvent O R))). lines_in 0 (map (map (event_in op_in reply_in)) xs)) same))
