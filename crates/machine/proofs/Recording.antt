-- The record of a machine is that of its world, which is sound, since it came by a run. So its journals and logs are
-- those of a linearizable history.
use Rattle.std.proofs.Common.{◌≡◌, ℕ, List, [], length, get_or, map, ap, sym, ◌∙◌, subst}
use Rattle.std.proofs.Math.ListN as ListN
use Rattle.model.specs.declared.AnyOp.{AnyOp}
use Rattle.model.specs.declared.AnyReply.{AnyReply}
use Rattle.model.specs.Objects.{Content}
use Rattle.recorder.specs.Records.{Recorded, recorded, items_of_each, journal_at, log_at}
use Rattle.recorder.specs.Histories.{IsRecord, IsRecordOf}
use Rattle.recorder.proofs.Making.{is_record}
use Rattle.std.proofs.lemmas.List.{length-map}
use Rattle.desk_model.specs.World.{AnyEntry, AnyEvent, journal_in}
use Rattle.desk_model.specs.Images.{entry_in, event_in}
use Rattle.desk_model.specs.Records.{IsSoundRecord}
use Rattle.desk_model.proofs.RecordOrders.{sound_record}
use Rattle.machine.specs.declared.machine.Machine.TheInside.{Inside}
use Rattle.machine.specs.Machines.{State, IsMachine, clients_of, world_of}
use Rattle.machine.proofs.Rows.{state_in}
use Rattle.machine.proofs.WorldRuns.{run_sound}

module _ {S O R : Type 0} (content : S → Content) (op_in : O → AnyOp) (reply_in : R → AnyReply) (m : Inside S O R)
    (is : IsMachine (map content m.objects.items) (state_in content op_in reply_in m)) where
  -- the state by the fields, and its journals and logs
  abbrev fields : State
  fields = state_in content op_in reply_in m

  abbrev journals : ℕ → List AnyEvent
  journals c = map (event_in op_in reply_in) (get_or (items_of_each m.journals.items) c [])

  abbrev logs : ℕ → List AnyEntry
  logs x = map (entry_in op_in reply_in) (get_or (items_of_each m.logs.items) x [])

  journals_in : (c : ℕ) → journals c ≡ journal_in (world_of fields) c
  journals_in c = sym (ListN.get_or-map (map (event_in op_in reply_in)) (items_of_each m.journals.items) c [])
      ∙ is.journals_are c

  logs_in : (x : ℕ) → logs x ≡ (world_of fields).log x
  logs_in x = sym (ListN.get_or-map (map (entry_in op_in reply_in)) (items_of_each m.logs.items) x [])

  sound_in : IsSoundRecord fields.kinds fields.quota journals logs
  sound_in =
      subst (λ (js : ℕ → List AnyEvent). IsSoundRecord fields.kinds fields.quota js logs) (λ i c. sym (journals_in c) i)
      (subst (IsSoundRecord fields.kinds fields.quota (journal_in (world_of fields))) (λ i x. sym (logs_in x) i)
      (sound_record fields.kinds fields.quota (world_of fields)
      (run_sound fields.kinds (clients_of fields) fields.quota (world_of fields) is.run)))

  pub is_record_in : IsRecordOf op_in reply_in (recorded m.journals.items m.logs.items)
  is_record_in =
      let low = is.few_calls in
      let long : length (items_of_each m.logs.items) ≡ length fields.kinds =
      sym (length-map (items_of_each m.logs.items) (map (entry_in op_in reply_in))) ∙ is.logs in
      subst (λ (n : ℕ). IsRecord n journals logs) (sym long)
      (is_record fields.kinds fields.quota journals logs sound_in low)

  -- the same of the state under another name, and of the record that was made
  module _ {now : State} (same : fields ≡ now) {r : Recorded O R}
      (made : r ≡ record { journals = items_of_each m.journals.items; logs = items_of_each m.logs.items }) where
    pub journals_are : (c : ℕ) → map (event_in op_in reply_in) (journal_at r c) ≡ journal_in (world_of now) c
    journals_are c = ap (λ (z : Recorded O R). map (event_in op_in reply_in) (journal_at z c)) made ∙ journals_in c
        ∙ ap (λ (s : State). journal_in (world_of s) c) same

    pub logs_are : (x : ℕ) → map (entry_in op_in reply_in) (log_at r x) ≡ (world_of now).log x
    logs_are x = ap (λ (z : Recorded O R). map (entry_in op_in reply_in) (log_at z x)) made ∙ logs_in x
        ∙ ap (λ (s : State). (world_of s).log x) same

    pub is_sound : IsSoundRecord now.kinds now.quota (λ c. map (event_in op_in reply_in) (journal_at r c))
        (λ x. map (entry_in op_in reply_in) (log_at r x))
    is_sound = rw (← same, made) sound_in
