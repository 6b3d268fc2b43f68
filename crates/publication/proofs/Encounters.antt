-- Two clients after they have met: each has seen the same log of the object (`met`), which goes on from what each had
-- seen before. By what the messages in both directions add.
use Rattle.std.proofs.Common.{◌≡◌, ℕ, ◌<◌, Bool, List, [], length, sym, ap, ◌∙◌}
use Rattle.std.proofs.lemmas.List.{get_or-set_same}
use Rattle.atomic_table.specs.Table.{Me}
use Rattle.model.specs.declared.AnyOp.{AnyOp}
use Rattle.model.specs.declared.AnyReply.{AnyReply}
use Rattle.desk_model.specs.World.{AnyEntry, kind_at, IsLegalLog, StartsWith}
use Rattle.publication_list.specs.Calls.{PlaceSeen}
use Rattle.desk_invariant.specs.declared.board.Journal.{Journal}
use Rattle.desk_invariant.specs.declared.board.Slot.{Slot}
use Rattle.desk_invariant.specs.declared.board.DeskView.{DeskView}
use Rattle.desk_invariant.specs.Views.{seen_of, after_meet, IsAccount}
use Rattle.publication.specs.Handles.{DeskId, Known, IsClient}
use Rattle.publication.specs.Calls.{HaveBothMet}
use Rattle.publication.proofs.Holds.{agrees_seeing}
use Rattle.desk_model.specs.Limits.{max_objects}

module _ {S O R : Type 0} (op_in : O → AnyOp) (reply_in : R → AnyReply) (number calls quota : ℕ) (outstanding : Bool)
    (j : Journal O R) where
  abbrev TheClient : Me (Slot S O R) DeskView → Type 0
  TheClient = IsClient op_in reply_in number calls quota outstanding j

  -- a client that was told what another has seen, and then has seen a longer log, is still a client
  pub met_ok : (object : ℕ) (log : List AnyEntry) (received : List (List AnyEntry))
      (before after : Me (Slot S O R) DeskView) → TheClient before → object < max_objects
      → IsLegalLog (kind_at before.0.kinds object) log → IsAccount object (record before.0 { received = received }) log
      → after ≡ (after_meet object log (record before.0 { received = received }), before.1) → TheClient after
  met_ok object log received before after k low legal account e =
      rw e record {
        agrees = assumption (agrees_seeing object log low legal account k.agrees);
        free = k.free;
        in_hand = k.in_hand;
      }

-- two clients have met on an object: of each, what it was before, what it was told, and what it is after the meeting
pub met : (object : ℕ) (one other : Known) (one_desk other_desk : DeskId) (one_places other_places : List PlaceSeen)
    (one_was other_was one_now other_now : DeskView) (log : List AnyEntry)
    (one_told other_told : List (List AnyEntry))
    → one.desk.kinds ≡ one_was.kinds → one.knows ≡ one_was → other.knows ≡ other_was
    → one_now ≡ after_meet object log (record one_was { received = one_told })
    → other_now ≡ after_meet object log (record other_was { received = other_told })
    → object < length one_was.seen → object < length other_was.seen → IsLegalLog (kind_at one_was.kinds object) log
    → StartsWith log (seen_of one_was object) → StartsWith log (seen_of other_was object)
    → HaveBothMet object one other (record { desk = one_desk; knows = one_now; places = one_places })
    (record { desk = other_desk; knows = other_now; places = other_places })
met object one other one_desk other_desk one_places other_places one_was other_was one_now other_now log one_told
    other_told kinds one_same other_same one_met other_met there there' legal first second = record {
      log = log;
      first = one_met ∙ λ k. after_meet object log (record (sym one_same k)
          { received = sym (ap (λ z. z.received) one_met) k });
      second = other_met ∙ λ k. after_meet object log (record (sym other_same k)
          { received = sym (ap (λ z. z.received) other_met) k });
      no_pass = (
        ap (λ z. z.won) one_met ∙ ap (λ z. z.won) (sym one_same),
        ap (λ z. z.won) other_met ∙ ap (λ z. z.won) (sym other_same),
      );
      seen_first = ap (λ z. seen_of z object) one_met ∙ get_or-set_same one_was.seen object log [] there;
      seen_second = ap (λ z. seen_of z object) other_met ∙ get_or-set_same other_was.seen object log [] there';
      legal = rw kinds legal;
      begins_first = rw one_same first;
      begins_second = rw other_same second;
    }
