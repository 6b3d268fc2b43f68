-- What each step on the table tells the client that takes it: what it knows and has in its hands
-- then.
use Rattle.std.specs.Prelude.{◌≡◌, ◌≢◌, ℕ, ◌+◌, ◌<◌, false, List, ◌∷◌, ◌++◌, length, All}
use lib.ListN.{get_elem?}
use Rattle.atomic_table.specs.Table.{Me, Step, rest}
use Rattle.model.specs.declared.AnyOp.{AnyOp}
use Rattle.model.specs.declared.AnyReply.{AnyReply}
use Rattle.model.specs.Objects.{Content, kind_of}
use Rattle.desk_invariant.specs.declared.board.Core.{Core}
use Rattle.desk_invariant.specs.declared.board.Slot.{Slot}
use Rattle.desk_invariant.specs.declared.board.Slot.TheVariants as slot
use Rattle.desk_invariant.specs.declared.board.Own.TheVariants as own
use Rattle.desk_invariant.specs.declared.board.Held.TheVariants as held
use Rattle.desk_invariant.specs.declared.board.DeskView.{DeskView}
use Rattle.desk_model.specs.declared.Request.{Request}
use Rattle.desk_model.specs.declared.Answer.{Answer}
use Rattle.desk_model.specs.World.{AnyEntry, AnyRequest, AnyAnswer, kind_at, logged}
use Rattle.desk_model.specs.World.{entries_of_client, served, IsLegalLog, StartsWith}
use Rattle.desk_model.specs.Images.{request_in, answer_in}
use Rattle.desk_invariant.specs.Views.{row_place, end_place, seen_of, received_of, after_miss}
use Rattle.desk_invariant.specs.Views.{after_row_miss, after_win, after_pick, after_put_back}
use Rattle.desk_invariant.specs.Views.{after_answer, IsAccount, after_release, with_own, after_take}
use Rattle.desk_invariant.specs.Views.{after_return, after_meet, after_end, after_end_seen}
use Rattle.desk_invariant.specs.Views.{after_end_unset, answered_word, call_slot, journal_slot}
use Rattle.desk_invariant.specs.Rule.{CoreFits}
use Rattle.desk_model.specs.Limits.{max_objects}

module _ {S O R : Type 0} (content : S → Content) (op_in : O → AnyOp) (reply_in : R → AnyReply)
  where
    -- a client as a step sees it: what it knows, and the slots that it has taken out of the table
    abbrev pub Hands : Type 0
    Hands = Me (Slot S O R) DeskView

    -- what the client knows
    abbrev pub known : Hands → DeskView
    known hands = hands.0

    -- the slots that the client has taken out of the table
    abbrev pub taken_slots : Hands → List (ℕ × Slot S O R)
    taken_slots hands = hands.1

    -- A look at the lock of an object that is there, before it is tried: it is held, a miss; or
    -- nothing is told. A look at another word tells nothing.
    abbrev pub looks_at_lock : Step (Slot S O R) → Hands → ℕ → Hands → Type 0
    looks_at_lock step before found after = step.word < length (known before).kinds →
        (found ≡ 0 → after ≡ before)
        × (found ≢ 0 → after ≡ (after_miss step.word (known before), taken_slots before))

    -- The lock of an object that is there was free: the object with its log and its publication
    -- list came out, and the log begins with what was seen. Or it was held, a miss. A try at
    -- another word tells nothing.
    abbrev pub wins : Step (Slot S O R) → Hands → ℕ → Hands → Type 0
    wins step before found after = step.word < length (known before).kinds →
        (found ≡ 0
        → (k : Core S O R) × (l : List AnyEntry)
        × (after ≡ (
          after_win step.word l (known before),
          (step.word, slot.Core k) ∷ taken_slots before,
        ))
        × CoreFits content op_in reply_in (kind_at (known before).kinds step.word)
        (get_elem? (known before).lists step.word) k l
        × StartsWith l (seen_of (known before) step.word))
        × (found ≢ 0 → after ≡ (after_miss step.word (known before), taken_slots before))

    -- the log with which the object is released is what the client has seen of it
    abbrev pub releases : Step (Slot S O R) → Hands → ℕ → Hands → Type 0
    releases step before found after =
        (l : List AnyEntry) → (known before).held ≡ held.Pass step.word l
        → (after ≡ (after_release step.word l (known before), rest (taken_slots before)))
        × IsAccount step.word (known before) l

    -- A look at a row before it is tried: there is no request for the object in hand, a miss; or
    -- nothing is told
    abbrev pub looks_at_row : Step (Slot S O R) → Hands → ℕ → Hands → Type 0
    looks_at_row step before found after =
        (x r : ℕ) (l : List AnyEntry) → (known before).held ≡ held.Pass x l
        → step.word ≡ row_place r →
        (found ≡ 1 + x → after ≡ before)
        ×
        (found ≢ 1 + x → (after ≡ (after_row_miss step.word x (known before), taken_slots before))
        × All (λ b. b.row ≢ r) (known before).back)

    -- A request for the object in hand came out of the row, the one that was put back there, if
    -- any, and at the own row the own one. Or there was none, a miss, and none was put back there
    abbrev pub picks : Step (Slot S O R) → Hands → ℕ → Hands → Type 0
    picks step before found after =
        (x r : ℕ) (l : List AnyEntry) → (known before).held ≡ held.Pass x l
        → step.word ≡ row_place r →
        (found ≡ 1 + x
        → (p : Request O) × (p.object ≡ x) × (kind_of (op_in p.op) ≡ kind_at (known before).kinds x)
        × (after ≡ (
          after_pick x l r (request_in op_in p) (known before),
          (call_slot r, slot.Request p) ∷ taken_slots before,
        ))
        × All (λ b. b.row ≡ r → b.request ≡ request_in op_in p) (known before).back
        × ((q : AnyRequest) → r ≡ (known before).number → (known before).own ≡ own.Waiting q
        → request_in op_in p ≡ q))
        ×
        (found ≢ 1 + x → (after ≡ (after_row_miss step.word x (known before), taken_slots before))
        × All (λ b. b.row ≢ r) (known before).back)

    -- the answer in hand went into the row, and the log has grown by what it says
    abbrev pub answers : Step (Slot S O R) → Hands → ℕ → Hands → Type 0
    answers step before found after =
        (x r i : ℕ) (l : List AnyEntry) (q : AnyRequest) (b : Answer R) (tl : List (ℕ × Slot S O R))
        → (known before).held ≡ held.Hand x l r q → taken_slots before ≡ (i, slot.Answer b) ∷ tl
        → after ≡ (after_answer r x (l ++ logged r q (answer_in reply_in b)) (known before), tl)

    -- the request in hand went back into its row
    abbrev pub puts_back : Step (Slot S O R) → Hands → ℕ → Hands → Type 0
    puts_back step before found after =
        (x r : ℕ) (l : List AnyEntry) (q : AnyRequest) → (known before).held ≡ held.Hand x l r q
        → after ≡ (after_put_back x l r q (known before), rest (taken_slots before))

    -- the request in hand has its ticket
    abbrev pub draws : Step (Slot S O R) → Hands → ℕ → Hands → Type 0
    draws step before found after =
        (i : ℕ) (p : Request O) (tl : List (ℕ × Slot S O R))
        → taken_slots before ≡ (i, slot.Request p) ∷ tl
        → after ≡ (
          with_own (own.Drawn (request_in op_in (record p { ticket = found })))
              (known before),
          taken_slots before,
        )

    -- the drawn request went into the row of its client, which waits for the answer
    abbrev pub posts : Step (Slot S O R) → Hands → ℕ → Hands → Type 0
    posts step before found after =
        (q : AnyRequest) → (known before).own ≡ own.Drawn q
        → after ≡ (with_own (own.Waiting q) (known before), rest (taken_slots before))

    -- A look at the own row before it is tried: there is no answer, a miss; or nothing is told. A
    -- look at another word tells nothing.
    abbrev pub looks_for_answer : Step (Slot S O R) → Hands → ℕ → Hands → Type 0
    looks_for_answer step before found after = (c : ℕ) (q : AnyRequest) →
        (known before).number ≡ c → step.word ≡ row_place c → (known before).own ≡ own.Waiting q →
        (found ≡ answered_word → after ≡ before)
        × (found ≢ answered_word → (after
        ≡ (after_miss step.word (known before), taken_slots before))
        × ((known before).ready ≡ false))

    -- The answer came out of the own row, and the log of its object was seen: it is legal, begins
    -- with what was seen before, and has of the own calls those that are over and this one. Or
    -- there was none, a miss. A try at another word tells nothing.
    abbrev pub takes_answer : Step (Slot S O R) → Hands → ℕ → Hands → Type 0
    takes_answer step before found after = (c : ℕ) (q : AnyRequest) →
        (known before).number ≡ c → step.word ≡ row_place c → (known before).own ≡ own.Waiting q →
        (found ≡ answered_word
        → (b : Answer R) × (l : List AnyEntry)
        × (after ≡ (
          after_take q (answer_in reply_in b) l (known before),
          (call_slot c, slot.Answer b) ∷ taken_slots before,
        ))
        × IsLegalLog (kind_at (known before).kinds q.object) l
        × StartsWith l (seen_of (known before) q.object)
        × (entries_of_client (known before).number l
        ≡ served q.object (known before).number (known before).done
        ++ logged (known before).number q (answer_in reply_in b)))
        × (found ≢ answered_word → (after
        ≡ (after_miss step.word (known before), taken_slots before))
        × ((known before).ready ≡ false))

    -- the return has its ticket, which is greater than each in what was seen of the call's object
    abbrev pub returns : Step (Slot S O R) → Hands → ℕ → Hands → Type 0
    returns step before found after =
        (q : AnyRequest) (a : AnyAnswer) → (known before).own ≡ own.Taken q a
        → (after ≡ (after_return q a found (known before), taken_slots before))
        × All (λ e. e.ticket < found) (seen_of (known before) q.object)

    -- the client's own slots came out of their places
    abbrev pub begins : Step (Slot S O R) → Hands → ℕ → Hands → Type 0
    begins step before found after =
        (c : ℕ) → step.word ≡ row_place c
        → after ≡ (
          with_own own.Idle (known before),
          (call_slot c, slot.Nothing) ∷ (journal_slot c, slot.Nothing) ∷ taken_slots before,
        )

    -- The log so far was seen, which begins with what was seen and what was received, and has of
    -- the own calls what a client is to find in it
    abbrev pub learns : Step (Slot S O R) → Hands → ℕ → Hands → Type 0
    learns step before found after =
        (l : List AnyEntry) × (after ≡ (after_meet step.word l (known before), taken_slots before))
        × IsLegalLog (kind_at (known before).kinds step.word) l
        × StartsWith l (seen_of (known before) step.word)
        × StartsWith l (received_of (known before) step.word)
        × (length (known before).seen ≡ max_objects) × IsAccount step.word (known before) l

    -- what was received, which is legal, is what is seen
    abbrev pub adopts : Step (Slot S O R) → Hands → ℕ → Hands → Type 0
    adopts step before found after =
        (after ≡ (
          after_meet step.word (received_of (known before) step.word) (known before),
          taken_slots before,
        ))
        × IsLegalLog (kind_at (known before).kinds step.word) (received_of (known before) step.word)
        × IsAccount step.word (known before) (received_of (known before) step.word)

    -- the journal went into its place, and the client has ended
    abbrev pub ends : Step (Slot S O R) → Hands → ℕ → Hands → Type 0
    ends step before found after = after ≡ (after_end (known before), rest (taken_slots before))

    -- The client d has ended. Or it was found there, which is no miss, and is not one that was told
    -- to have ended
    abbrev pub sees_end : Step (Slot S O R) → Hands → ℕ → Hands → Type 0
    sees_end step before found after =
        (d : ℕ) → step.word ≡ end_place d
        → (found ≡ 1 → after ≡ (after_end_seen d (known before), taken_slots before))
        × (found ≢ 1 → (after ≡ (after_end_unset d (known before), taken_slots before))
        × All (λ l. l.client ≢ d) (known before).left)
