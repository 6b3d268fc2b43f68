-- The rule of the desk's table. Word x is the lock of object x; the places of the rows, the ends
-- and the clock have names.
-- Slot x is the core of object x; the slots of a client's request or answer, and of its journal,
-- have names too.
use Rattle.std.specs.Prelude.{◌≡◌, ◌≢◌, ◌⊎◌, ℕ, ◌+◌, ◌<◌, ◌≤◌, Bool, true, false, List, [], ◌++◌}
use Rattle.std.specs.Prelude.{map, length, slice_index, Option, Some, None, All}
use mathlib.Core.Option.{some}
use mathlib.Core.Option as maybe
use lib.ListN.{get_elem?}
use Rattle.atomic_table.specs.Table.{State}
use Rattle.atomic_table.specs.Seated.{TableId}
use Rattle.model.specs.declared.Kind.{Kind}
use Rattle.model.specs.declared.AnyOp.{AnyOp}
use Rattle.model.specs.declared.AnyReply.{AnyReply}
use Rattle.model.specs.Objects.{Content, empty}
use Rattle.desk_invariant.specs.declared.board.Core.{Core}
use Rattle.desk_invariant.specs.declared.board.Journal.{Journal}
use Rattle.desk_invariant.specs.declared.board.Slot.{Slot}
use Rattle.desk_invariant.specs.declared.board.Slot.TheVariants as slot
use Rattle.desk_invariant.specs.declared.board.Own.{Own}
use Rattle.desk_invariant.specs.declared.board.Own.TheVariants as own
use Rattle.desk_invariant.specs.declared.board.Held.{Held}
use Rattle.desk_invariant.specs.declared.board.Held.TheVariants as held
use Rattle.desk_invariant.specs.declared.board.Leaving.{Leaving}
use Rattle.desk_invariant.specs.declared.board.Role.TheVariants as role
use Rattle.desk_invariant.specs.declared.board.DeskView.{DeskView}
use Rattle.desk_model.specs.declared.Request.{Request}
use Rattle.desk_model.specs.declared.Answer.{Answer}
use Rattle.desk_model.specs.World.{AnyEntry, AnyRequest, AnyAnswer, AnyDone, Stage, absent, idle}
use Rattle.desk_model.specs.World.{drawn, posted, picked, answered, taken, World, kind_at}
use Rattle.desk_model.specs.World.{entries_of_client, served, request_of, journal_of, journal_in}
use Rattle.desk_model.specs.World.{Replays, StartsWith}
use Rattle.desk_model.specs.Sound.{Sound}
use Rattle.desk_model.specs.Images.{request_in, answer_in, entry_in, event_in}
use Rattle.desk_invariant.specs.Views.{row_place, end_place, clock_place, seen_of, received_of}
use Rattle.desk_invariant.specs.Views.{owed, call_slot, journal_slot}
use Rattle.desk_model.specs.Limits.{max_objects, max_clients, max_calls}
use Rattle.desk_invariant.specs.Views.{table_words, table_slots, first_picked, answered_word}

-- a place for a slot's value, which may be out
abbrev pub Home : (S O R : Type 0) → Type 0
Home S O R = maybe.Option (maybe.Option (Slot S O R))

-- the word of an object's lock: 0 while it is free, otherwise 1 more than the number of its holder
abbrev pub lock_word : Option ℕ → ℕ
lock_word None = 0
lock_word (Some c) = 1 + c

-- The word of a client's row, by the stage of its call: it tells the object of a request that is
-- posted or picked, or that there is an answer. At any other stage it is 0.
abbrev pub row_word : Stage → ℕ
row_word absent = 0
row_word idle = 0
row_word (drawn q) = 0
row_word (posted q) = 1 + q.object
row_word (picked q) = first_picked + q.object
row_word (answered q a) = answered_word
row_word (taken q a) = 0

-- the word of a client's end: 1 if the client has ended, otherwise 0
abbrev pub end_word : Bool → ℕ
end_word false = 0
end_word true = 1

-- what a client knows of its own call agrees with the stage
abbrev pub OwnCallAgrees : Own → Stage → Type 0
OwnCallAgrees own.Absent t = t ≡ absent
OwnCallAgrees own.Idle t = t ≡ idle
OwnCallAgrees (own.Drawn q) t = t ≡ drawn q
OwnCallAgrees (own.Waiting q) t = (t ≡ posted q)
    ⊎ ((t ≡ picked q) ⊎ ((a : AnyAnswer) × (t ≡ answered q a)))
OwnCallAgrees (own.Taken q a) t = t ≡ taken q a

-- the client c holds the object x, and no other
abbrev pub HoldsOnly : World → ℕ → ℕ → Type 0
HoldsOnly w c x = (y : ℕ) → w.holder y ≡ Some c → y ≡ x

-- what the client c holds, by its view, is what it holds in the world, if there are n objects:
-- nothing; an object with this log and a free hand; or also the request of a row in its hand
abbrev pub HeldAgrees : ℕ → World → ℕ → Held → Type 0
HeldAgrees n w c held.Free = (x : ℕ) → w.holder x ≢ Some c
HeldAgrees n w c (held.Pass x l) =
    (x < n) × (w.holder x ≡ Some c) × (w.hand x ≡ None) × (w.log x ≡ l) × HoldsOnly w c x
HeldAgrees n w c (held.Hand x l r q) =
    (x < n) × (w.holder x ≡ Some c) × (w.hand x ≡ Some r) × (w.log x ≡ l) × HoldsOnly w c x
    × (r < max_clients) × (w.stage r ≡ picked q)

-- the view of the client c agrees with the world
pub record SeatAgrees (kinds : List Kind) (w : World) (c : ℕ) (v : DeskView) : Type 0 where
  pub number : v.number ≡ c
  pub small : c < max_clients
  pub kinds_are : v.kinds ≡ kinds
  pub done : v.done ≡ w.done c
  pub own : OwnCallAgrees v.own (w.stage c)
  -- if the client knows that its row is answered, it is
  pub ready : v.ready ≡ true → (q : AnyRequest) × (a : AnyAnswer) × (w.stage c ≡ answered q a)
  -- what it has seen of an object is a beginning of its log, which has the client's calls that are
  -- over
  pub wide_seen : length v.seen ≡ max_objects
  pub seen : (x : ℕ) → StartsWith (w.log x) (seen_of v x)
  pub covers : (x : ℕ)
      → StartsWith (entries_of_client c (seen_of v x)) (served x c v.done ++ owed x c v.own)
  pub held : HeldAgrees (length kinds) w c v.held
  pub ended : w.ended c ≡ v.ended
  pub retired : All (λ d. w.ended d ≡ true) v.retired
  -- what was put back is in its row, and its object is held
  pub back : All (λ b. (w.stage b.row ≡ posted b.request)
      × (w.holder b.request.object ≡ Some c)) v.back

-- the client has ended, and this is its journal
abbrev pub HasLeft : World → Leaving → Type 0
HasLeft w l = (w.ended l.client ≡ true) × (journal_in w l.client ≡ l.journal)

-- any view, of a client, of the maker or of a message, agrees with the world
pub record ViewAgrees (kinds : List Kind) (lists : List TableId) (w : World) (seat_of : ℕ → ℕ)
    (j : ℕ)
    (v : DeskView) : Type 0 where
  pub seen : (x : ℕ) → StartsWith (w.log x) (seen_of v x)
  pub received : (x : ℕ) → StartsWith (w.log x) (received_of v x)
  pub left : All (HasLeft w) v.left
  pub client : v.role ≡ role.Client → (seat_of v.number ≡ j) × SeatAgrees kinds w v.number v
  pub unmade : v.role ≡ role.Maker → (c : ℕ) → v.made ≤ c
      → (w.stage c ≡ absent) × (w.done c ≡ []) × (w.ended c ≡ false)
      × ((x : ℕ) → w.holder x ≢ Some c)
  pub maker_kinds : v.role ≡ role.Maker → v.kinds ≡ kinds
  -- which roster the publication list of each object is
  pub lists_are : v.role ≡ role.Client → v.lists ≡ lists
  pub maker_lists : v.role ≡ role.Maker → v.lists ≡ lists

-- There is at most one maker. It made every client, and at most `clients` of them.
pub record HasOneMaker (clients : ℕ) (views : List DeskView) : Type 0 where
  pub made : (j : ℕ) (v : DeskView) → get_elem? views j ≡ some v → v.role ≡ role.Maker
      → (i : ℕ) (u : DeskView) → get_elem? views i ≡ some u
      → (u.role ≡ role.Client → u.number < v.made) × (u.role ≡ role.Maker → i ≡ j)
  pub numbers : (j : ℕ) (v : DeskView) → get_elem? views j ≡ some v → v.role ≡ role.Client
      → v.number < clients

module _ {S O R : Type 0} (content : S → Content) (op_in : O → AnyOp) (reply_in : R → AnyReply)
  where
    -- The core has this log, its object what the log leaves, and its walker walks this list: the
    -- one of the object, if the object has one.
    abbrev pub CoreFits : Kind → maybe.Option TableId → Core S O R → List AnyEntry → Type 0
    CoreFits kind list k log =
        (map (entry_in op_in reply_in) k.log.items ≡ log)
        × Replays (empty kind) log (content k.object) × (list ≡ some k.list.roster)

    -- the core is in its slot, with this log, an object that is what the log leaves, and the walker
    -- of this list
    abbrev pub CoreAt : Kind → maybe.Option TableId → Home S O R → List AnyEntry → Type 0
    CoreAt kind list home log =
        (k : Core S O R) × (home ≡ some (some (slot.Core k))) × CoreFits kind list k log

    -- the slot of a client's request or answer has what the stage of its call says
    abbrev pub CallAt : Home S O R → Stage → Type 0
    CallAt home absent = home ≡ some (some slot.Nothing)
    CallAt home (posted q) =
        (p : Request O) × (home ≡ some (some (slot.Request p))) × (request_in op_in p ≡ q)
    CallAt home (answered q a) =
        (b : Answer R) × (home ≡ some (some (slot.Answer b))) × (answer_in reply_in b ≡ a)
    CallAt home t = Unit {0}

    -- the slot of a client's journal: empty until the client has come, and out until it has ended
    pub record JournalAt (home : Home S O R) (t : Stage) (ds : List AnyDone) (ended : Bool) : Type 0
      where
        pub at_first : t ≡ absent → home ≡ some (some slot.Nothing)
        pub at_last : ended ≡ true
            → (j : Journal O R) × (home ≡ some (some (slot.Journal j)))
            × (map (event_in op_in reply_in) j.events.items ≡ journal_of ds (request_of t))

    -- the words and the slots at home
    pub record Tied (kinds : List Kind) (lists : List TableId) (w : World) (words : List ℕ)
        (homes : List (maybe.Option (Slot S O R))) : Type 0 where
      pub wide : length words ≡ table_words
      pub deep : length homes ≡ table_slots
      pub objects : length kinds < 1 + max_objects
      pub locks : (x : ℕ) → x < length kinds → slice_index words x ≡ lock_word (w.holder x)
      pub rows : (r : ℕ) → r < max_clients → slice_index words (row_place r) ≡ row_word (w.stage r)
      pub ends : (c : ℕ) → c < max_clients → slice_index words (end_place c) ≡ end_word (w.ended c)
      pub clock : slice_index words clock_place ≡ w.clock
      pub cores : (x : ℕ) → x < length kinds → w.holder x ≡ None
          → CoreAt (kind_at kinds x) (get_elem? lists x) (get_elem? homes x) (w.log x)
      pub calls : (r : ℕ) → r < max_clients → CallAt (get_elem? homes (call_slot r)) (w.stage r)
      pub journals : (c : ℕ) → c < max_clients
          → JournalAt (get_elem? homes (journal_slot c)) (w.stage c) (w.done c) (w.ended c)

    -- the rule: there is a sound world to which words, slots and views are tied
    pub record Kept (kinds : List Kind) (clients quota : ℕ) (s : State (Slot S O R) DeskView) : Type
        0
      where
        pub world : World
        pub seat_of : ℕ → ℕ
        -- which roster the publication list of each object is
        pub lists : List TableId
        pub few_calls : quota < 1 + max_calls
        pub few_clients : clients < 1 + max_clients
        pub sound : Sound kinds quota world
        pub tied : Tied kinds lists world s.words s.homes
        pub seats : (j : ℕ) (v : DeskView) → get_elem? s.views j ≡ some v
            → ViewAgrees kinds lists world seat_of j v
        pub makers : HasOneMaker clients s.views
        -- a client that holds an object has not ended
        pub holders : (x c : ℕ) → world.holder x ≡ Some c → (c < clients) × (world.ended c ≡ false)
        -- a client that has come has a number below `clients`
        pub come : (c : ℕ) → world.stage c ≢ absent → c < clients
