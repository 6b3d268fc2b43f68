-- What a client knows, and how a step of its own changes that.
use Rattle.std.specs.Prelude.{◌==◌, ◌&&◌, ◌||◌, ◌≡◌, ◌⊎◌, ℕ, ◌+◌, ◌<◌, Bool, true, false, List, []}
use Rattle.std.specs.Prelude.{◌∷◌, ◌++◌, slice_index_or, slice_set, replicate, filter, not, Option}
use Rattle.std.specs.Prelude.{Some, None}
use Rattle.atomic_table.specs.Seated.{TableId}
use Rattle.model.specs.declared.Kind.{Kind}
use Rattle.desk_invariant.specs.declared.board.Own.{Own}
use Rattle.desk_invariant.specs.declared.board.Own.TheVariants as own
use Rattle.desk_invariant.specs.declared.board.Held.TheVariants as held
use Rattle.desk_invariant.specs.declared.board.Leaving.{Leaving}
use Rattle.desk_invariant.specs.declared.board.Role.TheVariants as role
use Rattle.desk_invariant.specs.declared.board.DeskView.{DeskView}
use Rattle.desk_model.specs.World.{AnyEntry, AnyRequest, AnyAnswer, AnyEvent, logged_on}
use Rattle.desk_model.specs.World.{entries_of_client, served, journal_of}
use Rattle.desk_model.specs.Limits.{max_objects}

-- The place of the first row among the words of the table. Before it are the locks, by the number
-- of the object; after the rows are the ends of the clients, and the clock is the last word.
abbrev pub first_row : ℕ
first_row = 16

-- the place of the first end of a client among the words of the table, after the rows
abbrev pub first_end : ℕ
first_end = 48

-- the place of the row of client c among the words of the table
abbrev pub row_place : ℕ → ℕ
row_place c = first_row + c

-- the place of the end of client c among the words of the table
abbrev pub end_place : ℕ → ℕ
end_place c = first_end + c

-- the place of the clock, the last word of the table
abbrev pub clock_place : ℕ
clock_place = 80

-- The slot of the request or the answer of client c. Before these slots are the cores, by the
-- number of the object.
abbrev pub call_slot : ℕ → ℕ
call_slot c = first_row + c

-- the slot of the journal of client c, after those of the requests and answers
abbrev pub journal_slot : ℕ → ℕ
journal_slot c = first_end + c

-- how many words the table has
abbrev pub table_words : ℕ
table_words = 81

-- how many slots the table has
abbrev pub table_slots : ℕ
table_slots = 80

-- the word of a row whose request for object 0 was picked up
abbrev pub first_picked : ℕ
first_picked = 17

-- the word of a row that has an answer
abbrev pub answered_word : ℕ
answered_word = 33

-- the view of a client that has not come yet
abbrev pub new_client : List Kind → List TableId → ℕ → DeskView
new_client kinds lists c =
    record {
      role = role.Client;
      number = c;
      made = 0;
      kinds = kinds;
      lists = lists;
      done = [];
      own = own.Absent;
      ready = false;
      seen = replicate max_objects [];
      received = [];
      back = [];
      missed = [];
      won = 0;
      held = held.Free;
      ended = false;
      left = [];
      retired = [];
      still_there = [];
    }

-- the view of the maker of clients, which has made n of them
abbrev pub maker_of : List Kind → List TableId → ℕ → DeskView
maker_of kinds lists n = record (new_client kinds lists 0) { role = role.Maker; made = n }

-- the view of the maker of clients, which has made none yet
abbrev pub first_maker : List Kind → List TableId → DeskView
first_maker kinds lists = maker_of kinds lists 0

-- one client more is made
abbrev pub after_making : DeskView → DeskView
after_making v = record v { made = v.made + 1 }

-- what the client has seen of the object x: a beginning of its log
abbrev pub seen_of : DeskView → ℕ → List AnyEntry
seen_of v x = slice_index_or v.seen x []

-- what another client had seen of the object x, by its message
abbrev pub received_of : DeskView → ℕ → List AnyEntry
received_of v x = slice_index_or v.received x []

-- the call that is not over, as the client knows it
abbrev pub own_request : Own → Option AnyRequest
own_request own.Absent = None
own_request own.Idle = None
own_request (own.Drawn q) = Some q
own_request (own.Waiting q) = Some q
own_request (own.Taken q a) = Some q

-- the client's journal
abbrev pub journal : DeskView → List AnyEvent
journal v = journal_of v.done (own_request v.own)

-- what the log of x is known to have of the own call
abbrev pub owed : ℕ → ℕ → Own → List AnyEntry
owed x c (own.Taken q a) = logged_on x c q a
owed x c o = []

-- no step of the own call is half done
abbrev pub IsAtRest : Own → Type 0
IsAtRest own.Idle = Unit {0}
IsAtRest (own.Waiting q) = q.object < max_objects
IsAtRest o = ⊥

-- what a log that the client has seen may hold of its own call that is not over
abbrev pub MayHold : ℕ → ℕ → Own → List AnyEntry → Type 0
MayHold x c (own.Waiting q) now = (now ≡ []) ⊎ ((a : AnyAnswer) × (now ≡ logged_on x c q a))
MayHold x c o now = now ≡ []

-- Of the client's own calls on x this log holds just those that are over and were not refused, each
-- once and in order, and perhaps the one that is not over.
abbrev pub IsAccount : ℕ → DeskView → List AnyEntry → Type 0
IsAccount x v log =
    (now : List AnyEntry) × (entries_of_client v.number log ≡ served x v.number v.done ++ now)
    × MayHold x v.number v.own now

-- a call on x was posted and its answer was not taken
abbrev pub waits_on : ℕ → Own → Bool
waits_on x (own.Waiting q) = q.object == x
waits_on x o = false

-- whether a call was posted and its answer was not taken
abbrev pub is_waiting : Own → Bool
is_waiting (own.Waiting q) = true
is_waiting o = false

-- one more try missed at this word: a load found nothing to do there, or an exchange found another
-- value
abbrev pub after_miss : ℕ → DeskView → DeskView
after_miss i v = record v { missed = v.missed ++ i ∷ [] }

-- The row word i had no request for x. At the own row, a request for x is then answered.
abbrev pub after_row_miss : ℕ → ℕ → DeskView → DeskView
after_row_miss i x v =
    record v {
      missed = v.missed ++ i ∷ [];
      ready = v.ready || ((i == row_place v.number) && waits_on x v.own);
    }

-- the object x was won once more by the client, which holds it, and this is its log
abbrev pub after_win : ℕ → List AnyEntry → DeskView → DeskView
after_win x l v = record v { held = held.Pass x l; won = v.won + 1 }

-- the request q of the row r is in hand
abbrev pub after_pick : ℕ → List AnyEntry → ℕ → AnyRequest → DeskView → DeskView
after_pick x l r q v =
    record v { held = held.Hand x l r q; back = filter (λ b. not (b.row == r)) v.back }

-- the request q of the row r was put back, and x is held with this log
abbrev pub after_put_back : ℕ → List AnyEntry → ℕ → AnyRequest → DeskView → DeskView
after_put_back x l r q v =
    record v { held = held.Pass x l; back = v.back ++ record { row = r; request = q } ∷ [] }

-- the row r is answered, and the object x has this log
abbrev pub after_answer : ℕ → ℕ → List AnyEntry → DeskView → DeskView
after_answer r x l v = record v { held = held.Pass x l; ready = v.ready || (r == v.number) }

-- the object x is released with this log
abbrev pub after_release : ℕ → List AnyEntry → DeskView → DeskView
after_release x l v = record v { held = held.Free; back = []; seen = slice_set v.seen x l }

-- the own call is at this point
abbrev pub with_own : Own → DeskView → DeskView
with_own o v = record v { own = o }

-- the own call is answered, and this log of its object was seen
abbrev pub after_take : AnyRequest → AnyAnswer → List AnyEntry → DeskView → DeskView
after_take q a l v =
    record v { own = own.Taken q a; ready = false; seen = slice_set v.seen q.object l }

-- the own call is over, and its return has the ticket t
abbrev pub after_return : AnyRequest → AnyAnswer → ℕ → DeskView → DeskView
after_return q a t v =
    record v
    { own = own.Idle; done = v.done ++ record { request = q; answer = a; returned = t } ∷ [] }

-- this log of the object x was seen
abbrev pub after_meet : ℕ → List AnyEntry → DeskView → DeskView
after_meet x l v = record v { seen = slice_set v.seen x l }

-- the client has ended
abbrev pub after_end : DeskView → DeskView
after_end v = record v { ended = true }

-- what the client says about its own end
abbrev pub end_notice : DeskView → Leaving
end_notice v = record { client = v.number; journal = journal v }

-- the client has got the messages of clients that have ended
abbrev pub after_notice : List Leaving → DeskView → DeskView
after_notice ls v = record v { left = v.left ++ ls }

-- the client d was found to have ended
abbrev pub after_end_seen : ℕ → DeskView → DeskView
after_end_seen d v = record v { retired = v.retired ++ d ∷ [] }

-- the client d was looked for, and had not ended
abbrev pub after_end_unset : ℕ → DeskView → DeskView
after_end_unset d v = record v { still_there = v.still_there ++ d ∷ [] }

-- the view of a message that carries only what v has seen
abbrev pub seen_message : DeskView → DeskView
seen_message v = record (new_client [] [] 0) { role = role.Message; seen = v.seen }

-- the client's view after a message came whose view is t
abbrev pub after_message : DeskView → DeskView → DeskView
after_message v t = record v { received = t.seen }

-- the view of a message that says nothing, as each does after it has come
abbrev pub empty_message : DeskView
empty_message = record (new_client [] [] 0) { role = role.Message }

-- the view of a message that carries only the end of v
abbrev pub end_message : DeskView → DeskView
end_message v = record empty_message { left = end_notice v ∷ [] }
