-- What holds between any two steps of a search.
use Rattle.std.specs.Prelude.{◌≡◌, ℕ, ℤ, pos, ◌<◌, ◌≤◌, ◌⊎◌, List, [], ◌∷◌, Some, IsSome, All}
use Rattle.std.specs.Prelude.{length, map, reverse}
use Rattle.model.specs.Objects.{Content, empty}
use Rattle.model.specs.Orders.{Call, Return}
use Rattle.model.specs.Lists.{In}
use Rattle.order_search.specs.Undoing.{reversible_content, content_kept, undone}
use Rattle.order_search.specs.declared.step.Step.{Step}
use Rattle.order_search.specs.declared.level.Level.{Level}
use Rattle.order_search.specs.declared.level.Window.{Window}
use Rattle.order_search.specs.declared.trials.Trials.{Trials}
use Rattle.order_search.specs.declared.pairs.Pair.{Pair}
use Rattle.order_search.specs.declared.dead.Dead.{Dead}
use Rattle.order_search.specs.declared.walk.State.{State}
use Rattle.order_search.specs.Arranged.{call_at, owes, count_below, IsArranged, no_return}
use Rattle.order_search.specs.Continuations.{IsLeft, IsCandidate, DoesCall, Continues, IsDead}
use Rattle.order_search.specs.Continuations.{IsDeadAt, IsTried, IsDeadPair}
use Rattle.order_search.specs.Links.{Linked, IsStop, AreWithin, next_with, before_with}

-- the places of the calls that the levels of a search placed
abbrev pub places : List Level → List ℕ
places ls = map (λ l. l.place) ls

-- the least return among the calls that are left, or a number that is not a return
pub record IsLeast (n : ℕ) (call : ℕ → Call) (done : List ℕ) (least : ℕ) : Type 0 where
  pub below : (j : ℕ) (r : Return) → IsLeft n done j → (call j).returned ≡ Some r → least ≤ r.at
  pub stands : (least ≡ no_return)
      ⊎ ((j : ℕ) × (r : Return) × IsLeft n done j × ((call j).returned ≡ Some r) × (least ≡ r.at))

-- the least return, and a place that is left, or the end: all that are left below it have returned
pub record IsWindow (n : ℕ) (call : ℕ → Call) (done : List ℕ) (window : Window) : Type 0 where
  pub is_least : IsLeast n call done window.least
  pub returned : (k : ℕ) → k < window.pending → IsLeft n done k → IsSome (call k).returned
  pub stop : IsStop n done window.pending

-- one level: what was placed, from which content to which
pub record Frame (n : ℕ) (call : ℕ → Call) (done : List ℕ) (before after : Content)
    (place : ℕ) (window : Window) : Type 0 where
  pub left : IsLeft n done place
  pub candidate : IsCandidate n call done place
  pub placed : DoesCall call place before after
  pub tried : IsTried n call done before place
  pub is_window : IsWindow n call done window

-- the contents before the levels, the last one first, by what undoes each
abbrev pub befores : List Level → Content → List Content
befores [] c = []
befores (l ∷ ls) c = undone l.undo c ∷ befores ls (undone l.undo c)

-- every place that is done is below this number
abbrev pub IsBound : List ℕ → ℕ → Type 0
IsBound done high = (k : ℕ) → In k done → k < high

-- Where a search is: what the object contains, the links of the places that are left, and a number
-- that no place of a level reaches.
pub record Position : Type 0 where
  pub content : Content
  pub next : List ℕ
  pub back : List ℕ
  pub high : ℕ

-- how a search goes on: the place that it tries next, its window, and how many of the calls that
-- returned it has still to place
pub record Turn : Type 0 where
  pub at : ℕ
  pub window : Window
  pub left : ℕ

-- the position before a level, with the content that was there
abbrev pub position_before : Level → Content → Position → Position
position_before l content here = record {
  content = content;
  next = next_with here.next here.back l.place;
  back = before_with here.next here.back l.place;
  high = l.high;
}

-- The levels of a search, the last one first, with the content before each, lead from the content
-- `start` to this position. Each level placed one call; without it the search is at the position
-- to which the levels below it lead.
abbrev pub Stack : (n : ℕ) (call : ℕ → Call) → Content → List Level → List Content → Position
    → Type 0
Stack n call start [] [] here = (here.content ≡ start) × Linked n [] here.next here.back
Stack n call start [] (b ∷ before) here = ⊥
Stack n call start (l ∷ levels) [] here = ⊥
Stack n call start (l ∷ levels) (b ∷ before) here =
    Frame n call (places levels) b here.content l.place l.window
    × Linked n (l.place ∷ places levels) here.next here.back
    × IsBound (l.place ∷ places levels) here.high × AreWithin here.next here.back l.place
    × Stack n call start levels before (position_before l b here)

-- The search has these levels, with the contents before them, and all places before the one that it
-- tries next lead to nothing.
pub record IsWalk (n : ℕ) (call : ℕ → Call) (start : Content) (levels : List Level)
    (before : List Content) (here : Position) (turn : Turn) : Type 0 where
  pub stack : Stack n call start levels before here
  pub tried : IsTried n call (places levels) here.content turn.at
  pub is_window : IsWindow n call (places levels) turn.window
  pub stop : IsStop n (places levels) turn.at
  pub counts : turn.left ≡ count_below (owes call (places levels)) n
  pub owed : 0 < turn.left

-- the operations are arranged for a search
abbrev pub AreTrials : Trials → Type 0
AreTrials t =
    IsArranged t.kind t.items.items t.floors.items t.return_floors.items t.pending

-- the places make an order of all calls that returned, from the empty content
abbrev pub IsOrder : Trials → List ℕ → Type 0
IsOrder t rest = Continues (length t.items.items) (call_at t.items.items) [] (empty t.kind) rest

-- no places make an order of all calls that returned, from the empty content
abbrev pub IsNoOrder : Trials → Type 0
IsNoOrder t = IsDead (length t.items.items) (call_at t.items.items) [] (empty t.kind)

-- no order of all calls that returned begins with the calls that the search has placed
abbrev pub IsDeadHere : Trials → State → Type 0
IsDeadHere t s =
    IsDead (length t.items.items) (call_at t.items.items) (places (reverse s.levels.items))
    (reversible_content s.object)

-- no order of all calls that returned begins with the calls that the search has placed, followed by
-- the one at place k
abbrev pub IsDeadAtPlace : Trials → State → ℕ → Type 0
IsDeadAtPlace t s k =
    IsDeadAt (length t.items.items) (call_at t.items.items) (places (reverse s.levels.items))
    (reversible_content s.object) k

-- this many of the calls returned
abbrev pub AreOwed : Trials → ℕ → Type 0
AreOwed t left = left ≡ count_below (owes (call_at t.items.items) []) (length t.items.items)

-- the remembered pair is dead: no order of all calls that returned goes on from its calls and its
-- content
abbrev pub IsPairDead : Trials → Pair → Type 0
IsPairDead t p =
    IsDeadPair (length t.items.items) (call_at t.items.items) p.high p.not_done.items
    (content_kept p.content)

-- each of these remembered pairs is dead: no order goes on from its calls and its content
abbrev pub AreDead : Trials → List Pair → Type 0
AreDead t pairs = All (IsPairDead t) pairs

-- the remembered pairs of both generations are dead: no order goes on from the calls and the
-- content of one
pub record AreAllDead (t : Trials) (d : Dead) : Type 0 where
  pub older : AreDead t d.older.pairs.items
  pub younger : AreDead t d.younger.pairs.items

-- where the search is, if its object has this content
abbrev pub position_at : State → Content → Position
position_at s c = record {
  content = c;
  next = s.not_done.next.items;
  back = s.not_done.before.items;
  high = s.high;
}

-- how the search goes on: the place that it tries next, its window, and how many of the calls that
-- returned it has still to place
abbrev pub turn_of : State → Turn
turn_of s = record { at = s.at; window = s.window; left = s.left }

-- a search is between two steps, at this content
pub record IsSearchingAt (t : Trials) (s : State) (c : Content) : Type 0 where
  pub walk : IsWalk (length t.items.items) (call_at t.items.items) (empty t.kind)
      (reverse s.levels.items) (befores (reverse s.levels.items) c) (position_at s c) (turn_of s)
  pub dead : AreAllDead t s.dead

-- the search is between two steps, at the content of its object
abbrev pub IsSearching : Trials → State → Type 0
IsSearching t s = IsSearchingAt t s (reversible_content s.object)

-- the content that the search's object had before this step
abbrev pub content_before : State → Step → Content
content_before s step = undone step.undo (reversible_content s.object)

-- these are the numbers of the calls in an order of all calls that returned
pub record IsOrderOfTrials (t : Trials) (order : List ℤ) : Type 0 where
  pub rest : List ℕ
  pub goes_on : IsOrder t rest
  pub numbers : order ≡ map (λ k. pos (call_at t.items.items k).number) rest
