-- A look at the machine's fields tells its state: an element of a list is that of the world with this number
-- (`seen_at`), and a client that has come is one of the list (`stage_there`).
use Rattle.std.proofs.Common.{◌≡◌, ◌≢◌, ℕ, zero, suc, ◌*◌, ◌<◌, List, [], ◌∷◌, length, Option, Some, None}
use Rattle.std.proofs.Common.{IsSome, IfSome, get_or, map, refl, ap, sym, ◌∙◌, subst, arith, slice_get}
use Rattle.std.specs.declared.vec.Vec.{Vec}
use Rattle.std.proofs.lemmas.List.{length-map, get_or-map, get_or_past}
use Rattle.model.specs.declared.Kind.{Kind}
use Rattle.model.specs.declared.AnyOp.{AnyOp}
use Rattle.model.specs.Objects.{Content, empty, next, kind_with}
use Rattle.recorder.specs.Records.{items_of_each}
use Rattle.desk_model.specs.World as world
use Rattle.desk_model.specs.World.{AnyDone, journal_of, kind_at, calls_made, request_of, Replays}
use Rattle.desk_model.proofs.SameKind.{replays_once}
use Rattle.machine.specs.Machines.{State, IsMachine, clients_of, world_of, stage_of}
use Rattle.machine.specs.Steps.{CanDo, HasContent, HasPicked}
use Rattle.machine.proofs.WorldRuns.{run_sound}

-- a list in a list of lists, of which each element is seen through f
pub length_seen : {A B Z : Type 0} (f : A → B) (vs : List (Vec A Z)) (c : ℕ) (v : Vec A Z) → c < length vs
    → v ≡ get_or vs c v → length (get_or (map (map f) (items_of_each vs)) c []) ≡ length v.items
length_seen f vs c v low read =
    ap length (get_or-map (map f) (items_of_each vs) c v.items [] (simp length-map low)
    ∙ ap (map f) (get_or-map (λ w. w.items) vs c v v.items low ∙ ap (λ w. w.items) (sym read))) ∙ simp length-map

pub length-journal_of : (ds : List AnyDone) → length (journal_of ds None) ≡ 2 * length ds
length-journal_of [] = refl
length-journal_of (d ∷ ds) = let e = length-journal_of ds in omega arith

-- a client that is there, by its stage
pub stage_there : (s : State) (c : ℕ) → (world_of s).stage c ≢ world.absent → c < clients_of s
stage_there s c is = grind (arith, get_or_past (map stage_of s.stages) c world.absent, length-map s.stages stage_of)

-- an element that was read at a place is there
pub slice_get_read : {A : Type 0} (xs : List A) (i : ℕ) (v : A) → i < length xs → v ≡ get_or xs i v
    → slice_get xs i ≡ Some v
slice_get_read [] i v low e = absurd (omega arith)
slice_get_read (x ∷ xs) zero v low e = ap Some (sym e)
slice_get_read (x ∷ xs) (suc i) v low e = slice_get_read xs i v (omega arith) e

-- an element that is there, seen through f
pub seen_at : {A B : Type 0} (f : A → B) (xs : List A) (i : ℕ) (v : A) → i < length xs → v ≡ get_or xs i v
    → slice_get (map f xs) i ≡ Some (f v)
seen_at f [] i v low e = absurd (omega arith)
seen_at f (x ∷ xs) zero v low e = ap (λ z. Some (f z)) (sym e)
seen_at f (x ∷ xs) (suc i) v low e = seen_at f xs i v (omega arith) e

module _ {contents : List Content} {s : State} (m : IsMachine contents s) where
  -- an idle client has made half as many calls as its journal has events
  pub calls_half : (c : ℕ) → (world_of s).stage c ≡ world.idle
      → length (get_or s.journals c []) ≡ 2 * calls_made ((world_of s).done c) None
  calls_half c idle =
      let ds : List AnyDone = (world_of s).done c in
      let long : length (get_or s.journals c []) ≡ 2 * length ds =
      ap length (m.journals_are c ∙ ap (λ t. journal_of ds (request_of t)) idle) ∙ length-journal_of ds in
      omega arith

  -- what is in hand is a request for the object that stands picked up in a client's row
  pub in_row : (x r : ℕ) → (world_of s).hand x ≡ Some r → HasPicked s x r
  in_row x r held =
      let k = run_sound s.kinds (clients_of s) s.quota (world_of s) m.run in
      let b = k.in_hand x r held in
      (b.0, b.1, b.2, (k.fitting r b.0 (ap request_of b.1)).0 ∙ ap (kind_at s.kinds) b.2)

  pub row_there : (x r : ℕ) → (world_of s).hand x ≡ Some r → r < clients_of s
  row_there x r held = let q = in_row x r held in stage_there s r (λ none. absurd cc)

  -- Whether the object can do an operation is told by what it contains.
  pub can_do : (x : ℕ) (c : Content) (op : AnyOp) → slice_get contents x ≡ Some c → kind_at s.kinds x ≡ kind_with c
      → IsSome (next c op) → CanDo s x op
  can_do x c op at kind can =
      (c, subst (λ (k : Kind). Replays (empty k) (get_or s.logs x []) c) (sym kind) (m.fits x c at), can)

  -- the log of an object leaves what the object contains
  pub has_content : (x : ℕ) (c : Content) → slice_get contents x ≡ Some c → kind_at s.kinds x ≡ kind_with c
      → HasContent s x
  has_content x c at kind =
      (c, subst (λ (k : Kind). Replays (empty k) (get_or s.logs x []) c) (sym kind) (m.fits x c at))

  -- the object itself can do the operation if one of its kind can after its log
  pub can_do_only : (x : ℕ) (c : Content) (op : AnyOp) → slice_get contents x ≡ Some c
      → kind_at s.kinds x ≡ kind_with c → CanDo s x op → IsSome (next c op)
  can_do_only x c op at kind h = subst (λ (z : Content). IsSome (next z op))
      (replays_once (empty (kind_with c)) h.0 c (get_or s.logs x [])
      (subst (λ (k : Kind). Replays (empty k) (get_or s.logs x []) h.0) kind h.1) (m.fits x c at)) h.2

  -- the row in the hand of an object's holder has a request for the object that was picked up
  pub if_picked : (x : ℕ) (h : Option ℕ) → (world_of s).hand x ≡ h
      → IfSome h (λ r. (r < clients_of s) × HasPicked s x r)
  if_picked x None e = tt
  if_picked x (Some r) e = (row_there x r e, in_row x r e)
