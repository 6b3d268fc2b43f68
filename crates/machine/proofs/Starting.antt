-- The lists of a new machine are the world at the start (`world-start`), and they make a machine (`machine_start`).
-- By the laws of lists in which one value is repeated.
use Rattle.std.proofs.Common.{◌≡◌, ℕ, zero, suc, ◌+◌, ◌<◌, List, [], ◌∷◌, ◌++◌, length, replicate, Option, Some, None}
use Rattle.std.proofs.Common.{Bool, true, false, nat_lt, if◌then◌else◌, get_or, map, slice_get, refl, ap, sym, ◌∙◌}
use Rattle.std.proofs.Common.{subst, arith}
use Rattle.std.proofs.lemmas.List.{length-map, map-append, get_or-replicate, get_or_past, length-replicate}
use Rattle.std.proofs.lemmas.List.{replicate-append-replicate}
use Rattle.std.proofs.lemmas.Option.{same_Some}
use Rattle.std.proofs.lemmas.Bool.Decides.{nat_tests}
use Rattle.std.specs.declared.vec.Vec.{Vec}
use Rattle.recorder.specs.Records.{items_of_each}
use Rattle.desk_model.specs.declared.LogEntry.{LogEntry}
use Rattle.desk_model.specs.declared.JournalEvent.{JournalEvent}
use Rattle.desk_model.specs.Images.{entry_in, event_in}
use Rattle.machine.specs.declared.step.Stage.{Stage}
use Rattle.model.specs.declared.Kind.{Kind}
use Rattle.model.specs.declared.AnyOp.{AnyOp}
use Rattle.model.specs.declared.AnyReply.{AnyReply}
use Rattle.model.specs.Objects.{Content, empty, kind_with}
use Rattle.desk_model.specs.World as world
use Rattle.desk_model.specs.World.{AnyEntry, World, request_of, journal_of, journal_in, Replays}
use Rattle.machine.specs.declared.step.Stage.TheVariants.{Idle}
use Rattle.machine.specs.Machines.{State, IsMachine, world_of, state_of, stage_in, stage_of, done_in}
use Rattle.machine.specs.Runs.{start_world, IsWorldOfRun}

pub get_or-copies : {A : Type 0} (n : ℕ) (v : A) (i : ℕ) → get_or (replicate n v) i v ≡ v
get_or-copies zero v i = refl
get_or-copies (suc n) v zero = refl
get_or-copies (suc n) v (suc i) = get_or-copies n v i

-- one more copy at the end
pub copies_more : {A : Type 0} (n : ℕ) (v : A) → replicate n v ++ v ∷ [] ≡ replicate (n + 1) v
copies_more n v = replicate-append-replicate n 1 v

pub map-copies : {A B : Type 0} (f : A → B) (n : ℕ) (v : A) → map f (replicate n v) ≡ replicate n (f v)
map-copies f zero v = refl
map-copies f (suc n) v = ap (λ vs. f v ∷ vs) (map-copies f n v)

-- each client is idle, and no client has come past the last one
pub at_start : (n c : ℕ)
    → get_or (replicate n world.idle) c world.absent ≡ (if nat_lt c n then world.idle else world.absent)
at_start n c = let long = length-replicate n world.idle in
    grind (arith, nat_tests, get_or-replicate n c world.idle world.absent, get_or_past (replicate n world.idle) c)

-- the state at the start, of n objects and m clients
abbrev pub start_state : List Kind → ℕ → ℕ → ℕ → State
start_state kinds n m quota = record {
  kinds = kinds;
  logs = replicate n [];
  holders = replicate n None;
  hands = replicate n None;
  stages = replicate m Idle;
  journals = replicate m [];
  ended = replicate m false;
  clock = 0;
  quota = quota;
}

pub world-start : (kinds : List Kind) (n m quota : ℕ) → world_of (start_state kinds n m quota) ≡ start_world m
world-start kinds n m quota = λ i. record (start_world m) {
  holder = λ x. get_or-copies n None x i;
  hand = λ x. get_or-copies n None x i;
  log = λ x. get_or-copies n [] x i;
  stage = λ c. stage_at c i;
  done = λ c. ap done_in (get_or-copies m [] c) i;
  ended = λ c. get_or-copies m false c i;
}
  where
    stage_at : (c : ℕ) → get_or (map stage_of (replicate m Idle)) c world.absent
        ≡ (if nat_lt c m then world.idle else world.absent)
    stage_at c = ap (λ ts. get_or ts c world.absent) (map-copies stage_of m Idle) ∙ at_start m c

no_request : (b : Bool) → request_of (if b then world.idle else world.absent) ≡ None
no_request true = refl
no_request false = refl

-- a machine begins with empty objects, up to 16 of them, up to 32 clients, and room for 10,000 calls of each
pub machine_start : (contents : List Content) (clients quota : ℕ) → length contents < 17 → clients < 33 → quota < 10001
    → ((x : ℕ) (c : Content) → slice_get contents x ≡ Some c → c ≡ empty (kind_with c))
    → IsMachine contents (start_state (map kind_with contents) (length contents) clients quota)
machine_start contents clients quota few_objects few_clients few_calls empties =
    let objects = length contents in
    let state = start_state (map kind_with contents) objects clients quota in
    let is : world_of state ≡ start_world clients = world-start (map kind_with contents) objects clients quota in
    let kinds_long : length (map kind_with contents) ≡ objects = simp length-map in
    record {
      kinds = refl;
      logs = length-replicate objects [] ∙ sym kinds_long;
      holders = length-replicate objects None ∙ sym kinds_long;
      hands = length-replicate objects None ∙ sym kinds_long;
      journals = length-replicate clients [] ∙ sym (length-replicate clients Idle);
      ended = length-replicate clients false ∙ sym (length-replicate clients Idle);
      few_objects = omega arith;
      few_clients = subst (λ (k : ℕ). k < 33) (sym (length-replicate clients Idle)) few_clients;
      few_calls = few_calls;
      fits = λ x c at. subst (λ (l : List AnyEntry). Replays (empty (kind_with c)) l c)
          (sym (get_or-copies objects [] x))
          (sym (empties x c at));
      journals_are = λ c. get_or-copies clients [] c
          ∙ sym (ap (λ (w : World). journal_in w c) is ∙ ap (journal_of []) (no_request (nat_lt c clients)));
      single = λ c x y a. let e : None ≡ Some c = sym (get_or-copies objects None x) ∙ a in absurd (cc);
      run = subst (λ (k : ℕ). IsWorldOfRun (map kind_with contents) k quota (world_of state))
          (sym (length-replicate clients Idle))
          ([], is);
    }

pub items_of-more : {A Z : Type 0} (vs : List (Vec A Z)) (v : Vec A Z)
    → items_of_each (vs ++ v ∷ []) ≡ items_of_each vs ++ v.items ∷ []
items_of-more vs v = map-append (λ w. w.items) vs (v ∷ [])

kinds_twice : {S : Type 0} (content : S → Content) (objects : List S)
    → map (λ o. kind_with (content o)) objects ≡ map kind_with (map content objects)
kinds_twice content [] = refl
kinds_twice content (o ∷ os) = ap (λ ks. kind_with (content o) ∷ ks) (kinds_twice content os)

-- the fields of a new machine are those of the start
pub made_start : {S O R : Type 0} (content : S → Content) (op_in : O → AnyOp) (reply_in : R → AnyReply)
    (objects : List S) (n m quota : ℕ) {logs : List (List (LogEntry O R))} {holders hands : List (Option ℕ)}
    {stages : List (Stage O R)} {journals : List (List (JournalEvent O R))} {ended : List Bool}
    → logs ≡ replicate n [] → holders ≡ replicate n None → hands ≡ replicate n None → stages ≡ replicate m Idle
    → journals ≡ replicate m [] → ended ≡ replicate m false
    → state_of content op_in reply_in objects logs holders hands stages journals ended 0 quota
    ≡ start_state (map kind_with (map content objects)) n m quota
made_start content op_in reply_in objects n m quota l h a s j e = λ i. record {
  kinds = kinds_twice content objects i;
  logs = (ap (map (map (entry_in op_in reply_in))) l ∙ map-copies (map (entry_in op_in reply_in)) n []) i;
  holders = h i;
  hands = a i;
  stages = (ap (map (stage_in op_in reply_in)) s ∙ map-copies (stage_in op_in reply_in) m Idle) i;
  journals = (ap (map (map (event_in op_in reply_in))) j ∙ map-copies (map (event_in op_in reply_in)) m []) i;
  ended = e i;
  clock = 0;
  quota = quota;
}

-- each object is empty, by number
pub empties_at : {S : Type 0} (content : S → Content) (objects : List S)
    → ((i : ℕ) (d : S) → i < length objects
    → content (get_or objects i d) ≡ empty (kind_with (content (get_or objects i d)))) → (x : ℕ) (c : Content)
    → slice_get (map content objects) x ≡ Some c → c ≡ empty (kind_with c)
empties_at content [] all x c at = absurd (cc)
empties_at content (o ∷ os) all zero c at =
    let here = all 0 o (omega arith) in
    let same = same_Some (content o) c at in
    subst (λ (z : Content). z ≡ empty (kind_with z)) same here
empties_at content (o ∷ os) all (suc x) c at = empties_at content os (λ i d low. all (suc i) d (omega arith)) x c at
