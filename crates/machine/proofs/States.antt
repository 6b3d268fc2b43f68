-- A write to a field of a machine changes its world at one number: the function of the world has the new value there,
-- and is as before elsewhere. A lemma for each field, by the lists of `Lists`.
use Rattle.std.proofs.Common.{◌≡◌, ℕ, ◌+◌, ◌<◌, List, [], ◌++◌, length, Option, None, true, false, set, get_or, map}
use Rattle.std.proofs.Common.{ap, ◌∙◌}
use Rattle.std.proofs.lemmas.List.{map-set, length-map}
use Rattle.desk_model.specs.World as world
use Rattle.desk_model.specs.World.{AnyRequest, AnyAnswer, AnyEvent, logged}
use Rattle.desk_model.specs.Transitions.{changed, staged, ticked, held_by, handed, served_by, ended_by}
use Rattle.machine.specs.declared.step.Stage.TheVariants.{Answered}
use Rattle.machine.specs.Machines.{State, AnyStage, world_of, stage_of, done_in}
use Rattle.machine.proofs.Lists.{get_or-set, get_or-set_by}

staged_at : (s : State) (c : ℕ) (t : AnyStage) → c < length s.stages → (j : ℕ)
    → get_or (map stage_of (set s.stages c t)) j world.absent
    ≡ changed (λ k. get_or (map stage_of s.stages) k world.absent) c (stage_of t) j
staged_at s c t low j =
    ap (λ xs. get_or xs j world.absent) (map-set stage_of s.stages c t)
    ∙ get_or-set (map stage_of s.stages) c (stage_of t) world.absent (simp length-map low) j

-- the stage of one client is written
pub world-staged : (state : State) (client : ℕ) (t : AnyStage) → client < length state.stages
    → world_of (record state { stages = set state.stages client t }) ≡ staged (world_of state) client (stage_of t)
world-staged state client t low = λ i. record (world_of state) { stage = λ j. staged_at state client t low j i }

-- the holder of one object is written
pub world-held : (state : State) (object : ℕ) (h : Option ℕ) → object < length state.holders
    → world_of (record state { holders = set state.holders object h }) ≡ held_by (world_of state) object h
world-held state object h low =
    λ i. record (world_of state) { holder = λ j. get_or-set state.holders object h None low j i }

pub world-ended : (state : State) (client : ℕ) → client < length state.ended
    → world_of (record state { ended = set state.ended client true }) ≡ ended_by (world_of state) client
world-ended state client low =
    λ i. record (world_of state) { ended = λ j. get_or-set state.ended client true false low j i }

-- a ticket is drawn: the clock goes on, the stage of one client is written, and its journal
pub world-ticked : (state : State) (client : ℕ) (t : AnyStage) (js : List AnyEvent) → client < length state.stages
    → client < length state.journals
    → world_of (record state {
      clock = state.clock + 1;
      stages = set state.stages client t;
      journals = set state.journals client js;
    }) ≡ ticked (world_of state) client (stage_of t) (done_in js)
world-ticked state client t js low within =
    λ i. record (world_of state) {
      clock = state.clock + 1;
      stage = λ j. staged_at state client t low j i;
      done = λ j. get_or-set_by done_in state.journals client js [] within j i;
    }

-- the hand of one object and the stage of one row are written
pub world-handed : (state : State) (object : ℕ) (h : Option ℕ) (row : ℕ) (t : AnyStage) → object < length state.hands
    → row < length state.stages
    → world_of (record state { hands = set state.hands object h; stages = set state.stages row t })
    ≡ handed (world_of state) object h row (stage_of t)
world-handed state object h row t low within =
    λ i. record (world_of state)
    { hand = λ j. get_or-set state.hands object h None low j i; stage = λ j. staged_at state row t within j i }

-- also the log of the object
pub world-served : (state : State) (object row : ℕ) (request : AnyRequest) (given : AnyAnswer)
    → object < length state.hands → object < length state.logs → row < length state.stages
    → world_of (record state {
      logs = set state.logs object (get_or state.logs object [] ++ logged row request given);
      hands = set state.hands object None;
      stages = set state.stages row (Answered request given);
    }) ≡ served_by (world_of state) object row request given
world-served state object row request given low there within =
    λ i. record (world_of state) {
      hand = λ j. get_or-set state.hands object None None low j i;
      stage = λ j. staged_at state row (Answered request given) within j i;
      log =
          λ j. get_or-set state.logs object (get_or state.logs object [] ++ logged row request given) [] there j i;
    }
