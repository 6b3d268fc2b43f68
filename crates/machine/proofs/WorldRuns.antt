-- A run keeps the world sound (`run_sound`), and draws few tickets (`run_few`). It begins in a sound world
-- (`start_sound`), and each transition keeps the invariant; by induction along the run.
use Rattle.std.proofs.Common.{◌≡◌, ◌≢◌, ℕ, ◌*◌, ◌<◌, ◌≤◌, Bool, List, [], ◌∷◌, nat_lt, if◌then◌else◌, Some, None, refl}
use Rattle.std.proofs.Common.{ap, sym, ◌∙◌, subst, arith}
use Rattle.std.proofs.lemmas.List.Elements.{All-nil}
use Rattle.model.specs.declared.Kind.{Kind}
use Rattle.model.specs.Objects.{empty}
use Rattle.desk_model.specs.World.{AnyEntry, AnyRequest, Stage, absent, idle, picked, World, kind_at, request_of}
use Rattle.desk_model.specs.World.{served_now, tickets_drawn, calls_made}
use Rattle.desk_model.specs.Transitions.{Step}
use Rattle.desk_model.specs.Sound.{Sound, IsAmong, IsInTime}
use Rattle.desk_model.proofs.Transitions.{transition_keeps_soundness}
use Rattle.desk_model.proofs.Effects.{clock_few}
use Rattle.desk_model.proofs.Totals.{total_le}
use Rattle.machine.specs.Runs.{start_world, Leads, IsWorldOfRun}

-- a client is idle or has not come
begun : Bool → Stage
begun b = if b then idle else absent

no_request : (b : Bool) → request_of (if b then idle else absent) ≡ None
no_request b = grind arith

nothing_served : (x c : ℕ) (b : Bool) → served_now x c (if b then idle else absent) ≡ []
nothing_served x c b = grind arith

not_picked : (b : Bool) (q : AnyRequest) → (if b then idle else absent) ≢ picked q
not_picked b q e = grind arith

pub start_sound : (kinds : List Kind) (quota n : ℕ) → Sound kinds quota (start_world n)
start_sound kinds quota n = record {
  legal = λ x. (empty (kind_at kinds x), refl);
  counted = λ c x. sym (nothing_served x c (nat_lt c n));
  in_hand = λ x r e. absurd (cc);
  picked_up = λ r q e. absurd (not_picked (nat_lt r n) q e);
  empty_hand = λ x e. refl;
  fitting = λ c q e. let f : None ≡ Some q = sym (no_request (nat_lt c n)) ∙ e in absurd (cc);
  early = λ x. All-nil (λ (e : AnyEntry). e.ticket < 0);
  drawn =
      let none = total_le (λ c. tickets_drawn [] (request_of ((start_world n).stage c))) 32 0
      (λ c l. let e = ap (tickets_drawn []) (no_request (nat_lt c n)) in omega arith) in omega arith;
  within = λ c. let e = ap (calls_made []) (no_request (nat_lt c n)) in omega arith;
  journals = record {
    tickets = record {
      rising = λ c. rw (no_request (nat_lt c n)) (λ i j d l m. absurd (omega arith));
      below = λ c. rw (no_request (nat_lt c n)) (All-nil (λ t. t < 0));
      apart = λ c d t h. let h' = rw (no_request (nat_lt c n)) at h in absurd (omega (arith, h'.1));
      each = λ t l. absurd (omega arith);
    };
    on_objects = λ c. rw (no_request (nat_lt c n)) (All-nil (IsAmong kinds));
    in_time = λ c. All-nil (IsInTime (start_world n) c);
    not_come = λ c e. refl;
  };
}

-- steps that lead from a sound world lead to one
leads_sound : (kinds : List Kind) (quota : ℕ) (start : World) (steps : List (ℕ × Step)) (after : World)
    → Leads kinds quota start steps after → Sound kinds quota start → Sound kinds quota after
leads_sound kinds quota start [] after leads sound = subst (Sound kinds quota) (sym leads) sound
leads_sound kinds quota start (step ∷ steps) after leads sound =
    leads_sound kinds quota leads.0 steps after leads.2 (transition_keeps_soundness kinds quota step.1 start leads.0
    step.0 leads.1 sound)

-- the world after a run is sound
pub run_sound : (kinds : List Kind) (n quota : ℕ) (w : World) → IsWorldOfRun kinds n quota w → Sound kinds quota w
run_sound kinds n quota w r = leads_sound kinds quota (start_world n) r.0 w r.1 (start_sound kinds quota n)

pub run_few : (kinds : List Kind) (n quota : ℕ) (w : World) → IsWorldOfRun kinds n quota w → w.clock ≤ 64 * quota
run_few kinds n quota w r = clock_few kinds quota w (run_sound kinds n quota w r)
