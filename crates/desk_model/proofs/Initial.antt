-- The initial world is sound, and stays sound when a client comes: each field of `Sound` is shown by itself.
use Rattle.std.proofs.Common.{◌≡◌, ℕ, ◌<◌, List, refl, sym, ap, arith}
use Rattle.std.proofs.lemmas.List.Elements.{All-nil}
use Rattle.model.specs.declared.Kind.{Kind}
use Rattle.model.specs.Objects.{empty}
use Rattle.desk_model.specs.World.{AnyEntry, absent, idle, World, initial_world, kind_at, request_of, served_now}
use Rattle.desk_model.specs.Transitions.{staged}
use Rattle.desk_model.specs.Sound.{Sound, IsAmong, IsInTime}
use Rattle.desk_model.proofs.Effects.{sound_staged}

-- the world is sound at the start
pub sound_initial : (kinds : List Kind) (quota : ℕ) → Sound kinds quota initial_world
sound_initial kinds quota = record {
  legal = λ x. (empty (kind_at kinds x), refl);
  counted = λ c x. refl;
  in_hand = λ x r e. absurd (cc);
  picked_up = λ r q e. absurd (cc);
  empty_hand = λ x e. refl;
  fitting = λ c q e. absurd (cc);
  early = λ x. All-nil (λ (e : AnyEntry). e.ticket < 0);
  drawn = refl;
  within = λ c. omega arith;
  journals = record {
    tickets = record {
      rising = λ c i j d l m. absurd (omega arith);
      below = λ c. All-nil (λ t. t < 0);
      apart = λ c d t h. let l = h.1 in absurd (omega arith);
      each = λ t l. absurd (omega arith);
    };
    on_objects = λ c. All-nil (IsAmong kinds);
    in_time = λ c. All-nil (IsInTime initial_world c);
    not_come = λ c e. refl;
  };
}

-- the world stays sound when a client comes
pub sound_coming : (kinds : List Kind) (quota : ℕ) (world : World) (client : ℕ) → world.stage client ≡ absent
    → Sound kinds quota world → Sound kinds quota (staged world client idle)
sound_coming kinds quota world client was =
    sound_staged kinds quota world client idle (λ q e. absurd cc) (λ q e. absurd (cc))
    (ap request_of (sym was)) (λ e. absurd (cc)) (λ x. ap (served_now x client) (sym was))
