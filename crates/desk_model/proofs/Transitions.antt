-- Each transition keeps the invariant of the world. By cases on the transition: what it changes is in `Effects`, and
-- what it leaves is as it was.
use Rattle.std.proofs.Common.{◌≡◌, ℕ, ◌<◌, List, Some, None, refl, sym, ap, subst, ◌∙◌}
use Rattle.model.specs.declared.Kind.{Kind}
use Rattle.model.specs.Objects.{empty}
use Rattle.desk_model.specs.World.{AnyRequest, posted, picked, taken, World, kind_at, served_now, request_of}
use Rattle.desk_model.specs.Transitions.{Step, draw_call, draw_return, post, win, pick, answer, put_back, take, release}
use Rattle.desk_model.specs.Transitions.{end, Takes, Transition}
use Rattle.desk_model.specs.Sound.{Sound}
use Rattle.desk_model.proofs.Entries.{replays_more}
use Rattle.desk_model.proofs.Effects.{sound_held, sound_ended, sound_staged, sound_called, sound_returned, sound_picked}
use Rattle.desk_model.proofs.Effects.{sound_put_back, sound_served}

module _ (kinds : List Kind) (quota : ℕ) where
  abbrev S : World → Type 0
  S = Sound kinds quota

  -- the request in hand is for the object that is held
  on_object : (world : World) (object row : ℕ) (request : AnyRequest) → world.hand object ≡ Some row
      → world.stage row ≡ picked request → S world → request.object ≡ object
  on_object world object row request held is sound =
      let (q, at, on) = sound.in_hand object row held in
      let f : picked request ≡ picked q = sym is ∙ at in
      let same : request ≡ q = cc in
      ap (λ z. z.object) same ∙ on

  -- the world is sound after each step that a client may take
  takes_sound : (step : Step) (world world' : World) (client : ℕ) → client < 32
      → Takes kinds quota step world client world' → S world → S world'
  takes_sound (draw_call object op) world world' client low took sound =
      subst S (sym took.after)
      (sound_called kinds quota world client (record { object = object; ticket = world.clock; op = op }) low took.was
      took.calls_left took.on_object took.of_kind refl sound)
  takes_sound draw_return world world' client low took sound =
      subst S (sym took.after)
      (sound_returned kinds quota world client world.clock took.request took.given low took.was refl sound)
  takes_sound post world world' client low took sound =
      subst S (sym took.after)
      (sound_staged kinds quota world client (posted took.request) (λ q e. absurd cc) (λ q e. absurd (cc))
      (ap request_of (sym took.was)) (λ e. absurd (cc)) (λ y. ap (served_now y client) (sym took.was)) sound)
  takes_sound (win object) world world' client low took sound =
      subst S (sym took.after) (sound_held kinds quota world object (Some client) (λ e. absurd (cc)) sound)
  takes_sound (pick row) world world' client low took sound =
      subst S (sym took.after)
      (sound_picked kinds quota world took.object row client took.request took.was took.for_object took.held took.free
      sound)
  takes_sound answer world world' client low took sound =
      let object : ℕ = took.object in
      let row : ℕ = took.row in
      let request : AnyRequest = took.request in
      let (holds, held, is, replayed) = took.in_hand in
      let on = on_object world object row request held is sound in
      let more = replays_more (empty (kind_at kinds object)) took.content took.left (world.log object) row request
      took.given replayed took.serves in
      subst S (sym took.after)
      (sound_served kinds quota world object row client request took.given is on holds held (took.left, more) sound)
  takes_sound put_back world world' client low took sound =
      let object : ℕ = took.object in
      let row : ℕ = took.row in
      let (holds, held, is, replayed) = took.in_hand in
      let on = on_object world object row took.request held is sound in
      subst S (sym took.after) (sound_put_back kinds quota world object row client took.request is on holds held sound)
  takes_sound take world world' client low took sound =
      subst S (sym took.after)
      (sound_staged kinds quota world client (taken took.request took.given) (λ q e. absurd cc) (λ q e. absurd (cc))
      (ap request_of (sym took.was)) (λ e. absurd (cc)) (λ y. ap (served_now y client) (sym took.was)) sound)
  takes_sound release world world' client low took sound =
      subst S (sym took.after) (sound_held kinds quota world took.object None (λ _. took.free) sound)
  takes_sound end world world' client low took sound =
      subst S (sym took.after) (sound_ended kinds quota world client sound)

  -- each step keeps the world sound
  pub transition_keeps_soundness : (step : Step) (world world' : World) (client : ℕ)
      → Transition kinds quota step world client world' → S world → S world'
  transition_keeps_soundness step world world' client transition sound =
      takes_sound step world world' client transition.0 transition.3 sound
