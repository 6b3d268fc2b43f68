-- A machine made from a schedule's header has as many empty objects as the header has kinds (`count_is`), each of its
-- own kind (`empty_more`). It takes the steps of the schedule in turn (`is_played`).
use Rattle.std.proofs.Common.{◌≡◌, ℕ, ◌+◌, ◌<◌, false, List, [], ◌∷◌, ◌++◌, length, map, All, ap, sym, ◌∙◌, subst}
use Rattle.std.proofs.Common.{arith}
use Rattle.std.proofs.lemmas.List.{map-append, length-map}
use Rattle.std.proofs.lemmas.List.Elements.{All-push}
use Rattle.std.proofs.lemmas.List.FromFn.{length-map-range_with_len, map-range_with_len_more}
use Rattle.model.specs.declared.AnyOp.{AnyOp}
use Rattle.model.specs.declared.AnyReply.{AnyReply}
use Rattle.model.specs.declared.Kind.{Kind}
use Rattle.model.specs.Objects.{empty, kind_with}
use Rattle.model.proofs.Objects.{kind_of_empty}
use Rattle.seq_objects.specs.declared.any_object.AnyObject.{AnyObject}
use Rattle.seq_objects.specs.AnyContent.{content_of}
use Rattle.desk_model.specs.World.{World, journal_in}
use Rattle.desk_model.specs.Records.{IsSoundRecord}
use Rattle.recorder.specs.Records.{Recorded}
use Rattle.recorder.specs.Histories.{journals_in, logs_in}
use Rattle.machine.specs.Machines.{State, HasRun, clients_of, world_of}
use Rattle.machine.specs.Runs.{start_world, TakesPossible, IsWorldOfRun}
use Rattle.machine.specs.Steps.{IsLike, HasEnded, steps_in}
use Rattle.simulation.specs.Schedules.{AnyStep}
use Rattle.simulation.specs.declared.header.Header.{Header}
use Rattle.seq_objects.specs.declared.kinds.Kinds.{Kinds}
use Rattle.seq_objects.specs.Kinds.{kind_in}
use Rattle.seq_objects.specs.Kinds as mixing
use Rattle.simulation.specs.Plays.{header_kinds, IsPlayed, Takes}
use Rattle.simulation.specs.Simulations.{IsGoingOn}

-- one object more, of the kind that the header has next
pub kinds_more : (kinds : Kinds) (i : ℕ) (old new : List AnyObject) (object : AnyObject)
    → map (λ o. kind_with (content_of o)) old ≡ mixing.kinds_of kinds i
    → content_of object ≡ empty (kind_in kinds i) → new ≡ old ++ object ∷ []
    → map (λ o. kind_with (content_of o)) new ≡ mixing.kinds_of kinds (i + 1)
kinds_more kinds i old new object so_far is more =
    ap (map (λ (x : AnyObject). kind_with (content_of x))) more
    ∙ (map-append (λ (x : AnyObject). kind_with (content_of x)) old (object ∷ [])
    ∙ (ap (λ xs. xs ++ kind_with (content_of object) ∷ []) so_far
    ∙ (ap (λ k. mixing.kinds_of kinds i ++ k ∷ []) (ap kind_with is ∙ kind_of_empty (kind_in kinds i))
    ∙ sym (map-range_with_len_more (kind_in kinds) 0 i i (omega arith)))))

-- one empty object more
pub empty_more : (old new : List AnyObject) (object : AnyObject) (kind : Kind)
    → All (λ o. content_of o ≡ empty (kind_with (content_of o))) old
    → content_of object ≡ empty kind → new ≡ old ++ object ∷ []
    → All (λ o. content_of o ≡ empty (kind_with (content_of o))) new
empty_more old new object kind so_far is more =
    subst (All (λ (x : AnyObject). content_of x ≡ empty (kind_with (content_of x)))) (sym more)
    (All-push (λ (x : AnyObject). content_of x ≡ empty (kind_with (content_of x))) old object so_far
    (is ∙ ap empty (sym (ap kind_with is ∙ kind_of_empty kind))))

-- as many objects as there are kinds
pub count_is : (h : Header) (os : List AnyObject) → map (λ o. kind_with (content_of o)) os ≡ header_kinds h
    → length os ≡ h.objects
count_is h os e = sym (length-map os (λ (x : AnyObject). kind_with (content_of x)))
    ∙ (ap (λ (ks : List Kind). length ks) e ∙ length-map-range_with_len (kind_in h.kinds) 0 h.objects)

module _ (h : Header) (steps : List (ℕ × AnyStep)) (refused : ℕ) (start now : State)
    (kinds : start.kinds ≡ header_kinds h)
    (clients : clients_of start ≡ h.clients) (quota : start.quota ≡ h.quota) (like : IsLike start now) where
  -- of the state after the steps
  on_kinds : (P : List Kind → ℕ → ℕ → Type 0) → P now.kinds (clients_of now) now.quota
      → P (header_kinds h) h.clients h.quota
  on_kinds P p = subst (λ (ks : List Kind). P ks h.clients h.quota) (like.kinds ∙ kinds)
      (subst (λ (n : ℕ). P now.kinds n h.quota) (like.clients ∙ clients)
      (subst (λ (q : ℕ). P now.kinds (clients_of now) q) (like.quota ∙ quota) p))

  takes_all : world_of start ≡ start_world h.clients
      → TakesPossible start.kinds start.quota (world_of start) (steps_in (λ op. op) steps) refused (world_of now)
      → Takes h steps refused (world_of now)
  takes_all at ran =
      subst (λ (w : World). TakesPossible (header_kinds h) h.quota w (steps_in (λ op. op) steps) refused
      (world_of now)) at
      (subst (λ (ks : List Kind). TakesPossible ks h.quota (world_of start) (steps_in (λ op. op) steps) refused
      (world_of now))
      kinds
      (subst (λ (q : ℕ). TakesPossible start.kinds q (world_of start) (steps_in (λ op. op) steps) refused
      (world_of now))
      quota ran))

  -- a client that is there, where each client before it has ended, is the one that is going on
  pub is_going_on : world_of start ≡ start_world h.clients
      → TakesPossible start.kinds start.quota (world_of start) (steps_in (λ op. op) steps) refused (world_of now)
      → HasRun now
      → (c : ℕ) → c < clients_of now → (world_of now).ended c ≡ false → ((d : ℕ) → d < c → HasEnded now d)
      → IsGoingOn h steps c
  is_going_on at ran run c there going earlier = record {
    world = world_of now;
    refused = refused;
    takes = takes_all at ran;
    run = on_kinds (λ ks n q. IsWorldOfRun ks n q (world_of now)) run;
    there = subst (λ (n : ℕ). c < n) (like.clients ∙ clients) there;
    going = going;
    earlier = earlier;
  }

  -- the record of a machine that took all steps, and whose clients have ended, is that of the schedule
  pub is_played : (r : Recorded AnyOp AnyReply) → world_of start ≡ start_world h.clients
      → TakesPossible start.kinds start.quota (world_of start) (steps_in (λ op. op) steps) refused (world_of now)
      → HasRun now → ((c : ℕ) → c < clients_of now → HasEnded now c)
      → ((c : ℕ) → journals_in (λ op. op) (λ reply. reply) r c ≡ journal_in (world_of now) c)
      → ((x : ℕ) → logs_in (λ op. op) (λ reply. reply) r x ≡ (world_of now).log x)
      → IsSoundRecord now.kinds now.quota (journals_in (λ op. op) (λ reply. reply) r)
      (logs_in (λ op. op) (λ reply. reply) r)
      → IsPlayed h steps refused r
  is_played r at ran run ended journals logs sound = record {
    world = world_of now;
    takes = takes_all at ran;
    run = on_kinds (λ ks n q. IsWorldOfRun ks n q (world_of now)) run;
    ended = λ c low. ended c (subst (λ (n : ℕ). c < n) (sym (like.clients ∙ clients)) low);
    journals = journals;
    logs = logs;
    sound = on_kinds
        (λ ks n q. IsSoundRecord ks q (journals_in (λ op. op) (λ reply. reply) r)
        (logs_in (λ op. op) (λ reply. reply) r))
        sound;
  }
