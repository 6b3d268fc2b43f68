-- Each transition keeps the invariant: by what it writes at the changed place and leaves elsewhere (`changed_all`),
-- with the rest as before.
use Rattle.std.proofs.Common.{◌≡◌, ◌≢◌, ℕ, ◌+◌, ◌*◌, ◌<◌, ◌≤◌, List, [], ◌∷◌, ◌++◌, Option, Some, None, All, length}
use Rattle.std.proofs.Common.{refl, sym, ap, subst, ◌∙◌, arith, append-nil, length-append}
use mathlib.Core.Logic.{dite}
use native.Mathlib.Decide.{ℕ_discrete}
use Rattle.std.proofs.lemmas.List.Elements.{All-append, All-nil, All-cons}
use Rattle.std.proofs.lemmas.Option.{same_Some}
use Rattle.model.specs.declared.Kind.{Kind}
use Rattle.model.specs.Objects.{kind_of}
use Rattle.desk_model.specs.declared.Answer.TheVariants.{Reply, Refused}
use Rattle.desk_model.specs.World.{AnyEntry, AnyRequest, AnyAnswer, AnyDone, Stage, absent, idle, drawn, posted, picked}
use Rattle.desk_model.specs.World.{answered, taken, World, kind_at, logged, logged_on, entries_of_client, served}
use Rattle.desk_model.specs.World.{served_now, request_of, calls_made, tickets_drawn, IsLegalLog, StartsWith}
use Rattle.desk_model.specs.Transitions.{changed, staged, ticked, held_by, handed, served_by, ended_by}
use Rattle.desk_model.specs.Sound.{Sound, SoundJournals, total}
use Rattle.desk_model.proofs.Changed.{changed_here, changed_else, changed_all}
use Rattle.desk_model.proofs.Entries.{entries-append, own_entries, others_entries, logged_here, logged_else}
use Rattle.desk_model.proofs.Entries.{served_more, starts_same}
use Rattle.desk_model.proofs.Tickets.{journals_kept, journals_staged, journals_called, journals_returned}
use Rattle.desk_model.proofs.Totals.{total_same, total_one, total_le}

-- the stage is not that of a call whose request is in the hand of a client
abbrev pub NotPicked : Stage → Type 0
NotPicked stage = (q : AnyRequest) → stage ≢ picked q

same_picked : (p q : AnyRequest) → picked p ≡ picked q → p ≡ q
same_picked p q e = cc

module _ (kinds : List Kind) (quota : ℕ) where
  abbrev S : World → Type 0
  S = Sound kinds quota

  -- ---- who holds an object, and who has ended

  -- the world stays sound when an object gets another holder, or none while nothing is in its hand
  pub sound_held : (world : World) (object : ℕ) (holder : Option ℕ) → (holder ≡ None → world.hand object ≡ None)
      → S world → S (held_by world object holder)
  sound_held world object holder free sound =
      let empty_hand : (y : ℕ) → changed world.holder object holder y ≡ None → world.hand y ≡ None =
      changed_all (λ y g. g ≡ None → world.hand y ≡ None) world.holder object holder free (λ y _. sound.empty_hand y) in
      let journals = journals_kept kinds world (held_by world object holder) refl (λ c. refl) (λ c. refl) (λ c e. e)
      (λ y. starts_same (world.log y)) sound.journals in
      assumption

  -- the world stays sound when a client ends
  pub sound_ended : (world : World) (client : ℕ) → S world → S (ended_by world client)
  sound_ended world client sound =
      let journals = journals_kept kinds world (ended_by world client) refl (λ c. refl) (λ c. refl) (λ c e. e)
      (λ y. starts_same (world.log y)) sound.journals in
      assumption

  -- ---- the stage of one row

  -- The stage of the row changes, with the same request: what holds of requests goes on.
  same_fitting : (world : World) (row : ℕ) (stage : Stage) → request_of stage ≡ request_of (world.stage row) → S world
      → (d : ℕ) (q : AnyRequest) → request_of (changed world.stage row stage d) ≡ Some q
      → (kind_of q.op ≡ kind_at kinds q.object) × (q.ticket < world.clock)
  same_fitting world row stage same sound d q =
      changed_all
      (λ d u. request_of u ≡ Some q → (kind_of q.op ≡ kind_at kinds q.object) × (q.ticket < world.clock))
      world.stage row stage (λ e. sound.fitting row q (sym same ∙ e)) (λ d _. sound.fitting d q) d

  same_totals : (world : World) (row : ℕ) (stage : Stage) → request_of stage ≡ request_of (world.stage row) → S world
      → total (λ d. tickets_drawn (world.done d) (request_of (changed world.stage row stage d))) 32 ≡ world.clock
  same_totals world row stage same sound =
      total_same (λ d. tickets_drawn (world.done d) (request_of (changed world.stage row stage d)))
      (λ d. tickets_drawn (world.done d) (request_of (world.stage d))) 32
      (λ d _. changed_all
      (λ d u. tickets_drawn (world.done d) (request_of u) ≡ tickets_drawn (world.done d) (request_of (world.stage d)))
      world.stage row stage (ap (tickets_drawn (world.done row)) same) (λ d _. refl) d) ∙ sound.drawn

  same_calls : (world : World) (row : ℕ) (stage : Stage) → request_of stage ≡ request_of (world.stage row) → S world
      → (d : ℕ) → calls_made (world.done d) (request_of (changed world.stage row stage d)) ≤ quota
  same_calls world row stage same sound =
      changed_all (λ d u. calls_made (world.done d) (request_of u) ≤ quota) world.stage row stage
      (subst (λ z. calls_made (world.done row) z ≤ quota) (sym same) (sound.within row)) (λ d _. sound.within d)

  -- the client goes to a stage with the same request, which is in no hand before or after
  pub sound_staged : (world : World) (client : ℕ) (stage : Stage) → NotPicked (world.stage client) → NotPicked stage
      → request_of stage ≡ request_of (world.stage client) → stage ≢ absent
      → ((x : ℕ) → served_now x client stage ≡ served_now x client (world.stage client)) → S world
      → S (staged world client stage)
  sound_staged world client stage before after same came puts sound = record {
    legal = sound.legal;
    counted = λ d x. changed_all
        (λ d u. entries_of_client d (world.log x) ≡ served x d (world.done d) ++ served_now x d u)
        world.stage client stage
        (sound.counted client x ∙ ap (λ z. served x client (world.done client) ++ z) (sym (puts x)))
        (λ d _. sound.counted d x) d;
    in_hand = λ x j e.
        let (q, at, on_x) = sound.in_hand x j e in
        (q, changed_else world.stage client stage j (λ g. before q (ap world.stage (sym g) ∙ at)) ∙ at, on_x);
    picked_up = λ j q. changed_all (λ j u. u ≡ picked q → world.hand q.object ≡ Some j) world.stage client stage
        (λ e. absurd (after q e)) (λ j _. sound.picked_up j q) j;
    empty_hand = sound.empty_hand;
    fitting = same_fitting world client stage same sound;
    early = sound.early;
    drawn = same_totals world client stage same sound;
    within = same_calls world client stage same sound;
    journals = journals_staged kinds world (staged world client stage) client stage refl (λ d. refl) (λ d. refl) same
        came (λ y. starts_same (world.log y)) sound.journals;
  }

  -- ---- the tickets that a client draws

  -- The client draws a ticket, and goes to the stage with these calls over, which have drawn one ticket more, and have
  -- put into each log what is there.
  sound_ticked : (world : World) (client : ℕ) (stage : Stage) (done : List AnyDone) → client < 32
      → NotPicked (world.stage client) → NotPicked stage
      → ((x : ℕ) → served x client done ++ served_now x client stage
      ≡ served x client (world.done client) ++ served_now x client (world.stage client))
      → ((q : AnyRequest) → request_of stage ≡ Some q
      → (kind_of q.op ≡ kind_at kinds q.object) × (q.ticket ≡ world.clock))
      → tickets_drawn done (request_of stage) ≡ tickets_drawn (world.done client) (request_of (world.stage client)) + 1
      → calls_made done (request_of stage) ≤ quota
      → SoundJournals kinds (ticked world client stage done) → S world → S (ticked world client stage done)
  sound_ticked world client stage done low before after puts fits more few journals sound = record {
    legal = sound.legal;
    counted = λ d x. changed_all
        (λ d u. entries_of_client d (world.log x) ≡ served x d (changed world.done client done d) ++ served_now x d u)
        world.stage client stage
        (sound.counted client x ∙ (sym (puts x)
        ∙ ap (λ z. served x client z ++ served_now x client stage) (sym (changed_here world.done client done))))
        (λ d other. sound.counted d x
        ∙ ap (λ z. served x d z ++ served_now x d (world.stage d)) (sym (changed_else world.done client done d other)))
        d;
    in_hand = λ x j e.
        let (q, at, on_x) = sound.in_hand x j e in
        (q, changed_else world.stage client stage j (λ g. before q (ap world.stage (sym g) ∙ at)) ∙ at, on_x);
    picked_up = λ j q. changed_all (λ j u. u ≡ picked q → world.hand q.object ≡ Some j) world.stage client stage
        (λ e. absurd (after q e)) (λ j _. sound.picked_up j q) j;
    empty_hand = sound.empty_hand;
    fitting = λ d q. changed_all
        (λ d u. request_of u ≡ Some q → (kind_of q.op ≡ kind_at kinds q.object) × (q.ticket < world.clock + 1))
        world.stage client stage
        (λ e. let (kind, ticket) = fits q e in (kind, omega arith))
        (λ d _ e. let (kind, ticket) = sound.fitting d q e in (kind, omega arith)) d;
    early = λ x i d l. let a = sound.early x i d l in omega arith;
    drawn = total_one (λ d. tickets_drawn (world.done d) (request_of (world.stage d)))
        (λ d. tickets_drawn (changed world.done client done d) (request_of (changed world.stage client stage d))) 32
        client low
        ((λ i. tickets_drawn (changed_here world.done client done i)
        (request_of (changed_here world.stage client stage i))) ∙ more)
        (λ d other i. tickets_drawn (changed_else world.done client done d other i)
        (request_of (changed_else world.stage client stage d other i))) ∙ ap (λ z. z + 1) sound.drawn;
    within = λ d. changed_all (λ d u. calls_made (changed world.done client done d) (request_of u) ≤ quota)
        world.stage client stage
        (subst (λ z. calls_made z (request_of stage) ≤ quota) (sym (changed_here world.done client done)) few)
        (λ d other. subst (λ z. calls_made z (request_of (world.stage d)) ≤ quota)
        (sym (changed_else world.done client done d other)) (sound.within d)) d;
    journals = journals;
  }

  -- the client draws the ticket of a call
  pub sound_called : (world : World) (client : ℕ) (request : AnyRequest) → client < 32 → world.stage client ≡ idle
      → calls_made (world.done client) None < quota → request.object < length kinds
      → kind_of request.op ≡ kind_at kinds request.object → request.ticket ≡ world.clock → S world
      → S (ticked world client (drawn request) (world.done client))
  sound_called world client request low was few on fits ticket sound =
      let done : List AnyDone = world.done client in
      let added : tickets_drawn done (Some request) ≡ tickets_drawn done None + 1 = omega arith in
      let tickets : tickets_drawn done (Some request) ≡ tickets_drawn done (request_of (world.stage client)) + 1 =
      added ∙ ap (λ z. tickets_drawn done (request_of z) + 1) (sym was) in
      let journals = journals_called kinds world client request was ticket on fits sound.journals in
      sound_ticked world client (drawn request) done low (λ q e. absurd cc) (λ q e. absurd (cc))
      (λ x. ap (λ z. served x client done ++ served_now x client z) (sym was))
      (λ q e. subst (λ (z : AnyRequest). (kind_of z.op ≡ kind_at kinds z.object) × (z.ticket ≡ world.clock))
      (same_Some request q e) (fits, ticket)) tickets (omega arith) journals sound

  -- the client draws the ticket of the return of its call
  pub sound_returned : (world : World) (client ticket : ℕ) (request : AnyRequest) (answer : AnyAnswer) → client < 32
      → world.stage client ≡ taken request answer → ticket ≡ world.clock → S world
      → S (ticked world client idle
      (world.done client ++ record { request = request; answer = answer; returned = ticket } ∷ []))
  sound_returned world client ticket request answer low was now sound =
      let done : List AnyDone = world.done client in
      let call : AnyDone = record { request = request; answer = answer; returned = ticket } in
      let calls : List AnyDone = done ++ call ∷ [] in
      let long : length calls ≡ length done + 1 = length-append done (call ∷ []) in
      let few : calls_made done (Some request) ≤ quota =
      subst (λ z. calls_made done (request_of z) ≤ quota) was (sound.within client) in
      let few' : calls_made calls None ≤ quota = omega arith in
      let added : tickets_drawn calls None ≡ tickets_drawn done (Some request) + 1 = omega arith in
      let tickets : tickets_drawn calls None ≡ tickets_drawn done (request_of (world.stage client)) + 1 =
      added ∙ ap (λ z. tickets_drawn done (request_of z) + 1) (sym was) in
      let journals = journals_returned kinds quota world client ticket request answer was now sound in
      sound_ticked world client idle calls low (λ q e. absurd cc) (λ q e. absurd (cc))
      (λ x. append-nil (served x client calls) ∙ (served_more x client ticket done request answer
      ∙ ap (λ z. served x client done ++ served_now x client z) (sym was)))
      (λ q e. absurd (cc)) tickets few' journals sound

  -- ---- a row in hand

  -- the row, posted for the object, comes into the hand of the client that holds the object
  pub sound_picked : (world : World) (object row client : ℕ) (request : AnyRequest) → world.stage row ≡ posted request
      → request.object ≡ object → world.holder object ≡ Some client → world.hand object ≡ None → S world
      → S (handed world object (Some row) row (picked request))
  sound_picked world object row client request is on holds free sound =
      let stage : Stage = picked request in
      let same : request_of stage ≡ request_of (world.stage row) = ap request_of (sym is) in
      record {
        legal = sound.legal;
        counted = λ d y. changed_all
            (λ d u. entries_of_client d (world.log y) ≡ served y d (world.done d) ++ served_now y d u)
            world.stage row stage
            (sound.counted row y ∙ ap (λ z. served y row (world.done row) ++ served_now y row z) is)
            (λ d _. sound.counted d y) d;
        in_hand = λ y j. changed_all
            (λ y h. h ≡ Some j → (p : AnyRequest) × (changed world.stage row stage j ≡ picked p) × (p.object ≡ y))
            world.hand object (Some row)
            (λ e.
            let here : changed world.stage row stage j ≡ picked request =
            ap (changed world.stage row stage) (sym (same_Some row j e)) ∙ changed_here world.stage row stage in
            (request, here, on))
            (λ y _ e.
            let (q, at, on_x) = sound.in_hand y j e in
            (q, changed_else world.stage row stage j (λ g. absurd cc) ∙ at, on_x)) y;
        picked_up = λ j p. changed_all (λ j u. u ≡ picked p → changed world.hand object (Some row) p.object ≡ Some j)
            world.stage row stage
            (λ e. ap (changed world.hand object (Some row)) (ap (λ z. z.object) (sym (same_picked request p e)) ∙ on)
            ∙ changed_here world.hand object (Some row))
            (λ j _ e. changed_else world.hand object (Some row) p.object
            (λ same. let g = sym free ∙ (ap world.hand (sym same) ∙ sound.picked_up j p e) in absurd (cc))
            ∙ sound.picked_up j p e) j;
        empty_hand = λ y e. changed_else world.hand object (Some row) y (λ same. absurd cc) ∙ sound.empty_hand y e;
        fitting = same_fitting world row stage same sound;
        early = sound.early;
        drawn = same_totals world row stage same sound;
        within = same_calls world row stage same sound;
        journals = journals_staged kinds world (handed world object (Some row) row stage) row stage refl (λ d. refl)
            (λ d. refl) same (λ e. absurd (cc)) (λ y. starts_same (world.log y)) sound.journals;
      }

  -- After the row, picked up for the object, is put back or answered, what is in a hand is another row, with a request
  -- for the object of that hand.
  others_in_hand : (world : World) (object row j : ℕ) (stage : Stage) (request : AnyRequest)
      → world.stage row ≡ picked request → request.object ≡ object → S world
      → (y : ℕ) → changed world.hand object None y ≡ Some j
      → (p : AnyRequest) × (changed world.stage row stage j ≡ picked p) × (p.object ≡ y)
  others_in_hand world object row j stage request is on sound =
      changed_all (λ y h. h ≡ Some j → (p : AnyRequest) × (changed world.stage row stage j ≡ picked p) × (p.object ≡ y))
      world.hand object None (λ e. absurd (cc))
      (λ y other e.
      let (q, at, on_x) = sound.in_hand y j e in
      let same : j ≡ row → q ≡ request =
      λ g. sym (same_picked request q (sym is ∙ (ap world.stage (sym g) ∙ at))) in
      let another : j ≢ row = λ g. other (sym on_x ∙ (ap (λ z. z.object) (same g) ∙ on)) in
      (q, changed_else world.stage row stage j another ∙ at, on_x))

  -- each other row that was picked up is in a hand
  others_picked_up : (world : World) (object row : ℕ) (stage : Stage) (request : AnyRequest)
      → world.stage row ≡ picked request → request.object ≡ object → world.hand object ≡ Some row → NotPicked stage
      → S world
      → (j : ℕ) (p : AnyRequest) → changed world.stage row stage j ≡ picked p
      → changed world.hand object None p.object ≡ Some j
  others_picked_up world object row stage request is on held never sound j p =
      changed_all (λ j u. u ≡ picked p → changed world.hand object None p.object ≡ Some j) world.stage row stage
      (λ e. absurd (never p e))
      (λ j other e.
      let up : world.hand p.object ≡ Some j = sound.picked_up j p e in
      changed_else world.hand object None p.object
      (λ same. other (same_Some j row (sym up ∙ (ap world.hand same ∙ held)))) ∙ up) j

  -- the world stays sound when the request in hand goes back into its row
  pub sound_put_back : (world : World) (object row client : ℕ) (request : AnyRequest)
      → world.stage row ≡ picked request → request.object ≡ object
      → world.holder object ≡ Some client → world.hand object ≡ Some row → S world
      → S (handed world object None row (posted request))
  sound_put_back world object row client request is on holds held sound =
      let stage : Stage = posted request in
      let same : request_of stage ≡ request_of (world.stage row) = ap request_of (sym is) in
      record {
        legal = sound.legal;
        counted = λ d y. changed_all
            (λ d u. entries_of_client d (world.log y) ≡ served y d (world.done d) ++ served_now y d u)
            world.stage row stage
            (sound.counted row y ∙ ap (λ z. served y row (world.done row) ++ served_now y row z) is)
            (λ d _. sound.counted d y) d;
        in_hand = λ y j. others_in_hand world object row j stage request is on sound y;
        picked_up = others_picked_up world object row stage request is on held (λ p e. absurd (cc)) sound;
        empty_hand = changed_all (λ y h. world.holder y ≡ None → h ≡ None) world.hand object None (λ e. refl)
            (λ y _. sound.empty_hand y);
        fitting = same_fitting world row stage same sound;
        early = sound.early;
        drawn = same_totals world row stage same sound;
        within = same_calls world row stage same sound;
        journals = journals_staged kinds world (handed world object None row stage) row stage refl (λ d. refl)
            (λ d. refl) same (λ e. absurd (cc)) (λ y. starts_same (world.log y)) sound.journals;
      }

  -- ---- the answer to a row

  -- what an answer puts into the log is early
  early_logged : (clock row : ℕ) (request : AnyRequest) (answer : AnyAnswer) → request.ticket < clock
      → All (λ (e : AnyEntry). e.ticket < clock) (logged row request answer)
  early_logged clock row request (Reply reply) low =
      All-cons (λ (e : AnyEntry). e.ticket < clock)
      (record { client = row; ticket = request.ticket; op = request.op; reply = reply }) [] low
      (All-nil (λ (e : AnyEntry). e.ticket < clock))
  early_logged clock row request Refused low = All-nil (λ (e : AnyEntry). e.ticket < clock)

  -- each client's entries in each log, after the answer is in the log, are those that its calls have put in
  counted_after : (world : World) (object row : ℕ) (request : AnyRequest) (answer : AnyAnswer)
      → world.stage row ≡ picked request → request.object ≡ object → S world
      → (d y : ℕ) → entries_of_client d (changed world.log object (world.log object ++ logged row request answer) y)
      ≡ served y d (world.done d) ++ served_now y d (changed world.stage row (answered request answer) d)
  counted_after world object row request answer is on sound d y =
      let new : List AnyEntry = logged row request answer in
      let log : List AnyEntry = world.log object ++ new in
      -- before the answer the row's client has in each log only the entries of its calls that are over
      let mine : (z : ℕ) → entries_of_client row (world.log z) ≡ served z row (world.done row) =
      λ z. sound.counted row z ∙ (ap (λ u. served z row (world.done row) ++ served_now z row u) is
      ∙ append-nil (served z row (world.done row))) in
      changed_all
      (λ d u. entries_of_client d (changed world.log object log y) ≡ served y d (world.done d) ++ served_now y d u)
      world.stage row (answered request answer)
      (dite (ℕ_discrete y object)
      (λ same. subst
      (λ z. entries_of_client row (changed world.log object log z)
      ≡ served z row (world.done row) ++ logged_on z row request answer) (sym same)
      (ap (entries_of_client row) (changed_here world.log object log)
      ∙ (entries-append row (world.log object) new
      ∙ (λ i. mine object i ++ (own_entries row request answer ∙ sym (logged_here object row request answer on)) i))))
      (λ other. ap (entries_of_client row) (changed_else world.log object log y other)
      ∙ (mine y ∙ (sym (append-nil (served y row (world.done row)))
      ∙ ap (λ z. served y row (world.done row) ++ z)
      (sym (logged_else y row request answer (λ e. other (sym e ∙ on))))))))
      (λ d apart. dite (ℕ_discrete y object)
      (λ same. subst
      (λ z. entries_of_client d (changed world.log object log z)
      ≡ served z d (world.done d) ++ served_now z d (world.stage d)) (sym same)
      (ap (entries_of_client d) (changed_here world.log object log)
      ∙ (entries-append d (world.log object) new
      ∙ (ap (λ z. entries_of_client d (world.log object) ++ z) (others_entries d row request answer apart)
      ∙ (append-nil (entries_of_client d (world.log object)) ∙ sound.counted d object)))))
      (λ other. ap (entries_of_client d) (changed_else world.log object log y other) ∙ sound.counted d y))
      d

  -- the world stays sound when the request in hand is answered, if the log is legal then
  pub sound_served : (world : World) (object row client : ℕ) (request : AnyRequest) (answer : AnyAnswer)
      → world.stage row ≡ picked request → request.object ≡ object
      → world.holder object ≡ Some client → world.hand object ≡ Some row
      → IsLegalLog (kind_at kinds object) (world.log object ++ logged row request answer) → S world
      → S (served_by world object row request answer)
  sound_served world object row client request answer is on holds held legal sound =
      let new : List AnyEntry = logged row request answer in
      let log : List AnyEntry = world.log object ++ new in
      let stage : Stage = answered request answer in
      let same : request_of stage ≡ request_of (world.stage row) = ap request_of (sym is) in
      let ticket : request.ticket < world.clock = (sound.fitting row request (ap request_of is)).1 in
      let grows : (y : ℕ) → StartsWith (changed world.log object log y) (world.log y) =
      changed_all (λ y l. StartsWith l (world.log y)) world.log object log (new, refl)
      (λ y _. starts_same (world.log y)) in
      record {
        legal = changed_all (λ y l. IsLegalLog (kind_at kinds y) l) world.log object log legal (λ y _. sound.legal y);
        counted = counted_after world object row request answer is on sound;
        in_hand = λ y j. others_in_hand world object row j stage request is on sound y;
        picked_up = others_picked_up world object row stage request is on held (λ p e. absurd (cc)) sound;
        empty_hand = changed_all (λ y h. world.holder y ≡ None → h ≡ None) world.hand object None (λ e. refl)
            (λ y _. sound.empty_hand y);
        fitting = same_fitting world row stage same sound;
        early = changed_all (λ y l. All (λ (e : AnyEntry). e.ticket < world.clock) l) world.log object log
            (All-append (λ (e : AnyEntry). e.ticket < world.clock) (world.log object) new (sound.early object)
            (early_logged world.clock row request answer ticket)) (λ y _. sound.early y);
        drawn = same_totals world row stage same sound;
        within = same_calls world row stage same sound;
        journals = journals_staged kinds world (served_by world object row request answer) row stage refl (λ d. refl)
            (λ d. refl) same (λ e. absurd (cc)) grows sound.journals;
      }

  -- ---- how far the clock goes

  -- the clients have drawn two tickets for each call at most
  pub clock_few : (world : World) → S world → world.clock ≤ 64 * quota
  clock_few world sound =
      let all : total (λ c. tickets_drawn (world.done c) (request_of (world.stage c))) 32 ≤ 32 * (quota + quota) =
      total_le (λ c. tickets_drawn (world.done c) (request_of (world.stage c))) 32 (quota + quota)
      (λ c l. let q = sound.within c in omega arith) in
      let e = sound.drawn in
      omega arith

  -- no client's tickets can fill the clock
  pub clock_low : (world : World) → quota < 10001 → S world → world.clock ≤ 640000
  clock_low world small sound = let few = clock_few world sound in omega arith
