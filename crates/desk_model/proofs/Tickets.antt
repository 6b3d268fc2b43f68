-- Journals and tickets: what holds of them goes on where no client draws a ticket, and where one client draws the next.
-- There each ticket is the next one, or an old one, which is below it (`share_more`).
use Rattle.std.proofs.Common.{◌≡◌, ◌≢◌, ◌⊎◌, ℕ, ◌+◌, ◌<◌, List, [], ◌∷◌, ◌++◌, Some, None, All, AllPairs, Contains, map}
use Rattle.std.proofs.Common.{length, true, false, cond, eqb, refl, sym, ap, subst, ◌∙◌, inl, inr, arith, append_assoc}
use mathlib.Core.Logic.{dite}
use native.Mathlib.Decide.{ℕ_discrete}
use Rattle.std.proofs.lemmas.List.{length-append, get_or_append_left, map-append}
use Rattle.std.proofs.lemmas.List.Quantifiers.{all_pairs_push}
use Rattle.std.proofs.lemmas.List.Elements.{All-nil, All-push, All-weaker, All-contains, Contains-append_left}
use Rattle.std.proofs.lemmas.List.Elements.{Contains-push, Contains-push_cases}
use Rattle.model.specs.declared.Kind.{Kind}
use Rattle.model.specs.Objects.{kind_of}
use Rattle.desk_model.specs.declared.Answer.TheVariants.{Reply, Refused}
use Rattle.desk_model.specs.declared.JournalEvent.TheVariants.{Returned}
use Rattle.desk_model.specs.World.{AnyEntry, AnyRequest, AnyAnswer, AnyEvent, AnyDone, Stage, absent, idle, drawn}
use Rattle.desk_model.specs.World.{taken, World, kind_at, logged, entries_of_client, served, served_now, request_of}
use Rattle.desk_model.specs.World.{invoked, journal_of, journal_in, ticket_of, tickets_in, StartsWith}
use Rattle.desk_model.specs.Transitions.{changed, ticked}
use Rattle.desk_model.specs.Sound.{ShareOut, IsAmong, IsInTime, SoundJournals, Sound}
use Rattle.desk_model.proofs.Entries.{logged_here}
use Rattle.desk_model.proofs.Changed.{changed_here, changed_else, changed_all}

-- ---- journals that grow

-- the journal with a call that is not over is the journal without it, and the invocation
pub journal_begun : (done : List AnyDone) (request : AnyRequest)
    → journal_of done (Some request) ≡ journal_of done None ++ invoked request ∷ []
journal_begun [] request = refl
journal_begun (d ∷ done) request =
    ap (λ z. invoked d.request ∷ Returned d.returned d.answer ∷ z) (journal_begun done request)

-- the journal of a client whose call has returned has one event more
pub journal_over : (done : List AnyDone) (request : AnyRequest) (answer : AnyAnswer) (ticket : ℕ)
    → journal_of (done ++ record { request = request; answer = answer; returned = ticket } ∷ []) None
    ≡ journal_of done (Some request) ++ Returned ticket answer ∷ []
journal_over [] request answer ticket = refl
journal_over (d ∷ done) request answer ticket =
    ap (λ z. invoked d.request ∷ Returned d.returned d.answer ∷ z) (journal_over done request answer ticket)

-- ---- the beginning of a log up to a call's entry

pub all_before : {A : Type 0} (P : A → Type 0) (xs ys : List A) → All P (xs ++ ys) → All P xs
all_before P xs ys h k d l = subst P (get_or_append_left xs ys d k l) (h k d (omega (arith, length-append xs ys)))

-- the log has this entry, with what is before and after it
abbrev Splits : List AnyEntry → AnyEntry → Type 0
Splits log entry = (before : List AnyEntry) × (after : List AnyEntry) × (log ≡ before ++ entry ∷ after)

splits_later : (first entry : AnyEntry) (log : List AnyEntry) → Splits log entry → Splits (first ∷ log) entry
splits_later first entry log s = (first ∷ s.0, s.1, ap (λ z. first ∷ z) s.2)

-- where the first entry of the log is also one of a client's own entries, of which this entry is the last
splits_own : (first entry : AnyEntry) (log own front : List AnyEntry)
    → ((front' : List AnyEntry) → own ≡ front' ++ entry ∷ [] → Splits log entry)
    → first ∷ own ≡ front ++ entry ∷ [] → Splits (first ∷ log) entry
splits_own first entry log own [] later e =
    let same : first ≡ entry = cc in
    ([], log, ap (λ z. z ∷ log) same)
splits_own first entry log own (x ∷ front) later e =
    let rest : own ≡ front ++ entry ∷ [] = cc in
    splits_later first entry log (later front rest)

-- where this entry is the last of a client's own ones, the log has it
splits_at : (client : ℕ) (log front : List AnyEntry) (entry : AnyEntry)
    → entries_of_client client log ≡ front ++ entry ∷ [] → Splits log entry
splits_at client [] [] entry is = absurd cc
splits_at client [] (x ∷ front) entry is = absurd cc
splits_at client (first ∷ log) front entry is =
    elim (eqb first.client client) as
    (λ b. cond b (first ∷ entries_of_client client log) (entries_of_client client log) ≡ front ++ entry ∷ []
    → Splits (first ∷ log) entry) [
      | true ↦ splits_own first entry log (entries_of_client client log) front
          (λ front' e. splits_at client log front' entry e)
      | false ↦ λ e. splits_later first entry log (splits_at client log front entry e)
    ] is

-- in a log with tickets below a bound, what is logged last of a client is after entries with tickets below the bound
splits_last : (client bound : ℕ) (log front : List AnyEntry) (request : AnyRequest) (answer : AnyAnswer)
    → entries_of_client client log ≡ front ++ logged client request answer
    → All (λ (e : AnyEntry). e.ticket < bound) log
    → (before : List AnyEntry) × (after : List AnyEntry) × (log ≡ before ++ logged client request answer ++ after)
    × All (λ (e : AnyEntry). e.ticket < bound) before
splits_last client bound log front request (Reply reply) is low =
    let entry : AnyEntry = record { client = client; ticket = request.ticket; op = request.op; reply = reply } in
    let (before, after, whole) = splits_at client log front entry is in
    let split : log ≡ before ++ (entry ∷ []) ++ after = whole ∙ sym (append_assoc before (entry ∷ []) after) in
    let early : All (λ (e : AnyEntry). e.ticket < bound) before =
    all_before (λ (e : AnyEntry). e.ticket < bound) before (entry ∷ after)
    (subst (All (λ (e : AnyEntry). e.ticket < bound)) whole low) in
    (before, after, split, early)
splits_last client bound log front request Refused is low =
    ([], log, refl, All-nil (λ (e : AnyEntry). e.ticket < bound))

-- a log that grows keeps what was in time
still_in_time : (world world' : World) (client : ℕ) (call : AnyDone)
    → ((x : ℕ) → StartsWith (world'.log x) (world.log x)) → IsInTime world client call → IsInTime world' client call
still_in_time world world' client call grows in_time =
    let (more, grown) = grows call.request.object in
    let (before, after, whole, early) = in_time in
    let own : List AnyEntry = logged client call.request call.answer in
    let split : world'.log call.request.object ≡ before ++ own ++ (after ++ more) =
    grown ∙ (ap (λ z. z ++ more) whole ∙ append_assoc (before ++ own) after more) in
    (before, after ++ more, split, early)

-- ---- no client draws

module _ (kinds : List Kind) where
  -- the journals stay sound if clock, calls and requests stay, and logs only grow
  pub journals_kept : (world world' : World) → world'.clock ≡ world.clock → ((c : ℕ) → world'.done c ≡ world.done c)
      → ((c : ℕ) → request_of (world'.stage c) ≡ request_of (world.stage c))
      → ((c : ℕ) → world'.stage c ≡ absent → world.stage c ≡ absent)
      → ((x : ℕ) → StartsWith (world'.log x) (world.log x)) → SoundJournals kinds world → SoundJournals kinds world'
  journals_kept world world' clock done asked came grows sound =
      let same : (c : ℕ) → journal_in world c ≡ journal_in world' c =
      λ c i. journal_of (sym (done c) i) (sym (asked c) i) in
      record {
        tickets = subst (λ (z : ℕ × (ℕ → List ℕ)). ShareOut z.0 z.1)
            (λ i. (sym clock i, λ c. map ticket_of (same c i))) sound.tickets;
        on_objects = λ c. subst (All (IsAmong kinds)) (same c) (sound.on_objects c);
        in_time = λ c. subst (All (IsInTime world' c)) (sym (done c))
            (All-weaker (IsInTime world c) (IsInTime world' c) (λ d. still_in_time world world' c d grows)
            (world.done c) (sound.in_time c));
        not_come = λ c e. done c ∙ sound.not_come c (came c e);
      }

  -- the journals stay sound if the client goes to a stage with the same request, and logs only grow
  pub journals_staged : (world world' : World) (client : ℕ) (stage : Stage) → world'.clock ≡ world.clock
      → ((d : ℕ) → world'.done d ≡ world.done d) → ((d : ℕ) → world'.stage d ≡ changed world.stage client stage d)
      → request_of stage ≡ request_of (world.stage client) → stage ≢ absent
      → ((x : ℕ) → StartsWith (world'.log x) (world.log x)) → SoundJournals kinds world → SoundJournals kinds world'
  journals_staged world world' client stage clock done is same came grows sound =
      let asked : (d : ℕ) → request_of (world'.stage d) ≡ request_of (world.stage d) =
      λ d. ap request_of (is d)
      ∙ changed_all (λ d u. request_of u ≡ request_of (world.stage d)) world.stage client stage same
      (λ d _. refl) d in
      let was_absent : (d : ℕ) → world'.stage d ≡ absent → world.stage d ≡ absent =
      λ d e. changed_all (λ d u. u ≡ absent → world.stage d ≡ absent) world.stage client stage
      (λ f. absurd (came f)) (λ d _ f. f) d (sym (is d) ∙ e) in
      journals_kept world world' clock done asked was_absent grows sound

-- ---- one client draws the next ticket

module _ (ticket : ℕ) (old new : ℕ → List ℕ) (client : ℕ) (here : new client ≡ old client ++ ticket ∷ [])
    (others : (d : ℕ) → d ≢ client → new d ≡ old d) (share : ShareOut ticket old) where
  -- each list is an old one, or that of the client with the new ticket
  either : (P : ℕ → List ℕ → Type 0) → P client (old client ++ ticket ∷ []) → ((d : ℕ) → d ≢ client → P d (old d))
      → (d : ℕ) → P d (new d)
  either P at_client at_others d = dite (ℕ_discrete d client)
      (λ same. subst (λ z. P z (new z)) (sym same) (subst (P client) (sym here) at_client))
      (λ other. subst (P d) (sym (others d other)) (at_others d other))

  -- where a ticket came from
  came_from : (d t : ℕ) → Contains (new d) t → Contains (old d) t ⊎ ((d ≡ client) × (ticket ≡ t))
  came_from d t = either (λ d l. Contains l t → Contains (old d) t ⊎ ((d ≡ client) × (ticket ≡ t)))
      (λ h. elim (Contains-push_cases (old client) ticket t h) [ inl a ↦ inl a | inr e ↦ inr (refl, e) ])
      (λ d _ h. inl h) d

  -- an old ticket is below the new one
  not_new : (d t : ℕ) → Contains (old d) t → ticket ≢ t
  not_new d t h e = let l = All-contains (λ t. t < ticket) (old d) t (share.below d) h in absurd (omega arith)

  pub share_more : ShareOut (ticket + 1) new
  share_more = record {
    rising = either (λ d l. AllPairs (λ t u. t < u) l)
        (all_pairs_push (λ t u. t < u) (old client) ticket (share.rising client) (share.below client))
        (λ d _. share.rising d);
    below = either (λ d l. All (λ t. t < ticket + 1) l)
        (All-push (λ t. t < ticket + 1) (old client) ticket
        (All-weaker (λ t. t < ticket) (λ t. t < ticket + 1) (λ t l. omega arith) (old client) (share.below client))
        (omega arith))
        (λ d _. All-weaker (λ t. t < ticket) (λ t. t < ticket + 1) (λ t l. omega arith) (old d) (share.below d));
    apart = λ d e t a b. elim (came_from d t a) [
      | inl one ↦ elim (came_from e t b) [
        | inl two ↦ share.apart d e t one two
        | inr two ↦ absurd (not_new d t one two.1)
      ]
      | inr one ↦ elim (came_from e t b) [ inl two ↦ absurd (not_new e t two one.1) | inr two ↦ one.0 ∙ sym two.0 ]
    ];
    each = λ t l. dite (ℕ_discrete t ticket)
        (λ same. (
          client,
          subst (λ z. Contains z t) (sym here)
              (subst (Contains (old client ++ ticket ∷ [])) (sym same) (Contains-push (old client) ticket)),
        ))
        (λ other. let (d, has) = share.each t (omega arith) in (
          d,
          either (λ d l. Contains (old d) t → Contains l t) (Contains-append_left (old client) (ticket ∷ []) t)
              (λ d _ h. h) d has,
        ));
  }

module _ (kinds : List Kind) where
  -- the journals stay sound if the client goes to a stage and its journal gets one event more, with the next ticket
  pub journals_ticked : (world : World) (client : ℕ) (stage : Stage) (done : List AnyDone) (event : AnyEvent)
      → ticket_of event ≡ world.clock → IsAmong kinds event
      → journal_of done (request_of stage) ≡ journal_in world client ++ event ∷ [] → All (IsInTime world client) done
      → stage ≢ absent → SoundJournals kinds world → SoundJournals kinds (ticked world client stage done)
  journals_ticked world client stage done event ticket on more in_time came sound =
      let world' : World = ticked world client stage done in
      let here : journal_in world' client ≡ journal_in world client ++ event ∷ [] =
      (λ i. journal_of (changed_here world.done client done i) (request_of (changed_here world.stage client stage i)))
      ∙ more in
      let others : (d : ℕ) → d ≢ client → journal_in world' d ≡ journal_in world d =
      λ d other i. journal_of (changed_else world.done client done d other i)
      (request_of (changed_else world.stage client stage d other i)) in
      record {
        tickets = share_more world.clock (tickets_in world) (tickets_in world') client
            (ap (map ticket_of) here ∙ (map-append ticket_of (journal_in world client) (event ∷ [])
            ∙ ap (λ z. tickets_in world client ++ z ∷ []) ticket))
            (λ d other. ap (map ticket_of) (others d other)) sound.tickets;
        on_objects = λ d. dite (ℕ_discrete d client)
            (λ same. subst (λ z. All (IsAmong kinds) (journal_in world' z)) (sym same)
            (subst (All (IsAmong kinds)) (sym here)
            (All-push (IsAmong kinds) (journal_in world client) event (sound.on_objects client) on)))
            (λ other. subst (All (IsAmong kinds)) (sym (others d other)) (sound.on_objects d));
        in_time = changed_all (λ d l. All (IsInTime world' d) l) world.done client done in_time
            (λ d _. sound.in_time d);
        not_come = λ d. dite (ℕ_discrete d client)
            (λ same f. absurd (came
            (sym (changed_here world.stage client stage) ∙ (ap (changed world.stage client stage) (sym same) ∙ f))))
            (λ other f. changed_else world.done client done d other
            ∙ sound.not_come d (sym (changed_else world.stage client stage d other) ∙ f));
      }

  -- the journals stay sound when the client invokes a call
  pub journals_called : (world : World) (client : ℕ) (request : AnyRequest) → world.stage client ≡ idle
      → request.ticket ≡ world.clock → request.object < length kinds
      → kind_of request.op ≡ kind_at kinds request.object
      → SoundJournals kinds world → SoundJournals kinds (ticked world client (drawn request) (world.done client))
  journals_called world client request was ticket on fits sound =
      let done : List AnyDone = world.done client in
      let more : journal_of done (Some request) ≡ journal_in world client ++ invoked request ∷ [] =
      journal_begun done request ∙ ap (λ z. journal_of done (request_of z) ++ invoked request ∷ []) (sym was) in
      journals_ticked world client (drawn request) done (invoked request) ticket (on, fits) more (sound.in_time client)
      (λ e. absurd (cc)) sound

  -- the journals stay sound when the call of the client, which has taken its answer, returns
  pub journals_returned : (quota : ℕ) (world : World) (client ticket : ℕ) (request : AnyRequest) (answer : AnyAnswer)
      → world.stage client ≡ taken request answer → ticket ≡ world.clock → Sound kinds quota world
      → SoundJournals kinds (ticked world client idle
      (world.done client ++ record { request = request; answer = answer; returned = ticket } ∷ []))
  journals_returned quota world client ticket request answer was now sound =
      let object : ℕ = request.object in
      let call : AnyDone = record { request = request; answer = answer; returned = ticket } in
      let done : List AnyDone = world.done client in
      let last : entries_of_client client (world.log object)
      ≡ served object client done ++ logged client request answer =
      sound.counted client object ∙ (ap (λ z. served object client done ++ served_now object client z) was
      ∙ ap (λ z. served object client done ++ z) (logged_here object client request answer refl)) in
      let in_time : IsInTime world client call =
      splits_last client ticket (world.log object) (served object client done) request answer last
      (subst (λ z. All (λ (e : AnyEntry). e.ticket < z) (world.log object)) (sym now) (sound.early object)) in
      let more : journal_of (done ++ call ∷ []) None ≡ journal_in world client ++ Returned ticket answer ∷ [] =
      journal_over done request answer ticket
      ∙ ap (λ z. journal_of done (request_of z) ++ Returned ticket answer ∷ []) (sym was) in
      journals_ticked world client idle (done ++ call ∷ []) (Returned ticket answer) now tt more
      (All-push (IsInTime world client) done call (sound.journals.in_time client) in_time) (λ e. absurd (cc))
      sound.journals
