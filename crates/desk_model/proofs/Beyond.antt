-- The log of an object that does not exist is empty, and so is the journal of a client that has not come: the calls of
-- a client are on existing objects (`asked_among`), so they log nothing beyond.
use Rattle.std.proofs.Common.{◌≡◌, ◌≢◌, ℕ, ◌<◌, ◌≤◌, List, [], ◌∷◌, ◌++◌, Option, Some, None, All, length, cond, eq-eqb}
use Rattle.std.proofs.Common.{refl, sym, ap, subst, ◌∙◌, arith}
use Rattle.std.proofs.lemmas.List.Elements.{All-head, All-tail, All-contains, Contains-push}
use Rattle.model.specs.declared.Kind.{Kind}
use Rattle.desk_model.specs.declared.JournalEvent.TheVariants.{Returned}
use Rattle.desk_model.specs.World.{AnyEntry, AnyRequest, AnyAnswer, AnyEvent, AnyDone, Stage, absent, idle, drawn}
use Rattle.desk_model.specs.World.{posted, picked, answered, taken, World, logged_on, entries_of_client, served}
use Rattle.desk_model.specs.World.{served_now, request_of, invoked, journal_of, journal_in}
use Rattle.desk_model.specs.Sound.{IsAmong, Sound}
use Rattle.desk_model.proofs.Entries.{logged_else}
use Rattle.desk_model.proofs.Tickets.{journal_begun}

-- a call on one of the first n objects logs nothing on a later one
nothing_logged : (count object client : ℕ) (request : AnyRequest) (answer : AnyAnswer) → count ≤ object
    → request.object < count → logged_on object client request answer ≡ []
nothing_logged count object client request answer far on = logged_else object client request answer (λ e. omega arith)

nothing_served : (kinds : List Kind) (object client : ℕ) (done : List AnyDone) (asked : Option AnyRequest)
    → length kinds ≤ object → All (IsAmong kinds) (journal_of done asked) → served object client done ≡ []
nothing_served kinds object client [] asked far all = refl
nothing_served kinds object client (d ∷ done) asked far all =
    let rest : List AnyEvent = Returned d.returned d.answer ∷ journal_of done asked in
    let on : d.request.object < length kinds = (All-head (IsAmong kinds) (invoked d.request) rest all).0 in
    let later = All-tail (IsAmong kinds) (Returned d.returned d.answer) (journal_of done asked)
    (All-tail (IsAmong kinds) (invoked d.request) rest all) in
    (λ i. nothing_logged (length kinds) object client d.request d.answer far on i
    ++ nothing_served kinds object client done asked far later i)

asked_among : (kinds : List Kind) (done : List AnyDone) (request : AnyRequest)
    → All (IsAmong kinds) (journal_of done (Some request)) → request.object < length kinds
asked_among kinds done request all =
    let begun = subst (All (IsAmong kinds)) (journal_begun done request) all in
    (All-contains (IsAmong kinds) (journal_of done None ++ invoked request ∷ []) (invoked request) begun
    (Contains-push (journal_of done None) (invoked request))).0

nothing_now : (kinds : List Kind) (object client : ℕ) (done : List AnyDone) (stage : Stage) → length kinds ≤ object
    → All (IsAmong kinds) (journal_of done (request_of stage)) → served_now object client stage ≡ []
nothing_now kinds object client done (answered request answer) far all =
    nothing_logged (length kinds) object client request answer far (asked_among kinds done request all)
nothing_now kinds object client done (taken request answer) far all =
    nothing_logged (length kinds) object client request answer far (asked_among kinds done request all)
nothing_now kinds object client done stage h among = refl

no_entries : (log : List AnyEntry) → ((client : ℕ) → entries_of_client client log ≡ []) → log ≡ []
no_entries [] none = refl
no_entries (e ∷ es) none = let own : e ∷ entries_of_client e.client es ≡ [] =
    sym (ap (λ b. cond b (e ∷ entries_of_client e.client es) (entries_of_client e.client es))
    (eq-eqb e.client e.client refl))
    ∙ none e.client in absurd (cc)

is_absent : (stage : Stage) → ((stage ≢ absent) → ⊥) → stage ≡ absent
is_absent absent h = refl
is_absent idle h = absurd (h (λ e. absurd (cc)))
is_absent (drawn request) h = absurd (h (λ e. absurd (cc)))
is_absent (posted request) h = absurd (h (λ e. absurd (cc)))
is_absent (picked request) h = absurd (h (λ e. absurd (cc)))
is_absent (answered request answer) h = absurd (h (λ e. absurd (cc)))
is_absent (taken request answer) h = absurd (h (λ e. absurd (cc)))

module _ (kinds : List Kind) (quota : ℕ) (world : World) (sound : Sound kinds quota world) where
  pub no_log_beyond : (object : ℕ) → length kinds ≤ object → world.log object ≡ []
  no_log_beyond object far = no_entries (world.log object)
      (λ client.
      let done : List AnyDone = world.done client in
      let stage : Stage = world.stage client in
      let among = sound.journals.on_objects client in
      sound.counted client object
      ∙ (λ i. nothing_served kinds object client done (request_of stage) far among i
      ++ nothing_now kinds object client done stage far among i))

  -- where all that have come are below n
  pub no_journal_beyond : (count : ℕ) → ((client : ℕ) → world.stage client ≢ absent → client < count) → (client : ℕ)
      → count ≤ client → journal_in world client ≡ []
  no_journal_beyond count come client far =
      let not_come : (world.stage client ≢ absent) → ⊥ =
      λ came. let low = come client came in absurd (omega arith) in
      let away = is_absent (world.stage client) not_come in
      (λ i. journal_of (sound.journals.not_come client away i) (request_of (away i)))
