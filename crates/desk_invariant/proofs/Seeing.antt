-- A client sees more of a log: what it sees begins the log, so it has the entries of the client's own calls in their
-- order.
use Rattle.std.proofs.Common.{◌≡◌, ◌≢◌, ℕ, ◌<◌, ◌⊎◌, inl, inr, length-append, List, [], ◌∷◌}
use Rattle.std.proofs.Common.{◌++◌, length, get_or, set, refl, sym, ap, subst, ◌∙◌, arith, append_assoc, append-nil}
use Rattle.std.proofs.Common.{length-set, get_or-set_other, get_or-set_same}
use mathlib.Core.Logic.{dite}
use native.Mathlib.Decide.{ℕ_discrete}
use Rattle.model.specs.declared.Kind.{Kind}
use Rattle.desk_invariant.specs.declared.board.Own.{Own}
use Rattle.desk_invariant.specs.declared.board.Own.TheVariants as own
use Rattle.desk_invariant.specs.declared.board.DeskView.{DeskView}
use Rattle.std.proofs.lemmas.List.{append_cancel_left, nil_from_length}
use Rattle.desk_model.specs.World.{AnyEntry, AnyRequest, AnyAnswer, AnyDone, Stage, World, logged_on}
use Rattle.desk_model.specs.World.{entries_of_client, served, served_now, StartsWith}
use Rattle.desk_model.specs.Sound.{Sound}
use Rattle.desk_model.proofs.Entries.{entries-append}
use Rattle.desk_invariant.specs.Views.{owed, after_meet, IsAtRest, MayHold, IsAccount}
use Rattle.desk_invariant.specs.Rule.{OwnCallAgrees, SeatAgrees}
use Rattle.desk_model.specs.Limits.{max_objects}

-- what is owed to a client is in the log
owed_served : (object client : ℕ) (call : Own) (stage : Stage) → OwnCallAgrees call stage
    → StartsWith (served_now object client stage) (owed object client call)
owed_served object client (own.Taken request answer) stage e =
    ([], ap (served_now object client) e ∙ sym (append-nil (logged_on object client request answer)))
owed_served object client call stage e = (served_now object client stage, refl)

-- the whole log has what the client is to find in it
pub all_covered : (kinds : List Kind) (quota : ℕ) (world : World) (client object : ℕ) (done : List AnyDone)
    (call : Own) → done ≡ world.done client → OwnCallAgrees call (world.stage client) → Sound kinds quota world
    → StartsWith (entries_of_client client (world.log object)) (served object client done ++ owed object client call)
all_covered kinds quota world client object done call same ok sound =
    let (more, now) = owed_served object client call (world.stage client) ok in
    let split = sym (append_assoc (served object client done) (owed object client call) more) in
    (more, sound.counted client object ∙ ((λ i. served object client (sym same i) ++ now i) ∙ split))

-- the entries of a client in a beginning of a log are a beginning of its entries in the log
pub entries_start : (client : ℕ) (xs ys : List AnyEntry) → StartsWith xs ys
    → StartsWith (entries_of_client client xs) (entries_of_client client ys)
entries_start client xs ys b =
    (entries_of_client client b.0, ap (entries_of_client client) b.1 ∙ entries-append client ys b.0)

-- what holds of this log of the object, and of what was seen of the others, holds of all that is seen with the log
pub seen_all : (P : ℕ → List AnyEntry → Type 0) (seen : List (List AnyEntry)) (object : ℕ) (log : List AnyEntry)
    → object < length seen → P object log → ((y : ℕ) → y ≢ object → P y (get_or seen y []))
    → (y : ℕ) → P y (get_or (set seen object log) y [])
seen_all P seen object log low here others y = dite (ℕ_discrete y object)
    (λ same. subst (λ z. P z (get_or (set seen object log) z [])) (sym same)
    (subst (P object) (sym (get_or-set_same seen object log [] low)) here))
    (λ other. subst (P y) (sym (get_or-set_other seen object y log [] other)) (others y other))

-- the client sees this log, a beginning of the object's log that has its own calls
pub saw : (kinds : List Kind) (world : World) (client object : ℕ) (view : DeskView) (log : List AnyEntry)
    → object < max_objects → StartsWith (world.log object) log
    → StartsWith (entries_of_client client log) (served object client view.done ++ owed object client view.own)
    → SeatAgrees kinds world client view → SeatAgrees kinds world client (after_meet object log view)
saw kinds world client object view log low begins covers ok =
    let wide = ok.wide_seen in
    let length_kept = length-set view.seen object log ∙ wide in
    let begin = seen_all (λ y z. StartsWith (world.log y) z) view.seen object log (omega arith) begins
    (λ y _. ok.seen y) in
    let cover = seen_all
    (λ y z. StartsWith (entries_of_client client z) (served y client view.done ++ owed y client view.own)) view.seen
    object log (omega arith) covers (λ y _. ok.covers y) in
    assumption

-- the front of a list of one element at most is empty or whole
one_front : {A : Type 0} (l xs ys : List A) → length l < 2 → l ≡ xs ++ ys → (xs ≡ []) ⊎ (xs ≡ l)
one_front l [] ys short e = inl refl
one_front l (z ∷ zs) ys short e =
    let n = ap length e in
    let m = length-append (z ∷ zs) ys in
    let none : length ys ≡ 0 = omega arith in
    inr (sym (e ∙ (ap (λ w. z ∷ zs ++ w) (nil_from_length ys none) ∙ append-nil (z ∷ zs))))

-- an answer puts at most one entry into a log
short_logged : (object client : ℕ) (request : AnyRequest) (answer : AnyAnswer)
    → length (logged_on object client request answer) < 2
short_logged object client request answer = grind arith

-- of the call that is not over, a log holds what it may: what the call has put in is this, and maybe more
held_now : (object client : ℕ) (call : Own) (stage : Stage) (now more : List AnyEntry) → IsAtRest call
    → OwnCallAgrees call stage → served_now object client stage ≡ now ++ more → MayHold object client call now
held_now object client own.Idle stage now more rest ok split = grind (arith, one_front [] now more)
held_now object client (own.Waiting request) stage now more rest ok split =
    grind (
      arith,
      one_front [] now more,
      short_logged object client request,
      λ (answer : AnyAnswer). one_front (logged_on object client request answer) now more,
    )
held_now object client call stage now more rest ok split = absurd rest

-- a list that the client has seen has of its own calls what it is to have
pub accounts : (kinds : List Kind) (quota : ℕ) (world : World) (object : ℕ) (view : DeskView) (log : List AnyEntry)
    → IsAtRest view.own → view.done ≡ world.done view.number → OwnCallAgrees view.own (world.stage view.number)
    → Sound kinds quota world → StartsWith (world.log object) log
    → StartsWith (entries_of_client view.number log)
    (served object view.number view.done ++ owed object view.number view.own)
    → IsAccount object view log
accounts kinds quota world object view log rest done ok sound begins covers =
    let client : ℕ = view.number in
    let before : List AnyEntry = served object client view.done in
    let (more, calls) = covers in
    let (rest_of_log, whole_log) = begins in
    let now : List AnyEntry = owed object client view.own ++ more in
    let later : List AnyEntry = entries_of_client client rest_of_log in
    let put_in : List AnyEntry = served_now object client (world.stage client) in
    let seen : entries_of_client client log ≡ before ++ now =
    calls ∙ append_assoc before (owed object client view.own) more in
    let whole : before ++ put_in ≡ before ++ (now ++ later) =
    ap (λ z. served object client z ++ put_in) done
    ∙ (sym (sound.counted client object) ∙ (ap (entries_of_client client) whole_log
    ∙ (entries-append client log rest_of_log ∙ (ap (λ z. z ++ later) seen ∙ append_assoc before now later)))) in
    let split : put_in ≡ now ++ later = append_cancel_left before put_in (now ++ later) whole in
    (now, seen, held_now object client view.own (world.stage client) now later rest ok split)
