-- The answers to reasons on a history are those of its objects (`answered`): each has the lines of its own object
-- (`named_by`), and the number of calls is that of this object (`counted`). By cases on the answer.
use Rattle.std.proofs.Common.{◌≡◌, ◌≢◌, ◌∙◌, ◌<◌, ◌≤◌, ℕ, true, false, List, length, map, get_or, All, Any, Contains}
use Rattle.std.proofs.Common.{refl, ap, sym, arith}
use Rattle.std.specs.List.{AllZip, list_any}
use Rattle.std.proofs.lemmas.List.Folds.{Any-from_list_any}
use Rattle.model.specs.Linearizable.{IsLinearizable}
use Rattle.model.specs.Orders.{calls_on, events}
use Rattle.model.proofs.Lists.{all_at, contains_from_in, in_from_contains, in_map}
use Rattle.events.specs.declared.event.Event.{Event}
use Rattle.events.specs.Events.{IsNamed, kind_of_object, denoted}
use Rattle.events.specs.Operations.{ObjectCalls, calls_of}
use Rattle.refutation.specs.declared.reason.Reason.{Reason}
use Rattle.refutation.specs.declared.refuting.ReasonAnswer.{ReasonAnswer}
use Rattle.refutation.specs.declared.refuting.ReasonAnswer.TheVariants.{Impossible, NotShown, NoPart, OtherObject}
use Rattle.refutation.specs.Refutations.{IsReasonAnswer, shows_impossible}
use Rattle.history_commands.specs.Refuted.{refutation_lines, refutations_text, refute_status, AreAnswered}
use Rattle.history_commands.proofs.AllFound.{no_of}

-- where one of the objects has this number, none can lack it
pub none_lacks : (objects : List ObjectCalls) (x n : ℕ) → length objects ≤ n
    → ((k : ℕ) → k < n → (d : ObjectCalls) → (get_or objects k d).object ≢ x)
    → Contains (map (λ o. o.object) objects) x → ⊥
none_lacks objects x n le none c =
    let r = in_map (λ (o : ObjectCalls). o.object) x objects
    (in_from_contains (map (λ (o : ObjectCalls). o.object) objects) x c) in
    let o : ObjectCalls = r.0 in
    let k = contains_from_in objects o r.1 in
    none k.0 (omega (arith, k.1, le)) o (ap (λ (p : ObjectCalls). p.object) k.2 ∙ sym r.2)

-- how many calls the object of this number has, by the objects of a history
pub counted : (es : List Event) (objects : List ObjectCalls) (x n : ℕ)
    → All (λ o. calls_of o.ops ≡ calls_on o.object (denoted es)) objects
    → Any (λ o. (o.object ≡ x) × (n ≡ length (calls_of o.ops))) objects → n ≡ length (calls_on x (denoted es))
counted es objects x n calls some =
    let o : ObjectCalls = some.1 in
    let cs = all_at (λ (o : ObjectCalls). calls_of o.ops ≡ calls_on o.object (denoted es)) objects calls o
    (in_from_contains objects o (some.0, some.2, some.3)) in
    some.4.1 ∙ ap length cs ∙ ap (λ y. length (calls_on y (denoted es))) some.4.0

-- how many calls the object has is said only where no order is valid
pub same_lines : (es : List Event) (n whole limit : ℕ) (reason : Reason) (answer : ReasonAnswer)
    → (shows_impossible answer ≡ true → n ≡ whole)
    → refutation_lines es n limit reason answer ≡ refutation_lines es whole limit reason answer
same_lines es n whole limit reason (Impossible part) e =
    ap (λ m. refutation_lines es m limit reason (Impossible part)) (e refl)
same_lines es n whole limit reason (NotShown part why) e = refl
same_lines es n whole limit reason NoPart e = refl
same_lines es n whole limit reason OtherObject e = refl

-- the object of a reason that shows that no order is valid is named
pub named_by : (es : List Event) (reason : Reason) (answer : ReasonAnswer) → IsReasonAnswer es reason answer
    → shows_impossible answer ≡ true → IsNamed es reason.object
named_by es reason (Impossible part) a e = a.own_object (λ q. absurd cc)
named_by es reason answer a e = absurd cc

pub answered : (es : List Event) (reasons : List Reason) (limit : ℕ) (answers : List ReasonAnswer)
    → AllZip (IsReasonAnswer es) reasons answers
    → (Any (λ r. shows_impossible r ≡ true) answers → IsLinearizable (kind_of_object es) (events (denoted es)) → ⊥)
    → AreAnswered es reasons limit (refute_status answers) (refutations_text es limit reasons answers)
answered es reasons limit answers each impossible = record {
  answers = answers;
  each = each;
  status_is = refl;
  text_is = refl;
  refuted = λ e. impossible (Any-from_list_any shows_impossible answers
      (no_of (list_any shows_impossible answers) false e));
}
