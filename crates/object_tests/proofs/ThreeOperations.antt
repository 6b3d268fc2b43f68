-- The events of the test of three operations are proper (`three_proper`): each one fits after those before it. By
-- cases on each of the events.
use Rattle.std.proofs.Common.{◌≡◌, ℕ, ◌<◌, inl, inr, pos, List, [], ◌∷◌, ◌++◌, None, refl, ap, sym, ◌∙◌, subst}
use Rattle.std.proofs.Common.{append_assoc, arith}
use Rattle.std.proofs.lemmas.List.{append-nil}
use Rattle.model.specs.declared.Kind.{Kind}
use Rattle.model.specs.declared.AnyOp.{AnyOp}
use Rattle.model.specs.declared.AnyOp.TheVariants.{Enqueue, Dequeue, Acquire}
use Rattle.model.specs.declared.AnyReply.TheVariants.{Value}
use Rattle.model.specs.Objects.{kind_of}
use Rattle.model.specs.Lists.{In}
use Rattle.model.proofs.Lists.{Pairs, in_from_contains, all_from_pairs}
use Rattle.events.specs.declared.event.Action.{Action}
use Rattle.events.specs.declared.event.Action.TheVariants.{Invoke, Ok, Fail, Info}
use Rattle.events.specs.declared.event.Event.{Event}
use Rattle.events.specs.Events.{Follows, IsOfKindAt, IsProper}

-- each event fits after those before it
abbrev AllFollow : List Event → List Event → Type 0
AllFollow front [] = Unit {0}
AllFollow front (e ∷ es) = Follows front e.process e.object e.action × AllFollow (front ++ e ∷ []) es

each_follows : (front es earlier later : List Event) (e : Event) → AllFollow front es → es ≡ earlier ++ e ∷ later
    → Follows (front ++ earlier) e.process e.object e.action
each_follows front [] [] later e h q = absurd (cc q)
each_follows front [] (x ∷ earlier) later e h q = absurd (cc q)
each_follows front (f ∷ es) [] later e h q =
    let same : f ≡ e = cc in
    subst (λ (x : Event). Follows (front ++ []) x.process x.object x.action) same
    (subst (λ t. Follows t f.process f.object f.action) (sym (append-nil front)) h.0)
each_follows front (f ∷ es) (x ∷ earlier) later e h q =
    let same : f ≡ x = cc in
    let rest : es ≡ earlier ++ e ∷ later = cc in
    subst (λ t. Follows t e.process e.object e.action)
    (append_assoc front (f ∷ []) earlier ∙ ap (λ y. front ++ y ∷ earlier) same)
    (each_follows (front ++ f ∷ []) es earlier later e h.1 rest)

-- each number is below the next one
abbrev Rise : ℕ → List Event → Type 0
Rise n [] = Unit {0}
Rise n (e ∷ es) = (n < e.number) × Rise e.number es

above : (n : ℕ) (es : List Event) → Rise n es → (e : Event) → In e es → n < e.number
above n [] h e i = absurd i
above n (f ∷ es) h e i = elim i [
  | inl q ↦ subst (λ (x : Event). n < x.number) (sym q) h.0
  | inr j ↦ let l = above f.number es h.1 e j in let m = h.0 in omega arith
]

pairs_rise : (n : ℕ) (es : List Event) → Rise n es → Pairs (λ (a b : Event). a.number < b.number) es
pairs_rise n [] h = tt
pairs_rise n (e ∷ es) h = (above e.number es h.1, pairs_rise e.number es h.1)

pub proper : (es : List Event) → Rise 0 es → AllFollow [] es → IsProper es
proper es rise follow = record {
  rising = all_from_pairs (λ (a b : Event). a.number < b.number) es (pairs_rise 0 es rise);
  each = λ earlier later e q. each_follows [] es earlier later e follow q;
}

-- what an earlier action says about the kind
abbrev Agrees : Action → Kind → Type 0
Agrees (Invoke op) k = kind_of op ≡ k
Agrees (Ok r) k = Unit {0}
Agrees Fail k = Unit {0}
Agrees Info k = Unit {0}

abbrev AllAgree : List Event → ℕ → Kind → Type 0
AllAgree [] x k = Unit {0}
AllAgree (e ∷ es) x k = (e.object ≡ x → Agrees e.action k) × AllAgree es x k

of_kind : (es : List Event) (x : ℕ) (op : AnyOp) → AllAgree es x (kind_of op) → IsOfKindAt es x op
of_kind es x op h e earlier stands on_x invokes = go es h (in_from_contains es e stands)
  where
    go : (es : List Event) → AllAgree es x (kind_of op) → In e es → kind_of earlier ≡ kind_of op
    go [] h i = absurd i
    go (f ∷ es) h i = elim i [
      | inl q ↦ subst (λ a. Agrees a (kind_of op)) (ap (λ (y : Event). y.action) (sym q) ∙ invokes)
          (h.0 (ap (λ (y : Event). y.object) (sym q) ∙ on_x))
      | inr j ↦ go es h.1 j
    ]

abbrev event : ℕ → ℕ → ℕ → Action → Event
event n p x a = record { number = n; process = p; object = x; action = a }

abbrev enqueued : Event
enqueued = event 2 0 7 (Invoke (Enqueue (pos 5)))

abbrev acquired : Event
acquired = event 3 1 0 (Invoke Acquire)

abbrev failed : Event
failed = event 4 0 7 Fail

abbrev dequeued : Event
dequeued = event 6 0 7 (Invoke Dequeue)

abbrev unknown : Event
unknown = event 8 1 0 Info

abbrev answered : Event
answered = event 9 0 7 (Ok (Value None))

abbrev pub all_three : List Event
all_three = enqueued ∷ acquired ∷ failed ∷ dequeued ∷ unknown ∷ answered ∷ []

-- of queue 7, only operations of a queue are before its second invocation
before_dequeue : AllAgree (enqueued ∷ acquired ∷ failed ∷ []) 7 (kind_of Dequeue)
before_dequeue = ((λ q. refl), ((λ q. absurd (cc q)), ((λ q. tt), tt)))

before_acquire : AllAgree (enqueued ∷ []) 0 (kind_of Acquire)
before_acquire = ((λ q. absurd (cc q)), tt)

follow : AllFollow [] all_three
follow = (
  (tt, of_kind [] 7 (Enqueue (pos 5)) tt),
  (
    (tt, of_kind (enqueued ∷ []) 0 Acquire before_acquire),
    (
      (Enqueue (pos 5), (enqueued, refl, refl, refl)),
      (
        (tt, of_kind (enqueued ∷ acquired ∷ failed ∷ []) 7 Dequeue before_dequeue),
        (
          (Acquire, (acquired, refl, refl, refl)),
          ((Dequeue, (dequeued, refl, refl, refl), refl), tt),
        ),
      ),
    ),
  ),
)

rise : Rise 0 all_three
rise = (omega arith, (omega arith, (omega arith, (omega arith, (omega arith, (omega arith, tt))))))

pub three_proper : IsProper all_three
three_proper = proper all_three rise follow
