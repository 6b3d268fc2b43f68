-- Each operation of the history that events denote is on an object that they name (`call_named`): by induction along
-- the events. So, with valid certificates, the calls of each named object have a valid order (`orders`).
use Rattle.std.proofs.Common.{◌≡◌, Bool, true, false, List, [], ◌∷◌, ◌++◌, All, inl, inr, refl}
use Rattle.std.proofs.Common.{ap, sym, Result, Ok, Err, OnOk}
use Rattle.model.specs.Orders.{ProcessCall, calls_in}
use Rattle.model.specs.Lists.{In}
use Rattle.model.proofs.Lists.{all_from_in, contains_from_in}
use Rattle.events.specs.declared.event.Action.{Action}
use Rattle.events.specs.declared.event.Action.TheVariants.{Invoke, Ok as Returned, Fail, Info}
use Rattle.events.specs.declared.event.Event.{Event}
use Rattle.events.specs.Events.{IsNamed, kind_of_object, next_event, fails, denoted_by, denoted}
use Rattle.certificate.specs.declared.Certificate.{Certificate}
use Rattle.checker.specs.declared.refusal.Refusal.{Refusal}
use Rattle.checker.specs.Refusals.{AreValid}
use Rattle.locality.specs.Locality.{HasValidOrder}
use Rattle.report.proofs.Named.{later_named}

one_named : (e : Event) (later : List Event) (c : ProcessCall)
    → (In c (calls_in (denoted later)) → IsNamed later c.object)
    → (a : Action) → e.action ≡ a → (failed : Bool) → In c
    (calls_in (denoted_by e.number e.process e.object a failed ++ denoted later)) → IsNamed (e ∷ later) c.object
one_named e later c h (Invoke op) q true j = later_named e later c.object (h j)
one_named e later c h (Invoke op) q false j = elim j [
  | inl s ↦ record {
    event = e;
    op = op;
    stands = contains_from_in (e ∷ later) e (inl refl);
    on_object = ap
        (λ (z : ProcessCall). z.object) (sym s);
    invokes = q;
  }
  | inr k ↦ later_named e later c.object (h k)
]
one_named e later c h (Returned r) q failed j = later_named e later c.object (h j)
one_named e later c h Fail q failed j = later_named e later c.object (h j)
one_named e later c h Info q failed j = later_named e later c.object (h j)

call_named : (es : List Event) (c : ProcessCall) → In c (calls_in (denoted es)) → IsNamed es c.object
call_named [] c i = absurd i
call_named (e ∷ later) c i = one_named e later c (call_named later c) e.action refl
    (fails (next_event e.process later)) i

-- if certificates are valid, the calls of each named object have a valid order
pub orders : (es : List Event) (certificates : List Certificate) → AreValid es certificates
    → All (λ call. HasValidOrder (kind_of_object es) (denoted es) call.object) (calls_in (denoted es))
orders es certificates v = all_from_in (λ (c : ProcessCall). HasValidOrder (kind_of_object es) (denoted es) c.object)
    (calls_in (denoted es))
    (λ c i. let own = v.each c.object (call_named es c i) in (own.0.certificate.order.items, own.1))

pub where_ok : {P Q : Type 0} (r : Result (Unit {0}) Refusal) → OnOk r P → (P → Q) → OnOk r Q
where_ok (Ok u) h f = f h
where_ok (Err e) h f = tt
