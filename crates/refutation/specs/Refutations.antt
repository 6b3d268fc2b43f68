-- The answer to a reason: whether it shows that no order of an object's operations is valid.
use Rattle.std.specs.Prelude.{◌≡◌, ◌≢◌, ℕ, Bool, true, false, ⊤, List, Any, IsSome}
use Rattle.std.specs.Prelude.{Option, Some, None}
use Rattle.model.specs.declared.Kind.{Kind}
use Rattle.model.specs.Orders.{Call, IsValidOrder, calls_on, HasNoValidOrder}
use Rattle.events.specs.declared.event.Event.{Event}
use Rattle.events.specs.Events.{kind_of_object, denoted, IsNamed}
use Rattle.events.specs.Operations.{ObjectCalls, calls_of}
use Rattle.cuts.specs.declared.cutting.Cut.{Cut}
use Rattle.cuts.specs.Ahead.{IsBlocked}
use Rattle.cuts.specs.Counts.{IsOverdrawn}
use Rattle.cuts.specs.Cuts.{NamesPart, NoneFailed, kind_after_cuts}
use Rattle.refutation.specs.declared.reason.Basis.{Basis}
use Rattle.refutation.specs.declared.reason.Basis.TheVariants.{Search, Counting, Ahead}
use Rattle.refutation.specs.declared.reason.Reason.{Reason}
use Rattle.refutation.specs.declared.refuting.WhyNotShown.{WhyNotShown}
use Rattle.refutation.specs.declared.refuting.WhyNotShown.TheVariants.{Possible, NotExceeded}
use Rattle.refutation.specs.declared.refuting.WhyNotShown.TheVariants.{OutOfSteps, NoMemory}
use Rattle.refutation.specs.declared.refuting.ReasonAnswer.{ReasonAnswer}
use Rattle.refutation.specs.declared.refuting.ReasonAnswer.TheVariants as refutation

-- if the reason names a part, this holds of the part
abbrev pub IfPart : ReasonAnswer → (ObjectCalls → Type 0) → Type 0
IfPart (refutation.Impossible part) P = P part
IfPart (refutation.NotShown part why_not) P = P part
IfPart refutation.NoPart P = ⊤
IfPart refutation.OtherObject P = ⊤

-- whether it is shown that no order is valid
abbrev pub shows_impossible : ReasonAnswer → Bool
shows_impossible (refutation.Impossible part) = true
shows_impossible (refutation.NotShown part why_not) = false
shows_impossible refutation.NoPart = false
shows_impossible refutation.OtherObject = false

-- if it is shown that no order is valid, this holds of the part
abbrev pub IfShownImpossible : ReasonAnswer → (ObjectCalls → Type 0) → Type 0
IfShownImpossible (refutation.Impossible part) P = P part
IfShownImpossible (refutation.NotShown part why_not) P = ⊤
IfShownImpossible refutation.NoPart P = ⊤
IfShownImpossible refutation.OtherObject P = ⊤

-- if it is not shown that no order is valid, this holds of the part and of why not
abbrev pub IfNotShown : ReasonAnswer → (ObjectCalls → WhyNotShown → Type 0) → Type 0
IfNotShown (refutation.Impossible part) P = ⊤
IfNotShown (refutation.NotShown part why_not) P = P part why_not
IfNotShown refutation.NoPart P = ⊤
IfNotShown refutation.OtherObject P = ⊤

-- how many steps a search may take: those that the reason gives, or else this limit
abbrev pub steps_or : Option ℕ → ℕ → ℕ
steps_or None limit = limit
steps_or (Some n) limit = n

-- how many steps a search for this basis may take: those that the reason gives, or this limit if it
-- gives none
abbrev pub steps_of : Basis → ℕ → ℕ
steps_of (Search trial) limit = steps_or trial.steps limit
steps_of (Counting count) limit = limit
steps_of (Ahead number from) limit = limit

-- the basis is a search, and not a count
abbrev pub IsSearchBasis : Basis → Type 0
IsSearchBasis (Search trial) = ⊤
IsSearchBasis (Counting count) = ⊥
IsSearchBasis (Ahead number from) = ⊥

-- the basis is a count, and what it counts is not exceeded in the part
abbrev pub IsNotExceeded : Basis → ObjectCalls → Type 0
IsNotExceeded (Search trial) part = ⊥
IsNotExceeded (Counting count) part =
    IsOverdrawn part.kind count (calls_of part.ops) → ⊥
IsNotExceeded (Ahead number from) part = IsBlocked number from (calls_of part.ops) → ⊥

-- Why the basis does not show that the part has no valid order. A count has one answer alone.
abbrev pub IsWhyNotShown : Basis → ObjectCalls → WhyNotShown → Type 0
IsWhyNotShown basis part (Possible order) =
    IsSearchBasis basis × IsValidOrder part.kind (calls_of part.ops) order.items
IsWhyNotShown basis part NotExceeded = IsNotExceeded basis part
IsWhyNotShown basis part OutOfSteps = IsSearchBasis basis
IsWhyNotShown basis part NoMemory =
    IsSearchBasis basis × Any (λ call. IsSome call.returned) (calls_of part.ops)

-- no order of the part's operations is valid
abbrev pub PartHasNoValidOrder : ObjectCalls → Type 0
PartHasNoValidOrder part = HasNoValidOrder part.kind (calls_of part.ops)

-- What the basis shows of a part: a search, that no order of it is valid; a count, that a
-- content was taken away more often than it can have been there, or that more values definitely
-- were ahead of what a removal found than other calls can have taken out before it.
abbrev pub IsShownBy : Basis → ObjectCalls → Type 0
IsShownBy (Search trial) part = PartHasNoValidOrder part
IsShownBy (Counting count) part = IsOverdrawn part.kind count (calls_of part.ops)
IsShownBy (Ahead number from) part = IsBlocked number from (calls_of part.ops)

-- A part with the calls that the cuts name of the calls of an object, x, of this kind, and with no
-- other operations: none of its operations failed.
pub record IsNamedPart (cuts : List Cut) (x : ℕ) (whole : Kind) (calls : List Call)
    (part : ObjectCalls) : Type 0 where
  pub object : part.object ≡ x
  pub kind : part.kind ≡ kind_after_cuts cuts whole
  pub named : NamesPart cuts calls (calls_of part.ops)
  pub none_failed : NoneFailed part.ops

-- the answer to a reason on the operations of an object that has the reason's number
pub record IsReasonAnswerOn (kind : Kind) (calls : List Call) (reason : Reason)
    (answer : ReasonAnswer) : Type 0 where
  -- it is impossible only if no order of the operations is valid
  pub impossible : shows_impossible answer ≡ true → HasNoValidOrder kind calls
  -- the part that is returned has the calls that the reason names
  pub part : IfPart answer (IsNamedPart reason.cuts.items reason.object kind calls)
  -- it is impossible only if the reason's basis shows it of that part, and no order of the
  -- part is valid
  pub shown : IfShownImpossible answer (λ part.
      IsShownBy reason.basis part × PartHasNoValidOrder part)
  -- if the answer is that nothing is shown, it says why
  pub not_shown : IfNotShown answer (IsWhyNotShown reason.basis)
  -- the answer is that there is no part only if the cuts name none
  pub no_part : answer ≡ refutation.NoPart → (part : List Call)
      → NamesPart reason.cuts.items calls part → ⊥

-- the answer to a reason on a history
pub record IsReasonAnswer (es : List Event) (reason : Reason) (answer : ReasonAnswer) : Type 0 where
  pub on : IsReasonAnswerOn (kind_of_object es reason.object) (calls_on reason.object (denoted es))
      reason
      answer
  -- the answer is another object exactly if no invocation names the reason's object
  pub other_object : answer ≡ refutation.OtherObject → IsNamed es reason.object → ⊥
  pub own_object : answer ≢ refutation.OtherObject → IsNamed es reason.object
