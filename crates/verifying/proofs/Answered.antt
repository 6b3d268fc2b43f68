-- One reason answers a claim on an object by what it shows: impossible, if the part has no valid order, or why it is
-- not shown. By what `refute` says of the reason.
use Rattle.std.proofs.Common.{ℕ, ℤ, List, Option, inl, inr, refl}
use Rattle.std.specs.Global.{Vec}
use Rattle.model.specs.declared.Kind.{Kind}
use Rattle.model.specs.Orders.{Call, HasNoValidOrder}
use Rattle.events.specs.Operations.{ObjectCalls}
use Rattle.refutation.specs.declared.reason.Reason.{Reason}
use Rattle.refutation.specs.declared.refuting.WhyNotShown.TheVariants.{Possible}
use Rattle.refutation.specs.Refutations.{PartHasNoValidOrder, IsWhyNotShown, IsNamedPart, IsShownBy}
use Rattle.verifying.specs.declared.claim.Claim.TheVariants as claim
use Rattle.verifying.specs.declared.decision.Decision.TheVariants as decision
use Rattle.verifying.specs.Decisions.{IsClaimAnswer, IsUntrueReason}

module _ (kind : Kind) (calls : List Call) (limit : ℕ) (r : Reason) (note : Option (Vec ℕ)) where
  pub is_refused : IsUntrueReason kind calls r → IsClaimAnswer r.object kind calls limit (claim.Reason r note)
      decision.Open
  is_refused refused = record {
    order = tt;
    impossible = tt;
    out_of_steps = tt;
    memory = λ e. absurd (cc e);
    unshown = λ e. inl refused;
    refused = λ e. refused;
  }

  pub has_an_order : (part : ObjectCalls) (order : Vec ℤ) → IsNamedPart r.cuts.items r.object kind calls part
      → IsWhyNotShown r.basis part (Possible order)
      → IsClaimAnswer r.object kind calls limit (claim.Reason r note) decision.Open
  has_an_order part order named why_not = is_refused (inr (part, named, inl (order, why_not)))

  pub is_shown_by : (part : ObjectCalls) → IsNamedPart r.cuts.items r.object kind calls part → IsShownBy r.basis part
      → PartHasNoValidOrder part → HasNoValidOrder kind calls
      → IsClaimAnswer r.object kind calls limit (claim.Reason r note)
      (decision.Impossible record { reason = r; part = part; note = note })
  is_shown_by part named shown without impossible = record {
    order = tt;
    impossible =
        (record { named = refl; part = named; shown = shown; no_order = without; impossible = impossible }, refl);
    out_of_steps = tt;
    memory = λ e. absurd (cc e);
    unshown = λ e. absurd (cc e);
    refused = λ e. absurd (cc e);
  }
