-- A decision by some claims is a decision by these and one more claim: an order, a reason or a search that one of
-- them gives is still given by one. By cases on the decision.
use Rattle.std.proofs.Common.{◌≡◌, ◌≢◌, ◌∙◌, ◌⊎◌, ℕ, true, false, List, [], ◌∷◌, ◌++◌, Any, Contains, refl, ap, sym}
use Rattle.std.proofs.Common.{subst}
use Rattle.std.proofs.lemmas.List.Elements.{All-push, Contains-append_left, Contains-push}
use Rattle.model.specs.declared.Kind.{Kind}
use Rattle.model.specs.Orders.{Call}
use Rattle.certificate.specs.declared.Certificate.{Certificate}
use Rattle.verifying.specs.declared.claim.Claim.{Claim}
use Rattle.verifying.specs.declared.claim.Claim.TheVariants as claim
use Rattle.verifying.specs.Denotes.{claim_object}
use Rattle.verifying.specs.declared.decision.ShownReason.{ShownReason}
use Rattle.verifying.specs.declared.decision.Decision.{Decision}
use Rattle.verifying.specs.declared.decision.Decision.TheVariants.{Order, Impossible, OutOfSteps, Open}
use Rattle.verifying.specs.Decisions.{IfOrder, IfImpossible, IfOutOfSteps, IsClaimAnswer, IsDecision, IsUntrue}
use Rattle.verifying.specs.Decisions.{AsksForAnySearch, is_open, is_shown}

-- ---- lists that are longer by one

any_more : {X : Type 0} (P : X → Type 0) (xs : List X) (y : X) → Any P xs → Any P (xs ++ y ∷ [])
any_more P xs y a = let c = Contains-append_left xs (y ∷ []) a.1 (a.0, a.2, a.3) in (c.0, a.1, c.1, c.2, a.4)

any_last : {X : Type 0} (P : X → Type 0) (xs : List X) (y : X) → P y → Any P (xs ++ y ∷ [])
any_last P xs y p = let c = Contains-push xs y in (c.0, y, c.1, c.2, p)

-- ---- the cases of a decision

if_order : (d : Decision) (P Q : Certificate → Type 0) → ((c : Certificate) → P c → Q c) → IfOrder d P → IfOrder d Q
if_order (Order c) P Q f h = f c h
if_order d P Q f h = tt

if_impossible : (d : Decision) (P Q : ShownReason → Type 0) → ((r : ShownReason) → P r → Q r) → IfImpossible d P
    → IfImpossible d Q
if_impossible (Impossible r) P Q f h = f r h
if_impossible d P Q f h = tt

if_out_of_steps : (d : Decision) (P Q : ℕ → Type 0) → ((n : ℕ) → P n → Q n) → IfOutOfSteps d P → IfOutOfSteps d Q
if_out_of_steps (OutOfSteps n) P Q f h = f n h
if_out_of_steps d P Q f h = tt

module _ (cs : List Claim) (e : Claim) (limit x : ℕ) (kind : Kind) (calls : List Call) where
  -- what was decided stays where one more claim on the object does not contradict it
  keeps : (d : Decision) → (is_shown d ≡ false → claim_object e ≡ x → IsUntrue kind calls e ⊎ AsksForAnySearch e)
      → (d ≡ Open → claim_object e ≡ x → IsUntrue kind calls e)
      → IsDecision cs limit x kind calls d → IsDecision (cs ++ e ∷ []) limit x kind calls d
  keeps d unshown refused h = record {
    order = if_order d _ _ (λ c p. (p.0, any_more _ cs e p.1)) h.order;
    impossible = if_impossible d _ _ (λ r p. (p.0, Contains-append_left cs (e ∷ []) (claim.Reason r.reason r.note) p.1))
        h.impossible;
    out_of_steps = if_out_of_steps d _ _ (λ n p. any_more _ cs e p) h.out_of_steps;
    memory = λ is. any_more _ cs e (h.memory is);
    unshown = λ none. All-push (λ e. claim_object e ≡ x → IsUntrue kind calls e ⊎ AsksForAnySearch e) cs e
        (h.unshown none)
        (unshown none);
    refused = λ is. All-push (λ e. claim_object e ≡ x → IsUntrue kind calls e) cs e (h.refused is) (refused is);
  }

  pub shown_stays : (d : Decision) → is_shown d ≡ true → IsDecision cs limit x kind calls d
      → IsDecision (cs ++ e ∷ []) limit x kind calls d
  shown_stays d shown h =
      keeps d (λ none own. absurd (cc (sym shown ∙ none))) (λ is own. absurd (cc (sym shown ∙ ap is_shown is))) h

  pub other_stays : (d : Decision) → claim_object e ≢ x → IsDecision cs limit x kind calls d
      → IsDecision (cs ++ e ∷ []) limit x kind calls d
  other_stays d other h = keeps d (λ none own. absurd (other own)) (λ is own. absurd (other own)) h

  pub open_stays : (d next : Decision) → is_open next ≡ true → IsClaimAnswer x kind calls limit e next
      → IsDecision cs limit x kind calls d → IsDecision (cs ++ e ∷ []) limit x kind calls d
  open_stays d Open is a h = keeps d (λ none own. a.unshown refl) (λ same own. a.refused refl) h
  open_stays d next is a h = absurd (cc is)

  -- where nothing was shown, and the claim is not refused, its answer is the decision
  pub next_decides : (d next : Decision) → is_shown d ≡ false → is_open next ≡ false → claim_object e ≡ x
      → IsClaimAnswer x kind calls limit e next
      → IsDecision cs limit x kind calls d → IsDecision (cs ++ e ∷ []) limit x kind calls next
  next_decides d next none is own a h = record {
    order = if_order next _ _ (λ c p. (p.0, any_last _ cs e (own, p.1))) a.order;
    impossible = if_impossible next _ _ (λ r p. (
      p.0,
      subst (λ (k : Claim). Contains (cs ++ e ∷ []) k) p.1
          (Contains-push cs e),
    )) a.impossible;
    out_of_steps = if_out_of_steps next _ _ (λ n p. any_last _ cs e (own, p)) a.out_of_steps;
    memory = λ same. any_last _ cs e (own, a.memory same);
    unshown = λ not. All-push (λ e. claim_object e ≡ x → IsUntrue kind calls e ⊎ AsksForAnySearch e) cs e
        (h.unshown none)
        (λ o. a.unshown not);
    refused = λ same. absurd (cc (sym is ∙ ap is_open same));
  }
