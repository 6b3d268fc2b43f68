-- The forms up to a place are steps: one more is (`step_more`), or it is the first that is not (`no_step`), and then
-- the forms denote no schedule (`refuses`). By one form at a time.
use Rattle.std.proofs.Common.{◌≡◌, ◌≢◌, ℕ, ◌+◌, ◌<◌, List, [], ◌∷◌, ◌++◌, length, take, drop, map, get_or, Some}
use Rattle.std.proofs.Common.{None, refl, ap, sym, ◌∙◌, subst, arith}
use Rattle.std.proofs.lemmas.List.{map-append, take_more, drop_more, take-append-drop, length-map, length-take-le}
use Rattle.std.proofs.lemmas.List.{take-map}
use Rattle.model.specs.Lists.{In}
use Rattle.model.proofs.Lists.{in_middle, in_map, in_map_from, all_from_in}
use Rattle.edn_reader.specs.Datum.{Datum}
use Rattle.edn_reader.specs.View.{view, views}
use Rattle.edn_reader.specs.declared.form.Form.{Form}
use Rattle.simulation.specs.Schedules.{AnyStep, step_of, Denotes}
use Rattle.simulation.specs.Faults.{AreStepsTo, IsNoStepAt, StepFaultIs}
use Rattle.simulation.specs.declared.header.Header.{Header}
use Rattle.simulation.specs.declared.fault.ScheduleFaultKind.{ScheduleFaultKind}
use Rattle.simulation.specs.declared.fault.ScheduleFaultKind.TheVariants.{NoHeader, NotAStep, NoMemory}

-- one step more
step_more : (fs : List Form) (i : ℕ) (f : Form) (old new : List (ℕ × AnyStep)) (s : ℕ × AnyStep) → i < length fs
    → f ≡ get_or fs i f
    → map step_of (views (take i fs)) ≡ map (λ s. Some s) old → Some s ≡ step_of (view f) → new ≡ old ++ s ∷ []
    → map step_of (views (take (i + 1) fs)) ≡ map (λ s. Some s) new
step_more fs i f old new s low is so_far one more =
    ap (λ xs. map step_of (views xs)) (take_more fs i f low)
    ∙ (ap (map step_of) (map-append view (take i fs) (get_or fs i f ∷ []))
    ∙ (map-append step_of (views (take i fs)) (view (get_or fs i f) ∷ [])
    ∙ (ap (λ xs. xs ++ step_of (view (get_or fs i f)) ∷ []) so_far
    ∙ (ap (λ o. map (λ s. Some s) old ++ o ∷ []) (ap (λ x. step_of (view x)) (sym is) ∙ sym one)
    ∙ (sym (map-append (λ s. Some s) old (s ∷ [])) ∙ ap (map (λ s. Some s)) (sym more))))))

each_step : (ds : List Datum) (steps : List (ℕ × AnyStep)) → map step_of ds ≡ map (λ s. Some s) steps → (d : Datum)
    → In d ds → step_of d ≢ None
each_step ds steps h d i none =
    let there : In (step_of d) (map (λ s. Some s) steps) = subst (In (step_of d)) h (in_map_from step_of d ds i) in
    let s = in_map (λ s. Some s) (step_of d) steps there in
    absurd (cc (none, s.2))

-- the next form is a step too
pub steps_to : (fs : List Form) (i : ℕ) (f : Form) (steps : List (ℕ × AnyStep)) (s : ℕ × AnyStep) → i < length fs
    → f ≡ get_or fs i f
    → map step_of (views (take i fs)) ≡ map (λ s. Some s) steps → Some s ≡ step_of (view f)
    → AreStepsTo (views fs) (i + 1)
steps_to fs i f steps s low is so_far one =
    let long = length-map fs view in
    let more = step_more fs i f steps (steps ++ s ∷ []) s low is so_far one refl in
    let front = subst (λ ds. map step_of ds ≡ map (λ s. Some s) (steps ++ s ∷ [])) (sym (take-map view (i + 1) fs))
    more in
    record {
      after_header = omega arith;
      there = omega arith;
      steps = all_from_in (λ d. step_of d ≢ None) (take (i + 1) (views fs))
          (each_step (take (i + 1) (views fs)) (steps ++ s ∷ []) front);
    }

-- the next form is no step
pub no_step : (fs : List Form) (i : ℕ) (f : Form) (steps : List (ℕ × AnyStep)) → i < length fs → f ≡ get_or fs i f
    → map step_of (views (take i fs)) ≡ map (λ s. Some s) steps → None ≡ step_of (view f)
    → IsNoStepAt (views fs) (i + 1)
no_step fs i f steps low is so_far none = record {
  earlier = views (take i fs);
  form = view f;
  later = views (drop (i + 1) fs);
  split = ap views
      (sym (take-append-drop i fs)
      ∙ ap (λ xs. take i fs ++ xs) (drop_more fs i f low ∙ ap (λ x. x ∷ drop (i + 1) fs) (sym is)))
      ∙ map-append view (take i fs) (f ∷ drop (i + 1) fs);
  stands_at = ap (λ n. n + 1) (length-map (take i fs) view ∙ length-take-le i fs (omega arith));
  steps = all_from_in (λ d. step_of d ≢ None) (views (take i fs)) (each_step (views (take i fs)) steps so_far);
  none = sym none;
}

-- forms of which one is no step are no steps
no_steps : (ds : List Datum) (n : ℕ) → IsNoStepAt ds n → (steps : List (ℕ × AnyStep))
    → map step_of ds ≡ map (λ s. Some s) steps → ⊥
no_steps ds n h steps are =
    each_step ds steps are h.form (subst (In h.form) (sym h.split) (in_middle h.form h.earlier h.later)) h.none

-- after a header, such a fault means that the forms denote no schedule
pub refuses : (ds : List Datum) (first : Datum) (rest : List Datum) → ds ≡ first ∷ rest
    → (kind : ScheduleFaultKind) (n : ℕ) → StepFaultIs rest kind n
    → kind ≢ NoMemory → (h : Header) (steps : List (ℕ × AnyStep)) → Denotes ds h steps → ⊥
refuses ds first rest whole NoHeader n fault other h steps d = fault
refuses ds first rest whole NotAStep n fault other h steps d =
    let both : first ∷ rest ≡ d.first ∷ d.rest = sym whole ∙ d.whole in
    let same : rest ≡ d.rest = cc (both) in
    no_steps rest n fault steps (ap (map step_of) same ∙ d.are_steps)
refuses ds first rest whole NoMemory n fault other h steps d = other refl
