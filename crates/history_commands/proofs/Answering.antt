-- The answers of a search, and the text that is made of them, show what each object's answer shows: by induction over
-- the answers, and by cases on each outcome.
use Rattle.std.proofs.Common.{◌≡◌, ◌∙◌, ◌<◌, ◌||◌, ℕ, suc, true, List, [], ◌∷◌, map, All, Any, AllPairs, Contains}
use Rattle.std.proofs.Common.{Option, Some, refl, sym, arith}
use Rattle.std.specs.Prelude.{◌↔◌}
use Rattle.std.specs.List.{list_all, list_any}
use Rattle.model.specs.Linearizable.{IsLinearizable}
use Rattle.model.specs.Orders.{events}
use Rattle.events.specs.declared.event.Event.{Event}
use Rattle.events.specs.Events.{IsNamed, kind_of_object, denoted}
use Rattle.certificate.specs.declared.Certificate.{Certificate}
use Rattle.certificate.specs.Lines.{certificate_lines}
use Rattle.certificate.specs.Denotes.{AreDistinct}
use Rattle.checker.specs.Refusals.{AreValid}
use Rattle.search.specs.declared.certificate_search.Search.{Search}
use Rattle.search.specs.declared.certificate_search.CertificateOutcome.{CertificateOutcome}
use Rattle.search.specs.declared.certificate_search.CertificateOutcome.TheVariants as found
use Rattle.search.specs.declared.certificate_search.CertificateOutcome.TheVariants.{Impossible, OutOfSteps, TooLarge}
use Rattle.search.specs.declared.certificate_search.CertificateOutcome.TheVariants.{NoMemory}
use Rattle.search.specs.Answers.{IsSearchAnswerOn, IsFound, certificate_found, certificates_found}
use Rattle.history_commands.specs.Searches.{answer_line, outcome_line, finds_impossible, is_found, search_status}
use Rattle.history_commands.specs.Searches.{AreSearched}
use Rattle.history_commands.specs.Outputs.{lines_on}
use Rattle.history_commands.specs.declared.status.Status.{Status}
use Rattle.history_commands.proofs.AllFound.{each_found, found_text, no_of, yes_of}

-- ---- one impossible

one_impossible : (answers : List (ℕ × Search)) → list_any (λ a. finds_impossible a.1.found) answers ≡ true
    → Any (λ a. a.1.found ≡ Impossible) answers
one_impossible [] e = absurd cc
one_impossible (a ∷ rest) e = go a.1.found refl e (one_impossible rest)
  where
    later : Any (λ a. a.1.found ≡ Impossible) rest → Any (λ a. a.1.found ≡ Impossible) (a ∷ rest)
    later r = (suc r.0, r.1, omega (arith, r.2), r.3, r.4)

    go : (f : CertificateOutcome) → a.1.found ≡ f → (finds_impossible f || list_any
        (λ a. finds_impossible a.1.found) rest)
        ≡ true
        → (list_any (λ a. finds_impossible a.1.found) rest ≡ true → Any (λ a. a.1.found ≡ Impossible) rest)
        → Any (λ a. a.1.found ≡ Impossible) (a ∷ rest)
    go (found.Found c) q t again = later (again t)
    go Impossible q t again = (0, a, omega arith, refl, q)
    go OutOfSteps q t again = later (again t)
    go TooLarge q t again = later (again t)
    go NoMemory q t again = later (again t)

-- ---- all found

abbrev certificate_of : ℕ × Search → Option Certificate
certificate_of a = certificate_found a.1.found

abbrev line_of : ℕ × Search → List ℕ
line_of a = answer_line a.0 a.1

has_one : (a : ℕ × Search) → is_found a.1.found ≡ true
    → (c : Certificate) × (certificate_found a.1.found ≡ Some c) × (line_of a ≡ certificate_lines (c ∷ []))
has_one a = go a.1.found
  where
    go : (f : CertificateOutcome) → is_found f ≡ true
        → (c : Certificate) × (certificate_found f ≡ Some c)
        × (outcome_line a.0 a.1.steps f ≡ certificate_lines (c ∷ []))
    go (found.Found c) e = (c, refl, refl)
    go Impossible e = absurd cc
    go OutOfSteps e = absurd cc
    go TooLarge e = absurd cc
    go NoMemory e = absurd cc

pub searched : (es : List Event) (limit : ℕ) (status : Status) (text : List ℕ) (answers : List (ℕ × Search))
    → AllPairs (λ a b. a.0 < b.0) answers → ((x : ℕ) → Contains (map (λ a. a.0) answers) x ↔ IsNamed es x)
    → All (λ a. IsSearchAnswerOn es limit a.0 a.1) answers
    → (Any (λ a. a.1.found ≡ Impossible) answers → IsLinearizable (kind_of_object es) (events (denoted es)) → ⊥)
    → (All (λ a. IsFound a.1) answers → AreValid es (certificates_found answers))
    → AreDistinct (certificates_found answers)
    → status ≡ search_status answers → text ≡ lines_on answer_line answers → AreSearched es limit status text
searched es limit status text answers rising named each impossible valid distinct s t =
    let any = list_any (λ (a : ℕ × Search). finds_impossible a.1.found) answers in
    let all = list_all (λ (a : ℕ × Search). is_found a.1.found) answers in
    record {
      answers = answers;
      rising = rising;
      named = named;
      each = each;
      status_is = s;
      text_is = t;
      certified = λ e. let all_is = yes_of any all (sym s ∙ e) in (
        certificates_found answers,
        valid
            (each_found (λ (a : ℕ × Search). is_found a.1.found) certificate_of line_of (lines_on answer_line) has_one
            refl
            (λ a rest. refl) answers all_is),
        distinct,
        t
            ∙ found_text (λ (a : ℕ × Search). is_found a.1.found) certificate_of line_of (lines_on answer_line) has_one
            refl
            (λ a rest. refl) answers all_is,
      );
      refuted = λ e. impossible (one_impossible answers (no_of any all (sym s ∙ e)));
    }
