-- The output of a search, and its exit status.
use Rattle.std.specs.Prelude.{◌≡◌, ◌<◌, ◌↔◌, ℕ, Bool, true, false, ⊤, List, [], ◌∷◌, ◌++◌, codes}
use Rattle.std.specs.Prelude.{decimal, map, All, AllPairs, Contains}
use Rattle.edn_reader.specs.Sound.{IsShort}
use Rattle.model.specs.Linearizable.{IsLinearizable}
use Rattle.model.specs.Orders.{events}
use Rattle.events.specs.declared.event.Event.{Event}
use Rattle.events.specs.Events.{IsNamed, kind_of_object, denoted}
use Rattle.certificate.specs.declared.Certificate.{Certificate}
use Rattle.certificate.specs.Denotes.{AreDistinct}
use Rattle.certificate.specs.Lines.{certificate_lines}
use Rattle.checker.specs.Refusals.{AreValid}
use Rattle.search.specs.declared.certificate_search.Search.{Search}
use Rattle.search.specs.declared.certificate_search.CertificateOutcome.{CertificateOutcome}
use Rattle.search.specs.declared.certificate_search.CertificateOutcome.TheVariants as found
use Rattle.search.specs.declared.certificate_search.CertificateOutcome.TheVariants.{Impossible}
use Rattle.search.specs.declared.certificate_search.CertificateOutcome.TheVariants.{OutOfSteps}
use Rattle.search.specs.declared.certificate_search.CertificateOutcome.TheVariants.{TooLarge}
use Rattle.search.specs.declared.certificate_search.CertificateOutcome.TheVariants.{NoMemory}
use Rattle.search.specs.Answers.{IsSearchAnswerOn}
use Rattle.report.specs.declared.verdict.Verdict.{Verdict}
use Rattle.report.specs.declared.verdict.Verdict.TheVariants as verdict
use Rattle.reading.specs.declared.text_failure.TextFailure.TheVariants.{Faulty}
use Rattle.reading.specs.Texts.{DenotesHistory, IsHistoryFault, IsLinearizableText}
use Rattle.reading.specs.Texts.{IsNotLinearizableText}
use Rattle.history_commands.specs.Outputs.{IsOutput, lines_on, status_on}
use Rattle.history_commands.specs.declared.status.Status.{Status}
use Rattle.history_commands.specs.declared.status.Status.TheVariants as ends

-- the line of an outcome on an object, after n steps: its certificate, or why it has none
abbrev pub outcome_line : ℕ → ℕ → CertificateOutcome → List ℕ
outcome_line x n (found.Found c) = certificate_lines (c ∷ [])
outcome_line x n Impossible = (codes "; object " ++ decimal x) ++ codes ": impossible\n"
outcome_line x n OutOfSteps =
    (codes "; object " ++ decimal x) ++ (codes ": out of steps after " ++ (decimal n ++ codes "\n"))
outcome_line x n TooLarge = (codes "; object " ++ decimal x) ++ codes ": too large\n"
outcome_line x n NoMemory = (codes "; object " ++ decimal x) ++ codes ": out of memory\n"

-- the line of a search's answer on an object: its certificate, or why it has none
abbrev pub answer_line : ℕ → Search → List ℕ
answer_line x s = outcome_line x s.steps s.found

-- whether a search excluded all orders
abbrev pub finds_impossible : CertificateOutcome → Bool
finds_impossible (found.Found c) = false
finds_impossible Impossible = true
finds_impossible OutOfSteps = false
finds_impossible TooLarge = false
finds_impossible NoMemory = false

-- whether a search found a certificate
abbrev pub is_found : CertificateOutcome → Bool
is_found (found.Found c) = true
is_found Impossible = false
is_found OutOfSteps = false
is_found TooLarge = false
is_found NoMemory = false

-- no, if some object is impossible; yes, if each has a certificate
abbrev pub search_status : List (ℕ × Search) → Status
search_status answers =
    status_on (λ s. finds_impossible s.found) (λ s. is_found s.found) answers

-- The answers on the objects of a history, in rising number, and what they show.
pub record AreSearched (es : List Event) (limit : ℕ) (status : Status) (text : List ℕ)
    : Type 0 where
  pub answers : List (ℕ × Search)
  pub rising : AllPairs (λ a b. a.0 < b.0) answers
  pub named : (x : ℕ) → Contains (map (λ a. a.0) answers) x ↔ IsNamed es x
  pub each : All (λ a. IsSearchAnswerOn es limit a.0 a.1) answers
  pub status_is : status ≡ search_status answers
  pub text_is : text ≡ lines_on answer_line answers
  -- a yes comes with valid certificates, one for each object, and if it is a no the history is
  -- not linearizable
  pub certified : status ≡ ends.Yes
      → (cs : List Certificate) × AreValid es cs × AreDistinct cs × (text ≡ certificate_lines cs)
  pub refuted : status ≡ ends.No → IsLinearizable (kind_of_object es) (events (denoted es)) → ⊥

-- The answers on the objects of the history that a text denotes, and what they show. The text is
-- not too long to be read.
abbrev pub IsSearched : List ℕ → ℕ → Status → List ℕ → Type 0
IsSearched h limit status text =
    IsShort h × (es : List Event) × DenotesHistory h es × AreSearched es limit status text

-- the text could not be read, or an allocation failed
abbrev pub IsHistoryUnread : List ℕ → Verdict → Type 0
IsHistoryUnread h (verdict.Yes s) = ⊥
IsHistoryUnread h (verdict.No r) = ⊥
IsHistoryUnread h (verdict.Malformed f) = IsHistoryFault h (Faulty f)
IsHistoryUnread h verdict.NoMemory = ⊤

-- the output of a search: its answers, or why there are none
abbrev pub IsSearchOutput : List ℕ → ℕ → Status → List ℕ → Type 0
IsSearchOutput h limit status text = IsOutput (IsSearched h limit) (IsHistoryUnread h) status text

-- The text is that of certificates that are valid for the history which the other text denotes.
-- There is one for each of its objects.
pub record AreCertificatesFor (h text : List ℕ) : Type 0 where
  pub client_events : List Event
  pub history_text : DenotesHistory h client_events
  pub certificates : List Certificate
  pub valid : AreValid client_events certificates
  pub distinct : AreDistinct certificates
  pub text_is : text ≡ certificate_lines certificates

-- The result of a search: a yes comes with valid certificates, and the history is linearizable; if
-- it is a no the history is not.
pub record IsSearchResult (h : List ℕ) (limit : ℕ) (status : Status) (out : List ℕ) : Type 0 where
  pub output : IsSearchOutput h limit status out
  pub certified : status ≡ ends.Yes → AreCertificatesFor h out
  pub linearizable : status ≡ ends.Yes → IsLinearizableText h
  pub refuted : status ≡ ends.No → IsNotLinearizableText h
