-- Texts denote one history at most (`one_history`), and certificates of one meaning at most (`one_meaning`): a text
-- spells one list of forms.
use Rattle.std.proofs.Common.{◌≡◌, ◌∙◌, ℕ, List, [], ◌∷◌, Some, Option, refl, ap, sym, map}
use Rattle.edn_reader.specs.Datum.{Datum}
use Rattle.edn_reader.specs.Spells.{Spells}
use Rattle.events.specs.declared.event.Event.{Event}
use Rattle.history.specs.Denotes as history_meaning
use Rattle.certificate.specs.declared.Certificate.{Certificate}
use Rattle.certificate.specs.Denotes.{Reading, certificate_of, reading_of}
use Rattle.certificate.specs.Denotes as certificate_meaning
use Rattle.reading.specs.Texts.{DenotesHistory, DenotesCertificates}

-- a text that spells one list of forms denotes one list of events
pub one_history : (text : List ℕ) (ds : List Datum) (es fs : List Event)
    → ((d : List Datum) → Spells d text → d ≡ ds) → history_meaning.Denotes ds es → DenotesHistory text fs → fs ≡ es
one_history text ds es fs only d h = h.denoted.events ∙ ap (history_meaning.events_of_forms 0) (only h.forms h.spelled)
    ∙ sym d.events

same_readings : (xs ys : List Certificate) → map (λ c. Some (reading_of c)) xs ≡ map (λ c. Some (reading_of c)) ys
    → map reading_of xs ≡ map reading_of ys
same_readings [] [] e = refl
same_readings [] (y ∷ ys) e = cc
same_readings (x ∷ xs) [] e = cc
same_readings (x ∷ xs) (y ∷ ys) e =
    let rest = same_readings xs ys (tails e) in
    let first = heads e in
    rw (first, rest) refl
  where
    heads : {x y : Reading} {xs ys : List (Option Reading)} → Some x ∷ xs ≡ Some y ∷ ys → x ≡ y
    heads e = cc

    tails : {x y : Option Reading} {xs ys : List (Option Reading)} → x ∷ xs ≡ y ∷ ys → xs ≡ ys
    tails e = cc

-- a text that spells one list of forms denotes certificates of one meaning
pub one_meaning : (text : List ℕ) (ds : List Datum) (cs bs : List Certificate)
    → ((d : List Datum) → Spells d text → d ≡ ds) → certificate_meaning.Denotes ds cs → DenotesCertificates text bs
    → map reading_of bs ≡ map reading_of cs
one_meaning text ds cs bs only d h = same_readings bs cs
    (sym h.denoted.each ∙ ap (map certificate_of) (only h.forms h.spelled) ∙ d.each)
