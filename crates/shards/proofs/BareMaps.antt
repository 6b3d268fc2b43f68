-- What is before a form is none of it: a text without the separators and comments at its front spells the same form,
-- since the form's first token is what comes after them.
use Rattle.std.proofs.Common.{◌≡◌, ℕ, List, [], ◌∷◌, refl, subst}
use Rattle.std.specs.Str.{IsUtf8}
use Rattle.std.proofs.lemmas.Str.{IsUtf8-nil}
use Rattle.edn_reader.specs.Datum.{Datum, atom, vector, dictionary, items_of}
use Rattle.edn_reader.specs.Token.{Token, leaf, open_map, open_vector, items_tokens}
use Rattle.edn_reader.specs.Spells.{IsNext, Lexes, Spells}
use Rattle.edn_reader.specs.Reading.{next, skip}
use Rattle.edn_reader.proofs.Next.{FirstIs, first_is, gap_of, next_from}
use Rattle.edn_reader.proofs.Splits.{after_gap}

bare_utf8 : (text : List ℕ) → IsUtf8 text → IsUtf8 (skip text)
bare_utf8 text u = go (skip text) refl
  where
    go : (bare : List ℕ) → skip text ≡ bare → IsUtf8 bare
    go [] q = IsUtf8-nil
    go (b ∷ bs) q = let g = gap_of text b bs q in after_gap text g.0 (b ∷ bs) g.1 g.2 u

bare_token : (text : List ℕ) (t : Token) (rest : List ℕ) → IsNext text t rest → IsNext (skip text) t rest
unfolding next
bare_token text t rest n =
    ([], skip text, tt, subst (FirstIs (skip text)) (next_from text t rest n) (first_is (skip text)), refl)

bare_tokens : (text : List ℕ) (d : Datum) → Lexes (items_tokens (items_of (d ∷ []))) text
    → Lexes (items_tokens (items_of (d ∷ []))) (skip text)
bare_tokens text (atom a) (rest, n, l) = (rest, bare_token text (leaf (atom a)) rest n, l)
bare_tokens text (vector ds) (rest, n, l) = (rest, bare_token text open_vector rest n, l)
bare_tokens text (dictionary es) (rest, n, l) = (rest, bare_token text open_map rest n, l)

pub bare_spells : (d : Datum) (text : List ℕ) → Spells (d ∷ []) text → Spells (d ∷ []) (skip text)
bare_spells d text h = record {
  utf8 = bare_utf8 text h.utf8;
  tokens = bare_tokens text d h.tokens;
  fits = h.fits;
}
