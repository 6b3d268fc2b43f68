-- The bytes of a form at the front of a text, which are those before the rest, spell the form alone: by induction on
-- its tokens, of which each goes as far as it can. And one map more with its own bytes.
use Rattle.std.proofs.Common.{◌≡◌, ℕ, ◌+◌, ◌-◌, inl, inr, List, [], ◌∷◌, ◌++◌, length, take, refl, ap, sym, ◌∙◌}
use Rattle.std.proofs.Common.{subst, append_assoc, arith}
use Rattle.std.specs.Str.{IsUtf8}
use Rattle.std.proofs.lemmas.List.{length-append, take_at}
use Rattle.std.proofs.lemmas.Str.{IsUtf8-take, IsCharBoundary-at_seam}
use Rattle.edn_reader.specs.Datum.{Datum, items_of}
use Rattle.edn_reader.specs.Elements.{SpellsFront}
use Rattle.edn_reader.specs.Sound.{BeginWith}
use Rattle.edn_reader.specs.Spells.{EndsToken, Begins, Lexes, Spells}
use Rattle.edn_reader.specs.Token.{Token, open_vector, close_vector, open_map, close_map, leaf, items_tokens}
use Rattle.history.specs.declared.map_texts.MapText.{MapText}
use Rattle.history.specs.MapTexts.{IsMapText, AreMapTexts}

ends_alone : (own rest : List ℕ) → EndsToken (own ++ rest) → EndsToken own
ends_alone [] rest e = tt
ends_alone (b ∷ own) rest e = e

-- one token, where what follows it is cut before the rest
token_alone : (t : Token) (text after own rest : List ℕ) → Begins text t after → after ≡ own ++ rest
    → (front : List ℕ) × (text ≡ front ++ rest) × Begins front t own
token_alone open_vector text after own rest h q = (91 ∷ own, h ∙ ap (λ (x : List ℕ). 91 ∷ x) q, refl)
token_alone close_vector text after own rest h q = (93 ∷ own, h ∙ ap (λ (x : List ℕ). 93 ∷ x) q, refl)
token_alone open_map text after own rest h q = (123 ∷ own, h ∙ ap (λ (x : List ℕ). 123 ∷ x) q, refl)
token_alone close_map text after own rest h q = (125 ∷ own, h ∙ ap (λ (x : List ℕ). 125 ∷ x) q, refl)
token_alone (leaf d) text after own rest (inl (a, word, is, w, e, p)) q = (
  word ++ own,
  rw (q, ← append_assoc word own rest) at p,
  inl (a, word, is, w, ends_alone own rest (rw q at e), refl),
)
token_alone (leaf d) text after own rest (inr (s, quoted, is, k, p)) q = (
  34 ∷ (quoted ++ 34 ∷ own),
  p ∙ rw (q, append_assoc quoted (34 ∷ own) rest),
  inr (s, quoted, is, k, refl),
)

tokens_alone : (ts : List Token) (text rest : List ℕ) → BeginWith ts text rest → (own : List ℕ) × (text ≡ own ++ rest)
    × Lexes ts own
tokens_alone [] text rest b = ([], b, tt)
tokens_alone (t ∷ ts) text rest (behind, (gap, after, g, h, q), b) =
    let more = tokens_alone ts behind rest b in
    let one = token_alone t after behind more.0 rest h more.1 in (
      gap ++ one.0,
      q ∙ (ap (λ (x : List ℕ). gap ++ x) one.1 ∙ sym (append_assoc gap one.0 rest)),
      (more.0, (gap, one.0, g, one.2, refl), more.2),
    )

-- the form alone, by the lengths of the text and of the rest, as they are at hand
pub form_alone : (d : Datum) (text rest before left : List ℕ) → before ≡ text → left ≡ rest → IsUtf8 text → IsUtf8 rest
    → SpellsFront text (d ∷ []) rest → Spells (d ∷ []) (take (length before - length left) before)
form_alone d text rest before left at end whole later f =
    let own = tokens_alone (items_tokens (items_of (d ∷ []))) text rest f.begins in
    let long : length text ≡ length own.0 + length rest = ap length own.1 ∙ length-append own.0 rest in
    let count : length text - length rest ≡ length own.0 = omega arith in
    let front : take (length own.0) text ≡ own.0 =
    ap (take (length own.0)) own.1 ∙ take_at own.0 rest (length own.0) refl in
    let utf8 : IsUtf8 own.0 = subst IsUtf8 front
    (IsUtf8-take text (length own.0) whole (IsCharBoundary-at_seam text own.0 rest own.1 later)) in
    rw (at, end, count, front) (record { utf8 = utf8; tokens = own.2; fits = f.fits })

-- one map more
pub texts_push : (ms : List MapText) (ds : List Datum) (m : MapText) (d : Datum) → AreMapTexts ms ds → IsMapText m d
    → AreMapTexts (ms ++ m ∷ []) (ds ++ d ∷ [])
texts_push [] [] m d h k = (k, tt)
texts_push (n ∷ ms) (e ∷ ds) m d h k = (h.0, texts_push ms ds m d h.1 k)
texts_push ms ds m d h k = absurd h
