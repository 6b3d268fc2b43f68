-- Strings as they are written, and where they end: bytes before the closing quote are the string (`raw_is`), and what
-- follows is shorter than the text (`end_shorter`). By induction along the bytes, two at an escape.
use Rattle.std.proofs.Common.{◌≡◌, ℕ, ◌<◌, ◌-◌, false, Option, Some, None, List, [], ◌∷◌, ◌++◌, length, take, refl}
use Rattle.std.proofs.Common.{sym, ap, ◌∙◌, arith, inl, inr}
use Rattle.std.specs.Prelude.{◌==◌, option_map}
use Rattle.std.proofs.lemmas.Bool.{ne_eqb}
use Rattle.std.proofs.lemmas.Option.{same_Some}
use Rattle.edn_reader.specs.Spells.{escape_of, IsQuoted, IsEscaped}
use Rattle.edn_reader.specs.Reading.{with_byte, string_at, string_end, got, got_string}
use Rattle.edn_reader.specs.Pieces.{unquoted, unescaped}
use Rattle.edn_reader.proofs.FrontsInTexts.{take-front}
use Rattle.edn_reader.proofs.Strings.{string_is, string_less}
use Rattle.edn_reader.specs.Datum.{string, atom}
use Rattle.edn_reader.specs.Token.{leaf}

same_end : (b : ℕ) (o : Option (List ℕ × List ℕ))
    → option_map (λ (p : List ℕ × List ℕ). p.1) (with_byte b o) ≡ option_map (λ (p : List ℕ × List ℕ). p.1) o
same_end b None = refl
same_end b (Some p) = refl

-- after a byte that ends nothing
pub end_after_byte : (b : ℕ) (bs : List ℕ) → (b == 34) ≡ false → (b == 92) ≡ false → string_end (b ∷ bs) ≡ string_end bs
end_after_byte b bs h k = rw (h, k) (same_end b (string_at bs))

-- after an escape
pub end_after_escape : (c : ℕ) (cs : List ℕ) (e : ℕ) → escape_of c ≡ Some e → string_end (92 ∷ c ∷ cs) ≡ string_end cs
end_after_escape c cs e h = let x : escape_of c ≡ Some e = h in rw x (same_end e (string_at cs))

pub no_end_after : (c : ℕ) (cs : List ℕ) → escape_of c ≡ None → string_end (92 ∷ c ∷ cs) ≡ None
no_end_after c cs h = let x : escape_of c ≡ None = h in rw x refl

mutual
  quoted_is : (own s : List ℕ) → IsQuoted own s → unquoted own ≡ s
  quoted_is [] s h = sym h
  quoted_is (b ∷ bs) s (inl (q, m, t, e, h)) =
      let k : (b == 92) ≡ false = ne_eqb b 92 m in rw (k, e) (ap (λ (x : List ℕ). b ∷ x) (quoted_is bs t h))
  quoted_is (b ∷ bs) s (inr (e, h)) = rw e (escaped_is bs s h)

  escaped_is : (own s : List ℕ) → IsEscaped own s → unescaped own ≡ s
  escaped_is [] s h = absurd h
  escaped_is (c ∷ cs) s (e, t, esc, q, h) =
      let x : escape_of c ≡ Some e = esc in rw (x, q) (ap (λ (y : List ℕ). e ∷ y) (quoted_is cs t h))

-- the bytes before the quote that ends a string
pub raw_is : (text rest : List ℕ) → string_end text ≡ Some rest
    → string_at text ≡ Some (unquoted (take (length text - length rest - 1) text), rest)
raw_is text rest h = by_string (string_at text) refl h
  where
    by_string : (o : Option (List ℕ × List ℕ)) → string_at text ≡ o
        → option_map (λ (p : List ℕ × List ℕ). p.1) o ≡ Some rest
        → string_at text ≡ Some (unquoted (take (length text - length rest - 1) text), rest)
    by_string None e k = absurd cc
    by_string (Some p) e k =
        let r : p.1 ≡ rest = same_Some p.1 rest k in
        let q = string_is text p.0 p.1 e in
        let n : length text - length rest - 1 ≡ length text - length (34 ∷ rest) = omega arith in
        let w : q.0 ++ 34 ∷ rest ≡ text = ap (λ (x : List ℕ). q.0 ++ 34 ∷ x) (sym r) ∙ sym q.2 in
        let f : take (length text - length rest - 1) text ≡ q.0 = rw n (take-front q.0 (34 ∷ rest) text w) in
        let u : unquoted (take (length text - length rest - 1) text) ≡ p.0 = ap unquoted f ∙ quoted_is q.0 p.0 q.1 in
        rw (e, u, ← r) refl

pub got_raw : (text rest : List ℕ) → string_end text ≡ Some rest
    → got_string (string_at text)
    ≡ got (leaf (atom (string (unquoted (take (length text - length rest - 1) text))))) rest
got_raw text rest h = rw (raw_is text rest h) refl

pub end_shorter : (text rest : List ℕ) → string_end text ≡ Some rest → length rest < length text
end_shorter text rest h =
    string_less text (unquoted (take (length text - length rest - 1) text)) rest (raw_is text rest h)
