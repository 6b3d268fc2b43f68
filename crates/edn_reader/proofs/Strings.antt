-- Strings between their quotes: a text is quoted exactly where the reader finds its end, with the bytes that the
-- escapes stand for. By induction along the bytes, in both directions.
use Rattle.std.proofs.Common.{◌≡◌, ℕ, ◌<◌, Bool, true, false, cond, Option, Some, None, List, [], ◌∷◌, ◌++◌, length}
use Rattle.std.proofs.Common.{refl, sym, ap, arith, inl, inr}
use Rattle.std.specs.Prelude.{◌==◌, option_and_then}
use Rattle.std.proofs.lemmas.List.{length-append}
use Rattle.std.proofs.lemmas.Option.{same_Some}
use Rattle.std.proofs.lemmas.Bool.{eqb-true, eqb-false, ne_eqb}
use Rattle.edn_reader.specs.Spells.{escape_of, IsQuoted, IsEscaped}
use Rattle.edn_reader.specs.Reading.{with_byte, string_at, escaped_at}

mutual
  pub string_from : (own s rest : List ℕ) → IsQuoted own s → string_at (own ++ 34 ∷ rest) ≡ Some (s, rest)
  string_from [] s rest h = rw h refl
  string_from (b ∷ bs) s rest (inl (q, m, t, e, h)) =
      let n : (b == 34) ≡ false = ne_eqb b 34 q in
      let k : (b == 92) ≡ false = ne_eqb b 92 m in
      let r : string_at (bs ++ 34 ∷ rest) ≡ Some (t, rest) = string_from bs t rest h in
      rw (n, k, r, e) refl
  string_from (b ∷ bs) s rest (inr (e, h)) = rw e (escaped_from bs s rest h)

  pub escaped_from : (own s rest : List ℕ) → IsEscaped own s → escaped_at (own ++ 34 ∷ rest) ≡ Some (s, rest)
  escaped_from [] s rest h = absurd h
  escaped_from (c ∷ cs) s rest (e, t, esc, q, h) =
      let r : string_at (cs ++ 34 ∷ rest) ≡ Some (t, rest) = string_from cs t rest h in
      let x : escape_of c ≡ Some e = esc in
      rw (x, r, q) refl

-- a text with a string's end in it
abbrev Quoted : List ℕ → List ℕ → List ℕ → Type 0
Quoted t s rest = (own : List ℕ) × IsQuoted own s × (t ≡ own ++ 34 ∷ rest)

abbrev Escaped : List ℕ → List ℕ → List ℕ → Type 0
Escaped t s rest = (own : List ℕ) × IsEscaped own s × (t ≡ own ++ 34 ∷ rest)

abbrev found : List ℕ → List ℕ → Option (List ℕ × List ℕ)
found s r = Some (s, r)

with_byte_is : (b : ℕ) (o : Option (List ℕ × List ℕ)) (s rest : List ℕ) → with_byte b o ≡ Some (s, rest)
    → (t : List ℕ) × (o ≡ Some (t, rest)) × (s ≡ b ∷ t)
with_byte_is b None s rest e = absurd cc
with_byte_is b (Some p) s rest e =
    let q = same_Some {A = List ℕ × List ℕ} (b ∷ p.0, p.1) (s, rest) e in
    (p.0, ap (λ (x : List ℕ × List ℕ). found p.0 x.1) q, ap (λ (x : List ℕ × List ℕ). x.0) (sym q))

-- by the first byte b: m says whether it is a quote, n whether it is a backslash
quoted_by : (b : ℕ) (bs s rest : List ℕ) (m n : Bool) → (b == 34) ≡ m → (b == 92) ≡ n
    → ((t : List ℕ) → string_at bs ≡ Some (t, rest) → Quoted bs t rest)
    → (escaped_at bs ≡ Some (s, rest) → Escaped bs s rest)
    → cond m (Some ([], bs)) (cond n (escaped_at bs) (with_byte b (string_at bs))) ≡ Some (s, rest)
    → Quoted (b ∷ bs) s rest
quoted_by b bs s rest true n hm hn ih jh e =
    let q = same_Some {A = List ℕ × List ℕ} ([], bs) (s, rest) e in (
      [],
      ap (λ (x : List ℕ × List ℕ). x.0) (sym q),
      rw (eqb-true b 34 hm) (ap (λ (x : List ℕ × List ℕ). 34 ∷ x.1) q),
    )
quoted_by b bs s rest false true hm hn ih jh e =
    let h = jh e in (b ∷ h.0, inr (eqb-true b 92 hn, h.1), ap (λ (x : List ℕ). b ∷ x) h.2)
quoted_by b bs s rest false false hm hn ih jh e =
    let w = with_byte_is b (string_at bs) s rest e in
    let h = ih w.0 w.1 in
    (b ∷ h.0, inl (eqb-false b 34 hm, eqb-false b 92 hn, w.0, w.2, h.1), ap (λ (x : List ℕ). b ∷ x) h.2)

escaped_by : (c : ℕ) (cs s rest : List ℕ) (x : Option ℕ) → escape_of c ≡ x
    → ((t : List ℕ) → string_at cs ≡ Some (t, rest) → Quoted cs t rest)
    → option_and_then (λ e. with_byte e (string_at cs)) x ≡ Some (s, rest) → Escaped (c ∷ cs) s rest
escaped_by c cs s rest None x ih h = absurd cc
escaped_by c cs s rest (Some e) x ih h =
    let w = with_byte_is e (string_at cs) s rest h in
    let k = ih w.0 w.1 in
    (c ∷ k.0, (e, w.0, x, w.2, k.1), ap (λ (y : List ℕ). c ∷ y) k.2)

mutual
  pub string_is : (t s rest : List ℕ) → string_at t ≡ Some (s, rest) → Quoted t s rest
  string_is [] s rest e = absurd cc
  string_is (b ∷ bs) s rest e =
      quoted_by b bs s rest (b == 34) (b == 92) refl refl (λ t h. string_is bs t rest h) (λ h. escaped_is bs s rest h) e

  pub escaped_is : (t s rest : List ℕ) → escaped_at t ≡ Some (s, rest) → Escaped t s rest
  escaped_is [] s rest e = absurd cc
  escaped_is (c ∷ cs) s rest e = escaped_by c cs s rest (escape_of c) refl (λ t h. string_is cs t rest h) e

pub string_less : (t s rest : List ℕ) → string_at t ≡ Some (s, rest) → length rest < length t
string_less t s rest e = let q = string_is t s rest e in omega (arith, ap length q.2, length-append q.0 (34 ∷ rest))
