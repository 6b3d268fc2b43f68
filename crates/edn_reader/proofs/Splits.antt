-- A text that is UTF-8 may be cut at its ASCII bytes (`after_gap`, `after_begins`), and its strings are UTF-8 too
-- (`string_at_utf8`). By induction along gaps, and along the characters of a string.
use Rattle.std.proofs.Common.{◌≡◌, ℕ, ◌-◌, ◌<◌, ◌≤◌, suc, Bool, true, false, cond, Some, None, List, [], ◌∷◌, ◌++◌}
use Rattle.std.proofs.Common.{length, get_or, refl, sym, ap, ◌∙◌, subst, append_assoc, arith, lit<, inl, inr}
use Rattle.std.specs.Prelude.{◌==◌, ◌⊎◌}
use Rattle.std.specs.Str.{IsUtf8, IsCharBoundary}
use lib.Utf8.{scalars, scalar, encodes, encode}
use Rattle.std.proofs.lemmas.Bool.{and_parts, cases_lt}
use Rattle.std.proofs.lemmas.Bool.Decides.{nat_tests}
use Rattle.std.proofs.lemmas.List.{length-append, take_at, drop_at, get_or-append_right}
use Rattle.std.proofs.lemmas.Str.{IsUtf8-append, IsUtf8-nil, IsUtf8-encode, IsUtf8-take, IsUtf8-drop}
use Rattle.std.proofs.lemmas.Str.{IsUtf8-past_char, IsUtf8-from_ascii, encode_ascii, length-encode}
use Rattle.std.proofs.lemmas.Str.Ascii.{IsAscii-nil, IsAscii-cons}
use Rattle.edn_reader.specs.Bytes.{is_separator, is_token_byte}
use Rattle.edn_reader.specs.Spells.{IsGap, EndsComment, escape_of, IsQuoted, IsEscaped, EndsToken, Begins}
use Rattle.edn_reader.specs.Token.{Token, leaf}
use Rattle.edn_reader.specs.Reading.{string_at}
use Rattle.edn_reader.proofs.Strings.{string_is}
use Rattle.edn_reader.proofs.Utf8.{bytes_above}

-- ---- cuts

cut : (xs ys : List ℕ) (c : ℕ) → c < 128 → IsUtf8 (xs ++ c ∷ ys) → IsUtf8 xs × IsUtf8 (c ∷ ys)
cut xs ys c h u =
    let all : List ℕ = xs ++ c ∷ ys in
    let within : length xs ≤ length all = omega (arith, length-append xs (c ∷ ys)) in
    let at : get_or all (length xs) 0 ≡ c =
    get_or-append_right xs (c ∷ ys) (length xs) (length xs) 0 refl (omega arith)
    ∙ ap (λ (i : ℕ). get_or (c ∷ ys) i 0) (sub_self (length xs)) in
    let starts : IsCharBoundary all (length xs) = (within, λ _ k. absurd (omega arith)) in (
      subst IsUtf8 (take_at xs (c ∷ ys) (length xs) refl) (IsUtf8-take all (length xs) u starts),
      subst IsUtf8 (drop_at xs (c ∷ ys) (length xs) refl) (IsUtf8-drop all (length xs) u starts),
    )
  where
    sub_self : (n : ℕ) → n - n ≡ 0
    sub_self n = omega arith

pub remains : (c : ℕ) (ys : List ℕ) → c < 128 → IsUtf8 (c ∷ ys) → IsUtf8 ys
remains c ys h u = IsUtf8-past_char (c ∷ ys) ys c u (ap (λ (x : List ℕ). x ++ ys) (sym (encode_ascii c h)))

-- ---- what stands before a token

-- nothing, or bytes of which the last is ASCII
abbrev EndsLow : List ℕ → Type 0
EndsLow gap = (gap ≡ []) ⊎ ((front : List ℕ) × (c : ℕ) × (c < 128) × (gap ≡ front ++ c ∷ []))

low_more : (b : ℕ) (gap : List ℕ) → b < 128 → EndsLow gap → EndsLow (b ∷ gap)
low_more b gap h (inl e) = inr ([], b, h, ap (λ (x : List ℕ). b ∷ x) e)
low_more b gap h (inr (front, c, k, e)) = inr (b ∷ front, c, k, ap (λ (x : List ℕ). b ∷ x) e)

-- bytes of which the last is ASCII, as the inside of a comment is with the line feed that ends it
abbrev HasLow : List ℕ → Type 0
HasLow gap = (front : List ℕ) × (c : ℕ) × (c < 128) × (gap ≡ front ++ c ∷ [])

low_comment : (b : ℕ) (gap : List ℕ) → HasLow gap → HasLow (b ∷ gap)
low_comment b gap (front, c, k, e) = (b ∷ front, c, k, ap (λ (x : List ℕ). b ∷ x) e)

low_feed : (b : ℕ) (gap : List ℕ) → b ≡ 10 → EndsLow gap → HasLow (b ∷ gap)
low_feed b gap q (inl e) = ([], b, omega arith, ap (λ (x : List ℕ). b ∷ x) e)
low_feed b gap q (inr h) = low_comment b gap h

separator_low : (b : ℕ) → is_separator b ≡ true → b < 128
separator_low b h = grind (arith, nat_tests)

mutual
  gap_low : (gap : List ℕ) → IsGap gap → EndsLow gap
  gap_low [] g = inl refl
  gap_low (b ∷ bs) (inl p) = low_more b bs (separator_low b p.0) (gap_low bs p.1)
  gap_low (b ∷ bs) (inr p) = inr (low_comment b bs (comment_low bs p.1))

  comment_low : (gap : List ℕ) → EndsComment gap → HasLow gap
  comment_low [] g = absurd g
  comment_low (b ∷ bs) (inl p) = low_feed b bs p.0 (gap_low bs p.1)
  comment_low (b ∷ bs) (inr p) = low_comment b bs (comment_low bs p.1)

after_low : (gap after : List ℕ) → EndsLow gap → IsUtf8 (gap ++ after) → IsUtf8 after
after_low gap after (inl e) u = subst (λ (x : List ℕ). IsUtf8 (x ++ after)) e u
after_low gap after (inr (front, c, h, e)) u =
    let v : IsUtf8 ((front ++ c ∷ []) ++ after) = subst (λ (x : List ℕ). IsUtf8 (x ++ after)) e u in
    remains c after h (cut front after c h (subst IsUtf8 (append_assoc front (c ∷ []) after) v)).1

pub after_gap : (bytes gap after : List ℕ) → IsGap gap → bytes ≡ gap ++ after → IsUtf8 bytes → IsUtf8 after
after_gap bytes gap after g e u = after_low gap after (gap_low gap g) (subst IsUtf8 e u)

-- ---- what follows a token

ends_low : (b : ℕ) → is_token_byte b ≡ false → b < 128
unfolding is_token_byte
ends_low b h = grind (arith, nat_tests)

after_word_utf8 : (own rest : List ℕ) → EndsToken rest → IsUtf8 (own ++ rest) → IsUtf8 rest
after_word_utf8 own [] e u = IsUtf8-nil
after_word_utf8 own (b ∷ bs) e u = (cut own bs b (ends_low b e) u).1

pub after_begins : (bytes : List ℕ) (t : Token) (rest : List ℕ) → Begins bytes t rest → IsUtf8 bytes → IsUtf8 rest
after_begins bytes (leaf d) rest (inl (a, own, q, w, e, p)) u = after_word_utf8 own rest e (subst IsUtf8 p u)
after_begins bytes (leaf d) rest (inr (s, own, q, k, p)) u =
    remains 34 rest (lit< tt) (cut own rest 34 (lit< tt) (remains 34 (own ++ 34 ∷ rest) (lit< tt) (subst IsUtf8 p u))).1
after_begins bytes t rest h u = remains _ rest (lit< tt) (subst IsUtf8 h u)

-- ---- what a string holds

escape_low : (c e : ℕ) → escape_of c ≡ Some e → e < 128
escape_low c e h = by_tests (c == 116) (c == 114) (c == 110) (c == 92) (c == 34) h
  where
    -- by the letter after the backslash: t, r, n, a backslash or a quote
    by_tests : (t r n k q : Bool)
        → cond t (Some 9) (cond r (Some 13) (cond n (Some 10) (cond k (Some 92) (cond q (Some 34) None)))) ≡ Some e
        → e < 128
    by_tests t r n k q h = grind arith

escape_above : (c e : ℕ) → 128 ≤ c → escape_of c ≡ Some e → ⊥
escape_above c e h k = grind (arith, nat_tests)

-- bytes past ASCII stand for themselves
quoted_above : (xs rest s : List ℕ) → ((k : ℕ) → k < length xs → 128 ≤ get_or xs k 0) → IsQuoted (xs ++ rest) s
    → (t : List ℕ) × (s ≡ xs ++ t) × IsQuoted rest t
quoted_above [] rest s h q = (s, refl, q)
quoted_above (x ∷ xs) rest s h (inl (n, m, t, e, q)) =
    let p = quoted_above xs rest t (λ k lt. h (suc k) (omega arith)) q in
    (p.0, e ∙ ap (λ (y : List ℕ). x ∷ y) p.1, p.2)
quoted_above (x ∷ xs) rest s h (inr (e, q)) = let low : 128 ≤ x = h 0 (omega arith) in absurd (omega arith)

escaped_above : (xs rest s : List ℕ) → 0 < length xs → ((k : ℕ) → k < length xs → 128 ≤ get_or xs k 0)
    → IsEscaped (xs ++ rest) s → ⊥
escaped_above [] rest s some h q = omega arith
escaped_above (x ∷ xs) rest s some h (e, t, k, p, q) = escape_above x e (h 0 (omega arith)) k

one_byte : (c : ℕ) (s : List ℕ) → c < 128 → IsUtf8 s → IsUtf8 (c ∷ s)
one_byte c s h u = IsUtf8-append (c ∷ []) s (IsUtf8-from_ascii (c ∷ []) (IsAscii-cons c [] h IsAscii-nil)) u

some_bytes : (c : ℕ) → 0 < length (encode c)
some_bytes c = rw (length-encode c) (grind (arith, nat_tests))

quoted_char : (c : ℕ) (cs s : List ℕ) → (c < 128) ⊎ (128 ≤ c) → scalar c ≡ true
    → ((t : List ℕ) → IsQuoted (encodes cs) t → IsUtf8 t) → ((t : List ℕ) → IsEscaped (encodes cs) t → IsUtf8 t)
    → IsQuoted (encode c ++ encodes cs) s → IsUtf8 s
quoted_char c cs s (inl low) k ih jh q =
    by_byte (subst (λ (x : List ℕ). IsQuoted (x ++ encodes cs) s) (encode_ascii c low) q)
  where
    by_byte : IsQuoted (c ∷ encodes cs) s → IsUtf8 s
    by_byte (inl (n, m, t, e, p)) = subst IsUtf8 (sym e) (one_byte c t low (ih t p))
    by_byte (inr (e, p)) = jh s p
quoted_char c cs s (inr above) k ih jh q =
    let p = quoted_above (encode c) (encodes cs) s (bytes_above c above) q in
    subst IsUtf8 (sym p.1) (IsUtf8-append (encode c) p.0 (IsUtf8-encode c k) (ih p.0 p.2))

escaped_char : (c : ℕ) (cs s : List ℕ) → (c < 128) ⊎ (128 ≤ c) → ((t : List ℕ) → IsQuoted (encodes cs) t → IsUtf8 t)
    → IsEscaped (encode c ++ encodes cs) s → IsUtf8 s
escaped_char c cs s (inl low) ih q =
    by_byte (subst (λ (x : List ℕ). IsEscaped (x ++ encodes cs) s) (encode_ascii c low) q)
  where
    by_byte : IsEscaped (c ∷ encodes cs) s → IsUtf8 s
    by_byte (e, t, k, p, h) = subst IsUtf8 (sym p) (one_byte e t (escape_low c e k) (ih t h))
escaped_char c cs s (inr above) ih q =
    absurd (escaped_above (encode c) (encodes cs) s (some_bytes c) (bytes_above c above) q)

mutual
  quoted_chars : (cs s : List ℕ) → scalars cs ≡ true → IsQuoted (encodes cs) s → IsUtf8 s
  quoted_chars [] s h q = subst IsUtf8 (sym q) IsUtf8-nil
  quoted_chars (c ∷ cs) s h q = quoted_char c cs s (cases_lt c 128) (and_parts (scalar c) (scalars cs) h).0
      (λ t k. quoted_chars cs t (and_parts (scalar c) (scalars cs) h).1 k)
      (λ t k. escaped_chars cs t (and_parts (scalar c) (scalars cs) h).1 k) q

  escaped_chars : (cs s : List ℕ) → scalars cs ≡ true → IsEscaped (encodes cs) s → IsUtf8 s
  escaped_chars [] s h q = absurd q
  escaped_chars (c ∷ cs) s h q =
      escaped_char c cs s (cases_lt c 128) (λ t k. quoted_chars cs t (and_parts (scalar c) (scalars cs) h).1 k) q

string_utf8 : (own s : List ℕ) → IsQuoted own s → IsUtf8 own → IsUtf8 s
string_utf8 own s q u = quoted_chars u.0 s u.1.0 (subst (λ (x : List ℕ). IsQuoted x s) (sym u.1.1) q)

pub string_at_utf8 : (t s rest : List ℕ) → string_at t ≡ Some (s, rest) → IsUtf8 t → IsUtf8 s
string_at_utf8 t s rest e u =
    let q = string_is t s rest e in
    string_utf8 q.0 s q.1 (cut q.0 rest 34 (lit< tt) (subst IsUtf8 q.2 u)).0
