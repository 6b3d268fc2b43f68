-- A word stands for an element exactly where the element has that word: from the element to the word (`atom_from`) and
-- back (`atom_is`), by the first byte of the word.
use Rattle.std.proofs.Common.{◌≡◌, ℕ, ◌^◌, ◌≤◌, Bool, true, false, cond, Some, List, [], ◌∷◌, ◌++◌, length, refl, sym}
use Rattle.std.proofs.Common.{ap, subst, arith, inl, inr}
use Rattle.std.specs.Prelude.{◌==◌, ◌&&◌, ◌||◌, ◌⊎◌, not, nat_lt, nat_le, codes, ℤ, pos}
use Rattle.std.proofs.lemmas.Bool.{or_parts, and_parts, and_from, eqb-true, ne_eqb, both_ways, not-true, leb-true}
use Rattle.std.proofs.lemmas.Bool.{ltb-true, lt-ltb, le-leb}
use Rattle.std.proofs.lemmas.Bool.Decides.{nat_tests}
use Rattle.std.specs.List.{list_all}
use Rattle.edn_reader.specs.Bytes.{is_separator, is_mark, is_token_byte, is_digit, is_letter, is_name_byte, is_name}
use Rattle.edn_reader.specs.Datum.{Atom, nil, boolean, integer, string, keyword}
use Rattle.edn_reader.specs.Spells.{is_decimal, value_after, minus, IsPositive, IsNegative, IsInteger, IsWord}
use Rattle.edn_reader.specs.Spells.{EndsToken}
use Rattle.edn_reader.specs.Reading.{word, after_word, positive_of, negative_of, integer_of, keyword_of, literal_of}
use Rattle.edn_reader.specs.Reading.{atom_of}
use Rattle.edn_reader.proofs.Consumed.{kept_if, mapped}
use Rattle.std.specs.Str.{bytes_eq}
use Rattle.std.proofs.lemmas.Option.{same_Some}
use Rattle.edn_reader.proofs.Keys.{same_is}

-- ---- bytes

pub not_byte : (b m : ℕ) → is_token_byte b ≡ true → is_token_byte m ≡ false → (b == m) ≡ false
not_byte b m h k = ne_eqb b m (λ q. both_ways (is_token_byte m) k (subst (λ (x : ℕ). is_token_byte x ≡ true) q h))

pub not_separator : (b : ℕ) → is_token_byte b ≡ true → is_separator b ≡ false
unfolding is_token_byte
not_separator b h = (or_parts (is_separator b) (is_mark b) (not-true (is_separator b || is_mark b) h)).0

digit_token : (b : ℕ) → is_digit b ≡ true → is_token_byte b ≡ true
unfolding is_token_byte
digit_token b h = grind (arith, nat_tests)

letter_token : (b : ℕ) → is_letter b ≡ true → is_token_byte b ≡ true
unfolding is_token_byte
letter_token b h = grind (arith, nat_tests)

name_token : (b : ℕ) → is_name_byte b ≡ true → is_token_byte b ≡ true
unfolding is_token_byte
name_token b h = grind (arith, nat_tests)

weaker : (p q : ℕ → Bool) → ((b : ℕ) → p b ≡ true → q b ≡ true) → (bs : List ℕ) → list_all p bs ≡ true
    → list_all q bs ≡ true
weaker p q w [] e = refl
weaker p q w (b ∷ bs) e =
    let h = and_parts (p b) (list_all p bs) e in and_from (q b) (list_all q bs) (w b h.0) (weaker p q w bs h.1)

-- a word has some byte, and each is a byte of tokens
pub record IsRun (own : List ℕ) : Type 0 where
  pub head : ℕ
  pub tail : List ℕ
  pub parts : own ≡ head ∷ tail
  pub all : list_all is_token_byte own ≡ true

pub decimal_parts : (ds : List ℕ) → is_decimal ds ≡ true
    → (b : ℕ) × (bs : List ℕ) × (ds ≡ b ∷ bs) × (is_digit b ≡ true) × (list_all is_digit ds ≡ true)
decimal_parts [] e = absurd cc
decimal_parts (b ∷ []) e = (b, [], refl, e, and_from (is_digit b) true e refl)
decimal_parts (b ∷ c ∷ cs) e =
    let p = and_parts (is_digit b && not (b == 48)) (list_all is_digit (c ∷ cs)) e in
    let q = and_parts (is_digit b) (not (b == 48)) p.0 in
    (b, c ∷ cs, refl, q.0, and_from (is_digit b) (list_all is_digit (c ∷ cs)) q.0 p.1)

decimal_run : (ds : List ℕ) → is_decimal ds ≡ true → IsRun ds
decimal_run ds e =
    let p = decimal_parts ds e in
    record { head = p.0; tail = p.1; parts = p.2; all = weaker is_digit is_token_byte digit_token ds p.4 }

signed_run : (s : ℕ) (own ds : List ℕ) → is_token_byte s ≡ true → own ≡ s ∷ ds → is_decimal ds ≡ true → IsRun own
signed_run s own ds h q e =
    record {
      head = s;
      tail = ds;
      parts = q;
      all = rw q (and_from (is_token_byte s) (list_all is_token_byte ds) h (decimal_run ds e).all);
    }

name_run : (k : List ℕ) → is_name k ≡ true → list_all is_token_byte k ≡ true
unfolding is_name
name_run [] e = absurd cc
name_run (b ∷ bs) e =
    let p = and_parts (is_letter b && list_all is_name_byte bs) (nat_le (length bs) 63) e in
    let q = and_parts (is_letter b) (list_all is_name_byte bs) p.0 in
    and_from (is_token_byte b) (list_all is_token_byte bs) (letter_token b q.0)
    (weaker is_name_byte is_token_byte name_token bs q.1)

literal_run : (own : List ℕ) (b : ℕ) (bs : List ℕ) → own ≡ b ∷ bs → list_all is_token_byte (b ∷ bs) ≡ true → IsRun own
literal_run own b bs q h = record { head = b; tail = bs; parts = q; all = rw q h }

pub word_run : (a : Atom) (own : List ℕ) → IsWord a own → IsRun own
unfolding is_token_byte
word_run nil own w = literal_run own _ _ w refl
word_run (boolean true) own w = literal_run own _ _ w refl
word_run (boolean false) own w = literal_run own _ _ w refl
word_run (integer z) own (inl p) = decimal_run own p.0
word_run (integer z) own (inr (inl p)) = signed_run 43 own p.0 refl p.1 p.2.0
word_run (integer z) own (inr (inr p)) = signed_run 45 own p.0 refl p.1 p.2.0
word_run (string s) own w = absurd w
word_run (keyword k) own w = record { head = 58; tail = k; parts = w.0; all = rw w.0 (name_run k w.1) }

-- ---- a word and what follows it

pub word_of : (own rest : List ℕ) → list_all is_token_byte own ≡ true → EndsToken rest
    → (word (own ++ rest) ≡ own) × (after_word (own ++ rest) ≡ rest)
word_of [] [] h e = (refl, refl)
word_of [] (b ∷ bs) h e = let n : is_token_byte b ≡ false = e in (rw n refl, rw n refl)
word_of (b ∷ bs) rest h e =
    let p = and_parts (is_token_byte b) (list_all is_token_byte bs) h in
    let y : is_token_byte b ≡ true = p.0 in
    let q = word_of bs rest p.1 e in
    (rw y (ap (λ (t : List ℕ). b ∷ t) q.0), rw y q.1)

pub after_word_ends : (t : List ℕ) → EndsToken (after_word t)
after_word_ends [] = tt
after_word_ends (b ∷ bs) = let rest = after_word_ends bs in grind arith

-- ---- integers

positive_from : (z : ℤ) (ds : List ℕ) → IsPositive z ds → positive_of ds ≡ Some z
unfolding positive_of
positive_from z ds p =
    let lt : nat_lt (value_after 0 ds) (2 ^ 63) ≡ true = lt-ltb (value_after 0 ds) (2 ^ 63) p.1 in
    let t = and_from (is_decimal ds) (nat_lt (value_after 0 ds) (2 ^ 63)) p.0 lt in
    rw (t, p.2) refl

negative_from : (z : ℤ) (ds : List ℕ) → IsNegative z ds → negative_of ds ≡ Some z
unfolding negative_of
negative_from z ds p =
    let le : nat_le (value_after 0 ds) (2 ^ 63) ≡ true = le-leb (value_after 0 ds) (2 ^ 63) p.1 in
    let t = and_from (is_decimal ds) (nat_le (value_after 0 ds) (2 ^ 63)) p.0 le in
    rw (t, p.2) refl

positive_is : (z : ℤ) (ds : List ℕ) → positive_of ds ≡ Some z → IsPositive z ds
unfolding positive_of
positive_is z ds e =
    let k = kept_if (is_decimal ds && nat_lt (value_after 0 ds) (2 ^ 63)) (pos (value_after 0 ds)) z e in
    let p = and_parts (is_decimal ds) (nat_lt (value_after 0 ds) (2 ^ 63)) k.0 in
    (p.0, ltb-true (value_after 0 ds) (2 ^ 63) p.1, sym k.1)

negative_is : (z : ℤ) (ds : List ℕ) → negative_of ds ≡ Some z → IsNegative z ds
unfolding negative_of
negative_is z ds e =
    let k = kept_if (is_decimal ds && nat_le (value_after 0 ds) (2 ^ 63)) (minus (value_after 0 ds)) z e in
    let p = and_parts (is_decimal ds) (nat_le (value_after 0 ds) (2 ^ 63)) k.0 in
    (p.0, leb-true (value_after 0 ds) (2 ^ 63) p.1, sym k.1)

-- which way a test went
chosen : {A : Type 0} (b : Bool) (x y z : A) → cond b x y ≡ z → ((b ≡ true) × (x ≡ z)) ⊎ ((b ≡ false) × (y ≡ z))
chosen true x y z e = inl (refl, e)
chosen false x y z e = inr (refl, e)

integer_is : (z : ℤ) (w : List ℕ) → integer_of w ≡ Some z → IsInteger z w
unfolding integer_of
integer_is z [] e = absurd cc
integer_is z (b ∷ bs) e =
    elim (chosen (b == 43) (positive_of bs) (cond (b == 45) (negative_of bs) (positive_of (b ∷ bs))) (Some z) e) [
      | inl p ↦ inr (inl (bs, ap (λ (x : ℕ). x ∷ bs) (eqb-true b 43 p.0), positive_is z bs p.1))
      | inr p ↦ elim (chosen (b == 45) (negative_of bs) (positive_of (b ∷ bs)) (Some z) p.1) [
        | inl q ↦ inr (inr (bs, ap (λ (x : ℕ). x ∷ bs) (eqb-true b 45 q.0), negative_is z bs q.1))
        | inr q ↦ inl (positive_is z (b ∷ bs) q.1)
      ]
    ]

-- ---- words

atom_int : (b : ℕ) (bs : List ℕ) (z : ℤ) → (b == 58) ≡ false → (b == 110) ≡ false → (b == 116) ≡ false
    → (b == 102) ≡ false → integer_of (b ∷ bs) ≡ Some z → atom_of (b ∷ bs) ≡ Some (integer z)
unfolding atom_of literal_of
atom_int b bs z colon n t f e = rw (colon, n, t, f, e) refl

pub atom_from : (a : Atom) (own : List ℕ) → IsWord a own → atom_of own ≡ Some a
unfolding atom_of literal_of keyword_of integer_of
atom_from nil own w = rw w refl
atom_from (boolean true) own w = rw w refl
atom_from (boolean false) own w = rw w refl
atom_from (integer z) own (inl p) =
    let d = decimal_parts own p.0 in
    let q = and_parts (nat_le 48 d.0) (nat_le d.0 57) d.3 in
    let low : 48 ≤ d.0 = leb-true 48 d.0 q.0 in
    let high : d.0 ≤ 57 = leb-true d.0 57 q.1 in
    let other : (m : ℕ) → (d.0 ≡ m → ⊥) → (d.0 == m) ≡ false = λ m h. ne_eqb d.0 m h in
    let plus : (d.0 == 43) ≡ false = other 43 (λ e. omega arith) in
    let dash : (d.0 == 45) ≡ false = other 45 (λ e. omega arith) in
    let v : positive_of (d.0 ∷ d.1) ≡ Some z = positive_from z (d.0 ∷ d.1) (subst (IsPositive z) d.2 p) in
    let i : integer_of (d.0 ∷ d.1) ≡ Some z = rw (plus, dash, v) refl in
    rw d.2 (atom_int d.0 d.1 z (other 58 (λ e. omega arith)) (other 110 (λ e. omega arith))
    (other 116 (λ e. omega arith)) (other 102 (λ e. omega arith)) i)
atom_from (integer z) own (inr (inl p)) = let v : positive_of p.0 ≡ Some z = positive_from z p.0 p.2 in rw (p.1, v) refl
atom_from (integer z) own (inr (inr p)) = let v : negative_of p.0 ≡ Some z = negative_from z p.0 p.2 in rw (p.1, v) refl
atom_from (string s) own w = absurd w
atom_from (keyword k) own w = let n : is_name k ≡ true = w.1 in rw (w.0, n) refl

literal_is : (a : Atom) (w : List ℕ) → literal_of w ≡ Some a → IsWord a w
unfolding literal_of
literal_is a w e =
    elim (chosen (bytes_eq w (codes "nil")) _ _ _ e) [
      | inl p ↦ subst (λ (x : Atom). IsWord x w) (same_Some nil a p.1) (same_is w (codes "nil") p.0)
      | inr p ↦ elim (chosen (bytes_eq w (codes "true")) _ _ _ p.1) [
        | inl q ↦ subst (λ (x : Atom). IsWord x w) (same_Some (boolean true) a q.1) (same_is w (codes "true") q.0)
        | inr q ↦ elim (chosen (bytes_eq w (codes "false")) _ _ _ q.1) [
          | inl r ↦ subst (λ (x : Atom). IsWord x w) (same_Some (boolean false) a r.1) (same_is w (codes "false") r.0)
          | inr r ↦ (let m = mapped integer (integer_of w) a r.1 in
              subst (λ (x : Atom). IsWord x w) m.2 (integer_is m.0 w m.1))
        ]
      ]
    ]

keyword_is : (a : Atom) (k : List ℕ) → keyword_of k ≡ Some a → IsWord a (58 ∷ k)
unfolding keyword_of
keyword_is a k e =
    let p = kept_if (is_name k) (keyword k) a e in subst (λ (x : Atom). IsWord x (58 ∷ k)) p.1 (refl, p.0)

pub atom_is : (a : Atom) (w : List ℕ) → atom_of w ≡ Some a → IsWord a w
unfolding atom_of
atom_is a [] e = absurd cc
atom_is a (b ∷ bs) e =
    elim (chosen (b == 58) (keyword_of bs) (literal_of (b ∷ bs)) (Some a) e) [
      | inl p ↦ rw (eqb-true b 58 p.0) (keyword_is a bs p.1)
      | inr p ↦ literal_is a (b ∷ bs) p.1
    ]
