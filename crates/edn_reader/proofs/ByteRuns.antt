-- Runs of bytes at the front of a text: names and digits. A run and what follows it make the text, by induction on it;
-- so the first token is the run's.
use Rattle.std.proofs.Common.{◌≡◌, ℕ, suc, ◌+◌, ◌-◌, ◌<◌, ◌≤◌, ◌^◌, Bool, true, false, not, cond, List, [], ◌∷◌, ◌++◌}
use Rattle.std.proofs.Common.{length, take, drop, get_or, refl, add-one, sym, ap, ◌∙◌, arith, inl}
use Rattle.std.specs.Prelude.{◌&&◌, ◌==◌, nat_le, pos}
use Rattle.std.specs.List.{list_all}
use Rattle.std.proofs.lemmas.Bool.{and_from, ne_eqb, le-leb}
use Rattle.std.proofs.lemmas.List.{length-append, take_all}
use Rattle.std.specs.Str.{IsUtf8}
use Rattle.edn_reader.proofs.Names.{name_utf8}
use Rattle.edn_reader.specs.Bytes.{is_letter, is_digit, is_name_byte, is_name}
use Rattle.edn_reader.specs.Datum.{integer, keyword, atom}
use Rattle.edn_reader.specs.Token.{leaf}
use Rattle.edn_reader.specs.Spells.{value_after, is_decimal, EndsToken, IsWord}
use Rattle.edn_reader.specs.Reading.{got, first, names, after_names, digits, after_digits}
use Rattle.edn_reader.proofs.FrontsInTexts.{rest_within, take-front}
use Rattle.edn_reader.proofs.Next.{begins_reads}

-- ---- the name bytes at the front

pub names_parts : (t : List ℕ) → names t ++ after_names t ≡ t
names_parts [] = refl
names_parts (b ∷ bs) = let rest = names_parts bs in grind arith

pub names_within : (t : List ℕ) → length (after_names t) ≤ length t
names_within t = rest_within (names t) (after_names t) t (names_parts t)

pub names_front : (t : List ℕ) → take (length t - length (after_names t)) t ≡ names t
names_front t = take-front (names t) (after_names t) t (names_parts t)

pub names_length : (t : List ℕ) → length (names t) ≡ length t - length (after_names t)
names_length t = omega (arith, length-append (names t) (after_names t), ap length (names_parts t))

all_by : (p : ℕ → Bool) (c : Bool) (b : ℕ) (bs : List ℕ) → p b ≡ c → list_all p bs ≡ true
    → list_all p (cond c (b ∷ bs) []) ≡ true
all_by p true b bs h k = and_from (p b) (list_all p bs) h k
all_by p false b bs h k = refl

pub names_all : (t : List ℕ) → list_all is_name_byte (names t) ≡ true
names_all [] = refl
names_all (b ∷ bs) = all_by is_name_byte (is_name_byte b) b (names bs) refl (names_all bs)

-- ---- the digits at the front

pub digits_parts : (t : List ℕ) → digits t ++ after_digits t ≡ t
digits_parts [] = refl
digits_parts (b ∷ bs) = let rest = digits_parts bs in grind arith

pub digits_all : (t : List ℕ) → list_all is_digit (digits t) ≡ true
digits_all [] = refl
digits_all (b ∷ bs) = all_by is_digit (is_digit b) b (digits bs) refl (digits_all bs)

-- ---- the first token

-- a letter and a run of name bytes, no longer than a name
pub is_name_run : (b : ℕ) (t : List ℕ) → is_letter b ≡ true → nat_le (length (names t)) 63 ≡ true
    → is_name (b ∷ names t) ≡ true
unfolding is_name
is_name_run b t h l = and_from (is_letter b && list_all is_name_byte (names t)) (nat_le (length (names t)) 63)
    (and_from (is_letter b) (list_all is_name_byte (names t)) h (names_all t)) l

-- a keyword that ends after its name
pub keyword_first : (b : ℕ) (t : List ℕ) → is_letter b ≡ true → nat_le (length (names t)) 63 ≡ true
    → EndsToken (after_names t)
    → first (58 ∷ b ∷ t) ≡ got (leaf (atom (keyword (b ∷ names t)))) (after_names t)
keyword_first b t h l e =
    let p : 58 ∷ b ∷ t ≡ (58 ∷ b ∷ names t) ++ after_names t = ap (λ (x : List ℕ). 58 ∷ b ∷ x) (sym (names_parts t)) in
    let k : IsWord (keyword (b ∷ names t)) (58 ∷ b ∷ names t) = (refl, is_name_run b t h l) in
    (begins_reads (58 ∷ b ∷ t) (leaf (atom (keyword (b ∷ names t)))) (after_names t)
    (inl (keyword (b ∷ names t), 58 ∷ b ∷ names t, refl, k, e, p))).reads

decimal_run : (b : ℕ) (t : List ℕ) → is_digit b ≡ true → (b ≡ 48 → ⊥) → is_decimal (b ∷ digits t) ≡ true
decimal_run b t h n = by_tail (digits t) (digits_all t)
  where
    by_tail : (ds : List ℕ) → list_all is_digit ds ≡ true → is_decimal (b ∷ ds) ≡ true
    by_tail [] k = h
    by_tail (c ∷ cs) k =
        let z : not (b == 48) ≡ true = ap not (ne_eqb b 48 n) in
        and_from (is_digit b && not (b == 48)) (list_all is_digit (c ∷ cs))
        (and_from (is_digit b) (not (b == 48)) h z) k

-- a number that ends after its digits
pub integer_first : (b : ℕ) (t : List ℕ) → is_digit b ≡ true → (b ≡ 48 → ⊥) → value_after 0 (b ∷ digits t) < 2 ^ 63
    → EndsToken (after_digits t)
    → first (b ∷ t) ≡ got (leaf (atom (integer (pos (value_after 0 (b ∷ digits t)))))) (after_digits t)
integer_first b t h n lt e =
    let p : b ∷ t ≡ (b ∷ digits t) ++ after_digits t = ap (λ (x : List ℕ). b ∷ x) (sym (digits_parts t)) in
    let k : IsWord (integer (pos (value_after 0 (b ∷ digits t)))) (b ∷ digits t) =
    inl (decimal_run b t h n, lt, refl) in
    (begins_reads (b ∷ t) (leaf (atom (integer (pos (value_after 0 (b ∷ digits t)))))) (after_digits t)
    (inl (integer (pos (value_after 0 (b ∷ digits t))), b ∷ digits t, refl, k, e, p))).reads

-- ---- as the code has them

all_of : (xs : List ℕ) → take (suc (length xs) - 1) xs ≡ xs
all_of xs = take_all (suc (length xs) - 1) xs (omega arith)

pub record IsUsualKeyword (t name rest : List ℕ) : Type 0 where
  pub utf8 : IsUtf8 name
  pub read : first (58 ∷ t) ≡ got (leaf (atom (keyword name))) rest

after_letter : (b : ℕ) (bs : List ℕ) → is_letter b ≡ true → length bs - length (after_names bs) ≤ 63
    → EndsToken (after_names bs)
    → IsUsualKeyword (b ∷ bs) (take (length bs - length (after_names bs) + 1) (b ∷ bs)) (after_names bs)
after_letter b bs h l w =
    let le : nat_le (length (names bs)) 63 ≡ true = le-leb (length (names bs)) 63 (omega (arith, names_length bs)) in
    rw (add-one, names_front bs) (record {
      utf8 = name_utf8 (b ∷ names bs) (is_name_run b bs h le);
      read = keyword_first b bs h le w;
    })

pub usual_keyword : (t u r : List ℕ) → 0 < length t → u ≡ take (length t - 1) (drop 1 t) → r ≡ after_names u
    → is_letter (get_or t 0 0) ≡ true → length u - length r ≤ 63 → EndsToken r
    → IsUsualKeyword t (take (length u - length r + 1) t) r
usual_keyword [] u r some q e h l w = absurd (omega arith)
usual_keyword (b ∷ bs) u r some q e h l w =
    let i : u ≡ bs = q ∙ all_of bs in rw (e, i) (after_letter b bs h (rw (e, i) at l) (rw (e, i) at w))

pub integer_at : (t : List ℕ) → is_digit (get_or t 0 0) ≡ true → (get_or t 0 0 ≡ 48 → ⊥) → 0 < length t
    → value_after 0 (digits t) < 2 ^ 63 → EndsToken (after_digits t)
    → first t ≡ got (leaf (atom (integer (pos (value_after 0 (digits t)))))) (after_digits t)
integer_at [] h n some lt e = absurd (omega arith)
integer_at (b ∷ bs) h n some lt e =
    let d : is_digit b ≡ true = h in
    let v : value_after 0 (b ∷ digits bs) < 2 ^ 63 = rw d at lt in
    let f : EndsToken (after_digits bs) = rw d at e in
    rw d (integer_first b bs d n v f)
