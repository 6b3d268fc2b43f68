-- A number in decimal is spelled as an integer and has its value (`decimal_is`, `integer_text`). By induction on its
-- digits, from the last one on.
use Rattle.std.proofs.Common.{◌≡◌, ℕ, ◌+◌, ◌-◌, ◌*◌, ◌/◌, ◌%◌, ◌^◌, ◌<◌, ◌≤◌, suc, true, List, [], ◌∷◌, ◌++◌}
use Rattle.std.proofs.Common.{get_or, refl, sym, ap, ◌∙◌, arith, inl, inr}
use Rattle.std.specs.Prelude.{◌==◌, ◌&&◌, not, nat_le, ℤ, pos, negsuc}
use Rattle.std.specs.Fmt.{decimal, signed_decimal}
use Rattle.std.specs.List.{list_all}
use Rattle.std.proofs.lemmas.Bool.{and_parts, and_from, ne_eqb, le-leb}
use Rattle.std.proofs.lemmas.Fmt.{decimal_by_steps}
use Rattle.std.proofs.lemmas.List.Folds.{list_all-append}
use Rattle.edn_reader.specs.Bytes.{is_digit}
use Rattle.edn_reader.specs.Spells.{is_decimal, value_after, minus, IsInteger}
use Rattle.edn_reader.specs.Text.{IsInt64}

value_after-append : (n : ℕ) (ds : List ℕ) (d : ℕ) → value_after n (ds ++ d ∷ []) ≡ value_after n ds * 10 + (d - 48)
value_after-append n [] d = refl
value_after-append n (b ∷ bs) d = value_after-append (n * 10 + (b - 48)) bs d

digits_more : (ds : List ℕ) (d : ℕ) → list_all is_digit ds ≡ true → is_digit d ≡ true
    → list_all is_digit (ds ++ d ∷ []) ≡ true
digits_more ds d h k =
    rw (list_all-append is_digit ds (d ∷ [])) (and_from (list_all is_digit ds) _ h (and_from (is_digit d) true k refl))

digit_of : (d : ℕ) → d < 10 → is_digit (48 + d) ≡ true
digit_of d h =
    let low : nat_le 48 (48 + d) ≡ true = le-leb 48 (48 + d) (omega arith) in
    let high : nat_le (48 + d) 57 ≡ true = le-leb (48 + d) 57 (omega arith) in
    and_from (nat_le 48 (48 + d)) (nat_le (48 + d) 57) low high

-- the digits are a numeral with this value, and no zero leads
pub record IsDecimal (n : ℕ) (ds : List ℕ) : Type 0 where
  pub spelled : is_decimal ds ≡ true
  pub value : value_after 0 ds ≡ n
  pub digits : list_all is_digit ds ≡ true
  pub no_leading_zero : 0 < n → (get_or ds 0 0 ≡ 48) → ⊥

one_digit : (n : ℕ) → n < 10 → IsDecimal n ((48 + n) ∷ [])
one_digit n h = record {
  spelled = digit_of n h;
  value = omega arith;
  digits = and_from (is_digit (48 + n)) true (digit_of n h) refl;
  no_leading_zero = λ k e. omega arith;
}

is_decimal-push : (ds : List ℕ) (d : ℕ) → is_decimal ds ≡ true → list_all is_digit ds ≡ true → (get_or ds 0 0 ≡ 48 → ⊥)
    → is_digit d ≡ true → is_decimal (ds ++ d ∷ []) ≡ true
is_decimal-push [] d h a n k = absurd cc
is_decimal-push (b ∷ []) d h a n k =
    let z : not (b == 48) ≡ true = ap not (ne_eqb b 48 n) in
    and_from (is_digit b && not (b == 48)) (list_all is_digit (d ∷ [])) (and_from (is_digit b) (not (b == 48)) h z)
    (and_from (is_digit d) true k refl)
is_decimal-push (b ∷ c ∷ cs) d h a n k =
    let p = and_parts (is_digit b && not (b == 48)) (list_all is_digit (c ∷ cs)) h in
    and_from (is_digit b && not (b == 48)) (list_all is_digit (c ∷ cs ++ d ∷ [])) p.0 (digits_more (c ∷ cs) d p.1 k)

head-push : (ds : List ℕ) (d : ℕ) → is_decimal ds ≡ true → get_or (ds ++ d ∷ []) 0 0 ≡ get_or ds 0 0
head-push [] d h = absurd cc
head-push (b ∷ bs) d h = refl

IsDecimal-push : (n : ℕ) (ds : List ℕ) → 10 ≤ n → IsDecimal (n / 10) ds → IsDecimal n (ds ++ ((48 + n % 10) ∷ []))
IsDecimal-push n ds h p =
    let k : is_digit (48 + n % 10) ≡ true = digit_of (n % 10) (omega arith) in
    let more : 0 < n / 10 = omega arith in
    let v : value_after 0 ds ≡ n / 10 = p.value in
    let w : value_after 0 (ds ++ (48 + n % 10) ∷ []) ≡ value_after 0 ds * 10 + (48 + n % 10 - 48) =
    value_after-append 0 ds (48 + n % 10) in
    record {
      spelled = is_decimal-push ds (48 + n % 10) p.spelled p.digits (p.no_leading_zero more) k;
      value = omega (arith, v, w);
      digits = digits_more ds (48 + n % 10) p.digits k;
      no_leading_zero = λ _ e. p.no_leading_zero more (sym (head-push ds (48 + n % 10) p.spelled) ∙ e);
    }

pub decimal_is : (n : ℕ) → n < 2 ^ 64 → IsDecimal n (decimal n)
decimal_is n h = decimal_by_steps IsDecimal one_digit IsDecimal-push n h

pub integer_text : (z : ℤ) → IsInt64 z → IsInteger z (signed_decimal z)
integer_text (pos n) h =
    let d = decimal_is n (omega arith) in
    let v : value_after 0 (decimal n) ≡ n = d.value in
    inl (d.spelled, omega (arith, v), ap pos (sym v))
integer_text (negsuc n) h =
    let d = decimal_is (suc n) (omega arith) in
    let v : value_after 0 (decimal (suc n)) ≡ suc n = d.value in
    inr (inr (decimal (suc n), refl, (d.spelled, omega (arith, v), ap minus (sym v))))
