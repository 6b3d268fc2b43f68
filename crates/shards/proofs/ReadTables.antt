-- A table that is read byte by byte: after each byte there are the numbers of the lines so far, the number that the
-- digits of this line make, and what is left. By cases on what is left.
use Rattle.std.proofs.Common.{◌≡◌, ℕ, ◌+◌, ◌-◌, ◌*◌, ◌^◌, ◌<◌, ◌≤◌, true, List, [], ◌∷◌, ◌++◌}
use Rattle.std.proofs.Common.{inl, length, get_or, drop, decimal, refl, ap, sym, ◌∙◌, subst, arith, append_assoc}
use Rattle.std.specs.List.{list_all}
use Rattle.std.proofs.lemmas.Bool.{and_parts}
use Rattle.std.proofs.lemmas.List.{append-nil, drop_all, drop_more}
use Rattle.model.specs.Lists.{In}
use Rattle.model.proofs.Lists.{all_at, all_from_in, in_right}
use Rattle.edn_reader.specs.Bytes.{is_digit}
use Rattle.edn_reader.specs.Spells.{value_after}
use Rattle.edn_reader.proofs.Decimals.{decimal_is}
use Rattle.edn_reader.proofs.Words.{value_after_above}
use Rattle.shards.specs.Dividing.{table_text}
use Rattle.shards.specs.Tables.{AreShort}

-- What is left has these numbers, where this one was begun.
abbrev pub IsLeft : ℕ → List ℕ → List ℕ → Type 0
IsLeft number [] left = (number ≡ 0) × (left ≡ [])
IsLeft number (n ∷ later) left =
    (ds : List ℕ) × (left ≡ ds ++ 10 ∷ table_text later) × (list_all is_digit ds ≡ true) × (value_after number ds ≡ n)

-- these numbers of a table were read, this one was begun, and this is left of the table
pub record IsReadTo (ns numbers : List ℕ) (number : ℕ) (left : List ℕ) : Type 0 where
  pub later : List ℕ
  pub all : ns ≡ numbers ++ later
  pub rest : IsLeft number later left

starts : (ns : List ℕ) → AreShort ns → IsLeft 0 ns (table_text ns)
starts [] short = (refl, refl)
starts (n ∷ ns) short =
    let small : n < 2 ^ 32 = all_at (λ (m : ℕ). m < 2 ^ 32) (n ∷ ns) short n (inl refl) in
    let d = decimal_is n (omega arith) in
    (decimal n, refl, d.digits, d.value)

pub read_nothing : (ns : List ℕ) → AreShort ns → IsReadTo ns [] 0 (table_text ns)
read_nothing ns short = record { later = ns; all = refl; rest = starts ns short }

short_later : (ns numbers later : List ℕ) → AreShort ns → ns ≡ numbers ++ later → AreShort later
short_later ns numbers later short all = all_from_in (λ n. n < 2 ^ 32) later
    (λ n i. all_at (λ (m : ℕ). m < 2 ^ 32) ns short n (subst (In n) (sym all) (in_right n numbers later i)))

-- a digit is no line feed
digit_apart : (d : ℕ) (ds : List ℕ) → list_all is_digit (d ∷ ds) ≡ true → d ≡ 10 → ⊥
digit_apart d ds h e = grind arith

-- a line feed ends the number of its line
line_ends : (number : ℕ) (later tail : List ℕ) → IsLeft number later (10 ∷ tail)
    → (rest : List ℕ) × (later ≡ number ∷ rest) × (tail ≡ table_text rest)
line_ends number [] tail (zero, left) = absurd cc
line_ends number (n ∷ later) tail ([], left, digits, value) =
    let rest : tail ≡ table_text later = cc in (later, ap (λ m. m ∷ later) (sym value), rest)
line_ends number (n ∷ later) tail (d ∷ ds, left, digits, value) =
    absurd (digit_apart d ds digits cc)

read_line : (ns numbers : List ℕ) (number : ℕ) (tail : List ℕ) → AreShort ns
    → IsReadTo ns numbers number (10 ∷ tail) → IsReadTo ns (numbers ++ number ∷ []) 0 tail
read_line ns numbers number tail short h =
    let line = line_ends number h.later tail h.rest in
    let all : ns ≡ (numbers ++ number ∷ []) ++ line.0 = rw (append_assoc, ← line.1) h.all in
    record {
      later = line.0;
      all = all;
      rest = subst (IsLeft 0 line.0) (sym line.2)
          (starts line.0 (short_later ns (numbers ++ number ∷ []) line.0 short all));
    }

-- what a byte that is no line feed does
pub record ReadsDigit (ns numbers : List ℕ) (number byte : ℕ) (tail : List ℕ) : Type 0 where
  pub digit : is_digit byte ≡ true
  pub short : number * 10 + (byte - 48) < 2 ^ 32
  pub read : IsReadTo ns numbers (number * 10 + (byte - 48)) tail

-- such a byte is a digit of the number that is read, and the number stays short
digit_of : (ns numbers : List ℕ) (number byte : ℕ) (tail later : List ℕ) → AreShort ns → ns ≡ numbers ++ later
    → (byte ≡ 10 → ⊥) → IsLeft number later (byte ∷ tail) → ReadsDigit ns numbers number byte tail
digit_of ns numbers number byte tail [] short all apart (zero, left) = absurd cc
digit_of ns numbers number byte tail (n ∷ later) short all apart ([], left, digits, value) =
    absurd (apart (cc))
digit_of ns numbers number byte tail (n ∷ later) short all apart (d ∷ ds, left, digits, value) =
    let first : d ≡ byte = cc in
    let others : tail ≡ ds ++ 10 ∷ table_text later = cc in
    let parts = and_parts (is_digit d) (list_all is_digit ds) digits in
    let value_is : value_after (number * 10 + (byte - 48)) ds ≡ n =
    subst (λ b. value_after (number * 10 + (b - 48)) ds ≡ n) first value in
    let small : n < 2 ^ 32 =
    all_at (λ (m : ℕ). m < 2 ^ 32) (n ∷ later) (short_later ns numbers (n ∷ later) short all) n (inl refl) in
    let above = value_after_above (number * 10 + (byte - 48)) ds in
    record {
      digit = subst (λ b. is_digit b ≡ true) first parts.0;
      short = omega (arith, above, value_is, small);
      read = record { later = n ∷ later; all = all; rest = (ds, others, parts.1, value_is) };
    }

nothing_later : (number : ℕ) (later : List ℕ) → IsLeft number later [] → later ≡ []
nothing_later number [] h = refl
nothing_later number (n ∷ later) ([], left, digits, value) = absurd cc
nothing_later number (n ∷ later) (d ∷ ds, left, digits, value) = absurd cc

-- ---- by the index of a byte

-- a line feed ends the number that is read
pub line_at : (table ns numbers more : List ℕ) (number i : ℕ) → AreShort ns → i < length table
    → get_or table i 0 ≡ 10 → more ≡ numbers ++ number ∷ [] → IsReadTo ns numbers number (drop i table)
    → IsReadTo ns more 0 (drop (i + 1) table)
line_at table ns numbers more number i short less feed is h =
    rw is (read_line ns numbers number (drop (i + 1) table) short (rw (drop_more table i 0 less, feed) at h))

pub digit_at : (table ns numbers : List ℕ) (number i : ℕ) → AreShort ns → i < length table
    → (get_or table i 0 ≡ 10 → ⊥) → IsReadTo ns numbers number (drop i table)
    → ReadsDigit ns numbers number (get_or table i 0) (drop (i + 1) table)
digit_at table ns numbers number i short less apart h =
    let r = rw (drop_more table i 0 less) at h in
    digit_of ns numbers number (get_or table i 0) (drop (i + 1) table) r.later short r.all apart r.rest

pub read_all : (table ns numbers : List ℕ) (number i : ℕ) → length table ≤ i
    → IsReadTo ns numbers number (drop i table) → numbers ≡ ns
read_all table ns numbers number i all h =
    let at_end = subst (IsReadTo ns numbers number) (drop_all i table all) h in
    sym (at_end.all ∙ (ap (λ xs. numbers ++ xs) (nothing_later number at_end.later at_end.rest) ∙ append-nil numbers))
