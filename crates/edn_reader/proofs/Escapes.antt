-- A string is cut for writing: its longest front without an escape is written as it is, and the rest is what is left to
-- write (`escaped_plain`). By induction along the bytes.
use Rattle.std.proofs.Common.{◌≡◌, ℕ, ◌-◌, ◌<◌, ◌≤◌, Bool, true, false, cond, List, [], ◌∷◌, ◌++◌, length, take, get_or}
use Rattle.std.proofs.Common.{refl, ap, arith}
use Rattle.edn_reader.specs.Text.{escape_text, escaped}
use Rattle.edn_reader.proofs.FrontsInTexts.{rest_within, take-front}
use Rattle.edn_reader.specs.Writing.{is_plain, plain, after_plain}

pub plain_parts : (t : List ℕ) → plain t ++ after_plain t ≡ t
plain_parts [] = refl
plain_parts (b ∷ bs) = let rest = plain_parts bs in grind arith

pub after_plain_within : (t : List ℕ) → length (after_plain t) ≤ length t
after_plain_within t = rest_within (plain t) (after_plain t) t (plain_parts t)

pub plain_is_front : (t : List ℕ) → take (length t - length (after_plain t)) t ≡ plain t
plain_is_front t = take-front (plain t) (after_plain t) t (plain_parts t)

pub after_plain_shorter : (t : List ℕ) → 0 < length t → is_plain (get_or t 0 0) ≡ true
    → length (after_plain t) < length t
after_plain_shorter [] some h = absurd (omega arith)
after_plain_shorter (b ∷ bs) some h = let p : is_plain b ≡ true = h in rw p (omega (arith, after_plain_within bs))

pub plain_text : (b : ℕ) → is_plain b ≡ true → escape_text b ≡ b ∷ []
plain_text b h = grind arith

escaped_by : (c : Bool) (b : ℕ) (bs : List ℕ) → is_plain b ≡ c → escaped bs ≡ plain bs ++ escaped (after_plain bs)
    → escape_text b ++ escaped bs ≡ cond c (b ∷ plain bs) [] ++ escaped (cond c (after_plain bs) (b ∷ bs))
escaped_by true b bs h e = rw (plain_text b h) (ap (λ (t : List ℕ). b ∷ t) e)
escaped_by false b bs h e = refl

pub escaped_plain : (t : List ℕ) → escaped t ≡ plain t ++ escaped (after_plain t)
escaped_plain [] = refl
escaped_plain (b ∷ bs) = escaped_by (is_plain b) b bs refl (escaped_plain bs)
