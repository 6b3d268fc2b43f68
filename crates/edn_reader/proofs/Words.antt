-- A text is its first word and what follows it, and the value of digits grows with them.
use Rattle.std.proofs.Common.{◌≡◌, ℕ, ◌+◌, ◌-◌, ◌*◌, ◌≤◌, List, [], ◌∷◌, ◌++◌, length, take, refl, arith}
use Rattle.edn_reader.specs.Reading.{word, after_word}
use Rattle.edn_reader.specs.Spells.{value_after}
use Rattle.edn_reader.proofs.FrontsInTexts.{rest_within, take-front}

pub word_parts : (t : List ℕ) → word t ++ after_word t ≡ t
word_parts [] = refl
word_parts (b ∷ bs) = let rest = word_parts bs in grind arith

pub after_word_within : (t : List ℕ) → length (after_word t) ≤ length t
after_word_within t = rest_within (word t) (after_word t) t (word_parts t)

pub word_is_front : (t : List ℕ) → take (length t - length (after_word t)) t ≡ word t
word_is_front t = take-front (word t) (after_word t) t (word_parts t)

pub value_after_above : (n : ℕ) (ds : List ℕ) → n ≤ value_after n ds
value_after_above n [] = omega arith
value_after_above n (b ∷ bs) = omega (arith, value_after_above (n * 10 + (b - 48)) bs)
