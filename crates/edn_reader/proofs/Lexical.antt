-- A token leaves less of a text than there was, and what is skipped before it leaves no more: by induction on the text,
-- and by the first byte of the token.
use Rattle.std.proofs.Common.{◌≡◌, ℕ, ◌<◌, ◌≤◌, Bool, true, false, cond, Option, Some, None, List, [], ◌∷◌, ◌++◌}
use Rattle.std.proofs.Common.{length, refl, ap, subst, arith}
use Rattle.std.specs.Prelude.{◌==◌}
use Rattle.std.proofs.lemmas.List.{length-append}
use Rattle.edn_reader.specs.Reading.{skip, skip_comment, word, after_word, Next, end, bad, got, got_word, first}
use Rattle.edn_reader.specs.Reading.{atom_of, got_string, string_at, State}
use Rattle.edn_reader.specs.Datum.{Atom}
use Rattle.edn_reader.specs.Token.{Token}
use Rattle.edn_reader.proofs.Strings.{string_less}
use Rattle.edn_reader.proofs.Words.{word_parts}

mutual
  pub skip_within : (t : List ℕ) → length (skip t) ≤ length t
  skip_within [] = omega arith
  skip_within (b ∷ bs) = grind (arith, skip_within bs, skip_comment_within bs)

  pub skip_comment_within : (t : List ℕ) → length (skip_comment t) ≤ length t
  skip_comment_within [] = omega arith
  skip_comment_within (b ∷ bs) = grind (arith, skip_within bs, skip_comment_within bs)

-- a state, and the rest
abbrev pub with_rest : List ℕ → State → State × List ℕ
with_rest rest s = (s, rest)

-- what follows a token is shorter
abbrev pub LeavesLess : List ℕ → Next → Type 0
LeavesLess t end = Unit {0}
LeavesLess t bad = Unit {0}
LeavesLess t (got k r) = length r < length t

if_less : (text : List ℕ) (c : Bool) (x y : Next) → LeavesLess text x → LeavesLess text y → LeavesLess text (cond c x y)
if_less text true x y h k = h
if_less text false x y h k = k

word_less : (text word after : List ℕ) (o : Option Atom) → atom_of word ≡ o → word ++ after ≡ text
    → LeavesLess text (got_word o after)
unfolding atom_of
word_less text word after None e p = tt
word_less text [] after (Some x) e p = absurd cc
word_less text (c ∷ cs) after (Some x) e p = omega (arith, length-append (c ∷ cs) after, ap length p)

string_leaves : (t bs : List ℕ) (o : Option (List ℕ × List ℕ)) → length bs < length t → string_at bs ≡ o
    → LeavesLess t (got_string o)
string_leaves t bs None h e = tt
string_leaves t bs (Some p) h e = let l : length p.1 < length bs = string_less bs p.0 p.1 e in omega arith

first_less : (t : List ℕ) → LeavesLess t (first t)
unfolding first
first_less [] = tt
first_less (b ∷ bs) =
    let t : List ℕ = b ∷ bs in
    let h : length bs < length t = omega arith in
    let w : Next = got_word (atom_of (word t)) (after_word t) in
    let last : LeavesLess t w = word_less t (word t) (after_word t) (atom_of (word t)) refl (word_parts t) in
    if_less t (b == 91) _ _ h
    (if_less t (b == 93) _ _ h
    (if_less t (b == 123) _ _ h
    (if_less t (b == 125) _ _ h (if_less t (b == 34) _ _ (string_leaves t bs (string_at bs) h refl) last))))

pub first_shorter : (t : List ℕ) (k : Token) (r : List ℕ) → first t ≡ got k r → length r < length t
first_shorter t k r e = subst (LeavesLess t) e (first_less t)
