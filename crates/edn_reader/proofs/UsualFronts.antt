-- A text that begins as usual texts do begins with these tokens: a word, a space, a key and its value. By comparing
-- it byte by byte.
use Rattle.std.proofs.Common.{◌≡◌, ℕ, ◌-◌, ◌<◌, ◌≤◌, ◌⊎◌, inl, inr, true, List, [], ◌∷◌, ◌++◌, length, take, drop}
use Rattle.std.proofs.Common.{get_or, refl, sym, ap, subst, arith}
use Rattle.std.specs.Prelude.{pos}
use Rattle.std.proofs.lemmas.List.{take_all}
use Rattle.edn_reader.specs.Bytes.{is_separator, is_token_byte, is_name}
use Rattle.edn_reader.specs.Datum.{Atom, integer, keyword, Datum, atom, vector, dictionary}
use Rattle.edn_reader.specs.Token.{Token, open_vector, close_vector, open_map, close_map, leaf, tokens_of, items_tokens}
use Rattle.edn_reader.specs.Token.{entries_tokens}
use Rattle.edn_reader.specs.Spells.{IsWord, EndsToken, Begins}
use Rattle.edn_reader.specs.Reading.{first, got}
use Rattle.edn_reader.specs.Sound.{BeginWith}
use Rattle.edn_reader.proofs.Next.{FirstIs, first_is}

-- ---- the first bytes

pub head_is : (t : List ℕ) (a : ℕ) → 0 < length t → get_or t 0 0 ≡ a → t ≡ a ∷ take (length t - 1) (drop 1 t)
head_is [] a l h = absurd (omega arith)
head_is (b ∷ bs) a l h =
    let q : b ≡ a = h in
    rw (q, take_all (length (b ∷ bs) - 1) bs (omega arith)) refl

pub heads_are : (t : List ℕ) (a b : ℕ) → 2 ≤ length t → get_or t 0 0 ≡ a → get_or t 1 0 ≡ b
    → t ≡ a ∷ b ∷ take (length t - 2) (drop 2 t)
heads_are (x ∷ y ∷ xs) a b l h k =
    let q : x ≡ a = h in
    let r : y ≡ b = k in
    rw (q, r, take_all (length (x ∷ y ∷ xs) - 2) xs (omega arith)) refl
heads_are t a b l h k = absurd (omega arith)

-- ---- a token at the front

pub here : (text rest : List ℕ) (t : Token) → Begins text t rest → BeginWith (t ∷ []) text rest
here text rest t b = (rest, ([], text, tt, b, refl), refl)

-- a separator before a token
pub spaced : (b : ℕ) (t : Token) (ts : List Token) (text rest : List ℕ) → is_separator b ≡ true
    → BeginWith (t ∷ ts) text rest → BeginWith (t ∷ ts) (b ∷ text) rest
spaced b t ts text rest h (mid, (gap, after, g, k, q), w) =
    (mid, (b ∷ gap, after, inl (h, g), k, ap (λ (x : List ℕ). b ∷ x) q), w)

pub word_here : (a : Atom) (own text rest : List ℕ) → IsWord a own → EndsToken rest → text ≡ own ++ rest
    → BeginWith (leaf (atom a) ∷ []) text rest
word_here a own text rest w e q = here text rest (leaf (atom a)) (inl (a, own, refl, w, e, q))

pub first_here : (text rest : List ℕ) (t : Token) → first text ≡ got t rest → BeginWith (t ∷ []) text rest
first_here text rest t e = here text rest t (subst (FirstIs text) e (first_is text))

pub zero_here : (text rest : List ℕ) → text ≡ 48 ∷ rest → EndsToken rest
    → BeginWith (leaf (atom (integer (pos 0))) ∷ []) text rest
zero_here text rest q e = word_here (integer (pos 0)) (48 ∷ []) text rest (inl (refl, omega arith, refl)) e q

-- tokens after a separator, or as they are
pub after_one : (b : ℕ) (t : Token) (ts : List Token) (text own rest : List ℕ) → is_separator b ≡ true
    → (text ≡ own) ⊎ (text ≡ b ∷ own) → BeginWith (t ∷ ts) own rest → BeginWith (t ∷ ts) text rest
after_one b t ts text own rest s (inl q) w = subst (λ (x : List ℕ). BeginWith (t ∷ ts) x rest) (sym q) w
after_one b t ts text own rest s (inr q) w =
    subst (λ (x : List ℕ). BeginWith (t ∷ ts) x rest) (sym q) (spaced b t ts own rest s w)

-- ---- pairs

-- a key after a comma and a space, and the token after it
pub field : (k : List ℕ) (t : Token) (ts : List Token) (text mid rest : List ℕ) → is_name k ≡ true
    → text ≡ 44 ∷ 32 ∷ 58 ∷ (k ++ 32 ∷ mid) → BeginWith (t ∷ ts) mid rest
    → BeginWith (leaf (atom (keyword k)) ∷ t ∷ ts) text rest
unfolding is_token_byte
field k t ts text mid rest n q b = (
  32 ∷ mid,
  (
    44 ∷ 32 ∷ [],
    58 ∷ (k ++ 32 ∷ mid),
    inl (refl, inl (refl, tt)),
    inl (keyword k, 58 ∷ k, refl, (refl, n), refl, refl),
    q,
  ),
  spaced 32 t ts mid rest refl b,
)

-- a key with its form, after a comma, in front of the tokens that come next
pub form_field : (d : Datum) (k : List ℕ) (ts : List Token) (text mid rest : List ℕ) → is_name k ≡ true
    → text ≡ 44 ∷ 32 ∷ 58 ∷ (k ++ 32 ∷ mid) → BeginWith (tokens_of d ++ ts) mid rest
    → BeginWith (leaf (atom (keyword k)) ∷ (tokens_of d ++ ts)) text rest
form_field (atom a) k ts text mid rest n q b = field k (leaf (atom a)) ts text mid rest n q b
form_field (vector ds) k ts text mid rest n q b =
    field k open_vector ((items_tokens ds ++ close_vector ∷ []) ++ ts) text mid rest n q b
form_field (dictionary es) k ts text mid rest n q b =
    field k open_map ((entries_tokens es ++ close_map ∷ []) ++ ts) text mid rest n q b

-- the first key of a map, after its brace
pub first_field : (k : List ℕ) (t : Token) (ts : List Token) (text mid rest : List ℕ) → is_name k ≡ true
    → text ≡ 123 ∷ 58 ∷ (k ++ 32 ∷ mid) → BeginWith (t ∷ ts) mid rest
    → BeginWith (open_map ∷ leaf (atom (keyword k)) ∷ t ∷ ts) text rest
unfolding is_token_byte
first_field k t ts text mid rest n q b = (
  58 ∷ (k ++ 32 ∷ mid),
  ([], text, tt, q, refl),
  (
    32 ∷ mid,
    ([], 58 ∷ (k ++ 32 ∷ mid), tt, inl (keyword k, 58 ∷ k, refl, (refl, n), refl, refl), refl),
    spaced 32 t ts mid rest refl b,
  ),
)
