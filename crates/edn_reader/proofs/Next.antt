-- The next token is the one that the text begins with, and back: of gaps by induction on the text, of tokens by their
-- first byte.
use Rattle.std.proofs.lemmas.Bool.Decides.{nat_tests}
use Rattle.std.proofs.Common.{arith, ◌≡◌, ℕ, Bool, true, false, cond, Option, Some, None, List, [], ◌∷◌, ◌++◌, refl}
use Rattle.std.proofs.Common.{sym, ap, subst, ◌∙◌, inl, inr}
use Rattle.std.specs.Prelude.{◌==◌, ◌||◌}
use Rattle.std.proofs.lemmas.Bool.{eqb-true, eqb-false, ne_eqb, and_parts}
use Rattle.std.specs.List.{list_all}
use Rattle.edn_reader.specs.Bytes.{is_separator, is_mark, is_token_byte}
use Rattle.edn_reader.specs.Datum.{Atom, atom}
use Rattle.edn_reader.proofs.Strings.{string_from, string_is}
use Rattle.edn_reader.specs.Token.{Token, leaf}
use Rattle.edn_reader.specs.Spells.{IsGap, EndsComment, IsEnding, EndsText, IsWord, EndsToken, Begins, IsNext}
use Rattle.edn_reader.specs.Reading.{skip, skip_comment, word, after_word, atom_of, Next, end, bad, got, got_word}
use Rattle.edn_reader.specs.Reading.{got_string, string_at, first, next}
use Rattle.edn_reader.proofs.Words.{word_parts}
use Rattle.edn_reader.proofs.Atoms.{not_byte, not_separator, word_run, word_of, after_word_ends, atom_from, atom_is}
use Rattle.edn_reader.proofs.Written.{ends_token}

-- ---- gaps

abbrev GapBefore : List ℕ → List ℕ → Type 0
GapBefore t after = (gap : List ℕ) × IsGap gap × (t ≡ gap ++ after)

abbrev CommentBefore : List ℕ → List ℕ → Type 0
CommentBefore t after = (gap : List ℕ) × EndsComment gap × (t ≡ gap ++ after)

-- If skipping the text c ∷ cs leaves a rest, a gap stands before this rest. The Boolean separates is the test whether
-- the byte c is a separator, and opens the test whether it is a semicolon, which opens a comment. The two implications
-- say what stands before the rest in cs: outside a comment, and inside one.
gap_by : (c : ℕ) (cs after : List ℕ) (separates opens : Bool) → is_separator c ≡ separates → (c == 59) ≡ opens
    → (skip cs ≡ after → GapBefore cs after) → (skip_comment cs ≡ after → CommentBefore cs after)
    → cond separates (skip cs) (cond opens (skip_comment cs) (c ∷ cs)) ≡ after → GapBefore (c ∷ cs) after
gap_by c cs after true opens separator semicolon outside inside left =
    let later = outside left in (c ∷ later.0, inl (separator, later.1), ap (λ (t : List ℕ). c ∷ t) later.2)
gap_by c cs after false true separator semicolon outside inside left =
    let later = inside left in (c ∷ later.0, inr (eqb-true c 59 semicolon, later.1), ap (λ (t : List ℕ). c ∷ t) later.2)
gap_by c cs after false false separator semicolon outside inside left = ([], tt, left)

-- If skipping the text c ∷ cs from inside a comment leaves a rest, the end of the comment and a gap stand before it.
-- The Boolean closes is the test whether the byte c is a line feed, which closes a comment. The two implications say
-- what stands before the rest in cs: outside a comment, and inside one.
comment_by : (c : ℕ) (cs after : List ℕ) (closes : Bool) → (c == 10) ≡ closes
    → (skip cs ≡ after → GapBefore cs after) → (skip_comment cs ≡ after → CommentBefore cs after)
    → cond closes (skip cs) (skip_comment cs) ≡ after → CommentBefore (c ∷ cs) after
comment_by c cs after true line_feed outside inside left =
    let later = outside left in
    (c ∷ later.0, inl (eqb-true c 10 line_feed, later.1), ap (λ (t : List ℕ). c ∷ t) later.2)
comment_by c cs after false line_feed outside inside left =
    let later = inside left in
    (c ∷ later.0, inr (eqb-false c 10 line_feed, later.1), ap (λ (t : List ℕ). c ∷ t) later.2)

mutual
  pub gap_of : (t : List ℕ) (b : ℕ) (bs : List ℕ) → skip t ≡ b ∷ bs → GapBefore t (b ∷ bs)
  gap_of [] b bs e = absurd cc
  gap_of (c ∷ cs) b bs e =
      gap_by c cs (b ∷ bs) (is_separator c) (c == 59) refl refl (gap_of cs b bs) (comment_of cs b bs) e

  pub comment_of : (t : List ℕ) (b : ℕ) (bs : List ℕ) → skip_comment t ≡ b ∷ bs → CommentBefore t (b ∷ bs)
  comment_of [] b bs e = absurd cc
  comment_of (c ∷ cs) b bs e = comment_by c cs (b ∷ bs) (c == 10) refl (gap_of cs b bs) (comment_of cs b bs) e

mutual
  pub ending_of : (t : List ℕ) → skip t ≡ [] → IsEnding t
  ending_of [] e = tt
  ending_of (c ∷ cs) e = grind (arith, nat_tests, ending_of cs, text_of cs)

  pub text_of : (t : List ℕ) → skip_comment t ≡ [] → EndsText t
  text_of [] e = tt
  text_of (c ∷ cs) e = grind (arith, nat_tests, ending_of cs, text_of cs)

mutual
  pub skip_gap : (gap after : List ℕ) → IsGap gap → skip after ≡ after → skip (gap ++ after) ≡ after
  skip_gap [] after g h = h
  skip_gap (c ∷ cs) after (inl p) h = let s : is_separator c ≡ true = p.0 in rw s (skip_gap cs after p.1 h)
  skip_gap (c ∷ cs) after (inr p) h = rw p.0 (skip_comment_gap cs after p.1 h)

  pub skip_comment_gap : (gap after : List ℕ) → EndsComment gap → skip after ≡ after
      → skip_comment (gap ++ after) ≡ after
  skip_comment_gap [] after g h = absurd g
  skip_comment_gap (c ∷ cs) after (inl p) h = rw p.0 (skip_gap cs after p.1 h)
  skip_comment_gap (c ∷ cs) after (inr p) h =
      let n : (c == 10) ≡ false = ne_eqb c 10 p.0 in rw n (skip_comment_gap cs after p.1 h)

mutual
  pub skip_ending : (t : List ℕ) → IsEnding t → skip t ≡ []
  skip_ending [] g = refl
  skip_ending (c ∷ cs) (inl p) = let s : is_separator c ≡ true = p.0 in rw s (skip_ending cs p.1)
  skip_ending (c ∷ cs) (inr p) = rw p.0 (skip_text cs p.1)

  pub skip_text : (t : List ℕ) → EndsText t → skip_comment t ≡ []
  skip_text [] g = refl
  skip_text (c ∷ cs) (inl p) = rw p.0 (skip_ending cs p.1)
  skip_text (c ∷ cs) (inr p) = let n : (c == 10) ≡ false = ne_eqb c 10 p.0 in rw n (skip_text cs p.1)

-- ---- tokens

-- a text that begins with a byte of a word
first_is_word : (b : ℕ) (bs : List ℕ) → is_token_byte b ≡ true
    → first (b ∷ bs) ≡ got_word (atom_of (word (b ∷ bs))) (after_word (b ∷ bs))
unfolding first
first_is_word b bs h =
    let n : (m : ℕ) → (is_separator m || is_mark m) ≡ true → (b == m) ≡ false =
    λ m k. not_byte b m h (ends_token m k) in
    rw (n 91 refl, n 93 refl, n 123 refl, n 125 refl, n 34 refl) refl

skip_token : (b : ℕ) (bs : List ℕ) → is_token_byte b ≡ true → skip (b ∷ bs) ≡ b ∷ bs
skip_token b bs h =
    let s : is_separator b ≡ false = not_separator b h in
    let c : (b == 59) ≡ false = not_byte b 59 h (ends_token 59 refl) in
    rw (s, c) refl

-- what begins with a token has nothing to skip, and the token is what is read
pub record Reads (after : List ℕ) (t : Token) (rest : List ℕ) : Type 0 where
  pub stays : skip after ≡ after
  pub reads : first after ≡ got t rest

leaf_reads : (a : Atom) (own rest : List ℕ) (b : ℕ) (bs : List ℕ) → IsWord a own → EndsToken rest → own ≡ b ∷ bs
    → is_token_byte b ≡ true
    → list_all is_token_byte own ≡ true → Reads (own ++ rest) (leaf (atom a)) rest
leaf_reads a own rest b bs w e q h all =
    let p = word_of own rest all e in
    let stays : skip (own ++ rest) ≡ own ++ rest = rw q (skip_token b (bs ++ rest) h) in
    let f : first (own ++ rest) ≡ got_word (atom_of (word (own ++ rest))) (after_word (own ++ rest)) =
    rw q (first_is_word b (bs ++ rest) h) in
    let g : got_word (atom_of (word (own ++ rest))) (after_word (own ++ rest)) ≡ got (leaf (atom a)) rest =
    rw (p.0, p.1, atom_from a own w) refl in
    record { stays = stays; reads = f ∙ g }

run_head : (own : List ℕ) (b : ℕ) (bs : List ℕ) → own ≡ b ∷ bs → list_all is_token_byte own ≡ true
    → is_token_byte b ≡ true
run_head own b bs q all =
    (and_parts (is_token_byte b) (list_all is_token_byte bs)
    (subst (λ (x : List ℕ). list_all is_token_byte x ≡ true) q all)).0

pub begins_reads : (after : List ℕ) (t : Token) (rest : List ℕ) → Begins after t rest → Reads after t rest
unfolding first
begins_reads after (leaf d) rest (inr (s, own, dq, k, q)) =
    let x : string_at (own ++ 34 ∷ rest) ≡ Some (s, rest) = string_from own s rest k in
    record { stays = rw q refl; reads = rw (q, x, dq) refl }
begins_reads after (leaf d) rest (inl (a, own, dq, w, e, q)) =
    let r = word_run a own w in
    let x = leaf_reads a own rest r.head r.tail w e r.parts (run_head own r.head r.tail r.parts r.all) r.all in
    rw (q, dq) x
begins_reads after t rest h = record { stays = rw h refl; reads = rw h refl }

pub next_from : (bytes : List ℕ) (t : Token) (rest : List ℕ) → IsNext bytes t rest → next bytes ≡ got t rest
unfolding next
next_from bytes t rest (gap, after, g, b, q) =
    let r = begins_reads after t rest b in
    let s : skip (gap ++ after) ≡ after = skip_gap gap after g r.stays in
    rw (q, s) r.reads

-- ---- back again

abbrev pub IsNextOf : List ℕ → Next → Type 0
IsNextOf bytes end = IsEnding bytes
IsNextOf bytes bad = Unit {0}
IsNextOf bytes (got t rest) = IsNext bytes t rest

-- what the first token is, at a text with nothing to skip
abbrev pub FirstIs : List ℕ → Next → Type 0
FirstIs after end = after ≡ []
FirstIs after bad = Unit {0}
FirstIs after (got t rest) = Begins after t rest

word_begins : (t : List ℕ) (o : Option Atom) → atom_of (word t) ≡ o → FirstIs t (got_word o (after_word t))
word_begins t None e = tt
word_begins t (Some a) e = inl (a, word t, refl, atom_is a (word t) e, after_word_ends t, sym (word_parts t))

string_begins : (bs : List ℕ) (o : Option (List ℕ × List ℕ)) → string_at bs ≡ o → FirstIs (34 ∷ bs) (got_string o)
string_begins bs None e = tt
string_begins bs (Some p) e =
    let q = string_is bs p.0 p.1 e in inr (p.0, q.0, refl, q.1, ap (λ (x : List ℕ). 34 ∷ x) q.2)

-- A choice between two results is the first token of a text if each result is where it is chosen.
if_first : (text : List ℕ) (c : Bool) (x y : Next) → (c ≡ true → FirstIs text x) → FirstIs text y
    → FirstIs text (cond c x y)
if_first text true x y h k = h refl
if_first text false x y h k = k

-- The first token that is read is the one that the text begins with. The first byte b is tested for the four marks of
-- vectors and maps (as_mark) and for a quotation mark (as_string); any other byte begins a word (as_word).
pub first_is : (t : List ℕ) → FirstIs t (first t)
unfolding first
first_is [] = refl
first_is (b ∷ bs) =
    let text : List ℕ = b ∷ bs in
    let as_mark : (mark : ℕ) → (b == mark) ≡ true → text ≡ mark ∷ bs =
    λ mark e. ap (λ (c : ℕ). c ∷ bs) (eqb-true b mark e) in
    let as_string : (b == 34) ≡ true → FirstIs text (got_string (string_at bs)) =
    λ e. rw (eqb-true b 34 e) (string_begins bs (string_at bs) refl) in
    let as_word : FirstIs text (got_word (atom_of (word text)) (after_word text)) =
    word_begins text (atom_of (word text)) refl in
    if_first text (b == 91) _ _ (as_mark 91)
    (if_first text (b == 93) _ _ (as_mark 93)
    (if_first text (b == 123) _ _ (as_mark 123)
    (if_first text (b == 125) _ _ (as_mark 125)
    (if_first text (b == 34) _ _ as_string as_word))))

-- What is read after what is skipped is the next token of the whole text.
next_by : (bytes after : List ℕ) (n : Next) → skip bytes ≡ after → FirstIs after n → IsNextOf bytes n
next_by bytes after end e f = ending_of bytes (e ∙ f)
next_by bytes after bad e f = tt
next_by bytes [] (got t rest) e f = absurd (nothing_begins t rest f)
  where
    nothing_begins : (t : Token) (rest : List ℕ) → Begins [] t rest → ⊥
    nothing_begins (leaf d) rest (inr (s, own, dq, k, q)) = cc
    nothing_begins (leaf d) rest (inl (a, own, dq, w, e, q)) =
        let r = word_run a own w in
        let z : [] ≡ r.head ∷ (r.tail ++ rest) = q ∙ ap (λ (x : List ℕ). x ++ rest) r.parts in cc
    nothing_begins t rest h = cc
next_by bytes (b ∷ bs) (got t rest) e f = let g = gap_of bytes b bs e in (g.0, b ∷ bs, g.1, f, g.2)

pub next_is : (bytes : List ℕ) → IsNextOf bytes (next bytes)
unfolding next
next_is bytes = next_by bytes (skip bytes) (first (skip bytes)) refl (first_is (skip bytes))

pub ending_next : (bytes : List ℕ) → IsEnding bytes → next bytes ≡ end
unfolding next first
ending_next bytes h = let s : skip bytes ≡ [] = skip_ending bytes h in rw s refl
