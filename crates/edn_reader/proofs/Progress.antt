-- Reading makes progress (`Progress`): the text that was read spells the tokens so far, and each list of tokens that
-- the text spells goes on from here. Each token keeps this, by cases on what the next token is; so a text has one
-- reading (`one_reading_of`). In the lemmas t is a token, r the text after it, and s and z are the states before it and
-- after it.
use Rattle.std.proofs.Common.{◌≡◌, ℕ, ◌-◌, ◌≤◌, true, ◌<◌, Option, Some, None, List, [], ◌∷◌, ◌++◌, length, refl, sym}
use Rattle.std.proofs.Common.{ap, subst, ◌∙◌, append_assoc, arith}
use Rattle.std.specs.Prelude.{option_map, IsSome, ◌==◌}
use Rattle.std.proofs.lemmas.Bool.{eqb-true}
use Rattle.std.proofs.lemmas.List.{append-nil}
use Rattle.std.specs.Str.{IsUtf8}
use Rattle.std.proofs.lemmas.Option.{same_Some}
use Rattle.edn_reader.specs.Datum.{Datum, items_of}
use Rattle.edn_reader.specs.Token.{Token}
use Rattle.edn_reader.specs.Spells.{Begins, IsNext, IsEnding, Lexes, Spells}
use Rattle.edn_reader.specs.Reading.{Next, after_token, end, bad, got, skip, first, next, in_text, State, step, steps}
use Rattle.edn_reader.specs.Reading.{opening, closed}
use Rattle.edn_reader.proofs.Consumed.{IsPlain, consumed, step_tokens, list_tokens}
use Rattle.edn_reader.proofs.Complete.{items_list, steps_items}
use Rattle.edn_reader.proofs.Splits.{after_gap, after_begins}
use Rattle.edn_reader.proofs.Kept.{StateFits, step_fits}
use Rattle.edn_reader.proofs.Closing.{IsGrounded, step_grounded, closable}
use Rattle.edn_reader.specs.Sound.{BeginWith, IsSoundAt}
use Rattle.edn_reader.proofs.Lexical.{with_rest, skip_within, first_shorter}
use Rattle.edn_reader.proofs.Next.{gap_of, FirstIs, first_is, IsNextOf, next_is, next_from, ending_next}

pub record Progress (text rest : List ℕ) (s : State) : Type 0 where
  pub spelled : (ts : List Token) → Lexes ts rest → Lexes (consumed s ++ ts) text
  pub only : (ts : List Token) → Lexes ts text → (us : List Token) × Lexes us rest × (steps ts opening ≡ steps us s)
  pub fits : StateFits s
  pub utf8 : IsUtf8 rest
  pub grounded : IsGrounded s.inner s.outer
  pub begins : BeginWith (consumed s) text rest
  pub within : length rest ≤ length text

-- ---- one token more

begin_more : (ts : List Token) (text rest : List ℕ) (t : Token) (r : List ℕ) → BeginWith ts text rest
    → IsNext rest t r → BeginWith (ts ++ t ∷ []) text r
begin_more [] text rest t r b n = (r, subst (λ (x : List ℕ). IsNext x t r) (sym b) n, refl)
begin_more (u ∷ us) text rest t r (q, m, b) n = (q, m, begin_more us q rest t r b n)

pub plain : (bytes : List ℕ) (t : Token) (rest : List ℕ) → Begins bytes t rest → IsPlain t
plain bytes t rest h = grind arith

pub is_next : (rest : List ℕ) (t : Token) (r : List ℕ) → next rest ≡ got t r → IsNext rest t r
is_next rest t r e = subst (IsNextOf rest) e (next_is rest)

-- what was got is one token, with one rest
same_got : (t u : Token) (r q : List ℕ) → got t r ≡ got u q → (t ≡ u) × (r ≡ q)
same_got t u r q e = (cc, cc)

-- what the text goes on with, after its first token
goes_after : (rest : List ℕ) (t : Token) (r : List ℕ) (s z : State) (us : List Token) → next rest ≡ got t r
    → step t s ≡ Some z → Lexes us rest
    → (vs : List Token) × Lexes vs r × (steps us s ≡ steps vs z)
goes_after rest t r s z [] e f h = let k = ending_next rest h in absurd cc
goes_after rest t r s z (u ∷ us) e f (q, n, h) =
    let p = same_got t u r q (sym e ∙ next_from rest u q n) in
    let g : step u s ≡ Some z = rw (← p.0) f in
    (us, rw p.1 h, rw g refl)

-- what follows the next token is shorter
pub next_shorter : (rest : List ℕ) (t : Token) (r : List ℕ) → next rest ≡ got t r → length r < length rest
unfolding next
next_shorter rest t r e = omega (arith, skip_within rest, first_shorter (skip rest) t r e)

-- a step keeps the progress, from the state s to z
pub goes_on : (text rest : List ℕ) (t : Token) (r : List ℕ) (s z : State) → next rest ≡ got t r → step t s ≡ Some z
    → Progress text rest s → Progress text r z
goes_on text rest t r s z e f p =
    let n = is_next rest t r e in
    let l : IsPlain t = plain n.1 t r n.3 in
    let c : consumed z ≡ consumed s ++ t ∷ [] = step_tokens t s z l f in
    record {
      spelled = λ ts h. (let a : Lexes (consumed s ++ t ∷ ts) text = p.spelled (t ∷ ts) (r, n, h) in
          rw (c, append_assoc) a);
      only = λ ts h. (
          let a = p.only ts h in
          let b = goes_after rest t r s z a.0 e f a.1 in
          (b.0, b.1, a.2 ∙ b.2));
      fits = step_fits t s z l p.fits f;
      utf8 = after_begins n.1 t r n.3 (after_gap rest n.0 n.1 n.2 n.4 p.utf8);
      grounded = step_grounded t s z p.grounded f;
      begins = subst (λ (ts : List Token). BeginWith ts text r) (sym c)
          (begin_more (consumed s) text rest t r p.begins n);
      within = omega (arith, p.within, next_shorter rest t r e);
    }

-- ---- what a text spells, and what is left of it

list_of : (ds : List Datum) → items_list (items_of ds) ≡ ds
list_of [] = refl
list_of (d ∷ ds) = ap (λ (xs : List Datum). d ∷ xs) (list_of ds)

-- what a text spells leads to the end
leads : (ds : List Datum) (text : List ℕ) → Spells ds text → steps (list_tokens ds) opening ≡ Some (closed ds)
leads ds text h = steps_items (items_of ds) 16 in_text (λ xs d. refl) [] [] h.fits refl
    ∙ ap (λ (xs : List Datum). Some (closed xs)) (list_of ds)

-- what is left of the text leads there from here
pub left : (text rest : List ℕ) (s : State) (ds : List Datum) → Progress text rest s → Spells ds text
    → (us : List Token) × Lexes us rest × (steps us s ≡ Some (closed ds))
left text rest s ds p h = let a = p.only (list_tokens ds) h.tokens in (a.0, a.1, sym a.2 ∙ leads ds text h)

-- ---- where the next token is not taken

pub no_token : (text rest : List ℕ) (s : State) → next rest ≡ bad → Progress text rest s → (ds : List Datum)
    → Spells ds text → ⊥
no_token text rest s e p ds h = let a = left text rest s ds p h in by_tokens a.0 a.1
  where
    by_tokens : (us : List Token) → Lexes us rest → ⊥
    by_tokens [] l = let k = ending_next rest l in cc
    by_tokens (u ∷ us) (q, n, l) = let k = next_from rest u q n in cc

pub no_step : (text rest : List ℕ) (t : Token) (r : List ℕ) (s : State) → next rest ≡ got t r → step t s ≡ None
    → Progress text rest s → (ds : List Datum) → Spells ds text → ⊥
no_step text rest t r s e f p ds h = let a = left text rest s ds p h in by_tokens a.0 a.1 a.2
  where
    by_tokens : (us : List Token) → Lexes us rest → steps us s ≡ Some (closed ds) → ⊥
    by_tokens [] l k = let x = ending_next rest l in cc
    by_tokens (u ∷ us) (q, n, l) k =
        let b = same_got t u r q (sym e ∙ next_from rest u q n) in
        let g : step u s ≡ None = rw (← b.0) f in
        let none : None ≡ Some (closed ds) = rw g at k in
        cc

pub ends_there : (text rest : List ℕ) (s : State) → next rest ≡ end → Progress text rest s → (ds : List Datum)
    → Spells ds text → s ≡ closed ds
ends_there text rest s e p ds h = let a = left text rest s ds p h in by_tokens a.0 a.1 a.2
  where
    by_tokens : (us : List Token) → Lexes us rest → steps us s ≡ Some (closed ds) → s ≡ closed ds
    by_tokens [] l k = same_Some s (closed ds) k
    by_tokens (u ∷ us) (q, n, l) k = let x = next_from rest u q n in absurd cc

pub spells_there : (text rest : List ℕ) (ds : List Datum) → next rest ≡ end → Progress text rest (closed ds)
    → IsUtf8 text → Spells ds text
spells_there text rest ds e p utf8 =
    let z : IsEnding rest = subst (IsNextOf rest) e (next_is rest) in
    record {
      utf8 = utf8;
      tokens =
          subst (λ (ts : List Token). Lexes ts text) (append-nil (list_tokens ds)) (p.spelled [] z);
      fits = p.fits.inner;
    }

-- ---- the next token, after what is skipped

pub next_at : (rest here : List ℕ) → here ≡ skip rest → next rest ≡ first here
unfolding next
next_at rest here e = ap first (sym e)

pub next_at_end : (rest here : List ℕ) → here ≡ skip rest → length here ≡ 0 → next rest ≡ end
unfolding first
next_at_end rest [] e h = next_at rest [] e
next_at_end rest (b ∷ bs) e h = absurd (omega arith)

pub closed_are : (ds es : List Datum) → closed ds ≡ closed es → ds ≡ es
closed_are ds es e = let f : in_text ds ≡ in_text es = ap (λ (s : State). s.inner) e in cc

-- ---- the laws of one turn of the reader's loop

unmapped_pair : (o : Option State) (q : List ℕ) → option_map (with_rest q) o ≡ None → o ≡ None
unmapped_pair None q e = refl
unmapped_pair (Some x) q e = absurd cc

pub stops : (text rest here : List ℕ) (s : State) → here ≡ skip rest → 0 < length here
    → after_token s (first here) ≡ None → Progress text rest s → (ds : List Datum) → Spells ds text → ⊥
stops text rest here s h some e p ds k = by_first (first here) refl e
  where
    by_first : (n : Next) → first here ≡ n → after_token s n ≡ None → ⊥
    by_first end f e =
        let empty : here ≡ [] = subst (FirstIs here) f (first_is here) in
        omega (arith, ap length empty)
    by_first bad f e = no_token text rest s (next_at rest here h ∙ f) p ds k
    by_first (got t r) f e = no_step text rest t r s (next_at rest here h ∙ f) (unmapped_pair (step t s) r e) p ds k

-- nothing is wrong up to a token that is taken, nor with it
sound_at : (text rest : List ℕ) (b : ℕ) (bs : List ℕ) (t : Token) (r : List ℕ) (s z : State) → skip rest ≡ b ∷ bs
    → IsUtf8 text → Progress text rest s
    → first (b ∷ bs) ≡ got t r → step t s ≡ Some z → IsSoundAt (length text - length (b ∷ bs)) text
sound_at text rest b bs t r s z h u p f e =
    let q = goes_on text rest t r s z (next_at rest (b ∷ bs) (sym h) ∙ f) e p in
    let stands : Begins (b ∷ bs) t r = subst (FirstIs (b ∷ bs)) f (first_is (b ∷ bs)) in
    let parts : consumed z ≡ consumed s ++ t ∷ [] = step_tokens t s z (plain (b ∷ bs) t r stands) e in
    let g = gap_of rest b bs h in
    let c = closable z.inner z.outer q.grounded q.fits.inner q.fits.outer q.fits.room in
    let within : length (b ∷ bs) ≤ length text = omega (arith, ap length h, skip_within rest, p.within) in
    record {
      utf8 = u;
      forms = c.forms;
      fit = c.fit;
      before = consumed s;
      token = t;
      more = c.more;
      are_first = c.parts ∙ ap (λ (ts : List Token). ts ++ c.more) parts ∙ append_assoc (consumed s) (t ∷ []) c.more;
      gap = g.0;
      here = b ∷ bs;
      rest = r;
      begins = subst (λ (x : List ℕ). BeginWith (consumed s) text x) g.2 p.begins;
      is_gap = g.1;
      stands = stands;
      stands_at = omega (arith, within);
    }

none_first : (t : Token) (r : List ℕ) → first [] ≡ got t r → ⊥
unfolding first
none_first t r e = cc

pub sound : (text rest here : List ℕ) (s : State) → here ≡ skip rest → IsUtf8 text → Progress text rest s
    → IsSome (after_token s (first here)) → IsSoundAt (length text - length here) text
sound text rest here s h u p k = by_first here (first here) h refl k
  where
    by_step : (here : List ℕ) (t : Token) (r : List ℕ) (o : Option State) → here ≡ skip rest → first here ≡ got t r
        → step t s ≡ o
        → IsSome (option_map (with_rest r) o) → IsSoundAt (length text - length here) text
    by_step here t r None h f e k = absurd cc
    by_step [] t r (Some z) h f e k = absurd (none_first t r f)
    by_step (b ∷ bs) t r (Some z) h f e k = sound_at text rest b bs t r s z (sym h) u p f e

    by_first : (here : List ℕ) (n : Next) → here ≡ skip rest → first here ≡ n → IsSome (after_token s n)
        → IsSoundAt (length text - length here) text
    by_first here end h f k = absurd cc
    by_first here bad h f k = absurd cc
    by_first here (got t r) h f k = by_step here t r (step t s) h f refl k

-- ---- the end of the text

pub at_end : (rest here : List ℕ) → here ≡ skip rest → true ≡ (length here == 0) → next rest ≡ end
at_end rest here h e = next_at_end rest here h (eqb-true (length here) 0 (sym e))

-- ---- a text has one reading

same_tokens : (ts us : List Token) (bytes : List ℕ) → Lexes ts bytes → Lexes us bytes → ts ≡ us
same_tokens [] [] bytes h k = refl
same_tokens [] (u ∷ us) bytes h (q, n, k) = absurd (cc (ending_next bytes h, next_from bytes u q n))
same_tokens (t ∷ ts) [] bytes (r, m, h) k = absurd (cc (ending_next bytes k, next_from bytes t r m))
same_tokens (t ∷ ts) (u ∷ us) bytes (r, m, h) (q, n, k) =
    let p = same_got t u r q (sym (next_from bytes t r m) ∙ next_from bytes u q n) in
    let rest : ts ≡ us = same_tokens ts us q (subst (Lexes ts) p.1 h) k in
    ap (λ (x : Token). x ∷ ts) p.0 ∙ ap (λ (x : List Token). u ∷ x) rest

pub one_reading_of : (ds es : List Datum) (text : List ℕ) → Spells ds text → Spells es text → ds ≡ es
one_reading_of ds es text h k =
    let ts : list_tokens ds ≡ list_tokens es = same_tokens (list_tokens ds) (list_tokens es) text h.tokens k.tokens in
    closed_are ds es (same_Some (closed ds) (closed es)
    (sym (leads ds text h) ∙ ap (λ (x : List Token). steps x opening) ts ∙ leads es text k))
