-- One turn of `TokenBuffer`: what holds of it after each token. A token is one step of the reader, and where no frame
-- is open the element is whole. In the lemmas t is a token, r the text after it, and s and z are the states before it
-- and after it.
use Rattle.std.proofs.Common.{◌≡◌, ◌⊎◌, ℕ, Bool, true, false, Option, Some, None, ◌<◌, List, [], ◌∷◌, ◌++◌, length}
use Rattle.std.proofs.Common.{get_or, refl, sym, ap, ◌∙◌, append_assoc, arith, inl, inr}
use Rattle.std.specs.Prelude.{option_map, option_and_then, IsSome, ◌==◌}
use Rattle.std.proofs.lemmas.Bool.Decides.{nat_tests}
use Rattle.std.proofs.lemmas.List.{append-nil}
use Rattle.std.specs.Str.{IsUtf8}
use Rattle.std.proofs.lemmas.Option.{same_Some}
use Rattle.edn_reader.specs.Datum.{Datum, vector, dictionary, items_of, entries_of}
use Rattle.edn_reader.specs.Token.{Token, open_vector, close_vector, open_map, close_map, leaf, tokens_of}
use Rattle.edn_reader.specs.Spells.{Lexes, Spells}
use Rattle.edn_reader.specs.Reading.{Next, after_token, got, got_string, string_at, skip, first, next, Frame}
use Rattle.edn_reader.specs.Reading.{in_text, in_vector, in_map, put, close_as, close_vector_at}
use Rattle.edn_reader.specs.Reading.{close_map_at, open_at, State, step, steps, opening, closed}
use Rattle.edn_reader.specs.Shapes.{Shape, Shapes, shape_list, shapes_of, shape_step, after_piece, nothing_open}
use Rattle.edn_reader.specs.Shapes.{waits_for_key, put_in}
use Rattle.edn_reader.specs.Elements.{SpellsFront, SpellsNothing, ReadsElement, KeepsToken}
use Rattle.edn_reader.specs.Truncation.{Keep, nothing_kept, keep, keep_all}
use Rattle.edn_reader.proofs.Cutting.{kept_tokens}
use Rattle.edn_reader.proofs.Consumed.{consumed, step_tokens, list_tokens, mapped, opened_at}
use Rattle.edn_reader.proofs.Lexical.{first_shorter, skip_within, with_rest}
use Rattle.edn_reader.specs.TokenBuffers.{IsSoundAfter}
use Rattle.edn_reader.proofs.Progress.{Progress, plain, left, is_next, goes_on, next_at, at_end, ends_there}
use Rattle.edn_reader.proofs.Progress.{spells_there, closed_are, stops, sound}
use Rattle.edn_reader.proofs.Prefixes.{same_front}
use Rattle.edn_reader.proofs.StepsOnShapes.{step_shape}

-- ---- what was read is one element of the text

pub lexed_consumed : (us : List Token) (rest : List ℕ) (s z : State) → Lexes us rest → steps us s ≡ Some z
    → consumed z ≡ consumed s ++ us
lexed_consumed [] rest s z l h = ap consumed (sym (same_Some s z h)) ∙ sym (append-nil (consumed s))
lexed_consumed (u ∷ us) rest s z (q, n, l) h = by_step (step u s) refl h (λ x k. lexed_consumed us q x z l k)
  where
    by_step : (o : Option State) → step u s ≡ o → option_and_then (λ (x : State). steps us x) o ≡ Some z
        → ((x : State) → steps us x ≡ Some z → consumed z ≡ consumed x ++ us) → consumed z ≡ consumed s ++ u ∷ us
    by_step None e k ih = absurd cc
    by_step (Some x) e k ih =
        let a : consumed x ≡ consumed s ++ u ∷ [] = step_tokens u s x (plain n.1 u q n.3) e in
        ih x k ∙ ap (λ (ts : List Token). ts ++ us) a ∙ append_assoc (consumed s) (u ∷ []) us

pub element_front : {text rest : List ℕ} {d : Datum} → Progress text rest (closed (d ∷ [])) → IsUtf8 text
    → SpellsFront text (d ∷ []) rest
element_front {text = text} {rest = rest} {d = d} p u =
    record {
      begins = p.begins;
      fits = p.fits.inner;
      on = λ es h. record {
        utf8 = u;
        tokens = rw append-nil at p.spelled (list_tokens es) h.tokens;
        fits = (p.fits.inner.0, h.fits);
      };
      only = λ es h. (
          let a = left text rest (closed (d ∷ [])) es p h in
          let c : list_tokens es ≡ (tokens_of d ++ []) ++ a.0 =
          lexed_consumed a.0 rest (closed (d ∷ [])) (closed es) a.1 a.2 in
          let b = same_front es d a.0 (rw append-nil at c) in
          (b.0, b.1, record { utf8 = p.utf8; tokens = rw b.2 a.1; fits = (rw b.1 at h.fits).1 })
          );
    }

-- ---- an element that is not whole is inside the text

abbrev pub IsInside : List Frame → Type 0
IsInside [] = ⊥
IsInside (f ∷ []) = f ≡ in_text []
IsInside (f ∷ g ∷ fs) = IsInside (g ∷ fs)

abbrev pub IsGoing : State → Type 0
IsGoing s = IsInside s.outer ⊎ ((d : Datum) × (s ≡ closed (d ∷ [])))

deeper : (f : Frame) (fs : List Frame) → IsInside fs → IsInside (f ∷ fs)
deeper f [] h = absurd h
deeper f (g ∷ fs) h = h

open_going : (f : Frame) (s z : State) → open_at f s ≡ Some z → IsInside (s.inner ∷ s.outer) → IsGoing z
open_going f s z e h =
    inl (rw (← (opened_at f s z e).is) h)

close_going : (d : Datum) (fs : List Frame) (z : State) → close_as d fs ≡ Some z → IsInside fs → IsGoing z
close_going d [] z e h = absurd h
close_going d (f ∷ []) z e h = let k : Some (closed (d ∷ [])) ≡ Some z = rw h at e in inr (d, cc)
close_going d (f ∷ g ∷ fs) z e h =
    let m = mapped _ (put f d) z e in inl (rw (← m.2) h)

vector_going : (i : Frame) (fs : List Frame) (z : State) → close_vector_at i fs ≡ Some z → IsInside fs → IsGoing z
vector_going (in_vector ds) fs z e h = close_going (vector (items_of ds)) fs z e h
vector_going i fs z e h = absurd cc

map_going : (i : Frame) (fs : List Frame) (z : State) → close_map_at i fs ≡ Some z → IsInside fs → IsGoing z
map_going (in_map es) fs z e h = close_going (dictionary (entries_of es)) fs z e h
map_going i fs z e h = absurd cc

pub step_going : (t : Token) (s z : State) → step t s ≡ Some z → IsInside s.outer → IsGoing z
unfolding step
step_going open_vector s z e h = open_going (in_vector []) s z e (deeper s.inner s.outer h)
step_going close_vector s z e h = vector_going s.inner s.outer z e h
step_going open_map s z e h = open_going (in_map []) s z e (deeper s.inner s.outer h)
step_going close_map s z e h = map_going s.inner s.outer z e h
step_going (leaf d) s z e h =
    let m = mapped _ (put s.inner d) z e in inl (rw (← m.2) h)

pub step_first : (t : Token) (z : State) → step t opening ≡ Some z → IsGoing z
unfolding step
step_first open_vector z e = open_going (in_vector []) opening z e refl
step_first open_map z e = open_going (in_map []) opening z e refl
step_first (leaf d) z e = inr (d, sym (same_Some (closed (d ∷ [])) z e))
step_first t z e = absurd cc

-- ---- one turn of the loop over an element's tokens

keep_append : (ts us : List Token) (k : Keep) → keep_all (ts ++ us) k ≡ keep_all us (keep_all ts k)
keep_append [] us k = refl
keep_append (t ∷ ts) us k = keep_append ts us (keep t k)

-- after the tokens that were kept the element goes on, or it is whole
pub record Midway (cuts : Bool) (text rest : List ℕ) (now_open : Shapes) (k : Keep) : Type 0 where
  pub state : State
  pub progress : Progress text rest state
  pub shaped : shapes_of state ≡ now_open
  pub kept : keep_all (consumed state) (nothing_kept cuts) ≡ k
  pub going : IsGoing state

-- a token that was taken, and the step that it is
pub record Taken (s : State) (n : Next) (now_open : Shapes) (r : List ℕ) : Type 0 where
  pub token : Token
  pub after : State
  pub is : n ≡ got token r
  pub steps_to : step token s ≡ Some after
  pub shaped : shapes_of after ≡ now_open

pub taken : (s : State) (n : Next) (now_open : Shapes) (r : List ℕ) → after_piece (shapes_of s) n ≡ Some (now_open, r)
    → Taken s n now_open r
taken s (got t q) now_open r e =
    let p = mapped _ (shape_step t (shapes_of s)) (now_open, r) e in
    let m = mapped shapes_of (step t s) p.0 (step_shape t s ∙ p.1) in
    record {
      token = t;
      after = m.0;
      is = ap (λ (x : Shapes × List ℕ). got t x.1) p.2;
      steps_to = m.1;
      shaped = m.2 ∙ ap (λ (x : Shapes × List ℕ). x.0) p.2;
    }
taken s n now_open r e = absurd cc

-- what the shapes take, the reader takes
taken_too : (s : State) (n : Next) → IsSome (after_piece (shapes_of s) n) → IsSome (after_token s n)
taken_too s (got t q) e = by_step (step t s) (rw (← step_shape t s) at e)
  where
    by_step : (o : Option State) → IsSome (option_map (λ (y : Shapes). let x : Shapes × List ℕ = (y, q) in x)
        (option_map shapes_of o)) → IsSome (option_map (with_rest q) o)
    by_step None e = absurd cc
    by_step (Some z) e = refl
taken_too s n e = absurd cc

not_taken : (s : State) (n : Next) → after_piece (shapes_of s) n ≡ None → after_token s n ≡ None
not_taken s (got t q) e = by_step (step t s) (rw (← step_shape t s) at e)
  where
    by_step : (o : Option State) → option_map (λ (y : Shapes). let x : Shapes × List ℕ = (y, q) in x)
        (option_map shapes_of o) ≡ None → option_map (with_rest q) o ≡ None
    by_step None e = refl
    by_step (Some z) e = absurd cc
not_taken s n e = refl

-- a step adds the next token to what was consumed
step_consumed : (rest : List ℕ) (t : Token) (r : List ℕ) (s z : State) → next rest ≡ got t r → step t s ≡ Some z
    → consumed z ≡ consumed s ++ t ∷ []
step_consumed rest t r s z e f = let n = is_next rest t r e in step_tokens t s z (plain n.1 t r n.3) f

pub start : (text : List ℕ) → IsUtf8 text → Progress text text opening
start text u = record {
  spelled = λ ts h. h;
  only = λ ts h. (ts, h, refl);
  fits = record { room = omega arith; inner = tt; outer = tt };
  utf8 =
      u;
  grounded = refl;
  begins = refl;
  within = omega arith;
}

-- ---- before an element

module _ {text here : List ℕ} (u : IsUtf8 text) (h : here ≡ skip text) where
  -- The first token of an element leaves the reader midway in it.
  pub first_turn : {cuts : Bool} {r : List ℕ} {old new : Shapes} {kept more : Keep} → old ≡ nothing_open
      → kept ≡ nothing_kept cuts → after_piece old (first here) ≡ Some (new, r)
      → KeepsToken kept (first here) more → Midway cuts text r new more
  first_turn {cuts = cuts} {r = r} {new = new} o z e k =
      let t = taken opening (first here) new r (rw o at e) in
      let n : next text ≡ got t.token r = next_at text here h ∙ t.is in
      record {
        state = t.after;
        progress = goes_on text text t.token r opening t.after n t.steps_to (start text u);
        shaped = t.shaped;
        kept = rw (step_consumed text t.token r opening t.after n t.steps_to, k t.token r t.is, z) refl;
        going = step_first t.token t.after t.steps_to;
      }

  pub none_first : {old : Shapes} → 0 < length here → old ≡ nothing_open → after_piece old (first here) ≡ None
      → (ds : List Datum) → Spells ds text → ⊥
  none_first some o e = stops text text here opening h some (not_taken opening (first here) (rw o at e)) (start text u)

  pub sound_first : {old : Shapes} → old ≡ nothing_open → IsSome (after_piece old (first here))
      → IsSoundAfter (length here) text
  sound_first o e = (
    omega (arith, ap length h, skip_within text),
    sound text text here opening h u (start text u) (taken_too opening (first here) (rw o at e)),
  )

  -- the text ends
  pub nothing_more : true ≡ (length here == 0) → SpellsNothing text
  nothing_more e =
      let n = at_end text here h e in
      record {
        spelled = spells_there text text [] n (start text u) u;
        only = λ es k. sym (closed_are [] es (ends_there text text opening n (start text u) es k));
      }

-- ---- between tokens of an element

module _ {cuts : Bool} {text rest : List ℕ} {now_open : Shapes} {kept : Keep}
    (m : Midway cuts text rest now_open kept) where
  -- where something is open the element is not whole
  inside : false ≡ (length now_open.outer == 0) → IsInside m.state.outer
  inside o = elim m.going [
    | inl i ↦ i
    | inr d ↦ (let z : false ≡ true = rw (← m.shaped, d.1) at o in absurd cc)
  ]

  -- where nothing is open it is
  one_form : true ≡ (length now_open.outer == 0) → (d : Datum) × (m.state ≡ closed (d ∷ []))
  one_form o = elim m.going [
    | inl i ↦ absurd (not_inside m.state.outer i (rw (← m.shaped) at o))
    | inr d ↦ d
  ]
    where
      not_inside : (fs : List Frame) → IsInside fs → true ≡ (length (shape_list fs) == 0) → ⊥
      not_inside [] i h = i
      not_inside (f ∷ fs) i h = grind (arith, nat_tests)

  pub whole : IsUtf8 text → true ≡ (length now_open.outer == 0)
      → ReadsElement cuts text kept.tokens rest
  whole u o =
      let d = one_form o in
      let p : Progress text rest (closed (d.0 ∷ [])) = rw d.1 at m.progress in
      let held : kept ≡ keep_all (tokens_of d.0) (nothing_kept cuts) = sym (rw (d.1, append-nil) at m.kept) in
      record {
        element = d.0;
        own = ap (λ (k : Keep). k.tokens) held ∙ kept_tokens cuts d.0;
        front = element_front p u;
        utf8 = p.utf8;
      }

  -- If no bracket is open at the end of an element, nothing is open but the text.
  pub whole_open : true ≡ (length now_open.outer == 0) → now_open ≡ nothing_open
  whole_open o = let d = one_form o in sym m.shaped ∙ ap shapes_of d.1

  module _ {here : List ℕ} (h : here ≡ skip rest) where
    -- One more token of an element leaves the reader midway in it.
    pub next_turn : {r : List ℕ} {new : Shapes} {more : Keep} → false ≡ (length now_open.outer == 0)
        → after_piece now_open (first here) ≡ Some (new, r) → KeepsToken kept (first here) more
        → Midway cuts text r new more
    next_turn {r = r} {new = new} o e k =
        let t = taken m.state (first here) new r (rw (← m.shaped) at e) in
        let n : next rest ≡ got t.token r = next_at rest here h ∙ t.is in
        record {
          state = t.after;
          progress = goes_on text rest t.token r m.state t.after n t.steps_to m.progress;
          shaped = t.shaped;
          kept = rw (
            step_consumed rest t.token r m.state t.after n t.steps_to,
            k t.token r t.is,
            keep_append (consumed m.state) (t.token ∷ []) (nothing_kept cuts),
            m.kept,
          ) refl;
          going = step_going t.token m.state t.after t.steps_to (inside o);
        }

    pub none_next : 0 < length here → after_piece now_open (first here) ≡ None → (ds : List Datum) → Spells ds text
        → ⊥
    none_next some e =
        stops text rest here m.state h some (not_taken m.state (first here) (rw (← m.shaped) at e)) m.progress

    -- nothing is wrong up to a token that would be taken
    pub sound_next : IsUtf8 text → IsSome (after_piece now_open (first here)) → IsSoundAfter (length here) text
    sound_next u e = (
      omega (arith, ap length h, skip_within rest, m.progress.within),
      sound text rest here m.state h u m.progress (taken_too m.state (first here) (rw (← m.shaped) at e)),
    )

    -- the text ends inside an element
    pub none_at_end : true ≡ (length here == 0) → false ≡ (length now_open.outer == 0) → (ds : List Datum)
        → Spells ds text → ⊥
    none_at_end e o ds k =
        let q : m.state ≡ closed ds = ends_there text rest m.state (at_end rest here h e) m.progress ds k in
        let z : false ≡ true = rw (← m.shaped, q) at o in
        cc

-- a token that is taken leaves less of the text
pub after_piece_shorter : (text : List ℕ) (s z : Shapes) (r : List ℕ) → after_piece s (first text) ≡ Some (z, r)
    → length r < length text
after_piece_shorter text s z r e = by_next (first text) refl e
  where
    by_next : (n : Next) → first text ≡ n → after_piece s n ≡ Some (z, r) → length r < length text
    by_next (got u q) f k =
        let a = mapped _ (shape_step u s) (z, r) k in
        rw (← ap (λ (x : Shapes × List ℕ). x.1) a.2) (first_shorter text u q f)
    by_next n f k = absurd cc

-- ---- a string is no key

not_put_in : (f : Shape) → waits_for_key f ≡ true → put_in f None ≡ None
not_put_in f e = grind arith

quote_not_taken : (s : Shapes) (o : Option (List ℕ × List ℕ)) → waits_for_key s.inner ≡ true
    → after_piece s (got_string o) ≡ None
unfolding shape_step
quote_not_taken s None e = refl
quote_not_taken s (Some p) e = rw (not_put_in s.inner e) refl

pub no_string_key : (bytes : List ℕ) (s : Shapes) → true ≡ waits_for_key s.inner → get_or bytes 0 0 ≡ 34
    → after_piece s (first bytes) ≡ None
unfolding first
no_string_key [] s e q = absurd cc
no_string_key (b ∷ bs) s e q = let h : b ≡ 34 = q in rw h (quote_not_taken s (string_at bs) (sym e))
