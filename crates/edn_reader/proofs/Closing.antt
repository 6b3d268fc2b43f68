-- Each level that is open can be closed, so what was read are the first tokens of some forms: by induction over the
-- levels, the innermost first.
use Rattle.std.proofs.Common.{◌≡◌, ℕ, ◌-◌, ◌≤◌, false, Some, List, [], ◌∷◌, ◌++◌, length, refl, sym, ap, subst, ◌∙◌}
use Rattle.std.proofs.Common.{append_assoc, arith}
use Rattle.std.proofs.lemmas.List.{append-nil}
use Rattle.std.proofs.lemmas.Option.{same_Some}
use Rattle.edn_reader.specs.Datum.{nil, keyword, Datum, atom, vector, dictionary}
use Rattle.edn_reader.specs.Datum.{items_of, entries_of, DatumFits, ItemsFit, EntriesFit}
use Rattle.edn_reader.specs.Token.{Token, open_vector, close_vector, open_map, close_map, leaf, tokens_of}
use Rattle.edn_reader.specs.Reading.{Frame, in_text, in_vector, in_map, in_pair, State, has_key, put, close_as}
use Rattle.edn_reader.specs.Reading.{close_vector_at, close_map_at, takes_key, open_at, step}
use Rattle.edn_reader.proofs.Consumed.{kept_if_not, mapped, opened_at, list_tokens, pairs_tokens-append}
use Rattle.edn_reader.proofs.Consumed.{frame_tokens, stack_tokens, put_tokens}
use Rattle.edn_reader.proofs.Kept.{FrameFits, StackFits, entries_fit-append, put_fits}

-- the text is outermost, and each frame that holds another waits for a value
abbrev pub IsGrounded : Frame → List Frame → Type 0
IsGrounded (in_text ds) fs = fs ≡ []
IsGrounded (in_vector ds) [] = ⊥
IsGrounded (in_vector ds) (f ∷ fs) = (takes_key f ≡ false) × IsGrounded f fs
IsGrounded (in_map es) [] = ⊥
IsGrounded (in_map es) (f ∷ fs) = (takes_key f ≡ false) × IsGrounded f fs
IsGrounded (in_pair es k) [] = ⊥
IsGrounded (in_pair es k) (f ∷ fs) = (takes_key f ≡ false) × IsGrounded f fs

-- ---- a step keeps it

same_place : (f g : Frame) (d : Datum) (fs : List Frame) → put f d ≡ Some g → IsGrounded f fs → IsGrounded g fs
same_place (in_text ds) g d fs e h = subst (λ (x : Frame). IsGrounded x fs) (same_Some (in_text (ds ++ d ∷ [])) g e) h
same_place (in_vector ds) g d (x ∷ xs) e h =
    subst (λ (y : Frame). IsGrounded y (x ∷ xs)) (same_Some (in_vector (ds ++ d ∷ [])) g e) h
same_place (in_map es) g (atom (keyword k)) (x ∷ xs) e h =
    let p = kept_if_not (has_key k es) (in_pair es k) g e in subst (λ (y : Frame). IsGrounded y (x ∷ xs)) p.1 h
same_place (in_map es) g (atom a) (x ∷ xs) e h = absurd cc
same_place (in_map es) g d (x ∷ xs) e h = absurd cc
same_place (in_pair es k) g d (x ∷ xs) e h =
    subst (λ (y : Frame). IsGrounded y (x ∷ xs)) (same_Some (in_map (es ++ (k, d) ∷ [])) g e) h
same_place f g d fs e h = absurd h

opened : (f : Frame) (s z : State)
    → ((g : Frame) (gs : List Frame) → takes_key g ≡ false → IsGrounded g gs → IsGrounded f (g ∷ gs))
    → IsGrounded s.inner s.outer → open_at f s ≡ Some z → IsGrounded z.inner z.outer
opened f s z in_it h e =
    let o = opened_at f s z e in
    subst (λ (x : State). IsGrounded x.inner x.outer) o.is (in_it s.inner s.outer o.waits h)

-- what is after the innermost frame
abbrev Behind : List Frame → Type 0
Behind [] = Unit {0}
Behind (f ∷ fs) = IsGrounded f fs

closed_as : (d : Datum) (fs : List Frame) (z : State) → Behind fs → close_as d fs ≡ Some z → IsGrounded z.inner z.outer
closed_as d [] z h e = absurd cc
closed_as d (f ∷ fs) z h e =
    let m = mapped _ (put f d) z e in
    subst (λ (x : State). IsGrounded x.inner x.outer) m.2 (same_place f m.0 d fs m.1 h)

remains : (f : Frame) (fs : List Frame) → IsGrounded f fs → Behind fs
remains f [] h = tt
remains (in_text ds) (g ∷ gs) h = absurd cc
remains f (g ∷ gs) h = h.1

vector_closed : (i : Frame) (fs : List Frame) (z : State) → Behind fs → close_vector_at i fs ≡ Some z
    → IsGrounded z.inner z.outer
vector_closed (in_vector ds) fs z h e = closed_as (vector (items_of ds)) fs z h e
vector_closed i fs z h e = absurd cc

map_closed : (i : Frame) (fs : List Frame) (z : State) → Behind fs → close_map_at i fs ≡ Some z
    → IsGrounded z.inner z.outer
map_closed (in_map es) fs z h e = closed_as (dictionary (entries_of es)) fs z h e
map_closed i fs z h e = absurd cc

pub step_grounded : (t : Token) (s z : State) → IsGrounded s.inner s.outer → step t s ≡ Some z
    → IsGrounded z.inner z.outer
unfolding step
step_grounded open_vector s z h e = opened (in_vector []) s z (λ g gs q k. (q, k)) h e
step_grounded open_map s z h e = opened (in_map []) s z (λ g gs q k. (q, k)) h e
step_grounded close_vector s z h e = vector_closed s.inner s.outer z (remains s.inner s.outer h) e
step_grounded close_map s z h e = map_closed s.inner s.outer z (remains s.inner s.outer h) e
step_grounded (leaf d) s z h e =
    let m = mapped _ (put s.inner d) z e in
    subst (λ (x : State). IsGrounded x.inner x.outer) m.2 (same_place s.inner m.0 d s.outer m.1 h)

-- ---- what is open is closed, from the innermost out

-- forms whose first tokens these are
pub record AreFirst (tokens : List Token) : Type 0 where
  pub forms : List Datum
  pub fit : ItemsFit 16 (items_of forms)
  pub more : List Token
  pub parts : list_tokens forms ≡ tokens ++ more

-- a value put into the frame round it
put_value : (f : Frame) (d : Datum) → takes_key f ≡ false → (g : Frame) × (put f d ≡ Some g)
put_value (in_text ds) d h = (in_text (ds ++ d ∷ []), refl)
put_value (in_vector ds) d h = (in_vector (ds ++ d ∷ []), refl)
put_value (in_map es) d h = absurd cc
put_value (in_pair es k) d h = (in_map (es ++ (k, d) ∷ []), refl)

-- the innermost frame as a value, of which these tokens are left
closing : (i f : Frame) (fs : List Frame) (d : Datum) (left : List Token) → tokens_of d ≡ frame_tokens i ++ left
    → DatumFits (16 - length fs) d
    → takes_key f ≡ false → IsGrounded f fs → FrameFits (16 - length fs) f
    → ((g : Frame) → IsGrounded g fs → FrameFits (16 - length fs) g → AreFirst (stack_tokens fs ++ frame_tokens g))
    → AreFirst ((stack_tokens fs ++ frame_tokens f) ++ frame_tokens i)
closing i f fs d left e fit q h k rest =
    let p = put_value f d q in
    let r = rest p.0 (same_place f p.0 d fs p.1 h) (put_fits (16 - length fs) f d p.0 k fit p.1) in
    let t : frame_tokens p.0 ≡ frame_tokens f ++ (frame_tokens i ++ left) = rw (← e) (put_tokens f d p.0 p.1) in
    record {
      forms = r.forms;
      fit = r.fit;
      more = left ++ r.more;
      parts = r.parts ∙ ap (λ (x : List Token). (stack_tokens fs ++ x) ++ r.more) t ∙ simp append_assoc;
    }

pair_left : (es : List (List ℕ × Datum)) (k : List ℕ)
    → tokens_of (dictionary (entries_of (es ++ (k, atom nil) ∷ [])))
    ≡ frame_tokens (in_pair es k) ++ (leaf (atom nil) ∷ close_map ∷ [])
pair_left es k = rw (pairs_tokens-append es k (atom nil)) (simp append_assoc)

pub closable : (i : Frame) (fs : List Frame) → IsGrounded i fs → FrameFits (16 - length fs) i → StackFits fs
    → length fs ≤ 16 → AreFirst (stack_tokens fs ++ frame_tokens i)
closable (in_text ds) fs h k st room =
    rw h (record {
      forms = ds;
      fit = subst (λ (n : ℕ). ItemsFit n (items_of ds)) (ap (λ (x : List Frame). 16 - length x) h) k;
      more = [];
      parts = sym (append-nil (list_tokens ds));
    })
closable (in_vector ds) (f ∷ fs) h k st room =
    let fit : DatumFits (16 - length fs) (vector (items_of ds)) =
    (omega arith, subst (λ (n : ℕ). ItemsFit n (items_of ds)) (omega arith) k) in
    closing (in_vector ds) f fs (vector (items_of ds)) (close_vector ∷ []) refl fit h.0 h.1 st.0
    (λ g l m. closable g fs l m st.1 (omega arith))
closable (in_map es) (f ∷ fs) h k st room =
    let fit : DatumFits (16 - length fs) (dictionary (entries_of es)) =
    (omega arith, subst (λ (n : ℕ). EntriesFit n (entries_of es)) (omega arith) k) in
    closing (in_map es) f fs (dictionary (entries_of es)) (close_map ∷ []) refl fit h.0 h.1 st.0
    (λ g l m. closable g fs l m st.1 (omega arith))
closable (in_pair es x) (f ∷ fs) h k st room =
    let n = 16 - length (f ∷ fs) in
    let entries : EntriesFit n (entries_of (es ++ (x, atom nil) ∷ [])) =
    entries_fit-append n es x (atom nil) k.0 k.1 tt in
    let fit : DatumFits (16 - length fs) (dictionary (entries_of (es ++ (x, atom nil) ∷ []))) =
    (omega arith, subst (λ (m : ℕ). EntriesFit m (entries_of (es ++ (x, atom nil) ∷ []))) (omega arith) entries) in
    closing (in_pair es x) f fs (dictionary (entries_of (es ++ (x, atom nil) ∷ [])))
    (leaf (atom nil) ∷ close_map ∷ []) (pair_left es x) fit h.0 h.1
    st.0 (λ g l m. closable g fs l m st.1 (omega arith))
closable i fs h k e g = absurd h
