-- Each step of the reader keeps that what is read so far has distinct keys and is not nested too deep (`step_fits`).
-- By cases on the token and on the innermost form that is open.
use Rattle.std.proofs.Common.{◌≡◌, ℕ, suc, ◌-◌, ◌<◌, ◌≤◌, true, false, Some, List, [], ◌∷◌, ◌++◌, length, sym, subst}
use Rattle.std.proofs.Common.{arith}
use Rattle.std.proofs.lemmas.Bool.{both_ways, or_parts}
use Rattle.edn_reader.specs.Datum.{Atom, keyword, Datum, atom, vector, dictionary, items_of, entries_of}
use Rattle.edn_reader.specs.Datum.{Lacks, DatumFits, ItemsFit, EntriesFit}
use Rattle.edn_reader.specs.Token.{Token, open_vector, close_vector, open_map, close_map, leaf}
use Rattle.edn_reader.specs.Reading.{Frame, in_text, in_vector, in_map, in_pair, State, has_key, put_key, put, close_as}
use Rattle.edn_reader.specs.Reading.{close_vector_at, close_map_at, open_at, step}
use Rattle.std.specs.Str.{bytes_eq}
use Rattle.std.proofs.lemmas.Option.{same_Some}
use Rattle.edn_reader.proofs.Keys.{same_self}
use Rattle.edn_reader.proofs.Consumed.{kept_if_not, mapped, IsPlain, opened_at}

items_fit-append : (n : ℕ) (ds : List Datum) (d : Datum) → ItemsFit n (items_of ds) → DatumFits n d
    → ItemsFit n (items_of (ds ++ d ∷ []))
items_fit-append n [] d h k = (k, tt)
items_fit-append n (x ∷ ds) d h k = (h.0, items_fit-append n ds d h.1 k)

Lacks-append : (l : List ℕ) (es : List (List ℕ × Datum)) (k : List ℕ) (d : Datum) → Lacks l (entries_of es)
    → (l ≡ k → ⊥) → Lacks l (entries_of (es ++ (k, d) ∷ []))
Lacks-append l [] k d h n = (n, tt)
Lacks-append l (e ∷ es) k d h n = (h.0, Lacks-append l es k d h.1 n)

pub entries_fit-append : (n : ℕ) (es : List (List ℕ × Datum)) (k : List ℕ) (d : Datum) → EntriesFit n (entries_of es)
    → has_key k es ≡ false → DatumFits n d → EntriesFit n (entries_of (es ++ (k, d) ∷ []))
entries_fit-append n [] k d h new fit = (tt, fit, tt)
entries_fit-append n (e ∷ es) k d h new fit =
    let p = or_parts (bytes_eq k e.0) (has_key k es) new in
    let apart : e.0 ≡ k → ⊥ =
    λ q. both_ways (bytes_eq k e.0) p.0 (subst (λ (x : List ℕ). bytes_eq k x ≡ true) (sym q) (same_self k)) in
    (Lacks-append e.0 es k d h.0 apart, h.1, entries_fit-append n es k d h.2 p.1 fit)

abbrev pub FrameFits : ℕ → Frame → Type 0
FrameFits n (in_text ds) = ItemsFit n (items_of ds)
FrameFits n (in_vector ds) = ItemsFit n (items_of ds)
FrameFits n (in_map es) = EntriesFit n (entries_of es)
FrameFits n (in_pair es k) = EntriesFit n (entries_of es) × (has_key k es ≡ false)

abbrev pub StackFits : List Frame → Type 0
StackFits [] = Unit {0}
StackFits (f ∷ fs) = FrameFits (16 - length fs) f × StackFits fs

pub record StateFits (s : State) : Type 0 where
  pub room : length s.outer ≤ 16
  pub inner : FrameFits (16 - length s.outer) s.inner
  pub outer : StackFits s.outer

put_key_fits : (n : ℕ) (es : List (List ℕ × Datum)) (a : Atom) (g : Frame) → EntriesFit n (entries_of es)
    → put_key es a ≡ Some g → FrameFits n g
put_key_fits n es (keyword k) g h e =
    let p = kept_if_not (has_key k es) (in_pair es k) g e in subst (FrameFits n) p.1 (h, p.0)
put_key_fits n es a g h e = absurd cc

-- the frame g, which is f with the form d put in, is no deeper than allowed if these are not
pub put_fits : (n : ℕ) (f : Frame) (d : Datum) (g : Frame) → FrameFits n f → DatumFits n d → put f d ≡ Some g
    → FrameFits n g
put_fits n (in_text ds) d g h k e =
    subst (FrameFits n) (same_Some (in_text (ds ++ d ∷ [])) g e) (items_fit-append n ds d h k)
put_fits n (in_vector ds) d g h k e =
    subst (FrameFits n) (same_Some (in_vector (ds ++ d ∷ [])) g e) (items_fit-append n ds d h k)
put_fits n (in_map es) (atom a) g h k e = put_key_fits n es a g h e
put_fits n (in_pair es x) d g h k e =
    subst (FrameFits n) (same_Some (in_map (es ++ (x, d) ∷ [])) g e) (entries_fit-append n es x d h.0 h.1 k)
put_fits n f d g h k e = absurd cc

open_fits : (f : Frame) (s z : State) → ((n : ℕ) → FrameFits n f) → StateFits s → open_at f s ≡ Some z → StateFits z
open_fits f s z any h e =
    let o = opened_at f s z e in
    subst StateFits o.is (record {
      room = omega (arith, o.room);
      inner = any (16 - suc (length s.outer));
      outer = (h.inner, h.outer);
    })

close_fits : (d : Datum) (fs : List Frame) (z : State) → ((n : ℕ) → 0 < n → n - 1 ≡ 16 - length fs → DatumFits n d)
    → length fs ≤ 16 → StackFits fs → close_as d fs ≡ Some z → StateFits z
close_fits d [] z fit room h e = absurd cc
close_fits d (f ∷ fs) z fit room h e =
    let m = mapped _ (put f d) z e in
    let k : DatumFits (16 - length fs) d = fit (16 - length fs) (omega arith) (omega arith) in
    subst StateFits m.2 (record {
      room = omega arith;
      inner = put_fits (16 - length fs) f d m.0 h.0 k m.1;
      outer = h.1;
    })

close_vector_fits : (i : Frame) (fs : List Frame) (z : State) → FrameFits (16 - length fs) i → length fs ≤ 16
    → StackFits fs → close_vector_at i fs ≡ Some z → StateFits z
close_vector_fits (in_vector ds) fs z fit room h e =
    close_fits (vector (items_of ds)) fs z
    (λ n p q. (p, subst (λ (m : ℕ). ItemsFit m (items_of ds)) (sym q) fit)) room h e
close_vector_fits i fs z h k e g = absurd cc

close_map_fits : (i : Frame) (fs : List Frame) (z : State) → FrameFits (16 - length fs) i → length fs ≤ 16
    → StackFits fs → close_map_at i fs ≡ Some z → StateFits z
close_map_fits (in_map es) fs z fit room h e =
    close_fits (dictionary (entries_of es)) fs z
    (λ n p q. (p, subst (λ (m : ℕ). EntriesFit m (entries_of es)) (sym q) fit)) room h e
close_map_fits i fs z h k e g = absurd cc

pub step_fits : (t : Token) (s z : State) → IsPlain t → StateFits s → step t s ≡ Some z → StateFits z
unfolding step
step_fits open_vector s z p h e = open_fits (in_vector []) s z (λ n. tt) h e
step_fits open_map s z p h e = open_fits (in_map []) s z (λ n. tt) h e
step_fits close_vector s z p h e = close_vector_fits s.inner s.outer z h.inner h.room h.outer e
step_fits close_map s z p h e = close_map_fits s.inner s.outer z h.inner h.room h.outer e
step_fits (leaf d) s z p h e =
    let m = mapped _ (put s.inner d) z e in
    let k : DatumFits (16 - length s.outer) d = rw p.1 tt in
    subst StateFits m.2 (record {
      room = h.room;
      inner = put_fits (16 - length s.outer) s.inner d m.0 h.inner k m.1;
      outer = h.outer;
    })
