-- Cuts name one part at most. Each call of a part has the number of a call of the whole and, if it returned, the
-- number of its return.
use Rattle.std.proofs.Common.{◌≡◌, ℕ, ℤ, ◌<◌, ◌==◌, Bool, true, false, cond, List, [], ◌∷◌, nat_lt, Option, Some, None}
use Rattle.std.proofs.Common.{AllPairs, filter, refl, ap, sym, ◌∙◌, subst, arith}
use Rattle.std.specs.Prelude.{option_map}
use Rattle.std.specs.List.{filter_map}
use Rattle.std.proofs.lemmas.Option.{same_Some}
use Rattle.std.proofs.lemmas.Bool.{eqb-true}
use Rattle.model.specs.declared.AnyOp.{AnyOp}
use Rattle.model.specs.declared.AnyReply.{AnyReply}
use Rattle.model.specs.Orders.{Call, Return}
use Rattle.model.specs.Lists.{In}
use Rattle.model.proofs.Lists.{Pairs, in_from_contains, pairs_from_all}
use Rattle.cuts.specs.declared.cutting.Cut.{Cut}
use Rattle.cuts.specs.declared.cutting.Cut.TheVariants.{From, Until, Without, Keep, Cell, Entry}
use Rattle.cuts.specs.declared.kinds.CellId.{CellId}
use Rattle.cuts.specs.declared.kinds.CellId.TheVariants.{OfRegister, OfKey}
use Rattle.cuts.specs.Cells.{done_at, opened_at, call_at, calls_at}
use Rattle.cuts.specs.Parts.{return_before, call_before, calls_before, ended_before, call_later, returned_call}
use Rattle.cuts.specs.Parts.{call_from}
use Rattle.cuts.specs.Cuts.{keeps_value, keeps_number, IsSuffix, Names, NamesPart}
use Rattle.cuts.proofs.Sequences.{one_number, pairs_filter_map}
use Rattle.cuts.proofs.CutOperations.{filter_map-filter, map-same}
use Rattle.cuts.proofs.Overlaps.{IsTimed, cut_of}
use Rattle.cuts.proofs.Recasts.{recast_timed}
use Rattle.cuts.proofs.Later.{one_suffix}

abbrev pub AreRising : List Call → Type 0
AreRising calls = Pairs (λ x y. x.number < y.number) calls

-- ---- the calls of a part are invoked and return where calls of the whole do

-- what each call becomes, if it is in the part
pub record AreTimed (calls part : List Call) : Type 0 where
  pub becomes : Call → Option Call
  pub named : part ≡ filter_map becomes calls
  pub timed : (y x : Call) → In y calls → becomes y ≡ Some x → IsTimed x y

pub timed_filter : (keeps : Call → Bool) (calls : List Call) → AreTimed calls (filter keeps calls)
timed_filter keeps calls = record {
  becomes = λ y. cond (keeps y) (Some y) None;
  named = sym (filter_map-filter keeps (λ y. y) calls ∙ map-same (filter keeps calls));
  timed = λ y x i e. go y x (keeps y) e;
}
  where
    go : (y x : Call) (b : Bool) → cond b (Some y) None ≡ Some x → IsTimed x y
    go y x true e = subst (λ (z : Call). IsTimed z y) (same_Some y x e)
        (record { number = refl; returned = λ t w. (t, w, refl) })
    go y x false e = absurd (cc e)

timed_before : (until : ℕ) (calls : List Call) → AreTimed calls (calls_before until calls)
timed_before until calls = record {
  becomes = λ y. cond (nat_lt y.number until) (Some (call_before until y)) None;
  named = sym (filter_map-filter (λ y. nat_lt y.number until) (call_before until) calls);
  timed = λ y x i e. go y x (nat_lt y.number until) e;
}
  where
    kept : (o : Option Return) (t : Return) → return_before until o ≡ Some t
        → (u : Return) × (o ≡ Some u) × (u.at ≡ t.at)
    kept None t e = absurd (cc e)
    kept (Some r) t e = at (nat_lt r.at until) e
      where
        at : (b : Bool) → cond b (Some r) None ≡ Some t → (u : Return) × (Some r ≡ Some u) × (u.at ≡ t.at)
        at true q = (r, refl, ap (λ (z : Return). z.at) (same_Some r t q))
        at false q = absurd (cc q)

    go : (y x : Call) (b : Bool) → cond b (Some (call_before until y)) None ≡ Some x → IsTimed x y
    go y x true e = subst (λ (z : Call). IsTimed z y) (same_Some (call_before until y) x e)
        (record { number = refl; returned = λ t w. kept y.returned t w })
    go y x false e = absurd (cc e)

-- what a call becomes in a suffix
pub from_timed : (from : ℕ) (calls part : List Call) → AreRising calls → (h : IsSuffix from calls part) → (y x : Call)
    → In y calls → call_from from h.at h.first y ≡ Some x → IsTimed x y
from_timed from calls part rising h y x i e = own (y.number == from) refl e
  where
    begins : y.number ≡ from → (f : Option (AnyOp × AnyReply)) → option_map (returned_call from h.at) f ≡ Some x
        → IsTimed x y
    begins n None e = absurd (cc e)
    begins n (Some p) e =
        let s = h.start in
        let same = one_number (λ (z : Call). z.number) y s.call calls rising i (in_from_contains calls s.call s.known)
        (n ∙ sym s.number) in
        let back : Return = record { at = h.at; reply = s.reply } in
        subst (λ (z : Call). IsTimed z y) (same_Some (returned_call from h.at p) x e) (record {
          number = sym n;
          returned = λ t w. (
            back,
            ap (λ (z : Call). z.returned) same
                ∙ s.returned,
            ap (λ (z : Return). z.at) (same_Some (record { at = h.at; reply = p.1 }) t w),
          );
        })

    over : (b : Bool) → cond b None (Some (call_later h.first h.at y)) ≡ Some x → IsTimed x y
    over true e = absurd (cc e)
    over false e =
        let c = cut_of h.first h.at y in
        subst (λ (z : Call). IsTimed z y) (same_Some (call_later h.first h.at y) x e)
        (record { number = c.number; returned = c.returned })

    own : (b : Bool) → (y.number == from) ≡ b
        → cond b (option_map (returned_call from h.at) h.first)
        (cond (ended_before from y.returned) None (Some (call_later h.first h.at y))) ≡ Some x → IsTimed x y
    own true q e = begins (eqb-true y.number from q) h.first e
    own false q e = over (ended_before from y.returned) e

-- what a call becomes at a cell
timed_at : (place : CellId) (keeps : ℤ → Bool) (other : ℤ) (kept : ℕ → Bool) (calls part : List Call)
    → part ≡ calls_at place keeps other kept calls → AreTimed calls part
timed_at place keeps other kept calls part h = record {
  becomes = call_at place keeps other kept;
  named = h;
  timed = λ y x i e. recast_timed (done_at place keeps other (kept y.number)) (opened_at place keeps other) y x e;
}

-- each call of the part that a cut names has the number of a call of the whole, and returned where that call did, if it
-- returned
pub timed_named : (cut : Cut) (calls part : List Call) → AreRising calls → Names cut calls part → AreTimed calls part
timed_named (From number) calls part rising h = record {
  becomes = call_from number h.at h.first;
  named = h.named;
  timed = from_timed number calls part rising h;
}
timed_named (Until number) calls part rising h = subst (AreTimed calls) (sym h) (timed_before number calls)
timed_named (Without value before) calls part rising h = subst (AreTimed calls) (sym h.1) (timed_filter _ calls)
timed_named (Keep values numbers) calls part rising h = subst (AreTimed calls) (sym h.1) (timed_filter _ calls)
timed_named (Cell values other numbers) calls part rising h =
    timed_at OfRegister (keeps_value values) other (keeps_number numbers) calls part h
timed_named (Entry key values other numbers) calls part rising h =
    timed_at (OfKey key) (keeps_value values) other (keeps_number numbers) calls part h

-- ---- one part

-- the numbers of a part rise
pub rising_timed : (calls part : List Call) → AreTimed calls part → AreRising calls → AreRising part
rising_timed calls part t rising = subst AreRising (sym t.named)
    (pairs_filter_map (λ x y. x.number < y.number) (λ x y. x.number < y.number) t.becomes calls
    (λ x y a b i j l e f. less x.number y.number a.number b.number l (t.timed x a i e).number
    (t.timed y b j f).number) rising)
  where
    less : (low high low' high' : ℕ) → low < high → low' ≡ low → high' ≡ high → low' < high'
    less low high low' high' l e f = omega arith

one_named : (cut : Cut) (calls a b : List Call) → AreRising calls → Names cut calls a → Names cut calls b → a ≡ b
one_named (From number) calls a b rising h k = one_suffix number calls a b rising h k
one_named (Until number) calls a b rising h k = h ∙ sym k
one_named (Without value before) calls a b rising h k = h.1 ∙ sym k.1
one_named (Keep values numbers) calls a b rising h k = h.1 ∙ sym k.1
one_named (Cell values other numbers) calls a b rising h k = h ∙ sym k
one_named (Entry key values other numbers) calls a b rising h k = h ∙ sym k

one_after : (cuts : List Cut) (calls p q : List Call) → AreRising calls → NamesPart cuts calls p
    → NamesPart cuts calls q → p ≡ q
one_after [] calls p q rising h k = h ∙ sym k
one_after (cut ∷ cuts) calls p q rising h k =
    let same = one_named cut calls h.0 k.0 rising h.1 k.1 in
    let next = rising_timed calls h.0 (timed_named cut calls h.0 rising h.1) rising in
    one_after cuts h.0 p q next h.2 (subst (λ (z : List Call). NamesPart cuts z q) (sym same) k.2)

pub one_part_named : (cuts : List Cut) (calls p q : List Call) → AllPairs (λ a b. a.number < b.number) calls
    → NamesPart cuts calls p → NamesPart cuts calls q → p ≡ q
one_part_named cuts calls p q rising h k = one_after cuts calls p q
    (pairs_from_all (λ a b. a.number < b.number) calls rising) h k
