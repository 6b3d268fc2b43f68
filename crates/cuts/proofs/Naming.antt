-- The part that the cuts name: at first the calls themselves (`not_cut`), and after one more cut what it names of the
-- part so far (`cut_further`). If a cut names nothing, all of them do (`none_left`).
use Rattle.std.proofs.Common.{◌≡◌, suc, ℕ, ℤ, ◌<◌, ◌+◌, List, ◌∷◌, length, get_or, drop, ap, sym, ◌∙◌, subst, arith}
use Rattle.std.proofs.Math.Seq.{drop-cons}
use Rattle.std.specs.declared.alloc.AllocError.{AllocError}
use Rattle.std.specs.Prelude.{Result, Ok, Err, Option, Some, None, IfOk, IfSome}
use Rattle.model.specs.declared.Kind.{Kind}
use Rattle.model.specs.Orders.{Call}
use Rattle.events.specs.Operations.{ObjectCalls, calls_of}
use Rattle.model.proofs.Lists.{Pairs}
use Rattle.cuts.specs.declared.cutting.Cut.{Cut}
use Rattle.cuts.specs.declared.cutting.Cut.TheVariants.{From, Without}
use Rattle.cuts.specs.Absent.{IsWithout}
use Rattle.cuts.specs.Cuts.{IsSuffix, Names, NamesPart, kind_after_cut, kind_after_cuts}
use Rattle.cuts.proofs.Later.{one_suffix}

-- a suffix that was cut out is the one that the cut names
pub from_one : (cut : Cut) (number : ℕ) (calls : List Call) (cut_out : Result (Option ObjectCalls) AllocError)
    → cut ≡ From number
    → Pairs (λ x y. x.number < y.number) calls
    → IfOk cut_out (λ o. IfSome o (λ p. IsSuffix number calls (calls_of p.ops)))
    → IfOk cut_out (λ o. IfSome o (λ p. (part : List Call) → Names cut calls part → part ≡ calls_of p.ops))
from_one cut number calls (Ok None) e rising h = tt
from_one cut number calls (Ok (Some p)) e rising h =
    λ part named. one_suffix number calls part (calls_of p.ops) rising
    (subst (λ (z : Cut). Names z calls part) e named) h
from_one cut number calls (Err x) e rising h = tt

-- the part leaves out the calls on an absent value, and the cut names the other calls
pub without_named : (cut : Cut) (value other : ℤ) (before : ℕ) (calls : List Call)
    (cut_out : Result (Option ObjectCalls) AllocError) → cut ≡ Without value before → other ≡ value
    → IfOk cut_out (λ o. IfSome o (λ p. IsWithout other before calls (calls_of p.ops)))
    → IfOk cut_out (λ o. IfSome o (λ p. Names cut calls (calls_of p.ops)))
without_named cut value other before calls (Ok None) e f h = tt
without_named cut value other before calls (Ok (Some p)) e f h =
    subst (λ (z : Cut). Names z calls (calls_of p.ops)) (sym e)
    (subst (λ (z : ℤ). IsWithout z before calls (calls_of p.ops)) f h)
without_named cut value other before calls (Err x) e f h = tt

-- the cuts name the same part of the whole as those of them that are left name of what the others cut
pub record IsCutSoFar (cuts : List Cut) (i : ℕ) (whole now : List Call) : Type 0 where
  pub names : (part : List Call) → NamesPart (drop i cuts) now part → NamesPart cuts whole part
  pub only : (part : List Call) → NamesPart cuts whole part → NamesPart (drop i cuts) now part

pub not_cut : (cuts : List Cut) (whole : List Call) → IsCutSoFar cuts 0 whole whole
not_cut cuts whole = record { names = λ part h. h; only = λ part h. h }

left : (cuts : List Cut) (i : ℕ) (default : Cut) → i < length cuts
    → drop i cuts ≡ get_or cuts i default ∷ drop (i + 1) cuts
left cuts i default inside =
    let next : suc i ≡ i + 1 = omega arith in
    drop-cons cuts i default inside ∙ ap (λ (n : ℕ). get_or cuts i default ∷ drop n cuts) next

-- once the next cut has named its part, that is the part so far
pub cut_further : (cuts : List Cut) (i : ℕ) (default : Cut) (whole now next : List Call) → i < length cuts
    → IsCutSoFar cuts i whole now → Names (get_or cuts i default) now next
    → ((part : List Call) → Names (get_or cuts i default) now part → part ≡ next)
    → IsCutSoFar cuts (i + 1) whole next
cut_further cuts i default whole now next inside so_far named one = record {
  names = λ part k. so_far.names part (subst (λ (cs : List Cut). NamesPart cs now part) (sym split) (next, named, k));
  only = λ part k.
      let r = subst (λ (cs : List Cut). NamesPart cs now part) split (so_far.only part k) in
      subst (λ (z : List Call). NamesPart (drop (i + 1) cuts) z part) (one r.0 r.1) r.2;
}
  where
    split : drop i cuts ≡ get_or cuts i default ∷ drop (i + 1) cuts
    split = left cuts i default inside

-- if the next cut names nothing, the cuts name no part
pub none_left : (cuts : List Cut) (i : ℕ) (default : Cut) (whole now : List Call) → i < length cuts
    → IsCutSoFar cuts i whole now
    → ((part : List Call) → Names (get_or cuts i default) now part → ⊥) → (part : List Call) → NamesPart cuts whole part
    → ⊥
none_left cuts i default whole now inside so_far none part names =
    let r = subst (λ (cs : List Cut). NamesPart cs now part) (left cuts i default inside) (so_far.only part names) in
    none r.0 r.1

-- the cuts leave the same kind as those of them that are left leave of what the others cut
abbrev pub IsKindSoFar : List Cut → ℕ → Kind → Kind → Type 0
IsKindSoFar cuts i whole now = kind_after_cuts cuts whole ≡ kind_after_cuts (drop i cuts) now

-- and the kind that it leaves is the kind so far
pub kind_further : (cuts : List Cut) (i : ℕ) (default : Cut) (whole now next : Kind) → i < length cuts
    → IsKindSoFar cuts i whole now → next ≡ kind_after_cut (get_or cuts i default) now
    → IsKindSoFar cuts (i + 1) whole next
kind_further cuts i default whole now next inside so_far is =
    so_far ∙ ap (λ (cs : List Cut). kind_after_cuts cs now) (left cuts i default inside)
    ∙ ap (kind_after_cuts (drop (i + 1) cuts)) (sym is)
