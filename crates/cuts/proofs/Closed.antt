-- A closed part has a valid order where the whole has one: what `walk` of `Exchanged` makes of it.
use Rattle.std.proofs.Common.{◌≡◌, ◌≢◌, ℕ, ℤ, pos, ◌<◌, ◌≤◌, ◌+◌, nat_lt, ◌&&◌, Bool, true, false, List, [], map}
use Rattle.std.proofs.Common.{filter, All, AllPairs, Contains, IsSome, refl, arith}
use Rattle.model.specs.declared.Kind.{Kind}
use Rattle.model.specs.Objects.{empty, kind_of}
use Rattle.model.specs.Orders.{Call, ReturnsBefore, IsValidOrder}
use Rattle.model.proofs.Lists.{in_filter, in_filter_passes, in_filter_from, contains_from_in, all_from_in, all_at}
use Rattle.model.proofs.Lists.{all_from_pairs, pairs_from_all, pairs_map, pairs_weaker}
use Rattle.model.proofs.Orders.{same_pos}
use Rattle.cuts.specs.Parts.{reply_of, is_pending_removal, put_count, taken_count, pending_before, IsClosed, kept_calls}
use Rattle.cuts.specs.Kinds.Keeping.{fits}
use Rattle.cuts.proofs.Ordered.{in_calls, in_entries, numbers_apart, in_time_order}
use Rattle.cuts.proofs.Contents.{empty_shadow}
use Rattle.cuts.proofs.Conserved.{count_tally, counted_entries, size_empty}
use Rattle.cuts.proofs.Exchanged.{IsSetting, IsTurn, walk}

setting : (kind : Kind) (calls : List Call) (all : Bool) (keeps : ℤ → Bool) (kept : ℕ → Bool)
    → All (λ e. kind_of e.op ≡ kind) calls
    → AllPairs (λ a b. a.number < b.number) calls → IsClosed all keeps kept calls → IsSetting calls kind all keeps kept
setting kind calls all keeps kept of_kind rising h = record {
  of_kind = all_at (λ e. kind_of e.op ≡ kind) calls of_kind;
  rising = pairs_from_all (λ a b. a.number < b.number) calls rising;
  every = h.every;
  each = all_at (λ e. fits all keeps (kept e.number) e.op (reply_of e.returned) ≡ true) calls h.each;
  pending = λ e i o k. sums _ _ _ _
      (all_at (λ e. is_pending_removal e.op e.returned ≡ true → kept e.number ≡ false
      → put_count keeps calls ≤ taken_count keeps calls + pending_before e.number calls) calls h.pending e i o k)
      (count_tally (λ x. is_pending_removal x.op x.returned && nat_lt x.number e.number) calls);
}
  where
    sums : (put took a b : ℕ) → put ≤ took + a → b ≡ a → put ≤ took + b
    sums put took a b l e = omega arith

first_turn : (kind : Kind) (calls : List Call) (keeps : ℤ → Bool) (order : List ℤ)
    → AllPairs (λ a b. a.number < b.number) calls
    → (v : IsValidOrder kind calls order) → IsTurn calls keeps 0 [] v.entries (empty kind)
first_turn kind calls keeps order rising v =
    let counted = counted_entries kind calls keeps order rising v in
    record {
      many = refl;
      pending = λ x i. absurd i;
      known = λ x i. absurd i;
      apart = tt;
      cross_apart = λ x y i j. absurd i;
      cross_time = λ x y i j. absurd i;
      later_known = in_calls v;
      later_apart = numbers_apart v;
      in_time = in_time_order v;
      owed = sums _ _ _ _ _ (size_empty keeps kind) counted.put counted.took;
    }
  where
    sums : (size put all_put took all_took : ℕ) → size ≡ 0 → put ≤ all_put → all_took ≤ took
        → size + put + 0 + all_took ≤ all_put + took
    sums size put all_put took all_took a b d = omega arith

-- if the calls have a valid order, a closed projection has one
pub projection_valid : (kind : Kind) (calls : List Call) (all : Bool) (keeps : ℤ → Bool) (kept : ℕ → Bool)
    (order : List ℤ)
    → All (λ e. kind_of e.op ≡ kind) calls → AllPairs (λ a b. a.number < b.number) calls → IsClosed all keeps kept calls
    → IsValidOrder kind calls order → (part : List ℤ) × IsValidOrder kind (kept_calls kept calls) part
projection_valid kind calls all keeps kept order of_kind rising h v =
    let number : Call → ℤ = λ e. pos e.number in
    let m = walk calls kind all keeps kept (setting kind calls all keeps kept of_kind rising h) v.entries 0 []
    (empty kind) (empty kind)
    (empty_shadow keeps kind) v.replies (first_turn kind calls keeps order rising v) in
    let part : List Call = filter (λ e. kept e.number) calls in (
      map number m.entries,
      record {
        entries = m.entries;
        numbers = refl;
        known = all_from_in (Contains part) m.entries
            (λ e i. contains_from_in part e
            (in_filter_from (λ e. kept e.number) e calls (m.known e i).0 (m.known e i).1));
        once = all_from_pairs (λ x y. x ≢ y) (map number m.entries)
            (pairs_map (λ x y. x ≢ y) number m.entries
            (pairs_weaker (λ x y. x.number ≢ y.number) (λ x y. number x ≢ number y) m.entries
            (λ x y i j ne e. ne (same_pos x.number y.number e)) m.apart));
        whole = all_from_in (λ e. IsSome e.returned → Contains m.entries e) part (λ e i so.
            let here = in_filter (λ e. kept e.number) e calls i in
            let passes = in_filter_passes (λ e. kept e.number) e calls i in
            contains_from_in m.entries e
            (m.whole e (in_entries v e here so) passes so));
        in_order = all_from_pairs (λ x y. ReturnsBefore y x → ⊥) m.entries m.in_time;
        replies = m.replies;
      },
    )
