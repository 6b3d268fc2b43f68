-- Calls with the numbers of a part, as the history says them: where they have a valid order alone, the part has one.
-- Each cut makes of these calls what it makes of them in the whole, and that has a valid order where they have one.
use Rattle.std.proofs.lemmas.Bool.Decides.{nat_tests}
use Rattle.std.proofs.Common.{◌≡◌, inl, inr, ℕ, ℤ, pos, ◌<◌, ◌==◌, ◌&&◌, ◌||◌, nat_lt, Bool, true, false, cond, not}
use Rattle.std.proofs.Common.{List, [], ◌∷◌, Option, Some, None, IfSome, IsSome}
use Rattle.std.proofs.Common.{All, AllPairs, Contains, map, filter, refl, ap, sym, ◌∙◌, subst, arith}
use Rattle.std.specs.Prelude.{option_map}
use Rattle.std.specs.List.{filter_map, cons_option}
use Rattle.std.proofs.lemmas.Option.{same_Some}
use Rattle.std.proofs.lemmas.Bool.{eqb-true}
use Rattle.model.specs.declared.Kind.{Kind}
use Rattle.model.specs.declared.AnyOp.{AnyOp}
use Rattle.model.specs.declared.AnyReply.{AnyReply}
use Rattle.model.specs.Objects.{kind_of, empty}
use Rattle.model.specs.Orders.{Call, Return, ReturnsBefore, IsValidOrder}
use Rattle.model.proofs.Orders.{returned_some}
use Rattle.model.specs.Lists.{In}
use Rattle.model.proofs.Lists.{in_filter, in_filter_passes, in_filter_from, in_map, in_map_from, filter_same}
use Rattle.model.proofs.Lists.{filter_all, filter-filter, in_from_contains, contains_from_in, all_from_in, all_at}
use Rattle.model.proofs.Lists.{all_from_pairs, pairs_from_all, pairs_map, pairs_weaker}
use Rattle.cuts.specs.declared.cutting.Cut.{Cut}
use Rattle.cuts.specs.declared.cutting.Cut.TheVariants.{From, Until, Without, Keep, Cell, Entry}
use Rattle.cuts.specs.Parts.{IsStart, pending_call, call_later}
use Rattle.cuts.specs.Kinds.Starts.{key_of}
use Rattle.cuts.specs.Parts.{returned_call, call_from, call_before, calls_before, kept_calls}
use Rattle.cuts.specs.Recasts.{recast}
use Rattle.cuts.specs.declared.kinds.CellId.{CellId}
use Rattle.cuts.specs.declared.kinds.CellId.TheVariants.{OfRegister, OfKey}
use Rattle.cuts.specs.Kinds.{kind_at_cell}
use Rattle.cuts.specs.Cells.{done_at, opened_at, call_at, calls_at}
use Rattle.cuts.specs.Absent.{is_put_before, is_taken_before}
use Rattle.cuts.specs.Cuts.{keeps_value, keeps_number, IsSuffix, Names, NamesPart, kind_after_cut, kind_after_cuts}
use Rattle.cuts.specs.Listed.{has_number, listed}
use Rattle.cuts.proofs.Sequences.{one_number, in_filter_map}
use Rattle.cuts.proofs.Overlaps.{before_facts, cut_of, in_time_cut, later_replies}
use Rattle.cuts.proofs.CutOperations.{filter_map-filter}
use Rattle.cuts.proofs.Prefixes.{prefix_valid}
use Rattle.cuts.proofs.Suffixes.{call_from_cases, start_valid}
use Rattle.cuts.proofs.Recasts.{recast_timed}
use Rattle.cuts.proofs.Places.{into_part, part_valid}
use Rattle.cuts.proofs.Later.{leaves_kind}
use Rattle.cuts.proofs.Named.{AreRising, from_timed, timed_named, rising_timed}
use Rattle.cuts.proofs.Booleans.{false_is_not_true, true_or_false}

-- ---- what holds of the calls of a history, and of those of each part

record AreCalls (kind : Kind) (calls : List Call) : Type 0 where
  rising : AreRising calls
  ends : (e : Call) (r : Return) → In e calls → e.returned ≡ Some r → e.number < r.at
  kinds : (e : Call) → In e calls → kind_of e.op ≡ kind

-- what a call becomes is of a kind if what it becomes when it is done, and when it is pending, is
recast_kind : (done : AnyOp → AnyReply → Option (AnyOp × AnyReply)) (pending : AnyOp → Option AnyOp) (kind : Kind)
    (call part : Call) → ((reply : AnyReply) → IfSome (done call.op reply) (λ f. kind_of f.0 ≡ kind))
    → IfSome (pending call.op) (λ f. kind_of f ≡ kind)
    → recast done pending call.number call.op call.returned ≡ Some part → kind_of part.op ≡ kind
recast_kind done pending kind call part done_kind pending_kind is = go call.returned is
  where
    finished : (at : ℕ) (f : Option (AnyOp × AnyReply)) → IfSome f (λ f. kind_of f.0 ≡ kind)
        → option_map (returned_call call.number at) f ≡ Some part → kind_of part.op ≡ kind
    finished at None l is = absurd (cc is)
    finished at (Some f) l is =
        subst (λ (z : Call). kind_of z.op ≡ kind) (same_Some (returned_call call.number at f) part is) l

    unfinished : (f : Option AnyOp) → IfSome f (λ f. kind_of f ≡ kind)
        → option_map (pending_call call.number) f ≡ Some part → kind_of part.op ≡ kind
    unfinished None l is = absurd (cc is)
    unfinished (Some op) l is =
        subst (λ (z : Call). kind_of z.op ≡ kind) (same_Some (pending_call call.number op) part is) l

    go : (o : Option Return) → recast done pending call.number call.op o ≡ Some part → kind_of part.op ≡ kind
    go None is = unfinished (pending call.op) pending_kind is
    go (Some r) is = finished r.at (done call.op r.reply) (done_kind r.reply) is

later_kind : (first : Option (AnyOp × AnyReply)) (at : ℕ) (y : Call)
    → kind_of (call_later first at y).op ≡ kind_of y.op
later_kind first at y = grind (arith, before_facts)

from_kinds : (kind : Kind) (from : ℕ) (calls part : List Call) → AreCalls kind calls → IsSuffix from calls part
    → (x : Call) → In x part → kind_of x.op ≡ kind
from_kinds kind from calls part are h x i =
    let y = in_filter_map (call_from from h.at h.first) x calls (subst (In x) h.named i) in
    elim (call_from_cases from h.at h.first y.0 x y.2) [
      | inl q ↦
          let s = h.start in
          let told = subst (λ (z : Option (Option (AnyOp × AnyReply))). IfSome z
          (λ f. IfSome f (λ p. kind_of p.0 ≡ kind_of s.call.op)))
          (s.told ∙ ap (λ (z : Option (AnyOp × AnyReply)). Some z) q.1) (leaves_kind s.call.op s.reply) in
          subst (λ (z : Call). kind_of z.op ≡ kind) (sym q.2)
          (told ∙ are.kinds s.call (in_from_contains calls s.call s.known))
      | inr q ↦ subst (λ (z : Call). kind_of z.op ≡ kind) (sym q.1) (later_kind h.first h.at y.0 ∙ are.kinds y.0 y.1)
    ]

-- what a call becomes at a cell or an entry is of the kind of the part
kinds_at : (place : CellId) (keeps : ℤ → Bool) (other : ℤ) (kept : ℕ → Bool) (kind : Kind) (calls part : List Call)
    → AreCalls kind calls → part ≡ calls_at place keeps other kept calls → (x : Call) → In x part
    → kind_of x.op ≡ kind_at_cell place kind
kinds_at place keeps other kept kind calls part are is x i =
    let y = in_filter_map (call_at place keeps other kept) x calls (subst (In x) is i) in
    let into = into_part place keeps other in
    recast_kind (done_at place keeps other (kept y.0.number)) (opened_at place keeps other)
    (kind_at_cell place (kind_of y.0.op)) y.0 x (into.returned (kept y.0.number) y.0.op) (into.unfinished y.0.op) y.2
    ∙ ap (kind_at_cell place) (are.kinds y.0 y.1)

kinds_named : (cut : Cut) (kind : Kind) (calls part : List Call) → AreCalls kind calls → Names cut calls part
    → (x : Call) → In x part → kind_of x.op ≡ kind_after_cut cut kind
kinds_named (From number) kind calls part are h x i = from_kinds kind number calls part are h x i
kinds_named (Until number) kind calls part are h x i =
    let y = in_map (call_before number) x (filter (λ e. nat_lt e.number number) calls) (subst (In x) h i) in
    ap (λ (z : Call). kind_of z.op) y.2
    ∙ are.kinds y.0 (in_filter (λ (e : Call). nat_lt e.number number) y.0 calls y.1)
kinds_named (Without value before) kind calls part are h x i = are.kinds x (in_filter _ x calls (subst (In x) h.1 i))
kinds_named (Keep values numbers) kind calls part are h x i = are.kinds x (in_filter _ x calls (subst (In x) h.1 i))
kinds_named (Cell values other numbers) kind calls part are h x i =
    kinds_at OfRegister (keeps_value values) other (keeps_number numbers) kind calls part are h x i
kinds_named (Entry key values other numbers) kind calls part are h x i =
    kinds_at (OfKey key) (keeps_value values) other (keeps_number numbers) kind calls part are h x i

after_cut : (cut : Cut) (kind : Kind) (calls part : List Call) → AreCalls kind calls → Names cut calls part
    → AreCalls (kind_after_cut cut kind) part
after_cut cut kind calls part are h =
    let t = timed_named cut calls part are.rising h in
    record {
      rising = rising_timed calls part t are.rising;
      ends = λ x r i q.
          let y = in_filter_map t.becomes x calls (subst (In x) t.named i) in
          let w = t.timed y.0 x y.1 y.2 in
          let u = w.returned r q in
          later y.0.number x.number u.0.at r.at (are.ends y.0 u.0 y.1 u.1) w.number u.2;
      kinds = kinds_named cut kind calls part are h;
    }
  where
    later : (number number' at at' : ℕ) → number < at → number' ≡ number → at ≡ at' → number' < at'
    later number number' at at' l e f = omega arith

-- ---- calls with these numbers

-- what each of them becomes does not depend on the others
commutes : (kept : ℕ → Bool) (f : Call → Option Call) (calls : List Call)
    → ((y x : Call) → In y calls → f y ≡ Some x → x.number ≡ y.number)
    → kept_calls kept (filter_map f calls) ≡ filter_map f (kept_calls kept calls)
commutes kept f [] same = refl
commutes kept f (y ∷ calls) same = go (f y) refl (commutes kept f calls (λ z x i e. same z x (inr i) e))
  where
    go : (o : Option Call) → f y ≡ o → kept_calls kept (filter_map f calls) ≡ filter_map f (kept_calls kept calls)
        → kept_calls kept (cons_option o (filter_map f calls)) ≡ filter_map f
        (cond (kept y.number) (y ∷ kept_calls kept calls) (kept_calls kept calls))
    go None q h = h ∙ none (kept y.number)
      where
        none : (b : Bool) → filter_map f (kept_calls kept calls) ≡ filter_map f
            (cond b (y ∷ kept_calls kept calls) (kept_calls kept calls))
        none true = sym (ap (λ (o : Option Call). cons_option o (filter_map f (kept_calls kept calls))) q)
        none false = refl
    go (Some x) q h =
        ap (λ n. cond (kept n) (x ∷ kept_calls kept (filter_map f calls)) (kept_calls kept (filter_map f calls)))
        (same y x (inl refl) q) ∙ some (kept y.number)
      where
        some : (b : Bool) → cond b (x ∷ kept_calls kept (filter_map f calls))
            (kept_calls kept (filter_map f calls)) ≡ filter_map f
            (cond b (y ∷ kept_calls kept calls) (kept_calls kept calls))
        some true = ap (λ (cs : List Call). x ∷ cs) h
            ∙ sym (ap (λ (o : Option Call). cons_option o (filter_map f (kept_calls kept calls))) q)
        some false = h

-- each call with one of these numbers has a call of the part with its number
abbrev Covers : (ℕ → Bool) → List Call → List Call → Type 0
Covers kept calls part = (e : Call) → In e calls → kept e.number ≡ true
    → (y : Call) × In y part × (y.number ≡ e.number)

same_filtered : (kept : ℕ → Bool) (keeps : Call → Bool) (calls : List Call) → AreRising calls
    → Covers kept calls (filter keeps calls) → kept_calls kept calls ≡ kept_calls kept (filter keeps calls)
same_filtered kept keeps calls rising covers =
    sym (filter-filter (λ e. kept e.number) keeps calls
    ∙ filter_same (λ e. keeps e && kept e.number) (λ e. kept e.number) calls
    (λ e i. both (keeps e) (kept e.number) (λ q.
    let y = covers e i q in
    let same = one_number (λ (z : Call). z.number) y.0 e calls rising (in_filter keeps y.0 calls y.1) i y.2 in
    ap keeps (sym same) ∙ in_filter_passes keeps y.0 calls y.1)))
  where
    both : (a b : Bool) → (b ≡ true → a ≡ true) → (a && b) ≡ b
    both true b h = refl
    both false true h = h refl
    both false false h = refl

-- an order of calls is one of what becomes of them in a suffix that begins with none of them
later_valid : (kind : Kind) (first : Option (AnyOp × AnyReply)) (at : ℕ) (calls : List Call) (order : List ℤ)
    → IsValidOrder kind calls order → IsValidOrder kind (map (call_later first at) calls) order
later_valid kind first at calls order v =
    let cut : Call → Call = call_later first at in
    record {
      entries = map cut v.entries;
      numbers = v.numbers ∙ numbers v.entries;
      known = all_from_in (Contains (map cut calls)) (map cut v.entries) (λ x i.
          let y = in_map cut x v.entries i in
          let stands = in_from_contains calls y.0 (all_at (Contains calls) v.entries v.known y.0 y.1) in
          contains_from_in (map cut calls) x
          (subst (λ (z : Call). In z (map cut calls)) (sym y.2) (in_map_from cut y.0 calls stands)));
      once = v.once;
      whole = all_from_in (λ (x : Call). IsSome x.returned → Contains (map cut v.entries) x) (map cut calls)
          (λ x i so.
          let y = in_map cut x calls i in
          let stands = in_from_contains v.entries y.0
          (all_at (λ (e : Call). IsSome e.returned → Contains v.entries e) calls v.whole y.0 y.1
          (was y.0 (subst (λ (z : Call). IsSome z.returned) y.2 so))) in
          contains_from_in (map cut v.entries) x
          (subst (λ (z : Call). In z (map cut v.entries)) (sym y.2) (in_map_from cut y.0 v.entries stands)));
      in_order = all_from_pairs (λ x y. ReturnsBefore y x → ⊥) (map cut v.entries)
          (pairs_map (λ x y. ReturnsBefore y x → ⊥) cut v.entries
          (pairs_weaker (λ x y. ReturnsBefore y x → ⊥) (λ x y. ReturnsBefore (cut y) (cut x) → ⊥) v.entries
          (λ x y i k h. in_time_cut (cut x) (cut y) x y (cut_of first at x) (cut_of first at y) h)
          (pairs_from_all (λ x y. ReturnsBefore y x → ⊥) v.entries v.in_order)));
      replies = later_replies first at v.entries (empty kind) v.replies;
    }
  where
    numbers : (es : List Call) → map (λ (e : Call). pos e.number) es ≡ map (λ (e : Call). pos e.number)
        (map (call_later first at) es)
    numbers [] = refl
    numbers (e ∷ es) =
        ap (λ n. pos n ∷ map (λ (e : Call). pos e.number) es) (sym (cut_of first at e).number)
        ∙ ap (λ ns. pos (call_later first at e).number ∷ ns) (numbers es)

    was : (y : Call) → IsSome (call_later first at y).returned → IsSome y.returned
    was y so =
        let r = returned_some (call_later first at y).returned so in
        let u = (cut_of first at y).returned r.0 r.1 in
        subst (λ (o : Option Return). IsSome o) (sym u.1) refl

-- what becomes of each call in a suffix that begins with none of these is the call as a later one
all_later : (from at : ℕ) (first : Option (AnyOp × AnyReply)) (cs : List Call)
    → ((e : Call) → In e cs → call_from from at first e ≡ Some (call_later first at e))
    → filter_map (call_from from at first) cs ≡ map (call_later first at) cs
all_later from at first [] f = refl
all_later from at first (e ∷ cs) f =
    ap (λ (o : Option Call). cons_option o (filter_map (call_from from at first) cs)) (f e (inl refl))
    ∙ ap (λ ds. call_later first at e ∷ ds) (all_later from at first cs (λ y i. f y (inr i)))

-- The calls with these numbers have a valid order, and the part is a suffix that has each of them.
module _ (kind : Kind) (from : ℕ) (calls part : List Call) (kept : ℕ → Bool) (order : List ℤ)
    (are : AreCalls kind calls) (suffix : IsSuffix from calls part) (covers : Covers kept calls part)
    (valid : IsValidOrder kind (kept_calls kept calls) order) where
  abbrev becomes : Call → Option Call
  becomes e = call_from from suffix.at suffix.first e

  in_kept : (e : Call) → In e (kept_calls kept calls) → In e calls
  in_kept e i = in_filter (λ (e : Call). kept e.number) e calls i

  -- what these calls become is what the part has of them
  same_calls : filter_map becomes (kept_calls kept calls) ≡ kept_calls kept part
  same_calls =
      sym (commutes kept becomes calls (λ y x i e. (from_timed from calls part are.rising suffix y x i e).number))
      ∙ ap (kept_calls kept) (sym suffix.named)

  -- where the first call of the suffix is one of these, they have a suffix that begins with it
  begins_there : kept from ≡ true → (o : List ℤ) × IsValidOrder kind (kept_calls kept part) o
  begins_there is_kept =
      let s = suffix.start in
      let start : IsStart (kept_calls kept calls) from suffix.at suffix.first = record {
        call = s.call;
        known =
            contains_from_in (kept_calls kept calls) s.call
            (in_filter_from (λ (e : Call). kept e.number) s.call calls (in_from_contains calls s.call s.known)
            (ap kept s.number ∙ is_kept));
        number = s.number;
        reply = s.reply;
        returned = s.returned;
        told = s.told;
        one_key = all_from_in (λ (e : Call). key_of e.op ≡ key_of s.call.op) (kept_calls kept calls)
            (λ e i. all_at (λ (e : Call). key_of e.op ≡ key_of s.call.op) calls s.one_key e (in_kept e i));
      } in
      let found = start_valid kind (kept_calls kept calls) from suffix.at suffix.first order
      (all_from_in (λ (e : Call). kind_of e.op ≡ kind) (kept_calls kept calls)
      (λ e i. are.kinds e (in_kept e i))) start valid in
      (found.0, subst (λ cs. IsValidOrder kind cs found.0) same_calls found.1)

  -- where the first call of the suffix is none of these, each of them is a later call
  is_later : kept from ≡ false → (e : Call) → In e (kept_calls kept calls)
      → becomes e ≡ Some (call_later suffix.first suffix.at e)
  is_later left_out e i =
      let chosen = in_filter_passes (λ (e : Call). kept e.number) e calls i in
      let y = covers e (in_kept e i) chosen in
      let z = in_filter_map becomes y.0 calls (subst (In y.0) suffix.named y.1) in
      let own = one_number (λ (z : Call). z.number) z.0 e calls are.rising z.1 (in_kept e i)
      (sym (from_timed from calls part are.rising suffix z.0 y.0 z.1 z.2).number ∙ y.2) in
      let made : becomes e ≡ Some y.0 = ap becomes (sym own) ∙ z.2 in
      elim (call_from_cases from suffix.at suffix.first e y.0 made) [
        | inl w ↦ absurd (false_is_not_true
            (sym left_out ∙ ap kept (sym (ap (λ (z : Call). z.number) w.2) ∙ y.2) ∙ chosen))
        | inr w ↦ made ∙ ap (λ (z : Call). Some z) w.1
      ]

  begins_elsewhere : kept from ≡ false → IsValidOrder kind (kept_calls kept part) order
  begins_elsewhere left_out =
      subst (λ cs. IsValidOrder kind cs order)
      (sym (all_later from suffix.at suffix.first (kept_calls kept calls) (is_later left_out)) ∙ same_calls)
      (later_valid kind suffix.first suffix.at (kept_calls kept calls) order valid)

  -- an order of the calls with these numbers gives one of what becomes of them in a suffix
  from_step : (o : List ℤ) × IsValidOrder kind (kept_calls kept part) o
  from_step = elim (true_or_false (kept from)) [
    | inl is_kept ↦ begins_there is_kept
    | inr left_out ↦ (order, begins_elsewhere left_out)
  ]

-- an order of the calls with these numbers gives one of what becomes of them at a cell or an entry
step_at : (place : CellId) (keeps : ℤ → Bool) (other : ℤ) (chosen : ℕ → Bool) (kind : Kind) (calls part : List Call)
    (kept : ℕ → Bool) (order : List ℤ) → part ≡ calls_at place keeps other chosen calls
    → IsValidOrder kind (kept_calls kept calls) order
    → (o : List ℤ) × IsValidOrder (kind_at_cell place kind) (kept_calls kept part) o
step_at place keeps other chosen kind calls part kept order is valid =
    let found = part_valid place kind (kept_calls kept calls) keeps other chosen order valid in
    let same : calls_at place keeps other chosen (kept_calls kept calls) ≡ kept_calls kept part =
    sym (commutes kept (call_at place keeps other chosen) calls
    (λ y x i e. (recast_timed (done_at place keeps other (chosen y.number)) (opened_at place keeps other) y x
    e).number))
    ∙ ap (kept_calls kept) (sym is) in
    (found.0, subst (λ cs. IsValidOrder (kind_at_cell place kind) cs found.0) same found.1)

-- and of what a cut makes of them
step : (cut : Cut) (kind : Kind) (calls part : List Call) (kept : ℕ → Bool) (order : List ℤ) → AreCalls kind calls
    → Names cut calls part
    → Covers kept calls part → IsValidOrder kind (kept_calls kept calls) order
    → (o : List ℤ) × IsValidOrder (kind_after_cut cut kind) (kept_calls kept part) o
step (From number) kind calls part kept order are names covers valid =
    from_step kind number calls part kept order are names covers valid
step (Until number) kind calls part kept order are names covers valid =
    let cut : Call → Option Call = λ y. cond (nat_lt y.number number) (Some (call_before number y)) None in
    let found = prefix_valid kind (kept_calls kept calls) number order
    (all_from_in (λ (e : Call). (r : Return) → e.returned ≡ Some r → e.number < r.at) (kept_calls kept calls)
    (λ e i r q. are.ends e r (in_filter (λ (e : Call). kept e.number) e calls i) q)) valid in
    let same : calls_before number (kept_calls kept calls) ≡ kept_calls kept part =
    sym (filter_map-filter (λ (y : Call). nat_lt y.number number) (call_before number) (kept_calls kept calls))
    ∙ sym (commutes kept cut calls (λ y x i e. number_kept y x (nat_lt y.number number) e))
    ∙ ap (kept_calls kept) (filter_map-filter (λ (y : Call). nat_lt y.number number) (call_before number) calls
    ∙ sym names) in
    (found.0, subst (λ cs. IsValidOrder kind cs found.0) same found.1)
  where
    number_kept : (y x : Call) (b : Bool) → cond b (Some (call_before number y)) None ≡ Some x → x.number ≡ y.number
    number_kept y x true e = ap (λ (z : Call). z.number) (sym (same_Some (call_before number y) x e))
    number_kept y x false e = absurd (cc e)
step (Without value before) kind calls part kept order are names covers valid =
    let q : Call → Bool = λ e. not (is_put_before value before e || is_taken_before value before e) in
    let same = same_filtered kept q calls are.rising
    (λ e i k. let y = covers e i k in (y.0, subst (In y.0) names.1 y.1, y.2)) in
    (order, subst (λ cs. IsValidOrder kind cs order) (same ∙ ap (kept_calls kept) (sym names.1)) valid)
step (Keep values numbers) kind calls part kept order are names covers valid =
    let q : Call → Bool = λ e. keeps_number numbers e.number in
    let same = same_filtered kept q calls are.rising
    (λ e i k. let y = covers e i k in (y.0, subst (In y.0) names.1 y.1, y.2)) in
    (order, subst (λ cs. IsValidOrder kind cs order) (same ∙ ap (kept_calls kept) (sym names.1)) valid)
step (Cell values other numbers) kind calls part kept order are names covers valid =
    step_at OfRegister (keeps_value values) other (keeps_number numbers) kind calls part kept order names valid
step (Entry key values other numbers) kind calls part kept order are names covers valid =
    step_at (OfKey key) (keeps_value values) other (keeps_number numbers) kind calls part kept order names valid

-- ---- cuts

-- each call of a part has the number of a call of the whole
numbers_named : (cuts : List Cut) (kind : Kind) (calls part : List Call) → AreCalls kind calls
    → NamesPart cuts calls part → (x : Call) → In x part → (y : Call) × In y calls × (x.number ≡ y.number)
numbers_named [] kind calls part are h x i = (x, subst (In x) h i, refl)
numbers_named (cut ∷ cuts) kind calls part are h x i =
    let t = timed_named cut calls h.0 are.rising h.1 in
    let z = numbers_named cuts (kind_after_cut cut kind) h.0 part (after_cut cut kind calls h.0 are h.1) h.2 x i in
    let y = in_filter_map t.becomes z.0 calls (subst (In z.0) t.named z.1) in
    (y.0, y.1, z.2 ∙ (t.timed y.0 z.0 y.1 y.2).number)

-- and of what the cuts make of them, one after the other
steps : (cuts : List Cut) (kind : Kind) (calls part : List Call) (kept : ℕ → Bool) (order : List ℤ)
    → AreCalls kind calls → NamesPart cuts calls part
    → Covers kept calls part → IsValidOrder kind (kept_calls kept calls) order
    → (o : List ℤ) × IsValidOrder (kind_after_cuts cuts kind) (kept_calls kept part) o
steps [] kind calls part kept order are names covers valid =
    (order, subst (λ cs. IsValidOrder kind (kept_calls kept cs) order) (sym names) valid)
steps (cut ∷ cuts) kind calls part kept order are names covers valid =
    let next = after_cut cut kind calls names.0 are names.1 in
    let t = timed_named cut calls names.0 are.rising names.1 in
    let first : Covers kept calls names.0 = λ e i q.
    let y = covers e i q in
    let z = numbers_named cuts (kind_after_cut cut kind) names.0 part next names.2 y.0 y.1 in
    (z.0, z.1, sym z.2 ∙ y.2) in
    let rest : Covers kept names.0 part = λ e i q.
    let z = in_filter_map t.becomes e calls (subst (In e) t.named i) in
    let same = (t.timed z.0 e z.1 z.2).number in
    let y = covers z.0 z.1 (ap kept (sym same) ∙ q) in
    (y.0, y.1, y.2 ∙ sym same) in
    let o = step cut kind calls names.0 kept order are names.1 first valid in
    steps cuts (kind_after_cut cut kind) names.0 part kept o.0 next names.2 rest o.1

with_number : (part : List Call) (n : ℕ) → has_number part n ≡ true → (y : Call) × In y part × (y.number ≡ n)
with_number [] n e = absurd (cc e)
with_number (x ∷ part) n e = go (x.number == n) refl e (with_number part n)
  where
    go : (b : Bool) → (x.number == n) ≡ b → (b || has_number part n) ≡ true
        → (has_number part n ≡ true → (y : Call) × In y part × (y.number ≡ n))
        → (y : Call) × In y (x ∷ part) × (y.number ≡ n)
    go true q e f = (x, inl refl, eqb-true x.number n q)
    go false q e f = let y = f e in (y.0, inr y.1, y.2)

has_own : (part : List Call) (y : Call) → In y part → has_number part y.number ≡ true
has_own [] y i = absurd i
has_own (x ∷ part) y i = grind (arith, nat_tests, has_own part y)

pub listed_valid : (cuts : List Cut) (kind : Kind) (calls part : List Call) (order : List ℤ)
    → All (λ e. kind_of e.op ≡ kind) calls → AllPairs (λ a b. a.number < b.number) calls
    → All (λ e. (r : Return) → e.returned ≡ Some r → e.number < r.at) calls → NamesPart cuts calls part
    → IsValidOrder kind (listed part calls) order → (o : List ℤ) × IsValidOrder (kind_after_cuts cuts kind) part o
listed_valid cuts kind calls part order kinds rising ends named v =
    let are : AreCalls kind calls = record {
      rising = pairs_from_all (λ a b. a.number < b.number) calls rising;
      ends = λ e r i q. all_at (λ (e : Call). (r : Return) → e.returned ≡ Some r
          → e.number < r.at) calls ends e i r q;
      kinds = λ e i. all_at (λ (e : Call). kind_of e.op ≡ kind) calls kinds e i;
    } in
    let o = steps cuts kind calls part (has_number part) order are named (λ e i q. with_number part e.number q) v in (
      o.0,
      subst (λ cs. IsValidOrder (kind_after_cuts cuts kind) cs o.0)
          (filter_all (λ (e : Call). has_number part e.number) part (λ e i. has_own part e i)) o.1,
    )
