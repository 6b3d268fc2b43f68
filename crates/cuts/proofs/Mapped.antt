-- What becomes of each call of an order can be done in turn, if each step of the whole gives a step of the part
-- (`picked`). By induction along the order; so the part has a valid order (`mapped_valid`).
use Rattle.std.proofs.Common.{◌≡◌, ◌≢◌, ◌⊎◌, inl, inr, ℤ, pos, Bool, true, false, List, [], ◌∷◌, Option, Some, None}
use Rattle.std.proofs.Common.{IfSome, IsSome, is_some, map, Contains, refl, ap, sym, ◌∙◌}
use Rattle.std.specs.List.{filter_map, cons_option}
use Rattle.model.specs.declared.Kind.{Kind}
use Rattle.model.specs.declared.AnyReply.{AnyReply}
use Rattle.model.specs.Objects.{Content, empty, next}
use Rattle.model.specs.Orders.{Call, Return, ReturnsBefore, RepliesAlong, IsValidOrder}
use Rattle.model.specs.Lists.{In}
use Rattle.model.proofs.Lists.{contains_from_in, all_from_in, all_from_pairs, pairs_map}
use Rattle.cuts.proofs.Ordered.{in_calls, in_entries, named_apart, in_time_order}
use Rattle.cuts.proofs.Simulation.{pick, in_pick, pairs_pick}
use Rattle.cuts.proofs.Sequences.{in_filter_map, in_filter_map_from, pairs_filter_map}
use Rattle.cuts.proofs.Overlaps.{IsTimed, in_time}
use Rattle.cuts.proofs.Booleans.{false_is_not_true}

-- The step in the part, where the whole comes to `after`: a call that the part leaves out, or a pending one, may be no
-- step.
abbrev pub StepOf : (Content → Content → Type 0) → Option Call → Content → Content → Type 0
StepOf R None d after = R after d
StepOf R (Some f) d after = ((f.returned ≡ None) × R after d)
    ⊎ ((behind : Content) × (reply : AnyReply) × (next d f.op ≡ Some (behind, reply))
    × IfSome f.returned (λ r. r.reply ≡ reply) × R after behind)

pub record Maps (R : Content → Content → Type 0) (cut : Call → Option Call) : Type 0 where
  pub own : (y x : Call) → cut y ≡ Some x → IsTimed x y
  -- the part follows a step of the whole
  pub step : (call : Call) (whole part after : Content) (reply : AnyReply) → R whole part
      → next whole call.op ≡ Some (after, reply) → IfSome call.returned (λ r. r.reply ≡ reply)
      → StepOf R (cut call) part after

record Picked (d : Content) (xs : List Call) : Type 0 where
  flags : List Bool
  replies : RepliesAlong d (pick flags xs)
  whole : (x : Call) → In x xs → IsSome x.returned → In x (pick flags xs)

picked : (R : Content → Content → Type 0) (cut : Call → Option Call) → Maps R cut → (es : List Call) (c d : Content)
    → R c d → RepliesAlong c es → Picked d (filter_map cut es)
picked R cut m [] c d r h = record { flags = []; replies = tt; whole = λ x i so. absurd i }
picked R cut m (e ∷ es) c d r h = go (λ b s. picked R cut m es h.0 b s h.4) (cut e) (m.step e c d h.0 h.1 r h.2 h.3)
  where
    go : ((b : Content) → R h.0 b → Picked b (filter_map cut es)) → (o : Option Call) → StepOf R o d h.0
        → Picked d (cons_option o (filter_map cut es))
    go again None s = again d s
    go again (Some f) s = elim s [
      | inl skip ↦
          let rest = again d skip.1 in
          record {
            flags = false ∷ rest.flags;
            replies = rest.replies;
            whole = λ x i so. elim i [
              | inl q ↦ absurd (let none = ap (λ (z : Call). z.returned) q ∙ skip.0 in cc (none, so))
              | inr j ↦ rest.whole x j so
            ];
          }
      | inr take ↦
          let rest = again take.0 take.4 in
          record {
            flags = true ∷ rest.flags;
            replies = (take.0, take.1, take.2, take.3, rest.replies);
            whole = λ x i so. elim i [ inl q ↦ inl q | inr j ↦ inr (rest.whole x j so) ];
          }
    ]

-- what becomes of the calls has a valid order where they have one, maybe as calls of another kind
pub mapped_valid : (R : Content → Content → Type 0) (cut : Call → Option Call) (calls : List Call) (kind into : Kind)
    → Maps R cut
    → R (empty kind) (empty into) → (order : List ℤ) → IsValidOrder kind calls order
    → (part : List ℤ) × IsValidOrder into (filter_map cut calls) part
mapped_valid R cut calls kind into m start order v =
    let number : Call → ℤ = λ e. pos e.number in
    let p = picked R cut m v.entries (empty kind) (empty into) start v.replies in
    let all : List Call = filter_map cut v.entries in
    let entries : List Call = pick p.flags all in (
      map number entries,
      record {
        entries = entries;
        numbers = refl;
        known = all_from_in (Contains (filter_map cut calls)) entries (λ x i.
            let y = in_filter_map cut x v.entries (in_pick p.flags all x i) in
            contains_from_in (filter_map cut calls) x (in_filter_map_from cut y.0 x calls (in_calls v y.0 y.1) y.2));
        once = all_from_pairs (λ x y. x ≢ y) (map number entries)
            (pairs_map (λ x y. x ≢ y) number entries
            (pairs_pick (λ x y. number x ≢ number y) p.flags all
            (pairs_filter_map (λ x y. number x ≢ number y) (λ x y. number x ≢ number y) cut v.entries
            (λ x y a b i j ne f g q. ne (ap pos (sym (m.own x a f).number) ∙ q ∙ ap pos (m.own y b g).number))
            (named_apart v))));
        whole = all_from_in (λ x. IsSome x.returned → Contains entries x) (filter_map cut calls) (λ x i so.
            let y = in_filter_map cut x calls i in
            let here = in_entries v y.0 y.1 (was x.returned y.0.returned (m.own y.0 x y.2).returned so) in
            contains_from_in entries x (p.whole x (in_filter_map_from cut y.0 x v.entries here y.2) so));
        in_order = all_from_pairs (λ x y. ReturnsBefore y x → ⊥) entries
            (pairs_pick (λ x y. ReturnsBefore y x → ⊥) p.flags all
            (pairs_filter_map (λ x y. ReturnsBefore y x → ⊥) (λ x y. ReturnsBefore y x → ⊥) cut v.entries
            (λ x y a b i j h f g. in_time a b x y (m.own x a f) (m.own y b g) h) (in_time_order v)));
        replies = p.replies;
      },
    )
  where
    was : (a b : Option Return) → ((t : Return) → a ≡ Some t → (u : Return) × (b ≡ Some u) × (u.at ≡ t.at)) → IsSome a
        → IsSome b
    was None b f so = absurd (false_is_not_true so)
    was (Some t) b f so = ap is_some (f t refl).1
