use Rattle.std.proofs.Common.{◌≡◌, List, ℕ, OnOk, append_assoc, refl, subst, w64}
use Rattle.std.proofs.lemmas.Int.{to_z-of_z}
use Rattle.reason_report.proofs.segments.push_triple.Goals as goal

pub returns : goal.returns
returns c =
    subst (λ (l : List ℕ). OnOk c.push_last.result (c.push_last.new.text.items ≡ l))
    (simp (
      c.in_ok-extend_from_slice-2.ensures.items,
      c.in_ok-push_integer.ensures,
      c.in_ok-extend_from_slice.ensures.items,
      to_z-of_z w64 c.args.a c.ranges.a,
      to_z-of_z w64 c.args.b c.ranges.b,
      to_z-of_z w64 c.args.c c.ranges.c,
      append_assoc,
    ) refl) c.push_last.ensures
