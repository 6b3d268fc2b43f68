-- `new_with_places`: each owner has one place more, on the new roster and with its own row. The loop takes the last
-- place first, and keeps that the owners from there on have theirs and those before are as they were (`one_grown`).
use Rattle.std.proofs.Common.{arith, ◌≡◌, length, get_or, set, sym, ap, ◌∙◌, subst}
use Rattle.publication_list.specs.Calls.{AreRowPlaces}
use Rattle.publication_list.specs.Dealing.{AreGrown}
use Rattle.publication_list.proofs.Dealt.{long, popped, none_grown, all_grown, still_room, one_grown}
use Rattle.publication_list.proofs.roster.Roster.new_with_places.Goals as goal

pub loop-place-init : goal.loop-place-init
loop-place-init c =
    let e = c.in_ok-roster.ensures in
    let k = e.places in
    let n = c.len.ensures in
    let m = long c.args.owners.now in
    let count = k.0 in
    let same : length c.in_ok-roster.places.items ≡ length c.args.owners.now.items = omega arith in
    let id = sym (ap (λ r. r.id) c.in_ok-shared.ensures.ok) in (
      subst (λ z. AreRowPlaces z (length c.in_ok-roster.places.items) c.in_ok-roster.places.items) id
          (subst (λ z. AreRowPlaces c.in_ok-roster.roster.id z c.in_ok-roster.places.items) (sym count) k),
      omega arith,
      none_grown _ _ _ same,
    )

pub index_mut-requires : goal.index_mut-requires
index_mut-requires c =
    let i = c.loop-place.invariant in
    let p = popped _ _ _ _ _ i.0 c.in-Some.ensures.items in
    omega (arith, p.2, c.len-in-Some.ensures, long c.pop.new.self, long c.loop-place.owners, i.1, i.2.0)

pub push_reserved-requires : goal.push_reserved-requires
push_reserved-requires c =
    let i = c.loop-place.invariant in
    let p = popped _ _ _ _ _ i.0 c.in-Some.ensures.items in
    let n = p.2 in
    let at = c.len-in-Some.ensures ∙ long c.pop.new.self in
    let few = i.1 in
    still_room _ c.len-in-Some.result _ _ _ _ c.requires.room i.2 (omega arith) (omega arith) c.index_mut.ensures.value

pub loop-place-preserved : goal.loop-place-preserved
loop-place-preserved c =
    let i = c.loop-place.invariant in
    let p = popped _ _ _ _ _ i.0 c.in-Some.ensures.items in
    let n = p.2 in
    let at = c.len-in-Some.ensures ∙ long c.pop.new.self in
    let few = i.1 in
    let q = c.push_reserved.ensures in (
      p.0,
      omega arith,
      one_grown _ _ _ _ _ _ c.index_mut.result.now c.push_reserved.new.self _ i.2 n (omega arith)
          (c.index_mut.ensures.value ∙ ap (λ z. get_or c.loop-place.owners.items z c.index_mut.result.now) at)
          (ap (λ z. set c.loop-place.owners.items z c.push_reserved.new.self) at) p.1 q.items q.capacity q.len,
    )

pub returns-clause-grown : goal.returns-clause-grown
returns-clause-grown c =
    let none = c.in_default.ensures.cases in
    let a = long c.loop-place.places in
    let id = ap (λ r. r.id) (sym c.in_ok-try_clone.ensures) in
    subst (λ z. AreGrown z c.args.owners.now.items c.loop-place.owners.items) id
    (all_grown _ (length c.loop-place.places.items) _ _ (omega arith) c.loop-place.invariant.2)

pub invariant_of-push_reserved : goal.invariant_of-push_reserved
invariant_of-push_reserved c =
    let p = popped _ _ _ _ _ c.loop-place.invariant.0 c.in-Some.ensures.items in
    ap (λ z. z.roster) p.1 ∙ ap (λ r. r.id) (sym c.in_ok-roster-2.ensures)
