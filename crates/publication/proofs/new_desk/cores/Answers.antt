-- `cores`: the slots hold the objects in order, each with an empty log and its own publication list. In each turn
-- the first of the lists that are left is that of the next object.
use Rattle.std.proofs.Common.{rules, arith, ◌≡◌, ◌+◌, ◌<◌, ◌∷◌, ◌++◌, [], length, length-append, append_assoc}
use Rattle.std.proofs.Common.{vec_len, refl, sym, ap, subst, ◌∙◌}
use mathlib.Core.Option.{some}
use lib.ListN.{get_elem?}
use Rattle.std.specs.Vec.Iter.{into_iter_items}
use Rattle.publication.specs.Making.{AreCores, rosters_of}
use Rattle.publication.proofs.Dealing.{walker_there, walkers_left}
use Rattle.publication.proofs.Growing.{all_of, cores_more}
use Rattle.publication.proofs.new_desk.cores.Goals as goal

pub loop-object-preserved : goal.loop-object-preserved
loop-object-preserved g c =
    let i = c.loop-object.invariant in
    let o = c.in-Some.object in
    let ys = c.loop-object.yielded in
    let p = c.push_reserved.ensures in
    let s = c.in-Some.ensures.steps in
    let all = c.args.lists.items in
    let ws = c.loop-object.lists.items in
    let have = i.5 in
    let count = i.1 in
    let long_ws = c.loop-object.lists.ok.0 in
    let rest = s.1 in
    let few = c.requires.0 in
    let left : 0 < length ws = omega arith in
    let list = walker_there all ws c.loop-object.slots.len
    (length ys) c.remove.result left c.remove.ensures.value i.2 i.7 in
    let k = c.in_ok-inside.inside.value in
    let is = c.in_ok-inside.ensures.ok in
    let long : length (ys ++ o ∷ []) ≡ length ys + 1 = length-append ys (o ∷ []) in
    let n = p.len in
    let same = i.2 in (
      i.0 ∙ (ap (λ z. ys ++ z) s.0 ∙ sym (append_assoc ys (o ∷ []) (into_iter_items c.next.new.self))),
      omega (arith, i.1, s.1),
      omega arith,
      search rules,
      search rules,
      omega (arith, c.remove.ensures.len, i.5),
      cores_more (rosters_of all) ys
          (ys ++ o ∷ []) c.loop-object.slots.items c.push_reserved.new.self.items o k refl p.items (i.3 ∙ sym i.2)
          (ap (λ z. z.object) is) (ap (λ z. z.log.items) is ∙ c.new-log.ensures.items)
          (list ∙ ap (λ z. some z.list.roster) (sym is)) i.6,
      walkers_left all ws c.remove.new.self.items c.loop-object.slots.len c.push_reserved.new.self.len left
          c.remove.ensures.items n i.7,
    )

pub returns : goal.returns
returns g c =
    let i = c.loop-object.invariant in
    let s = c.in-None.ensures.steps in
    let z = s.0 in
    let count = i.1 in
    let n = i.2 in
    let all = all_of c.args.objects.items c.loop-object.yielded (into_iter_items c.loop-object.object-iterator) i.0
    (omega arith) in (
      omega arith,
      i.4,
      subst (λ os. AreCores os (rosters_of c.args.lists.items) c.loop-object.slots.items)
          (sym all) i.6,
    )

pub loop-object-init : goal.loop-object-init
loop-object-init g c =
    let none : vec_len c.in_ok-slots.slots ≡ 0 = c.in_ok-slots.slots.ok.0 ∙ ap length c.in_ok-slots.ensures.items in
    let long = c.in_ok-slots.slots.ok.0 in
    let w = c.requires.1 in (
      search rules,
      search rules,
      omega arith,
      omega arith,
      search rules,
      omega arith,
      (λ x o e. absurd (cc)),
      λ j. ap (get_elem? (rosters_of c.args.lists.items)) (omega arith),
    )
