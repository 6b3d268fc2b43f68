-- `put_node`: the value is in a tree of its own, apart from the heap, and the bag of values has one more of it. It
-- goes into a free node (`IsApart-reuse`) or into a new one at the end (`IsApart-push`).
use Rattle.std.proofs.Common.{◌≡◌, Some, slice_get, w64, ap, ◌∙◌}
use Rattle.std.proofs.lemmas.Int.{to_z-of_z}
use Rattle.pairing_heap.specs.declared.node.Node.TheVariants.{Free}
use Rattle.model.specs.Objects.{with_value}
use Rattle.pairing_heap.specs.Bag.{bag_of}
use Rattle.pairing_heap.specs.Forest.{values_in_use}
use Rattle.pairing_heap.proofs.Bags.{bag_of-used, bag_of-push}
use Rattle.pairing_heap.proofs.InsertAndExtract.{IsApart-push, IsApart-reuse}
use Rattle.pairing_heap.proofs.node.put_node.Goals as goal

pub returns-in-Some-clause-apart : goal.returns-in-Some-clause-apart
returns-in-Some-clause-apart c root len h =
    let read : slice_get c.args.nodes.now.items c.in-Some.place ≡ Some (Free c.next_free-rest.result) =
    rw c.deref.ensures.value at c.next_free-rest.ensures in
    rw (to_z-of_z w64 c.args.value c.ranges.value)
    (IsApart-reuse h c.args.value c.in-Some.place c.next_free-rest.result c.in-Some.is read)

pub returns-in-Some-clause-bag : goal.returns-in-Some-clause-bag
returns-in-Some-clause-bag c =
    let read : slice_get c.args.nodes.now.items c.in-Some.place ≡ Some (Free c.next_free-rest.result) =
    rw c.deref.ensures.value at c.next_free-rest.ensures in
    bag_of-used c.args.nodes.now.items c.in-Some.place _ (c.next_free-rest.result, read)
    ∙ ap (λ v. with_value v (bag_of (values_in_use c.args.nodes.now.items))) (to_z-of_z w64 c.args.value c.ranges.value)

pub returns-clause-apart : goal.returns-clause-apart
returns-clause-apart c root len h =
    rw (
      c.in_ok-push.ensures.items,
      c.len-place.ensures,
      to_z-of_z w64 c.args.value c.ranges.value,
      c.args.nodes.now.ok.0,
    ) (IsApart-push h c.args.value c.in_default.is)

pub returns-clause-bag : goal.returns-clause-bag
returns-clause-bag c =
    ap (λ ns. bag_of (values_in_use ns)) (c.in_ok-push.ensures.items)
    ∙ bag_of-push c.args.nodes.now.items _
    ∙ ap (λ v. with_value v (bag_of (values_in_use c.args.nodes.now.items))) (to_z-of_z w64 c.args.value c.ranges.value)
