-- `apply`: the reply and the new table are those of the model's `next`. There is one law of `Tables` for each
-- operation; integers of 64 bits stay the same when they are read back.
use Rattle.std.specs.Option.{option_eq}
use Rattle.std.proofs.Common.{ap, sym, refl, not, int_eq, Some, ◌∙◌, ◌≡◌, rules, to_z, of_z, w64}
use Rattle.model.specs.Objects.{next, table, contains_value, has_value, is_absent}
use Rattle.seq_objects.specs.Operations.{map_op}
use Rattle.seq_objects.proofs.Tables.{next-put, next-get, next-del, next_if_so, next_if_not, absent-at_key}
use Rattle.seq_objects.proofs.Tables.{has-at_key, contains-eq, next-assoc, next-dissoc}
use Rattle.seq_objects.proofs.Tables.{same_put, same_put_if_absent, same_replace, same_assoc}
use Rattle.seq_objects.proofs.map_object.MapObjectSeqObject.apply.Goals as goal

pub returns-in_ok-insert-in-Put-clause-ok : goal.returns-in_ok-insert-in-Put-clause-ok
returns-in_ok-insert-in-Put-clause-ok c =
    let h = c.in_ok-insert-in-Put.ensures in
    let key : c.in-Put.key ≡ to_z w64 (of_z w64 c.in-Put.key) = search rules in
    let value : c.in-Put.value ≡ to_z w64 (of_z w64 c.in-Put.value) = search rules in
    ap (λ op. next (table c.args.self.now) (map_op op)) (c.in-Put.is ∙ same_put _ _ _ _ key value)
    ∙ next-put _ _ _ _ _ _ c.self.view_is c.self.invariant h.ordered h.updates.0 h.old

pub returns-in-Get-clause-ok : goal.returns-in-Get-clause-ok
returns-in-Get-clause-ok c =
    ap (λ op. next (table c.args.self.now) (map_op op)) c.in-Get.is
    ∙ next-get _ _ _ _ c.self.view_is c.self.invariant (c.copied.ensures ∙ c.get.ensures.value)

pub returns-in-Del-clause-ok : goal.returns-in-Del-clause-ok
returns-in-Del-clause-ok c =
    let h = c.remove.ensures in
    ap (λ op. next (table c.args.self.now) (map_op op)) c.in-Del.is
    ∙ next-del _ _ _ _ _ c.self.view_is c.self.invariant h.ordered h.updates.0 h.value

pub returns-in_ok-insert-in-PutIfAbsent-clause-ok : goal.returns-in_ok-insert-in-PutIfAbsent-clause-ok
returns-in_ok-insert-in-PutIfAbsent-clause-ok c =
    let h = c.in_ok-insert-in-PutIfAbsent.ensures in
    let key : c.in-PutIfAbsent.key ≡ to_z w64 (of_z w64 c.in-PutIfAbsent.key) = search rules in
    let value : c.in-PutIfAbsent.value ≡ to_z w64 (of_z w64 c.in-PutIfAbsent.value) = search rules in
    ap (λ op. next (table c.args.self.now) (map_op op)) (c.in-PutIfAbsent.is ∙ same_put_if_absent _ _ _ _ key value)
    ∙ next_if_so _ _ _ _ _ _ _ c.self.view_is c.self.invariant h.ordered h.updates.0
    (ap (is_absent c.args.self.now) (sym key)
    ∙ absent-at_key _ _ c.in-PutIfAbsent.key c.self.view_is c.self.invariant
    ∙ ap not (sym c.contains_key-is_absent.ensures)) (ap not c.if-is_absent.true)

pub returns-else-is_absent-clause-ok : goal.returns-else-is_absent-clause-ok
returns-else-is_absent-clause-ok c =
    ap (λ op. next (table c.args.self.now) (map_op op)) c.in-PutIfAbsent.is
    ∙ next_if_not _ _ _ _ _ (absent-at_key _ _ c.in-PutIfAbsent.key c.self.view_is c.self.invariant
    ∙ ap not (sym c.contains_key-is_absent.ensures)) (ap not c.if-is_absent.false)

pub returns-in_ok-insert-in-Replace-clause-ok : goal.returns-in_ok-insert-in-Replace-clause-ok
returns-in_ok-insert-in-Replace-clause-ok c =
    let h = c.in_ok-insert-in-Replace.ensures in
    let key : c.in-Replace.key ≡ to_z w64 (of_z w64 c.in-Replace.key) = search rules in
    let new : c.in-Replace.new ≡ to_z w64 (of_z w64 c.in-Replace.new) = search rules in
    let expected : c.in-Replace.expected ≡ to_z w64 (of_z w64 c.in-Replace.expected) = search rules in
    ap (λ op. next (table c.args.self.now) (map_op op)) (c.in-Replace.is ∙ same_replace _ _ _ _ _ _ key refl new)
    ∙ next_if_so _ _ _ _ _ _ _ c.self.view_is c.self.invariant h.ordered h.updates.0
    (ap (λ k. has_value c.args.self.now k c.in-Replace.expected) (sym key)
    ∙ has-at_key _ _ c.in-Replace.key c.in-Replace.expected c.self.view_is c.self.invariant
    ∙ ap (λ o. contains_value o c.in-Replace.expected) (sym (c.copied-in-Replace.ensures
    ∙ c.get-in-Replace.ensures.value))
    ∙ contains-eq c.copied-in-Replace.result c.in-Replace.expected
    ∙ ap (λ a. option_eq int_eq c.copied-in-Replace.result (Some a)) expected
    ∙ sym c.eq-is_expected.ensures) c.if-is_expected.true

pub returns-else-is_expected-clause-ok : goal.returns-else-is_expected-clause-ok
returns-else-is_expected-clause-ok c =
    let expected : c.in-Replace.expected ≡ to_z w64 (of_z w64 c.in-Replace.expected) = search rules in
    ap (λ op. next (table c.args.self.now) (map_op op)) c.in-Replace.is
    ∙ next_if_not _ _ _ _ _ (has-at_key _ _ c.in-Replace.key c.in-Replace.expected c.self.view_is c.self.invariant
    ∙ ap (λ o. contains_value o c.in-Replace.expected) (sym (c.copied-in-Replace.ensures
    ∙ c.get-in-Replace.ensures.value))
    ∙ contains-eq c.copied-in-Replace.result c.in-Replace.expected
    ∙ ap (λ a. option_eq int_eq c.copied-in-Replace.result (Some a)) expected
    ∙ sym c.eq-is_expected.ensures) c.if-is_expected.false

pub returns-in_ok-insert-in-Assoc-clause-ok : goal.returns-in_ok-insert-in-Assoc-clause-ok
returns-in_ok-insert-in-Assoc-clause-ok c =
    let h = c.in_ok-insert-in-Assoc.ensures in
    let key : c.in-Assoc.key ≡ to_z w64 (of_z w64 c.in-Assoc.key) = search rules in
    let value : c.in-Assoc.value ≡ to_z w64 (of_z w64 c.in-Assoc.value) = search rules in
    ap (λ op. next (table c.args.self.now) (map_op op)) (c.in-Assoc.is ∙ same_assoc _ _ _ _ key value)
    ∙ next-assoc _ _ _ _ _ c.self.view_is c.self.invariant h.ordered h.updates.0

pub returns-in-Dissoc-clause-ok : goal.returns-in-Dissoc-clause-ok
returns-in-Dissoc-clause-ok c =
    let h = c.remove-in-Dissoc.ensures in
    ap (λ op. next (table c.args.self.now) (map_op op)) c.in-Dissoc.is
    ∙ next-dissoc _ _ _ _ c.self.view_is c.self.invariant h.ordered h.updates.0
