use Rattle.std.proofs.Common.{List, length, map, None, ap, ◌∙◌}
use Rattle.report.specs.Counts.{first_seen, same_kind}
use Rattle.report.specs.Invoked.{operation_count, object_numbers, kind_count}
use Rattle.report.specs.declared.counting.Invoked.{Invoked}
use Rattle.report.proofs.Uses.{operations_are, objects_are, counts_are}
use Rattle.report.proofs.counting.summary_of_invoked.Goals as goal

pub returns : goal.returns
returns c = λ es is. record {
  operations = c.count_operations.ensures ∙ ap (operation_count None) is ∙ operations_are es;
  objects = c.in_ok-count_objects.ensures ∙ ap (λ xs. length (object_numbers None xs)) is ∙ ap length (objects_are es);
  kinds = c.in_ok-list_of.ensures ∙ c.in_ok-counts.ensures
      ∙ ap (λ (xs : List Invoked). map (kind_count xs) (first_seen same_kind (map (λ (i : Invoked). i.kind) xs))) is
      ∙ counts_are es;
}
