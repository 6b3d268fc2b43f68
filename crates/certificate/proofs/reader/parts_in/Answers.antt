-- `parts_in`: the parts are the object and the order of the certificate, or the form is no certificate. It is the
-- value of `:object`, then that of `:order`, and `both_keys` says what the two of them make.
use Rattle.std.proofs.Common.{◌≡◌, Some, None, option_map, sym, ap, ◌∙◌}
use Rattle.std.specs.Prelude.{codes}
use Rattle.edn_reader.specs.Datum.{entries_of, items_of}
use Rattle.edn_reader.specs.View.{view, views, pair_views}
use Rattle.edn_reader.proofs.Pairs.{map_view}
use Rattle.edn.specs.Fields.{value_at}
use Rattle.edn_reader.specs.Truncation.{integers_in}
use Rattle.certificate.proofs.Reading.{no_object, both_keys}
use Rattle.certificate.proofs.reader.parts_in.Goals as goal

pub returns-in_default-object_number-clause-none : goal.returns-in_default-object_number-clause-none
returns-in_default-object_number-clause-none c =
    let es = c.in-Map.entries.items in
    let there : option_map (λ f. view f.now) c.value_at.result
    ≡ value_at (codes "object") (entries_of (pair_views es)) =
    c.value_at.ensures ∙ ap (λ xs. value_at (codes "object") (entries_of (pair_views xs))) c.deref.ensures.value in
    rw (c.in-Map.is, map_view)
    (sym (no_object (entries_of (pair_views es)) _ c.natural-number.result there c.natural-number.ensures
    (sym c.in_default-object_number.is ∙ c.object_number.ensures)))

pub returns-in_default-order_in-clause-none : goal.returns-in_default-order_in-clause-none
returns-in_default-order_in-clause-none c =
    let es = c.in-Map.entries.items in
    let there : option_map (λ f. view f.now) c.value_at.result
    ≡ value_at (codes "object") (entries_of (pair_views es)) =
    c.value_at.ensures ∙ ap (λ xs. value_at (codes "object") (entries_of (pair_views xs))) c.deref.ensures.value in
    let order : option_map (λ f. view f.now) c.value_at-2.result
    ≡ value_at (codes "order") (entries_of (pair_views es)) = c.value_at-2.ensures
    ∙ ap (λ xs. value_at (codes "order") (entries_of (pair_views xs))) c.deref-2.ensures.value in
    rw (c.in-Map.is, map_view) (sym
    (both_keys (entries_of (pair_views es)) _ _ c.natural-number.result
    (Some c.in-Some.object) None there c.natural-number.ensures
    (sym c.in-Some.is ∙ c.object_number.ensures) order (sym c.in_default-order_in.ensures.none)))

pub returns-clause-some : goal.returns-clause-some
returns-clause-some c =
    let es = c.in-Map.entries.items in
    let there : option_map (λ f. view f.now) c.value_at.result
    ≡ value_at (codes "object") (entries_of (pair_views es)) =
    c.value_at.ensures ∙ ap (λ xs. value_at (codes "object") (entries_of (pair_views xs))) c.deref.ensures.value in
    let order : option_map (λ f. view f.now) c.value_at-2.result
    ≡ value_at (codes "order") (entries_of (pair_views es)) = c.value_at-2.ensures
    ∙ ap (λ xs. value_at (codes "order") (entries_of (pair_views xs))) c.deref-2.ensures.value in
    rw (c.in-Map.is, map_view) (sym
    (both_keys (entries_of (pair_views es)) _ _ c.natural-number.result (Some c.in-Some.object)
    (integers_in (items_of (views c.in-Some-order_in.forms.now))) there c.natural-number.ensures
    (sym c.in-Some.is ∙ c.object_number.ensures) order (sym c.in-Some-order_in.ensures.some)))
