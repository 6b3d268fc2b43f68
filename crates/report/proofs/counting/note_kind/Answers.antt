use Rattle.std.proofs.Common.{◌∙◌, ◌++◌, ◌∷◌, [], cond, map, ap, sym}
use Rattle.std.specs.Map.{keys_of, values_of}
use Rattle.indexmap.specs.IndexMap.{keys}
use Rattle.report.specs.Invoked.{kind_count}
use Rattle.report.proofs.KindsCounted.{key_last, counts_on}
use Rattle.report.proofs.counting.note_kind.Goals as goal

pub returns-clause-kinds : goal.returns-clause-kinds
returns-clause-kinds c =
    let before = c.args.counts.now in
    let none = sym c.is_among.ensures ∙ c.if-is_among.false in
    ap keys_of c.in_ok-insert.ensures.entries ∙ key_last
    (kind_count c.args.all.now) before.entries c.args.kind c.in_ok-count_kind.field-0 none
    ∙ sym (ap (λ b. cond b (keys before) (keys before ++ c.args.kind ∷ [])) none)

pub returns-clause-counted : goal.returns-clause-counted
returns-clause-counted c = λ counted.
    let before = c.args.counts.now in
    let count = kind_count c.args.all.now in
    let none = sym c.is_among.ensures ∙ c.if-is_among.false in
    let entries = c.in_ok-insert.ensures.entries in
    ap values_of entries
    ∙ counts_on count before.entries c.args.kind c.in_ok-count_kind.field-0 none c.in_ok-count_kind.ensures
    counted ∙ sym (ap (λ es. map count (keys_of es)) entries)
