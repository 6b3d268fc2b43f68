use Rattle.std.proofs.Common.{◌≡◌, ℕ, ◌+◌, ◌<◌, List, [], ◌∷◌, ◌++◌, length, get_or, drop, append_assoc, sym, ap, ◌∙◌}
use Rattle.std.proofs.Common.{arith, decimal}
use Rattle.std.proofs.lemmas.List.{drop_more, drop_all, append-nil}
use Rattle.shards.specs.Dividing.{table_text}
use Rattle.shards.proofs.numbering.table_of.Goals as goal

-- the lines so far and those that are left, with one line more
line_more : (t ns : List ℕ) (i : ℕ) → i < length ns
    → ((t ++ decimal (get_or ns i 0)) ++ 10 ∷ []) ++ table_text (drop (i + 1) ns) ≡ t ++ table_text (drop i ns)
line_more t ns i inside =
    rw (append_assoc, append_assoc) (ap (λ x. t ++ x) (sym (ap table_text (drop_more ns i 0 inside))))

pub loop-number-preserved : goal.loop-number-preserved
loop-number-preserved c =
    let l = c.loop-number in
    rw (c.in_ok-extend_from_slice.ensures.items, c.in_ok-push_natural.ensures, c.from.ensures)
    (line_more l.table.items c.args.numbers.now l.number-index (omega arith) ∙ l.invariant)

pub returns-clause-written : goal.returns-clause-written
returns-clause-written c =
    let l = c.loop-number in
    let d = ap table_text (drop_all l.number-index c.args.numbers.now (omega arith)) in
    sym (append-nil l.table.items) ∙ (ap (λ x. l.table.items ++ x) (sym d) ∙ l.invariant)
