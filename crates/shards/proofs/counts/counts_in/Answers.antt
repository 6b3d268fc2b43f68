-- `counts_in`: of the text of some numbers of maps, what is read are the number of the shards and then these numbers,
-- so such a text is no misfit.
use Rattle.std.proofs.Common.{◌≡◌, ◌∷◌, ◌∙◌, ap, arith, length, sym}
use Rattle.std.proofs.lemmas.List.{take_all}
use Rattle.shards.proofs.CountTables.{of_counts}
use Rattle.shards.proofs.counts.counts_in.Goals as goal

pub returns-in-Err-clause-misfit : goal.returns-in-Err-clause-misfit
returns-in-Err-clause-misfit c misfit counts small few is =
    of_counts (λ ns. ⊥) c.args.text.now (c.in-Err.ensures.misfit misfit) counts small few is

pub returns-then-counts-from-clause-misfit : goal.returns-then-counts-from-clause-misfit
returns-then-counts-from-clause-misfit c misfit counts small few is =
    let read : c.as_slice.result.now ≡ length counts ∷ counts =
    c.as_slice.ensures.value
    ∙ of_counts (λ ns. c.in-Ok.numbers.items ≡ ns) c.args.text.now c.in-Ok.ensures.only counts small few is in
    let from : c.from.result ≡ length counts = rw read at c.from.ensures in
    (rw read at c.if-counts-from.true) (ap length (take_all _ counts (omega arith)) ∙ sym from)
