use Rattle.std.proofs.Common.{◌≡◌, [], ◌++◌, length, refl, sym, arith}
use Rattle.std.proofs.lemmas.List.{append-nil}
use Rattle.shards.proofs.PiecesDivided.{adds_shards, fault_in}
use Rattle.shards.proofs.split.divide_last.Goals as goal

pub returns-in-Err-clause-fault : goal.returns-in-Err-clause-fault
returns-in-Err-clause-fault g c = λ count text written left h end.
    let p = c.args.pieces.now in
    let is = rw c.text.ensures at (c.in-Err.ensures.fault count h.maps written h.taken) in
    fault_in h p.text.items [] left (sym (append-nil p.text.items)) c.in-Err.fault c.fault_from.result end is
    (λ e. refl) (rw c.start.ensures at c.fault_from.ensures)

pub returns-clause-divided : goal.returns-clause-divided
returns-clause-divided g c = λ count text written files h adds.
    let p = c.args.pieces.now in
    let of = rw c.text.ensures at (c.in-Ok.ensures.taken count h.maps written h.taken) in
    let last = c.flush.new.self in
    let long : length last.waiting.items ≡ last.shards = omega (arith, last.each, last.waiting.ok.0) in
    adds_shards h of (c.in-Ok-flush.ensures.taken count (h.maps ++ of.more) written of.taken) adds
    (c.in-Ok-flush.ensures.none_wait refl) c.in_ok-division.ensures.counts c.in_ok-division.ensures.large long
