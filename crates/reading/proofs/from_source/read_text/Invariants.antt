use Rattle.std.proofs.Common.{◌-◌, length}
use Rattle.reading.specs.Reads.{read_limit}
use Rattle.reading.proofs.ReadSoFar.{IsReading}
use Rattle.reading.proofs.from_source.read_text.Given as goal

abbrev pub invariant-loop-buffer : goal.invariant-loop-buffer
invariant-loop-buffer g l = IsReading read_limit (g.S.Source.remaining l.initial.source)
    (g.S.Source.remaining l.source) l.bytes.items l.buffer.len (g.S.Source.broken l.source)

abbrev pub decreases-loop-buffer : goal.decreases-loop-buffer
decreases-loop-buffer g l = read_limit - length l.bytes.items
