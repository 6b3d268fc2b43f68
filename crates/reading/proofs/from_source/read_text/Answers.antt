-- `read_text`: the bytes are what the source gives, to its end or to the limit. The loop keeps that the bytes so
-- far and the rest are all that there was (`IsReading`), and a piece is never longer than the room up to the limit.
use Rattle.std.proofs.Common.{length, drop, sym, subst, ◌∙◌, ◌<◌, arith}
use Rattle.reading.specs.Reads.{read_limit}
use Rattle.reading.proofs.ReadSoFar.{begins, next_piece, came_to_end, came_to_limit}
use Rattle.reading.proofs.from_source.read_text.Goals as goal

pub loop-buffer-init : goal.loop-buffer-init
loop-buffer-init g c =
    let some = subst (λ n. 0 < n) (sym c.in_ok-buffer.ensures.len) (omega arith) in
    begins read_limit (g.S.Source.remaining c.args.source.now) c.new-bytes.result.items c.in_ok-buffer.buffer.len
    (g.S.Source.broken c.args.source.now) c.new-bytes.ensures.items some c.requires

pub returns-then-given-eq0-clause-read : goal.returns-then-given-eq0-clause-read
returns-then-given-eq0-clause-read g c =
    let l = c.loop-buffer in
    let seen = c.len-in-loop-buffer.ensures ∙ l.bytes.ok.0 in
    let below = subst (λ n. n < read_limit) (c.len.ensures
    ∙ sym c.len-in-loop-buffer.ensures) c.loop-buffer-test.true in
    came_to_end read_limit (g.S.Source.remaining c.args.source.now) (g.S.Source.remaining l.source)
    (g.S.Source.remaining c.get.new.self) l.bytes.items c.get.new.buf
    c.len-in-loop-buffer.result l.buffer.len c.in_ok-given.given c.truncate.new.self.len (g.S.Source.broken l.source)
    l.invariant seen below c.truncate.ensures.len
    (c.get.auto.buf ∙ c.deref_mut.ensures.len) c.if-given-eq0.true c.in_ok-given.ensures.gives

pub loop-buffer-preserved : goal.loop-buffer-preserved
loop-buffer-preserved g c =
    let l = c.loop-buffer in
    let seen = c.len-in-loop-buffer.ensures ∙ l.bytes.ok.0 in
    let below = subst (λ n. n < read_limit) (c.len.ensures
    ∙ sym c.len-in-loop-buffer.ensures) c.loop-buffer-test.true in
    next_piece read_limit (g.S.Source.remaining c.args.source.now) (g.S.Source.remaining l.source)
    (g.S.Source.remaining c.get.new.self)
    l.bytes.items c.extend_from_slice.new.self.items c.get.new.buf
    (drop (length c.get.new.buf) c.truncate.new.self.items) c.deref.result.now c.len-in-loop-buffer.result
    l.buffer.len c.in_ok-given.given
    c.truncate.new.self.len (g.S.Source.broken l.source) (g.S.Source.broken c.get.new.self)
    l.invariant seen below c.truncate.ensures.len
    (c.get.auto.buf ∙ c.deref_mut.ensures.len) c.in_ok-given.ensures.within c.in_ok-given.ensures.gives
    c.deref.ensures.value c.in_ok-extend_from_slice.ensures.items c.in_ok-given.ensures.usable

pub returns-clause-read : goal.returns-clause-read
returns-clause-read g c =
    let l = c.loop-buffer in
    came_to_limit read_limit (g.S.Source.remaining c.args.source.now)
    (g.S.Source.remaining l.source) l.bytes.items c.len.result l.buffer.len
    (g.S.Source.broken l.source) l.invariant (c.len.ensures ∙ l.bytes.ok.0) c.loop-buffer-test.false
