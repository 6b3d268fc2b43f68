-- `read`: the text grows by what the source gives, until it is as long as wanted or the source ends. The loop keeps
-- that the bytes added are those that the source has given (`IsMore`), and that it has not ended.
use Rattle.std.proofs.Common.{◌<◌, drop, length, refl, sym, ◌∙◌, subst, arith}
use Rattle.shards.proofs.ReadingOn.{no_more, some_more, came_to_end}
use Rattle.shards.proofs.pieces.Pieces.read.Goals as goal

pub loop-self-init : goal.loop-self-init
loop-self-init g c = record {
  more = no_more (g.F.Source.remaining c.args.source.now) c.args.self.now.text.items;
  start = refl;
  wanted = refl;
  going = c.requires.going;
  usable = c.requires.source;
  room = subst (λ n. 0 < n) (sym c.in_ok-buffer.ensures.len) (omega arith);
}

pub returns-then-given-eq0-clause-read : goal.returns-then-given-eq0-clause-read
returns-then-given-eq0-clause-read g c =
    let l = c.loop-self in
    let gave = c.in-Ok.ensures.gives in
    let none = c.if-given-eq0.true in
    let long = c.get.auto.buf ∙ c.deref_mut.ensures.len in
    let read = came_to_end l.invariant.more gave none in
    record {
      more = read.more;
      consumed = read.consumed;
      text = read.grown;
      start = l.invariant.start;
      ended = λ _. gave.ended none (subst (λ n. 0 < n) (sym long) l.invariant.room);
    }

pub loop-self-preserved : goal.loop-self-preserved
loop-self-preserved g c =
    let l = c.loop-self in
    record {
      more = some_more c.extend_from_slice.new.self.items (drop (length c.get.new.buf) l.buffer.items)
          c.deref.result.now l.buffer.len l.invariant.more (c.get.auto.buf ∙ c.deref_mut.ensures.len)
          c.deref.ensures.value
          c.in-Ok.ensures.gives c.in_ok-extend_from_slice.ensures.items;
      start = l.invariant.start;
      wanted = l.invariant.wanted;
      going = l.invariant.going;
      usable = c.in-Ok.ensures.usable;
      room = l.invariant.room;
    }
