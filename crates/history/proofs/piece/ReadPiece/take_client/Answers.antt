use Rattle.std.proofs.Common.{◌+◌, refl, sym}
use Rattle.history.specs.declared.piece.ReadPiece.{ReadPiece}
use Rattle.history.proofs.PieceMore.{part_more, pushed}
use Rattle.history.proofs.piece.ReadPiece.take_client.Goals as goal

pub returns : goal.returns
returns c = λ ds d says h.
    let old = c.args.self.now in
    let m = c.args.m.now in
    let f = c.in_ok-function.function in
    let a = c.in_ok-action.action in
    let new : ReadPiece = record {
      seen = record { processes = c.note_process.new.processes; kinds = c.note_object.new.kinds };
      firsts = c.note_process.new.firsts;
      objects = c.note_object.new.objects;
      maps = old.maps + 1;
      events = c.push.new.self;
    } in
    part_more old new ds d m says.0 f a says.1 c.in_ok-function.was (sym (c.in_ok-action.ensures says.0 says.2))
    c.in_ok-note_process.ensures c.in_ok-note_object.ensures h refl
    (pushed c.push.result c.in_ok-ok.field-0 c.push.new.self.items _ old.events.items c.in_ok-ok.ensures.value
    c.push.ensures.items) c.if-is_great.ensures
