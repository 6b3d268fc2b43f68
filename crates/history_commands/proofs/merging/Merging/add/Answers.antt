use Rattle.std.proofs.Common.{◌≡◌, ◌++◌, ap, ◌∙◌}
use Rattle.std.proofs.lemmas.List.{map-append}
use Rattle.std.proofs.lemmas.Result.{on_ok_weaker}
use Rattle.history_commands.specs.Merged.{answer_seen, seen_lines}
use Rattle.history_commands.specs.declared.object_lines.ObjectLines.{ObjectLines}
use Rattle.history_commands.proofs.Merged.{merged_push}
use Rattle.history_commands.proofs.merging.Merging.add.Goals as goal

pub returns : goal.returns
returns c =
    let kept = c.args.self.now in
    let more = c.args.answer in
    let notes : c.extend_from_slice.new.self.items ≡ kept.notes.items ++ more.note.items =
    c.in_ok-extend_from_slice.ensures.items ∙ ap (λ t. kept.notes.items ++ t) c.deref.ensures.value in
    let lines : seen_lines c.append.new.self.items ≡ seen_lines kept.lines.items ++ seen_lines more.lines.items =
    ap seen_lines c.in_ok-append.ensures.items
    ∙ map-append (λ (l : ObjectLines). (l.object, l.text.items)) kept.lines.items more.lines.items in
    on_ok_weaker c.add.result
    (λ counts shards shard h own. merged_push kept _ shards shard (answer_seen more) h own c.worse-self.ensures notes
    lines
    counts) c.add.ensures
