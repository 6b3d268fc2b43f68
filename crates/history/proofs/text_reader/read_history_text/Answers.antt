-- `read_history_text`: the text spells maps that denote the history, or has the fault. The loop keeps that the text
-- is the forms read so far and then what is left (`Along`), and what is left gets shorter.
use Rattle.edn_reader.proofs.FormsInARow.{along_more, along_spells, sound_after, unreadable_after}
use Rattle.history.specs.MapReading.{left_in, start_of_map}
use Rattle.history.specs.Texts.{IsHistoryReading}
use Rattle.history.proofs.text_reader.read_history_text.Goals as goal

pub forms-preserved : goal.forms-preserved
forms-preserved c =
    let read = rw c.in-Ok-Some.field-0-is at c.in-Ok-Some.ensures.reads in
    record {
      along = along_more (IsHistoryReading c.forms.reading) (IsHistoryReading c.take.new.self) c.args.text.now
          (left_in c.forms.maps) (left_in c.advance.new.self)
          (start_of_map c.forms.maps) (start_of_map c.advance.new.self) read.form read.front
          c.in-Ok-Some.ensures.moves
          (λ ds h. c.take.ensures ds read.form read.says h) c.forms.invariant.along;
      short = c.forms.invariant.short;
      utf8 = c.forms.invariant.utf8;
    }

pub returns-in-Ok-finish-clause-denotes : goal.returns-in-Ok-finish-clause-denotes
returns-in-Ok-finish-clause-denotes c =
    let a = c.forms.invariant.along in
    let n = rw c.in-Ok-None.field-0-is at c.in-Ok-None.ensures.reads in (
      a.forms,
      along_spells (IsHistoryReading c.forms.reading) c.args.text.now (left_in c.forms.maps)
          (start_of_map c.forms.maps) a n,
      c.in-Ok-finish.ensures a.forms a.holds,
    )

pub returns-in-Err-finish-clause-fault : goal.returns-in-Err-finish-clause-fault
returns-in-Err-finish-clause-fault c =
    let a = c.forms.invariant.along in
    let n = rw c.in-Ok-None.field-0-is at c.in-Ok-None.ensures.reads in (
      c.forms.invariant.short,
      a.forms,
      along_spells (IsHistoryReading c.forms.reading) c.args.text.now (left_in c.forms.maps) (start_of_map c.forms.maps)
          a n,
      c.in-Err-finish.ensures a.forms a.holds,
    )

pub returns-in-Err-advance-clause-fault : goal.returns-in-Err-advance-clause-fault
returns-in-Err-advance-clause-fault c =
    let a = c.forms.invariant.along in
    let e = c.in-Err-advance.ensures in (
      unreadable_after (IsHistoryReading c.forms.reading) c.args.text.now (left_in c.forms.maps)
          (start_of_map c.forms.maps) c.in-Err-advance.fault c.forms.invariant.short a e.short e.none,
      λ m. (
        c.forms.invariant.short,
        sound_after c.args.text.now (left_in c.forms.maps) a.forms (start_of_map c.forms.maps)
            c.in-Err-advance.fault.place c.forms.invariant.utf8 a.front a.place (e.memory m),
      ),
    )
