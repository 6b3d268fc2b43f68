use Rattle.std.proofs.Common.{ℕ, ◌<◌, ◌≤◌, List, length, sym, subst, arith}
use Rattle.model.proofs.Lists.{all_at, all_from_in}
use Rattle.events.specs.declared.event.Event.{Event}
use Rattle.edn.specs.Fields.{max_object}
use Rattle.recorder.proofs.Making.{is_record}
use Rattle.transcript.specs.Reading.{DenotesEvents, SoundWrittenDenotes, WrittenDenotes}
use Rattle.transcript.proofs.ReadBack.{read_back}
use Rattle.transcript.proofs.laws.written_history_denotes.Goals as goal

written : WrittenDenotes
written objects journals logs r count tickets low text es t h =
    subst (λ (x : List ℕ). DenotesEvents x es) (sym t.text_is)
    (read_back objects journals logs r count tickets low t.lines t.are_lines t.in_profile es h)

sound : SoundWrittenDenotes
sound kinds quota journals logs s low few text es t h =
    let r = is_record kinds quota journals logs s low in
    let on = all_from_in (λ (e : Event). e.object ≤ max_object) r.events
    (λ e i. let l = all_at (λ (e : Event). e.object < length kinds) r.events r.on_objects e i in
    omega (arith, l, few)) in
    written (length kinds) journals logs r s.count s.tickets on text es t h

pub returns : goal.returns
returns c = record { written = written; sound = sound }
