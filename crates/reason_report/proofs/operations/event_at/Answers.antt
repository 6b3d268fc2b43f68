use Rattle.std.proofs.Common.{rules}
use Rattle.std.proofs.lemmas.List.Sorted.{answers_always}
use Rattle.reason_report.proofs.EventsFound.{found_here, none_here, search_rises}
use Rattle.reason_report.proofs.operations.event_at.Goals as goal

pub returns-in_default : goal.returns-in_default
returns-in_default c =
    let by_number = c.in_default.ensures.position (λ e. e.number)
    (answers_always _ _ _ (λ f a r g called. search rules)) in
    none_here c.args.events.now c.args.number c.in_default.field-0
    (by_number (search_rises c.args.events.now c.args.number c.requires.rising))

pub returns : goal.returns
returns c =
    let by_number = c.in-Ok.ensures.position (λ e. e.number) (answers_always _ _ _ (λ f a r g called. search rules)) in
    found_here c.args.events.now c.args.number c.in-Ok.place _ c.requires.rising c.in-Ok.ensures.bound (by_number _)
