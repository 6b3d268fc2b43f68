use Rattle.std.proofs.Common.{◌∙◌, sym}
use Rattle.events.specs.Operations.{calls_of}
use Rattle.verifying.proofs.Further.{next_decides, open_stays, shown_stays}
use Rattle.verifying.proofs.all.decide_further.Goals as goal

pub returns-then-is_shown : goal.returns-then-is_shown
returns-then-is_shown c = λ claims h.
    let o = c.args.history.now in
    shown_stays claims c.args.claim c.args.limit o.object o.kind (calls_of o.ops) c.args.earlier
    (sym c.is_shown.ensures ∙ c.if-is_shown.true) h

pub returns-then-is_open : goal.returns-then-is_open
returns-then-is_open c = λ claims h.
    let o = c.args.history.now in
    open_stays claims c.args.claim c.args.limit o.object o.kind (calls_of o.ops) c.args.earlier c.in_ok-next.next
    (sym c.is_open.ensures ∙ c.if-is_open.true) c.in_ok-next.ensures h

pub returns : goal.returns
returns c = λ claims h.
    let o = c.args.history.now in
    next_decides claims c.args.claim c.args.limit o.object o.kind (calls_of o.ops) c.args.earlier c.in_ok-next.next
    (sym c.is_shown.ensures ∙ c.if-is_shown.false)
    (sym c.is_open.ensures ∙ c.if-is_open.false) c.requires c.in_ok-next.ensures h
