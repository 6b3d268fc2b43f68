-- `from`: what is given is the suffix from this call, a part of the history. None means that none begins there. The
-- operations are cut by `operation_from`, and `from_shows` says that these calls are a part.
use Rattle.std.proofs.Common.{refl, List, ap, sym, ◌∙◌, subst}
use Rattle.std.specs.List.{filter_map}
use Rattle.events.specs.declared.operations.Operation.{Operation}
use Rattle.events.specs.Operations.{ObjectCalls, IsObjectHistory, calls_of}
use Rattle.cuts.specs.Parts.{IsStart}
use Rattle.cuts.specs.Cuts.{IsPart}
use Rattle.cuts.specs.CutOperations.{operation_from}
use Rattle.cuts.proofs.CutOperations.{same_history}
use Rattle.cuts.proofs.Later.{from_history, from_calls, from_shows}
use Rattle.cuts.proofs.suffix.suffix_from.Goals as goal

pub new-requires : goal.new-requires
new-requires c =
    let h = c.args.history.now in
    let s = c.in-Some.start in
    let start = subst (λ (os : List Operation). IsStart (calls_of os) c.args.number s.at s.first)
    c.ops-operations.ensures.ops c.in-Some.ensures.some in
    subst IsObjectHistory (sym
    (same_history c.object.ensures c.kind.ensures
    (c.in_ok-ops.ensures ∙ ap (filter_map (operation_from c.args.number s.at s.first)) c.ops-operations.ensures.ops)))
    (from_history h c.args.number s.at s.first c.ops-operations.ensures.kept start)

pub returns-clause-part : goal.returns-clause-part
returns-clause-part c =
    let h = c.args.history.now in
    let s = c.in-Some.start in
    let start = subst (λ (os : List Operation). IsStart (calls_of os) c.args.number s.at s.first)
    c.ops-operations.ensures.ops c.in-Some.ensures.some in
    subst (IsPart h) (sym (c.new.ensures
    ∙ same_history c.object.ensures c.kind.ensures
    (c.in_ok-ops.ensures ∙ ap (filter_map (operation_from c.args.number s.at s.first)) c.ops-operations.ensures.ops)))
    (from_shows h c.args.number s.at s.first c.ops-operations.ensures.kept start)

pub returns-clause-calls : goal.returns-clause-calls
returns-clause-calls c =
    let h = c.args.history.now in
    let s = c.in-Some.start in
    let start = subst (λ (os : List Operation). IsStart (calls_of os) c.args.number s.at s.first)
    c.ops-operations.ensures.ops c.in-Some.ensures.some in
    record {
      at = s.at;
      first = s.first;
      start = start;
      named = ap (λ (z : ObjectCalls). calls_of z.ops) c.new.ensures
          ∙ ap calls_of (c.in_ok-ops.ensures
          ∙ ap (filter_map (operation_from c.args.number s.at s.first)) c.ops-operations.ensures.ops)
          ∙ from_calls c.args.number s.at s.first h.ops;
    }

pub returns-in_default-clause-refused : goal.returns-in_default-clause-refused
returns-in_default-clause-refused c e part named =
    c.in_default.ensures.none refl named.at named.first
    (subst (λ (os : List Operation). IsStart (calls_of os) c.args.number named.at named.first)
    (sym c.ops-operations.ensures.ops) named.start)
