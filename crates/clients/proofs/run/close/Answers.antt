use Rattle.std.proofs.Common.{◌≢◌}
use Rattle.std.proofs.lemmas.List.Elements.{All-contains}
use Rattle.desk_invariant.specs.declared.board.Leaving.{Leaving}
use Rattle.clients.proofs.run.close.Goals as goal

-- who is still there was not told of, and each other client was
pub unreachable-requires : goal.unreachable-requires
unreachable-requires c =
    let k = c.in-Err.ensures.unretired.3 in
    let t = c.requires.told c.in-Err.field-0.client k.client_low k.other in
    All-contains (λ (l : Leaving). l.client ≢ c.in-Err.field-0.client) c.args.last.knows.left t.0 k.untold t.1 t.2
