use Rattle.std.proofs.Common.{sym, ◌∙◌}
use Rattle.publication.proofs.CallClauses.{can_says}
use Rattle.desk_model.proofs.SameKind.{kind_replayed}
use Rattle.publication.proofs.client.Hand.possible.Goals as goal

pub can_do-requires-after_bounds : goal.can_do-requires-after_bounds
can_do-requires-after_bounds g c = λ κs bounds. let h = c.self.invariant.0 in
    h.of_kind ∙ sym (kind_replayed _ _ _ h.fits.1)

pub returns : goal.returns
returns g c = can_says c.args.self.now _ _ _ (sym c.self.view_is) c.self.invariant.0.fits.1 c.can_do.ensures
