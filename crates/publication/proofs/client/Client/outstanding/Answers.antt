use Rattle.std.proofs.Common.{ℕ, ap, subst}
use Rattle.desk_invariant.specs.declared.board.DeskView.{DeskView}
use Rattle.desk_invariant.specs.Views.{seen_of, IsAccount}
use Rattle.desk_model.specs.World.{kind_at, IsLegalLog}
use Rattle.publication.specs.Handles.{Known}
use Rattle.publication.proofs.client.Client.outstanding.Goals as goal

pub returns-clause-accounts : goal.returns-clause-accounts
returns-clause-accounts g c =
    let k = c.self.invariant.0.agrees in
    subst (λ (v : DeskView). (x : ℕ) → IsAccount x v (seen_of v x)) (ap (λ k. k.knows) c.self.view_is) k.accounts

pub returns-clause-legal : goal.returns-clause-legal
returns-clause-legal g c =
    let k = c.self.invariant.0.agrees in
    subst (λ (k : Known). (x : ℕ) → IsLegalLog (kind_at k.desk.kinds x) (seen_of k.knows x)) c.self.view_is k.legal
