use Rattle.std.proofs.Common.{List, ℕ, ◌∷◌, [], sym, subst, arith, rules}
use Rattle.edn_reader.specs.Datum.{keyword, atom}
use Rattle.edn_reader.specs.Token.{leaf}
use Rattle.edn_reader.specs.Sound.{BeginWith}
use Rattle.edn_reader.proofs.UsualFronts.{head_is, first_here}
use Rattle.history.proofs.usual_map.after_atom.Goals as goal

pub returns-in_ok-rest-in-58 : goal.returns-in_ok-rest-in-58
returns-in_ok-rest-in-58 c =
    let q = head_is c.args.text.now 58 (omega arith) (search rules) in
    let k = c.in_ok-rest-in-58.field-0-0.now in (
      keyword k,
      subst (λ (x : List ℕ). BeginWith (leaf (atom (keyword k)) ∷ []) x c.in_ok-rest-in-58.rest.now) (sym q)
          (first_here _ c.in_ok-rest-in-58.rest.now (leaf (atom (keyword k))) c.in_ok-rest-in-58.ensures),
    )
