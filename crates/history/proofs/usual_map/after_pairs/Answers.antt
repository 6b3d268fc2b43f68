use Rattle.history.specs.UsualForms.{keys_to_index}
use Rattle.history.proofs.UsualForms.{none_last}
use Rattle.history.proofs.usual_map.after_pairs.Goals as goal

pub returns-in-Some : goal.returns-in-Some
returns-in-Some c = none_last keys_to_index c.args.text.now c.in-Some.rest.now c.in-Some.ensures
