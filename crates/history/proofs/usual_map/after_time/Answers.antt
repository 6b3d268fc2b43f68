use Rattle.std.proofs.Common.{codes, refl}
use Rattle.std.proofs.lemmas.Option.{IfSome_then}
use Rattle.edn_reader.specs.Bytes.{is_name}
use Rattle.history.specs.UsualForms.{keys_to_object}
use Rattle.history.proofs.UsualForms.{other_pair}
use Rattle.history.proofs.usual_map.after_time.Goals as goal

pub returns : goal.returns
unfolding is_name
returns c = IfSome_then c.after_index-2.result c.after_index-2.ensures
    (λ x h. other_pair (codes "time") keys_to_object c.in_ok-rest.field-0-0 c.args.text.now c.in-Some.rest.now
    c.in_ok-rest.rest.now x.now refl refl (refl, (refl, (refl, (refl, (refl, tt))))) c.in-Some.ensures
    c.in_ok-rest.ensures h)
