use Rattle.std.proofs.Common.{codes, refl}
use Rattle.std.proofs.lemmas.Option.{IfSome_then}
use Rattle.edn_reader.specs.Bytes.{is_name}
use Rattle.history.specs.UsualForms.{keys_to_time}
use Rattle.history.proofs.UsualForms.{other_pair, fewer_keys}
use Rattle.history.proofs.usual_map.after_index.Goals as goal

pub returns-in_default : goal.returns-in_default
returns-in_default c = IfSome_then c.after_pairs.result c.after_pairs.ensures
    (λ x h. fewer_keys (codes "index") keys_to_time c.args.text.now 0 x.now h)

pub returns : goal.returns
unfolding is_name
returns c = IfSome_then c.after_pairs-2.result c.after_pairs-2.ensures
    (λ x h. other_pair (codes "index") keys_to_time c.in_ok-rest.field-0-0 c.args.text.now c.in-Some.rest.now
    c.in_ok-rest.rest.now x.now refl refl (refl, (refl, (refl, (refl, (refl, (refl, tt)))))) c.in-Some.ensures
    c.in_ok-rest.ensures h)
