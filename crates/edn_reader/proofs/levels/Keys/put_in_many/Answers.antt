use Rattle.std.proofs.Common.{ap, sym, ◌∙◌}
use Rattle.std.proofs.lemmas.Option.{same_Some}
use Rattle.edn_reader.proofs.Known.{names_with, views_with}
use Rattle.edn_reader.specs.NameSets.{contains_name}
use Rattle.edn_reader.proofs.levels.Keys.put_in_many.Goals as goal

pub invariant_of-self-2 : goal.invariant_of-self-2
invariant_of-self-2 c =
    record {
      known = λ s e k. ap (λ t. contains_name t.value k) (sym (same_Some _ s e))
          ∙ names_with c.deref_mut.result.now c.insert.new.self _ _ _ c.in_ok-insert.ensures.updates
          (λ l. ap (λ z. contains_name z l) c.deref_mut.ensures.value ∙ c.requires l)
          (views_with _ _ _ c.in_ok-push.ensures.items) k;
    }
