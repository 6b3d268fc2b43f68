use Rattle.std.proofs.Common.{sym, subst}
use Rattle.events.specs.Events.{kind_of_object, denoted, IsProper}
use Rattle.events.proofs.WellFormed.{denoted_is_history}
use Rattle.history.proofs.Proper.{proper_events}
use Rattle.text_check.proofs.Naming.{orders}
use Rattle.text_check.proofs.laws.valid_certificates_suffice.Goals as goal

pub returns : goal.returns
returns c text es cs d valid =
    let proper = subst IsProper (sym d.denoted.events) (proper_events d.forms d.denoted.faultless) in
    record {
      client_events = es;
      history_text = d;
      linearizable = c.named_objects.ensures (kind_of_object es) (denoted es) (denoted_is_history es proper)
          (orders es cs valid);
    }
