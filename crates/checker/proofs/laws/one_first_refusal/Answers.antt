use Rattle.checker.proofs.OneRefusal.{one_refusal, one_answer}
use Rattle.checker.proofs.laws.one_first_refusal.Goals as goal

pub returns : goal.returns
returns c = record { refusal = one_refusal; answer = one_answer }
