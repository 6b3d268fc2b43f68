use Rattle.locality.proofs.PendingAnswers.{well_formed_iff_answers_pending}
use Rattle.locality.proofs.completion_in_words.Goals as goal

pub returns : goal.returns
returns c = well_formed_iff_answers_pending
