-- If the text of a history could not be read, a command says so and nothing else.
use Rattle.std.proofs.Common.{ℕ, List}
use Rattle.reading.specs.declared.text_failure.TextFailure.{TextFailure}
use Rattle.reading.specs.declared.text_failure.TextFailure.TheVariants.{Faulty, NoMemory}
use Rattle.reading.specs.Texts.{IsHistoryFault}
use Rattle.report.specs.Verdicts.{verdict_of}
use Rattle.history_commands.specs.Searches.{IsHistoryUnread}

-- what stops the reading of a history stops a command on it
pub stops : (h : List ℕ) (s : TextFailure) → IsHistoryFault h s → IsHistoryUnread h (verdict_of s)
stops h (Faulty f) k = k
stops h NoMemory k = tt
