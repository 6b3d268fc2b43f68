use Rattle.std.proofs.Common.{replicate, refl}
use Rattle.publication_list.proofs.RosterMaking.{opening_keeps_rule, zeros}
use Rattle.publication_list.proofs.roster.Roster.new.Goals as goal

pub of_words-requires : goal.of_words-requires
of_words-requires c = opening_keeps_rule (replicate 65 0) refl (zeros 65)
