use Rattle.std.proofs.Common.{sym}
use Rattle.publication_list.proofs.Rows.{word_at_in, word_at_past}
use Rattle.publication_list.proofs.walker.word_to.Goals as goal

pub returns-then-at-rows : goal.returns-then-at-rows
returns-then-at-rows c = sym (word_at_in _ _ c.if-at-rows.true)

pub returns-else-at-rows : goal.returns-else-at-rows
returns-else-at-rows c = sym (word_at_past _ _ c.if-at-rows.false)
