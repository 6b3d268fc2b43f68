use Rattle.edn.proofs.Finding.{found_here, passed_over}
use Rattle.edn.proofs.fields.value_at.Goals as goal

pub returns-then-same_bytes : goal.returns-then-same_bytes
returns-then-same_bytes c =
    found_here c.args.key.now c.args.entries.now c.loop-entry.entry-index c.entry-item.result c.loop-entry-test.true
    c.entry-item.is c.loop-entry.invariant c.as_bytes.result.now c.as_bytes.ensures.text c.if-same_bytes.ensures

pub loop-entry-preserved : goal.loop-entry-preserved
loop-entry-preserved c =
    passed_over c.args.key.now c.args.entries.now c.loop-entry.entry-index c.entry-item.result c.loop-entry-test.true
    c.entry-item.is c.loop-entry.invariant c.as_bytes.result.now c.as_bytes.ensures.text c.if-same_bytes.ensures
