use Rattle.history.proofs.UsualForms.{usual_is}
use Rattle.history.proofs.usual_map.process_first.Goals as goal

pub returns : goal.returns
returns c =
    usual_is c.requires c.after_line_feed.ensures
    (record { from = c.in_ok-after.field-0.now; leads = c.in_ok-after.ensures; reads = c.in_ok-process.ensures })
    (record { from = c.in_ok-after-2.field-0.now; leads = c.in_ok-after-2.ensures; reads = c.in_ok-map_type.ensures })
    (record { from = c.in_ok-after-3.field-0.now; leads = c.in_ok-after-3.ensures; reads = c.in_ok-function.ensures })
    (record { from = c.in_ok-after-4.field-0.now; leads = c.in_ok-after-4.ensures; reads = c.in_ok-value.ensures })
    c.in_ok-object.ensures
