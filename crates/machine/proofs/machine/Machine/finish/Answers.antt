use Rattle.machine.proofs.Recording.{journals_are, logs_are, is_sound, is_record_in}
use Rattle.machine.proofs.machine.Machine.finish.Goals as goal

pub returns-in-None-clause-journals : goal.returns-in-None-clause-journals
returns-in-None-clause-journals g c = journals_are _ _ _ c.self.inside c.self.invariant c.self.view_is c.new.ensures

pub returns-in-None-clause-logs : goal.returns-in-None-clause-logs
returns-in-None-clause-logs g c = logs_are _ _ _ c.self.inside c.self.invariant c.self.view_is c.new.ensures

pub returns-in-None-clause-sound : goal.returns-in-None-clause-sound
returns-in-None-clause-sound g c = is_sound _ _ _ c.self.inside c.self.invariant c.self.view_is c.new.ensures

pub new-requires-clause-kept : goal.new-requires-clause-kept
new-requires-clause-kept g c _ _ = is_record_in _ _ _ c.self.inside c.self.invariant
