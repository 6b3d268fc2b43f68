-- The file that was read is that of the schedule.
use Rattle.command_line.proofs.reading.bench_line.Goals as goal

pub returns-in_ok-file_of-in-simulate : goal.returns-in_ok-file_of-in-simulate
returns-in_ok-file_of-in-simulate c = rw c.in-Some.is (c.in-simulate.is, c.in_ok-file_of-in-simulate.ensures.is)
