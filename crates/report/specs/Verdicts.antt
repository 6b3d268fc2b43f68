-- The verdict on a check of certificates, and if a text could not be read.
use Rattle.std.specs.Prelude.{◌≡◌, ◌≢◌, ⊤, List, Result, Ok, Err}
use Rattle.events.specs.declared.event.Event.{Event}
use Rattle.checker.specs.declared.refusal.Refusal.{Refusal}
use Rattle.checker.specs.declared.refusal.Refusal.TheVariants as refusal
use Rattle.report.specs.Counts.{AreCountsOf}
use Rattle.reading.specs.declared.text_failure.TextFailure.{TextFailure}
use Rattle.reading.specs.declared.text_failure.TextFailure.TheVariants as stopped
use Rattle.report.specs.declared.verdict.Verdict.{Verdict}
use Rattle.report.specs.declared.verdict.Verdict.TheVariants.{Yes, No, Malformed, NoMemory}

-- The verdict if the certificates of these client events were checked with this result: yes with
-- the counts of the events, or no with the refusal. The verdict is `NoMemory` for the refusal of
-- that name, and if an allocation for the counts failed.
abbrev pub IsVerdictOnCheck : List Event → Result Unit Refusal → Verdict → Type 0
IsVerdictOnCheck es (Ok u) (Yes s) = AreCountsOf es s
IsVerdictOnCheck es (Ok u) (No r) = ⊥
IsVerdictOnCheck es (Ok u) (Malformed f) = ⊥
IsVerdictOnCheck es (Ok u) NoMemory = ⊤
IsVerdictOnCheck es (Err e) (Yes s) = ⊥
IsVerdictOnCheck es (Err e) (No r) = (r ≡ e) × (e ≢ refusal.NoMemory)
IsVerdictOnCheck es (Err e) (Malformed f) = ⊥
IsVerdictOnCheck es (Err e) NoMemory = e ≡ refusal.NoMemory

-- the verdict if a text could not be read
abbrev pub verdict_of : TextFailure → Verdict
verdict_of (stopped.Faulty f) = Malformed f
verdict_of stopped.NoMemory = NoMemory
