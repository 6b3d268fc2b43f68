-- The result of a schedule: the machine that its header asks for takes its steps.
use Rattle.std.specs.Prelude.{◌≡◌, ℕ, ◌<◌, true, List}
use Rattle.model.specs.declared.AnyOp.{AnyOp}
use Rattle.model.specs.declared.AnyReply.{AnyReply}
use Rattle.model.specs.declared.Kind.{Kind}
use Rattle.seq_objects.specs.Kinds as mixing
use Rattle.desk_model.specs.World.{World, journal_in}
use Rattle.desk_model.specs.Records.{IsSoundRecord}
use Rattle.recorder.specs.Records.{Recorded}
use Rattle.recorder.specs.Histories.{journals_in, logs_in}
use Rattle.machine.specs.Runs.{start_world, TakesPossible, IsWorldOfRun}
use Rattle.machine.specs.Steps.{steps_in}
use Rattle.simulation.specs.Schedules.{AnyStep}
use Rattle.simulation.specs.declared.header.Header.{Header}

-- the kinds of the objects that a header asks for
abbrev pub header_kinds : Header → List Kind
header_kinds h = mixing.kinds_of h.kinds h.objects

-- the world after the steps that are possible at their turn, with how many are not
abbrev pub Takes : Header → List (ℕ × AnyStep) → ℕ → World → Type 0
Takes h steps refused w =
    TakesPossible (header_kinds h) h.quota (start_world h.clients) (steps_in (λ op. op) steps)
    refused w

-- The steps were taken, all clients have ended, and the record is that of the world of this run; so
-- it is sound.
pub record IsPlayed (h : Header) (steps : List (ℕ × AnyStep)) (refused : ℕ)
    (r : Recorded AnyOp AnyReply) : Type 0 where
  pub world : World
  pub takes : Takes h steps refused world
  pub run : IsWorldOfRun (header_kinds h) h.clients h.quota world
  pub ended : (c : ℕ) → c < h.clients → world.ended c ≡ true
  pub journals : (c : ℕ) → journals_in (λ op. op) (λ reply. reply) r c ≡ journal_in world c
  pub logs : (x : ℕ) → logs_in (λ op. op) (λ reply. reply) r x ≡ world.log x
  pub sound : IsSoundRecord (header_kinds h) h.quota (journals_in (λ op. op) (λ reply. reply) r)
      (logs_in (λ op. op) (λ reply. reply) r)
