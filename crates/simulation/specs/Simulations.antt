-- What the text of a schedule gives.
use Rattle.std.specs.Prelude.{◌≡◌, ◌≢◌, ◌⊎◌, ⊤, ℕ, ◌<◌, true, false, List}
use Rattle.model.specs.declared.AnyOp.{AnyOp}
use Rattle.model.specs.declared.AnyReply.{AnyReply}
use Rattle.edn_reader.specs.Datum.{Datum}
use Rattle.edn_reader.specs.Sound.{IsShort, IsSoundAt, IsUnreadable}
use Rattle.edn_reader.specs.Spells.{Spells}
use Rattle.edn_reader.specs.declared.fault.EdnFault.{EdnFault}
use Rattle.edn_reader.specs.declared.fault.FaultKind.TheVariants as edn_kind
use Rattle.desk_model.specs.World.{World}
use Rattle.recorder.specs.Records.{Recorded}
use Rattle.machine.specs.Runs.{IsWorldOfRun}
use Rattle.simulation.specs.Schedules.{AnyStep, Denotes}
use Rattle.simulation.specs.Faults.{IsFirstFault, IsSoundTo}
use Rattle.simulation.specs.declared.header.Header.{Header}
use Rattle.simulation.specs.declared.fault.ScheduleFault.{ScheduleFault}
use Rattle.simulation.specs.declared.fault.ScheduleFaultKind.TheVariants as form_kind
use Rattle.simulation.specs.Plays.{IsPlayed, Takes, header_kinds}
use Rattle.simulation.specs.declared.playing.PlayFault.{PlayFault}
use Rattle.simulation.specs.declared.playing.PlayFault.TheVariants as play
use Rattle.simulation.specs.declared.simulating.SimulationFault.{SimulationFault}
use Rattle.simulation.specs.declared.simulating.SimulationFault.TheVariants.{Text, Form, NotEnded}
use Rattle.simulation.specs.declared.simulating.SimulationFault.TheVariants.{NoMemory}

-- the text spells forms that denote a header and steps
pub record DenotesSchedule (text : List ℕ) (header : Header) (steps : List (ℕ × AnyStep)) : Type 0
  where
    pub forms : List Datum
    pub spelled : Spells forms text
    pub denoted : Denotes forms header steps

-- The text denotes a schedule. The machine that it asks for took the steps that were possible at
-- their turn, and this is how many were not; all clients have ended, and the record is that of its
-- world.
pub record IsSimulated (text : List ℕ) (refused : ℕ) (r : Recorded AnyOp AnyReply) : Type 0 where
  pub header : Header
  pub steps : List (ℕ × AnyStep)
  pub denoted : DenotesSchedule text header steps
  pub played : IsPlayed header steps refused r

-- After the steps this client has not ended, and each before it has.
pub record IsGoingOn (h : Header) (steps : List (ℕ × AnyStep)) (client : ℕ) : Type 0 where
  pub world : World
  pub refused : ℕ
  pub takes : Takes h steps refused world
  pub run : IsWorldOfRun (header_kinds h) h.clients h.quota world
  pub there : client < h.clients
  pub going : world.ended client ≡ false
  pub earlier : (d : ℕ) → d < client → world.ended d ≡ true

-- why the steps have no record, except if an allocation failed
abbrev pub IsPlayFault : Header → List (ℕ × AnyStep) → PlayFault → Type 0
IsPlayFault h steps (play.NotEnded c) = IsGoingOn h steps c
IsPlayFault h steps play.NoMemory = ⊤

-- the text denotes some schedule
abbrev pub IsSchedule : List ℕ → Type 0
IsSchedule text = (h : Header) × (steps : List (ℕ × AnyStep)) × DenotesSchedule text h steps

-- Nothing is wrong with the text as far as it was looked at: up to a token and with it, or, if
-- it spells forms, up to one of them and with it; or it denotes a schedule.
abbrev pub IsScheduleSound : List ℕ → Type 0
IsScheduleSound text =
    IsShort text
    × (((place : ℕ) × IsSoundAt place text)
    ⊎ ((ds : List Datum) × Spells ds text × (form : ℕ) × IsSoundTo ds form) ⊎ IsSchedule text)

-- Why there is no record: the text is too long, or spells nothing; it spells forms of which this is
-- the first fault; it denotes a schedule after which this client has not ended; or an
-- allocation failed, and nothing was wrong before.
abbrev pub IsSimulationFault : List ℕ → SimulationFault → Type 0
IsSimulationFault text (Text e) = IsUnreadable text e
IsSimulationFault text (Form f) =
    IsShort text × (f.kind ≢ form_kind.NoMemory) × (ds : List Datum) × Spells ds text
    × IsFirstFault ds f
IsSimulationFault text (NotEnded c) =
    IsShort text × (h : Header) × (steps : List (ℕ × AnyStep)) × DenotesSchedule text h steps
    × IsGoingOn h steps c
IsSimulationFault text NoMemory = IsScheduleSound text

-- nothing is wrong with the text
abbrev pub IsOfSteps : SimulationFault → Type 0
IsOfSteps (Text e) = ⊥
IsOfSteps (Form f) = ⊥
IsOfSteps (NotEnded c) = ⊤
IsOfSteps NoMemory = ⊤

-- the fault of the simulation if the text has this fault
abbrev pub IsScheduleTextFault : EdnFault → SimulationFault → Type 0
IsScheduleTextFault e (Text g) = (g ≡ e) × (e.kind ≢ edn_kind.NoMemory)
IsScheduleTextFault e (Form f) = ⊥
IsScheduleTextFault e (NotEnded c) = ⊥
IsScheduleTextFault e NoMemory = e.kind ≡ edn_kind.NoMemory

-- the fault of the simulation if the forms have this fault
abbrev pub IsFormFault : ScheduleFault → SimulationFault → Type 0
IsFormFault f (Text e) = ⊥
IsFormFault f (Form g) = (g ≡ f) × (f.kind ≢ form_kind.NoMemory)
IsFormFault f (NotEnded c) = ⊥
IsFormFault f NoMemory = f.kind ≡ form_kind.NoMemory
