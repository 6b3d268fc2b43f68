-- Which words ask for which line.
use Rattle.std.specs.Prelude.{◌≡◌, ◌≢◌, ◌⊎◌, ◌≤◌, [], ⊤, ℕ, Bool, false, List, codes, Option, Some}
use Rattle.std.specs.Prelude.{None, IsSomeAnd, Result, MatchResult}
use Rattle.std.specs.Str.{bytes_eq}
use Rattle.clap.specs.Faults.{fault_of}
use Rattle.clap.specs.Kinds.{IsAmong}
use Rattle.clap.specs.Matches.{found_of}
use Rattle.clap.specs.Simple.{App, subcommand_of}
use Rattle.clap.specs.Walk.{Row, Text, first_of, rows_of}
use Rattle.clap.specs.declared.parser.matches.ArgMatches.{ArgMatches}
use Rattle.clap.specs.declared.error.kind.ErrorKind.{ErrorKind}
use Rattle.clap.specs.declared.error.kind.ErrorKind.TheVariants.{DisplayHelp, DisplayVersion}
use Rattle.clap.specs.declared.error.kind.ErrorKind.TheVariants.{OutOfMemory}
use Rattle.std.specs.String.{string_bytes}
use Rattle.std.specs.Str.Parse.{IsNumeral, digits_value, without_leading_plus}
use Rattle.order_search.specs.declared.trials.TryFirst.{TryFirst}
use Rattle.order_search.specs.declared.trials.TryFirst.TheVariants.{LeastNumber, LeastReturn}
use Rattle.seq_objects.specs.declared.kinds.Kinds.{Kinds}
use Rattle.seq_objects.specs.Kinds.{default_kinds, kinds_named}
use Rattle.command_line.specs.declared.line_fault.LineFault.{LineFault}
use Rattle.command_line.specs.declared.line_fault.LineFault.TheVariants.{Help, Refused, NoMemory}
use Rattle.command_line.specs.declared.lines.CheckLine.{CheckLine}
use Rattle.command_line.specs.declared.lines.FilesLine.{FilesLine}
use Rattle.command_line.specs.declared.lines.FilesLine.TheVariants.{Check, Search, Refute, Verify}
use Rattle.command_line.specs.declared.lines.FolderLine.{FolderLine}
use Rattle.command_line.specs.declared.lines.FolderLine.TheVariants.{Split, Merge}
use Rattle.command_line.specs.declared.lines.HistoryLine.{HistoryLine}
use Rattle.command_line.specs.declared.lines.HistoryLine.TheVariants.{OnFiles, OnFolder}
use Rattle.command_line.specs.declared.lines.Line.{Line}
use Rattle.command_line.specs.declared.lines.Line.TheVariants as bench
use Rattle.command_line.specs.declared.lines.RefuteLine.{RefuteLine}
use Rattle.command_line.specs.declared.lines.RunOptions.{RunOptions}
use Rattle.command_line.specs.declared.lines.SearchLine.{SearchLine}
use Rattle.command_line.specs.declared.lines.SplitLine.{SplitLine}
use Rattle.command_line.specs.declared.lines.VerifyLine.{VerifyLine}
use Rattle.command_line.specs.declared.table.Bounds.{Bounds}
use Rattle.command_line.specs.declared.table.TheConstants.{WORKERS, STEPS, OBJECTS, CLIENTS, CALLS}
use Rattle.command_line.specs.declared.table.TheConstants.{SEED, SHARDS}
use Rattle.command_line.specs.declared.values.Unfit.{Unfit}
use Rattle.command_line.specs.declared.values.Unfit.TheVariants as unfit

-- The number is what the option's value says, a decimal number within these bounds, before which a
-- plus is allowed. If the option is not given, it is the default.
abbrev pub IsNumber : Bounds → Option Text → ℕ → Type 0
IsNumber b None n = n ≡ b.default
IsNumber b (Some t) n =
    IsNumeral 10 (without_leading_plus t) × (n ≡ digits_value 10 (without_leading_plus t))
    × (b.least ≤ n) × (n ≤ b.most)

-- whether a flag is given: then clap has the text true for it, and else the text false
abbrev pub is_given : Option Text → Bool
is_given None = false
is_given (Some t) = bytes_eq t (codes "true")

-- which operation is tried first, by a name; if none is given, that with the least number
abbrev pub IsFirst : Option Text → TryFirst → Type 0
IsFirst None first = first ≡ LeastNumber
IsFirst (Some t) first =
    ((t ≡ codes "number") × (first ≡ LeastNumber)) ⊎ ((t ≡ codes "return") × (first ≡ LeastReturn))

-- these kinds are named; if no name is given, they are the default
abbrev pub IsKinds : Option Text → Kinds → Type 0
IsKinds None kinds = kinds ≡ default_kinds
IsKinds (Some t) kinds = kinds_named t ≡ Some kinds

-- what a run is asked to be of
pub record AreRunOptions (rows : List Row) (o : RunOptions) : Type 0 where
  pub kinds : IsKinds (first_of (codes "kind") rows) o.kinds
  pub objects : IsNumber OBJECTS (first_of (codes "objects") rows) o.objects
  pub clients : IsNumber CLIENTS (first_of (codes "clients") rows) o.clients
  pub calls : IsNumber CALLS (first_of (codes "calls") rows) o.calls
  pub seed : IsNumber SEED (first_of (codes "seed") rows) o.seed

-- the rows have this file
abbrev pub IsFile : Text → List Row → Text → Type 0
IsFile name rows file = first_of name rows ≡ Some file

-- ---- the lines: each has the files that the rows have, and for each option the value that the
-- rows have, or its default

abbrev pub IsCheckLine : List Row → CheckLine → Type 0
IsCheckLine rows line =
    IsFile (codes "HISTORY") rows (string_bytes line.history)
    × IsFile (codes "CERTS") rows (string_bytes line.certificates)
    × IsNumber WORKERS (first_of (codes "workers") rows) line.workers

abbrev pub IsSearchLine : List Row → SearchLine → Type 0
IsSearchLine rows line =
    IsFile (codes "HISTORY") rows (string_bytes line.history)
    × IsNumber STEPS (first_of (codes "steps") rows) line.steps
    × IsFirst (first_of (codes "first") rows) line.try_first

abbrev pub IsRefuteLine : List Row → RefuteLine → Type 0
IsRefuteLine rows line =
    IsFile (codes "HISTORY") rows (string_bytes line.history)
    × IsFile (codes "REASONS") rows (string_bytes line.reasons)
    × IsNumber STEPS (first_of (codes "steps") rows) line.steps

abbrev pub IsVerifyLine : List Row → VerifyLine → Type 0
IsVerifyLine rows line =
    IsFile (codes "HISTORY") rows (string_bytes line.history)
    × IsFile (codes "EVIDENCE") rows (string_bytes line.evidence)
    × IsNumber STEPS (first_of (codes "steps") rows) line.steps
    × IsNumber WORKERS (first_of (codes "workers") rows) line.workers

abbrev pub IsSplitLine : List Row → SplitLine → Type 0
IsSplitLine rows line =
    IsFile (codes "HISTORY") rows (string_bytes line.history)
    × IsFile (codes "FOLDER") rows (string_bytes line.folder)
    × IsNumber SHARDS (first_of (codes "shards") rows) line.shards

-- the bench's line of the command with this name
abbrev pub IsLine : Text → List Row → Line → Type 0
IsLine name rows (bench.Check line) = (name ≡ codes "check") × IsCheckLine rows line
IsLine name rows (bench.Search line) = (name ≡ codes "search") × IsSearchLine rows line
IsLine name rows (bench.Run options) = (name ≡ codes "run") × AreRunOptions rows options
IsLine name rows (bench.Simulate schedule) =
    (name ≡ codes "simulate") × IsFile (codes "SCHEDULE") rows (string_bytes schedule)

abbrev pub IsFilesLine : Text → List Row → FilesLine → Type 0
IsFilesLine name rows (Check line) = (name ≡ codes "check") × IsCheckLine rows line
IsFilesLine name rows (Search line) = (name ≡ codes "search") × IsSearchLine rows line
IsFilesLine name rows (Refute line) = (name ≡ codes "refute") × IsRefuteLine rows line
IsFilesLine name rows (Verify line) = (name ≡ codes "verify") × IsVerifyLine rows line

abbrev pub IsFolderLine : Text → List Row → FolderLine → Type 0
IsFolderLine name rows (Split line) = (name ≡ codes "split") × IsSplitLine rows line
IsFolderLine name rows (Merge folder steps trust_statuses) =
    (name ≡ codes "merge") × IsFile (codes "FOLDER") rows (string_bytes folder)
    × IsNumber STEPS (first_of (codes "steps") rows) steps
    × (trust_statuses ≡ is_given (first_of (codes "trust-statuses") rows))

-- the verifier's line of the command with this name
abbrev pub IsHistoryLine : Text → List Row → HistoryLine → Type 0
IsHistoryLine name rows (OnFiles line) = IsFilesLine name rows line
IsHistoryLine name rows (OnFolder line) = IsFolderLine name rows line

-- ---- the words

-- the rows of what clap found
abbrev pub rows_in : ArgMatches → List Row
rows_in m = rows_of (found_of m)

-- a line of which this holds was read, or there is none, unless an allocation failed
abbrev pub IsRead : {L : Type 0} → (L → Type 0) → Result L Unfit → Type 0
IsRead {L} IsIt r =
    MatchResult r IsIt (λ u. u ≢ unfit.NoMemory → (line : L) → IsIt line → ⊥)

-- clap found a command and its rows, of which this is the program's line
abbrev pub Finds : {L : Type 0} → (Text → List Row → L → Type 0) → Option (Text × List Row) → L
    → Type 0
Finds IsLineOf found line = IsSomeAnd found (λ f. IsLineOf f.0 f.1 line)

-- clap has no fault to find with the words, and finds in them a command with this line
pub record AskFor {L : Type 0} (program : App) (IsLineOf : Text → List Row → L → Type 0)
    (words : List Text) (line : L) : Type 0 where
  pub faultless : fault_of program words ≡ []
  pub finds : Finds IsLineOf (subcommand_of program words) line

-- the error of clap stands for a request for help, or for the version
abbrev pub IsHelp : ErrorKind → Type 0
IsHelp k = (k ≡ DisplayHelp) ⊎ (k ≡ DisplayVersion)

-- the fault of the line for an error of this kind of clap, if no allocation fails
abbrev pub IsClapFaultFor : ErrorKind → LineFault → Type 0
IsClapFaultFor k (Help text) = IsHelp k
IsClapFaultFor k (Refused text) = (k ≢ OutOfMemory) × (IsHelp k → ⊥)
IsClapFaultFor k NoMemory = ⊤

-- the words are refused
abbrev pub AreWordsRefused : LineFault → Type 0
AreWordsRefused (Help text) = ⊥
AreWordsRefused (Refused text) = ⊤
AreWordsRefused NoMemory = ⊥

-- clap has no fault to find with the words, but what it finds in them fits no line, and they are
-- refused
pub record IsUnfit {L : Type 0} (program : App) (IsLineOf : Text → List Row → L → Type 0)
    (words : List Text) (fault : LineFault) : Type 0 where
  pub faultless : fault_of program words ≡ []
  pub none : (line : L) → Finds IsLineOf (subcommand_of program words) line → ⊥
  pub refused : AreWordsRefused fault

-- An allocation failed, or clap refuses the words with an error of a kind for which the fault is,
-- or what it finds in them fits no line.
abbrev pub IsLineFault : {L : Type 0} → App → (Text → List Row → L → Type 0) → List Text → LineFault
    → Type 0
IsLineFault program IsLineOf words fault =
    (fault ≡ NoMemory)
    ⊎ ((k : ErrorKind) × IsAmong k (fault_of program words) × IsClapFaultFor k fault)
    ⊎ IsUnfit program IsLineOf words fault
