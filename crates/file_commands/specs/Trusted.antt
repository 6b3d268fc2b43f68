-- A merge that trusts the exit statuses of workers on other machines, and checks nothing.
use Rattle.std.specs.Prelude.{◌≡◌, ◌<◌, ◌⊎◌, ◌+◌, ℕ, List, [], ◌∷◌, ◌++◌, Option, Some, None}
use Rattle.std.specs.Prelude.{codes, decimal, get_or, if◌then◌else◌, length, map}
use Rattle.std.specs.Prelude.{option_and_then, option_map, unwrap_or}
use Rattle.std.specs.Global.{Vec}
use Rattle.std.specs.Str.{bytes_eq}
use Rattle.reading.specs.Texts.{IsLinearizableText, IsNotLinearizableText}
use Rattle.shards.specs.Dividing.{Files}
use Rattle.history_commands.specs.Merged.{status_with, worst}
use Rattle.history_commands.specs.Outputs.{IsExactly, IsOutOfMemory}
use Rattle.history_commands.specs.declared.finding.Finding.{Finding}
use Rattle.history_commands.specs.declared.finding.Finding.TheVariants.{Certified, Undecided}
use Rattle.history_commands.specs.declared.finding.Finding.TheVariants.{Refuted, Malformed}
use Rattle.history_commands.specs.declared.status.Status.{Status}
use Rattle.file_commands.specs.declared.trusting.Trusted.{Trusted}

-- ---- what is read

-- What the file with the exit status of a shard, by the shard's number, may hold: these bytes, or
-- there is no such file.
abbrev pub HoldingStatus : Type 1
HoldingStatus = ℕ → Option (List ℕ) → Type 0

-- these texts of statuses were read, in the order of the shards' numbers; `None` where there is
-- none
abbrev pub AreStatusesRead : HoldingStatus → List (Option (List ℕ)) → Type 0
AreStatusesRead holds read =
    (k : ℕ) (d : Option (List ℕ)) → k < length read → holds k (get_or read k d)

-- ---- what it says

-- what the text of a status says of its shard: nothing, unless it is that of 0, 1, 2 or 3
abbrev pub said_by : List ℕ → Option Finding
said_by text =
    if bytes_eq text (codes "0\n") then Some Certified
    else if bytes_eq text (codes "1\n") then Some Refuted
    else if bytes_eq text (codes "2\n") then Some Malformed
    else if bytes_eq text (codes "3\n") then Some Undecided
    else None

-- the finding that the text of a status says, if the text was read
abbrev pub said_of : Option (List ℕ) → Option Finding
said_of read = option_and_then said_by read

-- the finding by the text of a status: if the text says nothing, the shard is undecided
abbrev pub finding_of : Option (List ℕ) → Finding
finding_of read = unwrap_or (said_of read) Undecided

-- the worst of the findings: malformed before a no, before undecided, before a yes
abbrev pub finding_by : List (Option (List ℕ)) → Finding
finding_by read = worst (map finding_of read)

-- ---- the lines

-- a line on a shard, such as `; shard 5: no`
abbrev pub status_line : ℕ → List ℕ → List ℕ
status_line shard end = codes "; shard " ++ (decimal shard ++ end)

-- the line of the shard with this number, unless it is a yes
abbrev pub said_line : ℕ → Option Finding → List ℕ
said_line shard (Some Certified) = []
said_line shard (Some Refuted) = status_line shard (codes ": no\n")
said_line shard (Some Malformed) = status_line shard (codes ": malformed\n")
said_line shard (Some Undecided) = status_line shard (codes ": undecided\n")
said_line shard None = status_line shard (codes ": no status\n")

-- the lines of the shards from this number on
abbrev pub lines_from : ℕ → List (Option (List ℕ)) → List ℕ
lines_from shard [] = []
lines_from shard (r ∷ read) = said_line shard (said_of r) ++ lines_from (shard + 1) read

-- the line that says that the exit statuses of this many shards are believed, and not checked
abbrev pub first_line : ℕ → List ℕ
first_line count =
    codes "; not checked: the exit statuses of "
    ++ (decimal count ++ codes " shards are believed\n")

-- the line of a yes by the statuses of this many shards
abbrev pub last_line : ℕ → Finding → List ℕ
last_line count Certified = codes "yes by statuses: " ++ (decimal count ++ codes " shards\n")
last_line count Undecided = []
last_line count Refuted = []
last_line count Malformed = []

-- the lines of a merge of this many shards that believes the statuses that were read
abbrev pub trusted_text : ℕ → List (Option (List ℕ)) → List ℕ
trusted_text count read =
    first_line count ++ (lines_from 0 read ++ last_line count (finding_by read))

-- ---- the merge

-- what was read, as a list of bytes
abbrev pub bytes_read : Option (Vec ℕ) → Option (List ℕ)
bytes_read read = option_map (λ v. v.items) read

-- these statuses were taken, and what is kept is their finding and their lines
pub record AreTrusted (b : Trusted) (read : List (Option (List ℕ))) : Type 0 where
  pub finding_is : b.finding ≡ finding_by read
  pub lines_are : b.lines.items ≡ lines_from 0 read

-- the output of a merge of this many shards, whose statuses were read and are trusted
abbrev pub IsTrustedOf : HoldingStatus → ℕ → Status → List ℕ → Type 0
IsTrustedOf holds count status out =
    (read : List (Option (List ℕ))) × (length read ≡ count) × AreStatusesRead holds read
    × IsExactly (status_with (finding_by read)) (trusted_text count read) status out

-- the output of a merge of this many shards, whose statuses were read and are trusted; or one line
-- says that an allocation failed
abbrev pub IsTrustedOfFolder : HoldingStatus → ℕ → Status → List ℕ → Type 0
IsTrustedOfFolder holds count status out =
    IsTrustedOf holds count status out ⊎ IsOutOfMemory status out

-- ---- what is taken on trust

-- Each yes is right: a shard of this many that may have the status 0 is empty, or its history is
-- linearizable.
abbrev pub IsEachYesRight : HoldingStatus → ℕ → Files → Type 0
IsEachYesRight holds count files = (s : ℕ) → s < count → holds s (Some (codes "0\n"))
    → (files.texts s ≡ []) ⊎ IsLinearizableText (files.texts s)

-- Each no is right: a shard that may have the status 1 has a history that is not linearizable.
abbrev pub IsEachNoRight : HoldingStatus → ℕ → Files → Type 0
IsEachNoRight holds count files = (s : ℕ) → s < count → holds s (Some (codes "1\n"))
    → IsNotLinearizableText (files.texts s)
