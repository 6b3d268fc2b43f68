-- The exit status of a command tells of the history in its first file: the number 0 is that of a yes alone, and 1 that
-- of a no alone. By cases on the status of its output.
use Rattle.std.proofs.Common.{◌≡◌, ◌≢◌, ◌∙◌, ℕ, true, List, Option, inl, inr, sym, Bool}
use Rattle.command_line.specs.declared.lines.FilesLine.{FilesLine}
use Rattle.command_line.specs.declared.lines.FilesLine.TheVariants.{Check, Search, Refute, Verify}
use Rattle.reading.specs.Reads.{IsLinearizableRead, IsNotLinearizableRead}
use Rattle.history_commands.specs.Outputs.{status_number}
use Rattle.history_commands.specs.declared.status.Status.{Status}
use Rattle.history_commands.specs.declared.status.Status.TheVariants.{Yes, No, OutOfMemory}
use Rattle.history_commands.specs.declared.status.Status.TheVariants.{Failed}
use Rattle.history_commands.proofs.Numbers.{no_by_number, yes_by_number}
use Rattle.file_commands.specs.Leaves.{Leaves}
use Rattle.file_commands.specs.OnFiles.{IsPerformedOn, says_no, says_yes}

-- an allocation failure is no yes
pub memory_not_yes : (status : Status) → status ≡ OutOfMemory → status ≢ Yes
memory_not_yes status e y = absurd cc

-- an allocation failure is not a no
pub memory_not_no : (status : Status) → status ≡ OutOfMemory → status ≢ No
memory_not_no status e n = absurd cc

-- the number of a yes is not that of output that failed
pub yes_not_failed : (number : ℕ) → number ≡ status_number Yes → number ≢ status_number Failed
yes_not_failed number y f = absurd cc

-- the number of a no is not that of output that failed
pub no_not_failed : (number : ℕ) → number ≡ status_number No → number ≢ status_number Failed
no_not_failed number n f = absurd cc

-- the sources of the two files, before and after
module _ (one one_after other other_after : Option (List ℕ)) where
  said_yes : (line : FilesLine) (status : Status) (out : List ℕ)
      → IsPerformedOn line one one_after other other_after status out → says_yes line ≡ true → status ≡ Yes
      → IsLinearizableRead one one_after
  said_yes (Check line) status out (inl (a, b, r, q, done)) s y = (a, r, done.linearizable y)
  said_yes (Check line) status out (inr memory) s y = absurd (memory_not_yes status memory.0 y)
  said_yes (Search line) status out (inl (a, r, done), same) s y = (a, r, done.linearizable y)
  said_yes (Search line) status out (inr memory, same) s y = absurd (memory_not_yes status memory.0 y)
  said_yes (Refute line) status out h s y = absurd cc
  said_yes (Verify line) status out (inl (a, b, r, q, done)) s y = (a, r, done.linearizable y)
  said_yes (Verify line) status out (inr memory) s y = absurd (memory_not_yes status memory.0 y)

  said_no : (line : FilesLine) (status : Status) (out : List ℕ)
      → IsPerformedOn line one one_after other other_after status out → says_no line ≡ true → status ≡ No
      → IsNotLinearizableRead one one_after
  said_no (Check line) status out h s n = absurd cc
  said_no (Search line) status out (inl (a, r, done), same) s n = (a, r, done.refuted n)
  said_no (Search line) status out (inr memory, same) s n = absurd (memory_not_no status memory.0 n)
  said_no (Refute line) status out (inl (a, b, r, q, done)) s n = (a, r, done.refuted n)
  said_no (Refute line) status out (inr memory) s n = absurd (memory_not_no status memory.0 n)
  said_no (Verify line) status out (inl (a, b, r, q, done)) s n = (a, r, done.refuted n)
  said_no (Verify line) status out (inr memory) s n = absurd (memory_not_no status memory.0 n)

  module _ (line : FilesLine) {before after : Option (List ℕ)} {number : ℕ} {broken : Bool}
      (left : Leaves (IsPerformedOn line one one_after other other_after) before number after broken) where
    pub shows_yes : says_yes line ≡ true → number ≡ status_number Yes → IsLinearizableRead one one_after
    shows_yes says y =
        let w = left.written (yes_not_failed number y) in
        said_yes line w.0 w.1 w.2 says (yes_by_number w.0 (sym w.3 ∙ y))

    pub shows_no : says_no line ≡ true → number ≡ status_number No → IsNotLinearizableRead one one_after
    shows_no says n =
        let w = left.written (no_not_failed number n) in
        said_no line w.0 w.1 w.2 says (no_by_number w.0 (sym w.3 ∙ n))
