-- The numbers of the faults.
use Rattle.std.specs.Prelude.{ℕ, List, ◌++◌, codes, decimal}
use Rattle.edn_reader.specs.declared.fault.FaultKind.{FaultKind}
use Rattle.edn_reader.specs.declared.fault.FaultKind.TheVariants.{BadUtf8, Unfinished, BadToken}
use Rattle.edn_reader.specs.declared.fault.FaultKind.TheVariants.{NumberRange, DuplicateKey, OddMap}
use Rattle.edn_reader.specs.declared.fault.FaultKind.TheVariants.{KeyKind, TooDeep, NotInProfile}
use Rattle.edn_reader.specs.declared.fault.FaultKind.TheVariants.{TooLong, NoMemory}

-- the number that is printed after the letter E
abbrev pub number_of : FaultKind → ℕ
number_of BadUtf8 = 1
number_of Unfinished = 2
number_of BadToken = 3
number_of NumberRange = 4
number_of DuplicateKey = 5
number_of OddMap = 6
number_of KeyKind = 7
number_of TooDeep = 8
number_of NotInProfile = 9
number_of TooLong = 10
number_of NoMemory = 11

-- as it is printed, from E1 to E11
abbrev pub text_of_kind : FaultKind → List ℕ
text_of_kind k = codes "E" ++ decimal (number_of k)
