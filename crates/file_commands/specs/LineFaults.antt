-- How the program ends if words give no command.
use Rattle.command_line.specs.declared.line_fault.LineFault.{LineFault}
use Rattle.command_line.specs.declared.line_fault.LineFault.TheVariants.{Help, Refused, NoMemory}
use Rattle.history_commands.specs.declared.status.Status.{Status}
use Rattle.history_commands.specs.declared.status.Status.TheVariants.{Yes, Usage, OutOfMemory}

-- how the program ends if words give no command: as with a yes if they ask for help
abbrev pub status_of_fault : LineFault → Status
status_of_fault (Help text) = Yes
status_of_fault (Refused text) = Usage
status_of_fault NoMemory = OutOfMemory
