-- The command that clap is told of: the program, with its commands of the table.
use Rattle.std.specs.Prelude.{◌∷◌, [], List, true, codes, Option, Some, None, map}
use Rattle.clap.specs.Simple.{App, new_app, new_rule, on_top, with_rule, with_subcommand}
use Rattle.clap.specs.Walk.{Rule, Text}
use Rattle.clap.specs.declared.builder.action.ArgAction.{ArgAction}
use Rattle.clap.specs.declared.builder.action.ArgAction.TheVariants.{SetTrue}
use Rattle.clap.specs.declared.builder.value_parser.ValueParser.{ValueParser}
use Rattle.clap.specs.declared.builder.value_parser.ValueParser.TheVariants.{Unsigned}
use Rattle.command_line.specs.declared.table.Takes.{Takes}
use Rattle.command_line.specs.declared.table.Takes.TheVariants.{Number, Kind, TryFirst, Nothing}
use Rattle.command_line.specs.declared.table.TheConstants.{BENCH_COMMANDS, HISTORY_COMMANDS}

-- a file is a required argument
abbrev pub file_rule : Text → Rule
file_rule name = record (new_rule name) { required = true }

-- clap refuses a number out of its bounds
abbrev pub parser_of : Takes → Option ValueParser
parser_of (Number bounds) = Some (Unsigned bounds.least bounds.most)
parser_of Kind = None
parser_of TryFirst = None
parser_of Nothing = None

-- a flag takes no value; other options have one, as is the default
abbrev pub action_of : Takes → Option ArgAction
action_of (Number bounds) = None
action_of Kind = None
action_of TryFirst = None
action_of Nothing = Some SetTrue

-- `--name`, with a value or as a flag
abbrev pub option_rule : Text × Takes → Rule
option_rule o = record (new_rule o.0) {
  long = Some o.0;
  parser = parser_of o.1;
  action = action_of o.1;
}

-- the command with these arguments and options added to it, in order
abbrev pub with_rules : App → List Rule → App
with_rules a [] = a
with_rules a (r ∷ rs) = with_rules (with_rule a r) rs

-- a command of this name, with these files in their order, and these options
abbrev pub command_of : Text → List Text → List (Text × Takes) → App
command_of name files options =
    with_rules (with_rules (new_app name) (map file_rule files)) (map option_rule options)

-- the program with these commands added to it, in order
abbrev pub with_commands : App → List App → App
with_commands a [] = a
with_commands a (c ∷ cs) = with_commands (with_subcommand a c.top) cs

-- the program, which wants the name of a command
abbrev pub program : App
program = on_top (λ s. record s { subcommand_required = true }) (new_app (codes "fcbench"))

-- the program with these commands
abbrev pub program_of : List App → App
program_of commands = with_commands program commands

-- what clap is told of for the bench
abbrev pub bench : App
bench =
    program_of (map (λ row. command_of row.0.now (map (λ f. f.0.now) row.2.now)
    (map (λ o. (o.0.now, o.2)) row.3.now)) BENCH_COMMANDS)

-- what clap is told of for the verifier
abbrev pub verifier : App
verifier =
    program_of (map (λ row. command_of row.0.now (map (λ f. f.0.now) row.2.now)
    (map (λ o. (o.0.now, o.2)) row.3.now)) HISTORY_COMMANDS)
