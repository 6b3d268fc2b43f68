-- A new command, then its files, then its options.
use Rattle.std.proofs.Common.{rules, ◌≡◌, ◌∙◌, ap, map}
use Rattle.std.proofs.lemmas.Result.{IfOk-weaker}
use Rattle.clap.specs.Words.{app_of, new_app}
use Rattle.command_line.specs.Command.{file_rule, option_rule, with_rules}
use Rattle.command_line.proofs.command.command_of.Goals as goal

pub returns-clause-shape : goal.returns-clause-shape
returns-clause-shape c =
    let row = c.args.row.now in
    let start : app_of c.about-command.result ≡ new_app row.0.now = search rules in
    let files = c.in_ok-with_files.ensures.shape
    ∙ ap (λ a. with_rules a (map file_rule (map (λ f. f.0.now) row.2.now))) start in
    IfOk-weaker c.with_options.result _ _
    (λ r h. h ∙ ap (λ a. with_rules a (map option_rule (map (λ o. (o.0.now, o.2)) row.3.now))) files)
    c.with_options.ensures.shape
