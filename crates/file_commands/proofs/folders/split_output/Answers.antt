use Rattle.std.proofs.Common.{inl, refl}
use Rattle.file_commands.proofs.folders.split_output.Goals as goal

pub returns-in_ok-division_output-in-Ok-clause-made : goal.returns-in_ok-division_output-in-Ok-clause-made
returns-in_ok-division_output-in-Ok-clause-made g c =
    inl (c.in-Ok.division, c.in-Ok.ensures.divided, refl, c.in_ok-division_output-in-Ok.ensures)
