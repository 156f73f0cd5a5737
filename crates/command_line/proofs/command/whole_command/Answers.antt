use Rattle.std.proofs.Common.{◌∙◌, ap, map}
use Rattle.std.specs.Prelude.{fold}
use Rattle.std.proofs.lemmas.Result.{IfOk-weaker}
use Rattle.clap.specs.Simple.{App, with_subcommand}
use Rattle.command_line.specs.Forms.{jobs}
use Rattle.command_line.specs.Commands.{leaf_shape}
use Rattle.command_line.proofs.CommandsLemmas.{jobs_added}
use Rattle.command_line.proofs.command.whole_command.Goals as goal

pub returns : goal.returns
returns c =
    IfOk-weaker c.subcommands.result _ _
    (λ d h. jobs_added c.bare_command.result d jobs c.in_ok-jobs.jobs.items c.in_ok-jobs.ensures h
    ∙ ap (λ (a : App). fold with_subcommand a (map (λ j. leaf_shape j.0 j.1) jobs)) c.bare_command.ensures)
    c.subcommands.ensures
