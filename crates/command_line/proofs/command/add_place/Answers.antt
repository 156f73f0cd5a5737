use Rattle.std.proofs.Common.{◌∙◌, ap, Some}
use Rattle.std.proofs.lemmas.Result.{IfOk-weaker}
use Rattle.clap.specs.declared.builder.arg.Arg.{Arg}
use Rattle.clap.specs.declared.builder.action.ArgAction.TheVariants.{Set}
use Rattle.command_line.proofs.CommandsLemmas.{place_added}
use Rattle.command_line.proofs.command.add_place.Goals as goal

pub returns : goal.returns
returns c =
    let made = c.action.ensures ∙ ap (λ (s : Arg). record s { action = Some Set }) c.required.ensures in
    IfOk-weaker c.push.result _ _
    (λ u h. place_added c.new.result c.action.result c.args.name c.args.arguments.now.items _ c.new.ensures.rule c.new.ensures.optional.1 made h)
    c.push.ensures
