use Rattle.std.proofs.Common.{◌≡◌, ◌∙◌, ap, sym, subst, List, [], ◌∷◌, ◌++◌}
use Rattle.clap.specs.declared.builder.command.Command.{Command}
use Rattle.command_line.specs.Forms.{jobs}
use Rattle.command_line.specs.Commands.{AreJobCommands}
use Rattle.command_line.proofs.command.job_commands.Goals as goal

more : (a b : List Command) (x : Command) → a ≡ b → a ++ x ∷ [] ≡ b ++ x ∷ []
more a b x e = ap (λ (l : List Command). l ++ x ∷ []) e

pub returns : goal.returns
returns c =
    let one = c.in_ok-add_job.ensures in
    let two = c.in_ok-add_job-2.ensures in
    let three = c.in_ok-add_job-3.ensures in
    let four = c.in_ok-add_job-4.ensures in
    let five = c.in_ok-add_job-5.ensures in
    let all : c.add_job-5.new.commands.items ≡ one.0 ∷ two.0 ∷ three.0 ∷ four.0 ∷ five.0 ∷ [] =
    five.1 ∙ more _ _ five.0 (four.1 ∙ more _ _ four.0 (three.1 ∙ more _ _ three.0 (two.1 ∙ more _ _ two.0 (one.1 ∙ more _ _ one.0 c.new-jobs.ensures.items)))) in
    subst (AreJobCommands jobs) (sym all) (one.2, (two.2, (three.2, (four.2, (five.2, tt)))))
