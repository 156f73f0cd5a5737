use Rattle.c_tree.specs.Programs.{program_view}
use Rattle.graph_build_laws.proofs.Following.{follow_flow}
use Rattle.graph_build_laws.proofs.Program.{does_program}
use Rattle.graph_build_laws.proofs.Whole.{valid}
use Rattle.graph_build_laws.proofs.OfForms.{built_by, valid_by}
use Rattle.graph_build_laws.proofs.built.program_unit.Goals as goal

pub returns-clause-built : goal.returns-clause-built
returns-clause-built c =
    let p = program_view c.args.program.now in
    built_by p c.build.result (λ u forms has. follow_flow p u c.requires.laws forms has) (λ u forms. does_program p u c.requires.laws forms) c.build.ensures.forms c.build.ensures.steps c.build.ensures.assignments c.build.ensures.steps_in_order c.build.ensures.assignments_in_order

pub returns-clause-valid : goal.returns-clause-valid
returns-clause-valid c =
    let p = program_view c.args.program.now in
    valid_by p c.build.result (λ u forms. valid p u c.requires.laws forms) c.build.ensures.forms
