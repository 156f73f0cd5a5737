use Rattle.std.proofs.Common.{◌≤◌, map, ap, subst, ◌∙◌}
use Rattle.std.proofs.lemmas.List.{length-map}
use Rattle.c_tree.specs.Programs.{program_view}
use Rattle.graph_core.specs.Graphs.{logged, unit_view}
use Rattle.session_lines.specs.ChangeLinesLines.{lines_of}
use Rattle.debug_records.specs.Change.{letters}
use Rattle.session.proofs.Lines.{lines_are}
use Rattle.session.proofs.preparing.lines_for.Goals as goal

pub unit_of-requires-clause-fits : goal.unit_of-requires-clause-fits
unit_of-requires-clause-fits g c = c.requires.fits

pub unit_of-requires-clause-laws : goal.unit_of-requires-clause-laws
unit_of-requires-clause-laws g c = c.requires.laws

pub unit_of-requires-clause-few : goal.unit_of-requires-clause-few
unit_of-requires-clause-few g c = subst (λ n. n ≤ 32) (length-map c.args.names.now letters) c.requires.run.few

pub unit_of-requires-clause-handed_in : goal.unit_of-requires-clause-handed_in
unit_of-requires-clause-handed_in g c = c.requires.run.are_handed_in

pub returns : goal.returns
returns g c =
    let p = program_view c.args.program.now in
    let is = c.in_ok-unit.ensures in
    lines_are p c.requires.laws c.args.names.now (unit_view c.in_ok-unit.unit) (map (λ line. line.items) c.in_ok-lines.lines.items) is.comes is.valid is.shape is.built
    (c.in_ok-lines.ensures ∙ ap (λ cs. lines_of p 1 (map logged cs)) c.changes.ensures)
