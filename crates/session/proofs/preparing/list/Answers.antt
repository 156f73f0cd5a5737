use Rattle.std.proofs.Common.{map}
use Rattle.c_tree.specs.Programs.{program_view}
use Rattle.debug_records.specs.Change.{letters}
use Rattle.session.proofs.Lines.{lines_for_source}
use Rattle.session.proofs.preparing.list.Goals as goal

pub lines_for-requires-clause-fits : goal.lines_for-requires-clause-fits
lines_for-requires-clause-fits g c = c.in_ok-program.ensures.fits

pub lines_for-requires-clause-laws : goal.lines_for-requires-clause-laws
lines_for-requires-clause-laws g c = c.in_ok-program.ensures.laws

pub lines_for-requires-clause-run : goal.lines_for-requires-clause-run
lines_for-requires-clause-run g c = c.requires

pub returns-in-Ok : goal.returns-in-Ok
returns-in-Ok g c = lines_for_source c.args.source.now (program_view c.in_ok-program.program) (map letters c.args.names.now) (map (λ line. line.items) c.in-Ok.lines.items) c.in_ok-program.ensures.ends c.in_ok-program.ensures.program c.in-Ok.ensures
