use Rattle.std.proofs.Common.{map}
use Rattle.c_tree.specs.Programs.{program_view}
use Rattle.debug_records.specs.Change.{letters}
use Rattle.session.proofs.Compiled.{made_of}
use Rattle.session.proofs.preparing.make.Goals as goal

pub image_for-requires-clause-fits : goal.image_for-requires-clause-fits
image_for-requires-clause-fits g c = c.in_ok-program.ensures.fits

pub image_for-requires-clause-laws : goal.image_for-requires-clause-laws
image_for-requires-clause-laws g c = c.in_ok-program.ensures.laws

pub image_for-requires-clause-names : goal.image_for-requires-clause-names
image_for-requires-clause-names g c = c.in_ok-program.ensures.names

pub image_for-requires-clause-spots : goal.image_for-requires-clause-spots
image_for-requires-clause-spots g c = c.in_ok-program.ensures.spots

pub image_for-requires-clause-run : goal.image_for-requires-clause-run
image_for-requires-clause-run g c = c.requires

pub returns-in-Ok : goal.returns-in-Ok
returns-in-Ok g c =
    let is = c.in-Ok.ensures in
    made_of c.args.source.now (map letters c.args.names.now) c.args.mode (program_view c.in_ok-program.program) c.in-Ok.made c.in_ok-program.ensures.ends c.in_ok-program.ensures.program is.image is.bytes is.runs is.shows is.tables is.comes
