use Rattle.home_assign.proofs.Bits.{met_elsewhere, met_here, met_changed}
use Rattle.home_assign.proofs.rows.meet.Goals as goal

pub returns : goal.returns
returns c =
    let rows = c.args.rows.now in
    record {
      elsewhere = met_elsewhere rows c.meet_into.new.self c.args.from c.args.to c.args.unite c.requires.to c.requires.width c.meet_into.ensures.met;
      here = met_here rows c.meet_into.new.self c.args.from c.args.to c.args.unite c.requires.to c.requires.width c.meet_into.ensures.met;
      changed = met_changed rows c.meet_into.new.self c.args.from c.args.to c.args.unite c.requires.to c.requires.width c.meet_into.ensures.met c.meet_into.result c.meet_into.ensures.changed;
    }
