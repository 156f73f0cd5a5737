use Rattle.std.proofs.Common.{arith}
use Rattle.home_assign.proofs.Spare.{common, spare_width, five_same, five_each, five_wide, five_spare, five_none, still_gathered, still_only}
use Rattle.home_assign.proofs.registers.Interference.meets.Goals as goal

pub meet-emptied-requires-2-clause-width : goal.meet-emptied-requires-2-clause-width
meet-emptied-requires-2-clause-width c =
    let old = c.args.self.now in
    spare_width old.names c.args.a c.args.b old.rows c.meet-emptied.new.rows c.meet-filled.new.rows c.meet-met.new.rows c.meet-meets.new.rows c.meet-meets.new.rows c.meet-meets.result c.requires.a c.requires.b old.each old.wide old.spare old.none
    c.meet-emptied.ensures.elsewhere c.meet-emptied.ensures.here c.meet-filled.ensures.elsewhere c.meet-filled.ensures.here c.meet-met.ensures.elsewhere c.meet-met.ensures.here c.meet-meets.ensures.elsewhere c.meet-meets.ensures.here

pub invariant_of-self : goal.invariant_of-self
invariant_of-self c =
    let old = c.args.self.now in
    let new = c.meet-emptied-2.new.rows in
    let same = five_same old.names c.args.a c.args.b old.rows c.meet-emptied.new.rows c.meet-filled.new.rows c.meet-met.new.rows c.meet-meets.new.rows new c.meet-meets.result c.requires.a c.requires.b old.each old.wide old.spare old.none
    c.meet-emptied.ensures.elsewhere c.meet-emptied.ensures.here c.meet-filled.ensures.elsewhere c.meet-filled.ensures.here c.meet-met.ensures.elsewhere c.meet-met.ensures.here c.meet-meets.ensures.elsewhere c.meet-meets.ensures.here
    c.meet-emptied-2.ensures.elsewhere c.meet-emptied-2.ensures.here in
    record {
      few = old.few;
      each = five_each old.names c.args.a c.args.b old.rows c.meet-emptied.new.rows c.meet-filled.new.rows c.meet-met.new.rows c.meet-meets.new.rows new c.meet-meets.result c.requires.a c.requires.b old.each old.wide old.spare old.none
          c.meet-emptied.ensures.elsewhere c.meet-emptied.ensures.here c.meet-filled.ensures.elsewhere c.meet-filled.ensures.here c.meet-met.ensures.elsewhere c.meet-met.ensures.here c.meet-meets.ensures.elsewhere c.meet-meets.ensures.here
          c.meet-emptied-2.ensures.elsewhere c.meet-emptied-2.ensures.here;
      wide = five_wide old.names c.args.a c.args.b old.rows c.meet-emptied.new.rows c.meet-filled.new.rows c.meet-met.new.rows c.meet-meets.new.rows new c.meet-meets.result c.requires.a c.requires.b old.each old.wide old.spare old.none
          c.meet-emptied.ensures.elsewhere c.meet-emptied.ensures.here c.meet-filled.ensures.elsewhere c.meet-filled.ensures.here c.meet-met.ensures.elsewhere c.meet-met.ensures.here c.meet-meets.ensures.elsewhere c.meet-meets.ensures.here
          c.meet-emptied-2.ensures.elsewhere c.meet-emptied-2.ensures.here;
      spare = five_spare old.names c.args.a c.args.b old.rows c.meet-emptied.new.rows c.meet-filled.new.rows c.meet-met.new.rows c.meet-meets.new.rows new c.meet-meets.result c.requires.a c.requires.b old.each old.wide old.spare old.none
          c.meet-emptied.ensures.elsewhere c.meet-emptied.ensures.here c.meet-filled.ensures.elsewhere c.meet-filled.ensures.here c.meet-met.ensures.elsewhere c.meet-met.ensures.here c.meet-meets.ensures.elsewhere c.meet-meets.ensures.here
          c.meet-emptied-2.ensures.elsewhere c.meet-emptied-2.ensures.here;
      none = five_none old.names c.args.a c.args.b old.rows c.meet-emptied.new.rows c.meet-filled.new.rows c.meet-met.new.rows c.meet-meets.new.rows new c.meet-meets.result c.requires.a c.requires.b old.each old.wide old.spare old.none
          c.meet-emptied.ensures.elsewhere c.meet-emptied.ensures.here c.meet-filled.ensures.elsewhere c.meet-filled.ensures.here c.meet-met.ensures.elsewhere c.meet-met.ensures.here c.meet-meets.ensures.elsewhere c.meet-meets.ensures.here
          c.meet-emptied-2.ensures.elsewhere c.meet-emptied-2.ensures.here;
      gathered = still_gathered old.names old.rows new old.wide (λ r lt. same r (λ q. omega (arith, q, lt)) (λ q. omega (arith, q, lt))) old.gathered;
      only = still_only old.names old.rows new old.wide (λ r lt. same r (λ q. omega (arith, q, lt)) (λ q. omega (arith, q, lt))) old.only;
    }

pub returns-clause-common : goal.returns-clause-common
returns-clause-common c =
    let old = c.args.self.now in
    common old.names c.args.a c.args.b old.rows c.meet-emptied.new.rows c.meet-filled.new.rows c.meet-met.new.rows c.meet-meets.new.rows c.meet-meets.new.rows c.meet-meets.result c.requires.a c.requires.b old.each old.wide old.spare old.none
    c.meet-emptied.ensures.elsewhere c.meet-emptied.ensures.here c.meet-filled.ensures.elsewhere c.meet-filled.ensures.here c.meet-met.ensures.elsewhere c.meet-met.ensures.here c.meet-meets.ensures.elsewhere c.meet-meets.ensures.here c.meet-meets.ensures.changed
