use Rattle.std.proofs.Common.{arith}
use Rattle.currency_notes.specs.Numbers.{IsReaderOf}
use Rattle.currency_notes.proofs.Lists.{each_all, each_more_any}
use Rattle.currency_notes.proofs.Numbering.{more_on, reader_on}
use Rattle.currency_notes.proofs.homes.Homes.add_names.Goals as goal

pub loop-name-preserved : goal.loop-name-preserved
loop-name-preserved c =
    let old = c.loop-name.self in
    let new = c.add.new.self in
    let inv = c.loop-name.invariant in
    let said = c.in_ok-add.ensures in
    record {
      more = more_on c.args.self.now old new inv.more said.more;
      read = λ orderly. each_more_any (λ y. IsReaderOf new y c.args.scalar) c.args.names.now c.loop-name.name-index _ c.loop-name-test.true (λ y there. reader_on old new said.more y c.args.scalar (inv.read orderly y there)) (said.read (inv.more.orderly orderly));
    }

pub returns-clause-read : goal.returns-clause-read
returns-clause-read c = λ orderly. each_all (λ y. IsReaderOf c.loop-name.self y c.args.scalar) c.args.names.now c.loop-name.name-index (omega arith) (c.loop-name.invariant.read orderly)
