use Rattle.currency_notes.proofs.Numbering.{more_on, reader_by}
use Rattle.currency_notes.proofs.homes.Homes.add.Goals as goal

pub returns-clause-more : goal.returns-clause-more
returns-clause-more c = more_on c.args.self.now c.number_anew.new.self c.add_reader.new.self c.in_ok-number.ensures.more c.in_ok-add_reader.ensures.more

pub returns-clause-read : goal.returns-clause-read
returns-clause-read c = λ orderly.
    (let mid = c.number_anew.new.self in
    let added = c.in_ok-add_reader.ensures in
    reader_by mid c.add_reader.new.self c.args.name c.args.scalar c.in_ok-number.number (c.in_ok-number.ensures.more.orderly orderly) added.more.homes added.numbers c.in_ok-number.ensures.number added.read)
