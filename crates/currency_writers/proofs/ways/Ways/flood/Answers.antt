use Rattle.std.proofs.Common.{◌∙◌, ◌<◌, ◌≤◌, length, arith, subst, sym}
use Rattle.currency_writers.specs.Flooding.{AreNextReached}
use Rattle.currency_writers.specs.Marks.{room_of}
use Rattle.currency_writers.proofs.Flooding.{told_on}
use Rattle.currency_writers.proofs.Flooding.{closed_new, done_more, more_on, told_all}
use Rattle.currency_writers.proofs.ways.Ways.flood.Goals as goal

pub go_on-requires-clause-room : goal.go_on-requires-clause-room
go_on-requires-clause-room g c = subst (λ n. room_of c.args.self.blocked.now ≤ n) (sym c.loop-at.invariant.room) c.requires.room

pub loop-at-preserved : goal.loop-at-preserved
loop-at-preserved g c =
    (let f = c.args.self in
    let said = c.in_ok-go_on.ensures in
    let lt : c.loop-at.at < length c.loop-at.ahead.items = omega arith in
    record {
      told = told_on f c.args.from c.args.value c.args.told.now c.loop-at.told c.go_on.new.told c.loop-at.invariant.told said.told;
      ahead = said.ahead;
      more = more_on f c.args.told.now c.loop-at.told c.go_on.new.told _ c.loop-at.ahead.items c.go_on.new.ahead.items c.loop-at.invariant.more said.more;
      done = done_more f c.args.from c.args.value c.loop-at.told c.go_on.new.told c.loop-at.ahead.items c.go_on.new.ahead.items c.loop-at.at c.index-next.result.now lt said.told said.more c.loop-at.invariant.done
          (subst (λ n. AreNextReached f n c.go_on.new.told) c.index-next.ensures said.next);
      room = said.room ∙ c.loop-at.invariant.room;
    })

pub returns-clause-shut : goal.returns-clause-shut
returns-clause-shut g c =
    (let le : length c.loop-at.ahead.items ≤ c.loop-at.at = omega arith in
    closed_new c.args.self c.args.from c.args.value c.args.told.now c.loop-at.told c.loop-at.ahead.items c.loop-at.at le c.loop-at.invariant.told c.requires.shut c.loop-at.invariant.more c.loop-at.invariant.done)

pub returns-clause-all : goal.returns-clause-all
returns-clause-all g c =
    (let le : length c.loop-at.ahead.items ≤ c.loop-at.at = omega arith in
    told_all c.args.self c.args.from c.args.value c.args.told.now c.loop-at.told c.loop-at.ahead.items c.loop-at.at le c.loop-at.invariant.told c.requires.shut c.loop-at.invariant.more c.loop-at.invariant.done)
