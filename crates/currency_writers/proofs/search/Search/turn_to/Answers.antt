use Rattle.std.proofs.Common.{◌≤◌, arith}
use Rattle.currency_writers.proofs.search.Search.turn_to.Goals as goal

pub find_starts-requires : goal.find_starts-requires
find_starts-requires c =
    (let said = c.turn_to.ensures in
    let flow = said.room in
    let starts = c.forget.ensures.room in
    let was = c.requires.room in
    record { flow = said.flow; blocked = said.blocked; none = c.forget.ensures.none; room = omega (arith, flow, starts, was) })

pub returns-clause-turned : goal.returns-clause-turned
returns-clause-turned c =
    (let said = c.turn_to.ensures in
    let found = c.in_ok-find_starts.ensures in
    let flow = said.room in
    let starts = c.forget.ensures.room in
    let more = found.room in
    let was = c.requires.room in
    record { search = record { flow = said.flow; room = omega (arith, flow, starts, more, was) }; blocked = said.blocked; starts = found.starts; least = found.least })
