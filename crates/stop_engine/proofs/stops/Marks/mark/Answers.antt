use Rattle.std.proofs.Common.{◌<◌, length, sym, subst}
use Rattle.stop_engine.specs.MarkTable.{MarkTable}
use Rattle.stop_engine.proofs.MarkLaws.{mark_one}
use Rattle.stop_engine.proofs.stops.Marks.mark.Goals as goal

pub returns-clause-marked : goal.returns-clause-marked
returns-clause-marked c = λ p.
    let within : c.args.place < length c.self.inside.marked.items = subst (λ (t : MarkTable). c.args.place < t.bound) (sym c.self.view_is) c.requires in
    rw (← c.self.view_is) (mark_one c.self.inside.marked.items c.args.place p within)
