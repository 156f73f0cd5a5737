use Rattle.std.proofs.Common.{◌≡◌, false, replicate, rules}
use Rattle.stop_engine.proofs.MarkLaws.{new_table}
use Rattle.stop_engine.proofs.stops.Marks.new.Goals as goal

pub returns : goal.returns
returns c =
    let filled : c.in_ok-vec.field-0.items ≡ replicate c.args.bound false = search rules in
    new_table c.args.bound c.in_ok-vec.field-0.items filled
