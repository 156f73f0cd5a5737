use Rattle.std.proofs.Common.{ℕ, take}
use Rattle.graph_core.specs.Paths.{Among}
use Rattle.currency_notes.specs.Numbers.{AreOrderly, IsMore, IsReaderOf}
use Rattle.currency_notes.proofs.homes.Homes.add_names.Given as goal

abbrev pub invariant-loop-name : goal.invariant-loop-name
invariant-loop-name l = record {
  more : IsMore l.fn.self l.self;
  read : AreOrderly l.fn.self → (y : ℕ) → Among y (take l.name-index l.names) → IsReaderOf l.self y l.scalar;
}
