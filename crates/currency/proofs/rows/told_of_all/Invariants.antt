use Rattle.std.proofs.Common.{◌≡◌, ◌+◌, length}
use Rattle.graph_homes.specs.Homed.{homed_view}
use Rattle.currency_hiding.specs.Changes.{log_of}
use Rattle.currency_hiding.specs.Found.{IsTeller}
use Rattle.currency.specs.Evident.{AreToldEvident}
use Rattle.currency.specs.Sound.{AreFunctionsTold}
use Rattle.currency.proofs.rows.told_of_all.Given as goal

abbrev pub invariant-loop-f : goal.invariant-loop-f
invariant-loop-f l = record {
  so : AreFunctionsTold (homed_view l.homed) l.places l.f l.told;
  teller : IsTeller l.teller;
  log : log_of l.teller.changes ≡ (homed_view l.homed).unit.log;
  flow : l.teller.search.flow.table.now ≡ l.flow;
  evident : AreToldEvident (homed_view l.homed).unit.log l.flow (homed_view l.homed) l.told;
  count : length l.told.by_place.items ≡ length l.places.rows.items + 1;
}
