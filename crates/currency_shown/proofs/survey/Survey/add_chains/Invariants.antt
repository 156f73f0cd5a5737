use Rattle.std.proofs.Common.{◌≡◌, ◌<◌, ℕ, Some, take, true}
use Rattle.std.specs.Prelude.{slice_get}
use Rattle.std.specs.Global.{Vec}
use Rattle.graph_core.specs.Graphs.{graph_view}
use Rattle.currency_shown.specs.declared.found.Found as declared-found
use Rattle.currency_shown.specs.Found.{is_met}
use Rattle.currency_shown.specs.Survey.{AreChainsSound, AreMet, IsExtended, IsMarkedIn}
use Rattle.currency_shown.proofs.survey.Survey.add_chains.Given as goal

abbrev pub invariant-loop-chain : goal.invariant-loop-chain
invariant-loop-chain l = record {
  same : l.states ≡ l.fn.states;
  met : AreMet l.self l.found;
  only : (p : ℕ) → is_met l.found p ≡ true → (j : ℕ) × (j < l.chain-index) × (c : Vec ℕ) × (slice_get l.self.chains.now j ≡ Some c) × IsMarkedIn (graph_view l.self.function.now.graph.now).blocks c.items p;
  sound : (later : declared-found.Found) → IsExtended l.self l.found later → AreChainsSound l.self l.fn.states later (take l.chain-index l.self.chains.now);
}
