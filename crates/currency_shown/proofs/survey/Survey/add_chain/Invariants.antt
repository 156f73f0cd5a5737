use Rattle.std.proofs.Common.{◌≡◌, ℕ, drop, false, true}
use Rattle.std.specs.Prelude.{◌⊎◌}
use Rattle.graph_core.specs.Graphs.{end_view, graph_view}
use Rattle.currency_shown.specs.declared.found.Found as declared-found
use Rattle.currency_shown.specs.declared.states.States as declared-states
use Rattle.currency_shown.specs.Chains.{AreFullNext, IsCourse}
use Rattle.currency_shown.specs.Found.{is_met}
use Rattle.currency_shown.specs.Survey.{IsChainSound, IsExtended, IsMarkedIn}
use Rattle.currency_shown.proofs.survey.Survey.add_chain.Given as goal

abbrev pub invariant-loop-number : goal.invariant-loop-number
invariant-loop-number l = record {
  extended : IsExtended l.self l.fn.found l.found;
  course : IsCourse l.self.function.now.graph.now.blocks.items l.self.chains.now (end_view l.end) (drop l.number-index l.chain);
  full : AreFullNext l.self.function.now (end_view l.end) l.state;
  only : (p : ℕ) → is_met l.found p ≡ true → (is_met l.fn.found p ≡ true) ⊎ IsMarkedIn (graph_view l.self.function.now.graph.now).blocks l.chain p;
  fresh : (p : ℕ) → IsMarkedIn (graph_view l.self.function.now.graph.now).blocks (drop l.number-index l.chain) p → is_met l.found p ≡ false;
  sound : (states : declared-states.States) (later : declared-found.Found) → IsExtended l.self l.found later
      → IsChainSound l.self states later (drop l.number-index l.chain) (end_view l.end) l.state → IsChainSound l.self states later l.chain (end_view l.fn.end) l.fn.state;
}
