use Rattle.std.proofs.Common.{◌≡◌, ◌<◌, ℕ, false, length, take, true}
use Rattle.graph_core.specs.Graphs.{end_view}
use Rattle.graph_core.specs.Paths.{Among}
use Rattle.currency_shown.specs.Chains.{AreFull, AreFullNext, IsWithinSome, comes_to, ranks}
use Rattle.currency_shown.proofs.Targets.{label_numbers}
use Rattle.currency_shown.proofs.states.States.go_on.Given as goal

abbrev pub invariant-loop-target : goal.invariant-loop-target
invariant-loop-target l = record {
  full : AreFull l.function l.fn.self → AreFullNext l.function (end_view l.end) l.state → AreFull l.function l.self;
  quiet : l.is_new ≡ false → l.self ≡ l.fn.self;
  within : l.is_new ≡ false → (k : ℕ) → Among k (take l.target-index (label_numbers l.target-items)) → k < length l.fn.self.arrived.items → IsWithinSome (comes_to l.fn.self k) l.state;
  falls : l.is_new ≡ true → AreFull l.function l.fn.self → AreFullNext l.function (end_view l.end) l.state → ranks l.function l.self < ranks l.function l.fn.self;
}
