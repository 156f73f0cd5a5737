use Rattle.std.proofs.Common.{◌≡◌, ℕ, Some, take}
use Rattle.graph_core.specs.Graphs.{end_view}
use Rattle.graph_core.specs.Paths.{Among}
use Rattle.currency_shown.specs.Chains.{IsNext, IsStruck, name_at}
use Rattle.currency_shown.proofs.Targets.{label_numbers}
use Rattle.currency_shown.proofs.chains.strike_edges.Given as goal

abbrev pub invariant-loop-target : goal.invariant-loop-target
invariant-loop-target l = record {
  struck : IsStruck l.fn.before.items l.before.items;
  edges : (k : ℕ) → Among k (take l.target-index (label_numbers l.target-items)) → (m : ℕ) → name_at l.before.items k ≡ Some m → (m ≡ l.number) × IsNext l.positions l.number (end_view l.end) k;
}
