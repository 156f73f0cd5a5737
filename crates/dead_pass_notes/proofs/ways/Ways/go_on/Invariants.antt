use Rattle.std.proofs.Common.{◌≡◌, ◌*◌, ◌<◌, ℕ, length, map, take}
use Rattle.graph_core.specs.Graphs.{end_view}
use Rattle.graph_core.specs.Paths.{Among}
use Rattle.graph_core.specs.declared.name.Label.{Label}
use Rattle.dead_pass_notes.specs.Scans.{AreSeen, HasCome, HasGrown}
use Rattle.dead_pass_notes.specs.declared.scans.Scanned.TheVariants.{Leaves}
use Rattle.dead_pass_notes.proofs.ways.Ways.go_on.Given as goal

abbrev pub invariant-loop-target : goal.invariant-loop-target
invariant-loop-target l = record {
  count : length l.self.seen.items ≡ length l.fn.self.seen.items;
  seen : AreSeen l.fn.self → AreSeen l.self;
  grown : HasGrown (end_view l.end) (Leaves l.is_written) l.fn.self.ahead.items l.self.ahead.items;
  come : (count : ℕ) → length l.fn.self.seen.items ≡ count * 2 → AreSeen l.fn.self → (k : ℕ) → Among k (map (λ (label : Label). label.0) (take l.target-index l.target-items)) → k < count → HasCome l.self.ahead.items k l.is_written;
}
