use Rattle.std.proofs.Common.{◌≡◌, ℕ, ◌&&◌, ◌==◌, take}
use Rattle.std.specs.Prelude.{slice_index}
use Rattle.std.specs.List.{position_from}
use Rattle.std.specs.BTreeMap as tree
use Rattle.image_form_sections.specs.Layouts.{node_cmp, rows_in}
use Rattle.image_form_sections.proofs.node_rules.first_nodes.Given as goal

abbrev pub invariant-loop-node : goal.invariant-loop-node
invariant-loop-node l = (key : ℕ × ℕ × ℕ) → tree.get node_cmp l.nodes key ≡ position_from (λ q. slice_index q 0 == key.0 && slice_index q 1 == key.1 && slice_index q 2 == key.2) 0 (take l.node (rows_in l.layout.nodes))
