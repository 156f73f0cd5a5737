use Rattle.std.proofs.Common.{◌≡◌, ◌≤◌, ◌-◌, drop, length}
use Rattle.image_form.specs.Views.{viewed}
use Rattle.stop_engine_tables.specs.VariableLists.{next_of}
use Rattle.stop_engine_view.specs.Pointers.{local_target}
use Rattle.stop_engine_texts.proofs.pointers.local_target.Given as goal

abbrev pub invariant-loop-index : goal.invariant-loop-index
invariant-loop-index l =
    (l.index ≤ length (viewed l.image).variables) × (next_of l.function l.index (drop l.index (viewed l.image).variables) ≡ l.index)
    × (local_target l.address l.function l.frame l.depth l.index (drop l.index (viewed l.image).variables) ≡ local_target l.address l.function l.frame l.depth 0 (viewed l.image).variables)

abbrev pub decreases-loop-index : goal.decreases-loop-index
decreases-loop-index l = length (viewed l.image).variables - l.index
