-- The stops of code behind an instruction.
use Rattle.std.specs.Prelude.{ℕ, ◌==◌, not, List, ◌++◌}
use Rattle.graph_core.specs.Graphs.{Instruction, Marker}
use Rattle.rv_emit_words.specs.Shown.{stop_if}

-- A marker adds its place, unless that is the function's entry.
abbrev pub shown_behind : (entry : ℕ) → Instruction → List ℕ → List ℕ
shown_behind entry (Marker p) shown = shown ++ stop_if (not (p == entry)) p
shown_behind entry _ shown = shown
