-- The stops of code behind instructions.
use Rattle.std.specs.Prelude.{ℕ, List, [], ◌∷◌}
use Rattle.graph_core.specs.Graphs.{Instruction}
use Rattle.rv_emit_instructions.specs.Stops.{shown_behind}

-- each instruction adds to what is shown before it
abbrev pub shown_after : (entry : ℕ) → List Instruction → List ℕ → List ℕ
shown_after entry [] shown = shown
shown_after entry (i ∷ more) shown = shown_after entry more (shown_behind entry i shown)
