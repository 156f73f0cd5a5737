-- Instructions that compute nothing of which a recipe could tell.
use Rattle.std.proofs.Common.{◌≡◌, ◌≢◌, ℕ, suc, List, [], ◌∷◌, refl, sym, ◌∙◌}
use Rattle.word_base.specs.declared.operation.Operation.{Operation}
use Rattle.word_base.specs.declared.operation.Truncation.{Truncation}
use Rattle.places.specs.declared.flow.Assignment.{Assignment}
use Rattle.graph_core.specs.declared.instruction.Instr as declared-instr
use Rattle.graph_core.specs.declared.instruction.Instr.TheVariants as instr
use Rattle.graph_core.specs.declared.name.Name as declared-name
use Rattle.graph_core.specs.declared.name.Operand as declared-operand
use Rattle.graph_core.specs.Graphs.{Operand, Recipe, Instruction, Move, Operate, Truncate, Graph, instruction_view}
use Rattle.dead_pass_writes.specs.declared.writes.Spot.{Spot}
use Rattle.dead_pass_notes.specs.Spots.{left_at, end_at}
use Rattle.dead_pass_notes.specs.declared.recipes.NotePoint.{NotePoint}
use Rattle.dead_pass_notes.specs.Said.{IsRightSide, moved, truncated, operated}
use Rattle.dead_pass_notes.specs.Sources.{noted, IsMade}
use Rattle.dead_pass_notes.proofs.Sources.{front_same}

-- neither a truncation nor an operation
module _ (item : declared-instr.Instr) (no_truncate : (x : declared-name.Name) (t : Truncation) (a : declared-operand.Operand) → item ≡ instr.Truncate x t a → ⊥)
    (no_operate : (x : declared-name.Name) (o : Operation) (a b : declared-operand.Operand) → item ≡ instr.Operate x o a b → ⊥) where
  not_truncate : (x : ℕ) (t : Truncation) (a : Operand) → instruction_view item ≡ Truncate x t a → ⊥
  not_truncate x t a = by item refl
    where
      by : (i : declared-instr.Instr) → item ≡ i → instruction_view i ≡ Truncate x t a → ⊥
      by (instr.Truncate y u b) same e = no_truncate y u b same
      by (instr.Marker p) same e = cc
      by (instr.Note y v) same e = cc
      by (instr.Move y b) same e = cc
      by (instr.Operate y o b d) same e = cc
      by (instr.Same y b d) same e = cc
      by (instr.Address y object) same e = cc
      by (instr.Load y w l) same e = cc
      by (instr.Store w l b) same e = cc
      by (instr.Zero object words) same e = cc
      by (instr.CopyWords object bytes words) same e = cc
      by (instr.Call y f all) same e = cc

  not_operate : (x : ℕ) (o : Operation) (a b : Operand) → instruction_view item ≡ Operate x o a b → ⊥
  not_operate x o a b = by item refl
    where
      by : (i : declared-instr.Instr) → item ≡ i → instruction_view i ≡ Operate x o a b → ⊥
      by (instr.Operate y p c d) same e = no_operate y p c d same
      by (instr.Marker p) same e = cc
      by (instr.Note y v) same e = cc
      by (instr.Move y c) same e = cc
      by (instr.Truncate y u c) same e = cc
      by (instr.Same y c d) same e = cc
      by (instr.Address y object) same e = cc
      by (instr.Load y w l) same e = cc
      by (instr.Store w l c) same e = cc
      by (instr.Zero object words) same e = cc
      by (instr.CopyWords object bytes words) same e = cc
      by (instr.Call y f all) same e = cc

  pub none_made : {assignments : List Assignment} → (g : Graph) (note : NotePoint) (d : Spot) → left_at g d.block (suc d.left) ≡ instruction_view item ∷ left_at g d.block d.left
      → ((x : ℕ) (a : Operand) (rest : List Instruction) → left_at g d.block (suc d.left) ≢ Move x a ∷ rest) → (r : Recipe) → IsMade assignments g note d r → ⊥
  none_made {assignments} g note d is no_copy r made = by made.right made.is
    where
      by : {i : Instruction} {q : Recipe} → IsRightSide assignments g note.place.0 note.spot.block (noted g note) (end_at g note.spot.block) d.block (left_at g d.block d.left) (end_at g d.block) i q → left_at g d.block (suc d.left) ≡ i ∷ left_at g d.block d.left → ⊥
      by (moved {x = x} {a = a} s) e = no_copy x a (left_at g d.block d.left) e
      by (truncated {x = x} {at = t} {a = a} s) e = not_truncate x t a (front_same (sym is ∙ e))
      by (operated {x = x} {o = o} {a = a} {b = b} s w) e = not_operate x o a b (front_same (sym is ∙ e))
