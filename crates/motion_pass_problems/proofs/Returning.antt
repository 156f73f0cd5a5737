-- Edges back to the first block.
use Rattle.std.proofs.Common.{◌≡◌, ℕ, ◌+◌, ◌<◌, inl, inr, Bool, true, List, Some, sym, ap, ◌∙◌, subst, arith}
use Rattle.std.specs.Prelude.{slice_get}
use Rattle.std.proofs.lemmas.Bool.{cases_eq}
use Rattle.std.proofs.lemmas.Option.{same_Some}
use Rattle.graph_core.specs.Graphs.{Block}
use Rattle.graph_core.specs.Uses.{targets_of}
use Rattle.graph_core.specs.Paths.{Among}
use Rattle.motion_pass_problems.specs.Flowing.{HasEdge}

-- one block more does not lead to the first
pub back_on : (blocks : List Block) (reached : ℕ → Bool) (number : ℕ) (b : Block) → slice_get blocks number ≡ Some b → (reached number ≡ true → Among 0 (targets_of b.end) → ⊥) → ((m : ℕ) → m < number → HasEdge blocks reached m 0 → ⊥)
    → (m : ℕ) → m < number + 1 → HasEdge blocks reached m 0 → ⊥
back_on blocks reached number b at never was m lt edge = elim (cases_eq m number) [
  | inl same ↦
      let one : edge.block ≡ b = same_Some edge.block b (sym edge.is ∙ ap (slice_get blocks) same ∙ at) in
      never (sym (ap reached same) ∙ edge.comes) (subst (λ (c : Block). Among 0 (targets_of c.end)) one edge.leads)
  | inr apart ↦ was m (omega (arith, lt, apart)) edge
]
