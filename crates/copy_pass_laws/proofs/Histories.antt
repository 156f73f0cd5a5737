-- What is true behind two histories that were passed alike.
use Rattle.std.proofs.Common.{◌≡◌, ℕ, Bool, false, [], ◌∷◌, refl, ap, ◌∙◌}
use Rattle.std.specs.Prelude.{◌==◌, ◌&&◌, ◌||◌, if◌then◌else◌}
use Rattle.event_runs.specs.Agreement.{Pairs}
use Rattle.graph_core.specs.Graphs.{Instruction, Graph}
use Rattle.graph_core.specs.Paths.{History, place_of, place_by, writes, is_marker, is_call, notes, called, bound_at, written, unnoted, owed, owed_by, is_bound}
use Rattle.copy_pass_rule.specs.Alike.{AreAlikeInstructions, marker}
use Rattle.copy_pass_laws.specs.Alike.{WerePassedAlike}
use Rattle.copy_pass_laws.proofs.Instructions.{alike_writes, alike_marker, alike_place, alike_call, alike_notes, alike_owed}

module _ (Reads : (x read : ℕ) → Type 0) where
  -- The place in force is the same.
  pub same_place : (h k : History) → Pairs (WerePassedAlike Reads) h k → place_of k ≡ place_of h
  same_place [] [] all = refl
  same_place [] (q ∷ k) all = absurd all
  same_place (p ∷ h) [] all = absurd all
  same_place (p ∷ h) (q ∷ k) all = alike_place Reads all.0.instruction (place_of k) ∙ ap (place_by p.instruction) (same_place h k all.1)

  -- A call was passed in it, or was not.
  pub same_called : (h k : History) → Pairs (WerePassedAlike Reads) h k → called k ≡ called h
  same_called [] [] all = refl
  same_called [] (q ∷ k) all = absurd all
  same_called (p ∷ h) [] all = absurd all
  same_called (p ∷ h) (q ∷ k) all =
      ap (λ b. if b then false else is_call q.instruction || called k) (alike_marker Reads all.0.instruction)
      ∙ ap (λ b. if is_marker p.instruction then false else b || called k) (alike_call Reads all.0.instruction)
      ∙ ap (λ b. if is_marker p.instruction then false else is_call p.instruction || b) (same_called h k all.1)

  module _ (x : ℕ) where
    -- A scalar was written behind its last note, or was not.
    pub same_unnoted : (h k : History) → Pairs (WerePassedAlike Reads) h k → unnoted x k ≡ unnoted x h
    same_unnoted [] [] all = refl
    same_unnoted [] (q ∷ k) all = absurd all
    same_unnoted (p ∷ h) [] all = absurd all
    same_unnoted (p ∷ h) (q ∷ k) all =
        ap (λ b. if b then false else writes x q.instruction || unnoted x k) (alike_notes Reads x all.0.instruction)
        ∙ ap (λ b. if notes x p.instruction then false else b || unnoted x k) (alike_writes Reads x all.0.instruction)
        ∙ ap (λ b. if notes x p.instruction then false else writes x p.instruction || b) (same_unnoted h k all.1)

    -- A note of it is owed, or is not.
    pub same_owed : (assigns : ℕ → Bool) (h k : History) → Pairs (WerePassedAlike Reads) h k → owed assigns x k ≡ owed assigns x h
    same_owed assigns [] [] all = refl
    same_owed assigns [] (q ∷ k) all = absurd all
    same_owed assigns (p ∷ h) [] all = absurd all
    same_owed assigns (p ∷ h) (q ∷ k) all = alike_owed Reads assigns x all.0.instruction (owed assigns x k) ∙ ap (owed_by assigns x p.instruction) (same_owed assigns h k all.1)

    -- A marker binds the same, where the entry and the parameters are the same.
    same_bound : (g h : Graph) → h.entry ≡ g.entry → h.parameters ≡ g.parameters → {i j : Instruction} → AreAlikeInstructions Reads i j → bound_at h x j ≡ bound_at g x i
    same_bound g h entry parameters (marker {p = p}) = ap (λ n. (p == n) && is_bound x h.parameters) entry ∙ ap (λ ps. (p == g.entry) && is_bound x ps) parameters
    same_bound g h entry parameters _ = refl

    -- It was written in the place in force, or was not.
    pub same_written : (g h : Graph) → h.entry ≡ g.entry → h.parameters ≡ g.parameters → (ps qs : History) → Pairs (WerePassedAlike Reads) ps qs → written h x qs ≡ written g x ps
    same_written g h entry parameters [] [] all = refl
    same_written g h entry parameters [] (q ∷ qs) all = absurd all
    same_written g h entry parameters (p ∷ ps) [] all = absurd all
    same_written g h entry parameters (p ∷ ps) (q ∷ qs) all =
        ap (λ b. if b then bound_at h x q.instruction else writes x q.instruction || written h x qs) (alike_marker Reads all.0.instruction)
        ∙ ap (λ b. if is_marker p.instruction then b else writes x q.instruction || written h x qs) (same_bound g h entry parameters all.0.instruction)
        ∙ ap (λ b. if is_marker p.instruction then bound_at g x p.instruction else b || written h x qs) (alike_writes Reads x all.0.instruction)
        ∙ ap (λ b. if is_marker p.instruction then bound_at g x p.instruction else writes x p.instruction || b) (same_written g h entry parameters ps qs all.1)
