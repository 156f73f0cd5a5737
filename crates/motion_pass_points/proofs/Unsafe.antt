-- Where a computation is not down-safe, block by block.
use Rattle.std.proofs.Common.{◌≡◌, ◌⊎◌, inl, inr, ℕ, Bool, true, false, true≢false, not, ◌&&◌, ◌||◌, Option, Some, None, List, [], ◌∷◌, ◌++◌, refl, sym, ap, ◌∙◌, subst}
use Rattle.std.specs.Prelude.{slice_get}
use Rattle.std.proofs.lemmas.Bool.{cases_Bool}
use Rattle.std.proofs.lemmas.Option.{same_Some, none-some}
use Rattle.graph_core.specs.Graphs.{Operand, Instruction, End, Return, Block}
use Rattle.graph_core.specs.Uses.{targets_of}
use Rattle.graph_core.specs.Paths.{Among}
use Rattle.graph_core.specs.Computations.{Computation}
use Rattle.motion_pass_points.specs.Computing.{does, spoils}
use Rattle.motion_pass_points.specs.Ways.{Point, within, along, does_at, spoils_at, Leads, passes, leaves, enters, IsUnsafe, ends, spoiled, ahead}

-- whether it is not, before what is left of a block, from whether it is not at its end
abbrev pub unsafe_along : Computation → List Instruction → Bool → Bool
unsafe_along e [] u = u
unsafe_along e (i ∷ rest) u = not (does e i) && (spoils e i || unsafe_along e rest u)

module _ (blocks : List Block) (e : Computation) where
  pub unsafe_before : (n : ℕ) (rest : List Instruction) (f : End) (u : Bool) → (u ≡ true → IsUnsafe blocks e (within n [] f)) → unsafe_along e rest u ≡ true → IsUnsafe blocks e (within n rest f)
  unsafe_before n [] f u end so = end so
  unsafe_before n (i ∷ rest) f u end so = by (does e i) (spoils e i) refl refl (unsafe_before n rest f u end)
    where
      by : (d s : Bool) → does e i ≡ d → spoils e i ≡ s → (unsafe_along e rest u ≡ true → IsUnsafe blocks e (within n rest f)) → IsUnsafe blocks e (within n (i ∷ rest) f)
      by true s p q next = absurd (true≢false (sym so ∙ ap (λ b. not b && (spoils e i || unsafe_along e rest u)) p))
      by false true p q next = spoiled p q
      by false false p q next = ahead p passes (next (sym (ap (λ b. not b && (spoils e i || unsafe_along e rest u)) p ∙ ap (λ b. b || unsafe_along e rest u) q) ∙ so))

  -- and back
  pub unsafe_behind : (n : ℕ) (rest : List Instruction) (f : End) (u : Bool) → (IsUnsafe blocks e (within n [] f) → u ≡ true) → IsUnsafe blocks e (within n rest f) → unsafe_along e rest u ≡ true
  unsafe_behind n [] f u end is = end is
  unsafe_behind n (i ∷ rest) f u end (spoiled p q) = ap (λ b. not b && (spoils e i || unsafe_along e rest u)) p ∙ ap (λ b. b || unsafe_along e rest u) q
  unsafe_behind n (i ∷ rest) f u end (ahead p passes is) =
      ap (λ b. not b && (spoils e i || unsafe_along e rest u)) p ∙ (ap (λ b. spoils e i || b) (unsafe_behind n rest f u end is) ∙ or_true (spoils e i))
    where
      or_true : (b : Bool) → (b || true) ≡ true
      or_true true = refl
      or_true false = refl
