-- The computations of reached code are among those that are numbered.
use Rattle.std.proofs.Common.{◌≡◌, inl, inr, ℕ, zero, suc, ◌+◌, Bool, true, List, [], ◌∷◌, ◌++◌, length, map, Option, Some, None, refl, sym, ap, ◌∙◌, subst, arith}
use Rattle.std.specs.Prelude.{if◌then◌else◌, option_map, slice_get}
use Rattle.std.proofs.lemmas.Option.{none-some, same_Some, slice_get-map}
use Rattle.graph_core.specs.Graphs.{Instruction, Block}
use Rattle.graph_core.specs.Computations.{Computation, computed_by}
use Rattle.motion_pass_points.specs.declared.computation.Computation as declared-computation
use Rattle.motion_pass_points.specs.MotionPointsComputing.{computation_view, computed_along, with_some}
use Rattle.motion_pass_points.specs.Numbers.{AreOnce, none, again, first, computed_in}
use Rattle.motion_pass_points.proofs.Numbering.{snoc_cases, snoc_new, snoc_old}

-- one is at some place of a list
abbrev pub IsIn : {A : Type 0} → A → List A → Type 0
IsIn a list = (k : ℕ) × (slice_get list k ≡ Some a)

in_rest : {A : Type 0} (xs ys : List A) (a : A) → IsIn a ys → IsIn a (xs ++ ys)
in_rest [] ys a is = is
in_rest (x ∷ xs) ys a is = (let more = in_rest xs ys a is in (suc more.0, more.1))

-- each of a list is among those that have each once
pub in_once : {A : Type 0} {list once : List A} → AreOnce list once → (a : A) → IsIn a list → IsIn a once
in_once none a is = absurd (none-some a is.1)
in_once (again {list} {once} {a = b} k was at) a is = elim (snoc_cases list b is.0 a is.1) [
  | inl old ↦ in_once was a (is.0, old)
  | inr new ↦ (k, at ∙ ap Some new.1)
]
in_once (first {list} {once} {a = b} was new_one) a is = elim (snoc_cases list b is.0 a is.1) [
  | inl old ↦ (let before = in_once was a (is.0, old) in (before.0, snoc_old once (b ∷ []) before.0 a before.1))
  | inr new ↦ (length once, snoc_new once b ∙ ap Some new.1)
]

with_more : (o : Option Computation) (rest : List Computation) (e : Computation) → IsIn e rest → IsIn e (with_some o rest)
with_more None rest e is = is
with_more (Some d) rest e is = (suc is.0, is.1)

-- what an instruction computes is computed along
pub in_along : (instructions : List Instruction) (index : ℕ) (i : Instruction) → slice_get instructions index ≡ Some i → (e : Computation) → computed_by i ≡ Some e → IsIn e (computed_along instructions)
in_along [] index i at e does = absurd (none-some i at)
in_along (j ∷ rest) zero i at e does = subst (λ o. IsIn e (with_some o (computed_along rest))) (sym (ap computed_by (same_Some j i at) ∙ does)) (0, refl)
in_along (j ∷ rest) (suc index) i at e does = with_more (computed_by j) (computed_along rest) e (in_along rest index i at e does)

-- and in the blocks that are told
pub in_blocks : (told : ℕ → Bool) (start : ℕ) (blocks : List Block) (place n : ℕ) (b : Block) → slice_get blocks place ≡ Some b → n ≡ start + place → told n ≡ true → (e : Computation) → IsIn e (computed_along b.instructions) → IsIn e (computed_in told start blocks)
in_blocks told start [] place n b at same is e here = absurd (none-some b at)
in_blocks told start (c ∷ more) zero n b at same is e here =
    let first_one : start ≡ n = omega (arith, same) in
    let all : (if told start then computed_along c.instructions else []) ≡ computed_along b.instructions = ap (λ (t : Bool). if t then computed_along c.instructions else []) (ap told first_one ∙ is) ∙ ap (λ (d : Block). computed_along d.instructions) (same_Some c b at) in
    subst (λ xs. IsIn e (xs ++ computed_in told (start + 1) more)) (sym all) (here.0, snoc_old (computed_along b.instructions) (computed_in told (start + 1) more) here.0 e here.1)
in_blocks told start (c ∷ more) (suc place) n b at same is e here =
    in_rest (if told start then computed_along c.instructions else []) (computed_in told (start + 1) more) e (in_blocks told (start + 1) more place n b at (omega (arith, same)) is e here)

-- a computation as the code has it
pub raw_there : (items : List declared-computation.Computation) (k : ℕ) (e : Computation) → slice_get (map computation_view items) k ≡ Some e → (c : declared-computation.Computation) × ((slice_get items k ≡ Some c) × (computation_view c ≡ e))
raw_there items k e at = by (slice_get items k) (sym (slice_get-map computation_view items k) ∙ at) refl
  where
    by : (o : Option declared-computation.Computation) → option_map computation_view (slice_get items k) ≡ Some e → slice_get items k ≡ o → (c : declared-computation.Computation) × ((slice_get items k ≡ Some c) × (computation_view c ≡ e))
    by None viewed is = absurd (none-some e (sym (ap (option_map computation_view) is) ∙ viewed))
    by (Some c) viewed is = (c, (is, same_Some (computation_view c) e (sym (ap (option_map computation_view) is) ∙ viewed)))
