-- What flows against execution tells where a computation is not down-safe.
use Rattle.std.proofs.Common.{◌≡◌, ◌↔◌, inl, inr, ℕ, ◌<◌, Bool, true, false, true≢false, not, ◌&&◌, ◌||◌, List, [], ◌∷◌, ◌++◌, length, Some, None, refl, sym, ap, ◌∙◌, subst}
use Rattle.std.specs.Prelude.{slice_get}
use Rattle.std.proofs.lemmas.Bool.{or_cases, and_parts, and_from, or_left, or_right, not_from_false}
use Rattle.std.proofs.lemmas.Option.{slice_get_within}
use Rattle.graph_core.specs.Graphs.{Instruction, End, Return, Jump, Branch, Block}
use Rattle.graph_core.specs.Uses.{targets_of}
use Rattle.graph_core.specs.Paths.{Among}
use Rattle.graph_core.specs.Computations.{Computation}
use Rattle.motion_pass_points.specs.Computing.{does, spoils}
use Rattle.motion_pass_points.specs.Ways.{Point, within, along, passes, leaves, enters, IsUnsafe, ends, spoiled, ahead}
use Rattle.motion_pass_points.proofs.Unsafe.{unsafe_along, unsafe_before}
use Rattle.motion_pass_points.specs.MotionPointsComputing.{Told, nothing, told_along}
use Rattle.motion_pass_problems.specs.Flowing.{HasEdge, FlowsBy, IsBrought, begin, made_by, passed_by}
use Rattle.motion_pass_problems.specs.Facts.{AreReached, is_return}
use Rattle.motion_pass_problems.proofs.Bools.{or_true}
use Rattle.motion_pass_problems.proofs.Walks.{told_first, told_is_written, unsafe_walk}
use Rattle.motion_pass_problems.proofs.Standing.{Stands, stands_at, stands_on, edge_from, one_block}
use Rattle.motion_pass_problems.proofs.Reaching.{some_or_none}

-- what is told of a block
abbrev pub told_of : Computation → Block → Told
told_of e b = told_along e b.instructions nothing

-- THE FIRST PROBLEM: a write of an operand comes before the computation, in a block or behind it.
pub record IsUnsafeProblem (blocks : List Block) (reached : ℕ → Bool) (e : Computation) (made passed begins : ℕ → Bool) : Type 0 where
  pub makes : (n : ℕ) (b : Block) → slice_get blocks n ≡ Some b → reached n ≡ true → made n ≡ ((told_of e b).written && not (told_of e b).first)
  pub lets : (n : ℕ) (b : Block) → slice_get blocks n ≡ Some b → reached n ≡ true → passed n ≡ not (told_of e b).first
  pub starts : (n : ℕ) (b : Block) → slice_get blocks n ≡ Some b → begins n ≡ is_return b.end
  pub none_made : (n : ℕ) → slice_get blocks n ≡ None → made n ≡ false
  pub none_passed : (n : ℕ) → slice_get blocks n ≡ None → passed n ≡ false

-- the start of a block, by what is told of it
pub unsafe_start : (e : Computation) (b : Block) (u : Bool) → unsafe_along e b.instructions u ≡ (((told_of e b).written || u) && not (told_of e b).first)
unsafe_start e b u = unsafe_walk e b.instructions u ∙ sym (λ i. (told_is_written e b.instructions nothing i || u) && not (told_first e b.instructions nothing i))

-- Flags of the ends of blocks tell where they are not down-safe.
pub record AreUnsafe (blocks : List Block) (reached : ℕ → Bool) (e : Computation) (flags : ℕ → Bool) : Type 0 where
  pub each : (n : ℕ) (before rest : List Instruction) (f : End) → Stands blocks reached n before rest f → (unsafe_along e rest (flags n) ≡ true) ↔ IsUnsafe blocks e (within n rest f)

module _ (blocks : List Block) (reached : ℕ → Bool) (are : AreReached blocks reached) (e : Computation) (flags made passed begins_at : ℕ → Bool)
    (flow : (n : ℕ) → n < length blocks → (flags n ≡ true) ↔ IsBrought (FlowsBy blocks reached false) made passed begins_at n) (is : IsUnsafeProblem blocks reached e made passed begins_at) where
  returns : (n : ℕ) (f : End) → is_return f ≡ true → IsUnsafe blocks e (within n [] f)
  returns n (Jump l) so = absurd (true≢false (sym so))
  returns n (Branch c a b l r) so = absurd (true≢false (sym so))
  returns n (Return a) so = ends

  -- before a block, what is told of it makes or lets pass what is not down-safe
  enter : (m n : ℕ) → HasEdge blocks reached n m → (b : Block) → slice_get blocks m ≡ Some b → (u : Bool) → (u ≡ true → IsUnsafe blocks e (within m [] b.end)) → (((told_of e b).written || u) && not (told_of e b).first) ≡ true → (g : End) → Among m (targets_of g) → IsUnsafe blocks e (within n [] g)
  enter m n edge b at u end so g among = ahead refl (leaves among) (ahead refl (enters b at) (unsafe_before blocks e m b.instructions b.end u end (unsafe_start e b u ∙ so)))

  brought_unsafe : {n : ℕ} → IsBrought (FlowsBy blocks reached false) made passed begins_at n → (b : Block) → slice_get blocks n ≡ Some b → IsUnsafe blocks e (within n [] b.end)
  brought_unsafe {n} (begin so) b at = returns n b.end (sym (is.starts n b at) ∙ so)
  brought_unsafe {n} (made_by {m} edge so) b at = elim (some_or_none (slice_get blocks m)) [
    | inl there ↦ (let both = and_parts (told_of e there.0).written (not (told_of e there.0).first) (sym (is.makes m there.0 there.1 (are.closed n m edge there.0 there.1)) ∙ so) in
        enter m n edge there.0 there.1 false (λ never. absurd (true≢false (sym never))) (and_from ((told_of e there.0).written || false) (not (told_of e there.0).first) (or_left (told_of e there.0).written false both.0) both.1) b.end (subst (λ (c : Block). Among m (targets_of c.end)) (one_block blocks reached n edge.block b edge.is at) edge.leads))
    | inr none ↦ absurd (true≢false (sym so ∙ is.none_made m none))
  ]
  brought_unsafe {n} (passed_by {m} edge so way) b at = elim (some_or_none (slice_get blocks m)) [
    | inl there ↦ go there.0 there.1 (brought_unsafe way there.0 there.1)
    | inr none ↦ absurd (true≢false (sym so ∙ is.none_passed m none))
  ]
    where
      go : (c : Block) → slice_get blocks m ≡ Some c → IsUnsafe blocks e (within m [] c.end) → IsUnsafe blocks e (within n [] b.end)
      go c there unsafe =
          enter m n edge c there true (λ yes. unsafe) (and_from ((told_of e c).written || true) (not (told_of e c).first) (or_true (told_of e c).written) (sym (is.lets m c there (are.closed n m edge c there)) ∙ so)) b.end (subst (λ (d : Block). Among m (targets_of d.end)) (one_block blocks reached n edge.block b edge.is at) edge.leads)

  -- what is not down-safe, flags tell
  abbrev Tells : Point → Type 0
  Tells (within n rest f) = (before : List Instruction) → Stands blocks reached n before rest f → unsafe_along e rest (flags n) ≡ true
  Tells (along n l) = HasEdge blocks reached n l → flags n ≡ true

  tells_more : (i : Instruction) (rest : List Instruction) (u : Bool) → does e i ≡ false → (spoils e i || unsafe_along e rest u) ≡ true → unsafe_along e (i ∷ rest) u ≡ true
  tells_more i rest u undone so = and_from (not (does e i)) (spoils e i || unsafe_along e rest u) (not_from_false (does e i) undone) so

  unsafe_tells : {p : Point} → IsUnsafe blocks e p → Tells p
  unsafe_tells (ends {n} {a}) = λ before s. (flow n (slice_get_within blocks n s.block s.is)).1 (begin (is.starts n s.block s.is ∙ ap is_return (sym s.end)))
  unsafe_tells {p = within n [] f} (spoiled undone so) = absurd (true≢false (sym so))
  unsafe_tells {p = within n (i ∷ rest) f} (spoiled undone so) = λ before s. tells_more i rest (flags n) undone (or_left (spoils e i) (unsafe_along e rest (flags n)) so)
  unsafe_tells {p = along n l} (spoiled undone so) = absurd (true≢false (sym so))
  unsafe_tells (ahead undone (passes {n} {i} {rest} {f}) unsafe) = on (unsafe_tells unsafe)
    where
      on : Tells (within n rest f) → Tells (within n (i ∷ rest) f)
      on tells before s = tells_more i rest (flags n) undone (or_right (spoils e i) (unsafe_along e rest (flags n)) (tells (before ++ i ∷ []) (stands_on blocks reached s)))
  unsafe_tells (ahead undone (leaves {n} {l} {f} among) unsafe) = on (unsafe_tells unsafe)
    where
      on : Tells (along n l) → Tells (within n [] f)
      on tells before s = tells (edge_from blocks reached s among)
  unsafe_tells (ahead undone (enters {n} {l} b at) unsafe) = on (unsafe_tells unsafe)
    where
      on : Tells (within l b.instructions b.end) → Tells (along n l)
      on tells edge =
          let comes = are.closed n l edge b at in
          let start = and_parts ((told_of e b).written || flags l) (not (told_of e b).first) (sym (unsafe_start e b (flags l)) ∙ tells [] (stands_at blocks reached l b at comes)) in
          let size = slice_get_within blocks n edge.block edge.is in
          elim (or_cases (told_of e b).written (flags l) start.0) [
            | inl written ↦ (flow n size).1 (made_by edge (is.makes l b at comes ∙ and_from (told_of e b).written (not (told_of e b).first) written start.1))
            | inr end ↦ (flow n size).1 (passed_by edge (is.lets l b at comes ∙ start.1) ((flow l (slice_get_within blocks l b at)).0 end))
          ]

  -- THE FLAGS TELL WHERE THE COMPUTATION IS NOT DOWN-SAFE.
  pub are_unsafe : AreUnsafe blocks reached e flags
  are_unsafe = record {
    each = λ n before rest f s. (
      λ so. subst (λ g. IsUnsafe blocks e (within n rest g)) (sym s.end) (unsafe_before blocks e n rest s.block.end (flags n) (λ end. brought_unsafe ((flow n (slice_get_within blocks n s.block s.is)).0 end) s.block s.is) so),
      λ unsafe. unsafe_tells unsafe before s,
    );
  }
