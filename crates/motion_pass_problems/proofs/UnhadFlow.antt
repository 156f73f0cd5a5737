-- What flows with execution tells where a computation was not down-safe since an operand was written.
use Rattle.std.proofs.Common.{◌≡◌, ◌↔◌, inl, inr, ℕ, ◌<◌, Bool, true, false, true≢false, not, ◌&&◌, ◌||◌, List, [], ◌∷◌, ◌++◌, length, Some, refl, sym, ap, ◌∙◌, subst}
use Rattle.std.specs.Prelude.{slice_get}
use Rattle.std.proofs.lemmas.Bool.{cases_Bool, or_cases, and_parts, and_from, or_left, or_right}
use Rattle.std.proofs.lemmas.List.{append-nil}
use Rattle.std.proofs.lemmas.Option.{slice_get_within}
use Rattle.graph_core.specs.Graphs.{Instruction, End, Block}
use Rattle.graph_core.specs.Computations.{Computation}
use Rattle.motion_pass_points.specs.Computing.{does, spoils}
use Rattle.motion_pass_points.specs.Ways.{Point, within, along, passes, leaves, enters, IsUnsafe, ahead, IsUnhad, unhad_at_entry, unhad_behind, unhad_still}
use Rattle.motion_pass_points.specs.MotionPointsComputing.{Told, nothing, told_done, told_written, told_along}
use Rattle.motion_pass_problems.specs.Flowing.{HasEdge, FlowsBy, IsBrought, begin, made_by, passed_by}
use Rattle.motion_pass_problems.specs.Facts.{AreReached, AreUnhadEnds}
use Rattle.motion_pass_problems.proofs.Bools.{and_true, and_false, not_true}
use Rattle.motion_pass_problems.proofs.Walks.{told_snoc, unhad_walk, unhad_out, unhad_told}
use Rattle.motion_pass_problems.proofs.Standing.{Stands, stands_at, stands_behind, stands_on, edge_from, come_at, come_to, unsafe_here}
use Rattle.motion_pass_problems.proofs.UnsafeFlow.{told_of, AreUnsafe}

-- THE SECOND PROBLEM: what is not down-safe at the end of a block, nor done behind its last write of an operand.
pub record IsUnhadProblem (blocks : List Block) (reached : ℕ → Bool) (e : Computation) (unsafe made passed begins : ℕ → Bool) : Type 0 where
  pub makes : (n : ℕ) (b : Block) → slice_get blocks n ≡ Some b → reached n ≡ true → made n ≡ ((unsafe n && not (told_of e b).last) && (told_of e b).written)
  pub lets : (n : ℕ) (b : Block) → slice_get blocks n ≡ Some b → reached n ≡ true → passed n ≡ (unsafe n && not (told_of e b).last)
  pub starts : (b : Block) → slice_get blocks 0 ≡ Some b → begins 0 ≡ true
  pub only : (n : ℕ) → begins n ≡ true → n ≡ 0

-- what leaves a block of a number
abbrev pub leaving_of : (made passed comes : ℕ → Bool) → ℕ → Bool
leaving_of made passed comes n = made n || (comes n && passed n)

leaves_in : (u l w h : Bool) → (((u && not l) && w) || (h && (u && not l))) ≡ (u && (not l && (w || h)))
leaves_in true true w h = and_false h
leaves_in true false w h = ap (λ b. w || b) (and_true h)
leaves_in false l w h = and_false h

module _ (blocks : List Block) (reached : ℕ → Bool) (are : AreReached blocks reached) (e : Computation) (unsafe_ends flags made passed begins_at : ℕ → Bool) (unsafe_is : AreUnsafe blocks reached e unsafe_ends)
    (flow : (n : ℕ) → n < length blocks → (flags n ≡ true) ↔ IsBrought (FlowsBy blocks reached true) made passed begins_at n) (is : IsUnhadProblem blocks reached e unsafe_ends made passed begins_at) where
  unsafe_end : (n : ℕ) (b : Block) → slice_get blocks n ≡ Some b → reached n ≡ true → (unsafe_ends n ≡ true) ↔ IsUnsafe blocks e (within n [] b.end)
  unsafe_end n b at comes = unsafe_is.each n b.instructions [] b.end (stands_behind blocks reached n b at comes)

  -- what leaves a block, in one
  leaving_is : (n : ℕ) (b : Block) → slice_get blocks n ≡ Some b → reached n ≡ true → (x : Bool) → (made n || (x && passed n)) ≡ (unsafe_ends n && unhad_out (told_of e b) x)
  leaving_is n b at comes x = (λ i. is.makes n b at comes i || (x && is.lets n b at comes i)) ∙ leaves_in (unsafe_ends n) (told_of e b).last (told_of e b).written x

  -- along a block
  walked : {n : ℕ} {before : List Instruction} (rest : List Instruction) {f : End} → Stands blocks reached n before rest f → (x : Bool) → (x ≡ true → IsUnsafe blocks e (within n rest f) → IsUnhad blocks e (within n rest f))
      → unhad_walk e rest x ≡ true → IsUnsafe blocks e (within n [] f) → IsUnhad blocks e (within n [] f)
  walked [] s x so end unsafe = so end unsafe
  walked (i ∷ rest) s x so end unsafe = walked rest (stands_on blocks reached s) (spoils e i || (x && not (does e i))) (λ more here. elim (or_cases (spoils e i) (x && not (does e i)) more) [
    | inl spoils_it ↦ unhad_behind (come_to blocks reached are s) spoils_it passes
    | inr still ↦ (let both = and_parts x (not (does e i)) still in
        let unsafe_here = ahead (not_true (does e i) both.1) passes here in
        unhad_still (so both.0 unsafe_here) unsafe_here passes)
  ]) end unsafe

  unhad_end : (n : ℕ) (b : Block) → slice_get blocks n ≡ Some b → reached n ≡ true → (x : Bool) → (x ≡ true → IsUnsafe blocks e (within n b.instructions b.end) → IsUnhad blocks e (within n b.instructions b.end))
      → (made n || (x && passed n)) ≡ true → IsUnsafe blocks e (within n [] b.end) × IsUnhad blocks e (within n [] b.end)
  unhad_end n b at comes x so leaves_it =
      let both = and_parts (unsafe_ends n) (unhad_out (told_of e b) x) (sym (leaving_is n b at comes x) ∙ leaves_it) in
      let unsafe = (unsafe_end n b at comes).0 both.0 in
      (unsafe, walked b.instructions (stands_at blocks reached n b at comes) x so (unhad_told e b.instructions x ∙ both.1) unsafe)

  -- what is brought to a block is not up-safe there, if it is not down-safe
  enter : (m n : ℕ) → (edge : HasEdge blocks reached m n) → (b : Block) → slice_get blocks n ≡ Some b → IsUnsafe blocks e (within m [] edge.block.end) × IsUnhad blocks e (within m [] edge.block.end) → IsUnsafe blocks e (within n b.instructions b.end)
      → IsUnhad blocks e (within n b.instructions b.end)
  enter m n edge b at end here = unhad_still (unhad_still end.1 end.0 (leaves edge.leads)) (ahead refl (enters b at) here) (enters b at)

  brought_unhad : {n : ℕ} → IsBrought (FlowsBy blocks reached true) made passed begins_at n → (b : Block) → slice_get blocks n ≡ Some b → IsUnsafe blocks e (within n b.instructions b.end) → IsUnhad blocks e (within n b.instructions b.end)
  brought_unhad {n} (begin so) b at here = subst (λ k. IsUnhad blocks e (within k b.instructions b.end)) (sym (is.only n so)) (unhad_at_entry b (ap (slice_get blocks) (sym (is.only n so)) ∙ at))
  brought_unhad {n} (made_by {m} edge so) b at here = enter m n edge b at (unhad_end m edge.block edge.is edge.comes false (λ never. absurd (true≢false (sym never))) (or_left (made m) (false && passed m) so)) here
  brought_unhad {n} (passed_by {m} edge so way) b at here = enter m n edge b at (unhad_end m edge.block edge.is edge.comes true (λ yes. brought_unhad way edge.block edge.is) (or_right (made m) (true && passed m) so)) here

  -- what is not up-safe, flags tell
  abbrev Tells : Point → Type 0
  Tells (within n rest f) = (before : List Instruction) × (Stands blocks reached n before rest f × (unhad_out (told_along e before nothing) (flags n) ≡ true))
  Tells (along n l) = HasEdge blocks reached n l × (leaving_of made passed flags n ≡ true)

  out_written : (d : Bool) (t : Told) (x : Bool) → unhad_out (told_written true (told_done d t)) x ≡ true
  out_written d t x = refl

  out_still : (s : Bool) (t : Told) (x : Bool) → unhad_out t x ≡ true → unhad_out (told_written s (told_done false t)) x ≡ true
  out_still true t x so = refl
  out_still false t x so = so

  behind_it : (before : List Instruction) (i : Instruction) (x : Bool) → spoils e i ≡ true → unhad_out (told_along e (before ++ i ∷ []) nothing) x ≡ true
  behind_it before i x so = ap (λ t. unhad_out t x) (told_snoc e before i nothing) ∙ ap (λ s. unhad_out (told_written s (told_done (does e i) (told_along e before nothing))) x) so

  behind_still : (before : List Instruction) (i : Instruction) (x : Bool) → does e i ≡ false → unhad_out (told_along e before nothing) x ≡ true → unhad_out (told_along e (before ++ i ∷ []) nothing) x ≡ true
  behind_still before i x undone so =
      ap (λ t. unhad_out t x) (told_snoc e before i nothing) ∙ ap (λ d. unhad_out (told_written (spoils e i) (told_done d (told_along e before nothing))) x) undone ∙ out_still (spoils e i) (told_along e before nothing) x so

  leave : (n : ℕ) (f : End) → IsUnsafe blocks e (within n [] f) → Tells (within n [] f) → leaving_of made passed flags n ≡ true
  leave n f unsafe tells =
      let s = tells.1.0 in
      let all : tells.0 ≡ s.block.instructions = sym (append-nil tells.0) ∙ s.parts in
      leaving_is n s.block s.is s.comes (flags n) ∙ and_from (unsafe_ends n) (unhad_out (told_of e s.block) (flags n)) ((unsafe_end n s.block s.is s.comes).1 (subst (λ g. IsUnsafe blocks e (within n [] g)) s.end unsafe))
      (ap (λ xs. unhad_out (told_along e xs nothing) (flags n)) (sym all) ∙ tells.1.1)

  unhad_tells : {p : Point} → IsUnhad blocks e p → Tells p
  unhad_tells (unhad_at_entry b at) = ([], (stands_at blocks reached 0 b at (are.first b at), (flow 0 (slice_get_within blocks 0 b at)).1 (begin (is.starts b at))))
  unhad_tells (unhad_behind come so (passes {n} {i} {rest} {f})) =
      (let here = come_at blocks reached are come in
      (here.0 ++ i ∷ [], (stands_on blocks reached here.1, behind_it here.0 i (flags n) so)))
  unhad_tells (unhad_behind come so (leaves among)) = absurd (true≢false (sym so))
  unhad_tells (unhad_behind come so (enters b at)) = absurd (true≢false (sym so))
  unhad_tells (unhad_still unhad unsafe (passes {n} {i} {rest} {f})) = on (unhad_tells unhad)
    where
      not_done : does e i ≡ false
      not_done = elim (cases_Bool (does e i)) [ inl so ↦ absurd (true≢false (sym so ∙ (unsafe_here blocks reached are e unsafe).0)) | inr undone ↦ undone ]

      on : Tells (within n (i ∷ rest) f) → Tells (within n rest f)
      on here = (here.0 ++ i ∷ [], (stands_on blocks reached here.1.0, behind_still here.0 i (flags n) not_done here.1.1))
  unhad_tells (unhad_still unhad unsafe (leaves {n} {l} {f} among)) = on (unhad_tells unhad)
    where
      on : Tells (within n [] f) → Tells (along n l)
      on here = (edge_from blocks reached here.1.0 among, leave n f unsafe here)
  unhad_tells (unhad_still unhad unsafe (enters {n} {l} b at)) = on (unhad_tells unhad)
    where
      on : Tells (along n l) → Tells (within l b.instructions b.end)
      on here =
          let edge = here.0 in
          let size = slice_get_within blocks l b at in (
            [],
            (
              stands_at blocks reached l b at (are.closed n l edge b at),
              elim (or_cases (made n) (flags n && passed n) here.1) [
                | inl makes_it ↦ (flow l size).1 (made_by edge makes_it)
                | inr passes_it ↦ (let both = and_parts (flags n) (passed n) passes_it in (flow l size).1 (passed_by edge both.1 ((flow n (slice_get_within blocks n edge.block edge.is)).0 both.0)))
              ],
            ),
          )

  -- WHAT LEAVES BLOCKS TELLS WHERE THE COMPUTATION IS NEITHER DOWN-SAFE NOR HAD.
  pub are_unhad : AreUnhadEnds blocks reached e (leaving_of made passed flags)
  are_unhad = λ n b at comes. (
    λ so. unhad_end n b at comes (flags n) (λ here. brought_unhad ((flow n (slice_get_within blocks n b at)).0 here) b at) so,
    λ both. leave n b.end both.0 (unhad_tells both.1),
  )
