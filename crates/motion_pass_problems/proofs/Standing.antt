-- Where the points of ways stand, and what comes directly before them.
use Rattle.std.proofs.Common.{◌≡◌, ◌⊎◌, inl, inr, ℕ, Bool, true, false, true≢false, List, [], ◌∷◌, ◌++◌, length, Some, refl, sym, ap, ◌∙◌, subst, arith}
use Rattle.std.specs.Prelude.{slice_get}
use Rattle.std.proofs.lemmas.List.{append-nil, append_assoc, length-append}
use Rattle.std.proofs.lemmas.Option.{same_Some}
use Rattle.graph_core.specs.Graphs.{Instruction, End, Block}
use Rattle.graph_core.specs.Uses.{targets_of}
use Rattle.graph_core.specs.Paths.{Among}
use Rattle.graph_core.specs.Computations.{Computation}
use Rattle.motion_pass_points.specs.Computing.{does, spoils}
use Rattle.motion_pass_points.specs.Ways.{Point, within, along, does_at, spoils_at, Leads, passes, leaves, enters, IsCome, begins, goes, IsUnsafe, spoiled, ahead, IsUnhad, unhad_at_entry, unhad_behind, unhad_still, IsPast, past_at_entry, past_done, past_still}
use Rattle.motion_pass_problems.specs.Flowing.{HasEdge}
use Rattle.motion_pass_problems.specs.Facts.{AreReached}

-- what is at a place of a list
there_is : {A : Type 0} (before rest : List A) (a : A) → slice_get (before ++ a ∷ rest) (length before) ≡ Some a
there_is [] rest a = refl
there_is (b ∷ before) rest a = there_is before rest a

-- two lists with one tail have the same before it
one_before : {A : Type 0} (before other rest : List A) (a b : A) → before ++ a ∷ rest ≡ other ++ b ∷ rest → a ≡ b
one_before before other rest a b same =
    let counts : length (before ++ a ∷ rest) ≡ length (other ++ b ∷ rest) = ap length same in
    let left = length-append before (a ∷ rest) in
    let right = length-append other (b ∷ rest) in
    let sizes : length before ≡ length other = omega (arith, counts, left, right) in
    same_Some a b (sym (there_is before rest a) ∙ ap (λ xs. slice_get xs (length before)) same ∙ ap (slice_get (other ++ b ∷ rest)) sizes ∙ there_is other rest b)

-- a list is not its own tail
no_tail : {A : Type 0} (before rest : List A) (a : A) → before ++ a ∷ rest ≡ rest → ⊥
no_tail before rest a same =
    let counts : length (before ++ a ∷ rest) ≡ length rest = ap length same in
    let left = length-append before (a ∷ rest) in
    omega (arith, counts, left)

-- what stands behind a point that paths come to, they come to
pub come_along : (blocks : List Block) (n : ℕ) (before rest : List Instruction) (f : End) → IsCome blocks (within n (before ++ rest) f) → IsCome blocks (within n rest f)
come_along blocks n [] rest f is = is
come_along blocks n (i ∷ before) rest f is = come_along blocks n before rest f (goes is passes)

module _ (blocks : List Block) (reached : ℕ → Bool) where
  -- a point stands in a block that paths reach, behind these instructions
  pub record Stands (n : ℕ) (before rest : List Instruction) (f : End) : Type 0 where
    pub block : Block
    pub is : slice_get blocks n ≡ Some block
    pub comes : reached n ≡ true
    pub parts : before ++ rest ≡ block.instructions
    pub end : f ≡ block.end

  -- where a point is
  abbrev pub AtPoint : Point → Type 0
  AtPoint (within n rest f) = (before : List Instruction) × Stands n before rest f
  AtPoint (along n l) = HasEdge blocks reached n l

  -- one instruction further
  pub stands_on : {n : ℕ} {before : List Instruction} {i : Instruction} {rest : List Instruction} {f : End} → Stands n before (i ∷ rest) f → Stands n (before ++ i ∷ []) rest f
  stands_on {n} {before} {i} {rest} {f} s = record { block = s.block; is = s.is; comes = s.comes; parts = append_assoc before (i ∷ []) rest ∙ s.parts; end = s.end }

  pub stands_at : (n : ℕ) (b : Block) → slice_get blocks n ≡ Some b → reached n ≡ true → Stands n [] b.instructions b.end
  stands_at n b is comes = record { block = b; is = is; comes = comes; parts = refl; end = refl }

  pub stands_behind : (n : ℕ) (b : Block) → slice_get blocks n ≡ Some b → reached n ≡ true → Stands n b.instructions [] b.end
  stands_behind n b is comes = record { block = b; is = is; comes = comes; parts = append-nil b.instructions; end = refl }

  pub edge_from : {n l : ℕ} {before : List Instruction} {f : End} → Stands n before [] f → Among l (targets_of f) → HasEdge blocks reached n l
  edge_from {n} {l} s among = record { block = s.block; is = s.is; comes = s.comes; leads = subst (λ g. Among l (targets_of g)) s.end among }

  pub one_block : (n : ℕ) (b c : Block) → slice_get blocks n ≡ Some b → slice_get blocks n ≡ Some c → b ≡ c
  one_block n b c p q = same_Some b c (sym p ∙ q)

  -- nothing comes before the start of a block in it
  not_start : {n : ℕ} {before : List Instruction} {i : Instruction} {rest : List Instruction} {f : End} → Stands n before (i ∷ rest) f → (b : Block) → slice_get blocks n ≡ Some b → rest ≡ b.instructions → ⊥
  not_start {n} {before} {i} {rest} {f} s b at same = no_tail before rest i (s.parts ∙ ap (λ (c : Block). c.instructions) (one_block n s.block b s.is at) ∙ sym same)

  module _ (are : AreReached blocks reached) where
    step_at : {p q : Point} → AtPoint p → Leads blocks p q → AtPoint q
    step_at at passes = (at.0 ++ _ ∷ [], stands_on at.1)
    step_at at (leaves among) = edge_from at.1 among
    step_at at (enters {n} {l} b is) = ([], stands_at l b is (are.closed n l at b is))

    pub come_at : {p : Point} → IsCome blocks p → AtPoint p
    come_at (begins b at) = ([], stands_at 0 b at (are.first b at))
    come_at (goes come step) = step_at (come_at come) step

    pub come_to : {n : ℕ} {before rest : List Instruction} {f : End} → Stands n before rest f → IsCome blocks (within n rest f)
    come_to {n} {before} {rest} {f} s =
        subst (λ g. IsCome blocks (within n rest g)) (sym s.end) (come_along blocks n before rest s.block.end
        (subst (λ all. IsCome blocks (within n all s.block.end)) (sym s.parts) (are.come n s.block s.is s.comes)))

    -- one point comes before another in a block
    pub only_before : {n : ℕ} {before : List Instruction} {i : Instruction} {rest : List Instruction} {f : End} → Stands n before (i ∷ rest) f → {p : Point} → IsCome blocks p → Leads blocks p (within n rest f) → p ≡ within n (i ∷ rest) f
    only_before {n} {before} {i} {rest} {f} s come step = by s (come_at come) step
      where
        by : {n : ℕ} {before : List Instruction} {i : Instruction} {rest : List Instruction} {f : End} → Stands n before (i ∷ rest) f → {p : Point} → AtPoint p → Leads blocks p (within n rest f) → p ≡ within n (i ∷ rest) f
        by {n} {before} {i} {rest} {f} s at (passes {i = j}) =
            ap (λ k. within n (k ∷ rest) f) (one_before at.0 before rest j i (at.1.parts ∙ ap (λ (c : Block). c.instructions) (one_block n at.1.block s.block at.1.is s.is) ∙ sym s.parts))
        by s at (enters b is) = absurd (not_start s b is refl)

    -- an edge leaves a block at its end
    pub only_left : {m n : ℕ} (b : Block) → slice_get blocks m ≡ Some b → {p : Point} → IsCome blocks p → Leads blocks p (along m n) → p ≡ within m [] b.end
    only_left b at come step = by b at (come_at come) step
      where
        by : {m n : ℕ} (b : Block) → slice_get blocks m ≡ Some b → {p : Point} → AtPoint p → Leads blocks p (along m n) → p ≡ within m [] b.end
        by {m} b at here (leaves among) = ap (within m []) (here.1.end ∙ ap (λ (c : Block). c.end) (one_block m here.1.block b here.1.is at))

    module _ (e : Computation) where
      pub unhad_come : {p : Point} → IsUnhad blocks e p → IsCome blocks p
      unhad_come (unhad_at_entry b at) = begins b at
      unhad_come (unhad_behind come so step) = goes come step
      unhad_come (unhad_still unhad unsafe step) = goes (unhad_come unhad) step

      pub past_come : {p : Point} → IsPast blocks e p → IsCome blocks p
      past_come (past_at_entry b at late) = begins b at
      past_come (past_done come does step late) = goes come step
      past_come (past_still past step late) = goes (past_come past) step

      -- where it is not down-safe before an instruction
      pub unsafe_here : {n : ℕ} {i : Instruction} {rest : List Instruction} {f : End} → IsUnsafe blocks e (within n (i ∷ rest) f) → (does e i ≡ false) × ((spoils e i ≡ true) ⊎ IsUnsafe blocks e (within n rest f))
      unsafe_here (spoiled undone so) = (undone, inl so)
      unsafe_here (ahead undone passes unsafe) = (undone, inr unsafe)

      pub unsafe_edge : {m n : ℕ} (b : Block) → slice_get blocks n ≡ Some b → IsUnsafe blocks e (along m n) → IsUnsafe blocks e (within n b.instructions b.end)
      unsafe_edge b at (spoiled undone so) = absurd (true≢false (sym so))
      unsafe_edge {m} {n} b at (ahead undone (enters c is) unsafe) = subst (λ (d : Block). IsUnsafe blocks e (within n d.instructions d.end)) (one_block n c b is at) unsafe

      -- where it is not up-safe behind an instruction
      pub unhad_before : {n : ℕ} {before : List Instruction} {i : Instruction} {rest : List Instruction} {f : End} → Stands n before (i ∷ rest) f → IsUnhad blocks e (within n rest f) → (spoils e i ≡ true) ⊎ (IsUnhad blocks e (within n (i ∷ rest) f) × IsUnsafe blocks e (within n (i ∷ rest) f))
      unhad_before s (unhad_at_entry b at) = absurd (not_start s b at refl)
      unhad_before s (unhad_behind come so step) = inl (subst (λ p. spoils_at e p ≡ true) (only_before s come step) so)
      unhad_before s (unhad_still unhad unsafe step) =
          (let same = only_before s (unhad_come unhad) step in
          inr (subst (IsUnhad blocks e) same unhad, subst (IsUnsafe blocks e) same unsafe))

      pub unhad_edge : {m n : ℕ} (b : Block) → slice_get blocks m ≡ Some b → IsUnhad blocks e (along m n) → IsUnhad blocks e (within m [] b.end) × IsUnsafe blocks e (within m [] b.end)
      unhad_edge b at (unhad_behind come so step) = absurd (true≢false (sym (subst (λ p. spoils_at e p ≡ true) (only_left b at come step) so)))
      unhad_edge b at (unhad_still unhad unsafe step) =
          (let same = only_left b at (unhad_come unhad) step in
          (subst (IsUnhad blocks e) same unhad, subst (IsUnsafe blocks e) same unsafe))

      -- at the start of a block: it is the first, or an edge leads to it
      pub unhad_start : {n : ℕ} {rest : List Instruction} {f : End} (b : Block) → slice_get blocks n ≡ Some b → rest ≡ b.instructions → IsUnhad blocks e (within n rest f) → (n ≡ 0) ⊎ ((m : ℕ) × (IsUnhad blocks e (along m n) × IsUnsafe blocks e (along m n)))
      unhad_start b at same (unhad_at_entry c is) = inl refl
      unhad_start b at same (unhad_behind come so passes) = absurd (not_start (come_at come).1 b at same)
      unhad_start b at same (unhad_behind come so (enters c is)) = absurd (true≢false (sym so))
      unhad_start b at same (unhad_still unhad unsafe passes) = absurd (not_start (come_at (unhad_come unhad)).1 b at same)
      unhad_start b at same (unhad_still unhad unsafe (enters {n = m} c is)) = inr (m, (unhad, unsafe))

      -- where it can't be delayed behind an instruction
      pub past_before : {n : ℕ} {before : List Instruction} {i : Instruction} {rest : List Instruction} {f : End} → Stands n before (i ∷ rest) f → IsPast blocks e (within n rest f) → (does e i ≡ true) ⊎ IsPast blocks e (within n (i ∷ rest) f)
      past_before s (past_at_entry b at late) = absurd (not_start s b at refl)
      past_before s (past_done come so step late) = inl (subst (λ p. does_at e p ≡ true) (only_before s come step) so)
      past_before s (past_still past step late) = inr (subst (IsPast blocks e) (only_before s (past_come past) step) past)

      pub past_edge : {m n : ℕ} (b : Block) → slice_get blocks m ≡ Some b → IsPast blocks e (along m n) → IsPast blocks e (within m [] b.end)
      past_edge b at (past_done come so step late) = absurd (true≢false (sym (subst (λ p. does_at e p ≡ true) (only_left b at come step) so)))
      past_edge b at (past_still past step late) = subst (IsPast blocks e) (only_left b at (past_come past) step) past
