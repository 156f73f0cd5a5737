-- What new instructions do, and what those do that read a temporary in place of a computation.
use Rattle.std.proofs.Common.{◌≡◌, ℕ, ◌<◌, ◌≤◌, Bool, true, false, true≢false, Option, Some, List, [], ◌∷◌, refl, ap, ◌∙◌, arith}
use Rattle.std.specs.Prelude.{◌==◌}
use Rattle.std.proofs.lemmas.Bool.{ne_eqb}
use Rattle.graph_core.specs.Graphs.{NoteValue, Instruction, Marker, Note, Zero, CopyWords, Graph}
use Rattle.graph_core.specs.Uses.{is_computation, reads_of, target_of}
use Rattle.graph_core.specs.Paths.{Among, front, behind, place_by, writes, is_marker, is_call, notes, owed_by}
use Rattle.graph_core.specs.Computations.{Computation, Operating, Truncating, Comparing}
use Rattle.graph_core.specs.Validity.{place_behind, markers_in}
use Rattle.motion_pass_points.specs.MotionPointsComputing.{doing}
use Rattle.motion_pass_laws.specs.Made.{StaysOrReads, stays, of_operate, of_truncate, of_same, IsDoing}

-- ---- New instructions

-- It begins no place.
doing_marker : (x : ℕ) (e : Computation) → is_marker (doing x e) ≡ false
doing_marker x (Operating o a b) = refl
doing_marker x (Truncating t a) = refl
doing_marker x (Comparing a b) = refl

-- It is no call.
doing_call : (x : ℕ) (e : Computation) → is_call (doing x e) ≡ false
doing_call x (Operating o a b) = refl
doing_call x (Truncating t a) = refl
doing_call x (Comparing a b) = refl

-- It notes nothing.
doing_notes : (x y : ℕ) (e : Computation) → notes y (doing x e) ≡ false
doing_notes x y (Operating o a b) = refl
doing_notes x y (Truncating t a) = refl
doing_notes x y (Comparing a b) = refl

-- Its target is its name.
doing_target : (x : ℕ) (e : Computation) → target_of (doing x e) ≡ Some x
doing_target x (Operating o a b) = refl
doing_target x (Truncating t a) = refl
doing_target x (Comparing a b) = refl

-- It is a computation.
doing_computation : (x : ℕ) (e : Computation) → is_computation (doing x e) ≡ true
doing_computation x (Operating o a b) = refl
doing_computation x (Truncating t a) = refl
doing_computation x (Comparing a b) = refl

-- It writes its name.
doing_writes : (x y : ℕ) (e : Computation) → writes y (doing x e) ≡ (x == y)
doing_writes x y (Operating o a b) = refl
doing_writes x y (Truncating t a) = refl
doing_writes x y (Comparing a b) = refl

-- The place in force stays.
doing_place : (x : ℕ) (e : Computation) (before : Option ℕ) → place_by (doing x e) before ≡ before
doing_place x (Operating o a b) before = refl
doing_place x (Truncating t a) before = refl
doing_place x (Comparing a b) before = refl

-- The place in force along a block stays.
doing_behind : (x : ℕ) (e : Computation) (place : Option ℕ) → place_behind (doing x e ∷ []) place ≡ place
doing_behind x (Operating o a b) place = refl
doing_behind x (Truncating t a) place = refl
doing_behind x (Comparing a b) place = refl

-- The places that a block begins stay.
doing_markers : (x : ℕ) (e : Computation) (rest : List Instruction) → markers_in (doing x e ∷ rest) ≡ markers_in rest
doing_markers x (Operating o a b) rest = refl
doing_markers x (Truncating t a) rest = refl
doing_markers x (Comparing a b) rest = refl

-- A note that is owed stays owed, unless its scalar is the name that is written.
doing_owed : (assigns : ℕ → Bool) (x y : ℕ) (e : Computation) (before : Bool) → (x == y) ≡ false → owed_by assigns y (doing x e) before ≡ before
doing_owed assigns x y (Operating o a b) before other = rw other refl
doing_owed assigns x y (Truncating t a) before other = rw other refl
doing_owed assigns x y (Comparing a b) before other = rw other refl

module _ (g : Graph) (e : Computation) (i : Instruction) (is : IsDoing g e i) where
  -- A new instruction begins no place.
  pub new_marker : is_marker i ≡ false
  new_marker = ap is_marker is.is ∙ doing_marker is.name e

  -- It is no call.
  pub new_call : is_call i ≡ false
  new_call = ap is_call is.is ∙ doing_call is.name e

  -- It notes nothing.
  pub new_notes : (x : ℕ) → notes x i ≡ false
  new_notes x = ap (notes x) is.is ∙ doing_notes is.name x e

  -- Its name is none of the graph.
  new_other : (x : ℕ) → x < g.name_count → (is.name == x) ≡ false
  new_other x less = (let fresh = is.fresh in ne_eqb is.name x (λ same. omega (arith, less, fresh, same)))

  -- It writes no name of the graph.
  pub new_writes : (x : ℕ) → x < g.name_count → writes x i ≡ false
  new_writes x less = ap (writes x) is.is ∙ doing_writes is.name x e ∙ new_other x less

  -- Its target is its name.
  pub new_target : target_of i ≡ Some is.name
  new_target = ap target_of is.is ∙ doing_target is.name e

  -- It is a computation.
  pub new_computation : is_computation i ≡ true
  new_computation = ap is_computation is.is ∙ doing_computation is.name e

  -- The place in force stays.
  pub new_place : (before : Option ℕ) → place_by i before ≡ before
  new_place before = ap (λ k. place_by k before) is.is ∙ doing_place is.name e before

  -- The place in force along a block stays.
  pub new_behind : (place : Option ℕ) → place_behind (i ∷ []) place ≡ place
  new_behind place = ap (λ k. place_behind (k ∷ []) place) is.is ∙ doing_behind is.name e place

  -- The places that a block begins stay.
  pub new_markers : (rest : List Instruction) → markers_in (i ∷ rest) ≡ markers_in rest
  new_markers rest = ap (λ k. markers_in (k ∷ rest)) is.is ∙ doing_markers is.name e rest

  -- A note of a scalar that is owed stays owed.
  pub new_owed : (assigns : ℕ → Bool) (x : ℕ) → x < g.name_count → (before : Bool) → owed_by assigns x i before ≡ before
  new_owed assigns x less before = ap (λ k. owed_by assigns x k before) is.is ∙ doing_owed assigns is.name x e before (new_other x less)

module _ (g : Graph) where
  -- A marker is no new instruction.
  pub no_new_marker : {e : Computation} {p : ℕ} → IsDoing g e (Marker p) → ⊥
  no_new_marker {e} {p} is = true≢false (new_marker g e (Marker p) is)

  -- Nor is a note.
  pub no_new_note : {e : Computation} {x : ℕ} {v : NoteValue} → IsDoing g e (Note x v) → ⊥
  no_new_note {e} {x} {v} is = true≢false (ap is_note is.is ∙ doing_note is.name e)
    where
      is_note : Instruction → Bool
      is_note (Note y w) = true
      is_note _ = false

      doing_note : (y : ℕ) (d : Computation) → is_note (doing y d) ≡ false
      doing_note y (Operating o a b) = refl
      doing_note y (Truncating t a) = refl
      doing_note y (Comparing a b) = refl

  -- Nor are words that are set.
  pub no_new_zero : {e : Computation} {object words : ℕ} → IsDoing g e (Zero object words) → ⊥
  no_new_zero {e} {object} {words} is = true≢false (ap is_zero is.is ∙ doing_zero is.name e)
    where
      is_zero : Instruction → Bool
      is_zero (Zero o w) = true
      is_zero _ = false

      doing_zero : (y : ℕ) (d : Computation) → is_zero (doing y d) ≡ false
      doing_zero y (Operating o a b) = refl
      doing_zero y (Truncating t a) = refl
      doing_zero y (Comparing a b) = refl

  -- Nor are words that are copied.
  pub no_new_copy : {e : Computation} {object bytes words : ℕ} → IsDoing g e (CopyWords object bytes words) → ⊥
  no_new_copy {e} {object} {bytes} {words} is = true≢false (ap is_copy is.is ∙ doing_copy is.name e)
    where
      is_copy : Instruction → Bool
      is_copy (CopyWords o c w) = true
      is_copy _ = false

      doing_copy : (y : ℕ) (d : Computation) → is_copy (doing y d) ≡ false
      doing_copy y (Operating o a b) = refl
      doing_copy y (Truncating t a) = refl
      doing_copy y (Comparing a b) = refl

  -- ---- Instructions that stay, or read a temporary

  -- They write the same.
  pub same_writes : (x : ℕ) {i j : Instruction} → StaysOrReads g i j → writes x j ≡ writes x i
  same_writes x stays = refl
  same_writes x (of_operate fresh) = refl
  same_writes x (of_truncate fresh) = refl
  same_writes x (of_same fresh) = refl

  -- They write to the same name, or to none.
  pub same_target : {i j : Instruction} → StaysOrReads g i j → target_of j ≡ target_of i
  same_target stays = refl
  same_target (of_operate fresh) = refl
  same_target (of_truncate fresh) = refl
  same_target (of_same fresh) = refl

  -- They are computations, or are not.
  pub same_computation : {i j : Instruction} → StaysOrReads g i j → is_computation j ≡ is_computation i
  same_computation stays = refl
  same_computation (of_operate fresh) = refl
  same_computation (of_truncate fresh) = refl
  same_computation (of_same fresh) = refl

  -- They begin a place, or do not.
  pub same_marker : {i j : Instruction} → StaysOrReads g i j → is_marker j ≡ is_marker i
  same_marker stays = refl
  same_marker (of_operate fresh) = refl
  same_marker (of_truncate fresh) = refl
  same_marker (of_same fresh) = refl

  -- The place in force behind them is the same.
  pub same_place_by : {i j : Instruction} → StaysOrReads g i j → (before : Option ℕ) → place_by j before ≡ place_by i before
  same_place_by stays before = refl
  same_place_by (of_operate fresh) before = refl
  same_place_by (of_truncate fresh) before = refl
  same_place_by (of_same fresh) before = refl

  -- So it is along a block.
  pub same_place_behind : {i j : Instruction} → StaysOrReads g i j → (place : Option ℕ) → place_behind (j ∷ []) place ≡ place_behind (i ∷ []) place
  same_place_behind stays place = refl
  same_place_behind (of_operate fresh) place = refl
  same_place_behind (of_truncate fresh) place = refl
  same_place_behind (of_same fresh) place = refl

  -- They are calls, or are not.
  pub same_call : {i j : Instruction} → StaysOrReads g i j → is_call j ≡ is_call i
  same_call stays = refl
  same_call (of_operate fresh) = refl
  same_call (of_truncate fresh) = refl
  same_call (of_same fresh) = refl

  -- They note a scalar, or do not.
  pub same_notes : (x : ℕ) {i j : Instruction} → StaysOrReads g i j → notes x j ≡ notes x i
  same_notes x stays = refl
  same_notes x (of_operate fresh) = refl
  same_notes x (of_truncate fresh) = refl
  same_notes x (of_same fresh) = refl

  -- A note of a scalar is owed behind them, or is not.
  pub same_owed_by : (assigns : ℕ → Bool) (x : ℕ) {i j : Instruction} → StaysOrReads g i j → (before : Bool) → owed_by assigns x j before ≡ owed_by assigns x i before
  same_owed_by assigns x stays before = refl
  same_owed_by assigns x (of_operate fresh) before = refl
  same_owed_by assigns x (of_truncate fresh) before = refl
  same_owed_by assigns x (of_same fresh) before = refl

  -- The places that they and others begin are the same, where those of the others are.
  pub same_markers : {i j : Instruction} → StaysOrReads g i j → (rest left : List Instruction) → markers_in left ≡ markers_in rest → markers_in (j ∷ left) ≡ markers_in (i ∷ rest)
  same_markers {i} stays rest left same = first i
    where
      first : (k : Instruction) → markers_in (k ∷ left) ≡ markers_in (k ∷ rest)
      first (Marker p) = ap (λ ps. p ∷ ps) same
      first _ = same
  same_markers (of_operate fresh) rest left same = same
  same_markers (of_truncate fresh) rest left same = same
  same_markers (of_same fresh) rest left same = same

  -- What becomes a marker is that marker.
  pub only_marker : {p : ℕ} (i : Instruction) → StaysOrReads g i (Marker p) → i ≡ Marker p
  only_marker _ stays = refl

  -- So it is with a note.
  pub only_note : {x : ℕ} {v : NoteValue} (i : Instruction) → StaysOrReads g i (Note x v) → i ≡ Note x v
  only_note _ stays = refl

  -- So it is with words that are set.
  pub only_zero : {object words : ℕ} (i : Instruction) → StaysOrReads g i (Zero object words) → i ≡ Zero object words
  only_zero _ stays = refl

  -- So it is with words that are copied.
  pub only_copy : {object bytes words : ℕ} (i : Instruction) → StaysOrReads g i (CopyWords object bytes words) → i ≡ CopyWords object bytes words
  only_copy _ stays = refl

  -- A marker becomes that marker.
  pub marker_stays : {p : ℕ} (j : Instruction) → StaysOrReads g (Marker p) j → j ≡ Marker p
  marker_stays _ stays = refl

  -- A temporary that the graph had not is no name of it.
  not_read : (t k : ℕ) → t < g.name_count → g.name_count ≤ k → Among t (k ∷ []) → ⊥
  not_read t _ less fresh front = omega (arith, less, fresh)
  not_read t k less fresh (behind m) = elim m [ ]

  -- A name of the graph that is read was read before.
  pub same_reads : (t : ℕ) → t < g.name_count → {i j : Instruction} → StaysOrReads g i j → Among t (reads_of j) → Among t (reads_of i)
  same_reads t less stays among = among
  same_reads t less (of_operate {t = k} fresh) among = absurd (not_read t k less fresh among)
  same_reads t less (of_truncate {t = k} fresh) among = absurd (not_read t k less fresh among)
  same_reads t less (of_same {t = k} fresh) among = absurd (not_read t k less fresh among)
