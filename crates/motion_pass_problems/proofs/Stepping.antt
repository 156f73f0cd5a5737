-- One instruction further, and one back.
use Rattle.std.proofs.Common.{◌≡◌, inl, inr, ℕ, Bool, true, false, true≢false, not, ◌&&◌, ◌||◌, List, [], ◌∷◌, Some, sym, ◌∙◌}
use Rattle.std.specs.Prelude.{slice_get}
use Rattle.std.proofs.lemmas.Bool.{cases_Bool, or_cases, and_parts, and_from, or_left, or_right, not_from_false}
use Rattle.graph_core.specs.Graphs.{Instruction, End, Block}
use Rattle.graph_core.specs.Computations.{Computation}
use Rattle.motion_pass_points.specs.Computing.{does, spoils}
use Rattle.motion_pass_points.specs.Ways.{Point, within, Leads, passes, leaves, IsUnsafe, IsUnhad, unhad_behind, IsNotEarliest, IsPast, past_at_entry, past_done, past_still, IsWanted, wanted_here, wanted_later, IsUsed}
use Rattle.motion_pass_points.proofs.Wanted.{delayed_unwanted}
use Rattle.motion_pass_problems.specs.Facts.{AreReached}
use Rattle.motion_pass_problems.proofs.Bools.{not_true}
use Rattle.motion_pass_problems.proofs.Walks.{past_walk}
use Rattle.motion_pass_problems.proofs.Standing.{Stands, stands_on, come_to, unsafe_here, unhad_before, past_before, past_edge}

module _ (blocks : List Block) (e : Computation) where
  -- what can't be delayed to a point is not earliest there
  pub not_earliest : {p : Point} → IsPast blocks e p → IsNotEarliest blocks e p
  not_earliest (past_at_entry b at late) = late
  not_earliest (past_done come done step late) = late
  not_earliest (past_still past step late) = late

  -- what is used is not before its latest point
  pub wanted_past : {p : Point} → IsWanted blocks e p → (IsPast blocks e p → ⊥) → ⊥
  wanted_past (wanted_here done past) delayed = delayed past
  wanted_past (wanted_later not_latest step wanted) delayed = delayed_unwanted blocks e (wanted_later not_latest step wanted) delayed not_latest

module _ (blocks : List Block) (reached : ℕ → Bool) (are : AreReached blocks reached) (e : Computation) where
  -- behind an instruction where it is down-safe, and no operand is written, it is had or can't be had
  not_unhad : {n : ℕ} {before : List Instruction} {i : Instruction} {rest : List Instruction} {f : End} → Stands blocks reached n before (i ∷ rest) f → (IsUnsafe blocks e (within n (i ∷ rest) f) → ⊥) → spoils e i ≡ false → IsUnhad blocks e (within n rest f) → ⊥
  not_unhad s safe clean unhad = elim (unhad_before blocks reached are e s unhad) [
    | inl so ↦ true≢false (sym so ∙ clean)
    | inr both ↦ safe both.1
  ]

  pub safe_here : {n : ℕ} {i : Instruction} {rest : List Instruction} {f : End} → spoils e i ≡ false → (IsUnsafe blocks e (within n rest f) → ⊥) → IsUnsafe blocks e (within n (i ∷ rest) f) → ⊥
  safe_here {n} {i} {rest} {f} clean safe unsafe = elim (unsafe_here blocks reached are e unsafe).1 [
    | inl so ↦ true≢false (sym so ∙ clean)
    | inr next ↦ safe next
  ]

  -- one instruction further
  pub past_on : {n : ℕ} {before : List Instruction} {i : Instruction} {rest : List Instruction} {f : End} → Stands blocks reached n before (i ∷ rest) f → (x : Bool)
      → ((IsUnsafe blocks e (within n (i ∷ rest) f) → ⊥) → x ≡ true → IsPast blocks e (within n (i ∷ rest) f))
      → (IsUnsafe blocks e (within n rest f) → ⊥) → ((x || does e i) && not (spoils e i)) ≡ true → IsPast blocks e (within n rest f)
  past_on {n} {before} {i} {rest} {f} s x so safe flag =
      let both = and_parts (x || does e i) (not (spoils e i)) flag in
      let clean : spoils e i ≡ false = not_true (spoils e i) both.1 in
      let safe_before = safe_here clean safe in
      let late : IsNotEarliest blocks e (within n rest f) = inr (not_unhad s safe_before clean) in
      elim (or_cases x (does e i) both.0) [
        | inl was ↦ past_still (so safe_before was) passes late
        | inr done ↦ past_done (come_to blocks reached are s) done passes late
      ]

  pub past_off : {n : ℕ} {before : List Instruction} {i : Instruction} {rest : List Instruction} {f : End} → Stands blocks reached n before (i ∷ rest) f → (x : Bool)
      → ((IsUnsafe blocks e (within n (i ∷ rest) f) → ⊥) → IsPast blocks e (within n (i ∷ rest) f) → x ≡ true)
      → (IsUnsafe blocks e (within n rest f) → ⊥) → IsPast blocks e (within n rest f) → ((x || does e i) && not (spoils e i)) ≡ true
  past_off {n} {before} {i} {rest} {f} s x so safe past = elim (cases_Bool (spoils e i)) [
    | inl wrote ↦ absurd (elim (not_earliest blocks e past) [ inl unsafe ↦ safe unsafe | inr had ↦ had (unhad_behind (come_to blocks reached are s) wrote passes) ])
    | inr clean ↦ and_from (x || does e i) (not (spoils e i)) (elim (past_before blocks reached are e s past) [
      | inl done ↦ or_right x (does e i) done
      | inr was ↦ or_left x (does e i) (so (safe_here clean safe) was)
    ]) (not_from_false (spoils e i) clean)
  ]

  pub past_walked : {n : ℕ} {before : List Instruction} (rest : List Instruction) {f : End} → Stands blocks reached n before rest f → (x : Bool) → ((IsUnsafe blocks e (within n rest f) → ⊥) → x ≡ true → IsPast blocks e (within n rest f))
      → (IsUnsafe blocks e (within n [] f) → ⊥) → past_walk e rest x ≡ true → IsPast blocks e (within n [] f)
  past_walked [] s x so safe end = so safe end
  past_walked (i ∷ rest) s x so safe end = past_walked rest (stands_on blocks reached s) ((x || does e i) && not (spoils e i)) (past_on s x so) safe end

  -- what is used behind an instruction that does not do it is used before
  pub wanted_on : {n : ℕ} {before : List Instruction} {i : Instruction} {rest : List Instruction} {f : End} → Stands blocks reached n before (i ∷ rest) f → does e i ≡ false → IsWanted blocks e (within n rest f) → IsWanted blocks e (within n (i ∷ rest) f)
  wanted_on s undone wanted = wanted_later (λ latest. wanted_past blocks e wanted (λ past. elim (past_before blocks reached are e s past) [
    | inl done ↦ true≢false (sym done ∙ undone)
    | inr was ↦ latest.delayed was
  ])) passes wanted

  -- and what is used before it, behind
  pub wanted_off : {n : ℕ} {i : Instruction} {rest : List Instruction} {f : End} → does e i ≡ false → IsWanted blocks e (within n (i ∷ rest) f) → IsWanted blocks e (within n rest f)
  wanted_off undone (wanted_here done past) = absurd (true≢false (sym done ∙ undone))
  wanted_off undone (wanted_later not_latest passes wanted) = wanted

  -- where a value is used at the end of a block, it is used behind it
  pub end_used : {n : ℕ} {f : End} → IsWanted blocks e (within n [] f) → IsUsed blocks e (within n [] f)
  end_used (wanted_here done past) = absurd (true≢false (sym done))
  end_used (wanted_later {p} {q} not_latest step wanted) = (q, step, wanted)

  pub used_end : (n : ℕ) (b : Block) → slice_get blocks n ≡ Some b → IsUsed blocks e (within n [] b.end) → IsWanted blocks e (within n [] b.end)
  used_end n b at used = by b at used.1 used.2
    where
      by : {n : ℕ} {q : Point} (b : Block) → slice_get blocks n ≡ Some b → Leads blocks (within n [] b.end) q → IsWanted blocks e q → IsWanted blocks e (within n [] b.end)
      by {n} b at (leaves {l} among) wanted = wanted_later (λ latest. wanted_past blocks e wanted (λ past. latest.delayed (past_edge blocks reached are e b at past))) (leaves among) wanted
