-- The names that are live at a point, as a walk finds them.
use Rattle.std.proofs.Common.{◌≡◌, ℕ, ◌<◌, inl, inr, ◌↔◌, ◌⊎◌, Bool, true, false, Some, List, [], ◌∷◌, sym, ◌∙◌, subst}
use Rattle.std.specs.Prelude.{◌||◌, ◌&&◌, not, slice_get}
use Rattle.std.specs.List.{Contains}
use Rattle.std.proofs.lemmas.Bool.{and_parts, and_from, not-true, not_from_false, or_cases, or_left, or_right}
use Rattle.std.proofs.lemmas.Option.{same_Some}
use Rattle.graph_core.specs.Graphs.{Instruction, End, Block, Graph}
use Rattle.graph_core.specs.Uses.{targets_of}
use Rattle.graph_core.specs.Paths.{reads, writes}
use Rattle.bit_rows.specs.Grid.{is_set, row_at}
use Rattle.graph_solve_problem.specs.Numbers.{Numbers}
use Rattle.graph_solve.specs.Rows.{set_at}
use Rattle.graph_solve.proofs.Bitsets.{in_row}
use Rattle.graph_solve_live.specs.Live.{AreLive, IsReadFirst, read, read_at_end, passed, onward, IsLiveAtStart, IsLiveAtEnd, end_reads}

module _ (g : Graph) (y : ℕ) where
  -- what it says that a name is read first from a point on
  abbrev Parted : List Instruction → End → Type 0
  Parted [] e = (end_reads y e ≡ true) ⊎ ((to : ℕ) × (b : Block) × Contains (targets_of e) to × (slice_get g.blocks to ≡ Some b) × IsReadFirst g y b.instructions b.end)
  Parted (i ∷ rest) e = (reads y i ≡ true) ⊎ ((writes y i ≡ false) × IsReadFirst g y rest e)

  parted : {all : List Instruction} {e : End} → IsReadFirst g y all e → Parted all e
  parted (read {i} {left} {end} e) = inl e
  parted (passed {i} {left} {end} e more) = inr (e, more)
  parted (read_at_end {end} e) = inl e
  parted (onward {end} to b has at more) = inr (to, b, has, at, more)

  -- before an instruction
  pub stands_back : (i : Instruction) (rest : List Instruction) (e : End) (behind now : Bool) → now ≡ (reads y i || (not (writes y i) && behind)) → (behind ≡ true) ↔ IsReadFirst g y rest e → (now ≡ true) ↔ IsReadFirst g y (i ∷ rest) e
  stands_back i rest e behind now is tells = (
    (λ t. elim (or_cases (reads y i) (not (writes y i) && behind) (sym is ∙ t)) [
      | inl r ↦ read r
      | inr p ↦ let both = and_parts (not (writes y i)) behind p in passed (not-true (writes y i) both.0) (tells.0 both.1)
    ]),
    (λ h. is ∙ elim (parted h) [
      | inl r ↦ or_left (reads y i) (not (writes y i) && behind) r
      | inr p ↦ or_right (reads y i) (not (writes y i) && behind) (and_from (not (writes y i)) behind (not_from_false (writes y i) p.0) (tells.1 p.1))
    ]),
  )

  module _ (n : ℕ) (b : Block) (at : slice_get g.blocks n ≡ Some b) (small : y < g.name_count) where
    -- before the end of a block
    pub stands_at_end : (ended now : Bool) → now ≡ (end_reads y b.end || ended) → (ended ≡ true) ↔ ((y < g.name_count) × IsLiveAtEnd g y n) → (now ≡ true) ↔ IsReadFirst g y [] b.end
    stands_at_end ended now is tells = (
      (λ t. elim (or_cases (end_reads y b.end) ended (sym is ∙ t)) [
        | inl r ↦ read_at_end r
        | inr l ↦ further ((tells.0 l).1)
      ]),
      (λ h. is ∙ elim (parted h) [
        | inl r ↦ or_left (end_reads y b.end) ended r
        | inr p ↦ or_right (end_reads y b.end) ended (tells.1 (small, nearer p))
      ]),
    )
      where
        further : IsLiveAtEnd g y n → IsReadFirst g y [] b.end
        further other =
            let same : other.0 ≡ b = same_Some other.0 b (sym other.1 ∙ at) in
            let more = other.2 in
            onward more.0 more.2.0 (subst (λ c. Contains (targets_of c.end) more.0) same more.1) more.2.1 more.2.2

        nearer : (to : ℕ) × (c : Block) × Contains (targets_of b.end) to × (slice_get g.blocks to ≡ Some c) × IsReadFirst g y c.instructions c.end → IsLiveAtEnd g y n
        nearer p = (b, at, (p.0, p.2, (p.1, p.3, p.4)))

    -- at the start of a block
    pub stands_at_start : (started : Bool) → (started ≡ true) ↔ ((y < g.name_count) × IsLiveAtStart g y n) → (started ≡ true) ↔ IsReadFirst g y b.instructions b.end
    stands_at_start started tells = (
      (λ t.
          let other = (tells.0 t).1 in
          let same : other.0 ≡ b = same_Some other.0 b (sym other.1 ∙ at) in
          subst (λ c. IsReadFirst g y c.instructions c.end) same other.2),
      (λ h. tells.1 (small, (b, at, h))),
    )

-- a row that has what is live at the end of a block, or at its start
pub ends_told : (g : Graph) (starts ends : List Numbers) → AreLive g starts ends → (n : ℕ) (rows : List (List Bool)) (row : ℕ) → slice_get ends n ≡ Some (set_at rows row) → (y : ℕ) → (is_set rows row y ≡ true) ↔ ((y < g.name_count) × IsLiveAtEnd g y n)
ends_told g starts ends are n rows row at y = (let h = are.at_ends n y (set_at rows row) at in let e = in_row (row_at rows row) y in ((λ t. h.0 (e ∙ t)), (λ l. sym e ∙ h.1 l)))

pub starts_told : (g : Graph) (starts ends : List Numbers) → AreLive g starts ends → (n : ℕ) (rows : List (List Bool)) (row : ℕ) → slice_get starts n ≡ Some (set_at rows row) → (y : ℕ) → (is_set rows row y ≡ true) ↔ ((y < g.name_count) × IsLiveAtStart g y n)
starts_told g starts ends are n rows row at y = (let h = are.at_starts n y (set_at rows row) at in let e = in_row (row_at rows row) y in ((λ t. h.0 (e ∙ t)), (λ l. sym e ∙ h.1 l)))
