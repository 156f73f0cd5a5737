-- The names that are live inside a block are those that some path reads before it writes them.
use Rattle.std.proofs.Common.{◌≡◌, ℕ, ◌<◌, inl, inr, ◌↔◌, Bool, true, true≢false, Some, List, [], ◌∷◌, refl, sym, ◌∙◌, subst, arith}
use Rattle.std.specs.Prelude.{◌||◌, ◌&&◌, not, nat_lt, slice_get}
use Rattle.std.specs.List.{Contains}
use Rattle.std.specs.FinSet.{contains}
use Rattle.std.proofs.lemmas.Bool.{and_parts, and_from, cases_lt, lt-ltb, not-true, not_from_false, or_cases, or_left, or_right, false_from_ne_true}
use Rattle.std.proofs.lemmas.Option.{same_Some}
use Rattle.graph_core.specs.Graphs.{Instruction, End, Block, Graph}
use Rattle.graph_core.specs.Uses.{targets_of}
use Rattle.graph_core.specs.Paths.{reads, writes}
use Rattle.graph_solve_problem.specs.Numbers.{Numbers, IsBelow}
use Rattle.graph_solve_live.specs.Live.{IsReadFirst, read, read_at_end, passed, onward, IsLiveAtEnd, end_reads}
use Rattle.graph_solve_live.specs.Inside.{IsLiveInside}
use Rattle.graph_solve_live.proofs.Before.{before_block, block_below, block_in, read_in}

module _ (g : Graph) (x : ℕ) where
  -- what is read first in instructions or behind them
  in_instructions : (all : List Instruction) (end : End) (behind : Bool) → (behind ≡ true → IsReadFirst g x [] end) → read_in g.name_count x all behind ≡ true → IsReadFirst g x all end
  in_instructions [] end behind then e = then e
  in_instructions (i ∷ more) end behind then e = elim (or_cases (reads x i && nat_lt x g.name_count) (not (writes x i) && read_in g.name_count x more behind) e) [
    | inl l ↦ read (and_parts _ _ l).0
    | inr r ↦ let both = and_parts (not (writes x i)) (read_in g.name_count x more behind) r in passed (not-true (writes x i) both.0) (in_instructions more end behind then both.1)
  ]

  in_block : (b : Block) (live : Numbers) → (contains live x ≡ true → IsReadFirst g x [] b.end) → contains (before_block g.name_count b live) x ≡ true → IsReadFirst g x b.instructions b.end
  in_block b live then e = in_instructions b.instructions b.end ((end_reads x b.end && nat_lt x g.name_count) || contains live x)
      (λ f. elim (or_cases (end_reads x b.end && nat_lt x g.name_count) (contains live x) f) [ inl l ↦ read_at_end (and_parts _ _ l).0 | inr r ↦ then r ])
      (sym (block_in g.name_count x b live) ∙ e)

-- the names that are live inside a block
module _ (g : Graph) (n : ℕ) (b : Block) (live : Numbers) (at : slice_get g.blocks n ≡ Some b) (right : (x : ℕ) → (contains live x ≡ true) ↔ ((x < g.name_count) × IsLiveAtEnd g x n)) (rest : List Instruction) where
  -- a block of what is left
  abbrev left_over : Block
  left_over = record { place = b.place; instructions = rest; end = b.end }

  live_below : IsBelow g.name_count live
  live_below x ge = false_from_ne_true (contains live x) (λ e. omega (arith, ge, ((right x).0 e).0))

  behind_end : (x : ℕ) → IsLiveAtEnd g x n → IsReadFirst g x [] b.end
  behind_end x other =
      let same : other.0 ≡ b = same_Some other.0 b (sym other.1 ∙ at) in
      let more = other.2 in
      onward more.0 more.2.0 (subst (λ c. Contains (targets_of c.end) more.0) same more.1) more.2.1 more.2.2

  stands : (x : ℕ) → x < g.name_count → {all : List Instruction} {end : End} → IsReadFirst g x all end → b.end ≡ end → read_in g.name_count x all ((end_reads x end && nat_lt x g.name_count) || contains live x) ≡ true
  stands x small (read {i} {left} {end} e) same = or_left (reads x i && nat_lt x g.name_count) _ (and_from (reads x i) _ e (lt-ltb x g.name_count small))
  stands x small (read_at_end {end} e) same = or_left (end_reads x end && nat_lt x g.name_count) _ (and_from (end_reads x end) _ e (lt-ltb x g.name_count small))
  stands x small (passed {i} {left} {end} e more) same = or_right (reads x i && nat_lt x g.name_count) _ (and_from (not (writes x i)) _ (not_from_false (writes x i) e) (stands x small more same))
  stands x small (onward {end} to c target at_to more) same =
      let there : IsLiveAtEnd g x n = (b, at, (to, subst (λ e. Contains (targets_of e) to) (sym same) target, (c, at_to, more))) in
      or_right (end_reads x end && nat_lt x g.name_count) _ ((right x).1 (small, there))

  inside_live : (x : ℕ) → (contains (before_block g.name_count left_over live) x ≡ true) ↔ ((x < g.name_count) × IsReadFirst g x rest b.end)
  inside_live x = (
    (λ e. (
      elim (cases_lt x g.name_count) [ inl l ↦ l | inr ge ↦ absurd (true≢false (sym e ∙ block_below g.name_count left_over live live_below x ge)) ],
      in_block g x left_over live (λ f. behind_end x ((right x).0 f).1) e,
    )),
    (λ h. block_in g.name_count x left_over live ∙ stands x h.0 h.1 refl),
  )

pub live_inside : IsLiveInside
live_inside g starts ends are n b live at at_end rest x = inside_live g n b live at (λ y. are.at_ends n y live at_end) rest x
