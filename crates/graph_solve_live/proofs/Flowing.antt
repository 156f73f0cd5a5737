-- The names that a flood against execution brings are those that are live.
use Rattle.std.proofs.Common.{◌≡◌, ℕ, ◌+◌, ◌<◌, ◌||◌, ◌&&◌, ◌↔◌, Bool, true, false, true≢false, inl, inr, Option, Some, None, List, [], ◌∷◌, length, refl, sym, ap, ◌∙◌, subst, arith}
use Rattle.std.specs.Prelude.{not, slice_get}
use Rattle.std.specs.FinSet.{contains}
use Rattle.std.specs.List.{Contains}
use Rattle.std.proofs.lemmas.Bool.{or_cases, or_left, or_right, and_parts, and_from, cases_lt, not-true, not_from_false}
use Rattle.std.proofs.lemmas.List.{get_or_past}
use Rattle.std.proofs.lemmas.List.FromFn.{length-map-range_with_len}
use Rattle.std.proofs.lemmas.Option.{same_Some, slice_get_within}
use Rattle.bit_rows.specs.Grid.{row_at}
use Rattle.graph_core.specs.Graphs.{Instruction, End, Block, Graph}
use Rattle.graph_core.specs.Uses.{targets_of}
use Rattle.graph_core.specs.Paths.{reads, writes}
use Rattle.graph_paths.specs.declared.marks.Marks.{Marks}
use Rattle.graph_paths.specs.Flood.{Bits, Flows, IsBrought, begun, handed, AreSettled}
use Rattle.graph_paths.specs.PathMarksTable.{bits_of}
use Rattle.graph_solve_problem.specs.Numbers.{Numbers}
use Rattle.graph_solve.specs.Rows.{set_at, sets_at}
use Rattle.graph_solve.proofs.Asking.{asked_first}
use Rattle.graph_solve_live.specs.Live.{IsReadFirst, read, read_at_end, passed, onward, IsLiveAtStart, IsLiveAtEnd, AreLive, end_reads}
use Rattle.graph_solve_live.specs.Flowing.{is_live_along, is_live_at_some, living}
use Rattle.graph_solve_live.proofs.Unread.{among_contains, contains_among}

module _ (g : Graph) (x : ℕ) where
  -- from what is live at the end of a block to what is before instructions of it
  read_from : (rest : List Instruction) (e : End) (behind : Bool) → (behind ≡ true → IsReadFirst g x [] e) → is_live_along x rest (end_reads x e || behind) ≡ true → IsReadFirst g x rest e
  read_from [] e behind there q = elim (or_cases (end_reads x e) behind q) [
    | inl here ↦ read_at_end here
    | inr was ↦ there was
  ]
  read_from (i ∷ rest) e behind there q = elim (or_cases (reads x i) (not (writes x i) && is_live_along x rest (end_reads x e || behind)) q) [
    | inl here ↦ read here
    | inr on ↦ (let both = and_parts (not (writes x i)) (is_live_along x rest (end_reads x e || behind)) on in passed (not-true (writes x i) both.0) (read_from rest e behind there both.1))
  ]

  -- what is live at the end of a block is read first from there on
  onward_from : (n : ℕ) (b : Block) → slice_get g.blocks n ≡ Some b → IsLiveAtEnd g x n → IsReadFirst g x [] b.end
  onward_from n b at live =
      let same : live.0 ≡ b = same_Some live.0 b (sym live.1 ∙ at) in
      let more = live.2 in
      onward more.0 more.2.0 (subst (λ c. Contains (targets_of c.end) more.0) same more.1) more.2.1 more.2.2

  starts_from : (n : ℕ) (behind : Bool) → (behind ≡ true → IsLiveAtEnd g x n) → (o : Option Block) → slice_get g.blocks n ≡ o → is_live_at_some x o behind ≡ true → IsLiveAtStart g x n
  starts_from n behind there None at q = absurd (true≢false (sym q))
  starts_from n behind there (Some b) at q = (b, at, read_from b.instructions b.end behind (λ so. onward_from n b at (there so)) q)

  -- what some way brings to the end of a block is live there
  came : (begins : ℕ → Bool) → ((m : ℕ) → begins m ≡ false) → {n : ℕ} → IsBrought (Flows (living g.blocks g.name_count)) (λ m behind. is_live_at_some x (slice_get g.blocks m) behind) begins n → IsLiveAtEnd g x n
  came begins none {n} (begun e) = absurd (true≢false (sym e ∙ none n))
  came begins none {n} (handed {m} behind edge come e) =
      (edge.block, edge.is, (m, among_contains m (targets_of edge.block.end) edge.leads, starts_from m behind (λ so. came begins none (come so)) (slice_get g.blocks m) refl e))

module _ (g : Graph) (begins ends starts : Bits) (none : (n x : ℕ) → begins n x ≡ false) (settled : AreSettled (living g.blocks g.name_count) begins ends starts) where
  start_is : (n x : ℕ) (b : Block) → slice_get g.blocks n ≡ Some b → x < g.name_count → starts n x ≡ is_live_at_some x (Some b) (ends n x)
  start_is n x b at small = settled.brought.made n x (slice_get_within g.blocks n b at) small ∙ ap (λ o. is_live_at_some x o (ends n x)) at

  ends_live : (n x : ℕ) → n < length g.blocks → x < g.name_count → ends n x ≡ true → IsLiveAtEnd g x n
  ends_live n x lt small e = came g x (λ m. begins m x) (λ m. none m x) (settled.brought.brought n x lt small e)

  starts_live : (n x : ℕ) → n < length g.blocks → x < g.name_count → starts n x ≡ true → IsLiveAtStart g x n
  starts_live n x lt small e = starts_from g x n (ends n x) (ends_live n x lt small) (slice_get g.blocks n) refl (sym (settled.brought.made n x lt small) ∙ e)

  module _ (x : ℕ) (small : x < g.name_count) where
    -- what is read first is told
    found : {rest : List Instruction} {e : End} → IsReadFirst g x rest e → (n : ℕ) (b : Block) → slice_get g.blocks n ≡ Some b → b.end ≡ e → is_live_along x rest (end_reads x e || ends n x) ≡ true
    found (read {i} {left} {end} e) n b at same = or_left (reads x i) _ e
    found (read_at_end {end} e) n b at same = or_left (end_reads x end) (ends n x) e
    found (passed {i} {left} {end} e more) n b at same = or_right (reads x i) _ (and_from (not (writes x i)) _ (not_from_false (writes x i) e) (found more n b at same))
    found (onward {end} to c has at_to more) n b at same =
        let leaves : starts to x ≡ true = start_is to x c at_to small ∙ found more to c at_to refl in
        let leads = contains_among to (targets_of b.end) (subst (λ f. Contains (targets_of f) to) (sym same) has) in
        or_right (end_reads x end) (ends n x)
        (settled.closed to n x (record { block = b; is = at; comes = refl; leads = leads }) (slice_get_within g.blocks to c at_to) (slice_get_within g.blocks n b at) leaves)

    starts_found : (n : ℕ) → IsLiveAtStart g x n → starts n x ≡ true
    starts_found n live = start_is n x live.0 live.1 small ∙ found live.2 n live.0 live.1 refl

    ends_found : (n : ℕ) → IsLiveAtEnd g x n → ends n x ≡ true
    ends_found n live =
        let more = live.2 in
        let leads = contains_among more.0 (targets_of live.0.end) more.1 in
        settled.closed more.0 n x (record { block = live.0; is = live.1; comes = refl; leads = leads }) (slice_get_within g.blocks more.0 more.2.0 more.2.1) (slice_get_within g.blocks n live.0 live.1)
        (starts_found more.0 more.2)

-- what rows tell bit by bit their sets tell
module _ (marks : Marks) (count names : ℕ) (So : ℕ → ℕ → Type 0) (each : marks.count ≡ count) (wide : marks.width ≡ names) (tells : (n x : ℕ) → n < count → x < names → (bits_of marks n x ≡ true) ↔ So n x) where
  none_past : (n x : ℕ) → n < count → (x < names → ⊥) → bits_of marks n x ≡ false
  none_past n x lt past =
      let row : length (row_at marks.rows n) ≡ marks.width = (let all = marks.each in marks.wide n (omega (arith, lt, each, all))) in
      get_or_past (row_at marks.rows n) x false (omega (arith, row, wide, past))

  sets_tell : (n x : ℕ) (live : Numbers) → slice_get (sets_at marks.rows 0 count) n ≡ Some live → (contains live x ≡ true) ↔ ((x < names) × So n x)
  sets_tell n x live at =
      let inside = slice_get_within (sets_at marks.rows 0 count) n live at in
      let size = length-map-range_with_len (λ row. set_at marks.rows (0 + row)) 0 count in
      let lt : n < count = omega (arith, inside, size) in
      let is = asked_first marks.rows count n x live lt at in
      elim (cases_lt x names) [
        | inl small ↦ (let h = tells n x lt small in ((λ e. (small, h.0 (is ∙ e))), (λ l. sym is ∙ h.1 l.1)))
        | inr ge ↦ ((λ e. absurd (true≢false (sym (is ∙ e) ∙ none_past n x lt (λ l. omega (arith, l, ge))))), (λ l. absurd (omega (arith, ge, l.0))))
      ]

-- where a flood of live names settles, its rows tell of just those
pub are_live : (g : Graph) (begins : Bits) (ends starts : Marks) → ((n x : ℕ) → begins n x ≡ false) → AreSettled (living g.blocks g.name_count) begins (bits_of ends) (bits_of starts)
    → (count : ℕ) → count ≡ length g.blocks → starts.count ≡ count → ends.count ≡ count → starts.width ≡ g.name_count → ends.width ≡ g.name_count
    → AreLive g (sets_at starts.rows 0 count) (sets_at ends.rows 0 count)
are_live g begins ends starts none settled count is starts_count ends_count starts_width ends_width =
    let sets = length-map-range_with_len (λ row. set_at starts.rows (0 + row)) 0 count in
    record {
      starts_each = sets ∙ is;
      ends_each = length-map-range_with_len (λ row. set_at ends.rows (0 + row)) 0 count ∙ is;
      at_starts = sets_tell starts count g.name_count (λ n x. IsLiveAtStart g x n) starts_count starts_width
          (λ n x lt small. (starts_live g begins (bits_of ends) (bits_of starts) none settled n x (omega (arith, lt, is)) small, starts_found g begins (bits_of ends) (bits_of starts) none settled x small n));
      at_ends = sets_tell ends count g.name_count (λ n x. IsLiveAtEnd g x n) ends_count ends_width
          (λ n x lt small. (ends_live g begins (bits_of ends) (bits_of starts) none settled n x (omega (arith, lt, is)) small, ends_found g begins (bits_of ends) (bits_of starts) none settled x small n));
    }
