-- What a flood of 64 facts brings is what some way brings.
use Rattle.std.proofs.Common.{◌≡◌, ◌↔◌, inl, inr, ℕ, ◌%◌, ◌<◌, ◌≤◌, ◌==◌, Bool, true, false, true≢false, ◌&&◌, ◌||◌, List, length, refl, sym, ap, ◌∙◌, subst, arith}
use Rattle.std.specs.Prelude.{slice_index_or}
use Rattle.std.specs.Int.{bit_at}
use Rattle.std.proofs.lemmas.Bool.{cases_lt, or_cases, or_left, and_parts}
use Rattle.std.proofs.lemmas.List.{get_or_past}
use Rattle.std.proofs.lemmas.Nat.{mod_below}
use Rattle.std.proofs.Math.Nat.{mod-eq_of_lt}
use Rattle.graph_core.specs.Graphs.{Block}
use Rattle.graph_paths.specs.Flood as flood
use Rattle.graph_paths.specs.Flood.{Course, Bits, AreSettled, begun, handed}
use Rattle.motion_pass_points.specs.Words.{has}
use Rattle.motion_pass_problems.specs.declared.flow.Passage.{Passage}
use Rattle.motion_pass_problems.specs.Flowing.{FlowsBy, IsBrought, begin, made_by, passed_by, no_passage, makes, lets_pass, is_at}
use Rattle.motion_pass_problems.proofs.Pushed.{has_none}
use Rattle.base_laws.proofs.Booleans.{or_true}

-- numbers are taken but for multiples of 64
has_of : (w k : ℕ) → has w (k % 64) ≡ has w k
has_of w k = ap (λ j. bit_at w j == 1) (mod-eq_of_lt (mod_below k 64 (omega arith)))

-- what a block hands on it makes, or lets pass
module _ (Flows : (from to : ℕ) → Type 0) (does : ℕ → Bool → Bool) (made passed begins first : ℕ → Bool) (parts : (m : ℕ) (before : Bool) → does m before ≡ (made m || (before && passed m)))
    (starts : (m : ℕ) → first m ≡ true → begins m ≡ true) where
  pub brought_on : {n : ℕ} → flood.IsBrought Flows does first n → IsBrought Flows made passed begins n
  brought_on {n} (begun e) = begin (starts n e)
  brought_on (handed {m} before edge come e) = elim (or_cases _ _ (sym (parts m before) ∙ e)) [
    | inl made_it ↦ made_by edge made_it
    | inr through ↦ (let both = and_parts _ _ through in passed_by edge both.1 (brought_on (come both.0)))
  ]

module _ (blocks : List Block) (reached : ℕ → Bool) (forward : Bool) (passages : List Passage) (fits : length passages ≤ length blocks) where
  abbrev course : Course
  course = record { blocks = blocks; is_open = reached; forward = forward; width = 64; does = λ n k before. makes passages k n || (before && lets_pass passages k n) }

  none_makes : (k n : ℕ) → length blocks ≤ n → makes passages k n ≡ false
  none_makes k n out = ap (λ (q : Passage). has q.made k) (get_or_past passages n no_passage (omega (arith, out, fits))) ∙ has_none k

  none_passes : (k n : ℕ) → length blocks ≤ n → lets_pass passages k n ≡ false
  none_passes k n out = ap (λ (q : Passage). has q.passed k) (get_or_past passages n no_passage (omega (arith, out, fits))) ∙ has_none k

  module _ (begins words : List ℕ) (first comes leaves : Bits) (size : length words ≡ length blocks) (first_is : (n k : ℕ) → k < 64 → first n k ≡ is_at begins k n)
      (words_are : (n k : ℕ) → n < length blocks → k < 64 → is_at words k n ≡ comes n k) (settled : AreSettled course first comes leaves) where
    module _ (k : ℕ) (low : k < 64) where
      brought_in : {n : ℕ} → IsBrought (FlowsBy blocks reached forward) (makes passages k) (lets_pass passages k) (is_at begins k) n → n < length blocks → comes n k ≡ true
      brought_in {n} (begin e) lt = settled.brought.begun n k (first_is n k low ∙ e)
      brought_in {n} (made_by {m} edge e) lt = elim (cases_lt m (length blocks)) [
        | inl inside ↦ settled.closed m n k edge inside lt (settled.brought.made m k inside low ∙ or_left _ _ e)
        | inr out ↦ absurd (true≢false (sym e ∙ none_makes k m out))
      ]
      brought_in {n} (passed_by {m} edge e way) lt = elim (cases_lt m (length blocks)) [
        | inl inside ↦ (let was = brought_in way inside in
            settled.closed m n k edge inside lt (settled.brought.made m k inside low ∙ (λ i. makes passages k m || (was i && e i)) ∙ or_true (makes passages k m)))
        | inr out ↦ absurd (true≢false (sym e ∙ none_passes k m out))
      ]

      told_low : (n : ℕ) → n < length blocks → (is_at words k n ≡ true) ↔ IsBrought (FlowsBy blocks reached forward) (makes passages k) (lets_pass passages k) (is_at begins k) n
      told_low n lt = (
        λ e. brought_on (FlowsBy blocks reached forward) (λ m. course.does m k) (makes passages k) (lets_pass passages k) (is_at begins k) (λ m. first m k) (λ m before. refl) (λ m so. sym (first_is m k low) ∙ so)
            (settled.brought.brought n k lt low (sym (words_are n k lt low) ∙ e)),
        λ way. words_are n k lt low ∙ brought_in way lt,
      )

    -- the words of a flood tell just what some way brings
    pub told_there : (k n : ℕ) → n < length words → (is_at words k n ≡ true) ↔ IsBrought (FlowsBy blocks reached forward) (makes passages k) (lets_pass passages k) (is_at begins k) n
    told_there k n lt =
        let same : (w : ℕ) → has w (k % 64) ≡ has w k = λ w. has_of w k in
        let low = told_low (k % 64) (mod_below k 64 (omega arith)) n (omega (arith, lt, size)) in
        let M : (ℕ → Bool) → Type 0 = λ f. (f (slice_index_or words n 0) ≡ true) ↔ IsBrought (FlowsBy blocks reached forward) (λ m. f (slice_index_or passages m no_passage).made) (λ m. f (slice_index_or passages m no_passage).passed) (λ m. f (slice_index_or begins m 0)) n in
        subst M (λ i w. same w i) low
