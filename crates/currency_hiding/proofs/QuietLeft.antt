-- What is left of places: those that are not marked.
use Rattle.std.proofs.Common.{◌≡◌, ◌≢◌, inl, inr, ℕ, ◌+◌, ◌-◌, ◌<◌, ◌≤◌, None, List, [], ◌∷◌, ◌++◌, length, get_or, take, sym, subst, arith}
use Rattle.std.specs.Prelude.{All, Contains}
use Rattle.std.specs.List.Sorted.{IsNonDecreasing}
use Rattle.std.proofs.lemmas.List.{get_or_default}
use Rattle.std.proofs.lemmas.List.Elements.{All-contains, All-more, All-weaker, Contains-append_left, Contains-get_or, Contains-push, Contains-push_cases}
use Rattle.std.proofs.lemmas.List.Sorted.{IsNonDecreasingBy-push}
use Rattle.currency_notes.proofs.Lists.{take_whole}
use Rattle.currency_writers.specs.declared.marks.Marks as declared-marks
use Rattle.currency_writers.specs.Marks.{mark_at}

-- given: places that ascend, and marks
module _ (places : List ℕ) (marks : declared-marks.Marks (Unit {0})) where
  -- So many of the places were looked at: those of them that are not marked are left, in order, and none is above what comes.
  pub record AreLeft (left : List ℕ) (count : ℕ) : Type 0 where
    pub only : (p : ℕ) → Contains left p → Contains places p × (mark_at marks p ≡ None)
    pub all : All (λ p. mark_at marks p ≡ None → Contains left p) (take count places)
    pub ascend : IsNonDecreasing left
    pub below : (p k d : ℕ) → Contains left p → count ≤ k → k < length places → p ≤ get_or places k d

  none_there : (p : ℕ) → Contains [] p → ⊥
  none_there p there = (let lt = there.1 in omega (arith, lt))

  pub left_first : AreLeft [] 0
  left_first = record {
    only = λ p there. absurd (none_there p there);
    all = λ k d lt. absurd (omega (arith, lt));
    ascend = λ i j d le lt. absurd (omega (arith, lt));
    below = λ p k d there le lt. absurd (none_there p there);
  }

  -- a place that is marked is left out
  pub left_same : (left : List ℕ) (k d : ℕ) → k < length places → mark_at marks (get_or places k d) ≢ None → AreLeft left k → AreLeft left (k + 1)
  left_same left k d lt marked are = record {
    only = are.only;
    all = All-more (λ p. mark_at marks p ≡ None → Contains left p) places k d lt are.all (λ e. absurd (marked e));
    ascend = are.ascend;
    below = λ p j e there le within. are.below p j e there (omega (arith, le)) within;
  }

  -- a place that is not is left
  pub left_push : (left new : List ℕ) (k d : ℕ) → IsNonDecreasing places → k < length places → mark_at marks (get_or places k d) ≡ None → new ≡ left ++ (get_or places k d ∷ []) → AreLeft left k → AreLeft new (k + 1)
  left_push left new k d ascend lt free pushed are = subst (λ (l : List ℕ). AreLeft l (k + 1)) (sym pushed) (record {
    only = only_on;
    all = All-more (λ p. mark_at marks p ≡ None → Contains (left ++ (get_or places k d ∷ [])) p) places k d lt
        (All-weaker (λ p. mark_at marks p ≡ None → Contains left p) (λ p. mark_at marks p ≡ None → Contains (left ++ (get_or places k d ∷ [])) p) (λ p was e. Contains-append_left left (get_or places k d ∷ []) p (was e)) (take k places) are.all)
        (λ e. Contains-push left (get_or places k d));
    ascend = IsNonDecreasingBy-push (λ x. x) left (get_or places k d) are.ascend (λ e some. are.below (get_or left (length left - 1) e) k d (Contains-get_or left (length left - 1) e (omega (arith, some))) (omega arith) lt);
    below = below_on;
  })
    where
      only_on : (p : ℕ) → Contains (left ++ (get_or places k d ∷ [])) p → Contains places p × (mark_at marks p ≡ None)
      only_on p there = elim (Contains-push_cases left (get_or places k d) p there) [
        | inl was ↦ are.only p was
        | inr e ↦ subst (λ n. Contains places n × (mark_at marks n ≡ None)) e (Contains-get_or places k d lt, free)
      ]

      below_on : (p j e : ℕ) → Contains (left ++ (get_or places k d ∷ [])) p → k + 1 ≤ j → j < length places → p ≤ get_or places j e
      below_on p j e there le within = elim (Contains-push_cases left (get_or places k d) p there) [
        | inl was ↦ are.below p j e was (omega (arith, le)) within
        | inr same ↦ (let less = ascend k j e (omega (arith, le)) within in let default = get_or_default places k e d lt in omega (arith, less, same, default))
      ]

  -- all places were looked at
  pub left_all : (left : List ℕ) (k : ℕ) → length places ≤ k → AreLeft left k → (p : ℕ) → Contains places p → mark_at marks p ≡ None → Contains left p
  left_all left k le are p there free = All-contains (λ q. mark_at marks q ≡ None → Contains left q) places p (subst (λ (l : List ℕ). All (λ q. mark_at marks q ≡ None → Contains left q) l) (take_whole places k le) are.all) there free
