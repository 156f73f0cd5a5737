-- The four problems, as they are posed and as they are answered.
use Rattle.std.proofs.Common.{◌≡◌, ◌↔◌, ℕ, zero, suc, ◌<◌, ◌≤◌, Bool, true, false, true≢false, not, ◌&&◌, ◌||◌, List, [], ◌∷◌, length, refl, sym, ap, ◌∙◌, subst, arith, inl, inr}
use Rattle.std.specs.Prelude.{None, Some, slice_get}
use Rattle.std.proofs.lemmas.Bool.{cases_lt}
use Rattle.std.proofs.lemmas.List.{get_or_past}
use Rattle.std.proofs.lemmas.Option.{none-some, slice_get_within}
use Rattle.graph_core.specs.Graphs.{Block}
use Rattle.graph_core.specs.Computations.{Computation}
use Rattle.motion_pass_points.specs.Words.{has}
use Rattle.motion_pass_points.specs.MotionPointsComputing.{Told}
use Rattle.motion_pass_problems.specs.declared.flow.Passage.{Passage}
use Rattle.motion_pass_problems.specs.Flowing.{FlowsBy, IsBrought, is_at, lets_pass, makes, no_passage}
use Rattle.motion_pass_problems.specs.Facts.{AreUnsafeEnds, AreUnsafeStarts, is_return}
use Rattle.motion_pass_problems.proofs.Bools.{and_false}
use Rattle.motion_pass_problems.proofs.UnsafeFlow.{IsUnsafeProblem, are_unsafe, told_of, unsafe_start}
use Rattle.motion_pass_problems.proofs.UnhadFlow.{IsUnhadProblem, are_unhad, leaving_of}
use Rattle.motion_pass_problems.proofs.PastFlow.{IsPastProblem, are_past}
use Rattle.motion_pass_problems.proofs.WantedFlow.{IsUsedProblem, are_wanted}
use Rattle.motion_pass_problems.proofs.Together.{all_unsafe, are_facts, ends_unsafe, starts_unsafe, walks_unsafe}
use Rattle.motion_pass_problems.specs.Facts.{ArePast, AreUnhadEnds, AreWanted}
use Rattle.motion_pass_points.specs.declared.columns.Local.{Local}
use Rattle.motion_pass_problems.specs.Problems.{AreBroughtBy, AreLeaving, ArePastPassages, AreTold, AreUnhadPassages, AreUnsafePassages, AreUsedPassages, TellFacts, TellPast, TellUnhadEnds, TellUnsafeEnds, TellUnsafeStarts, TellUsed, local_of}
use Rattle.motion_pass_problems.proofs.Pushed.{has_none}

in_list : {A : Type 0} (xs : List A) (n : ℕ) → slice_get xs n ≡ None → n < length xs → ⊥
in_list [] n none lt = omega (arith, lt)
in_list (x ∷ xs) zero none lt = none-some x (sym none)
in_list (x ∷ xs) (suc n) none lt = in_list xs n none (omega (arith, lt))

-- what is no block is behind all
beyond : {A : Type 0} (xs : List A) (n : ℕ) → slice_get xs n ≡ None → length xs ≤ n
beyond {A} xs n none = elim (cases_lt n (length xs)) [
  | inl lt ↦ absurd (in_list xs n none lt)
  | inr le ↦ le
]

module _ (blocks : List Block) (reached : ℕ → Bool) (locals : List Local) where
  within : (n : ℕ) (b : Block) → slice_get blocks n ≡ Some b → n < length blocks
  within n b at = slice_get_within blocks n b at

  none_made : (passages : List Passage) → length passages ≡ length blocks → (k n : ℕ) → slice_get blocks n ≡ None → makes passages k n ≡ false
  none_made passages size k n none = (let le = beyond blocks n none in ap (λ (q : Passage). has q.made k) (get_or_past passages n no_passage (omega (arith, le, size))) ∙ has_none k)

  none_passed : (passages : List Passage) → length passages ≡ length blocks → (k n : ℕ) → slice_get blocks n ≡ None → lets_pass passages k n ≡ false
  none_passed passages size k n none = (let le = beyond blocks n none in ap (λ (q : Passage). has q.passed k) (get_or_past passages n no_passage (omega (arith, le, size))) ∙ has_none k)

  module _ (k : ℕ) (e : Computation) (is : AreTold blocks reached locals k e) where
    first_is : (n : ℕ) (b : Block) → slice_get blocks n ≡ Some b → reached n ≡ true → has (local_of locals n).first k ≡ (told_of e b).first
    first_is n b at comes = ap (λ (t : Told). t.first) (is.told n b at comes)

    last_is : (n : ℕ) (b : Block) → slice_get blocks n ≡ Some b → reached n ≡ true → has (local_of locals n).last k ≡ (told_of e b).last
    last_is n b at comes = ap (λ (t : Told). t.last) (is.told n b at comes)

    done_is : (n : ℕ) (b : Block) → slice_get blocks n ≡ Some b → reached n ≡ true → has (local_of locals n).done k ≡ (told_of e b).done
    done_is n b at comes = ap (λ (t : Told). t.done) (is.told n b at comes)

    written_is : (n : ℕ) (b : Block) → slice_get blocks n ≡ Some b → reached n ≡ true → has (local_of locals n).written k ≡ (told_of e b).written
    written_is n b at comes = ap (λ (t : Told). t.written) (is.told n b at comes)

    unsafe_posed : (passages : List Passage) (begins : List ℕ) → AreUnsafePassages (length blocks) locals passages → ((n : ℕ) (b : Block) → slice_get blocks n ≡ Some b → is_at begins k n ≡ is_return b.end) → IsUnsafeProblem blocks reached e (makes passages k) (lets_pass passages k) (is_at begins k)
    unsafe_posed passages begins are starts = record {
      makes = λ n b at comes. (are.each n (within n b at)).made k ∙ (λ i. written_is n b at comes i && not (first_is n b at comes i));
      lets = λ n b at comes. (are.each n (within n b at)).passed k ∙ ap not (first_is n b at comes);
      starts = starts;
      none_made = none_made passages are.size k;
      none_passed = none_passed passages are.size k;
    }

    unhad_posed : (unsafe : List ℕ) (passages : List Passage) (begins : List ℕ) → AreUnhadPassages (length blocks) locals unsafe passages → (0 < length blocks → is_at begins k 0 ≡ true) → ((n : ℕ) → is_at begins k n ≡ true → n ≡ 0)
        → IsUnhadProblem blocks reached e (is_at unsafe k) (makes passages k) (lets_pass passages k) (is_at begins k)
    unhad_posed unsafe passages begins are first only = record {
      makes = λ n b at comes. (are.each n (within n b at)).made k ∙ (λ i. (is_at unsafe k n && not (last_is n b at comes i)) && written_is n b at comes i);
      lets = λ n b at comes. (are.each n (within n b at)).passed k ∙ ap (λ l. is_at unsafe k n && not l) (last_is n b at comes);
      starts = λ b at. first (within 0 b at);
      only = only;
    }

    past_posed : (unsafe unhad starts : List ℕ) (passages : List Passage) → ArePastPassages (length blocks) locals unsafe unhad passages → AreUnsafeEnds blocks reached e (is_at unsafe k) → AreUnsafeStarts blocks reached e (is_at starts k)
        → IsPastProblem blocks reached e (is_at unsafe k) (is_at unhad k) (makes passages k) (lets_pass passages k) (is_at starts k)
    past_posed unsafe unhad starts passages are ends_are starts_are = record {
      makes = λ n b at comes. (are.each n (within n b at)).made k ∙ (λ i. (last_is n b at comes i || (written_is n b at comes i && is_at unsafe k n)) && not (is_at unhad k n));
      lets = λ n b at comes. (are.each n (within n b at)).passed k ∙ ap (λ w. not w && not (is_at unhad k n)) (written_is n b at comes);
      starts = walks_unsafe blocks reached e (is_at unsafe k) (is_at starts k) (all_unsafe blocks reached e (is_at unsafe k) ends_are) starts_are;
    }

    used_posed : (past_starts past_ends begins : List ℕ) (passages : List Passage) → AreUsedPassages (length blocks) locals past_starts past_ends passages → ((n : ℕ) → is_at begins k n ≡ false) → IsUsedProblem blocks reached e (is_at past_starts k) (is_at past_ends k) (makes passages k) (lets_pass passages k) (is_at begins k)
    used_posed past_starts past_ends begins passages are nowhere = record {
      makes = λ n b at comes. (are.each n (within n b at)).made k ∙ ap (λ f. f && is_at past_starts k n) (first_is n b at comes);
      lets = λ n b at comes. (are.each n (within n b at)).passed k ∙ ap (λ d. is_at past_ends k n && not d) (done_is n b at comes);
      none_made = none_made passages are.size k;
      none_passed = none_passed passages are.size k;
      nowhere = λ n so. true≢false (sym so ∙ nowhere n);
    }

  -- what the search finds is what some way brings
  flow_of : (forward : Bool) (passages : List Passage) (begins words : List ℕ) → AreBroughtBy blocks reached forward passages begins words → length words ≡ length blocks → (k n : ℕ) → n < length blocks → (is_at words k n ≡ true) ↔ IsBrought (FlowsBy blocks reached forward) (makes passages k) (lets_pass passages k) (is_at begins k) n
  flow_of forward passages begins words brought size k n lt = brought k n (omega (arith, lt, size))

  pub unsafe_told : (passages : List Passage) (begins words : List ℕ) → AreUnsafePassages (length blocks) locals passages → ((k n : ℕ) (b : Block) → slice_get blocks n ≡ Some b → is_at begins k n ≡ is_return b.end) → AreBroughtBy blocks reached false passages begins words → length words ≡ length blocks → TellUnsafeEnds blocks reached locals words
  unsafe_told passages begins words are starts brought size k e is =
      ends_unsafe blocks reached e (is_at words k)
      (are_unsafe blocks reached is.whole e (is_at words k) (makes passages k) (lets_pass passages k) (is_at begins k) (flow_of false passages begins words brought size k) (unsafe_posed k e is passages begins are (starts k)))

  -- the starts, by what leaves blocks against execution
  start_leaves : (w f u : Bool) → ((w && not f) || (u && not f)) ≡ ((w || u) && not f)
  start_leaves true true u = and_false u
  start_leaves true false u = refl
  start_leaves false f u = refl

  pub starts_told : (passages : List Passage) (ends words : List ℕ) → AreUnsafePassages (length blocks) locals passages → TellUnsafeEnds blocks reached locals ends → AreLeaving passages ends words → TellUnsafeStarts blocks reached locals words
  starts_told passages ends words are told_ends leaving k e is =
      starts_unsafe blocks reached e (is_at ends k) (is_at words k) (all_unsafe blocks reached e (is_at ends k) (told_ends k e is)) (λ n b at comes.
      (let passage = are.each n (within n b at) in
      leaving n k ∙ (λ i. (passage.made k ∙ (λ j. written_is k e is n b at comes j && not (first_is k e is n b at comes j))) i || (is_at ends k n && (passage.passed k ∙ ap not (first_is k e is n b at comes)) i))
      ∙ start_leaves (told_of e b).written (told_of e b).first (is_at ends k n) ∙ sym (unsafe_start e b (is_at ends k n))))

  leaving_is : (passages : List Passage) (comes words : List ℕ) → AreLeaving passages comes words → (k : ℕ) → ◌≡◌ {A = ℕ → Bool} (is_at words k) (leaving_of (makes passages k) (lets_pass passages k) (is_at comes k))
  leaving_is passages comes words leaving k = λ i n. leaving n k i

  pub unhad_told : (unsafe : List ℕ) (passages : List Passage) (begins starts words : List ℕ) → TellUnsafeEnds blocks reached locals unsafe → AreUnhadPassages (length blocks) locals unsafe passages → ((k : ℕ) → 0 < length blocks → is_at begins k 0 ≡ true) → ((k n : ℕ) → is_at begins k n ≡ true → n ≡ 0)
      → AreBroughtBy blocks reached true passages begins starts → length starts ≡ length blocks → AreLeaving passages starts words → TellUnhadEnds blocks reached locals words
  unhad_told unsafe passages begins starts words unsafe_is are first only brought size leaving k e is =
      subst (λ flags. AreUnhadEnds blocks reached e flags) (sym (leaving_is passages starts words leaving k))
      (are_unhad blocks reached is.whole e (is_at unsafe k) (is_at starts k) (makes passages k) (lets_pass passages k) (is_at begins k) (all_unsafe blocks reached e (is_at unsafe k) (unsafe_is k e is)) (flow_of true passages begins starts brought size k)
      (unhad_posed k e is unsafe passages begins are (first k) (only k)))

  pub past_told : (unsafe unsafe_starts unhad : List ℕ) (passages : List Passage) (starts ends : List ℕ) → TellUnsafeEnds blocks reached locals unsafe → TellUnsafeStarts blocks reached locals unsafe_starts → TellUnhadEnds blocks reached locals unhad → ArePastPassages (length blocks) locals unsafe unhad passages
      → AreBroughtBy blocks reached true passages unsafe_starts starts → length starts ≡ length blocks → AreLeaving passages starts ends → TellPast blocks reached locals unsafe_starts unhad starts ends
  past_told unsafe unsafe_starts unhad passages starts ends unsafe_is starts_are unhad_is are brought size leaving k e is =
      subst (λ flags. ArePast blocks reached e (is_at unsafe_starts k) (is_at unhad k) (is_at starts k) flags) (sym (leaving_is passages starts ends leaving k))
      (are_past blocks reached is.whole e (is_at unsafe k) (is_at unhad k) (all_unsafe blocks reached e (is_at unsafe k) (unsafe_is k e is)) (unhad_is k e is) is.once (is_at starts k) (makes passages k) (lets_pass passages k) (is_at unsafe_starts k)
      (flow_of true passages unsafe_starts starts brought size k) (past_posed k e is unsafe unhad unsafe_starts passages are (unsafe_is k e is) (starts_are k e is)))

  pub used_told : (past_starts past_ends begins behind : List ℕ) (passages : List Passage) (starts ends : List ℕ) → AreUsedPassages (length blocks) locals past_starts past_ends passages → ((k n : ℕ) → is_at begins k n ≡ false) → AreBroughtBy blocks reached false passages begins behind
      → length behind ≡ length blocks → AreLeaving passages behind starts → ((n k : ℕ) → is_at ends k n ≡ (is_at behind k n && is_at past_ends k n)) → TellUsed blocks reached locals past_starts past_ends starts ends
  used_told past_starts past_ends begins behind passages starts ends are nowhere brought size leaving both unsafe_ends unsafe_starts unhad_ends unsafe_is unhad_is past_is k e is =
      subst (λ flags. AreWanted blocks reached e flags (is_at ends k)) (sym (leaving_is passages behind starts leaving k))
      (subst (λ flags. AreWanted blocks reached e (leaving_of (makes passages k) (lets_pass passages k) (is_at behind k)) flags) (sym (λ i n. both n k i))
      (are_wanted blocks reached is.whole e (is_at unsafe_ends k) (is_at unsafe_starts k) (is_at unhad_ends k) (is_at past_starts k) (is_at past_ends k) (all_unsafe blocks reached e (is_at unsafe_ends k) (unsafe_is k e is)) (unhad_is k e is) (past_is k e is)
      (is_at behind k) (makes passages k) (lets_pass passages k) (is_at begins k) (flow_of false passages begins behind brought size k) (used_posed k e is past_starts past_ends begins passages are (nowhere k))))

  -- ALL FOUR: the words tell just what is so of each computation at each block.
  pub facts_told : (unsafe_ends unsafe_starts unhad_ends past_starts past_ends used_starts used_ends : List ℕ) → TellUnsafeEnds blocks reached locals unsafe_ends → TellUnsafeStarts blocks reached locals unsafe_starts → TellUnhadEnds blocks reached locals unhad_ends
      → TellPast blocks reached locals unsafe_starts unhad_ends past_starts past_ends → TellUsed blocks reached locals past_starts past_ends used_starts used_ends → TellFacts blocks reached locals unsafe_starts past_starts past_ends used_starts used_ends
  facts_told unsafe_ends unsafe_starts unhad_ends past_starts past_ends used_starts used_ends ends starts unhad past used k e is =
      are_facts blocks reached e (is_at unsafe_starts k) (is_at unhad_ends k) (is_at past_starts k) (is_at past_ends k) (is_at used_starts k) (is_at used_ends k) (starts k e is) (past k e is) (used unsafe_ends unsafe_starts unhad_ends ends unhad past k e is)
