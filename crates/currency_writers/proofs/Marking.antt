-- Places that are marked, one after the other.
use Rattle.std.proofs.Common.{◌≡◌, ◌≢◌, inl, inr, ℕ, zero, suc, ◌+◌, ◌<◌, ◌≤◌, None, Some, List, [], ◌∷◌, length, get_or, take, refl, sym, ap, subst, ◌∙◌, arith}
use Rattle.std.specs.Prelude.{All, Contains, ◌⊎◌}
use Rattle.std.proofs.lemmas.List.Elements.{All-more, All-weaker, Contains-get_or}
use Rattle.currency_writers.specs.declared.marks.Marks as declared-marks
use Rattle.currency_writers.specs.Marks.{mark_at}
use Rattle.currency_writers.proofs.Entering.{some_not}

take_whole : (xs : List ℕ) (k : ℕ) → length xs ≤ k → take k xs ≡ xs
take_whole [] zero le = refl
take_whole [] (suc k) le = refl
take_whole (y ∷ ys) zero le = absurd (omega (arith, le))
take_whole (y ∷ ys) (suc k) le = ap (λ zs. y ∷ zs) (take_whole ys k (omega (arith, le)))

-- one of such places may be marked
pub within_at : (list : List ℕ) (k d room there : ℕ) → All (λ p. p < room) list → k < length list → there ≡ room → get_or list k d < there
within_at list k d room there all lt same = (let inside = all k d lt in omega (arith, inside, same))

pub only_next : {T : Type 0} (first old new : declared-marks.Marks T) (list : List ℕ) (k d : ℕ) (value : T) → k < length list → ((p : ℕ) → mark_at old p ≢ None → (mark_at first p ≢ None) ⊎ Contains list p)
    → ((p : ℕ) → (mark_at new p ≡ mark_at old p) ⊎ ((p ≡ get_or list k d) × (mark_at new p ≡ Some value))) → (p : ℕ) → mark_at new p ≢ None → (mark_at first p ≢ None) ⊎ Contains list p
only_next first old new list k d value lt before put p some = elim (put p) [
  | inl e ↦ before p (λ q. some (e ∙ q))
  | inr r ↦ inr (subst (λ n. Contains list n) (sym r.0) (Contains-get_or list k d lt))
]

-- what is marked stays so as one place more is
pub kept_next : {T : Type 0} (old new : declared-marks.Marks T) (place : ℕ) (value : T) → ((p : ℕ) → (mark_at new p ≡ mark_at old p) ⊎ ((p ≡ place) × (mark_at new p ≡ Some value))) → (p : ℕ) → mark_at old p ≢ None → mark_at new p ≢ None
kept_next old new place value put p some = elim (put p) [ inl e ↦ (λ q. some (sym e ∙ q)) | inr r ↦ some_not (mark_at new p) value r.1 ]

pub all_next : {T : Type 0} (old new : declared-marks.Marks T) (list : List ℕ) (k d place : ℕ) (value : T) → k < length list → ((p : ℕ) → (mark_at new p ≡ mark_at old p) ⊎ ((p ≡ place) × (mark_at new p ≡ Some value))) → All (λ p. mark_at old p ≢ None) (take k list)
    → mark_at new (get_or list k d) ≢ None → All (λ p. mark_at new p ≢ None) (take (k + 1) list)
all_next old new list k d place value lt put all here =
    All-more (λ p. mark_at new p ≢ None) list k d lt (All-weaker (λ p. mark_at old p ≢ None) (λ p. mark_at new p ≢ None) (kept_next old new place value put) (take k list) all) here

pub all_done : {T : Type 0} (marks : declared-marks.Marks T) (list : List ℕ) (k : ℕ) → length list ≤ k → All (λ p. mark_at marks p ≢ None) (take k list) → All (λ p. mark_at marks p ≢ None) list
all_done marks list k le all = subst (λ (xs : List ℕ). All (λ p. mark_at marks p ≢ None) xs) (take_whole list k le) all
