-- Lists that are gone over from the end.
use Rattle.std.proofs.Common.{◌≡◌, ◌≢◌, ℕ, zero, suc, ◌+◌, ◌-◌, ◌<◌, ◌≤◌, Bool, true, false, List, [], ◌∷◌, ◌++◌, length, map, refl, sym, ap, ◌∙◌, subst, arith, get_or, drop}
use Rattle.std.specs.Prelude.{slice_index_or}
use Rattle.std.proofs.lemmas.List.{at_drop_more, drop_all, length-map, length-drop}

-- nothing is gone over yet
pub back_first : {A B : Type 0} (view : A → B) (all : List A) → map view (drop (length all - 0) all) ≡ []
back_first view all = ap (λ l. map view l) (drop_all (length all - 0) all (omega arith))

-- one more is gone over
pub back_step : {A B : Type 0} (view : A → B) (all : List A) (left : ℕ) (x : A) → left < length all → x ≡ get_or all (length all - 1 - left) x → map view (drop (length all - (left + 1)) all) ≡ view x ∷ map view (drop (length all - left) all)
back_step view all left x lt e =
    let k : length all - (left + 1) ≡ length all - 1 - left = omega (arith, lt) in
    let more : (length all - 1 - left) + 1 ≡ length all - left = omega (arith, lt) in
    let small : length all - 1 - left < length all = omega (arith, lt) in
    ap (λ n. map view (drop n all)) k ∙ at_drop_more (λ l. map view l) all (length all - 1 - left) x small ∙ ap (λ y. view y ∷ map view (drop ((length all - 1 - left) + 1) all)) (sym e)
    ∙ ap (λ n. view x ∷ map view (drop n all)) more

-- all are gone over
pub back_all : {A B : Type 0} (view : A → B) (all : List A) (left : ℕ) → length all ≤ left → map view (drop (length all - left) all) ≡ map view all
back_all view all left le = (let z : length all - left ≡ 0 = omega (arith, le) in ap (λ n. map view (drop n all)) z)

pub at_last : {A : Type 0} (xs : List A) (y d : A) → slice_index_or (xs ++ y ∷ []) (length xs) d ≡ y
at_last [] y d = refl
at_last (x ∷ xs) y d = at_last xs y d

pub before_last : {A : Type 0} (xs : List A) (y d : A) (k : ℕ) → k < length xs → slice_index_or (xs ++ y ∷ []) k d ≡ slice_index_or xs k d
before_last [] y d k lt = absurd (omega (arith, lt))
before_last (x ∷ xs) y d zero lt = refl
before_last (x ∷ xs) y d (suc k) lt = before_last xs y d k (omega (arith, lt))

-- so many are gone over
pub back_count : {A B : Type 0} (view : A → B) (all : List A) (left : ℕ) → left ≤ length all → length (map view (drop (length all - left) all)) ≡ left
back_count view all left le = (let one : length (map view (drop (length all - left) all)) ≡ length (drop (length all - left) all) = length-map (drop (length all - left) all) view in
    let two : length (drop (length all - left) all) ≡ length all - (length all - left) = length-drop (length all - left) all in omega (arith, one, two, le))
