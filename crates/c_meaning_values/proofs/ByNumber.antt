-- The objects of a memory, by number.
use Rattle.std.proofs.Common.{◌≡◌, ℕ, zero, suc, ◌+◌, ◌<◌, true, false, List, [], ◌∷◌, map, drop, length, get_or, set, Option, Some, None, refl, sym, ap, ◌∙◌, arith}
use Rattle.std.specs.Prelude.{option_map, slice_get, if◌then◌else◌}
use Rattle.std.specs.Option.{option_map_or}
use Rattle.std.proofs.lemmas.List.{map-set}
use Rattle.std.proofs.lemmas.Option.{slice_get-map, slice_get-get_or}
use Rattle.c_meaning_values.specs.declared.value.Phase.TheVariants.{Ended}
use Rattle.word_base.specs.Owners.{Owner}
use Rattle.c_meaning_values.specs.declared.memory.Object as declared-object
use Rattle.c_meaning_values.specs.Views.{object_view}
use Rattle.c_meaning_values.specs.Memory.{Object, is_owned, object_of, in_phase, ended_from}

-- the first of these objects is the owner's
pub owned_here : (w : Owner) (m : List declared-object.Object) (n : ℕ) (o : declared-object.Object) → n < length m → o ≡ get_or m n o → is_owned w (object_view o) ≡ true
    → object_of w (drop n (map object_view m)) ≡ Some 0
owned_here w [] n o lt e t = absurd (omega arith)
owned_here w (x ∷ m) zero o lt e t = ap (λ b. if b then Some 0 else option_map (λ k. suc k) (object_of w (map object_view m))) (ap (λ y. is_owned w (object_view y)) (sym e) ∙ t)
owned_here w (x ∷ m) (suc n) o lt e t = owned_here w m n o (omega arith) e t

-- the first of these objects is not the owner's
pub owned_later : (w : Owner) (m : List declared-object.Object) (n : ℕ) (o : declared-object.Object) → n < length m → o ≡ get_or m n o → is_owned w (object_view o) ≡ false
    → object_of w (drop n (map object_view m)) ≡ option_map (λ k. suc k) (object_of w (drop (n + 1) (map object_view m)))
owned_later w [] n o lt e t = absurd (omega arith)
owned_later w (x ∷ m) zero o lt e t = ap (λ b. if b then Some 0 else option_map (λ k. suc k) (object_of w (map object_view m))) (ap (λ y. is_owned w (object_view y)) (sym e) ∙ t)
owned_later w (x ∷ m) (suc n) o lt e t =
    let same : suc n + 1 ≡ suc (n + 1) = omega arith in
    owned_later w m n o (omega arith) e t ∙ ap (λ k. option_map (λ j. suc j) (object_of w (drop k (map object_view (x ∷ m))))) (sym same)

-- further on by one
pub one_further : (i : ℕ) (o : Option ℕ) → option_map (λ k. i + k) (option_map (λ k. suc k) o) ≡ option_map (λ k. (i + 1) + k) o
one_further i None = refl
one_further i (Some k) = let e : i + suc k ≡ (i + 1) + k = omega arith in ap Some e

-- an object that is there, seen through the view
there : (m : List declared-object.Object) (n : ℕ) (o : declared-object.Object) → n < length m → o ≡ get_or m n o → slice_get (map object_view m) n ≡ Some (object_view o)
there m n o lt e = slice_get-map object_view m n ∙ ap (option_map object_view) (slice_get-get_or m n o lt ∙ ap Some (sym e))

-- one object becomes another by a rule
pub changes_one : (f : Object → Object) (m : List declared-object.Object) (n : ℕ) (o p : declared-object.Object) → n < length m → o ≡ get_or m n o → object_view p ≡ f (object_view o)
    → map object_view (set m n p) ≡ option_map_or (λ q. set (map object_view m) n (f q)) (slice_get (map object_view m) n) (map object_view m)
changes_one f m n o p lt e h =
    let M = map object_view m in
    map-set object_view m n p ∙ ap (set M n) h ∙ sym (ap (λ q. option_map_or (λ r. set M n (f r)) q M) (there m n o lt e))

-- one more object has ended, from behind
pub ends_one : (m : List declared-object.Object) (before : List Object) (k n : ℕ) (o p : declared-object.Object) → k ≡ suc n → n < length m → length m ≡ length before → o ≡ get_or m n o → object_view p ≡ in_phase Ended (object_view o)
    → map object_view m ≡ ended_from k before → map object_view (set m n p) ≡ ended_from n before
ends_one [] before k n o p is lt same e h inv = absurd (omega arith)
ends_one (x ∷ m) [] k n o p is lt same e h inv = absurd (omega arith)
ends_one (x ∷ m) (y ∷ before) zero n o p is lt same e h inv = absurd (omega arith)
ends_one (x ∷ m) (y ∷ before) (suc k) zero o p is lt same e h inv =
    let none : k ≡ 0 = omega (arith, is) in
    let whole : object_view x ∷ map object_view m ≡ y ∷ map (in_phase Ended) before = inv ∙ ap (λ j. ended_from (suc j) (y ∷ before)) none in
    let first : object_view x ≡ y = cc in
    let rest : map object_view m ≡ map (in_phase Ended) before = cc in
    let head : object_view p ≡ in_phase Ended y = h ∙ ap (λ z. in_phase Ended (object_view z)) e ∙ ap (in_phase Ended) first in
    ap (λ z. z ∷ map object_view m) head ∙ ap (λ z. in_phase Ended y ∷ z) rest
ends_one (x ∷ m) (y ∷ before) (suc k) (suc n) o p is lt same e h inv =
    let first : object_view x ≡ y = cc in
    let rest : map object_view m ≡ ended_from k before = cc in
    ap (λ z. z ∷ map object_view (set m n p)) first ∙ ap (λ z. y ∷ z) (ends_one m before k n o p (omega (arith, is)) (omega (arith, lt)) (omega (arith, same)) e h rest)
