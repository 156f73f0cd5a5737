-- Two variables have one class where they have one name.
use Rattle.std.proofs.Common.{◌≡◌, inl, inr, ℕ, zero, suc, ◌+◌, ◌<◌, List, [], ◌∷◌, ◌++◌, length, drop, get_or, reverse, refl, ap, sym, ◌∙◌, subst, Bool, true, false, eqb, drop-cons, get_or-set_same, get_or-set_other, arith}
use Rattle.std.specs.Prelude.{◌==◌, ◌&&◌, ◌||◌, min, slice_get, if◌then◌else◌}
use Rattle.std.specs.List.{list_any}
use Rattle.std.specs.Cmp.Lexicographic.{pointwise}
use Rattle.std.specs.Option.{option_map_or}
use Rattle.std.proofs.lemmas.Bool.{and_parts, and_from, cases_eq, cases_order, eq-eqb, ne_eqb}
use Rattle.std.proofs.Math.ListN.{get_or-append, set}
use Rattle.std.proofs.Math.Seq.{get_or-append_seam}
use Rattle.std.proofs.lemmas.List.{reverse-append}
use Rattle.c_tree.specs.Programs.{AutomaticTree}
use Rattle.c_places.specs.Places.{is_hidden, is_same_name, name_of, visible}
use Rattle.c_flow.specs.Names.{AreClasses, IsFirstOfName, class_of}
use Rattle.base_laws.proofs.Numbers.{are_equal as number_same}

-- names that pass the test are one
name_same : (s t : List ℕ) → is_same_name s t ≡ true → s ≡ t
name_same [] [] h = refl
name_same [] (b ∷ t) h = absurd (cc)
name_same (a ∷ s) [] h = absurd (cc)
name_same (a ∷ s) (b ∷ t) h =
    let both = and_parts (a == b) (is_same_name s t) h in
    ap (λ (c : ℕ). c ∷ s) (number_same a b both.0) ∙ ap (λ (r : List ℕ). b ∷ r) (name_same s t both.1)

-- a name passes the test with itself
pub name_itself : (s : List ℕ) → is_same_name s s ≡ true
name_itself [] = refl
name_itself (a ∷ s) = and_from (a == a) (is_same_name s s) (eq-eqb a a refl) (name_itself s)

-- what is no variable has the name of the number behind the last one
clipped : (all : List AutomaticTree) (x : ℕ) → slice_get all (min x (length all)) ≡ slice_get all x
clipped [] x = refl
clipped (a ∷ all) zero = let first : min zero (suc (length all)) ≡ zero = omega arith in ap (slice_get (a ∷ all)) first
clipped (a ∷ all) (suc x) =
    let later : min (suc x) (suc (length all)) ≡ suc (min x (length all)) = omega arith in
    ap (slice_get (a ∷ all)) later ∙ clipped all x

name_clipped : (all : List AutomaticTree) (x : ℕ) → name_of all (min x (length all)) ≡ name_of all x
name_clipped all x = ap (λ o. option_map_or (λ (a : AutomaticTree). a.name) o []) (clipped all x)

module _ (all : List AutomaticTree) (classes : List ℕ) (are : AreClasses all classes) where
  of_first : (x : ℕ) → IsFirstOfName all (min x (length all)) (class_of (length all) classes x)
  of_first x = are.first (min x (length all)) (omega arith)

  -- the name of a variable's class
  class_name : (x : ℕ) → name_of all (class_of (length all) classes x) ≡ name_of all x
  class_name x = name_same (name_of all (class_of (length all) classes x)) (name_of all (min x (length all))) (of_first x).same ∙ name_clipped all x

  -- variables of one class have one name
  one_name : (x y : ℕ) → class_of (length all) classes x ≡ class_of (length all) classes y → is_same_name (name_of all x) (name_of all y) ≡ true
  one_name x y e =
      let same : name_of all x ≡ name_of all y = sym (class_name x) ∙ ap (name_of all) e ∙ class_name y in
      subst (λ (s : List ℕ). is_same_name (name_of all x) s ≡ true) same (name_itself (name_of all x))

  -- no class of a name is below another one
  not_below : (x y : ℕ) → name_of all x ≡ name_of all y → class_of (length all) classes x < class_of (length all) classes y → ⊥
  not_below x y e lt =
      let none : is_same_name (name_of all (class_of (length all) classes x)) (name_of all (min y (length all))) ≡ false = (of_first y).least (class_of (length all) classes x) lt in
      let same : name_of all (class_of (length all) classes x) ≡ name_of all (min y (length all)) = class_name x ∙ e ∙ sym (name_clipped all y) in
      let some : is_same_name (name_of all (class_of (length all) classes x)) (name_of all (min y (length all))) ≡ true =
      subst (λ (s : List ℕ). is_same_name (name_of all (class_of (length all) classes x)) s ≡ true) same (name_itself (name_of all (class_of (length all) classes x))) in
      cc

  -- variables of one name have one class
  one_class : (x y : ℕ) → is_same_name (name_of all x) (name_of all y) ≡ true → class_of (length all) classes x ≡ class_of (length all) classes y
  one_class x y h =
      let same = name_same (name_of all x) (name_of all y) h in
      elim (cases_order (class_of (length all) classes x) (class_of (length all) classes y)) [
        | inl e ↦ e
        | inr (inl lt) ↦ absurd (not_below x y same lt)
        | inr (inr lt) ↦ absurd (not_below y x (sym same) lt)
      ]

  -- one test for the other
  same_test : (x y : ℕ) → is_same_name (name_of all x) (name_of all y) ≡ (class_of (length all) classes y == class_of (length all) classes x)
  same_test x y =
      both (is_same_name (name_of all x) (name_of all y)) (class_of (length all) classes y == class_of (length all) classes x) (λ h. eq-eqb _ _ (sym (one_class x y h)))
      (λ h. one_name x y (sym (number_same _ _ h)))
    where
      both : (b c : Bool) → (b ≡ true → c ≡ true) → (c ≡ true → b ≡ true) → b ≡ c
      both true c f g = sym (f refl)
      both false true f g = g refl
      both false false f g = refl

  -- a variable is hidden by one of its class
  pub hidden_by_class : (x : ℕ) (later : List ℕ) → is_hidden all x later ≡ list_any (λ (y : ℕ). class_of (length all) classes y == class_of (length all) classes x) later
  hidden_by_class x [] = refl
  hidden_by_class x (y ∷ later) =
      ap (λ (b : Bool). b || is_hidden all x later) (same_test x y)
      ∙ ap (λ (b : Bool). (class_of (length all) classes y == class_of (length all) classes x) || b) (hidden_by_class x later)

-- the test of names is that of lists
pub name_test : (s t : List ℕ) → is_same_name s t ≡ pointwise eqb s t
name_test [] [] = refl
name_test [] (b ∷ t) = refl
name_test (a ∷ s) [] = refl
name_test (a ∷ s) (b ∷ t) = ap (λ (r : Bool). (a == b) && r) (name_test s t)

-- one more class behind others
pub one_more_class : (all : List AutomaticTree) (xs ys : List ℕ) (i r : ℕ) → ys ≡ xs ++ r ∷ [] → length xs ≡ i → ((x : ℕ) → x < i → IsFirstOfName all x (get_or xs x 0)) → IsFirstOfName all i r
    → (x : ℕ) → x < i + 1 → IsFirstOfName all x (get_or ys x 0)
one_more_class all xs ys i r longer count so_far here x lt =
    elim (cases_eq x i) [
      | inl e ↦
          let last : get_or ys x 0 ≡ r = ap (λ (zs : List ℕ). get_or zs x 0) longer ∙ ap (λ (n : ℕ). get_or (xs ++ r ∷ []) n 0) (e ∙ sym count) ∙ get_or-append_seam xs r [] 0 in
          subst (λ (n : ℕ). IsFirstOfName all x n) (sym last) (subst (λ (m : ℕ). IsFirstOfName all m r) (sym e) here)
      | inr ne ↦
          let within : x < length xs = omega arith in
          subst (λ (n : ℕ). IsFirstOfName all x n) (sym (ap (λ (zs : List ℕ). get_or zs x 0) longer ∙ get_or-append xs (r ∷ []) 0 x within)) (so_far x (omega arith))
    ]

module _ (all : List AutomaticTree) (classes : List ℕ) (are : AreClasses all classes) (scope : List ℕ) (j i class : ℕ) (within : j < length scope) (next : suc j ≡ i) (is : class ≡ class_of (length all) classes (get_or scope j 0)) where
  -- whether a variable of the class k stands behind the j-th
  abbrev has_class : ℕ → List ℕ → Bool
  has_class k xs = list_any (λ (y : ℕ). class_of (length all) classes y == k) xs

  cut : drop j scope ≡ get_or scope j 0 ∷ drop i scope
  cut = drop-cons scope j 0 within ∙ ap (λ (n : ℕ). get_or scope j 0 ∷ drop n scope) next

  -- what is visible from the j-th on, where it is hidden or not
  visible_from : (b : Bool) → has_class class (drop i scope) ≡ b → visible all (drop j scope) ≡ (if b then visible all (drop i scope) else get_or scope j 0 ∷ visible all (drop i scope))
  visible_from b h =
      let hidden : is_hidden all (get_or scope j 0) (drop i scope) ≡ b = hidden_by_class all classes are (get_or scope j 0) (drop i scope) ∙ ap (λ (k : ℕ). has_class k (drop i scope)) (sym is) ∙ h in
      ap (visible all) cut ∙ ap (λ (c : Bool). if c then visible all (drop i scope) else get_or scope j 0 ∷ visible all (drop i scope)) hidden

  -- a variable of a class that none behind it has is visible
  pub shown_if_new : (found ys : List ℕ) → ys ≡ found ++ get_or scope j 0 ∷ [] → reverse found ≡ visible all (drop i scope) → has_class class (drop i scope) ≡ false → reverse ys ≡ visible all (drop j scope)
  shown_if_new found ys longer so_far new =
      ap (λ (zs : List ℕ). reverse zs) longer ∙ reverse-append found (get_or scope j 0 ∷ []) ∙ ap (λ (xs : List ℕ). get_or scope j 0 ∷ xs) so_far ∙ sym (visible_from false new)

  -- a variable of a class that one behind it has is hidden
  pub hidden_if_seen : (found : List ℕ) → reverse found ≡ visible all (drop i scope) → has_class class (drop i scope) ≡ true → reverse found ≡ visible all (drop j scope)
  hidden_if_seen found so_far seen_before = so_far ∙ sym (visible_from true seen_before)

  -- which classes there are from the j-th on
  classes_from : (k : ℕ) (b : Bool) → (class_of (length all) classes (get_or scope j 0) == k) ≡ b → has_class k (drop j scope) ≡ (b || has_class k (drop i scope))
  classes_from k b h = ap (has_class k) cut ∙ ap (λ (c : Bool). c || has_class k (drop i scope)) h

  -- the classes that were seen, with that of the variable
  pub seen_with : (seen : List Bool) → length seen ≡ length classes → class < length classes → ((k : ℕ) → k < length classes → get_or seen k false ≡ has_class k (drop i scope)) → (k : ℕ) → k < length classes
      → get_or (set seen class true) k false ≡ has_class k (drop j scope)
  seen_with seen count inside so_far k lt =
      elim (cases_eq k class) [
        | inl e ↦
            let here : class < length seen = omega arith in
            ap (λ (m : ℕ). get_or (set seen class true) m false) e ∙ get_or-set_same seen class true false here ∙ sym (classes_from k true (eq-eqb _ _ (sym is ∙ sym e)))
        | inr ne ↦ get_or-set_other seen class k true false ne ∙ so_far k lt ∙ sym (classes_from k false (ne_eqb _ _ (λ e. ne (sym (is ∙ e)))))
      ]

  -- the classes that were seen, where that of the variable was
  pub seen_again : (seen : List Bool) → ((k : ℕ) → k < length classes → get_or seen k false ≡ has_class k (drop i scope)) → has_class class (drop i scope) ≡ true → (k : ℕ) → k < length classes
      → get_or seen k false ≡ has_class k (drop j scope)
  seen_again seen so_far seen_before k lt =
      elim (cases_eq k class) [
        | inl e ↦ so_far k lt ∙ ap (λ (m : ℕ). has_class m (drop i scope)) e ∙ seen_before ∙ sym (classes_from k true (eq-eqb _ _ (sym is ∙ sym e)))
        | inr ne ↦ so_far k lt ∙ sym (classes_from k false (ne_eqb _ _ (λ e. ne (sym (is ∙ e)))))
      ]
