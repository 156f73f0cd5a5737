-- A tree of numbers, seen as their set.
use Rattle.std.proofs.Common.{◌≡◌, ℕ, nat_cmp, Bool, true, false, true≢false, cond, refl, sym, ap, ◌∙◌, subst}
use Rattle.std.specs.Prelude.{◌||◌, ◌&&◌, not, IsTrue}
use Rattle.std.specs.Cmp.{nat_cmp_total, eq_by_cmp_equiv}
use Rattle.std.specs.Ordering.{eq_by_cmp}
use Rattle.std.specs.BTreeSet as tree
use Rattle.std.specs.BTreeSet.{BTreeSet}
use Rattle.std.specs.FinSet.{FinSet, contains, insert, remove, union, intersection, difference, from_list, contains-from_list, contains-insert, contains-remove, contains-union, contains-intersection, contains-difference, same_set, nat_cmp-IsAntisymmetric}

abbrev pub NumberSet : Type 0
NumberSet = FinSet nat_cmp

-- what the tree has, its set has
pub seen : (t : BTreeSet ℕ) (q : ℕ) → contains (from_list {R = nat_cmp} t.keys) q ≡ tree.contains nat_cmp t q
seen t q = contains-from_list nat_cmp_total t.keys q

-- sets of the same numbers are equal
pub same_numbers : (s t : NumberSet) → ((q : ℕ) → contains s q ≡ contains t q) → s ≡ t
same_numbers = same_set nat_cmp_total nat_cmp-IsAntisymmetric

cond_or : (b c : Bool) → cond b true c ≡ (b || c)
cond_or true c = refl
cond_or false c = refl

pub added : (t u : BTreeSet ℕ) (n : ℕ) → ((q : ℕ) → tree.contains nat_cmp u q ≡ cond (eq_by_cmp nat_cmp n q) true (tree.contains nat_cmp t q)) → from_list {R = nat_cmp} u.keys ≡ insert (from_list {R = nat_cmp} t.keys) n
added t u n h = same_numbers _ _ (λ q. seen u q ∙ h q ∙ cond_or (eq_by_cmp nat_cmp n q) (tree.contains nat_cmp t q)
    ∙ ap (λ b. b || tree.contains nat_cmp t q) ((eq_by_cmp_equiv nat_cmp_total).symm n q)
    ∙ ap (λ b. eq_by_cmp nat_cmp q n || b) (sym (seen t q)) ∙ sym (contains-insert nat_cmp_total (from_list {R = nat_cmp} t.keys) n q))

both_ways : (b c : Bool) → (IsTrue b → IsTrue c) → (IsTrue c → IsTrue b) → b ≡ c
both_ways true true f g = refl
both_ways false false f g = refl
both_ways true false f g = absurd (true≢false (sym (f refl)))
both_ways false true f g = absurd (true≢false (sym (g refl)))

pub equal : (t u : BTreeSet ℕ) → tree.IsSubset nat_cmp t u → tree.IsSubset nat_cmp u t → from_list {R = nat_cmp} t.keys ≡ from_list u.keys
equal t u f g = same_numbers _ _ (λ q. seen t q ∙ both_ways _ _ (f q) (g q) ∙ sym (seen u q))

pub subset : (t u : BTreeSet ℕ) → from_list {R = nat_cmp} t.keys ≡ from_list u.keys → tree.IsSubset nat_cmp t u
subset t u e q h = subst IsTrue (sym (seen t q) ∙ ap (λ s. contains s q) e ∙ seen u q) h

cond_and : (b c : Bool) → cond b false c ≡ (not b && c)
cond_and true c = refl
cond_and false c = refl

pub removed : (t u : BTreeSet ℕ) (n : ℕ) → ((q : ℕ) → tree.contains nat_cmp u q ≡ cond (eq_by_cmp nat_cmp n q) false (tree.contains nat_cmp t q)) → from_list {R = nat_cmp} u.keys ≡ remove (from_list {R = nat_cmp} t.keys) n
removed t u n h = same_numbers _ _ (λ q. seen u q ∙ h q ∙ cond_and (eq_by_cmp nat_cmp n q) (tree.contains nat_cmp t q)
    ∙ ap (λ b. not b && tree.contains nat_cmp t q) ((eq_by_cmp_equiv nat_cmp_total).symm n q)
    ∙ ap (λ b. not (eq_by_cmp nat_cmp q n) && b) (sym (seen t q)) ∙ sym (contains-remove nat_cmp_total (from_list {R = nat_cmp} t.keys) n q))

-- numbers are cloned by copying
pub clones_equal : (x y : ℕ) → y ≡ x → IsTrue (eq_by_cmp nat_cmp x y)
clones_equal x y e = ap (eq_by_cmp nat_cmp x) e ∙ (eq_by_cmp_equiv nat_cmp_total).refl x

pub united : (s t u : BTreeSet ℕ) → tree.IsUnion nat_cmp s t u.keys → from_list {R = nat_cmp} u.keys ≡ union (from_list {R = nat_cmp} s.keys) (from_list {R = nat_cmp} t.keys)
united s t u h = same_numbers _ _ (λ q. seen u q ∙ h q ∙ sym (contains-union nat_cmp_total (from_list {R = nat_cmp} s.keys) (from_list {R = nat_cmp} t.keys) q ∙ ap (λ b. b || contains (from_list {R = nat_cmp} t.keys) q) (seen s q) ∙ ap (λ b. tree.contains nat_cmp s q || b) (seen t q)))

pub shared : (s t u : BTreeSet ℕ) → tree.IsIntersection nat_cmp s t u.keys → from_list {R = nat_cmp} u.keys ≡ intersection (from_list {R = nat_cmp} s.keys) (from_list {R = nat_cmp} t.keys)
shared s t u h = same_numbers _ _ (λ q. seen u q ∙ h q ∙ sym (contains-intersection nat_cmp_total (from_list {R = nat_cmp} s.keys) (from_list {R = nat_cmp} t.keys) q ∙ ap (λ b. b && contains (from_list {R = nat_cmp} t.keys) q) (seen s q) ∙ ap (λ b. tree.contains nat_cmp s q && b) (seen t q)))

pub left_over : (s t u : BTreeSet ℕ) → tree.IsDifference nat_cmp s t u.keys → from_list {R = nat_cmp} u.keys ≡ difference (from_list {R = nat_cmp} s.keys) (from_list {R = nat_cmp} t.keys)
left_over s t u h = same_numbers _ _ (λ q. seen u q ∙ h q ∙ sym (contains-difference nat_cmp_total (from_list {R = nat_cmp} s.keys) (from_list {R = nat_cmp} t.keys) q ∙ ap (λ b. b && not (contains (from_list {R = nat_cmp} t.keys) q)) (seen s q) ∙ ap (λ b. tree.contains nat_cmp s q && not b) (seen t q)))
