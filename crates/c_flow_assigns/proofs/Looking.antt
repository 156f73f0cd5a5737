-- An assignment is found among those of a program's places exactly where it is one of them.
use Rattle.std.proofs.Common.{◌≡◌, inl, inr, ℕ, ◌+◌, List, [], ◌∷◌, refl, ap, sym, ◌∙◌, subst, true, arith}
use Rattle.std.specs.Prelude.{◌==◌, ◌↔◌, Option, Some, None}
use Rattle.std.specs.List.{Contains, list_any}
use Rattle.std.proofs.lemmas.Bool.{and_parts, and_from, eq-eqb, or_cases, or_left, or_right}
use Rattle.std.proofs.lemmas.List.Elements.{Contains-append_left, Contains-append_right, Contains-append_cases, Contains-push, Contains-push_cases}
use Rattle.debug_records.specs.declared.change.Place as declared-place
use Rattle.debug_records.specs.declared.change.Var.{Var}
use Rattle.places.specs.declared.flow.Assignment.{Assignment}
use Rattle.c_tree.specs.declared.object_type.Object.{Object}
use Rattle.c_tree.specs.declared.object_type.Object.TheVariants.{Static, Automatic, Literal}
use Rattle.c_tree.specs.Programs.{ProgramTree}
use Rattle.c_places.specs.Places.{place_number_at, places_of_program}
use Rattle.c_flow.specs.declared.assigned.Assigned.{Assigned}
use Rattle.c_flow.specs.Assigns.{numbered_assigned, numbered_for, variable_number}
use Rattle.c_flow_assigns.specs.PlacesBefore.{places_before}
use Rattle.c_flow_assigns.specs.Wanted.{is_same_object, is_wanted}
use Rattle.c_flow_assigns.proofs.SameCount.{number_by_count}
use Rattle.base_laws.proofs.Numbers.{are_equal as number_same}

-- objects that pass the test are one
object_same : (x y : Object) → is_same_object x y ≡ true → x ≡ y
object_same (Static x) (Static y) h = ap Static (number_same x y h)
object_same (Automatic x) (Automatic y) h = ap Automatic (number_same x y h)
object_same (Literal x) (Literal y) h = ap Literal (number_same x y h)
object_same (Static x) (Automatic y) h = absurd (cc)
object_same (Static x) (Literal y) h = absurd (cc)
object_same (Automatic x) (Static y) h = absurd (cc)
object_same (Automatic x) (Literal y) h = absurd (cc)
object_same (Literal x) (Static y) h = absurd (cc)
object_same (Literal x) (Automatic y) h = absurd (cc)

object_itself : (x : Object) → is_same_object x x ≡ true
object_itself (Static x) = eq-eqb x x refl
object_itself (Automatic x) = eq-eqb x x refl
object_itself (Literal x) = eq-eqb x x refl

-- the assignment of a variable by a place
abbrev one : declared-place.Place → Var → Assignment
one place var = record { place = place; var = var }

none_there : (a : Assignment) → Contains [] a → ⊥
none_there a (k, lt, e) = omega (arith, lt)

there : (number : ℕ) (place : declared-place.Place) (var : Var) (o : Option ℕ) → number ≡ place.0 → o ≡ Some var.0 → Contains (numbered_for number o) (one place var)
there number place var o e f =
    subst (λ (n : ℕ). Contains (numbered_for n o) (one place var)) (sym e) (subst (λ (q : Option ℕ). Contains (numbered_for place.0 q) (one place var)) (sym f) (Contains-push [] (one place var)))

from_there : (number : ℕ) (place : declared-place.Place) (var : Var) (o : Option ℕ) → Contains (numbered_for number o) (one place var) → (number ≡ place.0) × (o ≡ Some var.0)
from_there number place var None h = absurd (none_there (one place var) h)
from_there number place var (Some x) h =
    elim (Contains-push_cases [] (record { place = record { 0 = number }; var = record { 0 = x } }) (one place var) h) [
      | inl none ↦ absurd (none_there (one place var) none)
      | inr e ↦ (ap (λ (a : Assignment). a.place.0) e, ap (λ (a : Assignment). Some a.var.0) e)
    ]

module _ (p : ProgramTree) (place : declared-place.Place) (var : Var) (x : Object) (found : (y : Object) → (variable_number p y ≡ Some var.0) ↔ (Some x ≡ Some y)) where
  abbrev all_of : List Assigned → List Assignment
  all_of all = numbered_assigned p (places_of_program p) all

  -- an assignment that passes the test is the one
  here : (a : Assigned) → is_wanted p place.0 x a ≡ true → Contains (numbered_for (place_number_at (places_of_program p) a.at) (variable_number p a.object)) (one place var)
  here a h =
      let parts = and_parts (is_same_object x a.object) (places_before a.at p + 1 == place.0) h in
      there (place_number_at (places_of_program p) a.at) place var (variable_number p a.object) (number_by_count p a.at ∙ number_same (places_before a.at p + 1) place.0 parts.1)
      ((found a.object).1 (ap Some (object_same x a.object parts.0)))

  -- the one passes the test
  passes : (a : Assigned) → Contains (numbered_for (place_number_at (places_of_program p) a.at) (variable_number p a.object)) (one place var) → is_wanted p place.0 x a ≡ true
  passes a h =
      let both = from_there (place_number_at (places_of_program p) a.at) place var (variable_number p a.object) h in
      let is : x ≡ a.object = of_some x a.object ((found a.object).0 both.1) in
      and_from (is_same_object x a.object) (places_before a.at p + 1 == place.0) (subst (λ (y : Object). is_same_object x y ≡ true) is (object_itself x))
      (eq-eqb (places_before a.at p + 1) place.0 (sym (number_by_count p a.at) ∙ both.0))
    where
      of_some : (y z : Object) → Some y ≡ Some z → y ≡ z
      of_some y z e = cc

  pub is_there : (all : List Assigned) → list_any (is_wanted p place.0 x) all ≡ true → Contains (numbered_assigned p (places_of_program p) all) (one place var)
  is_there [] h = absurd (cc)
  is_there (a ∷ all) h =
      let first = numbered_for (place_number_at (places_of_program p) a.at) (variable_number p a.object) in
      elim (or_cases (is_wanted p place.0 x a) (list_any (is_wanted p place.0 x) all) h) [
        | inl e ↦ Contains-append_left first (all_of all) (one place var) (here a e)
        | inr e ↦ Contains-append_right first (all_of all) (one place var) (is_there all e)
      ]

  pub is_found : (all : List Assigned) → Contains (numbered_assigned p (places_of_program p) all) (one place var) → list_any (is_wanted p place.0 x) all ≡ true
  is_found [] h = absurd (none_there (one place var) h)
  is_found (a ∷ all) h =
      let first = numbered_for (place_number_at (places_of_program p) a.at) (variable_number p a.object) in
      elim (Contains-append_cases first (all_of all) (one place var) h) [
        | inl e ↦ or_left (is_wanted p place.0 x a) (list_any (is_wanted p place.0 x) all) (passes a e)
        | inr e ↦ or_right (is_wanted p place.0 x a) (list_any (is_wanted p place.0 x) all) (is_found all e)
      ]

-- No place assigns a variable that the program does not have.
pub no_variable : (p : ProgramTree) (place : declared-place.Place) (var : Var) → ((y : Object) → variable_number p y ≡ Some var.0 → ⊥) → (all : List Assigned)
    → Contains (numbered_assigned p (places_of_program p) all) (one place var) → ⊥
no_variable p place var none [] h = none_there (one place var) h
no_variable p place var none (a ∷ all) h =
    elim (Contains-append_cases (numbered_for (place_number_at (places_of_program p) a.at) (variable_number p a.object)) (numbered_assigned p (places_of_program p) all) (one place var) h) [
      | inl e ↦ none a.object (from_there (place_number_at (places_of_program p) a.at) place var (variable_number p a.object) e).1
      | inr e ↦ no_variable p place var none all e
    ]

-- what is none is not some object
pub none_of : (o : Option Object) (x : Object) → o ≡ None → o ≡ Some x → ⊥
none_of o x e f = let both : None ≡ Some x = sym e ∙ f in absurd (cc)
