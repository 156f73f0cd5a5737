-- What the entry of a function assigns is looked for among its parameters.
use Rattle.std.proofs.Common.{◌≡◌, ◌⊎◌, inl, inr, ℕ, zero, suc, ◌+◌, ◌<◌, ◌≤◌, refl, ap, sym, subst, ◌∙◌, List, [], ◌∷◌, Bool, true, false, arith}
use Rattle.std.specs.Prelude.{◌==◌, ◌||◌}
use Rattle.std.specs.List.{list_any}
use Rattle.std.proofs.lemmas.Bool.{and_left, cases_eq, cases_lt, ne_eqb}
use Rattle.c_tree.specs.declared.object_type.Object.{Object}
use Rattle.c_tree.specs.declared.object_type.Object.TheVariants.{Static, Automatic, Literal}
use Rattle.c_tree.specs.Programs.{ProgramTree}
use Rattle.c_places.specs.Places.{numbers_from}
use Rattle.c_flow.specs.Assigns.{assigns_object}
use Rattle.c_flow_assigns.specs.PlacesBefore.{places_before}
use Rattle.c_flow_assigns.specs.Wanted.{is_wanted}
use Rattle.c_flow.proofs.EachAssigned.{entry_assigns}
use Rattle.base_laws.proofs.Booleans.{or_false as or_same}

module _ (p : ProgramTree) (number at : ℕ) where
  -- no parameter is an object that is not automatic
  pub no_static : (x : ℕ) (parameters : List ℕ) → list_any (is_wanted p number (Static x)) (entry_assigns at parameters) ≡ false
  no_static x [] = refl
  no_static x (y ∷ parameters) = no_static x parameters

  pub no_literal : (x : ℕ) (parameters : List ℕ) → list_any (is_wanted p number (Literal x)) (entry_assigns at parameters) ≡ false
  no_literal x [] = refl
  no_literal x (y ∷ parameters) = no_literal x parameters

  -- an automatic object is none of those that another number begins
  differs : (x y : ℕ) → (x ≡ y → ⊥) → is_wanted p number (Automatic x) (assigns_object at (Automatic y)) ≡ false
  differs x y ne = and_left (x == y) (places_before at p + 1 == number) (ne_eqb x y ne)

  or_none : (b c : Bool) → b ≡ false → c ≡ false → (b || c) ≡ false
  or_none b c e f = ap (λ (d : Bool). d || c) e ∙ f

  pub none_outside : (x first count : ℕ) → (x < first) ⊎ (first + count ≤ x) → list_any (is_wanted p number (Automatic x)) (entry_assigns at (numbers_from first count)) ≡ false
  none_outside x first zero out = refl
  none_outside x first (suc count) out =
      or_none (is_wanted p number (Automatic x) (assigns_object at (Automatic first))) (list_any (is_wanted p number (Automatic x)) (entry_assigns at (numbers_from (first + 1) count)))
      (differs x first (λ e. elim out [ inl lt ↦ omega (arith, e, lt) | inr le ↦ omega (arith, e, le) ])) (none_outside x (first + 1) count (elim out [ inl lt ↦ inl (omega (arith, lt)) | inr le ↦ inr (omega (arith, le)) ]))

  -- a parameter is one of them
  pub one_within : (x first count : ℕ) → first ≤ x → x < first + count
      → list_any (is_wanted p number (Automatic x)) (entry_assigns at (numbers_from first count)) ≡ is_wanted p number (Automatic x) (assigns_object at (Automatic x))
  one_within x first zero le lt = absurd (omega (arith, le, lt))
  one_within x first (suc count) le lt =
      elim (cases_eq x first) [
        | inl e ↦
            ap (λ (b : Bool). is_wanted p number (Automatic x) (assigns_object at (Automatic first)) || b) (none_outside x (first + 1) count (inl (omega (arith, e))))
            ∙ or_same (is_wanted p number (Automatic x) (assigns_object at (Automatic first)))
            ∙ ap (λ (y : ℕ). is_wanted p number (Automatic x) (assigns_object at (Automatic y))) (sym e)
        | inr ne ↦
            ap (λ (b : Bool). b || list_any (is_wanted p number (Automatic x)) (entry_assigns at (numbers_from (first + 1) count))) (differs x first ne)
            ∙ one_within x (first + 1) count (omega (arith, ne, le)) (omega (arith, lt))
      ]

  -- what an object that is a parameter is looked for among them tells
  pub parameter_found : (o : Object) (x first count : ℕ) → o ≡ Automatic x → (first ≤ x) × (x < first + count)
      → is_wanted p number o (assigns_object at o) ≡ list_any (is_wanted p number o) (entry_assigns at (numbers_from first count))
  parameter_found o x first count e within =
      subst (λ (y : Object). is_wanted p number y (assigns_object at y) ≡ list_any (is_wanted p number y) (entry_assigns at (numbers_from first count))) (sym e)
      (sym (one_within x first count within.0 within.1))

  -- an automatic object that is no parameter is not among them
  pub not_among : (o : Object) (x first count : ℕ) (b : Bool) → o ≡ Automatic x → b ≡ false → ((first ≤ x) × (x < first + count) → b ≡ true)
      → list_any (is_wanted p number o) (entry_assigns at (numbers_from first count)) ≡ false
  not_among o x first count b e is_false within =
      subst (λ (y : Object). list_any (is_wanted p number y) (entry_assigns at (numbers_from first count)) ≡ false) (sym e)
      (none_outside x first count (elim (cases_lt x first) [
        | inl lt ↦ inl lt
        | inr le ↦
            elim (cases_lt x (first + count)) [
              | inl lt ↦ let is_true : b ≡ true = within (le, lt) in absurd (cc)
              | inr past ↦ inr past
            ]
      ]))

  -- nor is an object that is not automatic
  pub none_automatic : (o : Object) (parameters : List ℕ) → ((x : ℕ) → o ≡ Automatic x → ⊥) → list_any (is_wanted p number o) (entry_assigns at parameters) ≡ false
  none_automatic (Static x) parameters other = no_static x parameters
  none_automatic (Literal x) parameters other = no_literal x parameters
  none_automatic (Automatic x) parameters other = absurd (other x refl)
