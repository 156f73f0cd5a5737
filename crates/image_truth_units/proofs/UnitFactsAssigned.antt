-- The scalars that the code of an expression writes are those of variables that its place assigns.
use Rattle.std.proofs.Common.{◌≡◌, ◌⊎◌, inl, inr, ℕ, Bool, true, Option, Some, None, List, ◌++◌, ap}
use Rattle.std.specs.Prelude.{◌||◌}
use Rattle.c_tree.specs.declared.object_type.Object.TheVariants as object
use Rattle.c_tree.specs.TypedExpressions.{RvalueTree, LvalueTree, ArgumentTrees, Constant, Null, Load, Decay, AddressOf, Convert, Discard, Signed, Not, Arithmetic, Compare, ComparePointers, Move, MoveFrom, Difference, And, Or, Conditional, Comma, Assign, Update, UpdatePointer, Step, StepPointer, Call, Named, Target, Element, ElementFrom, none, first}
use Rattle.c_flow.specs.declared.assigned.Assigned.{Assigned}
use Rattle.c_flow.specs.Assigns.{assigns_object, named_object, assigned_objects, assigned_within, assigned_by_all}
use Rattle.graph_core.specs.Paths.{Among, front}
use Rattle.graph_build_names.specs.Names.{Names, scalar_of}
use Rattle.graph_build_names.specs.Writes.{writes, writes_within, writes_any, names_it, is_that}
use Rattle.base_laws.proofs.Booleans.{or_cases}
use Rattle.base_laws.proofs.Numbers.{are_equal as same_name, false_true}
pub use Rattle.graph_core.proofs.Among.{among_left as among_front, among_right as among_back}

-- Among these a variable is assigned at a position, whose scalar has this name.
pub record IsAssigned (n : Names) (at y : ℕ) (all : List Assigned) : Type 0 where
  pub variable : ℕ
  pub name : scalar_of n variable ≡ Some y
  pub among : Among (assigns_object at (object.Automatic variable)) all

that_is : (y : ℕ) (o : Option ℕ) → is_that y o ≡ true → o ≡ Some y
that_is y None h = cc
that_is y (Some z) h = ap (λ w. Some w) (same_name z y h)

module _ (n : Names) (at y : ℕ) where
  abbrev Is : List Assigned → Type 0
  Is all = IsAssigned n at y all

  in_first : (xs ys : List Assigned) → Is xs → Is (xs ++ ys)
  in_first xs ys h = record { variable = h.variable; name = h.name; among = among_front (assigns_object at (object.Automatic h.variable)) xs ys h.among }

  in_second : (xs ys : List Assigned) → Is ys → Is (xs ++ ys)
  in_second xs ys h = record { variable = h.variable; name = h.name; among = among_back (assigns_object at (object.Automatic h.variable)) xs ys h.among }

  two : (a b : Bool) (xs ys : List Assigned) → (a ≡ true → Is xs) → (b ≡ true → Is ys) → a || b ≡ true → Is (xs ++ ys)
  two a b xs ys h k e = by (or_cases a b e)
    where
      by : (a ≡ true) ⊎ (b ≡ true) → Is (xs ++ ys)
      by (inl e) = in_first xs ys (h e)
      by (inr e) = in_second xs ys (k e)

  three : (a b c : Bool) (xs ys zs : List Assigned) → (a ≡ true → Is xs) → (b ≡ true → Is ys) → (c ≡ true → Is zs) → a || b || c ≡ true → Is (xs ++ ys ++ zs)
  three a b c xs ys zs h k l e = two (a || b) c (xs ++ ys) zs (two a b xs ys h k) l e

  named_is : (l : LvalueTree) → names_it n y l ≡ true → Is (named_object at l)
  named_is (Named (object.Automatic v) of) h = record { variable = v; name = that_is y (scalar_of n v) h; among = front }
  named_is (Named (object.Static i) of) h = absurd (false_true h)
  named_is (Named (object.Literal i) of) h = absurd (false_true h)
  named_is (Target of e) h = absurd (false_true h)
  named_is (Element of a b) h = absurd (false_true h)
  named_is (ElementFrom of a b) h = absurd (false_true h)

  mutual
    -- What an expression writes its place assigns.
    pub writes_is : (e : RvalueTree) → writes n y e ≡ true → IsAssigned n at y (assigned_objects at e)
    writes_is (Constant z t) h = absurd (false_true h)
    writes_is Null h = absurd (false_true h)
    writes_is (Load s l) h = within_is l h
    writes_is (Decay l) h = within_is l h
    writes_is (AddressOf l) h = within_is l h
    writes_is (Convert t e) h = writes_is e h
    writes_is (Discard e) h = writes_is e h
    writes_is (Signed o t e) h = writes_is e h
    writes_is (Not e) h = writes_is e h
    writes_is (Arithmetic o t a b) h = two (writes n y a) (writes n y b) (assigned_objects at a) (assigned_objects at b) (writes_is a) (writes_is b) h
    writes_is (Compare o t a b) h = two (writes n y a) (writes n y b) (assigned_objects at a) (assigned_objects at b) (writes_is a) (writes_is b) h
    writes_is (ComparePointers o a b) h = two (writes n y a) (writes n y b) (assigned_objects at a) (assigned_objects at b) (writes_is a) (writes_is b) h
    writes_is (Move d of a b) h = two (writes n y a) (writes n y b) (assigned_objects at a) (assigned_objects at b) (writes_is a) (writes_is b) h
    writes_is (MoveFrom a of b) h = two (writes n y a) (writes n y b) (assigned_objects at a) (assigned_objects at b) (writes_is a) (writes_is b) h
    writes_is (Difference of a b) h = two (writes n y a) (writes n y b) (assigned_objects at a) (assigned_objects at b) (writes_is a) (writes_is b) h
    writes_is (And a b) h = two (writes n y a) (writes n y b) (assigned_objects at a) (assigned_objects at b) (writes_is a) (writes_is b) h
    writes_is (Or a b) h = two (writes n y a) (writes n y b) (assigned_objects at a) (assigned_objects at b) (writes_is a) (writes_is b) h
    writes_is (Conditional c a b) h = three (writes n y c) (writes n y a) (writes n y b) (assigned_objects at c) (assigned_objects at a) (assigned_objects at b) (writes_is c) (writes_is a) (writes_is b) h
    writes_is (Comma a b) h = two (writes n y a) (writes n y b) (assigned_objects at a) (assigned_objects at b) (writes_is a) (writes_is b) h
    writes_is (Assign s l e) h = three (names_it n y l) (writes_within n y l) (writes n y e) (named_object at l) (assigned_within at l) (assigned_objects at e) (named_is l) (within_is l) (writes_is e) h
    writes_is (Update o t u l e) h = three (names_it n y l) (writes_within n y l) (writes n y e) (named_object at l) (assigned_within at l) (assigned_objects at e) (named_is l) (within_is l) (writes_is e) h
    writes_is (UpdatePointer d of l e) h = three (names_it n y l) (writes_within n y l) (writes n y e) (named_object at l) (assigned_within at l) (assigned_objects at e) (named_is l) (within_is l) (writes_is e) h
    writes_is (Step d g t u l) h = two (names_it n y l) (writes_within n y l) (named_object at l) (assigned_within at l) (named_is l) (within_is l) h
    writes_is (StepPointer d g of l) h = two (names_it n y l) (writes_within n y l) (named_object at l) (assigned_within at l) (named_is l) (within_is l) h
    writes_is (Call c all) h = all_are all h

    pub within_is : (l : LvalueTree) → writes_within n y l ≡ true → IsAssigned n at y (assigned_within at l)
    within_is (Named o of) h = absurd (false_true h)
    within_is (Target of e) h = writes_is e h
    within_is (Element of a b) h = two (writes n y a) (writes n y b) (assigned_objects at a) (assigned_objects at b) (writes_is a) (writes_is b) h
    within_is (ElementFrom of a b) h = two (writes n y a) (writes n y b) (assigned_objects at a) (assigned_objects at b) (writes_is a) (writes_is b) h

    pub all_are : (all : ArgumentTrees) → writes_any n y all ≡ true → IsAssigned n at y (assigned_by_all at all)
    all_are none h = absurd (false_true h)
    all_are (first e rest) h = two (writes n y e) (writes_any n y rest) (assigned_objects at e) (assigned_by_all at rest) (writes_is e) (all_are rest) h
