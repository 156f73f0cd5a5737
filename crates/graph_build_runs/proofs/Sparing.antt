-- No temporary is among the scalars that the code of an expression writes.
use Rattle.std.proofs.Common.{◌≡◌, ℕ, ◌<◌, ◌≤◌, Option, Some, None, false, ◌||◌, refl, arith}
use Rattle.std.proofs.lemmas.Bool.Decides.{nat_tests}
use Rattle.c_tree.specs.declared.object_type.Object.TheVariants as object
use Rattle.c_tree.specs.TypedExpressions.{RvalueTree, LvalueTree, ArgumentTrees, Constant, Null, Load, Decay, AddressOf, Convert, Discard, Signed, Not, Arithmetic, Compare, ComparePointers, Move, MoveFrom, Difference, And, Or, Conditional, Comma, Assign, Update, UpdatePointer, Step, StepPointer, Call, Named, Target, Element, ElementFrom, none, first}
use Rattle.graph_build_names.specs.Names.{Names, scalar_of, scalar_named}
use Rattle.graph_build_names.specs.Writes.{is_that, writes, writes_within, writes_any}
use Rattle.base_laws.proofs.Booleans.{or_none as neither}

module _ (n : Names) (size : ℕ) (low : (v k : ℕ) → scalar_of n v ≡ Some k → k < size) (y : ℕ) (le : size ≤ y) where
  no_scalar : (v : ℕ) (o : Option ℕ) → scalar_of n v ≡ o → is_that y o ≡ false
  no_scalar v None h = refl
  no_scalar v (Some k) h = let lt = low v k h in grind (arith, nat_tests, lt, le)

  no_name : (l : LvalueTree) → is_that y (scalar_named n l) ≡ false
  no_name (Named (object.Static i) of) = refl
  no_name (Named (object.Literal i) of) = refl
  no_name (Named (object.Automatic v) of) = no_scalar v (scalar_of n v) refl
  no_name (Target of p) = refl
  no_name (Element of p i) = refl
  no_name (ElementFrom of i p) = refl

  written : (l : LvalueTree) (e : RvalueTree) → writes_within n y l ≡ false → writes n y e ≡ false → is_that y (scalar_named n l) || writes_within n y l || writes n y e ≡ false
  written l e within later = neither (is_that y (scalar_named n l) || writes_within n y l) (writes n y e) (neither (is_that y (scalar_named n l)) (writes_within n y l) (no_name l) within) later

  mutual
    pub spares : (e : RvalueTree) → writes n y e ≡ false
    spares (Constant z t) = refl
    spares Null = refl
    spares (Load s l) = spares_within l
    spares (Decay l) = spares_within l
    spares (AddressOf l) = spares_within l
    spares (Convert t e) = spares e
    spares (Discard e) = spares e
    spares (Signed o t e) = spares e
    spares (Not e) = spares e
    spares (Arithmetic o t a b) = neither (writes n y a) (writes n y b) (spares a) (spares b)
    spares (Compare o t a b) = neither (writes n y a) (writes n y b) (spares a) (spares b)
    spares (ComparePointers o a b) = neither (writes n y a) (writes n y b) (spares a) (spares b)
    spares (Move d of a b) = neither (writes n y a) (writes n y b) (spares a) (spares b)
    spares (MoveFrom b of a) = neither (writes n y b) (writes n y a) (spares b) (spares a)
    spares (Difference of a b) = neither (writes n y a) (writes n y b) (spares a) (spares b)
    spares (And a b) = neither (writes n y a) (writes n y b) (spares a) (spares b)
    spares (Or a b) = neither (writes n y a) (writes n y b) (spares a) (spares b)
    spares (Conditional c a b) = neither (writes n y c || writes n y a) (writes n y b) (neither (writes n y c) (writes n y a) (spares c) (spares a)) (spares b)
    spares (Comma a b) = neither (writes n y a) (writes n y b) (spares a) (spares b)
    spares (Assign s l e) = written l e (spares_within l) (spares e)
    spares (Update o t u l e) = written l e (spares_within l) (spares e)
    spares (UpdatePointer d of l e) = written l e (spares_within l) (spares e)
    spares (Step d g t u l) = neither (is_that y (scalar_named n l)) (writes_within n y l) (no_name l) (spares_within l)
    spares (StepPointer d g of l) = neither (is_that y (scalar_named n l)) (writes_within n y l) (no_name l) (spares_within l)
    spares (Call c all) = spares_any all

    spares_within : (l : LvalueTree) → writes_within n y l ≡ false
    spares_within (Named o of) = refl
    spares_within (Target of p) = spares p
    spares_within (Element of p i) = neither (writes n y p) (writes n y i) (spares p) (spares i)
    spares_within (ElementFrom of i p) = neither (writes n y i) (writes n y p) (spares i) (spares p)

    pub spares_any : (all : ArgumentTrees) → writes_any n y all ≡ false
    spares_any none = refl
    spares_any (first e rest) = neither (writes n y e) (writes_any n y rest) (spares e) (spares_any rest)
