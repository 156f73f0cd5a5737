-- Values that are computed for a name stand there, and places are found by names below the next one that is free.
use Rattle.std.proofs.Common.{◌≡◌, ℕ, ◌+◌, Option, Some, None, Bool, true, false, refl, arith}
use Rattle.std.specs.Prelude.{if◌then◌else◌}
use Rattle.c_tree.specs.declared.object_type.Object.TheVariants as object
use Rattle.c_tree.specs.declared.typed_expression.Given.{Given}
use Rattle.c_tree.specs.declared.typed_expression.Given.TheVariants.{New, Old}
use Rattle.c_tree.specs.declared.typed_expression.Sign.TheVariants.{Plus, Minus, Complement}
use Rattle.c_tree.specs.TypedExpressions.{RvalueTree, LvalueTree, Constant, Null, Load, Decay, AddressOf, Convert, Discard, Signed, Not, Arithmetic, Compare, ComparePointers, Move, MoveFrom, Difference, And, Or, Conditional, Comma, Assign, Update, UpdatePointer, Step, StepPointer, Call, Named, Target, Element, ElementFrom}
use Rattle.c_type_rules.specs.ValueTypes.{type_of, given_by, integer_in, is_void}
use Rattle.graph_core.specs.Graphs.{Name}
use Rattle.graph_build_names.specs.Conversions.{keeps_bits, is_narrow, is_kept_constant}
use Rattle.graph_build_layout.specs.declared.laid.Use.TheVariants.{Anywhere, In, Nothing, Tested}
use Rattle.graph_build_names.specs.Names.{Names, scalar_named, object_of, object_location, pick}
use Rattle.graph_build_names.specs.Writes.{writes}
use Rattle.graph_build_layout.specs.Laid.{Laid, PlaceLaid, use_for, operation_laid, standing, converted_laid, void_arms_laid, arms_laid, begun_at, assigned_laid, begun_behind, updated_laid, step_laid, called_laid, loaded_laid, object_laid}
use Rattle.graph_build_layout.specs.Layout.{laid, place_laid, address_laid, passed_laid, scales}
use Rattle.graph_build_runs.proofs.Leads.{Setting, names_in, size_in}
use Rattle.graph_build_runs.proofs.Kept.{ScalarsFirst}
use Rattle.graph_build_runs.proofs.Lays.{lays}
use Rattle.graph_build_runs.proofs.Holding.{IsPlaceBelow}
use Rattle.graph_build_runs.proofs.Assigning.{PlaceBelow}

abbrev mutual
  -- An expression has a value wherever it has an end: it is no cast to `void`, no call of a function that gives nothing, and no choice of such.
  pub IsWhole : Setting → RvalueTree → Type 0
  IsWhole x (Constant z t) = Unit {0}
  IsWhole x Null = Unit {0}
  IsWhole x (Load s l) = Unit {0}
  IsWhole x (Decay l) = IsWholeIn x l
  IsWhole x (AddressOf l) = IsWholeIn x l
  IsWhole x (Convert t e) = IsWhole x e
  IsWhole x (Discard e) = ⊥
  IsWhole x (Signed o t e) = IsWhole x e
  IsWhole x (Not e) = Unit {0}
  IsWhole x (Arithmetic o t a b) = Unit {0}
  IsWhole x (Compare o t a b) = Unit {0}
  IsWhole x (ComparePointers o a b) = Unit {0}
  IsWhole x (Move d of a b) = Unit {0}
  IsWhole x (MoveFrom b of a) = Unit {0}
  IsWhole x (Difference of a b) = Unit {0}
  IsWhole x (And a b) = Unit {0}
  IsWhole x (Or a b) = Unit {0}
  IsWhole x (Conditional c a b) = is_void (type_of (names_in x).results a) ≡ false
  IsWhole x (Comma a b) = IsWhole x b
  IsWhole x (Assign s l e) = IsWhole x e
  IsWhole x (Update o t u l e) = Unit {0}
  IsWhole x (UpdatePointer d of l e) = Unit {0}
  IsWhole x (Step d g t u l) = Unit {0}
  IsWhole x (StepPointer d g of l) = Unit {0}
  IsWhole x (Call c all) = is_void (given_by (names_in x).results c) ≡ false

  -- so have what the pointers of lvalues are made of
  pub IsWholeIn : Setting → LvalueTree → Type 0
  IsWholeIn x (Named o of) = Unit {0}
  IsWholeIn x (Target of p) = IsWhole x p
  IsWholeIn x (Element of p i) = Unit {0}
  IsWholeIn x (ElementFrom of i p) = Unit {0}

module _ (x : Setting) where
  abbrev n : Names
  n = names_in x

  chosen : (b : Bool) (r q : Laid) (k : ℕ) → r.value ≡ Name k → q.value ≡ Name k → (if b then r else q).value ≡ Name k
  chosen true r q k h j = h
  chosen false r q k h j = j

  loaded_stands : (o : Option ℕ) (k t : ℕ) (place : PlaceLaid) → (loaded_laid n (In k) o t place).value ≡ Name k
  loaded_stands (Some y) k t place = refl
  loaded_stands None k t place = refl

  object_stands : (o : Option ℕ) (k t : ℕ) → (object_laid n (In k) o t).value ≡ Name k
  object_stands (Some y) k t = refl
  object_stands None k t = refl

  assigned_stands : (o : Option ℕ) (k t : ℕ) (place : PlaceLaid) (r : Laid) → (o ≡ None → r.value ≡ Name k) → (assigned_laid n (In k) o t place r).value ≡ Name k
  assigned_stands (Some y) k t place r h = refl
  assigned_stands None k t place r h = h refl

  updated_stands : (o : Option ℕ) (narrow scaled : Bool) (k t : ℕ) (place : PlaceLaid) (r : Laid) → (updated_laid n (In k) narrow scaled o t place r).value ≡ Name k
  updated_stands (Some y) narrow scaled k t place r = refl
  updated_stands None narrow scaled k t place r = refl

  step_stands : (g : Given) (o : Option ℕ) (narrow : Bool) (k t : ℕ) (place : PlaceLaid) → (step_laid n g (In k) narrow o t place).value ≡ Name k
  step_stands New (Some y) narrow k t place = refl
  step_stands New None narrow k t place = refl
  step_stands Old (Some y) narrow k t place = refl
  step_stands Old None narrow k t place = refl

  called_stands : (void : Bool) (k t next top : ℕ) → void ≡ false → (called_laid n (In k) void t next top).value ≡ Name k
  called_stands false k t next top e = refl
  called_stands true k t next top e = cc

  choice_stands : (void : Bool) (k t : ℕ) (c c1 : Laid) (a b a1 b1 : ℕ → Laid) → void ≡ false → (if void then void_arms_laid n t c a b else arms_laid n (In k) t c1 a1 b1).value ≡ Name k
  choice_stands false k t c c1 a b a1 b1 e = refl
  choice_stands true k t c c1 a b a1 b1 e = cc

  for_none : (o : Option ℕ) (e : RvalueTree) (k t : ℕ) (written : ℕ → Bool) (place : PlaceLaid) → ((j : ℕ) → (laid n e (In k) j).value ≡ Name k) → o ≡ None → (laid n e (use_for o (In k)) (begun_at o t written place)).value ≡ Name k
  for_none None e k t written place h is = h (begun_at None t written place)
  for_none (Some y) e k t written place h is = cc

  mutual
    -- A value that is computed for a name stands there.
    pub stands_in : (e : RvalueTree) → IsWhole x e → (k t : ℕ) → (laid n e (In k) t).value ≡ Name k
    stands_in (Constant z ty) whole k t = refl
    stands_in Null whole k t = refl
    stands_in (Load s l) whole k t = loaded_stands (scalar_named n l) k t (place_laid n l t)
    stands_in (Decay l) whole k t = address_stands l whole k t
    stands_in (AddressOf l) whole k t = address_stands l whole k t
    stands_in (Convert ty e) whole k t =
        chosen (keeps_bits (integer_in (type_of n.results e)) ty) (laid n e (In k) t) (converted_laid n (In k) ty t (laid n e Anywhere t)) k (stands_in e whole k t)
        (chosen (is_kept_constant ty (laid n e Anywhere t).value) (standing n (In k) t (laid n e Anywhere t)) (operation_laid n (In k) t (laid n e Anywhere t).next (laid n e Anywhere t).top) k refl refl)
    stands_in (Discard e) whole k t = absurd whole
    stands_in (Signed Plus ty e) whole k t = stands_in e whole k t
    stands_in (Signed Minus ty e) whole k t = refl
    stands_in (Signed Complement ty e) whole k t = refl
    stands_in (Not e) whole k t = refl
    stands_in (Arithmetic o ty a b) whole k t = refl
    stands_in (Compare o ty a b) whole k t = refl
    stands_in (ComparePointers o a b) whole k t = refl
    stands_in (Move d of p i) whole k t = refl
    stands_in (MoveFrom i of p) whole k t = refl
    stands_in (Difference of a b) whole k t = refl
    stands_in (And a b) whole k t = refl
    stands_in (Or a b) whole k t = refl
    stands_in (Conditional c a b) whole k t =
        choice_stands (is_void (type_of n.results a)) k t (laid n c Tested t) (laid n c Tested (t + 1)) (laid n a Nothing) (laid n b Nothing) (laid n a (In t)) (laid n b (In t)) whole
    stands_in (Comma a b) whole k t = stands_in b whole k (pick n t (laid n a Nothing t).top)
    stands_in (Assign s l e) whole k t =
        assigned_stands (scalar_named n l) k t (place_laid n l t) (laid n e (use_for (scalar_named n l) (In k)) (begun_at (scalar_named n l) t (λ y. writes n y e) (place_laid n l t)))
        (for_none (scalar_named n l) e k t (λ y. writes n y e) (place_laid n l t) (λ j. stands_in e whole k j))
    stands_in (Update o ty v l e) whole k t =
        updated_stands (scalar_named n l) (is_narrow ty) false k t (place_laid n l t) (laid n e Anywhere (begun_behind (scalar_named n l) t (λ y. writes n y e) (place_laid n l t)))
    stands_in (UpdatePointer d of l e) whole k t =
        let r = laid n e Anywhere (begun_behind (scalar_named n l) t (λ y. writes n y e) (place_laid n l t)) in
        updated_stands (scalar_named n l) false (scales (Some of) r.value) k t (place_laid n l t) r
    stands_in (Step d g ty v l) whole k t = step_stands g (scalar_named n l) (is_narrow ty) k t (place_laid n l t)
    stands_in (StepPointer d g of l) whole k t = step_stands g (scalar_named n l) false k t (place_laid n l t)
    stands_in (Call c all) whole k t = called_stands (is_void (given_by n.results c)) k t (passed_laid n all t).next (passed_laid n all t).top whole

    address_stands : (l : LvalueTree) → IsWholeIn x l → (k t : ℕ) → (address_laid n l (In k) t).value ≡ Name k
    address_stands (Named (object.Static i) of) whole k t = refl
    address_stands (Named (object.Literal i) of) whole k t = refl
    address_stands (Named (object.Automatic v) of) whole k t = object_stands (object_of n v) k t
    address_stands (Target of p) whole k t = stands_in p whole k t
    address_stands (Element of p i) whole k t = refl
    address_stands (ElementFrom of i p) whole k t = refl

-- A place is found by a name below the next one that is free.
pub place_below : (x : Setting) → ScalarsFirst x → (lv : LvalueTree) → PlaceBelow x lv
place_below x low (Named (object.Static i) of) t size = tt
place_below x low (Named (object.Literal i) of) t size = tt
place_below x low (Named (object.Automatic v) of) t size = by (object_of (names_in x) v)
  where
    by : (o : Option ℕ) → IsPlaceBelow t (object_location o)
    by None = tt
    by (Some k) = tt
place_below x low (Target of p) t size = (lays (names_in x) (size_in x) low p Anywhere t size).below
place_below x low (Element of p i) t size = omega arith
place_below x low (ElementFrom of i p) t size = omega arith
