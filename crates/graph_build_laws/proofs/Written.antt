-- The code of expressions writes by name only scalars.
use Rattle.std.proofs.Common.{◌≡◌, ℕ, ◌≤◌, ◌<◌, Bool, true, false, Option, Some, None, refl, arith, ◌==◌}
use Rattle.std.specs.Prelude.{◌||◌}
use Rattle.std.proofs.lemmas.Bool.Decides.{nat_tests}
use Rattle.c_tree.specs.TypedExpressions.{RvalueTree, LvalueTree, ArgumentTrees, Constant, Null, Load, Decay, AddressOf, Convert, Discard, Signed, Not, Arithmetic, Compare, ComparePointers, Move, MoveFrom, Difference, And, Or, Conditional, Comma, Assign, Update, UpdatePointer, Step, StepPointer, Call, Named, Target, Element, ElementFrom, none, first}
use Rattle.graph_build_names.specs.Names.{Names, scalar_named}
use Rattle.graph_build_names.specs.Writes.{writes, writes_within, writes_any, names_it, is_that}
use Rattle.base_laws.proofs.Booleans.{or_none}

-- the scalars that lvalues name are fewer than a number
abbrev pub NamesFew : Names → (scalars : ℕ) → Type 0
NamesFew n scalars = (l : LvalueTree) (x : ℕ) → scalar_named n l ≡ Some x → x < scalars

-- no name from a number on is one of these
abbrev pub Few : (scalars : ℕ) → (ℕ → Bool) → Type 0
Few scalars w = (y : ℕ) → scalars ≤ y → w y ≡ false

or_none_three : (a b c : Bool) → a ≡ false → b ≡ false → c ≡ false → a || b || c ≡ false
or_none_three true b c p q r = p
or_none_three false b c p q r = or_none b c q r

not_that : (x y scalars : ℕ) → x < scalars → scalars ≤ y → (x == y) ≡ false
not_that x y scalars p q = grind (arith, nat_tests)

module _ (n : Names) (scalars : ℕ) (few : NamesFew n scalars) where
  not_named : (y : ℕ) (l : LvalueTree) → scalars ≤ y → names_it n y l ≡ false
  not_named y l h = go (scalar_named n l) (few l)
    where
      go : (o : Option ℕ) → ((x : ℕ) → o ≡ Some x → x < scalars) → is_that y o ≡ false
      go None k = refl
      go (Some x) k = not_that x y scalars (k x refl) h

  mutual
    pub written_few : (e : RvalueTree) (y : ℕ) → scalars ≤ y → writes n y e ≡ false
    written_few (Constant z t) y h = refl
    written_few Null y h = refl
    written_few (Load s l) y h = place_few l y h
    written_few (Decay l) y h = place_few l y h
    written_few (AddressOf l) y h = place_few l y h
    written_few (Convert t e) y h = written_few e y h
    written_few (Discard e) y h = written_few e y h
    written_few (Signed o t e) y h = written_few e y h
    written_few (Not e) y h = written_few e y h
    written_few (Arithmetic o t a b) y h = or_none _ _ (written_few a y h) (written_few b y h)
    written_few (Compare o t a b) y h = or_none _ _ (written_few a y h) (written_few b y h)
    written_few (ComparePointers o a b) y h = or_none _ _ (written_few a y h) (written_few b y h)
    written_few (Move d of a b) y h = or_none _ _ (written_few a y h) (written_few b y h)
    written_few (MoveFrom b of a) y h = or_none _ _ (written_few b y h) (written_few a y h)
    written_few (Difference of a b) y h = or_none _ _ (written_few a y h) (written_few b y h)
    written_few (And a b) y h = or_none _ _ (written_few a y h) (written_few b y h)
    written_few (Or a b) y h = or_none _ _ (written_few a y h) (written_few b y h)
    written_few (Conditional c a b) y h = or_none_three _ _ _ (written_few c y h) (written_few a y h) (written_few b y h)
    written_few (Comma a b) y h = or_none _ _ (written_few a y h) (written_few b y h)
    written_few (Assign s l e) y h = or_none_three _ _ _ (not_named y l h) (place_few l y h) (written_few e y h)
    written_few (Update o t u l e) y h = or_none_three _ _ _ (not_named y l h) (place_few l y h) (written_few e y h)
    written_few (UpdatePointer d of l e) y h = or_none_three _ _ _ (not_named y l h) (place_few l y h) (written_few e y h)
    written_few (Step d g t u l) y h = or_none _ _ (not_named y l h) (place_few l y h)
    written_few (StepPointer d g of l) y h = or_none _ _ (not_named y l h) (place_few l y h)
    written_few (Call c all) y h = all_few all y h

    pub place_few : (l : LvalueTree) (y : ℕ) → scalars ≤ y → writes_within n y l ≡ false
    place_few (Named o of) y h = refl
    place_few (Target of p) y h = written_few p y h
    place_few (Element of p i) y h = or_none _ _ (written_few p y h) (written_few i y h)
    place_few (ElementFrom of i p) y h = or_none _ _ (written_few i y h) (written_few p y h)

    pub all_few : (all : ArgumentTrees) (y : ℕ) → scalars ≤ y → writes_any n y all ≡ false
    all_few none y h = refl
    all_few (first e rest) y h = or_none _ _ (written_few e y h) (all_few rest y h)
