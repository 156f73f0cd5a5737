-- What a statement assigns it assigns at the positions of its places, and different parts of a function have different positions.
use Rattle.std.proofs.Common.{◌≡◌, ◌⊎◌, inl, inr, ℕ, ◌<◌, Bool, true, false, Option, Some, None, List, [], ◌∷◌, ◌++◌, refl, sym, ap, ◌∙◌, subst, arith, ◌==◌}
use Rattle.std.specs.Prelude.{◌||◌}
use Rattle.std.proofs.lemmas.Bool.Decides.{nat_tests}
use Rattle.debug_records.specs.declared.source.Spot.{Spot}
use Rattle.c_tree.specs.declared.object_type.Object as designator
use Rattle.c_tree.specs.declared.object_type.Object.TheVariants as object
use Rattle.c_tree.specs.TypedExpressions.{RvalueTree, LvalueTree, ArgumentTrees, Constant, Null, Load, Decay, AddressOf, Convert, Discard, Signed, Not, Arithmetic, Compare, ComparePointers, Move, MoveFrom, Difference, And, Or, Conditional, Comma, Assign, Update, UpdatePointer, Step, StepPointer, Call, Named, Target, Element, ElementFrom, none, first}
use Rattle.c_tree.specs.TypedStatements as statement
use Rattle.c_tree.specs.TypedStatements.{InitialTree, Zero, Scalar, Elements, Literal, DeclaredTree, TypedStartTree, Nothing, Value, Declares, StepTree, TypedStatementTree, Block, Declaration, Empty, Run, If, IfElse, While, DoWhile, For, Switch, Break, Continue, Return, TypedStatementTrees, case, default}
use Rattle.c_places.specs.Places.{Place, stop, brought, brought_by_start, places_of_declarators, places_of_start, places_of_head, places_of_step, places_of, places_of_all}
use Rattle.c_flow.specs.declared.assigned.Assigned.{Assigned}
use Rattle.c_flow.specs.Assigns.{assigns_object, named_object, assigned_objects, assigned_within, assigned_by_all, assigned_by_values, assigned_by_initial, assigned_by_option, assigned_by_declarators, assigned_by_start, assigned_by_step, assigned_by, assigned_by_statements}
use Rattle.graph_core.specs.Paths.{Among, front, behind}
use Rattle.graph_build_names.specs.Names.{Names, scalar_of}
use Rattle.graph_build_names.specs.Writes.{writes, writes_within, writes_any, names_it, is_that}
use Rattle.graph_build_laws.proofs.Ascending.{Ascend}
use Rattle.image_truth_units.proofs.UnitFactsAssigned.{among_front, among_back}
use Rattle.base_laws.proofs.Numbers.{no_entry as true_false}
pub use Rattle.graph_core.proofs.Among.{among_cases as split_among}

-- a position is that of one of these places
abbrev pub At : ℕ → List Place → Type 0
At at places = (q : Place) × Among q places × (q.spot.at ≡ at)

pub at_front : (at : ℕ) (xs ys : List Place) → At at xs → At at (xs ++ ys)
at_front at xs ys h = (h.0, among_front h.0 xs ys h.1, h.2)

pub at_back : (at : ℕ) (xs ys : List Place) → At at ys → At at (xs ++ ys)
at_back at xs ys h = (h.0, among_back h.0 xs ys h.1, h.2)

-- places that ascend are behind where they begin, and those of a second list behind those of the first
pub above : (last : ℕ) (all : List Place) (at : ℕ) → Ascend last all → At at all → last < at
above last [] at h k = elim k.1 [ ]
above last (q ∷ more) at h (r, front, e) = subst (λ m. last < m) e h.0
above last (q ∷ more) at h (r, behind a, e) = let k = above q.spot.at more at h.1 (r, a, e) in omega (arith, k, h.0)

pub ascend_front : (last : ℕ) (xs ys : List Place) → Ascend last (xs ++ ys) → Ascend last xs
ascend_front last [] ys h = tt
ascend_front last (q ∷ xs) ys h = (h.0, ascend_front q.spot.at xs ys h.1)

-- some position is before all of the second
pub ascend_back : (last : ℕ) (xs ys : List Place) → Ascend last (xs ++ ys) → (m : ℕ) × Ascend m ys
ascend_back last [] ys h = (last, h)
ascend_back last (q ∷ xs) ys h = ascend_back q.spot.at xs ys h.1

pub apart : (last : ℕ) (xs ys : List Place) (at : ℕ) → Ascend last (xs ++ ys) → At at xs → At at ys → ⊥
apart last [] ys at h k l = elim k.1 [ ]
apart last (q ∷ xs) ys at h (r, front, e) l =
    let m = above q.spot.at (xs ++ ys) at h.1 (at_back at xs ys l) in omega (arith, m, e)
apart last (q ∷ xs) ys at h (r, behind a, e) l = apart q.spot.at xs ys at h.1 (r, a, e) l

module _ (at : ℕ) where
  both : (xs ys : List Assigned) → ((a : Assigned) → Among a xs → a.at ≡ at) → ((a : Assigned) → Among a ys → a.at ≡ at) → (a : Assigned) → Among a (xs ++ ys) → a.at ≡ at
  both xs ys h k a m = by (split_among a xs ys m)
    where
      by : Among a xs ⊎ Among a ys → a.at ≡ at
      by (inl m) = h a m
      by (inr m) = k a m

  named_at : (l : LvalueTree) (a : Assigned) → Among a (named_object at l) → a.at ≡ at
  named_at (Named o of) a front = refl
  named_at (Named o of) a (behind m) = elim m [ ]
  named_at (Target of e) a m = elim m [ ]
  named_at (Element of b d) a m = elim m [ ]
  named_at (ElementFrom of b d) a m = elim m [ ]

  mutual
    -- what an expression assigns it assigns at its position
    pub assigned_at : (e : RvalueTree) (a : Assigned) → Among a (assigned_objects at e) → a.at ≡ at
    assigned_at (Constant z t) a m = elim m [ ]
    assigned_at Null a m = elim m [ ]
    assigned_at (Load s l) a m = within_at l a m
    assigned_at (Decay l) a m = within_at l a m
    assigned_at (AddressOf l) a m = within_at l a m
    assigned_at (Convert t e) a m = assigned_at e a m
    assigned_at (Discard e) a m = assigned_at e a m
    assigned_at (Signed o t e) a m = assigned_at e a m
    assigned_at (Not e) a m = assigned_at e a m
    assigned_at (Arithmetic o t b d) a m = both (assigned_objects at b) (assigned_objects at d) (assigned_at b) (assigned_at d) a m
    assigned_at (Compare o t b d) a m = both (assigned_objects at b) (assigned_objects at d) (assigned_at b) (assigned_at d) a m
    assigned_at (ComparePointers o b d) a m = both (assigned_objects at b) (assigned_objects at d) (assigned_at b) (assigned_at d) a m
    assigned_at (Move w of b d) a m = both (assigned_objects at b) (assigned_objects at d) (assigned_at b) (assigned_at d) a m
    assigned_at (MoveFrom b of d) a m = both (assigned_objects at b) (assigned_objects at d) (assigned_at b) (assigned_at d) a m
    assigned_at (Difference of b d) a m = both (assigned_objects at b) (assigned_objects at d) (assigned_at b) (assigned_at d) a m
    assigned_at (And b d) a m = both (assigned_objects at b) (assigned_objects at d) (assigned_at b) (assigned_at d) a m
    assigned_at (Or b d) a m = both (assigned_objects at b) (assigned_objects at d) (assigned_at b) (assigned_at d) a m
    assigned_at (Conditional c b d) a m = both (assigned_objects at c ++ assigned_objects at b) (assigned_objects at d) (both (assigned_objects at c) (assigned_objects at b) (assigned_at c) (assigned_at b)) (assigned_at d) a m
    assigned_at (Comma b d) a m = both (assigned_objects at b) (assigned_objects at d) (assigned_at b) (assigned_at d) a m
    assigned_at (Assign s l e) a m = both (named_object at l ++ assigned_within at l) (assigned_objects at e) (both (named_object at l) (assigned_within at l) (named_at l) (within_at l)) (assigned_at e) a m
    assigned_at (Update o t u l e) a m = both (named_object at l ++ assigned_within at l) (assigned_objects at e) (both (named_object at l) (assigned_within at l) (named_at l) (within_at l)) (assigned_at e) a m
    assigned_at (UpdatePointer d of l e) a m = both (named_object at l ++ assigned_within at l) (assigned_objects at e) (both (named_object at l) (assigned_within at l) (named_at l) (within_at l)) (assigned_at e) a m
    assigned_at (Step d g t u l) a m = both (named_object at l) (assigned_within at l) (named_at l) (within_at l) a m
    assigned_at (StepPointer d g of l) a m = both (named_object at l) (assigned_within at l) (named_at l) (within_at l) a m
    assigned_at (Call c all) a m = all_at all a m

    within_at : (l : LvalueTree) (a : Assigned) → Among a (assigned_within at l) → a.at ≡ at
    within_at (Named o of) a m = elim m [ ]
    within_at (Target of e) a m = assigned_at e a m
    within_at (Element of b d) a m = both (assigned_objects at b) (assigned_objects at d) (assigned_at b) (assigned_at d) a m
    within_at (ElementFrom of b d) a m = both (assigned_objects at b) (assigned_objects at d) (assigned_at b) (assigned_at d) a m

    all_at : (all : ArgumentTrees) (a : Assigned) → Among a (assigned_by_all at all) → a.at ≡ at
    all_at none a m = elim m [ ]
    all_at (first e rest) a m = both (assigned_objects at e) (assigned_by_all at rest) (assigned_at e) (all_at rest) a m

  values_at : (all : List RvalueTree) (a : Assigned) → Among a (assigned_by_values at all) → a.at ≡ at
  values_at [] a m = elim m [ ]
  values_at (e ∷ rest) a m = both (assigned_objects at e) (assigned_by_values at rest) (assigned_at e) (values_at rest) a m

  pub initial_at : (i : InitialTree) (a : Assigned) → Among a (assigned_by_initial at i) → a.at ≡ at
  initial_at Zero a m = elim m [ ]
  initial_at (Scalar e) a m = assigned_at e a m
  initial_at (Elements all) a m = values_at all a m
  initial_at (Literal k) a m = elim m [ ]

-- whether an object is an automatic variable, and which
abbrev is_automatic : designator.Object → Bool
is_automatic (object.Automatic v) = true
is_automatic (object.Static i) = false
is_automatic (object.Literal i) = false

abbrev automatic_number : designator.Object → ℕ
automatic_number (object.Automatic v) = v
automatic_number (object.Static i) = 0
automatic_number (object.Literal i) = 0

-- two automatic variables that are assigned alike are one
pub same_assigned : (at v w : ℕ) → assigns_object at (object.Automatic v) ≡ assigns_object at (object.Automatic w) → v ≡ w
same_assigned at v w e = ap (λ (a : Assigned). automatic_number a.object) e

-- The scalar of a variable that an expression assigns its code writes.
module _ (n : Names) (at v x : ℕ) (is_scalar : scalar_of n v ≡ Some x) where
  abbrev A : Assigned
  A = assigns_object at (object.Automatic v)

  or_first : (a b : Bool) → a ≡ true → a || b ≡ true
  or_first true b h = refl
  or_first false b h = cc

  or_second : (a b : Bool) → b ≡ true → a || b ≡ true
  or_second true b h = refl
  or_second false b h = h

  two : (a b : Bool) (xs ys : List Assigned) → (Among A xs → a ≡ true) → (Among A ys → b ≡ true) → Among A (xs ++ ys) → a || b ≡ true
  two a b xs ys h k m = by (split_among A xs ys m)
    where
      by : Among A xs ⊎ Among A ys → a || b ≡ true
      by (inl m) = or_first a b (h m)
      by (inr m) = or_second a b (k m)

  three : (a b c : Bool) (xs ys zs : List Assigned) → (Among A xs → a ≡ true) → (Among A ys → b ≡ true) → (Among A zs → c ≡ true) → Among A (xs ++ ys ++ zs) → a || b || c ≡ true
  three a b c xs ys zs h k l m = two (a || b) c (xs ++ ys) zs (two a b xs ys h k) l m

  same_is : (x == x) ≡ true
  same_is = grind (arith, nat_tests)

  same_variable : (w : ℕ) → assigns_object at (object.Automatic v) ≡ assigns_object at (object.Automatic w) → w ≡ v
  same_variable w e = sym (ap (λ (a : Assigned). automatic_number a.object) e)

  one_of : (a b : Assigned) → Among a (b ∷ []) → a ≡ b
  one_of a b front = refl
  one_of a b (behind m) = elim m [ ]

  named_writes : (l : LvalueTree) → Among A (named_object at l) → names_it n x l ≡ true
  named_writes (Named (object.Automatic w) of) m =
      ap (is_that x) (ap (scalar_of n) (same_variable w (one_of A (assigns_object at (object.Automatic w)) m)) ∙ is_scalar) ∙ same_is
  named_writes (Named (object.Static i) of) m = absurd (true_false (ap (λ (a : Assigned). is_automatic a.object) (one_of A (assigns_object at (object.Static i)) m)))
  named_writes (Named (object.Literal i) of) m = absurd (true_false (ap (λ (a : Assigned). is_automatic a.object) (one_of A (assigns_object at (object.Literal i)) m)))
  named_writes (Target of e) m = elim m [ ]
  named_writes (Element of b d) m = elim m [ ]
  named_writes (ElementFrom of b d) m = elim m [ ]

  mutual
    pub assigned_writes : (e : RvalueTree) → Among (assigns_object at (object.Automatic v)) (assigned_objects at e) → writes n x e ≡ true
    assigned_writes (Constant z t) m = elim m [ ]
    assigned_writes Null m = elim m [ ]
    assigned_writes (Load s l) m = within_writes l m
    assigned_writes (Decay l) m = within_writes l m
    assigned_writes (AddressOf l) m = within_writes l m
    assigned_writes (Convert t e) m = assigned_writes e m
    assigned_writes (Discard e) m = assigned_writes e m
    assigned_writes (Signed o t e) m = assigned_writes e m
    assigned_writes (Not e) m = assigned_writes e m
    assigned_writes (Arithmetic o t b d) m = two (writes n x b) (writes n x d) (assigned_objects at b) (assigned_objects at d) (assigned_writes b) (assigned_writes d) m
    assigned_writes (Compare o t b d) m = two (writes n x b) (writes n x d) (assigned_objects at b) (assigned_objects at d) (assigned_writes b) (assigned_writes d) m
    assigned_writes (ComparePointers o b d) m = two (writes n x b) (writes n x d) (assigned_objects at b) (assigned_objects at d) (assigned_writes b) (assigned_writes d) m
    assigned_writes (Move w of b d) m = two (writes n x b) (writes n x d) (assigned_objects at b) (assigned_objects at d) (assigned_writes b) (assigned_writes d) m
    assigned_writes (MoveFrom b of d) m = two (writes n x b) (writes n x d) (assigned_objects at b) (assigned_objects at d) (assigned_writes b) (assigned_writes d) m
    assigned_writes (Difference of b d) m = two (writes n x b) (writes n x d) (assigned_objects at b) (assigned_objects at d) (assigned_writes b) (assigned_writes d) m
    assigned_writes (And b d) m = two (writes n x b) (writes n x d) (assigned_objects at b) (assigned_objects at d) (assigned_writes b) (assigned_writes d) m
    assigned_writes (Or b d) m = two (writes n x b) (writes n x d) (assigned_objects at b) (assigned_objects at d) (assigned_writes b) (assigned_writes d) m
    assigned_writes (Conditional c b d) m = three (writes n x c) (writes n x b) (writes n x d) (assigned_objects at c) (assigned_objects at b) (assigned_objects at d) (assigned_writes c) (assigned_writes b) (assigned_writes d) m
    assigned_writes (Comma b d) m = two (writes n x b) (writes n x d) (assigned_objects at b) (assigned_objects at d) (assigned_writes b) (assigned_writes d) m
    assigned_writes (Assign s l e) m = three (names_it n x l) (writes_within n x l) (writes n x e) (named_object at l) (assigned_within at l) (assigned_objects at e) (named_writes l) (within_writes l) (assigned_writes e) m
    assigned_writes (Update o t u l e) m = three (names_it n x l) (writes_within n x l) (writes n x e) (named_object at l) (assigned_within at l) (assigned_objects at e) (named_writes l) (within_writes l) (assigned_writes e) m
    assigned_writes (UpdatePointer d of l e) m = three (names_it n x l) (writes_within n x l) (writes n x e) (named_object at l) (assigned_within at l) (assigned_objects at e) (named_writes l) (within_writes l) (assigned_writes e) m
    assigned_writes (Step d g t u l) m = two (names_it n x l) (writes_within n x l) (named_object at l) (assigned_within at l) (named_writes l) (within_writes l) m
    assigned_writes (StepPointer d g of l) m = two (names_it n x l) (writes_within n x l) (named_object at l) (assigned_within at l) (named_writes l) (within_writes l) m
    assigned_writes (Call c all) m = all_writes all m

    within_writes : (l : LvalueTree) → Among (assigns_object at (object.Automatic v)) (assigned_within at l) → writes_within n x l ≡ true
    within_writes (Named o of) m = elim m [ ]
    within_writes (Target of e) m = assigned_writes e m
    within_writes (Element of b d) m = two (writes n x b) (writes n x d) (assigned_objects at b) (assigned_objects at d) (assigned_writes b) (assigned_writes d) m
    within_writes (ElementFrom of b d) m = two (writes n x b) (writes n x d) (assigned_objects at b) (assigned_objects at d) (assigned_writes b) (assigned_writes d) m

    all_writes : (all : ArgumentTrees) → Among (assigns_object at (object.Automatic v)) (assigned_by_all at all) → writes_any n x all ≡ true
    all_writes none m = elim m [ ]
    all_writes (first e rest) m = two (writes n x e) (writes_any n x rest) (assigned_objects at e) (assigned_by_all at rest) (assigned_writes e) (all_writes rest) m

-- What a statement assigns it assigns at the position of one of its places.
abbrev pub Within : List Assigned → List Place → Type 0
Within all places = (a : Assigned) → Among a all → At a.at places

pub joined : (xs ys : List Assigned) (ps qs : List Place) → Within xs ps → Within ys qs → Within (xs ++ ys) (ps ++ qs)
joined xs ys ps qs h k a m = by (split_among a xs ys m)
  where
    by : Among a xs ⊎ Among a ys → At a.at (ps ++ qs)
    by (inl m) = at_front a.at ps qs (h a m)
    by (inr m) = at_back a.at ps qs (k a m)

module _ (number : ℕ) where
  at_spot : (spot : Spot) (scope : List ℕ) (all : List Assigned) (more : List Place) → ((a : Assigned) → Among a all → a.at ≡ spot.at) → Within all (stop number scope spot ∷ more)
  at_spot spot scope all more h a m = (stop number scope spot, front, sym (h a m))

  swapped : (xs ys : List Assigned) (ps qs : List Place) → Within xs qs → Within ys ps → Within (xs ++ ys) (ps ++ qs)
  swapped xs ys ps qs h k a m = by (split_among a xs ys m)
    where
      by : Among a xs ⊎ Among a ys → At a.at (ps ++ qs)
      by (inl m) = at_back a.at ps qs (h a m)
      by (inr m) = at_front a.at ps qs (k a m)

  pub declared_within : (all : List DeclaredTree) (scope : List ℕ) → Within (assigned_by_declarators all) (places_of_declarators number scope all)
  declared_within [] scope = λ a m. elim m [ ]
  declared_within (d ∷ more) scope =
      joined (assigns_object d.spot.at (object.Automatic d.variable) ∷ assigned_by_initial d.spot.at d.initial) (assigned_by_declarators more) (stop number scope d.spot ∷ []) (places_of_declarators number (scope ++ d.variable ∷ []) more)
      (at_spot d.spot scope (assigns_object d.spot.at (object.Automatic d.variable) ∷ assigned_by_initial d.spot.at d.initial) [] (λ a m. own a m)) (declared_within more (scope ++ d.variable ∷ []))
    where
      own : (a : Assigned) → Among a (assigns_object d.spot.at (object.Automatic d.variable) ∷ assigned_by_initial d.spot.at d.initial) → a.at ≡ d.spot.at
      own a front = refl
      own a (behind m) = initial_at d.spot.at d.initial a m

  pub start_within : (begin : TypedStartTree) (scope : List ℕ) → Within (assigned_by_start begin) (places_of_start number scope begin)
  start_within Nothing scope = λ a m. elim m [ ]
  start_within (Value spot e) scope = at_spot spot scope (assigned_objects spot.at e) [] (assigned_at spot.at e)
  start_within (Declares all) scope = declared_within all scope

  pub step_within : (step : Option StepTree) (scope : List ℕ) → Within (assigned_by_step step) (places_of_step number scope step)
  step_within None scope = λ a m. elim m [ ]
  step_within (Some s) scope = at_spot s.spot scope (assigned_objects s.spot.at s.value) [] (assigned_at s.spot.at s.value)

  pub head_within : (begin : TypedStartTree) (spot : Spot) (e : Option RvalueTree) (scope : List ℕ) → Within (assigned_by_start begin ++ assigned_by_option spot.at e) (places_of_head number scope begin spot e)
  head_within begin spot None scope = swapped (assigned_by_start begin) [] (stop number scope spot ∷ []) (places_of_start number scope begin) (start_within begin scope) (λ a m. elim m [ ])
  head_within begin spot (Some e) scope = joined (assigned_by_start begin) (assigned_objects spot.at e) (places_of_start number scope begin) (stop number (scope ++ brought_by_start begin) spot ∷ []) (start_within begin scope) (at_spot spot (scope ++ brought_by_start begin) (assigned_objects spot.at e) [] (assigned_at spot.at e))

  option_at : (spot : Spot) (scope : List ℕ) (e : Option RvalueTree) → Within (assigned_by_option spot.at e) (stop number scope spot ∷ [])
  option_at spot scope None = λ a m. elim m [ ]
  option_at spot scope (Some e) = at_spot spot scope (assigned_objects spot.at e) [] (assigned_at spot.at e)

  pub one_within : (spot : Spot) (scope : List ℕ) (e : RvalueTree) → Within (assigned_objects spot.at e) (stop number scope spot ∷ [])
  one_within spot scope e = at_spot spot scope (assigned_objects spot.at e) [] (assigned_at spot.at e)

  mutual
    pub statement_within : (s : TypedStatementTree) (scope : List ℕ) → Within (assigned_by s) (places_of number scope s)
    statement_within (Block all) scope = statements_within all scope
    statement_within (Declaration all) scope = declared_within all scope
    statement_within (Empty spot) scope = λ a m. elim m [ ]
    statement_within (Run spot e) scope = one_within spot scope e
    statement_within (If spot e s) scope = joined (assigned_objects spot.at e) (assigned_by s) (stop number scope spot ∷ []) (places_of number scope s) (one_within spot scope e) (statement_within s scope)
    statement_within (IfElse spot e s r) scope =
        joined (assigned_objects spot.at e ++ assigned_by s) (assigned_by r) (stop number scope spot ∷ places_of number scope s) (places_of number scope r)
        (joined (assigned_objects spot.at e) (assigned_by s) (stop number scope spot ∷ []) (places_of number scope s) (one_within spot scope e) (statement_within s scope)) (statement_within r scope)
    statement_within (While spot e s) scope = joined (assigned_objects spot.at e) (assigned_by s) (stop number scope spot ∷ []) (places_of number scope s) (one_within spot scope e) (statement_within s scope)
    statement_within (DoWhile s spot e) scope = swapped (assigned_objects spot.at e) (assigned_by s) (places_of number scope s) (stop number scope spot ∷ []) (one_within spot scope e) (statement_within s scope)
    statement_within (For begin spot e step s) scope =
        let inside = scope ++ brought_by_start begin in
        joined (assigned_by_start begin ++ assigned_by_option spot.at e ++ assigned_by_step step) (assigned_by s) (places_of_head number scope begin spot e ++ places_of_step number inside step) (places_of number inside s)
        (joined (assigned_by_start begin ++ assigned_by_option spot.at e) (assigned_by_step step) (places_of_head number scope begin spot e) (places_of_step number inside step) (head_within begin spot e scope) (step_within step inside)) (statement_within s inside)
    statement_within (Switch spot e all) scope = joined (assigned_objects spot.at e) (assigned_by_statements all) (stop number scope spot ∷ []) (places_of_all number scope all) (one_within spot scope e) (statements_within all scope)
    statement_within (Break spot) scope = λ a m. elim m [ ]
    statement_within (Continue spot) scope = λ a m. elim m [ ]
    statement_within (Return spot e) scope = option_at spot scope e

    pub statements_within : (all : TypedStatementTrees) (scope : List ℕ) → Within (assigned_by_statements all) (places_of_all number scope all)
    statements_within statement.none scope = λ a m. elim m [ ]
    statements_within (statement.first s rest) scope = joined (assigned_by s) (assigned_by_statements rest) (places_of number scope s) (places_of_all number (scope ++ brought s) rest) (statement_within s scope) (statements_within rest (scope ++ brought s))
    statements_within (case z rest) scope = statements_within rest scope
    statements_within (default rest) scope = statements_within rest scope
