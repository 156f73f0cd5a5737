-- No scalar is written where that may be skipped: such variables are kept in memory.
use Rattle.std.proofs.Common.{◌≡◌, ℕ, Bool, true, false, Option, Some, None, List, [], ◌∷◌, ◌++◌, slice_get, refl, ap, ◌∙◌}
use Rattle.std.specs.Prelude.{◌||◌, ◌&&◌}
use Rattle.c_tree.specs.declared.object_type.Object.TheVariants as object
use Rattle.c_tree.specs.TypedExpressions.{RvalueTree, LvalueTree, ArgumentTrees, Constant, Null, Load, Decay, AddressOf, Convert, Discard, Signed, Not, Arithmetic, Compare, ComparePointers, Move, MoveFrom, Difference, And, Or, Conditional, Comma, Assign, Update, UpdatePointer, Step, StepPointer, Call, Named, Target, Element, ElementFrom, none, first}
use Rattle.c_tree.specs.TypedStatements as statement
use Rattle.c_tree.specs.TypedStatements.{InitialTree, Zero, Scalar, Elements, Literal, DeclaredTree, TypedStartTree, Nothing, Value, Declares, StepTree, TypedStatementTree, Block, Declaration, Empty, Run, If, IfElse, While, DoWhile, For, Switch, Break, Continue, Return, TypedStatementTrees, case, default}
use Rattle.c_tree.specs.Programs.{AutomaticTree}
use Rattle.c_places.specs.Memory.{with_named_variable, named_if, keeps, kept_in, kept_in_arguments, kept_values, kept_initial, kept_declared, kept_start, kept_option, kept_step, kept_by, kept_by_all}
use Rattle.c_type_laws.specs.Laws.{is_in_memory, are_in_memory}
use Rattle.graph_build_names.specs.Names.{Names, scalar_of}
use Rattle.graph_build_names.specs.Writes.{writes, writes_within, writes_any, names_it, is_that}
use Rattle.graph_build_laws.specs.Surely.{IsSure, IsSurePlace, AreSure}
use Rattle.base_laws.proofs.Booleans.{or_none as no_two, two_true}

no_three : (a b c : Bool) → a ≡ false → b ≡ false → c ≡ false → a || b || c ≡ false
no_three a b c h k l = no_two (a || b) c (no_two a b h k) l

-- Variables that have names are not in memory.
module _ (all : List AutomaticTree) (n : Names) (outside : (v k : ℕ) → scalar_of n v ≡ Some k → is_in_memory (slice_get all v) ≡ true → ⊥) where
  abbrev pub In : List ℕ → Type 0
  In ks = are_in_memory all ks ≡ true

  front_of : (xs ys : List ℕ) → In (xs ++ ys) → In xs
  front_of [] ys h = refl
  front_of (x ∷ xs) ys h = let b = two_true (is_in_memory (slice_get all x)) (are_in_memory all (xs ++ ys)) h in ap (λ c. c && are_in_memory all xs) b.0 ∙ front_of xs ys b.1

  back_of : (xs ys : List ℕ) → In (xs ++ ys) → In ys
  back_of [] ys h = h
  back_of (x ∷ xs) ys h = back_of xs ys (two_true (is_in_memory (slice_get all x)) (are_in_memory all (xs ++ ys)) h).1

  named_before : (l : LvalueTree) (ks : List ℕ) → In (with_named_variable l ks) → In ks
  named_before (Named (object.Automatic v) of) ks h = front_of ks (v ∷ []) h
  named_before (Named (object.Static i) of) ks h = h
  named_before (Named (object.Literal i) of) ks h = h
  named_before (Target of e) ks h = h
  named_before (Element of a b) ks h = h
  named_before (ElementFrom of a b) ks h = h

  named_if_before : (q : Bool) (l : LvalueTree) (ks : List ℕ) → In (named_if q l ks) → In ks
  named_if_before true l ks h = named_before l ks h
  named_if_before false l ks h = h

  mutual
    -- what is in memory before an expression is among what is behind it
    before : (q : Bool) (e : RvalueTree) (ks : List ℕ) → In (keeps q e ks) → In ks
    before q (Constant z t) ks h = h
    before q Null ks h = h
    before q (Load s l) ks h = before_in q l ks h
    before q (Decay l) ks h = before_in q l ks h
    before q (AddressOf l) ks h = named_before l ks (before_in q l (with_named_variable l ks) h)
    before q (Convert t e) ks h = before q e ks h
    before q (Discard e) ks h = before q e ks h
    before q (Signed o t e) ks h = before q e ks h
    before q (Not e) ks h = before q e ks h
    before q (Arithmetic o t a b) ks h = before q a ks (before q b (keeps q a ks) h)
    before q (Compare o t a b) ks h = before q a ks (before q b (keeps q a ks) h)
    before q (ComparePointers o a b) ks h = before q a ks (before q b (keeps q a ks) h)
    before q (Move d of a b) ks h = before q a ks (before q b (keeps q a ks) h)
    before q (MoveFrom a of b) ks h = before q a ks (before q b (keeps q a ks) h)
    before q (Difference of a b) ks h = before q a ks (before q b (keeps q a ks) h)
    before q (And a b) ks h = before q a ks (before true b (keeps q a ks) h)
    before q (Or a b) ks h = before q a ks (before true b (keeps q a ks) h)
    before q (Conditional c a b) ks h = before q c ks (before true a (keeps q c ks) (before true b (keeps true a (keeps q c ks)) h))
    before q (Comma a b) ks h = before q a ks (before q b (keeps q a ks) h)
    before q (Assign s l e) ks h = named_if_before q l ks (before_in q l (named_if q l ks) (before q e (kept_in q l (named_if q l ks)) h))
    before q (Update o t u l e) ks h = named_if_before q l ks (before_in q l (named_if q l ks) (before q e (kept_in q l (named_if q l ks)) h))
    before q (UpdatePointer d of l e) ks h = named_if_before q l ks (before_in q l (named_if q l ks) (before q e (kept_in q l (named_if q l ks)) h))
    before q (Step d g t u l) ks h = named_if_before q l ks (before_in q l (named_if q l ks) h)
    before q (StepPointer d g of l) ks h = named_if_before q l ks (before_in q l (named_if q l ks) h)
    before q (Call c args) ks h = before_all q args ks h

    before_in : (q : Bool) (l : LvalueTree) (ks : List ℕ) → In (kept_in q l ks) → In ks
    before_in q (Named o of) ks h = h
    before_in q (Target of e) ks h = before q e ks h
    before_in q (Element of a b) ks h = before q a ks (before q b (keeps q a ks) h)
    before_in q (ElementFrom of a b) ks h = before q a ks (before q b (keeps q a ks) h)

    before_all : (q : Bool) (args : ArgumentTrees) (ks : List ℕ) → In (kept_in_arguments q args ks) → In ks
    before_all q none ks h = h
    before_all q (first e rest) ks h = before q e ks (before_all q rest (keeps q e ks) h)

  -- so of the parts of statements
  pub before_values : (values : List RvalueTree) (ks : List ℕ) → In (kept_values values ks) → In ks
  before_values [] ks h = h
  before_values (e ∷ more) ks h = before false e ks (before_values more (keeps false e ks) h)

  pub before_initial : (i : InitialTree) (ks : List ℕ) → In (kept_initial i ks) → In ks
  before_initial Zero ks h = h
  before_initial (Scalar e) ks h = before false e ks h
  before_initial (Elements values) ks h = before_values values ks h
  before_initial (Literal k) ks h = h

  pub before_declared : (list : List DeclaredTree) (ks : List ℕ) → In (kept_declared list ks) → In ks
  before_declared [] ks h = h
  before_declared (d ∷ more) ks h = before_initial d.initial ks (before_declared more (kept_initial d.initial ks) h)

  pub before_start : (begin : TypedStartTree) (ks : List ℕ) → In (kept_start begin ks) → In ks
  before_start Nothing ks h = h
  before_start (Value spot e) ks h = before false e ks h
  before_start (Declares list) ks h = before_declared list ks h

  pub before_option : (o : Option RvalueTree) (ks : List ℕ) → In (kept_option o ks) → In ks
  before_option None ks h = h
  before_option (Some e) ks h = before false e ks h

  pub before_step : (o : Option StepTree) (ks : List ℕ) → In (kept_step o ks) → In ks
  before_step None ks h = h
  before_step (Some s) ks h = before false s.value ks h

  pub before_it : (e : RvalueTree) (ks : List ℕ) → In (keeps false e ks) → In ks
  before_it e ks h = before false e ks h

  mutual
    pub before_statement : (s : TypedStatementTree) (ks : List ℕ) → In (kept_by s ks) → In ks
    before_statement (Block list) ks h = before_statements list ks h
    before_statement (Declaration list) ks h = before_declared list ks h
    before_statement (Empty spot) ks h = h
    before_statement (Run spot e) ks h = before false e ks h
    before_statement (If spot e s) ks h = before false e ks (before_statement s (keeps false e ks) h)
    before_statement (IfElse spot e s r) ks h = before false e ks (before_statement s (keeps false e ks) (before_statement r (kept_by s (keeps false e ks)) h))
    before_statement (While spot e s) ks h = before false e ks (before_statement s (keeps false e ks) h)
    before_statement (DoWhile s spot e) ks h = before_statement s ks (before false e (kept_by s ks) h)
    before_statement (For begin spot e step s) ks h =
        before_start begin ks (before_option e (kept_start begin ks) (before_step step (kept_option e (kept_start begin ks)) (before_statement s (kept_step step (kept_option e (kept_start begin ks))) h)))
    before_statement (Switch spot e list) ks h = before false e ks (before_statements list (keeps false e ks) h)
    before_statement (Break spot) ks h = h
    before_statement (Continue spot) ks h = h
    before_statement (Return spot e) ks h = before_option e ks h

    pub before_statements : (list : TypedStatementTrees) (ks : List ℕ) → In (kept_by_all list ks) → In ks
    before_statements statement.none ks h = h
    before_statements (statement.first s rest) ks h = before_statement s ks (before_statements rest (kept_by s ks) h)
    before_statements (case z rest) ks h = before_statements rest ks h
    before_statements (default rest) ks h = before_statements rest ks h

  -- what is written where that may be skipped is no scalar
  kept_name : (x v : ℕ) (ks : List ℕ) → In (ks ++ v ∷ []) → is_that x (scalar_of n v) ≡ false
  kept_name x v ks h = by (scalar_of n v) refl
    where
      inside : is_in_memory (slice_get all v) ≡ true
      inside = (two_true (is_in_memory (slice_get all v)) true (back_of ks (v ∷ []) h)).0

      by : (o : Option ℕ) → scalar_of n v ≡ o → is_that x o ≡ false
      by None e = refl
      by (Some y) e = absurd (outside v y e inside)

  idle_name : (x : ℕ) (l : LvalueTree) (ks : List ℕ) → In (with_named_variable l ks) → names_it n x l ≡ false
  idle_name x (Named (object.Automatic v) of) ks h = kept_name x v ks h
  idle_name x (Named (object.Static i) of) ks h = refl
  idle_name x (Named (object.Literal i) of) ks h = refl
  idle_name x (Target of e) ks h = refl
  idle_name x (Element of a b) ks h = refl
  idle_name x (ElementFrom of a b) ks h = refl

  mutual
    -- An expression that may be skipped writes no scalar.
    pub idle : (x : ℕ) (e : RvalueTree) (ks : List ℕ) → In (keeps true e ks) → writes n x e ≡ false
    idle x (Constant z t) ks h = refl
    idle x Null ks h = refl
    idle x (Load s l) ks h = idle_in x l ks h
    idle x (Decay l) ks h = idle_in x l ks h
    idle x (AddressOf l) ks h = idle_in x l (with_named_variable l ks) h
    idle x (Convert t e) ks h = idle x e ks h
    idle x (Discard e) ks h = idle x e ks h
    idle x (Signed o t e) ks h = idle x e ks h
    idle x (Not e) ks h = idle x e ks h
    idle x (Arithmetic o t a b) ks h = no_two (writes n x a) (writes n x b) (idle x a ks (before true b (keeps true a ks) h)) (idle x b (keeps true a ks) h)
    idle x (Compare o t a b) ks h = no_two (writes n x a) (writes n x b) (idle x a ks (before true b (keeps true a ks) h)) (idle x b (keeps true a ks) h)
    idle x (ComparePointers o a b) ks h = no_two (writes n x a) (writes n x b) (idle x a ks (before true b (keeps true a ks) h)) (idle x b (keeps true a ks) h)
    idle x (Move d of a b) ks h = no_two (writes n x a) (writes n x b) (idle x a ks (before true b (keeps true a ks) h)) (idle x b (keeps true a ks) h)
    idle x (MoveFrom a of b) ks h = no_two (writes n x a) (writes n x b) (idle x a ks (before true b (keeps true a ks) h)) (idle x b (keeps true a ks) h)
    idle x (Difference of a b) ks h = no_two (writes n x a) (writes n x b) (idle x a ks (before true b (keeps true a ks) h)) (idle x b (keeps true a ks) h)
    idle x (And a b) ks h = no_two (writes n x a) (writes n x b) (idle x a ks (before true b (keeps true a ks) h)) (idle x b (keeps true a ks) h)
    idle x (Or a b) ks h = no_two (writes n x a) (writes n x b) (idle x a ks (before true b (keeps true a ks) h)) (idle x b (keeps true a ks) h)
    idle x (Conditional c a b) ks h =
        let behind_a = before true b (keeps true a (keeps true c ks)) h in
        no_three (writes n x c) (writes n x a) (writes n x b) (idle x c ks (before true a (keeps true c ks) behind_a)) (idle x a (keeps true c ks) behind_a) (idle x b (keeps true a (keeps true c ks)) h)
    idle x (Comma a b) ks h = no_two (writes n x a) (writes n x b) (idle x a ks (before true b (keeps true a ks) h)) (idle x b (keeps true a ks) h)
    idle x (Assign s l e) ks h = let k = before true e (kept_in true l (with_named_variable l ks)) h in no_three (names_it n x l) (writes_within n x l) (writes n x e) (idle_name x l ks (before_in true l (with_named_variable l ks) k)) (idle_in x l (with_named_variable l ks) k) (idle x e (kept_in true l (with_named_variable l ks)) h)
    idle x (Update o t u l e) ks h = let k = before true e (kept_in true l (with_named_variable l ks)) h in no_three (names_it n x l) (writes_within n x l) (writes n x e) (idle_name x l ks (before_in true l (with_named_variable l ks) k)) (idle_in x l (with_named_variable l ks) k) (idle x e (kept_in true l (with_named_variable l ks)) h)
    idle x (UpdatePointer d of l e) ks h =
        let k = before true e (kept_in true l (with_named_variable l ks)) h in no_three (names_it n x l) (writes_within n x l) (writes n x e) (idle_name x l ks (before_in true l (with_named_variable l ks) k)) (idle_in x l (with_named_variable l ks) k) (idle x e (kept_in true l (with_named_variable l ks)) h)
    idle x (Step d g t u l) ks h = no_two (names_it n x l) (writes_within n x l) (idle_name x l ks (before_in true l (with_named_variable l ks) h)) (idle_in x l (with_named_variable l ks) h)
    idle x (StepPointer d g of l) ks h = no_two (names_it n x l) (writes_within n x l) (idle_name x l ks (before_in true l (with_named_variable l ks) h)) (idle_in x l (with_named_variable l ks) h)
    idle x (Call c args) ks h = idle_all x args ks h

    idle_in : (x : ℕ) (l : LvalueTree) (ks : List ℕ) → In (kept_in true l ks) → writes_within n x l ≡ false
    idle_in x (Named o of) ks h = refl
    idle_in x (Target of e) ks h = idle x e ks h
    idle_in x (Element of a b) ks h = no_two (writes n x a) (writes n x b) (idle x a ks (before true b (keeps true a ks) h)) (idle x b (keeps true a ks) h)
    idle_in x (ElementFrom of a b) ks h = no_two (writes n x a) (writes n x b) (idle x a ks (before true b (keeps true a ks) h)) (idle x b (keeps true a ks) h)

    idle_all : (x : ℕ) (args : ArgumentTrees) (ks : List ℕ) → In (kept_in_arguments true args ks) → writes_any n x args ≡ false
    idle_all x none ks h = refl
    idle_all x (first e rest) ks h = no_two (writes n x e) (writes_any n x rest) (idle x e ks (before_all true rest (keeps true e ks) h)) (idle_all x rest (keeps true e ks) h)

  mutual
    -- An expression writes a scalar only where that may not be skipped.
    pub sure : (e : RvalueTree) (ks : List ℕ) → In (keeps false e ks) → IsSure n e
    sure (Constant z t) ks h = tt
    sure Null ks h = tt
    sure (Load s l) ks h = sure_in l ks h
    sure (Decay l) ks h = sure_in l ks h
    sure (AddressOf l) ks h = sure_in l (with_named_variable l ks) h
    sure (Convert t e) ks h = sure e ks h
    sure (Discard e) ks h = sure e ks h
    sure (Signed o t e) ks h = sure e ks h
    sure (Not e) ks h = sure e ks h
    sure (Arithmetic o t a b) ks h = (sure a ks (before false b (keeps false a ks) h), sure b (keeps false a ks) h)
    sure (Compare o t a b) ks h = (sure a ks (before false b (keeps false a ks) h), sure b (keeps false a ks) h)
    sure (ComparePointers o a b) ks h = (sure a ks (before false b (keeps false a ks) h), sure b (keeps false a ks) h)
    sure (Move d of a b) ks h = (sure a ks (before false b (keeps false a ks) h), sure b (keeps false a ks) h)
    sure (MoveFrom a of b) ks h = (sure a ks (before false b (keeps false a ks) h), sure b (keeps false a ks) h)
    sure (Difference of a b) ks h = (sure a ks (before false b (keeps false a ks) h), sure b (keeps false a ks) h)
    sure (And a b) ks h = (sure a ks (before true b (keeps false a ks) h), λ x. idle x b (keeps false a ks) h)
    sure (Or a b) ks h = (sure a ks (before true b (keeps false a ks) h), λ x. idle x b (keeps false a ks) h)
    sure (Conditional c a b) ks h =
        let behind_a = before true b (keeps true a (keeps false c ks)) h in
        (sure c ks (before true a (keeps false c ks) behind_a), λ x. idle x a (keeps false c ks) behind_a, λ x. idle x b (keeps true a (keeps false c ks)) h)
    sure (Comma a b) ks h = (sure a ks (before false b (keeps false a ks) h), sure b (keeps false a ks) h)
    sure (Assign s l e) ks h = (sure_in l ks (before false e (kept_in false l ks) h), sure e (kept_in false l ks) h)
    sure (Update o t u l e) ks h = (sure_in l ks (before false e (kept_in false l ks) h), sure e (kept_in false l ks) h)
    sure (UpdatePointer d of l e) ks h = (sure_in l ks (before false e (kept_in false l ks) h), sure e (kept_in false l ks) h)
    sure (Step d g t u l) ks h = sure_in l ks h
    sure (StepPointer d g of l) ks h = sure_in l ks h
    sure (Call c args) ks h = sure_all args ks h

    sure_in : (l : LvalueTree) (ks : List ℕ) → In (kept_in false l ks) → IsSurePlace n l
    sure_in (Named o of) ks h = tt
    sure_in (Target of e) ks h = sure e ks h
    sure_in (Element of a b) ks h = (sure a ks (before false b (keeps false a ks) h), sure b (keeps false a ks) h)
    sure_in (ElementFrom of a b) ks h = (sure a ks (before false b (keeps false a ks) h), sure b (keeps false a ks) h)

    sure_all : (args : ArgumentTrees) (ks : List ℕ) → In (kept_in_arguments false args ks) → AreSure n args
    sure_all none ks h = tt
    sure_all (first e rest) ks h = (sure e ks (before_all false rest (keeps false e ks) h), sure_all rest (keeps false e ks) h)
