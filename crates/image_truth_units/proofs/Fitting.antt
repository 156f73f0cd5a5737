-- What declarators of a well-typed function write fits their objects.
use Rattle.std.proofs.Common.{◌≡◌, ℕ, ◌+◌, Bool, true, false, Option, Some, None, List, [], ◌∷◌, slice_get, refl, subst}
use Rattle.std.specs.Prelude.{nat_le, nat_lt}
use Rattle.std.specs.List.{AllByRecursion}
use Rattle.std.specs.Option.{option_map_or}
use Rattle.c_tree.specs.declared.types.IntegerType.{IntegerType}
use Rattle.c_tree.specs.declared.types.IntegerType.TheVariants.{Char}
use Rattle.c_tree.specs.declared.object_type.ObjectType.{ObjectType}
use Rattle.c_tree.specs.declared.object_type.ObjectType.TheVariants as of-object
use Rattle.c_tree.specs.TypedStatements as statement
use Rattle.c_tree.specs.TypedStatements.{InitialTree, Zero, Scalar as scalar-initial, Elements, Literal, DeclaredTree, TypedStartTree, Nothing, Value, Declares, TypedStatementTree, Block, Declaration, Empty, Run, If, IfElse, While, DoWhile, For, Switch, Break, Continue, Return, TypedStatementTrees, case, default}
use Rattle.c_tree.specs.Programs.{AutomaticTree, TypedFunctionTree, ProgramTree}
use Rattle.c_type_laws.specs.Expressions.{kind_of}
use Rattle.c_type_laws.specs.Kinds.{is_scalar}
use Rattle.c_type_laws.specs.Statements.{same_spot, tested_type, is_label, is_switch, may_stand, initialises, declares_as, is_declared, are_declared, is_start, is_step, is_condition, is_statement, are_statements}
use Rattle.c_type_laws.specs.Objects.{is_kept_array}
use Rattle.graph_build_names.specs.Names.{Names, scalar_of}
use Rattle.graph_build_statements.specs.Declaring.{object_type_of}
use Rattle.base_laws.proofs.Booleans.{four_true, three_true, two_true}

-- What is written fits its object.
abbrev pub Fits : Option ℕ → ObjectType → InitialTree → Type 0
Fits (Some y) of (Elements all) = ⊥
Fits None (of-object.Scalar s) (Elements all) = ⊥
Fits None (of-object.Array s count) (scalar-initial e) = ⊥
Fits o of i = Unit {0}

module _ (names : Names) (program : ProgramTree) where
  abbrev pub DeclaratorFits : DeclaredTree → Type 0
  DeclaratorFits d = Fits (scalar_of names d.variable) (object_type_of program d.variable) d.initial

  abbrev pub DeclaratorsFit : List DeclaredTree → Type 0
  DeclaratorsFit all = AllByRecursion DeclaratorFits all

  abbrev pub StartFits : TypedStartTree → Type 0
  StartFits Nothing = Unit {0}
  StartFits (Value spot e) = Unit {0}
  StartFits (Declares all) = DeclaratorsFit all

  abbrev mutual
    -- so it does in a statement
    pub StatementFits : TypedStatementTree → Type 0
    StatementFits (Block all) = StatementsFit all
    StatementFits (Declaration all) = DeclaratorsFit all
    StatementFits (Empty spot) = Unit {0}
    StatementFits (Run spot e) = Unit {0}
    StatementFits (If spot e s) = StatementFits s
    StatementFits (IfElse spot e s r) = StatementFits s × StatementFits r
    StatementFits (While spot e s) = StatementFits s
    StatementFits (DoWhile s spot e) = StatementFits s
    StatementFits (For begin spot e step s) = StartFits begin × StatementFits s
    StatementFits (Switch spot e all) = StatementsFit all
    StatementFits (Break spot) = Unit {0}
    StatementFits (Continue spot) = Unit {0}
    StatementFits (Return spot e) = Unit {0}

    pub StatementsFit : TypedStatementTrees → Type 0
    StatementsFit statement.none = Unit {0}
    StatementsFit (statement.first s rest) = StatementFits s × StatementsFit rest
    StatementsFit (case z rest) = StatementsFit rest
    StatementsFit (default rest) = StatementsFit rest

module _ (p : ProgramTree) (f : TypedFunctionTree) (names : Names) (arrays : (v : ℕ) (a : AutomaticTree) → slice_get p.automatics v ≡ Some a → is_kept_array a.in_memory a.of ≡ true)
    (outside : (v k : ℕ) (a : AutomaticTree) → scalar_of names v ≡ Some k → slice_get p.automatics v ≡ Some a → a.in_memory ≡ false) where
  no_array : (b : Bool) (of : ObjectType) (s : _) (count : ℕ) → of ≡ of-object.Array s count → is_kept_array b of ≡ true → b ≡ false → ⊥
  no_array true of s count e h off = cc
  no_array false of s count e h off = by (subst (λ o. is_kept_array false o ≡ true) e h)
    where
      by : is_kept_array false (of-object.Array s count) ≡ true → ⊥
      by h = let k = two_true (nat_le 1 count) false h in cc

  fits_by : (d : DeclaredTree) (of : ObjectType) (i : InitialTree) (a : AutomaticTree) → slice_get p.automatics d.variable ≡ Some a → a.of ≡ of → (r : Option ℕ) → scalar_of names d.variable ≡ r → initialises p f of i ≡ true → Fits r of i
  fits_by d (of-object.Scalar s) (Elements all) a is same (Some y) e h = cc
  fits_by d (of-object.Array s count) (Elements all) a is same (Some y) e h = no_array a.in_memory a.of s count same (arrays d.variable a is) (outside d.variable y a e is)
  fits_by d (of-object.Scalar s) (Elements all) a is same None e h = cc
  fits_by d (of-object.Array s count) (Elements all) a is same None e h = tt
  fits_by d (of-object.Array s count) (scalar-initial x) a is same None e h = cc
  fits_by d (of-object.Array s count) (scalar-initial x) a is same (Some y) e h = tt
  fits_by d (of-object.Scalar s) (scalar-initial x) a is same None e h = tt
  fits_by d (of-object.Scalar s) (scalar-initial x) a is same (Some y) e h = tt
  fits_by d (of-object.Scalar s) Zero a is same None e h = tt
  fits_by d (of-object.Array s count) Zero a is same None e h = tt
  fits_by d (of-object.Scalar s) Zero a is same (Some y) e h = tt
  fits_by d (of-object.Array s count) Zero a is same (Some y) e h = tt
  fits_by d (of-object.Scalar s) (Literal k) a is same None e h = tt
  fits_by d (of-object.Array s count) (Literal k) a is same None e h = tt
  fits_by d (of-object.Scalar s) (Literal k) a is same (Some y) e h = tt
  fits_by d (of-object.Array s count) (Literal k) a is same (Some y) e h = tt

  declared_by : (d : DeclaredTree) (r : Option AutomaticTree) → slice_get p.automatics d.variable ≡ r → declares_as p f d r ≡ true →
      Fits (scalar_of names d.variable) (option_map_or (λ (a : AutomaticTree). a.of) r (of-object.Array (record { base = Char; stars = 0 }) 0)) d.initial
  declared_by d None is h = cc
  declared_by d (Some a) is h = fits_by d a.of d.initial a is refl (scalar_of names d.variable) refl (two_true (same_spot d.spot a.spot) (initialises p f a.of d.initial) h).1

  declarator_fits : (d : DeclaredTree) → is_declared p f d ≡ true → DeclaratorFits names p d
  declarator_fits d h =
      declared_by d (slice_get p.automatics d.variable) refl (three_true (nat_le (f.first_variable + f.parameters) d.variable) (nat_lt d.variable (f.first_variable + f.variables)) (declares_as p f d (slice_get p.automatics d.variable)) h).2

  declarators_fit : (all : List DeclaredTree) → are_declared p f all ≡ true → DeclaratorsFit names p all
  declarators_fit [] h = tt
  declarators_fit (d ∷ more) h = let b = two_true (is_declared p f d) (are_declared p f more) h in (declarator_fits d b.0, declarators_fit more b.1)

  start_fits : (begin : TypedStartTree) → is_start p f begin ≡ true → StartFits names p begin
  start_fits Nothing h = tt
  start_fits (Value spot e) h = tt
  start_fits (Declares all) h = declarators_fit all h

  mutual
    pub statement_fits : (b c : Bool) (s : TypedStatementTree) → is_statement p f b c s ≡ true → StatementFits names p s
    statement_fits b c (Block all) h = statements_fit b c None all h
    statement_fits b c (Declaration all) h = declarators_fit all h
    statement_fits b c (Empty spot) h = tt
    statement_fits b c (Run spot e) h = tt
    statement_fits b c (If spot e s) h = statement_fits b c s (two_true (is_scalar (kind_of p f e)) (is_statement p f b c s) h).1
    statement_fits b c (IfElse spot e s r) h = (let t = three_true (is_scalar (kind_of p f e)) (is_statement p f b c s) (is_statement p f b c r) h in (statement_fits b c s t.1, statement_fits b c r t.2))
    statement_fits b c (While spot e s) h = statement_fits true true s (two_true (is_scalar (kind_of p f e)) (is_statement p f true true s) h).1
    statement_fits b c (DoWhile s spot e) h = statement_fits true true s (two_true (is_scalar (kind_of p f e)) (is_statement p f true true s) h).1
    statement_fits b c (For begin spot e step s) h = (let t = four_true (is_start p f begin) (is_condition p f e) (is_step p f step) (is_statement p f true true s) h in (start_fits begin t.0, statement_fits true true s t.3))
    statement_fits b c (Switch spot e all) h = statements_fit true c (tested_type (kind_of p f e)) all (two_true (is_switch (tested_type (kind_of p f e))) (are_statements p f true c (tested_type (kind_of p f e)) all) h).1
    statement_fits b c (Break spot) h = tt
    statement_fits b c (Continue spot) h = tt
    statement_fits b c (Return spot e) h = tt

    pub statements_fit : (b c : Bool) (o : Option IntegerType) (all : TypedStatementTrees) → are_statements p f b c o all ≡ true → StatementsFit names p all
    statements_fit b c o statement.none h = tt
    statements_fit b c o (statement.first s rest) h = (let t = three_true (may_stand o s) (is_statement p f b c s) (are_statements p f b c o rest) h in (statement_fits b c s t.1, statements_fit b c o rest t.2))
    statements_fit b c o (case z rest) h = statements_fit b c o rest (two_true (is_label o z) (are_statements p f b c o rest) h).1
    statements_fit b c o (default rest) h = statements_fit b c o rest (two_true (is_switch o) (are_statements p f b c o rest) h).1
