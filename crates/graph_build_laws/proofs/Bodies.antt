-- The statements of a well-formed function name what is there.
use Rattle.std.proofs.Common.{◌≡◌, ℕ, ◌+◌, ◌<◌, inl, inr, Bool, true, false, not, Option, Some, None, List, [], ◌∷◌, length, slice_get, refl, sym, subst, arith}
use Rattle.std.specs.Prelude.{◌&&◌, nat_le, nat_lt}
use Rattle.std.specs.Option.{option_map_or}
use Rattle.std.proofs.lemmas.Bool.Decides.{nat_tests}
use Rattle.std.proofs.lemmas.Option.{slice_get_within}
use Rattle.c_tree.specs.declared.types.IntegerType.{IntegerType}
use Rattle.c_tree.specs.declared.types.IntegerType.TheVariants.{Char}
use Rattle.c_tree.specs.declared.object_type.Scalar.{Scalar}
use Rattle.c_tree.specs.declared.object_type.ObjectType.{ObjectType}
use Rattle.c_tree.specs.declared.object_type.ObjectType.TheVariants as of-object
use Rattle.c_tree.specs.declared.object_type.Object.TheVariants as object
use Rattle.c_tree.specs.TypedExpressions.{RvalueTree}
use Rattle.c_tree.specs.TypedStatements as statement
use Rattle.c_tree.specs.TypedStatements.{InitialTree, Zero, Scalar as scalar-initial, Elements, Literal, DeclaredTree, TypedStartTree, Nothing, Value, Declares, StepTree, TypedStatementTree, Block, Declaration, Empty, Run, If, IfElse, While, DoWhile, For, Switch, Break, Continue, Return, TypedStatementTrees, case, default}
use Rattle.c_tree.specs.Programs.{AutomaticTree, LiteralTree, TypedFunctionTree}
use Rattle.c_places.specs.Memory.{keeps, kept_values, kept_initial, kept_declared, kept_start, kept_option, kept_step, kept_by, kept_by_all}
use Rattle.c_type_rules.specs.Types.{loaded_type}
use Rattle.c_type_laws.specs.Kind.{Kind, Wrong, NullPointer, Of}
use Rattle.c_type_laws.specs.Kinds.{is_of, is_typed, is_scalar}
use Rattle.c_type_laws.specs.Expressions.{kind_of}
use Rattle.c_type_laws.specs.Statements.{tested_type, is_label, is_switch, may_stand, is_void, same_spot, literal_fits, are_elements, initialises, declares_as, is_declared, are_declared, is_start, is_step, is_condition, is_returned, is_statement, are_statements}
use Rattle.graph_build_names.specs.Names.{scalar_of, object_of}
use Rattle.graph_build_runs.proofs.Shapes.{typed_of, scalar_typed, two_true, three_true, four_true}
use Rattle.graph_build_laws.proofs.Kept.{InIt, front}
use Rattle.graph_build_laws.proofs.Declared.{values_front, declarators_front, option_front, step_front, kept_front, kept_all_front}
use Rattle.graph_build_laws.proofs.Naming.{IsThere, HasHomes, expression_names}
use Rattle.graph_build_laws.proofs.Values.{Setting, E}
use Rattle.graph_build_laws.proofs.Declarators.{ElementsName, InitialNames, InitialFits, HasObject, DeclaratorNames, DeclaratorsName}
use Rattle.graph_build_laws.proofs.GraphProgramStatements.{StartNames, OptionNames, StepNames, StatementNames, StatementsName}
use Rattle.base_laws.proofs.Numbers.{at_most}

switch_typed : (kind : Kind) → is_switch (tested_type kind) ≡ true → is_typed kind ≡ true
switch_typed Wrong h = cc
switch_typed NullPointer h = refl
switch_typed (Of t) h = refl

-- a variable behind the parameters is one of the function's
own_variable : (first parameters variables v : ℕ) → nat_le (first + parameters) v ≡ true → nat_lt v (first + variables) ≡ true → nat_le first v && nat_lt v (first + variables) ≡ true
own_variable first parameters variables v h k = grind (arith, nat_tests)

module _ (x : Setting) (f : TypedFunctionTree) (have : HasHomes x.program f x.unit.graphs x.names) (kept : (v j : ℕ) → object_of x.names v ≡ Some j → HasObject x v j) (bytes : length x.unit.array_bytes ≡ length x.program.array_literals) where
  abbrev K : RvalueTree → Kind
  K e = kind_of x.program f e

  abbrev all : List AutomaticTree
  all = x.program.automatics

  abbrev M : List ℕ → Type 0
  M ks = InIt all ks

  named_by : (e : RvalueTree) (ks : List ℕ) → is_typed (K e) ≡ true → M (keeps false e ks) → E x e
  named_by e ks h m = expression_names x.program f x.unit.graphs x.names have false e ks h m

  elements_named : (s : Scalar) (es : List RvalueTree) (ks : List ℕ) → are_elements x.program f s es ≡ true → M (kept_values es ks) → ElementsName x es
  elements_named s [] ks h m = tt
  elements_named s (e ∷ more) ks h m =
      let b = two_true (is_of (K e) (loaded_type s)) (are_elements x.program f s more) h in
      (named_by e ks (typed_of (K e) (loaded_type s) b.0) (values_front all more (keeps false e ks) m), elements_named s more (keeps false e ks) b.1 m)

  -- what a well-typed declarator writes names what is there,
  initial_named : (of : ObjectType) (i : InitialTree) (ks : List ℕ) → initialises x.program f of i ≡ true → M (kept_initial i ks) → InitialNames x i
  initial_named of Zero ks h m = tt
  initial_named (of-object.Scalar s) (scalar-initial e) ks h m = named_by e ks (typed_of (K e) (loaded_type s) h) m
  initial_named (of-object.Array s k) (scalar-initial e) ks h m = cc
  initial_named (of-object.Scalar s) (Elements es) ks h m = cc
  initial_named (of-object.Array s k) (Elements es) ks h m = elements_named s es ks (two_true (nat_le (length es) k) (are_elements x.program f s es) h).1 m
  initial_named of (Literal k) ks h m = tt

  -- and is no more than its object has
  literal_within : (k : ℕ) (s : Scalar) (count : ℕ) (o : Option LiteralTree) → slice_get x.program.array_literals k ≡ o → literal_fits o s count ≡ true → k < length x.unit.array_bytes
  literal_within k s count None e h = cc
  literal_within k s count (Some l) e h = let lt = slice_get_within x.program.array_literals k l e in subst (λ m. k < m) (sym bytes) lt

  initial_fits : (of : ObjectType) (i : InitialTree) → initialises x.program f of i ≡ true → InitialFits x of i
  initial_fits (of-object.Scalar s) Zero h = tt
  initial_fits (of-object.Array s k) Zero h = tt
  initial_fits (of-object.Scalar s) (scalar-initial e) h = tt
  initial_fits (of-object.Array s k) (scalar-initial e) h = tt
  initial_fits (of-object.Scalar s) (Elements es) h = tt
  initial_fits (of-object.Array s k) (Elements es) h = at_most (length es) k (two_true (nat_le (length es) k) (are_elements x.program f s es) h).0
  initial_fits (of-object.Scalar s) (Literal k) h = cc
  initial_fits (of-object.Array s count) (Literal k) h = literal_within k s count (slice_get x.program.array_literals k) refl h

  -- a declarator
  object_kept : (v : ℕ) → IsThere x.program x.unit.graphs x.names (object.Automatic v) → scalar_of x.names v ≡ None → (j : ℕ) × (object_of x.names v ≡ Some j) × HasObject x v j
  object_kept v (inl k) e = let no = k.1 in cc
  object_kept v (inr k) e = (k.0, k.1, kept v k.0 k.1)

  declared_by : (d : DeclaredTree) (ks : List ℕ) (r : Option AutomaticTree) → slice_get x.program.automatics d.variable ≡ r → declares_as x.program f d r ≡ true → M (kept_initial d.initial ks) →
      InitialNames x d.initial × InitialFits x (option_map_or (λ (a : AutomaticTree). a.of) r (of-object.Array (record { base = Char; stars = 0 }) 0)) d.initial
  declared_by d ks None is h m = cc
  declared_by d ks (Some a) is h m = let t = (two_true (same_spot d.spot a.spot) (initialises x.program f a.of d.initial) h).1 in (initial_named a.of d.initial ks t m, initial_fits a.of d.initial t)

  declarator_named : (d : DeclaredTree) (ks : List ℕ) → is_declared x.program f d ≡ true → M (kept_initial d.initial ks) → DeclaratorNames x d
  declarator_named d ks h m =
      let c = three_true (nat_le (f.first_variable + f.parameters) d.variable) (nat_lt d.variable (f.first_variable + f.variables)) (declares_as x.program f d (slice_get x.program.automatics d.variable)) h in
      let r = declared_by d ks (slice_get x.program.automatics d.variable) refl c.2 m in
      record { names = r.0; fits = r.1; object = λ e. object_kept d.variable (have.homes d.variable (own_variable f.first_variable f.parameters f.variables d.variable c.0 c.1)) e }

  declarators_named : (ds : List DeclaredTree) (ks : List ℕ) → are_declared x.program f ds ≡ true → M (kept_declared ds ks) → DeclaratorsName x ds
  declarators_named [] ks h m = tt
  declarators_named (d ∷ more) ks h m =
      let b = two_true (is_declared x.program f d) (are_declared x.program f more) h in (declarator_named d ks b.0 (declarators_front all more (kept_initial d.initial ks) m), declarators_named more (kept_initial d.initial ks) b.1 m)

  begin_named : (begin : TypedStartTree) (ks : List ℕ) → is_start x.program f begin ≡ true → M (kept_start begin ks) → StartNames x begin
  begin_named Nothing ks h m = tt
  begin_named (Value spot e) ks h m = named_by e ks h m
  begin_named (Declares ds) ks h m = declarators_named ds ks h m

  condition_named : (e : Option RvalueTree) (ks : List ℕ) → is_condition x.program f e ≡ true → M (kept_option e ks) → OptionNames x e
  condition_named None ks h m = tt
  condition_named (Some e) ks h m = named_by e ks (scalar_typed (K e) h) m

  step_named : (p : Option StepTree) (ks : List ℕ) → is_step x.program f p ≡ true → M (kept_step p ks) → StepNames x p
  step_named None ks h m = tt
  step_named (Some p) ks h m = named_by p.value ks h m

  result_named : (e : Option RvalueTree) (ks : List ℕ) → is_returned x.program f e ≡ true → M (kept_option e ks) → OptionNames x e
  result_named None ks h m = tt
  result_named (Some e) ks h m = named_by e ks (typed_of (K e) f.result (two_true (not (is_void f.result)) (is_of (K e) f.result) h).1) m

  abbrev S : Bool → Bool → TypedStatementTree → Bool
  S b c s = is_statement x.program f b c s

  mutual
    -- A statement names what is there,
    pub named_in : (b c : Bool) (s : TypedStatementTree) (ks : List ℕ) → S b c s ≡ true → M (kept_by s ks) → StatementNames x s
    named_in b c (Block ss) ks h m = named_all b c None ss ks h m
    named_in b c (Declaration ds) ks h m = declarators_named ds ks h m
    named_in b c (Empty spot) ks h m = tt
    named_in b c (Run spot e) ks h m = named_by e ks h m
    named_in b c (If spot e s) ks h m = (let t = two_true (is_scalar (K e)) (S b c s) h in (named_by e ks (scalar_typed (K e) t.0) (kept_front all s (keeps false e ks) m), named_in b c s (keeps false e ks) t.1 m))
    named_in b c (IfElse spot e s r) ks h m = (
        let t = three_true (is_scalar (K e)) (S b c s) (S b c r) h in
        let ks1 = keeps false e ks in
        let m1 = kept_front all r (kept_by s ks1) m in
        (named_by e ks (scalar_typed (K e) t.0) (kept_front all s ks1 m1), named_in b c s ks1 t.1 m1, named_in b c r (kept_by s ks1) t.2 m))
    named_in b c (While spot e s) ks h m = (
        let t = two_true (is_scalar (K e)) (S true true s) h in (named_by e ks (scalar_typed (K e) t.0) (kept_front all s (keeps false e ks) m), named_in true true s (keeps false e ks) t.1 m))
    named_in b c (DoWhile s spot e) ks h m = (
        let t = two_true (is_scalar (K e)) (S true true s) h in (named_by e (kept_by s ks) (scalar_typed (K e) t.0) m, named_in true true s ks t.1 (front all false e (kept_by s ks) m)))
    named_in b c (For begin spot e step s) ks h m = (
        let t = four_true (is_start x.program f begin) (is_condition x.program f e) (is_step x.program f step) (S true true s) h in
        let ks1 = kept_start begin ks in
        let ks2 = kept_option e ks1 in
        let ks3 = kept_step step ks2 in
        let m3 = kept_front all s ks3 m in
        let m2 = step_front all step ks2 m3 in
        let m1 = option_front all e ks1 m2 in
        (begin_named begin ks t.0 m1, condition_named e ks1 t.1 m2, step_named step ks2 t.2 m3, named_in true true s ks3 t.3 m))
    named_in b c (Switch spot e ss) ks h m = (
        let o = tested_type (K e) in
        let t = two_true (is_switch o) (are_statements x.program f true c o ss) h in
        (named_by e ks (switch_typed (K e) t.0) (kept_all_front all ss (keeps false e ks) m), named_all true c o ss (keeps false e ks) t.1 m))
    named_in b c (Break spot) ks h m = tt
    named_in b c (Continue spot) ks h m = tt
    named_in b c (Return spot e) ks h m = result_named e ks h m

    -- and so do statements in order.
    pub named_all : (b c : Bool) (o : Option IntegerType) (ss : TypedStatementTrees) (ks : List ℕ) → are_statements x.program f b c o ss ≡ true → M (kept_by_all ss ks) → StatementsName x ss
    named_all b c o statement.none ks h m = tt
    named_all b c o (statement.first s rest) ks h m = (
        let t = three_true (may_stand o s) (S b c s) (are_statements x.program f b c o rest) h in
        let ks1 = kept_by s ks in
        (named_in b c s ks t.1 (kept_all_front all rest ks1 m), named_all b c o rest ks1 t.2 m))
    named_all b c o (case z rest) ks h m = named_all b c o rest ks (two_true (is_label o z) (are_statements x.program f b c o rest) h).1 m
    named_all b c o (default rest) ks h m = named_all b c o rest ks (two_true (is_switch o) (are_statements x.program f b c o rest) h).1 m
