-- Variables that are declared are numbered in the order of the text, and what is kept in memory within statements is.
use Rattle.std.proofs.Common.{◌≡◌, ℕ, ◌+◌, ◌≤◌, true, false, Option, Some, None, List, [], ◌∷◌, ◌++◌, length, refl, ap, ◌∙◌, arith}
use Rattle.std.specs.Prelude.{◌==◌, ◌&&◌}
use Rattle.std.proofs.lemmas.List.{length-append}
use Rattle.c_tree.specs.TypedExpressions.{RvalueTree}
use Rattle.c_tree.specs.TypedStatements as statement
use Rattle.c_tree.specs.TypedStatements.{InitialTree, Zero, Scalar, Elements, Literal, DeclaredTree, TypedStartTree, Nothing, Value, Declares, StepTree, TypedStatementTree, Block, Declaration, Empty, Run, If, IfElse, While, DoWhile, For, Switch, Break, Continue, Return, TypedStatementTrees, case, default}
use Rattle.c_tree.specs.Programs.{AutomaticTree}
use Rattle.c_places.specs.Memory.{keeps, kept_values, kept_initial, kept_declared, kept_start, kept_option, kept_step, kept_by, kept_by_all}
use Rattle.c_type_laws.specs.Orders.{is_numbered}
use Rattle.c_type_laws.specs.Declarations.{declared_by, declared_by_start, declared_in, declared_in_all}
use Rattle.graph_build_runs.proofs.Shapes.{two_true}
use Rattle.graph_build_runs.proofs.Formed.{behind_declared, behind_start, behind}
use Rattle.graph_build_laws.proofs.Kept.{InIt, front}
use Rattle.base_laws.proofs.Numbers.{are_equal}

-- these are numbered from a first one on
abbrev pub AreNumbered : ℕ → List ℕ → Type 0
AreNumbered base vs = is_numbered base vs ≡ true

numbered_front : (base : ℕ) (xs ys : List ℕ) → AreNumbered base (xs ++ ys) → AreNumbered base xs
numbered_front base [] ys h = refl
numbered_front base (x ∷ xs) ys h = let b = two_true (x == base) (is_numbered (base + 1) (xs ++ ys)) h in both b.0 (numbered_front (base + 1) xs ys b.1)
  where
    both : (x == base) ≡ true → AreNumbered (base + 1) xs → AreNumbered base (x ∷ xs)
    both e g = ap (λ b. b && is_numbered (base + 1) xs) e ∙ g

numbered_last : (base : ℕ) (xs : List ℕ) (x : ℕ) → AreNumbered base (xs ++ x ∷ []) → x ≡ base + length xs
numbered_last base [] x h = let e = are_equal x base (two_true (x == base) true h).0 in omega (arith, e)
numbered_last base (y ∷ xs) x h = omega (arith, numbered_last (base + 1) xs x (two_true (y == base) (is_numbered (base + 1) (xs ++ x ∷ [])) h).1)

one_longer : (xs : List ℕ) (x : ℕ) → length (xs ++ x ∷ []) ≡ length xs + 1
one_longer xs x = length-append xs (x ∷ [])

module _ (base : ℕ) where
  -- what was declared before is numbered, too
  pub by_front : (all : List DeclaredTree) (vs : List ℕ) → AreNumbered base (declared_by all vs) → AreNumbered base vs
  by_front [] vs h = h
  by_front (d ∷ more) vs h = numbered_front base vs (d.variable ∷ []) (by_front more (vs ++ d.variable ∷ []) h)

  start_front : (begin : TypedStartTree) (vs : List ℕ) → AreNumbered base (declared_by_start begin vs) → AreNumbered base vs
  start_front Nothing vs h = h
  start_front (Value spot e) vs h = h
  start_front (Declares all) vs h = by_front all vs h

  mutual
    pub in_front : (s : TypedStatementTree) (vs : List ℕ) → AreNumbered base (declared_in s vs) → AreNumbered base vs
    in_front (Block all) vs h = all_front all vs h
    in_front (Declaration all) vs h = by_front all vs h
    in_front (Empty spot) vs h = h
    in_front (Run spot e) vs h = h
    in_front (If spot e s) vs h = in_front s vs h
    in_front (IfElse spot e s r) vs h = in_front s vs (in_front r (declared_in s vs) h)
    in_front (While spot e s) vs h = in_front s vs h
    in_front (DoWhile s spot e) vs h = in_front s vs h
    in_front (For begin spot e step s) vs h = start_front begin vs (in_front s (declared_by_start begin vs) h)
    in_front (Switch spot e all) vs h = all_front all vs h
    in_front (Break spot) vs h = h
    in_front (Continue spot) vs h = h
    in_front (Return spot e) vs h = h

    pub all_front : (all : TypedStatementTrees) (vs : List ℕ) → AreNumbered base (declared_in_all all vs) → AreNumbered base vs
    all_front statement.none vs h = h
    all_front (statement.first s rest) vs h = in_front s vs (all_front rest (declared_in s vs) h)
    all_front (case z rest) vs h = all_front rest vs h
    all_front (default rest) vs h = all_front rest vs h

  -- a variable that is declared has the number behind those before it
  pub declared_next : (d : DeclaredTree) (more : List DeclaredTree) (vs : List ℕ) → AreNumbered base (declared_by (d ∷ more) vs) → d.variable ≡ base + length vs
  declared_next d more vs h = numbered_last base vs d.variable (by_front more (vs ++ d.variable ∷ []) h)

-- declared variables become more
by_longer : (all : List DeclaredTree) (vs : List ℕ) → length vs ≤ length (declared_by all vs)
by_longer [] vs = omega arith
by_longer (d ∷ more) vs = omega (arith, one_longer vs d.variable, by_longer more (vs ++ d.variable ∷ []))

start_longer : (begin : TypedStartTree) (vs : List ℕ) → length vs ≤ length (declared_by_start begin vs)
start_longer Nothing vs = omega arith
start_longer (Value spot e) vs = omega arith
start_longer (Declares all) vs = by_longer all vs

mutual
  pub in_longer : (s : TypedStatementTree) (vs : List ℕ) → length vs ≤ length (declared_in s vs)
  in_longer (Block all) vs = all_longer all vs
  in_longer (Declaration all) vs = by_longer all vs
  in_longer (Empty spot) vs = omega arith
  in_longer (Run spot e) vs = omega arith
  in_longer (If spot e s) vs = in_longer s vs
  in_longer (IfElse spot e s r) vs = omega (arith, in_longer s vs, in_longer r (declared_in s vs))
  in_longer (While spot e s) vs = in_longer s vs
  in_longer (DoWhile s spot e) vs = in_longer s vs
  in_longer (For begin spot e step s) vs = omega (arith, start_longer begin vs, in_longer s (declared_by_start begin vs))
  in_longer (Switch spot e all) vs = all_longer all vs
  in_longer (Break spot) vs = omega arith
  in_longer (Continue spot) vs = omega arith
  in_longer (Return spot e) vs = omega arith

  all_longer : (all : TypedStatementTrees) (vs : List ℕ) → length vs ≤ length (declared_in_all all vs)
  all_longer statement.none vs = omega arith
  all_longer (statement.first s rest) vs = omega (arith, in_longer s vs, all_longer rest (declared_in s vs))
  all_longer (case z rest) vs = all_longer rest vs
  all_longer (default rest) vs = all_longer rest vs

module _ (base : ℕ) where
  -- the first number above those that live is at most the next one that is declared
  declared_below : (all : List DeclaredTree) (vs : List ℕ) (low : ℕ) → low ≤ base + length vs → AreNumbered base (declared_by all vs) → behind_declared low all ≤ base + length (declared_by all vs)
  declared_below [] vs low le h = le
  declared_below (d ∷ more) vs low le h = declared_below more (vs ++ d.variable ∷ []) (d.variable + 1) (omega (arith, declared_next base d more vs h, one_longer vs d.variable)) h

  pub start_below : (begin : TypedStartTree) (vs : List ℕ) (low : ℕ) → low ≤ base + length vs → AreNumbered base (declared_by_start begin vs) → behind_start low begin ≤ base + length (declared_by_start begin vs)
  start_below Nothing vs low le h = le
  start_below (Value spot e) vs low le h = le
  start_below (Declares all) vs low le h = declared_below all vs low le h

  pub statement_below : (s : TypedStatementTree) (vs : List ℕ) (low : ℕ) → low ≤ base + length vs → AreNumbered base (declared_in s vs) → behind low s ≤ base + length (declared_in s vs)
  statement_below (Declaration all) vs low le h = declared_below all vs low le h
  statement_below (Block all) vs low le h = omega (arith, le, in_longer (Block all) vs)
  statement_below (Empty spot) vs low le h = le
  statement_below (Run spot e) vs low le h = le
  statement_below (If spot e s) vs low le h = omega (arith, le, in_longer (If spot e s) vs)
  statement_below (IfElse spot e s r) vs low le h = omega (arith, le, in_longer (IfElse spot e s r) vs)
  statement_below (While spot e s) vs low le h = omega (arith, le, in_longer (While spot e s) vs)
  statement_below (DoWhile s spot e) vs low le h = omega (arith, le, in_longer (DoWhile s spot e) vs)
  statement_below (For begin spot e step s) vs low le h = omega (arith, le, in_longer (For begin spot e step s) vs)
  statement_below (Switch spot e all) vs low le h = omega (arith, le, in_longer (Switch spot e all) vs)
  statement_below (Break spot) vs low le h = le
  statement_below (Continue spot) vs low le h = le
  statement_below (Return spot e) vs low le h = le

-- What stands in memory before a statement is among what does behind it.
module _ (all : List AutomaticTree) where
  abbrev M : List ℕ → Type 0
  M ks = InIt all ks

  pub values_front : (es : List RvalueTree) (ks : List ℕ) → M (kept_values es ks) → M ks
  values_front [] ks h = h
  values_front (e ∷ rest) ks h = front all false e ks (values_front rest (keeps false e ks) h)

  initial_front : (i : InitialTree) (ks : List ℕ) → M (kept_initial i ks) → M ks
  initial_front Zero ks h = h
  initial_front (Scalar e) ks h = front all false e ks h
  initial_front (Elements es) ks h = values_front es ks h
  initial_front (Literal n) ks h = h

  pub declarators_front : (ds : List DeclaredTree) (ks : List ℕ) → M (kept_declared ds ks) → M ks
  declarators_front [] ks h = h
  declarators_front (d ∷ more) ks h = initial_front d.initial ks (declarators_front more (kept_initial d.initial ks) h)

  begin_front : (begin : TypedStartTree) (ks : List ℕ) → M (kept_start begin ks) → M ks
  begin_front Nothing ks h = h
  begin_front (Value spot e) ks h = front all false e ks h
  begin_front (Declares ds) ks h = declarators_front ds ks h

  pub option_front : (e : Option RvalueTree) (ks : List ℕ) → M (kept_option e ks) → M ks
  option_front None ks h = h
  option_front (Some e) ks h = front all false e ks h

  pub step_front : (p : Option StepTree) (ks : List ℕ) → M (kept_step p ks) → M ks
  step_front None ks h = h
  step_front (Some p) ks h = front all false p.value ks h

  mutual
    pub kept_front : (s : TypedStatementTree) (ks : List ℕ) → M (kept_by s ks) → M ks
    kept_front (Block b) ks h = kept_all_front b ks h
    kept_front (Declaration ds) ks h = declarators_front ds ks h
    kept_front (Empty spot) ks h = h
    kept_front (Run spot e) ks h = front all false e ks h
    kept_front (If spot e s) ks h = front all false e ks (kept_front s (keeps false e ks) h)
    kept_front (IfElse spot e s r) ks h = front all false e ks (kept_front s (keeps false e ks) (kept_front r (kept_by s (keeps false e ks)) h))
    kept_front (While spot e s) ks h = front all false e ks (kept_front s (keeps false e ks) h)
    kept_front (DoWhile s spot e) ks h = kept_front s ks (front all false e (kept_by s ks) h)
    kept_front (For begin spot e step s) ks h =
        let a = kept_start begin ks in
        let b = kept_option e a in begin_front begin ks (option_front e a (step_front step b (kept_front s (kept_step step b) h)))
    kept_front (Switch spot e b) ks h = front all false e ks (kept_all_front b (keeps false e ks) h)
    kept_front (Break spot) ks h = h
    kept_front (Continue spot) ks h = h
    kept_front (Return spot e) ks h = option_front e ks h

    pub kept_all_front : (b : TypedStatementTrees) (ks : List ℕ) → M (kept_by_all b ks) → M ks
    kept_all_front statement.none ks h = h
    kept_all_front (statement.first s rest) ks h = kept_front s ks (kept_all_front rest (kept_by s ks) h)
    kept_all_front (case z rest) ks h = kept_all_front rest ks h
    kept_all_front (default rest) ks h = kept_all_front rest ks h
