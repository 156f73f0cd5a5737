-- A function's graph has no more names than the function weighs.
use Rattle.std.proofs.Common.{◌≡◌, ℕ, zero, suc, ◌+◌, ◌≤◌, Bool, true, false, Option, Some, None, List, [], ◌∷◌, ◌++◌, length, refl, sym, ap, ◌∙◌, subst, arith, if◌then◌else◌}
use Rattle.std.specs.Prelude.{max}
use Rattle.std.proofs.lemmas.List.{length-append}
use Rattle.c_tree.specs.TypedExpressions.{RvalueTree, Constant, Convert}
use Rattle.c_tree.specs.TypedStatements as statement
use Rattle.c_tree.specs.TypedStatements.{InitialTree, Zero, Scalar as scalar-initial, Elements, Literal, DeclaredTree, TypedStartTree, Nothing, Value, Declares, StepTree, TypedStatementTree, Block, Declaration, Empty, Run, If, IfElse, While, DoWhile, For, Switch, Break, Continue, Return, TypedStatementTrees, case, default}
use Rattle.c_tree.specs.Programs.{TypedFunctionTree, ProgramTree}
use Rattle.c_type_laws.specs.Nodes.{nodes, element_nodes, initial_nodes, declared_nodes, start_nodes, option_nodes, step_nodes, statement_nodes, statements_nodes}
use Rattle.c_type_laws.specs.Declarations.{declared_by, declared_by_start, declared_in, declared_in_all}
use Rattle.c_places.specs.Places.{numbers_from}
use Rattle.graph_build_layout.specs.declared.laid.Use.{Use}
use Rattle.graph_build_layout.specs.declared.laid.Use.TheVariants.{Anywhere, In, Nothing as Unused, Tested}
use Rattle.graph_build_names.specs.Names.{Names, names_of, scalar_of, pick}
use Rattle.graph_build_layout.specs.Layout.{laid}
use Rattle.graph_build_statements.specs.Coding.{Coding, begun}
use Rattle.graph_build_statements.specs.Reached.{bare, reached, elements_reached, initial_reached, declared_reached, start_reached, condition_reached, step_reached, result_reached, statement_reached, statements_reached}
use Rattle.graph_build.specs.Units.{scalars_among, add_if_some, variables_in, names_used, coding_of, is_again, block_count, function_coding, graph_of}
use Rattle.graph_build_laws.proofs.Written.{NamesFew}
use Rattle.graph_build_laws.proofs.Scalars.{names_few}
use Rattle.graph_build_laws.proofs.NamesAgain.{top_most}
use Rattle.graph_build_laws.proofs.SameSizes.{in_graph_of}
use Rattle.graph_build_laws.proofs.WellFormed.{KeepsLimits}
use Rattle.base_laws.proofs.Numbers.{not_less}

-- how many declarators statements have
abbrev pub begin_declares : TypedStartTree → ℕ
begin_declares Nothing = 0
begin_declares (Value spot e) = 0
begin_declares (Declares all) = length all

abbrev mutual
  pub declares : TypedStatementTree → ℕ
  declares (Block all) = all_declare all
  declares (Declaration all) = length all
  declares (Empty spot) = 0
  declares (Run spot e) = 0
  declares (If spot e s) = declares s
  declares (IfElse spot e s r) = declares s + declares r
  declares (While spot e s) = declares s
  declares (DoWhile s spot e) = declares s
  declares (For begin spot e step s) = begin_declares begin + declares s
  declares (Switch spot e all) = all_declare all
  declares (Break spot) = 0
  declares (Continue spot) = 0
  declares (Return spot e) = 0

  pub all_declare : TypedStatementTrees → ℕ
  all_declare statement.none = 0
  all_declare (statement.first s rest) = declares s + all_declare rest
  all_declare (case z rest) = all_declare rest
  all_declare (default rest) = all_declare rest

declared_count : (all : List DeclaredTree) (vs : List ℕ) → length (declared_by all vs) ≡ length vs + length all
declared_count [] vs = omega arith
declared_count (d ∷ more) vs = omega (arith, declared_count more (vs ++ d.variable ∷ []), length-append vs (d.variable ∷ []))

begin_count : (begin : TypedStartTree) (vs : List ℕ) → length (declared_by_start begin vs) ≡ length vs + begin_declares begin
begin_count Nothing vs = omega arith
begin_count (Value spot e) vs = omega arith
begin_count (Declares all) vs = declared_count all vs

mutual
  statement_count : (s : TypedStatementTree) (vs : List ℕ) → length (declared_in s vs) ≡ length vs + declares s
  statement_count (Block all) vs = statements_count all vs
  statement_count (Declaration all) vs = declared_count all vs
  statement_count (Empty spot) vs = omega arith
  statement_count (Run spot e) vs = omega arith
  statement_count (If spot e s) vs = statement_count s vs
  statement_count (IfElse spot e s r) vs = omega (arith, statement_count s vs, statement_count r (declared_in s vs))
  statement_count (While spot e s) vs = statement_count s vs
  statement_count (DoWhile s spot e) vs = statement_count s vs
  statement_count (For begin spot e step s) vs = omega (arith, begin_count begin vs, statement_count s (declared_by_start begin vs))
  statement_count (Switch spot e all) vs = statements_count all vs
  statement_count (Break spot) vs = omega arith
  statement_count (Continue spot) vs = omega arith
  statement_count (Return spot e) vs = omega arith

  statements_count : (all : TypedStatementTrees) (vs : List ℕ) → length (declared_in_all all vs) ≡ length vs + all_declare all
  statements_count statement.none vs = omega arith
  statements_count (statement.first s rest) vs = omega (arith, statement_count s vs, statements_count rest (declared_in s vs))
  statements_count (case z rest) vs = statements_count rest vs
  statements_count (default rest) vs = statements_count rest vs

-- a declarator has two nodes
declarators_most : (all : List DeclaredTree) → length all + length all ≤ declared_nodes all
declarators_most [] = omega arith
declarators_most (d ∷ more) = omega (arith, declarators_most more)

begin_most : (begin : TypedStartTree) → begin_declares begin ≤ start_nodes begin
begin_most Nothing = omega arith
begin_most (Value spot e) = omega arith
begin_most (Declares all) = omega (arith, declarators_most all)

mutual
  declares_most : (s : TypedStatementTree) → declares s ≤ statement_nodes s
  declares_most (Block all) = omega (arith, all_most all)
  declares_most (Declaration all) = omega (arith, declarators_most all)
  declares_most (Empty spot) = omega arith
  declares_most (Run spot e) = omega arith
  declares_most (If spot e s) = omega (arith, declares_most s)
  declares_most (IfElse spot e s r) = omega (arith, declares_most s, declares_most r)
  declares_most (While spot e s) = omega (arith, declares_most s)
  declares_most (DoWhile s spot e) = omega (arith, declares_most s)
  declares_most (For begin spot e step s) = omega (arith, begin_most begin, declares_most s)
  declares_most (Switch spot e all) = omega (arith, all_most all)
  declares_most (Break spot) = omega arith
  declares_most (Continue spot) = omega arith
  declares_most (Return spot e) = omega arith

  all_most : (all : TypedStatementTrees) → all_declare all ≤ statements_nodes all
  all_most statement.none = omega arith
  all_most (statement.first s rest) = omega (arith, declares_most s, all_most rest)
  all_most (case z rest) = omega (arith, all_most rest)
  all_most (default rest) = omega (arith, all_most rest)

bare_nodes : (e : RvalueTree) → nodes (bare e) ≡ nodes e
bare_nodes (Convert t e) = refl
bare_nodes (Constant z t) = refl
bare_nodes e = refl

-- Where names are used again, statements use no more of them than scalars, nodes, and one.
module _ (c : Coding) (again : c.names.again ≡ true) (few : NamesFew c.names c.scalars) where
  picks : (a f : ℕ) → pick c.names a f ≡ a
  picks a f = subst (λ (b : Bool). (if b then a else f) ≡ a) (sym again) refl

  reached_most : (e : RvalueTree) (u : Use) (t : ℕ) → reached c e u t ≤ max t (c.scalars + 1 + nodes e)
  reached_most e u t =
      let from : begun c t ≡ c.scalars = picks c.scalars t in omega (arith, top_most c.names again c.scalars few e u (begun c t) (omega (arith, from)), from)

  elements_most : (all : List RvalueTree) (t : ℕ) → t ≡ c.scalars → elements_reached c all t ≤ c.scalars + 1 + element_nodes all
  elements_most [] t e = omega (arith, e)
  elements_most (x ∷ more) t e =
      let top = (laid c.names (bare x) Anywhere t).top in
      let next : pick c.names t top ≡ t = picks t top in
      omega (arith, top_most c.names again c.scalars few (bare x) Anywhere t (omega (arith, e)), e, bare_nodes x, elements_most more (pick c.names t top) (next ∙ e))

  initial_most : (o : Option ℕ) (i : InitialTree) (t : ℕ) → initial_reached c o i t ≤ max t (c.scalars + 1 + initial_nodes i)
  initial_most (Some x) (scalar-initial e) t = reached_most e (In x) t
  initial_most None (scalar-initial e) t = reached_most e Anywhere t
  initial_most (Some x) (Elements all) t = omega (arith, elements_most all (begun c t) (picks c.scalars t))
  initial_most None (Elements all) t = omega (arith, elements_most all (begun c t) (picks c.scalars t))
  initial_most (Some x) Zero t = omega arith
  initial_most None Zero t = omega arith
  initial_most (Some x) (Literal k) t = omega arith
  initial_most None (Literal k) t = omega arith

  declared_most : (all : List DeclaredTree) (t : ℕ) → declared_reached c all t + length all ≤ max (t + length all) (c.scalars + 1 + declared_nodes all)
  declared_most [] t = omega arith
  declared_most (d ∷ more) t =
      let o = scalar_of c.names d.variable in
      omega (arith, initial_most o d.initial t, declared_most more (initial_reached c o d.initial t), declarators_most more)

  begun_most : (begin : TypedStartTree) (t : ℕ) → start_reached c begin t + begin_declares begin ≤ max (t + begin_declares begin) (c.scalars + 1 + start_nodes begin)
  begun_most Nothing t = omega arith
  begun_most (Value spot e) t = omega (arith, reached_most e Unused t)
  begun_most (Declares all) t = declared_most all t

  condition_most : (e : Option RvalueTree) (t : ℕ) → condition_reached c e t ≤ max t (c.scalars + 1 + option_nodes e)
  condition_most None t = omega arith
  condition_most (Some e) t = reached_most e Tested t

  step_most : (s : Option StepTree) (t : ℕ) → step_reached c s t ≤ max t (c.scalars + 1 + step_nodes s)
  step_most None t = omega arith
  step_most (Some s) t = reached_most s.value Unused t

  result_most : (e : Option RvalueTree) (t : ℕ) → result_reached c e t ≤ max t (c.scalars + 1 + option_nodes e)
  result_most None t = omega arith
  result_most (Some e) t = reached_most e Anywhere t

  mutual
    statement_most : (s : TypedStatementTree) (t : ℕ) → statement_reached c s t + declares s ≤ max (t + declares s) (c.scalars + 1 + statement_nodes s)
    statement_most (Block all) t = omega (arith, statements_most all t)
    statement_most (Declaration all) t = declared_most all t
    statement_most (Empty spot) t = omega arith
    statement_most (Run spot e) t = omega (arith, reached_most e Unused t)
    statement_most (If spot e s) t = omega (arith, reached_most e Tested t, statement_most s (reached c e Tested t), declares_most s)
    statement_most (IfElse spot e s r) t =
        let t1 = reached c e Tested t in
        omega (arith, reached_most e Tested t, statement_most s t1, statement_most r (statement_reached c s t1), declares_most s, declares_most r)
    statement_most (While spot e s) t = omega (arith, reached_most e Tested t, statement_most s (reached c e Tested t), declares_most s)
    statement_most (DoWhile s spot e) t = omega (arith, statement_most s t, reached_most e Tested (statement_reached c s t), declares_most s)
    statement_most (For begin spot e step s) t =
        let t1 = start_reached c begin t in let t2 = condition_reached c e t1 in let t3 = statement_reached c s t2 in
        omega (arith, begun_most begin t, condition_most e t1, statement_most s t2, step_most step t3, declares_most s, begin_most begin)
    statement_most (Switch spot e all) t = omega (arith, reached_most e Anywhere t, statements_most all (reached c e Anywhere t), all_most all)
    statement_most (Break spot) t = omega arith
    statement_most (Continue spot) t = omega arith
    statement_most (Return spot e) t = omega (arith, result_most e t)

    pub statements_most : (all : TypedStatementTrees) (t : ℕ) → statements_reached c all t + all_declare all ≤ max (t + all_declare all) (c.scalars + 1 + statements_nodes all)
    statements_most statement.none t = omega arith
    statements_most (statement.first s rest) t = omega (arith, statement_most s t, statements_most rest (statement_reached c s t), declares_most s, all_most rest)
    statements_most (case z rest) t = omega (arith, statements_most rest t)
    statements_most (default rest) t = omega (arith, statements_most rest t)

-- The names that are used hang on no label.
module _ (c : Coding) (k : ℕ) where
  abbrev d : Coding
  d = in_graph_of k c

  elements_same : (all : List RvalueTree) (t : ℕ) → elements_reached c all t ≡ elements_reached d all t
  elements_same [] t = refl
  elements_same (e ∷ more) t = ap (λ m. max (laid c.names (bare e) Anywhere t).top m) (elements_same more (pick c.names t (laid c.names (bare e) Anywhere t).top))

  initial_same : (o : Option ℕ) (i : InitialTree) (t : ℕ) → initial_reached c o i t ≡ initial_reached d o i t
  initial_same (Some x) (scalar-initial e) t = refl
  initial_same None (scalar-initial e) t = refl
  initial_same (Some x) (Elements all) t = ap (λ m. max t m) (elements_same all (begun c t))
  initial_same None (Elements all) t = ap (λ m. max t m) (elements_same all (begun c t))
  initial_same (Some x) Zero t = refl
  initial_same None Zero t = refl
  initial_same (Some x) (Literal n) t = refl
  initial_same None (Literal n) t = refl

  declared_same : (all : List DeclaredTree) (t : ℕ) → declared_reached c all t ≡ declared_reached d all t
  declared_same [] t = refl
  declared_same (v ∷ more) t =
      let o = scalar_of c.names v.variable in declared_same more (initial_reached c o v.initial t) ∙ ap (λ m. declared_reached d more m) (initial_same o v.initial t)

  begun_same : (begin : TypedStartTree) (t : ℕ) → start_reached c begin t ≡ start_reached d begin t
  begun_same Nothing t = refl
  begun_same (Value spot e) t = refl
  begun_same (Declares all) t = declared_same all t

  condition_same : (e : Option RvalueTree) (t : ℕ) → condition_reached c e t ≡ condition_reached d e t
  condition_same None t = refl
  condition_same (Some e) t = refl

  step_same : (s : Option StepTree) (t : ℕ) → step_reached c s t ≡ step_reached d s t
  step_same None t = refl
  step_same (Some s) t = refl

  result_same : (e : Option RvalueTree) (t : ℕ) → result_reached c e t ≡ result_reached d e t
  result_same None t = refl
  result_same (Some e) t = refl

  mutual
    statement_same : (s : TypedStatementTree) (t : ℕ) → statement_reached c s t ≡ statement_reached d s t
    statement_same (Block all) t = statements_same all t
    statement_same (Declaration all) t = declared_same all t
    statement_same (Empty spot) t = refl
    statement_same (Run spot e) t = refl
    statement_same (If spot e s) t = statement_same s (reached c e Tested t)
    statement_same (IfElse spot e s r) t = (let t1 = reached c e Tested t in statement_same r (statement_reached c s t1) ∙ ap (λ m. statement_reached d r m) (statement_same s t1))
    statement_same (While spot e s) t = statement_same s (reached c e Tested t)
    statement_same (DoWhile s spot e) t = ap (λ m. reached d e Tested m) (statement_same s t)
    statement_same (For begin spot e step s) t = (
        let t1 = start_reached c begin t in let t2 = condition_reached c e t1 in
        step_same step (statement_reached c s t2) ∙ ap (λ m. step_reached d step m) (statement_same s t2 ∙ ap (λ m. statement_reached d s m) (condition_same e t1 ∙ ap (λ m. condition_reached d e m) (begun_same begin t))))
    statement_same (Switch spot e all) t = statements_same all (reached c e Anywhere t)
    statement_same (Break spot) t = refl
    statement_same (Continue spot) t = refl
    statement_same (Return spot e) t = result_same e t

    pub statements_same : (all : TypedStatementTrees) (t : ℕ) → statements_reached c all t ≡ statements_reached d all t
    statements_same statement.none t = refl
    statements_same (statement.first s rest) t = (statements_same rest (statement_reached c s t) ∙ ap (λ m. statements_reached d rest m) (statement_same s t))
    statements_same (case z rest) t = statements_same rest t
    statements_same (default rest) t = statements_same rest t

-- scalars are variables
some_most : (o : Option ℕ) (x : ℕ) (more : List ℕ) → length (add_if_some o x more) ≤ length more + 1
some_most None x more = omega arith
some_most (Some y) x more = omega arith

scalars_most : (n : Names) (first count : ℕ) → length (scalars_among n (numbers_from first count)) ≤ count
scalars_most n first zero = omega arith
scalars_most n first (suc count) = omega (arith, some_most (scalar_of n first) first (scalars_among n (numbers_from (first + 1) count)), scalars_most n (first + 1) count)

used_again : (p : ProgramTree) (f : TypedFunctionTree) (top : ℕ) → KeepsLimits f → names_used (coding_of p f true top) f ≤ f.weight
used_again p f top h =
    let c = coding_of p f true top in
    omega (arith, statements_most c refl (names_few p f true) f.body c.scalars, scalars_most c.names f.first_variable f.variables, statements_count f.body [], h.declared, h.nodes, all_most f.body)

-- The graph of a function has no more names than the function weighs.
pub names_within : (p : ProgramTree) (f : TypedFunctionTree) (is_main : Bool) → KeepsLimits f → (graph_of p f is_main).name_count ≤ f.weight
names_within p f is_main h = go (is_again p f) refl
  where
    top : ℕ
    top = block_count p f is_main

    go : (b : Bool) → is_again p f ≡ b → names_used (coding_of p f (is_again p f) top) f ≤ f.weight
    go true e = subst (λ b. names_used (coding_of p f b top) f ≤ f.weight) (sym e) (used_again p f top h)
    go false e =
        let fresh : names_used (coding_of p f false 0) f ≤ f.weight = not_less f.weight (names_used (coding_of p f false 0) f) e in
        let same : names_used (coding_of p f false 0) f ≡ names_used (coding_of p f false top) f = statements_same (coding_of p f false 0) top f.body (coding_of p f false 0).scalars in
        subst (λ b. names_used (coding_of p f b top) f ≤ f.weight) (sym e) (subst (λ m. m ≤ f.weight) same fresh)
