-- The statements of a function have three blocks at most for each node.
use Rattle.std.proofs.Common.{◌≡◌, ℕ, ◌+◌, ◌*◌, ◌≤◌, Bool, true, false, Option, Some, None, List, [], ◌∷◌, length, refl, arith, if◌then◌else◌}
use Rattle.std.specs.Prelude.{nat_le}
use Rattle.c_tree.specs.declared.object_type.Scalar.{Scalar}
use Rattle.c_tree.specs.declared.object_type.ObjectType.{ObjectType}
use Rattle.c_tree.specs.declared.object_type.ObjectType.TheVariants as of-object
use Rattle.c_tree.specs.TypedExpressions.{RvalueTree, Constant, Convert}
use Rattle.c_tree.specs.TypedStatements as statement
use Rattle.c_tree.specs.TypedStatements.{InitialTree, Zero, Scalar as scalar-initial, Elements, Literal, DeclaredTree, TypedStartTree, Nothing, Value, Declares, StepTree, TypedStatementTree, Block, Declaration, Empty, Run, If, IfElse, While, DoWhile, For, Switch, Break, Continue, Return, TypedStatementTrees, case, default}
use Rattle.c_type_rules.specs.Integers.{scalar_size}
use Rattle.c_type_laws.specs.Nodes.{nodes, element_nodes, initial_nodes, declared_nodes, start_nodes, option_nodes, step_nodes, statement_nodes, statements_nodes}
use Rattle.c_flow.specs.declared.edge.Ways.{Ways}
use Rattle.c_flow.specs.Flow.{start_place, start_of_all, start_of_declarators, round_of, within_loop, within_switch, ways_before as with_rest}
use Rattle.graph_core.specs.Graphs as unit
use Rattle.graph_core.specs.Graphs.{Operand, Automatic, Store, CopyWords}
use Rattle.graph_build_layout.specs.declared.laid.Use.TheVariants.{Anywhere, Tested}
use Rattle.graph_build_names.specs.Inner.{inner}
use Rattle.graph_build_names.specs.Names.{scalar_of, object_of, pick}
use Rattle.graph_build_layout.specs.Layout.{laid}
use Rattle.graph_build_steps.specs.Rules.{element_of}
use Rattle.graph_build_steps.specs.Drafts.{Made, Goal, To, Unused, Either, instruction_before, ending, note}
use Rattle.graph_build_steps.specs.Steps.{or_zero}
use Rattle.graph_build_code.specs.Code.{code}
use Rattle.graph_build_statements.specs.Coding.{Coding, Part, place_of, begun, going, label_for, with_end, placed_at, coded}
use Rattle.graph_build_statements.specs.Reached.{bare, reached, initial_reached, start_reached, condition_reached, statement_reached}
use Rattle.graph_build_statements.specs.Declaring.{object_type_of, words_of, cleared, store_elements, copied_words, declare_single, declare_array, declare_kept, declare_scalar, declare_as, add_declared}
use Rattle.graph_build_statements.specs.Forms.{default_start, tests, add_run, add_going, add_branching, add_start, add_step, add_head, add_result, add_switch, add, add_all}
use Rattle.graph_build_laws.proofs.InnerPieces.{goal_inner, is_tested, closed_length}
use Rattle.graph_build_laws.proofs.InnerBlocks.{code_inner, inner_most}

-- how many blocks a part has
abbrev pub part_blocks : Part → ℕ
part_blocks part = length part.placed + length part.inner

-- two blocks for each `case` of a `switch`
abbrev pub case_blocks : TypedStatementTrees → ℕ
case_blocks statement.none = 0
case_blocks (statement.first s rest) = case_blocks rest
case_blocks (case z rest) = case_blocks rest + 2
case_blocks (default rest) = case_blocks rest

cleared_same : (object bytes covered : ℕ) (m : Made) → length (cleared object bytes covered m).inner ≡ length m.inner
cleared_same object bytes covered m = go (nat_le (words_of bytes) covered)
  where
    go : (b : Bool) → length (if b then m else instruction_before (unit.Zero object (words_of bytes)) m).inner ≡ length m.inner
    go true = refl
    go false = refl

bare_most : (e : RvalueTree) → inner false (bare e) + 3 ≤ 3 * nodes e
bare_most (Convert t e) = inner_most e false
bare_most (Constant z t) = omega arith
bare_most e = inner_most e false

module _ (c : Coding) where
  of_code : (at : ℕ) (e : RvalueTree) (t : ℕ) (g : Goal) → length (code c.names (place_of c at) c.top e t g).inner ≡ goal_inner g + inner (is_tested g) e
  of_code at e t g = code_inner c.names (place_of c at) c.top e t g

  going_same : (next : Option ℕ) (blocks : List unit.Block) → length (going c next blocks).inner ≡ length blocks
  going_same (Some at) blocks = refl
  going_same None blocks = refl

  end_most : (at : ℕ) (next : Option ℕ) (blocks : List unit.Block) → length (with_end c at next blocks) ≤ length blocks + 1
  end_most at (Some to) blocks = omega arith
  end_most at None blocks = omega (arith, closed_length (place_of c at) (ending (unit.Return None) blocks))

  run_blocks : (at : ℕ) (e : RvalueTree) (t : ℕ) (next : Option ℕ) (part : Part) → part_blocks (add_run c at e t next part) + 2 ≤ part_blocks part + 3 * nodes e
  run_blocks at e t next part = omega (arith, of_code at e (begun c t) (Unused (going c next part.inner)), going_same next part.inner, inner_most e false)

  going_blocks : (at : ℕ) (next : Option ℕ) (part : Part) → part_blocks (add_going c at next part) ≡ part_blocks part + 1
  going_blocks at next part = omega (arith, going_same next part.inner)

  branching_blocks : (at : ℕ) (e : RvalueTree) (t : ℕ) (one other : Option ℕ) (part : Part) → part_blocks (add_branching c at e t one other part) ≤ part_blocks part + 3 * nodes e
  branching_blocks at e t one other part =
      let ends = with_end c at other part.inner in
      omega (arith, of_code at e (begun c t) (Either (label_for c one ends) (label_for c other part.inner) (with_end c at one ends)), end_most at one ends, end_most at other part.inner, inner_most e true)

  elements_blocks : (at : ℕ) (s : Scalar) (object index : ℕ) (all : List RvalueTree) (t : ℕ) (m : Made) → length (store_elements c at s object index all t m).inner ≤ length m.inner + 3 * element_nodes all
  elements_blocks at s object index [] t m = omega arith
  elements_blocks at s object index (e ∷ more) t m =
      let r = laid c.names (bare e) Anywhere t in
      let rest = store_elements c at s object (index + 1) more (pick c.names t r.top) m in
      omega (arith, of_code at (bare e) t (To None (instruction_before (Store (element_of s) (Automatic object (index * scalar_size s)) r.value) rest)), bare_most e, elements_blocks at s object (index + 1) more (pick c.names t r.top) m)

  single_blocks : (at object : ℕ) (s : Scalar) (i : InitialTree) (t : ℕ) (m : Made) → length (declare_single c at object s i t m).inner ≤ length m.inner + 3 * initial_nodes i
  single_blocks at object s Zero t m = omega arith
  single_blocks at object s (scalar-initial e) t m = omega (arith, of_code at e (begun c t) (To None (instruction_before (Store (element_of s) (Automatic object 0) (laid c.names e Anywhere (begun c t)).value) m)), inner_most e false)
  single_blocks at object s (Elements all) t m = omega (arith, cleared_same object (scalar_size s) 0 m)
  single_blocks at object s (Literal k) t m = omega (arith, cleared_same object (scalar_size s) 0 m)

  array_blocks : (at object : ℕ) (s : Scalar) (bytes : ℕ) (i : InitialTree) (t : ℕ) (m : Made) → length (declare_array c at object s bytes i t m).inner ≤ length m.inner + 3 * initial_nodes i
  array_blocks at object s bytes (Elements all) t m = omega (arith, cleared_same object bytes 0 (store_elements c at s object 0 all (begun c t) m), elements_blocks at s object 0 all (begun c t) m)
  array_blocks at object s bytes (Literal k) t m = omega (arith, cleared_same object bytes (copied_words c k bytes) (instruction_before (CopyWords object k (copied_words c k bytes)) m))
  array_blocks at object s bytes Zero t m = omega (arith, cleared_same object bytes 0 m)
  array_blocks at object s bytes (scalar-initial e) t m = omega (arith, cleared_same object bytes 0 m)

  kept_blocks : (at object : ℕ) (of : ObjectType) (i : InitialTree) (t : ℕ) (m : Made) → length (declare_kept c at object of i t m).inner ≤ length m.inner + 3 * initial_nodes i
  kept_blocks at object (of-object.Scalar s) i t m = single_blocks at object s i t m
  kept_blocks at object (of-object.Array s count) i t m = array_blocks at object s (scalar_size s * count) i t m

  scalar_blocks : (at x : ℕ) (i : InitialTree) (t : ℕ) (m : Made) → length (declare_scalar c at x i t m).inner ≤ length m.inner + 3 * initial_nodes i
  scalar_blocks at x (scalar-initial e) t m = omega (arith, of_code at e (begun c t) (To (Some x) (note x m)), inner_most e false)
  scalar_blocks at x Zero t m = omega arith
  scalar_blocks at x (Elements all) t m = omega arith
  scalar_blocks at x (Literal k) t m = omega arith

  declare_blocks : (o : Option ℕ) (d : DeclaredTree) (t : ℕ) (m : Made) → length (declare_as c o d t m).inner ≤ length m.inner + 3 * initial_nodes d.initial
  declare_blocks (Some x) d t m = scalar_blocks d.spot.at x d.initial t m
  declare_blocks None d t m = kept_blocks d.spot.at (or_zero (object_of c.names d.variable)) (object_type_of c.program d.variable) d.initial t m

  declared_blocks : (all : List DeclaredTree) (t : ℕ) (next : Option ℕ) (part : Part) → part_blocks (add_declared c all t next part) ≤ part_blocks part + 3 * declared_nodes all
  declared_blocks [] t next part = omega arith
  declared_blocks (d ∷ more) t next part =
      let o = scalar_of c.names d.variable in
      let later = add_declared c more (initial_reached c o d.initial t) next part in
      omega (arith, declare_blocks o d t (going c (start_of_declarators more next) later.inner), going_same (start_of_declarators more next) later.inner, declared_blocks more (initial_reached c o d.initial t) next part)

  begin_blocks : (begin : TypedStartTree) (t head : ℕ) (part : Part) → part_blocks (add_start c begin t head part) ≤ part_blocks part + 3 * start_nodes begin
  begin_blocks Nothing t head part = omega arith
  begin_blocks (Value spot e) t head part = omega (arith, run_blocks spot.at e t (Some head) part)
  begin_blocks (Declares all) t head part = declared_blocks all t (Some head) part

  round_blocks : (step : Option StepTree) (t head : ℕ) (part : Part) → part_blocks (add_step c step t head part) ≤ part_blocks part + 3 * step_nodes step
  round_blocks None t head part = omega arith
  round_blocks (Some s) t head part = omega (arith, run_blocks s.spot.at s.value t (Some head) part)

  head_blocks : (begin : TypedStartTree) (t at : ℕ) (e : Option RvalueTree) (inside next : Option ℕ) (part : Part) → part_blocks (add_head c begin t at e inside next part) ≤ part_blocks part + 3 * (start_nodes begin + option_nodes e) + 1
  head_blocks begin t at None inside next part = omega (arith, going_blocks at inside (add_start c begin t at part), begin_blocks begin t at part)
  head_blocks begin t at (Some e) inside next part =
      omega (arith, begin_blocks begin t at (add_branching c at e (start_reached c begin t) inside next part), branching_blocks at e (start_reached c begin t) inside next part)

  result_blocks : (at : ℕ) (e : Option RvalueTree) (t : ℕ) (part : Part) → part_blocks (add_result c at e t part) ≤ part_blocks part + 3 * option_nodes e + 1
  result_blocks at None t part = omega arith
  result_blocks at (Some e) t part = omega (arith, of_code at e (begun c t) (To None (ending (unit.Return (Some (laid c.names e Anywhere (begun c t)).value)) part.inner)), inner_most e false)

  tests_blocks : (at : ℕ) (a : Operand) (all : TypedStatementTrees) (next other : Option ℕ) (blocks : List unit.Block) → length (tests c at a all next other blocks).inner ≤ length blocks + case_blocks all
  tests_blocks at a statement.none next other blocks = omega (arith, going_same other blocks)
  tests_blocks at a (statement.first s rest) next other blocks = tests_blocks at a rest next other blocks
  tests_blocks at a (case z rest) next other blocks =
      let to = start_of_all rest next in
      omega (arith, closed_length (place_of c at) (tests c at a rest next other (with_end c at to blocks)), tests_blocks at a rest next other (with_end c at to blocks), end_most at to blocks)
  tests_blocks at a (default rest) next other blocks = tests_blocks at a rest next other blocks

  switch_blocks : (at : ℕ) (e : RvalueTree) (all : TypedStatementTrees) (t : ℕ) (next : Option ℕ) (part : Part) → part_blocks (add_switch c at e all t next part) + 2 ≤ part_blocks part + 3 * nodes e + case_blocks all
  switch_blocks at e all t next part =
      let a = (laid c.names e Anywhere (begun c t)).value in
      omega (arith, of_code at e (begun c t) (To None (tests c at a all next (default_start all next) part.inner)), inner_most e false, tests_blocks at a all next (default_start all next) part.inner)

  mutual
    pub statement_blocks : (s : TypedStatementTree) (t : ℕ) (w : Ways) (part : Part) → part_blocks (add c s t w part) ≤ part_blocks part + 3 * statement_nodes s
    statement_blocks (Block all) t w part = omega (arith, statements_blocks all t w part)
    statement_blocks (Declaration all) t w part = declared_blocks all t w.next part
    statement_blocks (Empty spot) t w part = omega (arith, going_blocks spot.at w.next part)
    statement_blocks (Run spot e) t w part = omega (arith, run_blocks spot.at e t w.next part)
    statement_blocks (If spot e s) t w part =
        omega (arith, branching_blocks spot.at e t (start_place s w.next) w.next (add c s (reached c e Tested t) w part), statement_blocks s (reached c e Tested t) w part)
    statement_blocks (IfElse spot e s r) t w part =
        let behind_s = statement_reached c s (reached c e Tested t) in
        let later = add c r behind_s w part in
        omega (arith, branching_blocks spot.at e t (start_place s w.next) (start_place r w.next) (add c s (reached c e Tested t) w later), statement_blocks s (reached c e Tested t) w later, statement_blocks r behind_s w part)
    statement_blocks (While spot e s) t w part =
        omega (arith, branching_blocks spot.at e t (start_place s (Some spot.at)) w.next (add c s (reached c e Tested t) (within_loop spot.at w) part), statement_blocks s (reached c e Tested t) (within_loop spot.at w) part)
    statement_blocks (DoWhile s spot e) t w part =
        let later = add_branching c spot.at e (statement_reached c s t) (start_place s (Some spot.at)) w.next part in
        omega (arith, statement_blocks s t (within_loop spot.at w) later, branching_blocks spot.at e (statement_reached c s t) (start_place s (Some spot.at)) w.next part)
    statement_blocks (For begin spot e step s) t w part =
        let behind_head = condition_reached c e (start_reached c begin t) in
        let body = add c s behind_head (within_loop (round_of step spot.at) w) part in
        let later = add_step c step (statement_reached c s behind_head) spot.at body in
        omega (arith, head_blocks begin t spot.at e (start_place s (Some (round_of step spot.at))) w.next later, round_blocks step (statement_reached c s behind_head) spot.at body, statement_blocks s behind_head (within_loop (round_of step spot.at) w) part)
    statement_blocks (Switch spot e all) t w part =
        omega (arith, switch_blocks spot.at e all t w.next (add_all c all (reached c e Anywhere t) (within_switch w) part), statements_blocks all (reached c e Anywhere t) (within_switch w) part)
    statement_blocks (Break spot) t w part = omega (arith, going_blocks spot.at w.by_break part)
    statement_blocks (Continue spot) t w part = omega (arith, going_blocks spot.at w.by_continue part)
    statement_blocks (Return spot e) t w part = omega (arith, result_blocks spot.at e t part)

    pub statements_blocks : (all : TypedStatementTrees) (t : ℕ) (w : Ways) (part : Part) → part_blocks (add_all c all t w part) + case_blocks all ≤ part_blocks part + 3 * statements_nodes all
    statements_blocks statement.none t w part = omega arith
    statements_blocks (statement.first s rest) t w part =
        let later = add_all c rest (statement_reached c s t) w part in
        omega (arith, statement_blocks s t (with_rest rest w) later, statements_blocks rest (statement_reached c s t) w part)
    statements_blocks (case z rest) t w part = omega (arith, statements_blocks rest t w part)
    statements_blocks (default rest) t w part = omega (arith, statements_blocks rest t w part)
