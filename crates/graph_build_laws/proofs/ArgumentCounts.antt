-- The calls of the statements of a function pass no more arguments than the statements have nodes.
use Rattle.std.proofs.Common.{◌≡◌, ℕ, ◌+◌, ◌*◌, ◌≤◌, Bool, true, false, Option, Some, None, List, [], ◌∷◌, length, refl, arith, if◌then◌else◌}
use Rattle.std.specs.Prelude.{nat_le}
use Rattle.c_tree.specs.declared.object_type.Scalar.{Scalar}
use Rattle.c_tree.specs.declared.object_type.ObjectType.{ObjectType}
use Rattle.c_tree.specs.declared.object_type.ObjectType.TheVariants as of-object
use Rattle.c_tree.specs.TypedExpressions.{RvalueTree, Constant, Convert}
use Rattle.c_tree.specs.TypedStatements as statement
use Rattle.c_tree.specs.TypedStatements.{InitialTree, Zero, Scalar as scalar-initial, Elements, Literal, DeclaredTree, TypedStartTree, Nothing, Value, Declares, StepTree, TypedStatementTree, Block, Declaration, Empty, Run, If, IfElse, While, DoWhile, For, Switch, Break, Continue, Return, TypedStatementTrees, case, default}
use Rattle.c_type_rules.specs.Integers.{scalar_size}
use Rattle.c_type_laws.specs.Nodes.{nodes, element_nodes, initial_nodes, declared_nodes, start_nodes, option_nodes, step_nodes, statement_nodes, statements_nodes}
use Rattle.c_flow.specs.declared.edge.Ways.{Ways}
use Rattle.c_flow.specs.Flow.{start_place, start_of_all, start_of_declarators, round_of, within_loop, within_switch, ways_before as with_rest}
use Rattle.graph_core.specs.Graphs as unit
use Rattle.graph_core.specs.Graphs.{Operand, Automatic, Store, CopyWords}
use Rattle.graph_build_layout.specs.declared.laid.Use.TheVariants.{Anywhere, Tested}
use Rattle.graph_build_names.specs.Names.{scalar_of, object_of, pick}
use Rattle.graph_build_layout.specs.Layout.{laid}
use Rattle.graph_build_steps.specs.Rules.{element_of}
use Rattle.graph_build_steps.specs.Drafts.{Made, Goal, To, Unused, Either, instruction_before, ending, note}
use Rattle.graph_build_steps.specs.Steps.{or_zero}
use Rattle.graph_build_code.specs.Code.{code}
use Rattle.graph_build_statements.specs.Coding.{Coding, Part, place_of, begun, going, label_for, with_end, placed_at, coded}
use Rattle.graph_build_statements.specs.Reached.{bare, reached, initial_reached, start_reached, condition_reached, statement_reached}
use Rattle.graph_build_statements.specs.Declaring.{object_type_of, words_of, cleared, store_elements, copied_words, declare_single, declare_array, declare_kept, declare_scalar, declare_as, add_declared}
use Rattle.graph_build_statements.specs.Forms.{default_start, tests, add_run, add_going, add_branching, add_start, add_step, add_head, add_result, add_switch, add, add_all}
use Rattle.graph_build_laws.proofs.ArgumentPieces.{passed_in, made_arguments, goal_arguments, closed_arguments}
use Rattle.graph_build_laws.proofs.Arguments.{code_arguments}
use Rattle.graph_build_laws.proofs.NamesAgain.{least_nodes}

-- how many arguments the calls of a part's blocks pass
abbrev pub part_arguments : Part → ℕ
part_arguments part = passed_in part.placed + passed_in part.inner

cleared_same : (object bytes covered : ℕ) (m : Made) → made_arguments (cleared object bytes covered m) ≡ made_arguments m
cleared_same object bytes covered m = go (nat_le (words_of bytes) covered)
  where
    go : (b : Bool) → made_arguments (if b then m else instruction_before (unit.Zero object (words_of bytes)) m) ≡ made_arguments m
    go true = refl
    go false = omega arith

bare_nodes : (e : RvalueTree) → nodes (bare e) ≡ nodes e
bare_nodes (Convert t e) = refl
bare_nodes (Constant z t) = refl
bare_nodes e = refl

module _ (c : Coding) where
  of_code : (at : ℕ) (e : RvalueTree) (t : ℕ) (g : Goal) → made_arguments (code c.names (place_of c at) c.top e t g) + 1 ≤ goal_arguments g + nodes e
  of_code at e t g = code_arguments c.names (place_of c at) c.top e t g

  going_same : (next : Option ℕ) (blocks : List unit.Block) → made_arguments (going c next blocks) ≡ passed_in blocks
  going_same (Some at) blocks = omega arith
  going_same None blocks = omega arith

  end_most : (at : ℕ) (next : Option ℕ) (blocks : List unit.Block) → passed_in (with_end c at next blocks) ≤ passed_in blocks
  end_most at (Some to) blocks = omega arith
  end_most at None blocks = omega (arith, closed_arguments (place_of c at) (ending (unit.Return None) blocks))

  run_arguments : (at : ℕ) (e : RvalueTree) (t : ℕ) (next : Option ℕ) (part : Part) → part_arguments (add_run c at e t next part) ≤ part_arguments part + nodes e
  run_arguments at e t next part = omega (arith, of_code at e (begun c t) (Unused (going c next part.inner)), going_same next part.inner, least_nodes e)

  going_arguments : (at : ℕ) (next : Option ℕ) (part : Part) → part_arguments (add_going c at next part) ≡ part_arguments part
  going_arguments at next part = omega (arith, going_same next part.inner)

  branching_arguments : (at : ℕ) (e : RvalueTree) (t : ℕ) (one other : Option ℕ) (part : Part) → part_arguments (add_branching c at e t one other part) ≤ part_arguments part + nodes e
  branching_arguments at e t one other part =
      let ends = with_end c at other part.inner in
      omega (arith, of_code at e (begun c t) (Either (label_for c one ends) (label_for c other part.inner) (with_end c at one ends)), end_most at one ends, end_most at other part.inner, least_nodes e)

  elements_arguments : (at : ℕ) (s : Scalar) (object index : ℕ) (all : List RvalueTree) (t : ℕ) (m : Made) → made_arguments (store_elements c at s object index all t m) ≤ made_arguments m + element_nodes all
  elements_arguments at s object index [] t m = omega arith
  elements_arguments at s object index (e ∷ more) t m =
      let r = laid c.names (bare e) Anywhere t in
      let rest = store_elements c at s object (index + 1) more (pick c.names t r.top) m in
      omega (arith, of_code at (bare e) t (To None (instruction_before (Store (element_of s) (Automatic object (index * scalar_size s)) r.value) rest)), bare_nodes e, elements_arguments at s object (index + 1) more (pick c.names t r.top) m)

  single_arguments : (at object : ℕ) (s : Scalar) (i : InitialTree) (t : ℕ) (m : Made) → made_arguments (declare_single c at object s i t m) ≤ made_arguments m + initial_nodes i
  single_arguments at object s Zero t m = omega arith
  single_arguments at object s (scalar-initial e) t m = omega (arith, of_code at e (begun c t) (To None (instruction_before (Store (element_of s) (Automatic object 0) (laid c.names e Anywhere (begun c t)).value) m)), least_nodes e)
  single_arguments at object s (Elements all) t m = omega (arith, cleared_same object (scalar_size s) 0 m)
  single_arguments at object s (Literal k) t m = omega (arith, cleared_same object (scalar_size s) 0 m)

  array_arguments : (at object : ℕ) (s : Scalar) (bytes : ℕ) (i : InitialTree) (t : ℕ) (m : Made) → made_arguments (declare_array c at object s bytes i t m) ≤ made_arguments m + initial_nodes i
  array_arguments at object s bytes (Elements all) t m = omega (arith, cleared_same object bytes 0 (store_elements c at s object 0 all (begun c t) m), elements_arguments at s object 0 all (begun c t) m)
  array_arguments at object s bytes (Literal k) t m = omega (arith, cleared_same object bytes (copied_words c k bytes) (instruction_before (CopyWords object k (copied_words c k bytes)) m))
  array_arguments at object s bytes Zero t m = omega (arith, cleared_same object bytes 0 m)
  array_arguments at object s bytes (scalar-initial e) t m = omega (arith, cleared_same object bytes 0 m)

  kept_arguments : (at object : ℕ) (of : ObjectType) (i : InitialTree) (t : ℕ) (m : Made) → made_arguments (declare_kept c at object of i t m) ≤ made_arguments m + initial_nodes i
  kept_arguments at object (of-object.Scalar s) i t m = single_arguments at object s i t m
  kept_arguments at object (of-object.Array s count) i t m = array_arguments at object s (scalar_size s * count) i t m

  scalar_arguments : (at x : ℕ) (i : InitialTree) (t : ℕ) (m : Made) → made_arguments (declare_scalar c at x i t m) ≤ made_arguments m + initial_nodes i
  scalar_arguments at x (scalar-initial e) t m = omega (arith, of_code at e (begun c t) (To (Some x) (note x m)), least_nodes e)
  scalar_arguments at x Zero t m = omega arith
  scalar_arguments at x (Elements all) t m = omega arith
  scalar_arguments at x (Literal k) t m = omega arith

  declare_arguments : (o : Option ℕ) (d : DeclaredTree) (t : ℕ) (m : Made) → made_arguments (declare_as c o d t m) ≤ made_arguments m + initial_nodes d.initial
  declare_arguments (Some x) d t m = scalar_arguments d.spot.at x d.initial t m
  declare_arguments None d t m = kept_arguments d.spot.at (or_zero (object_of c.names d.variable)) (object_type_of c.program d.variable) d.initial t m

  declared_arguments : (all : List DeclaredTree) (t : ℕ) (next : Option ℕ) (part : Part) → part_arguments (add_declared c all t next part) ≤ part_arguments part + declared_nodes all
  declared_arguments [] t next part = omega arith
  declared_arguments (d ∷ more) t next part =
      let o = scalar_of c.names d.variable in
      let later = add_declared c more (initial_reached c o d.initial t) next part in
      omega (arith, declare_arguments o d t (going c (start_of_declarators more next) later.inner), going_same (start_of_declarators more next) later.inner, declared_arguments more (initial_reached c o d.initial t) next part)

  begin_arguments : (begin : TypedStartTree) (t head : ℕ) (part : Part) → part_arguments (add_start c begin t head part) ≤ part_arguments part + start_nodes begin
  begin_arguments Nothing t head part = omega arith
  begin_arguments (Value spot e) t head part = omega (arith, run_arguments spot.at e t (Some head) part)
  begin_arguments (Declares all) t head part = declared_arguments all t (Some head) part

  round_arguments : (step : Option StepTree) (t head : ℕ) (part : Part) → part_arguments (add_step c step t head part) ≤ part_arguments part + step_nodes step
  round_arguments None t head part = omega arith
  round_arguments (Some s) t head part = omega (arith, run_arguments s.spot.at s.value t (Some head) part)

  head_arguments : (begin : TypedStartTree) (t at : ℕ) (e : Option RvalueTree) (inside next : Option ℕ) (part : Part) → part_arguments (add_head c begin t at e inside next part) ≤ part_arguments part + (start_nodes begin + option_nodes e)
  head_arguments begin t at None inside next part = omega (arith, going_arguments at inside (add_start c begin t at part), begin_arguments begin t at part)
  head_arguments begin t at (Some e) inside next part =
      omega (arith, begin_arguments begin t at (add_branching c at e (start_reached c begin t) inside next part), branching_arguments at e (start_reached c begin t) inside next part)

  result_arguments : (at : ℕ) (e : Option RvalueTree) (t : ℕ) (part : Part) → part_arguments (add_result c at e t part) ≤ part_arguments part + option_nodes e
  result_arguments at None t part = omega arith
  result_arguments at (Some e) t part = omega (arith, of_code at e (begun c t) (To None (ending (unit.Return (Some (laid c.names e Anywhere (begun c t)).value)) part.inner)), least_nodes e)

  tests_arguments : (at : ℕ) (a : Operand) (all : TypedStatementTrees) (next other : Option ℕ) (blocks : List unit.Block) → made_arguments (tests c at a all next other blocks) ≤ passed_in blocks
  tests_arguments at a statement.none next other blocks = omega (arith, going_same other blocks)
  tests_arguments at a (statement.first s rest) next other blocks = tests_arguments at a rest next other blocks
  tests_arguments at a (case z rest) next other blocks =
      let to = start_of_all rest next in
      omega (arith, closed_arguments (place_of c at) (tests c at a rest next other (with_end c at to blocks)), tests_arguments at a rest next other (with_end c at to blocks), end_most at to blocks)
  tests_arguments at a (default rest) next other blocks = tests_arguments at a rest next other blocks

  switch_arguments : (at : ℕ) (e : RvalueTree) (all : TypedStatementTrees) (t : ℕ) (next : Option ℕ) (part : Part) → part_arguments (add_switch c at e all t next part) ≤ part_arguments part + nodes e
  switch_arguments at e all t next part =
      let a = (laid c.names e Anywhere (begun c t)).value in
      omega (arith, of_code at e (begun c t) (To None (tests c at a all next (default_start all next) part.inner)), least_nodes e, tests_arguments at a all next (default_start all next) part.inner)

  mutual
    pub statement_arguments : (s : TypedStatementTree) (t : ℕ) (w : Ways) (part : Part) → part_arguments (add c s t w part) ≤ part_arguments part + statement_nodes s
    statement_arguments (Block all) t w part = omega (arith, statements_arguments all t w part)
    statement_arguments (Declaration all) t w part = declared_arguments all t w.next part
    statement_arguments (Empty spot) t w part = omega (arith, going_arguments spot.at w.next part)
    statement_arguments (Run spot e) t w part = omega (arith, run_arguments spot.at e t w.next part)
    statement_arguments (If spot e s) t w part =
        omega (arith, branching_arguments spot.at e t (start_place s w.next) w.next (add c s (reached c e Tested t) w part), statement_arguments s (reached c e Tested t) w part)
    statement_arguments (IfElse spot e s r) t w part =
        let behind_s = statement_reached c s (reached c e Tested t) in
        let later = add c r behind_s w part in
        omega (arith, branching_arguments spot.at e t (start_place s w.next) (start_place r w.next) (add c s (reached c e Tested t) w later), statement_arguments s (reached c e Tested t) w later, statement_arguments r behind_s w part)
    statement_arguments (While spot e s) t w part =
        omega (arith, branching_arguments spot.at e t (start_place s (Some spot.at)) w.next (add c s (reached c e Tested t) (within_loop spot.at w) part), statement_arguments s (reached c e Tested t) (within_loop spot.at w) part)
    statement_arguments (DoWhile s spot e) t w part =
        let later = add_branching c spot.at e (statement_reached c s t) (start_place s (Some spot.at)) w.next part in
        omega (arith, statement_arguments s t (within_loop spot.at w) later, branching_arguments spot.at e (statement_reached c s t) (start_place s (Some spot.at)) w.next part)
    statement_arguments (For begin spot e step s) t w part =
        let behind_head = condition_reached c e (start_reached c begin t) in
        let body = add c s behind_head (within_loop (round_of step spot.at) w) part in
        let later = add_step c step (statement_reached c s behind_head) spot.at body in
        omega (arith, head_arguments begin t spot.at e (start_place s (Some (round_of step spot.at))) w.next later, round_arguments step (statement_reached c s behind_head) spot.at body, statement_arguments s behind_head (within_loop (round_of step spot.at) w) part)
    statement_arguments (Switch spot e all) t w part =
        omega (arith, switch_arguments spot.at e all t w.next (add_all c all (reached c e Anywhere t) (within_switch w) part), statements_arguments all (reached c e Anywhere t) (within_switch w) part)
    statement_arguments (Break spot) t w part = omega (arith, going_arguments spot.at w.by_break part)
    statement_arguments (Continue spot) t w part = omega (arith, going_arguments spot.at w.by_continue part)
    statement_arguments (Return spot e) t w part = omega (arith, result_arguments spot.at e t part)

    pub statements_arguments : (all : TypedStatementTrees) (t : ℕ) (w : Ways) (part : Part) → part_arguments (add_all c all t w part) ≤ part_arguments part + statements_nodes all
    statements_arguments statement.none t w part = omega arith
    statements_arguments (statement.first s rest) t w part =
        let later = add_all c rest (statement_reached c s t) w part in
        omega (arith, statement_arguments s t (with_rest rest w) later, statements_arguments rest (statement_reached c s t) w part)
    statements_arguments (case z rest) t w part = omega (arith, statements_arguments rest t w part)
    statements_arguments (default rest) t w part = omega (arith, statements_arguments rest t w part)
