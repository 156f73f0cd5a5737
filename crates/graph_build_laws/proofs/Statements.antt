-- The blocks of statements have at most two instructions for each unit that the statements weigh.
use Rattle.std.proofs.Common.{◌≡◌, ℕ, ◌+◌, ◌*◌, ◌≤◌, Bool, true, false, Option, Some, None, List, [], ◌∷◌, refl, arith, if◌then◌else◌}
use Rattle.std.specs.Prelude.{max, nat_le}
use Rattle.c_tree.specs.declared.object_type.Scalar.{Scalar}
use Rattle.c_tree.specs.declared.object_type.ObjectType.{ObjectType}
use Rattle.c_tree.specs.declared.object_type.ObjectType.TheVariants as of-object
use Rattle.c_tree.specs.TypedExpressions.{RvalueTree, Constant, Null, Load, Decay, AddressOf, Convert, Discard, Signed, Not, Arithmetic, Compare, ComparePointers, Move, MoveFrom, Difference, And, Or, Conditional, Comma, Assign, Update, UpdatePointer, Step, StepPointer, Call}
use Rattle.c_tree.specs.TypedStatements as statement
use Rattle.c_tree.specs.TypedStatements.{InitialTree, Zero, Scalar as scalar-initial, Elements, Literal, DeclaredTree, TypedStartTree, Nothing, Value, Declares, StepTree, TypedStatementTree, Block, Declaration, Empty, Run, If, IfElse, While, DoWhile, For, Switch, Break, Continue, Return, TypedStatementTrees, case, default}
use Rattle.c_type_rules.specs.Integers.{scalar_size}
use Rattle.c_flow.specs.declared.edge.Ways.{Ways}
use Rattle.c_flow.specs.Flow.{start_place, start_of_all, start_of_declarators, round_of, within_loop, within_switch, ways_before as with_rest}
use Rattle.graph_core.specs.Graphs as unit
use Rattle.graph_core.specs.Graphs.{Operand, Automatic, Store, CopyWords}
use Rattle.graph_build_layout.specs.declared.laid.Use.{Use}
use Rattle.graph_build_layout.specs.declared.laid.Use.TheVariants.{Anywhere, In, Tested}
use Rattle.graph_build_names.specs.Names.{scalar_of, object_of, pick}
use Rattle.graph_build_layout.specs.Layout.{laid}
use Rattle.graph_build_steps.specs.Rules.{element_of}
use Rattle.graph_build_steps.specs.Drafts.{Made, Goal, To, Unused, Either, instruction_before, ending, note}
use Rattle.graph_build_steps.specs.Steps.{or_zero}
use Rattle.graph_build_laws.specs.Sizes.{counted, made_counts, goal_counts}
use Rattle.c_type_laws.specs.Weighing.{weighed, weighed_elements, weighed_initial, weighed_declared, weighed_start, weighed_option, weighed_step, weighed_statement, weighed_statements}
use Rattle.graph_build_statements.specs.Coding.{Coding, Part, place_of, begun, going, label_for, with_end, placed_at, coded, branching}
use Rattle.graph_build_statements.specs.Reached.{bare, reached, initial_reached, declared_reached, start_reached, condition_reached, step_reached, result_reached, statement_reached, statements_reached, elements_reached}
use Rattle.graph_build_statements.specs.Declaring.{object_type_of, words_of, cleared, store_elements, copied_words, declare_single, declare_array, declare_kept, declare_scalar, declare_as, declare, add_declared}
use Rattle.graph_build_statements.specs.Forms.{default_start, tests, add_run, add_going, add_branching, add_start, add_step, add_head, add_result, add_switch, add, add_all}
use Rattle.graph_build_laws.proofs.Temporaries.{behind, pick_least}
use Rattle.graph_build_laws.proofs.Written.{NamesFew}
use Rattle.graph_build_laws.proofs.Pieces.{closed_counts, note_most}
use Rattle.graph_build_laws.proofs.Within.{Within}
use Rattle.graph_build_laws.proofs.Expressions.{within}

-- how many instructions stand in the blocks of a part
abbrev pub part_counts : Part → ℕ
part_counts part = counted part.placed + counted part.inner

pub cleared_most : (object bytes covered : ℕ) (m : Made) → made_counts (cleared object bytes covered m) ≤ made_counts m + 1
cleared_most object bytes covered m = go (nat_le (words_of bytes) covered)
  where
    go : (b : Bool) → made_counts (if b then m else instruction_before (unit.Zero object (words_of bytes)) m) ≤ made_counts m + 1
    go true = omega arith
    go false = omega arith

-- an element weighs what it does without its conversion
bare_weighs : (e : RvalueTree) → weighed false (bare e) ≡ weighed true e
bare_weighs (Convert t e) = omega arith
bare_weighs (Constant z t) = refl
bare_weighs _ = refl

module _ (c : Coding) where
  -- names that are reached are no fewer
  pub reached_more : (e : RvalueTree) (u : Use) (t : ℕ) → t ≤ reached c e u t
  reached_more e u t = omega arith

  pub initial_more : (o : Option ℕ) (i : InitialTree) (t : ℕ) → t ≤ initial_reached c o i t
  initial_more (Some x) (scalar-initial e) t = omega arith
  initial_more None (scalar-initial e) t = omega arith
  initial_more (Some x) (Elements all) t = omega arith
  initial_more None (Elements all) t = omega arith
  initial_more (Some x) Zero t = omega arith
  initial_more None Zero t = omega arith
  initial_more (Some x) (Literal k) t = omega arith
  initial_more None (Literal k) t = omega arith

  pub declared_more : (all : List DeclaredTree) (t : ℕ) → t ≤ declared_reached c all t
  declared_more [] t = omega arith
  declared_more (d ∷ more) t =
      omega (arith, initial_more (scalar_of c.names d.variable) d.initial t, declared_more more (initial_reached c (scalar_of c.names d.variable) d.initial t))

  pub start_more : (begin : TypedStartTree) (t : ℕ) → t ≤ start_reached c begin t
  start_more Nothing t = omega arith
  start_more (Value spot e) t = omega arith
  start_more (Declares all) t = declared_more all t

  pub condition_more : (e : Option RvalueTree) (t : ℕ) → t ≤ condition_reached c e t
  condition_more None t = omega arith
  condition_more (Some e) t = omega arith

  step_more : (s : Option StepTree) (t : ℕ) → t ≤ step_reached c s t
  step_more None t = omega arith
  step_more (Some s) t = omega arith

  result_more : (e : Option RvalueTree) (t : ℕ) → t ≤ result_reached c e t
  result_more None t = omega arith
  result_more (Some e) t = omega arith

  mutual
    pub statement_more : (s : TypedStatementTree) (t : ℕ) → t ≤ statement_reached c s t
    statement_more (Block all) t = statements_more all t
    statement_more (Declaration all) t = declared_more all t
    statement_more (Empty spot) t = omega arith
    statement_more (Run spot e) t = omega arith
    statement_more (If spot e s) t = omega (arith, statement_more s (reached c e Tested t))
    statement_more (IfElse spot e s r) t = omega (arith, statement_more s (reached c e Tested t), statement_more r (statement_reached c s (reached c e Tested t)))
    statement_more (While spot e s) t = omega (arith, statement_more s (reached c e Tested t))
    statement_more (DoWhile s spot e) t = omega (arith, statement_more s t)
    statement_more (For begin spot e step s) t =
        omega (arith, start_more begin t, condition_more e (start_reached c begin t), statement_more s (condition_reached c e (start_reached c begin t)), step_more step (statement_reached c s (condition_reached c e (start_reached c begin t))))
    statement_more (Switch spot e all) t = omega (arith, statements_more all (reached c e Anywhere t))
    statement_more (Break spot) t = omega arith
    statement_more (Continue spot) t = omega arith
    statement_more (Return spot e) t = result_more e t

    pub statements_more : (all : TypedStatementTrees) (t : ℕ) → t ≤ statements_reached c all t
    statements_more statement.none t = omega arith
    statements_more (statement.first s rest) t = omega (arith, statement_more s t, statements_more rest (statement_reached c s t))
    statements_more (case z rest) t = statements_more rest t
    statements_more (default rest) t = statements_more rest t

  module _ (few : NamesFew c.names c.scalars) where
    abbrev Weighs : (at : ℕ) → RvalueTree → Type 0
    Weighs at e = Within c.names (place_of c at) c.top c.scalars few e

    it : (at : ℕ) (e : RvalueTree) → Weighs at e
    it at e = within c.names (place_of c at) c.top c.scalars few e

    begins : (t : ℕ) → c.scalars ≤ t → c.scalars ≤ begun c t
    begins t p = pick_least c.names c.scalars c.scalars t (omega arith) p

    -- a place that is led to
    going_counts : (next : Option ℕ) (inner : List unit.Block) → made_counts (going c next inner) ≡ counted inner
    going_counts (Some at) inner = omega arith
    going_counts None inner = omega arith

    end_counts : (at : ℕ) (next : Option ℕ) (inner : List unit.Block) → counted (with_end c at next inner) ≡ counted inner
    end_counts at (Some to) inner = refl
    end_counts at None inner = omega (arith, closed_counts (place_of c at) (ending (unit.Return None) inner))

    run_most : (at : ℕ) (e : RvalueTree) (t : ℕ) (next : Option ℕ) (part : Part) → c.scalars ≤ t → part_counts (add_run c at e t next part) ≤ part_counts part + 2 * weighed false e
    run_most at e t next part p = omega (arith, (it at e).any (begun c t) (Unused (going c next part.inner)) (begins t p), going_counts next part.inner)

    going_most : (at : ℕ) (next : Option ℕ) (part : Part) → part_counts (add_going c at next part) ≤ part_counts part
    going_most at next part = omega (arith, going_counts next part.inner)

    branching_most : (at : ℕ) (e : RvalueTree) (t : ℕ) (one other : Option ℕ) (part : Part) → c.scalars ≤ t → part_counts (add_branching c at e t one other part) ≤ part_counts part + 2 * weighed false e
    branching_most at e t one other part p =
        let ends = with_end c at other part.inner in
        omega (arith, (it at e).any (begun c t) (Either (label_for c one ends) (label_for c other part.inner) (with_end c at one ends)) (begins t p), end_counts at one ends, end_counts at other part.inner)

    -- declarators
    elements_most : (at : ℕ) (s : Scalar) (object index : ℕ) (all : List RvalueTree) (t : ℕ) (m : Made) → c.scalars ≤ t → made_counts (store_elements c at s object index all t m) ≤ made_counts m + 2 * weighed_elements all
    elements_most at s object index [] t m p = omega arith
    elements_most at s object index (e ∷ more) t m p =
        let r = laid c.names (bare e) Anywhere t in
        let rest = store_elements c at s object (index + 1) more (pick c.names t r.top) m in
        let b = behind c.names (bare e) Anywhere t in
        omega (
          arith,
          (it at (bare e)).any t (To None (instruction_before (Store (element_of s) (Automatic object (index * scalar_size s)) r.value) rest)) p,
          bare_weighs e,
          elements_most at s object (index + 1) more (pick c.names t r.top) m (pick_least c.names c.scalars t r.top p (omega (arith, p, b.0, b.1))),
        )

    passed_most : (at : ℕ) (e : RvalueTree) (t : ℕ) (m : Made) → c.scalars ≤ t → made_counts (coded c at e t (To None m)) ≤ made_counts m + 2 * weighed true e
    passed_most at e t m p = omega (arith, (it at e).passed (begun c t) m (λ y. false) (λ y q. refl) (begins t p))

    single_most : (at object : ℕ) (s : Scalar) (i : InitialTree) (t : ℕ) (m : Made) → c.scalars ≤ t → made_counts (declare_single c at object s i t m) ≤ made_counts m + 2 * (weighed_initial i + 2)
    single_most at object s Zero t m p = omega arith
    single_most at object s (scalar-initial e) t m p = omega (arith, passed_most at e t (instruction_before (Store (element_of s) (Automatic object 0) (laid c.names e Anywhere (begun c t)).value) m) p)
    single_most at object s (Elements all) t m p = omega (arith, cleared_most object (scalar_size s) 0 m)
    single_most at object s (Literal k) t m p = omega (arith, cleared_most object (scalar_size s) 0 m)

    array_most : (at object : ℕ) (s : Scalar) (bytes : ℕ) (i : InitialTree) (t : ℕ) (m : Made) → c.scalars ≤ t → made_counts (declare_array c at object s bytes i t m) ≤ made_counts m + 2 * (weighed_initial i + 2)
    array_most at object s bytes (Elements all) t m p =
        omega (arith, cleared_most object bytes 0 (store_elements c at s object 0 all (begun c t) m), elements_most at s object 0 all (begun c t) m (begins t p))
    array_most at object s bytes (Literal k) t m p = omega (arith, cleared_most object bytes (copied_words c k bytes) (instruction_before (CopyWords object k (copied_words c k bytes)) m))
    array_most at object s bytes Zero t m p = omega (arith, cleared_most object bytes 0 m)
    array_most at object s bytes (scalar-initial e) t m p = omega (arith, cleared_most object bytes 0 m)

    kept_most : (at object : ℕ) (of : ObjectType) (i : InitialTree) (t : ℕ) (m : Made) → c.scalars ≤ t → made_counts (declare_kept c at object of i t m) ≤ made_counts m + 2 * (weighed_initial i + 2)
    kept_most at object (of-object.Scalar s) i t m p = single_most at object s i t m p
    kept_most at object (of-object.Array s count) i t m p = array_most at object s (scalar_size s * count) i t m p

    scalar_most : (at x : ℕ) (i : InitialTree) (t : ℕ) (m : Made) → c.scalars ≤ t → made_counts (declare_scalar c at x i t m) ≤ made_counts m + 2 * (weighed_initial i + 2)
    scalar_most at x (scalar-initial e) t m p = omega (arith, (it at e).into (begun c t) x (note x m) (begins t p), note_most x m)
    scalar_most at x Zero t m p = omega arith
    scalar_most at x (Elements all) t m p = omega arith
    scalar_most at x (Literal k) t m p = omega arith

    declare_most : (o : Option ℕ) (d : DeclaredTree) (t : ℕ) (m : Made) → c.scalars ≤ t → made_counts (declare_as c o d t m) ≤ made_counts m + 2 * (weighed_initial d.initial + 2)
    declare_most (Some x) d t m p = scalar_most d.spot.at x d.initial t m p
    declare_most None d t m p = kept_most d.spot.at (or_zero (object_of c.names d.variable)) (object_type_of c.program d.variable) d.initial t m p

    declared_most : (all : List DeclaredTree) (t : ℕ) (next : Option ℕ) (part : Part) → c.scalars ≤ t → part_counts (add_declared c all t next part) ≤ part_counts part + 2 * weighed_declared all
    declared_most [] t next part p = omega arith
    declared_most (d ∷ more) t next part p =
        let o = scalar_of c.names d.variable in
        let t' = initial_reached c o d.initial t in
        let later = add_declared c more t' next part in
        omega (arith, declare_most o d t (going c (start_of_declarators more next) later.inner) p, going_counts (start_of_declarators more next) later.inner, declared_most more t' next part (omega (arith, p, initial_more o d.initial t)))

    -- the parts of a `for`
    begin_most : (begin : TypedStartTree) (t head : ℕ) (part : Part) → c.scalars ≤ t → part_counts (add_start c begin t head part) ≤ part_counts part + 2 * weighed_start begin
    begin_most Nothing t head part p = omega arith
    begin_most (Value spot e) t head part p = run_most spot.at e t (Some head) part p
    begin_most (Declares all) t head part p = declared_most all t (Some head) part p

    round_most : (step : Option StepTree) (t head : ℕ) (part : Part) → c.scalars ≤ t → part_counts (add_step c step t head part) ≤ part_counts part + 2 * weighed_step step
    round_most None t head part p = omega arith
    round_most (Some s) t head part p = run_most s.spot.at s.value t (Some head) part p

    head_most : (begin : TypedStartTree) (t at : ℕ) (e : Option RvalueTree) (inside next : Option ℕ) (part : Part) → c.scalars ≤ t → part_counts (add_head c begin t at e inside next part) ≤ part_counts part + 2 * (weighed_start begin + weighed_option false e)
    head_most begin t at None inside next part p = omega (arith, going_most at inside (add_start c begin t at part), begin_most begin t at part p)
    head_most begin t at (Some e) inside next part p =
        omega (arith, begin_most begin t at (add_branching c at e (start_reached c begin t) inside next part) p, branching_most at e (start_reached c begin t) inside next part (omega (arith, p, start_more begin t)))

    result_most : (at : ℕ) (e : Option RvalueTree) (t : ℕ) (part : Part) → c.scalars ≤ t → part_counts (add_result c at e t part) ≤ part_counts part + 2 * weighed_option true e
    result_most at None t part p = omega arith
    result_most at (Some e) t part p = omega (arith, passed_most at e t (ending (unit.Return (Some (laid c.names e Anywhere (begun c t)).value)) part.inner) p)

    tests_counts : (at : ℕ) (a : Operand) (all : TypedStatementTrees) (next other : Option ℕ) (inner : List unit.Block) → made_counts (tests c at a all next other inner) ≡ counted inner
    tests_counts at a statement.none next other inner = going_counts other inner
    tests_counts at a (statement.first s rest) next other inner = tests_counts at a rest next other inner
    tests_counts at a (case z rest) next other inner =
        let to = start_of_all rest next in
        omega (arith, closed_counts (place_of c at) (tests c at a rest next other (with_end c at to inner)), tests_counts at a rest next other (with_end c at to inner), end_counts at to inner)
    tests_counts at a (default rest) next other inner = tests_counts at a rest next other inner

    switch_most : (at : ℕ) (e : RvalueTree) (all : TypedStatementTrees) (t : ℕ) (next : Option ℕ) (part : Part) → c.scalars ≤ t → part_counts (add_switch c at e all t next part) ≤ part_counts part + 2 * weighed false e
    switch_most at e all t next part p =
        let a = (laid c.names e Anywhere (begun c t)).value in
        omega (arith, (it at e).any (begun c t) (To None (tests c at a all next (default_start all next) part.inner)) (begins t p), tests_counts at a all next (default_start all next) part.inner)

    mutual
      pub statement_most : (s : TypedStatementTree) (t : ℕ) (w : Ways) (part : Part) → c.scalars ≤ t → part_counts (add c s t w part) ≤ part_counts part + 2 * weighed_statement s
      statement_most (Block all) t w part p = omega (arith, statements_most all t w part p)
      statement_most (Declaration all) t w part p = declared_most all t w.next part p
      statement_most (Empty spot) t w part p = omega (arith, going_most spot.at w.next part)
      statement_most (Run spot e) t w part p = omega (arith, run_most spot.at e t w.next part p)
      statement_most (If spot e s) t w part p =
          omega (arith, branching_most spot.at e t (start_place s w.next) w.next (add c s (reached c e Tested t) w part) p, statement_most s (reached c e Tested t) w part (omega (arith, p, reached_more e Tested t)))
      statement_most (IfElse spot e s r) t w part p =
          let behind_s = statement_reached c s (reached c e Tested t) in
          let later = add c r behind_s w part in
          omega (
            arith,
            branching_most spot.at e t (start_place s w.next) (start_place r w.next) (add c s (reached c e Tested t) w later) p,
            statement_most s (reached c e Tested t) w later (omega (arith, p, reached_more e Tested t)),
            statement_most r behind_s w part (omega (arith, p, reached_more e Tested t, statement_more s (reached c e Tested t))),
          )
      statement_most (While spot e s) t w part p =
          omega (arith, branching_most spot.at e t (start_place s (Some spot.at)) w.next (add c s (reached c e Tested t) (within_loop spot.at w) part) p, statement_most s (reached c e Tested t) (within_loop spot.at w) part (omega (arith, p, reached_more e Tested t)))
      statement_most (DoWhile s spot e) t w part p =
          let later = add_branching c spot.at e (statement_reached c s t) (start_place s (Some spot.at)) w.next part in
          omega (arith, statement_most s t (within_loop spot.at w) later p, branching_most spot.at e (statement_reached c s t) (start_place s (Some spot.at)) w.next part (omega (arith, p, statement_more s t)))
      statement_most (For begin spot e step s) t w part p =
          let behind_head = condition_reached c e (start_reached c begin t) in
          let body = add c s behind_head (within_loop (round_of step spot.at) w) part in
          let later = add_step c step (statement_reached c s behind_head) spot.at body in
          let q : c.scalars ≤ behind_head = omega (arith, p, start_more begin t, condition_more e (start_reached c begin t)) in
          omega (
            arith,
            head_most begin t spot.at e (start_place s (Some (round_of step spot.at))) w.next later p,
            round_most step (statement_reached c s behind_head) spot.at body (omega (arith, q, statement_more s behind_head)),
            statement_most s behind_head (within_loop (round_of step spot.at) w) part q,
          )
      statement_most (Switch spot e all) t w part p =
          let later = add_all c all (reached c e Anywhere t) (within_switch w) part in
          omega (arith, switch_most spot.at e all t w.next later p, statements_most all (reached c e Anywhere t) (within_switch w) part (omega (arith, p, reached_more e Anywhere t)))
      statement_most (Break spot) t w part p = omega (arith, going_most spot.at w.by_break part)
      statement_most (Continue spot) t w part p = omega (arith, going_most spot.at w.by_continue part)
      statement_most (Return spot e) t w part p = omega (arith, result_most spot.at e t part p)

      pub statements_most : (all : TypedStatementTrees) (t : ℕ) (w : Ways) (part : Part) → c.scalars ≤ t → part_counts (add_all c all t w part) ≤ part_counts part + 2 * weighed_statements all
      statements_most statement.none t w part p = omega arith
      statements_most (statement.first s rest) t w part p =
          let later = add_all c rest (statement_reached c s t) w part in
          omega (arith, statement_most s t (with_rest rest w) later p, statements_most rest (statement_reached c s t) w part (omega (arith, p, statement_more s t)))
      statements_most (case z rest) t w part p = omega (arith, statements_most rest t w part p)
      statements_most (default rest) t w part p = omega (arith, statements_most rest t w part p)
