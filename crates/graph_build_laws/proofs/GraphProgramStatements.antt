-- The blocks of statements that name what is there name what is there.
use Rattle.std.proofs.Common.{◌≡◌, ℕ, ◌≤◌, inl, Bool, true, false, Option, Some, None, List, [], ◌∷◌, refl, arith, if◌then◌else◌}
use Rattle.c_tree.specs.TypedExpressions.{RvalueTree}
use Rattle.c_tree.specs.TypedStatements as statement
use Rattle.c_tree.specs.TypedStatements.{TypedStartTree, Nothing, Value, Declares, StepTree, TypedStatementTree, Block, Declaration, Empty, Run, If, IfElse, While, DoWhile, For, Switch, Break, Continue, Return, TypedStatementTrees, case, default}
use Rattle.c_tree.specs.Programs.{TypedFunctionTree}
use Rattle.c_places.specs.Places.{Place, parameters_of}
use Rattle.c_flow.specs.declared.edge.Ways.{Ways}
use Rattle.c_flow.specs.Flow.{start_place, start_of_all, round_of, within_loop, within_switch, ways_before as with_rest, ways_of_body}
use Rattle.graph_core.specs.declared.block.Comparison.TheVariants as branch
use Rattle.graph_core.specs.Graphs as unit
use Rattle.graph_core.specs.Graphs.{Operand, Branch}
use Rattle.graph_build_names.specs.Conversions.{unsigned_bits}
use Rattle.graph_build_layout.specs.declared.laid.Use.TheVariants.{Anywhere, Tested}
use Rattle.graph_build_layout.specs.declared.laid.Use.TheVariants as use-of
use Rattle.graph_build_names.specs.Names.{scalar_of}
use Rattle.graph_build_layout.specs.Layout.{laid}
use Rattle.graph_build_steps.specs.Drafts.{Made, To, Unused, Either, ending, with_inner_block, label_of}
use Rattle.graph_build_statements.specs.Coding.{Coding, Part, place_of, begun, going, label_for, with_end, placed_at, coded}
use Rattle.graph_build_statements.specs.Reached.{reached, start_reached, condition_reached, step_reached, result_reached, statement_reached, statements_reached}
use Rattle.graph_build_statements.specs.Forms.{default_start, tests, add_run, add_going, add_branching, add_start, add_step, add_head, add_result, add_switch, add, add_all}
use Rattle.graph_build.specs.Units.{note_if, note_parameters, add_close, body_part, function_part}
use Rattle.graph_build_laws.proofs.Statements.{reached_more, condition_more, statement_more, statements_more}
use Rattle.graph_build_laws.proofs.Values.{Setting, n, most, Stands, E, value_stands}
use Rattle.graph_build_laws.proofs.GraphProgramPieces.{ending_is, note_is, closed_is}
use Rattle.graph_build_laws.proofs.Declarators.{DeclaratorsName, IsPart, c, Here, IsCode, AreHere, place_adds, coded_at, going_is, ends_are, declared_are}

module _ (x : Setting) where
  abbrev pub StartNames : TypedStartTree → Type 0
  StartNames Nothing = Unit {0}
  StartNames (Value spot e) = E x e
  StartNames (Declares all) = DeclaratorsName x all

  abbrev pub OptionNames : Option RvalueTree → Type 0
  OptionNames None = Unit {0}
  OptionNames (Some e) = E x e

  abbrev pub StepNames : Option StepTree → Type 0
  StepNames None = Unit {0}
  StepNames (Some s) = E x s.value

  abbrev mutual
    -- a statement's expressions and declarators name what is there
    pub StatementNames : TypedStatementTree → Type 0
    StatementNames (Block all) = StatementsName all
    StatementNames (Declaration all) = DeclaratorsName x all
    StatementNames (Empty spot) = Unit {0}
    StatementNames (Run spot e) = E x e
    StatementNames (If spot e s) = E x e × StatementNames s
    StatementNames (IfElse spot e s r) = E x e × StatementNames s × StatementNames r
    StatementNames (While spot e s) = E x e × StatementNames s
    StatementNames (DoWhile s spot e) = E x e × StatementNames s
    StatementNames (For begin spot e step s) = StartNames begin × OptionNames e × StepNames step × StatementNames s
    StatementNames (Switch spot e all) = E x e × StatementsName all
    StatementNames (Break spot) = Unit {0}
    StatementNames (Continue spot) = Unit {0}
    StatementNames (Return spot e) = OptionNames e

    pub StatementsName : TypedStatementTrees → Type 0
    StatementsName statement.none = Unit {0}
    StatementsName (statement.first s rest) = StatementNames s × StatementsName rest
    StatementsName (case z rest) = StatementsName rest
    StatementsName (default rest) = StatementsName rest

module _ (x : Setting) (places : List Place) (entry scalars top : ℕ) where
  abbrev d : Coding
  d = c x places entry scalars top

  run_is : (at : ℕ) (e : RvalueTree) → E x e → (t : ℕ) (next : Option ℕ) (part : Part) → reached d e use-of.Nothing t ≤ most x → IsPart x part → IsPart x (add_run d at e t next part)
  run_is at e s t next part le h =
      place_adds x places entry scalars top at (coded d at e t (Unused (going d next part.inner))) part h (λ here. coded_at x places entry scalars top at part e s t (Unused (going d next part.inner)) le (going_is x places entry scalars top at part next part.inner here))

  going_adds : (at : ℕ) (next : Option ℕ) (part : Part) → IsPart x part → IsPart x (add_going d at next part)
  going_adds at next part h = place_adds x places entry scalars top at (going d next part.inner) part h (λ here. going_is x places entry scalars top at part next part.inner here)

  branching_is : (at : ℕ) (e : RvalueTree) → E x e → (t : ℕ) (one other : Option ℕ) (part : Part) → reached d e Tested t ≤ most x → IsPart x part → IsPart x (add_branching d at e t one other part)
  branching_is at e s t one other part le h =
      let ends = with_end d at other part.inner in
      let g = Either (label_for d one ends) (label_for d other part.inner) (with_end d at one ends) in
      place_adds x places entry scalars top at (coded d at e t g) part h
      (λ here. coded_at x places entry scalars top at part e s t g le (ends_are x places entry scalars top at part one ends (ends_are x places entry scalars top at part other part.inner here)))

  begin_is : (begin : TypedStartTree) → StartNames x begin → (t head : ℕ) (part : Part) → start_reached d begin t ≤ most x → IsPart x part → IsPart x (add_start d begin t head part)
  begin_is Nothing s t head part le h = h
  begin_is (Value spot e) s t head part le h = run_is spot.at e s t (Some head) part le h
  begin_is (Declares all) s t head part le h = declared_are x places entry scalars top all s t (Some head) part le h

  round_is : (step : Option StepTree) → StepNames x step → (t head : ℕ) (part : Part) → step_reached d step t ≤ most x → IsPart x part → IsPart x (add_step d step t head part)
  round_is None s t head part le h = h
  round_is (Some p) s t head part le h = run_is p.spot.at p.value s t (Some head) part le h

  head_is : (begin : TypedStartTree) (e : Option RvalueTree) → StartNames x begin → OptionNames x e → (t at : ℕ) (inside next : Option ℕ) (part : Part) → start_reached d begin t ≤ most x → condition_reached d e (start_reached d begin t) ≤ most x → IsPart x part → IsPart x (add_head d begin t at e inside next part)
  head_is begin None b s t at inside next part le more h = going_adds at inside (add_start d begin t at part) (begin_is begin b t at part le h)
  head_is begin (Some e) b s t at inside next part le more h = begin_is begin b t at (add_branching d at e (start_reached d begin t) inside next part) le (branching_is at e s (start_reached d begin t) inside next part more h)

  result_is : (at : ℕ) (e : Option RvalueTree) → OptionNames x e → (t : ℕ) (part : Part) → result_reached d e t ≤ most x → IsPart x part → IsPart x (add_result d at e t part)
  result_is at None s t part le h = place_adds x places entry scalars top at (ending (unit.Return None) part.inner) part h (λ here. ending_is x (Here x places entry scalars top at part) (unit.Return None) part.inner tt here)
  result_is at (Some e) s t part le h =
      let v = (laid (n x) e Anywhere (begun d t)).value in
      place_adds x places entry scalars top at (coded d at e t (To None (ending (unit.Return (Some v)) part.inner))) part h
      (λ here. coded_at x places entry scalars top at part e s t (To None (ending (unit.Return (Some v)) part.inner)) le (tt, ending_is x (Here x places entry scalars top at part) (unit.Return (Some v)) part.inner (value_stands x e s Anywhere (begun d t) tt (omega (arith, le))) here))

  tests_are : (at : ℕ) (part : Part) (a : Operand) → Stands x a → (all : TypedStatementTrees) (next other : Option ℕ) (inner : List unit.Block) → AreHere x places entry scalars top at part inner → IsCode x places entry scalars top at part (tests d at a all next other inner)
  tests_are at part a s statement.none next other inner here = going_is x places entry scalars top at part other inner here
  tests_are at part a s (statement.first f rest) next other inner here = tests_are at part a s rest next other inner here
  tests_are at part a s (case z rest) next other inner here =
      let to = start_of_all rest next in
      let own = Here x places entry scalars top at part in
      let m = tests d at a rest next other (with_end d at to inner) in
      ending_is x own (Branch branch.Equal a (unit.Constant (unsigned_bits z)) (label_for d to inner) (label_of top m)) (with_inner_block (place_of d at) m) (s, tt)
      (closed_is x own (place_of d at) top (inl refl) m (tests_are at part a s rest next other (with_end d at to inner) (ends_are x places entry scalars top at part to inner here)))
  tests_are at part a s (default rest) next other inner here = tests_are at part a s rest next other inner here

  switch_is : (at : ℕ) (e : RvalueTree) → E x e → (all : TypedStatementTrees) (t : ℕ) (next : Option ℕ) (part : Part) → reached d e Anywhere t ≤ most x → IsPart x part → IsPart x (add_switch d at e all t next part)
  switch_is at e s all t next part le h =
      let v = (laid (n x) e Anywhere (begun d t)).value in
      let m = tests d at v all next (default_start all next) part.inner in
      place_adds x places entry scalars top at (coded d at e t (To None m)) part h
      (λ here. coded_at x places entry scalars top at part e s t (To None m) le (tt, tests_are at part v (value_stands x e s Anywhere (begun d t) tt (omega (arith, le))) all next (default_start all next) part.inner here))

  step_more : (p : Option StepTree) (t : ℕ) → t ≤ step_reached d p t
  step_more None t = omega arith
  step_more (Some p) t = reached_more d p.value use-of.Nothing t

  mutual
    -- A statement's blocks name what is there.
    pub statement_is : (s : TypedStatementTree) → StatementNames x s → (t : ℕ) (w : Ways) (part : Part) → statement_reached d s t ≤ most x → IsPart x part → IsPart x (add d s t w part)
    statement_is (Block all) h t w part le k = statements_are all h t w part le k
    statement_is (Declaration all) h t w part le k = declared_are x places entry scalars top all h t w.next part le k
    statement_is (Empty spot) h t w part le k = going_adds spot.at w.next part k
    statement_is (Run spot e) h t w part le k = run_is spot.at e h t w.next part le k
    statement_is (If spot e s) h t w part le k = (
        let t1 = reached d e Tested t in
        let later = add d s t1 w part in
        branching_is spot.at e h.0 t (start_place s w.next) w.next later (omega (arith, le, statement_more d s t1)) (statement_is s h.1 t1 w part le k))
    statement_is (IfElse spot e s r) h t w part le k = (
        let t1 = reached d e Tested t in
        let t2 = statement_reached d s t1 in
        let other = add d r t2 w part in
        let later = add d s t1 w other in
        let up = statement_more d r t2 in
        branching_is spot.at e h.0 t (start_place s w.next) (start_place r w.next) later (omega (arith, le, up, statement_more d s t1)) (statement_is s h.1 t1 w other (omega (arith, le, up)) (statement_is r h.2 t2 w part le k)))
    statement_is (While spot e s) h t w part le k = (
        let t1 = reached d e Tested t in
        let later = add d s t1 (within_loop spot.at w) part in
        branching_is spot.at e h.0 t (start_place s (Some spot.at)) w.next later (omega (arith, le, statement_more d s t1)) (statement_is s h.1 t1 (within_loop spot.at w) part le k))
    statement_is (DoWhile s spot e) h t w part le k = (
        let t1 = statement_reached d s t in
        let later = add_branching d spot.at e t1 (start_place s (Some spot.at)) w.next part in
        statement_is s h.1 t (within_loop spot.at w) later (omega (arith, le, reached_more d e Tested t1)) (branching_is spot.at e h.0 t1 (start_place s (Some spot.at)) w.next part le k))
    statement_is (For begin spot e step s) h t w part le k = (
        let round = round_of step spot.at in
        let t1 = start_reached d begin t in
        let t2 = condition_reached d e t1 in
        let t3 = statement_reached d s t2 in
        let body = add d s t2 (within_loop round w) part in
        let later = add_step d step t3 spot.at body in
        let up3 = step_more step t3 in
        let up2 = statement_more d s t2 in
        let up1 = condition_more d e t1 in
        head_is begin e h.0 h.1 t spot.at (start_place s (Some round)) w.next later (omega (arith, le, up3, up2, up1)) (omega (arith, le, up3, up2))
        (round_is step h.2 t3 spot.at body le (statement_is s h.3 t2 (within_loop round w) part (omega (arith, le, up3)) k)))
    statement_is (Switch spot e all) h t w part le k = (
        let t1 = reached d e Anywhere t in
        let later = add_all d all t1 (within_switch w) part in
        switch_is spot.at e h.0 all t w.next later (omega (arith, le, statements_more d all t1)) (statements_are all h.1 t1 (within_switch w) part le k))
    statement_is (Break spot) h t w part le k = going_adds spot.at w.by_break part k
    statement_is (Continue spot) h t w part le k = going_adds spot.at w.by_continue part k
    statement_is (Return spot e) h t w part le k = result_is spot.at e h t part le k

    pub statements_are : (all : TypedStatementTrees) → StatementsName x all → (t : ℕ) (w : Ways) (part : Part) → statements_reached d all t ≤ most x → IsPart x part → IsPart x (add_all d all t w part)
    statements_are statement.none h t w part le k = k
    statements_are (statement.first s rest) h t w part le k = (
        let t1 = statement_reached d s t in
        let later = add_all d rest t1 w part in
        statement_is s h.0 t (with_rest rest w) later (omega (arith, le, statements_more d rest t1)) (statements_are rest h.1 t1 w part le k))
    statements_are (case z rest) h t w part le k = statements_are rest h t w part le k
    statements_are (default rest) h t w part le k = statements_are rest h t w part le k

  -- the notes of parameters
  noted_if : (at : ℕ) (part : Part) (v : ℕ) (o : Option ℕ) → scalar_of (n x) v ≡ o → (m : Made) → IsCode x places entry scalars top at part m → IsCode x places entry scalars top at part (note_if (n x) o m)
  noted_if at part v None e m k = k
  noted_if at part v (Some y) e m k = note_is x (Here x places entry scalars top at part) y m (x.scalars v y e) k

  noted_all : (at : ℕ) (part : Part) (all : List ℕ) (m : Made) → IsCode x places entry scalars top at part m → IsCode x places entry scalars top at part (note_parameters (n x) all m)
  noted_all at part [] m k = k
  noted_all at part (v ∷ more) m k = noted_if at part v (scalar_of (n x) v) refl (note_parameters (n x) more m) (noted_all at part more m k)

  close_is : (is_main : Bool) (closing : Option ℕ) (part : Part) → IsPart x part → IsPart x (add_close d is_main closing part)
  close_is is_main None part h = h
  close_is is_main (Some at) part h = by is_main
    where
      by : (b : Bool) → IsPart x (placed_at d at (ending (unit.Return (if b then Some (unit.Constant 0) else None)) part.inner) part.placed)
      by true = place_adds x places entry scalars top at (ending (unit.Return (Some (unit.Constant 0))) part.inner) part h (λ here. ending_is x (Here x places entry scalars top at part) (unit.Return (Some (unit.Constant 0))) part.inner tt here)
      by false = place_adds x places entry scalars top at (ending (unit.Return None) part.inner) part h (λ here. ending_is x (Here x places entry scalars top at part) (unit.Return None) part.inner tt here)

  -- The blocks of a function whose statements name what is there name what is there.
  pub function_is : (f : TypedFunctionTree) (is_main : Bool) → StatementsName x f.body → statements_reached d f.body scalars ≤ most x → IsPart x (function_part d f is_main)
  function_is f is_main h le =
      let ways = ways_of_body f in
      let empty : Part = record { placed = []; inner = [] } in
      let closing = add_close d is_main ways.next empty in
      let body = body_part d f is_main in
      let go = going d (start_of_all f.body ways.next) body.inner in
      place_adds x places entry scalars top f.spot.at (note_parameters (n x) (parameters_of f) go) body (statements_are f.body h scalars ways closing le (close_is is_main ways.next empty (record { placed = tt; inner = tt })))
      (λ here. noted_all f.spot.at body (parameters_of f) go (going_is x places entry scalars top f.spot.at body (start_of_all f.body ways.next) body.inner here))
