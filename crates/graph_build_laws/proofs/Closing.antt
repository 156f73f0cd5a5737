-- Where the blocks of statements are at home, so are those that stood before them.
use Rattle.std.proofs.Common.{ℕ, Option, Some, None, List, [], ◌∷◌}
use Rattle.debug_records.specs.declared.source.Spot.{Spot}
use Rattle.c_tree.specs.TypedExpressions.{RvalueTree}
use Rattle.c_tree.specs.TypedStatements as statement
use Rattle.c_tree.specs.TypedStatements.{DeclaredTree, TypedStartTree, Nothing, Value, Declares, StepTree, TypedStatementTree, Block, Declaration, Empty, Run, If, IfElse, While, DoWhile, For, Switch, Break, Continue, Return, TypedStatementTrees, case, default}
use Rattle.c_flow.specs.declared.edge.Ways.{Ways}
use Rattle.c_flow.specs.Flow.{start_place, round_of, within_loop, within_switch, ways_before as with_rest}
use Rattle.graph_build_layout.specs.declared.laid.Use.TheVariants.{Anywhere, Tested}
use Rattle.graph_build_names.specs.Names.{scalar_of}
use Rattle.graph_build_statements.specs.Coding.{Coding, Part}
use Rattle.graph_build_statements.specs.Reached.{reached, initial_reached, start_reached, condition_reached, statement_reached}
use Rattle.graph_build_statements.specs.Declaring.{add_declared}
use Rattle.graph_build_statements.specs.Forms.{add_branching, add_start, add_step, add_head, add_result, add, add_all}
use Rattle.graph_build_runs.proofs.Activities.{Activity}
use Rattle.graph_build_runs.proofs.Forming.{AreHome}

module _ (k : Activity) (c : Coding) where
  -- the blocks of a part are at home
  abbrev Homely : Part → Type 0
  Homely part = AreHome k part.placed

  declared_back : (all : List DeclaredTree) (t : ℕ) (next : Option ℕ) (part : Part) → Homely (add_declared c all t next part) → Homely part
  declared_back [] t next part h = h
  declared_back (d ∷ more) t next part h = declared_back more (initial_reached c (scalar_of c.names d.variable) d.initial t) next part h.1

  start_back : (begin : TypedStartTree) (t head : ℕ) (part : Part) → Homely (add_start c begin t head part) → Homely part
  start_back Nothing t head part h = h
  start_back (Value spot e) t head part h = h.1
  start_back (Declares all) t head part h = declared_back all t (Some head) part h

  step_back : (step : Option StepTree) (t head : ℕ) (part : Part) → Homely (add_step c step t head part) → Homely part
  step_back None t head part h = h
  step_back (Some s) t head part h = h.1

  head_back : (begin : TypedStartTree) (spot : Spot) (e : Option RvalueTree) (t : ℕ) (inside next : Option ℕ) (part : Part) → Homely (add_head c begin t spot.at e inside next part) → Homely part
  head_back begin spot None t inside next part h = start_back begin t spot.at part h.1
  head_back begin spot (Some e) t inside next part h = (start_back begin t spot.at (add_branching c spot.at e (start_reached c begin t) inside next part) h).1

  result_back : (spot : Spot) (e : Option RvalueTree) (t : ℕ) (part : Part) → Homely (add_result c spot.at e t part) → Homely part
  result_back spot None t part h = h.1
  result_back spot (Some e) t part h = h.1

  mutual
    statement_back : (s : TypedStatementTree) (t : ℕ) (w : Ways) (part : Part) → Homely (add c s t w part) → Homely part
    statement_back (Block all) t w part h = all_back all t w part h
    statement_back (Declaration all) t w part h = declared_back all t w.next part h
    statement_back (Empty spot) t w part h = h.1
    statement_back (Run spot e) t w part h = h.1
    statement_back (If spot e s) t w part h = statement_back s (reached c e Tested t) w part h.1
    statement_back (IfElse spot e s r) t w part h =
        let n = reached c e Tested t in
        let m = statement_reached c s n in statement_back r m w part (statement_back s n w (add c r m w part) h.1)
    statement_back (While spot e s) t w part h = statement_back s (reached c e Tested t) (within_loop spot.at w) part h.1
    statement_back (DoWhile s spot e) t w part h = (statement_back s t (within_loop spot.at w) (add_branching c spot.at e (statement_reached c s t) (start_place s (Some spot.at)) w.next part) h).1
    statement_back (For begin spot e step s) t w part h =
        let n = condition_reached c e (start_reached c begin t) in
        let ways = within_loop (round_of step spot.at) w in
        let body = add c s n ways part in
        let later = add_step c step (statement_reached c s n) spot.at body in
        statement_back s n ways part (step_back step (statement_reached c s n) spot.at body (head_back begin spot e t (start_place s (Some (round_of step spot.at))) w.next later h))
    statement_back (Switch spot e all) t w part h = all_back all (reached c e Anywhere t) (within_switch w) part h.1
    statement_back (Break spot) t w part h = h.1
    statement_back (Continue spot) t w part h = h.1
    statement_back (Return spot e) t w part h = result_back spot e t part h

    pub all_back : (all : TypedStatementTrees) (t : ℕ) (w : Ways) (part : Part) → Homely (add_all c all t w part) → Homely part
    all_back statement.none t w part h = h
    all_back (statement.first s rest) t w part h = let n = statement_reached c s t in all_back rest n w part (statement_back s t (with_rest rest w) (add_all c rest n w part) h)
    all_back (case z rest) t w part h = all_back rest t w part h
    all_back (default rest) t w part h = all_back rest t w part h
