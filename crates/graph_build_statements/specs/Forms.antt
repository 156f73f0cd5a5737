-- What stands in the blocks of statements.
use Rattle.std.specs.Prelude.{ℕ, Option, Some, None, List}
use Rattle.c_tree.specs.TypedExpressions.{RvalueTree}
use Rattle.c_tree.specs.TypedStatements as statement
use Rattle.c_tree.specs.TypedStatements.{TypedStartTree, Nothing, Value, Declares, StepTree, TypedStatementTree, Block, Declaration, Empty, Run, If, IfElse, While, DoWhile, For, Switch, Break, Continue, Return, TypedStatementTrees, case, default}
use Rattle.c_flow.specs.declared.edge.Ways.{Ways}
use Rattle.c_flow.specs.Flow.{start_place, start_of_all, round_of, within_loop, within_switch, ways_before as with_rest}
use Rattle.graph_core.specs.declared.block.Comparison.TheVariants as branch
use Rattle.graph_core.specs.Graphs as unit
use Rattle.graph_core.specs.Graphs.{Operand, Branch}
use Rattle.graph_build_names.specs.Conversions.{unsigned_bits}
use Rattle.graph_build_layout.specs.declared.laid.Use.TheVariants.{Anywhere, Tested}
use Rattle.graph_build_layout.specs.Layout.{laid}
use Rattle.graph_build_steps.specs.Drafts.{Made, To, Unused, ending, with_inner_block, label_of}
use Rattle.graph_build_statements.specs.Coding.{Coding, Part, place_of, begun, going, label_for, with_end, placed_at, coded, branching}
use Rattle.graph_build_statements.specs.Reached.{reached, start_reached, condition_reached, statement_reached}
use Rattle.graph_build_statements.specs.Declaring.{add_declared}

-- where `default` leads, or what follows the `switch`
abbrev pub default_start : TypedStatementTrees → (next : Option ℕ) → Option ℕ
default_start statement.none next = next
default_start (statement.first s rest) next = default_start rest next
default_start (case z rest) next = default_start rest next
default_start (default rest) next = start_of_all rest next

module _ (c : Coding) where
  -- The tests of a `switch` in the order of its labels, each but the first a block of its own; the last one leads to
  -- `default`, or behind the `switch`.
  abbrev pub tests : (at : ℕ) → Operand → TypedStatementTrees → (next other : Option ℕ) → List unit.Block → Made
  tests at a statement.none next other inner = going c other inner
  tests at a (statement.first s rest) next other inner = tests at a rest next other inner
  tests at a (case z rest) next other inner =
      let to = start_of_all rest next in
      let m = tests at a rest next other (with_end c at to inner) in
      ending (Branch branch.Equal a (unit.Constant (unsigned_bits z)) (label_for c to inner) (label_of c.top m))
      (with_inner_block (place_of c at) m)
  tests at a (default rest) next other inner = tests at a rest next other inner

  -- the block of a place that runs an expression
  abbrev pub add_run : (at : ℕ) → RvalueTree → (free : ℕ) → (next : Option ℕ) → Part → Part
  add_run at e t next part = placed_at c at (coded c at e t (Unused (going c next part.inner))) part.placed

  -- of a place that leads to another
  abbrev pub add_going : (at : ℕ) → (next : Option ℕ) → Part → Part
  add_going at next part = placed_at c at (going c next part.inner) part.placed

  -- of a place that is a condition
  abbrev pub add_branching : (at : ℕ) → RvalueTree → (free : ℕ) → (one other : Option ℕ) → Part → Part
  add_branching at e t one other part = placed_at c at (branching c at e t one other part.inner) part.placed

  -- the first part of a `for`
  abbrev pub add_start : TypedStartTree → (free : ℕ) → (head : ℕ) → Part → Part
  add_start Nothing t head part = part
  add_start (Value spot e) t head part = add_run spot.at e t (Some head) part
  add_start (Declares all) t head part = add_declared c all t (Some head) part

  -- its step
  abbrev pub add_step : Option StepTree → (free : ℕ) → (head : ℕ) → Part → Part
  add_step None t head part = part
  add_step (Some s) t head part = add_run s.spot.at s.value t (Some head) part

  -- The condition of a `for` stands behind its first part, and a head without one before it.
  abbrev pub add_head : TypedStartTree → (free : ℕ) → (at : ℕ) → Option RvalueTree → (inside next : Option ℕ) → Part
      → Part
  add_head begin t at None inside next part = add_going at inside (add_start begin t at part)
  add_head begin t at (Some e) inside next part =
      add_start begin t at (add_branching at e (start_reached c begin t) inside next part)

  -- a `return`
  abbrev pub add_result : (at : ℕ) → Option RvalueTree → (free : ℕ) → Part → Part
  add_result at None t part = placed_at c at (ending (unit.Return None) part.inner) part.placed
  add_result at (Some e) t part =
      placed_at c at
      (coded c at e t
      (To None (ending (unit.Return (Some (laid c.names e Anywhere (begun c t)).value)) part.inner)))
      part.placed

  -- a `switch`: its value and its tests
  abbrev pub add_switch : (at : ℕ) → RvalueTree → TypedStatementTrees → (free : ℕ) → (next : Option ℕ) → Part → Part
  add_switch at e all t next part =
      placed_at c at
      (coded c at e t
      (To None
      (tests at (laid c.names e Anywhere (begun c t)).value all next (default_start all next) part.inner)))
      part.placed

  abbrev mutual
    -- The blocks of a statement, the last places first, before those that stand. Ways are by the positions of places.
    pub add : TypedStatementTree → (free : ℕ) → Ways → Part → Part
    add (Block all) t w part = add_all all t w part
    add (Declaration all) t w part = add_declared c all t w.next part
    add (Empty spot) t w part = add_going spot.at w.next part
    add (Run spot e) t w part = add_run spot.at e t w.next part
    add (If spot e s) t w part =
        add_branching spot.at e t (start_place s w.next) w.next (add s (reached c e Tested t) w part)
    add (IfElse spot e s r) t w part =
        add_branching spot.at e t (start_place s w.next) (start_place r w.next)
        (add s (reached c e Tested t) w (add r (statement_reached c s (reached c e Tested t)) w part))
    add (While spot e s) t w part =
        add_branching spot.at e t (start_place s (Some spot.at)) w.next
        (add s (reached c e Tested t) (within_loop spot.at w) part)
    add (DoWhile s spot e) t w part =
        add s t (within_loop spot.at w)
        (add_branching spot.at e (statement_reached c s t) (start_place s (Some spot.at)) w.next part)
    add (For begin spot e step s) t w part =
        let behind = condition_reached c e (start_reached c begin t) in
        add_head begin t spot.at e (start_place s (Some (round_of step spot.at))) w.next
        (add_step step (statement_reached c s behind) spot.at
        (add s behind (within_loop (round_of step spot.at) w) part))
    add (Switch spot e all) t w part =
        add_switch spot.at e all t w.next (add_all all (reached c e Anywhere t) (within_switch w) part)
    add (Break spot) t w part = add_going spot.at w.by_break part
    add (Continue spot) t w part = add_going spot.at w.by_continue part
    add (Return spot e) t w part = add_result spot.at e t part

    -- those of statements, each followed by those behind it
    pub add_all : TypedStatementTrees → (free : ℕ) → Ways → Part → Part
    add_all statement.none t w part = part
    add_all (statement.first s rest) t w part =
        add s t (with_rest rest w) (add_all rest (statement_reached c s t) w part)
    add_all (case z rest) t w part = add_all rest t w part
    add_all (default rest) t w part = add_all rest t w part
