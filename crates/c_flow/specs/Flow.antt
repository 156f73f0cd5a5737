-- Where execution may go from place to place (ISO/IEC 9899:2011, 6.8). Places are named by their positions. A condition
-- leads both ways, whatever it is.
use Rattle.std.specs.Prelude.{ℕ, List, [], ◌∷◌, ◌++◌, map, Option, Some, None, if◌then◌else◌}
use Rattle.c_tree.specs.TypedExpressions.{RvalueTree}
use Rattle.c_tree.specs.TypedStatements.{DeclaredTree, TypedStartTree, Nothing, Value, Declares, StepTree, TypedStatementTree, Block, Declaration, Empty, Run, If, IfElse, While, DoWhile, For, Switch, Break, Continue, Return, TypedStatementTrees, none, first, case, default}
use Rattle.c_tree.specs.Programs.{TypedFunctionTree, ProgramTree}
use Rattle.c_places.specs.Flow.{has_default, reaches_end}
use Rattle.places.specs.declared.flow.FlowStep.{FlowStep}
use Rattle.c_flow.specs.declared.edge.Edge.{Edge}
use Rattle.c_flow.specs.declared.edge.Ways.{Ways}
use Rattle.c_places.specs.Places.{Place, place_number_at, places_of_program}

-- from a place to another, if there is one
abbrev pub edge : ℕ → Option ℕ → List Edge
edge from None = []
edge from (Some to) = record { from = from; to = to } ∷ []

-- declarators begin with the first one
abbrev pub start_of_declarators : List DeclaredTree → Option ℕ → Option ℕ
start_of_declarators [] next = next
start_of_declarators (d ∷ all) next = Some d.spot.at

-- where a `for` begins, whose condition or head stands at a position
abbrev pub start_of_for : TypedStartTree → ℕ → Option ℕ
start_of_for Nothing head = Some head
start_of_for (Value spot e) head = Some spot.at
start_of_for (Declares all) head = start_of_declarators all (Some head)

abbrev mutual
  -- The place where a statement begins that something follows: its first place in order of execution, and what follows
  -- it if it has none.
  pub start_place : TypedStatementTree → (next : Option ℕ) → Option ℕ
  start_place (Block all) next = start_of_all all next
  start_place (Declaration all) next = start_of_declarators all next
  start_place (Empty spot) next = Some spot.at
  start_place (Run spot e) next = Some spot.at
  start_place (If spot c chosen) next = Some spot.at
  start_place (IfElse spot c chosen other) next = Some spot.at
  start_place (While spot c body) next = Some spot.at
  start_place (DoWhile body spot c) next = start_place body (Some spot.at)
  start_place (For begin spot c step body) next = start_of_for begin spot.at
  start_place (Switch spot e all) next = Some spot.at
  start_place (Break spot) next = Some spot.at
  start_place (Continue spot) next = Some spot.at
  start_place (Return spot e) next = Some spot.at

  -- Where statements begin. A label begins what follows it.
  pub start_of_all : TypedStatementTrees → (next : Option ℕ) → Option ℕ
  start_of_all none next = next
  start_of_all (first s rest) next = start_place s (start_of_all rest next)
  start_of_all (case value rest) next = start_of_all rest next
  start_of_all (default rest) next = start_of_all rest next

-- Declarators lead each to the following one, and the last to what follows.
abbrev pub flow_of_declarators : List DeclaredTree → (next : Option ℕ) → List Edge
flow_of_declarators [] next = []
flow_of_declarators (d ∷ all) next = edge d.spot.at (start_of_declarators all next) ++ flow_of_declarators all next

-- The first part of a `for` leads to its condition or head.
abbrev pub flow_of_start : TypedStartTree → (head : ℕ) → List Edge
flow_of_start Nothing head = []
flow_of_start (Value spot e) head = edge spot.at (Some head)
flow_of_start (Declares all) head = flow_of_declarators all (Some head)

-- what follows the body of a `for`: its step, or else its condition or head
abbrev pub round_of : Option StepTree → (head : ℕ) → ℕ
round_of None head = head
round_of (Some s) head = s.spot.at

-- The step of a `for` leads to its condition or head.
abbrev pub flow_of_step : Option StepTree → (head : ℕ) → List Edge
flow_of_step None head = []
flow_of_step (Some s) head = edge s.spot.at (Some head)

-- The condition of a `for` may lead out of it; a head without a condition does not.
abbrev pub flow_out : Option RvalueTree → ℕ → (next : Option ℕ) → List Edge
flow_out None head next = []
flow_out (Some c) head next = edge head next

-- A `switch` leads to what begins at each label.
abbrev pub flow_to_labels : ℕ → TypedStatementTrees → (next : Option ℕ) → List Edge
flow_to_labels from none next = []
flow_to_labels from (first s rest) next = flow_to_labels from rest next
flow_to_labels from (case value rest) next = edge from (start_of_all rest next) ++ flow_to_labels from rest next
flow_to_labels from (default rest) next = edge from (start_of_all rest next) ++ flow_to_labels from rest next

-- Without `default` it also leads to what follows it.
abbrev pub flow_past : ℕ → TypedStatementTrees → (next : Option ℕ) → List Edge
flow_past from all next = if has_default all then [] else edge from next

-- within the body of a loop: after it comes its next round, `break` leads to what follows the loop, and `continue` to
-- the next round
abbrev pub within_loop : (round : ℕ) → Ways → Ways
within_loop round w = record { next = Some round; by_break = w.next; by_continue = Some round }

-- within the block of a `switch`: `break` leads to what follows it
abbrev pub within_switch : Ways → Ways
within_switch w = record { next = w.next; by_break = w.next; by_continue = w.by_continue }

-- behind a statement of a block come the others
abbrev pub ways_before : TypedStatementTrees → Ways → Ways
ways_before rest w = record { next = start_of_all rest w.next; by_break = w.by_break; by_continue = w.by_continue }

abbrev mutual
  -- Where execution may go from the places of a statement.
  pub flow_of : Ways → TypedStatementTree → List Edge
  flow_of w (Block all) = flow_of_all w all
  flow_of w (Declaration all) = flow_of_declarators all w.next
  flow_of w (Empty spot) = edge spot.at w.next
  flow_of w (Run spot e) = edge spot.at w.next
  flow_of w (If spot c chosen) = edge spot.at (start_place chosen w.next) ++ edge spot.at w.next ++ flow_of w chosen
  flow_of w (IfElse spot c chosen other) =
      edge spot.at (start_place chosen w.next) ++ edge spot.at (start_place other w.next) ++ flow_of w chosen
      ++ flow_of w other
  flow_of w (While spot c body) =
      edge spot.at (start_place body (Some spot.at)) ++ edge spot.at w.next ++ flow_of (within_loop spot.at w) body
  flow_of w (DoWhile body spot c) =
      edge spot.at (start_place body (Some spot.at)) ++ edge spot.at w.next ++ flow_of (within_loop spot.at w) body
  flow_of w (For begin spot c step body) =
      flow_of_start begin spot.at ++ edge spot.at (start_place body (Some (round_of step spot.at)))
      ++ flow_out c spot.at w.next ++ flow_of_step step spot.at
      ++ flow_of (within_loop (round_of step spot.at) w) body
  flow_of w (Switch spot e all) =
      flow_to_labels spot.at all w.next ++ flow_past spot.at all w.next ++ flow_of_all (within_switch w) all
  flow_of w (Break spot) = edge spot.at w.by_break
  flow_of w (Continue spot) = edge spot.at w.by_continue
  flow_of w (Return spot e) = []

  -- the statements of a block, each followed by those behind it
  pub flow_of_all : Ways → TypedStatementTrees → List Edge
  flow_of_all w none = []
  flow_of_all w (first s rest) = flow_of (ways_before rest w) s ++ flow_of_all w rest
  flow_of_all w (case value rest) = flow_of_all w rest
  flow_of_all w (default rest) = flow_of_all w rest

-- The body of a function is followed by its closing brace, if flow reaches it. There is no loop around it.
abbrev pub ways_of_body : TypedFunctionTree → Ways
ways_of_body f =
    record { next = if reaches_end f.body then Some f.close.at else None; by_break = None; by_continue = None }

-- The entry of a function leads to the start of its body.
abbrev pub flow_of_function : TypedFunctionTree → List Edge
flow_of_function f = edge f.spot.at (start_of_all f.body (ways_of_body f).next) ++ flow_of_all (ways_of_body f) f.body

-- the steps of the flow of functions
abbrev pub flow_of_functions : List TypedFunctionTree → List Edge
flow_of_functions [] = []
flow_of_functions (f ∷ all) = flow_of_function f ++ flow_of_functions all

-- where execution may go in a program, by the positions of places
abbrev pub flow_of_program : ProgramTree → List Edge
flow_of_program p = flow_of_functions p.functions

-- the same by the numbers of places
abbrev pub flow_step_of : List Place → Edge → FlowStep
flow_step_of places e =
    record { from = record { 0 = place_number_at places e.from }; to = record { 0 = place_number_at places e.to } }

-- the steps of the flow of a program, by the numbers of their places
abbrev pub steps_of_program : ProgramTree → List FlowStep
steps_of_program p = map (flow_step_of (places_of_program p)) (flow_of_program p)
