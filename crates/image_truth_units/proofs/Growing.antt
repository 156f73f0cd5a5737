-- Inner blocks are only added by the code of statements.
use Rattle.std.proofs.Common.{ℕ, Option, Some, None, List, [], ◌∷◌}
use Rattle.c_tree.specs.TypedExpressions.{RvalueTree}
use Rattle.c_tree.specs.TypedStatements as statement
use Rattle.c_tree.specs.TypedStatements.{DeclaredTree, Declaration, TypedStatementTrees, case, default}
use Rattle.c_flow.specs.Flow.{start_of_all}
use Rattle.graph_core.specs.Graphs as unit
use Rattle.graph_core.specs.Graphs.{Operand}
use Rattle.graph_build_steps.specs.Drafts.{Goal, ending, with_inner_block}
use Rattle.graph_build_code.specs.Code.{code}
use Rattle.graph_build_statements.specs.Coding.{Coding, place_of, going, with_end}
use Rattle.graph_build_statements.specs.Declaring.{declare}
use Rattle.graph_build_statements.specs.Forms.{tests}
use Rattle.graph_build_laws.specs.Passing.{Grows}
use Rattle.graph_build_laws.proofs.GraphMarkingPieces.{inner_of, grows_on, grows_none, closed_grows}
use Rattle.graph_build_laws.proofs.Passes.{code_passes}
use Rattle.graph_build_laws.proofs.GraphMarkingStatements.{statement_adds}
use Rattle.image_truth_units.proofs.Expressions.{any_passes}

module _ (c : Coding) where
  pub code_grows : (at : ℕ) (e : RvalueTree) (t : ℕ) (g : Goal) → Grows (inner_of g) (code c.names (place_of c at) c.top e t g).inner
  code_grows at e t g = (code_passes (place_of c at) c.top (λ m. Unit {0}) (λ l i. Unit {0}) (λ i. Unit {0}) (any_passes (place_of c at) c.top) c.names e t g).0

  pub going_grows : (next : Option ℕ) (inner : List unit.Block) → Grows inner (going c next inner).inner
  going_grows (Some to) inner = grows_none inner
  going_grows None inner = grows_none inner

  pub end_grows : (at : ℕ) (next : Option ℕ) (inner : List unit.Block) → Grows inner (with_end c at next inner)
  end_grows at (Some to) inner = grows_none inner
  end_grows at None inner = closed_grows (place_of c at) (ending (unit.Return None) inner)

  pub declare_grows : (d : DeclaredTree) (t : ℕ) (next : Option ℕ) (inner : List unit.Block) → Grows inner (declare c d t (going c next inner)).inner
  declare_grows d t next inner =
      (statement_adds c (λ p m. Unit {0}) (λ p l i. Unit {0}) (λ i. Unit {0}) (λ p. any_passes p c.top) (Declaration (d ∷ [])) t (record { next = next; by_break = None; by_continue = None }) (record { placed = []; inner = inner }) (λ e a i st. tt)).0

  pub tests_grow : (at : ℕ) (a : Operand) (all : TypedStatementTrees) (next other : Option ℕ) (inner : List unit.Block) → Grows inner (tests c at a all next other inner).inner
  tests_grow at a statement.none next other inner = going_grows other inner
  tests_grow at a (statement.first s rest) next other inner = tests_grow at a rest next other inner
  tests_grow at a (default rest) next other inner = tests_grow at a rest next other inner
  tests_grow at a (case z rest) next other inner =
      let to = start_of_all rest next in
      let ends = with_end c at to inner in
      let m = tests c at a rest next other ends in
      grows_on inner ends (with_inner_block (place_of c at) m) (end_grows at to inner) (grows_on ends m.inner (with_inner_block (place_of c at) m) (tests_grow at a rest next other ends) (closed_grows (place_of c at) m))
