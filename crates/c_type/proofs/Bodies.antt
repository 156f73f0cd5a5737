-- The function that a block makes.
use Rattle.std.proofs.Common.{◌≡◌, ℕ, ◌-◌, List, [], ◌∷◌, length, map, refl, sym}
use Rattle.debug_records.specs.declared.source.Spot.{Spot}
use Rattle.c_tree.specs.declared.statement.Block.{Block, fold_out-Block}
use Rattle.c_tree.specs.declared.object_type.ValueType.{ValueType}
use Rattle.c_tree.specs.Statements.{StatementTree, BlockTree, BranchTree, chain_of_statements, statement_step, block_step, branch_step, statement_view, block_view}
use Rattle.c_tree.specs.Trees.{FunctionTree}
use Rattle.c_tree.specs.TypedStatements.{TypedStatementTrees}
use Rattle.c_type_bounds.specs.Counts.{capped}
use Rattle.c_type_bounds.specs.Weights.{definition_weight}
use Rattle.c_type_expressions.specs.Names.{SignatureTree}
use Rattle.c_type_declarations.specs.Progress.{ProgressTree, means, next_met, opened, scope_left}
use Rattle.c_type_statements.specs.Statements.{statements_met}
use Rattle.c_type.specs.Functions.{parameters_met, setting_of, function_made, body_met}

pub block_out : (b : Block) → block_view b ≡ record { opening = b.opening; statements = map statement_view b.statements.items; closing = b.closing }
block_out b = fold_out-Block StatementTree BlockTree BranchTree statement_step block_step branch_step b

pub body_is : (f : FunctionTree) (g : SignatureTree) (b : BlockTree) (p q : ProgressTree) (ts : TypedStatementTrees)
    → means ts q ≡ statements_met (setting_of g) (chain_of_statements b.statements) (parameters_met f.parameters (opened p)) → function_made f g b (length p.automatics) ts q ≡ body_met f g b p
unfolding next_met
body_is f g b p q ts e = rw (sym e) refl

pub made_is : (f : FunctionTree) (g : SignatureTree) (b : BlockTree) (p q r : ProgressTree) (ts : TypedStatementTrees) (name : List ℕ) (result : ValueType) (start count variables weight : ℕ) (close : Spot)
    → name ≡ f.name.name → result ≡ g.result → start ≡ length p.automatics → count ≡ length f.parameters → variables ≡ length q.automatics - length p.automatics → close ≡ b.closing
    → weight ≡ capped (definition_weight f.parameters b) → r ≡ scope_left q
    → means ts q ≡ statements_met (setting_of g) (chain_of_statements b.statements) (parameters_met f.parameters (opened p))
    → means (record { name = name; spot = f.name.spot; result = result; first_variable = start; parameters = count; variables = variables; body = ts; close = close; weight = weight } ∷ []) r ≡ body_met f g b p
made_is f g b p q r ts name result start count variables weight close n t s k v c w e h =
    rw (n, t, s, k, v, c, w, e) (body_is f g b p q ts h)
