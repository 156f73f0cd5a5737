-- The same statements as the tree has them in lists: an `if` with each `else if` and the last `else`, and labels before
-- a statement.
use Rattle.std.specs.Prelude.{ℕ, List, [], ◌∷◌, Option, Some, None}
use Rattle.debug_records.specs.declared.source.Spot.{Spot}
use Rattle.c_tree.specs.declared.types.IntegerType.{IntegerType}
use Rattle.c_tree.specs.Ends.{first_spot}
use Rattle.c_tree.specs.TypedExpressions.{RvalueTree}
use Rattle.c_type_values.specs.Values.{node_view}
use Rattle.c_tree.specs.Statements.{StatementTree, BranchTree, LabelTree}
use Rattle.c_tree.specs.TypedStatements.{TypedStatementTree, If, IfElse, statement_view}
use Rattle.c_type_declarations.specs.Progress.{ProgressTree, Met, means, next_met}
use Rattle.c_type_statements.specs.declared.setting.Setting.{Setting}
use Rattle.c_type_statements.specs.declared.branch.Built as declared-built
use Rattle.c_type_statements.specs.Settings.{condition_met}
use Rattle.c_type_statements.specs.Switches.{Labels, Parts, label_met, misplaced_one, behind}
use Rattle.c_type_statements.specs.Statements.{statement_met}

-- `if (condition) then` with what it means; the spot is the condition's
pub record BuiltTree : Type 0 where
  pub spot : Spot
  pub condition : RvalueTree
  pub body : TypedStatementTree

abbrev pub built_view : declared-built.Built → BuiltTree
built_view b = record { spot = b.spot; condition = node_view b.condition; body = statement_view b.then.value }

-- a branch of an `if` that ends at a token
abbrev pub branch_met : Setting → ℕ → BranchTree → ProgressTree → Met BuiltTree
branch_met g last b p =
    next_met (condition_met (record {
      first = b.spot;
      last = last;
    }) b.condition p) (λ r q. next_met (statement_met g b.then q) (λ t. means (record {
      spot = first_spot b.condition;
      condition = r;
      body = t;
    })))

abbrev pub branches_met : Setting → ℕ → List BranchTree → ProgressTree → Met (List BuiltTree)
branches_met g last [] p = means [] p
branches_met g last (b ∷ bs) p =
    next_met (branch_met g last b p) (λ x q. next_met (branches_met g last bs q) (λ xs. means (x ∷ xs)))

-- the last `else`
abbrev pub else_met : Setting → Option StatementTree → ProgressTree → Met (Option TypedStatementTree)
else_met g None p = means None p
else_met g (Some s) p = next_met (statement_met g s p) (λ t. means (Some t))

abbrev pub with_else : BuiltTree → Option TypedStatementTree → TypedStatementTree
with_else b None = If b.spot b.condition b.body
with_else b (Some t) = IfElse b.spot b.condition b.body t

-- branches, each in the `else` of the one before it
abbrev pub nested : BuiltTree → List BuiltTree → Option TypedStatementTree → TypedStatementTree
nested b [] t = with_else b t
nested b (c ∷ cs) t = with_else b (Some (nested c cs t))

abbrev pub chain_met : Setting → ℕ → BranchTree → List BranchTree → Option StatementTree → ProgressTree
    → Met TypedStatementTree
chain_met g last b bs s p =
    next_met (branch_met g last b p)
    (λ x q. next_met (branches_met g last bs q) (λ xs r. next_met (else_met g s r) (λ t. means (nested x xs t))))

-- labels out of place
abbrev pub misplaced : List LabelTree → ProgressTree → ProgressTree
misplaced [] p = p
misplaced (l ∷ ls) p = misplaced ls (misplaced_one l p)

-- labels directly in the block of a `switch`
abbrev pub labels_met : Option IntegerType → List LabelTree → Labels → ProgressTree → Met Parts
labels_met kind [] ls p = means (record { parts = []; labels = ls }) p
labels_met kind (l ∷ more) ls p =
    next_met (label_met kind l ls p) (λ one q. next_met (labels_met kind more one.labels q) (behind one.parts))
