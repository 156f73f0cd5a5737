-- What statements mean in their scopes (6.8), each part in text order.
use Rattle.std.specs.Prelude.{[], ◌∷◌, ◌++◌, Option}
use Rattle.std.specs.Option.{option_map_or}
use Rattle.debug_records.specs.declared.source.Spot.{Spot}
use Rattle.debug_records.specs.declared.code.TheConstants.Code.{MISPLACED_JUMP}
use Rattle.c_tree.specs.declared.extent.Extent.{Extent}
use Rattle.c_tree.specs.declared.types.IntegerType.{IntegerType}
use Rattle.c_tree.specs.Ends.{first_spot}
use Rattle.c_tree.specs.Expressions.{ExpressionTree}
use Rattle.c_tree.specs.Statements.{CaseLabel, DefaultLabel, StartTree, StatementTree, Compound, Declare, Empty, Run, If, IfElse, While, DoWhile, For, Switch, Case, Default, Break, Continue, Return, StatementTrees, none, first}
use Rattle.c_tree.specs.TypedStatements.{TypedStatementTree, TypedStatementTrees}
use Rattle.c_tree.specs.TypedStatements as typed-tree
use Rattle.c_type_declarations.specs.Progress.{ProgressTree, Met, means, next_met, opened, scope_left}
use Rattle.c_type_declarations.specs.Declarations.{declaration_met}
use Rattle.c_type_statements.specs.declared.setting.Setting.{Setting}
use Rattle.c_type_statements.specs.StatementEnds.{last_of_statement}
use Rattle.c_type_statements.specs.Settings.{in_loop, in_switch, rule_unless, run_met, condition_met, condition_if_any, start_met, step_met, return_met}
use Rattle.c_type_statements.specs.Switches.{chosen_met, Labels, no_labels, StatementPlace, Outside, Inside, labels_at, behind_label, label_at, Labeled, without_label, bare, preceded, Statement, put_all}

-- from the first token of a statement to the last of a part of it
abbrev pub to_end : Spot → StatementTree → Extent
to_end spot s = record { first = spot; last = last_of_statement s }

-- where the place of a `for` stands: at its condition, or without one at its own first token
abbrev pub head_of : Spot → Option ExpressionTree → Spot
head_of spot e = option_map_or first_spot e spot

-- what is met in a scope of its own
abbrev pub in_scope : {A : Type 0} → (ProgressTree → Met A) → ProgressTree → Met A
in_scope f p = next_met (f (opened p)) (λ a q. means a (scope_left q))

abbrev mutual
  -- a statement where it stands, with its labels
  pub met : StatementPlace → Setting → StatementTree → ProgressTree → Met Labeled
  met place g (Compound opening all closing) p =
      without_label (labels_at place) (next_met (in_scope (statements_met g all) p) (λ ts. means (typed-tree.Block ts)))
  met place g (Declare d) p =
      without_label (labels_at place) (next_met (declaration_met d p) (λ all. means (typed-tree.Declaration all)))
  met place g (Empty spot) p = without_label (labels_at place) (means (typed-tree.Empty spot) p)
  met place g (Run e last) p =
      without_label (labels_at place) (next_met (run_met e p) (λ r. means (typed-tree.Run (first_spot e) r)))
  met place g (If spot c s) p =
      without_label (labels_at place)
      (next_met (condition_met (to_end spot s) c p)
      (λ r q. next_met (bare (met Outside g s q)) (λ t. means (typed-tree.If (first_spot c) r t))))
  met place g (IfElse spot c s t) p =
      without_label (labels_at place)
      (next_met (condition_met (to_end spot t) c p)
      (λ r q. next_met (bare (met Outside g s q))
      (λ a u. next_met (bare (met Outside g t u)) (λ b. means (typed-tree.IfElse (first_spot c) r a b)))))
  met place g (While spot c s) p =
      without_label (labels_at place)
      (next_met (condition_met (to_end spot s) c p)
      (λ r q. next_met (bare (met Outside (in_loop g) s q)) (λ t. means (typed-tree.While (first_spot c) r t))))
  met place g (DoWhile extent s c) p =
      without_label (labels_at place)
      (next_met (bare (met Outside (in_loop g) s p))
      (λ t q. next_met (condition_met extent c q) (λ r. means (typed-tree.DoWhile t (first_spot c) r))))
  met place g (For spot start c step s) p =
      without_label (labels_at place)
      (in_scope
      (λ o. next_met (start_met start o)
      (λ a q. next_met (condition_if_any (to_end spot s) c q)
      (λ b u. next_met (step_met step u)
      (λ d v. next_met (bare (met Outside (in_loop g) s v))
      (λ t. means (typed-tree.For a (head_of spot c) b d t))))))
      p)
  met place g (Switch spot e opening all closing) p =
      without_label (labels_at place) (next_met (chosen_met (record {
        first = spot;
        last = closing.at;
      }) e p) (λ ch q. next_met (in_scope (block_items_met (in_switch g)
      ch.kind all no_labels) q) (λ ts. means (typed-tree.Switch (first_spot e) ch.tree ts))))
  met place g (Case extent e s) p =
      next_met (label_at place (CaseLabel extent e) p)
      (λ l q. next_met (met (behind_label place l.labels) g s q) (preceded l.parts))
  met place g (Default extent s) p =
      next_met (label_at place (DefaultLabel extent) p)
      (λ l q. next_met (met (behind_label place l.labels) g s q) (preceded l.parts))
  met place g (Break extent) p =
      without_label (labels_at place)
      (means (typed-tree.Break extent.first) (rule_unless g.may_break MISPLACED_JUMP extent p))
  met place g (Continue extent) p =
      without_label (labels_at place)
      (means (typed-tree.Continue extent.first) (rule_unless g.may_continue MISPLACED_JUMP extent p))
  met place g (Return extent e) p =
      without_label (labels_at place)
      (next_met (return_met g.result extent e p) (λ r. means (typed-tree.Return extent.first r)))

  -- statements one behind the other
  pub statements_met : Setting → StatementTrees → ProgressTree → Met TypedStatementTrees
  statements_met g none p = means typed-tree.none p
  statements_met g (first s rest) p =
      next_met (bare (met Outside g s p))
      (λ t q. next_met (statements_met g rest q) (λ ts. means (typed-tree.first t ts)))

  -- the statements of the block of a `switch`, behind such labels
  pub block_items_met : Setting → Option IntegerType → StatementTrees → Labels → ProgressTree → Met TypedStatementTrees
  block_items_met g kind none ls p = means typed-tree.none p
  block_items_met g kind (first s rest) ls p =
      next_met (met (Inside kind ls) g s p)
      (λ x q. next_met (block_items_met g kind rest x.labels q)
      (λ ts. means (put_all (x.before ++ Statement x.statement ∷ []) ts)))

-- a statement anywhere but directly in the block of a `switch`
abbrev pub statement_met : Setting → StatementTree → ProgressTree → Met TypedStatementTree
statement_met g s p = bare (met Outside g s p)

-- a `for`, within its scope
abbrev pub for_met : Setting → Spot → StartTree → (condition step : Option ExpressionTree) → StatementTree
    → ProgressTree → Met TypedStatementTree
for_met g spot start c step s p =
    next_met (start_met start p)
    (λ a q. next_met (condition_if_any (to_end spot s) c q)
    (λ b u. next_met (step_met step u)
    (λ d v. next_met (statement_met (in_loop g) s v)
    (λ t. means (typed-tree.For a (head_of spot c) b d t)))))

-- a `switch`
abbrev pub switch_met : Setting → Spot → ExpressionTree → StatementTrees → Spot → ProgressTree → Met TypedStatementTree
switch_met g spot e all closing p =
    next_met (chosen_met (record {
      first = spot;
      last = closing.at;
    }) e p) (λ ch q. next_met (in_scope (block_items_met (in_switch g)
    ch.kind all no_labels) q) (λ ts. means (typed-tree.Switch (first_spot e) ch.tree ts)))
