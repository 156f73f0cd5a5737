-- Statements as the tree has them in lists mean what they mean nested.
use Rattle.std.proofs.Common.{◌≡◌, ℕ, List, [], ◌∷◌, ◌++◌, Option, Some, None, refl, ap, sym, ◌∙◌}
use Rattle.debug_records.specs.declared.code.TheConstants.Code.{MISPLACED_JUMP}
use Rattle.c_tree.specs.declared.types.IntegerType.{IntegerType}
use Rattle.c_tree.specs.Statements.{StatementTree, BranchTree, LabelTree, CaseLabel, DefaultLabel, if_tree, else_tree, behind_labels}
use Rattle.c_tree.specs.Ends.{first_spot}
use Rattle.c_tree.specs.TypedStatements.{TypedStatementTree, If, IfElse}
use Rattle.c_type_declarations.specs.Progress.{ProgressTree, Met, means, next_met, breaks}
use Rattle.c_type_statements.specs.declared.setting.Setting.{Setting}
use Rattle.c_type_statements.specs.StatementEnds.{last_of_statement}
use Rattle.c_type_statements.specs.Settings.{condition_met}
use Rattle.c_type_statements.specs.Switches.{Labels, no_labels, Parts, case_met, default_met, behind, misplaced_one, Labeled, Outside, Inside, bare, preceded}
use Rattle.c_type_statements.specs.Statements.{met, statement_met, to_end}
use Rattle.c_type_statements.specs.Chains.{BuiltTree, branch_met, branches_met, else_met, chain_met, nested, with_else, misplaced, labels_met}
use Rattle.c_type_statements.proofs.Laws.{next_same, next_next, bare_unlabeled, preceded_none, preceded_both}

-- labels out of place
pub misplaced_labels : (g : Setting) (ls : List LabelTree) (s : StatementTree) (p : ProgressTree) → statement_met g (behind_labels ls s) p ≡ statement_met g s (misplaced ls p)
unfolding next_met
misplaced_labels g [] s p = refl
misplaced_labels g (CaseLabel extent e ∷ ls) s p =
    ap bare (preceded_none (met Outside g (behind_labels ls s) (misplaced_one (CaseLabel extent e) p))) ∙ misplaced_labels g ls s (misplaced_one (CaseLabel extent e) p)
misplaced_labels g (DefaultLabel extent ∷ ls) s p =
    ap bare (preceded_none (met Outside g (behind_labels ls s) (breaks MISPLACED_JUMP extent p))) ∙ misplaced_labels g ls s (breaks MISPLACED_JUMP extent p)

-- labels directly in the block of a `switch`
abbrev item_behind : Setting → Option IntegerType → StatementTree → Parts → ProgressTree → Met Labeled
item_behind g kind s one q = next_met (met (Inside kind one.labels) g s q) (preceded one.parts)

item_step : (g : Setting) (kind : Option IntegerType) (s t : StatementTree) (m : Met Parts) (more : List LabelTree)
    → ((l : Labels) (q : ProgressTree) → met (Inside kind l) g t q ≡ next_met (labels_met kind more l q) (item_behind g kind s))
    → next_met m (λ l q. next_met (met (Inside kind l.labels) g t q) (preceded l.parts)) ≡ next_met (next_met m (λ one q. next_met (labels_met kind more one.labels q) (behind one.parts))) (item_behind g kind s)
unfolding next_met
item_step g kind s t (means l p) more h =
    ap (λ m. next_met m (preceded l.parts)) (h l.labels p)
    ∙ next_next (labels_met kind more l.labels p) (item_behind g kind s) (preceded l.parts)
    ∙ next_same (labels_met kind more l.labels p) (λ one q. next_met (item_behind g kind s one q) (preceded l.parts)) (λ one q. item_behind g kind s (record { parts = l.parts ++ one.parts; labels = one.labels }) q) (λ one q. preceded_both (met (Inside kind one.labels) g s q) l.parts one.parts)
    ∙ sym (next_next (labels_met kind more l.labels p) (behind l.parts) (item_behind g kind s))

pub item_labels : (g : Setting) (kind : Option IntegerType) (ls : List LabelTree) (s : StatementTree) (l : Labels) (p : ProgressTree)
    → met (Inside kind l) g (behind_labels ls s) p ≡ next_met (labels_met kind ls l p) (λ one q. next_met (met (Inside kind one.labels) g s q) (preceded one.parts))
unfolding next_met
item_labels g kind [] s l p = sym (preceded_none (met (Inside kind l) g s p))
item_labels g kind (CaseLabel extent e ∷ ls) s l p = item_step g kind s (behind_labels ls s) (case_met kind extent e l p) ls (item_labels g kind ls s)
item_labels g kind (DefaultLabel extent ∷ ls) s l p = item_step g kind s (behind_labels ls s) (default_met extent l p) ls (item_labels g kind ls s)

-- one branch, with what follows it
branch_then : {A : Type 0} (g : Setting) (b : BranchTree) (last : ℕ) (p : ProgressTree) (f : BuiltTree → ProgressTree → Met A)
    → next_met (branch_met g last b p) f ≡ next_met (condition_met (record { first = b.spot; last = last }) b.condition p) (λ r q. next_met (statement_met g b.then q) (λ t. f (record { spot = first_spot b.condition; condition = r; body = t })))
unfolding next_met
branch_then g b last p f =
    next_next (condition_met (record { first = b.spot; last = last }) b.condition p) (λ r q. next_met (statement_met g b.then q) (λ t. means (record { spot = first_spot b.condition; condition = r; body = t }))) f
    ∙ next_same (condition_met (record { first = b.spot; last = last }) b.condition p) _ (λ r q. next_met (statement_met g b.then q) (λ t. f (record { spot = first_spot b.condition; condition = r; body = t }))) (λ r q. next_next (statement_met g b.then q) (λ t. means (record { spot = first_spot b.condition; condition = r; body = t })) f)

-- the last `else`, behind branches
abbrev else_then : Setting → Option StatementTree → BuiltTree → List BuiltTree → ProgressTree → Met TypedStatementTree
else_then g s x xs r = next_met (else_met g s r) (λ t. means (nested x xs t))

-- the other branches and the last `else`, behind a branch
abbrev rest_then : Setting → ℕ → List BranchTree → Option StatementTree → BuiltTree → ProgressTree → Met TypedStatementTree
rest_then g last cs s y q = next_met (branches_met g last cs q) (else_then g s y)

-- an `if` that stands in the `else` of a branch
abbrev within_else : BuiltTree → TypedStatementTree → ProgressTree → Met TypedStatementTree
within_else x t = means (with_else x (Some t))

rest_within : (g : Setting) (m : Met (List BuiltTree)) (s : Option StatementTree) (x y : BuiltTree)
    → next_met (next_met m (λ ys. means (y ∷ ys))) (else_then g s x) ≡ next_met (next_met m (else_then g s y)) (within_else x)
unfolding next_met
rest_within g (means ys r) s x y = sym (next_next (else_met g s r) (λ t. means (nested y ys t)) (within_else x))

others_within : (g : Setting) (last : ℕ) (c : BranchTree) (cs : List BranchTree) (s : Option StatementTree) (x : BuiltTree) (u : ProgressTree)
    → next_met (branches_met g last (c ∷ cs) u) (else_then g s x) ≡ next_met (chain_met g last c cs s u) (within_else x)
unfolding next_met
others_within g last c cs s x u =
    next_next (branch_met g last c u) (λ y q. next_met (branches_met g last cs q) (λ ys. means (y ∷ ys))) (else_then g s x)
    ∙ next_same (branch_met g last c u) (λ y q. next_met (next_met (branches_met g last cs q) (λ ys. means (y ∷ ys))) (else_then g s x)) (λ y q. next_met (rest_then g last cs s y q) (within_else x)) (λ y q. rest_within g (branches_met g last cs q) s x y)
    ∙ sym (next_next (branch_met g last c u) (rest_then g last cs s) (within_else x))

-- an `if` with each `else if` and the last `else`
pub chain_is_nested : (g : Setting) (b : BranchTree) (bs : List BranchTree) (s : Option StatementTree) (p : ProgressTree)
    → chain_met g (last_of_statement (if_tree b (else_tree bs s))) b bs s p ≡ statement_met g (if_tree b (else_tree bs s)) p
unfolding next_met
chain_is_nested g b [] None p =
    branch_then g b (last_of_statement b.then) p (λ x. means (with_else x None)) ∙ sym (bare_unlabeled no_labels (next_met (condition_met (to_end b.spot b.then) b.condition p) (λ r q. next_met (statement_met g b.then q) (λ t. means (If (first_spot b.condition) r t)))))
chain_is_nested g b [] (Some s) p =
    branch_then g b (last_of_statement s) p (λ x q. next_met (next_met (statement_met g s q) (λ t. means (Some t))) (λ t. means (with_else x t)))
    ∙ next_same (condition_met (to_end b.spot s) b.condition p) (λ r q. next_met (statement_met g b.then q) (λ a u. next_met (next_met (statement_met g s u) (λ t. means (Some t))) (λ t. means (with_else (record { spot = first_spot b.condition; condition = r; body = a }) t)))) (λ r q. next_met (statement_met g b.then q) (λ a u. next_met (statement_met g s u) (within_else (record { spot = first_spot b.condition; condition = r; body = a })))) (λ r q. next_same (statement_met g b.then q) (λ a u. next_met (next_met (statement_met g s u) (λ t. means (Some t))) (λ t. means (with_else (record { spot = first_spot b.condition; condition = r; body = a }) t))) (λ a u. next_met (statement_met g s u) (within_else (record { spot = first_spot b.condition; condition = r; body = a }))) (λ a u. next_next (statement_met g s u) (λ t. means (Some t)) (λ t. means (with_else (record { spot = first_spot b.condition; condition = r; body = a }) t)))) ∙ sym (bare_unlabeled no_labels (next_met (condition_met (to_end b.spot s) b.condition p) (λ r q. next_met (statement_met g b.then q) (λ a u. next_met (statement_met g s u) (λ b'. means (IfElse (first_spot b.condition) r a b'))))))
chain_is_nested g b (c ∷ cs) s p =
    let t = if_tree c (else_tree cs s) in
    let last = last_of_statement t in
    branch_then g b last p (λ x q. next_met (branches_met g last (c ∷ cs) q) (else_then g s x))
    ∙ next_same (condition_met (to_end b.spot t) b.condition p) (λ r q. next_met (statement_met g b.then q) (λ a u. next_met (branches_met g last (c ∷ cs) u) (else_then g s (record { spot = first_spot b.condition; condition = r; body = a })))) (λ r q. next_met (statement_met g b.then q) (λ a u. next_met (statement_met g t u) (within_else (record { spot = first_spot b.condition; condition = r; body = a })))) (λ r q. next_same (statement_met g b.then q) (λ a u. next_met (branches_met g last (c ∷ cs) u) (else_then g s (record { spot = first_spot b.condition; condition = r; body = a }))) (λ a u. next_met (statement_met g t u) (within_else (record { spot = first_spot b.condition; condition = r; body = a }))) (λ a u. others_within g last c cs s (record { spot = first_spot b.condition; condition = r; body = a }) u ∙ ap (λ m. next_met m (within_else (record { spot = first_spot b.condition; condition = r; body = a }))) (chain_is_nested g c cs s u))) ∙ sym (bare_unlabeled no_labels (next_met (condition_met (to_end b.spot t) b.condition p) (λ r q. next_met (statement_met g b.then q) (λ a u. next_met (statement_met g t u) (λ b'. means (IfElse (first_spot b.condition) r a b'))))))
