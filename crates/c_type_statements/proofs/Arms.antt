-- What each form of statement means, from what its parts mean.
use Rattle.std.proofs.Common.{◌≡◌, ℕ, false, List, [], ◌∷◌, ◌++◌, map, Option, Some, None, Box, Vec, Global, refl, ap, sym, ◌∙◌, append_assoc}
use Rattle.std.specs.Option.{option_map}
use Rattle.debug_records.specs.declared.source.Spot.{Spot}
use Rattle.debug_records.specs.declared.code.TheConstants.Code.{MISPLACED_JUMP}
use Rattle.c_tree.specs.declared.extent.Extent.{Extent}
use Rattle.c_tree.specs.declared.types.IntegerType.{IntegerType}
use Rattle.c_tree.specs.declared.statement.Statement as declared-statement
use Rattle.c_tree.specs.declared.statement.Statement.TheVariants as statement
use Rattle.c_tree.specs.declared.statement.Branch.{Branch}
use Rattle.c_tree.specs.Ends.{first_spot}
use Rattle.c_tree.specs.Expressions.{ExpressionTree}
use Rattle.c_tree.specs.Declarations.{DeclarationTree}
use Rattle.c_tree.specs.TypedExpressions.{RvalueTree}
use Rattle.c_tree.specs.Statements.{StartTree, StatementTree, StatementTrees, BranchTree, LabelTree, Compound, Declare, Empty, Run, If, IfElse, While, DoWhile, For, Switch, Case, Default, Break, Continue, Return, branch_view, statement_view, behind_labels}
use Rattle.c_tree.specs.TypedStatements.{TypedStatementTree, TypedStatementTrees}
use Rattle.c_tree.specs.TypedStatements as typed-tree
use Rattle.c_type_declarations.specs.Progress.{ProgressTree, Met, means, next_met, opened, scope_left}
use Rattle.c_type_declarations.specs.Declarations.{declaration_met}
use Rattle.c_type_statements.specs.declared.setting.Setting.{Setting}
use Rattle.c_type_statements.specs.StatementEnds.{last_of_statement}
use Rattle.c_type_statements.specs.Settings.{in_loop, rule_unless, run_met, condition_met, return_met}
use Rattle.c_type_statements.specs.Switches.{PartTree, Parts, Labels, Labeled, StatementPlace, Inside, Statement, labels_at, no_labels, added, behind, preceded, without_label}
use Rattle.c_type_statements.specs.Statements.{to_end, in_scope, met, statement_met, statements_met, for_met, switch_met}
use Rattle.c_type_statements.specs.Chains.{BuiltTree, branch_met, branches_met, else_met, chain_met, nested, labels_met}
use Rattle.c_type_statements.proofs.Laws.{bare_unlabeled}
use Rattle.c_type_statements.proofs.Chains.{chain_is_nested, item_labels}
use Rattle.c_type_statements.proofs.Views.{if_view, if_else_view, is_labeled}

pub block_arm : (g : Setting) (opening : Spot) (all : StatementTrees) (closing : Spot) (ts : TypedStatementTrees) (p q : ProgressTree)
    → means ts q ≡ in_scope (statements_met g all) p → means (typed-tree.Block ts) q ≡ statement_met g (Compound opening all closing) p
unfolding next_met
block_arm g opening all closing ts p q h = rw (bare_unlabeled, sym h) refl

pub declare_arm : (g : Setting) (d : DeclarationTree) (p : ProgressTree) → next_met (declaration_met d p) (λ all. means (typed-tree.Declaration all)) ≡ statement_met g (Declare d) p
declare_arm g d p = sym (bare_unlabeled no_labels (next_met (declaration_met d p) (λ all. means (typed-tree.Declaration all))))

pub empty_arm : (g : Setting) (spot : Spot) (p : ProgressTree) → means (typed-tree.Empty spot) p ≡ statement_met g (Empty spot) p
empty_arm g spot p = sym (bare_unlabeled no_labels (means (typed-tree.Empty spot) p))

pub run_arm : (g : Setting) (e : ExpressionTree) (last : ℕ) (p : ProgressTree) → next_met (run_met e p) (λ r. means (typed-tree.Run (first_spot e) r)) ≡ statement_met g (Run e last) p
run_arm g e last p = sym (bare_unlabeled no_labels (next_met (run_met e p) (λ r. means (typed-tree.Run (first_spot e) r))))

pub while_arm : (g : Setting) (spot : Spot) (c : ExpressionTree) (s : StatementTree) (r : RvalueTree) (t : TypedStatementTree) (p q u : ProgressTree)
    → means r q ≡ condition_met (to_end spot s) c p → means t u ≡ statement_met (in_loop g) s q → means (typed-tree.While (first_spot c) r t) u ≡ statement_met g (While spot c s) p
unfolding next_met
while_arm g spot c s r t p q u h k = rw (bare_unlabeled, sym h, sym k) refl

pub do_arm : (g : Setting) (extent : Extent) (s : StatementTree) (c : ExpressionTree) (t : TypedStatementTree) (r : RvalueTree) (p q u : ProgressTree)
    → means t q ≡ statement_met (in_loop g) s p → means r u ≡ condition_met extent c q → means (typed-tree.DoWhile t (first_spot c) r) u ≡ statement_met g (DoWhile extent s c) p
unfolding next_met
do_arm g extent s c t r p q u h k = rw (bare_unlabeled, sym h, sym k) refl

pub for_arm : (g : Setting) (spot : Spot) (start : StartTree) (c step : Option ExpressionTree) (s : StatementTree) (t : TypedStatementTree) (p q : ProgressTree)
    → means t q ≡ for_met g spot start c step s (opened p) → means t (scope_left q) ≡ statement_met g (For spot start c step s) p
unfolding next_met
for_arm g spot start c step s t p q h =
    ap (λ (m : Met TypedStatementTree). next_met m (λ x u. means x (scope_left u))) h ∙ sym (bare_unlabeled no_labels (next_met (for_met g spot start c step s (opened p)) (λ x u. means x (scope_left u))))

pub switch_arm : (g : Setting) (spot : Spot) (e : ExpressionTree) (opening : Spot) (all : StatementTrees) (closing : Spot) (p : ProgressTree)
    → switch_met g spot e all closing p ≡ statement_met g (Switch spot e opening all closing) p
switch_arm g spot e opening all closing p = sym (bare_unlabeled no_labels (switch_met g spot e all closing p))

pub break_arm : (g : Setting) (extent : Extent) (p : ProgressTree) → means (typed-tree.Break extent.first) (rule_unless g.may_break MISPLACED_JUMP extent p) ≡ statement_met g (Break extent) p
break_arm g extent p = sym (bare_unlabeled no_labels (means (typed-tree.Break extent.first) (rule_unless g.may_break MISPLACED_JUMP extent p)))

pub continue_arm : (g : Setting) (extent : Extent) (p : ProgressTree) → means (typed-tree.Continue extent.first) (rule_unless g.may_continue MISPLACED_JUMP extent p) ≡ statement_met g (Continue extent) p
continue_arm g extent p = sym (bare_unlabeled no_labels (means (typed-tree.Continue extent.first) (rule_unless g.may_continue MISPLACED_JUMP extent p)))

pub return_arm : (g : Setting) (extent : Extent) (e : Option ExpressionTree) (p : ProgressTree)
    → next_met (return_met g.result extent e p) (λ r. means (typed-tree.Return extent.first r)) ≡ statement_met g (Return extent e) p
return_arm g extent e p = sym (bare_unlabeled no_labels (next_met (return_met g.result extent e p) (λ r. means (typed-tree.Return extent.first r))))

-- an `if` as the tree has it
pub if_arm : (g : Setting) (s : declared-statement.Statement) (b : Box Branch Global) (bs : Vec Branch Global) (o : Option (Box declared-statement.Statement Global)) (last : ℕ) (first : Branch) (others : List Branch) (p : ProgressTree)
    → s ≡ statement.If b bs o → last ≡ last_of_statement (statement_view s) → first ≡ b.value → others ≡ bs.items
    → chain_met g last (branch_view first) (map branch_view others) (option_map (λ (x : Box declared-statement.Statement Global). statement_view x.value) o) p ≡ statement_met g (statement_view s) p
if_arm g s b bs None last first others p e l k m = rw (k, m, l, e, if_view b bs) (chain_is_nested g (branch_view b.value) (map branch_view bs.items) None p)
if_arm g s b bs (Some o) last first others p e l k m = rw (k, m, l, e, if_else_view b bs o) (chain_is_nested g (branch_view b.value) (map branch_view bs.items) (Some (statement_view o.value)) p)

-- a branch
pub branch_parts : (g : Setting) (last : ℕ) (b : BranchTree) (r : RvalueTree) (t : TypedStatementTree) (p q u : ProgressTree)
    → means r q ≡ condition_met (record { first = b.spot; last = last }) b.condition p → means t u ≡ statement_met g b.then q
    → means (record { spot = first_spot b.condition; condition = r; body = t }) u ≡ branch_met g last b p
unfolding next_met
branch_parts g last b r t p q u h k = rw (sym h, sym k) refl

-- branches and the last `else`
pub chain_parts : (g : Setting) (last : ℕ) (b : BranchTree) (bs : List BranchTree) (o : Option StatementTree) (x : BuiltTree) (xs : List BuiltTree) (t : Option TypedStatementTree) (p q u v : ProgressTree)
    → means x q ≡ branch_met g last b p → means xs u ≡ branches_met g last bs q → means t v ≡ else_met g o u → means (nested x xs t) v ≡ chain_met g last b bs o p
unfolding next_met
chain_parts g last b bs o x xs t p q u v h k l = rw (sym h, sym k, sym l) refl

-- a statement that has no label stands anywhere alike
pub unlabeled_anywhere : (place : StatementPlace) (g : Setting) (s : StatementTree) (p : ProgressTree) → is_labeled s ≡ false → met place g s p ≡ without_label (labels_at place) (statement_met g s p)
unlabeled_anywhere place g (Compound opening all closing) p n = rw bare_unlabeled refl
unlabeled_anywhere place g (Declare d) p n = rw bare_unlabeled refl
unlabeled_anywhere place g (Empty spot) p n = rw bare_unlabeled refl
unlabeled_anywhere place g (Run e last) p n = rw bare_unlabeled refl
unlabeled_anywhere place g (If spot c s) p n = rw bare_unlabeled refl
unlabeled_anywhere place g (IfElse spot c s t) p n = rw bare_unlabeled refl
unlabeled_anywhere place g (While spot c s) p n = rw bare_unlabeled refl
unlabeled_anywhere place g (DoWhile extent s c) p n = rw bare_unlabeled refl
unlabeled_anywhere place g (For spot start c step s) p n = rw bare_unlabeled refl
unlabeled_anywhere place g (Switch spot e opening all closing) p n = rw bare_unlabeled refl
unlabeled_anywhere place g (Case extent e s) p n = cc
unlabeled_anywhere place g (Default extent s) p n = cc
unlabeled_anywhere place g (Break extent) p n = rw bare_unlabeled refl
unlabeled_anywhere place g (Continue extent) p n = rw bare_unlabeled refl
unlabeled_anywhere place g (Return extent e) p n = rw bare_unlabeled refl

-- such a statement directly in the block of a `switch`
pub item_unlabeled : (g : Setting) (kind : Option IntegerType) (s : StatementTree) (ls : Labels) (done : List PartTree) (t : TypedStatementTree) (p q : ProgressTree)
    → is_labeled s ≡ false → means t q ≡ statement_met g s p → means (record { parts = done ++ Statement t ∷ []; labels = ls }) q ≡ next_met (met (Inside kind ls) g s p) (added done)
unfolding next_met without_label
item_unlabeled g kind s ls done t p q n h = rw (unlabeled_anywhere (Inside kind ls) g s p n, sym h) refl

-- parts behind labels
added_preceded : (m : Met Labeled) (done ps : List PartTree) → next_met (next_met m (preceded ps)) (added done) ≡ next_met m (added (done ++ ps))
unfolding next_met
added_preceded (means x p) done ps =
    ap (λ (qs : List PartTree). means (record { parts = qs; labels = x.labels }) p) (ap (λ (qs : List PartTree). done ++ qs) (append_assoc ps x.before (Statement x.statement ∷ [])) ∙ sym (append_assoc done ps (x.before ++ Statement x.statement ∷ [])))

-- a statement of the block of a `switch`, behind labels and parts
abbrev item_then : Setting → Option IntegerType → StatementTree → Parts → ProgressTree → Met Parts
item_then g kind s one q = next_met (met (Inside kind one.labels) g s q) (added one.parts)

labels_then : (g : Setting) (kind : Option IntegerType) (s : StatementTree) (m : Met Parts) (done after : List PartTree) (ms : Labels) (q : ProgressTree)
    → means (record { parts = after; labels = ms }) q ≡ next_met m (behind done)
    → next_met (met (Inside kind ms) g s q) (added after) ≡ next_met (next_met m (λ one u. next_met (met (Inside kind one.labels) g s u) (preceded one.parts))) (added done)
unfolding next_met
labels_then g kind s (means one r) done after ms q h =
    ap (λ (m : Met Parts). next_met m (item_then g kind s)) h ∙ sym (added_preceded (met (Inside kind one.labels) g s r) done one.parts)

pub item_labeled : (g : Setting) (kind : Option IntegerType) (own : List LabelTree) (s : StatementTree) (ls : Labels) (done after : List PartTree) (ms : Labels) (p q : ProgressTree)
    → means (record { parts = after; labels = ms }) q ≡ next_met (labels_met kind own ls p) (behind done)
    → next_met (met (Inside kind ms) g s q) (added after) ≡ next_met (met (Inside kind ls) g (behind_labels own s) p) (added done)
item_labeled g kind own s ls done after ms p q h =
    labels_then g kind s (labels_met kind own ls p) done after ms q h ∙ ap (λ (m : Met Labeled). next_met m (added done)) (sym (item_labels g kind own s ls p))
