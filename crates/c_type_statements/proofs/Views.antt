-- The views of statements that the tree has in lists.
use Rattle.std.proofs.Common.{◌≡◌, ℕ, Bool, true, false, Option, Some, None, Box, Vec, Global, refl, ap, sym, ◌∙◌}
use Rattle.std.specs.Prelude.{map}
use Rattle.std.specs.Option.{option_map}
use Rattle.debug_records.specs.declared.source.Spot.{Spot}
use Rattle.c_tree.specs.declared.extent.Extent.{Extent}
use Rattle.c_tree.specs.declared.expression.Expression.{Expression}
use Rattle.c_tree.specs.declared.declaration.Declaration.{Declaration}
use Rattle.c_tree.specs.declared.statement.Statement.{Statement, Statement-F, fold-roll-Statement, out-Statement, roll-Statement, roll-out-Statement}
use Rattle.c_tree.specs.declared.statement.Statement.TheVariants as statement
use Rattle.c_tree.specs.declared.statement.Block.{Block, fold_out-Block}
use Rattle.c_tree.specs.declared.statement.Branch.{Branch, fold_out-Branch}
use Rattle.c_tree.specs.declared.statement.Label.{Label}
use Rattle.c_tree.specs.declared.statement.ForStart.{ForStart}
use Rattle.c_tree.specs.Expressions.{expression_view}
use Rattle.c_tree.specs.Declarations.{declaration_view}
use Rattle.c_tree.specs.Statements.{StatementTree, Compound, Declare, Empty, Run, While, DoWhile, For, Switch, Case, Default, Break, Continue, Return, BlockTree, BranchTree, block_tree, chain_of_statements, statement_step, block_step, branch_step, start_view, statement_view, block_view, branch_view, label_view, if_tree, else_tree, behind_labels}

pub if_view : (b : Box Branch Global) (bs : Vec Branch Global) → statement_view (statement.If b bs None) ≡ if_tree (branch_view b.value) (else_tree (map branch_view bs.items) None)
if_view b bs = ap statement_view (sym (statement.rolls-If b bs None)) ∙ fold-roll-Statement StatementTree BlockTree BranchTree statement_step block_step branch_step (Statement-F.If b bs None)

pub if_else_view : (b : Box Branch Global) (bs : Vec Branch Global) (s : Box Statement Global)
    → statement_view (statement.If b bs (Some s)) ≡ if_tree (branch_view b.value) (else_tree (map branch_view bs.items) (Some (statement_view s.value)))
if_else_view b bs s = ap statement_view (sym (statement.rolls-If b bs (Some s))) ∙ fold-roll-Statement StatementTree BlockTree BranchTree statement_step block_step branch_step (Statement-F.If b bs (Some s))

pub labeled_view : (ls : Vec Label Global) (s : Box Statement Global) → statement_view (statement.Labeled ls s) ≡ behind_labels (map label_view ls.items) (statement_view s.value)
labeled_view ls s = ap statement_view (sym (statement.rolls-Labeled ls s)) ∙ fold-roll-Statement StatementTree BlockTree BranchTree statement_step block_step branch_step (Statement-F.Labeled ls s)

pub block_out : (b : Block) → block_view b ≡ record { opening = b.opening; statements = map statement_view b.statements.items; closing = b.closing }
block_out b = fold_out-Block StatementTree BlockTree BranchTree statement_step block_step branch_step b

pub branch_out : (b : Branch) → branch_view b ≡ record { spot = b.spot; condition = expression_view b.condition; then = statement_view b.then }
branch_out b = fold_out-Branch StatementTree BlockTree BranchTree statement_step block_step branch_step b

-- the other statements
pub compound_view : (b : Block) → statement_view (statement.Block b) ≡ Compound b.opening (chain_of_statements (map statement_view b.statements.items)) b.closing
compound_view b =
    ap statement_view (sym (statement.rolls-Block b)) ∙ fold-roll-Statement StatementTree BlockTree BranchTree statement_step block_step branch_step (Statement-F.Block b) ∙ ap block_tree (block_out b)

pub declare_view : (d : Declaration) → statement_view (statement.Declaration d) ≡ Declare (declaration_view d)
declare_view d = ap statement_view (sym (statement.rolls-Declaration d)) ∙ fold-roll-Statement StatementTree BlockTree BranchTree statement_step block_step branch_step (Statement-F.Declaration d)

pub empty_view : (spot : Spot) → statement_view (statement.Empty spot) ≡ Empty spot
empty_view spot = ap statement_view (sym (statement.rolls-Empty spot)) ∙ fold-roll-Statement StatementTree BlockTree BranchTree statement_step block_step branch_step (Statement-F.Empty spot)

pub run_view : (e : Expression) (last : ℕ) → statement_view (statement.Expression e last) ≡ Run (expression_view e) last
run_view e last = ap statement_view (sym (statement.rolls-Expression e last)) ∙ fold-roll-Statement StatementTree BlockTree BranchTree statement_step block_step branch_step (Statement-F.Expression e last)

pub while_view : (spot : Spot) (e : Expression) (s : Box Statement Global) → statement_view (statement.While spot e s) ≡ While spot (expression_view e) (statement_view s.value)
while_view spot e s = ap statement_view (sym (statement.rolls-While spot e s)) ∙ fold-roll-Statement StatementTree BlockTree BranchTree statement_step block_step branch_step (Statement-F.While spot e s)

pub do_view : (extent : Extent) (s : Box Statement Global) (e : Expression) → statement_view (statement.DoWhile extent s e) ≡ DoWhile extent (statement_view s.value) (expression_view e)
do_view extent s e = ap statement_view (sym (statement.rolls-DoWhile extent s e)) ∙ fold-roll-Statement StatementTree BlockTree BranchTree statement_step block_step branch_step (Statement-F.DoWhile extent s e)

pub for_view : (spot : Spot) (start : ForStart) (c step : Option Expression) (s : Box Statement Global)
    → statement_view (statement.For spot start c step s) ≡ For spot (start_view start) (option_map expression_view c) (option_map expression_view step) (statement_view s.value)
for_view spot start c step s = ap statement_view (sym (statement.rolls-For spot start c step s)) ∙ fold-roll-Statement StatementTree BlockTree BranchTree statement_step block_step branch_step (Statement-F.For spot start c step s)

pub switch_view : (spot : Spot) (e : Expression) (b : Block) → statement_view (statement.Switch spot e b) ≡ Switch spot (expression_view e) b.opening (chain_of_statements (map statement_view b.statements.items)) b.closing
switch_view spot e b =
    ap statement_view (sym (statement.rolls-Switch spot e b)) ∙ fold-roll-Statement StatementTree BlockTree BranchTree statement_step block_step branch_step (Statement-F.Switch spot e b)
    ∙ ap (λ (x : BlockTree). Switch spot (expression_view e) x.opening (chain_of_statements x.statements) x.closing) (block_out b)

pub break_view : (extent : Extent) → statement_view (statement.Break extent) ≡ Break extent
break_view extent = ap statement_view (sym (statement.rolls-Break extent)) ∙ fold-roll-Statement StatementTree BlockTree BranchTree statement_step block_step branch_step (Statement-F.Break extent)

pub continue_view : (extent : Extent) → statement_view (statement.Continue extent) ≡ Continue extent
continue_view extent = ap statement_view (sym (statement.rolls-Continue extent)) ∙ fold-roll-Statement StatementTree BlockTree BranchTree statement_step block_step branch_step (Statement-F.Continue extent)

pub return_view : (extent : Extent) (e : Option Expression) → statement_view (statement.Return extent e) ≡ Return extent (option_map expression_view e)
return_view extent e = ap statement_view (sym (statement.rolls-Return extent e)) ∙ fold-roll-Statement StatementTree BlockTree BranchTree statement_step block_step branch_step (Statement-F.Return extent e)

-- a statement that has a label
abbrev pub is_labeled : StatementTree → Bool
is_labeled (Case extent e s) = true
is_labeled (Default extent s) = true
is_labeled _ = false

if_unlabeled : (b : BranchTree) (o : Option StatementTree) → is_labeled (if_tree b o) ≡ false
if_unlabeled b None = refl
if_unlabeled b (Some s) = refl

rolled_unlabeled : (f : Statement-F Statement Block Branch) → ((ls : Vec Label Global) (s : Box Statement Global) → f ≡ Statement-F.Labeled ls s → ⊥) → is_labeled (statement_view (roll-Statement f)) ≡ false
rolled_unlabeled (Statement-F.Block b) h = ap is_labeled (fold-roll-Statement StatementTree BlockTree BranchTree statement_step block_step branch_step (Statement-F.Block b))
rolled_unlabeled (Statement-F.Declaration d) h = ap is_labeled (fold-roll-Statement StatementTree BlockTree BranchTree statement_step block_step branch_step (Statement-F.Declaration d))
rolled_unlabeled (Statement-F.Empty spot) h = ap is_labeled (fold-roll-Statement StatementTree BlockTree BranchTree statement_step block_step branch_step (Statement-F.Empty spot))
rolled_unlabeled (Statement-F.Expression e last) h = ap is_labeled (fold-roll-Statement StatementTree BlockTree BranchTree statement_step block_step branch_step (Statement-F.Expression e last))
rolled_unlabeled (Statement-F.If b bs None) h =
    ap is_labeled (fold-roll-Statement StatementTree BlockTree BranchTree statement_step block_step branch_step (Statement-F.If b bs None)) ∙ if_unlabeled (branch_view b.value) (else_tree (map branch_view bs.items) None)
rolled_unlabeled (Statement-F.If b bs (Some s)) h =
    ap is_labeled (fold-roll-Statement StatementTree BlockTree BranchTree statement_step block_step branch_step (Statement-F.If b bs (Some s))) ∙ if_unlabeled (branch_view b.value) (else_tree (map branch_view bs.items) (Some (statement_view s.value)))
rolled_unlabeled (Statement-F.While spot e s) h = ap is_labeled (fold-roll-Statement StatementTree BlockTree BranchTree statement_step block_step branch_step (Statement-F.While spot e s))
rolled_unlabeled (Statement-F.DoWhile extent s e) h = ap is_labeled (fold-roll-Statement StatementTree BlockTree BranchTree statement_step block_step branch_step (Statement-F.DoWhile extent s e))
rolled_unlabeled (Statement-F.For spot start c step s) h = ap is_labeled (fold-roll-Statement StatementTree BlockTree BranchTree statement_step block_step branch_step (Statement-F.For spot start c step s))
rolled_unlabeled (Statement-F.Switch spot e b) h = ap is_labeled (fold-roll-Statement StatementTree BlockTree BranchTree statement_step block_step branch_step (Statement-F.Switch spot e b))
rolled_unlabeled (Statement-F.Labeled ls s) h = absurd (h ls s refl)
rolled_unlabeled (Statement-F.Break extent) h = ap is_labeled (fold-roll-Statement StatementTree BlockTree BranchTree statement_step block_step branch_step (Statement-F.Break extent))
rolled_unlabeled (Statement-F.Continue extent) h = ap is_labeled (fold-roll-Statement StatementTree BlockTree BranchTree statement_step block_step branch_step (Statement-F.Continue extent))
rolled_unlabeled (Statement-F.Return extent e) h = ap is_labeled (fold-roll-Statement StatementTree BlockTree BranchTree statement_step block_step branch_step (Statement-F.Return extent e))

-- a statement that the tree has without labels has none
pub without_labels : (x : Statement) → ((ls : Vec Label Global) (s : Box Statement Global) → x ≡ statement.Labeled ls s → ⊥) → is_labeled (statement_view x) ≡ false
without_labels x h =
    ap (λ (y : Statement). is_labeled (statement_view y)) (sym (roll-out-Statement x))
    ∙ rolled_unlabeled (out-Statement x) (λ ls s e. h ls s (sym (roll-out-Statement x) ∙ ap roll-Statement e ∙ statement.rolls-Labeled ls s))
