-- What lists weigh.
use Rattle.std.proofs.Common.{◌≡◌, ◌<◌, ℕ, ◌+◌, List, [], ◌∷◌, ◌++◌, length, take, get_or, Option, None, Some, Box, Vec, Global, arith, refl, ap, ◌∙◌, sym}
use Rattle.std.specs.Prelude.{fold, map, sum_by}
use Rattle.std.proofs.lemmas.List.{map_push, take_more}
use Rattle.std.proofs.lemmas.List.Sums.{fold-append, sum_by-cons}
use Rattle.c_tree.specs.declared.expression.Suffix.{Suffix}
use Rattle.c_tree.specs.Expressions.{ExpressionTree, chain_of_arguments, suffix_view, suffixed}
use Rattle.c_tree.specs.Declarations.{InitializerTree}
use Rattle.c_tree.specs.Declarations as declaration
use Rattle.c_tree.specs.declared.statement.Statement.{Statement, Statement-F, fold-roll-Statement}
use Rattle.c_tree.specs.declared.statement.Statement.TheVariants as declared-statement
use Rattle.c_tree.specs.declared.statement.Branch.{Branch}
use Rattle.c_tree.specs.declared.statement.Label.{Label}
use Rattle.c_tree.specs.Statements.{StatementTree, BlockTree, BranchTree, LabelTree, CaseLabel, DefaultLabel, behind_labels, if_tree, else_tree, statement_step, block_step, branch_step, statement_view, branch_view, label_view}
use Rattle.c_tree.specs.Statements as statement
use Rattle.c_type_bounds.specs.Weights.{weight_of, weight_of_all, initializer_weight, initializers_weight, statement_weight, statements_weight, branch_weight, label_weight}

pub arguments_weigh : (es : List ExpressionTree) → weight_of_all (chain_of_arguments es) ≡ sum_by weight_of es
arguments_weigh [] = refl
arguments_weigh (e ∷ es) = ap (λ n. weight_of e + n) (arguments_weigh es) ∙ sym (sum_by-cons weight_of e es)

pub initializers_weigh : (is : List InitializerTree) → initializers_weight (declaration.chain_of_initializers is) ≡ sum_by initializer_weight is
initializers_weigh [] = refl
initializers_weigh (i ∷ is) = ap (λ n. initializer_weight i + n) (initializers_weigh is) ∙ sym (sum_by-cons initializer_weight i is)

-- one more suffix
pub suffix_more : (e : ExpressionTree) (xs : List Suffix) (i : ℕ) (x : Suffix) → x ≡ get_or xs i x → i < length xs
    → fold suffixed e (map suffix_view (take (i + 1) xs)) ≡ suffixed (fold suffixed e (map suffix_view (take i xs))) (suffix_view x)
suffix_more e xs i x here lt =
    ap (λ ys. fold suffixed e (map suffix_view ys)) (take_more xs i x lt ∙ ap (λ y. take i xs ++ y ∷ []) (sym here))
    ∙ ap (fold suffixed e) (map_push suffix_view (take i xs) x) ∙ fold-append suffixed e (map suffix_view (take i xs)) (suffix_view x ∷ [])

pub statements_weigh : (ss : List StatementTree) → statements_weight (statement.chain_of_statements ss) ≡ sum_by statement_weight ss
statements_weigh [] = refl
statements_weigh (s ∷ ss) = ap (λ n. statement_weight s + n) (statements_weigh ss) ∙ sym (sum_by-cons statement_weight s ss)

-- labels before a statement
pub labels_weigh : (ls : List LabelTree) (s : StatementTree) → statement_weight (behind_labels ls s) ≡ sum_by label_weight ls + statement_weight s
labels_weigh [] s = omega arith
labels_weigh (CaseLabel extent e ∷ ls) s = ap (λ n. 1 + weight_of e + n) (labels_weigh ls s) ∙ rw (sum_by-cons label_weight (CaseLabel extent e) ls) (omega arith)
labels_weigh (DefaultLabel extent ∷ ls) s = ap (λ n. 1 + n) (labels_weigh ls s) ∙ rw (sum_by-cons label_weight (DefaultLabel extent) ls) (omega arith)

-- an `if` with or without an `else`
abbrev else_weight : Option StatementTree → ℕ
else_weight None = 0
else_weight (Some s) = statement_weight s

if_weighs : (b : BranchTree) (o : Option StatementTree) → statement_weight (if_tree b o) ≡ branch_weight b + else_weight o
if_weighs b None = omega arith
if_weighs b (Some s) = refl

elses_weigh : (bs : List BranchTree) (o : Option StatementTree) → else_weight (else_tree bs o) ≡ sum_by branch_weight bs + else_weight o
elses_weigh [] o = omega arith
elses_weigh (b ∷ bs) o = if_weighs b (else_tree bs o) ∙ rw (elses_weigh bs o, sum_by-cons branch_weight b bs) (omega arith)

-- an `if` with each `else if` behind it, and the last `else`
pub ifs_weigh : (b : BranchTree) (bs : List BranchTree) (s : StatementTree) → statement_weight (if_tree b (else_tree bs (Some s))) ≡ branch_weight b + sum_by branch_weight bs + statement_weight s
ifs_weigh b bs s = if_weighs b (else_tree bs (Some s)) ∙ rw (elses_weigh bs (Some s)) (omega arith)

pub ifs_weigh_alone : (b : BranchTree) (bs : List BranchTree) → statement_weight (if_tree b (else_tree bs None)) ≡ branch_weight b + sum_by branch_weight bs
ifs_weigh_alone b bs = if_weighs b (else_tree bs None) ∙ rw (elses_weigh bs None) (omega arith)

pub if_view : (b : Box Branch Global) (bs : Vec Branch Global) (s : Box Statement Global)
    → statement_view (declared-statement.If b bs (Some s)) ≡ if_tree (branch_view b.value) (else_tree (map branch_view bs.items) (Some (statement_view s.value)))
if_view b bs s =
    ap statement_view (sym (declared-statement.rolls-If b bs (Some s))) ∙ fold-roll-Statement StatementTree BlockTree BranchTree statement_step block_step branch_step (Statement-F.If b bs (Some s))

pub if_view_alone : (b : Box Branch Global) (bs : Vec Branch Global) → statement_view (declared-statement.If b bs None) ≡ if_tree (branch_view b.value) (else_tree (map branch_view bs.items) None)
if_view_alone b bs =
    ap statement_view (sym (declared-statement.rolls-If b bs None)) ∙ fold-roll-Statement StatementTree BlockTree BranchTree statement_step block_step branch_step (Statement-F.If b bs None)

pub labeled_view : (ls : Vec Label Global) (s : Box Statement Global) → statement_view (declared-statement.Labeled ls s) ≡ behind_labels (map label_view ls.items) (statement_view s.value)
labeled_view ls s =
    ap statement_view (sym (declared-statement.rolls-Labeled ls s)) ∙ fold-roll-Statement StatementTree BlockTree BranchTree statement_step block_step branch_step (Statement-F.Labeled ls s)
