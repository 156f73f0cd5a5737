-- What the loops over statements, branches and labels do at each item.
use Rattle.std.proofs.Common.{◌≡◌, ℕ, ◌+◌, ◌<◌, ◌≤◌, List, [], ◌∷◌, ◌++◌, length, map, drop, get_or, Option, Some, refl, ap, sym, ◌∙◌}
use Rattle.std.proofs.lemmas.List.{drop_all, append-nil}
use Rattle.c_tree.specs.declared.types.IntegerType.{IntegerType}
use Rattle.c_tree.specs.declared.statement.Statement.{Statement}
use Rattle.c_tree.specs.Statements.{StatementTree, StatementTrees, BranchTree, LabelTree, first, chain_of_statements, statement_view}
use Rattle.c_tree.specs.TypedStatements.{TypedStatementTree, TypedStatementTrees}
use Rattle.c_tree.specs.TypedStatements as typed-tree
use Rattle.c_type_declarations.specs.Progress.{ProgressTree, Met, means, next_met}
use Rattle.c_type_declarations.proofs.Steps.{next_more}
use Rattle.c_type_declarations.proofs.Loops.{drop_item}
use Rattle.c_type_statements.specs.declared.setting.Setting.{Setting}
use Rattle.c_type_statements.specs.Switches.{PartTree, Statement as StatementPart, Parts, Labels, Labeled, Inside, added, label_met, parts_before, put_all, behind}
use Rattle.c_type_statements.specs.Statements.{met, statement_met, statements_met, block_items_met}
use Rattle.c_type_statements.specs.Chains.{BuiltTree, branch_met, branches_met, labels_met, nested, with_else}
use Rattle.c_type_statements.proofs.Laws.{behind_both}

-- a statement, and those behind it
pub chain_item : (xs : List Statement) (i : ℕ) (x : Statement) → i < length xs → x ≡ get_or xs i x → chain_of_statements (map statement_view (drop i xs)) ≡ first (statement_view x) (chain_of_statements (map statement_view (drop (i + 1) xs)))
chain_item xs i x h e = ap (λ ys. chain_of_statements (map statement_view ys)) (drop_item xs i x h e)

-- the last of parts stands right before what is behind them
pub put_more : (ps : List PartTree) (q : PartTree) (all : TypedStatementTrees) → put_all (ps ++ q ∷ []) all ≡ put_all ps (parts_before q all)
put_more [] q all = refl
put_more (p ∷ ps) q all = ap (λ x. parts_before p x) (put_more ps q all)

-- parts behind parts
pub put_both : (ps qs : List PartTree) (all : TypedStatementTrees) → put_all (ps ++ qs) all ≡ put_all ps (put_all qs all)
put_both [] qs all = refl
put_both (p ∷ ps) qs all = ap (λ x. parts_before p x) (put_both ps qs all)

put_step : (m : Met TypedStatementTrees) (done : List PartTree) (t : TypedStatementTree)
    → next_met (next_met m (λ ts. means (typed-tree.first t ts))) (λ ts. means (put_all done ts)) ≡ next_met m (λ ts. means (put_all (done ++ StatementPart t ∷ []) ts))
unfolding next_met
put_step (means ts p) done t = ap (λ x. means x p) (sym (put_more done (StatementPart t) ts))

pub statements_step : (g : Setting) (s : StatementTree) (more : StatementTrees) (done : List PartTree) (t : TypedStatementTree) (p q : ProgressTree)
    → means t q ≡ statement_met g s p
    → next_met (statements_met g (first s more) p) (λ ts. means (put_all done ts)) ≡ next_met (statements_met g more q) (λ ts. means (put_all (done ++ StatementPart t ∷ []) ts))
unfolding next_met
statements_step g s more done t p q a = rw (sym a) (put_step (statements_met g more q) done t)

pub statements_end : (g : Setting) (xs : List Statement) (i : ℕ) (done : List PartTree) (p : ProgressTree)
    → length xs ≤ i → next_met (statements_met g (chain_of_statements (map statement_view (drop i xs))) p) (λ ts. means (put_all done ts)) ≡ means (put_all done typed-tree.none) p
unfolding next_met
statements_end g xs i done p h = rw (drop_all i xs h) refl

-- statements behind parts of the block of a `switch`
items_behind : Setting → Option IntegerType → StatementTrees → Parts → ProgressTree → Met TypedStatementTrees
items_behind g kind more x q = next_met (block_items_met g kind more x.labels q) (λ ts. means (put_all x.parts ts))

both_step : (m : Met TypedStatementTrees) (ps qs : List PartTree) → next_met (next_met m (λ ts. means (put_all qs ts))) (λ ts. means (put_all ps ts)) ≡ next_met m (λ ts. means (put_all (ps ++ qs) ts))
unfolding next_met
both_step (means ts p) ps qs = ap (λ x. means x p) (sym (put_both ps qs ts))

items_over : (g : Setting) (kind : Option IntegerType) (m : Met Labeled) (more : StatementTrees) (done : List PartTree)
    → next_met (next_met m (λ x q. next_met (block_items_met g kind more x.labels q) (λ ts. means (put_all (x.before ++ StatementPart x.statement ∷ []) ts)))) (λ ts. means (put_all done ts)) ≡ next_met (next_met m (added done)) (items_behind g kind more)
unfolding next_met items_behind
items_over g kind (means x r) more done = both_step (block_items_met g kind more x.labels r) done (x.before ++ StatementPart x.statement ∷ [])

pub items_step : (g : Setting) (kind : Option IntegerType) (s : StatementTree) (more : StatementTrees) (done after : List PartTree) (ls ms : Labels) (p q : ProgressTree)
    → means (record { parts = after; labels = ms }) q ≡ next_met (met (Inside kind ls) g s p) (added done)
    → next_met (block_items_met g kind (first s more) ls p) (λ ts. means (put_all done ts)) ≡ next_met (block_items_met g kind more ms q) (λ ts. means (put_all after ts))
unfolding next_met items_behind
items_step g kind s more done after ls ms p q a = items_over g kind (met (Inside kind ls) g s p) more done ∙ ap (λ m. next_met m (items_behind g kind more)) (sym a)

pub items_end : (g : Setting) (kind : Option IntegerType) (xs : List Statement) (i : ℕ) (done : List PartTree) (ls : Labels) (p : ProgressTree)
    → length xs ≤ i → next_met (block_items_met g kind (chain_of_statements (map statement_view (drop i xs))) ls p) (λ ts. means (put_all done ts)) ≡ means (put_all done typed-tree.none) p
unfolding next_met
items_end g kind xs i done ls p h = rw (drop_all i xs h) refl

-- labels behind parts
labels_behind : Option IntegerType → List LabelTree → Parts → ProgressTree → Met Parts
labels_behind kind more x q = next_met (labels_met kind more x.labels q) (behind x.parts)

labels_over : (kind : Option IntegerType) (m : Met Parts) (more : List LabelTree) (done : List PartTree)
    → next_met (next_met m (λ one q. next_met (labels_met kind more one.labels q) (behind one.parts))) (behind done) ≡ next_met (next_met m (behind done)) (labels_behind kind more)
unfolding next_met labels_behind
labels_over kind (means one r) more done = behind_both (labels_met kind more one.labels r) done one.parts

pub labels_step : (kind : Option IntegerType) (l : LabelTree) (more : List LabelTree) (done after : List PartTree) (ls ms : Labels) (p q : ProgressTree)
    → means (record { parts = after; labels = ms }) q ≡ next_met (label_met kind l ls p) (behind done)
    → next_met (labels_met kind (l ∷ more) ls p) (behind done) ≡ next_met (labels_met kind more ms q) (behind after)
unfolding next_met labels_behind
labels_step kind l more done after ls ms p q a = labels_over kind (label_met kind l ls p) more done ∙ ap (λ m. next_met m (labels_behind kind more)) (sym a)

-- branches
pub branches_step : (g : Setting) (last : ℕ) (b : BranchTree) (more : List BranchTree) (done : List BuiltTree) (x : BuiltTree) (p q : ProgressTree)
    → means x q ≡ branch_met g last b p
    → next_met (branches_met g last (b ∷ more) p) (λ xs. means (done ++ xs)) ≡ next_met (branches_met g last more q) (λ xs. means ((done ++ x ∷ []) ++ xs))
unfolding next_met
branches_step g last b more done x p q a = rw (sym a) (next_more (branches_met g last more q) x done)

pub branches_end : {A : Type 0} (g : Setting) (last : ℕ) (f : A → BranchTree) (xs : List A) (i : ℕ) (done : List BuiltTree) (p : ProgressTree)
    → length xs ≤ i → next_met (branches_met g last (map f (drop i xs)) p) (λ xs. means (done ++ xs)) ≡ means done p
unfolding next_met
branches_end g last f xs i done p h = rw (drop_all i xs h, append-nil done) refl

-- the last of branches stands in the `else` of those before it
pub nested_more : (x : BuiltTree) (xs : List BuiltTree) (y : BuiltTree) (t : Option TypedStatementTree) → nested x (xs ++ y ∷ []) t ≡ nested x xs (Some (with_else y t))
nested_more x [] y t = refl
nested_more x (z ∷ xs) y t = ap (λ u. with_else x (Some u)) (nested_more z xs y t)

pub labels_end : {A : Type 0} (kind : Option IntegerType) (f : A → LabelTree) (xs : List A) (i : ℕ) (done : List PartTree) (ls : Labels) (p : ProgressTree)
    → length xs ≤ i → next_met (labels_met kind (map f (drop i xs)) ls p) (behind done) ≡ means (record { parts = done; labels = ls }) p
unfolding next_met
labels_end kind f xs i done ls p h = rw (drop_all i xs h, append-nil done) refl
