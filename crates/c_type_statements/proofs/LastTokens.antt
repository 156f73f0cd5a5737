-- Where statements end that the tree has in lists.
use Rattle.std.proofs.Common.{◌≡◌, suc, ◌-◌, List, [], ◌∷◌, ◌++◌, length, slice_get, get_or, Option, Some, None, refl, ap, arith}
use Rattle.std.specs.Prelude.{map}
use Rattle.std.specs.Option.{option_map_or}
use Rattle.c_tree.specs.declared.statement.Branch.{Branch}
use Rattle.c_tree.specs.Statements.{StatementTree, BranchTree, LabelTree, CaseLabel, DefaultLabel, branch_view, if_tree, else_tree, behind_labels}
use Rattle.std.proofs.lemmas.Option.{slice_get-get_or}
use Rattle.c_type_statements.specs.StatementEnds.{last_of_statement}

pub last_behind_labels : (ls : List LabelTree) (s : StatementTree) → last_of_statement (behind_labels ls s) ≡ last_of_statement s
last_behind_labels [] s = refl
last_behind_labels (CaseLabel extent e ∷ ls) s = last_behind_labels ls s
last_behind_labels (DefaultLabel extent ∷ ls) s = last_behind_labels ls s

pub last_of_else : (b : BranchTree) (bs : List BranchTree) (s : StatementTree) → last_of_statement (if_tree b (else_tree bs (Some s))) ≡ last_of_statement s
last_of_else b [] s = refl
last_of_else b (c ∷ cs) s = last_of_else c cs s

-- an `if` without `else` ends where its last branch does
pub last_of_last : (b : BranchTree) (xs : List Branch) (x : Branch) → slice_get xs (length xs - 1) ≡ Some x → last_of_statement (if_tree b (else_tree (map branch_view xs) None)) ≡ last_of_statement (branch_view x).then
last_of_last b [] x h = cc
last_of_last b (y ∷ []) x h = ap (λ (o : Option Branch). option_map_or (λ z. last_of_statement (branch_view z).then) o 0) h
last_of_last b (y ∷ z ∷ zs) x h =
    let e : suc (suc (length zs)) - 1 ≡ suc (length zs) = omega arith in
    let f : suc (length zs) - 1 ≡ length zs = omega arith in
    last_of_last (branch_view y) (z ∷ zs) x (rw f (rw e at h))

pub last_of_none : (b : BranchTree) (xs : List Branch) → slice_get xs (length xs - 1) ≡ None → last_of_statement (if_tree b (else_tree (map branch_view xs) None)) ≡ last_of_statement b.then
last_of_none b [] h = refl
last_of_none b (x ∷ xs) h =
    let e : slice_get (x ∷ xs) (length (x ∷ xs) - 1) ≡ Some (get_or (x ∷ xs) (length (x ∷ xs) - 1) x) = slice_get-get_or (x ∷ xs) (length (x ∷ xs) - 1) x (omega arith) in
    cc
