-- What statements mean weighs no more than they do.
use Rattle.std.proofs.Common.{◌≡◌, ◌≤◌, ℕ, ◌+◌, ℤ, List, [], ◌∷◌, ◌++◌, Bool, true, false, Option, Some, None, arith}
use Rattle.c_tree.specs.declared.extent.Extent.{Extent}
use Rattle.c_tree.specs.declared.types.IntegerType.{IntegerType}
use Rattle.c_tree.specs.declared.object_type.ValueType.{ValueType}
use Rattle.c_tree.specs.declared.object_type.ValueType.TheVariants.{Void, Integer, Pointer}
use Rattle.c_tree.specs.Expressions.{ExpressionTree}
use Rattle.c_tree.specs.Statements.{StartTree, CaseLabel, DefaultLabel, StatementTree, StatementTrees}
use Rattle.c_tree.specs.Statements as tree
use Rattle.c_tree.specs.TypedStatements.{TypedStatementTree, TypedStatementTrees}
use Rattle.c_tree.specs.TypedStatements as typed-tree
use Rattle.c_type_bounds.specs.Weights.{weight_of, weight_if_any, start_weight, statement_weight, statements_weight}
use Rattle.c_type_values.specs.Values.{ValueTree}
use Rattle.c_type_expressions.specs.Expressions.{is_zero}
use Rattle.c_type_declarations.specs.Progress.{ProgressTree, Met, means, opened, value_met}
use Rattle.c_type_statements.specs.declared.setting.Setting.{Setting}
use Rattle.c_type_statements.specs.Settings.{in_loop, in_switch, run_met, checked_condition, condition_met, condition_if_any, start_met, step_met, returnable, returned_value, returns, return_met}
use Rattle.c_type_statements.specs.Switches.{Chosen, chosen_by, controlling_value, chosen_met, case_value, case_numbered, case_by, Labels, no_labels, StatementPlace, Outside, Inside, labels_at, behind_label, label_at, Labeled, Parts, PartTree, Case, Default, Statement, without_label, bare, put_all}
use Rattle.c_type_statements.specs.Statements.{in_scope, met, statements_met, block_items_met}
use Rattle.c_type_laws.specs.Weighing.{weighed, weighed_declared, weighed_start, weighed_option, weighed_step, weighed_statement, weighed_statements}
use Rattle.c_source.specs.Progress.{Ensures}
use Rattle.c_source.proofs.Coming.{next_ensures}
use Rattle.c_source.proofs.PlainTexts.{next_any}
use Rattle.c_source.proofs.Counting.{value_weight, implied_weight, Few, to_promoted, converted_few}
use Rattle.c_source.proofs.CountingTexts.{weighs}
use Rattle.c_source.proofs.CountingParts.{AtMost, HasFew, value_few, tree_few, automatics_few}

-- values in statements
run_few : (e : ExpressionTree) (q : ProgressTree) → Ensures (AtMost (weighed false) (weight_of e)) (run_met e q)
run_few e q = next_ensures (HasFew (weight_of e)) (AtMost (weighed false) (weight_of e)) (value_met e q) _ (value_few e q) (λ v t h. tree_few v (weight_of e) (weighs e) h)

condition_few : (extent : Extent) (e : ExpressionTree) (q : ProgressTree) → Ensures (AtMost (weighed false) (weight_of e)) (condition_met extent e q)
condition_few extent e q = next_ensures (HasFew (weight_of e)) (AtMost (weighed false) (weight_of e)) (value_met e q) _ (value_few e q) (λ v t h. by v t h)
  where
    by : (v : Option ValueTree) (t : ProgressTree) → Few value_weight (weight_of e) v → Ensures (AtMost (weighed false) (weight_of e)) (checked_condition extent v t)
    by (Some v) t h = h
    by None t h = weighs e

condition_if_few : (extent : Extent) (e : Option ExpressionTree) (q : ProgressTree) → Ensures (AtMost (weighed_option false) (weight_if_any e)) (condition_if_any extent e q)
condition_if_few extent (Some e) q = next_ensures (AtMost (weighed false) (weight_of e)) (AtMost (weighed_option false) (weight_of e)) (condition_met extent e q) _ (condition_few extent e q) (λ r t h. h)
condition_if_few extent None q = omega arith

step_few : (e : Option ExpressionTree) (q : ProgressTree) → Ensures (AtMost weighed_step (weight_if_any e)) (step_met e q)
step_few (Some e) q = next_ensures (AtMost (weighed false) (weight_of e)) (AtMost weighed_step (weight_of e)) (run_met e q) _ (run_few e q) (λ r t h. h)
step_few None q = omega arith

start_few : (a : StartTree) (q : ProgressTree) → Ensures (AtMost weighed_start (start_weight a)) (start_met a q)
start_few tree.Nothing q = omega arith
start_few (tree.Value e) q = next_ensures (AtMost (weighed false) (weight_of e)) (AtMost weighed_start (weight_of e)) (run_met e q) _ (run_few e q) (λ r t h. h)
start_few (tree.Declares d) q = next_ensures (AtMost weighed_declared (start_weight (tree.Declares d))) (AtMost weighed_start (start_weight (tree.Declares d))) _ _ (automatics_few d.type d.declarators q) (λ all t h. h)

returnable_few : (of : ValueType) (v : ValueTree) (z : Bool) (n : ℕ) → 1 ≤ n → weighed false v.tree ≤ n → Few implied_weight n (returnable of v z)
returnable_few Void v z n one h = tt
returnable_few (Integer t) v z n one h = converted_few v (Integer t) z n one h
returnable_few (Pointer of) v z n one h = converted_few v (Pointer of) z n one h

return_few : (of : ValueType) (extent : Extent) (e : Option ExpressionTree) (q : ProgressTree) → Ensures (AtMost (weighed_option true) (weight_if_any e)) (return_met of extent e q)
return_few of extent None q = omega arith
return_few of extent (Some e) q = next_ensures (HasFew (weight_of e)) (AtMost (weighed_option true) (weight_of e)) (value_met e q) _ (value_few e q) (λ v t h. by v t h)
  where
    what : (o : Option ValueTree) (t : ProgressTree) → Few implied_weight (weight_of e) o → Ensures (AtMost (weighed_option true) (weight_of e)) (returned_value o extent t)
    what (Some v) t h = h
    what None t h = omega arith

    by : (v : Option ValueTree) (t : ProgressTree) → Few value_weight (weight_of e) v → Ensures (AtMost (weighed_option true) (weight_of e)) (returns of extent (is_zero e) v t)
    by (Some v) t h = what (returnable of v (is_zero e)) t (returnable_few of v (is_zero e) (weight_of e) (weighs e) h)
    by None t h = omega arith

abbrev chosen_weight : Chosen → ℕ
chosen_weight c = weighed false c.tree

chosen_few : (extent : Extent) (e : ExpressionTree) (q : ProgressTree) → Ensures (AtMost chosen_weight (weight_of e)) (chosen_met extent e q)
chosen_few extent e q = next_ensures (HasFew (weight_of e)) (AtMost chosen_weight (weight_of e)) (value_met e q) _ (value_few e q) (λ v t h. by v t h)
  where
    of_type : (u : ValueType) (v : ValueTree) (t : ProgressTree) → weighed false v.tree ≤ weight_of e → Ensures (AtMost chosen_weight (weight_of e)) (chosen_by u extent v t)
    of_type (Integer u) v t h = let c = to_promoted u v in omega (arith, h, c)
    of_type Void v t h = h
    of_type (Pointer o) v t h = h

    by : (v : Option ValueTree) (t : ProgressTree) → Few value_weight (weight_of e) v → Ensures (AtMost chosen_weight (weight_of e)) (controlling_value extent v t)
    by (Some v) t h = of_type v.of v t h
    by None t h = weighs e

-- labels
abbrev parts_weight : List PartTree → ℕ
parts_weight [] = 0
parts_weight (Case z ∷ more) = 2 + parts_weight more
parts_weight (Default ∷ more) = 1 + parts_weight more
parts_weight (Statement s ∷ more) = weighed_statement s + parts_weight more

abbrev label_weight : Parts → ℕ
label_weight l = parts_weight l.parts

abbrev labeled_weight : Labeled → ℕ
labeled_weight x = parts_weight x.before + weighed_statement x.statement

parts_on : (ps qs : List PartTree) → parts_weight (ps ++ qs) ≡ parts_weight ps + parts_weight qs
parts_on [] qs = omega arith
parts_on (Case z ∷ ps) qs = let e = parts_on ps qs in omega (arith, e)
parts_on (Default ∷ ps) qs = let e = parts_on ps qs in omega (arith, e)
parts_on (Statement s ∷ ps) qs = let e = parts_on ps qs in omega (arith, e)

put_weight : (ps : List PartTree) (ts : TypedStatementTrees) → weighed_statements (put_all ps ts) ≡ parts_weight ps + weighed_statements ts
put_weight [] ts = omega arith
put_weight (Case z ∷ ps) ts = let e = put_weight ps ts in omega (arith, e)
put_weight (Default ∷ ps) ts = let e = put_weight ps ts in omega (arith, e)
put_weight (Statement s ∷ ps) ts = let e = put_weight ps ts in omega (arith, e)

case_few : (o : Option ℤ) (extent : Extent) (ls : Labels) (q : ProgressTree) → Ensures (AtMost label_weight 2) (case_numbered o extent ls q)
case_few (Some z) extent ls q = omega arith
case_few None extent ls q = omega arith

case_by_few : (kind : Option IntegerType) (extent : Extent) (ls : Labels) (v : Option ValueTree) (q : ProgressTree) → Ensures (AtMost label_weight 2) (case_by kind extent ls v q)
case_by_few kind extent ls (Some v) q = case_few (case_value kind v.of v.constant) extent ls q
case_by_few kind extent ls None q = omega arith

case_label_few : (place : StatementPlace) (extent : Extent) (e : ExpressionTree) (q : ProgressTree) → Ensures (AtMost label_weight 2) (label_at place (CaseLabel extent e) q)
case_label_few Outside extent e q = omega arith
case_label_few (Inside kind ls) extent e q = next_any (AtMost label_weight 2) (value_met e q) _ (λ v t. case_by_few kind extent ls v t)

default_label_few : (place : StatementPlace) (extent : Extent) (q : ProgressTree) → Ensures (AtMost label_weight 1) (label_at place (DefaultLabel extent) q)
default_label_few Outside extent q = omega arith
default_label_few (Inside kind ls) extent q = omega arith

unlabeled_few : (ls : Labels) (n : ℕ) (m : Met TypedStatementTree) → Ensures (AtMost weighed_statement n) m → Ensures (AtMost labeled_weight n) (without_label ls m)
unfolding without_label
unlabeled_few ls n m h = next_ensures (AtMost weighed_statement n) (AtMost labeled_weight n) m _ h (λ s t c. omega (arith, c))

bare_few : (n : ℕ) (m : Met Labeled) → Ensures (AtMost labeled_weight n) m → Ensures (AtMost weighed_statement n) (bare m)
unfolding bare
bare_few n m h = next_ensures (AtMost labeled_weight n) (AtMost weighed_statement n) m _ h (λ x t c. omega (arith, c))

scope_few : {A : Type 0} (size : A → ℕ) (n : ℕ) (f : ProgressTree → Met A) (q : ProgressTree) → Ensures (AtMost size n) (f (opened q)) → Ensures (AtMost size n) (in_scope f q)
scope_few size n f q h = next_ensures (AtMost size n) (AtMost size n) (f (opened q)) _ h (λ a t c. c)

mutual
  -- a statement with its labels
  met_few : (place : StatementPlace) (g : Setting) (s : StatementTree) (q : ProgressTree) → Ensures (AtMost labeled_weight (statement_weight s)) (met place g s q)
  met_few place g (tree.Compound opening all closing) q =
      let n = 1 + statements_weight all in
      unlabeled_few (labels_at place) n _
      (next_ensures (AtMost weighed_statements (statements_weight all)) (AtMost weighed_statement n) (in_scope (statements_met g all) q) _ (scope_few weighed_statements (statements_weight all) (statements_met g all) q (all_few g all (opened q))) (λ ts t h. omega (arith, h)))
  met_few place g (tree.Declare d) q =
      let n = statement_weight (tree.Declare d) in
      unlabeled_few (labels_at place) n _ (next_ensures (AtMost weighed_declared n) (AtMost weighed_statement n) _ _ (automatics_few d.type d.declarators q) (λ all t h. h))
  met_few place g (tree.Empty spot) q = unlabeled_few (labels_at place) 1 (means (typed-tree.Empty spot) q) (omega arith)
  met_few place g (tree.Run e last) q = unlabeled_few (labels_at place) (1 + weight_of e) _ (next_ensures (AtMost (weighed false) (weight_of e)) (AtMost weighed_statement (1 + weight_of e)) (run_met e q) _ (run_few e q) (λ r t h. omega (arith, h)))
  met_few place g (tree.If spot c s) q =
      let n = 1 + weight_of c + statement_weight s in
      unlabeled_few (labels_at place) n _
      (next_ensures (AtMost (weighed false) (weight_of c)) (AtMost weighed_statement n) _ _ (condition_few _ c q)
      (λ r t h. next_ensures (AtMost weighed_statement (statement_weight s)) (AtMost weighed_statement n) (bare (met Outside g s t)) _ (bare_few (statement_weight s) (met Outside g s t) (met_few Outside g s t)) (λ a u k. omega (arith, h, k))))
  met_few place g (tree.IfElse spot c s o) q =
      let n = 1 + weight_of c + statement_weight s + statement_weight o in
      unlabeled_few (labels_at place) n _
      (next_ensures (AtMost (weighed false) (weight_of c)) (AtMost weighed_statement n) _ _ (condition_few _ c q)
      (λ r t h.
      next_ensures (AtMost weighed_statement (statement_weight s)) (AtMost weighed_statement n) (bare (met Outside g s t)) _ (bare_few (statement_weight s) (met Outside g s t) (met_few Outside g s t))
      (λ a u k. next_ensures (AtMost weighed_statement (statement_weight o)) (AtMost weighed_statement n) (bare (met Outside g o u)) _ (bare_few (statement_weight o) (met Outside g o u) (met_few Outside g o u)) (λ b v j. omega (arith, h, k, j)))))
  met_few place g (tree.While spot c s) q =
      let n = 1 + weight_of c + statement_weight s in
      unlabeled_few (labels_at place) n _
      (next_ensures (AtMost (weighed false) (weight_of c)) (AtMost weighed_statement n) _ _ (condition_few _ c q)
      (λ r t h.
      next_ensures (AtMost weighed_statement (statement_weight s)) (AtMost weighed_statement n) (bare (met Outside (in_loop g) s t)) _ (bare_few (statement_weight s) (met Outside (in_loop g) s t) (met_few Outside (in_loop g) s t)) (λ a u k. omega (arith, h, k))))
  met_few place g (tree.DoWhile extent s c) q =
      let n = 1 + weight_of c + statement_weight s in
      unlabeled_few (labels_at place) n _
      (next_ensures (AtMost weighed_statement (statement_weight s)) (AtMost weighed_statement n) (bare (met Outside (in_loop g) s q)) _ (bare_few (statement_weight s) (met Outside (in_loop g) s q) (met_few Outside (in_loop g) s q))
      (λ a t k. next_ensures (AtMost (weighed false) (weight_of c)) (AtMost weighed_statement n) _ _ (condition_few extent c t) (λ r u h. omega (arith, h, k))))
  met_few place g (tree.For spot start c step s) q =
      let n = 1 + start_weight start + weight_if_any c + weight_if_any step + statement_weight s in
      unlabeled_few (labels_at place) n _
      (next_ensures (AtMost weighed_statement n) (AtMost weighed_statement n) _ _
      (next_ensures (AtMost weighed_start (start_weight start)) (AtMost weighed_statement n) (start_met start (opened q)) _ (start_few start (opened q))
      (λ a t h.
      next_ensures (AtMost (weighed_option false) (weight_if_any c)) (AtMost weighed_statement n) _ _ (condition_if_few _ c t)
      (λ b u i.
      next_ensures (AtMost weighed_step (weight_if_any step)) (AtMost weighed_statement n) (step_met step u) _ (step_few step u)
      (λ d v j.
      next_ensures (AtMost weighed_statement (statement_weight s)) (AtMost weighed_statement n) (bare (met Outside (in_loop g) s v)) _ (bare_few (statement_weight s) (met Outside (in_loop g) s v) (met_few Outside (in_loop g) s v)) (λ m w k. omega (arith, h, i, j, k))))))
      (λ a t c. c))
  met_few place g (tree.Switch spot e opening all closing) q =
      let n = 2 + weight_of e + statements_weight all in
      unlabeled_few (labels_at place) n _
      (next_ensures (AtMost chosen_weight (weight_of e)) (AtMost weighed_statement n) _ _ (chosen_few _ e q)
      (λ ch t h.
      next_ensures (AtMost weighed_statements (statements_weight all)) (AtMost weighed_statement n) (in_scope (block_items_met (in_switch g) ch.kind all no_labels) t) _
      (scope_few weighed_statements (statements_weight all) (block_items_met (in_switch g) ch.kind all no_labels) t (parts_few (in_switch g) ch.kind all no_labels (opened t))) (λ ts u k. omega (arith, h, k))))
  met_few place g (tree.Case extent e s) q =
      let n = 1 + weight_of e + statement_weight s in
      next_ensures (AtMost label_weight 2) (AtMost labeled_weight n) (label_at place (CaseLabel extent e) q) _ (case_label_few place extent e q)
      (λ l t h.
      next_ensures (AtMost labeled_weight (statement_weight s)) (AtMost labeled_weight n) (met (behind_label place l.labels) g s t) _ (met_few (behind_label place l.labels) g s t)
      (λ x u k. let c = parts_on l.parts x.before in let w = weighs e in omega (arith, h, k, c, w)))
  met_few place g (tree.Default extent s) q =
      let n = 1 + statement_weight s in
      next_ensures (AtMost label_weight 1) (AtMost labeled_weight n) (label_at place (DefaultLabel extent) q) _ (default_label_few place extent q)
      (λ l t h.
      next_ensures (AtMost labeled_weight (statement_weight s)) (AtMost labeled_weight n) (met (behind_label place l.labels) g s t) _ (met_few (behind_label place l.labels) g s t)
      (λ x u k. let c = parts_on l.parts x.before in omega (arith, h, k, c)))
  met_few place g (tree.Break extent) q = unlabeled_few (labels_at place) 1 _ (omega arith)
  met_few place g (tree.Continue extent) q = unlabeled_few (labels_at place) 1 _ (omega arith)
  met_few place g (tree.Return extent e) q =
      unlabeled_few (labels_at place) (1 + weight_if_any e) _ (next_ensures (AtMost (weighed_option true) (weight_if_any e)) (AtMost weighed_statement (1 + weight_if_any e)) _ _ (return_few g.result extent e q) (λ r t h. omega (arith, h)))

  -- statements one behind the other
  pub all_few : (g : Setting) (all : StatementTrees) (q : ProgressTree) → Ensures (AtMost weighed_statements (statements_weight all)) (statements_met g all q)
  all_few g tree.none q = omega arith
  all_few g (tree.first s rest) q =
      let n = statement_weight s + statements_weight rest in
      next_ensures (AtMost weighed_statement (statement_weight s)) (AtMost weighed_statements n) (bare (met Outside g s q)) _ (bare_few (statement_weight s) (met Outside g s q) (met_few Outside g s q))
      (λ a t h. next_ensures (AtMost weighed_statements (statements_weight rest)) (AtMost weighed_statements n) (statements_met g rest t) _ (all_few g rest t) (λ ts u k. omega (arith, h, k)))

  -- those of the block of a `switch`
  parts_few : (g : Setting) (kind : Option IntegerType) (all : StatementTrees) (ls : Labels) (q : ProgressTree) → Ensures (AtMost weighed_statements (statements_weight all)) (block_items_met g kind all ls q)
  parts_few g kind tree.none ls q = omega arith
  parts_few g kind (tree.first s rest) ls q =
      let n = statement_weight s + statements_weight rest in
      next_ensures (AtMost labeled_weight (statement_weight s)) (AtMost weighed_statements n) (met (Inside kind ls) g s q) _ (met_few (Inside kind ls) g s q)
      (λ x t h.
      next_ensures (AtMost weighed_statements (statements_weight rest)) (AtMost weighed_statements n) (block_items_met g kind rest x.labels t) _ (parts_few g kind rest x.labels t)
      (λ ts u k. let c = put_weight (x.before ++ Statement x.statement ∷ []) ts in let d = parts_on x.before (Statement x.statement ∷ []) in omega (arith, h, k, c, d)))
