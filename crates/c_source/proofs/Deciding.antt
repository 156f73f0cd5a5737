-- The literals that conditions, labels and what is returned find stand within them, in the order of the text.
use Rattle.std.proofs.Common.{◌≡◌, List, [], Bool, true, false, Option, Some, None, refl}
use Rattle.std.specs.Prelude.{ℤ, is_some, not, if◌then◌else◌}
use Rattle.debug_records.specs.declared.source.Spot.{Spot}
use Rattle.debug_records.specs.declared.code.Code.{Code}
use Rattle.debug_records.specs.declared.code.TheConstants.Code.{MISPLACED_JUMP, OPERAND_TYPES, REPEATED_LABEL, RETURN_MISMATCH}
use Rattle.c_tree.specs.declared.extent.Extent.{Extent}
use Rattle.c_tree.specs.declared.types.IntegerType.{IntegerType}
use Rattle.c_tree.specs.declared.object_type.ValueType.{ValueType}
use Rattle.c_tree.specs.declared.object_type.ValueType.TheVariants.{Void, Integer, Pointer}
use Rattle.c_tree.specs.Expressions.{ExpressionTree}
use Rattle.c_tree.specs.Statements.{LabelTree, CaseLabel, DefaultLabel}
use Rattle.c_tree.specs.TypedExpressions.{RvalueTree}
use Rattle.c_type_values.specs.Values.{ValueTree}
use Rattle.c_type_values.specs.Operations.{is_scalar}
use Rattle.c_type_expressions.specs.Expressions.{is_zero}
use Rattle.c_type_declarations.specs.Progress.{ProgressTree, reached_by, value_met, breaks}
use Rattle.c_type_statements.specs.Settings.{rule_unless, run_met, checked_condition, condition_met, condition_if_any, returnable, returned_value, is_void, returns, return_met}
use Rattle.c_type_statements.specs.Switches.{chosen_by, controlling_value, chosen_met, Labels, is_among_numbers, case_value, Parts, case_numbered, case_by, case_met, misplaced_one, StatementPlace, Outside, Inside, label_at}
use Rattle.c_source.specs.TextOrder.{spots_of, spots_if_any}
use Rattle.c_source.specs.Progress.{Ensures}
use Rattle.c_source.specs.Stating.{are_labels}
use Rattle.c_source.proofs.Coming.{next_ensures, ensures_more}
use Rattle.c_source.proofs.Adding.{Reads, reads_itself, reads_behind, reads_then}
use Rattle.c_source.proofs.Reading.{ReadsIn, reads_last, reads_breaks, value_reads, value_reaches}

pub unless_reads : (whole : List Spot) (fine : Bool) (code : Code) (extent : Extent) (q : ProgressTree) → Reads whole q (rule_unless fine code extent q)
unless_reads whole true code extent q = reads_itself whole q
unless_reads whole false code extent q = reads_breaks whole code extent q

pub run_reads : (e : ExpressionTree) (q : ProgressTree) → ReadsIn (spots_of e) q (run_met e q)
run_reads e q = reads_last (spots_of e) q (value_met e q) _ (value_reads e q) (λ v t. reads_itself [] t)

tested_reads : (extent : Extent) (v : Option ValueTree) (q : ProgressTree) → ReadsIn [] q (checked_condition extent v q)
tested_reads extent (Some v) q = unless_reads [] (is_scalar v.of) OPERAND_TYPES extent q
tested_reads extent None q = reads_itself [] q

pub condition_reads : (extent : Extent) (e : ExpressionTree) (q : ProgressTree) → ReadsIn (spots_of e) q (condition_met extent e q)
condition_reads extent e q = reads_last (spots_of e) q (value_met e q) (checked_condition extent) (value_reads e q) (λ v t. tested_reads extent v t)

-- the condition of a `for` means something where there is one
abbrev pub Tests : Option ExpressionTree → ProgressTree → Option RvalueTree → ProgressTree → Type 0
Tests c q b t = Reads (spots_if_any c) q t × (is_some b ≡ is_some c)

pub any_condition_tests : (extent : Extent) (c : Option ExpressionTree) (q : ProgressTree) → Ensures (Tests c q) (condition_if_any extent c q)
any_condition_tests extent (Some e) q = next_ensures (λ (r : RvalueTree) (t : ProgressTree). Reads (spots_of e) q t) (Tests (Some e) q) (condition_met extent e q) _ (condition_reads extent e q) (λ r t one. (one, refl))
any_condition_tests extent None q = (reads_itself [] q, refl)

-- what is returned
given_reads : (v : Option ValueTree) (extent : Extent) (q : ProgressTree) → ReadsIn [] q (returned_value v extent q)
given_reads (Some v) extent q = reads_itself [] q
given_reads None extent q = reads_breaks [] RETURN_MISMATCH extent q

returns_read : (of : ValueType) (extent : Extent) (zero : Bool) (v : Option ValueTree) (q : ProgressTree) → ReadsIn [] q (returns of extent zero v q)
returns_read of extent zero (Some v) q = given_reads (returnable of v zero) extent q
returns_read of extent zero None q = by (is_void of)
  where
    by : (b : Bool) → Reads [] q (if b then breaks RETURN_MISMATCH extent q else q)
    by true = reads_breaks [] RETURN_MISMATCH extent q
    by false = reads_itself [] q

pub return_reads : (of : ValueType) (extent : Extent) (e : Option ExpressionTree) (q : ProgressTree) → ReadsIn (spots_if_any e) q (return_met of extent e q)
return_reads of extent (Some e) q = reads_last (spots_of e) q (value_met e q) (returns of extent (is_zero e)) (value_reads e q) (λ v t. returns_read of extent (is_zero e) v t)
return_reads of extent None q = unless_reads [] (is_void of) RETURN_MISMATCH extent q

-- what a `switch` tests
chosen_by_reads : (of : ValueType) (extent : Extent) (v : ValueTree) (q : ProgressTree) → ReadsIn [] q (chosen_by of extent v q)
chosen_by_reads (Integer t) extent v q = reads_itself [] q
chosen_by_reads (Pointer of) extent v q = reads_breaks [] OPERAND_TYPES extent q
chosen_by_reads Void extent v q = reads_breaks [] OPERAND_TYPES extent q

any_chosen_reads : (extent : Extent) (v : Option ValueTree) (q : ProgressTree) → ReadsIn [] q (controlling_value extent v q)
any_chosen_reads extent (Some v) q = chosen_by_reads v.of extent v q
any_chosen_reads extent None q = reads_itself [] q

pub chosen_reads : (extent : Extent) (e : ExpressionTree) (q : ProgressTree) → ReadsIn (spots_of e) q (chosen_met extent e q)
chosen_reads extent e q = reads_last (spots_of e) q (value_met e q) (controlling_value extent) (value_reads e q) (λ v t. any_chosen_reads extent v t)

-- labels
abbrev pub spots_of_label : LabelTree → List Spot
spots_of_label (CaseLabel extent e) = spots_of e
spots_of_label (DefaultLabel extent) = []

-- labels that stand within spots, and are no statements
abbrev pub LabelsIn : List Spot → ProgressTree → Parts → ProgressTree → Type 0
LabelsIn whole q l t = Reads whole q t × (are_labels l.parts ≡ true)

numbered_in : (z : Option ℤ) (extent : Extent) (ls : Labels) (q : ProgressTree) → Ensures (LabelsIn [] q) (case_numbered z extent ls q)
numbered_in (Some z) extent ls q = (unless_reads [] (not (is_among_numbers z ls.values)) REPEATED_LABEL extent q, refl)
numbered_in None extent ls q = (reads_breaks [] MISPLACED_JUMP extent q, refl)

case_by_in : (kind : Option IntegerType) (extent : Extent) (ls : Labels) (v : Option ValueTree) (q : ProgressTree) → Ensures (LabelsIn [] q) (case_by kind extent ls v q)
case_by_in kind extent ls (Some v) q = numbered_in (case_value kind v.of v.constant) extent ls q
case_by_in kind extent ls None q = (reads_itself [] q, refl)

case_in : (kind : Option IntegerType) (extent : Extent) (e : ExpressionTree) (ls : Labels) (q : ProgressTree) → Ensures (LabelsIn (spots_of e) q) (case_met kind extent e ls q)
case_in kind extent e ls q =
    next_ensures (λ (v : Option ValueTree) (t : ProgressTree). Reads (spots_of e) q t) (LabelsIn (spots_of e) q) (value_met e q) (case_by kind extent ls) (value_reads e q)
    (λ v t one. ensures_more (LabelsIn [] t) (LabelsIn (spots_of e) q) (case_by kind extent ls v t) (case_by_in kind extent ls v t) (λ l u two. (reads_then (spots_of e) q t u one two.0, two.1)))

misplaced_reads : (l : LabelTree) (q : ProgressTree) → Reads (spots_of_label l) q (misplaced_one l q)
misplaced_reads (CaseLabel extent e) q =
    let r = breaks MISPLACED_JUMP extent q in reads_behind (spots_of e) q r (reached_by (value_met e r) (λ v t. t)) (reads_breaks [] MISPLACED_JUMP extent q) (value_reaches e r _ (λ v t. reads_itself [] t))
misplaced_reads (DefaultLabel extent) q = reads_breaks [] MISPLACED_JUMP extent q

-- A label stands within the spots of its value.
pub labels_in : (place : StatementPlace) (l : LabelTree) (q : ProgressTree) → Ensures (LabelsIn (spots_of_label l) q) (label_at place l q)
labels_in Outside l q = (misplaced_reads l q, refl)
labels_in (Inside kind ls) (CaseLabel extent e) q = case_in kind extent e ls q
labels_in (Inside kind ls) (DefaultLabel extent) q = (unless_reads [] (not ls.has_default) REPEATED_LABEL extent q, refl)
