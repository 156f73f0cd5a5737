-- Labels in the block of a `switch` (6.8.1 and 6.8.4.2).
use Rattle.std.specs.Prelude.{ℤ, List, [], ◌∷◌, ◌++◌, map, Bool, true, false, ◌||◌, not, Option, Some, None}
use Rattle.debug_records.specs.declared.code.TheConstants.Code.{MISPLACED_JUMP, OPERAND_TYPES, REPEATED_LABEL}
use Rattle.c_tree.specs.declared.extent.Extent.{Extent}
use Rattle.c_tree.specs.declared.types.IntegerType.{IntegerType}
use Rattle.c_tree.specs.declared.object_type.ValueType.{ValueType}
use Rattle.c_tree.specs.declared.object_type.ValueType.TheVariants.{Integer}
use Rattle.c_tree.specs.Expressions.{ExpressionTree}
use Rattle.c_tree.specs.Statements.{LabelTree, CaseLabel, DefaultLabel}
use Rattle.c_tree.specs.TypedExpressions.{RvalueTree}
use Rattle.c_tree.specs.TypedStatements.{TypedStatementTree, TypedStatementTrees, statement_view}
use Rattle.c_tree.specs.TypedStatements as typed-tree
use Rattle.c_type_rules.specs.declared.constancy.Constancy.{Constancy}
use Rattle.c_type_rules.specs.declared.constancy.Constancy.TheVariants.{Known}
use Rattle.c_type_rules.specs.Integers.{promoted, wrapped}
use Rattle.c_type_rules.specs.Constants.{same}
use Rattle.c_type_values.specs.Values.{ValueTree, node_view, to_integer}
use Rattle.c_type_declarations.specs.Progress.{ProgressTree, Met, means, next_met, reached_by, value_met, breaks}
use Rattle.c_type_declarations.specs.Initials.{computed_tree}
use Rattle.c_type_statements.specs.Settings.{rule_unless}
use Rattle.c_type_statements.specs.declared.switch.Chosen as declared-chosen
use Rattle.c_type_statements.specs.declared.switch.Labels as declared-labels
use Rattle.c_type_statements.specs.declared.part.Part as declared-part
use Rattle.c_type_statements.specs.declared.part.Part.TheVariants as part

-- what a `switch` tests: an integer, in its promoted type (E22, of the whole statement)
pub record Chosen : Type 0 where
  pub tree : RvalueTree
  pub kind : Option IntegerType

abbrev pub chosen_view : declared-chosen.Chosen → Chosen
chosen_view c = record { tree = node_view c.tree; kind = c.kind }

-- the value that a switch goes by, and a fault where it is no integer (C11 6.8.4.2)
abbrev pub chosen_by : ValueType → Extent → ValueTree → ProgressTree → Met Chosen
chosen_by (Integer t) extent v p =
    means (record { tree = (to_integer (promoted t) v).tree; kind = Some (promoted t) }) p
chosen_by of extent v p = means (record { tree = v.tree; kind = None }) (breaks OPERAND_TYPES extent p)

-- the value that a switch goes by, if it has one
abbrev pub controlling_value : Extent → Option ValueTree → ProgressTree → Met Chosen
controlling_value extent (Some v) p = chosen_by v.of extent v p
controlling_value extent None p = means (record { tree = computed_tree None; kind = None }) p

-- the controlling expression of a switch
abbrev pub chosen_met : Extent → ExpressionTree → ProgressTree → Met Chosen
chosen_met extent e p = next_met (value_met e p) (controlling_value extent)

-- the labels so far of a `switch`: the values of `case`, and whether there is a `default`
pub record Labels : Type 0 where
  pub values : List ℤ
  pub has_default : Bool

abbrev pub labels_view : declared-labels.Labels → Labels
labels_view ls = record { values = ls.values.items; has_default = ls.has_default }

-- a switch that has no label yet
abbrev pub no_labels : Labels
no_labels = record { values = []; has_default = false }

-- a number is among these
abbrev pub is_among_numbers : ℤ → List ℤ → Bool
is_among_numbers z [] = false
is_among_numbers z (y ∷ ys) = same y z || is_among_numbers z ys

-- the value of a `case` in the type that its `switch` tests; none where it is no integer constant expression
abbrev pub in_kind : Option IntegerType → ℤ → ℤ
in_kind (Some t) z = wrapped t z
in_kind None z = z

-- the number of a case label in the type that the switch goes by, if it is a known integer
abbrev pub case_value : Option IntegerType → ValueType → Constancy → Option ℤ
case_value kind (Integer t) (Known z) = Some (in_kind kind z)
case_value kind of k = None

-- what stands in the block of a `switch`
pub data PartTree : Type 0 where
  Case : ℤ → PartTree
  Default : PartTree
  Statement : TypedStatementTree → PartTree

abbrev pub part_view : declared-part.Part → PartTree
part_view (part.Case z) = Case z
part_view part.Default = Default
part_view (part.Statement s) = Statement (statement_view s.value)

-- parts before statements
abbrev pub parts_before : PartTree → TypedStatementTrees → TypedStatementTrees
parts_before (Case z) all = typed-tree.case z all
parts_before Default all = typed-tree.default all
parts_before (Statement s) all = typed-tree.first s all

-- the parts of a statement before others
abbrev pub put_all : List PartTree → TypedStatementTrees → TypedStatementTrees
put_all [] all = all
put_all (p ∷ ps) all = parts_before p (put_all ps all)

-- parts, and the labels so far
pub record Parts : Type 0 where
  pub parts : List PartTree
  pub labels : Labels

abbrev pub so_far : List declared-part.Part → declared-labels.Labels → Parts
so_far ps ls = record { parts = map part_view ps; labels = labels_view ls }

-- `case` with a value that no label of its `switch` has yet (E28), which has to be an integer constant (E26); a label
-- at fault is none
abbrev pub case_numbered : Option ℤ → Extent → Labels → ProgressTree → Met Parts
case_numbered (Some z) extent ls p =
    means (record {
      parts = Case z ∷ [];
      labels = record ls { values = ls.values ++ z ∷ [] };
    }) (rule_unless (not
    (is_among_numbers z ls.values)) REPEATED_LABEL extent p)
case_numbered None extent ls p = means (record { parts = []; labels = ls }) (breaks MISPLACED_JUMP extent p)

-- a case label with this value, and a fault where it is no constant or stands there twice
abbrev pub case_by : Option IntegerType → Extent → Labels → Option ValueTree → ProgressTree → Met Parts
case_by kind extent ls (Some v) p = case_numbered (case_value kind v.of v.constant) extent ls p
case_by kind extent ls None p = means (record { parts = []; labels = ls }) p

-- a case label with this expression
abbrev pub case_met : Option IntegerType → Extent → ExpressionTree → Labels → ProgressTree → Met Parts
case_met kind extent e ls p = next_met (value_met e p) (case_by kind extent ls)

-- `default`, once in its `switch` (E28)
abbrev pub default_met : Extent → Labels → ProgressTree → Met Parts
default_met extent ls p =
    means (record {
      parts = Default ∷ [];
      labels = record ls { has_default = true };
    }) (rule_unless (not ls.has_default) REPEATED_LABEL extent p)

-- a label directly in the block of a `switch`
abbrev pub label_met : Option IntegerType → LabelTree → Labels → ProgressTree → Met Parts
label_met kind (CaseLabel extent e) ls p = case_met kind extent e ls p
label_met kind (DefaultLabel extent) ls p = default_met extent ls p

-- a label anywhere else (E26)
abbrev pub misplaced_one : LabelTree → ProgressTree → ProgressTree
misplaced_one (CaseLabel extent e) p = reached_by (value_met e (breaks MISPLACED_JUMP extent p)) (λ v q. q)
misplaced_one (DefaultLabel extent) p = breaks MISPLACED_JUMP extent p

-- where a statement stands: directly in the block of a `switch` of a type, behind such labels, or anywhere else
pub data StatementPlace : Type 0 where
  Outside : StatementPlace
  Inside : Option IntegerType → Labels → StatementPlace

-- the labels of the innermost switch, none outside
abbrev pub labels_at : StatementPlace → Labels
labels_at Outside = no_labels
labels_at (Inside kind ls) = ls

-- the place behind a label
abbrev pub behind_label : StatementPlace → Labels → StatementPlace
behind_label Outside ls = Outside
behind_label (Inside kind old) ls = Inside kind ls

-- a label, and a fault where it stands in no switch
abbrev pub label_at : StatementPlace → LabelTree → ProgressTree → Met Parts
label_at Outside l p = means (record { parts = []; labels = no_labels }) (misplaced_one l p)
label_at (Inside kind ls) l p = label_met kind l ls p

-- a statement, the labels before it that are in place, and the labels so far behind it
pub record Labeled : Type 0 where
  pub before : List PartTree
  pub statement : TypedStatementTree
  pub labels : Labels

-- a statement without a label
unfoldable pub without_label : Labels → Met TypedStatementTree → Met Labeled
without_label ls m = next_met m (λ t. means (record { before = []; statement = t; labels = ls }))

-- a statement without what is before it
unfoldable pub bare : Met Labeled → Met TypedStatementTree
bare m = next_met m (λ x. means x.statement)

-- labels before a statement with its labels
abbrev pub preceded : List PartTree → Labeled → ProgressTree → Met Labeled
preceded ps x = means (record { before = ps ++ x.before; statement = x.statement; labels = x.labels })

-- a statement with its labels, behind parts
abbrev pub added : List PartTree → Labeled → ProgressTree → Met Parts
added done x = means (record { parts = done ++ (x.before ++ Statement x.statement ∷ []); labels = x.labels })

-- parts before others
abbrev pub behind : List PartTree → Parts → ProgressTree → Met Parts
behind ps q = means (record { parts = ps ++ q.parts; labels = q.labels })
