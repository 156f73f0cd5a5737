-- Comparisons of numbers, as conditions and as values.
use Rattle.std.proofs.Common.{◌≡◌, ◌≢◌, ℕ, zero, suc, ◌+◌, ◌*◌, ◌<◌, ◌≤◌, List, [], ◌∷◌, Bool, true, false, not, ◌||◌, Option, Some, None, refl, sym, ap, ◌∙◌, subst, arith, ℤ, pos, negsuc, bit_xor, bit_and}
use Rattle.std.specs.Prelude.{◌==◌, if◌then◌else◌, int_le, int_lt, option_map}
use Rattle.std.specs.Int.Bits.{xor_self, xor_add_and}
use Rattle.std.proofs.lemmas.Nat.{and_le_l, and_le_r}
use Rattle.std.proofs.lemmas.Bool.Decides.{nat_tests}
use Rattle.word_base.specs.Types.{holds as is_number}
use Rattle.word_base.specs.Operations as source-operations
use Rattle.word_base.specs.Words.{word_of_test}
use Rattle.word_base.specs.WordOperations.{word_operation as operated_words}
use Rattle.word_base.specs.declared.operation.Operation.TheVariants as operation
use Rattle.c_tree.specs.declared.types.IntegerType.{IntegerType}
use Rattle.c_tree.specs.declared.object_type.ValueType.TheVariants.{Integer}
use Rattle.c_tree.specs.declared.typed_expression.Comparison as declared
use Rattle.c_tree.specs.declared.typed_expression.Comparison.TheVariants as comparison
use Rattle.c_tree.specs.TypedExpressions.{RvalueTree, Compare}
use Rattle.c_type_rules.specs.Integers.{integer}
use Rattle.c_type_rules.specs.Constants.{same, comparison_holds as holds_of}
use Rattle.c_type_laws.specs.Kind.{Of}
use Rattle.c_type_laws.specs.Expressions.{kind_of}
use Rattle.c_type_laws.specs.Kinds.{is_promoted}
use Rattle.c_meaning_values.specs.declared.value.Value as source-value
use Rattle.c_meaning_values.specs.declared.value.Value.TheVariants as source
use Rattle.c_meaning_values.specs.Operations.{comparison as compares, comparison_value as truth_of}
use Rattle.c_meaning_steps.specs.States.{State, Evaluated, Gives, value_or_undefined, condition_tested, by_truth}
use Rattle.c_meaning.specs.Expressions.{Calls, evaluate}
use Rattle.graph_core.specs.declared.value.Value.{Value}
use Rattle.graph_core.specs.declared.value.Value.TheVariants.{Number}
use Rattle.graph_core.specs.Graphs as unit
use Rattle.graph_core.specs.Graphs.{Operand, Name, Operate, End, Instruction}
use Rattle.graph_core.specs.Memory.{is_live}
use Rattle.graph_core.specs.Runs.{Goes, step, value, branched}
use Rattle.graph_core.specs.Values.{operate, holds, is_true as is_known}
use Rattle.graph_core.specs.declared.block.Comparison.TheVariants as branch
use Rattle.graph_build_names.specs.Conversions.{unsigned_bits}
use Rattle.graph_build_names.specs.Operands.{is_two}
use Rattle.graph_build_layout.specs.Laid.{Pair, behind_move}
use Rattle.graph_build_names.specs.Names.{pick}
use Rattle.graph_build_steps.specs.Drafts.{Made, Goal, To, Unused, Either, instruction_before, target, follow, less, not_less, branch_by, compare_by, compared, compared_value}
use Rattle.graph_build_steps.specs.Rules.{less_by}
use Rattle.graph_build_runs.specs.Correspondence.{SameValue}
use Rattle.graph_build_runs.proofs.Words.{InWord}
use Rattle.graph_build_runs.proofs.Tests.{HasWord}
use Rattle.graph_build_runs.proofs.Comparing.{less_computes, equal_computes, at_most_is}
use Rattle.graph_build_runs.proofs.Leads.{Setting, names_in, size_in, Local, World, set_name, at, stays, goes, put_here, put_elsewhere, less_other}
use Rattle.graph_build_runs.proofs.Later.{others_refl}
use Rattle.graph_build_runs.proofs.Kept.{Sound, Fits, ScalarsFirst, fits_temporary}
use Rattle.graph_build_runs.proofs.Results.{EitherR, Result, result_after}
use Rattle.graph_build_runs.proofs.Leaves.{Writes, operated_done, test_done}
use Rattle.graph_build_runs.proofs.Typing.{HasKind, Typed}
use Rattle.graph_build_runs.proofs.Standing.{Stands, Grows}
use Rattle.graph_build_runs.proofs.Operands.{Does, code_in, Low, Spares, behind_le, pair_in, pair_does}
use Rattle.graph_build_runs.proofs.Arithmetic.{pick_between}
use Rattle.graph_build_runs.proofs.Laying.{behind_from}

known_test : (c : Bool) → is_known (Number (word_of_test c)) ≡ Some c
known_test true = refl
known_test false = refl

less_test : (live : ℕ → Bool) (s : Bool) (v u : Value) → holds live (less s) v u ≡ is_known (operate (less_by s) v u)
less_test live true v u = refl
less_test live false v u = refl

not_less_test : (live : ℕ → Bool) (s : Bool) (v u : Value) → holds live (not_less s) v u ≡ option_map not (is_known (operate (less_by s) v u))
not_less_test live true v u = refl
not_less_test live false v u = refl

equal_test : (c : Bool) → is_known (if c then Number 1 else Number 0) ≡ Some c
equal_test true = refl
equal_test false = refl

module _ (t : IntegerType) (promoted : is_promoted t ≡ true) (a b : ℤ) (ha : is_number (integer t) a ≡ true) (hb : is_number (integer t) b ≡ true) where
  less_known : is_known (operate (less_by (integer t).is_signed) (Number (unsigned_bits a)) (Number (unsigned_bits b))) ≡ Some (int_lt a b)
  less_known = ap (λ k. is_known (Number k)) (less_computes t promoted a b ha hb) ∙ known_test (int_lt a b)

  more_known : is_known (operate (less_by (integer t).is_signed) (Number (unsigned_bits b)) (Number (unsigned_bits a))) ≡ Some (int_lt b a)
  more_known = ap (λ k. is_known (Number k)) (less_computes t promoted b a hb ha) ∙ known_test (int_lt b a)

  -- The end of a block compares as C does.
  pub branch_compares : (x : Setting) (o : declared.Comparison) (left right : Operand) (one other : ℕ) (l : Local) (w : World) → value x.unit.statics l.names left ≡ Number (unsigned_bits a) → value x.unit.statics l.names right ≡ Number (unsigned_bits b)
      → step x.unit (at x [] (branch_by o (integer t).is_signed left right one other) l w) ≡ branched (at x [] (branch_by o (integer t).is_signed left right one other) l w) (Some (holds_of o a b)) one other
  branch_compares x comparison.Less left right one other l w sa sb =
      let c = at x [] (branch_by comparison.Less (integer t).is_signed left right one other) l w in
      ap (λ h. branched c h one other) (ap (λ v. holds (is_live w.memory) (less (integer t).is_signed) v (value x.unit.statics l.names right)) sa ∙ ap (holds (is_live w.memory) (less (integer t).is_signed) (Number (unsigned_bits a))) sb
      ∙ less_test (is_live w.memory) (integer t).is_signed (Number (unsigned_bits a)) (Number (unsigned_bits b)) ∙ less_known)
  branch_compares x comparison.Greater left right one other l w sa sb =
      let c = at x [] (branch_by comparison.Greater (integer t).is_signed left right one other) l w in
      ap (λ h. branched c h one other) (ap (λ v. holds (is_live w.memory) (less (integer t).is_signed) v (value x.unit.statics l.names left)) sb ∙ ap (holds (is_live w.memory) (less (integer t).is_signed) (Number (unsigned_bits b))) sa
      ∙ less_test (is_live w.memory) (integer t).is_signed (Number (unsigned_bits b)) (Number (unsigned_bits a)) ∙ more_known)
  branch_compares x comparison.LessEqual left right one other l w sa sb =
      let c = at x [] (branch_by comparison.LessEqual (integer t).is_signed left right one other) l w in
      ap (λ h. branched c h one other) (ap (λ v. holds (is_live w.memory) (not_less (integer t).is_signed) v (value x.unit.statics l.names left)) sb ∙ ap (holds (is_live w.memory) (not_less (integer t).is_signed) (Number (unsigned_bits b))) sa
      ∙ not_less_test (is_live w.memory) (integer t).is_signed (Number (unsigned_bits b)) (Number (unsigned_bits a)) ∙ ap (option_map not) more_known ∙ ap Some (at_most_is a b))
  branch_compares x comparison.GreaterEqual left right one other l w sa sb =
      let c = at x [] (branch_by comparison.GreaterEqual (integer t).is_signed left right one other) l w in
      ap (λ h. branched c h one other) (ap (λ v. holds (is_live w.memory) (not_less (integer t).is_signed) v (value x.unit.statics l.names right)) sa ∙ ap (holds (is_live w.memory) (not_less (integer t).is_signed) (Number (unsigned_bits a))) sb
      ∙ not_less_test (is_live w.memory) (integer t).is_signed (Number (unsigned_bits a)) (Number (unsigned_bits b)) ∙ ap (option_map not) less_known ∙ ap Some (at_most_is b a))
  branch_compares x comparison.Equal left right one other l w sa sb =
      let c = at x [] (branch_by comparison.Equal (integer t).is_signed left right one other) l w in
      ap (λ h. branched c h one other) (ap (λ v. holds (is_live w.memory) branch.Equal v (value x.unit.statics l.names right)) sa ∙ ap (holds (is_live w.memory) branch.Equal (Number (unsigned_bits a))) sb
      ∙ equal_test (unsigned_bits a == unsigned_bits b) ∙ ap Some (equal_computes t promoted a b ha hb))
  branch_compares x comparison.NotEqual left right one other l w sa sb =
      let c = at x [] (branch_by comparison.NotEqual (integer t).is_signed left right one other) l w in
      ap (λ h. branched c h one other) (ap (λ v. holds (is_live w.memory) branch.NotEqual v (value x.unit.statics l.names right)) sa ∙ ap (holds (is_live w.memory) branch.NotEqual (Number (unsigned_bits a))) sb
      ∙ ap (option_map not) (equal_test (unsigned_bits a == unsigned_bits b)) ∙ ap (λ q. Some (not q)) (equal_computes t promoted a b ha hb))
