-- Comparisons of numbers as values.
use Rattle.std.proofs.Common.{◌≡◌, ◌≢◌, ℕ, zero, suc, ◌+◌, ◌*◌, ◌<◌, ◌≤◌, ◌⊎◌, inl, inr, List, [], ◌∷◌, Bool, true, false, not, ◌||◌, Option, Some, None, refl, sym, ap, ◌∙◌, subst, arith, ℤ, pos, negsuc, bit_xor, bit_and}
use Rattle.std.specs.Prelude.{◌==◌, if◌then◌else◌, int_le, int_lt, nat_lt}
use Rattle.std.specs.Int.Bits.{xor_self, xor_add_and}
use Rattle.std.proofs.lemmas.Nat.{and_le_l, and_le_r}
use Rattle.std.proofs.lemmas.Bool.{cases_eq}
use Rattle.std.proofs.lemmas.Bool.Decides.{nat_tests}
use Rattle.word_base.specs.Types.{holds as is_number}
use Rattle.word_base.specs.Operations.{truth}
use Rattle.word_base.specs.Words.{word_of_test}
use Rattle.word_base.specs.WordOperations.{word_operation as operated_words}
use Rattle.word_base.specs.declared.operation.Operation.TheVariants as operation
use Rattle.c_tree.specs.declared.types.IntegerType.{IntegerType}
use Rattle.c_tree.specs.declared.object_type.ValueType.TheVariants.{Integer}
use Rattle.c_tree.specs.declared.typed_expression.Comparison as declared
use Rattle.c_tree.specs.declared.typed_expression.Comparison.TheVariants as comparison
use Rattle.c_tree.specs.TypedExpressions.{RvalueTree, Compare}
use Rattle.c_type_rules.specs.Integers.{integer}
use Rattle.c_type_rules.specs.Constants.{same, comparison_holds as holds_of}
use Rattle.c_type_laws.specs.Kind.{Of}
use Rattle.c_type_laws.specs.Expressions.{kind_of}
use Rattle.c_type_laws.specs.Kinds.{is_promoted}
use Rattle.c_meaning_values.specs.declared.value.Value as source-value
use Rattle.c_meaning_values.specs.declared.value.Value.TheVariants as source
use Rattle.c_meaning_steps.specs.declared.event.Ending.TheVariants as ending
use Rattle.c_meaning_values.specs.Memory.{Memory}
use Rattle.c_meaning_values.specs.Operations.{comparison as compares, comparison_value as truth_of, is_true}
use Rattle.c_meaning_steps.specs.States.{State, Evaluated, Gives, Ends, value_or_undefined, Tested, condition_tested, by_truth}
use Rattle.c_meaning.specs.Expressions.{Calls, evaluate}
use Rattle.graph_core.specs.declared.value.Value.{Value}
use Rattle.graph_core.specs.declared.value.Value.TheVariants.{Number}
use Rattle.graph_core.specs.Graphs as unit
use Rattle.graph_core.specs.Graphs.{Operand, Name, Operate, End, Instruction}
use Rattle.graph_core.specs.Runs.{value}
use Rattle.graph_core.specs.Values.{operate}
use Rattle.graph_build_names.specs.Conversions.{unsigned_bits}
use Rattle.graph_build_names.specs.Operands.{is_two}
use Rattle.graph_build_layout.specs.Laid.{Pair, behind_move}
use Rattle.graph_build_names.specs.Names.{pick}
use Rattle.graph_build_steps.specs.Drafts.{Made, Goal, To, Unused, Either, instruction_before, target, follow, branch_by, compare_by, compared}
use Rattle.graph_build_steps.specs.Rules.{less_by}
use Rattle.graph_build_runs.specs.Correspondence.{SameValue}
use Rattle.graph_build_runs.proofs.Words.{InWord}
use Rattle.graph_build_runs.proofs.Comparing.{less_computes, equal_computes, at_most_is}
use Rattle.graph_build_runs.proofs.Compares.{branch_compares}
use Rattle.graph_build_runs.proofs.Leads.{Setting, names_in, size_in, Local, World, set_name, put_here}
use Rattle.graph_build_runs.proofs.Kept.{Sound, Fits, ScalarsFirst}
use Rattle.graph_build_runs.proofs.Results.{EitherR, Result, stuck_now, ended_result}
use Rattle.graph_build_runs.proofs.Leaves.{operated_done, two_done, test_done}
use Rattle.graph_build_runs.proofs.Typing.{HasKind, Typed}
use Rattle.graph_build_runs.proofs.Standing.{Stands, Grows}
use Rattle.graph_build_runs.proofs.Operands.{Does, code_in, Low, Spares, behind_le, pair_in, pair_does}
use Rattle.graph_build_runs.proofs.Arithmetic.{pick_between}
use Rattle.graph_build_runs.proofs.Laying.{behind_from}

pub truth_word : (c : Bool) → word_of_test c ≡ unsigned_bits (truth c)
truth_word true = refl
truth_word false = refl

pub truth_in : (c : Bool) → InWord (truth c)
truth_in true = omega arith
truth_in false = omega arith

xor_one : (c : Bool) → operated_words operation.Xor (word_of_test c) 1 ≡ word_of_test (not c)
unfolding operated_words
xor_one true = refl
xor_one false = refl

-- the bits of two words differ where the words do
xor_none : (a b : ℕ) → a ≢ b → bit_xor a b ≢ 0
xor_none a b ne e = ne (let sum = xor_add_and a b in let left = and_le_l a b in let right = and_le_r a b in omega (arith, sum, left, right, e))

xor_equal : (a b : ℕ) → operated_words operation.Sltu (operated_words operation.Xor a b) 1 ≡ word_of_test (a == b)
unfolding operated_words
xor_equal a b = elim (cases_eq a b) [
  | inl e ↦ let none : bit_xor a b ≡ 0 = ap (bit_xor a) (sym e) ∙ xor_self a in let same_test : nat_lt (bit_xor a b) 1 ≡ (a == b) = grind (arith, nat_tests, none, e) in ap word_of_test same_test
  | inr ne ↦ let some = xor_none a b ne in let same_test : nat_lt (bit_xor a b) 1 ≡ (a == b) = grind (arith, nat_tests, some, ne) in ap word_of_test same_test
]

xor_differ : (a b : ℕ) → operated_words operation.Sltu 0 (operated_words operation.Xor a b) ≡ word_of_test (not (a == b))
unfolding operated_words
xor_differ a b = elim (cases_eq a b) [
  | inl e ↦ let none : bit_xor a b ≡ 0 = ap (bit_xor a) (sym e) ∙ xor_self a in let yes : a == b ≡ true = grind (arith, nat_tests, e) in let no : nat_lt 0 (bit_xor a b) ≡ false = grind (arith, nat_tests, none) in let same_test : nat_lt 0 (bit_xor a b) ≡ not (a == b) = no ∙ ap not (sym yes) in ap word_of_test same_test
  | inr ne ↦ let some = xor_none a b ne in let no : a == b ≡ false = grind (arith, nat_tests, ne) in let yes : nat_lt 0 (bit_xor a b) ≡ true = grind (arith, nat_tests, some) in let same_test : nat_lt 0 (bit_xor a b) ≡ not (a == b) = yes ∙ ap not (sym no) in ap word_of_test same_test
]

module _ (x : Setting) (low : ScalarsFirst x) (ty : IntegerType) (promoted : is_promoted ty ≡ true) (g : Goal) (own temporary t : ℕ) (f : ℕ → Bool) (le1 : t ≤ temporary) (size1 : size_in x ≤ temporary) (le2 : t ≤ own) (size2 : size_in x ≤ own)
    (left right : Operand) (a b : ℤ) (s : State) (l : Local) (w : World) (fits : Fits x None s l w) (ha : is_number (integer ty) a ≡ true) (hb : is_number (integer ty) b ≡ true)
    (sa : value x.unit.statics l.names left ≡ Number (unsigned_bits a)) (sb : value x.unit.statics l.names right ≡ Number (unsigned_bits b)) where
  abbrev In : declared.Comparison → Made
  In o = compare_by o (integer ty).is_signed (target g own) temporary left right (follow g own)

  less_is : (c d : ℤ) (first second : Operand) → is_number (integer ty) c ≡ true → is_number (integer ty) d ≡ true → value x.unit.statics l.names first ≡ Number (unsigned_bits c) → value x.unit.statics l.names second ≡ Number (unsigned_bits d)
      → operate (less_by (integer ty).is_signed) (value x.unit.statics l.names first) (value x.unit.statics l.names second) ≡ Number (word_of_test (int_lt c d))
  less_is c d first second hc hd sc sd =
      ap (λ v. operate (less_by (integer ty).is_signed) v (value x.unit.statics l.names second)) sc ∙ ap (operate (less_by (integer ty).is_signed) (Number (unsigned_bits c))) sd ∙ ap Number (less_computes ty promoted c d hc hd)

  xor_is : operate operation.Xor (value x.unit.statics l.names left) (value x.unit.statics l.names right) ≡ Number (operated_words operation.Xor (unsigned_bits a) (unsigned_bits b))
  xor_is = ap (λ v. operate operation.Xor v (value x.unit.statics l.names right)) sa ∙ ap (operate operation.Xor (Number (unsigned_bits a))) sb

  pub value_compares : (o : declared.Comparison) → Result x g (Name own) t f (In o).ops (In o).end l w (Gives (source.Number (truth_of o a b)) s)
  value_compares comparison.Less =
      operated_done x g own t f (λ k. Operate k (less_by (integer ty).is_signed) left right) (source.Number (truth (int_lt a b))) _ s l w low le2 size2 fits (λ k ops end. refl) (less_is a b left right ha hb sa sb ∙ ap Number (truth_word (int_lt a b))) (truth_in (int_lt a b))
  value_compares comparison.Greater =
      operated_done x g own t f (λ k. Operate k (less_by (integer ty).is_signed) right left) (source.Number (truth (int_lt b a))) _ s l w low le2 size2 fits (λ k ops end. refl) (less_is b a right left hb ha sb sa ∙ ap Number (truth_word (int_lt b a))) (truth_in (int_lt b a))
  value_compares comparison.LessEqual =
      let between = operate (less_by (integer ty).is_signed) (value x.unit.statics l.names right) (value x.unit.statics l.names left) in
      two_done x g own temporary t f (λ k. Operate k (less_by (integer ty).is_signed) right left) (λ k. Operate k operation.Xor (Name temporary) (unit.Constant 1)) (source.Number (truth (int_le a b))) between _ s l w low le1 size1 le2 size2 fits (λ k ops end. refl) (λ k ops end. refl)
      (ap (λ v. operate operation.Xor v (Number 1)) (put_here l.names temporary between ∙ less_is b a right left hb ha sb sa) ∙ ap Number (xor_one (int_lt b a) ∙ ap word_of_test (at_most_is a b) ∙ truth_word (int_le a b))) (truth_in (int_le a b))
  value_compares comparison.GreaterEqual =
      let between = operate (less_by (integer ty).is_signed) (value x.unit.statics l.names left) (value x.unit.statics l.names right) in
      two_done x g own temporary t f (λ k. Operate k (less_by (integer ty).is_signed) left right) (λ k. Operate k operation.Xor (Name temporary) (unit.Constant 1)) (source.Number (truth (int_le b a))) between _ s l w low le1 size1 le2 size2 fits (λ k ops end. refl) (λ k ops end. refl)
      (ap (λ v. operate operation.Xor v (Number 1)) (put_here l.names temporary between ∙ less_is a b left right ha hb sa sb) ∙ ap Number (xor_one (int_lt a b) ∙ ap word_of_test (at_most_is b a) ∙ truth_word (int_le b a))) (truth_in (int_le b a))
  value_compares comparison.Equal =
      let between = operate operation.Xor (value x.unit.statics l.names left) (value x.unit.statics l.names right) in
      two_done x g own temporary t f (λ k. Operate k operation.Xor left right) (λ k. Operate k operation.Sltu (Name temporary) (unit.Constant 1)) (source.Number (truth (same a b))) between _ s l w low le1 size1 le2 size2 fits (λ k ops end. refl) (λ k ops end. refl)
      (ap (λ v. operate operation.Sltu v (Number 1)) (put_here l.names temporary between ∙ xor_is) ∙ ap Number (xor_equal (unsigned_bits a) (unsigned_bits b) ∙ ap word_of_test (equal_computes ty promoted a b ha hb) ∙ truth_word (same a b))) (truth_in (same a b))
  value_compares comparison.NotEqual =
      let between = operate operation.Xor (value x.unit.statics l.names left) (value x.unit.statics l.names right) in
      two_done x g own temporary t f (λ k. Operate k operation.Xor left right) (λ k. Operate k operation.Sltu (unit.Constant 0) (Name temporary)) (source.Number (truth (not (same a b)))) between _ s l w low le1 size1 le2 size2 fits (λ k ops end. refl) (λ k ops end. refl)
      (ap (operate operation.Sltu (Number 0)) (put_here l.names temporary between ∙ xor_is) ∙ ap Number (xor_differ (unsigned_bits a) (unsigned_bits b) ∙ ap (λ c. word_of_test (not c)) (equal_computes ty promoted a b ha hb) ∙ truth_word (not (same a b)))) (truth_in (not (same a b)))

truth_true : (c : Bool) → is_true (source.Number (truth c)) ≡ c
truth_true true = refl
truth_true false = refl

module _ (x : Setting) (calls : Calls) (low : ScalarsFirst x) (o : declared.Comparison) (ty : IntegerType) (promoted : is_promoted ty ≡ true) (a b : RvalueTree) (kind_a : kind_of x.program x.tree a ≡ Of (Integer ty)) (kind_b : kind_of x.program x.tree b ≡ Of (Integer ty))
    (typed_a : Typed x calls a) (typed_b : Typed x calls b) (low_a : Low x a) (low_b : Low x b) (spares_b : Spares x b) (grows_a : Grows (names_in x) x.place x.top x.graph a) (does_a : Does x calls a) (does_b : Does x calls b) where
  abbrev own_of : ℕ → ℕ
  own_of t = pick (names_in x) t (behind_move (is_two o) (pair_in x a b t).next)

  abbrev last_of : ℕ → Goal → Made
  last_of t g = compared (names_in x) g (integer ty).is_signed o t (is_two o) (pair_in x a b t)

  next_above : (t : ℕ) → size_in x ≤ t → t ≤ (pair_in x a b t).next
  next_above t size =
      let q = pair_in x a b t in
      let first = (low_a t size).next in
      let held = behind_le q.moved q.moved_to in
      let second = (low_b q.from (omega (arith, size, first, held))).next in
      omega (arith, first, held, second)

  compares_numbers : (t : ℕ) (g : Goal) → size_in x ≤ t → (za zb : ℤ) (s : State) (l : Local) (w : World) → Fits x None s l w → value x.unit.statics l.names (pair_in x a b t).left ≡ Number (unsigned_bits za) → value x.unit.statics l.names (pair_in x a b t).right ≡ Number (unsigned_bits zb)
      → is_number (integer ty) za ≡ true → is_number (integer ty) zb ≡ true → Result x g (Name (own_of t)) t (λ y. false) (last_of t g).ops (last_of t g).end l w (Gives (source.Number (truth_of o za zb)) s)
  compares_numbers t (Either one other inner) size za zb s l w fits sa sb ha hb =
      let q = pair_in x a b t in
      let e = branch_by o (integer ty).is_signed q.left q.right one other in
      subst (λ c. EitherR x one other t (λ y. false) [] e l w (by_truth c s)) (sym (truth_true (holds_of o za zb)))
      (test_done x t (λ y. false) e l w s (holds_of o za zb) one other fits (branch_compares ty promoted za zb ha hb x o q.left q.right one other l w sa sb))
  compares_numbers t (To want m) size za zb s l w fits sa sb ha hb =
      let q = pair_in x a b t in
      let above = next_above t size in
      let behind = behind_from (names_in x) (size_in x) low (is_two o) t q.next above in
      let le1 = pick_between (names_in x) t q.next t (omega arith) above in
      let le2 = pick_between (names_in x) t (behind_move (is_two o) q.next) t (omega arith) behind in
      value_compares x low ty promoted (To want m) (own_of t) (pick (names_in x) t q.next) t (λ y. false) le1 (omega (arith, le1, size)) le2 (omega (arith, le2, size)) q.left q.right za zb s l w fits ha hb sa sb o
  compares_numbers t (Unused m) size za zb s l w fits sa sb ha hb =
      let q = pair_in x a b t in
      let above = next_above t size in
      let behind = behind_from (names_in x) (size_in x) low (is_two o) t q.next above in
      let le1 = pick_between (names_in x) t q.next t (omega arith) above in
      let le2 = pick_between (names_in x) t (behind_move (is_two o) q.next) t (omega arith) behind in
      value_compares x low ty promoted (Unused m) (own_of t) (pick (names_in x) t q.next) t (λ y. false) le1 (omega (arith, le1, size)) le2 (omega (arith, le2, size)) q.left q.right za zb s l w fits ha hb sa sb o

  compares_values : (t : ℕ) (g : Goal) → size_in x ≤ t → (v u : source-value.Value) (s : State) (l : Local) (w : World) → Fits x None s l w → SameValue x.program s.memory w.memory v (value x.unit.statics l.names (pair_in x a b t).left)
      → SameValue x.program s.memory w.memory u (value x.unit.statics l.names (pair_in x a b t).right) → HasKind s.memory (Of (Integer ty)) v → HasKind s.memory (Of (Integer ty)) u
      → Result x g (Name (own_of t)) t (λ y. false) (last_of t g).ops (last_of t g).end l w (value_or_undefined (compares o v u) s)
  compares_values t g size (source.Number za) (source.Number zb) s l w fits sa sb ka kb = compares_numbers t g size za zb s l w fits sa sb ka kb
  compares_values t g size (source.Number za) source.Null s l w fits sa sb ka kb = absurd kb
  compares_values t g size (source.Number za) (source.Pointer n k) s l w fits sa sb ka kb = absurd kb
  compares_values t g size source.Null u s l w fits sa sb ka kb = absurd ka
  compares_values t g size (source.Pointer n k) u s l w fits sa sb ka kb = absurd ka

  pub compare_does : Does x calls (Compare o ty a b)
  compare_does t g s l w size st sound fits aims =
      pair_does x calls low a b typed_a typed_b low_a spares_b grows_a does_a does_b t g (Name (own_of t)) (last_of t g) (λ v u s1. value_or_undefined (compares o v u) s1) s l w size st sound fits
      (λ v u s1 l1 w1 sound1 fits1 sa sb ka kb. compares_values t g size v u s1 l1 w1 fits1 sa sb (subst (λ k. HasKind s1.memory k v) kind_a ka) (subst (λ k. HasKind s1.memory k u) kind_b kb))
