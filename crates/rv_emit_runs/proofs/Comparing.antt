-- Words that mean values compare as the values do.
use Rattle.std.proofs.Common.{◌≡◌, ℕ, zero, suc, ◌-◌, ◌<◌, sym, ap, ◌∙◌, arith, refl, Option, Some, None, Bool, true, false, cond, not}
use Rattle.std.specs.Prelude.{◌==◌, nat_lt, int_lt, pos, negsuc, option_map}
use Rattle.std.proofs.lemmas.Bool.{eqb-true, ne_eqb, lt-ltb, le-ltb}
use Rattle.memory_map.specs.declared.map.Map.{Map}
use mir.Val.{sel}
use Rattle.word_base.specs.Words.{signed_number, word_of_test}
use Rattle.word_base.specs.WordOperations.{word_operation}
use Rattle.word_base.specs.declared.operation.Operation.TheVariants.{Slt, Sltu}
use Rattle.rv_machine.specs.Table.{taken}
use Rattle.graph_core.specs.declared.value.Value.{Value}
use Rattle.graph_core.specs.declared.value.Value.TheVariants.{Number, Pointer, Odd}
use Rattle.graph_core.specs.declared.block.Comparison.{Comparison}
use Rattle.graph_core.specs.declared.block.Comparison.TheVariants.{Equal, NotEqual, Less, AtLeast, LessUnsigned, AtLeastUnsigned}
use Rattle.graph_core.specs.Values.{operate, same, is_true, holds}
use Rattle.graph_core.specs.Memory.{Memory, is_live}
use Rattle.rv_emit_storage.specs.declared.storage.Source.{Source}
use Rattle.rv_emit_storage.specs.declared.storage.Source.TheVariants.{Home as OfHome, Word}
use Rattle.rv_emit_storage.specs.Storages.{StorageForm}
use Rattle.rv_emit_steps.specs.Holding.{Holding}
use Rattle.rv_emit_steps.specs.EmitMovesDoing.{IsReadable, value_of}
use Rattle.rv_emit_steps.specs.Meaning.{Means, AreLaid}
use Rattle.rv_emit_steps.proofs.Values.{operation_means, same_means}
use Rattle.rv_emit_code.specs.Ends.{Compared, branch_operation, word_test, is_word, with_zero}
use Rattle.base_laws.proofs.Booleans.{not_not as twice}

-- The branch by a comparison is taken where it holds.
pub branch_tests : (k : Comparison) (x y : ℕ) → taken (branch_operation k) x y ≡ word_test k x y
unfolding taken
branch_tests Equal x y = refl
branch_tests NotEqual x y = refl
branch_tests Less x y = refl
branch_tests AtLeast x y = refl
branch_tests LessUnsigned x y = refl
branch_tests AtLeastUnsigned x y = refl

-- ---- Values

-- A word that means a test is not 0 where the test holds.
true_word : (addresses : ℕ → ℕ) (memory : Memory) (v : Value) (c t : Bool) → Means addresses memory v (word_of_test c) → is_true v ≡ Some t → c ≡ t
true_word addresses memory (Number n) true t means is =
    let e : not (n == 0) ≡ t = cc in
    ap (λ m. not (m == 0)) means ∙ e
true_word addresses memory (Number n) false t means is =
    let e : not (n == 0) ≡ t = cc in
    ap (λ m. not (m == 0)) means ∙ e
true_word addresses memory (Pointer object size offset) c t means is = cc
true_word addresses memory Odd c t means is = cc

false_word : (addresses : ℕ → ℕ) (memory : Memory) (v : Value) (c t : Bool) → Means addresses memory v (word_of_test c) → option_map not (is_true v) ≡ Some t → not c ≡ t
false_word addresses memory v c t means is = by_some (is_true v) refl is
  where
    by_some : (found : Option Bool) → is_true v ≡ found → option_map not found ≡ Some t → not c ≡ t
    by_some None e f = cc
    by_some (Some d) e f = let g : not d ≡ t = cc in ap not (true_word addresses memory v c d means e) ∙ g

module _ {regions : Map} (addresses : ℕ → ℕ) (memory : Memory) (laid : AreLaid regions addresses memory) where
  less_word : (a b : Value) (x y : ℕ) → x < 4294967296 → y < 4294967296 → Means addresses memory a x → Means addresses memory b y → Means addresses memory (operate Slt a b) (word_of_test (int_lt (signed_number x) (signed_number y)))
  unfolding word_operation
  less_word a b x y hx hy ma mb = operation_means addresses memory laid Slt a b x y hx hy ma mb

  less_unsigned_word : (a b : Value) (x y : ℕ) → x < 4294967296 → y < 4294967296 → Means addresses memory a x → Means addresses memory b y → Means addresses memory (operate Sltu a b) (word_of_test (nat_lt x y))
  unfolding word_operation
  less_unsigned_word a b x y hx hy ma mb = operation_means addresses memory laid Sltu a b x y hx hy ma mb

  -- What a comparison says of values it says of their words.
  pub comparison_means : (k : Comparison) (a b : Value) (x y : ℕ) (t : Bool) → x < 4294967296 → y < 4294967296 → Means addresses memory a x → Means addresses memory b y → holds (is_live memory) k a b ≡ Some t → word_test k x y ≡ t
  comparison_means Equal a b x y t hx hy ma mb is = true_word addresses memory (same (is_live memory) a b) (x == y) t (same_means addresses memory laid a b x y ma mb) is
  comparison_means NotEqual a b x y t hx hy ma mb is = false_word addresses memory (same (is_live memory) a b) (x == y) t (same_means addresses memory laid a b x y ma mb) is
  comparison_means Less a b x y t hx hy ma mb is = true_word addresses memory (operate Slt a b) (int_lt (signed_number x) (signed_number y)) t (less_word a b x y hx hy ma mb) is
  comparison_means AtLeast a b x y t hx hy ma mb is = false_word addresses memory (operate Slt a b) (int_lt (signed_number x) (signed_number y)) t (less_word a b x y hx hy ma mb) is
  comparison_means LessUnsigned a b x y t hx hy ma mb is = true_word addresses memory (operate Sltu a b) (nat_lt x y) t (less_unsigned_word a b x y hx hy ma mb) is
  comparison_means AtLeastUnsigned a b x y t hx hy ma mb is = false_word addresses memory (operate Sltu a b) (nat_lt x y) t (less_unsigned_word a b x y hx hy ma mb) is

-- ---- Comparisons with 0

-- A word is below 1 where 0 is not below it.
below_one : (x : ℕ) → int_lt (signed_number x) (signed_number 1) ≡ not (int_lt (signed_number 0) (signed_number x))
below_one x = by_test (nat_lt x 2147483648)
  where
    low : (n : ℕ) → nat_lt n 1 ≡ not (nat_lt 0 n)
    low zero = refl
    low (suc n) = le-ltb (suc n) 1 (omega arith) ∙ sym (ap not (lt-ltb 0 (suc n) (omega arith)))

    by_test : (b : Bool) → int_lt (sel b (pos x) (negsuc (4294967296 - suc x))) (signed_number 1) ≡ not (int_lt (signed_number 0) (sel b (pos x) (negsuc (4294967296 - suc x))))
    by_test true = low x
    by_test false = refl

-- -1 is below a word where that is not below 0.
above_minus_one : (x : ℕ) → int_lt (signed_number 4294967295) (signed_number x) ≡ not (int_lt (signed_number x) (signed_number 0))
above_minus_one x = by_test (nat_lt x 2147483648)
  where
    none : (n : ℕ) → nat_lt n 0 ≡ false
    none n = le-ltb n 0 (omega arith)

    by_test : (b : Bool) → int_lt (signed_number 4294967295) (sel b (pos x) (negsuc (4294967296 - suc x))) ≡ not (int_lt (sel b (pos x) (negsuc (4294967296 - suc x))) (signed_number 0))
    by_test true = sym (ap not (none x))
    by_test false = none (4294967296 - suc x)

unsigned_below_one : (x : ℕ) → nat_lt x 1 ≡ (x == 0)
unsigned_below_one zero = refl
unsigned_below_one (suc n) = le-ltb (suc n) 1 (omega arith) ∙ sym (ne_eqb (suc n) 0 (λ e. omega (arith, e)))

-- The word that is read.
is_the_word : (g : StorageForm) (h : Holding) (n : ℕ) (source : Source) → is_word n source ≡ true → value_of g h source ≡ n
is_the_word g h n (OfHome home) is = cc
is_the_word g h n (Word w) is = eqb-true w n is

-- What is compared, by the tests for 1 and for -1.
abbrev less_by : (l r : Source) → (a b : Bool) → Compared
less_by l r a b = cond a (record { comparison = AtLeast; left = Word 0; right = l }) (cond b (record { comparison = AtLeast; left = r; right = Word 0 }) (record { comparison = Less; left = l; right = r }))

abbrev at_least_by : (l r : Source) → (a b : Bool) → Compared
at_least_by l r a b = cond a (record { comparison = Less; left = Word 0; right = l }) (cond b (record { comparison = Less; left = r; right = Word 0 }) (record { comparison = AtLeast; left = l; right = r }))

abbrev less_unsigned_by : (l r : Source) → Bool → Compared
less_unsigned_by l r a = cond a (record { comparison = Equal; left = l; right = Word 0 }) (record { comparison = LessUnsigned; left = l; right = r })

abbrev at_least_unsigned_by : (l r : Source) → Bool → Compared
at_least_unsigned_by l r a = cond a (record { comparison = NotEqual; left = l; right = Word 0 }) (record { comparison = AtLeastUnsigned; left = l; right = r })

-- The comparison with 0 says the same.
pub with_zero_tests : (g : StorageForm) (h : Holding) (k : Comparison) (l r : Source)
    → word_test (with_zero k l r).comparison (value_of g h (with_zero k l r).left) (value_of g h (with_zero k l r).right) ≡ word_test k (value_of g h l) (value_of g h r)
with_zero_tests g h Equal l r = refl
with_zero_tests g h NotEqual l r = refl
with_zero_tests g h Less l r = by_tests (is_word 1 r) (is_word 4294967295 l) refl refl
  where
    by_tests : (a b : Bool) → is_word 1 r ≡ a → is_word 4294967295 l ≡ b → word_test (less_by l r a b).comparison (value_of g h (less_by l r a b).left) (value_of g h (less_by l r a b).right) ≡ int_lt (signed_number (value_of g h l)) (signed_number (value_of g h r))
    by_tests true b ea eb = sym (below_one (value_of g h l)) ∙ ap (λ y. int_lt (signed_number (value_of g h l)) (signed_number y)) (sym (is_the_word g h 1 r ea))
    by_tests false true ea eb = sym (above_minus_one (value_of g h r)) ∙ ap (λ y. int_lt (signed_number y) (signed_number (value_of g h r))) (sym (is_the_word g h 4294967295 l eb))
    by_tests false false ea eb = refl
with_zero_tests g h AtLeast l r = by_tests (is_word 1 r) (is_word 4294967295 l) refl refl
  where
    by_tests : (a b : Bool) → is_word 1 r ≡ a → is_word 4294967295 l ≡ b → word_test (at_least_by l r a b).comparison (value_of g h (at_least_by l r a b).left) (value_of g h (at_least_by l r a b).right) ≡ not (int_lt (signed_number (value_of g h l)) (signed_number (value_of g h r)))
    by_tests true b ea eb = sym (twice (int_lt (signed_number 0) (signed_number (value_of g h l)))) ∙ ap not (sym (below_one (value_of g h l))) ∙ ap (λ y. not (int_lt (signed_number (value_of g h l)) (signed_number y))) (sym (is_the_word g h 1 r ea))
    by_tests false true ea eb = sym (twice (int_lt (signed_number (value_of g h r)) (signed_number 0))) ∙ ap not (sym (above_minus_one (value_of g h r))) ∙ ap (λ y. not (int_lt (signed_number y) (signed_number (value_of g h r)))) (sym (is_the_word g h 4294967295 l eb))
    by_tests false false ea eb = refl
with_zero_tests g h LessUnsigned l r = by_test (is_word 1 r) refl
  where
    by_test : (a : Bool) → is_word 1 r ≡ a → word_test (less_unsigned_by l r a).comparison (value_of g h (less_unsigned_by l r a).left) (value_of g h (less_unsigned_by l r a).right) ≡ nat_lt (value_of g h l) (value_of g h r)
    by_test true ea = sym (unsigned_below_one (value_of g h l)) ∙ ap (nat_lt (value_of g h l)) (sym (is_the_word g h 1 r ea))
    by_test false ea = refl
with_zero_tests g h AtLeastUnsigned l r = by_test (is_word 1 r) refl
  where
    by_test : (a : Bool) → is_word 1 r ≡ a → word_test (at_least_unsigned_by l r a).comparison (value_of g h (at_least_unsigned_by l r a).left) (value_of g h (at_least_unsigned_by l r a).right) ≡ not (nat_lt (value_of g h l) (value_of g h r))
    by_test true ea = ap not (sym (unsigned_below_one (value_of g h l)) ∙ ap (nat_lt (value_of g h l)) (sym (is_the_word g h 1 r ea)))
    by_test false ea = refl

-- What is read in it can be.
pub with_zero_readable : (g : StorageForm) (h : Holding) (k : Comparison) (l r : Source) → IsReadable g h l → IsReadable g h r → IsReadable g h (with_zero k l r).left × IsReadable g h (with_zero k l r).right
with_zero_readable g h Equal l r rl rr = (rl, rr)
with_zero_readable g h NotEqual l r rl rr = (rl, rr)
with_zero_readable g h Less l r rl rr = by_tests (is_word 1 r) (is_word 4294967295 l)
  where
    by_tests : (a b : Bool) → IsReadable g h (less_by l r a b).left × IsReadable g h (less_by l r a b).right
    by_tests true b = (omega arith, rl)
    by_tests false true = (rr, omega arith)
    by_tests false false = (rl, rr)
with_zero_readable g h AtLeast l r rl rr = by_tests (is_word 1 r) (is_word 4294967295 l)
  where
    by_tests : (a b : Bool) → IsReadable g h (at_least_by l r a b).left × IsReadable g h (at_least_by l r a b).right
    by_tests true b = (omega arith, rl)
    by_tests false true = (rr, omega arith)
    by_tests false false = (rl, rr)
with_zero_readable g h LessUnsigned l r rl rr = by_test (is_word 1 r)
  where
    by_test : (a : Bool) → IsReadable g h (less_unsigned_by l r a).left × IsReadable g h (less_unsigned_by l r a).right
    by_test true = (rl, omega arith)
    by_test false = (rl, rr)
with_zero_readable g h AtLeastUnsigned l r rl rr = by_test (is_word 1 r)
  where
    by_test : (a : Bool) → IsReadable g h (at_least_unsigned_by l r a).left × IsReadable g h (at_least_unsigned_by l r a).right
    by_test true = (rl, omega arith)
    by_test false = (rl, rr)
