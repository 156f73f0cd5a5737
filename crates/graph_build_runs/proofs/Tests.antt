-- A value that is tested, in the source and in the unit.
use Rattle.std.proofs.Common.{◌≡◌, ◌≢◌, ℕ, zero, suc, ◌+◌, ◌<◌, ◌≤◌, Bool, true, false, not, Option, Some, None, slice_get, refl, sym, ap, ◌∙◌, subst, arith, ℤ, pos, negsuc}
use Rattle.std.specs.Prelude.{◌==◌, if◌then◌else◌, option_map}
use Rattle.std.specs.Option.{option_map_or}
use Rattle.std.proofs.lemmas.Bool.Decides.{nat_tests}
use Rattle.c_tree.specs.Programs.{ProgramTree}
use Rattle.c_meaning_values.specs.declared.value.Value as source-value
use Rattle.c_meaning_values.specs.declared.value.Value.TheVariants as source
use Rattle.c_meaning_values.specs.declared.value.Phase.{Phase}
use Rattle.c_meaning_values.specs.declared.value.Phase.TheVariants.{Initialising, Live, Ended}
use Rattle.c_meaning_values.specs.Memory.{Memory as SourceMemory, is_usable, is_over}
use Rattle.c_meaning_values.specs.Operations.{is_true}
use Rattle.graph_core.specs.declared.value.Value.{Value}
use Rattle.graph_core.specs.declared.value.Value.TheVariants.{Number, Pointer, Odd}
use Rattle.graph_core.specs.declared.block.Comparison.TheVariants.{NotEqual}
use Rattle.graph_core.specs.Memory.{Memory, bytes_of}
use Rattle.graph_core.specs.Values.{holds, same, truth_word, is_true as is_known}
use Rattle.graph_build_names.specs.Conversions.{unsigned_bits}
use Rattle.graph_build_runs.specs.Correspondence.{SameObject, SamePointer, points, ended, SameValue}
use Rattle.graph_build_runs.proofs.Words.{InWord}

-- a value that a word can say, where it is a number
abbrev pub HasWord : source-value.Value → Type 0
HasWord (source.Number z) = InWord z
HasWord source.Null = Unit {0}
HasWord (source.Pointer n offset) = Unit {0}

-- a number is true where its word is not 0
pub true_word : (z : ℤ) → InWord z → not (unsigned_bits z == 0) ≡ is_true (source.Number z)
true_word (pos zero) h = refl
true_word (pos (suc n)) h = let lt : suc n < 4294967296 = h in let some : unsigned_bits (pos (suc n)) ≢ 0 = λ e. absurd (omega (arith, lt, e)) in let e : unsigned_bits (pos (suc n)) == 0 ≡ false = grind (arith, nat_tests, some) in ap not e
true_word (negsuc n) h = let lt : n < 2147483648 = h in let some : unsigned_bits (negsuc n) ≢ 0 = λ e. absurd (omega (arith, lt, e)) in let e : unsigned_bits (negsuc n) == 0 ≡ false = grind (arith, nat_tests, some) in ap not e

word_test : (live : ℕ → Bool) (b : Bool) → option_map not (is_known (truth_word b)) ≡ Some (not b)
word_test live true = refl
word_test live false = refl

pub over_ended : (phase : Phase) → phase ≡ Ended → not (is_over phase) ≡ false
over_ended phase e = ap (λ q. not (is_over q)) e

-- A value is not zero in the unit where it is true in the source, if it may be used.
pub test_value : (p : ProgramTree) (memory : SourceMemory) (others : Memory) (live : ℕ → Bool) (v : source-value.Value) (w : Value) → SameValue p memory others v w → HasWord v → is_usable memory v ≡ true
    → holds live NotEqual w (Number 0) ≡ Some (is_true v)
test_value p memory others live (source.Number z) w same word usable =
    ap (λ k. holds live NotEqual k (Number 0)) same ∙ word_test live (unsigned_bits z == 0) ∙ ap Some (true_word z word)
test_value p memory others live source.Null w same word usable = ap (λ k. holds live NotEqual k (Number 0)) same
test_value p memory others live (source.Pointer n offset) w (points o is begun inside m q at object within e) word usable = ap (λ k. holds live NotEqual k (Number 0)) e
test_value p memory others live (source.Pointer n offset) w (ended o is over known) word usable =
    let not_so : is_usable memory (source.Pointer n offset) ≡ false = ap (λ f. option_map_or (λ q. not (is_over q.phase)) f false) is ∙ over_ended o.phase over in cc
