-- Which objects live, behind what can become of memory.
use Rattle.std.proofs.Common.{◌≡◌, ℕ, zero, suc, ◌+◌, ◌<◌, ◌≤◌, inl, inr, Bool, true, false, Option, Some, None, List, [], ◌∷◌, ◌++◌, length, map, refl, sym, ap, ◌∙◌, arith}
use Rattle.std.specs.Prelude.{◌*◌, ◌/◌, ◌&&◌, nat_le, if◌then◌else◌, replicate, option_map, option_and_then, slice_get, slice_set, take, drop}
use Rattle.std.specs.Option.{option_map_or}
use Rattle.std.proofs.Math.Path.{fun_ext}
use Rattle.std.proofs.lemmas.Bool.{cases_lt}
use Rattle.std.proofs.lemmas.Option.{none-some, same_Some}
use Rattle.graph_core.specs.declared.value.Value.{Value}
use Rattle.graph_core.specs.declared.value.Value.TheVariants.{Number, Pointer, Odd}
use Rattle.graph_core.specs.declared.instruction.Element.{Element}
use Rattle.graph_core.specs.Graphs.{Binding, ToScalar, ToObject, Graph}
use Rattle.graph_core.specs.Values.{size_of}
use Rattle.graph_core.specs.Memory.{Object, Memory, is_live, pointer_to_object, index_in, with_value, write, write_in, written_in, filled, with_object, zeroed, copied, elements_from, words_of, bytes_of, ended, ended_from}
use Rattle.graph_core.specs.Runs.{bind_objects, set_first, with_objects}

-- the same objects live
abbrev pub LiveTheSame : Memory → Memory → Type 0
LiveTheSame before after = (k : ℕ) → is_live after k ≡ is_live before k

-- So it is, where memory becomes another.
abbrev pub KeepsLives : Memory → Option Memory → Type 0
KeepsLives before None = Unit {0}
KeepsLives before (Some after) = LiveTheSame before after

-- An object takes the place of one that lives as it does.
lives_set : (memory : Memory) (n : ℕ) (o p : Object) → slice_get memory n ≡ Some o → p.live ≡ o.live → LiveTheSame memory (slice_set memory n p)
lives_set [] n o p at same k = absurd (none-some o at)
lives_set (q ∷ memory) zero o p at same zero = same ∙ ap (λ (x : Object). x.live) (sym (same_Some q o at))
lives_set (q ∷ memory) zero o p at same (suc k) = refl
lives_set (q ∷ memory) (suc n) o p at same zero = refl
lives_set (q ∷ memory) (suc n) o p at same (suc k) = lives_set memory n o p at same k

-- A write leaves alive what lives.
pub write_lives : (memory : Memory) (e : Element) (p v : Value) → KeepsLives memory (write memory e p v)
write_lives memory e (Number w) v = tt
write_lives memory e Odd v = tt
write_lives memory e (Pointer n size offset) v = by_object (slice_get memory n) refl
  where
    by_index : (o : Object) → slice_get memory n ≡ Some o → (i : Option ℕ) → KeepsLives memory (option_map (written_in memory n v o) i)
    by_index o at None = tt
    by_index o at (Some i) = lives_set memory n o (with_value i v o) at refl

    by_object : (o : Option Object) → slice_get memory n ≡ o → KeepsLives memory (option_and_then (write_in memory n e offset v) o)
    by_object None at = tt
    by_object (Some o) at = by_index o at (index_in e offset o)

-- an object that is filled, or not
filled_lives : (memory : Memory) (n : ℕ) (words : ℕ) (values : List Value) (o : Object) (test : Bool) → slice_get memory n ≡ Some o → (p : Object) → p.live ≡ o.live → KeepsLives memory (option_map (with_object memory n) (if test then Some p else None))
filled_lives memory n words values o true at p same = lives_set memory n o p at same
filled_lives memory n words values o false at p same = tt

-- whichever values fill it
some_filled : (memory : Memory) (n : ℕ) (words : ℕ) (values : Object → List Value) → KeepsLives memory (option_and_then (λ o. option_map (with_object memory n) (filled words (values o) o)) (slice_get memory n))
some_filled memory n words values = by_object (slice_get memory n) refl
  where
    by_object : (o : Option Object) → slice_get memory n ≡ o → KeepsLives memory (option_and_then (λ o. option_map (with_object memory n) (filled words (values o) o)) o)
    by_object None at = tt
    by_object (Some o) at = filled_lives memory n words (values o) o (o.live && nat_le words (words_of (bytes_of o))) at (record o { values = take (length o.values) (values o) ++ drop (length (values o)) o.values }) refl

-- words that become zero
pub zeroed_lives : (memory : Memory) (n words : ℕ) → KeepsLives memory (zeroed memory n words)
zeroed_lives memory n words = some_filled memory n words (λ o. replicate (4 * words / size_of o.element) (Number 0))

-- words that are copied
pub copied_lives : (memory : Memory) (n : ℕ) (bytes : List ℕ) (words : ℕ) → KeepsLives memory (copied memory n bytes words)
copied_lives memory n bytes words = by_test (nat_le words (words_of (length bytes)))
  where
    by_test : (b : Bool)
        → KeepsLives memory (if b then option_and_then (λ o. option_map (with_object memory n) (filled words (elements_from bytes o.element 0 (4 * words / size_of o.element)) o)) (slice_get memory n) else None)
    by_test true = some_filled memory n words (λ o. elements_from bytes o.element 0 (4 * words / size_of o.element))
    by_test false = tt

-- An argument that is bound to an object leaves alive what lives.
set_lives : (n : ℕ) (v : Value) (memory : Memory) → LiveTheSame memory (set_first n v memory)
set_lives n v memory = by_object (slice_get memory n)
  where
    by_memory : (m : Option Memory) → KeepsLives memory m → LiveTheSame memory (option_map_or (λ m. m) m memory)
    by_memory None keeps k = refl
    by_memory (Some m) keeps k = keeps k

    by_object : (o : Option Object) → LiveTheSame memory (option_map_or (λ o. option_map_or (λ m. m) (write memory o.element (pointer_to_object memory n) v) memory) o memory)
    by_object None k = refl
    by_object (Some o) k = by_memory (write memory o.element (pointer_to_object memory n) v) (write_lives memory o.element (pointer_to_object memory n) v) k

-- so do several
bound_live : (first : ℕ) (bindings : List Binding) (vs : List Value) (memory : Memory) → LiveTheSame memory (bind_objects first bindings vs memory)
bound_live first [] vs memory k = refl
bound_live first (b ∷ more) [] memory k = refl
bound_live first (ToScalar x ∷ more) (v ∷ vs) memory k = bound_live first more vs memory k
bound_live first (ToObject object ∷ more) (v ∷ vs) memory k = bound_live first more vs (set_first (first + object) v memory) k ∙ set_lives (first + object) v memory k

-- WHAT LIVES BELOW: of the objects up to a number the same, and of the others none.
pub record Covers (first : ℕ) (above below : ℕ → Bool) : Type 0 where
  pub under : (k : ℕ) → k < first → below k ≡ above k
  pub over : (k : ℕ) → first ≤ k → below k ≡ false

-- behind the last object none lives
none_lives : (memory : Memory) (k : ℕ) → length memory ≤ k → is_live memory k ≡ false
none_lives [] k over = refl
none_lives (o ∷ memory) zero over = absurd (omega (arith, over))
none_lives (o ∷ memory) (suc k) over = none_lives memory k (omega (arith, over))

-- objects that begin leave those before them as they are
lives_under : (memory new : Memory) (k : ℕ) → k < length memory → is_live memory k ≡ is_live (memory ++ new) k
lives_under [] new k under = absurd (omega (arith, under))
lives_under (o ∷ memory) new zero under = refl
lives_under (o ∷ memory) new (suc k) under = lives_under memory new k (omega (arith, under))

-- A function that begins covers what lived before.
pub begun_covers : (memory : Memory) (depth : ℕ) (g : Graph) (vs : List Value) → Covers (length memory) (is_live (bind_objects (length memory) g.parameters vs (with_objects depth g memory))) (is_live memory)
begun_covers memory depth g vs = record {
  under = λ k under. lives_under memory _ k under ∙ sym (bound_live (length memory) g.parameters vs (with_objects depth g memory) k);
  over = none_lives memory;
}

-- where those from a number on have ended those below live as before
ended_under : (n : ℕ) (memory : Memory) (k : ℕ) → k < n → is_live (ended_from n memory) k ≡ is_live memory k
ended_under zero memory k under = absurd (omega (arith, under))
ended_under (suc n) [] k under = refl
ended_under (suc n) (o ∷ memory) zero under = refl
ended_under (suc n) (o ∷ memory) (suc k) under = ended_under n memory k (omega (arith, under))

-- of objects that have all ended none lives
all_ended : (memory : Memory) (k : ℕ) → is_live (map ended memory) k ≡ false
all_ended [] k = refl
all_ended (o ∷ memory) zero = refl
all_ended (o ∷ memory) (suc k) = all_ended memory k

-- where those from a number on have ended none of these lives
ended_over : (n : ℕ) (memory : Memory) (k : ℕ) → n ≤ k → is_live (ended_from n memory) k ≡ false
ended_over zero memory k over = all_ended memory k
ended_over (suc n) [] k over = refl
ended_over (suc n) (o ∷ memory) zero over = absurd (omega (arith, over))
ended_over (suc n) (o ∷ memory) (suc k) over = ended_over n memory k (omega (arith, over))

-- When it is left just what it covered lives.
pub left_lives : (first : ℕ) (memory : Memory) (below : ℕ → Bool) → Covers first (is_live memory) below → below ≡ is_live (ended_from first memory)
left_lives first memory below covers = fun_ext (λ k. elim (cases_lt k first) [
  | inl under ↦ covers.under k under ∙ sym (ended_under first memory k under)
  | inr over ↦ covers.over k over ∙ sym (ended_over first memory k over)
])

-- Where the same objects live, the functions that tell it are one.
pub live_same : (before after : Memory) → LiveTheSame before after → is_live before ≡ is_live after
live_same before after same = fun_ext (λ k. sym (same k))
