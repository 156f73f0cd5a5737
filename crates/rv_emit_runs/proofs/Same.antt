-- A step of an instruction that is no call keeps the activation, those that wait, and the objects.
use Rattle.std.proofs.Common.{◌≡◌, ℕ, ◌+◌, ◌*◌, ◌/◌, ◌≤◌, ap, subst, arith, refl, Option, Some, None, Bool, true, false, cond, List, ◌∷◌, length, slice_get, slice_set}
use Rattle.std.specs.Prelude.{◌==◌, nat_le, option_map, option_and_then, map, replicate}
use Rattle.std.proofs.lemmas.List.{length-set}
use Rattle.graph_core.specs.declared.value.Value.{Value}
use Rattle.graph_core.specs.declared.value.Value.TheVariants.{Number}
use Rattle.graph_core.specs.declared.instruction.Element.{Element}
use Rattle.graph_core.specs.Graphs.{Instruction, Marker, Note, Is, Gone, Move, Operate, Truncate, Same, Address, Load, Store, Zero, CopyWords, Call, UnitForm}
use Rattle.graph_core.specs.Values.{size_of, as_element, is_odd}
use Rattle.graph_core.specs.Memory.{Memory, Object, words_of, read, write, zeroed, copied, with_value, filled, with_object, elements_from}
use Rattle.graph_core.specs.Runs.{Configuration, Stepped, Goes, Shows, Ends, Wild, Stop, frame as shown_frame, value, pointed, wrote_some, with_memory, recipe_value, with_value_at, at_place, execute}
use Rattle.graph_core.specs.declared.value.Shadow.TheVariants as shadow
use Rattle.rv_emit_steps.proofs.Accesses.{WritesTo, write_writes}
use Rattle.rv_emit_steps.proofs.Arrays.{those_same}
use Rattle.rv_emit_steps.proofs.Filled.{with_front, front_length}
use Rattle.rv_emit_steps.proofs.Objects.{AreThose, those_set}
use Rattle.rv_emit_steps.proofs.Zeros.{IsFilled, filled_is}
use Rattle.rv_emit_runs.specs.Keeping.{IsNoCall}

-- The same activation goes on, with those waiting that waited, and there are the objects that there were.
pub record SameActivation (c d : Configuration) : Type 0 where
  pub function : d.here.function ≡ c.here.function
  pub first : d.here.first_object ≡ c.here.first_object
  pub waiting : d.waiting ≡ c.waiting
  pub those : AreThose c.memory d.memory
  pub longer : length c.memory ≤ length d.memory

-- A step that goes on leaves it so, and the input.
abbrev pub StepKeeps : Configuration → Stepped → Type 0
StepKeeps c (Goes d) = SameActivation c d × (d.input ≡ c.input)
StepKeeps c (Shows e d) = SameActivation c d × (d.input ≡ c.input)
StepKeeps c (Ends e) = Unit {0}
StepKeeps c Wild = Unit {0}

-- Memory in which an object is replaced by one of its size.
set_keeps : (c : Configuration) (n : ℕ) (o p : Object) (later : Memory) → slice_get c.memory n ≡ Some o → length p.values * size_of p.element ≡ length o.values * size_of o.element → (p.live ≡ true → o.live ≡ true) → slice_set c.memory n p ≡ later
    → SameActivation c (record c { memory = later })
set_keeps c n o p later there bytes live is = record {
  function = refl;
  first = refl;
  waiting = refl;
  those = subst (λ m. AreThose c.memory m) is (those_set c.memory n o p there bytes live);
  longer = subst (λ (m : Memory). length c.memory ≤ length m) is (let same = length-set c.memory n p in omega (arith, same));
}

filled_keeps : (c : Configuration) (n words : ℕ) (new : Object → List Value) (later : Memory) → option_and_then (λ o. option_map (with_object c.memory n) (filled words (new o) o)) (slice_get c.memory n) ≡ Some later → SameActivation c (record c { memory = later })
filled_keeps c n words new later found =
    let is : IsFilled c.memory n words new later = filled_is c.memory n words new later found in
    set_keeps c n is.object (record is.object { values = with_front (new is.object) is.object.values }) later is.there (ap (λ k. k * size_of is.object.element) (front_length (new is.object) is.object.values)) (λ l. l) is.makes

store_keeps : (c : Configuration) (e : Element) (p v : Value) → StepKeeps c (with_memory c (write c.memory e p v))
store_keeps c e p v = by_memory (write c.memory e p v) refl
  where
    by_memory : (later : Option Memory) → write c.memory e p v ≡ later → StepKeeps c (with_memory c later)
    by_memory None made = tt
    by_memory (Some later) made =
        let t : WritesTo c.memory e p v later = write_writes c.memory e p v later made in
        (set_keeps c t.number t.object (with_value t.index v t.object) later t.hits.there (ap (λ k. k * size_of t.object.element) (length-set t.object.values t.index (as_element t.object.element v))) (λ l. l) t.makes, refl)

zero_keeps : (c : Configuration) (n words : ℕ) → StepKeeps c (with_memory c (zeroed c.memory n words))
zero_keeps c n words = by_memory (zeroed c.memory n words) refl
  where
    by_memory : (later : Option Memory) → zeroed c.memory n words ≡ later → StepKeeps c (with_memory c later)
    by_memory None made = tt
    by_memory (Some later) made = (filled_keeps c n words (λ o. replicate (4 * words / size_of o.element) (Number 0)) later made, refl)

copy_keeps : (c : Configuration) (n words : ℕ) (found : Option (List ℕ)) → StepKeeps c (with_memory c (option_and_then (λ all. copied c.memory n all words) found))
copy_keeps c n words None = tt
copy_keeps c n words (Some all) = by_test (nat_le words (words_of (length all)))
  where
    by_memory : (later : Option Memory) → option_and_then (λ o. option_map (with_object c.memory n) (filled words (elements_from all o.element 0 (4 * words / size_of o.element)) o)) (slice_get c.memory n) ≡ later → StepKeeps c (with_memory c later)
    by_memory None made = tt
    by_memory (Some later) made = (filled_keeps c n words (λ o. elements_from all o.element 0 (4 * words / size_of o.element)) later made, refl)

    by_test : (b : Bool) → StepKeeps c (with_memory c (cond b (option_and_then (λ o. option_map (with_object c.memory n) (filled words (elements_from all o.element 0 (4 * words / size_of o.element)) o)) (slice_get c.memory n)) None))
    by_test true = by_memory (option_and_then (λ o. option_map (with_object c.memory n) (filled words (elements_from all o.element 0 (4 * words / size_of o.element)) o)) (slice_get c.memory n)) refl
    by_test false = tt

-- What a note says.
abbrev noted_so : Configuration → ℕ → Value → Stepped
noted_so c x v = Goes (record c { here = record c.here { shadows = with_value_at c.here.shadows x (shadow.Known v) } })

-- The step of an instruction that is no call.
pub execute_keeps : (u : UnitForm) (x : Instruction) (c : Configuration) → IsNoCall x → StepKeeps c (execute u x c)
execute_keeps u (Marker p) c is = by_test (p == c.here.graph.entry)
  where
    kept : SameActivation c (at_place p c) × (c.input ≡ c.input)
    kept = (record { function = refl; first = refl; waiting = refl; those = those_same c.memory; longer = omega arith }, refl)

    by_test : (b : Bool) → StepKeeps c (cond b (Goes (at_place p c)) (Shows (Stop (shown_frame (at_place p c).here ∷ map shown_frame c.waiting) c.memory) (at_place p c)))
    by_test true = kept
    by_test false = kept
execute_keeps u (Note x (Gone change)) c is = (record { function = refl; first = refl; waiting = refl; those = those_same c.memory; longer = omega arith }, refl)
execute_keeps u (Note x (Is r)) c is = by_test (is_odd (recipe_value u.statics c.here.names r))
  where
    by_test : (b : Bool) → StepKeeps c (cond b Wild (noted_so c x (recipe_value u.statics c.here.names r)))
    by_test true = tt
    by_test false = (record { function = refl; first = refl; waiting = refl; those = those_same c.memory; longer = omega arith }, refl)
execute_keeps u (Move x a) c is = (record { function = refl; first = refl; waiting = refl; those = those_same c.memory; longer = omega arith }, refl)
execute_keeps u (Operate x op a b) c is = (record { function = refl; first = refl; waiting = refl; those = those_same c.memory; longer = omega arith }, refl)
execute_keeps u (Truncate x t a) c is = (record { function = refl; first = refl; waiting = refl; those = those_same c.memory; longer = omega arith }, refl)
execute_keeps u (Same x a b) c is = (record { function = refl; first = refl; waiting = refl; those = those_same c.memory; longer = omega arith }, refl)
execute_keeps u (Address x object) c is = (record { function = refl; first = refl; waiting = refl; those = those_same c.memory; longer = omega arith }, refl)
execute_keeps u (Load x e l) c is = by_value (read c.memory e (pointed u.statics c.memory c.here l))
  where
    by_value : (found : Option Value) → StepKeeps c (wrote_some c x found)
    by_value None = tt
    by_value (Some v) = (record { function = refl; first = refl; waiting = refl; those = those_same c.memory; longer = omega arith }, refl)
execute_keeps u (Store e l a) c is = by_test (is_odd (value u.statics c.here.names a))
  where
    by_test : (b : Bool) → StepKeeps c (cond b Wild (with_memory c (write c.memory e (pointed u.statics c.memory c.here l) (value u.statics c.here.names a))))
    by_test true = tt
    by_test false = store_keeps c e (pointed u.statics c.memory c.here l) (value u.statics c.here.names a)
execute_keeps u (Zero object words) c is = zero_keeps c (c.here.first_object + object) words
execute_keeps u (CopyWords object bytes words) c is = copy_keeps c (c.here.first_object + object) words (slice_get u.array_bytes bytes)
execute_keeps u (Call target f all) c is = absurd is
