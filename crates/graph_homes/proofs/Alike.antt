-- What is written changes no object's owner, element, number of values or life.
use Rattle.std.proofs.Common.{◌≡◌, ℕ, zero, suc, ◌+◌, ◌*◌, ◌/◌, Bool, true, false, ◌&&◌, Option, Some, None, List, [], ◌∷◌, ◌++◌, length, take, drop, replicate, slice_get, refl, sym, ap, ◌∙◌, subst, arith}
use Rattle.std.specs.Prelude.{nat_le, if◌then◌else◌, option_map, option_and_then, slice_set}
use Rattle.std.specs.Option.{option_map_or}
use Rattle.std.proofs.lemmas.List.{length-append, length-take, length-drop, length-set}
use Rattle.std.proofs.lemmas.Option.{none-some, same_Some}
use Rattle.graph_core.specs.declared.value.Value.{Value}
use Rattle.graph_core.specs.declared.value.Value.TheVariants.{Number, Pointer, Odd}
use Rattle.graph_core.specs.declared.instruction.Element.{Element}
use Rattle.graph_core.specs.Graphs.{UnitForm, Binding, ToScalar, ToObject}
use Rattle.graph_core.specs.Memory.{Memory, Object, bytes_of, words_of, index_in, with_value, written_in, write_in, write, filled, with_object, zeroed, copied, elements_from, pointer_to_object}
use Rattle.graph_core.specs.Runs.{set_first, bind_objects}
use Rattle.graph_core.specs.Values.{size_of, as_element}
use Rattle.graph_homes.specs.Owned.{Base, AreOwned}

-- an object is one that changed in its values alone
pub record IsAlike (o q : Object) : Type 0 where
  pub owner : q.owner ≡ o.owner
  pub bytes : bytes_of q ≡ bytes_of o
  pub live : q.live ≡ o.live

-- each object of the other memory is one of this that changed in its values alone
abbrev pub AreAlike : Memory → Memory → Type 0
AreAlike memory other = (n : ℕ) (q : Object) → slice_get other n ≡ Some q → (o : Object) × (slice_get memory n ≡ Some o) × IsAlike o q

pub same_alike : (memory : Memory) → AreAlike memory memory
same_alike memory n q is = (q, is, record { owner = refl; bytes = refl; live = refl })

pub both_alike : (a b c : Memory) → AreAlike a b → AreAlike b c → AreAlike a c
both_alike a b c first second n q is =
    let s = second n q is in
    let f = first n s.0 s.1 in
    (f.0, f.1, record { owner = s.2.owner ∙ f.2.owner; bytes = s.2.bytes ∙ f.2.bytes; live = s.2.live ∙ f.2.live })

-- one object becomes another that is alike
set_alike : (memory : Memory) (n : ℕ) (o q : Object) → slice_get memory n ≡ Some o → IsAlike o q → AreAlike memory (slice_set memory n q)
set_alike [] n o q is alike k r there = absurd (none-some o is)
set_alike (x ∷ memory) zero o q is alike zero r there = (x, refl, subst (λ y. IsAlike y r) (sym (same_Some x o is)) (subst (λ y. IsAlike o y) (same_Some q r there) alike))
set_alike (x ∷ memory) zero o q is alike (suc k) r there = (r, there, record { owner = refl; bytes = refl; live = refl })
set_alike (x ∷ memory) (suc n) o q is alike zero r there = (r, there, record { owner = refl; bytes = refl; live = refl })
set_alike (x ∷ memory) (suc n) o q is alike (suc k) r there = set_alike memory n o q is alike k r there

value_alike : (index : ℕ) (v : Value) (o : Object) → IsAlike o (with_value index v o)
value_alike index v o = record { owner = refl; bytes = ap (λ k. k * size_of o.element) (length-set o.values index (as_element o.element v)); live = refl }

-- ---- Writes

written_alike : (memory : Memory) (n : ℕ) (v : Value) (o : Object) → slice_get memory n ≡ Some o → (r : Option ℕ) (other : Memory) → option_map (written_in memory n v o) r ≡ Some other → AreAlike memory other
written_alike memory n v o is None other e = absurd (none-some other e)
written_alike memory n v o is (Some index) other e = subst (AreAlike memory) (same_Some (slice_set memory n (with_value index v o)) other e) (set_alike memory n o (with_value index v o) is (value_alike index v o))

pub write_alike : (memory : Memory) (e : Element) (target v : Value) (other : Memory) → write memory e target v ≡ Some other → AreAlike memory other
write_alike memory e (Number w) v other is = absurd (none-some other is)
write_alike memory e Odd v other is = absurd (none-some other is)
write_alike memory e (Pointer n size offset) v other is = by_object (slice_get memory n) refl is
  where
    by_object : (r : Option Object) → slice_get memory n ≡ r → option_and_then (write_in memory n e offset v) r ≡ Some other → AreAlike memory other
    by_object None there is = absurd (none-some other is)
    by_object (Some o) there is = written_alike memory n v o there (index_in e offset o) other is

-- ---- Objects that are filled

filled_length : (have want : List Value) → length (take (length have) want ++ drop (length want) have) ≡ length have
filled_length have want =
    let all = length-append (take (length have) want) (drop (length want) have) in
    let first = length-take (length have) want in
    let last = length-drop (length want) have in
    omega (arith, all, first, last)

filled_alike : (memory : Memory) (n words : ℕ) (values : List Value) (o : Object) → slice_get memory n ≡ Some o → (other : Memory) → option_map (with_object memory n) (filled words values o) ≡ Some other → AreAlike memory other
filled_alike memory n words values o is other e = by_test (o.live && nat_le words (words_of (bytes_of o))) e
  where
    by_test : (b : Bool) → option_map (with_object memory n) (if b then Some (record o { values = take (length o.values) values ++ drop (length values) o.values }) else None) ≡ Some other → AreAlike memory other
    by_test false e = absurd (none-some other e)
    by_test true e =
        let filled_one : Object = record o { values = take (length o.values) values ++ drop (length values) o.values } in
        subst (AreAlike memory) (same_Some (slice_set memory n filled_one) other e) (set_alike memory n o filled_one is (record { owner = refl; bytes = ap (λ k. k * size_of o.element) (filled_length o.values values); live = refl }))

pub zeroed_alike : (memory : Memory) (n words : ℕ) (other : Memory) → zeroed memory n words ≡ Some other → AreAlike memory other
zeroed_alike memory n words other e = by_object (slice_get memory n) refl e
  where
    by_object : (r : Option Object) → slice_get memory n ≡ r → option_and_then (λ (o : Object). option_map (with_object memory n) (filled words (replicate (4 * words / size_of o.element) (Number 0)) o)) r ≡ Some other → AreAlike memory other
    by_object None there is = absurd (none-some other is)
    by_object (Some o) there is = filled_alike memory n words (replicate (4 * words / size_of o.element) (Number 0)) o there other is

pub copied_alike : (memory : Memory) (n : ℕ) (bytes : List ℕ) (words : ℕ) (other : Memory) → copied memory n bytes words ≡ Some other → AreAlike memory other
copied_alike memory n bytes words other e = by_test (nat_le words (words_of (length bytes))) e
  where
    by_object : (r : Option Object) → slice_get memory n ≡ r → option_and_then (λ (o : Object). option_map (with_object memory n) (filled words (elements_from bytes o.element 0 (4 * words / size_of o.element)) o)) r ≡ Some other → AreAlike memory other
    by_object None there is = absurd (none-some other is)
    by_object (Some o) there is = filled_alike memory n words (elements_from bytes o.element 0 (4 * words / size_of o.element)) o there other is

    by_test : (b : Bool) → (if b then option_and_then (λ (o : Object). option_map (with_object memory n) (filled words (elements_from bytes o.element 0 (4 * words / size_of o.element)) o)) (slice_get memory n) else None) ≡ Some other → AreAlike memory other
    by_test false e = absurd (none-some other e)
    by_test true e = by_object (slice_get memory n) refl e

-- ---- Arguments

set_first_alike : (n : ℕ) (v : Value) (memory : Memory) → AreAlike memory (set_first n v memory)
set_first_alike n v memory = by_object (slice_get memory n) refl
  where
    by_write : (e : Element) (r : Option Memory) → write memory e (pointer_to_object memory n) v ≡ r → AreAlike memory (option_map_or (λ m. m) r memory)
    by_write e None is = same_alike memory
    by_write e (Some other) is = write_alike memory e (pointer_to_object memory n) v other is

    by_object : (r : Option Object) → slice_get memory n ≡ r → AreAlike memory (option_map_or (λ (o : Object). option_map_or (λ m. m) (write memory o.element (pointer_to_object memory n) v) memory) r memory)
    by_object None there = same_alike memory
    by_object (Some o) there = by_write o.element (write memory o.element (pointer_to_object memory n) v) refl

pub bound_alike : (first : ℕ) (all : List Binding) (vs : List Value) (memory : Memory) → AreAlike memory (bind_objects first all vs memory)
bound_alike first [] vs memory = same_alike memory
bound_alike first (b ∷ more) [] memory = same_alike memory
bound_alike first (ToScalar x ∷ more) (v ∷ vs) memory = bound_alike first more vs memory
bound_alike first (ToObject object ∷ more) (v ∷ vs) memory = both_alike memory (set_first (first + object) v memory) (bind_objects first more vs (set_first (first + object) v memory)) (set_first_alike (first + object) v memory) (bound_alike first more vs (set_first (first + object) v memory))

-- ---- Owners

-- objects that are alike are owned as they were
pub owned_alike : (u : UnitForm) (memory other : Memory) (bases : List Base) → AreAlike memory other → AreOwned u memory bases → AreOwned u other bases
owned_alike u memory other bases alike owned = record {
  statics = λ n k q is live owner.
      let o = alike n q is in
      let was = owned.statics n k o.0 o.1 (sym o.2.live ∙ live) (sym o.2.owner ∙ owner) in
      record { same = was.same; object = was.object; is = was.is; bytes = o.2.bytes ∙ was.bytes };
  automatics = λ n x depth q is live owner.
      let o = alike n q is in
      let was = owned.automatics n x depth o.0 o.1 (sym o.2.live ∙ live) (sym o.2.owner ∙ owner) in
      record { index = was.index; base = was.base; there = was.there; deep = was.deep; number = was.number; object = was.object; is = was.is; var = was.var; at = was.at; bytes = o.2.bytes ∙ was.bytes };
}
