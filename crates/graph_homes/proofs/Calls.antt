-- A call begins objects of its own, and a return ends them.
use Rattle.std.proofs.Common.{◌≡◌, ℕ, zero, suc, ◌+◌, ◌*◌, ◌<◌, ◌⊎◌, inl, inr, ⊎_elim, true, false, Some, List, [], ◌∷◌, ◌++◌, length, map, slice_get, refl, sym, ap, ◌∙◌, arith}
use Rattle.std.proofs.lemmas.List.{length-replicate}
use Rattle.std.proofs.lemmas.Option.{none-some, same_Some}
use Rattle.graph_core.specs.declared.value.Value.TheVariants.{Odd}
use Rattle.graph_core.specs.declared.value.Owner.TheVariants.{Static, Automatic}
use Rattle.graph_core.specs.declared.graph.MemoryObject.{MemoryObject}
use Rattle.graph_core.specs.Graphs.{Graph, StaticObject, UnitForm}
use Rattle.graph_core.specs.Memory.{Memory, Object, bytes_of, static_bytes, ended, ended_from, new_object, first_values, static_objects, first_memory}
use Rattle.graph_core.specs.Runs.{with_objects}
use Rattle.graph_core.specs.Values.{size_of}
use Rattle.graph_homes.specs.Owned.{Base, AreOwned, IsObjectOf}

-- ---- Ends

-- an object that lives behind a return began before what ended
before_end : (k : ℕ) (memory : Memory) (n : ℕ) (q : Object) → slice_get (ended_from k memory) n ≡ Some q → q.live ≡ true → (n < k) × (slice_get memory n ≡ Some q)
before_end zero [] n q is live = absurd (none-some q is)
before_end zero (o ∷ memory) zero q is live = absurd (let gone : q.live ≡ false = ap (λ (x : Object). x.live) (sym (same_Some (ended o) q is)) in cc)
before_end zero (o ∷ memory) (suc n) q is live = absurd (let r = before_end zero memory n q is live in let lt = r.0 in omega (arith, lt))
before_end (suc k) [] n q is live = absurd (none-some q is)
before_end (suc k) (o ∷ memory) zero q is live = (omega arith, is)
before_end (suc k) (o ∷ memory) (suc n) q is live = let r = before_end k memory n q is live in (let lt = r.0 in omega (arith, lt), r.1)

-- Behind a return the live objects are those of the activations that waited.
pub owned_behind : (u : UnitForm) (memory : Memory) (base : Base) (bases : List Base) → AreOwned u memory (base ∷ bases) → AreOwned u (ended_from base.first memory) bases
owned_behind u memory base bases owned = record {
  statics = λ n k q is live owner. let r = before_end base.first memory n q is live in owned.statics n k q r.1 live owner;
  automatics = λ n x depth q is live owner.
      let r = before_end base.first memory n q is live in
      outer n x depth q r.0 (owned.automatics n x depth q r.1 live owner);
}
  where
    by_index : (n x depth : ℕ) (q : Object) → n < base.first → (index : ℕ) (b : Base) → slice_get (base ∷ bases) index ≡ Some b → depth + index ≡ length bases + 1 → (number : ℕ) (o : MemoryObject) → slice_get b.graph.objects number ≡ Some o → o.var.0 ≡ x → n ≡ b.first + number → bytes_of q ≡ o.count * size_of o.element
        → IsObjectOf bases x depth n q
    by_index n x depth q lt zero b there deep number o is var at bytes = absurd (let same : base.first ≡ b.first = ap (λ (y : Base). y.first) (same_Some base b there) in omega (arith, same, at, lt))
    by_index n x depth q lt (suc index) b there deep number o is var at bytes = record { index = index; base = b; there = there; deep = omega (arith, deep); number = number; object = o; is = is; var = var; at = at; bytes = bytes }

    outer : (n x depth : ℕ) (q : Object) → n < base.first → IsObjectOf (base ∷ bases) x depth n q → IsObjectOf bases x depth n q
    outer n x depth q lt its = let deep = its.deep in by_index n x depth q lt its.index its.base its.there (omega (arith, deep)) its.number its.object its.is its.var its.at its.bytes

-- ---- Calls

-- an object of a memory that grew was there, or is new
of_either : (depth : ℕ) (all : List MemoryObject) (memory : Memory) (n : ℕ) (q : Object) → slice_get (memory ++ map (new_object depth) all) n ≡ Some q
    → (slice_get memory n ≡ Some q) ⊎ ((k : ℕ) × (o : MemoryObject) × (n ≡ length memory + k) × (slice_get all k ≡ Some o) × (new_object depth o ≡ q))
of_either depth all [] n q is = inr (new all n is)
  where
    new : (all : List MemoryObject) (n : ℕ) → slice_get (map (new_object depth) all) n ≡ Some q → (k : ℕ) × (o : MemoryObject) × (n ≡ 0 + k) × (slice_get all k ≡ Some o) × (new_object depth o ≡ q)
    new [] n is = absurd (none-some q is)
    new (o ∷ all) zero is = (0, o, omega arith, refl, same_Some (new_object depth o) q is)
    new (o ∷ all) (suc n) is = let r = new all n is in (r.0 + 1, r.1, (let e = r.2 in omega (arith, e)), next all r.0 r.1 o r.3, r.4)
      where
        next : (all : List MemoryObject) (k : ℕ) (x o : MemoryObject) → slice_get all k ≡ Some x → slice_get (o ∷ all) (k + 1) ≡ Some x
        next all k x o there = let e : k + 1 ≡ suc k = omega arith in ap (slice_get (o ∷ all)) e ∙ there
of_either depth all (x ∷ memory) zero q is = inl is
of_either depth all (x ∷ memory) (suc n) q is = ⊎_elim (λ old. inl old) (λ r. inr (r.0, r.1, (let e = r.2 in omega (arith, e)), r.3, r.4)) (of_either depth all memory n q is)

-- In a call the live objects are those that were, and those of the new activation.
pub owned_called : (u : UnitForm) (memory : Memory) (bases : List Base) (function waiting : ℕ) (g : Graph) → length bases ≡ waiting → AreOwned u memory bases → AreOwned u (with_objects (waiting + 1) g memory) (record { function = function; graph = g; first = length memory } ∷ bases)
owned_called u memory bases function waiting g many owned = record {
  statics = λ n k q is live owner.
      ⊎_elim (λ old. owned.statics n k q old live owner) (λ r. absurd (let wrong : Automatic r.1.var.0 (waiting + 1) ≡ Static k = ap (λ (x : Object). x.owner) r.4 ∙ owner in cc)) (of_either (waiting + 1) g.objects memory n q is);
  automatics = λ n x depth q is live owner.
      ⊎_elim (λ old. older n x depth q (owned.automatics n x depth q old live owner))
      (λ r. newer n x depth q r.0 r.1 r.2 r.3 r.4 (ap (λ (y : Object). y.owner) r.4 ∙ owner))
      (of_either (waiting + 1) g.objects memory n q is);
}
  where
    older : (n x depth : ℕ) (q : Object) → IsObjectOf bases x depth n q → IsObjectOf (record { function = function; graph = g; first = length memory } ∷ bases) x depth n q
    older n x depth q its = let deep = its.deep in record { index = suc its.index; base = its.base; there = its.there; deep = omega (arith, deep); number = its.number; object = its.object; is = its.is; var = its.var; at = its.at; bytes = its.bytes }

    parts : (x y d e : ℕ) → Automatic x d ≡ Automatic y e → (x ≡ y) × (d ≡ e)
    parts x y d e same = (cc, cc)

    newer : (n x depth : ℕ) (q : Object) (k : ℕ) (o : MemoryObject) → n ≡ length memory + k → slice_get g.objects k ≡ Some o → new_object (waiting + 1) o ≡ q → Automatic o.var.0 (waiting + 1) ≡ Automatic x depth
        → IsObjectOf (record { function = function; graph = g; first = length memory } ∷ bases) x depth n q
    newer n x depth q k o at is new owner =
        let same = parts o.var.0 x (waiting + 1) depth owner in
        let deep = same.1 in
        record {
          index = 0;
          base = record { function = function; graph = g; first = length memory };
          there = refl;
          deep = omega (arith, deep, many);
          number = k;
          object = o;
          is = is;
          var = same.0;
          at = at;
          bytes = ap bytes_of (sym new) ∙ ap (λ i. i * size_of o.element) (length-replicate o.count Odd);
        }

-- ---- The beginning

first_length : (statics : List StaticObject) (o : StaticObject) (index count : ℕ) → length (first_values statics o index count) ≡ count
first_length statics o index zero = refl
first_length statics o index (suc count) = let rest = first_length statics o (index + 1) count in omega (arith, rest)

first_at : (statics : List StaticObject) (from : ℕ) (all : List StaticObject) (n : ℕ) (q : Object) → slice_get (static_objects statics from all) n ≡ Some q
    → (o : StaticObject) × (slice_get all n ≡ Some o) × (q.owner ≡ Static (from + n)) × (bytes_of q ≡ static_bytes o)
first_at statics from [] n q is = absurd (none-some q is)
first_at statics from (o ∷ all) zero q is =
    let same = same_Some (record { owner = Static from; element = o.element; values = first_values statics o 0 o.count; live = true }) q is in
    let at : from ≡ from + 0 = omega arith in
    (o, refl, ap (λ (x : Object). x.owner) (sym same) ∙ ap (λ k. Static k) at, ap bytes_of (sym same) ∙ ap (λ k. k * size_of o.element) (first_length statics o 0 o.count))
first_at statics from (o ∷ all) (suc n) q is =
    let r = first_at statics (from + 1) all n q is in
    let at : from + 1 + n ≡ from + suc n = omega arith in
    (r.0, r.1, r.2 ∙ ap (λ k. Static k) at, r.3)

-- As a run begins the live objects are the static ones.
pub owned_first : (u : UnitForm) → AreOwned u (first_memory u.statics) []
owned_first u = record {
  statics = λ n k q is live owner.
      let r = first_at u.statics 0 u.statics n q is in
      let at : 0 + n ≡ k = number (0 + n) k (sym r.2 ∙ owner) in
      record { same = omega (arith, at); object = r.0; is = r.1; bytes = r.3 };
  automatics = λ n x depth q is live owner.
      let r = first_at u.statics 0 u.statics n q is in
      absurd (let wrong : Static (0 + n) ≡ Automatic x depth = sym r.2 ∙ owner in cc);
}
  where
    number : (i j : ℕ) → Static i ≡ Static j → i ≡ j
    number i j same = cc
