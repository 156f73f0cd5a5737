-- The values of static variables as a run begins: numbers, and addresses of objects of static storage.
use Rattle.std.proofs.Common.{◌≡◌, ◌≢◌, ℕ, zero, suc, ◌+◌, ◌*◌, ◌<◌, ◌≤◌, List, [], ◌∷◌, length, map, take, drop, Some, Bool, true, false, slice_get, refl, sym, ap, ◌∙◌, subst, arith, pos}
use Rattle.std.specs.Prelude.{◌==◌, if◌then◌else◌, nat_le, option_map}
use Rattle.std.specs.List.{AllByRecursion}
use Rattle.std.specs.Option.{option_map_or}
use Rattle.std.proofs.lemmas.Bool.Decides.{nat_tests}
use Rattle.std.proofs.lemmas.List.{length-map}
use Rattle.word_base.specs.Types.{holds, number_of_bits}
use Rattle.c_tree.specs.declared.types.IntegerType.{IntegerType}
use Rattle.c_tree.specs.declared.object_type.Scalar.{Scalar}
use Rattle.c_tree.specs.declared.object_type.ObjectType.TheVariants as of-object
use Rattle.c_tree.specs.declared.object_type.Object as designator
use Rattle.c_tree.specs.declared.object_type.Object.TheVariants as object
use Rattle.c_tree.specs.declared.object_type.ValueType.TheVariants.{Integer, Pointer}
use Rattle.c_tree.specs.declared.program.Relocation as source-relocation
use Rattle.c_tree.specs.Programs.{StaticTree, LiteralTree, ProgramTree}
use Rattle.c_type_rules.specs.Integers.{integer}
use Rattle.c_type_rules.specs.Types.{loaded_type, pointed_to}
use Rattle.c_places.specs.Places.{numbers_from}
use Rattle.c_meaning_values.specs.declared.value.Value as source-value
use Rattle.c_meaning_values.specs.declared.value.Value.TheVariants as source
use Rattle.c_meaning_values.specs.declared.value.Phase.TheVariants.{Live, Ended}
use Rattle.c_meaning_values.specs.Types.{element_scalar, value_count, scalar_size, size_by_stars, integer_size}
use Rattle.c_meaning.specs.StaticStorage as source-storage
use Rattle.c_meaning.specs.StaticStorage.{static_object, literal_object, first_memory}
use Rattle.graph_core.specs.declared.value.Value.{Value}
use Rattle.graph_core.specs.declared.value.Value.TheVariants as unit
use Rattle.graph_core.specs.declared.instruction.Element as declared-element
use Rattle.graph_core.specs.Graphs.{StaticObject}
use Rattle.graph_core.specs.Memory as unit-memory
use Rattle.graph_core.specs.Memory.{Object, Memory, bytes_of, static_bytes}
use Rattle.graph_core.specs.Values.{as_element, pointer_at, size_of}
use Rattle.graph_build_names.specs.Conversions.{unsigned_bits}
use Rattle.graph_build_steps.specs.Rules as rule
use Rattle.graph_build_runs.specs.Typed.{IsOf, IsPointerTo, PointsInto}
use Rattle.graph_build_runs.specs.Correspondence.{SameObject, SamePointer, points, SameValue, SameValues}
use Rattle.graph_build_runs.proofs.Elements.{word_element, element_size}
use Rattle.graph_build_runs.proofs.StaticObjects.{object_count, static_number, relocation_of, static_of, literal_of, statics_of, element_same, count_same, unit_object, unit_there, unit_length, static_there, literal_there, unit_static, unit_literal}
use Rattle.graph_build_runs.proofs.StaticValues.{IsAddress, AreAddresses, Bytes, StaticFits, taken_all, dropped_all, spelled_zero, both_spell, numbered}
use Rattle.base_laws.proofs.Numbers.{times_within}

pub numbers_length : (from count : ℕ) → length (numbers_from from count) ≡ count
numbers_length from zero = refl
numbers_length from (suc count) = ap (λ n. suc n) (numbers_length (from + 1) count)

no_zero : (n : ℕ) → suc n == 0 ≡ false
no_zero n = grind (arith, nat_tests)

module _ (p : ProgramTree) where
  -- both memories as a run begins
  abbrev pub others_first : Memory
  others_first = unit-memory.first_memory (statics_of p)

  pub unit_at : (n : ℕ) (o : StaticObject) → slice_get (statics_of p) n ≡ Some o → slice_get others_first n ≡ Some (unit_object (statics_of p) n o)
  unit_at n o is = let e : 0 + n ≡ n = omega arith in unit_there (statics_of p) 0 (statics_of p) n o is ∙ ap (λ k. Some (unit_object (statics_of p) k o)) e

  -- A static variable has one object in both,
  pub static_same : (n : ℕ) (v : StaticTree) → SameObject p (static_object p n v) (unit_object (statics_of p) n (static_of p v))
  static_same n v = record {
    owner = refl;
    lives = refl;
    element = element_same v.of;
    count = unit_length (statics_of p) (static_of p v) 0 (object_count v.of) ∙ count_same v.of
        ∙ sym (length-map (numbers_from 0 (value_count v.of)) (λ i. source-storage.first_value p v (element_scalar v.of) (i * scalar_size (element_scalar v.of))) ∙ numbers_length 0 (value_count v.of));
  }

  -- and so has a literal.
  pub literal_same : (n : ℕ) (l : LiteralTree) → SameObject p (literal_object n l) (unit_object (statics_of p) (length p.statics + n) (literal_of l))
  literal_same n l = record { owner = refl; lives = refl; element = refl; count = unit_length (statics_of p) (literal_of l) 0 (length l.bytes) ∙ sym (length-map l.bytes (λ byte. source.Number (pos byte))) }

  static_open : {A : Type 0} → Live ≡ Ended → A
  static_open h = cc

  -- the address of an object of static storage, in both runs
  addressed : (e : Scalar) (offset : ℕ) (d : designator.Object) → IsAddress p e offset d → (base : Value)
      → SamePointer p (first_memory p) others_first (source-storage.static_number p d) offset (option_map_or (λ v. v) (option_map (λ o. pointer_at (static_number p d) (static_bytes o) offset) (slice_get (statics_of p) (static_number p d))) base)
  addressed e offset (object.Static n) h base =
      let w = h.0 in
      let o = static_of p w in
      let q = unit_object (statics_of p) n o in
      let there = unit_static p n w h.1 in
      let bytes : bytes_of q ≡ static_bytes o = ap (λ k. k * size_of o.element) (unit_length (statics_of p) o 0 o.count) in
      let size : size_of o.element ≡ scalar_size (element_scalar w.of) = ap size_of (element_same w.of) ∙ element_size (element_scalar w.of) in
      let room : static_bytes o ≡ value_count w.of * scalar_size (element_scalar w.of) = ap (λ k. k * size_of o.element) (count_same w.of) ∙ ap (λ k. value_count w.of * k) size in
      let less = times_within h.3 (value_count w.of) (scalar_size (element_scalar w.of)) h.5 in
      let at = h.4 in
      let within : offset ≤ static_bytes o = omega (arith, at, less, room) in
      points (static_object p n w) (static_there p n w h.1) (λ over. static_open over) tt n q (unit_at n o there) (static_same n w) (subst (λ k. offset ≤ k) (sym bytes) within)
      (ap (λ r. option_map_or (λ v. v) (option_map (λ z. pointer_at n (static_bytes z) offset) r) base) there ∙ ap (λ b. if b then unit.Pointer n (static_bytes o) offset else unit.Odd) (least offset (static_bytes o) within) ∙ ap (λ k. unit.Pointer n k offset) (sym bytes))
    where
      least : (m n : ℕ) → m ≤ n → nat_le m n ≡ true
      least m n le = grind (arith, nat_tests, le)
  addressed e offset (object.Literal n) h base =
      let l = h.0 in
      let o = literal_of l in
      let q = unit_object (statics_of p) (length p.statics + n) o in
      let there = unit_literal p n l h.1 in
      let bytes : bytes_of q ≡ static_bytes o = ap (λ k. k * size_of o.element) (unit_length (statics_of p) o 0 o.count) in
      let none = h.3 in
      let within : offset ≤ static_bytes o = omega (arith, none) in
      points (literal_object n l) (literal_there p n l h.1) (λ over. static_open over) tt (length p.statics + n) q (unit_at (length p.statics + n) o there) (literal_same n l) (subst (λ k. offset ≤ k) (sym bytes) within)
      (ap (λ r. option_map_or (λ v. v) (option_map (λ z. pointer_at (length p.statics + n) (static_bytes z) offset) r) base) there ∙ ap (λ b. if b then unit.Pointer (length p.statics + n) (static_bytes o) offset else unit.Odd) (least offset (static_bytes o) within)
      ∙ ap (λ k. unit.Pointer (length p.statics + n) k offset) (sym bytes))
    where
      least : (m n : ℕ) → m ≤ n → nat_le m n ≡ true
      least m n le = grind (arith, nat_tests, le)
  addressed e offset (object.Automatic x) h base = absurd h

  -- it is of its type
  points_into : (e : Scalar) (offset : ℕ) (d : designator.Object) → IsAddress p e offset d → PointsInto (first_memory p) (of-object.Scalar (pointed_to e)) (source-storage.static_number p d) offset
  points_into e offset (object.Static n) h =
      let w = h.0 in record {
        object = static_object p n w;
        is = static_there p n w h.1;
        element_is = h.2;
        index = h.3;
        at = h.4 ∙ ap (λ s. h.3 * scalar_size s) h.2;
        within = subst (λ k. h.3 ≤ k) (sym (length-map (numbers_from 0 (value_count w.of)) (λ i. source-storage.first_value p w (element_scalar w.of) (i * scalar_size (element_scalar w.of))) ∙ numbers_length 0 (value_count w.of))) h.5;
        stands = tt;
      }
  points_into e offset (object.Literal n) h =
      let l = h.0 in
      let none = h.3 in
      let zero_at : 0 ≡ 0 * scalar_size (pointed_to e) = omega arith in
      record { object = literal_object n l; is = literal_there p n l h.1; element_is = h.2; index = 0; at = none ∙ zero_at; within = omega arith; stands = tt }
  points_into e offset (object.Automatic x) h = absurd h

  -- the word at a place of a static object of pointers, in both runs
  word_same : (e : Scalar) (all : List source-relocation.Relocation) → AreAddresses p e all → (place : ℕ) (base : Value) → base ≡ unit.Number 0
      → SameValue p (first_memory p) others_first (source-storage.address_at p all place) (option_map_or (λ v. v) (unit-memory.address_at (statics_of p) (map (relocation_of p) all) place) base)
  word_same e [] h place base zeros = zeros
  word_same e (r ∷ more) h place base zeros = by (word_same e more h.1 place base zeros) (r.at == place)
    where
      by : SameValue p (first_memory p) others_first (source-storage.address_at p more place) (option_map_or (λ v. v) (unit-memory.address_at (statics_of p) (map (relocation_of p) more) place) base) → (b : Bool)
          → SameValue p (first_memory p) others_first (if b then source.Pointer (source-storage.static_number p r.object) r.offset else source-storage.address_at p more place)
          (option_map_or (λ v. v) (if b then option_map (λ o. pointer_at (static_number p r.object) (static_bytes o) r.offset) (slice_get (statics_of p) (static_number p r.object)) else unit-memory.address_at (statics_of p) (map (relocation_of p) more) place) base)
      by rest true = addressed e r.offset r.object h.0 base
      by rest false = rest

  word_typed : (e : Scalar) (all : List source-relocation.Relocation) → AreAddresses p e all → (place : ℕ) → IsPointerTo (first_memory p) (of-object.Scalar (pointed_to e)) (source-storage.address_at p all place)
  word_typed e [] h place = tt
  word_typed e (r ∷ more) h place = by (word_typed e more h.1 place) (r.at == place)
    where
      by : IsPointerTo (first_memory p) (of-object.Scalar (pointed_to e)) (source-storage.address_at p more place) → (b : Bool) → IsPointerTo (first_memory p) (of-object.Scalar (pointed_to e)) (if b then source.Pointer (source-storage.static_number p r.object) r.offset else source-storage.address_at p more place)
      by rest true = points_into e r.offset r.object h.0
      by rest false = rest

  -- the unit's value of an element of this kind and width at an index
  abbrev unit_value : (bytes : List ℕ) → List source-relocation.Relocation → declared-element.Element → (size index : ℕ) → Value
  unit_value bytes all el size index = option_map_or (as_element el) (unit-memory.address_at (statics_of p) (map (relocation_of p) all) (index * size)) (as_element el (unit.Number (unit-memory.spelled (take size (drop (index * size) bytes)))))

  abbrev source_value : (bytes : List ℕ) → List source-relocation.Relocation → IntegerType → (stars place : ℕ) → source-value.Value
  source_value bytes all base stars place = if stars == 0 then source.Number (number_of_bits (integer base) (source-storage.spelled (take (integer_size base) (drop place bytes)))) else source-storage.address_at p all place

  value_same : (base : IntegerType) (stars : ℕ) (bytes : List ℕ) (all : List source-relocation.Relocation) (index : ℕ) → Bytes bytes → (stars ≡ 0 → all ≡ []) → (stars ≢ 0 → AllByRecursion (λ b. b ≡ 0) bytes) → AreAddresses p (record { base = base; stars = stars }) all
      → SameValue p (first_memory p) others_first (source_value bytes all base stars (index * size_by_stars base stars)) (unit_value bytes all (rule.element_of (record { base = base; stars = stars })) (size_by_stars base stars) index)
      × IsOf (first_memory p) (loaded_type (record { base = base; stars = stars })) (source_value bytes all base stars (index * size_by_stars base stars))
  value_same base zero bytes all index in_bytes numbers zeros addresses =
      let place = index * integer_size base in
      let rest = drop place bytes in
      let spells = both_spell (take (integer_size base) rest) in
      let r = numbered base rest (dropped_all (λ b. b < 256) place bytes in_bytes) in
      let value : unit_value bytes all (rule.element_of (record { base = base; stars = 0 })) (integer_size base) index ≡ as_element (rule.element_of (record { base = base; stars = 0 })) (unit.Number (unit-memory.spelled (take (integer_size base) rest))) =
      ap (λ xs. unit_value bytes xs (rule.element_of (record { base = base; stars = 0 })) (integer_size base) index) (numbers refl) in
      (value ∙ r.0 ∙ ap (λ k. unit.Number (unsigned_bits (number_of_bits (integer base) k))) (sym spells), subst (λ k. holds (integer base) (number_of_bits (integer base) k) ≡ true) (sym spells) r.1)
  value_same base (suc stars) bytes all index in_bytes numbers zeros addresses =
      let e : Scalar = record { base = base; stars = suc stars } in
      let all_zero = zeros (λ h. none h) in
      let word : as_element (rule.element_of e) (unit.Number (unit-memory.spelled (take 4 (drop (index * 4) bytes)))) ≡ unit.Number 0 =
      ap (λ el. as_element el (unit.Number (unit-memory.spelled (take 4 (drop (index * 4) bytes))))) (word_element base stars) ∙ ap unit.Number (spelled_zero (take 4 (drop (index * 4) bytes)) (taken_all (λ b. b ≡ 0) 4 (drop (index * 4) bytes) (dropped_all (λ b. b ≡ 0) (index * 4) bytes all_zero))) in
      let same = word_same e all addresses (index * 4) (as_element (rule.element_of e) (unit.Number (unit-memory.spelled (take 4 (drop (index * 4) bytes))))) word in
      let kept = subst (λ el. SameValue p (first_memory p) others_first (source-storage.address_at p all (index * 4)) (option_map_or (as_element el) (unit-memory.address_at (statics_of p) (map (relocation_of p) all) (index * 4)) (as_element (rule.element_of e) (unit.Number (unit-memory.spelled (take 4 (drop (index * 4) bytes)))))))
      (sym (word_element base stars)) same in (
        subst (λ b. SameValue p (first_memory p) others_first (if b then source.Number (number_of_bits (integer base) (source-storage.spelled (take (integer_size base) (drop (index * 4) bytes)))) else source-storage.address_at p all (index * 4)) (unit_value bytes all (rule.element_of e) 4 index)) (sym (no_zero stars)) kept,
        subst (λ b. IsOf (first_memory p) (if b then Integer base else Pointer (of-object.Scalar (pointed_to e))) (if b then source.Number (number_of_bits (integer base) (source-storage.spelled (take (integer_size base) (drop (index * 4) bytes)))) else source-storage.address_at p all (index * 4))) (sym (no_zero stars)) (word_typed e all addresses (index * 4)),
      )
    where
      none : suc stars ≡ 0 → ⊥
      none h = cc

  -- The values of a static variable, in both runs.
  pub static_values : (v : StaticTree) → StaticFits p v → (count index : ℕ)
      → SameValues p (first_memory p) others_first (map (λ i. source-storage.first_value p v (element_scalar v.of) (i * scalar_size (element_scalar v.of))) (numbers_from index count)) (unit-memory.first_values (statics_of p) (static_of p v) index count)
      × AllByRecursion (IsOf (first_memory p) (loaded_type (element_scalar v.of))) (map (λ i. source-storage.first_value p v (element_scalar v.of) (i * scalar_size (element_scalar v.of))) (numbers_from index count))
  static_values v fits zero index = (tt, tt)
  static_values v fits (suc count) index =
      let e = element_scalar v.of in
      let one = value_same e.base e.stars v.bytes v.relocations index fits.bytes fits.numbers fits.zeros fits.addresses in
      let other : unit-memory.first_value (statics_of p) (static_of p v) index ≡ unit_value v.bytes v.relocations (rule.element_of e) (scalar_size e) index =
      ap (λ el. unit_value v.bytes v.relocations el (size_of el) index) (element_same v.of) ∙ ap (λ size. unit_value v.bytes v.relocations (rule.element_of e) size index) (element_size e) in
      let rest = static_values v fits count (index + 1) in
      ((subst (SameValue p (first_memory p) others_first (source-storage.first_value p v e (index * scalar_size e))) (sym other) one.0, rest.0), (one.1, rest.1))
