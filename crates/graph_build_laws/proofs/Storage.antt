-- What objects take is within the limits, and addresses are those of static objects.
use Rattle.std.proofs.Common.{◌≡◌, ℕ, zero, suc, ◌+◌, ◌*◌, ◌≤◌, ◌<◌, Bool, true, false, Option, Some, None, List, [], ◌∷◌, ◌++◌, length, map, take, drop, slice_get, refl, sym, ap, ◌∙◌, subst, arith, if◌then◌else◌}
use Rattle.std.specs.Prelude.{◌&&◌, ◌||◌, ◌==◌, nat_le, is_some, sum_by}
use Rattle.std.specs.Option.{option_map_or}
use Rattle.std.specs.List.{AllByRecursion}
use Rattle.std.proofs.lemmas.List.{length-append, length-map}
use Rattle.std.proofs.lemmas.List.Sums.{sum_by-cons}
use Rattle.std.proofs.lemmas.Option.{slice_get_within}
use Rattle.c_tree.specs.declared.types.IntegerType.TheVariants.{Char}
use Rattle.c_tree.specs.declared.object_type.Scalar.{Scalar}
use Rattle.c_tree.specs.declared.object_type.ObjectType.{ObjectType}
use Rattle.c_tree.specs.declared.object_type.ObjectType.TheVariants as of-object
use Rattle.c_tree.specs.declared.object_type.Object as designator
use Rattle.c_tree.specs.declared.object_type.Object.TheVariants as object
use Rattle.c_tree.specs.declared.program.Relocation.{Relocation}
use Rattle.c_tree.specs.Programs.{AutomaticTree, LiteralTree, StaticTree, TypedFunctionTree, ProgramTree}
use Rattle.c_type_rules.specs.Integers.{object_size, scalar_size, room}
use Rattle.c_places.specs.Places.{numbers_from}
use Rattle.c_type_bounds.specs.Bounds.{kept_room, own_room, text_room, memory_room, variables_of}
use Rattle.c_type_laws.specs.Orders.{ascends}
use Rattle.c_type_laws.specs.Objects.{element_of as law_element, is_address_if, holds_address, hold_addresses, are_zero, spots_of, is_static, are_static}
use Rattle.graph_core.specs.Graphs.{StaticObject, UnitForm}
use Rattle.graph_core.specs.Memory.{static_bytes}
use Rattle.graph_core.specs.Values.{size_of}
use Rattle.graph_core.specs.Validity.{total, taken_by, taken_by_object, AreRelocations}
use Rattle.graph_build_names.specs.declared.names.Home.{Home}
use Rattle.graph_build_names.specs.declared.names.Home.TheVariants as home
use Rattle.graph_build_names.specs.Names.{names_of, scalar_in, object_in, home_of, object_of}
use Rattle.graph_build_steps.specs.Rules.{element_of}
use Rattle.graph_build_statements.specs.Declaring.{object_type_of}
use Rattle.graph_build.specs.Units.{IsUnitOf, object_element, object_count, add_if_some, kept_among, variables_in, memory_object, static_number, relocation_of, static_of, literal_of}
use Rattle.graph_build_laws.proofs.WellFormed.{and_both}
use Rattle.graph_build_runs.proofs.Elements.{element_size}
use Rattle.graph_build_laws.proofs.Accepted.{ProgramFacts}
use Rattle.graph_build_laws.proofs.Homes.{object_there, name_there}
use Rattle.graph_build_laws.proofs.Sizes.{type_sizes}
use Rattle.base_laws.proofs.Options.{some_same}

-- the bytes of an object by its type
pub bytes_by_type : (of : ObjectType) → object_count of * size_of (object_element of) ≡ object_size of
bytes_by_type (of-object.Scalar s) = let one : 1 * size_of (element_of s) ≡ size_of (element_of s) = omega arith in one ∙ element_size s ∙ sym (type_sizes s.base s.stars)
bytes_by_type (of-object.Array s k) = ap (λ z. k * z) (element_size s ∙ sym (type_sizes s.base s.stars)) ∙ swapped k (scalar_size s)
  where
    swapped : (a b : ℕ) → a * b ≡ b * a
    swapped a b = grind arith

-- what is taken is the room
taken_room : (n : ℕ) → taken_by n ≡ room n
taken_room n = omega arith

taken_by_type : (p : ProgramTree) (v : ℕ) → taken_by_object (memory_object p v) ≡ room (object_size (object_type_of p v))
taken_by_type p v = ap taken_by (bytes_by_type (object_type_of p v)) ∙ taken_room (object_size (object_type_of p v))

-- the elements of a list from one on
drop_at : {A : Type 0} (xs : List A) (k : ℕ) (a : A) → slice_get xs k ≡ Some a → drop k xs ≡ a ∷ drop (suc k) xs
drop_at [] k a e = cc
drop_at (x ∷ xs) zero a e = ap (λ z. z ∷ xs) (some_same e)
drop_at (x ∷ xs) (suc k) a e = drop_at xs k a e

-- Automatic objects take no more than those of the variables that are kept in memory.
module _ (p : ProgramTree) (f : TypedFunctionTree) (again : Bool) where
  abbrev kept_from : (first count : ℕ) → List ℕ
  kept_from first count = kept_among (names_of p f again) (numbers_from first count)

  objects_room : (facts : ProgramFacts p) (i count : ℕ) → f.first_variable + f.variables ≤ length p.automatics → i + count ≤ f.variables →
      total taken_by_object (map (memory_object p) (kept_from (f.first_variable + i) count)) ≤ sum_by kept_room (take count (drop (f.first_variable + i) p.automatics))
  objects_room facts i zero within le = omega arith
  objects_room facts i (suc count) within le =
      by (subst (λ z. total taken_by_object (map (memory_object p) (kept_from z count)) ≤ sum_by kept_room (take count (drop z p.automatics))) (sym next) (objects_room facts (i + 1) count within (omega (arith, le))))
      (got p.automatics (f.first_variable + i) (omega (arith, within, le)))
    where
      got : {A : Type 0} (xs : List A) (k : ℕ) → k < length xs → (a : A) × (slice_get xs k ≡ Some a)
      got [] k lt = absurd (omega (arith, lt))
      got (x ∷ xs) zero lt = (x, refl)
      got (x ∷ xs) (suc k) lt = got xs k (omega (arith, lt))

      next : f.first_variable + i + 1 ≡ f.first_variable + (i + 1)
      next = omega arith

      one_room : (a : AutomaticTree) → slice_get p.automatics (f.first_variable + i) ≡ Some a → (o : Option ℕ) → (o ≡ None → ⊥) → a.in_memory ≡ true → total taken_by_object (map (memory_object p) (add_if_some o (f.first_variable + i) (kept_from (f.first_variable + i + 1) count))) ≤ kept_room a + total taken_by_object (map (memory_object p) (kept_from (f.first_variable + i + 1) count))
      one_room a e None there inside = absurd (there refl)
      one_room a e (Some j) there inside =
          let type : object_type_of p (f.first_variable + i) ≡ a.of = ap (λ r. option_map_or (λ (b : AutomaticTree). b.of) r (of-object.Array (record { base = Char; stars = 0 }) 0)) e in
          let here : taken_by_object (memory_object p (f.first_variable + i)) ≡ room (object_size a.of) = taken_by_type p (f.first_variable + i) ∙ ap (λ t. room (object_size t)) type in
          let counts : kept_room a ≡ room (object_size a.of) = ap (λ b. if b then room (object_size a.of) else 0) inside in
          omega (arith, here, counts)

      none_room : (o : Option ℕ) → o ≡ None → total taken_by_object (map (memory_object p) (add_if_some o (f.first_variable + i) (kept_from (f.first_variable + i + 1) count))) ≡ total taken_by_object (map (memory_object p) (kept_from (f.first_variable + i + 1) count))
      none_room None e = refl
      none_room (Some j) e = cc

      -- a variable with a name has no object
      no_object : (k : ℕ) (h : Option Home) → scalar_in h ≡ Some k → object_in h ≡ None
      no_object k None e = cc
      no_object k (Some (home.Scalar s)) e = refl
      no_object k (Some (home.Object o)) e = cc

      here : (a : AutomaticTree) → slice_get p.automatics (f.first_variable + i) ≡ Some a → (b : Bool) → a.in_memory ≡ b → total taken_by_object (map (memory_object p) (kept_from (f.first_variable + i) (suc count))) ≤ kept_room a + total taken_by_object (map (memory_object p) (kept_from (f.first_variable + i + 1) count))
      here a e true inside =
          let there = object_there p f again i a (omega (arith, le)) e inside in
          one_room a e (object_of (names_of p f again) (f.first_variable + i)) (λ none. (let both = sym there.1 ∙ none in cc)) inside
      here a e false outside =
          let there = name_there p f again i a (omega (arith, le)) e outside in
          let none = no_object there.0 (home_of (names_of p f again) (f.first_variable + i)) there.1 in
          omega (arith, none_room (object_of (names_of p f again) (f.first_variable + i)) none)

      by : total taken_by_object (map (memory_object p) (kept_from (f.first_variable + i + 1) count)) ≤ sum_by kept_room (take count (drop (f.first_variable + i + 1) p.automatics)) → (a : AutomaticTree) × (slice_get p.automatics (f.first_variable + i) ≡ Some a) → total taken_by_object (map (memory_object p) (kept_from (f.first_variable + i) (suc count))) ≤ sum_by kept_room (take (suc count) (drop (f.first_variable + i) p.automatics))
      by later (a, e) =
          let one : suc (f.first_variable + i) ≡ f.first_variable + i + 1 = omega arith in
          let list : take (suc count) (drop (f.first_variable + i) p.automatics) ≡ a ∷ take count (drop (f.first_variable + i + 1) p.automatics) =
          ap (take (suc count)) (drop_at p.automatics (f.first_variable + i) a e) ∙ ap (λ k. a ∷ take count (drop k p.automatics)) one in
          let sum : sum_by kept_room (take (suc count) (drop (f.first_variable + i) p.automatics)) ≡ kept_room a + sum_by kept_room (take count (drop (f.first_variable + i + 1) p.automatics)) =
          ap (sum_by kept_room) list ∙ sum_by-cons kept_room a (take count (drop (f.first_variable + i + 1) p.automatics)) in
          omega (arith, sum, here a e a.in_memory refl, later)

  pub objects_within : (facts : ProgramFacts p) → f.first_variable + f.variables ≤ length p.automatics → memory_room (variables_of f p.automatics) ≤ 4096 → total taken_by_object (map (memory_object p) (kept_among (names_of p f again) (variables_in f))) ≤ 4096
  objects_within facts within few =
      let none : f.first_variable + 0 ≡ f.first_variable = omega arith in
      let most = subst (λ z. total taken_by_object (map (memory_object p) (kept_from z f.variables)) ≤ sum_by kept_room (take f.variables (drop z p.automatics))) none (objects_room facts 0 f.variables within (omega arith)) in
      omega (arith, most, few)

-- static objects
total_both : {A : Type 0} (g : A → ℕ) (xs ys : List A) → total g (xs ++ ys) ≡ total g xs + total g ys
total_both g [] ys = omega arith
total_both g (x ∷ xs) ys = omega (arith, total_both g xs ys)

statics_room : (p : ProgramTree) (all : List StaticTree) → total (λ (o : StaticObject). taken_by (static_bytes o)) (map (static_of p) all) ≡ sum_by own_room all
statics_room p [] = refl
statics_room p (v ∷ more) =
    let here : taken_by (static_bytes (static_of p v)) ≡ own_room v = ap taken_by (bytes_by_type v.of) ∙ taken_room (object_size v.of) in omega (arith, here, statics_room p more, sum_by-cons own_room v more)

literals_room : (all : List LiteralTree) → total (λ (o : StaticObject). taken_by (static_bytes o)) (map literal_of all) ≡ sum_by text_room all
literals_room [] = refl
literals_room (l ∷ more) =
    let bytes : static_bytes (literal_of l) ≡ length l.bytes = one (length l.bytes) in
    let here : taken_by (static_bytes (literal_of l)) ≡ text_room l = ap taken_by bytes ∙ taken_room (length l.bytes) in omega (arith, here, literals_room more, sum_by-cons text_room l more)
  where
    one : (n : ℕ) → n * 1 ≡ n
    one n = omega arith

bytes_room : (all : List LiteralTree) → total (λ (b : List ℕ). taken_by (length b)) (map (λ (l : LiteralTree). l.bytes) all) ≡ sum_by text_room all
bytes_room [] = refl
bytes_room (l ∷ more) = let here : taken_by (length l.bytes) ≡ text_room l = taken_room (length l.bytes) in omega (arith, here, bytes_room more, sum_by-cons text_room l more)

pub statics_within : (p : ProgramTree) (u : UnitForm) → IsUnitOf p u → ProgramFacts p → total (λ (o : StaticObject). taken_by (static_bytes o)) u.statics + total (λ (b : List ℕ). taken_by (length b)) u.array_bytes ≤ 1048576
statics_within p u is facts =
    let of_statics : total (λ (o : StaticObject). taken_by (static_bytes o)) u.statics ≡ total (λ (o : StaticObject). taken_by (static_bytes o)) (map (static_of p) p.statics ++ map literal_of p.literals) = ap (total (λ (o : StaticObject). taken_by (static_bytes o))) is.statics in
    let of_bytes : total (λ (b : List ℕ). taken_by (length b)) u.array_bytes ≡ total (λ (b : List ℕ). taken_by (length b)) (map (λ (l : LiteralTree). l.bytes) p.array_literals) = ap (total (λ (b : List ℕ). taken_by (length b))) is.array_bytes in
    let both = total_both (λ (o : StaticObject). taken_by (static_bytes o)) (map (static_of p) p.statics) (map literal_of p.literals) in
    let room : sum_by own_room p.statics + sum_by text_room p.literals + sum_by text_room p.array_literals ≤ 1048576 = facts.room in
    omega (arith, of_statics, of_bytes, both, statics_room p p.statics, literals_room p.literals, bytes_room p.array_literals, room)

-- how many static objects a unit has
pub statics_counted : (p : ProgramTree) (u : UnitForm) → IsUnitOf p u → length u.statics ≡ length p.statics + length p.literals
statics_counted p u is =
    let many = length-append (map (static_of p) p.statics) (map literal_of p.literals) in
    let same = ap (λ (l : List StaticObject). length l) is.statics in
    omega (arith, same, many, length-map p.statics (static_of p), length-map p.literals literal_of)

module _ (p : ProgramTree) (statics : List StaticObject) (many : length statics ≡ length p.statics + length p.literals) where
  static_within : (pointer : Scalar) (offset k : ℕ) (o : Option StaticTree) → slice_get p.statics k ≡ o → is_address_if pointer offset o ≡ true → k < length statics
  static_within pointer offset k None e h = cc
  static_within pointer offset k (Some w) e h = let lt = slice_get_within p.statics k w e in omega (arith, lt, many)

  literal_within : (k : ℕ) (o : Option LiteralTree) → slice_get p.literals k ≡ o → is_some o ≡ true → length p.statics + k < length statics
  literal_within k None e h = cc
  literal_within k (Some w) e h = let lt = slice_get_within p.literals k w e in omega (arith, lt, many)

  held_within : (pointer : Scalar) (offset : ℕ) (o : designator.Object) → holds_address p pointer offset o ≡ true → static_number p o < length statics
  held_within pointer offset (object.Static k) h = static_within pointer offset k (slice_get p.statics k) refl h
  held_within pointer offset (object.Literal k) h =
      literal_within k (slice_get p.literals k) refl (and_both (is_some (slice_get p.literals k)) (offset == 0) (and_both (is_some (slice_get p.literals k) && (offset == 0)) (scalar_size pointer == 4) h).0).0
  held_within pointer offset (object.Automatic k) h = cc

  relocations_are : (pointer : Scalar) (all : List Relocation) → hold_addresses p pointer all ≡ true → AreRelocations statics (map (relocation_of p) all)
  relocations_are pointer [] h = tt
  relocations_are pointer (r ∷ more) h = let b = and_both (holds_address p pointer r.offset r.object) (hold_addresses p pointer more) h in (held_within pointer r.offset r.object b.0, relocations_are pointer more b.1)

  static_are : (all : List StaticTree) → are_static p all ≡ true → (rest : List StaticObject) → AllByRecursion (λ (o : StaticObject). AreRelocations statics o.relocations) rest → AllByRecursion (λ (o : StaticObject). AreRelocations statics o.relocations) (map (static_of p) all ++ rest)
  static_are [] h rest k = k
  static_are (v ∷ more) h rest k =
      let b = and_both (is_static p v) (are_static p more) h in
      let zeros = ((law_element v.of).stars == 0) || are_zero v.bytes in
      let d = and_both (nat_le (length v.bytes) (object_size v.of) && hold_addresses p (law_element v.of) v.relocations && ascends (spots_of v.relocations)) zeros b.0 in
      let e = and_both (nat_le (length v.bytes) (object_size v.of) && hold_addresses p (law_element v.of) v.relocations) (ascends (spots_of v.relocations)) d.0 in
      let g = and_both (nat_le (length v.bytes) (object_size v.of)) (hold_addresses p (law_element v.of) v.relocations) e.0 in
      (relocations_are (law_element v.of) v.relocations g.1, static_are more b.1 rest k)

  literal_are : (all : List LiteralTree) → AllByRecursion (λ (o : StaticObject). AreRelocations statics o.relocations) (map literal_of all)
  literal_are [] = tt
  literal_are (l ∷ more) = (tt, literal_are more)

-- Each address in static storage is that of a static object.
pub relocations_within : (p : ProgramTree) (u : UnitForm) → IsUnitOf p u → ProgramFacts p → AllByRecursion (λ (o : StaticObject). AreRelocations u.statics o.relocations) u.statics
relocations_within p u is facts =
    subst (λ (l : List StaticObject). AllByRecursion (λ (o : StaticObject). AreRelocations u.statics o.relocations) l) (sym is.statics)
    (static_are p u.statics (statics_counted p u is) p.statics facts.statics (map literal_of p.literals) (literal_are p u.statics (statics_counted p u is) p.literals))
