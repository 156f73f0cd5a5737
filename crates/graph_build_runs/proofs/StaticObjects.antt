-- The objects of static storage as a run begins, in a program's run and in its unit's.
use Rattle.std.proofs.Common.{◌≡◌, ℕ, zero, suc, ◌+◌, ◌⊎◌, inl, inr, List, [], ◌∷◌, ◌++◌, length, map, Some, true, slice_get, refl, sym, ap, ◌∙◌, arith}
use Rattle.std.specs.Prelude.{option_map}
use Rattle.std.proofs.lemmas.Option.{slice_get-map}
use Rattle.std.proofs.lemmas.List.{length-map}
use Rattle.c_tree.specs.declared.object_type.ObjectType.{ObjectType}
use Rattle.c_tree.specs.declared.object_type.ObjectType.TheVariants as of-object
use Rattle.c_tree.specs.declared.object_type.Object as designator
use Rattle.c_tree.specs.declared.object_type.Object.TheVariants as object
use Rattle.c_tree.specs.declared.program.Relocation as source-relocation
use Rattle.c_tree.specs.Programs.{StaticTree, LiteralTree, ProgramTree}
use Rattle.c_meaning_values.specs.Types.{element_scalar, value_count}
use Rattle.c_meaning_values.specs.Memory.{Object as SourceObject}
use Rattle.c_meaning.specs.StaticStorage.{static_object, literal_object, static_objects, literal_objects, first_memory}
use Rattle.graph_core.specs.declared.value.Owner.TheVariants as unit-owner
use Rattle.graph_core.specs.declared.instruction.Element as declared-element
use Rattle.graph_core.specs.declared.instruction.Element.TheVariants.{Unsigned8}
use Rattle.graph_core.specs.declared.unit.Relocation.{Relocation}
use Rattle.graph_core.specs.Graphs.{StaticObject}
use Rattle.graph_core.specs.Memory as unit-memory
use Rattle.graph_core.specs.Memory.{Object}
use Rattle.graph_build_steps.specs.Rules as rule
use Rattle.graph_build_runs.proofs.Later.{some_same}
use Rattle.graph_build_runs.proofs.Making.{front_stays}
use Rattle.graph_build_runs.proofs.Entry.{back_is, got_either}

-- what the elements of an object are, and how many it has
abbrev pub object_element : ObjectType → declared-element.Element
object_element (of-object.Scalar s) = rule.element_of s
object_element (of-object.Array s count) = rule.element_of s

abbrev pub object_count : ObjectType → ℕ
object_count (of-object.Scalar s) = 1
object_count (of-object.Array s count) = count

-- the number of an object of static storage; 0 stands for one that is none
abbrev pub static_number : ProgramTree → designator.Object → ℕ
static_number p (object.Static n) = n
static_number p (object.Literal n) = length p.statics + n
static_number p (object.Automatic x) = 0

abbrev pub relocation_of : ProgramTree → source-relocation.Relocation → Relocation
relocation_of p r = record { at = r.at; object = static_number p r.object; offset = r.offset }

-- a static object and a literal in a unit
abbrev pub static_of : ProgramTree → StaticTree → StaticObject
static_of p v = record { element = object_element v.of; count = object_count v.of; bytes = v.bytes; relocations = map (relocation_of p) v.relocations }

abbrev pub literal_of : LiteralTree → StaticObject
literal_of l = record { element = Unsigned8; count = length l.bytes; bytes = l.bytes; relocations = [] }

-- the static storage of a program in a unit
abbrev pub statics_of : ProgramTree → List StaticObject
statics_of p = map (static_of p) p.statics ++ map literal_of p.literals

pub element_same : (of : ObjectType) → object_element of ≡ rule.element_of (element_scalar of)
element_same (of-object.Scalar s) = refl
element_same (of-object.Array s count) = refl

pub count_same : (of : ObjectType) → object_count of ≡ value_count of
count_same (of-object.Scalar s) = refl
count_same (of-object.Array s count) = refl

-- an object of a unit as a run begins
abbrev pub unit_object : List StaticObject → ℕ → StaticObject → Object
unit_object statics n o = record { owner = unit-owner.Static n; element = o.element; values = unit-memory.first_values statics o 0 o.count; live = true }

pub unit_there : (statics : List StaticObject) (n : ℕ) (all : List StaticObject) (i : ℕ) (o : StaticObject) → slice_get all i ≡ Some o → slice_get (unit-memory.static_objects statics n all) i ≡ Some (unit_object statics (n + i) o)
unit_there statics n [] i o is = cc
unit_there statics n (a ∷ all) zero o is = let e : n ≡ n + 0 = omega arith in ap (λ k. Some (unit_object statics k a)) e ∙ ap (λ z. Some (unit_object statics (n + 0) z)) (some_same is)
unit_there statics n (a ∷ all) (suc i) o is = let e : n + 1 + i ≡ n + suc i = omega arith in unit_there statics (n + 1) all i o is ∙ ap (λ k. Some (unit_object statics k o)) e

pub unit_found : (statics : List StaticObject) (n : ℕ) (all : List StaticObject) (i : ℕ) (q : Object) → slice_get (unit-memory.static_objects statics n all) i ≡ Some q → (o : StaticObject) × (slice_get all i ≡ Some o) × (q ≡ unit_object statics (n + i) o)
unit_found statics n [] i q is = cc
unit_found statics n (a ∷ all) zero q is = let e : n ≡ n + 0 = omega arith in (a, refl, sym (some_same is) ∙ ap (λ k. unit_object statics k a) e)
unit_found statics n (a ∷ all) (suc i) q is = let e : n + 1 + i ≡ n + suc i = omega arith in let z = unit_found statics (n + 1) all i q is in (z.0, z.1, z.2 ∙ ap (λ k. unit_object statics k z.0) e)

pub unit_length : (statics : List StaticObject) (o : StaticObject) (index count : ℕ) → length (unit-memory.first_values statics o index count) ≡ count
unit_length statics o index zero = refl
unit_length statics o index (suc count) = ap (λ n. suc n) (unit_length statics o (index + 1) count)

-- objects of a program as its run begins
pub statics_length : (p : ProgramTree) (n : ℕ) (all : List StaticTree) → length (static_objects p n all) ≡ length all
statics_length p n [] = refl
statics_length p n (v ∷ all) = ap (λ k. suc k) (statics_length p (n + 1) all)

static_found : (p : ProgramTree) (n : ℕ) (all : List StaticTree) (i : ℕ) (o : SourceObject) → slice_get (static_objects p n all) i ≡ Some o → (v : StaticTree) × (slice_get all i ≡ Some v) × (o ≡ static_object p (n + i) v)
static_found p n [] i o is = cc
static_found p n (a ∷ all) zero o is = let e : n ≡ n + 0 = omega arith in (a, refl, sym (some_same is) ∙ ap (λ k. static_object p k a) e)
static_found p n (a ∷ all) (suc i) o is = let e : n + 1 + i ≡ n + suc i = omega arith in let z = static_found p (n + 1) all i o is in (z.0, z.1, z.2 ∙ ap (λ k. static_object p k z.0) e)

static_at : (p : ProgramTree) (n : ℕ) (all : List StaticTree) (i : ℕ) (v : StaticTree) → slice_get all i ≡ Some v → slice_get (static_objects p n all) i ≡ Some (static_object p (n + i) v)
static_at p n [] i v is = cc
static_at p n (a ∷ all) zero v is = let e : n ≡ n + 0 = omega arith in ap (λ k. Some (static_object p k a)) e ∙ ap (λ z. Some (static_object p (n + 0) z)) (some_same is)
static_at p n (a ∷ all) (suc i) v is = let e : n + 1 + i ≡ n + suc i = omega arith in static_at p (n + 1) all i v is ∙ ap (λ k. Some (static_object p k v)) e

literal_found : (n : ℕ) (all : List LiteralTree) (i : ℕ) (o : SourceObject) → slice_get (literal_objects n all) i ≡ Some o → (l : LiteralTree) × (slice_get all i ≡ Some l) × (o ≡ literal_object (n + i) l)
literal_found n [] i o is = cc
literal_found n (a ∷ all) zero o is = let e : n ≡ n + 0 = omega arith in (a, refl, sym (some_same is) ∙ ap (λ k. literal_object k a) e)
literal_found n (a ∷ all) (suc i) o is = let e : n + 1 + i ≡ n + suc i = omega arith in let z = literal_found (n + 1) all i o is in (z.0, z.1, z.2 ∙ ap (λ k. literal_object k z.0) e)

literal_at : (n : ℕ) (all : List LiteralTree) (i : ℕ) (l : LiteralTree) → slice_get all i ≡ Some l → slice_get (literal_objects n all) i ≡ Some (literal_object (n + i) l)
literal_at n [] i l is = cc
literal_at n (a ∷ all) zero l is = let e : n ≡ n + 0 = omega arith in ap (λ k. Some (literal_object k a)) e ∙ ap (λ z. Some (literal_object (n + 0) z)) (some_same is)
literal_at n (a ∷ all) (suc i) l is = let e : n + 1 + i ≡ n + suc i = omega arith in literal_at (n + 1) all i l is ∙ ap (λ k. Some (literal_object k l)) e

module _ (p : ProgramTree) where
  -- A static variable's object, and a literal's, in the program's run,
  pub static_there : (n : ℕ) (v : StaticTree) → slice_get p.statics n ≡ Some v → slice_get (first_memory p) n ≡ Some (static_object p n v)
  static_there n v is = let e : 0 + n ≡ n = omega arith in front_stays (static_objects p 0 p.statics) (literal_objects 0 p.literals) (static_object p n v) n (static_at p 0 p.statics n v is ∙ ap (λ k. Some (static_object p k v)) e)

  pub literal_there : (n : ℕ) (l : LiteralTree) → slice_get p.literals n ≡ Some l → slice_get (first_memory p) (length p.statics + n) ≡ Some (literal_object n l)
  literal_there n l is =
      let e : 0 + n ≡ n = omega arith in
      ap (λ k. slice_get (first_memory p) (k + n)) (sym (statics_length p 0 p.statics)) ∙ back_is (static_objects p 0 p.statics) (literal_objects 0 p.literals) n ∙ literal_at 0 p.literals n l is ∙ ap (λ k. Some (literal_object k l)) e

  -- and what stands there.
  pub first_found : (m : ℕ) (o : SourceObject) → slice_get (first_memory p) m ≡ Some o
      → ((v : StaticTree) × (slice_get p.statics m ≡ Some v) × (o ≡ static_object p m v)) ⊎ ((n : ℕ) × (l : LiteralTree) × (m ≡ length p.statics + n) × (slice_get p.literals n ≡ Some l) × (o ≡ literal_object n l))
  first_found m o is = elim (got_either (static_objects p 0 p.statics) (literal_objects 0 p.literals) o m is) [
    | inl both ↦
        let z = static_found p 0 p.statics m o both.1 in
        let e : 0 + m ≡ m = omega arith in inl (z.0, z.1, z.2 ∙ ap (λ k. static_object p k z.0) e)
    | inr found ↦
        let z = literal_found 0 p.literals found.0 o found.2 in
        let e : 0 + found.0 ≡ found.0 = omega arith in
        inr (found.0, z.0, found.1 ∙ ap (λ k. k + found.0) (statics_length p 0 p.statics), z.1, z.2 ∙ ap (λ k. literal_object k z.0) e)
  ]

  -- Those of its unit.
  pub unit_static : (n : ℕ) (v : StaticTree) → slice_get p.statics n ≡ Some v → slice_get (statics_of p) n ≡ Some (static_of p v)
  unit_static n v is = front_stays (map (static_of p) p.statics) (map literal_of p.literals) (static_of p v) n (slice_get-map (static_of p) p.statics n ∙ ap (option_map (static_of p)) is)

  pub unit_literal : (n : ℕ) (l : LiteralTree) → slice_get p.literals n ≡ Some l → slice_get (statics_of p) (length p.statics + n) ≡ Some (literal_of l)
  unit_literal n l is =
      ap (λ k. slice_get (statics_of p) (k + n)) (sym (length-map p.statics (static_of p))) ∙ back_is (map (static_of p) p.statics) (map literal_of p.literals) n ∙ slice_get-map literal_of p.literals n ∙ ap (option_map literal_of) is
