-- `main` of a well-formed program stands in its unit, where a run begins with the program's static storage.
use Rattle.std.proofs.Common.{◌≡◌, ℕ, true, Option, Some, None, List, [], ◌∷◌, ◌++◌, map, slice_get, refl, ap, ◌∙◌, arith}
use Rattle.std.specs.Prelude.{◌==◌}
use Rattle.std.proofs.lemmas.Bool.Decides.{nat_tests}
use Rattle.c_tree.specs.declared.types.IntegerType.TheVariants.{Int}
use Rattle.c_tree.specs.declared.object_type.ObjectType.{ObjectType}
use Rattle.c_tree.specs.declared.object_type.ObjectType.TheVariants as of-object
use Rattle.c_tree.specs.declared.object_type.ValueType.TheVariants.{Integer}
use Rattle.c_tree.specs.declared.object_type.Object as designator
use Rattle.c_tree.specs.declared.object_type.Object.TheVariants as object
use Rattle.c_tree.specs.declared.program.Relocation.{Relocation}
use Rattle.c_tree.specs.Programs.{StaticTree, TypedFunctionTree, ProgramTree}
use Rattle.c_type_rules.specs.Types.{same_value}
use Rattle.c_type_laws.specs.Laws.{is_main}
use Rattle.graph_core.specs.Graphs.{UnitForm}
use Rattle.graph_build.specs.Units as unit
use Rattle.graph_build.specs.Units.{IsUnitOf}
use Rattle.graph_build_runs.proofs.Types.{value_is}
use Rattle.graph_build_runs.proofs.Shapes.{two_true}
use Rattle.graph_build_runs.proofs.StaticObjects.{object_element, object_count, static_number, relocation_of, static_of, literal_of, statics_of}
use Rattle.graph_build_runs.proofs.Functions.{FunctionStands}
use Rattle.graph_build_runs.proofs.Main.{MainStands}
use Rattle.graph_build_laws.proofs.Accepted.{ProgramFacts}
use Rattle.graph_build_laws.proofs.Statics.{statics_fit}

-- `main` is a function without parameters that gives an int
main_found : (r : Option TypedFunctionTree) → is_main r ≡ true → (tree : TypedFunctionTree) × (r ≡ Some tree) × (tree.parameters ≡ 0) × (tree.result ≡ Integer Int)
main_found None h = cc
main_found (Some tree) h =
    let two = two_true (tree.parameters == 0) (same_value tree.result (Integer Int)) h in (tree, refl, equal tree.parameters 0 two.0, value_is tree.result (Integer Int) two.1)
  where
    equal : (a b : ℕ) → (a == b) ≡ true → a ≡ b
    equal a b h = grind (arith, nat_tests)

-- what is made alike of each is alike of all
all_alike : {A B : Type 0} (g h : A → B) → ((a : A) → g a ≡ h a) → (xs : List A) → map g xs ≡ map h xs
all_alike g h same [] = refl
all_alike g h same (x ∷ xs) = ap (λ b. b ∷ map g xs) (same x) ∙ ap (λ l. h x ∷ l) (all_alike g h same xs)

elements_alike : (of : ObjectType) → unit.object_element of ≡ object_element of
elements_alike (of-object.Scalar s) = refl
elements_alike (of-object.Array s n) = refl

counts_alike : (of : ObjectType) → unit.object_count of ≡ object_count of
counts_alike (of-object.Scalar s) = refl
counts_alike (of-object.Array s n) = refl

module _ (p : ProgramTree) where
  number_alike : (o : designator.Object) → unit.static_number p o ≡ static_number p o
  number_alike (object.Static n) = refl
  number_alike (object.Literal n) = refl
  number_alike (object.Automatic x) = refl

  relocation_alike : (r : Relocation) → unit.relocation_of p r ≡ relocation_of p r
  relocation_alike r = ap (λ n. record { at = r.at; object = n; offset = r.offset }) (number_alike r.object)

  static_alike : (v : StaticTree) → unit.static_of p v ≡ static_of p v
  static_alike v =
      let old = map (unit.relocation_of p) v.relocations in
      ap (λ e. record { element = e; count = unit.object_count v.of; bytes = v.bytes; relocations = old }) (elements_alike v.of) ∙ ap (λ n. record { element = object_element v.of; count = n; bytes = v.bytes; relocations = old }) (counts_alike v.of)
      ∙ ap (λ r. record { element = object_element v.of; count = object_count v.of; bytes = v.bytes; relocations = r }) (all_alike (unit.relocation_of p) (relocation_of p) relocation_alike v.relocations)

  statics_alike : map (unit.static_of p) p.statics ++ map unit.literal_of p.literals ≡ statics_of p
  statics_alike =
      ap (λ l. l ++ map unit.literal_of p.literals) (all_alike (unit.static_of p) (static_of p) static_alike p.statics) ∙ ap (λ l. map (static_of p) p.statics ++ l) (all_alike unit.literal_of literal_of (λ l. refl) p.literals)

-- `main` stands in the unit.
pub main_stands : (p : ProgramTree) (u : UnitForm) → ProgramFacts p → IsUnitOf p u → ((f : ℕ) (tree : TypedFunctionTree) → slice_get p.functions f ≡ Some tree → FunctionStands p u f tree) → MainStands p u
main_stands p u facts is_unit stands =
    let m = main_found (slice_get p.functions p.main) facts.main in
    record { tree = m.0; is = m.1; function = stands p.main m.0 m.1; takes_none = m.2; gives = m.3; number = is_unit.main; statics = is_unit.statics ∙ statics_alike p; fit = statics_fit p facts.statics facts.sound }
