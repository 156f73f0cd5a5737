-- Where a function begins in a program's unit: the block of its entry, what its parameters are bound to, and its objects.
use Rattle.std.proofs.Common.{◌≡◌, ℕ, zero, suc, ◌+◌, ◌-◌, Bool, true, Option, Some, None, List, [], ◌∷◌, length, take, drop, map, slice_get, refl, sym, ap, ◌∙◌, subst, arith}
use Rattle.std.specs.Prelude.{◌==◌}
use Rattle.std.specs.Option.{option_map_or}
use Rattle.std.proofs.lemmas.List.{length-drop}
use Rattle.c_tree.specs.declared.types.IntegerType.TheVariants.{Char}
use Rattle.c_tree.specs.declared.object_type.ObjectType.{ObjectType}
use Rattle.c_tree.specs.declared.object_type.ObjectType.TheVariants as of-object
use Rattle.c_tree.specs.Programs.{AutomaticTree, TypedFunctionTree, ProgramTree}
use Rattle.c_places.specs.Places.{Place, parameters_of}
use Rattle.c_flow.specs.Flow.{start_of_all, ways_of_body}
use Rattle.c_meaning_values.specs.Types.{element_scalar, value_count}
use Rattle.graph_core.specs.declared.graph.MemoryObject.{MemoryObject}
use Rattle.graph_core.specs.Graphs as unit
use Rattle.graph_core.specs.Graphs.{Graph, Marker, Binding}
use Rattle.graph_build_names.specs.Names.{Names, names_of, scalar_of, object_of}
use Rattle.graph_build_steps.specs.Rules as rule
use Rattle.graph_build_steps.specs.Drafts.{Made, note}
use Rattle.graph_build_statements.specs.Coding.{Coding, going}
use Rattle.graph_build_statements.specs.Declaring.{object_type_of}
use Rattle.graph_build.specs.Units.{object_element, object_count, kept_among, note_if as unit_note_if, note_parameters, bound_to as unit_bound, binding_of, variables_in, memory_object, body_part, is_again, block_count, function_coding, graph_of}
use Rattle.graph_build_runs.proofs.Later.{some_same}
use Rattle.graph_build_runs.proofs.Shapes.{two_true}
use Rattle.graph_build_runs.proofs.Parameters.{bound_as, bound_to}
use Rattle.graph_build_runs.proofs.Entry.{note_if, noting, coding_for, entry_made, IsObjectOf, EntryStands}
use Rattle.c_type_laws.specs.Parameters.{is_single, are_single, parameters_single}
use Rattle.graph_build_laws.proofs.Accepted.{ProgramFacts}
use Rattle.graph_build_laws.proofs.Homes.{dropped_at, taken_at}
use Rattle.graph_build_laws.proofs.GraphProgramScalars.{mapped_at}
use Rattle.graph_build_laws.proofs.Objects.{object_at, kept_at}
use Rattle.graph_build_laws.proofs.GraphProgramKeeping.{got_mapped}

-- notes are made alike
noted_alike : (n : Names) (all : List ℕ) (m : Made) → note_parameters n all m ≡ noting n all m
noted_alike n [] m = refl
noted_alike n (x ∷ more) m = by (scalar_of n x) (noted_alike n more m)
  where
    by : (o : Option ℕ) → note_parameters n more m ≡ noting n more m → unit_note_if n o (note_parameters n more m) ≡ note_if o (noting n more m)
    by None same = same
    by (Some k) same = ap (note k) same

-- where flow goes hangs on no count of scalars
going_alike : (c d : Coding) → c.places ≡ d.places → c.entry ≡ d.entry → (to : Option ℕ) (inner : List unit.Block) → going c to inner ≡ going d to inner
going_alike c d places entry None inner = refl
going_alike c d places entry (Some at) inner =
    ap (λ (l : List Place). going (record c { places = l }) (Some at) inner) places ∙ ap (λ n. going (record c { places = d.places; entry = n }) (Some at) inner) entry

bound_alike : (n : Names) (x : ℕ) → binding_of n x ≡ bound_to n x
bound_alike n x = by (scalar_of n x)
  where
    by : (o : Option ℕ) → unit_bound n o x ≡ bound_as n o x
    by None = refl
    by (Some k) = refl

mapped_alike : (n : Names) (xs : List ℕ) → map (binding_of n) xs ≡ map (bound_to n) xs
mapped_alike n [] = refl
mapped_alike n (x ∷ xs) = ap (λ b. b ∷ map (binding_of n) xs) (bound_alike n x) ∙ ap (λ l. bound_to n x ∷ l) (mapped_alike n xs)

-- an object's elements by its type
elements_alike : (of : ObjectType) → object_element of ≡ rule.element_of (element_scalar of)
elements_alike (of-object.Scalar s) = refl
elements_alike (of-object.Array s n) = refl

counts_alike : (of : ObjectType) → object_count of ≡ value_count of
counts_alike (of-object.Scalar s) = refl
counts_alike (of-object.Array s n) = refl

-- scalars by their numbers
single_at : (all : List AutomaticTree) → are_single all ≡ true → (i : ℕ) (a : AutomaticTree) → slice_get all i ≡ Some a → value_count a.of ≡ 1
single_at [] h i a e = cc
single_at (c ∷ more) h zero a e = subst (λ z. value_count z.of ≡ 1) (some_same e) (by c.of (two_true (is_single c.of) (are_single more) h).0)
  where
    by : (of : ObjectType) → is_single of ≡ true → value_count of ≡ 1
    by (of-object.Scalar s) h = refl
    by (of-object.Array s n) h = cc
single_at (c ∷ more) h (suc i) a e = single_at more (two_true (is_single c.of) (are_single more) h).1 i a e

singles_at : (all : List AutomaticTree) (fs : List TypedFunctionTree) → parameters_single all fs ≡ true → (f : ℕ) (tree : TypedFunctionTree) → slice_get fs f ≡ Some tree → are_single (take tree.parameters (drop tree.first_variable all)) ≡ true
singles_at all [] h f tree e = cc
singles_at all (g ∷ more) h zero tree e = subst (λ z. are_single (take z.parameters (drop z.first_variable all)) ≡ true) (some_same e) (two_true (are_single (take g.parameters (drop g.first_variable all))) (parameters_single all more) h).0
singles_at all (g ∷ more) h (suc f) tree e = singles_at all more (two_true (are_single (take g.parameters (drop g.first_variable all))) (parameters_single all more) h).1 f tree e

module _ (p : ProgramTree) (facts : ProgramFacts p) (f : ℕ) (tree : TypedFunctionTree) (is : slice_get p.functions f ≡ Some tree) where
  abbrev again : Bool
  again = is_again p tree

  abbrev top : ℕ
  top = block_count p tree (f == p.main)

  abbrev g : Graph
  g = graph_of p tree (f == p.main)

  abbrev n : Names
  n = names_of p tree again

  abbrev c : Coding
  c = function_coding p tree (f == p.main)

  abbrev inner : List unit.Block
  inner = (body_part c tree (f == p.main)).inner

  abbrev to : Option ℕ
  to = start_of_all tree.body (ways_of_body tree).next

  made_alike : note_parameters n (parameters_of tree) (going c to inner) ≡ entry_made p tree g again top inner
  made_alike = noted_alike n (parameters_of tree) (going c to inner) ∙ ap (noting n (parameters_of tree)) (going_alike c (coding_for p tree g again top) refl refl to inner)

  object_is : (v j : ℕ) (a : AutomaticTree) → object_of n v ≡ Some j → slice_get p.automatics v ≡ Some a → IsObjectOf p g v j a
  object_is v j a e at =
      let typed : object_type_of p v ≡ a.of = ap (λ r. option_map_or (λ (q : AutomaticTree). q.of) r (of-object.Array (record { base = Char; stars = 0 }) 0)) at in
      record {
        object = memory_object p v;
        is = got_mapped (memory_object p) (kept_among n (variables_in tree)) j v (kept_at p tree again v j e);
        variable = refl;
        element = ap object_element typed ∙ elements_alike a.of;
        count = ap object_count typed ∙ counts_alike a.of;
      }

  owners_differ : (i j : ℕ) (a b : MemoryObject) → slice_get g.objects i ≡ Some a → slice_get g.objects j ≡ Some b → a.var.0 ≡ b.var.0 → i ≡ j
  owners_differ i j a b e h same =
      let all = kept_among n (variables_in tree) in
      let x = mapped_at (memory_object p) all i a e in
      let y = mapped_at (memory_object p) all j b h in
      let numbers : length p.statics + length p.literals + x.0 ≡ length p.statics + length p.literals + y.0 = ap (λ z. z.var.0) x.2 ∙ same ∙ sym (ap (λ z. z.var.0) y.2) in
      let it : x.0 ≡ y.0 = omega (arith, numbers) in
      some_same (sym (object_at p tree again i x.0 x.1) ∙ ap (object_of n) it ∙ object_at p tree again j y.0 y.1)

  -- The function is entered as it should be.
  pub entry_stands : EntryStands p tree g again top
  entry_stands = record {
    inner = inner;
    block = ap (λ (m : Made). Some (record { place = None; instructions = Marker g.entry ∷ m.ops; end = m.end })) made_alike;
    parameters = mapped_alike n (parameters_of tree);
    objects = object_is;
    owners = owners_differ;
    among = omega (arith, (facts.functions f tree is).declared);
    enough = omega (arith, length-drop tree.first_variable p.automatics, (facts.functions f tree is).declared, facts.within f tree is);
    single = λ v a from below at.
        (let i = v - tree.first_variable in
        let same : tree.first_variable + i ≡ v = omega (arith, from) in
        let found = taken_at (drop tree.first_variable p.automatics) tree.parameters i (omega (arith, from, below)) ∙ dropped_at p.automatics tree.first_variable i ∙ ap (slice_get p.automatics) same ∙ at in
        single_at (take tree.parameters (drop tree.first_variable p.automatics)) (singles_at p.automatics p.functions facts.singles f tree is) i a found);
  }
