-- What holds all the time of an activation that runs a function of a program's unit: how its variables are named, and where it finds them.
use Rattle.std.proofs.Common.{◌≡◌, ℕ, zero, suc, ◌+◌, ◌-◌, ◌<◌, Bool, true, false, Some, List, [], ◌∷◌, ◌++◌, length, map, slice_get, refl, sym, ap, ◌∙◌, subst, arith}
use Rattle.std.specs.Prelude.{◌==◌, nat_le, nat_lt}
use Rattle.std.proofs.lemmas.List.{length-map}
use Rattle.c_tree.specs.declared.object_type.ObjectType.{ObjectType}
use Rattle.c_tree.specs.declared.object_type.ObjectType.TheVariants as of-object
use Rattle.c_tree.specs.declared.object_type.Object.TheVariants as object
use Rattle.c_tree.specs.declared.types.IntegerType.TheVariants.{Int}
use Rattle.c_tree.specs.TypedExpressions.{Named}
use Rattle.c_tree.specs.Programs.{AutomaticTree, LiteralTree, TypedFunctionTree, ProgramTree}
use Rattle.c_type_laws.specs.Kinds.{is_variable}
use Rattle.c_type_laws.specs.Objects.{is_kept_array}
use Rattle.c_meaning_values.specs.Types.{value_count}
use Rattle.c_meaning_values.specs.Memory.{Memory as SourceMemory}
use Rattle.c_meaning_steps.specs.declared.event.Frame.{Frame}
use Rattle.graph_core.specs.Graphs.{UnitForm}
use Rattle.graph_core.specs.Memory.{Memory}
use Rattle.graph_core.specs.Runs.{Activation}
use Rattle.graph_build_names.specs.Names.{names_of, scalar_of}
use Rattle.graph_build.specs.Units.{IsUnitOf, variables_in, scalars_among, scalar_record, static_of, literal_of, is_again, function_coding, graph_of}
use Rattle.graph_build_laws.proofs.Scalars.{names_few}
use Rattle.graph_build_laws.proofs.Instances.{got_before}
use Rattle.graph_build_laws.proofs.Standing.{got_behind}
use Rattle.graph_build_runs.proofs.Later.{some_same}
use Rattle.graph_build_runs.proofs.Shapes.{two_true}
use Rattle.graph_build_runs.proofs.Coding.{VariableHome, in_name, in_object, LaidOut}
use Rattle.graph_build_runs.proofs.Activities.{Activity, placed}
use Rattle.graph_build_runs.proofs.Stops.{NamesScalars, Lawful}
use Rattle.graph_build_laws.proofs.Accepted.{ProgramFacts}
use Rattle.graph_build_laws.proofs.Homes.{one_name, named_outside, object_there, name_there}
use Rattle.graph_build_laws.proofs.GraphProgramScalars.{scalar_at, mapped_at}
use Rattle.graph_build_laws.proofs.Settings.{graph_is, running, scalars_counted}
use Rattle.base_laws.proofs.Lists.{got_there}
use Rattle.base_laws.proofs.Numbers.{at_most, is_less}

-- what is not in memory is one scalar
single_of : (inside : Bool) (of : ObjectType) → is_kept_array inside of ≡ true → inside ≡ false → value_count of ≡ 1
single_of inside (of-object.Scalar s) h e = refl
single_of inside (of-object.Array s n) h e = let yes = (two_true (nat_le 1 n) inside h).1 in cc

pub got_mapped : {A B : Type 0} (g : A → B) (xs : List A) (i : ℕ) (a : A) → slice_get xs i ≡ Some a → slice_get (map g xs) i ≡ Some (g a)
got_mapped g [] i a e = cc
got_mapped g (x ∷ xs) zero a e = ap (λ z. Some (g z)) (some_same e)
got_mapped g (x ∷ xs) (suc i) a e = got_mapped g xs i a e

module _ (p : ProgramTree) (u : UnitForm) (facts : ProgramFacts p) (unit : IsUnitOf p u) where
  names_scalars : NamesScalars p u
  names_scalars f tree g is is_g j v s at is_v =
      let c = function_coding p tree (f == p.main) in
      let scalars = scalars_among c.names (variables_in tree) in
      let same : g ≡ graph_of p tree (f == p.main) = some_same (sym is_g ∙ graph_is p u unit f tree is) in
      let r = mapped_at (scalar_record p tree c.entry scalars) scalars j s (subst (λ z. slice_get z.scalars j ≡ Some s) same at) in
      let number : length p.statics + length p.literals + r.0 ≡ length p.statics + length p.literals + v = ap (λ z. z.variable) r.2 ∙ is_v in
      let it : r.0 ≡ v = omega (arith, number) in
      ap (scalar_of (names_of p tree false)) (sym it) ∙ scalar_at p tree (is_again p tree) j r.0 r.1

  module _ (f : ℕ) (tree : TypedFunctionTree) (is : slice_get p.functions f ≡ Some tree) (first : ℕ) (ws : List Activation) (objects : Memory) (frames : List Frame) (left : ℕ) where
    abbrev k : Activity
    k = running p u f tree first ws objects frames left

    -- Its scalars are its first names, apart from others and named as the variables are.
    pub is_lawful : Lawful k
    is_lawful = record {
      low = λ v i e. subst (λ n. i < n) (sym (scalars_counted p tree (f == p.main))) (names_few p tree (is_again p tree) (Named (object.Automatic v) (of-object.Scalar (record { base = Int; stars = 0 }))) i e);
      apart = record {
        one = one_name p tree (is_again p tree);
        outside = named_outside p tree (is_again p tree);
        single = λ v i a e at. single_of a.in_memory a.of (facts.arrays v a at) (named_outside p tree (is_again p tree) v i a e at);
      };
      tree_is = is;
      graph_is = graph_is p u unit f tree is;
      named = names_scalars;
    }

    -- A variable of the function is one of the program's, a number behind the first one.
    pub variable_is : (v : ℕ) → is_variable tree v ≡ true → (i : ℕ) × (a : AutomaticTree) × (v ≡ tree.first_variable + i) × (i < tree.variables) × (slice_get p.automatics (tree.first_variable + i) ≡ Some a)
    variable_is v h =
        let b = two_true (nat_le tree.first_variable v) (nat_lt v (tree.first_variable + tree.variables)) h in
        let from = at_most tree.first_variable v b.0 in
        let below = is_less v (tree.first_variable + tree.variables) b.1 in
        let a = got_there p.automatics (tree.first_variable + (v - tree.first_variable)) (omega (arith, from, below, facts.within f tree is)) in
        (v - tree.first_variable, a.0, omega (arith, from), omega (arith, from, below), a.1)

    -- It has a home, and static objects stand in the unit.
    pub laid_out : (place : ℕ) (began : SourceMemory) → LaidOut (placed k place began)
    laid_out place began = record {
      variable_home = λ v h. (let r = variable_is v h in subst (λ z. VariableHome (placed k place began) z) (sym r.2) (home r.0 r.1 r.3 r.4));
      static_there = λ i s e. record { object = static_of p s; is = ap (λ l. slice_get l i) unit.statics ∙ got_before (map (static_of p) p.statics) (map literal_of p.literals) i (static_of p s) (got_mapped (static_of p) p.statics i s e) };
      literal_there = λ i s e. record { object = literal_of s; is = literal i s e };
    }
      where
        home : (i : ℕ) (a : AutomaticTree) → i < tree.variables → slice_get p.automatics (tree.first_variable + i) ≡ Some a → VariableHome (placed k place began) (tree.first_variable + i)
        home i a lt e = by a.in_memory refl
          where
            by : (b : Bool) → a.in_memory ≡ b → VariableHome (placed k place began) (tree.first_variable + i)
            by true inside = let r = object_there p tree (is_again p tree) i a lt e inside in in_object r.0 r.1
            by false outside = let r = name_there p tree (is_again p tree) i a lt e outside in in_name r.0 r.1

        literal : (i : ℕ) (s : LiteralTree) → slice_get p.literals i ≡ Some s → slice_get u.statics (length p.statics + i) ≡ Some (literal_of s)
        literal i s e =
            let many : length (map (static_of p) p.statics) ≡ length p.statics = length-map p.statics (static_of p) in
            ap (λ l. slice_get l (length p.statics + i)) unit.statics
            ∙ subst (λ n. slice_get (map (static_of p) p.statics ++ map literal_of p.literals) (n + i) ≡ Some (literal_of s)) many (got_behind (map (static_of p) p.statics) (map literal_of p.literals) i (literal_of s) (got_mapped literal_of p.literals i s e))
