-- The graph of a function of a well-formed program is valid.
use Rattle.std.proofs.Common.{◌≡◌, ℕ, zero, suc, ◌+◌, ◌-◌, ◌≤◌, ◌<◌, ◌⊎◌, inl, inr, Bool, true, false, Option, Some, None, List, [], ◌∷◌, length, map, reverse, take, drop, slice_get, refl, sym, ap, ◌∙◌, subst, arith}
use Rattle.std.specs.Prelude.{◌==◌, nat_le, nat_lt, is_some}
use Rattle.std.specs.List.{AllByRecursion}
use Rattle.std.proofs.lemmas.Bool.Decides.{nat_tests}
use Rattle.std.proofs.lemmas.List.{length-map}
use Rattle.std.proofs.lemmas.Option.{slice_get_within}
use Rattle.c_tree.specs.declared.object_type.ObjectType.TheVariants as of-object
use Rattle.c_tree.specs.declared.object_type.Object.TheVariants as object
use Rattle.c_tree.specs.declared.types.IntegerType.TheVariants.{Int}
use Rattle.c_tree.specs.declared.typed_expression.Callee as source-callee
use Rattle.c_tree.specs.declared.typed_expression.Callee.TheVariants as callee
use Rattle.c_tree.specs.TypedExpressions.{Named}
use Rattle.c_tree.specs.Programs.{AutomaticTree, LiteralTree, TypedFunctionTree, ProgramTree}
use Rattle.c_places.specs.Places.{numbers_from, parameters_of, places_of_program, place_number_at}
use Rattle.c_type_laws.specs.Kinds.{is_variable, is_callee, taken_by, element_type, types_of, parameters_in}
use Rattle.c_type_laws.specs.Laws.{is_in_memory}
use Rattle.graph_core.specs.Graphs as unit
use Rattle.graph_core.specs.Graphs.{Block, Graph, UnitForm}
use Rattle.graph_core.specs.Paths.{Among, front, behind}
use Rattle.graph_core.specs.Uses.{targets_of}
use Rattle.graph_core.specs.Validity.{IsBinding, IsBlock, IsGraph, HasPlace, HasParameters, IsCall, IsOwnPlace, AreEdges, place_behind, place_at_end, markers_of_blocks}
use Rattle.graph_build_names.specs.Names.{Names, names_of, scalar_of, object_of}
use Rattle.graph_build_steps.specs.Rules.{callee_for}
use Rattle.graph_build_steps.specs.Steps.{or_zero}
use Rattle.graph_build_statements.specs.Coding.{Coding, Part}
use Rattle.graph_build_statements.specs.Reached.{statements_reached}
use Rattle.graph_build.specs.Units.{IsUnitOf, bound_to, binding_of, variables_in, kept_among, memory_object, is_again, block_count, function_coding, function_part, graph_of}
use Rattle.graph_build_laws.specs.Keeping.{KeepsBounds}
use Rattle.graph_build_laws.proofs.Blocks.{blocks_counted}
use Rattle.graph_build_laws.proofs.Scalars.{names_few}
use Rattle.graph_build_laws.proofs.Statements.{statements_more}
use Rattle.graph_build_laws.proofs.WellFormed.{and_both}
use Rattle.graph_build_laws.proofs.Flows.{made_among, unmarked}
use Rattle.graph_build_laws.proofs.Instances.{HasNone, NoMarkers, NoneMarked}
use Rattle.graph_build_laws.proofs.Standing.{among_either, among_reversed}
use Rattle.graph_build_laws.proofs.GraphMarkingStatements.{AreMadeOf}
use Rattle.graph_build_laws.proofs.Accepted.{ProgramFacts}
use Rattle.graph_build_laws.proofs.Homes.{object_there, name_there}
use Rattle.graph_build_laws.proofs.Objects.{kept_at}
use Rattle.graph_build_laws.proofs.GraphProgramKeeping.{got_mapped}
use Rattle.graph_build_laws.proofs.Settings.{graph_is, scalars_counted}
use Rattle.graph_build_laws.proofs.Naming.{IsThere, HasHomes}
use Rattle.graph_build_laws.proofs.Values.{Setting}
use Rattle.graph_build_laws.proofs.GraphProgramPieces.{IsInner}
use Rattle.graph_build_laws.proofs.Declarators.{BlockIs, InPart, IsPart}
use Rattle.graph_build_laws.proofs.GraphProgramStatements.{StatementsName, function_is}
use Rattle.graph_build_laws.proofs.Bodies.{named_all}
use Rattle.graph_build_laws.proofs.Edges.{has_place, place_stays, HasKept, one_kept, kept_edges, grown_stand, whole_stands, kept}
use Rattle.graph_build_laws.proofs.Markers.{markers_append}
use Rattle.graph_build_laws.proofs.Storage.{statics_counted, objects_within}
use Rattle.base_laws.proofs.Lists.{got_there}
use Rattle.base_laws.proofs.Numbers.{at_most, is_less}
use Rattle.graph_core.proofs.Among.{among_front as in_front, one_of_all}

no_more : (m : ℕ) → m ≤ m
no_more m = omega arith

numbers_length : (least count : ℕ) → length (numbers_from least count) ≡ count
numbers_length least zero = refl
numbers_length least (suc count) = ap suc (numbers_length (least + 1) count)

-- so many elements of a list that has them
stretch_length : {A : Type 0} (xs : List A) (first count : ℕ) → first + count ≤ length xs → length (take count (drop first xs)) ≡ count
stretch_length xs zero zero h = refl
stretch_length [] zero (suc count) h = absurd (omega (arith, h))
stretch_length (x ∷ xs) zero (suc count) h = ap suc (stretch_length xs zero count (omega (arith, h)))
stretch_length [] (suc first) zero h = absurd (omega (arith, h))
stretch_length [] (suc first) (suc count) h = absurd (omega (arith, h))
stretch_length (x ∷ xs) (suc first) count h = stretch_length xs first count (omega (arith, h))

none_among : (all : List Block) (b : Block) → NoneMarked all → Among b all → NoMarkers b.instructions
none_among [] b h a = elim a [ ]
none_among (x ∷ all) b h front = h.0
none_among (x ∷ all) b h (behind a) = none_among all b h.1 a

all_of_each : {A : Type 0} (P : A → Type 0) (all : List A) → ((a : A) → Among a all → P a) → AllByRecursion P all
all_of_each P [] h = tt
all_of_each P (x ∷ all) h = (h x front, all_of_each P all (λ a k. h a (behind k)))

module _ (p : ProgramTree) (u : UnitForm) (facts : ProgramFacts p) (is : IsUnitOf p u) where
  -- the parameters of a graph are as many as its function has
  pub parameters_many : (f : TypedFunctionTree) (is_main : Bool) → length (graph_of p f is_main).parameters ≡ f.parameters
  parameters_many f is_main = length-map (parameters_of f) (binding_of (function_coding p f is_main).names) ∙ numbers_length f.first_variable f.parameters

  parameters_few : (k : ℕ) (f : TypedFunctionTree) → slice_get p.functions k ≡ Some f → f.parameters ≤ f.variables
  parameters_few k f at = let d = (facts.functions k f at).declared in omega (arith, d)

  -- a call has as many arguments as what it calls has parameters
  function_takes : (k : ℕ) (o : Option TypedFunctionTree) → slice_get p.functions k ≡ o → is_some o ≡ true → HasParameters (slice_get u.graphs k) (length (types_of (parameters_in p.automatics o)))
  function_takes k None e h = cc
  function_takes k (Some f) e h =
      let few = parameters_few k f e in
      let within = facts.within k f e in
      let many : length (types_of (take f.parameters (drop f.first_variable p.automatics))) ≡ length (graph_of p f (k == p.main)).parameters =
      length-map (take f.parameters (drop f.first_variable p.automatics)) (λ (a : AutomaticTree). element_type a.of) ∙ stretch_length p.automatics f.first_variable f.parameters (omega (arith, few, within)) ∙ sym (parameters_many f (k == p.main)) in
      subst (λ g. HasParameters g (length (types_of (take f.parameters (drop f.first_variable p.automatics))))) (sym (graph_is p u is k f e)) many

  callee_takes : (c : source-callee.Callee) → is_callee p c ≡ true → IsCall u.graphs (callee_for c) (length (taken_by p c))
  callee_takes (callee.Function k) h = function_takes k (slice_get p.functions k) refl h
  callee_takes callee.Getchar h = refl
  callee_takes callee.Putchar h = refl
  callee_takes callee.Exit h = refl

  module _ (k : ℕ) (f : TypedFunctionTree) (at : slice_get p.functions k ≡ Some f) where
    abbrev is_main : Bool
    is_main = k == p.main

    abbrev names : Names
    names = names_of p f (is_again p f)

    abbrev code : Coding
    code = function_coding p f is_main

    abbrev pub graph : Graph
    graph = graph_of p f is_main

    abbrev whole : Part
    whole = function_part code f is_main

    -- a variable of the function has a home
    variable_at : (v : ℕ) → is_variable f v ≡ true → (i : ℕ) × (a : AutomaticTree) × (v ≡ f.first_variable + i) × (i < f.variables) × (slice_get p.automatics (f.first_variable + i) ≡ Some a)
    variable_at v h =
        let b = and_both (nat_le f.first_variable v) (nat_lt v (f.first_variable + f.variables)) h in
        let from = at_most f.first_variable v b.0 in
        let below = is_less v (f.first_variable + f.variables) b.1 in
        let within = facts.within k f at in
        let a = got_there p.automatics (f.first_variable + (v - f.first_variable)) (omega (arith, from, below, within)) in
        (v - f.first_variable, a.0, omega (arith, from), omega (arith, from, below), a.1)

    home_there : (v : ℕ) → is_variable f v ≡ true → IsThere p u.graphs names (object.Automatic v)
    home_there v h = let r = variable_at v h in subst (λ w. IsThere p u.graphs names (object.Automatic w)) (sym r.2) (by r.0 r.1 r.3 r.4 r.1.in_memory refl)
      where
        by : (i : ℕ) (a : AutomaticTree) → i < f.variables → slice_get p.automatics (f.first_variable + i) ≡ Some a → (b : Bool) → a.in_memory ≡ b → IsThere p u.graphs names (object.Automatic (f.first_variable + i))
        by i a lt e true inside = inr (object_there p f (is_again p f) i a lt e inside)
        by i a lt e false outside = inl (name_there p f (is_again p f) i a lt e outside)

    kept_there : (v : ℕ) → is_variable f v ≡ true → is_in_memory (slice_get p.automatics v) ≡ true → (j : ℕ) × (object_of names v ≡ Some j)
    kept_there v h e =
        let r = variable_at v h in
        let found = ap (slice_get p.automatics) r.2 ∙ r.4 in
        let q = object_there p f (is_again p f) r.0 r.1 r.3 r.4 (sym (ap is_in_memory found) ∙ e) in
        (q.0, ap (object_of names) r.2 ∙ q.1)

    have : HasHomes p f u.graphs names
    have = record { homes = home_there; kept = kept_there; arrays = facts.arrays; callees = callee_takes }

    object_at : (v j : ℕ) → object_of names v ≡ Some j → slice_get graph.objects j ≡ Some (memory_object p v)
    object_at v j e = got_mapped (memory_object p) (kept_among names (variables_in f)) j v (kept_at p f (is_again p f) v j e)

    scalars_few : length graph.scalars ≤ graph.name_count
    scalars_few = omega (arith, scalars_counted p f is_main, statements_more code f.body code.scalars)

    scalar_there : (v j : ℕ) → scalar_of names v ≡ Some j → j < length graph.scalars
    scalar_there v j e = subst (λ m. j < m) (sym (scalars_counted p f is_main)) (names_few p f (is_again p f) (Named (object.Automatic v) (of-object.Scalar (record { base = Int; stars = 0 }))) j e)

    static_there : (i : ℕ) → i < length p.statics → i < length u.statics
    static_there i lt = omega (arith, lt, statics_counted p u is)

    literal_there : (i : ℕ) → i < length p.literals → length p.statics + i < length u.statics
    literal_there i lt = omega (arith, lt, statics_counted p u is)

    -- what stands in the graph
    abbrev setting : Setting
    setting = record {
      program = p;
      names = names;
      unit = u;
      graph = graph;
      scalars = scalar_there;
      few = scalars_few;
      objects = λ v j e. (memory_object p v, object_at v j e);
      statics = static_there;
      literals = literal_there;
    }

    statements_named : StatementsName setting f.body
    statements_named =
        let own = facts.functions k f at in
        named_all setting f have object_at (ap (λ (l : List (List ℕ)). length l) is.array_bytes ∙ length-map p.array_literals (λ (l : LiteralTree). l.bytes)) false false None f.body [] own.typed own.kept

    -- its blocks name what is there
    part_is : IsPart setting whole
    part_is = function_is setting (places_of_program p) (place_number_at (places_of_program p) f.spot.at) code.scalars code.top f is_main statements_named (no_more (statements_reached code f.body code.scalars))

    -- an inner block keeps a place that has its marker
    own_place : (q : ℕ) → InPart setting whole.placed q → IsOwnPlace graph (Some q)
    own_place q a = inr (subst (λ (l : List ℕ). Among q l) (sym (markers_append whole.placed (reverse whole.inner))) (in_front (markers_of_blocks whole.placed) (markers_of_blocks (reverse whole.inner)) q a))

    counted : length graph.blocks ≡ block_count p f is_main
    counted = blocks_counted p f is_main

    none : NoneMarked whole.inner × AreMadeOf HasNone whole.inner whole.placed
    none = unmarked p k f at is_main facts.ascend (λ a b. Unit {0}) (λ e a. tt) counted

    placed_block : (b : Block) → Among b whole.placed → IsBlock u graph b
    placed_block b a =
        let h = kept p k f at is_main facts.ascend counted in
        let m = made_among (HasKept graph.blocks code.top) whole.inner whole.placed b h.1 a in
        let o = made_among HasNone whole.inner whole.placed b none.1 a in
        let stands = grown_stand graph.blocks code.top m.made.inner whole.inner m.grown (whole_stands p k f at is_main facts.ascend counted) in
        let leads = (m.has stands).0 in
        let one = one_of_all (BlockIs setting) whole.placed b part_is.placed a in
        let ends : place_at_end b ≡ Some m.place =
        ap (λ (l : List unit.Instruction). place_behind l b.place) m.instructions ∙ place_stays m.made.ops (Some m.place) (subst NoMarkers (same_rest (sym o.instructions ∙ m.instructions)) o.has.0) in
        record {
          place = subst (λ (l : List unit.Instruction). HasPlace l b.place) (sym m.instructions) tt;
          own = subst (λ (r : Option ℕ). IsOwnPlace graph r) (sym m.no_place) tt;
          instructions = one.0;
          operands = one.1;
          edges = subst (λ (r : Option ℕ). AreEdges graph r (targets_of b.end)) (sym ends) (subst (λ (e : unit.End). AreEdges graph (Some m.place) (targets_of e)) (sym m.ends) (kept_edges graph.blocks m.place m.made.end leads));
        }
      where
        same_rest : {q r : ℕ} {xs ys : List unit.Instruction} → unit.Marker q ∷ xs ≡ unit.Marker r ∷ ys → xs ≡ ys
        same_rest e = cc

    inner_block : (b : Block) → Among b whole.inner → IsBlock u graph b
    inner_block b a =
        let h = kept p k f at is_main facts.ascend counted in
        let leads = one_kept graph.blocks whole.inner b (h.0 (whole_stands p k f at is_main facts.ascend counted)) a in
        let one = one_of_all (IsInner setting (InPart setting whole.placed)) whole.inner b part_is.inner a in
        let unmarked_is = none_among whole.inner b none.0 a in
        let ends : place_at_end b ≡ Some leads.0 = place_stays b.instructions b.place unmarked_is ∙ leads.1 in
        record {
          place = subst (λ (r : Option ℕ). HasPlace b.instructions r) (sym one.has) (has_place b.instructions one.place);
          own = subst (λ (r : Option ℕ). IsOwnPlace graph r) (sym one.has) (own_place one.place one.own);
          instructions = one.instructions;
          operands = one.end;
          edges = subst (λ (r : Option ℕ). AreEdges graph r (targets_of b.end)) (sym ends) (kept_edges graph.blocks leads.0 b.end leads.2);
        }

    block_is : (b : Block) → Among b graph.blocks → IsBlock u graph b
    block_is b a = by (among_either whole.placed (reverse whole.inner) b a)
      where
        by : Among b whole.placed ⊎ Among b (reverse whole.inner) → IsBlock u graph b
        by (inl h) = placed_block b h
        by (inr h) = inner_block b (among_reversed whole.inner b h)

    -- a parameter is bound to a scalar or an object of the graph
    bound_is : (v : ℕ) → IsThere p u.graphs names (object.Automatic v) → (o : Option ℕ) → scalar_of names v ≡ o → IsBinding graph (bound_to names o v)
    bound_is v there (Some j) e = scalar_there v j e
    bound_is v (inl j) None e = let no = j.1 in cc
    bound_is v (inr j) None e = object_bound (object_of names v) j.0 j.1 (slice_get_within graph.objects j.0 (memory_object p v) (object_at v j.0 j.1))
      where
        same_number : (m i : ℕ) → Some m ≡ Some i → i ≡ m
        same_number m i e = cc

        object_bound : (o : Option ℕ) (i : ℕ) → o ≡ Some i → i < length graph.objects → or_zero o < length graph.objects
        object_bound None i e lt = cc
        object_bound (Some m) i e lt = subst (λ z. z < length graph.objects) (same_number m i e) lt

    bindings_are : (first count : ℕ) → f.first_variable ≤ first → first + count ≤ f.first_variable + f.variables → AllByRecursion (IsBinding graph) (map (binding_of names) (numbers_from first count))
    bindings_are first zero low high = tt
    bindings_are first (suc count) low high = (bound_is first (home_there first (own_variable first low (omega (arith, high)))) (scalar_of names first) refl, bindings_are (first + 1) count (omega (arith, low)) (omega (arith, high)))
      where
        own_variable : (v : ℕ) → f.first_variable ≤ v → v < f.first_variable + f.variables → is_variable f v ≡ true
        own_variable v low high = grind (arith, nat_tests, low, high)

    -- The graph is valid, if its counts are within the bounds.
    pub graph_valid : KeepsBounds graph → IsGraph u graph
    graph_valid bounds = record {
      instructions = bounds.instructions;
      names = bounds.names;
      scalars = bounds.scalars;
      temporaries = bounds.temporaries;
      parameters = bounds.parameters;
      bindings = bindings_are f.first_variable f.parameters (omega arith) (omega (arith, parameters_few k f at));
      objects = objects_within p f (is_again p f) facts (facts.within k f at) (facts.functions k f at).room;
      begins = tt;
      blocks = all_of_each (IsBlock u graph) graph.blocks block_is;
    }
