-- Each variable of a function has a scalar or an object in the function's graph, and what has a scalar is no array.
use Rattle.std.proofs.Common.{◌≡◌, ℕ, zero, suc, ◌+◌, ◌-◌, ◌≤◌, ◌<◌, ◌⊎◌, inl, inr, Bool, true, false, Option, Some, None, List, [], ◌∷◌, ◌++◌, length, replicate, slice_get, refl, sym, ap, ◌∙◌, subst, arith}
use Rattle.std.specs.Prelude.{◌==◌, ◌&&◌, nat_le}
use Rattle.std.proofs.lemmas.Bool.{and_parts, eqb-true}
use Rattle.std.proofs.lemmas.Bool.Decides.{nat_tests}
use Rattle.std.proofs.lemmas.Option.{none-some, same_Some}
use Rattle.c_tree.specs.declared.object_type.ObjectType.{ObjectType}
use Rattle.c_tree.specs.declared.object_type.ObjectType.TheVariants as type
use Rattle.c_tree.specs.Programs.{AutomaticTree, TypedFunctionTree, ProgramTree}
use Rattle.c_places.specs.Places.{places_of_program, numbers_from}
use Rattle.c_type_laws.specs.Laws.{IsWellFormed, objects_ascend, follow, is_main, are_objects, are_functions, is_within, is_sound, places_ascend}
use Rattle.c_type_laws.specs.Parameters.{parameters_single}
use Rattle.c_type_laws.specs.Objects.{is_kept_array}
use Rattle.graph_core.specs.Graphs.{Graph, Scalar, UnitForm}
use Rattle.graph_build_names.specs.Names.{Names, names_of, scalar_of, object_of}
use Rattle.graph_build.specs.Units.{add_if_some, scalars_among, kept_among, variables_in, scalar_record, memory_object, is_again, function_coding, graph_of, IsUnitOf}
use Rattle.graph_build_laws.proofs.Accepted.{facts_of}
use Rattle.graph_build_laws.proofs.Homes.{named_outside, object_there}
use Rattle.image_build_tables.specs.Variables.{owned_from}
use Rattle.image_truth_units.specs.Variables.{automatic_number}
use Rattle.image_truth_units.proofs.Tables.{from_map, map_at}
use Rattle.image_truth_units.proofs.Picked.{scalars_picked, picked_at}
use Rattle.image_truth_units.proofs.ImageUnitsWhole.{of_graph}
use Rattle.image_truth_units.specs.ImageRulesUnits.{HasScalarOf, HasObjectOf, IsSingle, HasAllVariables}
use Rattle.image_truth_units.proofs.Scopes.{IsOf}
use Rattle.image_truth_units.proofs.UnitFactsScalars.{scalar_there}

-- ---- Functions and their variables

-- The function to which a variable belongs, of some functions, and the variable is one of its own.
record IsOwned (number : ℕ) (all : List TypedFunctionTree) (x f : ℕ) : Type 0 where
  pub index : ℕ
  pub tree : TypedFunctionTree
  pub number_is : f ≡ number + index
  pub is : slice_get all index ≡ Some tree
  pub of : IsOf tree x

-- an element of a list that begins with so many of one
in_two : {A : Type 0} (n i : ℕ) (a b : A) (rest : List A) → slice_get (replicate n a ++ rest) i ≡ Some b → ((i < n) × (a ≡ b)) ⊎ ((n ≤ i) × (slice_get rest (i - n) ≡ Some b))
in_two zero i a b rest is = let index : i ≡ i - 0 = omega arith in inr (omega arith, ap (slice_get rest) (sym index) ∙ is)
in_two (suc n) zero a b rest is = inl (omega arith, same_Some a b is)
in_two (suc n) (suc i) a b rest is = further (in_two n i a b rest is)
  where
    further : ((i < n) × (a ≡ b)) ⊎ ((n ≤ i) × (slice_get rest (i - n) ≡ Some b)) → ((suc i < suc n) × (a ≡ b)) ⊎ ((suc n ≤ suc i) × (slice_get rest (suc i - suc n) ≡ Some b))
    further (inl h) = let lt = h.0 in inl (omega (arith, lt), h.1)
    further (inr h) = let le = h.0 in let index : suc i - suc n ≡ i - n = omega arith in inr (omega (arith, le), ap (slice_get rest) index ∙ h.1)

owned_of : (number next count : ℕ) (all : List TypedFunctionTree) (i f : ℕ) → follow next count all ≡ true → slice_get (owned_from number all) i ≡ Some (Some f) → IsOwned number all (next + i) f
owned_of number next count [] i f ok is = absurd (none-some (Some f) is)
owned_of number next count (g ∷ more) i f ok is = by (in_two g.variables i (Some number) (Some f) (owned_from (number + 1) more) is) (λ j at. owned_of (number + 1) (next + g.variables) count more j f parts.1 at)
  where
    parts : (g.first_variable ≡ next) × (follow (next + g.variables) count more ≡ true)
    parts = let both = and_parts (g.first_variable == next) (follow (next + g.variables) count more) ok in (eqb-true g.first_variable next both.0, both.1)

    by : ((i < g.variables) × (Some number ≡ Some f)) ⊎ ((g.variables ≤ i) × (slice_get (owned_from (number + 1) more) (i - g.variables) ≡ Some (Some f)))
        → ((j : ℕ) → slice_get (owned_from (number + 1) more) j ≡ Some (Some f) → IsOwned (number + 1) more (next + g.variables + j) f) → IsOwned number (g ∷ more) (next + i) f
    by (inl h) later =
        let lt = h.0 in
        let first = parts.0 in
        let same = same_Some number f h.1 in record { index = 0; tree = g; number_is = omega (arith, same); is = refl; of = (omega (arith, first), omega (arith, first, lt)) }
    by (inr h) later =
        let le = h.0 in
        let rest = later (i - g.variables) h.1 in
        let same = rest.number_is in
        let place : next + g.variables + (i - g.variables) ≡ next + i = omega (arith, le) in record { index = suc rest.index; tree = rest.tree; number_is = omega (arith, same); is = rest.is; of = subst (IsOf rest.tree) place rest.of }

-- ---- Objects

-- a variable that has an object is among those in memory
kept_there : (n : Names) (base count x k : ℕ) → base ≤ x → x < base + count → object_of n x ≡ Some k → (i : ℕ) × (slice_get (kept_among n (numbers_from base count)) i ≡ Some x)
kept_there n base zero x k low high named = absurd (omega (arith, low, high))
kept_there n base (suc count) x k low high named = by (object_of n base) refl (nat_le x base) refl (λ above. kept_there n (base + 1) count x k above (omega (arith, high)) named)
  where
    same : nat_le x base ≡ true → x ≡ base
    same at = grind (arith, nat_tests, low)

    above : nat_le x base ≡ false → base + 1 ≤ x
    above at = grind (arith, nat_tests)

    by : (r : Option ℕ) → object_of n base ≡ r → (b : Bool) → nat_le x base ≡ b → (base + 1 ≤ x → (i : ℕ) × (slice_get (kept_among n (numbers_from (base + 1) count)) i ≡ Some x))
        → (i : ℕ) × (slice_get (add_if_some r base (kept_among n (numbers_from (base + 1) count))) i ≡ Some x)
    by None e true at later = absurd (none-some k (sym e ∙ ap (object_of n) (sym (same at)) ∙ named))
    by None e false at later = later (above at)
    by (Some j) e true at later = (0, ap (λ y. Some y) (sym (same at)))
    by (Some j) e false at later = let r = later (above at) in (suc r.0, r.1)

-- the variables of a well-formed program's functions follow one another
variables_follow : (p : ProgramTree) → IsWellFormed p → follow 0 (length p.automatics) p.functions ≡ true
variables_follow p h =
    let ordered = objects_ascend p in
    let singles = parameters_single p.automatics p.functions in
    let last = and_parts (ordered && follow 0 (length p.automatics) p.functions && is_main (slice_get p.functions p.main) && are_objects p && are_functions p p.functions && is_within p && places_ascend (places_of_program p) && singles) (is_sound p) h in
    let front = and_parts (ordered && follow 0 (length p.automatics) p.functions && is_main (slice_get p.functions p.main) && are_objects p && are_functions p p.functions && is_within p && places_ascend (places_of_program p)) singles last.0 in
    let a = and_parts (ordered && follow 0 (length p.automatics) p.functions && is_main (slice_get p.functions p.main) && are_objects p && are_functions p p.functions && is_within p) (places_ascend (places_of_program p)) front.0 in
    let b = and_parts (ordered && follow 0 (length p.automatics) p.functions && is_main (slice_get p.functions p.main) && are_objects p && are_functions p p.functions) (is_within p) a.0 in
    let c = and_parts (ordered && follow 0 (length p.automatics) p.functions && is_main (slice_get p.functions p.main) && are_objects p) (are_functions p p.functions) b.0 in
    let d = and_parts (ordered && follow 0 (length p.automatics) p.functions && is_main (slice_get p.functions p.main)) (are_objects p) c.0 in
    let e = and_parts (ordered && follow 0 (length p.automatics) p.functions) (is_main (slice_get p.functions p.main)) d.0 in
    (and_parts ordered (follow 0 (length p.automatics) p.functions) e.0).1

single_of : (of : ObjectType) (b : Bool) → is_kept_array b of ≡ true → b ≡ false → IsSingle of
single_of (type.Scalar s) b h outside = tt
single_of (type.Array s count) b h outside = clash (sym (and_parts (nat_le 1 count) b h).1 ∙ outside)
  where
    clash : true ≡ false → ⊥
    clash e = cc

-- ---- Units

module _ (p : ProgramTree) (formed : IsWellFormed p) (u : UnitForm) (is : IsUnitOf p u) where
  -- a variable that is kept in memory has an object in the graph of its function
  kept_in : (tree : TypedFunctionTree) (b : Bool) (g : Graph) (x : ℕ) (a : AutomaticTree) → graph_of p tree b ≡ g → IsOf tree x → slice_get p.automatics x ≡ Some a → a.in_memory ≡ true → HasObjectOf g (automatic_number p x)
  kept_in tree b g x a same of declared inside =
      let low = of.0 in
      let high = of.1 in
      let n = names_of p tree (is_again p tree) in
      let place : tree.first_variable + (x - tree.first_variable) ≡ x = omega (arith, low) in
      let within : x - tree.first_variable < tree.variables = omega (arith, low, high) in
      let named = object_there p tree (is_again p tree) (x - tree.first_variable) a within (ap (slice_get p.automatics) place ∙ declared) inside in
      let at = kept_there n tree.first_variable tree.variables x named.0 low high (ap (object_of n) (sym place) ∙ named.1) in
      record {
        index = at.0;
        object = memory_object p x;
        is = ap (λ (y : Graph). slice_get y.objects at.0) (sym same) ∙ map_at (memory_object p) (kept_among n (variables_in tree)) at.0 x at.1;
        variable_is = refl;
      }

  home_there : (tree : TypedFunctionTree) (b : Bool) (g : Graph) (x : ℕ) (a : AutomaticTree) → graph_of p tree b ≡ g → IsOf tree x → slice_get p.automatics x ≡ Some a → (m : Bool) → a.in_memory ≡ m → HasScalarOf g (automatic_number p x) ⊎ HasObjectOf g (automatic_number p x)
  home_there tree b g x a same of declared true inside = inr (kept_in tree b g x a same of declared inside)
  home_there tree b g x a same of declared false outside =
      let s = scalar_there p formed u is tree b g x a same of declared outside in inl (record { index = s.index; scalar = s.scalar; is = s.is; variable_is = s.variable_is })

  own_there : (x f : ℕ) (a : AutomaticTree) (g : Graph) → slice_get p.automatics x ≡ Some a → slice_get (owned_from 0 p.functions) x ≡ Some (Some f) → slice_get u.graphs f ≡ Some g → HasScalarOf g (automatic_number p x) ⊎ HasObjectOf g (automatic_number p x)
  own_there x f a g declared owned at =
      let t = of_graph p 0 p.functions f g (ap (λ l. slice_get l f) (sym is.graphs) ∙ at) in
      let own = owned_of 0 0 (length p.automatics) p.functions x f (variables_follow p formed) owned in
      let number = own.number_is in
      let index : own.index ≡ f = omega (arith, number) in
      let tree : own.tree ≡ t.0 = same_Some own.tree t.0 (sym own.is ∙ ap (slice_get p.functions) index ∙ t.2) in
      let start : 0 + x ≡ x = omega arith in
      let of : IsOf t.0 x = subst (λ (y : TypedFunctionTree). IsOf y x) tree (subst (IsOf own.tree) start own.of) in
      home_there t.0 t.1 g x a t.3 of declared a.in_memory refl

  own_single : (f k x : ℕ) (g : Graph) (s : Scalar) (a : AutomaticTree) → slice_get u.graphs f ≡ Some g → slice_get g.scalars k ≡ Some s → s.variable ≡ automatic_number p x → slice_get p.automatics x ≡ Some a → IsSingle a.of
  own_single f k x g s a at has number declared =
      let t = of_graph p 0 p.functions f g (ap (λ l. slice_get l f) (sym is.graphs) ∙ at) in
      let n = names_of p t.0 (is_again p t.0) in
      let scalars = scalars_among n (variables_in t.0) in
      let y = from_map (scalar_record p t.0 (function_coding p t.0 t.1).entry scalars) scalars k s (ap (λ (y : Graph). slice_get y.scalars k) t.3 ∙ has) in
      let said : automatic_number p y.0 ≡ s.variable = ap (λ (y : Scalar). y.variable) y.2 in
      let same : y.0 ≡ x = omega (arith, said, number) in
      let one = picked_at (scalar_of n) t.0.first_variable t.0.variables k y.0 (ap (λ l. slice_get l k) (sym (scalars_picked n (variables_in t.0))) ∙ y.1) in
      let named : scalar_of n x ≡ Some one.value = ap (scalar_of n) (sym same) ∙ one.some in
      single_of a.of a.in_memory ((facts_of p formed).arrays x a declared) (named_outside p t.0 (is_again p t.0) x one.value a named declared)

-- Each variable of a function of a well-formed program has a scalar or an object in the graph of its function, and a scalar is of no array type.
pub every_variable : (p : ProgramTree) → IsWellFormed p → (u : UnitForm) → IsUnitOf p u → HasAllVariables p u
every_variable p formed u is = record { there = own_there p formed u is; single = own_single p formed u is }
