-- A variable of a function that is not kept in memory is a scalar of the function's graph.
use Rattle.std.proofs.Common.{◌≡◌, ℕ, zero, suc, ◌+◌, ◌-◌, ◌≤◌, ◌<◌, Bool, true, false, Option, Some, None, List, [], ◌∷◌, slice_get, take, drop, refl, sym, ap, ◌∙◌, subst, arith}
use Rattle.std.specs.Prelude.{nat_le, if◌then◌else◌}
use Rattle.std.proofs.lemmas.Bool.{and_parts}
use Rattle.std.proofs.lemmas.Bool.Decides.{nat_tests}
use Rattle.std.proofs.lemmas.Option.{none-some, same_Some}
use Rattle.c_tree.specs.declared.object_type.ObjectType.{ObjectType}
use Rattle.c_tree.specs.declared.object_type.ObjectType.TheVariants as type
use Rattle.c_tree.specs.declared.object_type.Scalar as declared-scalar
use Rattle.c_tree.specs.Programs.{AutomaticTree, TypedFunctionTree, ProgramTree}
use Rattle.c_places.specs.Places.{Place, numbers_from, places_of_program, visible}
use Rattle.c_type_laws.specs.Laws.{IsWellFormed}
use Rattle.c_type_laws.specs.Objects.{is_kept_array}
use Rattle.graph_core.specs.Graphs.{Graph, Scalar, UnitForm}
use Rattle.graph_build_names.specs.declared.names.Home.TheVariants as home
use Rattle.graph_build_names.specs.Names.{Names, names_of, homes_from, homes_of, scalar_in, scalar_of}
use Rattle.graph_build.specs.Units.{add_if_some, scalars_among, variables_in, scalar_record, is_again, function_coding, graph_of, IsUnitOf}
use Rattle.graph_build_runs.proofs.OwnObjects.{taken_is, dropped_is}
use Rattle.graph_build_laws.proofs.Accepted.{facts_of}
use Rattle.graph_homes.specs.Owned.{IsPlaceOf}
use Rattle.image_truth_units.specs.Variables.{automatic_number}
use Rattle.image_truth_units.proofs.Tables.{all_at, map_at}
use Rattle.image_truth_units.proofs.ImageUnitsWhole.{of_graph}
use Rattle.image_truth_units.proofs.Scopes.{IsOf, SeesOwn, program_sees, visible_have}
use Rattle.image_truth_units.proofs.UnitFactsPlaces.{place_is}
use Rattle.base_laws.proofs.Numbers.{least}

-- A graph has a scalar for a variable of this number, and the variable is of a scalar type.
pub record HasScalar (g : Graph) (number : ℕ) (of : ObjectType) : Type 0 where
  pub index : ℕ
  pub scalar : Scalar
  pub is : slice_get g.scalars index ≡ Some scalar
  pub variable_is : scalar.variable ≡ number
  pub scalar_type : declared-scalar.Scalar
  pub of_is : of ≡ type.Scalar scalar_type

-- what is not in memory has a name
name_there : (list : List AutomaticTree) (scalars objects i : ℕ) (a : AutomaticTree) → slice_get list i ≡ Some a → a.in_memory ≡ false → (k : ℕ) × (slice_get (homes_from scalars objects list) i ≡ Some (home.Scalar k))
name_there [] scalars objects i a is outside = absurd (none-some a is)
name_there (b ∷ list) scalars objects i a is outside = by (λ s o j e. name_there list s o j a e outside) b.in_memory refl i is
  where
    by : ((s o j : ℕ) → slice_get list j ≡ Some a → (k : ℕ) × (slice_get (homes_from s o list) j ≡ Some (home.Scalar k))) → (m : Bool) → b.in_memory ≡ m → (i : ℕ) → slice_get (b ∷ list) i ≡ Some a
        → (k : ℕ) × (slice_get (if m then home.Object objects ∷ homes_from scalars (objects + 1) list else home.Scalar scalars ∷ homes_from (scalars + 1) objects list) i ≡ Some (home.Scalar k))
    by rest true e zero is = absurd (clash (sym e ∙ ap (λ (x : AutomaticTree). x.in_memory) (same_Some b a is) ∙ outside))
      where
        clash : true ≡ false → ⊥
        clash e = cc
    by rest true e (suc i) is = rest scalars (objects + 1) i is
    by rest false e zero is = (scalars, refl)
    by rest false e (suc i) is = rest (scalars + 1) objects i is

has_name : (p : ProgramTree) (f : TypedFunctionTree) (again : Bool) (x : ℕ) (a : AutomaticTree) → IsOf f x → slice_get p.automatics x ≡ Some a → a.in_memory ≡ false → (k : ℕ) × (scalar_of (names_of p f again) x ≡ Some k)
has_name p f again x a of is outside =
    let i = x - f.first_variable in
    let low = of.0 in
    let high = of.1 in
    let place : f.first_variable + (x - f.first_variable) ≡ x = omega (arith, low) in
    let within : x - f.first_variable < f.variables = omega (arith, low, high) in
    let found : slice_get (take f.variables (drop f.first_variable p.automatics)) i ≡ Some a = taken_is (drop f.first_variable p.automatics) f.variables i within ∙ sym (dropped_is p.automatics f.first_variable i) ∙ ap (slice_get p.automatics) place ∙ is in
    let h = name_there (take f.variables (drop f.first_variable p.automatics)) 0 0 i a found outside in
    (h.0, ap (λ b. scalar_in (if b then slice_get (homes_of p.automatics f.first_variable f.variables) (x - f.first_variable) else None)) (least f.first_variable x low) ∙ ap scalar_in h.1)

-- a variable that has a name is among the scalars
scalar_among : (n : Names) (base count x k : ℕ) → base ≤ x → x < base + count → scalar_of n x ≡ Some k → (i : ℕ) × (slice_get (scalars_among n (numbers_from base count)) i ≡ Some x)
scalar_among n base zero x k low high named = absurd (omega (arith, low, high))
scalar_among n base (suc count) x k low high named = by (scalar_of n base) refl (nat_le x base) refl (λ above. scalar_among n (base + 1) count x k above (omega (arith, high)) named)
  where
    same : nat_le x base ≡ true → x ≡ base
    same at = grind (arith, nat_tests, low)

    above : nat_le x base ≡ false → base + 1 ≤ x
    above at = grind (arith, nat_tests)

    by : (r : Option ℕ) → scalar_of n base ≡ r → (b : Bool) → nat_le x base ≡ b → (base + 1 ≤ x → (i : ℕ) × (slice_get (scalars_among n (numbers_from (base + 1) count)) i ≡ Some x))
        → (i : ℕ) × (slice_get (add_if_some r base (scalars_among n (numbers_from (base + 1) count))) i ≡ Some x)
    by None e true at later = absurd (none-some k (sym e ∙ ap (scalar_of n) (sym (same at)) ∙ named))
    by None e false at later = later (above at)
    by (Some j) e true at later = (0, ap (λ y. Some y) (sym (same at)))
    by (Some j) e false at later = let r = later (above at) in (suc r.0, r.1)

-- what is not in memory is no array
is_scalar : (m : Bool) (of : ObjectType) → is_kept_array m of ≡ true → m ≡ false → (s : declared-scalar.Scalar) × (of ≡ type.Scalar s)
is_scalar m (type.Scalar s) h outside = (s, refl)
is_scalar m (type.Array s count) h outside = absurd (clash (sym (and_parts (nat_le 1 count) m h).1 ∙ outside))
  where
    clash : true ≡ false → ⊥
    clash e = cc

module _ (p : ProgramTree) (formed : IsWellFormed p) (u : UnitForm) (is : IsUnitOf p u) where
  pub scalar_there : (tree : TypedFunctionTree) (b : Bool) (g : Graph) (x : ℕ) (v : AutomaticTree) → graph_of p tree b ≡ g → IsOf tree x → slice_get p.automatics x ≡ Some v → v.in_memory ≡ false → HasScalar g (automatic_number p x) v.of
  scalar_there tree b g x v same of declared outside =
      let n = names_of p tree (is_again p tree) in
      let name = has_name p tree (is_again p tree) x v of declared outside in
      let at = scalar_among n tree.first_variable tree.variables x name.0 of.0 of.1 name.1 in
      let entry = (function_coding p tree b).entry in
      let scalars = scalars_among n (variables_in tree) in
      let kind = is_scalar v.in_memory v.of ((facts_of p formed).arrays x v declared) outside in
      record {
        index = at.0;
        scalar = scalar_record p tree entry scalars x;
        is = ap (λ (y : Graph). slice_get y.scalars at.0) (sym same) ∙ map_at (scalar_record p tree entry scalars) scalars at.0 x at.1;
        variable_is = refl;
        scalar_type = kind.0;
        of_is = kind.1;
      }

  -- A variable that is visible at a place of a graph of the unit, and is not kept in memory, is one of its scalars, of a scalar type.
  pub has_scalars : (f i k x : ℕ) (g : Graph) (q : Place) (v : AutomaticTree) → slice_get u.graphs f ≡ Some g → slice_get (places_of_program p) i ≡ Some q → IsPlaceOf g (i + 1) → slice_get (visible p.automatics q.scope) k ≡ Some x → slice_get p.automatics x ≡ Some v → v.in_memory ≡ false
      → HasScalar g (automatic_number p x) v.of
  has_scalars f i k x g q v at place of seen declared outside =
      let t = of_graph p 0 p.functions f g (ap (λ l. slice_get l f) (sym is.graphs) ∙ at) in
      let own = all_at (SeesOwn 0 p.functions) (places_of_program p) i q (program_sees p formed) place in
      let here = place_is p formed u is f i g q at place of in
      let zeroth : 0 + own.index ≡ own.index = omega arith in
      let index : own.index ≡ f = sym zeroth ∙ sym own.function ∙ here in
      let tree : own.tree ≡ t.0 = same_Some own.tree t.0 (sym own.is ∙ ap (slice_get p.functions) index ∙ t.2) in
      let within = all_at (IsOf own.tree) (visible p.automatics q.scope) k x (visible_have (IsOf own.tree) p.automatics q.scope own.own) seen in
      scalar_there t.0 t.1 g x v t.3 (subst (λ (y : TypedFunctionTree). IsOf y x) tree within) declared outside
