-- Operands, locations and recipes have one value by names and by homes, where the homes of their names hold the values of these.
use Rattle.std.proofs.Common.{◌≡◌, ℕ, ◌+◌, refl, ap, ◌∙◌, List, [], ◌∷◌, map}
use Rattle.graph_homes.specs.declared.home.Home.{Home}
use Rattle.graph_core.specs.declared.value.Value.{Value}
use Rattle.graph_core.specs.Graphs.{Operand, Name, Constant, StaticAddress, Recipe, Of, Truncated, Operated, Location, Automatic, Static, At, Binding, ToScalar, ToObject, StaticObject}
use Rattle.graph_core.specs.Uses.{names_of, names_of_all, names_of_location, names_in}
use Rattle.graph_core.specs.Paths.{Among, front}
use Rattle.graph_core.specs.Values.{operate, truncate}
use Rattle.graph_core.specs.Memory.{Memory}
use Rattle.graph_core.specs.Runs.{Activation, value, recipe_value, pointed, bind_objects, set_first}
use Rattle.graph_homes.specs.Homed.{placed, placed_operand, placed_location, placed_binding}
use Rattle.home_assign.proofs.Lists.{among_left, among_right}

module _ (statics : List StaticObject) where
  -- A recipe has one value by two functions that are one on its names.
  pub operand_same : (a : Operand) (names others : ℕ → Value) → ((x : ℕ) → Among x (names_of a) → others x ≡ names x) → value statics others a ≡ value statics names a
  operand_same (Name x) names others same = same x front
  operand_same (Constant w) names others same = refl
  operand_same (StaticAddress object offset) names others same = refl

  pub recipe_same : (r : Recipe) (names others : ℕ → Value) → ((x : ℕ) → Among x (names_in r) → others x ≡ names x) → recipe_value statics others r ≡ recipe_value statics names r
  recipe_same (Of a) names others same = operand_same a names others same
  recipe_same (Truncated t r) names others same = ap (truncate t) (recipe_same r names others same)
  recipe_same (Operated o r s) names others same =
      ap (λ v. operate o v (recipe_value statics others s)) (recipe_same r names others (λ x among. same x (among_left x (names_in r) (names_in s) among)))
      ∙ ap (λ v. operate o (recipe_value statics names r) v) (recipe_same s names others (λ x among. same x (among_right x (names_in r) (names_in s) among)))

  module _ (home : ℕ → Home) (names held : ℕ → Value) where
    pub value_placed : (a : Operand) → ((x : ℕ) → Among x (names_of a) → held (placed home x) ≡ names x) → value statics held (placed_operand home a) ≡ value statics names a
    value_placed (Name x) same = same x front
    value_placed (Constant w) same = refl
    value_placed (StaticAddress object offset) same = refl

    pub values_placed : (all : List Operand) → ((x : ℕ) → Among x (names_of_all all) → held (placed home x) ≡ names x) → map (value statics held) (map (placed_operand home) all) ≡ map (value statics names) all
    values_placed [] same = refl
    values_placed (a ∷ more) same =
        ap (λ v. v ∷ map (value statics held) (map (placed_operand home) more)) (value_placed a (λ x among. same x (among_left x (names_of a) (names_of_all more) among)))
        ∙ ap (λ vs. value statics names a ∷ vs) (values_placed more (λ x among. same x (among_right x (names_of a) (names_of_all more) among)))

  -- What a location points to, in two activations whose objects are the same.
  pub pointed_placed : (home : ℕ → Home) (memory : Memory) (a b : Activation) → b.first_object ≡ a.first_object → (l : Location) → ((x : ℕ) → Among x (names_of_location l) → b.names (placed home x) ≡ a.names x)
      → pointed statics memory b (placed_location home l) ≡ pointed statics memory a l
  pointed_placed home memory a b first (Automatic object offset) same = ap (λ n. pointed statics memory (record a { first_object = n }) (Automatic object offset)) first
  pointed_placed home memory a b first (Static object) same = refl
  pointed_placed home memory a b first (At o) same = value_placed home a.names b.names o same

-- The memory in which arguments are bound to objects.
pub objects_placed : (home : ℕ → Home) (first : ℕ) (ps : List Binding) (vs : List Value) (memory : Memory) → bind_objects first (map (placed_binding home) ps) vs memory ≡ bind_objects first ps vs memory
objects_placed home first [] vs memory = refl
objects_placed home first (b ∷ more) [] memory = refl
objects_placed home first (ToScalar x ∷ more) (v ∷ vs) memory = objects_placed home first more vs memory
objects_placed home first (ToObject object ∷ more) (v ∷ vs) memory = objects_placed home first more vs (set_first (first + object) v memory)
