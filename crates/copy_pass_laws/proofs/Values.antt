-- Operands and locations have one value before and after, where each name has the value of what it is read as.
use Rattle.std.proofs.Common.{◌≡◌, ℕ, refl, ap, ◌∙◌, List, [], ◌∷◌, map}
use Rattle.graph_core.specs.declared.value.Value.{Value}
use Rattle.graph_core.specs.Graphs.{Operand, Name, Constant, StaticAddress, Location, Automatic, Static, At, StaticObject}
use Rattle.graph_core.specs.Uses.{names_of, names_of_all, names_of_location}
use Rattle.graph_core.specs.Paths.{Among, front}
use Rattle.graph_core.specs.Memory.{Memory}
use Rattle.graph_core.specs.Runs.{Activation, value, pointed}
use Rattle.copy_pass_rule.specs.Copying.{reading_operand, reading_all, reading_at}
use Rattle.copy_pass_laws.proofs.Lists.{among_left, among_right}

module _ (statics : List StaticObject) (read_as : ℕ → ℕ) where
  module _ (names : ℕ → Value) where
    -- an operand
    pub value_same : (a : Operand) → ((x : ℕ) → Among x (names_of a) → names (read_as x) ≡ names x) → value statics names (reading_operand read_as a) ≡ value statics names a
    value_same (Name x) same = same x front
    value_same (Constant w) same = refl
    value_same (StaticAddress object offset) same = refl

    -- several operands
    pub values_same : (all : List Operand) → ((x : ℕ) → Among x (names_of_all all) → names (read_as x) ≡ names x) → map (value statics names) (reading_all read_as all) ≡ map (value statics names) all
    values_same [] same = refl
    values_same (a ∷ more) same =
        ap (λ v. v ∷ map (value statics names) (reading_all read_as more)) (value_same a (λ x among. same x (among_left x (names_of a) (names_of_all more) among)))
        ∙ ap (λ vs. value statics names a ∷ vs) (values_same more (λ x among. same x (among_right x (names_of a) (names_of_all more) among)))

  -- What a location points to, in two activations that have the same names and the same objects.
  pub pointed_same : (memory : Memory) (a b : Activation) → b.first_object ≡ a.first_object → b.names ≡ a.names → (l : Location) → ((x : ℕ) → Among x (names_of_location l) → a.names (read_as x) ≡ a.names x)
      → pointed statics memory b (reading_at read_as l) ≡ pointed statics memory a l
  pointed_same memory a b first names (Automatic object offset) same = ap (λ n. pointed statics memory (record a { first_object = n }) (Automatic object offset)) first
  pointed_same memory a b first names (Static object) same = refl
  pointed_same memory a b first names (At o) same = ap (λ ns. value statics ns (reading_operand read_as o)) names ∙ value_same a.names o same
