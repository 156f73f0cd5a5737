-- What a valid instruction reads has one value before and after, where names of its graph have.
use Rattle.std.proofs.Common.{◌≡◌, ℕ, ◌<◌, List, [], ◌∷◌, map, refl, ap, ◌∙◌, Some}
use Rattle.std.specs.List.{AllByRecursion}
use Rattle.std.proofs.lemmas.Option.{none-some, same_Some}
use Rattle.graph_core.specs.declared.value.Value.{Value}
use Rattle.graph_core.specs.Graphs.{Operand, Name, Constant, StaticAddress, Recipe, Of, Truncated, Operated, Location, Automatic, Static, At, Instruction, Marker, Note, Move, Operate, Truncate, Same, Address, Load, Store, Zero, CopyWords, Call, Graph, StaticObject, UnitForm}
use Rattle.graph_core.specs.Computations.{Computation, Operating, Truncating, Comparing, computed_by}
use Rattle.graph_core.specs.Uses.{target_of}
use Rattle.graph_core.specs.Memory.{Memory, is_live}
use Rattle.graph_core.specs.Validity.{IsOperand, AreOperandsOf, IsLocation}
use Rattle.graph_core.specs.Values.{operate, truncate}
use Rattle.graph_core.specs.Runs.{Activation, Configuration, value, recipe_value, pointed, wrote, execute}
use Rattle.motion_pass_laws.proofs.Values.{computed}

module _ (statics : List StaticObject) (g : Graph) where
  module _ (names others : ℕ → Value) (agree : (x : ℕ) → x < g.name_count → others x ≡ names x) where
    -- an operand
    pub value_same : (a : Operand) → IsOperand statics g a → value statics others a ≡ value statics names a
    value_same (Name x) is = agree x is
    value_same (Constant w) is = refl
    value_same (StaticAddress object offset) is = refl

    -- what is made of two
    pub two_same : {A : Type 0} (f : Value → Value → A) (a b : Operand) → IsOperand statics g a → IsOperand statics g b → f (value statics others a) (value statics others b) ≡ f (value statics names a) (value statics names b)
    two_same f a b one other = ap (λ w. f w (value statics others b)) (value_same a one) ∙ ap (f (value statics names a)) (value_same b other)

    -- several operands
    pub values_same : (all : List Operand) → AllByRecursion (IsOperand statics g) all → map (value statics others) all ≡ map (value statics names) all
    values_same [] is = refl
    values_same (a ∷ more) is = ap (λ w. w ∷ map (value statics others) more) (value_same a is.0) ∙ ap (λ ws. value statics names a ∷ ws) (values_same more is.1)

    -- a recipe
    pub recipe_same : (r : Recipe) → AreOperandsOf statics g r → recipe_value statics others r ≡ recipe_value statics names r
    recipe_same (Of a) is = value_same a is
    recipe_same (Truncated t r) is = ap (truncate t) (recipe_same r is)
    recipe_same (Operated o r s) is = ap (λ w. operate o w (recipe_value statics others s)) (recipe_same r is.0) ∙ ap (operate o (recipe_value statics names r)) (recipe_same s is.1)

  -- what a location points to, in two activations with the same objects
  pub pointed_same : (memory : Memory) (a b : Activation) → b.first_object ≡ a.first_object → ((x : ℕ) → x < g.name_count → b.names x ≡ a.names x) → (l : Location) → IsLocation statics g l
      → pointed statics memory b l ≡ pointed statics memory a l
  pointed_same memory a b first agree (Automatic object offset) is = ap (λ n. pointed statics memory (record a { first_object = n }) (Automatic object offset)) first
  pointed_same memory a b first agree (Static object) is = refl
  pointed_same memory a b first agree (At o) is = value_same a.names b.names agree o is

-- one computation is another, and one target
wrote_same : (u : UnitForm) (c : Configuration) (d e : Computation) (z x : ℕ) → d ≡ e → z ≡ x → wrote c z (computed u.statics (is_live c.memory) c.here.names d) ≡ wrote c x (computed u.statics (is_live c.memory) c.here.names e)
wrote_same u c d e z x one other = ap (λ k. wrote c z (computed u.statics (is_live c.memory) c.here.names k)) one ∙ ap (λ y. wrote c y (computed u.statics (is_live c.memory) c.here.names e)) other

-- An instruction that does a computation writes its value.
pub computes : (u : UnitForm) (c : Configuration) (i : Instruction) (e : Computation) (x : ℕ) → computed_by i ≡ Some e → target_of i ≡ Some x → execute u i c ≡ wrote c x (computed u.statics (is_live c.memory) c.here.names e)
computes u c (Operate z o a b) e x does target = wrote_same u c (Operating o a b) e z x (same_Some (Operating o a b) e does) (same_Some z x target)
computes u c (Truncate z t a) e x does target = wrote_same u c (Truncating t a) e z x (same_Some (Truncating t a) e does) (same_Some z x target)
computes u c (Same z a b) e x does target = wrote_same u c (Comparing a b) e z x (same_Some (Comparing a b) e does) (same_Some z x target)
computes u c (Marker p) e x does target = absurd (none-some e does)
computes u c (Note z n) e x does target = absurd (none-some e does)
computes u c (Move z a) e x does target = absurd (none-some e does)
computes u c (Address z object) e x does target = absurd (none-some e does)
computes u c (Load z k l) e x does target = absurd (none-some e does)
computes u c (Store k l a) e x does target = absurd (none-some e does)
computes u c (Zero object words) e x does target = absurd (none-some e does)
computes u c (CopyWords object bytes words) e x does target = absurd (none-some e does)
computes u c (Call z f all) e x does target = absurd (none-some e does)
