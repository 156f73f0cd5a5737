-- What operands, locations and recipes are worth where names have these values, or others that are the same for what is read.
use Rattle.std.proofs.Common.{◌≡◌, ℕ, Bool, true, false, true≢false, Option, Some, None, refl, sym, ap, ◌∙◌, List, [], ◌∷◌, ◌++◌, map}
use Rattle.std.specs.Option.{option_map_or}
use Rattle.std.specs.Prelude.{◌==◌, if◌then◌else◌}
use Rattle.std.proofs.lemmas.Bool.{eq-eqb, eqb-true, ne_eqb}
use Rattle.graph_core.specs.declared.value.Value.{Value}
use Rattle.graph_core.specs.Graphs.{Operand, Name, Constant, StaticAddress, Recipe, Of, Truncated, Operated, Location, Automatic, Static, At, StaticObject, Instruction}
use Rattle.graph_core.specs.Uses.{target_of, names_of, names_of_all, names_of_location, names_in}
use Rattle.graph_core.specs.Paths.{Among, front, writes}
use Rattle.graph_core.specs.Values.{operate, truncate}
use Rattle.graph_core.specs.Memory.{Memory}
use Rattle.graph_core.specs.Histories.{name_by}
use Rattle.graph_core.specs.Runs.{Activation, value, recipe_value, pointed}
use Rattle.dead_pass_laws.proofs.Lists.{among_left, among_right}

-- Two values for each name agree on these names.
abbrev pub AgreeOn : (names others : ℕ → Value) → List ℕ → Type 0
AgreeOn names others xs = (x : ℕ) → Among x xs → others x ≡ names x

-- So they do on the first of them, and on the rest.
pub agree_left : (names others : ℕ → Value) (xs ys : List ℕ) → AgreeOn names others (xs ++ ys) → AgreeOn names others xs
agree_left names others xs ys agree x among = agree x (among_left x xs ys among)

-- and on the rest
pub agree_right : (names others : ℕ → Value) (xs ys : List ℕ) → AgreeOn names others (xs ++ ys) → AgreeOn names others ys
agree_right names others xs ys agree x among = agree x (among_right x xs ys among)

module _ (statics : List StaticObject) (names others : ℕ → Value) where
  -- an operand
  pub value_same : (a : Operand) → AgreeOn names others (names_of a) → value statics others a ≡ value statics names a
  value_same (Name x) agree = agree x front
  value_same (Constant w) agree = refl
  value_same (StaticAddress object offset) agree = refl

  -- several operands
  pub values_same : (all : List Operand) → AgreeOn names others (names_of_all all) → map (value statics others) all ≡ map (value statics names) all
  values_same [] agree = refl
  values_same (a ∷ more) agree =
      ap (λ v. v ∷ map (value statics others) more) (value_same a (agree_left names others (names_of a) (names_of_all more) agree))
      ∙ ap (λ vs. value statics names a ∷ vs) (values_same more (agree_right names others (names_of a) (names_of_all more) agree))

  -- what is made of two operands
  pub two_same : {A : Type 0} (f : Value → Value → A) (a b : Operand) → AgreeOn names others (names_of a ++ names_of b) → f (value statics others a) (value statics others b) ≡ f (value statics names a) (value statics names b)
  two_same f a b agree =
      ap (λ w. f w (value statics others b)) (value_same a (agree_left names others (names_of a) (names_of b) agree))
      ∙ ap (f (value statics names a)) (value_same b (agree_right names others (names_of a) (names_of b) agree))

  -- a recipe
  pub recipe_same : (r : Recipe) → AgreeOn names others (names_in r) → recipe_value statics others r ≡ recipe_value statics names r
  recipe_same (Of a) agree = value_same a agree
  recipe_same (Truncated t r) agree = ap (truncate t) (recipe_same r agree)
  recipe_same (Operated o r s) agree =
      ap (λ w. operate o w (recipe_value statics others s)) (recipe_same r (agree_left names others (names_in r) (names_in s) agree))
      ∙ ap (operate o (recipe_value statics names r)) (recipe_same s (agree_right names others (names_in r) (names_in s) agree))

-- What a location points to, in two activations of the same objects.
pub pointed_same : (statics : List StaticObject) (memory : Memory) (a b : Activation) → b.first_object ≡ a.first_object → (l : Location) → AgreeOn a.names b.names (names_of_location l) → pointed statics memory b l ≡ pointed statics memory a l
pointed_same statics memory a b first (Automatic object offset) agree = ap (λ n. pointed statics memory (record a { first_object = n }) (Automatic object offset)) first
pointed_same statics memory a b first (Static object) agree = refl
pointed_same statics memory a b first (At o) agree = value_same statics a.names b.names o agree

-- ---- Names behind one instruction

-- A name that is not written keeps its value.
pub name_kept : (t : Option ℕ) (v : Value) (names : ℕ → Value) (x : ℕ) → (t ≡ Some x → ⊥) → name_by t v names x ≡ names x
name_kept None v names x other = refl
name_kept (Some z) v names x other = ap (λ b. if b then v else names x) (ne_eqb x z (λ e. other (ap (λ n. Some n) (sym e))))

-- One that is written has what was written.
pub name_taken : (t : Option ℕ) (v : Value) (names : ℕ → Value) (x : ℕ) → t ≡ Some x → name_by t v names x ≡ v
name_taken t v names x target = ap (λ o. name_by o v names x) target ∙ ap (λ b. if b then v else names x) (eq-eqb x x refl)

-- whether the name that is written, if one is, is this one
abbrev is_this : (x : ℕ) → Option ℕ → Bool
is_this x t = option_map_or (λ y. y == x) t false

-- if it is, it is the one that is written
this_is : (x : ℕ) (t : Option ℕ) → is_this x t ≡ true → t ≡ Some x
this_is x None e = absurd (true≢false (sym e))
this_is x (Some y) e = ap (λ z. Some z) (eqb-true y x e)

-- An instruction writes a name where it is its target, and no other.
pub writes_target : (x : ℕ) (i : Instruction) → target_of i ≡ Some x → writes x i ≡ true
writes_target x i target = ap (is_this x) target ∙ eq-eqb x x refl

-- what it writes is its target
pub target_written : (x : ℕ) (i : Instruction) → writes x i ≡ true → target_of i ≡ Some x
target_written x i e = this_is x (target_of i) e

-- and what it does not write is not
pub unwritten_other : (x : ℕ) (i : Instruction) → writes x i ≡ false → target_of i ≡ Some x → ⊥
unwritten_other x i e target = true≢false (sym (writes_target x i target) ∙ e)
