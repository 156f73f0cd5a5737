-- The values of computations, and on what they depend.
use Rattle.std.proofs.Common.{◌≡◌, ℕ, ◌<◌, inl, inr, Bool, true, false, Some, List, [], ◌∷◌, ◌++◌, refl, sym, ap, ◌∙◌, subst}
use Rattle.std.specs.Prelude.{◌==◌, if◌then◌else◌}
use Rattle.std.specs.Option.{option_map_or}
use Rattle.std.specs.List.{list_any}
use Rattle.std.proofs.lemmas.Bool.{eq-eqb, or_parts}
use Rattle.std.proofs.lemmas.Bool.Decides.{eqb_tells}
use Rattle.std.proofs.lemmas.Option.{none-some, same_Some}
use Rattle.graph_core.specs.declared.value.Value.{Value}
use Rattle.graph_core.specs.declared.value.Value.TheVariants.{Number, Pointer, Odd}
use Rattle.graph_core.specs.Graphs.{Operand, Name, Constant, StaticAddress, Instruction, Marker, Note, Move, Operate, Truncate, Same, Address, Load, Store, Zero, CopyWords, Call, Graph, StaticObject, UnitForm}
use Rattle.graph_core.specs.Computations.{Computation, Operating, Truncating, Comparing, computed_by, operands_of}
use Rattle.graph_core.specs.Paths.{Among, front, behind, writes}
use Rattle.graph_core.specs.Uses.{names_of, target_of}
use Rattle.graph_core.specs.Validity.{IsOperand, IsInstruction}
use Rattle.graph_core.specs.Values.{operate, truncate, same}
use Rattle.graph_core.specs.Runs.{with_value_at, value}
use Rattle.motion_pass_points.specs.Computing.{spoils}
use Rattle.graph_core.proofs.Among.{among_left, among_right}

-- the value of a computation, where these objects live
abbrev pub computed : List StaticObject → (live : ℕ → Bool) → (names : ℕ → Value) → Computation → Value
computed statics live names (Operating o a b) = operate o (value statics names a) (value statics names b)
computed statics live names (Truncating t a) = truncate t (value statics names a)
computed statics live names (Comparing a b) = same live (value statics names a) (value statics names b)

-- Two numbers that can't differ are one.
number_stable : (a b : ℕ) → ((a ≡ b → ⊥) → ⊥) → a ≡ b
number_stable a b not = elim (eqb_tells a b) [ inl t ↦ t.1 | inr t ↦ absurd (not t.1) ]

-- so it is with values
pub value_stable : (v w : Value) → ((v ≡ w → ⊥) → ⊥) → v ≡ w
value_stable (Number a) (Number b) not = ap Number (number_stable a b (λ other. not (λ q. other cc)))
value_stable (Number a) (Pointer object size offset) not = absurd (not (λ q. cc))
value_stable (Number a) Odd not = absurd (not (λ q. cc))
value_stable (Pointer object size offset) (Number b) not = absurd (not (λ q. cc))
value_stable (Pointer object size offset) (Pointer o s f) not =
    let one : object ≡ o = number_stable object o (λ other. not (λ q. other cc)) in
    let two : size ≡ s = number_stable size s (λ other. not (λ q. other cc)) in
    let three : offset ≡ f = number_stable offset f (λ other. not (λ q. other cc)) in
    (λ i. Pointer (one i) (two i) (three i))
value_stable (Pointer object size offset) Odd not = absurd (not (λ q. cc))
value_stable Odd (Number b) not = absurd (not (λ q. cc))
value_stable Odd (Pointer object size offset) not = absurd (not (λ q. cc))
value_stable Odd Odd not = refl

module _ (statics : List StaticObject) (names others : ℕ → Value) where
  -- these names have one value in both
  abbrev pub AgreeOn : List ℕ → Type 0
  AgreeOn xs = (x : ℕ) → Among x xs → others x ≡ names x

  -- an operand has one value where the name that it reads has
  operand_same : (a : Operand) → AgreeOn (names_of a) → value statics others a ≡ value statics names a
  operand_same (Name x) agree = agree x front
  operand_same (Constant w) agree = refl
  operand_same (StaticAddress object offset) agree = refl

  -- what is made of two operands is the same then
  two_same : (f : Value → Value → Value) (a b : Operand) → AgreeOn (names_of a ++ names_of b) → f (value statics others a) (value statics others b) ≡ f (value statics names a) (value statics names b)
  two_same f a b agree =
      ap (λ v. f v (value statics others b)) (operand_same a (λ x among. agree x (among_left x (names_of a) (names_of b) among)))
      ∙ ap (f (value statics names a)) (operand_same b (λ x among. agree x (among_right x (names_of a) (names_of b) among)))

  -- A computation has one value where its operands have.
  pub computed_same : (live : ℕ → Bool) (e : Computation) → AgreeOn (operands_of e) → computed statics live others e ≡ computed statics live names e
  computed_same live (Operating o a b) agree = two_same (operate o) a b agree
  computed_same live (Truncating t a) agree = ap (truncate t) (operand_same a agree)
  computed_same live (Comparing a b) agree = two_same (same live) a b agree

-- what no test of a list finds
none_found : (f : ℕ → Bool) (xs : List ℕ) → list_any f xs ≡ false → (x : ℕ) → Among x xs → f x ≡ false
none_found f [] none x among = elim among [ ]
none_found f (y ∷ xs) none _ front = (or_parts (f y) (list_any f xs) none).0
none_found f (y ∷ xs) none x (behind later) = none_found f xs (or_parts (f y) (list_any f xs) none).1 x later

-- a name that is not written keeps its value
pub put_other : (names : ℕ → Value) (z : ℕ) (w : Value) (x : ℕ) → (z ≡ x → ⊥) → with_value_at names z w x ≡ names x
put_other names z w x other = elim (eqb_tells x z) [ inl t ↦ absurd (other (sym t.1)) | inr t ↦ ap (λ b. if b then w else names x) t.0 ]

-- a name that is written has the value
pub put_same : (names : ℕ → Value) (z : ℕ) (w : Value) → with_value_at names z w z ≡ w
put_same names z w = ap (λ b. if b then w else names z) (eq-eqb z z refl)

-- A computation keeps its value where an instruction writes no operand of it.
pub computed_kept : (statics : List StaticObject) (live : ℕ → Bool) (names : ℕ → Value) (e : Computation) (i : Instruction) (z : ℕ) (w : Value) → target_of i ≡ Some z → spoils e i ≡ false
    → computed statics live (with_value_at names z w) e ≡ computed statics live names e
computed_kept statics live names e i z w target unspoiled = computed_same statics names (with_value_at names z w) live e (λ x among. put_other names z w x (unlike x among))
  where
    unlike : (x : ℕ) → Among x (operands_of e) → z ≡ x → ⊥
    unlike x among same =
        let no : (z == x) ≡ false = sym (ap (λ t. option_map_or (λ y. y == x) t false) target) ∙ none_found (λ y. writes y i) (operands_of e) unspoiled x among in
        differs (sym (eq-eqb z x same) ∙ no)
      where
        differs : true ≡ false → ⊥
        differs q = cc

module _ (u : UnitForm) (g : Graph) where
  -- The operands of a computation are names of the graph.
  abbrev pub AreOwn : Computation → Type 0
  AreOwn e = (x : ℕ) → Among x (operands_of e) → x < g.name_count

  -- the name of a valid operand is one of the graph
  own_operand : (a : Operand) → IsOperand u.statics g a → (x : ℕ) → Among x (names_of a) → x < g.name_count
  own_operand (Name y) is _ front = is
  own_operand (Name y) is x (behind later) = elim later [ ]
  own_operand (Constant w) is x among = elim among [ ]
  own_operand (StaticAddress object offset) is x among = elim among [ ]

  -- so are those of two
  own_two : (a b : Operand) → IsOperand u.statics g a → IsOperand u.statics g b → (x : ℕ) → Among x (names_of a ++ names_of b) → x < g.name_count
  own_two (Name y) b one other _ front = one
  own_two (Name y) b one other x (behind later) = own_operand b other x later
  own_two (Constant w) b one other x among = own_operand b other x among
  own_two (StaticAddress object offset) b one other x among = own_operand b other x among

  -- So it is where a valid instruction does it.
  pub own_computed : (i : Instruction) → IsInstruction u g i → (e : Computation) → computed_by i ≡ Some e → AreOwn e
  own_computed (Operate z o a b) is e q = subst AreOwn (same_Some (Operating o a b) e q) (own_two a b is.1 is.2)
  own_computed (Truncate z t a) is e q = subst AreOwn (same_Some (Truncating t a) e q) (own_operand a is.1)
  own_computed (Same z a b) is e q = subst AreOwn (same_Some (Comparing a b) e q) (own_two a b is.1 is.2)
  own_computed (Marker p) is e q = absurd (none-some e q)
  own_computed (Note z v) is e q = absurd (none-some e q)
  own_computed (Move z a) is e q = absurd (none-some e q)
  own_computed (Address z object) is e q = absurd (none-some e q)
  own_computed (Load z k l) is e q = absurd (none-some e q)
  own_computed (Store k l a) is e q = absurd (none-some e q)
  own_computed (Zero object words) is e q = absurd (none-some e q)
  own_computed (CopyWords object bytes words) is e q = absurd (none-some e q)
  own_computed (Call z f all) is e q = absurd (none-some e q)
