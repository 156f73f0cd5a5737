-- The unit of a well-formed program has the program's variables.
use Rattle.std.proofs.Common.{◌≡◌, ℕ, zero, suc, ◌+◌, ◌-◌, ◌*◌, ◌<◌, ◌≤◌, ⊎_elim, Bool, true, false, Option, Some, List, [], ◌∷◌, ◌++◌, length, map, slice_get, refl, sym, ap, ◌∙◌, arith}
use Rattle.std.specs.Prelude.{◌==◌}
use Rattle.std.specs.Option.{option_map_or}
use Rattle.std.proofs.lemmas.Bool.{cases_lt}
use Rattle.std.proofs.lemmas.Bool.Decides.{nat_tests}
use Rattle.std.proofs.lemmas.List.{length-map, length-append}
use Rattle.std.proofs.lemmas.Option.{none-some, same_Some}
use Rattle.c_tree.specs.declared.types.IntegerType.{IntegerType}
use Rattle.c_tree.specs.declared.types.IntegerType.TheVariants.{Char, SignedChar, UnsignedChar, Short, UnsignedShort, Int, UnsignedInt, Long, UnsignedLong}
use Rattle.c_tree.specs.declared.object_type.ObjectType.{ObjectType}
use Rattle.c_tree.specs.declared.object_type.ObjectType.TheVariants as of-object
use Rattle.c_tree.specs.Programs.{AutomaticTree, TypedFunctionTree, ProgramTree}
use Rattle.c_type_laws.specs.Laws.{follow}
use Rattle.c_meaning_values.specs.Types as c
use Rattle.c_meaning_values.specs.Types.{scalar_size, size_by_stars}
use Rattle.graph_core.specs.declared.graph.MemoryObject.{MemoryObject}
use Rattle.graph_core.specs.Graphs.{Graph, Scalar, UnitForm}
use Rattle.graph_core.specs.Memory.{static_bytes}
use Rattle.graph_core.specs.Values.{size_of}
use Rattle.graph_build_names.specs.Names.{names_of, scalar_of, object_of}
use Rattle.graph_build_steps.specs.Rules as rule
use Rattle.graph_build.specs.Units.{object_element, object_count, scalars_among, kept_among, variables_in, scalar_record, memory_object, is_again, function_coding, graph_of, graphs_from, static_of, literal_of, IsUnitOf}
use Rattle.image_build_tables.specs.Variables.{owned_from}
use Rattle.image_truth_units.specs.Units.{IsVariableOf, HasVariablesIn}
use Rattle.image_truth_units.specs.Variables.{automatic_number}
use Rattle.image_truth_units.proofs.Areas.{there}
use Rattle.image_truth_units.proofs.Tables.{from_map, map_at, front_at, behind_at}
use Rattle.image_truth_units.proofs.Owners.{owned_there}
use Rattle.image_truth_units.proofs.Picked.{picked, scalars_picked, kept_picked, IsPicked, picked_at, picked_ascend, not_both}

-- ---- Sizes

-- a unit's element has the size of the scalar type that it is of
element_size : (base : IntegerType) (stars : ℕ) → size_of (rule.element_of (record { base = base; stars = stars })) ≡ size_by_stars base stars
element_size Char zero = refl
element_size SignedChar zero = refl
element_size UnsignedChar zero = refl
element_size Short zero = refl
element_size UnsignedShort zero = refl
element_size Int zero = refl
element_size UnsignedInt zero = refl
element_size Long zero = refl
element_size UnsignedLong zero = refl
element_size Char (suc k) = let some : (suc k == 0) ≡ false = grind (arith, nat_tests) in rw some refl
element_size SignedChar (suc k) = let some : (suc k == 0) ≡ false = grind (arith, nat_tests) in rw some refl
element_size UnsignedChar (suc k) = let some : (suc k == 0) ≡ false = grind (arith, nat_tests) in rw some refl
element_size Short (suc k) = let some : (suc k == 0) ≡ false = grind (arith, nat_tests) in rw some refl
element_size UnsignedShort (suc k) = let some : (suc k == 0) ≡ false = grind (arith, nat_tests) in rw some refl
element_size Int (suc k) = let some : (suc k == 0) ≡ false = grind (arith, nat_tests) in rw some refl
element_size UnsignedInt (suc k) = let some : (suc k == 0) ≡ false = grind (arith, nat_tests) in rw some refl
element_size Long (suc k) = let some : (suc k == 0) ≡ false = grind (arith, nat_tests) in rw some refl
element_size UnsignedLong (suc k) = let some : (suc k == 0) ≡ false = grind (arith, nat_tests) in rw some refl

type_size : (of : ObjectType) → object_count of * size_of (object_element of) ≡ c.value_count of * scalar_size (c.element_scalar of)
type_size (of-object.Scalar s) = ap (λ k. 1 * k) (element_size s.base s.stars)
type_size (of-object.Array s count) = ap (λ k. count * k) (element_size s.base s.stars)

-- ---- Graphs

pub of_graph : (p : ProgramTree) (number : ℕ) (all : List TypedFunctionTree) (k : ℕ) (g : Graph) → slice_get (graphs_from p number all) k ≡ Some g → (f : TypedFunctionTree) × (b : Bool) × (slice_get all k ≡ Some f) × (graph_of p f b ≡ g)
of_graph p number [] k g is = absurd (none-some g is)
of_graph p number (f ∷ more) zero g is = (f, number == p.main, refl, same_Some (graph_of p f (number == p.main)) g is)
of_graph p number (f ∷ more) (suc k) g is = of_graph p (number + 1) more k g is

module _ (p : ProgramTree) (u : UnitForm) (is : IsUnitOf p u) (formed : follow 0 (length p.automatics) p.functions ≡ true) where
  -- a variable that is picked of those of a function
  variable_of_function : (f : ℕ) (tree : TypedFunctionTree) (of : ℕ → Option ℕ) (x number : ℕ) → slice_get p.functions f ≡ Some tree → IsPicked of tree.first_variable tree.variables x → number ≡ automatic_number p x → IsVariableOf p f number
  variable_of_function f tree of x number at one same =
      let owned = owned_there 0 0 (length p.automatics) p.functions f tree x formed at one.low one.high in
      let a = there p.automatics x owned.1 in
      let index : x - 0 ≡ x = omega arith in
      let function : 0 + f ≡ f = omega arith in
      record { variable = x; tree = a.0; is = a.1; number_is = same; owner = ap (slice_get (owned_from 0 p.functions)) (sym index) ∙ owned.0 ∙ ap (λ n. Some (Some n)) function }

  -- the object of a graph
  record IsObject (f k : ℕ) (o : MemoryObject) : Type 0 where
    pub tree : TypedFunctionTree
    pub tree_is : slice_get p.functions f ≡ Some tree
    pub x : ℕ
    pub there_is : slice_get (picked (object_of (names_of p tree (is_again p tree))) (variables_in tree)) k ≡ Some x
    pub object : memory_object p x ≡ o

  object_is : (f k : ℕ) (g : Graph) (o : MemoryObject) → slice_get u.graphs f ≡ Some g → slice_get g.objects k ≡ Some o → IsObject f k o
  object_is f k g o at has =
      let t = of_graph p 0 p.functions f g (ap (λ l. slice_get l f) (sym is.graphs) ∙ at) in
      let x = from_map (memory_object p) (kept_among (names_of p t.0 (is_again p t.0)) (variables_in t.0)) k o (ap (λ (y : Graph). slice_get y.objects k) t.3 ∙ has) in
      record { tree = t.0; tree_is = t.2; x = x.0; there_is = ap (λ l. slice_get l k) (sym (kept_picked (names_of p t.0 (is_again p t.0)) (variables_in t.0))) ∙ x.1; object = x.2 }

  record IsScalar (f k : ℕ) (s : Scalar) : Type 0 where
    pub tree : TypedFunctionTree
    pub tree_is : slice_get p.functions f ≡ Some tree
    pub x : ℕ
    pub there_is : slice_get (picked (scalar_of (names_of p tree (is_again p tree))) (variables_in tree)) k ≡ Some x
    pub variable : s.variable ≡ automatic_number p x

  scalar_is : (f k : ℕ) (g : Graph) (s : Scalar) → slice_get u.graphs f ≡ Some g → slice_get g.scalars k ≡ Some s → IsScalar f k s
  scalar_is f k g s at has =
      let t = of_graph p 0 p.functions f g (ap (λ l. slice_get l f) (sym is.graphs) ∙ at) in
      let n = names_of p t.0 (is_again p t.0) in
      let x = from_map (scalar_record p t.0 (function_coding p t.0 t.1).entry (scalars_among n (variables_in t.0))) (scalars_among n (variables_in t.0)) k s (ap (λ (y : Graph). slice_get y.scalars k) t.3 ∙ has) in
      record { tree = t.0; tree_is = t.2; x = x.0; there_is = ap (λ l. slice_get l k) (sym (scalars_picked n (variables_in t.0))) ∙ x.1; variable = ap (λ (y : Scalar). y.variable) (sym x.2) }

  object_number : (f k : ℕ) (o : MemoryObject) (of : IsObject f k o) → o.var.0 ≡ automatic_number p of.x
  object_number f k o of = ap (λ (y : MemoryObject). y.var.0) (sym of.object)

  -- two that are picked at two places differ
  once : (f j k : ℕ) (of : ℕ → Option ℕ) (tree : TypedFunctionTree) (x y : ℕ) → slice_get (picked of (variables_in tree)) j ≡ Some x → slice_get (picked of (variables_in tree)) k ≡ Some y → x ≡ y → j ≡ k
  once f j k of tree x y one two same =
      ⊎_elim (λ (lt : j < k). absurd (let less = picked_ascend of tree.first_variable tree.variables j k x y lt one two in omega (arith, less, same)))
      (λ (ge : k ≤ j). ⊎_elim (λ (lt : k < j). absurd (let less = picked_ascend of tree.first_variable tree.variables k j y x lt two one in omega (arith, less, same))) (λ (le : j ≤ k). omega (arith, ge, le)) (cases_lt k j))
      (cases_lt j k)

  -- The unit has the program's variables.
  pub has_variables : HasVariablesIn p u
  has_variables = record {
    statics =
        (let all = ap length is.statics in let both = length-append (map (static_of p) p.statics) (map literal_of p.literals) in let a = length-map p.statics (static_of p) in let b = length-map p.literals literal_of in
        omega (arith, all, both, a, b));
    static_size = λ n t o at has.
        let same : static_of p t ≡ o = same_Some (static_of p t) o (sym (front_at (map (static_of p) p.statics) (map literal_of p.literals) n (static_of p t) (map_at (static_of p) p.statics n t at)) ∙ ap (λ l. slice_get l n) (sym is.statics) ∙ has) in
        ap static_bytes (sym same) ∙ type_size t.of;
    literal_size = λ n l o at has.
        let many = length-map p.statics (static_of p) in
        let place : length p.statics + n ≡ length (map (static_of p) p.statics) + n = omega (arith, many) in
        let same : literal_of l ≡ o = same_Some (literal_of l) o (sym (ap (slice_get (map (static_of p) p.statics ++ map literal_of p.literals)) place ∙ behind_at (map (static_of p) p.statics) (map literal_of p.literals) n ∙ map_at literal_of p.literals n l at) ∙ ap (λ k. slice_get k (length p.statics + n)) (sym is.statics) ∙ has) in
        let one : length l.bytes * 1 ≡ length l.bytes = omega arith in
        ap static_bytes (sym same) ∙ one;
    scalars = λ f k g s at has.
        let of = scalar_is f k g s at has in
        variable_of_function f of.tree (scalar_of (names_of p of.tree (is_again p of.tree))) of.x s.variable of.tree_is (picked_at (scalar_of (names_of p of.tree (is_again p of.tree))) of.tree.first_variable of.tree.variables k of.x of.there_is) of.variable;
    objects = λ f k g o at has.
        let of = object_is f k g o at has in
        variable_of_function f of.tree (object_of (names_of p of.tree (is_again p of.tree))) of.x o.var.0 of.tree_is (picked_at (object_of (names_of p of.tree (is_again p of.tree))) of.tree.first_variable of.tree.variables k of.x of.there_is) (object_number f k o of);
    object_size = λ f k x g o a at has number tree.
        let of = object_is f k g o at has in
        let said = object_number f k o of in
        let same : of.x ≡ x = omega (arith, said, number) in
        ap (λ (y : MemoryObject). y.count * size_of y.element) (sym of.object) ∙ ap (λ i. (memory_object p i).count * size_of (memory_object p i).element) same
        ∙ ap (λ r. object_count (option_map_or (λ (a : AutomaticTree). a.of) r (of-object.Array (record { base = Char; stars = 0 }) 0)) * size_of (object_element (option_map_or (λ (a : AutomaticTree). a.of) r (of-object.Array (record { base = Char; stars = 0 }) 0)))) tree ∙ type_size a.of;
    one_name = λ f j k g s t at first second alike.
        let one = scalar_is f j g s at first in
        let two = scalar_is f k g t at second in
        one_scalar f j k s t one two alike;
    one_object = λ f j k g o q at first second alike. one_kept f j k o q (object_is f j g o at first) (object_is f k g q at second) alike;
    apart = λ f j k g s o at first second alike. neither f j k s o (scalar_is f j g s at first) (object_is f k g o at second) alike;
  }
    where
      one_tree : (f : ℕ) (a b : TypedFunctionTree) → slice_get p.functions f ≡ Some a → slice_get p.functions f ≡ Some b → a ≡ b
      one_tree f a b first second = same_Some a b (sym first ∙ second)

      one_scalar : (f j k : ℕ) (s t : Scalar) → IsScalar f j s → IsScalar f k t → s.variable ≡ t.variable → j ≡ k
      one_scalar f j k s t one two alike =
          let tree = one_tree f two.tree one.tree two.tree_is one.tree_is in
          let second : slice_get (picked (scalar_of (names_of p one.tree (is_again p one.tree))) (variables_in one.tree)) k ≡ Some two.x = ap (λ (y : TypedFunctionTree). slice_get (picked (scalar_of (names_of p y (is_again p y))) (variables_in y)) k) (sym tree) ∙ two.there_is in
          let a = one.variable in let b = two.variable in
          once f j k (scalar_of (names_of p one.tree (is_again p one.tree))) one.tree one.x two.x one.there_is second (omega (arith, a, b, alike))

      one_kept : (f j k : ℕ) (o q : MemoryObject) → IsObject f j o → IsObject f k q → o.var.0 ≡ q.var.0 → j ≡ k
      one_kept f j k o q one two alike =
          let tree = one_tree f two.tree one.tree two.tree_is one.tree_is in
          let second : slice_get (picked (object_of (names_of p one.tree (is_again p one.tree))) (variables_in one.tree)) k ≡ Some two.x = ap (λ (y : TypedFunctionTree). slice_get (picked (object_of (names_of p y (is_again p y))) (variables_in y)) k) (sym tree) ∙ two.there_is in
          let a = object_number f j o one in let b = object_number f k q two in
          once f j k (object_of (names_of p one.tree (is_again p one.tree))) one.tree one.x two.x one.there_is second (omega (arith, a, b, alike))

      neither : (f j k : ℕ) (s : Scalar) (o : MemoryObject) → IsScalar f j s → IsObject f k o → s.variable ≡ o.var.0 → ⊥
      neither f j k s o one two alike =
          let tree = one_tree f two.tree one.tree two.tree_is one.tree_is in
          let n = names_of p one.tree (is_again p one.tree) in
          let second : slice_get (picked (object_of n) (variables_in one.tree)) k ≡ Some two.x = ap (λ (y : TypedFunctionTree). slice_get (picked (object_of (names_of p y (is_again p y))) (variables_in y)) k) (sym tree) ∙ two.there_is in
          let a = one.variable in let b = object_number f k o two in
          let same : two.x ≡ one.x = omega (arith, a, b, alike) in
          let scalar = picked_at (scalar_of n) one.tree.first_variable one.tree.variables j one.x one.there_is in
          let object = picked_at (object_of n) one.tree.first_variable one.tree.variables k two.x second in
          not_both n one.x scalar.value object.value scalar.some (ap (object_of n) (sym same) ∙ object.some)
