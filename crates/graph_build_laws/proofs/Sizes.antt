-- Objects of a well-formed program are small, and what `main` gives is a number.
use Rattle.std.proofs.Common.{◌≡◌, ℕ, zero, suc, ◌+◌, ◌-◌, ◌*◌, ◌≤◌, Bool, true, false, Some, List, [], ◌∷◌, length, drop, slice_get, refl, sym, ap, ◌∙◌, subst, arith, pos, if◌then◌else◌}
use Rattle.std.specs.Prelude.{◌==◌, nat_le, sum_by}
use Rattle.std.proofs.lemmas.Bool.Decides.{nat_tests}
use Rattle.std.proofs.lemmas.Option.{slice_get_within}
use Rattle.std.proofs.lemmas.List.Sums.{sum_by-cons}
use Rattle.word_base.specs.Owners.{Static, Literal, Variable}
use Rattle.c_tree.specs.declared.types.IntegerType.{IntegerType}
use Rattle.c_tree.specs.declared.types.IntegerType.TheVariants.{Char, SignedChar, UnsignedChar, Short, UnsignedShort, Int, UnsignedInt, Long, UnsignedLong}
use Rattle.c_tree.specs.declared.object_type.ObjectType.{ObjectType}
use Rattle.c_tree.specs.declared.object_type.ObjectType.TheVariants as of-object
use Rattle.c_tree.specs.declared.object_type.ValueType.TheVariants.{Integer}
use Rattle.c_tree.specs.Programs.{AutomaticTree, LiteralTree, StaticTree, TypedFunctionTree, ProgramTree}
use Rattle.c_type_rules.specs.Integers.{integer_size as integer_bytes, scalar_size as type_size, object_size, room}
use Rattle.c_type_rules.specs.Types.{same_value}
use Rattle.c_type_bounds.specs.Bounds.{kept_room, own_room, text_room, variables_of}
use Rattle.c_type_laws.specs.Objects.{is_kept_array}
use Rattle.c_type_laws.specs.Laws.{is_main}
use Rattle.c_meaning_values.specs.declared.value.Value.TheVariants as source
use Rattle.c_meaning_values.specs.Types.{scalar_size, size_by_stars, element_scalar, value_count}
use Rattle.c_meaning_values.specs.Memory.{Object as SourceObject, Memory as SourceMemory, bytes_of}
use Rattle.graph_build_runs.specs.Typed.{IsOf}
use Rattle.graph_build_runs.proofs.Later.{some_same}
use Rattle.graph_build_runs.proofs.Types.{value_is}
use Rattle.graph_build_runs.proofs.Shapes.{two_true}
use Rattle.graph_build_runs.proofs.Moving.{AreSmall}
use Rattle.graph_build_laws.proofs.Accepted.{ProgramFacts}
use Rattle.graph_build_laws.proofs.Homes.{dropped_at, taken_at}
use Rattle.base_laws.proofs.Numbers.{rounded}

-- a size is one in both
pub type_sizes : (base : IntegerType) (stars : ℕ) → type_size (record { base = base; stars = stars }) ≡ size_by_stars base stars
type_sizes Char zero = refl
type_sizes SignedChar zero = refl
type_sizes UnsignedChar zero = refl
type_sizes Short zero = refl
type_sizes UnsignedShort zero = refl
type_sizes Int zero = refl
type_sizes UnsignedInt zero = refl
type_sizes Long zero = refl
type_sizes UnsignedLong zero = refl
type_sizes base (suc stars) = ap (λ b. if b then integer_bytes base else 4) (some_stars stars)
  where
    some_stars : (n : ℕ) → (suc n == 0) ≡ false
    some_stars n = grind (arith, nat_tests)

-- the bytes of an object by its type
pub bytes_by_type : (of : ObjectType) → value_count of * scalar_size (element_scalar of) ≡ object_size of
bytes_by_type (of-object.Scalar s) = let e = type_sizes s.base s.stars in let one : 1 * scalar_size s ≡ scalar_size s = omega arith in one ∙ sym e
bytes_by_type (of-object.Array s n) = ap (λ x. n * x) (sym (type_sizes s.base s.stars)) ∙ swapped n (type_size s)
  where
    swapped : (x y : ℕ) → x * y ≡ y * x
    swapped x y = grind arith

roomy : (n : ℕ) → n ≤ room n
roomy n = rounded n

small_type : (base : IntegerType) (stars : ℕ) → size_by_stars base stars ≤ 4
small_type Char zero = omega arith
small_type SignedChar zero = omega arith
small_type UnsignedChar zero = omega arith
small_type Short zero = omega arith
small_type UnsignedShort zero = omega arith
small_type Int zero = omega arith
small_type UnsignedInt zero = omega arith
small_type Long zero = omega arith
small_type UnsignedLong zero = omega arith
small_type base (suc stars) = omega arith

-- what is counted for one is no more than what is for all
one_of_all : {A : Type 0} (g : A → ℕ) (xs : List A) (i : ℕ) (a : A) → slice_get xs i ≡ Some a → g a ≤ sum_by g xs
one_of_all g [] i a e = cc
one_of_all g (x ∷ xs) zero a e = let same : g x ≡ g a = ap g (some_same e) in omega (arith, sum_by-cons g x xs, same)
one_of_all g (x ∷ xs) (suc i) a e = omega (arith, sum_by-cons g x xs, one_of_all g xs i a e)

-- the bytes of an object of a type
bytes_are : (o : SourceObject) (of : ObjectType) → o.element ≡ element_scalar of → length o.values ≡ value_count of → bytes_of o ≡ object_size of
bytes_are o of element count = ap (λ s. length o.values * scalar_size s) element ∙ ap (λ n. n * scalar_size (element_scalar of)) count ∙ bytes_by_type of

-- what is not in memory is small
outside_small : (inside : Bool) (of : ObjectType) → is_kept_array inside of ≡ true → inside ≡ false → object_size of ≤ 4
outside_small inside (of-object.Scalar s) h e = let small = small_type s.base s.stars in omega (arith, small, type_sizes s.base s.stars)
outside_small inside (of-object.Array s n) h e = let yes = (two_true (nat_le 1 n) inside h).1 in cc

module _ (p : ProgramTree) (facts : ProgramFacts p) where
  all_room : sum_by own_room p.statics + sum_by text_room p.literals + sum_by text_room p.array_literals ≤ 1048576
  all_room = facts.room

  static_small : (n : ℕ) (v : StaticTree) → slice_get p.statics n ≡ Some v → object_size v.of ≤ 1048576
  static_small n v e = let one : room (object_size v.of) ≤ sum_by own_room p.statics = one_of_all own_room p.statics n v e in omega (arith, roomy (object_size v.of), one, all_room)

  literal_small : (n : ℕ) (l : LiteralTree) → slice_get p.literals n ≡ Some l → length l.bytes ≤ 1048576
  literal_small n l e = let one : room (length l.bytes) ≤ sum_by text_room p.literals = one_of_all text_room p.literals n l e in omega (arith, roomy (length l.bytes), one, all_room)

  kept_small : (x : ℕ) (a : AutomaticTree) → slice_get p.automatics x ≡ Some a → a.in_memory ≡ true → object_size a.of ≤ 4096
  kept_small x a e inside =
      let o = facts.owned x (slice_get_within p.automatics x a e) in
      let f = o.function in
      let i = x - f.first_variable in
      let same : f.first_variable + i ≡ x = omega (arith, o.from) in
      let found : slice_get (variables_of f p.automatics) i ≡ Some a = taken_at (drop f.first_variable p.automatics) f.variables i (omega (arith, o.from, o.below)) ∙ dropped_at p.automatics f.first_variable i ∙ ap (slice_get p.automatics) same ∙ e in
      let counts : kept_room a ≡ room (object_size a.of) = ap (λ b. if b then room (object_size a.of) else 0) inside in
      let one : kept_room a ≤ sum_by kept_room (variables_of f p.automatics) = one_of_all kept_room (variables_of f p.automatics) i a found in
      let most : sum_by kept_room (variables_of f p.automatics) ≤ 4096 = (facts.functions o.number f o.is).room in
      omega (arith, roomy (object_size a.of), subst (λ n. n ≤ sum_by kept_room (variables_of f p.automatics)) counts one, most)

  automatic_small : (x : ℕ) (a : AutomaticTree) → slice_get p.automatics x ≡ Some a → object_size a.of ≤ 4096
  automatic_small x a e = by a.in_memory refl
    where
      by : (b : Bool) → a.in_memory ≡ b → object_size a.of ≤ 4096
      by true inside = kept_small x a e inside
      by false outside = omega (arith, outside_small a.in_memory a.of (facts.arrays x a e) outside)

  -- Each object has fewer bytes than a word counts.
  pub are_small : AreSmall p
  are_small (Static n) o (v, is, element, count) = omega (arith, bytes_are o v.of element count, static_small n v is)
  are_small (Literal n) o (l, is, element, count) =
      let one : bytes_of o ≡ length o.values * 1 = ap (λ s. length o.values * scalar_size s) element in omega (arith, one, count, literal_small n l is)
  are_small (Variable x depth) o (a, is, element, count) = omega (arith, bytes_are o a.of element count, automatic_small x a is)

  -- What `main` gives is a number.
  pub main_gives : (f : ℕ) (tree : TypedFunctionTree) → slice_get p.functions f ≡ Some tree → (f == p.main) ≡ true → (memory : SourceMemory) → IsOf memory tree.result (source.Number (pos 0))
  main_gives f tree is main memory =
      let same : f ≡ p.main = equal f p.main main in
      let found : slice_get p.functions p.main ≡ Some tree = ap (slice_get p.functions) (sym same) ∙ is in
      let law : is_main (Some tree) ≡ true = ap is_main (sym found) ∙ facts.main in
      let int : tree.result ≡ Integer Int = value_is tree.result (Integer Int) (two_true (tree.parameters == 0) (same_value tree.result (Integer Int)) law).1 in
      subst (λ t. IsOf memory t (source.Number (pos 0))) (sym int) refl
    where
      equal : (a b : ℕ) → (a == b) ≡ true → a ≡ b
      equal a b h = grind (arith, nat_tests)
