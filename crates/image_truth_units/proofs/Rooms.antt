-- The objects of a well-formed program's automatic variables have few words.
use Rattle.std.proofs.Common.{◌≡◌, ℕ, zero, suc, ◌+◌, ◌-◌, ◌*◌, ◌≤◌, Bool, true, false, Option, Some, None, List, [], ◌∷◌, length, drop, slice_get, refl, sym, ap, ◌∙◌, subst, arith, if◌then◌else◌}
use Rattle.std.specs.Prelude.{◌==◌, nat_le, min, sum_by}
use Rattle.std.specs.Option.{option_map_or}
use Rattle.std.proofs.lemmas.Option.{slice_get_within}
use Rattle.std.proofs.lemmas.List.Sums.{sum_by-cons}
use Rattle.c_tree.specs.declared.types.IntegerType.{IntegerType}
use Rattle.c_tree.specs.declared.types.IntegerType.TheVariants.{Char, SignedChar, UnsignedChar, Short, UnsignedShort, Int, UnsignedInt, Long, UnsignedLong}
use Rattle.c_tree.specs.declared.object_type.Scalar.{Scalar}
use Rattle.c_tree.specs.declared.object_type.ObjectType.{ObjectType}
use Rattle.c_tree.specs.declared.object_type.ObjectType.TheVariants as of-object
use Rattle.c_tree.specs.Programs.{AutomaticTree, LiteralTree, ProgramTree}
use Rattle.c_type_rules.specs.Integers.{integer_size, scalar_size, object_size, room}
use Rattle.c_type_bounds.specs.Bounds.{kept_room, variables_of}
use Rattle.c_type_laws.specs.Objects.{is_kept_array}
use Rattle.graph_core.specs.Bounds.{most_words}
use Rattle.graph_build_statements.specs.Coding.{Coding}
use Rattle.graph_build_laws.proofs.WellFormed.{and_both}
use Rattle.graph_build_statements.specs.Declaring.{object_type_of, words_of, copied_words}
use Rattle.graph_build_laws.proofs.Accepted.{ProgramFacts}
use Rattle.graph_build_laws.proofs.Homes.{dropped_at, taken_at}
use Rattle.base_laws.proofs.Options.{some_same}

-- a scalar has a word at most
small_integer : (t : IntegerType) → integer_size t ≤ 4
small_integer Char = omega arith
small_integer SignedChar = omega arith
small_integer UnsignedChar = omega arith
small_integer Short = omega arith
small_integer UnsignedShort = omega arith
small_integer Int = omega arith
small_integer UnsignedInt = omega arith
small_integer Long = omega arith
small_integer UnsignedLong = omega arith

small_scalar : (s : Scalar) → scalar_size s ≤ 4
small_scalar s = go (s.stars == 0)
  where
    go : (b : Bool) → (if b then integer_size s.base else 4) ≤ 4
    go true = small_integer s.base
    go false = omega arith

few_bytes : (n : ℕ) → n ≤ 4 → words_of n ≤ most_words
few_bytes n h = omega (arith, h)

pub few_of_scalar : (s : Scalar) → words_of (scalar_size s) ≤ most_words
few_of_scalar s = few_bytes (scalar_size s) (small_scalar s)

-- what is counted for one is no more than what is for all
one_of_all : {A : Type 0} (g : A → ℕ) (xs : List A) (i : ℕ) (a : A) → slice_get xs i ≡ Some a → g a ≤ sum_by g xs
one_of_all g [] i a e = cc
one_of_all g (x ∷ xs) zero a e = let same : g x ≡ g a = ap g (some_same e) in omega (arith, sum_by-cons g x xs, same)
one_of_all g (x ∷ xs) (suc i) a e = omega (arith, sum_by-cons g x xs, one_of_all g xs i a e)

-- An array has few words.
abbrev pub HasFew : ObjectType → Type 0
HasFew (of-object.Scalar s) = Unit {0}
HasFew (of-object.Array s count) = words_of (scalar_size s * count) ≤ most_words

module _ (p : ProgramTree) (facts : ProgramFacts p) where
  kept_few : (x : ℕ) (a : AutomaticTree) → slice_get p.automatics x ≡ Some a → a.in_memory ≡ true → words_of (object_size a.of) ≤ most_words
  kept_few x a e inside =
      let o = facts.owned x (slice_get_within p.automatics x a e) in
      let f = o.function in
      let i = x - f.first_variable in
      let same : f.first_variable + i ≡ x = omega (arith, o.from) in
      let found : slice_get (variables_of f p.automatics) i ≡ Some a = taken_at (drop f.first_variable p.automatics) f.variables i (omega (arith, o.from, o.below)) ∙ dropped_at p.automatics f.first_variable i ∙ ap (slice_get p.automatics) same ∙ e in
      let counts : kept_room a ≡ room (object_size a.of) = ap (λ b. if b then room (object_size a.of) else 0) inside in
      let one : kept_room a ≤ sum_by kept_room (variables_of f p.automatics) = one_of_all kept_room (variables_of f p.automatics) i a found in
      let most : sum_by kept_room (variables_of f p.automatics) ≤ 4096 = (facts.functions o.number f o.is).room in
      within (object_size a.of) (sum_by kept_room (variables_of f p.automatics)) (subst (λ n. n ≤ sum_by kept_room (variables_of f p.automatics)) counts one) most
    where
      within : (n all : ℕ) → room n ≤ all → all ≤ 4096 → words_of n ≤ most_words
      within n all h k = omega (arith, h, k)

  array_few : (x : ℕ) (a : AutomaticTree) → slice_get p.automatics x ≡ Some a → (of : ObjectType) → a.of ≡ of → HasFew of
  array_few x a e (of-object.Scalar s) is = tt
  array_few x a e (of-object.Array s count) is =
      let law : is_kept_array a.in_memory (of-object.Array s count) ≡ true = ap (is_kept_array a.in_memory) (sym is) ∙ facts.arrays x a e in
      subst (λ t. words_of (object_size t) ≤ most_words) is (kept_few x a e (and_both (nat_le 1 count) a.in_memory law).1)

  few_at : (x : ℕ) (o : Option AutomaticTree) → slice_get p.automatics x ≡ o → HasFew (option_map_or (λ (a : AutomaticTree). a.of) o (of-object.Array (record { base = Char; stars = 0 }) 0))
  few_at x None e = omega arith
  few_at x (Some a) e = array_few x a e a.of refl

  pub few : (x : ℕ) → HasFew (object_type_of p x)
  few x = few_at x (slice_get p.automatics x) refl

-- No more words of a literal are copied than the object has.
pub copied_few : (c : Coding) (k bytes : ℕ) → copied_words c k bytes ≤ words_of bytes
copied_few c k bytes = by (slice_get c.program.array_literals k)
  where
    least : (a b : ℕ) → min a b ≤ a
    least a b = omega arith

    by : (o : Option LiteralTree) → option_map_or (λ (l : LiteralTree). min (words_of bytes) (words_of (length l.bytes))) o 0 ≤ words_of bytes
    by None = omega arith
    by (Some l) = least (words_of bytes) (words_of (length l.bytes))
