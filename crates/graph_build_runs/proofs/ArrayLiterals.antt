-- What an array that a string literal initialises holds: the literal's bytes, and zeros behind them.
use Rattle.std.proofs.Common.{◌≡◌, ℕ, zero, suc, ◌+◌, ◌*◌, ◌%◌, ◌<◌, ◌≤◌, ◌⊎◌, inl, inr, List, [], ◌∷◌, ◌++◌, length, map, take, drop, replicate, slice_set, refl, sym, ap, ◌∙◌, subst, arith, pos}
use Rattle.std.specs.List.{AllByRecursion}
use Rattle.std.specs.Option.{option_map_or}
use Rattle.word_base.specs.WordOperations.{sign_extended, truncated}
use Rattle.c_tree.specs.declared.types.IntegerType.{IntegerType}
use Rattle.c_tree.specs.declared.types.IntegerType.TheVariants.{Char, SignedChar, UnsignedChar, Short, UnsignedShort, Int, UnsignedInt, Long, UnsignedLong}
use Rattle.c_tree.specs.declared.object_type.Scalar.{Scalar}
use Rattle.c_tree.specs.Programs.{ProgramTree}
use Rattle.c_type_rules.specs.Integers.{wrapped}
use Rattle.c_meaning_values.specs.declared.value.Value as source-value
use Rattle.c_meaning_values.specs.Types.{integer_size, scalar_size, size_by_stars, zero_of}
use Rattle.c_meaning_values.specs.Memory.{Object as SourceObject, Memory as SourceMemory, set_value, with_value}
use Rattle.c_meaning.specs.Lifetimes.{element_value, set_values}
use Rattle.graph_core.specs.declared.value.Value.{Value}
use Rattle.graph_core.specs.declared.value.Value.TheVariants.{Number}
use Rattle.graph_core.specs.declared.instruction.Element.{Element}
use Rattle.graph_core.specs.Memory as unit-memory
use Rattle.graph_core.specs.Memory.{Object, Memory, bytes_of, words_of, with_object, filled, copied, elements_from, element_in}
use Rattle.graph_core.specs.Values.{as_element, size_of}
use Rattle.graph_build_names.specs.Conversions.{unsigned_bits}
use Rattle.graph_build_steps.specs.Rules as rule
use Rattle.graph_build_steps.specs.Rules.{truncation_to}
use Rattle.graph_build_runs.specs.Correspondence.{SameValue, SameValues}
use Rattle.graph_build_runs.proofs.Converting.{truncated_word}
use Rattle.graph_build_runs.proofs.Elements.{element_keeps, element_size}
use Rattle.graph_build_runs.proofs.Making.{last_is, zero_typed}
use Rattle.graph_build_runs.proofs.Declared.{set_last, zero_same}
use Rattle.graph_build_runs.proofs.Clearing.{none_left}
use Rattle.graph_build_runs.proofs.StaticValues.{drop_next}

-- Values, and so many of another behind them.
abbrev pub filled_with : (count : ℕ) → source-value.Value → List source-value.Value → List source-value.Value
filled_with zero z vs = []
filled_with (suc count) z [] = z ∷ filled_with count z []
filled_with (suc count) z (v ∷ vs) = v ∷ filled_with count z vs

pub filled_length : (count : ℕ) (z : source-value.Value) (vs : List source-value.Value) → length (filled_with count z vs) ≡ count
filled_length zero z vs = refl
filled_length (suc count) z [] = ap (λ n. suc n) (filled_length count z [])
filled_length (suc count) z (v ∷ vs) = ap (λ n. suc n) (filled_length count z vs)

pub filled_all : (P : source-value.Value → Type 0) (count : ℕ) (z : source-value.Value) (vs : List source-value.Value) → P z → AllByRecursion P vs → AllByRecursion P (filled_with count z vs)
filled_all P zero z vs h all = tt
filled_all P (suc count) z [] h all = (h, filled_all P count z [] h tt)
filled_all P (suc count) z (v ∷ vs) h all = (all.0, filled_all P count z vs h all.1)

-- values that are set one by one
abbrev set_all : List source-value.Value → (index : ℕ) → List source-value.Value → List source-value.Value
set_all old index [] = old
set_all old index (v ∷ vs) = set_all (slice_set old index v) (index + 1) vs

set_behind : (x : source-value.Value) (old : List source-value.Value) (index : ℕ) (vs : List source-value.Value) → set_all (x ∷ old) (suc index) vs ≡ x ∷ set_all old index vs
set_behind x old index [] = refl
set_behind x old index (v ∷ vs) = let e : suc index + 1 ≡ suc (index + 1) = omega arith in ap (λ n. set_all (x ∷ slice_set old index v) n vs) e ∙ set_behind x (slice_set old index v) (index + 1) vs

none_set : (index : ℕ) (vs : List source-value.Value) → set_all [] index vs ≡ []
none_set index [] = refl
none_set index (v ∷ vs) = none_set (index + 1) vs

set_is_filled : (count : ℕ) (z : source-value.Value) (vs : List source-value.Value) → set_all (replicate count z) 0 vs ≡ filled_with count z vs
set_is_filled zero z vs = none_set 0 vs
set_is_filled (suc count) z [] = ap (λ xs. z ∷ xs) (set_is_filled count z [])
set_is_filled (suc count) z (v ∷ vs) = let e : 0 + 1 ≡ 1 = omega arith in ap (λ n. set_all (v ∷ replicate count z) n vs) e ∙ set_behind v (replicate count z) 0 vs ∙ ap (λ xs. v ∷ xs) (set_is_filled count z vs)

set_one : (memory : SourceMemory) (o : SourceObject) (index : ℕ) (v : source-value.Value) → set_value (memory ++ o ∷ []) (length memory) index v ≡ memory ++ with_value o index v ∷ []
set_one memory o index v = ap (λ r. option_map_or (λ q. slice_set (memory ++ o ∷ []) (length memory) (with_value q index v)) r (memory ++ o ∷ [])) (last_is memory o) ∙ set_last memory o (with_value o index v)

set_object : (memory : SourceMemory) (o : SourceObject) (index : ℕ) (vs : List source-value.Value) → set_values (memory ++ o ∷ []) (length memory) index vs ≡ memory ++ record o { values = set_all o.values index vs } ∷ []
set_object memory o index [] = refl
set_object memory o index (v ∷ vs) = ap (λ m. set_values m (length memory) (index + 1) vs) (set_one memory o index v) ∙ set_object memory (with_value o index v) (index + 1) vs

-- A new object of zeros takes values in order.
pub values_set_in : (memory : SourceMemory) (o : SourceObject) (count : ℕ) (z : source-value.Value) → o.values ≡ replicate count z → (vs : List source-value.Value) → set_values (memory ++ o ∷ []) (length memory) 0 vs ≡ memory ++ record o { values = filled_with count z vs } ∷ []
values_set_in memory o count z zeros vs = set_object memory o 0 vs ∙ ap (λ xs. memory ++ record o { values = set_all xs 0 vs } ∷ []) zeros ∙ ap (λ xs. memory ++ record o { values = xs } ∷ []) (set_is_filled count z vs)

-- What a truncation to a type of one byte leaves hangs on the word alone.
truncated_alike : (t : IntegerType) (b : ℕ) → integer_size t ≡ 1 → truncated (truncation_to t) b ≡ truncated (truncation_to t) (b % 4294967296)
unfolding truncated
truncated_alike Char b single = omega arith
truncated_alike UnsignedChar b single = omega arith
truncated_alike SignedChar b single = let low : b % 256 ≡ b % 4294967296 % 256 = omega arith in ap (λ k. sign_extended k 256) low
truncated_alike Short b single = cc
truncated_alike UnsignedShort b single = cc
truncated_alike Int b single = cc
truncated_alike UnsignedInt b single = cc
truncated_alike Long b single = cc
truncated_alike UnsignedLong b single = cc

-- A byte, as an element of a type of one byte keeps it, is the word of the converted number.
number_kept : (t : IntegerType) (b : ℕ) → integer_size t ≡ 1 → as_element (rule.element_of (record { base = t; stars = 0 })) (Number b) ≡ Number (unsigned_bits (wrapped t (pos b)))
number_kept Char b single = ap Number (truncated_alike Char b single ∙ truncated_word Char (pos b) refl)
number_kept UnsignedChar b single = ap Number (truncated_alike UnsignedChar b single ∙ truncated_word UnsignedChar (pos b) refl)
number_kept SignedChar b single = ap Number (truncated_alike SignedChar b single ∙ truncated_word SignedChar (pos b) refl)
number_kept Short b single = cc
number_kept UnsignedShort b single = cc
number_kept Int b single = cc
number_kept UnsignedInt b single = cc
number_kept Long b single = cc
number_kept UnsignedLong b single = cc

scalar_kept : (base : IntegerType) (stars b : ℕ) → size_by_stars base stars ≡ 1 → as_element (rule.element_of (record { base = base; stars = stars })) (Number b) ≡ Number (unsigned_bits (wrapped base (pos b)))
scalar_kept base zero b single = number_kept base b single
scalar_kept base (suc stars) b single = cc

-- The bytes of a literal as elements of one byte keep them.
module _ (p : ProgramTree) (memory : SourceMemory) (others : Memory) (sc : Scalar) (single : scalar_size sc ≡ 1) (bytes : List ℕ) where
  abbrev el : Element
  el = rule.element_of sc

  abbrev number : ℕ → source-value.Value
  number b = element_value sc.base b

  abbrev zero_value : source-value.Value
  zero_value = zero_of sc

  width : size_of el ≡ 1
  width = element_size sc ∙ single

  byte_kept : (b : ℕ) → SameValue p memory others (number b) (as_element el (Number b))
  byte_kept b = scalar_kept sc.base sc.stars b single

  zero_kept : SameValue p memory others zero_value (as_element el (Number 0))
  zero_kept = let same = zero_same p memory others sc.stars in subst (SameValue p memory others zero_value) (sym (element_keeps p memory others sc zero_value (Number 0) (zero_typed memory sc.base sc.stars) same)) same

  -- the element at an index, by what the bytes are from there on
  at_byte : (index b : ℕ) (rest : List ℕ) → drop index bytes ≡ b ∷ rest → element_in bytes el index ≡ as_element el (Number b)
  at_byte index b rest is =
      let at : index * 1 ≡ index = omega arith in
      let alone : b + 256 * 0 ≡ b = omega arith in
      ap (λ n. as_element el (Number (unit-memory.spelled (take n (drop (index * n) bytes))))) width ∙ ap (λ n. as_element el (Number (unit-memory.spelled (take 1 (drop n bytes))))) at ∙ ap (λ xs. as_element el (Number (unit-memory.spelled (take 1 xs)))) is
      ∙ ap (λ n. as_element el (Number n)) alone

  behind_bytes : (index : ℕ) → drop index bytes ≡ [] → element_in bytes el index ≡ as_element el (Number 0)
  behind_bytes index is =
      let at : index * 1 ≡ index = omega arith in
      ap (λ n. as_element el (Number (unit-memory.spelled (take n (drop (index * n) bytes))))) width ∙ ap (λ n. as_element el (Number (unit-memory.spelled (take 1 (drop n bytes))))) at ∙ ap (λ xs. as_element el (Number (unit-memory.spelled (take 1 xs)))) is

  zeros_kept : (count : ℕ) → SameValues p memory others (filled_with count zero_value []) (replicate count (Number 0))
  zeros_kept zero = tt
  zeros_kept (suc count) = (zero_same p memory others sc.stars, zeros_kept count)

  drop_nothing : (n : ℕ) → drop {A = ℕ} n [] ≡ []
  drop_nothing zero = refl
  drop_nothing (suc n) = refl

  none_behind : (xs : List ℕ) (n : ℕ) → drop n xs ≡ [] → drop (n + 1) xs ≡ []
  none_behind [] n h = drop_nothing (n + 1)
  none_behind (x ∷ xs) zero h = cc
  none_behind (x ∷ xs) (suc n) h = let e : suc n + 1 ≡ suc (n + 1) = omega arith in ap (λ k. drop k (x ∷ xs)) e ∙ none_behind xs n h

  -- Elements that bytes hold, before what stood there: what they do not cover is zero.
  pub copied_same : (count many index : ℕ) (rest : List ℕ) (old : List Value) → drop index bytes ≡ rest → length old ≡ count → (count ≤ many) ⊎ ((old ≡ replicate count (Number 0)) × (length rest ≤ many))
      → SameValues p memory others (filled_with count zero_value (map number rest)) (take count (elements_from bytes el index many) ++ drop many old)
  copied_same zero many index rest [] is size covers = subst (SameValues p memory others []) (sym (none_taken (elements_from bytes el index many) (drop many []) (none_left many [] (omega arith)))) tt
    where
      none_taken : (xs ys : List Value) → ys ≡ [] → take 0 xs ++ ys ≡ []
      none_taken [] ys h = h
      none_taken (x ∷ xs) ys h = h
  copied_same zero many index rest (x ∷ old) is size covers = absurd (omega (arith, size))
  copied_same (suc count) many index rest [] is size covers = absurd (omega (arith, size))
  copied_same (suc count) zero index rest (x ∷ old) is size covers = elim covers [
    | inl le ↦ absurd (omega (arith, le))
    | inr both ↦
        let none : rest ≡ [] = no_more rest both.1 in
        subst (λ r. SameValues p memory others (filled_with (suc count) zero_value (map number r)) (x ∷ old)) (sym none) (subst (SameValues p memory others (filled_with (suc count) zero_value [])) (sym both.0) (zeros_kept (suc count)))
  ]
    where
      no_more : (xs : List ℕ) → length xs ≤ 0 → xs ≡ []
      no_more [] le = refl
      no_more (x ∷ xs) le = absurd (omega (arith, le))
  copied_same (suc count) (suc many) index [] (x ∷ old) is size covers = (
    subst (SameValue p memory others zero_value) (sym (behind_bytes index is)) zero_kept,
    copied_same count many (index + 1) [] old (none_behind bytes index is) (omega (arith, size)) (elim covers [
      | inl le ↦ inl (omega (arith, le))
      | inr both ↦ inr (behind_zero count x old both.0, omega arith)
    ]),
  )
    where
      behind_zero : (count : ℕ) (x : Value) (old : List Value) → x ∷ old ≡ replicate (suc count) (Number 0) → old ≡ replicate count (Number 0)
      behind_zero count x old h = cc
  copied_same (suc count) (suc many) index (b ∷ rest) (x ∷ old) is size covers = (
    subst (SameValue p memory others (number b)) (sym (at_byte index b rest is)) (byte_kept b),
    copied_same count many (index + 1) rest old (drop_next bytes index b rest is) (omega (arith, size)) (elim covers [
      | inl le ↦ inl (omega (arith, le))
      | inr both ↦ let le = both.1 in inr (behind_zero count x old both.0, omega (arith, le))
    ]),
  )
    where
      behind_zero : (count : ℕ) (x : Value) (old : List Value) → x ∷ old ≡ replicate (suc count) (Number 0) → old ≡ replicate count (Number 0)
      behind_zero count x old h = cc
