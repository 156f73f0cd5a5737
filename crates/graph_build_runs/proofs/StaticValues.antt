-- What static storage holds as a run begins is the same in a program's run and in its unit's.
use Rattle.std.proofs.Common.{◌≡◌, ◌≢◌, ℕ, zero, suc, ◌+◌, ◌*◌, ◌%◌, ◌<◌, ◌≤◌, List, [], ◌∷◌, length, map, take, drop, Some, true, slice_get, refl, sym, ap, ◌∙◌, subst, arith, pos}
use Rattle.std.specs.List.{AllByRecursion}
use Rattle.word_base.specs.Types.{holds, number_of_bits}
use Rattle.word_base.specs.WordOperations.{truncated}
use Rattle.c_tree.specs.declared.types.IntegerType.{IntegerType}
use Rattle.c_tree.specs.declared.types.IntegerType.TheVariants.{Char, SignedChar, UnsignedChar, Short, UnsignedShort, Int, UnsignedInt, Long, UnsignedLong}
use Rattle.c_tree.specs.declared.object_type.Scalar.{Scalar}
use Rattle.c_tree.specs.declared.object_type.Object as designator
use Rattle.c_tree.specs.declared.object_type.Object.TheVariants as object
use Rattle.c_tree.specs.declared.program.Relocation as source-relocation
use Rattle.c_tree.specs.Programs.{StaticTree, LiteralTree, ProgramTree}
use Rattle.c_type_rules.specs.Integers.{integer}
use Rattle.c_type_rules.specs.Types.{pointed_to}
use Rattle.c_meaning_values.specs.declared.value.Value.TheVariants as source
use Rattle.c_meaning_values.specs.Types.{element_scalar, value_count, scalar_size, integer_size}
use Rattle.c_meaning_values.specs.Memory.{Memory as SourceMemory}
use Rattle.c_meaning.specs.StaticStorage as source-storage
use Rattle.c_meaning.specs.StaticStorage.{static_object, literal_object, first_memory}
use Rattle.graph_core.specs.declared.value.Value.TheVariants as unit
use Rattle.graph_core.specs.declared.instruction.Element.TheVariants.{Unsigned8}
use Rattle.graph_core.specs.Graphs.{StaticObject}
use Rattle.graph_core.specs.Memory as unit-memory
use Rattle.graph_core.specs.Memory.{Object, Memory, bytes_of, static_bytes, element_in}
use Rattle.graph_core.specs.Values.{as_element}
use Rattle.graph_build_names.specs.Conversions.{unsigned_bits}
use Rattle.graph_build_steps.specs.Rules as rule
use Rattle.graph_build_steps.specs.Rules.{truncation_to}
use Rattle.graph_build_runs.specs.Correspondence.{SameValues}
use Rattle.graph_build_runs.proofs.Converting.{truncated_word, kept_word}
use Rattle.graph_build_runs.proofs.Wrapping.{wrapped_holds}
use Rattle.graph_build_runs.proofs.StaticObjects.{literal_of}

-- A word of a static object of pointers holds the address of an object of static storage: of an element of a static one, or directly behind the last, or the beginning of a literal.
abbrev pub IsAddress : ProgramTree → (pointer : Scalar) → (offset : ℕ) → designator.Object → Type 0
IsAddress p e offset (object.Static n) = (w : StaticTree) × (slice_get p.statics n ≡ Some w) × (element_scalar w.of ≡ pointed_to e) × (i : ℕ) × (offset ≡ i * scalar_size (element_scalar w.of)) × (i ≤ value_count w.of)
IsAddress p e offset (object.Literal n) = (l : LiteralTree) × (slice_get p.literals n ≡ Some l) × (record { base = Char; stars = 0 } ≡ pointed_to e) × (offset ≡ 0)
IsAddress p e offset (object.Automatic x) = ⊥

abbrev pub AreAddresses : ProgramTree → (pointer : Scalar) → List source-relocation.Relocation → Type 0
AreAddresses p e [] = Unit {0}
AreAddresses p e (r ∷ more) = IsAddress p e r.offset r.object × AreAddresses p e more

abbrev pub Bytes : List ℕ → Type 0
Bytes all = AllByRecursion (λ b. b < 256) all

-- A static object holds bytes; addresses stand in pointers alone, and a pointer that is none is null.
pub record StaticFits (p : ProgramTree) (v : StaticTree) : Type 0 where
  pub bytes : Bytes v.bytes
  pub numbers : (element_scalar v.of).stars ≡ 0 → v.relocations ≡ []
  pub zeros : (element_scalar v.of).stars ≢ 0 → AllByRecursion (λ b. b ≡ 0) v.bytes
  pub addresses : AreAddresses p (element_scalar v.of) v.relocations

-- What is asked of a program's static storage.
pub record StaticsFit (p : ProgramTree) : Type 0 where
  pub statics : (n : ℕ) (v : StaticTree) → slice_get p.statics n ≡ Some v → StaticFits p v
  pub literals : (n : ℕ) (l : LiteralTree) → slice_get p.literals n ≡ Some l → Bytes l.bytes

-- bytes and the number that they spell
pub taken_all : (P : ℕ → Type 0) (n : ℕ) (all : List ℕ) → AllByRecursion P all → AllByRecursion P (take n all)
taken_all P zero all h = tt
taken_all P (suc n) [] h = tt
taken_all P (suc n) (b ∷ all) h = (h.0, taken_all P n all h.1)

pub dropped_all : (P : ℕ → Type 0) (n : ℕ) (all : List ℕ) → AllByRecursion P all → AllByRecursion P (drop n all)
dropped_all P zero all h = h
dropped_all P (suc n) [] h = tt
dropped_all P (suc n) (b ∷ all) h = dropped_all P n all h.1

pub spelled_zero : (all : List ℕ) → AllByRecursion (λ b. b ≡ 0) all → unit-memory.spelled all ≡ 0
spelled_zero [] h = refl
spelled_zero (b ∷ all) h = let e = h.0 in let r = spelled_zero all h.1 in omega (arith, e, r)

spelled_one : (all : List ℕ) → Bytes all → unit-memory.spelled (take 1 all) < 256
spelled_one [] h = omega arith
spelled_one (b ∷ all) h = let lt = h.0 in omega (arith, lt)

spelled_two : (all : List ℕ) → Bytes all → unit-memory.spelled (take 2 all) < 65536
spelled_two [] h = omega arith
spelled_two (a ∷ []) h = let x = h.0 in omega (arith, x)
spelled_two (a ∷ b ∷ all) h = let x = h.0 in let y = h.1.0 in omega (arith, x, y)

spelled_four : (all : List ℕ) → Bytes all → unit-memory.spelled (take 4 all) < 4294967296
spelled_four [] h = omega arith
spelled_four (a ∷ []) h = let x = h.0 in omega (arith, x)
spelled_four (a ∷ b ∷ []) h = let x = h.0 in let y = h.1.0 in omega (arith, x, y)
spelled_four (a ∷ b ∷ c ∷ []) h = let x = h.0 in let y = h.1.0 in let z = h.1.1.0 in omega (arith, x, y, z)
spelled_four (a ∷ b ∷ c ∷ d ∷ all) h = let x = h.0 in let y = h.1.0 in let z = h.1.1.0 in let w = h.1.1.1.0 in omega (arith, x, y, z, w)

pub both_spell : (all : List ℕ) → source-storage.spelled all ≡ unit-memory.spelled all
both_spell [] = refl
both_spell (b ∷ all) = ap (λ n. b + 256 * n) (both_spell all)

-- The number of a type that bits are, as an element of the unit keeps them, and that it is of its type.
abbrev Numbered : IntegerType → ℕ → Type 0
Numbered t n = (as_element (rule.element_of (record { base = t; stars = 0 })) (unit.Number n) ≡ unit.Number (unsigned_bits (number_of_bits (integer t) n))) × (holds (integer t) (number_of_bits (integer t) n) ≡ true)

narrow_bits : (t : IntegerType) (n low : ℕ) → low ≡ n → n ≡ n % 4294967296 → truncated (truncation_to t) (n % 4294967296) ≡ unsigned_bits (number_of_bits (integer t) low) → holds (integer t) (number_of_bits (integer t) low) ≡ true
    → (truncated (truncation_to t) n ≡ unsigned_bits (number_of_bits (integer t) n)) × (holds (integer t) (number_of_bits (integer t) n) ≡ true)
narrow_bits t n low same word h is = (ap (truncated (truncation_to t)) word ∙ h ∙ ap (λ k. unsigned_bits (number_of_bits (integer t) k)) same, subst (λ k. holds (integer t) (number_of_bits (integer t) k) ≡ true) same is)

word_holds : (n : ℕ) → n % 4294967296 ≡ n → holds (integer UnsignedInt) (pos n) ≡ true
word_holds n e = subst (λ k. holds (integer UnsignedInt) (pos k) ≡ true) e (wrapped_holds UnsignedInt (pos n))

wide_bits : (t : IntegerType) (n low : ℕ) → low ≡ n → unsigned_bits (number_of_bits (integer t) low) ≡ low → holds (integer t) (number_of_bits (integer t) low) ≡ true → (unit.Number n ≡ unit.Number (unsigned_bits (number_of_bits (integer t) n))) × (holds (integer t) (number_of_bits (integer t) n) ≡ true)
wide_bits t n low same h is = (ap unit.Number (sym (subst (λ k. unsigned_bits (number_of_bits (integer t) k) ≡ k) same h)), subst (λ k. holds (integer t) (number_of_bits (integer t) k) ≡ true) same is)

pub numbered : (t : IntegerType) (all : List ℕ) → Bytes all → Numbered t (unit-memory.spelled (take (integer_size t) all))
numbered Char all h = let n = unit-memory.spelled (take 1 all) in let lt = spelled_one all h in let r = narrow_bits Char n (n % 256) (omega (arith, lt)) (omega (arith, lt)) (truncated_word Char (pos n) refl) (wrapped_holds Char (pos n)) in (ap unit.Number r.0, r.1)
numbered SignedChar all h = let n = unit-memory.spelled (take 1 all) in let lt = spelled_one all h in let r = narrow_bits SignedChar n (n % 256) (omega (arith, lt)) (omega (arith, lt)) (truncated_word SignedChar (pos n) refl) (wrapped_holds SignedChar (pos n)) in (ap unit.Number r.0, r.1)
numbered UnsignedChar all h = let n = unit-memory.spelled (take 1 all) in let lt = spelled_one all h in let r = narrow_bits UnsignedChar n (n % 256) (omega (arith, lt)) (omega (arith, lt)) (truncated_word UnsignedChar (pos n) refl) (wrapped_holds UnsignedChar (pos n)) in (ap unit.Number r.0, r.1)
numbered Short all h = let n = unit-memory.spelled (take 2 all) in let lt = spelled_two all h in let r = narrow_bits Short n (n % 65536) (omega (arith, lt)) (omega (arith, lt)) (truncated_word Short (pos n) refl) (wrapped_holds Short (pos n)) in (ap unit.Number r.0, r.1)
numbered UnsignedShort all h = let n = unit-memory.spelled (take 2 all) in let lt = spelled_two all h in let r = narrow_bits UnsignedShort n (n % 65536) (omega (arith, lt)) (omega (arith, lt)) (truncated_word UnsignedShort (pos n) refl) (wrapped_holds UnsignedShort (pos n)) in (ap unit.Number r.0, r.1)
numbered Int all h = let n = unit-memory.spelled (take 4 all) in let lt = spelled_four all h in wide_bits Int n (n % 4294967296) (omega (arith, lt)) (kept_word UnsignedInt Int (pos n) refl (word_holds n (omega (arith, lt)))) (wrapped_holds Int (pos n))
numbered UnsignedInt all h = let n = unit-memory.spelled (take 4 all) in let lt = spelled_four all h in wide_bits UnsignedInt n (n % 4294967296) (omega (arith, lt)) (kept_word UnsignedInt UnsignedInt (pos n) refl (word_holds n (omega (arith, lt)))) (wrapped_holds UnsignedInt (pos n))
numbered Long all h = let n = unit-memory.spelled (take 4 all) in let lt = spelled_four all h in wide_bits Long n (n % 4294967296) (omega (arith, lt)) (kept_word UnsignedInt Long (pos n) refl (word_holds n (omega (arith, lt)))) (wrapped_holds Long (pos n))
numbered UnsignedLong all h = let n = unit-memory.spelled (take 4 all) in let lt = spelled_four all h in wide_bits UnsignedLong n (n % 4294967296) (omega (arith, lt)) (kept_word UnsignedInt UnsignedLong (pos n) refl (word_holds n (omega (arith, lt)))) (wrapped_holds UnsignedLong (pos n))

-- a literal's bytes
byte_same : (b : ℕ) → b < 256 → as_element Unsigned8 (unit.Number (b + 256 * 0)) ≡ unit.Number (unsigned_bits (pos b))
byte_same b lt =
    let whole : b + 256 * 0 ≡ b = omega arith in
    let n : b ≡ b % 4294967296 = omega (arith, lt) in
    let low : b % 256 ≡ b = omega (arith, lt) in
    ap (λ k. as_element Unsigned8 (unit.Number k)) (whole ∙ n) ∙ ap unit.Number (truncated_word Char (pos b) refl) ∙ ap (λ k. unit.Number (k % 4294967296)) low

pub drop_next : (xs : List ℕ) (n b : ℕ) (more : List ℕ) → drop n xs ≡ b ∷ more → drop (n + 1) xs ≡ more
drop_next [] zero b more h = cc
drop_next [] (suc n) b more h = cc
drop_next (x ∷ xs) zero b more h = let e : 0 + 1 ≡ 1 = omega arith in ap (λ k. drop k (x ∷ xs)) e ∙ rest h
  where
    rest : x ∷ xs ≡ b ∷ more → xs ≡ more
    rest h = cc
drop_next (x ∷ xs) (suc n) b more h = let e : suc n + 1 ≡ suc (n + 1) = omega arith in ap (λ k. drop k (x ∷ xs)) e ∙ drop_next xs n b more h

pub literal_values : (p : ProgramTree) (memory : SourceMemory) (others : Memory) (statics : List StaticObject) (l : LiteralTree) (rest : List ℕ) (index : ℕ) → drop index l.bytes ≡ rest → Bytes rest
    → SameValues p memory others (map (λ byte. source.Number (pos byte)) rest) (unit-memory.first_values statics (literal_of l) index (length rest))
literal_values p memory others statics l [] index is h = tt
literal_values p memory others statics l (b ∷ rest) index is h =
    let one : index * 1 ≡ index = omega arith in
    let taken : take 1 (drop (index * 1) l.bytes) ≡ b ∷ [] = ap (λ k. take 1 (drop k l.bytes)) one ∙ ap (take 1) is in (
      ap (λ xs. as_element Unsigned8 (unit.Number (unit-memory.spelled xs))) taken ∙ byte_same b h.0,
      literal_values p memory others statics l rest (index + 1) (drop_next l.bytes index b rest is) h.1,
    )
