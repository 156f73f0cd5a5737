-- The complement of a number's bits.
use Rattle.std.proofs.Common.{◌≡◌, ℕ, ◌-◌, ◌%◌, ◌<◌, ◌≤◌, true, false, ◌&&◌, None, refl, sym, ap, ◌∙◌, subst, arith, ℤ, pos, negsuc, ◌-ℤ◌, bit_xor, bit_and}
use Rattle.std.specs.Prelude.{int_le}
use Rattle.std.specs.Int.Bits.{xor_add_and}
use Rattle.std.proofs.lemmas.Int.{ints}
use Rattle.std.proofs.lemmas.Nat.{and_mask}
use Rattle.std.proofs.lemmas.Bool.{leb-true}
use Rattle.std.proofs.lemmas.Bool.Decides.{nat_tests}
use Rattle.word_base.specs.Types.{holds, converted, int_type}
use Rattle.word_base.specs.WordOperations.{word_operation as operated_words}
use Rattle.word_base.specs.declared.operation.Operation.TheVariants as operation
use Rattle.c_tree.specs.declared.types.IntegerType.{IntegerType}
use Rattle.c_tree.specs.declared.types.IntegerType.TheVariants.{Char, SignedChar, UnsignedChar, Short, UnsignedShort, Int, UnsignedInt, Long, UnsignedLong}
use Rattle.c_tree.specs.declared.object_type.ValueType.TheVariants.{Integer}
use Rattle.c_tree.specs.declared.typed_expression.Sign.TheVariants.{Complement}
use Rattle.c_tree.specs.TypedExpressions.{RvalueTree, Signed}
use Rattle.c_type_rules.specs.Integers.{integer}
use Rattle.c_type_laws.specs.Kind.{Of}
use Rattle.c_type_laws.specs.Kinds.{is_promoted}
use Rattle.c_type_laws.specs.Expressions.{kind_of}
use Rattle.c_meaning_values.specs.declared.value.Value as source-value
use Rattle.c_meaning_values.specs.declared.value.Value.TheVariants as source
use Rattle.c_meaning_values.specs.Operations.{value_with_sign}
use Rattle.c_meaning_steps.specs.States.{State, value_or_undefined}
use Rattle.c_meaning.specs.Expressions.{Calls, evaluate}
use Rattle.graph_core.specs.declared.value.Value.TheVariants.{Number}
use Rattle.graph_core.specs.Graphs as unit
use Rattle.graph_core.specs.Graphs.{Name, Operate}
use Rattle.graph_core.specs.Runs.{value}
use Rattle.graph_core.specs.Values.{operate}
use Rattle.graph_build_names.specs.Conversions.{unsigned_bits}
use Rattle.graph_build_layout.specs.declared.laid.Use.TheVariants.{Anywhere}
use Rattle.graph_build_names.specs.Names.{pick}
use Rattle.graph_build_layout.specs.Layout.{laid}
use Rattle.graph_build_steps.specs.Drafts.{Made, Goal, To, operated}
use Rattle.graph_build_runs.specs.Correspondence.{SameValue}
use Rattle.graph_build_runs.proofs.Words.{both_true, in_word, word_below, word_unsigned}
use Rattle.graph_build_runs.proofs.Converting.{kept_word}
use Rattle.graph_build_runs.proofs.Wrapping.{wrapped_holds}
use Rattle.graph_build_runs.proofs.Leads.{Setting, names_in, size_in, depth_in, Local, World}
use Rattle.graph_build_runs.proofs.Kept.{Fits, ScalarsFirst}
use Rattle.graph_build_runs.proofs.Results.{Result}
use Rattle.graph_build_runs.proofs.Leaves.{operated_done, with_then}
use Rattle.graph_build_runs.proofs.Typing.{HasKind, Keeps, Typed}
use Rattle.graph_build_runs.proofs.Operands.{Does, code_in, value_in, written_by, Low}
use Rattle.graph_build_runs.proofs.Arithmetic.{pick_between}

-- the bits of a word, each turned
turned_bits : (k : ℕ) → k < 4294967296 → bit_xor k 4294967295 ≡ 4294967295 - k
turned_bits k lt =
    let sum = xor_add_and k 4294967295 in
    let mask : bit_and k 4294967295 ≡ k % 4294967296 = and_mask k 32 in
    omega (arith, sum, mask, lt)

turned_word : (z : ℤ) → unsigned_bits (negsuc 0 -ℤ z) ≡ 4294967295 - unsigned_bits z
turned_word (pos n) = by (negsuc 0 -ℤ pos n) refl
  where
    by : (y : ℤ) → negsuc 0 -ℤ pos n ≡ y → unsigned_bits y ≡ 4294967295 - n % 4294967296
    by (pos k) e = absurd (omega (arith, ints, e))
    by (negsuc k) e = omega (arith, ints, e)
turned_word (negsuc n) = by (negsuc 0 -ℤ negsuc n) refl
  where
    by : (y : ℤ) → negsuc 0 -ℤ negsuc n ≡ y → unsigned_bits y ≡ 4294967295 - (4294967295 - n % 4294967296)
    by (pos k) e = omega (arith, ints, e)
    by (negsuc k) e = absurd (omega (arith, ints, e))

-- the complement of a number with a sign is one
turned_holds : (z : ℤ) → holds int_type z ≡ true → holds int_type (negsuc 0 -ℤ z) ≡ true
turned_holds (pos n) h = by (negsuc 0 -ℤ pos n) refl
  where
    le : n ≤ 2147483647
    le = leb-true n 2147483647 h

    by : (y : ℤ) → negsuc 0 -ℤ pos n ≡ y → holds int_type y ≡ true
    by (pos k) e = absurd (omega (arith, ints, e))
    by (negsuc k) e = let bound = le in let small : k ≤ 2147483647 = omega (arith, ints, e, bound) in let a : int_le (negsuc 2147483647) (negsuc k) ≡ true = grind (arith, nat_tests, small) in ap (λ c. c && true) a
turned_holds (negsuc n) h = by (negsuc 0 -ℤ negsuc n) refl
  where
    le : n ≤ 2147483647
    le = leb-true n 2147483647 (both_true (int_le (negsuc 2147483647) (negsuc n)) true h).0

    by : (y : ℤ) → negsuc 0 -ℤ negsuc n ≡ y → holds int_type y ≡ true
    by (pos k) e = let bound = le in let small : k ≤ 2147483647 = omega (arith, ints, e, bound) in grind (arith, nat_tests, small)
    by (negsuc k) e = absurd (omega (arith, ints, e))

-- its word is that of the complement
complement_word : (t : IntegerType) → is_promoted t ≡ true → (z : ℤ) → holds (integer t) z ≡ true → unsigned_bits (converted (integer t) (negsuc 0 -ℤ z)) ≡ unsigned_bits (negsuc 0 -ℤ z)
complement_word Char p z h = cc
complement_word SignedChar p z h = cc
complement_word UnsignedChar p z h = cc
complement_word Short p z h = cc
complement_word UnsignedShort p z h = cc
complement_word Int p z h = kept_word Int Int (negsuc 0 -ℤ z) refl (turned_holds z h)
complement_word UnsignedInt p z h = word_unsigned (negsuc 0 -ℤ z)
complement_word Long p z h = kept_word Int Int (negsuc 0 -ℤ z) refl (turned_holds z h)
complement_word UnsignedLong p z h = word_unsigned (negsuc 0 -ℤ z)

complement_computes : (t : IntegerType) → is_promoted t ≡ true → (z : ℤ) → holds (integer t) z ≡ true → operated_words operation.Xor (unsigned_bits z) 4294967295 ≡ unsigned_bits (converted (integer t) (negsuc 0 -ℤ z))
unfolding operated_words
complement_computes t p z h = turned_bits (unsigned_bits z) (word_below z) ∙ sym (turned_word z) ∙ sym (complement_word t p z h)

module _ (x : Setting) (calls : Calls) (low : ScalarsFirst x) (ty : IntegerType) (promoted : is_promoted ty ≡ true) (e : RvalueTree) (kind_e : kind_of x.program x.tree e ≡ Of (Integer ty)) (typed_e : Typed x calls e) (low_e : Low x e) (does_e : Does x calls e) where
  abbrev own_at : ℕ → ℕ
  own_at t = pick (names_in x) t (laid (names_in x) e Anywhere t).next

  abbrev last_at : ℕ → Goal → Made
  last_at t g = operated (names_in x) g t (laid (names_in x) e Anywhere t).next (λ k. Operate k operation.Xor (value_in x e t) (unit.Constant 4294967295))

  complements : (t : ℕ) (g : Goal) (s : State) (l : Local) (w : World) → size_in x ≤ t → Fits x None s l w → (v : source-value.Value) → HasKind s.memory (Of (Integer ty)) v → SameValue x.program s.memory w.memory v (value x.unit.statics l.names (value_in x e t))
      → Result x g (Name (own_at t)) t (λ y. false) (last_at t g).ops (last_at t g).end l w (value_or_undefined (value_with_sign Complement ty v) s)
  complements t g s l w size fits (source.Number z) is same =
      let le = pick_between (names_in x) t (laid (names_in x) e Anywhere t).next t (omega arith) (low_e t size).next in
      let r = converted (integer ty) (negsuc 0 -ℤ z) in
      operated_done x g (own_at t) t (λ y. false) (λ k. Operate k operation.Xor (value_in x e t) (unit.Constant 4294967295)) (source.Number r) (operate operation.Xor (value x.unit.statics l.names (value_in x e t)) (Number 4294967295)) s l w low le (omega (arith, le, size)) fits (λ k ops end. refl)
      (ap (λ a. operate operation.Xor a (Number 4294967295)) same ∙ ap Number (complement_computes ty promoted z is)) (in_word ty r (wrapped_holds ty (negsuc 0 -ℤ z)))
  complements t g s l w size fits source.Null is same = absurd is
  complements t g s l w size fits (source.Pointer n o) is same = absurd is

  pub complement_does : Does x calls (Signed Complement ty e)
  complement_does t g s l w size st sound fits aims =
      let m = last_at t g in
      let c = code_in x e t (To None m) in
      with_then x None g m (Name (own_at t)) (value_in x e t) t t t (written_by x e) (written_by x e) (λ y. false) c.ops c.end l w (evaluate calls (depth_in x) e s) (λ v s1. value_or_undefined (value_with_sign Complement ty v) s1) (omega arith) (omega arith) (λ y lt nf. (refl, nf, refl))
      (does_e t (To None m) s l w size st sound fits tt)
      (λ v s1 is h. (let gave = subst (Keeps x.program x.begun s.memory (Of (Integer ty))) is (subst (λ k. Keeps x.program x.begun s.memory k (evaluate calls (depth_in x) e s)) kind_e (typed_e s sound)) in complements t g s1 h.reached.local h.reached.world size h.reached.fits v gave.is h.same))
