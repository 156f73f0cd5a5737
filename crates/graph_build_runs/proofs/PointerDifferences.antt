-- Differences of pointers: the distance in bytes over the size of what they point to is what the source tells.
use Rattle.std.proofs.Common.{◌≡◌, ℕ, zero, suc, ◌+◌, ◌-◌, ◌*◌, ◌/◌, ◌^◌, ◌<◌, ◌≤◌, ◌⊎◌, inl, inr, ◌∷◌, Option, Some, None, Bool, true, false, not, ◌&&◌, refl, sym, ap, ◌∙◌, subst, arith, ℤ, pos, negsuc, neg_ℤ, ◌-ℤ◌}
use Rattle.std.specs.Prelude.{◌==◌, if◌then◌else◌, int_div, option_map}
use Rattle.std.proofs.Math.Nat.{add-mul, mul-div_cancel, div-eq_of_lt-le}
use Rattle.std.proofs.lemmas.Bool.{eqb-true}
use Rattle.std.proofs.lemmas.Bool.Decides.{nat_tests}
use Rattle.std.proofs.lemmas.Int.{ints}
use Rattle.word_base.specs.Types.{holds, in_range, int_type, unsigned_type, bits_of}
use Rattle.word_base.specs.Operations.{is_shift_count}
use Rattle.word_base.specs.Words.{shifted_down}
use Rattle.word_base.specs.WordOperations.{word_operation as operated_words}
use Rattle.word_base.specs.declared.operation.Operation.TheVariants as operation
use Rattle.c_tree.specs.declared.types.IntegerType.TheVariants.{Int}
use Rattle.c_tree.specs.declared.object_type.ObjectType.{ObjectType}
use Rattle.c_tree.specs.declared.object_type.ValueType.TheVariants.{Integer, Pointer as PointerType}
use Rattle.c_tree.specs.TypedExpressions.{RvalueTree, Difference}
use Rattle.c_type_rules.specs.Integers.{object_size}
use Rattle.c_type_laws.specs.Kind.{Of}
use Rattle.c_type_laws.specs.Kinds.{is_of}
use Rattle.c_type_laws.specs.Expressions.{kind_of}
use Rattle.c_meaning_values.specs.declared.value.Value as source-value
use Rattle.c_meaning_values.specs.declared.value.Value.TheVariants as source
use Rattle.c_meaning_values.specs.Types.{size}
use Rattle.c_meaning_values.specs.Memory.{is_usable, bytes_of}
use Rattle.c_meaning_values.specs.Operations.{elements_from, elements_between, pointer_difference}
use Rattle.c_meaning_steps.specs.declared.event.Ending.TheVariants as ending
use Rattle.c_meaning_steps.specs.States.{State, Gives, value_or_undefined}
use Rattle.c_meaning.specs.Expressions.{Calls, evaluate}
use Rattle.graph_core.specs.declared.value.Value.{Value}
use Rattle.graph_core.specs.declared.value.Value.TheVariants.{Number}
use Rattle.graph_core.specs.Graphs.{Name, Operate}
use Rattle.graph_core.specs.Runs.{with_value_at, value}
use Rattle.graph_core.specs.Values.{operate}
use Rattle.graph_build_names.specs.Conversions.{unsigned_bits}
use Rattle.graph_build_names.specs.Scales.{shift_of}
use Rattle.graph_build_names.specs.Names.{pick}
use Rattle.graph_build_layout.specs.Laid.{behind_move}
use Rattle.graph_build_steps.specs.Drafts.{Made, Goal, instruction_before, target, follow, operated, unscaling}
use Rattle.graph_build_runs.specs.Typed.{PointsInto, IsOf}
use Rattle.graph_build_runs.specs.Correspondence.{SamePointer, SameValue}
use Rattle.graph_build_runs.proofs.Words.{in_word}
use Rattle.graph_build_runs.proofs.Leads.{Setting, names_in, size_in, depth_in, Local, World, put_here}
use Rattle.graph_build_runs.proofs.Later.{later_refl}
use Rattle.graph_build_runs.proofs.Kept.{Sound, Fits, ScalarsFirst}
use Rattle.graph_build_runs.proofs.Results.{Result, stuck_now, ended_result}
use Rattle.graph_build_runs.proofs.Leaves.{operated_done, two_done}
use Rattle.graph_build_runs.proofs.Typing.{Keeps, Typed}
use Rattle.graph_build_runs.proofs.Types.{kind_is_of}
use Rattle.graph_build_runs.proofs.Standing.{Grows}
use Rattle.graph_build_runs.proofs.Operands.{Does, Low, Spares, behind_le, pair_in, pair_does}
use Rattle.graph_build_runs.proofs.Arithmetic.{pick_between}
use Rattle.graph_build_runs.proofs.Wholes.{stands_at, offset_within, size_within}
use Rattle.graph_build_runs.proofs.Meant.{both_typed}
use Rattle.graph_build_runs.proofs.Products.{divide_computes, right_computes}
use Rattle.graph_build_runs.proofs.Scaling.{shift_is}
use Rattle.graph_build_runs.proofs.Moving.{AreSmall, size_is}
use Rattle.graph_build_runs.proofs.TwoPointers.{distance_pointers}

-- A distance in bytes is one in whole elements of a size.
pub data Whole (size : ℕ) : (bytes elements : ℤ) → Type 0 where
  forward : (m : ℕ) → Whole size (pos (m * size)) (pos m)
  back : (m n : ℕ) → suc n ≡ suc m * size → Whole size (negsuc n) (negsuc m)

-- which of two numbers is the greater, and by how much
gap : (a b : ℕ) → ((m : ℕ) × (a ≡ b + m)) ⊎ ((m : ℕ) × (b ≡ a + suc m))
gap a zero = inl (a, omega arith)
gap zero (suc b) = inr (b, omega arith)
gap (suc a) (suc b) = elim (gap a b) [
  | inl c ↦ inl (c.0, let e = c.1 in omega (arith, e))
  | inr c ↦ inr (c.0, let e = c.1 in omega (arith, e))
]

up : (i j n : ℕ) → i ≡ j + n → pos i -ℤ pos j ≡ pos n
up i zero n e = omega (arith, ints, e)
up i (suc j) n e = omega (arith, ints, e)

down : (i j n : ℕ) → j ≡ i + suc n → pos i -ℤ pos j ≡ negsuc n
down i zero n e = absurd (omega (arith, e))
down i (suc j) n e = omega (arith, ints, e)

-- between two multiples of a size lies one
pub whole_between : (size i j a b : ℕ) → 0 < size → i ≡ a * size → j ≡ b * size → (z : ℤ) × Whole size (pos i -ℤ pos j) z
whole_between size i j a b some is_i is_j = elim (gap a b) [
  | inl c ↦
      let m = c.0 in
      let e = c.1 in
      let more : i ≡ j + m * size = is_i ∙ ap (λ k. k * size) e ∙ add-mul b m size ∙ ap (λ k. k + m * size) (sym is_j) in (pos m, subst (λ y. Whole size y (pos m)) (sym (up i j (m * size) more)) (forward m))
  | inr c ↦
      let m = c.0 in
      let e = c.1 in
      let n = m * size + (size - 1) in
      let one : suc n ≡ suc m * size = omega (arith, some) in
      let less : j ≡ i + suc n = is_j ∙ ap (λ k. k * size) e ∙ add-mul a (suc m) size ∙ ap (λ k. k + suc m * size) (sym is_i) ∙ ap (λ k. i + k) (sym one) in
      (negsuc m, subst (λ y. Whole size y (negsuc m)) (sym (down i j n less)) (back m n one))
]

-- The quotient of such a distance are the elements,
quotient_is : (size : ℕ) (y z : ℤ) → 0 < size → Whole size y z → int_div y (pos size) ≡ z
quotient_is size y z some (forward m) = ap pos (mul-div_cancel m some)
quotient_is size y z some (back m n e) = ap (λ k. neg_ℤ (pos (k / size))) e ∙ ap (λ k. neg_ℤ (pos k)) (mul-div_cancel (suc m) some)

-- a shift gives them where the size is a power of 2,
shift_down : (size k : ℕ) (y z : ℤ) → 0 < size → 2 ^ k ≡ size → Whole size y z → shifted_down y k ≡ z
shift_down size k y z some power (forward m) = ap (λ q. pos (m * size / q)) power ∙ ap pos (mul-div_cancel m some)
shift_down size k y z some power (back m n e) = ap (λ q. negsuc (n / q)) power ∙ ap negsuc (div-eq_of_lt-le size (omega (arith, e, some)) (omega (arith, e)))

-- and where it is 1 the distance is.
ones : (y z : ℤ) → Whole 1 y z → y ≡ z
ones y z (forward m) = ap pos (omega arith)
ones y z (back m n e) = ap negsuc (omega (arith, e))

-- numbers that are near are such of 32 bits with a sign
holds_pos : (n : ℕ) → n < 2147483648 → holds int_type (pos n) ≡ true
holds_pos n lt = grind (arith, nat_tests, lt)

holds_negative : (n : ℕ) → n < 2147483648 → holds int_type (negsuc n) ≡ true
holds_negative n lt = grind (arith, nat_tests, lt)

holds_between : (i j : ℕ) → i < 2147483648 → j < 2147483648 → holds int_type (pos i -ℤ pos j) ≡ true
holds_between i j hi hj = elim (gap i j) [
  | inl c ↦ let e = c.1 in ap (holds int_type) (up i j c.0 e) ∙ holds_pos c.0 (omega (arith, e, hi))
  | inr c ↦ let e = c.1 in ap (holds int_type) (down i j c.0 e) ∙ holds_negative c.0 (omega (arith, e, hj))
]

-- the machine's quotient
divided_word : (size : ℕ) (y z : ℤ) → 0 < size → size < 2147483648 → holds int_type y ≡ true → holds int_type z ≡ true → Whole size y z → operated_words operation.Div (unsigned_bits y) (bits_of unsigned_type (pos (1 * size))) ≡ unsigned_bits z
divided_word size y z some small hy hz w =
    let one : 1 * size ≡ size = omega arith in
    let nonzero : size == 0 ≡ false = grind (arith, nat_tests, some) in
    let gives : (if size == 0 then None else in_range int_type (int_div y (pos size))) ≡ Some z =
    ap (λ c. if c then None else in_range int_type (int_div y (pos size))) nonzero ∙ ap (in_range int_type) (quotient_is size y z some w) ∙ ap (λ c. if c then Some z else None) hz in
    ap (λ k. operated_words operation.Div (unsigned_bits y) (bits_of unsigned_type (pos k))) one ∙ (divide_computes Int refl y (pos size) z hy (holds_pos size small) gives).0

-- and its shift
shifted_word : (size k : ℕ) (y z : ℤ) → 0 < size → 2 ^ k ≡ size → k < 32 → holds int_type y ≡ true → Whole size y z → operated_words operation.Sra (unsigned_bits y) k ≡ unsigned_bits z
shifted_word size k y z some power lt hy w =
    let same : k ≡ unsigned_bits (pos k) = omega (arith, lt) in
    let counts : is_shift_count int_type (pos k) ≡ true = grind (arith, nat_tests, lt) in
    let gives : (if is_shift_count int_type (pos k) then Some (shifted_down y k) else None) ≡ Some z = ap (λ c. if c then Some (shifted_down y k) else None) counts ∙ ap Some (shift_down size k y z some power w) in
    ap (operated_words operation.Sra (unsigned_bits y)) same ∙ (right_computes Int refl y (pos k) z hy (omega (arith, lt)) gives).0

-- What the unit's instruction gives of two pointers, where the source tells how many elements lie between them.
pub data Measured (bytes : ℕ) (a b : Value) : Option source-value.Value → Type 0 where
  nothing : Measured bytes a b None
  measured : (y z : ℤ) → operate operation.Sub a b ≡ Number (unsigned_bits y) → 0 < bytes → bytes < 2147483648 → holds int_type y ≡ true → holds int_type z ≡ true → Whole bytes y z → Measured bytes a b (Some (source.Number z))

module _ (x : Setting) (want : Option ℕ) (s : State) (l : Local) (w : World) (small : AreSmall x.program) (sound : Sound x.program x.begun s) (f : Fits x want s l w) (of : ObjectType) where
  -- two pointers into one object
  one_measured : (n i j : ℕ) (a b : Value) → PointsInto s.memory of n i → PointsInto s.memory of n j → is_usable s.memory (source.Pointer n i) ≡ true → SamePointer x.program s.memory w.memory n i a → SamePointer x.program s.memory w.memory n j b
      → Measured (size of) a b (option_map source.Number (elements_from (size of) i j))
  one_measured n i j a b c d usable sa sb = by_size (size of == 0) refl
    where
      small_c : bytes_of c.object < 2147483648
      small_c = small c.object.owner c.object (sound.declared n c.object c.is)

      small_d : bytes_of d.object < 2147483648
      small_d = small d.object.owner d.object (sound.declared n d.object d.is)

      below_i : i < 2147483648
      below_i = let le = offset_within s.memory of n i c in let lt = small_c in omega (arith, le, lt)

      below_j : j < 2147483648
      below_j = let le = offset_within s.memory of n j d in let lt = small_d in omega (arith, le, lt)

      by_range : 0 < size of → (c : Bool) → holds int_type (int_div (pos i -ℤ pos j) (pos (size of))) ≡ c → Measured (size of) a b (option_map source.Number (if c then Some (int_div (pos i -ℤ pos j) (pos (size of))) else None))
      by_range some false e = nothing
      by_range some true e =
          let p = stands_at s.memory of n i c in
          let q = stands_at s.memory of n j d in
          let y = pos i -ℤ pos j in
          let z = whole_between (size of) i j p.0 q.0 some p.1 q.1 in
          measured y (int_div y (pos (size of))) (distance_pointers x want s l w sound f n i j a b (omega (arith, below_i)) (omega (arith, below_j)) usable sa sb) some (size_within s.memory of n i 2147483648 c (omega arith) small_c)
          (holds_between i j below_i below_j) e (subst (Whole (size of) y) (sym (quotient_is (size of) y z.0 some z.1)) z.1)

      by_size : (none : Bool) → size of == 0 ≡ none → Measured (size of) a b (option_map source.Number (if none then None else in_range int_type (int_div (pos i -ℤ pos j) (pos (size of)))))
      by_size true e = nothing
      by_size false e = by_range (grind (arith, nat_tests, e)) (holds int_type (int_div (pos i -ℤ pos j) (pos (size of)))) refl

  both_measured : (v u : source-value.Value) (a b : Value) → IsOf s.memory (PointerType of) v → IsOf s.memory (PointerType of) u → is_usable s.memory v ≡ true → SameValue x.program s.memory w.memory v a → SameValue x.program s.memory w.memory u b → Measured (size of) a b (elements_between (size of) v u)
  both_measured (source.Number z) u a b pv pu usable sv su = nothing
  both_measured source.Null u a b pv pu usable sv su = nothing
  both_measured (source.Pointer n i) (source.Number z) a b pv pu usable sv su = nothing
  both_measured (source.Pointer n i) source.Null a b pv pu usable sv su = nothing
  both_measured (source.Pointer n i) (source.Pointer m j) a b pv pu usable sv su = by (n == m) refl
    where
      by : (c : Bool) → n == m ≡ c → Measured (size of) a b (if c then option_map source.Number (elements_from (size of) i j) else None)
      by false e = nothing
      by true e =
          let one : m ≡ n = sym (eqb-true n m e) in
          one_measured n i j a b pv (subst (λ k. PointsInto s.memory of k j) one pu) usable sv (subst (λ k. SamePointer x.program s.memory w.memory k j b) one su)

  -- The unit measures what the source does, where that is defined.
  pub pointers_measured : (v u : source-value.Value) (a b : Value) → IsOf s.memory (PointerType of) v → IsOf s.memory (PointerType of) u → SameValue x.program s.memory w.memory v a → SameValue x.program s.memory w.memory u b → Measured (object_size of) a b (pointer_difference s.memory of v u)
  pointers_measured v u a b pv pu sv su = subst (λ k. Measured k a b (pointer_difference s.memory of v u)) (sym (size_is of)) (by (is_usable s.memory v) (is_usable s.memory u) refl)
    where
      by : (c d : Bool) → is_usable s.memory v ≡ c → Measured (size of) a b (if c && d then elements_between (size of) v u else None)
      by false d e = nothing
      by true false e = nothing
      by true true e = both_measured v u a b pv pu e sv su

-- a difference is an `int`
pub difference_of : (x : Setting) (calls : Calls) (of : ObjectType) (a b : RvalueTree) → kind_of x.program x.tree (Difference of a b) ≡ Of (Integer Int) → Typed x calls a → Typed x calls b → Typed x calls (Difference of a b)
difference_of x calls of a b kind typed_a typed_b s sound =
    subst (λ k. Keeps x.program x.begun s.memory k (evaluate calls (depth_in x) (Difference of a b) s)) (sym kind)
    (both_typed x calls a b (Of (Integer Int)) (λ v w t. value_or_undefined (pointer_difference t.memory of v w) t) typed_a typed_b (λ v w s2 sound2 ka kb. by_use v w s2 sound2 (is_usable s2.memory v && is_usable s2.memory w)) s sound)
  where
    by_range : (s2 : State) (y : ℤ) → Sound x.program x.begun s2 → (c : Bool) → holds int_type y ≡ c → Keeps x.program x.begun s2.memory (Of (Integer Int)) (value_or_undefined (option_map source.Number (if c then Some y else None)) s2)
    by_range s2 y sound2 true e = record { sound = sound2; later = later_refl s2.memory; is = e }
    by_range s2 y sound2 false e = tt

    by_size : (i j : ℕ) (s2 : State) → Sound x.program x.begun s2 → (c : Bool) → Keeps x.program x.begun s2.memory (Of (Integer Int)) (value_or_undefined (option_map source.Number (if c then None else in_range int_type (int_div (pos i -ℤ pos j) (pos (size of))))) s2)
    by_size i j s2 sound2 true = tt
    by_size i j s2 sound2 false = by_range s2 (int_div (pos i -ℤ pos j) (pos (size of))) sound2 (holds int_type (int_div (pos i -ℤ pos j) (pos (size of)))) refl

    by_one : (i j : ℕ) (s2 : State) → Sound x.program x.begun s2 → (c : Bool) → Keeps x.program x.begun s2.memory (Of (Integer Int)) (value_or_undefined (if c then option_map source.Number (elements_from (size of) i j) else None) s2)
    by_one i j s2 sound2 true = by_size i j s2 sound2 (size of == 0)
    by_one i j s2 sound2 false = tt

    by_values : (v w : source-value.Value) (s2 : State) → Sound x.program x.begun s2 → Keeps x.program x.begun s2.memory (Of (Integer Int)) (value_or_undefined (elements_between (size of) v w) s2)
    by_values (source.Number z) w s2 sound2 = tt
    by_values source.Null w s2 sound2 = tt
    by_values (source.Pointer n i) (source.Number z) s2 sound2 = tt
    by_values (source.Pointer n i) source.Null s2 sound2 = tt
    by_values (source.Pointer n i) (source.Pointer m j) s2 sound2 = by_one i j s2 sound2 (n == m)

    by_use : (v w : source-value.Value) (s2 : State) → Sound x.program x.begun s2 → (c : Bool) → Keeps x.program x.begun s2.memory (Of (Integer Int)) (value_or_undefined (if c then elements_between (size of) v w else None) s2)
    by_use v w s2 sound2 true = by_values v w s2 sound2
    by_use v w s2 sound2 false = tt

module _ (x : Setting) (calls : Calls) (low : ScalarsFirst x) (small : AreSmall x.program) (of : ObjectType) (a b : RvalueTree) (fits_a : is_of (kind_of x.program x.tree a) (PointerType of) ≡ true) (fits_b : is_of (kind_of x.program x.tree b) (PointerType of) ≡ true)
    (typed_a : Typed x calls a) (typed_b : Typed x calls b) (low_a : Low x a) (low_b : Low x b) (spares_b : Spares x b) (grows_a : Grows (names_in x) x.place x.top x.graph a) (does_a : Does x calls a) (does_b : Does x calls b) where
  abbrev bytes_in : ℕ
  bytes_in = object_size of

  -- the instructions, by whether the size is 1
  abbrev made_by : Bool → ℕ → Goal → Made
  made_by one t g =
      if one then operated (names_in x) g t (pair_in x a b t).next (λ k. Operate k operation.Sub (pair_in x a b t).left (pair_in x a b t).right)
      else instruction_before (Operate (pick (names_in x) t (pair_in x a b t).next) operation.Sub (pair_in x a b t).left (pair_in x a b t).right)
      (operated (names_in x) g t ((pair_in x a b t).next + 1) (λ k. unscaling (shift_of bytes_in) bytes_in k (pick (names_in x) t (pair_in x a b t).next)))

  abbrev own_by : Bool → ℕ → ℕ
  own_by one t = pick (names_in x) t (behind_move (not one) (pair_in x a b t).next)

  next_above : (t : ℕ) → size_in x ≤ t → t ≤ (pair_in x a b t).next
  next_above t size =
      let q = pair_in x a b t in
      let first = (low_a t size).next in
      let held = behind_le q.moved q.moved_to in
      let second = (low_b q.from (omega (arith, size, first, held))).next in
      omega (arith, first, held, second)

  module _ (t : ℕ) (g : Goal) (at_least : size_in x ≤ t) (s : State) (l : Local) (w : World) (fits : Fits x None s l w) where
    abbrev left_value : Value
    left_value = value x.unit.statics l.names (pair_in x a b t).left

    abbrev right_value : Value
    right_value = value x.unit.statics l.names (pair_in x a b t).right

    abbrev temporary : ℕ
    temporary = pick (names_in x) t (pair_in x a b t).next

    above_temporary : t ≤ temporary
    above_temporary = pick_between (names_in x) t (pair_in x a b t).next t (omega arith) (next_above t at_least)

    above_own : t ≤ own_by false t
    above_own = let le = next_above t at_least in pick_between (names_in x) t ((pair_in x a b t).next + 1) t (omega arith) (omega (arith, le))

    -- a distance in bytes becomes one in elements
    unscaled : (y z : ℤ) → operate operation.Sub left_value right_value ≡ Number (unsigned_bits y) → 0 < bytes_in → bytes_in < 2147483648 → holds int_type y ≡ true → holds int_type z ≡ true → Whole bytes_in y z → (r : Option ℕ) → shift_of bytes_in ≡ r
        → Result x g (Name (own_by false t)) t (λ k. false) (Operate temporary operation.Sub (pair_in x a b t).left (pair_in x a b t).right ∷ (instruction_before (unscaling r bytes_in (target g (own_by false t)) temporary) (follow g (own_by false t))).ops)
        (instruction_before (unscaling r bytes_in (target g (own_by false t)) temporary) (follow g (own_by false t))).end l w (Gives (source.Number z) s)
    unscaled y z sub some few hy hz whole (Some k) e =
        let c = shift_is bytes_in k e in
        let given_word = operate operation.Sra (with_value_at l.names temporary (operate operation.Sub left_value right_value) temporary) (Number k) in
        two_done x g (own_by false t) temporary t (λ j. false) (λ j. Operate j operation.Sub (pair_in x a b t).left (pair_in x a b t).right) (λ j. unscaling (Some k) bytes_in j temporary) (source.Number z) (operate operation.Sub left_value right_value) given_word s l w low
        above_temporary (let le = above_temporary in omega (arith, le, at_least)) above_own (let le = above_own in omega (arith, le, at_least)) fits (λ j ops end. refl) (λ j ops end. refl)
        (ap (λ v. operate operation.Sra v (Number k)) (put_here l.names temporary (operate operation.Sub left_value right_value) ∙ sub) ∙ ap Number (shifted_word bytes_in k y z some c.0 c.1 hy whole)) (in_word Int z hz)
    unscaled y z sub some few hy hz whole None e =
        let divisor = Number (bits_of unsigned_type (pos (1 * bytes_in))) in
        let given_word = operate operation.Div (with_value_at l.names temporary (operate operation.Sub left_value right_value) temporary) divisor in
        two_done x g (own_by false t) temporary t (λ j. false) (λ j. Operate j operation.Sub (pair_in x a b t).left (pair_in x a b t).right) (λ j. unscaling None bytes_in j temporary) (source.Number z) (operate operation.Sub left_value right_value) given_word s l w low
        above_temporary (let le = above_temporary in omega (arith, le, at_least)) above_own (let le = above_own in omega (arith, le, at_least)) fits (λ j ops end. refl) (λ j ops end. refl)
        (ap (λ v. operate operation.Div v divisor) (put_here l.names temporary (operate operation.Sub left_value right_value) ∙ sub) ∙ ap Number (divided_word bytes_in y z some few hy hz whole)) (in_word Int z hz)

    counted : (y z : ℤ) → operate operation.Sub left_value right_value ≡ Number (unsigned_bits y) → 0 < bytes_in → bytes_in < 2147483648 → holds int_type y ≡ true → holds int_type z ≡ true → Whole bytes_in y z → (one : Bool) → bytes_in == 1 ≡ one
        → Result x g (Name (own_by one t)) t (λ k. false) (made_by one t g).ops (made_by one t g).end l w (Gives (source.Number z) s)
    counted y z sub some few hy hz whole true e =
        let same : y ≡ z = ones y z (subst (λ k. Whole k y z) (eqb-true bytes_in 1 e) whole) in
        operated_done x g temporary t (λ k. false) (λ k. Operate k operation.Sub (pair_in x a b t).left (pair_in x a b t).right) (source.Number z) (operate operation.Sub left_value right_value) s l w low above_temporary (let le = above_temporary in omega (arith, le, at_least)) fits (λ k ops end. refl)
        (sub ∙ ap (λ k. Number (unsigned_bits k)) same) (in_word Int z hz)
    counted y z sub some few hy hz whole false e = unscaled y z sub some few hy hz whole (shift_of bytes_in) refl

    by_measured : (one : Bool) → bytes_in == 1 ≡ one → {r : Option source-value.Value} → Measured bytes_in left_value right_value r → Result x g (Name (own_by one t)) t (λ k. false) (made_by one t g).ops (made_by one t g).end l w (value_or_undefined r s)
    by_measured one e nothing = ended_result x g (Name (own_by one t)) t (λ k. false) (made_by one t g).ops (made_by one t g).end l w ending.Undefined s (stuck_now x None (made_by one t g).ops (made_by one t g).end s l w fits)
    by_measured one e (measured y z sub some few hy hz whole) = counted y z sub some few hy hz whole one e

  -- The code of a difference does what it means.
  pub difference_does : Does x calls (Difference of a b)
  difference_does t g s l w size st sound fits aims =
      pair_does x calls low a b typed_a typed_b low_a spares_b grows_a does_a does_b t g (Name (own_by (bytes_in == 1) t)) (made_by (bytes_in == 1) t g) (λ v u s1. value_or_undefined (pointer_difference s1.memory of v u) s1) s l w size st sound fits
      (λ v u s1 l1 w1 sound1 fits1 same_v same_u kind_v kind_u. by_measured t g size s1 l1 w1 fits1 (bytes_in == 1) refl
      (pointers_measured x None s1 l1 w1 small sound1 fits1 of v u (value x.unit.statics l1.names (pair_in x a b t).left) (value x.unit.statics l1.names (pair_in x a b t).right)
      (kind_is_of s1.memory (kind_of x.program x.tree a) (PointerType of) v fits_a kind_v) (kind_is_of s1.memory (kind_of x.program x.tree b) (PointerType of) u fits_b kind_u) same_v same_u))
