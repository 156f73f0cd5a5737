-- What operations make of words that mean values means what they make of the values.
use Rattle.std.proofs.Common.{◌≡◌, ◌≢◌, ℕ, suc, ◌+◌, ◌-◌, ◌%◌, ◌<◌, ◌≤◌, ⊎_elim, sym, ap, ◌∙◌, subst, arith, refl, Option, Some, None, Bool, true, false, cond}
use Rattle.std.specs.Prelude.{◌==◌, ◌&&◌, nat_lt, nat_le, slice_get, option_map, int_lt, pos, negsuc}
use Rattle.std.specs.Option.{option_map_or}
use Rattle.std.proofs.lemmas.Bool.{eqb-true, eq-eqb, ne_eqb, lt-ltb, le-ltb, cases_lt, leb-true}
use mir.Val.{sel}
use Rattle.memory_map.specs.declared.map.Map.{Map}
use Rattle.memory_map.specs.Maps.{bytes_end, bytes_start, stack_end, stack_start}
use Rattle.memory_map.proofs.Facts.{map_facts}
use Rattle.word_base.specs.Words.{signed_number, word_of_test}
use Rattle.word_base.specs.WordOperations.{word_operation, truncated}
use Rattle.word_base.specs.declared.operation.Operation.{Operation}
use Rattle.word_base.specs.declared.operation.Operation.TheVariants.{Add, Sub, Mul, Div, Divu, Rem, Remu, Sll, Srl, Sra, And, Or, Xor, Slt, Sltu}
use Rattle.word_base.specs.declared.operation.Truncation.{Truncation}
use Rattle.graph_core.specs.declared.value.Value.{Value}
use Rattle.graph_core.specs.declared.value.Value.TheVariants.{Number, Pointer, Odd}
use Rattle.graph_core.specs.Values.{word, truth_word, pointer_at, moved_by, moving, between, operate, truncate, same}
use Rattle.graph_core.specs.Memory.{Memory, Object, bytes_of, is_live}
use Rattle.rv_emit_steps.specs.Meaning.{size_at, Means, AreLaid}

-- ---- Addresses

-- The object of a size that is known.
pub record IsObjectAt (memory : Memory) (n size : ℕ) : Type 0 where
  pub object : Object
  pub is : slice_get memory n ≡ Some object
  pub bytes : size ≡ bytes_of object

pub object_at : (memory : Memory) (n size : ℕ) → size_at memory n ≡ Some size → IsObjectAt memory n size
object_at memory n size e = by_some (slice_get memory n) refl e
  where
    by_some : (o : Option Object) → slice_get memory n ≡ o → option_map bytes_of o ≡ Some size → IsObjectAt memory n size
    by_some None is e2 = cc
    by_some (Some o) is e2 = let b : bytes_of o ≡ size = cc in record { object = o; is = is; bytes = sym b }

-- An object lies between 2^12 and 2^31.
pub lies_low : {m : Map} (addresses : ℕ → ℕ) (memory : Memory) (n size : ℕ) → AreLaid m addresses memory → size_at memory n ≡ Some size
    → (4096 ≤ addresses n) × (addresses n + size + 4 ≤ 2147483648)
lies_low {m} addresses memory n size laid e =
    let positive = (map_facts m).positive in
    let begins = (map_facts m).low in
    let between = (map_facts m).apart in
    let at : IsObjectAt memory n size = object_at memory n size e in
    let bytes : size ≡ bytes_of at.object = at.bytes in
    ⊎_elim
    (λ (h : (bytes_start m ≤ addresses n) × (addresses n + bytes_of at.object + 4 ≤ bytes_end m)). let l = h.0 in let r = h.1 in (omega arith, omega arith))
    (λ (h : (stack_start m ≤ addresses n) × (addresses n + bytes_of at.object + 4 ≤ stack_end m)). let l = h.0 in let r = h.1 in (omega arith, omega arith))
    (laid.lie n at.object at.is)

-- ---- Operations

module _ {m : Map} (addresses : ℕ → ℕ) (memory : Memory) (laid : AreLaid m addresses memory) where
  -- A pointer that is moved within its object, or to what is directly behind it.
  pointer_moved : (object size offset w : ℕ) → size_at memory object ≡ Some size → (offset ≤ size → w ≡ addresses object + offset) → Means addresses memory (pointer_at object size offset) w
  pointer_moved object size offset w at is = by_test (nat_le offset size) refl
    where
      by_test : (b : Bool) → nat_le offset size ≡ b → Means addresses memory (cond b (Pointer object size offset) Odd) w
      by_test true e = let le : offset ≤ size = leb-true offset size e in (at, le, is le)
      by_test false e = tt

  test_means : (b c : Bool) (w : ℕ) → b ≡ c → w ≡ word_of_test c → Means addresses memory (truth_word b) w
  test_means true true w e is = is
  test_means false false w e is = is
  test_means true false w e is = cc
  test_means false true w e is = cc

  -- A sum and a difference of a pointer and a word.
  sum_means : (object size offset by x : ℕ) → Means addresses memory (Pointer object size offset) x → by < 4294967296 → Means addresses memory (pointer_at object size (word (offset + by))) ((x + by) % 4294967296)
  sum_means object size offset by x (at, le, is) fits =
      let low = lies_low addresses memory object size laid at in
      let l = low.0 in let r = low.1 in
      pointer_moved object size (word (offset + by)) ((x + by) % 4294967296) at (λ within. omega arith)

  difference_means : (object size offset by x : ℕ) → Means addresses memory (Pointer object size offset) x → by < 4294967296 → Means addresses memory (pointer_at object size (word (offset + (4294967296 - by)))) ((x + (4294967296 - by)) % 4294967296)
  difference_means object size offset by x (at, le, is) fits =
      let low = lies_low addresses memory object size laid at in
      let l = low.0 in let r = low.1 in
      pointer_moved object size (word (offset + (4294967296 - by))) ((x + (4294967296 - by)) % 4294967296) at (λ within. omega arith)

  -- Which of two addresses is the lower, as signed words too.
  same_order : (a m n : ℕ) → nat_lt m n ≡ nat_lt (a + m) (a + n)
  same_order a m n = ⊎_elim (λ (l : m < n). lt-ltb m n l ∙ sym (lt-ltb (a + m) (a + n) (omega arith))) (λ (g : n ≤ m). le-ltb m n g ∙ sym (le-ltb (a + m) (a + n) (omega arith))) (cases_lt m n)

  signed_low : (x : ℕ) → x < 2147483648 → signed_number x ≡ pos x
  signed_low x low = ap (λ b. sel b (pos x) (negsuc (4294967296 - suc x))) (lt-ltb x 2147483648 low)

  between_means : (o : Operation) (object size m n x y : ℕ) → Means addresses memory (Pointer object size m) x → Means addresses memory (Pointer object size n) y → Means addresses memory (between o m n) (word_operation o x y)
  unfolding word_operation
  between_means Sub object size m n x y (at, le, is) (at2, le2, is2) =
      let low = lies_low addresses memory object size laid at in
      let l = low.0 in let r = low.1 in
      omega arith
  between_means Slt object size m n x y (at, le, is) (at2, le2, is2) =
      let low = lies_low addresses memory object size laid at in
      let l = low.0 in let r = low.1 in
      test_means (nat_lt m n) (nat_lt x y) _ (same_order (addresses object) m n ∙ ap (λ p. nat_lt p (addresses object + n)) (sym is) ∙ ap (nat_lt x) (sym is2))
      (ap (λ p. word_of_test (int_lt p (signed_number y))) (signed_low x (omega arith)) ∙ ap (λ p. word_of_test (int_lt (pos x) p)) (signed_low y (omega arith)))
  between_means Sltu object size m n x y (at, le, is) (at2, le2, is2) = test_means (nat_lt m n) (nat_lt x y) _ (same_order (addresses object) m n ∙ ap (λ p. nat_lt p (addresses object + n)) (sym is) ∙ ap (nat_lt x) (sym is2)) refl
  between_means Add object size m n x y a b = tt
  between_means Mul object size m n x y a b = tt
  between_means Div object size m n x y a b = tt
  between_means Divu object size m n x y a b = tt
  between_means Rem object size m n x y a b = tt
  between_means Remu object size m n x y a b = tt
  between_means Sll object size m n x y a b = tt
  between_means Srl object size m n x y a b = tt
  between_means Sra object size m n x y a b = tt
  between_means And object size m n x y a b = tt
  between_means Or object size m n x y a b = tt
  between_means Xor object size m n x y a b = tt

  moved_means : (o : Operation) (object size offset by x : ℕ) → Means addresses memory (Pointer object size offset) x → by < 4294967296 → Means addresses memory (moved_by o object size offset by) (word_operation o x by)
  unfolding word_operation
  moved_means Add object size offset by x a fits = sum_means object size offset by x a fits
  moved_means Sub object size offset by x a fits = difference_means object size offset by x a fits
  moved_means Mul object size offset by x a fits = tt
  moved_means Div object size offset by x a fits = tt
  moved_means Divu object size offset by x a fits = tt
  moved_means Rem object size offset by x a fits = tt
  moved_means Remu object size offset by x a fits = tt
  moved_means Sll object size offset by x a fits = tt
  moved_means Srl object size offset by x a fits = tt
  moved_means Sra object size offset by x a fits = tt
  moved_means And object size offset by x a fits = tt
  moved_means Or object size offset by x a fits = tt
  moved_means Xor object size offset by x a fits = tt
  moved_means Slt object size offset by x a fits = tt
  moved_means Sltu object size offset by x a fits = tt

  moving_means : (o : Operation) (object size offset by x : ℕ) → Means addresses memory (Pointer object size offset) x → by < 4294967296 → Means addresses memory (moving o by object size offset) (word_operation o by x)
  unfolding word_operation
  moving_means Add object size offset by x a fits =
      let e : (x + by) % 4294967296 ≡ (by + x) % 4294967296 = omega arith in
      subst (λ w. Means addresses memory (pointer_at object size (word (offset + by))) w) e (sum_means object size offset by x a fits)
  moving_means Sub object size offset by x a fits = tt
  moving_means Mul object size offset by x a fits = tt
  moving_means Div object size offset by x a fits = tt
  moving_means Divu object size offset by x a fits = tt
  moving_means Rem object size offset by x a fits = tt
  moving_means Remu object size offset by x a fits = tt
  moving_means Sll object size offset by x a fits = tt
  moving_means Srl object size offset by x a fits = tt
  moving_means Sra object size offset by x a fits = tt
  moving_means And object size offset by x a fits = tt
  moving_means Or object size offset by x a fits = tt
  moving_means Xor object size offset by x a fits = tt
  moving_means Slt object size offset by x a fits = tt
  moving_means Sltu object size offset by x a fits = tt

  same_object : (object size other size' n y : ℕ) → object ≡ other → size_at memory object ≡ Some size → Means addresses memory (Pointer other size' n) y → Means addresses memory (Pointer object size n) y
  same_object object size other size' n y one at (at2, le, is) =
      let sizes : size' ≡ size = let e : Some size' ≡ Some size = sym at2 ∙ ap (size_at memory) (sym one) ∙ at in cc in
      (at, subst (λ s. n ≤ s) sizes le, is ∙ ap (λ k. addresses k + n) (sym one))

  -- What an operation makes of two values.
  pub operation_means : (o : Operation) (a b : Value) (x y : ℕ) → x < 4294967296 → y < 4294967296 → Means addresses memory a x → Means addresses memory b y → Means addresses memory (operate o a b) (word_operation o x y)
  operation_means o (Number a) (Number b) x y hx hy ma mb = ap (λ n. word_operation o n y) ma ∙ ap (word_operation o a) mb
  operation_means o (Number a) (Pointer object size n) x y hx hy ma mb = subst (λ k. Means addresses memory (moving o k object size n) (word_operation o x y)) ma (moving_means o object size n x y mb hx)
  operation_means o (Number a) Odd x y hx hy ma mb = tt
  operation_means o (Pointer object size m) (Number b) x y hx hy ma mb = subst (λ k. Means addresses memory (moved_by o object size m k) (word_operation o x y)) mb (moved_means o object size m y x ma hy)
  operation_means o (Pointer object size m) (Pointer other size' n) x y hx hy ma mb = by_test (object == other) refl
    where
      by_test : (b : Bool) → (object == other) ≡ b → Means addresses memory (cond b (between o m n) Odd) (word_operation o x y)
      by_test true is =
          let one : object ≡ other = eqb-true object other is in
          between_means o object size m n x y ma (same_object object size other size' n y one ma.0 mb)
      by_test false is = tt
  operation_means o (Pointer object size m) Odd x y hx hy ma mb = tt
  operation_means o Odd b x y hx hy ma mb = tt

  -- What a truncation leaves of a value.
  pub truncation_means : (t : Truncation) (a : Value) (x : ℕ) → Means addresses memory a x → Means addresses memory (truncate t a) (truncated t x)
  truncation_means t (Number a) x ma = ap (truncated t) ma
  truncation_means t (Pointer object size n) x ma = tt
  truncation_means t Odd x ma = tt

  -- Pointers into one object are the same at the same offset.
  one_object : (m n x y a : ℕ) → x ≡ a + m → y ≡ a + n → (m == n) ≡ (x == y)
  one_object m n x y a ex ey = by_test (m == n) refl
    where
      by_test : (c : Bool) → (m == n) ≡ c → c ≡ (x == y)
      by_test true e = let same_offset : m ≡ n = eqb-true m n e in sym (eq-eqb x y (ex ∙ ap (λ k. a + k) same_offset ∙ sym ey))
      by_test false e = sym (ne_eqb x y (λ f. cc (eq-eqb m n (omega (arith, ex, ey, f)))))

  -- Pointers into two live objects differ.
  live_object : (n : ℕ) (o : Object) → slice_get memory n ≡ Some o → is_live memory n ≡ true → o.live ≡ true
  live_object n o is live = ap (λ (p : Option Object). option_map_or (λ (q : Object). q.live) p false) (sym is) ∙ live

  differ : (object size m x other size' n y : ℕ) → Means addresses memory (Pointer object size m) x → Means addresses memory (Pointer other size' n) y → is_live memory object ≡ true → is_live memory other ≡ true → object ≢ other → x ≢ y
  differ object size m x other size' n y (at, le, is) (at2, le2, is2) live live2 ne =
      let a : IsObjectAt memory object size = object_at memory object size at in
      let b : IsObjectAt memory other size' = object_at memory other size' at2 in
      let ab : size ≡ bytes_of a.object = a.bytes in
      let bb : size' ≡ bytes_of b.object = b.bytes in
      ⊎_elim
      (λ (h : addresses object + bytes_of a.object < addresses other). λ e. omega (arith, h, ab, bb, le, le2, is, is2, e))
      (λ (h : addresses other + bytes_of b.object < addresses object). λ e. omega (arith, h, ab, bb, le, le2, is, is2, e))
      (laid.apart object other a.object b.object ne a.is b.is (live_object object a.object a.is live) (live_object other b.object b.is live2))

  -- Whether two values are one.
  pub same_means : (a b : Value) (x y : ℕ) → Means addresses memory a x → Means addresses memory b y → Means addresses memory (same (is_live memory) a b) (word_of_test (x == y))
  same_means (Number a) (Number b) x y ma mb = test_means (a == b) (x == y) _ (ap (λ n. n == b) (sym ma) ∙ ap (λ n. x == n) (sym mb)) refl
  same_means (Number a) (Pointer object size n) x y ma (at, le, is) = by_test (a == 0) refl
    where
      by_test : (c : Bool) → (a == 0) ≡ c → Means addresses memory (cond c (Number 0) Odd) (word_of_test (x == y))
      by_test true e = let low = (lies_low addresses memory object size laid at).0 in let none : a ≡ 0 = eqb-true a 0 e in ap word_of_test (ne_eqb x y (λ f. omega (arith, ma, none, is, low, f)))
      by_test false e = tt
  same_means (Number a) Odd x y ma mb = tt
  same_means (Pointer object size m) (Number b) x y (at, le, is) mb = by_test (b == 0) refl
    where
      by_test : (c : Bool) → (b == 0) ≡ c → Means addresses memory (cond c (Number 0) Odd) (word_of_test (x == y))
      by_test true e = let low = (lies_low addresses memory object size laid at).0 in let none : b ≡ 0 = eqb-true b 0 e in ap word_of_test (ne_eqb x y (λ f. omega (arith, mb, none, is, low, f)))
      by_test false e = tt
  same_means (Pointer object size m) (Pointer other size' n) x y (at, le, is) (at2, le2, is2) = by_test (is_live memory object) (is_live memory other) refl refl
    where
      by_test : (c d : Bool) → is_live memory object ≡ c → is_live memory other ≡ d → Means addresses memory (cond (c && d) (truth_word (object == other && m == n)) Odd) (word_of_test (x == y))
      by_test true true ec ed = test_means (object == other && m == n) (x == y) _ (by_object (object == other) refl) refl
        where
          by_object : (c : Bool) → (object == other) ≡ c → (c && m == n) ≡ (x == y)
          by_object true e = let one : object ≡ other = eqb-true object other e in one_object m n x y (addresses object) is (is2 ∙ ap (λ k. addresses k + n) (sym one))
          by_object false e = sym (ne_eqb x y (differ object size m x other size' n y (at, le, is) (at2, le2, is2) ec ed (λ one. cc (eq-eqb object other one))))
      by_test true false ec ed = tt
      by_test false d ec ed = tt
  same_means (Pointer object size m) Odd x y ma mb = tt
  same_means Odd b x y ma mb = tt
