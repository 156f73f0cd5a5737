-- Indices become distances in bytes.
use Rattle.std.proofs.Common.{◌≡◌, ℕ, zero, suc, ◌+◌, ◌*◌, ◌%◌, ◌^◌, ◌<◌, ◌≤◌, List, ◌∷◌, Option, Some, None, Bool, true, false, not, refl, sym, ap, ◌∙◌, arith, ℤ, pos, negsuc, ◌*ℤ◌}
use Rattle.std.specs.Prelude.{◌==◌, if◌then◌else◌}
use Rattle.std.proofs.lemmas.Bool.{eqb-true}
use Rattle.std.proofs.lemmas.Int.{ints}
use Rattle.std.proofs.lemmas.Nat.{mul-mod_second}
use Rattle.word_base.specs.Types.{unsigned_type, bits_of}
use Rattle.word_base.specs.WordOperations.{word_operation as operated_words}
use Rattle.word_base.specs.declared.operation.Operation.TheVariants as operation
use Rattle.graph_core.specs.declared.value.Value.{Value}
use Rattle.graph_core.specs.declared.value.Value.TheVariants.{Number}
use Rattle.graph_core.specs.Graphs.{Operand, Name, Constant, StaticAddress, Instruction, End}
use Rattle.graph_core.specs.Runs.{Goes, step, value}
use Rattle.graph_core.specs.Values.{operate}
use Rattle.graph_build_names.specs.Conversions.{unsigned_bits}
use Rattle.graph_build_names.specs.Scales.{shift_from, shift_of, scaled}
use Rattle.graph_build_steps.specs.Drafts.{Made, instruction_before, scaling, scale}
use Rattle.graph_build_runs.proofs.Leads.{Setting, size_in, Local, World, set_name, at, stays, goes, put_here, put_elsewhere}
use Rattle.graph_build_runs.proofs.Results.{Passes}
use Rattle.graph_build_runs.proofs.Products.{word_times}

-- An operand's index becomes a distance in bytes: what stands behind the instruction that scales it, if there is one.
pub record Scaled (x : Setting) (P : Local → Type 0) (bytes : ℕ) (by : Operand) (free : ℕ) (m : Made) (l : Local) (w : World) (z : ℤ) : Type 0 where
  pub local : Local
  pub leads : Passes x (scale bytes by free m).ops (scale bytes by free m).end l w m.ops m.end local w
  pub holds : P local
  pub index : value x.unit.statics local.names (scaled bytes by free) ≡ Number (unsigned_bits (z *ℤ pos bytes))
  pub kept : (y : ℕ) → y == free ≡ false → local.names y ≡ l.names y
  pub shadows : local.shadows ≡ l.shadows

-- a shift is by the logarithm of the size
power_is : (left k size j : ℕ) → shift_from left k size ≡ Some j → (2 ^ j ≡ size) × (j < k + left)
power_is zero k size j h = cc
power_is (suc left) k size j h = go (λ i. power_is left (k + 1) size j i) (2 ^ k == size) refl h
  where
    go : (shift_from left (k + 1) size ≡ Some j → (2 ^ j ≡ size) × (j < k + 1 + left)) → (b : Bool) → 2 ^ k == size ≡ b → (if b then Some k else shift_from left (k + 1) size) ≡ Some j → (2 ^ j ≡ size) × (j < k + suc left)
    go rest true e i = let same : k ≡ j = cc in let is = eqb-true (2 ^ k) size e in (ap (λ n. 2 ^ n) (sym same) ∙ is, omega (arith, same))
    go rest false e i = let c = rest i in (c.0, omega (arith, c.1))

pub shift_is : (size j : ℕ) → shift_of size ≡ Some j → (2 ^ j ≡ size) × (j < 32)
shift_is size j h = let c = power_is 32 0 size j h in (c.0, omega (arith, c.1))

pub times_one : (z : ℤ) → z *ℤ pos 1 ≡ z
times_one (pos n) = ap pos (omega arith)
times_one (negsuc n) = omega (arith, ints)

-- what the instruction that scales an index computes
scaling_gives : (bytes free : ℕ) (by : Operand) (z : ℤ) (x : Setting) (l : Local) (w : World) (ops : List Instruction) (end : End) → value x.unit.statics l.names by ≡ Number (unsigned_bits z) → (r : Option ℕ) → shift_of bytes ≡ r
    → step x.unit (at x (scaling r bytes free by ∷ ops) end l w) ≡ Goes (at x ops end (set_name l free (Number (unsigned_bits (z *ℤ pos bytes)))) w)
unfolding operated_words
scaling_gives bytes free by z x l w ops end is (Some k) e =
    let c = shift_is bytes k e in
    let lt = c.1 in
    let small : k % 32 ≡ k = omega (arith, lt) in
    ap (λ v. Goes (at x ops end (set_name l free (operate operation.Sll v (Number k))) w)) is
    ∙ ap (λ n. Goes (at x ops end (set_name l free (Number (unsigned_bits z * 2 ^ n % 4294967296))) w)) small ∙ ap (λ n. Goes (at x ops end (set_name l free (Number (unsigned_bits z * n % 4294967296))) w)) c.0
    ∙ ap (λ n. Goes (at x ops end (set_name l free (Number n)) w)) (word_times z bytes)
scaling_gives bytes free by z x l w ops end is None e =
    let one : bits_of unsigned_type (pos (1 * bytes)) ≡ bytes % 4294967296 = omega arith in
    ap (λ v. Goes (at x ops end (set_name l free (operate operation.Mul v (Number (bits_of unsigned_type (pos (1 * bytes)))))) w)) is
    ∙ ap (λ n. Goes (at x ops end (set_name l free (Number (unsigned_bits z * n % 4294967296))) w)) one ∙ ap (λ n. Goes (at x ops end (set_name l free (Number n)) w)) (mul-mod_second (unsigned_bits z) bytes 4294967296 ∙ word_times z bytes)

module _ (x : Setting) (P : Local → Type 0) (temporary : (l : Local) (j : ℕ) (v : Value) → size_in x ≤ j → P l → P (set_name l j v)) where
  -- an index that is no constant, of elements of one byte or of more
  scale_by : (bytes free : ℕ) (by : Operand) (m : Made) (l : Local) (w : World) (z : ℤ) → size_in x ≤ free → P l → value x.unit.statics l.names by ≡ Number (unsigned_bits z) → (b : Bool) → bytes == 1 ≡ b
      → (local : Local) × (Passes x (if not b then instruction_before (scaling (shift_of bytes) bytes free by) m else m).ops (if not b then instruction_before (scaling (shift_of bytes) bytes free by) m else m).end l w m.ops m.end local w) × P local
      × (value x.unit.statics local.names (if b then by else Name free) ≡ Number (unsigned_bits (z *ℤ pos bytes))) × ((y : ℕ) → y == free ≡ false → local.names y ≡ l.names y) × (local.shadows ≡ l.shadows)
  scale_by bytes free by m l w z size p is true e =
      let one = eqb-true bytes 1 e in
      (l, stays, p, is ∙ ap (λ k. Number (unsigned_bits k)) (sym (times_one z)) ∙ ap (λ k. Number (unsigned_bits (z *ℤ pos k))) (sym one), (λ y ne. refl), refl)
  scale_by bytes free by m l w z size p is false e =
      let given = Number (unsigned_bits (z *ℤ pos bytes)) in
      (set_name l free given, goes (scaling_gives bytes free by z x l w m.ops m.end is (shift_of bytes) refl) stays, temporary l free given size p, put_here l.names free given, (λ y ne. put_elsewhere l.names free y given ne), refl)

  pub scale_done : (bytes : ℕ) (by : Operand) (free : ℕ) (m : Made) (l : Local) (w : World) (z : ℤ) → size_in x ≤ free → P l → value x.unit.statics l.names by ≡ Number (unsigned_bits z) → Scaled x P bytes by free m l w z
  scale_done bytes (Constant word) free m l w z size p is =
      let same : word ≡ unsigned_bits z = number_same is in
      let product : bits_of unsigned_type (pos (word * bytes)) ≡ unsigned_bits (z *ℤ pos bytes) = ap (λ k. k * bytes % 4294967296) same ∙ word_times z bytes in
      record { local = l; leads = stays; holds = p; index = ap Number product; kept = λ y ne. refl; shadows = refl }
    where
      number_same : {i j : ℕ} → Number i ≡ Number j → i ≡ j
      number_same h = cc
  scale_done bytes (Name y) free m l w z size p is =
      let c = scale_by bytes free (Name y) m l w z size p is (bytes == 1) refl in
      record { local = c.0; leads = c.1; holds = c.2; index = c.3; kept = c.4; shadows = c.5 }
  scale_done bytes (StaticAddress o k) free m l w z size p is =
      let c = scale_by bytes free (StaticAddress o k) m l w z size p is (bytes == 1) refl in
      record { local = c.0; leads = c.1; holds = c.2; index = c.3; kept = c.4; shadows = c.5 }
