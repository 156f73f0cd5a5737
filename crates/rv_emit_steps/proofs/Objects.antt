-- Objects hold what they are to hold behind a write: elsewhere in memory, and in one of them.
use Rattle.std.proofs.Common.{◌≡◌, ◌≢◌, ℕ, ◌+◌, ◌*◌, ◌<◌, ◌≤◌, ◌⊎◌, ⊎_elim, inl, inr, sym, ap, ◌∙◌, subst, arith, refl, length, slice_get, slice_set, Option, Some, true}
use Rattle.std.specs.Prelude.{option_map}
use Rattle.std.proofs.lemmas.Bool.{cases_lt, cases_eq}
use Rattle.std.proofs.lemmas.List.{length-set}
use Rattle.std.proofs.lemmas.Option.{slice_get_within}
use Rattle.memory_map.specs.declared.map.Map.{Map}
use Rattle.graph_core.specs.declared.value.Value.{Value}
use Rattle.graph_core.specs.declared.value.Value.TheVariants.{Number, Pointer, Odd}
use Rattle.graph_core.specs.declared.instruction.Element.{Element}
use Rattle.graph_core.specs.declared.instruction.Element.TheVariants.{Unsigned8, Signed8, Unsigned16, Signed16, Word}
use Rattle.graph_core.specs.Values.{size_of, as_element}
use Rattle.graph_core.specs.Memory.{Memory, Object, bytes_of, with_value}
use Rattle.rv_emit_steps.specs.Holding.{with_bytes}
use Rattle.rv_emit_steps.proofs.Apart.{byte_outside}
use Rattle.rv_emit_steps.specs.Meaning.{size_at, Means, bits_at, HoldsBits, HoldsObjects, IsInMemory, AreLaid}
use Rattle.rv_emit_steps.proofs.Elements.{kept_means, bits_stored, bits_kept}
pub use Rattle.base_laws.proofs.Lists.{get_set, set_elsewhere, set_here}

-- ---- Lists of which a member is replaced

-- ---- Objects that stay what they are

-- An object of a memory was there before: it had as many bytes, and lived if it lives.
pub record WasThere (memory : Memory) (n : ℕ) (p : Object) : Type 0 where
  pub object : Object
  pub is : slice_get memory n ≡ Some object
  pub bytes : bytes_of p ≡ bytes_of object
  pub live : p.live ≡ true → object.live ≡ true

-- The objects of a later memory are those of an earlier one, whatever they hold.
pub record AreThose (memory later : Memory) : Type 0 where
  pub kept : (n size : ℕ) → size_at memory n ≡ Some size → size_at later n ≡ Some size
  pub were : (n : ℕ) (p : Object) → slice_get later n ≡ Some p → WasThere memory n p

-- So it is where one of them is replaced by one of its size.
pub those_set : (memory : Memory) (n : ℕ) (o p : Object) → slice_get memory n ≡ Some o → bytes_of p ≡ bytes_of o → (p.live ≡ true → o.live ≡ true) → AreThose memory (slice_set memory n p)
those_set memory n o p is bytes live = record {
  kept = λ k size e. ⊎_elim
      (λ (same : k ≡ n). subst (λ j. size_at (slice_set memory n p) j ≡ Some size) (sym same)
      (ap (λ (q : Option Object). option_map bytes_of q) (set_here memory n o p is) ∙ ap (λ s. Some s) bytes ∙ sym (ap (λ (q : Option Object). option_map bytes_of q) is) ∙ ap (size_at memory) (sym same) ∙ e))
      (λ (other : k ≢ n). ap (λ (q : Option Object). option_map bytes_of q) (set_elsewhere memory n k p other) ∙ e)
      (cases_eq k n);
  were = λ k q e. ⊎_elim
      (λ (both : (k ≡ n) × (q ≡ p)). record { object = o; is = ap (slice_get memory) both.0 ∙ is; bytes = ap bytes_of both.1 ∙ bytes; live = λ l. live (ap (λ (x : Object). x.live) (sym both.1) ∙ l) })
      (λ (both : (k ≢ n) × (slice_get memory k ≡ Some q)). record { object = q; is = both.1; bytes = refl; live = λ l. l })
      (get_set memory n k p q e);
}

-- What means a value or holds one does so later.
pub means_later : (addresses : ℕ → ℕ) (memory later : Memory) → AreThose memory later → (v : Value) (w : ℕ) → Means addresses memory v w → Means addresses later v w
means_later addresses memory later those (Number n) w means = means
means_later addresses memory later those (Pointer object size offset) w (at, le, is) = (those.kept object size at, le, is)
means_later addresses memory later those Odd w means = tt

pub holds_later : (addresses : ℕ → ℕ) (memory later : Memory) → AreThose memory later → (size : ℕ) (v : Value) (bits : ℕ) → HoldsBits addresses memory size v bits → HoldsBits addresses later size v bits
holds_later addresses memory later those size (Number n) bits holds = holds
holds_later addresses memory later those size (Pointer object of offset) bits (at, le, is) = (those.kept object of at, le, is)
holds_later addresses memory later those size Odd bits holds = tt

-- They lie where they lay.
pub laid_later : {regions : Map} (addresses : ℕ → ℕ) (memory later : Memory) → AreThose memory later → AreLaid regions addresses memory → AreLaid regions addresses later
laid_later {regions} addresses memory later those laid = record {
  aligned = λ n p is. laid.aligned n (those.were n p is).object (those.were n p is).is;
  lie = λ n p is. subst (λ k. IsInMemory regions (addresses n) k) (sym (those.were n p is).bytes) (laid.lie n (those.were n p is).object (those.were n p is).is);
  apart = λ m n o p ne iso isp liveo livep.
      let a : WasThere memory m o = those.were m o iso in
      let b : WasThere memory n p = those.were n p isp in
      subst (λ k. (addresses m + k < addresses n) ⊎ (addresses n + bytes_of p < addresses m)) (sym a.bytes)
      (subst (λ k. (addresses m + bytes_of a.object < addresses n) ⊎ (addresses n + k < addresses m)) (sym b.bytes)
      (laid.apart m n a.object b.object ne a.is b.is (a.live liveo) (b.live livep)));
}

-- ---- Writes elsewhere

-- An element lies within its object, and apart from the others.
pub element_within : (e : Element) (i count : ℕ) → i < count → i * size_of e + size_of e ≤ count * size_of e
element_within Unsigned8 i count lt = omega arith
element_within Signed8 i count lt = omega arith
element_within Unsigned16 i count lt = omega arith
element_within Signed16 i count lt = omega arith
element_within Word i count lt = omega arith

elements_apart : (e : Element) (i j : ℕ) → j ≢ i → (j * size_of e + size_of e ≤ i * size_of e) ⊎ (i * size_of e + size_of e ≤ j * size_of e)
elements_apart e i j ne = ⊎_elim (λ (lt : j < i). inl (element_within e j i lt)) (λ (le : i ≤ j). inr (element_within e i j (let other : j ≢ i = ne in omega (arith, other)))) (cases_lt j i)

-- Objects none of whose bytes changes hold what they held.
pub objects_kept : (addresses : ℕ → ℕ) (memory : Memory) (m n : ℕ → ℕ)
    → ((k : ℕ) (o : Object) → slice_get memory k ≡ Some o → o.live ≡ true → (b : ℕ) → addresses k ≤ b → b < addresses k + bytes_of o → n b ≡ m b)
    → HoldsObjects addresses memory m → HoldsObjects addresses memory n
objects_kept addresses memory m n same holds k o is live i v here =
    let s : ℕ = size_of o.element in
    let a : ℕ = addresses k + i * size_of o.element in
    let within = element_within o.element i (length o.values) (slice_get_within o.values i v here) in
    subst (λ bits. HoldsBits addresses memory (size_of o.element) v bits)
    (sym (bits_kept o.element m n (addresses k + i * size_of o.element) (λ b low high. same k o is live b (omega (arith, low)) (omega (arith, high, within)))))
    (holds k o is live i v here)

-- ---- A write to an object

module _ {regions : Map} (addresses : ℕ → ℕ) (memory : Memory) (m : ℕ → ℕ) (n i : ℕ) (o : Object) (v : Value) (w : ℕ) (laid : AreLaid regions addresses memory) (holds : HoldsObjects addresses memory m)
    (is : slice_get memory n ≡ Some o) (live : o.live ≡ true) (low : i < length o.values) (means : Means addresses memory v w) (fits : w < 4294967296) where
  -- memory behind the store, and the objects behind it
  abbrev after : ℕ → ℕ
  after = with_bytes (size_of o.element) (addresses n + i * size_of o.element) w m

  abbrev later : Memory
  later = slice_set memory n (with_value i v o)

  pub objects_those : AreThose memory (slice_set memory n (with_value i v o))
  objects_those = those_set memory n o (with_value i v o) is (ap (λ k. k * size_of o.element) (length-set o.values i (as_element o.element v))) (λ l. l)

  -- the element that is written
  new_value : HoldsBits addresses memory (size_of o.element) (as_element o.element v) (bits_at (with_bytes (size_of o.element) (addresses n + i * size_of o.element) w m) (size_of o.element) (addresses n + i * size_of o.element))
  new_value = subst (λ bits. HoldsBits addresses memory (size_of o.element) (as_element o.element v) bits) (sym (bits_stored o.element (addresses n + i * size_of o.element) w m fits)) (kept_means addresses memory o.element v w means)

  -- another element of the object
  other_value : (j : ℕ) (x : Value) → j ≢ i → slice_get o.values j ≡ Some x
      → HoldsBits addresses memory (size_of o.element) x (bits_at (with_bytes (size_of o.element) (addresses n + i * size_of o.element) w m) (size_of o.element) (addresses n + j * size_of o.element))
  other_value j x ne here =
      let apart = elements_apart o.element i j ne in
      subst (λ bits. HoldsBits addresses memory (size_of o.element) x bits)
      (sym (bits_kept o.element m (with_bytes (size_of o.element) (addresses n + i * size_of o.element) w m) (addresses n + j * size_of o.element)
      (λ b l h. byte_outside (size_of o.element) (addresses n + i * size_of o.element) w m b (⊎_elim
      (λ (below : j * size_of o.element + size_of o.element ≤ i * size_of o.element). inl (omega (arith, h, below)))
      (λ (above : i * size_of o.element + size_of o.element ≤ j * size_of o.element). inr (omega (arith, l, above)))
      apart))))
      (holds n o is live j x here)

  -- an element of another object
  elsewhere : (k : ℕ) (p : Object) → k ≢ n → slice_get memory k ≡ Some p → p.live ≡ true → (j : ℕ) (x : Value) → slice_get p.values j ≡ Some x
      → HoldsBits addresses memory (size_of p.element) x (bits_at (with_bytes (size_of o.element) (addresses n + i * size_of o.element) w m) (size_of p.element) (addresses k + j * size_of p.element))
  elsewhere k p ne isp livep j x here =
      let within = element_within o.element i (length o.values) low in
      let inside = element_within p.element j (length p.values) (slice_get_within p.values j x here) in
      subst (λ bits. HoldsBits addresses memory (size_of p.element) x bits)
      (sym (bits_kept p.element m (with_bytes (size_of o.element) (addresses n + i * size_of o.element) w m) (addresses k + j * size_of p.element)
      (λ b l h. byte_outside (size_of o.element) (addresses n + i * size_of o.element) w m b (⊎_elim
      (λ (below : addresses k + bytes_of p < addresses n). inl (omega (arith, h, inside, below)))
      (λ (above : addresses n + bytes_of o < addresses k). inr (omega (arith, l, within, above)))
      (laid.apart k n p o ne isp is livep live)))))
      (holds k p isp livep j x here)

  -- The objects, one of which has another value now, hold what they are to hold behind the store of its word.
  pub object_written : HoldsObjects addresses (slice_set memory n (with_value i v o)) (with_bytes (size_of o.element) (addresses n + i * size_of o.element) w m)
  object_written k p isp livep j x here = ⊎_elim
      (λ (both : (k ≡ n) × (p ≡ with_value i v o)). moved k p both.0 both.1 here)
      (λ (both : (k ≢ n) × (slice_get memory k ≡ Some p)). holds_later addresses memory later objects_those (size_of p.element) x _ (elsewhere k p both.0 both.1 livep j x here))
      (get_set memory n k (with_value i v o) p isp)
    where
      in_it : slice_get (slice_set o.values i (as_element o.element v)) j ≡ Some x → HoldsBits addresses memory (size_of o.element) x (bits_at after (size_of o.element) (addresses n + j * size_of o.element))
      in_it e = ⊎_elim
          (λ (both : (j ≡ i) × (x ≡ as_element o.element v)).
          subst (λ y. HoldsBits addresses memory (size_of o.element) y (bits_at after (size_of o.element) (addresses n + j * size_of o.element))) (sym both.1)
          (subst (λ q. HoldsBits addresses memory (size_of o.element) (as_element o.element v) (bits_at after (size_of o.element) (addresses n + q * size_of o.element))) (sym both.0) new_value))
          (λ (both : (j ≢ i) × (slice_get o.values j ≡ Some x)). other_value j x both.0 both.1)
          (get_set o.values i j (as_element o.element v) x e)

      moved : (k2 : ℕ) (q : Object) → k2 ≡ n → q ≡ with_value i v o → slice_get q.values j ≡ Some x → HoldsBits addresses later (size_of q.element) x (bits_at after (size_of q.element) (addresses k2 + j * size_of q.element))
      moved k2 q ek eq e =
          let at_it : slice_get (slice_set o.values i (as_element o.element v)) j ≡ Some x = subst (λ (z : Object). slice_get z.values j ≡ Some x) eq e in
          subst (λ (z : Object). HoldsBits addresses later (size_of z.element) x (bits_at after (size_of z.element) (addresses k2 + j * size_of z.element))) (sym eq)
          (subst (λ a. HoldsBits addresses later (size_of o.element) x (bits_at after (size_of o.element) (addresses a + j * size_of o.element))) (sym ek)
          (holds_later addresses memory later objects_those (size_of o.element) x _ (in_it at_it)))
