-- What the unit tells of two pointers is what the source does.
use Rattle.std.proofs.Common.{◌≡◌, ◌≢◌, ℕ, ◌+◌, ◌-◌, ◌%◌, ◌<◌, inl, inr, Option, Some, None, Bool, true, false, not, ◌&&◌, slice_get, refl, sym, ap, ◌∙◌, arith, pos, ◌-ℤ◌}
use Rattle.std.specs.Prelude.{◌==◌, if◌then◌else◌, nat_lt}
use Rattle.std.specs.Option.{option_map_or}
use Rattle.std.proofs.lemmas.Bool.{cases_eq}
use Rattle.std.proofs.lemmas.Bool.Decides.{nat_tests}
use Rattle.word_base.specs.Operations.{truth}
use Rattle.word_base.specs.Words.{word_of_test}
use Rattle.word_base.specs.declared.operation.Operation.TheVariants as operation
use Rattle.c_meaning_values.specs.declared.value.Value as source-value
use Rattle.c_meaning_values.specs.declared.value.Value.TheVariants as source
use Rattle.c_meaning_values.specs.declared.value.Phase.TheVariants.{Ended}
use Rattle.c_meaning_values.specs.Memory.{Object as SourceObject, is_over, is_usable}
use Rattle.c_meaning_values.specs.Operations.{is_same_pointer}
use Rattle.c_meaning_steps.specs.States.{State}
use Rattle.graph_core.specs.declared.value.Value.{Value}
use Rattle.graph_core.specs.declared.value.Value.TheVariants.{Number, Pointer, Odd}
use Rattle.graph_core.specs.Memory.{bytes_of, is_live}
use Rattle.graph_core.specs.Values.{operate, between, same, truth_word as truth_of}
use Rattle.graph_build_names.specs.Conversions.{unsigned_bits}
use Rattle.graph_build_runs.specs.Correspondence.{owner_of, SamePointer, SameValue}
use Rattle.graph_build_runs.proofs.Words.{word_difference}
use Rattle.graph_build_runs.proofs.Leads.{Setting, Local, World}
use Rattle.graph_build_runs.proofs.Later.{some_same}
use Rattle.graph_build_runs.proofs.Kept.{Sound, Fits}
use Rattle.graph_build_runs.proofs.Access.{Leading, leads_to}
use Rattle.graph_build_runs.proofs.Storing.{owners_one}
use Rattle.graph_build_runs.proofs.Writing.{not_over}

-- a value that a pointer has: null, or a pointer
abbrev pub IsPointer : source-value.Value → Type 0
IsPointer (source.Number z) = ⊥
IsPointer source.Null = Unit {0}
IsPointer (source.Pointer n offset) = Unit {0}

no_number : (live : ℕ → Bool) (b : Bool) → (if b then Number 1 else Number 0) ≡ Number (unsigned_bits (truth b))
no_number live true = refl
no_number live false = refl

-- A pointer that may be used leads to an object that has not ended.
pub record Usable (x : Setting) (s : State) (w : World) (n offset : ℕ) (given : Value) : Type 0 where
  pub object : SourceObject
  pub is : slice_get s.memory n ≡ Some object
  pub alive : object.phase ≢ Ended
  pub leading : Leading x s w object offset given

pub usable_leads : (x : Setting) (want : Option ℕ) (s : State) (l : Local) (w : World) (n offset : ℕ) (given : Value) → Fits x want s l w → is_usable s.memory (source.Pointer n offset) ≡ true → SamePointer x.program s.memory w.memory n offset given → Usable x s w n offset given
usable_leads x want s l w n offset given f usable same = by (slice_get s.memory n) refl usable
  where
    by : (r : Option SourceObject) → slice_get s.memory n ≡ r → option_map_or (λ o. not (is_over o.phase)) r false ≡ true → Usable x s w n offset given
    by None e u = cc
    by (Some o) e u = record { object = o; is = e; alive = not_over o.phase u; leading = leads_to x want s l w n offset o given f e (not_over o.phase u) same }

module _ (x : Setting) (want : Option ℕ) (s : State) (l : Local) (w : World) (sound : Sound x.program x.begun s) (f : Fits x want s l w) where
  -- one object of the unit's is one object of the source's, and the other way round
  numbers_same : (n m i j : ℕ) (u v : Value) (a : Usable x s w n i u) (b : Usable x s w m j v) → a.leading.number ≡ b.leading.number → n ≡ m
  numbers_same n m i j u v a b e =
      let objects : a.leading.object ≡ b.leading.object = some_same (sym a.leading.is ∙ ap (slice_get w.memory) e ∙ b.leading.is) in
      sound.differ n m a.object b.object a.is b.is a.alive b.alive
      (owners_one x.program a.object.owner b.object.owner a.object b.object (sound.declared n a.object a.is) (sound.declared m b.object b.is) (sym a.leading.same.owner ∙ ap (λ z. z.owner) objects ∙ b.leading.same.owner))

  same_numbers : (n m i j : ℕ) (u v : Value) (a : Usable x s w n i u) (b : Usable x s w m j v) → n ≡ m → a.leading.number ≡ b.leading.number
  same_numbers n m i j u v a b e =
      let objects : a.object ≡ b.object = some_same (sym a.is ∙ ap (slice_get s.memory) e ∙ b.is) in
      f.differ a.leading.number b.leading.number a.leading.object b.leading.object a.leading.is b.leading.is a.leading.same.lives b.leading.same.lives (a.leading.same.owner ∙ ap (λ z. owner_of x.program z.owner) objects ∙ sym b.leading.same.owner)

  one_object : (n m i j : ℕ) (u v : Value) (a : Usable x s w n i u) (b : Usable x s w m j v) → (a.leading.number == b.leading.number) ≡ (n == m)
  one_object n m i j u v a b = elim (cases_eq n m) [
    | inl e ↦ let same = same_numbers n m i j u v a b e in grind (arith, nat_tests, e, same)
    | inr ne ↦ let other : a.leading.number ≢ b.leading.number = λ e. ne (numbers_same n m i j u v a b e) in grind (arith, nat_tests, ne, other)
  ]

  lives : (n i : ℕ) (u : Value) (a : Usable x s w n i u) → is_live w.memory a.leading.number ≡ true
  lives n i u a = ap (λ r. option_map_or (λ o. o.live) r false) a.leading.is ∙ a.leading.same.lives

  -- The unit tells of two pointers what the source does: whether they are one.
  pub same_pointers : (v u : source-value.Value) (a b : Value) → IsPointer v → IsPointer u → is_usable s.memory v ≡ true → is_usable s.memory u ≡ true → SameValue x.program s.memory w.memory v a → SameValue x.program s.memory w.memory u b
      → same (is_live w.memory) a b ≡ Number (unsigned_bits (truth (is_same_pointer v u)))
  same_pointers (source.Number z) u a b pv pu uv uu sv su = absurd pv
  same_pointers source.Null (source.Number z) a b pv pu uv uu sv su = absurd pu
  same_pointers source.Null source.Null a b pv pu uv uu sv su = ap (λ k. same (is_live w.memory) k b) sv ∙ ap (same (is_live w.memory) (Number 0)) su
  same_pointers source.Null (source.Pointer m j) a b pv pu uv uu sv su =
      let c = usable_leads x want s l w m j b f uu su in
      ap (λ k. same (is_live w.memory) k b) sv ∙ ap (same (is_live w.memory) (Number 0)) c.leading.given_is
  same_pointers (source.Pointer n i) (source.Number z) a b pv pu uv uu sv su = absurd pu
  same_pointers (source.Pointer n i) source.Null a b pv pu uv uu sv su =
      let c = usable_leads x want s l w n i a f uv sv in
      ap (λ k. same (is_live w.memory) k b) c.leading.given_is ∙ ap (same (is_live w.memory) (Pointer c.leading.number (bytes_of c.leading.object) i)) su
  same_pointers (source.Pointer n i) (source.Pointer m j) a b pv pu uv uu sv su =
      let c = usable_leads x want s l w n i a f uv sv in
      let d = usable_leads x want s l w m j b f uu su in
      ap (λ k. same (is_live w.memory) k b) c.leading.given_is ∙ ap (same (is_live w.memory) (Pointer c.leading.number (bytes_of c.leading.object) i)) d.leading.given_is
      ∙ ap (λ t. if t && is_live w.memory d.leading.number then truth_of (c.leading.number == d.leading.number && i == j) else Odd) (lives n i a c)
      ∙ ap (λ t. if t then truth_of (c.leading.number == d.leading.number && i == j) else Odd) (lives m j b d) ∙ ap (λ t. truth_of (t && i == j)) (one_object n m i j a b c d) ∙ no_number (is_live w.memory) (n == m && i == j)

  -- Which of two pointers into one object is the lower.
  pub lower_pointer : (n i j : ℕ) (a b : Value) → is_usable s.memory (source.Pointer n i) ≡ true → SamePointer x.program s.memory w.memory n i a → SamePointer x.program s.memory w.memory n j b → operate operation.Sltu a b ≡ Number (word_of_test (nat_lt i j))
  lower_pointer n i j a b usable sa sb =
      let c = usable_leads x want s l w n i a f usable sa in
      let d = usable_leads x want s l w n j b f usable sb in
      let numbers : (c.leading.number == d.leading.number) ≡ true = let e = same_numbers n n i j a b c d refl in grind (arith, nat_tests, e) in
      ap (λ k. operate operation.Sltu k b) c.leading.given_is ∙ ap (operate operation.Sltu (Pointer c.leading.number (bytes_of c.leading.object) i)) d.leading.given_is
      ∙ ap (λ t. if t then between operation.Sltu i j else Odd) numbers ∙ word_test (nat_lt i j)
    where
      word_test : (t : Bool) → truth_of t ≡ Number (word_of_test t)
      word_test true = refl
      word_test false = refl

  -- How many bytes lie between two pointers into one object.
  pub distance_pointers : (n i j : ℕ) (a b : Value) → i < 4294967296 → j < 4294967296 → is_usable s.memory (source.Pointer n i) ≡ true → SamePointer x.program s.memory w.memory n i a → SamePointer x.program s.memory w.memory n j b → operate operation.Sub a b ≡ Number (unsigned_bits (pos i -ℤ pos j))
  distance_pointers n i j a b below_i below_j usable sa sb =
      let c = usable_leads x want s l w n i a f usable sa in
      let d = usable_leads x want s l w n j b f usable sb in
      let numbers : (c.leading.number == d.leading.number) ≡ true = let e = same_numbers n n i j a b c d refl in grind (arith, nat_tests, e) in
      let words : (i + (4294967296 - j)) % 4294967296 ≡ (unsigned_bits (pos i) + (4294967296 - unsigned_bits (pos j))) % 4294967296 = omega (arith, below_i, below_j) in
      ap (λ k. operate operation.Sub k b) c.leading.given_is ∙ ap (operate operation.Sub (Pointer c.leading.number (bytes_of c.leading.object) i)) d.leading.given_is
      ∙ ap (λ t. if t then between operation.Sub i j else Odd) numbers ∙ ap Number (words ∙ word_difference (pos i) (pos j) (pos i -ℤ pos j) refl)
