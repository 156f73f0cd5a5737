-- A walk finds just the names that clash.
use Rattle.std.proofs.Common.{◌≡◌, ℕ, ◌+◌, ◌<◌, ◌≤◌, ◌==◌, inl, inr, ◌↔◌, ◌⊎◌, Bool, true, false, true≢false, Some, List, [], ◌∷◌, ◌++◌, length, map, refl, sym, ap, ◌∙◌, subst, arith, append_assoc}
use Rattle.std.specs.Prelude.{◌||◌, ◌&&◌, not, slice_get}
use Rattle.std.proofs.lemmas.Bool.{and_parts, and_from, not-true, not_from_false, or_cases, or_left, or_right, eq-eqb, eqb-true, false_from_ne_true, cases_eq}
use Rattle.std.proofs.lemmas.Option.{same_Some, slice_get_within}
use Rattle.graph_core.specs.Graphs.{Name, Constant, StaticAddress, Instruction, Marker, Note, Move, Operate, Truncate, Same, Address, Load, Store, Zero, CopyWords, Call, End, Block, Graph}
use Rattle.graph_core.specs.Paths.{writes, is_bound}
use Rattle.graph_solve_live.specs.Live.{IsReadFirst}
use Rattle.home_assign.specs.Clashes.{IsNoCopyOf, Clashes, written, bound, copies, ClashesAmong, ClashesIn}

-- an instruction that copies a name, and one that does not
no_copy : (x y : ℕ) (i : Instruction) → copies y i ≡ false → IsNoCopyOf x y i
no_copy x y i e is = true≢false (sym (ap (copies y) is ∙ eq-eqb y y refl) ∙ e)

not_copied : (x y : ℕ) (i : Instruction) → writes x i ≡ true → IsNoCopyOf x y i → copies y i ≡ false
not_copied x y (Marker p) w unlike = refl
not_copied x y (Note z v) w unlike = refl
not_copied x y (Move z (Name m)) w unlike = false_from_ne_true (m == y) (λ e. unlike (ap (λ k. Move k (Name m)) (eqb-true z x w) ∙ ap (λ k. Move x (Name k)) (eqb-true m y e)))
not_copied x y (Move z (Constant word)) w unlike = refl
not_copied x y (Move z (StaticAddress object offset)) w unlike = refl
not_copied x y (Operate z o a b) w unlike = refl
not_copied x y (Truncate z t a) w unlike = refl
not_copied x y (Same z a b) w unlike = refl
not_copied x y (Address z object) w unlike = refl
not_copied x y (Load z e l) w unlike = refl
not_copied x y (Store e l a) w unlike = refl
not_copied x y (Zero object words) w unlike = refl
not_copied x y (CopyWords object bytes words) w unlike = refl
not_copied x y (Call z f all) w unlike = refl

module _ (g : Graph) (x y : ℕ) where
  -- one instruction more
  pub clash_more : (F : Type 0) (i : Instruction) (rest : List Instruction) (e : End) (old new live : Bool) → new ≡ (old || ((writes x i && not (copies y i)) && live)) → (live ≡ true) ↔ IsReadFirst g y rest e
      → (old ≡ true) ↔ (F ⊎ ClashesAmong g x y rest e) → (new ≡ true) ↔ (F ⊎ ClashesAmong g x y (i ∷ rest) e)
  clash_more F i rest e old new live is lives tells = (
    (λ t. elim (or_cases old ((writes x i && not (copies y i)) && live) (sym is ∙ t)) [
      | inl o ↦ elim (tells.0 o) [ inl f ↦ inl f | inr c ↦ inr (inr c) ]
      | inr h ↦
          let two = and_parts (writes x i && not (copies y i)) live h in
          let one = and_parts (writes x i) (not (copies y i)) two.0 in
          inr (inl (one.0, not-true (copies y i) one.1, lives.0 two.1))
    ]),
    (λ h. is ∙ elim h [
      | inl f ↦ or_left old ((writes x i && not (copies y i)) && live) (tells.1 (inl f))
      | inr (inl c) ↦ or_right old ((writes x i && not (copies y i)) && live) (and_from (writes x i && not (copies y i)) live (and_from (writes x i) (not (copies y i)) c.0 (not_from_false (copies y i) c.1)) (lives.1 c.2))
      | inr (inr c) ↦ or_left old ((writes x i && not (copies y i)) && live) (tells.1 (inr c))
    ]),
  )

  -- a whole block
  pub block_found : (F : Type 0) (n : ℕ) (b : Block) (now : Bool) → slice_get g.blocks n ≡ Some b → (now ≡ true) ↔ (F ⊎ ClashesAmong g x y b.instructions b.end) → (now ≡ true) ↔ (F ⊎ ClashesIn g x y n)
  block_found F n b now at tells = (
    (λ t. elim (tells.0 t) [ inl f ↦ inl f | inr c ↦ inr (b, at, c) ]),
    (λ h. elim h [
      | inl f ↦ tells.1 (inl f)
      | inr c ↦ tells.1 (inr (let same : c.0 ≡ b = same_Some c.0 b (sym c.1 ∙ at) in subst (λ d. ClashesAmong g x y d.instructions d.end) same c.2))
    ]),
  )

  -- the blocks before one
  abbrev pub ClashesBefore : (number : ℕ) → Type 0
  ClashesBefore number = (n : ℕ) × (n < number) × ClashesIn g x y n

  pub blocks_more : (number : ℕ) (old new : Bool) → (old ≡ true) ↔ ClashesBefore number → (new ≡ true) ↔ ((old ≡ true) ⊎ ClashesIn g x y number) → (new ≡ true) ↔ ClashesBefore (number + 1)
  blocks_more number old new before more = (
    (λ t. elim (more.0 t) [
      | inl o ↦ let c = before.0 o in (c.0, omega (arith, c.1), c.2)
      | inr c ↦ (number, omega arith, c)
    ]),
    (λ h. elim (cases_eq h.0 number) [
      | inl e ↦ more.1 (inr (subst (λ n. ClashesIn g x y n) e h.2))
      | inr ne ↦ more.1 (inl (before.1 (h.0, omega (arith, h.1, ne), h.2)))
    ]),
  )

  pub all_found : (number : ℕ) (now : Bool) → length g.blocks ≤ number → (now ≡ true) ↔ ClashesBefore number → (now ≡ true) ↔ ((n : ℕ) × ClashesIn g x y n)
  all_found number now all tells = (
    (λ t. let c = tells.0 t in (c.0, c.2)),
    (λ h. tells.1 (h.0, omega (arith, slice_get_within g.blocks h.0 h.1.0 h.1.1), h.1)),
  )

  -- what is found are the instructions behind which names clash
  among_clashes : (n : ℕ) (b : Block) → slice_get g.blocks n ≡ Some b → (before all : List Instruction) → b.instructions ≡ before ++ all → ClashesAmong g x y all b.end → Clashes g x y
  among_clashes n b at before [] is c = absurd c
  among_clashes n b at before (i ∷ rest) is (inl c) = written (record { block = b; before = before; is = at; instructions = is; ends = refl }) c.0 (no_copy x y i c.1) c.2
  among_clashes n b at before (i ∷ rest) is (inr c) = among_clashes n b at (before ++ i ∷ []) rest (is ∙ sym (append_assoc before (i ∷ []) rest)) c

  clashes_among : (i : Instruction) (rest : List Instruction) (e : End) → writes x i ≡ true → copies y i ≡ false → IsReadFirst g y rest e → (before : List Instruction) → ClashesAmong g x y (before ++ i ∷ rest) e
  clashes_among i rest e w c l [] = inl (w, c, l)
  clashes_among i rest e w c l (j ∷ before) = inr (clashes_among i rest e w c l before)

  -- names that clash, by a block or at the entry
  abbrev Bound : Type 0
  Bound = (b : Block) × (is_bound x g.parameters ≡ true) × (slice_get g.blocks 0 ≡ Some b) × IsReadFirst g y b.instructions b.end

  split : Clashes g x y → ((n : ℕ) × ClashesIn g x y n) ⊎ Bound
  split (written {i} {n} {rest} {e} behind w unlike l) =
      let c = clashes_among i rest behind.block.end w (not_copied x y i w unlike) (subst (λ f. IsReadFirst g y rest f) behind.ends l) behind.before in
      inl (n, (behind.block, behind.is, subst (λ all. ClashesAmong g x y all behind.block.end) (sym behind.instructions) c))
  split (bound {b} is at l) = inr (b, is, at, l)

  joined : ((n : ℕ) × ClashesIn g x y n) → Clashes g x y
  joined c = among_clashes c.0 c.1.0 c.1.1 [] c.1.0.instructions refl c.1.2

  -- with the parameters of the entry
  pub entered : (b : Block) (old new live : Bool) → slice_get g.blocks 0 ≡ Some b → new ≡ (old || (is_bound x g.parameters && live)) → (live ≡ true) ↔ IsReadFirst g y b.instructions b.end → (old ≡ true) ↔ ((n : ℕ) × ClashesIn g x y n) → (new ≡ true) ↔ Clashes g x y
  entered b old new live at is lives tells = (
    (λ t. elim (or_cases old (is_bound x g.parameters && live) (sym is ∙ t)) [
      | inl o ↦ joined (tells.0 o)
      | inr h ↦ let both = and_parts (is_bound x g.parameters) live h in bound both.0 at (lives.0 both.1)
    ]),
    (λ h. is ∙ elim (split h) [
      | inl c ↦ or_left old (is_bound x g.parameters && live) (tells.1 c)
      | inr c ↦ or_right old (is_bound x g.parameters && live) (and_from (is_bound x g.parameters) live c.1 (lives.1 (let same : c.0 ≡ b = same_Some c.0 b (sym c.2 ∙ at) in subst (λ d. IsReadFirst g y d.instructions d.end) same c.3)))
    ]),
  )

  -- without a block there is unlike entry
  pub not_entered : (now : Bool) → length g.blocks ≡ 0 → (now ≡ true) ↔ ((n : ℕ) × ClashesIn g x y n) → (now ≡ true) ↔ Clashes g x y
  not_entered now none tells = (
    (λ t. joined (tells.0 t)),
    (λ h. elim (split h) [ inl c ↦ tells.1 c | inr c ↦ absurd (omega (arith, none, slice_get_within g.blocks 0 c.0 c.2)) ]),
  )

-- the first of some blocks
pub first_block : {A : Type 0} (view : A → Block) (blocks : List A) → (length blocks ≡ 0 → ⊥) → (b : Block) × (slice_get (map view blocks) 0 ≡ Some b)
first_block view [] some = absurd (some refl)
first_block view (b ∷ more) some = (view b, refl)
