-- A temporary is copied to a scalar only where a block begins, or where it has the value that the scalar had before: pieces of code.
use Rattle.std.proofs.Common.{◌≡◌, ◌⊎◌, inl, inr, ℕ, ◌+◌, ◌≤◌, ◌<◌, Bool, true, false, Option, Some, None, List, [], ◌∷◌, ◌++◌, refl, sym, ap, ◌∙◌, subst, arith, if◌then◌else◌, ◌==◌}
use Rattle.std.specs.Option.{option_map_or}
use Rattle.std.proofs.lemmas.Bool.Decides.{nat_tests}
use Rattle.c_tree.specs.declared.types.IntegerType.{IntegerType}
use Rattle.c_tree.specs.declared.typed_expression.Comparison as declared-comparison
use Rattle.c_tree.specs.declared.typed_expression.Comparison.TheVariants as comparison
use Rattle.c_tree.specs.declared.object_type.Object as declared-object
use Rattle.c_tree.specs.declared.object_type.Object.TheVariants as object
use Rattle.c_type_rules.specs.Integers.{integer}
use Rattle.word_base.specs.declared.operation.Operation.{Operation}
use Rattle.word_base.specs.declared.operation.Operation.TheVariants as operation
use Rattle.graph_core.specs.declared.instruction.Element as declared-element
use Rattle.graph_core.specs.Graphs as unit
use Rattle.graph_core.specs.Graphs.{Operand, Name, Constant, StaticAddress, Location, Automatic, Static, At, Instruction, Note, Is, Of, Move, Operate, Truncate, Same, Address, Load, Store, Block, End, Jump}
use Rattle.graph_core.specs.Paths.{Among, front, behind, writes}
use Rattle.graph_core.specs.Uses.{target_of}
use Rattle.graph_build_names.specs.Conversions.{is_narrow}
use Rattle.graph_build_names.specs.Operands.{is_two, is_two_pointers, operand_at}
use Rattle.graph_build_names.specs.Scales.{is_scaled, shift_of, scaled}
use Rattle.graph_build_names.specs.Names.{Names, pick, object_of}
use Rattle.graph_build_names.specs.Writes.{is_moved, is_location_moved}
use Rattle.graph_build_layout.specs.Laid.{Laid, Pair, PlaceLaid, behind_move}
use Rattle.graph_build_steps.specs.Rules.{truncation_to, operation_for, move_by, less_by}
use Rattle.graph_build_steps.specs.Drafts.{Made, Goal, To, Unused, Either, use_of, instruction_before, ending, leaf, target, follow, tested, scale, scaling, unscaling, move_if, hold_location, held_location, note, noted, compare_by, compare_pointers_by, with_inner_block, forked, valued, used, stored, keep_old, use_old, behind_old, left_free, called_by, renew, operated, code_scaled_pair, compared, compared_value, compared_pointers, compared_pointers_value, label_of}
use Rattle.graph_build_steps.specs.Drafts as drafts
use Rattle.graph_build_steps.specs.declared.site.Two as declared-two
use Rattle.graph_build_steps.specs.declared.site.Two.TheVariants as two
use Rattle.graph_build_steps.specs.declared.change.Change as declared-change
use Rattle.graph_build_steps.specs.declared.change.Change.TheVariants as change
use Rattle.graph_build_steps.specs.Steps.{finished, element_distance, changed, changed_element, takes_more, renewed_scalar, loaded_first, renewed_memory, left_scalar, left_memory, object_address, or_zero}
use Rattle.graph_build_laws.proofs.Standing.{among_either}
use Rattle.graph_build_laws.proofs.Written.{Few}
use Rattle.base_laws.proofs.Numbers.{false_true}
use Rattle.base_laws.proofs.Options.{none_is, some_same}

head_same : {i j : Instruction} {xs ys : List Instruction} → i ∷ xs ≡ j ∷ ys → i ≡ j
head_same e = cc

tail_same : {i j : Instruction} {xs ys : List Instruction} → i ∷ xs ≡ j ∷ ys → xs ≡ ys
tail_same e = cc

target_same : {x y : ℕ} {a b : Operand} → Move x a ≡ Move y b → x ≡ y
target_same e = cc

operand_same : {x y : ℕ} {a b : Operand} → Move x a ≡ Move y b → a ≡ b
operand_same e = cc

name_same : {x y : ℕ} → Name x ≡ Name y → x ≡ y
name_same e = cc

abbrev pub is_move : Instruction → Bool
is_move (Move x a) = true
is_move _ = false

module _ (scalars : ℕ) where
  -- A temporary has the value that a scalar had: it was copied before, and nothing has written the temporary since.
  abbrev pub HasOld : (x t : ℕ) → (before : List Instruction) → Type 0
  HasOld x t before = (first : List Instruction) × (since : List Instruction) × (before ≡ first ++ Move t (Name x) ∷ since) × ((i : Instruction) → Among i since → writes t i ≡ false)

  -- Where a temporary is copied to a scalar it has the value that this had, or it may be besides.
  abbrev pub Kept : (May : (x t : ℕ) → List Instruction → Type 0) → List Instruction → Type 0
  Kept May ops = (x t : ℕ) (before rest : List Instruction) → ops ≡ before ++ Move x (Name t) ∷ rest → x < scalars → scalars ≤ t → May x t before ⊎ HasOld x t before

  -- none may be besides
  abbrev pub Never : (x t : ℕ) → List Instruction → Type 0
  Never x t before = ⊥

  -- Or the copy is the block's first instruction.
  abbrev pub Meets : List Instruction → Type 0
  Meets ops = (x t : ℕ) (before rest : List Instruction) → ops ≡ before ++ Move x (Name t) ∷ rest → x < scalars → scalars ≤ t → (before ≡ []) ⊎ HasOld x t before

  abbrev pub AllMeet : List Block → Type 0
  AllMeet all = (b : Block) → Among b all → Meets b.instructions

  -- an instruction copies no temporary to a scalar
  abbrev pub IsNoCopy : Instruction → Type 0
  IsNoCopy i = (x t : ℕ) → i ≡ Move x (Name t) → x < scalars → scalars ≤ t → ⊥

  pub no_move : (i : Instruction) → is_move i ≡ false → IsNoCopy i
  no_move i plain x t e low high = false_true (sym plain ∙ ap is_move e)

  -- an operand is no temporary
  abbrev pub Stays : Operand → Type 0
  Stays (Name x) = x < scalars
  Stays (Constant w) = Unit {0}
  Stays (StaticAddress o k) = Unit {0}

  pub no_copy : (y : ℕ) (a : Operand) → Stays a → IsNoCopy (Move y a)
  no_copy y a stays x t e low high = let few : t < scalars = subst Stays (operand_same e) stays in omega (arith, few, high)

  -- what it writes, if it writes a name, is such a name
  abbrev WritesOf : (Fits : ℕ → Type 0) → Instruction → Type 0
  WritesOf Fits i = (z : ℕ) → target_of i ≡ Some z → Fits z

  -- what may be besides stays so behind an instruction that writes such a name
  abbrev Goes : (May : (x t : ℕ) → List Instruction → Type 0) → (Fits : ℕ → Type 0) → Type 0
  Goes May Fits = (i : Instruction) (x t : ℕ) (before : List Instruction) → WritesOf Fits i → x < scalars → scalars ≤ t → May x t before → May x t (i ∷ before)

  none_kept : (May : (x t : ℕ) → List Instruction → Type 0) → Kept May []
  none_kept May x t [] rest e low high = cc
  none_kept May x t (j ∷ before) rest e low high = cc

  old_more : (x t : ℕ) (j : Instruction) (before : List Instruction) → HasOld x t before → HasOld x t (j ∷ before)
  old_more x t j before h = (j ∷ h.0, h.1, ap (λ (l : List Instruction). j ∷ l) h.2, h.3)

  kept_before : (May : (x t : ℕ) → List Instruction → Type 0) (Fits : ℕ → Type 0) → Goes May Fits → (i : Instruction) (ops : List Instruction) → IsNoCopy i → WritesOf Fits i → Kept May ops → Kept May (i ∷ ops)
  kept_before May Fits goes i ops plain fits kept x t [] rest e low high = absurd (plain x t (head_same e) low high)
  kept_before May Fits goes i ops plain fits kept x t (j ∷ before) rest e low high = later (kept x t before rest (tail_same e) low high)
    where
      later : May x t before ⊎ HasOld x t before → May x t (j ∷ before) ⊎ HasOld x t (j ∷ before)
      later (inl may) = inl (goes j x t before (subst (WritesOf Fits) (head_same e) fits) low high may)
      later (inr old) = inr (old_more x t j before old)

  abbrev Any : ℕ → Type 0
  Any z = Unit {0}

  goes_never : Goes Never Any
  goes_never i x t before fits low high may = may

  -- Just what was copied by the instruction that stands before may be besides, if nothing has written it since.
  abbrev Just : (y s : ℕ) → (x t : ℕ) → List Instruction → Type 0
  Just y s x t before = (Move t (Name x) ≡ Move s (Name y)) × ((i : Instruction) → Among i before → writes t i ≡ false)

  -- another name than a temporary
  abbrev Other : (s : ℕ) → ℕ → Type 0
  Other s z = scalars ≤ s → (z == s) ≡ false

  goes_just : (y s : ℕ) → Goes (Just y s) (Other s)
  goes_just y s i x t before fits low high may = (may.0, by)
    where
      same : t ≡ s
      same = target_same may.0

      unwritten : (o : Option ℕ) → ((z : ℕ) → o ≡ Some z → Other s z) → option_map_or (λ (z : ℕ). z == t) o false ≡ false
      unwritten None f = refl
      unwritten (Some z) f = subst (λ (k : ℕ). (z == k) ≡ false) (sym same) (f z refl (subst (λ (k : ℕ). scalars ≤ k) same high))

      by : (j : Instruction) → Among j (i ∷ before) → writes t j ≡ false
      by j front = unwritten (target_of i) fits
      by j (behind a) = may.1 j a

  kept_back : (y s : ℕ) (ops : List Instruction) → Kept Never ops → Kept (Just y s) (Move y (Name s) ∷ ops)
  kept_back y s ops kept x t [] rest e low high =
      let m = head_same e in
      let to : y ≡ x = target_same m in
      let from : s ≡ t = name_same (operand_same m) in inl (ap (λ (k : ℕ). Move k (Name x)) (sym from) ∙ ap (λ (k : ℕ). Move s (Name k)) (sym to), λ i a. elim a [ ])
  kept_back y s ops kept x t (j ∷ before) rest e low high = later (kept x t before rest (tail_same e) low high)
    where
      later : ⊥ ⊎ HasOld x t before → Just y s x t (j ∷ before) ⊎ HasOld x t (j ∷ before)
      later (inl may) = absurd may
      later (inr old) = inr (old_more x t j before old)

  kept_just : (y s : ℕ) (ops : List Instruction) → y < scalars → Kept (Just y s) ops → Kept Never (Move s (Name y) ∷ ops)
  kept_just y s ops few kept x t [] rest e low high = let from : y ≡ t = name_same (operand_same (head_same e)) in absurd (omega (arith, few, from, high))
  kept_just y s ops few kept x t (j ∷ before) rest e low high = later (kept x t before rest (tail_same e) low high)
    where
      it : Just y s x t before → j ≡ Move t (Name x)
      it just = sym (head_same e) ∙ sym just.0

      later : Just y s x t before ⊎ HasOld x t before → ⊥ ⊎ HasOld x t (j ∷ before)
      later (inl just) = inr ([], before, ap (λ (i : Instruction). i ∷ before) (it just), just.1)
      later (inr old) = inr (old_more x t j before old)

  kept_meets : (ops : List Instruction) → Kept Never ops → Meets ops
  kept_meets ops kept x t before rest e low high = later (kept x t before rest e low high)
    where
      later : ⊥ ⊎ HasOld x t before → (before ≡ []) ⊎ HasOld x t before
      later (inl may) = absurd may
      later (inr old) = inr old

  first_meets : (i : Instruction) (ops : List Instruction) → Kept Never ops → Meets (i ∷ ops)
  first_meets i ops kept x t [] rest e low high = inl refl
  first_meets i ops kept x t (j ∷ before) rest e low high = later (kept x t before rest (tail_same e) low high)
    where
      later : ⊥ ⊎ HasOld x t before → (j ∷ before ≡ []) ⊎ HasOld x t (j ∷ before)
      later (inl may) = absurd may
      later (inr old) = inr (old_more x t j before old)

  -- ---- What is made

  -- what is made before something keeps it, and the inner blocks do
  abbrev pub IsKeptBy : (May : (x t : ℕ) → List Instruction → Type 0) → Made → Type 0
  IsKeptBy May m = Kept May m.ops × AllMeet m.inner

  abbrev pub IsKept : Made → Type 0
  IsKept m = IsKeptBy Never m

  -- what is made as the beginning of a block keeps it
  abbrev pub IsMet : Made → Type 0
  IsMet m = Meets m.ops × AllMeet m.inner

  abbrev pub OfGoal : Goal → Type 0
  OfGoal (To want m) = IsKept m
  OfGoal (Unused m) = IsKept m
  OfGoal (Either one other inner) = AllMeet inner

  pub met : (m : Made) → IsKept m → IsMet m
  met m h = (kept_meets m.ops h.0, h.1)

  pub closed : (place : ℕ) (m : Made) → IsMet m → AllMeet (with_inner_block place m)
  closed place m h b a = by (among_either m.inner (it ∷ []) b a)
    where
      it : Block
      it = record { place = Some place; instructions = m.ops; end = m.end }

      last : (c : Block) → Among c (it ∷ []) → Meets c.instructions
      last c front = h.0
      last c (behind a) = elim a [ ]

      by : Among b m.inner ⊎ Among b (it ∷ []) → Meets b.instructions
      by (inl a) = h.1 b a
      by (inr a) = last b a

  pub none_meet : AllMeet []
  none_meet b a = elim a [ ]

  pub ended : (e : End) (inner : List Block) → AllMeet inner → IsKept (ending e inner)
  ended e inner h = (none_kept Never, h)

  module _ (May : (x t : ℕ) → List Instruction → Type 0) (Fits : ℕ → Type 0) (goes : Goes May Fits) where
    before_by : (i : Instruction) (m : Made) → IsNoCopy i → WritesOf Fits i → IsKeptBy May m → IsKeptBy May (instruction_before i m)
    before_by i m plain fits h = (kept_before May Fits goes i m.ops plain fits h.0, h.1)

    step_by : (i : Instruction) (m : Made) → is_move i ≡ false → (z : ℕ) → target_of i ≡ Some z → Fits z → IsKeptBy May m → IsKeptBy May (instruction_before i m)
    step_by i m plain z is fits h = before_by i m (no_move i plain) (λ k e. subst Fits (some_same (sym is ∙ e)) fits) h

    scaling_is : (o : Option ℕ) (size t : ℕ) (a : Operand) → is_move (scaling o size t a) ≡ false
    scaling_is None size t a = refl
    scaling_is (Some k) size t a = refl

    scaling_writes : (o : Option ℕ) (size t : ℕ) (a : Operand) → target_of (scaling o size t a) ≡ Some t
    scaling_writes None size t a = refl
    scaling_writes (Some k) size t a = refl

    scale_by : (size : ℕ) (a : Operand) (t : ℕ) (m : Made) → Fits t → IsKeptBy May m → IsKeptBy May (scale size a t m)
    scale_by size a t m fits h = go (is_scaled size a)
      where
        go : (b : Bool) → IsKeptBy May (if b then instruction_before (scaling (shift_of size) size t a) m else m)
        go true = step_by (scaling (shift_of size) size t a) m (scaling_is (shift_of size) size t a) t (scaling_writes (shift_of size) size t a) fits h
        go false = h

    renew_by : (ty : IntegerType) (x t : ℕ) (o : Operation) (a b : Operand) (m : Made) → Fits x → Fits t → IsKeptBy May m → IsKeptBy May (renew ty x t (λ y. Operate y o a b) m)
    renew_by ty x t o a b m fits more h = go (is_narrow ty)
      where
        go : (n : Bool) → IsKeptBy May (if n then instruction_before (Operate t o a b) (instruction_before (Truncate x (truncation_to ty) (Name t)) m) else instruction_before (Operate x o a b) m)
        go true = step_by (Operate t o a b) (instruction_before (Truncate x (truncation_to ty) (Name t)) m) refl t refl more (step_by (Truncate x (truncation_to ty) (Name t)) m refl x refl fits h)
        go false = step_by (Operate x o a b) m refl x refl fits h

    changed_by : (c : declared-change.Change) (x t free : ℕ) (old by : Operand) (m : Made) → Fits x → Fits t → Fits free → IsKeptBy May m → IsKeptBy May (changed c x t free old by m)
    changed_by (change.Integer o ty v) x t free old by m one two three h = renew_by ty x t (operation_for o v) old by m one two h
    changed_by (change.Pointer d bytes) x t free old by m one two three h =
        let i = Operate x (move_by d) old (scaled bytes by free) in
        scale_by bytes by free (instruction_before i m) three (step_by i m refl x refl one h)

    note_by : (x : ℕ) (m : Made) → IsKeptBy May m → IsKeptBy May (note x m)
    note_by x m h = before_by (Note x (Is (Of (Name x)))) m (no_move (Note x (Is (Of (Name x)))) refl) (λ z e. absurd (none_is e)) h

  pub before_kept : (i : Instruction) (m : Made) → IsNoCopy i → IsKept m → IsKept (instruction_before i m)
  before_kept i m plain h = before_by Never Any goes_never i m plain (λ z e. tt) h

  pub step_kept : (i : Instruction) (m : Made) → is_move i ≡ false → IsKept m → IsKept (instruction_before i m)
  step_kept i m plain h = before_kept i m (no_move i plain) h

  scale_kept : (size : ℕ) (a : Operand) (t : ℕ) (m : Made) → IsKept m → IsKept (scale size a t m)
  scale_kept size a t m h = scale_by Never Any goes_never size a t m tt h

  changed_kept : (c : declared-change.Change) (x t free : ℕ) (old by : Operand) (m : Made) → IsKept m → IsKept (changed c x t free old by m)
  changed_kept c x t free old by m h = changed_by Never Any goes_never c x t free old by m tt tt tt h

  pub note_kept : (x : ℕ) (m : Made) → IsKept m → IsKept (note x m)
  note_kept x m h = note_by Never Any goes_never x m h

  -- ---- Its pieces

  tested_kept : (a : Operand) (one other : ℕ) (inner : List Block) → AllMeet inner → IsKept (tested a one other inner)
  tested_kept a one other inner h = (none_kept Never, h)

  pub leaf_kept : (g : Goal) (a : Operand) → Stays a → OfGoal g → IsKept (leaf g a)
  leaf_kept (To None m) a stays h = h
  leaf_kept (To (Some x) m) a stays h = before_kept (Move x a) m (no_copy x a stays) h
  leaf_kept (Unused m) a stays h = h
  leaf_kept (Either one other inner) a stays h = tested_kept a one other inner h

  -- where it begins a block, whatever the operand is
  pub leaf_met : (g : Goal) (a : Operand) → OfGoal g → IsMet (leaf g a)
  leaf_met (To None m) a h = met m h
  leaf_met (To (Some x) m) a h = (first_meets (Move x a) m.ops h.0, h.1)
  leaf_met (Unused m) a h = met m h
  leaf_met (Either one other inner) a h = met (tested a one other inner) (tested_kept a one other inner h)

  pub follow_kept : (g : Goal) (own : ℕ) → OfGoal g → IsKept (follow g own)
  follow_kept (To want m) own h = h
  follow_kept (Unused m) own h = h
  follow_kept (Either one other inner) own h = tested_kept (Name own) one other inner h

  pub noted_kept : (x : ℕ) (g : Goal) → x < scalars → OfGoal g → IsKept (noted x g)
  noted_kept x g few h = note_kept x (leaf g (Name x)) (leaf_kept g (Name x) few h)

  pub valued_of : (g : Goal) (a : Operand) → OfGoal g → OfGoal (valued g a)
  valued_of (To want m) a h = h
  valued_of (Unused m) a h = h
  valued_of (Either one other inner) a h = tested_kept a one other inner h

  pub used_of : (g : Goal) → OfGoal g → OfGoal (used g)
  used_of (To want m) h = h
  used_of (Unused m) h = h
  used_of (Either one other inner) h = h

  -- what later code writes is a scalar
  pub move_kept : (w : ℕ → Bool) → Few scalars w → (t : ℕ) (a : Operand) (m : Made) → IsKept m → IsKept (move_if (is_moved w a) t a m)
  move_kept w few t (Constant z) m h = h
  move_kept w few t (StaticAddress o k) m h = h
  move_kept w few t (Name x) m h = go (w x) refl
    where
      go : (b : Bool) → w x ≡ b → IsKept (move_if b t (Name x) m)
      go true written = before_kept (Move t (Name x)) m (λ y s e low high. plain y s e high) h
        where
          plain : (y s : ℕ) → Move t (Name x) ≡ Move y (Name s) → scalars ≤ s → ⊥
          plain y s e high = let same : x ≡ s = name_same (operand_same e) in false_true (sym (few x (subst (λ (k : ℕ). scalars ≤ k) (sym same) high)) ∙ written)
      go false plain = h

  pub hold_kept : (w : ℕ → Bool) → Few scalars w → (t : ℕ) (l : Location) (m : Made) → IsKept m → IsKept (hold_location (is_location_moved w l) t l m)
  hold_kept w few t (At a) m h = move_kept w few t a m h
  hold_kept w few t (Automatic o k) m h = h
  hold_kept w few t (Static o) m h = h

  pub stored_kept : (e : declared-element.Element) (l : Location) (a : Operand) (g : Goal) → OfGoal g → IsKept (stored e l a g)
  stored_kept e l a (To want m) h = step_kept (Store e l a) m refl h
  stored_kept e l a (Unused m) h = step_kept (Store e l a) m refl h
  stored_kept e l a (Either one other inner) h = step_kept (Store e l a) (tested a one other inner) refl (tested_kept a one other inner h)

  two_kept : (i j : Instruction) (m : Made) → is_move i ≡ false → is_move j ≡ false → IsKept m → IsKept (instruction_before i (instruction_before j m))
  two_kept i j m first second h = step_kept i (instruction_before j m) first (step_kept j m second h)

  compare_kept : (o : declared-comparison.Comparison) (s : Bool) (x t : ℕ) (a b : Operand) (m : Made) → IsKept m → IsKept (compare_by o s x t a b m)
  compare_kept comparison.Less s x t a b m h = step_kept (Operate x (less_by s) a b) m refl h
  compare_kept comparison.Greater s x t a b m h = step_kept (Operate x (less_by s) b a) m refl h
  compare_kept comparison.LessEqual s x t a b m h = two_kept (Operate t (less_by s) b a) (Operate x operation.Xor (Name t) (Constant 1)) m refl refl h
  compare_kept comparison.GreaterEqual s x t a b m h = two_kept (Operate t (less_by s) a b) (Operate x operation.Xor (Name t) (Constant 1)) m refl refl h
  compare_kept comparison.Equal s x t a b m h = two_kept (Operate t operation.Xor a b) (Operate x operation.Sltu (Name t) (Constant 1)) m refl refl h
  compare_kept comparison.NotEqual s x t a b m h = two_kept (Operate t operation.Xor a b) (Operate x operation.Sltu (drafts.zero) (Name t)) m refl refl h

  pointers_kept : (o : declared-comparison.Comparison) (x t : ℕ) (a b : Operand) (m : Made) → IsKept m → IsKept (compare_pointers_by o x t a b m)
  pointers_kept comparison.Equal x t a b m h = step_kept (Same x a b) m refl h
  pointers_kept comparison.NotEqual x t a b m h = two_kept (Same t a b) (Operate x operation.Xor (Name t) (Constant 1)) m refl refl h
  pointers_kept comparison.Less x t a b m h = compare_kept comparison.Less false x t a b m h
  pointers_kept comparison.Greater x t a b m h = compare_kept comparison.Greater false x t a b m h
  pointers_kept comparison.LessEqual x t a b m h = compare_kept comparison.LessEqual false x t a b m h
  pointers_kept comparison.GreaterEqual x t a b m h = compare_kept comparison.GreaterEqual false x t a b m h

  pub called_kept : (void : Bool) (g : Goal) (own : ℕ) (i : Option ℕ → Instruction) → ((o : Option ℕ) → is_move (i o) ≡ false) → OfGoal g → IsKept (called_by void g own i)
  called_kept true g own i plain h = step_kept (i None) (leaf g (drafts.zero)) (plain None) (leaf_kept g (drafts.zero) tt h)
  called_kept false (Unused m) own i plain h = step_kept (i None) m (plain None) h
  called_kept false (To want m) own i plain h = step_kept (i (Some (target (To want m) own))) m (plain (Some (target (To want m) own))) h
  called_kept false (Either one other inner) own i plain h = step_kept (i (Some own)) (tested (Name own) one other inner) (plain (Some own)) (tested_kept (Name own) one other inner h)

  -- two arms write 1 and 0 and go on to what follows, which begins a block
  arms_meet : (place own l : ℕ) (w : ℕ) (inner : List Block) → AllMeet inner → AllMeet (with_inner_block place (record { ops = Move own (Constant w) ∷ []; end = Jump l; inner = inner }))
  arms_meet place own l w inner h =
      let e = ending (Jump l) inner in
      let m = instruction_before (Move own (Constant w)) e in closed place m (met m (before_kept (Move own (Constant w)) e (no_copy own (Constant w) tt) (ended (Jump l) inner h)))

  joined_meet : (place top own : ℕ) (m : Made) → IsMet m →
      AllMeet (drafts.arm place own 1 (label_of top m) (drafts.arm place own 0 (label_of top m) (with_inner_block place m)))
  joined_meet place top own m h = arms_meet place own (label_of top m) 1 (drafts.arm place own 0 (label_of top m) (with_inner_block place m)) (arms_meet place own (label_of top m) 0 (with_inner_block place m) (closed place m h))

  pub forked_meet : (place top : ℕ) (g : Goal) (own : ℕ) → OfGoal g → AllMeet (forked place top g own).inner
  forked_meet place top (Either one other inner) own h = h
  forked_meet place top (Unused m) own h = joined_meet place top own m (met m h)
  forked_meet place top (To want k) own h = joined_meet place top own (leaf (To want k) (Name own)) (leaf_met (To want k) (Name own) h)

  -- ---- By way of names

  module _ (n : Names) where
    pub operated_kept : (g : Goal) (begun free : ℕ) (i : ℕ → Instruction) → ((x : ℕ) → is_move (i x) ≡ false) → OfGoal g → IsKept (operated n g begun free i)
    operated_kept g begun free i plain h = let own = pick n begun free in step_kept (i (target g own)) (follow g own) (plain (target g own)) (follow_kept g own h)

    scaled_kept : (g : Goal) (begun : ℕ) (o : Operation) (bytes : ℕ) (p i : Operand) (free : ℕ) → OfGoal g → IsKept (code_scaled_pair n g begun o bytes p i free)
    scaled_kept g begun o bytes p i free h =
        let next = operated n g begun (behind_move (is_scaled bytes i) free) (λ x. Operate x o p (scaled bytes i free)) in
        scale_kept bytes i free next (operated_kept g begun (behind_move (is_scaled bytes i) free) (λ x. Operate x o p (scaled bytes i free)) (λ x. refl) h)

    value_kept : (g : Goal) (s : Bool) (o : declared-comparison.Comparison) (begun : ℕ) (b : Bool) (q : Pair) → OfGoal g → IsKept (compared_value n g s o begun b q)
    value_kept g s o begun b q h =
        let own = pick n begun (behind_move b q.next) in compare_kept o s (target g own) (pick n begun q.next) q.left q.right (follow g own) (follow_kept g own h)

    compared_kept : (g : Goal) (s : Bool) (o : declared-comparison.Comparison) (begun : ℕ) (b : Bool) (q : Pair) → OfGoal g → IsKept (compared n g s o begun b q)
    compared_kept (Either one other inner) s o begun b q h = (none_kept Never, h)
    compared_kept (To want m) s o begun b q h = value_kept (To want m) s o begun b q h
    compared_kept (Unused m) s o begun b q h = value_kept (Unused m) s o begun b q h

    pointers_value_kept : (g : Goal) (o : declared-comparison.Comparison) (begun : ℕ) (q : Pair) → OfGoal g → IsKept (compared_pointers_value n g o begun q)
    pointers_value_kept g o begun q h =
        let own = pick n begun (behind_move (is_two_pointers o) q.next) in pointers_kept o (target g own) (pick n begun q.next) q.left q.right (follow g own) (follow_kept g own h)

    both_pointers_kept : (g : Goal) (o : declared-comparison.Comparison) (begun : ℕ) (q : Pair) → OfGoal g → IsKept (compared_pointers n g o begun q)
    both_pointers_kept (Either one other inner) o begun q h = (none_kept Never, h)
    both_pointers_kept (To want m) o begun q h = pointers_value_kept (To want m) o begun q h
    both_pointers_kept (Unused m) o begun q h = pointers_value_kept (Unused m) o begun q h

    unscaling_is : (o : Option ℕ) (size x t : ℕ) → is_move (unscaling o size x t) ≡ false
    unscaling_is None size x t = refl
    unscaling_is (Some k) size x t = refl

    distance_kept : (bytes : ℕ) (g : Goal) (begun : ℕ) (q : Pair) → OfGoal g → IsKept (element_distance n bytes g begun q)
    distance_kept bytes g begun q h = go (bytes == 1)
      where
        last : ℕ → Instruction
        last x = unscaling (shift_of bytes) bytes x (pick n begun q.next)

        go : (b : Bool) → IsKept (if b then operated n g begun q.next (λ x. Operate x operation.Sub q.left q.right) else instruction_before (Operate (pick n begun q.next) operation.Sub q.left q.right) (operated n g begun (q.next + 1) (λ x. unscaling (shift_of bytes) bytes x (pick n begun q.next))))
        go true = operated_kept g begun q.next (λ x. Operate x operation.Sub q.left q.right) (λ x. refl) h
        go false = step_kept (Operate (pick n begun q.next) operation.Sub q.left q.right) (operated n g begun (q.next + 1) last) refl
            (operated_kept g begun (q.next + 1) last (λ x. unscaling_is (shift_of bytes) bytes x (pick n begun q.next)) h)

    pub finished_kept : (k : declared-two.Two) (g : Goal) (begun : ℕ) (q : Pair) → OfGoal g → IsKept (finished n k g begun q)
    finished_kept (two.Arithmetic o ty) g begun q h = operated_kept g begun q.next (λ x. Operate x (operation_for o ty) q.left q.right) (λ x. refl) h
    finished_kept (two.Compare o ty) g begun q h = compared_kept g (integer ty).is_signed o begun (is_two o) q h
    finished_kept (two.ComparePointers o) g begun q h = both_pointers_kept g o begun q h
    finished_kept (two.Move d bytes) g begun q h = scaled_kept g begun (move_by d) bytes q.left q.right q.next h
    finished_kept (two.MoveFrom bytes) g begun q h = scaled_kept g begun operation.Add bytes q.right q.left q.next h
    finished_kept (two.Difference bytes) g begun q h = distance_kept bytes g begun q h

    pub renewed_kept : (c : declared-change.Change) (x : ℕ) (old : Operand) (by : Laid) (g : Goal) → x < scalars → OfGoal g → IsKept (renewed_scalar c x old by g)
    renewed_kept c x old by g few h = changed_kept c x by.next by.next old by.value (noted x g) (noted_kept x g few h)

    pub memory_kept : (c : declared-change.Change) (q : PlaceLaid) (moved : Bool) (by : Laid) (g : Goal) → OfGoal g → IsKept (renewed_memory n c q moved by g)
    memory_kept c q moved by g h =
        let own = target g (pick n q.next (behind_move (takes_more c by.value) by.next)) in
        let last = stored (changed_element c) (held_location moved (q.next + 1) q.location) (Name own) g in
        changed_kept c own (pick n q.next by.next) by.next (Name q.next) by.value last (stored_kept (changed_element c) (held_location moved (q.next + 1) q.location) (Name own) g h)

    pub loaded_kept : (c : declared-change.Change) (q : PlaceLaid) (moved : Bool) (m : Made) → IsKept (hold_location moved (q.next + 1) q.location m) → IsKept (loaded_first c q moved m)
    loaded_kept c q moved m h = step_kept (Load q.next (changed_element c) q.location) (hold_location moved (q.next + 1) q.location m) refl h

    -- the old value of a scalar, where it is wanted in a name
    left_in : (c : declared-change.Change) (x t y free : ℕ) (k : Made) → x < scalars → IsKept k → (b : Bool) → (b ≡ true → free ≡ t + 1) →
        IsKept (if b then instruction_before (Move t (Name x)) (changed c x free free (Name x) (Constant 1) (note x (if b then instruction_before (Move x (Name t)) k else k)))
        else instruction_before (Move y (Name x)) (changed c x free free (Name x) (Constant 1) (note x (if b then instruction_before (Move x (Name t)) k else k))))
    left_in c x t y free k few h true is =
        let last = instruction_before (Move x (Name t)) k in
        let next = note x last in
        let kept : IsKeptBy (Just x t) next = note_by (Just x t) (Other t) (goes_just x t) x last (kept_back x t k.ops h.0, h.1) in
        let mid = changed_by (Just x t) (Other t) (goes_just x t) c x free free (Name x) (Constant 1) next scalar later later kept in
        (kept_just x t (changed c x free free (Name x) (Constant 1) next).ops few mid.0, mid.1)
      where
        scalar : Other t x
        scalar high = grind (arith, nat_tests, few, high)

        next_name : free ≡ t + 1
        next_name = is refl

        later : Other t free
        later high = subst (λ (z : ℕ). (z == t) ≡ false) (sym next_name) (grind (arith, nat_tests))
    left_in c x t y free k few h false is =
        before_kept (Move y (Name x)) (changed c x free free (Name x) (Constant 1) (note x k)) (no_copy y (Name x) few) (changed_kept c x free free (Name x) (Constant 1) (note x k) (note_kept x k h))

    pub left_scalar_kept : (c : declared-change.Change) (x t : ℕ) (g : Goal) → x < scalars → OfGoal g → IsKept (left_scalar c x t g)
    left_scalar_kept c x t (Unused k) few h = changed_kept c x t t (Name x) (Constant 1) (note x k) (note_kept x k h)
    left_scalar_kept c x t (To None k) few h =
        let free = t + 1 in before_kept (Move t (Name x)) (changed c x free free (Name x) (Constant 1) (note x k)) (no_copy t (Name x) few)
        (changed_kept c x free free (Name x) (Constant 1) (note x k) (note_kept x k h))
    left_scalar_kept c x t (Either one other inner) few h =
        let free = t + 1 in let k = tested (Name t) one other inner in before_kept (Move t (Name x)) (changed c x free free (Name x) (Constant 1) (note x k)) (no_copy t (Name x) few)
        (changed_kept c x free free (Name x) (Constant 1) (note x k) (note_kept x k (tested_kept (Name t) one other inner h)))
    left_scalar_kept c x t (To (Some y) k) few h = left_in c x t y (behind_old (use_of (To (Some y) k)) x t) k few h (y == x) (λ e. ap (λ (b : Bool). if b then t + 1 else t) e)

    pub left_memory_kept : (c : declared-change.Change) (q : PlaceLaid) (g : Goal) → OfGoal g → IsKept (left_memory c q g)
    left_memory_kept c q g h =
        let old = target g q.next in let free = left_free (use_of g) q.next in let own = behind_move (takes_more c (Constant 1)) free in
        let last = instruction_before (Store (changed_element c) q.location (Name own)) (follow g old) in
        let mid = changed c own free free (Name old) (Constant 1) last in
        step_kept (Load old (changed_element c) q.location) mid refl (changed_kept c own free free (Name old) (Constant 1) last
        (step_kept (Store (changed_element c) q.location (Name own)) (follow g old) refl (follow_kept g old h)))

    pub object_kept : (o : declared-object.Object) (t : ℕ) (g : Goal) → OfGoal g → IsKept (object_address n o t g)
    object_kept (object.Static i) t g h = leaf_kept g (StaticAddress i 0) tt h
    object_kept (object.Literal i) t g h = leaf_kept g (StaticAddress (n.statics + i) 0) tt h
    object_kept (object.Automatic x) t g h = operated_kept g t t (λ y. Address y (or_zero (object_of n x))) (λ y. refl) h
