-- Pieces of code name what is there.
use Rattle.std.proofs.Common.{◌≡◌, ℕ, ◌+◌, ◌≤◌, ◌<◌, Bool, true, false, Option, Some, None, List, [], ◌∷◌, ◌++◌, length, refl, sym, subst, arith, if◌then◌else◌, ◌==◌}
use Rattle.std.specs.Prelude.{max, not}
use Rattle.std.specs.List.{AllByRecursion}
use Rattle.c_tree.specs.declared.types.IntegerType.{IntegerType}
use Rattle.c_tree.specs.declared.typed_expression.Comparison as declared-comparison
use Rattle.c_tree.specs.declared.typed_expression.Comparison.TheVariants as comparison
use Rattle.c_tree.specs.declared.typed_expression.Sign.{Sign}
use Rattle.c_tree.specs.declared.typed_expression.Sign.TheVariants.{Plus, Minus, Complement}
use Rattle.c_tree.specs.declared.object_type.Object as declared-object
use Rattle.c_tree.specs.declared.object_type.Object.TheVariants as object
use Rattle.c_type_rules.specs.Integers.{integer}
use Rattle.word_base.specs.declared.operation.Operation.{Operation}
use Rattle.word_base.specs.declared.operation.Operation.TheVariants as operation
use Rattle.graph_core.specs.declared.instruction.Element as declared-element
use Rattle.graph_core.specs.declared.block.Comparison.TheVariants as branch
use Rattle.graph_core.specs.Graphs as unit
use Rattle.graph_core.specs.Graphs.{Operand, Location, Instruction, Note, Operate, Truncate, Same, Address, Store, Block, End, Jump, Branch}
use Rattle.graph_core.specs.Validity.{IsInstruction, IsLocation, AreOperandsOfEnd}
use Rattle.graph_build_names.specs.Conversions.{is_narrow}
use Rattle.graph_build_names.specs.Operands.{is_two, is_two_pointers, operand_at, located_at}
use Rattle.graph_build_names.specs.Scales.{is_scaled, shift_of, scaled}
use Rattle.graph_build_layout.specs.declared.laid.Use.{Use}
use Rattle.graph_build_layout.specs.declared.laid.Use.TheVariants.{Anywhere, In, Nothing, Tested}
use Rattle.graph_build_names.specs.Names.{pick, object_of}
use Rattle.graph_build_layout.specs.Laid.{Laid, Pair, PlaceLaid, behind_move, as_value, worked, operation_laid, steps_laid, compared_laid, moved_laid, old_laid, left_scalar_laid, left_memory_laid, called_laid, object_laid}
use Rattle.graph_build_layout.specs.Layout.{named_address}
use Rattle.graph_build_steps.specs.Rules.{truncation_to, operation_for, move_by}
use Rattle.graph_build_steps.specs.Drafts.{Made, Goal, To, Unused, Either, Fork, use_of, instruction_before, ending, leaf, target, follow, tested, scale, scaling, unscaling, move_if, note, noted, compare_by, compare_pointers_by, less, not_less, branch_by, label_of, with_inner_block, arm, forked, valued, used, stored, hold_location, held_location, keep_old, use_old, behind_old, left_free, called_by, renew, operated, code_scaled_pair, compared, compared_value, compared_pointers, compared_pointers_value}
use Rattle.graph_build_steps.specs.Drafts as drafts
use Rattle.graph_build_steps.specs.declared.site.Two as declared-two
use Rattle.graph_build_steps.specs.declared.site.Two.TheVariants as two
use Rattle.graph_build_steps.specs.declared.change.Change as declared-change
use Rattle.graph_build_steps.specs.declared.change.Change.TheVariants as change
use Rattle.graph_build_steps.specs.Steps.{signed, finished, element_distance, changed, changed_element, takes_more, renewed_scalar, loaded_first, renewed_memory, left_scalar, left_memory, object_address, or_zero}
use Rattle.graph_build_laws.proofs.Temporaries.{picked, moved_behind}
use Rattle.std.proofs.lemmas.Option.{slice_get_within}
use Rattle.graph_build_laws.proofs.Naming.{InMemory}
use Rattle.graph_build_laws.proofs.Values.{Setting, n, most, Stands, Fits, left_or, any_name, operation_most, standing_top}
use Rattle.base_laws.proofs.Numbers.{are_equal}

-- the name behind one that is taken
pub taken : (b : Bool) (k m : ℕ) → behind_move b k ≤ m → b ≡ true → k < m
taken true k m h e = omega (arith, h)
taken false k m h e = cc

pub moved_least : (b : Bool) (k m : ℕ) → behind_move b k ≤ m → k ≤ m
moved_least true k m h = omega (arith, h)
moved_least false k m h = h

module _ (x : Setting) (Own : ℕ → Type 0) where
  abbrev I : Instruction → Type 0
  I i = IsInstruction x.unit x.graph i

  abbrev pub Are : List Instruction → Type 0
  Are all = AllByRecursion I all

  abbrev pub EndIs : End → Type 0
  EndIs e = AreOperandsOfEnd x.unit.statics x.graph e

  abbrev pub Loc : Location → Type 0
  Loc l = IsLocation x.unit.statics x.graph l

  -- An inner block has a place of its own, and names what is there.
  pub record IsInner (b : Block) : Type 0 where
    pub place : ℕ
    pub has : b.place ≡ Some place
    pub own : Own place
    pub instructions : Are b.instructions
    pub end : EndIs b.end

  abbrev pub AreInner : List Block → Type 0
  AreInner all = AllByRecursion IsInner all

  -- What is made names what is there, and so do its inner blocks.
  pub record IsMade (m : Made) : Type 0 where
    pub ops : Are m.ops
    pub end : EndIs m.end
    pub inner : AreInner m.inner

  abbrev pub IsWant : Option ℕ → Type 0
  IsWant None = Unit {0}
  IsWant (Some y) = y < most x

  -- What a value is for names what is there.
  abbrev pub IsGoal : Goal → Type 0
  IsGoal (To want m) = IsWant want × IsMade m
  IsGoal (Unused m) = IsMade m
  IsGoal (Either one other inner) = AreInner inner

  abbrev pub S : Operand → Type 0
  S a = Stands x a

  pub goal_fits : (g : Goal) → IsGoal g → Fits x (use_of g)
  goal_fits (To None m) h = tt
  goal_fits (To (Some y) m) h = h.0
  goal_fits (Unused m) h = tt
  goal_fits (Either one other inner) h = tt

  pub before_is : (i : Instruction) (m : Made) → I i → IsMade m → IsMade (instruction_before i m)
  before_is i m h k = record { ops = (h, k.ops); end = k.end; inner = k.inner }

  pub ending_is : (e : End) (inner : List Block) → EndIs e → AreInner inner → IsMade (ending e inner)
  ending_is e inner h k = record { ops = tt; end = h; inner = k }

  one_more : (xs : List Block) (b : Block) → AreInner xs → IsInner b → AreInner (xs ++ b ∷ [])
  one_more [] b h k = (k, tt)
  one_more (y ∷ xs) b h k = (h.0, one_more xs b h.1 k)

  pub tested_is : (a : Operand) (one other : ℕ) (inner : List Block) → S a → AreInner inner → IsMade (tested a one other inner)
  tested_is a one other inner h k = ending_is (Branch branch.NotEqual a drafts.zero one other) inner (h, tt) k

  pub leaf_is : (g : Goal) (a : Operand) → S a → IsGoal g → IsMade (leaf g a)
  leaf_is (To None m) a h k = k.1
  leaf_is (To (Some y) m) a h k = before_is (unit.Move y a) m (k.0, h) k.1
  leaf_is (Unused m) a h k = k
  leaf_is (Either one other inner) a h k = tested_is a one other inner h k

  pub follow_is : (g : Goal) (own : ℕ) → (use_of g ≡ Tested → own < most x) → IsGoal g → IsMade (follow g own)
  follow_is (To want m) own h k = k.1
  follow_is (Unused m) own h k = k
  follow_is (Either one other inner) own h k = tested_is (unit.Name own) one other inner (h refl) k

  -- an operation is there that writes what wants its result, or a name that its layout has
  pub operated_by : (g : Goal) (begun free top : ℕ) → (operation_laid (n x) (use_of g) begun free top).top ≤ most x → IsGoal g →
      (target g (pick (n x) begun free) < most x) × IsMade (follow g (pick (n x) begun free))
  operated_by (To None m) begun free top h k = (any_name (pick (n x) begun free) free top (most x) h, k.1)
  operated_by (To (Some y) m) begun free top h k = (k.0, k.1)
  operated_by (Unused m) begun free top h k = (any_name (pick (n x) begun free) free top (most x) h, k)
  operated_by (Either one other inner) begun free top h k =
      let le = any_name (pick (n x) begun free) free top (most x) h in (le, tested_is (unit.Name (pick (n x) begun free)) one other inner le k)

  pub operated_is : (g : Goal) (begun free top : ℕ) (i : ℕ → Instruction) → ((y : ℕ) → y < most x → I (i y)) → (operation_laid (n x) (use_of g) begun free top).top ≤ most x → IsGoal g → IsMade (operated (n x) g begun free i)
  operated_is g begun free top i h le k =
      let own = pick (n x) begun free in
      let r = operated_by g begun free top le k in before_is (i (target g own)) (follow g own) (h (target g own) r.0) r.1

  pub note_is : (y : ℕ) (m : Made) → y < length x.graph.scalars → IsMade m → IsMade (note y m)
  note_is y m h k = let few = x.few in before_is (Note y (unit.Is (unit.Of (unit.Name y)))) m (h, (omega (arith, h, few), omega arith)) k

  pub noted_is : (y : ℕ) (g : Goal) → y < length x.graph.scalars → IsGoal g → IsMade (noted y g)
  noted_is y g h k = let few = x.few in note_is y (leaf g (unit.Name y)) h (leaf_is g (unit.Name y) (omega (arith, h, few)) k)

  pub move_is : (b : Bool) (t : ℕ) (a : Operand) (m : Made) → (b ≡ true → t < most x) → S a → IsMade m → IsMade (move_if b t a m)
  move_is true t a m h s k = before_is (unit.Move t a) m (h refl, s) k
  move_is false t a m h s k = k

  location_operand : (l : Location) → Loc l → S (operand_at l)
  location_operand (unit.At a) h = h
  location_operand (unit.Automatic o k) h = tt
  location_operand (unit.Static o) h = tt

  pub hold_is : (b : Bool) (t : ℕ) (l : Location) (m : Made) → (b ≡ true → t < most x) → Loc l → IsMade m → IsMade (hold_location b t l m)
  hold_is b t l m h s k = move_is b t (operand_at l) m h (location_operand l s) k

  located_is : (l : Location) (t : ℕ) → t < most x → Loc l → Loc (located_at l (unit.Name t))
  located_is (unit.At a) t h s = h
  located_is (unit.Automatic o k) t h s = s
  located_is (unit.Static o) t h s = s

  pub held_is : (b : Bool) (t : ℕ) (l : Location) → (b ≡ true → t < most x) → Loc l → Loc (held_location b t l)
  held_is true t l h s = located_is l t (h refl) s
  held_is false t l h s = s

  -- a scaled index
  scaled_stands : (size : ℕ) (a : Operand) (t : ℕ) → (is_scaled size a ≡ true → t < most x) → S a → S (scaled size a t)
  scaled_stands size (unit.Constant w) t h s = tt
  scaled_stands size (unit.Name y) t h s = go (size == 1) h
    where
      go : (b : Bool) → (not b ≡ true → t < most x) → S (if b then unit.Name y else unit.Name t)
      go true h = s
      go false h = h refl
  scaled_stands size (unit.StaticAddress o k) t h s = go (size == 1) h
    where
      go : (b : Bool) → (not b ≡ true → t < most x) → S (if b then unit.StaticAddress o k else unit.Name t)
      go true h = s
      go false h = h refl

  scaling_is : (o : Option ℕ) (size t : ℕ) (a : Operand) → t < most x → S a → I (scaling o size t a)
  scaling_is None size t a h s = (h, s, tt)
  scaling_is (Some k) size t a h s = (h, s, tt)

  scale_is : (size : ℕ) (a : Operand) (t : ℕ) (m : Made) → (is_scaled size a ≡ true → t < most x) → S a → IsMade m → IsMade (scale size a t m)
  scale_is size a t m h s k = go (is_scaled size a) h
    where
      go : (b : Bool) → (b ≡ true → t < most x) → IsMade (if b then instruction_before (scaling (shift_of size) size t a) m else m)
      go true h = before_is (scaling (shift_of size) size t a) m (scaling_is (shift_of size) size t a (h refl) s) k
      go false h = k

  unscaling_is : (o : Option ℕ) (size y t : ℕ) → y < most x → t < most x → I (unscaling o size y t)
  unscaling_is None size y t h s = (h, s, tt)
  unscaling_is (Some k) size y t h s = (h, s, tt)

  renew_is : (ty : IntegerType) (y t : ℕ) (i : ℕ → Instruction) (m : Made) → ((z : ℕ) → z < most x → I (i z)) → y < most x → (is_narrow ty ≡ true → t < most x) → IsMade m → IsMade (renew ty y t i m)
  renew_is ty y t i m h le few k = go (is_narrow ty) few
    where
      go : (b : Bool) → (b ≡ true → t < most x) → IsMade (if b then instruction_before (i t) (instruction_before (Truncate y (truncation_to ty) (unit.Name t)) m) else instruction_before (i y) m)
      go true few = before_is (i t) (instruction_before (Truncate y (truncation_to ty) (unit.Name t)) m) (h t (few refl)) (before_is (Truncate y (truncation_to ty) (unit.Name t)) m (le, few refl) k)
      go false few = before_is (i y) m (h y le) k

  pub changed_is : (c : declared-change.Change) (y t free : ℕ) (old by : Operand) (m : Made) → y < most x → (takes_more c by ≡ true → t < most x) → (takes_more c by ≡ true → free < most x) → S old → S by → IsMade m → IsMade (changed c y t free old by m)
  changed_is (change.Integer o ty v) y t free old by m h few more s r k = renew_is ty y t (λ z. Operate z (operation_for o v) old by) m (λ z le. (le, s, r)) h few k
  changed_is (change.Pointer d bytes) y t free old by m h few more s r k =
      let next = instruction_before (Operate y (move_by d) old (scaled bytes by free)) m in
      scale_is bytes by free next more r (before_is (Operate y (move_by d) old (scaled bytes by free)) m (h, s, scaled_stands bytes by free more r) k)

  pub stored_is : (e : declared-element.Element) (l : Location) (a : Operand) (g : Goal) → Loc l → S a → IsGoal g → IsMade (stored e l a g)
  stored_is e l a (To want m) h s k = before_is (Store e l a) m (h, s) k.1
  stored_is e l a (Unused m) h s k = before_is (Store e l a) m (h, s) k
  stored_is e l a (Either one other inner) h s k = before_is (Store e l a) (tested a one other inner) (h, s) (tested_is a one other inner s k)

  one_is : (i : Instruction) (m : Made) → I i → IsMade m → IsMade (instruction_before i m)
  one_is i m h k = before_is i m h k

  two_are : (i j : Instruction) (m : Made) → I i → I j → IsMade m → IsMade (instruction_before i (instruction_before j m))
  two_are i j m h g k = before_is i (instruction_before j m) h (before_is j m g k)

  compare_is : (o : declared-comparison.Comparison) (s : Bool) (y t : ℕ) (a b : Operand) (m : Made) → y < most x → (is_two o ≡ true → t < most x) → S a → S b → IsMade m → IsMade (compare_by o s y t a b m)
  compare_is comparison.Less s y t a b m h few p q k = one_is _ m (h, p, q) k
  compare_is comparison.Greater s y t a b m h few p q k = one_is _ m (h, q, p) k
  compare_is comparison.LessEqual s y t a b m h few p q k = two_are _ _ m (few refl, q, p) (h, few refl, tt) k
  compare_is comparison.GreaterEqual s y t a b m h few p q k = two_are _ _ m (few refl, p, q) (h, few refl, tt) k
  compare_is comparison.Equal s y t a b m h few p q k = two_are _ _ m (few refl, p, q) (h, few refl, tt) k
  compare_is comparison.NotEqual s y t a b m h few p q k = two_are _ _ m (few refl, p, q) (h, tt, few refl) k

  pointers_are : (o : declared-comparison.Comparison) (y t : ℕ) (a b : Operand) (m : Made) → y < most x → (is_two_pointers o ≡ true → t < most x) → S a → S b → IsMade m → IsMade (compare_pointers_by o y t a b m)
  pointers_are comparison.Equal y t a b m h few p q k = one_is _ m (h, p, q) k
  pointers_are comparison.NotEqual y t a b m h few p q k = two_are _ _ m (few refl, p, q) (h, few refl, tt) k
  pointers_are comparison.Less y t a b m h few p q k = one_is _ m (h, p, q) k
  pointers_are comparison.Greater y t a b m h few p q k = one_is _ m (h, q, p) k
  pointers_are comparison.LessEqual y t a b m h few p q k = two_are _ _ m (few refl, q, p) (h, few refl, tt) k
  pointers_are comparison.GreaterEqual y t a b m h few p q k = two_are _ _ m (few refl, p, q) (h, few refl, tt) k

  branch_is : (o : declared-comparison.Comparison) (s : Bool) (a b : Operand) (one other : ℕ) → S a → S b → EndIs (branch_by o s a b one other)
  branch_is comparison.Less s a b one other p q = (p, q)
  branch_is comparison.Greater s a b one other p q = (q, p)
  branch_is comparison.LessEqual s a b one other p q = (q, p)
  branch_is comparison.GreaterEqual s a b one other p q = (p, q)
  branch_is comparison.Equal s a b one other p q = (p, q)
  branch_is comparison.NotEqual s a b one other p q = (p, q)

  keep_is : (u : Use) (y t : ℕ) (m : Made) → Fits x u → y < most x → (old_laid u y t).top ≤ most x → IsMade m → IsMade (keep_old u y t m)
  keep_is Nothing y t m f h le k = k
  keep_is Anywhere y t m f h le k = before_is (unit.Move t (unit.Name y)) m (omega (arith, le), h) k
  keep_is Tested y t m f h le k = before_is (unit.Move t (unit.Name y)) m (omega (arith, le), h) k
  keep_is (In z) y t m f h le k = go (z == y) le
    where
      go : (b : Bool) → (left_or b z t).top ≤ most x →
          IsMade (if b then instruction_before (unit.Move t (unit.Name y)) m else instruction_before (unit.Move z (unit.Name y)) m)
      go true le = before_is (unit.Move t (unit.Name y)) m (omega (arith, le), h) k
      go false le = before_is (unit.Move z (unit.Name y)) m (f, h) k

  use_is : (g : Goal) (y t : ℕ) → (old_laid (use_of g) y t).top ≤ most x → IsGoal g → IsMade (use_old g y t)
  use_is (Unused m) y t le k = k
  use_is (To None m) y t le k = k.1
  use_is (Either one other inner) y t le k = tested_is (unit.Name t) one other inner (omega (arith, le)) k
  use_is (To (Some z) m) y t le k = go (z == y) refl le
    where
      own : (a b : ℕ) → (a == b) ≡ true → a ≡ b
      own a b e = are_equal a b e

      go : (b : Bool) → (z == y) ≡ b → (left_or b z t).top ≤ most x → IsMade (if b then instruction_before (unit.Move y (unit.Name t)) m else m)
      go true e le = before_is (unit.Move y (unit.Name t)) m (subst (λ w. w < most x) (own z y e) k.0, omega (arith, le)) k.1
      go false e le = k.1

  pub called_is : (void : Bool) (g : Goal) (t next top : ℕ) (i : Option ℕ → Instruction) → ((o : Option ℕ) → IsWant o → I (i o)) → (called_laid (n x) (use_of g) void t next top).top ≤ most x → IsGoal g → IsMade (called_by void g (pick (n x) t next) i)
  called_is true g t next top i h le k = before_is (i None) (leaf g drafts.zero) (h None tt) (leaf_is g drafts.zero tt k)
  called_is false (Unused m) t next top i h le k = before_is (i None) m (h None tt) k
  called_is false (To None m) t next top i h le k =
      let r = operated_by (To None m) t next top le k in before_is (i (Some (pick (n x) t next))) m (h (Some (pick (n x) t next)) r.0) r.1
  called_is false (To (Some y) m) t next top i h le k = before_is (i (Some y)) m (h (Some y) k.0) k.1
  called_is false (Either one other inner) t next top i h le k =
      let r = operated_by (Either one other inner) t next top le k in before_is (i (Some (pick (n x) t next))) (follow (Either one other inner) (pick (n x) t next)) (h (Some (pick (n x) t next)) r.0) r.1

  pub valued_is : (g : Goal) (a : Operand) → (use_of g ≡ Tested → S a) → IsGoal g → IsGoal (valued g a)
  valued_is (To want m) a h k = k
  valued_is (Unused m) a h k = k
  valued_is (Either one other inner) a h k = (tt, tested_is a one other inner (h refl) k)

  pub valued_use : (g : Goal) (a : Operand) → use_of (valued g a) ≡ as_value (use_of g)
  valued_use (To None m) a = refl
  valued_use (To (Some y) m) a = refl
  valued_use (Unused m) a = refl
  valued_use (Either one other inner) a = refl

  pub used_is : (g : Goal) → IsGoal g → IsGoal (used g)
  used_is (To want m) k = k
  used_is (Unused m) k = (tt, k)
  used_is (Either one other inner) k = k

  pub used_use : (g : Goal) (a : Operand) → use_of (valued (used g) a) ≡ worked (use_of g)
  used_use (To None m) a = refl
  used_use (To (Some y) m) a = refl
  used_use (Unused m) a = refl
  used_use (Either one other inner) a = refl

  pub used_tested : (g : Goal) → use_of (used g) ≡ Tested → use_of g ≡ Tested
  used_tested (To want m) e = e
  used_tested (Unused m) e = cc
  used_tested (Either one other inner) e = refl

  -- what is made of two values that stand
  pub record StandsPair (begun : ℕ) (q : Pair) : Type 0 where
    pub left : S q.left
    pub right : S q.right
    pub least : begun ≤ q.next

  pick_next : (begun free : ℕ) → begun ≤ free → free < most x → pick (n x) begun free < most x
  pick_next begun free h k = picked (n x) (λ z. z < most x) begun free (omega (arith, h, k)) k

  scaled_pair : (g : Goal) (begun : ℕ) (o : Operation) (bytes : ℕ) (p i : Operand) (free top : ℕ) → S p → S i → (operation_laid (n x) (use_of g) begun (behind_move (is_scaled bytes i) free) top).top ≤ most x → IsGoal g → IsMade (code_scaled_pair (n x) g begun o bytes p i free)
  scaled_pair g begun o bytes p i free top h s le k =
      let few = taken (is_scaled bytes i) free (most x) (operation_most x (use_of g) begun (behind_move (is_scaled bytes i) free) top le).0 in
      scale_is bytes i free (operated (n x) g begun (behind_move (is_scaled bytes i) free) (λ y. Operate y o p (scaled bytes i free))) few s
      (operated_is g begun (behind_move (is_scaled bytes i) free) top (λ y. Operate y o p (scaled bytes i free)) (λ y less. (less, h, scaled_stands bytes i free few s)) le k)

  value_is : (g : Goal) (s : Bool) (o : declared-comparison.Comparison) (begun : ℕ) (b : Bool) (q : Pair) → (is_two o ≡ true → b ≡ true) → StandsPair begun q → (steps_laid (n x) (use_of g) b begun q).top ≤ most x → IsGoal g → IsMade (compared_value (n x) g s o begun b q)
  value_is g s o begun b q need r le k =
      let free = behind_move b q.next in
      let own = operated_by g begun free (max q.top free) le k in
      let few = taken b q.next (most x) (operation_most x (use_of g) begun free (max q.top free) le).0 in
      compare_is o s (target g (pick (n x) begun free)) (pick (n x) begun q.next) q.left q.right (follow g (pick (n x) begun free)) own.0 (λ e. pick_next begun q.next r.least (few (need e))) r.left r.right own.1

  pub compared_is : (g : Goal) (s : Bool) (o : declared-comparison.Comparison) (begun : ℕ) (q : Pair) → StandsPair begun q → (compared_laid (n x) (use_of g) (is_two o) begun q).top ≤ most x → IsGoal g → IsMade (compared (n x) g s o begun (is_two o) q)
  compared_is (Either one other inner) s o begun q r le k = ending_is (branch_by o s q.left q.right one other) inner (branch_is o s q.left q.right one other r.left r.right) k
  compared_is (To None m) s o begun q r le k = value_is (To None m) s o begun (is_two o) q (λ e. e) r le k
  compared_is (To (Some y) m) s o begun q r le k = value_is (To (Some y) m) s o begun (is_two o) q (λ e. e) r le k
  compared_is (Unused m) s o begun q r le k = value_is (Unused m) s o begun (is_two o) q (λ e. e) r le k

  pointers_value : (g : Goal) (o : declared-comparison.Comparison) (begun : ℕ) (q : Pair) → StandsPair begun q → (steps_laid (n x) (use_of g) (is_two_pointers o) begun q).top ≤ most x → IsGoal g → IsMade (compared_pointers_value (n x) g o begun q)
  pointers_value g o begun q r le k =
      let b = is_two_pointers o in
      let free = behind_move b q.next in
      let own = operated_by g begun free (max q.top free) le k in
      let few = taken b q.next (most x) (operation_most x (use_of g) begun free (max q.top free) le).0 in
      pointers_are o (target g (pick (n x) begun free)) (pick (n x) begun q.next) q.left q.right (follow g (pick (n x) begun free)) own.0 (λ e. pick_next begun q.next r.least (few e)) r.left r.right own.1

  pub pointers_is : (g : Goal) (o : declared-comparison.Comparison) (begun : ℕ) (q : Pair) → StandsPair begun q → (compared_laid (n x) (use_of g) (is_two_pointers o) begun q).top ≤ most x → IsGoal g → IsMade (compared_pointers (n x) g o begun q)
  pointers_is (Either one other inner) o begun q r le k = ending_is (branch_by o false q.left q.right one other) inner (branch_is o false q.left q.right one other r.left r.right) k
  pointers_is (To None m) o begun q r le k = pointers_value (To None m) o begun q r le k
  pointers_is (To (Some y) m) o begun q r le k = pointers_value (To (Some y) m) o begun q r le k
  pointers_is (Unused m) o begun q r le k = pointers_value (Unused m) o begun q r le k

  distance_is : (bytes : ℕ) (g : Goal) (begun : ℕ) (q : Pair) → StandsPair begun q → (steps_laid (n x) (use_of g) (not (bytes == 1)) begun q).top ≤ most x → IsGoal g → IsMade (element_distance (n x) bytes g begun q)
  distance_is bytes g begun q r le k = go (bytes == 1) le
    where
      go : (b : Bool) → (steps_laid (n x) (use_of g) (not b) begun q).top ≤ most x →
          IsMade (if b then operated (n x) g begun q.next (λ y. Operate y operation.Sub q.left q.right) else instruction_before (Operate (pick (n x) begun q.next) operation.Sub q.left q.right) (operated (n x) g begun (q.next + 1) (λ y. unscaling (shift_of bytes) bytes y (pick (n x) begun q.next))))
      go true le = operated_is g begun q.next (max q.top q.next) (λ y. Operate y operation.Sub q.left q.right) (λ y less. (less, r.left, r.right)) le k
      go false le =
          let free = q.next + 1 in
          let least = r.least in
          let few : free ≤ most x = (operation_most x (use_of g) begun free (max q.top free) le).0 in
          let t : pick (n x) begun q.next < most x = pick_next begun q.next least (omega (arith, few)) in
          let next = operated (n x) g begun free (λ y. unscaling (shift_of bytes) bytes y (pick (n x) begun q.next)) in
          before_is (Operate (pick (n x) begun q.next) operation.Sub q.left q.right) next (t, r.left, r.right)
          (operated_is g begun free (max q.top free) (λ y. unscaling (shift_of bytes) bytes y (pick (n x) begun q.next)) (λ y less. unscaling_is (shift_of bytes) bytes y (pick (n x) begun q.next) less t) le k)

  -- where a pair's result stands
  abbrev pub FinishedWithin : declared-two.Two → Use → (begun : ℕ) → Pair → Type 0
  FinishedWithin (two.Arithmetic o ty) u begun q = (operation_laid (n x) u begun q.next q.top).top ≤ most x
  FinishedWithin (two.Compare o ty) u begun q = (compared_laid (n x) u (is_two o) begun q).top ≤ most x
  FinishedWithin (two.ComparePointers o) u begun q = (compared_laid (n x) u (is_two_pointers o) begun q).top ≤ most x
  FinishedWithin (two.Move d bytes) u begun q = (moved_laid (n x) u begun bytes q.right q).top ≤ most x
  FinishedWithin (two.MoveFrom bytes) u begun q = (moved_laid (n x) u begun bytes q.left q).top ≤ most x
  FinishedWithin (two.Difference bytes) u begun q = (steps_laid (n x) u (not (bytes == 1)) begun q).top ≤ most x

  compared_top : (u : Use) (b : Bool) (begun : ℕ) (q : Pair) → (compared_laid (n x) u b begun q).top ≤ most x → q.top ≤ most x
  compared_top Tested b begun q h = h
  compared_top Anywhere b begun q h = let r = (operation_most x Anywhere begun (behind_move b q.next) _ h).1 in omega (arith, r)
  compared_top Nothing b begun q h = let r = (operation_most x Nothing begun (behind_move b q.next) _ h).1 in omega (arith, r)
  compared_top (In y) b begun q h = let r = (operation_most x (In y) begun (behind_move b q.next) _ h).1 in omega (arith, r)

  pub finished_top : (k : declared-two.Two) (u : Use) (begun : ℕ) (q : Pair) → FinishedWithin k u begun q → q.top ≤ most x
  finished_top (two.Arithmetic o ty) u begun q h = (operation_most x u begun q.next q.top h).1
  finished_top (two.Compare o ty) u begun q h = compared_top u (is_two o) begun q h
  finished_top (two.ComparePointers o) u begun q h = compared_top u (is_two_pointers o) begun q h
  finished_top (two.Move d bytes) u begun q h = (operation_most x u begun (behind_move (is_scaled bytes q.right) q.next) q.top h).1
  finished_top (two.MoveFrom bytes) u begun q h = (operation_most x u begun (behind_move (is_scaled bytes q.left) q.next) q.top h).1
  finished_top (two.Difference bytes) u begun q h = let r = (operation_most x u begun (behind_move (not (bytes == 1)) q.next) _ h).1 in omega (arith, r)

  pub finished_is : (k : declared-two.Two) (g : Goal) (begun : ℕ) (q : Pair) → StandsPair begun q → FinishedWithin k (use_of g) begun q → IsGoal g → IsMade (finished (n x) k g begun q)
  finished_is (two.Arithmetic o ty) g begun q r le k = operated_is g begun q.next q.top (λ y. Operate y (operation_for o ty) q.left q.right) (λ y less. (less, r.left, r.right)) le k
  finished_is (two.Compare o ty) g begun q r le k = compared_is g (integer ty).is_signed o begun q r le k
  finished_is (two.ComparePointers o) g begun q r le k = pointers_is g o begun q r le k
  finished_is (two.Move d bytes) g begun q r le k = scaled_pair g begun (move_by d) bytes q.left q.right q.next q.top r.left r.right le k
  finished_is (two.MoveFrom bytes) g begun q r le k = scaled_pair g begun operation.Add bytes q.right q.left q.next q.top r.right r.left le k
  finished_is (two.Difference bytes) g begun q r le k = distance_is bytes g begun q r le k

  -- the new value of a scalar
  pub renewed_is : (c : declared-change.Change) (y : ℕ) (old : Operand) (by : Laid) (g : Goal) → y < length x.graph.scalars → behind_move (takes_more c by.value) by.next ≤ most x → S old → S by.value → IsGoal g → IsMade (renewed_scalar c y old by g)
  renewed_is c y old by g h le s r k =
      let few = x.few in
      let more = taken (takes_more c by.value) by.next (most x) le in
      changed_is c y by.next by.next old by.value (noted y g) (omega (arith, h, few)) more more s r (noted_is y g h k)

  -- the new value of what is in memory
  pub memory_is : (c : declared-change.Change) (q : PlaceLaid) (moved : Bool) (by : Laid) (g : Goal) (top : ℕ) → (operation_laid (n x) (use_of g) q.next (behind_move (takes_more c by.value) by.next) top).top ≤ most x → q.next < most x → (moved ≡ true → q.next + 1 < most x) → Loc q.location → S by.value → IsGoal g →
      IsMade (renewed_memory (n x) c q moved by g)
  memory_is c q moved by g top le lt few loc s k =
      let free = behind_move (takes_more c by.value) by.next in
      let own = operated_by g q.next free top le k in
      let y = target g (pick (n x) q.next free) in
      let more = taken (takes_more c by.value) by.next (most x) (operation_most x (use_of g) q.next free top le).0 in
      let last = stored (changed_element c) (held_location moved (q.next + 1) q.location) (unit.Name y) g in
      changed_is c y (pick (n x) q.next by.next) by.next (unit.Name q.next) by.value last own.0 (λ e. picked (n x) (λ z. z < most x) q.next by.next lt (more e)) more lt s
      (stored_is (changed_element c) (held_location moved (q.next + 1) q.location) (unit.Name y) g (held_is moved (q.next + 1) q.location few loc) own.0 k)

  pub loaded_is : (c : declared-change.Change) (q : PlaceLaid) (moved : Bool) (m : Made) → q.next < most x → (moved ≡ true → q.next + 1 < most x) → Loc q.location → IsMade m → IsMade (loaded_first c q moved m)
  loaded_is c q moved m lt few loc k = before_is (unit.Load q.next (changed_element c) q.location) (hold_location moved (q.next + 1) q.location m) (lt, loc) (hold_is moved (q.next + 1) q.location m few loc k)

  old_behind : (u : Use) (y t : ℕ) → behind_old u y t ≡ (old_laid u y t).next
  old_behind Nothing y t = refl
  old_behind Anywhere y t = refl
  old_behind Tested y t = refl
  old_behind (In z) y t = go (z == y)
    where
      go : (b : Bool) → (if b then t + 1 else t) ≡ (left_or b z t).next
      go true = refl
      go false = refl

  -- the old value of a scalar, left behind its new one
  pub left_scalar_is : (c : declared-change.Change) (y t : ℕ) (g : Goal) → y < length x.graph.scalars → (left_scalar_laid (n x) (use_of g) (takes_more c (unit.Constant 1)) y t).top ≤ most x → IsGoal g → IsMade (left_scalar c y t g)
  left_scalar_is c y t g h le k =
      let few = x.few in
      let u = use_of g in
      let r = old_laid u y t in
      let next = behind_move (takes_more c (unit.Constant 1)) r.next in
      let both : max r.top next ≤ most x = subst (λ m. m ≤ most x) (standing_top x u t (record { value = r.value; next = pick (n x) r.next next; top = max r.top next })) le in
      let free = behind_old u y t in
      let same : r.next ≡ free = sym (old_behind u y t) in
      let more : takes_more c (unit.Constant 1) ≡ true → free < most x = taken (takes_more c (unit.Constant 1)) free (most x) (subst (λ z. behind_move (takes_more c (unit.Constant 1)) z ≤ most x) same (omega (arith, both))) in
      let top : r.top ≤ most x = omega (arith, both) in
      let last = note y (use_old g y t) in
      let scalar : y < most x = omega (arith, h, few) in
      keep_is u y t (changed c y free free (unit.Name y) (unit.Constant 1) last) (goal_fits g k) scalar top
      (changed_is c y free free (unit.Name y) (unit.Constant 1) last scalar more more scalar tt (note_is y (use_old g y t) h (use_is g y t top k)))

  -- the same of what is in memory
  left_by : (c : declared-change.Change) (q : PlaceLaid) (g : Goal) (old free : ℕ) → old < most x → behind_move (takes_more c (unit.Constant 1)) free < most x → free < most x → Loc q.location → IsMade (follow g old) →
      IsMade (instruction_before (unit.Load old (changed_element c) q.location) (changed c (behind_move (takes_more c (unit.Constant 1)) free) free free (unit.Name old) (unit.Constant 1) (instruction_before (Store (changed_element c) q.location (unit.Name (behind_move (takes_more c (unit.Constant 1)) free))) (follow g old))))
  left_by c q g old free lt own less loc k =
      let y = behind_move (takes_more c (unit.Constant 1)) free in
      let last = instruction_before (Store (changed_element c) q.location (unit.Name y)) (follow g old) in
      before_is (unit.Load old (changed_element c) q.location) (changed c y free free (unit.Name old) (unit.Constant 1) last) (lt, loc)
      (changed_is c y free free (unit.Name old) (unit.Constant 1) last own (λ e. less) (λ e. less) lt tt (before_is (Store (changed_element c) q.location (unit.Name y)) (follow g old) (loc, own) k))

  next_move : (b : Bool) (k : ℕ) → behind_move b (k + 1) ≡ behind_move b k + 1
  next_move true k = refl
  next_move false k = refl

  two_moves : (b : Bool) (k : ℕ) → behind_move b (k + 2) ≡ behind_move b (k + 1) + 1
  two_moves true k = omega arith
  two_moves false k = omega arith

  pub left_memory_is : (c : declared-change.Change) (t : ℕ) (q : PlaceLaid) (g : Goal) → (left_memory_laid (n x) (use_of g) (takes_more c (unit.Constant 1)) t q).top ≤ most x → Loc q.location → IsGoal g → IsMade (left_memory c q g)
  left_memory_is c t q (To (Some y) m) le loc k =
      let b = takes_more c (unit.Constant 1) in
      let z = moved_behind b q.next in
      let up = next_move b q.next in
      left_by c q (To (Some y) m) y q.next k.0 (omega (arith, le, up)) (omega (arith, le, up, z.0)) loc k.1
  left_memory_is c t q (To None m) le loc k =
      let b = takes_more c (unit.Constant 1) in
      let z = moved_behind b (q.next + 1) in
      let up = two_moves b q.next in
      left_by c q (To None m) q.next (q.next + 1) (omega (arith, le, up, z.0)) (omega (arith, le, up)) (omega (arith, le, up, z.0)) loc k.1
  left_memory_is c t q (Unused m) le loc k =
      let b = takes_more c (unit.Constant 1) in
      let z = moved_behind b (q.next + 1) in
      let up = two_moves b q.next in
      left_by c q (Unused m) q.next (q.next + 1) (omega (arith, le, up, z.0)) (omega (arith, le, up)) (omega (arith, le, up, z.0)) loc k
  left_memory_is c t q (Either one other inner) le loc k =
      let b = takes_more c (unit.Constant 1) in
      let z = moved_behind b (q.next + 1) in
      let up = two_moves b q.next in
      let old : q.next < most x = omega (arith, le, up, z.0) in
      left_by c q (Either one other inner) q.next (q.next + 1) old (omega (arith, le, up)) (omega (arith, le, up, z.0)) loc (tested_is (unit.Name q.next) one other inner old k)

  -- the address of an object
  object_by : (v t : ℕ) (g : Goal) (o : Option ℕ) (j : ℕ) → o ≡ Some j → j < length x.graph.objects → (object_laid (n x) (use_of g) o t).top ≤ most x → IsGoal g → IsMade (operated (n x) g t t (λ y. Address y (or_zero o)))
  object_by v t g None j e lt le k = cc
  object_by v t g (Some i) j e lt le k = operated_is g t t t (λ y. Address y i) (λ y less. (less, subst (λ z. z < length x.graph.objects) (same e) lt)) le k
    where
      same : Some i ≡ Some j → j ≡ i
      same e = cc

  pub object_is : (o : declared-object.Object) (t : ℕ) (g : Goal) → InMemory x.program x.unit.graphs (n x) o → (named_address (n x) o (use_of g) t).top ≤ most x → IsGoal g → IsMade (object_address (n x) o t g)
  object_is (object.Static i) t g h le k = leaf_is g (unit.StaticAddress i 0) (x.statics i h) k
  object_is (object.Literal i) t g h le k = leaf_is g (unit.StaticAddress ((n x).statics + i) 0) (x.literals i h) k
  object_is (object.Automatic v) t g h le k =
      let m = x.objects v h.0 h.1 in object_by v t g (object_of (n x) v) h.0 h.1 (slice_get_within x.graph.objects h.0 m.0 m.1) le k

  pub signed_is : (o : Sign) (a : Operand) (y : ℕ) → y < most x → S a → I (signed o a y)
  signed_is Plus a y h s = (h, s)
  signed_is Minus a y h s = (h, tt, s)
  signed_is Complement a y h s = (h, s, tt)

  -- where blocks are closed, in a place of the graph's own
  module _ (place top : ℕ) (own : Own place) where
    pub closed_is : (m : Made) → IsMade m → AreInner (with_inner_block place m)
    closed_is m k = one_more m.inner (record { place = Some place; instructions = m.ops; end = m.end }) k.inner (record { place = place; has = refl; own = own; instructions = k.ops; end = k.end })

    arms_are : (m : Made) (y : ℕ) → y < most x → IsMade m → AreInner (arm place y 1 (label_of top m) (arm place y 0 (label_of top m) (with_inner_block place m)))
    arms_are m y h k =
        let arm0 : Made = record { ops = unit.Move y (unit.Constant 0) ∷ []; end = Jump (label_of top m); inner = with_inner_block place m } in
        let arm1 : Made = record { ops = unit.Move y (unit.Constant 1) ∷ []; end = Jump (label_of top m); inner = with_inner_block place arm0 } in
        let zero : IsMade arm0 = record { ops = ((h, tt), tt); end = tt; inner = closed_is m k } in
        closed_is arm1 (record { ops = ((h, tt), tt); end = tt; inner = closed_is arm0 zero })

    -- where a test leads
    pub forked_is : (g : Goal) (y : ℕ) → ((use_of g ≡ Tested → ⊥) → y < most x) → IsGoal g → AreInner (forked place top g y).inner
    forked_is (Either one other inner) y h k = k
    forked_is (Unused m) y h k = arms_are m y (h (λ e. cc)) k
    forked_is (To None m) y h k = arms_are m y (h (λ e. cc)) k.1
    forked_is (To (Some z) m) y h k = arms_are (instruction_before (unit.Move z (unit.Name y)) m) y (h (λ e. cc)) (before_is (unit.Move z (unit.Name y)) m (k.0, h (λ e. cc)) k.1)
