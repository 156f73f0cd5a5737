-- Pieces of code are made of ordinary instructions, where what follows them is.
use Rattle.std.proofs.Common.{◌≡◌, ℕ, ◌+◌, Bool, true, false, Option, Some, None, List, [], ◌∷◌, refl, if◌then◌else◌, ◌==◌}
use Rattle.c_tree.specs.declared.types.IntegerType.{IntegerType}
use Rattle.c_tree.specs.declared.typed_expression.Comparison as declared-comparison
use Rattle.c_tree.specs.declared.typed_expression.Comparison.TheVariants as comparison
use Rattle.c_tree.specs.declared.typed_expression.Sign.{Sign}
use Rattle.c_tree.specs.declared.typed_expression.Sign.TheVariants.{Plus, Minus, Complement}
use Rattle.c_tree.specs.declared.object_type.Object as declared-object
use Rattle.c_tree.specs.declared.object_type.Object.TheVariants as object
use Rattle.c_type_rules.specs.Integers.{integer}
use Rattle.word_base.specs.declared.operation.Operation.{Operation}
use Rattle.word_base.specs.declared.operation.Operation.TheVariants as operation
use Rattle.graph_core.specs.declared.instruction.Element as declared-element
use Rattle.graph_core.specs.Graphs as unit
use Rattle.graph_core.specs.Graphs.{Operand, Location, Instruction, Operate, Truncate, Address, Store, Block, Jump}
use Rattle.graph_build_names.specs.Conversions.{is_narrow}
use Rattle.graph_build_names.specs.Operands.{is_two, is_two_pointers, operand_at}
use Rattle.graph_build_names.specs.Scales.{is_scaled, shift_of, scaled}
use Rattle.graph_build_layout.specs.declared.laid.Use.{Use}
use Rattle.graph_build_layout.specs.declared.laid.Use.TheVariants.{Anywhere, In, Nothing, Tested}
use Rattle.graph_build_names.specs.Names.{Names, pick, object_of}
use Rattle.graph_build_layout.specs.Laid.{Laid, Pair, PlaceLaid, behind_move}
use Rattle.graph_build_steps.specs.Rules.{truncation_to, operation_for, move_by}
use Rattle.graph_build_steps.specs.Drafts.{Made, Goal, To, Unused, Either, use_of, instruction_before, leaf, target, follow, tested, scale, scaling, unscaling, move_if, note, noted, compare_by, compare_pointers_by, with_inner_block, arm, forked, valued, used, stored, keep_old, use_old, behind_old, left_free, called_by, renew, operated, code_scaled_pair, compared, compared_value, compared_pointers, compared_pointers_value, label_of, held_location}
use Rattle.graph_build_steps.specs.Drafts as drafts
use Rattle.graph_build_steps.specs.declared.site.Two as declared-two
use Rattle.graph_build_steps.specs.declared.site.Two.TheVariants as two
use Rattle.graph_build_steps.specs.declared.change.Change as declared-change
use Rattle.graph_build_steps.specs.declared.change.Change.TheVariants as change
use Rattle.graph_build_steps.specs.Steps.{signed, finished, element_distance, changed, changed_element, takes_more, renewed_scalar, loaded_first, renewed_memory, left_scalar, left_memory, object_address, or_zero}
use Rattle.image_truth_units.proofs.Ordinary.{is_ordinary, AreInner, Fine, FineGoal, closed_fine}

module _ (Own : ℕ → Type 0) where
  abbrev Is : Made → Type 0
  Is m = Fine Own m

  abbrev For : Goal → Type 0
  For g = FineGoal Own g

  pub before_fine : (i : Instruction) (m : Made) → is_ordinary i ≡ true → Is m → Is (instruction_before i m)
  before_fine i m h k = ((h, k.0), k.1)

  pub leaf_fine : (g : Goal) (a : Operand) → For g → Is (leaf g a)
  leaf_fine (To None m) a h = h
  leaf_fine (To (Some x) m) a h = before_fine (unit.Move x a) m refl h
  leaf_fine (Unused m) a h = h
  leaf_fine (Either one other inner) a h = (tt, h)

  follow_fine : (g : Goal) (own : ℕ) → For g → Is (follow g own)
  follow_fine (To want m) own h = h
  follow_fine (Unused m) own h = h
  follow_fine (Either one other inner) own h = (tt, h)

  pub noted_fine : (x : ℕ) (g : Goal) → For g → Is (noted x g)
  noted_fine x g h = let k = leaf_fine g (unit.Name x) h in ((refl, k.0), k.1)

  pub valued_fine : (g : Goal) (a : Operand) → For g → For (valued g a)
  valued_fine (To want m) a h = h
  valued_fine (Unused m) a h = h
  valued_fine (Either one other inner) a h = (tt, h)

  pub used_fine : (g : Goal) → For g → For (used g)
  used_fine (To want m) h = h
  used_fine (Unused m) h = h
  used_fine (Either one other inner) h = h

  pub move_fine : (b : Bool) (t : ℕ) (a : Operand) (m : Made) → Is m → Is (move_if b t a m)
  move_fine true t a m h = before_fine (unit.Move t a) m refl h
  move_fine false t a m h = h

  scaling_is : (o : Option ℕ) (size t : ℕ) (a : Operand) → is_ordinary (scaling o size t a) ≡ true
  scaling_is None size t a = refl
  scaling_is (Some k) size t a = refl

  unscaling_is : (o : Option ℕ) (size x t : ℕ) → is_ordinary (unscaling o size x t) ≡ true
  unscaling_is None size x t = refl
  unscaling_is (Some k) size x t = refl

  scale_fine : (size : ℕ) (a : Operand) (t : ℕ) (m : Made) → Is m → Is (scale size a t m)
  scale_fine size a t m h = go (is_scaled size a)
    where
      go : (b : Bool) → Is (if b then instruction_before (scaling (shift_of size) size t a) m else m)
      go true = before_fine (scaling (shift_of size) size t a) m (scaling_is (shift_of size) size t a) h
      go false = h

  renew_fine : (ty : IntegerType) (x t : ℕ) (i : ℕ → Instruction) (m : Made) → ((y : ℕ) → is_ordinary (i y) ≡ true) → Is m → Is (renew ty x t i m)
  renew_fine ty x t i m k h = go (is_narrow ty)
    where
      go : (b : Bool) → Is (if b then instruction_before (i t) (instruction_before (Truncate x (truncation_to ty) (unit.Name t)) m) else instruction_before (i x) m)
      go true = before_fine (i t) (instruction_before (Truncate x (truncation_to ty) (unit.Name t)) m) (k t) (before_fine (Truncate x (truncation_to ty) (unit.Name t)) m refl h)
      go false = before_fine (i x) m (k x) h

  changed_fine : (c : declared-change.Change) (x t free : ℕ) (old by : Operand) (m : Made) → Is m → Is (changed c x t free old by m)
  changed_fine (change.Integer o ty v) x t free old by m h = renew_fine ty x t (λ y. Operate y (operation_for o v) old by) m (λ y. refl) h
  changed_fine (change.Pointer d bytes) x t free old by m h =
      let next = instruction_before (Operate x (move_by d) old (scaled bytes by free)) m in scale_fine bytes by free next (before_fine (Operate x (move_by d) old (scaled bytes by free)) m refl h)

  pub stored_fine : (e : declared-element.Element) (l : Location) (a : Operand) (g : Goal) → For g → Is (stored e l a g)
  stored_fine e l a (To want m) h = before_fine (Store e l a) m refl h
  stored_fine e l a (Unused m) h = before_fine (Store e l a) m refl h
  stored_fine e l a (Either one other inner) h = before_fine (Store e l a) (tested a one other inner) refl (tt, h)

  compare_fine : (o : declared-comparison.Comparison) (s : Bool) (x t : ℕ) (a b : Operand) (m : Made) → Is m → Is (compare_by o s x t a b m)
  compare_fine comparison.Less s x t a b m h = ((refl, h.0), h.1)
  compare_fine comparison.Greater s x t a b m h = ((refl, h.0), h.1)
  compare_fine comparison.LessEqual s x t a b m h = ((refl, (refl, h.0)), h.1)
  compare_fine comparison.GreaterEqual s x t a b m h = ((refl, (refl, h.0)), h.1)
  compare_fine comparison.Equal s x t a b m h = ((refl, (refl, h.0)), h.1)
  compare_fine comparison.NotEqual s x t a b m h = ((refl, (refl, h.0)), h.1)

  pointers_fine : (o : declared-comparison.Comparison) (x t : ℕ) (a b : Operand) (m : Made) → Is m → Is (compare_pointers_by o x t a b m)
  pointers_fine comparison.Equal x t a b m h = ((refl, h.0), h.1)
  pointers_fine comparison.NotEqual x t a b m h = ((refl, (refl, h.0)), h.1)
  pointers_fine comparison.Less x t a b m h = ((refl, h.0), h.1)
  pointers_fine comparison.Greater x t a b m h = ((refl, h.0), h.1)
  pointers_fine comparison.LessEqual x t a b m h = ((refl, (refl, h.0)), h.1)
  pointers_fine comparison.GreaterEqual x t a b m h = ((refl, (refl, h.0)), h.1)

  keep_fine : (u : Use) (x t : ℕ) (m : Made) → Is m → Is (keep_old u x t m)
  keep_fine Nothing x t m h = h
  keep_fine Anywhere x t m h = ((refl, h.0), h.1)
  keep_fine Tested x t m h = ((refl, h.0), h.1)
  keep_fine (In y) x t m h = go (y == x)
    where
      go : (b : Bool) → Is (if b then instruction_before (unit.Move t (unit.Name x)) m else instruction_before (unit.Move y (unit.Name x)) m)
      go true = ((refl, h.0), h.1)
      go false = ((refl, h.0), h.1)

  use_fine : (g : Goal) (x t : ℕ) → For g → Is (use_old g x t)
  use_fine (Unused k) x t h = h
  use_fine (To None k) x t h = h
  use_fine (Either one other inner) x t h = (tt, h)
  use_fine (To (Some y) k) x t h = go (y == x)
    where
      go : (b : Bool) → Is (if b then instruction_before (unit.Move x (unit.Name t)) k else k)
      go true = ((refl, h.0), h.1)
      go false = h

  pub called_fine : (void : Bool) (g : Goal) (own : ℕ) (i : Option ℕ → Instruction) → ((o : Option ℕ) → is_ordinary (i o) ≡ true) → For g → Is (called_by void g own i)
  called_fine true g own i k h = before_fine (i None) (leaf g (drafts.zero)) (k None) (leaf_fine g (drafts.zero) h)
  called_fine false (Unused m) own i k h = before_fine (i None) m (k None) h
  called_fine false (To want m) own i k h = before_fine (i (Some (target (To want m) own))) m (k (Some (target (To want m) own))) h
  called_fine false (Either one other inner) own i k h = before_fine (i (Some own)) (tested (unit.Name own) one other inner) (k (Some own)) (tt, h)

  -- where a test leads
  arm_fine : (place : ℕ) → Own place → (own w label : ℕ) (inner : List Block) → AreInner Own inner → AreInner Own (arm place own w label inner)
  arm_fine place mine own w label inner h = closed_fine Own place mine (record { ops = unit.Move own (unit.Constant w) ∷ []; end = Jump label; inner = inner }) ((refl, tt), h)

  pub forked_fine : (place top : ℕ) → Own place → (g : Goal) (own : ℕ) → For g → AreInner Own (forked place top g own).inner
  forked_fine place top mine (Either one other inner) own h = h
  forked_fine place top mine (Unused m) own h =
      let join = with_inner_block place m in
      let zeroed = arm place own 0 (label_of top m) join in arm_fine place mine own 1 (label_of top m) zeroed (arm_fine place mine own 0 (label_of top m) join (closed_fine Own place mine m h))
  forked_fine place top mine (To want k) own h =
      let m = leaf (To want k) (unit.Name own) in
      let join = with_inner_block place m in
      let zeroed = arm place own 0 (label_of top m) join in
      arm_fine place mine own 1 (label_of top m) zeroed (arm_fine place mine own 0 (label_of top m) join (closed_fine Own place mine m (leaf_fine (To want k) (unit.Name own) h)))

  module _ (n : Names) where
    pub operated_fine : (g : Goal) (begun free : ℕ) (i : ℕ → Instruction) → ((x : ℕ) → is_ordinary (i x) ≡ true) → For g → Is (operated n g begun free i)
    operated_fine g begun free i k h = let own = pick n begun free in before_fine (i (target g own)) (follow g own) (k (target g own)) (follow_fine g own h)

    scaled_fine : (g : Goal) (begun : ℕ) (o : Operation) (bytes : ℕ) (p i : Operand) (free : ℕ) → For g → Is (code_scaled_pair n g begun o bytes p i free)
    scaled_fine g begun o bytes p i free h =
        let next = operated n g begun (behind_move (is_scaled bytes i) free) (λ x. Operate x o p (scaled bytes i free)) in
        scale_fine bytes i free next (operated_fine g begun (behind_move (is_scaled bytes i) free) (λ x. Operate x o p (scaled bytes i free)) (λ x. refl) h)

    value_fine : (g : Goal) (s : Bool) (o : declared-comparison.Comparison) (begun : ℕ) (b : Bool) (q : Pair) → For g → Is (compared_value n g s o begun b q)
    value_fine g s o begun b q h =
        let own = pick n begun (behind_move b q.next) in compare_fine o s (target g own) (pick n begun q.next) q.left q.right (follow g own) (follow_fine g own h)

    compared_fine : (g : Goal) (s : Bool) (o : declared-comparison.Comparison) (begun : ℕ) (b : Bool) (q : Pair) → For g → Is (compared n g s o begun b q)
    compared_fine (Either one other inner) s o begun b q h = (tt, h)
    compared_fine (To want m) s o begun b q h = value_fine (To want m) s o begun b q h
    compared_fine (Unused m) s o begun b q h = value_fine (Unused m) s o begun b q h

    pointers_value_fine : (g : Goal) (o : declared-comparison.Comparison) (begun : ℕ) (q : Pair) → For g → Is (compared_pointers_value n g o begun q)
    pointers_value_fine g o begun q h =
        let own = pick n begun (behind_move (is_two_pointers o) q.next) in pointers_fine o (target g own) (pick n begun q.next) q.left q.right (follow g own) (follow_fine g own h)

    compared_pointers_fine : (g : Goal) (o : declared-comparison.Comparison) (begun : ℕ) (q : Pair) → For g → Is (compared_pointers n g o begun q)
    compared_pointers_fine (Either one other inner) o begun q h = (tt, h)
    compared_pointers_fine (To want m) o begun q h = pointers_value_fine (To want m) o begun q h
    compared_pointers_fine (Unused m) o begun q h = pointers_value_fine (Unused m) o begun q h

    distance_fine : (bytes : ℕ) (g : Goal) (begun : ℕ) (q : Pair) → For g → Is (element_distance n bytes g begun q)
    distance_fine bytes g begun q h = go (bytes == 1)
      where
        go : (b : Bool) → Is (if b then operated n g begun q.next (λ x. Operate x operation.Sub q.left q.right) else instruction_before (Operate (pick n begun q.next) operation.Sub q.left q.right) (operated n g begun (q.next + 1) (λ x. unscaling (shift_of bytes) bytes x (pick n begun q.next))))
        go true = operated_fine g begun q.next (λ x. Operate x operation.Sub q.left q.right) (λ x. refl) h
        go false =
            let next = operated n g begun (q.next + 1) (λ x. unscaling (shift_of bytes) bytes x (pick n begun q.next)) in
            before_fine (Operate (pick n begun q.next) operation.Sub q.left q.right) next refl (operated_fine g begun (q.next + 1) (λ x. unscaling (shift_of bytes) bytes x (pick n begun q.next)) (λ x. unscaling_is (shift_of bytes) bytes x (pick n begun q.next)) h)

    pub finished_fine : (k : declared-two.Two) (g : Goal) (begun : ℕ) (q : Pair) → For g → Is (finished n k g begun q)
    finished_fine (two.Arithmetic o ty) g begun q h = operated_fine g begun q.next (λ x. Operate x (operation_for o ty) q.left q.right) (λ x. refl) h
    finished_fine (two.Compare o ty) g begun q h = compared_fine g (integer ty).is_signed o begun (is_two o) q h
    finished_fine (two.ComparePointers o) g begun q h = compared_pointers_fine g o begun q h
    finished_fine (two.Move d bytes) g begun q h = scaled_fine g begun (move_by d) bytes q.left q.right q.next h
    finished_fine (two.MoveFrom bytes) g begun q h = scaled_fine g begun operation.Add bytes q.right q.left q.next h
    finished_fine (two.Difference bytes) g begun q h = distance_fine bytes g begun q h

    pub renewed_fine : (c : declared-change.Change) (x : ℕ) (old : Operand) (by : Laid) (g : Goal) → For g → Is (renewed_scalar c x old by g)
    renewed_fine c x old by g h = changed_fine c x by.next by.next old by.value (noted x g) (noted_fine x g h)

    pub memory_fine : (c : declared-change.Change) (q : PlaceLaid) (moved : Bool) (by : Laid) (g : Goal) → For g → Is (renewed_memory n c q moved by g)
    memory_fine c q moved by g h =
        let own = target g (pick n q.next (behind_move (takes_more c by.value) by.next)) in
        let last = stored (changed_element c) (held_location moved (q.next + 1) q.location) (unit.Name own) g in
        changed_fine c own (pick n q.next by.next) by.next (unit.Name q.next) by.value last (stored_fine (changed_element c) (held_location moved (q.next + 1) q.location) (unit.Name own) g h)

    pub loaded_fine : (c : declared-change.Change) (q : PlaceLaid) (moved : Bool) (m : Made) → Is m → Is (loaded_first c q moved m)
    loaded_fine c q moved m h =
        let next = move_if moved (q.next + 1) (operand_at q.location) m in
        before_fine (unit.Load q.next (changed_element c) q.location) next refl (move_fine moved (q.next + 1) (operand_at q.location) m h)

    pub left_scalar_fine : (c : declared-change.Change) (x t : ℕ) (g : Goal) → For g → Is (left_scalar c x t g)
    left_scalar_fine c x t g h =
        let free = behind_old (use_of g) x t in
        let last = note x (use_old g x t) in
        let mid = changed c x free free (unit.Name x) (unit.Constant 1) last in
        keep_fine (use_of g) x t mid (changed_fine c x free free (unit.Name x) (unit.Constant 1) last (let k = use_fine g x t h in ((refl, k.0), k.1)))

    pub left_memory_fine : (c : declared-change.Change) (q : PlaceLaid) (g : Goal) → For g → Is (left_memory c q g)
    left_memory_fine c q g h =
        let old = target g q.next in let free = left_free (use_of g) q.next in let own = behind_move (takes_more c (unit.Constant 1)) free in
        let last = instruction_before (Store (changed_element c) q.location (unit.Name own)) (follow g old) in
        let mid = changed c own free free (unit.Name old) (unit.Constant 1) last in
        before_fine (unit.Load old (changed_element c) q.location) mid refl (changed_fine c own free free (unit.Name old) (unit.Constant 1) last (before_fine (Store (changed_element c) q.location (unit.Name own)) (follow g old) refl (follow_fine g old h)))

    pub object_fine : (o : declared-object.Object) (t : ℕ) (g : Goal) → For g → Is (object_address n o t g)
    object_fine (object.Static i) t g h = leaf_fine g (unit.StaticAddress i 0) h
    object_fine (object.Literal i) t g h = leaf_fine g (unit.StaticAddress (n.statics + i) 0) h
    object_fine (object.Automatic x) t g h = operated_fine g t t (λ y. Address y (or_zero (object_of n x))) (λ y. refl) h

    pub signed_is : (o : Sign) (a : Operand) (x : ℕ) → is_ordinary (signed o a x) ≡ true
    signed_is Plus a x = refl
    signed_is Minus a x = refl
    signed_is Complement a x = refl
