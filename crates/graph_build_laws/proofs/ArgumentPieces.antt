-- The pieces of code pass no arguments, but for calls.
use Rattle.std.proofs.Common.{◌≡◌, ℕ, ◌+◌, ◌≤◌, Bool, true, false, Option, Some, None, List, [], ◌∷◌, ◌++◌, refl, arith, if◌then◌else◌, ◌==◌}
use Rattle.c_tree.specs.declared.types.IntegerType.{IntegerType}
use Rattle.c_tree.specs.declared.typed_expression.Comparison as declared-comparison
use Rattle.c_tree.specs.declared.typed_expression.Comparison.TheVariants as comparison
use Rattle.c_tree.specs.declared.object_type.Object as declared-object
use Rattle.c_tree.specs.declared.object_type.Object.TheVariants as object
use Rattle.c_type_rules.specs.Integers.{integer}
use Rattle.word_base.specs.declared.operation.Operation.{Operation}
use Rattle.word_base.specs.declared.operation.Operation.TheVariants as operation
use Rattle.graph_core.specs.declared.instruction.Element as declared-element
use Rattle.graph_core.specs.Graphs as unit
use Rattle.graph_core.specs.Graphs.{Operand, Location, Instruction, Operate, Truncate, Address, Store, Block, Jump}
use Rattle.graph_core.specs.Validity.{total, arguments_in}
use Rattle.graph_build_names.specs.Conversions.{is_narrow}
use Rattle.graph_build_names.specs.Operands.{is_two, is_two_pointers, operand_at}
use Rattle.graph_build_names.specs.Scales.{is_scaled, shift_of, scaled}
use Rattle.graph_build_layout.specs.declared.laid.Use.{Use}
use Rattle.graph_build_layout.specs.declared.laid.Use.TheVariants.{Anywhere, In, Nothing, Tested}
use Rattle.graph_build_names.specs.Names.{Names, pick, object_of}
use Rattle.graph_build_layout.specs.Laid.{Laid, Pair, PlaceLaid, behind_move}
use Rattle.graph_build_steps.specs.Rules.{truncation_to, operation_for, move_by}
use Rattle.graph_build_steps.specs.Drafts.{Made, Goal, To, Unused, Either, use_of, instruction_before, leaf, target, follow, scale, scaling, unscaling, move_if, note, noted, compare_by, compare_pointers_by, with_inner_block, arm, forked, valued, used, stored, keep_old, use_old, behind_old, left_free, called_by, renew, operated, code_scaled_pair, compared, compared_value, compared_pointers, compared_pointers_value, label_of, held_location}
use Rattle.graph_build_steps.specs.Drafts as drafts
use Rattle.graph_build_steps.specs.declared.site.Two as declared-two
use Rattle.graph_build_steps.specs.declared.site.Two.TheVariants as two
use Rattle.graph_build_steps.specs.declared.change.Change as declared-change
use Rattle.graph_build_steps.specs.declared.change.Change.TheVariants as change
use Rattle.graph_build_steps.specs.Steps.{finished, element_distance, changed, changed_element, takes_more, renewed_scalar, loaded_first, renewed_memory, left_scalar, left_memory, object_address, or_zero}
use Rattle.graph_build_laws.proofs.Pieces.{total_append}

-- how many arguments the calls of blocks pass
abbrev pub passed_in : List Block → ℕ
passed_in all = total (λ (b : Block). total arguments_in b.instructions) all

-- those of a block that is being built, and of the inner blocks that stand
abbrev pub made_arguments : Made → ℕ
made_arguments m = total arguments_in m.ops + passed_in m.inner

-- those that stand when code is made for a goal
abbrev pub goal_arguments : Goal → ℕ
goal_arguments (To want m) = made_arguments m
goal_arguments (Unused m) = made_arguments m
goal_arguments (Either one other inner) = passed_in inner

pub before_none : (i : Instruction) (m : Made) → arguments_in i ≡ 0 → made_arguments (instruction_before i m) ≤ made_arguments m
before_none i m h = omega (arith, h)

pub closed_arguments : (place : ℕ) (m : Made) → passed_in (with_inner_block place m) ≡ made_arguments m
closed_arguments place m =
    let it : Block = record { place = Some place; instructions = m.ops; end = m.end } in
    omega (arith, total_append (λ (b : Block). total arguments_in b.instructions) m.inner it)

pub leaf_arguments : (g : Goal) (a : Operand) → made_arguments (leaf g a) ≤ goal_arguments g
leaf_arguments (To None m) a = omega arith
leaf_arguments (To (Some x) m) a = omega arith
leaf_arguments (Unused m) a = omega arith
leaf_arguments (Either one other inner) a = omega arith

pub follow_arguments : (g : Goal) (own : ℕ) → made_arguments (follow g own) ≤ goal_arguments g
follow_arguments (To want m) own = omega arith
follow_arguments (Unused m) own = omega arith
follow_arguments (Either one other inner) own = omega arith

pub valued_arguments : (g : Goal) (a : Operand) → goal_arguments (valued g a) ≤ goal_arguments g
valued_arguments (To want m) a = omega arith
valued_arguments (Unused m) a = omega arith
valued_arguments (Either one other inner) a = omega arith

pub used_arguments : (g : Goal) → goal_arguments (used g) ≤ goal_arguments g
used_arguments (To want m) = omega arith
used_arguments (Unused m) = omega arith
used_arguments (Either one other inner) = omega arith

pub move_arguments : (b : Bool) (t : ℕ) (a : Operand) (m : Made) → made_arguments (move_if b t a m) ≤ made_arguments m
move_arguments true t a m = omega arith
move_arguments false t a m = omega arith

scaling_none : (o : Option ℕ) (size t : ℕ) (a : Operand) → arguments_in (scaling o size t a) ≡ 0
scaling_none None size t a = omega arith
scaling_none (Some k) size t a = omega arith

unscaling_none : (o : Option ℕ) (size x t : ℕ) → arguments_in (unscaling o size x t) ≡ 0
unscaling_none None size x t = omega arith
unscaling_none (Some k) size x t = omega arith

scale_arguments : (size : ℕ) (a : Operand) (t : ℕ) (m : Made) → made_arguments (scale size a t m) ≤ made_arguments m
scale_arguments size a t m = go (is_scaled size a)
  where
    go : (b : Bool) → made_arguments (if b then instruction_before (scaling (shift_of size) size t a) m else m) ≤ made_arguments m
    go true = before_none (scaling (shift_of size) size t a) m (scaling_none (shift_of size) size t a)
    go false = omega arith

pub changed_arguments : (c : declared-change.Change) (x t free : ℕ) (old by : Operand) (m : Made) → made_arguments (changed c x t free old by m) ≤ made_arguments m
changed_arguments (change.Integer o ty v) x t free old by m = go (is_narrow ty)
  where
    go : (b : Bool) → made_arguments (if b then instruction_before (Operate t (operation_for o v) old by) (instruction_before (Truncate x (truncation_to ty) (unit.Name t)) m) else instruction_before (Operate x (operation_for o v) old by) m) ≤ made_arguments m
    go true = omega arith
    go false = omega arith
changed_arguments (change.Pointer d bytes) x t free old by m = omega (arith, scale_arguments bytes by free (instruction_before (Operate x (move_by d) old (scaled bytes by free)) m))

pub stored_arguments : (e : declared-element.Element) (l : Location) (a : Operand) (g : Goal) → made_arguments (stored e l a g) ≤ goal_arguments g
stored_arguments e l a (To want m) = omega arith
stored_arguments e l a (Unused m) = omega arith
stored_arguments e l a (Either one other inner) = omega arith

compare_arguments : (o : declared-comparison.Comparison) (s : Bool) (x t : ℕ) (a b : Operand) (m : Made) → made_arguments (compare_by o s x t a b m) ≤ made_arguments m
compare_arguments comparison.Less s x t a b m = omega arith
compare_arguments comparison.Greater s x t a b m = omega arith
compare_arguments comparison.LessEqual s x t a b m = omega arith
compare_arguments comparison.GreaterEqual s x t a b m = omega arith
compare_arguments comparison.Equal s x t a b m = omega arith
compare_arguments comparison.NotEqual s x t a b m = omega arith

pointers_arguments : (o : declared-comparison.Comparison) (x t : ℕ) (a b : Operand) (m : Made) → made_arguments (compare_pointers_by o x t a b m) ≤ made_arguments m
pointers_arguments comparison.Equal x t a b m = omega arith
pointers_arguments comparison.NotEqual x t a b m = omega arith
pointers_arguments comparison.Less x t a b m = omega arith
pointers_arguments comparison.Greater x t a b m = omega arith
pointers_arguments comparison.LessEqual x t a b m = omega arith
pointers_arguments comparison.GreaterEqual x t a b m = omega arith

keep_arguments : (u : Use) (x t : ℕ) (m : Made) → made_arguments (keep_old u x t m) ≤ made_arguments m
keep_arguments Nothing x t m = omega arith
keep_arguments Anywhere x t m = omega arith
keep_arguments Tested x t m = omega arith
keep_arguments (In y) x t m = go (y == x)
  where
    go : (b : Bool) → made_arguments (if b then instruction_before (unit.Move t (unit.Name x)) m else instruction_before (unit.Move y (unit.Name x)) m) ≤ made_arguments m
    go true = omega arith
    go false = omega arith

use_arguments : (g : Goal) (x t : ℕ) → made_arguments (use_old g x t) ≤ goal_arguments g
use_arguments (Unused k) x t = omega arith
use_arguments (To None k) x t = omega arith
use_arguments (Either one other inner) x t = omega arith
use_arguments (To (Some y) k) x t = go (y == x)
  where
    go : (b : Bool) → made_arguments (if b then instruction_before (unit.Move x (unit.Name t)) k else k) ≤ made_arguments k
    go true = omega arith
    go false = omega arith

pub called_arguments : (void : Bool) (g : Goal) (own count : ℕ) (i : Option ℕ → Instruction) → ((o : Option ℕ) → arguments_in (i o) ≡ count) → made_arguments (called_by void g own i) ≤ goal_arguments g + count
called_arguments true g own count i h = omega (arith, h None, leaf_arguments g (drafts.zero))
called_arguments false (Unused m) own count i h = omega (arith, h None)
called_arguments false (To want m) own count i h = omega (arith, h (Some (target (To want m) own)))
called_arguments false (Either one other inner) own count i h = omega (arith, h (Some own))

-- where a test leads: three blocks more, where its truth is written
pub forked_arguments : (place top : ℕ) (g : Goal) (own : ℕ) → passed_in (forked place top g own).inner ≤ goal_arguments g
forked_arguments place top (Either one other inner) own = omega arith
forked_arguments place top (Unused m) own =
    let arm0 : Made = record { ops = unit.Move own (unit.Constant 0) ∷ []; end = Jump (label_of top m); inner = with_inner_block place m } in
    let arm1 : Made = record { ops = unit.Move own (unit.Constant 1) ∷ []; end = Jump (label_of top m); inner = with_inner_block place arm0 } in
    omega (arith, closed_arguments place m, closed_arguments place arm0, closed_arguments place arm1)
forked_arguments place top (To want k) own =
    let m = leaf (To want k) (unit.Name own) in
    let arm0 : Made = record { ops = unit.Move own (unit.Constant 0) ∷ []; end = Jump (label_of top m); inner = with_inner_block place m } in
    let arm1 : Made = record { ops = unit.Move own (unit.Constant 1) ∷ []; end = Jump (label_of top m); inner = with_inner_block place arm0 } in
    omega (arith, closed_arguments place m, closed_arguments place arm0, closed_arguments place arm1, leaf_arguments (To want k) (unit.Name own))

module _ (n : Names) where
  pub operated_arguments : (g : Goal) (begun free : ℕ) (i : ℕ → Instruction) → ((x : ℕ) → arguments_in (i x) ≡ 0) → made_arguments (operated n g begun free i) ≤ goal_arguments g
  operated_arguments g begun free i h = omega (arith, h (target g (pick n begun free)), follow_arguments g (pick n begun free))

  scaled_arguments : (g : Goal) (begun : ℕ) (o : Operation) (bytes : ℕ) (p i : Operand) (free : ℕ) → made_arguments (code_scaled_pair n g begun o bytes p i free) ≤ goal_arguments g
  scaled_arguments g begun o bytes p i free =
      omega (arith, scale_arguments bytes i free (operated n g begun (behind_move (is_scaled bytes i) free) (λ x. Operate x o p (scaled bytes i free))), operated_arguments g begun (behind_move (is_scaled bytes i) free) (λ x. Operate x o p (scaled bytes i free)) (λ x. refl))

  value_arguments : (g : Goal) (s : Bool) (o : declared-comparison.Comparison) (begun : ℕ) (b : Bool) (q : Pair) → made_arguments (compared_value n g s o begun b q) ≤ goal_arguments g
  value_arguments g s o begun b q =
      let own = pick n begun (behind_move b q.next) in omega (arith, compare_arguments o s (target g own) (pick n begun q.next) q.left q.right (follow g own), follow_arguments g own)

  compared_arguments : (g : Goal) (s : Bool) (o : declared-comparison.Comparison) (begun : ℕ) (b : Bool) (q : Pair) → made_arguments (compared n g s o begun b q) ≤ goal_arguments g
  compared_arguments (Either one other inner) s o begun b q = omega arith
  compared_arguments (To want m) s o begun b q = value_arguments (To want m) s o begun b q
  compared_arguments (Unused m) s o begun b q = value_arguments (Unused m) s o begun b q

  pointers_value_arguments : (g : Goal) (o : declared-comparison.Comparison) (begun : ℕ) (q : Pair) → made_arguments (compared_pointers_value n g o begun q) ≤ goal_arguments g
  pointers_value_arguments g o begun q =
      let own = pick n begun (behind_move (is_two_pointers o) q.next) in omega (arith, pointers_arguments o (target g own) (pick n begun q.next) q.left q.right (follow g own), follow_arguments g own)

  compared_pointers_arguments : (g : Goal) (o : declared-comparison.Comparison) (begun : ℕ) (q : Pair) → made_arguments (compared_pointers n g o begun q) ≤ goal_arguments g
  compared_pointers_arguments (Either one other inner) o begun q = omega arith
  compared_pointers_arguments (To want m) o begun q = pointers_value_arguments (To want m) o begun q
  compared_pointers_arguments (Unused m) o begun q = pointers_value_arguments (Unused m) o begun q

  distance_arguments : (bytes : ℕ) (g : Goal) (begun : ℕ) (q : Pair) → made_arguments (element_distance n bytes g begun q) ≤ goal_arguments g
  distance_arguments bytes g begun q = go (bytes == 1)
    where
      go : (b : Bool) → made_arguments (if b then operated n g begun q.next (λ x. Operate x operation.Sub q.left q.right) else instruction_before (Operate (pick n begun q.next) operation.Sub q.left q.right) (operated n g begun (q.next + 1) (λ x. unscaling (shift_of bytes) bytes x (pick n begun q.next)))) ≤ goal_arguments g
      go true = operated_arguments g begun q.next (λ x. Operate x operation.Sub q.left q.right) (λ x. refl)
      go false = omega (arith, operated_arguments g begun (q.next + 1) (λ x. unscaling (shift_of bytes) bytes x (pick n begun q.next)) (λ x. unscaling_none (shift_of bytes) bytes x (pick n begun q.next)))

  pub finished_arguments : (k : declared-two.Two) (g : Goal) (begun : ℕ) (q : Pair) → made_arguments (finished n k g begun q) ≤ goal_arguments g
  finished_arguments (two.Arithmetic o ty) g begun q = operated_arguments g begun q.next (λ x. Operate x (operation_for o ty) q.left q.right) (λ x. refl)
  finished_arguments (two.Compare o ty) g begun q = compared_arguments g (integer ty).is_signed o begun (is_two o) q
  finished_arguments (two.ComparePointers o) g begun q = compared_pointers_arguments g o begun q
  finished_arguments (two.Move d bytes) g begun q = scaled_arguments g begun (move_by d) bytes q.left q.right q.next
  finished_arguments (two.MoveFrom bytes) g begun q = scaled_arguments g begun operation.Add bytes q.right q.left q.next
  finished_arguments (two.Difference bytes) g begun q = distance_arguments bytes g begun q

  pub renewed_arguments : (c : declared-change.Change) (x : ℕ) (old : Operand) (by : Laid) (g : Goal) → made_arguments (renewed_scalar c x old by g) ≤ goal_arguments g
  renewed_arguments c x old by g = omega (arith, changed_arguments c x by.next by.next old by.value (noted x g), leaf_arguments g (unit.Name x))

  pub memory_arguments : (c : declared-change.Change) (q : PlaceLaid) (moved : Bool) (by : Laid) (g : Goal) → made_arguments (renewed_memory n c q moved by g) ≤ goal_arguments g
  memory_arguments c q moved by g =
      let own = target g (pick n q.next (behind_move (takes_more c by.value) by.next)) in
      let last = stored (changed_element c) (held_location moved (q.next + 1) q.location) (unit.Name own) g in
      omega (arith, changed_arguments c own (pick n q.next by.next) by.next (unit.Name q.next) by.value last, stored_arguments (changed_element c) (held_location moved (q.next + 1) q.location) (unit.Name own) g)

  pub loaded_arguments : (c : declared-change.Change) (q : PlaceLaid) (moved : Bool) (m : Made) → made_arguments (loaded_first c q moved m) ≤ made_arguments m
  loaded_arguments c q moved m = omega (arith, move_arguments moved (q.next + 1) (operand_at q.location) m)

  pub left_scalar_arguments : (c : declared-change.Change) (x t : ℕ) (g : Goal) → made_arguments (left_scalar c x t g) ≤ goal_arguments g
  left_scalar_arguments c x t g =
      let free = behind_old (use_of g) x t in
      let last = note x (use_old g x t) in
      omega (arith, keep_arguments (use_of g) x t (changed c x free free (unit.Name x) (unit.Constant 1) last), changed_arguments c x free free (unit.Name x) (unit.Constant 1) last, use_arguments g x t)

  pub left_memory_arguments : (c : declared-change.Change) (q : PlaceLaid) (g : Goal) → made_arguments (left_memory c q g) ≤ goal_arguments g
  left_memory_arguments c q g =
      let old = target g q.next in let free = left_free (use_of g) q.next in let own = behind_move (takes_more c (unit.Constant 1)) free in
      let last = instruction_before (Store (changed_element c) q.location (unit.Name own)) (follow g old) in
      omega (arith, changed_arguments c own free free (unit.Name old) (unit.Constant 1) last, follow_arguments g old)

  pub object_arguments : (o : declared-object.Object) (t : ℕ) (g : Goal) → made_arguments (object_address n o t g) ≤ goal_arguments g
  object_arguments (object.Static i) t g = leaf_arguments g (unit.StaticAddress i 0)
  object_arguments (object.Literal i) t g = leaf_arguments g (unit.StaticAddress (n.statics + i) 0)
  object_arguments (object.Automatic x) t g = operated_arguments g t t (λ y. Address y (or_zero (object_of n x))) (λ y. refl)
