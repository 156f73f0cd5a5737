-- The pieces of code leave the inner blocks as they are, but for those that they close.
use Rattle.std.proofs.Common.{◌≡◌, ℕ, ◌+◌, Bool, true, false, Option, Some, None, List, [], ◌∷◌, ◌++◌, length, refl, ap, ◌∙◌, arith, if◌then◌else◌, ◌==◌}
use Rattle.std.proofs.lemmas.List.{length-append}
use Rattle.c_tree.specs.declared.types.IntegerType.{IntegerType}
use Rattle.c_tree.specs.declared.typed_expression.Comparison as declared-comparison
use Rattle.c_tree.specs.declared.typed_expression.Comparison.TheVariants as comparison
use Rattle.c_tree.specs.declared.object_type.Object as declared-object
use Rattle.c_tree.specs.declared.object_type.Object.TheVariants as object
use Rattle.c_type_rules.specs.Integers.{integer}
use Rattle.word_base.specs.declared.operation.Operation.{Operation}
use Rattle.word_base.specs.declared.operation.Operation.TheVariants as operation
use Rattle.graph_core.specs.declared.instruction.Element as declared-element
use Rattle.graph_core.specs.Graphs as unit
use Rattle.graph_core.specs.Graphs.{Operand, Location, Instruction, Operate, Truncate, Address, Store, Block, Jump}
use Rattle.graph_build_names.specs.Conversions.{is_narrow}
use Rattle.graph_build_names.specs.Operands.{is_two, is_two_pointers, operand_at}
use Rattle.graph_build_names.specs.Scales.{is_scaled, shift_of, scaled}
use Rattle.graph_build_layout.specs.declared.laid.Use.{Use}
use Rattle.graph_build_layout.specs.declared.laid.Use.TheVariants.{Anywhere, In, Nothing, Tested}
use Rattle.graph_build_names.specs.Inner.{for_truth}
use Rattle.graph_build_names.specs.Names.{Names, pick, object_of}
use Rattle.graph_build_layout.specs.Laid.{Laid, Pair, PlaceLaid, behind_move}
use Rattle.graph_build_steps.specs.Rules.{truncation_to, operation_for, move_by}
use Rattle.graph_build_steps.specs.Drafts.{Made, Goal, To, Unused, Either, use_of, instruction_before, leaf, target, follow, scale, scaling, unscaling, move_if, note, noted, compare_by, compare_pointers_by, with_inner_block, arm, forked, valued, used, stored, keep_old, use_old, behind_old, left_free, called_by, renew, operated, code_scaled_pair, compared, compared_value, compared_pointers, compared_pointers_value, label_of, held_location}
use Rattle.graph_build_steps.specs.Drafts as drafts
use Rattle.graph_build_steps.specs.declared.site.Two as declared-two
use Rattle.graph_build_steps.specs.declared.site.Two.TheVariants as two
use Rattle.graph_build_steps.specs.declared.change.Change as declared-change
use Rattle.graph_build_steps.specs.declared.change.Change.TheVariants as change
use Rattle.graph_build_steps.specs.Steps.{finished, element_distance, changed, changed_element, takes_more, renewed_scalar, loaded_first, renewed_memory, left_scalar, left_memory, object_address, or_zero}

-- how many inner blocks stand when code is made for a goal
abbrev pub goal_inner : Goal → ℕ
goal_inner (To want m) = length m.inner
goal_inner (Unused m) = length m.inner
goal_inner (Either one other inner) = length inner

-- a goal is to be tested
abbrev pub is_tested : Goal → Bool
is_tested (To want m) = false
is_tested (Unused m) = false
is_tested (Either one other inner) = true

pub closed_length : (place : ℕ) (m : Made) → length (with_inner_block place m) ≡ length m.inner + 1
closed_length place m = length-append m.inner (record { place = Some place; instructions = m.ops; end = m.end } ∷ [])

pub leaf_inner : (g : Goal) (a : Operand) → length (leaf g a).inner ≡ goal_inner g
leaf_inner (To None m) a = refl
leaf_inner (To (Some x) m) a = refl
leaf_inner (Unused m) a = refl
leaf_inner (Either one other inner) a = refl

pub follow_inner : (g : Goal) (own : ℕ) → length (follow g own).inner ≡ goal_inner g
follow_inner (To want m) own = refl
follow_inner (Unused m) own = refl
follow_inner (Either one other inner) own = refl

pub valued_inner : (g : Goal) (a : Operand) → (goal_inner (valued g a) ≡ goal_inner g) × (is_tested (valued g a) ≡ false)
valued_inner (To want m) a = (refl, refl)
valued_inner (Unused m) a = (refl, refl)
valued_inner (Either one other inner) a = (refl, refl)

pub used_inner : (g : Goal) → goal_inner (used g) ≡ goal_inner g
used_inner (To want m) = refl
used_inner (Unused m) = refl
used_inner (Either one other inner) = refl

pub move_inner : (b : Bool) (t : ℕ) (a : Operand) (m : Made) → length (move_if b t a m).inner ≡ length m.inner
move_inner true t a m = refl
move_inner false t a m = refl

scale_inner : (size : ℕ) (a : Operand) (t : ℕ) (m : Made) → length (scale size a t m).inner ≡ length m.inner
scale_inner size a t m = go (is_scaled size a)
  where
    go : (b : Bool) → length (if b then instruction_before (scaling (shift_of size) size t a) m else m).inner ≡ length m.inner
    go true = refl
    go false = refl

pub changed_inner : (c : declared-change.Change) (x t free : ℕ) (old by : Operand) (m : Made) → length (changed c x t free old by m).inner ≡ length m.inner
changed_inner (change.Integer o ty v) x t free old by m = go (is_narrow ty)
  where
    go : (b : Bool) → length (if b then instruction_before (Operate t (operation_for o v) old by) (instruction_before (Truncate x (truncation_to ty) (unit.Name t)) m) else instruction_before (Operate x (operation_for o v) old by) m).inner ≡ length m.inner
    go true = refl
    go false = refl
changed_inner (change.Pointer d bytes) x t free old by m = scale_inner bytes by free (instruction_before (Operate x (move_by d) old (scaled bytes by free)) m)

pub stored_inner : (e : declared-element.Element) (l : Location) (a : Operand) (g : Goal) → length (stored e l a g).inner ≡ goal_inner g
stored_inner e l a (To want m) = refl
stored_inner e l a (Unused m) = refl
stored_inner e l a (Either one other inner) = refl

compare_inner : (o : declared-comparison.Comparison) (s : Bool) (x t : ℕ) (a b : Operand) (m : Made) → length (compare_by o s x t a b m).inner ≡ length m.inner
compare_inner comparison.Less s x t a b m = refl
compare_inner comparison.Greater s x t a b m = refl
compare_inner comparison.LessEqual s x t a b m = refl
compare_inner comparison.GreaterEqual s x t a b m = refl
compare_inner comparison.Equal s x t a b m = refl
compare_inner comparison.NotEqual s x t a b m = refl

pointers_inner : (o : declared-comparison.Comparison) (x t : ℕ) (a b : Operand) (m : Made) → length (compare_pointers_by o x t a b m).inner ≡ length m.inner
pointers_inner comparison.Equal x t a b m = refl
pointers_inner comparison.NotEqual x t a b m = refl
pointers_inner comparison.Less x t a b m = refl
pointers_inner comparison.Greater x t a b m = refl
pointers_inner comparison.LessEqual x t a b m = refl
pointers_inner comparison.GreaterEqual x t a b m = refl

keep_inner : (u : Use) (x t : ℕ) (m : Made) → length (keep_old u x t m).inner ≡ length m.inner
keep_inner Nothing x t m = refl
keep_inner Anywhere x t m = refl
keep_inner Tested x t m = refl
keep_inner (In y) x t m = go (y == x)
  where
    go : (b : Bool) → length (if b then instruction_before (unit.Move t (unit.Name x)) m else instruction_before (unit.Move y (unit.Name x)) m).inner ≡ length m.inner
    go true = refl
    go false = refl

use_inner : (g : Goal) (x t : ℕ) → length (use_old g x t).inner ≡ goal_inner g
use_inner (Unused k) x t = refl
use_inner (To None k) x t = refl
use_inner (Either one other inner) x t = refl
use_inner (To (Some y) k) x t = go (y == x)
  where
    go : (b : Bool) → length (if b then instruction_before (unit.Move x (unit.Name t)) k else k).inner ≡ length k.inner
    go true = refl
    go false = refl

pub called_inner : (void : Bool) (g : Goal) (own : ℕ) (i : Option ℕ → Instruction) → length (called_by void g own i).inner ≡ goal_inner g
called_inner true g own i = leaf_inner g (drafts.zero)
called_inner false (Unused m) own i = refl
called_inner false (To want m) own i = refl
called_inner false (Either one other inner) own i = refl

-- where a test leads: three blocks more, where its truth is written
pub forked_inner : (place top : ℕ) (g : Goal) (own : ℕ) → length (forked place top g own).inner + 1 ≡ goal_inner g + for_truth (is_tested g)
forked_inner place top (Either one other inner) own = refl
forked_inner place top (Unused m) own =
    let arm0 : Made = record { ops = unit.Move own (unit.Constant 0) ∷ []; end = Jump (label_of top m); inner = with_inner_block place m } in
    let arm1 : Made = record { ops = unit.Move own (unit.Constant 1) ∷ []; end = Jump (label_of top m); inner = with_inner_block place arm0 } in
    omega (arith, closed_length place m, closed_length place arm0, closed_length place arm1)
forked_inner place top (To want k) own =
    let m = leaf (To want k) (unit.Name own) in
    let arm0 : Made = record { ops = unit.Move own (unit.Constant 0) ∷ []; end = Jump (label_of top m); inner = with_inner_block place m } in
    let arm1 : Made = record { ops = unit.Move own (unit.Constant 1) ∷ []; end = Jump (label_of top m); inner = with_inner_block place arm0 } in
    omega (arith, closed_length place m, closed_length place arm0, closed_length place arm1, leaf_inner (To want k) (unit.Name own))

module _ (n : Names) where
  pub operated_inner : (g : Goal) (begun free : ℕ) (i : ℕ → Instruction) → length (operated n g begun free i).inner ≡ goal_inner g
  operated_inner g begun free i = follow_inner g (pick n begun free)

  scaled_inner : (g : Goal) (begun : ℕ) (o : Operation) (bytes : ℕ) (p i : Operand) (free : ℕ) → length (code_scaled_pair n g begun o bytes p i free).inner ≡ goal_inner g
  scaled_inner g begun o bytes p i free =
      scale_inner bytes i free (operated n g begun (behind_move (is_scaled bytes i) free) (λ x. Operate x o p (scaled bytes i free))) ∙ operated_inner g begun (behind_move (is_scaled bytes i) free) (λ x. Operate x o p (scaled bytes i free))

  value_inner : (g : Goal) (s : Bool) (o : declared-comparison.Comparison) (begun : ℕ) (b : Bool) (q : Pair) → length (compared_value n g s o begun b q).inner ≡ goal_inner g
  value_inner g s o begun b q =
      let own = pick n begun (behind_move b q.next) in compare_inner o s (target g own) (pick n begun q.next) q.left q.right (follow g own) ∙ follow_inner g own

  compared_inner : (g : Goal) (s : Bool) (o : declared-comparison.Comparison) (begun : ℕ) (b : Bool) (q : Pair) → length (compared n g s o begun b q).inner ≡ goal_inner g
  compared_inner (Either one other inner) s o begun b q = refl
  compared_inner (To want m) s o begun b q = value_inner (To want m) s o begun b q
  compared_inner (Unused m) s o begun b q = value_inner (Unused m) s o begun b q

  pointers_value_inner : (g : Goal) (o : declared-comparison.Comparison) (begun : ℕ) (q : Pair) → length (compared_pointers_value n g o begun q).inner ≡ goal_inner g
  pointers_value_inner g o begun q =
      let own = pick n begun (behind_move (is_two_pointers o) q.next) in pointers_inner o (target g own) (pick n begun q.next) q.left q.right (follow g own) ∙ follow_inner g own

  compared_pointers_inner : (g : Goal) (o : declared-comparison.Comparison) (begun : ℕ) (q : Pair) → length (compared_pointers n g o begun q).inner ≡ goal_inner g
  compared_pointers_inner (Either one other inner) o begun q = refl
  compared_pointers_inner (To want m) o begun q = pointers_value_inner (To want m) o begun q
  compared_pointers_inner (Unused m) o begun q = pointers_value_inner (Unused m) o begun q

  distance_inner : (bytes : ℕ) (g : Goal) (begun : ℕ) (q : Pair) → length (element_distance n bytes g begun q).inner ≡ goal_inner g
  distance_inner bytes g begun q = go (bytes == 1)
    where
      go : (b : Bool) → length (if b then operated n g begun q.next (λ x. Operate x operation.Sub q.left q.right) else instruction_before (Operate (pick n begun q.next) operation.Sub q.left q.right) (operated n g begun (q.next + 1) (λ x. unscaling (shift_of bytes) bytes x (pick n begun q.next)))).inner ≡ goal_inner g
      go true = operated_inner g begun q.next (λ x. Operate x operation.Sub q.left q.right)
      go false = operated_inner g begun (q.next + 1) (λ x. unscaling (shift_of bytes) bytes x (pick n begun q.next))

  pub finished_inner : (k : declared-two.Two) (g : Goal) (begun : ℕ) (q : Pair) → length (finished n k g begun q).inner ≡ goal_inner g
  finished_inner (two.Arithmetic o ty) g begun q = operated_inner g begun q.next (λ x. Operate x (operation_for o ty) q.left q.right)
  finished_inner (two.Compare o ty) g begun q = compared_inner g (integer ty).is_signed o begun (is_two o) q
  finished_inner (two.ComparePointers o) g begun q = compared_pointers_inner g o begun q
  finished_inner (two.Move d bytes) g begun q = scaled_inner g begun (move_by d) bytes q.left q.right q.next
  finished_inner (two.MoveFrom bytes) g begun q = scaled_inner g begun operation.Add bytes q.right q.left q.next
  finished_inner (two.Difference bytes) g begun q = distance_inner bytes g begun q

  pub renewed_inner : (c : declared-change.Change) (x : ℕ) (old : Operand) (by : Laid) (g : Goal) → length (renewed_scalar c x old by g).inner ≡ goal_inner g
  renewed_inner c x old by g = changed_inner c x by.next by.next old by.value (noted x g) ∙ leaf_inner g (unit.Name x)

  pub memory_inner : (c : declared-change.Change) (q : PlaceLaid) (moved : Bool) (by : Laid) (g : Goal) → length (renewed_memory n c q moved by g).inner ≡ goal_inner g
  memory_inner c q moved by g =
      let own = target g (pick n q.next (behind_move (takes_more c by.value) by.next)) in
      let last = stored (changed_element c) (held_location moved (q.next + 1) q.location) (unit.Name own) g in
      changed_inner c own (pick n q.next by.next) by.next (unit.Name q.next) by.value last ∙ stored_inner (changed_element c) (held_location moved (q.next + 1) q.location) (unit.Name own) g

  pub loaded_inner : (c : declared-change.Change) (q : PlaceLaid) (moved : Bool) (m : Made) → length (loaded_first c q moved m).inner ≡ length m.inner
  loaded_inner c q moved m = move_inner moved (q.next + 1) (operand_at q.location) m

  pub left_scalar_inner : (c : declared-change.Change) (x t : ℕ) (g : Goal) → length (left_scalar c x t g).inner ≡ goal_inner g
  left_scalar_inner c x t g =
      let free = behind_old (use_of g) x t in
      let last = note x (use_old g x t) in
      keep_inner (use_of g) x t (changed c x free free (unit.Name x) (unit.Constant 1) last) ∙ changed_inner c x free free (unit.Name x) (unit.Constant 1) last ∙ use_inner g x t

  pub left_memory_inner : (c : declared-change.Change) (q : PlaceLaid) (g : Goal) → length (left_memory c q g).inner ≡ goal_inner g
  left_memory_inner c q g =
      let old = target g q.next in let free = left_free (use_of g) q.next in let own = behind_move (takes_more c (unit.Constant 1)) free in
      let last = instruction_before (Store (changed_element c) q.location (unit.Name own)) (follow g old) in
      changed_inner c own free free (unit.Name old) (unit.Constant 1) last ∙ follow_inner g old

  pub object_inner : (o : declared-object.Object) (t : ℕ) (g : Goal) → length (object_address n o t g).inner ≡ goal_inner g
  object_inner (object.Static i) t g = leaf_inner g (unit.StaticAddress i 0)
  object_inner (object.Literal i) t g = leaf_inner g (unit.StaticAddress (n.statics + i) 0)
  object_inner (object.Automatic x) t g = operated_inner g t t (λ y. Address y (or_zero (object_of n x)))
