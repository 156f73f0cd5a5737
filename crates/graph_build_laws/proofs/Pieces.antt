-- How many instructions the pieces of code have.
use Rattle.std.proofs.Common.{◌≡◌, ℕ, ◌+◌, ◌*◌, ◌≤◌, Bool, true, false, Option, Some, None, List, [], ◌∷◌, ◌++◌, refl, ap, ◌∙◌, arith, if◌then◌else◌, ◌==◌}
use Rattle.c_tree.specs.declared.types.IntegerType.{IntegerType}
use Rattle.c_tree.specs.declared.typed_expression.Comparison as declared-comparison
use Rattle.c_tree.specs.declared.typed_expression.Comparison.TheVariants as comparison
use Rattle.c_tree.specs.declared.object_type.Object as declared-object
use Rattle.c_tree.specs.declared.object_type.Object.TheVariants as object
use Rattle.c_type_rules.specs.Integers.{integer}
use Rattle.word_base.specs.declared.operation.Operation.{Operation}
use Rattle.graph_core.specs.declared.instruction.Element as declared-element
use Rattle.graph_core.specs.Graphs as unit
use Rattle.graph_core.specs.Graphs.{Operand, Location, Instruction, Marker, Note, Operate, Truncate, Same, Address, Store, Zero, CopyWords, Call, Block, End, Jump}
use Rattle.graph_core.specs.Validity.{total, counts}
use Rattle.graph_build_names.specs.Conversions.{is_narrow}
use Rattle.graph_build_names.specs.Operands.{is_two, is_two_pointers}
use Rattle.graph_build_names.specs.Scales.{is_scaled, shift_of}
use Rattle.graph_build_layout.specs.declared.laid.Use.{Use}
use Rattle.graph_build_layout.specs.declared.laid.Use.TheVariants.{Anywhere, In, Nothing, Tested}
use Rattle.graph_build_names.specs.Names.{Names, pick, object_of}
use Rattle.graph_build_layout.specs.Laid.{Laid, Pair, PlaceLaid, behind_move}
use Rattle.graph_build_steps.specs.Drafts.{Made, Goal, To, Unused, Either, Fork, instruction_before, ending, leaf, target, follow, tested, scale, scaling, unscaling, move_if, note, noted, compare_by, compare_pointers_by, with_inner_block, arm, forked, valued, used, hold_location, stored, keep_old, use_old, assign_goal, called_by, renew, operated, code_scaled_pair, compared, compared_value, compared_pointers, compared_pointers_value, label_of, next_label}
use Rattle.graph_build_steps.specs.declared.site.Two as declared-two
use Rattle.graph_build_steps.specs.declared.site.Two.TheVariants as two
use Rattle.graph_build_steps.specs.declared.change.Change as declared-change
use Rattle.graph_build_steps.specs.declared.change.Change.TheVariants as change
use Rattle.graph_build_steps.specs.Steps.{finished, element_distance, changed, renewed_scalar, loaded_first, renewed_memory, left_scalar, left_memory, object_address, or_zero}
use Rattle.graph_build_laws.specs.Sizes.{counted, made_counts, goal_counts}

-- a name that wants a value may take one more instruction, a move
abbrev pub room : Goal → ℕ
room (To None m) = 0
room (To (Some x) m) = 1
room (Unused m) = 0
room (Either one other inner) = 0

abbrev pub one_if : Bool → ℕ
one_if b = if b then 1 else 0

pub one_most : (b : Bool) → one_if b ≤ 1
one_most true = omega arith
one_most false = omega arith

pub count_most : (i : Instruction) → counts i ≤ 1
count_most (Marker p) = omega arith
count_most (Note x v) = omega arith
count_most _ = omega arith

pub before_most : (i : Instruction) (m : Made) → made_counts (instruction_before i m) ≤ made_counts m + 1
before_most i m = omega (arith, count_most i)

pub note_most : (x : ℕ) (m : Made) → made_counts (note x m) ≤ made_counts m
note_most x m = omega arith

pub total_append : {A : Type 0} (f : A → ℕ) (xs : List A) (y : A) → total f (xs ++ y ∷ []) ≡ total f xs + f y
total_append f [] y = omega arith
total_append f (x ∷ xs) y = omega (arith, total_append f xs y)

-- what is closed is still counted
pub closed_counts : (place : ℕ) (m : Made) → counted (with_inner_block place m) ≡ made_counts m
closed_counts place m =
    let it : Block = record { place = Some place; instructions = m.ops; end = m.end } in
    omega (arith, total_append (λ (b : Block). total counts b.instructions) m.inner it)

pub leaf_most : (g : Goal) (a : Operand) → made_counts (leaf g a) ≤ goal_counts g + room g
leaf_most (To None m) a = omega arith
leaf_most (To (Some x) m) a = omega arith
leaf_most (Unused m) a = omega arith
leaf_most (Either one other inner) a = omega arith

pub follow_most : (g : Goal) (own : ℕ) → made_counts (follow g own) ≤ goal_counts g
follow_most (To want m) own = omega arith
follow_most (Unused m) own = omega arith
follow_most (Either one other inner) own = omega arith

pub noted_most : (x : ℕ) (g : Goal) → made_counts (noted x g) ≤ goal_counts g + room g
noted_most x g = omega (arith, leaf_most g (unit.Name x))

pub valued_most : (g : Goal) (a : Operand) → goal_counts (valued g a) + room (valued g a) ≤ goal_counts g + room g
valued_most (To want m) a = omega arith
valued_most (Unused m) a = omega arith
valued_most (Either one other inner) a = omega arith

pub used_most : (g : Goal) → goal_counts (used g) + room (used g) ≤ goal_counts g + room g
used_most (To want m) = omega arith
used_most (Unused m) = omega arith
used_most (Either one other inner) = omega arith

pub move_most : (b : Bool) (t : ℕ) (a : Operand) (m : Made) → made_counts (move_if b t a m) ≤ made_counts m + one_if b
move_most true t a m = omega arith
move_most false t a m = omega arith

pub scale_most : (size : ℕ) (a : Operand) (t : ℕ) (m : Made) → made_counts (scale size a t m) ≤ made_counts m + 1
scale_most size a t m = go (is_scaled size a)
  where
    go : (b : Bool) → made_counts (if b then instruction_before (scaling (shift_of size) size t a) m else m) ≤ made_counts m + 1
    go true = before_most (scaling (shift_of size) size t a) m
    go false = omega arith

pub renew_most : (t : IntegerType) (x y : ℕ) (i : ℕ → Instruction) (m : Made) → made_counts (renew t x y i m) ≤ made_counts m + 2
renew_most t x y i m = go (is_narrow t)
  where
    go : (b : Bool) → made_counts (if b then instruction_before (i y) (instruction_before (Truncate x (Rattle.graph_build_steps.specs.Rules.truncation_to t) (unit.Name y)) m) else instruction_before (i x) m) ≤ made_counts m + 2
    go true = omega (arith, count_most (i y))
    go false = omega (arith, count_most (i x))

pub changed_most : (c : declared-change.Change) (x t free : ℕ) (old by : Operand) (m : Made) → made_counts (changed c x t free old by m) ≤ made_counts m + 2
changed_most (change.Integer o ty v) x t free old by m = renew_most ty x t (λ y. Operate y (Rattle.graph_build_steps.specs.Rules.operation_for o v) old by) m
changed_most (change.Pointer d bytes) x t free old by m =
    omega (arith, scale_most bytes by free (instruction_before (Operate x (Rattle.graph_build_steps.specs.Rules.move_by d) old (Rattle.graph_build_names.specs.Scales.scaled bytes by free)) m))

pub stored_most : (e : declared-element.Element) (l : Location) (a : Operand) (g : Goal) → made_counts (stored e l a g) ≤ goal_counts g + 1
stored_most e l a (To want m) = omega arith
stored_most e l a (Unused m) = omega arith
stored_most e l a (Either one other inner) = omega arith

compare_most : (o : declared-comparison.Comparison) (s : Bool) (x t : ℕ) (a b : Operand) (m : Made) → made_counts (compare_by o s x t a b m) ≤ made_counts m + 2
compare_most comparison.Less s x t a b m = omega arith
compare_most comparison.Greater s x t a b m = omega arith
compare_most comparison.LessEqual s x t a b m = omega arith
compare_most comparison.GreaterEqual s x t a b m = omega arith
compare_most comparison.Equal s x t a b m = omega arith
compare_most comparison.NotEqual s x t a b m = omega arith

compare_pointers_most : (o : declared-comparison.Comparison) (x t : ℕ) (a b : Operand) (m : Made) → made_counts (compare_pointers_by o x t a b m) ≤ made_counts m + 2
compare_pointers_most comparison.Equal x t a b m = omega arith
compare_pointers_most comparison.NotEqual x t a b m = omega arith
compare_pointers_most comparison.Less x t a b m = omega arith
compare_pointers_most comparison.Greater x t a b m = omega arith
compare_pointers_most comparison.LessEqual x t a b m = omega arith
compare_pointers_most comparison.GreaterEqual x t a b m = omega arith

keep_most : (u : Use) (x t : ℕ) (m : Made) → made_counts (keep_old u x t m) ≤ made_counts m + 1
keep_most Nothing x t m = omega arith
keep_most Anywhere x t m = omega arith
keep_most Tested x t m = omega arith
keep_most (In y) x t m = go (y == x)
  where
    go : (b : Bool) → made_counts (if b then instruction_before (unit.Move t (unit.Name x)) m else instruction_before (unit.Move y (unit.Name x)) m) ≤ made_counts m + 1
    go true = omega arith
    go false = omega arith

use_most : (g : Goal) (x t : ℕ) → made_counts (use_old g x t) ≤ goal_counts g + room g
use_most (Unused k) x t = omega arith
use_most (To None k) x t = omega arith
use_most (Either one other inner) x t = omega arith
use_most (To (Some y) k) x t = go (y == x)
  where
    go : (b : Bool) → made_counts (if b then instruction_before (unit.Move x (unit.Name t)) k else k) ≤ made_counts k + 1
    go true = omega arith
    go false = omega arith

pub called_most : (void : Bool) (g : Goal) (own : ℕ) (i : Option ℕ → Instruction) → made_counts (called_by void g own i) ≤ goal_counts g + room g + 1
called_most true g own i = omega (arith, count_most (i None), leaf_most g (Rattle.graph_build_steps.specs.Drafts.zero))
called_most false (Unused m) own i = omega (arith, count_most (i None))
called_most false (To None m) own i = omega (arith, count_most (i (Some own)))
called_most false (To (Some x) m) own i = omega (arith, count_most (i (Some x)))
called_most false (Either one other inner) own i = omega (arith, count_most (i (Some own)))

-- where a test leads: two arms more, where its truth is written
pub forked_most : (place top : ℕ) (g : Goal) (own : ℕ) → counted (forked place top g own).inner ≤ goal_counts g + room g + 2
forked_most place top (Either one other inner) own = omega arith
forked_most place top (Unused m) own =
    let arm1 : Made = record { ops = unit.Move own (unit.Constant 0) ∷ []; end = Jump (label_of top m); inner = with_inner_block place m } in
    let arm2 : Made = record { ops = unit.Move own (unit.Constant 1) ∷ []; end = Jump (label_of top m); inner = with_inner_block place arm1 } in
    omega (arith, closed_counts place m, closed_counts place arm1, closed_counts place arm2)
forked_most place top (To want k) own =
    let m = leaf (To want k) (unit.Name own) in
    let arm1 : Made = record { ops = unit.Move own (unit.Constant 0) ∷ []; end = Jump (label_of top m); inner = with_inner_block place m } in
    let arm2 : Made = record { ops = unit.Move own (unit.Constant 1) ∷ []; end = Jump (label_of top m); inner = with_inner_block place arm1 } in
    omega (arith, closed_counts place m, closed_counts place arm1, closed_counts place arm2, leaf_most (To want k) (unit.Name own))

module _ (n : Names) where
  pub operated_most : (g : Goal) (begun free : ℕ) (i : ℕ → Instruction) → made_counts (operated n g begun free i) ≤ goal_counts g + 1
  operated_most g begun free i = omega (arith, count_most (i (target g (pick n begun free))), follow_most g (pick n begun free))

  scaled_most : (g : Goal) (begun : ℕ) (o : Operation) (bytes : ℕ) (p i : Operand) (free : ℕ) → made_counts (code_scaled_pair n g begun o bytes p i free) ≤ goal_counts g + 2
  scaled_most g begun o bytes p i free =
      omega (
        arith,
        scale_most bytes i free (operated n g begun (behind_move (is_scaled bytes i) free) (λ x. Operate x o p (Rattle.graph_build_names.specs.Scales.scaled bytes i free))),
        operated_most g begun (behind_move (is_scaled bytes i) free) (λ x. Operate x o p (Rattle.graph_build_names.specs.Scales.scaled bytes i free)),
      )

  value_most : (g : Goal) (s : Bool) (o : declared-comparison.Comparison) (begun : ℕ) (b : Bool) (q : Pair) → made_counts (compared_value n g s o begun b q) ≤ goal_counts g + 2
  value_most g s o begun b q =
      let own = pick n begun (behind_move b q.next) in omega (arith, compare_most o s (target g own) (pick n begun q.next) q.left q.right (follow g own), follow_most g own)

  compared_most : (g : Goal) (s : Bool) (o : declared-comparison.Comparison) (begun : ℕ) (b : Bool) (q : Pair) → made_counts (compared n g s o begun b q) ≤ goal_counts g + 2
  compared_most (Either one other inner) s o begun b q = omega arith
  compared_most (To want m) s o begun b q = value_most (To want m) s o begun b q
  compared_most (Unused m) s o begun b q = value_most (Unused m) s o begun b q

  pointers_value_most : (g : Goal) (o : declared-comparison.Comparison) (begun : ℕ) (q : Pair) → made_counts (compared_pointers_value n g o begun q) ≤ goal_counts g + 2
  pointers_value_most g o begun q =
      let own = pick n begun (behind_move (is_two_pointers o) q.next) in omega (arith, compare_pointers_most o (target g own) (pick n begun q.next) q.left q.right (follow g own), follow_most g own)

  pointers_most : (g : Goal) (o : declared-comparison.Comparison) (begun : ℕ) (q : Pair) → made_counts (compared_pointers n g o begun q) ≤ goal_counts g + 2
  pointers_most (Either one other inner) o begun q = omega arith
  pointers_most (To want m) o begun q = pointers_value_most (To want m) o begun q
  pointers_most (Unused m) o begun q = pointers_value_most (Unused m) o begun q

  distance_most : (bytes : ℕ) (g : Goal) (begun : ℕ) (q : Pair) → made_counts (element_distance n bytes g begun q) ≤ goal_counts g + 2
  distance_most bytes g begun q = go (bytes == 1)
    where
      one : ℕ → Instruction
      one x = Operate x Rattle.word_base.specs.declared.operation.Operation.TheVariants.Sub q.left q.right

      other : ℕ → Instruction
      other x = unscaling (shift_of bytes) bytes x (pick n begun q.next)

      go : (b : Bool) → made_counts (if b then operated n g begun q.next (λ x. Operate x Rattle.word_base.specs.declared.operation.Operation.TheVariants.Sub q.left q.right) else instruction_before (Operate (pick n begun q.next) Rattle.word_base.specs.declared.operation.Operation.TheVariants.Sub q.left q.right) (operated n g begun (q.next + 1) (λ x. unscaling (shift_of bytes) bytes x (pick n begun q.next)))) ≤ goal_counts g + 2
      go true = omega (arith, operated_most g begun q.next (λ x. Operate x Rattle.word_base.specs.declared.operation.Operation.TheVariants.Sub q.left q.right))
      go false = omega (arith, operated_most g begun (q.next + 1) (λ x. unscaling (shift_of bytes) bytes x (pick n begun q.next)))

  -- what is made of two values takes two instructions at most
  pub finished_most : (k : declared-two.Two) (g : Goal) (begun : ℕ) (q : Pair) → made_counts (finished n k g begun q) ≤ goal_counts g + 2
  finished_most (two.Arithmetic o ty) g begun q = omega (arith, operated_most g begun q.next (λ x. Operate x (Rattle.graph_build_steps.specs.Rules.operation_for o ty) q.left q.right))
  finished_most (two.Compare o ty) g begun q = compared_most g (integer ty).is_signed o begun (is_two o) q
  finished_most (two.ComparePointers o) g begun q = pointers_most g o begun q
  finished_most (two.Move d bytes) g begun q = scaled_most g begun (Rattle.graph_build_steps.specs.Rules.move_by d) bytes q.left q.right q.next
  finished_most (two.MoveFrom bytes) g begun q = scaled_most g begun Rattle.word_base.specs.declared.operation.Operation.TheVariants.Add bytes q.right q.left q.next
  finished_most (two.Difference bytes) g begun q = distance_most bytes g begun q

  pub renewed_most : (c : declared-change.Change) (x : ℕ) (old : Operand) (by : Laid) (g : Goal) → made_counts (renewed_scalar c x old by g) ≤ goal_counts g + room g + 2
  renewed_most c x old by g = omega (arith, changed_most c x by.next by.next old by.value (noted x g), noted_most x g)

  pub memory_most : (c : declared-change.Change) (q : PlaceLaid) (moved : Bool) (by : Laid) (g : Goal) → made_counts (renewed_memory n c q moved by g) ≤ goal_counts g + 3
  memory_most c q moved by g =
      let own = target g (pick n q.next (behind_move (Rattle.graph_build_steps.specs.Steps.takes_more c by.value) by.next)) in
      let last = stored (Rattle.graph_build_steps.specs.Steps.changed_element c) (Rattle.graph_build_steps.specs.Drafts.held_location moved (q.next + 1) q.location) (unit.Name own) g in
      omega (arith, changed_most c own (pick n q.next by.next) by.next (unit.Name q.next) by.value last, stored_most (Rattle.graph_build_steps.specs.Steps.changed_element c) (Rattle.graph_build_steps.specs.Drafts.held_location moved (q.next + 1) q.location) (unit.Name own) g)

  pub loaded_most : (c : declared-change.Change) (q : PlaceLaid) (moved : Bool) (m : Made) → made_counts (loaded_first c q moved m) ≤ made_counts m + 1 + one_if moved
  loaded_most c q moved m = omega (arith, move_most moved (q.next + 1) (Rattle.graph_build_names.specs.Operands.operand_at q.location) m)

  pub left_scalar_most : (c : declared-change.Change) (x t : ℕ) (g : Goal) → made_counts (left_scalar c x t g) ≤ goal_counts g + room g + 3
  left_scalar_most c x t g =
      let free = Rattle.graph_build_steps.specs.Drafts.behind_old (Rattle.graph_build_steps.specs.Drafts.use_of g) x t in
      let last = note x (use_old g x t) in
      omega (arith, keep_most (Rattle.graph_build_steps.specs.Drafts.use_of g) x t (changed c x free free (unit.Name x) (unit.Constant 1) last), changed_most c x free free (unit.Name x) (unit.Constant 1) last, use_most g x t)

  pub left_memory_most : (c : declared-change.Change) (q : PlaceLaid) (g : Goal) → made_counts (left_memory c q g) ≤ goal_counts g + 4
  left_memory_most c q g =
      let old = target g q.next in let free = Rattle.graph_build_steps.specs.Drafts.left_free (Rattle.graph_build_steps.specs.Drafts.use_of g) q.next in
      let own = behind_move (Rattle.graph_build_steps.specs.Steps.takes_more c (unit.Constant 1)) free in
      let last = instruction_before (Store (Rattle.graph_build_steps.specs.Steps.changed_element c) q.location (unit.Name own)) (follow g old) in
      omega (arith, changed_most c own free free (unit.Name old) (unit.Constant 1) last, follow_most g old)

  pub object_most : (o : declared-object.Object) (t : ℕ) (g : Goal) → made_counts (object_address n o t g) + 1 ≤ goal_counts g + room g + 2
  object_most (object.Static i) t g = omega (arith, leaf_most g (unit.StaticAddress i 0))
  object_most (object.Literal i) t g = omega (arith, leaf_most g (unit.StaticAddress (n.statics + i) 0))
  object_most (object.Automatic x) t g = omega (arith, operated_most g t t (λ y. Address y (or_zero (object_of n x))))
