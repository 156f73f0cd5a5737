-- The code of each construct only adds inner blocks to those that stand.
use Rattle.std.proofs.Common.{◌≡◌, ℕ, zero, suc, ◌+◌, ◌-◌, List, [], ◌∷◌, ◌++◌, length, Option, Some, None, Bool, true, false, not, refl, sym, ap, ◌∙◌, subst}
use Rattle.std.specs.Prelude.{◌==◌, if◌then◌else◌}
use Rattle.c_tree.specs.declared.typed_expression.Sign.TheVariants.{Plus, Minus, Complement}
use Rattle.c_tree.specs.declared.typed_expression.Direction.TheVariants.{Up}
use Rattle.c_tree.specs.declared.types.IntegerType.{IntegerType}
use Rattle.c_tree.specs.declared.typed_expression.Given as declared-given
use Rattle.c_tree.specs.declared.typed_expression.Given.TheVariants.{New, Old}
use Rattle.c_tree.specs.declared.typed_expression.Comparison as declared-comparison
use Rattle.c_tree.specs.declared.typed_expression.Comparison.TheVariants as comparison
use Rattle.c_tree.specs.declared.object_type.Object as designator
use Rattle.c_tree.specs.declared.object_type.Object.TheVariants as object
use Rattle.c_tree.specs.declared.object_type.Scalar.{Scalar}
use Rattle.c_tree.specs.TypedExpressions.{RvalueTree, LvalueTree, ArgumentTrees, Constant, Null, Load, Decay, AddressOf, Convert, Discard, Signed, Not, Arithmetic, Compare, ComparePointers, Move, MoveFrom, Difference, And, Or, Conditional, Comma, Assign, Update, UpdatePointer, Step, StepPointer, Call, Named, Target, Element, ElementFrom, none, first}
use Rattle.c_type_rules.specs.Integers.{object_size}
use Rattle.c_type_rules.specs.ValueTypes.{type_of, given_by, integer_in, is_void, is_pointer}
use Rattle.graph_core.specs.Graphs as unit
use Rattle.graph_core.specs.Graphs.{Operand, Location, Instruction, Block, Graph}
use Rattle.graph_core.specs.declared.instruction.Element as declared-element
use Rattle.graph_build_names.specs.Conversions.{keeps_bits, is_kept_constant, is_narrow}
use Rattle.graph_build_names.specs.Operands.{operand_at}
use Rattle.graph_build_names.specs.Scales.{is_scaled, scaled, shift_of}
use Rattle.word_base.specs.declared.operation.Operation.TheVariants as operation
use Rattle.graph_build_layout.specs.declared.laid.Use.{Use}
use Rattle.graph_build_layout.specs.declared.laid.Use.TheVariants.{Anywhere, In, Nothing, Tested}
use Rattle.graph_build_names.specs.Names.{Names, scalar_named, pick}
use Rattle.graph_build_names.specs.Writes.{writes, writes_any, is_moved, is_location_moved}
use Rattle.graph_build_layout.specs.Laid.{Laid, Pair, PlaceLaid, pair, behind_move, behind_own, use_for}
use Rattle.graph_build_layout.specs.Layout.{laid, place_laid, passed_laid}
use Rattle.graph_build_steps.specs.Rules.{element_of, steps_by, truncation_to, operation_for, move_by, callee_for}
use Rattle.graph_build_steps.specs.Drafts.{Made, Goal, To, Unused, Either, use_of, instruction_before, ending, zero as zero_operand, leaf, target, follow, label_of, with_inner_block, forked, valued, operated, move_if, hold_location, stored, note, noted, keep_old, use_old, behind_old, used, called_by, scale, scaling, renew, compare_by, compare_pointers_by, compared, compared_pointers}
use Rattle.graph_build_steps.specs.declared.site.Two as declared-two
use Rattle.graph_build_steps.specs.declared.site.Two.TheVariants as two
use Rattle.graph_build_steps.specs.declared.change.Change as declared-change
use Rattle.graph_build_steps.specs.declared.change.Change.TheVariants as change
use Rattle.graph_build_steps.specs.Steps.{in_turn, signed, finished, arm_goal, arm_use, arm_value, assigned_memory, changed, renewed_scalar, renewed_memory, loaded_first, left_scalar, left_memory, updated, stepped, object_address, one_at, element_distance}
use Rattle.graph_build_code.specs.Code.{code, code_place, code_address, code_all}
use Rattle.graph_build_runs.proofs.Standing.{Stands, inner_of, leaf_inner, follow_inner, hold_inner, closed_inner}

pub valued_inner : (g : Goal) (a : Operand) → inner_of (valued g a) ≡ inner_of g
valued_inner (To want m) a = refl
valued_inner (Unused m) a = refl
valued_inner (Either one other inner) a = refl

used_inner : (g : Goal) (a : Operand) → inner_of (valued (used g) a) ≡ inner_of g
used_inner (To want m) a = refl
used_inner (Unused m) a = refl
used_inner (Either one other inner) a = refl

pub arm_inner : (void : Bool) (t : ℕ) (m : Made) → inner_of (arm_goal void t m) ≡ m.inner
arm_inner true t m = refl
arm_inner false t m = refl

compare_inner : (o : declared-comparison.Comparison) (s : Bool) (x t : ℕ) (a b : Operand) (m : Made) → (compare_by o s x t a b m).inner ≡ m.inner
compare_inner comparison.Less s x t a b m = refl
compare_inner comparison.Greater s x t a b m = refl
compare_inner comparison.LessEqual s x t a b m = refl
compare_inner comparison.GreaterEqual s x t a b m = refl
compare_inner comparison.Equal s x t a b m = refl
compare_inner comparison.NotEqual s x t a b m = refl

compare_pointers_inner : (o : declared-comparison.Comparison) (x t : ℕ) (a b : Operand) (m : Made) → (compare_pointers_by o x t a b m).inner ≡ m.inner
compare_pointers_inner comparison.Less x t a b m = refl
compare_pointers_inner comparison.Greater x t a b m = refl
compare_pointers_inner comparison.LessEqual x t a b m = refl
compare_pointers_inner comparison.GreaterEqual x t a b m = refl
compare_pointers_inner comparison.Equal x t a b m = refl
compare_pointers_inner comparison.NotEqual x t a b m = refl

before_if : (b : Bool) (i : Instruction) (m : Made) → (if b then instruction_before i m else m).inner ≡ m.inner
before_if true i m = refl
before_if false i m = refl

renew_inner : (ty : IntegerType) (x t : ℕ) (i : ℕ → Instruction) (m : Made) → (renew ty x t i m).inner ≡ m.inner
renew_inner ty x t i m = by (is_narrow ty)
  where
    by : (b : Bool) → (if b then instruction_before (i t) (instruction_before (unit.Truncate x (truncation_to ty) (unit.Name t)) m) else instruction_before (i x) m).inner ≡ m.inner
    by true = refl
    by false = refl

pub changed_inner : (c : declared-change.Change) (x t free : ℕ) (old by : Operand) (m : Made) → (changed c x t free old by m).inner ≡ m.inner
changed_inner (change.Integer o ty v) x t free old by m = renew_inner ty x t (λ y. unit.Operate y (operation_for o v) old by) m
changed_inner (change.Pointer d bytes) x t free old by m = before_if (is_scaled bytes by) (scaling (shift_of bytes) bytes free by) (instruction_before (unit.Operate x (move_by d) old (scaled bytes by free)) m)

module _ (n : Names) (place top : ℕ) (g : Graph) where
  abbrev St : List Block → Type 0
  St i = Stands g top i

  st_by : (i j : List Block) → i ≡ j → St i → St j
  st_by i j e h = subst (Stands g top) e h

  leaf_grows : (goal : Goal) (a : Operand) → St (leaf goal a).inner → St (inner_of goal)
  leaf_grows goal a h = st_by (leaf goal a).inner (inner_of goal) (leaf_inner goal a) h

  follow_grows : (goal : Goal) (own : ℕ) → St (follow goal own).inner → St (inner_of goal)
  follow_grows goal own h = st_by (follow goal own).inner (inner_of goal) (follow_inner goal own) h

  hold_grows : (moved : Bool) (t : ℕ) (a : Operand) (m : Made) → St (move_if moved t a m).inner → St m.inner
  hold_grows moved t a m h = st_by (move_if moved t a m).inner m.inner (hold_inner moved t a m) h

  -- one way or another
  by_way : (b : Bool) (m k : Made) (i : List Block) → (St m.inner → St i) → (St k.inner → St i) → St (if b then m else k).inner → St i
  by_way true m k i f h st = f st
  by_way false m k i f h st = h st

  compared_grows : (goal : Goal) (s : Bool) (o : declared-comparison.Comparison) (t : ℕ) (two : Bool) (q : Pair) → St (compared n goal s o t two q).inner → St (inner_of goal)
  compared_grows (Either one other inner) s o t two q h = h
  compared_grows (To want m) s o t two q h = st_by _ m.inner (compare_inner o s _ _ q.left q.right m) h
  compared_grows (Unused m) s o t two q h = st_by _ m.inner (compare_inner o s _ _ q.left q.right m) h

  compared_pointers_grows : (goal : Goal) (o : declared-comparison.Comparison) (t : ℕ) (q : Pair) → St (compared_pointers n goal o t q).inner → St (inner_of goal)
  compared_pointers_grows (Either one other inner) o t q h = h
  compared_pointers_grows (To want m) o t q h = st_by _ m.inner (compare_pointers_inner o _ _ q.left q.right m) h
  compared_pointers_grows (Unused m) o t q h = st_by _ m.inner (compare_pointers_inner o _ _ q.left q.right m) h

  scaled_grows : (goal : Goal) (own : ℕ) (b : Bool) (i j : Instruction) → St (if b then instruction_before i (instruction_before j (follow goal own)) else instruction_before j (follow goal own)).inner → St (inner_of goal)
  scaled_grows goal own true i j h = follow_grows goal own h
  scaled_grows goal own false i j h = follow_grows goal own h

  distance_grows : (goal : Goal) (own other : ℕ) (b : Bool) (i j k : Instruction) → St (if b then instruction_before i (follow goal own) else instruction_before j (instruction_before k (follow goal other))).inner → St (inner_of goal)
  distance_grows goal own other true i j k h = follow_grows goal own h
  distance_grows goal own other false i j k h = follow_grows goal other h

  finished_grows : (k : declared-two.Two) (goal : Goal) (t : ℕ) (q : Pair) → St (finished n k goal t q).inner → St (inner_of goal)
  finished_grows (two.Arithmetic o ty) goal t q h = follow_grows goal _ h
  finished_grows (two.Compare o ty) goal t q h = compared_grows goal _ o t _ q h
  finished_grows (two.ComparePointers o) goal t q h = compared_pointers_grows goal o t q h
  finished_grows (two.Move d bytes) goal t q h = scaled_grows goal _ (is_scaled bytes q.right) _ _ h
  finished_grows (two.MoveFrom bytes) goal t q h = scaled_grows goal _ (is_scaled bytes q.left) _ _ h
  finished_grows (two.Difference bytes) goal t q h = distance_grows goal _ _ (bytes == 1) _ _ _ h

  abbrev GrowsBy : (ℕ → Goal → Made) → Type 0
  GrowsBy made = (t : ℕ) (goal : Goal) → St (made t goal).inner → St (inner_of goal)

  turn_grows : (a b : ℕ → Goal → Made) → GrowsBy a → GrowsBy b → (t : ℕ) (q : Pair) (m : Made) → St (in_turn a b t q m).inner → St m.inner
  turn_grows a b ga gb t q m h = gb q.from (To None m) (hold_grows q.moved q.moved_to q.first (b q.from (To None m)) (ga t (To None (move_if q.moved q.moved_to q.first (b q.from (To None m)))) h))

  forked_grows : (goal : Goal) (own : ℕ) → St (forked place top goal own).inner → St (inner_of goal)
  forked_grows (Either one other inner) own h = h
  forked_grows (To want m) own h = leaf_grows (To want m) (unit.Name own) (closed_inner g top place _ (closed_inner g top place _ (closed_inner g top place _ h)))
  forked_grows (Unused m) own h = leaf_grows (Unused m) (unit.Name own) (closed_inner g top place _ (closed_inner g top place _ (closed_inner g top place _ h)))

  called_grows : (void : Bool) (goal : Goal) (own : ℕ) (i : Option ℕ → Instruction) → St (called_by void goal own i).inner → St (inner_of goal)
  called_grows true goal own i h = leaf_grows goal zero_operand h
  called_grows false (Unused m) own i h = h
  called_grows false (To want m) own i h = h
  called_grows false (Either one other inner) own i h = h

  memory_grows : (goal : Goal) (q : PlaceLaid) (moved : Bool) (e : declared-element.Element) (a : Operand) → St (inner_of (assigned_memory goal q moved e a)) → St (inner_of goal)
  memory_grows (To None m) q moved e a h = h
  memory_grows (To (Some x) m) q moved e a h = h
  memory_grows (Unused m) q moved e a h = h
  memory_grows (Either one other inner) q moved e a h = h

  stored_grows : (goal : Goal) (e : declared-element.Element) (l : Location) (a : Operand) → St (stored e l a goal).inner → St (inner_of goal)
  stored_grows (To want m) e l a h = h
  stored_grows (Unused m) e l a h = h
  stored_grows (Either one other inner) e l a h = h

  changed_grows : (c : declared-change.Change) (x t free : ℕ) (old by : Operand) (m : Made) → St (changed c x t free old by m).inner → St m.inner
  changed_grows c x t free old by m h = st_by _ m.inner (changed_inner c x t free old by m) h

  keep_old_grows : (u : Use) (x t : ℕ) (m : Made) → St (keep_old u x t m).inner → St m.inner
  keep_old_grows Nothing x t m h = h
  keep_old_grows (In y) x t m h = by_way (y == x) (instruction_before (unit.Move t (unit.Name x)) m) (instruction_before (unit.Move y (unit.Name x)) m) m.inner (λ k. k) (λ k. k) h
  keep_old_grows Anywhere x t m h = h
  keep_old_grows Tested x t m h = h

  use_old_grows : (goal : Goal) (x t : ℕ) → St (use_old goal x t).inner → St (inner_of goal)
  use_old_grows (Unused k) x t h = h
  use_old_grows (To (Some y) k) x t h = by_way (y == x) (instruction_before (unit.Move x (unit.Name t)) k) k k.inner (λ j. j) (λ j. j) h
  use_old_grows (To None k) x t h = h
  use_old_grows (Either one other inner) x t h = h

  updated_grows : (o : Option ℕ) (c : declared-change.Change) (written : ℕ → Bool) (q : PlaceLaid) (t : ℕ) (by : ℕ → Goal → Made) (r : ℕ → Laid) (behind : Made → Made) → GrowsBy by → ((m : Made) → St (behind m).inner → St m.inner)
      → (goal : Goal) → St (updated n o c written q t by r behind goal).inner → St (inner_of goal)
  updated_grows (Some x) c written q t by r behind gb gp goal h =
      leaf_grows goal (unit.Name x) (changed_grows c x _ _ _ _ (noted x goal) (gb _ (To None _) (hold_grows (written x) t (unit.Name x) _ h)))
  updated_grows None c written q t by r behind gb gp goal h =
      stored_grows goal _ _ _ (changed_grows c _ _ _ _ _ _ (gb _ (To None _) (hold_grows (is_location_moved written q.location) _ _ _ (gp _ h))))

  stepped_grows : (o : Option ℕ) (c : declared-change.Change) (k : declared-given.Given) (q : PlaceLaid) (t : ℕ) (behind : Made → Made) → ((m : Made) → St (behind m).inner → St m.inner)
      → (goal : Goal) → St (stepped n o c k q t behind goal).inner → St (inner_of goal)
  stepped_grows (Some x) c New q t behind gp goal h = leaf_grows goal (unit.Name x) (changed_grows c x _ _ _ _ (noted x goal) h)
  stepped_grows None c New q t behind gp goal h = stored_grows goal _ _ _ (changed_grows c _ _ _ _ _ _ (gp _ h))
  stepped_grows (Some x) c Old q t behind gp goal h = use_old_grows goal x t (changed_grows c x _ _ _ _ (note x (use_old goal x t)) (keep_old_grows (use_of goal) x t _ h))
  stepped_grows None c Old q t behind gp goal h = follow_grows goal _ (changed_grows c _ _ _ _ _ _ (gp _ h))

  address_grows : (o : designator.Object) (t : ℕ) (goal : Goal) → St (object_address n o t goal).inner → St (inner_of goal)
  address_grows (object.Static i) t goal h = leaf_grows goal _ h
  address_grows (object.Literal i) t goal h = leaf_grows goal _ h
  address_grows (object.Automatic v) t goal h = follow_grows goal _ h

  abbrev loaded_code : Scalar → LvalueTree → ℕ → Goal → Option ℕ → Made
  loaded_code s l t goal o = elim (o) [
    | Some x ↦ leaf goal (unit.Name x)
    | None ↦ let q = place_laid n l t in code_place n place top l t (operated n goal t q.next (λ x. unit.Load x (element_of s) q.location))
  ]

  abbrev assigned_code : Scalar → LvalueTree → RvalueTree → ℕ → Goal → Option ℕ → Made
  assigned_code s l e t goal o = elim (o) [
    | Some x ↦ code n place top e t (To (Some x) (noted x goal))
    | None ↦ let q = place_laid n l t in let moved = is_location_moved (λ y. writes n y e) q.location in let from = behind_move moved q.next in
        code_place n place top l t (hold_location moved q.next q.location (code n place top e from (assigned_memory goal q moved (element_of s) (laid n e (use_for None (use_of goal)) from).value)))
  ]

  loaded_grows : (s : Scalar) (l : LvalueTree) (t : ℕ) (goal : Goal) → ((m : Made) → St (code_place n place top l t m).inner → St m.inner) → (o : Option ℕ)
      → St (loaded_code s l t goal o).inner → St (inner_of goal)
  loaded_grows s l t goal gp (Some x) h = leaf_grows goal (unit.Name x) h
  loaded_grows s l t goal gp None h = follow_grows goal _ (gp _ h)

  assigned_grows : (s : Scalar) (l : LvalueTree) (e : RvalueTree) (t : ℕ) (goal : Goal) → GrowsBy (code n place top e) → ((m : Made) → St (code_place n place top l t m).inner → St m.inner) → (o : Option ℕ)
      → St (assigned_code s l e t goal o).inner → St (inner_of goal)
  assigned_grows s l e t goal ge gp (Some x) h = leaf_grows goal (unit.Name x) (ge t (To (Some x) (noted x goal)) h)
  assigned_grows s l e t goal ge gp None h =
      let q = place_laid n l t in
      let moved = is_location_moved (λ y. writes n y e) q.location in
      let from = behind_move moved q.next in
      let value = (laid n e (use_for None (use_of goal)) from).value in
      let m = code n place top e from (assigned_memory goal q moved (element_of s) value) in
      memory_grows goal q moved (element_of s) value (ge from (assigned_memory goal q moved (element_of s) value) (hold_grows moved q.next (operand_at q.location) m (gp (hold_location moved q.next q.location m) h)))

  both_grows : (b : ℕ → Goal → Made) → GrowsBy b → (from : ℕ) (goal : Goal) (own : ℕ) (one other : ℕ)
      → St (with_inner_block place (b from (Either one other (forked place top goal own).inner))) → St (inner_of goal)
  both_grows b gb from goal own one other h = forked_grows goal own (gb from (Either one other (forked place top goal own).inner) (closed_inner g top place (b from (Either one other (forked place top goal own).inner)) h))

  -- two operands in turn, and what is made of them
  two_grows : (a b : RvalueTree) (k : declared-two.Two) → GrowsBy (code n place top a) → GrowsBy (code n place top b) → (t : ℕ) (goal : Goal)
      → St (in_turn (code n place top a) (code n place top b) t (pair (λ y. writes n y b) (laid n a Anywhere t) (laid n b Anywhere)) (finished n k goal t (pair (λ y. writes n y b) (laid n a Anywhere t) (laid n b Anywhere)))).inner → St (inner_of goal)
  two_grows a b k ga gb t goal h =
      let q = pair (λ y. writes n y b) (laid n a Anywhere t) (laid n b Anywhere) in
      finished_grows k goal t q (turn_grows (code n place top a) (code n place top b) ga gb t q (finished n k goal t q) h)

  mutual
    pub grows : (e : RvalueTree) (t : ℕ) (goal : Goal) → St (code n place top e t goal).inner → St (inner_of goal)
    grows (Constant z ty) t goal h = leaf_grows goal _ h
    grows Null t goal h = leaf_grows goal _ h
    grows (Load s l) t goal h = loaded_grows s l t goal (grows_place l t) (scalar_named n l) h
    grows (Decay l) t goal h = grows_address l t goal h
    grows (AddressOf l) t goal h = grows_address l t goal h
    grows (Convert ty e) t goal h =
        let r = laid n e Anywhere t in
        let kept = code n place top e t (valued goal r.value) in
        let last = if is_kept_constant ty r.value then leaf goal r.value else operated n goal t r.next (λ x. unit.Truncate x (truncation_to ty) r.value) in
        by_way (keeps_bits (integer_in (type_of n.results e)) ty) kept (code n place top e t (To None last)) (inner_of goal)
        (λ k. st_by (inner_of (valued goal r.value)) (inner_of goal) (valued_inner goal r.value) (grows e t (valued goal r.value) k))
        (λ k. by_way (is_kept_constant ty r.value) (leaf goal r.value) (operated n goal t r.next (λ x. unit.Truncate x (truncation_to ty) r.value)) (inner_of goal) (λ j. leaf_grows goal r.value j) (λ j. follow_grows goal (pick n t r.next) j)
        (grows e t (To None last) k)) h
    grows (Discard e) t goal h = leaf_grows goal zero_operand (grows e t (Unused (leaf goal zero_operand)) h)
    grows (Signed Plus ty e) t goal h =
        let r = laid n e Anywhere t in st_by (inner_of (valued goal r.value)) (inner_of goal) (valued_inner goal r.value) (grows e t (valued goal r.value) h)
    grows (Signed Minus ty e) t goal h = let r = laid n e Anywhere t in follow_grows goal (pick n t r.next) (grows e t (To None (operated n goal t r.next (signed Minus r.value))) h)
    grows (Signed Complement ty e) t goal h = let r = laid n e Anywhere t in follow_grows goal (pick n t r.next) (grows e t (To None (operated n goal t r.next (signed Complement r.value))) h)
    grows (Not e) t (Either one other inner) h = grows e t (Either other one inner) h
    grows (Not e) t (To want m) h =
        let r = laid n e Anywhere t in
        grows e t (To None (operated n (To want m) t r.next (λ x. if is_pointer (type_of n.results e) then unit.Same x r.value zero_operand else unit.Operate x operation.Sltu r.value (unit.Constant 1)))) h
    grows (Not e) t (Unused m) h =
        let r = laid n e Anywhere t in
        grows e t (To None (operated n (Unused m) t r.next (λ x. if is_pointer (type_of n.results e) then unit.Same x r.value zero_operand else unit.Operate x operation.Sltu r.value (unit.Constant 1)))) h
    grows (Arithmetic o ty a b) t goal h = two_grows a b (two.Arithmetic o ty) (grows a) (grows b) t goal h
    grows (Compare o ty a b) t goal h = two_grows a b (two.Compare o ty) (grows a) (grows b) t goal h
    grows (ComparePointers o a b) t goal h = two_grows a b (two.ComparePointers o) (grows a) (grows b) t goal h
    grows (Move d of p i) t goal h = two_grows p i (two.Move d (object_size of)) (grows p) (grows i) t goal h
    grows (MoveFrom i of p) t goal h = two_grows i p (two.MoveFrom (object_size of)) (grows i) (grows p) t goal h
    grows (Difference of a b) t goal h = two_grows a b (two.Difference (object_size of)) (grows a) (grows b) t goal h
    grows (And a b) t goal h =
        let at = behind_own (use_of goal) t in
        let way = forked place top goal t in
        let from = pick n at (laid n a Tested at).top in
        let m = code n place top b from (Either way.one way.other way.inner) in
        both_grows (code n place top b) (grows b) from goal t way.one way.other (grows a at (Either (label_of top m) way.other (with_inner_block place m)) h)
    grows (Or a b) t goal h =
        let at = behind_own (use_of goal) t in
        let way = forked place top goal t in
        let from = pick n at (laid n a Tested at).top in
        let m = code n place top b from (Either way.one way.other way.inner) in
        both_grows (code n place top b) (grows b) from goal t way.one way.other (grows a at (Either way.one (label_of top m) (with_inner_block place m)) h)
    grows (Conditional c a b) t goal h =
        let void = is_void (type_of n.results a) in
        let at = behind_move (not void) t in
        let at_a = pick n at (laid n c Tested at).top in
        let at_b = pick n at (laid n a (arm_use void t) at_a).top in
        let m = leaf goal (arm_value void t) in
        let my = ending (unit.Jump (label_of top m)) (with_inner_block place m) in
        let y = code n place top b at_b (arm_goal void t my) in
        let mz = ending (unit.Jump (label_of top m)) (with_inner_block place y) in
        let z = code n place top a at_a (arm_goal void t mz) in
        let z_stands = closed_inner g top place z (grows c at (Either (label_of top z) (label_of top y) (with_inner_block place z)) h) in
        let y_stands = closed_inner g top place y (st_by (inner_of (arm_goal void t mz)) (with_inner_block place y) (arm_inner void t mz) (grows a at_a (arm_goal void t mz) z_stands)) in
        leaf_grows goal (arm_value void t) (closed_inner g top place m (st_by (inner_of (arm_goal void t my)) (with_inner_block place m) (arm_inner void t my) (grows b at_b (arm_goal void t my) y_stands)))
    grows (Comma a b) t goal h = let k = pick n t (laid n a Nothing t).top in grows b k goal (grows a t (Unused (code n place top b k goal)) h)
    grows (Assign s l e) t goal h = assigned_grows s l e t goal (grows e) (grows_place l t) (scalar_named n l) h
    grows (Update o ty v l e) t goal h =
        updated_grows (scalar_named n l) (change.Integer o ty v) (λ y. writes n y e) (place_laid n l t) t (code n place top e) (laid n e Anywhere) (code_place n place top l t) (grows e) (grows_place l t) goal h
    grows (UpdatePointer d of l e) t goal h =
        updated_grows (scalar_named n l) (change.Pointer d (object_size of)) (λ y. writes n y e) (place_laid n l t) t (code n place top e) (laid n e Anywhere) (code_place n place top l t) (grows e) (grows_place l t) goal h
    grows (Step d k ty v l) t goal h = stepped_grows (scalar_named n l) (change.Integer (steps_by d) ty v) k (place_laid n l t) t (code_place n place top l t) (grows_place l t) goal h
    grows (StepPointer d k of l) t goal h = stepped_grows (scalar_named n l) (change.Pointer d (object_size of)) k (place_laid n l t) t (code_place n place top l t) (grows_place l t) goal h
    grows (Call c all) t goal h =
        let q = passed_laid n all t in
        let i : Option ℕ → Instruction = λ x. unit.Call x (callee_for c) q.values in
        called_grows (is_void (given_by n.results c)) goal (pick n t q.next) i (grows_all all t (called_by (is_void (given_by n.results c)) goal (pick n t q.next) i) h)

    pub grows_place : (l : LvalueTree) (t : ℕ) (m : Made) → St (code_place n place top l t m).inner → St m.inner
    grows_place (Named o of) t m h = h
    grows_place (Target of p) t m h = grows p t (To None m) h
    grows_place (Element of p i) t m h = two_grows p i (two.Move Up (object_size of)) (grows p) (grows i) t (To None m) h
    grows_place (ElementFrom of i p) t m h = two_grows i p (two.MoveFrom (object_size of)) (grows i) (grows p) t (To None m) h

    pub grows_address : (l : LvalueTree) (t : ℕ) (goal : Goal) → St (code_address n place top l t goal).inner → St (inner_of goal)
    grows_address (Named o of) t goal h = address_grows o t goal h
    grows_address (Target of p) t goal h =
        let r = laid n p Anywhere t in st_by (inner_of (valued (used goal) r.value)) (inner_of goal) (used_inner goal r.value) (grows p t (valued (used goal) r.value) h)
    grows_address (Element of p i) t goal h = two_grows p i (two.Move Up (object_size of)) (grows p) (grows i) t goal h
    grows_address (ElementFrom of i p) t goal h = two_grows i p (two.MoveFrom (object_size of)) (grows i) (grows p) t goal h

    pub grows_all : (all : ArgumentTrees) (t : ℕ) (m : Made) → St (code_all n place top all t m).inner → St m.inner
    grows_all none t m h = h
    grows_all (first e rest) t m h =
        let r = laid n e Anywhere t in
        let moved = is_moved (λ y. writes_any n y rest) r.value in
        let k = code_all n place top rest (behind_move moved r.next) m in
        grows_all rest (behind_move moved r.next) m (hold_grows moved r.next r.value k (grows e t (To None (move_if moved r.next r.value k)) h))
