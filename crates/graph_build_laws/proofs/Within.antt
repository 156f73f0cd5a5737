-- The code of an expression has at most two instructions for each node: operations, conversions, conditions.
use Rattle.std.proofs.Common.{◌≡◌, ℕ, ◌+◌, ◌*◌, ◌≤◌, Bool, true, false, Option, Some, None, List, refl, sym, subst, arith, if◌then◌else◌}
use Rattle.std.specs.Prelude.{not, ◌||◌}
use Rattle.c_tree.specs.declared.types.IntegerType.{IntegerType}
use Rattle.c_tree.specs.declared.object_type.Scalar.{Scalar}
use Rattle.c_tree.specs.declared.object_type.Object.{Object}
use Rattle.c_tree.specs.declared.object_type.ObjectType.{ObjectType}
use Rattle.c_tree.specs.declared.typed_expression.Callee.{Callee}
use Rattle.c_tree.specs.declared.typed_expression.Sign.{Sign}
use Rattle.c_tree.specs.declared.typed_expression.Sign.TheVariants.{Plus, Minus, Complement}
use Rattle.c_tree.specs.declared.typed_expression.Given.{Given}
use Rattle.c_tree.specs.declared.typed_expression.Given.TheVariants.{New, Old}
use Rattle.c_tree.specs.TypedExpressions.{RvalueTree, LvalueTree, ArgumentTrees, Constant, Null, Load, Decay, AddressOf, Convert, Discard, Signed, Not, Arithmetic, Compare, ComparePointers, Move, MoveFrom, Difference, And, Or, Conditional, Comma, Assign, Update, UpdatePointer, Step, StepPointer, Call, Named, Target, Element, ElementFrom, none, first}
use Rattle.c_type_rules.specs.Integers.{object_size}
use Rattle.c_type_rules.specs.ValueTypes.{type_of, given_by, is_void, integer_in, is_pointer}
use Rattle.word_base.specs.declared.operation.Operation.TheVariants as operation
use Rattle.graph_core.specs.Graphs as unit
use Rattle.graph_core.specs.Graphs.{Operand, Instruction, Operate, Truncate, Same, Store, Block, Jump}
use Rattle.graph_build_names.specs.Conversions.{keeps_bits, is_narrow, is_kept_constant}
use Rattle.graph_build_layout.specs.declared.laid.Use.{Use}
use Rattle.graph_build_layout.specs.declared.laid.Use.TheVariants.{Anywhere, In, Nothing, Tested}
use Rattle.graph_build_names.specs.Names.{Names, scalar_named, pick}
use Rattle.graph_build_names.specs.Writes.{writes, writes_any, is_moved, is_location_moved}
use Rattle.graph_build_layout.specs.Laid.{Laid, Pair, PlaceLaid, pair, behind_move, behind_own, use_for, converted_laid, updated_laid, called_laid, loaded_laid}
use Rattle.graph_build_layout.specs.Layout.{laid, place_laid, address_laid, passed_laid}
use Rattle.graph_build_steps.specs.Rules.{element_of, truncation_to, callee_for, steps_by}
use Rattle.graph_build_steps.specs.Drafts.{Made, Goal, Fork, To, Unused, Either, use_of, instruction_before, ending, zero, leaf, label_of, with_inner_block, forked, valued, used, operated, move_if, hold_location, held_location, stored, noted, assign_goal, called_by}
use Rattle.graph_build_steps.specs.declared.site.Two as declared-two
use Rattle.graph_build_steps.specs.declared.site.Two.TheVariants as two
use Rattle.graph_build_steps.specs.declared.change.Change as declared-change
use Rattle.graph_build_steps.specs.declared.change.Change.TheVariants as change
use Rattle.graph_build_steps.specs.Steps.{in_turn, signed, finished, arm_use, arm_value, arm_goal, assigned_memory, updated, stepped, object_address, renewed_scalar, renewed_memory, loaded_first, one_at, changed_element, takes_more}
use Rattle.graph_build_code.specs.Code.{code, code_place, code_address, code_all}
use Rattle.graph_build_laws.specs.Sizes.{counted, made_counts, goal_counts}
use Rattle.c_type_laws.specs.Weighing.{weighed, weighed_place, weighed_all, conversion}
use Rattle.graph_build_laws.proofs.Temporaries.{behind, place_behind, passed_is_behind, pair_behind, moved_behind, pick_least}
use Rattle.graph_build_laws.proofs.Written.{NamesFew, Few, written_few, all_few}
use Rattle.graph_build_laws.proofs.Pieces.{room, one_if, one_most, before_most, closed_counts, leaf_most, noted_most, valued_most, used_most, move_most, stored_most, called_most, forked_most, operated_most, finished_most, renewed_most, memory_most, loaded_most, left_scalar_most, left_memory_most, object_most}
use Rattle.graph_build_laws.proofs.Held.{operation_stays, location_stays, address_stays}

pub own_least : (u : Use) (k : ℕ) → k ≤ behind_own u k
own_least Tested k = omega arith
own_least Anywhere k = omega arith
own_least Nothing k = omega arith
own_least (In x) k = omega arith

module _ (n : Names) (place top scalars : ℕ) (few : NamesFew n scalars) where
  -- an expression: for any goal, where its value stands and may be moved, and both where a conversion on top of it is implied
  pub record Within (e : RvalueTree) : Type 0 where
    pub any : (t : ℕ) (g : Goal) → scalars ≤ t → made_counts (code n place top e t g) + 1 ≤ goal_counts g + 2 * weighed false e + room g
    pub held : (t : ℕ) (m : Made) (w : ℕ → Bool) → Few scalars w → scalars ≤ t → made_counts (code n place top e t (To None m)) + one_if (is_moved w (laid n e Anywhere t).value) + 1 ≤ made_counts m + 2 * weighed false e
    pub into : (t x : ℕ) (m : Made) → scalars ≤ t → made_counts (code n place top e t (To (Some x) m)) ≤ made_counts m + 2 * weighed true e
    pub passed : (t : ℕ) (m : Made) (w : ℕ → Bool) → Few scalars w → scalars ≤ t → made_counts (code n place top e t (To None m)) + one_if (is_moved w (laid n e Anywhere t).value) ≤ made_counts m + 2 * weighed true e

  pub record WithinPlace (l : LvalueTree) : Type 0 where
    pub least : 1 ≤ weighed_place l
    pub placed : (t : ℕ) (m : Made) (w : ℕ → Bool) → Few scalars w → scalars ≤ t → made_counts (code_place n place top l t m) + one_if (is_location_moved w (place_laid n l t).location) + 2 ≤ made_counts m + 2 * weighed_place l
    pub address : (t : ℕ) (g : Goal) → scalars ≤ t → made_counts (code_address n place top l t g) + 1 ≤ goal_counts g + 2 * weighed_place l + room g
    pub held : (t : ℕ) (m : Made) (w : ℕ → Bool) → Few scalars w → scalars ≤ t → made_counts (code_address n place top l t (To None m)) + one_if (is_moved w (address_laid n l Anywhere t).value) + 1 ≤ made_counts m + 2 * weighed_place l

  abbrev pub WithinAll : ArgumentTrees → Type 0
  WithinAll all = (t : ℕ) (m : Made) → scalars ≤ t → made_counts (code_all n place top all t m) ≤ made_counts m + 2 * weighed_all all

  -- an expression that is no conversion
  pub plain : (e : RvalueTree) → weighed true e ≡ weighed false e →
      ((t : ℕ) (g : Goal) → scalars ≤ t → made_counts (code n place top e t g) + 1 ≤ goal_counts g + 2 * weighed false e + room g) →
      ((t : ℕ) (m : Made) (w : ℕ → Bool) → Few scalars w → scalars ≤ t → made_counts (code n place top e t (To None m)) + one_if (is_moved w (laid n e Anywhere t).value) + 1 ≤ made_counts m + 2 * weighed false e) → Within e
  plain e same h k = record {
    any = h;
    held = k;
    into = λ t x m p. omega (arith, h t (To (Some x) m) p, same);
    passed = λ t m w fw p. omega (arith, k t m w fw p, same);
  }

  -- one with an instruction to spare
  pub loose : (e : RvalueTree) → weighed true e ≡ weighed false e →
      ((t : ℕ) (g : Goal) → scalars ≤ t → made_counts (code n place top e t g) + 2 ≤ goal_counts g + 2 * weighed false e + room g) → Within e
  loose e same h = plain e same (λ t g p. omega (arith, h t g p))
      (λ t m w fw p. omega (arith, h t (To None m) p, one_most (is_moved w (laid n e Anywhere t).value)))

  pub writes_few : (e : RvalueTree) → Few scalars (λ y. writes n y e)
  writes_few e y h = written_few n scalars few e y h

  -- two values in turn
  pub two_most : (a b : RvalueTree) → Within a → Within b → (t : ℕ) (last : Made) → scalars ≤ t →
      made_counts (in_turn (code n place top a) (code n place top b) t (pair (λ y. writes n y b) (laid n a Anywhere t) (laid n b Anywhere)) last) + 2 ≤ made_counts last + 2 * (weighed false a + weighed false b)
  two_most a b ha hb t last p =
      let q = pair (λ y. writes n y b) (laid n a Anywhere t) (laid n b Anywhere) in
      let from = (pair_behind n (λ y. writes n y b) t (laid n a Anywhere t) (laid n b Anywhere) (behind n a Anywhere t) (behind n b Anywhere)).1 in
      let second = code n place top b q.from (To None last) in
      omega (arith, ha.held t (move_if q.moved q.moved_to q.first second) (λ y. writes n y b) (writes_few b) p, move_most q.moved q.moved_to q.first second, hb.any q.from (To None last) (omega (arith, p, from)))

  pub finished_pair : (k : declared-two.Two) (a b : RvalueTree) → Within a → Within b → (t : ℕ) (g : Goal) → scalars ≤ t →
      made_counts (in_turn (code n place top a) (code n place top b) t (pair (λ y. writes n y b) (laid n a Anywhere t) (laid n b Anywhere)) (finished n k g t (pair (λ y. writes n y b) (laid n a Anywhere t) (laid n b Anywhere)))) + 2
      ≤ goal_counts g + 2 * (weighed false a + weighed false b + 1)
  finished_pair k a b ha hb t g p =
      let q = pair (λ y. writes n y b) (laid n a Anywhere t) (laid n b Anywhere) in omega (arith, two_most a b ha hb t (finished n k g t q) p, finished_most n k g t q)

  -- an element's place, and its address
  pub element_placed : (k : declared-two.Two) (a b : RvalueTree) (size : ℕ) (i : Operand) → Within a → Within b → (t : ℕ) (m : Made) (w : ℕ → Bool) → Few scalars w → scalars ≤ t →
      made_counts (in_turn (code n place top a) (code n place top b) t (pair (λ y. writes n y b) (laid n a Anywhere t) (laid n b Anywhere)) (finished n k (To None m) t (pair (λ y. writes n y b) (laid n a Anywhere t) (laid n b Anywhere))))
      + one_if (is_moved w (Rattle.graph_build_layout.specs.Laid.moved_laid n Anywhere t size i (pair (λ y. writes n y b) (laid n a Anywhere t) (laid n b Anywhere))).value) + 2 ≤ made_counts m + 2 * (weighed false a + weighed false b + 1)
  element_placed k a b size i ha hb t m w fw p =
      let q = pair (λ y. writes n y b) (laid n a Anywhere t) (laid n b Anywhere) in
      let far = pair_behind n (λ y. writes n y b) t (laid n a Anywhere t) (laid n b Anywhere) (behind n a Anywhere t) (behind n b Anywhere) in
      let s = moved_behind (Rattle.graph_build_names.specs.Scales.is_scaled size i) q.next in
      omega (arith, finished_pair k a b ha hb t (To None m) p, operation_stays n scalars w fw t (behind_move (Rattle.graph_build_names.specs.Scales.is_scaled size i) q.next) q.top p (omega (arith, far.0.0, s.0)))

  pub within_constant : (e : RvalueTree) (a : Operand) → weighed true e ≡ weighed false e → weighed false e ≡ 1 → ((t : ℕ) (g : Goal) → made_counts (code n place top e t g) ≤ made_counts (leaf g a)) → Within e
  within_constant e a same one h = loose e same (λ t g p. omega (arith, h t g, leaf_most g a, one))

  load_any : (s : Scalar) (l : LvalueTree) → WithinPlace l → (t : ℕ) (g : Goal) → scalars ≤ t → (o : Option ℕ) →
      made_counts (elim o [
        | Some x ↦ leaf g (unit.Name x)
        | None ↦ code_place n place top l t (operated n g t (place_laid n l t).next (λ x. unit.Load x (element_of s) (place_laid n l t).location))
      ]) + 1 ≤ goal_counts g + 2 * weighed_place l + room g
  load_any s l h t g p (Some x) = omega (arith, leaf_most g (unit.Name x), h.least)
  load_any s l h t g p None =
      let last = operated n g t (place_laid n l t).next (λ x. unit.Load x (element_of s) (place_laid n l t).location) in
      omega (arith, h.placed t last (λ y. false) (λ y q. refl) p, operated_most n g t (place_laid n l t).next (λ x. unit.Load x (element_of s) (place_laid n l t).location))

  load_held : (s : Scalar) (l : LvalueTree) → WithinPlace l → (t : ℕ) (m : Made) (w : ℕ → Bool) → Few scalars w → scalars ≤ t → (o : Option ℕ) →
      made_counts (elim o [
        | Some x ↦ leaf (To None m) (unit.Name x)
        | None ↦ code_place n place top l t (operated n (To None m) t (place_laid n l t).next (λ x. unit.Load x (element_of s) (place_laid n l t).location))
      ]) + one_if (is_moved w (loaded_laid n Anywhere o t (place_laid n l t)).value) + 1 ≤ made_counts m + 2 * weighed_place l
  load_held s l h t m w fw p (Some x) = omega (arith, h.least, one_most (w x))
  load_held s l h t m w fw p None =
      omega (arith, load_any s l h t (To None m) p None, operation_stays n scalars w fw t (place_laid n l t).next (place_laid n l t).top p (place_behind n l t).0)

  pub within_load : (s : Scalar) (l : LvalueTree) → WithinPlace l → Within (Load s l)
  within_load s l h = plain (Load s l) refl (λ t g p. load_any s l h t g p (scalar_named n l)) (λ t m w fw p. load_held s l h t m w fw p (scalar_named n l))

  pub within_decay : (l : LvalueTree) → WithinPlace l → Within (Decay l)
  within_decay l h = plain (Decay l) refl h.address h.held

  pub within_address : (l : LvalueTree) → WithinPlace l → Within (AddressOf l)
  within_address l h = loose (AddressOf l) refl (λ t g p. omega (arith, h.address t g p))

  -- a conversion: none, of a constant, or an instruction
  abbrev converting : IntegerType → RvalueTree → (t : ℕ) → Goal → (kept constant : Bool) → Made
  converting ty e t g b c =
      let r = laid n e Anywhere t in
      if b then code n place top e t (valued g r.value) else code n place top e t (To None (if c then leaf g r.value else operated n g t r.next (λ x. Truncate x (truncation_to ty) r.value)))

  abbrev converting_laid : IntegerType → RvalueTree → (t : ℕ) → (kept constant : Bool) → Laid
  converting_laid ty e t b c =
      let r = laid n e Anywhere t in if b then r else (if c then Rattle.graph_build_layout.specs.Laid.standing n Anywhere t r else Rattle.graph_build_layout.specs.Laid.operation_laid n Anywhere t r.next r.top)

  convert_any : (ty : IntegerType) (e : RvalueTree) → Within e → (t : ℕ) (g : Goal) → scalars ≤ t → (b c narrow : Bool) → (b ≡ false → narrow ≡ true) →
      made_counts (converting ty e t g b c) + 1 ≤ goal_counts g + 2 * (weighed false e + conversion false narrow) + room g
  convert_any ty e h t g p true c narrow k = omega (arith, h.any t (valued g (laid n e Anywhere t).value) p, valued_most g (laid n e Anywhere t).value)
  convert_any ty e h t g p false true narrow k = omega (arith, h.any t (To None (leaf g (laid n e Anywhere t).value)) p, leaf_most g (laid n e Anywhere t).value)
  convert_any ty e h t g p false false true k =
      let i : ℕ → Instruction = λ x. Truncate x (truncation_to ty) (laid n e Anywhere t).value in
      omega (arith, h.any t (To None (operated n g t (laid n e Anywhere t).next i)) p, operated_most n g t (laid n e Anywhere t).next i)
  convert_any ty e h t g p false false false k = absurd (clash (k refl))
    where
      clash : false ≡ true → ⊥
      clash c = cc

  convert_into : (ty : IntegerType) (e : RvalueTree) → Within e → (t x : ℕ) (m : Made) → scalars ≤ t → (b c : Bool) → made_counts (converting ty e t (To (Some x) m) b c) ≤ made_counts m + 2 * weighed false e
  convert_into ty e h t x m p true c = omega (arith, h.any t (To (Some x) m) p)
  convert_into ty e h t x m p false true = omega (arith, h.any t (To None (leaf (To (Some x) m) (laid n e Anywhere t).value)) p)
  convert_into ty e h t x m p false false =
      let i : ℕ → Instruction = λ y. Truncate y (truncation_to ty) (laid n e Anywhere t).value in
      omega (arith, h.any t (To None (operated n (To (Some x) m) t (laid n e Anywhere t).next i)) p, operated_most n (To (Some x) m) t (laid n e Anywhere t).next i)

  convert_passed : (ty : IntegerType) (e : RvalueTree) → Within e → (t : ℕ) (m : Made) (w : ℕ → Bool) → Few scalars w → scalars ≤ t → (b c : Bool) →
      made_counts (converting ty e t (To None m) b c) + one_if (is_moved w (converting_laid ty e t b c).value) ≤ made_counts m + 2 * weighed false e
  convert_passed ty e h t m w fw p true c = omega (arith, h.held t m w fw p)
  convert_passed ty e h t m w fw p false true = omega (arith, h.held t m w fw p)
  convert_passed ty e h t m w fw p false false =
      let r = laid n e Anywhere t in
      let i : ℕ → Instruction = λ y. Truncate y (truncation_to ty) r.value in
      omega (arith, h.any t (To None (operated n (To None m) t r.next i)) p, operated_most n (To None m) t r.next i, operation_stays n scalars w fw t r.next r.top p (behind n e Anywhere t).0)

  convert_held : (ty : IntegerType) (e : RvalueTree) → Within e → (t : ℕ) (m : Made) (w : ℕ → Bool) → Few scalars w → scalars ≤ t → (b c narrow : Bool) → (b ≡ false → narrow ≡ true) →
      made_counts (converting ty e t (To None m) b c) + one_if (is_moved w (converting_laid ty e t b c).value) + 1 ≤ made_counts m + 2 * (weighed false e + conversion false narrow)
  convert_held ty e h t m w fw p true c narrow k = omega (arith, h.held t m w fw p)
  convert_held ty e h t m w fw p false c true k = omega (arith, convert_passed ty e h t m w fw p false c)
  convert_held ty e h t m w fw p false c false k = absurd (clash (k refl))
    where
      clash : false ≡ true → ⊥
      clash c = cc

  kept_wide : (ty : IntegerType) (narrow within : Bool) → not narrow || within ≡ false → narrow ≡ true
  kept_wide ty true b k = refl
  kept_wide ty false b k = cc

  pub within_convert : (ty : IntegerType) (e : RvalueTree) → Within e → Within (Convert ty e)
  within_convert ty e h =
      let from = integer_in (type_of n.results e) in
      let b = keeps_bits from ty in
      let wide = kept_wide ty (is_narrow ty) (Rattle.graph_build_names.specs.Conversions.is_within from ty) in record {
        any = λ t g p. convert_any ty e h t g p b (is_kept_constant ty (laid n e Anywhere t).value) (is_narrow ty) wide;
        held = λ t m w fw p. convert_held ty e h t m w fw p b (is_kept_constant ty (laid n e Anywhere t).value) (is_narrow ty) wide;
        into = λ t x m p. omega (arith, convert_into ty e h t x m p b (is_kept_constant ty (laid n e Anywhere t).value));
        passed = λ t m w fw p. omega (arith, convert_passed ty e h t m w fw p b (is_kept_constant ty (laid n e Anywhere t).value));
      }

  pub within_discard : (e : RvalueTree) → Within e → Within (Discard e)
  within_discard e h = loose (Discard e) refl (λ t g p. omega (arith, h.any t (Unused (leaf g zero)) p, leaf_most g zero))

  within_operated : (e f : RvalueTree) → Within e → weighed true f ≡ weighed false f → weighed false f ≡ weighed false e + 1 → (i : ℕ → ℕ → Instruction) →
      ((t : ℕ) (g : Goal) → made_counts (code n place top f t g) ≤ made_counts (code n place top e t (To None (operated n g t (laid n e Anywhere t).next (i t))))) → Within f
  within_operated e f h same one i k =
      loose f same (λ t g p. omega (arith, k t g, h.any t (To None (operated n g t (laid n e Anywhere t).next (i t))) p, operated_most n g t (laid n e Anywhere t).next (i t), one))

  pub within_signed : (o : Sign) (ty : IntegerType) (e : RvalueTree) → Within e → Within (Signed o ty e)
  within_signed Plus ty e h = loose (Signed Plus ty e) refl (λ t g p. omega (arith, h.any t (valued g (laid n e Anywhere t).value) p, valued_most g (laid n e Anywhere t).value))
  within_signed Minus ty e h = within_operated e (Signed Minus ty e) h refl refl (λ t. signed Minus (laid n e Anywhere t).value) (λ t g. omega arith)
  within_signed Complement ty e h = within_operated e (Signed Complement ty e) h refl refl (λ t. signed Complement (laid n e Anywhere t).value) (λ t g. omega arith)

  not_any : (e : RvalueTree) → Within e → (t : ℕ) (g : Goal) → scalars ≤ t → made_counts (code n place top (Not e) t g) + 2 ≤ goal_counts g + 2 * (weighed false e + 1) + room g
  not_any e h t (Either one other inner) p = omega (arith, h.any t (Either other one inner) p)
  not_any e h t (To want m) p =
      let i : ℕ → Instruction = λ x. if is_pointer (type_of n.results e) then Same x (laid n e Anywhere t).value zero else Operate x operation.Sltu (laid n e Anywhere t).value (unit.Constant 1) in
      omega (arith, h.any t (To None (operated n (To want m) t (laid n e Anywhere t).next i)) p, operated_most n (To want m) t (laid n e Anywhere t).next i)
  not_any e h t (Unused m) p =
      let i : ℕ → Instruction = λ x. if is_pointer (type_of n.results e) then Same x (laid n e Anywhere t).value zero else Operate x operation.Sltu (laid n e Anywhere t).value (unit.Constant 1) in
      omega (arith, h.any t (To None (operated n (Unused m) t (laid n e Anywhere t).next i)) p, operated_most n (Unused m) t (laid n e Anywhere t).next i)

  pub within_not : (e : RvalueTree) → Within e → Within (Not e)
  within_not e h = loose (Not e) refl (not_any e h)

  -- `&&` and `||`
  both_most : (a b : RvalueTree) → Within a → Within b → (at behind_a one other one_a other_a : ℕ) (inner : List Block) → scalars ≤ at → scalars ≤ behind_a →
      made_counts (code n place top a at (Either one_a other_a (with_inner_block place (code n place top b behind_a (Either one other inner))))) + 2 ≤ counted inner + 2 * (weighed false a + weighed false b)
  both_most a b ha hb at behind_a one other one_a other_a inner p q =
      let m = code n place top b behind_a (Either one other inner) in
      omega (arith, ha.any at (Either one_a other_a (with_inner_block place m)) p, hb.any behind_a (Either one other inner) q, closed_counts place m)

  pub within_both : (a b f : RvalueTree) → Within a → Within b → weighed true f ≡ weighed false f → weighed false f ≡ weighed false a + weighed false b + 1 →
      (to_a to_b : Fork → Made → ℕ) →
      ((t : ℕ) (g : Goal) →
      let at = behind_own (use_of g) t in let way = forked place top g t in
      let m = code n place top b (pick n at (laid n a Tested at).top) (Either way.one way.other way.inner) in
      made_counts (code n place top f t g) ≤ made_counts (code n place top a at (Either (to_a way m) (to_b way m) (with_inner_block place m)))) → Within f
  within_both a b f ha hb same one to_a to_b k = loose f same (λ t g p. (
      let at = behind_own (use_of g) t in let way = forked place top g t in
      let later = pick n at (laid n a Tested at).top in
      let m = code n place top b later (Either way.one way.other way.inner) in
      let s = own_least (use_of g) t in
      let r = behind n a Tested at in
      let first_from : scalars ≤ at = omega (arith, p, s) in
      omega (arith, k t g, both_most a b ha hb at later way.one way.other (to_a way m) (to_b way m) way.inner first_from (pick_least n scalars at (laid n a Tested at).top first_from (omega (arith, first_from, r.0, r.1))), forked_most place top g t, one)))

  -- an arm of `?:`
  arm_most : (void : Bool) (e : RvalueTree) → Within e → (t at : ℕ) (m : Made) → scalars ≤ at → made_counts (code n place top e at (arm_goal void t m)) ≤ made_counts m + 2 * weighed false e
  arm_most true e h t at m p = omega (arith, h.any at (Unused m) p)
  arm_most false e h t at m p = omega (arith, h.any at (To (Some t) m) p)

  pub within_conditional : (c a b : RvalueTree) → Within c → Within a → Within b → Within (Conditional c a b)
  within_conditional c a b hc ha hb = loose (Conditional c a b) refl (λ t g p. (
      let void = is_void (type_of n.results a) in let at = behind_move (not void) t in
      let at_a = pick n at (laid n c Tested at).top in let at_b = pick n at (laid n a (arm_use void t) at_a).top in
      let m = leaf g (arm_value void t) in
      let y = code n place top b at_b (arm_goal void t (ending (Jump (label_of top m)) (with_inner_block place m))) in
      let x = code n place top a at_a (arm_goal void t (ending (Jump (label_of top m)) (with_inner_block place y))) in
      let rc = behind n c Tested at in let ra = behind n a (arm_use void t) at_a in
      let p_at : scalars ≤ at = omega (arith, p, (moved_behind (not void) t).0) in
      let p_a : scalars ≤ at_a = pick_least n scalars at (laid n c Tested at).top p_at (omega (arith, p_at, rc.0, rc.1)) in
      let p_b : scalars ≤ at_b = pick_least n scalars at (laid n a (arm_use void t) at_a).top p_at (omega (arith, p_a, ra.0, ra.1)) in
      omega (
        arith,
        hc.any at (Either (label_of top x) (label_of top y) (with_inner_block place x)) p_at,
        arm_most void a ha t at_a (ending (Jump (label_of top m)) (with_inner_block place y)) p_a,
        arm_most void b hb t at_b (ending (Jump (label_of top m)) (with_inner_block place m)) p_b,
        closed_counts place x,
        closed_counts place y,
        closed_counts place m,
        leaf_most g (arm_value void t),
      )))

  pub within_comma : (a b : RvalueTree) → Within a → Within b → Within (Comma a b)
  within_comma a b ha hb =
      let from : (t : ℕ) → scalars ≤ t → scalars ≤ pick n t (laid n a Nothing t).top = λ t p. pick_least n scalars t (laid n a Nothing t).top p (omega (arith, p, (behind n a Nothing t).0, (behind n a Nothing t).1)) in
      plain (Comma a b) refl
      (λ t g p. omega (arith, ha.any t (Unused (code n place top b (pick n t (laid n a Nothing t).top) g)) p, hb.any (pick n t (laid n a Nothing t).top) g (from t p)))
      (λ t m w fw p. omega (arith, ha.any t (Unused (code n place top b (pick n t (laid n a Nothing t).top) (To None m))) p, hb.held (pick n t (laid n a Nothing t).top) m w fw (from t p)))
