-- How many inner blocks the code of an expression has.
use Rattle.std.proofs.Common.{◌≡◌, ℕ, ◌+◌, ◌*◌, ◌≤◌, Bool, true, false, Option, Some, None, List, length, refl, sym, ap, ◌∙◌, subst, arith, if◌then◌else◌}
use Rattle.std.specs.Prelude.{not}
use Rattle.c_tree.specs.declared.types.IntegerType.{IntegerType}
use Rattle.c_tree.specs.declared.object_type.Scalar.{Scalar}
use Rattle.c_tree.specs.declared.typed_expression.Sign.TheVariants.{Plus, Minus, Complement}
use Rattle.c_tree.specs.declared.typed_expression.Direction.TheVariants.{Up}
use Rattle.c_tree.specs.declared.typed_expression.Given.{Given}
use Rattle.c_tree.specs.declared.typed_expression.Given.TheVariants.{New, Old}
use Rattle.c_tree.specs.TypedExpressions.{RvalueTree, LvalueTree, ArgumentTrees, Constant, Null, Load, Decay, AddressOf, Convert, Discard, Signed, Not, Arithmetic, Compare, ComparePointers, Move, MoveFrom, Difference, And, Or, Conditional, Comma, Assign, Update, UpdatePointer, Step, StepPointer, Call, Named, Target, Element, ElementFrom, none, first}
use Rattle.c_type_rules.specs.Integers.{object_size}
use Rattle.c_type_laws.specs.Nodes.{nodes, place_nodes, argument_nodes}
use Rattle.c_type_rules.specs.ValueTypes.{type_of, given_by, is_void, is_pointer, integer_in}
use Rattle.word_base.specs.declared.operation.Operation.TheVariants as operation
use Rattle.graph_core.specs.Graphs as unit
use Rattle.graph_core.specs.Graphs.{Operand, Instruction, Operate, Truncate, Same, Block, Jump}
use Rattle.graph_build_names.specs.Conversions.{unsigned_bits, keeps_bits, is_kept_constant}
use Rattle.graph_build_names.specs.Operands.{held, operand_at}
use Rattle.graph_build_layout.specs.declared.laid.Use.TheVariants.{Anywhere, Nothing, Tested}
use Rattle.graph_build_names.specs.Inner.{inner, inner_within, inner_of, for_truth}
use Rattle.graph_build_names.specs.Names.{Names, scalar_named, pick}
use Rattle.graph_build_names.specs.Writes.{writes, writes_any, is_moved, is_location_moved}
use Rattle.graph_build_layout.specs.Laid.{Pair, PlaceLaid, pair, behind_move, behind_own, use_for}
use Rattle.graph_build_layout.specs.Layout.{laid, place_laid, passed_laid}
use Rattle.graph_build_steps.specs.Rules.{element_of, truncation_to, callee_for, steps_by}
use Rattle.graph_build_steps.specs.Drafts.{Made, Goal, To, Unused, Either, use_of, ending, leaf, label_of, with_inner_block, forked, valued, used, operated, move_if, hold_location, held_location, stored, noted, called_by}
use Rattle.graph_build_steps.specs.Drafts as drafts
use Rattle.graph_build_steps.specs.declared.site.Two as declared-two
use Rattle.graph_build_steps.specs.declared.site.Two.TheVariants as two
use Rattle.graph_build_steps.specs.declared.change.Change as declared-change
use Rattle.graph_build_steps.specs.declared.change.Change.TheVariants as change
use Rattle.graph_build_steps.specs.Steps.{in_turn, signed, finished, arm_use, arm_value, arm_goal, assigned_memory, updated, stepped, renewed_scalar, renewed_memory, loaded_first, left_memory, one_at}
use Rattle.graph_build_code.specs.Code.{code, code_place, code_address, code_all}
use Rattle.graph_build_laws.proofs.InnerPieces.{goal_inner, is_tested, closed_length, leaf_inner, valued_inner, used_inner, move_inner, stored_inner, called_inner, forked_inner, operated_inner, finished_inner, renewed_inner, memory_inner, loaded_inner, left_scalar_inner, left_memory_inner, object_inner}

module _ (n : Names) (place top : ℕ) where
  -- an expression's code has so many inner blocks more than what it is for
  abbrev pub HasInner : RvalueTree → Type 0
  HasInner e = (t : ℕ) (g : Goal) → length (code n place top e t g).inner ≡ goal_inner g + inner (is_tested g) e

  pub record PlaceHasInner (l : LvalueTree) : Type 0 where
    pub placed : (t : ℕ) (m : Made) → length (code_place n place top l t m).inner ≡ length m.inner + inner_within l
    pub address : (t : ℕ) (g : Goal) → length (code_address n place top l t g).inner ≡ goal_inner g + inner_within l

  abbrev pub AllHaveInner : ArgumentTrees → Type 0
  AllHaveInner all = (t : ℕ) (m : Made) → length (code_all n place top all t m).inner ≡ length m.inner + inner_of all

  turn_inner : (a b : RvalueTree) → HasInner a → HasInner b → (t : ℕ) (q : Pair) (last : Made) → length (in_turn (code n place top a) (code n place top b) t q last).inner ≡ length last.inner + (inner false a + inner false b)
  turn_inner a b ha hb t q last =
      let second = code n place top b q.from (To None last) in
      omega (arith, ha t (To None (move_if q.moved q.moved_to q.first second)), move_inner q.moved q.moved_to q.first second, hb q.from (To None last))

  pair_inner : (k : declared-two.Two) (a b : RvalueTree) → HasInner a → HasInner b → (t : ℕ) (q : Pair) (g : Goal) → length (in_turn (code n place top a) (code n place top b) t q (finished n k g t q)).inner ≡ goal_inner g + (inner false a + inner false b)
  pair_inner k a b ha hb t q g = omega (arith, turn_inner a b ha hb t q (finished n k g t q), finished_inner n k g t q)

  load_inner : (s : Scalar) (l : LvalueTree) → PlaceHasInner l → (none_within : (x : ℕ) → scalar_named n l ≡ Some x → inner_within l ≡ 0) → (t : ℕ) (g : Goal) → (o : Option ℕ) → scalar_named n l ≡ o →
      length (elim o as (λ p. Made) [
        | Some x ↦ leaf g (unit.Name x)
        | None ↦ code_place n place top l t (operated n g t (place_laid n l t).next (λ x. unit.Load x (element_of s) (place_laid n l t).location))
      ]).inner ≡ goal_inner g + inner_within l
  load_inner s l h z t g (Some x) e = omega (arith, leaf_inner g (unit.Name x), z x e)
  load_inner s l h z t g None e =
      let i : ℕ → Instruction = λ x. unit.Load x (element_of s) (place_laid n l t).location in
      omega (arith, h.placed t (operated n g t (place_laid n l t).next i), operated_inner n g t (place_laid n l t).next i)

  -- a scalar's name has no inner blocks
  named_none : (l : LvalueTree) (x : ℕ) → scalar_named n l ≡ Some x → inner_within l ≡ 0
  named_none (Named o of) x e = refl
  named_none (Target of p) x e = cc
  named_none (Element of a b) x e = cc
  named_none (ElementFrom of a b) x e = cc

  convert_inner : (ty : IntegerType) (e : RvalueTree) → HasInner e → (t : ℕ) (g : Goal) → (b c : Bool) →
      length (if b then code n place top e t (valued g (laid n e Anywhere t).value) else code n place top e t (To None (if c then leaf g (laid n e Anywhere t).value else operated n g t (laid n e Anywhere t).next (λ x. Truncate x (truncation_to ty) (laid n e Anywhere t).value)))).inner ≡ goal_inner g + inner false e
  convert_inner ty e h t g true c =
      let v = valued_inner g (laid n e Anywhere t).value in
      subst (λ q. length (code n place top e t (valued g (laid n e Anywhere t).value)).inner ≡ goal_inner g + inner q e) v.1
      (subst (λ k. length (code n place top e t (valued g (laid n e Anywhere t).value)).inner ≡ k + inner (is_tested (valued g (laid n e Anywhere t).value)) e) v.0 (h t (valued g (laid n e Anywhere t).value)))
  convert_inner ty e h t g false true = omega (arith, h t (To None (leaf g (laid n e Anywhere t).value)), leaf_inner g (laid n e Anywhere t).value)
  convert_inner ty e h t g false false =
      let i : ℕ → Instruction = λ x. Truncate x (truncation_to ty) (laid n e Anywhere t).value in
      omega (arith, h t (To None (operated n g t (laid n e Anywhere t).next i)), operated_inner n g t (laid n e Anywhere t).next i)

  one_inner : (e : RvalueTree) → HasInner e → (t : ℕ) (g : Goal) (i : ℕ → Instruction) → length (code n place top e t (To None (operated n g t (laid n e Anywhere t).next i))).inner ≡ goal_inner g + inner false e
  one_inner e h t g i = omega (arith, h t (To None (operated n g t (laid n e Anywhere t).next i)), operated_inner n g t (laid n e Anywhere t).next i)

  not_inner : (e : RvalueTree) → HasInner e → HasInner (Not e)
  not_inner e h t (Either one other blocks) = h t (Either other one blocks)
  not_inner e h t (To want m) = one_inner e h t (To want m) (λ x. if is_pointer (type_of n.results e) then Same x (laid n e Anywhere t).value (drafts.zero) else Operate x operation.Sltu (laid n e Anywhere t).value (unit.Constant 1))
  not_inner e h t (Unused m) = one_inner e h t (Unused m) (λ x. if is_pointer (type_of n.results e) then Same x (laid n e Anywhere t).value (drafts.zero) else Operate x operation.Sltu (laid n e Anywhere t).value (unit.Constant 1))

  both_inner : (a b : RvalueTree) → HasInner a → HasInner b → (g : Goal) (t at later one_a other_a : ℕ) →
      length (code n place top a at (Either one_a other_a (with_inner_block place (code n place top b later (Either (forked place top g t).one (forked place top g t).other (forked place top g t).inner))))).inner ≡ goal_inner g + (inner true a + (inner true b + for_truth (is_tested g)))
  both_inner a b ha hb g t at later one_a other_a =
      let way = forked place top g t in
      let m = code n place top b later (Either way.one way.other way.inner) in
      omega (arith, ha at (Either one_a other_a (with_inner_block place m)), closed_length place m, hb later (Either way.one way.other way.inner), forked_inner place top g t)

  arm_inner : (void : Bool) (e : RvalueTree) → HasInner e → (t at : ℕ) (m : Made) → length (code n place top e at (arm_goal void t m)).inner ≡ length m.inner + inner false e
  arm_inner true e h t at m = h at (Unused m)
  arm_inner false e h t at m = h at (To (Some t) m)

  conditional_inner : (c a b : RvalueTree) → HasInner c → HasInner a → HasInner b → HasInner (Conditional c a b)
  conditional_inner c a b hc ha hb t g =
      let void = is_void (type_of n.results a) in let at = behind_move (not void) t in
      let at_a = pick n at (laid n c Tested at).top in let at_b = pick n at (laid n a (arm_use void t) at_a).top in
      let m = leaf g (arm_value void t) in
      let join = ending (Jump (label_of top m)) (with_inner_block place m) in
      let y = code n place top b at_b (arm_goal void t join) in
      let join_a = ending (Jump (label_of top m)) (with_inner_block place y) in
      let x = code n place top a at_a (arm_goal void t join_a) in
      omega (arith, hc at (Either (label_of top x) (label_of top y) (with_inner_block place x)), closed_length place x, arm_inner void a ha t at_a join_a, closed_length place y, arm_inner void b hb t at_b join, closed_length place m, leaf_inner g (arm_value void t))

  assigned_inner : (g : Goal) (q : PlaceLaid) (moved : Bool) (s : Scalar) (e : RvalueTree) → HasInner e → (t : ℕ) (a : Operand) → length (code n place top e t (assigned_memory g q moved (element_of s) a)).inner ≡ goal_inner g + inner false e
  assigned_inner (To (Some x) m) q moved s e h t a = h t (To (Some x) (stored (element_of s) (held_location moved q.next q.location) a (To (Some x) m)))
  assigned_inner (To None m) q moved s e h t a = h t (To None (stored (element_of s) (held_location moved q.next q.location) a (To None m)))
  assigned_inner (Unused m) q moved s e h t a = h t (To None (stored (element_of s) (held_location moved q.next q.location) a (Unused m)))
  assigned_inner (Either one other blocks) q moved s e h t a = h t (To None (stored (element_of s) (held_location moved q.next q.location) a (Either one other blocks)))

  assign_inner : (s : Scalar) (l : LvalueTree) (e : RvalueTree) → PlaceHasInner l → HasInner e → (t : ℕ) (g : Goal) → (o : Option ℕ) → scalar_named n l ≡ o →
      length (elim o as (λ p. Made) [
        | Some x ↦ code n place top e t (To (Some x) (noted x g))
        | None ↦ let q = place_laid n l t in let moved = is_location_moved (λ y. writes n y e) q.location in let from = behind_move moved q.next in
            code_place n place top l t (hold_location moved q.next q.location (code n place top e from (assigned_memory g q moved (element_of s) (laid n e (use_for None (use_of g)) from).value)))
      ]).inner ≡ goal_inner g + (inner_within l + inner false e)
  assign_inner s l e hl he t g (Some x) is = omega (arith, he t (To (Some x) (noted x g)), leaf_inner g (unit.Name x), named_none l x is)
  assign_inner s l e hl he t g None is =
      let q = place_laid n l t in let moved = is_location_moved (λ y. writes n y e) q.location in let from = behind_move moved q.next in
      let a = (laid n e (use_for None (use_of g)) from).value in
      let value = code n place top e from (assigned_memory g q moved (element_of s) a) in
      omega (arith, hl.placed t (hold_location moved q.next q.location value), move_inner moved q.next (operand_at q.location) value, assigned_inner g q moved s e he from a)

  update_inner : (c : declared-change.Change) (l : LvalueTree) (e : RvalueTree) → PlaceHasInner l → HasInner e → (t : ℕ) (g : Goal) → (o : Option ℕ) → scalar_named n l ≡ o →
      length (updated n o c (λ y. writes n y e) (place_laid n l t) t (code n place top e) (laid n e Anywhere) (code_place n place top l t) g).inner ≡ goal_inner g + (inner_within l + inner false e)
  update_inner c l e hl he t g (Some x) is =
      let moved = writes n x e in let from = behind_move moved t in
      let last = renewed_scalar c x (held moved (unit.Name x) t) (laid n e Anywhere from) g in
      omega (arith, move_inner moved t (unit.Name x) (code n place top e from (To None last)), he from (To None last), renewed_inner n c x (held moved (unit.Name x) t) (laid n e Anywhere from) g, named_none l x is)
  update_inner c l e hl he t g None is =
      let q = place_laid n l t in
      let moved = is_location_moved (λ y. writes n y e) q.location in let from = behind_move moved (q.next + 1) in
      let last = renewed_memory n c q moved (laid n e Anywhere from) g in
      let value = code n place top e from (To None last) in
      omega (arith, hl.placed t (loaded_first c q moved value), loaded_inner n c q moved value, he from (To None last), memory_inner n c q moved (laid n e Anywhere from) g)

  step_inner : (c : declared-change.Change) (k : Given) (l : LvalueTree) → PlaceHasInner l → (t : ℕ) (g : Goal) → (o : Option ℕ) → scalar_named n l ≡ o →
      length (stepped n o c k (place_laid n l t) t (code_place n place top l t) g).inner ≡ goal_inner g + inner_within l
  step_inner c New l h t g (Some x) is = omega (arith, renewed_inner n c x (unit.Name x) (one_at t) g, named_none l x is)
  step_inner c New l h t g None is =
      let q = place_laid n l t in let last = renewed_memory n c q false (one_at (q.next + 1)) g in
      omega (arith, h.placed t (loaded_first c q false last), loaded_inner n c q false last, memory_inner n c q false (one_at (q.next + 1)) g)
  step_inner c Old l h t g (Some x) is = omega (arith, left_scalar_inner n c x t g, named_none l x is)
  step_inner c Old l h t g None is = let q = place_laid n l t in omega (arith, h.placed t (left_memory c q g), left_memory_inner n c q g)

  used_address : (e : RvalueTree) → HasInner e → (t : ℕ) (g : Goal) → length (code n place top e t (valued (used g) (laid n e Anywhere t).value)).inner ≡ goal_inner g + inner false e
  used_address e h t g = subst (λ k. length (code n place top e t (valued (used g) (laid n e Anywhere t).value)).inner ≡ k + inner false e) (used_inner g) (convert_inner (Rattle.c_tree.specs.declared.types.IntegerType.TheVariants.Int) e h t (used g) true true)

  mutual
    pub code_inner : (e : RvalueTree) → HasInner e
    code_inner (Constant z ty) t g = omega (arith, leaf_inner g (unit.Constant (unsigned_bits z)))
    code_inner Null t g = omega (arith, leaf_inner g (drafts.zero))
    code_inner (Load s l) t g = load_inner s l (place_inner l) (named_none l) t g (scalar_named n l) refl
    code_inner (Decay l) t g = (place_inner l).address t g
    code_inner (AddressOf l) t g = (place_inner l).address t g
    code_inner (Convert ty e) t g = convert_inner ty e (code_inner e) t g (keeps_bits (integer_in (type_of n.results e)) ty) (is_kept_constant ty (laid n e Anywhere t).value)
    code_inner (Discard e) t g = omega (arith, code_inner e t (Unused (leaf g (drafts.zero))), leaf_inner g (drafts.zero))
    code_inner (Signed Plus ty e) t g = convert_inner ty e (code_inner e) t g true true
    code_inner (Signed Minus ty e) t g = one_inner e (code_inner e) t g (signed Minus (laid n e Anywhere t).value)
    code_inner (Signed Complement ty e) t g = one_inner e (code_inner e) t g (signed Complement (laid n e Anywhere t).value)
    code_inner (Not e) t g = not_inner e (code_inner e) t g
    code_inner (Arithmetic o ty a b) t g = pair_inner (two.Arithmetic o ty) a b (code_inner a) (code_inner b) t (pair (λ y. writes n y b) (laid n a Anywhere t) (laid n b Anywhere)) g
    code_inner (Compare o ty a b) t g = pair_inner (two.Compare o ty) a b (code_inner a) (code_inner b) t (pair (λ y. writes n y b) (laid n a Anywhere t) (laid n b Anywhere)) g
    code_inner (ComparePointers o a b) t g = pair_inner (two.ComparePointers o) a b (code_inner a) (code_inner b) t (pair (λ y. writes n y b) (laid n a Anywhere t) (laid n b Anywhere)) g
    code_inner (Move d of a b) t g = pair_inner (two.Move d (object_size of)) a b (code_inner a) (code_inner b) t (pair (λ y. writes n y b) (laid n a Anywhere t) (laid n b Anywhere)) g
    code_inner (MoveFrom a of b) t g = pair_inner (two.MoveFrom (object_size of)) a b (code_inner a) (code_inner b) t (pair (λ y. writes n y b) (laid n a Anywhere t) (laid n b Anywhere)) g
    code_inner (Difference of a b) t g = pair_inner (two.Difference (object_size of)) a b (code_inner a) (code_inner b) t (pair (λ y. writes n y b) (laid n a Anywhere t) (laid n b Anywhere)) g
    code_inner (And a b) t g = (
        let at = behind_own (use_of g) t in let later = pick n at (laid n a Tested at).top in
        let way = forked place top g t in
        let m = code n place top b later (Either way.one way.other way.inner) in
        both_inner a b (code_inner a) (code_inner b) g t at later (label_of top m) way.other)
    code_inner (Or a b) t g = (
        let at = behind_own (use_of g) t in let later = pick n at (laid n a Tested at).top in
        let way = forked place top g t in
        let m = code n place top b later (Either way.one way.other way.inner) in
        both_inner a b (code_inner a) (code_inner b) g t at later way.one (label_of top m))
    code_inner (Conditional c a b) t g = conditional_inner c a b (code_inner c) (code_inner a) (code_inner b) t g
    code_inner (Comma a b) t g = omega (arith, code_inner a t (Unused (code n place top b (pick n t (laid n a Nothing t).top) g)), code_inner b (pick n t (laid n a Nothing t).top) g)
    code_inner (Assign s l e) t g = assign_inner s l e (place_inner l) (code_inner e) t g (scalar_named n l) refl
    code_inner (Update o ty v l e) t g = update_inner (change.Integer o ty v) l e (place_inner l) (code_inner e) t g (scalar_named n l) refl
    code_inner (UpdatePointer d of l e) t g = update_inner (change.Pointer d (object_size of)) l e (place_inner l) (code_inner e) t g (scalar_named n l) refl
    code_inner (Step d k ty v l) t g = step_inner (change.Integer (steps_by d) ty v) k l (place_inner l) t g (scalar_named n l) refl
    code_inner (StepPointer d k of l) t g = step_inner (change.Pointer d (object_size of)) k l (place_inner l) t g (scalar_named n l) refl
    code_inner (Call c all) t g = (
        let q = passed_laid n all t in
        let i : Option ℕ → Instruction = λ x. unit.Call x (callee_for c) q.values in
        omega (arith, arguments_inner all t (called_by (is_void (given_by n.results c)) g (pick n t q.next) i), called_inner (is_void (given_by n.results c)) g (pick n t q.next) i))

    pub place_inner : (l : LvalueTree) → PlaceHasInner l
    place_inner (Named o of) = record { placed = λ t m. omega arith; address = λ t g. omega (arith, object_inner n o t g) }
    place_inner (Target of e) = record {
      placed = λ t m. code_inner e t (To None m);
      address = λ t g. used_address e (code_inner e) t g;
    }
    place_inner (Element of a b) = record {
      placed = λ t m. pair_inner (two.Move Up (object_size of)) a b (code_inner a) (code_inner b) t (pair (λ y. writes n y b) (laid n a Anywhere t) (laid n b Anywhere)) (To None m);
      address = λ t g. pair_inner (two.Move Up (object_size of)) a b (code_inner a) (code_inner b) t (pair (λ y. writes n y b) (laid n a Anywhere t) (laid n b Anywhere)) g;
    }
    place_inner (ElementFrom of a b) = record {
      placed = λ t m. pair_inner (two.MoveFrom (object_size of)) a b (code_inner a) (code_inner b) t (pair (λ y. writes n y b) (laid n a Anywhere t) (laid n b Anywhere)) (To None m);
      address = λ t g. pair_inner (two.MoveFrom (object_size of)) a b (code_inner a) (code_inner b) t (pair (λ y. writes n y b) (laid n a Anywhere t) (laid n b Anywhere)) g;
    }

    pub arguments_inner : (all : ArgumentTrees) → AllHaveInner all
    arguments_inner none t m = omega arith
    arguments_inner (first e rest) t m = (
        let r = laid n e Anywhere t in let moved = is_moved (λ y. writes_any n y rest) r.value in
        let later = code_all n place top rest (behind_move moved r.next) m in
        omega (arith, code_inner e t (To None (move_if moved r.next r.value later)), move_inner moved r.next r.value later, arguments_inner rest (behind_move moved r.next) m))

truth_most : (q : Bool) → for_truth q ≤ 4
truth_most true = omega arith
truth_most false = omega arith

-- three inner blocks at most for each node but one
mutual
  pub inner_most : (e : RvalueTree) (q : Bool) → inner q e + 3 ≤ 3 * nodes e
  inner_most (Constant z ty) q = omega arith
  inner_most Null q = omega arith
  inner_most (Load s l) q = within_most l
  inner_most (Decay l) q = within_most l
  inner_most (AddressOf l) q = omega (arith, within_most l)
  inner_most (Convert ty e) q = inner_most e false
  inner_most (Discard e) q = omega (arith, inner_most e false)
  inner_most (Signed o ty e) q = omega (arith, inner_most e false)
  inner_most (Not e) q = omega (arith, inner_most e q)
  inner_most (Arithmetic o ty a b) q = omega (arith, inner_most a false, inner_most b false)
  inner_most (Compare o ty a b) q = omega (arith, inner_most a false, inner_most b false)
  inner_most (ComparePointers o a b) q = omega (arith, inner_most a false, inner_most b false)
  inner_most (Move d of a b) q = omega (arith, inner_most a false, inner_most b false)
  inner_most (MoveFrom b of a) q = omega (arith, inner_most b false, inner_most a false)
  inner_most (Difference of a b) q = omega (arith, inner_most a false, inner_most b false)
  inner_most (And a b) q = omega (arith, inner_most a true, inner_most b true, truth_most q)
  inner_most (Or a b) q = omega (arith, inner_most a true, inner_most b true, truth_most q)
  inner_most (Conditional c a b) q = omega (arith, inner_most c true, inner_most a false, inner_most b false)
  inner_most (Comma a b) q = omega (arith, inner_most a false, inner_most b q)
  inner_most (Assign s l e) q = omega (arith, within_most l, inner_most e false)
  inner_most (Update o ty v l e) q = omega (arith, within_most l, inner_most e false)
  inner_most (UpdatePointer d of l e) q = omega (arith, within_most l, inner_most e false)
  inner_most (Step d k ty v l) q = omega (arith, within_most l)
  inner_most (StepPointer d k of l) q = omega (arith, within_most l)
  inner_most (Call c all) q = omega (arith, all_most all)

  within_most : (l : LvalueTree) → inner_within l + 3 ≤ 3 * place_nodes l
  within_most (Named o of) = omega arith
  within_most (Target of e) = omega (arith, inner_most e false)
  within_most (Element of a b) = omega (arith, inner_most a false, inner_most b false)
  within_most (ElementFrom of a b) = omega (arith, inner_most a false, inner_most b false)

  all_most : (all : ArgumentTrees) → inner_of all ≤ 3 * argument_nodes all
  all_most none = omega arith
  all_most (first e rest) = omega (arith, inner_most e false, all_most rest)
