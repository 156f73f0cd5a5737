-- The code of expressions is made of ordinary instructions, where what follows it is.
use Rattle.std.proofs.Common.{◌≡◌, ℕ, ◌+◌, Bool, true, false, Option, Some, None, refl, if◌then◌else◌}
use Rattle.std.specs.Prelude.{not}
use Rattle.c_tree.specs.declared.types.IntegerType.{IntegerType}
use Rattle.c_tree.specs.declared.object_type.Scalar.{Scalar}
use Rattle.c_tree.specs.declared.typed_expression.Sign.TheVariants.{Plus, Minus, Complement}
use Rattle.c_tree.specs.declared.typed_expression.Direction.TheVariants.{Up}
use Rattle.c_tree.specs.declared.typed_expression.Given.{Given}
use Rattle.c_tree.specs.declared.typed_expression.Given.TheVariants.{New, Old}
use Rattle.c_tree.specs.TypedExpressions.{RvalueTree, LvalueTree, ArgumentTrees, Constant, Null, Load, Decay, AddressOf, Convert, Discard, Signed, Not, Arithmetic, Compare, ComparePointers, Move, MoveFrom, Difference, And, Or, Conditional, Comma, Assign, Update, UpdatePointer, Step, StepPointer, Call, Named, Target, Element, ElementFrom, none, first}
use Rattle.c_type_rules.specs.Integers.{object_size}
use Rattle.c_type_rules.specs.ValueTypes.{type_of, given_by, is_void, is_pointer, integer_in}
use Rattle.word_base.specs.declared.operation.Operation.TheVariants as operation
use Rattle.graph_core.specs.Graphs as unit
use Rattle.graph_core.specs.Graphs.{Operand, Instruction, Operate, Truncate, Same, Jump}
use Rattle.graph_build_names.specs.Conversions.{unsigned_bits, keeps_bits, is_kept_constant}
use Rattle.graph_build_names.specs.Operands.{held, operand_at}
use Rattle.graph_build_layout.specs.declared.laid.Use.TheVariants.{Anywhere, Nothing, Tested}
use Rattle.graph_build_names.specs.Names.{Names, scalar_named, pick}
use Rattle.graph_build_names.specs.Writes.{writes, writes_any, is_moved, is_location_moved}
use Rattle.graph_build_layout.specs.Laid.{Pair, PlaceLaid, pair, behind_move, behind_own, use_for}
use Rattle.graph_build_layout.specs.Layout.{laid, place_laid, passed_laid}
use Rattle.graph_build_steps.specs.Rules.{element_of, truncation_to, callee_for, steps_by}
use Rattle.graph_build_steps.specs.Drafts.{Made, Goal, To, Unused, Either, use_of, ending, leaf, label_of, with_inner_block, forked, valued, used, operated, move_if, hold_location, held_location, stored, noted, called_by}
use Rattle.graph_build_steps.specs.Drafts as drafts
use Rattle.graph_build_steps.specs.declared.site.Two as declared-two
use Rattle.graph_build_steps.specs.declared.site.Two.TheVariants as two
use Rattle.graph_build_steps.specs.declared.change.Change as declared-change
use Rattle.graph_build_steps.specs.declared.change.Change.TheVariants as change
use Rattle.graph_build_steps.specs.Steps.{in_turn, signed, finished, arm_use, arm_value, arm_goal, assigned_memory, updated, stepped, renewed_scalar, renewed_memory, loaded_first, left_memory, one_at}
use Rattle.graph_build_code.specs.Code.{code, code_place, code_address, code_all}
use Rattle.image_truth_units.proofs.Ordinary.{is_ordinary, Fine, FineGoal, closed_fine}
use Rattle.image_truth_units.proofs.TimedPieces.{leaf_fine, noted_fine, valued_fine, used_fine, move_fine, stored_fine, called_fine, forked_fine, operated_fine, finished_fine, renewed_fine, memory_fine, loaded_fine, left_scalar_fine, left_memory_fine, object_fine, signed_is}

module _ (Own : ℕ → Type 0) (place top : ℕ) (own : Own place) (n : Names) where
  abbrev Is : Made → Type 0
  Is m = Fine Own m

  abbrev For : Goal → Type 0
  For g = FineGoal Own g

  abbrev IsOf : RvalueTree → Type 0
  IsOf e = (t : ℕ) (g : Goal) → For g → Is (code n place top e t g)

  abbrev AreOf : ArgumentTrees → Type 0
  AreOf all = (t : ℕ) (m : Made) → Is m → Is (code_all n place top all t m)

  record IsOfPlace (l : LvalueTree) : Type 0 where
    placed : (t : ℕ) (m : Made) → Is m → Is (code_place n place top l t m)
    address : (t : ℕ) (g : Goal) → For g → Is (code_address n place top l t g)

  turn_fine : (a b : RvalueTree) → IsOf a → IsOf b → (t : ℕ) (q : Pair) (last : Made) → Is last → Is (in_turn (code n place top a) (code n place top b) t q last)
  turn_fine a b ha hb t q last h =
      let second = code n place top b q.from (To None last) in
      let mid = move_if q.moved q.moved_to q.first second in ha t (To None mid) (move_fine Own q.moved q.moved_to q.first second (hb q.from (To None last) h))

  pair_fine : (k : declared-two.Two) (a b : RvalueTree) → IsOf a → IsOf b → (t : ℕ) (q : Pair) (g : Goal) → For g → Is (in_turn (code n place top a) (code n place top b) t q (finished n k g t q))
  pair_fine k a b ha hb t q g h = turn_fine a b ha hb t q (finished n k g t q) (finished_fine Own n k g t q h)

  load_fine : (s : Scalar) (l : LvalueTree) → IsOfPlace l → (t : ℕ) (g : Goal) → For g → (o : Option ℕ) →
      Is (elim o [
        | Some x ↦ leaf g (unit.Name x)
        | None ↦ code_place n place top l t (operated n g t (place_laid n l t).next (λ x. unit.Load x (element_of s) (place_laid n l t).location))
      ])
  load_fine s l hl t g h (Some x) = leaf_fine Own g (unit.Name x) h
  load_fine s l hl t g h None =
      let i : ℕ → Instruction = λ x. unit.Load x (element_of s) (place_laid n l t).location in
      hl.placed t (operated n g t (place_laid n l t).next i) (operated_fine Own n g t (place_laid n l t).next i (λ x. refl) h)

  convert_fine : (ty : IntegerType) (e : RvalueTree) → IsOf e → (t : ℕ) (g : Goal) → For g → (b c : Bool) →
      Is (if b then code n place top e t (valued g (laid n e Anywhere t).value) else code n place top e t (To None (if c then leaf g (laid n e Anywhere t).value else operated n g t (laid n e Anywhere t).next (λ x. Truncate x (truncation_to ty) (laid n e Anywhere t).value))))
  convert_fine ty e he t g h true c = he t (valued g (laid n e Anywhere t).value) (valued_fine Own g (laid n e Anywhere t).value h)
  convert_fine ty e he t g h false true = he t (To None (leaf g (laid n e Anywhere t).value)) (leaf_fine Own g (laid n e Anywhere t).value h)
  convert_fine ty e he t g h false false =
      let i : ℕ → Instruction = λ x. Truncate x (truncation_to ty) (laid n e Anywhere t).value in he t (To None (operated n g t (laid n e Anywhere t).next i)) (operated_fine Own n g t (laid n e Anywhere t).next i (λ x. refl) h)

  -- an operation on one value
  one_fine : (e : RvalueTree) → IsOf e → (t : ℕ) (g : Goal) (i : ℕ → Instruction) → ((x : ℕ) → is_ordinary (i x) ≡ true) → For g → Is (code n place top e t (To None (operated n g t (laid n e Anywhere t).next i)))
  one_fine e he t g i k h = he t (To None (operated n g t (laid n e Anywhere t).next i)) (operated_fine Own n g t (laid n e Anywhere t).next i k h)

  not_is : (b : Bool) (a : Operand) (x : ℕ) → is_ordinary (if b then Same x a (drafts.zero) else Operate x operation.Sltu a (unit.Constant 1)) ≡ true
  not_is true a x = refl
  not_is false a x = refl

  not_fine : (e : RvalueTree) → IsOf e → IsOf (Not e)
  not_fine e he t (Either one other inner) h = he t (Either other one inner) h
  not_fine e he t (To want m) h = one_fine e he t (To want m) (λ x. if is_pointer (type_of n.results e) then Same x (laid n e Anywhere t).value (drafts.zero) else Operate x operation.Sltu (laid n e Anywhere t).value (unit.Constant 1)) (λ x. not_is (is_pointer (type_of n.results e)) (laid n e Anywhere t).value x) h
  not_fine e he t (Unused m) h = one_fine e he t (Unused m) (λ x. if is_pointer (type_of n.results e) then Same x (laid n e Anywhere t).value (drafts.zero) else Operate x operation.Sltu (laid n e Anywhere t).value (unit.Constant 1)) (λ x. not_is (is_pointer (type_of n.results e)) (laid n e Anywhere t).value x) h

  and_fine : (a b : RvalueTree) → IsOf a → IsOf b → IsOf (And a b)
  and_fine a b ha hb t g h =
      let at = behind_own (use_of g) t in let way = forked place top g t in
      let later = pick n at (laid n a Tested at).top in
      let m = code n place top b later (Either way.one way.other way.inner) in
      ha at (Either (label_of top m) way.other (with_inner_block place m)) (closed_fine Own place own m (hb later (Either way.one way.other way.inner) (forked_fine Own place top own g t h)))

  or_fine : (a b : RvalueTree) → IsOf a → IsOf b → IsOf (Or a b)
  or_fine a b ha hb t g h =
      let at = behind_own (use_of g) t in let way = forked place top g t in
      let later = pick n at (laid n a Tested at).top in
      let m = code n place top b later (Either way.one way.other way.inner) in
      ha at (Either way.one (label_of top m) (with_inner_block place m)) (closed_fine Own place own m (hb later (Either way.one way.other way.inner) (forked_fine Own place top own g t h)))

  arm_fine : (void : Bool) (e : RvalueTree) → IsOf e → (t at : ℕ) (m : Made) → Is m → Is (code n place top e at (arm_goal void t m))
  arm_fine true e he t at m h = he at (Unused m) h
  arm_fine false e he t at m h = he at (To (Some t) m) h

  conditional_fine : (c a b : RvalueTree) → IsOf c → IsOf a → IsOf b → IsOf (Conditional c a b)
  conditional_fine c a b hc ha hb t g h =
      let void = is_void (type_of n.results a) in let at = behind_move (not void) t in
      let at_a = pick n at (laid n c Tested at).top in let at_b = pick n at (laid n a (arm_use void t) at_a).top in
      let m = leaf g (arm_value void t) in
      let join = ending (Jump (label_of top m)) (with_inner_block place m) in
      let y = code n place top b at_b (arm_goal void t join) in
      let join_a = ending (Jump (label_of top m)) (with_inner_block place y) in
      let x = code n place top a at_a (arm_goal void t join_a) in
      let fine_y = arm_fine void b hb t at_b join (tt, closed_fine Own place own m (leaf_fine Own g (arm_value void t) h)) in
      let fine_x = arm_fine void a ha t at_a join_a (tt, closed_fine Own place own y fine_y) in
      hc at (Either (label_of top x) (label_of top y) (with_inner_block place x)) (closed_fine Own place own x fine_x)

  comma_fine : (a b : RvalueTree) → IsOf a → IsOf b → IsOf (Comma a b)
  comma_fine a b ha hb t g h =
      let later = code n place top b (pick n t (laid n a Nothing t).top) g in ha t (Unused later) (hb (pick n t (laid n a Nothing t).top) g h)

  -- an assignment to memory
  assigned_fine : (g : Goal) (q : PlaceLaid) (moved : Bool) (s : Scalar) (e : RvalueTree) → IsOf e → (t : ℕ) (a : Operand) → For g → Is (code n place top e t (assigned_memory g q moved (element_of s) a))
  assigned_fine (To (Some x) m) q moved s e he t a h =
      let last = stored (element_of s) (held_location moved q.next q.location) a (To (Some x) m) in he t (To (Some x) last) (stored_fine Own (element_of s) (held_location moved q.next q.location) a (To (Some x) m) h)
  assigned_fine (To None m) q moved s e he t a h =
      let last = stored (element_of s) (held_location moved q.next q.location) a (To None m) in he t (To None last) (stored_fine Own (element_of s) (held_location moved q.next q.location) a (To None m) h)
  assigned_fine (Unused m) q moved s e he t a h =
      let last = stored (element_of s) (held_location moved q.next q.location) a (Unused m) in he t (To None last) (stored_fine Own (element_of s) (held_location moved q.next q.location) a (Unused m) h)
  assigned_fine (Either one other inner) q moved s e he t a h =
      let last = stored (element_of s) (held_location moved q.next q.location) a (Either one other inner) in
      he t (To None last) (stored_fine Own (element_of s) (held_location moved q.next q.location) a (Either one other inner) h)

  assign_fine : (s : Scalar) (l : LvalueTree) (e : RvalueTree) → IsOfPlace l → IsOf e → (t : ℕ) (g : Goal) → For g → (o : Option ℕ) →
      Is (elim o [
        | Some x ↦ code n place top e t (To (Some x) (noted x g))
        | None ↦ let q = place_laid n l t in let moved = is_location_moved (λ y. writes n y e) q.location in let from = behind_move moved q.next in
            code_place n place top l t (hold_location moved q.next q.location (code n place top e from (assigned_memory g q moved (element_of s) (laid n e (use_for None (use_of g)) from).value)))
      ])
  assign_fine s l e hl he t g h (Some x) = he t (To (Some x) (noted x g)) (noted_fine Own x g h)
  assign_fine s l e hl he t g h None =
      let q = place_laid n l t in let moved = is_location_moved (λ y. writes n y e) q.location in let from = behind_move moved q.next in
      let a = (laid n e (use_for None (use_of g)) from).value in
      let value = code n place top e from (assigned_memory g q moved (element_of s) a) in
      hl.placed t (hold_location moved q.next q.location value) (move_fine Own moved q.next (operand_at q.location) value (assigned_fine g q moved s e he from a h))

  -- `a op= b`
  update_fine : (c : declared-change.Change) (l : LvalueTree) (e : RvalueTree) → IsOfPlace l → IsOf e → (t : ℕ) (g : Goal) → For g → (o : Option ℕ) →
      Is (updated n o c (λ y. writes n y e) (place_laid n l t) t (code n place top e) (laid n e Anywhere) (code_place n place top l t) g)
  update_fine c l e hl he t g h (Some x) =
      let moved = writes n x e in let from = behind_move moved t in
      let last = renewed_scalar c x (held moved (unit.Name x) t) (laid n e Anywhere from) g in
      let value = code n place top e from (To None last) in
      move_fine Own moved t (unit.Name x) value (he from (To None last) (renewed_fine Own n c x (held moved (unit.Name x) t) (laid n e Anywhere from) g h))
  update_fine c l e hl he t g h None =
      let q = place_laid n l t in
      let moved = is_location_moved (λ y. writes n y e) q.location in let from = behind_move moved (q.next + 1) in
      let last = renewed_memory n c q moved (laid n e Anywhere from) g in
      let value = code n place top e from (To None last) in
      hl.placed t (loaded_first c q moved value) (loaded_fine Own n c q moved value (he from (To None last) (memory_fine Own n c q moved (laid n e Anywhere from) g h)))

  -- `++` and `--`
  step_fine : (c : declared-change.Change) (k : Given) (l : LvalueTree) → IsOfPlace l → (t : ℕ) (g : Goal) → For g → (o : Option ℕ) → Is (stepped n o c k (place_laid n l t) t (code_place n place top l t) g)
  step_fine c New l hl t g h (Some x) = renewed_fine Own n c x (unit.Name x) (one_at t) g h
  step_fine c New l hl t g h None =
      let q = place_laid n l t in let last = renewed_memory n c q false (one_at (q.next + 1)) g in
      hl.placed t (loaded_first c q false last) (loaded_fine Own n c q false last (memory_fine Own n c q false (one_at (q.next + 1)) g h))
  step_fine c Old l hl t g h (Some x) = left_scalar_fine Own n c x t g h
  step_fine c Old l hl t g h None = let q = place_laid n l t in hl.placed t (left_memory c q g) (left_memory_fine Own n c q g h)

  mutual
    -- The code of an expression.
    pub code_fine : (e : RvalueTree) → (t : ℕ) (g : Goal) → FineGoal Own g → Fine Own (code n place top e t g)
    code_fine (Constant z ty) t g h = leaf_fine Own g (unit.Constant (unsigned_bits z)) h
    code_fine Null t g h = leaf_fine Own g (drafts.zero) h
    code_fine (Load s l) t g h = load_fine s l (place_fine l) t g h (scalar_named n l)
    code_fine (Decay l) t g h = (place_fine l).address t g h
    code_fine (AddressOf l) t g h = (place_fine l).address t g h
    code_fine (Convert ty e) t g h = convert_fine ty e (code_fine e) t g h (keeps_bits (integer_in (type_of n.results e)) ty) (is_kept_constant ty (laid n e Anywhere t).value)
    code_fine (Discard e) t g h = code_fine e t (Unused (leaf g (drafts.zero))) (leaf_fine Own g (drafts.zero) h)
    code_fine (Signed Plus ty e) t g h = code_fine e t (valued g (laid n e Anywhere t).value) (valued_fine Own g (laid n e Anywhere t).value h)
    code_fine (Signed Minus ty e) t g h = one_fine e (code_fine e) t g (signed Minus (laid n e Anywhere t).value) (signed_is Own n Minus (laid n e Anywhere t).value) h
    code_fine (Signed Complement ty e) t g h = one_fine e (code_fine e) t g (signed Complement (laid n e Anywhere t).value) (signed_is Own n Complement (laid n e Anywhere t).value) h
    code_fine (Not e) t g h = not_fine e (code_fine e) t g h
    code_fine (Arithmetic o ty a b) t g h = pair_fine (two.Arithmetic o ty) a b (code_fine a) (code_fine b) t (pair (λ y. writes n y b) (laid n a Anywhere t) (laid n b Anywhere)) g h
    code_fine (Compare o ty a b) t g h = pair_fine (two.Compare o ty) a b (code_fine a) (code_fine b) t (pair (λ y. writes n y b) (laid n a Anywhere t) (laid n b Anywhere)) g h
    code_fine (ComparePointers o a b) t g h = pair_fine (two.ComparePointers o) a b (code_fine a) (code_fine b) t (pair (λ y. writes n y b) (laid n a Anywhere t) (laid n b Anywhere)) g h
    code_fine (Move d of a b) t g h = pair_fine (two.Move d (object_size of)) a b (code_fine a) (code_fine b) t (pair (λ y. writes n y b) (laid n a Anywhere t) (laid n b Anywhere)) g h
    code_fine (MoveFrom a of b) t g h = pair_fine (two.MoveFrom (object_size of)) a b (code_fine a) (code_fine b) t (pair (λ y. writes n y b) (laid n a Anywhere t) (laid n b Anywhere)) g h
    code_fine (Difference of a b) t g h = pair_fine (two.Difference (object_size of)) a b (code_fine a) (code_fine b) t (pair (λ y. writes n y b) (laid n a Anywhere t) (laid n b Anywhere)) g h
    code_fine (And a b) t g h = and_fine a b (code_fine a) (code_fine b) t g h
    code_fine (Or a b) t g h = or_fine a b (code_fine a) (code_fine b) t g h
    code_fine (Conditional c a b) t g h = conditional_fine c a b (code_fine c) (code_fine a) (code_fine b) t g h
    code_fine (Comma a b) t g h = comma_fine a b (code_fine a) (code_fine b) t g h
    code_fine (Assign s l e) t g h = assign_fine s l e (place_fine l) (code_fine e) t g h (scalar_named n l)
    code_fine (Update o ty v l e) t g h = update_fine (change.Integer o ty v) l e (place_fine l) (code_fine e) t g h (scalar_named n l)
    code_fine (UpdatePointer d of l e) t g h = update_fine (change.Pointer d (object_size of)) l e (place_fine l) (code_fine e) t g h (scalar_named n l)
    code_fine (Step d k ty v l) t g h = step_fine (change.Integer (steps_by d) ty v) k l (place_fine l) t g h (scalar_named n l)
    code_fine (StepPointer d k of l) t g h = step_fine (change.Pointer d (object_size of)) k l (place_fine l) t g h (scalar_named n l)
    code_fine (Call c all) t g h = (
        let q = passed_laid n all t in
        let i : Option ℕ → Instruction = λ x. unit.Call x (callee_for c) q.values in
        let last = called_by (is_void (given_by n.results c)) g (pick n t q.next) i in
        arguments_fine all t last (called_fine Own (is_void (given_by n.results c)) g (pick n t q.next) i (λ o. refl) h))

    place_fine : (l : LvalueTree) → IsOfPlace l
    place_fine (Named o of) = record { placed = λ t m h. h; address = object_fine Own n o }
    place_fine (Target of e) = record {
      placed = λ t m h. code_fine e t (To None m) h;
      address = λ t g h. code_fine e t (valued (used g) (laid n e Anywhere t).value) (valued_fine Own (used g) (laid n e Anywhere t).value (used_fine Own g h));
    }
    place_fine (Element of a b) = record {
      placed = λ t m h. pair_fine (two.Move Up (object_size of)) a b (code_fine a) (code_fine b) t (pair (λ y. writes n y b) (laid n a Anywhere t) (laid n b Anywhere)) (To None m) h;
      address = λ t g h. pair_fine (two.Move Up (object_size of)) a b (code_fine a) (code_fine b) t (pair (λ y. writes n y b) (laid n a Anywhere t) (laid n b Anywhere)) g h;
    }
    place_fine (ElementFrom of a b) = record {
      placed = λ t m h. pair_fine (two.MoveFrom (object_size of)) a b (code_fine a) (code_fine b) t (pair (λ y. writes n y b) (laid n a Anywhere t) (laid n b Anywhere)) (To None m) h;
      address = λ t g h. pair_fine (two.MoveFrom (object_size of)) a b (code_fine a) (code_fine b) t (pair (λ y. writes n y b) (laid n a Anywhere t) (laid n b Anywhere)) g h;
    }

    arguments_fine : (all : ArgumentTrees) → AreOf all
    arguments_fine none t m h = h
    arguments_fine (first e rest) t m h = (
        let r = laid n e Anywhere t in let moved = is_moved (λ y. writes_any n y rest) r.value in
        let later = code_all n place top rest (behind_move moved r.next) m in
        let mid = move_if moved r.next r.value later in
        code_fine e t (To None mid) (move_fine Own moved r.next r.value later (arguments_fine rest (behind_move moved r.next) m h)))
