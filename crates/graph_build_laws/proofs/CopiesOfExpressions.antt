-- The code of expressions copies a temporary to a scalar only where a block begins, or where it has the value that the scalar had before.
use Rattle.std.proofs.Common.{◌≡◌, ℕ, ◌+◌, ◌<◌, Bool, true, false, Option, Some, None, List, refl, if◌then◌else◌}
use Rattle.std.specs.Prelude.{not}
use Rattle.c_tree.specs.declared.types.IntegerType.{IntegerType}
use Rattle.c_tree.specs.declared.object_type.Scalar.{Scalar}
use Rattle.c_tree.specs.declared.typed_expression.Sign.TheVariants.{Plus, Minus, Complement}
use Rattle.c_tree.specs.declared.typed_expression.Direction.TheVariants.{Up}
use Rattle.c_tree.specs.declared.typed_expression.Given.{Given}
use Rattle.c_tree.specs.declared.typed_expression.Given.TheVariants.{New, Old}
use Rattle.c_tree.specs.TypedExpressions.{RvalueTree, LvalueTree, ArgumentTrees, Constant, Null, Load, Decay, AddressOf, Convert, Discard, Signed, Not, Arithmetic, Compare, ComparePointers, Move, MoveFrom, Difference, And, Or, Conditional, Comma, Assign, Update, UpdatePointer, Step, StepPointer, Call, Named, Target, Element, ElementFrom, none, first}
use Rattle.c_type_rules.specs.Integers.{object_size}
use Rattle.c_type_rules.specs.ValueTypes.{type_of, given_by, is_void, is_pointer, integer_in}
use Rattle.word_base.specs.declared.operation.Operation.TheVariants as operation
use Rattle.graph_core.specs.Graphs as unit
use Rattle.graph_core.specs.Graphs.{Operand, Instruction, Operate, Truncate, Same, Block, Jump}
use Rattle.graph_build_names.specs.Conversions.{unsigned_bits, keeps_bits, is_kept_constant}
use Rattle.graph_build_names.specs.Operands.{held}
use Rattle.graph_build_layout.specs.declared.laid.Use.TheVariants.{Anywhere, Nothing, Tested}
use Rattle.graph_build_names.specs.Names.{Names, scalar_named, pick}
use Rattle.graph_build_names.specs.Writes.{writes, writes_any, is_moved, is_location_moved}
use Rattle.graph_build_layout.specs.Laid.{Pair, PlaceLaid, pair, behind_move, behind_own, use_for}
use Rattle.graph_build_layout.specs.Layout.{laid, place_laid, passed_laid}
use Rattle.graph_build_steps.specs.Rules.{element_of, truncation_to, callee_for, steps_by}
use Rattle.graph_build_steps.specs.Drafts.{Made, Goal, To, Unused, Either, use_of, ending, leaf, label_of, with_inner_block, forked, valued, used, operated, move_if, hold_location, held_location, stored, noted, called_by}
use Rattle.graph_build_steps.specs.Drafts as drafts
use Rattle.graph_build_steps.specs.declared.site.Two as declared-two
use Rattle.graph_build_steps.specs.declared.site.Two.TheVariants as two
use Rattle.graph_build_steps.specs.declared.change.Change as declared-change
use Rattle.graph_build_steps.specs.declared.change.Change.TheVariants as change
use Rattle.graph_build_steps.specs.Steps.{in_turn, signed, finished, arm_use, arm_value, arm_goal, assigned_memory, updated, stepped, renewed_scalar, renewed_memory, loaded_first, left_memory, one_at}
use Rattle.graph_build_code.specs.Code.{code, code_place, code_address, code_all}
use Rattle.graph_build_laws.proofs.Written.{NamesFew, Few, written_few, all_few}
use Rattle.graph_build_laws.proofs.Copies.{Stays, AllMeet, IsKept, OfGoal, is_move, met, closed, ended, leaf_kept, leaf_met, noted_kept, valued_of, used_of, move_kept, hold_kept, stored_kept, called_kept, forked_meet, operated_kept, finished_kept, renewed_kept, memory_kept, loaded_kept, left_scalar_kept, left_memory_kept, object_kept}

module _ (scalars place top : ℕ) (n : Names) (few : NamesFew n scalars) where
  abbrev K : Made → Type 0
  K m = IsKept scalars m

  abbrev G : Goal → Type 0
  G g = OfGoal scalars g

  -- for each goal the code of an expression keeps what the goal keeps
  abbrev pub Keeps : RvalueTree → Type 0
  Keeps e = (t : ℕ) (g : Goal) → OfGoal scalars g → IsKept scalars (code n place top e t g)

  abbrev pub KeepsAll : ArgumentTrees → Type 0
  KeepsAll all = (t : ℕ) (m : Made) → IsKept scalars m → IsKept scalars (code_all n place top all t m)

  pub record KeepsPlace (l : LvalueTree) : Type 0 where
    pub placed : (t : ℕ) (m : Made) → IsKept scalars m → IsKept scalars (code_place n place top l t m)
    pub address : (t : ℕ) (g : Goal) → OfGoal scalars g → IsKept scalars (code_address n place top l t g)

  constant_stays : (a : Operand) (ty : IntegerType) → is_kept_constant ty a ≡ true → Stays scalars a
  constant_stays (unit.Constant w) ty h = tt
  constant_stays (unit.Name x) ty h = cc
  constant_stays (unit.StaticAddress o k) ty h = cc

  -- two values in turn: the first is moved where the code of the second writes it
  turn_keeps : (a b : RvalueTree) → Keeps a → Keeps b → (t : ℕ) (last : Made) → K last →
      K (in_turn (code n place top a) (code n place top b) t (pair (λ y. writes n y b) (laid n a Anywhere t) (laid n b Anywhere)) last)
  turn_keeps a b ha hb t last h =
      let q = pair (λ y. writes n y b) (laid n a Anywhere t) (laid n b Anywhere) in
      let second = code n place top b q.from (To None last) in
      ha t (To None (move_if q.moved q.moved_to q.first second)) (move_kept scalars (λ y. writes n y b) (written_few n scalars few b) (laid n a Anywhere t).next (laid n a Anywhere t).value second (hb q.from (To None last) h))

  finished_pair : (k : declared-two.Two) (a b : RvalueTree) → Keeps a → Keeps b → (t : ℕ) (g : Goal) → G g →
      K (in_turn (code n place top a) (code n place top b) t (pair (λ y. writes n y b) (laid n a Anywhere t) (laid n b Anywhere)) (finished n k g t (pair (λ y. writes n y b) (laid n a Anywhere t) (laid n b Anywhere))))
  finished_pair k a b ha hb t g h =
      let q = pair (λ y. writes n y b) (laid n a Anywhere t) (laid n b Anywhere) in turn_keeps a b ha hb t (finished n k g t q) (finished_kept scalars n k g t q h)

  load_keeps : (s : Scalar) (l : LvalueTree) → KeepsPlace l → (t : ℕ) (g : Goal) → G g → (o : Option ℕ) → scalar_named n l ≡ o →
      K (elim o as (λ p. Made) [
        | Some x ↦ leaf g (unit.Name x)
        | None ↦ code_place n place top l t (operated n g t (place_laid n l t).next (λ x. unit.Load x (element_of s) (place_laid n l t).location))
      ])
  load_keeps s l hl t g h (Some x) is = leaf_kept scalars g (unit.Name x) (few l x is) h
  load_keeps s l hl t g h None is =
      let i : ℕ → Instruction = λ x. unit.Load x (element_of s) (place_laid n l t).location in
      hl.placed t (operated n g t (place_laid n l t).next i) (operated_kept scalars n g t (place_laid n l t).next i (λ x. refl) h)

  convert_keeps : (ty : IntegerType) (e : RvalueTree) → Keeps e → (t : ℕ) (g : Goal) → G g → (b c : Bool) → is_kept_constant ty (laid n e Anywhere t).value ≡ c →
      K (if b then code n place top e t (valued g (laid n e Anywhere t).value) else code n place top e t (To None (if c then leaf g (laid n e Anywhere t).value else operated n g t (laid n e Anywhere t).next (λ x. Truncate x (truncation_to ty) (laid n e Anywhere t).value))))
  convert_keeps ty e he t g h true c is = he t (valued g (laid n e Anywhere t).value) (valued_of scalars g (laid n e Anywhere t).value h)
  convert_keeps ty e he t g h false true is = he t (To None (leaf g (laid n e Anywhere t).value)) (leaf_kept scalars g (laid n e Anywhere t).value (constant_stays (laid n e Anywhere t).value ty is) h)
  convert_keeps ty e he t g h false false is =
      let i : ℕ → Instruction = λ x. Truncate x (truncation_to ty) (laid n e Anywhere t).value in
      he t (To None (operated n g t (laid n e Anywhere t).next i)) (operated_kept scalars n g t (laid n e Anywhere t).next i (λ x. refl) h)

  -- an operation on one value
  one_keeps : (e : RvalueTree) → Keeps e → (t : ℕ) (g : Goal) → G g → (i : ℕ → Instruction) → ((x : ℕ) → is_move (i x) ≡ false) → K (code n place top e t (To None (operated n g t (laid n e Anywhere t).next i)))
  one_keeps e he t g h i plain = he t (To None (operated n g t (laid n e Anywhere t).next i)) (operated_kept scalars n g t (laid n e Anywhere t).next i plain h)

  not_is : (b : Bool) (a : Operand) (x : ℕ) → is_move (if b then Same x a (drafts.zero) else Operate x operation.Sltu a (unit.Constant 1)) ≡ false
  not_is true a x = refl
  not_is false a x = refl

  not_keeps : (e : RvalueTree) → Keeps e → Keeps (Not e)
  not_keeps e he t (Either one other inner) h = he t (Either other one inner) h
  not_keeps e he t (To want m) h = one_keeps e he t (To want m) h (λ x. if is_pointer (type_of n.results e) then Same x (laid n e Anywhere t).value (drafts.zero) else Operate x operation.Sltu (laid n e Anywhere t).value (unit.Constant 1)) (λ x. not_is (is_pointer (type_of n.results e)) (laid n e Anywhere t).value x)
  not_keeps e he t (Unused m) h = one_keeps e he t (Unused m) h (λ x. if is_pointer (type_of n.results e) then Same x (laid n e Anywhere t).value (drafts.zero) else Operate x operation.Sltu (laid n e Anywhere t).value (unit.Constant 1)) (λ x. not_is (is_pointer (type_of n.results e)) (laid n e Anywhere t).value x)

  -- `&&`: where the right operand is tested, and else to the other way
  and_keeps : (a b : RvalueTree) → Keeps a → Keeps b → Keeps (And a b)
  and_keeps a b ha hb t g h =
      let at = behind_own (use_of g) t in let way = forked place top g t in
      let later = pick n at (laid n a Tested at).top in
      let m = code n place top b later (Either way.one way.other way.inner) in
      let kept = hb later (Either way.one way.other way.inner) (forked_meet scalars place top g t h) in
      ha at (Either (label_of top m) way.other (with_inner_block place m)) (closed scalars place m (met scalars m kept))

  or_keeps : (a b : RvalueTree) → Keeps a → Keeps b → Keeps (Or a b)
  or_keeps a b ha hb t g h =
      let at = behind_own (use_of g) t in let way = forked place top g t in
      let later = pick n at (laid n a Tested at).top in
      let m = code n place top b later (Either way.one way.other way.inner) in
      let kept = hb later (Either way.one way.other way.inner) (forked_meet scalars place top g t h) in
      ha at (Either way.one (label_of top m) (with_inner_block place m)) (closed scalars place m (met scalars m kept))

  arm_keeps : (void : Bool) (e : RvalueTree) → Keeps e → (t at : ℕ) (m : Made) → K m → K (code n place top e at (arm_goal void t m))
  arm_keeps true e he t at m h = he at (Unused m) h
  arm_keeps false e he t at m h = he at (To (Some t) m) h

  conditional_keeps : (c a b : RvalueTree) → Keeps c → Keeps a → Keeps b → Keeps (Conditional c a b)
  conditional_keeps c a b hc ha hb t g h =
      let void = is_void (type_of n.results a) in let at = behind_move (not void) t in
      let at_a = pick n at (laid n c Tested at).top in let at_b = pick n at (laid n a (arm_use void t) at_a).top in
      let m = leaf g (arm_value void t) in
      let joined = closed scalars place m (leaf_met scalars g (arm_value void t) h) in
      let join = ending (Jump (label_of top m)) (with_inner_block place m) in
      let y = code n place top b at_b (arm_goal void t join) in
      let kept_y = arm_keeps void b hb t at_b join (ended scalars (Jump (label_of top m)) (with_inner_block place m) joined) in
      let join_a = ending (Jump (label_of top m)) (with_inner_block place y) in
      let x = code n place top a at_a (arm_goal void t join_a) in
      let kept_x = arm_keeps void a ha t at_a join_a (ended scalars (Jump (label_of top m)) (with_inner_block place y) (closed scalars place y (met scalars y kept_y))) in
      hc at (Either (label_of top x) (label_of top y) (with_inner_block place x)) (closed scalars place x (met scalars x kept_x))

  comma_keeps : (a b : RvalueTree) → Keeps a → Keeps b → Keeps (Comma a b)
  comma_keeps a b ha hb t g h = let at = pick n t (laid n a Nothing t).top in ha t (Unused (code n place top b at g)) (hb at g h)

  -- an assignment to memory
  assigned_keeps : (g : Goal) (q : PlaceLaid) (moved : Bool) (s : Scalar) (e : RvalueTree) → Keeps e → (t : ℕ) (a : Operand) → G g → K (code n place top e t (assigned_memory g q moved (element_of s) a))
  assigned_keeps (To (Some x) m) q moved s e he t a h =
      let l = held_location moved q.next q.location in he t (To (Some x) (stored (element_of s) l a (To (Some x) m))) (stored_kept scalars (element_of s) l a (To (Some x) m) h)
  assigned_keeps (To None m) q moved s e he t a h =
      let l = held_location moved q.next q.location in he t (To None (stored (element_of s) l a (To None m))) (stored_kept scalars (element_of s) l a (To None m) h)
  assigned_keeps (Unused m) q moved s e he t a h =
      let l = held_location moved q.next q.location in he t (To None (stored (element_of s) l a (Unused m))) (stored_kept scalars (element_of s) l a (Unused m) h)
  assigned_keeps (Either one other inner) q moved s e he t a h =
      let l = held_location moved q.next q.location in
      he t (To None (stored (element_of s) l a (Either one other inner))) (stored_kept scalars (element_of s) l a (Either one other inner) h)

  assign_keeps : (s : Scalar) (l : LvalueTree) (e : RvalueTree) → KeepsPlace l → Keeps e → (t : ℕ) (g : Goal) → G g → (o : Option ℕ) → scalar_named n l ≡ o →
      K (elim o as (λ p. Made) [
        | Some x ↦ code n place top e t (To (Some x) (noted x g))
        | None ↦ let q = place_laid n l t in let moved = is_location_moved (λ y. writes n y e) q.location in let from = behind_move moved q.next in
            code_place n place top l t (hold_location moved q.next q.location (code n place top e from (assigned_memory g q moved (element_of s) (laid n e (use_for None (use_of g)) from).value)))
      ])
  assign_keeps s l e hl he t g h (Some x) is = he t (To (Some x) (noted x g)) (noted_kept scalars x g (few l x is) h)
  assign_keeps s l e hl he t g h None is =
      let q = place_laid n l t in let moved = is_location_moved (λ y. writes n y e) q.location in let from = behind_move moved q.next in
      let a = (laid n e (use_for None (use_of g)) from).value in
      let value = code n place top e from (assigned_memory g q moved (element_of s) a) in
      hl.placed t (hold_location moved q.next q.location value) (hold_kept scalars (λ y. writes n y e) (written_few n scalars few e) q.next q.location value (assigned_keeps g q moved s e he from a h))

  -- `a op= b`
  update_keeps : (c : declared-change.Change) (l : LvalueTree) (e : RvalueTree) → KeepsPlace l → Keeps e → (t : ℕ) (g : Goal) → G g → (o : Option ℕ) → scalar_named n l ≡ o →
      K (updated n o c (λ y. writes n y e) (place_laid n l t) t (code n place top e) (laid n e Anywhere) (code_place n place top l t) g)
  update_keeps c l e hl he t g h (Some x) is =
      let moved = writes n x e in let from = behind_move moved t in
      let last = renewed_scalar c x (held moved (unit.Name x) t) (laid n e Anywhere from) g in
      let value = code n place top e from (To None last) in
      move_kept scalars (λ y. writes n y e) (written_few n scalars few e) t (unit.Name x) value (he from (To None last) (renewed_kept scalars n c x (held moved (unit.Name x) t) (laid n e Anywhere from) g (few l x is) h))
  update_keeps c l e hl he t g h None is =
      let q = place_laid n l t in
      let moved = is_location_moved (λ y. writes n y e) q.location in let from = behind_move moved (q.next + 1) in
      let last = renewed_memory n c q moved (laid n e Anywhere from) g in
      let value = code n place top e from (To None last) in
      hl.placed t (loaded_first c q moved value) (loaded_kept scalars n c q moved value (hold_kept scalars (λ y. writes n y e) (written_few n scalars few e) (q.next + 1) q.location value (he from (To None last) (memory_kept scalars n c q moved (laid n e Anywhere from) g h))))

  -- `++` and `--`
  step_keeps : (c : declared-change.Change) (k : Given) (l : LvalueTree) → KeepsPlace l → (t : ℕ) (g : Goal) → G g → (o : Option ℕ) → scalar_named n l ≡ o → K (stepped n o c k (place_laid n l t) t (code_place n place top l t) g)
  step_keeps c New l hl t g h (Some x) is = renewed_kept scalars n c x (unit.Name x) (one_at t) g (few l x is) h
  step_keeps c New l hl t g h None is =
      let q = place_laid n l t in let last = renewed_memory n c q false (one_at (q.next + 1)) g in
      hl.placed t (loaded_first c q false last) (loaded_kept scalars n c q false last (memory_kept scalars n c q false (one_at (q.next + 1)) g h))
  step_keeps c Old l hl t g h (Some x) is = left_scalar_kept scalars n c x t g (few l x is) h
  step_keeps c Old l hl t g h None is = let q = place_laid n l t in hl.placed t (left_memory c q g) (left_memory_kept scalars n c q g h)

  mutual
    pub code_keeps : (e : RvalueTree) → Keeps e
    code_keeps (Constant z ty) t g h = leaf_kept scalars g (unit.Constant (unsigned_bits z)) tt h
    code_keeps Null t g h = leaf_kept scalars g (drafts.zero) tt h
    code_keeps (Load s l) t g h = load_keeps s l (place_keeps l) t g h (scalar_named n l) refl
    code_keeps (Decay l) t g h = (place_keeps l).address t g h
    code_keeps (AddressOf l) t g h = (place_keeps l).address t g h
    code_keeps (Convert ty e) t g h = convert_keeps ty e (code_keeps e) t g h (keeps_bits (integer_in (type_of n.results e)) ty) (is_kept_constant ty (laid n e Anywhere t).value) refl
    code_keeps (Discard e) t g h = code_keeps e t (Unused (leaf g (drafts.zero))) (leaf_kept scalars g (drafts.zero) tt h)
    code_keeps (Signed Plus ty e) t g h = code_keeps e t (valued g (laid n e Anywhere t).value) (valued_of scalars g (laid n e Anywhere t).value h)
    code_keeps (Signed Minus ty e) t g h = one_keeps e (code_keeps e) t g h (signed Minus (laid n e Anywhere t).value) (λ x. refl)
    code_keeps (Signed Complement ty e) t g h = one_keeps e (code_keeps e) t g h (signed Complement (laid n e Anywhere t).value) (λ x. refl)
    code_keeps (Not e) t g h = not_keeps e (code_keeps e) t g h
    code_keeps (Arithmetic o ty a b) t g h = finished_pair (two.Arithmetic o ty) a b (code_keeps a) (code_keeps b) t g h
    code_keeps (Compare o ty a b) t g h = finished_pair (two.Compare o ty) a b (code_keeps a) (code_keeps b) t g h
    code_keeps (ComparePointers o a b) t g h = finished_pair (two.ComparePointers o) a b (code_keeps a) (code_keeps b) t g h
    code_keeps (Move d of a b) t g h = finished_pair (two.Move d (object_size of)) a b (code_keeps a) (code_keeps b) t g h
    code_keeps (MoveFrom a of b) t g h = finished_pair (two.MoveFrom (object_size of)) a b (code_keeps a) (code_keeps b) t g h
    code_keeps (Difference of a b) t g h = finished_pair (two.Difference (object_size of)) a b (code_keeps a) (code_keeps b) t g h
    code_keeps (And a b) t g h = and_keeps a b (code_keeps a) (code_keeps b) t g h
    code_keeps (Or a b) t g h = or_keeps a b (code_keeps a) (code_keeps b) t g h
    code_keeps (Conditional c a b) t g h = conditional_keeps c a b (code_keeps c) (code_keeps a) (code_keeps b) t g h
    code_keeps (Comma a b) t g h = comma_keeps a b (code_keeps a) (code_keeps b) t g h
    code_keeps (Assign s l e) t g h = assign_keeps s l e (place_keeps l) (code_keeps e) t g h (scalar_named n l) refl
    code_keeps (Update o ty v l e) t g h = update_keeps (change.Integer o ty v) l e (place_keeps l) (code_keeps e) t g h (scalar_named n l) refl
    code_keeps (UpdatePointer d of l e) t g h = update_keeps (change.Pointer d (object_size of)) l e (place_keeps l) (code_keeps e) t g h (scalar_named n l) refl
    code_keeps (Step d k ty v l) t g h = step_keeps (change.Integer (steps_by d) ty v) k l (place_keeps l) t g h (scalar_named n l) refl
    code_keeps (StepPointer d k of l) t g h = step_keeps (change.Pointer d (object_size of)) k l (place_keeps l) t g h (scalar_named n l) refl
    code_keeps (Call c all) t g h = (
        let q = passed_laid n all t in
        let i : Option ℕ → Instruction = λ x. unit.Call x (callee_for c) q.values in
        arguments_keep all t (called_by (is_void (given_by n.results c)) g (pick n t q.next) i) (called_kept scalars (is_void (given_by n.results c)) g (pick n t q.next) i (λ o. refl) h))

    pub place_keeps : (l : LvalueTree) → KeepsPlace l
    place_keeps (Named o of) = record { placed = λ t m h. h; address = object_kept scalars n o }
    place_keeps (Target of e) = record {
      placed = λ t m h. code_keeps e t (To None m) h;
      address = λ t g h. code_keeps e t (valued (used g) (laid n e Anywhere t).value) (valued_of scalars (used g) (laid n e Anywhere t).value (used_of scalars g h));
    }
    place_keeps (Element of a b) = record {
      placed = λ t m h. finished_pair (two.Move Up (object_size of)) a b (code_keeps a) (code_keeps b) t (To None m) h;
      address = λ t g h. finished_pair (two.Move Up (object_size of)) a b (code_keeps a) (code_keeps b) t g h;
    }
    place_keeps (ElementFrom of a b) = record {
      placed = λ t m h. finished_pair (two.MoveFrom (object_size of)) a b (code_keeps a) (code_keeps b) t (To None m) h;
      address = λ t g h. finished_pair (two.MoveFrom (object_size of)) a b (code_keeps a) (code_keeps b) t g h;
    }

    pub arguments_keep : (all : ArgumentTrees) → KeepsAll all
    arguments_keep none t m h = h
    arguments_keep (first e rest) t m h = (
        let r = laid n e Anywhere t in let moved = is_moved (λ y. writes_any n y rest) r.value in
        let later = code_all n place top rest (behind_move moved r.next) m in
        code_keeps e t (To None (move_if moved r.next r.value later)) (move_kept scalars (λ y. writes_any n y rest) (all_few n scalars few rest) r.next r.value later (arguments_keep rest (behind_move moved r.next) m h)))
