-- The code of an expression has at most two instructions for each node.
use Rattle.std.proofs.Common.{◌≡◌, ℕ, ◌+◌, ◌*◌, ◌≤◌, Bool, true, false, Option, Some, None, refl, arith, if◌then◌else◌}
use Rattle.std.specs.Prelude.{max}
use Rattle.c_tree.specs.declared.types.IntegerType.{IntegerType}
use Rattle.c_tree.specs.declared.object_type.Scalar.{Scalar}
use Rattle.c_tree.specs.declared.object_type.Object.{Object}
use Rattle.c_tree.specs.declared.object_type.ObjectType.{ObjectType}
use Rattle.c_tree.specs.declared.typed_expression.Callee.{Callee}
use Rattle.c_tree.specs.declared.typed_expression.Given.{Given}
use Rattle.c_tree.specs.declared.typed_expression.Given.TheVariants.{New, Old}
use Rattle.c_tree.specs.declared.typed_expression.Direction.TheVariants.{Up}
use Rattle.c_tree.specs.TypedExpressions.{RvalueTree, LvalueTree, ArgumentTrees, Constant, Null, Load, Decay, AddressOf, Convert, Discard, Signed, Not, Arithmetic, Compare, ComparePointers, Move, MoveFrom, Difference, And, Or, Conditional, Comma, Assign, Update, UpdatePointer, Step, StepPointer, Call, Named, Target, Element, ElementFrom, none, first}
use Rattle.c_type_rules.specs.Integers.{object_size}
use Rattle.c_type_rules.specs.ValueTypes.{given_by, is_void}
use Rattle.graph_core.specs.Graphs as unit
use Rattle.graph_core.specs.Graphs.{Operand, Instruction}
use Rattle.graph_build_names.specs.Conversions.{unsigned_bits, is_narrow}
use Rattle.graph_build_names.specs.Operands.{operand_at, held as held_operand}
use Rattle.graph_build_layout.specs.declared.laid.Use.{Use}
use Rattle.graph_build_layout.specs.declared.laid.Use.TheVariants.{Anywhere, In, Nothing, Tested}
use Rattle.graph_build_names.specs.Names.{Names, scalar_named, pick}
use Rattle.graph_build_names.specs.Writes.{writes, writes_any, is_moved, is_location_moved}
use Rattle.graph_build_layout.specs.Laid.{Laid, PlaceLaid, pair, behind_move, use_for, updated_laid, called_laid, begun_behind}
use Rattle.graph_build_layout.specs.Layout.{laid, place_laid, address_laid, passed_laid, scales}
use Rattle.graph_build_steps.specs.Rules.{element_of, callee_for, steps_by}
use Rattle.graph_build_steps.specs.Drafts.{Made, Goal, To, Unused, Either, use_of, zero, leaf, label_of, valued, used, move_if, hold_location, held_location, stored, noted, assign_goal, called_by, Fork}
use Rattle.graph_build_steps.specs.declared.site.Two.TheVariants as two
use Rattle.graph_build_steps.specs.declared.change.Change as declared-change
use Rattle.graph_build_steps.specs.declared.change.Change.TheVariants as change
use Rattle.graph_build_steps.specs.Steps.{assigned_memory, updated, stepped, renewed_scalar, renewed_memory, loaded_first, left_scalar, left_memory, one_at}
use Rattle.graph_build_code.specs.Code.{code, code_place, code_address, code_all}
use Rattle.graph_build_laws.specs.Sizes.{made_counts, goal_counts}
use Rattle.c_type_laws.specs.Weighing.{weighed, weighed_place, weighed_all}
use Rattle.graph_build_laws.proofs.Temporaries.{behind, place_behind, passed_is_behind, moved_behind}
use Rattle.graph_build_laws.proofs.Written.{NamesFew, Few, all_few}
use Rattle.graph_build_laws.proofs.Pieces.{room, one_if, one_most, leaf_most, noted_most, valued_most, used_most, move_most, stored_most, called_most, renewed_most, memory_most, loaded_most, left_scalar_most, left_memory_most, object_most}
use Rattle.graph_build_laws.proofs.Held.{operation_stays, location_stays, address_stays}
use Rattle.graph_build_laws.proofs.Within.{Within, WithinPlace, WithinAll, plain, loose, writes_few, finished_pair, element_placed, within_constant, within_load, within_decay, within_address, within_convert, within_discard, within_signed, within_not, within_both, within_conditional, within_comma}

module _ (n : Names) (place top scalars : ℕ) (few : NamesFew n scalars) where
  abbrev In' : RvalueTree → Type 0
  In' e = Within n place top scalars few e

  abbrev InPlace : LvalueTree → Type 0
  InPlace l = WithinPlace n place top scalars few l

  -- what an assignment to memory is for
  assigned_most : (g : Goal) (q : PlaceLaid) (moved : Bool) (s : Scalar) (e : RvalueTree) → In' e → (t : ℕ) (a : Operand) → scalars ≤ t →
      made_counts (code n place top e t (assigned_memory g q moved (element_of s) a)) ≤ goal_counts g + 1 + 2 * weighed true e
  assigned_most (To (Some x) m) q moved s e h t a p =
      omega (arith, h.into t x (stored (element_of s) (held_location moved q.next q.location) a (To (Some x) m)) p, stored_most (element_of s) (held_location moved q.next q.location) a (To (Some x) m))
  assigned_most (To None m) q moved s e h t a p =
      omega (arith, h.passed t (stored (element_of s) (held_location moved q.next q.location) a (To None m)) (λ y. false) (λ y k. refl) p, stored_most (element_of s) (held_location moved q.next q.location) a (To None m))
  assigned_most (Unused m) q moved s e h t a p =
      omega (arith, h.passed t (stored (element_of s) (held_location moved q.next q.location) a (Unused m)) (λ y. false) (λ y k. refl) p, stored_most (element_of s) (held_location moved q.next q.location) a (Unused m))
  assigned_most (Either one other inner) q moved s e h t a p =
      omega (arith, h.passed t (stored (element_of s) (held_location moved q.next q.location) a (Either one other inner)) (λ y. false) (λ y k. refl) p, stored_most (element_of s) (held_location moved q.next q.location) a (Either one other inner))

  assign_any : (s : Scalar) (l : LvalueTree) (e : RvalueTree) → InPlace l → In' e → (t : ℕ) (g : Goal) → scalars ≤ t → (o : Option ℕ) →
      made_counts (elim o [
        | Some x ↦ code n place top e t (To (Some x) (noted x g))
        | None ↦ let q = place_laid n l t in let moved = is_location_moved (λ y. writes n y e) q.location in let from = behind_move moved q.next in
            code_place n place top l t (hold_location moved q.next q.location (code n place top e from (assigned_memory g q moved (element_of s) (laid n e (use_for None (use_of g)) from).value)))
      ]) + 2 ≤ goal_counts g + 2 * (weighed_place l + weighed true e + 1) + room g
  assign_any s l e hl he t g p (Some x) = omega (arith, he.into t x (noted x g) p, noted_most x g, hl.least)
  assign_any s l e hl he t g p None =
      let q = place_laid n l t in let moved = is_location_moved (λ y. writes n y e) q.location in let from = behind_move moved q.next in
      let a = (laid n e (use_for None (use_of g)) from).value in
      let value = code n place top e from (assigned_memory g q moved (element_of s) a) in
      let f : scalars ≤ from = omega (arith, p, (place_behind n l t).0, (moved_behind moved q.next).0) in
      omega (arith, hl.placed t (hold_location moved q.next q.location value) (λ y. false) (λ y k. refl) p, move_most moved q.next (operand_at q.location) value, one_most moved, assigned_most g q moved s e he from a f)

  within_assign : (s : Scalar) (l : LvalueTree) (e : RvalueTree) → InPlace l → In' e → In' (Assign s l e)
  within_assign s l e hl he = loose n place top scalars few (Assign s l e) refl (λ t g p. assign_any s l e hl he t g p (scalar_named n l))

  -- `a op= b`
  abbrev updating : declared-change.Change → LvalueTree → RvalueTree → (o : Option ℕ) → (t : ℕ) → Goal → Made
  updating c l e o t g = updated n o c (λ y. writes n y e) (place_laid n l t) t (code n place top e) (laid n e Anywhere) (code_place n place top l t) g

  update_scalar : (c : declared-change.Change) (l : LvalueTree) (e : RvalueTree) → InPlace l → In' e → (t : ℕ) (g : Goal) → scalars ≤ t → (x : ℕ) →
      made_counts (updating c l e (Some x) t g) + 2 ≤ goal_counts g + 2 * (weighed_place l + weighed false e + 1) + room g
  update_scalar c l e hl he t g p x =
      let moved = writes n x e in let from = behind_move moved t in
      let last = renewed_scalar c x (held_operand moved (unit.Name x) t) (laid n e Anywhere from) g in
      let f : scalars ≤ from = omega (arith, p, (moved_behind moved t).0) in
      omega (arith, move_most moved t (unit.Name x) (code n place top e from (To None last)), one_most moved, he.any from (To None last) f, renewed_most n c x (held_operand moved (unit.Name x) t) (laid n e Anywhere from) g, hl.least)

  update_memory : (c : declared-change.Change) (l : LvalueTree) (e : RvalueTree) → InPlace l → In' e → (t : ℕ) (g : Goal) → scalars ≤ t →
      made_counts (updating c l e None t g) + 1 ≤ goal_counts g + 2 * (weighed_place l + weighed false e + 1) + room g
  update_memory c l e hl he t g p =
      let q = place_laid n l t in
      let moved = is_location_moved (λ y. writes n y e) q.location in let from = behind_move moved (q.next + 1) in
      let last = renewed_memory n c q moved (laid n e Anywhere from) g in
      let value = code n place top e from (To None last) in
      let f : scalars ≤ from = omega (arith, p, (place_behind n l t).0, (moved_behind moved (q.next + 1)).0) in
      omega (arith, hl.placed t (loaded_first c q moved value) (λ y. writes n y e) (writes_few n place top scalars few e) p, loaded_most n c q moved value, he.any from (To None last) f, memory_most n c q moved (laid n e Anywhere from) g)

  update_any : (c : declared-change.Change) (l : LvalueTree) (e : RvalueTree) → InPlace l → In' e → (t : ℕ) (g : Goal) → scalars ≤ t → (o : Option ℕ) →
      made_counts (updating c l e o t g) + 1 ≤ goal_counts g + 2 * (weighed_place l + weighed false e + 1) + room g
  update_any c l e hl he t g p (Some x) = omega (arith, update_scalar c l e hl he t g p x)
  update_any c l e hl he t g p None = update_memory c l e hl he t g p

  update_held : (c : declared-change.Change) (l : LvalueTree) (e : RvalueTree) → InPlace l → In' e → (t : ℕ) (m : Made) (w : ℕ → Bool) → Few scalars w → scalars ≤ t → (narrow scaling : Bool) → (o : Option ℕ) →
      made_counts (updating c l e o t (To None m)) + one_if (is_moved w (updated_laid n Anywhere narrow scaling o t (place_laid n l t) (laid n e Anywhere (begun_behind o t (λ y. writes n y e) (place_laid n l t)))).value) + 1
      ≤ made_counts m + 2 * (weighed_place l + weighed false e + 1)
  update_held c l e hl he t m w fw p narrow scaling (Some x) = omega (arith, update_scalar c l e hl he t (To None m) p x, one_most (w x))
  update_held c l e hl he t m w fw p narrow scaling None =
      let q = place_laid n l t in
      let moved = is_location_moved (λ y. writes n y e) q.location in let from = behind_move moved (q.next + 1) in
      let r = laid n e Anywhere from in
      let free = behind_move narrow (behind_move scaling r.next) in
      let s = moved_behind moved (q.next + 1) in let u = moved_behind scaling r.next in let v = moved_behind narrow (behind_move scaling r.next) in
      let far : q.next ≤ free = omega (arith, s.0, u.0, v.0, (behind n e Anywhere from).0) in
      omega (arith, update_memory c l e hl he t (To None m) p, operation_stays n scalars w fw q.next free (max (max q.top r.top) free) (omega (arith, p, (place_behind n l t).0)) far)

  within_update : (o : Rattle.c_tree.specs.declared.typed_expression.Arithmetic.Arithmetic) (ty v : IntegerType) (l : LvalueTree) (e : RvalueTree) → InPlace l → In' e → In' (Update o ty v l e)
  within_update o ty v l e hl he = plain n place top scalars few (Update o ty v l e) refl
      (λ t g p. update_any (change.Integer o ty v) l e hl he t g p (scalar_named n l))
      (λ t m w fw p. update_held (change.Integer o ty v) l e hl he t m w fw p (is_narrow ty) false (scalar_named n l))

  within_update_pointer : (d : Rattle.c_tree.specs.declared.typed_expression.Direction.Direction) (of : ObjectType) (l : LvalueTree) (e : RvalueTree) → InPlace l → In' e → In' (UpdatePointer d of l e)
  within_update_pointer d of l e hl he = plain n place top scalars few (UpdatePointer d of l e) refl
      (λ t g p. update_any (change.Pointer d (object_size of)) l e hl he t g p (scalar_named n l))
      (λ t m w fw p. update_held (change.Pointer d (object_size of)) l e hl he t m w fw p false (Rattle.graph_build_names.specs.Scales.is_scaled (object_size of) (laid n e Anywhere (begun_behind (scalar_named n l) t (λ y. writes n y e) (place_laid n l t))).value) (scalar_named n l))

  -- `++` and `--`
  step_any : (c : declared-change.Change) (k : Given) (l : LvalueTree) → InPlace l → (t : ℕ) (g : Goal) → scalars ≤ t → (o : Option ℕ) →
      made_counts (stepped n o c k (place_laid n l t) t (code_place n place top l t) g) + 2 ≤ goal_counts g + 2 * (weighed_place l + 2) + room g
  step_any c New l h t g p (Some x) = omega (arith, renewed_most n c x (unit.Name x) (one_at t) g, h.least)
  step_any c New l h t g p None =
      let q = place_laid n l t in let last = renewed_memory n c q false (one_at (q.next + 1)) g in
      omega (arith, h.placed t (loaded_first c q false last) (λ y. false) (λ y k. refl) p, loaded_most n c q false last, memory_most n c q false (one_at (q.next + 1)) g)
  step_any c Old l h t g p (Some x) = omega (arith, left_scalar_most n c x t g, h.least)
  step_any c Old l h t g p None =
      let q = place_laid n l t in omega (arith, h.placed t (left_memory c q g) (λ y. false) (λ y k. refl) p, left_memory_most n c q g)

  -- calls
  call_any : (void : Bool) (all : ArgumentTrees) → WithinAll n place top scalars few all → (t : ℕ) (g : Goal) (own : ℕ) (i : Option ℕ → Instruction) → scalars ≤ t →
      made_counts (code_all n place top all t (called_by void g own i)) + 1 ≤ goal_counts g + 2 * (weighed_all all + 1) + room g
  call_any void all h t g own i p = omega (arith, h t (called_by void g own i) p, called_most void g own i)

  call_stays : (void : Bool) (w : ℕ → Bool) → Few scalars w → (t next top' : ℕ) → scalars ≤ t → t ≤ next → one_if (is_moved w (called_laid n Anywhere void t next top').value) ≡ 0
  call_stays true w fw t next top' p q = refl
  call_stays false w fw t next top' p q = operation_stays n scalars w fw t next top' p q

  within_call : (c : Callee) (all : ArgumentTrees) → WithinAll n place top scalars few all → In' (Call c all)
  within_call c all h =
      let void = is_void (given_by n.results c) in plain n place top scalars few (Call c all) refl
      (λ t g p. call_any void all h t g (pick n t (passed_laid n all t).next) (λ x. unit.Call x (callee_for c) (passed_laid n all t).values) p)
      (λ t m w fw p. omega (arith, call_any void all h t (To None m) (pick n t (passed_laid n all t).next) (λ x. unit.Call x (callee_for c) (passed_laid n all t).values) p, call_stays void w fw t (passed_laid n all t).next (passed_laid n all t).top p (passed_is_behind n all t).0))

  -- lvalues
  within_named : (o : Object) (of : ObjectType) → InPlace (Named o of)
  within_named o of = record {
    least = omega arith;
    placed = λ t m w fw p. omega (arith, location_stays n scalars w o);
    address = λ t g p. omega (arith, object_most n o t g);
    held = λ t m w fw p. omega (arith, object_most n o t (To None m), address_stays n scalars w fw o t p);
  }

  within_target : (of : ObjectType) (e : RvalueTree) → In' e → InPlace (Target of e)
  within_target of e h = record {
    least = omega arith;
    placed = λ t m w fw p. omega (arith, h.held t m w fw p);
    address = λ t g p. omega (arith, h.any t (valued (used g) (laid n e Anywhere t).value) p, valued_most (used g) (laid n e Anywhere t).value, used_most g);
    held = λ t m w fw p. omega (arith, h.held t m w fw p);
  }

  within_element : (of : ObjectType) (a b : RvalueTree) → In' a → In' b → InPlace (Element of a b)
  within_element of a b ha hb = record {
    least = omega arith;
    placed = λ t m w fw p. element_placed n place top scalars few (two.Move Up (object_size of)) a b (object_size of) (pair (λ y. writes n y b) (laid n a Anywhere t) (laid n b Anywhere)).right ha hb t m w fw p;
    address = λ t g p. omega (arith, finished_pair n place top scalars few (two.Move Up (object_size of)) a b ha hb t g p);
    held = λ t m w fw p. omega (arith, finished_pair n place top scalars few (two.Move Up (object_size of)) a b ha hb t (To None m) p, one_most (is_moved w (address_laid n (Element of a b) Anywhere t).value));
  }

  within_element_from : (of : ObjectType) (a b : RvalueTree) → In' a → In' b → InPlace (ElementFrom of a b)
  within_element_from of a b ha hb = record {
    least = omega arith;
    placed = λ t m w fw p. element_placed n place top scalars few (two.MoveFrom (object_size of)) a b (object_size of) (pair (λ y. writes n y b) (laid n a Anywhere t) (laid n b Anywhere)).left ha hb t m w fw p;
    address = λ t g p. omega (arith, finished_pair n place top scalars few (two.MoveFrom (object_size of)) a b ha hb t g p);
    held = λ t m w fw p. omega (arith, finished_pair n place top scalars few (two.MoveFrom (object_size of)) a b ha hb t (To None m) p, one_most (is_moved w (address_laid n (ElementFrom of a b) Anywhere t).value));
  }

  within_none : WithinAll n place top scalars few none
  within_none t m p = omega arith

  within_first : (e : RvalueTree) (rest : ArgumentTrees) → In' e → WithinAll n place top scalars few rest → WithinAll n place top scalars few (first e rest)
  within_first e rest h k t m p =
      let r = laid n e Anywhere t in let moved = is_moved (λ y. writes_any n y rest) r.value in
      let later = code_all n place top rest (behind_move moved r.next) m in
      omega (
        arith,
        h.passed t (move_if moved r.next r.value later) (λ y. writes_any n y rest) (λ y q. all_few n scalars few rest y q) p,
        move_most moved r.next r.value later,
        k (behind_move moved r.next) m (omega (arith, p, (behind n e Anywhere t).0, (moved_behind moved r.next).0)),
      )

  finished_two : (k : Rattle.graph_build_steps.specs.declared.site.Two.Two) (a b f : RvalueTree) → In' a → In' b → weighed true f ≡ weighed false f → weighed false f ≡ weighed false a + weighed false b + 1 →
      ((t : ℕ) (g : Goal) → made_counts (code n place top f t g) ≤ made_counts (Rattle.graph_build_code.specs.Code.code_two n place top a b k t g)) → In' f
  finished_two k a b f ha hb same one c = loose n place top scalars few f same (λ t g p. omega (arith, c t g, finished_pair n place top scalars few k a b ha hb t g p, one))

  mutual
    pub within : (e : RvalueTree) → In' e
    within (Constant z ty) = within_constant n place top scalars few (Constant z ty) (unit.Constant (unsigned_bits z)) refl refl (λ t g. omega arith)
    within Null = within_constant n place top scalars few Null zero refl refl (λ t g. omega arith)
    within (Load s l) = within_load n place top scalars few s l (within_place l)
    within (Decay l) = within_decay n place top scalars few l (within_place l)
    within (AddressOf l) = within_address n place top scalars few l (within_place l)
    within (Convert ty e) = within_convert n place top scalars few ty e (within e)
    within (Discard e) = within_discard n place top scalars few e (within e)
    within (Signed o ty e) = within_signed n place top scalars few o ty e (within e)
    within (Not e) = within_not n place top scalars few e (within e)
    within (Arithmetic o ty a b) = finished_two (two.Arithmetic o ty) a b (Arithmetic o ty a b) (within a) (within b) refl refl (λ t g. omega arith)
    within (Compare o ty a b) = finished_two (two.Compare o ty) a b (Compare o ty a b) (within a) (within b) refl refl (λ t g. omega arith)
    within (ComparePointers o a b) = finished_two (two.ComparePointers o) a b (ComparePointers o a b) (within a) (within b) refl refl (λ t g. omega arith)
    within (Move d of a b) = finished_two (two.Move d (object_size of)) a b (Move d of a b) (within a) (within b) refl refl (λ t g. omega arith)
    within (MoveFrom a of b) = finished_two (two.MoveFrom (object_size of)) a b (MoveFrom a of b) (within a) (within b) refl refl (λ t g. omega arith)
    within (Difference of a b) = finished_two (two.Difference (object_size of)) a b (Difference of a b) (within a) (within b) refl refl (λ t g. omega arith)
    within (And a b) = within_both n place top scalars few a b (And a b) (within a) (within b) refl refl (λ way m. label_of top m) (λ (way : Fork) m. way.other) (λ t g. omega arith)
    within (Or a b) = within_both n place top scalars few a b (Or a b) (within a) (within b) refl refl (λ (way : Fork) m. way.one) (λ way m. label_of top m) (λ t g. omega arith)
    within (Conditional c a b) = within_conditional n place top scalars few c a b (within c) (within a) (within b)
    within (Comma a b) = within_comma n place top scalars few a b (within a) (within b)
    within (Assign s l e) = within_assign s l e (within_place l) (within e)
    within (Update o ty v l e) = within_update o ty v l e (within_place l) (within e)
    within (UpdatePointer d of l e) = within_update_pointer d of l e (within_place l) (within e)
    within (Step d k ty v l) = (let h = within_place l in loose n place top scalars few (Step d k ty v l) refl (λ t g p. step_any (change.Integer (steps_by d) ty v) k l h t g p (scalar_named n l)))
    within (StepPointer d k of l) = (let h = within_place l in loose n place top scalars few (StepPointer d k of l) refl (λ t g p. step_any (change.Pointer d (object_size of)) k l h t g p (scalar_named n l)))
    within (Call c all) = within_call c all (within_all all)

    pub within_place : (l : LvalueTree) → InPlace l
    within_place (Named o of) = within_named o of
    within_place (Target of e) = within_target of e (within e)
    within_place (Element of a b) = within_element of a b (within a) (within b)
    within_place (ElementFrom of a b) = within_element_from of a b (within a) (within b)

    pub within_all : (all : ArgumentTrees) → WithinAll n place top scalars few all
    within_all none = within_none
    within_all (first e rest) = within_first e rest (within e) (within_all rest)
