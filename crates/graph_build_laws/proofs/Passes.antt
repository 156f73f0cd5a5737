-- What holds of what follows an expression holds of its code, if it passes what is no marker and the ends of blocks.
use Rattle.std.proofs.Common.{◌≡◌, ℕ, ◌+◌, Bool, true, false, Option, Some, None, List, refl, if◌then◌else◌}
use Rattle.std.specs.Prelude.{not}
use Rattle.c_tree.specs.declared.types.IntegerType.{IntegerType}
use Rattle.c_tree.specs.declared.object_type.Scalar.{Scalar}
use Rattle.c_tree.specs.declared.object_type.ObjectType.{ObjectType}
use Rattle.c_tree.specs.declared.typed_expression.Sign.TheVariants.{Plus, Minus, Complement}
use Rattle.c_tree.specs.declared.typed_expression.Direction.TheVariants.{Up}
use Rattle.c_tree.specs.declared.typed_expression.Given.{Given}
use Rattle.c_tree.specs.declared.typed_expression.Given.TheVariants.{New, Old}
use Rattle.c_tree.specs.TypedExpressions.{RvalueTree, LvalueTree, ArgumentTrees, Constant, Null, Load, Decay, AddressOf, Convert, Discard, Signed, Not, Arithmetic, Compare, ComparePointers, Move, MoveFrom, Difference, And, Or, Conditional, Comma, Assign, Update, UpdatePointer, Step, StepPointer, Call, Named, Target, Element, ElementFrom, none, first}
use Rattle.c_type_rules.specs.Integers.{object_size}
use Rattle.c_type_rules.specs.ValueTypes.{type_of, given_by, is_void, is_pointer, integer_in}
use Rattle.word_base.specs.declared.operation.Operation.TheVariants as operation
use Rattle.graph_core.specs.Graphs as unit
use Rattle.graph_core.specs.Graphs.{Operand, Instruction, Operate, Truncate, Same, Block, End, Jump}
use Rattle.graph_core.specs.Paths.{is_marker}
use Rattle.graph_build_names.specs.Conversions.{unsigned_bits, keeps_bits, is_kept_constant}
use Rattle.graph_build_names.specs.Operands.{held, operand_at}
use Rattle.graph_build_layout.specs.declared.laid.Use.TheVariants.{Anywhere, Nothing, Tested}
use Rattle.graph_build_names.specs.Names.{Names, scalar_named, pick}
use Rattle.graph_build_names.specs.Writes.{writes, writes_any, is_moved, is_location_moved}
use Rattle.graph_build_layout.specs.Laid.{Pair, PlaceLaid, pair, behind_move, behind_own, use_for}
use Rattle.graph_build_layout.specs.Layout.{laid, place_laid, passed_laid}
use Rattle.graph_build_steps.specs.Rules.{element_of, truncation_to, callee_for, steps_by}
use Rattle.graph_build_steps.specs.Drafts.{Made, Goal, To, Unused, Either, use_of, ending, leaf, label_of, with_inner_block, forked, valued, used, operated, move_if, hold_location, held_location, stored, noted, called_by}
use Rattle.graph_build_steps.specs.Drafts as drafts
use Rattle.graph_build_steps.specs.declared.site.Two as declared-two
use Rattle.graph_build_steps.specs.declared.site.Two.TheVariants as two
use Rattle.graph_build_steps.specs.declared.change.Change as declared-change
use Rattle.graph_build_steps.specs.declared.change.Change.TheVariants as change
use Rattle.graph_build_steps.specs.Steps.{in_turn, signed, finished, arm_use, arm_value, arm_goal, assigned_memory, updated, stepped, renewed_scalar, renewed_memory, loaded_first, left_memory, one_at}
use Rattle.graph_build_code.specs.Code.{code, code_place, code_address, code_all}
use Rattle.graph_build_laws.specs.Passing.{IsPassing}
use Rattle.graph_build_laws.proofs.GraphMarkingPieces.{inner_of, grows_on, closed_grows, Carried, Before, lead_on, leads_on, goal_on, goals_on, stays, leaf_carries, noted_carries, valued_leads, used_leads, move_leads, stored_carries, called_carries, forked_passes, operated_carries, finished_carries, renewed_carries, memory_carries, loaded_leads, left_scalar_carries, left_memory_carries, object_carries, signed_is}

module _ (place top : ℕ) (Has : Made → Type 0) (Leads : (label : ℕ) → List Block → Type 0) (Stand : List Block → Type 0) (passing : IsPassing place top Has Leads Stand) (n : Names) where
  abbrev Brings : Made → Goal → Type 0
  Brings m g = Carried place top Has Leads Stand passing m g

  abbrev Brings' : Made → Made → Type 0
  Brings' m k = Before place top Has Leads Stand passing m k

  -- for each goal the code of an expression passes what the goal has
  abbrev pub Passes : RvalueTree → Type 0
  Passes e = (t : ℕ) (g : Goal) → Carried place top Has Leads Stand passing (code n place top e t g) g

  abbrev pub PassesAll : ArgumentTrees → Type 0
  PassesAll all = (t : ℕ) (m : Made) → Before place top Has Leads Stand passing (code_all n place top all t m) m

  pub record PassesPlace (l : LvalueTree) : Type 0 where
    pub placed : (t : ℕ) (m : Made) → Before place top Has Leads Stand passing (code_place n place top l t m) m
    pub address : (t : ℕ) (g : Goal) → Carried place top Has Leads Stand passing (code_address n place top l t g) g

  on : (m k : Made) (g : Goal) → Brings' m k → Brings k g → Brings m g
  on m k g a b = lead_on place top Has Leads Stand passing m k g a b

  -- an expression whose value stands anywhere, before what follows
  to_lead : (e : RvalueTree) → Passes e → (t : ℕ) (m : Made) → Brings' (code n place top e t (To None m)) m
  to_lead e h t m = h t (To None m)

  turn_leads : (a b : RvalueTree) → Passes a → Passes b → (t : ℕ) (q : Pair) (last : Made) → Brings' (in_turn (code n place top a) (code n place top b) t q last) last
  turn_leads a b ha hb t q last =
      let second = code n place top b q.from (To None last) in
      let mid = move_if q.moved q.moved_to q.first second in
      leads_on place top Has Leads Stand passing _ mid last (to_lead a ha t mid) (leads_on place top Has Leads Stand passing mid second last (move_leads place top Has Leads Stand passing q.moved q.moved_to q.first second) (to_lead b hb q.from last))

  finished_pair : (k : declared-two.Two) (a b : RvalueTree) → Passes a → Passes b → (t : ℕ) (q : Pair) (g : Goal) → Brings (in_turn (code n place top a) (code n place top b) t q (finished n k g t q)) g
  finished_pair k a b ha hb t q g = on _ (finished n k g t q) g (turn_leads a b ha hb t q (finished n k g t q)) (finished_carries place top Has Leads Stand passing n k g t q)

  load_passes : (s : Scalar) (l : LvalueTree) → PassesPlace l → (t : ℕ) (g : Goal) → (o : Option ℕ) →
      Brings (elim o [
        | Some x ↦ leaf g (unit.Name x)
        | None ↦ code_place n place top l t (operated n g t (place_laid n l t).next (λ x. unit.Load x (element_of s) (place_laid n l t).location))
      ]) g
  load_passes s l h t g (Some x) = leaf_carries place top Has Leads Stand passing g (unit.Name x)
  load_passes s l h t g None =
      let i : ℕ → Instruction = λ x. unit.Load x (element_of s) (place_laid n l t).location in
      let last = operated n g t (place_laid n l t).next i in
      on _ last g (h.placed t last) (operated_carries place top Has Leads Stand passing n g t (place_laid n l t).next i (λ x. refl))

  convert_passes : (ty : IntegerType) (e : RvalueTree) → Passes e → (t : ℕ) (g : Goal) → (b c : Bool) →
      Brings (if b then code n place top e t (valued g (laid n e Anywhere t).value) else code n place top e t (To None (if c then leaf g (laid n e Anywhere t).value else operated n g t (laid n e Anywhere t).next (λ x. Truncate x (truncation_to ty) (laid n e Anywhere t).value)))) g
  convert_passes ty e h t g true c = goal_on place top Has Leads Stand passing _ (valued g (laid n e Anywhere t).value) g (h t (valued g (laid n e Anywhere t).value)) (valued_leads place top Has Leads Stand passing g (laid n e Anywhere t).value)
  convert_passes ty e h t g false true = on _ (leaf g (laid n e Anywhere t).value) g (to_lead e h t (leaf g (laid n e Anywhere t).value)) (leaf_carries place top Has Leads Stand passing g (laid n e Anywhere t).value)
  convert_passes ty e h t g false false =
      let i : ℕ → Instruction = λ x. Truncate x (truncation_to ty) (laid n e Anywhere t).value in
      let last = operated n g t (laid n e Anywhere t).next i in on _ last g (to_lead e h t last) (operated_carries place top Has Leads Stand passing n g t (laid n e Anywhere t).next i (λ x. refl))

  -- an operation on one value
  one_passes : (e : RvalueTree) → Passes e → (t : ℕ) (g : Goal) (i : ℕ → Instruction) → ((x : ℕ) → is_marker (i x) ≡ false) → Brings (code n place top e t (To None (operated n g t (laid n e Anywhere t).next i))) g
  one_passes e h t g i k = let last = operated n g t (laid n e Anywhere t).next i in on _ last g (to_lead e h t last) (operated_carries place top Has Leads Stand passing n g t (laid n e Anywhere t).next i k)

  not_is : (b : Bool) (a : Operand) (x : ℕ) → is_marker (if b then Same x a (drafts.zero) else Operate x operation.Sltu a (unit.Constant 1)) ≡ false
  not_is true a x = refl
  not_is false a x = refl

  not_passes : (e : RvalueTree) → Passes e → Passes (Not e)
  not_passes e h t (Either one other inner) = let x = h t (Either other one inner) in (x.0, λ k. x.1 (k.1, k.0))
  not_passes e h t (To want m) = one_passes e h t (To want m) _ (λ x. not_is (is_pointer (type_of n.results e)) (laid n e Anywhere t).value x)
  not_passes e h t (Unused m) = one_passes e h t (Unused m) _ (λ x. not_is (is_pointer (type_of n.results e)) (laid n e Anywhere t).value x)

  -- `&&`: where the right operand is tested, and else to the other way
  and_passes : (a b : RvalueTree) → Passes a → Passes b → Passes (And a b)
  and_passes a b ha hb t g =
      let at = behind_own (use_of g) t in let way = forked place top g t in
      let later = pick n at (laid n a Tested at).top in
      let m = code n place top b later (Either way.one way.other way.inner) in
      let xa = ha at (Either (label_of top m) way.other (with_inner_block place m)) in
      let xb = hb later (Either way.one way.other way.inner) in
      let f = forked_passes place top Has Leads Stand passing g t in
      let whole = code n place top (And a b) t g in (
        grows_on (inner_of g) way.inner whole.inner f.0 (grows_on way.inner m.inner whole.inner xb.0 (grows_on m.inner (with_inner_block place m) whole.inner (closed_grows place m) xa.0)),
        λ h. (let k = f.1 h in let r = xb.1 (k.0, k.1) in xa.1 (passing.close m r, passing.keep m way.other way.inner xb.0 r k.1)),
      )

  or_passes : (a b : RvalueTree) → Passes a → Passes b → Passes (Or a b)
  or_passes a b ha hb t g =
      let at = behind_own (use_of g) t in let way = forked place top g t in
      let later = pick n at (laid n a Tested at).top in
      let m = code n place top b later (Either way.one way.other way.inner) in
      let xa = ha at (Either way.one (label_of top m) (with_inner_block place m)) in
      let xb = hb later (Either way.one way.other way.inner) in
      let f = forked_passes place top Has Leads Stand passing g t in
      let whole = code n place top (Or a b) t g in (
        grows_on (inner_of g) way.inner whole.inner f.0 (grows_on way.inner m.inner whole.inner xb.0 (grows_on m.inner (with_inner_block place m) whole.inner (closed_grows place m) xa.0)),
        λ h. (let k = f.1 h in let r = xb.1 (k.0, k.1) in xa.1 (passing.keep m way.one way.inner xb.0 r k.0, passing.close m r)),
      )

  arm_leads : (void : Bool) (e : RvalueTree) → Passes e → (t at : ℕ) (m : Made) → Brings' (code n place top e at (arm_goal void t m)) m
  arm_leads true e h t at m = h at (Unused m)
  arm_leads false e h t at m = h at (To (Some t) m)

  conditional_passes : (c a b : RvalueTree) → Passes c → Passes a → Passes b → Passes (Conditional c a b)
  conditional_passes c a b hc ha hb t g =
      let void = is_void (type_of n.results a) in let at = behind_move (not void) t in
      let at_a = pick n at (laid n c Tested at).top in let at_b = pick n at (laid n a (arm_use void t) at_a).top in
      let m = leaf g (arm_value void t) in
      let join = ending (Jump (label_of top m)) (with_inner_block place m) in
      let y = code n place top b at_b (arm_goal void t join) in
      let join_a = ending (Jump (label_of top m)) (with_inner_block place y) in
      let x = code n place top a at_a (arm_goal void t join_a) in
      let xc = hc at (Either (label_of top x) (label_of top y) (with_inner_block place x)) in
      let xa = arm_leads void a ha t at_a join_a in
      let xb = arm_leads void b hb t at_b join in
      let l = leaf_carries place top Has Leads Stand passing g (arm_value void t) in
      let whole = code n place top (Conditional c a b) t g in
      let to_y = grows_on (inner_of g) m.inner y.inner l.0 (grows_on m.inner (with_inner_block place m) y.inner (closed_grows place m) xb.0) in
      let to_x = grows_on (inner_of g) y.inner x.inner to_y (grows_on y.inner (with_inner_block place y) x.inner (closed_grows place y) xa.0) in (
        grows_on (inner_of g) x.inner whole.inner to_x (grows_on x.inner (with_inner_block place x) whole.inner (closed_grows place x) xc.0),
        λ h. (
            let has_m = l.1 h in
            let to_m = passing.close m has_m in
            let has_y = xb.1 (passing.jump (label_of top m) (with_inner_block place m) to_m) in
            let has_x = xa.1 (passing.jump (label_of top m) (with_inner_block place y) (passing.keep y (label_of top m) (with_inner_block place m) xb.0 has_y to_m)) in
            xc.1 (passing.close x has_x, passing.keep x (label_of top y) (with_inner_block place y) xa.0 has_x (passing.close y has_y))),
      )

  comma_passes : (a b : RvalueTree) → Passes a → Passes b → Passes (Comma a b)
  comma_passes a b ha hb t g =
      let later = code n place top b (pick n t (laid n a Nothing t).top) g in on _ later g (ha t (Unused later)) (hb (pick n t (laid n a Nothing t).top) g)

  -- an assignment to memory
  assigned_leads : (g : Goal) (q : PlaceLaid) (moved : Bool) (s : Scalar) (e : RvalueTree) → Passes e → (t : ℕ) (a : Operand) → Brings (code n place top e t (assigned_memory g q moved (element_of s) a)) g
  assigned_leads (To (Some x) m) q moved s e h t a =
      let last = stored (element_of s) (held_location moved q.next q.location) a (To (Some x) m) in on _ last (To (Some x) m) (h t (To (Some x) last)) (stored_carries place top Has Leads Stand passing (element_of s) (held_location moved q.next q.location) a (To (Some x) m))
  assigned_leads (To None m) q moved s e h t a =
      let last = stored (element_of s) (held_location moved q.next q.location) a (To None m) in on _ last (To None m) (to_lead e h t last) (stored_carries place top Has Leads Stand passing (element_of s) (held_location moved q.next q.location) a (To None m))
  assigned_leads (Unused m) q moved s e h t a =
      let last = stored (element_of s) (held_location moved q.next q.location) a (Unused m) in on _ last (Unused m) (to_lead e h t last) (stored_carries place top Has Leads Stand passing (element_of s) (held_location moved q.next q.location) a (Unused m))
  assigned_leads (Either one other inner) q moved s e h t a =
      let last = stored (element_of s) (held_location moved q.next q.location) a (Either one other inner) in
      on _ last (Either one other inner) (to_lead e h t last) (stored_carries place top Has Leads Stand passing (element_of s) (held_location moved q.next q.location) a (Either one other inner))

  assign_passes : (s : Scalar) (l : LvalueTree) (e : RvalueTree) → PassesPlace l → Passes e → (t : ℕ) (g : Goal) → (o : Option ℕ) →
      Brings (elim o [
        | Some x ↦ code n place top e t (To (Some x) (noted x g))
        | None ↦ let q = place_laid n l t in let moved = is_location_moved (λ y. writes n y e) q.location in let from = behind_move moved q.next in
            code_place n place top l t (hold_location moved q.next q.location (code n place top e from (assigned_memory g q moved (element_of s) (laid n e (use_for None (use_of g)) from).value)))
      ]) g
  assign_passes s l e hl he t g (Some x) = on _ (noted x g) g (he t (To (Some x) (noted x g))) (noted_carries place top Has Leads Stand passing x g)
  assign_passes s l e hl he t g None =
      let q = place_laid n l t in let moved = is_location_moved (λ y. writes n y e) q.location in let from = behind_move moved q.next in
      let a = (laid n e (use_for None (use_of g)) from).value in
      let value = code n place top e from (assigned_memory g q moved (element_of s) a) in
      let mid = hold_location moved q.next q.location value in
      on _ mid g (hl.placed t mid) (on mid value g (move_leads place top Has Leads Stand passing moved q.next (operand_at q.location) value) (assigned_leads g q moved s e he from a))

  -- `a op= b`
  update_passes : (c : declared-change.Change) (l : LvalueTree) (e : RvalueTree) → PassesPlace l → Passes e → (t : ℕ) (g : Goal) → (o : Option ℕ) →
      Brings (updated n o c (λ y. writes n y e) (place_laid n l t) t (code n place top e) (laid n e Anywhere) (code_place n place top l t) g) g
  update_passes c l e hl he t g (Some x) =
      let moved = writes n x e in let from = behind_move moved t in
      let last = renewed_scalar c x (held moved (unit.Name x) t) (laid n e Anywhere from) g in
      let value = code n place top e from (To None last) in
      on _ value g (move_leads place top Has Leads Stand passing moved t (unit.Name x) value) (on value last g (to_lead e he from last) (renewed_carries place top Has Leads Stand passing n c x (held moved (unit.Name x) t) (laid n e Anywhere from) g))
  update_passes c l e hl he t g None =
      let q = place_laid n l t in
      let moved = is_location_moved (λ y. writes n y e) q.location in let from = behind_move moved (q.next + 1) in
      let last = renewed_memory n c q moved (laid n e Anywhere from) g in
      let value = code n place top e from (To None last) in
      let mid = loaded_first c q moved value in
      on _ mid g (hl.placed t mid) (on mid value g (loaded_leads place top Has Leads Stand passing n c q moved value) (on value last g (to_lead e he from last) (memory_carries place top Has Leads Stand passing n c q moved (laid n e Anywhere from) g)))

  -- `++` and `--`
  step_passes : (c : declared-change.Change) (k : Given) (l : LvalueTree) → PassesPlace l → (t : ℕ) (g : Goal) → (o : Option ℕ) → Brings (stepped n o c k (place_laid n l t) t (code_place n place top l t) g) g
  step_passes c New l h t g (Some x) = renewed_carries place top Has Leads Stand passing n c x (unit.Name x) (one_at t) g
  step_passes c New l h t g None =
      let q = place_laid n l t in let last = renewed_memory n c q false (one_at (q.next + 1)) g in let mid = loaded_first c q false last in
      on _ mid g (h.placed t mid) (on mid last g (loaded_leads place top Has Leads Stand passing n c q false last) (memory_carries place top Has Leads Stand passing n c q false (one_at (q.next + 1)) g))
  step_passes c Old l h t g (Some x) = left_scalar_carries place top Has Leads Stand passing n c x t g
  step_passes c Old l h t g None = let q = place_laid n l t in on _ (left_memory c q g) g (h.placed t (left_memory c q g)) (left_memory_carries place top Has Leads Stand passing n c q g)

  element_passes : (k : declared-two.Two) (of : ObjectType) (a b : RvalueTree) → Passes a → Passes b → (t : ℕ) (q : Pair) (m : Made) → Brings' (in_turn (code n place top a) (code n place top b) t q (finished n k (To None m) t q)) m
  element_passes k of a b ha hb t q m = finished_pair k a b ha hb t q (To None m)

  mutual
    pub code_passes : (e : RvalueTree) → Passes e
    code_passes (Constant z ty) t g = leaf_carries place top Has Leads Stand passing g (unit.Constant (unsigned_bits z))
    code_passes Null t g = leaf_carries place top Has Leads Stand passing g (drafts.zero)
    code_passes (Load s l) t g = load_passes s l (place_passes l) t g (scalar_named n l)
    code_passes (Decay l) t g = (place_passes l).address t g
    code_passes (AddressOf l) t g = (place_passes l).address t g
    code_passes (Convert ty e) t g = convert_passes ty e (code_passes e) t g (keeps_bits (integer_in (type_of n.results e)) ty) (is_kept_constant ty (laid n e Anywhere t).value)
    code_passes (Discard e) t g = on _ (leaf g (drafts.zero)) g (code_passes e t (Unused (leaf g (drafts.zero)))) (leaf_carries place top Has Leads Stand passing g (drafts.zero))
    code_passes (Signed Plus ty e) t g = goal_on place top Has Leads Stand passing _ (valued g (laid n e Anywhere t).value) g (code_passes e t (valued g (laid n e Anywhere t).value)) (valued_leads place top Has Leads Stand passing g (laid n e Anywhere t).value)
    code_passes (Signed Minus ty e) t g = one_passes e (code_passes e) t g (signed Minus (laid n e Anywhere t).value) (signed_is place top Has Leads Stand passing n Minus (laid n e Anywhere t).value)
    code_passes (Signed Complement ty e) t g = one_passes e (code_passes e) t g (signed Complement (laid n e Anywhere t).value) (signed_is place top Has Leads Stand passing n Complement (laid n e Anywhere t).value)
    code_passes (Not e) t g = not_passes e (code_passes e) t g
    code_passes (Arithmetic o ty a b) t g = finished_pair (two.Arithmetic o ty) a b (code_passes a) (code_passes b) t (pair (λ y. writes n y b) (laid n a Anywhere t) (laid n b Anywhere)) g
    code_passes (Compare o ty a b) t g = finished_pair (two.Compare o ty) a b (code_passes a) (code_passes b) t (pair (λ y. writes n y b) (laid n a Anywhere t) (laid n b Anywhere)) g
    code_passes (ComparePointers o a b) t g = finished_pair (two.ComparePointers o) a b (code_passes a) (code_passes b) t (pair (λ y. writes n y b) (laid n a Anywhere t) (laid n b Anywhere)) g
    code_passes (Move d of a b) t g = finished_pair (two.Move d (object_size of)) a b (code_passes a) (code_passes b) t (pair (λ y. writes n y b) (laid n a Anywhere t) (laid n b Anywhere)) g
    code_passes (MoveFrom a of b) t g = finished_pair (two.MoveFrom (object_size of)) a b (code_passes a) (code_passes b) t (pair (λ y. writes n y b) (laid n a Anywhere t) (laid n b Anywhere)) g
    code_passes (Difference of a b) t g = finished_pair (two.Difference (object_size of)) a b (code_passes a) (code_passes b) t (pair (λ y. writes n y b) (laid n a Anywhere t) (laid n b Anywhere)) g
    code_passes (And a b) t g = and_passes a b (code_passes a) (code_passes b) t g
    code_passes (Or a b) t g = or_passes a b (code_passes a) (code_passes b) t g
    code_passes (Conditional c a b) t g = conditional_passes c a b (code_passes c) (code_passes a) (code_passes b) t g
    code_passes (Comma a b) t g = comma_passes a b (code_passes a) (code_passes b) t g
    code_passes (Assign s l e) t g = assign_passes s l e (place_passes l) (code_passes e) t g (scalar_named n l)
    code_passes (Update o ty v l e) t g = update_passes (change.Integer o ty v) l e (place_passes l) (code_passes e) t g (scalar_named n l)
    code_passes (UpdatePointer d of l e) t g = update_passes (change.Pointer d (object_size of)) l e (place_passes l) (code_passes e) t g (scalar_named n l)
    code_passes (Step d k ty v l) t g = step_passes (change.Integer (steps_by d) ty v) k l (place_passes l) t g (scalar_named n l)
    code_passes (StepPointer d k of l) t g = step_passes (change.Pointer d (object_size of)) k l (place_passes l) t g (scalar_named n l)
    code_passes (Call c all) t g = (
        let q = passed_laid n all t in
        let i : Option ℕ → Instruction = λ x. unit.Call x (callee_for c) q.values in
        let last = called_by (is_void (given_by n.results c)) g (pick n t q.next) i in
        on _ last g (arguments_pass all t last) (called_carries place top Has Leads Stand passing (is_void (given_by n.results c)) g (pick n t q.next) i (λ o. refl)))

    pub place_passes : (l : LvalueTree) → PassesPlace l
    place_passes (Named o of) = record { placed = λ t m. stays place top Has Leads Stand passing m; address = object_carries place top Has Leads Stand passing n o }
    place_passes (Target of e) = record {
      placed = λ t m. code_passes e t (To None m);
      address = λ t g. goal_on place top Has Leads Stand passing _ (valued (used g) (laid n e Anywhere t).value) g (code_passes e t (valued (used g) (laid n e Anywhere t).value))
          (goals_on place top Has Leads Stand passing (valued (used g) (laid n e Anywhere t).value) (used g) g (valued_leads place top Has Leads Stand passing (used g) (laid n e Anywhere t).value) (used_leads place top Has Leads Stand passing g));
    }
    place_passes (Element of a b) = record {
      placed = λ t m. element_passes (two.Move Up (object_size of)) of a b (code_passes a) (code_passes b) t (pair (λ y. writes n y b) (laid n a Anywhere t) (laid n b Anywhere)) m;
      address = λ t g. finished_pair (two.Move Up (object_size of)) a b (code_passes a) (code_passes b) t (pair (λ y. writes n y b) (laid n a Anywhere t) (laid n b Anywhere)) g;
    }
    place_passes (ElementFrom of a b) = record {
      placed = λ t m. element_passes (two.MoveFrom (object_size of)) of a b (code_passes a) (code_passes b) t (pair (λ y. writes n y b) (laid n a Anywhere t) (laid n b Anywhere)) m;
      address = λ t g. finished_pair (two.MoveFrom (object_size of)) a b (code_passes a) (code_passes b) t (pair (λ y. writes n y b) (laid n a Anywhere t) (laid n b Anywhere)) g;
    }

    pub arguments_pass : (all : ArgumentTrees) → PassesAll all
    arguments_pass none t m = stays place top Has Leads Stand passing m
    arguments_pass (first e rest) t m = (
        let r = laid n e Anywhere t in let moved = is_moved (λ y. writes_any n y rest) r.value in
        let later = code_all n place top rest (behind_move moved r.next) m in
        let mid = move_if moved r.next r.value later in
        leads_on place top Has Leads Stand passing _ mid m (code_passes e t (To None mid)) (leads_on place top Has Leads Stand passing mid later m (move_leads place top Has Leads Stand passing moved r.next r.value later) (arguments_pass rest (behind_move moved r.next) m)))
