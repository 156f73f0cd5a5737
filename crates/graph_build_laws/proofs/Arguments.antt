-- The calls of an expression pass fewer arguments than it has nodes.
use Rattle.std.proofs.Common.{◌≡◌, ℕ, ◌+◌, ◌*◌, ◌≤◌, Bool, true, false, Option, Some, None, List, length, refl, sym, ap, ◌∙◌, subst, arith, if◌then◌else◌}
use Rattle.std.specs.Prelude.{not}
use Rattle.c_tree.specs.declared.types.IntegerType.{IntegerType}
use Rattle.c_tree.specs.declared.object_type.Scalar.{Scalar}
use Rattle.c_tree.specs.declared.typed_expression.Sign.{Sign}
use Rattle.c_tree.specs.declared.typed_expression.Sign.TheVariants.{Plus, Minus, Complement}
use Rattle.c_tree.specs.declared.typed_expression.Direction.TheVariants.{Up}
use Rattle.c_tree.specs.declared.typed_expression.Given.{Given}
use Rattle.c_tree.specs.declared.typed_expression.Given.TheVariants.{New, Old}
use Rattle.c_tree.specs.TypedExpressions.{RvalueTree, LvalueTree, ArgumentTrees, Constant, Null, Load, Decay, AddressOf, Convert, Discard, Signed, Not, Arithmetic, Compare, ComparePointers, Move, MoveFrom, Difference, And, Or, Conditional, Comma, Assign, Update, UpdatePointer, Step, StepPointer, Call, Named, Target, Element, ElementFrom, none, first}
use Rattle.c_type_rules.specs.Integers.{object_size}
use Rattle.c_type_laws.specs.Nodes.{nodes, place_nodes, argument_nodes}
use Rattle.c_type_rules.specs.ValueTypes.{type_of, given_by, is_void, is_pointer, integer_in}
use Rattle.word_base.specs.declared.operation.Operation.TheVariants as operation
use Rattle.graph_core.specs.Graphs as unit
use Rattle.graph_core.specs.Graphs.{Operand, Instruction, Operate, Truncate, Same, Block, Jump}
use Rattle.graph_core.specs.Validity.{arguments_in}
use Rattle.graph_build_names.specs.Conversions.{unsigned_bits, keeps_bits, is_kept_constant}
use Rattle.graph_build_names.specs.Operands.{held, operand_at}
use Rattle.graph_build_layout.specs.declared.laid.Use.TheVariants.{Anywhere, Nothing, Tested}
use Rattle.graph_build_names.specs.Names.{Names, scalar_named, pick}
use Rattle.graph_build_names.specs.Writes.{writes, writes_any, is_moved, is_location_moved}
use Rattle.graph_build_layout.specs.Laid.{Pair, PlaceLaid, pair, behind_move, behind_own, use_for}
use Rattle.graph_build_layout.specs.Layout.{laid, place_laid, passed_laid}
use Rattle.graph_build_steps.specs.Rules.{element_of, truncation_to, callee_for, steps_by}
use Rattle.graph_build_steps.specs.Drafts.{Made, Goal, To, Unused, Either, use_of, ending, leaf, label_of, with_inner_block, forked, valued, used, operated, move_if, hold_location, held_location, stored, noted, called_by}
use Rattle.graph_build_steps.specs.Drafts as drafts
use Rattle.graph_build_steps.specs.declared.site.Two as declared-two
use Rattle.graph_build_steps.specs.declared.site.Two.TheVariants as two
use Rattle.graph_build_steps.specs.declared.change.Change as declared-change
use Rattle.graph_build_steps.specs.declared.change.Change.TheVariants as change
use Rattle.graph_build_steps.specs.Steps.{in_turn, signed, finished, arm_use, arm_value, arm_goal, assigned_memory, updated, stepped, renewed_scalar, renewed_memory, loaded_first, left_memory, one_at}
use Rattle.graph_build_code.specs.Code.{code, code_place, code_address, code_all}
use Rattle.graph_build_laws.proofs.ArgumentPieces.{passed_in, made_arguments, goal_arguments, closed_arguments, leaf_arguments, valued_arguments, used_arguments, move_arguments, stored_arguments, called_arguments, forked_arguments, operated_arguments, finished_arguments, renewed_arguments, memory_arguments, loaded_arguments, left_scalar_arguments, left_memory_arguments, object_arguments}
use Rattle.graph_build_laws.proofs.NamesAgain.{least_nodes, least_place}

module _ (n : Names) (place top : ℕ) where
  -- an expression's calls pass fewer arguments than it has nodes
  abbrev pub PassesFew : RvalueTree → Type 0
  PassesFew e = (t : ℕ) (g : Goal) → made_arguments (code n place top e t g) + 1 ≤ goal_arguments g + nodes e

  pub record PlacePassesFew (l : LvalueTree) : Type 0 where
    pub placed : (t : ℕ) (m : Made) → made_arguments (code_place n place top l t m) + 1 ≤ made_arguments m + place_nodes l
    pub address : (t : ℕ) (g : Goal) → made_arguments (code_address n place top l t g) + 1 ≤ goal_arguments g + place_nodes l

  abbrev pub AllPassFew : ArgumentTrees → Type 0
  AllPassFew all = (t : ℕ) (m : Made) → made_arguments (code_all n place top all t m) + length (passed_laid n all t).values ≤ made_arguments m + argument_nodes all

  turn_arguments : (a b : RvalueTree) → PassesFew a → PassesFew b → (t : ℕ) (q : Pair) (last : Made) → made_arguments (in_turn (code n place top a) (code n place top b) t q last) + 2 ≤ made_arguments last + (nodes a + nodes b)
  turn_arguments a b ha hb t q last =
      let second = code n place top b q.from (To None last) in
      omega (arith, ha t (To None (move_if q.moved q.moved_to q.first second)), move_arguments q.moved q.moved_to q.first second, hb q.from (To None last))

  pair_arguments : (k : declared-two.Two) (a b : RvalueTree) → PassesFew a → PassesFew b → (t : ℕ) (q : Pair) (g : Goal) → made_arguments (in_turn (code n place top a) (code n place top b) t q (finished n k g t q)) + 2 ≤ goal_arguments g + (nodes a + nodes b)
  pair_arguments k a b ha hb t q g = omega (arith, turn_arguments a b ha hb t q (finished n k g t q), finished_arguments n k g t q)

  load_arguments : (s : Scalar) (l : LvalueTree) → PlacePassesFew l → (t : ℕ) (g : Goal) → (o : Option ℕ) →
      made_arguments (elim o as (λ p. Made) [
        | Some x ↦ leaf g (unit.Name x)
        | None ↦ code_place n place top l t (operated n g t (place_laid n l t).next (λ x. unit.Load x (element_of s) (place_laid n l t).location))
      ]) + 1 ≤ goal_arguments g + place_nodes l
  load_arguments s l h t g (Some x) = omega (arith, leaf_arguments g (unit.Name x), least_place l)
  load_arguments s l h t g None =
      let i : ℕ → Instruction = λ x. unit.Load x (element_of s) (place_laid n l t).location in
      omega (arith, h.placed t (operated n g t (place_laid n l t).next i), operated_arguments n g t (place_laid n l t).next i (λ x. refl))

  convert_arguments : (ty : IntegerType) (e : RvalueTree) → PassesFew e → (t : ℕ) (g : Goal) → (b c : Bool) →
      made_arguments (if b then code n place top e t (valued g (laid n e Anywhere t).value) else code n place top e t (To None (if c then leaf g (laid n e Anywhere t).value else operated n g t (laid n e Anywhere t).next (λ x. Truncate x (truncation_to ty) (laid n e Anywhere t).value)))) + 1 ≤ goal_arguments g + nodes e
  convert_arguments ty e h t g true c = omega (arith, h t (valued g (laid n e Anywhere t).value), valued_arguments g (laid n e Anywhere t).value)
  convert_arguments ty e h t g false true = omega (arith, h t (To None (leaf g (laid n e Anywhere t).value)), leaf_arguments g (laid n e Anywhere t).value)
  convert_arguments ty e h t g false false =
      let i : ℕ → Instruction = λ x. Truncate x (truncation_to ty) (laid n e Anywhere t).value in
      omega (arith, h t (To None (operated n g t (laid n e Anywhere t).next i)), operated_arguments n g t (laid n e Anywhere t).next i (λ x. refl))

  one_arguments : (e : RvalueTree) → PassesFew e → (t : ℕ) (g : Goal) (i : ℕ → Instruction) → ((x : ℕ) → arguments_in (i x) ≡ 0) → made_arguments (code n place top e t (To None (operated n g t (laid n e Anywhere t).next i))) + 1 ≤ goal_arguments g + (nodes e + 1)
  one_arguments e h t g i k = omega (arith, h t (To None (operated n g t (laid n e Anywhere t).next i)), operated_arguments n g t (laid n e Anywhere t).next i k)

  not_none : (b : Bool) (a : Operand) (x : ℕ) → arguments_in (if b then Same x a (drafts.zero) else Operate x operation.Sltu a (unit.Constant 1)) ≡ 0
  not_none true a x = refl
  not_none false a x = refl

  signed_none : (o : Sign) (a : Operand) (x : ℕ) → arguments_in (signed o a x) ≡ 0
  signed_none Plus a x = refl
  signed_none Minus a x = refl
  signed_none Complement a x = refl

  not_arguments : (e : RvalueTree) → PassesFew e → PassesFew (Not e)
  not_arguments e h t (Either one other blocks) = omega (arith, h t (Either other one blocks))
  not_arguments e h t (To want m) = one_arguments e h t (To want m) (λ x. if is_pointer (type_of n.results e) then Same x (laid n e Anywhere t).value (drafts.zero) else Operate x operation.Sltu (laid n e Anywhere t).value (unit.Constant 1)) (λ x. not_none (is_pointer (type_of n.results e)) (laid n e Anywhere t).value x)
  not_arguments e h t (Unused m) = one_arguments e h t (Unused m) (λ x. if is_pointer (type_of n.results e) then Same x (laid n e Anywhere t).value (drafts.zero) else Operate x operation.Sltu (laid n e Anywhere t).value (unit.Constant 1)) (λ x. not_none (is_pointer (type_of n.results e)) (laid n e Anywhere t).value x)

  both_arguments : (a b : RvalueTree) → PassesFew a → PassesFew b → (g : Goal) (t at later one_a other_a : ℕ) →
      made_arguments (code n place top a at (Either one_a other_a (with_inner_block place (code n place top b later (Either (forked place top g t).one (forked place top g t).other (forked place top g t).inner))))) + 2 ≤ goal_arguments g + (nodes a + nodes b)
  both_arguments a b ha hb g t at later one_a other_a =
      let way = forked place top g t in
      let m = code n place top b later (Either way.one way.other way.inner) in
      omega (arith, ha at (Either one_a other_a (with_inner_block place m)), closed_arguments place m, hb later (Either way.one way.other way.inner), forked_arguments place top g t)

  arm_arguments : (void : Bool) (e : RvalueTree) → PassesFew e → (t at : ℕ) (m : Made) → made_arguments (code n place top e at (arm_goal void t m)) + 1 ≤ made_arguments m + nodes e
  arm_arguments true e h t at m = h at (Unused m)
  arm_arguments false e h t at m = h at (To (Some t) m)

  conditional_arguments : (c a b : RvalueTree) → PassesFew c → PassesFew a → PassesFew b → PassesFew (Conditional c a b)
  conditional_arguments c a b hc ha hb t g =
      let void = is_void (type_of n.results a) in let at = behind_move (not void) t in
      let at_a = pick n at (laid n c Tested at).top in let at_b = pick n at (laid n a (arm_use void t) at_a).top in
      let m = leaf g (arm_value void t) in
      let join = ending (Jump (label_of top m)) (with_inner_block place m) in
      let y = code n place top b at_b (arm_goal void t join) in
      let join_a = ending (Jump (label_of top m)) (with_inner_block place y) in
      let x = code n place top a at_a (arm_goal void t join_a) in
      omega (arith, hc at (Either (label_of top x) (label_of top y) (with_inner_block place x)), closed_arguments place x, arm_arguments void a ha t at_a join_a, closed_arguments place y, arm_arguments void b hb t at_b join, closed_arguments place m, leaf_arguments g (arm_value void t))

  assigned_arguments : (g : Goal) (q : PlaceLaid) (moved : Bool) (s : Scalar) (e : RvalueTree) → PassesFew e → (t : ℕ) (a : Operand) → made_arguments (code n place top e t (assigned_memory g q moved (element_of s) a)) + 1 ≤ goal_arguments g + nodes e
  assigned_arguments (To (Some x) m) q moved s e h t a = omega (arith, h t (To (Some x) (stored (element_of s) (held_location moved q.next q.location) a (To (Some x) m))), stored_arguments (element_of s) (held_location moved q.next q.location) a (To (Some x) m))
  assigned_arguments (To None m) q moved s e h t a = omega (arith, h t (To None (stored (element_of s) (held_location moved q.next q.location) a (To None m))), stored_arguments (element_of s) (held_location moved q.next q.location) a (To None m))
  assigned_arguments (Unused m) q moved s e h t a = omega (arith, h t (To None (stored (element_of s) (held_location moved q.next q.location) a (Unused m))), stored_arguments (element_of s) (held_location moved q.next q.location) a (Unused m))
  assigned_arguments (Either one other blocks) q moved s e h t a = omega (arith, h t (To None (stored (element_of s) (held_location moved q.next q.location) a (Either one other blocks))), stored_arguments (element_of s) (held_location moved q.next q.location) a (Either one other blocks))

  assign_arguments : (s : Scalar) (l : LvalueTree) (e : RvalueTree) → PlacePassesFew l → PassesFew e → (t : ℕ) (g : Goal) → (o : Option ℕ) →
      made_arguments (elim o as (λ p. Made) [
        | Some x ↦ code n place top e t (To (Some x) (noted x g))
        | None ↦ let q = place_laid n l t in let moved = is_location_moved (λ y. writes n y e) q.location in let from = behind_move moved q.next in
            code_place n place top l t (hold_location moved q.next q.location (code n place top e from (assigned_memory g q moved (element_of s) (laid n e (use_for None (use_of g)) from).value)))
      ]) + 1 ≤ goal_arguments g + (place_nodes l + nodes e + 1)
  assign_arguments s l e hl he t g (Some x) = omega (arith, he t (To (Some x) (noted x g)), leaf_arguments g (unit.Name x))
  assign_arguments s l e hl he t g None =
      let q = place_laid n l t in let moved = is_location_moved (λ y. writes n y e) q.location in let from = behind_move moved q.next in
      let a = (laid n e (use_for None (use_of g)) from).value in
      let value = code n place top e from (assigned_memory g q moved (element_of s) a) in
      omega (arith, hl.placed t (hold_location moved q.next q.location value), move_arguments moved q.next (operand_at q.location) value, assigned_arguments g q moved s e he from a)

  update_arguments : (c : declared-change.Change) (l : LvalueTree) (e : RvalueTree) → PlacePassesFew l → PassesFew e → (t : ℕ) (g : Goal) → (o : Option ℕ) →
      made_arguments (updated n o c (λ y. writes n y e) (place_laid n l t) t (code n place top e) (laid n e Anywhere) (code_place n place top l t) g) + 1 ≤ goal_arguments g + (place_nodes l + nodes e + 1)
  update_arguments c l e hl he t g (Some x) =
      let moved = writes n x e in let from = behind_move moved t in
      let last = renewed_scalar c x (held moved (unit.Name x) t) (laid n e Anywhere from) g in
      omega (arith, move_arguments moved t (unit.Name x) (code n place top e from (To None last)), he from (To None last), renewed_arguments n c x (held moved (unit.Name x) t) (laid n e Anywhere from) g)
  update_arguments c l e hl he t g None =
      let q = place_laid n l t in
      let moved = is_location_moved (λ y. writes n y e) q.location in let from = behind_move moved (q.next + 1) in
      let last = renewed_memory n c q moved (laid n e Anywhere from) g in
      let value = code n place top e from (To None last) in
      omega (arith, hl.placed t (loaded_first c q moved value), loaded_arguments n c q moved value, he from (To None last), memory_arguments n c q moved (laid n e Anywhere from) g)

  step_arguments : (c : declared-change.Change) (k : Given) (l : LvalueTree) → PlacePassesFew l → (t : ℕ) (g : Goal) → (o : Option ℕ) →
      made_arguments (stepped n o c k (place_laid n l t) t (code_place n place top l t) g) + 1 ≤ goal_arguments g + (place_nodes l + 2)
  step_arguments c New l h t g (Some x) = omega (arith, renewed_arguments n c x (unit.Name x) (one_at t) g)
  step_arguments c New l h t g None =
      let q = place_laid n l t in let last = renewed_memory n c q false (one_at (q.next + 1)) g in
      omega (arith, h.placed t (loaded_first c q false last), loaded_arguments n c q false last, memory_arguments n c q false (one_at (q.next + 1)) g)
  step_arguments c Old l h t g (Some x) = omega (arith, left_scalar_arguments n c x t g)
  step_arguments c Old l h t g None = let q = place_laid n l t in omega (arith, h.placed t (left_memory c q g), left_memory_arguments n c q g)

  two_arguments : (k : declared-two.Two) (a b : RvalueTree) → PassesFew a → PassesFew b → (t : ℕ) (q : Pair) (g : Goal) → made_arguments (in_turn (code n place top a) (code n place top b) t q (finished n k g t q)) + 1 ≤ goal_arguments g + (nodes a + nodes b + 1)
  two_arguments k a b ha hb t q g = omega (arith, pair_arguments k a b ha hb t q g)

  first_arguments : (e : RvalueTree) (rest : ArgumentTrees) → PassesFew e → AllPassFew rest → AllPassFew (first e rest)
  first_arguments e rest h k t m =
      let r = laid n e Anywhere t in let moved = is_moved (λ y. writes_any n y rest) r.value in
      let later = code_all n place top rest (behind_move moved r.next) m in
      omega (arith, h t (To None (move_if moved r.next r.value later)), move_arguments moved r.next r.value later, k (behind_move moved r.next) m)

  call_arguments : (c : Rattle.c_tree.specs.declared.typed_expression.Callee.Callee) (all : ArgumentTrees) → AllPassFew all → PassesFew (Call c all)
  call_arguments c all h t g =
      let q = passed_laid n all t in
      let i : Option ℕ → Instruction = λ x. unit.Call x (callee_for c) q.values in
      omega (arith, h t (called_by (is_void (given_by n.results c)) g (pick n t q.next) i), called_arguments (is_void (given_by n.results c)) g (pick n t q.next) (length q.values) i (λ o. refl))

  mutual
    pub code_arguments : (e : RvalueTree) → PassesFew e
    code_arguments (Constant z ty) t g = omega (arith, leaf_arguments g (unit.Constant (unsigned_bits z)))
    code_arguments Null t g = omega (arith, leaf_arguments g (drafts.zero))
    code_arguments (Load s l) t g = load_arguments s l (place_arguments l) t g (scalar_named n l)
    code_arguments (Decay l) t g = (place_arguments l).address t g
    code_arguments (AddressOf l) t g = omega (arith, (place_arguments l).address t g)
    code_arguments (Convert ty e) t g = convert_arguments ty e (code_arguments e) t g (keeps_bits (integer_in (type_of n.results e)) ty) (is_kept_constant ty (laid n e Anywhere t).value)
    code_arguments (Discard e) t g = omega (arith, code_arguments e t (Unused (leaf g (drafts.zero))), leaf_arguments g (drafts.zero))
    code_arguments (Signed Plus ty e) t g = omega (arith, code_arguments e t (valued g (laid n e Anywhere t).value), valued_arguments g (laid n e Anywhere t).value)
    code_arguments (Signed Minus ty e) t g = one_arguments e (code_arguments e) t g (signed Minus (laid n e Anywhere t).value) (signed_none Minus (laid n e Anywhere t).value)
    code_arguments (Signed Complement ty e) t g = one_arguments e (code_arguments e) t g (signed Complement (laid n e Anywhere t).value) (signed_none Complement (laid n e Anywhere t).value)
    code_arguments (Not e) t g = not_arguments e (code_arguments e) t g
    code_arguments (Arithmetic o ty a b) t g = two_arguments (two.Arithmetic o ty) a b (code_arguments a) (code_arguments b) t (pair (λ y. writes n y b) (laid n a Anywhere t) (laid n b Anywhere)) g
    code_arguments (Compare o ty a b) t g = two_arguments (two.Compare o ty) a b (code_arguments a) (code_arguments b) t (pair (λ y. writes n y b) (laid n a Anywhere t) (laid n b Anywhere)) g
    code_arguments (ComparePointers o a b) t g = two_arguments (two.ComparePointers o) a b (code_arguments a) (code_arguments b) t (pair (λ y. writes n y b) (laid n a Anywhere t) (laid n b Anywhere)) g
    code_arguments (Move d of a b) t g = two_arguments (two.Move d (object_size of)) a b (code_arguments a) (code_arguments b) t (pair (λ y. writes n y b) (laid n a Anywhere t) (laid n b Anywhere)) g
    code_arguments (MoveFrom a of b) t g = two_arguments (two.MoveFrom (object_size of)) a b (code_arguments a) (code_arguments b) t (pair (λ y. writes n y b) (laid n a Anywhere t) (laid n b Anywhere)) g
    code_arguments (Difference of a b) t g = two_arguments (two.Difference (object_size of)) a b (code_arguments a) (code_arguments b) t (pair (λ y. writes n y b) (laid n a Anywhere t) (laid n b Anywhere)) g
    code_arguments (And a b) t g = (
        let at = behind_own (use_of g) t in let later = pick n at (laid n a Tested at).top in
        let way = forked place top g t in
        let m = code n place top b later (Either way.one way.other way.inner) in
        omega (arith, both_arguments a b (code_arguments a) (code_arguments b) g t at later (label_of top m) way.other))
    code_arguments (Or a b) t g = (
        let at = behind_own (use_of g) t in let later = pick n at (laid n a Tested at).top in
        let way = forked place top g t in
        let m = code n place top b later (Either way.one way.other way.inner) in
        omega (arith, both_arguments a b (code_arguments a) (code_arguments b) g t at later way.one (label_of top m)))
    code_arguments (Conditional c a b) t g = conditional_arguments c a b (code_arguments c) (code_arguments a) (code_arguments b) t g
    code_arguments (Comma a b) t g = omega (arith, code_arguments a t (Unused (code n place top b (pick n t (laid n a Nothing t).top) g)), code_arguments b (pick n t (laid n a Nothing t).top) g)
    code_arguments (Assign s l e) t g = assign_arguments s l e (place_arguments l) (code_arguments e) t g (scalar_named n l)
    code_arguments (Update o ty v l e) t g = update_arguments (change.Integer o ty v) l e (place_arguments l) (code_arguments e) t g (scalar_named n l)
    code_arguments (UpdatePointer d of l e) t g = update_arguments (change.Pointer d (object_size of)) l e (place_arguments l) (code_arguments e) t g (scalar_named n l)
    code_arguments (Step d k ty v l) t g = step_arguments (change.Integer (steps_by d) ty v) k l (place_arguments l) t g (scalar_named n l)
    code_arguments (StepPointer d k of l) t g = step_arguments (change.Pointer d (object_size of)) k l (place_arguments l) t g (scalar_named n l)
    code_arguments (Call c all) t g = call_arguments c all (all_arguments all) t g

    pub place_arguments : (l : LvalueTree) → PlacePassesFew l
    place_arguments (Named o of) = record { placed = λ t m. omega arith; address = λ t g. omega (arith, object_arguments n o t g) }
    place_arguments (Target of e) = record {
      placed = λ t m. omega (arith, code_arguments e t (To None m));
      address = λ t g. omega (arith, code_arguments e t (valued (used g) (laid n e Anywhere t).value), valued_arguments (used g) (laid n e Anywhere t).value, used_arguments g);
    }
    place_arguments (Element of a b) = record {
      placed = λ t m. two_arguments (two.Move Up (object_size of)) a b (code_arguments a) (code_arguments b) t (pair (λ y. writes n y b) (laid n a Anywhere t) (laid n b Anywhere)) (To None m);
      address = λ t g. two_arguments (two.Move Up (object_size of)) a b (code_arguments a) (code_arguments b) t (pair (λ y. writes n y b) (laid n a Anywhere t) (laid n b Anywhere)) g;
    }
    place_arguments (ElementFrom of a b) = record {
      placed = λ t m. two_arguments (two.MoveFrom (object_size of)) a b (code_arguments a) (code_arguments b) t (pair (λ y. writes n y b) (laid n a Anywhere t) (laid n b Anywhere)) (To None m);
      address = λ t g. two_arguments (two.MoveFrom (object_size of)) a b (code_arguments a) (code_arguments b) t (pair (λ y. writes n y b) (laid n a Anywhere t) (laid n b Anywhere)) g;
    }

    pub all_arguments : (all : ArgumentTrees) → AllPassFew all
    all_arguments none = λ t m. omega arith
    all_arguments (first e rest) = first_arguments e rest (code_arguments e) (all_arguments rest)
