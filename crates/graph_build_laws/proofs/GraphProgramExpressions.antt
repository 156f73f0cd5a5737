-- The code of expressions that name what is there names what is there.
use Rattle.std.proofs.Common.{◌≡◌, ℕ, ◌+◌, ◌≤◌, ◌<◌, Bool, true, false, Option, Some, None, refl, sym, subst, arith, if◌then◌else◌}
use Rattle.std.specs.Prelude.{max, not}
use Rattle.c_tree.specs.declared.types.IntegerType.{IntegerType}
use Rattle.c_tree.specs.declared.object_type.Scalar.{Scalar}
use Rattle.c_tree.specs.declared.typed_expression.Sign.TheVariants.{Plus, Minus, Complement}
use Rattle.c_tree.specs.declared.typed_expression.Direction.TheVariants.{Up}
use Rattle.c_tree.specs.declared.typed_expression.Given.{Given}
use Rattle.c_tree.specs.declared.typed_expression.Given.TheVariants.{New, Old}
use Rattle.c_tree.specs.TypedExpressions.{RvalueTree, LvalueTree, ArgumentTrees, Constant, Null, Load, Decay, AddressOf, Convert, Discard, Signed, Not, Arithmetic, Compare, ComparePointers, Move, MoveFrom, Difference, And, Or, Conditional, Comma, Assign, Update, UpdatePointer, Step, StepPointer, Call, Named, Target, Element, ElementFrom, none, first}
use Rattle.c_type_rules.specs.Integers.{object_size}
use Rattle.c_type_rules.specs.ValueTypes.{type_of, given_by, is_void, is_pointer, integer_in}
use Rattle.word_base.specs.declared.operation.Operation.TheVariants as operation
use Rattle.graph_core.specs.Graphs as unit
use Rattle.graph_core.specs.Graphs.{Operand, Instruction, Operate, Truncate, Same, Block, Jump}
use Rattle.graph_core.specs.Validity.{IsInstruction, IsCall}
use Rattle.graph_build_names.specs.Conversions.{unsigned_bits, keeps_bits, is_narrow, is_kept_constant}
use Rattle.graph_build_names.specs.Operands.{held}
use Rattle.graph_build_names.specs.Scales.{is_scaled}
use Rattle.graph_build_layout.specs.declared.laid.Use.{Use}
use Rattle.graph_build_layout.specs.declared.laid.Use.TheVariants.{Anywhere, In, Nothing, Tested}
use Rattle.graph_build_names.specs.Names.{pick, scalar_named}
use Rattle.graph_build_names.specs.Writes.{writes, writes_any, is_moved, is_location_moved}
use Rattle.graph_build_layout.specs.Laid.{Laid, Pair, PlaceLaid, pair, behind_move, behind_own, as_value, worked, use_for, operation_laid, standing, converted_laid, both_laid, void_arms_laid, arms_laid, begun_at, assigned_laid, begun_behind, updated_laid, left_scalar_laid, left_memory_laid, step_laid, called_laid, loaded_laid}
use Rattle.graph_build_layout.specs.Layout.{laid, place_laid, address_laid, passed_laid}
use Rattle.graph_build_steps.specs.Rules.{element_of, truncation_to, callee_for, steps_by}
use Rattle.graph_build_steps.specs.Drafts.{Made, Goal, To, Unused, Either, use_of, instruction_before, ending, leaf, label_of, with_inner_block, forked, valued, used, operated, move_if, hold_location, held_location, stored, noted, called_by}
use Rattle.graph_build_steps.specs.Drafts as drafts
use Rattle.graph_build_steps.specs.declared.site.Two as declared-two
use Rattle.graph_build_steps.specs.declared.site.Two.TheVariants as two
use Rattle.graph_build_steps.specs.declared.change.Change as declared-change
use Rattle.graph_build_steps.specs.declared.change.Change.TheVariants as change
use Rattle.graph_build_steps.specs.Steps.{in_turn, signed, finished, arm_use, arm_value, arm_goal, assigned_memory, updated, stepped, takes_more, renewed_scalar, renewed_memory, loaded_first, left_memory, one_at}
use Rattle.graph_build_code.specs.Code.{code, code_place, code_address, code_all}
use Rattle.graph_build_laws.proofs.Temporaries.{behind, moved_behind}
use Rattle.graph_build_laws.proofs.Naming.{HasAddress, ArgumentsName}
use Rattle.graph_build_laws.proofs.Values.{Setting, n, most, Stands, E, L, named_there, named_within, standing_top, operation_most, held_value, value_stands, location_stands, passed_stand, as_many_passed}
use Rattle.graph_build_laws.proofs.GraphProgramPieces.{taken, moved_least, IsMade, IsGoal, IsWant, Loc, ending_is, leaf_is, operated_is, noted_is, move_is, hold_is, held_is, stored_is, called_is, valued_is, valued_use, used_is, used_use, used_tested, StandsPair, FinishedWithin, finished_top, finished_is, renewed_is, memory_is, loaded_is, left_scalar_is, left_memory_is, object_is, signed_is, closed_is, forked_is}

module _ (x : Setting) (place top : ℕ) (Own : ℕ → Type 0) (own : Own place) where
  -- For each goal whose names are there, and that names what is there, the code of an expression does.
  abbrev pub HasCode : RvalueTree → Type 0
  HasCode e = (t : ℕ) (g : Goal) → (laid (n x) e (use_of g) t).top ≤ most x → IsGoal x Own g → IsMade x Own (code (n x) place top e t g)

  abbrev F : Made → Type 0
  F m = IsMade x Own m

  abbrev G : Goal → Type 0
  G g = IsGoal x Own g

  -- what an lvalue's code does
  pub record HasPlace (l : LvalueTree) : Type 0 where
    pub placed : (t : ℕ) (m : Made) → (place_laid (n x) l t).top ≤ most x → F m → F (code_place (n x) place top l t m)
    pub address : (t : ℕ) (g : Goal) → HasAddress x.program x.unit.graphs (n x) l → (address_laid (n x) l (use_of g) t).top ≤ most x → G g → F (code_address (n x) place top l t g)

  abbrev pub HaveCode : ArgumentTrees → Type 0
  HaveCode all = (t : ℕ) (m : Made) → (passed_laid (n x) all t).top ≤ most x → F m → F (code_all (n x) place top all t m)

  -- two values in turn
  abbrev pair_of : (a b : RvalueTree) → ℕ → Pair
  pair_of a b t = pair (λ y. writes (n x) y b) (laid (n x) a Anywhere t) (laid (n x) b Anywhere)

  moved_up : (b : Bool) (k m : ℕ) → behind_move b k ≤ m → b ≡ true → k < m
  moved_up b k m h e = taken b k m h e

  pair_stands : (a b : RvalueTree) → E x a → E x b → (t : ℕ) → (pair_of a b t).top ≤ most x → StandsPair x Own t (pair_of a b t)
  pair_stands a b ha hb t le =
      let r = laid (n x) a Anywhere t in
      let moved = is_moved (λ y. writes (n x) y b) r.value in
      let from = behind_move moved r.next in
      let s = laid (n x) b Anywhere from in
      let tops : max r.top (max from s.top) ≤ most x = le in
      let first = behind (n x) a Anywhere t in
      let second = behind (n x) b Anywhere from in
      let up = moved_behind moved r.next in
      record {
        left = held_value x moved r.value r.next (value_stands x a ha Anywhere t tt (omega (arith, tops))) (λ e. moved_up moved r.next (most x) (omega (arith, tops)) e);
        right = value_stands x b hb Anywhere from tt (omega (arith, tops));
        least = omega (arith, first.0, up.0, second.0);
      }

  turn_is : (a b : RvalueTree) → E x a → HasCode a → HasCode b → (t : ℕ) (last : Made) → (pair_of a b t).top ≤ most x → F last → F (in_turn (code (n x) place top a) (code (n x) place top b) t (pair_of a b t) last)
  turn_is a b ea ha hb t last le k =
      let r = laid (n x) a Anywhere t in
      let moved = is_moved (λ y. writes (n x) y b) r.value in
      let from = behind_move moved r.next in
      let tops : max r.top (max from (laid (n x) b Anywhere from).top) ≤ most x = le in
      let second = code (n x) place top b from (To None last) in
      let mid = move_if moved r.next r.value second in
      let stands = value_stands x a ea Anywhere t tt (omega (arith, tops)) in
      ha t (To None mid) (omega (arith, tops)) (tt, move_is x Own moved r.next r.value second (λ e. moved_up moved r.next (most x) (omega (arith, tops)) e) stands (hb from (To None last) (omega (arith, tops)) (tt, k)))

  pair_is : (k : declared-two.Two) (a b : RvalueTree) → E x a → E x b → HasCode a → HasCode b → (t : ℕ) (g : Goal) → FinishedWithin x Own k (use_of g) t (pair_of a b t) → G g → F (in_turn (code (n x) place top a) (code (n x) place top b) t (pair_of a b t) (finished (n x) k g t (pair_of a b t)))
  pair_is k a b ea eb ha hb t g le h =
      let q = pair_of a b t in
      let top_is = finished_top x Own k (use_of g) t q le in
      turn_is a b ea ha hb t (finished (n x) k g t q) top_is (finished_is x Own k g t q (pair_stands a b ea eb t top_is) le h)

  load_is : (s : Scalar) (l : LvalueTree) → L x l → HasPlace l → (t : ℕ) (g : Goal) (o : Option ℕ) → scalar_named (n x) l ≡ o → (loaded_laid (n x) (use_of g) o t (place_laid (n x) l t)).top ≤ most x → G g →
      F (elim o [
        | Some y ↦ leaf g (unit.Name y)
        | None ↦ code_place (n x) place top l t (operated (n x) g t (place_laid (n x) l t).next (λ y. unit.Load y (element_of s) (place_laid (n x) l t).location))
      ])
  load_is s l names h t g (Some y) is le k = leaf_is x Own g (unit.Name y) (named_within x l y is) k
  load_is s l names h t g None is le k =
      let q = place_laid (n x) l t in
      let i : ℕ → Instruction = λ y. unit.Load y (element_of s) q.location in
      let tops = operation_most x (use_of g) t q.next q.top le in
      h.placed t (operated (n x) g t q.next i) tops.1 (operated_is x Own g t q.next q.top i (λ y less. (less, location_stands x l names is t tops.1)) le k)

  -- what passes the value on
  valued_code : (e : RvalueTree) → E x e → HasCode e → (t : ℕ) (g : Goal) → (laid (n x) e (as_value (use_of g)) t).top ≤ most x → G g → F (code (n x) place top e t (valued g (laid (n x) e Anywhere t).value))
  valued_code e ee h t g le k =
      let a = (laid (n x) e Anywhere t).value in
      let stands : use_of g ≡ Tested → Stands x a = λ is. value_stands x e ee Anywhere t tt (subst (λ u. (laid (n x) e (as_value u) t).top ≤ most x) is le) in
      h t (valued g a) (subst (λ u. (laid (n x) e u t).top ≤ most x) (sym (valued_use x Own g a)) le) (valued_is x Own g a stands k)

  convert_is : (ty : IntegerType) (e : RvalueTree) → E x e → HasCode e → (t : ℕ) (g : Goal) (b : Bool) → (if b then laid (n x) e (as_value (use_of g)) t else converted_laid (n x) (use_of g) ty t (laid (n x) e Anywhere t)).top ≤ most x → G g →
      F (if b then code (n x) place top e t (valued g (laid (n x) e Anywhere t).value) else code (n x) place top e t (To None (if is_kept_constant ty (laid (n x) e Anywhere t).value then leaf g (laid (n x) e Anywhere t).value else operated (n x) g t (laid (n x) e Anywhere t).next (λ y. Truncate y (truncation_to ty) (laid (n x) e Anywhere t).value))))
  convert_is ty e ee h t g true le k = valued_code e ee h t g le k
  convert_is ty e ee h t g false le k = go (is_kept_constant ty r.value) le
    where
      r : Laid
      r = laid (n x) e Anywhere t

      go : (c : Bool) → (if c then standing (n x) (use_of g) t r else operation_laid (n x) (use_of g) t r.next r.top).top ≤ most x →
          F (code (n x) place top e t (To None (if c then leaf g r.value else operated (n x) g t r.next (λ y. Truncate y (truncation_to ty) r.value))))
      go true le =
          let small : r.top ≤ most x = subst (λ m. m ≤ most x) (standing_top x (use_of g) t r) le in
          h t (To None (leaf g r.value)) small (tt, leaf_is x Own g r.value (value_stands x e ee Anywhere t tt small) k)
      go false le =
          let small = (operation_most x (use_of g) t r.next r.top le).1 in
          let i : ℕ → Instruction = λ y. Truncate y (truncation_to ty) r.value in
          h t (To None (operated (n x) g t r.next i)) small (tt, operated_is x Own g t r.next r.top i (λ y less. (less, value_stands x e ee Anywhere t tt small)) le k)

  -- an operation on one value
  one_value : (e : RvalueTree) → E x e → HasCode e → (t : ℕ) (g : Goal) (i : Operand → ℕ → Instruction) → ((a : Operand) (y : ℕ) → Stands x a → y < most x → IsInstruction x.unit x.graph (i a y)) →
      (operation_laid (n x) (use_of g) t (laid (n x) e Anywhere t).next (laid (n x) e Anywhere t).top).top ≤ most x → G g → F (code (n x) place top e t (To None (operated (n x) g t (laid (n x) e Anywhere t).next (i (laid (n x) e Anywhere t).value))))
  one_value e ee h t g i is le k =
      let r = laid (n x) e Anywhere t in
      let small = (operation_most x (use_of g) t r.next r.top le).1 in
      let stands = value_stands x e ee Anywhere t tt small in
      h t (To None (operated (n x) g t r.next (i r.value))) small (tt, operated_is x Own g t r.next r.top (i r.value) (λ y less. is r.value y stands less) le k)

  not_instruction : (b : Bool) (a : Operand) (y : ℕ) → Stands x a → y < most x → IsInstruction x.unit x.graph (if b then Same y a drafts.zero else Operate y operation.Sltu a (unit.Constant 1))
  not_instruction true a y h less = (less, h, tt)
  not_instruction false a y h less = (less, h, tt)

  not_is : (e : RvalueTree) → E x e → HasCode e → HasCode (Not e)
  not_is e ee h t (Either one other inner) le k = h t (Either other one inner) le k
  not_is e ee h t (To None m) le k = one_value e ee h t (To None m) (λ a y. if is_pointer (type_of (n x).results e) then Same y a drafts.zero else Operate y operation.Sltu a (unit.Constant 1)) (not_instruction (is_pointer (type_of (n x).results e))) le k
  not_is e ee h t (To (Some z) m) le k = one_value e ee h t (To (Some z) m) (λ a y. if is_pointer (type_of (n x).results e) then Same y a drafts.zero else Operate y operation.Sltu a (unit.Constant 1)) (not_instruction (is_pointer (type_of (n x).results e))) le k
  not_is e ee h t (Unused m) le k = one_value e ee h t (Unused m) (λ a y. if is_pointer (type_of (n x).results e) then Same y a drafts.zero else Operate y operation.Sltu a (unit.Constant 1)) (not_instruction (is_pointer (type_of (n x).results e))) le k

  -- `&&` and `||`
  both_top : (u : Use) (t : ℕ) (a b : ℕ → Laid) → ((k : ℕ) → k ≤ (a k).top) → (both_laid (n x) u t a b).top ≤ most x →
      ((a (behind_own u t)).top ≤ most x) × ((b (pick (n x) (behind_own u t) (a (behind_own u t)).top)).top ≤ most x) × ((u ≡ Tested → ⊥) → t < most x)
  both_top Tested t a b h le = (omega (arith, le), omega (arith, le), λ no. absurd (no refl))
  both_top Anywhere t a b h le = let z = h (t + 1) in (omega (arith, le), omega (arith, le), λ no. omega (arith, le, z))
  both_top Nothing t a b h le = let z = h (t + 1) in (omega (arith, le), omega (arith, le), λ no. omega (arith, le, z))
  both_top (In y) t a b h le = let z = h (t + 1) in (omega (arith, le), omega (arith, le), λ no. omega (arith, le, z))

  least_top : (e : RvalueTree) (u : Use) (t : ℕ) → t ≤ (laid (n x) e u t).top
  least_top e u t = let b = behind (n x) e u t in omega (arith, b.0, b.1)

  and_is : (a b : RvalueTree) → HasCode a → HasCode b → HasCode (And a b)
  and_is a b ha hb t g le k =
      let tops = both_top (use_of g) t (laid (n x) a Tested) (laid (n x) b Tested) (least_top a Tested) le in
      let at = behind_own (use_of g) t in
      let way = forked place top g t in
      let m = code (n x) place top b (pick (n x) at (laid (n x) a Tested at).top) (Either way.one way.other way.inner) in
      ha at (Either (label_of top m) way.other (with_inner_block place m)) tops.0 (closed_is x Own place top own m (hb (pick (n x) at (laid (n x) a Tested at).top) (Either way.one way.other way.inner) tops.1 (forked_is x Own place top own g t tops.2 k)))

  or_is : (a b : RvalueTree) → HasCode a → HasCode b → HasCode (Or a b)
  or_is a b ha hb t g le k =
      let tops = both_top (use_of g) t (laid (n x) a Tested) (laid (n x) b Tested) (least_top a Tested) le in
      let at = behind_own (use_of g) t in
      let way = forked place top g t in
      let m = code (n x) place top b (pick (n x) at (laid (n x) a Tested at).top) (Either way.one way.other way.inner) in
      ha at (Either way.one (label_of top m) (with_inner_block place m)) tops.0 (closed_is x Own place top own m (hb (pick (n x) at (laid (n x) a Tested at).top) (Either way.one way.other way.inner) tops.1 (forked_is x Own place top own g t tops.2 k)))

  -- `?:`
  choice_is : (c a b : RvalueTree) → HasCode c → HasCode a → HasCode b → (t : ℕ) (g : Goal) (void : Bool) →
      (if void then void_arms_laid (n x) t (laid (n x) c Tested t) (laid (n x) a Nothing) (laid (n x) b Nothing) else arms_laid (n x) (use_of g) t (laid (n x) c Tested (t + 1)) (laid (n x) a (In t)) (laid (n x) b (In t))).top ≤ most x → G g →
      F (let at = behind_move (not void) t in
      let at_a = pick (n x) at (laid (n x) c Tested at).top in let at_b = pick (n x) at (laid (n x) a (arm_use void t) at_a).top in
      let m = leaf g (arm_value void t) in
      let y = code (n x) place top b at_b (arm_goal void t (ending (Jump (label_of top m)) (with_inner_block place m))) in
      let z = code (n x) place top a at_a (arm_goal void t (ending (Jump (label_of top m)) (with_inner_block place y))) in
      code (n x) place top c at (Either (label_of top z) (label_of top y) (with_inner_block place z)))
  choice_is c a b hc ha hb t g true le k =
      let at_a = pick (n x) t (laid (n x) c Tested t).top in let at_b = pick (n x) t (laid (n x) a Nothing at_a).top in
      let tops : max (laid (n x) c Tested t).top (max (laid (n x) a Nothing at_a).top (laid (n x) b Nothing at_b).top) ≤ most x = le in
      let m = leaf g drafts.zero in
      let join = ending (Jump (label_of top m)) (with_inner_block place m) in
      let y = code (n x) place top b at_b (Unused join) in
      let join_a = ending (Jump (label_of top m)) (with_inner_block place y) in
      let z = code (n x) place top a at_a (Unused join_a) in
      let is_y = hb at_b (Unused join) (omega (arith, tops)) (ending_is x Own (Jump (label_of top m)) (with_inner_block place m) tt (closed_is x Own place top own m (leaf_is x Own g drafts.zero tt k))) in
      let is_z = ha at_a (Unused join_a) (omega (arith, tops)) (ending_is x Own (Jump (label_of top m)) (with_inner_block place y) tt (closed_is x Own place top own y is_y)) in
      hc t (Either (label_of top z) (label_of top y) (with_inner_block place z)) (omega (arith, tops)) (closed_is x Own place top own z is_z)
  choice_is c a b hc ha hb t g false le k =
      let at = t + 1 in
      let at_a = pick (n x) at (laid (n x) c Tested at).top in let at_b = pick (n x) at (laid (n x) a (In t) at_a).top in
      let whole = max (laid (n x) c Tested at).top (max (laid (n x) a (In t) at_a).top (laid (n x) b (In t) at_b).top) in
      let tops : whole ≤ most x = subst (λ w. w ≤ most x) (standing_top x (use_of g) t (record { value = unit.Name t; next = pick (n x) (t + 1) whole; top = whole })) le in
      let least = least_top c Tested at in
      let here : t < most x = omega (arith, tops, least) in
      let m = leaf g (unit.Name t) in
      let join = ending (Jump (label_of top m)) (with_inner_block place m) in
      let y = code (n x) place top b at_b (To (Some t) join) in
      let join_a = ending (Jump (label_of top m)) (with_inner_block place y) in
      let z = code (n x) place top a at_a (To (Some t) join_a) in
      let is_y = hb at_b (To (Some t) join) (omega (arith, tops)) (here, ending_is x Own (Jump (label_of top m)) (with_inner_block place m) tt (closed_is x Own place top own m (leaf_is x Own g (unit.Name t) here k))) in
      let is_z = ha at_a (To (Some t) join_a) (omega (arith, tops)) (here, ending_is x Own (Jump (label_of top m)) (with_inner_block place y) tt (closed_is x Own place top own y is_y)) in
      hc at (Either (label_of top z) (label_of top y) (with_inner_block place z)) (omega (arith, tops)) (closed_is x Own place top own z is_z)

  comma_is : (a b : RvalueTree) → HasCode a → HasCode b → HasCode (Comma a b)
  comma_is a b ha hb t g le k =
      let at = pick (n x) t (laid (n x) a Nothing t).top in
      ha t (Unused (code (n x) place top b at g)) (omega (arith, le)) (hb at g (omega (arith, le)) k)

  -- an assignment to memory
  stored_code : (g : Goal) (q : PlaceLaid) (moved : Bool) (s : Scalar) (e : RvalueTree) → E x e → HasCode e → (t : ℕ) → (laid (n x) e (use_for None (use_of g)) t).top ≤ most x → Loc x Own (held_location moved q.next q.location) → G g →
      F (code (n x) place top e t (assigned_memory g q moved (element_of s) (laid (n x) e (use_for None (use_of g)) t).value))
  stored_code (To (Some y) m) q moved s e ee h t le loc k =
      let a = (laid (n x) e (In y) t).value in h t (To (Some y) (stored (element_of s) (held_location moved q.next q.location) a (To (Some y) m))) le (k.0, stored_is x Own (element_of s) (held_location moved q.next q.location) a (To (Some y) m) loc (value_stands x e ee (In y) t k.0 le) k)
  stored_code (To None m) q moved s e ee h t le loc k =
      let a = (laid (n x) e Anywhere t).value in h t (To None (stored (element_of s) (held_location moved q.next q.location) a (To None m))) le (tt, stored_is x Own (element_of s) (held_location moved q.next q.location) a (To None m) loc (value_stands x e ee Anywhere t tt le) k)
  stored_code (Unused m) q moved s e ee h t le loc k =
      let a = (laid (n x) e Anywhere t).value in h t (To None (stored (element_of s) (held_location moved q.next q.location) a (Unused m))) le (tt, stored_is x Own (element_of s) (held_location moved q.next q.location) a (Unused m) loc (value_stands x e ee Anywhere t tt le) k)
  stored_code (Either one other inner) q moved s e ee h t le loc k =
      let a = (laid (n x) e Anywhere t).value in
      h t (To None (stored (element_of s) (held_location moved q.next q.location) a (Either one other inner))) le (tt, stored_is x Own (element_of s) (held_location moved q.next q.location) a (Either one other inner) loc (value_stands x e ee Anywhere t tt le) k)

  assign_is : (s : Scalar) (l : LvalueTree) (e : RvalueTree) → L x l → E x e → HasPlace l → HasCode e → (t : ℕ) (g : Goal) (o : Option ℕ) → scalar_named (n x) l ≡ o →
      (assigned_laid (n x) (use_of g) o t (place_laid (n x) l t) (laid (n x) e (use_for o (use_of g)) (begun_at o t (λ y. writes (n x) y e) (place_laid (n x) l t)))).top ≤ most x → G g →
      F (elim o [
        | Some y ↦ code (n x) place top e t (To (Some y) (noted y g))
        | None ↦ let q = place_laid (n x) l t in let moved = is_location_moved (λ y. writes (n x) y e) q.location in let from = behind_move moved q.next in
            code_place (n x) place top l t (hold_location moved q.next q.location (code (n x) place top e from (assigned_memory g q moved (element_of s) (laid (n x) e (use_for None (use_of g)) from).value)))
      ])
  assign_is s l e ll ee hl he t g (Some y) is le k =
      let r = laid (n x) e (In y) t in
      let small : r.top ≤ most x = subst (λ m. m ≤ most x) (standing_top x (use_of g) t (record { value = unit.Name y; next = r.next; top = r.top })) le in
      he t (To (Some y) (noted y g)) small (named_within x l y is, noted_is x Own y g (named_there x l y is) k)
  assign_is s l e ll ee hl he t g None is le k =
      let q = place_laid (n x) l t in
      let moved = is_location_moved (λ y. writes (n x) y e) q.location in
      let from = behind_move moved q.next in
      let r = laid (n x) e (use_for None (use_of g)) from in
      let tops : max q.top r.top ≤ most x = le in
      let least = least_top e (use_for None (use_of g)) from in
      let few = moved_up moved q.next (most x) (omega (arith, tops, least)) in
      let loc = location_stands x l ll is t (omega (arith, tops)) in
      let value = code (n x) place top e from (assigned_memory g q moved (element_of s) r.value) in
      hl.placed t (hold_location moved q.next q.location value) (omega (arith, tops)) (hold_is x Own moved q.next q.location value few loc (stored_code g q moved s e ee he from (omega (arith, tops)) (held_is x Own moved q.next q.location few loc) k))

  -- `a op= b`
  abbrev narrow_of : declared-change.Change → Bool
  narrow_of (change.Integer o ty v) = is_narrow ty
  narrow_of (change.Pointer d bytes) = false

  abbrev scales_of : declared-change.Change → Operand → Bool
  scales_of (change.Integer o ty v) a = false
  scales_of (change.Pointer d bytes) a = is_scaled bytes a

  more_of : (c : declared-change.Change) (a : Operand) (k : ℕ) → behind_move (narrow_of c) (behind_move (scales_of c a) k) ≡ behind_move (takes_more c a) k
  more_of (change.Integer o ty v) a k = refl
  more_of (change.Pointer d bytes) a k = refl

  update_is : (c : declared-change.Change) (l : LvalueTree) (e : RvalueTree) → L x l → E x e → HasPlace l → HasCode e → (t : ℕ) (g : Goal) (o : Option ℕ) → scalar_named (n x) l ≡ o →
      (let r = laid (n x) e Anywhere (begun_behind o t (λ y. writes (n x) y e) (place_laid (n x) l t)) in updated_laid (n x) (use_of g) (narrow_of c) (scales_of c r.value) o t (place_laid (n x) l t) r).top ≤ most x → G g →
      F (updated (n x) o c (λ y. writes (n x) y e) (place_laid (n x) l t) t (code (n x) place top e) (laid (n x) e Anywhere) (code_place (n x) place top l t) g)
  update_is c l e ll ee hl he t g (Some y) is le k =
      let moved = writes (n x) y e in
      let from = behind_move moved t in
      let r = laid (n x) e Anywhere from in
      let free = behind_move (narrow_of c) (behind_move (scales_of c r.value) r.next) in
      let tops : max r.top free ≤ most x = subst (λ m. m ≤ most x) (standing_top x (use_of g) t (record { value = unit.Name y; next = pick (n x) t free; top = max r.top free })) le in
      let least = least_top e Anywhere from in
      let few = moved_up moved t (most x) (omega (arith, tops, least)) in
      let scalar = named_within x l y is in
      let old = held moved (unit.Name y) t in
      let last = renewed_scalar c y old r g in
      let more : behind_move (takes_more c r.value) r.next ≤ most x = subst (λ m. m ≤ most x) (more_of c r.value r.next) (omega (arith, tops)) in
      move_is x Own moved t (unit.Name y) (code (n x) place top e from (To None last)) few scalar
      (he from (To None last) (omega (arith, tops)) (tt, renewed_is x Own c y old r g (named_there x l y is) more (held_value x moved (unit.Name y) t scalar few) (value_stands x e ee Anywhere from tt (omega (arith, tops))) k))
  update_is c l e ll ee hl he t g None is le k =
      let q = place_laid (n x) l t in
      let moved = is_location_moved (λ y. writes (n x) y e) q.location in
      let from = behind_move moved (q.next + 1) in
      let r = laid (n x) e Anywhere from in
      let free = behind_move (narrow_of c) (behind_move (scales_of c r.value) r.next) in
      let whole = max (max q.top r.top) free in
      let tops = operation_most x (use_of g) q.next free whole le in
      let small : max (max q.top r.top) free ≤ most x = tops.1 in
      let least = least_top e Anywhere from in
      let far : behind_move moved (q.next + 1) ≤ most x = omega (arith, small, least) in
      let few = moved_up moved (q.next + 1) (most x) far in
      let near : q.next + 1 ≤ most x = moved_least moved (q.next + 1) (most x) far in
      let lt : q.next < most x = omega (arith, near) in
      let loc = location_stands x l ll is t (omega (arith, small)) in
      let last = renewed_memory (n x) c q moved r g in
      let value = code (n x) place top e from (To None last) in
      let more : (operation_laid (n x) (use_of g) q.next (behind_move (takes_more c r.value) r.next) whole).top ≤ most x = subst (λ m. (operation_laid (n x) (use_of g) q.next m whole).top ≤ most x) (more_of c r.value r.next) le in
      hl.placed t (loaded_first c q moved value) (omega (arith, small))
      (loaded_is x Own c q moved value lt few loc (he from (To None last) (omega (arith, small)) (tt, memory_is x Own c q moved r g whole more lt few loc (value_stands x e ee Anywhere from tt (omega (arith, small))) k)))

  -- `++` and `--`
  one_more : (c : declared-change.Change) → narrow_of c ≡ takes_more c (unit.Constant 1)
  one_more (change.Integer o ty v) = refl
  one_more (change.Pointer d bytes) = refl

  step_is : (c : declared-change.Change) (w : Given) (l : LvalueTree) → L x l → HasPlace l → (t : ℕ) (g : Goal) (o : Option ℕ) → scalar_named (n x) l ≡ o → (step_laid (n x) w (use_of g) (narrow_of c) o t (place_laid (n x) l t)).top ≤ most x → G g →
      F (stepped (n x) o c w (place_laid (n x) l t) t (code_place (n x) place top l t) g)
  step_is c New l ll hl t g (Some y) is le k =
      let free = behind_move (narrow_of c) t in
      let tops : max t free ≤ most x = subst (λ m. m ≤ most x) (standing_top x (use_of g) t (record { value = unit.Name y; next = pick (n x) t free; top = max t free })) le in
      renewed_is x Own c y (unit.Name y) (one_at t) g (named_there x l y is) (subst (λ b. behind_move b t ≤ most x) (one_more c) (omega (arith, tops))) (named_within x l y is) tt k
  step_is c New l ll hl t g None is le k =
      let q = place_laid (n x) l t in
      let free = behind_move (narrow_of c) (q.next + 1) in
      let whole = max (max q.top q.top) free in
      let tops = operation_most x (use_of g) q.next free whole le in
      let small : max (max q.top q.top) free ≤ most x = tops.1 in
      let up = moved_behind (narrow_of c) (q.next + 1) in
      let lt : q.next < most x = omega (arith, small, up.0) in
      let loc = location_stands x l ll is t (omega (arith, small)) in
      let last = renewed_memory (n x) c q false (one_at (q.next + 1)) g in
      let more = subst (λ b. (operation_laid (n x) (use_of g) q.next (behind_move b (q.next + 1)) whole).top ≤ most x) (one_more c) le in
      hl.placed t (loaded_first c q false last) (omega (arith, small)) (loaded_is x Own c q false last lt (λ e. cc) loc (memory_is x Own c q false (one_at (q.next + 1)) g whole more lt (λ e. cc) loc tt k))
  step_is c Old l ll hl t g (Some y) is le k = left_scalar_is x Own c y t g (named_there x l y is) (subst (λ b. (left_scalar_laid (n x) (use_of g) b y t).top ≤ most x) (one_more c) le) k
  step_is c Old l ll hl t g None is le k =
      let q = place_laid (n x) l t in
      let few = subst (λ b. (left_memory_laid (n x) (use_of g) b t q).top ≤ most x) (one_more c) le in
      let top_is = left_top (use_of g) (narrow_of c) t q le in
      hl.placed t (left_memory c q g) top_is (left_memory_is x Own c t q g few (location_stands x l ll is t top_is) k)
    where
      left_top : (u : Use) (b : Bool) (t : ℕ) (q : PlaceLaid) → (left_memory_laid (n x) u b t q).top ≤ most x → q.top ≤ most x
      left_top (In y) b t q h = omega (arith, h)
      left_top Anywhere b t q h = omega (arith, h)
      left_top Nothing b t q h = omega (arith, h)
      left_top Tested b t q h = omega (arith, h)

  call_top : (u : Use) (void : Bool) (t next top' : ℕ) → (called_laid (n x) u void t next top').top ≤ most x → top' ≤ most x
  call_top u true t next top' h = h
  call_top Nothing false t next top' h = h
  call_top Anywhere false t next top' h = (operation_most x Anywhere t next top' h).1
  call_top Tested false t next top' h = (operation_most x Tested t next top' h).1
  call_top (In y) false t next top' h = (operation_most x (In y) t next top' h).1

  want_is : (o : Option ℕ) (i : Option ℕ → Instruction) → ((y : ℕ) → y < most x → IsInstruction x.unit x.graph (i (Some y))) → IsInstruction x.unit x.graph (i None) → IsWant x Own o → IsInstruction x.unit x.graph (i o)
  want_is None i h k w = k
  want_is (Some y) i h k w = h y w

  mutual
    -- The code of an expression that names what is there names what is there.
    pub code_is : (e : RvalueTree) → E x e → HasCode e
    code_is (Constant z ty) s t g le k = leaf_is x Own g (unit.Constant (unsigned_bits z)) tt k
    code_is Null s t g le k = leaf_is x Own g drafts.zero tt k
    code_is (Load sc l) s t g le k = load_is sc l s (place_is l s) t g (scalar_named (n x) l) refl le k
    code_is (Decay l) s t g le k = (place_is l s.0).address t g s.1 le k
    code_is (AddressOf l) s t g le k = (place_is l s.0).address t g s.1 le k
    code_is (Convert ty e) s t g le k = convert_is ty e s (code_is e s) t g (keeps_bits (integer_in (type_of (n x).results e)) ty) le k
    code_is (Discard e) s t g le k = code_is e s t (Unused (leaf g drafts.zero)) le (leaf_is x Own g drafts.zero tt k)
    code_is (Signed Plus ty e) s t g le k = valued_code e s (code_is e s) t g le k
    code_is (Signed Minus ty e) s t g le k = one_value e s (code_is e s) t g (signed Minus) (λ a y h less. signed_is x Own Minus a y less h) le k
    code_is (Signed Complement ty e) s t g le k = one_value e s (code_is e s) t g (signed Complement) (λ a y h less. signed_is x Own Complement a y less h) le k
    code_is (Not e) s t g le k = not_is e s (code_is e s) t g le k
    code_is (Arithmetic o ty a b) s t g le k = pair_is (two.Arithmetic o ty) a b s.0 s.1 (code_is a s.0) (code_is b s.1) t g le k
    code_is (Compare o ty a b) s t g le k = pair_is (two.Compare o ty) a b s.0 s.1 (code_is a s.0) (code_is b s.1) t g le k
    code_is (ComparePointers o a b) s t g le k = pair_is (two.ComparePointers o) a b s.0 s.1 (code_is a s.0) (code_is b s.1) t g le k
    code_is (Move d of a b) s t g le k = pair_is (two.Move d (object_size of)) a b s.0 s.1 (code_is a s.0) (code_is b s.1) t g le k
    code_is (MoveFrom a of b) s t g le k = pair_is (two.MoveFrom (object_size of)) a b s.0 s.1 (code_is a s.0) (code_is b s.1) t g le k
    code_is (Difference of a b) s t g le k = pair_is (two.Difference (object_size of)) a b s.0 s.1 (code_is a s.0) (code_is b s.1) t g le k
    code_is (And a b) s t g le k = and_is a b (code_is a s.0) (code_is b s.1) t g le k
    code_is (Or a b) s t g le k = or_is a b (code_is a s.0) (code_is b s.1) t g le k
    code_is (Conditional c a b) s t g le k = choice_is c a b (code_is c s.0) (code_is a s.1) (code_is b s.2) t g (is_void (type_of (n x).results a)) le k
    code_is (Comma a b) s t g le k = comma_is a b (code_is a s.0) (code_is b s.1) t g le k
    code_is (Assign sc l e) s t g le k = assign_is sc l e s.0 s.1 (place_is l s.0) (code_is e s.1) t g (scalar_named (n x) l) refl le k
    code_is (Update o ty v l e) s t g le k = update_is (change.Integer o ty v) l e s.0 s.1 (place_is l s.0) (code_is e s.1) t g (scalar_named (n x) l) refl le k
    code_is (UpdatePointer d of l e) s t g le k = update_is (change.Pointer d (object_size of)) l e s.0 s.1 (place_is l s.0) (code_is e s.1) t g (scalar_named (n x) l) refl le k
    code_is (Step d w ty v l) s t g le k = step_is (change.Integer (steps_by d) ty v) w l s (place_is l s) t g (scalar_named (n x) l) refl le k
    code_is (StepPointer d w of l) s t g le k = step_is (change.Pointer d (object_size of)) w l s (place_is l s) t g (scalar_named (n x) l) refl le k
    code_is (Call c all) s t g le k = (
        let q = passed_laid (n x) all t in
        let void = is_void (given_by (n x).results c) in
        let i : Option ℕ → Instruction = λ o. unit.Call o (callee_for c) q.values in
        let small = call_top (use_of g) void t q.next q.top le in
        let passed = passed_stand x all s.1 t small in
        let takes = subst (λ m. IsCall x.unit.graphs (callee_for c) m) (sym (as_many_passed x all t)) s.0 in
        let last = called_by void g (pick (n x) t q.next) i in
        arguments_are all s.1 t last small (called_is x Own void g t q.next q.top i (λ o w. want_is o i (λ y less. (less, passed, takes)) (tt, passed, takes) w) le k))

    pub place_is : (l : LvalueTree) → L x l → HasPlace l
    place_is (Named o of) s = record { placed = λ t m le k. k; address = λ t g a le k. object_is x Own o t g a le k }
    place_is (Target of e) s = record {
      placed = λ t m le k. code_is e s t (To None m) le (tt, k);
      address = λ t g a le k. (
          let v = (laid (n x) e Anywhere t).value in
          let stands : use_of (used g) ≡ Tested → Stands x v = λ is. value_stands x e s Anywhere t tt (subst (λ u. (laid (n x) e (worked u) t).top ≤ most x) (used_tested x Own g is) le) in
          code_is e s t (valued (used g) v) (subst (λ u. (laid (n x) e u t).top ≤ most x) (sym (used_use x Own g v)) le) (valued_is x Own (used g) v stands (used_is x Own g k)));
    }
    place_is (Element of a b) s = record {
      placed = λ t m le k. pair_is (two.Move Up (object_size of)) a b s.0 s.1 (code_is a s.0) (code_is b s.1) t (To None m) le (tt, k);
      address = λ t g a' le k. pair_is (two.Move Up (object_size of)) a b s.0 s.1 (code_is a s.0) (code_is b s.1) t g le k;
    }
    place_is (ElementFrom of a b) s = record {
      placed = λ t m le k. pair_is (two.MoveFrom (object_size of)) a b s.0 s.1 (code_is a s.0) (code_is b s.1) t (To None m) le (tt, k);
      address = λ t g a' le k. pair_is (two.MoveFrom (object_size of)) a b s.0 s.1 (code_is a s.0) (code_is b s.1) t g le k;
    }

    pub arguments_are : (all : ArgumentTrees) → ArgumentsName x.program x.unit.graphs (n x) all → HaveCode all
    arguments_are none s t m le k = k
    arguments_are (first e rest) s t m le k = (
        let r = laid (n x) e Anywhere t in
        let moved = is_moved (λ y. writes_any (n x) y rest) r.value in
        let from = behind_move moved r.next in
        let tops : max r.top (max from (passed_laid (n x) rest from).top) ≤ most x = le in
        let later = code_all (n x) place top rest from m in
        code_is e s.0 t (To None (move_if moved r.next r.value later)) (omega (arith, tops))
        (tt, move_is x Own moved r.next r.value later (λ is. moved_up moved r.next (most x) (omega (arith, tops)) is) (value_stands x e s.0 Anywhere t tt (omega (arith, tops))) (arguments_are rest s.1 from m (omega (arith, tops)) k)))
