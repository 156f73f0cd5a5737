-- The code of an expression has a property of the rules where what it is for has it.
use Rattle.std.proofs.Common.{◌≡◌, ℕ, ◌+◌, Bool, true, false, Option, Some, None, List, refl, ap, ◌∙◌, subst, arith, if◌then◌else◌}
use Rattle.std.specs.Prelude.{not, max, ◌||◌}
use Rattle.c_tree.specs.declared.types.IntegerType.{IntegerType}
use Rattle.c_tree.specs.declared.object_type.Scalar.{Scalar}
use Rattle.c_tree.specs.declared.typed_expression.Sign.TheVariants.{Plus, Minus, Complement}
use Rattle.c_tree.specs.declared.typed_expression.Direction.TheVariants.{Up}
use Rattle.c_tree.specs.declared.typed_expression.Given.{Given}
use Rattle.c_tree.specs.declared.typed_expression.Given.TheVariants.{New, Old}
use Rattle.c_tree.specs.declared.object_type.Object as declared-object
use Rattle.c_tree.specs.declared.object_type.Object.TheVariants as object
use Rattle.c_tree.specs.TypedExpressions.{RvalueTree, LvalueTree, ArgumentTrees, Constant, Null, Load, Decay, AddressOf, Convert, Discard, Signed, Not, Arithmetic, Compare, ComparePointers, Move, MoveFrom, Difference, And, Or, Conditional, Comma, Assign, Update, UpdatePointer, Step, StepPointer, Call, Named, Target, Element, ElementFrom, none, first}
use Rattle.c_type_rules.specs.Integers.{object_size}
use Rattle.c_type_rules.specs.ValueTypes.{type_of, given_by, is_void, is_pointer, integer_in}
use Rattle.word_base.specs.declared.operation.Operation.TheVariants as operation
use Rattle.graph_core.specs.Graphs as unit
use Rattle.graph_core.specs.Graphs.{Operand, Instruction, Operate, Truncate, Same, Block, Jump}
use Rattle.graph_build_names.specs.Conversions.{unsigned_bits, keeps_bits, is_narrow, is_kept_constant}
use Rattle.graph_build_names.specs.Operands.{held}
use Rattle.graph_build_names.specs.Scales.{is_scaled}
use Rattle.graph_build_layout.specs.declared.laid.Use.{Use}
use Rattle.graph_build_layout.specs.declared.laid.Use.TheVariants.{Anywhere, In, Nothing, Tested}
use Rattle.graph_build_names.specs.Names.{scalar_named, object_of, object_location, pick}
use Rattle.graph_build_names.specs.Writes.{writes, writes_within, writes_any, names_it, is_that, is_moved, is_location_moved}
use Rattle.graph_build_layout.specs.Laid.{Laid, PlaceLaid, pair, behind_move, behind_own, as_value, worked, use_for, operation_laid, standing, converted_laid, both_laid, void_arms_laid, arms_laid, begun_at, assigned_laid, begun_behind, updated_laid, step_laid, loaded_laid}
use Rattle.graph_build_layout.specs.Layout.{laid, place_laid, address_laid, passed_laid, named_location}
use Rattle.graph_build_steps.specs.Rules.{element_of, truncation_to, callee_for, steps_by}
use Rattle.graph_build_steps.specs.Drafts.{Made, Goal, To, Unused, Either, use_of, instruction_before, ending, leaf, label_of, with_inner_block, forked, valued, used, operated, move_if, hold_location, held_location, noted, called_by, tested}
use Rattle.graph_build_steps.specs.Drafts as drafts
use Rattle.graph_build_steps.specs.declared.site.Two as declared-two
use Rattle.graph_build_steps.specs.declared.site.Two.TheVariants as two
use Rattle.graph_build_steps.specs.declared.change.Change as declared-change
use Rattle.graph_build_steps.specs.declared.change.Change.TheVariants as change
use Rattle.graph_build_steps.specs.Steps.{in_turn, signed, finished, arm_use, arm_value, arm_goal, assigned_memory, updated, stepped, renewed_scalar, renewed_memory, loaded_first, left_memory, one_at, takes_more}
use Rattle.graph_build_code.specs.Code.{code, code_place, code_address, code_all}
use Rattle.graph_build_laws.proofs.Temporaries.{behind, place_behind, passed_is_behind, moved_behind, both_are}
use Rattle.graph_build_laws.specs.Passing.{Grows, IsPassing}
use Rattle.graph_build_laws.proofs.Passes.{code_passes}
use Rattle.image_truth_units.proofs.Rules.{NoneStands, Marking}
use Rattle.image_truth_units.proofs.Pieces.{n, H, Own, S, Loc, From, For, ForName, Computes, two_value, tested_has, leaf_has, zero_has, least_pick, operated_has, held_clear, move_has, hold_has, location_clear, finished_has, signed_computes, renewed_has, memory_has, loaded_has, left_scalar_has, left_memory_has, called_has, object_has, forked_has}
use Rattle.base_laws.proofs.Booleans.{or_right}
use Rattle.base_laws.proofs.Numbers.{same_is}

-- what holds where one of two is so holds where each is
left_of : (f g : ℕ → Bool) (P : ℕ → Type 0) → ((y : ℕ) → f y || g y ≡ true → P y) → (y : ℕ) → f y ≡ true → P y
left_of f g P h y e = h y (ap (λ b. b || g y) e)

right_of : (f g : ℕ → Bool) (P : ℕ → Type 0) → ((y : ℕ) → f y || g y ≡ true → P y) → (y : ℕ) → g y ≡ true → P y
right_of f g P h y e = h y (or_right (f y) (g y) e)

three_left : (f g k : ℕ → Bool) (P : ℕ → Type 0) → ((y : ℕ) → f y || g y || k y ≡ true → P y) → (y : ℕ) → f y ≡ true → P y
three_left f g k P h y e = h y (three (f y) (g y) (k y) e)
  where
    three : (a b c : Bool) → a ≡ true → a || b || c ≡ true
    three true b c e = refl
    three false b c e = cc

three_mid : (f g k : ℕ → Bool) (P : ℕ → Type 0) → ((y : ℕ) → f y || g y || k y ≡ true → P y) → (y : ℕ) → g y ≡ true → P y
three_mid f g k P h y e = h y (three (f y) (g y) (k y) e)
  where
    three : (a b c : Bool) → b ≡ true → a || b || c ≡ true
    three true b c e = refl
    three false true c e = refl
    three false false c e = cc

three_right : (f g k : ℕ → Bool) (P : ℕ → Type 0) → ((y : ℕ) → f y || g y || k y ≡ true → P y) → (y : ℕ) → k y ≡ true → P y
three_right f g k P h y e = h y (three (f y) (g y) (k y) e)
  where
    three : (a b c : Bool) → c ≡ true → a || b || c ≡ true
    three true b c e = refl
    three false true c e = refl
    three false false c e = e

pub any_passes : (place top : ℕ) → IsPassing place top (λ m. Unit {0}) (λ l inner. Unit {0}) (λ inner. Unit {0})
any_passes place top = record {
  step = λ i m e h. tt;
  jump = λ l inner h. tt;
  branch = λ o a b one other inner h k. tt;
  end = λ a inner h. tt;
  close = λ m h. tt;
  keep = λ m l inner g h k. tt;
  stands = λ m h. tt;
  shut = λ m h. tt;
}

module _ (x : Marking) where
  -- the scalars that may be written are those that an expression writes
  abbrev pub May : (ℕ → Bool) → Type 0
  May w = (y : ℕ) → w y ≡ true → x.may y

  abbrev pub C : RvalueTree → ℕ → Goal → Made
  C e t g = code (n x) x.place x.top e t g

  -- For each goal the code of an expression has the property where the goal has it.
  abbrev pub Codes : RvalueTree → Type 0
  Codes e = (t : ℕ) (g : Goal) → From x t → May (λ y. writes (n x) y e) → For x (laid (n x) e (use_of g) t).value g → H x None (C e t g)

  pub record CodesPlace (l : LvalueTree) : Type 0 where
    pub placed : (t : ℕ) (m : Made) → From x t → May (λ y. writes_within (n x) y l) → (Loc x (place_laid (n x) l t).location → H x None m) → H x None (code_place (n x) x.place x.top l t m)
    pub address : (t : ℕ) (g : Goal) → From x t → May (λ y. writes_within (n x) y l) → For x (address_laid (n x) l (use_of g) t).value g → H x None (code_address (n x) x.place x.top l t g)

  abbrev pub CodesAll : ArgumentTrees → Type 0
  CodesAll all = (t : ℕ) (m : Made) → From x t → May (λ y. writes_any (n x) y all) → (NoneStands x.own (passed_laid (n x) all t).values → H x None m) → H x None (code_all (n x) x.place x.top all t m)

  grows : (e : RvalueTree) (t one other : ℕ) (inner : List Block) → Grows inner (C e t (Either one other inner)).inner
  grows e t one other inner = (code_passes x.place x.top (λ m. Unit {0}) (λ l i. Unit {0}) (λ i. Unit {0}) (any_passes x.place x.top) (n x) e t (Either one other inner)).0

  grows_to : (e : RvalueTree) (t : ℕ) (want : Option ℕ) (m : Made) → Grows m.inner (C e t (To want m)).inner
  grows_to e t want m = (code_passes x.place x.top (λ m. Unit {0}) (λ l i. Unit {0}) (λ i. Unit {0}) (any_passes x.place x.top) (n x) e t (To want m)).0

  grows_unused : (e : RvalueTree) (t : ℕ) (m : Made) → Grows m.inner (C e t (Unused m)).inner
  grows_unused e t m = (code_passes x.place x.top (λ m. Unit {0}) (λ l i. Unit {0}) (λ i. Unit {0}) (any_passes x.place x.top) (n x) e t (Unused m)).0

  from_next : (e : RvalueTree) (u : Use) (t : ℕ) → From x t → From x (laid (n x) e u t).next
  from_next e u t le = let b = behind (n x) e u t in omega (arith, le, b.0)

  from_top : (e : RvalueTree) (u : Use) (t : ℕ) → From x t → From x (laid (n x) e u t).top
  from_top e u t le = let b = behind (n x) e u t in omega (arith, le, b.0, b.1)

  from_moved : (b : Bool) (t : ℕ) → From x t → From x (behind_move b t)
  from_moved b t le = let m = moved_behind b t in omega (arith, le, m.0)

  -- the scalar that an lvalue names
  scalar_own : (l : LvalueTree) (y : ℕ) → scalar_named (n x) l ≡ Some y → Own x y
  scalar_own l y e = x.apart y (x.few l y e)

  named_may : (l : LvalueTree) (y : ℕ) → scalar_named (n x) l ≡ Some y → May (λ z. names_it (n x) z l) → x.may y
  named_may l y e h = h y (ap (is_that y) e ∙ same_is y)

  -- two values in turn
  turn_has : (a b : RvalueTree) → Codes a → Codes b → (t : ℕ) (last : Made) → From x t → May (λ y. writes (n x) y a || writes (n x) y b) →
      (let q = pair (λ y. writes (n x) y b) (laid (n x) a Anywhere t) (laid (n x) b Anywhere) in S x q.left → S x q.right → H x None last) →
      H x None (in_turn (C a) (C b) t (pair (λ y. writes (n x) y b) (laid (n x) a Anywhere t) (laid (n x) b Anywhere)) last)
  turn_has a b ha hb t last le may k =
      let q = pair (λ y. writes (n x) y b) (laid (n x) a Anywhere t) (laid (n x) b Anywhere) in
      let next = from_next a Anywhere t le in
      let second = C b q.from (To None last) in
      ha t (To None (move_if q.moved q.moved_to q.first second)) le (left_of (λ y. writes (n x) y a) (λ y. writes (n x) y b) x.may may)
      (λ s. move_has x q.moved q.moved_to q.first second next s
      (λ o. hb q.from (To None last) (from_moved q.moved q.moved_to next) (right_of (λ y. writes (n x) y a) (λ y. writes (n x) y b) x.may may) (λ r. k (held_clear x q.moved q.first q.moved_to s o) r)))

  pair_from : (a b : RvalueTree) (t : ℕ) → From x t → From x (pair (λ y. writes (n x) y b) (laid (n x) a Anywhere t) (laid (n x) b Anywhere)).next
  pair_from a b t le = let r = both_are (n x) a b (behind (n x) a) (behind (n x) b) t in omega (arith, le, r.0)

  pair_has : (k : declared-two.Two) (a b : RvalueTree) → Codes a → Codes b → (t : ℕ) (g : Goal) → From x t → May (λ y. writes (n x) y a || writes (n x) y b) →
      For x (two_value x k (use_of g) t (pair (λ y. writes (n x) y b) (laid (n x) a Anywhere t) (laid (n x) b Anywhere))) g →
      H x None (in_turn (C a) (C b) t (pair (λ y. writes (n x) y b) (laid (n x) a Anywhere t) (laid (n x) b Anywhere)) (finished (n x) k g t (pair (λ y. writes (n x) y b) (laid (n x) a Anywhere t) (laid (n x) b Anywhere))))
  pair_has k a b ha hb t g le may h =
      let q = pair (λ y. writes (n x) y b) (laid (n x) a Anywhere t) (laid (n x) b Anywhere) in
      turn_has a b ha hb t (finished (n x) k g t q) le may (λ sl sr. finished_has x k g t q le (pair_from a b t le) sl sr h)

  load_has : (s : Scalar) (l : LvalueTree) → CodesPlace l → (t : ℕ) (g : Goal) → From x t → May (λ y. writes_within (n x) y l) → (o : Option ℕ) → scalar_named (n x) l ≡ o → For x (loaded_laid (n x) (use_of g) o t (place_laid (n x) l t)).value g →
      H x None (elim o [
        | Some y ↦ leaf g (unit.Name y)
        | None ↦ code_place (n x) x.place x.top l t (operated (n x) g t (place_laid (n x) l t).next (λ y. unit.Load y (element_of s) (place_laid (n x) l t).location))
      ])
  load_has s l h t g le may (Some y) is k = leaf_has x g t (record { value = unit.Name y; next = t; top = t }) (scalar_own l y is) k
  load_has s l h t g le may None is k =
      let q = place_laid (n x) l t in
      let up = (place_behind (n x) l t).0 in
      h.placed t (operated (n x) g t q.next (λ y. unit.Load y (element_of s) q.location)) le may
      (λ loc. operated_has x g t q.next q.top (λ y. unit.Load y (element_of s) q.location) le (omega (arith, le, up)) (λ y. (refl, refl, loc)) k)

  -- a value that is tested where it stands
  valued_has : (e : RvalueTree) → Codes e → (t : ℕ) (g : Goal) → From x t → May (λ y. writes (n x) y e) → For x (laid (n x) e (as_value (use_of g)) t).value g → H x None (C e t (valued g (laid (n x) e Anywhere t).value))
  valued_has e h t (To None m) le may k = h t (To None m) le may k
  valued_has e h t (To (Some y) m) le may k = h t (To (Some y) m) le may k
  valued_has e h t (Unused m) le may k = h t (Unused m) le may k
  valued_has e h t (Either one other inner) le may k = let a = (laid (n x) e Anywhere t).value in h t (To None (tested a one other inner)) le may (λ s. tested_has x a one other inner s k)

  one_has : (e : RvalueTree) → Codes e → (t : ℕ) (g : Goal) (i : ℕ → Instruction) → From x t → May (λ y. writes (n x) y e) → (S x (laid (n x) e Anywhere t).value → Computes x i) →
      For x (operation_laid (n x) (use_of g) t (laid (n x) e Anywhere t).next (laid (n x) e Anywhere t).top).value g → H x None (C e t (To None (operated (n x) g t (laid (n x) e Anywhere t).next i)))
  one_has e h t g i le may c k =
      let r = laid (n x) e Anywhere t in h t (To None (operated (n x) g t r.next i)) le may (λ s. operated_has x g t r.next r.top i le (from_next e Anywhere t le) (c s) k)

  convert_has : (ty : IntegerType) (e : RvalueTree) → Codes e → (t : ℕ) (g : Goal) → From x t → May (λ y. writes (n x) y e) → (b : Bool) →
      For x (if b then laid (n x) e (as_value (use_of g)) t else converted_laid (n x) (use_of g) ty t (laid (n x) e Anywhere t)).value g →
      H x None (if b then C e t (valued g (laid (n x) e Anywhere t).value) else C e t (To None (if is_kept_constant ty (laid (n x) e Anywhere t).value then leaf g (laid (n x) e Anywhere t).value else operated (n x) g t (laid (n x) e Anywhere t).next (λ y. Truncate y (truncation_to ty) (laid (n x) e Anywhere t).value))))
  convert_has ty e h t g le may true k = valued_has e h t g le may k
  convert_has ty e h t g le may false k = go (is_kept_constant ty (laid (n x) e Anywhere t).value) k
    where
      go : (b : Bool) → For x (if b then standing (n x) (use_of g) t (laid (n x) e Anywhere t) else operation_laid (n x) (use_of g) t (laid (n x) e Anywhere t).next (laid (n x) e Anywhere t).top).value g →
          H x None (C e t (To None (if b then leaf g (laid (n x) e Anywhere t).value else operated (n x) g t (laid (n x) e Anywhere t).next (λ y. Truncate y (truncation_to ty) (laid (n x) e Anywhere t).value))))
      go true k = h t (To None (leaf g (laid (n x) e Anywhere t).value)) le may (λ s. leaf_has x g t (laid (n x) e Anywhere t) s k)
      go false k = one_has e h t g (λ y. Truncate y (truncation_to ty) (laid (n x) e Anywhere t).value) le may (λ s y. (refl, refl, s)) k

  not_computes : (b : Bool) (a : Operand) → S x a → Computes x (λ y. if b then Same y a drafts.zero else Operate y operation.Sltu a (unit.Constant 1))
  not_computes true a s y = (refl, refl, (s, refl))
  not_computes false a s y = (refl, refl, (s, refl))

  not_has : (e : RvalueTree) → Codes e → (t : ℕ) (g : Goal) → From x t → May (λ y. writes (n x) y e) → For x (laid (n x) (Not e) (use_of g) t).value g → H x None (C (Not e) t g)
  not_has e h t (Either one other inner) le may k = h t (Either other one inner) le may (k.1, k.0)
  not_has e h t (To None m) le may k = one_has e h t (To None m) _ le may (λ s. not_computes (is_pointer (type_of (n x).results e)) (laid (n x) e Anywhere t).value s) k
  not_has e h t (To (Some y) m) le may k = one_has e h t (To (Some y) m) _ le may (λ s. not_computes (is_pointer (type_of (n x).results e)) (laid (n x) e Anywhere t).value s) k
  not_has e h t (Unused m) le may k = one_has e h t (Unused m) _ le may (λ s. not_computes (is_pointer (type_of (n x).results e)) (laid (n x) e Anywhere t).value s) k

  -- `&&`, `||`
  both_for : (g : Goal) (t : ℕ) (a b : ℕ → Laid) → For x (both_laid (n x) (use_of g) t a b).value g → ForName x t g
  both_for (Either one other inner) t a b k = k
  both_for (To None m) t a b k = k
  both_for (To (Some y) m) t a b k = k
  both_for (Unused m) t a b k = k

  own_from : (g : Goal) (t : ℕ) → From x t → From x (behind_own (use_of g) t)
  own_from (Either one other inner) t le = le
  own_from (To None m) t le = omega (arith, le)
  own_from (To (Some y) m) t le = omega (arith, le)
  own_from (Unused m) t le = omega (arith, le)

  and_has : (a b : RvalueTree) → Codes a → Codes b → (t : ℕ) (g : Goal) → From x t → May (λ y. writes (n x) y a || writes (n x) y b) → For x (laid (n x) (And a b) (use_of g) t).value g → H x None (C (And a b) t g)
  and_has a b ha hb t g le may k =
      let at = behind_own (use_of g) t in let way = forked x.place x.top g t in
      let later = pick (n x) at (laid (n x) a Tested at).top in
      let m = C b later (Either way.one way.other way.inner) in
      let f = forked_has x g t le (both_for g t (laid (n x) a Tested) (laid (n x) b Tested) k) in
      let own = own_from g t le in
      let has = hb later (Either way.one way.other way.inner) (least_pick x at (laid (n x) a Tested at).top own (from_top a Tested at own)) (right_of (λ y. writes (n x) y a) (λ y. writes (n x) y b) x.may may) f in
      ha at (Either (label_of x.top m) way.other (with_inner_block x.place m)) own (left_of (λ y. writes (n x) y a) (λ y. writes (n x) y b) x.may may) (x.rules.close m has, x.rules.keep m way.other way.inner (grows b later way.one way.other way.inner) has f.1)

  or_has : (a b : RvalueTree) → Codes a → Codes b → (t : ℕ) (g : Goal) → From x t → May (λ y. writes (n x) y a || writes (n x) y b) → For x (laid (n x) (Or a b) (use_of g) t).value g → H x None (C (Or a b) t g)
  or_has a b ha hb t g le may k =
      let at = behind_own (use_of g) t in let way = forked x.place x.top g t in
      let later = pick (n x) at (laid (n x) a Tested at).top in
      let m = C b later (Either way.one way.other way.inner) in
      let f = forked_has x g t le (both_for g t (laid (n x) a Tested) (laid (n x) b Tested) k) in
      let own = own_from g t le in
      let has = hb later (Either way.one way.other way.inner) (least_pick x at (laid (n x) a Tested at).top own (from_top a Tested at own)) (right_of (λ y. writes (n x) y a) (λ y. writes (n x) y b) x.may may) f in
      ha at (Either way.one (label_of x.top m) (with_inner_block x.place m)) own (left_of (λ y. writes (n x) y a) (λ y. writes (n x) y b) x.may may) (x.rules.keep m way.one way.inner (grows b later way.one way.other way.inner) has f.0, x.rules.close m has)

  -- `?:`
  arm_has : (void : Bool) (e : RvalueTree) → Codes e → (t at : ℕ) (m : Made) → From x t → From x at → May (λ y. writes (n x) y e) → ((void ≡ false → Own x t) → H x None m) → H x None (C e at (arm_goal void t m))
  arm_has true e h t at m from le may k = h at (Unused m) le may (λ s. k (λ o. absurd (off o)))
    where
      off : true ≡ false → ⊥
      off o = cc
  arm_has false e h t at m from le may k = h at (To (Some t) m) le may (λ o s. x.rules.fresh t m from (k (λ e. o)))

  arm_grows : (void : Bool) (e : RvalueTree) (t at : ℕ) (m : Made) → Grows m.inner (C e at (arm_goal void t m)).inner
  arm_grows true e t at m = grows_unused e at m
  arm_grows false e t at m = grows_to e at (Some t) m

  -- what follows the arms
  joined_has : (void : Bool) (t : ℕ) (g : Goal) (c va vb a b : ℕ → Laid) → For x (if void then void_arms_laid (n x) t (c t) va vb else arms_laid (n x) (use_of g) t (c (t + 1)) a b).value g → (void ≡ false → Own x t) → H x None (leaf g (arm_value void t))
  joined_has true t g c va vb a b k o = zero_has x g (unit.Constant 0) refl k
  joined_has false t g c va vb a b k o = leaf_has x g t (record { value = unit.Name t; next = pick (n x) (t + 1) _; top = _ }) (o refl) k

  choice_has : (c a b : RvalueTree) → Codes c → Codes a → Codes b → (t : ℕ) (g : Goal) → From x t → May (λ y. writes (n x) y c || writes (n x) y a || writes (n x) y b) → (void : Bool) →
      For x (if void then void_arms_laid (n x) t (laid (n x) c Tested t) (laid (n x) a Nothing) (laid (n x) b Nothing) else arms_laid (n x) (use_of g) t (laid (n x) c Tested (t + 1)) (laid (n x) a (In t)) (laid (n x) b (In t))).value g →
      H x None (let at = behind_move (not void) t in
      let at_a = pick (n x) at (laid (n x) c Tested at).top in let at_b = pick (n x) at (laid (n x) a (arm_use void t) at_a).top in
      let m = leaf g (arm_value void t) in
      let y = C b at_b (arm_goal void t (ending (Jump (label_of x.top m)) (with_inner_block x.place m))) in
      let z = C a at_a (arm_goal void t (ending (Jump (label_of x.top m)) (with_inner_block x.place y))) in
      C c at (Either (label_of x.top z) (label_of x.top y) (with_inner_block x.place z)))
  choice_has c a b hc ha hb t g le may void k =
      let w = λ (y : ℕ). writes (n x) y c in let wa = λ (y : ℕ). writes (n x) y a in let wb = λ (y : ℕ). writes (n x) y b in
      let at = behind_move (not void) t in
      let at_a = pick (n x) at (laid (n x) c Tested at).top in let at_b = pick (n x) at (laid (n x) a (arm_use void t) at_a).top in
      let m = leaf g (arm_value void t) in
      let join = ending (Jump (label_of x.top m)) (with_inner_block x.place m) in
      let y = C b at_b (arm_goal void t join) in
      let join_a = ending (Jump (label_of x.top m)) (with_inner_block x.place y) in
      let z = C a at_a (arm_goal void t join_a) in
      let from = from_moved (not void) t le in
      let from_a = least_pick x at (laid (n x) c Tested at).top from (from_top c Tested at from) in
      let from_b = least_pick x at (laid (n x) a (arm_use void t) at_a).top from (from_top a (arm_use void t) at_a from_a) in
      let has_m : (void ≡ false → Own x t) → H x None m = joined_has void t g (laid (n x) c Tested) (laid (n x) a Nothing) (laid (n x) b Nothing) (laid (n x) a (In t)) (laid (n x) b (In t)) k in
      let has_y : H x None y = arm_has void b hb t at_b join le from_b (three_right w wa wb x.may may) (λ o. x.rules.jump (label_of x.top m) (with_inner_block x.place m) (x.rules.close m (has_m o))) in
      let grow_y : Grows (with_inner_block x.place m) y.inner = arm_grows void b t at_b join in
      let has_z : H x None z = arm_has void a ha t at_a join_a le from_a (three_mid w wa wb x.may may)
      (λ o. x.rules.jump (label_of x.top m) (with_inner_block x.place y) (x.rules.keep y (label_of x.top m) (with_inner_block x.place m) grow_y has_y (x.rules.close m (has_m o)))) in
      let grow_z : Grows (with_inner_block x.place y) z.inner = arm_grows void a t at_a join_a in
      hc at (Either (label_of x.top z) (label_of x.top y) (with_inner_block x.place z)) from (three_left w wa wb x.may may) (x.rules.close z has_z, x.rules.keep z (label_of x.top y) (with_inner_block x.place y) grow_z has_z (x.rules.close y has_y))

  comma_has : (a b : RvalueTree) → Codes a → Codes b → (t : ℕ) (g : Goal) → From x t → May (λ y. writes (n x) y a || writes (n x) y b) → For x (laid (n x) (Comma a b) (use_of g) t).value g → H x None (C (Comma a b) t g)
  comma_has a b ha hb t g le may k =
      let later = pick (n x) t (laid (n x) a Nothing t).top in
      ha t (Unused (C b later g)) le (left_of (λ y. writes (n x) y a) (λ y. writes (n x) y b) x.may may)
      (λ s. hb later g (least_pick x t (laid (n x) a Nothing t).top le (from_top a Nothing t le)) (right_of (λ y. writes (n x) y a) (λ y. writes (n x) y b) x.may may) k)

  -- an assignment
  assigned_has : (g : Goal) (q : PlaceLaid) (moved : Bool) (s : Scalar) (e : RvalueTree) → Codes e → (t : ℕ) → From x t → May (λ y. writes (n x) y e) → Loc x (held_location moved q.next q.location) → For x (laid (n x) e (use_for None (use_of g)) t).value g →
      H x None (C e t (assigned_memory g q moved (element_of s) (laid (n x) e (use_for None (use_of g)) t).value))
  assigned_has (To (Some y) m) q moved s e h t le may loc k =
      let a = (laid (n x) e (In y) t).value in
      let l = held_location moved q.next q.location in
      h t (To (Some y) (instruction_before (unit.Store (element_of s) l a) m)) le may (λ o r. x.rules.store (Some y) (element_of s) l a m (loc, r) (k o r))
  assigned_has (To None m) q moved s e h t le may loc k =
      let a = (laid (n x) e Anywhere t).value in
      let l = held_location moved q.next q.location in
      h t (To None (instruction_before (unit.Store (element_of s) l a) m)) le may (λ r. x.rules.store None (element_of s) l a m (loc, r) (k r))
  assigned_has (Unused m) q moved s e h t le may loc k =
      let a = (laid (n x) e Anywhere t).value in
      let l = held_location moved q.next q.location in
      h t (To None (instruction_before (unit.Store (element_of s) l a) m)) le may (λ r. x.rules.store None (element_of s) l a m (loc, r) (k r))
  assigned_has (Either one other inner) q moved s e h t le may loc k =
      let a = (laid (n x) e Anywhere t).value in
      let l = held_location moved q.next q.location in
      h t (To None (instruction_before (unit.Store (element_of s) l a) (tested a one other inner))) le may (λ r. x.rules.store None (element_of s) l a (tested a one other inner) (loc, r) (tested_has x a one other inner r k))

  assign_has : (s : Scalar) (l : LvalueTree) (e : RvalueTree) → CodesPlace l → Codes e → (t : ℕ) (g : Goal) → From x t → May (λ y. names_it (n x) y l || writes_within (n x) y l || writes (n x) y e) → (o : Option ℕ) → scalar_named (n x) l ≡ o →
      For x (assigned_laid (n x) (use_of g) o t (place_laid (n x) l t) (laid (n x) e (use_for o (use_of g)) (begun_at o t (λ y. writes (n x) y e) (place_laid (n x) l t)))).value g →
      H x None (elim o [
        | Some y ↦ C e t (To (Some y) (noted y g))
        | None ↦ let q = place_laid (n x) l t in let moved = is_location_moved (λ y. writes (n x) y e) q.location in let from = behind_move moved q.next in
            code_place (n x) x.place x.top l t (hold_location moved q.next q.location (C e from (assigned_memory g q moved (element_of s) (laid (n x) e (use_for None (use_of g)) from).value)))
      ])
  assign_has s l e hl he t g le may (Some y) is k =
      let names = λ (z : ℕ). names_it (n x) z l in let within = λ (z : ℕ). writes_within (n x) z l in let value = λ (z : ℕ). writes (n x) z e in
      let r = laid (n x) e (In y) t in
      he t (To (Some y) (noted y g)) le (three_right names within value x.may may)
      (λ o s. x.rules.noted y (leaf g (unit.Name y)) (named_may l y is (three_left names within value x.may may)) (leaf_has x g t (record { value = unit.Name y; next = r.next; top = r.top }) (scalar_own l y is) k))
  assign_has s l e hl he t g le may None is k =
      let names = λ (z : ℕ). names_it (n x) z l in let within = λ (z : ℕ). writes_within (n x) z l in let value = λ (z : ℕ). writes (n x) z e in
      let q = place_laid (n x) l t in
      let moved = is_location_moved (λ y. writes (n x) y e) q.location in
      let from = behind_move moved q.next in
      let up = (place_behind (n x) l t).0 in
      let next : From x q.next = omega (arith, le, up) in
      let later = C e from (assigned_memory g q moved (element_of s) (laid (n x) e (use_for None (use_of g)) from).value) in
      hl.placed t (hold_location moved q.next q.location later) le (three_mid names within value x.may may)
      (λ loc. hold_has x moved q.next q.location later next loc (λ o. assigned_has g q moved s e he from (from_moved moved q.next next) (three_right names within value x.may may) (location_clear x moved q.next q.location loc o) k))

  -- `a op= b`
  abbrev narrow_of : declared-change.Change → Bool
  narrow_of (change.Integer o ty v) = is_narrow ty
  narrow_of (change.Pointer d bytes) = false

  abbrev scales_of : declared-change.Change → Operand → Bool
  scales_of (change.Integer o ty v) a = false
  scales_of (change.Pointer d bytes) a = is_scaled bytes a

  more_of : (c : declared-change.Change) (a : Operand) (k : ℕ) → behind_move (narrow_of c) (behind_move (scales_of c a) k) ≡ behind_move (takes_more c a) k
  more_of (change.Integer o ty v) a k = refl
  more_of (change.Pointer d bytes) a k = refl

  update_has : (c : declared-change.Change) (l : LvalueTree) (e : RvalueTree) → CodesPlace l → Codes e → (t : ℕ) (g : Goal) → From x t → May (λ y. names_it (n x) y l || writes_within (n x) y l || writes (n x) y e) → (o : Option ℕ) → scalar_named (n x) l ≡ o →
      For x (let r = laid (n x) e Anywhere (begun_behind o t (λ y. writes (n x) y e) (place_laid (n x) l t)) in updated_laid (n x) (use_of g) (narrow_of c) (scales_of c r.value) o t (place_laid (n x) l t) r).value g →
      H x None (updated (n x) o c (λ y. writes (n x) y e) (place_laid (n x) l t) t (C e) (laid (n x) e Anywhere) (code_place (n x) x.place x.top l t) g)
  update_has c l e hl he t g le may (Some y) is k =
      let names = λ (z : ℕ). names_it (n x) z l in let within = λ (z : ℕ). writes_within (n x) z l in let value = λ (z : ℕ). writes (n x) z e in
      let moved = writes (n x) y e in
      let from = behind_move moved t in
      let r = laid (n x) e Anywhere from in
      let own = scalar_own l y is in
      let old = held moved (unit.Name y) t in
      let last = renewed_scalar c y old r g in
      let free = behind_move (narrow_of c) (behind_move (scales_of c r.value) r.next) in
      let start = from_moved moved t le in
      move_has x moved t (unit.Name y) (C e from (To None last)) le own
      (λ o. he from (To None last) start (three_right names within value x.may may)
      (λ s. renewed_has x c y old r g (named_may l y is (three_left names within value x.may may)) (from_next e Anywhere from start) (held_clear x moved (unit.Name y) t own o) s
      (leaf_has x g t (record { value = unit.Name y; next = pick (n x) t free; top = _ }) own k)))
  update_has c l e hl he t g le may None is k =
      let names = λ (z : ℕ). names_it (n x) z l in let within = λ (z : ℕ). writes_within (n x) z l in let value = λ (z : ℕ). writes (n x) z e in
      let q = place_laid (n x) l t in
      let moved = is_location_moved (λ y. writes (n x) y e) q.location in
      let from = behind_move moved (q.next + 1) in
      let r = laid (n x) e Anywhere from in
      let up = (place_behind (n x) l t).0 in
      let next : From x q.next = omega (arith, le, up) in
      let start = from_moved moved (q.next + 1) (omega (arith, next)) in
      let last = renewed_memory (n x) c q moved r g in
      let later = C e from (To None last) in
      let top = max (max q.top r.top) (behind_move (narrow_of c) (behind_move (scales_of c r.value) r.next)) in
      let whole : For x (operation_laid (n x) (use_of g) q.next (behind_move (takes_more c r.value) r.next) top).value g = subst (λ m. For x (operation_laid (n x) (use_of g) q.next m top).value g) (more_of c r.value r.next) k in
      hl.placed t (loaded_first c q moved later) le (three_mid names within value x.may may)
      (λ loc. loaded_has x c q moved later next loc
      (λ own o. he from (To None last) start (three_right names within value x.may may) (λ s. memory_has x c q moved r g top next (from_next e Anywhere from start) own o loc s whole)))

  -- `++` and `--`
  one_more : (c : declared-change.Change) → narrow_of c ≡ takes_more c (unit.Constant 1)
  one_more (change.Integer o ty v) = refl
  one_more (change.Pointer d bytes) = refl

  step_has : (c : declared-change.Change) (w : Given) (l : LvalueTree) → CodesPlace l → (t : ℕ) (g : Goal) → From x t → May (λ y. names_it (n x) y l || writes_within (n x) y l) → (o : Option ℕ) → scalar_named (n x) l ≡ o →
      For x (step_laid (n x) w (use_of g) (narrow_of c) o t (place_laid (n x) l t)).value g → H x None (stepped (n x) o c w (place_laid (n x) l t) t (code_place (n x) x.place x.top l t) g)
  step_has c New l hl t g le may (Some y) is k =
      let names = λ (z : ℕ). names_it (n x) z l in let within = λ (z : ℕ). writes_within (n x) z l in
      let own = scalar_own l y is in
      renewed_has x c y (unit.Name y) (one_at t) g (named_may l y is (left_of names within x.may may)) le own refl (leaf_has x g t (record { value = unit.Name y; next = pick (n x) t (behind_move (narrow_of c) t); top = _ }) own k)
  step_has c Old l hl t g le may (Some y) is k =
      let names = λ (z : ℕ). names_it (n x) z l in let within = λ (z : ℕ). writes_within (n x) z l in
      left_scalar_has x c y t g (narrow_of c) (named_may l y is (left_of names within x.may may)) (scalar_own l y is) le k
  step_has c New l hl t g le may None is k =
      let names = λ (z : ℕ). names_it (n x) z l in let within = λ (z : ℕ). writes_within (n x) z l in
      let q = place_laid (n x) l t in
      let up = (place_behind (n x) l t).0 in
      let next : From x q.next = omega (arith, le, up) in
      let last = renewed_memory (n x) c q false (one_at (q.next + 1)) g in
      let top = max (max q.top q.top) (behind_move (narrow_of c) (q.next + 1)) in
      let whole : For x (operation_laid (n x) (use_of g) q.next (behind_move (takes_more c (unit.Constant 1)) (q.next + 1)) top).value g = subst (λ b. For x (operation_laid (n x) (use_of g) q.next (behind_move b (q.next + 1)) top).value g) (one_more c) k in
      hl.placed t (loaded_first c q false last) le (right_of names within x.may may)
      (λ loc. loaded_has x c q false last next loc (λ own o. memory_has x c q false (one_at (q.next + 1)) g top next (omega (arith, next)) own o loc refl whole))
  step_has c Old l hl t g le may None is k =
      let names = λ (z : ℕ). names_it (n x) z l in let within = λ (z : ℕ). writes_within (n x) z l in
      let q = place_laid (n x) l t in
      let up = (place_behind (n x) l t).0 in
      hl.placed t (left_memory c q g) le (right_of names within x.may may) (λ loc. left_memory_has x c q g (narrow_of c) t (omega (arith, le, up)) loc k)

  -- arguments
  first_has : (e : RvalueTree) (rest : ArgumentTrees) → Codes e → CodesAll rest → CodesAll (first e rest)
  first_has e rest h hr t m le may k =
      let we = λ (y : ℕ). writes (n x) y e in let wr = λ (y : ℕ). writes_any (n x) y rest in
      let r = laid (n x) e Anywhere t in
      let moved = is_moved (λ y. writes_any (n x) y rest) r.value in
      let next = from_next e Anywhere t le in
      let later = code_all (n x) x.place x.top rest (behind_move moved r.next) m in
      h t (To None (move_if moved r.next r.value later)) le (left_of we wr x.may may)
      (λ s. move_has x moved r.next r.value later next s (λ o. hr (behind_move moved r.next) m (from_moved moved r.next next) (right_of we wr x.may may) (λ all. k (held_clear x moved r.value r.next s o, all))))

  call_has : (void : Bool) (all : ArgumentTrees) → CodesAll all → (t : ℕ) (g : Goal) (f : Rattle.graph_core.specs.declared.instruction.Callee.Callee) → From x t → May (λ y. writes_any (n x) y all) →
      For x (Rattle.graph_build_layout.specs.Laid.called_laid (n x) (use_of g) void t (passed_laid (n x) all t).next (passed_laid (n x) all t).top).value g →
      H x None (code_all (n x) x.place x.top all t (called_by void g (pick (n x) t (passed_laid (n x) all t).next) (λ o. unit.Call o f (passed_laid (n x) all t).values)))
  call_has void all h t g f le may k =
      let q = passed_laid (n x) all t in
      let up = (passed_is_behind (n x) all t).0 in
      h t (called_by void g (pick (n x) t q.next) (λ o. unit.Call o f q.values)) le may (λ s. called_has x void g t q.next q.top f q.values le (omega (arith, le, up)) s k)

  location_clear_of : (o : declared-object.Object) → Loc x (named_location (n x) o)
  location_clear_of (object.Static i) = refl
  location_clear_of (object.Literal i) = refl
  location_clear_of (object.Automatic v) = go (object_of (n x) v)
    where
      go : (o : Option ℕ) → Loc x (object_location o)
      go None = refl
      go (Some k) = refl

  used_has : (e : RvalueTree) → Codes e → (t : ℕ) (g : Goal) → From x t → May (λ y. writes (n x) y e) → For x (laid (n x) e (worked (use_of g)) t).value g → H x None (C e t (valued (used g) (laid (n x) e Anywhere t).value))
  used_has e h t (To None m) le may k = h t (To None m) le may k
  used_has e h t (To (Some y) m) le may k = h t (To (Some y) m) le may k
  used_has e h t (Unused m) le may k = h t (To None m) le may k
  used_has e h t (Either one other inner) le may k = let a = (laid (n x) e Anywhere t).value in h t (To None (tested a one other inner)) le may (λ s. tested_has x a one other inner s k)

  element_place : (k : declared-two.Two) (a b : RvalueTree) → Codes a → Codes b → (t : ℕ) (m : Made) → From x t → May (λ y. writes (n x) y a || writes (n x) y b) →
      (S x (two_value x k Anywhere t (pair (λ y. writes (n x) y b) (laid (n x) a Anywhere t) (laid (n x) b Anywhere))) → H x None m) →
      H x None (in_turn (C a) (C b) t (pair (λ y. writes (n x) y b) (laid (n x) a Anywhere t) (laid (n x) b Anywhere)) (finished (n x) k (To None m) t (pair (λ y. writes (n x) y b) (laid (n x) a Anywhere t) (laid (n x) b Anywhere))))
  element_place k a b ha hb t m le may h = pair_has k a b ha hb t (To None m) le may h

  mutual
    pub code_has : (e : RvalueTree) → Codes e
    code_has (Constant z ty) t g le may k = leaf_has x g t (record { value = unit.Constant (unsigned_bits z); next = t; top = t }) refl k
    code_has Null t g le may k = leaf_has x g t (record { value = unit.Constant 0; next = t; top = t }) refl k
    code_has (Load s l) t g le may k = load_has s l (place_has l) t g le may (scalar_named (n x) l) refl k
    code_has (Decay l) t g le may k = (place_has l).address t g le may k
    code_has (AddressOf l) t g le may k = (place_has l).address t g le may k
    code_has (Convert ty e) t g le may k = convert_has ty e (code_has e) t g le may (keeps_bits (integer_in (type_of (n x).results e)) ty) k
    code_has (Discard e) t g le may k = code_has e t (Unused (leaf g drafts.zero)) le may (λ s. zero_has x g (laid (n x) e Nothing t).value s k)
    code_has (Signed Plus ty e) t g le may k = valued_has e (code_has e) t g le may k
    code_has (Signed Minus ty e) t g le may k = one_has e (code_has e) t g (signed Minus (laid (n x) e Anywhere t).value) le may (λ s. signed_computes x Minus (laid (n x) e Anywhere t).value s) k
    code_has (Signed Complement ty e) t g le may k = one_has e (code_has e) t g (signed Complement (laid (n x) e Anywhere t).value) le may (λ s. signed_computes x Complement (laid (n x) e Anywhere t).value s) k
    code_has (Not e) t g le may k = not_has e (code_has e) t g le may k
    code_has (Arithmetic o ty a b) t g le may k = pair_has (two.Arithmetic o ty) a b (code_has a) (code_has b) t g le may k
    code_has (Compare o ty a b) t g le may k = pair_has (two.Compare o ty) a b (code_has a) (code_has b) t g le may k
    code_has (ComparePointers o a b) t g le may k = pair_has (two.ComparePointers o) a b (code_has a) (code_has b) t g le may k
    code_has (Move d of a b) t g le may k = pair_has (two.Move d (object_size of)) a b (code_has a) (code_has b) t g le may k
    code_has (MoveFrom a of b) t g le may k = pair_has (two.MoveFrom (object_size of)) a b (code_has a) (code_has b) t g le may k
    code_has (Difference of a b) t g le may k = pair_has (two.Difference (object_size of)) a b (code_has a) (code_has b) t g le may k
    code_has (And a b) t g le may k = and_has a b (code_has a) (code_has b) t g le may k
    code_has (Or a b) t g le may k = or_has a b (code_has a) (code_has b) t g le may k
    code_has (Conditional c a b) t g le may k = choice_has c a b (code_has c) (code_has a) (code_has b) t g le may (is_void (type_of (n x).results a)) k
    code_has (Comma a b) t g le may k = comma_has a b (code_has a) (code_has b) t g le may k
    code_has (Assign s l e) t g le may k = assign_has s l e (place_has l) (code_has e) t g le may (scalar_named (n x) l) refl k
    code_has (Update o ty v l e) t g le may k = update_has (change.Integer o ty v) l e (place_has l) (code_has e) t g le may (scalar_named (n x) l) refl k
    code_has (UpdatePointer d of l e) t g le may k = update_has (change.Pointer d (object_size of)) l e (place_has l) (code_has e) t g le may (scalar_named (n x) l) refl k
    code_has (Step d w ty v l) t g le may k = step_has (change.Integer (steps_by d) ty v) w l (place_has l) t g le may (scalar_named (n x) l) refl k
    code_has (StepPointer d w of l) t g le may k = step_has (change.Pointer d (object_size of)) w l (place_has l) t g le may (scalar_named (n x) l) refl k
    code_has (Call c all) t g le may k = call_has (is_void (given_by (n x).results c)) all (arguments_have all) t g (callee_for c) le may k

    pub place_has : (l : LvalueTree) → CodesPlace l
    place_has (Named o of) = record { placed = λ t m le may k. k (location_clear_of o); address = λ t g le may k. object_has x o t g le k }
    place_has (Target of e) = record { placed = λ t m le may k. code_has e t (To None m) le may k; address = λ t g le may k. used_has e (code_has e) t g le may k }
    place_has (Element of a b) = record {
      placed = λ t m le may k. element_place (two.Move Up (object_size of)) a b (code_has a) (code_has b) t m le may k;
      address = λ t g le may k. pair_has (two.Move Up (object_size of)) a b (code_has a) (code_has b) t g le may k;
    }
    place_has (ElementFrom of a b) = record {
      placed = λ t m le may k. element_place (two.MoveFrom (object_size of)) a b (code_has a) (code_has b) t m le may k;
      address = λ t g le may k. pair_has (two.MoveFrom (object_size of)) a b (code_has a) (code_has b) t g le may k;
    }

    pub arguments_have : (all : ArgumentTrees) → CodesAll all
    arguments_have none t m le may k = k tt
    arguments_have (first e rest) t m le may k = first_has e rest (code_has e) (arguments_have rest) t m le may k
