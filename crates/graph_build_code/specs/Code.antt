-- The code of expressions, built from its end: each function puts the code of a tree before what follows.
use Rattle.std.specs.Prelude.{ℕ, ◌+◌, not, Bool, true, false, Option, Some, None, List, [], ◌∷◌, if◌then◌else◌}
use Rattle.c_tree.specs.declared.object_type.Object.TheVariants as object
use Rattle.c_tree.specs.declared.typed_expression.Sign.TheVariants.{Plus, Minus, Complement}
use Rattle.c_tree.specs.declared.typed_expression.Direction.TheVariants.{Up, Down}
use Rattle.c_tree.specs.declared.typed_expression.Given as declared-given
use Rattle.c_tree.specs.TypedExpressions.{RvalueTree, LvalueTree, ArgumentTrees, Constant, Null, Load, Decay, AddressOf, Convert, Discard, Signed, Not, Arithmetic, Compare, ComparePointers, Move, MoveFrom, Difference, And, Or, Conditional, Comma, Assign, Update, UpdatePointer, Step, StepPointer, Call, Named, Target, Element, ElementFrom, none, first}
use Rattle.c_type_rules.specs.Integers.{object_size}
use Rattle.word_base.specs.declared.operation.Operation.TheVariants as operation
use Rattle.graph_core.specs.Graphs as unit
use Rattle.graph_core.specs.Graphs.{Operand, Location, Instruction, Operate, Truncate, Same, Address, Store, Jump, Block}
use Rattle.c_type_rules.specs.ValueTypes.{type_of, given_by, integer_in, is_void, is_pointer}
use Rattle.graph_build_names.specs.Conversions.{unsigned_bits, keeps_bits, is_kept_constant}
use Rattle.graph_build_names.specs.Operands.{held}
use Rattle.graph_build_layout.specs.declared.laid.Use.{Use}
use Rattle.graph_build_layout.specs.declared.laid.Use.TheVariants.{Anywhere, In, Nothing, Tested}
use Rattle.graph_build_names.specs.Names.{Names, scalar_named, object_of, pick}
use Rattle.graph_build_names.specs.Writes.{writes, writes_any, is_moved, is_location_moved}
use Rattle.graph_build_layout.specs.Laid.{Laid, PlaceLaid, Pair, pair, behind_move, behind_own, use_for}
use Rattle.graph_build_layout.specs.Layout.{laid, place_laid, passed_laid}
use Rattle.graph_build_steps.specs.Rules.{element_of, callee_for, truncation_to, steps_by}
use Rattle.graph_build_steps.specs.Drafts.{Made, Goal, To, Unused, Either, use_of, instruction_before, ending, zero, leaf, target, follow, label_of, with_inner_block, forked, valued, operated, move_if, hold_location, held_location, stored, note, noted, keep_old, use_old, behind_old, assign_goal, left_free, used, called_by}
use Rattle.graph_build_steps.specs.declared.site.Two.TheVariants as two
use Rattle.graph_build_steps.specs.declared.change.Change as declared-change
use Rattle.graph_build_steps.specs.declared.change.Change.TheVariants as change
use Rattle.graph_build_steps.specs.declared.site.Two as declared-two
use Rattle.graph_build_steps.specs.Steps.{in_turn, signed, finished, arm_use, arm_value, arm_goal, assigned_memory, updated, stepped, object_address}

module _ (n : Names) (place top : ℕ) where
  abbrev mutual
    -- the code of an expression that begins when a name is free, then what it is for
    pub code : RvalueTree → ℕ → Goal → Made
    code (Constant z ty) t g = leaf g (unit.Constant (unsigned_bits z))
    code Null t g = leaf g zero
    code (Load s l) t g = elim (scalar_named n l) [
      | Some x ↦ leaf g (unit.Name x)
      | None ↦ let q =
          place_laid n l t in code_place l t (operated n g t q.next (λ x. unit.Load x (element_of s) q.location))
    ]
    code (Decay l) t g = code_address l t g
    code (AddressOf l) t g = code_address l t g
    code (Convert ty e) t g =
        let r = laid n e Anywhere t in
        if keeps_bits (integer_in (type_of n.results e)) ty then code e t (valued g r.value)
        else code e t
        (To None
        (if is_kept_constant ty r.value then leaf g r.value
        else operated n g t r.next (λ x. Truncate x (truncation_to ty) r.value)))
    code (Discard e) t g = code e t (Unused (leaf g zero))
    code (Signed Plus ty e) t g = code e t (valued g (laid n e Anywhere t).value)
    code (Signed o ty e) t g =
        let r = laid n e Anywhere t in code e t (To None (operated n g t r.next (signed o r.value)))
    code (Not e) t (Either one other inner) = code e t (Either other one inner)
    code (Not e) t g =
        let r = laid n e Anywhere t in code e t (To None
        (operated n g t r.next
        (λ x. if is_pointer (type_of n.results e) then Same x r.value zero
        else Operate x operation.Sltu r.value (unit.Constant 1))))
    code (Arithmetic o ty a b) t g =
        let q = pair (λ y. writes n y b) (laid n a Anywhere t) (laid n b Anywhere) in
        in_turn (code a) (code b) t q (finished n (two.Arithmetic o ty) g t q)
    code (Compare o ty a b) t g =
        let q = pair (λ y. writes n y b) (laid n a Anywhere t) (laid n b Anywhere) in
        in_turn (code a) (code b) t q (finished n (two.Compare o ty) g t q)
    code (ComparePointers o a b) t g =
        let q = pair (λ y. writes n y b) (laid n a Anywhere t) (laid n b Anywhere) in
        in_turn (code a) (code b) t q (finished n (two.ComparePointers o) g t q)
    code (Move d of p i) t g =
        let q = pair (λ y. writes n y i) (laid n p Anywhere t) (laid n i Anywhere) in
        in_turn (code p) (code i) t q (finished n (two.Move d (object_size of)) g t q)
    code (MoveFrom i of p) t g =
        let q = pair (λ y. writes n y p) (laid n i Anywhere t) (laid n p Anywhere) in
        in_turn (code i) (code p) t q (finished n (two.MoveFrom (object_size of)) g t q)
    code (Difference of a b) t g =
        let q = pair (λ y. writes n y b) (laid n a Anywhere t) (laid n b Anywhere) in
        in_turn (code a) (code b) t q (finished n (two.Difference (object_size of)) g t q)
    code (And a b) t g =
        let at = behind_own (use_of g) t in let way = forked place top g t in
        let m = code b (pick n at (laid n a Tested at).top) (Either way.one way.other way.inner) in
        code a at (Either (label_of top m) way.other (with_inner_block place m))
    code (Or a b) t g =
        let at = behind_own (use_of g) t in let way = forked place top g t in
        let m = code b (pick n at (laid n a Tested at).top) (Either way.one way.other way.inner) in
        code a at (Either way.one (label_of top m) (with_inner_block place m))
    code (Conditional c a b) t g =
        let void = is_void (type_of n.results a) in let at = behind_move (not void) t in
        let at_a = pick n at (laid n c Tested at).top in let at_b = pick n at (laid n a (arm_use void t) at_a).top in
        let m = leaf g (arm_value void t) in
        let y = code b at_b (arm_goal void t (ending (Jump (label_of top m)) (with_inner_block place m))) in
        let x = code a at_a (arm_goal void t (ending (Jump (label_of top m)) (with_inner_block place y))) in
        code c at (Either (label_of top x) (label_of top y) (with_inner_block place x))
    code (Comma a b) t g = code a t (Unused (code b (pick n t (laid n a Nothing t).top) g))
    code (Assign s l e) t g = elim (scalar_named n l) [
      | Some x ↦ code e t (To (Some x) (noted x g))
      | None ↦ let q =
          place_laid n l t in let moved = is_location_moved (λ y. writes n y e)
          q.location in let from = behind_move moved q.next in
          code_place l t (hold_location moved q.next q.location (code e from
          (assigned_memory g q moved (element_of s) (laid n e (use_for None (use_of g)) from).value)))
    ]
    code (Update o ty v l e) t g =
        updated n (scalar_named n l) (change.Integer o ty v) (λ y. writes n y e) (place_laid n l t) t (code e)
        (laid n e Anywhere) (code_place l t) g
    code (UpdatePointer d of l e) t g =
        updated n (scalar_named n l) (change.Pointer d (object_size of)) (λ y. writes n y e) (place_laid n l t) t
        (code e) (laid n e Anywhere) (code_place l t) g
    code (Step d k ty v l) t g =
        stepped n (scalar_named n l) (change.Integer (steps_by d) ty v) k (place_laid n l t) t (code_place l t) g
    code (StepPointer d k of l) t g =
        stepped n (scalar_named n l) (change.Pointer d (object_size of)) k (place_laid n l t) t (code_place l t) g
    code (Call c all) t g = let q = passed_laid n all t in code_all all t
        (called_by (is_void (given_by n.results c)) g (pick n t q.next) (λ x. unit.Call x (callee_for c) q.values))

    -- what comes before the location of an lvalue in memory
    pub code_place : LvalueTree → ℕ → Made → Made
    code_place (Named o of) t m = m
    code_place (Target of p) t m = code p t (To None m)
    code_place (Element of p i) t m =
        let q = pair (λ y. writes n y i) (laid n p Anywhere t) (laid n i Anywhere) in
        in_turn (code p) (code i) t q (finished n (two.Move Up (object_size of)) (To None m) t q)
    code_place (ElementFrom of i p) t m =
        let q = pair (λ y. writes n y p) (laid n i Anywhere t) (laid n p Anywhere) in
        in_turn (code i) (code p) t q (finished n (two.MoveFrom (object_size of)) (To None m) t q)

    -- the address of an lvalue
    pub code_address : LvalueTree → ℕ → Goal → Made
    code_address (Named o of) t g = object_address n o t g
    code_address (Target of p) t g = code p t (valued (used g) (laid n p Anywhere t).value)
    code_address (Element of p i) t g =
        let q = pair (λ y. writes n y i) (laid n p Anywhere t) (laid n i Anywhere) in
        in_turn (code p) (code i) t q (finished n (two.Move Up (object_size of)) g t q)
    code_address (ElementFrom of i p) t g =
        let q = pair (λ y. writes n y p) (laid n i Anywhere t) (laid n p Anywhere) in
        in_turn (code i) (code p) t q (finished n (two.MoveFrom (object_size of)) g t q)

    -- arguments from left to right
    pub code_all : ArgumentTrees → ℕ → Made → Made
    code_all none t m = m
    code_all (first e rest) t m =
        let r = laid n e Anywhere t in let moved = is_moved (λ y. writes_any n y rest) r.value in
        code e t (To None (move_if moved r.next r.value (code_all rest (behind_move moved r.next) m)))

  -- two values in turn, and what is made of them
  abbrev pub code_two : (first second : RvalueTree) → declared-two.Two → ℕ → Goal → Made
  code_two a b k t g =
      let q = pair (λ y. writes n y b) (laid n a Anywhere t) (laid n b Anywhere) in
      in_turn (code a) (code b) t q (finished n k g t q)

  -- an object's value changes by that of an expression
  abbrev pub code_updated : declared-change.Change → LvalueTree → RvalueTree → ℕ → Goal → Made
  code_updated change l e t g =
      updated n (scalar_named n l) change (λ y. writes n y e) (place_laid n l t) t (code e) (laid n e Anywhere)
      (code_place l t) g

  -- it changes by 1, and the new value or the old one is used
  abbrev pub code_stepped : declared-change.Change → declared-given.Given → LvalueTree → ℕ → Goal → Made
  code_stepped change k l t g = stepped n (scalar_named n l) change k (place_laid n l t) t (code_place l t) g
