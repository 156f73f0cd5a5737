-- What the nodes of expressions do once their parts are coded.
use Rattle.std.specs.Prelude.{ℕ, ◌+◌, ◌==◌, Bool, true, false, Option, Some, None, List, if◌then◌else◌}
use Rattle.c_tree.specs.declared.typed_expression.Sign as declared-sign
use Rattle.c_tree.specs.declared.typed_expression.Sign.TheVariants.{Plus, Minus, Complement}
use Rattle.c_tree.specs.declared.typed_expression.Given as declared-given
use Rattle.c_tree.specs.declared.typed_expression.Given.TheVariants.{New, Old}
use Rattle.c_type_rules.specs.Integers.{integer}
use Rattle.word_base.specs.declared.operation.Operation.TheVariants as operation
use Rattle.graph_core.specs.declared.instruction.Element as declared-element
use Rattle.graph_core.specs.declared.instruction.Element.TheVariants.{Word}
use Rattle.graph_core.specs.Graphs as unit
use Rattle.graph_core.specs.Graphs.{Operand, Instruction, Operate, Store, Address, Block}
use Rattle.c_tree.specs.declared.object_type.Object as declared-object
use Rattle.c_tree.specs.declared.object_type.Object.TheVariants as object
use Rattle.graph_build_steps.specs.declared.site.Two as declared-two
use Rattle.graph_build_steps.specs.declared.site.Two.TheVariants as two
use Rattle.graph_build_steps.specs.declared.change.Change as declared-change
use Rattle.graph_build_steps.specs.declared.change.Change.TheVariants as change
use Rattle.graph_build_names.specs.Conversions.{is_narrow}
use Rattle.graph_build_names.specs.Operands.{held, is_two}
use Rattle.graph_build_names.specs.Scales.{is_scaled, scaled, shift_of}
use Rattle.graph_build_layout.specs.declared.laid.Use.{Use}
use Rattle.graph_build_layout.specs.declared.laid.Use.TheVariants.{Anywhere, In, Nothing, Tested}
use Rattle.graph_build_names.specs.Names.{Names, object_of, pick}
use Rattle.graph_build_names.specs.Writes.{is_location_moved}
use Rattle.graph_build_layout.specs.Laid.{Laid, Pair, PlaceLaid, behind_move}
use Rattle.graph_build_steps.specs.Rules.{operation_for, move_by, integer_element}
use Rattle.graph_build_steps.specs.Drafts.{Made, Goal, To, Unused, instruction_before, zero, leaf, target, follow, use_of, noted, note, stored, hold_location, held_location, assign_goal, keep_old, use_old, behind_old, left_free, operated, compared, compared_pointers, code_scaled_pair, unscaling, renew, scale, move_if}

-- Two values in turn: the code of the first, moved where the code of the second writes it, that of the second, and what
-- is made of them.
abbrev pub in_turn : (first second : ℕ → Goal → Made) → (begun : ℕ) → Pair → Made → Made
in_turn first second begun q last =
    first begun (To None (move_if q.moved q.moved_to q.first (second q.from (To None last))))

-- one value with a sign
abbrev pub signed : declared-sign.Sign → Operand → ℕ → Instruction
signed Plus a x = unit.Move x a
signed Minus a x = Operate x operation.Sub (unit.Constant 0) a
signed Complement a x = Operate x operation.Xor a (unit.Constant 4294967295)

-- what an element of memory is that changes so
abbrev pub changed_element : declared-change.Change → declared-element.Element
changed_element (change.Integer o ty v) = integer_element ty
changed_element (change.Pointer d bytes) = Word

-- the change by a value takes one more name
abbrev pub takes_more : declared-change.Change → Operand → Bool
takes_more (change.Integer o ty v) a = is_narrow ty
takes_more (change.Pointer d bytes) a = is_scaled bytes a

-- the new value, made of an old one
abbrev pub changed : declared-change.Change → (x t free : ℕ) → (old by : Operand) → Made → Made
changed (change.Integer o ty v) x t free old by m = renew ty x t (λ y. Operate y (operation_for o v) old by) m
changed (change.Pointer d bytes) x t free old by m =
    scale bytes by free (instruction_before (Operate x (move_by d) old (scaled bytes by free)) m)

-- an arm of `?:`: what it is asked for, where its value stands, and what it is for
abbrev pub arm_use : (void : Bool) → ℕ → Use
arm_use void t = if void then Nothing else In t

-- the operand that an arm of a choice gives
abbrev pub arm_value : (void : Bool) → ℕ → Operand
arm_value void t = if void then zero else unit.Name t

-- what an arm of a choice is asked for: nothing, or its value in the name of the choice
abbrev pub arm_goal : (void : Bool) → ℕ → Made → Goal
arm_goal void t m = if void then Unused m else To (Some t) m

-- the new value of a scalar that a value changes, and its note
abbrev pub renewed_scalar : declared-change.Change → (x : ℕ) → (old : Operand) → (by : Laid) → Goal → Made
renewed_scalar change x old by g = changed change x by.next by.next old by.value (noted x g)

-- The old value of what is in memory is loaded first; then its location is moved where later code writes it.
abbrev pub loaded_first : declared-change.Change → PlaceLaid → (moved : Bool) → Made → Made
loaded_first change q moved m =
    instruction_before (unit.Load q.next (changed_element change) q.location)
    (hold_location moved (q.next + 1) q.location m)

-- an assignment to memory, once its value is made
abbrev pub assigned_memory : Goal → PlaceLaid → (moved : Bool) → declared-element.Element → Operand → Goal
assigned_memory g q moved element value =
    assign_goal (use_of g) (stored element (held_location moved q.next q.location) value g)

-- `a++` on a scalar, and on what is in memory
abbrev pub left_scalar : declared-change.Change → (x begun : ℕ) → Goal → Made
left_scalar change x t g =
    keep_old (use_of g) x t
    (changed change x (behind_old (use_of g) x t) (behind_old (use_of g) x t) (unit.Name x) (unit.Constant 1)
    (note x (use_old g x t)))

-- an object in memory is incremented or decremented, and the value that it had is given
abbrev pub left_memory : declared-change.Change → PlaceLaid → Goal → Made
left_memory change q g =
    let old = target g q.next in
    let free = left_free (use_of g) q.next in
    let own = behind_move (takes_more change (unit.Constant 1)) free in
    instruction_before (unit.Load old (changed_element change) q.location)
    (changed change own free free (unit.Name old) (unit.Constant 1)
    (instruction_before (Store (changed_element change) q.location (unit.Name own)) (follow g old)))

-- 1, behind so many names
abbrev pub one_at : ℕ → Laid
one_at t = record { value = unit.Constant 1; next = t; top = t }

-- a number, or 0 where there is none
abbrev pub or_zero : Option ℕ → ℕ
or_zero None = 0
or_zero (Some k) = k

module _ (n : Names) where
  -- the distance of two pointers in elements of so many bytes
  abbrev pub element_distance : ℕ → Goal → (begun : ℕ) → Pair → Made
  element_distance bytes g begun q =
      if bytes == 1 then operated n g begun q.next (λ x. Operate x operation.Sub q.left q.right)
      else instruction_before (Operate (pick n begun q.next) operation.Sub q.left q.right)
      (operated n g begun (q.next + 1) (λ x. unscaling (shift_of bytes) bytes x (pick n begun q.next)))

  -- what is made of two values that stand
  abbrev pub finished : declared-two.Two → Goal → (begun : ℕ) → Pair → Made
  finished (two.Arithmetic o ty) g begun q =
      operated n g begun q.next (λ x. Operate x (operation_for o ty) q.left q.right)
  finished (two.Compare o ty) g begun q = compared n g (integer ty).is_signed o begun (is_two o) q
  finished (two.ComparePointers o) g begun q = compared_pointers n g o begun q
  finished (two.Move d bytes) g begun q = code_scaled_pair n g begun (move_by d) bytes q.left q.right q.next
  finished (two.MoveFrom bytes) g begun q = code_scaled_pair n g begun operation.Add bytes q.right q.left q.next
  finished (two.Difference bytes) g begun q = element_distance bytes g begun q

  -- the new value of what is in memory, which is stored
  abbrev pub renewed_memory : declared-change.Change → PlaceLaid → (moved : Bool) → (by : Laid) → Goal → Made
  renewed_memory change q moved by g =
      let own = target g (pick n q.next (behind_move (takes_more change by.value) by.next)) in
      changed change own (pick n q.next by.next) by.next (unit.Name q.next) by.value
      (stored (changed_element change) (held_location moved (q.next + 1) q.location) (unit.Name own) g)

  -- The value of an object changes by another one: that of a scalar, or of what is in memory, behind the code that
  -- comes before its place.
  abbrev pub updated : (scalar : Option ℕ) → declared-change.Change → (written : ℕ → Bool) → PlaceLaid → (begun : ℕ)
      → (code_by : ℕ → Goal → Made) → (by : ℕ → Laid) → (behind_place : Made → Made) → Goal → Made
  updated (Some x) change written q t code_by by behind_place g =
      let moved = written x in let from = behind_move moved t in
      move_if moved t (unit.Name x)
      (code_by from (To None (renewed_scalar change x (held moved (unit.Name x) t) (by from) g)))
  updated None change written q t code_by by behind_place g =
      let moved = is_location_moved written q.location in let from = behind_move moved (q.next + 1) in
      behind_place (loaded_first change q moved (code_by from (To None (renewed_memory change q moved (by from) g))))

  -- it changes by 1, and the new value or the old one is used
  abbrev pub stepped : (scalar : Option ℕ) → declared-change.Change → declared-given.Given → PlaceLaid → (begun : ℕ)
      → (behind_place : Made → Made) → Goal → Made
  stepped (Some x) change New q t behind_place g = renewed_scalar change x (unit.Name x) (one_at t) g
  stepped None change New q t behind_place g =
      behind_place (loaded_first change q false (renewed_memory change q false (one_at (q.next + 1)) g))
  stepped (Some x) change Old q t behind_place g = left_scalar change x t g
  stepped None change Old q t behind_place g = behind_place (left_memory change q g)

  -- the address of an object
  abbrev pub object_address : declared-object.Object → ℕ → Goal → Made
  object_address (object.Static i) t g = leaf g (unit.StaticAddress i 0)
  object_address (object.Literal i) t g = leaf g (unit.StaticAddress (n.statics + i) 0)
  object_address (object.Automatic x) t g = operated n g t t (λ y. Address y (or_zero (object_of n x)))
