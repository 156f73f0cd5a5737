-- Blocks that are built from their ends, and what values are for.
use Rattle.std.specs.Prelude.{ℕ, ◌+◌, ◌-◌, ◌==◌, Bool, true, false, Option, Some, None, List, [], ◌∷◌, ◌++◌, length, map, reverse, option_map, if◌then◌else◌}
use Rattle.c_tree.specs.declared.types.IntegerType as named
use Rattle.c_tree.specs.declared.typed_expression.Comparison as declared-comparison
use Rattle.c_tree.specs.declared.typed_expression.Comparison.TheVariants as comparison
use Rattle.word_base.specs.declared.operation.Operation as declared-operation
use Rattle.word_base.specs.declared.operation.Operation.TheVariants as operation
use Rattle.graph_core.specs.declared.instruction.Element as declared-element
use Rattle.graph_core.specs.declared.block.Comparison as declared-branch
use Rattle.graph_core.specs.declared.block.Comparison.TheVariants as branch
use Rattle.graph_core.specs.declared.name.Name as declared-name
use Rattle.graph_core.specs.Graphs as unit
use Rattle.graph_core.specs.Graphs.{Operand, Location, Instruction, Note, Is, Of, Operate, Truncate, Same, Address, Store, End, Jump, Branch, Block, operand_view, location_view, instruction_view, end_view, block_view}
use Rattle.graph_build_steps.specs.declared.draft.Draft as declared-draft
use Rattle.graph_build_steps.specs.declared.draft.Computation as declared-computation
use Rattle.graph_build_steps.specs.declared.draft.Computation.TheVariants as computation
use Rattle.graph_build_steps.specs.declared.goal.Goal as declared-goal
use Rattle.graph_build_steps.specs.declared.goal.Goal.TheVariants as goal
use Rattle.graph_build_steps.specs.declared.draft.Fork as declared-fork
use Rattle.graph_build_steps.specs.Rules.{less_by, truncation_to}
use Rattle.graph_build_names.specs.Conversions.{is_narrow}
use Rattle.graph_build_names.specs.Operands.{is_two_pointers, operand_at, located_at}
use Rattle.graph_build_names.specs.Scales.{is_scaled, scaled, shift_of}
use Rattle.graph_build_layout.specs.declared.laid.Use.{Use}
use Rattle.graph_build_layout.specs.declared.laid.Use.TheVariants.{Anywhere, In, Nothing, Tested}
use Rattle.graph_build_names.specs.Names.{Names, pick}
use Rattle.graph_build_layout.specs.Laid.{Pair, behind_move}

-- What follows in a block that is being built, and the inner blocks that stand: the last one in order of evaluation
-- first.
pub record Made : Type 0 where
  pub ops : List Instruction
  pub end : End
  pub inner : List Block

-- What a value is for: to stand anywhere or in a scalar, and what follows; for nothing, and what follows; to be tested,
-- and where to go by it.
pub data Goal : Type 0 where
  To : (want : Option ℕ) → Made → Goal
  Unused : Made → Goal
  Either : (one other : ℕ) → List Block → Goal

-- the draft that the code has: its last instruction stands first
abbrev pub made_of : declared-draft.Draft → Made
made_of d =
    record {
      ops = map instruction_view (reverse d.ops.items);
      end = end_view d.end;
      inner = map block_view d.inner.items;
    }

abbrev pub goal_of : declared-goal.Goal → Goal
goal_of (goal.To want d) = To (option_map (λ (n : declared-name.Name). n.0) want) (made_of d)
goal_of (goal.Unused d) = Unused (made_of d)
goal_of (goal.Either one other inner) = Either one.0 other.0 (map block_view inner.items)

-- a computation writes a name
abbrev pub computing : declared-computation.Computation → ℕ → Instruction
computing (computation.Move a) x = unit.Move x (operand_view a)
computing (computation.Operate o a b) x = Operate x o (operand_view a) (operand_view b)
computing (computation.Truncate t a) x = Truncate x t (operand_view a)
computing (computation.Same a b) x = Same x (operand_view a) (operand_view b)
computing (computation.Address object) x = Address x object
computing (computation.Load e l) x = unit.Load x e (location_view l)

-- how a value is used that is wanted in a scalar, or anywhere
abbrev pub use_by : Option ℕ → Use
use_by None = Anywhere
use_by (Some x) = In x

-- what a value's layout is asked for
abbrev pub use_of : Goal → Use
use_of (To want m) = use_by want
use_of (Unused m) = Nothing
use_of (Either one other inner) = Tested

-- an instruction before what was made
abbrev pub instruction_before : Instruction → Made → Made
instruction_before i m = record { ops = i ∷ m.ops; end = m.end; inner = m.inner }

-- the end of a block, and the blocks behind it
abbrev pub ending : End → List Block → Made
ending e inner = record { ops = []; end = e; inner = inner }

-- the operand 0
abbrev pub zero : Operand
zero = unit.Constant 0

-- a value is tested: it is not 0
abbrev pub tested : Operand → (one other : ℕ) → List Block → Made
tested a one other inner = ending (Branch branch.NotEqual a zero one other) inner

-- what follows a value that stands in an operand
abbrev pub leaf : Goal → Operand → Made
leaf (To None m) a = m
leaf (To (Some x) m) a = instruction_before (unit.Move x a) m
leaf (Unused m) a = m
leaf (Either one other inner) a = tested a one other inner

-- the name that an operation writes, if it would have this one of its own
abbrev pub target : Goal → ℕ → ℕ
target (To None m) own = own
target (To (Some x) m) own = x
target (Unused m) own = own
target (Either one other inner) own = own

-- what follows once the target is written
abbrev pub follow : Goal → ℕ → Made
follow (To want m) own = m
follow (Unused m) own = m
follow (Either one other inner) own = tested (unit.Name own) one other inner

-- an index is scaled: by a shift where the size is a power of 2, and else by a multiplication
abbrev pub scaling : Option ℕ → (size : ℕ) → (t : ℕ) → Operand → Instruction
scaling (Some k) size t a = Operate t operation.Sll a (unit.Constant k)
scaling None size t a = Operate t operation.Mul a (scaled size (unit.Constant 1) 0)

-- a name becomes an index times a size, by a shift or a multiplication, where that is not the index itself
abbrev pub scale : ℕ → Operand → ℕ → Made → Made
scale size a t m = if is_scaled size a then instruction_before (scaling (shift_of size) size t a) m else m

-- a distance in bytes becomes one in elements
abbrev pub unscaling : Option ℕ → (size : ℕ) → (x t : ℕ) → Instruction
unscaling (Some k) size x t = Operate x operation.Sra (unit.Name t) (unit.Constant k)
unscaling None size x t = Operate x operation.Div (unit.Name t) (scaled size (unit.Constant 1) 0)

-- an operand is moved to a temporary, if it has to be
abbrev pub move_if : Bool → ℕ → Operand → Made → Made
move_if moved t a m = if moved then instruction_before (unit.Move t a) m else m

-- a scalar has its own value from here on
abbrev pub note : ℕ → Made → Made
note x m = instruction_before (Note x (Is (Of (unit.Name x)))) m

-- a scalar is written anew, noted, and then its value is used
abbrev pub noted : ℕ → Goal → Made
noted x g = note x (leaf g (unit.Name x))

-- a comparison as a value: by one instruction or by two
abbrev pub compare_by : declared-comparison.Comparison → (signed : Bool) → (x t : ℕ) → (a b : Operand) → Made → Made
compare_by comparison.Less s x t a b m = instruction_before (Operate x (less_by s) a b) m
compare_by comparison.Greater s x t a b m = instruction_before (Operate x (less_by s) b a) m
compare_by comparison.LessEqual s x t a b m =
    instruction_before (Operate t (less_by s) b a)
    (instruction_before (Operate x operation.Xor (unit.Name t) (unit.Constant 1)) m)
compare_by comparison.GreaterEqual s x t a b m =
    instruction_before (Operate t (less_by s) a b)
    (instruction_before (Operate x operation.Xor (unit.Name t) (unit.Constant 1)) m)
compare_by comparison.Equal s x t a b m =
    instruction_before (Operate t operation.Xor a b)
    (instruction_before (Operate x operation.Sltu (unit.Name t) (unit.Constant 1)) m)
compare_by comparison.NotEqual s x t a b m =
    instruction_before (Operate t operation.Xor a b)
    (instruction_before (Operate x operation.Sltu zero (unit.Name t)) m)

-- the same of pointers: they are equal where they point to one place of one object
abbrev pub compare_pointers_by : declared-comparison.Comparison → (x t : ℕ) → (a b : Operand) → Made → Made
compare_pointers_by comparison.Equal x t a b m = instruction_before (Same x a b) m
compare_pointers_by comparison.NotEqual x t a b m =
    instruction_before (Same t a b) (instruction_before (Operate x operation.Xor (unit.Name t) (unit.Constant 1)) m)
compare_pointers_by o x t a b m = compare_by o false x t a b m

-- by which comparison of a block's end a number is less, and by which it is not
abbrev pub less : (signed : Bool) → declared-branch.Comparison
less signed = if signed then branch.Less else branch.LessUnsigned

-- the test that one word is at least another, as signed numbers or not
abbrev pub not_less : (signed : Bool) → declared-branch.Comparison
not_less signed = if signed then branch.AtLeast else branch.AtLeastUnsigned

-- a comparison that is a condition
abbrev pub branch_by : declared-comparison.Comparison → (signed : Bool) → (a b : Operand) → (one other : ℕ) → End
branch_by comparison.Less s a b one other = Branch (less s) a b one other
branch_by comparison.Greater s a b one other = Branch (less s) b a one other
branch_by comparison.LessEqual s a b one other = Branch (not_less s) b a one other
branch_by comparison.GreaterEqual s a b one other = Branch (not_less s) a b one other
branch_by comparison.Equal s a b one other = Branch branch.Equal a b one other
branch_by comparison.NotEqual s a b one other = Branch branch.NotEqual a b one other

-- Of a graph of so many blocks, the label of an inner block that is finished next: inner blocks stand at the end of the
-- graph, in order of evaluation.
abbrev pub next_label : (top : ℕ) → List Block → ℕ
next_label top inner = top - (length inner + 1)

-- the number of the next block before what was made
abbrev pub label_of : (top : ℕ) → Made → ℕ
label_of top m = next_label top m.inner

-- the inner blocks with one more, in a place
abbrev pub with_inner_block : (place : ℕ) → Made → List Block
with_inner_block place m = m.inner ++ record { place = Some place; instructions = m.ops; end = m.end } ∷ []

-- a block that writes a word to a name and goes on
abbrev pub arm : (place own word label : ℕ) → List Block → List Block
arm place own w label inner =
    with_inner_block place (record { ops = unit.Move own (unit.Constant w) ∷ []; end = Jump label; inner = inner })

-- two ways to go by a test
pub record Fork : Type 0 where
  pub one : ℕ
  pub other : ℕ
  pub inner : List Block

-- Where a test leads: by its goal, or to two arms that write its truth to a name.
abbrev pub forked : (place top : ℕ) → Goal → (own : ℕ) → Fork
forked place top (Either one other inner) own = record { one = one; other = other; inner = inner }
forked place top g own =
    let m = leaf g (unit.Name own) in
    let false_arm = arm place own 0 (label_of top m) (with_inner_block place m) in
    record {
      one = next_label top false_arm;
      other = next_label top (with_inner_block place m);
      inner = arm place own 1 (label_of top m) false_arm;
    }

-- a value that stands where its layout says, then tested if it is to be
abbrev pub valued : Goal → Operand → Goal
valued (Either one other inner) a = To None (tested a one other inner)
valued g a = g

-- a location is moved to a name of its own
abbrev pub hold_location : Bool → ℕ → Location → Made → Made
hold_location moved t l m = move_if moved t (operand_at l) m

-- a location of which the address was moved to a temporary, if it had to be
abbrev pub held_location : Bool → ℕ → Location → Location
held_location moved t l = if moved then located_at l (unit.Name t) else l

-- the value that an assignment to memory leaves
abbrev pub stored : declared-element.Element → Location → Operand → Goal → Made
stored e l a (To want m) = instruction_before (Store e l a) m
stored e l a (Unused m) = instruction_before (Store e l a) m
stored e l a (Either one other inner) = instruction_before (Store e l a) (tested a one other inner)

-- the old value of a scalar is kept where it is wanted
abbrev pub keep_old : Use → (x t : ℕ) → Made → Made
keep_old Nothing x t m = m
keep_old (In y) x t m =
    if y == x then instruction_before (unit.Move t (unit.Name x)) m
    else instruction_before (unit.Move y (unit.Name x)) m
keep_old u x t m = instruction_before (unit.Move t (unit.Name x)) m

-- what becomes of the value that a scalar had before an increment
abbrev pub use_old : Goal → (x t : ℕ) → Made
use_old (Unused k) x t = k
use_old (To (Some y) k) x t = if y == x then instruction_before (unit.Move x (unit.Name t)) k else k
use_old (To None k) x t = k
use_old (Either one other inner) x t = tested (unit.Name t) one other inner

-- the first name that is free behind the old value of a scalar
abbrev pub behind_old : Use → (x t : ℕ) → ℕ
behind_old Nothing x t = t
behind_old (In y) x t = if y == x then t + 1 else t
behind_old u x t = t + 1

-- what the right side of an assignment to memory is for
abbrev pub assign_goal : Use → Made → Goal
assign_goal (In x) k = To (Some x) k
assign_goal u k = To None k

-- the name for the new value behind the old value of what is in memory
abbrev pub left_free : Use → ℕ → ℕ
left_free (In y) t = t
left_free u t = t + 1

-- a value that is worked with although nothing uses it
abbrev pub used : Goal → Goal
used (Unused m) = To None m
used g = g

-- a call: without a target where it gives nothing or nothing uses what it gives
abbrev pub called_by : (void : Bool) → Goal → ℕ → (Option ℕ → Instruction) → Made
called_by true g own i = instruction_before (i None) (leaf g zero)
called_by false (Unused m) own i = instruction_before (i None) m
called_by false g own i = instruction_before (i (Some (target g own))) (follow g own)

-- a new value of a scalar or of memory, in its type: by way of one more name where that is narrow
abbrev pub renew : named.IntegerType → (x t : ℕ) → (ℕ → Instruction) → Made → Made
renew ty x t i m =
    if is_narrow ty then instruction_before (i t) (instruction_before (Truncate x (truncation_to ty) (unit.Name t)) m)
    else instruction_before (i x) m

-- the fork that the code has
abbrev pub fork_view : declared-fork.Fork → Fork
fork_view f = record { one = f.one.0; other = f.other.0; inner = map block_view f.inner.items }

module _ (n : Names) where
  -- one operation on a value
  abbrev pub operated : Goal → (begun free : ℕ) → (ℕ → Instruction) → Made
  operated g begun free i = instruction_before (i (target g (pick n begun free))) (follow g (pick n begun free))

  -- a pointer and a scaled index
  abbrev pub code_scaled_pair : Goal → (begun : ℕ) → declared-operation.Operation → (bytes : ℕ)
      → (pointer index : Operand) → (free : ℕ) → Made
  code_scaled_pair g begun o bytes p i free =
      scale bytes i free
      (operated g begun (behind_move (is_scaled bytes i) free) (λ x. Operate x o p (scaled bytes i free)))

  -- a comparison as a value
  abbrev pub compared_value : Goal → (signed : Bool) → declared-comparison.Comparison → (begun : ℕ) → (two : Bool)
      → Pair → Made
  compared_value g signed o begun two q =
      let own = pick n begun (behind_move two q.next) in
      compare_by o signed (target g own) (pick n begun q.next) q.left q.right (follow g own)

  -- a comparison, as a condition or as a value
  abbrev pub compared : Goal → (signed : Bool) → declared-comparison.Comparison → (begun : ℕ) → (two : Bool) → Pair
      → Made
  compared (Either one other inner) signed o begun two q = ending (branch_by o signed q.left q.right one other) inner
  compared g signed o begun two q = compared_value g signed o begun two q

  -- the same of pointers
  abbrev pub compared_pointers_value : Goal → declared-comparison.Comparison → (begun : ℕ) → Pair → Made
  compared_pointers_value g o begun q =
      let own = pick n begun (behind_move (is_two_pointers o) q.next) in
      compare_pointers_by o (target g own) (pick n begun q.next) q.left q.right (follow g own)

  -- two pointers are compared: tested, or told by 0 and 1
  abbrev pub compared_pointers : Goal → declared-comparison.Comparison → (begun : ℕ) → Pair → Made
  compared_pointers (Either one other inner) o begun q = ending (branch_by o false q.left q.right one other) inner
  compared_pointers g o begun q = compared_pointers_value g o begun q
