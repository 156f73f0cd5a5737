-- Graphs of small functions before and after a pass, which bear out a change of each kind, and such as bear out none.
use Rattle.std.specs.Prelude.{ℕ, ◌==◌, if◌then◌else◌, Some, None, List, [], ◌∷◌}
use Rattle.debug_records.specs.declared.change.PassName.{PassName}
use Rattle.debug_records.specs.declared.change.Kind.TheVariants.{Moved}
use Rattle.word_base.specs.declared.operation.Operation.TheVariants.{Add}
use Rattle.graph_homes.specs.declared.home.Home.{Home}
use Rattle.graph_homes.specs.declared.home.Home.TheVariants.{Register}
use Rattle.graph_core.specs.declared.block.Comparison.TheVariants.{Less}
use Rattle.graph_core.specs.declared.instruction.Callee.TheVariants.{Putchar}
use Rattle.graph_core.specs.Graphs.{Name, Constant, Of, Is, Instruction, Marker, Note, Move, Operate, Operated, Call, Jump, Branch, Return, Graph, Logged}
use Rattle.pass_law.specs.Worked.{scalar, block, entry_block, main_of}
use Rattle.graph_homes.specs.Reused.{IsReused}
use Rattle.pass_law.specs.Earned.{IsRemoved, IsMoved, IsReplaced}

-- The scalars x, y and z are the names 0, 1 and 2; the names from 3 on, so many in all, are temporaries that code
-- motion made.
abbrev pub of_three : (names : ℕ) → Graph → Graph
of_three names g = record g { scalars = scalar 0 ∷ scalar 1 ∷ scalar 2 ∷ []; name_count = names; first_moved = 3 }

-- `x = y + z; return x`
abbrev pub adding : Graph
adding = of_three 3 (main_of (Marker 2 ∷ Operate 0 Add (Name 1) (Name 2) ∷ Note 0 (Is (Of (Name 0))) ∷ []) (Name 0))

-- The assignment is gone, and x is returned all the same.
abbrev pub noting_sum : Graph
noting_sum = of_three 3 (main_of (Marker 2 ∷ Note 0 (Is (Operated Add (Of (Name 1)) (Of (Name 2)))) ∷ []) (Name 0))

-- The sum goes to the temporary, and from there to x.
abbrev pub by_temporary : List Instruction
by_temporary = Operate 3 Add (Name 1) (Name 2) ∷ Move 0 (Name 3) ∷ Note 0 (Is (Of (Name 0))) ∷ []

-- the instructions of that assignment
abbrev pub adds_ahead : List Instruction
adds_ahead = Marker 2 ∷ by_temporary

-- the graph with them
abbrev pub adding_ahead : Graph
adding_ahead = of_three 4 (main_of adds_ahead (Name 0))

-- Another sum goes to the temporary, and from there to x.
abbrev pub adds_another : List Instruction
adds_another = Marker 2 ∷ Operate 3 Add (Name 1) (Name 1) ∷ Move 0 (Name 3) ∷ Note 0 (Is (Of (Name 0))) ∷ []

-- the graph with that sum
abbrev pub adding_another : Graph
adding_another = of_three 4 (main_of adds_another (Name 0))

-- `if (y < z) x = y + z; return x`: the block 1 has the condition in place 2, the block 2 the assignment in place 3,
-- and the block 3 the return in place 4.
abbrev pub adds_in_three : List Instruction
adds_in_three = Marker 3 ∷ Operate 0 Add (Name 1) (Name 2) ∷ Note 0 (Is (Of (Name 0))) ∷ []

-- the graph with these instructions at the condition and at the assignment
abbrev pub choosing : (at_condition at_assignment : List Instruction) → Graph
choosing at_condition at_assignment = record (main_of [] (Name 0)) {
  blocks =
      entry_block ∷ block (Some 1) at_condition (Branch Less (Name 1) (Name 2) 2 3)
      ∷ block (Some 2) at_assignment (Jump 3) ∷ block None (Marker 4 ∷ []) (Return (Some (Name 0))) ∷ [];
}

-- the graph before
abbrev pub adding_on_one_way : Graph
adding_on_one_way = of_three 3 (choosing (Marker 2 ∷ []) adds_in_three)

-- The sum is computed at the condition, so on the way without the assignment too. That it is copied there, to a name
-- that nothing reads, makes it no better.
abbrev pub adds_at_condition : List Instruction
adds_at_condition = Marker 2 ∷ Operate 3 Add (Name 1) (Name 2) ∷ Move 4 (Name 3) ∷ []

-- the instructions of the assignment behind it
abbrev pub copies_in_three : List Instruction
copies_in_three = Marker 3 ∷ Move 0 (Name 3) ∷ Note 0 (Is (Of (Name 0))) ∷ []

-- the graph behind it
abbrev pub adding_on_each_way : Graph
adding_on_each_way = of_three 5 (choosing adds_at_condition copies_in_three)

-- `x = y; putchar(x); x = y; return 0` in the places 2 to 5, where the first assignment was removed before, so that
-- another value of x is put out.
abbrev pub notes_y_in : (place : ℕ) → List Instruction
notes_y_in place = Marker place ∷ Note 0 (Is (Of (Name 1))) ∷ []

-- the instructions of place 3
abbrev pub prints_x : List Instruction
prints_x = Marker 3 ∷ Call None Putchar (Name 0 ∷ []) ∷ []

-- the graph with these instructions in place 4
abbrev pub printing : (in_four : List Instruction) → Graph
printing in_four = record (main_of [] (Constant 0)) {
  blocks =
      entry_block ∷ block (Some 1) (notes_y_in 2) (Jump 2) ∷ block (Some 2) prints_x (Jump 3)
      ∷ block (Some 3) in_four (Jump 4) ∷ block (Some 4) (Marker 5 ∷ []) (Return (Some (Constant 0))) ∷ [];
}

-- the graph before
abbrev pub assigning_again : Graph
assigning_again = of_three 3 (printing (Marker 4 ∷ Move 0 (Name 1) ∷ Note 0 (Is (Of (Name 0))) ∷ []))

-- The second assignment is removed too. Its note is the first one's, behind which x is read; behind its own nothing
-- reads x.
abbrev pub noting_again : Graph
noting_again = of_three 3 (printing (notes_y_in 4))

-- `x = y; return x`
abbrev pub copies_y : List Instruction
copies_y = Marker 2 ∷ Move 0 (Name 1) ∷ Note 0 (Is (Of (Name 0))) ∷ []

-- the graph as it is built
abbrev pub copying : Graph
copying = of_three 3 (main_of copies_y (Name 0))

-- y is returned in place of x.
abbrev pub passing_by : Graph
passing_by = of_three 3 (main_of copies_y (Name 1))

-- z, which was not copied to x, is returned in place of x.
abbrev pub passing_another : Graph
passing_another = of_three 3 (main_of copies_y (Name 2))

-- each name is kept in a register of its own
abbrev pub own_registers : ℕ → Home
own_registers x = Register x

-- all names are kept in one register
abbrev pub one_register : ℕ → Home
one_register x = Register 9

-- `x = 5, putchar(x), x = y + z` in one place: the constant is moved to x first, and the sum from the temporary.
abbrev pub assigning_twice : Graph
assigning_twice =
    of_three 4
    (main_of
    (Marker 2 ∷ Move 0 (Constant 5) ∷ Note 0 (Is (Of (Name 0))) ∷ Call None Putchar (Name 0 ∷ [])
    ∷ by_temporary)
    (Name 0))

-- the change by which code motion moved the sum
abbrev pub motion : PassName → Logged
motion pass = record { pass = pass; kind = Moved; place = 2; variable = 0 }

-- x, the temporary and all numbers that are no names are kept in one register, y and z in others.
abbrev pub apart_from_others : ℕ → Home
apart_from_others x = if x == 1 then Register 10 else if x == 2 then Register 11 else Register 9

-- What was removed in place 4, moved in place 2, replaced in place 3, and given to another name too, is borne out.
pub record AreBorneOut : Type 0 where
  pub removed : IsRemoved assigning_again noting_again 4 0
  pub moved : IsMoved adding adding_ahead 2 0
  pub replaced : IsReplaced copying passing_by 3 0
  pub reused : IsReused [] one_register copying 0 0

-- What bears no change out. A removal, where x is read behind its note; a move, where another sum is computed, or where
-- the sum is computed on a way that did not compute it; a replaced read, where what is read was not copied; a shared
-- register, where x has one of its own, or shares it with the temporary of its moved sum alone.
pub record AreNotBorneOut : Type 0 where
  pub removed : IsRemoved adding noting_sum 2 0 → ⊥
  pub another : IsMoved adding adding_another 2 0 → ⊥
  pub moved : IsMoved adding_on_one_way adding_on_each_way 3 0 → ⊥
  pub replaced : IsReplaced copying passing_another 3 0 → ⊥
  pub own : IsReused [] own_registers copying 0 0 → ⊥
  pub reused : (pass : PassName) → IsReused (motion pass ∷ []) apart_from_others assigning_twice 0 0 → ⊥
