-- Passes over a graph in which writes go, one after the other.
use Rattle.std.specs.Prelude.{◌≡◌, ◌⊎◌, ℕ, zero, suc, ◌<◌, Bool, true, false, Some, None, Option, List, ◌∷◌, ◌++◌, length, slice_get}
use Rattle.std.specs.declared.vec.Vec.{Vec}
use Rattle.std.specs.declared.alloc.Global.{Global}
use Rattle.places.specs.declared.flow.Assignment.{Assignment}
use Rattle.graph_core.specs.Graphs.{Instruction, End, Block, Graph}
use Rattle.graph_core.specs.Validity.{place_behind, total}
use Rattle.graph_paths.specs.declared.marks.Marks.{Marks}
use Rattle.graph_paths.specs.PathMarksTable.{bits_of}
use Rattle.dead_pass_rule.specs.Idle.{Goes}
use Rattle.dead_pass_rule.specs.Asking.{Turns, is_going, IsAsked, TellsAsked}
use Rattle.dead_pass_rule.specs.Certified.{IsFree}
use Rattle.dead_pass_rule.specs.Walks.{AreAsked, AreSameBut, AreTold, IsTable, turn_of}

-- one where a turn is that of a write that stays
abbrev pub stays_one : (turn : ℕ) → ℕ
stays_one zero = 1
stays_one (suc k) = 0

-- how many writes stay by the turns of a block
abbrev pub staying_in : Vec ℕ Global → ℕ
staying_in row = total stays_one row.items

-- how many writes stay
abbrev pub staying : List (Vec ℕ Global) → ℕ
staying turns = total staying_in turns

-- a block has a turn for each of its instructions
abbrev pub HasRow : Option (Vec ℕ Global) → Block → Type 0
HasRow None b = ⊥
HasRow (Some row) b = length row.items ≡ length b.instructions

-- there is a turn for each instruction of each block
abbrev pub HaveRows : List Block → List (Vec ℕ Global) → Type 0
HaveRows blocks turns = (n : ℕ) (b : Block) → slice_get blocks n ≡ Some b → HasRow (slice_get turns n) b

-- there is a turn of a write with so many instructions behind it, by the turns of its block
abbrev pub HasTurn : Option (Vec ℕ Global) → (left : ℕ) → Type 0
HasTurn None left = ⊥
HasTurn (Some row) left = left < length row.items

-- What one write more does to turns: that it goes, and nothing else.
pub record GoesOneMore (old new : List (Vec ℕ Global)) (n left : ℕ) : Type 0 where
  pub only : (m k : ℕ) → is_going (turn_of new) m k ≡ true
      → (is_going (turn_of old) m k ≡ true) ⊎ ((m ≡ n) × (k ≡ left))
  pub kept : (m k : ℕ) → is_going (turn_of old) m k ≡ true → is_going (turn_of new) m k ≡ true
  pub rows : (blocks : List Block) → HaveRows blocks old → HaveRows blocks new
  pub fewer : staying new < staying old

-- each write that goes shall
abbrev pub AllGo : List Assignment → Graph → Turns → Type 0
AllGo assignments g turns =
    (n : ℕ) (b : Block) (before rest : List Instruction) (i : Instruction) → slice_get g.blocks n ≡ Some b
    → b.instructions ≡ before ++ i ∷ rest → is_going turns n (length rest) ≡ true
    → Goes assignments g n (i ∷ rest) b.end

-- each write of a block that may go and stays is asked for, of those with fewer than so many instructions behind them
abbrev pub AreNeeded : List Assignment → Graph → Turns → (n count : ℕ) → Block → Type 0
AreNeeded assignments g turns n count b =
    (before rest : List Instruction) (i : Instruction) → b.instructions ≡ before ++ i ∷ rest → length rest < count
    → is_going turns n (length rest) ≡ false → (free : IsFree assignments g (place_behind before b.place) i)
    → IsAsked turns g.blocks free.x n rest b.end

-- so it is of all writes of a block
abbrev pub AllNeeded : List Assignment → Graph → Turns → (n : ℕ) → Type 0
AllNeeded assignments g turns n =
    (b : Block) → slice_get g.blocks n ≡ Some b → AreNeeded assignments g turns n (length b.instructions) b

-- and each that may go and stays is asked for, where a path comes to its block
abbrev pub AllStay : List Assignment → Graph → Turns → (led : ℕ → Bool) → Type 0
AllStay assignments g turns led =
    (n : ℕ) (b : Block) (before rest : List Instruction) (i : Instruction) → slice_get g.blocks n ≡ Some b
    → b.instructions ≡ before ++ i ∷ rest → is_going turns n (length rest) ≡ false → led n ≡ true
    → (free : IsFree assignments g (place_behind before b.place) i) → IsAsked turns g.blocks free.x n rest b.end

-- At each point of a pass each write that went shall, and of each block it is told at least what is asked for at its
-- start.
pub record IsSound (assignments : List Assignment) (g : Graph) (turns : List (Vec ℕ Global)) (marks : Marks)
    : Type 0 where
  pub rows : HaveRows g.blocks turns
  pub goes : AllGo assignments g (turn_of turns)
  pub table : IsTable (length g.blocks) g.name_count marks
  pub told : AreTold (turn_of turns) g.blocks g.name_count marks

-- the names that are told of blocks are asked for there
abbrev pub AreAllAsked : Graph → List (Vec ℕ Global) → Marks → Type 0
AreAllAsked g turns marks = AreAsked (turn_of turns) g.blocks (length g.blocks) g.name_count marks

-- WHAT A PART OF A PASS DOES, that tells whether a write went. All stays sound. Where a write went fewer stay, and else
-- the turns are the same. Of no block more is told than was.
pub record Cascades (assignments : List Assignment) (g : Graph) (turns : List (Vec ℕ Global)) (marks : Marks)
    (new_turns : List (Vec ℕ Global)) (new_marks : Marks) (is_less : Bool) : Type 0 where
  pub sound : IsSound assignments g new_turns new_marks
  pub fewer : is_less ≡ true → staying new_turns < staying turns
  pub same : is_less ≡ false → new_turns ≡ turns
  pub less : (n x : ℕ) → n < length g.blocks → bits_of new_marks n x ≡ true → bits_of marks n x ≡ true

-- WHAT A WALK BACK over a block has done, from its end to where so much is left behind: the same of the turns, and in
-- the row behind those of the blocks it is told at least what is asked for there. Where no write went and just what is
-- asked for was told of blocks, just that is told in this row too, and each write behind that may go is asked for.
pub record WalksBack (assignments : List Assignment) (g : Graph) (n : ℕ) (b : Block) (turns : List (Vec ℕ Global))
    (marks : Marks)
    (rest : List Instruction) (new_turns : List (Vec ℕ Global)) (new_marks : Marks) (is_less : Bool) : Type 0 where
  pub table : IsTable (length g.blocks) g.name_count new_marks
  pub others : AreSameBut (length g.blocks) marks new_marks
  pub rows : HaveRows g.blocks new_turns
  pub goes : AllGo assignments g (turn_of new_turns)
  pub told : AreTold (turn_of new_turns) g.blocks g.name_count marks
  pub tells : (x : ℕ) → x < g.name_count
      → TellsAsked (turn_of new_turns) (λ l. bits_of marks l x) (length g.blocks) x n
      (bits_of new_marks (length g.blocks) x) rest b.end
  pub fewer : is_less ≡ true → staying new_turns < staying turns
  pub same : is_less ≡ false → new_turns ≡ turns
  pub asked : is_less ≡ false → AreAllAsked g turns marks → (x : ℕ) → x < g.name_count
      → bits_of new_marks (length g.blocks) x ≡ true
      → IsAsked (turn_of turns) g.blocks x n rest b.end
  pub needed : is_less ≡ false → AreAllAsked g turns marks → AreNeeded assignments g (turn_of turns) n (length rest) b

-- WHAT A PASS DOES, that tells whether a write went: all that go shall still; where one went fewer stay, and else the
-- turns are the same and no other could go.
pub record Passes (assignments : List Assignment) (g : Graph) (led : ℕ → Bool) (turns new : List (Vec ℕ Global))
    (is_less : Bool) : Type 0 where
  pub rows : HaveRows g.blocks new
  pub goes : AllGo assignments g (turn_of new)
  pub fewer : is_less ≡ true → staying new < staying turns
  pub same : is_less ≡ false → new ≡ turns
  pub stays : is_less ≡ false → AllStay assignments g (turn_of new) led
