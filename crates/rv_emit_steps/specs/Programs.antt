-- Code as it lies in memory, and what stands where in it.
use Rattle.std.specs.Prelude.{◌≡◌, ℕ, ◌+◌, ◌-◌, ◌*◌, ◌≤◌, Bool, false, Some, List, [], ◌∷◌, length, slice_get}
use Rattle.memory_map.specs.declared.map.Map.{Map}
use Rattle.memory_map.specs.Maps.{bytes_size, code_start, most_words, stack_size}
use Rattle.rv_code.specs.declared.instruction.Instruction.{Instruction}
use Rattle.rv_code.specs.InForm.{IsInForm}
use Rattle.rv_code.specs.Encoding.{encoded}
use Rattle.rv_machine.specs.State.{MachineState, word}
use Rattle.rv_machine.specs.Run.{is_stop}
use Rattle.rv_emit_steps.specs.Holding.{Holding, held, AreInRange}

-- The words of code, the addresses of its stops, and where the regions of memory lie.
pub record Program : Type 0 where
  pub words : List ℕ
  pub stops : List ℕ
  pub map : Map
  pub short : length words ≤ most_words map

-- The address of the word at an index of the code.
abbrev pub address_of : (index : ℕ) → ℕ
address_of i = code_start + 4 * i

-- The word of the distance from one index of the code to another, as jumps and branches have it.
abbrev pub distance : (from to : ℕ) → ℕ
distance i j = word (4 * j + (4294967296 - 4 * i))

-- An instruction stands at an index of the code, in a word that spells it, and a stop is there or is not.
pub record IsAt (p : Program) (index : ℕ) (stops : Bool) (i : Instruction) : Type 0 where
  pub in_form : IsInForm i
  pub there : slice_get p.words index ≡ Some (encoded i)
  pub stop : is_stop p.stops (address_of index) ≡ stops

-- Instructions stand in the code, one behind the other, from an index on. There is a stop at the first of them if that
-- is said, and at no other.
abbrev pub CodeAt : Program → (index : ℕ) → (stops : Bool) → List Instruction → Type 0
CodeAt p index stops [] = Unit {0}
CodeAt p index stops (i ∷ more) = IsAt p index stops i × CodeAt p (index + 1) false more

-- What is to be said of the next word behind instructions, if that is to be said of the first one and of no other.
abbrev pub behind : Bool → List Instruction → Bool
behind b [] = b
behind b (i ∷ more) = false

-- The machine stands at the word at an index of the code, and holds this.
pub record Stands (p : Program) (s : MachineState) (index : ℕ) (h : Holding) : Type 0 where
  pub code : s.code ≡ p.words
  pub pc : s.pc ≡ address_of index
  pub registers : length s.registers ≡ 32
  pub map : s.map ≡ p.map
  pub bytes : length s.bytes ≡ bytes_size
  pub stack : length s.stack ≡ stack_size
  pub holds : held s ≡ h
  pub in_range : AreInRange h
