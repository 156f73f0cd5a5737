-- Properties of code that is made in a place, by what its instructions read, write, note and call.
use Rattle.std.proofs.Common.{◌≡◌, ℕ, ◌≤◌, ◌<◌, Bool, true, false, Option, Some, None, List, [], ◌∷◌}
use Rattle.graph_core.specs.declared.block.Comparison.{Comparison}
use Rattle.graph_core.specs.declared.instruction.Callee.{Callee}
use Rattle.graph_core.specs.declared.instruction.Element.{Element}
use Rattle.graph_core.specs.Graphs as unit
use Rattle.graph_core.specs.Graphs.{Operand, Location, Instruction, Marker, Note, Operate, Truncate, Same, Address, Store, Zero, CopyWords, Call, Block, Jump, Branch, Return}
use Rattle.graph_core.specs.Uses.{is_computation, target_of}
use Rattle.graph_build_names.specs.Names.{Names}
use Rattle.graph_build_names.specs.Writes.{is_that}
use Rattle.graph_build_steps.specs.Drafts.{Made, instruction_before, ending, note, with_inner_block, label_of}
use Rattle.graph_build_laws.proofs.Written.{NamesFew}
use Rattle.graph_build_laws.specs.Passing.{Grows}

-- Some names are asked about.
module _ (own : ℕ → Bool) where
  -- an operand stands in one of them
  abbrev pub stands : Operand → Bool
  stands (unit.Name y) = own y
  stands (unit.Constant w) = false
  stands (unit.StaticAddress o k) = false

  -- so does the address of a location
  abbrev pub lies : Location → Bool
  lies (unit.At a) = stands a
  lies (unit.Automatic o k) = false
  lies (unit.Static o) = false

  abbrev pub NoneStands : List Operand → Type 0
  NoneStands [] = Unit {0}
  NoneStands (a ∷ more) = (stands a ≡ false) × NoneStands more

  -- an operand that there may be stands in none of them
  abbrev pub SomeClear : Option Operand → Type 0
  SomeClear None = Unit {0}
  SomeClear (Some a) = stands a ≡ false

  -- an instruction reads none of them
  abbrev pub Clear : Instruction → Type 0
  Clear (Marker p) = Unit {0}
  Clear (Note y v) = Unit {0}
  Clear (unit.Move y a) = stands a ≡ false
  Clear (Operate y o a b) = (stands a ≡ false) × (stands b ≡ false)
  Clear (Truncate y t a) = stands a ≡ false
  Clear (Same y a b) = (stands a ≡ false) × (stands b ≡ false)
  Clear (Address y o) = Unit {0}
  Clear (unit.Load y e l) = lies l ≡ false
  Clear (Store e l a) = (lies l ≡ false) × (stands a ≡ false)
  Clear (Zero o k) = Unit {0}
  Clear (CopyWords o b k) = Unit {0}
  Clear (Call y f all) = NoneStands all

-- no name is asked about
abbrev pub no_name : ℕ → Bool
no_name z = false

-- A property of code in a place: of what follows where no scalar waits for its note (None), or where a name was just written (Some).
-- It holds before an instruction where it holds behind it, if nothing that is asked about is read. Behind a write of a name that is asked about, it need not be shown.
pub record IsNoting (scalars place top : ℕ) (own : ℕ → Bool) (may : ℕ → Type 0) (Has : Option ℕ → Made → Type 0) (Leads : (label : ℕ) → List Block → Type 0) (Stand : List Block → Type 0) : Type 0 where
  pub write : (i : Instruction) (z : ℕ) (m : Made) → is_computation i ≡ true → target_of i ≡ Some z → Clear own i → (own z ≡ false → Has (Some z) m) → Has None (instruction_before i m)
  pub fresh : (z : ℕ) (m : Made) → scalars ≤ z → Has None m → Has (Some z) m
  pub pass : (w : Option ℕ) (i : Instruction) (z : ℕ) (m : Made) → is_computation i ≡ true → target_of i ≡ Some z → scalars ≤ z → Clear own i → (own z ≡ false → Has w m) → Has w (instruction_before i m)
  pub store : (w : Option ℕ) (e : Element) (l : Location) (a : Operand) (m : Made) → Clear own (Store e l a) → Has w m → Has w (instruction_before (Store e l a) m)
  pub change : (w : Option ℕ) (i : Instruction) (y : ℕ) (m : Made) → is_computation i ≡ true → target_of i ≡ Some y → is_that y w ≡ false → may y → Clear own i → Has w m → Has w (instruction_before i (note y m))
  pub noted : (y : ℕ) (m : Made) → may y → Has None m → Has (Some y) (note y m)
  pub zero : (o k : ℕ) (m : Made) → Has None m → Has None (instruction_before (Zero o k) m)
  pub copy : (o b k : ℕ) (m : Made) → Has None m → Has None (instruction_before (CopyWords o b k) m)
  pub call : (z : ℕ) (f : Callee) (all : List Operand) (m : Made) → NoneStands own all → (own z ≡ false → Has (Some z) m) → Has None (instruction_before (Call (Some z) f all) m)
  pub call_none : (f : Callee) (all : List Operand) (m : Made) → NoneStands own all → Has None m → Has None (instruction_before (Call None f all) m)
  pub jump : (l : ℕ) (inner : List Block) → Leads l inner → Has None (ending (Jump l) inner)
  pub branch : (c : Comparison) (a b : Operand) (one other : ℕ) (inner : List Block) → stands own a ≡ false → stands own b ≡ false → Leads one inner → Leads other inner → Has None (ending (Branch c a b one other) inner)
  pub end : (a : Option Operand) (inner : List Block) → SomeClear own a → Stand inner → Has None (ending (Return a) inner)
  pub close : (m : Made) → Has None m → Leads (label_of top m) (with_inner_block place m)
  pub keep : (m : Made) (l : ℕ) (inner : List Block) → Grows inner m.inner → Has None m → Leads l inner → Leads l (with_inner_block place m)
  pub made : (m : Made) → Has None m → Stand m.inner
  pub shut : (m : Made) → Has None m → Stand (with_inner_block place m)

-- Such a property, of the code of a function's names in a place of its graph: so many names are scalars, and these alone does an lvalue name.
pub record Marking : Type 1 where
  pub names : Names
  pub scalars : ℕ
  pub place : ℕ
  pub top : ℕ
  pub own : ℕ → Bool
  pub may : ℕ → Type 0
  pub Has : Option ℕ → Made → Type 0
  pub Leads : (label : ℕ) → List Block → Type 0
  pub Stand : List Block → Type 0
  pub few : NamesFew names scalars
  pub apart : (y : ℕ) → y < scalars → own y ≡ false
  pub rules : IsNoting scalars place top own may Has Leads Stand
