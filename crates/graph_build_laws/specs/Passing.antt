-- Properties of code that is made from its end, that pass what is no marker and the ends of blocks.
use Rattle.std.specs.Prelude.{◌≡◌, ℕ, false, Option, List, ◌++◌}
use Rattle.graph_core.specs.declared.block.Comparison.{Comparison}
use Rattle.graph_core.specs.Graphs.{Operand, Instruction, Return, Jump, Branch, Block}
use Rattle.graph_core.specs.Paths.{is_marker}
use Rattle.graph_build_steps.specs.Drafts.{Made, instruction_before as before, ending, with_inner_block, label_of}

-- The inner blocks that stood stand first among those that stand now.
abbrev pub Grows : (before now : List Block) → Type 0
Grows xs ys = (more : List Block) × (ys ≡ xs ++ more)

-- A property of code that is made in a place, of labels and of inner blocks. It holds in front of an instruction that
-- is no marker where it holds behind it, and at the end of a block where it holds of the labels to which that leads; a
-- block that has it can be closed, and then its label has it, as others still do.
pub record IsPassing (place top : ℕ) (Has : Made → Type 0) (Leads : (label : ℕ) → List Block → Type 0)
    (Stand : List Block → Type 0) : Type 0 where
  pub step : (i : Instruction) (m : Made) → is_marker i ≡ false → Has m → Has (before i m)
  pub jump : (l : ℕ) (inner : List Block) → Leads l inner → Has (ending (Jump l) inner)
  pub branch : (o : Comparison) (a b : Operand) (one other : ℕ) (inner : List Block) → Leads one inner
      → Leads other inner → Has (ending (Branch o a b one other) inner)
  pub end : (a : Option Operand) (inner : List Block) → Stand inner → Has (ending (Return a) inner)
  pub close : (m : Made) → Has m → Leads (label_of top m) (with_inner_block place m)
  pub keep : (m : Made) (l : ℕ) (inner : List Block) → Grows inner m.inner → Has m → Leads l inner
      → Leads l (with_inner_block place m)
  pub stands : (m : Made) → Has m → Stand m.inner
  pub shut : (m : Made) → Has m → Stand (with_inner_block place m)
