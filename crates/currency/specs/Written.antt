-- What verdicts say to write the homes of variables.
use Rattle.std.specs.Prelude.{◌≡◌, ◌≢◌, ℕ, true, Some, None, List, slice_get}
use Rattle.graph_homes.specs.Homes.{is_same_home}
use Rattle.graph_core.specs.Graphs.{Instruction, Block, Graph, ToScalar}
use Rattle.graph_core.specs.Uses.{target_of}
use Rattle.graph_core.specs.Paths.{Among}
use Rattle.graph_core.specs.WellMarked.{IsVariable}
use Rattle.graph_homes.specs.Homed.{HomedForm, home_of}
use Rattle.currency_writers.specs.declared.writers.Writer as declared-writer
use Rattle.currency_writers.specs.declared.writers.Writer.TheVariants as writer
use Rattle.currency.specs.declared.verdict.Verdict as declared-verdict
use Rattle.currency.specs.declared.verdict.Verdict.TheVariants as verdict
use Rattle.currency.specs.declared.verdict.PlaceVerdict as declared-row

-- What is told to write a name of a function: an instruction that stands in one of its blocks, behind so many others,
-- or the binding of one of its parameters.
pub data Writes (g : Graph) (f y : ℕ) : declared-writer.Writer → Type 0 where
  instruction : {n k : ℕ} (b : Block) (i : Instruction) → slice_get g.blocks n ≡ Some b
      → slice_get b.instructions k ≡ Some i → target_of i ≡ Some y → Writes g f y (writer.Instruction f n k)
  binding : {k : ℕ} → slice_get g.parameters k ≡ Some (ToScalar y) → Writes g f y (writer.Binding f k)

-- the function in which it stands
abbrev pub writer_function : declared-writer.Writer → ℕ
writer_function (writer.Instruction f n k) = f
writer_function (writer.Binding f k) = f

-- It writes the home of a variable for another name: the variable is a scalar of its function, and the home of the name
-- that it writes is the home of this scalar.
pub record WritesHome (u : HomedForm) (variable : ℕ) (w : declared-writer.Writer) : Type 0 where
  pub graph : Graph
  pub x : ℕ
  pub y : ℕ
  pub is : slice_get u.unit.graphs (writer_function w) ≡ Some graph
  pub scalar : IsVariable graph x variable
  pub writes : Writes graph (writer_function w) y w
  pub other : y ≢ x
  pub shared : is_same_home (home_of u (writer_function w) y) (home_of u (writer_function w) x) ≡ true

-- What a verdict says to write the home of a variable does.
abbrev pub IsWritten : HomedForm → (variable : ℕ) → declared-verdict.Verdict → Type 0
IsWritten u v verdict.Home = Unit {0}
IsWritten u v (verdict.Recovered r c) = Unit {0}
IsWritten u v (verdict.Noncurrent c start None q) = Unit {0}
IsWritten u v (verdict.Noncurrent c start (Some w) q) = WritesHome u v w
IsWritten u v (verdict.Nonresident c start w q) = WritesHome u v w

-- What each verdict says to write a home does.
abbrev pub AreWritten : HomedForm → List declared-row.PlaceVerdict → Type 0
AreWritten u rows = (w : declared-row.PlaceVerdict) → Among w rows → IsWritten u w.var.0 w.verdict
