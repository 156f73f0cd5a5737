-- The names that an instruction reads, as a test and as a list.
use Rattle.std.proofs.Common.{◌≡◌, ℕ, true}
use Rattle.graph_core.specs.Graphs.{Instruction}
use Rattle.graph_core.specs.Uses.{reads_of}
use Rattle.graph_core.specs.Paths.{Among, reads}
pub use Rattle.graph_core.proofs.Among.{among_any, any_among}

pub among_reads : (x : ℕ) (i : Instruction) → Among x (reads_of i) → reads x i ≡ true
among_reads x i a = among_any x (reads_of i) a

pub reads_among : (x : ℕ) (i : Instruction) → reads x i ≡ true → Among x (reads_of i)
reads_among x i e = any_among x (reads_of i) e
