use Rattle.cdbg_passes.proofs.CountedPaths.{counted_times, path_named, path_of_blocks}
use Rattle.cdbg_passes.proofs.laws.counts_tell_times.Goals as goal

pub returns : goal.returns
returns c = record { path = path_of_blocks; named = path_named; times = counted_times }
