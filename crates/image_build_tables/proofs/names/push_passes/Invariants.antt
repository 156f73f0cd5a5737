use Rattle.std.proofs.Common.{◌≡◌, ◌++◌, take}
use Rattle.std.specs.List.{flat_map}
use Rattle.debug_records.specs.Change.{letters}
use Rattle.image_build_tables.proofs.names.push_passes.Given as goal

abbrev pub invariant-loop-change : goal.invariant-loop-change
invariant-loop-change l = l.names.items ≡ l.initial.names.items ++ flat_map (λ change. letters change.pass) (take l.change-index l.log)
