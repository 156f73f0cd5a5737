use Rattle.std.proofs.Common.{◌∙◌, length, ap}
use Rattle.rv_emit_tables.specs.Emitted.{emitted_view}
use Rattle.graph_homes.specs.Homed.{homed_view}
use Rattle.image_build_tables.proofs.Kept.{storages_length}
use Rattle.image_build_tables.proofs.assembly.image_of.Goals as goal

pub variables_of-requires-clause-kept : goal.variables_of-requires-clause-kept
variables_of-requires-clause-kept c =
    ap length c.deref-12.ensures.value ∙ ap length c.in_ok-storages.ensures ∙ storages_length (homed_view c.args.parts.now.homed.now) (emitted_view c.args.emitted) c.variable_count.result ∙ c.variable_count.ensures
