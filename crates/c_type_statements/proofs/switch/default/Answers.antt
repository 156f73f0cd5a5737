use Rattle.std.proofs.Common.{[], ◌∷◌, true, sym}
use Rattle.std.specs.Prelude.{map, not}
use Rattle.std.proofs.lemmas.List.{map-append}
use Rattle.debug_records.specs.declared.code.TheConstants.Code.{REPEATED_LABEL}
use Rattle.c_type_declarations.proofs.Steps.{next_means}
use Rattle.c_type_declarations.specs.Progress.{progress_view}
use Rattle.c_type_statements.specs.Settings.{rule_unless}
use Rattle.c_type_statements.specs.Switches.{Default, part_view, behind}
use Rattle.c_type_statements.specs.declared.part.Part.TheVariants as part
use Rattle.c_type_statements.proofs.switch.default.Goals as goal

pub returns : goal.returns
returns c =
    rw (c.in_ok-push.ensures.items, map-append part_view c.args.parts.now.items (part.Default ∷ []), c.in_ok-unless.ensures)
    (sym (next_means (record { parts = Default ∷ []; labels = record { values = c.args.labels.now.values.items; has_default = true } }) (rule_unless (not c.args.labels.now.has_default) REPEATED_LABEL c.args.extent (progress_view c.args.progress.now)) (behind (map part_view c.args.parts.now.items))))
