use Rattle.std.proofs.Common.{rules}
use Rattle.image_form.specs.Views.{viewed}
use Rattle.stop_engine_tables.proofs.NameBounds.{variables_fit}
use Rattle.stop_engine_tables.proofs.VariableListLaws.{owners-there}
use Rattle.stop_engine_tables.proofs.variable_lists.variable_lists.Goals as goal

pub link-requires-clause-few : goal.link-requires-clause-few
link-requires-clause-few c = variables_fit (viewed c.args.image.now) c.requires

pub link-requires-clause-functions : goal.link-requires-clause-functions
link-requires-clause-functions c = owners-there (viewed c.args.image.now) _ c.requires (search rules)
