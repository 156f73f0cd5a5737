use Rattle.std.proofs.Common.{refl}
use Rattle.std.proofs.lemmas.List.{take-map}
use Rattle.c_tree.specs.Programs.{literal_view}
use Rattle.c_type_expressions.proofs.findings.Findings.forget.Goals as goal

pub returns : goal.returns
returns c = rw (c.truncate.ensures.items, c.truncate-2.ensures.items, take-map literal_view c.args.literals c.args.self.now.literals.items) refl
