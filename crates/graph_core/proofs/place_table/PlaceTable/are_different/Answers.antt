use Rattle.std.proofs.Common.{rules}
use Rattle.std.specs.Prelude.{nat_lt}
use Rattle.std.proofs.lemmas.List.Sorted.{answers_always}
use Rattle.graph_core.proofs.Once.{told_different}
use Rattle.graph_core.proofs.place_table.PlaceTable.are_different.Goals as goal

pub returns : goal.returns
returns c = λ places is. told_different places c.args.self.now is c.is_sorted_by.result (c.is_sorted_by.ensures.cases nat_lt (answers_always _ _ _ (λ f a r q k. search rules)))
