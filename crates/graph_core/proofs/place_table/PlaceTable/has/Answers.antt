use Rattle.std.proofs.Common.{Bool, sym, subst}
use Rattle.std.specs.Prelude.{◌↔◌, IsTrue}
use Rattle.graph_core.specs.Paths.{Among}
use Rattle.graph_core.proofs.Once.{told_listed}
use Rattle.graph_core.proofs.place_table.PlaceTable.has.Goals as goal

pub returns : goal.returns
returns c = λ places is.
    subst (λ (b : Bool). IsTrue b ↔ Among c.args.place.0 places) (sym c.is_ok.ensures.value)
    (told_listed places c.args.self.now is c.args.place.0 c.binary_search.result c.binary_search.ensures.position)
