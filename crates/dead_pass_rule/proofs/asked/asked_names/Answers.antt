use Rattle.std.proofs.Common.{◌≡◌, length, map, arith}
use Rattle.std.proofs.lemmas.List.{length-map}
use Rattle.graph_core.specs.Graphs.{block_view}
use Rattle.graph_paths.specs.PathMarksTable.{bits_of}
use Rattle.dead_pass_rule.specs.Walks.{turn_of}
use Rattle.dead_pass_rule.proofs.AskedFlow.{block_of, flood_asked, flood_told}
use Rattle.dead_pass_rule.proofs.asked.asked_names.Goals as goal

pub returns-clause-asked : goal.returns-clause-asked
returns-clause-asked c =
    let bs = map block_view c.args.all.now in
    let count : length bs ≡ length c.args.all.now = length-map c.args.all.now block_view in
    λ n x lt named told. (let there = block_of bs n (omega (arith, lt, count)) in
    record { block = there.0; is = there.1; asked = flood_asked (turn_of c.args.turns.now) bs c.args.names (bits_of c.in_ok-ends.ends) (bits_of c.settle.new.comes) (bits_of c.settle.new.leaves) c.in_ok-ends.ensures.clear c.in_ok-settle.ensures.settled n x there.0 there.1 named told })

pub returns-clause-told : goal.returns-clause-told
returns-clause-told c = λ n x b at named.
    flood_told (turn_of c.args.turns.now) (map block_view c.args.all.now) c.args.names (bits_of c.in_ok-ends.ends) (bits_of c.settle.new.comes) (bits_of c.settle.new.leaves) c.in_ok-ends.ensures.clear c.in_ok-settle.ensures.settled n x b at named
