use Rattle.std.proofs.Common.{rules, ◌≡◌, length, arith, ◌∙◌}
use Rattle.std.specs.Prelude.{map}
use Rattle.std.proofs.lemmas.List.{length-map}
use Rattle.c_tree.specs.Programs.{automatic_view}
use Rattle.c_type_bounds.specs.Visible.{behind_one, names_view}
use Rattle.c_type_bounds.specs.Counts.{capped}
use Rattle.c_type_bounds.proofs.NamesBehind.{declared_more, declared_whole, names_more}
use Rattle.c_type_bounds.proofs.visible.at_declared.Goals as goal

pub loop-one-preserved : goal.loop-one-preserved
loop-one-preserved c =
    let fits : c.loop-one.total ≡ capped c.loop-one.total = omega (arith, c.loop-one.invariant.fits) in
    let count : length (names_view c.loop-one.names.items) ≡ length c.loop-one.names.items = length-map c.loop-one.names.items (λ n. n.now) in
    let same : c.len.result ≡ length c.loop-one.names.items = search rules in
    let shown : c.len.result ≡ capped (length (names_view c.loop-one.names.items)) = omega (arith, count, same, c.len.type_inv) in
    let more : names_view c.add_variable.new.names.items ≡ behind_one (map automatic_view c.args.automatics.now) c.one-item.result.variable (names_view c.loop-one.names.items) = search rules in
    record {
      fits = c.plus-total.type_inv;
      count = declared_more (map automatic_view c.args.automatics.now) c.args.all.now c.loop-one.one-index c.one-item.result (names_view c.loop-one.names.items) (names_view c.add_variable.new.names.items) c.loop-one.total c.plus-total.result c.one-item.is c.loop-one-test.true (c.plus-total.ensures.sum_of c.loop-one.total (length (names_view c.loop-one.names.items)) fits shown) more ∙ c.loop-one.invariant.count;
      names = names_more (map automatic_view c.args.automatics.now) c.args.all.now c.loop-one.one-index c.one-item.result (names_view c.loop-one.names.items) (names_view c.add_variable.new.names.items) c.one-item.is c.loop-one-test.true more ∙ c.loop-one.invariant.names;
    }

pub returns-clause-count : goal.returns-clause-count
returns-clause-count c = declared_whole (map automatic_view c.args.automatics.now) c.args.all.now c.loop-one.one-index (names_view c.loop-one.names.items) c.loop-one.total _ (omega arith) c.loop-one.invariant.fits c.loop-one.invariant.count
