use Rattle.std.proofs.Common.{[], ◌∷◌, ◌++◌, ◌≡◌, ◌∙◌, ◌<◌, ◌^◌, length, subst, arith}
use Rattle.graph_core.specs.Paths.{Among, front}
use Rattle.image_build_tables.proofs.Ahead.{whole}
use Rattle.image_build_tables.specs.Rows.{telling_view}
use Rattle.image_build_tables.proofs.Growing.{begin_fewer}
use Rattle.image_build_tables.proofs.Needed.{among_behind, few_step, nodes_step}
use Rattle.image_build_tables.proofs.Lining.{row_of, row_put, rows_end, rows_step, sights_step}
use Rattle.image_build_tables.proofs.rows.rows_of.Goals as goal

pub loop-left-preserved : goal.loop-left-preserved
loop-left-preserved c =
    let l = c.loop-left in
    let w = c.told-item.result in
    let v = c.in_ok-verdict.verdict in
    let whole_left = whole l.left.now w c.in-len1-up.len_at_least c.told-item.is in
    let pushed = c.push.new.self.items in
    let put : pushed ≡ l.rows.items ++ (row_of w v ∷ []) = row_put w v c.quiet_of.result l.rows.items pushed c.quiet_of.ensures c.in_ok-push.ensures.items in
    let fewer : length c.verdict_of.new.nodes.nodes.items < 2 ^ 32 → length l.nodes.nodes.items < 2 ^ 32 =
    λ few. (let grown = begin_fewer l.nodes.nodes.items c.verdict_of.new.nodes.nodes.items c.in_ok-verdict.ensures.grown in omega (arith, few, grown)) in
    record {
      ahead = among_behind l.left.now w c.args.verdicts.now whole_left l.invariant.ahead;
      nodes = nodes_step (telling_view c.args.telling) l.nodes.nodes.items c.verdict_of.new.nodes.nodes.items l.left.now w c.args.verdicts.now whole_left c.in_ok-verdict.ensures.grown l.invariant.ahead
          c.in_ok-verdict.ensures.fresh l.invariant.nodes;
      once = λ few. c.in_ok-verdict.ensures.once few (l.invariant.once (fewer few));
      earlier = λ few. c.in_ok-verdict.ensures.earlier few (l.invariant.earlier (fewer few));
      few = few_step l.nodes.nodes.items c.verdict_of.new.nodes.nodes.items l.left.now w c.args.verdicts.now whole_left c.in_ok-verdict.ensures.few l.invariant.few;
      bare = λ shown. c.in_ok-verdict.ensures.home (shown w (l.invariant.ahead w (subst (Among w) whole_left front))) ∙ l.invariant.bare shown;
      sights = sights_step l.left.now w v l.rows.items pushed c.args.verdicts.now whole_left put l.invariant.sights;
      rows = rows_step (telling_view c.args.telling) l.nodes.nodes.items c.verdict_of.new.nodes.nodes.items l.left.now w v l.rows.items pushed c.args.verdicts.now whole_left put
          c.in_ok-verdict.ensures.grown c.in_ok-verdict.ensures.verdict l.invariant.rows;
    }

pub returns-clause-rows : goal.returns-clause-rows
returns-clause-rows c = rows_end (telling_view c.args.telling) c.loop-left.nodes.nodes.items c.loop-left.rows.items c.loop-left.left.now c.args.verdicts.now c.in_default.len_below c.loop-left.invariant.rows
