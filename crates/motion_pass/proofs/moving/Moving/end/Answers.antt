use Rattle.std.proofs.Common.{[], ◌++◌, length, map, sym, ap, ◌∙◌, append_assoc}
use Rattle.std.proofs.lemmas.List.{append-nil, map-append}
use Rattle.graph_core.specs.Graphs.{block_view, end_view, instruction_view}
use Rattle.motion_pass_points.specs.Ways.{along}
use Rattle.motion_pass_placement.specs.Moving.{AreDone}
use Rattle.motion_pass.specs.Placing.{blocks_of, first_of, graph_of, placed, treated_in}
use Rattle.motion_pass.proofs.Acting.{edge_done}
use Rattle.motion_pass.proofs.Leading.{else_among, end_branches, end_jumps, end_returns, jump_among, then_among}
use Rattle.motion_pass.proofs.moving.Moving.end.Goals as goal

pub returns-in-Return : goal.returns-in-Return
returns-in-Return c =
    let m = c.args.self.now in
    record {
      done = [];
      own = [];
      is = end_returns (blocks_of m) (first_of m) (treated_in m) c.args.from (placed c.args.place) _ (end_view c.args.end) _ (ap end_view c.in-Return.is);
      behind = sym (append-nil _);
      grown = sym (append-nil _);
    }

pub returns-in_ok-append-in-Jump : goal.returns-in_ok-append-in-Jump
returns-in_ok-append-in-Jump c =
    let m = c.args.self.now in
    let g = graph_of m in
    let p = m.placement.now in
    let at = c.requires.at in
    let among = jump_among at.block.end c.in-Jump.to.0 (at.ends ∙ ap end_view c.in-Jump.is) in
    let there = c.requires.moving.inside c.args.from at.block at.is c.in-Jump.to.0 among in
    let made = map instruction_view c.in_ok-done-in-Jump.done.items in
    let done : AreDone (blocks_of m) (first_of m) (treated_in m) (along c.args.from c.in-Jump.to.0) made =
    edge_done g p c.requires.moving.are c.args.from at.block at.is c.in-Jump.to.0 among made (c.in_ok-done-in-Jump.ensures.by_rule g c.requires.moving.are there.0 there.1)
    (λ never. ap (λ xs. map instruction_view xs) (c.in_ok-done-in-Jump.ensures.nowhere g c.requires.moving.are at.block at.is never)) in
    record {
      done = made;
      own = [];
      is = end_jumps (blocks_of m) (first_of m) (treated_in m) c.args.from (placed c.args.place) _ (end_view c.args.end) c.in-Jump.to.0 made (ap end_view c.in-Jump.is) done;
      behind = ap (λ xs. map instruction_view xs) c.in_ok-append-in-Jump.ensures.items ∙ map-append instruction_view _ _;
      grown = sym (append-nil _);
    }

pub led-requires-clause-edge : goal.led-requires-clause-edge
led-requires-clause-edge c =
    let at = c.requires.at in
    record { block = at.block; is = at.is; leads = then_among at.block.end _ _ _ c.in-Branch.then.0 c.in-Branch.otherwise.0 (at.ends ∙ ap end_view c.in-Branch.is) }

pub led-requires-in-Branch-clause-edge : goal.led-requires-in-Branch-clause-edge
led-requires-in-Branch-clause-edge c =
    let at = c.requires.at in
    record { block = at.block; is = at.is; leads = else_among at.block.end _ _ _ c.in-Branch.then.0 c.in-Branch.otherwise.0 (at.ends ∙ ap end_view c.in-Branch.is) }

pub returns-in_ok-otherwise-in-Branch : goal.returns-in_ok-otherwise-in-Branch
returns-in_ok-otherwise-in-Branch c =
    let m = c.args.self.now in
    let one = c.in_ok-then-in-Branch.ensures in
    let two = c.in_ok-otherwise-in-Branch.ensures in
    record {
      done = [];
      own = one.own ++ two.own;
      is = end_branches (blocks_of m) (first_of m) (treated_in m) c.args.from (placed c.args.place) (length (blocks_of m)) (map block_view c.args.added.now.items) _ (end_view c.args.end) _ _ _ c.in-Branch.then.0 c.in-Branch.otherwise.0 c.in_ok-then-in-Branch.then.0 c.in_ok-otherwise-in-Branch.otherwise.0 one.own two.own (ap end_view c.in-Branch.is) one.led one.grown two.led;
      behind = sym (append-nil _);
      grown = two.grown ∙ ap (λ l. l ++ two.own) one.grown ∙ append_assoc (map block_view c.args.added.now.items) one.own two.own;
    }
