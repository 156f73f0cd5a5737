use Rattle.std.proofs.Common.{map, refl, ap, ◌∙◌, length, subst, sym, List}
use Rattle.std.proofs.lemmas.Option.{slice_get_within}
use Rattle.graph_core.specs.declared.instruction.Instr.{Instr}
use Rattle.graph_core.specs.Graphs.{instruction_view}
use Rattle.dead_pass_rule.specs.Asking.{is_going}
use Rattle.dead_pass_rule.specs.Walks.{turn_of}
use Rattle.dead_pass_notes.specs.Idle.{graph_of}
use Rattle.dead_pass_notes.specs.Points.{placed}
use Rattle.dead_pass.proofs.Leaving.{IsAhead, ahead_done, ahead_first, ahead_step}
use Rattle.dead_pass.proofs.Noting.{IsUnderWay, come_ways, ready_step, ready_ways, walk_done, walk_first, walk_on}
use Rattle.dead_pass.proofs.Placed.{place_on}
use Rattle.dead_pass.proofs.notes.left_of.Goals as goal

pub loop-ahead-init : goal.loop-ahead-init
loop-ahead-init c =
    let idle = c.args.idle.now in
    let n = c.args.number in
    let goes = is_going (turn_of idle.turns.items) n in
    let all = map instruction_view c.args.instructions.now in
    record {
      left = subst (λ xs. IsAhead goes all all (map instruction_view xs)) (sym c.new-left.ensures.items) (ahead_first goes all);
      ready = λ log ready. ready_step log idle c.args.notes.now c.begin.new.self c.begin.ensures.ways (c.begin.ensures.known idle) ready;
      said = λ log b ready visited kept parts. subst (λ (xs : List Instr). IsUnderWay log idle n b c.begin.new.self (placed c.args.kept_place) all (map instruction_view xs)) (sym c.new-left.ensures.items)
          (walk_first log idle n b c.begin.new.self (placed c.args.kept_place) all (ready_step log idle c.args.notes.now c.begin.new.self c.begin.ensures.ways (c.begin.ensures.known idle) ready)
          (c.begin.ensures.come idle ready.known (slice_get_within (graph_of idle).blocks n b visited.is) (length all)) kept parts);
    }

pub loop-ahead-preserved : goal.loop-ahead-preserved
loop-ahead-preserved c =
    let idle = c.args.idle.now in
    let n = c.args.number in
    let goes = is_going (turn_of idle.turns.items) n in
    let i = instruction_view c.instruction-item.result in
    let same = c.in_ok-push_left.ensures.same in
    let room = c.in_ok-push_left.ensures.room in
    record {
      left = ahead_step goes instruction_view (map instruction_view c.args.instructions.now) _ _ _ c.instruction-item.result _ c.goes_at-goes.result c.in-len1-up.len_at_least c.instruction-item.is refl c.goes_at-goes.ensures c.in_ok-push_left.ensures.left c.loop-ahead.invariant.left;
      ready = λ log ready. ready_step log idle _ _ c.step.ensures.ways (c.step.ensures.known idle) (ready_ways log idle _ _ same room (c.loop-ahead.invariant.ready log ready));
      said = λ log b ready visited kept parts. walk_on log idle n b visited instruction_view _ c.instruction-item.result c.goes_at-goes.result c.note_point-at.result _ (placed c.loop-ahead.place) _ _ _ _ _ c.in-len1-up.len_at_least c.instruction-item.is
          c.note_point-at.ensures.spot c.note_point-at.ensures.place refl c.goes_at-goes.ensures c.in_ok-push_left.ensures.left (λ before rest staying now here. c.in_ok-push_left.ensures.said log b before rest staying now here)
          (λ now. ready_step log idle _ _ c.step.ensures.ways (c.step.ensures.known idle) (ready_ways log idle _ _ same room now))
          (λ before now come. c.step.ensures.come idle n before i _ (ready_ways log idle _ _ same room now).known (slice_get_within (graph_of idle).blocks n b visited.is) c.target.ensures c.goes_at-goes.ensures (come_ways idle _ _ same n before _ come))
          (λ before is. ap placed c.or-place.ensures ∙ place_on before i b.place c.marker.result c.loop-ahead.place c.marker.ensures is)
          (c.loop-ahead.invariant.said log b ready visited kept parts);
    }

pub returns-clause-left : goal.returns-clause-left
returns-clause-left c = ahead_done (is_going (turn_of c.args.idle.now.turns.items) c.args.number) instruction_view (map instruction_view c.args.instructions.now) _ _ c.in_default.len_below c.loop-ahead.invariant.left

pub returns-clause-said : goal.returns-clause-said
returns-clause-said c = λ log b ready visited kept parts. walk_done log c.args.idle.now c.args.number b instruction_view _ _ _ _ c.in_default.len_below (c.loop-ahead.invariant.said log b ready visited kept parts)
