use Rattle.std.proofs.Common.{[], ◌∷◌, ◌++◌, map, ap, ◌∙◌, append_assoc}
use Rattle.std.proofs.lemmas.List.{map-append}
use Rattle.std.proofs.lemmas.Option.{slice_get_within}
use Rattle.graph_core.specs.Graphs.{Move, Name, instruction_view}
use Rattle.motion_pass_points.specs.MotionPointsComputing.{computation_view, doing}
use Rattle.motion_pass.specs.Placing.{graph_of}
use Rattle.motion_pass.proofs.Acting.{keep_becomes, keep_done, read_becomes, read_done, read_target, compute_becomes, compute_done, compute_target}
use Rattle.motion_pass.proofs.moving.Moving.push_instruction.Goals as goal

pub returns-in_ok-push-in-Keep : goal.returns-in_ok-push-in-Keep
returns-in_ok-push-in-Keep c = λ b at here.
    (let m = c.args.self.now in
    let g = graph_of m in
    let p = m.placement.now in
    let i = instruction_view c.args.instruction.now in
    let inside = slice_get_within b.instructions c.args.index i here in
    let by_rule = c.action.ensures.by_rule g c.requires.are b at inside in
    let nowhere = c.action.ensures.nowhere g c.requires.are b at in
    record {
      done = [];
      j = i;
      are = keep_done g p c.requires.are c.args.number b at c.args.index i here c.action.result by_rule nowhere c.in-Keep.is;
      becomes = keep_becomes g p c.requires.are c.args.number b at c.args.index i here c.action.result by_rule nowhere c.in-Keep.is;
      behind = ap (λ xs. map instruction_view xs) c.in_ok-push-in-Keep.ensures.items ∙ map-append instruction_view _ _ ∙ ap (λ y. map instruction_view c.args.out.now.items ++ y ∷ []) c.in_ok-same-in-Keep.ensures;
    })

pub returns-in_ok-push_read-in-Read : goal.returns-in_ok-push_read-in-Read
returns-in_ok-push_read-in-Read c = λ b at here.
    (let m = c.args.self.now in
    let g = graph_of m in
    let p = m.placement.now in
    let i = instruction_view c.args.instruction.now in
    let t = c.in-Read.temporary in
    let inside = slice_get_within b.instructions c.args.index i here in
    let by_rule = c.action.ensures.by_rule g c.requires.are b at inside in
    let nowhere = c.action.ensures.nowhere g c.requires.are b at in
    let target = read_target g p c.requires.are c.args.number b at c.args.index i here c.action.result by_rule nowhere t c.in-Read.is in
    record {
      done = [];
      j = Move target.0 (Name t.0);
      are = read_done g p c.requires.are c.args.number b at c.args.index i here c.action.result by_rule nowhere t c.in-Read.is;
      becomes = read_becomes g p c.requires.are c.args.number b at c.args.index i here c.action.result by_rule nowhere t c.in-Read.is target.0 target.1;
      behind = c.in_ok-push_read-in-Read.ensures target.0 target.1;
    })

pub returns-in_ok-push_read-in-Compute : goal.returns-in_ok-push_read-in-Compute
returns-in_ok-push_read-in-Compute c = λ b at here.
    (let m = c.args.self.now in
    let g = graph_of m in
    let p = m.placement.now in
    let i = instruction_view c.args.instruction.now in
    let d = c.in-Compute.computation in
    let t = c.in-Compute.temporary in
    let inside = slice_get_within b.instructions c.args.index i here in
    let by_rule = c.action.ensures.by_rule g c.requires.are b at inside in
    let nowhere = c.action.ensures.nowhere g c.requires.are b at in
    let target = compute_target g p c.requires.are c.args.number b at c.args.index i here c.action.result by_rule nowhere d t c.in-Compute.is in
    let old = map instruction_view c.args.out.now.items in
    record {
      done = doing t.0 (computation_view d) ∷ [];
      j = Move target.0 (Name t.0);
      are = compute_done g p c.requires.are c.args.number b at c.args.index i here c.action.result by_rule nowhere d t c.in-Compute.is;
      becomes = compute_becomes g p c.requires.are c.args.number b at c.args.index i here c.action.result by_rule nowhere d t c.in-Compute.is target.0 target.1;
      behind = c.in_ok-push_read-in-Compute.ensures target.0 target.1
          ∙ ap (λ l. l ++ Move target.0 (Name t.0) ∷ []) (ap (λ xs. map instruction_view xs) c.in_ok-push-in-Compute.ensures.items ∙ map-append instruction_view _ _ ∙ ap (λ y. old ++ y ∷ []) c.into_name-done.ensures)
          ∙ append_assoc old (doing t.0 (computation_view d) ∷ []) (Move target.0 (Name t.0) ∷ []);
    })
