use Rattle.std.proofs.Common.{◌≡◌, ◌+◌, ◌++◌, List, [], ◌∷◌, Some, length, drop, map, refl, sym, ap, ◌∙◌, subst, arith}
use Rattle.std.specs.Prelude.{option_map, slice_get}
use Rattle.std.proofs.lemmas.List.{length-append, length-map, map-append}
use Rattle.std.proofs.lemmas.Option.{slice_get-map, slice_get_read}
use Rattle.graph_core.specs.declared.graph.Graph as declared-graph
use Rattle.graph_core.specs.Graphs.{Graph, graph_view}
use Rattle.pass_law.proofs.OfFunctions.{AreCasesBelow, cases_first, cases_last, cases_next, function_step}
use Rattle.motion_pass_points.proofs.Numbering.{snoc_new}
use Rattle.motion_pass_placement.specs.Moves.{IsMovedAssignment}
use Rattle.motion_pass.specs.Amounts.{IsAmount}
use Rattle.motion_pass.proofs.Functions.{IsAhead, ahead_none, ahead_one, ahead_all, amount_at, amount_behind, cases_longer}
use Rattle.motion_pass.proofs.pass.move_graphs.Goals as goal

pub loop-number-init : goal.loop-number-init
loop-number-init c =
    let gs = map graph_view c.args.graphs.now in
    let none : map graph_view c.new-moved.result.items ≡ [] = ap (λ (hs : List declared-graph.Graph). map graph_view hs) c.new-moved.ensures.items in
    let amount : IsAmount c.of-amount.result gs = record {
      instructions = (let few = c.requires.bounded.instructions in omega (arith, few, c.of-amount.ensures.instructions));
      blocks = (let few = c.requires.bounded.blocks in omega (arith, few, c.of-amount.ensures.blocks));
    } in
    record {
      count = ap length none;
      amount = subst (λ hs. IsAmount c.of-amount.result (hs ++ gs)) (sym none) amount;
      ahead = subst (λ hs. IsAhead c.args.room gs 0 hs) (sym none) (ahead_none c.args.room gs);
      cases = subst (λ hs. AreCasesBelow IsMovedAssignment gs hs 0 c.args.cases.now.items) (sym none) (subst (λ all. AreCasesBelow IsMovedAssignment gs [] 0 all) (sym c.requires.none) (cases_first IsMovedAssignment gs []));
    }

pub graph_after-requires-clause-bounded : goal.graph_after-requires-clause-bounded
graph_after-requires-clause-bounded c =
    let xs = c.args.graphs.now in
    let k = c.loop-number.number in
    let g = c.index-graphs-number.result in
    let there : slice_get (map graph_view xs) k ≡ Some (graph_view g) = slice_get-map graph_view xs k ∙ ap (option_map graph_view) (slice_get_read xs (length xs) k g refl c.loop-number-test.true c.index-graphs-number.is) in
    c.requires.bounded.each k (graph_view g) there

pub graph_after-requires-clause-inside : goal.graph_after-requires-clause-inside
graph_after-requires-clause-inside c =
    let xs = c.args.graphs.now in
    let k = c.loop-number.number in
    let g = c.index-graphs-number.result in
    let there : slice_get (map graph_view xs) k ≡ Some (graph_view g) = slice_get-map graph_view xs k ∙ ap (option_map graph_view) (slice_get_read xs (length xs) k g refl c.loop-number-test.true c.index-graphs-number.is) in
    c.requires.bounded.inside k (graph_view g) there

pub loop-number-preserved : goal.loop-number-preserved
loop-number-preserved c =
    let xs = c.args.graphs.now in
    let gs = map graph_view xs in
    let k = c.loop-number.number in
    let g = graph_view c.index-graphs-number.result in
    let h = graph_view c.in_ok-next.next in
    let hs = map graph_view c.loop-number.moved.items in
    let longer = map graph_view c.push.new.self.items in
    let inv = c.loop-number.invariant in
    let there : slice_get gs k ≡ Some g = slice_get-map graph_view xs k ∙ ap (option_map graph_view) (slice_get_read xs (length xs) k c.index-graphs-number.result refl c.loop-number-test.true c.index-graphs-number.is) in
    let grown : longer ≡ hs ++ h ∷ [] = ap (λ (ys : List declared-graph.Graph). map graph_view ys) c.in_ok-push.ensures.items ∙ map-append graph_view _ _ in
    let more = ap length grown ∙ length-append hs (h ∷ []) in
    let was = inv.count in
    let count : length longer ≡ k + 1 = omega (arith, more, was) in
    let before = amount_at gs k g there c.loop-number.amount hs inv.amount in
    let becomes = c.in_ok-next.ensures.becomes in
    let amount = c.in_ok-next.ensures.amount in
    let added = c.in_ok-next.ensures.cases in
    let stands : slice_get longer k ≡ Some h = ap (λ l. slice_get l k) grown ∙ ap (slice_get (hs ++ h ∷ [])) (sym inv.count) ∙ snoc_new hs h in
    record {
      count = count;
      amount = amount_behind gs k g there c.graph_after.new.amount h hs longer grown (amount hs (drop (k + 1) gs) before);
      ahead = ahead_one c.args.room gs k g h hs longer there (becomes hs (drop (k + 1) gs) before) grown inv.ahead;
      cases = cases_next IsMovedAssignment gs longer k _ _ (cases_longer IsMovedAssignment gs hs longer h k grown inv.count c.loop-number.cases.items inv.cases) (function_step IsMovedAssignment gs longer k g h _ _ there stands added);
    }

pub returns-clause-moved : goal.returns-clause-moved
returns-clause-moved c =
    let gs = map graph_view c.args.graphs.now in
    let long = length-map c.args.graphs.now graph_view in
    ahead_all c.args.room gs c.loop-number.number (map graph_view c.loop-number.moved.items) (omega (arith, long, c.loop-number-test.false)) c.loop-number.invariant.ahead

pub returns-clause-cases : goal.returns-clause-cases
returns-clause-cases c =
    let gs = map graph_view c.args.graphs.now in
    let long = length-map c.args.graphs.now graph_view in
    cases_last IsMovedAssignment gs (map graph_view c.loop-number.moved.items) c.loop-number.number _ (omega (arith, long, c.loop-number-test.false)) c.loop-number.invariant.cases
