use Rattle.std.proofs.Common.{◌≡◌, ◌<◌, List, length, map, drop, take, ◌-◌, refl, sym, ap, subst, arith}
use Rattle.std.specs.Prelude.{MatchOption}
use Rattle.std.proofs.lemmas.List.{length-map}
use Rattle.std.proofs.lemmas.Option.{MatchOption-at_none, MatchOption-at_some}
use Rattle.graph_core.specs.declared.instruction.Instr.{Instr}
use Rattle.graph_core.specs.Graphs.{block_view, graph_view, instruction_view}
use Rattle.graph_paths.proofs.Leading.{block_there}
use Rattle.copy_pass_rule.specs.declared.copies.CopyAt.{CopyAt}
use Rattle.copy_pass_rule.specs.Along.{Makes, MakesNone}
use Rattle.copy_pass_rule.specs.Found.{AreNumerable}
use Rattle.copy_pass_rule.proofs.AlongBlocks.{AreFoundSoFar, all_so_far, count_so_far, none_so_far, so_far_all, so_far_item, so_far_none, so_far_one}
use Rattle.copy_pass_rule.proofs.finding.find_in.Goals as goal

pub loop-ahead-init : goal.loop-ahead-init
loop-ahead-init c =
    let g = graph_view c.args.graph.now in
    let all = c.args.graph.now.blocks.items in
    let many : length (map block_view all) ≡ length all = length-map all block_view in
    let inside : c.args.number < length (map block_view all) = c.requires.block in
    let lt : c.args.number < length all = omega (arith, inside, many) in
    subst (λ (xs : List Instr). AreFoundSoFar g c.args.number (map instruction_view xs) c.args.found.now.items c.args.found.now.items) (sym c.deref-ahead.ensures.value)
    (none_so_far g c.args.number (block_view c.index-block.result.now) c.args.found.now.items (block_there block_view all c.args.number c.index-block.result.now lt c.index-block.ensures) c.requires.numerable c.requires.new_block)

pub copy_at-requires : goal.copy_at-requires
copy_at-requires c =
    let g = graph_view c.args.graph.now in
    let now = c.loop-ahead.found.items in
    let ahead = c.loop-ahead.ahead.now in
    let count = count_so_far g c.args.number (map instruction_view ahead) c.args.found.now.items now c.loop-ahead.invariant in
    let long = ap length c.deref.ensures.value in
    let room = c.requires.few in
    record {
      countable = c.requires.countable;
      numerable = subst (λ (xs : List CopyAt). AreNumerable xs (length g.blocks) (length g.scalars)) (sym c.deref.ensures.value) c.loop-ahead.invariant.numerable;
      few = omega (arith, count, long, room);
      stands = so_far_item instruction_view g c.args.number c.args.found.now.items now ahead c.instruction-item.result _ (length (take (length ahead - 1) (drop 1 ahead))) c.in-len1-up.len_at_least c.instruction-item.is refl c.loop-ahead.invariant;
    }

pub loop-ahead-preserved : goal.loop-ahead-preserved
loop-ahead-preserved c =
    let g = graph_view c.args.graph.now in
    let now = c.loop-ahead.found.items in
    let ahead = c.loop-ahead.ahead.now in
    let l = length (take (length ahead - 1) (drop 1 ahead)) in
    let i = instruction_view c.instruction-item.result in
    let said = subst (λ (xs : List CopyAt). MatchOption c.in_ok-copy.field-0 (MakesNone g c.args.number l i xs) (λ d. Makes g c.args.number l i xs d)) c.deref.ensures.value c.in_ok-copy.ensures in
    so_far_none instruction_view g c.args.number c.args.found.now.items now ahead c.instruction-item.result _ l c.in-len1-up.len_at_least c.instruction-item.is refl
    (MatchOption-at_none (MakesNone g c.args.number l i now) (λ d. Makes g c.args.number l i now d) c.in_default-2.is said) c.loop-ahead.invariant

pub loop-ahead-preserved-in_ok-push : goal.loop-ahead-preserved-in_ok-push
loop-ahead-preserved-in_ok-push c =
    let g = graph_view c.args.graph.now in
    let now = c.loop-ahead.found.items in
    let ahead = c.loop-ahead.ahead.now in
    let l = length (take (length ahead - 1) (drop 1 ahead)) in
    let i = instruction_view c.instruction-item.result in
    let said = subst (λ (xs : List CopyAt). MatchOption c.in_ok-copy.field-0 (MakesNone g c.args.number l i xs) (λ d. Makes g c.args.number l i xs d)) c.deref.ensures.value c.in_ok-copy.ensures in
    so_far_one instruction_view g c.args.number c.args.found.now.items now ahead c.instruction-item.result _ l c.in-Some.copy _ c.in-len1-up.len_at_least c.instruction-item.is refl
    (MatchOption-at_some (MakesNone g c.args.number l i now) (λ d. Makes g c.args.number l i now d) c.in-Some.copy c.in-Some.is said) c.in_ok-push.ensures.items c.loop-ahead.invariant

pub returns : goal.returns
returns c =
    let g = graph_view c.args.graph.now in
    let now = c.loop-ahead.found.items in
    let ahead = c.loop-ahead.ahead.now in
    let done = so_far_all instruction_view g c.args.number c.args.found.now.items now ahead c.in_default.len_below c.loop-ahead.invariant in
    let count = count_so_far g c.args.number (map instruction_view ahead) c.args.found.now.items now c.loop-ahead.invariant in
    record { found = all_so_far g c.args.number c.args.found.now.items now done; count = omega (arith, count) }
