use Rattle.std.proofs.Common.{◌≡◌, ◌+◌, ◌<◌, ◌≤◌, List, [], ◌∷◌, Option, ℕ, arith, ap, drop, get_or, length, map, option_map, refl, sym, subst, ◌∙◌}
use Rattle.debug_records.specs.declared.change.Place as declared-place
use Rattle.graph_core.specs.declared.instruction.Instr as declared-instr
use Rattle.graph_core.specs.Graphs.{Instruction, block_view, graph_view, instruction_view}
use Rattle.graph_core.specs.Validity.{place_behind}
use Rattle.currency_notes.specs.Full.{IsFullAt}
use Rattle.currency_notes.specs.Sources.{IsAttained, IsToldBy}
use Rattle.currency_notes.proofs.Filling.{full_step, kept_sized}
use Rattle.currency_notes.proofs.Lists.{drop_end, drop_more}
use Rattle.currency_notes.proofs.Sourcing.{attained_step, place_behind_first, place_next, place_there}
use Rattle.currency_notes.proofs.state.State.walk.Goals as goal

pub loop-instruction-preserved : goal.loop-instruction-preserved
loop-instruction-preserved c =
    let f = c.args.function.now in
    let i = c.loop-instruction.instruction-index in
    let res = c.deref-instruction-items.result.now in
    let items = c.args.block.now.instructions.items in
    let same = c.deref-instruction-items.ensures.value in
    let s = c.loop-instruction.self in
    let item = c.instruction-item.result in
    let begun : Option ℕ = option_map (λ (p : declared-place.Place). p.0) c.args.block.now.place in
    let lt : i < length items = subst (λ (is : List declared-instr.Instr). i < length is) same c.loop-instruction-test.true in
    let le : i + 1 ≤ length items = omega (arith, lt) in
    let this : item ≡ get_or items i item = subst (λ (is : List declared-instr.Instr). item ≡ get_or is i item) same c.instruction-item.is in
    let place : option_map (λ (p : declared-place.Place). p.0) c.place_behind-place.result ≡ place_behind_first instruction_view items begun (i + 1) =
    c.place_behind-place.ensures ∙ ap (λ o. place_behind (instruction_view item ∷ []) o) c.loop-instruction.invariant.place ∙ ap (λ a. place_behind (instruction_view a ∷ []) (place_behind_first instruction_view items begun i)) this ∙ sym (place_next instruction_view items begun i item lt) in
    record {
      sized = λ sized. kept_sized f (instruction_view item) s c.step.new.self c.step.ensures.kept (c.loop-instruction.invariant.sized sized);
      full = λ n e exact full.
          (let before = subst (λ (is : List declared-instr.Instr). IsFullAt f s n (map instruction_view (drop i is)) e) (sym same) (c.loop-instruction.invariant.full n e exact full) in
          let here = subst (λ (is : List Instruction). IsFullAt f s n is e) (ap (λ is. map instruction_view is) (drop_more res i item c.loop-instruction-test.true c.instruction-item.is)) before in
          subst (λ (is : List declared-instr.Instr). IsFullAt f c.step.new.self n (map instruction_view (drop (i + 1) is)) e) same
          (full_step f.homes (graph_view f.graph.now) exact.told exact.numbered n (instruction_view item) (map instruction_view (drop (i + 1) res)) e s c.step.new.self c.step.ensures.kept here));
      place = place;
      attained = λ log n e told is all.
          (let g = graph_view f.graph.now in
          let rest = map instruction_view (drop (i + 1) items) in
          let there = place_there instruction_view items begun g n (i + 1) (block_view c.args.block.now) is refl refl le in
          let here = subst (λ (l : List Instruction). IsAttained log g s n l e) (ap (λ l. map instruction_view l) (drop_more items i item lt this)) (c.loop-instruction.invariant.attained log n e told is all) in
          attained_step log g s c.step.new.self n (instruction_view item) rest e (subst (λ (o : Option ℕ). IsToldBy log g (instruction_view item) o s c.step.new.self) (place ∙ sym there) (c.step.ensures.told log told)) here);
    }

pub returns-clause-full : goal.returns-clause-full
returns-clause-full c = λ n e exact full.
    (let items = c.args.block.now.instructions.items in
    subst (λ (is : List declared-instr.Instr). IsFullAt c.args.function.now c.loop-instruction.self n (map instruction_view is) e) (drop_end items c.loop-instruction.instruction-index (omega arith)) (c.loop-instruction.invariant.full n e exact full))

pub returns-clause-attained : goal.returns-clause-attained
returns-clause-attained c = λ log n e told is all.
    (let items = c.args.block.now.instructions.items in
    subst (λ (l : List declared-instr.Instr). IsAttained log (graph_view c.args.function.now.graph.now) c.loop-instruction.self n (map instruction_view l) e) (drop_end items c.loop-instruction.instruction-index (omega arith))
    (c.loop-instruction.invariant.attained log n e told is all))
