use Rattle.std.proofs.Common.{◌≡◌, ◌+◌, ◌<◌, ◌≤◌, List, [], ◌∷◌, Option, ℕ, arith, ap, drop, get_or, inl, inr, length, map, option_map, refl, sym, subst, ◌∙◌}
use Rattle.debug_records.specs.declared.change.Place as declared-place
use Rattle.graph_core.specs.declared.instruction.Instr as declared-instr
use Rattle.graph_core.specs.Graphs.{Instruction, block_view, end_view, graph_view, instruction_view}
use Rattle.graph_core.specs.Paths.{Among}
use Rattle.graph_core.specs.Validity.{markers_in, place_behind}
use Rattle.currency_notes.specs.Sources.{IsToldBy}
use Rattle.currency_notes.proofs.Lists.{drop_more}
use Rattle.currency_notes.proofs.Sourcing.{place_behind_first, place_next, place_there}
use Rattle.currency_shown.specs.Survey.{AreFresh}
use Rattle.currency_shown.proofs.Adding.{extended_on, extended_same, found_on}
use Rattle.currency_shown.proofs.Reaching.{later_reached, marker_reached}
use Rattle.currency_shown.proofs.Walking.{back_marker, fresh_behind, front_marker, sound_before, sound_end}
use Rattle.currency_shown.proofs.survey.Survey.add_block.Goals as goal

pub loop-instruction-init : goal.loop-instruction-init
loop-instruction-init c = record {
  extended = extended_same c.args.self.now c.args.found.now c.requires.met;
  fresh = c.requires.fresh;
  among = λ p there. there;
  only = λ p e. inl e;
  reached = c.requires.reached;
  place = refl;
  sound = λ later last n more is rest. rest;
}

pub loop-instruction-preserved : goal.loop-instruction-preserved
loop-instruction-preserved c =
    let v = c.args.self.now in
    let g = graph_view v.function.now.graph.now in
    let i = c.loop-instruction.instruction-index in
    let inv = c.loop-instruction.invariant in
    let items = c.args.block.now.instructions.items in
    let same = c.deref-instruction-items.ensures.value in
    let s = c.loop-instruction.state in
    let item = c.instruction-item.result in
    let begun : Option ℕ = option_map (λ (p : declared-place.Place). p.0) c.args.block.now.place in
    let lt : i < length items = subst (λ (is : List declared-instr.Instr). i < length is) same c.loop-instruction-test.true in
    let le : i + 1 ≤ length items = omega (arith, lt) in
    let this : item ≡ get_or items i item = subst (λ (is : List declared-instr.Instr). item ≡ get_or is i item) same c.instruction-item.is in
    let rest : List Instruction = map instruction_view (drop (i + 1) items) in
    let left : map instruction_view (drop i items) ≡ instruction_view item ∷ rest = ap (λ l. map instruction_view l) (drop_more items i item lt this) in
    let place : option_map (λ (p : declared-place.Place). p.0) c.place_behind-place.result ≡ place_behind_first instruction_view items begun (i + 1) =
    c.place_behind-place.ensures ∙ ap (λ o. place_behind (instruction_view item ∷ []) o) inv.place ∙ ap (λ a. place_behind (instruction_view a ∷ []) (place_behind_first instruction_view items begun i)) this ∙ sym (place_next instruction_view items begun i item lt) in
    let looked = c.in_ok-look_at.ensures.extended in
    record {
      extended = extended_on v c.args.found.now c.loop-instruction.found c.look_at.new.found inv.extended looked;
      fresh = fresh_behind (instruction_view item) rest c.loop-instruction.found c.look_at.new.found c.in_ok-look_at.ensures.only (subst (λ (l : List Instruction). AreFresh c.loop-instruction.found (markers_in l)) left inv.fresh);
      among = λ p there. inv.among p (subst (λ (l : List Instruction). Among p (markers_in l)) (sym left) (back_marker (instruction_view item) rest p there));
      only = λ p e. elim (c.in_ok-look_at.ensures.only p e) [
        | inl f ↦ inv.only p f
        | inr f ↦ inr (inv.among p (subst (λ (l : List Instruction). Among p (markers_in l)) (sym left) (front_marker (instruction_view item) rest p f)))
      ];
      reached = later_reached g items i item lt this (end_view c.args.block.now.end) inv.reached;
      place = place;
      sound = λ later last n more is after.
          (let there = place_there instruction_view items begun g n (i + 1) (block_view c.args.block.now) is refl refl le in
          inv.sound later last n (extended_on v c.loop-instruction.found c.look_at.new.found later looked more) is
          (sound_before v later n (instruction_view item) rest (map instruction_view (drop i items)) s c.step.new.self last left
          (λ p q. found_on v c.look_at.new.found later s p more (c.in_ok-look_at.ensures.found p q))
          (record { so = c.step.ensures.so; kept = c.step.ensures.kept; told = λ log told. subst (λ (o : Option ℕ). IsToldBy log g (instruction_view item) o s c.step.new.self) (place ∙ sym there) (c.step.ensures.told log told) }) after));
    }

-- the place of the next instruction
pub look_at-requires-clause-place : goal.look_at-requires-clause-place
look_at-requires-clause-place c =
    let items = c.args.block.now.instructions.items in
    let i = c.loop-instruction.instruction-index in
    let item = c.instruction-item.result in
    let same = c.deref-instruction-items.ensures.value in
    let lt : i < length items = subst (λ (is : List declared-instr.Instr). i < length is) same c.loop-instruction-test.true in
    let this : item ≡ get_or items i item = subst (λ (is : List declared-instr.Instr). item ≡ get_or is i item) same c.instruction-item.is in
    let left : map instruction_view (drop i items) ≡ instruction_view item ∷ map instruction_view (drop (i + 1) items) = ap (λ l. map instruction_view l) (drop_more items i item lt this) in
    λ p e. c.requires.places p (c.loop-instruction.invariant.among p (subst (λ (l : List Instruction). Among p (markers_in l)) (sym left) (front_marker (instruction_view item) (map instruction_view (drop (i + 1) items)) p e)))

pub look_at-requires-clause-fresh : goal.look_at-requires-clause-fresh
look_at-requires-clause-fresh c =
    let items = c.args.block.now.instructions.items in
    let i = c.loop-instruction.instruction-index in
    let item = c.instruction-item.result in
    let same = c.deref-instruction-items.ensures.value in
    let lt : i < length items = subst (λ (is : List declared-instr.Instr). i < length is) same c.loop-instruction-test.true in
    let this : item ≡ get_or items i item = subst (λ (is : List declared-instr.Instr). item ≡ get_or is i item) same c.instruction-item.is in
    let left : map instruction_view (drop i items) ≡ instruction_view item ∷ map instruction_view (drop (i + 1) items) = ap (λ l. map instruction_view l) (drop_more items i item lt this) in
    λ p e. c.loop-instruction.invariant.fresh.unmet p (subst (λ (l : List Instruction). Among p (markers_in l)) (sym left) (front_marker (instruction_view item) (map instruction_view (drop (i + 1) items)) p e))

pub look_at-requires-clause-reached : goal.look_at-requires-clause-reached
look_at-requires-clause-reached c =
    let items = c.args.block.now.instructions.items in
    let i = c.loop-instruction.instruction-index in
    let item = c.instruction-item.result in
    let same = c.deref-instruction-items.ensures.value in
    let lt : i < length items = subst (λ (is : List declared-instr.Instr). i < length is) same c.loop-instruction-test.true in
    let this : item ≡ get_or items i item = subst (λ (is : List declared-instr.Instr). item ≡ get_or is i item) same c.instruction-item.is in
    marker_reached (graph_view c.args.self.now.function.now.graph.now) items i item lt this (end_view c.args.block.now.end) c.loop-instruction.invariant.reached

pub returns-clause-sound : goal.returns-clause-sound
returns-clause-sound c = λ later n more is.
    (let items = c.args.block.now.instructions.items in
    c.loop-instruction.invariant.sound later c.loop-instruction.state n more is (sound_end c.args.self.now items c.loop-instruction.instruction-index n later c.loop-instruction.state (omega arith)))
