use Rattle.std.proofs.Common.{◌≡◌, ◌+◌, true≢false, Some, length, map, refl, sym, ap, subst, arith}
use Rattle.std.specs.Prelude.{slice_get, true}
use Rattle.std.proofs.lemmas.List.{length-map}
use Rattle.std.proofs.lemmas.Option.{slice_get_within}
use Rattle.graph_core.specs.Graphs.{block_view, graph_view, instruction_view}
use Rattle.dead_pass_rule.specs.Asking.{is_going}
use Rattle.dead_pass_rule.specs.Walks.{turn_of}
use Rattle.dead_pass_notes.specs.declared.scans.Scanned.TheVariants.{Stops}
use Rattle.dead_pass_notes.specs.declared.ways.Ways.{Ways}
use Rattle.dead_pass_notes.specs.Scans.{GoesOn, HasGrown, scan_of}
use Rattle.dead_pass_notes.proofs.Coming.{there, there_self}
use Rattle.dead_pass_notes.proofs.Ending.{IsSearching, searching_on, searching_skip}
use Rattle.dead_pass_notes.proofs.Searching.{searched_all, searched_first, searched_found}
use Rattle.dead_pass_notes.proofs.ways.Ways.search.Goals as goal
use Rattle.dead_pass_notes.proofs.ways.Ways.search.Goals.{in-Some-get+in_ok-visit+else-branch, in_default-get}

pub loop-at-init : goal.loop-at-init
loop-at-init c = record {
  count = refl;
  seen = λ s. s;
  within = omega arith;
  searched = λ assignments ready s. searched_first (graph_view c.args.graph.now) (is_going (turn_of c.args.turns.now)) ready.idle c.args.sought.to c.args.sought.name ready.point c.args.self.now.ahead.items;
}

pub returns-in_default-clause-exact : goal.returns-in_default-clause-exact
returns-in_default-clause-exact c = λ assignments ready seen.
    (let same = ap length c.deref.ensures.value in
    let past = c.in_default.ensures.lookup.3 in
    let all = searched_all (graph_view c.args.graph.now) (is_going (turn_of c.args.turns.now)) ready.idle c.args.sought.to c.args.sought.name ready.point c.args.self.now.ahead.items c.loop-at.self.ahead.items c.loop-at.at (omega (arith, same, past)) (c.loop-at.invariant.searched assignments ready seen) in
    ((λ e. absurd (true≢false (sym e))), (λ some. absurd (all some))))

pub returns-then-branch-clause-exact : goal.returns-then-branch-clause-exact
returns-then-branch-clause-exact c = λ assignments ready seen.
    (let b = c.in-Some-get.block.now in
    let w = c.in-Some.found.now in
    let g = graph_view c.args.graph.now in
    let goes = is_going (turn_of c.args.turns.now) in
    let is : slice_get c.loop-at.self.ahead.items c.loop-at.at ≡ Some w = there_self c.deref.result.now c.loop-at.self.ahead.items c.loop-at.at w c.deref.ensures.value c.in-Some.ensures.lookup.3.0 c.in-Some.ensures.lookup.1 in
    let at : slice_get g.blocks w.block ≡ Some (block_view b) = there block_view c.deref-in-loop-at.result.now c.args.graph.now.blocks.items w.block b c.deref-in-loop-at.ensures.value c.in-Some-get.ensures.lookup.3.0 c.in-Some-get.ensures.lookup.1 in
    let stops = subst (λ xs. scan_of goes c.args.sought.to c.args.sought.name w.block w.is_written (map instruction_view xs) ≡ Stops true) c.deref-in-Some-get.ensures.value (c.in_ok-visit.ensures.found c.if-branch.true) in
    ((λ _. searched_found g goes ready.idle c.args.sought.to c.args.sought.name ready.point c.args.self.now.ahead.items c.loop-at.self.ahead.items c.loop-at.at w (block_view b) is at stops (c.loop-at.invariant.searched assignments ready seen)), (λ _. refl)))

pub loop-at-preserved : goal.loop-at-preserved
loop-at-preserved c =
    let g = graph_view c.args.graph.now in
    let goes = is_going (turn_of c.args.turns.now) in
    let to = c.args.sought.to in
    let y = c.args.sought.name in
    let first = c.args.self.now in
    let w = c.in-Some.found.now in
    let is : slice_get c.loop-at.self.ahead.items c.loop-at.at ≡ Some w = there_self c.deref.result.now c.loop-at.self.ahead.items c.loop-at.at w c.deref.ensures.value c.in-Some.ensures.lookup.3.0 c.in-Some.ensures.lookup.1 in
    elim c.match-get-2.branch [
      | in-Some-get+in_ok-visit+else-branch v ↦ (
          let b = v.in-Some-get.block.now in
          let at : slice_get g.blocks w.block ≡ Some (block_view b) = there block_view c.deref-in-loop-at.result.now c.args.graph.now.blocks.items w.block b c.deref-in-loop-at.ensures.value v.in-Some-get.ensures.lookup.3.0 v.in-Some-get.ensures.lookup.1 in
          let read = v.deref-in-Some-get.ensures.value in
          let P : Ways → Type 0 = λ s. IsSearching g goes to y first s (c.loop-at.at + 1) in
          subst P (sym v.self-is)
          (searching_on g goes to y first c.loop-at.self c.loop-at.at w is c.loop-at.invariant v.visit.new.self (block_view b) at v.in_ok-visit.ensures.count v.in_ok-visit.ensures.seen
          (subst (λ xs. HasGrown (block_view b).end (scan_of goes to y w.block w.is_written (map instruction_view xs)) c.loop-at.self.ahead.items v.visit.new.self.ahead.items) read v.in_ok-visit.ensures.grown)
          (λ count long seen. subst (λ xs. GoesOn count v.visit.new.self.ahead.items (block_view b).end (scan_of goes to y w.block w.is_written (map instruction_view xs))) read (v.in_ok-visit.ensures.on v.if-branch.false count long seen))))
      | in_default-get v ↦ (
          let P : Ways → Type 0 = λ s. IsSearching g goes to y first s (c.loop-at.at + 1) in
          let past = v.in_default-get.ensures.lookup.3 in
          let same = ap length c.deref-in-loop-at.ensures.value in
          let long = length-map c.args.graph.now.blocks.items block_view in
          subst P (sym v.self-is)
          (searching_skip g goes to y first c.loop-at.self c.loop-at.at w is c.loop-at.invariant (λ b at. (let inside = slice_get_within g.blocks w.block b at in omega (arith, inside, long, past, same)))))
    ]
