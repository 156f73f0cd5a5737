use Rattle.std.proofs.Common.{◌≡◌, List, Some, length, refl, sym, ap, ◌∙◌, subst}
use Rattle.std.specs.Prelude.{◌↔◌, false, slice_get, true}
use Rattle.std.proofs.lemmas.Result.{IfOk-weaker}
use Rattle.places.specs.declared.flow.Assignment.{Assignment}
use Rattle.graph_core.specs.Graphs.{block_view, end_view, graph_view}
use Rattle.dead_pass_rule.specs.Asking.{is_going}
use Rattle.dead_pass_rule.specs.Walks.{turn_of}
use Rattle.dead_pass_notes.specs.Scans.{AreSeen, GoesOn, HasGrown, IsReady, SomeComes, scan_of}
use Rattle.dead_pass_notes.specs.Spots.{end_at, left_at}
use Rattle.dead_pass_notes.proofs.Coming.{there}
use Rattle.dead_pass_notes.proofs.Ending.{found_at_once, found_on}
use Rattle.dead_pass_notes.proofs.PlaceWaysPoints.{end_there}
use Rattle.dead_pass_notes.proofs.ways.Ways.is_written_between.Goals as goal

pub returns-then-branch-clause-exact : goal.returns-then-branch-clause-exact
returns-then-branch-clause-exact c = λ assignments ready point.
    (let g = graph_view c.args.graph.now in
    let goes = is_going (turn_of c.args.turns.now) in
    let stops = ap (λ l. scan_of goes c.args.to c.args.name c.args.from.block false l) (sym c.instructions_left-rest.ensures) ∙ c.in_ok-visit.ensures.found c.if-branch.true in
    ((λ _. found_at_once g goes ready.idle c.args.to c.args.name ready.point c.args.from.block c.args.from.left point stops), (λ _. refl)))

pub returns-clause-exact : goal.returns-clause-exact
returns-clause-exact c =
    let g = graph_view c.args.graph.now in
    let goes = is_going (turn_of c.args.turns.now) in
    let to = c.args.to in
    let y = c.args.name in
    let n = c.args.from.block in
    let b = c.in-Some.block.now in
    let now = c.visit.new.self in
    let at : slice_get g.blocks n ≡ Some (block_view b) = there block_view c.deref.result.now c.args.graph.now.blocks.items n b c.deref.ensures.value c.in-Some.ensures.lookup.3.0 c.in-Some.ensures.lookup.1 in
    let end : end_view b.end ≡ end_at g n = sym (end_there g n (block_view b) at) in
    let rest = c.instructions_left-rest.ensures in
    IfOk-weaker c.search.result (λ is. (assignments : List Assignment) → IsReady assignments g goes to now → AreSeen now → (is ≡ true) ↔ SomeComes assignments g to y now.ahead.items) _
    (λ is exact assignments ready point.
    (let begun = c.begin.ensures in
    let visited = c.in_ok-visit.ensures in
    let size = visited.count ∙ begun.count in
    let grown = subst (λ e. HasGrown e (scan_of goes to y n false (left_at g n c.args.from.left)) c.begin.new.self.ahead.items now.ahead.items) end (subst (λ l. HasGrown (end_view b.end) (scan_of goes to y n false l) c.begin.new.self.ahead.items now.ahead.items) rest visited.grown) in
    let on = subst (λ e. GoesOn (length g.blocks) now.ahead.items e (scan_of goes to y n false (left_at g n c.args.from.left))) end (subst (λ l. GoesOn (length g.blocks) now.ahead.items (end_view b.end) (scan_of goes to y n false l)) rest (visited.on c.if-branch.false (length g.blocks) (begun.count ∙ ready.count) begun.fresh)) in
    let some = exact assignments (record { idle = ready.idle; point = ready.point; count = size ∙ ready.count }) (visited.seen begun.fresh) in
    let between = found_on g goes ready.idle to y ready.point n c.args.from.left point c.begin.new.self.ahead.items now.ahead.items begun.none grown on in
    ((λ e. between.0 (some.0 e)), (λ w. some.1 (between.1 w)))))
    c.search.ensures.exact
