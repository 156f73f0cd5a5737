use Rattle.std.proofs.Common.{◌≡◌, ◌∙◌, ap, arith, get_or, length, map, subst, sym, take}
use Rattle.std.proofs.lemmas.List.{take_all}
use Rattle.graph_core.specs.Graphs.{end_view}
use Rattle.graph_core.specs.Paths.{Among}
use Rattle.graph_core.specs.Uses.{targets_of}
use Rattle.graph_core.specs.declared.name.Label.{Label}
use Rattle.dead_pass_notes.proofs.Coming.{come_more, next_among}
use Rattle.dead_pass_notes.proofs.Searching.{grown_keeps, grown_more, grown_one}
use Rattle.dead_pass_notes.proofs.ways.Ways.go_on.Goals as goal

pub loop-target-preserved : goal.loop-target-preserved
loop-target-preserved c =
    let e = end_view c.args.end.now in
    let w = c.args.is_written in
    let labels = c.as_slice-target-items.result.now in
    let i = c.loop-target.target-index in
    let none : Label = record { 0 = 0 } in
    let targets : map (λ (label : Label). label.0) labels ≡ targets_of e = ap (map (λ (label : Label). label.0)) c.as_slice-target-items.ensures ∙ c.targets-targets.ensures in
    let now = c.loop-target.invariant in
    let same = now.count in
    let said = c.in_ok-come_to.ensures in
    let one = grown_one e w (get_or labels i none).0 c.loop-target.self.ahead.items c.come_to.new.self.ahead.items (subst (λ all. Among (get_or labels i none).0 all) targets (next_among labels i none c.loop-target-test.true)) said.ahead in
    record {
      count = said.count ∙ same;
      seen = λ all. said.seen (now.seen all);
      grown = grown_more now.grown one;
      come = λ count long all. come_more labels i none w (length c.args.self.now.seen.items) c.loop-target.self.ahead.items c.come_to.new.self.ahead.items c.loop-target-test.true (λ l. grown_keeps one l w) (λ inside. said.come (now.seen all) (omega (arith, inside, same))) count long
          (now.come count long all);
    }

pub returns-clause-come : goal.returns-clause-come
returns-clause-come c = λ count long all l among.
    (let i = c.loop-target.target-index in
    let labels = c.as_slice-target-items.result.now in
    let whole : map (λ (label : Label). label.0) (take i labels) ≡ targets_of (end_view c.args.end.now) = ap (map (λ (label : Label). label.0)) (take_all i labels c.loop-target-test.false ∙ c.as_slice-target-items.ensures) ∙ c.targets-targets.ensures in
    c.loop-target.invariant.come count long all l (subst (λ xs. Among l xs) (sym whole) among))
