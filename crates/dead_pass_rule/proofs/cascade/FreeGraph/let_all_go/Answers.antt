use Rattle.std.proofs.Common.{◌≡◌, ◌+◌, ◌-◌, ℕ, length, arith}
use Rattle.graph_paths.specs.PathMarksTable.{bits_of}
use Rattle.dead_pass_rule.specs.Cascading.{assignments_of, graph_of}
use Rattle.dead_pass_rule.proofs.Passing.{all_stay, cascades_none, cascades_on, needed_on}
use Rattle.dead_pass_rule.proofs.cascade.FreeGraph.let_all_go.Goals as goal

pub loop-passed-init : goal.loop-passed-init
loop-passed-init c = record {
  cascades = cascades_none (assignments_of c.args.self.now) (graph_of c.args.self.now) c.args.turns.now c.args.marks.now c.requires.sound;
  needed = λ q asked m lt le reached. absurd (omega (arith, lt, le));
}

pub let_go_back-requires-clause-sound : goal.let_go_back-requires-clause-sound
let_go_back-requires-clause-sound c = c.loop-passed.invariant.cascades.sound

pub loop-passed-preserved : goal.loop-passed-preserved
loop-passed-preserved c =
    let f = c.args.self.now in
    let a = assignments_of f in
    let g = graph_of f in
    let was = c.loop-passed.invariant in
    let now = c.in_ok-went.ensures in
    let number : ℕ = f.count - 1 - c.loop-passed.passed in
    let at : number + c.loop-passed.passed + 1 ≡ f.count = omega arith in
    record {
      cascades = cascades_on a g c.args.turns.now c.loop-passed.turns c.let_go_back.new.turns c.args.marks.now c.loop-passed.marks c.let_go_back.new.marks c.loop-passed.is_less c.in_ok-went.went was.cascades now.cascades;
      needed = needed_on a g (bits_of f.reached.now 0) c.args.turns.now c.loop-passed.turns c.args.marks.now c.loop-passed.marks c.loop-passed.is_less c.in_ok-went.went f.count c.loop-passed.passed number at was.cascades was.needed now.needed;
    }

pub returns-clause-needed : goal.returns-clause-needed
returns-clause-needed c = λ q asked.
    (let f = c.args.self.now in
    let count = c.requires.told.blocks in
    all_stay (assignments_of f) (graph_of f) c.args.turns.now (bits_of f.reached.now 0)
    (λ n lt reached. c.loop-passed.invariant.needed q asked n (omega (arith, lt, count)) (omega (arith, c.loop-passed-test.false)) reached))
