use Rattle.std.proofs.Common.{◌≡◌, sym, true≢false, ◌∙◌, arith}
use Rattle.graph_solve_problem.proofs.Relaxing.{has_fallen, count_fits}
use Rattle.graph_solve_problem.proofs.rounds.relax.Goals as goal

pub prove-unreachable-requires : goal.prove-unreachable-requires
prove-unreachable-requires g c =
    let differs = λ (q : c.in_ok-value.value ≡ c.index-3.result.now). true≢false (sym (c.is_same.ensures.1 q) ∙ c.if-is_same.false) in
    let fits = count_fits (g.P.Problem.flow c.args.problem.now) c.args.edge c.args.values.now.items c.args.counts.now.items c.requires.counted c.requires.from c.requires.to
    c.index.result.now c.index-2.result.now c.index-3.result.now c.in_ok-value.value c.index-4.result.now c.index.ensures c.index-2.ensures c.index-3.ensures c.index-4.ensures c.in_ok-value.ensures differs in
    omega (arith, fits, c.requires.height, c.if-prove.true)

pub returns : goal.returns
returns g c =
    let differs = λ (q : c.in_ok-value.value ≡ c.index-3.result.now). true≢false (sym (c.is_same.ensures.1 q) ∙ c.if-is_same.false) in
    has_fallen (g.P.Problem.flow c.args.problem.now) c.args.edge c.args.values.now.items c.args.counts.now.items c.requires.counted c.requires.from c.requires.to
    c.index.result.now c.index-2.result.now c.index-3.result.now c.in_ok-value.value c.index_mut-2.result.now c.index.ensures c.index-2.ensures c.index-3.ensures c.index_mut-2.ensures.value c.in_ok-value.ensures differs
