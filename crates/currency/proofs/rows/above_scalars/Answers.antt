use Rattle.std.proofs.Common.{◌≡◌, ◌+◌, ◌<◌, ℕ, List, arith, get_or, length, max, take}
use Rattle.currency_notes.proofs.Lists.{each_all, each_more_any}
use Rattle.graph_core.specs.Paths.{Among}
use Rattle.graph_core.specs.declared.graph.Scalar as declared-scalar
use Rattle.currency.proofs.Variables.{none_above}
use Rattle.currency.proofs.rows.above_scalars.Goals as goal

-- a number above one scalar more
above_next : (scalars : List declared-scalar.Scalar) (k : ℕ) (d : declared-scalar.Scalar) (before count : ℕ) → k < length scalars → count ≡ max before ((get_or scalars k d).var.0 + 1) → ((s : declared-scalar.Scalar) → Among s (take k scalars) → s.var.0 < before)
    → (s : declared-scalar.Scalar) → Among s (take (k + 1) scalars) → s.var.0 < count
above_next scalars k d before count lt is low = each_more_any (λ (s : declared-scalar.Scalar). s.var.0 < count) scalars k d lt (λ s among. (let small = low s among in omega (arith, small, is))) (omega (arith, is))

pub loop-scalar-init : goal.loop-scalar-init
loop-scalar-init c = record { least = omega arith; above = none_above c.args.scalars.now c.args.least }

pub loop-scalar-preserved : goal.loop-scalar-preserved
loop-scalar-preserved c =
    let inv = c.loop-scalar.invariant in
    let least = inv.least in
    let is = c.max-count.ensures in
    record {
      least = omega (arith, least, is);
      above = above_next c.args.scalars.now c.loop-scalar.scalar-index _ c.loop-scalar.count c.max-count.result c.loop-scalar-test.true is inv.above;
    }

pub returns-clause-above : goal.returns-clause-above
returns-clause-above c = each_all (λ (s : declared-scalar.Scalar). s.var.0 < c.loop-scalar.count) c.args.scalars.now c.loop-scalar.scalar-index (omega arith) c.loop-scalar.invariant.above
