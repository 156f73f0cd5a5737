use Rattle.std.proofs.Common.{◌≡◌, ◌+◌, ◌*◌, ◌/◌, ◌%◌, ◌<◌, true≢false, map, sym, ap, ◌∙◌, subst, arith}
use Rattle.std.specs.Prelude.{◌==◌}
use Rattle.std.specs.Int.{bit_at}
use Rattle.graph_core.specs.Graphs.{instruction_view}
use Rattle.motion_pass_points.specs.Ways.{along}
use Rattle.motion_pass_points.specs.Words.{has}
use Rattle.motion_pass_problems.proofs.Pushed.{has_none}
use Rattle.motion_pass_placement.specs.Placed.{AreDone}
use Rattle.motion_pass_placement.proofs.Edges.{passed_all}
use Rattle.motion_pass_placement.proofs.placement.Placement.push_bits.Goals as goal

pub returns-then-bits-eq0 : goal.returns-then-bits-eq0
returns-then-bits-eq0 c = λ g is from to told come was. passed_all g.blocks c.args.self.now (along from to) 64 (c.args.column * 64) _ was (λ m le lt e at inserted.
    (let of : m / 64 ≡ c.args.column = omega (arith, le, lt) in
    true≢false (sym ((told m e of at).1 inserted) ∙ ap (λ w. has w m) c.if-bits-eq0.true ∙ has_none m)))

pub loop-bit-preserved : goal.loop-bit-preserved
loop-bit-preserved c = λ g is from to told come start.
    (let column = c.args.column in
    let bit = c.loop-bit.bit in
    let small : bit < 64 = omega (arith, c.loop-bit-test.true) in
    let of : (column * 64 + bit) / 64 ≡ column = omega (arith, small) in
    let rest : bit % 64 ≡ (column * 64 + bit) % 64 = omega (arith, small) in
    let flag_is : c.is_in-flag.result ≡ has c.args.bits (column * 64 + bit) = c.is_in-flag.ensures ∙ ap (λ m. bit_at c.args.bits m == 1) rest in
    let next : column * 64 + bit + 1 ≡ column * 64 + (bit + 1) = omega arith in
    subst (λ m. AreDone g.blocks c.args.self.now (along from to) m (map instruction_view c.push_flagged.new.out.items)) next
    (c.in_ok-push_flagged.ensures g is from to (λ e at. (λ flag. (told (column * 64 + bit) e of at).0 (sym flag_is ∙ flag), λ inserted. flag_is ∙ (told (column * 64 + bit) e of at).1 inserted)) come (c.loop-bit.invariant g is from to told come start)))
