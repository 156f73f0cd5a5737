use Rattle.std.proofs.Common.{◌<◌, ◌≤◌, length, sym, arith}
use Rattle.std.proofs.lemmas.Result.{err_from_is_err_and}
use Rattle.c_token.proofs.Steps.{blanks_on, blanks_stop, blanks_fail}
use Rattle.c_token.proofs.comment.blanks_end.Goals as goal

pub returns-in_err-end-clause-exact : goal.returns-in_err-end-clause-exact
returns-in_err-end-clause-exact c =
    let p = err_from_is_err_and c.from_residual.result c.from_residual.ensures.1 in
    rw (p.1, p.2) (blanks_fail c.args.text.now c.args.from c.loop-at.at _ c.loop-at-test.true (sym c.in_err-end.ensures.exact) c.loop-at.invariant.same)

pub loop-at-preserved : goal.loop-at-preserved
loop-at-preserved c =
    let within : (c.loop-at.at < c.in-Some.end) × (c.in-Some.end ≤ length c.args.text.now) = rw c.in-Some.is at c.in_ok-end.ensures.within in
    record {
      behind = omega (arith, within.0);
      in_range = within.1;
      same = blanks_on c.args.text.now c.args.from c.loop-at.at c.in-Some.end (rw c.in-Some.is at (sym c.in_ok-end.ensures.exact)) within.0 within.1 c.loop-at.invariant.same;
    }

pub returns-in-None-clause-exact : goal.returns-in-None-clause-exact
returns-in-None-clause-exact c = blanks_stop c.args.text.now c.args.from c.loop-at.at c.loop-at-test.true (rw c.in-None.is at (sym c.in_ok-end.ensures.exact)) c.loop-at.invariant.same
