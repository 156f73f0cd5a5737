use Rattle.std.proofs.Common.{arith}
use Rattle.currency_hiding.proofs.teller.Teller.new.Goals as goal

pub returns-clause-teller : goal.returns-clause-teller
returns-clause-teller c =
    (let search = c.in_ok-search.ensures.room in
    let told = c.in_ok-causes.ensures.room in
    let disturbed = c.in_ok-quiet.ensures.disturbed in
    let barred = c.in_ok-quiet.ensures.barred in
    let starts = c.in_ok-quiet.ensures.starts in
    record {
      changes = c.in_ok-changes.ensures.listed;
      search = c.in_ok-search.ensures.search;
      room = omega (arith, search, told);
      quiet = record { disturbed = omega (arith, search, disturbed); barred = omega (arith, search, barred); starts = omega (arith, disturbed, starts) };
    })
