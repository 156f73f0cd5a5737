use Rattle.std.proofs.Common.{arith, sym}
use Rattle.std.proofs.lemmas.Option.{slice_get_within}
use Rattle.currency_hiding.proofs.Found.{told_hides}
use Rattle.currency_hiding.proofs.First.{first_told, none_told}
use Rattle.currency_hiding.proofs.causes.Causes.at.Goals as goal

pub index-requires : goal.index-requires
index-requires c =
    (let told = c.requires.causes.told c.args.place c.in-Some.number (sym c.in-Some.ensures) in
    let lt = slice_get_within c.args.self.now.found.items c.in-Some.number told.one told.is in
    omega (arith, lt))

pub unreachable-requires : goal.unreachable-requires
unreachable-requires c =
    (let q = c.args.question in
    c.requires.hidden (none_told q.changes.now q.search.now q.function.now c.args.self.now c.requires.causes c.requires.all c.args.place (sym c.in-None.ensures)))

pub returns-clause-hides : goal.returns-clause-hides
returns-clause-hides c =
    (let q = c.args.question in
    told_hides q.changes.now q.search.now q.function.now c.args.self.now c.args.place c.in-Some.number c.index.result.now _ c.requires.causes (sym c.in-Some.ensures) (let told = c.requires.causes.told c.args.place c.in-Some.number (sym c.in-Some.ensures) in slice_get_within c.args.self.now.found.items c.in-Some.number told.one told.is) c.index.ensures)

pub returns-clause-first : goal.returns-clause-first
returns-clause-first c =
    (let q = c.args.question in
    first_told q.changes.now q.search.now q.function.now c.args.self.now c.requires.causes c.requires.all c.args.place c.in-Some.number c.index.result.now _ (sym c.in-Some.ensures) (let told = c.requires.causes.told c.args.place c.in-Some.number (sym c.in-Some.ensures) in slice_get_within c.args.self.now.found.items c.in-Some.number told.one told.is) c.index.ensures)
