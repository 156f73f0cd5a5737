use Rattle.std.proofs.Common.{List, subst, sym}
use Rattle.std.specs.Prelude.{All}
use Rattle.std.proofs.lemmas.List.Elements.{All-push}
use Rattle.currency_writers.specs.declared.writers.Write as declared-write
use Rattle.currency_hiding.specs.Found.{IsForeignWrite}
use Rattle.currency_hiding.proofs.function.Function.add_foreign.Goals as goal

pub returns-clause-each : goal.returns-clause-each
returns-clause-each c =
    (let f = c.args.self.now in
    let is : IsForeignWrite f c.args.write = record { written = c.in-Some.written; is = c.in-Some.ensures.some.0; place = c.in-Some.ensures.some.1; foreign = c.is_foreign.ensures.0 c.if-not-is_foreign.false } in
    subst (λ (l : List declared-write.Write). All (λ (w : declared-write.Write). IsForeignWrite f w) l) (sym c.in_ok-push.ensures.items) (All-push (λ (w : declared-write.Write). IsForeignWrite f w) c.args.found.now.items c.args.write c.requires.each is))
