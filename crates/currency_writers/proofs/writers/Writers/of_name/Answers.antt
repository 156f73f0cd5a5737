use Rattle.std.proofs.Common.{◌≡◌, ◌∙◌, List, ap, subst, sym}
use Rattle.currency_writers.specs.declared.writers.Write as declared-write
use Rattle.currency_writers.specs.Writers.{AreWritesBy, writes_in}
use Rattle.currency_writers.proofs.writers.Writers.of_name.Goals as goal

pub returns : goal.returns
returns c =
    (let v = c.args.self.now in
    let same : c.writes.result.now ≡ writes_in v.by_name.items c.args.name = c.writes.ensures ∙ ap (λ l. writes_in l c.args.name) c.deref.ensures.value in
    subst (λ (l : List declared-write.Write). AreWritesBy v.all.items (λ y. y) c.args.name l) (sym same) (c.requires.indexed.by_name c.args.name))
