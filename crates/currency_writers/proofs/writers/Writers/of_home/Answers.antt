use Rattle.std.proofs.Common.{◌≡◌, ◌∙◌, List, ap, subst, sym}
use Rattle.currency_writers.specs.declared.writers.Write as declared-write
use Rattle.currency_writers.specs.Writers.{AreWritesBy, home_key, writes_in}
use Rattle.currency_writers.proofs.writers.Writers.of_home.Goals as goal

pub returns : goal.returns
returns c =
    (let v = c.args.self.now in
    let key = home_key v c.args.name in
    let same : c.writes.result.now ≡ writes_in v.by_home.items key = c.writes.ensures ∙ ap (λ l. writes_in l c.home_number.result) c.deref.ensures.value ∙ ap (λ n. writes_in v.by_home.items n) c.home_number.ensures in
    subst (λ (l : List declared-write.Write). AreWritesBy v.all.items (home_key v) key l) (sym same) (c.requires.indexed.by_home key))
