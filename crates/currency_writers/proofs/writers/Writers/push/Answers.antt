use Rattle.std.proofs.Common.{◌≡◌, ◌++◌, ◌∷◌, [], ℕ, refl, subst}
use Rattle.std.specs.Prelude.{◌≢◌}
use Rattle.currency_writers.specs.declared.writers.Write as declared-write
use Rattle.currency_writers.specs.Writers.{writes_in}
use Rattle.currency_writers.proofs.Indexed.{indexed_more}
use Rattle.currency_writers.proofs.Ordering.{later_push}
use Rattle.currency_writers.proofs.writers.Writers.push.Goals as goal

pub returns-clause-indexed : goal.returns-clause-indexed
returns-clause-indexed c =
    (let one = c.args.written in
    let old = c.args.self.now in
    let last : declared-write.Write = record { place = one.place; number = c.args.number } in
    let home = c.in_ok-push_write.ensures in
    let name = c.in_ok-push_write-2.ensures in
    let new = c.push_write.new.lists.items in
    indexed_more old _ one c.args.number c.requires.indexed c.requires.number c.requires.next c.in_ok-push.ensures.items refl
    (subst (λ n. writes_in new n ≡ writes_in old.by_home.items n ++ (last ∷ [])) c.home_number-home.ensures home.pushed)
    (subst (λ m. (n : ℕ) → n ≢ m → writes_in new n ≡ writes_in old.by_home.items n) c.home_number-home.ensures home.others) name.pushed name.others)

pub returns-clause-next : goal.returns-clause-next
returns-clause-next c = λ rank le before. later_push c.args.self.now.all.items c.push.new.self.items c.args.written rank c.in_ok-push.ensures.items le before
