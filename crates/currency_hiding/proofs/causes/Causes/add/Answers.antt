use Rattle.std.proofs.Common.{List, [], ◌∷◌, ◌≡◌, length, subst, sym, arith}
use Rattle.std.specs.Prelude.{Contains}
use Rattle.std.proofs.lemmas.List.Elements.{Contains-append_left, Contains-push}
use Rattle.currency_writers.specs.Flow.{IsToldFrom}
use Rattle.currency_hiding.specs.declared.causes.Found as declared-found
use Rattle.currency_hiding.proofs.Coming.{before_push}
use Rattle.currency_hiding.proofs.Found.{causes_more}
use Rattle.currency_hiding.proofs.causes.Causes.add.Goals as goal

pub tell_from-requires : goal.tell_from-requires
tell_from-requires c = record { turned = c.requires.asked.search; closed = c.requires.causes.closed; room = c.requires.causes.room }

pub returns-clause-causes : goal.returns-clause-causes
returns-clause-causes c =
    (let q = c.args.question in
    let one : declared-found.Found = record { cause = c.args.cause; via = c.args.via } in
    let said = c.in_ok-tell_from.ensures in
    let number : c.len-number.result ≡ length c.args.self.now.found.items = omega arith in
    causes_more q.changes.now q.search.now q.function.now c.args.self.now _ one c.requires.causes c.requires.hides c.in_ok-push.ensures.items c.requires.next
    (subst (λ n. IsToldFrom q.search.now.flow c.args.via n c.args.self.now.told c.tell_from.new.told) number said.told) said.closed said.all said.room)

pub returns-clause-kept : goal.returns-clause-kept
returns-clause-kept c = λ z there.
    (let one : declared-found.Found = record { cause = c.args.cause; via = c.args.via } in
    subst (λ (l : List declared-found.Found). Contains l z) (sym c.in_ok-push.ensures.items) (Contains-append_left c.args.self.now.found.items (one ∷ []) z there))

pub returns-clause-there : goal.returns-clause-there
returns-clause-there c =
    (let one : declared-found.Found = record { cause = c.args.cause; via = c.args.via } in
    subst (λ (l : List declared-found.Found). Contains l one) (sym c.in_ok-push.ensures.items) (Contains-push c.args.self.now.found.items one))

pub returns-clause-next : goal.returns-clause-next
returns-clause-next c = λ rank le before.
    (let one : declared-found.Found = record { cause = c.args.cause; via = c.args.via } in
    before_push c.args.self.now.found.items c.push.new.self.items one rank c.in_ok-push.ensures.items le before)
