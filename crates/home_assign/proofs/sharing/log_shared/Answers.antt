use Rattle.std.proofs.Common.{◌≡◌, ℕ, ◌+◌, ◌<◌, ◌≤◌, ◌++◌, ◌∷◌, Some, true, false, true≢false, List, [], take, get_or, length, map, sym, ap, ◌∙◌, subst, arith}
use Rattle.std.specs.Prelude.{slice_get}
use Rattle.std.proofs.lemmas.List.{get_or-map, length-map, length-take-le, take_all, take_more}
use Rattle.std.proofs.lemmas.Option.{slice_get-get_or}
use Rattle.debug_records.specs.Change.{changes}
use Rattle.graph_core.specs.declared.graph.Scalar as declared-scalar
use Rattle.graph_core.specs.Graphs.{Graph, Logged, Scalar, graph_view, logged, scalar_view}
use Rattle.home_assign.specs.Sharing.{AreLogged, change_of, home_in}
use Rattle.home_assign.proofs.Logging.{foreign_reused, logged_none, logged_own, logged_shared}
use Rattle.home_assign.proofs.sharing.log_shared.Goals as goal
use Rattle.home_assign.proofs.sharing.log_shared.Goals.{then-is_shared+in_ok-log_one, else-is_shared}

pub loop-scalar-init : goal.loop-scalar-init
loop-scalar-init c = λ made are. logged_none made (home_in c.args.homes.now) (graph_view c.args.graph.now) c.args.pass (map logged (changes c.args.log.now))

pub loop-scalar-preserved : goal.loop-scalar-preserved
loop-scalar-preserved c = λ made are.
    let g = graph_view c.args.graph.now in
    let home = home_in c.args.homes.now in
    let items = c.args.graph.now.scalars.items in
    let n = c.loop-scalar.scalar in
    let none : declared-scalar.Scalar = record { var = record { 0 = 0 }; of = 0; place = record { 0 = 0 } } in
    let count : length items ≡ length g.scalars = sym (length-map items scalar_view) in
    let lt : n < length items = omega (arith, c.loop-scalar-test.true, c.deref-of-items.ensures.len) in
    let s : Scalar = get_or g.scalars n (scalar_view none) in
    let at : slice_get g.scalars n ≡ Some s = slice_get-get_or g.scalars n (scalar_view none) (omega (arith, lt, count)) in
    let told : scalar_view (get_or c.deref-of-items.result.now n none) ≡ s = ap (λ xs. scalar_view (get_or xs n none)) c.deref-of-items.ensures.value ∙ sym (get_or-map scalar_view items n none (scalar_view none) lt) in
    let size : n ≡ length (take n g.scalars) = sym (length-take-le n g.scalars (omega (arith, lt, count))) in
    let says = foreign_reused made c.args.moves.now are c.args.homes.now g c.in_ok-own.own c.requires.each c.in_ok-own.ensures n s at in
    let old = map logged (changes c.args.log.now) in
    let now = map logged (changes c.loop-scalar.log) in
    let before = c.loop-scalar.invariant made are in
    subst (λ ss. AreLogged made home g c.args.pass ss old (map logged (changes c.if-is_shared.log))) (sym (take_more g.scalars n (scalar_view none) (omega (arith, lt, count)))) (elim c.if-is_shared.branch [
      | then-is_shared+in_ok-log_one w ↦
          logged_shared made home g c.args.pass n (take n g.scalars) s old now (map logged (changes c.if-is_shared.log)) size (says.0 (c.is_shared.ensures.0 w.if-is_shared.true))
          (ap (λ log. map logged (changes log)) w.log-is ∙ w.in_ok-log_one.ensures ∙ ap (λ (t : Scalar). now ++ change_of c.args.pass t ∷ []) told) before
      | else-is_shared w ↦
          subst (λ log. AreLogged made home g c.args.pass (take n g.scalars ++ s ∷ []) old (map logged (changes log))) (sym w.log-is)
          (logged_own made home g c.args.pass n (take n g.scalars) s old now size (λ is. true≢false (sym (c.is_shared.ensures.1 (says.1 is)) ∙ w.if-is_shared.false)) before)
    ])

pub returns : goal.returns
returns c = λ made are.
    let g = graph_view c.args.graph.now in
    let count : length c.args.graph.now.scalars.items ≡ length g.scalars = sym (length-map c.args.graph.now.scalars.items scalar_view) in
    let all : length g.scalars ≤ c.loop-scalar.scalar = omega (arith, c.loop-scalar-test.false, c.deref-of-items.ensures.len, count) in
    subst (λ ss. AreLogged made (home_in c.args.homes.now) g c.args.pass ss (map logged (changes c.args.log.now)) (map logged (changes c.loop-scalar.log))) (take_all c.loop-scalar.scalar g.scalars all) (c.loop-scalar.invariant made are)
