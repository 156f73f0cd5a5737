use Rattle.std.proofs.Common.{◌≡◌, List, Some, ap, arith, length, slice_get, subst, sym}
use Rattle.std.proofs.lemmas.List.{length-map}
use Rattle.graph_core.specs.declared.graph.Graph as declared-graph
use Rattle.graph_core.specs.declared.graph.Scalar as declared-scalar
use Rattle.graph_core.specs.Graphs.{graph_view, scalar_view}
use Rattle.std.specs.Global.{Vec}
use Rattle.currency_hiding.specs.Changes.{log_of}
use Rattle.currency_shown.specs.declared.found.Unshown as declared-unshown
use Rattle.currency_shown.specs.Found.{entries_of}
use Rattle.currency.specs.Tellable.{CanBeTold, HasNoneBy}
use Rattle.currency.specs.Telling.{AreToldAll}
use Rattle.currency.specs.Evident.{AreNew, IsHidingScalar}
use Rattle.currency.proofs.Entries.{all_reached, function_told}
use Rattle.currency.proofs.Hiding.{hiding_in}
use Rattle.currency.proofs.Tellable.{can_tell, can_tell_any}
use Rattle.currency.proofs.told.ToldPlaces.add_function.Goals as goal

pub not_shown-requires-clause-scalars : goal.not_shown-requires-clause-scalars
not_shown-requires-clause-scalars c = c.requires.function.scalars

pub not_shown-requires-clause-variables : goal.not_shown-requires-clause-variables
not_shown-requires-clause-variables c = c.requires.function.variables

pub not_shown-requires-clause-once : goal.not_shown-requires-clause-once
not_shown-requires-clause-once c = c.requires.function.once

pub not_shown-requires-clause-places : goal.not_shown-requires-clause-places
not_shown-requires-clause-places c = c.requires.function.places

pub new-requires-clause-homed : goal.new-requires-clause-homed
new-requires-clause-homed c = c.requires.function.homed

pub new-requires-clause-copied : goal.new-requires-clause-copied
new-requires-clause-copied c = c.requires.function.copied

pub new-requires-clause-placed : goal.new-requires-clause-placed
new-requires-clause-placed c = λ p x w writes.
    (let low = c.requires.function.written p x w writes in
    let count : c.len-count.result ≡ length c.args.unit.now.places.now.rows.items = omega (arith, c.len-count.ensures) in
    omega (arith, low, count))

pub add_scalars-requires-clause-scalars : goal.add_scalars-requires-clause-scalars
add_scalars-requires-clause-scalars c =
    (let g = c.args.graph.now in
    let same : length (graph_view c.in_ok-function.function.writers.graph.now).scalars ≡ length (graph_view g).scalars = ap (λ (z : declared-graph.Graph). length (graph_view z).scalars) c.in_ok-function.ensures.graph in
    let many = length-map g.scalars.items scalar_view in
    let here : length c.deref.result.now ≡ length g.scalars.items = ap (λ (l : List declared-scalar.Scalar). length l) c.deref.ensures.value in
    omega (arith, same, many, here))

pub add_scalars-requires-clause-few : goal.add_scalars-requires-clause-few
add_scalars-requires-clause-few c =
    (let g = c.args.graph.now in
    let few = c.requires.function.scalars in
    let many = length-map g.scalars.items scalar_view in
    let here : length c.deref.result.now ≡ length g.scalars.items = ap (λ (l : List declared-scalar.Scalar). length l) c.deref.ensures.value in
    omega (arith, few, many, here))

pub add_scalars-requires-clause-count : goal.add_scalars-requires-clause-count
add_scalars-requires-clause-count c =
    (let g = c.args.graph.now in
    let count = c.in_ok-unshown.ensures.count in
    let many = length-map g.scalars.items scalar_view in
    let here : length c.deref.result.now ≡ length g.scalars.items = ap (λ (l : List declared-scalar.Scalar). length l) c.deref.ensures.value in
    let there : length c.deref-2.result.now ≡ length c.in_ok-unshown.unshown.items = ap (λ (l : List (Vec declared-unshown.Unshown)). length l) c.deref-2.ensures.value in
    omega (arith, count, many, here, there))

pub add_scalars-requires-clause-can : goal.add_scalars-requires-clause-can
add_scalars-requires-clause-can c =
    (let g = c.args.graph.now in
    let t = c.args.teller.now in
    let f = c.in_ok-function.function in
    let found = c.in_ok-unshown.unshown.items in
    let said = c.in_ok-unshown.ensures in
    let made = c.in_ok-function.ensures in
    let homes = c.args.homes.now in
    let places = length c.args.self.now.by_place.items in
    λ x s at.
    subst (λ (l : List (Vec declared-unshown.Unshown)). CanBeTold (λ p. HasNoneBy t f.writers x s.var.0 p) places (entries_of l x)) (sym c.deref-2.ensures.value)
    (can_tell_any t f.writers g homes c.args.number x s.var.0 places (entries_of found x) made.number made.graph made.homes
    (can_tell (log_of t.changes) t.search.flow.table.now homes c.args.number g c.args.unit.now.places.now found c.requires.function said.theirs said.reached said.visible said.recipe said.other said.hidden (said.least (log_of t.changes) c.requires.removed) places c.requires.count x s
    (subst (λ (l : List declared-scalar.Scalar). slice_get l x ≡ Some s) c.deref.ensures.value at))))

pub returns-clause-told : goal.returns-clause-told
returns-clause-told c = λ log told.
    (let g = c.args.graph.now in
    let found = c.in_ok-unshown.unshown in
    let old = c.args.self.now in
    let new = c.add_scalars.new.self in
    let said = c.in_ok-unshown.ensures in
    let all : AreToldAll old new g.scalars.items found.items =
    subst (λ (scalars : List declared-scalar.Scalar). AreToldAll old new scalars found.items) c.deref.ensures.value
    (subst (λ (entries : List (Vec declared-unshown.Unshown)). AreToldAll old new c.deref.result.now entries) c.deref-2.ensures.value c.in_ok-add_scalars.ensures.told) in
    function_told log g c.args.homes.now c.args.number c.args.unit.now.places.now old new found.items said.placed said.theirs said.different said.own said.recipe said.other said.hidden (said.least log told) said.reached all)

pub returns-clause-hiding : goal.returns-clause-hiding
returns-clause-hiding c =
    (let f = c.in_ok-function.function in
    let t = c.args.teller.now in
    let g = c.args.graph.now in
    let found = c.in_ok-unshown.unshown in
    let old = c.args.self.now in
    let new = c.add_scalars.new.self in
    let made = c.in_ok-function.ensures in
    let said = c.in_ok-unshown.ensures in
    let all : AreToldAll old new g.scalars.items found.items =
    subst (λ (scalars : List declared-scalar.Scalar). AreToldAll old new scalars found.items) c.deref.ensures.value
    (subst (λ (entries : List (Vec declared-unshown.Unshown)). AreToldAll old new c.deref.result.now entries) c.deref-2.ensures.value c.in_ok-add_scalars.ensures.told) in
    hiding_in t f.writers g c.args.homes.now c.args.number old new made.number made.graph made.homes (all_reached g found.items old new said.reached all)
    (subst (λ (scalars : List declared-scalar.Scalar). AreNew (IsHidingScalar t f.writers scalars) old new) c.deref.ensures.value c.in_ok-add_scalars.ensures.hiding))
