use Rattle.std.proofs.Common.{◌≡◌, ℕ, ◌+◌, ◌<◌, List, [], length, map, min, subst, sym, ◌∙◌}
use Rattle.std.specs.Global.{Vec}
use Rattle.std.proofs.lemmas.List.{length-map}
use Rattle.graph_homes.specs.declared.home.Home.{Home}
use Rattle.graph_core.specs.Graphs.{graph_view, scalar_view}
use Rattle.currency_notes.specs.Homes.{home_in, number_at}
use Rattle.currency_notes.specs.declared.function.Function as declared-function
use Rattle.currency_notes.specs.Full.{AreExact}
use Rattle.graph_core.specs.declared.block.Block as declared-block
use Rattle.graph_core.specs.declared.graph.Scalar as declared-scalar
use Rattle.graph_core.specs.Paths.{path, stays}
use Rattle.currency_notes.proofs.Sourcing.{attained_first}
use Rattle.currency_shown.specs.Chains.{AreChains, AreLinked}
use Rattle.currency_shown.specs.Numbering.{AreDistinctVariables, AreNumbered, IsNumberOf}
use Rattle.currency_shown.proofs.Scalars.{distinct_variables, numbers_below}
use Rattle.currency_shown.specs.Shown.{AreHidden, AreOwn, AreRecipes}
use Rattle.currency_shown.proofs.HiddenPlaces.{are_hidden}
use Rattle.currency_shown.proofs.LeastPlaces.{are_least}
use Rattle.currency_shown.proofs.OnPaths.{are_different, are_other, are_own, are_placed, are_recipes, are_visible}
use Rattle.currency_shown.proofs.unshown.not_shown.Goals as goal

-- what the function is walked over with fits it
pub new-requires-clause-few : goal.new-requires-clause-few
new-requires-clause-few c = subst (λ (scalars : List declared-scalar.Scalar). length scalars < 4294967296) (sym c.deref.ensures.value) (subst (λ n. n < 4294967296) (length-map c.args.graph.now.scalars.items scalar_view) c.requires.scalars)

pub new-requires-clause-different : goal.new-requires-clause-different
new-requires-clause-different c = subst (λ (scalars : List declared-scalar.Scalar). AreDistinctVariables scalars) (sym c.deref.ensures.value) (distinct_variables c.args.graph.now.scalars.items c.requires.variables)

pub found_of-requires-clause-survey : goal.found_of-requires-clause-survey
found_of-requires-clause-survey c = record {
  chains = subst (λ (chains : List (Vec ℕ)). AreChains c.args.graph.now.blocks.items chains) (sym c.deref-4.ensures.value) (subst (λ (blocks : List declared-block.Block). AreChains blocks c.in_ok-chains.chains.items) c.deref-2.ensures.value c.in_ok-chains.ensures);
  places = c.requires.places;
  once = c.requires.once;
  numbers = numbers_below c.in_ok-numbering.numbering c.args.graph.now.scalars.items (λ variable x e. subst (λ (scalars : List declared-scalar.Scalar). IsNumberOf scalars variable x) c.deref.ensures.value (c.in_ok-numbering.ensures.only variable x e));
}

pub found_of-requires-clause-full : goal.found_of-requires-clause-full
found_of-requires-clause-full c =
    c.in_ok-states.ensures (subst (λ (chains : List (Vec ℕ)). AreLinked c.args.graph.now.blocks.items chains) (sym c.deref-3.ensures.value) (subst (λ (blocks : List declared-block.Block). AreLinked blocks c.in_ok-chains.chains.items) c.deref-2.ensures.value c.in_ok-chains.ensures.linked))

pub found_of-requires-clause-entered : goal.found_of-requires-clause-entered
found_of-requires-clause-entered c = λ b at.
    record { reached = record { history = []; path = path b at stays }; sized = c.in_ok-entered.ensures.sized; full = λ exact. c.in_ok-entered.ensures.full exact b at; attained = λ log told. attained_first log (graph_view c.args.graph.now) b c.in_ok-entered.entered at c.in_ok-entered.ensures.told }

pub returns-clause-count : goal.returns-clause-count
returns-clause-count c = c.in_ok-found.ensures.1.met.scalars ∙ sym (length-map c.args.graph.now.scalars.items scalar_view)

pub returns-clause-placed : goal.returns-clause-placed
returns-clause-placed c = are_placed _ _ _ _ c.in_ok-found.ensures.1 c.in_ok-entered.ensures.so

pub returns-clause-theirs : goal.returns-clause-theirs
returns-clause-theirs c = λ x u among. (c.in_ok-found.ensures.1.met.each x u among).1

pub returns-clause-reached : goal.returns-clause-reached
returns-clause-reached c = λ x u among. (c.in_ok-found.ensures.1.met.each x u among).2

pub returns-clause-visible : goal.returns-clause-visible
returns-clause-visible c = are_visible _ _ _ _ c.in_ok-found.ensures.1 c.in_ok-entered.ensures.so
    (λ variable x e. subst (λ (scalars : List declared-scalar.Scalar). IsNumberOf scalars variable x) c.deref.ensures.value (c.in_ok-numbering.ensures.only variable x e))

pub returns-clause-different : goal.returns-clause-different
returns-clause-different c = are_different _ _ _ _ c.in_ok-found.ensures.1 c.in_ok-entered.ensures.so
    (subst (λ (scalars : List declared-scalar.Scalar). AreNumbered c.in_ok-numbering.numbering scalars) c.deref.ensures.value c.in_ok-numbering.ensures.numbered)

pub returns-clause-own : goal.returns-clause-own
returns-clause-own c =
    subst (λ (homes : List Home). AreOwn (home_in homes) (graph_view c.args.graph.now) c.args.places.now c.in_ok-found.found.unshown.items) c.in_ok-new.ensures.homes
    (are_own _ _ _ _ c.in_ok-found.ensures.1 c.in_ok-entered.ensures.so
    (subst (λ (scalars : List declared-scalar.Scalar). AreNumbered c.in_ok-numbering.numbering scalars) c.deref.ensures.value c.in_ok-numbering.ensures.numbered))

pub returns-clause-recipe : goal.returns-clause-recipe
returns-clause-recipe c =
    subst (λ (homes : List Home). AreRecipes (home_in homes) (graph_view c.args.graph.now) c.in_ok-found.found.unshown.items) c.in_ok-new.ensures.homes (are_recipes _ _ _ _ c.in_ok-found.ensures.1 c.in_ok-entered.ensures.so)

pub returns-clause-other : goal.returns-clause-other
returns-clause-other c = are_other _ _ _ _ c.in_ok-found.ensures.1 c.in_ok-entered.ensures.so

pub returns-clause-hidden : goal.returns-clause-hidden
returns-clause-hidden c = λ distinct.
    (let m = c.in_ok-new.field-0 in
    let made = c.in_ok-new.ensures in
    let f : declared-function.Function = record { graph = c.args.graph; homes = m; removed = c.args.removed } in
    let exact : AreExact f = record {
      told = λ y z read. subst (λ (homes : List Home). home_in homes y ≡ home_in homes z) (sym made.homes) (distinct.told y z (subst (λ (homes : List Home). number_at (home_in homes y) ≡ number_at (home_in homes z)) made.homes read));
      numbered = made.numbered;
    } in
    let within : (y : ℕ) → number_at (home_in m.homes.now y) < length m.numbers.items = λ y. subst (λ k. number_at (home_in m.homes.now y) < k) (sym made.count) (subst (λ (homes : List Home). number_at (home_in homes y) < min (length c.args.homes.now + 32) 18446744073709551615) (sym made.homes) (distinct.within y)) in
    subst (λ (homes : List Home). AreHidden (home_in homes) (graph_view c.args.graph.now) c.in_ok-found.found.unshown.items) made.homes
    (are_hidden _ _ _ _ c.in_ok-found.ensures.1 exact c.in_ok-found.ensures.0 within))

pub returns-clause-least : goal.returns-clause-least
returns-clause-least c = λ log told. are_least _ _ _ _ c.in_ok-found.ensures.1 c.in_ok-entered.ensures.so c.in_ok-found.ensures.0 log told
