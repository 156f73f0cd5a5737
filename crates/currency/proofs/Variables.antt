-- A number above the variables of all scalars of a unit.
use Rattle.std.proofs.Common.{◌≡◌, ℕ, ◌<◌, Option, Some, None, List, [], ◌∷◌, slice_get, take, refl, sym, ap, subst, ◌∙◌}
use Rattle.std.specs.Prelude.{option_map}
use Rattle.std.proofs.lemmas.Option.{none-some, same_Some, slice_get-map}
use Rattle.base_laws.proofs.Lists.{from_map}
use Rattle.graph_core.specs.declared.graph.Graph as declared-graph
use Rattle.graph_core.specs.declared.graph.Scalar as declared-scalar
use Rattle.graph_core.specs.Graphs.{Graph, Logged, Scalar, graph_view, scalar_view}
use Rattle.graph_core.specs.Paths.{Among}
use Rattle.graph_core.specs.WellMarked.{IsVariable}
use Rattle.graph_core.proofs.Among.{get_among}
use Rattle.graph_homes.specs.declared.homed.HomedUnit as declared-homed
use Rattle.graph_homes.specs.Homed.{homed_view}
use Rattle.places.specs.declared.flow.FlowTable.{FlowTable}
use Rattle.currency.specs.declared.told.ToldPlaces as declared-places
use Rattle.currency.specs.Telling.{AreBelow, told_at}
use Rattle.currency.specs.Evident.{AreToldEvident}

pub none_above : (scalars : List declared-scalar.Scalar) (count : ℕ) → (s : declared-scalar.Scalar) → Among s (take 0 scalars) → s.var.0 < count
none_above [] count s among = elim among [ ]
none_above (r ∷ scalars) count s among = elim among [ ]

pub none_below : (graphs : List declared-graph.Graph) (count : ℕ) → (g : declared-graph.Graph) → Among g (take 0 graphs) → (s : declared-scalar.Scalar) → Among s g.scalars.items → s.var.0 < count
none_below [] count g among = elim among [ ]
none_below (h ∷ graphs) count g among = elim among [ ]

-- the scalars of each graph, as contracts see them
pub all_below : (h : declared-homed.HomedUnit) (count : ℕ) → ((g : declared-graph.Graph) → Among g h.unit.graphs.items → (s : declared-scalar.Scalar) → Among s g.scalars.items → s.var.0 < count)
    → (f x variable : ℕ) (g : Graph) → slice_get (homed_view h).unit.graphs f ≡ Some g → IsVariable g x variable → variable < count
all_below h count all f x variable g there is = by_graph (from_map graph_view h.unit.graphs.items f g there)
  where
    by_scalar : (d : declared-graph.Graph) → Among d h.unit.graphs.items → graph_view d ≡ g → (o : Option declared-scalar.Scalar) → slice_get d.scalars.items x ≡ o → variable < count
    by_scalar d among same None e = absurd (none-some variable (sym (ap (λ q. option_map (λ (z : Scalar). z.variable) q) (slice_get-map scalar_view d.scalars.items x ∙ ap (λ o. option_map scalar_view o) e)) ∙ subst (λ (z : Graph). IsVariable z x variable) (sym same) is))
    by_scalar d among same (Some s) e =
        (let named : s.var.0 ≡ variable = same_Some s.var.0 variable (sym (ap (λ q. option_map (λ (z : Scalar). z.variable) q) (slice_get-map scalar_view d.scalars.items x ∙ ap (λ o. option_map scalar_view o) e)) ∙ subst (λ (z : Graph). IsVariable z x variable) (sym same) is) in
        subst (λ v. v < count) named (all d among s (get_among d.scalars.items x s e)))

    by_graph : (d : declared-graph.Graph) × (slice_get h.unit.graphs.items f ≡ Some d) × (graph_view d ≡ g) → variable < count
    by_graph d = by_scalar d.0 (get_among h.unit.graphs.items f d.0 d.1) d.2 (slice_get d.0.scalars.items x) refl

-- what is told is of such variables
pub told_below : (h : declared-homed.HomedUnit) (log : List Logged) (flow : FlowTable) (told : declared-places.ToldPlaces) (count : ℕ) → ((f x variable : ℕ) (g : Graph) → slice_get (homed_view h).unit.graphs f ≡ Some g → IsVariable g x variable → variable < count) → AreToldEvident log flow (homed_view h) told
    → (p : ℕ) → AreBelow count (told_at told p)
told_below h log flow told count all evident p t among = (let one = evident p t among in all one.f one.of.x t.var.0 one.graph one.is one.of.of)
