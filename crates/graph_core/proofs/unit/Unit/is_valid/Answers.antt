use Rattle.std.proofs.Common.{◌≡◌, ◌≤◌, List, true, false, length, map, sym, subst, arith}
use Rattle.std.specs.List.{AllByRecursion}
use Rattle.graph_core.specs.declared.graph.Graph as declared-graph
use Rattle.graph_core.specs.declared.unit.StaticObject as declared-static
use Rattle.graph_core.specs.Graphs.{StaticObject, graph_view, static_view, unit_view}
use Rattle.graph_core.specs.Validity.{AreAllDifferent, AreRelocations, IsGraph, IsValid, markers_of}
use Rattle.memory_map.specs.declared.map.Room.TheVariants.{Large}
use Rattle.graph_core.specs.Bounds.{most_markers}
use Rattle.graph_core.proofs.Rooms.{markers_in}
use Rattle.graph_core.proofs.Valid.{counts_kept, valid_if}
use Rattle.graph_core.proofs.unit.Unit.is_valid.Goals as goal

pub returns-then-not-keeps_counts : goal.returns-then-not-keeps_counts
returns-then-not-keeps_counts c =
    let u = unit_view c.args.self.now in
    (λ (t : false ≡ true). cc, λ (v : IsValid u). let h = c.keeps_counts.ensures.1 (counts_kept u v) in (cc))

pub returns-then-not-has_parameters : goal.returns-then-not-has_parameters
returns-then-not-has_parameters c =
    let u = unit_view c.args.self.now in
    (λ (t : false ≡ true). cc, λ (v : IsValid u). let h = c.has_parameters.ensures.1 v.main in (cc))

pub returns-then-not-have_relocations : goal.returns-then-not-have_relocations
returns-then-not-have_relocations c =
    let u = unit_view c.args.self.now in
    let P : List declared-static.StaticObject → Type 0 = λ all. AllByRecursion (λ (o : StaticObject). AreRelocations u.statics o.relocations) (map static_view all) in
    (λ (t : false ≡ true). cc, λ (v : IsValid u). let h = c.have_relocations.ensures.1 (subst P (sym c.deref.ensures.value) v.relocations) in (cc))

pub returns-then-not-are_graphs : goal.returns-then-not-are_graphs
returns-then-not-are_graphs c =
    let u = unit_view c.args.self.now in
    let P : List declared-graph.Graph → Type 0 = λ all. AllByRecursion (IsGraph u) (map graph_view all) in
    (λ (t : false ≡ true). cc, λ (v : IsValid u). let h = c.are_graphs.ensures.1 (subst P (sym c.deref-2.ensures.value) v.graphs) in (cc))

pub returns : goal.returns
returns c =
    let u = unit_view c.args.self.now in
    let P : List declared-static.StaticObject → Type 0 = λ all. AllByRecursion (λ (o : StaticObject). AreRelocations u.statics o.relocations) (map static_view all) in
    let Q : List declared-graph.Graph → Type 0 = λ all. AllByRecursion (IsGraph u) (map graph_view all) in
    let R : List declared-graph.Graph → Type 0 = λ all. AreAllDifferent (markers_of (map graph_view all)) in
    let counts = c.keeps_counts.ensures.0 c.if-not-keeps_counts.false in
    let main = c.has_parameters.ensures.0 c.if-not-has_parameters.false in
    let relocations = subst P c.deref.ensures.value (c.have_relocations.ensures.0 c.if-not-have_relocations.false) in
    let graphs = subst Q c.deref-2.ensures.value (c.are_graphs.ensures.0 c.if-not-are_graphs.false) in (
      λ t. valid_if u counts main relocations graphs (subst R c.deref-3.ensures.value (c.are_marked_once.ensures.0 t)),
      λ (v : IsValid u). c.are_marked_once.ensures.1 (subst R (sym c.deref-3.ensures.value) v.once),
    )

pub are_graphs-requires : goal.are_graphs-requires
are_graphs-requires c =
    let u = unit_view c.args.self.now in
    let few = (c.keeps_counts.ensures.0 c.if-not-keeps_counts.false).markers in
    let many : length (markers_of u.graphs) ≤ most_markers Large = omega (arith, few, markers_in u.room) in
    subst (λ (all : List declared-graph.Graph). length (markers_of (map graph_view all)) ≤ most_markers Large) (sym c.deref-2.ensures.value) many

pub are_marked_once-requires : goal.are_marked_once-requires
are_marked_once-requires c =
    let u = unit_view c.args.self.now in
    let few = (c.keeps_counts.ensures.0 c.if-not-keeps_counts.false).markers in
    let many : length (markers_of u.graphs) ≤ most_markers Large = omega (arith, few, markers_in u.room) in
    subst (λ (all : List declared-graph.Graph). length (markers_of (map graph_view all)) ≤ most_markers Large) (sym c.deref-3.ensures.value) many
