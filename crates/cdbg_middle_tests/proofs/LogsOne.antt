-- A change at the entry of the first function, of its first scalar, is one that a pass may log.
use Rattle.std.proofs.Common.{◌≡◌, ◌≢◌, ℕ, List, [], ◌∷◌, ◌++◌, map, refl, ap, ◌∙◌, slice_get}
use Rattle.std.specs.Prelude.{Option, Some, None, option_map}
use Rattle.std.proofs.lemmas.List.{map_push}
use Rattle.std.proofs.lemmas.Option.{slice_get-map}
use Rattle.debug_records.specs.Change.{changes}
use Rattle.debug_records.specs.declared.change.Change.{Change}
use Rattle.debug_records.specs.declared.change.Kind.{Kind}
use Rattle.debug_records.specs.declared.change.Kind.TheVariants.{Sunk}
use Rattle.debug_records.specs.declared.change.PassName.{PassName}
use Rattle.graph_core.specs.declared.graph.Graph as declared-graph
use Rattle.graph_core.specs.declared.graph.Scalar as declared-scalar
use Rattle.graph_core.specs.declared.unit.Unit as declared-unit
use Rattle.graph_core.specs.Graphs.{Block, Graph, Scalar, UnitForm, graph_view, logged, scalar_view, unit_view}
use Rattle.graph_core.specs.Paths.{Among}
use Rattle.graph_core.specs.Validity.{IsGraph, IsKept, markers_of}
use Rattle.graph_core.specs.WellMarked.{AreWellMarked}
use Rattle.graph_core.proofs.Among.{get_among, one_of_all}
use Rattle.pass_law.specs.Logs.{LogsWell}
use Rattle.pass_law.proofs.LoggedWell.{entry_marked, marker_of_graph}
use Rattle.pass_law.proofs.LogsLittle.{one_few}

kept_block : (place : ℕ) (o : Option Block) → IsKept (Some place) o → (b : Block) × (o ≡ Some b)
kept_block place None kept = absurd kept
kept_block place (Some b) kept = (b, refl)

entry_begins : (u : UnitForm) (g : Graph) → AreWellMarked u → slice_get u.graphs 0 ≡ Some g → Among g.entry (markers_of u.graphs)
entry_begins u g marked is =
    let valid : IsGraph u g = one_of_all (IsGraph u) u.graphs g marked.valid.graphs (get_among u.graphs 0 g is) in
    let first = kept_block g.entry (slice_get g.blocks 0) valid.begins in
    marker_of_graph u.graphs 0 g g.entry is (entry_marked u g (marked.graphs 0 g is) 0 first.0 first.1)

module _ (pass : PassName) (kind : Kind) (unit copy after : declared-unit.Unit) (g : declared-graph.Graph) (s : declared-scalar.Scalar) where
  -- the change
  abbrev change : ℕ → Change
  change number = record { number = number; pass = pass; kind = kind; place = g.entry; var = s.var }

  -- That change alone, behind the log of a copy of a well marked unit.
  pub logs_one : (number : ℕ) → kind ≢ Sunk → AreWellMarked (unit_view unit) → slice_get unit.graphs.items 0 ≡ Some g → slice_get g.scalars.items 0 ≡ Some s → unit_view copy ≡ unit_view unit → changes after.log ≡ changes copy.log ++ change number ∷ []
      → LogsWell pass (unit_view unit) (unit_view after)
  logs_one number unsunk marked graph scalar same grown =
      let is : slice_get (unit_view unit).graphs 0 ≡ Some (graph_view g) = slice_get-map graph_view unit.graphs.items 0 ∙ ap (option_map graph_view) graph in
      let first : slice_get (graph_view g).scalars 0 ≡ Some (scalar_view s) = slice_get-map scalar_view g.scalars.items 0 ∙ ap (option_map scalar_view) scalar in
      record {
        added = logged (change number) ∷ [];
        log = ap (map logged) grown ∙ map_push logged (changes copy.log) (change number) ∙ ap (λ (u : UnitForm). u.log ++ logged (change number) ∷ []) same;
        few = one_few unit.room;
        by = (refl, tt);
        kinds = (unsunk, tt);
        at = (entry_begins (unit_view unit) (graph_view g) marked is, tt);
        of = (record { function = 0; graph = graph_view g; x = 0; is = is; of = ap (option_map (λ (x : Scalar). x.variable)) first }, tt);
      }
