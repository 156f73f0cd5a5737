-- Valid units, from the tests of their parts.
use Rattle.std.specs.Prelude.{slice_get}
use Rattle.std.specs.List.{AllByRecursion}
use Rattle.graph_core.specs.Graphs.{StaticObject, UnitForm}
use Rattle.graph_core.specs.Counts.{KeepsCounts}
use Rattle.graph_core.specs.Validity.{AreAllDifferent, AreRelocations, HasParameters, IsGraph, IsValid, markers_of}

pub counts_kept : (u : UnitForm) → IsValid u → KeepsCounts u
counts_kept u v = record {
  functions = v.functions;
  instructions = v.instructions;
  blocks = v.blocks;
  markers = v.markers;
  arguments = v.arguments;
  statics = v.statics;
}

pub valid_if : (u : UnitForm) → KeepsCounts u → HasParameters (slice_get u.graphs u.main) 0 → AllByRecursion (λ (o : StaticObject). AreRelocations u.statics o.relocations) u.statics
    → AllByRecursion (IsGraph u) u.graphs → AreAllDifferent (markers_of u.graphs) → IsValid u
valid_if u k main relocations graphs once = record {
  functions = k.functions;
  main = main;
  instructions = k.instructions;
  blocks = k.blocks;
  markers = k.markers;
  arguments = k.arguments;
  statics = k.statics;
  relocations = relocations;
  once = once;
  graphs = graphs;
}
