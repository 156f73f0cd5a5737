use Rattle.std.proofs.Common.{◌≡◌, ◌≤◌, ◌+◌, ◌-◌, ◌^◌, ◌∙◌, List, true, false, length, map, min, ap, arith}
use Rattle.std.proofs.lemmas.Bool.Decides.{nat_tests}
use Rattle.std.proofs.lemmas.Bool.{leb-true}
use Rattle.std.proofs.lemmas.List.{length-map}
use Rattle.graph_core.specs.declared.graph.Graph as declared-graph
use Rattle.graph_core.specs.declared.unit.StaticObject as declared-static
use Rattle.graph_core.specs.declared.unit.Bytes as declared-bytes
use Rattle.graph_core.specs.declared.validity.Counted.TheVariants.{Instructions, Arguments, Markers}
use Rattle.graph_core.specs.Graphs.{Graph, bytes_view, graph_view, static_view, unit_view}
use Rattle.graph_core.specs.Memory.{static_bytes}
use Rattle.graph_core.specs.Bounds.{most_functions, most_instructions, most_blocks, most_markers, most_arguments, most_static_bytes}
use Rattle.graph_core.specs.Counts.{KeepsCounts, count_in_graphs}
use Rattle.graph_core.specs.Validity.{markers_of, taken_by, total}
use Rattle.graph_core.proofs.Rooms.{arguments_in, blocks_in, instructions_in, markers_in}
use Rattle.graph_core.proofs.Once.{markers_counted}
use Rattle.graph_core.proofs.unit.Unit.keeps_counts.Goals as goal

pub returns-then-max_instructions-count_in_graphs : goal.returns-then-max_instructions-count_in_graphs
returns-then-max_instructions-count_in_graphs c =
    let u = unit_view c.args.self.now in
    let same : c.count_in_graphs.result ≡ min (count_in_graphs Instructions u.graphs) (2 ^ 64 - 1) =
    c.count_in_graphs.ensures ∙ ap (λ (all : List declared-graph.Graph). min (count_in_graphs Instructions (map graph_view all)) (2 ^ 64 - 1)) c.deref-2.ensures.value in
    let over : KeepsCounts u → ⊥ = λ (k : KeepsCounts u). (let few : count_in_graphs Instructions u.graphs ≤ most_instructions u.room = k.instructions in omega (arith, few, same, c.max_instructions.ensures)) in
    (λ (t : false ≡ true). cc, λ (k : KeepsCounts u). absurd (over k))

pub returns-then-max_markers-count_in_graphs : goal.returns-then-max_markers-count_in_graphs
returns-then-max_markers-count_in_graphs c =
    let u = unit_view c.args.self.now in
    let same : c.count_in_graphs-2.result ≡ min (count_in_graphs Markers u.graphs) (2 ^ 64 - 1) =
    c.count_in_graphs-2.ensures ∙ ap (λ (all : List declared-graph.Graph). min (count_in_graphs Markers (map graph_view all)) (2 ^ 64 - 1)) c.deref-3.ensures.value in
    let over : KeepsCounts u → ⊥ = λ (k : KeepsCounts u). (let few : length (markers_of u.graphs) ≤ most_markers u.room = k.markers in omega (arith, few, same, markers_counted u.graphs, c.max_markers.ensures)) in
    (λ (t : false ≡ true). cc, λ (k : KeepsCounts u). absurd (over k))

pub returns-then-max_arguments-count_in_graphs : goal.returns-then-max_arguments-count_in_graphs
returns-then-max_arguments-count_in_graphs c =
    let u = unit_view c.args.self.now in
    let same : c.count_in_graphs-3.result ≡ min (count_in_graphs Arguments u.graphs) (2 ^ 64 - 1) =
    c.count_in_graphs-3.ensures ∙ ap (λ (all : List declared-graph.Graph). min (count_in_graphs Arguments (map graph_view all)) (2 ^ 64 - 1)) c.deref-4.ensures.value in
    let over : KeepsCounts u → ⊥ = λ (k : KeepsCounts u). (let few : count_in_graphs Arguments u.graphs ≤ most_arguments u.room = k.arguments in omega (arith, few, same, c.max_arguments.ensures)) in
    (λ (t : false ≡ true). cc, λ (k : KeepsCounts u). absurd (over k))

pub returns : goal.returns
returns c =
    let u = unit_view c.args.self.now in
    let graphs = λ (all : List declared-graph.Graph). map graph_view all in
    let one : c.count_in_graphs.result ≡ min (count_in_graphs Instructions u.graphs) (2 ^ 64 - 1) =
    c.count_in_graphs.ensures ∙ ap (λ (all : List declared-graph.Graph). min (count_in_graphs Instructions (graphs all)) (2 ^ 64 - 1)) c.deref-2.ensures.value in
    let two : c.count_in_graphs-2.result ≡ min (count_in_graphs Markers u.graphs) (2 ^ 64 - 1) =
    c.count_in_graphs-2.ensures ∙ ap (λ (all : List declared-graph.Graph). min (count_in_graphs Markers (graphs all)) (2 ^ 64 - 1)) c.deref-3.ensures.value in
    let three : c.count_in_graphs-3.result ≡ min (count_in_graphs Arguments u.graphs) (2 ^ 64 - 1) =
    c.count_in_graphs-3.ensures ∙ ap (λ (all : List declared-graph.Graph). min (count_in_graphs Arguments (graphs all)) (2 ^ 64 - 1)) c.deref-4.ensures.value in
    let blocks : c.count_blocks.result ≡ min (total (λ (g : Graph). length g.blocks) u.graphs) (2 ^ 64 - 1) =
    c.count_blocks.ensures ∙ ap (λ (all : List declared-graph.Graph). min (total (λ (g : Graph). length g.blocks) (graphs all)) (2 ^ 64 - 1)) c.deref.ensures.value in
    let statics : c.taken_by_statics.result ≡ min (total (λ o. taken_by (static_bytes o)) u.statics) (2 ^ 64 - 1) =
    c.taken_by_statics.ensures ∙ ap (λ (all : List declared-static.StaticObject). min (total (λ o. taken_by (static_bytes o)) (map static_view all)) (2 ^ 64 - 1)) c.deref-5.ensures.value in
    let bytes : c.taken_by_bytes.result ≡ min (total (λ b. taken_by (length b)) u.array_bytes) (2 ^ 64 - 1) =
    c.taken_by_bytes.ensures ∙ ap (λ (all : List declared-bytes.Bytes). min (total (λ b. taken_by (length b)) (map bytes_view all)) (2 ^ 64 - 1)) c.deref-6.ensures.value in
    let few : length u.graphs ≤ most_functions = grind (arith, length-map) in
    let some_instructions : count_in_graphs Instructions u.graphs ≤ most_instructions u.room = omega (arith, one, c.max_instructions.ensures, instructions_in u.room) in
    let some_markers : length (markers_of u.graphs) ≤ most_markers u.room = omega (arith, two, markers_counted u.graphs, c.max_markers.ensures, markers_in u.room) in
    let some_arguments : count_in_graphs Arguments u.graphs ≤ most_arguments u.room = omega (arith, three, c.max_arguments.ensures, arguments_in u.room) in
    let some_blocks : total (λ (g : Graph). length g.blocks) u.graphs ≤ most_blocks u.room = omega (arith, blocks, c.max_blocks.ensures, blocks_in u.room) in (
      λ t.
          let le : c.saturating_add.result ≤ most_static_bytes = leb-true c.saturating_add.result most_static_bytes t in
          record {
            functions = few;
            instructions = some_instructions;
            blocks = some_blocks;
            markers = some_markers;
            arguments = some_arguments;
            statics = omega (arith, le, statics, bytes, c.saturating_add.ensures);
          },
      λ (k : KeepsCounts u).
          let sum : total (λ o. taken_by (static_bytes o)) u.statics + total (λ b. taken_by (length b)) u.array_bytes ≤ most_static_bytes = k.statics in
          let le : c.saturating_add.result ≤ most_static_bytes = omega (arith, sum, statics, bytes, c.saturating_add.ensures) in
          grind (arith, nat_tests),
    )
