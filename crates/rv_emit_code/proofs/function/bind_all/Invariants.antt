use Rattle.std.proofs.Common.{◌≡◌, ◌+◌, ◌*◌, ◌≤◌, drop, map}
use Rattle.rv_emit_words.specs.Words.{words_in}
use Rattle.rv_emit_words.specs.Shown.{shown}
use Rattle.graph_core.specs.Graphs.{binding_view, graph_view}
use Rattle.rv_emit_storage.specs.Storages.{storage_view}
use Rattle.rv_emit_words.specs.Growing.{code_state}
use Rattle.rv_emit_code.specs.Beginning.{with_bindings}
use Rattle.rv_emit_code.proofs.function.bind_all.Given as goal

abbrev pub invariant-loop-binding : goal.invariant-loop-binding
invariant-loop-binding l = record {
  few : words_in l.code.pieces.items ≤ words_in l.fn.code.pieces.items + 3 * l.binding-index;
  stops : shown l.code ≡ shown l.fn.code;
  grown : with_bindings (storage_view l.fn.storage) (graph_view l.fn.graph) l.number (map binding_view (drop l.binding-index l.fn.graph.parameters.items)) (code_state l.code)
      ≡ with_bindings (storage_view l.fn.storage) (graph_view l.fn.graph) 0 (map binding_view l.fn.graph.parameters.items) (code_state l.fn.code);
}
