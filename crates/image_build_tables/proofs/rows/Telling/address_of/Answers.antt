use Rattle.std.proofs.Common.{◌∙◌, ℕ, None, Some, ap, map, refl, slice_get, sym}
use Rattle.std.specs.Prelude.{option_and_then}
use Rattle.rv_emit_tables.specs.Emitted.{FunctionCode, function_view}
use Rattle.graph_core.specs.Graphs.{Graph, graph_view}
use Rattle.image_build_tables.specs.Rows.{address_of_writer, instruction_number}
use Rattle.image_build_tables.proofs.Counting.{firsts_there, none_writes, number_sum, some_writes}
use Rattle.image_build_tables.proofs.rows.Telling.address_of.Goals as goal

pub returns-in_err-first-in-Instruction : goal.returns-in_err-first-in-Instruction
returns-in_err-first-in-Instruction c =
    let graphs = c.args.self.now.graphs.now in
    let codes = map function_view c.args.self.now.code.now in
    let f = c.in-Instruction.function in
    let block = c.in-Instruction.block in
    let told = c.in_err-first-in-Instruction.ensures ∙ firsts_there graphs _ f block c.requires in
    c.from_residual.ensures
    ∙ none_writes (slice_get (map graph_view graphs) f) block (λ (g : Graph). option_and_then (λ (d : FunctionCode). slice_get d.writers (instruction_number g block c.in-Instruction.index)) (slice_get codes f)) None told refl
    ∙ ap (address_of_writer (map graph_view graphs) codes) (sym c.in-Instruction.is)

pub returns-in_ok-first-in-Instruction : goal.returns-in_ok-first-in-Instruction
returns-in_ok-first-in-Instruction c =
    let graphs = c.args.self.now.graphs.now in
    let codes = map function_view c.args.self.now.code.now in
    let f = c.in-Instruction.function in
    let block = c.in-Instruction.block in
    let n = c.in_ok-first-in-Instruction.first in
    let told = c.in_ok-first-in-Instruction.ensures ∙ firsts_there graphs _ f block c.requires in
    let number = number_sum c.number_of.result c.saturating_add.result n c.in-Instruction.index c.number_of.ensures c.saturating_add.ensures in
    c.writing.ensures
    ∙ some_writes (slice_get (map graph_view graphs) f) block c.in-Instruction.index (λ (k : ℕ). option_and_then (λ (d : FunctionCode). slice_get d.writers k) (slice_get codes f)) (Some n) n c.number_of.result told refl number
    ∙ ap (address_of_writer (map graph_view graphs) codes) (sym c.in-Instruction.is)
