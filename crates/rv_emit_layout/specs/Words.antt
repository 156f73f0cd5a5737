-- How many words the code of functions has at most.
use Rattle.std.specs.Prelude.{ℕ, ◌+◌, ◌*◌, List, length}
use Rattle.graph_core.specs.Graphs.{Graph}
use Rattle.graph_core.specs.Validity.{total}
use Rattle.rv_emit_words.specs.Words.{words_in}
use Rattle.rv_emit_sequence.specs.Words.{most_words_of_blocks}
use Rattle.rv_emit_layout.specs.declared.laying.Laid.{Laid}

-- its blocks, its beginning and its end
abbrev pub most_words_of_graph : Graph → ℕ
most_words_of_graph g = most_words_of_blocks g.blocks + (46 + 3 * length g.parameters)

-- all functions of a unit
abbrev pub most_words_of_graphs : List Graph → ℕ
most_words_of_graphs graphs = total most_words_of_graph graphs

-- functions that are laid out, as far as jumps and calls have one word
abbrev pub most_laid_words : List Laid → ℕ
most_laid_words all = total (λ (one : Laid). words_in one.sequence.pieces.items) all
