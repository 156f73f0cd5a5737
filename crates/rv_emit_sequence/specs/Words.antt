-- How many words the code of blocks has at most.
use Rattle.std.specs.Prelude.{ℕ, ◌+◌, List}
use Rattle.graph_core.specs.Graphs.{Block}
use Rattle.graph_core.specs.Validity.{total}
use Rattle.rv_emit_words.specs.InstructionWords.{most_words_of}

-- its instructions, and its end
abbrev pub most_words_of_block : Block → ℕ
most_words_of_block b = total most_words_of b.instructions + 9

-- all of them
abbrev pub most_words_of_blocks : List Block → ℕ
most_words_of_blocks blocks = total most_words_of_block blocks
