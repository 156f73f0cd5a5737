-- How many words instructions take at most.
use Rattle.std.specs.Prelude.{ℕ, ◌+◌, ◌*◌, length}
use Rattle.graph_core.specs.Graphs.{Instruction, Marker, Note, Call}

-- A marker has a word of its own where the place before it has none, and a note none. A call has words for each
-- argument, and nothing else has more than 13.
abbrev pub most_words_of : Instruction → ℕ
most_words_of (Marker p) = 1
most_words_of (Note x v) = 0
most_words_of (Call x f all) = 5 + 3 * length all
most_words_of _ = 13
