-- Ends of blocks that go on to a block.
use Rattle.graph_core.specs.Graphs.{End, Jump, Branch, Return}
use Rattle.rv_emit_steps.specs.Frames.{IsWord}

-- An end is no return, and its constants are words.
abbrev pub IsGoing : End → Type 0
IsGoing (Jump to) = Unit {0}
IsGoing (Branch k x y if_true if_false) = IsWord x × IsWord y
IsGoing (Return v) = ⊥
