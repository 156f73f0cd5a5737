-- How many words bring what is read into a register.
use Rattle.std.specs.Prelude.{ℕ}
use Rattle.graph_homes.specs.declared.home.Home.{Home}
use Rattle.graph_homes.specs.declared.home.Home.TheVariants.{Register, Slot}
use Rattle.rv_emit_storage.specs.declared.storage.Source.{Source}
use Rattle.rv_emit_storage.specs.declared.storage.Source.TheVariants.{Home as OfHome, Word}

-- A slot that lies far from sp takes three words, and what a register holds none.
abbrev pub most_words_of_home : Home → ℕ
most_words_of_home (Register r) = 0
most_words_of_home (Slot k) = 3

-- how many words bring what is read into a register, at most
abbrev pub most_words_of_source : Source → ℕ
most_words_of_source (OfHome home) = most_words_of_home home
most_words_of_source (Word w) = 2

-- How many words bring what is read into one register.
abbrev pub most_words_to_bring : Source → ℕ
most_words_to_bring (OfHome (Register r)) = 1
most_words_to_bring (OfHome (Slot k)) = 3
most_words_to_bring (Word w) = 2
