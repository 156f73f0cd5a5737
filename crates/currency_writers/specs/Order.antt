-- The order of what writes names, and of lists of numbers.
use Rattle.std.specs.Prelude.{◌≡◌, ◌⊎◌, ◌<◌, ℕ, List, [], ◌∷◌, ⊤}
use Rattle.currency_writers.specs.declared.writers.Writer as declared-writer
use Rattle.currency_writers.specs.declared.writers.Writer.TheVariants as writer

-- A list of numbers is no later than another: at the first place where they differ it has the lesser number, or it ends
-- before.
abbrev pub IsNoLater : List ℕ → List ℕ → Type 0
IsNoLater [] ys = ⊤
IsNoLater (x ∷ xs) [] = ⊥
IsNoLater (x ∷ xs) (y ∷ ys) = (x < y) ⊎ ((x ≡ y) × IsNoLater xs ys)

-- The numbers by which writers are in order: the bindings of parameters come first, by their numbers, and then
-- instructions, by their blocks and how many stand before them.
abbrev pub rank_of : declared-writer.Writer → List ℕ
rank_of (writer.Binding f k) = 0 ∷ k ∷ []
rank_of (writer.Instruction f n k) = 1 ∷ n ∷ k ∷ []
