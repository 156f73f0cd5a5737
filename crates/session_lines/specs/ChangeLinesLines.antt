-- The lines of the changes of a log.
use Rattle.std.specs.Prelude.{ℕ, ◌+◌, min, List, [], ◌∷◌, ◌++◌, map, get_or}
use Rattle.c_tree.specs.Programs.{AutomaticTree, LiteralTree, ProgramTree, StaticTree}
use Rattle.debug_records.specs.Change.{letters}
use Rattle.graph_core.specs.Graphs.{Logged}
use Rattle.line_form.specs.Changes.{change_line}

-- the names of a program's variables, by their numbers: of the named static ones, of literals, which have none, and of
-- the automatic ones
abbrev pub variable_names : ProgramTree → List (List ℕ)
variable_names p =
    map (λ (v : StaticTree). v.name) p.statics
    ++ (map (λ (l : LiteralTree). []) p.literals ++ map (λ (v : AutomaticTree). v.name) p.automatics)

-- the name of the variable of this number; no letters where there is none
abbrev pub variable_name : ProgramTree → ℕ → List ℕ
variable_name p number = get_or (variable_names p) number []

-- the number behind a number, as far as numbers of 32 bits go
abbrev pub next_number : ℕ → ℕ
next_number number = min (number + 1) 4294967295

-- the line of a change, with its number, its pass, what that did, the name of the variable, and the place
abbrev pub line_of : ProgramTree → (number : ℕ) → Logged → List ℕ
line_of p number change =
    change_line number (letters change.pass) change.kind (variable_name p change.variable) change.place

-- THE LINES OF A LOG: one for each change, in order, of which the first has this number
abbrev pub lines_of : ProgramTree → (first : ℕ) → List Logged → List (List ℕ)
lines_of p first [] = []
lines_of p first (change ∷ more) = line_of p first change ∷ lines_of p (next_number first) more
