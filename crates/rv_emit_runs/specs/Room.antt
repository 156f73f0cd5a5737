-- That the parts of the code of a unit take words of their own.
use Rattle.std.specs.Prelude.{◌≡◌, ◌≢◌, ℕ, ◌+◌, ◌-◌, ◌<◌, ◌≤◌, ◌⊎◌, Some, length, slice_get}
use Rattle.memory_map.specs.Maps.{stub_words}
use Rattle.graph_core.specs.Graphs.{Block}
use Rattle.graph_core_weights.specs.Costs.{sum_below}
use Rattle.graph_homes.specs.Homed.{HomedForm}
use Rattle.rv_emit_tables.specs.Emitted.{EmittedForm}
use Rattle.rv_emit_code.specs.Leaving.{leaving_code}
use Rattle.rv_emit_runs.specs.Laid.{Arrangement, code_of, IsCode}

-- how many words a function has: those of its beginning, those of its blocks, which are so many, and those of its end
abbrev pub words_of_function : HomedForm → Arrangement → (words : (function block : ℕ) → ℕ) → (function : ℕ) → ℕ
words_of_function h a words f =
    (a.label f 0 - a.function f) + sum_below (words f) (length (code_of h a f).graph.blocks)
    + length (leaving_code (code_of h a f).saved (code_of h a f).size)

-- Each block of each function has so many words. With those that stand before all functions, and those with which
-- functions begin and end, these are no more than the words of the code: no two parts share a word.
pub record HasRoom (h : HomedForm) (e : EmittedForm) (code : IsCode h e) : Type 0 where
  pub words : (function block : ℕ) → ℕ
  pub blocks : (f : ℕ) (low : f < length h.unit.graphs) (l : ℕ) (b : Block)
      (there : slice_get (code_of h code.arrangement f).graph.blocks l ≡ Some b)
      → code.arrangement.label f ((code.functions f low).blocks l b there).next ≤ code.arrangement.label f l + words f l
  pub all : stub_words e.map + sum_below (words_of_function h code.arrangement words) (length h.unit.graphs)
      ≤ length e.code

-- No two parts of the code share a word: each block of each function has so many words, these lie between the beginning
-- and the end of the function, and those of no two blocks touch; each function lies behind the words that stand before
-- all of them, up to where its code ends, and no two functions touch.
pub record StandApart (h : HomedForm) (e : EmittedForm) (code : IsCode h e) : Type 0 where
  pub words : (function block : ℕ) → ℕ
  pub behind : (function : ℕ) → ℕ
  pub stub : stub_words e.map ≤ length e.code
  pub blocks : (f : ℕ) (low : f < length h.unit.graphs) (l : ℕ) (b : Block)
      (there : slice_get (code_of h code.arrangement f).graph.blocks l ≡ Some b)
      → code.arrangement.label f ((code.functions f low).blocks l b there).next ≤ code.arrangement.label f l + words f l
  pub begins : (f : ℕ) → f < length h.unit.graphs
      → (stub_words e.map ≤ code.arrangement.function f) × (code.arrangement.function f ≤ code.arrangement.label f 0)
  pub inside : (f l : ℕ) → f < length h.unit.graphs → l < length (code_of h code.arrangement f).graph.blocks
      → (code.arrangement.label f 0 ≤ code.arrangement.label f l)
      ×
      (code.arrangement.label f l + words f l
      ≤ code.arrangement.label f (length (code_of h code.arrangement f).graph.blocks))
  pub apart : (f i j : ℕ) → f < length h.unit.graphs → i < length (code_of h code.arrangement f).graph.blocks
      → j < length (code_of h code.arrangement f).graph.blocks → i ≢ j
      → (code.arrangement.label f i + words f i ≤ code.arrangement.label f j)
      ⊎ (code.arrangement.label f j + words f j ≤ code.arrangement.label f i)
  pub ends : (f : ℕ) → f < length h.unit.graphs
      → (code.arrangement.label f 0 ≤ code.arrangement.label f (length (code_of h code.arrangement f).graph.blocks))
      ×
      (code.arrangement.label f (length (code_of h code.arrangement f).graph.blocks)
      + length (leaving_code (code_of h code.arrangement f).saved (code_of h code.arrangement f).size)
      ≤ behind f)
  pub functions : (f g : ℕ) → f < length h.unit.graphs → g < length h.unit.graphs → f ≢ g
      → (behind f ≤ code.arrangement.function g) ⊎ (behind g ≤ code.arrangement.function f)
  pub all : (f : ℕ) → f < length h.unit.graphs → behind f ≤ length e.code
