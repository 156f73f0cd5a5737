-- Where the code of functions lies in that of their unit, and whose its words are.
use Rattle.std.specs.Prelude.{◌≡◌, ◌≢◌, ℕ, ◌<◌, ◌≤◌, Some, length, slice_get, slice_index}
use Rattle.graph_core.specs.Graphs.{Graph, UnitForm}
use Rattle.rv_emit_tables.specs.Emitted.{EmittedForm, FunctionCode, address_of_word}

-- The code of a function lies in that of its unit: it has words, and they are among all.
pub record IsLying (e : EmittedForm) (c : FunctionCode) : Type 0 where
  pub from : ℕ
  pub behind : ℕ
  pub begins : c.first ≡ address_of_word from
  pub ends : c.end ≡ address_of_word behind
  pub some : from < behind
  pub within : behind ≤ length e.code

-- A word, by its index, is one of the code of a function.
pub record IsWordOf (e : EmittedForm) (index : ℕ) : Type 0 where
  pub function : ℕ
  pub code : FunctionCode
  pub is : slice_get e.functions function ≡ Some code
  pub low : code.first ≤ address_of_word index
  pub high : address_of_word index < code.end

-- THE CODE OF FUNCTIONS LIES IN THEIR ORDER: each within the code of the unit and behind those before it, and its first
-- word belongs to the place at which the function begins; a word that belongs to a place is one of a function.
pub record LieInOrder (u : UnitForm) (e : EmittedForm) : Type 0 where
  pub lying : (f : ℕ) (c : FunctionCode) → slice_get e.functions f ≡ Some c → IsLying e c
  pub order : (f g : ℕ) (c d : FunctionCode) → f < g → slice_get e.functions f ≡ Some c
      → slice_get e.functions g ≡ Some d → c.end ≤ d.first
  pub entries : (f i : ℕ) (g : Graph) (c : FunctionCode) → slice_get u.graphs f ≡ Some g
      → slice_get e.functions f ≡ Some c → c.first ≡ address_of_word i → slice_index e.owners i ≡ g.entry
  pub outside : (i : ℕ) → slice_index e.owners i ≢ 0 → IsWordOf e i
