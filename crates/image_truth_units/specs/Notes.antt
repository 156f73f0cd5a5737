-- How the places of a graph write, note, call and read, where nothing was removed.
use Rattle.std.specs.Prelude.{◌≡◌, ℕ, true, false, Some, List, [], ◌∷◌, map, slice_get}
use Rattle.places.specs.Flow.{assigns}
use Rattle.graph_core.specs.Graphs.{Name, Of, Scalar, NoteValue, Is, Instruction, Marker, Note, End, Graph, UnitForm}
use Rattle.graph_core.specs.Uses.{reads_of, reads_of_end}
use Rattle.graph_core.specs.Paths.{History, Among, Path, place_of, is_call, written, unnoted, owed}
use Rattle.graph_core.specs.Validity.{AreAllDifferent}
use Rattle.graph_core.specs.WellMarked.{InPlace, WrittenIn, IsVariable, IsLocal}

-- No variable has two scalars. A scalar is written and noted only in places that assign its variable. Each note is of
-- the scalar itself, behind a write of it in its place; no call and no marker stands between the two, and each path
-- from the marker of a place that assigns the variable notes the scalar before the next one. A temporary that code
-- motion did not make is read only behind a write of it in the same place.
pub record KeepsNotes (u : UnitForm) (g : Graph) : Type 0 where
  pub variables : AreAllDifferent (map (λ (s : Scalar). s.variable) g.scalars)
  pub written_where : (p x variable : ℕ) → IsVariable g x variable → WrittenIn g p x
      → assigns u.assignments p variable ≡ true
  pub noted_where : (p x variable : ℕ) (v : NoteValue) → IsVariable g x variable → InPlace g p (Note x v)
      → assigns u.assignments p variable ≡ true
  pub noted : (h : History) (n : ℕ) (p x variable : ℕ) (rest : List Instruction) (e : End) → IsVariable g x variable
      → Path g h n (Marker p ∷ rest) e → owed (λ q. assigns u.assignments q variable) x h ≡ false
  pub right : (h : History) (n : ℕ) (p x variable : ℕ) (v : NoteValue) (rest : List Instruction) (e : End)
      → IsVariable g x variable → Path g h n (Note x v ∷ rest) e → place_of h ≡ Some p
      → (v ≡ Is (Of (Name x))) × WrittenIn g p x
  pub behind_write : (h : History) (n : ℕ) (x : ℕ) (rest : List Instruction) (e : End)
      → Path g h n (Note x (Is (Of (Name x))) ∷ rest) e → written g x h ≡ true
  pub calls : (h : History) (n : ℕ) (i : Instruction) (x variable : ℕ) (rest : List Instruction) (e : End)
      → IsVariable g x variable → Path g h n (i ∷ rest) e → is_call i ≡ true → unnoted x h ≡ false
  pub local : (h : History) (n : ℕ) (i : Instruction) (t : ℕ) (rest : List Instruction) (e : End) → IsLocal g t
      → Path g h n (i ∷ rest) e → Among t (reads_of i) → written g t h ≡ true
  pub local_at_end : (h : History) (n : ℕ) (t : ℕ) (e : End) → IsLocal g t → Path g h n [] e → Among t (reads_of_end e)
      → written g t h ≡ true

-- Each graph of a unit keeps them.
abbrev pub KeepNotes : UnitForm → Type 0
KeepNotes u = (k : ℕ) (g : Graph) → slice_get u.graphs k ≡ Some g → KeepsNotes u g
