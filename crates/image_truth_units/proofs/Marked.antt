-- What is left to be shown of a unit that is built of its program for it to be well marked: how its places write, note and call.
use Rattle.std.proofs.Common.{◌≡◌, ◌≢◌, ℕ, ◌≤◌, inl, true, false, Option, Some, List, [], ◌∷◌, map, slice_get}
use Rattle.places.specs.Flow.{assigns}
use Rattle.graph_core.specs.Graphs.{Operand, Name, Of, Scalar, NoteValue, Is, Instruction, Marker, Note, Zero, CopyWords, End, Return, Graph, UnitForm}
use Rattle.graph_core.specs.Uses.{reads_of, reads_of_end}
use Rattle.graph_core.specs.Paths.{History, Among, Path, place_of, is_call, called, written, unnoted, owed}
use Rattle.graph_core.specs.Bounds.{most_words}
use Rattle.graph_core.specs.Validity.{AreAllDifferent, IsValid}
use Rattle.graph_core.specs.WellMarked.{InPlace, WrittenIn, IsVariable, IsLocal, IsWellMarked, AreWellMarked}
use Rattle.graph_build_laws.specs.Following.{FollowsFlow, FollowFlow}

-- Places of a graph write, note and call as they should, where nothing was removed. (These are the parts of `IsWellMarked` besides `FollowsFlow`.)
pub record KeepsPlaces (u : UnitForm) (g : Graph) : Type 0 where
  pub entry_calls : (i : Instruction) → InPlace g g.entry i → is_call i ≡ false
  pub leaves : (h : History) (n : ℕ) (a : Option Operand) → Path g h n [] (Return a) → place_of h ≢ Some g.entry
  pub zeroes : (p object words : ℕ) → InPlace g p (Zero object words) → words ≤ most_words
  pub copies : (p object bytes words : ℕ) → InPlace g p (CopyWords object bytes words) → words ≤ most_words
  pub zeroes_first : (h : History) (n : ℕ) (object words : ℕ) (rest : List Instruction) (e : End) → Path g h n (Zero object words ∷ rest) e → called h ≡ false
  pub copies_first : (h : History) (n : ℕ) (object bytes words : ℕ) (rest : List Instruction) (e : End) → Path g h n (CopyWords object bytes words ∷ rest) e → called h ≡ false
  pub variables : AreAllDifferent (map (λ (s : Scalar). s.variable) g.scalars)
  pub written_where : (p x variable : ℕ) → IsVariable g x variable → WrittenIn g p x → assigns u.assignments p variable ≡ true
  pub noted_where : (p x variable : ℕ) (v : NoteValue) → IsVariable g x variable → InPlace g p (Note x v) → assigns u.assignments p variable ≡ true
  pub noted : (h : History) (n : ℕ) (p x variable : ℕ) (rest : List Instruction) (e : End) → IsVariable g x variable → Path g h n (Marker p ∷ rest) e → owed (λ q. assigns u.assignments q variable) x h ≡ false
  pub right : (h : History) (n : ℕ) (p x variable : ℕ) (v : NoteValue) (rest : List Instruction) (e : End) → IsVariable g x variable → Path g h n (Note x v ∷ rest) e → place_of h ≡ Some p → (v ≡ Is (Of (Name x))) × WrittenIn g p x
  pub behind_write : (h : History) (n : ℕ) (x : ℕ) (rest : List Instruction) (e : End) → Path g h n (Note x (Is (Of (Name x))) ∷ rest) e → written g x h ≡ true
  pub calls : (h : History) (n : ℕ) (i : Instruction) (x variable : ℕ) (rest : List Instruction) (e : End) → IsVariable g x variable → Path g h n (i ∷ rest) e → is_call i ≡ true → unnoted x h ≡ false
  pub local : (h : History) (n : ℕ) (i : Instruction) (t : ℕ) (rest : List Instruction) (e : End) → IsLocal g t → Path g h n (i ∷ rest) e → Among t (reads_of i) → written g t h ≡ true
  pub local_at_end : (h : History) (n : ℕ) (t : ℕ) (e : End) → IsLocal g t → Path g h n [] e → Among t (reads_of_end e) → written g t h ≡ true

-- Each graph of a unit keeps them.
abbrev pub KeepPlaces : UnitForm → Type 0
KeepPlaces u = (k : ℕ) (g : Graph) → slice_get u.graphs k ≡ Some g → KeepsPlaces u g

-- A valid unit whose markers follow the flow, and whose places keep this, is well marked, whatever its log is.
well_marked : (u : UnitForm) (g : Graph) → FollowsFlow u g → KeepsPlaces u g → IsWellMarked u g
well_marked u g follows keeps = record {
  begins = follows.begins;
  first = follows.first;
  flows = follows.flows;
  cycles = follows.cycles;
  entry_calls = keeps.entry_calls;
  leaves = keeps.leaves;
  zeroes = keeps.zeroes;
  copies = keeps.copies;
  zeroes_first = keeps.zeroes_first;
  copies_first = keeps.copies_first;
  variables = keeps.variables;
  written_where = λ p x variable is there. inl (keeps.written_where p x variable is there);
  noted_where = λ p x variable v is there. inl (keeps.noted_where p x variable v is there);
  noted = keeps.noted;
  right = λ h n p x variable v rest e of way there. inl (keeps.right h n p x variable v rest e of way there);
  behind_write = keeps.behind_write;
  calls = keeps.calls;
  local = λ h n i t rest e is way there. inl (keeps.local h n i t rest e is way there);
  local_at_end = keeps.local_at_end;
}

pub are_well_marked : (u : UnitForm) → IsValid u → FollowFlow u → KeepPlaces u → AreWellMarked u
are_well_marked u valid follow keep = record { valid = valid; graphs = λ f g is. well_marked u g (follow f g is) (keep f g is) }
