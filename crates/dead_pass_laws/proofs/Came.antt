-- What one activation of a function has come by: a path of the graph before, true to its values, and names after that are those before but where they lag.
use Rattle.std.proofs.Common.{◌≡◌, ℕ, ◌⊎◌, inl, inr, true, false, Some, List, [], ◌∷◌, length, refl, sym, ap, ◌∙◌, subst}
use Rattle.std.specs.Prelude.{slice_get}
use Rattle.std.proofs.lemmas.Bool.{cases_Bool}
use Rattle.graph_core.specs.declared.value.Value.{Value}
use Rattle.graph_core.specs.Graphs.{Instruction, Move, Operate, Truncate, End, Block, Graph, StaticObject, Logged, UnitForm}
use Rattle.graph_core.specs.Uses.{target_of, targets_of}
use Rattle.graph_core.specs.Paths.{History, Among, stays, Path, path, writes}
use Rattle.graph_core.specs.Points.{Behind, ReadsNext}
use Rattle.graph_core.specs.Histories.{name_by, values_behind}
use Rattle.graph_core.specs.Validity.{AreAllDifferent, IsGraph, markers_of_blocks}
use Rattle.graph_core.specs.Values.{operate, truncate}
use Rattle.graph_core.specs.Runs.{value}
use Rattle.graph_core.specs.WellMarked.{IsVariable, WasTaken, IsWellMarked}
use Rattle.dead_pass_rule.specs.Idle.{is_computed_next, Goes}
use Rattle.dead_pass_rule.specs.Removing.{IsReduced}
use Rattle.dead_pass_notes.specs.Said.{IsDropped, SaysWhatItShall}
use Rattle.dead_pass_writes.specs.Removals.{IsRemoval}
use Rattle.dead_pass_laws.proofs.Lags.{Lags, lags_behind, lags_on, lags_first, lags_read}
use Rattle.dead_pass_laws.proofs.Points.{IsAt, path_at}
use Rattle.dead_pass_laws.proofs.Values.{name_kept, name_taken, target_written, unwritten_other}
pub use Rattle.graph_core.proofs.Among.{path_goes, path_passes}

-- a graph with other blocks
abbrev pub reduced_graph : Graph → List Block → Graph
reduced_graph g blocks = record g { blocks = blocks }

-- A change of a log removed an assignment of a variable in a place.
abbrev pub HasRemoval : (log : List Logged) (p variable : ℕ) → Type 0
HasRemoval log p variable = (number : ℕ) × IsRemoval log p variable number

-- What is known of a function from which dead assignments were removed: it was valid and well marked, it has these blocks now, its notes say what they shall, and of each assignment that went
-- the log tells, whether it went before or goes now.
pub record IsTaken (u : UnitForm) (log : List Logged) (g : Graph) (blocks : List Block) : Type 0 where
  pub valid : IsGraph u g
  pub marked : IsWellMarked u g
  pub different : AreAllDifferent (markers_of_blocks g.blocks)
  pub reduced : IsReduced u.assignments g (reduced_graph g blocks)
  pub said : SaysWhatItShall u.assignments log g (reduced_graph g blocks)
  pub older : (p variable : ℕ) → WasTaken u.log p variable → HasRemoval log p variable
  pub newer : (p x variable : ℕ) → IsVariable g x variable → IsDropped u.assignments g p x → HasRemoval log p variable

-- A value is what an instruction computes of names and constants, if it is a move, an operation or a truncation.
abbrev pub IsValueOf : List StaticObject → (names : ℕ → Value) → Instruction → Value → Type 0
IsValueOf statics names (Move x a) w = w ≡ value statics names a
IsValueOf statics names (Operate x o a b) w = w ≡ operate o (value statics names a) (value statics names b)
IsValueOf statics names (Truncate x t a) w = w ≡ truncate t (value statics names a)
IsValueOf statics names _ w = Unit {0}

-- A history is true to the values: each such instruction wrote what it computes of what names held then.
abbrev pub AreTrue : List StaticObject → (first : ℕ → Value) → History → Type 0
AreTrue statics first [] = Unit {0}
AreTrue statics first (i ∷ h) = IsValueOf statics (values_behind first h) i.instruction i.wrote × AreTrue statics first h

-- An activation came to a point by a path of the graph before, with these names there, and with others in the graph after.
pub record Came (u : UnitForm) (log : List Logged) (g : Graph) (blocks : List Block) (names others : ℕ → Value) (n : ℕ) (rest : List Instruction) (end : End) : Type 0 where
  pub taken : IsTaken u log g blocks
  pub first : ℕ → Value
  pub history : History
  pub along : Path g history n rest end
  pub holds : names ≡ values_behind first history
  pub are_true : AreTrue u.statics first history
  pub agree : (x : ℕ) → Lags u.assignments g x history n rest end ⊎ (others x ≡ names x)

module _ (u : UnitForm) (log : List Logged) (g : Graph) (blocks : List Block) where
  module _ (names others : ℕ → Value) (n : ℕ) (i : Instruction) (rest : List Instruction) (e : End) (w : Value) where
    -- A name that is not written agrees or lags as before.
    agree_kept : (x : ℕ) (held : ℕ → Value) → (came : Came u log g blocks names others n (i ∷ rest) e) → writes x i ≡ false → held x ≡ others x
        → Lags u.assignments g x (record { block = n; left = length rest; instruction = i; wrote = w } ∷ came.history) n rest e ⊎ (held x ≡ name_by (target_of i) w names x)
    agree_kept x held came other same = elim (came.agree x) [
      | inl lags ↦ inl (lags_behind g x came.history n i rest e w other lags)
      | inr one ↦ inr (same ∙ one ∙ sym (name_kept (target_of i) w names x (unwritten_other x i other)))
    ]

    -- Both pass an instruction, and write the same, if anything.
    pub came_past : IsValueOf u.statics names i w → Came u log g blocks names others n (i ∷ rest) e → Came u log g blocks (name_by (target_of i) w names) (name_by (target_of i) w others) n rest e
    came_past is came = record {
      taken = came.taken;
      first = came.first;
      history = record { block = n; left = length rest; instruction = i; wrote = w } ∷ came.history;
      along = path_passes g came.history n i rest e w came.along;
      holds = ap (name_by (target_of i) w) came.holds;
      are_true = (subst (λ ns. IsValueOf u.statics ns i w) came.holds is, came.are_true);
      agree = λ x. elim (cases_Bool (writes x i)) [
        | inl it ↦ inr (name_taken (target_of i) w others x (target_written x i it) ∙ sym (name_taken (target_of i) w names x (target_written x i it)))
        | inr other ↦ agree_kept x (name_by (target_of i) w others) came other (name_kept (target_of i) w others x (unwritten_other x i other))
      ];
    }

    -- An instruction whose write goes: the name lags.
    pub came_over : IsValueOf u.statics names i w → Goes u.assignments g n (i ∷ rest) e → Came u log g blocks names others n (i ∷ rest) e → Came u log g blocks (name_by (target_of i) w names) others n rest e
    came_over is goes_there came = record {
      taken = came.taken;
      first = came.first;
      history = record { block = n; left = length rest; instruction = i; wrote = w } ∷ came.history;
      along = path_passes g came.history n i rest e w came.along;
      holds = ap (name_by (target_of i) w) came.holds;
      are_true = (subst (λ ns. IsValueOf u.statics ns i w) came.holds is, came.are_true);
      agree = λ x. elim (cases_Bool (writes x i)) [
        | inl it ↦ inl (lags_first g x came.history n i rest e w behind (target_written x i it) goes_there)
        | inr other ↦ agree_kept x others came other refl
      ];
    }
      where
        at : IsAt g came.history n (i ∷ rest) e
        at = path_at u g came.taken.valid came.taken.marked came.along

        behind : Behind g i n rest e
        behind = record { block = at.block; before = at.before; is = at.is; instructions = at.instructions; ends = at.ends }

  module _ (names others : ℕ → Value) (n : ℕ) where
    -- Control goes to a block.
    pub came_on : (l : ℕ) (e : End) (b : Block) → Among l (targets_of e) → slice_get g.blocks l ≡ Some b → Came u log g blocks names others n [] e → Came u log g blocks names others l b.instructions b.end
    came_on l e b to at came = record {
      taken = came.taken;
      first = came.first;
      history = came.history;
      along = path_goes g came.history n e l b to at came.along;
      holds = came.holds;
      are_true = came.are_true;
      agree = λ x. elim (came.agree x) [
        | inl lags ↦ inl (lags_on g x came.history n l e b to at lags)
        | inr one ↦ inr one
      ];
    }

    -- What comes next and is no computation that goes reads names that agree.
    pub reads_agree : (rest : List Instruction) (e : End) → ((is_computed_next rest ≡ true) → Goes u.assignments g n rest e → ⊥) → Came u log g blocks names others n rest e → (x : ℕ) → ReadsNext x rest e → others x ≡ names x
    reads_agree rest e stay came x reads = elim (came.agree x) [
      | inl lags ↦ (let both = lags_read g x came.history n rest e lags reads in
          absurd (stay both.0 (record { reached = record { history = came.history; path = came.along }; idle = both.1 })))
      | inr one ↦ one
    ]

  -- A function begins.
  pub came_first : (names : ℕ → Value) (b : Block) → IsTaken u log g blocks → slice_get g.blocks 0 ≡ Some b → Came u log g blocks names names 0 b.instructions b.end
  came_first names b taken at = record {
    taken = taken;
    first = names;
    history = [];
    along = path b at stays;
    holds = refl;
    are_true = tt;
    agree = λ x. inr refl;
  }
