-- Back from a note along the path that came to it, within its place: what is so of names at each point of it.
use Rattle.std.proofs.Common.{◌≡◌, ℕ, inl, inr, true, false, Some, List, [], ◌∷◌, length, refl, sym, ap, ◌∙◌, subst}
use Rattle.std.specs.Prelude.{slice_get}
use Rattle.std.proofs.lemmas.Bool.{cases_Bool}
use Rattle.std.proofs.lemmas.Option.{same_Some}
use Rattle.graph_core.specs.declared.value.Value.{Value}
use Rattle.graph_core.specs.Graphs.{Instruction, End, Block, Graph, Logged, UnitForm}
use Rattle.graph_core.specs.Histories.{values_behind}
use Rattle.graph_core.specs.Paths.{Passed, History, Among, Path, writes, is_marker}
use Rattle.graph_core.specs.Points.{Behind}
use Rattle.graph_core.specs.Uses.{target_of, targets_of}
use Rattle.dead_pass_rule.specs.Idle.{Goes}
use Rattle.dead_pass_notes.specs.Between.{IsApart, ComesTo, there, passes, leads, IsWrittenBetween, written, passes as still, leads as on}
use Rattle.dead_pass_notes.specs.Stale.{Went, IsStale, went, before as stale_before, ComesStale}
use Rattle.dead_pass_laws.proofs.Came.{AreTrue, IsTaken}
use Rattle.dead_pass_laws.proofs.Decided.{decided}
use Rattle.dead_pass_laws.proofs.Loops.{Leads, arrived, past, into, circles_past, no_circle}
use Rattle.dead_pass_laws.proofs.Points.{IsAt, path_at}
use Rattle.dead_pass_laws.proofs.Values.{name_kept, unwritten_other}

module _ (u : UnitForm) (log : List Logged) (g : Graph) (blocks : List Block) (taken : IsTaken u log g blocks) (k : ℕ) (note : List Instruction) (last : End) (first others : ℕ → Value) (whole : History) (arrives : Path g whole k note last) where
  -- What is so at a point of the path to the note from which the way goes on to it within its place. It is the way, and without a write between that stays a name that is stale here is
  -- stale at the note, and one that is not stale there has here the value that it has after.
  pub record From (h : History) (n : ℕ) (rest : List Instruction) (e : End) : Type 0 where
    pub along : Path g h n rest e
    pub comes : ComesTo g k note n rest e
    pub way : Leads g k note last n rest e
    pub are_true : AreTrue u.statics first h
    pub stale : (y : ℕ) → IsStale u.assignments g y h → (IsWrittenBetween u.assignments g k note y n rest e → ⊥) → IsStale u.assignments g y whole
    pub holds : (y : ℕ) → (ComesStale u.assignments g y k note last → ⊥) → (IsWrittenBetween u.assignments g k note y n rest e → ⊥) → values_behind first h y ≡ others y

  -- So it is at the note.
  pub from_note : AreTrue u.statics first whole → ((y : ℕ) → (ComesStale u.assignments g y k note last → ⊥) → values_behind first whole y ≡ others y) → From whole k note last
  from_note are_true fresh = record {
    along = arrives;
    comes = there refl refl;
    way = arrived refl refl refl;
    are_true = are_true;
    stale = λ y s none. s;
    holds = λ y not_stale none. fresh y not_stale;
  }

  -- The note is another point than one from which the way goes on.
  apart : (h : History) (n : ℕ) (i : Instruction) (rest : List Instruction) (e : End) → Path g h n (i ∷ rest) e → is_marker i ≡ false → Leads g k note last n rest e → IsApart g k note n (i ∷ rest)
  apart h n i rest e along plain way number same = no_circle g taken.marked.cycles n (i ∷ rest) e (circles_past plain back)
    where
      here : IsAt g h n (i ∷ rest) e
      here = path_at u g taken.valid taken.marked along

      at_note : IsAt g whole k note last
      at_note = path_at u g taken.valid taken.marked arrives

      one : here.block ≡ at_note.block
      one = same_Some here.block at_note.block (sym here.is ∙ ap (slice_get g.blocks) number ∙ at_note.is)

      ends : e ≡ last
      ends = here.ends ∙ ap (λ (b : Block). b.end) one ∙ sym at_note.ends

      back : Leads g n (i ∷ rest) e n rest e
      back = subst (λ f. Leads g n (i ∷ rest) f n rest e) (sym ends) (subst (λ l. Leads g n l last n rest e) (sym same) (subst (λ m. Leads g m note last n rest e) (sym number) way))

  module _ (h : History) (n : ℕ) (i : Instruction) (rest : List Instruction) (e : End) (w : Value) (along : Path g h n (i ∷ rest) e) (plain : is_marker i ≡ false) where
    -- what was passed there
    abbrev passed : Passed
    passed = record { block = n; left = length rest; instruction = i; wrote = w }

    -- where it stands
    here : IsAt g h n (i ∷ rest) e
    here = path_at u g taken.valid taken.marked along

    -- the same, as what is behind it
    behind : Behind g i n rest e
    behind = record { block = here.block; before = here.before; is = here.is; instructions = here.instructions; ends = here.ends }

    -- what goes went
    pub it_went : Goes u.assignments g n (i ∷ rest) e → Went u.assignments g passed
    it_went goes = record { rest = rest; end = e; behind = behind; left = refl; goes = goes }

    module _ (from : From (passed ∷ h) n rest e) where
      -- it is no note to which the way leads on
      away : IsApart g k note n (i ∷ rest)
      away = apart h n i rest e along plain from.way

      -- a write of a name that stays lies between here and the note
      abbrev IsBetween : ℕ → Type 0
      IsBetween y = IsWrittenBetween u.assignments g k note y n (i ∷ rest) e

      -- where none lies between here and the note none lies between what is behind and the note
      later : (y : ℕ) → (IsBetween y → ⊥) → IsWrittenBetween u.assignments g k note y n rest e → ⊥
      later y none b = none (still away plain b)

      -- what writes a name without a write between that stays makes it stale at the note
      stale_there : (y : ℕ) → writes y i ≡ true → (IsBetween y → ⊥) → IsStale u.assignments g y whole
      stale_there y it none = elim (decided u log g blocks taken n i rest e behind) [
        | inl goes ↦ from.stale y (went it (it_went goes)) (later y none)
        | inr stays ↦ absurd (none (written away it stays from.comes))
      ]

      -- So it is before an instruction that is no marker,
      pub from_before : From h n (i ∷ rest) e
      from_before = record {
        along = along;
        comes = passes away plain from.comes;
        way = past plain from.way;
        are_true = from.are_true.1;
        stale = λ y s none. elim (cases_Bool (writes y i)) [
          | inl it ↦ stale_there y it none
          | inr other ↦ from.stale y (stale_before other s) (later y none)
        ];
        holds = λ y not_stale none. elim (cases_Bool (writes y i)) [
          | inl it ↦ absurd (not_stale (record { history = whole; path = arrives; stale = stale_there y it none }))
          | inr other ↦ sym (name_kept (target_of i) w (values_behind first h) y (unwritten_other y i other)) ∙ from.holds y not_stale (later y none)
        ];
      }

  -- and at the end of a block.
  pub from_end : (h : History) (n l : ℕ) (e : End) (b : Block) → Path g h n [] e → Among l (targets_of e) → slice_get g.blocks l ≡ Some b → From h l b.instructions b.end → From h n [] e
  from_end h n l e b along to at from = record {
    along = along;
    comes = leads b to at from.comes;
    way = into b to at from.way;
    are_true = from.are_true;
    stale = λ y s none. from.stale y s (λ c. none (on b to at c));
    holds = λ y not_stale none. from.holds y not_stale (λ c. none (on b to at c));
  }
