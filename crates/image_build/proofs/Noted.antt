-- Recipes that notes on paths give are valid, and so is one that gives a scalar's value where values are shown.
use Rattle.std.proofs.Common.{◌≡◌, ℕ, ◌<◌, ◌≤◌, ◌⊎◌, inl, inr, ⊎_elim, refl, sym, ap, ◌∙◌, subst, arith, Bool, true, false, Option, Some, None, List, [], ◌∷◌, length, slice_get}
use Rattle.std.specs.Prelude.{◌==◌, if◌then◌else◌}
use Rattle.std.specs.List.{AllByRecursion}
use Rattle.std.specs.Option.{option_map_or}
use Rattle.std.proofs.lemmas.Bool.{cases_lt}
use Rattle.std.proofs.lemmas.Option.{none-some, same_Some}
use Rattle.graph_core.specs.declared.value.Value.TheVariants.{Odd}
use Rattle.graph_core.specs.Graphs.{Operand, Name, Constant, StaticAddress, Recipe, Of, Truncated, Operated, NoteValue, Is, Instruction, Marker, Note, Move, Operate, Truncate, Same, Address, Load, Store, Zero, CopyWords, Call, End, Graph, StaticObject, UnitForm}
use Rattle.graph_core.specs.Memory.{static_bytes}
use Rattle.graph_core.specs.Paths.{History, Way, stays, passes, goes, Path, path, note_by, last_note}
use Rattle.graph_core.specs.Runs.{Activation, static_address}
use Rattle.graph_core.specs.Validity.{IsOperand, AreOperandsOf, IsNoteValue, IsInstruction, IsBlock, IsGraph, depth_of}
use Rattle.graph_core.specs.Values.{is_odd, pointer_at}
use Rattle.graph_homes.specs.Homes.{HoldsOnAllPaths}
use Rattle.graph_homes.specs.Homed.{HomedForm, home_of}
use Rattle.home_assign.specs.Alike.{AreShown}
use Rattle.image_truth_units.proofs.Tables.{all_at}
use Rattle.base_laws.proofs.Numbers.{no_entry as clash}

-- ---- What is noted

module _ (u : UnitForm) (g : Graph) (valid : IsGraph u g) where
  -- the last note of each scalar is valid
  abbrev AreNoted : History → Type 0
  AreNoted h = (x : ℕ) (v : NoteValue) → last_note x h ≡ Some v → IsNoteValue u g v

  -- so it is behind an instruction more
  noted_by : (i : Instruction) → IsInstruction u g i → (x : ℕ) (before : Option NoteValue) → ((v : NoteValue) → before ≡ Some v → IsNoteValue u g v) → (v : NoteValue) → note_by x i before ≡ Some v → IsNoteValue u g v
  noted_by (Marker p) is x before all v noted = all v noted
  noted_by (Note y w) is x before all v noted = by_test (y == x) noted
    where
      by_test : (b : Bool) → (if b then Some w else before) ≡ Some v → IsNoteValue u g v
      by_test true same = subst (IsNoteValue u g) (same_Some w v same) is.1
      by_test false same = all v same
  noted_by (Move y a) is x before all v noted = all v noted
  noted_by (Operate y o a b) is x before all v noted = all v noted
  noted_by (Truncate y t a) is x before all v noted = all v noted
  noted_by (Same y a b) is x before all v noted = all v noted
  noted_by (Address y o) is x before all v noted = all v noted
  noted_by (Load y e l) is x before all v noted = all v noted
  noted_by (Store e l a) is x before all v noted = all v noted
  noted_by (Zero o k) is x before all v noted = all v noted
  noted_by (CopyWords o b k) is x before all v noted = all v noted
  noted_by (Call y f all_of) is x before all v noted = all v noted

  -- on a way what is left of a block is valid, and so are the notes that were passed
  way_noted : (all : List Instruction) (end : End) (h : History) (n : ℕ) (rest : List Instruction) (e : End) → AllByRecursion (IsInstruction u g) all → Way g 0 all end h n rest e → AllByRecursion (IsInstruction u g) rest × AreNoted h
  way_noted all end [] n rest e is stays = (is, λ x v noted. absurd (none-some v noted))
  way_noted all end (q ∷ h) n rest e is (passes {i = i} way w) =
      let before = way_noted all end h n (i ∷ rest) e is way in
      (before.0.1, λ x v noted. noted_by i before.0.0 x (last_note x h) (before.1 x) v noted)
  way_noted all end h n rest e is (goes {n = k} {e = before_end} way among b there) =
      let before = way_noted all end h k [] before_end is way in
      ((all_at (IsBlock u g) g.blocks n b valid.blocks there).instructions, before.1)

  -- The last note of a scalar on a path is valid.
  pub path_noted : (h : History) (n : ℕ) (rest : List Instruction) (e : End) → Path g h n rest e → (x : ℕ) (v : NoteValue) → last_note x h ≡ Some v → IsNoteValue u g v
  path_noted h n rest e (path b there way) = (way_noted b.instructions b.end h n rest e (all_at (IsBlock u g) g.blocks 0 b valid.blocks there).instructions way).1

-- ---- Tests

module _ (statics : List StaticObject) (g : Graph) where
  -- an operand names what there is, or not
  operand_test : (a : Operand) → IsOperand statics g a ⊎ (IsOperand statics g a → ⊥)
  operand_test (Name x) = ⊎_elim (λ (lt : x < g.name_count). inl lt) (λ (ge : g.name_count ≤ x). inr (λ lt. omega (arith, lt, ge))) (cases_lt x g.name_count)
  operand_test (Constant w) = inl tt
  operand_test (StaticAddress object offset) = ⊎_elim (λ (lt : object < length statics). inl lt) (λ (ge : length statics ≤ object). inr (λ lt. omega (arith, lt, ge))) (cases_lt object (length statics))

  -- so do those of a recipe
  recipe_test : (r : Recipe) → AreOperandsOf statics g r ⊎ (AreOperandsOf statics g r → ⊥)
  recipe_test (Of a) = operand_test a
  recipe_test (Truncated t r) = recipe_test r
  recipe_test (Operated o r s) = elim (recipe_test r) [
    | inl one ↦ elim (recipe_test s) [ inl two ↦ inl (one, two) | inr none ↦ inr (λ both. none both.1) ]
    | inr none ↦ inr (λ both. none both.0)
  ]

-- a recipe may be noted, or not
note_test : (u : UnitForm) (g : Graph) (r : Recipe) → IsNoteValue u g (Is r) ⊎ (IsNoteValue u g (Is r) → ⊥)
note_test u g r = elim (recipe_test u.statics g r) [
  | inl is ↦ ⊎_elim (λ (lt : depth_of r < 5). inl (is, omega (arith, lt))) (λ (ge : 5 ≤ depth_of r). inr (λ both. (let le = both.1 in omega (arith, le, ge)))) (cases_lt (depth_of r) 5)
  | inr none ↦ inr (λ both. none both.0)
]

-- ---- What is shown

-- nothing stands behind a list
nothing_behind : {A : Type 0} (all : List A) → slice_get all (length all) ≡ None
nothing_behind [] = refl
nothing_behind (a ∷ all) = nothing_behind all

-- Where a stop shows the values of the recipes that hold on all paths to it, these are valid: a path leads there, since what is not known would be shown otherwise.
pub recipe_valid : (h : HomedForm) (a b : Activation) → IsGraph h.unit a.graph → AreShown h a b → (x : ℕ) (r : Recipe) → HoldsOnAllPaths (home_of h a.function) a.graph a.place x r → IsNoteValue h.unit a.graph (Is r)
recipe_valid h a b valid shown x r on_all = elim (note_test h.unit a.graph r) [
  | inl is ↦ is
  | inr none ↦
      let no_path : HoldsOnAllPaths (home_of h a.function) a.graph a.place x (Of (StaticAddress (length h.unit.statics) 0)) =
      (λ past n rest e way. absurd (none (path_noted h.unit a.graph valid past n (Marker a.place ∷ rest) e way x (Is r) (on_all past n rest e way).note))) in
      let odd = (shown x (Of (StaticAddress (length h.unit.statics) 0)) no_path).1 in
      let unknown : static_address h.unit.statics (length h.unit.statics) 0 ≡ Odd = ap (λ o. option_map_or (λ (z : StaticObject). pointer_at (length h.unit.statics) (static_bytes z) 0) o Odd) (nothing_behind h.unit.statics) in
      absurd (clash (sym (ap is_odd unknown) ∙ odd))
]
