-- What a path passed, what each kind of instruction changes, and where a path of a well marked graph stands.
use Rattle.std.proofs.Common.{◌≡◌, ℕ, ◌<◌, Bool, false, Some, None, Option, List, [], ◌∷◌, slice_get, refl, subst}
use Rattle.std.specs.Prelude.{◌||◌}
use Rattle.std.specs.List.{AllByRecursion}
use Rattle.graph_core.specs.Graphs.{NoteValue, Instruction, Marker, Note, Move, Operate, Truncate, Same, Address, Load, Store, Zero, CopyWords, Call, End, Block, Graph, UnitForm}
use Rattle.graph_core.specs.Uses.{target_of}
use Rattle.graph_core.specs.Paths.{Passed, History, Way, stays, passes, goes, Path, path, place_by, writes, is_marker, notes, owed_by, note_by, bound_at}
use Rattle.graph_core.specs.Validity.{IsBlock, IsGraph, IsInstruction}
use Rattle.graph_core.specs.WellMarked.{IsWellMarked}
use Rattle.graph_core_weights.proofs.Standing.{StandsSo, path_stands}
use Rattle.base_laws.proofs.Lists.{all_within as all_behind}
pub use Rattle.base_laws.proofs.Lists.{all_there}
pub use Rattle.base_laws.proofs.Options.{some_same}

-- ---- What was passed before

-- A path comes to what is passed last.
pub record Before (g : Graph) (q : Passed) (h : History) : Type 0 where
  pub number : ℕ
  pub left : List Instruction
  pub end : End
  pub way : Path g h number (q.instruction ∷ left) end

-- a way came to what it passed last, if it passed something
record Came (g : Graph) (b : Block) (q : Passed) (h : History) : Type 0 where
  number : ℕ
  left : List Instruction
  end : End
  way : Way g 0 b.instructions b.end h number (q.instruction ∷ left) end

abbrev CameTo : Graph → Block → History → Type 0
CameTo g b [] = Unit {0}
CameTo g b (q ∷ h) = Came g b q h

way_came : {g : Graph} (b : Block) {h : History} {n : ℕ} {rest : List Instruction} {e : End} → Way g 0 b.instructions b.end h n rest e → CameTo g b h
way_came b stays = tt
way_came b (passes {h} {n} {i} {left} {e} way v) = record { number = n; left = left; end = e; way = way }
way_came b (goes way among c is) = way_came b way

pub path_before : {g : Graph} {q : Passed} {h : History} {n : ℕ} {rest : List Instruction} {e : End} → Path g (q ∷ h) n rest e → Before g q h
path_before {g} {q} {h} (path b there way) = (let c : Came g b q h = way_came b way in record { number = c.number; left = c.left; end = c.end; way = path b there c.way })

-- ---- Kinds of instructions

-- An instruction that is neither a marker nor a note: it leaves the place in force and the notes, and what it writes is to be noted.
pub record IsPlain (i : Instruction) : Type 0 where
  pub marker : is_marker i ≡ false
  pub silent : (x : ℕ) → notes x i ≡ false
  pub note : (x : ℕ) (before : Option NoteValue) → note_by x i before ≡ before
  pub place : (before : Option ℕ) → place_by i before ≡ before
  pub unbound : (g : Graph) (x : ℕ) → bound_at g x i ≡ false
  pub owes : (assigns : ℕ → Bool) (x : ℕ) (before : Bool) → owed_by assigns x i before ≡ (writes x i || before)

pub data Kind (i : Instruction) : Type 0 where
  marks : (p : ℕ) → i ≡ Marker p → Kind i
  noting : (y : ℕ) (v : NoteValue) → i ≡ Note y v → Kind i
  plain : IsPlain i → Kind i

pub kind_of : (i : Instruction) → Kind i
kind_of (Marker p) = marks p refl
kind_of (Note y v) = noting y v refl
kind_of (Move y a) = plain (record { marker = refl; silent = λ x. refl; note = λ x b. refl; place = λ b. refl; unbound = λ g x. refl; owes = λ s x b. refl })
kind_of (Operate y o a b) = plain (record { marker = refl; silent = λ x. refl; note = λ x b. refl; place = λ b. refl; unbound = λ g x. refl; owes = λ s x b. refl })
kind_of (Truncate y t a) = plain (record { marker = refl; silent = λ x. refl; note = λ x b. refl; place = λ b. refl; unbound = λ g x. refl; owes = λ s x b. refl })
kind_of (Same y a b) = plain (record { marker = refl; silent = λ x. refl; note = λ x b. refl; place = λ b. refl; unbound = λ g x. refl; owes = λ s x b. refl })
kind_of (Address y o) = plain (record { marker = refl; silent = λ x. refl; note = λ x b. refl; place = λ b. refl; unbound = λ g x. refl; owes = λ s x b. refl })
kind_of (Load y e l) = plain (record { marker = refl; silent = λ x. refl; note = λ x b. refl; place = λ b. refl; unbound = λ g x. refl; owes = λ s x b. refl })
kind_of (Store e l a) = plain (record { marker = refl; silent = λ x. refl; note = λ x b. refl; place = λ b. refl; unbound = λ g x. refl; owes = λ s x b. refl })
kind_of (Zero o w) = plain (record { marker = refl; silent = λ x. refl; note = λ x b. refl; place = λ b. refl; unbound = λ g x. refl; owes = λ s x b. refl })
kind_of (CopyWords o b w) = plain (record { marker = refl; silent = λ x. refl; note = λ x b. refl; place = λ b. refl; unbound = λ g x. refl; owes = λ s x b. refl })
kind_of (Call y f all) = plain (record { marker = refl; silent = λ x. refl; note = λ x b. refl; place = λ b. refl; unbound = λ g x. refl; owes = λ s x b. refl })

-- ---- Where a path stands

module _ (u : UnitForm) (g : Graph) (marked : IsWellMarked u g) where
  -- the first block of the graph, and where a path stands
  pub record Stands (h : History) (n : ℕ) (rest : List Instruction) (e : End) : Type 0 where
    pub first : Block
    pub there : slice_get g.blocks 0 ≡ Some first
    pub so : StandsSo g first h n rest e

  pub stands : {h : History} {n : ℕ} {rest : List Instruction} {e : End} → Path g h n rest e → Stands h n rest e
  stands (path b there way) = (let begin = marked.begins b there in record { first = b; there = there; so = path_stands g b there begin.0 begin.1 marked.first (path b there way) })

  -- an instruction that a path comes to is valid
  pub passed_valid : IsGraph u g → {h : History} {n : ℕ} {i : Instruction} {left : List Instruction} {e : End} → Path g h n (i ∷ left) e → IsInstruction u g i
  passed_valid valid {h} {n} {i} {left} way =
      let s = (stands way).so in
      let block : IsBlock u g s.block = all_there (IsBlock u g) g.blocks n s.block valid.blocks s.there in
      all_behind (IsInstruction u g) s.passed i left (subst (AllByRecursion (IsInstruction u g)) s.whole block.instructions)

-- what a valid instruction writes is a name of the graph
pub target_low : (u : UnitForm) (g : Graph) (i : Instruction) (y : ℕ) → IsInstruction u g i → target_of i ≡ Some y → y < g.name_count
target_low u g (Marker p) y valid e = cc
target_low u g (Note x v) y valid e = cc
target_low u g (Move x a) y valid e = subst (λ k. k < g.name_count) (some_same e) valid.0
target_low u g (Operate x o a b) y valid e = subst (λ k. k < g.name_count) (some_same e) valid.0
target_low u g (Truncate x t a) y valid e = subst (λ k. k < g.name_count) (some_same e) valid.0
target_low u g (Same x a b) y valid e = subst (λ k. k < g.name_count) (some_same e) valid.0
target_low u g (Address x o) y valid e = subst (λ k. k < g.name_count) (some_same e) valid.0
target_low u g (Load x t l) y valid e = subst (λ k. k < g.name_count) (some_same e) valid.0
target_low u g (Store t l a) y valid e = cc
target_low u g (Zero o w) y valid e = cc
target_low u g (CopyWords o b w) y valid e = cc
target_low u g (Call None f all) y valid e = cc
target_low u g (Call (Some x) f all) y valid e = subst (λ k. k < g.name_count) (some_same e) valid.0
