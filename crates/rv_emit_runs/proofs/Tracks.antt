-- What an activation passed of its block, and on what path: the code behind that, how many pieces it has, and the place in force.
use Rattle.std.proofs.Common.{◌≡◌, ℕ, ◌+◌, ◌≤◌, inl, inr, ◌⊎◌, sym, ap, ◌∙◌, subst, arith, refl, Option, Some, Bool, true, false, List, [], ◌∷◌, ◌++◌, length, slice_get}
use Rattle.std.specs.Option.{option_map_or}
use Rattle.graph_core.specs.declared.value.Value.TheVariants.{Odd}
use Rattle.graph_core.specs.declared.instruction.Callee.TheVariants as callee
use Rattle.graph_core.specs.Graphs.{Operand, Instruction, Marker, Note, Move, Operate, Truncate, Same, Address, Load, Store, Zero, CopyWords, Call, End, Return, Block, Graph}
use Rattle.graph_core.specs.Paths.{Among, History, Passed, stays, passes, goes, Path, path, place_by, place_of, called}
use Rattle.graph_core.specs.Uses.{targets_of}
use Rattle.graph_core.specs.Validity.{KeepsPlace, place_behind}
use Rattle.rv_emit_storage.specs.Storages.{StorageForm}
use Rattle.rv_emit_words.specs.Growing.{CodeState}
use Rattle.rv_emit_instructions.specs.Code.{with_instruction}
use Rattle.rv_emit_runs.proofs.Places.{BeginsPlace, begins_or_keeps, keeps_same}
use Rattle.rv_emit_runs.proofs.States.{going_on_from}
use Rattle.graph_core.proofs.Among.{behind_last as place_one}

-- ---- The code of what was passed

-- The state of code as it goes on to grow behind instructions, how many pieces the code of one has, and that of several.
abbrev pub behind_all : StorageForm → (entry : ℕ) → List Instruction → CodeState → CodeState
behind_all g entry [] s = s
behind_all g entry (i ∷ more) s = behind_all g entry more (going_on_from (with_instruction g entry i s))

abbrev pub pieces_of : StorageForm → (entry : ℕ) → Instruction → CodeState → ℕ
pieces_of g entry i s = length (with_instruction g entry i s).pieces

abbrev pub pieces_of_all : StorageForm → (entry : ℕ) → List Instruction → CodeState → ℕ
pieces_of_all g entry [] s = 0
pieces_of_all g entry (i ∷ more) s = pieces_of g entry i s + pieces_of_all g entry more (going_on_from (with_instruction g entry i s))

-- One more instruction.
behind_one : (g : StorageForm) (entry : ℕ) (passed : List Instruction) (i : Instruction) (s : CodeState) → behind_all g entry (passed ++ i ∷ []) s ≡ going_on_from (with_instruction g entry i (behind_all g entry passed s))
behind_one g entry [] i s = refl
behind_one g entry (j ∷ passed) i s = behind_one g entry passed i (going_on_from (with_instruction g entry j s))

pieces_one : (g : StorageForm) (entry : ℕ) (passed : List Instruction) (i : Instruction) (s : CodeState) → pieces_of_all g entry (passed ++ i ∷ []) s ≡ pieces_of_all g entry passed s + pieces_of g entry i (behind_all g entry passed s)
pieces_one g entry [] i s = omega arith
pieces_one g entry (j ∷ passed) i s = let rest = pieces_one g entry passed i (going_on_from (with_instruction g entry j s)) in omega (arith, rest)

-- ---- Paths

-- The place in force behind a history: the entry's, where no marker was passed.
abbrev pub place_in : Graph → History → ℕ
place_in g h = option_map_or (λ p. p) (place_of h) g.entry

-- What is passed with an instruction of a block, where these are left behind it.
abbrev pub passing : (block : ℕ) → Instruction → List Instruction → Passed
passing n i more = record { block = n; left = length more; instruction = i; wrote = Odd }

pub path_begins : (g : Graph) (b : Block) → slice_get g.blocks 0 ≡ Some b → Path g [] 0 b.instructions b.end
path_begins g b there = path b there stays

pub path_passes : {g : Graph} {h : History} {n : ℕ} {i : Instruction} {more : List Instruction} {e : End} → Path g h n (i ∷ more) e → Path g (passing n i more ∷ h) n more e
path_passes (path z is way) = path z is (passes way Odd)

pub path_goes : {g : Graph} {h : History} {n l : ℕ} {e : End} → Path g h n [] e → Among l (targets_of e) → (b : Block) → slice_get g.blocks l ≡ Some b → Path g h l b.instructions b.end
path_goes (path z is way) among b there = path z is (goes way among b there)

same_number : {m n : ℕ} → Some m ≡ Some n → m ≡ n
same_number e = cc

-- The place in force goes on with what is passed.
in_place_on : (i : Instruction) (before : Option ℕ) (entry place now : ℕ) → option_map_or (λ p. p) before entry ≡ place → Some now ≡ place_behind (i ∷ []) (Some place) → option_map_or (λ p. p) (place_by i before) entry ≡ now
in_place_on (Marker p) before entry place now is moves = sym (same_number moves)
in_place_on (Note x v) before entry place now is moves = is ∙ sym (same_number moves)
in_place_on (Move x a) before entry place now is moves = is ∙ sym (same_number moves)
in_place_on (Operate x op a b) before entry place now is moves = is ∙ sym (same_number moves)
in_place_on (Truncate x t a) before entry place now is moves = is ∙ sym (same_number moves)
in_place_on (Same x a b) before entry place now is moves = is ∙ sym (same_number moves)
in_place_on (Address x o) before entry place now is moves = is ∙ sym (same_number moves)
in_place_on (Load x e l) before entry place now is moves = is ∙ sym (same_number moves)
in_place_on (Store e l a) before entry place now is moves = is ∙ sym (same_number moves)
in_place_on (Zero o w) before entry place now is moves = is ∙ sym (same_number moves)
in_place_on (CopyWords o b w) before entry place now is moves = is ∙ sym (same_number moves)
in_place_on (Call x c all) before entry place now is moves = is ∙ sym (same_number moves)

-- ---- The track of an activation

-- Where an activation is: its function, the number of its block, what it passed of the block and what is left, the block's end, and its path from the entry on.
pub record Position : Type 0 where
  pub function : ℕ
  pub number : ℕ
  pub passed : List Instruction
  pub more : List Instruction
  pub end : End
  pub history : History

-- behind an instruction
abbrev pub passed_by : Position → Instruction → List Instruction → Position
passed_by p i more = record { function = p.function; number = p.number; passed = p.passed ++ i ∷ []; more = more; end = p.end; history = passing p.number i more ∷ p.history }

-- where a block begins
abbrev pub at_block : (function number : ℕ) → Block → History → Position
at_block f l b h = record { function = f; number = l; passed = []; more = b.instructions; end = b.end; history = h }

-- What was passed of a block and what is left are the block. The code behind what was passed goes on to grow in this state, and what is left stands no nearer to where the block's code begins than
-- that code is long. A path leads there, which is in this place.
pub record Track (g : Graph) (storage : StorageForm) (first : CodeState) (start number : ℕ) (block : Block) (passed more : List Instruction) (history : History) (now : CodeState) (index place : ℕ) : Type 0 where
  pub whole : block.instructions ≡ passed ++ more
  pub state : now ≡ behind_all storage g.entry passed first
  pub far : start + pieces_of_all storage g.entry passed first ≤ index
  pub kept : KeepsPlace more (Some place) (place_behind passed block.place)
  pub way : Path g history number more block.end
  pub in_place : place_in g history ≡ place

-- All of a block is left.
pub track_begins : (g : Graph) (storage : StorageForm) (first : CodeState) (start number : ℕ) (block : Block) (history : History) (place : ℕ)
    → KeepsPlace block.instructions (Some place) block.place → Path g history number block.instructions block.end → place_in g history ≡ place → Track g storage first start number block [] block.instructions history first start place
track_begins g storage first start number block history place keeps way in_place = record { whole = refl; state = refl; far = omega arith; kept = keeps; way = way; in_place = in_place }

-- One more instruction is passed.
pub track_on : (g : Graph) (storage : StorageForm) (first : CodeState) (start number : ℕ) (block : Block) (passed : List Instruction) (i : Instruction) (more : List Instruction) (history : History) (now : CodeState) (index place : ℕ)
    → Track g storage first start number block passed (i ∷ more) history now index place → (later to : ℕ) → index + pieces_of storage g.entry i now ≤ later → Some to ≡ place_behind (i ∷ []) (Some place)
    → Track g storage first start number block (passed ++ i ∷ []) more (passing number i more ∷ history) (going_on_from (with_instruction storage g.entry i now)) later to
track_on g storage first start number block passed i more history now index place t later to long moves =
    let one = pieces_one storage g.entry passed i first in
    let many : pieces_of storage g.entry i now ≡ pieces_of storage g.entry i (behind_all storage g.entry passed first) = ap (pieces_of storage g.entry i) t.state in
    let far = t.far in
    record {
      whole = t.whole ∙ append_assoc_back passed i more;
      state = ap (λ s. going_on_from (with_instruction storage g.entry i s)) t.state ∙ sym (behind_one storage g.entry passed i first);
      far = omega (arith, one, many, far, long);
      kept = subst (λ p. KeepsPlace more (Some to) p) (sym (place_one passed i block.place)) (by_way (begins_or_keeps (i ∷ more) (Some place) (place_behind passed block.place) t.kept));
      way = path_passes t.way;
      in_place = in_place_on i (place_of history) g.entry place to t.in_place moves;
    }
  where
    append_assoc_back : (passed : List Instruction) (i : Instruction) (more : List Instruction) → passed ++ i ∷ more ≡ (passed ++ i ∷ []) ++ more
    append_assoc_back [] i more = refl
    append_assoc_back (j ∷ passed) i more = ap (λ l. j ∷ l) (append_assoc_back passed i more)

    by_way : BeginsPlace (i ∷ more) ⊎ (Some place ≡ place_behind passed block.place) → KeepsPlace more (Some to) (place_behind (i ∷ []) (place_behind passed block.place))
    by_way (inl begins) =
        let is : i ≡ Marker begins.place = first_is begins.so in
        keeps_same more (Some to) (place_behind (i ∷ []) (place_behind passed block.place)) (moves ∙ ap (λ j. place_behind (j ∷ []) (Some place)) is ∙ sym (ap (λ j. place_behind (j ∷ []) (place_behind passed block.place)) is))
      where
        first_is : {x y : Instruction} {xs ys : List Instruction} → x ∷ xs ≡ y ∷ ys → x ≡ y
        first_is e = cc
    by_way (inr same) = keeps_same more (Some to) (place_behind (i ∷ []) (place_behind passed block.place)) (moves ∙ ap (place_behind (i ∷ [])) same)

-- ---- How an activation goes on

-- an instruction calls a function
abbrev pub calls_function : Instruction → Bool
calls_function (Call target (callee.Function f) all) = true
calls_function _ = false

-- From where it is an activation comes to another point, or another one goes on. These are the blocks of each function.
pub data Advances (blocks : (function : ℕ) → List Block) (from to : Position) : Type 0 where
  -- it passes an instruction that calls no function
  passes_one : (i : Instruction) (more : List Instruction) → from.more ≡ i ∷ more → calls_function i ≡ false → to ≡ passed_by from i more → Advances blocks from to
  -- it comes to a block
  enters_block : (l : ℕ) (b : Block) → from.more ≡ [] → Among l (targets_of from.end) → slice_get (blocks from.function) l ≡ Some b → to ≡ at_block from.function l b from.history → Advances blocks from to
  -- a function begins
  begins_function : (target : Option ℕ) (f : ℕ) (arguments : List Operand) (more : List Instruction) (b : Block) → from.more ≡ Call target (callee.Function f) arguments ∷ more → to ≡ at_block f 0 b [] → Advances blocks from to
  -- the one that waits goes on, behind its call
  goes_back : (value : Option Operand) → from.more ≡ [] → from.end ≡ Return value → called to.history ≡ true → Advances blocks from to
