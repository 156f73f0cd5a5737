-- Each instruction with a target has a word that writes the home of that, in the place in force.
use Rattle.std.proofs.Common.{◌≡◌, ℕ, ◌+◌, ◌-◌, ◌<◌, ◌≤◌, ⊎_elim, nat_lt, Bool, false, Option, Some, None, List, [], ◌∷◌, ◌++◌, length, slice_get, refl, sym, ap, ◌∙◌, subst, arith}
use Rattle.std.specs.Option.{option_map_or}
use Rattle.std.proofs.lemmas.Bool.{cases_lt}
use Rattle.std.proofs.lemmas.Option.{none-some, same_Some, slice_get_within}
use Rattle.rv_code.specs.Encoding.{encoded}
use Rattle.rv_code.proofs.RoundTrip.{decoded_encoded}
use Rattle.rv_code.specs.declared.instruction.Instruction.{Instruction as MachineInstruction}
use Rattle.rv_code.specs.declared.instruction.Instruction.TheVariants as instruction
use Rattle.rv_code.specs.declared.instruction.RegisterOperation.TheVariants as on
use Rattle.rv_code.specs.declared.instruction.StoreOperation.TheVariants.{Sw}
use Rattle.graph_core.specs.declared.instruction.Callee.{Callee}
use Rattle.graph_core.specs.declared.instruction.Callee.TheVariants as callee
use Rattle.graph_core.specs.Graphs.{Operand, Block, Graph, Instruction, Marker, Note, Move, Operate, Truncate, Same, Address, Load, Store, Zero, CopyWords, Call}
use Rattle.graph_core.specs.Uses.{target_of}
use Rattle.graph_core.specs.Validity.{place_behind}
use Rattle.graph_homes.specs.declared.home.Home.{Home}
use Rattle.graph_homes.specs.declared.home.Home.TheVariants.{Register, Slot}
use Rattle.graph_homes.specs.Homed.{HomedForm, home_of}
use Rattle.rv_emit_tables.specs.Emitted.{EmittedForm}
use Rattle.rv_emit_words.specs.declared.piece.Held.{Held}
use Rattle.rv_emit_words.specs.declared.piece.Piece.TheVariants as piece
use Rattle.rv_emit_storage.specs.Storages.{StorageForm, home_at, slot_at, source_of}
use Rattle.rv_emit_words.specs.Growing.{CodeState, with_code, with_piece}
use Rattle.rv_emit_words.specs.Constants.{high_part, low_part}
use Rattle.rv_emit_words.specs.Operands.{bringing, home_written, store_slot_code}
use Rattle.rv_emit_words.proofs.Appending.{with_code_then}
use Rattle.rv_emit_instructions.specs.Operations.{operation_code, truncation_code, comparison_code, move_code}
use Rattle.rv_emit_instructions.specs.Calls.{answered, argument_register, called, passed, passed_from}
use Rattle.rv_emit_instructions.specs.Code.{with_instruction}
use Rattle.rv_emit_instructions.specs.Filling.{zero_code, copy_code}
use Rattle.rv_emit_instructions.specs.Memory.{load_code, reach_of, store_code, object_address_code}
use Rattle.rv_emit_code.specs.Blocks.{no_code}
use Rattle.rv_emit_code.specs.Ends.{words}
use Rattle.rv_emit_code.specs.Leaving.{with_end}
use Rattle.rv_emit_steps.specs.Programs.{Program, IsAt}
use Rattle.rv_emit_runs.specs.Pieces.{Targets}
use Rattle.rv_emit_runs.specs.Placed.{PlacedAt, placed_pieces}
use Rattle.rv_emit_runs.proofs.Appended.{BothPlaced, both_placed, pieces_appended, words_appended}
use Rattle.rv_emit_runs.proofs.Unmarked.{IsAppending, all_onto, bare, behind_there, block_there, end_onto, with_all}
use Rattle.rv_emit_runs.specs.Laid.{code_of, program_of, targets_in, IsBlockAt, IsCode}
use Rattle.rv_emit_runs.proofs.Frames.{graph_is}
use Rattle.rv_emit_runs.proofs.States.{placed_within}
use Rattle.rv_emit_runs.specs.Writing.{AreSpelledAt, EndsWriting, HasWriter, HaveWriters, IsWriter, IsWriting}
use Rattle.rv_emit_runs.proofs.Forms.{choice}
use Rattle.rv_emit_runs.proofs.EmitPlacedPlain.{Appends, appends_none, passed_and_called}
use Rattle.rv_emit_runs.proofs.Writing.{address_writes, comparison_writes, home_is_written, loading_writes, move_writes, operation_writes, truncation_writes}

-- ---- The place in force

pub code_owner : (code : List MachineInstruction) (s : CodeState) → (with_code code s).owner ≡ s.owner
code_owner [] s = refl
code_owner (i ∷ more) s = code_owner more (with_piece (piece.Word i) s)

pub passed_owner : (g : StorageForm) (n : ℕ) (all : List Operand) (s : CodeState) → (passed_from g n all s).owner ≡ s.owner
passed_owner g n [] s = refl
passed_owner g n (a ∷ more) s = passed_owner g (n + 1) more (passed g n a s) ∙ code_owner (bringing g s.held (argument_register n) (source_of g a)) s

pub called_owner : (f : Callee) (s : CodeState) → (called f s).owner ≡ s.owner
called_owner callee.Getchar s = refl
called_owner callee.Putchar s = refl
called_owner callee.Exit s = refl
called_owner (callee.Function f) s = refl

answered_owner : (g : StorageForm) (target : Option ℕ) (s : CodeState) → (answered g target s).owner ≡ s.owner
answered_owner g None s = refl
answered_owner g (Some x) s = code_owner (home_written g (home_at g x) 10) s

-- The place in force, or 0.
abbrev pub place_or_none : Option ℕ → ℕ
place_or_none place = option_map_or (λ p. p) place 0

pub instruction_owner : (g : StorageForm) (entry : ℕ) (i : Instruction) (place : Option ℕ) (s : CodeState) → s.owner ≡ place_or_none place → (with_instruction g entry i s).owner ≡ place_or_none (place_behind (i ∷ []) place)
instruction_owner g entry (Marker p) place s own = refl
instruction_owner g entry (Note x v) place s own = own
instruction_owner g entry (Move x a) place s own = code_owner (move_code g s.held (home_at g x) (source_of g a)) s ∙ own
instruction_owner g entry (Operate x op a b) place s own = code_owner (operation_code g s.held (home_at g x) op (source_of g a) (source_of g b)) s ∙ own
instruction_owner g entry (Truncate x t a) place s own = code_owner (truncation_code g s.held (home_at g x) t (source_of g a)) s ∙ own
instruction_owner g entry (Same x a b) place s own = code_owner (comparison_code g s.held (home_at g x) (source_of g a) (source_of g b)) s ∙ own
instruction_owner g entry (Address x object) place s own = code_owner (object_address_code g (home_at g x) object) s ∙ own
instruction_owner g entry (Load x e l) place s own = code_owner (load_code g s.held (home_at g x) e l) s ∙ own
instruction_owner g entry (Store e l a) place s own = code_owner (store_code g s.held e l (source_of g a)) s ∙ own
instruction_owner g entry (Zero object words) place s own = code_owner (zero_code g object words) s ∙ own
instruction_owner g entry (CopyWords object bytes words) place s own = code_owner (copy_code g s.held object bytes words) s ∙ own
instruction_owner g entry (Call target f all) place s own = answered_owner g target (called f (passed_from g 0 all s)) ∙ called_owner f (passed_from g 0 all s) ∙ passed_owner g 0 all s ∙ own

pub behind_one : (i : Instruction) (more : List Instruction) (place : Option ℕ) → place_behind (i ∷ more) place ≡ place_behind more (place_behind (i ∷ []) place)
behind_one (Marker p) more place = refl
behind_one (Note x v) more place = refl
behind_one (Move x a) more place = refl
behind_one (Operate x op a b) more place = refl
behind_one (Truncate x t a) more place = refl
behind_one (Same x a b) more place = refl
behind_one (Address x object) more place = refl
behind_one (Load x e l) more place = refl
behind_one (Store e l a) more place = refl
behind_one (Zero object words) more place = refl
behind_one (CopyWords object bytes words) more place = refl
behind_one (Call target f all) more place = refl

owner_behind : (g : StorageForm) (entry : ℕ) (before : List Instruction) (place : Option ℕ) (s : CodeState) → s.owner ≡ place_or_none place → (with_all g entry before s).owner ≡ place_or_none (place_behind before place)
owner_behind g entry [] place s own = own
owner_behind g entry (i ∷ more) place s own =
    owner_behind g entry more (place_behind (i ∷ []) place) (with_instruction g entry i s) (instruction_owner g entry i place s own) ∙ ap place_or_none (sym (behind_one i more place))

-- ---- The code of an instruction

-- Code is other code and words behind it that write a home, of the same place.
pub record Writes (g : StorageForm) (home : Home) (s t : CodeState) : Type 0 where
  pub before : CodeState
  pub code : List MachineInstruction
  pub is : t ≡ with_code code before
  pub ends : EndsWriting g home code
  pub owner : before.owner ≡ s.owner
  pub appended : Appends s before

pub by_code : (g : StorageForm) (home : Home) (code : List MachineInstruction) (s : CodeState) → EndsWriting g home code → Writes g home s (with_code code s)
by_code g home code s ends = record { before = s; code = code; is = refl; ends = ends; owner = refl; appended = appends_none s }

pub instruction_writes : (g : StorageForm) (entry : ℕ) (i : Instruction) (x : ℕ) (s : CodeState) → target_of i ≡ Some x → Writes g (home_at g x) s (with_instruction g entry i s)
instruction_writes g entry (Marker p) x s e = absurd (none-some x e)
instruction_writes g entry (Note y v) x s e = absurd (none-some x e)
instruction_writes g entry (Move y a) x s e = subst (λ z. Writes g (home_at g z) s (with_instruction g entry (Move y a) s)) (same_Some y x e) (by_code g (home_at g y) (move_code g s.held (home_at g y) (source_of g a)) s (move_writes g s.held (home_at g y) (source_of g a)))
instruction_writes g entry (Operate y op a b) x s e =
    subst (λ z. Writes g (home_at g z) s (with_instruction g entry (Operate y op a b) s)) (same_Some y x e)
    (by_code g (home_at g y) (operation_code g s.held (home_at g y) op (source_of g a) (source_of g b)) s (operation_writes g s.held (home_at g y) op (source_of g a) (source_of g b)))
instruction_writes g entry (Truncate y t a) x s e =
    subst (λ z. Writes g (home_at g z) s (with_instruction g entry (Truncate y t a) s)) (same_Some y x e)
    (by_code g (home_at g y) (truncation_code g s.held (home_at g y) t (source_of g a)) s (truncation_writes g s.held (home_at g y) t (source_of g a)))
instruction_writes g entry (Same y a b) x s e =
    subst (λ z. Writes g (home_at g z) s (with_instruction g entry (Same y a b) s)) (same_Some y x e)
    (by_code g (home_at g y) (comparison_code g s.held (home_at g y) (source_of g a) (source_of g b)) s (comparison_writes g s.held (home_at g y) (source_of g a) (source_of g b)))
instruction_writes g entry (Address y object) x s e =
    subst (λ z. Writes g (home_at g z) s (with_instruction g entry (Address y object) s)) (same_Some y x e) (by_code g (home_at g y) (object_address_code g (home_at g y) object) s (address_writes g (home_at g y) object))
instruction_writes g entry (Load y el l) x s e =
    subst (λ z. Writes g (home_at g z) s (with_instruction g entry (Load y el l) s)) (same_Some y x e) (by_code g (home_at g y) (load_code g s.held (home_at g y) el l) s (loading_writes g (home_at g y) el (reach_of g s.held l)))
instruction_writes g entry (Store el l a) x s e = absurd (none-some x e)
instruction_writes g entry (Zero object words) x s e = absurd (none-some x e)
instruction_writes g entry (CopyWords object bytes words) x s e = absurd (none-some x e)
instruction_writes g entry (Call None f all) x s e = absurd (none-some x e)
instruction_writes g entry (Call (Some y) f all) x s e =
    subst (λ z. Writes g (home_at g z) s (with_instruction g entry (Call (Some y) f all) s)) (same_Some y x e)
    (record {
      before = called f (passed_from g 0 all s);
      code = home_written g (home_at g y) 10;
      is = refl;
      ends = home_is_written g (home_at g y) 10;
      owner = called_owner f (passed_from g 0 all s) ∙ passed_owner g 0 all s;
      appended = passed_and_called g f all s;
    })

-- ---- Where it stands

-- Words that were appended stand where their pieces do, and belong to the place.
pub record WordsThere (p : Program) (t : Targets) (i k owner : ℕ) (code : List MachineInstruction) : Type 0 where
  pub there : AreSpelledAt p.words i code
  pub is : k ≡ i + length code
  pub owners : (m : ℕ) → i ≤ m → m < k → t.owner m ≡ owner

pub words_there : (p : Program) (t : Targets) (i k owner : ℕ) (b : Bool) (code : List MachineInstruction) → PlacedAt p t i (placed_pieces owner b (words code)) k → WordsThere p t i k owner code
words_there p t i k owner b [] there = record { there = tt; is = omega (arith, there); owners = λ m low high. absurd (omega (arith, low, high, there)) }
words_there p t i k owner b (x ∷ more) (m, at, of, rest) =
    let word : IsAt p i b x = at.0 in
    let next : m ≡ i + 1 = at.1 in
    let later : WordsThere p t m k owner more = words_there p t m k owner false more rest in
    let many = later.is in
    record {
      there = ((encoded x, word.there, decoded_encoded x word.in_form), subst (λ n. AreSpelledAt p.words n more) next later.there);
      is = omega (arith, many, next);
      owners = λ n low high. ⊎_elim (λ (lt : n < m). of n low lt) (λ (ge : m ≤ n). later.owners n ge high) (cases_lt n m);
    }

pub writing_some : (g : StorageForm) (home : Home) (code : List MachineInstruction) → IsWriting g home code → 1 ≤ length code
writing_some g (Register r) code (i, is, makes) = let count = ap (λ (l : List MachineInstruction). length l) is in omega (arith, count)
writing_some g (Slot k) code (register, is) =
    let some : 1 ≤ length (store_slot_code register (slot_at g k)) = choice (λ (l : List MachineInstruction). 1 ≤ length l) (nat_lt (slot_at g k) 2048) (instruction.Store Sw register 2 (slot_at g k) ∷ []) (instruction.Lui 5 (high_part (slot_at g k)) ∷ instruction.Register on.Add 5 5 2 ∷ instruction.Store Sw register 5 (low_part (slot_at g k)) ∷ []) (λ e. omega arith) (λ e. omega arith) in
    let count = ap (λ (l : List MachineInstruction). length l) is in
    omega (arith, some, count)

-- The word that writes the home, where the code of the instruction stands behind other code.
record WriterThere (p : Program) (t : Targets) (g : StorageForm) (home : Home) (i k owner : ℕ) : Type 0 where
  pub index : ℕ
  pub low : i ≤ index
  pub high : index < k
  pub writes : IsWriter g p.words home index
  pub owned : t.owner index ≡ owner

writer_there : (p : Program) (t : Targets) (g : StorageForm) (home : Home) (i k : ℕ) (s u : CodeState) → Writes g home s u → PlacedAt p t i u.pieces k → WriterThere p t g home i k s.owner
writer_there p t g home i k s u by there =
    let ends : EndsWriting g home by.code = by.ends in
    let v : CodeState = with_code ends.before by.before in
    let is : u ≡ with_code ends.last v = by.is ∙ ap (λ c. with_code c by.before) ends.is ∙ with_code_then ends.before ends.last by.before in
    let pieces : u.pieces ≡ v.pieces ++ placed_pieces v.owner v.begins (words ends.last) = ap (λ (x : CodeState). x.pieces) (is ∙ words_appended ends.last v) ∙ pieces_appended (words ends.last) v in
    let both : BothPlaced p t i v.pieces (placed_pieces v.owner v.begins (words ends.last)) k = both_placed p t i v.pieces (placed_pieces v.owner v.begins (words ends.last)) k (subst (λ l. PlacedAt p t i l k) pieces there) in
    let stand : WordsThere p t both.index k v.owner ends.last = words_there p t both.index k v.owner v.begins ends.last both.back_there in
    let some : 1 ≤ length ends.last = writing_some g home ends.last ends.writes in
    let front : i ≤ both.index = placed_within p t i v.pieces both.index both.front_there in
    let many : k ≡ both.index + length ends.last = stand.is in
    record {
      index = k - 1;
      low = omega (arith, some, front, many);
      high = omega (arith, some, many);
      writes = record { from = both.index; last = ends.last; there = stand.there; writes = ends.writes; is = omega (arith, some, many) };
      owned = stand.owners (k - 1) (omega (arith, some, many)) (omega (arith, some, many)) ∙ code_owner ends.before by.before ∙ by.owner;
    }

-- ---- In a block

in_two : (g : StorageForm) (entry : ℕ) (before : List Instruction) (i : Instruction) (more : List Instruction) (s : CodeState) → with_all g entry (before ++ (i ∷ more)) s ≡ with_all g entry more (with_instruction g entry i (with_all g entry before s))
in_two g entry [] i more s = refl
in_two g entry (x ∷ before) i more s = in_two g entry before i more (with_instruction g entry x s)

module _ (h : HomedForm) (e : EmittedForm) (code : IsCode h e) where
  block_writer : (f l : ℕ) (b : Block) (known : ℕ → List Held) → IsBlockAt h code.arrangement (program_of e code.short) (targets_in e code.arrangement f) f known l b → (before more : List Instruction) (i : Instruction) (x : ℕ) → b.instructions ≡ before ++ (i ∷ more) → target_of i ≡ Some x
      → HasWriter h code.arrangement e f l (place_behind before b.place) (home_of h f x)
  block_writer f l b known at before more i x is target =
      let p : Program = program_of e code.short in
      let t : Targets = targets_in e code.arrangement f in
      let g : StorageForm = (code_of h code.arrangement f).storage in
      let entry : ℕ = (code_of h code.arrangement f).graph.entry in
      let saved = (code_of h code.arrangement f).saved in
      let size = (code_of h code.arrangement f).size in
      let end = length (code_of h code.arrangement f).graph.blocks in
      let s : CodeState = no_code (option_map_or (λ q. q) b.place 0) (known l) in
      let one : CodeState = with_all g entry before s in
      let two : CodeState = with_instruction g entry i one in
      let rest : IsAppending (λ u. with_end g saved size end at.next at.loads b.end (with_all g entry more u)) =
      λ q u. ap (with_end g saved size end at.next at.loads b.end) (all_onto g entry more q u) ∙ end_onto g saved size end at.next at.loads b.end q (with_all g entry more u) in
      let plain : PlacedAt p t (code.arrangement.label f l) (with_end g saved size end at.next at.loads b.end (with_all g entry b.instructions s)).pieces (code.arrangement.label f at.next) =
      block_there g entry saved size end at.next (known l) at.loads b p t (code.arrangement.label f l) (code.arrangement.label f at.next) at.there in
      let split : PlacedAt p t (code.arrangement.label f l) (with_end g saved size end at.next at.loads b.end (with_all g entry more two)).pieces (code.arrangement.label f at.next) =
      subst (λ (u : CodeState). PlacedAt p t (code.arrangement.label f l) (with_end g saved size end at.next at.loads b.end u).pieces (code.arrangement.label f at.next)) (ap (λ a. with_all g entry a s) is ∙ in_two g entry before i more s) plain in
      let both : BothPlaced p t (code.arrangement.label f l) two.pieces (with_end g saved size end at.next at.loads b.end (with_all g entry more (bare two))).pieces (code.arrangement.label f at.next) =
      behind_there (λ u. with_end g saved size end at.next at.loads b.end (with_all g entry more u)) rest p t (code.arrangement.label f l) (code.arrangement.label f at.next) two split in
      let found : WriterThere p t g (home_at g x) (code.arrangement.label f l) both.index one.owner = writer_there p t g (home_at g x) (code.arrangement.label f l) both.index one two (instruction_writes g entry i x one target) both.front_there in
      record { index = found.index; within = found.low; writes = found.writes; owner = found.owned ∙ owner_behind g entry before b.place s refl }

  -- Each instruction with a target has its writer.
  pub code_writes : HaveWriters h code.arrangement e
  code_writes f g at l b there before more i x is target =
      let low : f < length h.unit.graphs = slice_get_within h.unit.graphs f g at in
      let block : slice_get (code_of h code.arrangement f).graph.blocks l ≡ Some b = ap (λ (q : Graph). slice_get q.blocks l) (graph_is h.unit f g at) ∙ there in
      block_writer f l b (code.functions f low).known ((code.functions f low).blocks l b block) before more i x is target
