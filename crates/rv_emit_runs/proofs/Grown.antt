-- What code appends for ends, returns and beginnings stands as their pieces do, where all of it stands.
use Rattle.std.proofs.Common.{◌≡◌, ℕ, ◌+◌, ◌%◌, sym, ap, ◌∙◌, subst, refl, append_assoc, Option, Some, None, Bool, true, false, cond, List, [], ◌∷◌, ◌++◌}
use Rattle.rv_code.specs.declared.instruction.Instruction.{Instruction}
use Rattle.rv_code.specs.declared.instruction.Instruction.TheVariants.{Load, Immediate, Jalr}
use Rattle.rv_code.specs.declared.instruction.LoadOperation.TheVariants.{Lw}
use Rattle.rv_code.specs.declared.instruction.ImmediateOperation.TheVariants.{Addi}
use Rattle.graph_core.specs.Graphs.{Graph, Binding, End, Jump, Branch, Return}
use Rattle.rv_emit_words.specs.declared.piece.Held.{Held}
use Rattle.rv_emit_words.specs.declared.piece.Piece.{Piece}
use Rattle.rv_emit_words.specs.declared.piece.PlacedPiece.{PlacedPiece}
use Rattle.rv_emit_storage.specs.declared.storage.Source.{Source}
use Rattle.rv_emit_storage.specs.Storages.{StorageForm}
use Rattle.rv_emit_words.specs.Growing.{CodeState, with_code, marked}
use Rattle.rv_emit_words.specs.Operands.{bringing}
use Rattle.rv_emit_words.proofs.Appending.{with_code_then}
use Rattle.rv_emit_instructions.specs.Calls.{argument_register}
use Rattle.rv_emit_steps.specs.Programs.{Program}
use Rattle.rv_emit_code.specs.Ends.{words, with_pieces, begins_behind, going, end_pieces, end_held}
use Rattle.rv_emit_code.specs.Leaving.{words_of_moving, moving_by, restoring_code, leaving_code, leaving, room_behind, return_pieces, of_no_place, with_leaving, with_leave, with_return, with_end}
use Rattle.rv_emit_code.specs.Beginning.{guard_code, entering_code, base_code, binding_code, bindings_code, beginning_code, with_writer, with_bindings, with_beginning}
use Rattle.rv_emit_code.proofs.Growing.{begins_then, moving_is}
use Rattle.rv_emit_runs.specs.Going.{IsGoing}
use Rattle.rv_emit_runs.specs.Pieces.{Targets, PiecesAt}
use Rattle.rv_emit_runs.specs.Placed.{placed_pieces, PlacedAt}
use Rattle.rv_emit_runs.proofs.Appended.{words_appended, pieces_appended, BothPlaced, both_placed, placed_both, appended_there, marked_there}

-- ---- Parts

-- Code has more than before, which stands as pieces do where there is a stop at the first of them or none.
pub record Appends (before after : List PlacedPiece) (b : Bool) (more : List Piece) : Type 0 where
  pub placed : List PlacedPiece
  pub is : after ≡ before ++ placed
  pub there : (p : Program) (t : Targets) (i j : ℕ) → PlacedAt p t i placed j → PiecesAt p t i b more j

pub pieces_append : (more : List Piece) (s : CodeState) → Appends s.pieces (with_pieces more s).pieces s.begins more
pieces_append more s = record { placed = placed_pieces s.owner s.begins more; is = pieces_appended more s; there = λ p t i j at. appended_there p t i s.owner s.begins more j at }

pub code_append : (code : List Instruction) (s : CodeState) → Appends s.pieces (with_code code s).pieces s.begins (words code)
code_append code s = subst (λ (u : CodeState). Appends s.pieces u.pieces s.begins (words code)) (sym (words_appended code s)) (pieces_append (words code) s)

-- Words, and pieces behind them.
words_both : (p : Program) (t : Targets) (i k j : ℕ) (b : Bool) (code : List Instruction) (back : List Piece) → PiecesAt p t i b (words code) k → PiecesAt p t k (begins_behind b code) back j → PiecesAt p t i b (words code ++ back) j
words_both p t i k j b [] back front rest = subst (λ n. PiecesAt p t n b back j) front rest
words_both p t i k j b (x ∷ code) back (m, at, front) rest = (m, at, words_both p t m k j false code back front (subst (λ c. PiecesAt p t k c back j) (sym (none_behind code)) rest))
  where
    none_behind : (code : List Instruction) → begins_behind false code ≡ false
    none_behind [] = refl
    none_behind (y ∷ code) = refl

pub append_both : (first second last : List PlacedPiece) (b : Bool) (code : List Instruction) (back : List Piece) → Appends first second b (words code) → Appends second last (begins_behind b code) back → Appends first last b (words code ++ back)
append_both first second last b code back one two = record {
  placed = one.placed ++ two.placed;
  is = two.is ∙ ap (λ l. l ++ two.placed) one.is ∙ append_assoc first one.placed two.placed;
  there = λ p t i j at.
      let both : BothPlaced p t i one.placed two.placed j = both_placed p t i one.placed two.placed j at in
      words_both p t i both.index j b code back (one.there p t i both.index both.front_there) (two.there p t both.index j both.back_there);
}

-- ---- Ends

-- An end that goes on appends its pieces, and these constants are held behind it.
pub end_appends : (g : StorageForm) (saved : List ℕ) (size end next : ℕ) (loads : List Held) (e : End) (s : CodeState) → IsGoing e → Appends s.pieces (with_end g saved size end next loads e s).pieces s.begins (end_pieces g s.held s.begins loads next e)
end_appends g saved size end next loads (Jump to) s going = pieces_append (end_pieces g s.held s.begins loads next (Jump to)) s
end_appends g saved size end next loads (Branch k x y if_true if_false) s going = pieces_append (end_pieces g s.held s.begins loads next (Branch k x y if_true if_false)) s
end_appends g saved size end next loads (Return v) s going = absurd going

pub end_holds : (g : StorageForm) (saved : List ℕ) (size end next : ℕ) (loads : List Held) (e : End) (s : CodeState) → IsGoing e → (with_end g saved size end next loads e s).held ≡ end_held g s.held loads e
end_holds g saved size end next loads (Jump to) s going = refl
end_holds g saved size end next loads (Branch k x y if_true if_false) s going = refl
end_holds g saved size end next loads (Return v) s going = absurd going

-- So does the end of a function.
pub leaving_appends : (saved : List ℕ) (size : ℕ) (s : CodeState) → Appends s.pieces (with_leaving (words_of_moving size) saved size s).pieces s.begins (words (leaving_code saved size))
leaving_appends saved size s =
    let rest : List Instruction = restoring_code saved 4 ++ Load Lw 1 2 0 ∷ moving_by (words_of_moving size) size ++ Jalr 0 1 0 ∷ [] in
    let t : CodeState = of_no_place (with_code (Immediate Addi 4 4 1 ∷ []) s) in
    subst (λ l. Appends s.pieces (with_leaving (words_of_moving size) saved size s).pieces s.begins (words (Immediate Addi 4 4 1 ∷ restoring_code saved 4 ++ Load Lw 1 2 0 ∷ l ++ Jalr 0 1 0 ∷ []))) (moving_is size)
    (append_both s.pieces t.pieces (with_code rest t).pieces s.begins (Immediate Addi 4 4 1 ∷ []) (words rest) (code_append (Immediate Addi 4 4 1 ∷ []) s) (code_append rest t))

leave_appends : (saved : List ℕ) (size end next room : ℕ) (s : CodeState) → Appends s.pieces (with_leave saved size end next room s).pieces s.begins (leaving saved size s.begins end next room)
leave_appends saved size end next room s = by_test _
  where
    by_test : (c : Bool) → Appends s.pieces (cond c (with_pieces (going s.begins end next) s) (with_leaving (words_of_moving size) saved size s)).pieces s.begins (cond c (going s.begins end next) (words (leaving_code saved size)))
    by_test true = pieces_append (going s.begins end next) s
    by_test false = leaving_appends saved size s

-- And a return.
pub return_appends : (g : StorageForm) (saved : List ℕ) (size end next : ℕ) (value : Option Source) (s : CodeState)
    → Appends s.pieces (with_return g saved size end next value s).pieces s.begins (return_pieces g s.held saved size s.begins end next value)
return_appends g saved size end next None s = leave_appends saved size end next 9 s
return_appends g saved size end next (Some value) s =
    let code = bringing g s.held 10 value in
    let t : CodeState = with_code code s in
    append_both s.pieces t.pieces (with_leave saved size end next (room_behind g.base value) t).pieces s.begins code (leaving saved size (begins_behind s.begins code) end next (room_behind g.base value)) (code_append code s)
    (subst (λ b. Appends t.pieces (with_leave saved size end next (room_behind g.base value) t).pieces b (leaving saved size b end next (room_behind g.base value))) (begins_then code s) (leave_appends saved size end next (room_behind g.base value) t))

-- ---- Beginnings

-- Code behind a word that is marked stands as it does where that is not marked.
unmarked : (p : Program) (t : Targets) (i j n : ℕ) (code : List Instruction) (s : CodeState) → PlacedAt p t i (with_code code (with_writer n s)).pieces j → PlacedAt p t i (with_code code s).pieces j
unmarked p t i j n code s at =
    let marks : CodeState = with_writer n s in
    let more = placed_pieces s.owner s.begins (words code) in
    let is : (with_code code marks).pieces ≡ marked n s.pieces ++ more = ap (λ (u : CodeState). u.pieces) (words_appended code marks) ∙ pieces_appended (words code) marks in
    let plain : (with_code code s).pieces ≡ s.pieces ++ more = ap (λ (u : CodeState). u.pieces) (words_appended code s) ∙ pieces_appended (words code) s in
    let both : BothPlaced p t i (marked n s.pieces) more j = both_placed p t i (marked n s.pieces) more j (subst (λ l. PlacedAt p t i l j) is at) in
    subst (λ l. PlacedAt p t i l j) (sym plain) (placed_both p t i both.index j s.pieces more (marked_there p t i n s.pieces both.index both.front_there) both.back_there)

bindings_unmarked : (g : StorageForm) (f : Graph) (p : Program) (t : Targets) (i j n : ℕ) (params : List Binding) (s : CodeState) → PlacedAt p t i (with_bindings g f n params s).pieces j → PlacedAt p t i (with_code (bindings_code g f n params) s).pieces j
bindings_unmarked g f p t i j n [] s at = at
bindings_unmarked g f p t i j n (b ∷ more) s at =
    let front = binding_code g f (argument_register n) b in
    let back = bindings_code g f ((n + 1) % 4294967296) more in
    subst (λ (u : CodeState). PlacedAt p t i u.pieces j) (sym (with_code_then front back s))
    (unmarked p t i j n back (with_code front s) (bindings_unmarked g f p t i j ((n + 1) % 4294967296) more (with_writer n (with_code front s)) at))

-- The words with which a function begins stand where its beginning stands, behind no other code.
pub beginning_there : (g : StorageForm) (f : Graph) (saved : List ℕ) (size : ℕ) (is_main : Bool) (s : CodeState) → s.pieces ≡ [] → (p : Program) (t : Targets) (i j : ℕ)
    → PlacedAt p t i (with_beginning g f saved size is_main s).pieces j → PiecesAt p t i s.begins (words (beginning_code g f saved size is_main)) j
beginning_there g f saved size is_main s none p t i j at =
    let front = guard_code ++ entering_code saved size ++ base_code is_main g.base in
    let back = bindings_code g f 0 f.parameters in
    let a : Appends s.pieces (with_code (beginning_code g f saved size is_main) s).pieces s.begins (words (beginning_code g f saved size is_main)) = code_append (beginning_code g f saved size is_main) s in
    let same : guard_code ++ (entering_code saved size ++ base_code is_main g.base ++ back) ≡ front ++ back =
    sym (append_assoc guard_code (entering_code saved size ++ base_code is_main g.base) back) ∙ ap (λ l. l ++ back) (sym (append_assoc guard_code (entering_code saved size) (base_code is_main g.base))) in
    let stands : PlacedAt p t i (with_code (front ++ back) s).pieces j = subst (λ (u : CodeState). PlacedAt p t i u.pieces j) (sym (with_code_then front back s)) (bindings_unmarked g f p t i j 0 f.parameters (with_code front s) at) in
    let all : PlacedAt p t i (with_code (beginning_code g f saved size is_main) s).pieces j = subst (λ l. PlacedAt p t i (with_code l s).pieces j) (sym same) stands in
    a.there p t i j (subst (λ l. PlacedAt p t i l j) (a.is ∙ ap (λ l. l ++ a.placed) none) all)
