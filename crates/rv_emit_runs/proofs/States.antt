-- Code as it grows by an instruction: what it appends stands as words do, and what is known behind it.
use Rattle.std.proofs.Common.{◌≡◌, ℕ, ◌+◌, ◌-◌, ◌<◌, ◌≤◌, inl, inr, sym, ap, ◌∙◌, subst, arith, refl, Option, Some, None, Bool, false, List, [], ◌∷◌, ◌++◌, length, length-append}
use Rattle.std.specs.Prelude.{option_map}
use Rattle.rv_code.specs.declared.instruction.Instruction.{Instruction as MachineInstruction}
use Rattle.rv_code.specs.declared.instruction.Instruction.TheVariants as instruction
use Rattle.rv_code.specs.declared.instruction.ImmediateOperation.TheVariants.{Addi}
use Rattle.graph_core.specs.declared.instruction.Callee.TheVariants as callee
use Rattle.graph_core.specs.Graphs.{Operand}
use Rattle.rv_emit_words.specs.declared.piece.Held.{Held}
use Rattle.rv_emit_words.specs.declared.piece.Piece.{Piece}
use Rattle.rv_emit_words.specs.declared.piece.Piece.TheVariants as piece
use Rattle.rv_emit_words.specs.declared.piece.PlacedPiece.{PlacedPiece}
use Rattle.rv_emit_storage.specs.Storages.{StorageForm, home_at, source_of}
use Rattle.rv_emit_words.specs.Growing.{CodeState, with_code, with_piece, forgotten}
use Rattle.rv_emit_words.specs.Operands.{bringing}
use Rattle.rv_emit_words.proofs.Appending.{with_code_then, with_code_held}
use Rattle.rv_emit_instructions.specs.Calls.{argument_register, passed, passed_from, environment_called, answered, with_call}
use Rattle.rv_emit_steps.specs.Programs.{Program, distance, IsAt, CodeAt, behind}
use Rattle.rv_emit_code.specs.Ends.{words}
use Rattle.rv_emit_code.proofs.Growing.{code_reheld, begins_then}
use Rattle.rv_emit_runs.specs.Passing.{passing_code, passing_held}
use Rattle.rv_emit_runs.specs.Pieces.{Targets, PieceAt, IsJump}
use Rattle.rv_emit_runs.specs.Placed.{PlacedAt}
use Rattle.rv_emit_runs.specs.Returns.{answer_code}
use Rattle.rv_emit_runs.proofs.Appended.{BothPlaced, both_placed}
use Rattle.rv_emit_runs.proofs.Grown.{Appends, code_append}
use Rattle.rv_emit_runs.proofs.Placed.{behind_none, begins_is, jump_long, jump_short, piece_long, words_alone}

-- Where code begins to grow, of a place, with constants held, and a stop that has no word yet or none.
abbrev pub growing : (held : List Held) (owner : ℕ) (begins : Bool) → CodeState
growing held owner b = record { pieces = []; held = held; owner = owner; begins = b }

-- What code is as it goes on to grow, whatever pieces it has.
abbrev pub going_on_from : CodeState → CodeState
going_on_from s = growing s.held s.owner s.begins

-- ---- Words

pub code_goes_on : (code : List MachineInstruction) (s : CodeState) → going_on_from (with_code code s) ≡ growing s.held s.owner (behind s.begins code)
code_goes_on [] s = refl
code_goes_on (i ∷ code) s = code_goes_on code (with_piece (piece.Word i) s) ∙ ap (λ b. growing s.held s.owner b) (behind_none code)

code_owner : (code : List MachineInstruction) (s : CodeState) → (with_code code s).owner ≡ s.owner
code_owner code s = ap (λ (t : CodeState). t.owner) (code_goes_on code s)

code_begins : (code : List MachineInstruction) (s : CodeState) → (with_code code s).begins ≡ behind s.begins code
code_begins code s = begins_then code s ∙ begins_is s.begins code

-- Words that were appended to no pieces stand as words do.
pub code_there : (p : Program) (t : Targets) (i k : ℕ) (code : List MachineInstruction) (s : CodeState) → s.pieces ≡ [] → PlacedAt p t i (with_code code s).pieces k → CodeAt p i s.begins code × (k ≡ i + length code)
code_there p t i k code s none at =
    let more : Appends s.pieces (with_code code s).pieces s.begins (words code) = code_append code s in
    words_alone p t i s.begins code k (more.there p t i k (subst (λ l. PlacedAt p t i l k) (more.is ∙ ap (λ l. l ++ more.placed) none) at))

-- Those that were appended to others stand behind them.
pub record CodeBehind (p : Program) (t : Targets) (i k : ℕ) (before : List PlacedPiece) (b : Bool) (code : List MachineInstruction) : Type 0 where
  pub index : ℕ
  pub before_there : PlacedAt p t i before index
  pub there : CodeAt p index b code
  pub is : k ≡ index + length code

pub code_behind : (p : Program) (t : Targets) (i k : ℕ) (code : List MachineInstruction) (s : CodeState) → PlacedAt p t i (with_code code s).pieces k → CodeBehind p t i k s.pieces s.begins code
code_behind p t i k code s at =
    let more : Appends s.pieces (with_code code s).pieces s.begins (words code) = code_append code s in
    let both : BothPlaced p t i s.pieces more.placed k = both_placed p t i s.pieces more.placed k (subst (λ l. PlacedAt p t i l k) more.is at) in
    let alone = words_alone p t both.index s.begins code k (more.there p t both.index k both.back_there) in
    record { index = both.index; before_there = both.front_there; there = alone.0; is = alone.1 }

-- ---- Indices

-- A piece has a word.
piece_some : (p : Program) (t : Targets) (i : ℕ) (b : Bool) (x : Piece) (k : ℕ) → PieceAt p t i b x k → i < k
piece_some p t i b x k at = let long = piece_long p t i b x k at in omega (arith, long)

-- What stands behind pieces stands at no lower index.
pub placed_within : (p : Program) (t : Targets) (i : ℕ) (all : List PlacedPiece) (j : ℕ) → PlacedAt p t i all j → i ≤ j
placed_within p t i [] j there = omega (arith, there)
placed_within p t i (x ∷ more) j (k, at, of, rest) =
    let one = piece_some p t i x.is_stop x.piece k at in
    let later = placed_within p t k more j rest in
    omega (arith, one, later)

-- Pieces have no fewer words than they are.
pub placed_long : (p : Program) (t : Targets) (i : ℕ) (all : List PlacedPiece) (j : ℕ) → PlacedAt p t i all j → i + length all ≤ j
placed_long p t i [] j there = omega (arith, there)
placed_long p t i (x ∷ more) j (k, at, of, rest) =
    let one = piece_some p t i x.is_stop x.piece k at in
    let later = placed_long p t k more j rest in
    omega (arith, one, later)

-- The code of words has as many pieces.
pub pieces_of_code : (code : List MachineInstruction) (s : CodeState) → length (with_code code s).pieces ≡ length s.pieces + length code
pieces_of_code [] s = omega arith
pieces_of_code (i ∷ code) s =
    let rest = pieces_of_code code (with_piece (piece.Word i) s) in
    let one = length-append s.pieces ((record { piece = piece.Word i; owner = s.owner; is_stop = s.begins; writes = None }) ∷ []) in
    omega (arith, rest, one)

-- The first word of a piece belongs to its place.
pub first_owned : (p : Program) (t : Targets) (i : ℕ) (x : PlacedPiece) (more : List PlacedPiece) (j : ℕ) → PlacedAt p t i (x ∷ more) j → t.owner i ≡ x.owner
first_owned p t i x more j (k, at, of, rest) = of i (omega arith) (piece_some p t i x.is_stop x.piece k at)

-- ---- Calls

-- Arguments are passed by their words, behind which other constants are held.
pub passed_is : (g : StorageForm) (n : ℕ) (all : List Operand) (s : CodeState) → passed_from g n all s ≡ record (with_code (passing_code g n s.held all) s) { held = passing_held n s.held all }
passed_is g n [] s = refl
passed_is g n (a ∷ more) s =
    let r : ℕ = argument_register n in
    let code = bringing g s.held r (source_of g a) in
    let s1 : CodeState = record (with_code code s) { held = forgotten r s.held } in
    let first : passed g n a s ≡ s1 = ap (λ l. record (with_code code s) { held = forgotten r l }) (with_code_held code s) in
    let later : List MachineInstruction = passing_code g (n + 1) (forgotten r s.held) more in
    let held : List Held = passing_held (n + 1) (forgotten r s.held) more in
    ap (passed_from g (n + 1) more) first
    ∙ passed_is g (n + 1) more s1
    ∙ ap (λ (u : CodeState). record u { held = held }) (code_reheld later (forgotten r s.held) (with_code code s))
    ∙ ap (λ (u : CodeState). record u { held = held }) (sym (with_code_then code later s))

-- What is in a0 is written to the target, if there is one.
pub answered_is : (g : StorageForm) (target : Option ℕ) (s : CodeState) → answered g target s ≡ with_code (answer_code g (option_map (home_at g) target)) s
answered_is g None s = refl
answered_is g (Some x) s = refl

-- A call of the environment, by its number.
environment_is : (g : StorageForm) (target : Option ℕ) (n : ℕ) (all : List Operand) (s : CodeState)
    → answered g target (environment_called n (passed_from g 0 all s))
    ≡ record (with_code (passing_code g 0 s.held all ++ instruction.Immediate Addi 17 0 n ∷ instruction.Ecall ∷ answer_code g (option_map (home_at g) target)) s) { held = forgotten 17 (passing_held 0 s.held all) }
environment_is g target n all s =
    let passing : List MachineInstruction = passing_code g 0 s.held all in
    let held : List Held = forgotten 17 (passing_held 0 s.held all) in
    let call : List MachineInstruction = instruction.Immediate Addi 17 0 n ∷ instruction.Ecall ∷ [] in
    let answer : List MachineInstruction = answer_code g (option_map (home_at g) target) in
    ap (λ u. answered g target (environment_called n u)) (passed_is g 0 all s)
    ∙ answered_is g target (record (with_code call (with_code passing s)) { held = held })
    ∙ code_reheld answer held (with_code call (with_code passing s))
    ∙ ap (λ (u : CodeState). record u { held = held }) (sym (with_code_then passing (instruction.Immediate Addi 17 0 n ∷ instruction.Ecall ∷ answer) s))

pub getchar_is : (g : StorageForm) (target : Option ℕ) (all : List Operand) (s : CodeState)
    → with_call g target callee.Getchar all s ≡ record (with_code (passing_code g 0 s.held all ++ instruction.Immediate Addi 17 0 1 ∷ instruction.Ecall ∷ answer_code g (option_map (home_at g) target)) s) { held = forgotten 17 (passing_held 0 s.held all) }
getchar_is g target all s = environment_is g target 1 all s

pub putchar_is : (g : StorageForm) (target : Option ℕ) (all : List Operand) (s : CodeState)
    → with_call g target callee.Putchar all s ≡ record (with_code (passing_code g 0 s.held all ++ instruction.Immediate Addi 17 0 2 ∷ instruction.Ecall ∷ answer_code g (option_map (home_at g) target)) s) { held = forgotten 17 (passing_held 0 s.held all) }
putchar_is g target all s = environment_is g target 2 all s

pub exit_is : (g : StorageForm) (target : Option ℕ) (all : List Operand) (s : CodeState)
    → with_call g target callee.Exit all s ≡ record (with_code (passing_code g 0 s.held all ++ instruction.Immediate Addi 17 0 10 ∷ instruction.Ecall ∷ answer_code g (option_map (home_at g) target)) s) { held = forgotten 17 (passing_held 0 s.held all) }
exit_is g target all s = environment_is g target 10 all s

-- A function.
abbrev pub function_called : StorageForm → (target : Option ℕ) → (function : ℕ) → List Operand → CodeState → CodeState
function_called g target f all s = with_code (answer_code g (option_map (home_at g) target)) (with_piece (piece.Call f) (record (with_code (passing_code g 0 s.held all) s) { held = [] }))

pub function_is : (g : StorageForm) (target : Option ℕ) (f : ℕ) (all : List Operand) (s : CodeState) → with_call g target (callee.Function f) all s ≡ function_called g target f all s
function_is g target f all s =
    ap (λ (u : CodeState). answered g target (with_piece (piece.Call f) (record u { held = [] }))) (passed_is g 0 all s)
    ∙ answered_is g target (with_piece (piece.Call f) (record (with_code (passing_code g 0 s.held all) s) { held = [] }))

pub function_goes_on : (g : StorageForm) (target : Option ℕ) (f : ℕ) (all : List Operand) (s : CodeState) → going_on_from (function_called g target f all s) ≡ growing [] s.owner false
function_goes_on g target f all s =
    let passing : List MachineInstruction = passing_code g 0 s.held all in
    let answer : List MachineInstruction = answer_code g (option_map (home_at g) target) in
    code_goes_on answer (with_piece (piece.Call f) (record (with_code passing s) { held = [] }))
    ∙ ap (λ b. growing [] (with_code passing s).owner b) (behind_none answer)
    ∙ ap (λ o. growing [] o false) (code_owner passing s)

-- Its pieces.
pub called_pieces : (g : StorageForm) (target : Option ℕ) (f : ℕ) (all : List Operand) (s : CodeState)
    → length (function_called g target f all s).pieces ≡ length s.pieces + length (passing_code g 0 s.held all) + 1 + length (answer_code g (option_map (home_at g) target))
called_pieces g target f all s =
    let passing : List MachineInstruction = passing_code g 0 s.held all in
    let answer : List MachineInstruction = answer_code g (option_map (home_at g) target) in
    let s1 : CodeState = with_code passing s in
    let front = pieces_of_code passing s in
    let one = length-append s1.pieces ((record { piece = piece.Call f; owner = s1.owner; is_stop = s1.begins; writes = None }) ∷ []) in
    let last = pieces_of_code answer (with_piece (piece.Call f) (record s1 { held = [] })) in
    omega (arith, front, one, last)

-- Its words, where they stand: the arguments are passed, the function is called by one word or two of the place in force, and the result is written behind them.
pub record CallThere (p : Program) (t : Targets) (i k : ℕ) (passing : List MachineInstruction) (b : Bool) (owner f : ℕ) (answer : List MachineInstruction) : Type 0 where
  pub passes : CodeAt p i b passing
  pub after : ℕ
  pub calls : IsJump p (i + length passing) (behind b passing) 1 1 (t.function f) after
  pub owned : t.owner (after - 1) ≡ owner
  pub answers : CodeAt p after false answer
  pub is : k ≡ after + length answer
  pub some : i + length passing + 1 ≤ after
  pub few : after ≤ i + length passing + 2

pub function_there : (p : Program) (t : Targets) (i k : ℕ) (g : StorageForm) (target : Option ℕ) (f : ℕ) (all : List Operand) (s : CodeState) → s.pieces ≡ [] → PlacedAt p t i (function_called g target f all s).pieces k
    → CallThere p t i k (passing_code g 0 s.held all) s.begins s.owner f (answer_code g (option_map (home_at g) target))
function_there p t i k g target f all s none at =
    let passing : List MachineInstruction = passing_code g 0 s.held all in
    let answer : List MachineInstruction = answer_code g (option_map (home_at g) target) in
    let s1 : CodeState = with_code passing s in
    let last : PlacedPiece = record { piece = piece.Call f; owner = s1.owner; is_stop = s1.begins; writes = None } in
    let behind_it : CodeBehind p t i k (s1.pieces ++ last ∷ []) false answer = code_behind p t i k answer (with_piece (piece.Call f) (record s1 { held = [] })) at in
    let both : BothPlaced p t i s1.pieces (last ∷ []) behind_it.index = both_placed p t i s1.pieces (last ∷ []) behind_it.index behind_it.before_there in
    let front = code_there p t i both.index passing s none both.front_there in
    parts (front.0) both.index front.1 behind_it.index both.back_there behind_it.there behind_it.is
  where
    parts : CodeAt p i s.begins (passing_code g 0 s.held all) → (n : ℕ) → n ≡ i + length (passing_code g 0 s.held all) → (m : ℕ)
        → PlacedAt p t n ((record { piece = piece.Call f; owner = (with_code (passing_code g 0 s.held all) s).owner; is_stop = (with_code (passing_code g 0 s.held all) s).begins; writes = None }) ∷ []) m
        → CodeAt p m false (answer_code g (option_map (home_at g) target)) → k ≡ m + length (answer_code g (option_map (home_at g) target))
        → CallThere p t i k (passing_code g 0 s.held all) s.begins s.owner f (answer_code g (option_map (home_at g) target))
    parts passes n same m (j, call, of, end) answers is =
        let passing : List MachineInstruction = passing_code g 0 s.held all in
        let long = jump_long p n (with_code (passing_code g 0 s.held all) s).begins 1 1 (t.function f) j call in
        let short = jump_short p n (with_code (passing_code g 0 s.held all) s).begins 1 1 (t.function f) j call in
        record {
          passes = passes;
          after = m;
          calls = subst (λ q. IsJump p q (behind s.begins passing) 1 1 (t.function f) m) same
              (subst (λ c. IsJump p n c 1 1 (t.function f) m) (code_begins passing s) (subst (λ k. IsJump p n (with_code (passing_code g 0 s.held all) s).begins 1 1 (t.function f) k) (sym end) call));
          owned = of (m - 1) (omega (arith, long, end)) (omega (arith, long, end)) ∙ code_owner passing s;
          answers = answers;
          is = is;
          some = omega (arith, long, end, same);
          few = omega (arith, short, end, same);
        }
