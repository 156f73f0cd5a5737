-- Code of ends, of leaving and of beginnings, as it is appended in parts.
use Rattle.std.proofs.Common.{◌≡◌, ℕ, ◌-◌, ◌<◌, ◌≤◌, sym, ap, ◌∙◌, subst, refl, Option, Some, None, Bool, true, false, cond, List, [], ◌∷◌, ◌++◌}
use Rattle.std.specs.Prelude.{◌==◌, nat_le}
use Rattle.std.proofs.lemmas.Bool.{le-leb, lt-leb}
use Rattle.std.specs.Option.{option_map_or}
use Rattle.word_base.specs.Arithmetic.{subtracted}
use Rattle.rv_code.specs.declared.instruction.BranchOperation.{BranchOperation}
use Rattle.rv_code.specs.declared.instruction.Instruction.{Instruction}
use Rattle.rv_code.specs.declared.instruction.Instruction.TheVariants.{Load, Store, Immediate, Register, Jalr}
use Rattle.rv_code.specs.declared.instruction.LoadOperation.TheVariants.{Lw}
use Rattle.rv_code.specs.declared.instruction.StoreOperation.TheVariants.{Sw}
use Rattle.rv_code.specs.declared.instruction.ImmediateOperation.TheVariants.{Addi}
use Rattle.rv_code.specs.declared.instruction.RegisterOperation.TheVariants.{Add}
use Rattle.graph_core.specs.declared.block.Comparison.{Comparison}
use Rattle.graph_core.specs.Graphs.{Graph}
use Rattle.rv_emit_words.specs.declared.piece.Held.{Held}
use Rattle.rv_emit_words.specs.declared.piece.Piece.{Piece}
use Rattle.rv_emit_words.specs.declared.piece.Piece.TheVariants as piece
use Rattle.rv_emit_storage.specs.declared.storage.Source.{Source}
use Rattle.rv_emit_storage.specs.Storages.{StorageForm}
use Rattle.rv_emit_words.specs.Growing.{CodeState, with_code, with_piece, holder_of}
use Rattle.rv_emit_words.specs.Constants.{is_small, words_of_constant, constant_by, constant_code, holding}
use Rattle.rv_emit_words.specs.Operands.{source_register, fetched_source}
use Rattle.rv_emit_words.specs.Fetching.{most_words_of_source}
use Rattle.rv_emit_words.proofs.Appending.{with_code_then}
use Rattle.rv_emit_instructions.proofs.InParts.{in_two, word_then}
use Rattle.rv_emit_code.specs.Beginning.{guard_code, saving_code, entering_code, base_code, with_bindings, with_beginning}
use Rattle.rv_emit_code.specs.Ends.{words, with_pieces, begins_behind, holding_code, held_with, holding_held, loading_code, loading_held, with_loads, going, going_by, with_jump, Compared, branch_operation, room_of, with_branch}
use Rattle.rv_emit_code.specs.Leaving.{moving_code, words_of_moving, moving_by, restoring_code, of_no_place, with_leaving}

-- ---- Pieces

-- Words as pieces, and others behind them.
pub pieces_then : (code : List Instruction) (more : List Piece) (s : CodeState) → with_pieces (words code ++ more) s ≡ with_pieces more (with_code code s)
pieces_then [] more s = refl
pieces_then (i ∷ code) more s = pieces_then code more (with_piece (piece.Word i) s)

-- Where scratch registers hold other constants, the same is appended.
pub code_reheld : (code : List Instruction) (held : List Held) (s : CodeState) → with_code code (record s { held = held }) ≡ record (with_code code s) { held = held }
code_reheld [] held s = refl
code_reheld (i ∷ code) held s = code_reheld code held (with_piece (piece.Word i) s)

pub pieces_reheld : (more : List Piece) (held : List Held) (s : CodeState) → with_pieces more (record s { held = held }) ≡ record (with_pieces more s) { held = held }
pieces_reheld [] held s = refl
pieces_reheld (x ∷ more) held s = pieces_reheld more held (with_piece x s)

-- Whether a stop has no word yet behind words.
pub begins_then : (code : List Instruction) (s : CodeState) → (with_code code s).begins ≡ begins_behind s.begins code
begins_then [] s = refl
begins_then (i ∷ []) s = refl
begins_then (i ∷ j ∷ code) s = begins_then (j ∷ code) (with_piece (piece.Word i) s)

-- ---- Constants

-- A constant that is to be held: its words, and what is held behind them.
pub held_in_parts : (x : Held) (base : ℕ) (s : CodeState) → holding x base (words_of_constant x.word base) s ≡ record (with_code (holding_code x base s.held) s) { held = holding_held x s.held }
held_in_parts x base s = by_holder (holder_of x.word s.held)
  where
    by_same : (r : ℕ) (same : Bool)
        → cond same s (record (with_code (Immediate Addi x.register r 0 ∷ []) s) { held = held_with x s.held })
        ≡ record (with_code (cond same [] (Immediate Addi x.register r 0 ∷ [])) s) { held = cond same s.held (held_with x s.held) }
    by_same r true = refl
    by_same r false = refl

    made : (code : List Instruction) → (with_code code s).held ≡ s.held
    made [] = refl
    made (i ∷ code) = kept code (with_piece (piece.Word i) s)
      where
        kept : (code : List Instruction) (t : CodeState) → (with_code code t).held ≡ t.held
        kept [] t = refl
        kept (j ∷ code) t = kept code (with_piece (piece.Word j) t)

    by_holder : (found : Option ℕ)
        → option_map_or (λ r. cond (r == x.register) s (record (with_code (Immediate Addi x.register r 0 ∷ []) s) { held = held_with x (with_code (Immediate Addi x.register r 0 ∷ []) s).held })) found
        (record (with_code (constant_by (words_of_constant x.word base) x.register x.word base) s) { held = held_with x (with_code (constant_by (words_of_constant x.word base) x.register x.word base) s).held })
        ≡ record (with_code (option_map_or (λ r. cond (r == x.register) [] (Immediate Addi x.register r 0 ∷ [])) found (constant_by (words_of_constant x.word base) x.register x.word base)) s) {
          held = option_map_or (λ r. cond (r == x.register) s.held (held_with x s.held)) found (held_with x s.held);
        }
    by_holder None = ap (λ l. record (with_code (constant_by (words_of_constant x.word base) x.register x.word base) s) { held = held_with x l }) (made (constant_by (words_of_constant x.word base) x.register x.word base))
    by_holder (Some r) = by_same r (r == x.register)

-- One of the constants is loaded before the others.
pub load_then : (x : Held) (base room : ℕ) (more : List Held) (s t : CodeState) → t ≡ holding x base (words_of_constant x.word base) s
    → with_loads base room more t ≡ record (with_code (holding_code x base s.held ++ loading_code base room more (holding_held x s.held)) s) { held = loading_held base room more (holding_held x s.held) }
load_then x base room more s t is =
    let now : List Held = holding_held x s.held in
    let front = holding_code x base s.held in
    let back = loading_code base room more now in
    ap (with_loads base room more) (is ∙ held_in_parts x base s)
    ∙ ap (λ (u : CodeState). record u { held = loading_held base room more now }) (code_reheld back now (with_code front s) ∙ ap (λ (u : CodeState). record u { held = now }) (sym (with_code_then front back s)))

pub one_loaded : (x : Held) (base room n : ℕ) (more : List Held) (s t : CodeState) → n ≡ words_of_constant x.word base → n ≤ room → t ≡ holding x base n s → with_loads base (room - n) more t ≡ with_loads base room (x ∷ more) s
one_loaded x base room n more s t is fits put =
    let words : ℕ = words_of_constant x.word base in
    let now : List Held = holding_held x s.held in
    let front = holding_code x base s.held in
    let test : nat_le words room ≡ true = le-leb words room (subst (λ k. k ≤ room) is fits) in
    let rest : List Instruction = loading_code base (room - words) more now in
    let later : List Held = loading_held base (room - words) more now in
    ap (λ k. with_loads base (room - k) more t) is
    ∙ load_then x base (room - words) more s t (put ∙ ap (λ k. holding x base k s) is)
    ∙ sym (ap (λ b. record (with_code (cond b (front ++ rest) (loading_code base room more s.held)) s) { held = cond b later (loading_held base room more s.held) }) test)

pub none_loaded : (x : Held) (base room n : ℕ) (more : List Held) (s : CodeState) → n ≡ words_of_constant x.word base → room < n → with_loads base room more s ≡ with_loads base room (x ∷ more) s
none_loaded x base room n more s is lack =
    let words : ℕ = words_of_constant x.word base in
    let now : List Held = holding_held x s.held in
    let front = holding_code x base s.held in
    let test : nat_le words room ≡ false = lt-leb words room (subst (λ k. room < k) is lack) in
    let rest : List Instruction = loading_code base (room - words) more now in
    let later : List Held = loading_held base (room - words) more now in
    sym (ap (λ b. record (with_code (cond b (front ++ rest) (loading_code base room more s.held)) s) { held = cond b later (loading_held base room more s.held) }) test)

-- ---- Where control goes

-- A jump behind the constants that are loaded.
pub jump_in_parts : (g : StorageForm) (loads : List Held) (to next : ℕ) (s t u : CodeState) → t ≡ with_loads g.base 8 loads s → u ≡ with_pieces (going t.begins to next) t → u ≡ with_jump g loads to next s
jump_in_parts g loads to next s t u first second =
    let code = loading_code g.base 8 loads s.held in
    let now : List Held = loading_held g.base 8 loads s.held in
    second
    ∙ ap (λ (v : CodeState). with_pieces (going v.begins to next) v) first
    ∙ ap (λ b. with_pieces (going b to next) (record (with_code code s) { held = now })) (begins_then code s)
    ∙ pieces_reheld (going (begins_behind s.begins code) to next) now (with_code code s)
    ∙ ap (λ (v : CodeState). record v { held = now }) (sym (pieces_then code (going (begins_behind s.begins code) to next) s))

-- A branch behind the constants that are loaded and what is compared.
pub branch_in_parts : (g : StorageForm) (loads : List Held) (x : Compared) (room if_true if_false next : ℕ) (s t u v : CodeState) (l r : ℕ) → room ≡ room_of x
    → t ≡ with_loads g.base room loads s → u ≡ with_code (fetched_source g t.held x.left 6 ++ fetched_source g t.held x.right 7) t
    → l ≡ source_register g t.held x.left 6 → r ≡ source_register g t.held x.right 7
    → v ≡ with_pieces (going_by (branch_operation x.comparison) l r if_true if_false next) u → v ≡ with_branch g loads x if_true if_false next s
branch_in_parts g loads x room if_true if_false next s t u v l r is first second left right last =
    let load = loading_code g.base (room_of x) loads s.held in
    let now : List Held = loading_held g.base (room_of x) loads s.held in
    let fetch = fetched_source g now x.left 6 ++ fetched_source g now x.right 7 in
    let there : t ≡ with_loads g.base (room_of x) loads s = first ∙ ap (λ n. with_loads g.base n loads s) is in
    let held : t.held ≡ now = ap (λ (w : CodeState). w.held) there in
    let ends = going_by (branch_operation x.comparison) (source_register g now x.left 6) (source_register g now x.right 7) if_true if_false next in
    let found : u ≡ record (with_code (load ++ fetch) s) { held = now } =
    second ∙ ap (λ h. with_code (fetched_source g h x.left 6 ++ fetched_source g h x.right 7) t) held ∙ ap (with_code fetch) there ∙ code_reheld fetch now (with_code load s)
    ∙ ap (λ (w : CodeState). record w { held = now }) (sym (with_code_then load fetch s)) in
    last
    ∙ ap (λ n. with_pieces (going_by (branch_operation x.comparison) n r if_true if_false next) u) (left ∙ ap (λ h. source_register g h x.left 6) held)
    ∙ ap (λ n. with_pieces (going_by (branch_operation x.comparison) (source_register g now x.left 6) n if_true if_false next) u) (right ∙ ap (λ h. source_register g h x.right 7) held)
    ∙ ap (with_pieces ends) found
    ∙ pieces_reheld ends now (with_code (load ++ fetch) s)
    ∙ ap (λ (w : CodeState). record w { held = now }) (sym (pieces_then (load ++ fetch) ends s))

-- The same, with what is compared as it is found.
pub branch_by_parts : (g : StorageForm) (loads : List Held) (x : Compared) (k : Comparison) (left right : Source) (one two if_true if_false next : ℕ) (s t u v : CodeState) (op : BranchOperation) (l r : ℕ)
    → k ≡ x.comparison → left ≡ x.left → right ≡ x.right → one ≡ most_words_of_source left → two ≡ most_words_of_source right
    → t ≡ with_loads g.base (6 - one - two) loads s → u ≡ with_code (fetched_source g t.held left 6 ++ fetched_source g t.held right 7) t
    → op ≡ branch_operation k → l ≡ source_register g t.held left 6 → r ≡ source_register g t.held right 7
    → v ≡ with_pieces (going_by op l r if_true if_false next) u → v ≡ with_branch g loads x if_true if_false next s
branch_by_parts g loads x k left right one two if_true if_false next s t u v op l r is_k is_left is_right is_one is_two first second is_op is_l is_r last =
    let room : 6 - one - two ≡ room_of x = ap (λ n. 6 - n - two) (is_one ∙ ap most_words_of_source is_left) ∙ ap (λ n. 6 - most_words_of_source x.left - n) (is_two ∙ ap most_words_of_source is_right) in
    branch_in_parts g loads x (6 - one - two) if_true if_false next s t u v l r room first
    (second ∙ ap (λ z. with_code (fetched_source g t.held z 6 ++ fetched_source g t.held right 7) t) is_left ∙ ap (λ z. with_code (fetched_source g t.held x.left 6 ++ fetched_source g t.held z 7) t) is_right)
    (is_l ∙ ap (λ z. source_register g t.held z 6) is_left) (is_r ∙ ap (λ z. source_register g t.held z 7) is_right)
    (last ∙ ap (λ o. with_pieces (going_by o l r if_true if_false next) u) (is_op ∙ ap branch_operation is_k))

-- ---- Frames

-- The words that move sp are as many as they are said to be.
pub moving_is : (by : ℕ) → moving_by (words_of_moving by) by ≡ moving_code by
moving_is n = by_test (is_small n)
  where
    by_test : (small : Bool) → cond (cond small 1 3 == 1) (Immediate Addi 2 2 n ∷ []) (constant_code 5 n 0 ++ Register Add 2 2 5 ∷ []) ≡ cond small (Immediate Addi 2 2 n ∷ []) (constant_code 5 n 0 ++ Register Add 2 2 5 ∷ [])
    by_test true = refl
    by_test false = refl

-- A function is left.
pub leaving_in_parts : (moves : ℕ) (saved : List ℕ) (size : ℕ) (s t u v w x : CodeState) → t ≡ of_no_place (with_code (Immediate Addi 4 4 1 ∷ []) s) → u ≡ with_code (restoring_code saved 4) t → v ≡ with_code (Load Lw 1 2 0 ∷ []) u
    → w ≡ with_code (moving_by moves size) v → x ≡ with_code (Jalr 0 1 0 ∷ []) w → x ≡ with_leaving moves saved size s
leaving_in_parts moves saved size s t u v w x first second third fourth last =
    in_two (restoring_code saved 4 ++ Load Lw 1 2 0 ∷ moving_by moves size) (Jalr 0 1 0 ∷ []) t w x
    (in_two (restoring_code saved 4) (Load Lw 1 2 0 ∷ moving_by moves size) t u w second (word_then (Load Lw 1 2 0) (moving_by moves size) u v w third fourth)) last
    ∙ ap (with_code (restoring_code saved 4 ++ Load Lw 1 2 0 ∷ moving_by moves size ++ Jalr 0 1 0 ∷ [])) first

-- A function begins.
pub beginning_in_parts : (g : StorageForm) (f : Graph) (saved : List ℕ) (size : ℕ) (is_main : Bool) (moves : ℕ) (s t u v w x y : CodeState) → moves ≡ words_of_moving (subtracted 0 size)
    → t ≡ with_code guard_code s → u ≡ with_code (moving_by moves (subtracted 0 size)) t → v ≡ with_code (Store Sw 1 2 0 ∷ []) u → w ≡ with_code (saving_code saved 4) v → x ≡ with_code (base_code is_main g.base) w
    → y ≡ with_bindings g f 0 f.parameters x → y ≡ with_beginning g f saved size is_main s
beginning_in_parts g f saved size is_main moves s t u v w x y is first second third fourth fifth last =
    let moved : u ≡ with_code (moving_code (subtracted 0 size)) t = second ∙ ap (λ n. with_code (moving_by n (subtracted 0 size)) t) is ∙ ap (λ l. with_code l t) (moving_is (subtracted 0 size)) in
    let entered : w ≡ with_code (entering_code saved size) t = in_two (moving_code (subtracted 0 size)) (Store Sw 1 2 0 ∷ saving_code saved 4) t u w moved (word_then (Store Sw 1 2 0) (saving_code saved 4) u v w third fourth) in
    let all : x ≡ with_code (guard_code ++ entering_code saved size ++ base_code is_main g.base) s =
    in_two (guard_code ++ entering_code saved size) (base_code is_main g.base) s w x (in_two guard_code (entering_code saved size) s t w first entered) fifth in
    last ∙ ap (with_bindings g f 0 f.parameters) all

-- What is set in main alone.
pub base_set : (base : ℕ) (s t : CodeState) → t ≡ with_code (constant_code 3 base 0) s → (is_main : Bool) → is_main ≡ true → t ≡ with_code (base_code is_main base) s
base_set base s t is b holds = is ∙ ap (λ c. with_code (base_code c base) s) (sym holds)

pub base_not_set : (base : ℕ) (s : CodeState) (is_main : Bool) → is_main ≡ false → s ≡ with_code (base_code is_main base) s
base_not_set base s b fails = ap (λ c. with_code (base_code c base) s) (sym fails)
