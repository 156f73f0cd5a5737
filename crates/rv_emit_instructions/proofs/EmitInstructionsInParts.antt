-- Code of loads, stores, calls and of loops over words, as it is appended in parts.
use Rattle.std.proofs.Common.{◌≡◌, ℕ, suc, ◌+◌, ◌-◌, ◌*◌, ◌%◌, ◌<◌, ◌≤◌, ⊎_elim, sym, ap, ◌∙◌, subst, arith, refl, List, [], ◌∷◌, ◌++◌, length, take, drop, map, min, get_or, cond}
use Rattle.std.proofs.Math.Seq.{take-length}
use Rattle.std.proofs.lemmas.Bool.{le-ltb, cases_lt}
use Rattle.rv_code.specs.declared.instruction.Instruction.{Instruction}
use Rattle.rv_code.specs.declared.instruction.Instruction.TheVariants as instruction
use Rattle.rv_code.specs.declared.instruction.LoadOperation.{LoadOperation}
use Rattle.rv_code.specs.declared.instruction.LoadOperation.TheVariants.{Lw}
use Rattle.rv_code.specs.declared.instruction.StoreOperation.{StoreOperation}
use Rattle.rv_code.specs.declared.instruction.StoreOperation.TheVariants.{Sw}
use Rattle.rv_code.specs.declared.instruction.ImmediateOperation.TheVariants.{Addi}
use Rattle.graph_core.specs.declared.instruction.Element.{Element}
use Rattle.graph_core.specs.declared.name.Operand as declared-operand
use Rattle.graph_core.specs.Graphs.{Operand, Location, operand_view}
use Rattle.graph_homes.specs.declared.home.Home.{Home}
use Rattle.rv_emit_words.specs.declared.piece.Held.{Held}
use Rattle.rv_emit_storage.specs.declared.storage.Source.{Source}
use Rattle.rv_emit_storage.specs.Storages.{StorageForm, source_of}
use Rattle.rv_emit_words.specs.Growing.{CodeState, with_code}
use Rattle.rv_emit_words.specs.Constants.{set_constant_code}
use Rattle.rv_emit_words.specs.Operands.{source_register, fetched_source, bringing, result_register, finishing}
use Rattle.rv_emit_instructions.proofs.InParts.{in_two, word_then}
use Rattle.rv_emit_instructions.specs.Memory.{Reach, load_operation, store_operation, reach_of, loading, storing, store_code}
use Rattle.rv_emit_instructions.specs.Filling.{zeros_code, turn_code}
use Rattle.rv_emit_instructions.specs.Calls.{argument_register, forgetting, passed, passed_from}

-- ---- Memory

-- A load behind the words that reach the element.
pub load_in_parts : (g : StorageForm) (target : Home) (e : Element) (r : Reach) (s t u v : CodeState) (op : LoadOperation) (rd base offset : ℕ) → op ≡ load_operation e → rd ≡ result_register target → base ≡ r.base → offset ≡ r.offset
    → t ≡ with_code r.code s → u ≡ with_code (instruction.Load op rd base offset ∷ []) t → v ≡ with_code (finishing g target rd) u → v ≡ with_code (loading g target e r) s
load_in_parts g target e r s t u v op rd base offset is_op is_rd is_base is_offset first second last =
    let i : instruction.Load op rd base offset ≡ instruction.Load (load_operation e) (result_register target) r.base r.offset = cc in
    in_two r.code (instruction.Load (load_operation e) (result_register target) r.base r.offset ∷ finishing g target (result_register target)) s t v first
    (word_then (instruction.Load (load_operation e) (result_register target) r.base r.offset) (finishing g target (result_register target)) t u v
    (subst (λ x. u ≡ with_code (x ∷ []) t) i second) (subst (λ x. v ≡ with_code (finishing g target x) u) is_rd last))

-- A store behind the words that fetch the operand and those that reach the element.
pub store_in_parts : (g : StorageForm) (held now : List Held) (e : Element) (location : Location) (value : Source) (s t u v : CodeState) (op : StoreOperation) (found base offset : ℕ) → now ≡ held
    → op ≡ store_operation e → found ≡ source_register g held value 6 → base ≡ (reach_of g now location).base → offset ≡ (reach_of g now location).offset
    → t ≡ with_code (fetched_source g held value 6) s → u ≡ with_code ((reach_of g now location).code) t → v ≡ with_code (instruction.Store op found base offset ∷ []) u → v ≡ with_code (store_code g held e location value) s
store_in_parts g held now e location value s t u v op found base offset same is_op is_found is_base is_offset first second last =
    let r : Reach = reach_of g held location in
    let base_here : base ≡ r.base = subst (λ h. base ≡ (reach_of g h location).base) same is_base in
    let offset_here : offset ≡ r.offset = subst (λ h. offset ≡ (reach_of g h location).offset) same is_offset in
    let i : instruction.Store op found base offset ≡ instruction.Store (store_operation e) (source_register g held value 6) r.base r.offset = cc in
    in_two (fetched_source g held value 6) (storing e r (source_register g held value 6)) s t v first
    (in_two r.code (instruction.Store (store_operation e) (source_register g held value 6) r.base r.offset ∷ []) t u v (subst (λ h. u ≡ with_code ((reach_of g h location).code) t) same second)
    (subst (λ x. v ≡ with_code (x ∷ []) u) i last))

-- ---- Filling

-- One more word of zeros.
pub zeros_then : (offset n : ℕ) (s t u : CodeState) → t ≡ with_code (zeros_code offset n) s → u ≡ with_code (instruction.Store Sw 0 2 ((offset + n * 4 % 4294967296) % 4294967296) ∷ []) t → u ≡ with_code (zeros_code offset (n + 1)) s
zeros_then offset n s t u first second =
    let next : suc n ≡ n + 1 = omega arith in
    in_two (zeros_code offset n) (instruction.Store Sw 0 2 ((offset + n * 4 % 4294967296) % 4294967296) ∷ []) s t u first second ∙ ap (λ k. with_code (zeros_code offset k) s) next

-- A loop that copies words, behind the words that set it up.
pub copy_in_parts : (g : StorageForm) (held now : List Held) (address limit : List Instruction) (word base : ℕ) (s t u v w x : CodeState) → now ≡ held → t ≡ with_code address s → u ≡ with_code (set_constant_code 7 word base now) t
    → v ≡ with_code limit u → w ≡ with_code (instruction.Load Lw 5 7 0 ∷ instruction.Store Sw 5 6 0 ∷ instruction.Immediate Addi 7 7 4 ∷ []) v → x ≡ with_code (turn_code 10 16) w
    → x ≡ with_code (address ++ set_constant_code 7 word base held ++ limit ++ instruction.Load Lw 5 7 0 ∷ instruction.Store Sw 5 6 0 ∷ instruction.Immediate Addi 7 7 4 ∷ turn_code 10 16) s
copy_in_parts g held now address limit word base s t u v w x same first second third fourth last =
    in_two (address ++ set_constant_code 7 word base held ++ limit) (instruction.Load Lw 5 7 0 ∷ instruction.Store Sw 5 6 0 ∷ instruction.Immediate Addi 7 7 4 ∷ turn_code 10 16) s v x
    (in_two (address ++ set_constant_code 7 word base held) limit s u v (in_two address (set_constant_code 7 word base held) s t u first (subst (λ h. u ≡ with_code (set_constant_code 7 word base h) t) same second)) third)
    (last ∙ ap (with_code (turn_code 10 16)) fourth)

-- ---- Calls

-- Arguments from the eighth on have one register.
far_arguments : (g : StorageForm) (m n : ℕ) (all : List Operand) (s : CodeState) → 8 ≤ m → 8 ≤ n → passed_from g m all s ≡ passed_from g n all s
far_arguments g m n [] s far too = refl
far_arguments g m n (a ∷ more) s far too =
    let one : argument_register m ≡ argument_register n = ap (λ b. cond b (10 + m) 17) (le-ltb m 8 far) ∙ sym (ap (λ b. cond b (10 + n) 17) (le-ltb n 8 too)) in
    far_arguments g (m + 1) (n + 1) more (passed g m a s) (omega arith) (omega arith)
    ∙ ap (passed_from g (n + 1) more) (ap (λ r. forgetting r (with_code (bringing g s.held r (source_of g a)) s)) one)

-- The number of the next argument is one more, or 255.
next_number : (g : StorageForm) (n next : ℕ) (all : List Operand) (s : CodeState) → n ≤ 255 → next ≡ min (n + 1) 255 → passed_from g next all s ≡ passed_from g (n + 1) all s
next_number g n next all s small is = ⊎_elim
    (λ (low : n < 255). let same : next ≡ n + 1 = omega (arith, is, low) in ap (λ k. passed_from g k all s) same)
    (λ (high : 255 ≤ n). far_arguments g next (n + 1) all s (omega (arith, is, high)) (omega (arith, high)))
    (cases_lt n 255)

rest_is : (y : declared-operand.Operand) (left : List declared-operand.Operand) → take (length (y ∷ left) - 1) (drop 1 (y ∷ left)) ≡ left
rest_is y left = let count : length (y ∷ left) - 1 ≡ length left = omega arith in ap (λ n. take n left) count ∙ take-length left

-- One argument is passed, and the others are left.
pub one_passed : (g : StorageForm) (left : List declared-operand.Operand) (d : declared-operand.Operand) (n next : ℕ) (s t : CodeState) → 1 ≤ length left → n ≤ 255 → next ≡ min (n + 1) 255
    → t ≡ passed g n (operand_view (get_or left 0 d)) s → passed_from g next (map operand_view (take (length left - 1) (drop 1 left))) t ≡ passed_from g n (map operand_view left) s
one_passed g [] d n next s t some small number put = absurd (omega arith)
one_passed g (y ∷ left) d n next s t some small number put =
    ap (λ l. passed_from g next (map operand_view l) t) (rest_is y left) ∙ next_number g n next (map operand_view left) t small number ∙ ap (passed_from g (n + 1) (map operand_view left)) put

pub fewer : (left : List declared-operand.Operand) → 1 ≤ length left → 3 * length (take (length left - 1) (drop 1 left)) + 3 ≡ 3 * length left
fewer [] some = absurd (omega arith)
fewer (y ∷ left) some = let e : length (take (length (y ∷ left) - 1) (drop 1 (y ∷ left))) ≡ length left = ap (λ (l : List declared-operand.Operand). length l) (rest_is y left) in omega (arith, e)
