-- What disturbs a variable in an image assigns it, or has a word that may write its home.
use Rattle.std.proofs.Common.{◌≡◌, ◌≢◌, ◌⊎◌, inl, inr, ℕ, zero, suc, ◌+◌, ◌-◌, ◌*◌, ◌/◌, ◌%◌, ◌<◌, ◌≤◌, Bool, true, false, Option, Some, None, List, [], map, slice_get, refl, sym, ap, ◌∙◌, subst, arith}
use Rattle.std.specs.Prelude.{◌==◌, ◌&&◌, nat_le, if◌then◌else◌, slice_index, option_and_then, option_map, IsSomeAnd}
use Rattle.std.specs.Option.{option_map_or}
use Rattle.std.proofs.lemmas.Bool.{eqb-true, leb-true}
use Rattle.std.proofs.lemmas.Option.{none-some, same_Some}
use Rattle.base_laws.proofs.Booleans.{and_left, and_right, either}
use Rattle.base_laws.proofs.Lists.{all_at, map_at}
use Rattle.rv_code.specs.declared.instruction.Instruction.{Instruction}
use Rattle.rv_code.specs.declared.instruction.Instruction.TheVariants.{Lui, Auipc, Jal, Jalr, Branch, Load, Store, Immediate, Register as OnRegisters, Fence, Ecall, Ebreak}
use Rattle.rv_code.specs.declared.instruction.RegisterOperation.{RegisterOperation}
use Rattle.rv_code.specs.declared.instruction.RegisterOperation.TheVariants.{Add, Sub, Sll, Slt, Sltu, Xor, Srl, Sra, Or, And, Mul, Mulh, Mulhsu, Mulhu, Div, Divu, Rem, Remu}
use Rattle.rv_code.specs.declared.instruction.StoreOperation.{StoreOperation}
use Rattle.rv_code.specs.Decoding.{decoded}
use Rattle.graph_core.specs.Graphs.{Graph, Scalar}
use Rattle.graph_core.specs.WellMarked.{IsVariable}
use Rattle.graph_homes.specs.declared.home.Home.{Home}
use Rattle.graph_homes.specs.declared.home.Home.TheVariants as home
use Rattle.graph_homes.specs.Homed.{HomedForm, home_of}
use Rattle.places.specs.Flow.{assigns}
use Rattle.c_tree.specs.Programs.{ProgramTree}
use Rattle.rv_emit_storage.specs.Storages.{StorageForm, slot_at}
use Rattle.rv_emit_tables.specs.Emitted.{FunctionCode}
use Rattle.rv_emit_steps.specs.Programs.{address_of}
use Rattle.rv_emit_runs.specs.Laid.{code_of}
use Rattle.rv_emit_runs.specs.Writing.{IsSpelledAt, MakesRegister, MayStore, MayWrite, near, far}
use Rattle.image_form.specs.Form.{Form}
use Rattle.image_form.specs.Rules.{IsImage}
use Rattle.image_form.specs.RulesOfFunctions.{IsFunction, first_code_address}
use Rattle.image_form.specs.RulesOfVariables.{IsKept, IsKeptInFunction, IsVariable as IsVariableOf}
use Rattle.image_form.specs.declared.tables.Function.{Function}
use Rattle.image_form.specs.declared.variables.Storage.{Storage}
use Rattle.image_form.specs.declared.variables.Storage.TheVariants as storage
use Rattle.image_form.specs.declared.variables.Variable.{Variable}
use Rattle.image_build_tables.specs.Spans.{Span, code_span, span}
use Rattle.image_build_tables.specs.Storages.{storage_of}
use Rattle.image_build_tables.specs.Variables.{bounded_count}
use Rattle.image_truth_units.specs.Units.{HasVariablesIn}
use Rattle.image_truth_units.proofs.Kept.{scalar_kept}
use Rattle.stop_engine_view.specs.Evidence.{assignment_of}
use Rattle.stop_engine_view.specs.HomeWrites.{adds_sp, any_from, disturbs, far_offset, has_result_in, is_sum, is_word_store, is_written_in, owns_writer, spelled_at, stored_behind, stores_far, stores_near, upper_of, writes_home}
use Rattle.image_build.specs.Evidence.{OwnsWriter}
use Rattle.image_build.specs.Made.{IsMadeOfCode}
use Rattle.image_build.specs.Tables.{HasTablesOf}

-- ---- Tests of what there may be

-- A test passes what is there.
tested : {A : Type 0} (test : A → Bool) (o : Option A) → option_map_or test o false ≡ true → (x : A) × (o ≡ Some x) × (test x ≡ true)
tested test None e = absurd cc
tested test (Some x) e = (x, refl, e)

taken : {A B : Type 0} (f : A → Option B) (o : Option A) (y : B) → option_and_then f o ≡ Some y → (x : A) × (o ≡ Some x) × (f x ≡ Some y)
taken f None y e = absurd (none-some y e)
taken f (Some x) y e = (x, refl, e)

-- Of some numbers one passes.
any_found : (test : ℕ → Bool) (first count : ℕ) → any_from test first count ≡ true → (n : ℕ) × (first ≤ n) × (n < first + count) × (test n ≡ true)
any_found test first zero e = absurd cc
any_found test first (suc count) e = elim (either (test first) (any_from test (first + 1) count) e) [
  | inl here ↦ (first, omega arith, omega arith, here)
  | inr later ↦ let n = any_found test (first + 1) count later in let low = n.1 in let high = n.2 in (n.0, omega (arith, low), omega (arith, high), n.3)
]

-- ---- Words that write homes

spelled : (code : List ℕ) (index : ℕ) (i : Instruction) → spelled_at code index ≡ Some i → IsSpelledAt code index i
spelled code index i is = taken decoded (slice_get code index) i is

makes : (r : ℕ) (i : Instruction) → has_result_in r i ≡ true → MakesRegister r i
makes r (Lui d n) e = eqb-true d r e
makes r (Auipc d n) e = eqb-true d r e
makes r (Jal d n) e = eqb-true d r e
makes r (Jalr d base n) e = eqb-true d r e
makes r (Branch op a b n) e = absurd cc
makes r (Load op d base n) e = eqb-true d r e
makes r (Store op v base n) e = absurd cc
makes r (Immediate op d a n) e = eqb-true d r e
makes r (OnRegisters op d a b) e = eqb-true d r e
makes r (Fence a b n) e = absurd cc
makes r Ecall e = absurd cc
makes r Ebreak e = absurd cc

-- a word is stored behind a register
stored : (base n : ℕ) (i : Instruction) → stored_behind base i ≡ Some n → (op : StoreOperation) × (v : ℕ) × (i ≡ Store op v base n)
stored base n (Store op v b k) e = by_test (is_word_store op && b == base) refl e
  where
    by_test : (t : Bool) → (is_word_store op && b == base) ≡ t → (if t then Some k else None) ≡ Some n → (o : StoreOperation) × (w : ℕ) × (Store op v b k ≡ Store o w base n)
    by_test true t same = (op, v, ap (λ c. Store op v c k) (eqb-true b base (and_right (is_word_store op) (b == base) t)) ∙ ap (λ c. Store op v base c) (same_Some k n same))
    by_test false t same = absurd (none-some n same)
stored base n (Lui d k) e = absurd (none-some n e)
stored base n (Auipc d k) e = absurd (none-some n e)
stored base n (Jal d k) e = absurd (none-some n e)
stored base n (Jalr d b k) e = absurd (none-some n e)
stored base n (Branch op a b k) e = absurd (none-some n e)
stored base n (Load op d b k) e = absurd (none-some n e)
stored base n (Immediate op d a k) e = absurd (none-some n e)
stored base n (OnRegisters op d a b) e = absurd (none-some n e)
stored base n (Fence a b k) e = absurd (none-some n e)
stored base n Ecall e = absurd (none-some n e)
stored base n Ebreak e = absurd (none-some n e)

-- t0 gets an upper part
upper_set : (n : ℕ) (i : Instruction) → upper_of i ≡ Some n → i ≡ Lui 5 n
upper_set n (Lui d k) e = by_test (d == 5) refl e
  where
    by_test : (t : Bool) → (d == 5) ≡ t → (if t then Some k else None) ≡ Some n → Lui d k ≡ Lui 5 n
    by_test true t same = ap (λ c. Lui c k) (eqb-true d 5 t) ∙ ap (λ c. Lui 5 c) (same_Some k n same)
    by_test false t same = absurd (none-some n same)
upper_set n (Auipc d k) e = absurd (none-some n e)
upper_set n (Jal d k) e = absurd (none-some n e)
upper_set n (Jalr d b k) e = absurd (none-some n e)
upper_set n (Branch op a b k) e = absurd (none-some n e)
upper_set n (Load op d b k) e = absurd (none-some n e)
upper_set n (Store op v b k) e = absurd (none-some n e)
upper_set n (Immediate op d a k) e = absurd (none-some n e)
upper_set n (OnRegisters op d a b) e = absurd (none-some n e)
upper_set n (Fence a b k) e = absurd (none-some n e)
upper_set n Ecall e = absurd (none-some n e)
upper_set n Ebreak e = absurd (none-some n e)

sum_is : (op : RegisterOperation) → is_sum op ≡ true → op ≡ Add
sum_is Add e = refl
sum_is Sub e = absurd cc
sum_is Sll e = absurd cc
sum_is Slt e = absurd cc
sum_is Sltu e = absurd cc
sum_is Xor e = absurd cc
sum_is Srl e = absurd cc
sum_is Sra e = absurd cc
sum_is Or e = absurd cc
sum_is And e = absurd cc
sum_is Mul e = absurd cc
sum_is Mulh e = absurd cc
sum_is Mulhsu e = absurd cc
sum_is Mulhu e = absurd cc
sum_is Div e = absurd cc
sum_is Divu e = absurd cc
sum_is Rem e = absurd cc
sum_is Remu e = absurd cc

-- sp is added to t0
sp_added : (i : Instruction) → adds_sp i ≡ true → i ≡ OnRegisters Add 5 5 2
sp_added (OnRegisters op d a b) e =
    let three : ((is_sum op && d == 5) && a == 5) ≡ true = and_left ((is_sum op && d == 5) && a == 5) (b == 2) e in
    let two : (is_sum op && d == 5) ≡ true = and_left (is_sum op && d == 5) (a == 5) three in
    ap (λ o. OnRegisters o d a b) (sum_is op (and_left (is_sum op) (d == 5) two))
    ∙ ap (λ c. OnRegisters Add c a b) (eqb-true d 5 (and_right (is_sum op) (d == 5) two))
    ∙ ap (λ c. OnRegisters Add 5 c b) (eqb-true a 5 (and_right (is_sum op && d == 5) (a == 5) three))
    ∙ ap (λ c. OnRegisters Add 5 5 c) (eqb-true b 2 (and_right ((is_sum op && d == 5) && a == 5) (b == 2) e))
sp_added (Lui d k) e = absurd cc
sp_added (Auipc d k) e = absurd cc
sp_added (Jal d k) e = absurd cc
sp_added (Jalr d b k) e = absurd cc
sp_added (Branch op a b k) e = absurd cc
sp_added (Load op d b k) e = absurd cc
sp_added (Store op v b k) e = absurd cc
sp_added (Immediate op d a k) e = absurd cc
sp_added (Fence a b k) e = absurd cc
sp_added Ecall e = absurd cc
sp_added Ebreak e = absurd cc

-- A word spells an instruction, by another writing of its number and of the instruction.
spelled_there : (code : List ℕ) (j k : ℕ) (i wanted : Instruction) → j ≡ k → i ≡ wanted → spelled_at code j ≡ Some i → IsSpelledAt code k wanted
spelled_there code j k i wanted same this is = subst (λ n. IsSpelledAt code n wanted) same (subst (IsSpelledAt code j) this (spelled code j i is))

near_may : (code : List ℕ) (offset index : ℕ) → stores_near code offset index ≡ true → MayStore code offset index
near_may code offset index e =
    let found = tested (λ n. n == offset) (option_and_then (stored_behind 2) (spelled_at code index)) e in
    let word = taken (stored_behind 2) (spelled_at code index) found.0 found.1 in
    let store = stored 2 found.0 word.0 word.2 in
    let at : found.0 ≡ offset = eqb-true found.0 offset found.2 in
    near store.0 store.1 found.0 (spelled_there code index index word.0 (Store store.0 store.1 2 found.0) refl store.2 word.1) (omega (arith, at), omega (arith, at))

far_may : (code : List ℕ) (offset index : ℕ) → stores_far code offset index ≡ true → MayStore code offset index
far_may code offset index e =
    let found = tested (λ n. n == offset) (far_offset code index) e in
    by_test (nat_le 2 index && option_map_or adds_sp (spelled_at code (index - 1)) false) refl found.0 found.1 (eqb-true found.0 offset found.2)
  where
    by_test : (t : Bool) → (nat_le 2 index && option_map_or adds_sp (spelled_at code (index - 1)) false) ≡ t → (at : ℕ)
        → (if t then option_and_then (λ upper. option_and_then (λ n. Some ((upper * 4096 + n) % 4294967296)) (option_and_then (stored_behind 5) (spelled_at code index))) (option_and_then upper_of (spelled_at code (index - 2))) else None) ≡ Some at
        → at ≡ offset → MayStore code offset index
    by_test false t at is same = absurd (none-some at is)
    by_test true t at is same =
        let some : 2 ≤ index = leb-true 2 index (and_left (nat_le 2 index) (option_map_or adds_sp (spelled_at code (index - 1)) false) t) in
        let sum = tested adds_sp (spelled_at code (index - 1)) (and_right (nat_le 2 index) (option_map_or adds_sp (spelled_at code (index - 1)) false) t) in
        let upper = taken (λ u. option_and_then (λ n. Some ((u * 4096 + n) % 4294967296)) (option_and_then (stored_behind 5) (spelled_at code index))) (option_and_then upper_of (spelled_at code (index - 2))) at is in
        let high = taken upper_of (spelled_at code (index - 2)) upper.0 upper.1 in
        let low = taken (λ n. Some ((upper.0 * 4096 + n) % 4294967296)) (option_and_then (stored_behind 5) (spelled_at code index)) at upper.2 in
        let word = taken (stored_behind 5) (spelled_at code index) low.0 low.1 in
        let store = stored 5 low.0 word.0 word.2 in
        let reach : (upper.0 * 4096 + low.0) % 4294967296 ≡ offset = same_Some ((upper.0 * 4096 + low.0) % 4294967296) at low.2 ∙ same in
        let first : IsSpelledAt code (index - 2) (Lui 5 upper.0) = spelled_there code (index - 2) (index - 2) high.0 (Lui 5 upper.0) refl (upper_set upper.0 high.0 high.2) high.1 in
        let second : IsSpelledAt code (index - 2 + 1) (OnRegisters Add 5 5 2) = spelled_there code (index - 1) (index - 2 + 1) sum.0 (OnRegisters Add 5 5 2) (omega (arith, some)) (sp_added sum.0 sum.2) sum.1 in
        let third : IsSpelledAt code (index - 2 + 1 + 1) (Store store.0 store.1 5 low.0) = spelled_there code index (index - 2 + 1 + 1) word.0 (Store store.0 store.1 5 low.0) (omega (arith, some)) store.2 word.1 in
        far store.0 store.1 (index - 2) upper.0 low.0 (omega (arith, some)) (first, (second, (third, tt))) (omega (arith, reach), omega (arith, reach))

-- a slot of an image lies in a small frame
abbrev IsSmall : Storage → Type 0
IsSmall (storage.Slot offset) = offset < 16384
IsSmall (storage.Register r) = Unit {0}
IsSmall (storage.Frame offset) = Unit {0}
IsSmall (storage.Static address) = Unit {0}

-- A word that writes the home of a variable, as an image keeps it, may write the home.
may_write : (g : StorageForm) (code : List ℕ) (slots : ℕ) (place : Home) (index : ℕ) → slots ≡ g.slots → IsSmall (storage_of slots place) → writes_home code (storage_of slots place) index ≡ true → MayWrite g code place index
may_write g code slots (home.Register r) index same small e =
    let found = tested (has_result_in r) (spelled_at code index) e in
    (found.0, spelled code index found.0 found.1, makes r found.0 found.2)
may_write g code slots (home.Slot k) index same small e =
    let at : bounded_count (slots + 4 * k) ≡ slot_at g k = omega (arith, small, same) in
    subst (λ o. MayStore code o index) at (elim (either (stores_near code (bounded_count (slots + 4 * k)) index) (stores_far code (bounded_count (slots + 4 * k)) index) e) [
      | inl close ↦ near_may code (bounded_count (slots + 4 * k)) index close
      | inr away ↦ far_may code (bounded_count (slots + 4 * k)) index away
    ])

-- ---- In an image that is made of a unit

module _ (p : ProgramTree) (h : HomedForm) (m : Form) (made : IsMadeOfCode p h m) (tables : HasTablesOf p m) (image : IsImage m) (unit : HasVariablesIn p h.unit) where
  -- what an image keeps in a function lies in a small frame
  small : (f : ℕ) (at : Storage) → IsKeptInFunction m f at → IsSmall at
  small f (storage.Slot offset) kept = by_function (slice_get m.functions f) refl kept
    where
      by_function : (o : Option Function) → slice_get m.functions f ≡ o → IsSomeAnd o (λ (g : Function). (offset % 4 ≡ 0) × (offset < g.frame)) → offset < 16384
      by_function None at none = absurd none
      by_function (Some g) at within =
          let few = (all_at (IsFunction m) m.functions f g image.functions.each at).frame_small in
          let low = within.1 in
          omega (arith, few, low)
  small f (storage.Register r) kept = tt
  small f (storage.Frame offset) kept = tt
  small f (storage.Static address) kept = tt

  -- the scalar of a variable
  scalar_of : (g : Graph) (x variable : ℕ) → IsVariable g x variable → (s : Scalar) × (slice_get g.scalars x ≡ Some s) × (s.variable ≡ variable)
  scalar_of g x variable is = by_scalar (slice_get g.scalars x) refl is
    where
      by_scalar : (o : Option Scalar) → slice_get g.scalars x ≡ o → option_map (λ (s : Scalar). s.variable) o ≡ Some variable → (s : Scalar) × (slice_get g.scalars x ≡ Some s) × (s.variable ≡ variable)
      by_scalar None at e = absurd (none-some variable e)
      by_scalar (Some s) at e = (s, at, same_Some s.variable variable e)

  -- a word of a function of the image is one of the function's code
  within : (f index : ℕ) (fn : Function) (code : FunctionCode) → slice_get m.functions f ≡ Some fn → span fn ≡ code_span code → (fn.first - 65536) / 4 ≤ index → index < (fn.first - 65536) / 4 + (fn.end - fn.first) / 4
      → (code.first ≤ address_of index) × (address_of index < code.end)
  unfolding first_code_address
  within f index fn code is same from to =
      let rule = all_at (IsFunction m) m.functions f fn image.functions.each is in
      let whole = rule.first_in_code.0 in let low = rule.first_in_code.1 in let aligned = rule.end_aligned in let some = rule.not_empty in
      let first : fn.first ≡ code.first = ap (λ (s : Span). s.first) same in
      let end : fn.end ≡ code.end = ap (λ (s : Span). s.end) same in
      (omega (arith, from, to, whole, low, aligned, some, first, end), omega (arith, from, to, whole, low, aligned, some, first, end))

  -- A place with a word that writes the home of a variable, as the image has it, has a word that may write the home of the unit's scalar.
  owns : (f x variable : ℕ) (g : Graph) → slice_get h.unit.graphs f ≡ Some g → IsVariable g x variable → (place : ℕ) → place ≢ 0 → option_map_or (owns_writer m place) (slice_get m.variables variable) false ≡ true
      → OwnsWriter h made.emits.code.arrangement made.emitted f place (home_of h f x)
  owns f x variable g is of place some e =
      let sc = scalar_of g x variable of in
      let kept = scalar_kept p m tables.functions tables.variables tables.owners tables.names.0 tables.names.1 image h made.emitted made.parts.storages unit made.emits.told.many f x g sc.0 is sc.1 in
      let told = made.emits.told.functions f g is in
      let v = tested (owns_writer m place) (slice_get m.variables variable) e in
      let same : v.0 ≡ kept.variable = same_Some v.0 kept.variable (sym v.1 ∙ ap (slice_get m.variables) (sym sc.2) ∙ kept.is) in
      let fn = tested (is_written_in m v.0.storage place) (option_and_then (slice_get m.functions) v.0.function) v.2 in
      let fn_at : slice_get m.functions f ≡ Some fn.0 = ap (option_and_then (slice_get m.functions)) (sym (ap (λ (y : Variable). y.function) same ∙ kept.owner_is)) ∙ fn.1 in
      let spans : span fn.0 ≡ code_span kept.code = same_Some (span fn.0) (code_span kept.code) (sym (map_at span m.functions f fn.0 fn_at) ∙ ap (λ l. slice_get l f) made.parts.spans ∙ map_at code_span made.emitted.functions f kept.code kept.code_is) in
      let found = any_found (λ index. slice_index m.owners index == place && writes_home m.code v.0.storage index) ((fn.0.first - 65536) / 4) ((fn.0.end - fn.0.first) / 4) fn.2 in
      let range = within f found.0 fn.0 kept.code fn_at spans found.1 found.2 in
      let slots : kept.code.slots ≡ (code_of h made.emits.code.arrangement f).storage.slots = ap (λ (y : FunctionCode). y.slots) (same_Some kept.code told.code (sym kept.code_is ∙ told.is)) ∙ told.slots in
      let stored_is : v.0.storage ≡ storage_of kept.code.slots kept.home = ap (λ (y : Variable). y.storage) same ∙ kept.storage_is in
      let low : IsSmall (storage_of kept.code.slots kept.home) = subst IsSmall kept.storage_is (small f kept.variable.storage (subst (λ o. IsKept m o kept.variable.storage) kept.owner_is (all_at (IsVariableOf m) m.variables sc.0.variable kept.variable image.variables.each kept.is).kept)) in
      let writes : writes_home m.code (storage_of kept.code.slots kept.home) found.0 ≡ true = ap (λ s. writes_home m.code s found.0) (sym stored_is) ∙ and_right (slice_index m.owners found.0 == place) (writes_home m.code v.0.storage found.0) found.3 in
      let home_is : home_of h f x ≡ kept.home = ap (λ r. option_map_or (λ (y : Home). y) (slice_get (option_map_or (λ (l : List Home). l) r []) x) (home.Slot 0)) kept.homes_are ∙ ap (λ r. option_map_or (λ (y : Home). y) r (home.Slot 0)) kept.home_is in
      record {
        some = some;
        code = kept.code;
        is = kept.code_is;
        index = found.0;
        first = range.0;
        end = range.1;
        owner = ap (λ os. slice_index os found.0) (sym made.parts.owners) ∙ eqb-true (slice_index m.owners found.0) place (and_left (slice_index m.owners found.0 == place) (writes_home m.code v.0.storage found.0) found.3);
        writes = subst (λ c. MayWrite (code_of h made.emits.code.arrangement f).storage c (home_of h f x) found.0) made.parts.code
            (subst (λ y. MayWrite (code_of h made.emits.code.arrangement f).storage m.code y found.0) (sym home_is)
            (may_write (code_of h made.emits.code.arrangement f).storage m.code kept.code.slots kept.home found.0 slots low writes));
      }

  -- WHAT NEITHER ASSIGNS A VARIABLE NOR HAS A WORD THAT MAY WRITE ITS HOME does not disturb it in the image.
  pub undisturbed : (f x variable : ℕ) (g : Graph) → slice_get h.unit.graphs f ≡ Some g → IsVariable g x variable → (place : ℕ) → place ≢ 0
      → ((assigns (map assignment_of m.assigned) place variable ≡ true) ⊎ OwnsWriter h made.emits.code.arrangement made.emitted f place (home_of h f x) → ⊥)
      → disturbs m variable place ≡ false
  undisturbed f x variable g is of place some clear = by_test (disturbs m variable place) refl
    where
      by_test : (t : Bool) → disturbs m variable place ≡ t → t ≡ false
      by_test false t = refl
      by_test true t = absurd (clear (elim (either (assigns (map assignment_of m.assigned) place variable) (option_map_or (owns_writer m place) (slice_get m.variables variable) false) t) [
        | inl assigned ↦ inl assigned
        | inr owned ↦ inr (owns f x variable g is of place some owned)
      ]))
