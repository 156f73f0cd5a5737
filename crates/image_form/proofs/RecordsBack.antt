-- Each record of an image is what its numbers say.
use Rattle.std.proofs.Common.{◌≡◌, ℕ, ◌<◌, ◌≤◌, Bool, true, false, List, [], ◌∷◌, length, get_or, Option, Some, None, refl, sym, ap, ◌∙◌, arith}
use Rattle.std.specs.Prelude.{unwrap_or, slice_get, Contains, IsSomeAnd, ◌==◌}
use Rattle.std.specs.List.{AllByRecursion}
use Rattle.std.proofs.lemmas.Bool.{ne_eqb}
use Rattle.std.proofs.lemmas.Option.{slice_get-get_or}
use Rattle.debug_records.specs.declared.mode.Mode.{Mode}
use Rattle.debug_records.specs.declared.mode.Mode.TheVariants.{Slots, Registers}
use Rattle.image_form.specs.declared.recipes.Node.{Node}
use Rattle.image_form.specs.declared.recipes.Node.TheVariants as node
use Rattle.word_base.specs.declared.operation.Operation.{Operation}
use Rattle.word_base.specs.declared.operation.Operation.TheVariants.{Add, Sub, Mul, Div, Divu, Rem, Remu, Sll, Srl, Sra, And, Or, Xor, Slt, Sltu}
use Rattle.word_base.specs.declared.operation.Truncation.{Truncation}
use Rattle.word_base.specs.declared.operation.Truncation.TheVariants.{Unsigned8, Signed16, Unsigned16, Signed8}
use Rattle.image_form.specs.declared.tables.AssignedPair.{AssignedPair}
use Rattle.image_form.specs.declared.tables.Change.{Change}
use Rattle.debug_records.specs.declared.change.Kind.{Kind}
use Rattle.debug_records.specs.declared.change.Kind.TheVariants.{Removed, Moved, Reused, Replaced, Sunk}
use Rattle.image_form.specs.declared.variables.ElementType.{ElementType}
use Rattle.image_form.specs.declared.variables.ElementType.TheVariants.{U8, I8, U16, I16, U32, I32, Pointer}
use Rattle.image_form.specs.declared.variables.Storage.{Storage}
use Rattle.image_form.specs.declared.variables.Storage.TheVariants.{Static, Frame, Register, Slot}
use Rattle.image_form.specs.declared.variables.Variable.{Variable}
use Rattle.image_form.specs.declared.verdicts.Verdict.{Verdict}
use Rattle.image_form.specs.declared.verdicts.Verdict.TheVariants.{Home, Recovered, Noncurrent, Nonresident}
use Rattle.image_form.specs.declared.verdicts.VisibleRow.{VisibleRow}
use Rattle.image_form.specs.declared.tables.Function.{Function}
use Rattle.image_form.specs.declared.members.Member.{Member}
use Rattle.image_form_sections.specs.declared.version.Level.{Level}
use Rattle.image_form_sections.specs.declared.version.Level.TheVariants.{Plain, Quiet, Callers}
use Rattle.image_form_sections.specs.Versions.{has_quiet, has_callers}
use Rattle.image_form.specs.Decoding.{mode_of, owning_function, element_type_of, storage_of, variable_of, kind_of, change_of, writer_of, quiet_of, visible_row_of, function_of_row, member_of, node_of}
use Rattle.image_form.specs.Form.{Form, numbered}
use Rattle.image_form.specs.Numbers.{mode_number, no_function, element_number, storage_number, storage_value, variable_numbers, kind_number, change_numbers, verdict_then, last_if, row_numbers, function_numbers, member_numbers, operation_number, truncation_number, node_numbers}
use Rattle.image_form.specs.RulesOfChanges.{AssignedRules}
use Rattle.image_form.specs.RulesOfFunctions.{IsPlaceNumber, first_code_address}
use Rattle.image_form.specs.RulesOfRows.{IsWriter, IsEvidence, IsVerdict, IsQuietStart}
use Rattle.image_form.specs.RulesOfVariables.{IsVariable, IsKept}
use Rattle.image_form.proofs.TableLaws.{each_at}
pub use Rattle.base_laws.proofs.Lists.{number_there}

-- What holds of each record holds of each in a list.
pub all_of : {A : Type 0} {P Q : A → Type 0} → ((x : A) → P x → Q x) → (xs : List A) → AllByRecursion P xs → AllByRecursion Q xs
all_of step [] all = tt
all_of step (x ∷ xs) all = (step x all.0, all_of step xs all.1)

pub all_always : {A : Type 0} {Q : A → Type 0} → ((x : A) → Q x) → (xs : List A) → AllByRecursion Q xs
all_always step [] = tt
all_always step (x ∷ xs) = (step x, all_always step xs)

pub mode_back : (m : Mode) → mode_of (mode_number m) ≡ m
mode_back Slots = refl
mode_back Registers = refl

element_back : (e : ElementType) → element_type_of (element_number e) ≡ e
element_back U8 = refl
element_back I8 = refl
element_back U16 = refl
element_back I16 = refl
element_back U32 = refl
element_back I32 = refl
element_back Pointer = refl

storage_back : (s : Storage) → storage_of (storage_number s) (storage_value s) ≡ s
storage_back (Static address) = refl
storage_back (Frame offset) = refl
storage_back (Register number) = refl
storage_back (Slot offset) = refl

kind_back : (k : Kind) → kind_of (kind_number k) ≡ k
kind_back Removed = refl
kind_back Moved = refl
kind_back Reused = refl
kind_back Replaced = refl
kind_back Sunk = refl

pub change_back : (c : Change) → change_of (change_numbers c) ≡ c
change_back c = ap (λ (k : Kind). let r : Change = record c { kind = k } in r) (kind_back c.kind)

-- An operation's number is none of a leaf's, nor of a truncation's.
operation_node : (o : Operation) (left right : ℕ) → node_of (operation_number o ∷ left ∷ right ∷ []) ≡ node.Operated o left right
operation_node Add left right = refl
operation_node Sub left right = refl
operation_node Mul left right = refl
operation_node Div left right = refl
operation_node Divu left right = refl
operation_node Rem left right = refl
operation_node Remu left right = refl
operation_node Sll left right = refl
operation_node Srl left right = refl
operation_node Sra left right = refl
operation_node And left right = refl
operation_node Or left right = refl
operation_node Xor left right = refl
operation_node Slt left right = refl
operation_node Sltu left right = refl

truncation_node : (t : Truncation) (operand : ℕ) → node_of (truncation_number t ∷ operand ∷ 0 ∷ []) ≡ node.Truncated t operand
truncation_node Unsigned8 operand = refl
truncation_node Signed16 operand = refl
truncation_node Unsigned16 operand = refl
truncation_node Signed8 operand = refl

pub node_back : (n : Node) → node_of (node_numbers n) ≡ n
node_back (node.Constant value) = refl
node_back (node.Variable variable) = refl
node_back (node.Home home) = refl
node_back (node.Truncated truncation operand) = truncation_node truncation operand
node_back (node.Operated operation left right) = operation_node operation left right

-- What holds of an option's value holds of the value that is there.
pub some_and : {A : Type 0} (o : Option A) (P : A → Type 0) → IsSomeAnd o P → (x : A) × (o ≡ Some x) × P x
some_and None P h = absurd h
some_and (Some x) P h = (x, refl, h)

pub kept_there : (f : Form) (k : ℕ) (storage : Storage) → IsKept f (Some k) storage → k < length f.functions
kept_there f k (Static address) kept = absurd kept
kept_there f k (Frame offset) kept = number_there f.functions k _ kept
kept_there f k (Register number) kept = kept.0
kept_there f k (Slot offset) kept = number_there f.functions k _ kept

-- A function that is there has a number below the one that stands for none.
owner_back : (f : Form) (function : Option ℕ) (storage : Storage) → length f.functions < no_function → IsKept f function storage → owning_function (unwrap_or function no_function) ≡ function
owner_back f None storage few kept = refl
owner_back f (Some k) storage few kept =
    let there = kept_there f k storage kept in
    let other : (k == no_function) ≡ false = ne_eqb k no_function (λ e. omega (arith, e, there, few)) in
    rw other refl

pub variable_back : (f : Form) → length f.functions < no_function → (v : Variable) → IsVariable f v → variable_of (variable_numbers v) ≡ v
variable_back f few v valid = λ i. record {
  name_length = v.name_length;
  function = owner_back f v.function v.storage few valid.kept i;
  position = v.position;
  element = element_back v.element i;
  storage = storage_back v.storage i;
  count = v.count;
}

-- A writer's address is not 0.
writer_back : (f : Form) (kind : Kind) (writer : Option ℕ) → IsWriter f kind writer → writer_of (unwrap_or writer 0) ≡ writer
unfolding first_code_address
writer_back f kind None valid = refl
writer_back f kind (Some address) valid = let other : (address == 0) ≡ false = ne_eqb address 0 (λ e. omega (arith, e, valid.1.1)) in rw other refl

evidence_back : (f : Form) (variable change start : ℕ) (writer : Option ℕ) → IsEvidence f variable change start writer → writer_of (unwrap_or writer 0) ≡ writer
evidence_back f variable change start writer valid = let c = some_and (numbered f.changes change) _ valid.0 in writer_back f c.0.kind writer c.2.1

with_verdict : ℕ → ℕ → Verdict → Option ℕ → VisibleRow
with_verdict place variable verdict quiet = record { place = place; variable = variable; verdict = verdict; quiet = quiet }

verdict_back : (f : Form) (place variable : ℕ) (v : Verdict) (more : List ℕ) → IsVerdict f variable v
    → visible_row_of (place ∷ variable ∷ verdict_then v more) ≡ with_verdict place variable v (quiet_of (get_or more 0 0))
unfolding with_verdict
verdict_back f place variable Home more valid = refl
verdict_back f place variable (Recovered change node) more valid = refl
verdict_back f place variable (Noncurrent change start writer) more valid =
    ap (λ (w : Option ℕ). with_verdict place variable (Noncurrent change start w) (quiet_of (get_or more 0 0))) (evidence_back f variable change start writer valid)
verdict_back f place variable (Nonresident change start writer) more valid =
    ap (λ (w : Option ℕ). with_verdict place variable (Nonresident change start w) (quiet_of (get_or more 0 0))) (evidence_back f variable change start writer valid)

-- The number of a place that assigns is not 0.
pub assigned_there : (f : Form) (place variable : ℕ) → AssignedRules f → Contains f.assigned (record { place = place; variable = variable }) → 1 ≤ place
assigned_there f place variable rules (k, lt, same) =
    let pair : AssignedPair = record { place = place; variable = variable } in
    let at : slice_get f.assigned k ≡ Some pair = slice_get-get_or f.assigned k pair lt ∙ ap Some same in
    (each_at (λ p. IsPlaceNumber f p.place × (p.variable < length f.variables)) f.assigned k pair rules.each at).0.0

quiet_there : (f : Form) (variable : ℕ) (v : Verdict) (start : ℕ) → AssignedRules f → IsQuietStart f variable v (Some start) → 1 ≤ start
quiet_there f variable Home start rules valid = absurd valid
quiet_there f variable (Recovered change node) start rules valid = absurd valid
quiet_there f variable (Noncurrent change start writer) quiet rules valid = assigned_there f quiet variable rules valid.0
quiet_there f variable (Nonresident change start writer) quiet rules valid = assigned_there f quiet variable rules valid.0

quiet_back : (f : Form) (has : Bool) (variable : ℕ) (v : Verdict) (quiet : Option ℕ) → AssignedRules f → IsQuietStart f variable v quiet → (has ≡ false → quiet ≡ None)
    → quiet_of (get_or (last_if has (unwrap_or quiet 0)) 0 0) ≡ quiet
quiet_back f false variable v quiet rules valid none = let is = none refl in rw is refl
quiet_back f true variable v None rules valid none = refl
quiet_back f true variable v (Some start) rules valid none =
    let there = quiet_there f variable v start rules valid in
    let other : (start == 0) ≡ false = ne_eqb start 0 (λ e. omega (arith, e, there)) in
    rw other refl

pub row_back : (f : Form) (level : Level) (r : VisibleRow) → AssignedRules f → IsVerdict f r.variable r.verdict → IsQuietStart f r.variable r.verdict r.quiet
    → (has_quiet level ≡ false → r.quiet ≡ None) → visible_row_of (row_numbers level r) ≡ r
unfolding with_verdict
row_back f level r rules valid quiet none =
    verdict_back f r.place r.variable r.verdict (last_if (has_quiet level) (unwrap_or r.quiet 0)) valid
    ∙ ap (with_verdict r.place r.variable r.verdict) (quiet_back f (has_quiet level) r.variable r.verdict r.quiet rules quiet none)

-- A function's saved registers are 0 where they are not told.
pub function_back : (level : Level) (g : Function) → (has_callers level ≡ false → g.saved ≡ 0) → function_of_row (function_numbers level g) ≡ g
function_back Plain g none = λ i. record {
  name_length = g.name_length;
  first = g.first;
  end = g.end;
  frame = g.frame;
  entry = g.entry;
  saved = sym (none refl) i;
}
function_back Quiet g none = λ i. record {
  name_length = g.name_length;
  first = g.first;
  end = g.end;
  frame = g.frame;
  entry = g.entry;
  saved = sym (none refl) i;
}
function_back Callers g none = refl

pub member_back : (m : Member) → member_of (member_numbers m) ≡ m
member_back m = λ i. record {
  structure = m.structure;
  name_length = m.name_length;
  offset = m.offset;
  element = element_back m.element i;
  count = m.count;
}
