-- The program of an accepted source: what it is made of, and the laws that it keeps.
use Rattle.std.proofs.Common.{◌≡◌, ℕ, List, [], ◌∷◌, length, slice_get, nat_le, true, Option, Some, None, is_none, Result, Ok, Err, refl, sym, ap, ◌∙◌, subst, arith, append-nil}
use Rattle.std.specs.Option.{option_map_or}
use Rattle.debug_records.specs.declared.source.Spot.{Spot}
use Rattle.debug_records.specs.declared.code.Code.{Code}
use Rattle.c_tree.specs.declared.typed_expression.Callee.{Callee}
use Rattle.c_tree.specs.Trees.{ItemTree}
use Rattle.c_tree.specs.Programs.{AutomaticTree, TypedFunctionTree, ProgramTree}
use Rattle.c_type_expressions.specs.declared.findings.Fault.{Fault}
use Rattle.c_type_expressions.specs.Names.{SignatureTree}
use Rattle.c_type_bounds.specs.Bounds.{behind_functions, program_breach}
use Rattle.c_type_declarations.specs.Progress.{ProgressTree, Met, means}
use Rattle.c_type.specs.Faults.{earlier, first_behind, first_fault}
use Rattle.c_type.specs.Programs.{Refusal, or_else, fault_refusal, undefined_refusal, main_definition, main_refusal, program_of, within_program_limits, within_function_limits, names_refusal, unless_refused, accepted, checked}
use Rattle.c_type.specs.Items.{beginning, source_met}
use Rattle.c_type_laws.specs.Laws.{follow}
use Rattle.c_type_laws.specs.Names.{automatics_named}
use Rattle.c_type_laws.specs.Objects.{are_ended, arrays_are_kept}
use Rattle.c_type_laws.specs.Statics.{literals_sound}
use Rattle.c_source.specs.Storage.{AreStored}
use Rattle.c_source.specs.Files.{AreItemsFormed, Reaches, are_typed}
use Rattle.c_source.specs.Known.{IsCalled}
use Rattle.c_source.specs.Progress.{Ensures}
use Rattle.c_source.proofs.Judging.{le_true}
use Rattle.c_source.proofs.Items.{AllDefined, source_defined, beginning_known}
use Rattle.c_source.proofs.Marking.{Marks, AllMarked, functions_mark, marked_marks, few}

-- What an accepted source is made of.
pub record Accepted (items : List ItemTree) (p : ProgramTree) : Type 0 where
  pub functions : List TypedFunctionTree
  pub progress : ProgressTree
  pub variables : List AutomaticTree
  pub is : source_met items ≡ means functions progress
  pub faults : progress.found.faults ≡ []
  pub undefined : progress.found.undefined ≡ []
  pub main : main_refusal items (main_definition items) ≡ None
  pub marked : behind_functions 0 functions progress.automatics ≡ Ok variables
  pub program : p ≡ program_of items functions progress variables
  pub breach : program_breach p ≡ None

-- no first fault, no fault
some_fault : (best : Fault) (fs : List Fault) → fault_refusal (first_behind (Some best) fs) ≡ None → ⊥
some_fault best [] h = cc
some_fault best (f ∷ fs) h = some_fault (earlier (Some best) f) fs h

no_fault : (fs : List Fault) → fault_refusal (first_fault fs) ≡ None → fs ≡ []
no_fault [] h = refl
no_fault (f ∷ fs) h = absurd (some_fault (earlier None f) fs h)

no_undefined : (spots : List Spot) → undefined_refusal spots ≡ None → spots ≡ []
no_undefined [] h = refl
no_undefined (s ∷ more) h = cc

neither : {A : Type 0} (o r : Option A) → or_else o r ≡ None → (o ≡ None) × (r ≡ None)
neither None r h = (refl, h)
neither (Some a) r h = cc

unrefused : (o : Option Refusal) (next : Result ProgramTree Refusal) (p : ProgramTree) → unless_refused o next ≡ Ok p → (o ≡ None) × (next ≡ Ok p)
unrefused None next p h = (refl, h)
unrefused (Some r) next p h = cc

-- the answer for a program
abbrev within_by : Option Code → ProgramTree → Result ProgramTree Refusal
within_by o made = option_map_or (λ code. Err (code, 1)) o (Ok made)

within_program : (made p : ProgramTree) → within_program_limits made ≡ Ok p → (p ≡ made) × (program_breach p ≡ None)
within_program made p h = by (program_breach made) refl h
  where
    by : (o : Option Code) → program_breach made ≡ o → within_by o made ≡ Ok p → (p ≡ made) × (program_breach p ≡ None)
    by None e h = let is : p ≡ made = cc in (is, ap program_breach is ∙ e)
    by (Some c) e h = cc

-- the functions' answer, and the program behind it
abbrev program_behind : List ItemTree → List TypedFunctionTree → ProgressTree → Result (List AutomaticTree) Refusal → Result ProgramTree Refusal
program_behind items fs q r = elim r [ Ok vs ↦ within_program_limits (program_of items fs q vs) | Err e ↦ Err e ]

abbrev answer : List ItemTree → Met (List TypedFunctionTree) → Result ProgramTree Refusal
answer items m = elim m [ means fs q ↦ accepted items fs q ]

pub accepted_parts : (items : List ItemTree) (p : ProgramTree) → checked items ≡ Ok p → Accepted items p
accepted_parts items p h = by (source_met items) refl h
  where
    behind : (fs : List TypedFunctionTree) (q : ProgressTree) → source_met items ≡ means fs q → names_refusal items q ≡ None → (r : Result (List AutomaticTree) Refusal) → behind_functions 0 fs q.automatics ≡ r → program_behind items fs q r ≡ Ok p → Accepted items p
    behind fs q e names (Ok vs) marked h =
        let a = neither (fault_refusal (first_fault q.found.faults)) (or_else (undefined_refusal q.found.undefined) (main_refusal items (main_definition items))) names in
        let b = neither (undefined_refusal q.found.undefined) (main_refusal items (main_definition items)) a.1 in
        let c = within_program (program_of items fs q vs) p h in
        record { functions = fs; progress = q; variables = vs; is = e; faults = no_fault q.found.faults a.0; undefined = no_undefined q.found.undefined b.0; main = b.1; marked = marked; program = c.0; breach = c.1 }
    behind fs q e names (Err r) marked h = cc

    by : (m : Met (List TypedFunctionTree)) → source_met items ≡ m → answer items m ≡ Ok p → Accepted items p
    by (means fs q) e h = let c = unrefused (names_refusal items q) (within_function_limits items fs q) p h in behind fs q e c.0 (behind_functions 0 fs q.automatics) refl c.1

module _ (items : List ItemTree) (p : ProgramTree) (a : Accepted items p) where
  -- what is called in the source is there, with its type
  abbrev pub AreLinked : Type 0
  AreLinked = (k : ℕ) (g : SignatureTree) (c : Callee) → slice_get a.progress.names.signatures k ≡ Some g → g.callee ≡ Some c → IsCalled p g c

  -- the marks on the variables, function by function
  pub marks_of : AllMarked 0 a.functions a.progress.automatics a.variables
  marks_of = functions_mark 0 a.functions a.progress.automatics a.variables a.marked

  pub marks : Marks a.progress.automatics a.variables
  marks = marked_marks marks_of

  pub variables_are : p.automatics ≡ a.variables
  variables_are = ap (λ z. z.automatics) a.program

  -- what the source comes to is the program
  pub reaches : AreLinked → Reaches p a.progress
  reaches linked =
      record {
        accepts = record { given = tt; faults = a.faults; undefined = a.undefined; literals = ([], ap (λ z. z.literals) a.program ∙ sym (append-nil a.progress.found.literals)) };
        automatics = λ x v h. let b = marks.each x v h in (b.0, ap (λ l. slice_get l x) variables_are ∙ b.1, b.2.of, b.2.spot);
        array_literals = ([], ap (λ z. z.array_literals) a.program ∙ sym (append-nil a.progress.array_literals));
        statics = ([], ap (λ z. z.statics) a.program ∙ sym (append-nil a.progress.statics));
        functions = linked;
      }

  module _ (formed : AreItemsFormed items) where
    -- the functions are those of the items
    pub all_defined : AllDefined p [] beginning a.functions a.progress
    all_defined = subst (Ensures (AllDefined p [] beginning)) a.is (source_defined p items formed)

    functions_are : p.functions ≡ all_defined.more
    functions_are = ap (λ z. z.functions) a.program ∙ all_defined.is

    -- The functions of the program are well typed, and declare their own variables.
    pub functions_typed : AreLinked → are_typed p p.functions ≡ true
    functions_typed linked = ap (are_typed p) functions_are ∙ all_defined.defined.typed (beginning_known p) (reaches linked)

    -- Static objects keep the laws of static storage.
    pub statics_stored : AreLinked → AreStored p p.statics
    statics_stored linked = subst (AreStored p) (sym (ap (λ z. z.statics) a.program)) (all_defined.defined.stored (beginning_known p) (reaches linked) (refl, refl, refl, refl))

    -- Their variables follow one another, and there are no others.
    pub functions_follow : follow 0 (length p.automatics) p.functions ≡ true
    functions_follow = ap (λ fs. follow 0 (length p.automatics) fs) functions_are ∙ ap (λ n. follow 0 n all_defined.more) (ap length variables_are ∙ marks.count) ∙ all_defined.defined.follows

    -- Arrays are in memory, and have elements.
    pub arrays_kept : arrays_are_kept p.automatics ≡ true
    arrays_kept = ap arrays_are_kept variables_are ∙ marks.arrays (all_defined.defined.extends.kept (refl, refl)).0

    -- Automatic variables have names.
    pub variables_named : automatics_named p.automatics ≡ true
    variables_named = ap automatics_named variables_are ∙ marks.names (all_defined.defined.extends.kept (refl, refl)).1

    -- Literals have their final zeros.
    pub literals_ended : are_ended p.literals ≡ true
    literals_ended = ap (λ z. are_ended z.literals) a.program ∙ all_defined.defined.extends.found.ended refl

    -- They are of bytes.
    pub literals_of_bytes : literals_sound p.literals ≡ true
    literals_of_bytes = ap (λ z. literals_sound z.literals) a.program ∙ all_defined.defined.extends.found.sound refl

    pub array_literals_ended : are_ended p.array_literals ≡ true
    array_literals_ended = ap (λ z. are_ended z.array_literals) a.program ∙ all_defined.defined.extends.ended refl

  -- There are no more functions than 256.
  pub functions_few : nat_le (length p.functions) 256 ≡ true
  functions_few = ap (λ z. nat_le (length z.functions) 256) a.program ∙ le_true (length a.functions) 256 (let f = few marks_of (omega arith) in omega (arith, f))

  -- The program keeps its limits.
  pub no_breach : is_none (program_breach p) ≡ true
  no_breach = ap is_none a.breach
