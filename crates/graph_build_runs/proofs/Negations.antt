-- `!`, as a test and as a value.
use Rattle.std.proofs.Common.{◌≡◌, ℕ, zero, suc, ◌≤◌, List, None, Bool, true, false, not, refl, sym, ap, ◌∙◌, subst, arith, ℤ, pos}
use Rattle.std.specs.Prelude.{◌==◌, if◌then◌else◌, nat_lt}
use Rattle.std.specs.Option.{option_map_or}
use Rattle.std.proofs.lemmas.Bool.Decides.{nat_tests}
use Rattle.word_base.specs.WordOperations.{word_operation as operated_words}
use Rattle.word_base.specs.Words.{word_of_test}
use Rattle.word_base.specs.Operations.{truth as truth_of}
use Rattle.word_base.specs.declared.operation.Operation.TheVariants as operation
use Rattle.c_tree.specs.TypedExpressions.{RvalueTree, Not}
use Rattle.c_tree.specs.Programs.{ProgramTree}
use Rattle.c_type_rules.specs.ValueTypes.{type_of, is_pointer}
use Rattle.c_type_laws.specs.Expressions.{kind_of}
use Rattle.c_meaning_values.specs.declared.value.Value as source-value
use Rattle.c_meaning_values.specs.declared.value.Value.TheVariants as source
use Rattle.c_meaning_steps.specs.declared.event.Ending.TheVariants as ending
use Rattle.c_meaning_values.specs.Memory.{Memory as SourceMemory, is_usable, is_over}
use Rattle.c_meaning_values.specs.Operations.{is_true}
use Rattle.c_meaning_steps.specs.States.{State, Evaluated, Gives, Leaves, Ends, Tested, Holds, Fails, NoTest, condition_tested, tested_usable, by_truth, on_test, with}
use Rattle.c_meaning.specs.Expressions.{Calls, evaluate}
use Rattle.c_meaning_steps.specs.Steps.{truth_value}
use Rattle.graph_core.specs.declared.value.Value.{Value}
use Rattle.graph_core.specs.declared.value.Value.TheVariants.{Number}
use Rattle.graph_core.specs.Graphs as unit
use Rattle.graph_core.specs.Graphs.{Operand, Name, Instruction, End}
use Rattle.graph_core.specs.Memory.{Memory, is_live}
use Rattle.graph_core.specs.Runs.{Goes, step, value}
use Rattle.graph_core.specs.Values.{operate, same}
use Rattle.graph_build_names.specs.Conversions.{unsigned_bits}
use Rattle.graph_build_layout.specs.declared.laid.Use.TheVariants.{Anywhere}
use Rattle.graph_build_names.specs.Names.{pick}
use Rattle.graph_build_layout.specs.Layout.{laid}
use Rattle.graph_build_steps.specs.Drafts.{Made, Goal, To, Unused, Either, operated, zero as zero_operand}
use Rattle.graph_build_runs.specs.Correspondence.{SamePointer, points, ended, SameValue}
use Rattle.graph_build_runs.proofs.Words.{InWord}
use Rattle.graph_build_runs.proofs.Tests.{HasWord, true_word, over_ended}
use Rattle.graph_build_runs.proofs.ComparedValues.{truth_word, truth_in}
use Rattle.graph_build_runs.proofs.Leads.{Setting, names_in, size_in, depth_in, Local, World, at}
use Rattle.graph_build_runs.proofs.Kept.{Sound, Fits, ScalarsFirst}
use Rattle.graph_build_runs.proofs.Results.{EitherR, Result, Valued, stuck_now, ended_result}
use Rattle.graph_build_runs.proofs.Leaves.{Writes, operated_done, with_then}
use Rattle.graph_build_runs.proofs.Typing.{Gave, gave_by, HasKind, kind_word, Typed}
use Rattle.graph_build_runs.proofs.Standing.{Stands}
use Rattle.graph_build_runs.proofs.Operands.{Does, Low, code_in, value_in, written_by}
use Rattle.graph_build_runs.proofs.Arithmetic.{pick_between}
use Rattle.base_laws.proofs.Booleans.{not_not}

-- a test the other way round
turned : (x : Setting) (one other t : ℕ) (f : ℕ → Bool) (ops : List Instruction) (end : End) (l : Local) (w : World) (r : Tested) → EitherR x other one t f ops end l w r → EitherR x one other t f ops end l w (condition_tested (on_test r (truth_value (pos 0)) (truth_value (pos 1))))
turned x one other t f ops end l w (Holds s) h = h
turned x one other t f ops end l w (Fails s) h = h
turned x one other t f ops end l w (NoTest e s) h = h

-- a test of a value that an expression has
tested_with : (r : Evaluated) (one other : State → Evaluated) → with r (λ v s. on_test (condition_tested (Gives v s)) one other) ≡ on_test (condition_tested r) one other
tested_with (Gives v s) one other = refl
tested_with (Leaves s) one other = refl
tested_with (Ends e s) one other = refl

-- a word is below 1 where it is 0
none_below : (k : ℕ) → nat_lt k 1 ≡ (k == 0)
none_below zero = refl
none_below (suc k) = let a : nat_lt (suc k) 1 ≡ false = grind (arith, nat_tests) in let b : (suc k == 0) ≡ false = grind (arith, nat_tests) in a ∙ sym b

not_word : (z : ℤ) → InWord z → operated_words operation.Sltu (unsigned_bits z) 1 ≡ unsigned_bits (truth_of (not (is_true (source.Number z))))
unfolding operated_words
not_word z h = ap word_of_test (none_below (unsigned_bits z) ∙ sym (not_not (unsigned_bits z == 0)) ∙ ap not (true_word z h)) ∙ truth_word (not (is_true (source.Number z)))

-- a pointer that may be used is 0 where it is null
not_pointer : (p : ProgramTree) (memory : SourceMemory) (others : Memory) (live : ℕ → Bool) (v : source-value.Value) (u : Value) → ((z : ℤ) → v ≡ source.Number z → ⊥) → SameValue p memory others v u → is_usable memory v ≡ true
    → same live u (Number 0) ≡ Number (unsigned_bits (truth_of (not (is_true v))))
not_pointer p memory others live (source.Number z) u none same_u usable = absurd (none z refl)
not_pointer p memory others live source.Null u none same_u usable = ap (λ k. same live k (Number 0)) same_u
not_pointer p memory others live (source.Pointer n offset) u none (points o is begun inside m q at object within e) usable = ap (λ k. same live k (Number 0)) e
not_pointer p memory others live (source.Pointer n offset) u none (ended o is over known) usable =
    let not_so : is_usable memory (source.Pointer n offset) ≡ false = ap (λ f. option_map_or (λ q. not (is_over q.phase)) f false) is ∙ over_ended o.phase over in cc

-- whether the operand is a pointer, as its type says
abbrev pub IsPointerBy : Bool → source-value.Value → Type 0
IsPointerBy true v = (z : ℤ) → v ≡ source.Number z → ⊥
IsPointerBy false v = (z : ℤ) × (v ≡ source.Number z)

module _ (x : Setting) (calls : Calls) (low : ScalarsFirst x) (e : RvalueTree) (typed_e : Typed x calls e) (by_type : (memory : SourceMemory) (v : source-value.Value) → HasKind memory (kind_of x.program x.tree e) v → IsPointerBy (is_pointer (type_of (names_in x).results e)) v)
    (low_e : Low x e) (does_e : Does x calls e) where
  abbrev own_at : ℕ → ℕ
  own_at t = pick (names_in x) t (laid (names_in x) e Anywhere t).next

  abbrev i_at : ℕ → Bool → ℕ → Instruction
  i_at t b k = if b then unit.Same k (value_in x e t) zero_operand else unit.Operate k operation.Sltu (value_in x e t) (unit.Constant 1)

  abbrev last_at : ℕ → Goal → Made
  last_at t g = operated (names_in x) g t (laid (names_in x) e Anywhere t).next (i_at t (is_pointer (type_of (names_in x).results e)))

  -- the instruction gives the truth
  gives_truth : (t : ℕ) (g : Goal) (s : State) (l : Local) (w : World) → size_in x ≤ t → Fits x None s l w → (v : source-value.Value) → SameValue x.program s.memory w.memory v (value x.unit.statics l.names (value_in x e t)) → HasWord v → is_usable s.memory v ≡ true → (b : Bool) → IsPointerBy b v
      → Result x g (Name (own_at t)) t (λ y. false) (operated (names_in x) g t (laid (names_in x) e Anywhere t).next (i_at t b)).ops (operated (names_in x) g t (laid (names_in x) e Anywhere t).next (i_at t b)).end l w (Gives (source.Number (truth_of (not (is_true v)))) s)
  gives_truth t g s l w size fits v same_v word usable true none =
      let le = pick_between (names_in x) t (laid (names_in x) e Anywhere t).next t (omega arith) (low_e t size).next in
      operated_done x g (own_at t) t (λ y. false) (i_at t true) (source.Number (truth_of (not (is_true v)))) (same (is_live w.memory) (value x.unit.statics l.names (value_in x e t)) (Number 0)) s l w low le (omega (arith, le, size)) fits (λ k ops end. refl)
      (not_pointer x.program s.memory w.memory (is_live w.memory) v (value x.unit.statics l.names (value_in x e t)) none same_v usable) (truth_in (not (is_true v)))
  gives_truth t g s l w size fits v same_v word usable false number =
      let le = pick_between (names_in x) t (laid (names_in x) e Anywhere t).next t (omega arith) (low_e t size).next in
      let z = number.0 in
      let same_z : value x.unit.statics l.names (value_in x e t) ≡ Number (unsigned_bits z) = subst (λ u. SameValue x.program s.memory w.memory u (value x.unit.statics l.names (value_in x e t))) number.1 same_v in
      let word_z : InWord z = subst HasWord number.1 word in
      operated_done x g (own_at t) t (λ y. false) (i_at t false) (source.Number (truth_of (not (is_true v)))) (operate operation.Sltu (value x.unit.statics l.names (value_in x e t)) (Number 1)) s l w low le (omega (arith, le, size)) fits (λ k ops end. refl)
      (ap (λ k. operate operation.Sltu k (Number 1)) same_z ∙ ap Number (not_word z word_z ∙ ap (λ u. unsigned_bits (truth_of (not (is_true u)))) (sym number.1))) (truth_in (not (is_true v)))

  -- a value that is tested
  by_test : (t : ℕ) (g : Goal) (s : State) (l : Local) (w : World) → size_in x ≤ t → Fits x None s l w → (v : source-value.Value) → SameValue x.program s.memory w.memory v (value x.unit.statics l.names (value_in x e t)) → HasWord v → IsPointerBy (is_pointer (type_of (names_in x).results e)) v
      → (b : Bool) → is_usable s.memory v ≡ b → Result x g (Name (own_at t)) t (λ y. false) (last_at t g).ops (last_at t g).end l w (on_test (tested_usable (if b then Gives v s else Ends ending.Undefined s)) (truth_value (pos 0)) (truth_value (pos 1)))
  by_test t g s l w size fits v same_v word pointer false usable =
      ended_result x g (Name (own_at t)) t (λ y. false) (last_at t g).ops (last_at t g).end l w ending.Undefined s (stuck_now x None (last_at t g).ops (last_at t g).end s l w fits)
  by_test t g s l w size fits v same_v word pointer true usable =
      by_true (is_true v) (gives_truth t g s l w size fits v same_v word usable (is_pointer (type_of (names_in x).results e)) pointer)
    where
      by_true : (c : Bool) → Result x g (Name (own_at t)) t (λ y. false) (last_at t g).ops (last_at t g).end l w (Gives (source.Number (truth_of (not c))) s)
          → Result x g (Name (own_at t)) t (λ y. false) (last_at t g).ops (last_at t g).end l w (on_test (by_truth c s) (truth_value (pos 0)) (truth_value (pos 1)))
      by_true true h = h
      by_true false h = h

  value_not : (t : ℕ) (g : Goal) (s : State) (l : Local) (w : World) → size_in x ≤ t → Stands x.graph x.top (code_in x e t (To None (last_at t g))).inner → Sound x.program x.begun s → Fits x None s l w
      → Result x g (Name (own_at t)) t (written_by x e) (code_in x e t (To None (last_at t g))).ops (code_in x e t (To None (last_at t g))).end l w (evaluate calls (depth_in x) (Not e) s)
  value_not t g s l w size st sound fits =
      let c = code_in x e t (To None (last_at t g)) in
      subst (Result x g (Name (own_at t)) t (written_by x e) c.ops c.end l w) (tested_with (evaluate calls (depth_in x) e s) (truth_value (pos 0)) (truth_value (pos 1)))
      (with_then x None g (last_at t g) (Name (own_at t)) (value_in x e t) t t t (written_by x e) (written_by x e) (λ y. false) c.ops c.end l w (evaluate calls (depth_in x) e s) (λ v s1. on_test (condition_tested (Gives v s1)) (truth_value (pos 0)) (truth_value (pos 1))) (omega arith) (omega arith)
      (λ y lt nf. (refl, nf, refl)) (does_e t (To None (last_at t g)) s l w size st sound fits tt)
      (λ v s1 is h. (let gave = gave_by x.program x.begun s.memory (kind_of x.program x.tree e) (evaluate calls (depth_in x) e s) v s1 is (typed_e s sound) in
      by_test t g s1 h.reached.local h.reached.world size h.reached.fits v h.same (kind_word s1.memory (kind_of x.program x.tree e) v gave.is) (by_type s1.memory v gave.is) (is_usable s1.memory v) refl)))

  pub not_does : Does x calls (Not e)
  not_does t (Either one other inner) s l w size st sound fits aims =
      let c = code_in x e t (Either other one inner) in
      turned x one other t (written_by x e) c.ops c.end l w (condition_tested (evaluate calls (depth_in x) e s)) (does_e t (Either other one inner) s l w size st sound fits tt)
  not_does t (To want m) s l w size st sound fits aims = value_not t (To want m) s l w size st sound fits
  not_does t (Unused m) s l w size st sound fits aims = value_not t (Unused m) s l w size st sound fits
