-- The code of calls does what they mean.
use Rattle.std.proofs.Common.{◌≡◌, ℕ, zero, suc, ◌+◌, ◌<◌, ◌≤◌, List, [], ◌∷◌, map, Option, Some, None, Bool, true, false, ◌||◌, refl, sym, ap, ◌∙◌, subst, arith, ℤ, pos, negsuc}
use Rattle.std.specs.Prelude.{if◌then◌else◌}
use Rattle.std.specs.List.{list_any}
use Rattle.c_tree.specs.declared.types.IntegerType.TheVariants.{Int}
use Rattle.c_tree.specs.declared.object_type.ValueType.{ValueType}
use Rattle.c_tree.specs.declared.object_type.ValueType.TheVariants.{Integer}
use Rattle.c_tree.specs.declared.typed_expression.Callee as source-callee
use Rattle.c_tree.specs.declared.typed_expression.Callee.TheVariants as called
use Rattle.c_tree.specs.TypedExpressions.{RvalueTree, ArgumentTrees, Call}
use Rattle.c_tree.specs.Programs.{ProgramTree}
use Rattle.c_type_rules.specs.ValueTypes.{given_by, is_void}
use Rattle.c_meaning_values.specs.declared.value.Value as source-value
use Rattle.c_meaning_values.specs.declared.value.Value.TheVariants as source
use Rattle.c_meaning_steps.specs.declared.event.Ending.TheVariants as ending
use Rattle.c_meaning_values.specs.Memory.{Memory}
use Rattle.c_meaning_steps.specs.States.{State, Evaluated, Gives, Leaves, Ends, Listed}
use Rattle.c_meaning.specs.Expressions.{Calls, evaluate, evaluate_all, call, call_with_one}
use Rattle.c_meaning_steps.specs.Steps.{next_byte, byte_put, leave}
use Rattle.graph_core.specs.declared.value.Value.{Value}
use Rattle.graph_core.specs.declared.value.Value.TheVariants.{Number}
use Rattle.graph_core.specs.declared.instruction.Callee.TheVariants as unit-called
use Rattle.graph_core.specs.Graphs as unit
use Rattle.graph_core.specs.Graphs.{Operand, Name, Instruction, End}
use Rattle.graph_core.specs.Memory.{Memory as UnitMemory}
use Rattle.graph_core.specs.Runs.{value}
use Rattle.graph_core.specs.Values.{is_odd}
use Rattle.graph_build_names.specs.Conversions.{unsigned_bits}
use Rattle.graph_build_layout.specs.declared.laid.Use.TheVariants.{Anywhere}
use Rattle.graph_build_names.specs.Names.{pick}
use Rattle.graph_build_layout.specs.Laid.{called_laid}
use Rattle.graph_build_layout.specs.Layout.{passed_laid}
use Rattle.graph_build_steps.specs.Rules.{callee_for}
use Rattle.graph_build_steps.specs.Drafts.{Made, Goal, To, Unused, Either, instruction_before, leaf, zero as zero_operand, target, follow, called_by}
use Rattle.graph_build_runs.specs.Typed.{IsOf}
use Rattle.graph_build_runs.specs.Stops.{IsStatus}
use Rattle.graph_build_runs.specs.Correspondence.{SameValue, SameValues, AreBytes}
use Rattle.graph_build_runs.proofs.Leads.{Setting, names_in, size_in, depth_in, Local, World}
use Rattle.graph_build_runs.proofs.Kept.{Sound, Fits, ScalarsFirst}
use Rattle.graph_build_runs.proofs.Results.{Result, stuck_now, ended_result}
use Rattle.graph_build_runs.proofs.Standing.{Stands}
use Rattle.graph_build_runs.proofs.Operands.{Does}
use Rattle.graph_build_runs.proofs.Arithmetic.{pick_between}
use Rattle.graph_build_runs.proofs.Arguments.{AreOf, TypedAll, Listing, Row, passing, passed_in, any_written, DoesAll}
use Rattle.graph_build_runs.proofs.Calling.{none_odd, CallsOk, comes_back, unused_back, void_back}
use Rattle.graph_build_runs.proofs.Library.{list_then, effect_done, getchar_end, getchar_byte, putchar_effect, exit_ends}

-- the names of arguments begin where a call does
abbrev pub Passes : Setting → ArgumentTrees → Type 0
Passes x all = (t : ℕ) → size_in x ≤ t → t ≤ (passed_laid (names_in x) all t).next

module _ (x : Setting) (calls : Calls) (low : ScalarsFirst x) (all : ArgumentTrees) (types : List ValueType) (typed_all : TypedAll x calls types all) (does_all : DoesAll x calls all) (passes : Passes x all) where
  abbrev own_by : ℕ → ℕ
  own_by t = pick (names_in x) t (passed_laid (names_in x) all t).next

  own_above : (t : ℕ) → size_in x ≤ t → t ≤ own_by t
  own_above t size = pick_between (names_in x) t (passed_laid (names_in x) all t).next t (omega arith) (passes t size)

  abbrev last_by : source-callee.Callee → Bool → ℕ → Goal → Made
  last_by c void t g = called_by void g (own_by t) (λ y. unit.Call y (callee_for c) (passed_in x all t))

  abbrev stands_by : Bool → ℕ → Operand
  stands_by void t = (called_laid (names_in x) Anywhere void t (passed_laid (names_in x) all t).next (passed_laid (names_in x) all t).top).value

  -- what a call does behind its arguments
  abbrev Finishes : source-callee.Callee → Bool → Type 0
  Finishes c void = (t : ℕ) (g : Goal) (vs : List source-value.Value) (s : State) (l : Local) (w : World) → size_in x ≤ t → Sound x.program x.begun s → Fits x None s l w → AreOf s.memory types vs
      → SameValues x.program s.memory w.memory vs (map (value x.unit.statics l.names) (passed_in x all t)) → Result x g (stands_by void t) t (λ y. false) (last_by c void t g).ops (last_by c void t g).end l w (call calls c vs s)

  call_does : (c : source-callee.Callee) (void : Bool) → is_void (given_by (names_in x).results c) ≡ void → Finishes c void → Does x calls (Call c all)
  call_does c void is finish t g s l w size st sound fits aims =
      subst (λ v. Stands x.graph x.top (passing x all t (last_by c v t g)).inner
      → Result x g (stands_by v t) t (any_written x all) (passing x all t (last_by c v t g)).ops (passing x all t (last_by c v t g)).end l w (evaluate calls (depth_in x) (Call c all) s)) (sym is)
      (λ st'. list_then x types g (last_by c void t g) all (stands_by void t) t (passing x all t (last_by c void t g)).ops (passing x all t (last_by c void t g)).end l w s.memory (evaluate_all calls (depth_in x) all s) (call calls c)
      (typed_all s sound) (does_all t (last_by c void t g) s l w size st' sound fits)
      (λ vs s1 keeps h. finish t g vs s1 h.reached.local h.reached.world size keeps.sound h.reached.fits keeps.are h.same)) st

  -- a function that gives a value
  value_finishes : (f : ℕ) → CallsOk x calls f types → Finishes (called.Function f) false
  value_finishes f ok t (To want m) vs s l w size sound fits are same =
      let above = own_above t size in
      comes_back x low f t (own_by t) above (omega (arith, above, size)) (passed_in x all t) (To want m) s l w (calls f vs s)
      (ok (Some (target (To want m) (own_by t))) (passed_in x all t) vs (follow (To want m) (own_by t)).ops (follow (To want m) (own_by t)).end s l w sound fits are same)
  value_finishes f ok t (Unused m) vs s l w size sound fits are same =
      let above = own_above t size in
      unused_back x low f t (own_by t) above (omega (arith, above, size)) (passed_in x all t) m s l w (calls f vs s) (ok None (passed_in x all t) vs m.ops m.end s l w sound fits are same)
  value_finishes f ok t (Either one other inner) vs s l w size sound fits are same =
      let above = own_above t size in
      let g = Either one other inner in
      comes_back x low f t (own_by t) above (omega (arith, above, size)) (passed_in x all t) g s l w (calls f vs s)
      (ok (Some (target g (own_by t))) (passed_in x all t) vs (follow g (own_by t)).ops (follow g (own_by t)).end s l w sound fits are same)

  pub function_does : (f : ℕ) → is_void (given_by (names_in x).results (called.Function f)) ≡ false → CallsOk x calls f types → Does x calls (Call (called.Function f) all)
  function_does f is ok = call_does (called.Function f) false is (value_finishes f ok)

  -- a function that gives none
  void_finishes : (f : ℕ) → ((vs : List source-value.Value) (s : State) (v : source-value.Value) (s2 : State) → calls f vs s ≡ Gives v s2 → ⊥) → CallsOk x calls f types → Finishes (called.Function f) true
  void_finishes f nothing ok t g vs s l w size sound fits are same =
      let above = own_above t size in
      let m = leaf g zero_operand in
      void_back x low f t (own_by t) above (omega (arith, above, size)) (passed_in x all t) g (stands_by true t) s l w (calls f vs s) (λ v s2 e. nothing vs s v s2 e) (ok None (passed_in x all t) vs m.ops m.end s l w sound fits are same)

  pub procedure_does : (f : ℕ) → is_void (given_by (names_in x).results (called.Function f)) ≡ true → ((vs : List source-value.Value) (s : State) (v : source-value.Value) (s2 : State) → calls f vs s ≡ Gives v s2 → ⊥) → CallsOk x calls f types
      → Does x calls (Call (called.Function f) all)
  procedure_does f is nothing ok = call_does (called.Function f) true is (void_finishes f nothing ok)

  -- `getchar`
  byte_finishes : Finishes called.Getchar false
  byte_finishes t g vs s l w size sound fits are same = go s.input refl
    where
      above : t ≤ own_by t
      above = own_above t size

      odd : list_any is_odd (map (value x.unit.statics l.names) (passed_in x all t)) ≡ false
      odd = none_odd x.program s.memory w.memory vs (map (value x.unit.statics l.names) (passed_in x all t)) same

      go : (input : List ℕ) → s.input ≡ input → Result x g (Name (own_by t)) t (λ y. false) (last_by called.Getchar false t g).ops (last_by called.Getchar false t g).end l w (next_byte input s)
      go [] e =
          let le = above in
          effect_done x low t (own_by t) le (omega (arith, le, size)) (λ k. unit.Call k unit-called.Getchar (passed_in x all t)) l w (source.Number (negsuc 0)) s (getchar_end x (passed_in x all t) l w s sound fits odd e) g
      go (byte ∷ input) e =
          let le = above in
          let bytes = subst AreBytes e sound.bytes in
          effect_done x low t (own_by t) le (omega (arith, le, size)) (λ k. unit.Call k unit-called.Getchar (passed_in x all t)) l w (source.Number (pos byte)) (record s { input = input }) (getchar_byte x (passed_in x all t) l w s sound fits odd byte input e bytes.0) g

  pub getchar_does : Does x calls (Call called.Getchar all)
  getchar_does = call_does called.Getchar false refl byte_finishes

  -- one argument that is a number
  one_word : (memory : Memory) (others : UnitMemory) (z : ℤ) (ws : List Value) → SameValues x.program memory others (source.Number z ∷ []) ws → ws ≡ Number (unsigned_bits z) ∷ []
  one_word memory others z [] same = absurd same
  one_word memory others z (w ∷ []) same = ap (λ k. k ∷ []) same.0
  one_word memory others z (w ∷ u ∷ ws) same = absurd same.1

  -- `putchar`
  put_finishes : Finishes called.Putchar false
  put_finishes t g [] s l w size sound fits are same =
      ended_result x g (stands_by false t) t (λ y. false) (last_by called.Putchar false t g).ops (last_by called.Putchar false t g).end l w ending.Undefined s (stuck_now x None (last_by called.Putchar false t g).ops (last_by called.Putchar false t g).end s l w fits)
  put_finishes t g (source.Number z ∷ []) s l w size sound fits are same =
      let le = own_above t size in
      effect_done x low t (own_by t) le (omega (arith, le, size)) (λ k. unit.Call k unit-called.Putchar (passed_in x all t)) l w _ _ (putchar_effect x (passed_in x all t) l w s z fits (one_word s.memory w.memory z (map (value x.unit.statics l.names) (passed_in x all t)) same)) g
  put_finishes t g (source.Null ∷ []) s l w size sound fits are same =
      ended_result x g (stands_by false t) t (λ y. false) (last_by called.Putchar false t g).ops (last_by called.Putchar false t g).end l w ending.Undefined s (stuck_now x None (last_by called.Putchar false t g).ops (last_by called.Putchar false t g).end s l w fits)
  put_finishes t g (source.Pointer n k ∷ []) s l w size sound fits are same =
      ended_result x g (stands_by false t) t (λ y. false) (last_by called.Putchar false t g).ops (last_by called.Putchar false t g).end l w ending.Undefined s (stuck_now x None (last_by called.Putchar false t g).ops (last_by called.Putchar false t g).end s l w fits)
  put_finishes t g (v ∷ u ∷ vs) s l w size sound fits are same =
      ended_result x g (stands_by false t) t (λ y. false) (last_by called.Putchar false t g).ops (last_by called.Putchar false t g).end l w ending.Undefined s (stuck_now x None (last_by called.Putchar false t g).ops (last_by called.Putchar false t g).end s l w fits)

  pub putchar_does : Does x calls (Call called.Putchar all)
  putchar_does = call_does called.Putchar false refl put_finishes

  -- an argument that is an int
  status : (z : ℤ) (memory : Memory) → AreOf memory (Integer Int ∷ []) (source.Number z ∷ []) → IsStatus z
  status z memory h = h.0

  -- `exit`
  exit_finishes : types ≡ Integer Int ∷ [] → Finishes called.Exit true
  exit_finishes one t g [] s l w size sound fits are same =
      ended_result x g (stands_by true t) t (λ y. false) (last_by called.Exit true t g).ops (last_by called.Exit true t g).end l w ending.Undefined s (stuck_now x None (last_by called.Exit true t g).ops (last_by called.Exit true t g).end s l w fits)
  exit_finishes one t g (source.Number z ∷ []) s l w size sound fits are same =
      let m = leaf g zero_operand in
      ended_result x g (stands_by true t) t (λ y. false) (last_by called.Exit true t g).ops (last_by called.Exit true t g).end l w (ending.Exit z) s
      (exit_ends x None (passed_in x all t) m.ops m.end l w s z (status z s.memory (subst (λ ts. AreOf s.memory ts (source.Number z ∷ [])) one are)) fits (one_word s.memory w.memory z (map (value x.unit.statics l.names) (passed_in x all t)) same))
  exit_finishes one t g (source.Null ∷ []) s l w size sound fits are same =
      ended_result x g (stands_by true t) t (λ y. false) (last_by called.Exit true t g).ops (last_by called.Exit true t g).end l w ending.Undefined s (stuck_now x None (last_by called.Exit true t g).ops (last_by called.Exit true t g).end s l w fits)
  exit_finishes one t g (source.Pointer n k ∷ []) s l w size sound fits are same =
      ended_result x g (stands_by true t) t (λ y. false) (last_by called.Exit true t g).ops (last_by called.Exit true t g).end l w ending.Undefined s (stuck_now x None (last_by called.Exit true t g).ops (last_by called.Exit true t g).end s l w fits)
  exit_finishes one t g (v ∷ u ∷ vs) s l w size sound fits are same =
      ended_result x g (stands_by true t) t (λ y. false) (last_by called.Exit true t g).ops (last_by called.Exit true t g).end l w ending.Undefined s (stuck_now x None (last_by called.Exit true t g).ops (last_by called.Exit true t g).end s l w fits)

  pub exit_does : types ≡ Integer Int ∷ [] → Does x calls (Call called.Exit all)
  exit_does one = call_does called.Exit true refl (exit_finishes one)
