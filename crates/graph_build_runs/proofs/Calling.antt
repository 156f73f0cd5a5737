-- Calls of functions, by what a call comes to, and of the library.
use Rattle.std.proofs.Common.{◌≡◌, ℕ, zero, suc, ◌+◌, ◌-◌, ◌%◌, ◌<◌, ◌≤◌, List, [], ◌∷◌, ◌++◌, map, Option, Some, None, Bool, true, false, ◌||◌, refl, sym, ap, ◌∙◌, subst, arith, ℤ, pos, negsuc}
use Rattle.std.specs.Prelude.{if◌then◌else◌, ◌==◌}
use Rattle.std.specs.List.{list_any}
use Rattle.word_base.specs.Types.{char_type, converted, bits_of}
use Rattle.c_tree.specs.declared.object_type.ValueType.{ValueType}
use Rattle.c_tree.specs.declared.typed_expression.Callee as source-callee
use Rattle.c_tree.specs.declared.typed_expression.Callee.TheVariants as called
use Rattle.c_tree.specs.TypedExpressions.{RvalueTree, ArgumentTrees, Call}
use Rattle.c_tree.specs.Programs.{ProgramTree}
use Rattle.c_type_rules.specs.ValueTypes.{given_by, is_void}
use Rattle.c_meaning_values.specs.declared.value.Value as source-value
use Rattle.c_meaning_values.specs.declared.value.Value.TheVariants as source
use Rattle.c_meaning_steps.specs.declared.event.Ending.{Ending}
use Rattle.c_meaning_steps.specs.declared.event.Ending.TheVariants as ending
use Rattle.c_meaning_values.specs.Memory.{Memory}
use Rattle.c_meaning_steps.specs.States.{State, Event as SourceEvent, Put as SourcePut, seen, Evaluated, Gives, Leaves, Ends, Listed, Lists, NoList, on_list}
use Rattle.c_meaning.specs.Expressions.{Calls, evaluate, evaluate_all, call}
use Rattle.c_meaning_steps.specs.Steps.{next_byte, byte_put, leave}
use Rattle.graph_core.specs.declared.value.Value.{Value}
use Rattle.graph_core.specs.declared.value.Value.TheVariants.{Number}
use Rattle.graph_core.specs.declared.instruction.Callee as unit-callee
use Rattle.graph_core.specs.declared.instruction.Callee.TheVariants as unit-called
use Rattle.graph_core.specs.Graphs as unit
use Rattle.graph_core.specs.Graphs.{Operand, Name, Instruction, End}
use Rattle.graph_core.specs.Memory.{Memory as UnitMemory}
use Rattle.graph_core.specs.Runs.{Event, Put, Exited, Stepped, Goes, Shows, Ends as StepEnds, Wild, step, value, got, put_out, exited}
use Rattle.graph_core.specs.Runs as run
use Rattle.graph_core.specs.Values.{is_odd}
use Rattle.graph_build_names.specs.Conversions.{unsigned_bits}
use Rattle.graph_build_layout.specs.declared.laid.Use.TheVariants.{Anywhere}
use Rattle.graph_build_names.specs.Names.{pick}
use Rattle.graph_build_layout.specs.Layout.{laid, passed_laid}
use Rattle.graph_build_names.specs.Writes.{writes_any}
use Rattle.graph_build_steps.specs.Rules.{callee_for}
use Rattle.graph_build_steps.specs.Drafts.{Made, Goal, To, Unused, Either, instruction_before, leaf, zero as zero_operand, target, follow, called_by}
use Rattle.event_runs.specs.Agreement.{Pairs}
use Rattle.graph_build_runs.specs.Correspondence.{SameValue, SameValues, SameEvent, AreBytes}
use Rattle.graph_build_runs.proofs.Leads.{Setting, names_in, size_in, depth_in, Local, World, set_name, at, Leads, stays, goes, shows, then_leads, put_here, put_elsewhere, less_other}
use Rattle.graph_build_runs.proofs.Later.{OthersLater, others_refl}
use Rattle.graph_build_runs.proofs.Kept.{is_want, Sound, Fits, ScalarsFirst, fits_local, fits_temporary, fits_wanted}
use Rattle.graph_build_runs.proofs.Results.{Reached, Passes, to_made, Stuck, Valued, Result, ended_result, result_after, stuck_after}
use Rattle.graph_build_runs.proofs.Tests.{HasWord}
use Rattle.graph_build_runs.proofs.Noting.{known_value}
use Rattle.graph_build_runs.proofs.Leaves.{leaf_done}
use Rattle.graph_build_runs.proofs.Sequences.{left_done}
use Rattle.graph_build_runs.proofs.Arguments.{AreOf, TypedAll, KeepsList, Listing, Row, RowR, passing, passed_in, any_written, DoesAll}

-- no argument is odd that corresponds to a value
pub none_odd : (p : ProgramTree) (memory : Memory) (others : UnitMemory) (vs : List source-value.Value) (ws : List Value) → SameValues p memory others vs ws → list_any is_odd ws ≡ false
none_odd p memory others [] [] same = refl
none_odd p memory others [] (w ∷ ws) same = absurd same
none_odd p memory others (v ∷ vs) [] same = absurd same
none_odd p memory others (v ∷ vs) (w ∷ ws) same = ap (λ b. b || list_any is_odd ws) (known_value p memory others v w same.0) ∙ none_odd p memory others vs ws same.1

-- the activation as it waits for a call, and behind it
abbrev pub waiting : Local → Option ℕ → Local
waiting l target = record l { wants = target }

abbrev pub returned : Local → Option ℕ → Value → Local
returned l None given = record l { wants = None }
returned l (Some k) given = record l { names = run.with_value_at l.names k given; wants = Some k }

-- A call comes back, with a value or without one.
pub record Back (x : Setting) (target : Option ℕ) (f : ℕ) (all : List Operand) (ops : List Instruction) (end : End) (l : Local) (w : World) (s : State) : Type 0 where
  pub world : World
  pub given : Value
  pub leads : Passes x (unit.Call target (unit-called.Function f) all ∷ ops) end l w ops end (returned l target given) world
  pub fits : Fits x None s (waiting l target) world
  pub later : OthersLater w.memory world.memory

pub record BackWith (x : Setting) (target : Option ℕ) (f : ℕ) (all : List Operand) (ops : List Instruction) (end : End) (l : Local) (w : World) (v : source-value.Value) (s : State) : Type 0 where
  pub back : Back x target f all ops end l w s
  pub same : SameValue x.program s.memory back.world.memory v back.given
  pub word : HasWord v

abbrev pub BackR : Setting → Option ℕ → ℕ → List Operand → List Instruction → End → Local → World → Evaluated → Type 0
BackR x target f all ops end l w (Gives v s) = BackWith x target f all ops end l w v s
BackR x target f all ops end l w (Leaves s) = Back x target f all ops end l w s
BackR x target f all ops end l w (Ends e s) = Stuck x (unit.Call target (unit-called.Function f) all ∷ ops) end l w e s

-- Calls of a function do what they mean, for an activation that waits for them.
abbrev pub CallsOk : Setting → Calls → ℕ → List ValueType → Type 0
CallsOk x calls f types = (target : Option ℕ) (all : List Operand) (vs : List source-value.Value) (ops : List Instruction) (end : End) (s : State) (l : Local) (w : World) → Sound x.program x.begun s → Fits x None s l w → AreOf s.memory types vs
    → SameValues x.program s.memory w.memory vs (map (value x.unit.statics l.names) all) → BackR x target f all ops end l w (calls f vs s)

module _ (x : Setting) (low : ScalarsFirst x) (f : ℕ) (t own : ℕ) (le : t ≤ own) (size : size_in x ≤ own) (all : List Operand) where
  abbrev i_in : Option ℕ → Instruction
  i_in k = unit.Call k (unit-called.Function f) all

  -- behind a call that writes a name
  abbrev back_reached : (want : Option ℕ) (k : ℕ) (m : Made) (s : State) (l : Local) (w : World) (h : Back x (Some k) f all m.ops m.end l w s) → Fits x want s (returned l (Some k) h.given) h.world → ((y : ℕ) → y < t → is_want want y ≡ false → y == k ≡ false)
      → Reached x want t (λ y. false) l w (to_made x (i_in (Some k) ∷ m.ops) m.end l w m) s
  back_reached want k m s l w h fits apart =
      record { local = returned l (Some k) h.given; world = h.world; leads = h.leads; fits = fits; kept = λ y lt nw nf. put_elsewhere l.names k y h.given (apart y lt nw); later = h.later }

  abbrev temporary_back : (m : Made) (s : State) (l : Local) (w : World) → Back x (Some own) f all m.ops m.end l w s → Reached x None t (λ y. false) l w (to_made x (i_in (Some own) ∷ m.ops) m.end l w m) s
  temporary_back m s l w h = back_reached None own m s l w h (fits_temporary x s (waiting l (Some own)) h.world own h.given low h.fits size) (λ y lt nw. less_other y own (omega (arith, lt, le)))

  abbrev wanted_back : (k : ℕ) (m : Made) (s : State) (l : Local) (w : World) → Back x (Some k) f all m.ops m.end l w s → Reached x (Some k) t (λ y. false) l w (to_made x (i_in (Some k) ∷ m.ops) m.end l w m) s
  wanted_back k m s l w h = back_reached (Some k) k m s l w h (fits_wanted x s (waiting l (Some k)) h.world k h.given h.fits) (λ y lt nw. nw)

  -- A call whose value is used.
  pub comes_back : (g : Goal) (s : State) (l : Local) (w : World) (r : Evaluated) → BackR x (Some (target g own)) f all (follow g own).ops (follow g own).end l w r
      → Result x g (Name own) t (λ y. false) (i_in (Some (target g own)) ∷ (follow g own).ops) (follow g own).end l w r
  comes_back (To None m) s l w (Gives v s2) h =
      record { reached = temporary_back m s2 l w h.back; same = subst (SameValue x.program s2.memory h.back.world.memory v) (sym (put_here l.names own h.back.given)) h.same }
  comes_back (To (Some k) m) s l w (Gives v s2) h =
      record { reached = wanted_back k m s2 l w h.back; same = subst (SameValue x.program s2.memory h.back.world.memory v) (sym (put_here l.names k h.back.given)) h.same }
  comes_back (Unused m) s l w (Gives v s2) h = temporary_back m s2 l w h.back
  comes_back (Either one other inner) s l w (Gives v s2) h =
      let m = leaf (Either one other inner) (Name own) in
      let r = temporary_back m s2 l w h.back in
      result_after x t t (λ y. false) (λ y. false) (i_in (Some own) ∷ m.ops) m.ops m.end m.end l r.local w r.world r.leads (λ y lt nf. (lt, nf, r.kept y lt refl nf)) r.later (Either one other inner) (Name own) (Gives v s2)
      (leaf_done x (Either one other inner) (Name own) t (λ y. false) v s2 r.local r.world r.fits (subst (SameValue x.program s2.memory h.back.world.memory v) (sym (put_here l.names own h.back.given)) h.same) h.word)
  comes_back (To None m) s l w (Leaves s2) h = temporary_back m s2 l w h
  comes_back (To (Some k) m) s l w (Leaves s2) h = wanted_back k m s2 l w h
  comes_back (Unused m) s l w (Leaves s2) h = temporary_back m s2 l w h
  comes_back (Either one other inner) s l w (Leaves s2) h =
      let m = leaf (Either one other inner) (Name own) in
      let r = temporary_back m s2 l w h in
      record { configuration = at x m.ops m.end r.local r.world; seen = r.world.seen; leads = r.leads; ends = r.fits.events }
  comes_back g s l w (Ends e s2) h = ended_result x g (Name own) t (λ y. false) (i_in (Some (target g own)) ∷ (follow g own).ops) (follow g own).end l w e s2 h

  -- behind a call that writes none
  abbrev none_back : (m : Made) (s : State) (l : Local) (w : World) → Back x None f all m.ops m.end l w s → Reached x None t (λ y. false) l w (to_made x (i_in None ∷ m.ops) m.end l w m) s
  none_back m s l w h = record { local = returned l None h.given; world = h.world; leads = h.leads; fits = h.fits; kept = λ y lt nw nf. refl; later = h.later }

  -- A call whose value nothing uses.
  pub unused_back : (m : Made) (s : State) (l : Local) (w : World) (r : Evaluated) → BackR x None f all m.ops m.end l w r → Result x (Unused m) (Name own) t (λ y. false) (i_in None ∷ m.ops) m.end l w r
  unused_back m s l w (Gives v s2) h = none_back m s2 l w h.back
  unused_back m s l w (Leaves s2) h = none_back m s2 l w h
  unused_back m s l w (Ends e s2) h = h

  -- A call of a function that gives nothing.
  pub void_back : (g : Goal) (a : Operand) (s : State) (l : Local) (w : World) (r : Evaluated) → (((v : source-value.Value) (s2 : State) → r ≡ Gives v s2 → ⊥)) → BackR x None f all (leaf g zero_operand).ops (leaf g zero_operand).end l w r
      → Result x g a t (λ y. false) (i_in None ∷ (leaf g zero_operand).ops) (leaf g zero_operand).end l w r
  void_back g a s l w (Gives v s2) nothing h = absurd (nothing v s2 refl)
  void_back g a s l w (Leaves s2) nothing h =
      let m = leaf g zero_operand in
      let r = none_back m s2 l w h in
      result_after x t t (λ y. false) (λ y. false) (i_in None ∷ m.ops) m.ops m.end m.end l r.local w r.world r.leads (λ y lt nf. (lt, nf, refl)) r.later g a (Leaves s2) (left_done x g a zero_operand t (λ y. false) s2 r.local r.world r.fits)
  void_back g a s l w (Ends e s2) nothing h = ended_result x g a t (λ y. false) (i_in None ∷ (leaf g zero_operand).ops) (leaf g zero_operand).end l w e s2 h
