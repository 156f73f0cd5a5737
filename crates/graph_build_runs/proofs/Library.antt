-- Calls of the library, and of functions.
use Rattle.std.proofs.Common.{◌≡◌, ℕ, zero, suc, ◌+◌, ◌-◌, ◌%◌, ◌<◌, ◌≤◌, List, [], ◌∷◌, ◌++◌, map, Option, Some, None, Bool, true, false, ◌||◌, refl, sym, ap, ◌∙◌, subst, arith, ℤ, pos, negsuc}
use Rattle.std.specs.Prelude.{if◌then◌else◌, ◌==◌}
use Rattle.std.specs.List.{list_any}
use Rattle.word_base.specs.Types.{char_type, converted, bits_of}
use Rattle.c_tree.specs.declared.object_type.ValueType.{ValueType}
use Rattle.c_tree.specs.declared.typed_expression.Callee as source-callee
use Rattle.c_tree.specs.declared.typed_expression.Callee.TheVariants as called
use Rattle.c_tree.specs.TypedExpressions.{RvalueTree, ArgumentTrees, Call}
use Rattle.c_tree.specs.Programs.{ProgramTree}
use Rattle.c_type_rules.specs.ValueTypes.{given_by, is_void}
use Rattle.c_meaning_values.specs.declared.value.Value as source-value
use Rattle.c_meaning_values.specs.declared.value.Value.TheVariants as source
use Rattle.c_meaning_steps.specs.declared.event.Ending.TheVariants as ending
use Rattle.c_meaning_values.specs.Memory.{Memory}
use Rattle.c_meaning_steps.specs.States.{State, Event as SourceEvent, Put as SourcePut, seen, Evaluated, Gives, Leaves, Ends, Listed, Lists, NoList, on_list}
use Rattle.c_meaning.specs.Expressions.{Calls, evaluate, evaluate_all, call, call_with_one}
use Rattle.c_meaning_steps.specs.Steps.{next_byte, byte_put, leave}
use Rattle.graph_core.specs.declared.value.Value.{Value}
use Rattle.graph_core.specs.declared.value.Value.TheVariants.{Number}
use Rattle.graph_core.specs.declared.instruction.Callee as unit-callee
use Rattle.graph_core.specs.declared.instruction.Callee.TheVariants as unit-called
use Rattle.graph_core.specs.Graphs as unit
use Rattle.graph_core.specs.Graphs.{Operand, Name, Instruction, End}
use Rattle.graph_core.specs.Memory.{Memory as UnitMemory}
use Rattle.graph_core.specs.Runs.{Event, Put, Exited, Stepped, Goes, Shows, Ends as StepEnds, Wild, step, value, got, put_out, exited, first_argument}
use Rattle.graph_core.specs.Runs as run
use Rattle.graph_core.specs.Values.{is_odd}
use Rattle.graph_build_names.specs.Conversions.{unsigned_bits}
use Rattle.graph_build_layout.specs.declared.laid.Use.TheVariants.{Anywhere}
use Rattle.graph_build_names.specs.Names.{pick}
use Rattle.graph_build_layout.specs.Laid.{called_laid}
use Rattle.graph_build_layout.specs.Layout.{laid, passed_laid}
use Rattle.graph_build_names.specs.Writes.{writes_any}
use Rattle.graph_build_steps.specs.Rules.{callee_for}
use Rattle.graph_build_steps.specs.Drafts.{Made, Goal, To, Unused, Either, instruction_before, leaf, zero as zero_operand, target, follow, called_by}
use Rattle.event_runs.specs.Agreement.{Pairs}
use Rattle.graph_build_runs.specs.Stops.{IsStatus}
use Rattle.graph_build_runs.specs.Correspondence.{SameValue, SameValues, SameEvent, AreBytes}
use Rattle.graph_build_runs.specs.Correspondence as event
use Rattle.graph_build_runs.proofs.Leads.{Setting, names_in, size_in, depth_in, Local, World, set_name, at, Leads, stays, goes, shows, then_leads, put_here, put_elsewhere, less_other}
use Rattle.graph_build_runs.proofs.Later.{OthersLater, others_refl}
use Rattle.graph_build_runs.proofs.Kept.{is_want, Sound, Fits, ScalarsFirst, fits_temporary, fits_wanted}
use Rattle.graph_build_runs.proofs.Results.{Reached, Passes, to_made, Stuck, Valued, Result, ended_result, result_after, stuck_after}
use Rattle.graph_build_runs.proofs.Tests.{HasWord}
use Rattle.graph_build_runs.proofs.Words.{InWord}
use Rattle.graph_build_runs.proofs.Leaves.{leaf_done}
use Rattle.graph_build_runs.proofs.Arguments.{AreOf, TypedAll, KeepsList, Listing, Row, RowR, passing, passed_in, any_written, DoesAll}
use Rattle.graph_build_runs.proofs.Calling.{none_odd}

-- The values of arguments are given to what follows.
pub list_then : (x : Setting) (types : List ValueType) (g : Goal) (m : Made) (all : ArgumentTrees) (a : Operand) (t : ℕ) (ops : List Instruction) (end : End) (l : Local) (w : World) (before_memory : Memory) (r : Listed) (next : List source-value.Value → State → Evaluated)
    → KeepsList x.program x.begun before_memory types r → RowR x m all t ops end l w r
    → ((vs : List source-value.Value) (s : State) → Listing x.program x.begun before_memory types vs s → (h : Row x m all t ops end l w vs s) → Result x g a t (λ y. false) m.ops m.end h.reached.local h.reached.world (next vs s))
    → Result x g a t (any_written x all) ops end l w (on_list r next)
list_then x types g m all a t ops end l w before_memory (Lists vs s) next keeps h go_on =
    result_after x t t (any_written x all) (λ y. false) ops m.ops end m.end l h.reached.local w h.reached.world h.reached.leads (λ y lt nf. (lt, refl, h.reached.kept y lt refl nf)) h.reached.later g a (next vs s) (go_on vs s keeps h)
list_then x types g m all a t ops end l w before_memory (NoList e s) next keeps h go_on = ended_result x g a t (any_written x all) ops end l w e s h

-- A call of the library shows or takes what it does, and its value goes where it is wanted.
pub record Effect (x : Setting) (i : Option ℕ → Instruction) (l : Local) (w : World) (v : source-value.Value) (s : State) : Type 0 where
  pub given : Value
  pub world : World
  pub writes : (k : ℕ) (ops : List Instruction) (end : End) → Passes x (i (Some k) ∷ ops) end l w ops end (set_name l k given) world
  pub does : (ops : List Instruction) (end : End) → Passes x (i None ∷ ops) end l w ops end l world
  pub fits : Fits x None s l world
  pub same : SameValue x.program s.memory world.memory v given
  pub word : HasWord v
  pub later : OthersLater w.memory world.memory

module _ (x : Setting) (low : ScalarsFirst x) (t own : ℕ) (le : t ≤ own) (size : size_in x ≤ own) (i : Option ℕ → Instruction) (l : Local) (w : World) (v : source-value.Value) (s : State) (h : Effect x i l w v s) where
  abbrev temporary_done : (m : Made) → Reached x None t (λ y. false) l w (to_made x (i (Some own) ∷ m.ops) m.end l w m) s
  temporary_done m = record {
    local = set_name l own h.given;
    world = h.world;
    leads = h.writes own m.ops m.end;
    fits = fits_temporary x s l h.world own h.given low h.fits size;
    kept = λ y lt nw nf. put_elsewhere l.names own y h.given (less_other y own (omega (arith, lt, le)));
    later = h.later;
  }

  -- the code of a call that gives a value
  pub effect_done : (g : Goal) → Result x g (Name own) t (λ y. false) (called_by false g own i).ops (called_by false g own i).end l w (Gives v s)
  effect_done (To None m) = record { reached = temporary_done m; same = subst (SameValue x.program s.memory h.world.memory v) (sym (put_here l.names own h.given)) h.same }
  effect_done (To (Some k) m) = record {
    reached = record {
      local = set_name l k h.given;
      world = h.world;
      leads = h.writes k m.ops m.end;
      fits = fits_wanted x s l h.world k h.given h.fits;
      kept = λ y lt nw nf. put_elsewhere l.names k y h.given nw;
      later = h.later;
    };
    same = subst (SameValue x.program s.memory h.world.memory v) (sym (put_here l.names k h.given)) h.same;
  }
  effect_done (Unused m) = record { local = l; world = h.world; leads = h.does m.ops m.end; fits = h.fits; kept = λ y lt nw nf. refl; later = h.later }
  effect_done (Either one other inner) =
      let m = leaf (Either one other inner) (Name own) in
      let r = temporary_done m in
      result_after x t t (λ y. false) (λ y. false) (i (Some own) ∷ m.ops) m.ops m.end m.end l r.local w r.world r.leads (λ y lt nf. (lt, nf, r.kept y lt refl nf)) r.later (Either one other inner) (Name own) (Gives v s)
      (leaf_done x (Either one other inner) (Name own) t (λ y. false) v s r.local r.world r.fits (subst (SameValue x.program s.memory h.world.memory v) (sym (put_here l.names own h.given)) h.same) h.word)

-- the step of a call, where no argument is odd
pub call_step : (x : Setting) (callee : unit-callee.Callee) (target : Option ℕ) (all : List Operand) (ops : List Instruction) (end : End) (l : Local) (w : World) → list_any is_odd (map (value x.unit.statics l.names) all) ≡ false
    → step x.unit (at x (unit.Call target callee all ∷ ops) end l w) ≡ run.call x.unit (at x ops end l w) target callee (map (value x.unit.statics l.names) all)
call_step x callee target all ops end l w odd = ap (λ b. if b then Wild else run.call x.unit (at x ops end l w) target callee (map (value x.unit.statics l.names) all)) odd

pairs_more : {A B : Type 0} (R : A → B → Type 0) (xs : List A) (ys : List B) (a : A) (b : B) → Pairs R xs ys → R a b → Pairs R (xs ++ a ∷ []) (ys ++ b ∷ [])
pairs_more R [] [] a b h k = (k, tt)
pairs_more R [] (y ∷ ys) a b h k = absurd h
pairs_more R (u ∷ xs) [] a b h k = absurd h
pairs_more R (u ∷ xs) (y ∷ ys) a b h k = (h.0, pairs_more R xs ys a b h.1 k)

-- The next byte of the input.
module _ (x : Setting) (all : List Operand) (l : Local) (w : World) (s : State) (sound : Sound x.program x.begun s) (fits : Fits x None s l w) (odd : list_any is_odd (map (value x.unit.statics l.names) all) ≡ false) where
  abbrev i_get : Option ℕ → Instruction
  i_get k = unit.Call k unit-called.Getchar all

  -- what a byte of the input leads to
  got_step : (target : Option ℕ) (ops : List Instruction) (end : End) (input : List ℕ) → w.input ≡ input → step x.unit (at x (unit.Call target unit-called.Getchar all ∷ ops) end l w) ≡ got (at x ops end l w) target input
  got_step target ops end input e = call_step x unit-called.Getchar target all ops end l w odd ∙ ap (got (at x ops end l w) target) e

  pub getchar_end : s.input ≡ [] → Effect x i_get l w (source.Number (negsuc 0)) s
  getchar_end e = record {
    given = Number 4294967295;
    world = w;
    writes = λ k ops end. goes (got_step (Some k) ops end [] (fits.input ∙ e)) stays;
    does = λ ops end. goes (got_step None ops end [] (fits.input ∙ e)) stays;
    fits = fits;
    same = refl;
    word = omega arith;
    later = others_refl w.memory;
  }

  pub getchar_byte : (byte : ℕ) (input : List ℕ) → s.input ≡ byte ∷ input → byte < 256 → Effect x i_get l w (source.Number (pos byte)) (record s { input = input })
  getchar_byte byte input e lt = record {
    given = Number byte;
    world = record w { input = input };
    writes = λ k ops end. goes (got_step (Some k) ops end (byte ∷ input) (fits.input ∙ e)) stays;
    does = λ ops end. goes (got_step None ops end (byte ∷ input) (fits.input ∙ e)) stays;
    fits = record { own = fits.own; outer = fits.outer; placed = fits.placed; differ = fits.differ; above = fits.above; later = fits.later; statics = fits.statics; input = refl; events = fits.events };
    same = (let small : byte ≡ byte % 4294967296 = omega (arith, lt) in ap Number small);
    word = omega (arith, lt);
    later = others_refl w.memory;
  }

-- A byte is put out.
pub putchar_effect : (x : Setting) (all : List Operand) (l : Local) (w : World) (s : State) (z : ℤ) → Fits x None s l w → map (value x.unit.statics l.names) all ≡ Number (unsigned_bits z) ∷ []
    → Effect x (λ k. unit.Call k unit-called.Putchar all) l w (source.Number (converted char_type z)) (seen (SourcePut (bits_of char_type z)) s)
putchar_effect x all l w s z fits same = record {
  given = Number (bits_of char_type z);
  world = record w { seen = w.seen ++ Put (bits_of char_type z) ∷ [] };
  writes = λ k ops end. shows (steps (Some k) ops end) stays;
  does = λ ops end. shows (steps None ops end) stays;
  fits = record {
    own = fits.own;
    outer = fits.outer;
    placed = fits.placed;
    differ = fits.differ;
    above = fits.above;
    later = fits.later;
    statics = fits.statics;
    input = fits.input;
    events = pairs_more (SameEvent x.program x.unit) s.events w.seen (SourcePut (bits_of char_type z)) (Put (bits_of char_type z)) fits.events event.put;
  };
  same = ap Number (byte_word z);
  word = byte_in z;
  later = others_refl w.memory;
}
  where
    low_byte : (z : ℤ) → unsigned_bits z % 256 ≡ bits_of char_type z
    low_byte (pos n) = omega arith
    low_byte (negsuc n) = omega arith

    byte_word : (z : ℤ) → bits_of char_type z ≡ unsigned_bits (converted char_type z)
    byte_word (pos n) = omega arith
    byte_word (negsuc n) = omega arith

    byte_in : (z : ℤ) → InWord (converted char_type z)
    byte_in (pos n) = omega arith
    byte_in (negsuc n) = omega arith

    steps : (target : Option ℕ) (ops : List Instruction) (end : End)
        → step x.unit (at x (unit.Call target unit-called.Putchar all ∷ ops) end l w) ≡ Shows (Put (bits_of char_type z)) (record (at x ops end l w) { here = run.take_wanted target (Number (bits_of char_type z)) (at x ops end l w).here })
    steps target ops end =
        call_step x unit-called.Putchar target all ops end l w (ap (list_any is_odd) same) ∙ ap (λ vs. put_out (at x ops end l w) target (first_argument vs)) same
        ∙ ap (λ k. Shows (Put k) (record (at x ops end l w) { here = run.take_wanted target (Number k) (at x ops end l w).here })) (low_byte z)

-- The program ends with a status.
pub exit_ends : (x : Setting) (target : Option ℕ) (all : List Operand) (ops : List Instruction) (end : End) (l : Local) (w : World) (s : State) (z : ℤ) → IsStatus z → Fits x None s l w → map (value x.unit.statics l.names) all ≡ Number (unsigned_bits z) ∷ []
    → Stuck x (unit.Call target unit-called.Exit all ∷ ops) end l w (ending.Exit z) s
exit_ends x target all ops end l w s z status fits same = record {
  configuration = at x (unit.Call target unit-called.Exit all ∷ ops) end l w;
  seen = w.seen;
  leads = stays;
  ends = (fits.events, call_step x unit-called.Exit target all ops end l w (ap (list_any is_odd) same) ∙ ap (λ vs. exited (first_argument vs)) same, status);
}
