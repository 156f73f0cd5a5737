-- What it means that the code of an expression does what the expression means, and how results follow from one another.
use Rattle.std.proofs.Common.{◌≡◌, ◌≢◌, ℕ, ◌+◌, ◌-◌, ◌<◌, ◌≤◌, List, [], ◌∷◌, ◌++◌, length, Option, Some, None, Bool, true, false, slice_get, refl, sym, ap, ◌∙◌, subst, arith, pos}
use Rattle.std.specs.Prelude.{◌==◌, if◌then◌else◌, not, ℤ}
use Rattle.c_meaning_values.specs.declared.value.Value as source-value
use Rattle.c_meaning_values.specs.declared.value.Value.TheVariants as source
use Rattle.c_meaning_steps.specs.declared.event.Ending.{Ending}
use Rattle.c_meaning_steps.specs.declared.event.Ending.TheVariants as ending
use Rattle.c_meaning_values.specs.Memory.{is_usable}
use Rattle.c_meaning_values.specs.Operations.{is_true}
use Rattle.c_meaning_steps.specs.States.{State, Evaluated, Gives, Leaves, Ends, Tested, Holds, Fails, NoTest, condition_tested, with}
use Rattle.graph_core.specs.declared.value.Value.{Value}
use Rattle.graph_core.specs.declared.value.Value.TheVariants.{Number, Pointer, Odd}
use Rattle.graph_core.specs.Graphs.{Operand, Name, Constant, StaticAddress, Instruction, End, Block}
use Rattle.graph_core.specs.Graphs as unit
use Rattle.graph_core.specs.Memory.{is_live}
use Rattle.graph_core.specs.Runs.{Activation, Configuration, Event, Exited, TooDeep, Stepped, Goes, Ends as StepEnds, Wild, with_value_at, step, value, entered, go_to, branched}
use Rattle.graph_core.specs.Values.{holds}
use Rattle.graph_core.specs.declared.block.Comparison.TheVariants.{NotEqual}
use Rattle.graph_build_names.specs.Conversions.{unsigned_bits}
use Rattle.graph_build_steps.specs.Drafts.{Made, Goal, To, Unused, Either, instruction_before, leaf, target, follow}
use Rattle.event_runs.specs.Agreement.{Pairs}
use Rattle.graph_build_runs.specs.Stops.{IsStatus}
use Rattle.graph_build_runs.specs.Correspondence.{SameValue, SameEvent}
use Rattle.graph_build_runs.proofs.Leads.{Setting, size_in, Local, World, set_name, at, Leads, stays, goes, then_leads, put_here, put_elsewhere, less_other, in_block}
use Rattle.graph_build_runs.proofs.Later.{OthersLater, others_refl, others_trans}
use Rattle.graph_build_runs.proofs.Kept.{is_want, Fits, ScalarsFirst, fits_temporary, fits_wanted}

-- names below t are as before, but for one that is wanted, and those that are written
abbrev pub Kept : ℕ → Option ℕ → (ℕ → Bool) → Local → Local → Type 0
Kept t want written l m = (y : ℕ) → y < t → is_want want y ≡ false → written y ≡ false → m.names y ≡ l.names y

-- The run has come to some point of the code, with the state of the source.
pub record Reached (x : Setting) (want : Option ℕ) (t : ℕ) (written : ℕ → Bool) (l : Local) (w : World) (comes : Local → World → Type 0) (s : State) : Type 0 where
  pub local : Local
  pub world : World
  pub leads : comes local world
  pub fits : Fits x want s local world
  pub kept : Kept t want written l local
  pub later : OthersLater w.memory world.memory

-- from before some instructions to before others
abbrev pub Passes : Setting → List Instruction → End → Local → World → List Instruction → End → Local → World → Type 0
Passes x ops end l w ops' end' l' w' = Leads x.unit (at x ops end l w) w.seen (at x ops' end' l' w') w'.seen

-- to what follows
abbrev pub to_made : Setting → List Instruction → End → Local → World → Made → Local → World → Type 0
to_made x ops end l w m l' w' = Passes x ops end l w m.ops m.end l' w'

-- to the block with a label
abbrev pub to_label : Setting → List Instruction → End → Local → World → ℕ → Local → World → Type 0
to_label x ops end l w label l' w' = (b : Block) → slice_get x.graph.blocks label ≡ Some b → Passes x ops end l w b.instructions b.end (in_block label l') w'

-- How a run ends there as the source's does.
abbrev pub EndsBy : Setting → Ending → State → Configuration → List Event → Type 0
EndsBy x ending.Undefined s c seen = Pairs (SameEvent x.program x.unit) s.events seen
EndsBy x (ending.Exit z) s c seen = Pairs (SameEvent x.program x.unit) s.events seen × (step x.unit c ≡ StepEnds (Exited (unsigned_bits z))) × IsStatus z
EndsBy x ending.Depth s c seen = Pairs (SameEvent x.program x.unit) s.events seen × (step x.unit c ≡ StepEnds TooDeep)
EndsBy x ending.Turns s c seen = Pairs (SameEvent x.program x.unit) s.events seen

-- The run has shown what the source's has, which ends within the expression; nothing is said of what comes behind it where C defines nothing.
pub record Stuck (x : Setting) (ops : List Instruction) (end : End) (l : Local) (w : World) (e : Ending) (s : State) : Type 0 where
  pub configuration : Configuration
  pub seen : List Event
  pub leads : Leads x.unit (at x ops end l w) w.seen configuration seen
  pub ends : EndsBy x e s configuration seen

-- where a value stands: in the name that wants it, or in an operand
abbrev pub operand_in : Option ℕ → Operand → Operand
operand_in None a = a
operand_in (Some k) a = Name k

-- The run has come to what follows, with the value of the source.
pub record Valued (x : Setting) (want : Option ℕ) (m : Made) (a : Operand) (t : ℕ) (written : ℕ → Bool) (ops : List Instruction) (end : End) (l : Local) (w : World) (v : source-value.Value) (s : State) : Type 0 where
  pub reached : Reached x want t written l w (to_made x ops end l w m) s
  pub same : SameValue x.program s.memory reached.world.memory v (value x.unit.statics reached.local.names (operand_in want a))

abbrev pub ToR : Setting → Option ℕ → Made → Operand → ℕ → (ℕ → Bool) → List Instruction → End → Local → World → Evaluated → Type 0
ToR x want m a t written ops end l w (Gives v s) = Valued x want m a t written ops end l w v s
ToR x want m a t written ops end l w (Leaves s) = Reached x want t written l w (to_made x ops end l w m) s
ToR x want m a t written ops end l w (Ends e s) = Stuck x ops end l w e s

abbrev pub UnusedR : Setting → Made → ℕ → (ℕ → Bool) → List Instruction → End → Local → World → Evaluated → Type 0
UnusedR x m t written ops end l w (Gives v s) = Reached x None t written l w (to_made x ops end l w m) s
UnusedR x m t written ops end l w (Leaves s) = Reached x None t written l w (to_made x ops end l w m) s
UnusedR x m t written ops end l w (Ends e s) = Stuck x ops end l w e s

abbrev pub EitherR : Setting → (one other : ℕ) → ℕ → (ℕ → Bool) → List Instruction → End → Local → World → Tested → Type 0
EitherR x one other t written ops end l w (Holds s) = Reached x None t written l w (to_label x ops end l w one) s
EitherR x one other t written ops end l w (Fails s) = Reached x None t written l w (to_label x ops end l w other) s
EitherR x one other t written ops end l w (NoTest e s) = Stuck x ops end l w e s

-- What the code of an expression leads to, by what it is for, where the expression comes to a result.
abbrev pub Result : Setting → Goal → Operand → ℕ → (ℕ → Bool) → List Instruction → End → Local → World → Evaluated → Type 0
Result x (To want m) a t written ops end l w r = ToR x want m a t written ops end l w r
Result x (Unused m) a t written ops end l w r = UnusedR x m t written ops end l w r
Result x (Either one other inner) a t written ops end l w r = EitherR x one other t written ops end l w (condition_tested r)

-- what C does not define ends the obligation
pub stuck_now : (x : Setting) (want : Option ℕ) (ops : List Instruction) (end : End) (s : State) (l : Local) (w : World) → Fits x want s l w → Stuck x ops end l w ending.Undefined s
stuck_now x want ops end s l w f = record { configuration = at x ops end l w; seen = w.seen; leads = stays; ends = f.events }

-- a run that ends, whatever the code is for
pub ended_result : (x : Setting) (g : Goal) (a : Operand) (t : ℕ) (f : ℕ → Bool) (ops : List Instruction) (end : End) (l : Local) (w : World) (e : Ending) (s : State) → Stuck x ops end l w e s → Result x g a t f ops end l w (Ends e s)
ended_result x (To want m) a t f ops end l w e s k = k
ended_result x (Unused m) a t f ops end l w e s k = k
ended_result x (Either one other inner) a t f ops end l w e s k = k

-- a run before a run
module _ (x : Setting) (t t2 : ℕ) (f f2 : ℕ → Bool) (ops ops2 : List Instruction) (end end2 : End) (l l2 : Local) (w w2 : World) (first : Passes x ops end l w ops2 end2 l2 w2)
    (spares : (y : ℕ) → y < t → f y ≡ false → (y < t2) × (f2 y ≡ false) × (l2.names y ≡ l.names y)) (later : OthersLater w.memory w2.memory) where
  pub stuck_after : (e : Ending) (s : State) → Stuck x ops2 end2 l2 w2 e s → Stuck x ops end l w e s
  stuck_after e s k = record { configuration = k.configuration; seen = k.seen; leads = then_leads first k.leads; ends = k.ends }

  abbrev pub reached_after : (want : Option ℕ) (comes comes2 : Local → World → Type 0) (s : State) → ((l' : Local) (w' : World) → comes2 l' w' → comes l' w') → Reached x want t2 f2 l2 w2 comes2 s → Reached x want t f l w comes s
  reached_after want comes comes2 s turns r = record {
    local = r.local;
    world = r.world;
    leads = turns r.local r.world r.leads;
    fits = r.fits;
    kept = λ y lt nw nf. (let c = spares y lt nf in r.kept y c.0 nw c.1 ∙ c.2);
    later = others_trans w.memory w2.memory r.world.memory later r.later;
  }

  abbrev pub made_after : (want : Option ℕ) (m : Made) (s : State) → Reached x want t2 f2 l2 w2 (to_made x ops2 end2 l2 w2 m) s → Reached x want t f l w (to_made x ops end l w m) s
  made_after want m s r = reached_after want (to_made x ops end l w m) (to_made x ops2 end2 l2 w2 m) s (λ l' w' p. then_leads first p) r

  abbrev label_after : (label : ℕ) (s : State) → Reached x None t2 f2 l2 w2 (to_label x ops2 end2 l2 w2 label) s → Reached x None t f l w (to_label x ops end l w label) s
  label_after label s r = reached_after None (to_label x ops end l w label) (to_label x ops2 end2 l2 w2 label) s (λ l' w' p b is. then_leads first (p b is)) r

  pub test_after : (one other : ℕ) (r : Tested) → EitherR x one other t2 f2 ops2 end2 l2 w2 r → EitherR x one other t f ops end l w r
  test_after one other (Holds s) h = label_after one s h
  test_after one other (Fails s) h = label_after other s h
  test_after one other (NoTest e s) h = stuck_after e s h

  pub result_after : (g : Goal) (a : Operand) (r : Evaluated) → Result x g a t2 f2 ops2 end2 l2 w2 r → Result x g a t f ops end l w r
  result_after (To want m) a (Gives v s) h = record { reached = made_after want m s h.reached; same = h.same }
  result_after (To want m) a (Leaves s) h = made_after want m s h
  result_after (To want m) a (Ends e s) h = stuck_after e s h
  result_after (Unused m) a (Gives v s) h = made_after None m s h
  result_after (Unused m) a (Leaves s) h = made_after None m s h
  result_after (Unused m) a (Ends e s) h = stuck_after e s h
  result_after (Either one other inner) a r h = test_after one other (condition_tested r) h

-- less is said of names that are kept
pub reached_weaker : (x : Setting) (want : Option ℕ) (t t1 : ℕ) (f f1 : ℕ → Bool) (l : Local) (w : World) (comes : Local → World → Type 0) (s : State) → t ≤ t1 → ((y : ℕ) → y < t → f y ≡ false → f1 y ≡ false)
    → Reached x want t1 f1 l w comes s → Reached x want t f l w comes s
reached_weaker x want t t1 f f1 l w comes s le spares h =
    record { local = h.local; world = h.world; leads = h.leads; fits = h.fits; kept = λ y lt nw nf. h.kept y (omega (arith, lt, le)) nw (spares y lt nf); later = h.later }
