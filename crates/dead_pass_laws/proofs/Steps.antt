-- One configuration before, and the same after: what an instruction does that stays.
use Rattle.std.proofs.Common.{◌≡◌, ℕ, ◌+◌, ◌%◌, inl, inr, Bool, true, false, Option, Some, None, List, [], ◌∷◌, ◌++◌, length, map, refl, sym, ap, subst}
use Rattle.std.specs.Prelude.{◌==◌, if◌then◌else◌, slice_get, option_and_then}
use Rattle.std.specs.List.{list_any}
use Rattle.event_runs.specs.Agreement.{Pairs}
use Rattle.graph_core.specs.declared.value.Value.{Value}
use Rattle.graph_core.specs.declared.value.Value.TheVariants.{Number, Pointer, Odd}
use Rattle.graph_core.specs.declared.value.Shadow.{Shadow}
use Rattle.graph_core.specs.declared.value.Shadow.TheVariants as shadow
use Rattle.graph_core.specs.declared.instruction.Element.{Element}
use Rattle.graph_core.specs.declared.instruction.Callee.{Callee}
use Rattle.graph_core.specs.declared.instruction.Callee.TheVariants as callee
use Rattle.graph_core.specs.Graphs.{Operand, NoteValue, Is, Gone, Location, Instruction, Marker, Note, Move, Operate, Truncate, Same, Address, Load, Store, Zero, CopyWords, Call, End, Jump, Branch, Return, Block, Logged, UnitForm}
use Rattle.graph_core.specs.Uses.{names_of, names_of_all, names_of_location, reads_of, reads_of_end, target_of, targets_of}
use Rattle.graph_core.specs.Paths.{Among, front, behind}
use Rattle.graph_core.specs.Bounds.{most_activations}
use Rattle.graph_core.specs.Histories.{name_by}
use Rattle.graph_core.specs.Values.{operate, truncate, same, holds, is_odd}
use Rattle.graph_core.specs.Memory.{Memory, is_live, pointer_to_object, ended_from, read, write, zeroed, copied}
use Rattle.graph_core.specs.Runs.{Activation, Configuration, Stop, TooDeep, Goes, Shows, Ends, Wild, frame, with_value_at, value, recipe_value, pointed, entered, wrote, wrote_some, with_memory, unless_odd, take_wanted, at_place, go_to, branched, leave, put_out, got, goes_if, first_argument, enter, call_function, call, execute, execute_end}
use Rattle.pass_law.specs.Kept.{EachFunction}
use Rattle.dead_pass_rule.specs.Idle as rule
use Rattle.pass_law.specs.Keeps.{stays, goes, byte, deep, stop}
use Rattle.dead_pass_notes.specs.Said.{AreSaid}
use Rattle.dead_pass_laws.proofs.Begins.{IsMade, exited_same, returned_same, goes_if_same, unless_same, enter_same, block_said, block_ends}
use Rattle.dead_pass_laws.proofs.Came.{IsValueOf, Came, came_past, came_over, came_on}
use Rattle.dead_pass_laws.proofs.Lists.{AtBoth, at_both}
use Rattle.dead_pass_laws.proofs.Related.{reduced_configuration, AreStill, Fits, Waits, Related, DoesSame, DoesNothing, many_waiting, frame_same, frames_same, goes_on}
use Rattle.dead_pass_laws.proofs.Still.{SaysStill, is_gone, is_same, put_still}
use Rattle.dead_pass_laws.proofs.Values.{AgreeOn, agree_left, agree_right, value_same, values_same, two_same, pointed_same}

module _ (u v : UnitForm) (log : List Logged) (made : EachFunction (IsMade u log) u.graphs v.graphs) where
  -- the unit after, with what it shares with the unit before
  abbrev pub after_of : UnitForm
  after_of = record v { main = u.main; statics = u.statics; array_bytes = u.array_bytes }

  module _ (c : Configuration) (blocks : List Block) (others : ℕ → Value) (shadows : ℕ → Shadow) (still : AreStill c.here.shadows shadows) (rest : List Instruction) (wants : Option ℕ) (waiting : List Activation) (waits : Pairs (Waits u log) c.waiting waiting) (n : ℕ) where
    -- the configuration after
    abbrev d : Configuration
    d = reduced_configuration c blocks others shadows rest wants waiting

    -- The activation came to this instruction.
    abbrev CameAt : Instruction → Type 0
    CameAt i = Came u log c.here.graph blocks c.here.names others n (i ∷ c.here.rest) c.here.end

    -- This is left behind it, before and after.
    abbrev IsLeft : Type 0
    IsLeft = AreSaid u.assignments log c.here.graph n c.here.end c.here.rest rest

    -- The names agree where this is read.
    abbrev Agree : List ℕ → Type 0
    Agree xs = AgreeOn c.here.names others xs

    -- an operand before, and after
    abbrev value_before : Operand → Value
    value_before a = value u.statics c.here.names a

    -- and after
    abbrev value_after : Operand → Value
    value_after a = value u.statics others a

    -- ---- Names and memory

    -- A name is written in both.
    writes_same : (i : Instruction) (x : ℕ) (w z : Value) → target_of i ≡ Some x → IsValueOf u.statics c.here.names i w → z ≡ w → CameAt i → IsLeft → DoesSame u log (wrote c x w) (wrote d x z)
    writes_same i x w z target is e came left = subst (λ k. DoesSame u log (wrote c x w) (wrote d x k)) (sym e) (record {
      blocks = blocks;
      others = with_value_at others x w;
      shadows = shadows;
      rest = rest;
      wants = wants;
      waiting = waiting;
      is = refl;
      here = record {
        block = n;
        came = subst (λ t. Came u log c.here.graph blocks (name_by t w c.here.names) (name_by t w others) n c.here.rest c.here.end) target (came_past u log c.here.graph blocks c.here.names others n i c.here.rest c.here.end w is came);
        said = left;
      };
      still = still;
      waits = waits;
    })

    -- A name is written before, and the write went.
    pub writes_nothing : (i : Instruction) (x : ℕ) (w : Value) → target_of i ≡ Some x → IsValueOf u.statics c.here.names i w → rule.Goes u.assignments c.here.graph n (i ∷ c.here.rest) c.here.end → CameAt i → IsLeft → DoesNothing u log (wrote c x w) d
    writes_nothing i x w target is went came left = record {
      blocks = blocks;
      others = others;
      shadows = shadows;
      rest = rest;
      wants = wants;
      waiting = waiting;
      is = refl;
      here = record {
        block = n;
        came = subst (λ t. Came u log c.here.graph blocks (name_by t w c.here.names) others n c.here.rest c.here.end) target (came_over u log c.here.graph blocks c.here.names others n i c.here.rest c.here.end w is went came);
        said = left;
      };
      still = still;
      waits = waits;
    }

    -- Where nothing is written, the same activation goes on with any memory.
    passes_same : (i : Instruction) (m : Memory) → target_of i ≡ None → IsValueOf u.statics c.here.names i Odd → CameAt i → IsLeft → Related u log (record c { memory = m }) (record d { memory = m })
    passes_same i m target is came left = record {
      blocks = blocks;
      others = others;
      shadows = shadows;
      rest = rest;
      wants = wants;
      waiting = waiting;
      is = refl;
      here = record {
        block = n;
        came = subst (λ t. Came u log c.here.graph blocks (name_by t Odd c.here.names) (name_by t Odd others) n c.here.rest c.here.end) target (came_past u log c.here.graph blocks c.here.names others n i c.here.rest c.here.end Odd is came);
        said = left;
      };
      still = still;
      waits = waits;
    }

    -- Nothing but memory changes, where that can be.
    memory_same : (i : Instruction) (o : Option Memory) → target_of i ≡ None → IsValueOf u.statics c.here.names i Odd → CameAt i → IsLeft → DoesSame u log (with_memory c o) (with_memory d o)
    memory_same i None target is came left = tt
    memory_same i (Some m) target is came left = passes_same i m target is came left

    -- A name is written, if there is a value.
    some_same : (x : ℕ) (e : Element) (l : Location) (o : Option Value) → CameAt (Load x e l) → IsLeft → DoesSame u log (wrote_some c x o) (wrote_some d x o)
    some_same x e l None came left = tt
    some_same x e l (Some w) came left = writes_same (Load x e l) x w w refl tt refl came left

    -- A name is written before, if there is a value, and the write went.
    pub some_nothing : (x : ℕ) (e : Element) (l : Location) (o : Option Value) → rule.Goes u.assignments c.here.graph n (Load x e l ∷ c.here.rest) c.here.end → CameAt (Load x e l) → IsLeft → DoesNothing u log (wrote_some c x o) d
    some_nothing x e l None went came left = tt
    some_nothing x e l (Some w) went came left = writes_nothing (Load x e l) x w refl tt went came left

    -- ---- Calls, of which the value goes to these names, if any, before and after

    module _ (x z : Option ℕ) (fits : (w : Value) → Fits u log c.here.graph blocks (name_by x w c.here.names) (name_by z w others) c.here.rest rest c.here.end) where
      -- A value goes to them.
      goes_there : (input : List ℕ) (w : Value) → Related u log (record { memory = c.memory; input = input; here = take_wanted x w c.here; waiting = c.waiting }) (record { memory = c.memory; input = input; here = take_wanted z w d.here; waiting = waiting })
      goes_there input w = goes_on u log c.memory input c.here blocks others shadows rest wants x z w (fits w) still c.waiting waiting waits

      -- A function is called.
      function_same : (f : ℕ) (vs : List Value) → DoesSame u log (call_function u c x f vs) (call_function after_of d z f vs)
      function_same f vs =
          subst (λ k. DoesSame u log (call_function u c x f vs) (if k + 1 == most_activations then Ends TooDeep else goes_if (enter after_of c.memory c.input f vs (other ∷ waiting)))) (sym (many_waiting u log c.waiting waiting waits)) (by_test (length c.waiting + 1 == most_activations))
        where
          before : Activation
          before = record c.here { wants = x }

          other : Activation
          other = record d.here { wants = z }

          by_test : (full : Bool) → DoesSame u log (if full then Ends TooDeep else goes_if (enter u c.memory c.input f vs (before ∷ c.waiting))) (if full then Ends TooDeep else goes_if (enter after_of c.memory c.input f vs (other ∷ waiting)))
          by_test true = deep
          by_test false = goes_if_same u log (enter u c.memory c.input f vs (before ∷ c.waiting)) (enter after_of c.memory c.input f vs (other ∷ waiting))
              (enter_same u log c.memory c.input f vs (before ∷ c.waiting) (other ∷ waiting) (record { blocks = blocks; others = others; shadows = shadows; rest = rest; wants = z; is = refl; resumes = fits; still = still }, waits) after_of made)

      -- A byte of the input is taken.
      got_same : (input : List ℕ) → DoesSame u log (got c x input) (got d z input)
      got_same [] = goes_there c.input (Number 4294967295)
      got_same (b ∷ input) = goes_there input (Number b)

      -- A byte is put out.
      put_same : (w : Value) → DoesSame u log (put_out c x w) (put_out d z w)
      put_same (Number w) = (byte, goes_there c.input (Number (w % 256)))
      put_same (Pointer object size offset) = tt
      put_same Odd = tt

      -- Whatever is called.
      callee_same : (k : Callee) (vs : List Value) → DoesSame u log (call u c x k vs) (call after_of d z k vs)
      callee_same (callee.Function f) vs = function_same f vs
      callee_same callee.Getchar vs = got_same c.input
      callee_same callee.Putchar vs = put_same (first_argument vs)
      callee_same callee.Exit vs = exited_same u log (first_argument vs)

      -- A call of what has the same arguments.
      pub call_same : (f : Callee) (all : List Operand) → Agree (names_of_all all) → DoesSame u log (execute u (Call x f all) c) (execute after_of (Call z f all) d)
      call_same f all agree =
          let vs : List Value = map value_before all in
          subst (λ ws. DoesSame u log (execute u (Call x f all) c) (if list_any is_odd ws then Wild else call after_of d z f ws)) (sym (values_same u.statics c.here.names others all agree))
          (unless_same u log (list_any is_odd vs) (call u c x f vs) (call after_of d z f vs) (callee_same f vs))

    -- ---- Markers and notes

    -- A place begins.
    marker_same : (p : ℕ) → CameAt (Marker p) → IsLeft → DoesSame u log (execute u (Marker p) c) (execute after_of (Marker p) d)
    marker_same p came left = by_test (p == c.here.graph.entry)
      where
        before : Configuration
        before = at_place p c

        other : Configuration
        other = at_place p d

        related : Related u log before other
        related = record {
          blocks = blocks;
          others = others;
          shadows = shadows;
          rest = rest;
          wants = wants;
          waiting = waiting;
          is = refl;
          here = record { block = n; came = came_past u log c.here.graph blocks c.here.names others n (Marker p) c.here.rest c.here.end Odd tt came; said = left };
          still = still;
          waits = waits;
        }

        by_test : (b : Bool) → DoesSame u log (if b then Goes before else Shows (Stop (frame before.here ∷ map frame c.waiting) c.memory) before) (if b then Goes other else Shows (Stop (frame other.here ∷ map frame waiting) c.memory) other)
        by_test true = related
        by_test false = (stop (frame_same u log before.here blocks others shadows rest wants still, frames_same u log c.waiting waiting waits), related)

    -- a shadow of the activation becomes another
    shadowed : (x : ℕ) (k : NoteValue) (s t : Shadow) → AreStill (with_value_at c.here.shadows x s) (with_value_at shadows x t) → CameAt (Note x k) → IsLeft
        → Related u log (record c { here = record c.here { shadows = with_value_at c.here.shadows x s } }) (record d { here = record d.here { shadows = with_value_at shadows x t } })
    shadowed x k s t now came left = record {
      blocks = blocks;
      others = others;
      shadows = with_value_at shadows x t;
      rest = rest;
      wants = wants;
      waiting = waiting;
      is = refl;
      here = record { block = n; came = came_past u log c.here.graph blocks c.here.names others n (Note x k) c.here.rest c.here.end Odd tt came; said = left };
      still = now;
      waits = waits;
    }

    -- A note says what it said, or that the value is gone.
    pub note_same : (x : ℕ) (k m : NoteValue) → SaysStill u.statics c.here.names others k m → CameAt (Note x k) → IsLeft → DoesSame u log (execute u (Note x k) c) (execute after_of (Note x m) d)
    note_same x (Gone change) m (is_gone {change = number}) came left = shadowed x (Gone change) shadow.Gone shadow.Gone (put_still c.here.shadows shadows x shadow.Gone shadow.Gone still stays) came left
    note_same x (Is r) m (is_gone {change = number}) came left =
        by_test (is_odd (recipe_value u.statics c.here.names r)) (shadowed x (Is r) known shadow.Gone (put_still c.here.shadows shadows x known shadow.Gone still goes) came left)
      where
        known : Shadow
        known = shadow.Known (recipe_value u.statics c.here.names r)

        by_test : (b : Bool) → Related u log (record c { here = record c.here { shadows = with_value_at c.here.shadows x known } }) (record d { here = record d.here { shadows = with_value_at shadows x shadow.Gone } })
            → DoesSame u log (if b then Wild else Goes (record c { here = record c.here { shadows = with_value_at c.here.shadows x known } })) (Goes (record d { here = record d.here { shadows = with_value_at shadows x shadow.Gone } }))
        by_test true related = tt
        by_test false related = related
    note_same x k m (is_same {r} {s} e) came left =
        subst (λ w. DoesSame u log (execute u (Note x (Is r)) c) (unless_odd w (Goes (record d { here = record d.here { shadows = with_value_at shadows x (shadow.Known w) } })))) (sym e)
        (unless_same u log (is_odd (recipe_value u.statics c.here.names r)) (Goes (record c { here = record c.here { shadows = with_value_at c.here.shadows x known } })) (Goes (record d { here = record d.here { shadows = with_value_at shadows x known } }))
        (shadowed x (Is r) known known (put_still c.here.shadows shadows x known known still stays) came left))
      where
        known : Shadow
        known = shadow.Known (recipe_value u.statics c.here.names r)

    -- ---- Instructions that stay

    -- What a location points to.
    location_same : (l : Location) → Agree (names_of_location l) → pointed u.statics c.memory d.here l ≡ pointed u.statics c.memory c.here l
    location_same l agree = pointed_same u.statics c.memory c.here d.here refl l agree

    -- A load, and a store.
    load_same : (x : ℕ) (e : Element) (l : Location) → Agree (names_of_location l) → CameAt (Load x e l) → IsLeft → DoesSame u log (execute u (Load x e l) c) (execute after_of (Load x e l) d)
    load_same x e l agree came left =
        subst (λ p. DoesSame u log (execute u (Load x e l) c) (wrote_some d x (read c.memory e p))) (sym (location_same l agree))
        (some_same x e l (read c.memory e (pointed u.statics c.memory c.here l)) came left)

    -- a store
    store_same : (e : Element) (l : Location) (a : Operand) → Agree (names_of_location l ++ names_of a) → CameAt (Store e l a) → IsLeft → DoesSame u log (execute u (Store e l a) c) (execute after_of (Store e l a) d)
    store_same e l a agree came left =
        subst (λ p. DoesSame u log (execute u (Store e l a) c) (unless_odd (value_after a) (with_memory d (write c.memory e p (value_after a))))) (sym (location_same l (agree_left c.here.names others (names_of_location l) (names_of a) agree)))
        (subst (λ w. DoesSame u log (execute u (Store e l a) c) (unless_odd w (with_memory d (write c.memory e (pointed u.statics c.memory c.here l) w)))) (sym (value_same u.statics c.here.names others a (agree_right c.here.names others (names_of_location l) (names_of a) agree)))
        (unless_same u log (is_odd (value_before a)) (with_memory c stored) (with_memory d stored) (memory_same (Store e l a) stored refl tt came left)))
      where
        stored : Option Memory
        stored = write c.memory e (pointed u.statics c.memory c.here l) (value_before a)

    -- the call of an activation that goes on with its value
    call_fits : (x : Option ℕ) (f : Callee) (all : List Operand) → CameAt (Call x f all) → IsLeft → (w : Value) → Fits u log c.here.graph blocks (name_by x w c.here.names) (name_by x w others) c.here.rest rest c.here.end
    call_fits x f all came left w = record { block = n; came = came_past u log c.here.graph blocks c.here.names others n (Call x f all) c.here.rest c.here.end w tt came; said = left }

    -- and that of one whose write went
    pub call_nothing : (x : Option ℕ) (f : Callee) (all : List Operand) → rule.Goes u.assignments c.here.graph n (Call x f all ∷ c.here.rest) c.here.end → CameAt (Call x f all) → IsLeft → (w : Value) → Fits u log c.here.graph blocks (name_by x w c.here.names) (name_by None w others) c.here.rest rest c.here.end
    call_nothing x f all went came left w = record { block = n; came = came_over u log c.here.graph blocks c.here.names others n (Call x f all) c.here.rest c.here.end w tt went came; said = left }

    -- An instruction that is no note does after what it does before.
    pub execute_same : (i : Instruction) → ((x : ℕ) (k : NoteValue) → i ≡ Note x k → ⊥) → Agree (reads_of i) → CameAt i → IsLeft → DoesSame u log (execute u i c) (execute after_of i d)
    execute_same (Marker p) plain agree came left = marker_same p came left
    execute_same (Note x k) plain agree came left = absurd (plain x k refl)
    execute_same (Move x a) plain agree came left = writes_same (Move x a) x (value_before a) (value_after a) refl refl (value_same u.statics c.here.names others a agree) came left
    execute_same (Operate x o a b) plain agree came left = writes_same (Operate x o a b) x (operate o (value_before a) (value_before b)) (operate o (value_after a) (value_after b)) refl refl (two_same u.statics c.here.names others (operate o) a b agree) came left
    execute_same (Truncate x t a) plain agree came left = writes_same (Truncate x t a) x (truncate t (value_before a)) (truncate t (value_after a)) refl refl (ap (truncate t) (value_same u.statics c.here.names others a agree)) came left
    execute_same (Same x a b) plain agree came left = writes_same (Same x a b) x (same (is_live c.memory) (value_before a) (value_before b)) (same (is_live c.memory) (value_after a) (value_after b)) refl tt (two_same u.statics c.here.names others (same (is_live c.memory)) a b agree) came left
    execute_same (Address x object) plain agree came left = (let at : Value = pointer_to_object c.memory (c.here.first_object + object) in writes_same (Address x object) x at at refl tt refl came left)
    execute_same (Load x e l) plain agree came left = load_same x e l agree came left
    execute_same (Store e l a) plain agree came left = store_same e l a agree came left
    execute_same (Zero object words) plain agree came left = memory_same (Zero object words) (zeroed c.memory (c.here.first_object + object) words) refl tt came left
    execute_same (CopyWords object bytes words) plain agree came left =
        memory_same (CopyWords object bytes words) (option_and_then (λ all. copied c.memory (c.here.first_object + object) all words) (slice_get u.array_bytes bytes)) refl tt came left
    execute_same (Call x f all) plain agree came left = call_same x x (call_fits x f all came left) f all agree

    -- ---- Ends of blocks

    -- The activation came to the end of the block.
    abbrev CameToEnd : Type 0
    CameToEnd = Came u log c.here.graph blocks c.here.names others n [] c.here.end

    -- Control goes to one of the blocks to which it leads.
    go_same : (l : ℕ) → Among l (targets_of c.here.end) → CameToEnd → DoesSame u log (go_to c l) (go_to d l)
    go_same l to came = by_blocks (at_both c.here.graph.blocks blocks l came.taken.reduced.count)
      where
        by_blocks : AtBoth (λ x y. Unit {0}) c.here.graph.blocks blocks l → DoesSame u log (go_to c l) (go_to d l)
        by_blocks (inl none) = subst (λ o. DoesSame u log (entered c l o) (go_to d l)) (sym none.0) tt
        by_blocks (inr some) =
            subst (λ o. DoesSame u log (entered c l o) (go_to d l)) (sym some.2) (subst (λ o. DoesSame u log (entered c l (Some some.0)) (entered d l o)) (sym some.3) (record {
              blocks = blocks;
              others = others;
              shadows = shadows;
              rest = some.1.instructions;
              wants = wants;
              waiting = waiting;
              is = ap (λ e. record d { here = record d.here { block = l; rest = some.1.instructions; end = e } }) (block_ends u log c.here.graph blocks l some.0 some.1 came.taken some.2 some.3);
              here = record {
                block = l;
                came = came_on u log c.here.graph blocks c.here.names others n l c.here.end some.0 to some.2 came;
                said = block_said u log c.here.graph blocks l some.0 some.1 came.taken some.2 some.3;
              };
              still = still;
              waits = waits;
            }))

    -- The end of a block does after what it does before.
    pub end_same : (e : End) → c.here.end ≡ e → Agree (reads_of_end e) → CameToEnd → DoesSame u log (execute_end u e c) (execute_end after_of e d)
    end_same (Jump l) is agree came = go_same l (subst (λ z. Among l (targets_of z)) (sym is) front) came
    end_same (Branch k a b l m) is agree came =
        subst (λ o. DoesSame u log (execute_end u (Branch k a b l m) c) (branched d o l m)) (sym (two_same u.statics c.here.names others (holds (is_live c.memory) k) a b agree)) (by_found (holds (is_live c.memory) k (value_before a) (value_before b)))
      where
        by_found : (o : Option Bool) → DoesSame u log (branched c o l m) (branched d o l m)
        by_found None = tt
        by_found (Some true) = go_same l (subst (λ z. Among l (targets_of z)) (sym is) front) came
        by_found (Some false) = go_same m (subst (λ z. Among m (targets_of z)) (sym is) (behind front)) came
    end_same (Return None) is agree came = returned_same u log (ended_from c.here.first_object c.memory) c.input Odd c.waiting waiting waits
    end_same (Return (Some a)) is agree came =
        subst (λ w. DoesSame u log (leave c (value_before a)) (leave d w)) (sym (value_same u.statics c.here.names others a agree)) (returned_same u log (ended_from c.here.first_object c.memory) c.input (value_before a) c.waiting waiting waits)
