-- A step of the unit after does what a step of the unit before does.
use Rattle.std.proofs.Common.{◌≡◌, ℕ, suc, ◌+◌, ◌%◌, ◌<◌, Bool, true, false, Option, Some, None, List, [], ◌∷◌, length, map, refl, sym, ap, subst}
use Rattle.std.specs.Prelude.{◌==◌, if◌then◌else◌, slice_get, option_and_then}
use Rattle.std.specs.List.{list_any}
use Rattle.graph_core.specs.declared.value.Value.{Value}
use Rattle.graph_core.specs.declared.value.Value.TheVariants.{Number, Pointer, Odd}
use Rattle.graph_core.specs.declared.value.Shadow.{Shadow}
use Rattle.graph_core.specs.declared.value.Shadow.TheVariants as shadow
use Rattle.graph_core.specs.declared.instruction.Element.{Element}
use Rattle.graph_core.specs.declared.instruction.Callee.{Callee}
use Rattle.graph_core.specs.declared.instruction.Callee.TheVariants as callee
use Rattle.graph_core.specs.Graphs.{Operand, NoteValue, Is, Gone, Location, Instruction, Marker, Note, Move, Operate, Truncate, Same, Address, Load, Store, Zero, CopyWords, Call, End, Branch, Block, UnitForm}
use Rattle.graph_core.specs.Uses.{target_of}
use Rattle.graph_core.specs.Bounds.{most_activations}
use Rattle.graph_core.specs.Values.{operate, truncate, same, holds, is_odd}
use Rattle.graph_core.specs.Validity.{IsInstruction, AreOperandsOfEnd, IsOperand, IsLocation, IsValid}
use Rattle.graph_core.specs.Memory.{Memory, is_live, pointer_to_object, read, write, zeroed, copied}
use Rattle.graph_core.specs.Runs.{Activation, Configuration, TooDeep, Stop, Goes, Shows, Ends, Wild, frame, with_value_at, value, recipe_value, pointed, entered, wrote, wrote_some, with_memory, unless_odd, at_place, go_to, branched, leave, put_out, got, goes_if, first_argument, enter, call_function, call, execute, execute_end}
use Rattle.motion_pass_placement.specs.Moves.{AreAllMoved}
use Rattle.motion_pass_laws.proofs.Values.{computed}
use Rattle.motion_pass_laws.proofs.Reading.{value_same, two_same, values_same, recipe_same, pointed_same, computes}
use Rattle.motion_pass_laws.proofs.Quiet.{after_of, moved_configuration, standing_in}
use Rattle.motion_pass_laws.proofs.Fits.{Fits, GoesOn, Acts, itself, reads_temporary}
use Rattle.motion_pass_laws.proofs.Lives.{LiveTheSame, KeepsLives, write_lives, zeroed_lives, copied_lives, live_same, begun_covers}
use Rattle.motion_pass_laws.proofs.Landing.{Lands, LeadsTo, returning, jumping, branching}
use Rattle.motion_pass_laws.proofs.Related.{AreWaiting, Related, many_waiting, frames_same, Comes, comes_now, DoesSame}
use Rattle.motion_pass_laws.proofs.Begins.{goes_on, exited_same, returned_same, goes_if_same, unless_same, enter_same}

module _ (u v : UnitForm) (valid : IsValid u) (made : AreAllMoved u.room u.graphs v.graphs) where
  -- One configuration before, and one after that agrees with it.
  module _ (c : Configuration) (count : ℕ) (blocks : List Block) (others : ℕ → Value) (rest : List Instruction) (end : End) (waiting : List Activation) (waits : AreWaiting u c.here.first_object (is_live c.memory) c.waiting waiting) where
    -- the configuration after
    abbrev d : Configuration
    d = moved_configuration c count blocks others rest end waiting

    -- The points fit behind what writes this target.
    abbrev FitsBehind : Option ℕ → Type 0
    FitsBehind target = GoesOn u c.here.graph count blocks (is_live c.memory) c.here.names others target c.here.rest rest c.here.end end

    -- A name is written.
    writes_same : (x : ℕ) (w z : Value) → z ≡ w → FitsBehind (Some x) → DoesSame u v (wrote c x w) (wrote d x z)
    writes_same x w z e on = subst (λ k. DoesSame u v (wrote c x w) (wrote d x k)) (sym e) (comes_now u v _ _ (record {
      count = count;
      blocks = blocks;
      others = with_value_at others x w;
      rest = rest;
      end = end;
      waiting = waiting;
      is = refl;
      here = on.written x w refl;
      waits = waits;
    }))

    -- Where nothing is written, the same activation goes on with a memory in which the same objects live.
    passes_same : (m : Memory) → LiveTheSame c.memory m → FitsBehind None → Related u (record c { memory = m }) (record d { memory = m })
    passes_same m same on = record {
      count = count;
      blocks = blocks;
      others = others;
      rest = rest;
      end = end;
      waiting = waiting;
      is = refl;
      here = subst (λ l. Fits u c.here.graph count blocks l c.here.names others c.here.rest rest c.here.end end) (live_same c.memory m same) (on.passed refl);
      waits = subst (λ l. AreWaiting u c.here.first_object l c.waiting waiting) (live_same c.memory m same) waits;
    }

    -- Nothing but memory changes, where that can be.
    memory_same : (o : Option Memory) → KeepsLives c.memory o → FitsBehind None → DoesSame u v (with_memory c o) (with_memory d o)
    memory_same None keeps on = tt
    memory_same (Some m) keeps on = comes_now u v _ _ (passes_same m keeps on)

    -- A name is written, if there is a value.
    some_same : (x : ℕ) (o : Option Value) → FitsBehind (Some x) → DoesSame u v (wrote_some c x o) (wrote_some d x o)
    some_same x None on = tt
    some_same x (Some w) on = writes_same x w w refl on

    -- ---- Calls

    -- A function is called.
    function_same : (x : Option ℕ) (f : ℕ) (vs : List Value) → FitsBehind x → DoesSame u v (call_function u c x f vs) (call_function (after_of u v) d x f vs)
    function_same x f vs on =
        subst (λ n. DoesSame u v (call_function u c x f vs) (if n + 1 == most_activations then Ends TooDeep else goes_if (enter (after_of u v) c.memory c.input f vs (other ∷ waiting)))) (sym many) (by_test (length c.waiting + 1 == most_activations))
      where
        many : length waiting ≡ length c.waiting
        many = many_waiting u c.here.first_object (is_live c.memory) c.waiting waiting waits

        before : Activation
        before = record c.here { wants = x }

        other : Activation
        other = record d.here { wants = x }

        by_test : (full : Bool) → DoesSame u v (if full then Ends TooDeep else goes_if (enter u c.memory c.input f vs (before ∷ c.waiting))) (if full then Ends TooDeep else goes_if (enter (after_of u v) c.memory c.input f vs (other ∷ waiting)))
        by_test true = refl
        by_test false = goes_if_same u v (enter u c.memory c.input f vs (before ∷ c.waiting)) (enter (after_of u v) c.memory c.input f vs (other ∷ waiting))
            (enter_same u (after_of u v) c.memory c.input f vs (before ∷ c.waiting) (other ∷ waiting) valid made (ap (λ n. suc n) many)
            (λ g. (record { count = count; blocks = blocks; others = others; rest = rest; end = end; is = refl; live = is_live c.memory; on = on }, begun_covers c.memory (length (before ∷ c.waiting) + 1) g vs, waits)))

    -- A byte of the input is taken.
    got_same : (x : Option ℕ) (input : List ℕ) → FitsBehind x → DoesSame u v (got c x input) (got d x input)
    got_same x [] on = comes_now u v _ _ (goes_on u v c.memory c.input c.here count blocks others rest end x (Number 4294967295) on c.waiting waiting waits)
    got_same x (b ∷ input) on = comes_now u v _ _ (goes_on u v c.memory input c.here count blocks others rest end x (Number b) on c.waiting waiting waits)

    -- A byte is put out.
    put_same : (x : Option ℕ) (w : Value) → FitsBehind x → DoesSame u v (put_out c x w) (put_out d x w)
    put_same x (Number w) on = (comes_now u v _ _ (goes_on u v c.memory c.input c.here count blocks others rest end x (Number (w % 256)) on c.waiting waiting waits), refl)
    put_same x (Pointer object size offset) on = tt
    put_same x Odd on = tt

    -- Whatever is called.
    callee_same : (x : Option ℕ) (k : Callee) (vs : List Value) → FitsBehind x → DoesSame u v (call u c x k vs) (call (after_of u v) d x k vs)
    callee_same x (callee.Function n) vs on = function_same x n vs on
    callee_same x callee.Getchar vs on = got_same x c.input on
    callee_same x callee.Putchar vs on = put_same x (first_argument vs) on
    callee_same x callee.Exit vs on = exited_same u v (first_argument vs)

    -- ---- Markers and notes

    -- A place begins.
    marker_same : (p : ℕ) → FitsBehind None → DoesSame u v (execute u (Marker p) c) (execute (after_of u v) (Marker p) d)
    marker_same p on = by_test (p == c.here.graph.entry)
      where
        before : Configuration
        before = at_place p c

        other : Configuration
        other = at_place p d

        related : Comes u v before other
        related = comes_now u v before other (record { count = count; blocks = blocks; others = others; rest = rest; end = end; waiting = waiting; is = refl; here = on.passed refl; waits = waits })

        by_test : (b : Bool)
            → DoesSame u v (if b then Goes before else Shows (Stop (frame before.here ∷ map frame c.waiting) c.memory) before) (if b then Goes other else Shows (Stop (frame other.here ∷ map frame waiting) c.memory) other)
        by_test true = related
        by_test false = (related, ap (λ fs. Stop (frame before.here ∷ fs) c.memory) (frames_same u c.here.first_object (is_live c.memory) c.waiting waiting waits))

    -- a shadow of the activation becomes another
    shadowed : (x : ℕ) (s : Shadow) → FitsBehind None → Comes u v (record c { here = record c.here { shadows = with_value_at c.here.shadows x s } }) (record d { here = record d.here { shadows = with_value_at d.here.shadows x s } })
    shadowed x s on = comes_now u v _ _ (record { count = count; blocks = blocks; others = others; rest = rest; end = end; waiting = waiting; is = refl; here = on.passed refl; waits = waits })

    -- ---- Blocks to which control goes

    -- Control goes to a block, and after to one that leads there.
    go_same : (to label : ℕ) → Lands u v c count blocks others to label → DoesSame u v (go_to c to) (go_to d label)
    go_same to label lands = by_block (slice_get c.here.graph.blocks to) refl
      where
        by_block : (o : Option Block) → slice_get c.here.graph.blocks to ≡ o → DoesSame u v (entered c to o) (go_to d label)
        by_block None at = tt
        by_block (Some b) at = (let l = lands b at in subst (λ o. DoesSame u v (entered c to (Some b)) (entered d label o)) (sym l.stands) (record {
          to = moved_configuration (standing_in to c) count blocks l.names l.rest l.end waiting;
          quiet = l.quiet waiting;
          related = record { count = count; blocks = blocks; others = l.names; rest = l.rest; end = l.end; waiting = waiting; is = refl; here = l.fits; waits = waits };
        }))

    -- ---- Instructions and ends, where the names of the graph agree

    module _ (agree : (x : ℕ) → x < c.here.graph.name_count → others x ≡ c.here.names x) where
      -- an operand before
      abbrev value_before : Operand → Value
      value_before a = value u.statics c.here.names a

      -- the operand after
      abbrev value_after : Operand → Value
      value_after a = value u.statics others a

      -- what one operand is worth
      one_same : (a : Operand) → IsOperand u.statics c.here.graph a → value_after a ≡ value_before a
      one_same a is = value_same u.statics c.here.graph c.here.names others agree a is

      -- what a location points to
      location_same : (l : Location) → IsLocation u.statics c.here.graph l → pointed u.statics c.memory d.here l ≡ pointed u.statics c.memory c.here l
      location_same l is = pointed_same u.statics c.here.graph c.memory c.here d.here refl agree l is

      -- A note says what it said.
      note_same : (x : ℕ) (n : NoteValue) → IsInstruction u c.here.graph (Note x n) → FitsBehind None → DoesSame u v (execute u (Note x n) c) (execute (after_of u v) (Note x n) d)
      note_same x (Gone change) is on = shadowed x shadow.Gone on
      note_same x (Is r) is on =
          subst (λ w. DoesSame u v (execute u (Note x (Is r)) c) (unless_odd w (Goes (record d { here = record d.here { shadows = with_value_at d.here.shadows x (shadow.Known w) } })))) (sym (recipe_same u.statics c.here.graph c.here.names others agree r is.1.0))
          (unless_same u v (is_odd known) (Goes (record c { here = record c.here { shadows = with_value_at c.here.shadows x (shadow.Known known) } })) (Goes (record d { here = record d.here { shadows = with_value_at d.here.shadows x (shadow.Known known) } }))
          (shadowed x (shadow.Known known) on))
        where
          known : Value
          known = recipe_value u.statics c.here.names r

      -- a load
      load_same : (x : ℕ) (e : Element) (l : Location) → IsLocation u.statics c.here.graph l → FitsBehind (Some x) → DoesSame u v (execute u (Load x e l) c) (execute (after_of u v) (Load x e l) d)
      load_same x e l is on =
          subst (λ p. DoesSame u v (execute u (Load x e l) c) (wrote_some d x (read c.memory e p))) (sym (location_same l is))
          (some_same x (read c.memory e (pointed u.statics c.memory c.here l)) on)

      -- a store
      store_same : (e : Element) (l : Location) (a : Operand) → IsLocation u.statics c.here.graph l → IsOperand u.statics c.here.graph a → FitsBehind None
          → DoesSame u v (execute u (Store e l a) c) (execute (after_of u v) (Store e l a) d)
      store_same e l a at is on =
          subst (λ p. DoesSame u v (execute u (Store e l a) c) (unless_odd (value_after a) (with_memory d (write c.memory e p (value_after a))))) (sym (location_same l at))
          (subst (λ w. DoesSame u v (execute u (Store e l a) c) (unless_odd w (with_memory d (write c.memory e (pointed u.statics c.memory c.here l) w)))) (sym (one_same a is))
          (unless_same u v (is_odd (value_before a)) (with_memory c stored) (with_memory d stored) (memory_same stored (write_lives c.memory e (pointed u.statics c.memory c.here l) (value_before a)) on)))
        where
          stored : Option Memory
          stored = write c.memory e (pointed u.statics c.memory c.here l) (value_before a)

      -- Words that are copied.
      copy_same : (object bytes words : ℕ) → FitsBehind None → DoesSame u v (execute u (CopyWords object bytes words) c) (execute (after_of u v) (CopyWords object bytes words) d)
      copy_same object bytes words on = by_bytes (slice_get u.array_bytes bytes)
        where
          copy : List ℕ → Option Memory
          copy all = copied c.memory (c.here.first_object + object) all words

          by_bytes : (o : Option (List ℕ)) → DoesSame u v (with_memory c (option_and_then copy o)) (with_memory d (option_and_then copy o))
          by_bytes None = tt
          by_bytes (Some all) = memory_same (copy all) (copied_lives c.memory (c.here.first_object + object) all words) on

      -- A call, of whatever it is.
      call_same : (x : Option ℕ) (f : Callee) (all : List Operand) → IsInstruction u c.here.graph (Call x f all) → FitsBehind x → DoesSame u v (execute u (Call x f all) c) (execute (after_of u v) (Call x f all) d)
      call_same x f all is on =
          let vs : List Value = map (value u.statics c.here.names) all in
          subst (λ ws. DoesSame u v (execute u (Call x f all) c) (if list_any is_odd ws then Wild else call (after_of u v) d x f ws)) (sym (values_same u.statics c.here.graph c.here.names others agree all is.1))
          (unless_same u v (list_any is_odd vs) (call u c x f vs) (call (after_of u v) d x f vs) (callee_same x f vs on))

      -- An instruction does what it does before.
      execute_same : (i : Instruction) → IsInstruction u c.here.graph i → FitsBehind (target_of i) → DoesSame u v (execute u i c) (execute (after_of u v) i d)
      execute_same (Marker p) is on = marker_same p on
      execute_same (Note x n) is on = note_same x n is on
      execute_same (Move x a) is on = writes_same x (value_before a) (value_after a) (one_same a is.1) on
      execute_same (Operate x o a b) is on = writes_same x (operate o (value_before a) (value_before b)) (operate o (value_after a) (value_after b)) (two_same u.statics c.here.graph c.here.names others agree (operate o) a b is.1 is.2) on
      execute_same (Truncate x t a) is on = writes_same x (truncate t (value_before a)) (truncate t (value_after a)) (ap (truncate t) (one_same a is.1)) on
      execute_same (Same x a b) is on =
          writes_same x (same (is_live c.memory) (value_before a) (value_before b)) (same (is_live c.memory) (value_after a) (value_after b)) (two_same u.statics c.here.graph c.here.names others agree (same (is_live c.memory)) a b is.1 is.2) on
      execute_same (Address x object) is on = (let at : Value = pointer_to_object c.memory (c.here.first_object + object) in writes_same x at at refl on)
      execute_same (Load x e l) is on = load_same x e l is.1 on
      execute_same (Store e l a) is on = store_same e l a is.0 is.1 on
      execute_same (Zero object words) is on = memory_same (zeroed c.memory (c.here.first_object + object) words) (zeroed_lives c.memory (c.here.first_object + object) words) on
      execute_same (CopyWords object bytes words) is on = copy_same object bytes words on
      execute_same (Call x f all) is on = call_same x f all is on

      -- AN INSTRUCTION AFTER DOES WHAT THE ONE BEFORE DOES, where it acts as that.
      pub acts_same : (i j : Instruction) → IsInstruction u c.here.graph i → Acts (computed u.statics (is_live c.memory) c.here.names) others i j → FitsBehind (target_of i) → DoesSame u v (execute u i c) (execute (after_of u v) j d)
      acts_same i _ is itself on = execute_same i is on
      acts_same i _ is (reads_temporary e x t does target held) on = subst (λ s. DoesSame u v s (wrote d x (others t))) (sym (computes u c i e x does target))
          (writes_same x (computed u.statics (is_live c.memory) c.here.names e) (others t) held (subst FitsBehind target on))

      -- A RETURN, A JUMP AND A BRANCH AFTER DO WHAT THE ONE BEFORE DOES.
      pub ends_same : (e f : End) → AreOperandsOfEnd u.statics c.here.graph e → LeadsTo u v c count blocks others e f → DoesSame u v (execute_end u e c) (execute_end (after_of u v) f d)
      ends_same _ _ is (returning {a = None}) = returned_same u v c.here.first_object c.memory c.input Odd c.waiting waiting waits
      ends_same _ _ is (returning {a = Some a}) =
          subst (λ w. DoesSame u v (leave c (value_before a)) (leave d w)) (sym (one_same a is)) (returned_same u v c.here.first_object c.memory c.input (value_before a) c.waiting waiting waits)
      ends_same _ _ is (jumping {to} {label} lands) = go_same to label lands
      ends_same _ _ is (branching {k} {a} {b} {to} {to_other} {label} {other} one two) =
          subst (λ o. DoesSame u v (execute_end u (Branch k a b to to_other) c) (branched d o label other)) (sym (two_same u.statics c.here.graph c.here.names others agree (holds (is_live c.memory) k) a b is.0 is.1))
          (by_found (holds (is_live c.memory) k (value_before a) (value_before b)))
        where
          by_found : (o : Option Bool) → DoesSame u v (branched c o to to_other) (branched d o label other)
          by_found None = tt
          by_found (Some true) = go_same to label one
          by_found (Some false) = go_same to_other other two
