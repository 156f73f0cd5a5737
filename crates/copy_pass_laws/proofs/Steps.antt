-- A step of the unit after does what a step of the unit before does.
use Rattle.std.proofs.Common.{◌≡◌, ℕ, ◌+◌, ◌%◌, inl, inr, Bool, true, false, Option, Some, None, List, [], ◌∷◌, ◌++◌, length, map, refl, sym, ap, ◌∙◌, subst}
use Rattle.std.specs.Prelude.{◌==◌, if◌then◌else◌, slice_get, option_and_then}
use Rattle.std.specs.List.{list_any}
use Rattle.event_runs.specs.Agreement.{Pairs}
use Rattle.graph_core.specs.declared.value.Value.{Value}
use Rattle.graph_core.specs.declared.value.Value.TheVariants.{Number, Pointer, Odd}
use Rattle.graph_core.specs.declared.value.Shadow.{Shadow}
use Rattle.graph_core.specs.declared.value.Shadow.TheVariants as shadow
use Rattle.graph_core.specs.declared.instruction.Element.{Element}
use Rattle.graph_core.specs.declared.instruction.Callee.{Callee}
use Rattle.graph_core.specs.declared.instruction.Callee.TheVariants as callee
use Rattle.graph_core.specs.Graphs.{Operand, Name, NoteValue, Is, Gone, Location, Instruction, Marker, Note, Move, Operate, Truncate, Same, Address, Load, Store, Zero, CopyWords, Call, End, Jump, Branch, Return, Block, Graph, UnitForm}
use Rattle.graph_core.specs.Uses.{names_of, names_of_location, reads_of, reads_of_end, target_of, targets_of}
use Rattle.graph_core.specs.Paths.{Among, front, behind, Path}
use Rattle.graph_core.specs.Bounds.{most_activations}
use Rattle.graph_core.specs.Values.{operate, truncate, same, holds, is_odd}
use Rattle.graph_core.specs.Memory.{Memory, is_live, pointer_to_object, ended_from, read, write, zeroed, copied}
use Rattle.graph_core.specs.Runs.{Activation, Configuration, TooDeep, Stop, Goes, Shows, Ends, Wild, frame, with_value_at, value, recipe_value, pointed, entered, wrote, wrote_some, with_memory, unless_odd, at_place, go_to, branched, leave, put_out, got, goes_if, first_argument, enter, call_function, call, execute, execute_end, step_from, step}
use Rattle.pass_law.specs.Kept.{EachFunction}
use Rattle.copy_pass_rule.specs.Copying.{reading_operand, reading_all, reading_at, reading, reading_end, IsReadAs, AreCopied, ends, next, IsPropagated}
use Rattle.copy_pass_laws.proofs.Begins.{goes_on, exited_same, returned_same, goes_if_same, unless_same, enter_same}
use Rattle.copy_pass_laws.proofs.Fits.{copied_graph, Fits, fits_passed, fits_written, fits_entered}
use Rattle.copy_pass_laws.proofs.Lists.{among_left, among_right, AtBoth, at_both}
use Rattle.copy_pass_laws.proofs.Related.{Waits, copied_configuration, Related, DoesSame, many_waiting, frames_same}
use Rattle.copy_pass_laws.proofs.Truth.{read_value}
use Rattle.copy_pass_laws.proofs.Values.{value_same, values_same, pointed_same}

module _ (u v : UnitForm) (made : EachFunction IsPropagated u.graphs v.graphs) where
  -- the unit after, with what it shares with the unit before
  abbrev pub after_of : UnitForm
  after_of = record v { main = u.main; statics = u.statics; array_bytes = u.array_bytes }

  -- ---- One configuration before, and the same after

  module _ (c : Configuration) (blocks : List Block) (rest : List Instruction) (end : End) (waiting : List Activation) (waits : Pairs Waits c.waiting waiting) where
    abbrev d : Configuration
    d = copied_configuration c blocks rest end waiting

    -- What is left behind this instruction fits.
    abbrev FitsAt : Instruction → Type 0
    FitsAt i = Fits c.here.graph blocks c.here.names (i ∷ rest) c.here.rest rest c.here.end end

    -- A name is written.
    writes_same : (i : Instruction) (x : ℕ) (w z : Value) → target_of i ≡ Some x → ((y : ℕ) → i ≡ Move x (Name y) → w ≡ c.here.names y) → z ≡ w → FitsAt i → DoesSame (wrote c x w) (wrote d x z)
    writes_same i x w z target copies e fits = subst (λ k. DoesSame (wrote c x w) (wrote d x k)) (sym e) (record {
      blocks = blocks;
      rest = rest;
      end = end;
      waiting = waiting;
      is = refl;
      here = fits_written c.here.graph blocks c.here.names i c.here.rest rest c.here.end end x w target copies fits;
      waits = waits;
    })

    -- Where nothing is written, the same activation goes on with any memory.
    passes_same : (i : Instruction) (m : Memory) → target_of i ≡ None → FitsAt i → Related (record c { memory = m }) (record d { memory = m })
    passes_same i m target fits = record {
      blocks = blocks;
      rest = rest;
      end = end;
      waiting = waiting;
      is = refl;
      here = fits_passed c.here.graph blocks c.here.names i c.here.rest rest c.here.end end Odd target fits;
      waits = waits;
    }

    -- Nothing but memory changes, where that can be.
    memory_same : (i : Instruction) (o : Option Memory) → target_of i ≡ None → FitsAt i → DoesSame (with_memory c o) (with_memory d o)
    memory_same i None target fits = tt
    memory_same i (Some m) target fits = passes_same i m target fits

    -- A name is written that no copy writes, if there is a value.
    some_same : (i : Instruction) (x : ℕ) (o : Option Value) → target_of i ≡ Some x → ((y : ℕ) → i ≡ Move x (Name y) → ⊥) → FitsAt i → DoesSame (wrote_some c x o) (wrote_some d x o)
    some_same i x None target unlike fits = tt
    some_same i x (Some w) target unlike fits = writes_same i x w w target (λ y q. absurd (unlike y q)) refl fits

    -- ---- Calls

    -- A function is called.
    function_same : (x : Option ℕ) (f : ℕ) (all : List Operand) (vs : List Value) → FitsAt (Call x (callee.Function f) all) → DoesSame (call_function u c x f vs) (call_function after_of d x f vs)
    function_same x f all vs fits =
        subst (λ n. DoesSame (call_function u c x f vs) (if n + 1 == most_activations then Ends TooDeep else goes_if (enter after_of c.memory c.input f vs (other ∷ waiting)))) (sym (many_waiting c.waiting waiting waits)) (by_test (length c.waiting + 1 == most_activations))
      where
        before : Activation
        before = record c.here { wants = x }

        other : Activation
        other = record d.here { wants = x }

        by_test : (full : Bool) → DoesSame (if full then Ends TooDeep else goes_if (enter u c.memory c.input f vs (before ∷ c.waiting))) (if full then Ends TooDeep else goes_if (enter after_of c.memory c.input f vs (other ∷ waiting)))
        by_test true = refl
        by_test false = goes_if_same (enter u c.memory c.input f vs (before ∷ c.waiting)) (enter after_of c.memory c.input f vs (other ∷ waiting))
            (enter_same c.memory c.input f vs (before ∷ c.waiting) (other ∷ waiting) (record { blocks = blocks; rest = rest; end = end; is = refl; callee = callee.Function f; operands = all; fits = fits }, waits) u after_of made)

    -- A byte of the input is taken.
    got_same : (x : Option ℕ) (all : List Operand) (input : List ℕ) → FitsAt (Call x callee.Getchar all) → DoesSame (got c x input) (got d x input)
    got_same x all [] fits = goes_on c.memory c.input c.here blocks rest end x callee.Getchar all (Number 4294967295) fits c.waiting waiting waits
    got_same x all (b ∷ input) fits = goes_on c.memory input c.here blocks rest end x callee.Getchar all (Number b) fits c.waiting waiting waits

    -- A byte is put out.
    put_same : (x : Option ℕ) (all : List Operand) (w : Value) → FitsAt (Call x callee.Putchar all) → DoesSame (put_out c x w) (put_out d x w)
    put_same x all (Number w) fits = (goes_on c.memory c.input c.here blocks rest end x callee.Putchar all (Number (w % 256)) fits c.waiting waiting waits, refl)
    put_same x all (Pointer object size offset) fits = tt
    put_same x all Odd fits = tt

    -- Whatever is called.
    callee_same : (x : Option ℕ) (k : Callee) (all : List Operand) (vs : List Value) → FitsAt (Call x k all) → DoesSame (call u c x k vs) (call after_of d x k vs)
    callee_same x (callee.Function n) all vs fits = function_same x n all vs fits
    callee_same x callee.Getchar all vs fits = got_same x all c.input fits
    callee_same x callee.Putchar all vs fits = put_same x all (first_argument vs) fits
    callee_same x callee.Exit all vs fits = exited_same (first_argument vs)

    -- ---- Markers and notes

    -- A place begins.
    marker_same : (p : ℕ) → FitsAt (Marker p) → DoesSame (execute u (Marker p) c) (execute after_of (Marker p) d)
    marker_same p fits = by_test (p == c.here.graph.entry)
      where
        before : Configuration
        before = at_place p c

        other : Configuration
        other = at_place p d

        related : Related before other
        related = record {
          blocks = blocks;
          rest = rest;
          end = end;
          waiting = waiting;
          is = refl;
          here = fits_passed c.here.graph blocks c.here.names (Marker p) c.here.rest rest c.here.end end Odd refl fits;
          waits = waits;
        }

        by_test : (b : Bool) → DoesSame (if b then Goes before else Shows (Stop (frame before.here ∷ map frame c.waiting) c.memory) before) (if b then Goes other else Shows (Stop (frame other.here ∷ map frame waiting) c.memory) other)
        by_test true = related
        by_test false = (related, ap (λ fs. Stop (frame before.here ∷ fs) c.memory) (frames_same c.waiting waiting waits))

    -- a shadow of the activation becomes another
    shadowed : (x : ℕ) (n : NoteValue) (s : Shadow) → FitsAt (Note x n) → Related (record c { here = record c.here { shadows = with_value_at c.here.shadows x s } }) (record d { here = record d.here { shadows = with_value_at d.here.shadows x s } })
    shadowed x n s fits = record {
      blocks = blocks;
      rest = rest;
      end = end;
      waiting = waiting;
      is = refl;
      here = fits_passed c.here.graph blocks c.here.names (Note x n) c.here.rest rest c.here.end end Odd refl fits;
      waits = waits;
    }

    -- A note says what it says, and a note reads no copy.
    note_same : (x : ℕ) (n : NoteValue) → FitsAt (Note x n) → DoesSame (execute u (Note x n) c) (execute after_of (Note x n) d)
    note_same x (Gone change) fits = shadowed x (Gone change) shadow.Gone fits
    note_same x (Is r) fits =
        let known : Shadow = shadow.Known (recipe_value u.statics c.here.names r) in
        unless_same (is_odd (recipe_value u.statics c.here.names r)) (Goes (record c { here = record c.here { shadows = with_value_at c.here.shadows x known } })) (Goes (record d { here = record d.here { shadows = with_value_at d.here.shadows x known } }))
        (shadowed x (Is r) known fits)

    -- ---- Blocks to which control goes

    -- The end of the block fits.
    abbrev FitsEnd : Type 0
    FitsEnd = Fits c.here.graph blocks c.here.names [] [] [] c.here.end end

    -- Control goes to one of the blocks to which it leads.
    go_same : (l : ℕ) → Among l (targets_of end) → FitsEnd → DoesSame (go_to c l) (go_to d l)
    go_same l to fits = by_blocks (at_both c.here.graph.blocks blocks l fits.made.count)
      where
        by_blocks : AtBoth (λ x y. Unit {0}) c.here.graph.blocks blocks l → DoesSame (go_to c l) (go_to d l)
        by_blocks (inl none) = subst (λ o. DoesSame (entered c l o) (go_to d l)) (sym none.0) (subst (λ o. DoesSame Wild (entered d l o)) (sym none.1) tt)
        by_blocks (inr some) =
            subst (λ o. DoesSame (entered c l o) (go_to d l)) (sym some.2) (subst (λ o. DoesSame (entered c l (Some some.0)) (entered d l o)) (sym some.3) (record {
              blocks = blocks;
              rest = some.1.instructions;
              end = some.1.end;
              waiting = waiting;
              is = refl;
              here = fits_entered c.here.graph blocks fits.made c.here.names l some.0 some.1 some.2 some.3 [] [] c.here.end end to fits;
              waits = waits;
            }))

    -- ---- Instructions and ends, where each name read has the value of what it is read as

    module _ (read_as : ℕ → ℕ) where
      -- these names are read so that it does not matter
      abbrev ReadSame : List ℕ → Type 0
      ReadSame xs = (x : ℕ) → Among x xs → c.here.names (read_as x) ≡ c.here.names x

      -- an operand before
      abbrev value_before : Operand → Value
      value_before a = value u.statics c.here.names a

      -- the operand after
      abbrev value_after : Operand → Value
      value_after a = value u.statics c.here.names (reading_operand read_as a)

      -- the names that the first operand reads, and those that the second reads
      at_left : (xs ys : List ℕ) → ReadSame (xs ++ ys) → ReadSame xs
      at_left xs ys reads x among = reads x (among_left x xs ys among)

      at_right : (xs ys : List ℕ) → ReadSame (xs ++ ys) → ReadSame ys
      at_right xs ys reads x among = reads x (among_right x xs ys among)

      -- what one operand is worth
      one_same : (a : Operand) → ReadSame (names_of a) → value_after a ≡ value_before a
      one_same a reads = value_same u.statics read_as c.here.names a reads

      -- what is made of two operands
      two_same : {A : Type 0} (f : Value → Value → A) (a b : Operand) → ReadSame (names_of a ++ names_of b) → f (value_after a) (value_after b) ≡ f (value_before a) (value_before b)
      two_same f a b reads =
          ap (λ w. f w (value_after b)) (one_same a (at_left (names_of a) (names_of b) reads))
          ∙ ap (f (value_before a)) (one_same b (at_right (names_of a) (names_of b) reads))

      -- what a location points to
      location_same : (l : Location) → ReadSame (names_of_location l) → pointed u.statics c.memory d.here (reading_at read_as l) ≡ pointed u.statics c.memory c.here l
      location_same l reads = pointed_same u.statics read_as c.memory c.here d.here refl refl l reads

      -- A move: where it is a copy after, its value is that of the name that it reads after.
      move_same : (x : ℕ) (a : Operand) → ReadSame (names_of a) → FitsAt (Move x (reading_operand read_as a)) → DoesSame (execute u (Move x a) c) (execute after_of (Move x (reading_operand read_as a)) d)
      move_same x a reads fits = writes_same (Move x (reading_operand read_as a)) x (value_before a) (value_after a) refl copies (one_same a reads) fits
        where
          copies : (y : ℕ) → Move x (reading_operand read_as a) ≡ Move x (Name y) → value_before a ≡ c.here.names y
          copies y q = (let same : reading_operand read_as a ≡ Name y = cc in sym (one_same a reads) ∙ ap (value u.statics c.here.names) same)

      -- A load, and a store.
      load_same : (x : ℕ) (e : Element) (l : Location) → ReadSame (names_of_location l) → FitsAt (Load x e (reading_at read_as l)) → DoesSame (execute u (Load x e l) c) (execute after_of (Load x e (reading_at read_as l)) d)
      load_same x e l reads fits =
          subst (λ p. DoesSame (execute u (Load x e l) c) (wrote_some d x (read c.memory e p))) (sym (location_same l reads))
          (some_same (Load x e (reading_at read_as l)) x (read c.memory e (pointed u.statics c.memory c.here l)) refl (λ y q. cc) fits)

      store_same : (e : Element) (l : Location) (a : Operand) → ReadSame (names_of_location l ++ names_of a) → FitsAt (Store e (reading_at read_as l) (reading_operand read_as a))
          → DoesSame (execute u (Store e l a) c) (execute after_of (Store e (reading_at read_as l) (reading_operand read_as a)) d)
      store_same e l a reads fits =
          subst (λ p. DoesSame (execute u (Store e l a) c) (unless_odd (value_after a) (with_memory d (write c.memory e p (value_after a))))) (sym (location_same l (at_left (names_of_location l) (names_of a) reads)))
          (subst (λ w. DoesSame (execute u (Store e l a) c) (unless_odd w (with_memory d (write c.memory e (pointed u.statics c.memory c.here l) w)))) (sym (one_same a (at_right (names_of_location l) (names_of a) reads)))
          (unless_same (is_odd (value_before a)) (with_memory c stored) (with_memory d stored) (memory_same (Store e (reading_at read_as l) (reading_operand read_as a)) stored refl fits)))
        where
          stored : Option Memory
          stored = write c.memory e (pointed u.statics c.memory c.here l) (value_before a)

      -- A call, of whatever it is.
      call_same : (x : Option ℕ) (f : Callee) (all : List Operand) → ReadSame (reads_of (Call x f all)) → FitsAt (Call x f (reading_all read_as all)) → DoesSame (execute u (Call x f all) c) (execute after_of (Call x f (reading_all read_as all)) d)
      call_same x f all reads fits =
          let vs : List Value = map (value u.statics c.here.names) all in
          subst (λ ws. DoesSame (execute u (Call x f all) c) (if list_any is_odd ws then Wild else call after_of d x f ws)) (sym (values_same u.statics read_as c.here.names all reads))
          (unless_same (list_any is_odd vs) (call u c x f vs) (call after_of d x f vs) (callee_same x f (reading_all read_as all) vs fits))

      -- An instruction after does what the instruction before does.
      pub execute_same : (i : Instruction) → ReadSame (reads_of i) → FitsAt (reading read_as i) → DoesSame (execute u i c) (execute after_of (reading read_as i) d)
      execute_same (Marker p) reads fits = marker_same p fits
      execute_same (Note x n) reads fits = note_same x n fits
      execute_same (Move x a) reads fits = move_same x a reads fits
      execute_same (Operate x o a b) reads fits = writes_same (reading read_as (Operate x o a b)) x (operate o (value_before a) (value_before b)) (operate o (value_after a) (value_after b)) refl (λ y q. cc) (two_same (operate o) a b reads) fits
      execute_same (Truncate x t a) reads fits = writes_same (reading read_as (Truncate x t a)) x (truncate t (value_before a)) (truncate t (value_after a)) refl (λ y q. cc) (ap (truncate t) (one_same a reads)) fits
      execute_same (Same x a b) reads fits = writes_same (reading read_as (Same x a b)) x (same (is_live c.memory) (value_before a) (value_before b)) (same (is_live c.memory) (value_after a) (value_after b)) refl (λ y q. cc) (two_same (same (is_live c.memory)) a b reads) fits
      execute_same (Address x object) reads fits = (let at : Value = pointer_to_object c.memory (c.here.first_object + object) in writes_same (Address x object) x at at refl (λ y q. cc) refl fits)
      execute_same (Load x e l) reads fits = load_same x e l reads fits
      execute_same (Store e l a) reads fits = store_same e l a reads fits
      execute_same (Zero object words) reads fits = memory_same (Zero object words) (zeroed c.memory (c.here.first_object + object) words) refl fits
      execute_same (CopyWords object bytes words) reads fits =
          memory_same (CopyWords object bytes words) (option_and_then (λ all. copied c.memory (c.here.first_object + object) all words) (slice_get u.array_bytes bytes)) refl fits
      execute_same (Call x f all) reads fits = call_same x f all reads fits

      -- The end of a block after does what the end before does.
      pub end_same : (e : End) → end ≡ reading_end read_as e → ReadSame (reads_of_end e) → FitsEnd → DoesSame (execute_end u e c) (execute_end after_of (reading_end read_as e) d)
      end_same (Jump l) is reads fits = go_same l (subst (λ z. Among l (targets_of z)) (sym is) front) fits
      end_same (Branch k a b l m) is reads fits = subst (λ o. DoesSame (execute_end u (Branch k a b l m) c) (branched d o l m)) (sym (two_same (holds (is_live c.memory) k) a b reads)) (by_found (holds (is_live c.memory) k (value_before a) (value_before b)))
        where
          by_found : (o : Option Bool) → DoesSame (branched c o l m) (branched d o l m)
          by_found None = tt
          by_found (Some true) = go_same l (subst (λ z. Among l (targets_of z)) (sym is) front) fits
          by_found (Some false) = go_same m (subst (λ z. Among m (targets_of z)) (sym is) (behind front)) fits
      end_same (Return None) is reads fits = returned_same (ended_from c.here.first_object c.memory) c.input Odd c.waiting waiting waits
      end_same (Return (Some a)) is reads fits =
          subst (λ w. DoesSame (leave c (value_before a)) (leave d w)) (sym (one_same a reads)) (returned_same (ended_from c.here.first_object c.memory) c.input (value_before a) c.waiting waiting waits)

  -- ---- One step

  -- The step from a point that fits, by what is left there.
  step_by : (c : Configuration) (blocks : List Block) (end : End) (waiting : List Activation) → Pairs Waits c.waiting waiting → (before rest : List Instruction) → Fits c.here.graph blocks c.here.names rest before rest c.here.end end
      → DoesSame (step_from u before c) (step_from after_of rest (copied_configuration c blocks rest end waiting))
  step_by c blocks end waiting waits before rest fits = by_copied before rest fits.instructions fits.along
    where
      h : Graph
      h = copied_graph c.here.graph blocks

      d : Configuration
      d = copied_configuration c blocks rest end waiting

      -- what is read where the history has come to
      read_there : (ys : List Instruction) → Path h fits.history fits.block ys end → (xs : List ℕ) (read_as : ℕ → ℕ) → ((x : ℕ) → Among x xs → IsReadAs h fits.block ys end x (read_as x)) → (x : ℕ) → Among x xs → c.here.names (read_as x) ≡ c.here.names x
      read_there ys along xs read_as reads x among = read_value h c.here.names fits.history fits.block ys end x (read_as x) along fits.holds (reads x among)

      by_copied : (xs ys : List Instruction) → AreCopied h fits.block end xs ys → Path h fits.history fits.block ys end → DoesSame (step_from u xs c) (step_from after_of ys d)
      by_copied xs ys ends along =
          subst (λ e. DoesSame (execute_end u c.here.end c) (execute_end after_of e d)) (sym fits.ends)
          (end_same c blocks rest end waiting waits fits.read_as c.here.end fits.ends (read_there [] along (reads_of_end c.here.end) fits.read_as fits.reads) (record {
            made = fits.made;
            history = fits.history;
            block = fits.block;
            along = along;
            holds = fits.holds;
            instructions = ends;
            read_as = fits.read_as;
            ends = fits.ends;
            reads = fits.reads;
          }))
      by_copied xs ys (next {i} {rest = more} {after = later} read_as reads copied_more) along =
          execute_same (record c { here = record c.here { rest = more } }) blocks later end waiting waits read_as i (read_there (reading read_as i ∷ later) along (reads_of i) read_as reads) (record {
            made = fits.made;
            history = fits.history;
            block = fits.block;
            along = along;
            holds = fits.holds;
            instructions = copied_more;
            read_as = fits.read_as;
            ends = fits.ends;
            reads = fits.reads;
          })

  -- A step.
  pub step_same : (c d : Configuration) → Related c d → DoesSame (step u c) (step after_of d)
  step_same c d r = subst (λ z. DoesSame (step u c) (step after_of z)) (sym r.is) (step_by c r.blocks r.end r.waiting r.waits c.here.rest r.rest r.here)
