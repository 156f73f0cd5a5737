-- A unit with more changes in its log, and nothing else changed, keeps what it did.
use Rattle.std.proofs.Common.{◌≡◌, ℕ, zero, suc, ◌≤◌, ◌+◌, inl, inr, ⊎_elim, if◌then◌else◌, Option, Some, None, List, [], ◌∷◌, ◌++◌, length, length-append, map, refl, ap, ◌∙◌, arith}
use Rattle.std.specs.List.{AllByRecursion, list_any}
use Rattle.std.proofs.Math.Path.{fun_ext}
use Rattle.graph_core.specs.declared.instruction.Callee.{Callee}
use Rattle.graph_core.specs.declared.instruction.Callee.TheVariants as callee
use Rattle.graph_core.specs.declared.value.Value.{Value}
use Rattle.graph_core.specs.Graphs.{NoteValue, Is, Gone, Instruction, Marker, Note, Move, Operate, Truncate, Same, Address, Load, Store, Zero, CopyWords, Call, End, Jump, Branch, Return, Block, Graph, Logged, UnitForm}
use Rattle.graph_core.specs.Paths as paths
use Rattle.graph_core.specs.Validity.{IsNoteValue, IsInstruction, IsBlock, IsGraph, IsValid}
use Rattle.graph_core.specs.WellMarked.{WasTaken, WasSunk, MayStand, ReadsAcross, moved, sunk, IsRightNote, IsWellMarked, AreWellMarked}
use Rattle.graph_core.specs.Memory.{first_memory}
use Rattle.graph_core.specs.Values.{is_odd}
use Rattle.graph_core.specs.Runs.{Configuration, Wild, value, enter, call, execute, execute_end, step_from, step, events_after, run, run_some, unit_run}
use Rattle.pass_law.specs.Keeps.{SameFunction, Keeps}
use Rattle.pass_law.proofs.Keeping.{pairs_itself, function_itself, reached_itself}
use Rattle.graph_core.proofs.Among.{among_longer}

-- the unit with these changes behind its log
abbrev pub with_changes : UnitForm → List Logged → UnitForm
with_changes u added = record u { log = u.log ++ added }

all_map : {A : Type 0} (P Q : A → Type 0) → ((a : A) → P a → Q a) → (all : List A) → AllByRecursion P all → AllByRecursion Q all
all_map P Q f [] all = tt
all_map P Q f (a ∷ more) all = (f a all.0, all_map P Q f more all.1)

module _ (u : UnitForm) (added : List Logged) where
  -- the unit with the longer log
  abbrev longer : UnitForm
  longer = with_changes u added

  module _ (g : Graph) where
    note_value : (v : NoteValue) → IsNoteValue u g v → IsNoteValue longer g v
    note_value (Is r) h = h
    note_value (Gone change) h = let most : change ≤ length u.log = h.1 in let more : length (u.log ++ added) ≡ length u.log + length added = length-append u.log added in (h.0, omega arith)

    is_instruction : (i : Instruction) → IsInstruction u g i → IsInstruction longer g i
    is_instruction (Marker p) h = h
    is_instruction (Note x v) h = (h.0, note_value v h.1)
    is_instruction (Move x a) h = h
    is_instruction (Operate x o a b) h = h
    is_instruction (Truncate x t a) h = h
    is_instruction (Same x a b) h = h
    is_instruction (Address x object) h = h
    is_instruction (Load x e l) h = h
    is_instruction (Store e l a) h = h
    is_instruction (Zero object words) h = h
    is_instruction (CopyWords object bytes words) h = h
    is_instruction (Call x f all) h = h

    is_block : (b : Block) → IsBlock u g b → IsBlock longer g b
    is_block b h = record {
      place = h.place;
      own = h.own;
      instructions = all_map (IsInstruction u g) (IsInstruction longer g) is_instruction b.instructions h.instructions;
      operands = h.operands;
      edges = h.edges;
    }

    is_graph : IsGraph u g → IsGraph longer g
    is_graph h = record {
      instructions = h.instructions;
      names = h.names;
      scalars = h.scalars;
      temporaries = h.temporaries;
      parameters = h.parameters;
      bindings = h.bindings;
      objects = h.objects;
      begins = h.begins;
      blocks = all_map (IsBlock u g) (IsBlock longer g) is_block g.blocks h.blocks;
    }

    removed : {p x : ℕ} → WasTaken u.log p x → WasTaken (u.log ++ added) p x
    removed h = record { change = h.change; logged = among_longer h.logged added; taken = h.taken; at = h.at; of = h.of }

    right_note : (p x variable : ℕ) (v : NoteValue) → IsRightNote u g p x variable v → IsRightNote longer g p x variable v
    right_note p x variable v (inl h) = inl h
    right_note p x variable v (inr h) = inr (h.0, h.1, removed h.2)

    was_sunk : {variable : ℕ} → WasSunk u.log variable → WasSunk (u.log ++ added) variable
    was_sunk h = record { change = h.change; logged = among_longer h.logged added; sunk = h.sunk; of = h.of }

    may_stand : (p x variable : ℕ) → MayStand u g p x variable → MayStand longer g p x variable
    may_stand p x variable (inl h) = inl h
    may_stand p x variable (inr h) = inr (was_sunk h.0, h.1)

    reads_across : (hist : paths.History) (i : Instruction) → ReadsAcross u g hist i → ReadsAcross longer g hist i
    reads_across hist i (moved t is late computed) = moved t is late computed
    reads_across hist i (sunk x variable p is of at none) = sunk x variable p is of at none

    well_marked : IsWellMarked u g → IsWellMarked longer g
    well_marked h = record {
      begins = h.begins;
      first = h.first;
      flows = h.flows;
      cycles = h.cycles;
      entry_calls = h.entry_calls;
      leaves = h.leaves;
      zeroes = h.zeroes;
      copies = h.copies;
      zeroes_first = h.zeroes_first;
      copies_first = h.copies_first;
      variables = h.variables;
      written_where = λ p x variable is w. may_stand p x variable (h.written_where p x variable is w);
      noted_where = λ p x variable v is at. may_stand p x variable (h.noted_where p x variable v is at);
      noted = h.noted;
      right = λ hist n p x variable v rest e is at place. right_note p x variable v (h.right hist n p x variable v rest e is at place);
      behind_write = h.behind_write;
      calls = h.calls;
      local = λ hist n i t rest e of at reads. ⊎_elim inl (λ across. inr (reads_across hist i across)) (h.local hist n i t rest e of at reads);
      local_at_end = h.local_at_end;
    }

  valid : IsValid u → IsValid longer
  valid h = record {
    functions = h.functions;
    main = h.main;
    instructions = h.instructions;
    blocks = h.blocks;
    markers = h.markers;
    arguments = h.arguments;
    statics = h.statics;
    relocations = h.relocations;
    once = h.once;
    graphs = all_map (IsGraph u) (IsGraph longer) is_graph u.graphs h.graphs;
  }

  -- it is well marked where that one is
  pub still_marked : AreWellMarked u → AreWellMarked longer
  still_marked h = record { valid = valid h.valid; graphs = λ f g is. well_marked g (h.graphs f g is) }

  -- each step is the same
  call_same : (c : Configuration) (x : Option ℕ) (f : Callee) (vs : List Value) → call longer c x f vs ≡ call u c x f vs
  call_same c x (callee.Function f) vs = refl
  call_same c x callee.Getchar vs = refl
  call_same c x callee.Putchar vs = refl
  call_same c x callee.Exit vs = refl

  execute_same : (i : Instruction) (c : Configuration) → execute longer i c ≡ execute u i c
  execute_same (Marker p) c = refl
  execute_same (Note x v) c = refl
  execute_same (Move x a) c = refl
  execute_same (Operate x o a b) c = refl
  execute_same (Truncate x t a) c = refl
  execute_same (Same x a b) c = refl
  execute_same (Address x object) c = refl
  execute_same (Load x e l) c = refl
  execute_same (Store e l a) c = refl
  execute_same (Zero object words) c = refl
  execute_same (CopyWords object bytes words) c = refl
  execute_same (Call x f all) c =
      ap (λ s. if list_any is_odd (map (value u.statics c.here.names) all) then Wild else s) (call_same c x f (map (value u.statics c.here.names) all))

  end_same : (e : End) (c : Configuration) → execute_end longer e c ≡ execute_end u e c
  end_same (Jump l) c = refl
  end_same (Branch k a b l m) c = refl
  end_same (Return None) c = refl
  end_same (Return (Some a)) c = refl

  from_same : (rest : List Instruction) (c : Configuration) → step_from longer rest c ≡ step_from u rest c
  from_same [] c = end_same c.here.end c
  from_same (i ∷ rest) c = execute_same i (record c { here = record c.here { rest = rest } })

  run_same : (n : ℕ) (c : Configuration) → run longer n c ≡ run u n c
  run_same zero c = refl
  run_same (suc n) c =
      ap (events_after (step longer c)) (fun_ext (run_same n)) ∙ ap (λ s. events_after s (run u n)) (from_same c.here.rest c)

  some_same_run : (n : ℕ) (o : Option Configuration) → run_some longer n o ≡ run_some u n o
  some_same_run n None = refl
  some_same_run n (Some c) = run_same n c

  unit_same : (input : List ℕ) (n : ℕ) → unit_run longer input n ≡ unit_run u input n
  unit_same input n = some_same_run n (enter u (first_memory u.statics) input u.main [] [])

-- A well marked unit keeps what it does where its log grows.
pub keeps_with_changes : (u : UnitForm) (added : List Logged) → AreWellMarked u → Keeps u (with_changes u added)
keeps_with_changes u added marked = record {
  marked = marked;
  still_marked = still_marked u added marked;
  program = record {
    main = refl;
    statics = refl;
    array_bytes = refl;
    steps = refl;
    assignments = refl;
    room = refl;
    added = added;
    log = refl;
    functions = pairs_itself SameFunction function_itself u.graphs;
  };
  follows = λ input n. reached_itself (unit_run u input n) (unit_run (with_changes u added) input) n (unit_same u added input n);
}
