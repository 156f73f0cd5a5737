-- The code of an end that goes on to a block leads where the unit's step leads, unseen, and the frame stands there.
use Rattle.std.proofs.Common.{◌≡◌, ℕ, ◌+◌, ◌-◌, ◌≤◌, sym, ap, ◌∙◌, subst, arith, refl, Option, Some, None, Bool, true, false, cond, not, List, [], ◌∷◌, ◌++◌, length, slice_get}
use Rattle.std.specs.Prelude.{◌==◌}
use Rattle.std.proofs.lemmas.Bool.{eqb-true}
use Rattle.memory_map.proofs.Facts.{map_facts}
use Rattle.rv_code.specs.declared.instruction.Instruction.TheVariants as instruction
use Rattle.rv_code.specs.declared.instruction.BranchOperation.{BranchOperation}
use Rattle.rv_code.specs.declared.instruction.ImmediateOperation.TheVariants.{Addi}
use Rattle.rv_machine.specs.State.{MachineState}
use Rattle.rv_machine.specs.Table.{taken}
use Rattle.graph_core.specs.declared.block.Comparison.{Comparison}
use Rattle.graph_core.specs.Graphs.{Operand, End, Jump, Branch, Return, Block}
use Rattle.graph_core.specs.Values.{holds}
use Rattle.graph_core.specs.Memory.{is_live}
use Rattle.graph_core.specs.Runs.{Configuration, Stepped, Goes, Shows, Ends, Wild, value, entered, go_to, branched, execute_end, step, step_from}
use Rattle.graph_core.specs.Validity.{IsOperand, AreOperandsOfEnd}
use Rattle.graph_core.specs.Paths.{Among, front as among_front, behind as among_behind}
use Rattle.graph_core.specs.Uses.{targets_of}
use Rattle.graph_homes.specs.Homed.{placed_operand, placed_end}
use Rattle.rv_emit_words.specs.declared.piece.Held.{Held}
use Rattle.rv_emit_words.specs.declared.piece.Piece.TheVariants as piece
use Rattle.rv_emit_storage.specs.declared.storage.Source.{Source}
use Rattle.rv_emit_storage.specs.declared.storage.Source.TheVariants.{Home as OfHome, Word}
use Rattle.rv_emit_storage.specs.Storages.{home_at, source_of}
use Rattle.rv_emit_words.specs.Operands.{source_register, fetched_source}
use Rattle.rv_emit_steps.specs.Holding.{Holding, AreInRange}
use Rattle.rv_emit_steps.specs.Doing.{done_by_all}
use Rattle.rv_emit_steps.specs.Programs.{Program, behind, Stands}
use Rattle.rv_emit_steps.specs.Points.{Reaches}
use Rattle.rv_emit_steps.proofs.Leading.{leads_nowhere}
use Rattle.rv_emit_steps.proofs.Placing.{code_front, reaches_then, done_by_both, can_do_both, regions_stay}
use Rattle.rv_emit_steps.proofs.Straight.{code_does}
use Rattle.rv_emit_steps.specs.EmitMovesDoing.{IsReadable, value_of}
use Rattle.rv_emit_steps.proofs.Computing.{both_found, BothFound}
use Rattle.rv_emit_steps.proofs.Moves.{value_fits}
use Rattle.rv_emit_steps.specs.Meaning.{Means}
use Rattle.rv_emit_steps.specs.Frames.{Setting, IsStorage, HoldsFrame, IsWord}
use Rattle.rv_emit_steps.proofs.Homes.{frame_stays}
use Rattle.rv_emit_steps.proofs.Operands.{operand_readable, operand_means}
use Rattle.rv_emit_runs.specs.Pieces.{Targets, AreInCode, PiecesAt}
use Rattle.rv_emit_runs.specs.Going.{IsGoing}
use Rattle.rv_emit_code.specs.Ends.{words, loading_code, loading_held, going, going_by, jumping, Compared, branch_operation, word_test, with_zero, room_of, comparing_code, branching, choosing, choosing_held, end_pieces, end_held, opposite}
use Rattle.rv_emit_runs.specs.Settings.{with_held, IsKept, AreLoads}
use Rattle.rv_emit_runs.proofs.Comparing.{branch_tests, comparison_means, with_zero_tests, with_zero_readable}
use Rattle.rv_emit_runs.proofs.Placed.{begins_is, but_none, WordsFirst, words_first, opposite_taken, GoesTo, jump_goes, taken_goes, not_taken_goes, goes_within, jump_short, piece_long, pieces_long}
use Rattle.rv_emit_runs.proofs.Loading.{Loads, loading_loads, frame_reheld}

-- ---- Where control goes

-- A label that stands next is come to by no more than a word that does nothing, and another one by a jump.
pub going_goes : (p : Program) (t : Targets) (s : MachineState) (i : ℕ) (h : Holding) (b : Bool) (to next j : ℕ) → AreInCode p.map t → Stands p s i h → PiecesAt p t i b (going b to next) j → j ≡ t.label next
    → GoesTo p s b (j - i) (t.label to) h
going_goes p t s i h b to next j inside stands there follows = by_test (to == next) refl b there
  where
    here : to ≡ next → (k : ℕ) → j ≡ k → k ≡ t.label to
    here same k e = sym e ∙ follows ∙ ap t.label (sym same)

    by_test : (same : Bool) → (to == next) ≡ same → (c : Bool) → PiecesAt p t i c (cond same (cond c (piece.Word (instruction.Immediate Addi 0 0 0) ∷ []) []) (piece.Jump (record { 0 = to }) ∷ [])) j
        → GoesTo p s c (j - i) (t.label to) h
    by_test true e true (k, (at, next_is), end) =
        let one = code_does p s i h true (instruction.Immediate Addi 0 0 0 ∷ []) stands (at, tt) (tt, tt) in
        record {
          count = 1;
          few = omega (arith, next_is, end);
          holding = h;
          same = but_none h;
          reaches = subst (λ n. Reaches p 1 (record { state = s; shown = true }) [] n false h) (sym next_is ∙ here (eqb-true to next e) k end) one;
        }
    by_test true e false end = record {
      count = 0;
      few = omega arith;
      holding = h;
      same = but_none h;
      reaches = subst (λ n. Reaches p 0 (record { state = s; shown = false }) [] n false h) (here (eqb-true to next e) i end) (record { state = s; leads = leads_nowhere p.stops (record { state = s; shown = false }); stands = stands });
    }
    by_test false e c (k, at, end) = goes_within p s c (k - i) (j - i) (t.label to) h (omega (arith, end)) (jump_goes p s i h c (t.label to) k stands at (inside.labels to))

-- It is come to by two words at most.
pub going_few : (p : Program) (t : Targets) (i : ℕ) (b : Bool) (to next j : ℕ) → PiecesAt p t i b (going b to next) j → j ≤ i + 2
going_few p t i b to next j there = by_test (to == next) b there
  where
    by_test : (same c : Bool) → PiecesAt p t i b (cond same (cond c (piece.Word (instruction.Immediate Addi 0 0 0) ∷ []) []) (piece.Jump (record { 0 = to }) ∷ [])) j → j ≤ i + 2
    by_test true true (k, (at, next_is), end) = omega (arith, next_is, end)
    by_test true false end = omega (arith, end)
    by_test false c (k, at, end) = let short = jump_short p i b 0 5 (t.label to) k at in omega (arith, short, end)

-- To one label where a branch is taken, and else to another, in no more instructions than the words are.
pub going_by_goes : (p : Program) (t : Targets) (s : MachineState) (i : ℕ) (h : Holding) (b : Bool) (op : BranchOperation) (l r if_true if_false next j : ℕ) (test : Bool) → AreInCode p.map t → Stands p s i h
    → PiecesAt p t i b (going_by op l r if_true if_false next) j → j ≡ t.label next → taken op (h.registers l) (h.registers r) ≡ test → GoesTo p s b (j - i) (t.label (cond test if_true if_false)) h
going_by_goes p t s i h b op l r if_true if_false next j test inside stands there follows is = by_tests (if_true == next) refl there test is
  where
    by_tests : (same : Bool) → (if_true == next) ≡ same
        → PiecesAt p t i b (cond same (piece.Branch (opposite op) l r (record { 0 = if_false }) ∷ []) (piece.Branch op l r (record { 0 = if_true }) ∷ going false if_false next)) j
        → (c : Bool) → taken op (h.registers l) (h.registers r) ≡ c → GoesTo p s b (j - i) (t.label (cond c if_true if_false)) h
    by_tests true e (k, at, end) true taken_so =
        let off : taken (opposite op) (h.registers l) (h.registers r) ≡ false = opposite_taken op (h.registers l) (h.registers r) ∙ ap not taken_so in
        let there : k ≡ t.label if_true = sym end ∙ follows ∙ ap t.label (sym (eqb-true if_true next e)) in
        let long = piece_long p t i b (piece.Branch (opposite op) l r (record { 0 = if_false })) k at in
        let low = inside.labels if_true in
        record {
          count = 1;
          few = omega (arith, long, end);
          holding = h;
          same = but_none h;
          reaches = subst (λ n. Reaches p 1 (record { state = s; shown = b }) [] n false h) there (not_taken_goes p t s i h b (opposite op) l r if_false k stands at (omega (arith, there, low, (map_facts p.map).few)) off);
        }
    by_tests true e (k, at, end) false not_so =
        goes_within p s b (k - i) (j - i) (t.label if_false) h (omega (arith, end)) (taken_goes p t s i h b (opposite op) l r if_false k stands at (inside.labels if_false) (opposite_taken op (h.registers l) (h.registers r) ∙ ap not not_so))
    by_tests false e (k, at, rest) true taken_so =
        let long = pieces_long p t k false (going false if_false next) j rest in
        goes_within p s b (k - i) (j - i) (t.label if_true) h (omega (arith, long)) (taken_goes p t s i h b op l r if_true k stands at (inside.labels if_true) taken_so)
    by_tests false e (k, at, rest) false not_so =
        let long = pieces_long p t k false (going false if_false next) j rest in
        let low = inside.labels next in
        let first = not_taken_goes p t s i h b op l r if_true k stands at (omega (arith, long, follows, low, (map_facts p.map).few)) not_so in
        let second : GoesTo p first.state false (j - k) (t.label if_false) h = going_goes p t first.state k h false if_false next j inside first.stands rest follows in
        record {
          count = 1 + second.count;
          few = let most = second.few in let one = piece_long p t i b (piece.Branch op l r (record { 0 = if_true })) k at in omega (arith, most, one, long);
          holding = second.holding;
          same = second.same;
          reaches = reaches_then p 1 second.count (record { state = s; shown = b }) [] k false h [] (t.label if_false) false second.holding first second.reaches;
        }

-- ---- The machine at another block

-- In at most so many instructions, unseen, the machine comes to where a label stands and holds the frame of a configuration. Registers but t0 to t2, s0 and a0 to a7, memory and
-- the input are as they were.
pub record ComesTo (p : Program) (s : MachineState) (b : Bool) (most to : ℕ) (w : Setting) (h : Holding) (d : Configuration) : Type 0 where
  pub count : ℕ
  pub few : count ≤ most
  pub holding : Holding
  pub reaches : Reaches p count (record { state = s; shown = b }) [] to false holding
  pub frame : HoldsFrame w d holding
  pub kept : (q : ℕ) → IsKept q → holding.registers q ≡ h.registers q
  pub memory : holding.memory ≡ h.memory
  pub input : holding.input ≡ h.input

-- The block, what is left of it and its end are no part of the frame.
pub block_framed : (w : Setting) (c : Configuration) (h : Holding) (number : ℕ) (block : Block) → HoldsFrame w c h → HoldsFrame w (record c { here = record c.here { block = number; rest = block.instructions; end = block.end } }) h
block_framed w c h number block frame = record {
  fetch = frame.fetch;
  scratch = frame.scratch;
  aligned = frame.aligned;
  map = frame.map;
  low = frame.low;
  high = frame.high;
  homes = frame.homes;
  objects = frame.objects;
  laid = frame.laid;
  free = frame.free;
  own = frame.own;
  static = frame.static;
  arrays = frame.arrays;
}

-- The step goes on to a block, one of those to which the end leads, and the machine comes to where its label stands.
pub record EntersBlock (p : Program) (t : Targets) (s : MachineState) (b : Bool) (most : ℕ) (w : Setting) (c : Configuration) (h : Holding) (labels : List ℕ) (d : Configuration) : Type 0 where
  pub number : ℕ
  pub target : Among number labels
  pub block : Block
  pub there : slice_get c.here.graph.blocks number ≡ Some block
  pub is : record c { here = record c.here { block = number; rest = block.instructions; end = block.end } } ≡ d
  pub comes : ComesTo p s b most (t.label number) w h d

-- Code does the step of an end that goes on to a block. Where the step is wild, nothing is said of the code.
abbrev pub DoesEnd : Program → Targets → MachineState → (stops : Bool) → (most : ℕ) → Setting → Configuration → Holding → (labels : List ℕ) → Stepped → Type 0
DoesEnd p t s b most w c h labels (Goes d) = EntersBlock p t s b most w c h labels d
DoesEnd p t s b most w c h labels (Shows e d) = ⊥
DoesEnd p t s b most w c h labels (Ends e) = ⊥
DoesEnd p t s b most w c h labels Wild = Unit {0}

enters : (p : Program) (t : Targets) (s : MachineState) (b : Bool) (most : ℕ) (w : Setting) (c : Configuration) (h : Holding) (labels : List ℕ) (l : ℕ) → Among l labels → ComesTo p s b most (t.label l) w h c → DoesEnd p t s b most w c h labels (go_to c l)
enters p t s b most w c h labels l target comes = by_some (slice_get c.here.graph.blocks l) refl
  where
    by_some : (found : Option Block) → slice_get c.here.graph.blocks l ≡ found → DoesEnd p t s b most w c h labels (entered c l found)
    by_some None e = tt
    by_some (Some block) e = record {
      number = l;
      target = target;
      block = block;
      there = e;
      is = refl;
      comes = record {
        count = comes.count;
        few = comes.few;
        holding = comes.holding;
        reaches = comes.reaches;
        frame = block_framed w c comes.holding l block comes.frame;
        kept = comes.kept;
        memory = comes.memory;
        input = comes.input;
      };
    }

-- Which constants are held is no part of where values are found.
pub storage_reheld : (w : Setting) (held : List Held) → IsStorage w → IsStorage (with_held held w)
storage_reheld w held storage = record { homes = storage.homes; aligned = storage.aligned; room = storage.room; objects = storage.objects }

-- ---- Ends of blocks

module _ (p : Program) (t : Targets) (s : MachineState) (i : ℕ) (b : Bool) (w : Setting) (c : Configuration) (h : Holding) (inside : AreInCode p.map t) (storage : IsStorage w) (frame : HoldsFrame w c h) (stands : Stands p s i h) (loads : List Held) (fit : AreLoads loads)
    (next j : ℕ) (follows : j ≡ t.label next) where
  loaded : (room : ℕ) → Loads (loading_code w.storage.base room loads w.held) h (loading_held w.storage.base room loads w.held)
  loaded room = loading_loads w.storage.base room loads w.held h frame.fetch.none frame.fetch.gp (let fits = frame.fetch.fits in omega (arith, fits)) frame.fetch.all frame.scratch fit

  -- The frame behind constants that were loaded.
  loaded_frame : (room : ℕ) → HoldsFrame (with_held (loading_held w.storage.base room loads w.held) w) c (done_by_all (loading_code w.storage.base room loads w.held) h)
  loaded_frame room =
      let l = loaded room in
      frame_reheld w c h (done_by_all (loading_code w.storage.base room loads w.held) h) (loading_held w.storage.base room loads w.held) l.kept (regions_stay (loading_code w.storage.base room loads w.held) h) l.memory l.all l.scratch frame

  -- A jump.
  jump_behind : (to : ℕ) → PiecesAt p t i b (words (loading_code w.storage.base 8 loads w.held) ++ going (behind b (loading_code w.storage.base 8 loads w.held)) to next) j
      → ComesTo p s b (j - i) (t.label to) (with_held (loading_held w.storage.base 8 loads w.held) w) h c
  jump_behind to there =
      let code = loading_code w.storage.base 8 loads w.held in
      let l = loaded 8 in
      let u : Holding = done_by_all code h in
      let first : WordsFirst p t i b code (going (behind b code) to next) j = words_first p t i b code (going (behind b code) to next) j there in
      let one = code_does p s i h b code stands first.code_there l.can in
      let two : GoesTo p one.state (behind b code) (j - (i + length code)) (t.label to) u = going_goes p t one.state (i + length code) u (behind b code) to next j inside one.stands first.rest_there follows in
      record {
        count = length code + two.count;
        few = let long = pieces_long p t (i + length code) (behind b code) (going (behind b code) to next) j first.rest_there in let most = two.few in omega (arith, long, most);
        holding = two.holding;
        reaches = reaches_then p (length code) two.count (record { state = s; shown = b }) [] (i + length code) (behind b code) u [] (t.label to) false two.holding one two.reaches;
        frame = frame_stays (with_held (loading_held w.storage.base 8 loads w.held) w) c u two.holding two.same.regions (λ q left. two.same.registers q left.t0) two.same.memory (loaded_frame 8);
        kept = λ q kept. two.same.registers q kept.left.t0 ∙ l.kept q kept;
        memory = two.same.memory ∙ l.memory;
        input = two.same.input ∙ l.input;
      }

  jump_comes : (to : ℕ) → PiecesAt p t i b (jumping w.storage w.held b loads to next) j
      → ComesTo p s b (j - i) (t.label to) (with_held (loading_held w.storage.base 8 loads w.held) w) h c
  jump_comes to there =
      let code = loading_code w.storage.base 8 loads w.held in
      jump_behind to (subst (λ q. PiecesAt p t i b (words code ++ going q to next) j) (begins_is b code) there)

  -- A branch, by a comparison that the words of both operands decide.
  branch_comes : (x : Compared) (if_true if_false : ℕ) (test : Bool) → PiecesAt p t i b (branching w.storage w.held loads x if_true if_false next) j
      → IsReadable w.storage (done_by_all (loading_code w.storage.base (room_of x) loads w.held) h) x.left → IsReadable w.storage (done_by_all (loading_code w.storage.base (room_of x) loads w.held) h) x.right
      → word_test x.comparison (value_of w.storage (done_by_all (loading_code w.storage.base (room_of x) loads w.held) h) x.left) (value_of w.storage (done_by_all (loading_code w.storage.base (room_of x) loads w.held) h) x.right) ≡ test
      → ComesTo p s b (j - i) (t.label (cond test if_true if_false)) (with_held (loading_held w.storage.base (room_of x) loads w.held) w) h c
  branch_comes x if_true if_false test there left right is =
      let front = loading_code w.storage.base (room_of x) loads w.held in
      let held = loading_held w.storage.base (room_of x) loads w.held in
      let fetch = fetched_source w.storage held x.left 6 ++ fetched_source w.storage held x.right 7 in
      let code = comparing_code w.storage w.held loads x in
      let op = branch_operation x.comparison in
      let q1 : ℕ = source_register w.storage held x.left 6 in
      let q2 : ℕ = source_register w.storage held x.right 7 in
      let l = loaded (room_of x) in
      let u : Holding = done_by_all front h in
      let framed = loaded_frame (room_of x) in
      let found : BothFound w.storage held u x.left x.right = both_found w.storage held u x.left x.right framed.fetch left right in
      let v : Holding = done_by_all fetch u in
      let both : done_by_all code h ≡ v = done_by_both front fetch h in
      let first : WordsFirst p t i b code (going_by op q1 q2 if_true if_false next) j = words_first p t i b code (going_by op q1 q2 if_true if_false next) j there in
      let one : Reaches p (length code) (record { state = s; shown = b }) [] (i + length code) (behind b code) v =
      subst (λ (g : Holding). Reaches p (length code) (record { state = s; shown = b }) [] (i + length code) (behind b code) g) both (code_does p s i h b code stands first.code_there (can_do_both front fetch h l.can found.can)) in
      let takes : taken op (v.registers q1) (v.registers q2) ≡ test =
      ap (λ n. taken op n (v.registers q2)) found.left_value ∙ ap (λ n. taken op (value_of w.storage u x.left) n) found.right_value ∙ branch_tests x.comparison (value_of w.storage u x.left) (value_of w.storage u x.right) ∙ is in
      let two : GoesTo p one.state (behind b code) (j - (i + length code)) (t.label (cond test if_true if_false)) v =
      going_by_goes p t one.state (i + length code) v (behind b code) op q1 q2 if_true if_false next j test inside one.stands first.rest_there follows takes in
      record {
        count = length code + two.count;
        few = let long = pieces_long p t (i + length code) (behind b code) (going_by op q1 q2 if_true if_false next) j first.rest_there in let most = two.few in omega (arith, long, most);
        holding = two.holding;
        reaches = reaches_then p (length code) two.count (record { state = s; shown = b }) [] (i + length code) (behind b code) v [] (t.label (cond test if_true if_false)) false two.holding one two.reaches;
        frame = frame_stays (with_held held w) c v two.holding two.same.regions (λ q left. two.same.registers q left.t0) two.same.memory (frame_stays (with_held held w) c u v (regions_stay fetch u) found.kept found.memory framed);
        kept = λ q kept. two.same.registers q kept.left.t0 ∙ found.kept q kept.left ∙ l.kept q kept;
        memory = two.same.memory ∙ found.memory ∙ l.memory;
        input = two.same.input ∙ found.input ∙ l.input;
      }

  -- A branch by two operands.
  choose_done : (k : Comparison) (x y : Operand) (if_true if_false : ℕ) → IsOperand w.unit.statics w.graph x → IsOperand w.unit.statics w.graph y → IsWord x → IsWord y
      → PiecesAt p t i b (choosing w.storage w.held b loads k (source_of w.storage x) (source_of w.storage y) if_true if_false next) j
      → DoesEnd p t s b (j - i) (with_held (choosing_held w.storage w.held loads k (source_of w.storage x) (source_of w.storage y)) w) c h (if_true ∷ if_false ∷ [])
      (branched c (holds (is_live c.memory) k (value w.unit.statics c.here.names (placed_operand (home_at w.storage) x)) (value w.unit.statics c.here.names (placed_operand (home_at w.storage) y))) if_true if_false)
  choose_done k x y if_true if_false vx vy fx fy there =
      by_test (holds (is_live c.memory) k (value w.unit.statics c.here.names (placed_operand (home_at w.storage) x)) (value w.unit.statics c.here.names (placed_operand (home_at w.storage) y))) refl
    where
      -- Which of the two words that are compared is known is not told here.
      by_branch : (l r : Source) → source_of w.storage x ≡ l → source_of w.storage y ≡ r → (test : Bool)
          → holds (is_live c.memory) k (value w.unit.statics c.here.names (placed_operand (home_at w.storage) x)) (value w.unit.statics c.here.names (placed_operand (home_at w.storage) y)) ≡ Some test
          → PiecesAt p t i b (branching w.storage w.held loads (with_zero k l r) if_true if_false next) j
          → ComesTo p s b (j - i) (t.label (cond test if_true if_false)) (with_held (loading_held w.storage.base (room_of (with_zero k l r)) loads w.held) w) h c
      by_branch l r el er test says at =
          let z : Compared = with_zero k l r in
          let front = loading_code w.storage.base (room_of z) loads w.held in
          let held = loading_held w.storage.base (room_of z) loads w.held in
          let u : Holding = done_by_all front h in
          let framed = loaded_frame (room_of z) in
          let fetch = fetched_source w.storage held z.left 6 ++ fetched_source w.storage held z.right 7 in
          let rest = going_by (branch_operation z.comparison) (source_register w.storage held z.left 6) (source_register w.storage held z.right 7) if_true if_false next in
          let first : WordsFirst p t i b (front ++ fetch) rest j = words_first p t i b (front ++ fetch) rest j at in
          let one = code_does p s i h b front stands (code_front p i b front fetch first.code_there) (loaded (room_of z)).can in
          let range : AreInRange u = one.stands.in_range in
          let store = storage_reheld w held storage in
          let rx : IsReadable w.storage u l = subst (λ q. IsReadable w.storage u q) el (operand_readable (with_held held w) c u x store framed vx fx) in
          let ry : IsReadable w.storage u r = subst (λ q. IsReadable w.storage u q) er (operand_readable (with_held held w) c u y store framed vy fy) in
          let mx = subst (λ q. Means w.addresses c.memory (value w.unit.statics c.here.names (placed_operand (home_at w.storage) x)) (value_of w.storage u q)) el (operand_means (with_held held w) c u x store framed vx) in
          let my = subst (λ q. Means w.addresses c.memory (value w.unit.statics c.here.names (placed_operand (home_at w.storage) y)) (value_of w.storage u q)) er (operand_means (with_held held w) c u y store framed vy) in
          let readable = with_zero_readable w.storage u k l r rx ry in
          branch_comes z if_true if_false test at readable.0 readable.1
          (with_zero_tests w.storage u k l r ∙ comparison_means w.addresses c.memory framed.laid k _ _ (value_of w.storage u l) (value_of w.storage u r) test (value_fits w.storage u l range rx) (value_fits w.storage u r range ry) mx my says)

      -- Both words are known.
      by_words : (m n : ℕ) → source_of w.storage x ≡ Word m → source_of w.storage y ≡ Word n → (test : Bool)
          → holds (is_live c.memory) k (value w.unit.statics c.here.names (placed_operand (home_at w.storage) x)) (value w.unit.statics c.here.names (placed_operand (home_at w.storage) y)) ≡ Some test
          → PiecesAt p t i b (jumping w.storage w.held b loads (cond (word_test k m n) if_true if_false) next) j
          → ComesTo p s b (j - i) (t.label (cond test if_true if_false)) (with_held (loading_held w.storage.base 8 loads w.held) w) h c
      by_words m n ex ey test says at =
          let rx : IsReadable w.storage h (Word m) = subst (λ q. IsReadable w.storage h q) ex (operand_readable w c h x storage frame vx fx) in
          let ry : IsReadable w.storage h (Word n) = subst (λ q. IsReadable w.storage h q) ey (operand_readable w c h y storage frame vy fy) in
          let mx = subst (λ q. Means w.addresses c.memory (value w.unit.statics c.here.names (placed_operand (home_at w.storage) x)) (value_of w.storage h q)) ex (operand_means w c h x storage frame vx) in
          let my = subst (λ q. Means w.addresses c.memory (value w.unit.statics c.here.names (placed_operand (home_at w.storage) y)) (value_of w.storage h q)) ey (operand_means w c h y storage frame vy) in
          let is : word_test k m n ≡ test = comparison_means w.addresses c.memory frame.laid k _ _ m n test (omega (arith, rx)) (omega (arith, ry)) mx my says in
          subst
          (λ q. ComesTo p s b (j - i) (t.label (cond q if_true if_false)) (with_held (loading_held w.storage.base 8 loads w.held) w) h c)
          is (jump_comes (cond (word_test k m n) if_true if_false) at)

      by_sources : (l r : Source) → source_of w.storage x ≡ l → source_of w.storage y ≡ r → (test : Bool)
          → holds (is_live c.memory) k (value w.unit.statics c.here.names (placed_operand (home_at w.storage) x)) (value w.unit.statics c.here.names (placed_operand (home_at w.storage) y)) ≡ Some test
          → PiecesAt p t i b (choosing w.storage w.held b loads k l r if_true if_false next) j
          → ComesTo p s b (j - i) (t.label (cond test if_true if_false)) (with_held (choosing_held w.storage w.held loads k l r) w) h c
      by_sources (Word m) (Word n) el er test says at = by_words m n el er test says at
      by_sources (Word m) (OfHome q) el er test says at = by_branch (Word m) (OfHome q) el er test says at
      by_sources (OfHome q) (Word n) el er test says at = by_branch (OfHome q) (Word n) el er test says at
      by_sources (OfHome q) (OfHome r) el er test says at = by_branch (OfHome q) (OfHome r) el er test says at

      by_test : (found : Option Bool)
          → holds (is_live c.memory) k (value w.unit.statics c.here.names (placed_operand (home_at w.storage) x)) (value w.unit.statics c.here.names (placed_operand (home_at w.storage) y)) ≡ found
          → DoesEnd p t s b (j - i) (with_held (choosing_held w.storage w.held loads k (source_of w.storage x) (source_of w.storage y)) w) c h (if_true ∷ if_false ∷ [])
          (branched c found if_true if_false)
      by_test None says = tt
      by_test (Some true) says = enters p t s b _ _ c h (if_true ∷ if_false ∷ []) if_true among_front (by_sources (source_of w.storage x) (source_of w.storage y) refl refl true says there)
      by_test (Some false) says = enters p t s b _ _ c h (if_true ∷ if_false ∷ []) if_false (among_behind among_front) (by_sources (source_of w.storage x) (source_of w.storage y) refl refl false says there)

  -- An end that is no return.
  ends_done : (e : End) → AreOperandsOfEnd w.unit.statics w.graph e → IsGoing e → PiecesAt p t i b (end_pieces w.storage w.held b loads next e) j
      → DoesEnd p t s b (j - i) (with_held (end_held w.storage w.held loads e) w) c h (targets_of e) (execute_end w.unit (placed_end (home_at w.storage) e) c)
  ends_done (Jump to) valid is there = enters p t s b _ _ c h (to ∷ []) to among_front (jump_comes to there)
  ends_done (Branch k x y if_true if_false) (vx, vy) (fx, fy) there = by_test (if_true == if_false) refl there
    where
      to_one : if_true ≡ if_false → PiecesAt p t i b (jumping w.storage w.held b loads if_true next) j → (found : Option Bool)
          → DoesEnd p t s b (j - i) (with_held (loading_held w.storage.base 8 loads w.held) w) c h (if_true ∷ if_false ∷ []) (branched c found if_true if_false)
      to_one same at None = tt
      to_one same at (Some true) = enters p t s b _ _ c h (if_true ∷ if_false ∷ []) if_true among_front (jump_comes if_true at)
      to_one same at (Some false) =
          subst (λ l. DoesEnd p t s b (j - i) (with_held (loading_held w.storage.base 8 loads w.held) w) c h (if_true ∷ if_false ∷ []) (go_to c l)) same
          (enters p t s b _ _ c h (if_true ∷ if_false ∷ []) if_true among_front (jump_comes if_true at))

      by_test : (same : Bool) → (if_true == if_false) ≡ same
          → PiecesAt p t i b (cond same (jumping w.storage w.held b loads if_true next) (choosing w.storage w.held b loads k (source_of w.storage x) (source_of w.storage y) if_true if_false next)) j
          → DoesEnd p t s b (j - i)
          (with_held (cond same (loading_held w.storage.base 8 loads w.held) (choosing_held w.storage w.held loads k (source_of w.storage x) (source_of w.storage y))) w) c h (if_true ∷ if_false ∷ [])
          (branched c (holds (is_live c.memory) k (value w.unit.statics c.here.names (placed_operand (home_at w.storage) x)) (value w.unit.statics c.here.names (placed_operand (home_at w.storage) y))) if_true if_false)
      by_test true e at = to_one (eqb-true if_true if_false e) at _
      by_test false e at = choose_done k x y if_true if_false vx vy fx fy at
  ends_done (Return v) valid is there = absurd is

  -- Where nothing but such an end is left of a block, its code does the unit's step.
  pub end_done : (e : End) → c.here.rest ≡ [] → c.here.end ≡ placed_end (home_at w.storage) e → AreOperandsOfEnd w.unit.statics w.graph e → IsGoing e → PiecesAt p t i b (end_pieces w.storage w.held b loads next e) j
      → DoesEnd p t s b (j - i) (with_held (end_held w.storage w.held loads e) w) c h (targets_of e) (step w.unit c)
  end_done e none is valid goes there =
      subst (λ all. DoesEnd p t s b (j - i) (with_held (end_held w.storage w.held loads e) w) c h (targets_of e) (step_from w.unit all c)) (sym none)
      (subst (λ q. DoesEnd p t s b (j - i) (with_held (end_held w.storage w.held loads e) w) c h (targets_of e) (execute_end w.unit q c)) (sym is)
      (ends_done e valid goes there))
