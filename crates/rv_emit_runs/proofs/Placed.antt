-- Pieces that stand in the code: words among them, and where control goes from jumps and branches.
use Rattle.std.proofs.Common.{◌≡◌, ◌≢◌, ℕ, ◌+◌, ◌-◌, ◌*◌, ◌<◌, ◌≤◌, ◌⊎◌, inl, inr, sym, ap, ◌∙◌, subst, arith, refl, List, [], ◌∷◌, ◌++◌, length, Bool, true, false, not}
use Rattle.memory_map.specs.Maps.{most_words}
use Rattle.memory_map.proofs.Facts.{map_facts}
use Rattle.rv_code.specs.declared.instruction.Instruction.{Instruction}
use Rattle.rv_code.specs.declared.instruction.Instruction.TheVariants as instruction
use Rattle.rv_code.specs.declared.instruction.BranchOperation.{BranchOperation}
use Rattle.rv_code.specs.declared.instruction.BranchOperation.TheVariants.{Beq, Bne, Blt, Bge, Bltu, Bgeu}
use Rattle.rv_machine.specs.State.{MachineState, word}
use Rattle.rv_machine.specs.Table.{taken}
use Rattle.rv_emit_words.specs.declared.piece.Piece.{Piece}
use Rattle.rv_emit_words.specs.declared.piece.Piece.TheVariants as piece
use Rattle.rv_emit_steps.specs.Holding.{Holding}
use Rattle.rv_emit_steps.specs.Programs.{Program, address_of, distance, CodeAt, behind, Stands}
use Rattle.rv_emit_steps.specs.Points.{Reaches}
use Rattle.rv_emit_words.specs.Constants.{high_part}
use Rattle.rv_emit_steps.specs.Doing.{writing}
use Rattle.rv_emit_steps.proofs.LongJumping.{long_call_does, long_jump_does}
use Rattle.rv_emit_steps.proofs.Registers.{register_other}
use Rattle.rv_emit_steps.proofs.Placing.{reaches_then}
use Rattle.rv_emit_steps.proofs.Standing.{index_low}
use Rattle.rv_emit_steps.proofs.Jumping.{distance_leads, jump_does, branch_taken, branch_not_taken}
use Rattle.rv_emit_code.specs.Ends.{words, begins_behind, opposite}
use Rattle.rv_emit_runs.specs.Pieces.{Targets, IsJump, IsNear, IsOver, PieceAt, PiecesAt}

-- ---- Words among pieces

pub behind_none : (code : List Instruction) → behind false code ≡ false
behind_none [] = refl
behind_none (x ∷ code) = refl

pub begins_is : (b : Bool) (code : List Instruction) → begins_behind b code ≡ behind b code
begins_is b [] = refl
begins_is b (x ∷ code) = refl

-- Words that stand as pieces, and others behind them.
pub record WordsFirst (p : Program) (t : Targets) (i : ℕ) (b : Bool) (code : List Instruction) (rest : List Piece) (j : ℕ) : Type 0 where
  pub code_there : CodeAt p i b code
  pub rest_there : PiecesAt p t (i + length code) (behind b code) rest j

pub words_first : (p : Program) (t : Targets) (i : ℕ) (b : Bool) (code : List Instruction) (rest : List Piece) (j : ℕ) → PiecesAt p t i b (words code ++ rest) j → WordsFirst p t i b code rest j
words_first p t i b [] rest j there = let e : i ≡ i + 0 = omega arith in record { code_there = tt; rest_there = subst (λ k. PiecesAt p t k b rest j) e there }
words_first p t i b (x ∷ code) rest j (k, (at, next), more) =
    let e : i + 1 + length code ≡ i + length (x ∷ code) = omega arith in
    let later : WordsFirst p t (i + 1) false code rest j = words_first p t (i + 1) false code rest j (subst (λ n. PiecesAt p t n false (words code ++ rest) j) next more) in
    record {
      code_there = (at, later.code_there);
      rest_there = subst (λ c. PiecesAt p t (i + length (x ∷ code)) c rest j) (behind_none code) (subst (λ n. PiecesAt p t n (behind false code) rest j) e later.rest_there);
    }

-- Words alone.
pub words_alone : (p : Program) (t : Targets) (i : ℕ) (b : Bool) (code : List Instruction) (j : ℕ) → PiecesAt p t i b (words code) j → CodeAt p i b code × (j ≡ i + length code)
words_alone p t i b [] j there = (tt, there ∙ (omega arith))
words_alone p t i b (x ∷ code) j (k, (at, next), more) =
    let later = words_alone p t (i + 1) false code j (subst (λ n. PiecesAt p t n false (words code) j) next more) in
    ((at, later.0), later.1 ∙ (omega arith))

-- ---- Branches

-- The opposite branch is taken where the branch is not.
pub opposite_taken : (op : BranchOperation) (x y : ℕ) → taken (opposite op) x y ≡ not (taken op x y)
unfolding taken
opposite_taken Beq x y = refl
opposite_taken Bne x y = sym (twice (taken Beq x y))
  where
    twice : (b : Bool) → not (not b) ≡ b
    twice true = refl
    twice false = refl
opposite_taken Blt x y = refl
opposite_taken Bge x y = sym (twice (taken Blt x y))
  where
    twice : (b : Bool) → not (not b) ≡ b
    twice true = refl
    twice false = refl
opposite_taken Bltu x y = refl
opposite_taken Bgeu x y = sym (twice (taken Bltu x y))
  where
    twice : (b : Bool) → not (not b) ≡ b
    twice true = refl
    twice false = refl

-- What is held differs in t0 alone.
pub record IsButScratch (h g : Holding) : Type 0 where
  pub registers : (r : ℕ) → r ≢ 5 → g.registers r ≡ h.registers r
  pub memory : g.memory ≡ h.memory
  pub input : g.input ≡ h.input
  pub regions : g.regions ≡ h.regions

pub but_none : (h : Holding) → IsButScratch h h
but_none h = record { registers = λ r other. refl; memory = refl; input = refl; regions = refl }

-- In at most so many instructions, unseen, the machine comes to a word of the code, no stop of which was shown, and holds what it held, but for t0.
pub record GoesTo (p : Program) (s : MachineState) (b : Bool) (most to : ℕ) (h : Holding) : Type 0 where
  pub count : ℕ
  pub few : count ≤ most
  pub holding : Holding
  pub same : IsButScratch h holding
  pub reaches : Reaches p count (record { state = s; shown = b }) [] to false holding

-- The words of a branch over a jump.
over_leads : (i j : ℕ) → i < 1000000000 → i ≤ j → j ≤ 1000000000 → word (address_of i + 4 * (j - i)) ≡ address_of j
over_leads i j low le high = omega (arith, low, le, high)

-- A jump goes to its word, in one instruction or in two.
pub jump_goes : (p : Program) (s : MachineState) (i : ℕ) (h : Holding) (b : Bool) (to j : ℕ) → Stands p s i h → IsJump p i b 0 5 to j → to ≤ most_words p.map → GoesTo p s b (j - i) to h
jump_goes p s i h b to j stands (inl (at, next)) fits = record {
  count = 1;
  few = omega (arith, next);
  holding = h;
  same = but_none h;
  reaches = jump_does p s i h to b 0 (distance i to) stands at (distance_leads i to (index_low p i b (instruction.Jal 0 (distance i to)) at) (omega (arith, fits, (map_facts p.map).few)));
}
jump_goes p s i h b to j stands (inr (upper, lower, next)) fits = record {
  count = 2;
  few = omega (arith, next);
  holding = writing 5 (word (address_of i + high_part (distance i to) * 4096)) h;
  same = record {
    registers = λ r other. register_other 5 (word (address_of i + high_part (distance i to) * 4096)) r h.registers other;
    memory = refl;
    input = refl;
    regions = refl;
  };
  reaches = long_jump_does p s i h to b 0 5 stands (omega arith) (index_low p i b (instruction.Auipc 5 (high_part (distance i to))) upper) (omega (arith, fits, (map_facts p.map).few)) upper lower;
}

-- As many may be said to be more.
pub goes_within : (p : Program) (s : MachineState) (b : Bool) (most more to : ℕ) (h : Holding) → most ≤ more → GoesTo p s b most to h → GoesTo p s b more to h
goes_within p s b most more to h le goes = record { count = goes.count; few = let few = goes.few in omega (arith, le, few); holding = goes.holding; same = goes.same; reaches = goes.reaches }

-- A piece has a word, and pieces have no fewer words than they are.
pub jump_long : (p : Program) (i : ℕ) (b : Bool) (r q to j : ℕ) → IsJump p i b r q to j → i + 1 ≤ j
jump_long p i b r q to j (inl (at, next)) = omega (arith, next)
jump_long p i b r q to j (inr (upper, lower, next)) = omega (arith, next)

pub jump_short : (p : Program) (i : ℕ) (b : Bool) (r q to j : ℕ) → IsJump p i b r q to j → j ≤ i + 2
jump_short p i b r q to j (inl (at, next)) = omega (arith, next)
jump_short p i b r q to j (inr (upper, lower, next)) = omega (arith, next)

pub piece_long : (p : Program) (t : Targets) (i : ℕ) (b : Bool) (x : Piece) (j : ℕ) → PieceAt p t i b x j → i + 1 ≤ j
piece_long p t i b (piece.Word x) j (at, next) = omega (arith, next)
piece_long p t i b (piece.Jump to) j at = jump_long p i b 0 5 (t.label to.0) j at
piece_long p t i b (piece.Branch op l r to) j (inl (at, next)) = omega (arith, next)
piece_long p t i b (piece.Branch op l r to) j (inr (at, jump)) = omega (arith, jump_long p (i + 1) false 0 5 (t.label to.0) j jump)
piece_long p t i b (piece.Call f) j at = jump_long p i b 1 1 (t.function f) j at

pub pieces_long : (p : Program) (t : Targets) (i : ℕ) (b : Bool) (all : List Piece) (j : ℕ) → PiecesAt p t i b all j → i + length all ≤ j
pieces_long p t i b [] j end = omega (arith, end)
pieces_long p t i b (x ∷ more) j (k, at, rest) = let one = piece_long p t i b x k at in let later = pieces_long p t k false more j rest in omega (arith, one, later)

-- A branch that is taken goes to its label, in as many instructions as it has words.
pub taken_goes : (p : Program) (t : Targets) (s : MachineState) (i : ℕ) (h : Holding) (b : Bool) (op : BranchOperation) (l r to j : ℕ) → Stands p s i h → (IsNear p t i b op l r to j) ⊎ (IsOver p t i b op l r to j) → t.label to ≤ most_words p.map
    → taken op (h.registers l) (h.registers r) ≡ true → GoesTo p s b (j - i) (t.label to) h
taken_goes p t s i h b op l r to j stands (inl (at, next)) fits test = record {
  count = 1;
  few = omega (arith, next);
  holding = h;
  same = but_none h;
  reaches = branch_taken p s i h (t.label to) b op l r (distance i (t.label to)) stands at test
      (distance_leads i (t.label to) (index_low p i b (instruction.Branch op l r (distance i (t.label to))) at) (omega (arith, fits, (map_facts p.map).few)));
}
taken_goes p t s i h b op l r to j stands (inr (at, jump)) fits test =
    let first = branch_not_taken p s i h b (opposite op) l r (4 * (j - i)) stands at (opposite_taken op (h.registers l) (h.registers r) ∙ ap not test) in
    let second = jump_goes p first.state (i + 1) h false (t.label to) j first.stands jump fits in
    let long = jump_long p (i + 1) false 0 5 (t.label to) j jump in
    let few = second.few in
    record {
      count = 1 + second.count;
      few = omega (arith, few, long);
      holding = second.holding;
      same = second.same;
      reaches = reaches_then p 1 second.count (record { state = s; shown = b }) [] (i + 1) false h [] (t.label to) false second.holding first second.reaches;
    }

-- One that is not goes on behind it.
pub not_taken_goes : (p : Program) (t : Targets) (s : MachineState) (i : ℕ) (h : Holding) (b : Bool) (op : BranchOperation) (l r to j : ℕ) → Stands p s i h → (IsNear p t i b op l r to j) ⊎ (IsOver p t i b op l r to j) → j ≤ 1000000000
    → taken op (h.registers l) (h.registers r) ≡ false → Reaches p 1 (record { state = s; shown = b }) [] j false h
not_taken_goes p t s i h b op l r to j stands (inl (at, next)) high test =
    subst (λ n. Reaches p 1 (record { state = s; shown = b }) [] n false h) (sym next) (branch_not_taken p s i h b op l r (distance i (t.label to)) stands at test)
not_taken_goes p t s i h b op l r to j stands (inr (at, jump)) high test =
    let long = jump_long p (i + 1) false 0 5 (t.label to) j jump in
    branch_taken p s i h j b (opposite op) l r (4 * (j - i)) stands at (opposite_taken op (h.registers l) (h.registers r) ∙ ap not test)
    (over_leads i j (index_low p i b (instruction.Branch (opposite op) l r (4 * (j - i))) at) (omega (arith, long)) high)

-- ---- Calls

-- A call goes to its word, with the address behind it in ra, in as many instructions as it has words.
pub call_goes : (p : Program) (s : MachineState) (i : ℕ) (h : Holding) (b : Bool) (to j : ℕ) → Stands p s i h → IsJump p i b 1 1 to j → to ≤ 1000000000 → Reaches p (j - i) (record { state = s; shown = b }) [] to false (writing 1 (address_of j) h)
call_goes p s i h b to j stands (inl (at, next)) fits =
    let one : 1 ≡ j - i = omega (arith, next) in
    subst (λ n. Reaches p n (record { state = s; shown = b }) [] to false (writing 1 (address_of j) h)) one
    (subst (λ k. Reaches p 1 (record { state = s; shown = b }) [] to false (writing 1 (address_of k) h)) (sym next)
    (jump_does p s i h to b 1 (distance i to) stands at (distance_leads i to (index_low p i b (instruction.Jal 1 (distance i to)) at) fits)))
call_goes p s i h b to j stands (inr (upper, lower, next)) fits =
    let two : 2 ≡ j - i = omega (arith, next) in
    let last : i + 1 + 1 ≡ j = omega (arith, next) in
    subst (λ n. Reaches p n (record { state = s; shown = b }) [] to false (writing 1 (address_of j) h)) two
    (subst (λ k. Reaches p 2 (record { state = s; shown = b }) [] to false (writing 1 (address_of k) h)) last
    (long_call_does p s i h to b 1 stands (omega arith) (index_low p i b (instruction.Auipc 1 (high_part (distance i to))) upper) fits upper lower))
