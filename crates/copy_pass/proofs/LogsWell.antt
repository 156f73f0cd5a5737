-- WHAT COPY PROPAGATION LOGS: few changes, each in a place of the unit, of a variable of it.
use Rattle.std.proofs.Common.{◌≡◌, ℕ, ◌+◌, ◌^◌, ◌<◌, ◌≤◌, Some, None, List, [], ◌∷◌, ◌++◌, length, refl, sym, ap, ◌∙◌, subst, arith}
use Rattle.std.specs.Prelude.{option_map, slice_get}
use Rattle.std.specs.List.{AllByRecursion}
use Rattle.std.proofs.lemmas.List.{length-append, length-map}
use Rattle.std.proofs.lemmas.Option.{same_Some, slice_get_within}
use Rattle.memory_map.specs.declared.map.Room.{Room}
use Rattle.memory_map.specs.declared.map.Room.TheVariants.{Small, Large}
use Rattle.debug_records.specs.declared.change.PassName.{PassName}
use Rattle.debug_records.specs.declared.change.Kind.TheVariants.{Replaced}
use Rattle.graph_core.specs.Bounds.{most_instructions, most_blocks, most_arguments}
use Rattle.graph_core.specs.Graphs.{Operand, Name, Constant, StaticAddress, Location, Automatic, Static, At, Instruction, Marker, Note, Move, Operate, Truncate, Same, Address, Load, Store, Zero, CopyWords, Call, End, Jump, Branch, Return, Scalar, Block, Graph, UnitForm}
use Rattle.graph_core.specs.Points.{reads_at}
use Rattle.graph_core.specs.Uses.{names_of, names_of_all, names_of_location, reads_of, reads_of_end}
use Rattle.graph_core.specs.Validity.{IsValid, counts, arguments_in, arguments_of, instructions_of, place_behind, total}
use Rattle.graph_core.specs.WellMarked.{AreWellMarked}
use Rattle.base_laws.proofs.Lists.{all_so}
use Rattle.pass_law.specs.declared.cases.Case.{Case}
use Rattle.pass_law.specs.Changes.{AddsChangesOf, AreCasesOf, IsCaseOf}
use Rattle.pass_law.specs.Logs.{LogsWell, most_changes}
use Rattle.pass_law.proofs.FewCases.{AreApart, all_apart, few_by_key, one_at_most}
use Rattle.pass_law.proofs.LoggedWell.{logged_well, place_marked}
use Rattle.copy_pass.specs.Reads.{IsReplacedRead}

-- ---- How much is read

-- An operand reads one name at most.
few_names : (a : Operand) → length (names_of a) ≤ 1
few_names (Name x) = omega arith
few_names (Constant word) = omega arith
few_names (StaticAddress object offset) = omega arith

-- So does a location.
few_located : (l : Location) → length (names_of_location l) ≤ 1
few_located (Automatic object offset) = omega arith
few_located (Static object) = omega arith
few_located (At a) = few_names a

-- Two operands read two at most.
few_of_two : (xs ys : List ℕ) → length xs ≤ 1 → length ys ≤ 1 → length (xs ++ ys) ≤ 2
few_of_two xs ys one two = (let long = length-append xs ys in omega (arith, long, one, two))

-- Operands read as many names as they are at most.
few_of_all : (all : List Operand) → length (names_of_all all) ≤ length all
few_of_all [] = omega arith
few_of_all (a ∷ all) =
    let long = length-append (names_of a) (names_of_all all) in
    let one = few_names a in
    let more = few_of_all all in
    omega (arith, long, one, more)

-- An instruction that is counted reads two names at most, or its arguments.
few_reads : (i : Instruction) → length (reads_of i) ≤ counts i + counts i + arguments_in i
few_reads (Marker p) = omega arith
few_reads (Note x v) = omega arith
few_reads (Move x a) = (let one = few_names a in omega (arith, one))
few_reads (Operate x o a b) = (let two = few_of_two (names_of a) (names_of b) (few_names a) (few_names b) in omega (arith, two))
few_reads (Truncate x t a) = (let one = few_names a in omega (arith, one))
few_reads (Same x a b) = (let two = few_of_two (names_of a) (names_of b) (few_names a) (few_names b) in omega (arith, two))
few_reads (Address x object) = omega arith
few_reads (Load x e l) = (let one = few_located l in omega (arith, one))
few_reads (Store e l a) = (let two = few_of_two (names_of_location l) (names_of a) (few_located l) (few_names a) in omega (arith, two))
few_reads (Zero object words) = omega arith
few_reads (CopyWords object bytes words) = omega arith
few_reads (Call x f all) = (let most = few_of_all all in omega (arith, most))

-- The end of a block reads two names at most.
few_at_end : (e : End) → length (reads_of_end e) ≤ 2
few_at_end (Jump l) = omega arith
few_at_end (Branch k a b l m) = few_of_two (names_of a) (names_of b) (few_names a) (few_names b)
few_at_end (Return None) = omega arith
few_at_end (Return (Some a)) = (let one = few_names a in omega (arith, one))

-- what is read at the points of a block, its end last
abbrev reads_in : List Instruction → End → List (List ℕ)
reads_in [] e = reads_of_end e ∷ []
reads_in (i ∷ more) e = reads_of i ∷ reads_in more e

-- so much is read in a block
abbrev read_in_block : Block → ℕ
read_in_block b = total (λ (names : List ℕ). length names) (reads_in b.instructions b.end)

-- In a block no more is read than that for all its instructions and its end.
few_in : (all : List Instruction) (e : End) → total (λ (names : List ℕ). length names) (reads_in all e) ≤ total counts all + total counts all + total arguments_in all + 2
few_in [] e = (let two = few_at_end e in omega (arith, two))
few_in (i ∷ all) e =
    let here = few_reads i in
    let more = few_in all e in
    omega (arith, here, more)

-- So it is in blocks.
few_in_blocks : (all : List Block)
    → total read_in_block all ≤ total (λ (b : Block). total counts b.instructions) all + total (λ (b : Block). total counts b.instructions) all + total (λ (b : Block). total arguments_in b.instructions) all + length all + length all
few_in_blocks [] = omega arith
few_in_blocks (b ∷ all) =
    let here = few_in b.instructions b.end in
    let more = few_in_blocks all in
    omega (arith, here, more)

-- So it is in functions.
few_in_graphs : (all : List Graph)
    → total (λ (g : Graph). total read_in_block g.blocks) all ≤ total instructions_of all + total instructions_of all + total arguments_of all + total (λ (g : Graph). length g.blocks) all + total (λ (g : Graph). length g.blocks) all
few_in_graphs [] = omega arith
few_in_graphs (g ∷ all) =
    let here = few_in_blocks g.blocks in
    let more = few_in_graphs all in
    omega (arith, here, more)

-- ---- One read at one point

-- Parts of one list that are as long are the same.
same_front : (xs ys vs ws : List Instruction) → xs ++ ys ≡ vs ++ ws → length xs ≡ length vs → (xs ≡ vs) × (ys ≡ ws)
same_front [] ys [] ws same long = (refl, same)
same_front [] ys (j ∷ vs) ws same long = absurd (omega (arith, long))
same_front (i ∷ xs) ys [] ws same long = absurd (omega (arith, long))
same_front (i ∷ xs) ys (j ∷ vs) ws same long =
    let rest = same_front xs ys vs ws (parts same).1 (omega (arith, long)) in
    (ap (λ k. k ∷ xs) (parts same).0 ∙ ap (λ zs. j ∷ zs) rest.0, rest.1)
  where
    parts : {k l : Instruction} {us zs : List Instruction} → k ∷ us ≡ l ∷ zs → (k ≡ l) × (us ≡ zs)
    parts e = (cc, cc)

-- What is read behind so many instructions.
reads_behind : (before rest : List Instruction) (e : End) → slice_get (reads_in (before ++ rest) e) (length before) ≡ Some (reads_at rest e)
reads_behind [] [] e = refl
reads_behind [] (i ∷ rest) e = refl
reads_behind (j ∷ before) rest e = reads_behind before rest e

-- One for each.
total_ones : (xs : List ℕ) → total (λ x. 1) xs ≡ length xs
total_ones [] = refl
total_ones (x ∷ xs) = (let more = total_ones xs in omega (arith, more))

module _ (g : Graph) where
  -- the reads of the graph that were replaced, whatever the graph after
  abbrev IsOfGraph : ℕ → ℕ × Case → Type 0
  IsOfGraph f c = (c.0 ≡ f) × (h : Graph) × IsReplacedRead g h c.1

  -- those of a block
  abbrev IsOfBlock : (f n : ℕ) → ℕ × Case → Type 0
  IsOfBlock f n c = IsOfGraph f c × (c.1.block ≡ n)

  -- those behind so many instructions of it
  abbrev IsOfIndex : (f n k : ℕ) → ℕ × Case → Type 0
  IsOfIndex f n k c = IsOfBlock f n c × (c.1.index ≡ k)

  -- those of an operand there
  abbrev IsOfOperand : (f n k o : ℕ) → ℕ × Case → Type 0
  IsOfOperand f n k o c = IsOfIndex f n k c × (c.1.operand ≡ o)

  -- The reads of an operand at one point are one.
  same_case : (c d : Case) (h k : Graph) → IsReplacedRead g h c → IsReplacedRead g k d → c.block ≡ d.block → c.index ≡ d.index → c.operand ≡ d.operand → c ≡ d
  same_case c d h k a b number index operand = λ i. record { place = record { 0 = place i }; var = record { 0 = variable i }; block = number i; index = index i; operand = operand i }
    where
      block : a.stood.block ≡ b.stood.block
      block = same_Some a.stood.block b.stood.block (sym a.stood.is ∙ ap (slice_get g.blocks) number ∙ b.stood.is)

      parts : (a.stood.before ≡ b.stood.before) × (a.rest ≡ b.rest)
      parts = same_front a.stood.before a.rest b.stood.before b.rest (sym a.stood.instructions ∙ ap (λ (z : Block). z.instructions) block ∙ b.stood.instructions) (a.index ∙ index ∙ sym b.index)

      ends : a.end ≡ b.end
      ends = a.stood.ends ∙ ap (λ (z : Block). z.end) block ∙ sym b.stood.ends

      place : c.place.0 ≡ d.place.0
      place = same_Some c.place.0 d.place.0 (sym a.stood.place ∙ ap (λ (z : Block). place_behind a.stood.before z.place) block ∙ ap (λ before. place_behind before b.stood.block.place) parts.0 ∙ b.stood.place)

      read : a.x ≡ b.x
      read = same_Some a.x b.x (sym a.other.before ∙ ap (λ l. slice_get (reads_at l a.end) c.operand) parts.1 ∙ ap (λ e. slice_get (reads_at b.rest e) c.operand) ends ∙ ap (slice_get (reads_at b.rest b.end)) operand ∙ b.other.before)

      variable : c.var.0 ≡ d.var.0
      variable = same_Some c.var.0 d.var.0 (sym a.variable ∙ ap (λ x. option_map (λ (s : Scalar). s.variable) (slice_get g.scalars x)) read ∙ b.variable)

  -- ---- How many there are

  module _ (f n : ℕ) (b : Block) (at : slice_get g.blocks n ≡ Some b) where
    -- what is read where one stood
    reads_there : (c : ℕ × Case) (is : IsOfBlock f n c) → slice_get (reads_in b.instructions b.end) c.1.index ≡ Some (reads_at is.0.2.rest is.0.2.end)
    reads_there c is =
        let a = is.0.2 in
        let same : a.stood.block ≡ b = same_Some a.stood.block b (sym a.stood.is ∙ ap (slice_get g.blocks) is.1 ∙ at) in
        sym (ap (λ (z : Block). slice_get (reads_in z.instructions z.end) c.1.index) same)
        ∙ ap (λ all. slice_get (reads_in all a.stood.block.end) c.1.index) a.stood.instructions
        ∙ ap (λ e. slice_get (reads_in (a.stood.before ++ a.rest) e) c.1.index) (sym a.stood.ends)
        ∙ ap (slice_get (reads_in (a.stood.before ++ a.rest) a.end)) (sym a.index)
        ∙ reads_behind a.stood.before a.rest a.end

    -- Of one operand there is one at most.
    one_of_operand : (k o : ℕ) (part : List (ℕ × Case)) → AllByRecursion (IsOfOperand f n k o) part → AreApart part → length part ≤ 1
    one_of_operand k o [] are apart = omega arith
    one_of_operand k o (c ∷ part) are apart = one_at_most c part (all_so (IsOfOperand f n k o) (λ d. c ≡ d) (λ d is. same_pair c d are.0 is) part are.1) apart
      where
        same_pair : (c d : ℕ × Case) → IsOfOperand f n k o c → IsOfOperand f n k o d → c ≡ d
        same_pair c d a e =
            let function : c.0 ≡ d.0 = a.0.0.0.0 ∙ sym e.0.0.0.0 in
            let case : c.1 ≡ d.1 = same_case c.1 d.1 a.0.0.0.1 e.0.0.0.1 a.0.0.0.2 e.0.0.0.2 (a.0.0.1 ∙ sym e.0.0.1) (a.0.1 ∙ sym e.0.1) (a.1 ∙ sym e.1) in
            λ i. (function i, case i)

    -- At one point they are no more than what is read there.
    few_at : (k : ℕ) (names : List ℕ) → slice_get (reads_in b.instructions b.end) k ≡ Some names → (part : List (ℕ × Case)) → AllByRecursion (IsOfIndex f n k) part → AreApart part → length part ≤ length names
    few_at k names there part are apart =
        let most = few_by_key {A = ℕ × Case} (λ (x : ℕ). 1) names (λ c. c.1.operand) (IsOfIndex f n k)
        (λ c is. (let a = is.0.0.2 in
        let same : reads_at a.rest a.end ≡ names = same_Some (reads_at a.rest a.end) names (sym (reads_there c is.0) ∙ ap (slice_get (reads_in b.instructions b.end)) is.1 ∙ there) in
        slice_get_within names c.1.operand a.x (ap (λ l. slice_get l c.1.operand) (sym same) ∙ a.other.before)))
        (λ o x there_too few these no_two. one_of_operand k o few these no_two) part are apart in
        let ones = total_ones names in
        omega (arith, most, ones)

    -- In one block they are no more than what is read in it.
    few_in_block : (part : List (ℕ × Case)) → AllByRecursion (IsOfBlock f n) part → AreApart part → length part ≤ read_in_block b
    few_in_block = few_by_key {A = ℕ × Case} (λ (names : List ℕ). length names) (reads_in b.instructions b.end) (λ c. c.1.index) (IsOfBlock f n)
        (λ c is. slice_get_within (reads_in b.instructions b.end) c.1.index (reads_at is.0.2.rest is.0.2.end) (reads_there c is)) few_at

  -- So it is in one function.
  few_in_graph : (f : ℕ) (part : List (ℕ × Case)) → AllByRecursion (IsOfGraph f) part → AreApart part → length part ≤ total read_in_block g.blocks
  few_in_graph f = few_by_key {A = ℕ × Case} read_in_block g.blocks (λ c. c.1.block) (IsOfGraph f) (λ c is. slice_get_within g.blocks c.1.block is.2.stood.block is.2.stood.is) (few_in_block f)

-- A unit reads less often than changes may be logged.
few_changes : (room : Room) → most_instructions room + most_instructions room + most_arguments room + most_blocks room + most_blocks room ≤ most_changes room
few_changes Small = omega (arith)
few_changes Large = omega (arith)

-- So many are fewer than 2^31.
few_logged : (room : Room) → most_changes room < 2 ^ 31
few_logged Small = omega (arith)
few_logged Large = omega (arith)

module _ (u : UnitForm) (hs : List Graph) (valid : IsValid u) where
  -- a case of a function of the unit
  abbrev IsOfUnit : ℕ × Case → Type 0
  IsOfUnit c = IsCaseOf IsReplacedRead u.graphs hs c

  -- In all functions there are few.
  few : (cases : List (ℕ × Case)) → AllByRecursion IsOfUnit cases → AreApart cases → length cases ≤ most_changes u.room
  few cases are apart =
      let all = few_by_key {A = ℕ × Case} (λ (g : Graph). total read_in_block g.blocks) u.graphs (λ c. c.0) IsOfUnit (λ c is. slice_get_within u.graphs c.0 is.before is.stood)
      (λ f g at part these no_two. few_in_graph g f part (all_so (λ c. IsOfUnit c × (c.0 ≡ f)) (λ c. (c.0 ≡ f) × (h : Graph) × IsReplacedRead g h c.1)
      (λ c is. (is.1, is.0.after, subst (λ h. IsReplacedRead h is.0.after c.1) (same_Some is.0.before g (sym is.0.stood ∙ ap (slice_get u.graphs) is.1 ∙ at)) is.0.case)) part these) no_two)
      cases are apart in
      let read = few_in_graphs u.graphs in
      let instructions = valid.instructions in
      let blocks = valid.blocks in
      let arguments = valid.arguments in
      let most = few_changes u.room in
      omega (arith, all, read, instructions, blocks, arguments, most)

  -- THE READS THAT ARE REPLACED IN A VALID UNIT ARE FEWER THAN 2^31.
  pub few_cases : (cases : List Case) → AreCasesOf IsReplacedRead u.graphs hs cases → length cases < 2 ^ 31
  few_cases cases all =
      let each = all_apart IsOfUnit all.of all.all in
      let most = few all.of each.0 each.1 in
      let same : length cases ≡ length all.of = ap length all.are ∙ length-map all.of (λ (c : ℕ × Case). c.1) in
      let low = few_logged u.room in
      omega (arith, most, same, low)

-- WHAT COPY PROPAGATION LOGS IS LOGGED WELL.
pub copy_logs_well : (u v : UnitForm) (pass : PassName) → AreWellMarked u → AddsChangesOf pass Replaced IsReplacedRead u v → LogsWell pass u v
copy_logs_well u v pass marked changes = logged_well pass Replaced IsReplacedRead u v changes (λ e. absurd cc) (few u v.graphs marked.valid)
    (λ c is. place_marked u marked c.0 is.before is.stood c.1.place.0 c.1.block is.case.rest is.case.end is.case.stood)
    (λ c is. record { function = c.0; graph = is.before; x = is.case.x; is = is.stood; of = is.case.variable })
