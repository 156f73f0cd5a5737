-- The code of a function stands in the code of the machine: its beginning, each of its blocks, and its end.
use Rattle.std.proofs.Common.{◌≡◌, ◌≢◌, ℕ, zero, suc, ◌+◌, ◌<◌, ◌≤◌, ◌⊎◌, inl, inr, ⊎_elim, Bool, Some, List, [], ◌∷◌, ◌++◌, length, map, drop, slice_get, slice_index, sym, ap, ◌∙◌, subst, arith, append_assoc, append-nil}
use Rattle.std.proofs.lemmas.List.{length-append, length-map}
use Rattle.std.proofs.lemmas.Option.{slice_get_within}
use Rattle.graph_core.specs.Graphs.{Block, Graph}
use Rattle.graph_core.specs.Paths.{Among}
use Rattle.graph_core.specs.Uses.{targets_of as end_targets}
use Rattle.rv_emit_words.specs.declared.piece.PlacedPiece.{PlacedPiece}
use Rattle.rv_emit_steps.specs.Programs.{Program}
use Rattle.rv_emit_runs.specs.Pieces.{Targets}
use Rattle.rv_emit_runs.specs.Placed.{PlacedAt}
use Rattle.rv_emit_code.specs.Blocks.{block_code}
use Rattle.rv_emit_sequence.specs.Sequences.{Ground, SequenceForm, Standing, counted, standing_code, standing_pieces, all_pieces, numbered, first_label, first_pieces, last_pieces, AreLabelled, Holds, IsSequenceOf, IsStanding}
use Rattle.rv_emit_layout.specs.declared.reaching.Reach.{Reach}
use Rattle.rv_emit_layout.specs.Layouts.{LayoutForm, label_at, words_before, most_pieces}
use Rattle.rv_emit_runs.specs.Placing.{IsBlockPlaced, IsFunctionPlaced}
use Rattle.rv_emit_runs.specs.EmitPlacedStanding.{targets_of}
use Rattle.rv_emit_runs.proofs.States.{placed_within}
use Rattle.rv_emit_runs.proofs.EmitPlacedBlocks.{PiecesOf, pieces_of_block, two_blocks, StandsAmong, stands_among, first_labelled, numbered_there}
use Rattle.rv_emit_runs.proofs.Covering.{all_below}
use Rattle.rv_emit_runs.proofs.Pieces.{FunctionThere, none_before, part_there}

last_labelled : (g : Ground) (s : SequenceForm) (i : ℕ) (all : List Standing) → AreLabelled g s i all → slice_index s.labels g.end ≡ counted (i + length (all_pieces g s.numbers all))
last_labelled g s i [] labelled = labelled ∙ ap counted (let e : i ≡ i + 0 = omega arith in e)
last_labelled g s i (x ∷ more) labelled =
    let count : length (standing_pieces g s.numbers x) ≡ length (standing_code g x).pieces = length-map (standing_code g x).pieces (numbered (slice_index s.numbers x.number)) in
    let both = length-append (standing_pieces g s.numbers x) (all_pieces g s.numbers more) in
    last_labelled g s (i + length (standing_code g x).pieces) more labelled.2 ∙ ap counted (let e : i + length (standing_code g x).pieces + length (all_pieces g s.numbers more) ≡ i + length (standing_pieces g s.numbers x ++ all_pieces g s.numbers more) = omega (arith, count, both) in e)

first_number : (all : List Standing) (e : ℕ) → slice_index (map (λ (x : Standing). x.number) all) 0 ≡ 0 → e ≡ length all → first_label all e ≡ 0
first_number [] e none last = last
first_number (x ∷ more) e none last = none

-- More pieces have no fewer words.
words_grow : (reaches : List Reach) (pieces : List PlacedPiece) (i j : ℕ) → i ≤ j → words_before reaches pieces i ≤ words_before reaches pieces j
words_grow reaches [] i j le = omega arith
words_grow reaches (x ∷ pieces) zero j le = omega arith
words_grow reaches (x ∷ pieces) (suc i) zero le = absurd (omega (arith, le))
words_grow reaches (x ∷ pieces) (suc i) (suc j) le = let rest = words_grow (drop 1 reaches) pieces i j (omega (arith, le)) in omega (arith, rest)

module _ (p : Program) (owners : List ℕ) (s : SequenceForm) (l : LayoutForm) (first : ℕ) (firsts : List ℕ) (there : FunctionThere p owners s l first firsts) (g : Ground) (f : Graph) (is_main : Bool) (sequence : IsSequenceOf g f is_main s) (last : g.end ≡ length f.blocks) where
  abbrev t : Targets
  t = targets_of owners s l first firsts

  abbrev until : ℕ → ℕ
  until n = first + words_before l.reaches s.pieces (slice_index s.ends n)

  -- A label that is that of so many pieces stands behind their words.
  label_is : (n k : ℕ) → slice_index s.labels n ≡ counted k → k ≤ length s.pieces → first + words_before l.reaches s.pieces k ≡ first + label_at s.labels l.offsets n
  label_is n k e low =
      let few : length s.pieces ≤ most_pieces = there.few in
      let is : slice_index s.labels n ≡ k = e ∙ (omega (arith, low, few)) in
      let offset : label_at s.labels l.offsets n ≡ words_before l.reaches s.pieces k = ap (λ m. slice_index l.offsets m) is ∙ there.layout.offsets k low in
      omega (arith, offset)

  block_placed : (n : ℕ) (b : Block) → slice_get f.blocks n ≡ Some b → IsBlockPlaced p t g sequence.at until n b
  block_placed n b e =
      let low : n < length f.blocks = slice_get_within f.blocks n b e in
      let found : StandsAmong g s f.blocks sequence.at (first_pieces g f is_main) sequence.standing n =
      stands_among g s f.blocks sequence.at sequence.standing n (first_pieces g f is_main) (all_below (length f.blocks) (map (λ (x : Standing). x.number) sequence.standing) sequence.order.once sequence.order.low sequence.order.all n low) sequence.blocks sequence.next sequence.labels in
      placed n b e found
    where
      as_block : (n : ℕ) (b : Block) (x : Standing) → IsStanding g f.blocks sequence.at x → x.block ≡ b → x.known ≡ sequence.at n → PlacedAt p t (t.label n) (standing_code g x).pieces (t.label x.next) → t.label x.next ≡ until n → IsBlockPlaced p t g sequence.at until n b
      as_block n b x is block known at ends = record {
        next = x.next;
        ends = ends;
        loads = x.loads;
        there = subst (λ c. PlacedAt p t (t.label n) (block_code g.storage g.entry g.saved g.size g.end x.next (sequence.at n) x.loads c).pieces (t.label x.next)) block
            (subst (λ k. PlacedAt p t (t.label n) (block_code g.storage g.entry g.saved g.size g.end x.next k x.loads x.block).pieces (t.label x.next)) known at);
        constants = is.loads;
        leads = λ m to. subst (λ c. Holds (block_code g.storage g.entry g.saved g.size g.end x.next (sequence.at n) x.loads c).held (sequence.at m)) block
            (subst (λ k. Holds (block_code g.storage g.entry g.saved g.size g.end x.next k x.loads x.block).held (sequence.at m)) known (is.leads m (subst (λ (c : Block). Among m (end_targets c.end)) (sym block) to)));
      }

      placed : (n : ℕ) (b : Block) → slice_get f.blocks n ≡ Some b → StandsAmong g s f.blocks sequence.at (first_pieces g f is_main) sequence.standing n → IsBlockPlaced p t g sequence.at until n b
      placed n b e found =
          let x : Standing = found.one in
          let pieces : s.pieces ≡ found.front ++ (standing_pieces g s.numbers x ++ (found.back ++ last_pieces g)) =
          sequence.pieces ∙ ap (λ q. q ++ last_pieces g) found.pieces
          ∙ append_assoc found.front (standing_pieces g s.numbers x ++ found.back) (last_pieces g) ∙ ap (λ q. found.front ++ q) (append_assoc (standing_pieces g s.numbers x) found.back (last_pieces g)) in
          let count : length (standing_pieces g s.numbers x) ≡ length (standing_code g x).pieces = length-map (standing_code g x).pieces (numbered (slice_index s.numbers x.number)) in
          let total = ap (λ (q : List PlacedPiece). length q) pieces ∙ length-append found.front (standing_pieces g s.numbers x ++ (found.back ++ last_pieces g)) in
          let inner = length-append (standing_pieces g s.numbers x) (found.back ++ last_pieces g) in
          let from : first + words_before l.reaches s.pieces (length found.front) ≡ t.label n = label_is n (length found.front) (ap (λ m. slice_index s.labels m) (sym found.number) ∙ found.label) (omega (arith, total)) in
          let to : first + words_before l.reaches s.pieces (length found.front + length (standing_pieces g s.numbers x)) ≡ t.label x.next =
          ap (λ m. first + words_before l.reaches s.pieces (length found.front + m)) count ∙ label_is x.next (length found.front + length (standing_code g x).pieces) found.next (omega (arith, total, inner, count)) in
          let at : PlacedAt p t (t.label n) (standing_pieces g s.numbers x) (t.label x.next) =
          subst (λ j. PlacedAt p t (t.label n) (standing_pieces g s.numbers x) j) to (subst (λ i. PlacedAt p t i (standing_pieces g s.numbers x) (first + words_before l.reaches s.pieces (length found.front + length (standing_pieces g s.numbers x)))) from
          (part_there p owners s l first firsts there found.front (standing_pieces g s.numbers x) (found.back ++ last_pieces g) pieces)) in
          let end_is : slice_index s.ends n ≡ length found.front + length (standing_pieces g s.numbers x) =
          ap (λ m. slice_index s.ends m) (sym found.number) ∙ found.end ∙ (let low : length s.pieces ≤ most_pieces = there.few in omega (arith, total, inner, count, low)) in
          let ends : t.label x.next ≡ until n = sym to ∙ ap (λ m. first + words_before l.reaches s.pieces m) (sym end_is) in
          let block : x.block ≡ b = (let both : Some x.block ≡ Some b = sym found.is.block ∙ ap (λ m. slice_get f.blocks m) found.number ∙ e in cc) in
          let known : x.known ≡ sequence.at n = found.is.known ∙ ap (λ m. sequence.at m) found.number in
          as_block n b x found.is block known (numbered_there p t (t.label n) (slice_index s.numbers x.number) (standing_code g x).pieces (t.label x.next) at) ends

  -- ---- Where it begins and ends, and its blocks in their order

  whole_count : length s.pieces ≡ length (first_pieces g f is_main ++ all_pieces g s.numbers sequence.standing) + length (last_pieces g)
  whole_count = ap (λ (q : List PlacedPiece). length q) sequence.pieces ∙ length-append (first_pieces g f is_main ++ all_pieces g s.numbers sequence.standing) (last_pieces g)

  front_count : length (first_pieces g f is_main ++ all_pieces g s.numbers sequence.standing) ≡ length (first_pieces g f is_main) + length (all_pieces g s.numbers sequence.standing)
  front_count = length-append (first_pieces g f is_main) (all_pieces g s.numbers sequence.standing)

  begin_is : first + words_before l.reaches s.pieces (length (first_pieces g f is_main)) ≡ t.label 0
  begin_is =
      let total = whole_count in
      let both = front_count in
      let count : length sequence.standing ≡ length f.blocks = sym (length-map sequence.standing (λ (x : Standing). x.number)) ∙ sequence.order.all in
      let zero_first : slice_index s.labels 0 ≡ counted (length (first_pieces g f is_main)) =
      ap (λ m. slice_index s.labels m) (sym (first_number sequence.standing g.end sequence.order.first (last ∙ sym count))) ∙ first_labelled g s (length (first_pieces g f is_main)) sequence.standing sequence.labels in
      label_is 0 (length (first_pieces g f is_main)) zero_first (omega (arith, total, both))

  end_is : first + words_before l.reaches s.pieces (length (first_pieces g f is_main ++ all_pieces g s.numbers sequence.standing)) ≡ t.label g.end
  end_is =
      let total = whole_count in
      let both = front_count in
      label_is g.end (length (first_pieces g f is_main ++ all_pieces g s.numbers sequence.standing)) (last_labelled g s (length (first_pieces g f is_main)) sequence.standing sequence.labels ∙ ap counted (sym both)) (omega (arith, total))

  among_all : (n : ℕ) → n < length f.blocks → Among n (map (λ (x : Standing). x.number) sequence.standing)
  among_all n low = all_below (length f.blocks) (map (λ (x : Standing). x.number) sequence.standing) sequence.order.once sequence.order.low sequence.order.all n low

  at_label : (n low high : ℕ) (x : PiecesOf s low high n) → high ≤ length s.pieces → t.label n ≡ first + words_before l.reaches s.pieces x.from
  at_label n low high x le = let below = x.below in sym (label_is n x.from x.label (omega (arith, below, le)))

  at_until : (n low high : ℕ) (x : PiecesOf s low high n) → high ≤ length s.pieces → until n ≡ first + words_before l.reaches s.pieces (x.from + x.count)
  at_until n low high x le =
      let few : length s.pieces ≤ most_pieces = there.few in
      let below = x.below in
      let is : slice_index s.ends n ≡ x.from + x.count = x.end ∙ (omega (arith, below, le, few)) in
      ap (λ m. first + words_before l.reaches s.pieces m) is

  blocks_inside : (n : ℕ) → n < length f.blocks → (t.label 0 ≤ t.label n) × (t.label n ≤ until n) × (until n ≤ t.label g.end)
  blocks_inside n low =
      let total = whole_count in
      let both = front_count in
      let x = pieces_of_block g s (length (first_pieces g f is_main)) sequence.standing n sequence.labels (among_all n low) in
      let high : length (first_pieces g f is_main) + length (all_pieces g s.numbers sequence.standing) ≤ length s.pieces = omega (arith, total, both) in
      let label = at_label n (length (first_pieces g f is_main)) (length (first_pieces g f is_main) + length (all_pieces g s.numbers sequence.standing)) x high in
      let ends = at_until n (length (first_pieces g f is_main)) (length (first_pieces g f is_main) + length (all_pieces g s.numbers sequence.standing)) x high in
      let above = words_grow l.reaches s.pieces (length (first_pieces g f is_main)) x.from x.above in
      let long = words_grow l.reaches s.pieces x.from (x.from + x.count) (omega arith) in
      let under = words_grow l.reaches s.pieces (x.from + x.count) (length (first_pieces g f is_main ++ all_pieces g s.numbers sequence.standing)) (let most = x.below in omega (arith, most, both)) in
      let begin = begin_is in
      let end = end_is in
      (omega (arith, begin, above, label), omega (arith, label, ends, long), omega (arith, ends, under, end))

  blocks_apart : (i j : ℕ) → i < length f.blocks → j < length f.blocks → i ≢ j → (until i ≤ t.label j) ⊎ (until j ≤ t.label i)
  blocks_apart i j a b other =
      let total = whole_count in
      let both = front_count in
      let two = two_blocks g s (length (first_pieces g f is_main)) sequence.standing i j sequence.labels (among_all i a) (among_all j b) other in
      let x = two.0.one in
      let y = two.0.two in
      let high : two.0.high ≤ length s.pieces = let most = two.1 in omega (arith, most, total, both) in
      let li = at_label i two.0.low two.0.high x high in
      let lj = at_label j two.0.low two.0.high y high in
      let ui = at_until i two.0.low two.0.high x high in
      let uj = at_until j two.0.low two.0.high y high in
      ⊎_elim (λ (le : x.from + x.count ≤ y.from). let grows = words_grow l.reaches s.pieces (x.from + x.count) y.from le in inl (omega (arith, grows, ui, lj)))
      (λ (le : y.from + y.count ≤ x.from). let grows = words_grow l.reaches s.pieces (y.from + y.count) x.from le in inr (omega (arith, grows, uj, li)))
      two.0.apart

  begins_there : PlacedAt p t first (first_pieces g f is_main) (t.label 0)
  begins_there =
      subst (λ j. PlacedAt p t first (first_pieces g f is_main) j) begin_is (subst (λ i. PlacedAt p t i (first_pieces g f is_main) (first + words_before l.reaches s.pieces (length (first_pieces g f is_main)))) (omega (arith, none_before l.reaches s.pieces))
      (subst (λ n. PlacedAt p t (first + words_before l.reaches s.pieces 0) (first_pieces g f is_main) (first + words_before l.reaches s.pieces n)) (none_more (length (first_pieces g f is_main)))
      (part_there p owners s l first firsts there [] (first_pieces g f is_main) (all_pieces g s.numbers sequence.standing ++ last_pieces g) (sequence.pieces ∙ append_assoc (first_pieces g f is_main) (all_pieces g s.numbers sequence.standing) (last_pieces g)))))
    where
      none_more : (n : ℕ) → 0 + n ≡ n
      none_more n = omega arith

  begins_ordered : (first ≤ t.label 0) × (t.label 0 ≤ t.label g.end)
  begins_ordered =
      let within = placed_within p t first (first_pieces g f is_main) (t.label 0) begins_there in
      let both = front_count in
      let grows = words_grow l.reaches s.pieces (length (first_pieces g f is_main)) (length (first_pieces g f is_main ++ all_pieces g s.numbers sequence.standing)) (omega (arith, both)) in
      let begin = begin_is in
      let end = end_is in
      (within, omega (arith, begin, end, grows))

  -- All of it.
  pub function_placed : IsFunctionPlaced p t g f is_main (λ n. first + words_before l.reaches s.pieces (slice_index s.ends n)) first (first + words_before l.reaches s.pieces (length s.pieces))
  function_placed =
      let front : List PlacedPiece = first_pieces g f is_main in
      let middle : List PlacedPiece = all_pieces g s.numbers sequence.standing in
      let total = whole_count in
      record {
        at = sequence.at;
        start = sequence.start;
        constants = sequence.constants;
        begins = begins_there;
        blocks = block_placed;
        ends = subst (λ i. PlacedAt p t i (last_pieces g) (first + words_before l.reaches s.pieces (length s.pieces))) end_is
            (subst (λ j. PlacedAt p t (first + words_before l.reaches s.pieces (length (front ++ middle))) (last_pieces g) (first + words_before l.reaches s.pieces j)) (sym total)
            (part_there p owners s l first firsts there (front ++ middle) (last_pieces g) [] (sequence.pieces ∙ ap (λ q. (front ++ middle) ++ q) (sym (append-nil (last_pieces g))))));
        ordered = begins_ordered;
        inside = blocks_inside;
        apart = blocks_apart;
      }
