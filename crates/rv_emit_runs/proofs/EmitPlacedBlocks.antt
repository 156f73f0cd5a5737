-- The parts of a function: where each block stands among its pieces.
use Rattle.std.proofs.Common.{◌≡◌, ◌≢◌, ℕ, ◌+◌, ◌≤◌, ◌⊎◌, inl, inr, List, [], ◌∷◌, ◌++◌, length, map, slice_index, refl, sym, ap, ◌∙◌, subst, arith, append_assoc}
use Rattle.std.specs.List.{AllByRecursion}
use Rattle.std.proofs.lemmas.List.{length-append, length-map}
use Rattle.graph_core.specs.Graphs.{Block}
use Rattle.graph_core.specs.Paths.{Among, front, behind}
use Rattle.rv_emit_words.specs.declared.piece.Held.{Held}
use Rattle.rv_emit_words.specs.declared.piece.PlacedPiece.{PlacedPiece}
use Rattle.rv_emit_steps.specs.Programs.{Program}
use Rattle.rv_emit_runs.specs.Pieces.{Targets}
use Rattle.rv_emit_runs.specs.Placed.{PlacedAt}
use Rattle.rv_emit_sequence.specs.Sequences.{Ground, SequenceForm, Standing, counted, standing_code, standing_pieces, all_pieces, numbered, first_label, AreInARow, AreLabelled, IsStanding}

-- Pieces stand whichever instructions they are numbered for.
pub numbered_there : (p : Program) (t : Targets) (i n : ℕ) (pieces : List PlacedPiece) (j : ℕ) → PlacedAt p t i (map (numbered n) pieces) j → PlacedAt p t i pieces j
numbered_there p t i n [] j there = there
numbered_there p t i n (x ∷ more) j (k, at, of, rest) = (k, at, of, numbered_there p t k n more j rest)

-- A block stands among blocks: as itself, between others, and what stands behind it is what is said to.
pub record StandsAmong (g : Ground) (s : SequenceForm) (blocks : List Block) (at : ℕ → List Held) (before : List PlacedPiece) (all : List Standing) (l : ℕ) : Type 0 where
  pub one : Standing
  pub number : one.number ≡ l
  pub is : IsStanding g blocks at one
  pub front : List PlacedPiece
  pub back : List PlacedPiece
  pub pieces : before ++ all_pieces g s.numbers all ≡ front ++ (standing_pieces g s.numbers one ++ back)
  pub label : slice_index s.labels one.number ≡ counted (length front)
  pub end : slice_index s.ends one.number ≡ counted (length front + length (standing_code g one).pieces)
  pub next : slice_index s.labels one.next ≡ counted (length front + length (standing_code g one).pieces)

-- What stands first has the label of what stands there.
pub first_labelled : (g : Ground) (s : SequenceForm) (i : ℕ) (all : List Standing) → AreLabelled g s i all → slice_index s.labels (first_label all g.end) ≡ counted i
first_labelled g s i [] labelled = labelled
first_labelled g s i (x ∷ more) labelled = labelled.0

pub stands_among : (g : Ground) (s : SequenceForm) (blocks : List Block) (at : ℕ → List Held) (all : List Standing) (l : ℕ) (before : List PlacedPiece) → Among l (map (λ (x : Standing). x.number) all) → AllByRecursion (IsStanding g blocks at) all → AreInARow g.end all → AreLabelled g s (length before) all → StandsAmong g s blocks at before all l
stands_among g s blocks at [] l before there ok row labelled = elim there [ ]
stands_among g s blocks at (x ∷ more) l before there ok row labelled =
    by_place l (λ m later e. stands_among g s blocks at more l (before ++ standing_pieces g s.numbers x) (subst (λ n. Among n (map (λ (x : Standing). x.number) more)) e later) ok.1 row.1 (subst (λ n. AreLabelled g s n more) (sym count) labelled.2)) there refl
  where
    count : length (before ++ standing_pieces g s.numbers x) ≡ length before + length (standing_code g x).pieces
    count = length-append before (standing_pieces g s.numbers x) ∙ ap (λ n. length before + n) (length-map (standing_code g x).pieces (numbered (slice_index s.numbers x.number)))

    by_place : (m : ℕ) → ((m : ℕ) → Among m (map (λ (x : Standing). x.number) more) → m ≡ l → StandsAmong g s blocks at (before ++ standing_pieces g s.numbers x) more l) → Among m (x.number ∷ map (λ (x : Standing). x.number) more) → m ≡ l → StandsAmong g s blocks at before (x ∷ more) l
    by_place m rest front e = record {
      one = x;
      number = e;
      is = ok.0;
      front = before;
      back = all_pieces g s.numbers more;
      pieces = refl;
      label = labelled.0;
      end = labelled.1;
      next = ap (λ n. slice_index s.labels n) row.0 ∙ first_labelled g s (length before + length (standing_code g x).pieces) more labelled.2;
    }
    by_place m rest (behind later) e =
        let found : StandsAmong g s blocks at (before ++ standing_pieces g s.numbers x) more l = rest m later e in
        record {
          one = found.one;
          number = found.number;
          is = found.is;
          front = found.front;
          back = found.back;
          pieces = sym (append_assoc before (standing_pieces g s.numbers x) (all_pieces g s.numbers more)) ∙ found.pieces;
          label = found.label;
          end = found.end;
          next = found.next;
        }

-- ---- Their order

-- A block has its pieces from an index on, behind one and before another.
pub record PiecesOf (s : SequenceForm) (low high n : ℕ) : Type 0 where
  pub from : ℕ
  pub count : ℕ
  pub label : slice_index s.labels n ≡ counted from
  pub end : slice_index s.ends n ≡ counted (from + count)
  pub above : low ≤ from
  pub below : from + count ≤ high

pieces_within : (s : SequenceForm) (low low2 high high2 n : ℕ) → low2 ≤ low → high ≤ high2 → PiecesOf s low high n → PiecesOf s low2 high2 n
pieces_within s low low2 high high2 n a b x = record { from = x.from; count = x.count; label = x.label; end = x.end; above = let one = x.above in omega (arith, a, one); below = let one = x.below in omega (arith, b, one) }

-- What blocks have from the first on.
row_length : (g : Ground) (s : SequenceForm) (x : Standing) (more : List Standing) → length (all_pieces g s.numbers (x ∷ more)) ≡ length (standing_code g x).pieces + length (all_pieces g s.numbers more)
row_length g s x more =
    let both = length-append (standing_pieces g s.numbers x) (all_pieces g s.numbers more) in
    let count : length (standing_pieces g s.numbers x) ≡ length (standing_code g x).pieces = length-map (standing_code g x).pieces (numbered (slice_index s.numbers x.number)) in
    omega (arith, both, count)

first_pieces_of : (g : Ground) (s : SequenceForm) (x : Standing) (more : List Standing) (i n : ℕ) → AreLabelled g s i (x ∷ more) → n ≡ x.number → PiecesOf s i (i + length (standing_code g x).pieces) n
first_pieces_of g s x more i n labelled e = record {
  from = i;
  count = length (standing_code g x).pieces;
  label = ap (λ m. slice_index s.labels m) e ∙ labelled.0;
  end = ap (λ m. slice_index s.ends m) e ∙ labelled.1;
  above = omega arith;
  below = omega arith;
}

pub pieces_of_block : (g : Ground) (s : SequenceForm) (i : ℕ) (all : List Standing) (n : ℕ) → AreLabelled g s i all → Among n (map (λ (x : Standing). x.number) all) → PiecesOf s i (i + length (all_pieces g s.numbers all)) n
pieces_of_block g s i [] n labelled among = elim among [ ]
pieces_of_block g s i (x ∷ more) n labelled among = by_place n among refl (λ m a. pieces_of_block g s (i + length (standing_code g x).pieces) more m labelled.2 a)
  where
    by_place : (m : ℕ) → Among m (x.number ∷ map (λ (y : Standing). y.number) more) → m ≡ n
        → ((k : ℕ) → Among k (map (λ (y : Standing). y.number) more) → PiecesOf s (i + length (standing_code g x).pieces) (i + length (standing_code g x).pieces + length (all_pieces g s.numbers more)) k)
        → PiecesOf s i (i + length (all_pieces g s.numbers (x ∷ more))) n
    by_place m front e later =
        let long = row_length g s x more in
        pieces_within s i i (i + length (standing_code g x).pieces) (i + length (all_pieces g s.numbers (x ∷ more))) n (omega arith) (omega (arith, long)) (first_pieces_of g s x more i n labelled (sym e))
    by_place m (behind a) e later =
        let long = row_length g s x more in
        pieces_within s (i + length (standing_code g x).pieces) i (i + length (standing_code g x).pieces + length (all_pieces g s.numbers more)) (i + length (all_pieces g s.numbers (x ∷ more))) n (omega arith) (omega (arith, long)) (subst (λ k. PiecesOf s (i + length (standing_code g x).pieces) (i + length (standing_code g x).pieces + length (all_pieces g s.numbers more)) k) e (later m a))

-- The pieces of one block stand before those of another, or behind them.
pub record TwoBlocks (s : SequenceForm) (n m : ℕ) : Type 0 where
  pub low : ℕ
  pub high : ℕ
  pub one : PiecesOf s low high n
  pub two : PiecesOf s low high m
  pub apart : (one.from + one.count ≤ two.from) ⊎ (two.from + two.count ≤ one.from)

pub two_blocks : (g : Ground) (s : SequenceForm) (i : ℕ) (all : List Standing) (n m : ℕ) → AreLabelled g s i all → Among n (map (λ (x : Standing). x.number) all) → Among m (map (λ (x : Standing). x.number) all) → n ≢ m
    → (t : TwoBlocks s n m) × (t.high ≤ i + length (all_pieces g s.numbers all))
unfolding pieces_within first_pieces_of
two_blocks g s i [] n m labelled a b other = elim a [ ]
two_blocks g s i (x ∷ more) n m labelled a b other = by_places n m a b refl refl (λ ka kb p q away. two_blocks g s (i + length (standing_code g x).pieces) more ka kb labelled.2 p q away)
  where
    row_end : i + length (standing_code g x).pieces + length (all_pieces g s.numbers more) ≡ i + length (all_pieces g s.numbers (x ∷ more))
    row_end = let long = row_length g s x more in omega (arith, long)

    behind_of : (k : ℕ) → Among k (map (λ (y : Standing). y.number) more) → PiecesOf s (i + length (standing_code g x).pieces) (i + length (all_pieces g s.numbers (x ∷ more))) k
    behind_of k p = subst (λ z. PiecesOf s (i + length (standing_code g x).pieces) z k) row_end (pieces_of_block g s (i + length (standing_code g x).pieces) more k labelled.2 p)

    lower : (k : ℕ) → PiecesOf s (i + length (standing_code g x).pieces) (i + length (all_pieces g s.numbers (x ∷ more))) k → PiecesOf s i (i + length (all_pieces g s.numbers (x ∷ more))) k
    lower k p = pieces_within s (i + length (standing_code g x).pieces) i (i + length (all_pieces g s.numbers (x ∷ more))) (i + length (all_pieces g s.numbers (x ∷ more))) k (omega arith) (omega arith) p

    first_of : (k : ℕ) → k ≡ x.number → PiecesOf s i (i + length (all_pieces g s.numbers (x ∷ more))) k
    first_of k e = let long = row_length g s x more in pieces_within s i i (i + length (standing_code g x).pieces) (i + length (all_pieces g s.numbers (x ∷ more))) k (omega arith) (omega (arith, long)) (first_pieces_of g s x more i k labelled e)

    by_places : (j k : ℕ) → Among j (x.number ∷ map (λ (y : Standing). y.number) more) → Among k (x.number ∷ map (λ (y : Standing). y.number) more) → j ≡ n → k ≡ m
        → ((ka kb : ℕ) → Among ka (map (λ (y : Standing). y.number) more) → Among kb (map (λ (y : Standing). y.number) more) → ka ≢ kb → (t : TwoBlocks s ka kb) × (t.high ≤ i + length (standing_code g x).pieces + length (all_pieces g s.numbers more)))
        → (t : TwoBlocks s n m) × (t.high ≤ i + length (all_pieces g s.numbers (x ∷ more)))
    by_places j k front front ej ek rest = absurd (other (sym ej ∙ ek))
    by_places j k front (behind q) ej ek rest =
        let two = behind_of m (subst (λ z. Among z (map (λ (y : Standing). y.number) more)) ek q) in
        (record { low = i; high = i + length (all_pieces g s.numbers (x ∷ more)); one = first_of n (sym ej); two = lower m two; apart = inl two.above }, omega arith)
    by_places j k (behind p) front ej ek rest =
        let one = behind_of n (subst (λ z. Among z (map (λ (y : Standing). y.number) more)) ej p) in
        (record { low = i; high = i + length (all_pieces g s.numbers (x ∷ more)); one = lower n one; two = first_of m (sym ek); apart = inr one.above }, omega arith)
    by_places j k (behind p) (behind q) ej ek rest =
        let found = rest n m (subst (λ z. Among z (map (λ (y : Standing). y.number) more)) ej p) (subst (λ z. Among z (map (λ (y : Standing). y.number) more)) ek q) other in
        let end = row_end in
        (found.0, let high = found.1 in omega (arith, high, end))
