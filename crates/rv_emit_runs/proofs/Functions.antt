-- The words of each function stand in the code of a unit.
use Rattle.std.proofs.Common.{◌≡◌, ℕ, zero, suc, ◌+◌, ◌≤◌, Bool, true, false, Some, List, [], ◌∷◌, ◌++◌, length, slice_get, slice_index, get_or, drop, refl, sym, ap, ◌∙◌, subst, arith, append_assoc}
use Rattle.std.specs.List.{AllByRecursion}
use Rattle.std.proofs.lemmas.List.{drop-drop, length-append, length-map}
use Rattle.rv_emit_words.specs.declared.piece.Piece.{Piece}
use Rattle.rv_emit_words.specs.declared.piece.Piece.TheVariants.{Word, Jump, Branch, Call}
use Rattle.rv_emit_words.specs.declared.piece.PlacedPiece.{PlacedPiece}
use Rattle.rv_emit_sequence.specs.Sequences.{SequenceForm, counted}
use Rattle.memory_map.specs.declared.map.Room.{Room}
use Rattle.rv_emit_layout.specs.declared.reaching.Reach.TheVariants.{Near, Over, Far}
use Rattle.rv_emit_layout.specs.declared.reaching.Reach.{Reach}
use Rattle.rv_emit_layout.specs.declared.layout.OwnedWord.{OwnedWord}
use Rattle.rv_emit_layout.specs.Spelling.{spelled}
use Rattle.rv_emit_layout.specs.Reaches.{jump_width, width}
use Rattle.rv_emit_layout.specs.Layouts.{LayoutForm, Lying, function_words, jump_code, lying, owned_words, piece_code, words_before, words_from, IsLayoutOf, most_pieces}
use Rattle.rv_emit_layout.proofs.Layouts.{reach_first, width_some}
use Rattle.rv_emit_layout.specs.Laid.{LaidForm, firsts_from, words_of_all}

-- ---- How many words pieces become

jump_count : (r : Reach) (link by d : ℕ) → length (jump_code r link by d) ≡ jump_width r
jump_count Near link by d = refl
jump_count Over link by d = refl
jump_count Far link by d = refl

code_count : (t : Lying) (reach : Reach) (from : ℕ) (q : Piece) → length (piece_code t reach from q) ≡ width reach q
code_count t reach from (Word i) = refl
code_count t reach from (Jump to) = jump_count reach 0 5 _
code_count t reach from (Call f) = jump_count reach 1 1 _
code_count t Near from (Branch op a b to) = refl
code_count t Over from (Branch op a b to) = refl
code_count t Far from (Branch op a b to) = refl

owned_count : (t : Lying) (reach : Reach) (from : ℕ) (x : PlacedPiece) → length (owned_words x.owner (piece_code t reach from x.piece)) ≡ width reach x.piece
owned_count t reach from x = length-map (piece_code t reach from x.piece) (λ i. record { word = spelled i; owner = x.owner }) ∙ code_count t reach from x.piece

-- Each piece becomes a word.
pub pieces_few : (t : Lying) (reaches : List Reach) (i : ℕ) (pieces : List PlacedPiece) → length pieces ≤ length (words_from t reaches i pieces)
pieces_few t reaches i [] = omega arith
pieces_few t reaches i (x ∷ more) =
    let one : 1 ≤ width (get_or reaches i Near) x.piece = width_some (get_or reaches i Near) x.piece in
    let size : length (owned_words x.owner (piece_code t (get_or reaches i Near) (slice_index t.offsets i) x.piece)) ≡ width (get_or reaches i Near) x.piece = owned_count t (get_or reaches i Near) (slice_index t.offsets i) x in
    let later : length more ≤ length (words_from t reaches (counted (i + 1)) more) = pieces_few t reaches (counted (i + 1)) more in
    let all = length-append (owned_words x.owner (piece_code t (get_or reaches i Near) (slice_index t.offsets i) x.piece)) (words_from t reaches (counted (i + 1)) more) in
    omega (arith, one, size, later, all)

words_count : (t : Lying) (reaches : List Reach) (i : ℕ) (pieces : List PlacedPiece) → i + length pieces ≤ 4294967295 → length (words_from t reaches i pieces) ≡ words_before (drop i reaches) pieces (length pieces)
words_count t reaches i [] fits = refl
words_count t reaches i (x ∷ more) fits =
    let next : counted (i + 1) ≡ i + 1 = omega (arith, fits) in
    let size : length (owned_words x.owner (piece_code t (get_or reaches i Near) (slice_index t.offsets i) x.piece)) ≡ width (get_or reaches i Near) x.piece = owned_count t (get_or reaches i Near) (slice_index t.offsets i) x in
    let later : length (words_from t reaches (counted (i + 1)) more) ≡ words_before (drop (counted (i + 1)) reaches) more (length more) = words_count t reaches (counted (i + 1)) more (omega (arith, fits, next)) in
    let rest : words_before (drop (counted (i + 1)) reaches) more (length more) ≡ words_before (drop 1 (drop i reaches)) more (length more) = ap (λ l. words_before l more (length more)) (ap (λ m. drop m reaches) next ∙ sym (drop-drop 1 i reaches)) in
    let here : width (get_or (drop i reaches) 0 Near) x.piece ≡ width (get_or reaches i Near) x.piece = ap (λ f. width f x.piece) (reach_first reaches i) in
    let all = length-append (owned_words x.owner (piece_code t (get_or reaches i Near) (slice_index t.offsets i) x.piece)) (words_from t reaches (counted (i + 1)) more) in
    omega (arith, size, later, rest, here, all)

-- The words of a function are as many as its layout says.
pub function_count : (s : SequenceForm) (l : LayoutForm) (first : ℕ) (firsts : List ℕ) → length s.pieces ≤ most_pieces → length (function_words s l first firsts) ≡ words_before l.reaches s.pieces (length s.pieces)
function_count s l first firsts few = words_count (lying s l first firsts) l.reaches 0 s.pieces (omega (arith, few))

-- ---- Functions one behind the other

-- Pieces of a function stand as its layout has them, where they are few enough.
abbrev pub AreLayouts : Room → List LaidForm → Type 0
AreLayouts room all = AllByRecursion (λ (l : LaidForm). length l.sequence.pieces ≤ most_pieces → IsLayoutOf room l.sequence l.layout) all

-- The words of a function stand among others, behind as many as stand before it.
pub record FunctionIn (room : Room) (whole : List OwnedWord) (firsts : List ℕ) (f : ℕ) (l : LaidForm) : Type 0 where
  pub before : List OwnedWord
  pub behind : List OwnedWord
  pub words : whole ≡ before ++ (function_words l.sequence l.layout (slice_index firsts f) firsts ++ behind)
  pub begin : length before ≡ slice_index firsts f
  pub few : length l.sequence.pieces ≤ most_pieces
  pub layout : IsLayoutOf room l.sequence l.layout

pub function_in : (room : Room) (firsts : List ℕ) (all : List LaidForm) (f n : ℕ) (front : List OwnedWord) → length front ≡ n → f + length all ≤ 4294967295 → ((k : ℕ) → slice_index firsts (f + k) ≡ slice_index (firsts_from n all) k)
    → length (front ++ words_of_all firsts f all) ≤ most_pieces → AreLayouts room all → (k : ℕ) (l : LaidForm) → slice_get all k ≡ Some l → FunctionIn room (front ++ words_of_all firsts f all) firsts (f + k) l
function_in room firsts [] f n front count fits agree low layouts k l e = cc
function_in room firsts (x ∷ more) f n front count fits agree low layouts k l e =
    by_index k e
    (λ j at. function_in room firsts more (counted (f + 1)) (counted (n + x.layout.words)) (front ++ function_words x.sequence x.layout (slice_index firsts f) firsts) length_is (omega (arith, fits, next))
    (λ i. let shift : counted (f + 1) + i ≡ f + suc i = omega (arith, next) in ap (λ m. slice_index firsts m) shift ∙ agree (suc i))
    (subst (λ w. length w ≤ most_pieces) (sym arranged) low) layouts.1 j l at)
  where
    here : f + 0 ≡ f
    here = omega arith

    next : counted (f + 1) ≡ f + 1
    next = omega (arith, fits)

    first : slice_index firsts f ≡ n
    first = ap (λ j. slice_index firsts j) (sym here) ∙ agree 0

    few : length x.sequence.pieces ≤ most_pieces
    few =
        let some : length x.sequence.pieces ≤ length (function_words x.sequence x.layout (slice_index firsts f) firsts) = pieces_few (lying x.sequence x.layout (slice_index firsts f) firsts) x.layout.reaches 0 x.sequence.pieces in
        let one = length-append front (function_words x.sequence x.layout (slice_index firsts f) firsts ++ words_of_all firsts (counted (f + 1)) more) in
        let two = length-append (function_words x.sequence x.layout (slice_index firsts f) firsts) (words_of_all firsts (counted (f + 1)) more) in
        omega (arith, some, one, two, low)

    layout : IsLayoutOf room x.sequence x.layout
    layout = layouts.0 few

    arranged : (front ++ function_words x.sequence x.layout (slice_index firsts f) firsts) ++ words_of_all firsts (counted (f + 1)) more ≡ front ++ words_of_all firsts f (x ∷ more)
    arranged = append_assoc front (function_words x.sequence x.layout (slice_index firsts f) firsts) (words_of_all firsts (counted (f + 1)) more)

    length_is : length (front ++ function_words x.sequence x.layout (slice_index firsts f) firsts) ≡ counted (n + x.layout.words)
    length_is =
        let size : length (function_words x.sequence x.layout (slice_index firsts f) firsts) ≡ words_before x.layout.reaches x.sequence.pieces (length x.sequence.pieces) = function_count x.sequence x.layout (slice_index firsts f) firsts few in
        let words : x.layout.words ≡ words_before x.layout.reaches x.sequence.pieces (length x.sequence.pieces) = layout.words in
        let one = length-append front (function_words x.sequence x.layout (slice_index firsts f) firsts ++ words_of_all firsts (counted (f + 1)) more) in
        let two = length-append (function_words x.sequence x.layout (slice_index firsts f) firsts) (words_of_all firsts (counted (f + 1)) more) in
        let sum : counted (n + x.layout.words) ≡ n + x.layout.words = omega (arith, count, size, words, one, two, low) in
        length-append front (function_words x.sequence x.layout (slice_index firsts f) firsts) ∙ (omega (arith, count, size, words, sum))

    by_index : (j : ℕ) → slice_get (x ∷ more) j ≡ Some l
        → ((j : ℕ) → slice_get more j ≡ Some l → FunctionIn room ((front ++ function_words x.sequence x.layout (slice_index firsts f) firsts) ++ words_of_all firsts (counted (f + 1)) more) firsts (counted (f + 1) + j) l)
        → FunctionIn room (front ++ words_of_all firsts f (x ∷ more)) firsts (f + j) l
    by_index zero at rest =
        let same : x ≡ l = cc in
        subst (λ (m : LaidForm). FunctionIn room (front ++ words_of_all firsts f (x ∷ more)) firsts (f + 0) m) same
        (subst (λ j. FunctionIn room (front ++ words_of_all firsts f (x ∷ more)) firsts j x) (sym here)
        (record { before = front; behind = words_of_all firsts (counted (f + 1)) more; words = refl; begin = count ∙ sym first; few = few; layout = layout }))
    by_index (suc j) at rest =
        let index : counted (f + 1) + j ≡ f + suc j = omega (arith, next) in
        subst (λ i. FunctionIn room (front ++ words_of_all firsts f (x ∷ more)) firsts i l) index
        (subst (λ w. FunctionIn room w firsts (counted (f + 1) + j) l) arranged (rest j at))
