-- The words of each function of what is emitted belong to places of the function, or to none.
use Rattle.std.proofs.Common.{◌≡◌, ℕ, zero, suc, ◌+◌, ◌<◌, ◌≤◌, inl, inr, ◌==◌, Bool, false, Option, Some, None, List, [], ◌∷◌, ◌++◌, length, map, slice_get, slice_index, get_or, refl, sym, ap, ◌∙◌, subst, arith}
use Rattle.std.specs.Option.{option_map_or}
use Rattle.std.specs.List.{AllByRecursion}
use Rattle.std.proofs.lemmas.Option.{same_Some}
use Rattle.memory_map.specs.Maps.{most_words}
use Rattle.memory_map.proofs.Facts.{map_facts}
use Rattle.rv_emit_runs.proofs.Maps.{emitted_in_reach}
use Rattle.rv_code.specs.declared.instruction.Instruction.{Instruction}
use Rattle.graph_core.specs.Graphs.{Block, Graph}
use Rattle.graph_core.specs.Paths.{Among, front, behind}
use Rattle.graph_core.specs.Validity.{markers_in, markers_of_blocks, IsBlock, IsGraph, IsOwnPlace, IsValid}
use Rattle.graph_homes.specs.Homed.{HomedForm, homes_in}
use Rattle.rv_emit_tables.specs.declared.emitted.PlacedStop.{PlacedStop}
use Rattle.rv_emit_tables.specs.Emitted.{EmittedForm, FunctionCode}
use Rattle.rv_emit_words.specs.declared.piece.PlacedPiece.{PlacedPiece}
use Rattle.rv_emit_sequence.specs.Sequences.{IsSequenceOf}
use Rattle.rv_emit_layout.specs.declared.reaching.Reach.TheVariants.{Near}
use Rattle.rv_emit_layout.specs.declared.reaching.Reach.{Reach}
use Rattle.rv_emit_layout.specs.declared.layout.OwnedWord.{OwnedWord}
use Rattle.rv_emit_layout.specs.Layouts.{Lying, function_words, lying, owned_words, piece_code, words_from, words_before}
use Rattle.rv_emit_runs.specs.Laid.{program_of}
use Rattle.rv_emit_runs.proofs.Lists.{all_at}
use Rattle.rv_emit_layout.specs.Laid.{LaidForm, ground_for, parameters_in, told_by, IsEmittedOf, IsDrawnOf}
use Rattle.rv_emit_sequence.specs.Sequences.{counted}
use Rattle.rv_emit_runs.specs.Owners.{HasOwnWords, IsOwnedBy}
use Rattle.rv_emit_runs.proofs.Functions.{FunctionIn, function_count}
use Rattle.rv_emit_runs.proofs.Grounds.{blocks_few}
use Rattle.rv_emit_runs.proofs.Owners.{AreOwned, sequence_owned}
use Rattle.rv_emit_runs.proofs.Stops.{all_append, among_left, among_right}
use Rattle.rv_emit_runs.proofs.Told.{told_there}
use Rattle.rv_emit_runs.proofs.UnitPlaced.{HasCode, LaidAt, fits, found, laid_at, laid_count}
use Rattle.rv_emit_runs.proofs.UnitStops.{Fits}

-- ---- Words

module _ (P : ℕ → Type 0) where
  abbrev AreWordsOwned : List OwnedWord → Type 0
  AreWordsOwned words = AllByRecursion (λ (w : OwnedWord). P w.owner) words

  piece_words_owned : (owner : ℕ) (code : List Instruction) → P owner → AreWordsOwned (owned_words owner code)
  piece_words_owned owner [] own = tt
  piece_words_owned owner (i ∷ more) own = (own, piece_words_owned owner more own)

  words_owned : (t : Lying) (reaches : List Reach) (i : ℕ) (pieces : List PlacedPiece) → AreOwned P pieces → AreWordsOwned (words_from t reaches i pieces)
  words_owned t reaches i [] own = tt
  words_owned t reaches i (x ∷ more) own =
      all_append (λ (w : OwnedWord). P w.owner) (owned_words x.owner (piece_code t (get_or reaches i Near) (slice_index t.offsets i) x.piece)) (words_from t reaches (counted (i + 1)) more)
      (piece_words_owned x.owner (piece_code t (get_or reaches i Near) (slice_index t.offsets i) x.piece) own.0) (words_owned t reaches (counted (i + 1)) more own.1)

  -- the owner of one of some words that stand among others
  word_owner : (before own rest : List OwnedWord) (i : ℕ) → AreWordsOwned own → length before ≤ i → i < length before + length own → P (slice_index (map (λ (w : OwnedWord). w.owner) (before ++ (own ++ rest))) i)
  word_owner [] [] rest i all low high = absurd (omega (arith, high))
  word_owner [] (w ∷ own) rest zero all low high = all.0
  word_owner [] (w ∷ own) rest (suc i) all low high = word_owner [] own rest i all.1 (omega arith) (omega (arith, high))
  word_owner (y ∷ before) own rest zero all low high = absurd (omega (arith, low))
  word_owner (y ∷ before) own rest (suc i) all low high = word_owner before own rest i all (omega (arith, low)) (omega (arith, high))

  from_among : (xs : List ℕ) → ((p : ℕ) → Among p xs → P p) → AllByRecursion P xs
  from_among [] each = tt
  from_among (x ∷ xs) each = (each x front, from_among xs (λ p there. each p (behind there)))

-- ---- Blocks

marker_there : (blocks : List Block) (k : ℕ) (b : Block) (p : ℕ) → slice_get blocks k ≡ Some b → Among p (markers_in b.instructions) → Among p (markers_of_blocks blocks)
marker_there [] k b p at there = cc
marker_there (x ∷ more) zero b p at there = let same : x ≡ b = cc in among_left p (markers_in x.instructions) (markers_of_blocks more) (subst (λ (c : Block). Among p (markers_in c.instructions)) (sym same) there)
marker_there (x ∷ more) (suc k) b p at there = among_right p (markers_in x.instructions) (markers_of_blocks more) (marker_there more k b p at there)

kept_owned : (g : Graph) (place : Option ℕ) → IsOwnPlace g place → IsOwnedBy g (option_map_or (λ p. p) place 0)
kept_owned g None own = inl refl
kept_owned g (Some p) own = inr own

-- ---- All of it

module _ (h : HomedForm) (valid : IsValid h.unit) (e : EmittedForm) (emitted : IsEmittedOf h e) (short : length e.code ≤ most_words e.map) where
  few : length h.unit.graphs ≤ 4294967295
  few = let functions : length h.unit.graphs ≤ 256 = valid.functions in omega (arith, functions)

  has : HasCode h.unit.room (program_of e short) e.owners emitted.coded
  has = record { reach = emitted_in_reach h e emitted; words = emitted.words; own = emitted.owners; stops = ap (λ l. map (λ (x : PlacedStop). x.address) l) emitted.stops }

  pieces_owned : (f : ℕ) (g : Graph) (is_main : Bool) (l : LaidForm) → slice_get h.unit.graphs f ≡ Some g → IsDrawnOf emitted.statics g (homes_in h f) is_main l → AreOwned (IsOwnedBy g) l.sequence.pieces
  pieces_owned f g is_main l at is =
      let graph : IsGraph h.unit g = all_at (IsGraph h.unit) h.unit.graphs f g valid.graphs at in
      let blocks : length g.blocks ≤ 120000 = blocks_few h.unit valid f g at in
      let sequence : IsSequenceOf (ground_for emitted.statics g (homes_in h f) l) g is_main l.sequence = is.sequence (omega (arith, blocks)) in
      sequence_owned (IsOwnedBy g) (inl refl) (ground_for emitted.statics g (homes_in h f) l) g is_main l.sequence sequence (inr (inl refl))
      (λ k b there. (kept_owned g b.place (all_at (IsBlock h.unit g) g.blocks k b graph.blocks there).own, from_among (IsOwnedBy g) (markers_in b.instructions) (λ p among. inr (inr (marker_there g.blocks k b p there among)))))

  -- Each word of a function belongs to a place of it, or to none.
  pub emitted_owners : HasOwnWords h.unit e
  emitted_owners f g code at told i low high = by_laid (laid_at h emitted.statics 0 h.unit.graphs emitted.coded.all (omega (arith, few)) emitted.code.laid f g at)
    where
      by_laid : LaidAt h emitted.statics emitted.coded.all 0 f g → IsOwnedBy g (slice_index e.owners i)
      by_laid laid =
          let here : 0 + f ≡ f = omega arith in
          let count : length emitted.coded.all ≡ length h.unit.graphs = laid_count h emitted.statics 0 h.unit.graphs emitted.coded.all emitted.code.laid in
          let is : IsDrawnOf emitted.statics g (homes_in h f) (f == h.unit.main) laid.laid = subst (λ j. IsDrawnOf emitted.statics g (homes_in h j) (j == h.unit.main) laid.laid) here laid.is in
          let one : FunctionIn h.unit.room emitted.coded.words emitted.coded.firsts f laid.laid = found h emitted.statics emitted.coded emitted.code (program_of e short) e.owners has few f laid.laid laid.there in
          let fit : Fits h.unit.room e.map laid.laid (slice_index emitted.coded.firsts f) = fits h emitted.statics emitted.coded emitted.code (program_of e short) e.owners has few f laid.laid laid.there in
          let words = function_words laid.laid.sequence laid.laid.layout (slice_index emitted.coded.firsts f) emitted.coded.firsts in
          let size : length words ≡ words_before laid.laid.layout.reaches laid.laid.sequence.pieces (length laid.laid.sequence.pieces) = function_count laid.laid.sequence laid.laid.layout (slice_index emitted.coded.firsts f) emitted.coded.firsts one.few in
          let all : laid.laid.layout.words ≡ words_before laid.laid.layout.reaches laid.laid.sequence.pieces (length laid.laid.sequence.pieces) = fit.layout.words in
          let most : slice_index emitted.coded.firsts f + words_before laid.laid.layout.reaches laid.laid.sequence.pieces (length laid.laid.sequence.pieces) ≤ most_words e.map = fit.low in
          let code_is : told_by (slice_index emitted.coded.firsts f) (parameters_in h.unit.graphs f) laid.laid ≡ code =
          same_Some (told_by (slice_index emitted.coded.firsts f) (parameters_in h.unit.graphs f) laid.laid) code
          (sym (ap (λ l. slice_get l f) emitted.functions ∙ told_there h.unit.graphs emitted.coded.firsts emitted.coded.all 0 f laid.laid (omega (arith, few, count)) laid.there ∙ ap (λ j. Some (told_by (slice_index emitted.coded.firsts j) (parameters_in h.unit.graphs j) laid.laid)) here) ∙ told) in
          let first = ap (λ (c : FunctionCode). c.first) code_is in
          let end = ap (λ (c : FunctionCode). c.end) code_is in
          let begin : length one.before ≡ slice_index emitted.coded.firsts f = one.begin in
          subst (λ own. IsOwnedBy g (slice_index own i)) (sym (emitted.owners ∙ ap (λ ws. map (λ (w : OwnedWord). w.owner) ws) one.words))
          (word_owner (IsOwnedBy g) one.before words one.behind i
          (words_owned (IsOwnedBy g) (lying laid.laid.sequence laid.laid.layout (slice_index emitted.coded.firsts f) emitted.coded.firsts) laid.laid.layout.reaches 0 laid.laid.sequence.pieces (pieces_owned f g (f == h.unit.main) laid.laid at is))
          (omega (arith, low, first, begin, most, (map_facts e.map).few)) (omega (arith, high, end, begin, size, all, most, (map_facts e.map).few)))
