-- Blocks that stand one behind the other, with their labels.
use Rattle.std.proofs.Common.{◌≡◌, ◌<◌, ◌+◌, ℕ, Bool, None, List, [], ◌∷◌, ◌++◌, length, map, slice_index, slice_set, replicate, refl, sym, ap, ◌∙◌, subst, arith, append_assoc, append-nil}
use Rattle.std.specs.List.{AllByRecursion}
use Rattle.std.proofs.lemmas.List.{get_or-set_same, get_or-set_other, length-set, length-append, length-map, length-replicate, get_or_append_left, get_or_push, length_push, map-append}
use Rattle.rv_code.specs.declared.instruction.Instruction.{Instruction}
use Rattle.rv_code.specs.declared.instruction.Instruction.TheVariants.{Load, Immediate, Jalr}
use Rattle.rv_code.specs.declared.instruction.LoadOperation.TheVariants.{Lw}
use Rattle.rv_code.specs.declared.instruction.ImmediateOperation.TheVariants.{Addi}
use Rattle.graph_core.specs.Graphs.{Block, Graph}
use Rattle.graph_core.specs.Paths.{Among, front, behind}
use Rattle.rv_emit_words.specs.declared.piece.Held.{Held}
use Rattle.rv_emit_words.specs.declared.piece.Piece.TheVariants.{Word}
use Rattle.rv_emit_words.specs.Growing.{CodeState, with_code, with_piece}
use Rattle.rv_emit_code.specs.Blocks.{no_code}
use Rattle.rv_emit_code.specs.Leaving.{moving_by, of_no_place, restoring_code, words_of_moving}
use Rattle.rv_emit_sequence.specs.Sequences.{Ground, SequenceForm, Standing, counted, standing_code, standing_pieces, all_pieces, numbered, first_pieces, last_pieces, first_label, first_number, AreConstants, AreLabelled, AreOnce, ArePut, HasEnd, IsOrder, IsPut, IsSequenceOf, begun, ended, with_block, with_standing}

-- ---- Pieces

standing_numbers : (g : Ground) (xs : List Standing) (s : SequenceForm) → (with_standing g xs s).numbers ≡ s.numbers
standing_numbers g [] s = refl
standing_numbers g (x ∷ more) s = standing_numbers g more (with_block x.number (standing_code g x).pieces s)

standing_begin : (g : Ground) (xs : List Standing) (s : SequenceForm) → (with_standing g xs s).begin ≡ s.begin
standing_begin g [] s = refl
standing_begin g (x ∷ more) s = standing_begin g more (with_block x.number (standing_code g x).pieces s)

pieces_are : (g : Ground) (xs : List Standing) (s : SequenceForm) → (with_standing g xs s).pieces ≡ s.pieces ++ all_pieces g s.numbers xs
pieces_are g [] s = sym (append-nil s.pieces)
pieces_are g (x ∷ more) s = pieces_are g more (with_block x.number (standing_code g x).pieces s) ∙ append_assoc s.pieces (standing_pieces g s.numbers x) (all_pieces g s.numbers more)

-- The words of a function's end write no target.
words_unnumbered : (n : ℕ) (code : List Instruction) (s : CodeState) → map (numbered n) s.pieces ≡ s.pieces → map (numbered n) (with_code code s).pieces ≡ (with_code code s).pieces
words_unnumbered n [] s e = e
words_unnumbered n (i ∷ more) s e =
    words_unnumbered n more (with_piece (Word i) s) (map-append (numbered n) s.pieces ((record { piece = Word i; owner = s.owner; is_stop = s.begins; writes = None }) ∷ []) ∙ ap (λ l. l ++ (record { piece = Word i; owner = s.owner; is_stop = s.begins; writes = None }) ∷ []) e)

last_unnumbered : (g : Ground) → map (numbered 0) (last_pieces g) ≡ last_pieces g
last_unnumbered g =
    words_unnumbered 0 (restoring_code g.saved 4 ++ Load Lw 1 2 0 ∷ moving_by (words_of_moving g.size) g.size ++ Jalr 0 1 0 ∷ []) (of_no_place (with_code (Immediate Addi 4 4 1 ∷ []) (no_code 0 []))) refl

-- ---- Labels

label_counts : (g : Ground) (xs : List Standing) (s : SequenceForm) → length (with_standing g xs s).labels ≡ length s.labels
label_counts g [] s = refl
label_counts g (x ∷ more) s = label_counts g more (with_block x.number (standing_code g x).pieces s) ∙ length-set s.labels x.number (counted (length s.pieces))

end_counts : (g : Ground) (xs : List Standing) (s : SequenceForm) → length (with_standing g xs s).ends ≡ length s.ends
end_counts g [] s = refl
end_counts g (x ∷ more) s =
    end_counts g more (with_block x.number (standing_code g x).pieces s) ∙ length-set s.ends x.number (counted (length (s.pieces ++ standing_pieces g s.numbers x)))

-- A number that is not among those of blocks keeps its label.
label_kept : (g : Ground) (xs : List Standing) (s : SequenceForm) (n : ℕ) → (Among n (map (λ (x : Standing). x.number) xs) → ⊥) → slice_index (with_standing g xs s).labels n ≡ slice_index s.labels n
label_kept g [] s n other = refl
label_kept g (x ∷ more) s n other =
    label_kept g more (with_block x.number (standing_code g x).pieces s) n (λ there. other (behind there))
    ∙ get_or-set_other s.labels x.number n (counted (length s.pieces)) 0 (λ e. other (subst (λ m. Among m (x.number ∷ map (λ (x : Standing). x.number) more)) (sym e) front))

end_kept : (g : Ground) (xs : List Standing) (s : SequenceForm) (n : ℕ) → (Among n (map (λ (x : Standing). x.number) xs) → ⊥) → slice_index (with_standing g xs s).ends n ≡ slice_index s.ends n
end_kept g [] s n other = refl
end_kept g (x ∷ more) s n other =
    end_kept g more (with_block x.number (standing_code g x).pieces s) n (λ there. other (behind there))
    ∙ get_or-set_other s.ends x.number n (counted (length (s.pieces ++ standing_pieces g s.numbers x))) 0 (λ e. other (subst (λ m. Among m (x.number ∷ map (λ (x : Standing). x.number) more)) (sym e) front))

-- Pieces behind which a block stands.
block_length : (g : Ground) (x : Standing) (s : SequenceForm) → length (s.pieces ++ standing_pieces g s.numbers x) ≡ length s.pieces + length (standing_code g x).pieces
block_length g x s =
    length-append s.pieces (standing_pieces g s.numbers x) ∙ ap (λ n. length s.pieces + n) (length-map (standing_code g x).pieces (numbered (slice_index s.numbers x.number)))

labelled : (g : Ground) (xs : List Standing) (s : SequenceForm) → g.end ≡ length s.labels → length s.ends ≡ length s.labels → AllByRecursion (λ n. n < length s.labels) (map (λ (x : Standing). x.number) xs) → AreOnce (map (λ (x : Standing). x.number) xs)
    → AreLabelled g (ended g (with_standing g xs s)) (length s.pieces) xs
labelled g [] s last same low once = get_or_push s.labels (counted (length s.pieces)) 0 g.end (sym last)
labelled g (x ∷ more) s last same (here, low) (other, once) =
    let t : SequenceForm = with_block x.number (standing_code g x).pieces s in
    let count : length t.labels ≡ length s.labels = length-set s.labels x.number (counted (length s.pieces)) in
    let ends : length t.ends ≡ length s.ends = length-set s.ends x.number (counted (length (s.pieces ++ standing_pieces g s.numbers x))) in
    let later : AreLabelled g (ended g (with_standing g more t)) (length t.pieces) more = labelled g more t (last ∙ sym count) (ends ∙ same ∙ sym count) (subst (λ n. AllByRecursion (λ m. m < n) (map (λ (x : Standing). x.number) more)) (sym count) low) once in
    (label_is t count, end_is t ends, subst (λ n. AreLabelled g (ended g (with_standing g more t)) n more) (block_length g x s) later)
  where
    label_is : (t : SequenceForm) → length (slice_set s.labels x.number (counted (length s.pieces))) ≡ length s.labels → slice_index ((with_standing g more (with_block x.number (standing_code g x).pieces s)).labels ++ counted (length (with_standing g more (with_block x.number (standing_code g x).pieces s)).pieces) ∷ []) x.number ≡ counted (length s.pieces)
    label_is t count =
        let all : length (with_standing g more (with_block x.number (standing_code g x).pieces s)).labels ≡ length s.labels = label_counts g more (with_block x.number (standing_code g x).pieces s) ∙ count in
        get_or_append_left (with_standing g more (with_block x.number (standing_code g x).pieces s)).labels (counted (length (with_standing g more (with_block x.number (standing_code g x).pieces s)).pieces) ∷ []) 0 x.number (omega (arith, all, here))
        ∙ label_kept g more (with_block x.number (standing_code g x).pieces s) x.number other
        ∙ get_or-set_same s.labels x.number (counted (length s.pieces)) 0 here

    end_is : (t : SequenceForm) → length (slice_set s.ends x.number (counted (length (s.pieces ++ standing_pieces g s.numbers x)))) ≡ length s.ends → slice_index (with_standing g more (with_block x.number (standing_code g x).pieces s)).ends x.number ≡ counted (length s.pieces + length (standing_code g x).pieces)
    end_is t ends =
        end_kept g more (with_block x.number (standing_code g x).pieces s) x.number other
        ∙ get_or-set_same s.ends x.number (counted (length (s.pieces ++ standing_pieces g s.numbers x))) 0 (omega (arith, same, here))
        ∙ ap counted (block_length g x s)

-- ---- All of it

-- Where blocks are put behind the beginning of a function in an order that names each once, and the end behind them, that is the sequence of the function.
pub sequence_is : (g : Ground) (f : Graph) (is_main : Bool) (at : ℕ → List Held) (order : List ℕ) (s t : SequenceForm) → HasEnd g f → ((n : ℕ) → AreConstants (at n)) → at 0 ≡ [] → IsOrder (length f.blocks) order
    → ArePut g f.blocks at order (begun g f is_main) s → t ≡ ended g s → IsSequenceOf g f is_main t
sequence_is g f is_main at order s t end constants start is put e =
    subst (λ u. IsSequenceOf g f is_main u) (sym (e ∙ ap (λ u. ended g u) put.pieces)) (record {
      standing = put.standing;
      at = at;
      pieces = ap (λ l. l ++ map (numbered 0) (last_pieces g)) (pieces_are g put.standing (begun g f is_main)) ∙ ap (λ l. first_pieces g f is_main ++ all_pieces g (begun g f is_main).numbers put.standing ++ l) (last_unnumbered g)
          ∙ ap (λ ns. first_pieces g f is_main ++ all_pieces g ns put.standing ++ last_pieces g) (sym (standing_numbers g put.standing (begun g f is_main)));
      begin = standing_begin g put.standing (begun g f is_main);
      numbers = standing_numbers g put.standing (begun g f is_main);
      order = subst (λ l. IsOrder (length f.blocks) l) (sym put.order) is;
      next = put.next;
      blocks = put.all;
      start = start;
      constants = constants;
      labels = labelled g put.standing (begun g f is_main) (end.label ∙ sym count) refl (subst (λ n. AllByRecursion (λ m. m < n) (map (λ (x : Standing). x.number) put.standing)) (sym count) (subst (λ l. AllByRecursion (λ m. m < length f.blocks) l) (sym put.order) is.low)) (subst AreOnce (sym put.order) is.once);
      label_count = length_push (with_standing g put.standing (begun g f is_main)).labels (counted (length (with_standing g put.standing (begun g f is_main)).pieces)) ∙ ap (λ n. n + 1) (label_counts g put.standing (begun g f is_main) ∙ count);
      end_count = end_counts g put.standing (begun g f is_main) ∙ count;
    })
  where
    count : length {A = ℕ} (replicate (length f.blocks) 0) ≡ length f.blocks
    count = length-replicate (length f.blocks) 0

-- ---- Blocks by a plan

first_is : (xs : List Standing) (e : ℕ) → first_label xs e ≡ first_number (map (λ (x : Standing). x.number) xs) e
first_is [] e = refl
first_is (x ∷ xs) e = refl

-- One, and others behind it.
pub put_before : (g : Ground) (blocks : List Block) (at : ℕ → List Held) (n : ℕ) (order : List ℕ) (r s t : SequenceForm) → IsPut g blocks at n (first_number order g.end) r s → ArePut g blocks at order s t → ArePut g blocks at (n ∷ order) r t
put_before g blocks at n order r s t one more = record {
  standing = one.standing ∷ more.standing;
  order = ap (λ m. m ∷ map (λ (x : Standing). x.number) more.standing) one.number ∙ ap (λ l. n ∷ l) more.order;
  next = (one.next ∙ ap (λ l. first_number l g.end) (sym more.order) ∙ sym (first_is more.standing g.end), more.next);
  all = (one.block, more.all);
  pieces = more.pieces ∙ ap (λ u. with_standing g more.standing u) one.pieces;
}
