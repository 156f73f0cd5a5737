-- The pieces of a function stand in the code of the machine, one behind the other.
use Rattle.std.proofs.Common.{◌≡◌, ◌≢◌, ℕ, zero, suc, ◌+◌, ◌-◌, ◌*◌, ◌%◌, ◌<◌, ◌≤◌, ◌⊎◌, inl, inr, ⊎_elim, Bool, false, Some, List, [], ◌∷◌, ◌++◌, length, map, slice_get, slice_index, get_or, drop, refl, sym, ap, ◌∙◌, subst, arith, append_assoc}
use Rattle.std.proofs.lemmas.Bool.{cases_lt}
use Rattle.std.proofs.lemmas.List.{get_or_past, length-append, length-map}
use Rattle.std.proofs.lemmas.Option.{slice_get_within}
use Rattle.memory_map.specs.declared.map.Map.{Map}
use Rattle.memory_map.specs.declared.map.Room.{Room}
use Rattle.memory_map.specs.declared.map.Room.TheVariants.{Small, Large}
use Rattle.memory_map.specs.Maps.{most_words}
use Rattle.memory_map.proofs.Facts.{map_facts}
use Rattle.rv_emit_runs.proofs.Maps.{jump_reach}
use Rattle.rv_code.specs.declared.instruction.Instruction.{Instruction}
use Rattle.rv_code.specs.declared.instruction.Instruction.TheVariants as instruction
use Rattle.rv_code.specs.InForm.{IsBranchDistance, IsInForm, IsJumpDistance, IsRegister}
use Rattle.rv_machine.specs.Run.{is_stop}
use Rattle.word_base.specs.Arithmetic.{subtracted}
use Rattle.rv_emit_words.specs.Constants.{high_part, low_part}
use Rattle.rv_emit_words.specs.declared.piece.Piece.{Piece}
use Rattle.rv_emit_words.specs.declared.piece.Piece.TheVariants.{Word, Jump, Branch, Call}
use Rattle.rv_emit_words.specs.declared.piece.PlacedPiece.{PlacedPiece}
use Rattle.rv_emit_steps.specs.Programs.{Program, address_of, IsAt}
use Rattle.rv_emit_steps.specs.Programs.{distance as machine_distance}
use Rattle.rv_emit_code.specs.Ends.{opposite}
use Rattle.rv_emit_runs.specs.Pieces.{Targets, IsJump, IsOver, PieceAt}
use Rattle.rv_emit_runs.proofs.Forms.{high_is, low_is}
use Rattle.rv_emit_runs.specs.Placed.{PlacedAt, AreOf}
use Rattle.rv_emit_sequence.specs.Sequences.{SequenceForm, counted}
use Rattle.rv_emit_layout.specs.declared.layout.OwnedWord.{OwnedWord}
use Rattle.rv_emit_layout.specs.Spelling.{spelled}
use Rattle.rv_emit_layout.specs.declared.reaching.Reach.{Reach}
use Rattle.rv_emit_layout.specs.declared.reaching.Reach.TheVariants.{Near, Over, Far}
use Rattle.rv_emit_layout.specs.Laid.{IsCallNear}
use Rattle.rv_emit_layout.specs.Reaches.{branch_width, jump_width, width}
use Rattle.rv_emit_layout.specs.Layouts.{LayoutForm, distance, jump_code, label_at, lying, owned_words, piece_code, words_before, words_from, IsJumpNear, IsLayoutOf, IsNearEnough, most_pieces}
use Rattle.rv_emit_layout.proofs.Layouts.{jump_one, width_some, words_more}
use Rattle.rv_emit_layout.proofs.Spelled.{spelled_is}
use Rattle.rv_emit_runs.proofs.Lists.{all_at}
use Rattle.rv_emit_runs.specs.EmitPlacedStanding.{AreSpelled, HasStops, IsSpelled, StandsIn, targets_of}

-- ---- Lists

word_in : (front : List OwnedWord) (w : OwnedWord) (behind : List OwnedWord) (n : ℕ) → length front ≡ n → slice_get (map (λ (w : OwnedWord). w.word) (front ++ w ∷ behind)) n ≡ Some w.word
word_in [] w behind n e = subst (λ k. slice_get (map (λ (w : OwnedWord). w.word) (w ∷ behind)) k ≡ Some w.word) e refl
word_in (x ∷ front) w behind n e = subst (λ k. slice_get (map (λ (w : OwnedWord). w.word) (x ∷ (front ++ w ∷ behind))) k ≡ Some w.word) e (word_in front w behind (length front) refl)

owner_in : (front : List OwnedWord) (w : OwnedWord) (behind : List OwnedWord) (n : ℕ) → length front ≡ n → slice_index (map (λ (w : OwnedWord). w.owner) (front ++ w ∷ behind)) n ≡ w.owner
owner_in [] w behind n e = subst (λ k. slice_index (map (λ (w : OwnedWord). w.owner) (w ∷ behind)) k ≡ w.owner) e refl
owner_in (x ∷ front) w behind n e = subst (λ k. slice_index (map (λ (w : OwnedWord). w.owner) (x ∷ (front ++ w ∷ behind))) k ≡ w.owner) e (owner_in front w behind (length front) refl)

-- A piece at an index, and those behind it.
pub get_dropped : (pieces : List PlacedPiece) (n : ℕ) (x : PlacedPiece) (rest : List PlacedPiece) → drop n pieces ≡ x ∷ rest → slice_get pieces n ≡ Some x
get_dropped [] zero x rest e = cc
get_dropped [] (suc n) x rest e = cc
get_dropped (p ∷ more) zero x rest e = cc
get_dropped (p ∷ more) (suc n) x rest e = get_dropped more n x rest e

pub drop_next : (pieces : List PlacedPiece) (n : ℕ) (x : PlacedPiece) (rest : List PlacedPiece) → drop n pieces ≡ x ∷ rest → drop (n + 1) pieces ≡ rest
drop_next [] zero x rest e = cc
drop_next [] (suc n) x rest e = cc
drop_next (p ∷ more) zero x rest e = cc
drop_next (p ∷ more) (suc n) x rest e = let next : suc n + 1 ≡ suc (n + 1) = omega arith in ap (λ k. drop k (p ∷ more)) next ∙ drop_next more n x rest e

-- ---- Words before a piece

tail_flag : (reaches : List Reach) (n : ℕ) → get_or (drop 1 reaches) n Near ≡ get_or reaches (suc n) Near
tail_flag [] n = refl
tail_flag (f ∷ reaches) n = refl

pub none_before : (reaches : List Reach) (pieces : List PlacedPiece) → words_before reaches pieces 0 ≡ 0
none_before reaches [] = refl
none_before reaches (p ∷ more) = refl

-- A piece more has its words more.
pub words_step : (reaches : List Reach) (pieces : List PlacedPiece) (n : ℕ) (x : PlacedPiece) → slice_get pieces n ≡ Some x → words_before reaches pieces (n + 1) ≡ words_before reaches pieces n + width (get_or reaches n Near) x.piece
words_step reaches [] n x e = cc
words_step reaches (p ∷ more) zero x e =
    let same : p ≡ x = cc in
    let none : words_before (drop 1 reaches) more 0 ≡ 0 = none_before (drop 1 reaches) more in
    let here : width (get_or reaches 0 Near) p.piece ≡ width (get_or reaches 0 Near) x.piece = ap (λ (y : PlacedPiece). width (get_or reaches 0 Near) y.piece) same in
    omega (arith, none, here)
words_step reaches (p ∷ more) (suc n) x e =
    let later : words_before (drop 1 reaches) more (n + 1) ≡ words_before (drop 1 reaches) more n + width (get_or (drop 1 reaches) n Near) x.piece = words_step (drop 1 reaches) more n x e in
    let flag : width (get_or (drop 1 reaches) n Near) x.piece ≡ width (get_or reaches (suc n) Near) x.piece = ap (λ f. width f x.piece) (tail_flag reaches n) in
    let next : suc n + 1 ≡ suc (n + 1) = omega arith in
    let here : words_before reaches (p ∷ more) (suc n + 1) ≡ words_before reaches (p ∷ more) (suc (n + 1)) = ap (λ k. words_before reaches (p ∷ more) k) next in
    omega (arith, later, flag, here)

-- A label stands in the code or directly behind it.
pub label_within : (room : Room) (most : ℕ) (s : SequenceForm) (l : LayoutForm) (first : ℕ) → IsLayoutOf room s l → first + words_before l.reaches s.pieces (length s.pieces) ≤ most → (b : ℕ) → first + label_at s.labels l.offsets b ≤ most
label_within room most s l first layout all b = by_order (cases_lt (slice_index s.labels b) (length s.pieces + 1))
  where
    by_order : (slice_index s.labels b < length s.pieces + 1) ⊎ (length s.pieces + 1 ≤ slice_index s.labels b) → first + label_at s.labels l.offsets b ≤ most
    by_order (inl low) =
        let is : label_at s.labels l.offsets b ≡ words_before l.reaches s.pieces (slice_index s.labels b) = layout.offsets (slice_index s.labels b) (omega (arith, low)) in
        let more : words_before l.reaches s.pieces (slice_index s.labels b) ≤ words_before l.reaches s.pieces (length s.pieces) = words_more l.reaches s.pieces (slice_index s.labels b) (length s.pieces) (omega (arith, low)) in
        omega (arith, is, more, all)
    by_order (inr past) =
        let count : length l.offsets ≡ length s.pieces + 1 = layout.count in
        let is : label_at s.labels l.offsets b ≡ 0 = get_or_past l.offsets (slice_index s.labels b) 0 (omega (arith, past, count)) in
        omega (arith, is, all)

-- ---- Distances

distances : (regions : Map) (first a b : ℕ) → first + a ≤ most_words regions → first + b ≤ most_words regions → distance a b ≡ machine_distance (first + a) (first + b)
distances regions first a b la lb = by_order (cases_lt b a)
  where
    by_order : (b < a) ⊎ (a ≤ b) → distance a b ≡ machine_distance (first + a) (first + b)
    by_order (inl lt) = omega (arith, lt, la, lb, (map_facts regions).few)
    by_order (inr ge) = omega (arith, ge, la, lb, (map_facts regions).few)

distances_again : (regions : Map) (first a b : ℕ) → first + a + 1 ≤ most_words regions → first + b ≤ most_words regions → subtracted (distance a b) 4 ≡ machine_distance (first + a + 1) (first + b)
distances_again regions first a b la lb = by_order (cases_lt b a)
  where
    by_order : (b < a) ⊎ (a ≤ b) → subtracted (distance a b) 4 ≡ machine_distance (first + a + 1) (first + b)
    by_order (inl lt) = omega (arith, lt, la, lb, (map_facts regions).few)
    by_order (inr ge) = omega (arith, ge, la, lb, (map_facts regions).few)

call_distance : (regions : Map) (first a b : ℕ) → first + a ≤ most_words regions → b ≤ most_words regions → distance ((first + a) % 4294967296) b ≡ machine_distance (first + a) b
call_distance regions first a b la lb = by_order (cases_lt b (first + a))
  where
    by_order : (b < first + a) ⊎ (first + a ≤ b) → distance ((first + a) % 4294967296) b ≡ machine_distance (first + a) b
    by_order (inl lt) = omega (arith, lt, la, lb, (map_facts regions).few)
    by_order (inr ge) = omega (arith, ge, la, lb, (map_facts regions).few)

-- A distance between two words within the reach of a jump is one that a jump has.
jump_fits : (a b : ℕ) → a < jump_reach → b ≤ jump_reach → (b < jump_reach) ⊎ (1 ≤ a) → IsJumpDistance (machine_distance a b)
jump_fits a b la lb inside = by_order inside (cases_lt b a)
  where
    by_order : (b < jump_reach) ⊎ (1 ≤ a) → (b < a) ⊎ (a ≤ b) → IsJumpDistance (machine_distance a b)
    by_order (inl low) (inl lt) = (omega (arith, lt, la, lb), inr (omega (arith, lt, la, lb), omega (arith, lt, la, lb)))
    by_order (inl low) (inr ge) = (omega (arith, ge, la, lb), inl (omega (arith, ge, low)))
    by_order (inr some) (inl lt) = (omega (arith, lt, la, lb), inr (omega (arith, lt, la, lb), omega (arith, lt, la, lb)))
    by_order (inr some) (inr ge) = (omega (arith, ge, la, lb), inl (omega (arith, ge, some, lb)))

-- ---- One piece

-- A piece is a jump, a branch or a call.
abbrev pub Goes : Piece → Type 0
Goes (Word i) = ⊥
Goes (Jump to) = Unit {0}
Goes (Branch op l r to) = Unit {0}
Goes (Call f) = Unit {0}

-- What is known where a piece of a function stands: its index among the pieces, and the words before it, its own, and those behind.
pub record Here (p : Program) (owners : List ℕ) (s : SequenceForm) (l : LayoutForm) (first : ℕ) (firsts : List ℕ) (n : ℕ) (x : PlacedPiece) : Type 0 where
  pub room : Room
  pub layout : IsLayoutOf room s l
  pub calls : IsCallNear room firsts (get_or l.reaches n Near) (first + slice_index l.offsets n) x.piece
  pub stands : StandsIn p.map p.words owners s l first firsts
  pub stops : HasStops p.stops s l first
  pub get : slice_get s.pieces n ≡ Some x
  pub form : IsSpelled x.piece
  pub reach : room ≡ Small → most_words p.map ≤ jump_reach
  pub front : List OwnedWord
  pub back : List OwnedWord
  pub words : p.words ≡ map (λ (w : OwnedWord). w.word) (front ++ (owned_words x.owner (piece_code (lying s l first firsts) (get_or l.reaches n Near) (slice_index l.offsets n) x.piece) ++ back))
  pub own : owners ≡ map (λ (w : OwnedWord). w.owner) (front ++ (owned_words x.owner (piece_code (lying s l first firsts) (get_or l.reaches n Near) (slice_index l.offsets n) x.piece) ++ back))
  pub begin : length front ≡ first + words_before l.reaches s.pieces n
  pub inside : Goes x.piece → 1 ≤ first + words_before l.reaches s.pieces n

module _ (p : Program) (owners : List ℕ) (s : SequenceForm) (l : LayoutForm) (first : ℕ) (firsts : List ℕ) (n : ℕ) (x : PlacedPiece) (here : Here p owners s l first firsts n x) where
  abbrev at : ℕ
  at = first + words_before l.reaches s.pieces n

  offset : slice_index l.offsets n ≡ words_before l.reaches s.pieces n
  offset = let low : n < length s.pieces = slice_get_within s.pieces n x here.get in here.layout.offsets n (omega (arith, low))

  step : words_before l.reaches s.pieces (n + 1) ≡ words_before l.reaches s.pieces n + width (get_or l.reaches n Near) x.piece
  step = words_step l.reaches s.pieces n x here.get

  within : first + words_before l.reaches s.pieces (n + 1) ≤ most_words p.map
  within =
      let low : n < length s.pieces = slice_get_within s.pieces n x here.get in
      let more : words_before l.reaches s.pieces (n + 1) ≤ words_before l.reaches s.pieces (length s.pieces) = words_more l.reaches s.pieces (n + 1) (length s.pieces) (omega (arith, low)) in
      let all : first + words_before l.reaches s.pieces (length s.pieces) ≤ most_words p.map = here.stands.low in
      omega (arith, more, all)

  label_low : (b : ℕ) → first + label_at s.labels l.offsets b ≤ most_words p.map
  label_low b = label_within here.room (most_words p.map) s l first here.layout here.stands.low b

  -- An instruction whose word stands there.
  word_there : (i : Instruction) (owner : ℕ) (b : Bool) (m : ℕ) (front back : List OwnedWord) → length front ≡ m → p.words ≡ map (λ (w : OwnedWord). w.word) (front ++ (record { word = spelled i; owner = owner }) ∷ back) → IsInForm i → is_stop p.stops (address_of m) ≡ b → IsAt p m b i
  word_there i owner b m front back count words form stop = record {
    in_form = form;
    there = ap (λ (l : List ℕ). slice_get l m) words ∙ word_in front (record { word = spelled i; owner = owner }) back m count ∙ ap (λ k. Some k) (spelled_is i form);
    stop = stop;
  }

  code_is : (q : Piece) → x.piece ≡ q → p.words ≡ map (λ (w : OwnedWord). w.word) (here.front ++ (owned_words x.owner (piece_code (lying s l first firsts) (get_or l.reaches n Near) (slice_index l.offsets n) q) ++ here.back))
  code_is q e = subst (λ (r : Piece). p.words ≡ map (λ (w : OwnedWord). w.word) (here.front ++ (owned_words x.owner (piece_code (lying s l first firsts) (get_or l.reaches n Near) (slice_index l.offsets n) r) ++ here.back))) e here.words

  spelled_as : (q : Piece) → x.piece ≡ q → IsSpelled q
  spelled_as q e = subst (λ (r : Piece). IsSpelled r) e here.form

  near_as : (q : Piece) → x.piece ≡ q → IsNearEnough here.room s.labels l.offsets (get_or l.reaches n Near) (slice_index l.offsets n) q
  near_as q e = subst (λ (r : Piece). IsNearEnough here.room s.labels l.offsets (get_or l.reaches n Near) (slice_index l.offsets n) r) e (here.layout.near n x here.get)

  width_as : (q : Piece) → x.piece ≡ q → words_before l.reaches s.pieces (n + 1) ≡ words_before l.reaches s.pieces n + width (get_or l.reaches n Near) q
  width_as q e = step ∙ ap (λ (r : Piece). words_before l.reaches s.pieces n + width (get_or l.reaches n Near) r) e

  stop_is : is_stop p.stops (address_of at) ≡ x.is_stop
  stop_is = here.stops.one n x here.get

  abbrev targets : Targets
  targets = targets_of owners s l first firsts

  -- A jump of one word reaches: in the larger room by the layout, in the smaller one since all code is within its reach.
  jump_form : (room : Room) → (room ≡ Small → most_words p.map ≤ jump_reach) → (m to d : ℕ) → d ≡ machine_distance m to → IsJumpNear room d → m + 1 ≤ most_words p.map → to ≤ most_words p.map → 1 ≤ m → IsJumpDistance (machine_distance m to)
  jump_form Small reach m to d same near low fits some = let all = reach refl in jump_fits m to (omega (arith, low, all)) (omega (arith, fits, all)) (inr some)
  jump_form Large reach m to d same near low fits some = subst IsJumpDistance same near

  -- The words of a jump or a call stand behind others.
  jump_stands : (r q m d to : ℕ) (b : Bool) (front back : List OwnedWord) (x : Reach) (owner : ℕ) → r < 32 → q < 32 → length front ≡ m → p.words ≡ map (λ (w : OwnedWord). w.word) (front ++ (owned_words owner (jump_code x r q d) ++ back)) → d ≡ machine_distance m to
      → (x ≢ Far → IsJumpNear here.room d) → m + 1 ≤ most_words p.map → to ≤ most_words p.map → 1 ≤ m → is_stop p.stops (address_of m) ≡ b → (jump_width x ≡ 2 → is_stop p.stops (address_of (m + 1)) ≡ false)
      → IsJump p m b r q to (m + jump_width x)
  jump_stands r q m d to b front back Near owner fr fq count words same near low fits some stop later =
      inl (
        word_there (instruction.Jal r (machine_distance m to)) owner b m front back count (subst (λ e. p.words ≡ map (λ (w : OwnedWord). w.word) (front ++ (record { word = spelled (instruction.Jal r e); owner = owner }) ∷ back)) same words)
            (fr, jump_form here.room here.reach m to d same (near (λ e. cc)) low fits some) stop,
        refl,
      )
  jump_stands r q m d to b front back Over owner fr fq count words same near low fits some stop later =
      inl (
        word_there (instruction.Jal r (machine_distance m to)) owner b m front back count (subst (λ e. p.words ≡ map (λ (w : OwnedWord). w.word) (front ++ (record { word = spelled (instruction.Jal r e); owner = owner }) ∷ back)) same words)
            (fr, jump_form here.room here.reach m to d same (near (λ e. cc)) low fits some) stop,
        refl,
      )
  jump_stands r q m d to b front back Far owner fr fq count words same near low fits some stop later =
      let e : ℕ = machine_distance m to in
      let one : OwnedWord = record { word = spelled (instruction.Auipc q (high_part e)); owner = owner } in
      let two : OwnedWord = record { word = spelled (instruction.Jalr r q (low_part e)); owner = owner } in
      let both : p.words ≡ map (λ (w : OwnedWord). w.word) (front ++ one ∷ (two ∷ back)) =
      subst (λ k. p.words ≡ map (λ (w : OwnedWord). w.word) (front ++ (record { word = spelled (instruction.Auipc q (high_part k)); owner = owner }) ∷ ((record { word = spelled (instruction.Jalr r q (low_part k)); owner = owner }) ∷ back))) same words in
      let next : length (front ++ one ∷ []) ≡ m + 1 = length-append front (one ∷ []) ∙ ap (λ k. k + 1) count in
      inr (
        word_there (instruction.Auipc q (high_part e)) owner b m front (two ∷ back) count both (fq, high_is e) stop,
        word_there (instruction.Jalr r q (low_part e)) owner false (m + 1) (front ++ one ∷ []) back next (both ∙ ap (λ ws. map (λ (w : OwnedWord). w.word) ws) (sym (append_assoc front (one ∷ []) (two ∷ back)))) (fr, fq, low_is e) (later refl),
        refl,
      )

  label_distance : (to : ℕ) → at + 1 ≤ most_words p.map → distance (slice_index l.offsets n) (label_at s.labels l.offsets to) ≡ machine_distance at (first + label_at s.labels l.offsets to)
  label_distance to low = ap (λ k. distance k (label_at s.labels l.offsets to)) offset ∙ distances p.map first (words_before l.reaches s.pieces n) (label_at s.labels l.offsets to) (omega (arith, low)) (label_low to)

  has_one : (q : Piece) → x.piece ≡ q → at + 1 ≤ most_words p.map
  has_one q e = let wide = width_as q e in let some = width_some (get_or l.reaches n Near) q in let fits = within in omega (arith, wide, some, fits)

  -- There is no stop at its second or third word.
  later_none : (j : ℕ) (q : Piece) → x.piece ≡ q → 1 ≤ j → j < width (get_or l.reaches n Near) q → is_stop p.stops (address_of (at + j)) ≡ false
  later_none j q e some lt = here.stops.later n j x here.get some (subst (λ (r : Piece). j < width (get_or l.reaches n Near) r) (sym e) lt)

  -- A piece stands there, up to the next one.
  piece_there : (q : Piece) → x.piece ≡ q → PieceAt p targets at x.is_stop q (first + words_before l.reaches s.pieces (n + 1))
  piece_there (Word i) e =
      let wide : words_before l.reaches s.pieces (n + 1) ≡ words_before l.reaches s.pieces n + 1 = width_as (Word i) e in
      (word_there i x.owner x.is_stop at here.front here.back here.begin (code_is (Word i) e) (spelled_as (Word i) e) stop_is, omega (arith, wide))
  piece_there (Jump to) e =
      let wide = width_as (Jump to) e in
      let low = has_one (Jump to) e in
      let behind : at + jump_width (get_or l.reaches n Near) ≡ first + words_before l.reaches s.pieces (n + 1) = omega (arith, wide) in
      subst (λ k. IsJump p at x.is_stop 0 5 (first + label_at s.labels l.offsets to.0) k) behind
      (jump_stands 0 5 at (distance (slice_index l.offsets n) (label_at s.labels l.offsets to.0)) (first + label_at s.labels l.offsets to.0) x.is_stop here.front here.back (get_or l.reaches n Near) x.owner (omega arith) (omega arith) here.begin (code_is (Jump to) e)
      (label_distance to.0 low) (near_as (Jump to) e) low (label_low to.0) (here.inside (subst Goes (sym e) tt)) stop_is (λ two. later_none 1 (Jump to) e (omega arith) (omega (arith, two))))
  piece_there (Call f) e =
      let wide = width_as (Call f) e in
      let low = has_one (Call f) e in
      let behind : at + jump_width (get_or l.reaches n Near) ≡ first + words_before l.reaches s.pieces (n + 1) = omega (arith, wide) in
      let same : distance ((first + slice_index l.offsets n) % 4294967296) (slice_index firsts f) ≡ machine_distance at (slice_index firsts f) =
      ap (λ k. distance ((first + k) % 4294967296) (slice_index firsts f)) offset ∙ call_distance p.map first (words_before l.reaches s.pieces n) (slice_index firsts f) (omega (arith, low)) (here.stands.functions f) in
      let here_is : (first + slice_index l.offsets n) % 4294967296 ≡ first + slice_index l.offsets n = omega (arith, offset, low, (map_facts p.map).few) in
      let near : get_or l.reaches n Near ≢ Far → IsJumpNear here.room (distance (first + slice_index l.offsets n) (slice_index firsts f)) = subst (λ (q : Piece). IsCallNear here.room firsts (get_or l.reaches n Near) (first + slice_index l.offsets n) q) e here.calls in
      subst (λ k. IsJump p at x.is_stop 1 1 (slice_index firsts f) k) behind
      (jump_stands 1 1 at (distance ((first + slice_index l.offsets n) % 4294967296) (slice_index firsts f)) (slice_index firsts f) x.is_stop here.front here.back (get_or l.reaches n Near) x.owner (omega arith) (omega arith) here.begin (code_is (Call f) e)
      same (λ short. subst (λ k. IsJumpNear here.room (distance k (slice_index firsts f))) (sym here_is) (near short)) low (here.stands.functions f) (here.inside (subst Goes (sym e) tt)) stop_is (λ two. later_none 1 (Call f) e (omega arith) (omega (arith, two))))
  piece_there (Branch op a b to) e = by_reach (get_or l.reaches n Near) refl
    where
      spelled_ok : IsRegister a × IsRegister b
      spelled_ok = spelled_as (Branch op a b to) e

      words_by : (r : Reach) → get_or l.reaches n Near ≡ r → p.words ≡ map (λ (w : OwnedWord). w.word) (here.front ++ (owned_words x.owner (piece_code (lying s l first firsts) r (slice_index l.offsets n) (Branch op a b to)) ++ here.back))
      words_by r flag = subst (λ f. p.words ≡ map (λ (w : OwnedWord). w.word) (here.front ++ (owned_words x.owner (piece_code (lying s l first firsts) f (slice_index l.offsets n) (Branch op a b to)) ++ here.back))) flag (code_is (Branch op a b to) e)

      wide_by : (r : Reach) → get_or l.reaches n Near ≡ r → words_before l.reaches s.pieces (n + 1) ≡ words_before l.reaches s.pieces n + branch_width r
      wide_by r flag = width_as (Branch op a b to) e ∙ ap (λ f. words_before l.reaches s.pieces n + branch_width f) flag

      -- The opposite branch over a jump.
      over : (r : Reach) → get_or l.reaches n Near ≡ r → branch_width r ≡ 1 + jump_width r → IsInForm (instruction.Branch (opposite op) a b (4 * branch_width r))
          → p.words ≡ map (λ (w : OwnedWord). w.word) (here.front ++ (owned_words x.owner (instruction.Branch (opposite op) a b (4 * branch_width r) ∷ jump_code r 0 5 (subtracted (distance (slice_index l.offsets n) (label_at s.labels l.offsets to.0)) 4)) ++ here.back))
          → (r ≢ Far → IsJumpNear here.room (distance (slice_index l.offsets n + 1) (label_at s.labels l.offsets to.0)))
          → IsOver p targets at x.is_stop op a b to.0 (first + words_before l.reaches s.pieces (n + 1))
      over r flag both form words near =
          let wide = wide_by r flag in
          let fits = within in
          let i : ℕ = 4 * branch_width r in
          let one : OwnedWord = record { word = spelled (instruction.Branch (opposite op) a b (4 * branch_width r)); owner = x.owner } in
          let jump = owned_words x.owner (jump_code r 0 5 (subtracted (distance (slice_index l.offsets n) (label_at s.labels l.offsets to.0)) 4)) in
          let some : 1 ≤ jump_width r = jump_one r in
          let low : at + 1 + 1 ≤ most_words p.map = omega (arith, wide, both, some, fits) in
          let same : subtracted (distance (slice_index l.offsets n) (label_at s.labels l.offsets to.0)) 4 ≡ machine_distance (at + 1) (first + label_at s.labels l.offsets to.0) =
          ap (λ k. subtracted (distance k (label_at s.labels l.offsets to.0)) 4) offset ∙ distances_again p.map first (words_before l.reaches s.pieces n) (label_at s.labels l.offsets to.0) (omega (arith, low)) (label_low to.0) in
          let also : distance (slice_index l.offsets n + 1) (label_at s.labels l.offsets to.0) ≡ subtracted (distance (slice_index l.offsets n) (label_at s.labels l.offsets to.0)) 4 = omega (arith, offset, low, (map_facts p.map).few) in
          let next : length (here.front ++ one ∷ []) ≡ at + 1 = length-append here.front (one ∷ []) ∙ ap (λ k. k + 1) here.begin in
          let leads : 4 * branch_width r ≡ 4 * (first + words_before l.reaches s.pieces (n + 1) - at) = omega (arith, wide) in
          let behind : at + 1 + jump_width r ≡ first + words_before l.reaches s.pieces (n + 1) = omega (arith, wide, both) in (
            subst (λ d. IsAt p at x.is_stop (instruction.Branch (opposite op) a b d)) leads (word_there (instruction.Branch (opposite op) a b (4 * branch_width r)) x.owner x.is_stop at here.front (jump ++ here.back) here.begin words form stop_is),
            subst (λ k. IsJump p (at + 1) false 0 5 (first + label_at s.labels l.offsets to.0) k) behind
                (jump_stands 0 5 (at + 1) (subtracted (distance (slice_index l.offsets n) (label_at s.labels l.offsets to.0)) 4) (first + label_at s.labels l.offsets to.0) false (here.front ++ one ∷ []) here.back r x.owner (omega arith) (omega arith) next
                (words ∙ ap (λ ws. map (λ (w : OwnedWord). w.word) ws) (sym (append_assoc here.front (one ∷ []) (jump ++ here.back)))) same
                (λ short. subst (λ d. IsJumpNear here.room d) also (near short)) low (label_low to.0) (omega arith)
                (later_none 1 (Branch op a b to) e (omega arith) (subst (λ f. 1 < branch_width f) (sym flag) (omega (arith, both, some))))
                (λ two. subst (λ k. is_stop p.stops (address_of k) ≡ false) (let k : at + 2 ≡ at + 1 + 1 = omega arith in k) (later_none 2 (Branch op a b to) e (omega arith) (subst (λ f. 2 < branch_width f) (sym flag) (omega (arith, both, two)))))),
          )

      by_reach : (r : Reach) → get_or l.reaches n Near ≡ r → PieceAt p targets at x.is_stop (Branch op a b to) (first + words_before l.reaches s.pieces (n + 1))
      by_reach Near flag =
          let wide = wide_by Near flag in
          let low = has_one (Branch op a b to) e in
          let same = label_distance to.0 low in
          let form : IsBranchDistance (machine_distance at (first + label_at s.labels l.offsets to.0)) = subst IsBranchDistance same ((near_as (Branch op a b to) e).0 flag) in
          inl (
            word_there (instruction.Branch op a b (machine_distance at (first + label_at s.labels l.offsets to.0))) x.owner x.is_stop at here.front here.back here.begin
                (subst (λ d. p.words ≡ map (λ (w : OwnedWord). w.word) (here.front ++ (record { word = spelled (instruction.Branch op a b d); owner = x.owner }) ∷ here.back)) same (words_by Near flag))
                (spelled_ok.0, spelled_ok.1, form) stop_is,
            omega (arith, wide),
          )
      by_reach Over flag = inr (over Over flag refl (spelled_ok.0, spelled_ok.1, (refl, inl (omega arith))) (words_by Over flag) (λ short. (near_as (Branch op a b to) e).1 flag))
      by_reach Far flag = inr (over Far flag refl (spelled_ok.0, spelled_ok.1, (refl, inl (omega arith))) (words_by Far flag) (λ short. absurd (short refl)))

  -- Its words belong to its place.
  owners_there : (code : List Instruction) (front : List OwnedWord) (m : ℕ) → length front ≡ m → owners ≡ map (λ (w : OwnedWord). w.owner) (front ++ (owned_words x.owner code ++ here.back)) → (k : ℕ) → m ≤ k → k < m + length code → slice_index owners k ≡ x.owner
  owners_there [] front m count is k low high = absurd (omega (arith, low, high))
  owners_there (i ∷ code) front m count is k low high =
      ⊎_elim
      (λ (e : k < m + 1). let same : k ≡ m = omega (arith, low, e) in ap (λ n. slice_index owners n) same ∙ ap (λ (l : List ℕ). slice_index l m) is ∙ owner_in front (record { word = spelled i; owner = x.owner }) (owned_words x.owner code ++ here.back) m count)
      (λ (later : m + 1 ≤ k).
      owners_there code (front ++ (record { word = spelled i; owner = x.owner }) ∷ []) (m + 1) (length-append front ((record { word = spelled i; owner = x.owner }) ∷ []) ∙ ap (λ n. n + 1) count)
      (is ∙ ap (λ ws. map (λ (w : OwnedWord). w.owner) ws) (sym (append_assoc front ((record { word = spelled i; owner = x.owner }) ∷ []) (owned_words x.owner code ++ here.back)))) k later (omega (arith, high)))
      (cases_lt k (m + 1))

  jump_length : (r : Reach) (link by d : ℕ) → length (jump_code r link by d) ≡ jump_width r
  jump_length Near link by d = refl
  jump_length Over link by d = refl
  jump_length Far link by d = refl

  code_length : (q : Piece) → length (piece_code (lying s l first firsts) (get_or l.reaches n Near) (slice_index l.offsets n) q) ≡ width (get_or l.reaches n Near) q
  code_length (Word i) = refl
  code_length (Jump to) = jump_length (get_or l.reaches n Near) 0 5 _
  code_length (Call f) = jump_length (get_or l.reaches n Near) 1 1 _
  code_length (Branch op a b to) = by_reach (get_or l.reaches n Near)
    where
      by_reach : (r : Reach) → length (piece_code (lying s l first firsts) r (slice_index l.offsets n) (Branch op a b to)) ≡ branch_width r
      by_reach Near = refl
      by_reach Over = refl
      by_reach Far = refl

  owner_there : AreOf targets.owner at (first + words_before l.reaches s.pieces (n + 1)) x.owner
  owner_there k low high =
      let wide : length (piece_code (lying s l first firsts) (get_or l.reaches n Near) (slice_index l.offsets n) x.piece) ≡ width (get_or l.reaches n Near) x.piece = code_length x.piece in
      owners_there (piece_code (lying s l first firsts) (get_or l.reaches n Near) (slice_index l.offsets n) x.piece) here.front at here.begin here.own k low (omega (arith, high, wide, step))

-- ---- Pieces one behind the other

-- What is known of the code of a function.
pub record FunctionThere (p : Program) (owners : List ℕ) (s : SequenceForm) (l : LayoutForm) (first : ℕ) (firsts : List ℕ) : Type 0 where
  pub room : Room
  pub layout : IsLayoutOf room s l
  pub calls : (k : ℕ) (x : PlacedPiece) → slice_get s.pieces k ≡ Some x → IsCallNear room firsts (get_or l.reaches k Near) (first + slice_index l.offsets k) x.piece
  pub few : length s.pieces ≤ most_pieces
  pub stands : StandsIn p.map p.words owners s l first firsts
  pub stops : HasStops p.stops s l first
  pub forms : AreSpelled s.pieces
  pub reach : room ≡ Small → most_words p.map ≤ jump_reach
  pub inside : (k : ℕ) (x : PlacedPiece) → slice_get s.pieces k ≡ Some x → Goes x.piece → 1 ≤ first + words_before l.reaches s.pieces k

-- The words from a piece on stand behind others.
pub record WordsFrom (p : Program) (owners : List ℕ) (s : SequenceForm) (l : LayoutForm) (first : ℕ) (firsts : List ℕ) (back : List OwnedWord) (n : ℕ) (rest : List PlacedPiece) : Type 0 where
  pub front : List OwnedWord
  pub words : p.words ≡ map (λ (w : OwnedWord). w.word) (front ++ (words_from (lying s l first firsts) l.reaches n rest ++ back))
  pub own : owners ≡ map (λ (w : OwnedWord). w.owner) (front ++ (words_from (lying s l first firsts) l.reaches n rest ++ back))
  pub begin : length front ≡ first + words_before l.reaches s.pieces n

module _ (p : Program) (owners : List ℕ) (s : SequenceForm) (l : LayoutForm) (first : ℕ) (firsts : List ℕ) (there : FunctionThere p owners s l first firsts) (back : List OwnedWord) where
  -- A piece stands there, and the words behind it.
  pub record PieceThere (n : ℕ) (x : PlacedPiece) (rest : List PlacedPiece) : Type 0 where
    pub piece : PieceAt p (targets_of owners s l first firsts) (first + words_before l.reaches s.pieces n) x.is_stop x.piece (first + words_before l.reaches s.pieces (n + 1))
    pub owner : AreOf (targets_of owners s l first firsts).owner (first + words_before l.reaches s.pieces n) (first + words_before l.reaches s.pieces (n + 1)) x.owner
    pub behind : WordsFrom p owners s l first firsts back (n + 1) rest

  one_there : (n : ℕ) (x : PlacedPiece) (rest : List PlacedPiece) → drop n s.pieces ≡ x ∷ rest → WordsFrom p owners s l first firsts back n (x ∷ rest) → PieceThere n x rest
  one_there n x rest dropped from =
      let get : slice_get s.pieces n ≡ Some x = get_dropped s.pieces n x rest dropped in
      let low : n < length s.pieces = slice_get_within s.pieces n x get in
      let few : length s.pieces ≤ most_pieces = there.few in
      let next : counted (n + 1) ≡ n + 1 = omega (arith, low, few) in
      let code : List OwnedWord = owned_words x.owner (piece_code (lying s l first firsts) (get_or l.reaches n Near) (slice_index l.offsets n) x.piece) in
      let begin = from.begin in
      let here : Here p owners s l first firsts n x = record {
        room = there.room;
        layout = there.layout;
        calls = there.calls n x get;
        stands = there.stands;
        stops = there.stops;
        get = get;
        form = all_at (λ (y : PlacedPiece). IsSpelled y.piece) s.pieces n x there.forms get;
        reach = there.reach;
        front = from.front;
        back = words_from (lying s l first firsts) l.reaches (counted (n + 1)) rest ++ back;
        words = from.words ∙ ap (λ ws. map (λ (w : OwnedWord). w.word) (from.front ++ ws)) (append_assoc code (words_from (lying s l first firsts) l.reaches (counted (n + 1)) rest) back);
        own = from.own ∙ ap (λ ws. map (λ (w : OwnedWord). w.owner) (from.front ++ ws)) (append_assoc code (words_from (lying s l first firsts) l.reaches (counted (n + 1)) rest) back);
        begin = begin;
        inside = there.inside n x get;
      } in
      let wide : words_before l.reaches s.pieces (n + 1) ≡ words_before l.reaches s.pieces n + width (get_or l.reaches n Near) x.piece = words_step l.reaches s.pieces n x get in
      let size : length code ≡ width (get_or l.reaches n Near) x.piece = length-map (piece_code (lying s l first firsts) (get_or l.reaches n Near) (slice_index l.offsets n) x.piece) (λ i. record { word = spelled i; owner = x.owner }) ∙ code_length p owners s l first firsts n x here x.piece in
      let arranged : from.front ++ ((code ++ words_from (lying s l first firsts) l.reaches (counted (n + 1)) rest) ++ back) ≡ (from.front ++ code) ++ (words_from (lying s l first firsts) l.reaches (n + 1) rest ++ back) =
      ap (λ ws. from.front ++ ws) (append_assoc code (words_from (lying s l first firsts) l.reaches (counted (n + 1)) rest) back)
      ∙ sym (append_assoc from.front code (words_from (lying s l first firsts) l.reaches (counted (n + 1)) rest ++ back))
      ∙ ap (λ k. (from.front ++ code) ++ (words_from (lying s l first firsts) l.reaches k rest ++ back)) next in
      record {
        piece = piece_there p owners s l first firsts n x here x.piece refl;
        owner = owner_there p owners s l first firsts n x here;
        behind = record {
          front = from.front ++ code;
          words = from.words ∙ ap (λ ws. map (λ (w : OwnedWord). w.word) ws) arranged;
          own = from.own ∙ ap (λ ws. map (λ (w : OwnedWord). w.owner) ws) arranged;
          begin = length-append from.front code ∙ (omega (arith, begin, size, wide));
        };
      }

  -- Behind some pieces stand the words of the others.
  words_behind : (some rest : List PlacedPiece) (n : ℕ) → drop n s.pieces ≡ some ++ rest → WordsFrom p owners s l first firsts back n (some ++ rest) → WordsFrom p owners s l first firsts back (n + length some) rest
  words_behind [] rest n dropped from = let e : n ≡ n + 0 = omega arith in subst (λ k. WordsFrom p owners s l first firsts back k rest) e from
  words_behind (x ∷ some) rest n dropped from =
      let last : n + 1 + length some ≡ n + length (x ∷ some) = omega arith in
      subst (λ k. WordsFrom p owners s l first firsts back k rest) last (words_behind some rest (n + 1) (drop_next s.pieces n x (some ++ rest) dropped) (one_there n x (some ++ rest) dropped from).behind)

  -- Some pieces stand there, behind which there are others.
  pieces_from : (some rest : List PlacedPiece) (n : ℕ) → drop n s.pieces ≡ some ++ rest → WordsFrom p owners s l first firsts back n (some ++ rest)
      → PlacedAt p (targets_of owners s l first firsts) (first + words_before l.reaches s.pieces n) some (first + words_before l.reaches s.pieces (n + length some))
  pieces_from [] rest n dropped from = let e : n + 0 ≡ n = omega arith in ap (λ k. first + words_before l.reaches s.pieces k) e
  pieces_from (x ∷ some) rest n dropped from =
      let here : PieceThere n x (some ++ rest) = one_there n x (some ++ rest) dropped from in
      let last : n + 1 + length some ≡ n + length (x ∷ some) = omega arith in (
        first + words_before l.reaches s.pieces (n + 1),
        here.piece,
        here.owner,
        subst (λ k. PlacedAt p (targets_of owners s l first firsts) (first + words_before l.reaches s.pieces (n + 1)) some (first + words_before l.reaches s.pieces k)) last
            (pieces_from some rest (n + 1) (drop_next s.pieces n x (some ++ rest) dropped) here.behind),
      )

drop_some : (before rest : List PlacedPiece) → drop (length before) (before ++ rest) ≡ rest
drop_some [] rest = refl
drop_some (x ∷ before) rest = drop_some before rest

-- Pieces that stand in the sequence of a function stand in the code, each part where the layout has it.
pub part_there : (p : Program) (owners : List ℕ) (s : SequenceForm) (l : LayoutForm) (first : ℕ) (firsts : List ℕ) → FunctionThere p owners s l first firsts → (before part behind : List PlacedPiece) → s.pieces ≡ before ++ (part ++ behind)
    → PlacedAt p (targets_of owners s l first firsts) (first + words_before l.reaches s.pieces (length before)) part (first + words_before l.reaches s.pieces (length before + length part))
part_there p owners s l first firsts there before part behind e =
    let start : WordsFrom p owners s l first firsts there.stands.behind 0 (before ++ (part ++ behind)) = record {
      front = there.stands.before;
      words = subst (λ q. p.words ≡ map (λ (w : OwnedWord). w.word) (there.stands.before ++ (words_from (lying s l first firsts) l.reaches 0 q ++ there.stands.behind))) e there.stands.words;
      own = subst (λ q. owners ≡ map (λ (w : OwnedWord). w.owner) (there.stands.before ++ (words_from (lying s l first firsts) l.reaches 0 q ++ there.stands.behind))) e there.stands.owners;
      begin = there.stands.begin ∙ (omega (arith, none_before l.reaches s.pieces));
    } in
    let dropped : drop (length before) s.pieces ≡ part ++ behind = ap (λ q. drop (length before) q) e ∙ drop_some before (part ++ behind) in
    let here : 0 + length before ≡ length before = omega arith in
    pieces_from p owners s l first firsts there there.stands.behind part behind (length before) dropped
    (subst (λ k. WordsFrom p owners s l first firsts there.stands.behind k (part ++ behind)) here (words_behind p owners s l first firsts there there.stands.behind before (part ++ behind) 0 e start))
