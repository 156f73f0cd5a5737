-- The stops of code are those of its pieces, and each of these is one.
use Rattle.std.proofs.Common.{◌≡◌, ◌≢◌, ℕ, zero, suc, ◌+◌, ◌-◌, ◌<◌, ◌≤◌, ⊎_elim, ◌==◌, cond, Bool, true, false, Option, Some, None, List, [], ◌∷◌, length, map, slice_get, slice_index, refl, sym, subst, arith}
use Rattle.std.specs.Option.{option_map_or}
use Rattle.std.specs.List.{AllByRecursion}
use Rattle.std.proofs.lemmas.Bool.{cases_eq, or_left, or_right, or_from, eq-eqb, ne_eqb}
use Rattle.std.proofs.lemmas.Option.{slice_get_within}
use Rattle.memory_map.specs.declared.map.Map.{Map}
use Rattle.memory_map.specs.declared.map.Room.{Room}
use Rattle.memory_map.specs.Maps.{most_words}
use Rattle.memory_map.proofs.Facts.{map_facts}
use Rattle.rv_machine.specs.Run.{is_stop}
use Rattle.rv_emit_tables.specs.declared.emitted.PlacedStop.{PlacedStop}
use Rattle.graph_core.specs.Paths.{Among, front, behind}
use Rattle.rv_emit_words.specs.declared.piece.PlacedPiece.{PlacedPiece}
use Rattle.rv_emit_steps.specs.Programs.{address_of}
use Rattle.rv_emit_sequence.specs.Sequences.{SequenceForm}
use Rattle.rv_emit_layout.specs.Layouts.{LayoutForm, words_before, IsLayoutOf}
use Rattle.rv_emit_layout.specs.Tracing.{piece_address, stop_at, stops_of_block, stops_of_blocks, stops_of_pieces}
use Rattle.rv_emit_layout.proofs.Layouts.{words_more}
use Rattle.rv_emit_runs.specs.Stops.{IsStopOf}
pub use Rattle.base_laws.proofs.Lists.{both_all as all_append}
pub use Rattle.graph_core.proofs.Among.{among_left, among_right}

-- ---- Lists

-- ---- Addresses

-- An address at which one of the stops is.
pub stop_there : (stops : List PlacedStop) (x : PlacedStop) (a : ℕ) → Among x stops → x.address ≡ a → is_stop (map (λ (s : PlacedStop). s.address) stops) a ≡ true
stop_there [] x a there e = elim there [ ]
stop_there (_ ∷ more) x a front e = or_left (x.address == a) (is_stop (map (λ (s : PlacedStop). s.address) more) a) (eq-eqb x.address a e)
stop_there (y ∷ more) x a (behind there) e = or_right (y.address == a) (is_stop (map (λ (s : PlacedStop). s.address) more) a) (stop_there more x a there e)

-- One at which none is.
pub no_stop_there : (stops : List PlacedStop) (a : ℕ) → AllByRecursion (λ (s : PlacedStop). s.address ≢ a) stops → is_stop (map (λ (s : PlacedStop). s.address) stops) a ≡ false
no_stop_there [] a all = refl
no_stop_there (x ∷ more) a all = or_from (x.address == a) (is_stop (map (λ (s : PlacedStop). s.address) more) a) (ne_eqb x.address a all.0) (no_stop_there more a all.1)

-- ---- The stops of a function

module _ (room : Room) (regions : Map) (s : SequenceForm) (l : LayoutForm) (first : ℕ) (layout : IsLayoutOf room s l) (low : first + words_before l.reaches s.pieces (length s.pieces) ≤ most_words regions) where
  pub address_is : (i : ℕ) (x : PlacedPiece) → slice_get s.pieces i ≡ Some x → piece_address l first i ≡ address_of (first + words_before l.reaches s.pieces i)
  address_is i x e =
      let within : i < length s.pieces = slice_get_within s.pieces i x e in
      let offset : slice_index l.offsets i ≡ words_before l.reaches s.pieces i = layout.offsets i (omega (arith, within)) in
      let more : words_before l.reaches s.pieces i ≤ words_before l.reaches s.pieces (length s.pieces) = words_more l.reaches s.pieces i (length s.pieces) (omega (arith, within)) in
      omega (arith, offset, more, low, (map_facts regions).few)

  -- The stop of a piece.
  abbrev pub stop_of : (index : ℕ) → PlacedPiece → PlacedStop
  stop_of k x = record { place = x.owner; address = piece_address l first k }

  told : (i : ℕ) (found : Option PlacedPiece) → slice_get s.pieces i ≡ found → AllByRecursion (IsStopOf s l first) (option_map_or (stop_at (piece_address l first i)) found [])
  told i None e = tt
  told i (Some x) e = by_flag x.is_stop refl
    where
      by_flag : (b : Bool) → x.is_stop ≡ b → AllByRecursion (IsStopOf s l first) (cond b ((record { place = x.owner; address = piece_address l first i }) ∷ []) [])
      by_flag true flag = (record { index = i; piece = x; there = e; flag = flag; place = refl; address = address_is i x e }, tt)
      by_flag false flag = tt

  pieces_told : (i n : ℕ) → AllByRecursion (IsStopOf s l first) (stops_of_pieces s l first i n)
  pieces_told i zero = tt
  pieces_told i (suc n) = all_append (IsStopOf s l first) (option_map_or (stop_at (piece_address l first i)) (slice_get s.pieces i) []) (stops_of_pieces s l first (i + 1) n) (told i (slice_get s.pieces i) refl) (pieces_told (i + 1) n)

  -- Each is that of a piece.
  pub blocks_told : (b n : ℕ) → AllByRecursion (IsStopOf s l first) (stops_of_blocks s l first b n)
  blocks_told b zero = tt
  blocks_told b (suc n) = all_append (IsStopOf s l first) (stops_of_block s l first b) (stops_of_blocks s l first (b + 1) n) (pieces_told (slice_index s.labels b) (slice_index s.ends b - slice_index s.labels b)) (blocks_told (b + 1) n)

  piece_told : (i n k : ℕ) (x : PlacedPiece) → slice_get s.pieces k ≡ Some x → x.is_stop ≡ true → i ≤ k → k < i + n → Among (stop_of k x) (stops_of_pieces s l first i n)
  piece_told i zero k x e flag le lt = absurd (omega (arith, le, lt))
  piece_told i (suc n) k x e flag le lt =
      ⊎_elim
      (λ (same : k ≡ i).
      among_left (stop_of k x) (option_map_or (stop_at (piece_address l first i)) (slice_get s.pieces i) []) (stops_of_pieces s l first (i + 1) n)
      (subst (λ j. Among (stop_of k x) (option_map_or (stop_at (piece_address l first j)) (slice_get s.pieces j) [])) same
      (subst (λ found. Among (stop_of k x) (option_map_or (stop_at (piece_address l first k)) found [])) (sym e)
      (subst (λ b. Among (stop_of k x) (cond b ((stop_of k x) ∷ []) [])) (sym flag) front))))
      (λ (other : k ≢ i).
      among_right (stop_of k x) (option_map_or (stop_at (piece_address l first i)) (slice_get s.pieces i) []) (stops_of_pieces s l first (i + 1) n)
      (piece_told (i + 1) n k x e flag (omega (arith, le, other)) (omega (arith, lt))))
      (cases_eq k i)

  -- A piece of a block that is a stop is told.
  pub block_told : (b n c k : ℕ) (x : PlacedPiece) → slice_get s.pieces k ≡ Some x → x.is_stop ≡ true → b ≤ c → c < b + n → slice_index s.labels c ≤ k → k < slice_index s.ends c
      → Among (stop_of k x) (stops_of_blocks s l first b n)
  block_told b zero c k x e flag le lt from to = absurd (omega (arith, le, lt))
  block_told b (suc n) c k x e flag le lt from to =
      ⊎_elim
      (λ (same : c ≡ b).
      let from' : slice_index s.labels b ≤ k = subst (λ j. slice_index s.labels j ≤ k) same from in
      let to' : k < slice_index s.ends b = subst (λ j. k < slice_index s.ends j) same to in
      among_left (stop_of k x) (stops_of_block s l first b) (stops_of_blocks s l first (b + 1) n)
      (piece_told (slice_index s.labels b) (slice_index s.ends b - slice_index s.labels b) k x e flag from' (omega (arith, from', to'))))
      (λ (other : c ≢ b).
      among_right (stop_of k x) (stops_of_block s l first b) (stops_of_blocks s l first (b + 1) n)
      (block_told (b + 1) n c k x e flag (omega (arith, le, other)) (omega (arith, lt)) from to))
      (cases_eq c b)
