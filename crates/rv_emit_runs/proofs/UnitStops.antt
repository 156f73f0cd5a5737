-- The stops of a unit's code are those of its functions' pieces, and none other.
use Rattle.std.proofs.Common.{◌≡◌, ◌≢◌, ℕ, zero, suc, ◌+◌, ◌<◌, ◌≤◌, ⊎_elim, Bool, true, false, Some, List, [], ◌∷◌, length, map, slice_get, slice_index, get_or, refl, sym, ap, ◌∙◌, subst, arith}
use Rattle.std.specs.List.{AllByRecursion}
use Rattle.std.proofs.lemmas.Bool.{cases_eq, cases_lt, true≢false}
use Rattle.std.proofs.lemmas.Option.{slice_get_within}
use Rattle.memory_map.specs.declared.map.Map.{Map}
use Rattle.memory_map.specs.declared.map.Room.{Room}
use Rattle.memory_map.specs.Maps.{most_words}
use Rattle.rv_machine.specs.Run.{is_stop}
use Rattle.rv_emit_tables.specs.declared.emitted.PlacedStop.{PlacedStop}
use Rattle.graph_core.specs.Paths.{Among}
use Rattle.rv_emit_words.specs.declared.piece.PlacedPiece.{PlacedPiece}
use Rattle.rv_emit_steps.specs.Programs.{address_of}
use Rattle.rv_emit_sequence.specs.Sequences.{SequenceForm, counted}
use Rattle.rv_emit_layout.specs.declared.reaching.Reach.TheVariants.{Near}
use Rattle.rv_emit_layout.specs.declared.reaching.Reach.{Reach}
use Rattle.rv_emit_layout.specs.Reaches.{width}
use Rattle.rv_emit_layout.specs.Layouts.{words_before, IsLayoutOf}
use Rattle.rv_emit_layout.specs.Tracing.{piece_address, stops_of_blocks}
use Rattle.rv_emit_layout.proofs.Layouts.{words_more, width_some}
use Rattle.rv_emit_layout.specs.Laid.{LaidForm, stops_of_all}
use Rattle.rv_emit_runs.specs.EmitPlacedStanding.{HasStops}
use Rattle.rv_emit_runs.specs.Stops.{IsStopOf, IsStopOfOne}
use Rattle.rv_emit_runs.proofs.Pieces.{words_step}
use Rattle.rv_emit_runs.proofs.Stops.{blocks_told, block_told, no_stop_there, stop_there, all_append, among_left, among_right, address_is}
pub use Rattle.base_laws.proofs.Lists.{all_so as all_more}

-- A function has its layout and fits in the code, behind so many words.
pub record Fits (room : Room) (regions : Map) (l : LaidForm) (first : ℕ) : Type 0 where
  pub layout : IsLayoutOf room l.sequence l.layout
  pub low : first + words_before l.layout.reaches l.sequence.pieces (length l.sequence.pieces) ≤ most_words regions

-- ---- Each stop is that of a piece

pub functions_told : (room : Room) (regions : Map) (whole : List LaidForm) (firsts : List ℕ) (all : List LaidForm) (f : ℕ) → f + length all ≤ 4294967295 → ((k : ℕ) (l : LaidForm) → slice_get all k ≡ Some l → slice_get whole (f + k) ≡ Some l) → ((k : ℕ) (l : LaidForm) → slice_get all k ≡ Some l → Fits room regions l (slice_index firsts (f + k)))
    → AllByRecursion (IsStopOfOne whole firsts) (stops_of_all firsts f all)
functions_told room regions whole firsts [] f few part fits = tt
functions_told room regions whole firsts (l ∷ more) f few part fits =
    let here : f + 0 ≡ f = omega arith in
    let fit : Fits room regions l (slice_index firsts f) = subst (λ j. Fits room regions l (slice_index firsts j)) here (fits 0 l refl) in
    let next : counted (f + 1) ≡ f + 1 = omega (arith, few) in
    all_append (IsStopOfOne whole firsts) (stops_of_blocks l.sequence l.layout (slice_index firsts f) 0 (counted (length l.sequence.ends))) (stops_of_all firsts (counted (f + 1)) more)
    (all_more (IsStopOf l.sequence l.layout (slice_index firsts f)) (IsStopOfOne whole firsts)
    (λ x is. record { function = f; laid = l; there = subst (λ j. slice_get whole j ≡ Some l) here (part 0 l refl); is = is })
    (stops_of_blocks l.sequence l.layout (slice_index firsts f) 0 (counted (length l.sequence.ends)))
    (blocks_told room regions l.sequence l.layout (slice_index firsts f) fit.layout fit.low 0 (counted (length l.sequence.ends))))
    (functions_told room regions whole firsts more (counted (f + 1)) (omega (arith, few, next))
    (λ k m e. let shift : counted (f + 1) + k ≡ f + suc k = omega (arith, next) in subst (λ j. slice_get whole j ≡ Some m) (sym shift) (part (suc k) m e))
    (λ k m e. let shift : counted (f + 1) + k ≡ f + suc k = omega (arith, next) in subst (λ j. Fits room regions m (slice_index firsts j)) (sym shift) (fits (suc k) m e)))

-- ---- Each piece of a block that is a stop is told

function_told : (firsts : List ℕ) (all : List LaidForm) (f : ℕ) → f + length all ≤ 4294967295 → (k : ℕ) (l : LaidForm) (stop : PlacedStop) → slice_get all k ≡ Some l
    → Among stop (stops_of_blocks l.sequence l.layout (slice_index firsts (f + k)) 0 (counted (length l.sequence.ends))) → Among stop (stops_of_all firsts f all)
function_told firsts [] f few k l stop e there = cc
function_told firsts (x ∷ more) f few zero l stop at told =
    let same : x ≡ l = cc in
    let here : f + 0 ≡ f = omega arith in
    let first : Among stop (stops_of_blocks l.sequence l.layout (slice_index firsts f) 0 (counted (length l.sequence.ends))) = subst (λ j. Among stop (stops_of_blocks l.sequence l.layout (slice_index firsts j) 0 (counted (length l.sequence.ends)))) here told in
    among_left stop (stops_of_blocks x.sequence x.layout (slice_index firsts f) 0 (counted (length x.sequence.ends))) (stops_of_all firsts (counted (f + 1)) more)
    (subst (λ (m : LaidForm). Among stop (stops_of_blocks m.sequence m.layout (slice_index firsts f) 0 (counted (length m.sequence.ends)))) (sym same) first)
function_told firsts (x ∷ more) f few (suc j) l stop at told =
    let next : counted (f + 1) ≡ f + 1 = omega (arith, few) in
    let shift : f + suc j ≡ counted (f + 1) + j = omega (arith, next) in
    among_right stop (stops_of_blocks x.sequence x.layout (slice_index firsts f) 0 (counted (length x.sequence.ends))) (stops_of_all firsts (counted (f + 1)) more)
    (function_told firsts more (counted (f + 1)) (omega (arith, few, next)) j l stop at (subst (λ i. Among stop (stops_of_blocks l.sequence l.layout (slice_index firsts i) 0 (counted (length l.sequence.ends)))) shift told))

-- ---- Words apart

-- A piece begins before the next one.
pub words_apart : (reaches : List Reach) (pieces : List PlacedPiece) (i k : ℕ) (x : PlacedPiece) → slice_get pieces i ≡ Some x → i < k → words_before reaches pieces i + width (get_or reaches i Near) x.piece ≤ words_before reaches pieces k
words_apart reaches pieces i k x e lt =
    let step : words_before reaches pieces (i + 1) ≡ words_before reaches pieces i + width (get_or reaches i Near) x.piece = words_step reaches pieces i x e in
    let more : words_before reaches pieces (i + 1) ≤ words_before reaches pieces k = words_more reaches pieces (i + 1) k (omega (arith, lt)) in
    omega (arith, step, more)

-- What is known of all functions: each fits, and none overlaps another.
pub record FitTogether (room : Room) (regions : Map) (all : List LaidForm) (firsts : List ℕ) : Type 0 where
  pub few : length all ≤ 4294967295
  pub fits : (k : ℕ) (l : LaidForm) → slice_get all k ≡ Some l → Fits room regions l (slice_index firsts k)
  pub apart : (j k : ℕ) (l m : LaidForm) → j < k → slice_get all j ≡ Some l → slice_get all k ≡ Some m → slice_index firsts j + words_before l.layout.reaches l.sequence.pieces (length l.sequence.pieces) ≤ slice_index firsts k

pub same_laid : (all : List LaidForm) (k : ℕ) (l m : LaidForm) → slice_get all k ≡ Some l → slice_get all k ≡ Some m → l ≡ m
same_laid all k l m a b = (let e : Some l ≡ Some m = sym a ∙ b in cc)

same_piece : (all : List PlacedPiece) (k : ℕ) (x y : PlacedPiece) → slice_get all k ≡ Some x → slice_get all k ≡ Some y → x ≡ y
same_piece all k x y a b = (let e : Some x ≡ Some y = sym a ∙ b in cc)

-- A word of a piece of a function is no first word of another one.
module _ (room : Room) (regions : Map) (all : List LaidForm) (firsts : List ℕ) (together : FitTogether room regions all firsts) (f k : ℕ) (l : LaidForm) (x : PlacedPiece) (get : slice_get all f ≡ Some l) (at : slice_get l.sequence.pieces k ≡ Some x) where
  abbrev begins : ℕ
  begins = slice_index firsts f + words_before l.layout.reaches l.sequence.pieces k

  ends_low : words_before l.layout.reaches l.sequence.pieces k + width (get_or l.layout.reaches k Near) x.piece ≤ words_before l.layout.reaches l.sequence.pieces (length l.sequence.pieces)
  ends_low = words_apart l.layout.reaches l.sequence.pieces k (length l.sequence.pieces) x at (slice_get_within l.sequence.pieces k x at)

  -- The stop of a piece that stands at one of its words is its own.
  its_own : (w : ℕ) → w < width (get_or l.layout.reaches k Near) x.piece → (stop : PlacedStop) → IsStopOfOne all firsts stop → stop.address ≡ address_of (begins + w) → (w ≡ 0) × (x.is_stop ≡ true)
  its_own w low stop of e =
      let m : LaidForm = of.laid in
      let i : ℕ = of.is.index in
      let y : PlacedPiece = of.is.piece in
      let start = of.is.address in
      let same : slice_index firsts of.function + words_before m.layout.reaches m.sequence.pieces i ≡ begins + w = omega (arith, start, e) in
      let inner : words_before m.layout.reaches m.sequence.pieces i + width (get_or m.layout.reaches i Near) y.piece ≤ words_before m.layout.reaches m.sequence.pieces (length m.sequence.pieces) =
      words_apart m.layout.reaches m.sequence.pieces i (length m.sequence.pieces) y of.is.there (slice_get_within m.sequence.pieces i y of.is.there) in
      let some : 1 ≤ width (get_or m.layout.reaches i Near) y.piece = width_some (get_or m.layout.reaches i Near) y.piece in
      ⊎_elim
      (λ (g : of.function ≡ f). one_function g of.there of.is.there of.is.flag same)
      (λ (g : of.function ≢ f). ⊎_elim
      (λ (lt : of.function < f). let gap = together.apart of.function f m l lt of.there get in absurd (omega (arith, gap, same, inner, some)))
      (λ (ge : f ≤ of.function). let gap = together.apart f of.function l m (omega (arith, ge, g)) get of.there in absurd (omega (arith, gap, same, ends_low, low)))
      (cases_lt of.function f))
      (cases_eq of.function f)
    where
      one_piece : (i : ℕ) (y : PlacedPiece) → slice_get l.sequence.pieces i ≡ Some y → y.is_stop ≡ true → slice_index firsts f + words_before l.layout.reaches l.sequence.pieces i ≡ begins + w → (w ≡ 0) × (x.is_stop ≡ true)
      one_piece i y get2 flag same2 =
          ⊎_elim
          (λ (g : i ≡ k).
          let q : y ≡ x = same_piece l.sequence.pieces k y x (subst (λ j. slice_get l.sequence.pieces j ≡ Some y) g get2) at in
          let here : words_before l.layout.reaches l.sequence.pieces i ≡ words_before l.layout.reaches l.sequence.pieces k = ap (λ j. words_before l.layout.reaches l.sequence.pieces j) g in
          (omega (arith, same2, here), subst (λ (z : PlacedPiece). z.is_stop ≡ true) q flag))
          (λ (g : i ≢ k). ⊎_elim
          (λ (lt : i < k).
          let gap = words_apart l.layout.reaches l.sequence.pieces i k y get2 lt in
          let some : 1 ≤ width (get_or l.layout.reaches i Near) y.piece = width_some (get_or l.layout.reaches i Near) y.piece in
          absurd (omega (arith, gap, some, same2)))
          (λ (ge : k ≤ i). let gap = words_apart l.layout.reaches l.sequence.pieces k i x at (omega (arith, ge, g)) in absurd (omega (arith, gap, low, same2)))
          (cases_lt i k))
          (cases_eq i k)

      one_function : of.function ≡ f → slice_get all of.function ≡ Some of.laid → slice_get of.laid.sequence.pieces of.is.index ≡ Some of.is.piece → of.is.piece.is_stop ≡ true
          → slice_index firsts of.function + words_before of.laid.layout.reaches of.laid.sequence.pieces of.is.index ≡ begins + w → (w ≡ 0) × (x.is_stop ≡ true)
      one_function g there get' flag same =
          let e1 : of.laid ≡ l = same_laid all f of.laid l (subst (λ j. slice_get all j ≡ Some of.laid) g there) get in
          let get2 : slice_get l.sequence.pieces of.is.index ≡ Some of.is.piece = subst (λ (q : LaidForm). slice_get q.sequence.pieces of.is.index ≡ Some of.is.piece) e1 get' in
          let same2 : slice_index firsts f + words_before l.layout.reaches l.sequence.pieces of.is.index ≡ begins + w =
          subst (λ j. slice_index firsts j + words_before l.layout.reaches l.sequence.pieces of.is.index ≡ begins + w) g (subst (λ (q : LaidForm). slice_index firsts of.function + words_before q.layout.reaches q.sequence.pieces of.is.index ≡ begins + w) e1 same) in
          one_piece of.is.index of.is.piece get2 flag same2

-- ---- So there are stops exactly there

-- Pieces that are stops are those of blocks.
abbrev pub StopsAreInBlocks : SequenceForm → Type 0
StopsAreInBlocks s = (k : ℕ) (x : PlacedPiece) → slice_get s.pieces k ≡ Some x → x.is_stop ≡ true → (b : ℕ) × (b < length s.ends) × (slice_index s.labels b ≤ k) × (k < slice_index s.ends b)

pub has_stops : (room : Room) (regions : Map) (all : List LaidForm) (firsts : List ℕ) → FitTogether room regions all firsts → (f : ℕ) (l : LaidForm) → slice_get all f ≡ Some l → StopsAreInBlocks l.sequence → length l.sequence.ends ≤ 4294967295
    → HasStops (map (λ (s : PlacedStop). s.address) (stops_of_all firsts 0 all)) l.sequence l.layout (slice_index firsts f)
has_stops room regions all firsts together f l get inside few = record {
  one = λ k x at. by_flag k x at x.is_stop refl;
  later = λ k j x at some wide.
      no_stop_there (stops_of_all firsts 0 all) (address_of (slice_index firsts f + words_before l.layout.reaches l.sequence.pieces k + j))
      (all_more (IsStopOfOne all firsts) (λ (s : PlacedStop). s.address ≢ address_of (slice_index firsts f + words_before l.layout.reaches l.sequence.pieces k + j))
      (λ s of e. let own = its_own room regions all firsts together f k l x get at j wide s of e in let none : j ≡ 0 = own.0 in absurd (omega (arith, none, some))) (stops_of_all firsts 0 all) told);
}
  where
    told : AllByRecursion (IsStopOfOne all firsts) (stops_of_all firsts 0 all)
    told = functions_told room regions all firsts all 0 (let some : length all ≤ 4294967295 = together.few in omega (arith, some))
        (λ k m e. let here : k ≡ 0 + k = omega arith in subst (λ j. slice_get all j ≡ Some m) here e)
        (λ k m e. let here : k ≡ 0 + k = omega arith in subst (λ j. Fits room regions m (slice_index firsts j)) here (together.fits k m e))

    same_number : (n : ℕ) → n ≡ 0 + n
    same_number n = omega arith

    by_flag : (k : ℕ) (x : PlacedPiece) → slice_get l.sequence.pieces k ≡ Some x → (b : Bool) → x.is_stop ≡ b → is_stop (map (λ (s : PlacedStop). s.address) (stops_of_all firsts 0 all)) (address_of (slice_index firsts f + words_before l.layout.reaches l.sequence.pieces k)) ≡ x.is_stop
    by_flag k x at true flag =
        let fit : Fits room regions l (slice_index firsts f) = together.fits f l get in
        let block = inside k x at flag in
        let low : block.0 < length l.sequence.ends = block.1 in
        stop_there (stops_of_all firsts 0 all) (record { place = x.owner; address = piece_address l.layout (slice_index firsts f) k }) (address_of (slice_index firsts f + words_before l.layout.reaches l.sequence.pieces k))
        (function_told firsts all 0 (let some : length all ≤ 4294967295 = together.few in omega (arith, some)) f l (record { place = x.owner; address = piece_address l.layout (slice_index firsts f) k }) get
        (subst (λ m. Among (record { place = x.owner; address = piece_address l.layout (slice_index firsts f) k }) (stops_of_blocks l.sequence l.layout (slice_index firsts m) 0 (counted (length l.sequence.ends)))) (same_number f)
        (block_told room regions l.sequence l.layout (slice_index firsts f) fit.layout fit.low 0 (counted (length l.sequence.ends)) block.0 k x at flag (omega arith) (omega (arith, low, few)) block.2 block.3)))
        (address_is room regions l.sequence l.layout (slice_index firsts f) fit.layout fit.low k x at) ∙ sym flag
    by_flag k x at false flag =
        no_stop_there (stops_of_all firsts 0 all) (address_of (slice_index firsts f + words_before l.layout.reaches l.sequence.pieces k))
        (all_more (IsStopOfOne all firsts) (λ (s : PlacedStop). s.address ≢ address_of (slice_index firsts f + words_before l.layout.reaches l.sequence.pieces k))
        (λ s of e.
        let here : s.address ≡ address_of (slice_index firsts f + words_before l.layout.reaches l.sequence.pieces k + 0) = e ∙ (omega arith) in
        let own = its_own room regions all firsts together f k l x get at 0 (width_some (get_or l.layout.reaches k Near) x.piece) s of here in
        absurd (true≢false (sym own.1 ∙ flag)))
        (stops_of_all firsts 0 all) told) ∙ sym flag
