-- Where pieces stand that write no home but those that their places may write, the words of a place write no other.
use Rattle.std.proofs.Common.{◌≡◌, ◌≢◌, ℕ, ◌+◌, ◌-◌, ◌*◌, ◌%◌, ◌<◌, ◌≤◌, ◌⊎◌, inl, inr, ⊎_elim, Bool, false, Option, Some, None, List, [], ◌∷◌, slice_get, refl, sym, ap, ◌∙◌, subst, arith}
use Rattle.std.proofs.lemmas.Bool.{cases_lt}
use Rattle.std.proofs.lemmas.Option.{none-some, same_Some}
use Rattle.rv_code.specs.declared.instruction.Instruction.{Instruction}
use Rattle.rv_code.specs.declared.instruction.Instruction.TheVariants.{Lui, Auipc, Jal, Jalr, Branch, Load, Store, Immediate, Register as OnRegisters, Fence, Ecall, Ebreak}
use Rattle.rv_code.specs.declared.instruction.RegisterOperation.TheVariants as on
use Rattle.rv_code.specs.Decoding.{decoded}
use Rattle.rv_code.specs.Encoding.{encoded}
use Rattle.rv_code.proofs.RoundTrip.{decoded_encoded}
use Rattle.graph_homes.specs.declared.home.Home.{Home}
use Rattle.graph_homes.specs.declared.home.Home.TheVariants.{Register, Slot}
use Rattle.graph_homes.specs.Homed.{IsHomeAmong, IsHomeRegister}
use Rattle.rv_emit_words.specs.Constants.{high_part, low_part}
use Rattle.rv_emit_words.specs.declared.piece.Piece.{Piece}
use Rattle.rv_emit_words.specs.declared.piece.Piece.TheVariants as piece
use Rattle.rv_emit_words.specs.declared.piece.PlacedPiece.{PlacedPiece}
use Rattle.rv_emit_storage.specs.Storages.{StorageForm, slot_at}
use Rattle.rv_emit_code.specs.Ends.{opposite}
use Rattle.rv_emit_steps.specs.Programs.{Program, IsAt, distance}
use Rattle.rv_emit_runs.specs.Pieces.{Targets, IsJump, PieceAt}
use Rattle.rv_emit_runs.specs.Placed.{PlacedAt}
use Rattle.rv_emit_runs.specs.Writing.{AreSpelledAt, IsSpelledAt, MakesRegister, MayReach, MayStore, MayWrite, near, far}
use Rattle.rv_emit_runs.proofs.Sparing.{Before, IsBehind, IsSparing, MayStoreAt, low}
use Rattle.rv_emit_runs.proofs.SparingCode.{AllSpare, IsSparingPiece, first_behind, second_behind}

-- A word spells one instruction.
spelled_once : (words : List ℕ) (i : ℕ) (x y : Instruction) → IsSpelledAt words i x → IsSpelledAt words i y → x ≡ y
spelled_once words i x y (v, at, is) (w, also, too) =
    let same : v ≡ w = same_Some v w (sym at ∙ also) in
    same_Some x y (sym is ∙ ap decoded same ∙ too)

abbrev upper_of_lui : Instruction → ℕ
upper_of_lui (Lui d n) = n
upper_of_lui _ = 0

-- given: the code, where values are found, how many slots there are, and which homes words of each place may write
module _ (p : Program) (t : Targets) (g : StorageForm) (slots : ℕ) (V : (owner : ℕ) → Home → Type 0) where
  -- What is known of the two words before an index is so.
  record IsKnown (i : ℕ) (a b : Before) : Type 0 where
    pub first : (x : Instruction) → a ≡ Some x → (m : ℕ) × (m + 2 ≡ i) × IsSpelledAt p.words m x
    pub second : (x : Instruction) → b ≡ Some x → (m : ℕ) × (m + 1 ≡ i) × IsSpelledAt p.words m x

  nothing_known : (i : ℕ) → IsKnown i None None
  nothing_known i = record { first = λ x e. absurd (none-some x e); second = λ x e. absurd (none-some x e) }

  spelled_there : (i : ℕ) (stops : Bool) (x : Instruction) → IsAt p i stops x → IsSpelledAt p.words i x
  spelled_there i stops x at = (encoded x, at.there, decoded_encoded x at.in_form)

  -- ---- One word

  makes_allowed : (W : Home → Type 0) (a b : Before) (r : ℕ) (x : Instruction) → IsHomeRegister r → IsSparing g slots W a b x → MakesRegister r x → W (Register r)
  makes_allowed W a b r (Lui d n) home is e = subst (λ q. IsHomeRegister q → W (Register q)) e is home
  makes_allowed W a b r (Auipc d n) home is e = subst (λ q. IsHomeRegister q → W (Register q)) e is home
  makes_allowed W a b r (Jal d n) home is e = subst (λ q. IsHomeRegister q → W (Register q)) e is home
  makes_allowed W a b r (Jalr d base n) home is e = subst (λ q. IsHomeRegister q → W (Register q)) e is home
  makes_allowed W a b r (Branch op x y n) home is e = absurd e
  makes_allowed W a b r (Load op d base n) home is e = subst (λ q. IsHomeRegister q → W (Register q)) e is home
  makes_allowed W a b r (Store op v base n) home is e = absurd e
  makes_allowed W a b r (Immediate op d x n) home is e = subst (λ q. IsHomeRegister q → W (Register q)) e is home
  makes_allowed W a b r (OnRegisters op d x y) home is e = subst (λ q. IsHomeRegister q → W (Register q)) e is home
  makes_allowed W a b r (Fence x y n) home is e = absurd e
  makes_allowed W a b r Ecall home is e = absurd e
  makes_allowed W a b r Ebreak home is e = absurd e

  stores_allowed : (W : Home → Type 0) (a b : Before) (k i : ℕ) (x : Instruction) → k < slots → IsSpelledAt p.words i x → IsSparing g slots W a b x → IsKnown i a b → MayStore p.words (slot_at g k) i → W (Slot k)
  stores_allowed W a b k i x lt there is known (near op register n spelled reach) =
      let same : x ≡ Store op register 2 n = spelled_once p.words i x (Store op register 2 n) there spelled in
      (subst (IsSparing g slots W a b) same is).0 refl k lt reach
  stores_allowed W a b k i x lt there is known (far op register from upper n index spelled reach) =
      let last : from + 1 + 1 ≡ i = omega (arith, index) in
      let same : x ≡ Store op register 5 n = spelled_once p.words i x (Store op register 5 n) there (subst (λ m. IsSpelledAt p.words m (Store op register 5 n)) last spelled.1.1.0) in
      let behind : IsBehind g slots W a b n = (subst (IsSparing g slots W a b) same is).1 refl in
      let front = known.first (Lui 5 behind.upper) behind.first in
      let at : front.0 ≡ from = (let two = front.1 in omega (arith, two, index)) in
      let lui : Lui 5 behind.upper ≡ Lui 5 upper = spelled_once p.words from (Lui 5 behind.upper) (Lui 5 upper) (subst (λ m. IsSpelledAt p.words m (Lui 5 behind.upper)) at front.2) spelled.0 in
      let part : behind.upper ≡ upper = ap upper_of_lui lui in
      behind.reach k lt (subst (λ m. MayReach ((m * 4096 + n) % 4294967296) (slot_at g k)) (sym part) reach)

  word_allowed : (W : Home → Type 0) (a b : Before) (i : ℕ) (x : Instruction) (home : Home) → IsHomeAmong slots home → IsSpelledAt p.words i x → IsSparing g slots W a b x → IsKnown i a b → MayWrite g p.words home i → W home
  word_allowed W a b i x (Register r) kept there is known (y, spelled, makes) =
      makes_allowed W a b r x kept is (subst (MakesRegister r) (spelled_once p.words i y x spelled there) makes)
  word_allowed W a b i x (Slot k) kept there is known stores = stores_allowed W a b k i x kept there is known stores

  -- ---- One piece

  -- A word that spells an instruction which writes no home, whatever stands before it.
  apart_allowed : (W : Home → Type 0) (i : ℕ) (stops : Bool) (x : Instruction) → IsAt p i stops x → IsSparing g slots W None None x → (index : ℕ) → index ≡ i → (home : Home) → IsHomeAmong slots home → MayWrite g p.words home index → W home
  apart_allowed W i stops x at is index here home kept writes = word_allowed W None None i x home kept (spelled_there i stops x at) is (nothing_known i) (subst (MayWrite g p.words home) here writes)

  -- A jump writes no home, in one word or in two: its link and the register by which it goes are none.
  jump_allowed : (W : Home → Type 0) (i : ℕ) (stops : Bool) (link by to j : ℕ) → link < 9 → by < 9 → IsJump p i stops link by to j → (index : ℕ) → i ≤ index → index < j → (home : Home) → IsHomeAmong slots home → MayWrite g p.words home index → W home
  jump_allowed W i stops link by to j low_link low_by (inl at) index le lt home kept writes =
      let end : j ≡ i + 1 = at.1 in
      apart_allowed W i stops (Jal link (distance i to)) at.0 (low g slots W link low_link) index (omega (arith, end, le, lt)) home kept writes
  jump_allowed W i stops link by to j low_link low_by (inr at) index le lt home kept writes =
      let end : j ≡ i + 2 = at.2 in
      ⊎_elim
      (λ (first : index < i + 1). apart_allowed W i stops (Auipc by (high_part (distance i to))) at.0 (low g slots W by low_by) index (omega (arith, le, first)) home kept writes)
      (λ (second : i + 1 ≤ index). apart_allowed W (i + 1) false (Jalr link by (low_part (distance i to))) at.1 (low g slots W link low_link) index (omega (arith, second, lt, end)) home kept writes)
      (cases_lt index (i + 1))

  piece_allowed : (owner i k : ℕ) (stops : Bool) (a b : Before) (q : Piece) → PieceAt p t i stops q k → IsSparingPiece g slots V owner a b q → IsKnown i a b → (index : ℕ) → i ≤ index → index < k → (home : Home) → IsHomeAmong slots home → MayWrite g p.words home index → V owner home
  piece_allowed owner i k stops a b (piece.Word x) at is known index le lt home kept writes =
      let end : k ≡ i + 1 = at.1 in
      let here : index ≡ i = omega (arith, end, le, lt) in
      word_allowed (V owner) a b i x home kept (spelled_there i stops x at.0) is known (subst (MayWrite g p.words home) here writes)
  piece_allowed owner i k stops a b (piece.Jump to) at is known index le lt home kept writes = jump_allowed (V owner) i stops 0 5 (t.label to.0) k (omega arith) (omega arith) at index le lt home kept writes
  piece_allowed owner i k stops a b (piece.Branch op l r to) (inl at) is known index le lt home kept writes =
      let end : k ≡ i + 1 = at.1 in
      apart_allowed (V owner) i stops (Branch op l r (distance i (t.label to.0))) at.0 tt index (omega (arith, end, le, lt)) home kept writes
  piece_allowed owner i k stops a b (piece.Branch op l r to) (inr at) is known index le lt home kept writes =
      ⊎_elim
      (λ (first : index < i + 1). apart_allowed (V owner) i stops (Branch (opposite op) l r (4 * (k - i))) at.0 tt index (omega (arith, le, first)) home kept writes)
      (λ (second : i + 1 ≤ index). jump_allowed (V owner) (i + 1) false 0 5 (t.label to.0) k (omega arith) (omega arith) at.1 index second lt home kept writes)
      (cases_lt index (i + 1))
  piece_allowed owner i k stops a b (piece.Call f) at is known index le lt home kept writes = jump_allowed (V owner) i stops 1 1 (t.function f) k (omega arith) (omega arith) at index le lt home kept writes

  known_behind : (i k : ℕ) (stops : Bool) (a b : Before) (q : Piece) → PieceAt p t i stops q k → IsKnown i a b → IsKnown k (first_behind b q) (second_behind q)
  known_behind i k stops a b (piece.Word x) at known =
      let end : k ≡ i + 1 = at.1 in
      record {
        first = λ y e. let one = known.second y e in let before = one.1 in (one.0, omega (arith, before, end), one.2);
        second = λ y e. (i, sym end, subst (IsSpelledAt p.words i) (same_Some x y e) (spelled_there i stops x at.0));
      }
  known_behind i k stops a b (piece.Jump to) at known = nothing_known k
  known_behind i k stops a b (piece.Branch op l r to) at known = nothing_known k
  known_behind i k stops a b (piece.Call f) at known = nothing_known k

  -- ---- All of them

  all_allowed : (i j : ℕ) (a b : Before) (pieces : List PlacedPiece) → PlacedAt p t i pieces j → AllSpare g slots V a b pieces → IsKnown i a b → (index : ℕ) → i ≤ index → index < j → (home : Home) → IsHomeAmong slots home → MayWrite g p.words home index
      → V (t.owner index) home
  all_allowed i j a b [] there spare known index le lt home kept writes = absurd (omega (arith, there, le, lt))
  all_allowed i j a b (x ∷ more) (k, at, of, rest) spare known index le lt home kept writes =
      ⊎_elim (λ (here : index < k). subst (λ o. V o home) (sym (of index le here)) (piece_allowed x.owner i k x.is_stop a b x.piece at spare.0 known index le here home kept writes))
      (λ (later : k ≤ index). all_allowed k j (first_behind b x.piece) (second_behind x.piece) more rest spare.1 (known_behind i k x.is_stop a b x.piece at known) index later lt home kept writes) (cases_lt index k)

  -- A word of a place that may write a home does so for that place.
  pub words_allowed : (i j : ℕ) (pieces : List PlacedPiece) → PlacedAt p t i pieces j → AllSpare g slots V None None pieces → (index : ℕ) → i ≤ index → index < j → (home : Home) → IsHomeAmong slots home → MayWrite g p.words home index → V (t.owner index) home
  words_allowed i j pieces there spare index le lt home kept writes = all_allowed i j None None pieces there spare (nothing_known i) index le lt home kept writes
