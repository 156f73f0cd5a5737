-- The bytes of objects with the addresses that they hold are those of static memory.
use Rattle.std.proofs.Common.{◌≡◌, ◌≢◌, ℕ, zero, suc, ◌+◌, ◌*◌, ◌/◌, ◌%◌, ◌<◌, ◌≤◌, Bool, true, false, cond, ◌&&◌, Option, Some, None, List, [], ◌∷◌, ◌++◌, length, length-append, map, min, take, drop, refl, sym, ap, ◌∙◌, arith, slice_get, slice_set}
use Rattle.std.specs.Prelude.{◌==◌, nat_lt, slice_index}
use Rattle.std.specs.List.{AllByRecursion, flat_map}
use Rattle.std.specs.Option.{option_map_or}
use Rattle.std.proofs.lemmas.Bool.{eq-eqb, ne_eqb, lt-ltb, eqb-true, ltb-true}
use Rattle.std.proofs.lemmas.List.{length-map, length-set}
use Rattle.graph_core.specs.declared.instruction.Element.{Element}
use Rattle.graph_core.specs.declared.instruction.Element.TheVariants.{Unsigned8, Signed8, Unsigned16, Signed16, Word}
use Rattle.graph_core.specs.declared.unit.Relocation.{Relocation}
use Rattle.graph_core.specs.Graphs.{StaticObject, UnitForm}
use Rattle.graph_core.specs.Memory.{static_bytes}
use Rattle.graph_core.specs.Values.{size_of}
use Rattle.graph_core.specs.Validity.{taken_by, total, AreRelocations}
use Rattle.rv_emit_storage.specs.StaticAddresses.{addresses_from, bytes_by_element, object_bytes, padded, relocation_at, static_addresses, static_at, static_sizes, statics_start, word_bytes, word_of_bytes, word_there, words_there}
use Rattle.rv_emit_storage.specs.Filled.{filled_object, relocations_by, with_relocation, with_relocations, with_word}
use Rattle.rv_emit_storage.specs.Placed.{HaveAddresses}
use Rattle.rv_emit_storage.proofs.Padding.{pad, pad_behind, pad_length, padded_both, padded_is, padded_length}

-- ---- A word in a list

word_later : (n w x : ℕ) (xs : List ℕ) → with_word (suc n) w (x ∷ xs) ≡ x ∷ with_word n w xs
word_later n w x xs =
    let one : suc n + 1 ≡ suc (n + 1) = omega arith in
    let two : suc n + 2 ≡ suc (n + 2) = omega arith in
    let three : suc n + 3 ≡ suc (n + 3) = omega arith in
    let first : List ℕ = slice_set xs n (w % 256) in
    let second : List ℕ = slice_set first (n + 1) (w / 256 % 256) in
    let third : List ℕ = slice_set second (n + 2) (w / 65536 % 256) in
    ap (λ m. slice_set (slice_set (slice_set (x ∷ first) m (w / 256 % 256)) (suc n + 2) (w / 65536 % 256)) (suc n + 3) (w / 16777216 % 256)) one
    ∙ ap (λ m. slice_set (slice_set (x ∷ second) m (w / 65536 % 256)) (suc n + 3) (w / 16777216 % 256)) two
    ∙ ap (λ m. slice_set (x ∷ third) m (w / 16777216 % 256)) three

-- Behind four bytes.
word_behind : (n w a b c d : ℕ) (xs : List ℕ) → with_word (4 + n) w (a ∷ b ∷ c ∷ d ∷ xs) ≡ a ∷ b ∷ c ∷ d ∷ with_word n w xs
word_behind n w a b c d xs =
    let four : 4 + n ≡ suc (suc (suc (suc n))) = omega arith in
    ap (λ m. with_word m w (a ∷ b ∷ c ∷ d ∷ xs)) four
    ∙ word_later (suc (suc (suc n))) w a (b ∷ c ∷ d ∷ xs)
    ∙ ap (λ l. a ∷ l) (word_later (suc (suc n)) w b (c ∷ d ∷ xs))
    ∙ ap (λ l. a ∷ b ∷ l) (word_later (suc n) w c (d ∷ xs))
    ∙ ap (λ l. a ∷ b ∷ c ∷ l) (word_later n w d xs)

-- A word at the beginning.
word_first : (w a b c d : ℕ) (xs : List ℕ) → with_word 0 w (a ∷ b ∷ c ∷ d ∷ xs) ≡ word_bytes w ++ xs
word_first w a b c d xs = refl

-- ---- The words of an object

-- A list of four.
record IsFour (xs : List ℕ) : Type 0 where
  a : ℕ
  b : ℕ
  c : ℕ
  d : ℕ
  is : xs ≡ a ∷ b ∷ c ∷ d ∷ []

module _ (u : UnitForm) (o : StaticObject) where
  -- The object with these relocations.
  abbrev having : List Relocation → StaticObject
  having rs = record o { relocations = rs }

  abbrev address : Relocation → ℕ
  address r = static_at u r.object + r.offset

  abbrev by_found : (bytes : List ℕ) → Option Relocation → List ℕ
  by_found bytes q = option_map_or (λ (r : Relocation). word_bytes (static_at u r.object + r.offset)) q bytes

  four : (bytes : List ℕ) → IsFour bytes → (q : Option Relocation) → IsFour (by_found bytes q)
  four bytes is None = is
  four bytes is (Some r) = record { a = address r % 256; b = address r / 256 % 256; c = address r / 65536 % 256; d = address r / 16777216 % 256; is = refl }

  word_four : (rs : List Relocation) (i : ℕ) → IsFour (word_there u (having rs) i (word_of_bytes o.bytes i))
  word_four rs i =
      four (word_of_bytes o.bytes i) (record { a = slice_index o.bytes (4 * i); b = slice_index o.bytes (4 * i + 1); c = slice_index o.bytes (4 * i + 2); d = slice_index o.bytes (4 * i + 3); is = refl }) (relocation_at rs (4 * i))

  -- A relocation elsewhere makes no difference.
  word_other : (r : Relocation) (rs : List Relocation) (i : ℕ) → r.at ≢ 4 * i → word_there u (having (r ∷ rs)) i (word_of_bytes o.bytes i) ≡ word_there u (having rs) i (word_of_bytes o.bytes i)
  word_other r rs i apart = ap (λ b. by_found (word_of_bytes o.bytes i) (cond b (Some r) (relocation_at rs (4 * i)))) (ne_eqb r.at (4 * i) apart)

  word_here : (r : Relocation) (rs : List Relocation) (i : ℕ) → r.at ≡ 4 * i → word_there u (having (r ∷ rs)) i (word_of_bytes o.bytes i) ≡ word_bytes (address r)
  word_here r rs i is = ap (λ b. by_found (word_of_bytes o.bytes i) (cond b (Some r) (relocation_at rs (4 * i)))) (eq-eqb r.at (4 * i) is)

  words_other : (r : Relocation) (rs : List Relocation) (i count : ℕ) → ((k : ℕ) → i ≤ k → k < i + count → r.at ≢ 4 * k) → words_there u (having (r ∷ rs)) i count ≡ words_there u (having rs) i count
  words_other r rs i zero apart = refl
  words_other r rs i (suc count) apart =
      ap (λ l. l ++ words_there u (having (r ∷ rs)) (i + 1) count) (word_other r rs i (apart i (omega arith) (omega arith)))
      ∙ ap (λ l. word_there u (having rs) i (word_of_bytes o.bytes i) ++ l) (words_other r rs (i + 1) count (λ k low high. apart k (omega (arith, low)) (omega (arith, high))))

  -- A word that is written where one begins is that of the relocation there.
  word_put : (r : Relocation) (rs : List Relocation) (zs : List ℕ) (i count j : ℕ) → r.at ≡ 4 * (i + j) → j < count
      → with_word (4 * j) (address r) (words_there u (having rs) i count ++ zs) ≡ words_there u (having (r ∷ rs)) i count ++ zs
  word_put r rs zs i zero j at lt = absurd (omega (arith, lt))
  word_put r rs zs i (suc count) zero at lt =
      let head : List ℕ = word_there u (having rs) i (word_of_bytes o.bytes i) in
      let rest : List ℕ = words_there u (having rs) (i + 1) count in
      let f : IsFour head = word_four rs i in
      let here : r.at ≡ 4 * i = omega (arith, at) in
      ap (λ l. with_word 0 (address r) ((l ++ rest) ++ zs)) f.is
      ∙ word_first (address r) f.a f.b f.c f.d (rest ++ zs)
      ∙ ap (λ l. word_bytes (address r) ++ l ++ zs) (sym (words_other r rs (i + 1) count (λ k low high e. omega (arith, low, e, here))))
      ∙ ap (λ l. (l ++ words_there u (having (r ∷ rs)) (i + 1) count) ++ zs) (sym (word_here r rs i here))
  word_put r rs zs i (suc count) (suc j) at lt =
      let head : List ℕ = word_there u (having rs) i (word_of_bytes o.bytes i) in
      let rest : List ℕ = words_there u (having rs) (i + 1) count in
      let f : IsFour head = word_four rs i in
      let four_on : 4 * suc j ≡ 4 + 4 * j = omega arith in
      let later : with_word (4 * j) (address r) (rest ++ zs) ≡ words_there u (having (r ∷ rs)) (i + 1) count ++ zs = word_put r rs zs (i + 1) count j (omega (arith, at)) (omega (arith, lt)) in
      ap (λ l. with_word (4 * suc j) (address r) ((l ++ rest) ++ zs)) f.is
      ∙ ap (λ n. with_word n (address r) (f.a ∷ f.b ∷ f.c ∷ f.d ∷ (rest ++ zs))) four_on
      ∙ word_behind (4 * j) (address r) f.a f.b f.c f.d (rest ++ zs)
      ∙ ap (λ l. f.a ∷ f.b ∷ f.c ∷ f.d ∷ l) later
      ∙ ap (λ l. (l ++ words_there u (having (r ∷ rs)) (i + 1) count) ++ zs) (sym f.is)
      ∙ ap (λ l. (l ++ words_there u (having (r ∷ rs)) (i + 1) count) ++ zs) (sym (word_other r rs i (λ e. omega (arith, at, e))))

-- ---- Bytes of an object without relocations

index_later : (k j : ℕ) (xs : List ℕ) → slice_index (drop k xs) j ≡ slice_index xs (k + j)
index_later zero j xs = (let same : j ≡ 0 + j = omega arith in ap (slice_index xs) same)
index_later (suc k) j [] = refl
index_later (suc k) j (x ∷ xs) = index_later k j xs ∙ (let more : suc k + j ≡ suc (k + j) = omega arith in ap (slice_index (x ∷ xs)) (sym more))

drop_later : (k : ℕ) (xs : List ℕ) → drop 1 (drop k xs) ≡ drop (k + 1) xs
drop_later zero xs = refl
drop_later (suc k) [] = (let more : suc k + 1 ≡ suc (k + 1) = omega arith in ap (λ m. drop {A = ℕ} m []) (sym more))
drop_later (suc k) (x ∷ xs) = drop_later k xs ∙ (let more : suc k + 1 ≡ suc (k + 1) = omega arith in ap (λ m. drop m (x ∷ xs)) (sym more))

pad_first : (n : ℕ) (xs : List ℕ) → pad (suc n) xs ≡ slice_index xs 0 ∷ pad n (drop 1 xs)
pad_first n [] = refl
pad_first n (x ∷ xs) = refl

pad_from : (n k : ℕ) (xs : List ℕ) → pad (suc n) (drop k xs) ≡ slice_index xs k ∷ pad n (drop (k + 1) xs)
pad_from n k xs =
    let same : k + 0 ≡ k = omega arith in
    pad_first n (drop k xs) ∙ ap (λ z. z ∷ pad n (drop 1 (drop k xs))) (index_later k 0 xs ∙ ap (slice_index xs) same) ∙ ap (λ l. slice_index xs k ∷ pad n l) (drop_later k xs)

pad_word : (n i : ℕ) (xs : List ℕ) → pad (4 * suc n) (drop (4 * i) xs) ≡ word_of_bytes xs i ++ pad (4 * n) (drop (4 * (i + 1)) xs)
pad_word n i xs =
    let four : 4 * suc n ≡ suc (suc (suc (suc (4 * n)))) = omega arith in
    let two : 4 * i + 1 + 1 ≡ 4 * i + 2 = omega arith in
    let three : 4 * i + 2 + 1 ≡ 4 * i + 3 = omega arith in
    let next : 4 * i + 3 + 1 ≡ 4 * (i + 1) = omega arith in
    ap (λ m. pad m (drop (4 * i) xs)) four
    ∙ pad_from (suc (suc (suc (4 * n)))) (4 * i) xs
    ∙ ap (λ l. slice_index xs (4 * i) ∷ l) (pad_from (suc (suc (4 * n))) (4 * i + 1) xs ∙ ap (λ m. slice_index xs (4 * i + 1) ∷ pad (suc (suc (4 * n))) (drop m xs)) two)
    ∙ ap (λ l. slice_index xs (4 * i) ∷ slice_index xs (4 * i + 1) ∷ l) (pad_from (suc (4 * n)) (4 * i + 2) xs ∙ ap (λ m. slice_index xs (4 * i + 2) ∷ pad (suc (4 * n)) (drop m xs)) three)
    ∙ ap (λ l. slice_index xs (4 * i) ∷ slice_index xs (4 * i + 1) ∷ slice_index xs (4 * i + 2) ∷ l) (pad_from (4 * n) (4 * i + 3) xs ∙ ap (λ m. slice_index xs (4 * i + 3) ∷ pad (4 * n) (drop m xs)) next)

plain_words : (u : UnitForm) (o : StaticObject) (i count : ℕ) → words_there u (record o { relocations = [] }) i count ≡ pad (4 * count) (drop (4 * i) o.bytes)
plain_words u o i zero = refl
plain_words u o i (suc count) = ap (λ l. word_of_bytes o.bytes i ++ l) (plain_words u o (i + 1) count) ∙ sym (pad_word count i o.bytes)

-- How many bytes words have.
words_count : (u : UnitForm) (o : StaticObject) (i count : ℕ) → length (words_there u o i count) ≡ 4 * count
words_count u o i zero = refl
words_count u o i (suc count) =
    let f : IsFour (word_there u o i (word_of_bytes o.bytes i)) = word_four u o o.relocations i in
    let rest = words_count u o (i + 1) count in
    ap (λ l. length (l ++ words_there u o (i + 1) count)) f.is ∙ (let all : length (f.a ∷ f.b ∷ f.c ∷ f.d ∷ words_there u o (i + 1) count) ≡ 4 * suc count = omega (arith, rest) in all)

-- ---- Addresses

index_taken : (m n : ℕ) (xs : List ℕ) → n < m → n < length xs → slice_get (take m xs) n ≡ Some (slice_index xs n)
index_taken m n [] lt within = absurd (omega (arith, within))
index_taken zero n (x ∷ xs) lt within = absurd (omega (arith, lt))
index_taken (suc m) zero (x ∷ xs) lt within = refl
index_taken (suc m) (suc n) (x ∷ xs) lt within = index_taken m n xs (omega (arith, lt)) (omega (arith, within))

pub addresses_count : (n : ℕ) (xs : List ℕ) → length (addresses_from n xs) ≡ length xs
addresses_count n [] = refl
addresses_count n (x ∷ xs) = let rest = addresses_count (n + taken_by x) xs in omega (arith, rest)

-- ---- An object

module _ (u : UnitForm) (addresses : List ℕ) (have : (n : ℕ) → n < length u.statics → slice_get addresses n ≡ Some (static_at u n)) (o : StaticObject) where
  word_small : (at n : ℕ) (bytes : List ℕ) → with_word at (n % 4294967296) bytes ≡ with_word at n bytes
  word_small at n bytes =
      let a : n % 4294967296 % 256 ≡ n % 256 = omega arith in
      let b : n % 4294967296 / 256 % 256 ≡ n / 256 % 256 = omega arith in
      let c : n % 4294967296 / 65536 % 256 ≡ n / 65536 % 256 = omega arith in
      let d : n % 4294967296 / 16777216 % 256 ≡ n / 16777216 % 256 = omega arith in
      ap (λ x. slice_set (slice_set (slice_set (slice_set bytes at x) (at + 1) (n % 4294967296 / 256 % 256)) (at + 2) (n % 4294967296 / 65536 % 256)) (at + 3) (n % 4294967296 / 16777216 % 256)) a
      ∙ ap (λ x. slice_set (slice_set (slice_set (slice_set bytes at (n % 256)) (at + 1) x) (at + 2) (n % 4294967296 / 65536 % 256)) (at + 3) (n % 4294967296 / 16777216 % 256)) b
      ∙ ap (λ x. slice_set (slice_set (slice_set (slice_set bytes at (n % 256)) (at + 1) (n / 256 % 256)) (at + 2) x) (at + 3) (n % 4294967296 / 16777216 % 256)) c
      ∙ ap (λ x. slice_set (slice_set (slice_set (slice_set bytes at (n % 256)) (at + 1) (n / 256 % 256)) (at + 2) (n / 65536 % 256)) (at + 3) x) d

  -- One relocation more.
  one_more : (r : Relocation) (rs : List Relocation) (zs : List ℕ) → r.object < length u.statics
      → with_relocation addresses (4 * o.count) r (words_there u (record o { relocations = rs }) 0 o.count ++ zs) ≡ words_there u (record o { relocations = r ∷ rs }) 0 o.count ++ zs
  one_more r rs zs within = by_whole (r.at % 4 == 0) refl (nat_lt r.at (4 * o.count)) refl
    where
      bytes : List ℕ
      bytes = words_there u (record o { relocations = rs }) 0 o.count ++ zs

      written : List ℕ
      written = option_map_or (λ a. with_word r.at ((a + r.offset) % 4294967296) bytes) (slice_get addresses r.object) bytes

      none : ((k : ℕ) → 0 ≤ k → k < 0 + o.count → r.at ≢ 4 * k) → bytes ≡ words_there u (record o { relocations = r ∷ rs }) 0 o.count ++ zs
      none apart = ap (λ l. l ++ zs) (sym (words_other u o r rs 0 o.count apart))

      absurd_eq : false ≡ true → ⊥
      absurd_eq e = cc

      no_whole : (at k : ℕ) → (at % 4 == 0) ≡ false → at ≡ 4 * k → ⊥
      no_whole at k is e = absurd_eq (sym is ∙ eq-eqb (at % 4) 0 (omega (arith, e)))

      no_less : (m n : ℕ) → nat_lt m n ≡ false → m < n → ⊥
      no_less m n is lt = absurd_eq (sym is ∙ lt-ltb m n lt)

      by_whole : (w : Bool) → (r.at % 4 == 0) ≡ w → (l : Bool) → nat_lt r.at (4 * o.count) ≡ l → cond ((r.at % 4 == 0) && nat_lt r.at (4 * o.count)) written bytes ≡ words_there u (record o { relocations = r ∷ rs }) 0 o.count ++ zs
      by_whole false w l lt = ap (λ b. cond (b && nat_lt r.at (4 * o.count)) written bytes) w ∙ none (λ k low high e. no_whole r.at k w e)
      by_whole true w false lt = ap (λ b. cond (b && nat_lt r.at (4 * o.count)) written bytes) w ∙ ap (λ b. cond b written bytes) lt ∙ none (λ k low high e. no_less r.at (4 * o.count) lt (omega (arith, e, high)))
      by_whole true w true lt =
          let whole : r.at % 4 ≡ 0 = eqb-true (r.at % 4) 0 w in
          let less : r.at < 4 * o.count = ltb-true r.at (4 * o.count) lt in
          let four : r.at ≡ 4 * (r.at / 4) = omega (arith, whole) in
          ap (λ b. cond (b && nat_lt r.at (4 * o.count)) written bytes) w ∙ ap (λ b. cond b written bytes) lt
          ∙ ap (λ q. option_map_or (λ a. with_word r.at ((a + r.offset) % 4294967296) bytes) q bytes) (have r.object within)
          ∙ word_small r.at (static_at u r.object + r.offset) bytes
          ∙ ap (λ n. with_word n (static_at u r.object + r.offset) bytes) four
          ∙ word_put u o r rs zs 0 o.count (r.at / 4) (omega (arith, four)) (omega (arith, less, four))

  all_words : (rs : List Relocation) (k : ℕ) → AreRelocations u.statics rs
      → with_relocations addresses (4 * o.count) rs (pad (4 * o.count + k) (take (4 * o.count) o.bytes)) ≡ words_there u (record o { relocations = rs }) 0 o.count ++ pad k []
  all_words [] k legal =
      let size : ℕ = 4 * o.count in
      let n : length (pad size o.bytes) ≡ size = pad_length size o.bytes in
      sym (padded_is (size + k) (take size o.bytes)) ∙ padded_both (size + k) size o.bytes ∙ padded_is (size + k) (padded size o.bytes) ∙ ap (pad (size + k)) (padded_is size o.bytes)
      ∙ ap (λ m. pad (m + k) (pad size o.bytes)) (sym n)
      ∙ pad_behind (pad size o.bytes) k
      ∙ ap (λ l. l ++ pad k []) (sym (plain_words u o 0 o.count))
  all_words (r ∷ rs) k legal = ap (with_relocation addresses (4 * o.count) r) (all_words rs k legal.1) ∙ one_more r rs (pad k []) legal.0

  -- An object's bytes with the addresses that it holds are those that stand in static memory.
  pub object_filled : AreRelocations u.statics o.relocations → filled_object addresses o ≡ object_bytes u o
  object_filled legal = by_element o.element refl
    where
      size : ℕ
      size = static_bytes o

      narrow : (rs : List Relocation) (bytes : List ℕ) → rs ≡ [] → bytes ≡ padded size o.bytes → with_relocations addresses size rs (padded (taken_by size) (take size o.bytes)) ≡ padded (taken_by size) bytes
      narrow rs bytes none is = ap (λ l. with_relocations addresses size l (padded (taken_by size) (take size o.bytes))) none ∙ padded_both (taken_by size) size o.bytes ∙ ap (padded (taken_by size)) (sym is)

      wide : size ≡ 4 * o.count → with_relocations addresses size o.relocations (padded (taken_by size) (take size o.bytes)) ≡ padded (taken_by size) (words_there u o 0 o.count)
      wide four =
          let taken : taken_by (4 * o.count) ≡ 4 * o.count + 4 = omega arith in
          let words : List ℕ = words_there u o 0 o.count in
          ap (λ s. with_relocations addresses s o.relocations (padded (taken_by s) (take s o.bytes))) four
          ∙ ap (λ n. with_relocations addresses (4 * o.count) o.relocations (padded n (take (4 * o.count) o.bytes))) taken
          ∙ ap (with_relocations addresses (4 * o.count) o.relocations) (padded_is (4 * o.count + 4) (take (4 * o.count) o.bytes))
          ∙ all_words o.relocations 4 legal
          ∙ sym (pad_behind words 4)
          ∙ ap (λ n. pad (n + 4) words) (words_count u o 0 o.count)
          ∙ sym (padded_is (4 * o.count + 4) words)
          ∙ ap (λ n. padded n words) (sym taken)
          ∙ ap (λ s. padded (taken_by s) words) (sym four)

      by_element : (e : Element) → o.element ≡ e → with_relocations addresses size (relocations_by o.element o.relocations) (padded (taken_by size) (take size o.bytes)) ≡ padded (taken_by size) (bytes_by_element u o o.element)
      by_element Unsigned8 is = narrow (relocations_by o.element o.relocations) (bytes_by_element u o o.element) (ap (λ z. relocations_by z o.relocations) is) (ap (bytes_by_element u o) is)
      by_element Signed8 is = narrow (relocations_by o.element o.relocations) (bytes_by_element u o o.element) (ap (λ z. relocations_by z o.relocations) is) (ap (bytes_by_element u o) is)
      by_element Unsigned16 is = narrow (relocations_by o.element o.relocations) (bytes_by_element u o o.element) (ap (λ z. relocations_by z o.relocations) is) (ap (bytes_by_element u o) is)
      by_element Signed16 is = narrow (relocations_by o.element o.relocations) (bytes_by_element u o o.element) (ap (λ z. relocations_by z o.relocations) is) (ap (bytes_by_element u o) is)
      by_element Word is =
          ap (λ l. with_relocations addresses size l (padded (taken_by size) (take size o.bytes))) (ap (λ z. relocations_by z o.relocations) is)
          ∙ wide (ap (λ z. o.count * size_of z) is ∙ (let flip : o.count * 4 ≡ 4 * o.count = omega arith in flip))
          ∙ ap (padded (taken_by size)) (sym (ap (bytes_by_element u o) is))

-- ---- All of them

-- Behind the relocations that are left the last one is written.
pub before_last : (addresses : List ℕ) (size : ℕ) (rest : List Relocation) (r : Relocation) (bytes : List ℕ)
    → with_relocations addresses size rest (with_relocation addresses size r bytes) ≡ with_relocations addresses size (rest ++ r ∷ []) bytes
before_last addresses size [] r bytes = refl
before_last addresses size (x ∷ rest) r bytes = ap (with_relocation addresses size x) (before_last addresses size rest r bytes)

pub have_all : (u : UnitForm) (addresses : List ℕ) → HaveAddresses u addresses → (n : ℕ) → n < length u.statics → slice_get addresses n ≡ Some (static_at u n)
have_all u addresses is n lt =
    let all = addresses_count (statics_start u) (static_sizes u) in
    let both = length-append (map static_bytes u.statics) (map (λ (b : List ℕ). length b) u.array_bytes) in
    let objects = length-map u.statics static_bytes in
    ap (λ l. slice_get l n) is ∙ index_taken (length u.statics) n (static_addresses u) lt (omega (arith, lt, all, both, objects))

pub all_filled : (u : UnitForm) (addresses : List ℕ) → ((n : ℕ) → n < length u.statics → slice_get addresses n ≡ Some (static_at u n)) → (all : List StaticObject)
    → AllByRecursion (λ (o : StaticObject). AreRelocations u.statics o.relocations) all → flat_map (filled_object addresses) all ≡ flat_map (object_bytes u) all
all_filled u addresses have [] legal = refl
all_filled u addresses have (o ∷ more) legal =
    ap (λ l. l ++ flat_map (filled_object addresses) more) (object_filled u addresses have o legal.0) ∙ ap (λ l. object_bytes u o ++ l) (all_filled u addresses have more legal.1)

pub arrays_filled : (all : List (List ℕ)) → total taken_by (map (λ (b : List ℕ). length b) all) < 4294967295
    → flat_map (λ (b : List ℕ). padded (min (taken_by (length b)) 18446744073709551615) b) all ≡ flat_map (λ (b : List ℕ). padded (taken_by (length b)) b) all
arrays_filled [] few = refl
arrays_filled (b ∷ more) few =
    let sum : taken_by (length b) + total taken_by (map (λ (c : List ℕ). length c) more) < 4294967295 = few in
    let same : min (taken_by (length b)) 18446744073709551615 ≡ taken_by (length b) = small (taken_by (length b)) (omega (arith, sum)) in
    ap (λ n. padded n b ++ flat_map (λ (c : List ℕ). padded (min (taken_by (length c)) 18446744073709551615) c) more) same
    ∙ ap (λ l. padded (taken_by (length b)) b ++ l) (arrays_filled more (omega (arith, sum)))
  where
    small : (n : ℕ) → n < 4294967295 → min n 18446744073709551615 ≡ n
    small n lt = omega (arith, lt)

-- ---- How many they are

word_length : (at w : ℕ) (bytes : List ℕ) → length (with_word at w bytes) ≡ length bytes
word_length at w bytes =
    length-set (slice_set (slice_set (slice_set bytes at (w % 256)) (at + 1) (w / 256 % 256)) (at + 2) (w / 65536 % 256)) (at + 3) (w / 16777216 % 256)
    ∙ length-set (slice_set (slice_set bytes at (w % 256)) (at + 1) (w / 256 % 256)) (at + 2) (w / 65536 % 256)
    ∙ length-set (slice_set bytes at (w % 256)) (at + 1) (w / 256 % 256)
    ∙ length-set bytes at (w % 256)

relocation_length : (addresses : List ℕ) (size : ℕ) (r : Relocation) (bytes : List ℕ) → length (with_relocation addresses size r bytes) ≡ length bytes
relocation_length addresses size r bytes = by_test ((r.at % 4 == 0) && nat_lt r.at size) (slice_get addresses r.object)
  where
    by_test : (b : Bool) (q : Option ℕ) → length (cond b (option_map_or (λ a. with_word r.at ((a + r.offset) % 4294967296) bytes) q bytes) bytes) ≡ length bytes
    by_test false q = refl
    by_test true None = refl
    by_test true (Some a) = word_length r.at ((a + r.offset) % 4294967296) bytes

relocations_length : (addresses : List ℕ) (size : ℕ) (rs : List Relocation) (bytes : List ℕ) → length (with_relocations addresses size rs bytes) ≡ length bytes
relocations_length addresses size [] bytes = refl
relocations_length addresses size (r ∷ rs) bytes = relocation_length addresses size r (with_relocations addresses size rs bytes) ∙ relocations_length addresses size rs bytes

pub filled_length : (addresses : List ℕ) (all : List StaticObject) → length (flat_map (filled_object addresses) all) ≡ total (λ (o : StaticObject). taken_by (static_bytes o)) all
filled_length addresses [] = refl
filled_length addresses (o ∷ more) =
    let rest = filled_length addresses more in
    let here : length (filled_object addresses o) ≡ taken_by (static_bytes o) =
    relocations_length addresses (static_bytes o) (relocations_by o.element o.relocations) (padded (taken_by (static_bytes o)) (take (static_bytes o) o.bytes)) ∙ padded_length (taken_by (static_bytes o)) (take (static_bytes o) o.bytes) in
    length-append (filled_object addresses o) (flat_map (filled_object addresses) more) ∙ (sum (length (filled_object addresses o)) (taken_by (static_bytes o)) (length (flat_map (filled_object addresses) more)) (total (λ (z : StaticObject). taken_by (static_bytes z)) more) here rest)
  where
    sum : (a b c d : ℕ) → a ≡ b → c ≡ d → a + c ≡ b + d
    sum a b c d e f = omega (arith, e, f)

pub arrays_length : (all : List (List ℕ)) → length (flat_map (λ (b : List ℕ). padded (min (taken_by (length b)) 18446744073709551615) b) all) ≡ total (λ (b : List ℕ). min (taken_by (length b)) 18446744073709551615) all
arrays_length [] = refl
arrays_length (b ∷ more) =
    length-append (padded (min (taken_by (length b)) 18446744073709551615) b) (flat_map (λ (c : List ℕ). padded (min (taken_by (length c)) 18446744073709551615) c) more)
    ∙ (sum (length (padded (min (taken_by (length b)) 18446744073709551615) b)) (min (taken_by (length b)) 18446744073709551615) (length (flat_map (λ (c : List ℕ). padded (min (taken_by (length c)) 18446744073709551615) c) more)) (total (λ (c : List ℕ). min (taken_by (length c)) 18446744073709551615) more) (padded_length (min (taken_by (length b)) 18446744073709551615) b) (arrays_length more))
  where
    sum : (a b c d : ℕ) → a ≡ b → c ≡ d → a + c ≡ b + d
    sum a b c d e f = omega (arith, e, f)
