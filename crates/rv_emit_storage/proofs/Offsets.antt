-- Offsets of things that lie one behind the other, as they are found one by one.
use Rattle.std.proofs.Common.{◌≡◌, ℕ, ◌+◌, ◌-◌, ◌<◌, ◌≤◌, List, [], ◌∷◌, ◌++◌, length, refl, sym, ap, ◌∙◌, subst, arith, append_assoc, get_or, take, drop, map, min}
use Rattle.std.proofs.Math.Seq.{take-length}
use Rattle.std.proofs.lemmas.List.{length-map}
use Rattle.graph_core.specs.Validity.{taken_by, total}
use Rattle.graph_core.specs.Graphs.{StaticObject, UnitForm}
use Rattle.graph_core.specs.Memory.{static_bytes}
use Rattle.memory_map.specs.Maps.{bytes_start}
use Rattle.rv_emit_storage.specs.StaticAddresses.{addresses_from, static_addresses, static_sizes, statics_start}
use Rattle.rv_emit_storage.specs.UnitMaps.{map_of_unit}
use Rattle.rv_emit_storage.specs.Placed.{FitsStatics}
use Rattle.rv_emit_storage.proofs.UnitMaps.{statics_begin}

end_next : (offset a b c next : ℕ) → next ≡ min (offset + a) 4294967295 → min (offset + (a + b)) 4294967295 ≡ min c 4294967295 → min (next + b) 4294967295 ≡ min c 4294967295
end_next offset a b c next e was = omega (arith, e, was)

same_next : (offset a b c next : ℕ) → next ≡ min (offset + a) 4294967295 → min (offset + (a + b)) 4294967295 ≡ min c 4294967295 → c < 4294967295 → next ≡ offset + a
same_next offset a b c next e was lt = omega (arith, e, was, lt)

-- what each takes, and where those of a list lie from an offset on
module _ {A : Type 0} (taken : A → ℕ) (from : ℕ → List A → List ℕ) (none : (n : ℕ) → from n [] ≡ []) (more : (n : ℕ) (o : A) (left : List A) → from n (o ∷ left) ≡ n ∷ from (n + taken o) left) where
  -- Some of the offsets from a start on are found, the next one is this, and these things are left. Where an offset would be no word, it is the greatest one.
  pub record Found (start : ℕ) (all : List A) (os : List ℕ) (offset : ℕ) (left : List A) : Type 0 where
    pub fits : offset ≤ 4294967295
    pub end : min (offset + total taken left) 4294967295 ≡ min (start + total taken all) 4294967295
    pub offsets : start + total taken all < 4294967295 → os ++ from offset left ≡ from start all

  found_next : (start : ℕ) (all : List A) (os now : List ℕ) (offset next : ℕ) (o : A) (left : List A) → next ≡ min (offset + taken o) 4294967295 → now ≡ os ++ offset ∷ []
      → Found start all os offset (o ∷ left) → Found start all now next left
  found_next start all os now offset next o left e put found =
      let was : min (offset + (taken o + total taken left)) 4294967295 ≡ min (start + total taken all) 4294967295 = found.end in
      record {
        fits = omega (arith, e);
        end = end_next offset (taken o) (total taken left) (start + total taken all) next e was;
        offsets = λ lt. (let same : next ≡ offset + taken o = same_next offset (taken o) (total taken left) (start + total taken all) next e was lt in
            ap (λ l. l ++ from next left) put ∙ append_assoc os (offset ∷ []) (from next left) ∙ ap (λ n. os ++ offset ∷ from n left) same ∙ ap (λ l. os ++ l) (sym (more offset o left)) ∙ found.offsets lt);
      }

  rest_is : (y : A) (left : List A) → take (length (y ∷ left) - 1) (drop 1 (y ∷ left)) ≡ left
  rest_is y left = (let count : length (y ∷ left) - 1 ≡ length left = omega arith in ap (λ n. take n left) count ∙ take-length left)

  pub found_step : (start : ℕ) (all : List A) (os now : List ℕ) (offset next : ℕ) (left : List A) (x d : A) → 1 ≤ length left → x ≡ get_or left 0 d → next ≡ min (offset + taken x) 4294967295 → now ≡ os ++ offset ∷ []
      → Found start all os offset left → Found start all now next (take (length left - 1) (drop 1 left))
  found_step start all os now offset next [] x d le is e put found = absurd (omega arith)
  found_step start all os now offset next (y ∷ left) x d le is e put found =
      subst (λ zs. Found start all now next zs) (sym (rest_is y left)) (found_next start all os now offset next y left (subst (λ z. next ≡ min (offset + taken z) 4294967295) is e) put found)

  pub found_all : (start : ℕ) (all : List A) (os : List ℕ) (offset : ℕ) (left : List A) → length left < 1 → Found start all os offset left → start + total taken all < 4294967295 → os ≡ from start all
  found_all start all os offset [] lt found fits = sym (ap (λ l. os ++ l) (none offset) ∙ append_none os) ∙ found.offsets fits
    where
      append_none : (xs : List ℕ) → xs ++ [] ≡ xs
      append_none [] = refl
      append_none (x ∷ xs) = ap (λ ys. x ∷ ys) (append_none xs)
  found_all start all os offset (y ∷ left) lt found fits = absurd (omega arith)

  pub found_end : (start : ℕ) (all : List A) (os : List ℕ) (offset : ℕ) (left : List A) → length left < 1 → Found start all os offset left → offset ≡ min (start + total taken all) 4294967295
  found_end start all os offset [] lt found = let was : min (offset + 0) 4294967295 ≡ min (start + total taken all) 4294967295 = found.end in omega (arith, was, found.fits)
  found_end start all os offset (y ∷ left) lt found = absurd (omega arith)

addresses_append : (n : ℕ) (xs ys : List ℕ) → addresses_from n (xs ++ ys) ≡ addresses_from n xs ++ addresses_from (n + total taken_by xs) ys
addresses_append n [] ys = ap (λ k. addresses_from k ys) (none_more n)
  where
    none_more : (k : ℕ) → k ≡ k + 0
    none_more k = omega arith
addresses_append n (x ∷ xs) ys =
    ap (λ l. n ∷ l) (addresses_append (n + taken_by x) xs ys ∙ ap (λ k. addresses_from (n + taken_by x) xs ++ addresses_from k ys) (sum n (taken_by x) (total taken_by xs)))
  where
    sum : (a b c : ℕ) → a + b + c ≡ a + (b + c)
    sum a b c = omega arith

total_append : (xs ys : List ℕ) → total taken_by (xs ++ ys) ≡ total taken_by xs + total taken_by ys
total_append [] ys = none_more (total taken_by ys)
  where
    none_more : (k : ℕ) → k ≡ 0 + k
    none_more k = omega arith
total_append (x ∷ xs) ys = ap (λ n. taken_by x + n) (total_append xs ys) ∙ sum (taken_by x) (total taken_by xs) (total taken_by ys)
  where
    sum : (a b c : ℕ) → a + (b + c) ≡ a + b + c
    sum a b c = omega arith

-- The addresses of two lists of things, the second behind the first, are those of both.
pub both_addresses : (start : ℕ) (xs ys os ps : List ℕ) (end : ℕ) → start + total taken_by (xs ++ ys) < 4294967295 → (start + total taken_by xs < 4294967295 → os ≡ addresses_from start xs) → end ≡ min (start + total taken_by xs) 4294967295
    → (end + total taken_by ys < 4294967295 → ps ≡ addresses_from end ys) → os ++ ps ≡ addresses_from start (xs ++ ys)
both_addresses start xs ys os ps end lt first e second =
    let parts : total taken_by (xs ++ ys) ≡ total taken_by xs + total taken_by ys = total_append xs ys in
    let is : end ≡ start + total taken_by xs = omega (arith, lt, parts, e) in
    let left : os ≡ addresses_from start xs = first (omega (arith, lt, parts)) in
    let right : ps ≡ addresses_from end ys = second (omega (arith, lt, parts, is)) in
    ap (λ l. l ++ ps) left ∙ ap (λ l. addresses_from start xs ++ l) (right ∙ ap (λ k. addresses_from k ys) is) ∙ sym (addresses_append start xs ys)

-- What each of a list takes, at most 2^64 - 1, is what it takes where all take few.
total_few : {A : Type 0} (taken : A → ℕ) (xs : List A) → total taken xs < 4294967295 → total (λ x. min (taken x) 18446744073709551615) xs ≡ total taken xs
total_few taken [] lt = refl
total_few taken (x ∷ xs) lt = (let sum : taken x + total taken xs < 4294967295 = lt in
    let rest : total (λ y. min (taken y) 18446744073709551615) xs ≡ total taken xs = total_few taken xs (omega (arith, sum)) in
    one (taken x) (total (λ y. min (taken y) 18446744073709551615) xs) (total taken xs) rest (omega (arith, sum)))
  where
    one : (a b c : ℕ) → b ≡ c → a < 4294967295 → min a 18446744073709551615 + b ≡ a + c
    one a b c e fits = omega (arith, e, fits)

total_map : {A B : Type 0} (taken : B → ℕ) (view : A → B) (xs : List A) → total taken (map view xs) ≡ total (λ x. taken (view x)) xs
total_map taken view [] = refl
total_map taken view (x ∷ xs) = ap (λ n. taken (view x) + n) (total_map taken view xs)

-- Bytes of objects and arrays, put one behind the other, are as many as static memory takes.
pub bytes_in_all : (u : UnitForm) (count now : ℕ) → count ≡ total (λ (o : StaticObject). taken_by (static_bytes o)) u.statics → now ≡ count + total (λ (b : List ℕ). min (taken_by (length b)) 18446744073709551615) u.array_bytes
    → FitsStatics u → now ≡ total taken_by (static_sizes u)
bytes_in_all u count now first second fits =
    let parts = total_append (map static_bytes u.statics) (map (λ (b : List ℕ). length b) u.array_bytes) in
    let left = total_map taken_by static_bytes u.statics in
    let right = total_map taken_by (λ (b : List ℕ). length b) u.array_bytes in
    let some = total_few (λ (b : List ℕ). taken_by (length b)) u.array_bytes (omega (arith, parts, left, right, fits)) in
    omega (arith, first, second, parts, left, right, some)

-- The arrays alone take few.
pub arrays_few : (u : UnitForm) → FitsStatics u → total taken_by (map (λ (b : List ℕ). length b) u.array_bytes) < 4294967295
arrays_few u fits = let parts = total_append (map static_bytes u.statics) (map (λ (b : List ℕ). length b) u.array_bytes) in omega (arith, parts, fits)

parts_of : (os ps all : List ℕ) (n : ℕ) → length os ≡ n → os ++ ps ≡ all → (os ≡ take n all) × (ps ≡ drop n all)
parts_of os ps all n count is =
    let here : (os ≡ take n (os ++ ps)) × (ps ≡ drop n (os ++ ps)) = subst (λ m. (os ≡ take m (os ++ ps)) × (ps ≡ drop m (os ++ ps))) count (both os) in
    subst (λ l. (os ≡ take n l) × (ps ≡ drop n l)) is here
  where
    both : (xs : List ℕ) → (xs ≡ take (length xs) (xs ++ ps)) × (ps ≡ drop (length xs) (xs ++ ps))
    both [] = (refl, refl)
    both (x ∷ xs) = (ap (λ l. x ∷ l) (both xs).0, (both xs).1)

sizes_count : (n : ℕ) (xs : List ℕ) → length (addresses_from n xs) ≡ length xs
sizes_count n [] = refl
sizes_count n (x ∷ xs) = let rest = sizes_count (n + taken_by x) xs in omega (arith, rest)

module _ (u : UnitForm) (start : ℕ) (os ps : List ℕ) (end : ℕ) (begins : start ≡ bytes_start (map_of_unit u))
    (first : start + total taken_by (map static_bytes u.statics) < 4294967295 → os ≡ addresses_from start (map static_bytes u.statics))
    (e : end ≡ min (start + total taken_by (map static_bytes u.statics)) 4294967295)
    (second : end + total taken_by (map (λ (b : List ℕ). length b) u.array_bytes) < 4294967295 → ps ≡ addresses_from end (map (λ (b : List ℕ). length b) u.array_bytes)) where
  -- The addresses of both are those of all that static memory has.
  pub placed_all : FitsStatics u → os ++ ps ≡ static_addresses u
  placed_all fits =
      let few : start + total taken_by (static_sizes u) < 4294967295 = omega (arith, fits, begins) in
      both_addresses start (map static_bytes u.statics) (map (λ (b : List ℕ). length b) u.array_bytes) os ps end few first e second
      ∙ ap (λ n. addresses_from n (static_sizes u)) (begins ∙ sym (statics_begin u))

  -- Those of static objects come first, and then those of the bytes that initialise arrays.
  pub placed_parts : FitsStatics u → (os ≡ take (length u.statics) (static_addresses u)) × (ps ≡ drop (length u.statics) (static_addresses u))
  placed_parts fits =
      let parts = total_append (map static_bytes u.statics) (map (λ (b : List ℕ). length b) u.array_bytes) in
      let few : start + total taken_by (static_sizes u) < 4294967295 = omega (arith, fits, begins) in
      let is : os ≡ addresses_from start (map static_bytes u.statics) = first (omega (arith, parts, few)) in
      let count : length os ≡ length u.statics = ap (λ l. length l) is ∙ sizes_count start (map static_bytes u.statics) ∙ length-map u.statics static_bytes in
      parts_of os ps (static_addresses u) (length u.statics) count (placed_all fits)
