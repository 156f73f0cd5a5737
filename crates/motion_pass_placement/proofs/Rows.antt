-- Rows, one more after the other.
use Rattle.std.proofs.Common.{◌≡◌, ℕ, zero, suc, ◌<◌, ◌≤◌, List, [], ◌∷◌, ◌++◌, length, take, drop, refl, sym, ap, ◌∙◌, arith}
use Rattle.std.specs.Prelude.{slice_get}
use Rattle.std.specs.Option.{option_map_or}
use Rattle.std.specs.Global.{Vec}
use Rattle.std.proofs.lemmas.List.{append-nil, drop_all}
use Rattle.std.proofs.Math.Seq.{take-length}
use Rattle.std.proofs.lemmas.Option.{slice_get_past}
pub use Rattle.base_laws.proofs.Lists.{snoc_new as got_there}

pub got_below : {A : Type 0} (xs : List A) (y : A) (n : ℕ) → n < length xs → slice_get (xs ++ y ∷ []) n ≡ slice_get xs n
got_below [] y n lt = absurd (omega (arith, lt))
got_below (x ∷ xs) y zero lt = refl
got_below (x ∷ xs) y (suc n) lt = got_below xs y n (omega (arith, lt))

-- what is in the row of a number
abbrev pub items_of : {A : Type 0} → List (Vec A) → ℕ → List A
items_of rows n = option_map_or (λ v. v.items) (slice_get rows n) []

-- one row more
pub row_below : {A : Type 0} (rows longer : List (Vec A)) (row : Vec A) (k : ℕ) → longer ≡ rows ++ row ∷ [] → length rows ≡ k → (n : ℕ) → n < k → items_of longer n ≡ items_of rows n
row_below rows longer row k grown count n lt = ap (λ rs. items_of rs n) grown ∙ ap (λ o. option_map_or (λ v. v.items) o []) (got_below rows row n (omega (arith, lt, count)))

pub row_there : {A : Type 0} (rows longer : List (Vec A)) (row : Vec A) (k : ℕ) → longer ≡ rows ++ row ∷ [] → length rows ≡ k → items_of longer k ≡ row.items
row_there rows longer row k grown count = ap (λ rs. items_of rs k) grown ∙ ap (λ m. items_of (rows ++ row ∷ []) m) (sym count) ∙ ap (λ o. option_map_or (λ v. v.items) o []) (got_there rows row)

pub row_past : {A : Type 0} (rows : List (Vec A)) (n : ℕ) → length rows ≤ n → items_of rows n ≡ []
row_past rows n le = ap (λ o. option_map_or (λ v. v.items) o []) (slice_get_past rows n le)

-- what is written through a whole vector is what it has then
pub whole_written : {A : Type 0} (items new : List A) (len : ℕ) → len ≡ length items → length new ≡ length items → take len (new ++ drop (length new) items) ≡ new
whole_written {A} items new len all same =
    let rest : drop (length new) items ≡ [] = drop_all (length new) items (omega (arith, same)) in
    ap (λ xs. take len (new ++ xs)) rest ∙ ap (take len) (append-nil new) ∙ ap (λ n. take n new) (all ∙ sym same) ∙ take-length new
