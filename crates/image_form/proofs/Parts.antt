-- Sections that lie one behind the other, in their order.
use Rattle.std.proofs.Common.{◌≡◌, ℕ, zero, suc, ◌+◌, ◌*◌, List, [], ◌∷◌, ◌++◌, length, take, drop, refl, sym, ap, ◌∙◌, append_assoc, arith}
use Rattle.std.specs.Prelude.{sum_by}
use Rattle.std.specs.List.{flat_map}
use Rattle.std.proofs.lemmas.Grind.{flat_map-append}
use Rattle.std.proofs.lemmas.List.{drop_at, drop-drop, length-append}
use Rattle.std.proofs.lemmas.List.Concat.{flat_map-cons}
use Rattle.std.proofs.lemmas.List.Sums.{sum_by-cons}
use Rattle.std.proofs.Math.Seq.{take-add}
use Rattle.image_form_sections.specs.declared.section.Section.{Section}
use Rattle.image_form_sections.specs.declared.version.Level.{Level}
use Rattle.image_form_sections.specs.Order.{order, section_number, record_size, sections_end, section_start}
use Rattle.image_form_sections.specs.Versions.{header_size}
use Rattle.image_form_sections.proofs.SectionLaws.{stands, bytes_of, behind_one}

module _ (level : Level) (count : Section → ℕ) (part : Section → List ℕ) where
  -- Parts of these sizes.
  pub length-parts : ((s : Section) → length (part s) ≡ record_size level s * count s) → (ss : List Section) → length (flat_map part ss) ≡ sum_by (bytes_of level count) ss
  length-parts sized [] = refl
  length-parts sized (s ∷ ss) =
      ap length (flat_map-cons part s ss)
      ∙ length-append (part s) (flat_map part ss)
      ∙ omega (arith, sized s, length-parts sized ss, sum_by-cons (bytes_of level count) s ss)

  -- Behind a header the parts begin where their sections do.
  pub after_parts : ((s : Section) → length (part s) ≡ record_size level s * count s) → (front : List ℕ) → length front ≡ header_size level → (s : Section)
      → drop (section_start level count s) (front ++ flat_map part order) ≡ part s ++ flat_map part (drop (suc (section_number s)) order)
  after_parts sized front long s =
      let before = take (section_number s) order in
      let after = drop (suc (section_number s)) order in
      let split : front ++ flat_map part order ≡ (front ++ flat_map part before) ++ (part s ++ flat_map part after) =
      ap (λ (ss : List Section). front ++ flat_map part ss) (stands s)
      ∙ ap (λ (b : List ℕ). front ++ b) (flat_map-append part before (s ∷ after) ∙ ap (λ (b : List ℕ). flat_map part before ++ b) (flat_map-cons part s after))
      ∙ sym (append_assoc front (flat_map part before) (part s ++ flat_map part after)) in
      let at : length (front ++ flat_map part before) ≡ section_start level count s = length-append front (flat_map part before) ∙ omega (arith, long, length-parts sized before) in
      ap (drop (section_start level count s)) split ∙ drop_at (front ++ flat_map part before) (part s ++ flat_map part after) (section_start level count s) at

-- Each section of a list has the number of its place, counted from one on.
abbrev InPlace : ℕ → List Section → Type 0
InPlace n [] = Unit {0}
InPlace n (s ∷ ss) = (section_number s ≡ n) × InPlace (suc n) ss

order_in_place : InPlace 0 order
order_in_place = (refl, (refl, (refl, (refl, (refl, (refl, (refl, (refl, (refl, (refl, (refl, (refl, (refl, (refl, tt))))))))))))))

take_next : (n : ℕ) (xs : List Section) (y : Section) (ys : List Section) → drop n xs ≡ y ∷ ys → (take (suc n) xs ≡ take n xs ++ y ∷ []) × (drop (suc n) xs ≡ ys)
take_next zero [] y ys e = absurd cc
take_next zero (x ∷ xs) y ys e = ((λ i. head (e i) ∷ []), (λ i. tail (e i)))
  where
    head : List Section → Section
    head [] = y
    head (z ∷ zs) = z

    tail : List Section → List Section
    tail [] = []
    tail (z ∷ zs) = zs
take_next (suc n) [] y ys e = absurd cc
take_next (suc n) (x ∷ xs) y ys e = let later = take_next n xs y ys e in (ap (λ (zs : List Section). x ∷ zs) later.0, later.1)

module _ (level : Level) (count : Section → ℕ) (bytes : List ℕ) (part : Section → List ℕ)
    (lies : (s : Section) → part s ≡ take (record_size level s * count s) (drop (section_start level count s) bytes)) where
  gathered : (n : ℕ) (ss : List Section) → drop n order ≡ ss → InPlace n ss
      → flat_map part ss ≡ take (sum_by (bytes_of level count) ss) (drop (sections_end level count (take n order)) bytes)
  gathered n [] rest places = refl
  gathered n (s ∷ ss) rest places =
      let next = take_next n order s ss rest in
      let at = sections_end level count (take n order) in
      let size = record_size level s * count s in
      let all = sum_by (bytes_of level count) ss in
      let begins : section_start level count s ≡ at = ap (λ (k : ℕ). sections_end level count (take k order)) places.0 in
      let own : part s ≡ take size (drop at bytes) = lies s ∙ ap (λ (k : ℕ). take size (drop k bytes)) begins in
      let moved : sections_end level count (take (suc n) order) ≡ at + size = ap (sections_end level count) next.0 ∙ behind_one level count (take n order) s in
      let later : flat_map part ss ≡ take all (drop size (drop at bytes)) =
      gathered (suc n) ss next.1 places.1
      ∙ ap (λ (k : ℕ). take all (drop k bytes)) moved
      ∙ ap (take all) (sym (drop-drop size at bytes)) in
      flat_map-cons part s ss
      ∙ (λ i. own i ++ later i)
      ∙ sym (take-add size all (drop at bytes))
      ∙ ap (λ (k : ℕ). take k (drop at bytes)) (sym (sum_by-cons (bytes_of level count) s ss))

  -- Parts that lie in bytes where their sections do are all that lies behind the header.
  pub parts_gathered : flat_map part order ≡ take (sum_by (bytes_of level count) order) (drop (header_size level) bytes)
  parts_gathered =
      let none : sections_end level count [] ≡ header_size level = omega arith in
      gathered 0 order refl order_in_place ∙ ap (λ (k : ℕ). take (sum_by (bytes_of level count) order) (drop k bytes)) none
