-- What holds behind the marker of each place, and goes on, holds wherever a path has come from there.
use Rattle.std.proofs.Common.{◌≡◌, ◌⊎◌, inl, inr, ℕ, false, Option, Some, None, List, ◌∷◌, slice_get, refl, sym, ap, ◌∙◌, subst}
use Rattle.graph_core.specs.Graphs.{Instruction, Marker, Note, End, Block, Graph}
use Rattle.graph_core.specs.Paths.{History, Way, stays, passes, goes, Path, path, place_of, place_by, is_marker}
use Rattle.graph_build_laws.specs.Points.{GoesOn}
use Rattle.graph_build_laws.proofs.Instances.{NoMarkers}
use Rattle.base_laws.proofs.Options.{some_same}

same_place : (i : Instruction) (before : Option ℕ) → is_marker i ≡ false → place_by i before ≡ before
same_place (Marker p) before h = cc
same_place (Note x v) before h = refl
same_place _ before h = refl

-- The block of a place begins with its marker, and has no other one; behind that the property holds.
pub record BeginsPlace (G : (p : ℕ) → List Instruction → End → Type 0) (b : Block) : Type 0 where
  pub place : ℕ
  pub rest : List Instruction
  pub is : b.instructions ≡ Marker place ∷ rest
  pub none : NoMarkers rest
  pub has : G place rest b.end

module _ (g : Graph) (G : (p : ℕ) → List Instruction → End → Type 0) (on : (p : ℕ) → GoesOn g.blocks (G p)) (of_blocks : (n : ℕ) (b : Block) → slice_get g.blocks n ≡ Some b → BeginsPlace G b ⊎ NoMarkers b.instructions) where
  -- a point that a path comes to: where a block begins, or where no marker is left in one
  data At : List Instruction → End → Type 0 where
    begins : (n : ℕ) (b : Block) → slice_get g.blocks n ≡ Some b → At b.instructions b.end
    within : {rest : List Instruction} {e : End} → NoMarkers rest → At rest e

  -- behind an instruction: no marker is left, and if it was one the property holds behind it
  record Past (i : Instruction) (rest : List Instruction) (e : End) : Type 0 where
    none : NoMarkers rest
    either : (is_marker i ≡ false) ⊎ ((p : ℕ) × (i ≡ Marker p) × G p rest e)

  head_is : {i j : Instruction} {xs ys : List Instruction} → i ∷ xs ≡ j ∷ ys → i ≡ j
  head_is e = cc

  tail_is : {i j : Instruction} {xs ys : List Instruction} → i ∷ xs ≡ j ∷ ys → xs ≡ ys
  tail_is e = cc

  past_none : (i : Instruction) (rest : List Instruction) (e : End) → NoMarkers (i ∷ rest) → Past i rest e
  past_none i rest e h = record { none = h.1; either = inl h.0 }

  past_block : (b : Block) (i : Instruction) (rest : List Instruction) → b.instructions ≡ i ∷ rest → BeginsPlace G b ⊎ NoMarkers b.instructions → Past i rest b.end
  past_block b i rest e (inl m) =
      let same : Marker m.place ∷ m.rest ≡ i ∷ rest = sym m.is ∙ e in
      let left = tail_is same in
      record { none = subst NoMarkers left m.none; either = inr (m.place, sym (head_is same), subst (λ (l : List Instruction). G m.place l b.end) left m.has) }
  past_block b i rest e (inr h) = past_none i rest b.end (subst NoMarkers e h)

  past : (l : List Instruction) (e : End) → At l e → (i : Instruction) (rest : List Instruction) → l ≡ i ∷ rest → Past i rest e
  past l e (begins n b is) i rest same = past_block b i rest same (of_blocks n b is)
  past l e (within h) i rest same = past_none i rest e (subst NoMarkers same h)

  -- the property holds behind what is passed
  passed : (i : Instruction) (rest : List Instruction) (e : End) (before : Option ℕ) → Past i rest e → ((p : ℕ) → before ≡ Some p → G p (i ∷ rest) e) → (p : ℕ) → place_by i before ≡ Some p → G p rest e
  passed i rest e before x k p at = by x.either
    where
      by : (is_marker i ≡ false) ⊎ ((q : ℕ) × (i ≡ Marker q) × G q rest e) → G p rest e
      by (inl h) = (on p).step i rest e h (k p (sym (same_place i before h) ∙ at))
      by (inr m) = subst (λ q. G q rest e) (some_same (sym (ap (λ (j : Instruction). place_by j before) m.1) ∙ at)) m.2

  -- At each point that a path comes to the property holds of the place in force.
  walk : {b0 : Block} {h : History} {n : ℕ} {rest : List Instruction} {e : End} → slice_get g.blocks 0 ≡ Some b0 → Way g 0 b0.instructions b0.end h n rest e → At rest e × ((p : ℕ) → place_of h ≡ Some p → G p rest e)
  walk {b0 = b0} is stays = (begins 0 b0 is, λ p x. none_here x)
    where
      none_here : {p : ℕ} → None ≡ Some p → G p b0.instructions b0.end
      none_here x = cc
  walk is (passes {h = h} {i = i} {left = left} {e = e} way v) =
      let x = walk is way in
      let y = past (i ∷ left) e x.0 i left refl in
      (within y.none, passed i left e (place_of h) y x.1)
  walk is (goes {l = l} {e = e} way a b at) =
      let x = walk is way in (begins l b at, λ p h. (on p).over e (x.1 p h) l a b at)

  pub along : (h : History) (n : ℕ) (rest : List Instruction) (e : End) → Path g h n rest e → (p : ℕ) → place_of h ≡ Some p → G p rest e
  along h n rest e (path b is way) = (walk is way).1
