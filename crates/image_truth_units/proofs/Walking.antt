-- What holds where a function begins, and is kept along paths and at markers, holds at each point that a path comes to.
use Rattle.std.proofs.Common.{◌≡◌, ◌⊎◌, inl, inr, ℕ, false, Some, List, [], ◌∷◌, length, slice_get, refl, sym, ◌∙◌, subst}
use Rattle.graph_core.specs.declared.value.Value.{Value}
use Rattle.graph_core.specs.Graphs.{Instruction, Marker, End, Block, Graph}
use Rattle.graph_core.specs.Uses.{targets_of}
use Rattle.graph_core.specs.Paths.{History, Among, Way, stays, passes, goes, Path, path, is_marker}
use Rattle.graph_build_laws.proofs.Instances.{NoMarkers}
use Rattle.graph_build_laws.proofs.Paths.{BeginsPlace}

-- A state is kept along ways.
pub record IsKept (g : Graph) (G : (p : ℕ) → List Instruction → End → Type 0) (Inv : History → List Instruction → End → Type 0) : Type 0 where
  pub begins : (b : Block) → slice_get g.blocks 0 ≡ Some b → Inv [] b.instructions b.end
  pub mark : (h : History) (n : ℕ) (v : Value) (q : ℕ) (rest : List Instruction) (e : End) → G q rest e → Inv h (Marker q ∷ rest) e → Inv (record { block = n; left = length rest; instruction = Marker q; wrote = v } ∷ h) rest e
  pub step : (h : History) (n : ℕ) (v : Value) (i : Instruction) (rest : List Instruction) (e : End) → is_marker i ≡ false → Inv h (i ∷ rest) e → Inv (record { block = n; left = length rest; instruction = i; wrote = v } ∷ h) rest e
  pub over : (h : History) (e : End) (l : ℕ) (b : Block) → Among l (targets_of e) → slice_get g.blocks l ≡ Some b → Inv h [] e → Inv h b.instructions b.end

module _ (g : Graph) (G : (p : ℕ) → List Instruction → End → Type 0) (of_blocks : (n : ℕ) (b : Block) → slice_get g.blocks n ≡ Some b → BeginsPlace G b ⊎ NoMarkers b.instructions) (Inv : History → List Instruction → End → Type 0) (kept : IsKept g G Inv) where
  -- a point that a path comes to: where a block begins, or where no marker is left in one
  data At : List Instruction → End → Type 0 where
    begins : (n : ℕ) (b : Block) → slice_get g.blocks n ≡ Some b → At b.instructions b.end
    within : {rest : List Instruction} {e : End} → NoMarkers rest → At rest e

  record Past (i : Instruction) (rest : List Instruction) (e : End) : Type 0 where
    none : NoMarkers rest
    either : (is_marker i ≡ false) ⊎ ((p : ℕ) × (i ≡ Marker p) × G p rest e)

  head_is : {i j : Instruction} {xs ys : List Instruction} → i ∷ xs ≡ j ∷ ys → i ≡ j
  head_is e = cc

  tail_is : {i j : Instruction} {xs ys : List Instruction} → i ∷ xs ≡ j ∷ ys → xs ≡ ys
  tail_is e = cc

  past_none : (i : Instruction) (rest : List Instruction) (e : End) → NoMarkers (i ∷ rest) → Past i rest e
  past_none i rest e h = record { none = h.1; either = inl h.0 }

  past_block : (b : Block) (i : Instruction) (rest : List Instruction) → b.instructions ≡ i ∷ rest → BeginsPlace G b ⊎ NoMarkers b.instructions → Past i rest b.end
  past_block b i rest e (inl m) =
      let same : Marker m.place ∷ m.rest ≡ i ∷ rest = sym m.is ∙ e in
      let left = tail_is same in
      record { none = subst NoMarkers left m.none; either = inr (m.place, sym (head_is same), subst (λ (l : List Instruction). G m.place l b.end) left m.has) }
  past_block b i rest e (inr h) = past_none i rest b.end (subst NoMarkers e h)

  past : (l : List Instruction) (e : End) → At l e → (i : Instruction) (rest : List Instruction) → l ≡ i ∷ rest → Past i rest e
  past l e (begins n b is) i rest same = past_block b i rest same (of_blocks n b is)
  past l e (within h) i rest same = past_none i rest e (subst NoMarkers same h)

  passed : (h : History) (n : ℕ) (v : Value) (i : Instruction) (rest : List Instruction) (e : End) → (is_marker i ≡ false) ⊎ ((p : ℕ) × (i ≡ Marker p) × G p rest e) → Inv h (i ∷ rest) e → Inv (record { block = n; left = length rest; instruction = i; wrote = v } ∷ h) rest e
  passed h n v i rest e (inl off) k = kept.step h n v i rest e off k
  passed h n v i rest e (inr m) k =
      subst (λ (j : Instruction). Inv (record { block = n; left = length rest; instruction = j; wrote = v } ∷ h) rest e) (sym m.1) (kept.mark h n v m.0 rest e m.2 (subst (λ (j : Instruction). Inv h (j ∷ rest) e) m.1 k))

  walk : {b0 : Block} {h : History} {n : ℕ} {rest : List Instruction} {e : End} → slice_get g.blocks 0 ≡ Some b0 → Way g 0 b0.instructions b0.end h n rest e → At rest e × Inv h rest e
  walk {b0 = b0} is stays = (begins 0 b0 is, kept.begins b0 is)
  walk is (passes {h = h} {n = n} {i = i} {left = left} {e = e} way v) =
      let x = walk is way in
      let y = past (i ∷ left) e x.0 i left refl in
      (within y.none, passed h n v i left e y.either x.1)
  walk is (goes {h = h} {l = l} {e = e} way a b at) = let x = walk is way in (begins l b at, kept.over h e l b a at x.1)

  pub walked : (h : History) (n : ℕ) (rest : List Instruction) (e : End) → Path g h n rest e → Inv h rest e
  walked h n rest e (path b is way) = (walk is way).1
