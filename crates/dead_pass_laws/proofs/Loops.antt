-- No way leads from a point of a well marked graph back to it without a marker.
use Rattle.std.proofs.Common.{◌≡◌, ℕ, false, true≢false, Some, List, [], ◌∷◌, length, refl, sym, ap, subst, arith}
use Rattle.std.specs.Prelude.{slice_get}
use Rattle.graph_core.specs.Graphs.{Instruction, Marker, End, Return, Block, Graph}
use Rattle.graph_core.specs.Paths.{Among, is_marker}
use Rattle.graph_core.specs.Uses.{targets_of}
use Rattle.graph_core.specs.WellMarked.{ComesToMarker, at_marker, on, leaves, goes}

-- A way without a marker leads from here to a point.
pub data Leads (g : Graph) (k : ℕ) (to : List Instruction) (last : End) : (n : ℕ) → List Instruction → End → Type 0 where
  arrived : {n : ℕ} {rest : List Instruction} {e : End} → n ≡ k → rest ≡ to → e ≡ last → Leads g k to last n rest e
  past : {n : ℕ} {i : Instruction} {rest : List Instruction} {e : End} → is_marker i ≡ false → Leads g k to last n rest e → Leads g k to last n (i ∷ rest) e
  into : {n l : ℕ} {e : End} (b : Block) → Among l (targets_of e) → slice_get g.blocks l ≡ Some b → Leads g k to last l b.instructions b.end → Leads g k to last n [] e

-- A way without a marker leads from a point on and back to it.
pub data Circles (g : Graph) : (n : ℕ) → List Instruction → End → Type 0 where
  circles_past : {n : ℕ} {i : Instruction} {rest : List Instruction} {e : End} → is_marker i ≡ false → Leads g n (i ∷ rest) e n rest e → Circles g n (i ∷ rest) e
  circles_into : {n l : ℕ} {e : End} (b : Block) → Among l (targets_of e) → slice_get g.blocks l ≡ Some b → Leads g n [] e l b.instructions b.end → Circles g n [] e

module _ (g : Graph) where
  -- A way goes on past an instruction, or into a block.
  further_past : {k : ℕ} {j : Instruction} {to : List Instruction} {last : End} → is_marker j ≡ false → (n : ℕ) (rest : List Instruction) (e : End) → Leads g k (j ∷ to) last n rest e → Leads g k to last n rest e
  further_past {k} {j} {to} {last} plain n rest e (arrived p q r) = subst (λ l. Leads g k to last n l e) (sym q) (past plain (arrived p refl r))
  further_past plain n rest e (past {rest = more} other way) = past other (further_past plain n more e way)
  further_past plain n rest e (into {l = l} b among at way) = into b among at (further_past plain l b.instructions b.end way)

  -- and it goes on into a block
  further_into : {k l : ℕ} {last : End} (c : Block) → Among l (targets_of last) → slice_get g.blocks l ≡ Some c → (n : ℕ) (rest : List Instruction) (e : End) → Leads g k [] last n rest e → Leads g l c.instructions c.end n rest e
  further_into {k} {l} c to there n rest e (arrived p q r) =
      subst (λ m. Leads g l c.instructions c.end n m e) (sym q) (into c (subst (λ f. Among l (targets_of f)) (sym r) to) there (arrived refl refl refl))
  further_into c to there n rest e (past {rest = more} other way) = past other (further_into c to there n more e way)
  further_into c to there n rest e (into {l = m} b among at way) = into b among at (further_into c to there m b.instructions b.end way)

  -- Where a way from a point leads to where one step leads to the point, it circles.
  around : (k : ℕ) (to : List Instruction) (last : End) (n : ℕ) (rest : List Instruction) (e : End) → ((m : ℕ) (left : List Instruction) (f : End) → Leads g k to last m left f → Leads g n rest e m left f) → (n ≡ k → rest ≡ to → e ≡ last → Circles g n rest e)
      → Leads g k to last n rest e → Circles g n rest e
  around k to last n rest e on_from at_once (arrived p q r) = at_once p q r
  around k to last n rest e on_from at_once (past {rest = more} other way) = circles_past other (on_from n more e way)
  around k to last n rest e on_from at_once (into {l = l} b among at way) = circles_into b among at (on_from l b.instructions b.end way)

  -- no list is longer than itself
  no_longer : {i : Instruction} {rest : List Instruction} → rest ≡ i ∷ rest → ⊥
  no_longer e = (let long = ap length e in omega (arith, long))

  -- What circles from a point circles from the next one.
  circles_next : (n : ℕ) (i : Instruction) (rest : List Instruction) (e : End) → Circles g n (i ∷ rest) e → Circles g n rest e
  circles_next n i rest e (circles_past plain way) = around n (i ∷ rest) e n rest e (further_past plain) (λ p q r. absurd (no_longer q)) way

  -- it circles from a block to which the end leads
  pub record CirclesOn (n : ℕ) (e : End) : Type 0 where
    pub l : ℕ
    pub b : Block
    pub to : Among l (targets_of e)
    pub at : slice_get g.blocks l ≡ Some b
    pub circles : Circles g l b.instructions b.end

  -- What circles from the end of a block circles from a block to which the end leads.
  circles_on : (n : ℕ) (e : End) → Circles g n [] e → CirclesOn n e
  circles_on n e (circles_into {l} b to at way) = record {
    l = l;
    b = b;
    to = to;
    at = at;
    circles = around n [] e l b.instructions b.end (further_into b to at)
        (λ p q r. subst (λ f. Circles g l b.instructions f) (sym r) (subst (λ m. Circles g l m e) (sym q) (subst (λ m. Circles g m [] e) (sym p) (circles_into b to at way)))) way;
  }

  -- no way without a marker circles past a marker
  marker_circles : (n p : ℕ) (rest : List Instruction) (e : End) → Circles g n (Marker p ∷ rest) e → ⊥
  marker_circles n p rest e (circles_past plain way) = true≢false plain

  -- and none from where the function is left
  leaving_circles : (n : ℕ) (e : End) → ((l : ℕ) → Among l (targets_of e) → ⊥) → Circles g n [] e → ⊥
  leaving_circles n e none c = (let on_there = circles_on n e c in none on_there.l on_there.to)

  -- From where each way comes to a marker no way circles,
  none_circles : (n : ℕ) (rest : List Instruction) (e : End) → ComesToMarker g rest e → Circles g n rest e → ⊥
  none_circles n rest e (at_marker {p} {rest = more}) c = marker_circles n p more e c
  none_circles n rest e (on {i} {rest = more} comes) c = none_circles n more e comes (circles_next n i more e c)
  none_circles n rest e (leaves {a}) c = leaving_circles n (Return a) (λ l among. elim among [ ]) c
  none_circles n rest e (goes each) c = (let there = circles_on n e c in none_circles there.l there.b.instructions there.b.end (each there.l there.b there.to there.at) there.circles)

  -- and so from no point.
  pub no_circle : ((n : ℕ) (b : Block) → slice_get g.blocks n ≡ Some b → ComesToMarker g b.instructions b.end) → (n : ℕ) (rest : List Instruction) (e : End) → Circles g n rest e → ⊥
  no_circle cycles n [] e c = (let there = circles_on n e c in none_circles there.l there.b.instructions there.b.end (cycles there.l there.b there.at) there.circles)
  no_circle cycles n (i ∷ rest) e c = no_circle cycles n rest e (circles_next n i rest e c)
