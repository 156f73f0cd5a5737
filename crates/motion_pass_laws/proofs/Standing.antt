-- What stands in a place of the graph after, and how ways come to markers there.
use Rattle.std.proofs.Common.{◌≡◌, inl, inr, ℕ, zero, suc, ◌<◌, true≢false, Option, Some, List, [], ◌∷◌, refl, sym, ap, ◌∙◌, subst}
use Rattle.std.specs.Prelude.{slice_get}
use Rattle.std.proofs.lemmas.Option.{none-some, same_Some}
use Rattle.graph_core.specs.Graphs.{Operand, Instruction, Marker, End, Jump, Return, Block, Graph, UnitForm}
use Rattle.graph_core.specs.Uses.{targets_of}
use Rattle.graph_core.specs.Paths.{Among, front, behind, is_bound}
use Rattle.graph_core.specs.Validity.{IsGraph, place_behind, markers_in, markers_of_blocks}
use Rattle.graph_core.specs.WellMarked as marked
use Rattle.graph_core.specs.WellMarked.{StandsIn, here, InPlace, ComesToMarker, at_marker, on, leaves, WrittenIn, instruction, bound}
use Rattle.graph_core.specs.Computations.{Computation}
use Rattle.motion_pass_laws.specs.Made.{StaysOrReads, IsDoing, CanBeDone, of_next, IsLedTo, directly, by_own, EndsSo, AreLeft, none_left, one_left, new_left, IsAfter, of_block, of_edge, IsMade}
use Rattle.motion_pass_laws.proofs.Doings.{new_behind, new_markers, new_writes, same_place_behind, same_writes, same_markers, marker_stays}
use Rattle.motion_pass_laws.proofs.Lists.{among_parts, among_left, among_right}
use Rattle.motion_pass_laws.proofs.Ways.{leads_inside}

-- Among no instructions nothing stands.
nothing_stands : {p : ℕ} {i : Instruction} {place : Option ℕ} → StandsIn p i place [] → ⊥
nothing_stands stands = elim stands [ ]

module _ (g : Graph) where
  -- What stands in a place after is new, or what became of an instruction that stands there before.
  pub data StoodIn (p : ℕ) (j : Instruction) (place : Option ℕ) (before : List Instruction) : Type 0 where
    was_there : (i : Instruction) → StaysOrReads g i j → StandsIn p i place before → StoodIn p j place before
    was_not : (e : Computation) → IsDoing g e j → StoodIn p j place before

  module _ (h : Graph) where
    -- behind one instruction more
    stood_later : (p : ℕ) (i j k : Instruction) (place : Option ℕ) (rest : List Instruction) → StaysOrReads g i j → StoodIn p k (place_behind (j ∷ []) place) rest → StoodIn p k place (i ∷ rest)
    stood_later p i j k place rest same (was_there l becomes stands) = was_there l becomes (marked.behind (subst (λ q. StandsIn p l q rest) (same_place_behind g same place) stands))
    stood_later p i j k place rest same (was_not e new) = was_not e new

    -- It stood so, among what is left.
    pub stood_in : (n : ℕ) (end last : End) {before after : List Instruction} → AreLeft g h n end last before after → (p : ℕ) (j : Instruction) (place : Option ℕ) → StandsIn p j place after → StoodIn p j place before
    stood_in n end last (none_left ends) p j place stands = absurd (nothing_stands stands)
    stood_in n end last (one_left {i = i} same are) p j _ here = was_there i same here
    stood_in n end last (one_left {i = i} {j = k} {before} same are) p j place (marked.behind stands) = stood_later p i k j place before same (stood_in n end last are p j (place_behind (k ∷ []) place) stands)
    stood_in n end last (new_left new are) p j _ here = was_not new.computation new.does
    stood_in n end last (new_left {i = k} {before} new are) p j place (marked.behind stands) = subst (λ q. StoodIn p j q before) (new_behind g new.computation k new.does place) (stood_in n end last are p j (place_behind (k ∷ []) place) stands)

    -- What becomes of an instruction that stands in a place stands there.
    pub record StandsStill (p : ℕ) (i : Instruction) (place : Option ℕ) (after : List Instruction) : Type 0 where
      pub becomes : Instruction
      pub same : StaysOrReads g i becomes
      pub stands : StandsIn p becomes place after

    -- behind one instruction more
    stands_later : (p : ℕ) (i j : Instruction) (place next : Option ℕ) (after : List Instruction) → place_behind (j ∷ []) place ≡ next → StandsStill p i next after → StandsStill p i place (j ∷ after)
    stands_later p i j place next after is s = record { becomes = s.becomes; same = s.same; stands = marked.behind (subst (λ q. StandsIn p s.becomes q after) (sym is) s.stands) }

    -- So it is among what is left.
    pub stands_still : (n : ℕ) (end last : End) {before after : List Instruction} → AreLeft g h n end last before after → (p : ℕ) (i : Instruction) (place : Option ℕ) → StandsIn p i place before → StandsStill p i place after
    stands_still n end last (none_left ends) p i place stands = absurd (nothing_stands stands)
    stands_still n end last (one_left {j = j} same are) p i _ here = record { becomes = j; same = same; stands = here }
    stands_still n end last (one_left {i = k} {j = j} {before} {after} same are) p i place (marked.behind stands) =
        stands_later p i j place (place_behind (k ∷ []) place) after (same_place_behind g same place) (stands_still n end last are p i (place_behind (k ∷ []) place) stands)
    stands_still n end last (new_left {i = k} {before} {after} new are) p i place stands =
        stands_later p i k place place after (new_behind g new.computation k new.does place) (stands_still n end last are p i place stands)

    -- What is left behind a marker begins with it: nothing new stands there.
    pub first_stays : (n : ℕ) (end last : End) (p : ℕ) (rest after : List Instruction) → AreLeft g h n end last (Marker p ∷ rest) after → (more : List Instruction) × (after ≡ Marker p ∷ more)
    first_stays n end last p rest _ (one_left {j = j} {after = more} same are) = (more, ap (λ i. i ∷ more) (marker_stays g j same))
    first_stays n end last p rest _ (new_left added are) = absurd (none_there added.can)
      where
        none_there : {e : Computation} → CanBeDone g e n (Marker p ∷ rest) end → ⊥
        none_there {e} (of_next is) = absurd (none-some e is)

    -- The end after stands for the one before.
    pub left_ends : (n : ℕ) (end last : End) {before after : List Instruction} → AreLeft g h n end last before after → EndsSo g h n end last
    left_ends n end last (none_left ends) = ends
    left_ends n end last (one_left same are) = left_ends n end last are
    left_ends n end last (new_left added are) = left_ends n end last are

    -- The places that they begin are the same.
    pub left_markers : (n : ℕ) (end last : End) {before after : List Instruction} → AreLeft g h n end last before after → markers_in after ≡ markers_in before
    left_markers n end last (none_left ends) = refl
    left_markers n end last (one_left {before = before} {after} same are) = same_markers g same before after (left_markers n end last are)
    left_markers n end last (new_left {i = k} {before} {after} new are) = new_markers g new.computation k new.does after ∙ left_markers n end last are

module _ (g h : Graph) (made : IsMade g h) where
  -- What stands in a place of the graph after is new, or what became of an instruction that stands there before.
  pub data WasInPlace (p : ℕ) (j : Instruction) : Type 0 where
    was_in : (i : Instruction) → StaysOrReads g i j → InPlace g p i → WasInPlace p j
    was_none : (e : Computation) → IsDoing g e j → WasInPlace p j

  -- nothing stands in a place of no instructions
  edge_place : (p : ℕ) (j : Instruction) (place : Option ℕ) → StoodIn g p j place [] → WasInPlace p j
  edge_place p j place (was_there i same stands) = absurd (nothing_stands stands)
  edge_place p j place (was_not e is) = was_none e is

  -- So it is with each place.
  pub was_in_place : (p : ℕ) (j : Instruction) → InPlace h p j → WasInPlace p j
  was_in_place p j at = by_block (made.back at.number at.block at.is)
    where
      by_stood : (b : Block) → slice_get g.blocks at.number ≡ Some b → StoodIn g p j b.place b.instructions → WasInPlace p j
      by_stood b is (was_there i same stands) = was_in i same (record { number = at.number; block = b; is = is; stands = stands })
      by_stood b is (was_not e does) = was_none e does

      by_block : IsAfter g h at.number at.block → WasInPlace p j
      by_block (of_block b is of) = by_stood b is (stood_in g h at.number b.end at.block.end of.left p j b.place (subst (λ q. StandsIn p j q at.block.instructions) of.place at.stands))
      by_block (of_edge m b is are) = edge_place p j at.block.place (stood_in g h m b.end at.block.end are p j at.block.place at.stands)

  -- What became of an instruction that stands in a place stands there.
  pub record IsInPlaceStill (p : ℕ) (i : Instruction) : Type 0 where
    pub becomes : Instruction
    pub same : StaysOrReads g i becomes
    pub stands : InPlace h p becomes

  -- So it is with each place.
  pub in_place_still : (p : ℕ) (i : Instruction) → InPlace g p i → IsInPlaceStill p i
  in_place_still p i at =
      let c = made.block at.number at.block at.is in
      let s = stands_still g h at.number at.block.end c.0.end c.2.left p i at.block.place at.stands in
      record { becomes = s.becomes; same = s.same; stands = record { number = at.number; block = c.0; is = c.1; stands = subst (λ q. StandsIn p s.becomes q c.0.instructions) (sym c.2.place) s.stands } }

  -- A name of the graph that is written in a place after is written there before.
  pub written_before : (p x : ℕ) → x < g.name_count → WrittenIn h p x → WrittenIn g p x
  written_before p x less (instruction j at is) = by_place (was_in_place p j at)
    where
      by_place : WasInPlace p j → WrittenIn g p x
      by_place (was_in i same stands) = instruction i stands (sym (same_writes g x same) ∙ is)
      by_place (was_none e does) = absurd (true≢false (sym is ∙ new_writes g e j does x less))
  written_before p x less (bound is binds) = bound (is ∙ made.entry) (ap (λ ps. is_bound x ps) (sym made.parameters) ∙ binds)

  -- What is written in a place before is written there after.
  pub written_after : (p x : ℕ) → WrittenIn g p x → WrittenIn h p x
  written_after p x (instruction i at is) = (let s = in_place_still p i at in instruction s.becomes s.stands (same_writes g x s.same ∙ is))
  written_after p x (bound is binds) = bound (is ∙ sym made.entry) (ap (λ ps. is_bound x ps) made.parameters ∙ binds)

  -- ---- Ways to markers

  -- each edge leads to a block
  abbrev pub IsInside : End → Type 0
  IsInside end = (l : ℕ) → Among l (targets_of end) → (c : Block) × (slice_get g.blocks l ≡ Some c)

  -- Each way from what is left after comes to a marker or to an end of the function.
  abbrev pub AllCome : List Instruction → End → Type 0
  AllCome before end = (n : ℕ) (last : End) (after : List Instruction) → AreLeft g h n end last before after → ComesToMarker h after last

  -- what becomes a marker is one
  marker_comes : (p : ℕ) (j : Instruction) (after : List Instruction) (last : End) → StaysOrReads g (Marker p) j → ComesToMarker h (j ∷ after) last
  marker_comes p j after last same = subst (λ k. ComesToMarker h (k ∷ after) last) (sym (marker_stays g j same)) at_marker

  -- So it is before a marker.
  before_marker : (n : ℕ) (end last : End) (p : ℕ) (rest after : List Instruction) → AreLeft g h n end last (Marker p ∷ rest) after → ComesToMarker h after last
  before_marker n end last p rest _ (one_left {j = j} {after = after} same are) = marker_comes p j after last same
  before_marker n end last p rest _ (new_left {after = after} added are) = on (before_marker n end last p rest after are)

  -- So it is before an instruction, where it is so behind it.
  before_one : (n : ℕ) (end last : End) (i : Instruction) (rest after : List Instruction) → AllCome rest end → AreLeft g h n end last (i ∷ rest) after → ComesToMarker h after last
  before_one n end last i rest _ next (one_left {after = after} same are) = on (next n last after are)
  before_one n end last i rest _ next (new_left {after = after} added are) = on (before_one n end last i rest after next are)

  -- So it is before the end of a block, where it is so behind that.
  before_last : (n : ℕ) (end last : End) (after : List Instruction) → (EndsSo g h n end last → ComesToMarker h [] last) → AreLeft g h n end last [] after → ComesToMarker h after last
  before_last n end last _ next (none_left ends) = next ends
  before_last n end last _ next (new_left {after = after} added are) = on (before_last n end last after next are)

  -- So it is before a return.
  before_return : (a : Option Operand) → AllCome [] (Return a)
  before_return a n last after are = before_last n (Return a) last after (λ ends. marked.goes (λ l c among at. absurd (nowhere l (ends.targets l among)))) are
    where
      nowhere : (l : ℕ) → IsLedTo g h n (Return a) l → ⊥
      nowhere l (directly to) = elim to [ ]
      nowhere l (by_own c to at all leads jumps) = elim leads [ ]

  -- instructions before an end
  all_on : (end : End) (xs : List Instruction) → ComesToMarker h [] end → ComesToMarker h xs end
  all_on end [] comes = comes
  all_on end (x ∷ xs) comes = on (all_on end xs comes)

  -- So it is before the end of a block, where it is so before each block to which that leads.
  pub before_end : (end : End) → IsInside end → ((l : ℕ) (b : Block) → Among l (targets_of end) → slice_get g.blocks l ≡ Some b → AllCome b.instructions b.end) → AllCome [] end
  before_end end inside next n last after are = before_last n end last after (λ ends. marked.goes (λ l c among at. by_edge l c at (ends.targets l among))) are
    where
      by_block : (l : ℕ) (c : Block) → slice_get h.blocks l ≡ Some c → Among l (targets_of end) → ComesToMarker h c.instructions c.end
      by_block l c at among =
          let b = inside l among in
          let d = made.block l b.0 b.1 in
          subst (λ (k : Block). ComesToMarker h k.instructions k.end) (same_Some d.0 c (sym d.1 ∙ at)) (next l b.0 among b.1 l d.0.end d.0.instructions d.2.left)

      by_jump : (to : ℕ) → Among to (targets_of end) → (l : ℕ) (c : Block) → Among l (to ∷ []) → slice_get h.blocks l ≡ Some c → ComesToMarker h c.instructions c.end
      by_jump to among _ c front at = by_block to c at among
      by_jump to among l c (behind more) at = elim more [ ]

      by_edge : (l : ℕ) (c : Block) → slice_get h.blocks l ≡ Some c → IsLedTo g h n end l → ComesToMarker h c.instructions c.end
      by_edge l c at (directly among) = by_block l c at among
      by_edge l c at (by_own d to stands all among jumps) =
          subst (λ (k : Block). ComesToMarker h k.instructions k.end) (same_Some d c (sym stands ∙ at))
          (all_on d.end d.instructions (subst (λ e. ComesToMarker h [] e) (sym jumps) (marked.goes {e = Jump to} (by_jump to among))))

  module _ (u : UnitForm) (valid : IsGraph u g) where
    -- EACH WAY AFTER COMES TO A MARKER or to an end of the function, where each way before does.
    pub comes_after : {before : List Instruction} {end : End} → ComesToMarker g before end → IsInside end → AllCome before end
    comes_after {end = end} (at_marker {p = p} {rest = rest}) inside = λ n last after are. before_marker n end last p rest after are
    comes_after {end = end} (on {i = i} {rest = rest} comes) inside = (let next = comes_after comes inside in λ n last after are. before_one n end last i rest after next are)
    comes_after (leaves {a = a}) inside = before_return a
    comes_after {end = end} (marked.goes next) inside = before_end end inside (λ l b among at. comes_after (next l b among at) (leads_inside u g valid l b at))

-- ---- Markers of all blocks

-- A block has the marker of a place.
pub record HasMarker (blocks : List Block) (p : ℕ) : Type 0 where
  pub number : ℕ
  pub block : Block
  pub is : slice_get blocks number ≡ Some block
  pub has : Among p (markers_in block.instructions)

-- A marker of the blocks is that of some block.
marker_there : (blocks : List Block) (p : ℕ) → Among p (markers_of_blocks blocks) → HasMarker blocks p
marker_there [] p among = elim among [ ]
marker_there (b ∷ blocks) p among = elim (among_parts p (markers_in b.instructions) (markers_of_blocks blocks) among) [
  | inl one ↦ record { number = 0; block = b; is = refl; has = one }
  | inr more ↦ (let m = marker_there blocks p more in record { number = suc m.number; block = m.block; is = m.is; has = m.has })
]

-- A marker of some block is one of the blocks.
marker_among : (blocks : List Block) (p n : ℕ) (b : Block) → slice_get blocks n ≡ Some b → Among p (markers_in b.instructions) → Among p (markers_of_blocks blocks)
marker_among [] p n b at has = absurd (none-some b at)
marker_among (c ∷ blocks) p zero b at has = among_left p (markers_in c.instructions) (markers_of_blocks blocks) (subst (λ (k : Block). Among p (markers_in k.instructions)) (sym (same_Some c b at)) has)
marker_among (c ∷ blocks) p (suc n) b at has = among_right p (markers_in c.instructions) (markers_of_blocks blocks) (marker_among blocks p n b at has)

module _ (g h : Graph) (made : IsMade g h) where
  -- A marker before stands after.
  pub marker_after : (p : ℕ) → Among p (markers_of_blocks g.blocks) → Among p (markers_of_blocks h.blocks)
  marker_after p among =
      let m = marker_there g.blocks p among in
      let c = made.block m.number m.block m.is in
      marker_among h.blocks p m.number c.0 c.1 (subst (λ ps. Among p ps) (sym (left_markers g h m.number m.block.end c.0.end c.2.left)) m.has)

  -- A marker after stood before.
  pub marker_before : (p : ℕ) → Among p (markers_of_blocks h.blocks) → Among p (markers_of_blocks g.blocks)
  marker_before p among = by_block (made.back m.number m.block m.is)
    where
      m : HasMarker h.blocks p
      m = marker_there h.blocks p among

      by_block : IsAfter g h m.number m.block → Among p (markers_of_blocks g.blocks)
      by_block (of_block b is of) = marker_among g.blocks p m.number b is (subst (λ ps. Among p ps) (left_markers g h m.number b.end m.block.end of.left) m.has)
      by_block (of_edge n b is are) = absurd (none (subst (λ ps. Among p ps) (left_markers g h n b.end m.block.end are) m.has))
        where
          none : Among p [] → ⊥
          none other = elim other [ ]
