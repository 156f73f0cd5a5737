-- Markers stay: the graph after begins with that of its entry, and each way comes to one.
use Rattle.std.proofs.Common.{◌≡◌, ℕ, true≢false, Some, List, [], ◌∷◌, ◌++◌, refl, sym, ap, ◌∙◌, subst}
use Rattle.std.specs.Prelude.{slice_get}
use Rattle.places.specs.declared.flow.Assignment.{Assignment}
use Rattle.graph_core.specs.Graphs.{Instruction, Marker, End, Block, Graph, Logged, UnitForm}
use Rattle.graph_core.specs.Paths.{is_marker}
use Rattle.graph_core.specs.WellMarked.{ComesToMarker, at_marker, on, leaves, goes}
use Rattle.dead_pass_rule.specs.Removing.{without}
use Rattle.dead_pass_notes.specs.Said.{AreSaid, ends, gone, stays}
use Rattle.dead_pass_laws.proofs.Came.{reduced_graph, IsTaken}
use Rattle.dead_pass_laws.proofs.Points.{first_same, rest_same}
use Rattle.dead_pass_laws.proofs.Instructions.{GoesAs, computed, called, goes_as, computed_plain, going_plain, kept_marker, said_kept}
use Rattle.dead_pass_laws.proofs.Ways.{not_empty, was_block}

module _ {assignments : List Assignment} (log : List Logged) (g : Graph) (n : ℕ) (e : End) where
  -- What is left of a block that begins with a marker begins with it.
  said_marker : (xs ys : List Instruction) (p : ℕ) (rest : List Instruction) → AreSaid assignments log g n e xs ys → xs ≡ Marker p ∷ rest → (more : List Instruction) × (ys ≡ Marker p ∷ more)
  said_marker xs ys p rest ends whole = absurd (not_empty (sym whole))
  said_marker xs ys p rest (gone {i} {rest = behind} it_goes said) whole =
      absurd (true≢false (sym (ap (λ j. is_marker j) (first_same whole)) ∙ going_plain (goes_as g n i behind e it_goes)))
  said_marker xs ys p rest (stays {rest = behind} {after = others} stay says said) whole = (others, ap (λ j. j ∷ others) (kept_marker p (said_kept log g n behind e says) (first_same whole)))

  -- Of no instructions nothing is left.
  said_none : (xs ys : List Instruction) → AreSaid assignments log g n e xs ys → xs ≡ [] → ys ≡ []
  said_none xs ys ends none = none
  said_none xs ys (gone it_goes said) none = absurd (not_empty none)
  said_none xs ys (stays stay says said) none = absurd (not_empty none)

module _ (u : UnitForm) (log : List Logged) (g : Graph) (blocks : List Block) (taken : IsTaken u log g blocks) where
  -- THE GRAPH AFTER BEGINS with the marker of its entry.
  pub begins_still : (c : Block) → slice_get blocks 0 ≡ Some c → (rest : List Instruction) × (c.instructions ≡ Marker g.entry ∷ rest)
  begins_still c at =
      let b = was_block u log g blocks taken 0 c at in
      let first = taken.marked.begins b.block b.is in
      said_marker log g 0 b.block.end b.block.instructions c.instructions g.entry first.0 b.said first.1

  -- what comes to a marker after
  abbrev Comes : List Instruction → End → Type 0
  Comes = ComesToMarker (reduced_graph g blocks)

  -- behind what is left of one that goes
  comes_going : (i : Instruction) (others : List Instruction) (f : End) → GoesAs i → Comes others f → Comes (without i ++ others) f
  comes_going i others f (computed is) c = subst (λ l. Comes (l ++ others) f) (sym (computed_plain i is).left) c
  comes_going _ others f called c = on c

  -- behind what is left of an instruction
  comes_behind : (n : ℕ) (e f : End) (i : Instruction) (rest xs ys : List Instruction) → AreSaid u.assignments log g n e xs ys → xs ≡ i ∷ rest → ((others : List Instruction) → AreSaid u.assignments log g n e rest others → Comes others f) → Comes ys f
  comes_behind n e f i rest xs ys ends whole later = absurd (not_empty (sym whole))
  comes_behind n e f i rest xs ys (gone {i = k} {rest = behind} {after = others} it_goes said) whole later =
      comes_going k others f (goes_as g n k behind e it_goes) (later others (subst (λ l. AreSaid u.assignments log g n e l others) (rest_same whole) said))
  comes_behind n e f i rest xs ys (stays {after = others} stay says said) whole later = on (later others (subst (λ l. AreSaid u.assignments log g n e l others) (rest_same whole) said))

  -- Where each way before comes to a marker or to an end of the function, each way after does.
  comes_still : {rest : List Instruction} {f : End} → ComesToMarker g rest f → (n : ℕ) (e : End) (ys : List Instruction) → AreSaid u.assignments log g n e rest ys → Comes ys f
  comes_still {f = f} (at_marker {p} {rest = more}) n e ys said = (let first = said_marker log g n e (Marker p ∷ more) ys p more said refl in subst (λ l. Comes l f) (sym first.1) at_marker)
  comes_still {f = f} (on {i} {rest = more} c) n e ys said = comes_behind n e f i more (i ∷ more) ys said refl (λ others later. comes_still c n e others later)
  comes_still {f = f} leaves n e ys said = subst (λ l. Comes l f) (sym (said_none log g n e [] ys said refl)) leaves
  comes_still {f = f} (goes next) n e ys said =
      subst (λ l. Comes l f) (sym (said_none log g n e [] ys said refl))
      (goes (λ l c among at.
      (let b = was_block u log g blocks taken l c at in
      subst (λ k. Comes c.instructions k) (sym b.end) (comes_still (next l b.block among b.is) l b.block.end c.instructions b.said))))

  -- EACH CYCLE of the graph after has a marker.
  pub cycles_still : (n : ℕ) (c : Block) → slice_get blocks n ≡ Some c → Comes c.instructions c.end
  cycles_still n c at =
      let b = was_block u log g blocks taken n c at in
      subst (λ k. Comes c.instructions k) (sym b.end) (comes_still (taken.marked.cycles n b.block b.is) n b.block.end c.instructions b.said)
