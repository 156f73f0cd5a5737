-- The activations of a unit over homes are ones of the unit's functions, and stand at places of theirs.
use Rattle.std.proofs.Common.{◌≡◌, ℕ, zero, suc, ◌+◌, inl, inr, Option, Some, None, List, [], ◌∷◌, map, slice_get, refl, sym, ap, ◌∙◌, subst, arith}
use Rattle.std.specs.Prelude.{option_map}
use Rattle.std.proofs.lemmas.Option.{none-some, same_Some, slice_get-map}
use Rattle.graph_core.specs.Graphs.{Instruction, Marker, Note, Move, Operate, Truncate, Same, Address, Load, Store, Zero, CopyWords, Call, Block, Graph}
use Rattle.graph_core.specs.Paths.{Among, front, behind}
use Rattle.graph_core.specs.Runs.{Activation}
use Rattle.graph_homes.specs.declared.home.Home.{Home}
use Rattle.graph_homes.specs.Homed.{HomedForm, home_of, placed_instruction, placed_block, placed_graph, placed_graphs, over_homes}
use Rattle.graph_homes.specs.Owned.{HasMarker, IsPlaceOf, IsActivation, IsOfFunction}

among_map : {A B : Type 0} (f : A → B) (xs : List A) (y : B) → Among y (map f xs) → (x : A) × Among x xs × (f x ≡ y)
among_map f [] y among = elim among [ ]
among_map f (x ∷ xs) y front = (x, front, refl)
among_map f (x ∷ xs) y (behind among) = let r = among_map f xs y among in (r.0, behind r.1, r.2)

module _ (home : ℕ → Home) where
  marker_only : (i : Instruction) (p : ℕ) → placed_instruction home i ≡ Marker p → i ≡ Marker p
  marker_only (Marker q) p same = same
  marker_only (Note x v) p same = cc
  marker_only (Move x a) p same = cc
  marker_only (Operate x o a b) p same = cc
  marker_only (Truncate x t a) p same = cc
  marker_only (Same x a b) p same = cc
  marker_only (Address x object) p same = cc
  marker_only (Load x e l) p same = cc
  marker_only (Store e l a) p same = cc
  marker_only (Zero object words) p same = cc
  marker_only (CopyWords object bytes words) p same = cc
  marker_only (Call x f all) p same = cc

  -- a block over homes is one of the graph
  block_back : (o : Option Block) (b : Block) → option_map (placed_block home) o ≡ Some b → (c : Block) × (o ≡ Some c) × (placed_block home c ≡ b)
  block_back None b is = absurd (none-some b is)
  block_back (Some c) b is = (c, refl, same_Some (placed_block home c) b is)

  marker_back : (g : Graph) (p : ℕ) → HasMarker (placed_graph home g) p → HasMarker g p
  marker_back g p has =
      let b = block_back (slice_get g.blocks has.number) has.block (sym (slice_get-map (placed_block home) g.blocks has.number) ∙ has.is) in
      let among : Among (Marker p) (map (placed_instruction home) b.0.instructions) = subst (λ (x : Block). Among (Marker p) x.instructions) (sym b.2) has.marker in
      let i = among_map (placed_instruction home) b.0.instructions (Marker p) among in
      record { number = has.number; block = b.0; is = b.1; marker = subst (λ j. Among j b.0.instructions) (marker_only i.0 p i.2) i.1 }

  place_back : (g : Graph) (p : ℕ) → IsPlaceOf (placed_graph home g) p → IsPlaceOf g p
  place_back g p (inl entry) = inl entry
  place_back g p (inr has) = inr (marker_back g p has)

placed_from : (h : HomedForm) (graphs : List Graph) (from f : ℕ) (x : Graph) → slice_get (placed_graphs h from graphs) f ≡ Some x → (g : Graph) × (slice_get graphs f ≡ Some g) × (placed_graph (home_of h (from + f)) g ≡ x)
placed_from h [] from f x is = absurd (none-some x is)
placed_from h (g ∷ graphs) from zero x is = let at : from + 0 ≡ from = omega arith in (g, refl, ap (λ k. placed_graph (home_of h k) g) at ∙ same_Some (placed_graph (home_of h from) g) x is)
placed_from h (g ∷ graphs) from (suc f) x is = let r = placed_from h graphs (from + 1) f x is in let at : from + suc f ≡ from + 1 + f = omega arith in (r.0, r.1, ap (λ k. placed_graph (home_of h k) r.0) at ∙ r.2)

-- An activation over homes is one of a function of the unit.
pub of_function : (h : HomedForm) (a : Activation) → IsActivation (over_homes h) a → IsOfFunction h a
of_function h a is =
    let r = placed_from h h.unit.graphs 0 a.function a.graph is.graph in
    let at : 0 + a.function ≡ a.function = omega arith in
    let placed : placed_graph (home_of h a.function) r.0 ≡ a.graph = ap (λ k. placed_graph (home_of h k) r.0) (sym at) ∙ r.2 in
    record { graph = r.0; is = r.1; placed = sym placed; place = place_back (home_of h a.function) r.0 a.place (subst (λ g. IsPlaceOf g a.place) (sym placed) is.place) }
