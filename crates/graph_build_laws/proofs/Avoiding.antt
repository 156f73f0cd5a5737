-- No edge of a function's graph leads back to its first block.
use Rattle.std.proofs.Common.{◌≡◌, ◌⊎◌, inl, inr, ℕ, Bool, Some, None, List, [], ◌∷◌, length, reverse, slice_get, refl, sym, subst}
use Rattle.c_tree.specs.Programs.{TypedFunctionTree, ProgramTree}
use Rattle.c_places.specs.Places.{places_of_program}
use Rattle.graph_core.specs.Graphs.{Block, Graph}
use Rattle.graph_core.specs.Uses.{targets_of}
use Rattle.graph_core.specs.Paths.{Among, front, behind}
use Rattle.graph_build.specs.Units.{function_part, block_count, function_coding, graph_of}
use Rattle.graph_build_statements.specs.Coding.{Coding, Part}
use Rattle.graph_build_laws.specs.Passing.{Grows}
use Rattle.graph_build_laws.specs.Points.{StandIn}
use Rattle.graph_build_laws.proofs.GraphMarkingStatements.{Holds}
use Rattle.graph_build_laws.proofs.GraphMarkingFunctions.{function_holds}
use Rattle.graph_build_laws.proofs.Ascending.{AllAscend}
use Rattle.graph_build_laws.proofs.First.{Avoids, AllAvoid, HasAvoided, LeadsAway, StandAvoided, avoids_passes, leads_later, later_block}
use Rattle.graph_build_laws.proofs.Standing.{stand_behind, got_among, among_either, among_reversed}
use Rattle.graph_build_laws.proofs.Instances.{got_before}
use Rattle.graph_build_laws.proofs.Flows.{made_among}
use Rattle.base_laws.proofs.Options.{some_same}

avoid_among : (all : List Block) (b : Block) → AllAvoid all → Among b all → Avoids b.end
avoid_among [] b h a = elim a [ ]
avoid_among (x ∷ all) b h front = h.0
avoid_among (x ∷ all) b h (behind a) = avoid_among all b h.1 a

module _ (p : ProgramTree) (k : ℕ) (f : TypedFunctionTree) (is : slice_get p.functions k ≡ Some f) (is_main : Bool) (ascend : AllAscend (places_of_program p)) (counted : length (graph_of p f is_main).blocks ≡ block_count p f is_main) where
  abbrev pub c : Coding
  c = function_coding p f is_main

  abbrev pub g : Graph
  g = graph_of p f is_main

  abbrev pub part : Part
  part = function_part c f is_main

  -- the first block is the entry's
  placed : (b : Block) → slice_get g.blocks 0 ≡ Some b → b.place ≡ None
  placed b e = subst (λ (d : Block). d.place ≡ None) (some_same e) refl

  stand : StandIn g.blocks c.top part.inner
  stand = subst (λ n. StandIn g.blocks n part.inner) counted (stand_behind part.placed (part.inner))

  avoided : Holds c (HasAvoided g.blocks c.top placed) (LeadsAway g.blocks c.top placed) (StandAvoided g.blocks c.top placed) (λ q. avoids_passes g.blocks c.top placed q) part
  avoided = function_holds c (HasAvoided g.blocks c.top placed) (LeadsAway g.blocks c.top placed) (StandAvoided g.blocks c.top placed) (λ q. avoids_passes g.blocks c.top placed q) f is_main
      (λ e a inner st s. (later_block p k f is ascend c.entry refl e.to (leads_later p k f is ascend e a), st s)) (λ s. tt)

  before_grown : (xs ys : List Block) → Grows xs ys → StandIn g.blocks c.top ys → StandIn g.blocks c.top xs
  before_grown xs ys grows st j b e = st j b (subst (λ (zs : List Block). slice_get zs j ≡ Some b) (sym grows.1) (got_before xs grows.0 j b e))

  of_part : (b : Block) → Among b part.placed ⊎ Among b part.inner → Avoids b.end
  of_part b (inl a) =
      let m = made_among (HasAvoided g.blocks c.top placed) part.inner part.placed b avoided.1 a in
      subst Avoids (sym m.ends) (m.has (before_grown m.made.inner part.inner m.grown stand)).0
  of_part b (inr a) = avoid_among part.inner b (avoided.0 stand) a

  -- No edge leads to the first block.
  pub first : (n : ℕ) (b : Block) → slice_get g.blocks n ≡ Some b → Among 0 (targets_of b.end) → ⊥
  first n b e = of_part b (by (among_either part.placed (reverse part.inner) b (got_among g.blocks n b e)))
    where
      by : Among b part.placed ⊎ Among b (reverse part.inner) → Among b part.placed ⊎ Among b part.inner
      by (inl a) = inl a
      by (inr a) = inr (among_reversed part.inner b a)
