-- The test of a graph's targets tells whether they are blocks of the graph.
use Rattle.std.proofs.Common.{◌≡◌, ℕ, ◌<◌, ◌↔◌, true, List, [], ◌∷◌, refl, arith}
use Rattle.std.specs.List.{All}
use Rattle.std.proofs.lemmas.Bool.{and_from, and_parts, lt-ltb, ltb-true}
use Rattle.std.proofs.lemmas.List.Elements.{All-cons, All-head, All-tail}
use Rattle.graph_core.specs.Graphs.{Block}
use Rattle.graph_core.specs.Uses.{targets_of}
use Rattle.graph_solve.specs.GraphFlow.{lead_within, leads_within}

module _ (blocks : ℕ) where
  abbrev Within : ℕ → Type 0
  Within to = to < blocks

  abbrev LeadsWithin : Block → Type 0
  LeadsWithin b = All Within (targets_of b.end)

  from_one : (all : List ℕ) → leads_within blocks all ≡ true → All Within all
  from_one [] e = λ k d lt. absurd (omega arith)
  from_one (to ∷ more) e = let both = and_parts _ _ e in All-cons Within to more (ltb-true to blocks both.0) (from_one more both.1)

  to_one : (all : List ℕ) → All Within all → leads_within blocks all ≡ true
  to_one [] all = refl
  to_one (to ∷ more) all = and_from _ _ (lt-ltb to blocks (All-head Within to more all)) (to_one more (All-tail Within to more all))

  from_all : (all : List Block) → lead_within blocks all ≡ true → All LeadsWithin all
  from_all [] e = λ k d lt. absurd (omega arith)
  from_all (b ∷ more) e = let both = and_parts _ _ e in All-cons LeadsWithin b more (from_one (targets_of b.end) both.0) (from_all more both.1)

  to_all : (all : List Block) → All LeadsWithin all → lead_within blocks all ≡ true
  to_all [] all = refl
  to_all (b ∷ more) all = and_from _ _ (to_one (targets_of b.end) (All-head LeadsWithin b more all)) (to_all more (All-tail LeadsWithin b more all))

  pub tells_within : (all : List Block) → (lead_within blocks all ≡ true) ↔ All LeadsWithin all
  tells_within all = (from_all all, to_all all)
