-- The computations with temporaries.
use Rattle.std.proofs.Common.{◌≡◌, ◌↔◌, ℕ, suc, List, [], ◌∷◌, length, Option, Some, None, refl, arith}
use Rattle.std.specs.Prelude.{slice_get, slice_index_or}
use Rattle.std.proofs.lemmas.Option.{none-some}
use Rattle.graph_core.specs.declared.name.Name as declared-name
use Rattle.graph_core.specs.Graphs.{Block, Graph}
use Rattle.graph_core.specs.Computations.{Computation}
use Rattle.motion_pass_placement.specs.declared.placement.Placement.{Placement}
use Rattle.motion_pass_placement.specs.Placed.{IsPlaced, IsReadSomewhere, all_of, reached_by}
use Rattle.motion_pass_placement.specs.Moving.{AreRead, none_is, read_somewhere, read_nowhere, AreTreated}
use Rattle.motion_pass.specs.Placing.{treated_by, with_temporaries}

-- those with temporaries are those that are read
read_by : (blocks : List Block) (all : List Computation) (names : List (Option declared-name.Name)) → length names ≡ length all
    → ((k : ℕ) (e : Computation) → slice_get all k ≡ Some e → ((t : declared-name.Name) × (slice_index_or names k None ≡ Some t)) ↔ IsReadSomewhere blocks e) → AreRead blocks all (with_temporaries all names)
read_by blocks [] names same told = none_is
read_by blocks (e ∷ all) [] same told = absurd (omega (arith, same))
read_by blocks (e ∷ all) (None ∷ names) same told = read_nowhere (λ read. (let named = (told 0 e refl).1 read in none-some named.0 named.1)) (read_by blocks all names (omega (arith, same)) (λ k d at. told (suc k) d at))
read_by blocks (e ∷ all) (Some t ∷ names) same told = read_somewhere ((told 0 e refl).0 (t, refl)) (read_by blocks all names (omega (arith, same)) (λ k d at. told (suc k) d at))

pub are_treated : (g : Graph) (p : Placement) → IsPlaced g p → AreTreated g.blocks (treated_by p)
are_treated g p is = record { reached = reached_by p; just = is.reached; computations = all_of p; once = is.once; read = read_by g.blocks (all_of p) p.temporaries.items is.as_many is.named }
