-- The ends of a valid graph name blocks of the graph.
use Rattle.std.proofs.Common.{◌≡◌, ℕ, ◌<◌, Option, Some, None, List, [], ◌∷◌, length, refl, arith}
use Rattle.std.specs.Prelude.{slice_get}
use Rattle.std.specs.List.{All, AllByRecursion}
use Rattle.std.proofs.lemmas.List.Elements.{All-cons}
use Rattle.std.proofs.lemmas.Option.{slice_get_within}
use Rattle.graph_core.specs.Graphs.{Block, Graph, UnitForm}
use Rattle.graph_core.specs.Uses.{targets_of}
use Rattle.graph_core.specs.Validity.{IsBlock, IsGraph, IsKept}
use Rattle.graph_solve.specs.GraphFlow.{AreTargetsWithin}

all_by : {X : Type 0} (P Q : X → Type 0) → ((x : X) → P x → Q x) → (xs : List X) → AllByRecursion P xs → All Q xs
all_by P Q each [] all = λ k d lt. absurd (omega arith)
all_by P Q each (x ∷ xs) all = All-cons Q x xs (each x all.0) (all_by P Q each xs all.1)

kept_within : (blocks : List Block) (place : Option ℕ) (to : ℕ) (o : Option Block) → slice_get blocks to ≡ o → IsKept place o → to < length blocks
kept_within blocks place to None e kept = absurd kept
kept_within blocks place to (Some b) e kept = slice_get_within blocks to b e

pub valid_targets : (u : UnitForm) (g : Graph) → IsGraph u g → AreTargetsWithin g
valid_targets u g valid = all_by (IsBlock u g) (λ (b : Block). All (λ to. to < length g.blocks) (targets_of b.end)) (λ b is. all_by _ (λ to. to < length g.blocks) (λ to kept. kept_within g.blocks _ to (slice_get g.blocks to) refl kept) (targets_of b.end) is.edges) g.blocks valid.blocks
