-- The blocks that some way reaches.
use Rattle.std.proofs.Common.{◌≡◌, ℕ, ◌<◌, Bool, List, [], length, Some, sym, ◌∙◌, subst}
use Rattle.std.specs.Prelude.{slice_get}
use Rattle.std.proofs.lemmas.List.{append-nil}
use Rattle.std.proofs.lemmas.Option.{slice_get_within}
use Rattle.graph_core.specs.Graphs.{Block}
use Rattle.graph_paths.specs.Reached.{AreLed, IsLed, entry, leads}
use Rattle.motion_pass_points.specs.Ways.{within, leaves, enters, IsCome, begins, goes}
use Rattle.motion_pass_problems.proofs.Standing.{come_along}
use Rattle.motion_pass_problems.specs.Facts.{AreReached}
pub use Rattle.base_laws.proofs.Options.{some_or_none}

module _ (blocks : List Block) (led reached : ℕ → Bool) (are : AreLed blocks led) (same : (n : ℕ) → n < length blocks → reached n ≡ led n) where
  -- a path comes where a way leads
  come_on : {n : ℕ} → IsLed blocks n → (b : Block) → slice_get blocks n ≡ Some b → IsCome blocks (within n b.instructions b.end)
  come_on entry b at = begins b at
  come_on (leads {n = m} c way there to) b at =
      goes (goes (come_along blocks m c.instructions [] c.end (subst (λ rest. IsCome blocks (within m rest c.end)) (sym (append-nil c.instructions)) (come_on way c there))) (leaves to)) (enters b at)

  -- ways lead to just the blocks that some path reaches
  pub are_reached : AreReached blocks reached
  are_reached = record {
    first = λ b at. same 0 (slice_get_within blocks 0 b at) ∙ are.first;
    closed = λ m n edge b at. (let lt = slice_get_within blocks n b at in
        same n lt ∙ are.leads_on m edge.block n edge.is (sym (same m (slice_get_within blocks m edge.block edge.is)) ∙ edge.comes) edge.leads lt);
    come = λ n b at comes. come_on (are.is_led n (sym (same n (slice_get_within blocks n b at)) ∙ comes)) b at;
  }
