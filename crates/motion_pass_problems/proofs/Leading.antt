-- The targets of an end, one by one.
use Rattle.std.proofs.Common.{ℕ, [], ◌∷◌}
use Rattle.graph_core.specs.Paths.{Among, front, behind}
pub use Rattle.graph_core.proofs.Among.{no_target}

pub one_target : (P : ℕ → Type 0) {a l : ℕ} → Among l (a ∷ []) → P a → P l
one_target P front first = first
one_target P (behind among) first = absurd (no_target among)

pub two_targets : (P : ℕ → Type 0) {a b l : ℕ} → Among l (a ∷ b ∷ []) → P a → P b → P l
two_targets P front first second = first
two_targets P (behind among) first second = one_target P among second
