use Rattle.std.proofs.Common.{ℕ, take}
use Rattle.std.specs.Prelude.{All, IfSome}
use Rattle.currency_hiding.specs.Changes.{IsNotBefore, IsSharing}
use Rattle.currency_hiding.proofs.changes.Changes.sharing.Given as goal

abbrev pub invariant-loop-number : goal.invariant-loop-number
invariant-loop-number l = record {
  is : IfSome l.found (λ n. IsSharing l.self l.var.0 n);
  all : All (λ (n : ℕ). IsSharing l.self l.var.0 n → IsNotBefore n l.found) (take l.number-index l.number-items);
}
