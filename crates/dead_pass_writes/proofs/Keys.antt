-- Keys of places and names, and what is told where one is put.
use Rattle.std.proofs.Common.{◌≡◌, ℕ, Bool, true, false, cond, true≢false, Option, Some, None, List, [], refl, sym, ap, ◌∙◌, nat_cmp}
use Rattle.std.specs.Prelude.{◌↔◌, ◌==◌, ◌&&◌, is_some}
use Rattle.std.specs.BTreeMap as tree
use Rattle.std.specs.Map.{lookup}
use Rattle.std.specs.Ordering.{is_eq}
use Rattle.std.proofs.lemmas.Bool.{eqb-true, and_parts}
use Rattle.std.proofs.lemmas.Option.{none-some, same_Some}
use Rattle.graph_core.specs.Graphs.{Graph}
use Rattle.dead_pass_writes.specs.declared.writes.Spot.{Spot}
use Rattle.dead_pass_writes.specs.declared.writes.Written.{Written}
use Rattle.dead_pass_writes.specs.declared.writes.Written.TheVariants.{Once, More}
use Rattle.dead_pass_writes.specs.declared.writes.PlaceWrites.{PlaceWrites}
use Rattle.dead_pass_writes.specs.Once.{IsOnce}
use Rattle.dead_pass_writes.specs.Telling.{pair_cmp, one_more, once_of, with_write, with_binding, told, Tells}
use Rattle.base_laws.proofs.Numbers.{is_eq-ordering_then, same_number}

-- Keys compare as equal where they are the same.
pub same_pair : (k q : ℕ × ℕ) → is_eq (pair_cmp k q) ≡ (k.0 == q.0 && k.1 == q.1)
same_pair k q = is_eq-ordering_then (nat_cmp k.0 q.0) (nat_cmp k.1 q.1) ∙ rw (same_number k.0 q.0, same_number k.1 q.1) refl

-- what is told of the same key is the same
pub told_same : (w : PlaceWrites) (p x q y : ℕ) → (p == q && x == y) ≡ true → told w p x ≡ told w q y
told_same w p x q y e =
    let both = and_parts (p == q) (x == y) e in
    ap (λ a. told w a x) (eqb-true p q both.0) ∙ ap (λ b. told w q b) (eqb-true x y both.1)

-- a write is put
pub put_write : (is_key was_eq : Bool) (value : Written) (spot : Spot) (there was : Option Written) → was_eq ≡ is_key → value ≡ one_more there spot → (is_key ≡ true → there ≡ was) → cond was_eq (Some value) was ≡ with_write is_key spot was
put_write true was_eq value spot there was e is same = ap (λ b. cond b (Some value) was) e ∙ ap Some is ∙ ap (λ o. Some (one_more o spot)) (same refl)
put_write false was_eq value spot there was e is same = ap (λ b. cond b (Some value) was) e

-- a binding is put
pub put_binding : (is_key was_eq : Bool) (was : Option Written) → was_eq ≡ is_key → cond was_eq (Some More) was ≡ with_binding is_key was
put_binding true was_eq was e = ap (λ b. cond b (Some More) was) e
put_binding false was_eq was e = ap (λ b. cond b (Some More) was) e

pub more_is : (o : Option Written) (spot : Spot) → is_some o ≡ true → More ≡ one_more o spot
more_is None spot e = absurd (true≢false (sym e))
more_is (Some w) spot e = refl

pub once_is : (o : Option Written) (spot : Spot) → is_some o ≡ false → Once spot ≡ one_more o spot
once_is None spot e = refl
once_is (Some w) spot e = absurd (true≢false e)

same_once : {s t : Spot} → Some (Once s) ≡ Some (Once t) → Some s ≡ Some t
same_once e = cc

once_not_more : {s : Spot} → Some More ≡ Some (Once s) → ⊥
once_not_more e = cc

-- nothing is told by an empty map
pub told_empty : (w : PlaceWrites) → w.all.entries ≡ [] → (p x : ℕ) → told w p x ≡ None
told_empty w e p x = ap (λ (es : List ((ℕ × ℕ) × Written)). lookup (tree.is_at (pair_cmp (p, x))) es) e

-- THE ANSWER: the one instruction.
pub only_exact : (w : PlaceWrites) (p x : ℕ) (o : Option Written) (result : Option Spot) → o ≡ told w p x → result ≡ once_of o → (g : Graph) → Tells g w → (s : Spot) → (result ≡ Some s) ↔ IsOnce g p x s.block s.left
only_exact w p x o result is answer g tells s = by o (sym is) (sym answer)
  where
    by : (a : Option Written) → told w p x ≡ a → once_of a ≡ result → (result ≡ Some s) ↔ IsOnce g p x s.block s.left
    by None e q = ((λ r. absurd (none-some s (q ∙ r))), (λ one. absurd (none-some (Once s) (sym e ∙ (tells p x s).1 one))))
    by (Some More) e q = ((λ r. absurd (none-some s (q ∙ r))), (λ one. absurd (once_not_more (sym e ∙ (tells p x s).1 one))))
    by (Some (Once spot)) e q = ((λ r. (tells p x s).0 (e ∙ ap (λ t. Some (Once t)) (same_Some spot s (q ∙ r)))), (λ one. sym q ∙ same_once (sym e ∙ (tells p x s).1 one)))
