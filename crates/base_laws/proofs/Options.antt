-- Options.
use Rattle.std.proofs.Common.{Bool, None, Option, Some, arith, false, inl, inr, refl, replicate, slice_get, suc, sym, true, zero, ℕ, ℤ, ◌<◌, ◌∙◌, ◌≡◌, ◌⊎◌}
use Rattle.std.specs.Option.{option_map_or}
use Rattle.std.specs.Prelude.{if◌then◌else◌}

pub some_same : {A : Type 0} {a b : A} → Some a ≡ Some b → a ≡ b
some_same e = cc

pub none_is : {A : Type 0} {a : A} → None ≡ Some a → ⊥
none_is e = cc

pub same_some : {A : Type 0} {x y : A} → Some x ≡ Some y → x ≡ y
same_some e = cc

pub by_option : {A B : Type 0} (P : B → Type 0) (f : A → B) (o : Option A) (d : B) → ((x : A) → o ≡ Some x → P (f x)) → P d → P (option_map_or f o d)
by_option P f None d g h = h
by_option P f (Some x) d g h = g x refl

pub some_or_none : {A : Type 0} (o : Option A) → ((x : A) × (o ≡ Some x)) ⊎ (o ≡ None)
some_or_none None = inr refl
some_or_none (Some x) = inl (x, refl)

pub none_there : {A : Type 0} (o : Option A) (a : A) → o ≡ None → o ≡ Some a → ⊥
none_there o a e f = let both : None ≡ Some a = sym e ∙ f in absurd (cc)

pub remainder_is : (c : Bool) (y z : ℤ) → (if c then Some y else None) ≡ Some z → y ≡ z
remainder_is true y z h = cc
remainder_is false y z h = cc

pub if_none : (c : Bool) (r : Option ℤ) (z : ℤ) → (if c then None else r) ≡ Some z → r ≡ Some z
if_none true r z h = cc
if_none false r z h = h

pub replicate_at : {A : Type 0} (n k : ℕ) (x : A) → k < n → slice_get (replicate n x) k ≡ Some x
replicate_at zero k x lt = absurd (omega (arith, lt))
replicate_at (suc n) zero x lt = refl
replicate_at (suc n) (suc k) x lt = replicate_at n k x (omega (arith, lt))
