-- A scope in which nothing is declared changes no name's meaning.
use Rattle.std.proofs.Common.{◌≡◌, ℕ, zero, suc, ◌-◌, List, [], ◌∷◌, ◌++◌, length, take, Option, refl, ap, arith, length-append}
use Rattle.c_type_expressions.specs.declared.names.Meaning.{Meaning}
use Rattle.c_type_expressions.specs.Names.{Scope, Names, meaning_or_else, found_in, meaning_of}
use Rattle.c_type_declarations.specs.Scopes.{empty_scope, entered}
use Rattle.c_type_declarations.specs.Progress.{ProgressTree, opened, scope_left}

found_entered : (scopes : List Scope) (name : List ℕ) → found_in (scopes ++ empty_scope ∷ []) name ≡ found_in scopes name
found_entered [] name = refl
found_entered (s ∷ scopes) name = ap (λ (m : Option Meaning). meaning_or_else m (s name)) (found_entered scopes name)

pub meaning_entered : (names : Names) (name : List ℕ) → meaning_of (entered names) name ≡ meaning_of names name
meaning_entered names name = found_entered names.scopes name

take_front : (xs : List Scope) (s : Scope) (n : ℕ) → n ≡ length xs → take n (xs ++ s ∷ []) ≡ xs
take_front [] s zero e = refl
take_front [] s (suc n) e = absurd (omega (arith, e))
take_front (x ∷ xs) s zero e = absurd (omega (arith, e))
take_front (x ∷ xs) s (suc n) e = ap (λ (r : List Scope). x ∷ r) (take_front xs s n (omega (arith, e)))

scopes_left : (xs : List Scope) → take (length (xs ++ empty_scope ∷ []) - 1) (xs ++ empty_scope ∷ []) ≡ xs
scopes_left xs = take_front xs empty_scope (length (xs ++ empty_scope ∷ []) - 1) (omega (arith, length-append xs (empty_scope ∷ [])))

pub closed_opened : (p : ProgressTree) → scope_left (opened p) ≡ p
closed_opened p = ap (λ (scopes : List Scope). record p { names = record (p.names) { scopes = scopes } }) (scopes_left p.names.scopes)
