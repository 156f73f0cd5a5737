use Rattle.std.proofs.Common.{get_or, arith, refl, sym, ◌≡◌, ◌∙◌, ◌+◌, ◌-◌, ◌≤◌, ap, ℕ, List, [], ◌∷◌, ◌++◌, length, take, Option, Some, None}
use Rattle.std.specs.Prelude.{map}
use Rattle.std.proofs.lemmas.List.{take_more}
use Rattle.c_type_expressions.specs.declared.names.Scope.{Scope}
use Rattle.c_type_expressions.specs.declared.names.Meaning.{Meaning}
use Rattle.c_type_expressions.specs.Names.{found_in, meaning_or_else, scope_view}
use Rattle.c_type_expressions.proofs.names.meaning_in.Goals as goal

or_assoc : (a b c : Option Meaning) → meaning_or_else (meaning_or_else a b) c ≡ meaning_or_else a (meaning_or_else b c)
or_assoc None b c = refl
or_assoc (Some x) b c = refl

or_none : (a : Option Meaning) → meaning_or_else a None ≡ a
or_none None = refl
or_none (Some x) = refl

-- the last scope is asked first
found_more : (xs : List Scope) (s : Scope) (n : List ℕ) → found_in (map scope_view (xs ++ s ∷ [])) n ≡ meaning_or_else (scope_view s n) (found_in (map scope_view xs) n)
found_more [] s n = sym (or_none (scope_view s n))
found_more (x ∷ xs) s n = ap (λ o. meaning_or_else o (scope_view x n)) (found_more xs s n) ∙ or_assoc (scope_view s n) (found_in (map scope_view xs) n) (scope_view x n)

found_at : (xs : List Scope) (i j : ℕ) (s : Scope) (n : List ℕ) → j + 1 ≡ i → i ≤ length xs → s ≡ get_or xs j s
    → found_in (map scope_view (take i xs)) n ≡ meaning_or_else (scope_view s n) (found_in (map scope_view (take j xs)) n)
found_at xs i j s n next lt at =
    ap (λ k. found_in (map scope_view (take k xs)) n) (sym next)
    ∙ ap (λ ys. found_in (map scope_view ys) n) (take_more xs j s (omega arith) ∙ ap (λ y. take j xs ++ y ∷ []) (sym at))
    ∙ found_more (take j xs) s n

pub returns-in-Some : goal.returns-in-Some
returns-in-Some c =
    sym (c.loop-left.invariant.none_yet ∙ found_at c.args.scopes.now c.loop-left.left (c.loop-left.left - 1) c.index-scopes-left.result c.args.name.now (omega arith) (omega arith) c.index-scopes-left.is
    ∙ ap (λ o. meaning_or_else o (found_in (map scope_view (take (c.loop-left.left - 1) c.args.scopes.now)) c.args.name.now)) (sym c.in-Some.ensures))

pub loop-left-preserved : goal.loop-left-preserved
loop-left-preserved c = record {
  within = omega arith;
  none_yet = c.loop-left.invariant.none_yet ∙ found_at c.args.scopes.now c.loop-left.left (c.loop-left.left - 1) c.index-scopes-left.result c.args.name.now (omega arith) (omega arith) c.index-scopes-left.is
      ∙ ap (λ o. meaning_or_else o (found_in (map scope_view (take (c.loop-left.left - 1) c.args.scopes.now)) c.args.name.now)) (sym c.in_default.ensures);
}
