-- Where the places of a program ascend, what is in scope at a position is what is in scope at its place; and the places of a function behind its entry are no entries.
use Rattle.std.proofs.Common.{◌≡◌, ℕ, zero, suc, ◌<◌, Some, None, Option, Bool, true, false, List, [], ◌∷◌, ◌++◌, slice_get, refl, ◌∙◌, subst, arith, if◌then◌else◌}
use Rattle.std.specs.Prelude.{◌==◌}
use Rattle.std.proofs.lemmas.Bool.Decides.{nat_tests}
use Rattle.debug_records.specs.declared.source.Spot.{Spot}
use Rattle.c_tree.specs.TypedExpressions.{RvalueTree}
use Rattle.c_tree.specs.TypedStatements as statement
use Rattle.c_tree.specs.TypedStatements.{DeclaredTree, TypedStartTree, Nothing, Value, Declares, StepTree, TypedStatementTree, Block, Declaration, Empty, Run, If, IfElse, While, DoWhile, For, Switch, Break, Continue, Return, TypedStatementTrees, case, default}
use Rattle.c_tree.specs.Programs.{TypedFunctionTree}
use Rattle.c_places.specs.Flow.{reaches_end}
use Rattle.c_places.specs.Places.{Place, stop, brought, brought_by_start, brought_by_body, parameters_of, close_of, places_of_declarators, places_of_start, places_of_head, places_of_step, places_of, places_of_all, scope_at}
use Rattle.graph_build_laws.proofs.Ascending.{Ascend, AllAscend}
use Rattle.graph_build_runs.proofs.Later.{some_same}

-- ---- Scopes

scope_here : (x : Place) (all : List Place) (at : ℕ) (b : Bool) → b ≡ true → (if b then x.scope else scope_at all at) ≡ x.scope
scope_here x all at true e = refl
scope_here x all at false e = cc

scope_behind : (x : Place) (all : List Place) (at : ℕ) (b : Bool) → b ≡ false → (if b then x.scope else scope_at all at) ≡ scope_at all at
scope_behind x all at true e = cc
scope_behind x all at false e = refl

same_at : (a : ℕ) → (a == a) ≡ true
same_at a = grind (arith, nat_tests)

other_at : (a b : ℕ) → a < b → (a == b) ≡ false
other_at a b h = grind (arith, nat_tests)

scope_from : (last : ℕ) (all : List Place) → Ascend last all → (k : ℕ) (q : Place) → slice_get all k ≡ Some q → (last < q.spot.at) × (scope_at all q.spot.at ≡ q.scope)
scope_from last [] h k q e = cc
scope_from last (x ∷ all) h zero q e =
    subst (λ (z : Place). (last < z.spot.at) × (scope_at (x ∷ all) z.spot.at ≡ z.scope)) (some_same e) (h.0, scope_here x all x.spot.at (x.spot.at == x.spot.at) (same_at x.spot.at))
scope_from last (x ∷ all) h (suc k) q e =
    let r = scope_from x.spot.at all h.1 k q e in
    let first : last < x.spot.at = h.0 in
    let next : x.spot.at < q.spot.at = r.0 in
    (omega (arith, first, next), scope_behind x all q.spot.at (x.spot.at == q.spot.at) (other_at x.spot.at q.spot.at next) ∙ r.1)

-- What is in scope at a position is what is in scope at its place.
pub scope_there : (all : List Place) → AllAscend all → (k : ℕ) (q : Place) → slice_get all k ≡ Some q → scope_at all q.spot.at ≡ q.scope
scope_there [] h k q e = cc
scope_there (x ∷ all) h zero q e = subst (λ (z : Place). scope_at (x ∷ all) z.spot.at ≡ z.scope) (some_same e) (scope_here x all x.spot.at (x.spot.at == x.spot.at) (same_at x.spot.at))
scope_there (x ∷ all) h (suc k) q e =
    let r = scope_from x.spot.at all h k q e in
    scope_behind x all q.spot.at (x.spot.at == q.spot.at) (other_at x.spot.at q.spot.at r.0) ∙ r.1

-- ---- Entries

-- places that are no entries
abbrev AreStops : List Place → Type 0
AreStops [] = Unit {0}
AreStops (q ∷ more) = (q.is_entry ≡ false) × AreStops more

both : (xs ys : List Place) → AreStops xs → AreStops ys → AreStops (xs ++ ys)
both [] ys h k = k
both (x ∷ xs) ys h k = (h.0, both xs ys h.1 k)

stops_at : (xs : List Place) → AreStops xs → (k : ℕ) (q : Place) → slice_get xs k ≡ Some q → q.is_entry ≡ false
stops_at [] h k q e = cc
stops_at (x ∷ xs) h zero q e = subst (λ (z : Place). z.is_entry ≡ false) (some_same e) h.0
stops_at (x ∷ xs) h (suc k) q e = stops_at xs h.1 k q e

module _ (f : ℕ) where
  of_declarators : (scope : List ℕ) (all : List DeclaredTree) → AreStops (places_of_declarators f scope all)
  of_declarators scope [] = tt
  of_declarators scope (d ∷ all) = (refl, of_declarators (scope ++ d.variable ∷ []) all)

  of_start : (scope : List ℕ) (s : TypedStartTree) → AreStops (places_of_start f scope s)
  of_start scope Nothing = tt
  of_start scope (Value spot e) = (refl, tt)
  of_start scope (Declares all) = of_declarators scope all

  of_head : (scope : List ℕ) (s : TypedStartTree) (spot : Spot) (c : Option RvalueTree) → AreStops (places_of_head f scope s spot c)
  of_head scope s spot None = (refl, of_start scope s)
  of_head scope s spot (Some c) = both (places_of_start f scope s) (stop f (scope ++ brought_by_start s) spot ∷ []) (of_start scope s) (refl, tt)

  of_step : (scope : List ℕ) (s : Option StepTree) → AreStops (places_of_step f scope s)
  of_step scope None = tt
  of_step scope (Some s) = (refl, tt)

  mutual
    of_statement : (scope : List ℕ) (s : TypedStatementTree) → AreStops (places_of f scope s)
    of_statement scope (Block all) = of_all scope all
    of_statement scope (Declaration all) = of_declarators scope all
    of_statement scope (Empty spot) = (refl, tt)
    of_statement scope (Run spot e) = (refl, tt)
    of_statement scope (If spot c s) = (refl, of_statement scope s)
    of_statement scope (IfElse spot c s t) = (refl, both (places_of f scope s) (places_of f scope t) (of_statement scope s) (of_statement scope t))
    of_statement scope (While spot c s) = (refl, of_statement scope s)
    of_statement scope (DoWhile s spot c) = both (places_of f scope s) (stop f scope spot ∷ []) (of_statement scope s) (refl, tt)
    of_statement scope (For start spot c step s) =
        both (places_of_head f scope start spot c ++ places_of_step f (scope ++ brought_by_start start) step) (places_of f (scope ++ brought_by_start start) s)
        (both (places_of_head f scope start spot c) (places_of_step f (scope ++ brought_by_start start) step) (of_head scope start spot c) (of_step (scope ++ brought_by_start start) step)) (of_statement (scope ++ brought_by_start start) s)
    of_statement scope (Switch spot e all) = (refl, of_all scope all)
    of_statement scope (Break spot) = (refl, tt)
    of_statement scope (Continue spot) = (refl, tt)
    of_statement scope (Return spot e) = (refl, tt)

    of_all : (scope : List ℕ) (all : TypedStatementTrees) → AreStops (places_of_all f scope all)
    of_all scope statement.none = tt
    of_all scope (statement.first s rest) = both (places_of f scope s) (places_of_all f (scope ++ brought s) rest) (of_statement scope s) (of_all (scope ++ brought s) rest)
    of_all scope (case z rest) = of_all scope rest
    of_all scope (default rest) = of_all scope rest

  of_close : (tree : TypedFunctionTree) → AreStops (close_of f tree)
  of_close tree = by (reaches_end tree.body)
    where
      by : (b : Bool) → AreStops (if b then stop f (parameters_of tree ++ brought_by_body tree.body) tree.close ∷ [] else [])
      by true = (refl, tt)
      by false = tt

  -- No place of a function behind its entry is an entry.
  pub stops_behind : (tree : TypedFunctionTree) (k : ℕ) (q : Place) → slice_get (places_of_all f (parameters_of tree) tree.body ++ close_of f tree) k ≡ Some q → q.is_entry ≡ false
  stops_behind tree = stops_at (places_of_all f (parameters_of tree) tree.body ++ close_of f tree) (both (places_of_all f (parameters_of tree) tree.body) (close_of f tree) (of_all (parameters_of tree) tree.body) (of_close tree))
