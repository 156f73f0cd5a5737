-- The variables that are known to be assigned where a place is come to: those in scope there, and at the head of a `for` without a condition, which stands before its first part, those too that this
-- declares.
use Rattle.std.proofs.Common.{◌≡◌, ℕ, zero, suc, ◌+◌, Option, Some, None, List, [], ◌∷◌, ◌++◌, slice_get, refl, subst}
use Rattle.debug_records.specs.declared.source.Spot.{Spot}
use Rattle.c_tree.specs.TypedExpressions.{RvalueTree}
use Rattle.c_tree.specs.TypedStatements as statement
use Rattle.c_tree.specs.TypedStatements.{TypedStartTree, TypedStatementTree, Block, Declaration, Empty, Run, If, IfElse, While, DoWhile, For, Switch, Break, Continue, Return, TypedStatementTrees, case, default}
use Rattle.c_tree.specs.Programs.{TypedFunctionTree, ProgramTree}
use Rattle.c_places.specs.Places.{Place, stop, brought, brought_by_start, parameters_of, entry_of, close_of, places_of_declarators, places_of_start, places_of_head, places_of_step, places_of, places_of_all, places_of_function, places_of_functions, places_of_program}
use Rattle.graph_core.specs.Paths.{Among, front, behind}
use Rattle.graph_core_weights.proofs.Passing.{some_same}

-- ---- Places with what is known there

module _ (f : ℕ) where
  abbrev pub known_of_head : List ℕ → TypedStartTree → Spot → Option RvalueTree → List Place
  known_of_head scope start spot None = stop f (scope ++ brought_by_start start) spot ∷ places_of_start f scope start
  known_of_head scope start spot (Some c) = places_of_start f scope start ++ stop f (scope ++ brought_by_start start) spot ∷ []

  abbrev mutual
    pub known_of : List ℕ → TypedStatementTree → List Place
    known_of scope (Block all) = known_of_all scope all
    known_of scope (Declaration all) = places_of_declarators f scope all
    known_of scope (Empty spot) = stop f scope spot ∷ []
    known_of scope (Run spot e) = stop f scope spot ∷ []
    known_of scope (If spot c chosen) = stop f scope spot ∷ known_of scope chosen
    known_of scope (IfElse spot c chosen other) = stop f scope spot ∷ known_of scope chosen ++ known_of scope other
    known_of scope (While spot c body) = stop f scope spot ∷ known_of scope body
    known_of scope (DoWhile body spot c) = known_of scope body ++ stop f scope spot ∷ []
    known_of scope (For start spot c step body) = known_of_head scope start spot c ++ places_of_step f (scope ++ brought_by_start start) step ++ known_of (scope ++ brought_by_start start) body
    known_of scope (Switch spot e all) = stop f scope spot ∷ known_of_all scope all
    known_of scope (Break spot) = stop f scope spot ∷ []
    known_of scope (Continue spot) = stop f scope spot ∷ []
    known_of scope (Return spot e) = stop f scope spot ∷ []

    pub known_of_all : List ℕ → TypedStatementTrees → List Place
    known_of_all scope statement.none = []
    known_of_all scope (statement.first s rest) = known_of scope s ++ known_of_all (scope ++ brought s) rest
    known_of_all scope (case value rest) = known_of_all scope rest
    known_of_all scope (default rest) = known_of_all scope rest

abbrev pub known_of_function : ℕ → TypedFunctionTree → List Place
known_of_function f tree = entry_of f tree ∷ known_of_all f (parameters_of tree) tree.body ++ close_of f tree

abbrev pub known_of_functions : ℕ → List TypedFunctionTree → List Place
known_of_functions f [] = []
known_of_functions f (tree ∷ all) = known_of_function f tree ++ known_of_functions (f + 1) all

abbrev pub known_of_program : ProgramTree → List Place
known_of_program p = known_of_functions 0 p.functions

-- ---- They are the program's places, one by one

pub among_front : {A : Type 0} (x : A) (xs ys : List A) → Among x xs → Among x (xs ++ ys)
among_front x [] ys a = elim a [ ]
among_front x (y ∷ xs) ys front = front
among_front x (y ∷ xs) ys (behind a) = behind (among_front x xs ys a)

pub among_back : {A : Type 0} (x : A) (xs ys : List A) → Among x ys → Among x (xs ++ ys)
among_back x [] ys a = a
among_back x (y ∷ xs) ys a = behind (among_back x xs ys a)

-- places at the same positions, where no less is known
abbrev pub Wider : (places known : List Place) → Type 0
Wider [] [] = Unit {0}
Wider [] (k ∷ ks) = ⊥
Wider (q ∷ qs) [] = ⊥
Wider (q ∷ qs) (k ∷ ks) = ((k.spot.at ≡ q.spot.at) × ((x : ℕ) → Among x q.scope → Among x k.scope)) × Wider qs ks

wider_same : (qs : List Place) → Wider qs qs
wider_same [] = tt
wider_same (q ∷ qs) = ((refl, λ x a. a), wider_same qs)

wider_both : (qs ks rs ls : List Place) → Wider qs ks → Wider rs ls → Wider (qs ++ rs) (ks ++ ls)
wider_both [] [] rs ls one two = two
wider_both [] (k ∷ ks) rs ls one two = absurd one
wider_both (q ∷ qs) [] rs ls one two = absurd one
wider_both (q ∷ qs) (k ∷ ks) rs ls one two = (one.0, wider_both qs ks rs ls one.1 two)

module _ (f : ℕ) where
  head_wider : (scope : List ℕ) (start : TypedStartTree) (spot : Spot) (c : Option RvalueTree) → Wider (places_of_head f scope start spot c) (known_of_head f scope start spot c)
  head_wider scope start spot None = ((refl, λ x a. among_front x scope (brought_by_start start) a), wider_same (places_of_start f scope start))
  head_wider scope start spot (Some c) = wider_same (places_of_start f scope start ++ stop f (scope ++ brought_by_start start) spot ∷ [])

  mutual
    wider : (scope : List ℕ) (s : TypedStatementTree) → Wider (places_of f scope s) (known_of f scope s)
    wider scope (Block all) = wider_all scope all
    wider scope (Declaration all) = wider_same (places_of_declarators f scope all)
    wider scope (Empty spot) = ((refl, λ x a. a), tt)
    wider scope (Run spot e) = ((refl, λ x a. a), tt)
    wider scope (If spot c s) = ((refl, λ x a. a), wider scope s)
    wider scope (IfElse spot c s t) = ((refl, λ x a. a), wider_both (places_of f scope s) (known_of f scope s) (places_of f scope t) (known_of f scope t) (wider scope s) (wider scope t))
    wider scope (While spot c s) = ((refl, λ x a. a), wider scope s)
    wider scope (DoWhile s spot c) = wider_both (places_of f scope s) (known_of f scope s) (stop f scope spot ∷ []) (stop f scope spot ∷ []) (wider scope s) ((refl, λ x a. a), tt)
    wider scope (For start spot c step s) = (
        let inside = scope ++ brought_by_start start in
        wider_both (places_of_head f scope start spot c ++ places_of_step f inside step) (known_of_head f scope start spot c ++ places_of_step f inside step) (places_of f inside s) (known_of f inside s)
        (wider_both (places_of_head f scope start spot c) (known_of_head f scope start spot c) (places_of_step f inside step) (places_of_step f inside step) (head_wider scope start spot c) (wider_same (places_of_step f inside step)))
        (wider inside s))
    wider scope (Switch spot e all) = ((refl, λ x a. a), wider_all scope all)
    wider scope (Break spot) = ((refl, λ x a. a), tt)
    wider scope (Continue spot) = ((refl, λ x a. a), tt)
    wider scope (Return spot e) = ((refl, λ x a. a), tt)

    wider_all : (scope : List ℕ) (all : TypedStatementTrees) → Wider (places_of_all f scope all) (known_of_all f scope all)
    wider_all scope statement.none = tt
    wider_all scope (statement.first s rest) = wider_both (places_of f scope s) (known_of f scope s) (places_of_all f (scope ++ brought s) rest) (known_of_all f (scope ++ brought s) rest) (wider scope s) (wider_all (scope ++ brought s) rest)
    wider_all scope (case value rest) = wider_all scope rest
    wider_all scope (default rest) = wider_all scope rest

  wider_function : (tree : TypedFunctionTree) → Wider (places_of_function f tree) (known_of_function f tree)
  wider_function tree = ((refl, λ x a. a), wider_both (places_of_all f (parameters_of tree) tree.body) (known_of_all f (parameters_of tree) tree.body) (close_of f tree) (close_of f tree) (wider_all (parameters_of tree) tree.body) (wider_same (close_of f tree)))

wider_functions : (f : ℕ) (all : List TypedFunctionTree) → Wider (places_of_functions f all) (known_of_functions f all)
wider_functions f [] = tt
wider_functions f (tree ∷ all) = wider_both (places_of_function f tree) (known_of_function f tree) (places_of_functions (f + 1) all) (known_of_functions (f + 1) all) (wider_function f tree) (wider_functions (f + 1) all)

pub wider_program : (p : ProgramTree) → Wider (places_of_program p) (known_of_program p)
wider_program p = wider_functions 0 p.functions

-- What is known at the place of a number.
pub record KnownAt (known : List Place) (k : ℕ) (q : Place) : Type 0 where
  pub place : Place
  pub is : slice_get known k ≡ Some place
  pub at : place.spot.at ≡ q.spot.at
  pub more : (x : ℕ) → Among x q.scope → Among x place.scope

pub wider_at : (qs ks : List Place) → Wider qs ks → (k : ℕ) (q : Place) → slice_get qs k ≡ Some q → KnownAt ks k q
wider_at [] ks w k q e = cc
wider_at (y ∷ qs) [] w k q e = absurd w
wider_at (y ∷ qs) (x ∷ ks) w zero q e = subst (λ (z : Place). KnownAt (x ∷ ks) 0 z) (some_same e) (record { place = x; is = refl; at = w.0.0; more = w.0.1 })
wider_at (y ∷ qs) (x ∷ ks) w (suc k) q e = let r = wider_at qs ks w.1 k q e in record { place = r.place; is = r.is; at = r.at; more = r.more }

-- and the place of what is known
pub wider_back : (qs ks : List Place) → Wider qs ks → (k : ℕ) (x : Place) → slice_get ks k ≡ Some x → (q : Place) × (slice_get qs k ≡ Some q) × (x.spot.at ≡ q.spot.at)
wider_back [] [] w k x e = cc
wider_back [] (y ∷ ks) w k x e = absurd w
wider_back (y ∷ qs) [] w k x e = absurd w
wider_back (y ∷ qs) (z ∷ ks) w zero x e = (y, refl, subst (λ (t : Place). t.spot.at ≡ y.spot.at) (some_same e) w.0.0)
wider_back (y ∷ qs) (z ∷ ks) w (suc k) x e = wider_back qs ks w.1 k x e
