-- The body of a function has a place where it begins, or its closing brace is reached.
use Rattle.std.proofs.Common.{◌≡◌, ℕ, Bool, true, false, Option, Some, None, List, [], ◌∷◌, refl, if◌then◌else◌}
use Rattle.std.specs.Prelude.{◌||◌}
use Rattle.c_tree.specs.TypedStatements as statement
use Rattle.c_tree.specs.TypedStatements.{DeclaredTree, TypedStartTree, Nothing, Value, Declares, TypedStatementTree, Block, Declaration, Empty, Run, If, IfElse, While, DoWhile, For, Switch, Break, Continue, Return, TypedStatementTrees, case, default}
use Rattle.c_tree.specs.Programs.{TypedFunctionTree}
use Rattle.c_places.specs.declared.flow.Exits.{Exits}
use Rattle.c_places.specs.Flow.{onwards, exits_behind, exits_of, exits_of_all, reaches_end}
use Rattle.c_flow.specs.Flow.{start_place, start_of_all, start_of_declarators, start_of_for, ways_of_body}

behind_by : (b : Bool) (x e : Exits) → b ≡ true → x.next ≡ true → (if b then x else e).next ≡ true
behind_by true x e h k = k
behind_by false x e h k = cc

behind_next : (e f : Exits) → e.next ≡ true → f.next ≡ true → (exits_behind e f).next ≡ true
behind_next e f h k = behind_by e.next (record { next = f.next; breaks = e.breaks || f.breaks; continues = e.continues || f.continues }) e h k

-- declarators without one begin where what follows does
declarators_none : (all : List DeclaredTree) (next : Option ℕ) → start_of_declarators all next ≡ None → next ≡ None
declarators_none [] next h = h
declarators_none (d ∷ all) next h = cc

for_some : (begin : TypedStartTree) (head : ℕ) → start_of_for begin head ≡ None → ⊥
for_some Nothing head h = cc
for_some (Value spot e) head h = cc
for_some (Declares all) head h = let none = declarators_none all (Some head) h in cc

mutual
  -- A statement without a place leads to what follows it.
  start_none : (s : TypedStatementTree) (next : Option ℕ) → start_place s next ≡ None → ((exits_of s).next ≡ true) × (next ≡ None)
  start_none (Block all) next h = starts_none all onwards refl next h
  start_none (Declaration all) next h = (refl, declarators_none all next h)
  start_none (Empty spot) next h = cc
  start_none (Run spot e) next h = cc
  start_none (If spot e s) next h = cc
  start_none (IfElse spot e s r) next h = cc
  start_none (While spot e s) next h = cc
  start_none (DoWhile s spot e) next h = (let none = (start_none s (Some spot.at) h).1 in cc)
  start_none (For begin spot e step s) next h = absurd (for_some begin spot.at h)
  start_none (Switch spot e all) next h = cc
  start_none (Break spot) next h = cc
  start_none (Continue spot) next h = cc
  start_none (Return spot e) next h = cc

  starts_none : (all : TypedStatementTrees) (e : Exits) → e.next ≡ true → (next : Option ℕ) → start_of_all all next ≡ None → ((exits_of_all e all).next ≡ true) × (next ≡ None)
  starts_none statement.none e k next h = (k, h)
  starts_none (statement.first s rest) e k next h = (let one = start_none s (start_of_all rest next) h in starts_none rest (exits_behind e (exits_of s)) (behind_next e (exits_of s) k one.0) next one.1)
  starts_none (case z rest) e k next h = starts_none rest (record { next = true; breaks = e.breaks; continues = e.continues }) refl next h
  starts_none (default rest) e k next h = starts_none rest (record { next = true; breaks = e.breaks; continues = e.continues }) refl next h

-- The entry of a function leads to a place.
pub entry_leads : (f : TypedFunctionTree) → start_of_all f.body (ways_of_body f).next ≡ None → ⊥
entry_leads f h = by (starts_none f.body onwards refl (ways_of_body f).next h)
  where
    close_none : (b : Bool) → b ≡ true → (if b then Some f.close.at else None) ≡ None → ⊥
    close_none true is none = cc
    close_none false is none = cc

    by : (reaches_end f.body ≡ true) × ((ways_of_body f).next ≡ None) → ⊥
    by (reached, none) = close_none (reaches_end f.body) reached none
