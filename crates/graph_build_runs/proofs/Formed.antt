-- Statements whose blocks stand, and whose expressions do what they mean.
use Rattle.std.proofs.Common.{◌≡◌, ℕ, ◌+◌, ◌≤◌, List, [], ◌∷◌, ◌++◌, Option, Some, None, true, ℤ}
use Rattle.debug_records.specs.declared.source.Spot.{Spot}
use Rattle.c_tree.specs.declared.types.IntegerType.{IntegerType}
use Rattle.c_tree.specs.TypedExpressions.{RvalueTree}
use Rattle.c_tree.specs.TypedStatements as statement
use Rattle.c_tree.specs.TypedStatements.{DeclaredTree, TypedStartTree, Nothing, Value, Declares, StepTree, TypedStatementTree, Block, Declaration, Empty, Run, If, IfElse, While, DoWhile, For, Switch, Break, Continue, Return, TypedStatementTrees, case, default}
use Rattle.c_type_laws.specs.Kinds.{is_of}
use Rattle.c_type_laws.specs.Expressions.{kind_of}
use Rattle.c_type_laws.specs.Statements.{tested_type}
use Rattle.c_places.specs.Places.{brought, brought_by_start}
use Rattle.c_meaning.specs.Statements.{declare}
use Rattle.c_flow.specs.declared.edge.Ways.{Ways}
use Rattle.c_flow.specs.Flow.{start_place, start_of_declarators, round_of, within_loop, within_switch, ways_before as with_rest}
use Rattle.graph_core.specs.Graphs.{Return as Returning}
use Rattle.graph_build_layout.specs.declared.laid.Use.TheVariants.{Anywhere}
use Rattle.graph_build_layout.specs.Layout.{laid}
use Rattle.graph_build_steps.specs.Drafts.{To, Unused, ending}
use Rattle.graph_build_statements.specs.Coding.{begun, going, coded, branching}
use Rattle.graph_build_statements.specs.Forms.{tests, default_start}
use Rattle.graph_build_runs.proofs.Leads.{names_in}
use Rattle.graph_build_runs.proofs.Activities.{Activity, coding_in, here_in, place_at}
use Rattle.graph_build_runs.proofs.Outcomes.{There, GoesOn}
use Rattle.graph_build_runs.proofs.AtPlaces.{Works, Begins}
use Rattle.graph_build_runs.proofs.Switches.{AreLabels}
use Rattle.graph_build_runs.proofs.Keeping.{KeepsOn}

-- a statement that is no declaration
abbrev pub IsPlain : TypedStatementTree → Type 0
IsPlain (Declaration all) = ⊥
IsPlain s = Unit {0}

abbrev pub ArePlain : TypedStatementTrees → Type 0
ArePlain statement.none = Unit {0}
ArePlain (statement.first s rest) = IsPlain s × ArePlain rest
ArePlain (case z rest) = ArePlain rest
ArePlain (default rest) = ArePlain rest

-- the first number above those of the variables that live behind declarators, where they were below another one before
abbrev pub behind_declared : ℕ → List DeclaredTree → ℕ
behind_declared low [] = low
behind_declared low (d ∷ more) = behind_declared (d.variable + 1) more

abbrev pub behind_start : ℕ → TypedStartTree → ℕ
behind_start low (Declares all) = behind_declared low all
behind_start low begin = low

abbrev pub behind : ℕ → TypedStatementTree → ℕ
behind low (Declaration all) = behind_declared low all
behind low s = low

abbrev pub behind_all : ℕ → TypedStatementTrees → ℕ
behind_all low statement.none = low
behind_all low (statement.first s rest) = behind_all (behind low s) rest
behind_all low (case z rest) = behind_all low rest
behind_all low (default rest) = behind_all low rest

-- Declarators that do what they mean, each of a variable above those that live.
pub data DeclaresAll (k : Activity) : Ways → (scope : List ℕ) → (low : ℕ) → List DeclaredTree → Type 0 where
  none_declared : {w : Ways} {scope : List ℕ} {low : ℕ} → DeclaresAll k w scope low []
  declared_first : {w : Ways} {scope : List ℕ} {low : ℕ} {d : DeclaredTree} {more : List DeclaredTree} → low ≤ d.variable
      → GoesOn k low (d.variable + 1) (d.variable ∷ []) (record w { next = start_of_declarators more w.next }) scope (Some d.spot.at) (declare k.calls (here_in k) d) → KeepsOn k low (d.variable + 1) (d.variable ∷ []) scope (declare k.calls (here_in k) d) → DeclaresAll k w (scope ++ d.variable ∷ []) (d.variable + 1) more → DeclaresAll k w scope low (d ∷ more)

-- the first part of a `for`
pub data FormedStart (k : Activity) : Ways → (head : ℕ) → (scope : List ℕ) → (low : ℕ) → TypedStartTree → Type 0 where
  no_start : {w : Ways} {head : ℕ} {scope : List ℕ} {low : ℕ} → FormedStart k w head scope low Nothing
  value_start : {w : Ways} {head : ℕ} {scope : List ℕ} {low : ℕ} {spot : Spot} {e : RvalueTree} → Works k (place_at k spot.at) e → Begins k scope spot.at (λ t i. coded (coding_in k) spot.at e t (Unused (going (coding_in k) (Some head) i))) → FormedStart k w head scope low (Value spot e)
  declared_start : {w : Ways} {head : ℕ} {scope : List ℕ} {low : ℕ} {all : List DeclaredTree} → DeclaresAll k (record w { next = Some head }) scope low all → FormedStart k w head scope low (Declares all)

-- its step
pub data FormedStep (k : Activity) : (head : ℕ) → (scope : List ℕ) → Option StepTree → Type 0 where
  no_step : {head : ℕ} {scope : List ℕ} → FormedStep k head scope None
  a_step : {head : ℕ} {scope : List ℕ} {p : StepTree} → Works k (place_at k p.spot.at) p.value → Begins k scope p.spot.at (λ t i. coded (coding_in k) p.spot.at p.value t (Unused (going (coding_in k) (Some head) i))) → FormedStep k head scope (Some p)

mutual
  -- Statements, by where they lead, the variables in scope, and a number above those that live.
  pub data Formed (k : Activity) : Ways → (scope : List ℕ) → (low : ℕ) → TypedStatementTree → Type 0 where
    block : {w : Ways} {scope : List ℕ} {low : ℕ} {all : TypedStatementTrees} → FormedAll k w scope low all → Formed k w scope low (Block all)
    declaration : {w : Ways} {scope : List ℕ} {low : ℕ} {all : List DeclaredTree} → DeclaresAll k w scope low all → Formed k w scope low (Declaration all)
    empty : {w : Ways} {scope : List ℕ} {low : ℕ} {spot : Spot} → Begins k scope spot.at (λ t i. going (coding_in k) w.next i) → Formed k w scope low (Empty spot)
    runs : {w : Ways} {scope : List ℕ} {low : ℕ} {spot : Spot} {e : RvalueTree} → Works k (place_at k spot.at) e → Begins k scope spot.at (λ t i. coded (coding_in k) spot.at e t (Unused (going (coding_in k) w.next i))) → Formed k w scope low (Run spot e)
    chosen : {w : Ways} {scope : List ℕ} {low : ℕ} {spot : Spot} {e : RvalueTree} {s : TypedStatementTree} → Works k (place_at k spot.at) e → Begins k scope spot.at (λ t i. branching (coding_in k) spot.at e t (start_place s w.next) w.next i) → IsPlain s → Formed k w scope low s
        → Formed k w scope low (If spot e s)
    either : {w : Ways} {scope : List ℕ} {low : ℕ} {spot : Spot} {e : RvalueTree} {s r : TypedStatementTree} → Works k (place_at k spot.at) e → Begins k scope spot.at (λ t i. branching (coding_in k) spot.at e t (start_place s w.next) (start_place r w.next) i) → IsPlain s → IsPlain r → Formed k w scope low s
        → Formed k w scope low r → Formed k w scope low (IfElse spot e s r)
    while_loop : {w : Ways} {scope : List ℕ} {low : ℕ} {spot : Spot} {e : RvalueTree} {s : TypedStatementTree} → Works k (place_at k spot.at) e → Begins k scope spot.at (λ t i. branching (coding_in k) spot.at e t (start_place s (Some spot.at)) w.next i) → IsPlain s
        → Formed k (within_loop spot.at w) scope low s → Formed k w scope low (While spot e s)
    do_loop : {w : Ways} {scope : List ℕ} {low : ℕ} {spot : Spot} {e : RvalueTree} {s : TypedStatementTree} → There k (start_place s (Some spot.at)) → Works k (place_at k spot.at) e → Begins k scope spot.at (λ t i. branching (coding_in k) spot.at e t (start_place s (Some spot.at)) w.next i) → IsPlain s
        → Formed k (within_loop spot.at w) scope low s → Formed k w scope low (DoWhile s spot e)
    for_loop : {w : Ways} {scope : List ℕ} {low : ℕ} {begin : TypedStartTree} {spot : Spot} {e : RvalueTree} {p : Option StepTree} {s : TypedStatementTree} → FormedStart k w spot.at scope low begin → Works k (place_at k spot.at) e
        → Begins k (scope ++ brought_by_start begin) spot.at (λ t i. branching (coding_in k) spot.at e t (start_place s (Some (round_of p spot.at))) w.next i) → FormedStep k spot.at (scope ++ brought_by_start begin) p → IsPlain s
        → Formed k (within_loop (round_of p spot.at) w) (scope ++ brought_by_start begin) (behind_start low begin) s → Formed k w scope low (For begin spot (Some e) p s)
    endless_loop : {w : Ways} {scope : List ℕ} {low : ℕ} {begin : TypedStartTree} {spot : Spot} {p : Option StepTree} {s : TypedStatementTree} → FormedStart k w spot.at scope low begin
        → Begins k (scope ++ brought_by_start begin) spot.at (λ t i. going (coding_in k) (start_place s (Some (round_of p spot.at))) i) → FormedStep k spot.at (scope ++ brought_by_start begin) p → IsPlain s
        → Formed k (within_loop (round_of p spot.at) w) (scope ++ brought_by_start begin) (behind_start low begin) s → Formed k w scope low (For begin spot None p s)
    switch : {w : Ways} {scope : List ℕ} {low : ℕ} {spot : Spot} {e : RvalueTree} {all : TypedStatementTrees} {t : IntegerType} → tested_type (kind_of k.setting.program k.setting.tree e) ≡ Some t → AreLabels t all → Works k (place_at k spot.at) e
        → Begins k scope spot.at (λ free i. coded (coding_in k) spot.at e free (To None (tests (coding_in k) spot.at (laid (names_in k.setting) e Anywhere (begun (coding_in k) free)).value all w.next (default_start all w.next) i))) → ArePlain all
        → FormedAll k (within_switch w) scope low all → Formed k w scope low (Switch spot e all)
    breaks : {w : Ways} {scope : List ℕ} {low : ℕ} {spot : Spot} → Begins k scope spot.at (λ t i. going (coding_in k) w.by_break i) → Formed k w scope low (Break spot)
    continues : {w : Ways} {scope : List ℕ} {low : ℕ} {spot : Spot} → Begins k scope spot.at (λ t i. going (coding_in k) w.by_continue i) → Formed k w scope low (Continue spot)
    leaves : {w : Ways} {scope : List ℕ} {low : ℕ} {spot : Spot} → Begins k scope spot.at (λ t i. ending (Returning None) i) → Formed k w scope low (Return spot None)
    returns : {w : Ways} {scope : List ℕ} {low : ℕ} {spot : Spot} {e : RvalueTree} → Works k (place_at k spot.at) e → is_of (kind_of k.setting.program k.setting.tree e) k.setting.tree.result ≡ true
        → Begins k scope spot.at (λ t i. coded (coding_in k) spot.at e t (To None (ending (Returning (Some (laid (names_in k.setting) e Anywhere (begun (coding_in k) t)).value)) i))) → Formed k w scope low (Return spot (Some e))

  -- Statements in order.
  pub data FormedAll (k : Activity) : Ways → (scope : List ℕ) → (low : ℕ) → TypedStatementTrees → Type 0 where
    none_left : {w : Ways} {scope : List ℕ} {low : ℕ} → FormedAll k w scope low statement.none
    first_of : {w : Ways} {scope : List ℕ} {low : ℕ} {s : TypedStatementTree} {rest : TypedStatementTrees} → Formed k (with_rest rest w) scope low s → FormedAll k w (scope ++ brought s) (behind low s) rest → FormedAll k w scope low (statement.first s rest)
    at_case : {w : Ways} {scope : List ℕ} {low : ℕ} {z : ℤ} {rest : TypedStatementTrees} → FormedAll k w scope low rest → FormedAll k w scope low (case z rest)
    at_default : {w : Ways} {scope : List ℕ} {low : ℕ} {rest : TypedStatementTrees} → FormedAll k w scope low rest → FormedAll k w scope low (default rest)
