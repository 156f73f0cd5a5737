-- The blocks of statements stand where their function's do: a well-typed statement is one whose blocks do what it means.
use Rattle.std.proofs.Common.{◌≡◌, ℕ, ◌+◌, ◌-◌, ◌*◌, ◌≤◌, List, [], ◌∷◌, ◌++◌, Option, Some, None, Bool, true, false, ◌&&◌, not, slice_get, refl, arith}
use Rattle.std.specs.Prelude.{if◌then◌else◌, nat_le}
use Rattle.c_tree.specs.declared.types.IntegerType.{IntegerType}
use Rattle.c_tree.specs.TypedExpressions.{RvalueTree}
use Rattle.c_tree.specs.TypedStatements as statement
use Rattle.c_tree.specs.TypedStatements.{InitialTree, Zero, Scalar as scalar-initial, Elements, Literal, DeclaredTree, TypedStartTree, Nothing, Value, Declares, StepTree, TypedStatementTree, Block, Declaration, Empty, Run, If, IfElse, While, DoWhile, For, Switch, Break, Continue, Return, TypedStatementTrees, case, default}
use Rattle.c_tree.specs.declared.object_type.Scalar.{Scalar}
use Rattle.c_tree.specs.declared.object_type.ObjectType.{ObjectType}
use Rattle.c_tree.specs.declared.object_type.ObjectType.TheVariants as of-object
use Rattle.c_type_rules.specs.Integers.{fits as number_fits, scalar_size}
use Rattle.c_type_laws.specs.Kind.{Kind, Wrong, NullPointer, Of}
use Rattle.c_type_laws.specs.Kinds.{is_of, is_typed, is_scalar}
use Rattle.c_type_laws.specs.Expressions.{kind_of}
use Rattle.c_type_laws.specs.Statements.{tested_type, is_label, is_switch, may_stand, is_void, is_start, is_step, is_statement, are_statements}
use Rattle.c_places.specs.Places.{Place, stop, brought, brought_by_start, places_of_declarators, places_of_start, places_of_head, places_of_step, places_of, places_of_all}
use Rattle.c_meaning_values.specs.Memory.{Memory as SourceMemory}
use Rattle.c_meaning.specs.Statements.{declare}
use Rattle.c_flow.specs.declared.edge.Ways.{Ways}
use Rattle.c_flow.specs.Flow.{start_place, start_of_declarators, round_of, within_loop, within_switch, ways_before as with_rest}
use Rattle.graph_core.specs.Graphs as unit
use Rattle.graph_core.specs.Graphs.{Operand, Instruction, Automatic, Store, Marker, Return as Returning}
use Rattle.graph_build_layout.specs.declared.laid.Use.{Use}
use Rattle.graph_build_layout.specs.declared.laid.Use.TheVariants.{Anywhere, Tested}
use Rattle.graph_build_layout.specs.declared.laid.Use.TheVariants as use-of
use Rattle.graph_build_layout.specs.Layout.{laid}
use Rattle.graph_build_names.specs.Names.{scalar_of, object_of, pick}
use Rattle.graph_build_steps.specs.Rules.{element_of}
use Rattle.graph_build_steps.specs.Steps.{or_zero}
use Rattle.graph_build_steps.specs.Drafts.{Made, Goal, To, Unused, Either, ending, instruction_before, note}
use Rattle.graph_build_statements.specs.Coding.{Part, begun, going, label_for, with_end, placed_at, coded as coded_at, branching}
use Rattle.graph_build_statements.specs.Reached.{reached, initial_reached, declared_reached, start_reached, condition_reached, step_reached, result_reached, statement_reached, statements_reached, bare}
use Rattle.graph_build_statements.specs.Declaring.{declare as declared_made, add_declared, object_type_of, words_of, cleared, store_elements, copied_words, declare_kept, declare_scalar, declare_as}
use Rattle.graph_build_statements.specs.Forms.{tests, default_start, add_run, add_going, add_branching, add_start, add_step, add_switch, add, add_all}
use Rattle.graph_build_runs.proofs.Leads.{names_in, size_in}
use Rattle.graph_build_runs.proofs.Noting.{ScalarsApart}
use Rattle.graph_build_runs.proofs.Standing.{Stands, inner_of}
use Rattle.graph_build_runs.proofs.Growing.{grows}
use Rattle.graph_build_runs.proofs.Moving.{AreSmall}
use Rattle.graph_build_runs.proofs.Shapes.{typed_of, scalar_typed, two_true, three_true, four_true}
use Rattle.graph_build_runs.proofs.Coding.{LaidOut, IsLaid, coded}
use Rattle.graph_build_runs.proofs.Expressions.{coded_typed, coded_does}
use Rattle.graph_build_runs.proofs.Activities.{Activity, coding_in, here_in, place_at, placed}
use Rattle.graph_build_runs.proofs.Outcomes.{There, GoesOn}
use Rattle.graph_build_runs.proofs.Stops.{Lawful, PlaceIs, place_wider}
use Rattle.graph_build_runs.proofs.AtPlaces.{Works, Begins, end_front}
use Rattle.graph_build_runs.proofs.Switches.{AreLabels, tests_front}
use Rattle.graph_build_runs.proofs.Keeping.{KeepsOn}
use Rattle.graph_build_runs.proofs.Formed.{IsPlain, ArePlain, behind_start, behind, DeclaresAll, none_declared, declared_first, FormedStart, no_start, value_start, declared_start, FormedStep, no_step, a_step, Formed, block, declaration, empty, runs, chosen, either, while_loop, do_loop, for_loop, endless_loop, switch, breaks, continues, leaves, returns, FormedAll, none_left, first_of, at_case, at_default}
use Rattle.graph_build_runs.proofs.Calls.{CallsGood}

-- what a `switch` tests is well typed
tested_typed : (kind : Kind) (t : IntegerType) → tested_type kind ≡ Some t → is_typed kind ≡ true
tested_typed Wrong t e = cc
tested_typed NullPointer t e = cc
tested_typed (Of v) t e = refl

-- A block that begins with the marker of a place stands where the place's block does.
abbrev pub IsHome : Activity → unit.Block → Type 0
IsHome k b = (place : ℕ) (ops : List Instruction) → b.instructions ≡ Marker place ∷ ops → slice_get k.setting.graph.blocks (place - k.setting.graph.entry) ≡ Some b

abbrev pub AreHome : Activity → List unit.Block → Type 0
AreHome k [] = Unit {0}
AreHome k (b ∷ more) = IsHome k b × AreHome k more

-- The blocks of a part stand in the graph.
abbrev pub PartStands : Activity → Part → Type 0
PartStands k part = Stands k.setting.graph k.setting.top part.inner × AreHome k part.placed

-- what has its address taken in an expression is in memory
abbrev pub LaidAt : Activity → RvalueTree → Type 0
LaidAt k e = (place : ℕ) (began : SourceMemory) → IsLaid (placed k place began) e

abbrev pub LaidIn : Activity → Option RvalueTree → Type 0
LaidIn k None = Unit {0}
LaidIn k (Some e) = LaidAt k e

-- places where these variables are in scope
abbrev pub ArePlaces : Activity → List Place → Type 0
ArePlaces k [] = Unit {0}
ArePlaces k (q ∷ more) = PlaceIs k q.scope q.spot.at × ArePlaces k more

pub places_front : (k : Activity) (xs ys : List Place) → ArePlaces k (xs ++ ys) → ArePlaces k xs
places_front k [] ys h = tt
places_front k (x ∷ xs) ys h = (h.0, places_front k xs ys h.1)

pub places_back : (k : Activity) (xs ys : List Place) → ArePlaces k (xs ++ ys) → ArePlaces k ys
places_back k [] ys h = h
places_back k (x ∷ xs) ys h = places_back k xs ys h.1

-- Declarators that do what they mean, where their blocks stand.
abbrev pub DeclaratorDoes : Activity → DeclaredTree → Type 0
DeclaratorDoes k d = (scope : List ℕ) (low : ℕ) (w : Ways) → low ≤ d.variable → Begins k scope d.spot.at (λ t i. declared_made (coding_in k) d t (going (coding_in k) w.next i))
    → GoesOn k low (d.variable + 1) (d.variable ∷ []) w scope (Some d.spot.at) (declare k.calls (here_in k) d) × KeepsOn k low (d.variable + 1) (d.variable ∷ []) scope (declare k.calls (here_in k) d)

-- What is asked of declarators beside: each is of a variable above those before it, and does what it means.
abbrev pub DeclaratorsFit : Activity → (low : ℕ) → List DeclaredTree → Type 0
DeclaratorsFit k low [] = Unit {0}
DeclaratorsFit k low (d ∷ more) = (low ≤ d.variable) × DeclaratorDoes k d × DeclaratorsFit k (d.variable + 1) more

abbrev pub StartFits : Activity → (low : ℕ) → TypedStartTree → Type 0
StartFits k low Nothing = Unit {0}
StartFits k low (Value spot e) = LaidAt k e
StartFits k low (Declares all) = DeclaratorsFit k low all

abbrev pub StepFits : Activity → Option StepTree → Type 0
StepFits k None = Unit {0}
StepFits k (Some p) = LaidAt k p.value

abbrev mutual
  -- What is asked of statements beside their types: declarators fit, no declaration is the body of another statement, and a loop's body begins at a place.
  pub StatementFits : Activity → (low : ℕ) → TypedStatementTree → Type 0
  StatementFits k low (Block all) = StatementsFit k low all
  StatementFits k low (Declaration all) = DeclaratorsFit k low all
  StatementFits k low (Empty spot) = Unit {0}
  StatementFits k low (Run spot e) = LaidAt k e
  StatementFits k low (If spot e s) = LaidAt k e × IsPlain s × StatementFits k low s
  StatementFits k low (IfElse spot e s r) = LaidAt k e × IsPlain s × IsPlain r × StatementFits k low s × StatementFits k low r
  StatementFits k low (While spot e s) = LaidAt k e × IsPlain s × StatementFits k low s
  StatementFits k low (DoWhile s spot e) = LaidAt k e × IsPlain s × StatementFits k low s × There k (start_place s (Some spot.at))
  StatementFits k low (For begin spot e p s) = StartFits k low begin × LaidIn k e × StepFits k p × IsPlain s × StatementFits k (behind_start low begin) s
  StatementFits k low (Switch spot e all) = LaidAt k e × ArePlain all × StatementsFit k low all
  StatementFits k low (Break spot) = Unit {0}
  StatementFits k low (Continue spot) = Unit {0}
  StatementFits k low (Return spot e) = LaidIn k e

  pub StatementsFit : Activity → (low : ℕ) → TypedStatementTrees → Type 0
  StatementsFit k low statement.none = Unit {0}
  StatementsFit k low (statement.first s rest) = StatementFits k low s × StatementsFit k (behind low s) rest
  StatementsFit k low (case z rest) = StatementsFit k low rest
  StatementsFit k low (default rest) = StatementsFit k low rest

module _ (k : Activity) (law : Lawful k) (out : (place : ℕ) (began : SourceMemory) → LaidOut (placed k place began)) (small : AreSmall k.setting.program) (good : CallsGood k) where
  abbrev K : RvalueTree → Kind
  K e = kind_of k.setting.program k.setting.tree e

  -- a well-typed expression works at each place
  pub works_of : (place : ℕ) (e : RvalueTree) → is_typed (K e) ≡ true → LaidAt k e → Works k place e
  works_of place e typed at began rdy =
      let x = placed k place began in
      let apart : ScalarsApart x = record { one = law.apart.one; outside = law.apart.outside; single = law.apart.single } in
      let c = coded x (k.calls place) law.low apart (out place began) (good place began rdy) e typed (at place began) in
      (coded_typed x (k.calls place) law.low apart small c, coded_does x (k.calls place) law.low apart small c)

  -- the code of an expression at a place grows
  code_front : (at : ℕ) (e : RvalueTree) (t : ℕ) (g : Goal) → Stands k.setting.graph k.setting.top (coded_at (coding_in k) at e t g).inner → Stands k.setting.graph k.setting.top (inner_of g)
  code_front at e t g h = grows (names_in k.setting) (place_at k at) k.setting.top k.setting.graph e (begun (coding_in k) t) g h

  going_front : (next : Option ℕ) (inner : List unit.Block) → Stands k.setting.graph k.setting.top (going (coding_in k) next inner).inner → Stands k.setting.graph k.setting.top inner
  going_front (Some to) inner h = h
  going_front None inner h = h

  -- the block of a place, and those that stood before it
  begins_with : (scope : List ℕ) (at t : ℕ) (m : (free : ℕ) → List unit.Block → Made) (part : Part) → size_in k.setting ≤ t → PlaceIs k scope at → PartStands k (placed_at (coding_in k) at (m t part.inner) part.placed) → (Stands k.setting.graph k.setting.top (m t part.inner).inner → Stands k.setting.graph k.setting.top part.inner)
      → Begins k scope at m × PartStands k part
  begins_with scope at t m part le here h front =
      (record { free = t; size = le; inner = part.inner; stands = h.0; block = h.1.0 (place_at k at) (m t part.inner).ops refl; here = here }, (front h.0, h.1.1))

  run_stands : (scope : List ℕ) (at : ℕ) (e : RvalueTree) (t : ℕ) (next : Option ℕ) (part : Part) → size_in k.setting ≤ t → PlaceIs k scope at → PartStands k (add_run (coding_in k) at e t next part)
      → Begins k scope at (λ free i. coded_at (coding_in k) at e free (Unused (going (coding_in k) next i))) × PartStands k part
  run_stands scope at e t next part le here h =
      begins_with scope at t (λ free i. coded_at (coding_in k) at e free (Unused (going (coding_in k) next i))) part le here h (λ st. going_front next part.inner (code_front at e t (Unused (going (coding_in k) next part.inner)) st))

  going_stands : (scope : List ℕ) (at t : ℕ) (next : Option ℕ) (part : Part) → size_in k.setting ≤ t → PlaceIs k scope at → PartStands k (add_going (coding_in k) at next part) → Begins k scope at (λ free i. going (coding_in k) next i) × PartStands k part
  going_stands scope at t next part le here h = begins_with scope at t (λ free i. going (coding_in k) next i) part le here h (going_front next part.inner)

  branching_stands : (scope : List ℕ) (at : ℕ) (e : RvalueTree) (t : ℕ) (one other : Option ℕ) (part : Part) → size_in k.setting ≤ t → PlaceIs k scope at → PartStands k (add_branching (coding_in k) at e t one other part)
      → Begins k scope at (λ free i. branching (coding_in k) at e free one other i) × PartStands k part
  branching_stands scope at e t one other part le here h =
      begins_with scope at t (λ free i. branching (coding_in k) at e free one other i) part le here h
      (λ st.
      (let ends = with_end (coding_in k) at other part.inner in
      end_front k at other part.inner (end_front k at one ends (code_front at e t (Either (label_for (coding_in k) one ends) (label_for (coding_in k) other part.inner) (with_end (coding_in k) at one ends)) st))))

  switch_stands : (scope : List ℕ) (at : ℕ) (e : RvalueTree) (all : TypedStatementTrees) (t : ℕ) (next : Option ℕ) (part : Part) → size_in k.setting ≤ t → PlaceIs k scope at → PartStands k (add_switch (coding_in k) at e all t next part)
      → Begins k scope at (λ free i. coded_at (coding_in k) at e free (To None (tests (coding_in k) at (laid (names_in k.setting) e Anywhere (begun (coding_in k) free)).value all next (default_start all next) i))) × PartStands k part
  switch_stands scope at e all t next part le here h =
      let a = (laid (names_in k.setting) e Anywhere (begun (coding_in k) t)).value in
      begins_with scope at t (λ free i. coded_at (coding_in k) at e free (To None (tests (coding_in k) at (laid (names_in k.setting) e Anywhere (begun (coding_in k) free)).value all next (default_start all next) i))) part le here h
      (λ st. tests_front k at a all next (default_start all next) part.inner (code_front at e t (To None (tests (coding_in k) at a all next (default_start all next) part.inner)) st))

  -- names that are used later
  later : (e : RvalueTree) (u : Use) (t : ℕ) → size_in k.setting ≤ t → size_in k.setting ≤ reached (coding_in k) e u t
  later e u t le = omega (arith, le)

  later_initial : (o : Option ℕ) (i : InitialTree) (t : ℕ) → size_in k.setting ≤ t → size_in k.setting ≤ initial_reached (coding_in k) o i t
  later_initial (Some x) (scalar-initial e) t le = later e (use-of.In x) t le
  later_initial None (scalar-initial e) t le = later e Anywhere t le
  later_initial (Some x) (Elements all) t le = omega (arith, le)
  later_initial None (Elements all) t le = omega (arith, le)
  later_initial (Some x) Zero t le = le
  later_initial None Zero t le = le
  later_initial (Some x) (Literal n) t le = le
  later_initial None (Literal n) t le = le

  later_declared : (all : List DeclaredTree) (t : ℕ) → size_in k.setting ≤ t → size_in k.setting ≤ declared_reached (coding_in k) all t
  later_declared [] t le = le
  later_declared (d ∷ more) t le = later_declared more (initial_reached (coding_in k) (scalar_of (names_in k.setting) d.variable) d.initial t) (later_initial (scalar_of (names_in k.setting) d.variable) d.initial t le)

  later_start : (begin : TypedStartTree) (t : ℕ) → size_in k.setting ≤ t → size_in k.setting ≤ start_reached (coding_in k) begin t
  later_start Nothing t le = le
  later_start (Value spot e) t le = later e use-of.Nothing t le
  later_start (Declares all) t le = later_declared all t le

  later_condition : (e : Option RvalueTree) (t : ℕ) → size_in k.setting ≤ t → size_in k.setting ≤ condition_reached (coding_in k) e t
  later_condition None t le = le
  later_condition (Some e) t le = later e Tested t le

  later_step : (p : Option StepTree) (t : ℕ) → size_in k.setting ≤ t → size_in k.setting ≤ step_reached (coding_in k) p t
  later_step None t le = le
  later_step (Some p) t le = later p.value use-of.Nothing t le

  later_result : (e : Option RvalueTree) (t : ℕ) → size_in k.setting ≤ t → size_in k.setting ≤ result_reached (coding_in k) e t
  later_result None t le = le
  later_result (Some e) t le = later e Anywhere t le

  mutual
    later_statement : (s : TypedStatementTree) (t : ℕ) → size_in k.setting ≤ t → size_in k.setting ≤ statement_reached (coding_in k) s t
    later_statement (Block all) t le = later_statements all t le
    later_statement (Declaration all) t le = later_declared all t le
    later_statement (Empty spot) t le = le
    later_statement (Run spot e) t le = later e use-of.Nothing t le
    later_statement (If spot e s) t le = later_statement s (reached (coding_in k) e Tested t) (later e Tested t le)
    later_statement (IfElse spot e s r) t le = later_statement r (statement_reached (coding_in k) s (reached (coding_in k) e Tested t)) (later_statement s (reached (coding_in k) e Tested t) (later e Tested t le))
    later_statement (While spot e s) t le = later_statement s (reached (coding_in k) e Tested t) (later e Tested t le)
    later_statement (DoWhile s spot e) t le = later e Tested (statement_reached (coding_in k) s t) (later_statement s t le)
    later_statement (For begin spot e p s) t le =
        let behind_head = condition_reached (coding_in k) e (start_reached (coding_in k) begin t) in
        later_step p (statement_reached (coding_in k) s behind_head) (later_statement s behind_head (later_condition e (start_reached (coding_in k) begin t) (later_start begin t le)))
    later_statement (Switch spot e all) t le = later_statements all (reached (coding_in k) e Anywhere t) (later e Anywhere t le)
    later_statement (Break spot) t le = le
    later_statement (Continue spot) t le = le
    later_statement (Return spot e) t le = later_result e t le

    later_statements : (all : TypedStatementTrees) (t : ℕ) → size_in k.setting ≤ t → size_in k.setting ≤ statements_reached (coding_in k) all t
    later_statements statement.none t le = le
    later_statements (statement.first s rest) t le = later_statements rest (statement_reached (coding_in k) s t) (later_statement s t le)
    later_statements (case z rest) t le = later_statements rest t le
    later_statements (default rest) t le = later_statements rest t le

  -- the code of declarators grows
  cleared_front : (object bytes covered : ℕ) (m : Made) → Stands k.setting.graph k.setting.top (cleared object bytes covered m).inner → Stands k.setting.graph k.setting.top m.inner
  cleared_front object bytes covered m = by (nat_le (words_of bytes) covered)
    where
      by : (b : Bool) → Stands k.setting.graph k.setting.top (if b then m else instruction_before (unit.Zero object (words_of bytes)) m).inner → Stands k.setting.graph k.setting.top m.inner
      by true h = h
      by false h = h

  elements_front : (at : ℕ) (s : Scalar) (object index : ℕ) (all : List RvalueTree) (t : ℕ) (m : Made) → Stands k.setting.graph k.setting.top (store_elements (coding_in k) at s object index all t m).inner → Stands k.setting.graph k.setting.top m.inner
  elements_front at s object index [] t m h = h
  elements_front at s object index (e ∷ more) t m h =
      let next = pick (names_in k.setting) t (laid (names_in k.setting) (bare e) Anywhere t).top in
      let rest = store_elements (coding_in k) at s object (index + 1) more next m in
      elements_front at s object (index + 1) more next m
      (grows (names_in k.setting) (place_at k at) k.setting.top k.setting.graph (bare e) t (To None (instruction_before (Store (element_of s) (Automatic object (index * scalar_size s)) (laid (names_in k.setting) (bare e) Anywhere t).value) rest)) h)

  kept_front : (at object : ℕ) (of : ObjectType) (i : InitialTree) (t : ℕ) (m : Made) → Stands k.setting.graph k.setting.top (declare_kept (coding_in k) at object of i t m).inner → Stands k.setting.graph k.setting.top m.inner
  kept_front at object (of-object.Scalar s) Zero t m h = h
  kept_front at object (of-object.Scalar s) (scalar-initial e) t m h = code_front at e t (To None (instruction_before (Store (element_of s) (Automatic object 0) (laid (names_in k.setting) e Anywhere (begun (coding_in k) t)).value) m)) h
  kept_front at object (of-object.Scalar s) (Elements all) t m h = cleared_front object (scalar_size s) 0 m h
  kept_front at object (of-object.Scalar s) (Literal n) t m h = cleared_front object (scalar_size s) 0 m h
  kept_front at object (of-object.Array s count) Zero t m h = cleared_front object (scalar_size s * count) 0 m h
  kept_front at object (of-object.Array s count) (scalar-initial e) t m h = cleared_front object (scalar_size s * count) 0 m h
  kept_front at object (of-object.Array s count) (Elements all) t m h =
      let rest = store_elements (coding_in k) at s object 0 all (begun (coding_in k) t) m in elements_front at s object 0 all (begun (coding_in k) t) m (cleared_front object (scalar_size s * count) 0 rest h)
  kept_front at object (of-object.Array s count) (Literal n) t m h =
      let words = copied_words (coding_in k) n (scalar_size s * count) in cleared_front object (scalar_size s * count) words (instruction_before (unit.CopyWords object n words) m) h

  named_front : (at x : ℕ) (i : InitialTree) (t : ℕ) (m : Made) → Stands k.setting.graph k.setting.top (declare_scalar (coding_in k) at x i t m).inner → Stands k.setting.graph k.setting.top m.inner
  named_front at x Zero t m h = h
  named_front at x (scalar-initial e) t m h = code_front at e t (To (Some x) (note x m)) h
  named_front at x (Elements all) t m h = h
  named_front at x (Literal n) t m h = h

  declarator_front : (d : DeclaredTree) (t : ℕ) (m : Made) → Stands k.setting.graph k.setting.top (declared_made (coding_in k) d t m).inner → Stands k.setting.graph k.setting.top m.inner
  declarator_front d t m = by (scalar_of (names_in k.setting) d.variable)
    where
      by : (o : Option ℕ) → Stands k.setting.graph k.setting.top (declare_as (coding_in k) o d t m).inner → Stands k.setting.graph k.setting.top m.inner
      by (Some x) h = named_front d.spot.at x d.initial t m h
      by None h = kept_front d.spot.at (or_zero (object_of (names_in k.setting) d.variable)) (object_type_of k.setting.program d.variable) d.initial t m h

  declares_formed : (w : Ways) (scope : List ℕ) (all : List DeclaredTree) (t low : ℕ) (part : Part) → size_in k.setting ≤ t → ArePlaces k (places_of_declarators k.setting.function scope all) → DeclaratorsFit k low all → PartStands k (add_declared (coding_in k) all t w.next part) → DeclaresAll k w scope low all × PartStands k part
  declares_formed w scope [] t low part le places fit h = (none_declared, h)
  declares_formed w scope (d ∷ more) t low part le places fit h =
      let n = initial_reached (coding_in k) (scalar_of (names_in k.setting) d.variable) d.initial t in
      let next = start_of_declarators more w.next in
      let behind_it = add_declared (coding_in k) more n w.next part in
      let one = begins_with scope d.spot.at t (λ free i. declared_made (coding_in k) d free (going (coding_in k) next i)) behind_it le places.0 h (λ st. going_front next behind_it.inner (declarator_front d t (going (coding_in k) next behind_it.inner) st)) in
      let rest = declares_formed w (scope ++ d.variable ∷ []) more n (d.variable + 1) part (later_initial (scalar_of (names_in k.setting) d.variable) d.initial t le) places.1 fit.2 one.1 in
      let does = fit.1 scope low (record w { next = next }) fit.0 one.0 in (declared_first fit.0 does.0 does.1 rest.0, rest.1)

  start_formed : (w : Ways) (scope : List ℕ) (begin : TypedStartTree) (head t low : ℕ) (part : Part) → size_in k.setting ≤ t → is_start k.setting.program k.setting.tree begin ≡ true → ArePlaces k (places_of_start k.setting.function scope begin) → StartFits k low begin → PartStands k (add_start (coding_in k) begin t head part)
      → FormedStart k w head scope low begin × PartStands k part
  start_formed w scope Nothing head t low part le typed places fit h = (no_start, h)
  start_formed w scope (Value spot e) head t low part le typed places fit h = let b = run_stands scope spot.at e t (Some head) part le places.0 h in (value_start (works_of (place_at k spot.at) e typed fit) b.0, b.1)
  start_formed w scope (Declares all) head t low part le typed places fit h = let d = declares_formed (record w { next = Some head }) scope all t low part le places fit h in (declared_start d.0, d.1)

  step_formed : (scope : List ℕ) (p : Option StepTree) (head t : ℕ) (part : Part) → size_in k.setting ≤ t → is_step k.setting.program k.setting.tree p ≡ true → ArePlaces k (places_of_step k.setting.function scope p) → StepFits k p → PartStands k (add_step (coding_in k) p t head part) → FormedStep k head scope p × PartStands k part
  step_formed scope None head t part le typed places fit h = (no_step, h)
  step_formed scope (Some p) head t part le typed places fit h = let b = run_stands scope p.spot.at p.value t (Some head) part le places.0 h in (a_step (works_of (place_at k p.spot.at) p.value typed fit) b.0, b.1)

  labels_are : (t : IntegerType) (b c : Bool) (all : TypedStatementTrees) → are_statements k.setting.program k.setting.tree b c (Some t) all ≡ true → AreLabels t all
  labels_are t b c statement.none h = tt
  labels_are t b c (statement.first s rest) h = labels_are t b c rest (three_true (may_stand (Some t) s) (is_statement k.setting.program k.setting.tree b c s) (are_statements k.setting.program k.setting.tree b c (Some t) rest) h).2
  labels_are t b c (case z rest) h = let two = two_true (number_fits t z) (are_statements k.setting.program k.setting.tree b c (Some t) rest) h in (two.0, labels_are t b c rest two.1)
  labels_are t b c (default rest) h = labels_are t b c rest h

  mutual
    -- A well-typed statement whose blocks stand is one that does what it means,
    pub formed : (b c : Bool) (w : Ways) (scope : List ℕ) (s : TypedStatementTree) (t low : ℕ) (part : Part) → size_in k.setting ≤ t → is_statement k.setting.program k.setting.tree b c s ≡ true → ArePlaces k (places_of k.setting.function scope s) → StatementFits k low s → PartStands k (add (coding_in k) s t w part)
        → Formed k w scope low s × PartStands k part
    formed b c w scope (Block all) t low part le typed places fit h = let r = all_formed b c None w scope all t low part le typed places fit h in (block r.0, r.1)
    formed b c w scope (Declaration all) t low part le typed places fit h = let r = declares_formed w scope all t low part le places fit h in (declaration r.0, r.1)
    formed b c w scope (Empty spot) t low part le typed places fit h = let r = going_stands scope spot.at t w.next part le places.0 h in (empty r.0, r.1)
    formed b c w scope (Run spot e) t low part le typed places fit h = let r = run_stands scope spot.at e t w.next part le places.0 h in (runs (works_of (place_at k spot.at) e typed fit) r.0, r.1)
    formed b c w scope (If spot e s) t low part le typed places fit h =
        let ok = two_true (is_scalar (K e)) (is_statement k.setting.program k.setting.tree b c s) typed in
        let n = reached (coding_in k) e Tested t in
        let r = branching_stands scope spot.at e t (start_place s w.next) w.next (add (coding_in k) s n w part) le places.0 h in
        let q = formed b c w scope s n low part (later e Tested t le) ok.1 places.1 fit.2 r.1 in
        (chosen (works_of (place_at k spot.at) e (scalar_typed (K e) ok.0) fit.0) r.0 fit.1 q.0, q.1)
    formed b c w scope (IfElse spot e s r) t low part le typed places fit h =
        let ok = three_true (is_scalar (K e)) (is_statement k.setting.program k.setting.tree b c s) (is_statement k.setting.program k.setting.tree b c r) typed in
        let n = reached (coding_in k) e Tested t in
        let m = statement_reached (coding_in k) s n in
        let front = places_front k (places_of k.setting.function scope s) (places_of k.setting.function scope r) places.1 in
        let back = places_back k (places_of k.setting.function scope s) (places_of k.setting.function scope r) places.1 in
        let branch = branching_stands scope spot.at e t (start_place s w.next) (start_place r w.next) (add (coding_in k) s n w (add (coding_in k) r m w part)) le places.0 h in
        let one = formed b c w scope s n low (add (coding_in k) r m w part) (later e Tested t le) ok.1 front fit.3 branch.1 in
        let other = formed b c w scope r m low part (later_statement s n (later e Tested t le)) ok.2 back fit.4 one.1 in
        (either (works_of (place_at k spot.at) e (scalar_typed (K e) ok.0) fit.0) branch.0 fit.1 fit.2 one.0 other.0, other.1)
    formed b c w scope (While spot e s) t low part le typed places fit h =
        let ok = two_true (is_scalar (K e)) (is_statement k.setting.program k.setting.tree true true s) typed in
        let n = reached (coding_in k) e Tested t in
        let r = branching_stands scope spot.at e t (start_place s (Some spot.at)) w.next (add (coding_in k) s n (within_loop spot.at w) part) le places.0 h in
        let q = formed true true (within_loop spot.at w) scope s n low part (later e Tested t le) ok.1 places.1 fit.2 r.1 in
        (while_loop (works_of (place_at k spot.at) e (scalar_typed (K e) ok.0) fit.0) r.0 fit.1 q.0, q.1)
    formed b c w scope (DoWhile s spot e) t low part le typed places fit h =
        let ok = two_true (is_scalar (K e)) (is_statement k.setting.program k.setting.tree true true s) typed in
        let n = statement_reached (coding_in k) s t in
        let front = places_front k (places_of k.setting.function scope s) (stop k.setting.function scope spot ∷ []) places in
        let back = places_back k (places_of k.setting.function scope s) (stop k.setting.function scope spot ∷ []) places in
        let q = formed true true (within_loop spot.at w) scope s t low (add_branching (coding_in k) spot.at e n (start_place s (Some spot.at)) w.next part) le ok.1 front fit.2 h in
        let r = branching_stands scope spot.at e n (start_place s (Some spot.at)) w.next part (later_statement s t le) back.0 q.1 in
        (do_loop fit.3 (works_of (place_at k spot.at) e (scalar_typed (K e) ok.0) fit.0) r.0 fit.1 q.0, r.1)
    formed b c w scope (For begin spot (Some e) p s) t low part le typed places fit h =
        let ok = four_true (is_start k.setting.program k.setting.tree begin) (is_scalar (K e)) (is_step k.setting.program k.setting.tree p) (is_statement k.setting.program k.setting.tree true true s) typed in
        let inside = scope ++ brought_by_start begin in
        let head = places_of_head k.setting.function scope begin spot (Some e) in
        let steps = places_of_step k.setting.function inside p in
        let body = places_of k.setting.function inside s in
        let both_parts = places_front k (head ++ steps) body places in
        let first_part = places_front k head steps both_parts in
        let start_part = places_front k (places_of_start k.setting.function scope begin) (stop k.setting.function inside spot ∷ []) first_part in
        let head_part = places_back k (places_of_start k.setting.function scope begin) (stop k.setting.function inside spot ∷ []) first_part in
        let round = round_of p spot.at in
        let n = start_reached (coding_in k) begin t in
        let m = reached (coding_in k) e Tested n in
        let o = statement_reached (coding_in k) s m in
        let le_n = later_start begin t le in
        let le_m = later e Tested n le_n in
        let body_made = add (coding_in k) s m (within_loop round w) part in
        let step_made = add_step (coding_in k) p o spot.at body_made in
        let f = start_formed w scope begin spot.at t low (add_branching (coding_in k) spot.at e n (start_place s (Some round)) w.next step_made) le ok.0 start_part fit.0 h in
        let r = branching_stands inside spot.at e n (start_place s (Some round)) w.next step_made le_n head_part.0 f.1 in
        let g = step_formed inside p spot.at o body_made (later_statement s m le_m) ok.2 (places_back k head steps both_parts) fit.2 r.1 in
        let q = formed true true (within_loop round w) inside s m (behind_start low begin) part le_m ok.3 (places_back k (head ++ steps) body places) fit.4 g.1 in
        (for_loop f.0 (works_of (place_at k spot.at) e (scalar_typed (K e) ok.1) fit.1) r.0 g.0 fit.3 q.0, q.1)
    formed b c w scope (For begin spot None p s) t low part le typed places fit h =
        let ok = four_true (is_start k.setting.program k.setting.tree begin) true (is_step k.setting.program k.setting.tree p) (is_statement k.setting.program k.setting.tree true true s) typed in
        let inside = scope ++ brought_by_start begin in
        let head = places_of_head k.setting.function scope begin spot None in
        let steps = places_of_step k.setting.function inside p in
        let body = places_of k.setting.function inside s in
        let both_parts = places_front k (head ++ steps) body places in
        let first_part = places_front k head steps both_parts in
        let round = round_of p spot.at in
        let n = start_reached (coding_in k) begin t in
        let o = statement_reached (coding_in k) s n in
        let le_n = later_start begin t le in
        let body_made = add (coding_in k) s n (within_loop round w) part in
        let step_made = add_step (coding_in k) p o spot.at body_made in
        let r = going_stands inside spot.at t (start_place s (Some round)) (add_start (coding_in k) begin t spot.at step_made) le (place_wider k scope (brought_by_start begin) spot.at first_part.0) h in
        let f = start_formed w scope begin spot.at t low step_made le ok.0 first_part.1 fit.0 r.1 in
        let g = step_formed inside p spot.at o body_made (later_statement s n le_n) ok.2 (places_back k head steps both_parts) fit.2 f.1 in
        let q = formed true true (within_loop round w) inside s n (behind_start low begin) part le_n ok.3 (places_back k (head ++ steps) body places) fit.4 g.1 in
        (endless_loop f.0 r.0 g.0 fit.3 q.0, q.1)
    formed b c w scope (Switch spot e all) t low part le typed places fit h =
        by_type (λ i n q typed_all stands. all_formed true c (Some i) (within_switch w) scope all n low part q typed_all places.1 fit.2 stands) (tested_type (K e)) refl typed
      where
        by_type : ((i : IntegerType) (n : ℕ) → size_in k.setting ≤ n → are_statements k.setting.program k.setting.tree true c (Some i) all ≡ true → PartStands k (add_all (coding_in k) all n (within_switch w) part) → FormedAll k (within_switch w) scope low all × PartStands k part)
            → (o : Option IntegerType) → tested_type (K e) ≡ o → is_switch o && are_statements k.setting.program k.setting.tree true c o all ≡ true → Formed k w scope low (Switch spot e all) × PartStands k part
        by_type rest None is ok = cc
        by_type rest (Some i) is ok =
            let n = reached (coding_in k) e Anywhere t in
            let r = switch_stands scope spot.at e all t w.next (add_all (coding_in k) all n (within_switch w) part) le places.0 h in
            let q = rest i n (later e Anywhere t le) ok r.1 in
            (switch is (labels_are i true c all ok) (works_of (place_at k spot.at) e (tested_typed (K e) i is) fit.0) r.0 fit.1 q.0, q.1)
    formed b c w scope (Break spot) t low part le typed places fit h = let r = going_stands scope spot.at t w.by_break part le places.0 h in (breaks r.0, r.1)
    formed b c w scope (Continue spot) t low part le typed places fit h = let r = going_stands scope spot.at t w.by_continue part le places.0 h in (continues r.0, r.1)
    formed b c w scope (Return spot None) t low part le typed places fit h = let r = begins_with scope spot.at t (λ free i. ending (Returning None) i) part le places.0 h (λ st. st) in (leaves r.0, r.1)
    formed b c w scope (Return spot (Some e)) t low part le typed places fit h =
        let ok = two_true (not (is_void k.setting.tree.result)) (is_of (K e) k.setting.tree.result) typed in
        let r = begins_with scope spot.at t (λ free i. coded_at (coding_in k) spot.at e free (To None (ending (Returning (Some (laid (names_in k.setting) e Anywhere (begun (coding_in k) free)).value)) i))) part le places.0 h
        (λ st. code_front spot.at e t (To None (ending (Returning (Some (laid (names_in k.setting) e Anywhere (begun (coding_in k) t)).value)) part.inner)) st) in
        (returns (works_of (place_at k spot.at) e (typed_of (K e) k.setting.tree.result ok.1) fit) ok.1 r.0, r.1)

    -- and so are statements in order.
    pub all_formed : (b c : Bool) (tested : Option IntegerType) (w : Ways) (scope : List ℕ) (all : TypedStatementTrees) (t low : ℕ) (part : Part) → size_in k.setting ≤ t → are_statements k.setting.program k.setting.tree b c tested all ≡ true → ArePlaces k (places_of_all k.setting.function scope all)
        → StatementsFit k low all → PartStands k (add_all (coding_in k) all t w part) → FormedAll k w scope low all × PartStands k part
    all_formed b c tested w scope statement.none t low part le typed places fit h = (none_left, h)
    all_formed b c tested w scope (statement.first s rest) t low part le typed places fit h =
        let ok = three_true (may_stand tested s) (is_statement k.setting.program k.setting.tree b c s) (are_statements k.setting.program k.setting.tree b c tested rest) typed in
        let n = statement_reached (coding_in k) s t in
        let front = places_front k (places_of k.setting.function scope s) (places_of_all k.setting.function (scope ++ brought s) rest) places in
        let back = places_back k (places_of k.setting.function scope s) (places_of_all k.setting.function (scope ++ brought s) rest) places in
        let one = formed b c (with_rest rest w) scope s t low (add_all (coding_in k) rest n w part) le ok.1 front fit.0 h in
        let more = all_formed b c tested w (scope ++ brought s) rest n (behind low s) part (later_statement s t le) ok.2 back fit.1 one.1 in
        (first_of one.0 more.0, more.1)
    all_formed b c tested w scope (case z rest) t low part le typed places fit h =
        let ok = two_true (is_label tested z) (are_statements k.setting.program k.setting.tree b c tested rest) typed in let r = all_formed b c tested w scope rest t low part le ok.1 places fit h in (at_case r.0, r.1)
    all_formed b c tested w scope (default rest) t low part le typed places fit h =
        let ok = two_true (is_switch tested) (are_statements k.setting.program k.setting.tree b c tested rest) typed in let r = all_formed b c tested w scope rest t low part le ok.1 places fit h in (at_default r.0, r.1)
