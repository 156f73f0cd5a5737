-- A function whose blocks stand is one that can be called, if it is entered and left as it should be.
use Rattle.std.proofs.Common.{◌≡◌, ℕ, ◌+◌, ◌≤◌, List, ◌++◌, length, drop, Option, Some, None, Bool, true, false, not, slice_get, refl, subst, arith, pos}
use Rattle.std.specs.Prelude.{◌==◌}
use Rattle.c_tree.specs.declared.object_type.ValueType.{ValueType}
use Rattle.c_tree.specs.declared.object_type.ValueType.TheVariants.{Void, Integer, Pointer}
use Rattle.c_tree.specs.TypedStatements as statement
use Rattle.c_tree.specs.TypedStatements.{TypedStatementTree, Block, Declaration, Empty, Run, If, IfElse, While, DoWhile, For, Switch, Break, Continue, Return, TypedStatementTrees, case, default}
use Rattle.c_tree.specs.declared.types.IntegerType.{IntegerType}
use Rattle.c_tree.specs.Programs.{TypedFunctionTree, ProgramTree}
use Rattle.c_places.specs.Flow.{reaches_end}
use Rattle.c_places.specs.Places.{places_of_all, parameters_of, brought_by_body}
use Rattle.c_type_rules.specs.ValueTypes as value-types
use Rattle.c_type_laws.specs.Kinds.{is_of, is_scalar, parameters_in, types_of}
use Rattle.c_type_laws.specs.Expressions.{kind_of}
use Rattle.c_type_laws.specs.Statements.{tested_type, is_label, is_switch, may_stand, is_void, is_start, is_step, is_condition, is_statement, are_statements}
use Rattle.c_meaning_values.specs.declared.value.Value.TheVariants as source
use Rattle.c_meaning_values.specs.Memory.{Memory as SourceMemory}
use Rattle.c_meaning_steps.specs.declared.event.Frame.{Frame}
use Rattle.c_meaning.specs.Calls.{bind}
use Rattle.c_flow.specs.Flow.{ways_of_body}
use Rattle.graph_core.specs.Graphs.{Graph, UnitForm, Return as Returning}
use Rattle.graph_core.specs.Memory.{Memory}
use Rattle.graph_core.specs.Runs.{Activation}
use Rattle.graph_build_steps.specs.Drafts.{ending as ends_with}
use Rattle.graph_build_statements.specs.Coding.{Part}
use Rattle.graph_build_statements.specs.Forms.{add_all}
use Rattle.graph_build_runs.specs.Typed.{IsOf}
use Rattle.graph_build_runs.proofs.Leads.{depth_in}
use Rattle.graph_build_runs.proofs.Arguments.{AreOf}
use Rattle.graph_build_runs.proofs.Moving.{AreSmall}
use Rattle.graph_build_runs.proofs.Shapes.{two_true, three_true, four_true}
use Rattle.graph_build_runs.proofs.Coding.{LaidOut}
use Rattle.graph_build_runs.proofs.Activities.{coding_in, here_in, placed}
use Rattle.graph_build_runs.proofs.Living.{statics_later, frames_length, frames_later, Under, under_grown, grown_wider}
use Rattle.graph_build_runs.proofs.Stops.{Lawful}
use Rattle.graph_build_runs.proofs.AtPlaces.{Begins}
use Rattle.graph_build_runs.proofs.Exits.{ReturnsFit, AllReturnsFit, never_ends, never_gives}
use Rattle.graph_build_runs.proofs.OwnObjects.{dropped_is}
use Rattle.graph_build_runs.proofs.Binding.{binds_from}
use Rattle.graph_build_runs.proofs.Closing.{closing_operand}
use Rattle.graph_build_runs.proofs.Calls.{activity_of, FunctionIs}
use Rattle.graph_build_runs.proofs.Entry.{EntryStands}
use Rattle.graph_build_runs.proofs.Entering.{Binds, can_enter}
use Rattle.graph_build_runs.proofs.Forming.{PartStands, ArePlaces, all_formed}
use Rattle.graph_build_runs.proofs.Fitting.{StatementsStand, statements_fit}

module _ (p : ProgramTree) (f : TypedFunctionTree) where
  abbrev pub handed : Bool
  handed = not (is_void f.result)

  mutual
    -- A function that gives nothing returns nothing.
    pub returns_fit : (b c : Bool) (s : TypedStatementTree) → is_statement p f b c s ≡ true → ReturnsFit handed s
    returns_fit b c (Block all) h = all_returns_fit b c None all h
    returns_fit b c (Declaration all) h = tt
    returns_fit b c (Empty spot) h = tt
    returns_fit b c (Run spot e) h = tt
    returns_fit b c (If spot e s) h = returns_fit b c s (two_true (is_scalar (kind_of p f e)) (is_statement p f b c s) h).1
    returns_fit b c (IfElse spot e s r) h = let t = three_true (is_scalar (kind_of p f e)) (is_statement p f b c s) (is_statement p f b c r) h in (returns_fit b c s t.1, returns_fit b c r t.2)
    returns_fit b c (While spot e s) h = returns_fit true true s (two_true (is_scalar (kind_of p f e)) (is_statement p f true true s) h).1
    returns_fit b c (DoWhile s spot e) h = returns_fit true true s (two_true (is_scalar (kind_of p f e)) (is_statement p f true true s) h).1
    returns_fit b c (For begin spot e q s) h = returns_fit true true s (four_true (is_start p f begin) (is_condition p f e) (is_step p f q) (is_statement p f true true s) h).3
    returns_fit b c (Switch spot e all) h = all_returns_fit true c (tested_type (kind_of p f e)) all (two_true (is_switch (tested_type (kind_of p f e))) (are_statements p f true c (tested_type (kind_of p f e)) all) h).1
    returns_fit b c (Break spot) h = tt
    returns_fit b c (Continue spot) h = tt
    returns_fit b c (Return spot None) h = tt
    returns_fit b c (Return spot (Some e)) h = (two_true handed (is_of (kind_of p f e) f.result) h).0

    pub all_returns_fit : (b c : Bool) (tested : Option IntegerType) (all : TypedStatementTrees) → are_statements p f b c tested all ≡ true → AllReturnsFit handed all
    all_returns_fit b c tested statement.none h = tt
    all_returns_fit b c tested (statement.first s rest) h = let t = three_true (may_stand tested s) (is_statement p f b c s) (are_statements p f b c tested rest) h in (returns_fit b c s t.1, all_returns_fit b c tested rest t.2)
    all_returns_fit b c tested (case z rest) h = all_returns_fit b c tested rest (two_true (is_label tested z) (are_statements p f b c tested rest) h).1
    all_returns_fit b c tested (default rest) h = all_returns_fit b c tested rest (two_true (is_switch tested) (are_statements p f b c tested rest) h).1

-- a type without values, by both words for it
pub both_void : (t : ValueType) → value-types.is_void t ≡ true → not (is_void t) ≡ false
both_void Void h = refl
both_void (Integer t) h = cc
both_void (Pointer of) h = cc

module _ (p : ProgramTree) (u : UnitForm) where
  -- What is asked of a function: its blocks stand, its statements are well typed and keep to their places, and it is entered and left as it should be.
  pub record FunctionStands (f : ℕ) (tree : TypedFunctionTree) : Type 0 where
    pub graph : Graph
    pub again : Bool
    pub top : ℕ
    pub is : slice_get u.graphs f ≡ Some graph
    pub there : slice_get p.functions f ≡ Some tree
    pub small : AreSmall p
    pub typed : are_statements p tree false false None tree.body ≡ true
    pub part : Part
    pub lawful : (first : ℕ) (ws : List Activation) (objects : Memory) (frames : List Frame) (left : ℕ) → Lawful (activity_of p u f tree graph again top first ws objects frames left)
    pub out : (first : ℕ) (ws : List Activation) (objects : Memory) (frames : List Frame) (left place : ℕ) (began : SourceMemory) → LaidOut (placed (activity_of p u f tree graph again top first ws objects frames left) place began)
    pub places : (first : ℕ) (ws : List Activation) (objects : Memory) (frames : List Frame) (left : ℕ) → ArePlaces (activity_of p u f tree graph again top first ws objects frames left) (places_of_all f (parameters_of tree) tree.body)
    pub fit : (first : ℕ) (ws : List Activation) (objects : Memory) (frames : List Frame) (left : ℕ) → StatementsStand (activity_of p u f tree graph again top first ws objects frames left) (tree.first_variable + tree.parameters) tree.body
    pub stands : (first : ℕ) (ws : List Activation) (objects : Memory) (frames : List Frame) (left : ℕ)
        → PartStands (activity_of p u f tree graph again top first ws objects frames left) (add_all (coding_in (activity_of p u f tree graph again top first ws objects frames left)) tree.body (length graph.scalars) (ways_of_body tree) part)
    pub closes : (first : ℕ) (ws : List Activation) (objects : Memory) (frames : List Frame) (left : ℕ) → reaches_end tree.body ≡ true
        → Begins (activity_of p u f tree graph again top first ws objects frames left) (parameters_of tree ++ brought_by_body tree.body) tree.close.at (λ t i. ends_with (Returning (closing_operand (f == p.main))) i)
    pub main_is : (f == p.main) ≡ true → (memory : SourceMemory) → IsOf memory tree.result (source.Number (pos 0))
    pub entry : EntryStands p tree graph again top

  -- Its parameters are bound to objects of their own.
  pub function_binds : (f : ℕ) (tree : TypedFunctionTree) (h : FunctionStands f tree) → Binds p u f tree h.graph h.again h.top
  function_binds f tree h first ws objects frames left vs s sound held are =
      let k = activity_of p u f tree h.graph h.again h.top first ws objects frames left in
      let types = subst (λ r. AreOf s.memory (types_of (parameters_in p.automatics r)) vs) h.there are in
      let under : Under s.memory (depth_in k.setting) tree.first_variable = λ n o v d found alive owner. (let c = held.under n o v d found alive owner in (c.0, λ e. (let less = c.1 e in absurd (omega (arith, less))))) in
      let r = binds_from k (frames_length p u s.memory frames ws held.frames) tree.parameters tree.first_variable (drop tree.first_variable p.automatics) (λ i. dropped_is p.automatics tree.first_variable i) h.entry.enough vs s sound under types in
      let after = bind (here_in k) (parameters_of tree) vs s.memory in
      let le : tree.first_variable ≤ tree.first_variable + tree.parameters = omega arith in
      record {
        sound = r.sound;
        grown = grown_wider (depth_in k.setting) 0 tree.first_variable (tree.first_variable + tree.parameters) (tree.first_variable + tree.parameters) s.memory after (omega arith) (omega arith) r.grown;
        holding = record {
          statics = statics_later p s.memory after r.grown.later held.statics;
          under = under_grown (depth_in k.setting) tree.first_variable (tree.first_variable + tree.parameters) s.memory after le under r.grown;
          scoped = r.live;
          frames = frames_later p u s.memory after r.grown.later frames ws held.frames;
        };
      }

  -- It can be called.
  unfoldable pub function_is : (f : ℕ) (tree : TypedFunctionTree) → FunctionStands f tree → FunctionIs p u f tree
  function_is f tree h = record {
    graph = h.graph;
    again = h.again;
    top = h.top;
    is = h.is;
    lawful = h.lawful;
    formed = λ first ws objects frames left good.
        (let k = activity_of p u f tree h.graph h.again h.top first ws objects frames left in
        let fit = statements_fit k (h.lawful first ws objects frames left) (h.out first ws objects frames left) h.small good false false None (tree.first_variable + tree.parameters) tree.body h.typed (h.fit first ws objects frames left) in
        (all_formed k (h.lawful first ws objects frames left) (h.out first ws objects frames left) h.small good false false None (ways_of_body tree) (parameters_of tree) tree.body (length h.graph.scalars) (tree.first_variable + tree.parameters) h.part (omega arith) h.typed (h.places first ws objects frames left) fit
        (h.stands first ws objects frames left)).0);
    closes = h.closes;
    never = λ ends calls here s s2 e. never_ends (handed p tree) calls here tree.body (all_returns_fit p tree false false None tree.body h.typed) ends s s2 e;
    nothing = λ void calls here s s2 v e. never_gives (handed p tree) (both_void tree.result void) calls here tree.body (all_returns_fit p tree false false None tree.body h.typed) s s2 v e;
    main_is = h.main_is;
    binds = function_binds f tree h;
    enters = can_enter p u f tree h.graph h.again h.top h.is h.there h.entry h.lawful (function_binds f tree h);
  }
