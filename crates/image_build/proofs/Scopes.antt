-- Where a variable comes into scope along a step of the flow, the place before assigns it.
use Rattle.std.proofs.Common.{◌≡◌, ℕ, ◌+◌, ◌⊎◌, inl, inr, Bool, true, false, Some, None, Option, List, [], ◌∷◌, ◌++◌, map, refl, sym, subst}
use Rattle.std.specs.Prelude.{◌&&◌, if◌then◌else◌}
use Rattle.std.specs.List.{AllByRecursion}
use Rattle.std.proofs.lemmas.Bool.{and_parts}
use Rattle.std.proofs.lemmas.List.{append_assoc}
use Rattle.debug_records.specs.declared.source.Spot.{Spot}
use Rattle.c_tree.specs.declared.types.IntegerType.{IntegerType}
use Rattle.c_tree.specs.declared.object_type.Object.TheVariants as object
use Rattle.c_tree.specs.TypedExpressions.{RvalueTree}
use Rattle.c_tree.specs.TypedStatements as statement
use Rattle.c_tree.specs.TypedStatements.{DeclaredTree, TypedStartTree, Nothing, Value, Declares, StepTree, TypedStatementTree, Block, Declaration, Empty, Run, If, IfElse, While, DoWhile, For, Switch, Break, Continue, Return, TypedStatementTrees, case, default}
use Rattle.c_tree.specs.Programs.{TypedFunctionTree, ProgramTree}
use Rattle.c_places.specs.Flow.{has_default, reaches_end}
use Rattle.c_type_laws.specs.Expressions.{kind_of}
use Rattle.c_type_laws.specs.Kinds.{is_scalar}
use Rattle.c_type_laws.specs.Statements.{tested_type, is_label, is_switch, may_stand, is_condition, is_start, is_step, is_statement, are_statements}
use Rattle.c_places.specs.Places.{Place, stop, brought, brought_by_start, brought_by_body, parameters_of, close_of, places_of_declarators, places_of_start, places_of_step}
use Rattle.c_flow.specs.declared.edge.Edge.{Edge}
use Rattle.c_flow.specs.declared.edge.Ways.{Ways}
use Rattle.c_flow.specs.declared.assigned.Assigned.{Assigned}
use Rattle.c_flow.specs.Flow.{edge, start_of_declarators, start_of_for, start_place, start_of_all, flow_of_declarators, flow_of_start, round_of, flow_of_step, flow_out, flow_to_labels, flow_past, within_loop, within_switch, ways_before, flow_of, flow_of_all, ways_of_body, flow_of_function, flow_of_functions}
use Rattle.c_flow.specs.Assigns.{assigns_object, assigned_objects, assigned_by_initial, assigned_by_option, assigned_by_step, assigned_by_declarators, assigned_by_start, assigned_by, assigned_by_statements, assigned_by_entry, assigned_by_function, assigned_by_functions}
use Rattle.graph_core.specs.Paths.{Among, front, behind}
use Rattle.image_build.proofs.Known.{among_front, among_back, known_of_head, known_of, known_of_all, known_of_function, known_of_functions}
use Rattle.base_laws.proofs.Lists.{both_all as all_both, parts_all as all_parts}
pub use Rattle.graph_core.proofs.Among.{among_cases}

-- ---- Lists

among_nil : {A : Type 0} (x : A) (xs : List A) → Among x (xs ++ []) → Among x xs
among_nil x xs a = elim (among_cases x xs [] a) [ inl b ↦ b | inr b ↦ elim b [ ] ]

abbrev declared_variables : List DeclaredTree → List ℕ
declared_variables all = map (λ (d : DeclaredTree). d.variable) all

-- ---- What is known at positions, and what they assign

module _ (In As : ℕ → ℕ → Type 0) where
  -- at a place just what is in its scope is known
  pub record IsPlaced (q : Place) : Type 0 where
    pub only : (x : ℕ) → In q.spot.at x → Among x q.scope
    pub all : (x : ℕ) → Among x q.scope → In q.spot.at x

  abbrev pub ArePlaced : List Place → Type 0
  ArePlaced all = AllByRecursion IsPlaced all

  -- what positions are said to assign they assign
  abbrev pub AreAssigned : List Assigned → Type 0
  AreAssigned all = (at x : ℕ) → Among (assigns_object at (object.Automatic x)) all → As at x

  -- what is known where an edge leads is known where it leads from, or assigned there
  abbrev pub IsSound : Edge → Type 0
  IsSound e = (x : ℕ) → In e.to x → In e.from x ⊎ As e.from x

  abbrev pub AreSound : List Edge → Type 0
  AreSound all = AllByRecursion IsSound all

  -- no more is known where it goes on than these
  abbrev IsWithin : List ℕ → Option ℕ → Type 0
  IsWithin scope None = Unit {0}
  IsWithin scope (Some to) = (x : ℕ) → In to x → Among x scope

  within_more : (scope more : List ℕ) (o : Option ℕ) → ((x : ℕ) → Among x scope → Among x more) → IsWithin scope o → IsWithin more o
  within_more scope more None h w = tt
  within_more scope more (Some to) h w = λ x there. h x (w x there)

  within_front : (scope more : List ℕ) (o : Option ℕ) → IsWithin scope o → IsWithin (scope ++ more) o
  within_front scope more o w = within_more scope (scope ++ more) o (λ x a. among_front x scope more a) w

  within_nil : (scope : List ℕ) (o : Option ℕ) → IsWithin (scope ++ []) o → IsWithin scope o
  within_nil scope o w = within_more (scope ++ []) scope o (λ x a. among_nil x scope a) w

  within_assoc : (a b c : List ℕ) (o : Option ℕ) → IsWithin (a ++ (b ++ c)) o → IsWithin ((a ++ b) ++ c) o
  within_assoc a b c o w = subst (λ (l : List ℕ). IsWithin l o) (sym (append_assoc a b c)) w

  assigned_front : (xs ys : List Assigned) → AreAssigned (xs ++ ys) → AreAssigned xs
  assigned_front xs ys h = λ at x a. h at x (among_front (assigns_object at (object.Automatic x)) xs ys a)

  assigned_back : (xs ys : List Assigned) → AreAssigned (xs ++ ys) → AreAssigned ys
  assigned_back xs ys h = λ at x a. h at x (among_back (assigns_object at (object.Automatic x)) xs ys a)

  -- an edge from where these are known or assigned, to where no more are known
  leads : (at : ℕ) (scope : List ℕ) (o : Option ℕ) → ((x : ℕ) → Among x scope → In at x ⊎ As at x) → IsWithin scope o → AreSound (edge at o)
  leads at scope None has w = tt
  leads at scope (Some to) has w = (λ x there. has x (w x there), tt)

  from_place : (q : Place) → IsPlaced q → (o : Option ℕ) → IsWithin q.scope o → AreSound (edge q.spot.at o)
  from_place q placed o w = leads q.spot.at q.scope o (λ x a. inl (placed.all x a)) w

  module _ (n : ℕ) where
    -- ---- Declarators

    start_declarators : (scope : List ℕ) (all : List DeclaredTree) (next : Option ℕ) → ArePlaced (places_of_declarators n scope all) → IsWithin (scope ++ declared_variables all) next → IsWithin scope (start_of_declarators all next)
    start_declarators scope [] next placed w = within_nil scope next w
    start_declarators scope (d ∷ all) next placed w = placed.0.only

    declarators : (scope : List ℕ) (all : List DeclaredTree) (next : Option ℕ) → ArePlaced (places_of_declarators n scope all) → AreAssigned (assigned_by_declarators all) → IsWithin (scope ++ declared_variables all) next → AreSound (flow_of_declarators all next)
    declarators scope [] next placed assigns w = tt
    declarators scope (d ∷ all) next placed assigns w =
        all_both IsSound (edge d.spot.at (start_of_declarators all next)) (flow_of_declarators all next)
        (leads d.spot.at (scope ++ d.variable ∷ []) (start_of_declarators all next) has (start_declarators (scope ++ d.variable ∷ []) all next placed.1 rest))
        (declarators (scope ++ d.variable ∷ []) all next placed.1 (λ at x a. assigns at x (behind (among_back (assigns_object at (object.Automatic x)) (assigned_by_initial d.spot.at d.initial) (assigned_by_declarators all) a))) rest)
      where
        rest : IsWithin ((scope ++ d.variable ∷ []) ++ declared_variables all) next
        rest = within_assoc scope (d.variable ∷ []) (declared_variables all) next w

        one : (x : ℕ) → Among x (d.variable ∷ []) → x ≡ d.variable
        one x front = refl
        one x (behind more) = elim more [ ]

        has : (x : ℕ) → Among x (scope ++ d.variable ∷ []) → In d.spot.at x ⊎ As d.spot.at x
        has x a = elim (among_cases x scope (d.variable ∷ []) a) [ inl b ↦ inl (placed.0.all x b) | inr b ↦ inr (subst (λ y. As d.spot.at y) (sym (one x b)) (assigns d.spot.at d.variable front)) ]

    -- ---- The parts of a `for`

    -- its first part and its head or condition
    head_parts : (scope : List ℕ) (b : TypedStartTree) (spot : Spot) (c : Option RvalueTree) → ArePlaced (known_of_head n scope b spot c) → ArePlaced (places_of_start n scope b) × IsPlaced (stop n (scope ++ brought_by_start b) spot)
    head_parts scope b spot None placed = (placed.1, placed.0)
    head_parts scope b spot (Some c) placed = let parts = all_parts IsPlaced (places_of_start n scope b) (stop n (scope ++ brought_by_start b) spot ∷ []) placed in (parts.0, parts.1.0)

    start_for : (scope : List ℕ) (b : TypedStartTree) (spot : Spot) → ArePlaced (places_of_start n scope b) → IsPlaced (stop n (scope ++ brought_by_start b) spot) → IsWithin scope (start_of_for b spot.at)
    start_for scope Nothing spot placed head = within_nil scope (Some spot.at) head.only
    start_for scope (Value at e) spot placed head = placed.0.only
    start_for scope (Declares all) spot placed head = start_declarators scope all (Some spot.at) placed head.only

    first_part : (scope : List ℕ) (b : TypedStartTree) (spot : Spot) → ArePlaced (places_of_start n scope b) → IsPlaced (stop n (scope ++ brought_by_start b) spot) → AreAssigned (assigned_by_start b) → AreSound (flow_of_start b spot.at)
    first_part scope Nothing spot placed head assigns = tt
    first_part scope (Value at e) spot placed head assigns = from_place (stop n scope at) placed.0 (Some spot.at) (within_nil scope (Some spot.at) head.only)
    first_part scope (Declares all) spot placed head assigns = declarators scope all (Some spot.at) placed assigns head.only

    round_within : (inside : List ℕ) (step : Option StepTree) (spot : Spot) → ArePlaced (places_of_step n inside step) → IsPlaced (stop n inside spot) → IsWithin inside (Some (round_of step spot.at))
    round_within inside None spot placed head = head.only
    round_within inside (Some s) spot placed head = placed.0.only

    step_sound : (inside : List ℕ) (step : Option StepTree) (spot : Spot) → ArePlaced (places_of_step n inside step) → IsPlaced (stop n inside spot) → AreSound (flow_of_step step spot.at)
    step_sound inside None spot placed head = tt
    step_sound inside (Some s) spot placed head = from_place (stop n inside s.spot) placed.0 (Some spot.at) head.only

    out_sound : (inside : List ℕ) (c : Option RvalueTree) (spot : Spot) (next : Option ℕ) → IsPlaced (stop n inside spot) → IsWithin inside next → AreSound (flow_out c spot.at next)
    out_sound inside None spot next head w = tt
    out_sound inside (Some c) spot next head w = from_place (stop n inside spot) head next w

    -- what stands of a `for`
    record ForParts (scope : List ℕ) (b : TypedStartTree) (spot : Spot) (step : Option StepTree) (body : TypedStatementTree) : Type 0 where
      begin : ArePlaced (places_of_start n scope b)
      head : IsPlaced (stop n (scope ++ brought_by_start b) spot)
      step_placed : ArePlaced (places_of_step n (scope ++ brought_by_start b) step)
      body_placed : ArePlaced (known_of n (scope ++ brought_by_start b) body)

    for_parts : (scope : List ℕ) (b : TypedStartTree) (spot : Spot) (c : Option RvalueTree) (step : Option StepTree) (body : TypedStatementTree) → ArePlaced (known_of n scope (For b spot c step body)) → ForParts scope b spot step body
    for_parts scope b spot c step body placed =
        let inside = scope ++ brought_by_start b in
        let one = all_parts IsPlaced (known_of_head n scope b spot c ++ places_of_step n inside step) (known_of n inside body) placed in
        let two = all_parts IsPlaced (known_of_head n scope b spot c) (places_of_step n inside step) one.0 in
        let head = head_parts scope b spot c two.0 in
        record { begin = head.0; head = head.1; step_placed = two.1; body_placed = one.1 }

    -- ---- Where statements begin

    mutual
      start_one : (s : TypedStatementTree) (scope : List ℕ) (next : Option ℕ) → ArePlaced (known_of n scope s) → IsWithin (scope ++ brought s) next → IsWithin scope (start_place s next)
      start_one (Block all) scope next placed w = start_each all scope next placed (within_front scope (brought_by_body all) next (within_nil scope next w))
      start_one (Declaration all) scope next placed w = start_declarators scope all next placed w
      start_one (Empty spot) scope next placed w = placed.0.only
      start_one (Run spot e) scope next placed w = placed.0.only
      start_one (If spot c s) scope next placed w = placed.0.only
      start_one (IfElse spot c s t) scope next placed w = placed.0.only
      start_one (While spot c s) scope next placed w = placed.0.only
      start_one (DoWhile s spot c) scope next placed w = (
          let parts = all_parts IsPlaced (known_of n scope s) (stop n scope spot ∷ []) placed in
          start_one s scope (Some spot.at) parts.0 (within_front scope (brought s) (Some spot.at) parts.1.0.only))
      start_one (For b spot c step s) scope next placed w = (let parts = for_parts scope b spot c step s placed in start_for scope b spot parts.begin parts.head)
      start_one (Switch spot e all) scope next placed w = placed.0.only
      start_one (Break spot) scope next placed w = placed.0.only
      start_one (Continue spot) scope next placed w = placed.0.only
      start_one (Return spot e) scope next placed w = placed.0.only

      start_each : (all : TypedStatementTrees) (scope : List ℕ) (next : Option ℕ) → ArePlaced (known_of_all n scope all) → IsWithin (scope ++ brought_by_body all) next → IsWithin scope (start_of_all all next)
      start_each statement.none scope next placed w = within_nil scope next w
      start_each (statement.first s rest) scope next placed w = (
          let parts = all_parts IsPlaced (known_of n scope s) (known_of_all n (scope ++ brought s) rest) placed in
          start_one s scope (start_of_all rest next) parts.0 (start_each rest (scope ++ brought s) next parts.1 (within_assoc scope (brought s) (brought_by_body rest) next w)))
      start_each (case z rest) scope next placed w = start_each rest scope next placed w
      start_each (default rest) scope next placed w = start_each rest scope next placed w

    -- ---- The labels of a `switch`

    module _ (p : ProgramTree) (f : TypedFunctionTree) where
      -- no declaration stands directly there
      none_brought : (t : IntegerType) (s : TypedStatementTree) → may_stand (Some t) s ≡ true → brought s ≡ []
      none_brought t (Block all) h = refl
      none_brought t (Declaration all) h = cc
      none_brought t (Empty spot) h = refl
      none_brought t (Run spot e) h = refl
      none_brought t (If spot e s) h = refl
      none_brought t (IfElse spot e s r) h = refl
      none_brought t (While spot e s) h = refl
      none_brought t (DoWhile s spot e) h = refl
      none_brought t (For b spot e step s) h = refl
      none_brought t (Switch spot e all) h = refl
      none_brought t (Break spot) h = refl
      none_brought t (Continue spot) h = refl
      none_brought t (Return spot e) h = refl

      labels : (b c : Bool) (t : IntegerType) (all : TypedStatementTrees) (scope outer : List ℕ) (spot : Spot) (next : Option ℕ) → are_statements p f b c (Some t) all ≡ true → ((x : ℕ) → Among x scope → Among x outer) → IsPlaced (stop n outer spot)
          → ArePlaced (known_of_all n scope all) → IsWithin (scope ++ brought_by_body all) next → AreSound (flow_to_labels spot.at all next)
      labels b c t statement.none scope outer spot next typed inside from placed w = tt
      labels b c t (statement.first s rest) scope outer spot next typed inside from placed w =
          let laws = and_parts (may_stand (Some t) s && is_statement p f b c s) (are_statements p f b c (Some t) rest) typed in
          let law = and_parts (may_stand (Some t) s) (is_statement p f b c s) laws.0 in
          let parts = all_parts IsPlaced (known_of n scope s) (known_of_all n (scope ++ brought s) rest) placed in
          labels b c t rest (scope ++ brought s) outer spot next laws.1 (λ x a. inside x (among_nil x scope (subst (λ (l : List ℕ). Among x (scope ++ l)) (none_brought t s law.0) a))) from parts.1 (within_assoc scope (brought s) (brought_by_body rest) next w)
      labels b c t (case z rest) scope outer spot next typed inside from placed w =
          all_both IsSound (edge spot.at (start_of_all rest next)) (flow_to_labels spot.at rest next)
          (from_place (stop n outer spot) from (start_of_all rest next) (within_more scope outer (start_of_all rest next) inside (start_each rest scope next placed w)))
          (labels b c t rest scope outer spot next (and_parts (is_label (Some t) z) (are_statements p f b c (Some t) rest) typed).1 inside from placed w)
      labels b c t (default rest) scope outer spot next typed inside from placed w =
          all_both IsSound (edge spot.at (start_of_all rest next)) (flow_to_labels spot.at rest next)
          (from_place (stop n outer spot) from (start_of_all rest next) (within_more scope outer (start_of_all rest next) inside (start_each rest scope next placed w)))
          (labels b c t rest scope outer spot next (and_parts (is_switch (Some t)) (are_statements p f b c (Some t) rest) typed).1 inside from placed w)

      past : (all : TypedStatementTrees) (scope : List ℕ) (spot : Spot) (next : Option ℕ) → IsPlaced (stop n scope spot) → IsWithin scope next → AreSound (flow_past spot.at all next)
      past all scope spot next from w = by_default (has_default all)
        where
          by_default : (d : Bool) → AreSound (if d then [] else edge spot.at next)
          by_default true = tt
          by_default false = from_place (stop n scope spot) from next w

      to_labels : (b c : Bool) (tested : Option IntegerType) (all : TypedStatementTrees) (scope : List ℕ) (spot : Spot) (next : Option ℕ) → is_switch tested ≡ true → are_statements p f b c tested all ≡ true → IsPlaced (stop n scope spot) → ArePlaced (known_of_all n scope all)
          → IsWithin scope next → AreSound (flow_to_labels spot.at all next)
      to_labels b c None all scope spot next is typed from placed w = cc
      to_labels b c (Some t) all scope spot next is typed from placed w = labels b c t all scope scope spot next typed (λ x a. a) from placed (within_front scope (brought_by_body all) next w)

      -- ---- Statements

      mutual
        one : (s : TypedStatementTree) (scope : List ℕ) (w : Ways) (b c : Bool) → is_statement p f b c s ≡ true → ArePlaced (known_of n scope s) → AreAssigned (assigned_by s) → IsWithin (scope ++ brought s) w.next → IsWithin scope w.by_break → IsWithin scope w.by_continue
            → AreSound (flow_of w s)
        one (Block all) scope w b c typed placed assigns next breaks continues = each all scope w b c None typed placed assigns (within_front scope (brought_by_body all) w.next (within_nil scope w.next next)) breaks continues
        one (Declaration all) scope w b c typed placed assigns next breaks continues = declarators scope all w.next placed assigns next
        one (Empty spot) scope w b c typed placed assigns next breaks continues = from_place (stop n scope spot) placed.0 w.next (within_nil scope w.next next)
        one (Run spot e) scope w b c typed placed assigns next breaks continues = from_place (stop n scope spot) placed.0 w.next (within_nil scope w.next next)
        one (If spot e s) scope w b c typed placed assigns next breaks continues = (
            let on = within_nil scope w.next next in
            let inside = within_front scope (brought s) w.next on in
            all_both IsSound (edge spot.at (start_place s w.next) ++ edge spot.at w.next) (flow_of w s)
            (all_both IsSound (edge spot.at (start_place s w.next)) (edge spot.at w.next) (from_place (stop n scope spot) placed.0 (start_place s w.next) (start_one s scope w.next placed.1 inside)) (from_place (stop n scope spot) placed.0 w.next on))
            (one s scope w b c (and_parts (is_scalar (kind_of p f e)) (is_statement p f b c s) typed).1 placed.1 (assigned_back (assigned_objects spot.at e) (assigned_by s) assigns) inside breaks continues))
        one (IfElse spot e s t) scope w b c typed placed assigns next breaks continues = (
            let on = within_nil scope w.next next in
            let laws = and_parts (is_scalar (kind_of p f e) && is_statement p f b c s) (is_statement p f b c t) typed in
            let law = and_parts (is_scalar (kind_of p f e)) (is_statement p f b c s) laws.0 in
            let parts = all_parts IsPlaced (known_of n scope s) (known_of n scope t) placed.1 in
            let a = assigned_front (assigned_objects spot.at e ++ assigned_by s) (assigned_by t) assigns in
            let here = from_place (stop n scope spot) placed.0 in
            all_both IsSound (edge spot.at (start_place s w.next) ++ edge spot.at (start_place t w.next) ++ flow_of w s) (flow_of w t)
            (all_both IsSound (edge spot.at (start_place s w.next) ++ edge spot.at (start_place t w.next)) (flow_of w s)
            (all_both IsSound (edge spot.at (start_place s w.next)) (edge spot.at (start_place t w.next)) (here (start_place s w.next) (start_one s scope w.next parts.0 (within_front scope (brought s) w.next on)))
            (here (start_place t w.next) (start_one t scope w.next parts.1 (within_front scope (brought t) w.next on))))
            (one s scope w b c law.1 parts.0 (assigned_back (assigned_objects spot.at e) (assigned_by s) a) (within_front scope (brought s) w.next on) breaks continues))
            (one t scope w b c laws.1 parts.1 (assigned_back (assigned_objects spot.at e ++ assigned_by s) (assigned_by t) assigns) (within_front scope (brought t) w.next on) breaks continues))
        one (While spot e s) scope w b c typed placed assigns next breaks continues = (
            let on = within_nil scope w.next next in
            let round = within_front scope (brought s) (Some spot.at) placed.0.only in
            let here = from_place (stop n scope spot) placed.0 in
            all_both IsSound (edge spot.at (start_place s (Some spot.at)) ++ edge spot.at w.next) (flow_of (within_loop spot.at w) s)
            (all_both IsSound (edge spot.at (start_place s (Some spot.at))) (edge spot.at w.next) (here (start_place s (Some spot.at)) (start_one s scope (Some spot.at) placed.1 round)) (here w.next on))
            (one s scope (within_loop spot.at w) true true (and_parts (is_scalar (kind_of p f e)) (is_statement p f true true s) typed).1 placed.1 (assigned_back (assigned_objects spot.at e) (assigned_by s) assigns) round on placed.0.only))
        one (DoWhile s spot e) scope w b c typed placed assigns next breaks continues = (
            let on = within_nil scope w.next next in
            let parts = all_parts IsPlaced (known_of n scope s) (stop n scope spot ∷ []) placed in
            let round = within_front scope (brought s) (Some spot.at) parts.1.0.only in
            let here = from_place (stop n scope spot) parts.1.0 in
            all_both IsSound (edge spot.at (start_place s (Some spot.at)) ++ edge spot.at w.next) (flow_of (within_loop spot.at w) s)
            (all_both IsSound (edge spot.at (start_place s (Some spot.at))) (edge spot.at w.next) (here (start_place s (Some spot.at)) (start_one s scope (Some spot.at) parts.0 round)) (here w.next on))
            (one s scope (within_loop spot.at w) true true (and_parts (is_scalar (kind_of p f e)) (is_statement p f true true s) typed).1 parts.0 (assigned_back (assigned_objects spot.at e) (assigned_by s) assigns) round on parts.1.0.only))
        one (For start_part spot e step s) scope w b c typed placed assigns next breaks continues = (
            let inside = scope ++ brought_by_start start_part in
            let parts = for_parts scope start_part spot e step s placed in
            let on = within_front scope (brought_by_start start_part) w.next (within_nil scope w.next next) in
            let round = round_within inside step spot parts.step_placed parts.head in
            let later = within_front inside (brought s) (Some (round_of step spot.at)) round in
            let body_assigns = assigned_back (assigned_by_start start_part ++ assigned_by_option spot.at e ++ assigned_by_step step) (assigned_by s) assigns in
            let first_two = assigned_front (assigned_by_start start_part ++ assigned_by_option spot.at e) (assigned_by_step step) (assigned_front (assigned_by_start start_part ++ assigned_by_option spot.at e ++ assigned_by_step step) (assigned_by s) assigns) in
            all_both IsSound (flow_of_start start_part spot.at ++ edge spot.at (start_place s (Some (round_of step spot.at))) ++ flow_out e spot.at w.next ++ flow_of_step step spot.at) (flow_of (within_loop (round_of step spot.at) w) s)
            (all_both IsSound (flow_of_start start_part spot.at ++ edge spot.at (start_place s (Some (round_of step spot.at))) ++ flow_out e spot.at w.next) (flow_of_step step spot.at)
            (all_both IsSound (flow_of_start start_part spot.at ++ edge spot.at (start_place s (Some (round_of step spot.at)))) (flow_out e spot.at w.next)
            (all_both IsSound (flow_of_start start_part spot.at) (edge spot.at (start_place s (Some (round_of step spot.at))))
            (first_part scope start_part spot parts.begin parts.head (assigned_front (assigned_by_start start_part) (assigned_by_option spot.at e) first_two))
            (from_place (stop n inside spot) parts.head (start_place s (Some (round_of step spot.at))) (start_one s inside (Some (round_of step spot.at)) parts.body_placed later)))
            (out_sound inside e spot w.next parts.head on))
            (step_sound inside step spot parts.step_placed parts.head))
            (one s inside (within_loop (round_of step spot.at) w) true true (and_parts (is_start p f start_part && is_condition p f e && is_step p f step) (is_statement p f true true s) typed).1 parts.body_placed body_assigns later on round))
        one (Switch spot e all) scope w b c typed placed assigns next breaks continues = (
            let on = within_nil scope w.next next in
            let tested = tested_type (kind_of p f e) in
            let law = and_parts (is_switch tested) (are_statements p f true c tested all) typed in
            all_both IsSound (flow_to_labels spot.at all w.next ++ flow_past spot.at all w.next) (flow_of_all (within_switch w) all)
            (all_both IsSound (flow_to_labels spot.at all w.next) (flow_past spot.at all w.next) (to_labels true c tested all scope spot w.next law.0 law.1 placed.0 placed.1 on) (past all scope spot w.next placed.0 on))
            (each all scope (within_switch w) true c tested law.1 placed.1 (assigned_back (assigned_objects spot.at e) (assigned_by_statements all) assigns) (within_front scope (brought_by_body all) w.next on) on continues))
        one (Break spot) scope w b c typed placed assigns next breaks continues = from_place (stop n scope spot) placed.0 w.by_break breaks
        one (Continue spot) scope w b c typed placed assigns next breaks continues = from_place (stop n scope spot) placed.0 w.by_continue continues
        one (Return spot e) scope w b c typed placed assigns next breaks continues = tt

        each : (all : TypedStatementTrees) (scope : List ℕ) (w : Ways) (b c : Bool) (tested : Option IntegerType) → are_statements p f b c tested all ≡ true → ArePlaced (known_of_all n scope all) → AreAssigned (assigned_by_statements all) → IsWithin (scope ++ brought_by_body all) w.next
            → IsWithin scope w.by_break → IsWithin scope w.by_continue → AreSound (flow_of_all w all)
        each statement.none scope w b c tested typed placed assigns next breaks continues = tt
        each (statement.first s rest) scope w b c tested typed placed assigns next breaks continues = (
            let laws = and_parts (may_stand tested s && is_statement p f b c s) (are_statements p f b c tested rest) typed in
            let law = and_parts (may_stand tested s) (is_statement p f b c s) laws.0 in
            let parts = all_parts IsPlaced (known_of n scope s) (known_of_all n (scope ++ brought s) rest) placed in
            let later = within_assoc scope (brought s) (brought_by_body rest) w.next next in
            all_both IsSound (flow_of (ways_before rest w) s) (flow_of_all w rest)
            (one s scope (ways_before rest w) b c law.1 parts.0 (assigned_front (assigned_by s) (assigned_by_statements rest) assigns) (start_each rest (scope ++ brought s) w.next parts.1 later) breaks continues)
            (each rest (scope ++ brought s) w b c tested laws.1 parts.1 (assigned_back (assigned_by s) (assigned_by_statements rest) assigns) later (within_front scope (brought s) w.by_break breaks) (within_front scope (brought s) w.by_continue continues)))
        each (case z rest) scope w b c tested typed placed assigns next breaks continues = each rest scope w b c tested (and_parts (is_label tested z) (are_statements p f b c tested rest) typed).1 placed assigns next breaks continues
        each (default rest) scope w b c tested typed placed assigns next breaks continues = each rest scope w b c tested (and_parts (is_switch tested) (are_statements p f b c tested rest) typed).1 placed assigns next breaks continues

      -- ---- Functions

      of_function : are_statements p f false false None f.body ≡ true → ArePlaced (known_of_function n f) → AreAssigned (assigned_by_function f) → AreSound (flow_of_function f)
      of_function typed placed assigns =
          let w = ways_of_body f in
          let parts = all_parts IsPlaced (known_of_all n (parameters_of f) f.body) (close_of n f) placed.1 in
          let next = closes (reaches_end f.body) parts.1 in
          all_both IsSound (edge f.spot.at (start_of_all f.body w.next)) (flow_of_all w f.body)
          (leads f.spot.at (parameters_of f) (start_of_all f.body w.next) (λ x a. inr (assigns f.spot.at x (among_front (assigns_object f.spot.at (object.Automatic x)) (assigned_by_entry f) (assigned_by_statements f.body) (mapped x (parameters_of f) a)))) (start_each f.body (parameters_of f) w.next parts.0 next))
          (each f.body (parameters_of f) w false false None typed parts.0 (assigned_back (assigned_by_entry f) (assigned_by_statements f.body) assigns) next tt tt)
        where
          closes : (b : Bool) → ArePlaced (if b then stop n (parameters_of f ++ brought_by_body f.body) f.close ∷ [] else []) → IsWithin (parameters_of f ++ brought_by_body f.body) (if b then Some f.close.at else None)
          closes true close = close.0.only
          closes false close = tt

          mapped : (x : ℕ) (xs : List ℕ) → Among x xs → Among (assigns_object f.spot.at (object.Automatic x)) (map (λ (y : ℕ). assigns_object f.spot.at (object.Automatic y)) xs)
          mapped x [] a = elim a [ ]
          mapped x (y ∷ xs) front = front
          mapped x (y ∷ xs) (behind a) = behind (mapped x xs a)

  -- Each edge of functions' flow is sound, where their places are and what these assign.
  pub functions_sound : (p : ProgramTree) (n : ℕ) (all : List TypedFunctionTree) → AllByRecursion (λ (f : TypedFunctionTree). are_statements p f false false None f.body ≡ true) all → ArePlaced (known_of_functions n all) → AreAssigned (assigned_by_functions all)
      → AreSound (flow_of_functions all)
  functions_sound p n [] typed placed assigns = tt
  functions_sound p n (f ∷ all) typed placed assigns =
      let parts = all_parts IsPlaced (known_of_function n f) (known_of_functions (n + 1) all) placed in
      all_both IsSound (flow_of_function f) (flow_of_functions all) (of_function n p f typed.0 parts.0 (assigned_front (assigned_by_function f) (assigned_by_functions all) assigns))
      (functions_sound p (n + 1) all typed.1 parts.1 (assigned_back (assigned_by_function f) (assigned_by_functions all) assigns))
