-- The blocks of places stand in the order of the text.
use Rattle.std.proofs.Common.{◌≡◌, ℕ, Option, Some, None, List, [], ◌∷◌, ◌++◌, map, refl, sym, ap, ◌∙◌}
use Rattle.std.proofs.lemmas.List.{append_assoc, map-append}
use Rattle.c_tree.specs.TypedExpressions.{RvalueTree}
use Rattle.c_tree.specs.TypedStatements as statement
use Rattle.c_tree.specs.TypedStatements.{DeclaredTree, TypedStartTree, Nothing, Value, Declares, StepTree, TypedStatementTree, Block, Declaration, Empty, Run, If, IfElse, While, DoWhile, For, Switch, Break, Continue, Return, TypedStatementTrees, case, default}
use Rattle.debug_records.specs.declared.source.Spot.{Spot}
use Rattle.c_places.specs.Places.{Place, stop, brought, brought_by_start, places_of_declarators, places_of_start, places_of_head, places_of_step, places_of, places_of_all}
use Rattle.c_flow.specs.declared.edge.Ways.{Ways}
use Rattle.c_flow.specs.Flow.{start_place, round_of, within_loop, within_switch, ways_before as with_rest}
use Rattle.graph_core.specs.Graphs as unit
use Rattle.graph_core.specs.Graphs.{Instruction, Marker}
use Rattle.graph_build_layout.specs.declared.laid.Use.TheVariants.{Anywhere, Tested}
use Rattle.graph_build_names.specs.Names.{scalar_of}
use Rattle.graph_build_statements.specs.Coding.{Coding, Part, place_of}
use Rattle.graph_build_statements.specs.Reached.{reached, initial_reached, start_reached, condition_reached, statement_reached}
use Rattle.graph_build_statements.specs.Declaring.{add_declared}
use Rattle.graph_build_statements.specs.Forms.{add_branching, add_start, add_step, add_head, add_result, add, add_all}

-- the place whose marker comes first, or 0
abbrev pub head_marker : List Instruction → ℕ
head_marker [] = 0
head_marker (Marker p ∷ rest) = p
head_marker (_ ∷ rest) = 0

abbrev pub heads : List unit.Block → List ℕ
heads [] = []
heads (b ∷ more) = head_marker b.instructions ∷ heads more

module _ (c : Coding) (number : ℕ) where
  -- the numbers of places
  abbrev pub marks : List Place → List ℕ
  marks all = map (λ (q : Place). place_of c q.spot.at) all

  both : (xs ys : List Place) (zs : List ℕ) → marks (xs ++ ys) ++ zs ≡ marks xs ++ (marks ys ++ zs)
  both xs ys zs = ap (λ (l : List ℕ). l ++ zs) (map-append (λ (q : Place). place_of c q.spot.at) xs ys) ∙ append_assoc (marks xs) (marks ys) zs

  -- these blocks come before those of a part, for each of these places one
  abbrev pub Comes : Part → List Place → Part → Type 0
  Comes now all part = heads now.placed ≡ marks all ++ heads part.placed

  then : (a b d : Part) (xs ys : List Place) → Comes a xs b → Comes b ys d → Comes a (xs ++ ys) d
  then a b d xs ys h k = h ∙ ap (λ (l : List ℕ). marks xs ++ l) k ∙ sym (both xs ys (heads d.placed))

  declared_come : (all : List DeclaredTree) (scope : List ℕ) (t : ℕ) (next : Option ℕ) (part : Part) → Comes (add_declared c all t next part) (places_of_declarators number scope all) part
  declared_come [] scope t next part = refl
  declared_come (d ∷ more) scope t next part = ap (λ (l : List ℕ). place_of c d.spot.at ∷ l) (declared_come more (scope ++ d.variable ∷ []) (initial_reached c (scalar_of c.names d.variable) d.initial t) next part)

  begin_comes : (begin : TypedStartTree) (scope : List ℕ) (t head : ℕ) (part : Part) → Comes (add_start c begin t head part) (places_of_start number scope begin) part
  begin_comes Nothing scope t head part = refl
  begin_comes (Value spot e) scope t head part = refl
  begin_comes (Declares all) scope t head part = declared_come all scope t (Some head) part

  round_comes : (step : Option StepTree) (scope : List ℕ) (t head : ℕ) (part : Part) → Comes (add_step c step t head part) (places_of_step number scope step) part
  round_comes None scope t head part = refl
  round_comes (Some s) scope t head part = refl

  head_comes : (begin : TypedStartTree) (spot : Spot) (e : Option RvalueTree) (scope : List ℕ) (t : ℕ) (inside next : Option ℕ) (part : Part) → Comes (add_head c begin t spot.at e inside next part) (places_of_head number scope begin spot e) part
  head_comes begin spot None scope t inside next part = ap (λ (l : List ℕ). place_of c spot.at ∷ l) (begin_comes begin scope t spot.at part)
  head_comes begin spot (Some e) scope t inside next part =
      let later = add_branching c spot.at e (start_reached c begin t) inside next part in
      then (add_start c begin t spot.at later) later part (places_of_start number scope begin) (stop number (scope ++ brought_by_start begin) spot ∷ []) (begin_comes begin scope t spot.at later) refl

  result_comes : (spot : Spot) (e : Option RvalueTree) (scope : List ℕ) (t : ℕ) (part : Part) → Comes (add_result c spot.at e t part) (stop number scope spot ∷ []) part
  result_comes spot None scope t part = refl
  result_comes spot (Some e) scope t part = refl

  -- one more place in front
  led : (spot : Spot) (now part : Part) (all : List Place) → Comes now all part → place_of c spot.at ∷ heads now.placed ≡ place_of c spot.at ∷ (marks all ++ heads part.placed)
  led spot now part all h = ap (λ (l : List ℕ). place_of c spot.at ∷ l) h

  mutual
    pub statement_comes : (s : TypedStatementTree) (scope : List ℕ) (t : ℕ) (w : Ways) (part : Part) → Comes (add c s t w part) (places_of number scope s) part
    statement_comes (Block all) scope t w part = statements_come all scope t w part
    statement_comes (Declaration all) scope t w part = declared_come all scope t w.next part
    statement_comes (Empty spot) scope t w part = refl
    statement_comes (Run spot e) scope t w part = refl
    statement_comes (If spot e s) scope t w part = led spot (add c s (reached c e Tested t) w part) part (places_of number scope s) (statement_comes s scope (reached c e Tested t) w part)
    statement_comes (IfElse spot e s r) scope t w part =
        let behind_s = statement_reached c s (reached c e Tested t) in
        let last = add c r behind_s w part in let later = add c s (reached c e Tested t) w last in
        led spot later part (places_of number scope s ++ places_of number scope r) (then later last part (places_of number scope s) (places_of number scope r) (statement_comes s scope (reached c e Tested t) w last) (statement_comes r scope behind_s w part))
    statement_comes (While spot e s) scope t w part =
        led spot (add c s (reached c e Tested t) (within_loop spot.at w) part) part (places_of number scope s) (statement_comes s scope (reached c e Tested t) (within_loop spot.at w) part)
    statement_comes (DoWhile s spot e) scope t w part =
        let later = add_branching c spot.at e (statement_reached c s t) (start_place s (Some spot.at)) w.next part in
        then (add c s t (within_loop spot.at w) later) later part (places_of number scope s) (stop number scope spot ∷ []) (statement_comes s scope t (within_loop spot.at w) later) refl
    statement_comes (For begin spot e step s) scope t w part =
        let behind_head = condition_reached c e (start_reached c begin t) in
        let ways = within_loop (round_of step spot.at) w in
        let inner_scope = scope ++ brought_by_start begin in
        let body = add c s behind_head ways part in
        let later = add_step c step (statement_reached c s behind_head) spot.at body in
        let inside = start_place s (Some (round_of step spot.at)) in
        let now = add_head c begin t spot.at e inside w.next later in
        let ph = places_of_head number scope begin spot e in let ps = places_of_step number inner_scope step in
        then now body part (ph ++ ps) (places_of number inner_scope s) (then now later body ph ps (head_comes begin spot e scope t inside w.next later) (round_comes step inner_scope (statement_reached c s behind_head) spot.at body)) (statement_comes s inner_scope behind_head ways part)
    statement_comes (Switch spot e all) scope t w part =
        led spot (add_all c all (reached c e Anywhere t) (within_switch w) part) part (places_of_all number scope all) (statements_come all scope (reached c e Anywhere t) (within_switch w) part)
    statement_comes (Break spot) scope t w part = refl
    statement_comes (Continue spot) scope t w part = refl
    statement_comes (Return spot e) scope t w part = result_comes spot e scope t part

    pub statements_come : (all : TypedStatementTrees) (scope : List ℕ) (t : ℕ) (w : Ways) (part : Part) → Comes (add_all c all t w part) (places_of_all number scope all) part
    statements_come statement.none scope t w part = refl
    statements_come (statement.first s rest) scope t w part =
        let later = add_all c rest (statement_reached c s t) w part in
        then (add c s t (with_rest rest w) later) later part (places_of number scope s) (places_of_all number (scope ++ brought s) rest) (statement_comes s scope t (with_rest rest w) later) (statements_come rest (scope ++ brought s) (statement_reached c s t) w part)
    statements_come (case z rest) scope t w part = statements_come rest scope t w part
    statements_come (default rest) scope t w part = statements_come rest scope t w part
