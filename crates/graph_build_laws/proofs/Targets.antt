-- The flow of a statement leads to its places, and to those to which its ways lead.
use Rattle.std.proofs.Common.{ℕ, true, false, Bool, Option, Some, None, List, [], ◌∷◌, ◌++◌, if◌then◌else◌}
use Rattle.debug_records.specs.declared.source.Spot.{Spot}
use Rattle.c_tree.specs.TypedExpressions.{RvalueTree}
use Rattle.c_tree.specs.TypedStatements as statement
use Rattle.c_tree.specs.TypedStatements.{DeclaredTree, TypedStartTree, Nothing, Value, Declares, StepTree, TypedStatementTree, Block, Declaration, Empty, Run, If, IfElse, While, DoWhile, For, Switch, Break, Continue, Return, TypedStatementTrees, case, default}
use Rattle.c_places.specs.Flow.{has_default}
use Rattle.c_places.specs.Places.{Place, stop, brought, brought_by_start, places_of_declarators, places_of_start, places_of_head, places_of_step, places_of, places_of_all}
use Rattle.c_flow.specs.declared.edge.Edge.{Edge}
use Rattle.c_flow.specs.declared.edge.Ways.{Ways}
use Rattle.c_flow.specs.Flow.{edge, start_place, start_of_all, start_of_declarators, start_of_for, flow_of_declarators, flow_of_start, round_of, flow_of_step, flow_out, flow_to_labels, flow_past, within_loop, within_switch, ways_before as with_rest, flow_of, flow_of_all}
use Rattle.graph_core.specs.Paths.{Among, front, behind}

-- What holds of the positions of places, and of those to which the ways of a statement lead, holds of those between which its flow leads.
module _ (number : ℕ) (Fits : ℕ → Type 0) where
  abbrev pub AllFit : List Place → Type 0
  AllFit [] = Unit {0}
  AllFit (q ∷ more) = Fits q.spot.at × AllFit more

  abbrev pub WayFits : Option ℕ → Type 0
  WayFits None = Unit {0}
  WayFits (Some at) = Fits at

  abbrev pub EdgesFit : List Edge → Type 0
  EdgesFit [] = Unit {0}
  EdgesFit (e ∷ more) = (Fits e.from × Fits e.to) × EdgesFit more

  pub fit_front : (xs ys : List Place) → AllFit (xs ++ ys) → AllFit xs
  fit_front [] ys h = tt
  fit_front (x ∷ xs) ys h = (h.0, fit_front xs ys h.1)

  pub fit_back : (xs ys : List Place) → AllFit (xs ++ ys) → AllFit ys
  fit_back [] ys h = h
  fit_back (x ∷ xs) ys h = fit_back xs ys h.1

  pub edges_both : (xs ys : List Edge) → EdgesFit xs → EdgesFit ys → EdgesFit (xs ++ ys)
  edges_both [] ys h k = k
  edges_both (x ∷ xs) ys h k = (h.0, edges_both xs ys h.1 k)

  pub edge_fits : (from : ℕ) (to : Option ℕ) → Fits from → WayFits to → EdgesFit (edge from to)
  edge_fits from None h k = tt
  edge_fits from (Some to) h k = ((h, k), tt)

  pub edge_among : (all : List Edge) (e : Edge) → EdgesFit all → Among e all → Fits e.from × Fits e.to
  edge_among [] e h a = elim a [ ]
  edge_among (x ∷ all) e h front = h.0
  edge_among (x ∷ all) e h (behind a) = edge_among all e h.1 a

  -- where declarators begin
  declared_start : (all : List DeclaredTree) (scope : List ℕ) (next : Option ℕ) → AllFit (places_of_declarators number scope all) → WayFits next → WayFits (start_of_declarators all next)
  declared_start [] scope next h k = k
  declared_start (d ∷ more) scope next h k = h.0

  declared_flow : (all : List DeclaredTree) (scope : List ℕ) (next : Option ℕ) → AllFit (places_of_declarators number scope all) → WayFits next → EdgesFit (flow_of_declarators all next)
  declared_flow [] scope next h k = tt
  declared_flow (d ∷ more) scope next h k =
      edges_both (edge d.spot.at (start_of_declarators more next)) (flow_of_declarators more next) (edge_fits d.spot.at (start_of_declarators more next) h.0 (declared_start more (scope ++ d.variable ∷ []) next h.1 k))
      (declared_flow more (scope ++ d.variable ∷ []) next h.1 k)

  begin_flow : (begin : TypedStartTree) (scope : List ℕ) (head : ℕ) → AllFit (places_of_start number scope begin) → Fits head → EdgesFit (flow_of_start begin head)
  begin_flow Nothing scope head h k = tt
  begin_flow (Value spot e) scope head h k = ((h.0, k), tt)
  begin_flow (Declares all) scope head h k = declared_flow all scope (Some head) h k

  begin_start : (begin : TypedStartTree) (scope : List ℕ) (head : ℕ) → AllFit (places_of_start number scope begin) → Fits head → WayFits (start_of_for begin head)
  begin_start Nothing scope head h k = k
  begin_start (Value spot e) scope head h k = h.0
  begin_start (Declares all) scope head h k = declared_start all scope (Some head) h k

  -- of a `for` the first part, and its condition or head
  head_parts : (begin : TypedStartTree) (spot : Spot) (e : Option RvalueTree) (scope : List ℕ) → AllFit (places_of_head number scope begin spot e) → AllFit (places_of_start number scope begin) × Fits spot.at
  head_parts begin spot None scope h = (h.1, h.0)
  head_parts begin spot (Some e) scope h = (fit_front (places_of_start number scope begin) (stop number (scope ++ brought_by_start begin) spot ∷ []) h, (fit_back (places_of_start number scope begin) (stop number (scope ++ brought_by_start begin) spot ∷ []) h).0)

  round_fits : (step : Option StepTree) (scope : List ℕ) (head : ℕ) → AllFit (places_of_step number scope step) → Fits head → Fits (round_of step head)
  round_fits None scope head h k = k
  round_fits (Some s) scope head h k = h.0

  round_flow : (step : Option StepTree) (scope : List ℕ) (head : ℕ) → AllFit (places_of_step number scope step) → Fits head → EdgesFit (flow_of_step step head)
  round_flow None scope head h k = tt
  round_flow (Some s) scope head h k = ((h.0, k), tt)

  out_flow : (e : Option RvalueTree) (head : ℕ) (next : Option ℕ) → Fits head → WayFits next → EdgesFit (flow_out e head next)
  out_flow None head next h k = tt
  out_flow (Some c) head next h k = edge_fits head next h k

  past_flow : (from : ℕ) (all : TypedStatementTrees) (next : Option ℕ) → Fits from → WayFits next → EdgesFit (flow_past from all next)
  past_flow from all next h k = by (has_default all)
    where
      by : (b : Bool) → EdgesFit (if b then [] else edge from next)
      by true = tt
      by false = edge_fits from next h k

  mutual
    pub start_fits : (s : TypedStatementTree) (scope : List ℕ) (next : Option ℕ) → AllFit (places_of number scope s) → WayFits next → WayFits (start_place s next)
    start_fits (Block all) scope next h k = starts_fit all scope next h k
    start_fits (Declaration all) scope next h k = declared_start all scope next h k
    start_fits (Empty spot) scope next h k = h.0
    start_fits (Run spot e) scope next h k = h.0
    start_fits (If spot e s) scope next h k = h.0
    start_fits (IfElse spot e s r) scope next h k = h.0
    start_fits (While spot e s) scope next h k = h.0
    start_fits (DoWhile s spot e) scope next h k =
        start_fits s scope (Some spot.at) (fit_front (places_of number scope s) (stop number scope spot ∷ []) h) (fit_back (places_of number scope s) (stop number scope spot ∷ []) h).0
    start_fits (For begin spot e step s) scope next h k =
        let inner_scope = scope ++ brought_by_start begin in
        let ph = places_of_head number scope begin spot e in let ps = places_of_step number inner_scope step in
        let p = head_parts begin spot e scope (fit_front ph ps (fit_front (ph ++ ps) (places_of number inner_scope s) h)) in
        begin_start begin scope spot.at p.0 p.1
    start_fits (Switch spot e all) scope next h k = h.0
    start_fits (Break spot) scope next h k = h.0
    start_fits (Continue spot) scope next h k = h.0
    start_fits (Return spot e) scope next h k = h.0

    pub starts_fit : (all : TypedStatementTrees) (scope : List ℕ) (next : Option ℕ) → AllFit (places_of_all number scope all) → WayFits next → WayFits (start_of_all all next)
    starts_fit statement.none scope next h k = k
    starts_fit (statement.first s rest) scope next h k =
        start_fits s scope (start_of_all rest next) (fit_front (places_of number scope s) (places_of_all number (scope ++ brought s) rest) h)
        (starts_fit rest (scope ++ brought s) next (fit_back (places_of number scope s) (places_of_all number (scope ++ brought s) rest) h) k)
    starts_fit (case z rest) scope next h k = starts_fit rest scope next h k
    starts_fit (default rest) scope next h k = starts_fit rest scope next h k

  labels_flow : (from : ℕ) (all : TypedStatementTrees) (scope : List ℕ) (next : Option ℕ) → Fits from → AllFit (places_of_all number scope all) → WayFits next → EdgesFit (flow_to_labels from all next)
  labels_flow from statement.none scope next f h k = tt
  labels_flow from (statement.first s rest) scope next f h k = labels_flow from rest (scope ++ brought s) next f (fit_back (places_of number scope s) (places_of_all number (scope ++ brought s) rest) h) k
  labels_flow from (case z rest) scope next f h k = edges_both (edge from (start_of_all rest next)) (flow_to_labels from rest next) (edge_fits from (start_of_all rest next) f (starts_fit rest scope next h k)) (labels_flow from rest scope next f h k)
  labels_flow from (default rest) scope next f h k = edges_both (edge from (start_of_all rest next)) (flow_to_labels from rest next) (edge_fits from (start_of_all rest next) f (starts_fit rest scope next h k)) (labels_flow from rest scope next f h k)

  -- the ways of a statement
  pub record WaysFit (w : Ways) : Type 0 where
    pub next : WayFits w.next
    pub by_break : WayFits w.by_break
    pub by_continue : WayFits w.by_continue

  loop_ways : (round : ℕ) (w : Ways) → Fits round → WaysFit w → WaysFit (within_loop round w)
  loop_ways round w h k = record { next = h; by_break = k.next; by_continue = h }

  mutual
    pub flow_fits : (s : TypedStatementTree) (scope : List ℕ) (w : Ways) → AllFit (places_of number scope s) → WaysFit w → EdgesFit (flow_of w s)
    flow_fits (Block all) scope w h k = flows_fit all scope w h k
    flow_fits (Declaration all) scope w h k = declared_flow all scope w.next h k.next
    flow_fits (Empty spot) scope w h k = edge_fits spot.at w.next h.0 k.next
    flow_fits (Run spot e) scope w h k = edge_fits spot.at w.next h.0 k.next
    flow_fits (If spot e s) scope w h k =
        let e1 = edge spot.at (start_place s w.next) in let e2 = edge spot.at w.next in
        edges_both (e1 ++ e2) (flow_of w s) (edges_both e1 e2 (edge_fits spot.at (start_place s w.next) h.0 (start_fits s scope w.next h.1 k.next)) (edge_fits spot.at w.next h.0 k.next)) (flow_fits s scope w h.1 k)
    flow_fits (IfElse spot e s r) scope w h k =
        let hs = fit_front (places_of number scope s) (places_of number scope r) h.1 in let hr = fit_back (places_of number scope s) (places_of number scope r) h.1 in
        let e1 = edge spot.at (start_place s w.next) in let e2 = edge spot.at (start_place r w.next) in
        edges_both (e1 ++ e2 ++ flow_of w s) (flow_of w r)
        (edges_both (e1 ++ e2) (flow_of w s) (edges_both e1 e2 (edge_fits spot.at (start_place s w.next) h.0 (start_fits s scope w.next hs k.next)) (edge_fits spot.at (start_place r w.next) h.0 (start_fits r scope w.next hr k.next))) (flow_fits s scope w hs k))
        (flow_fits r scope w hr k)
    flow_fits (While spot e s) scope w h k =
        let e1 = edge spot.at (start_place s (Some spot.at)) in let e2 = edge spot.at w.next in
        edges_both (e1 ++ e2) (flow_of (within_loop spot.at w) s) (edges_both e1 e2 (edge_fits spot.at (start_place s (Some spot.at)) h.0 (start_fits s scope (Some spot.at) h.1 h.0)) (edge_fits spot.at w.next h.0 k.next))
        (flow_fits s scope (within_loop spot.at w) h.1 (loop_ways spot.at w h.0 k))
    flow_fits (DoWhile s spot e) scope w h k =
        let hs = fit_front (places_of number scope s) (stop number scope spot ∷ []) h in let hp = (fit_back (places_of number scope s) (stop number scope spot ∷ []) h).0 in
        let e1 = edge spot.at (start_place s (Some spot.at)) in let e2 = edge spot.at w.next in
        edges_both (e1 ++ e2) (flow_of (within_loop spot.at w) s) (edges_both e1 e2 (edge_fits spot.at (start_place s (Some spot.at)) hp (start_fits s scope (Some spot.at) hs hp)) (edge_fits spot.at w.next hp k.next))
        (flow_fits s scope (within_loop spot.at w) hs (loop_ways spot.at w hp k))
    flow_fits (For begin spot e step s) scope w h k =
        let inner_scope = scope ++ brought_by_start begin in
        let round = round_of step spot.at in
        let ph = places_of_head number scope begin spot e in let ps = places_of_step number inner_scope step in
        let front_h = fit_front (ph ++ ps) (places_of number inner_scope s) h in
        let hs = fit_back (ph ++ ps) (places_of number inner_scope s) h in
        let p = head_parts begin spot e scope (fit_front ph ps front_h) in
        let ht = fit_back ph ps front_h in
        let f = flow_of (within_loop round w) s in
        let at_round = round_fits step inner_scope spot.at ht p.1 in
        let fb = flow_of_start begin spot.at in let fi = edge spot.at (start_place s (Some round)) in let fo = flow_out e spot.at w.next in let fs = flow_of_step step spot.at in
        edges_both (fb ++ fi ++ fo ++ fs) f
        (edges_both (fb ++ fi ++ fo) fs
        (edges_both (fb ++ fi) fo (edges_both fb fi (begin_flow begin scope spot.at p.0 p.1) (edge_fits spot.at (start_place s (Some round)) p.1 (start_fits s inner_scope (Some round) hs at_round))) (out_flow e spot.at w.next p.1 k.next))
        (round_flow step inner_scope spot.at ht p.1))
        (flow_fits s inner_scope (within_loop round w) hs (loop_ways round w at_round k))
    flow_fits (Switch spot e all) scope w h k =
        let fl = flow_to_labels spot.at all w.next in let fp = flow_past spot.at all w.next in
        edges_both (fl ++ fp) (flow_of_all (within_switch w) all) (edges_both fl fp (labels_flow spot.at all scope w.next h.0 h.1 k.next) (past_flow spot.at all w.next h.0 k.next))
        (flows_fit all scope (within_switch w) h.1 (record { next = k.next; by_break = k.next; by_continue = k.by_continue }))
    flow_fits (Break spot) scope w h k = edge_fits spot.at w.by_break h.0 k.by_break
    flow_fits (Continue spot) scope w h k = edge_fits spot.at w.by_continue h.0 k.by_continue
    flow_fits (Return spot e) scope w h k = tt

    pub flows_fit : (all : TypedStatementTrees) (scope : List ℕ) (w : Ways) → AllFit (places_of_all number scope all) → WaysFit w → EdgesFit (flow_of_all w all)
    flows_fit statement.none scope w h k = tt
    flows_fit (statement.first s rest) scope w h k =
        let hs = fit_front (places_of number scope s) (places_of_all number (scope ++ brought s) rest) h in let hr = fit_back (places_of number scope s) (places_of_all number (scope ++ brought s) rest) h in
        edges_both (flow_of (with_rest rest w) s) (flow_of_all w rest) (flow_fits s scope (with_rest rest w) hs (record { next = starts_fit rest (scope ++ brought s) w.next hr k.next; by_break = k.by_break; by_continue = k.by_continue }))
        (flows_fit rest (scope ++ brought s) w hr k)
    flows_fit (case z rest) scope w h k = flows_fit rest scope w h k
    flows_fit (default rest) scope w h k = flows_fit rest scope w h k
