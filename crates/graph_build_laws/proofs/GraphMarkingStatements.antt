-- What passes the code of expressions holds behind the marker of each place of a statement, where it holds of each place to which the flow leads from there.
use Rattle.std.proofs.Common.{◌≡◌, ℕ, ◌+◌, ◌*◌, Bool, true, false, Option, Some, None, List, [], ◌∷◌, ◌++◌, refl, if◌then◌else◌}
use Rattle.std.specs.Prelude.{nat_le}
use Rattle.c_tree.specs.declared.object_type.Scalar.{Scalar}
use Rattle.c_tree.specs.declared.object_type.ObjectType.{ObjectType}
use Rattle.c_tree.specs.declared.object_type.ObjectType.TheVariants as of-object
use Rattle.c_tree.specs.TypedExpressions.{RvalueTree}
use Rattle.c_tree.specs.TypedStatements as statement
use Rattle.c_tree.specs.TypedStatements.{InitialTree, Zero, Scalar as scalar-initial, Elements, Literal, DeclaredTree, TypedStartTree, Nothing, Value, Declares, StepTree, TypedStatementTree, Block, Declaration, Empty, Run, If, IfElse, While, DoWhile, For, Switch, Break, Continue, Return, TypedStatementTrees, case, default}
use Rattle.c_type_rules.specs.Integers.{scalar_size}
use Rattle.c_flow.specs.declared.edge.Edge.{Edge}
use Rattle.c_flow.specs.declared.edge.Ways.{Ways}
use Rattle.c_flow.specs.Flow.{edge, start_place, start_of_all, start_of_declarators, flow_of_declarators, flow_of_start, round_of, flow_of_step, flow_out, flow_to_labels, flow_past, within_loop, within_switch, ways_before as with_rest, flow_of, flow_of_all}
use Rattle.graph_core.specs.declared.block.Comparison.TheVariants as branch
use Rattle.graph_core.specs.Graphs as unit
use Rattle.graph_core.specs.Graphs.{Operand, Instruction, Marker, Automatic, Store, CopyWords}
use Rattle.graph_core.specs.Paths.{Among, front, is_marker}
use Rattle.graph_build_names.specs.Conversions.{unsigned_bits}
use Rattle.graph_build_layout.specs.declared.laid.Use.TheVariants.{Anywhere, Tested}
use Rattle.graph_build_names.specs.Names.{scalar_of, object_of, pick}
use Rattle.graph_build_layout.specs.Layout.{laid}
use Rattle.graph_build_steps.specs.Rules.{element_of}
use Rattle.graph_build_steps.specs.Drafts.{Made, Goal, To, Unused, Either, instruction_before, ending, note, with_inner_block, label_of}
use Rattle.graph_build_steps.specs.Steps.{or_zero}
use Rattle.graph_build_code.specs.Code.{code}
use Rattle.graph_build_statements.specs.Coding.{Coding, Part, place_of, block_of, begun, going, label_for, with_end, placed_at, coded}
use Rattle.graph_build_statements.specs.Reached.{bare, reached, initial_reached, start_reached, condition_reached, statement_reached}
use Rattle.graph_build_statements.specs.Declaring.{object_type_of, words_of, cleared, store_elements, copied_words, declare_single, declare_array, declare_kept, declare_scalar, declare_as, declare, add_declared}
use Rattle.graph_build_statements.specs.Forms.{default_start, tests, add_run, add_going, add_branching, add_start, add_step, add_head, add_result, add_switch, add, add_all}
use Rattle.graph_build_laws.specs.Passing.{Grows, IsPassing}
use Rattle.graph_build_laws.proofs.GraphMarkingPieces.{grows_on, grows_none, closed_grows, Carried, Before, leads_on, before_leads, stays}
use Rattle.graph_build_laws.proofs.Passes.{code_passes}
use Rattle.graph_core.proofs.Among.{among_left as in_front, among_right as in_back}

-- A block is what was made in a place, behind its marker, from inner blocks that stand first among these.
pub record IsMadeOf (Has : (p : ℕ) → Made → Type 0) (inner : List unit.Block) (b : unit.Block) : Type 0 where
  pub place : ℕ
  pub made : Made
  pub no_place : b.place ≡ None
  pub instructions : b.instructions ≡ Marker place ∷ made.ops
  pub ends : b.end ≡ made.end
  pub grown : Grows made.inner inner
  pub has : Has place made

abbrev pub AreMadeOf : ((p : ℕ) → Made → Type 0) → (inner : List unit.Block) → List unit.Block → Type 0
AreMadeOf Has inner [] = Unit {0}
AreMadeOf Has inner (b ∷ more) = IsMadeOf Has inner b × AreMadeOf Has inner more

pub made_more : (Has : (p : ℕ) → Made → Type 0) (xs ys : List unit.Block) → Grows xs ys → (all : List unit.Block) → AreMadeOf Has xs all → AreMadeOf Has ys all
made_more Has xs ys g [] h = tt
made_more Has xs ys g (b ∷ more) h =
    (record { place = h.0.place; made = h.0.made; no_place = h.0.no_place; instructions = h.0.instructions; ends = h.0.ends; grown = grows_on h.0.made.inner xs ys h.0.grown g; has = h.0.has }, made_more Has xs ys g more h.1)

module _ (c : Coding) (Has : (p : ℕ) → Made → Type 0) (Leads : (p label : ℕ) → List unit.Block → Type 0) (Stand : List unit.Block → Type 0) (passing : (p : ℕ) → IsPassing p c.top (Has p) (Leads p) Stand) where
  -- The place to which an edge leads may be led to from the one from which it leads.
  abbrev pub HoldsAlong : Edge → Type 0
  HoldsAlong e = (inner : List unit.Block) → Stand inner → Leads (place_of c e.from) (block_of c e.to) inner

  abbrev pub HoldAlong : List Edge → Type 0
  HoldAlong edges = (e : Edge) → Among e edges → HoldsAlong e

  -- the property holds of each block of a part that is a place's
  abbrev pub Holds : Part → Type 0
  Holds part = Stand part.inner × AreMadeOf Has part.inner part.placed

  abbrev pub Adds : Part → Part → Type 0
  Adds now part = Grows part.inner now.inner × (Holds part → Holds now)

  pub adds_on : (a b d : Part) → Adds a b → Adds b d → Adds a d
  adds_on a b d h k = (grows_on d.inner b.inner a.inner k.0 h.0, λ z. h.1 (k.1 z))

  pub no_part : (part : Part) → Adds part part
  no_part part = (grows_none part.inner, λ z. z)

  abbrev pub P : (at : ℕ) → ℕ
  P at = place_of c at

  abbrev pub Brings : (at : ℕ) → Made → Goal → Type 0
  Brings at m g = Carried (P at) c.top (Has (P at)) (Leads (P at)) Stand (passing (P at)) m g

  abbrev pub Brings' : (at : ℕ) → Made → Made → Type 0
  Brings' at m k = Before (P at) c.top (Has (P at)) (Leads (P at)) Stand (passing (P at)) m k

  pub steps_on : (at : ℕ) (m k l : Made) → Brings' at m k → Brings' at k l → Brings' at m l
  steps_on at m k l a b = leads_on (P at) c.top (Has (P at)) (Leads (P at)) Stand (passing (P at)) m k l a b

  pub one_step : (at : ℕ) (i : Instruction) (m : Made) → is_marker i ≡ false → Brings' at (instruction_before i m) m
  one_step at i m h = before_leads (P at) c.top (Has (P at)) (Leads (P at)) Stand (passing (P at)) i m h

  pub no_step : (at : ℕ) (m : Made) → Brings' at m m
  no_step at m = stays (P at) c.top (Has (P at)) (Leads (P at)) Stand (passing (P at)) m

  code_brings : (at : ℕ) (e : RvalueTree) (t : ℕ) (g : Goal) → Brings at (code c.names (P at) c.top e t g) g
  code_brings at e t g = code_passes (P at) c.top (Has (P at)) (Leads (P at)) Stand (passing (P at)) c.names e t g

  coded_carries : (at : ℕ) (e : RvalueTree) (t : ℕ) (g : Goal) → Brings at (coded c at e t g) g
  coded_carries at e t g = code_brings at e (begun c t) g

  -- to a place that follows, or to an end that nothing reaches
  pub going_has : (at : ℕ) (next : Option ℕ) (inner : List unit.Block) → HoldAlong (edge at next) → Stand inner → Has (P at) (going c next inner)
  going_has at (Some to) inner h st = (passing (P at)).jump (block_of c to) inner (h (record { from = at; to = to }) front inner st)
  going_has at None inner h st = (passing (P at)).end None inner st

  pub going_grows : (next : Option ℕ) (inner : List unit.Block) → Grows inner (going c next inner).inner
  going_grows (Some to) inner = grows_none inner
  going_grows None inner = grows_none inner

  -- a label to branch to
  pub no_end : (at : ℕ) (inner : List unit.Block) → Stand inner → Has (P at) (ending (unit.Return None) inner)
  no_end at inner st = (passing (P at)).end None inner st

  end_grows : (at : ℕ) (next : Option ℕ) (inner : List unit.Block) → Grows inner (with_end c at next inner)
  end_grows at (Some to) inner = grows_none inner
  end_grows at None inner = closed_grows (P at) (ending (unit.Return None) inner)

  end_stands : (at : ℕ) (next : Option ℕ) (inner : List unit.Block) → Stand inner → Stand (with_end c at next inner)
  end_stands at (Some to) inner st = st
  end_stands at None inner st = (passing (P at)).shut (ending (unit.Return None) inner) (no_end at inner st)

  end_leads : (at : ℕ) (next : Option ℕ) (inner : List unit.Block) → Stand inner → HoldAlong (edge at next) → Leads (P at) (label_for c next inner) (with_end c at next inner)
  end_leads at (Some to) inner st h = h (record { from = at; to = to }) front inner st
  end_leads at None inner st h = (passing (P at)).close (ending (unit.Return None) inner) (no_end at inner st)

  end_keeps : (at : ℕ) (next : Option ℕ) (inner : List unit.Block) (l : ℕ) → Stand inner → Leads (P at) l inner → Leads (P at) l (with_end c at next inner)
  end_keeps at (Some to) inner l st h = h
  end_keeps at None inner l st h = (passing (P at)).keep (ending (unit.Return None) inner) l inner (grows_none inner) (no_end at inner st) h

  -- the block of a place
  pub place_adds : (at : ℕ) (m : Made) (part : Part) → Grows part.inner m.inner → (Stand part.inner → Has (P at) m) → Adds (placed_at c at m part.placed) part
  place_adds at m part g h = (
    g,
    λ z. (
        let has = h z.0 in
        ((passing (P at)).stands m has, (record { place = P at; made = m; no_place = refl; instructions = refl; ends = refl; grown = grows_none m.inner; has = has }, made_more Has part.inner m.inner g part.placed z.1))),
  )

  run_adds : (at : ℕ) (e : RvalueTree) (t : ℕ) (next : Option ℕ) (part : Part) → HoldAlong (edge at next) → Adds (add_run c at e t next part) part
  run_adds at e t next part h =
      let go = going c next part.inner in let x = coded_carries at e t (Unused go) in
      place_adds at (coded c at e t (Unused go)) part (grows_on part.inner go.inner (coded c at e t (Unused go)).inner (going_grows next part.inner) x.0) (λ st. x.1 (going_has at next part.inner h st))

  going_adds : (at : ℕ) (next : Option ℕ) (part : Part) → HoldAlong (edge at next) → Adds (add_going c at next part) part
  going_adds at next part h = place_adds at (going c next part.inner) part (going_grows next part.inner) (going_has at next part.inner h)

  branching_adds : (at : ℕ) (e : RvalueTree) (t : ℕ) (one other : Option ℕ) (part : Part) → HoldAlong (edge at one) → HoldAlong (edge at other) → Adds (add_branching c at e t one other part) part
  branching_adds at e t one other part h k =
      let ends = with_end c at other part.inner in
      let all = with_end c at one ends in
      let g = Either (label_for c one ends) (label_for c other part.inner) all in
      let x = coded_carries at e t g in
      place_adds at (coded c at e t g) part (grows_on part.inner all (coded c at e t g).inner (grows_on part.inner ends all (end_grows at other part.inner) (end_grows at one ends)) x.0)
      (λ st. (let s = end_stands at other part.inner st in x.1 (end_leads at one ends s h, end_keeps at one ends (label_for c other part.inner) s (end_leads at other part.inner st k))))

  -- declarators
  cleared_leads : (at object bytes covered : ℕ) (m : Made) → Brings' at (cleared object bytes covered m) m
  cleared_leads at object bytes covered m = go (nat_le (words_of bytes) covered)
    where
      go : (b : Bool) → Brings' at (if b then m else instruction_before (unit.Zero object (words_of bytes)) m) m
      go true = no_step at m
      go false = one_step at (unit.Zero object (words_of bytes)) m refl

  abbrev code_from : (at : ℕ) → RvalueTree → (t : ℕ) → Made → Made
  code_from at e t m = code c.names (place_of c at) c.top e t (To None m)

  store_leads : (at : ℕ) (i : Instruction) (e : RvalueTree) (t : ℕ) (m : Made) → is_marker i ≡ false → Brings' at (code_from at e t (instruction_before i m)) m
  store_leads at i e t m h =
      steps_on at _ (instruction_before i m) m (code_brings at e t (To None (instruction_before i m)))
      (one_step at i m h)

  elements_lead : (at : ℕ) (s : Scalar) (object index : ℕ) (all : List RvalueTree) (t : ℕ) (m : Made) → Brings' at (store_elements c at s object index all t m) m
  elements_lead at s object index [] t m = no_step at m
  elements_lead at s object index (e ∷ more) t m =
      let r = laid c.names (bare e) Anywhere t in
      let rest = store_elements c at s object (index + 1) more (pick c.names t r.top) m in
      steps_on at _ rest m (store_leads at (Store (element_of s) (Automatic object (index * scalar_size s)) r.value) (bare e) t rest refl) (elements_lead at s object (index + 1) more (pick c.names t r.top) m)

  single_leads : (at object : ℕ) (s : Scalar) (i : InitialTree) (t : ℕ) (m : Made) → Brings' at (declare_single c at object s i t m) m
  single_leads at object s Zero t m = one_step at (Store (element_of s) (Automatic object 0) (unit.Constant 0)) m refl
  single_leads at object s (scalar-initial e) t m = store_leads at (Store (element_of s) (Automatic object 0) (laid c.names e Anywhere (begun c t)).value) e (begun c t) m refl
  single_leads at object s (Elements all) t m = cleared_leads at object (scalar_size s) 0 m
  single_leads at object s (Literal k) t m = cleared_leads at object (scalar_size s) 0 m

  array_leads : (at object : ℕ) (s : Scalar) (bytes : ℕ) (i : InitialTree) (t : ℕ) (m : Made) → Brings' at (declare_array c at object s bytes i t m) m
  array_leads at object s bytes (Elements all) t m =
      let rest = store_elements c at s object 0 all (begun c t) m in
      steps_on at _ rest m (cleared_leads at object bytes 0 rest) (elements_lead at s object 0 all (begun c t) m)
  array_leads at object s bytes (Literal k) t m =
      let rest = instruction_before (CopyWords object k (copied_words c k bytes)) m in
      steps_on at _ rest m (cleared_leads at object bytes (copied_words c k bytes) rest)
      (one_step at (CopyWords object k (copied_words c k bytes)) m refl)
  array_leads at object s bytes Zero t m = cleared_leads at object bytes 0 m
  array_leads at object s bytes (scalar-initial e) t m = cleared_leads at object bytes 0 m

  kept_leads : (at object : ℕ) (of : ObjectType) (i : InitialTree) (t : ℕ) (m : Made) → Brings' at (declare_kept c at object of i t m) m
  kept_leads at object (of-object.Scalar s) i t m = single_leads at object s i t m
  kept_leads at object (of-object.Array s count) i t m = array_leads at object s (scalar_size s * count) i t m

  note_leads : (at x : ℕ) (m : Made) → Brings' at (note x m) m
  note_leads at x m = one_step at (unit.Note x (unit.Is (unit.Of (unit.Name x)))) m refl

  moved_note : (at x : ℕ) (m : Made) → Brings' at (instruction_before (unit.Move x (unit.Constant 0)) (note x m)) m
  moved_note at x m = steps_on at _ (note x m) m (one_step at (unit.Move x (unit.Constant 0)) (note x m) refl) (note_leads at x m)

  scalar_leads : (at x : ℕ) (i : InitialTree) (t : ℕ) (m : Made) → Brings' at (declare_scalar c at x i t m) m
  scalar_leads at x (scalar-initial e) t m = steps_on at _ (note x m) m (coded_carries at e t (To (Some x) (note x m))) (note_leads at x m)
  scalar_leads at x Zero t m = moved_note at x m
  scalar_leads at x (Elements all) t m = moved_note at x m
  scalar_leads at x (Literal k) t m = moved_note at x m

  declare_leads : (o : Option ℕ) (d : DeclaredTree) (t : ℕ) (m : Made) → Brings' d.spot.at (declare_as c o d t m) m
  declare_leads (Some x) d t m = scalar_leads d.spot.at x d.initial t m
  declare_leads None d t m = kept_leads d.spot.at (or_zero (object_of c.names d.variable)) (object_type_of c.program d.variable) d.initial t m

  pub parts : (xs ys : List Edge) → HoldAlong (xs ++ ys) → HoldAlong xs × HoldAlong ys
  parts xs ys h = (λ e a. h e (in_front e xs ys a), λ e a. h e (in_back e xs ys a))

  declared_add : (all : List DeclaredTree) (t : ℕ) (next : Option ℕ) (part : Part) → HoldAlong (flow_of_declarators all next) → Adds (add_declared c all t next part) part
  declared_add [] t next part h = no_part part
  declared_add (d ∷ more) t next part h =
      let o = scalar_of c.names d.variable in
      let t' = initial_reached c o d.initial t in
      let later = add_declared c more t' next part in
      let to = start_of_declarators more next in
      let k = parts (edge d.spot.at to) (flow_of_declarators more next) h in
      let go = going c to later.inner in
      let x = declare_leads o d t go in
      adds_on (add_declared c (d ∷ more) t next part) later part (place_adds d.spot.at (declare c d t go) later (grows_on later.inner go.inner (declare c d t go).inner (going_grows to later.inner) x.0) (λ st. x.1 (going_has d.spot.at to later.inner k.0 st)))
      (declared_add more t' next part k.1)

  -- the parts of a `for`
  begin_adds : (begin : TypedStartTree) (t head : ℕ) (part : Part) → HoldAlong (flow_of_start begin head) → Adds (add_start c begin t head part) part
  begin_adds Nothing t head part h = no_part part
  begin_adds (Value spot e) t head part h = run_adds spot.at e t (Some head) part h
  begin_adds (Declares all) t head part h = declared_add all t (Some head) part h

  round_adds : (step : Option StepTree) (t head : ℕ) (part : Part) → HoldAlong (flow_of_step step head) → Adds (add_step c step t head part) part
  round_adds None t head part h = no_part part
  round_adds (Some s) t head part h = run_adds s.spot.at s.value t (Some head) part h

  head_adds : (begin : TypedStartTree) (t at : ℕ) (e : Option RvalueTree) (inside next : Option ℕ) (part : Part) → HoldAlong (flow_of_start begin at) → HoldAlong (edge at inside) → HoldAlong (flow_out e at next) → Adds (add_head c begin t at e inside next part) part
  head_adds begin t at None inside next part h k l = adds_on (add_going c at inside (add_start c begin t at part)) (add_start c begin t at part) part (going_adds at inside (add_start c begin t at part) k) (begin_adds begin t at part h)
  head_adds begin t at (Some e) inside next part h k l =
      let later = add_branching c at e (start_reached c begin t) inside next part in adds_on (add_start c begin t at later) later part (begin_adds begin t at later h) (branching_adds at e (start_reached c begin t) inside next part k l)

  result_adds : (at : ℕ) (e : Option RvalueTree) (t : ℕ) (part : Part) → Adds (add_result c at e t part) part
  result_adds at None t part = place_adds at (ending (unit.Return None) part.inner) part (grows_none part.inner) (no_end at part.inner)
  result_adds at (Some e) t part =
      let a = Some (laid c.names e Anywhere (begun c t)).value in
      let m = ending (unit.Return a) part.inner in
      let x = coded_carries at e t (To None m) in
      place_adds at (coded c at e t (To None m)) part x.0 (λ st. x.1 ((passing (P at)).end a part.inner st))

  -- the tests of a `switch`
  tests_have : (at : ℕ) (a : Operand) (all : TypedStatementTrees) (next other : Option ℕ) (inner : List unit.Block) → HoldAlong (flow_to_labels at all next) → HoldAlong (edge at other) →
      Grows inner (tests c at a all next other inner).inner × (Stand inner → Has (P at) (tests c at a all next other inner))
  tests_have at a statement.none next other inner h k = (going_grows other inner, going_has at other inner k)
  tests_have at a (statement.first s rest) next other inner h k = tests_have at a rest next other inner h k
  tests_have at a (default rest) next other inner h k = tests_have at a rest next other inner (parts (edge at (start_of_all rest next)) (flow_to_labels at rest next) h).1 k
  tests_have at a (case z rest) next other inner h k =
      let to = start_of_all rest next in
      let l = parts (edge at to) (flow_to_labels at rest next) h in
      let ends = with_end c at to inner in
      let m = tests c at a rest next other ends in
      let x = tests_have at a rest next other ends l.1 k in (
        grows_on inner ends (with_inner_block (P at) m) (end_grows at to inner) (grows_on ends m.inner (with_inner_block (P at) m) x.0 (closed_grows (P at) m)),
        λ st. (
            let has = x.1 (end_stands at to inner st) in
            (passing (P at)).branch branch.Equal a (unit.Constant (unsigned_bits z)) (label_for c to inner) (label_of c.top m) (with_inner_block (P at) m)
            ((passing (P at)).keep m (label_for c to inner) ends x.0 has (end_leads at to inner st l.0)) ((passing (P at)).close m has)),
      )

  -- where `default` leads is a step of the flow
  default_of : (at : ℕ) (all : TypedStatementTrees) (next : Option ℕ) → HoldAlong (flow_to_labels at all next) → HoldAlong (flow_past at all next) → HoldAlong (edge at (default_start all next))
  default_of at statement.none next h k = k
  default_of at (statement.first s rest) next h k = default_of at rest next h k
  default_of at (case z rest) next h k = default_of at rest next (parts (edge at (start_of_all rest next)) (flow_to_labels at rest next) h).1 k
  default_of at (default rest) next h k = (parts (edge at (start_of_all rest next)) (flow_to_labels at rest next) h).0

  switch_adds : (at : ℕ) (e : RvalueTree) (all : TypedStatementTrees) (t : ℕ) (next : Option ℕ) (part : Part) → HoldAlong (flow_to_labels at all next) → HoldAlong (flow_past at all next) → Adds (add_switch c at e all t next part) part
  switch_adds at e all t next part h k =
      let a = (laid c.names e Anywhere (begun c t)).value in
      let other = default_start all next in
      let m = tests c at a all next other part.inner in
      let y = tests_have at a all next other part.inner h (default_of at all next h k) in
      let x = coded_carries at e t (To None m) in
      place_adds at (coded c at e t (To None m)) part (grows_on part.inner m.inner (coded c at e t (To None m)).inner y.0 x.0) (λ st. x.1 (y.1 st))

  mutual
    pub statement_adds : (s : TypedStatementTree) (t : ℕ) (w : Ways) (part : Part) → HoldAlong (flow_of w s) → Adds (add c s t w part) part
    statement_adds (Block all) t w part h = statements_add all t w part h
    statement_adds (Declaration all) t w part h = declared_add all t w.next part h
    statement_adds (Empty spot) t w part h = going_adds spot.at w.next part h
    statement_adds (Run spot e) t w part h = run_adds spot.at e t w.next part h
    statement_adds (If spot e s) t w part h =
        let e1 = edge spot.at (start_place s w.next) in let e2 = edge spot.at w.next in
        let k = parts (e1 ++ e2) (flow_of w s) h in
        let l = parts e1 e2 k.0 in
        let later = add c s (reached c e Tested t) w part in
        adds_on (add c (If spot e s) t w part) later part (branching_adds spot.at e t (start_place s w.next) w.next later l.0 l.1) (statement_adds s (reached c e Tested t) w part k.1)
    statement_adds (IfElse spot e s r) t w part h =
        let e1 = edge spot.at (start_place s w.next) in let e2 = edge spot.at (start_place r w.next) in
        let k = parts (e1 ++ e2 ++ flow_of w s) (flow_of w r) h in
        let l = parts (e1 ++ e2) (flow_of w s) k.0 in
        let m = parts e1 e2 l.0 in
        let behind_s = statement_reached c s (reached c e Tested t) in
        let last = add c r behind_s w part in
        let later = add c s (reached c e Tested t) w last in
        adds_on (add c (IfElse spot e s r) t w part) later part (branching_adds spot.at e t (start_place s w.next) (start_place r w.next) later m.0 m.1) (adds_on later last part (statement_adds s (reached c e Tested t) w last l.1) (statement_adds r behind_s w part k.1))
    statement_adds (While spot e s) t w part h =
        let e1 = edge spot.at (start_place s (Some spot.at)) in let e2 = edge spot.at w.next in
        let k = parts (e1 ++ e2) (flow_of (within_loop spot.at w) s) h in
        let l = parts e1 e2 k.0 in
        let later = add c s (reached c e Tested t) (within_loop spot.at w) part in
        adds_on (add c (While spot e s) t w part) later part (branching_adds spot.at e t (start_place s (Some spot.at)) w.next later l.0 l.1) (statement_adds s (reached c e Tested t) (within_loop spot.at w) part k.1)
    statement_adds (DoWhile s spot e) t w part h =
        let e1 = edge spot.at (start_place s (Some spot.at)) in let e2 = edge spot.at w.next in
        let k = parts (e1 ++ e2) (flow_of (within_loop spot.at w) s) h in
        let l = parts e1 e2 k.0 in
        let later = add_branching c spot.at e (statement_reached c s t) (start_place s (Some spot.at)) w.next part in
        adds_on (add c (DoWhile s spot e) t w part) later part (statement_adds s t (within_loop spot.at w) later k.1) (branching_adds spot.at e (statement_reached c s t) (start_place s (Some spot.at)) w.next part l.0 l.1)
    statement_adds (For begin spot e step s) t w part h =
        let round = round_of step spot.at in
        let inside = start_place s (Some round) in
        let f = flow_of (within_loop round w) s in
        let fb = flow_of_start begin spot.at in let fi = edge spot.at inside in let fo = flow_out e spot.at w.next in let fs = flow_of_step step spot.at in
        let k = parts (fb ++ fi ++ fo ++ fs) f h in
        let l = parts (fb ++ fi ++ fo) fs k.0 in
        let m = parts (fb ++ fi) fo l.0 in
        let o = parts fb fi m.0 in
        let behind_head = condition_reached c e (start_reached c begin t) in
        let body = add c s behind_head (within_loop round w) part in
        let later = add_step c step (statement_reached c s behind_head) spot.at body in
        adds_on (add c (For begin spot e step s) t w part) later part (head_adds begin t spot.at e inside w.next later o.0 o.1 m.1) (adds_on later body part (round_adds step (statement_reached c s behind_head) spot.at body l.1) (statement_adds s behind_head (within_loop round w) part k.1))
    statement_adds (Switch spot e all) t w part h =
        let fl = flow_to_labels spot.at all w.next in let fp = flow_past spot.at all w.next in
        let k = parts (fl ++ fp) (flow_of_all (within_switch w) all) h in
        let l = parts fl fp k.0 in
        let later = add_all c all (reached c e Anywhere t) (within_switch w) part in
        adds_on (add c (Switch spot e all) t w part) later part (switch_adds spot.at e all t w.next later l.0 l.1) (statements_add all (reached c e Anywhere t) (within_switch w) part k.1)
    statement_adds (Break spot) t w part h = going_adds spot.at w.by_break part h
    statement_adds (Continue spot) t w part h = going_adds spot.at w.by_continue part h
    statement_adds (Return spot e) t w part h = result_adds spot.at e t part

    pub statements_add : (all : TypedStatementTrees) (t : ℕ) (w : Ways) (part : Part) → HoldAlong (flow_of_all w all) → Adds (add_all c all t w part) part
    statements_add statement.none t w part h = no_part part
    statements_add (statement.first s rest) t w part h =
        let k = parts (flow_of (with_rest rest w) s) (flow_of_all w rest) h in
        let later = add_all c rest (statement_reached c s t) w part in
        adds_on (add_all c (statement.first s rest) t w part) later part (statement_adds s t (with_rest rest w) later k.0) (statements_add rest (statement_reached c s t) w part k.1)
    statements_add (case z rest) t w part h = statements_add rest t w part h
    statements_add (default rest) t w part h = statements_add rest t w part h
