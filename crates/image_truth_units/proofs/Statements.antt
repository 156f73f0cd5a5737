-- The blocks of a function's places have a property of the rules behind their markers, where it holds of each place to which the flow leads from there.
use Rattle.std.proofs.Common.{◌≡◌, ℕ, ◌+◌, ◌*◌, ◌≤◌, ◌<◌, Bool, true, false, Option, Some, None, List, [], ◌∷◌, ◌++◌, refl, arith, if◌then◌else◌}
use Rattle.std.specs.Prelude.{nat_le}
use Rattle.c_tree.specs.declared.object_type.Scalar.{Scalar}
use Rattle.c_tree.specs.declared.object_type.ObjectType.{ObjectType}
use Rattle.c_tree.specs.declared.object_type.ObjectType.TheVariants as of-object
use Rattle.c_tree.specs.declared.object_type.Object.TheVariants as object
use Rattle.c_tree.specs.TypedExpressions as expression
use Rattle.c_tree.specs.TypedExpressions.{RvalueTree}
use Rattle.c_tree.specs.TypedStatements as statement
use Rattle.c_tree.specs.TypedStatements.{InitialTree, Zero, Scalar as scalar-initial, Elements, Literal, DeclaredTree, TypedStartTree, Nothing, Value, Declares, StepTree, TypedStatementTree, Block, Declaration, Empty, Run, If, IfElse, While, DoWhile, For, Switch, Break, Continue, Return, TypedStatementTrees, case, default}
use Rattle.c_type_rules.specs.Integers.{scalar_size}
use Rattle.c_flow.specs.declared.assigned.Assigned.{Assigned}
use Rattle.c_flow.specs.declared.edge.Edge.{Edge}
use Rattle.c_flow.specs.declared.edge.Ways.{Ways}
use Rattle.c_flow.specs.Assigns.{assigns_object, assigned_objects, assigned_by_values, assigned_by_initial, assigned_by_option, assigned_by_declarators, assigned_by_start, assigned_by_step, assigned_by, assigned_by_statements}
use Rattle.c_flow.specs.Flow.{edge, start_place, start_of_all, start_of_declarators, flow_of_declarators, flow_of_start, round_of, flow_of_step, flow_out, flow_to_labels, flow_past, within_loop, within_switch, ways_before as with_rest, flow_of, flow_of_all}
use Rattle.graph_core.specs.declared.block.Comparison.TheVariants as branch
use Rattle.graph_core.specs.Graphs as unit
use Rattle.graph_core.specs.Graphs.{Operand, Automatic, Store, CopyWords}
use Rattle.graph_core.specs.Paths.{Among, front, behind}
use Rattle.graph_build_names.specs.Conversions.{unsigned_bits}
use Rattle.graph_build_layout.specs.declared.laid.Use.TheVariants.{Anywhere, Tested}
use Rattle.graph_build_layout.specs.declared.laid.Use.TheVariants as use-of
use Rattle.graph_build_names.specs.Names.{scalar_of, object_of, pick}
use Rattle.graph_build_names.specs.Writes.{writes}
use Rattle.graph_build_layout.specs.Layout.{laid}
use Rattle.graph_build_steps.specs.Rules.{element_of}
use Rattle.graph_build_steps.specs.Drafts.{Made, Goal, To, Unused, Either, use_of, instruction_before, ending, note, with_inner_block, label_of}
use Rattle.graph_build_steps.specs.Steps.{or_zero}
use Rattle.graph_build_code.specs.Code.{code}
use Rattle.graph_build_statements.specs.Coding.{Coding, Part, place_of, block_of, begun, going, label_for, with_end, placed_at, coded}
use Rattle.graph_build_statements.specs.Reached.{bare, reached, initial_reached, start_reached, condition_reached, statement_reached}
use Rattle.graph_build_statements.specs.Declaring.{object_type_of, words_of, cleared, store_elements, copied_words, declare_single, declare_array, declare_kept, declare_scalar, declare_as, declare, add_declared}
use Rattle.graph_build_statements.specs.Forms.{default_start, tests, add_run, add_going, add_branching, add_start, add_step, add_head, add_result, add_switch, add, add_all}
use Rattle.graph_build_laws.proofs.Temporaries.{behind as laid_behind}
use Rattle.graph_build_laws.proofs.Statements.{reached_more, condition_more, statement_more}
use Rattle.graph_build_laws.proofs.Written.{NamesFew}
use Rattle.graph_build_laws.specs.Passing.{Grows}
use Rattle.graph_build_laws.proofs.GraphMarkingPieces.{grows_on, grows_none}
use Rattle.graph_build_laws.proofs.GraphMarkingStatements.{AreMadeOf, made_more}
use Rattle.image_truth_units.proofs.Rules.{stands, IsNoting, Marking}
use Rattle.image_truth_units.proofs.Pieces.{For as ForGoal}
use Rattle.image_truth_units.proofs.Expressions.{code_has}
use Rattle.image_truth_units.proofs.Growing.{code_grows, going_grows, end_grows, declare_grows, tests_grow}
use Rattle.image_truth_units.proofs.UnitFactsAssigned.{writes_is, among_front, among_back}

-- A property of the rules for each place of a function.
pub record Marks : Type 1 where
  pub code : Coding
  pub own : ℕ → Bool
  pub may : (p y : ℕ) → Type 0
  pub Has : (p : ℕ) → Option ℕ → Made → Type 0
  pub Leads : (p label : ℕ) → List unit.Block → Type 0
  pub Stand : List unit.Block → Type 0
  pub few : NamesFew code.names code.scalars
  pub apart : (y : ℕ) → y < code.scalars → own y ≡ false
  pub rules : (p : ℕ) → IsNoting code.scalars p code.top own (may p) (Has p) (Leads p) Stand

module _ (x : Marks) where
  abbrev pub c : Coding
  c = x.code

  abbrev pub P : (at : ℕ) → ℕ
  P at = place_of c at

  -- the property in the place at a position
  abbrev pub marking : (at : ℕ) → Marking
  marking at = record {
    names = c.names;
    scalars = c.scalars;
    place = place_of c at;
    top = c.top;
    own = x.own;
    may = x.may (place_of c at);
    Has = x.Has (place_of c at);
    Leads = x.Leads (place_of c at);
    Stand = x.Stand;
    few = x.few;
    apart = x.apart;
    rules = x.rules (place_of c at);
  }

  -- what is made in the place at a position
  abbrev pub M : (at : ℕ) → Made → Type 0
  M at m = x.Has (place_of c at) None m

  -- The place to which an edge leads may be led to from the one from which it leads.
  abbrev pub HoldsAlong : Edge → Type 0
  HoldsAlong e = (inner : List unit.Block) → x.Stand inner → x.Leads (place_of c e.from) (block_of c e.to) inner

  abbrev pub HoldAlong : List Edge → Type 0
  HoldAlong edges = (e : Edge) → Among e edges → HoldsAlong e

  -- the scalar of a variable that a place assigns may be written there
  abbrev pub MayBe : Assigned → Type 0
  MayBe a = (v y : ℕ) → a.object ≡ object.Automatic v → scalar_of c.names v ≡ Some y → x.may (place_of c a.at) y

  abbrev pub MayAll : List Assigned → Type 0
  MayAll all = (a : Assigned) → Among a all → MayBe a

  pub may_parts : (xs ys : List Assigned) → MayAll (xs ++ ys) → MayAll xs × MayAll ys
  may_parts xs ys h = (λ a k. h a (among_front a xs ys k), λ a k. h a (among_back a xs ys k))

  pub parts : (xs ys : List Edge) → HoldAlong (xs ++ ys) → HoldAlong xs × HoldAlong ys
  parts xs ys h = (λ e a. h e (among_front e xs ys a), λ e a. h e (among_back e xs ys a))

  -- an expression may write what it does
  may_code : (at : ℕ) (e : RvalueTree) → MayAll (assigned_objects at e) → (y : ℕ) → writes c.names y e ≡ true → x.may (place_of c at) y
  may_code at e h y w = let r = writes_is c.names at y e w in h (assigns_object at (object.Automatic r.variable)) r.among r.variable y refl r.name

  -- the property holds of each block of a part that is a place's
  abbrev pub Holds : Part → Type 0
  Holds part = x.Stand part.inner × AreMadeOf (λ p m. x.Has p None m) part.inner part.placed

  abbrev pub Adds : Part → Part → Type 0
  Adds now part = Grows part.inner now.inner × (Holds part → Holds now)

  pub adds_on : (a b d : Part) → Adds a b → Adds b d → Adds a d
  adds_on a b d h k = (grows_on d.inner b.inner a.inner k.0 h.0, λ z. h.1 (k.1 z))

  pub no_part : (part : Part) → Adds part part
  no_part part = (grows_none part.inner, λ z. z)

  abbrev pub From : ℕ → Type 0
  From t = c.scalars ≤ t

  begun_from : (t : ℕ) → From t → From (begun c t)
  begun_from t le = Rattle.graph_build_laws.proofs.Temporaries.pick_least c.names c.scalars c.scalars t (omega arith) le

  code_at : (at : ℕ) (e : RvalueTree) (t : ℕ) (g : Goal) → From t → MayAll (assigned_objects at e) → ForGoal (marking at) (laid c.names e (use_of g) t).value g → M at (code c.names (place_of c at) c.top e t g)
  code_at at e t g le may k = code_has (marking at) e t g le (may_code at e may) k

  coded_at : (at : ℕ) (e : RvalueTree) (t : ℕ) (g : Goal) → From t → MayAll (assigned_objects at e) → ForGoal (marking at) (laid c.names e (use_of g) (begun c t)).value g → M at (coded c at e t g)
  coded_at at e t g le may k = code_at at e (begun c t) g (begun_from t le) may k

  pub going_has : (at : ℕ) (next : Option ℕ) (inner : List unit.Block) → HoldAlong (edge at next) → x.Stand inner → M at (going c next inner)
  going_has at (Some to) inner h st = (x.rules (P at)).jump (block_of c to) inner (h (record { from = at; to = to }) front inner st)
  going_has at None inner h st = (x.rules (P at)).end None inner tt st

  no_end : (at : ℕ) (inner : List unit.Block) → x.Stand inner → M at (ending (unit.Return None) inner)
  no_end at inner st = (x.rules (P at)).end None inner tt st

  end_stands : (at : ℕ) (next : Option ℕ) (inner : List unit.Block) → x.Stand inner → x.Stand (with_end c at next inner)
  end_stands at (Some to) inner st = st
  end_stands at None inner st = (x.rules (P at)).shut (ending (unit.Return None) inner) (no_end at inner st)

  end_leads : (at : ℕ) (next : Option ℕ) (inner : List unit.Block) → x.Stand inner → HoldAlong (edge at next) → x.Leads (P at) (label_for c next inner) (with_end c at next inner)
  end_leads at (Some to) inner st h = h (record { from = at; to = to }) front inner st
  end_leads at None inner st h = (x.rules (P at)).close (ending (unit.Return None) inner) (no_end at inner st)

  end_keeps : (at : ℕ) (next : Option ℕ) (inner : List unit.Block) (l : ℕ) → x.Stand inner → x.Leads (P at) l inner → x.Leads (P at) l (with_end c at next inner)
  end_keeps at (Some to) inner l st h = h
  end_keeps at None inner l st h = (x.rules (P at)).keep (ending (unit.Return None) inner) l inner (grows_none inner) (no_end at inner st) h

  -- the block of a place
  pub place_adds : (at : ℕ) (m : Made) (part : Part) → Grows part.inner m.inner → (x.Stand part.inner → M at m) → Adds (placed_at c at m part.placed) part
  place_adds at m part g h = (
    g,
    λ z. (
        let has = h z.0 in (
          (x.rules (P at)).made m has,
          (record { place = P at; made = m; no_place = refl; instructions = refl; ends = refl; grown = grows_none m.inner; has = has }, made_more (λ p m. x.Has p None m) part.inner m.inner g part.placed z.1),
        )),
  )

  run_adds : (at : ℕ) (e : RvalueTree) (t : ℕ) (next : Option ℕ) (part : Part) → From t → MayAll (assigned_objects at e) → HoldAlong (edge at next) → Adds (add_run c at e t next part) part
  run_adds at e t next part le may h =
      let go = going c next part.inner in
      place_adds at (coded c at e t (Unused go)) part (grows_on part.inner go.inner (coded c at e t (Unused go)).inner (going_grows c next part.inner) (code_grows c at e (begun c t) (Unused go)))
      (λ st. coded_at at e t (Unused go) le may (λ s. going_has at next part.inner h st))

  going_adds : (at : ℕ) (next : Option ℕ) (part : Part) → HoldAlong (edge at next) → Adds (add_going c at next part) part
  going_adds at next part h = place_adds at (going c next part.inner) part (going_grows c next part.inner) (going_has at next part.inner h)

  branching_adds : (at : ℕ) (e : RvalueTree) (t : ℕ) (one other : Option ℕ) (part : Part) → From t → MayAll (assigned_objects at e) → HoldAlong (edge at one) → HoldAlong (edge at other) → Adds (add_branching c at e t one other part) part
  branching_adds at e t one other part le may h k =
      let ends = with_end c at other part.inner in
      let all = with_end c at one ends in
      let g = Either (label_for c one ends) (label_for c other part.inner) all in
      place_adds at (coded c at e t g) part (grows_on part.inner all (coded c at e t g).inner (grows_on part.inner ends all (end_grows c at other part.inner) (end_grows c at one ends)) (code_grows c at e (begun c t) g))
      (λ st. (let s = end_stands at other part.inner st in coded_at at e t g le may (end_leads at one ends s h, end_keeps at one ends (label_for c other part.inner) s (end_leads at other part.inner st k))))

  -- declarators
  cleared_has : (at object bytes covered : ℕ) (m : Made) → M at m → M at (cleared object bytes covered m)
  cleared_has at object bytes covered m k = go (nat_le (words_of bytes) covered)
    where
      go : (b : Bool) → M at (if b then m else instruction_before (unit.Zero object (words_of bytes)) m)
      go true = k
      go false = (x.rules (P at)).zero object (words_of bytes) m k

  bare_may : (at : ℕ) (e : RvalueTree) → MayAll (assigned_objects at e) → MayAll (assigned_objects at (bare e))
  bare_may at (expression.Convert t e) h = h
  bare_may at (expression.Constant z t) h = h
  bare_may at expression.Null h = h
  bare_may at (expression.Load s l) h = h
  bare_may at (expression.Decay l) h = h
  bare_may at (expression.AddressOf l) h = h
  bare_may at (expression.Discard e) h = h
  bare_may at (expression.Signed o t e) h = h
  bare_may at (expression.Not e) h = h
  bare_may at (expression.Arithmetic o t a b) h = h
  bare_may at (expression.Compare o t a b) h = h
  bare_may at (expression.ComparePointers o a b) h = h
  bare_may at (expression.Move d of a b) h = h
  bare_may at (expression.MoveFrom a of b) h = h
  bare_may at (expression.Difference of a b) h = h
  bare_may at (expression.And a b) h = h
  bare_may at (expression.Or a b) h = h
  bare_may at (expression.Conditional d a b) h = h
  bare_may at (expression.Comma a b) h = h
  bare_may at (expression.Assign s l e) h = h
  bare_may at (expression.Update o t u l e) h = h
  bare_may at (expression.UpdatePointer d of l e) h = h
  bare_may at (expression.Step d g t u l) h = h
  bare_may at (expression.StepPointer d g of l) h = h
  bare_may at (expression.Call f all) h = h

  elements_have : (at : ℕ) (s : Scalar) (object index : ℕ) (all : List RvalueTree) (t : ℕ) (m : Made) → From t → MayAll (assigned_by_values at all) → M at m → M at (store_elements c at s object index all t m)
  elements_have at s object index [] t m le may k = k
  elements_have at s object index (e ∷ more) t m le may k =
      let r = laid c.names (bare e) Anywhere t in
      let next = pick c.names t r.top in
      let up = laid_behind c.names (bare e) Anywhere t in
      let from : From next = Rattle.graph_build_laws.proofs.Temporaries.pick_least c.names c.scalars t r.top le (omega (arith, le, up.0, up.1)) in
      let rest = store_elements c at s object (index + 1) more next m in
      let both = may_parts (assigned_objects at e) (assigned_by_values at more) may in
      let place = Automatic object (index * scalar_size s) in
      code_at at (bare e) t (To None (instruction_before (Store (element_of s) place r.value) rest)) le (bare_may at e both.0)
      (λ v. (x.rules (P at)).store None (element_of s) place r.value rest (refl, v) (elements_have at s object (index + 1) more next m from both.1 k))

  single_has : (at object : ℕ) (s : Scalar) (i : InitialTree) (t : ℕ) (m : Made) → From t → MayAll (assigned_by_initial at i) → M at m → M at (declare_single c at object s i t m)
  single_has at object s Zero t m le may k = (x.rules (P at)).store None (element_of s) (Automatic object 0) (unit.Constant 0) m (refl, refl) k
  single_has at object s (scalar-initial e) t m le may k =
      let a = (laid c.names e Anywhere (begun c t)).value in
      coded_at at e t (To None (instruction_before (Store (element_of s) (Automatic object 0) a) m)) le may (λ v. (x.rules (P at)).store None (element_of s) (Automatic object 0) a m (refl, v) k)
  single_has at object s (Elements all) t m le may k = cleared_has at object (scalar_size s) 0 m k
  single_has at object s (Literal j) t m le may k = cleared_has at object (scalar_size s) 0 m k

  array_has : (at object : ℕ) (s : Scalar) (bytes : ℕ) (i : InitialTree) (t : ℕ) (m : Made) → From t → MayAll (assigned_by_initial at i) → M at m → M at (declare_array c at object s bytes i t m)
  array_has at object s bytes (Elements all) t m le may k =
      let rest = store_elements c at s object 0 all (begun c t) m in cleared_has at object bytes 0 rest (elements_have at s object 0 all (begun c t) m (begun_from t le) may k)
  array_has at object s bytes (Literal j) t m le may k =
      let rest = instruction_before (CopyWords object j (copied_words c j bytes)) m in
      cleared_has at object bytes (copied_words c j bytes) rest ((x.rules (P at)).copy object j (copied_words c j bytes) m k)
  array_has at object s bytes Zero t m le may k = cleared_has at object bytes 0 m k
  array_has at object s bytes (scalar-initial e) t m le may k = cleared_has at object bytes 0 m k

  kept_has : (at object : ℕ) (of : ObjectType) (i : InitialTree) (t : ℕ) (m : Made) → From t → MayAll (assigned_by_initial at i) → M at m → M at (declare_kept c at object of i t m)
  kept_has at object (of-object.Scalar s) i t m le may k = single_has at object s i t m le may k
  kept_has at object (of-object.Array s count) i t m le may k = array_has at object s (scalar_size s * count) i t m le may k

  moved_note : (at y : ℕ) (m : Made) → x.may (P at) y → M at m → M at (instruction_before (unit.Move y (unit.Constant 0)) (note y m))
  moved_note at y m may k = (x.rules (P at)).write (unit.Move y (unit.Constant 0)) y (note y m) refl refl refl (λ o. (x.rules (P at)).noted y m may k)

  scalar_has : (at y : ℕ) (i : InitialTree) (t : ℕ) (m : Made) → From t → x.may (P at) y → MayAll (assigned_by_initial at i) → M at m → M at (declare_scalar c at y i t m)
  scalar_has at y (scalar-initial e) t m le own may k = coded_at at e t (To (Some y) (note y m)) le may (λ o s. (x.rules (P at)).noted y m own k)
  scalar_has at y Zero t m le own may k = moved_note at y m own k
  scalar_has at y (Elements all) t m le own may k = moved_note at y m own k
  scalar_has at y (Literal j) t m le own may k = moved_note at y m own k

  declare_has : (o : Option ℕ) (d : DeclaredTree) → scalar_of c.names d.variable ≡ o → (t : ℕ) (m : Made) → From t → MayBe (assigns_object d.spot.at (object.Automatic d.variable)) → MayAll (assigned_by_initial d.spot.at d.initial) → M d.spot.at m → M d.spot.at (declare_as c o d t m)
  declare_has (Some y) d is t m le own may k = scalar_has d.spot.at y d.initial t m le (own d.variable y refl is) may k
  declare_has None d is t m le own may k = kept_has d.spot.at (or_zero (object_of c.names d.variable)) (object_type_of c.program d.variable) d.initial t m le may k

  initial_more : (o : Option ℕ) (i : InitialTree) (t : ℕ) → From t → From (initial_reached c o i t)
  initial_more (Some y) (scalar-initial e) t le = omega (arith, le, reached_more c e (use-of.In y) t)
  initial_more None (scalar-initial e) t le = omega (arith, le, reached_more c e Anywhere t)
  initial_more (Some y) (Elements all) t le = omega (arith, le)
  initial_more None (Elements all) t le = omega (arith, le)
  initial_more (Some y) Zero t le = le
  initial_more None Zero t le = le
  initial_more (Some y) (Literal k) t le = le
  initial_more None (Literal k) t le = le

  declared_add : (all : List DeclaredTree) (t : ℕ) (next : Option ℕ) (part : Part) → From t → MayAll (assigned_by_declarators all) → HoldAlong (flow_of_declarators all next) → Adds (add_declared c all t next part) part
  declared_add [] t next part le may h = no_part part
  declared_add (d ∷ more) t next part le may h =
      let o = scalar_of c.names d.variable in
      let t' = initial_reached c o d.initial t in
      let later = add_declared c more t' next part in
      let to = start_of_declarators more next in
      let k = parts (edge d.spot.at to) (flow_of_declarators more next) h in
      let go = going c to later.inner in
      let own : MayBe (assigns_object d.spot.at (object.Automatic d.variable)) = may (assigns_object d.spot.at (object.Automatic d.variable)) front in
      let rest = may_parts (assigned_by_initial d.spot.at d.initial) (assigned_by_declarators more) (λ a z. may a (behind z)) in
      adds_on (add_declared c (d ∷ more) t next part) later part
      (place_adds d.spot.at (declare c d t go) later (declare_grows c d t to later.inner) (λ st. declare_has o d refl t go le own rest.0 (going_has d.spot.at to later.inner k.0 st)))
      (declared_add more t' next part (initial_more o d.initial t le) rest.1 k.1)

  -- the parts of a `for`
  begin_adds : (begin : TypedStartTree) (t head : ℕ) (part : Part) → From t → MayAll (assigned_by_start begin) → HoldAlong (flow_of_start begin head) → Adds (add_start c begin t head part) part
  begin_adds Nothing t head part le may h = no_part part
  begin_adds (Value spot e) t head part le may h = run_adds spot.at e t (Some head) part le may h
  begin_adds (Declares all) t head part le may h = declared_add all t (Some head) part le may h

  declared_from : (all : List DeclaredTree) (t : ℕ) → From t → From (Rattle.graph_build_statements.specs.Reached.declared_reached c all t)
  declared_from [] t le = le
  declared_from (d ∷ more) t le = declared_from more (initial_reached c (scalar_of c.names d.variable) d.initial t) (initial_more (scalar_of c.names d.variable) d.initial t le)

  begin_from : (begin : TypedStartTree) (t : ℕ) → From t → From (start_reached c begin t)
  begin_from Nothing t le = le
  begin_from (Value spot e) t le = omega (arith, le, reached_more c e use-of.Nothing t)
  begin_from (Declares all) t le = declared_from all t le

  round_adds : (step : Option StepTree) (t head : ℕ) (part : Part) → From t → MayAll (assigned_by_step step) → HoldAlong (flow_of_step step head) → Adds (add_step c step t head part) part
  round_adds None t head part le may h = no_part part
  round_adds (Some s) t head part le may h = run_adds s.spot.at s.value t (Some head) part le may h

  head_adds : (begin : TypedStartTree) (t at : ℕ) (e : Option RvalueTree) (inside next : Option ℕ) (part : Part) → From t → MayAll (assigned_by_start begin) → MayAll (assigned_by_option at e) → HoldAlong (flow_of_start begin at) → HoldAlong (edge at inside) → HoldAlong (flow_out e at next) →
      Adds (add_head c begin t at e inside next part) part
  head_adds begin t at None inside next part le mb me h k l = adds_on (add_going c at inside (add_start c begin t at part)) (add_start c begin t at part) part (going_adds at inside (add_start c begin t at part) k) (begin_adds begin t at part le mb h)
  head_adds begin t at (Some e) inside next part le mb me h k l =
      let later = add_branching c at e (start_reached c begin t) inside next part in
      adds_on (add_start c begin t at later) later part (begin_adds begin t at later le mb h) (branching_adds at e (start_reached c begin t) inside next part (begin_from begin t le) me k l)

  result_adds : (at : ℕ) (e : Option RvalueTree) (t : ℕ) (part : Part) → From t → MayAll (assigned_by_option at e) → Adds (add_result c at e t part) part
  result_adds at None t part le may = place_adds at (ending (unit.Return None) part.inner) part (grows_none part.inner) (no_end at part.inner)
  result_adds at (Some e) t part le may =
      let a = (laid c.names e Anywhere (begun c t)).value in
      let m = ending (unit.Return (Some a)) part.inner in
      place_adds at (coded c at e t (To None m)) part (code_grows c at e (begun c t) (To None m)) (λ st. coded_at at e t (To None m) le may (λ s. (x.rules (P at)).end (Some a) part.inner s st))

  -- the tests of a `switch`
  tests_have : (at : ℕ) (a : Operand) → stands x.own a ≡ false → (all : TypedStatementTrees) (next other : Option ℕ) (inner : List unit.Block) → HoldAlong (flow_to_labels at all next) → HoldAlong (edge at other) → x.Stand inner → M at (tests c at a all next other inner)
  tests_have at a s statement.none next other inner h k st = going_has at other inner k st
  tests_have at a s (statement.first f rest) next other inner h k st = tests_have at a s rest next other inner h k st
  tests_have at a s (default rest) next other inner h k st = tests_have at a s rest next other inner (parts (edge at (start_of_all rest next)) (flow_to_labels at rest next) h).1 k st
  tests_have at a s (case z rest) next other inner h k st =
      let to = start_of_all rest next in
      let l = parts (edge at to) (flow_to_labels at rest next) h in
      let ends = with_end c at to inner in
      let m = tests c at a rest next other ends in
      let has = tests_have at a s rest next other ends l.1 k (end_stands at to inner st) in
      (x.rules (P at)).branch branch.Equal a (unit.Constant (unsigned_bits z)) (label_for c to inner) (label_of c.top m) (with_inner_block (P at) m) s refl
      ((x.rules (P at)).keep m (label_for c to inner) ends (tests_grow c at a rest next other ends) has (end_leads at to inner st l.0)) ((x.rules (P at)).close m has)

  -- where `default` leads is a step of the flow
  default_of : (at : ℕ) (all : TypedStatementTrees) (next : Option ℕ) → HoldAlong (flow_to_labels at all next) → HoldAlong (flow_past at all next) → HoldAlong (edge at (default_start all next))
  default_of at statement.none next h k = k
  default_of at (statement.first s rest) next h k = default_of at rest next h k
  default_of at (case z rest) next h k = default_of at rest next (parts (edge at (start_of_all rest next)) (flow_to_labels at rest next) h).1 k
  default_of at (default rest) next h k = (parts (edge at (start_of_all rest next)) (flow_to_labels at rest next) h).0

  switch_adds : (at : ℕ) (e : RvalueTree) (all : TypedStatementTrees) (t : ℕ) (next : Option ℕ) (part : Part) → From t → MayAll (assigned_objects at e) → HoldAlong (flow_to_labels at all next) → HoldAlong (flow_past at all next) → Adds (add_switch c at e all t next part) part
  switch_adds at e all t next part le may h k =
      let a = (laid c.names e Anywhere (begun c t)).value in
      let other = default_start all next in
      let m = tests c at a all next other part.inner in
      place_adds at (coded c at e t (To None m)) part (grows_on part.inner m.inner (coded c at e t (To None m)).inner (tests_grow c at a all next other part.inner) (code_grows c at e (begun c t) (To None m)))
      (λ st. coded_at at e t (To None m) le may (λ s. tests_have at a s all next other part.inner h (default_of at all next h k) st))

  mutual
    pub statement_has : (s : TypedStatementTree) (t : ℕ) (w : Ways) (part : Part) → From t → MayAll (assigned_by s) → HoldAlong (flow_of w s) → Adds (add c s t w part) part
    statement_has (Block all) t w part le may h = statements_have all t w part le may h
    statement_has (Declaration all) t w part le may h = declared_add all t w.next part le may h
    statement_has (Empty spot) t w part le may h = going_adds spot.at w.next part h
    statement_has (Run spot e) t w part le may h = run_adds spot.at e t w.next part le may h
    statement_has (If spot e s) t w part le may h = (
        let e1 = edge spot.at (start_place s w.next) in let e2 = edge spot.at w.next in
        let k = parts (e1 ++ e2) (flow_of w s) h in
        let l = parts e1 e2 k.0 in
        let a = may_parts (assigned_objects spot.at e) (assigned_by s) may in
        let t1 = reached c e Tested t in
        let later = add c s t1 w part in
        adds_on (add c (If spot e s) t w part) later part (branching_adds spot.at e t (start_place s w.next) w.next later le a.0 l.0 l.1) (statement_has s t1 w part (omega (arith, le, reached_more c e Tested t)) a.1 k.1))
    statement_has (IfElse spot e s r) t w part le may h = (
        let e1 = edge spot.at (start_place s w.next) in let e2 = edge spot.at (start_place r w.next) in
        let k = parts (e1 ++ e2 ++ flow_of w s) (flow_of w r) h in
        let l = parts (e1 ++ e2) (flow_of w s) k.0 in
        let m = parts e1 e2 l.0 in
        let a = may_parts (assigned_objects spot.at e ++ assigned_by s) (assigned_by r) may in
        let b = may_parts (assigned_objects spot.at e) (assigned_by s) a.0 in
        let t1 = reached c e Tested t in
        let t2 = statement_reached c s t1 in
        let from1 : From t1 = omega (arith, le, reached_more c e Tested t) in
        let from2 : From t2 = omega (arith, from1, statement_more c s t1) in
        let last = add c r t2 w part in
        let later = add c s t1 w last in
        adds_on (add c (IfElse spot e s r) t w part) later part (branching_adds spot.at e t (start_place s w.next) (start_place r w.next) later le b.0 m.0 m.1) (adds_on later last part (statement_has s t1 w last from1 b.1 l.1) (statement_has r t2 w part from2 a.1 k.1)))
    statement_has (While spot e s) t w part le may h = (
        let e1 = edge spot.at (start_place s (Some spot.at)) in let e2 = edge spot.at w.next in
        let k = parts (e1 ++ e2) (flow_of (within_loop spot.at w) s) h in
        let l = parts e1 e2 k.0 in
        let a = may_parts (assigned_objects spot.at e) (assigned_by s) may in
        let t1 = reached c e Tested t in
        let later = add c s t1 (within_loop spot.at w) part in
        adds_on (add c (While spot e s) t w part) later part (branching_adds spot.at e t (start_place s (Some spot.at)) w.next later le a.0 l.0 l.1) (statement_has s t1 (within_loop spot.at w) part (omega (arith, le, reached_more c e Tested t)) a.1 k.1))
    statement_has (DoWhile s spot e) t w part le may h = (
        let e1 = edge spot.at (start_place s (Some spot.at)) in let e2 = edge spot.at w.next in
        let k = parts (e1 ++ e2) (flow_of (within_loop spot.at w) s) h in
        let l = parts e1 e2 k.0 in
        let a = may_parts (assigned_objects spot.at e) (assigned_by s) may in
        let t1 = statement_reached c s t in
        let later = add_branching c spot.at e t1 (start_place s (Some spot.at)) w.next part in
        adds_on (add c (DoWhile s spot e) t w part) later part (statement_has s t (within_loop spot.at w) later le a.1 k.1) (branching_adds spot.at e t1 (start_place s (Some spot.at)) w.next part (omega (arith, le, statement_more c s t)) a.0 l.0 l.1))
    statement_has (For begin spot e step s) t w part le may h = (
        let round = round_of step spot.at in
        let inside = start_place s (Some round) in
        let f = flow_of (within_loop round w) s in
        let fb = flow_of_start begin spot.at in let fi = edge spot.at inside in let fo = flow_out e spot.at w.next in let fs = flow_of_step step spot.at in
        let k = parts (fb ++ fi ++ fo ++ fs) f h in
        let l = parts (fb ++ fi ++ fo) fs k.0 in
        let m = parts (fb ++ fi) fo l.0 in
        let o = parts fb fi m.0 in
        let ab = assigned_by_start begin in let ae = assigned_by_option spot.at e in let ap' = assigned_by_step step in
        let a3 = may_parts (ab ++ ae ++ ap') (assigned_by s) may in
        let a2 = may_parts (ab ++ ae) ap' a3.0 in
        let a1 = may_parts ab ae a2.0 in
        let t1 = start_reached c begin t in
        let t2 = condition_reached c e t1 in
        let t3 = statement_reached c s t2 in
        let from2 : From t2 = omega (arith, begin_from begin t le, condition_more c e t1) in
        let from3 : From t3 = omega (arith, from2, statement_more c s t2) in
        let body = add c s t2 (within_loop round w) part in
        let later = add_step c step t3 spot.at body in
        adds_on (add c (For begin spot e step s) t w part) later part (head_adds begin t spot.at e inside w.next later le a1.0 a1.1 o.0 o.1 m.1)
        (adds_on later body part (round_adds step t3 spot.at body from3 a2.1 l.1) (statement_has s t2 (within_loop round w) part from2 a3.1 k.1)))
    statement_has (Switch spot e all) t w part le may h = (
        let fl = flow_to_labels spot.at all w.next in let fp = flow_past spot.at all w.next in
        let k = parts (fl ++ fp) (flow_of_all (within_switch w) all) h in
        let l = parts fl fp k.0 in
        let a = may_parts (assigned_objects spot.at e) (assigned_by_statements all) may in
        let t1 = reached c e Anywhere t in
        let later = add_all c all t1 (within_switch w) part in
        adds_on (add c (Switch spot e all) t w part) later part (switch_adds spot.at e all t w.next later le a.0 l.0 l.1) (statements_have all t1 (within_switch w) part (omega (arith, le, reached_more c e Anywhere t)) a.1 k.1))
    statement_has (Break spot) t w part le may h = going_adds spot.at w.by_break part h
    statement_has (Continue spot) t w part le may h = going_adds spot.at w.by_continue part h
    statement_has (Return spot e) t w part le may h = result_adds spot.at e t part le may

    pub statements_have : (all : TypedStatementTrees) (t : ℕ) (w : Ways) (part : Part) → From t → MayAll (assigned_by_statements all) → HoldAlong (flow_of_all w all) → Adds (add_all c all t w part) part
    statements_have statement.none t w part le may h = no_part part
    statements_have (statement.first s rest) t w part le may h = (
        let k = parts (flow_of (with_rest rest w) s) (flow_of_all w rest) h in
        let a = may_parts (assigned_by s) (assigned_by_statements rest) may in
        let later = add_all c rest (statement_reached c s t) w part in
        adds_on (add_all c (statement.first s rest) t w part) later part (statement_has s t (with_rest rest w) later le a.0 k.0) (statements_have rest (statement_reached c s t) w part (omega (arith, le, statement_more c s t)) a.1 k.1))
    statements_have (case z rest) t w part le may h = statements_have rest t w part le may h
    statements_have (default rest) t w part le may h = statements_have rest t w part le may h
