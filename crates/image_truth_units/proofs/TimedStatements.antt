-- The blocks of places begin with their markers, behind which words are set and copied first and few; inner blocks have ordinary instructions, and places of their own.
use Rattle.std.proofs.Common.{ℕ, ◌+◌, ◌*◌, ◌≤◌, Bool, true, false, Option, Some, None, List, [], ◌∷◌, refl, arith, if◌then◌else◌}
use Rattle.std.specs.Prelude.{nat_le}
use Rattle.std.specs.List.{AllByRecursion}
use Rattle.c_tree.specs.declared.object_type.Scalar.{Scalar}
use Rattle.c_tree.specs.declared.object_type.ObjectType.{ObjectType}
use Rattle.c_tree.specs.declared.object_type.ObjectType.TheVariants as of-object
use Rattle.c_tree.specs.TypedExpressions.{RvalueTree}
use Rattle.c_tree.specs.TypedStatements as statement
use Rattle.c_tree.specs.TypedStatements.{InitialTree, Zero, Scalar as scalar-initial, Elements, Literal, DeclaredTree, TypedStartTree, Nothing, Value, Declares, StepTree, TypedStatementTree, Block, Declaration, Empty, Run, If, IfElse, While, DoWhile, For, Switch, Break, Continue, Return, TypedStatementTrees, case, default}
use Rattle.c_type_rules.specs.Integers.{scalar_size}
use Rattle.c_flow.specs.declared.edge.Ways.{Ways}
use Rattle.c_flow.specs.Flow.{start_place, start_of_all, start_of_declarators, round_of, within_loop, within_switch, ways_before as with_rest}
use Rattle.graph_core.specs.Graphs as unit
use Rattle.graph_core.specs.Graphs.{Operand, Automatic, Store, CopyWords}
use Rattle.graph_core.specs.Bounds.{most_words}
use Rattle.graph_core.specs.Validity.{markers_in, markers_of_blocks}
use Rattle.graph_build_layout.specs.declared.laid.Use.TheVariants.{Anywhere, Tested}
use Rattle.graph_build_names.specs.Names.{scalar_of, object_of, pick}
use Rattle.graph_build_layout.specs.Layout.{laid}
use Rattle.graph_build_steps.specs.Rules.{element_of}
use Rattle.graph_build_steps.specs.Drafts.{Made, Goal, To, Unused, Either, instruction_before, ending, note}
use Rattle.graph_build_steps.specs.Steps.{or_zero}
use Rattle.graph_build_code.specs.Code.{code}
use Rattle.graph_build_statements.specs.Coding.{Coding, Part, place_of, begun, going, label_for, with_end, placed_at, coded}
use Rattle.graph_build_statements.specs.Reached.{bare, reached, initial_reached, start_reached, condition_reached, statement_reached}
use Rattle.graph_build_statements.specs.Declaring.{object_type_of, words_of, cleared, store_elements, copied_words, declare_single, declare_array, declare_kept, declare_scalar, declare_as, declare, add_declared}
use Rattle.graph_build_statements.specs.Forms.{default_start, tests, add_run, add_going, add_branching, add_start, add_step, add_head, add_result, add_switch, add, add_all}
use Rattle.image_truth_units.proofs.Ordinary.{WordsFirst, sets, copies, ordinary, IsPlaced, AreInner, Fine, FineGoal, closed_fine}
use Rattle.image_truth_units.proofs.TimedPieces.{before_fine}
use Rattle.image_truth_units.proofs.TimedExpressions.{code_fine}
use Rattle.image_truth_units.proofs.Rooms.{HasFew, few_of_scalar, copied_few}
use Rattle.base_laws.proofs.Lists.{all_behind}

abbrev pub ArePlaced : List unit.Block → Type 0
ArePlaced [] = Unit {0}
ArePlaced (b ∷ more) = IsPlaced b × ArePlaced more

module _ (Own : ℕ → Type 0) (c : Coding) (few : (x : ℕ) → HasFew (object_type_of c.program x)) where
  abbrev P : (at : ℕ) → ℕ
  P at = place_of c at

  abbrev Is : Made → Type 0
  Is m = Fine Own m

  -- what is made of a declarator
  abbrev pub IsBegun : Made → Type 0
  IsBegun m = WordsFirst m.ops × AreInner Own m.inner

  begun_fine : (m : Made) → Is m → IsBegun m
  begun_fine m h = (ordinary h.0, h.1)

  -- the blocks of a part
  abbrev pub IsSound : Part → Type 0
  IsSound part = ArePlaced part.placed × AreInner Own part.inner

  -- the places of a part's blocks are own ones
  abbrev pub HasOwn : Part → Type 0
  HasOwn part = AllByRecursion Own (markers_of_blocks part.placed)

  -- If its places are own ones, a part is sound where that is before which it stands.
  abbrev pub Adds : Part → Part → Type 0
  Adds now part = HasOwn now → HasOwn part × (IsSound part → IsSound now)

  pub adds_on : (a b d : Part) → Adds a b → Adds b d → Adds a d
  adds_on a b d h k own = let x = h own in let y = k x.0 in (y.0, λ s. x.1 (y.1 s))

  pub no_part : (part : Part) → Adds part part
  no_part part own = (own, λ s. s)

  pub place_adds : (at : ℕ) (m : Made) (part : Part) → (Own (P at) → AreInner Own part.inner → IsBegun m) → Adds (placed_at c at m part.placed) part
  place_adds at m part h own =
      (all_behind Own (markers_in m.ops) (markers_of_blocks part.placed) own.1, λ s. (let x = h own.0 s.1 in ((record { place = P at; rest = m.ops; no_place = refl; is = refl; first = x.0 }, s.0), x.1)))

  -- code that stands in a place
  code_at : (at : ℕ) → Own (P at) → (e : RvalueTree) (t : ℕ) (g : Goal) → FineGoal Own g → Is (code c.names (P at) c.top e t g)
  code_at at own e t g h = code_fine Own (P at) c.top own c.names e t g h

  coded_at : (at : ℕ) → Own (P at) → (e : RvalueTree) (t : ℕ) (g : Goal) → FineGoal Own g → Is (coded c at e t g)
  coded_at at own e t g h = code_at at own e (begun c t) g h

  pub going_fine : (next : Option ℕ) (inner : List unit.Block) → AreInner Own inner → Is (going c next inner)
  going_fine (Some to) inner h = (tt, h)
  going_fine None inner h = (tt, h)

  ends_fine : (at : ℕ) → Own (P at) → (next : Option ℕ) (inner : List unit.Block) → AreInner Own inner → AreInner Own (with_end c at next inner)
  ends_fine at own (Some to) inner h = h
  ends_fine at own None inner h = closed_fine Own (P at) own (ending (unit.Return None) inner) (tt, h)

  run_adds : (at : ℕ) (e : RvalueTree) (t : ℕ) (next : Option ℕ) (part : Part) → Adds (add_run c at e t next part) part
  run_adds at e t next part =
      let go = going c next part.inner in place_adds at (coded c at e t (Unused go)) part (λ own h. begun_fine (coded c at e t (Unused go)) (coded_at at own e t (Unused go) (going_fine next part.inner h)))

  going_adds : (at : ℕ) (next : Option ℕ) (part : Part) → Adds (add_going c at next part) part
  going_adds at next part = place_adds at (going c next part.inner) part (λ own h. begun_fine (going c next part.inner) (going_fine next part.inner h))

  branching_adds : (at : ℕ) (e : RvalueTree) (t : ℕ) (one other : Option ℕ) (part : Part) → Adds (add_branching c at e t one other part) part
  branching_adds at e t one other part =
      let ends = with_end c at other part.inner in
      let g = Either (label_for c one ends) (label_for c other part.inner) (with_end c at one ends) in
      place_adds at (coded c at e t g) part (λ own h. begun_fine (coded c at e t g) (coded_at at own e t g (ends_fine at own one ends (ends_fine at own other part.inner h))))

  -- declarators
  cleared_begun : (object bytes covered : ℕ) (m : Made) → words_of bytes ≤ most_words → IsBegun m → IsBegun (cleared object bytes covered m)
  cleared_begun object bytes covered m le h = go (nat_le (words_of bytes) covered)
    where
      go : (b : Bool) → IsBegun (if b then m else instruction_before (unit.Zero object (words_of bytes)) m)
      go true = h
      go false = (sets le h.0, h.1)

  elements_fine : (at : ℕ) → Own (P at) → (s : Scalar) (object index : ℕ) (all : List RvalueTree) (t : ℕ) (m : Made) → Is m → Is (store_elements c at s object index all t m)
  elements_fine at own s object index [] t m h = h
  elements_fine at own s object index (e ∷ more) t m h =
      let r = laid c.names (bare e) Anywhere t in
      let rest = store_elements c at s object (index + 1) more (pick c.names t r.top) m in
      let last = instruction_before (Store (element_of s) (Automatic object (index * scalar_size s)) r.value) rest in
      code_at at own (bare e) t (To None last) (before_fine Own (Store (element_of s) (Automatic object (index * scalar_size s)) r.value) rest refl (elements_fine at own s object (index + 1) more (pick c.names t r.top) m h))

  single_begun : (at : ℕ) → Own (P at) → (object : ℕ) (s : Scalar) (i : InitialTree) (t : ℕ) (m : Made) → Is m → IsBegun (declare_single c at object s i t m)
  single_begun at own object s Zero t m h = (ordinary (refl, h.0), h.1)
  single_begun at own object s (scalar-initial e) t m h =
      let last = instruction_before (Store (element_of s) (Automatic object 0) (laid c.names e Anywhere (begun c t)).value) m in
      begun_fine (coded c at e t (To None last)) (coded_at at own e t (To None last) (before_fine Own (Store (element_of s) (Automatic object 0) (laid c.names e Anywhere (begun c t)).value) m refl h))
  single_begun at own object s (Elements all) t m h = cleared_begun object (scalar_size s) 0 m (few_of_scalar s) (begun_fine m h)
  single_begun at own object s (Literal k) t m h = cleared_begun object (scalar_size s) 0 m (few_of_scalar s) (begun_fine m h)

  array_begun : (at : ℕ) → Own (P at) → (object : ℕ) (s : Scalar) (bytes : ℕ) → words_of bytes ≤ most_words → (i : InitialTree) (t : ℕ) (m : Made) → Is m → IsBegun (declare_array c at object s bytes i t m)
  array_begun at own object s bytes le (Elements all) t m h =
      let rest = store_elements c at s object 0 all (begun c t) m in
      cleared_begun object bytes 0 rest le (begun_fine rest (elements_fine at own s object 0 all (begun c t) m h))
  array_begun at own object s bytes le (Literal k) t m h =
      let copy = copied_few c k bytes in
      let rest = instruction_before (CopyWords object k (copied_words c k bytes)) m in
      cleared_begun object bytes (copied_words c k bytes) rest le (copies (most (words_of bytes) (copied_words c k bytes) copy le) (ordinary h.0), h.1)
    where
      most : (a b : ℕ) → b ≤ a → a ≤ most_words → b ≤ most_words
      most a b h k = omega (arith, h, k)
  array_begun at own object s bytes le Zero t m h = cleared_begun object bytes 0 m le (begun_fine m h)
  array_begun at own object s bytes le (scalar-initial e) t m h = cleared_begun object bytes 0 m le (begun_fine m h)

  kept_begun : (at : ℕ) → Own (P at) → (object : ℕ) (of : ObjectType) → HasFew of → (i : InitialTree) (t : ℕ) (m : Made) → Is m → IsBegun (declare_kept c at object of i t m)
  kept_begun at own object (of-object.Scalar s) le i t m h = single_begun at own object s i t m h
  kept_begun at own object (of-object.Array s count) le i t m h = array_begun at own object s (scalar_size s * count) le i t m h

  note_fine : (x : ℕ) (m : Made) → Is m → Is (note x m)
  note_fine x m h = before_fine Own (unit.Note x (unit.Is (unit.Of (unit.Name x)))) m refl h

  moved_fine : (x : ℕ) (m : Made) → Is m → Is (instruction_before (unit.Move x (unit.Constant 0)) (note x m))
  moved_fine x m h = before_fine Own (unit.Move x (unit.Constant 0)) (note x m) refl (note_fine x m h)

  scalar_fine : (at : ℕ) → Own (P at) → (x : ℕ) (i : InitialTree) (t : ℕ) (m : Made) → Is m → Is (declare_scalar c at x i t m)
  scalar_fine at own x (scalar-initial e) t m h = coded_at at own e t (To (Some x) (note x m)) (note_fine x m h)
  scalar_fine at own x Zero t m h = moved_fine x m h
  scalar_fine at own x (Elements all) t m h = moved_fine x m h
  scalar_fine at own x (Literal k) t m h = moved_fine x m h

  declared_begun : (o : Option ℕ) (d : DeclaredTree) → Own (P d.spot.at) → (t : ℕ) (m : Made) → Is m → IsBegun (declare_as c o d t m)
  declared_begun (Some x) d own t m h = begun_fine (declare_scalar c d.spot.at x d.initial t m) (scalar_fine d.spot.at own x d.initial t m h)
  declared_begun None d own t m h = kept_begun d.spot.at own (or_zero (object_of c.names d.variable)) (object_type_of c.program d.variable) (few d.variable) d.initial t m h

  declared_adds : (all : List DeclaredTree) (t : ℕ) (next : Option ℕ) (part : Part) → Adds (add_declared c all t next part) part
  declared_adds [] t next part = no_part part
  declared_adds (d ∷ more) t next part =
      let o = scalar_of c.names d.variable in
      let free = initial_reached c o d.initial t in
      let later = add_declared c more free next part in
      let to = start_of_declarators more next in
      let go = going c to later.inner in
      adds_on (add_declared c (d ∷ more) t next part) later part (place_adds d.spot.at (declare c d t go) later (λ own h. declared_begun o d own t go (going_fine to later.inner h))) (declared_adds more free next part)

  -- the parts of a `for`
  begin_adds : (begin : TypedStartTree) (t head : ℕ) (part : Part) → Adds (add_start c begin t head part) part
  begin_adds Nothing t head part = no_part part
  begin_adds (Value spot e) t head part = run_adds spot.at e t (Some head) part
  begin_adds (Declares all) t head part = declared_adds all t (Some head) part

  round_adds : (step : Option StepTree) (t head : ℕ) (part : Part) → Adds (add_step c step t head part) part
  round_adds None t head part = no_part part
  round_adds (Some s) t head part = run_adds s.spot.at s.value t (Some head) part

  head_adds : (begin : TypedStartTree) (t at : ℕ) (e : Option RvalueTree) (inside next : Option ℕ) (part : Part) → Adds (add_head c begin t at e inside next part) part
  head_adds begin t at None inside next part =
      adds_on (add_going c at inside (add_start c begin t at part)) (add_start c begin t at part) part (going_adds at inside (add_start c begin t at part)) (begin_adds begin t at part)
  head_adds begin t at (Some e) inside next part =
      let later = add_branching c at e (start_reached c begin t) inside next part in adds_on (add_start c begin t at later) later part (begin_adds begin t at later) (branching_adds at e (start_reached c begin t) inside next part)

  result_adds : (at : ℕ) (e : Option RvalueTree) (t : ℕ) (part : Part) → Adds (add_result c at e t part) part
  result_adds at None t part = place_adds at (ending (unit.Return None) part.inner) part (λ own h. (ordinary tt, h))
  result_adds at (Some e) t part =
      let m = ending (unit.Return (Some (laid c.names e Anywhere (begun c t)).value)) part.inner in place_adds at (coded c at e t (To None m)) part (λ own h. begun_fine (coded c at e t (To None m)) (coded_at at own e t (To None m) (tt, h)))

  -- the tests of a `switch`
  tests_fine : (at : ℕ) → Own (P at) → (a : Operand) (all : TypedStatementTrees) (next other : Option ℕ) (inner : List unit.Block) → AreInner Own inner → Is (tests c at a all next other inner)
  tests_fine at own a statement.none next other inner h = going_fine other inner h
  tests_fine at own a (statement.first s rest) next other inner h = tests_fine at own a rest next other inner h
  tests_fine at own a (default rest) next other inner h = tests_fine at own a rest next other inner h
  tests_fine at own a (case z rest) next other inner h =
      let to = start_of_all rest next in
      let ends = with_end c at to inner in
      (tt, closed_fine Own (P at) own (tests c at a rest next other ends) (tests_fine at own a rest next other ends (ends_fine at own to inner h)))

  switch_adds : (at : ℕ) (e : RvalueTree) (all : TypedStatementTrees) (t : ℕ) (next : Option ℕ) (part : Part) → Adds (add_switch c at e all t next part) part
  switch_adds at e all t next part =
      let a = (laid c.names e Anywhere (begun c t)).value in
      let m = tests c at a all next (default_start all next) part.inner in
      place_adds at (coded c at e t (To None m)) part (λ own h. begun_fine (coded c at e t (To None m)) (coded_at at own e t (To None m) (tests_fine at own a all next (default_start all next) part.inner h)))

  mutual
    pub statement_adds : (s : TypedStatementTree) (t : ℕ) (w : Ways) (part : Part) → Adds (add c s t w part) part
    statement_adds (Block all) t w part = statements_add all t w part
    statement_adds (Declaration all) t w part = declared_adds all t w.next part
    statement_adds (Empty spot) t w part = going_adds spot.at w.next part
    statement_adds (Run spot e) t w part = run_adds spot.at e t w.next part
    statement_adds (If spot e s) t w part = (
        let later = add c s (reached c e Tested t) w part in
        adds_on (add c (If spot e s) t w part) later part (branching_adds spot.at e t (start_place s w.next) w.next later) (statement_adds s (reached c e Tested t) w part))
    statement_adds (IfElse spot e s r) t w part = (
        let behind_s = statement_reached c s (reached c e Tested t) in
        let last = add c r behind_s w part in
        let later = add c s (reached c e Tested t) w last in
        adds_on (add c (IfElse spot e s r) t w part) later part (branching_adds spot.at e t (start_place s w.next) (start_place r w.next) later) (adds_on later last part (statement_adds s (reached c e Tested t) w last) (statement_adds r behind_s w part)))
    statement_adds (While spot e s) t w part = (
        let later = add c s (reached c e Tested t) (within_loop spot.at w) part in
        adds_on (add c (While spot e s) t w part) later part (branching_adds spot.at e t (start_place s (Some spot.at)) w.next later) (statement_adds s (reached c e Tested t) (within_loop spot.at w) part))
    statement_adds (DoWhile s spot e) t w part = (
        let later = add_branching c spot.at e (statement_reached c s t) (start_place s (Some spot.at)) w.next part in
        adds_on (add c (DoWhile s spot e) t w part) later part (statement_adds s t (within_loop spot.at w) later) (branching_adds spot.at e (statement_reached c s t) (start_place s (Some spot.at)) w.next part))
    statement_adds (For begin spot e step s) t w part = (
        let round = round_of step spot.at in
        let inside = start_place s (Some round) in
        let behind_head = condition_reached c e (start_reached c begin t) in
        let body = add c s behind_head (within_loop round w) part in
        let later = add_step c step (statement_reached c s behind_head) spot.at body in
        adds_on (add c (For begin spot e step s) t w part) later part (head_adds begin t spot.at e inside w.next later) (adds_on later body part (round_adds step (statement_reached c s behind_head) spot.at body) (statement_adds s behind_head (within_loop round w) part)))
    statement_adds (Switch spot e all) t w part = (
        let later = add_all c all (reached c e Anywhere t) (within_switch w) part in
        adds_on (add c (Switch spot e all) t w part) later part (switch_adds spot.at e all t w.next later) (statements_add all (reached c e Anywhere t) (within_switch w) part))
    statement_adds (Break spot) t w part = going_adds spot.at w.by_break part
    statement_adds (Continue spot) t w part = going_adds spot.at w.by_continue part
    statement_adds (Return spot e) t w part = result_adds spot.at e t part

    pub statements_add : (all : TypedStatementTrees) (t : ℕ) (w : Ways) (part : Part) → Adds (add_all c all t w part) part
    statements_add statement.none t w part = no_part part
    statements_add (statement.first s rest) t w part = (
        let later = add_all c rest (statement_reached c s t) w part in
        adds_on (add_all c (statement.first s rest) t w part) later part (statement_adds s t (with_rest rest w) later) (statements_add rest (statement_reached c s t) w part))
    statements_add (case z rest) t w part = statements_add rest t w part
    statements_add (default rest) t w part = statements_add rest t w part
