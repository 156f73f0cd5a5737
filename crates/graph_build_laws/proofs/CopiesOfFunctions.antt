-- The blocks of a function copy a temporary to a scalar only where a block begins, or where it has the value that the scalar had before.
use Rattle.std.proofs.Common.{◌≡◌, ◌⊎◌, inl, inr, ℕ, ◌+◌, ◌*◌, Bool, true, false, Option, Some, None, List, [], ◌∷◌, ◌++◌, reverse, refl, if◌then◌else◌}
use Rattle.std.specs.Prelude.{nat_le}
use Rattle.c_tree.specs.declared.object_type.Scalar.{Scalar}
use Rattle.c_tree.specs.declared.object_type.ObjectType.{ObjectType}
use Rattle.c_tree.specs.declared.object_type.ObjectType.TheVariants as of-object
use Rattle.c_tree.specs.TypedExpressions.{RvalueTree}
use Rattle.c_tree.specs.TypedStatements as statement
use Rattle.c_tree.specs.TypedStatements.{InitialTree, Zero, Scalar as scalar-initial, Elements, Literal, DeclaredTree, TypedStartTree, Nothing, Value, Declares, StepTree, TypedStatementTree, Block, Declaration, Empty, Run, If, IfElse, While, DoWhile, For, Switch, Break, Continue, Return, TypedStatementTrees, case, default}
use Rattle.c_tree.specs.Programs.{TypedFunctionTree}
use Rattle.c_type_rules.specs.Integers.{scalar_size}
use Rattle.c_places.specs.Places.{parameters_of}
use Rattle.c_flow.specs.declared.edge.Ways.{Ways}
use Rattle.c_flow.specs.Flow.{start_place, start_of_all, start_of_declarators, round_of, within_loop, within_switch, ways_before as with_rest, ways_of_body}
use Rattle.graph_core.specs.declared.block.Comparison.TheVariants as branch
use Rattle.graph_core.specs.Graphs as unit
use Rattle.graph_core.specs.Graphs.{Operand, Instruction, Marker, Automatic, Store, CopyWords}
use Rattle.graph_core.specs.Paths.{Among, front, behind}
use Rattle.graph_build_names.specs.Conversions.{unsigned_bits}
use Rattle.graph_build_layout.specs.declared.laid.Use.TheVariants.{Anywhere, Tested}
use Rattle.graph_build_names.specs.Names.{scalar_of, object_of, pick}
use Rattle.graph_build_layout.specs.Layout.{laid}
use Rattle.graph_build_steps.specs.Rules.{element_of}
use Rattle.graph_build_steps.specs.Drafts.{Made, Goal, To, Unused, Either, instruction_before, ending, note, with_inner_block, label_of}
use Rattle.graph_build_steps.specs.Steps.{or_zero}
use Rattle.graph_build_code.specs.Code.{code}
use Rattle.graph_build_statements.specs.Coding.{Coding, Part, place_of, block_of, begun, going, label_for, with_end, placed_at, coded}
use Rattle.graph_build_statements.specs.Reached.{bare, reached, initial_reached, start_reached, condition_reached, statement_reached}
use Rattle.graph_build_statements.specs.Declaring.{object_type_of, words_of, cleared, store_elements, copied_words, declare_single, declare_array, declare_kept, declare_scalar, declare_as, declare, add_declared}
use Rattle.graph_build_statements.specs.Forms.{default_start, tests, add_run, add_going, add_branching, add_start, add_step, add_head, add_result, add_switch, add, add_all}
use Rattle.graph_build.specs.Units.{note_if, note_parameters, add_close, body_part, function_part, blocks_in}
use Rattle.graph_build_laws.proofs.Standing.{among_either, among_reversed}
use Rattle.graph_build_laws.proofs.Written.{NamesFew}
use Rattle.graph_build_laws.proofs.Copies.{Meets, AllMeet, IsKept, OfGoal, is_move, no_copy, met, closed, none_meet, ended, before_kept, step_kept, note_kept}
use Rattle.graph_build_laws.proofs.CopiesOfExpressions.{code_keeps}

module _ (c : Coding) (few : NamesFew c.names c.scalars) where
  abbrev K : Made → Type 0
  K m = IsKept c.scalars m

  abbrev A : List unit.Block → Type 0
  A all = AllMeet c.scalars all

  -- the blocks of a part do
  abbrev Fine : Part → Type 0
  Fine part = AllMeet c.scalars part.placed × AllMeet c.scalars part.inner

  step : (i : Instruction) (m : Made) → is_move i ≡ false → K m → K (instruction_before i m)
  step i m plain h = step_kept c.scalars i m plain h

  coded_keeps : (at : ℕ) (e : RvalueTree) (t : ℕ) (g : Goal) → OfGoal c.scalars g → K (coded c at e t g)
  coded_keeps at e t g h = code_keeps c.scalars (place_of c at) c.top c.names few e (begun c t) g h

  going_kept : (next : Option ℕ) (inner : List unit.Block) → A inner → K (going c next inner)
  going_kept (Some to) inner h = ended c.scalars (unit.Jump (block_of c to)) inner h
  going_kept None inner h = ended c.scalars (unit.Return None) inner h

  end_meets : (at : ℕ) (next : Option ℕ) (inner : List unit.Block) → A inner → A (with_end c at next inner)
  end_meets at (Some to) inner h = h
  end_meets at None inner h = let m = ending (unit.Return None) inner in closed c.scalars (place_of c at) m (met c.scalars m (ended c.scalars (unit.Return None) inner h))

  -- the block of a place
  placed_fine : (at : ℕ) (m : Made) (later : List unit.Block) → K m → A later → Fine (placed_at c at m later)
  placed_fine at m later h k = (λ b a. by b a, h.1)
    where
      begins : Meets c.scalars (Marker (place_of c at) ∷ m.ops)
      begins = (met c.scalars (instruction_before (Marker (place_of c at)) m) (step (Marker (place_of c at)) m refl h)).0

      by : (b : unit.Block) → Among b (placed_at c at m later).placed → Meets c.scalars b.instructions
      by b front = begins
      by b (behind a) = k b a

  run_fine : (at : ℕ) (e : RvalueTree) (t : ℕ) (next : Option ℕ) (part : Part) → Fine part → Fine (add_run c at e t next part)
  run_fine at e t next part h =
      let go = going c next part.inner in placed_fine at (coded c at e t (Unused go)) part.placed (coded_keeps at e t (Unused go) (going_kept next part.inner h.1)) h.0

  going_fine : (at : ℕ) (next : Option ℕ) (part : Part) → Fine part → Fine (add_going c at next part)
  going_fine at next part h = placed_fine at (going c next part.inner) part.placed (going_kept next part.inner h.1) h.0

  branching_fine : (at : ℕ) (e : RvalueTree) (t : ℕ) (one other : Option ℕ) (part : Part) → Fine part → Fine (add_branching c at e t one other part)
  branching_fine at e t one other part h =
      let ends = with_end c at other part.inner in
      let all = with_end c at one ends in
      let g = Either (label_for c one ends) (label_for c other part.inner) all in
      placed_fine at (coded c at e t g) part.placed (coded_keeps at e t g (end_meets at one ends (end_meets at other part.inner h.1))) h.0

  -- declarators
  cleared_kept : (object bytes covered : ℕ) (m : Made) → K m → K (cleared object bytes covered m)
  cleared_kept object bytes covered m h = go (nat_le (words_of bytes) covered)
    where
      go : (b : Bool) → K (if b then m else instruction_before (unit.Zero object (words_of bytes)) m)
      go true = h
      go false = step (unit.Zero object (words_of bytes)) m refl h

  stored : (at : ℕ) (i : Instruction) (e : RvalueTree) (t : ℕ) (m : Made) → is_move i ≡ false → K m → K (code c.names (place_of c at) c.top e t (To None (instruction_before i m)))
  stored at i e t m plain h = code_keeps c.scalars (place_of c at) c.top c.names few e t (To None (instruction_before i m)) (step i m plain h)

  elements_kept : (at : ℕ) (s : Scalar) (object index : ℕ) (all : List RvalueTree) (t : ℕ) (m : Made) → K m → K (store_elements c at s object index all t m)
  elements_kept at s object index [] t m h = h
  elements_kept at s object index (e ∷ more) t m h =
      let r = laid c.names (bare e) Anywhere t in
      let rest = store_elements c at s object (index + 1) more (pick c.names t r.top) m in
      stored at (Store (element_of s) (Automatic object (index * scalar_size s)) r.value) (bare e) t rest refl (elements_kept at s object (index + 1) more (pick c.names t r.top) m h)

  single_kept : (at object : ℕ) (s : Scalar) (i : InitialTree) (t : ℕ) (m : Made) → K m → K (declare_single c at object s i t m)
  single_kept at object s Zero t m h = step (Store (element_of s) (Automatic object 0) (unit.Constant 0)) m refl h
  single_kept at object s (scalar-initial e) t m h = stored at (Store (element_of s) (Automatic object 0) (laid c.names e Anywhere (begun c t)).value) e (begun c t) m refl h
  single_kept at object s (Elements all) t m h = cleared_kept object (scalar_size s) 0 m h
  single_kept at object s (Literal k) t m h = cleared_kept object (scalar_size s) 0 m h

  array_kept : (at object : ℕ) (s : Scalar) (bytes : ℕ) (i : InitialTree) (t : ℕ) (m : Made) → K m → K (declare_array c at object s bytes i t m)
  array_kept at object s bytes (Elements all) t m h = cleared_kept object bytes 0 (store_elements c at s object 0 all (begun c t) m) (elements_kept at s object 0 all (begun c t) m h)
  array_kept at object s bytes (Literal k) t m h =
      let rest = instruction_before (CopyWords object k (copied_words c k bytes)) m in
      cleared_kept object bytes (copied_words c k bytes) rest (step (CopyWords object k (copied_words c k bytes)) m refl h)
  array_kept at object s bytes Zero t m h = cleared_kept object bytes 0 m h
  array_kept at object s bytes (scalar-initial e) t m h = cleared_kept object bytes 0 m h

  object_kept : (at object : ℕ) (of : ObjectType) (i : InitialTree) (t : ℕ) (m : Made) → K m → K (declare_kept c at object of i t m)
  object_kept at object (of-object.Scalar s) i t m h = single_kept at object s i t m h
  object_kept at object (of-object.Array s count) i t m h = array_kept at object s (scalar_size s * count) i t m h

  noted : (x : ℕ) (m : Made) → K m → K (note x m)
  noted x m h = note_kept c.scalars x m h

  moved_note : (x : ℕ) (m : Made) → K m → K (instruction_before (unit.Move x (unit.Constant 0)) (note x m))
  moved_note x m h = before_kept c.scalars (unit.Move x (unit.Constant 0)) (note x m) (no_copy c.scalars x (unit.Constant 0) tt) (noted x m h)

  scalar_kept : (at x : ℕ) (i : InitialTree) (t : ℕ) (m : Made) → K m → K (declare_scalar c at x i t m)
  scalar_kept at x (scalar-initial e) t m h = coded_keeps at e t (To (Some x) (note x m)) (noted x m h)
  scalar_kept at x Zero t m h = moved_note x m h
  scalar_kept at x (Elements all) t m h = moved_note x m h
  scalar_kept at x (Literal k) t m h = moved_note x m h

  declared : (o : Option ℕ) (d : DeclaredTree) (t : ℕ) (m : Made) → K m → K (declare_as c o d t m)
  declared (Some x) d t m h = scalar_kept d.spot.at x d.initial t m h
  declared None d t m h = object_kept d.spot.at (or_zero (object_of c.names d.variable)) (object_type_of c.program d.variable) d.initial t m h

  declared_fine : (all : List DeclaredTree) (t : ℕ) (next : Option ℕ) (part : Part) → Fine part → Fine (add_declared c all t next part)
  declared_fine [] t next part h = h
  declared_fine (d ∷ more) t next part h =
      let later = add_declared c more (initial_reached c (scalar_of c.names d.variable) d.initial t) next part in
      let fine = declared_fine more (initial_reached c (scalar_of c.names d.variable) d.initial t) next part h in
      let go = going c (start_of_declarators more next) later.inner in
      placed_fine d.spot.at (declare c d t go) later.placed (declared (scalar_of c.names d.variable) d t go (going_kept (start_of_declarators more next) later.inner fine.1)) fine.0

  -- the parts of a `for`
  start_fine : (begin : TypedStartTree) (t head : ℕ) (part : Part) → Fine part → Fine (add_start c begin t head part)
  start_fine Nothing t head part h = h
  start_fine (Value spot e) t head part h = run_fine spot.at e t (Some head) part h
  start_fine (Declares all) t head part h = declared_fine all t (Some head) part h

  step_fine : (s : Option StepTree) (t head : ℕ) (part : Part) → Fine part → Fine (add_step c s t head part)
  step_fine None t head part h = h
  step_fine (Some s) t head part h = run_fine s.spot.at s.value t (Some head) part h

  head_fine : (begin : TypedStartTree) (t at : ℕ) (e : Option RvalueTree) (inside next : Option ℕ) (part : Part) → Fine part → Fine (add_head c begin t at e inside next part)
  head_fine begin t at None inside next part h = going_fine at inside (add_start c begin t at part) (start_fine begin t at part h)
  head_fine begin t at (Some e) inside next part h =
      start_fine begin t at (add_branching c at e (start_reached c begin t) inside next part) (branching_fine at e (start_reached c begin t) inside next part h)

  result_fine : (at : ℕ) (e : Option RvalueTree) (t : ℕ) (part : Part) → Fine part → Fine (add_result c at e t part)
  result_fine at None t part h = placed_fine at (ending (unit.Return None) part.inner) part.placed (ended c.scalars (unit.Return None) part.inner h.1) h.0
  result_fine at (Some e) t part h =
      let m = ending (unit.Return (Some (laid c.names e Anywhere (begun c t)).value)) part.inner in
      placed_fine at (coded c at e t (To None m)) part.placed (coded_keeps at e t (To None m) (ended c.scalars (unit.Return (Some (laid c.names e Anywhere (begun c t)).value)) part.inner h.1)) h.0

  -- the tests of a `switch`
  tests_kept : (at : ℕ) (a : Operand) (all : TypedStatementTrees) (next other : Option ℕ) (inner : List unit.Block) → A inner → K (tests c at a all next other inner)
  tests_kept at a statement.none next other inner h = going_kept other inner h
  tests_kept at a (statement.first s rest) next other inner h = tests_kept at a rest next other inner h
  tests_kept at a (default rest) next other inner h = tests_kept at a rest next other inner h
  tests_kept at a (case z rest) next other inner h =
      let to = start_of_all rest next in
      let m = tests c at a rest next other (with_end c at to inner) in
      let kept = tests_kept at a rest next other (with_end c at to inner) (end_meets at to inner h) in
      ended c.scalars (unit.Branch branch.Equal a (unit.Constant (unsigned_bits z)) (label_for c to inner) (label_of c.top m)) (with_inner_block (place_of c at) m) (closed c.scalars (place_of c at) m (met c.scalars m kept))

  switch_fine : (at : ℕ) (e : RvalueTree) (all : TypedStatementTrees) (t : ℕ) (next : Option ℕ) (part : Part) → Fine part → Fine (add_switch c at e all t next part)
  switch_fine at e all t next part h =
      let a = (laid c.names e Anywhere (begun c t)).value in
      let m = tests c at a all next (default_start all next) part.inner in
      placed_fine at (coded c at e t (To None m)) part.placed (coded_keeps at e t (To None m) (tests_kept at a all next (default_start all next) part.inner h.1)) h.0

  mutual
    statement_fine : (s : TypedStatementTree) (t : ℕ) (w : Ways) (part : Part) → Fine part → Fine (add c s t w part)
    statement_fine (Block all) t w part h = statements_fine all t w part h
    statement_fine (Declaration all) t w part h = declared_fine all t w.next part h
    statement_fine (Empty spot) t w part h = going_fine spot.at w.next part h
    statement_fine (Run spot e) t w part h = run_fine spot.at e t w.next part h
    statement_fine (If spot e s) t w part h =
        branching_fine spot.at e t (start_place s w.next) w.next (add c s (reached c e Tested t) w part) (statement_fine s (reached c e Tested t) w part h)
    statement_fine (IfElse spot e s r) t w part h =
        let behind_s = statement_reached c s (reached c e Tested t) in
        let last = add c r behind_s w part in
        branching_fine spot.at e t (start_place s w.next) (start_place r w.next) (add c s (reached c e Tested t) w last) (statement_fine s (reached c e Tested t) w last (statement_fine r behind_s w part h))
    statement_fine (While spot e s) t w part h =
        branching_fine spot.at e t (start_place s (Some spot.at)) w.next (add c s (reached c e Tested t) (within_loop spot.at w) part) (statement_fine s (reached c e Tested t) (within_loop spot.at w) part h)
    statement_fine (DoWhile s spot e) t w part h =
        let later = add_branching c spot.at e (statement_reached c s t) (start_place s (Some spot.at)) w.next part in
        statement_fine s t (within_loop spot.at w) later (branching_fine spot.at e (statement_reached c s t) (start_place s (Some spot.at)) w.next part h)
    statement_fine (For begin spot e step s) t w part h =
        let round = round_of step spot.at in
        let behind_head = condition_reached c e (start_reached c begin t) in
        let body = add c s behind_head (within_loop round w) part in
        let later = add_step c step (statement_reached c s behind_head) spot.at body in
        head_fine begin t spot.at e (start_place s (Some round)) w.next later (step_fine step (statement_reached c s behind_head) spot.at body (statement_fine s behind_head (within_loop round w) part h))
    statement_fine (Switch spot e all) t w part h =
        switch_fine spot.at e all t w.next (add_all c all (reached c e Anywhere t) (within_switch w) part) (statements_fine all (reached c e Anywhere t) (within_switch w) part h)
    statement_fine (Break spot) t w part h = going_fine spot.at w.by_break part h
    statement_fine (Continue spot) t w part h = going_fine spot.at w.by_continue part h
    statement_fine (Return spot e) t w part h = result_fine spot.at e t part h

    statements_fine : (all : TypedStatementTrees) (t : ℕ) (w : Ways) (part : Part) → Fine part → Fine (add_all c all t w part)
    statements_fine statement.none t w part h = h
    statements_fine (statement.first s rest) t w part h =
        statement_fine s t (with_rest rest w) (add_all c rest (statement_reached c s t) w part) (statements_fine rest (statement_reached c s t) w part h)
    statements_fine (case z rest) t w part h = statements_fine rest t w part h
    statements_fine (default rest) t w part h = statements_fine rest t w part h

  -- its parameters, its statements and its closing brace
  noted_if : (o : Option ℕ) (m : Made) → K m → K (note_if c.names o m)
  noted_if None m h = h
  noted_if (Some x) m h = noted x m h

  noted_all : (all : List ℕ) (m : Made) → K m → K (note_parameters c.names all m)
  noted_all [] m h = h
  noted_all (x ∷ more) m h = noted_if (scalar_of c.names x) (note_parameters c.names more m) (noted_all more m h)

  close_fine : (is_main : Bool) (closing : Option ℕ) (part : Part) → Fine part → Fine (add_close c is_main closing part)
  close_fine is_main None part h = h
  close_fine is_main (Some at) part h =
      let e = unit.Return (if is_main then Some (unit.Constant 0) else None) in placed_fine at (ending e part.inner) part.placed (ended c.scalars e part.inner h.1) h.0

  function_fine : (f : TypedFunctionTree) (is_main : Bool) → Fine (function_part c f is_main)
  function_fine f is_main =
      let ways = ways_of_body f in
      let empty : Part = record { placed = []; inner = [] } in
      let closing = add_close c is_main ways.next empty in
      let body = body_part c f is_main in
      let fine : Fine body = statements_fine f.body c.scalars ways closing (close_fine is_main ways.next empty (none_meet c.scalars, none_meet c.scalars)) in
      let to = start_of_all f.body ways.next in
      let go = going c to body.inner in
      placed_fine f.spot.at (note_parameters c.names (parameters_of f) go) body.placed (noted_all (parameters_of f) go (going_kept to body.inner fine.1)) fine.0

  pub function_meets : (f : TypedFunctionTree) (is_main : Bool) → AllMeet c.scalars (blocks_in c (function_part c f is_main))
  function_meets f is_main b a = by (among_either part.placed (reverse part.inner) b a)
    where
      part : Part
      part = function_part c f is_main

      fine : Fine part
      fine = function_fine f is_main

      by : Among b part.placed ⊎ Among b (reverse part.inner) → Meets c.scalars b.instructions
      by (inl a) = fine.0 b a
      by (inr a) = fine.1 b (among_reversed part.inner b a)
