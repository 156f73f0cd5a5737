-- The number of a function's blocks hangs on no label.
use Rattle.std.proofs.Common.{◌≡◌, ℕ, ◌+◌, ◌*◌, Bool, true, false, Option, Some, None, List, [], ◌∷◌, length, refl, arith, if◌then◌else◌}
use Rattle.std.specs.Prelude.{nat_le}
use Rattle.c_tree.specs.declared.object_type.Scalar.{Scalar}
use Rattle.c_tree.specs.declared.object_type.ObjectType.{ObjectType}
use Rattle.c_tree.specs.declared.object_type.ObjectType.TheVariants as of-object
use Rattle.c_tree.specs.TypedExpressions.{RvalueTree}
use Rattle.c_tree.specs.TypedStatements as statement
use Rattle.c_tree.specs.TypedStatements.{InitialTree, Zero, Scalar as scalar-initial, Elements, Literal, DeclaredTree, TypedStartTree, Nothing, Value, Declares, StepTree, TypedStatementTree, Block, Declaration, Empty, Run, If, IfElse, While, DoWhile, For, Switch, Break, Continue, Return, TypedStatementTrees, case, default}
use Rattle.c_type_rules.specs.Integers.{scalar_size}
use Rattle.c_flow.specs.declared.edge.Ways.{Ways}
use Rattle.c_flow.specs.Flow.{start_place, start_of_all, start_of_declarators, round_of, within_loop, within_switch, ways_before as with_rest}
use Rattle.graph_core.specs.Graphs as unit
use Rattle.graph_core.specs.Graphs.{Operand, Automatic, Store, CopyWords}
use Rattle.graph_build_layout.specs.declared.laid.Use.TheVariants.{Anywhere, Tested}
use Rattle.graph_build_names.specs.Names.{scalar_of, object_of, pick}
use Rattle.graph_build_layout.specs.Layout.{laid}
use Rattle.graph_build_steps.specs.Rules.{element_of}
use Rattle.graph_build_steps.specs.Drafts.{Made, Goal, To, Unused, Either, instruction_before, ending, note}
use Rattle.graph_build_steps.specs.Steps.{or_zero}
use Rattle.graph_build_code.specs.Code.{code}
use Rattle.graph_build_statements.specs.Coding.{Coding, Part, place_of, begun, going, label_for, with_end, placed_at, coded}
use Rattle.graph_build_statements.specs.Reached.{bare, reached, initial_reached, start_reached, condition_reached, statement_reached}
use Rattle.graph_build_statements.specs.Declaring.{object_type_of, words_of, cleared, store_elements, copied_words, declare_single, declare_array, declare_kept, declare_scalar, declare_as, add_declared}
use Rattle.graph_build_statements.specs.Forms.{default_start, tests, add_run, add_going, add_branching, add_start, add_step, add_head, add_result, add_switch, add, add_all}
use Rattle.graph_build_laws.proofs.InnerPieces.{goal_inner, is_tested, closed_length}
use Rattle.graph_build_laws.proofs.InnerBlocks.{code_inner}

-- the same code in a graph of another number of blocks
abbrev pub in_graph_of : ℕ → Coding → Coding
in_graph_of k c = record c { top = k }

-- two parts have as many blocks of places, and as many others
abbrev pub SameSize : Part → Part → Type 0
SameSize a b = (length a.placed ≡ length b.placed) × (length a.inner ≡ length b.inner)

-- so many inner blocks more or less do not matter
cleared_size : (object bytes covered : ℕ) (m : Made) → length (cleared object bytes covered m).inner ≡ length m.inner
cleared_size object bytes covered m = go (nat_le (words_of bytes) covered)
  where
    go : (b : Bool) → length (if b then m else instruction_before (unit.Zero object (words_of bytes)) m).inner ≡ length m.inner
    go true = refl
    go false = refl

module _ (c : Coding) (k : ℕ) where
  abbrev d : Coding
  d = in_graph_of k c

  -- goals with as many inner blocks, that are both tested or are not, have code with as many
  code_size : (at : ℕ) (e : RvalueTree) (t : ℕ) (g h : Goal) → goal_inner g ≡ goal_inner h → is_tested g ≡ is_tested h → length (code c.names (place_of c at) c.top e t g).inner ≡ length (code c.names (place_of c at) k e t h).inner
  code_size at e t g h same tested =
      by (is_tested g) (is_tested h) tested (code_inner c.names (place_of c at) c.top e t g) (code_inner c.names (place_of c at) k e t h)
    where
      by : (a b : Bool) → a ≡ b → length (code c.names (place_of c at) c.top e t g).inner ≡ goal_inner g + Rattle.graph_build_names.specs.Inner.inner a e → length (code c.names (place_of c at) k e t h).inner ≡ goal_inner h + Rattle.graph_build_names.specs.Inner.inner b e →
          length (code c.names (place_of c at) c.top e t g).inner ≡ length (code c.names (place_of c at) k e t h).inner
      by true true s x y = omega (arith, x, y, same)
      by false false s x y = omega (arith, x, y, same)
      by true false s x y = cc
      by false true s x y = cc

  going_size : (next : Option ℕ) (xs ys : List unit.Block) → length xs ≡ length ys → length (going c next xs).inner ≡ length (going d next ys).inner
  going_size (Some at) xs ys h = h
  going_size None xs ys h = h

  end_size : (at : ℕ) (next : Option ℕ) (xs ys : List unit.Block) → length xs ≡ length ys → length (with_end c at next xs) ≡ length (with_end d at next ys)
  end_size at (Some to) xs ys h = h
  end_size at None xs ys h = omega (arith, h, closed_length (place_of c at) (ending (unit.Return None) xs), closed_length (place_of c at) (ending (unit.Return None) ys))

  placed_size : (at : ℕ) (m l : Made) (xs ys : List unit.Block) → length m.inner ≡ length l.inner → length xs ≡ length ys → SameSize (placed_at c at m xs) (placed_at d at l ys)
  placed_size at m l xs ys h g = (omega (arith, g), h)

  run_size : (at : ℕ) (e : RvalueTree) (t : ℕ) (next : Option ℕ) (a b : Part) → SameSize a b → SameSize (add_run c at e t next a) (add_run d at e t next b)
  run_size at e t next a b h =
      placed_size at (coded c at e t (Unused (going c next a.inner))) (coded d at e t (Unused (going d next b.inner))) a.placed b.placed
      (code_size at e (begun c t) (Unused (going c next a.inner)) (Unused (going d next b.inner)) (going_size next a.inner b.inner h.1) refl) h.0

  goes_size : (at : ℕ) (next : Option ℕ) (a b : Part) → SameSize a b → SameSize (add_going c at next a) (add_going d at next b)
  goes_size at next a b h = placed_size at (going c next a.inner) (going d next b.inner) a.placed b.placed (going_size next a.inner b.inner h.1) h.0

  branching_size : (at : ℕ) (e : RvalueTree) (t : ℕ) (one other : Option ℕ) (a b : Part) → SameSize a b → SameSize (add_branching c at e t one other a) (add_branching d at e t one other b)
  branching_size at e t one other a b h =
      let ends = with_end c at other a.inner in let ends' = with_end d at other b.inner in
      let g = Either (label_for c one ends) (label_for c other a.inner) (with_end c at one ends) in
      let g' = Either (label_for d one ends') (label_for d other b.inner) (with_end d at one ends') in
      placed_size at (coded c at e t g) (coded d at e t g') a.placed b.placed
      (code_size at e (begun c t) g g' (end_size at one ends ends' (end_size at other a.inner b.inner h.1)) refl) h.0

  elements_size : (at : ℕ) (s : Scalar) (object index : ℕ) (all : List RvalueTree) (t : ℕ) (m l : Made) → length m.inner ≡ length l.inner → length (store_elements c at s object index all t m).inner ≡ length (store_elements d at s object index all t l).inner
  elements_size at s object index [] t m l h = h
  elements_size at s object index (e ∷ more) t m l h =
      let r = laid c.names (bare e) Anywhere t in
      let i = Store (element_of s) (Automatic object (index * scalar_size s)) r.value in
      code_size at (bare e) t (To None (instruction_before i (store_elements c at s object (index + 1) more (pick c.names t r.top) m))) (To None (instruction_before i (store_elements d at s object (index + 1) more (pick c.names t r.top) l)))
      (elements_size at s object (index + 1) more (pick c.names t r.top) m l h) refl

  single_size : (at object : ℕ) (s : Scalar) (i : InitialTree) (t : ℕ) (m l : Made) → length m.inner ≡ length l.inner → length (declare_single c at object s i t m).inner ≡ length (declare_single d at object s i t l).inner
  single_size at object s Zero t m l h = h
  single_size at object s (scalar-initial e) t m l h =
      let i = Store (element_of s) (Automatic object 0) (laid c.names e Anywhere (begun c t)).value in code_size at e (begun c t) (To None (instruction_before i m)) (To None (instruction_before i l)) h refl
  single_size at object s (Elements all) t m l h = omega (arith, h, cleared_size object (scalar_size s) 0 m, cleared_size object (scalar_size s) 0 l)
  single_size at object s (Literal n) t m l h = omega (arith, h, cleared_size object (scalar_size s) 0 m, cleared_size object (scalar_size s) 0 l)

  array_size : (at object : ℕ) (s : Scalar) (bytes : ℕ) (i : InitialTree) (t : ℕ) (m l : Made) → length m.inner ≡ length l.inner → length (declare_array c at object s bytes i t m).inner ≡ length (declare_array d at object s bytes i t l).inner
  array_size at object s bytes (Elements all) t m l h =
      omega (arith, cleared_size object bytes 0 (store_elements c at s object 0 all (begun c t) m), cleared_size object bytes 0 (store_elements d at s object 0 all (begun c t) l), elements_size at s object 0 all (begun c t) m l h)
  array_size at object s bytes (Literal n) t m l h =
      omega (arith, h, cleared_size object bytes (copied_words c n bytes) (instruction_before (CopyWords object n (copied_words c n bytes)) m), cleared_size object bytes (copied_words c n bytes) (instruction_before (CopyWords object n (copied_words c n bytes)) l))
  array_size at object s bytes Zero t m l h = omega (arith, h, cleared_size object bytes 0 m, cleared_size object bytes 0 l)
  array_size at object s bytes (scalar-initial e) t m l h = omega (arith, h, cleared_size object bytes 0 m, cleared_size object bytes 0 l)

  kept_size : (at object : ℕ) (of : ObjectType) (i : InitialTree) (t : ℕ) (m l : Made) → length m.inner ≡ length l.inner → length (declare_kept c at object of i t m).inner ≡ length (declare_kept d at object of i t l).inner
  kept_size at object (of-object.Scalar s) i t m l h = single_size at object s i t m l h
  kept_size at object (of-object.Array s count) i t m l h = array_size at object s (scalar_size s * count) i t m l h

  scalar_size' : (at x : ℕ) (i : InitialTree) (t : ℕ) (m l : Made) → length m.inner ≡ length l.inner → length (declare_scalar c at x i t m).inner ≡ length (declare_scalar d at x i t l).inner
  scalar_size' at x (scalar-initial e) t m l h = code_size at e (begun c t) (To (Some x) (note x m)) (To (Some x) (note x l)) h refl
  scalar_size' at x Zero t m l h = h
  scalar_size' at x (Elements all) t m l h = h
  scalar_size' at x (Literal n) t m l h = h

  declare_size : (o : Option ℕ) (v : DeclaredTree) (t : ℕ) (m l : Made) → length m.inner ≡ length l.inner → length (declare_as c o v t m).inner ≡ length (declare_as d o v t l).inner
  declare_size (Some x) v t m l h = scalar_size' v.spot.at x v.initial t m l h
  declare_size None v t m l h = kept_size v.spot.at (or_zero (object_of c.names v.variable)) (object_type_of c.program v.variable) v.initial t m l h

  declared_size : (all : List DeclaredTree) (t : ℕ) (next : Option ℕ) (a b : Part) → SameSize a b → SameSize (add_declared c all t next a) (add_declared d all t next b)
  declared_size [] t next a b h = h
  declared_size (v ∷ more) t next a b h =
      let o = scalar_of c.names v.variable in
      let t' = initial_reached c o v.initial t in
      let x = add_declared c more t' next a in let y = add_declared d more t' next b in
      let s = declared_size more t' next a b h in
      let to = start_of_declarators more next in
      placed_size v.spot.at (declare_as c o v t (going c to x.inner)) (declare_as d o v t (going d to y.inner)) x.placed y.placed (declare_size o v t (going c to x.inner) (going d to y.inner) (going_size to x.inner y.inner s.1)) s.0

  begin_size : (begin : TypedStartTree) (t head : ℕ) (a b : Part) → SameSize a b → SameSize (add_start c begin t head a) (add_start d begin t head b)
  begin_size Nothing t head a b h = h
  begin_size (Value spot e) t head a b h = run_size spot.at e t (Some head) a b h
  begin_size (Declares all) t head a b h = declared_size all t (Some head) a b h

  round_size : (step : Option StepTree) (t head : ℕ) (a b : Part) → SameSize a b → SameSize (add_step c step t head a) (add_step d step t head b)
  round_size None t head a b h = h
  round_size (Some s) t head a b h = run_size s.spot.at s.value t (Some head) a b h

  head_size : (begin : TypedStartTree) (t at : ℕ) (e : Option RvalueTree) (inside next : Option ℕ) (a b : Part) → SameSize a b → SameSize (add_head c begin t at e inside next a) (add_head d begin t at e inside next b)
  head_size begin t at None inside next a b h = goes_size at inside (add_start c begin t at a) (add_start d begin t at b) (begin_size begin t at a b h)
  head_size begin t at (Some e) inside next a b h =
      begin_size begin t at (add_branching c at e (start_reached c begin t) inside next a) (add_branching d at e (start_reached c begin t) inside next b) (branching_size at e (start_reached c begin t) inside next a b h)

  result_size : (at : ℕ) (e : Option RvalueTree) (t : ℕ) (a b : Part) → SameSize a b → SameSize (add_result c at e t a) (add_result d at e t b)
  result_size at None t a b h = placed_size at (ending (unit.Return None) a.inner) (ending (unit.Return None) b.inner) a.placed b.placed h.1 h.0
  result_size at (Some e) t a b h =
      let v = unit.Return (Some (laid c.names e Anywhere (begun c t)).value) in
      placed_size at (coded c at e t (To None (ending v a.inner))) (coded d at e t (To None (ending v b.inner))) a.placed b.placed (code_size at e (begun c t) (To None (ending v a.inner)) (To None (ending v b.inner)) h.1 refl) h.0

  tests_size : (at : ℕ) (v : Operand) (all : TypedStatementTrees) (next other : Option ℕ) (xs ys : List unit.Block) → length xs ≡ length ys → length (tests c at v all next other xs).inner ≡ length (tests d at v all next other ys).inner
  tests_size at v statement.none next other xs ys h = going_size other xs ys h
  tests_size at v (statement.first s rest) next other xs ys h = tests_size at v rest next other xs ys h
  tests_size at v (case z rest) next other xs ys h =
      let to = start_of_all rest next in
      let m = tests c at v rest next other (with_end c at to xs) in let l = tests d at v rest next other (with_end d at to ys) in
      omega (arith, closed_length (place_of c at) m, closed_length (place_of c at) l, tests_size at v rest next other (with_end c at to xs) (with_end d at to ys) (end_size at to xs ys h))
  tests_size at v (default rest) next other xs ys h = tests_size at v rest next other xs ys h

  switch_size : (at : ℕ) (e : RvalueTree) (all : TypedStatementTrees) (t : ℕ) (next : Option ℕ) (a b : Part) → SameSize a b → SameSize (add_switch c at e all t next a) (add_switch d at e all t next b)
  switch_size at e all t next a b h =
      let v = (laid c.names e Anywhere (begun c t)).value in
      let m = tests c at v all next (default_start all next) a.inner in let l = tests d at v all next (default_start all next) b.inner in
      placed_size at (coded c at e t (To None m)) (coded d at e t (To None l)) a.placed b.placed (code_size at e (begun c t) (To None m) (To None l) (tests_size at v all next (default_start all next) a.inner b.inner h.1) refl) h.0

  mutual
    pub statement_size : (s : TypedStatementTree) (t : ℕ) (w : Ways) (a b : Part) → SameSize a b → SameSize (add c s t w a) (add d s t w b)
    statement_size (Block all) t w a b h = statements_size all t w a b h
    statement_size (Declaration all) t w a b h = declared_size all t w.next a b h
    statement_size (Empty spot) t w a b h = goes_size spot.at w.next a b h
    statement_size (Run spot e) t w a b h = run_size spot.at e t w.next a b h
    statement_size (If spot e s) t w a b h =
        branching_size spot.at e t (start_place s w.next) w.next (add c s (reached c e Tested t) w a) (add d s (reached c e Tested t) w b) (statement_size s (reached c e Tested t) w a b h)
    statement_size (IfElse spot e s r) t w a b h =
        let behind_s = statement_reached c s (reached c e Tested t) in
        branching_size spot.at e t (start_place s w.next) (start_place r w.next) (add c s (reached c e Tested t) w (add c r behind_s w a)) (add d s (reached c e Tested t) w (add d r behind_s w b))
        (statement_size s (reached c e Tested t) w (add c r behind_s w a) (add d r behind_s w b) (statement_size r behind_s w a b h))
    statement_size (While spot e s) t w a b h =
        branching_size spot.at e t (start_place s (Some spot.at)) w.next (add c s (reached c e Tested t) (within_loop spot.at w) a) (add d s (reached c e Tested t) (within_loop spot.at w) b) (statement_size s (reached c e Tested t) (within_loop spot.at w) a b h)
    statement_size (DoWhile s spot e) t w a b h =
        statement_size s t (within_loop spot.at w) (add_branching c spot.at e (statement_reached c s t) (start_place s (Some spot.at)) w.next a) (add_branching d spot.at e (statement_reached c s t) (start_place s (Some spot.at)) w.next b)
        (branching_size spot.at e (statement_reached c s t) (start_place s (Some spot.at)) w.next a b h)
    statement_size (For begin spot e step s) t w a b h =
        let behind_head = condition_reached c e (start_reached c begin t) in
        let ways = within_loop (round_of step spot.at) w in
        let x = add c s behind_head ways a in let y = add d s behind_head ways b in
        let t' = statement_reached c s behind_head in
        head_size begin t spot.at e (start_place s (Some (round_of step spot.at))) w.next (add_step c step t' spot.at x) (add_step d step t' spot.at y) (round_size step t' spot.at x y (statement_size s behind_head ways a b h))
    statement_size (Switch spot e all) t w a b h =
        switch_size spot.at e all t w.next (add_all c all (reached c e Anywhere t) (within_switch w) a) (add_all d all (reached c e Anywhere t) (within_switch w) b) (statements_size all (reached c e Anywhere t) (within_switch w) a b h)
    statement_size (Break spot) t w a b h = goes_size spot.at w.by_break a b h
    statement_size (Continue spot) t w a b h = goes_size spot.at w.by_continue a b h
    statement_size (Return spot e) t w a b h = result_size spot.at e t a b h

    pub statements_size : (all : TypedStatementTrees) (t : ℕ) (w : Ways) (a b : Part) → SameSize a b → SameSize (add_all c all t w a) (add_all d all t w b)
    statements_size statement.none t w a b h = h
    statements_size (statement.first s rest) t w a b h =
        statement_size s t (with_rest rest w) (add_all c rest (statement_reached c s t) w a) (add_all d rest (statement_reached c s t) w b) (statements_size rest (statement_reached c s t) w a b h)
    statements_size (case z rest) t w a b h = statements_size rest t w a b h
    statements_size (default rest) t w a b h = statements_size rest t w a b h
