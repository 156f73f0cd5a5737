-- The block of a place that assigns a scalar's variable notes the scalar on each way to the next marker.
use Rattle.std.proofs.Common.{◌≡◌, ◌⊎◌, inl, inr, ℕ, ◌+◌, ◌*◌, Bool, true, false, Option, Some, None, List, [], ◌∷◌, ◌++◌, refl, sym, ap, ◌∙◌, subst, if◌then◌else◌}
use Rattle.std.specs.Prelude.{nat_le}
use Rattle.c_tree.specs.declared.object_type.Scalar.{Scalar}
use Rattle.c_tree.specs.declared.object_type.ObjectType.{ObjectType}
use Rattle.c_tree.specs.declared.object_type.ObjectType.TheVariants as of-object
use Rattle.c_tree.specs.declared.object_type.Object.TheVariants as object
use Rattle.c_tree.specs.TypedExpressions as expression
use Rattle.c_tree.specs.TypedExpressions.{RvalueTree}
use Rattle.c_tree.specs.TypedStatements as statement
use Rattle.c_tree.specs.TypedStatements.{InitialTree, Zero, Scalar as scalar-initial, Elements, Literal, DeclaredTree, TypedStartTree, Nothing, Value, Declares, StepTree, TypedStatementTree, Block, Declaration, Empty, Run, If, IfElse, While, DoWhile, For, Switch, Break, Continue, Return, TypedStatementTrees, case, default}
use Rattle.c_tree.specs.Programs.{AutomaticTree}
use Rattle.c_type_rules.specs.Integers.{scalar_size}
use Rattle.c_places.specs.Memory.{keeps, kept_values, kept_initial, kept_declared, kept_start, kept_option, kept_step, kept_by, kept_by_all}
use Rattle.c_type_laws.specs.Laws.{is_in_memory}
use Rattle.c_places.specs.Places.{Place, stop, brought, brought_by_start, places_of_declarators, places_of_start, places_of_head, places_of_step, places_of, places_of_all}
use Rattle.c_flow.specs.declared.assigned.Assigned.{Assigned}
use Rattle.c_flow.specs.declared.edge.Ways.{Ways}
use Rattle.c_flow.specs.Assigns.{assigns_object, assigned_objects, assigned_by_values, assigned_by_initial, assigned_by_option, assigned_by_declarators, assigned_by_start, assigned_by_step, assigned_by, assigned_by_statements}
use Rattle.c_flow.specs.Flow.{start_place, start_of_declarators, round_of, within_loop, within_switch, ways_before as with_rest}
use Rattle.debug_records.specs.declared.source.Spot.{Spot}
use Rattle.graph_core.specs.Graphs as unit
use Rattle.graph_core.specs.Graphs.{Instruction, Automatic, Store}
use Rattle.graph_core.specs.Paths.{Among, front, behind, is_marker}
use Rattle.graph_build_layout.specs.declared.laid.Use.TheVariants.{Anywhere, Tested}
use Rattle.graph_build_names.specs.Names.{scalar_of, object_of, pick}
use Rattle.graph_build_layout.specs.Layout.{laid}
use Rattle.graph_build_steps.specs.Rules.{element_of}
use Rattle.graph_build_steps.specs.Drafts.{Made, Goal, To, Unused, Either, instruction_before, ending, note}
use Rattle.graph_build_steps.specs.Steps.{or_zero}
use Rattle.graph_build_code.specs.Code.{code}
use Rattle.graph_build_statements.specs.Coding.{Coding, Part, place_of, begun, going, label_for, with_end, placed_at, coded}
use Rattle.graph_build_statements.specs.Reached.{bare, reached, initial_reached, start_reached, condition_reached, statement_reached}
use Rattle.graph_build_statements.specs.Declaring.{object_type_of, words_of, cleared, store_elements, declare_kept, declare_scalar, declare_as, declare, add_declared}
use Rattle.graph_build_statements.specs.Forms.{default_start, tests, add_run, add_going, add_branching, add_start, add_step, add_head, add_result, add_switch, add, add_all}
use Rattle.graph_build_laws.specs.Passing.{Grows, IsPassing}
use Rattle.graph_build_laws.specs.Surely.{Notes, now}
use Rattle.graph_build_laws.proofs.Ascending.{Ascend}
use Rattle.graph_build_laws.proofs.Noting.{HasPoint, LeadsPoint, AnyStand, point_passes, notes_back, code_notes}
use Rattle.graph_build_laws.proofs.Passes.{code_passes}
use Rattle.graph_build_laws.proofs.GraphMarkingPieces.{grows_on, grows_none}
use Rattle.graph_build_laws.proofs.GraphMarkingStatements.{AreMadeOf, made_more}
use Rattle.image_truth_units.proofs.UnitFactsAssigned.{among_front}
use Rattle.image_truth_units.proofs.Fitting.{Fits, DeclaratorsFit, StartFits, StatementFits, StatementsFit}
use Rattle.image_truth_units.proofs.Growing.{code_grows, going_grows, end_grows, declare_grows, tests_grow}
use Rattle.image_truth_units.proofs.Positions.{At, at_front, at_back, split_among, apart, ascend_front, ascend_back, same_assigned, assigned_writes, Within, declared_within, start_within, step_within, head_within, one_within, joined, statement_within, statements_within}
use Rattle.image_truth_units.proofs.Sure.{In, sure, before_it, before_values, before_declared, before_step, before_statement, before_statements}

module _ (c : Coding) (blocks : List unit.Block) (x v : ℕ) (is_scalar : scalar_of c.names v ≡ Some x) (A : ℕ → Bool) (automatics : List AutomaticTree)
    (outside : (w k : ℕ) → scalar_of c.names w ≡ Some k → is_in_memory (Rattle.std.proofs.Common.slice_get automatics w) ≡ true → ⊥) (number : ℕ) where
  -- what is made notes the scalar on each way
  abbrev pub N : Made → Type 0
  N m = HasPoint blocks c.top (Notes blocks x) (notes_back blocks x) m

  abbrev X : (at : ℕ) → Assigned
  X at = assigns_object at (object.Automatic v)

  -- At the positions of these places the variable is assigned by these, where its place is one that assigns it.
  abbrev pub Owns : List Assigned → List Place → Type 0
  Owns all places = (at : ℕ) → At at places → A (place_of c at) ≡ true → Among (X at) all

  -- the parts of what is assigned and of places
  owns_first : (last : ℕ) (xs ys : List Assigned) (ps qs : List Place) → Owns (xs ++ ys) (ps ++ qs) → Ascend last (ps ++ qs) → Within ys qs → Owns xs ps
  owns_first last xs ys ps qs h up w at there a = by (split_among (X at) xs ys (h at (at_front at ps qs there) a))
    where
      by : Among (X at) xs ⊎ Among (X at) ys → Among (X at) xs
      by (inl m) = m
      by (inr m) = absurd (apart last ps qs at up there (w (X at) m))

  owns_second : (last : ℕ) (xs ys : List Assigned) (ps qs : List Place) → Owns (xs ++ ys) (ps ++ qs) → Ascend last (ps ++ qs) → Within xs ps → Owns ys qs
  owns_second last xs ys ps qs h up w at there a = by (split_among (X at) xs ys (h at (at_back at ps qs there) a))
    where
      by : Among (X at) xs ⊎ Among (X at) ys → Among (X at) ys
      by (inl m) = absurd (apart last ps qs at up (w (X at) m) there)
      by (inr m) = m

  -- the same where the first are assigned by the last places
  swapped_first : (last : ℕ) (xs ys : List Assigned) (ps qs : List Place) → Owns (xs ++ ys) (ps ++ qs) → Ascend last (ps ++ qs) → Within ys ps → Owns xs qs
  swapped_first last xs ys ps qs h up w at there a = by (split_among (X at) xs ys (h at (at_back at ps qs there) a))
    where
      by : Among (X at) xs ⊎ Among (X at) ys → Among (X at) xs
      by (inl m) = m
      by (inr m) = absurd (apart last ps qs at up (w (X at) m) there)

  swapped_second : (last : ℕ) (xs ys : List Assigned) (ps qs : List Place) → Owns (xs ++ ys) (ps ++ qs) → Ascend last (ps ++ qs) → Within xs qs → Owns ys ps
  swapped_second last xs ys ps qs h up w at there a = by (split_among (X at) xs ys (h at (at_front at ps qs there) a))
    where
      by : Among (X at) xs ⊎ Among (X at) ys → Among (X at) ys
      by (inl m) = absurd (apart last ps qs at up there (w (X at) m))
      by (inr m) = m

  -- the block of a place notes the scalar, if its place assigns the variable
  abbrev pub HasN : (p : ℕ) → Made → Type 0
  HasN p m = A p ≡ true → N m

  abbrev pub Holds : Part → Type 0
  Holds part = AreMadeOf HasN part.inner part.placed

  abbrev pub Adds : Part → Part → Type 0
  Adds new part = Grows part.inner new.inner × (Holds part → Holds new)

  adds_on : (a b d : Part) → Adds a b → Adds b d → Adds a d
  adds_on a b d h k = (grows_on d.inner b.inner a.inner k.0 h.0, λ z. h.1 (k.1 z))

  no_part : (part : Part) → Adds part part
  no_part part = (grows_none part.inner, λ z. z)

  pub place_adds : (at : ℕ) (m : Made) (part : Part) → Grows part.inner m.inner → HasN (place_of c at) m → Adds (placed_at c at m part.placed) part
  place_adds at m part g has = (
    g,
    λ z. (record { place = place_of c at; made = m; no_place = refl; instructions = refl; ends = refl; grown = grows_none m.inner; has = has }, made_more HasN part.inner m.inner g part.placed z),
  )

  -- it passes what is no marker
  passes : (p : ℕ) → IsPassing p c.top (HasPoint blocks c.top (Notes blocks x) (notes_back blocks x)) (LeadsPoint blocks c.top (Notes blocks x) (notes_back blocks x)) (AnyStand blocks c.top (Notes blocks x) (notes_back blocks x))
  passes p = point_passes blocks c.top (Notes blocks x) (notes_back blocks x) p

  pub step_on : (i : Instruction) (m : Made) → is_marker i ≡ false → N m → N (instruction_before i m)
  step_on i m h k = (passes 0).step i m h k

  code_on : (at : ℕ) (e : RvalueTree) (t : ℕ) (want : Option ℕ) (m : Made) → N m → N (code c.names (place_of c at) c.top e t (To want m))
  code_on at e t want m k =
      (code_passes (place_of c at) c.top (HasPoint blocks c.top (Notes blocks x) (notes_back blocks x)) (LeadsPoint blocks c.top (Notes blocks x) (notes_back blocks x)) (AnyStand blocks c.top (Notes blocks x) (notes_back blocks x)) (passes (place_of c at)) c.names e t (To want m)).1 k

  code_is : (at : ℕ) (e : RvalueTree) (t : ℕ) (g : Goal) (ks : List ℕ) → In automatics c.names outside (keeps false e ks) → Among (X at) (assigned_objects at e) → N (code c.names (place_of c at) c.top e t g)
  code_is at e t g ks h m = code_notes blocks c.top x c.names (place_of c at) e t g (sure automatics c.names outside e ks h) (assigned_writes c.names at v x is_scalar e m)

  -- a place of one expression
  one_has : (spot : Spot) (scope : List ℕ) (e : RvalueTree) (t : ℕ) (g : Goal) (ks : List ℕ) → In automatics c.names outside (keeps false e ks) → Owns (assigned_objects spot.at e) (stop number scope spot ∷ []) → HasN (place_of c spot.at) (coded c spot.at e t g)
  one_has spot scope e t g ks h own a = code_is spot.at e (begun c t) g ks h (own spot.at (stop number scope spot, front, refl) a)

  -- one that assigns nothing
  none_has : (spot : Spot) (scope : List ℕ) (m : Made) → Owns [] (stop number scope spot ∷ []) → HasN (place_of c spot.at) m
  none_has spot scope m own a = elim (own spot.at (stop number scope spot, front, refl) a) [ ]

  run_adds : (spot : Spot) (scope : List ℕ) (e : RvalueTree) (t : ℕ) (next : Option ℕ) (part : Part) (ks : List ℕ) → In automatics c.names outside (keeps false e ks) → Owns (assigned_objects spot.at e) (stop number scope spot ∷ []) → Adds (add_run c spot.at e t next part) part
  run_adds spot scope e t next part ks h own =
      let go = going c next part.inner in
      place_adds spot.at (coded c spot.at e t (Unused go)) part (grows_on part.inner go.inner (coded c spot.at e t (Unused go)).inner (going_grows c next part.inner) (code_grows c spot.at e (begun c t) (Unused go))) (one_has spot scope e t (Unused go) ks h own)

  going_adds : (spot : Spot) (scope : List ℕ) (next : Option ℕ) (part : Part) → Owns [] (stop number scope spot ∷ []) → Adds (add_going c spot.at next part) part
  going_adds spot scope next part own = place_adds spot.at (going c next part.inner) part (going_grows c next part.inner) (none_has spot scope (going c next part.inner) own)

  branching_adds : (spot : Spot) (scope : List ℕ) (e : RvalueTree) (t : ℕ) (one other : Option ℕ) (part : Part) (ks : List ℕ) → In automatics c.names outside (keeps false e ks) → Owns (assigned_objects spot.at e) (stop number scope spot ∷ []) → Adds (add_branching c spot.at e t one other part) part
  branching_adds spot scope e t one other part ks h own =
      let ends = with_end c spot.at other part.inner in
      let all = with_end c spot.at one ends in
      let g = Either (label_for c one ends) (label_for c other part.inner) all in
      place_adds spot.at (coded c spot.at e t g) part (grows_on part.inner all (coded c spot.at e t g).inner (grows_on part.inner ends all (end_grows c spot.at other part.inner) (end_grows c spot.at one ends)) (code_grows c spot.at e (begun c t) g)) (one_has spot scope e t g ks h own)

  -- declarators
  cleared_on : (object bytes covered : ℕ) (m : Made) → N m → N (cleared object bytes covered m)
  cleared_on object bytes covered m k = go (nat_le (words_of bytes) covered)
    where
      go : (b : Bool) → N (if b then m else instruction_before (unit.Zero object (words_of bytes)) m)
      go true = k
      go false = step_on (unit.Zero object (words_of bytes)) m refl k

  bare_keeps : (e : RvalueTree) (ks : List ℕ) → In automatics c.names outside (keeps false e ks) → In automatics c.names outside (keeps false (bare e) ks)
  bare_keeps (expression.Convert t e) ks h = h
  bare_keeps (expression.Constant z t) ks h = h
  bare_keeps expression.Null ks h = h
  bare_keeps (expression.Load s l) ks h = h
  bare_keeps (expression.Decay l) ks h = h
  bare_keeps (expression.AddressOf l) ks h = h
  bare_keeps (expression.Discard e) ks h = h
  bare_keeps (expression.Signed o t e) ks h = h
  bare_keeps (expression.Not e) ks h = h
  bare_keeps (expression.Arithmetic o t a b) ks h = h
  bare_keeps (expression.Compare o t a b) ks h = h
  bare_keeps (expression.ComparePointers o a b) ks h = h
  bare_keeps (expression.Move d of a b) ks h = h
  bare_keeps (expression.MoveFrom a of b) ks h = h
  bare_keeps (expression.Difference of a b) ks h = h
  bare_keeps (expression.And a b) ks h = h
  bare_keeps (expression.Or a b) ks h = h
  bare_keeps (expression.Conditional d a b) ks h = h
  bare_keeps (expression.Comma a b) ks h = h
  bare_keeps (expression.Assign s l e) ks h = h
  bare_keeps (expression.Update o t u l e) ks h = h
  bare_keeps (expression.UpdatePointer d of l e) ks h = h
  bare_keeps (expression.Step d g t u l) ks h = h
  bare_keeps (expression.StepPointer d g of l) ks h = h
  bare_keeps (expression.Call f all) ks h = h

  bare_assigns : (at : ℕ) (e : RvalueTree) → Among (X at) (assigned_objects at e) → Among (X at) (assigned_objects at (bare e))
  bare_assigns at (expression.Convert t e) h = h
  bare_assigns at (expression.Constant z t) h = h
  bare_assigns at expression.Null h = h
  bare_assigns at (expression.Load s l) h = h
  bare_assigns at (expression.Decay l) h = h
  bare_assigns at (expression.AddressOf l) h = h
  bare_assigns at (expression.Discard e) h = h
  bare_assigns at (expression.Signed o t e) h = h
  bare_assigns at (expression.Not e) h = h
  bare_assigns at (expression.Arithmetic o t a b) h = h
  bare_assigns at (expression.Compare o t a b) h = h
  bare_assigns at (expression.ComparePointers o a b) h = h
  bare_assigns at (expression.Move d of a b) h = h
  bare_assigns at (expression.MoveFrom a of b) h = h
  bare_assigns at (expression.Difference of a b) h = h
  bare_assigns at (expression.And a b) h = h
  bare_assigns at (expression.Or a b) h = h
  bare_assigns at (expression.Conditional d a b) h = h
  bare_assigns at (expression.Comma a b) h = h
  bare_assigns at (expression.Assign s l e) h = h
  bare_assigns at (expression.Update o t u l e) h = h
  bare_assigns at (expression.UpdatePointer d of l e) h = h
  bare_assigns at (expression.Step d g t u l) h = h
  bare_assigns at (expression.StepPointer d g of l) h = h
  bare_assigns at (expression.Call f all) h = h

  elements_have : (at : ℕ) (s : Scalar) (object index : ℕ) (all : List RvalueTree) (t : ℕ) (m : Made) (ks : List ℕ) → In automatics c.names outside (kept_values all ks) → Among (X at) (assigned_by_values at all) → N (store_elements c at s object index all t m)
  elements_have at s object index [] t m ks h there = elim there [ ]
  elements_have at s object index (e ∷ more) t m ks h there = by (split_among (X at) (assigned_objects at e) (assigned_by_values at more) there) (λ k. elements_have at s object (index + 1) more (pick c.names t (laid c.names (bare e) Anywhere t).top) m (keeps false e ks) h k)
    where
      rest : Made
      rest = store_elements c at s object (index + 1) more (pick c.names t (laid c.names (bare e) Anywhere t).top) m

      by : Among (X at) (assigned_objects at e) ⊎ Among (X at) (assigned_by_values at more) → (Among (X at) (assigned_by_values at more) → N rest) → N (store_elements c at s object index (e ∷ more) t m)
      by (inl k) again = code_is at (bare e) t (To None (instruction_before (Store (element_of s) (Automatic object (index * scalar_size s)) (laid c.names (bare e) Anywhere t).value) rest)) ks (bare_keeps e ks (before_values automatics c.names outside more (keeps false e ks) h)) (bare_assigns at e k)
      by (inr k) again =
          code_on at (bare e) t None (instruction_before (Store (element_of s) (Automatic object (index * scalar_size s)) (laid c.names (bare e) Anywhere t).value) rest) (step_on (Store (element_of s) (Automatic object (index * scalar_size s)) (laid c.names (bare e) Anywhere t).value) rest refl (again k))

  kept_has : (at object : ℕ) (of : ObjectType) (i : InitialTree) (t : ℕ) (m : Made) (ks : List ℕ) → Fits None of i → In automatics c.names outside (kept_initial i ks) → Among (X at) (assigned_by_initial at i) → N (declare_kept c at object of i t m)
  kept_has at object of Zero t m ks f h there = elim there [ ]
  kept_has at object of (Literal k) t m ks f h there = elim there [ ]
  kept_has at object (of-object.Scalar s) (scalar-initial e) t m ks f h there = code_is at e (begun c t) (To None (instruction_before (Store (element_of s) (Automatic object 0) (laid c.names e Anywhere (begun c t)).value) m)) ks h there
  kept_has at object (of-object.Array s count) (Elements all) t m ks f h there = cleared_on object (scalar_size s * count) 0 (store_elements c at s object 0 all (begun c t) m) (elements_have at s object 0 all (begun c t) m ks h there)
  kept_has at object (of-object.Scalar s) (Elements all) t m ks f h there = absurd f
  kept_has at object (of-object.Array s count) (scalar-initial e) t m ks f h there = absurd f

  pub note_is : (m : Made) → N (note x m)
  note_is m st = now

  -- a scalar of its own
  own_has : (at : ℕ) (i : InitialTree) (t : ℕ) (m : Made) → N (declare_scalar c at x i t m)
  own_has at (scalar-initial e) t m = code_on at e (begun c t) (Some x) (note x m) (note_is m)
  own_has at Zero t m = step_on (unit.Move x (unit.Constant 0)) (note x m) refl (note_is m)
  own_has at (Elements all) t m = step_on (unit.Move x (unit.Constant 0)) (note x m) refl (note_is m)
  own_has at (Literal k) t m = step_on (unit.Move x (unit.Constant 0)) (note x m) refl (note_is m)

  other_has : (at y : ℕ) (of : ObjectType) (i : InitialTree) (t : ℕ) (m : Made) (ks : List ℕ) → Fits (Some y) of i → In automatics c.names outside (kept_initial i ks) → Among (X at) (assigned_by_initial at i) → N (declare_scalar c at y i t m)
  other_has at y of Zero t m ks f h there = elim there [ ]
  other_has at y of (Literal k) t m ks f h there = elim there [ ]
  other_has at y of (scalar-initial e) t m ks f h there = code_is at e (begun c t) (To (Some y) (note y m)) ks h there
  other_has at y of (Elements all) t m ks f h there = absurd f

  some_same : {B : Type 0} {a b : B} → Some a ≡ Some b → a ≡ b
  some_same e = cc

  declare_has : (o : Option ℕ) (d : DeclaredTree) → scalar_of c.names d.variable ≡ o → (t : ℕ) (m : Made) (ks : List ℕ) → Fits o (object_type_of c.program d.variable) d.initial → In automatics c.names outside (kept_initial d.initial ks) →
      Among (X d.spot.at) (assigns_object d.spot.at (object.Automatic d.variable) ∷ assigned_by_initial d.spot.at d.initial) → N (declare_as c o d t m)
  declare_has o d e t m ks f h there = by (split_among (X d.spot.at) (assigns_object d.spot.at (object.Automatic d.variable) ∷ []) (assigned_by_initial d.spot.at d.initial) there)
    where
      same_variable : Among (X d.spot.at) (assigns_object d.spot.at (object.Automatic d.variable) ∷ []) → d.variable ≡ v
      same_variable k = one (assigns_object d.spot.at (object.Automatic d.variable)) k refl
        where
          one : (a : Assigned) → Among (X d.spot.at) (a ∷ []) → a ≡ assigns_object d.spot.at (object.Automatic d.variable) → d.variable ≡ v
          one a front e = sym (same_assigned d.spot.at v d.variable e)
          one a (behind k) e = elim k [ ]

      own : d.variable ≡ v → (r : Option ℕ) → o ≡ r → N (declare_as c o d t m)
      own same r is = subst (λ q. N (declare_as c q d t m)) (sym (sym e ∙ ap (scalar_of c.names) same ∙ is_scalar)) (own_has d.spot.at d.initial t m)

      other : (r : Option ℕ) → Fits r (object_type_of c.program d.variable) d.initial → Among (X d.spot.at) (assigned_by_initial d.spot.at d.initial) → N (declare_as c r d t m)
      other (Some y) f k = other_has d.spot.at y (object_type_of c.program d.variable) d.initial t m ks f h k
      other None f k = kept_has d.spot.at (or_zero (object_of c.names d.variable)) (object_type_of c.program d.variable) d.initial t m ks f h k

      by : Among (X d.spot.at) (assigns_object d.spot.at (object.Automatic d.variable) ∷ []) ⊎ Among (X d.spot.at) (assigned_by_initial d.spot.at d.initial) → N (declare_as c o d t m)
      by (inl k) = own (same_variable k) o refl
      by (inr k) = other o f k

  declared_add : (all : List DeclaredTree) (scope : List ℕ) (last t : ℕ) (next : Option ℕ) (part : Part) (ks : List ℕ) → DeclaratorsFit c.names c.program all → In automatics c.names outside (kept_declared all ks) → Ascend last (places_of_declarators number scope all) →
      Owns (assigned_by_declarators all) (places_of_declarators number scope all) → Adds (add_declared c all t next part) part
  declared_add [] scope last t next part ks f h up own = no_part part
  declared_add (d ∷ more) scope last t next part ks f h up own =
      let first = assigns_object d.spot.at (object.Automatic d.variable) ∷ assigned_by_initial d.spot.at d.initial in
      let rest = assigned_by_declarators more in
      let inside = scope ++ d.variable ∷ [] in
      let here = stop number scope d.spot ∷ [] in
      let behind_it = places_of_declarators number inside more in
      let o = scalar_of c.names d.variable in
      let t' = initial_reached c o d.initial t in
      let later = add_declared c more t' next part in
      let to = start_of_declarators more next in
      let m = declare c d t (going c to later.inner) in
      let within = declared_within number (d ∷ []) scope in
      let mine = owns_first last first rest here behind_it own up (declared_within number more inside) in
      let has : HasN (place_of c d.spot.at) m = λ a. declare_has o d refl t (going c to later.inner) ks f.0 (before_declared automatics c.names outside more (kept_initial d.initial ks) h) (mine d.spot.at (stop number scope d.spot, front, refl) a) in
      adds_on (add_declared c (d ∷ more) t next part) later part (place_adds d.spot.at m later (declare_grows c d t to later.inner) has)
      (declared_add more inside d.spot.at t' next part (kept_initial d.initial ks) f.1 h up.1 (owns_second last first rest here behind_it own up (λ a k. within a (among_front a first [] k))))

  -- the parts of a `for`
  begin_adds : (begin : TypedStartTree) (scope : List ℕ) (last t head : ℕ) (part : Part) (ks : List ℕ) → StartFits c.names c.program begin → In automatics c.names outside (kept_start begin ks) → Ascend last (places_of_start number scope begin) → Owns (assigned_by_start begin) (places_of_start number scope begin) → Adds (add_start c begin t head part) part
  begin_adds Nothing scope last t head part ks f h up own = no_part part
  begin_adds (Value spot e) scope last t head part ks f h up own = run_adds spot scope e t (Some head) part ks h own
  begin_adds (Declares all) scope last t head part ks f h up own = declared_add all scope last t (Some head) part ks f h up own

  round_adds : (step : Option StepTree) (scope : List ℕ) (t head : ℕ) (part : Part) (ks : List ℕ) → In automatics c.names outside (kept_step step ks) → Owns (assigned_by_step step) (places_of_step number scope step) → Adds (add_step c step t head part) part
  round_adds None scope t head part ks h own = no_part part
  round_adds (Some s) scope t head part ks h own = run_adds s.spot scope s.value t (Some head) part ks h own

  nothing : (places : List Place) → Within [] places
  nothing places a k = elim k [ ]

  head_adds : (begin : TypedStartTree) (spot : Spot) (e : Option RvalueTree) (scope : List ℕ) (last t : ℕ) (inside next : Option ℕ) (part : Part) (ks : List ℕ) → StartFits c.names c.program begin → In automatics c.names outside (kept_option e (kept_start begin ks)) → Ascend last (places_of_head number scope begin spot e) →
      Owns (assigned_by_start begin ++ assigned_by_option spot.at e) (places_of_head number scope begin spot e) → Adds (add_head c begin t spot.at e inside next part) part
  head_adds begin spot None scope last t inside next part ks f h up own =
      let ps = places_of_start number scope begin in
      let later = add_start c begin t spot.at part in
      adds_on (add_going c spot.at inside later) later part (going_adds spot scope inside later (swapped_second last (assigned_by_start begin) [] (stop number scope spot ∷ []) ps own up (start_within number begin scope)))
      (begin_adds begin scope spot.at t spot.at part ks f h up.1 (swapped_first last (assigned_by_start begin) [] (stop number scope spot ∷ []) ps own up (nothing (stop number scope spot ∷ []))))
  head_adds begin spot (Some e) scope last t inside next part ks f h up own =
      let ps = places_of_start number scope begin in
      let more = scope ++ brought_by_start begin in
      let later = add_branching c spot.at e (start_reached c begin t) inside next part in
      adds_on (add_start c begin t spot.at later) later part
      (begin_adds begin scope last t spot.at later ks f (before_it automatics c.names outside e (kept_start begin ks) h) (ascend_front last ps (stop number more spot ∷ []) up) (owns_first last (assigned_by_start begin) (assigned_objects spot.at e) ps (stop number more spot ∷ []) own up (one_within number spot more e)))
      (branching_adds spot more e (start_reached c begin t) inside next part (kept_start begin ks) h (owns_second last (assigned_by_start begin) (assigned_objects spot.at e) ps (stop number more spot ∷ []) own up (start_within number begin scope)))

  result_adds : (spot : Spot) (scope : List ℕ) (e : Option RvalueTree) (t : ℕ) (part : Part) (ks : List ℕ) → In automatics c.names outside (kept_option e ks) → Owns (assigned_by_option spot.at e) (stop number scope spot ∷ []) → Adds (add_result c spot.at e t part) part
  result_adds spot scope None t part ks h own = place_adds spot.at (ending (unit.Return None) part.inner) part (grows_none part.inner) (none_has spot scope (ending (unit.Return None) part.inner) own)
  result_adds spot scope (Some e) t part ks h own =
      let m = ending (unit.Return (Some (laid c.names e Anywhere (begun c t)).value)) part.inner in
      place_adds spot.at (coded c spot.at e t (To None m)) part (code_grows c spot.at e (begun c t) (To None m)) (one_has spot scope e t (To None m) ks h own)

  switch_adds : (spot : Spot) (scope : List ℕ) (e : RvalueTree) (all : TypedStatementTrees) (t : ℕ) (next : Option ℕ) (part : Part) (ks : List ℕ) → In automatics c.names outside (keeps false e ks) → Owns (assigned_objects spot.at e) (stop number scope spot ∷ []) → Adds (add_switch c spot.at e all t next part) part
  switch_adds spot scope e all t next part ks h own =
      let a = (laid c.names e Anywhere (begun c t)).value in
      let m = tests c spot.at a all next (default_start all next) part.inner in
      place_adds spot.at (coded c spot.at e t (To None m)) part (grows_on part.inner m.inner (coded c spot.at e t (To None m)).inner (tests_grow c spot.at a all next (default_start all next) part.inner) (code_grows c spot.at e (begun c t) (To None m))) (one_has spot scope e t (To None m) ks h own)

  mutual
    pub statement_owes : (s : TypedStatementTree) (scope : List ℕ) (last t : ℕ) (w : Ways) (part : Part) (ks : List ℕ) → StatementFits c.names c.program s → In automatics c.names outside (kept_by s ks) → Ascend last (places_of number scope s) → Owns (assigned_by s) (places_of number scope s) → Adds (add c s t w part) part
    statement_owes (Block all) scope last t w part ks f h up own = statements_owe all scope last t w part ks f h up own
    statement_owes (Declaration all) scope last t w part ks f h up own = declared_add all scope last t w.next part ks f h up own
    statement_owes (Empty spot) scope last t w part ks f h up own = going_adds spot scope w.next part own
    statement_owes (Run spot e) scope last t w part ks f h up own = run_adds spot scope e t w.next part ks h own
    statement_owes (If spot e s) scope last t w part ks f h up own = (
        let t1 = reached c e Tested t in
        let later = add c s t1 w part in
        let ps = places_of number scope s in
        adds_on (add c (If spot e s) t w part) later part
        (branching_adds spot scope e t (start_place s w.next) w.next later ks (before_statement automatics c.names outside s (keeps false e ks) h) (owns_first last (assigned_objects spot.at e) (assigned_by s) (stop number scope spot ∷ []) ps own up (statement_within number s scope)))
        (statement_owes s scope spot.at t1 w part (keeps false e ks) f h up.1 (owns_second last (assigned_objects spot.at e) (assigned_by s) (stop number scope spot ∷ []) ps own up (one_within number spot scope e))))
    statement_owes (IfElse spot e s r) scope last t w part ks f h up own = (
        let t1 = reached c e Tested t in
        let t2 = statement_reached c s t1 in
        let other = add c r t2 w part in
        let later = add c s t1 w other in
        let ps = places_of number scope s in let pr = places_of number scope r in
        let here = stop number scope spot ∷ [] in
        let k1 = keeps false e ks in
        let behind_s = before_statement automatics c.names outside r (kept_by s k1) h in
        let front_own = owns_first last (assigned_objects spot.at e ++ assigned_by s) (assigned_by r) (stop number scope spot ∷ ps) pr own up (statement_within number r scope) in
        let front_up = ascend_front last (stop number scope spot ∷ ps) pr up in
        let back_up = ascend_back last (stop number scope spot ∷ ps) pr up in
        let both : Within (assigned_objects spot.at e ++ assigned_by s) (stop number scope spot ∷ ps) = statement_within number (If spot e s) scope in
        adds_on (add c (IfElse spot e s r) t w part) later part
        (branching_adds spot scope e t (start_place s w.next) (start_place r w.next) later ks (before_statement automatics c.names outside s k1 behind_s) (owns_first last (assigned_objects spot.at e) (assigned_by s) here ps front_own front_up (statement_within number s scope)))
        (adds_on later other part (statement_owes s scope spot.at t1 w other k1 f.0 behind_s front_up.1 (owns_second last (assigned_objects spot.at e) (assigned_by s) here ps front_own front_up (one_within number spot scope e)))
        (statement_owes r scope back_up.0 t2 w part (kept_by s k1) f.1 h back_up.1 (owns_second last (assigned_objects spot.at e ++ assigned_by s) (assigned_by r) (stop number scope spot ∷ ps) pr own up both))))
    statement_owes (While spot e s) scope last t w part ks f h up own = (
        let t1 = reached c e Tested t in
        let later = add c s t1 (within_loop spot.at w) part in
        let ps = places_of number scope s in
        adds_on (add c (While spot e s) t w part) later part
        (branching_adds spot scope e t (start_place s (Some spot.at)) w.next later ks (before_statement automatics c.names outside s (keeps false e ks) h) (owns_first last (assigned_objects spot.at e) (assigned_by s) (stop number scope spot ∷ []) ps own up (statement_within number s scope)))
        (statement_owes s scope spot.at t1 (within_loop spot.at w) part (keeps false e ks) f h up.1 (owns_second last (assigned_objects spot.at e) (assigned_by s) (stop number scope spot ∷ []) ps own up (one_within number spot scope e))))
    statement_owes (DoWhile s spot e) scope last t w part ks f h up own = (
        let t1 = statement_reached c s t in
        let later = add_branching c spot.at e t1 (start_place s (Some spot.at)) w.next part in
        let ps = places_of number scope s in
        adds_on (add c (DoWhile s spot e) t w part) later part
        (statement_owes s scope last t (within_loop spot.at w) later ks f (before_it automatics c.names outside e (kept_by s ks) h) (ascend_front last ps (stop number scope spot ∷ []) up) (swapped_second last (assigned_objects spot.at e) (assigned_by s) ps (stop number scope spot ∷ []) own up (one_within number spot scope e)))
        (branching_adds spot scope e t1 (start_place s (Some spot.at)) w.next part (kept_by s ks) h (swapped_first last (assigned_objects spot.at e) (assigned_by s) ps (stop number scope spot ∷ []) own up (statement_within number s scope))))
    statement_owes (For begin spot e step s) scope last t w part ks f h up own = (
        let round = round_of step spot.at in
        let inside = scope ++ brought_by_start begin in
        let t1 = start_reached c begin t in
        let t2 = condition_reached c e t1 in
        let t3 = statement_reached c s t2 in
        let body = add c s t2 (within_loop round w) part in
        let later = add_step c step t3 spot.at body in
        let ph = places_of_head number scope begin spot e in
        let pt = places_of_step number inside step in
        let ps = places_of number inside s in
        let ah = assigned_by_start begin ++ assigned_by_option spot.at e in
        let at' = assigned_by_step step in
        let k2 = kept_option e (kept_start begin ks) in
        let k3 = kept_step step k2 in
        let h3 = before_statement automatics c.names outside s k3 h in
        let front_own = owns_first last (ah ++ at') (assigned_by s) (ph ++ pt) ps own up (statement_within number s inside) in
        let front_up = ascend_front last (ph ++ pt) ps up in
        let back_up = ascend_back last (ph ++ pt) ps up in
        let both : Within (ah ++ at') (ph ++ pt) = joined ah at' ph pt (head_within number begin spot e scope) (step_within number step inside) in
        adds_on (add c (For begin spot e step s) t w part) later part
        (head_adds begin spot e scope last t (start_place s (Some round)) w.next later ks f.0 (before_step automatics c.names outside step k2 h3) (ascend_front last ph pt front_up) (owns_first last ah at' ph pt front_own front_up (step_within number step inside)))
        (adds_on later body part (round_adds step inside t3 spot.at body k2 h3 (owns_second last ah at' ph pt front_own front_up (head_within number begin spot e scope)))
        (statement_owes s inside back_up.0 t2 (within_loop round w) part k3 f.1 h back_up.1 (owns_second last (ah ++ at') (assigned_by s) (ph ++ pt) ps own up both))))
    statement_owes (Switch spot e all) scope last t w part ks f h up own = (
        let t1 = reached c e Anywhere t in
        let later = add_all c all t1 (within_switch w) part in
        let ps = places_of_all number scope all in
        adds_on (add c (Switch spot e all) t w part) later part
        (switch_adds spot scope e all t w.next later ks (before_statements automatics c.names outside all (keeps false e ks) h) (owns_first last (assigned_objects spot.at e) (assigned_by_statements all) (stop number scope spot ∷ []) ps own up (statements_within number all scope)))
        (statements_owe all scope spot.at t1 (within_switch w) part (keeps false e ks) f h up.1 (owns_second last (assigned_objects spot.at e) (assigned_by_statements all) (stop number scope spot ∷ []) ps own up (one_within number spot scope e))))
    statement_owes (Break spot) scope last t w part ks f h up own = going_adds spot scope w.by_break part own
    statement_owes (Continue spot) scope last t w part ks f h up own = going_adds spot scope w.by_continue part own
    statement_owes (Return spot e) scope last t w part ks f h up own = result_adds spot scope e t part ks h own

    pub statements_owe : (all : TypedStatementTrees) (scope : List ℕ) (last t : ℕ) (w : Ways) (part : Part) (ks : List ℕ) → StatementsFit c.names c.program all → In automatics c.names outside (kept_by_all all ks) → Ascend last (places_of_all number scope all) → Owns (assigned_by_statements all) (places_of_all number scope all) → Adds (add_all c all t w part) part
    statements_owe statement.none scope last t w part ks f h up own = no_part part
    statements_owe (statement.first s rest) scope last t w part ks f h up own = (
        let later = add_all c rest (statement_reached c s t) w part in
        let ps = places_of number scope s in
        let inside = scope ++ brought s in
        let pr = places_of_all number inside rest in
        let back_up = ascend_back last ps pr up in
        adds_on (add_all c (statement.first s rest) t w part) later part
        (statement_owes s scope last t (with_rest rest w) later ks f.0 (before_statements automatics c.names outside rest (kept_by s ks) h) (ascend_front last ps pr up) (owns_first last (assigned_by s) (assigned_by_statements rest) ps pr own up (statements_within number rest inside)))
        (statements_owe rest inside back_up.0 (statement_reached c s t) w part (kept_by s ks) f.1 h back_up.1 (owns_second last (assigned_by s) (assigned_by_statements rest) ps pr own up (statement_within number s scope))))
    statements_owe (case z rest) scope last t w part ks f h up own = statements_owe rest scope last t w part ks f h up own
    statements_owe (default rest) scope last t w part ks f h up own = statements_owe rest scope last t w part ks f h up own
