-- Places' blocks, and what declarators write, name what is there.
use Rattle.std.proofs.Common.{◌≡◌, ℕ, ◌+◌, ◌*◌, ◌≤◌, ◌<◌, ◌⊎◌, inl, inr, Bool, true, false, Option, Some, None, List, [], ◌∷◌, ◌++◌, length, slice_get, refl, sym, ap, ◌∙◌, subst, arith, if◌then◌else◌}
use Rattle.std.specs.Prelude.{nat_le}
use Rattle.std.specs.List.{AllByRecursion}
use Rattle.std.proofs.lemmas.Option.{slice_get_within}
use Rattle.c_tree.specs.declared.object_type.Scalar.{Scalar}
use Rattle.c_tree.specs.declared.object_type.ObjectType.{ObjectType}
use Rattle.c_tree.specs.declared.object_type.ObjectType.TheVariants as of-object
use Rattle.c_tree.specs.TypedExpressions.{RvalueTree, Constant, Null, Load, Decay, AddressOf, Convert, Discard, Signed, Not, Arithmetic, Compare, ComparePointers, Move, MoveFrom, Difference, And, Or, Conditional, Comma, Assign, Update, UpdatePointer, Step, StepPointer, Call}
use Rattle.c_tree.specs.TypedStatements.{InitialTree, Zero, Scalar as scalar-initial, Elements, Literal, DeclaredTree}
use Rattle.c_type_rules.specs.Integers.{scalar_size}
use Rattle.c_places.specs.Places.{Place}
use Rattle.c_flow.specs.Flow.{start_of_declarators}
use Rattle.graph_core.specs.declared.graph.MemoryObject.{MemoryObject}
use Rattle.graph_core.specs.Graphs as unit
use Rattle.graph_core.specs.Graphs.{Store, CopyWords, Automatic, Jump, Block}
use Rattle.graph_core.specs.Paths.{Among, front, behind}
use Rattle.graph_core.specs.Values.{size_of}
use Rattle.graph_core.specs.Validity.{IsInObject, markers_in, markers_of_blocks}
use Rattle.graph_build_layout.specs.declared.laid.Use.TheVariants.{Anywhere}
use Rattle.graph_build_names.specs.Names.{pick, scalar_of, object_of}
use Rattle.graph_build_layout.specs.Layout.{laid}
use Rattle.graph_build_steps.specs.Rules.{element_of}
use Rattle.graph_build_steps.specs.Drafts.{Made, Goal, To, use_of, instruction_before, ending, note}
use Rattle.graph_build_steps.specs.Steps.{or_zero}
use Rattle.graph_build_code.specs.Code.{code}
use Rattle.graph_build_statements.specs.Coding.{Coding, Part, place_of, begun, going, with_end, placed_at, coded}
use Rattle.graph_build_statements.specs.Reached.{bare, reached, elements_reached, initial_reached, declared_reached}
use Rattle.graph_build_statements.specs.Declaring.{object_type_of, words_of, cleared, store_elements, copied_words, declare_single, declare_array, declare_kept, declare_scalar, declare_as, declare, add_declared}
use Rattle.graph_build.specs.Units.{object_element, object_count, memory_object}
use Rattle.graph_build_laws.proofs.Statements.{declared_more}
use Rattle.graph_build_runs.proofs.Elements.{element_size}
use Rattle.graph_build_laws.proofs.Sizes.{type_sizes}
use Rattle.graph_build_laws.proofs.Values.{Setting, n, most, E, value_stands}
use Rattle.graph_build_laws.proofs.GraphProgramPieces.{Are, EndIs, AreInner, IsMade, IsGoal, before_is, ending_is, note_is, closed_is}
use Rattle.graph_build_laws.proofs.GraphProgramExpressions.{code_is}
use Rattle.graph_core.proofs.Among.{among_behind as in_back}

-- what an element of a list is without its conversion names what is there, too
bare_names : (x : Setting) (e : RvalueTree) → E x e → E x (bare e)
bare_names x (Convert t e) h = h
bare_names x (Constant z t) h = h
bare_names x Null h = h
bare_names x (Load s l) h = h
bare_names x (Decay l) h = h
bare_names x (AddressOf l) h = h
bare_names x (Discard e) h = h
bare_names x (Signed o t e) h = h
bare_names x (Not e) h = h
bare_names x (Arithmetic o t a b) h = h
bare_names x (Compare o t a b) h = h
bare_names x (ComparePointers o a b) h = h
bare_names x (Move d of a b) h = h
bare_names x (MoveFrom b of a) h = h
bare_names x (Difference of a b) h = h
bare_names x (And a b) h = h
bare_names x (Or a b) h = h
bare_names x (Conditional c a b) h = h
bare_names x (Comma a b) h = h
bare_names x (Assign s l e) h = h
bare_names x (Update o t u l e) h = h
bare_names x (UpdatePointer d of l e) h = h
bare_names x (Step d g t u l) h = h
bare_names x (StepPointer d g of l) h = h
bare_names x (Call c all) h = h

-- more places may be a block's own
pub more_own : (x : Setting) (Own Other : ℕ → Type 0) → ((q : ℕ) → Own q → Other q) → (all : List Block) → AreInner x Own all → AreInner x Other all
more_own x Own Other h [] k = tt
more_own x Own Other h (b ∷ all) k = (record { place = k.0.place; has = k.0.has; own = h k.0.place k.0.own; instructions = k.0.instructions; end = k.0.end }, more_own x Own Other h all k.1)

module _ (x : Setting) where
  -- elements that name what is there
  abbrev pub ElementsName : List RvalueTree → Type 0
  ElementsName all = AllByRecursion (E x) all

  abbrev pub InitialNames : InitialTree → Type 0
  InitialNames Zero = Unit {0}
  InitialNames (scalar-initial e) = E x e
  InitialNames (Elements all) = ElementsName all
  InitialNames (Literal k) = Unit {0}

  -- what is written is no more than its object has, and its bytes are there
  abbrev pub InitialFits : ObjectType → InitialTree → Type 0
  InitialFits (of-object.Array s count) (Elements all) = length all ≤ count
  InitialFits of (Literal k) = k < length x.unit.array_bytes
  InitialFits of i = Unit {0}

  -- the object of a type has a number
  abbrev pub HasObject : (variable object : ℕ) → Type 0
  HasObject v j = slice_get x.graph.objects j ≡ Some (memory_object x.program v)

  -- A declarator's variable has a home, and what is written names what is there and fits it.
  pub record DeclaratorNames (d : DeclaredTree) : Type 0 where
    pub names : InitialNames d.initial
    pub fits : InitialFits (object_type_of x.program d.variable) d.initial
    pub object : scalar_of (n x) d.variable ≡ None → (j : ℕ) × (object_of (n x) d.variable ≡ Some j) × HasObject d.variable j

  abbrev pub DeclaratorsName : List DeclaredTree → Type 0
  DeclaratorsName all = AllByRecursion DeclaratorNames all

  -- blocks that name what is there
  abbrev pub BlockIs : Block → Type 0
  BlockIs b = Are x (λ q. Unit {0}) b.instructions × EndIs x (λ q. Unit {0}) b.end

  -- the place of one of a part's blocks, or that at which one is added
  abbrev pub InPart : List Block → ℕ → Type 0
  InPart placed q = Among q (markers_of_blocks placed)

  abbrev pub OrHere : (here : ℕ) → List Block → ℕ → Type 0
  OrHere here placed q = (q ≡ here) ⊎ InPart placed q

  -- The blocks of a part name what is there, and each inner one has the place of one of the others.
  pub record IsPart (part : Part) : Type 0 where
    pub placed : AllByRecursion BlockIs part.placed
    pub inner : AreInner x (InPart part.placed) part.inner

module _ (x : Setting) (places : List Place) (entry scalars top : ℕ) where
  abbrev pub c : Coding
  c = record { names = x.names; program = x.program; places = places; entry = entry; scalars = scalars; top = top }

  abbrev pub Here : (at : ℕ) → Part → ℕ → Type 0
  Here at part q = OrHere x (place_of c at) part.placed q

  -- code that stands in the place at a position, behind a part
  abbrev pub IsCode : (at : ℕ) → Part → Made → Type 0
  IsCode at part m = IsMade x (Here at part) m

  abbrev pub IsFor : (at : ℕ) → Part → Goal → Type 0
  IsFor at part g = IsGoal x (Here at part) g

  abbrev pub AreHere : (at : ℕ) → Part → List Block → Type 0
  AreHere at part all = AreInner x (Here at part) all

  -- the block of a place
  pub place_adds : (at : ℕ) (m : Made) (part : Part) → IsPart x part → (AreHere at part part.inner → IsCode at part m) → IsPart x (placed_at c at m part.placed)
  place_adds at m part h made =
      let here = more_own x (InPart x part.placed) (Here at part) (λ q k. inr k) part.inner h.inner in
      let is = made here in
      record {
        placed = (((tt, is.ops), is.end), h.placed);
        inner = more_own x (Here at part) (InPart x (placed_at c at m part.placed).placed) (λ q k. found q k) m.inner is.inner;
      }
    where
      found : (q : ℕ) → Here at part q → Among q (place_of c at ∷ markers_in m.ops ++ markers_of_blocks part.placed)
      found q (inl e) = subst (λ r. Among r (place_of c at ∷ markers_in m.ops ++ markers_of_blocks part.placed)) (sym e) front
      found q (inr a) = behind (in_back (markers_in m.ops) (markers_of_blocks part.placed) q a)

  pub code_at : (at : ℕ) (part : Part) (e : RvalueTree) → E x e → (t : ℕ) (g : Goal) → (laid (n x) e (use_of g) t).top ≤ most x → IsFor at part g → IsCode at part (code (n x) (place_of c at) top e t g)
  code_at at part e s t g le k = code_is x (place_of c at) top (Here at part) (inl refl) e s t g le k

  -- the code of an expression, by the names that are reached
  pub coded_at : (at : ℕ) (part : Part) (e : RvalueTree) → E x e → (t : ℕ) (g : Goal) → reached c e (use_of g) t ≤ most x → IsFor at part g → IsCode at part (coded c at e t g)
  coded_at at part e s t g le k = code_at at part e s (begun c t) g (omega (arith, le)) k

  pub going_is : (at : ℕ) (part : Part) (next : Option ℕ) (inner : List Block) → AreHere at part inner → IsCode at part (going c next inner)
  going_is at part (Some to) inner h = ending_is x (Here at part) (Jump _) inner tt h
  going_is at part None inner h = ending_is x (Here at part) (unit.Return None) inner tt h

  pub ends_are : (at : ℕ) (part : Part) (next : Option ℕ) (inner : List Block) → AreHere at part inner → AreHere at part (with_end c at next inner)
  ends_are at part (Some to) inner h = h
  ends_are at part None inner h = closed_is x (Here at part) (place_of c at) top (inl refl) (ending (unit.Return None) inner) (ending_is x (Here at part) (unit.Return None) inner tt h)

  -- objects
  cleared_is : (at : ℕ) (part : Part) (object bytes covered : ℕ) (m : Made) → object < length x.graph.objects → IsCode at part m → IsCode at part (cleared object bytes covered m)
  cleared_is at part object bytes covered m lt k = go (nat_le (words_of bytes) covered)
    where
      go : (b : Bool) → IsCode at part (if b then m else instruction_before (unit.Zero object (words_of bytes)) m)
      go true = k
      go false = before_is x (Here at part) (unit.Zero object (words_of bytes)) m lt k

  by_size : (a b z : ℕ) → a ≤ b → a * z ≤ b * z
  by_size a b z h = grind (arith, h)

  in_object : (o : MemoryObject) (object index count : ℕ) (s : Scalar) → slice_get x.graph.objects object ≡ Some o → o.element ≡ element_of s → o.count ≡ count → index ≤ count → IsInObject (slice_get x.graph.objects object) (index * scalar_size s)
  in_object o object index count s is element many le =
      let size : size_of o.element ≡ scalar_size s = ap size_of element ∙ element_size s ∙ sym (type_sizes s.base s.stars) in
      subst (λ r. IsInObject r (index * scalar_size s)) (sym is) (subst (λ z. index * scalar_size s ≤ o.count * z) (sym size) (subst (λ k. index * scalar_size s ≤ k * scalar_size s) (sym many) (by_size index count (scalar_size s) le)))

  at_beginning : (o : MemoryObject) (object : ℕ) → slice_get x.graph.objects object ≡ Some o → IsInObject (slice_get x.graph.objects object) 0
  at_beginning o object is = subst (λ r. IsInObject r 0) (sym is) (omega arith)

  elements_are : (at : ℕ) (part : Part) (o : MemoryObject) (s : Scalar) (object index count : ℕ) (all : List RvalueTree) (t : ℕ) (m : Made) → slice_get x.graph.objects object ≡ Some o → o.element ≡ element_of s → o.count ≡ count → index + length all ≤ count → ElementsName x all →
      elements_reached c all t ≤ most x → IsCode at part m → IsCode at part (store_elements c at s object index all t m)
  elements_are at part o s object index count [] t m is element many le names top_is k = k
  elements_are at part o s object index count (e ∷ more) t m is element many le names top_is k =
      let r = laid (n x) (bare e) Anywhere t in
      let rest = store_elements c at s object (index + 1) more (pick (n x) t r.top) m in
      let named = bare_names x e names.0 in
      let small : r.top ≤ most x = omega (arith, top_is) in
      code_at at part (bare e) named t (To None (instruction_before (Store (element_of s) (Automatic object (index * scalar_size s)) r.value) rest)) small (
        tt,
        before_is x (Here at part) (Store (element_of s) (Automatic object (index * scalar_size s)) r.value) rest (in_object o object index count s is element many (omega (arith, le)), value_stands x (bare e) named Anywhere t tt small)
            (elements_are at part o s object (index + 1) count more (pick (n x) t r.top) m is element many (omega (arith, le)) names.1 (omega (arith, top_is)) k),
      )

  single_is : (at : ℕ) (part : Part) (o : MemoryObject) (object : ℕ) (s : Scalar) (i : InitialTree) (t : ℕ) (m : Made) → slice_get x.graph.objects object ≡ Some o → InitialNames x i → initial_reached c None i t ≤ most x → IsCode at part m → IsCode at part (declare_single c at object s i t m)
  single_is at part o object s Zero t m is names le k = before_is x (Here at part) (Store (element_of s) (Automatic object 0) (unit.Constant 0)) m (at_beginning o object is, tt) k
  single_is at part o object s (scalar-initial e) t m is names le k =
      let r = laid (n x) e Anywhere (begun c t) in
      coded_at at part e names t (To None (instruction_before (Store (element_of s) (Automatic object 0) r.value) m)) le
      (tt, before_is x (Here at part) (Store (element_of s) (Automatic object 0) r.value) m (at_beginning o object is, value_stands x e names Anywhere (begun c t) tt (omega (arith, le))) k)
  single_is at part o object s (Elements all) t m is names le k = cleared_is at part object (scalar_size s) 0 m (slice_get_within x.graph.objects object o is) k
  single_is at part o object s (Literal j) t m is names le k = cleared_is at part object (scalar_size s) 0 m (slice_get_within x.graph.objects object o is) k

  array_is : (at : ℕ) (part : Part) (o : MemoryObject) (object : ℕ) (s : Scalar) (count bytes : ℕ) (i : InitialTree) (t : ℕ) (m : Made) → slice_get x.graph.objects object ≡ Some o → o.element ≡ element_of s → o.count ≡ count → InitialNames x i → InitialFits x (of-object.Array s count) i →
      initial_reached c None i t ≤ most x → IsCode at part m → IsCode at part (declare_array c at object s bytes i t m)
  array_is at part o object s count bytes (Elements all) t m is element many names fits le k =
      let rest = store_elements c at s object 0 all (begun c t) m in
      cleared_is at part object bytes 0 rest (slice_get_within x.graph.objects object o is) (elements_are at part o s object 0 count all (begun c t) m is element many (omega (arith, fits)) names (omega (arith, le)) k)
  array_is at part o object s count bytes (Literal j) t m is element many names fits le k =
      let within = slice_get_within x.graph.objects object o is in
      let rest = instruction_before (CopyWords object j (copied_words c j bytes)) m in
      cleared_is at part object bytes (copied_words c j bytes) rest within (before_is x (Here at part) (CopyWords object j (copied_words c j bytes)) m (within, fits) k)
  array_is at part o object s count bytes Zero t m is element many names fits le k = cleared_is at part object bytes 0 m (slice_get_within x.graph.objects object o is) k
  array_is at part o object s count bytes (scalar-initial e) t m is element many names fits le k = cleared_is at part object bytes 0 m (slice_get_within x.graph.objects object o is) k

  kept_is : (at : ℕ) (part : Part) (of : ObjectType) (o : MemoryObject) (object : ℕ) (i : InitialTree) (t : ℕ) (m : Made) → slice_get x.graph.objects object ≡ Some o → o.element ≡ object_element of → o.count ≡ object_count of → InitialNames x i → InitialFits x of i →
      initial_reached c None i t ≤ most x → IsCode at part m → IsCode at part (declare_kept c at object of i t m)
  kept_is at part (of-object.Scalar s) o object i t m is element many names fits le k = single_is at part o object s i t m is names le k
  kept_is at part (of-object.Array s count) o object i t m is element many names fits le k = array_is at part o object s count (scalar_size s * count) i t m is element many names fits le k

  moved_note : (at : ℕ) (part : Part) (y : ℕ) (m : Made) → y < length x.graph.scalars → IsCode at part m → IsCode at part (instruction_before (unit.Move y (unit.Constant 0)) (note y m))
  moved_note at part y m lt k = let few = x.few in before_is x (Here at part) (unit.Move y (unit.Constant 0)) (note y m) (omega (arith, lt, few), tt) (note_is x (Here at part) y m lt k)

  scalar_is : (at : ℕ) (part : Part) (y : ℕ) (i : InitialTree) (t : ℕ) (m : Made) → y < length x.graph.scalars → InitialNames x i → initial_reached c (Some y) i t ≤ most x → IsCode at part m → IsCode at part (declare_scalar c at y i t m)
  scalar_is at part y (scalar-initial e) t m lt names le k = let few = x.few in coded_at at part e names t (To (Some y) (note y m)) le (omega (arith, lt, few), note_is x (Here at part) y m lt k)
  scalar_is at part y Zero t m lt names le k = moved_note at part y m lt k
  scalar_is at part y (Elements all) t m lt names le k = moved_note at part y m lt k
  scalar_is at part y (Literal j) t m lt names le k = moved_note at part y m lt k

  -- what a declarator writes
  kept_by : (at : ℕ) (part : Part) (of : ObjectType) (o : MemoryObject) (r : Option ℕ) (j : ℕ) (i : InitialTree) (t : ℕ) (m : Made) → r ≡ Some j → slice_get x.graph.objects j ≡ Some o → o.element ≡ object_element of → o.count ≡ object_count of → InitialNames x i → InitialFits x of i →
      initial_reached c None i t ≤ most x → IsCode at part m → IsCode at part (declare_kept c at (or_zero r) of i t m)
  kept_by at part of o None j i t m e is element many names fits le k = cc
  kept_by at part of o (Some v) j i t m e is element many names fits le k = kept_is at part of o v i t m (subst (λ z. slice_get x.graph.objects z ≡ Some o) (same e) is) element many names fits le k
    where
      same : Some v ≡ Some j → j ≡ v
      same e = cc

  declare_is : (part : Part) (d : DeclaredTree) → DeclaratorNames x d → (r : Option ℕ) → scalar_of (n x) d.variable ≡ r → (t : ℕ) (m : Made) → initial_reached c r d.initial t ≤ most x → IsCode d.spot.at part m → IsCode d.spot.at part (declare_as c r d t m)
  declare_is part d h (Some y) e t m le k = scalar_is d.spot.at part y d.initial t m (x.scalars d.variable y e) h.names le k
  declare_is part d h None e t m le k =
      let o = h.object e in
      kept_by d.spot.at part (object_type_of x.program d.variable) (memory_object x.program d.variable) (object_of (n x) d.variable) o.0 d.initial t m o.1 o.2 refl refl h.names h.fits le k

  -- the blocks of declarators
  pub declared_are : (all : List DeclaredTree) → DeclaratorsName x all → (t : ℕ) (next : Option ℕ) (part : Part) → declared_reached c all t ≤ most x → IsPart x part → IsPart x (add_declared c all t next part)
  declared_are [] names t next part le h = h
  declared_are (d ∷ more) names t next part le h =
      let r = scalar_of (n x) d.variable in
      let later = add_declared c more (initial_reached c r d.initial t) next part in
      let to = start_of_declarators more next in
      let reach = declared_more c more (initial_reached c r d.initial t) in
      place_adds d.spot.at (declare c d t (going c to later.inner)) later (declared_are more names.1 (initial_reached c r d.initial t) next part le h)
      (λ here. declare_is later d names.0 r refl t (going c to later.inner) (omega (arith, le, reach)) (going_is d.spot.at later to later.inner here))
