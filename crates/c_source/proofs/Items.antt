-- The items of a source define well typed functions, whose variables follow one another.
use Rattle.std.proofs.Common.{◌≡◌, ℕ, ◌+◌, List, [], ◌∷◌, ◌++◌, length, take, slice_get, Bool, true, false, ◌&&◌, Option, Some, None, refl, sym, ap, ◌∙◌, subst, append-nil, append_assoc}
use Rattle.std.specs.Prelude.{if◌then◌else◌, is_some, codes, ◌==◌}
use Rattle.std.proofs.lemmas.Bool.{eqb-true, eq-eqb}
use Rattle.debug_records.specs.declared.source.Spot.{Spot}
use Rattle.debug_records.specs.declared.code.TheConstants.Code.{REDECLARED}
use Rattle.c_tree.specs.declared.extent.Extent.{Extent}
use Rattle.c_tree.specs.declared.declaration.Header.{Header}
use Rattle.c_tree.specs.declared.declaration.Header.TheVariants as header
use Rattle.c_tree.specs.declared.object_type.ValueType.TheVariants.{Void}
use Rattle.c_tree.specs.declared.typed_expression.Callee.{Callee}
use Rattle.c_tree.specs.declared.typed_expression.Callee.TheVariants as callee
use Rattle.c_tree.specs.Declarations.{BracketsTree, Absent, Empty, Sized, ParameterTree}
use Rattle.c_tree.specs.Statements.{BlockTree}
use Rattle.c_tree.specs.Trees.{FunctionTree, ItemTree, Include, Declares, Defines}
use Rattle.c_tree.specs.TypedStatements as typed-tree
use Rattle.c_tree.specs.Programs.{TypedFunctionTree, ProgramTree}
use Rattle.c_type_expressions.specs.declared.names.Meaning.{Meaning}
use Rattle.c_type_expressions.specs.declared.names.Meaning.TheVariants.{Variable, Function, EndOfFile}
use Rattle.c_type_expressions.specs.Names.{SignatureTree, meaning_of}
use Rattle.c_type_declarations.specs.Progress.{ProgressTree, Met, means, next_met, reached_by, breaks, opened, scope_left}
use Rattle.c_type_declarations.specs.Objects.{size_met}
use Rattle.c_type.specs.Headers.{is_library_name, with_function, library, is_library, same_type, stands_with, standing_of, placed, library_met, end_beside, at_spot, included}
use Rattle.c_type.specs.Functions.{parameter_size, parameter_sizes, parameters_met, defined, signature_of, agrees_with, known_as, name_met, without_new, rest_met, function_met}
use Rattle.c_type.specs.Items.{item_met, items_met, beginning, source_met}
use Rattle.c_type_laws.specs.Statements.{are_statements}
use Rattle.c_type_laws.specs.Laws.{declares_its_own, follow}
use Rattle.c_source.specs.Formed.{IsSizeFormed}
use Rattle.c_source.specs.Files.{AreSizesFormed, AreNamesFormed, IsBodyFormed, IsItemFormed, AreItemsFormed, IsFileKnown, Passes, are_typed, Defined}
use Rattle.c_source.specs.Storage.{AreStored}
use Rattle.c_source.specs.Progress.{AreKept, AreScopesKnown, Ensures}
use Rattle.c_source.proofs.Same.{two_true, both}
use Rattle.c_source.proofs.Growing.{begins_itself, begins_on, take_beginning, grows_itself}
use Rattle.c_source.proofs.Coming.{closed_scopes}
use Rattle.c_source.proofs.Sizing.{Counts, size_some}
use Rattle.c_source.proofs.Bodies.{begins_same, parameters_come, body_defines}
use Rattle.c_source.proofs.Filing.{extends_on, reaches_before, passes_itself, passes_on, breaks_passes, looks_passes, other_passes, statics_pass}

-- functions behind functions
follow_on : (a b c : ℕ) (fs gs : List TypedFunctionTree) → follow a b fs ≡ true → follow b c gs ≡ true → follow a c (fs ++ gs) ≡ true
follow_on a b c [] gs h g = subst (λ n. follow n c gs ≡ true) (sym (eqb-true a b h)) g
follow_on a b c (f ∷ fs) gs h g = let d = two_true (f.first_variable == a) (follow (a + f.variables) b fs) h in both (f.first_variable == a) (follow (a + f.variables) c (fs ++ gs)) d.0 (follow_on (a + f.variables) b c fs gs d.1 g)

typed_on : (p : ProgramTree) (fs gs : List TypedFunctionTree) → are_typed p fs ≡ true → are_typed p gs ≡ true → are_typed p (fs ++ gs) ≡ true
typed_on p [] gs h g = g
typed_on p (f ∷ fs) gs h g =
    let d = two_true (are_statements p f false false None f.body && declares_its_own f) (are_typed p fs) h in
    both (are_statements p f false false None f.body && declares_its_own f) (are_typed p (fs ++ gs)) d.0 (typed_on p fs gs d.1 g)

module _ (p : ProgramTree) where
  -- what defines nothing
  passes_defined : (q t : ProgressTree) → Passes p q t → Defined p q [] t
  passes_defined q t h = record { extends = h.extends; known = h.known; follows = eq-eqb _ _ (ap length (sym h.same)); typed = λ k r. refl; stored = h.stored }

  -- behind what defines nothing
  behind_passes : (q r : ProgressTree) (fs : List TypedFunctionTree) (t : ProgressTree) → Passes p q r → Defined p r fs t → Defined p q fs t
  behind_passes q r fs t h d =
      record {
        extends = extends_on h.extends d.extends;
        known = λ k b. d.known (h.known k (begins_on r.statics t.statics p.statics d.extends.statics b)) b;
        follows = subst (λ l. follow (length l) (length t.automatics) fs ≡ true) h.same d.follows;
        typed = λ k e. d.typed (h.known k (begins_on r.statics t.statics p.statics d.extends.statics e.statics)) e;
        stored = λ k e s. d.stored (h.known k (begins_on r.statics t.statics p.statics d.extends.statics e.statics)) e (h.stored k (reaches_before p d.extends e) s);
      }

  both_defined : (q r : ProgressTree) (fs gs : List TypedFunctionTree) (t : ProgressTree) → Defined p q fs r → Defined p r gs t → Defined p q (fs ++ gs) t
  both_defined q r fs gs t c d =
      record {
        extends = extends_on c.extends d.extends;
        known = λ k b. d.known (c.known k (begins_on r.statics t.statics p.statics d.extends.statics b)) b;
        follows = follow_on (length q.automatics) (length r.automatics) (length t.automatics) fs gs c.follows d.follows;
        typed = λ k e.
            let before = reaches_before p d.extends e in
            typed_on p fs gs (c.typed k before) (d.typed (c.known k before.statics) e);
        stored = λ k e s. let before = reaches_before p d.extends e in d.stored (c.known k before.statics) e (c.stored k before s);
      }

  -- the name of a function
  with_function_passes : (name : List ℕ) (g : SignatureTree) (q : ProgressTree) → Passes p q (with_function name g q)
  with_function_passes name g q =
      let r : ProgressTree = record q { names = record (q.names) { signatures = q.names.signatures ++ g ∷ [] } } in
      let here : Passes p q r =
      record {
        extends = record { found = grows_itself q.found; automatics = begins_itself q.automatics; array_literals = begins_itself q.array_literals; statics = begins_itself q.statics; signatures = (g ∷ [], refl); kept = λ h. h; ended = λ h. h };
        known = λ k b. k;
        same = refl;
        stored = λ k e s. s;
      } in
      passes_on p here (other_passes p name (Function (length q.names.signatures)) r (λ o of e. cc))

  known_as_passes : (k : ℕ) (f : FunctionTree) (g : SignatureTree) (m : Option Meaning) (q : ProgressTree) → Passes p q (known_as k f g m q)
  known_as_passes k f g None q = with_function_passes f.name.name g q
  known_as_passes k f g (Some m) q = by (agrees_with k f g m q)
    where
      by : (b : Bool) → Passes p q (if b then q else breaks REDECLARED f.extent q)
      by true = passes_itself p q
      by false = breaks_passes p REDECLARED f.extent q

  name_passes : (k : ℕ) (f : FunctionTree) (g : SignatureTree) (q : ProgressTree) → Passes p q (name_met k f g q)
  name_passes k f g q = by (is_some f.body && is_library_name f.name.name)
    where
      by : (b : Bool) → Passes p q (if b then breaks REDECLARED f.extent q else known_as k f g (meaning_of q.names f.name.name) q)
      by true = breaks_passes p REDECLARED f.extent q
      by false = known_as_passes k f g (meaning_of q.names f.name.name) q

  -- what headers declare
  beside_passes : (extent : Extent) (name : List ℕ) (g other : SignatureTree) (q : ProgressTree) → Passes p q (placed (stands_with g (Some other)) extent name g q)
  beside_passes extent name g other q = by (is_library other.callee) (same_type other g) refl refl
    where
      by : (b c : Bool) → is_library other.callee ≡ b → same_type other g ≡ c → Passes p q (placed (stands_with g (Some other)) extent name g q)
      by true c e d = rw e (passes_itself p q)
      by false true e d = rw (e, d) (with_function_passes name g q)
      by false false e d = rw (e, d) (breaks_passes p REDECLARED extent q)

  standing_passes : (extent : Extent) (name : List ℕ) (g : SignatureTree) (o : Option SignatureTree) (q : ProgressTree) → Passes p q (placed (stands_with g o) extent name g q)
  standing_passes extent name g (Some other) q = beside_passes extent name g other q
  standing_passes extent name g None q = breaks_passes p REDECLARED extent q

  placed_passes : (extent : Extent) (name : List ℕ) (g : SignatureTree) (functions : List SignatureTree) (m : Option Meaning) (q : ProgressTree) → Passes p q (placed (standing_of g functions m) extent name g q)
  placed_passes extent name g functions None q = with_function_passes name g q
  placed_passes extent name g functions (Some (Function k)) q = standing_passes extent name g (slice_get functions k) q
  placed_passes extent name g functions (Some (Variable o of)) q = breaks_passes p REDECLARED extent q
  placed_passes extent name g functions (Some EndOfFile) q = breaks_passes p REDECLARED extent q

  pub library_passes : (extent : Extent) (name : List ℕ) (c : Callee) (q : ProgressTree) → Passes p q (library_met extent name c q)
  library_passes extent name c q = placed_passes extent name (library c) q.names.signatures (meaning_of q.names name) q

  pub end_passes : (extent : Extent) (m : Option Meaning) (q : ProgressTree) → Passes p q (end_beside extent m q)
  end_passes extent None q = other_passes p (codes "EOF") EndOfFile q (λ o of e. cc)
  end_passes extent (Some EndOfFile) q = passes_itself p q
  end_passes extent (Some (Variable o of)) q = breaks_passes p REDECLARED extent q
  end_passes extent (Some (Function k)) q = breaks_passes p REDECLARED extent q

  included_passes : (spot : Spot) (h : Header) (q : ProgressTree) → Passes p q (included spot h q)
  included_passes spot header.Stdio q =
      let r = library_met (at_spot spot) (codes "getchar") callee.Getchar q in
      let s = library_met (at_spot spot) (codes "putchar") callee.Putchar r in
      passes_on p (library_passes (at_spot spot) (codes "getchar") callee.Getchar q) (passes_on p (library_passes (at_spot spot) (codes "putchar") callee.Putchar r) (end_passes (at_spot spot) (meaning_of s.names (codes "EOF")) s))
  included_passes spot header.Stdlib q = library_passes (at_spot spot) (codes "exit") callee.Exit q

  -- any function
  abbrev any_function : Spot → TypedFunctionTree
  any_function spot = record { name = []; spot = spot; result = Void; first_variable = 0; parameters = 0; variables = 0; body = typed-tree.none; close = spot; weight = 0 }

  -- sizes in the brackets of parameters
  pub size_passes : (extent : Extent) (b : BracketsTree) (q : ProgressTree) → IsSizeFormed b → Passes p q (parameter_size extent b q)
  unfolding reached_by
  size_passes extent (Sized e) q h = by (size_met extent e q) (size_some p (any_function extent.first) 0 extent e q h)
    where
      by : (m : Met ℕ) → Ensures (Counts p (any_function extent.first) 0 q) m → Passes p q (reached_by m (λ n r. r))
      by (means n t) l = looks_passes p l.0
  size_passes extent Absent q h = passes_itself p q
  size_passes extent Empty q h = passes_itself p q

  pub sizes_pass : (ds : List ParameterTree) (q : ProgressTree) → AreSizesFormed ds → Passes p q (parameter_sizes ds q)
  sizes_pass [] q h = passes_itself p q
  sizes_pass (d ∷ ds) q h = passes_on p (size_passes d.extent d.brackets q h.0) (sizes_pass ds (parameter_size d.extent d.brackets q) h.1)

  -- a function that is only declared
  only_passes : (f : FunctionTree) (q : ProgressTree) → AreNamesFormed f.parameters → Passes p q (without_new (length q.automatics) (scope_left (parameters_met f.parameters (opened q))))
  only_passes f q names =
      let t = parameters_met f.parameters (opened q) in
      let a = (parameters_come p (any_function f.name.spot) f.parameters (opened q) names).advances in
      let same : take (length q.automatics) t.automatics ≡ q.automatics = ap (take (length q.automatics)) a.automatics.1 ∙ take_beginning q.automatics a.automatics.0 in
      record {
        extends = record {
          found = a.found;
          automatics = begins_same same;
          array_literals = a.array_literals;
          statics = begins_same a.statics;
          signatures = begins_same a.signatures;
          kept = λ h. subst AreKept (sym same) h;
          ended = a.ended;
        };
        known = λ k b one. subst (AreScopesKnown p one) (sym (closed_scopes q t a)) (k one);
        same = same;
        stored = λ k e s. subst (AreStored p) (sym a.statics) s;
      }

  -- a function
  pub rest_defined : (f : FunctionTree) (g : SignatureTree) (b : Option BlockTree) (q : ProgressTree) → IsBodyFormed f.parameters b → Ensures (Defined p q) (rest_met f g b q)
  rest_defined f g (Some b) q h = body_defines p f g b q h.0 h.2 h.1
  rest_defined f g None q h = passes_defined q (without_new (length q.automatics) (scope_left (parameters_met f.parameters (opened q)))) (only_passes f q h)

  ensures_behind : (q r : ProgressTree) (m : Met (List TypedFunctionTree)) → Passes p q r → Ensures (Defined p r) m → Ensures (Defined p q) m
  ensures_behind q r (means fs t) h d = behind_passes q r fs t h d

  function_defined : (names : List (List ℕ)) (k : ℕ) (f : FunctionTree) (q : ProgressTree) → AreSizesFormed f.parameters → IsBodyFormed f.parameters f.body → Ensures (Defined p q) (function_met names k f q)
  function_defined names k f q sizes formed =
      let s = parameter_sizes f.parameters q in
      let r = name_met k f (signature_of names f) s in
      ensures_behind q r (rest_met f (signature_of names f) f.body r) (passes_on p (sizes_pass f.parameters q sizes) (name_passes k f (signature_of names f) s)) (rest_defined f (signature_of names f) f.body r formed)

  -- what stands at file scope
  pub item_defined : (names : List (List ℕ)) (k : ℕ) (i : ItemTree) (q : ProgressTree) → IsItemFormed i → Ensures (Defined p q) (item_met names k i q)
  item_defined names k (Include spot h) q formed = passes_defined q (included spot h q) (included_passes spot h q)
  item_defined names k (Declares d) q formed = passes_defined q _ (statics_pass p d.type d.declarators q formed)
  item_defined names k (Defines f) q formed = function_defined names k f q formed.0 formed.1

  -- items behind functions: the functions so far, and those that they define
  pub record AllDefined (fs : List TypedFunctionTree) (q : ProgressTree) (gs : List TypedFunctionTree) (t : ProgressTree) : Type 0 where
    pub more : List TypedFunctionTree
    pub is : gs ≡ fs ++ more
    pub defined : Defined p q more t

  pub items_defined : (names : List (List ℕ)) (fs : List TypedFunctionTree) (items : List ItemTree) (q : ProgressTree) → AreItemsFormed items → Ensures (AllDefined fs q) (items_met names fs items q)
  unfolding next_met
  items_defined names fs [] q formed = record { more = []; is = sym (append-nil fs); defined = passes_defined q q (passes_itself p q) }
  items_defined names fs (i ∷ rest) q formed = by (item_met names (length fs) i q) (item_defined names (length fs) i q formed.0) (λ gs t. items_defined names gs rest t formed.1)
    where
      later : (more : List TypedFunctionTree) (t : ProgressTree) (m : Met (List TypedFunctionTree)) → Defined p q more t → Ensures (AllDefined (fs ++ more) t) m → Ensures (AllDefined fs q) m
      later more t (means gs u) d all = record { more = more ++ all.more; is = all.is ∙ append_assoc fs more all.more; defined = both_defined q t more all.more u d all.defined }

      by : (m : Met (List TypedFunctionTree)) → Ensures (Defined p q) m → ((gs : List TypedFunctionTree) (t : ProgressTree) → Ensures (AllDefined gs t) (items_met names gs rest t))
          → Ensures (AllDefined fs q) (next_met (next_met m (λ more. means (fs ++ more))) (λ gs. items_met names gs rest))
      by (means more t) d all = later more t (items_met names (fs ++ more) rest t) d (all (fs ++ more) t)

  -- a source
  pub source_defined : (items : List ItemTree) → AreItemsFormed items → Ensures (AllDefined [] beginning) (source_met items)
  source_defined items formed = items_defined (defined items) [] items beginning formed

  -- before the first item each name is known, since there is none
  pub beginning_known : IsFileKnown p beginning
  beginning_known f = ((λ name o of h. cc), tt)
