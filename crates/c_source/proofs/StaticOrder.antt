-- The static variables of an accepted program stand where its source declares them, in that order.
use Rattle.std.proofs.Common.{◌≡◌, ℕ, List, [], ◌∷◌, ◌++◌, length, map, slice_get, Bool, true, false, ◌&&◌, Option, Some, None, refl, sym, ap, ◌∙◌, append-nil, append_assoc}
use Rattle.std.specs.Prelude.{if◌then◌else◌, is_some, codes}
use Rattle.debug_records.specs.declared.source.Spot.{Spot}
use Rattle.debug_records.specs.declared.code.Code.{Code}
use Rattle.debug_records.specs.declared.code.TheConstants.Code.{REDECLARED}
use Rattle.c_tree.specs.declared.extent.Extent.{Extent}
use Rattle.c_tree.specs.declared.types.IntegerType.{IntegerType}
use Rattle.c_tree.specs.declared.declaration.Header.{Header}
use Rattle.c_tree.specs.declared.declaration.Header.TheVariants as header
use Rattle.c_tree.specs.declared.object_type.Object.TheVariants as designator
use Rattle.c_tree.specs.declared.object_type.ObjectType.{ObjectType}
use Rattle.c_tree.specs.declared.object_type.ValueType.{ValueType}
use Rattle.c_tree.specs.declared.object_type.ValueType.TheVariants.{Void}
use Rattle.c_tree.specs.declared.typed_expression.Callee.{Callee}
use Rattle.c_tree.specs.declared.typed_expression.Callee.TheVariants as callee
use Rattle.c_tree.specs.Declarations.{BracketsTree, Absent, Empty, Sized, ParameterTree, DeclaratorTree}
use Rattle.c_tree.specs.Statements.{BlockTree, chain_of_statements}
use Rattle.c_tree.specs.Trees.{FunctionTree, ItemTree, Include, Declares, Defines}
use Rattle.c_tree.specs.TypedStatements.{TypedStatementTrees}
use Rattle.c_tree.specs.TypedStatements as typed-tree
use Rattle.c_tree.specs.Programs.{StaticTree, TypedFunctionTree, ProgramTree}
use Rattle.c_type_expressions.specs.declared.names.Meaning.{Meaning}
use Rattle.c_type_expressions.specs.declared.names.Meaning.TheVariants.{Variable, Function, EndOfFile}
use Rattle.c_type_expressions.specs.Names.{SignatureTree, meaning_of}
use Rattle.c_type_declarations.specs.Scopes.{declared_here}
use Rattle.c_type_declarations.specs.Progress.{ProgressTree, Met, means, next_met, reached_by, breaks, breaks_if, with_name, opened}
use Rattle.c_type_declarations.specs.Objects.{size_met, type_met}
use Rattle.c_type_declarations.specs.Statics.{Contents, contents_met}
use Rattle.c_type_declarations.specs.Declarations.{with_static_object, static_of_type, static_met, statics_met}
use Rattle.c_type_statements.specs.Statements.{statements_met}
use Rattle.c_type.specs.Headers.{is_library_name, library, is_library, same_type, stands_with, standing_of, placed, library_met, end_beside, at_spot, included}
use Rattle.c_type.specs.Functions.{parameter_size, parameter_sizes, parameters_met, defined, signature_of, agrees_with, known_as, name_met, function_made, setting_of, rest_met, function_met}
use Rattle.c_type.specs.Items.{item_met, items_met, beginning, source_met}
use Rattle.c_type_laws.specs.Orders.{ascends}
use Rattle.c_source.specs.Formed.{IsSizeFormed, IsInitialFormed, IsDeclaratorFormed, AreDeclaratorsFormed}
use Rattle.c_source.specs.Files.{AreSizesFormed, IsBodyFormed, IsItemFormed, AreItemsFormed}
use Rattle.c_source.specs.Progress.{Ensures}
use Rattle.c_source.specs.Making.{Makes}
use Rattle.c_source.specs.Stating.{StatesAll}
use Rattle.c_source.specs.Storage.{Fits}
use Rattle.c_source.proofs.Sizing.{Counts, size_some, Types, type_elements}
use Rattle.c_source.proofs.Statements.{all_states}
use Rattle.c_source.proofs.Bodies.{parameters_come}
use Rattle.c_source.proofs.Containing.{contents_make}
use Rattle.c_source.proofs.Programs.{Accepted}

-- where the names of declarators stand
abbrev pub name_spots : List DeclaratorTree → List ℕ
name_spots [] = []
name_spots (d ∷ more) = d.name.spot.at ∷ name_spots more

-- where the names of the static variables stand that an item declares
abbrev pub static_names_of : ItemTree → List ℕ
static_names_of (Include spot header) = []
static_names_of (Declares d) = name_spots d.declarators
static_names_of (Defines f) = []

-- those of a source
abbrev pub static_names : List ItemTree → List ℕ
static_names [] = []
static_names (i ∷ more) = static_names_of i ++ static_names more

-- The names of static variables stand one behind the other.
abbrev pub AreStaticsInOrder : List ItemTree → Type 0
AreStaticsInOrder items = ascends (static_names items) ≡ true

-- where static variables stand
abbrev spots : List StaticTree → List ℕ
spots all = map (λ (v : StaticTree). v.spot.at) all

spots_on : (all : List StaticTree) (v : StaticTree) → spots (all ++ v ∷ []) ≡ spots all ++ v.spot.at ∷ []
spots_on [] v = refl
spots_on (x ∷ all) v = ap (λ l. x.spot.at ∷ l) (spots_on all v)

-- static variables come in, which stand at these spots
abbrev Adds : ProgressTree → List ℕ → ProgressTree → Type 0
Adds q l t = spots t.statics ≡ spots q.statics ++ l

adds_nothing : (q t : ProgressTree) → t.statics ≡ q.statics → Adds q [] t
adds_nothing q t h = ap spots h ∙ sym (append-nil (spots q.statics))

adds_on : (q t u : ProgressTree) (l m : List ℕ) → Adds q l t → Adds t m u → Adds q (l ++ m) u
adds_on q t u l m h g = g ∙ ap (λ z. z ++ m) h ∙ append_assoc (spots q.statics) l m

-- what declares no static variable
breaks_if_statics : {A : Type 0} (o : Option A) (code : Code) (extent : Extent) (q : ProgressTree) → (breaks_if o code extent q).statics ≡ q.statics
breaks_if_statics (Some a) code extent q = refl
breaks_if_statics None code extent q = refl

beside_statics : (extent : Extent) (name : List ℕ) (g other : SignatureTree) (q : ProgressTree) → (placed (stands_with g (Some other)) extent name g q).statics ≡ q.statics
beside_statics extent name g other q = by (is_library other.callee) (same_type other g) refl refl
  where
    by : (b c : Bool) → is_library other.callee ≡ b → same_type other g ≡ c → (placed (stands_with g (Some other)) extent name g q).statics ≡ q.statics
    by true c e d = rw e refl
    by false true e d = rw (e, d) refl
    by false false e d = rw (e, d) refl

standing_statics : (extent : Extent) (name : List ℕ) (g : SignatureTree) (o : Option SignatureTree) (q : ProgressTree) → (placed (stands_with g o) extent name g q).statics ≡ q.statics
standing_statics extent name g (Some other) q = beside_statics extent name g other q
standing_statics extent name g None q = refl

placed_statics : (extent : Extent) (name : List ℕ) (g : SignatureTree) (functions : List SignatureTree) (m : Option Meaning) (q : ProgressTree) → (placed (standing_of g functions m) extent name g q).statics ≡ q.statics
placed_statics extent name g functions None q = refl
placed_statics extent name g functions (Some (Function k)) q = standing_statics extent name g (slice_get functions k) q
placed_statics extent name g functions (Some (Variable o of)) q = refl
placed_statics extent name g functions (Some EndOfFile) q = refl

library_statics : (extent : Extent) (name : List ℕ) (c : Callee) (q : ProgressTree) → (library_met extent name c q).statics ≡ q.statics
library_statics extent name c q = placed_statics extent name (library c) q.names.signatures (meaning_of q.names name) q

end_statics : (extent : Extent) (m : Option Meaning) (q : ProgressTree) → (end_beside extent m q).statics ≡ q.statics
end_statics extent None q = refl
end_statics extent (Some EndOfFile) q = refl
end_statics extent (Some (Variable o of)) q = refl
end_statics extent (Some (Function k)) q = refl

included_statics : (spot : Spot) (h : Header) (q : ProgressTree) → (included spot h q).statics ≡ q.statics
included_statics spot header.Stdio q =
    let r = library_met (at_spot spot) (codes "getchar") callee.Getchar q in
    let s = library_met (at_spot spot) (codes "putchar") callee.Putchar r in
    end_statics (at_spot spot) (meaning_of s.names (codes "EOF")) s ∙ library_statics (at_spot spot) (codes "putchar") callee.Putchar r ∙ library_statics (at_spot spot) (codes "getchar") callee.Getchar q
included_statics spot header.Stdlib q = library_statics (at_spot spot) (codes "exit") callee.Exit q

known_statics : (k : ℕ) (f : FunctionTree) (g : SignatureTree) (m : Option Meaning) (q : ProgressTree) → (known_as k f g m q).statics ≡ q.statics
known_statics k f g None q = refl
known_statics k f g (Some m) q = by (agrees_with k f g m q)
  where
    by : (b : Bool) → (if b then q else breaks REDECLARED f.extent q).statics ≡ q.statics
    by true = refl
    by false = refl

name_statics : (k : ℕ) (f : FunctionTree) (g : SignatureTree) (q : ProgressTree) → (name_met k f g q).statics ≡ q.statics
name_statics k f g q = by (is_some f.body && is_library_name f.name.name)
  where
    by : (b : Bool) → (if b then breaks REDECLARED f.extent q else known_as k f g (meaning_of q.names f.name.name) q).statics ≡ q.statics
    by true = refl
    by false = known_statics k f g (meaning_of q.names f.name.name) q

-- any function that gives such a result
abbrev any_function : ValueType → Spot → TypedFunctionTree
any_function result spot = record { name = []; spot = spot; result = result; first_variable = 0; parameters = 0; variables = 0; body = typed-tree.none; close = spot; weight = 0 }

module _ (p : ProgramTree) where
  size_statics : (extent : Extent) (b : BracketsTree) (q : ProgressTree) → IsSizeFormed b → (parameter_size extent b q).statics ≡ q.statics
  unfolding reached_by
  size_statics extent (Sized e) q h = by (size_met extent e q) (size_some p (any_function Void extent.first) 0 extent e q h)
    where
      by : (m : Met ℕ) → Ensures (Counts p (any_function Void extent.first) 0 q) m → (reached_by m (λ n r. r)).statics ≡ q.statics
      by (means n t) l = l.0.comes.advances.statics
  size_statics extent Absent q h = refl
  size_statics extent Empty q h = refl

  sizes_statics : (ds : List ParameterTree) (q : ProgressTree) → AreSizesFormed ds → (parameter_sizes ds q).statics ≡ q.statics
  sizes_statics [] q h = refl
  sizes_statics (d ∷ ds) q h = sizes_statics ds (parameter_size d.extent d.brackets q) h.1 ∙ size_statics d.extent d.brackets q h.0

  -- a function
  abbrev Same : ProgressTree → List TypedFunctionTree → ProgressTree → Type 0
  Same q fs t = t.statics ≡ q.statics

  rest_statics : (f : FunctionTree) (g : SignatureTree) (b : Option BlockTree) (q : ProgressTree) → IsBodyFormed f.parameters b → Ensures (Same q) (rest_met f g b q)
  unfolding next_met
  rest_statics f g (Some b) q h = by (statements_met (setting_of g) (chain_of_statements b.statements) begun) (all_states p fun (setting_of g) (chain_of_statements b.statements) begun h.1 refl)
    where
      fun : TypedFunctionTree
      fun = any_function g.result f.name.spot

      begun : ProgressTree
      begun = parameters_met f.parameters (opened q)

      by : (m : Met TypedStatementTrees) → Ensures (StatesAll p fun (setting_of g) begun) m → Ensures (Same q) (next_met m (function_made f g b (length q.automatics)))
      by (means ts t) s = s.comes.advances.statics ∙ (parameters_come p fun f.parameters (opened q) h.2).advances.statics
  rest_statics f g None q h = (parameters_come p (any_function g.result f.name.spot) f.parameters (opened q) h).advances.statics

  function_statics : (names : List (List ℕ)) (k : ℕ) (f : FunctionTree) (q : ProgressTree) → AreSizesFormed f.parameters → IsBodyFormed f.parameters f.body → Ensures (λ (fs : List TypedFunctionTree) t. Adds q [] t) (function_met names k f q)
  function_statics names k f q sizes formed =
      let s = parameter_sizes f.parameters q in
      let r = name_met k f (signature_of names f) s in
      by r (rest_met f (signature_of names f) f.body r) (name_statics k f (signature_of names f) s ∙ sizes_statics f.parameters q sizes) (rest_statics f (signature_of names f) f.body r formed)
    where
      by : (r : ProgressTree) (m : Met (List TypedFunctionTree)) → r.statics ≡ q.statics → Ensures (Same r) m → Ensures (λ (fs : List TypedFunctionTree) t. Adds q [] t) m
      by r (means fs t) e h = adds_nothing q t (h ∙ e)

  -- a static variable
  of_type_adds : (d : DeclaratorTree) (of : ObjectType) (q : ProgressTree) → IsInitialFormed d.initializer → Adds q (d.name.spot.at ∷ []) (static_of_type d of q)
  unfolding reached_by
  of_type_adds d of q h = by (contents_met of d.extent d.initializer s) (contents_make p fun 0 of d.extent d.initializer s h)
    where
      fun : TypedFunctionTree
      fun = any_function Void d.name.spot

      s : ProgressTree
      s = with_name d.name.name (Variable (designator.Static (length q.statics)) of) (breaks_if (declared_here q.names d.name.name) REDECLARED d.extent q)

      by : (m : Met Contents) → Ensures (Makes p fun 0 (Fits p of) s) m → Adds q (d.name.spot.at ∷ []) (reached_by m (with_static_object d.name of))
      by (means c u) l =
          let same : u.statics ≡ q.statics = l.looks.comes.advances.statics ∙ breaks_if_statics (declared_here q.names d.name.name) REDECLARED d.extent q in
          let v : StaticTree = record { name = d.name.name; spot = d.name.spot; of = of; bytes = c.bytes; relocations = c.relocations } in
          spots_on u.statics v ∙ ap (λ z. spots z ++ d.name.spot.at ∷ []) same

  one_adds : (t : IntegerType) (d : DeclaratorTree) (q : ProgressTree) → IsDeclaratorFormed d → Adds q (d.name.spot.at ∷ []) (static_met t d q)
  unfolding reached_by
  one_adds t d q h = by (type_met (record { base = t; stars = d.stars }) d q) (type_elements p (any_function Void d.name.spot) 0 (record { base = t; stars = d.stars }) d q h.0)
    where
      by : (m : Met ObjectType) → Ensures (Types p (any_function Void d.name.spot) 0 q) m → Adds q (d.name.spot.at ∷ []) (reached_by m (static_of_type d))
      by (means of u) l = of_type_adds d of u h.1 ∙ ap (λ z. spots z ++ d.name.spot.at ∷ []) l.0.comes.advances.statics

  many_add : (t : IntegerType) (ds : List DeclaratorTree) (q : ProgressTree) → AreDeclaratorsFormed ds → Adds q (name_spots ds) (statics_met t ds q)
  many_add t [] q h = adds_nothing q q refl
  many_add t (d ∷ ds) q h = adds_on q (static_met t d q) (statics_met t ds (static_met t d q)) (d.name.spot.at ∷ []) (name_spots ds) (one_adds t d q h.0) (many_add t ds (static_met t d q) h.1)

  item_adds : (names : List (List ℕ)) (k : ℕ) (i : ItemTree) (q : ProgressTree) → IsItemFormed i → Ensures (λ (fs : List TypedFunctionTree) t. Adds q (static_names_of i) t) (item_met names k i q)
  item_adds names k (Include spot h) q formed = adds_nothing q (included spot h q) (included_statics spot h q)
  item_adds names k (Declares d) q formed = many_add d.type d.declarators q formed
  item_adds names k (Defines f) q formed = function_statics names k f q formed.0 formed.1

  items_add : (names : List (List ℕ)) (fs : List TypedFunctionTree) (items : List ItemTree) (q : ProgressTree) → AreItemsFormed items → Ensures (λ (gs : List TypedFunctionTree) t. Adds q (static_names items) t) (items_met names fs items q)
  unfolding next_met
  items_add names fs [] q formed = adds_nothing q q refl
  items_add names fs (i ∷ rest) q formed = by (item_met names (length fs) i q) (item_adds names (length fs) i q formed.0) (λ gs t. items_add names gs rest t formed.1)
    where
      later : (t : ProgressTree) (m : Met (List TypedFunctionTree)) → Adds q (static_names_of i) t → Ensures (λ (gs : List TypedFunctionTree) u. Adds t (static_names rest) u) m → Ensures (λ (gs : List TypedFunctionTree) u. Adds q (static_names_of i ++ static_names rest) u) m
      later t (means gs u) d all = adds_on q t u (static_names_of i) (static_names rest) d all

      by : (m : Met (List TypedFunctionTree)) → Ensures (λ (fs : List TypedFunctionTree) t. Adds q (static_names_of i) t) m
          → ((gs : List TypedFunctionTree) (t : ProgressTree) → Ensures (λ (hs : List TypedFunctionTree) u. Adds t (static_names rest) u) (items_met names gs rest t))
          → Ensures (λ (gs : List TypedFunctionTree) u. Adds q (static_names_of i ++ static_names rest) u) (next_met (next_met m (λ more. means (fs ++ more))) (λ gs. items_met names gs rest))
      by (means more t) d all = later t (items_met names (fs ++ more) rest t) d (all (fs ++ more) t)

module _ (items : List ItemTree) (p : ProgramTree) (a : Accepted items p) (formed : AreItemsFormed items) where
  there : spots a.progress.statics ≡ static_names items
  there = by (source_met items) a.is (items_add p (defined items) [] items beginning formed)
    where
      by : (m : Met (List TypedFunctionTree)) → m ≡ means a.functions a.progress → Ensures (λ (gs : List TypedFunctionTree) t. Adds beginning (static_names items) t) m → spots a.progress.statics ≡ static_names items
      by (means fs t) e h = let same : t ≡ a.progress = cc in ap (λ z. spots z.statics) (sym same) ∙ h

  -- Static variables stand where the items declare them.
  pub statics_there : map (λ (v : StaticTree). v.spot.at) p.statics ≡ static_names items
  statics_there = ap (λ z. spots z.statics) a.program ∙ there

  -- Static variables ascend in the text.
  pub statics_ascend : AreStaticsInOrder items → ascends (map (λ (v : StaticTree). v.spot.at) p.statics) ≡ true
  statics_ascend order = ap (λ z. ascends (spots z.statics)) a.program ∙ ap ascends there ∙ order
