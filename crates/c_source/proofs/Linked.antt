-- What stands at file scope keeps what the names of functions mean.
use Rattle.std.proofs.Common.{◌≡◌, ℕ, zero, suc, List, [], ◌∷◌, ◌++◌, length, slice_get, true, ◌&&◌, Option, Some, None, refl, sym, ap, ◌∙◌, subst, append-nil, append_assoc}
use Rattle.std.specs.Prelude.{if◌then◌else◌, is_some, codes}
use Rattle.std.specs.Option.{option_map_or}
use Rattle.debug_records.specs.declared.source.Spot.{Spot}
use Rattle.debug_records.specs.declared.code.TheConstants.Code.{REDECLARED}
use Rattle.c_tree.specs.declared.extent.Extent.{Extent}
use Rattle.c_tree.specs.declared.declaration.Header.{Header}
use Rattle.c_tree.specs.declared.declaration.Header.TheVariants as header
use Rattle.c_tree.specs.declared.types.IntegerType.{IntegerType}
use Rattle.c_tree.specs.declared.object_type.ObjectType.{ObjectType}
use Rattle.c_tree.specs.declared.object_type.Object.TheVariants as designator
use Rattle.c_tree.specs.declared.object_type.ValueType.TheVariants.{Void}
use Rattle.c_tree.specs.declared.typed_expression.Callee.TheVariants as callee
use Rattle.c_tree.specs.Declarations.{BracketsTree, Absent, Empty, Sized, ParameterTree, DeclaratorTree}
use Rattle.c_tree.specs.Statements.{BlockTree, chain_of_statements}
use Rattle.c_tree.specs.Trees.{FunctionTree, ItemTree, Include, Declares, Defines}
use Rattle.c_tree.specs.TypedStatements.{TypedStatementTrees}
use Rattle.c_tree.specs.TypedStatements as typed-tree
use Rattle.c_tree.specs.Programs.{TypedFunctionTree, ProgramTree}
use Rattle.c_type_expressions.specs.declared.names.Meaning.{Meaning}
use Rattle.c_type_expressions.specs.declared.names.Meaning.TheVariants.{Variable}
use Rattle.c_type_expressions.specs.Names.{SignatureTree, meaning_of}
use Rattle.c_type_declarations.specs.Scopes.{innermost, declared_here}
use Rattle.c_type_declarations.specs.Progress.{ProgressTree, Met, means, next_met, reached_by, breaks, breaks_if, with_name, opened, scope_left}
use Rattle.c_type_declarations.specs.Objects.{size_met, type_met}
use Rattle.c_type_declarations.specs.Statics.{Contents, contents_met}
use Rattle.c_type_declarations.specs.Declarations.{with_static_object, static_of_type, static_met, statics_met}
use Rattle.c_type_statements.specs.Statements.{statements_met}
use Rattle.c_type.specs.Headers.{is_library_name, library_met, at_spot, included}
use Rattle.c_type.specs.Functions.{parameter_size, parameter_sizes, parameters_met, result_type, names_if, defined_by, defined, setting_of, function_made, signature_of, known_as, name_met, without_new, rest_met}
use Rattle.c_type.specs.Items.{item_met, items_met}
use Rattle.c_source.specs.Formed.{IsSizeFormed, IsDeclaratorFormed, AreDeclaratorsFormed, IsInitialFormed}
use Rattle.c_source.specs.Files.{AreSizesFormed, IsBodyFormed, IsItemFormed, AreItemsFormed, Defined}
use Rattle.c_source.specs.Progress.{Ensures}
use Rattle.c_source.specs.Making.{Makes}
use Rattle.c_source.specs.Storage.{Fits}
use Rattle.c_source.specs.Stating.{StatesAll}
use Rattle.c_source.proofs.Growing.{no_fault_before}
use Rattle.c_source.proofs.Coming.{advances_on, closed_scopes}
use Rattle.c_source.proofs.Sizing.{Counts, size_some, Types, type_elements}
use Rattle.c_source.proofs.Statements.{all_states}
use Rattle.c_source.proofs.Bodies.{parameters_come}
use Rattle.c_source.proofs.Filing.{statics_pass}
use Rattle.c_source.proofs.Containing.{contents_make}
use Rattle.c_source.proofs.Items.{AllDefined, rest_defined, items_defined, end_passes, library_passes}
use Rattle.c_source.proofs.Parameters.{Definition, definitions_by}
use Rattle.c_source.proofs.Linking.{broken, Links, links_same, links_name, free_none, IsNumbered, name_links, AreOwn, library_links, end_there}

-- any function
abbrev any_function : Spot → TypedFunctionTree
any_function spot = record { name = []; spot = spot; result = Void; first_variable = 0; parameters = 0; variables = 0; body = typed-tree.none; close = spot; weight = 0 }

module _ (p : ProgramTree) where
  -- sizes in brackets declare nothing
  size_same : (extent : Extent) (b : BracketsTree) (q : ProgressTree) → IsSizeFormed b → (parameter_size extent b q).names ≡ q.names
  unfolding reached_by
  size_same extent (Sized e) q h = by (size_met extent e q) (size_some p (any_function extent.first) 0 extent e q h)
    where
      by : (m : Met ℕ) → Ensures (Counts p (any_function extent.first) 0 q) m → (reached_by m (λ n r. r)).names ≡ q.names
      by (means n t) l = l.0.names
  size_same extent Absent q h = refl
  size_same extent Empty q h = refl

  sizes_same : (ds : List ParameterTree) (q : ProgressTree) → AreSizesFormed ds → (parameter_sizes ds q).names ≡ q.names
  sizes_same [] q h = refl
  sizes_same (d ∷ ds) q h = sizes_same ds (parameter_size d.extent d.brackets q) h.1 ∙ size_same d.extent d.brackets q h.0

  module _ (names : List (List ℕ)) (done : List Definition) where
    -- static variables
    named_links : (o : Option Meaning) (name : List ℕ) (m : Meaning) (extent : Extent) (q : ProgressTree) → Links names done q → declared_here q.names name ≡ o → (breaks_if o REDECLARED extent q).found.faults ≡ [] → Links names done (with_name name m (breaks_if o REDECLARED extent q))
    named_links (Some a) name m extent q l e h = broken REDECLARED extent q h
    named_links None name m extent q l e h = links_name name m q l (free_none names l.scope name (sym (ap (λ z. innermost z name) l.only) ∙ e))

    of_type_links : (d : DeclaratorTree) (of : ObjectType) (q : ProgressTree) → IsInitialFormed d.initializer → Links names done q → (static_of_type d of q).found.faults ≡ [] → Links names done (static_of_type d of q)
    unfolding reached_by
    of_type_links d of q formed l h = by (contents_met of d.extent d.initializer s) (contents_make p (any_function d.name.spot) 0 of d.extent d.initializer s formed) h
      where
        r : ProgressTree
        r = breaks_if (declared_here q.names d.name.name) REDECLARED d.extent q

        s : ProgressTree
        s = with_name d.name.name (Variable (designator.Static (length q.statics)) of) r

        by : (m : Met Contents) → Ensures (Makes p (any_function d.name.spot) 0 (Fits p of) s) m → (reached_by m (with_static_object d.name of)).found.faults ≡ [] → Links names done (reached_by m (with_static_object d.name of))
        by (means c u) k g =
            let before : r.found.faults ≡ [] = no_fault_before k.looks.comes.advances.found g in
            links_same s (with_static_object d.name of c u) (ap (λ n. n.scopes) k.looks.names) (ap (λ n. n.signatures) k.looks.names)
            (named_links (declared_here q.names d.name.name) d.name.name (Variable (designator.Static (length q.statics)) of) d.extent q l refl before)

    one_links : (t : IntegerType) (d : DeclaratorTree) (q : ProgressTree) → IsDeclaratorFormed d → Links names done q → (static_met t d q).found.faults ≡ [] → Links names done (static_met t d q)
    unfolding reached_by
    one_links t d q formed l h = by (type_met (record { base = t; stars = d.stars }) d q) (type_elements p (any_function d.name.spot) 0 (record { base = t; stars = d.stars }) d q formed.0) h
      where
        by : (m : Met ObjectType) → Ensures (Types p (any_function d.name.spot) 0 q) m → (reached_by m (static_of_type d)).found.faults ≡ [] → Links names done (reached_by m (static_of_type d))
        by (means of u) k g = of_type_links d of u formed.1 (links_same q u (ap (λ n. n.scopes) k.0.names) (ap (λ n. n.signatures) k.0.names) l) g

    statics_links : (t : IntegerType) (ds : List DeclaratorTree) (q : ProgressTree) → AreDeclaratorsFormed ds → Links names done q → (statics_met t ds q).found.faults ≡ [] → Links names done (statics_met t ds q)
    statics_links t [] q formed l h = l
    statics_links t (d ∷ ds) q formed l h =
        let r = static_met t d q in
        statics_links t ds r formed.1 (one_links t d q formed.0 l (no_fault_before (statics_pass p t ds r formed.1).extends.found h)) h

    -- behind a function's block the names are those of before
    rest_links : (f : FunctionTree) (b : Option BlockTree) (q : ProgressTree) → IsBodyFormed f.parameters b → Links names done q → Ensures (λ (fs : List TypedFunctionTree) t. Links names done t) (rest_met f (signature_of names f) b q)
    unfolding next_met
    rest_links f None q formed l =
        let t = parameters_met f.parameters (opened q) in
        let a = (parameters_come p (any_function f.name.spot) f.parameters (opened q) formed).advances in
        links_same q (without_new (length q.automatics) (scope_left t)) (closed_scopes q t a) a.signatures l
    rest_links f (Some b) q formed l = by (statements_met (setting_of (signature_of names f)) (chain_of_statements b.statements) begun) (λ fun e. all_states p fun (setting_of (signature_of names f)) (chain_of_statements b.statements) begun formed.1 e)
      where
        begun : ProgressTree
        begun = parameters_met f.parameters (opened q)

        any : TypedFunctionTree
        any = record { name = []; spot = f.name.spot; result = result_type f.base f.stars; first_variable = 0; parameters = 0; variables = 0; body = typed-tree.none; close = f.name.spot; weight = 0 }

        by : (m : Met TypedStatementTrees) → ((fun : TypedFunctionTree) → result_type f.base f.stars ≡ fun.result → Ensures (StatesAll p fun (setting_of (signature_of names f)) begun) m)
            → Ensures (λ (fs : List TypedFunctionTree) t. Links names done t) (next_met m (function_made f (signature_of names f) b (length q.automatics)))
        by (means ts t) h =
            let a = advances_on (parameters_come p any f.parameters (opened q) formed.2).advances (h any refl).comes.advances in
            links_same q (scope_left t) (closed_scopes q t a) a.signatures l

  -- items
  abbrev pub IsItemNumbered : List (List ℕ) → ItemTree → Type 0
  IsItemNumbered names (Include spot h) = Unit {0}
  IsItemNumbered names (Declares d) = Unit {0}
  IsItemNumbered names (Defines f) = IsNumbered names f.name.name f.body

  abbrev pub AreNumbered : List (List ℕ) → List ItemTree → Type 0
  AreNumbered names [] = Unit {0}
  AreNumbered names (i ∷ rest) = IsItemNumbered names i × AreNumbered names rest

  there_between : (before behind : List (List ℕ)) (n : List ℕ) → slice_get (before ++ (n ∷ behind)) (length before) ≡ Some n
  there_between [] behind n = refl
  there_between (m ∷ before) behind n = there_between before behind n

  item_numbered : (before behind : List (List ℕ)) (i : ItemTree) → IsItemNumbered (before ++ (defined_by i ++ behind)) i
  item_numbered before behind (Include spot h) = tt
  item_numbered before behind (Declares d) = tt
  item_numbered before behind (Defines f) = by f.body
    where
      by : (b : Option BlockTree) → IsNumbered (before ++ (option_map_or (λ b. f.name.name ∷ []) b [] ++ behind)) f.name.name b
      by None = tt
      by (Some b) = (length before, there_between before behind f.name.name)

  pub items_numbered : (before : List (List ℕ)) (items : List ItemTree) → AreNumbered (before ++ defined items) items
  items_numbered before [] = tt
  items_numbered before (i ∷ rest) = (item_numbered before (defined rest) i, subst (λ ns. AreNumbered ns rest) (append_assoc before (defined_by i) (defined rest)) (items_numbered (before ++ defined_by i) rest))

  -- no library name is defined
  abbrev pub OwnAll : List (List ℕ) → Type 0
  OwnAll [] = Unit {0}
  OwnAll (n ∷ ns) = (is_library_name n ≡ true → ⊥) × OwnAll ns

  own_on : (xs ys : List (List ℕ)) → OwnAll xs → OwnAll ys → OwnAll (xs ++ ys)
  own_on [] ys h g = g
  own_on (x ∷ xs) ys h g = (h.0, own_on xs ys h.1 g)

  pub own_at : (ns : List (List ℕ)) → OwnAll ns → AreOwn ns
  own_at [] h j n at is = cc
  own_at (m ∷ ns) h zero n at is = let e : m ≡ n = cc in h.0 (ap is_library_name e ∙ is)
  own_at (m ∷ ns) h (suc j) n at is = own_at ns h.1 j n at is

  name_own : (k : ℕ) (f : FunctionTree) (g : SignatureTree) (q : ProgressTree) → (name_met k f g q).found.faults ≡ [] → OwnAll (names_if f)
  name_own k f g q h = by f.body h
    where
      by : (b : Option BlockTree) → (if is_some b && is_library_name f.name.name then breaks REDECLARED f.extent q else known_as k f g (meaning_of q.names f.name.name) q).found.faults ≡ [] → OwnAll (option_map_or (λ b. f.name.name ∷ []) b [])
      by None h = tt
      by (Some b) h = ((λ e. broken REDECLARED f.extent q (subst (λ z. (if z then breaks REDECLARED f.extent q else known_as k f g (meaning_of q.names f.name.name) q).found.faults ≡ []) e h)), tt)

  item_own : (names : List (List ℕ)) (k : ℕ) (i : ItemTree) (q : ProgressTree) → IsItemFormed i → Ensures (λ (fs : List TypedFunctionTree) t. t.found.faults ≡ [] → OwnAll (defined_by i)) (item_met names k i q)
  item_own names k (Include spot h) q formed = λ e. tt
  item_own names k (Declares d) q formed = λ e. tt
  item_own names k (Defines f) q formed = by (rest_met f g f.body r) (rest_defined p f g f.body r formed.1)
    where
      g : SignatureTree
      g = signature_of names f

      s : ProgressTree
      s = parameter_sizes f.parameters q

      r : ProgressTree
      r = name_met k f g s

      by : (m : Met (List TypedFunctionTree)) → Ensures (Defined p r) m → Ensures (λ (fs : List TypedFunctionTree) t. t.found.faults ≡ [] → OwnAll (names_if f)) m
      by (means fs t) d = λ h. name_own k f g s (no_fault_before d.extends.found h)

  pub items_own : (names : List (List ℕ)) (fs : List TypedFunctionTree) (items : List ItemTree) (q : ProgressTree) → AreItemsFormed items → Ensures (λ (gs : List TypedFunctionTree) u. u.found.faults ≡ [] → OwnAll (defined items)) (items_met names fs items q)
  unfolding next_met
  items_own names fs [] q formed = λ h. tt
  items_own names fs (i ∷ rest) q formed = by (item_met names (length fs) i q) (item_own names (length fs) i q formed.0) (λ gs t. items_defined p names gs rest t formed.1) (λ gs t. items_own names gs rest t formed.1)
    where
      later : (gs : List TypedFunctionTree) (t : ProgressTree) (m : Met (List TypedFunctionTree)) → Ensures (AllDefined p gs t) m → (t.found.faults ≡ [] → OwnAll (defined_by i)) → Ensures (λ (hs : List TypedFunctionTree) u. u.found.faults ≡ [] → OwnAll (defined rest)) m
          → Ensures (λ (hs : List TypedFunctionTree) u. u.found.faults ≡ [] → OwnAll (defined_by i ++ defined rest)) m
      later gs t (means hs u) d own k = λ h. own_on (defined_by i) (defined rest) (own (no_fault_before d.defined.extends.found h)) (k h)

      by : (m : Met (List TypedFunctionTree)) → Ensures (λ (more : List TypedFunctionTree) t. t.found.faults ≡ [] → OwnAll (defined_by i)) m
          → ((gs : List TypedFunctionTree) (t : ProgressTree) → Ensures (AllDefined p gs t) (items_met names gs rest t))
          → ((gs : List TypedFunctionTree) (t : ProgressTree) → Ensures (λ (hs : List TypedFunctionTree) u. u.found.faults ≡ [] → OwnAll (defined rest)) (items_met names gs rest t))
          → Ensures (λ (hs : List TypedFunctionTree) u. u.found.faults ≡ [] → OwnAll (defined_by i ++ defined rest)) (next_met (next_met m (λ more. means (fs ++ more))) (λ gs. items_met names gs rest))
      by (means more t) own d all = later (fs ++ more) t (items_met names (fs ++ more) rest t) (d (fs ++ more) t) own (all (fs ++ more) t)

  module _ (names : List (List ℕ)) (own : AreOwn names) (done : List Definition) where
    -- headers
    included_links : (spot : Spot) (h : Header) (q : ProgressTree) → Links names done q → (included spot h q).found.faults ≡ [] → Links names done (included spot h q)
    included_links spot header.Stdio q l h =
        let e = at_spot spot in
        let r = library_met e (codes "getchar") callee.Getchar q in
        let s = library_met e (codes "putchar") callee.Putchar r in
        let after = no_fault_before (end_passes p e (meaning_of s.names (codes "EOF")) s).extends.found h in
        let first = no_fault_before (library_passes p e (codes "putchar") callee.Putchar r).extends.found after in
        end_there names own done e s (library_links names own done e (codes "putchar") callee.Putchar r refl refl refl (library_links names own done e (codes "getchar") callee.Getchar q refl refl refl l first) after) h
    included_links spot header.Stdlib q l h = library_links names own done (at_spot spot) (codes "exit") callee.Exit q refl refl refl l h

    -- what stands at file scope
    pub item_links : (k : ℕ) (i : ItemTree) (q : ProgressTree) → IsItemFormed i → IsItemNumbered names i → Links names done q → Ensures (λ (fs : List TypedFunctionTree) t. t.found.faults ≡ [] → Links names (done ++ definitions_by i) t) (item_met names k i q)
    item_links k (Include spot h) q formed at l = λ e. subst (λ ds. Links names ds (included spot h q)) (sym (append-nil done)) (included_links spot h q l e)
    item_links k (Declares d) q formed at l = λ e. subst (λ ds. Links names ds (statics_met d.type d.declarators q)) (sym (append-nil done)) (statics_links names done d.type d.declarators q formed l e)
    item_links k (Defines f) q formed at l = by (rest_met f (signature_of names f) f.body r) (rest_defined p f (signature_of names f) f.body r formed.1) (λ links. rest_links names (done ++ definitions_by (Defines f)) f f.body r formed.1 links)
      where
        s : ProgressTree
        s = parameter_sizes f.parameters q

        same : s.names ≡ q.names
        same = sizes_same f.parameters q formed.0

        r : ProgressTree
        r = name_met k f (signature_of names f) s

        by : (m : Met (List TypedFunctionTree)) → Ensures (Defined p r) m → (Links names (done ++ definitions_by (Defines f)) r → Ensures (λ (fs : List TypedFunctionTree) t. Links names (done ++ definitions_by (Defines f)) t) m)
            → Ensures (λ (fs : List TypedFunctionTree) t. t.found.faults ≡ [] → Links names (done ++ definitions_by (Defines f)) t) m
        by (means fs t) d rest = λ h. rest (name_links names done k f s at (links_same q s (ap (λ n. n.scopes) same) (ap (λ n. n.signatures) same) l) (no_fault_before d.extends.found h))
