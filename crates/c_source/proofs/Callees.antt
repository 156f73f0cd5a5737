-- What is called in an accepted source is there, with its type: each declaration of a function agrees with its definition.
use Rattle.std.proofs.Common.{◌≡◌, ℕ, zero, suc, List, [], ◌∷◌, ◌++◌, length, slice_get, true, Option, Some, None, refl, sym, ap, ◌∙◌, subst, append-nil, append_assoc}
use Rattle.std.specs.Prelude.{is_some, map, unwrap_or}
use Rattle.std.specs.Option.{option_map_or}
use Rattle.c_tree.specs.declared.types.Base.{Base}
use Rattle.c_tree.specs.declared.types.Base.TheVariants as base
use Rattle.c_tree.specs.declared.object_type.ValueType.TheVariants.{Void}
use Rattle.c_tree.specs.declared.typed_expression.Callee.{Callee}
use Rattle.c_tree.specs.declared.typed_expression.Callee.TheVariants as callee
use Rattle.c_tree.specs.Statements.{BlockTree}
use Rattle.c_tree.specs.Trees.{ItemTree, Include, Declares, Defines}
use Rattle.c_tree.specs.Programs.{AutomaticTree, TypedFunctionTree, ProgramTree}
use Rattle.c_type_rules.specs.Types.{loaded_type}
use Rattle.c_type_rules.specs.ValueTypes.{results_of}
use Rattle.c_type_laws.specs.Kinds.{parameters_in, types_of}
use Rattle.c_type_expressions.specs.declared.names.Meaning.TheVariants.{Function}
use Rattle.c_type_expressions.specs.Names.{SignatureTree}
use Rattle.c_type_declarations.specs.Scopes.{empty_scope}
use Rattle.c_type_declarations.specs.Progress.{ProgressTree, Met, means, next_met}
use Rattle.c_type.specs.Headers.{library}
use Rattle.c_type.specs.Functions.{result_type, defined_by, defined}
use Rattle.c_type.specs.Items.{item_met, items_met, beginning}
use Rattle.c_source.specs.Files.{AreItemsFormed, Defined}
use Rattle.c_source.specs.Known.{IsCalled}
use Rattle.c_source.specs.Values.{leads_to_elements}
use Rattle.c_source.specs.Progress.{Ensures}
use Rattle.c_source.proofs.Growing.{no_fault_before}
use Rattle.c_source.proofs.Fitting.{loaded_elements}
use Rattle.c_source.proofs.Items.{item_defined}
use Rattle.c_source.proofs.Programs.{Accepted, AreLinked}
use Rattle.c_source.proofs.Parameters.{Definition, definition_of, definitions_by, definitions, IsAs, AreAs, as_types, functions_as}
use Rattle.c_source.proofs.Linking.{Links, AreOwn}
use Rattle.c_source.proofs.Linked.{AreNumbered, items_numbered, OwnAll, own_at, items_own, item_links}

module _ (p : ProgramTree) (names : List (List ℕ)) (own : AreOwn names) where
  items_links : (fs : List TypedFunctionTree) (done : List Definition) (items : List ItemTree) (q : ProgressTree) → AreItemsFormed items → AreNumbered p names items → (q.found.faults ≡ [] → Links names done q)
      → Ensures (λ (gs : List TypedFunctionTree) u. u.found.faults ≡ [] → Links names (done ++ definitions items) u) (items_met names fs items q)
  unfolding next_met
  items_links fs done [] q formed at l = λ e. subst (λ ds. Links names ds q) (sym (append-nil done)) (l e)
  items_links fs done (i ∷ rest) q formed at l =
      by (item_met names (length fs) i q) (item_defined p names (length fs) i q formed.0) (λ links. item_links p names own done (length fs) i q formed.0 at.0 links) (λ gs t k. items_links gs (done ++ definitions_by i) rest t formed.1 at.1 k)
    where
      later : (m : Met (List TypedFunctionTree)) → Ensures (λ (gs : List TypedFunctionTree) u. u.found.faults ≡ [] → Links names ((done ++ definitions_by i) ++ definitions rest) u) m
          → Ensures (λ (gs : List TypedFunctionTree) u. u.found.faults ≡ [] → Links names (done ++ (definitions_by i ++ definitions rest)) u) m
      later (means gs u) k = λ e. subst (λ ds. Links names ds u) (append_assoc done (definitions_by i) (definitions rest)) (k e)

      one : (more : List TypedFunctionTree) (t : ProgressTree) → Defined p q more t → (Links names done q → t.found.faults ≡ [] → Links names (done ++ definitions_by i) t) → t.found.faults ≡ [] → Links names (done ++ definitions_by i) t
      one more t d k e = k (l (no_fault_before d.extends.found e)) e

      by : (m : Met (List TypedFunctionTree)) → Ensures (Defined p q) m → (Links names done q → Ensures (λ (more : List TypedFunctionTree) t. t.found.faults ≡ [] → Links names (done ++ definitions_by i) t) m)
          → ((gs : List TypedFunctionTree) (t : ProgressTree) → (t.found.faults ≡ [] → Links names (done ++ definitions_by i) t) → Ensures (λ (hs : List TypedFunctionTree) u. u.found.faults ≡ [] → Links names ((done ++ definitions_by i) ++ definitions rest) u) (items_met names gs rest t))
          → Ensures (λ (hs : List TypedFunctionTree) u. u.found.faults ≡ [] → Links names (done ++ (definitions_by i ++ definitions rest)) u) (next_met (next_met m (λ more. means (fs ++ more))) (λ gs. items_met names gs rest))
      by (means more t) d k all = later (items_met names (fs ++ more) rest t) (all (fs ++ more) t (one more t d k))

-- a function's result leads to no array without elements
result_elements : (b : Base) (stars : ℕ) → leads_to_elements (result_type b stars) ≡ true
result_elements base.Void stars = refl
result_elements (base.Integer t) stars = loaded_elements (record { base = t; stars = stars })

-- definitions by their numbers
one_more : (i : ItemTree) (rest : List ItemTree) (j : ℕ) (n : List ℕ) → slice_get (defined_by i ++ defined rest) j ≡ Some n
    → ((k : ℕ) → slice_get (defined rest) k ≡ Some n → (d : Definition) × (slice_get (definitions rest) k ≡ Some d) × (d.name ≡ n) × (leads_to_elements d.result ≡ true))
    → (d : Definition) × (slice_get (definitions_by i ++ definitions rest) j ≡ Some d) × (d.name ≡ n) × (leads_to_elements d.result ≡ true)
one_more (Include spot h) rest j n at all = all j at
one_more (Declares d) rest j n at all = all j at
one_more (Defines f) rest j n at all = by f.body j at
  where
    by : (b : Option BlockTree) (j : ℕ) → slice_get (option_map_or (λ b. f.name.name ∷ []) b [] ++ defined rest) j ≡ Some n
        → (d : Definition) × (slice_get (option_map_or (λ b. definition_of f ∷ []) b [] ++ definitions rest) j ≡ Some d) × (d.name ≡ n) × (leads_to_elements d.result ≡ true)
    by None j at = all j at
    by (Some b) zero at = (definition_of f, refl, (let e : f.name.name ≡ n = cc in e), result_elements f.base f.stars)
    by (Some b) (suc j) at = all j at

definition_at : (items : List ItemTree) (j : ℕ) (n : List ℕ) → slice_get (defined items) j ≡ Some n → (d : Definition) × (slice_get (definitions items) j ≡ Some d) × (d.name ≡ n) × (leads_to_elements d.result ≡ true)
definition_at [] j n h = cc
definition_at (i ∷ rest) j n h = one_more i rest j n h (λ k e. definition_at rest k n e)

function_at : (vs : List AutomaticTree) (fs : List TypedFunctionTree) (ds : List Definition) (j : ℕ) (d : Definition) → AreAs vs fs ds → slice_get ds j ≡ Some d → (f : TypedFunctionTree) × (slice_get fs j ≡ Some f) × IsAs vs f d
function_at vs [] [] j d h at = cc
function_at vs (f ∷ fs) [] j d h at = cc
function_at vs [] (e ∷ ds) j d h at = absurd h
function_at vs (f ∷ fs) (e ∷ ds) zero d h at = let z : e ≡ d = cc in (f, refl, subst (IsAs vs f) z h.0)
function_at vs (f ∷ fs) (e ∷ ds) (suc j) d h at = function_at vs fs ds j d h.1 at

result_at : (fs : List TypedFunctionTree) (j : ℕ) (f : TypedFunctionTree) → slice_get fs j ≡ Some f → unwrap_or (slice_get (results_of fs) j) Void ≡ f.result
result_at [] j f h = cc
result_at (g ∷ fs) zero f h = let z : g ≡ f = cc in ap (λ w. w.result) z
result_at (g ∷ fs) (suc j) f h = result_at fs j f h

-- a function of the library
library_called : (p : ProgramTree) (g : SignatureTree) (c : Callee) → g ≡ library c → ((j : ℕ) → c ≡ callee.Function j → ⊥) → IsCalled p g c
library_called p g callee.Getchar e h = subst (λ z. IsCalled p z callee.Getchar) (sym e) (record { there = refl; takes = refl; gives = refl; elements = refl })
library_called p g callee.Putchar e h = subst (λ z. IsCalled p z callee.Putchar) (sym e) (record { there = refl; takes = refl; gives = refl; elements = refl })
library_called p g callee.Exit e h = subst (λ z. IsCalled p z callee.Exit) (sym e) (record { there = refl; takes = refl; gives = refl; elements = refl })
library_called p g (callee.Function j) e h = absurd (h j refl)

module _ (items : List ItemTree) (p : ProgramTree) (a : Accepted items p) (formed : AreItemsFormed items) where
  -- what the names mean in the end
  all_links : Links (defined items) (definitions items) a.progress
  all_links =
      let own : OwnAll p (defined items) = subst (Ensures (λ (gs : List TypedFunctionTree) u. u.found.faults ≡ [] → OwnAll p (defined items))) a.is (items_own p (defined items) [] items beginning formed) a.faults in
      let first : Links (defined items) [] beginning = record { scope = empty_scope; only = refl; named = λ m g h. cc; of_library = λ m g h. cc; met = λ j d h. cc } in
      subst (Ensures (λ (gs : List TypedFunctionTree) u. u.found.faults ≡ [] → Links (defined items) (definitions items) u)) a.is
      (items_links p (defined items) (own_at p (defined items) own) [] [] items beginning formed (items_numbered p [] items) (λ e. first)) a.faults

  function_called : (k : ℕ) (g : SignatureTree) (j : ℕ) → slice_get a.progress.names.signatures k ≡ Some g → g.callee ≡ Some (callee.Function j) → IsCalled p g (callee.Function j)
  function_called k g j h e =
      let l = all_links in
      let c = l.named k g h j e in
      let d = definition_at items j c.0 c.1 in
      let met = l.met j d.0 d.1 in
      let meant : Some (Function met.number) ≡ Some (Function k) = sym met.meant ∙ ap l.scope d.2 ∙ c.2 in
      let number : met.number ≡ k = cc in
      let both : Some met.signature ≡ Some g = sym met.there ∙ ap (slice_get a.progress.names.signatures) number ∙ h in
      let same : met.signature ≡ g = cc in
      let f = function_at p.automatics p.functions (definitions items) j d.0 (functions_as items p a formed) d.1 in
      let result : g.result ≡ d.0.result = ap (λ z. z.result) (sym same) ∙ met.result in
      let parameters : g.parameters ≡ d.0.parameters = ap (λ z. z.parameters) (sym same) ∙ met.parameters in
      record {
        there = ap is_some f.1;
        takes = ap (λ o. types_of (parameters_in p.automatics o)) f.1 ∙ as_types f.2 ∙ ap (map loaded_type) (sym parameters);
        gives = result_at p.functions j f.0 f.1 ∙ f.2.result ∙ sym result;
        elements = ap leads_to_elements result ∙ d.3;
      }

  -- What is called is there, with its type.
  pub linked : AreLinked items p a
  linked k g callee.Getchar h e = library_called p g callee.Getchar (all_links.of_library k g h callee.Getchar e refl) (λ j z. cc)
  linked k g callee.Putchar h e = library_called p g callee.Putchar (all_links.of_library k g h callee.Putchar e refl) (λ j z. cc)
  linked k g callee.Exit h e = library_called p g callee.Exit (all_links.of_library k g h callee.Exit e refl) (λ j z. cc)
  linked k g (callee.Function j) h e = function_called k g j h e
