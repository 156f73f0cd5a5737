-- What the names of functions mean while a source is checked at file scope: each name one function, of one type.
use Rattle.std.proofs.Common.{◌≡◌, ℕ, zero, suc, ◌+◌, List, [], ◌∷◌, ◌++◌, length, slice_get, cond, Bool, true, false, ◌&&◌, Option, Some, None, refl, sym, ap, ◌∙◌, subst, append-nil, add-one}
use Rattle.std.specs.Prelude.{if◌then◌else◌, is_some, codes}
use Rattle.std.specs.Option.{option_map}
use Rattle.std.specs.Str.{bytes_eq}
use Rattle.std.proofs.lemmas.Slice.Eq.{bytes_eq-Decides}
use Rattle.debug_records.specs.declared.code.Code.{Code}
use Rattle.debug_records.specs.declared.code.TheConstants.Code.{REDECLARED}
use Rattle.c_tree.specs.declared.extent.Extent.{Extent}
use Rattle.c_tree.specs.declared.object_type.Scalar.{Scalar}
use Rattle.c_tree.specs.declared.typed_expression.Callee.{Callee}
use Rattle.c_tree.specs.declared.typed_expression.Callee.TheVariants as callee
use Rattle.c_tree.specs.Statements.{BlockTree}
use Rattle.c_tree.specs.Trees.{FunctionTree}
use Rattle.c_type_rules.specs.Types.{same_scalar, same_value}
use Rattle.c_type_expressions.specs.declared.names.Meaning.{Meaning}
use Rattle.c_type_expressions.specs.declared.names.Meaning.TheVariants.{Variable, Function, EndOfFile}
use Rattle.c_type_expressions.specs.Names.{Scope, SignatureTree, found_in, meaning_of}
use Rattle.c_type_declarations.specs.Scopes.{with_meaning, innermost, with_innermost}
use Rattle.c_type_declarations.specs.Progress.{ProgressTree, breaks, with_name}
use Rattle.c_type.specs.Headers.{is_library_name, with_function, library, is_library, same_scalars, same_type, stands_with, standing_of, placed, library_met, end_beside}
use Rattle.c_type.specs.Functions.{definition_number, callee_of, signature_of, is_first_definition, agrees, agrees_with, known_as, name_met}
use Rattle.c_source.proofs.Same.{two_true, scalar_is, value_is}
use Rattle.c_source.proofs.Growing.{more_is_some}
use Rattle.c_source.proofs.Judging.{at_end}
use Rattle.c_source.proofs.Coming.{slice_more}
use Rattle.c_source.proofs.Parameters.{Definition, definition_of, definitions_if}
use Rattle.base_laws.proofs.Lists.{last_is as last_there}

-- a rule is broken
pub broken : {A : Type 0} (code : Code) (extent : Extent) (q : ProgressTree) → (breaks code extent q).found.faults ≡ [] → A
broken code extent q h = absurd (more_is_some q.found.faults _ h)

-- elements, and one more
push_case : {A : Type 0} (P : ℕ → A → Type 0) (xs : List A) (x : A) → ((m : ℕ) (y : A) → slice_get xs m ≡ Some y → P m y) → P (length xs) x → (m : ℕ) (y : A) → slice_get (xs ++ x ∷ []) m ≡ Some y → P m y
push_case P [] x old new zero y h = let e : x ≡ y = cc in subst (P 0) e new
push_case P [] x old new (suc m) y h = cc
push_case P (z ∷ xs) x old new zero y h = old zero y h
push_case P (z ∷ xs) x old new (suc m) y h = push_case (λ k. P (suc k)) xs x (λ k w e. old (suc k) w e) new m y h

-- what a name means behind a declaration
meant_here : (name : List ℕ) (m : Meaning) (scope : Scope) → with_meaning name m scope name ≡ Some m
meant_here name m scope = ap (λ b. cond b (Some m) (scope name)) ((bytes_eq-Decides name name).1 refl)

meant_before : (name : List ℕ) (m : Meaning) (scope : Scope) (other : List ℕ) → (name ≡ other → ⊥) → with_meaning name m scope other ≡ scope other
meant_before name m scope other apart = by (bytes_eq name other) refl
  where
    by : (b : Bool) → bytes_eq name other ≡ b → with_meaning name m scope other ≡ scope other
    by true e = absurd (apart ((bytes_eq-Decides name other).0 e))
    by false e = ap (λ b. cond b (Some m) (scope other)) e

-- A definition that stands before has a name that means a function of its type.
pub record IsMet (names : List (List ℕ)) (scope : Scope) (signatures : List SignatureTree) (d : Definition) : Type 0 where
  pub at : ℕ
  pub defined : slice_get names at ≡ Some d.name
  pub number : ℕ
  pub signature : SignatureTree
  pub meant : scope d.name ≡ Some (Function number)
  pub there : slice_get signatures number ≡ Some signature
  pub result : signature.result ≡ d.result
  pub parameters : signature.parameters ≡ d.parameters

-- What is called by a function's type is a function that its name means, or one of the library's.
pub record Links (names : List (List ℕ)) (done : List Definition) (q : ProgressTree) : Type 0 where
  pub scope : Scope
  pub only : q.names.scopes ≡ scope ∷ []
  pub named : (m : ℕ) (g : SignatureTree) → slice_get q.names.signatures m ≡ Some g → (j : ℕ) → g.callee ≡ Some (callee.Function j) → (n : List ℕ) × (slice_get names j ≡ Some n) × (scope n ≡ Some (Function m))
  pub of_library : (m : ℕ) (g : SignatureTree) → slice_get q.names.signatures m ≡ Some g → (c : Callee) → g.callee ≡ Some c → is_library (Some c) ≡ true → g ≡ library c
  pub met : (j : ℕ) (d : Definition) → slice_get done j ≡ Some d → IsMet names scope q.names.signatures d

-- where names mean the same
pub links_same : {names : List (List ℕ)} {done : List Definition} (q t : ProgressTree) → t.names.scopes ≡ q.names.scopes → t.names.signatures ≡ q.names.signatures → Links names done q → Links names done t
links_same {names = names} q t scopes signatures l =
    record {
      scope = l.scope;
      only = scopes ∙ l.only;
      named = λ m g h. l.named m g (ap (λ z. slice_get z m) (sym signatures) ∙ h);
      of_library = λ m g h. l.of_library m g (ap (λ z. slice_get z m) (sym signatures) ∙ h);
      met = λ j d h. subst (λ z. IsMet names l.scope z d) (sym signatures) (l.met j d h);
    }

-- one more definition
pub links_add : {names : List (List ℕ)} {done : List Definition} {q : ProgressTree} (l : Links names done q) (d : Definition) → IsMet names l.scope q.names.signatures d → Links names (done ++ d ∷ []) q
links_add {names = names} {done = done} {q = q} l d new =
    record { scope = l.scope; only = l.only; named = l.named; of_library = l.of_library; met = push_case (λ k e. IsMet names l.scope q.names.signatures e) done d l.met new }

-- a name that is free for another meaning: it means no function that is defined
abbrev pub IsFree : List (List ℕ) → Scope → List ℕ → Type 0
IsFree names scope name = (k j : ℕ) → scope name ≡ Some (Function k) → slice_get names j ≡ Some name → ⊥

pub free_none : (names : List (List ℕ)) (scope : Scope) (name : List ℕ) → scope name ≡ None → IsFree names scope name
free_none names scope name h k j e at = cc

only_named : (scopes : List Scope) (scope : Scope) (name : List ℕ) (m : Meaning) → scopes ≡ scope ∷ [] → with_innermost (with_meaning name m (innermost scopes)) scopes ≡ with_meaning name m scope ∷ []
only_named scopes scope name m e = ap (λ l. with_innermost (with_meaning name m (innermost l)) l) e

apart_from : (names : List (List ℕ)) (scope : Scope) (name other : List ℕ) (k j : ℕ) → IsFree names scope name → scope other ≡ Some (Function k) → slice_get names j ≡ Some other → name ≡ other → ⊥
apart_from names scope name other k j free means at e = free k j (ap scope e ∙ means) (at ∙ ap Some (sym e))

met_later : (names : List (List ℕ)) (scope : Scope) (signatures more : List SignatureTree) (d : Definition) (name : List ℕ) (m : Meaning) → IsFree names scope name → IsMet names scope signatures d → IsMet names (with_meaning name m scope) (signatures ++ more) d
met_later names scope signatures more d name m free i =
    record {
      at = i.at;
      defined = i.defined;
      number = i.number;
      signature = i.signature;
      meant = meant_before name m scope d.name (apart_from names scope name d.name i.number i.at free i.meant i.defined) ∙ i.meant;
      there = slice_more signatures more i.number i.signature i.there;
      result = i.result;
      parameters = i.parameters;
    }

module _ {names : List (List ℕ)} {done : List Definition} where
  -- a name that means no function from here on
  pub links_name : (name : List ℕ) (m : Meaning) (q : ProgressTree) (l : Links names done q) → IsFree names l.scope name → Links names done (with_name name m q)
  links_name name m q l free =
      record {
        scope = with_meaning name m l.scope;
        only = only_named q.names.scopes l.scope name m l.only;
        named = λ k g h j e.
            let c = l.named k g h j e in
            (c.0, c.1, meant_before name m l.scope c.0 (apart_from names l.scope name c.0 k j free c.2 c.1) ∙ c.2);
        of_library = l.of_library;
        met = λ j d h. subst (λ z. IsMet names (with_meaning name m l.scope) z d) (append-nil q.names.signatures) (met_later names l.scope q.names.signatures [] d name m free (l.met j d h));
      }

  -- a function's name
  pub links_function : (name : List ℕ) (g : SignatureTree) (q : ProgressTree) (l : Links names done q) → IsFree names l.scope name → ((j : ℕ) → g.callee ≡ Some (callee.Function j) → slice_get names j ≡ Some name)
      → ((c : Callee) → g.callee ≡ Some c → is_library (Some c) ≡ true → g ≡ library c) → Links names done (with_function name g q)
  links_function name g q l free number lib =
      let all = q.names.signatures in
      let m = Function (length all) in
      let scope = with_meaning name m l.scope in
      record {
        scope = scope;
        only = only_named q.names.scopes l.scope name m l.only;
        named = push_case (λ k w. (j : ℕ) → w.callee ≡ Some (callee.Function j) → (n : List ℕ) × (slice_get names j ≡ Some n) × (scope n ≡ Some (Function k))) all g
            (λ k w h j e.
            let c = l.named k w h j e in
            (c.0, c.1, meant_before name m l.scope c.0 (apart_from names l.scope name c.0 k j free c.2 c.1) ∙ c.2))
            (λ j e. (name, number j e, meant_here name m l.scope));
        of_library = push_case (λ k w. (c : Callee) → w.callee ≡ Some c → is_library (Some c) ≡ true → w ≡ library c) all g l.of_library lib;
        met = λ j d h. met_later names l.scope all (g ∷ []) d name m free (l.met j d h);
      }

  -- what the name means then
  function_met : (name : List ℕ) (g : SignatureTree) (q : ProgressTree) (l : Links names done q) (d : Definition) (at : ℕ) → slice_get names at ≡ Some name → d.name ≡ name → g.result ≡ d.result → g.parameters ≡ d.parameters
      → IsMet names (with_meaning name (Function (length q.names.signatures)) l.scope) (q.names.signatures ++ g ∷ []) d
  function_met name g q l d at here is result parameters =
      let m = Function (length q.names.signatures) in
      record {
        at = at;
        defined = here ∙ ap Some (sym is);
        number = length q.names.signatures;
        signature = g;
        meant = ap (with_meaning name m l.scope) is ∙ meant_here name m l.scope;
        there = last_there q.names.signatures g;
        result = result;
        parameters = parameters;
      }

-- the meaning at file scope
pub meaning_is : {names : List (List ℕ)} {done : List Definition} (q : ProgressTree) (l : Links names done q) (name : List ℕ) → meaning_of q.names name ≡ l.scope name
meaning_is q l name = ap (λ z. found_in z name) l.only

-- types that are told to be one are one
scalars_are : (xs ys : List Scalar) → same_scalars xs ys ≡ true → xs ≡ ys
scalars_are [] [] h = refl
scalars_are (x ∷ xs) [] h = cc
scalars_are [] (y ∷ ys) h = cc
scalars_are (x ∷ xs) (y ∷ ys) h = let c = two_true (same_scalar x y) (same_scalars xs ys) h in ap (λ z. z ∷ xs) (scalar_is x y c.0) ∙ ap (λ zs. y ∷ zs) (scalars_are xs ys c.1)

-- the number of a name among names
pub numbered_there : (name : List ℕ) (names : List (List ℕ)) (j : ℕ) → definition_number name names ≡ Some j → slice_get names j ≡ Some name
numbered_there name [] j h = cc
numbered_there name (n ∷ ns) j h = by (bytes_eq n name) (definition_number name ns) refl refl (λ k. numbered_there name ns k) h
  where
    by : (b : Bool) (o : Option ℕ) → bytes_eq n name ≡ b → definition_number name ns ≡ o → ((k : ℕ) → definition_number name ns ≡ Some k → slice_get ns k ≡ Some name) → (if b then Some 0 else option_map (λ k. k + 1) o) ≡ Some j → slice_get (n ∷ ns) j ≡ Some name
    by true o e f rest h = let z : 0 ≡ j = cc in subst (λ k. slice_get (n ∷ ns) k ≡ Some name) z (ap Some ((bytes_eq-Decides n name).0 e))
    by false (Some k) e f rest h = let z : k + 1 ≡ j = cc in subst (λ i. slice_get (n ∷ ns) i ≡ Some name) (sym (add-one k) ∙ z) (rest k f)
    by false None e f rest h = cc

pub callee_there : (names : List (List ℕ)) (name : List ℕ) (j : ℕ) → callee_of names name ≡ Some (callee.Function j) → slice_get names j ≡ Some name
callee_there names name j h = by (definition_number name names) refl h
  where
    by : (o : Option ℕ) → definition_number name names ≡ o → option_map (λ k. callee.Function k) o ≡ Some (callee.Function j) → slice_get names j ≡ Some name
    by (Some k) e g = let z : k ≡ j = cc in numbered_there name names j (e ∙ ap Some z)
    by None e g = cc

callee_own : {A : Type 0} (names : List (List ℕ)) (name : List ℕ) (c : Callee) → callee_of names name ≡ Some c → is_library (Some c) ≡ true → A
callee_own {A} names name c h is = by (definition_number name names) h
  where
    by : (o : Option ℕ) → option_map (λ k. callee.Function k) o ≡ Some c → A
    by (Some k) g = let z : callee.Function k ≡ c = cc in let w : is_library (Some (callee.Function k)) ≡ true = ap (λ x. is_library (Some x)) z ∙ is in cc
    by None g = cc

-- a name that is defined where it has a block
abbrev pub IsNumbered : List (List ℕ) → List ℕ → Option BlockTree → Type 0
IsNumbered names name None = Unit {0}
IsNumbered names name (Some b) = (j : ℕ) × (slice_get names j ≡ Some name)

module _ (names : List (List ℕ)) (done : List Definition) where
  -- a function whose name means nothing
  new_links : (f : FunctionTree) (b : Option BlockTree) (q : ProgressTree) (l : Links names done q) → IsNumbered names f.name.name b → l.scope f.name.name ≡ None → Links names (done ++ definitions_if f b) (with_function f.name.name (signature_of names f) q)
  unfolding links_function
  new_links f b q l at h = by b at
    where
      here : Links names done (with_function f.name.name (signature_of names f) q)
      here = links_function f.name.name (signature_of names f) q l (free_none names l.scope f.name.name h) (λ j e. callee_there names f.name.name j e) (λ c e is. callee_own names f.name.name c e is)

      by : (b : Option BlockTree) → IsNumbered names f.name.name b → Links names (done ++ definitions_if f b) (with_function f.name.name (signature_of names f) q)
      by None at = subst (λ ds. Links names ds (with_function f.name.name (signature_of names f) q)) (sym (append-nil done)) here
      by (Some b) at = links_add here (definition_of f) (function_met f.name.name (signature_of names f) q l (definition_of f) at.0 at.1 refl refl refl)

  -- one whose name means a function already
  agreed_links : (k : ℕ) (f : FunctionTree) (b : Option BlockTree) (m : Meaning) (q : ProgressTree) (l : Links names done q) → IsNumbered names f.name.name b → l.scope f.name.name ≡ Some m → agrees_with k f (signature_of names f) m q ≡ true → Links names (done ++ definitions_if f b) q
  agreed_links k f None m q l at e h = subst (λ ds. Links names ds q) (sym (append-nil done)) l
  agreed_links k f (Some b) (Variable o of) q l at e h = cc
  agreed_links k f (Some b) EndOfFile q l at e h = cc
  agreed_links k f (Some b) (Function j) q l at e h = by (slice_get q.names.signatures j) refl h
    where
      by : (o : Option SignatureTree) → slice_get q.names.signatures j ≡ o → agrees k f (signature_of names f) o ≡ true → Links names (done ++ definition_of f ∷ []) q
      by None there g = cc
      by (Some known) there g =
          let same = two_true (same_type known (signature_of names f)) (is_first_definition k f (signature_of names f)) g in
          let types = two_true (same_value known.result (signature_of names f).result) (same_scalars known.parameters (signature_of names f).parameters) same.0 in
          links_add l (definition_of f)
          (record {
            at = at.0;
            defined = at.1;
            number = j;
            signature = known;
            meant = e;
            there = there;
            result = value_is known.result (signature_of names f).result types.0;
            parameters = scalars_are known.parameters (signature_of names f).parameters types.1;
          })

  known_links : (k : ℕ) (f : FunctionTree) (o : Option Meaning) (q : ProgressTree) (l : Links names done q) → IsNumbered names f.name.name f.body → l.scope f.name.name ≡ o → (known_as k f (signature_of names f) o q).found.faults ≡ []
      → Links names (done ++ definitions_if f f.body) (known_as k f (signature_of names f) o q)
  known_links k f None q l at e h = new_links f f.body q l at e
  known_links k f (Some m) q l at e h = by (agrees_with k f (signature_of names f) m q) refl h
    where
      by : (b : Bool) → agrees_with k f (signature_of names f) m q ≡ b → (if b then q else breaks REDECLARED f.extent q).found.faults ≡ [] → Links names (done ++ definitions_if f f.body) (if b then q else breaks REDECLARED f.extent q)
      by true a h = agreed_links k f f.body m q l at e a
      by false a h = broken REDECLARED f.extent q h

  -- a function's name
  pub name_links : (k : ℕ) (f : FunctionTree) (q : ProgressTree) → IsNumbered names f.name.name f.body → Links names done q → (name_met k f (signature_of names f) q).found.faults ≡ []
      → Links names (done ++ definitions_if f f.body) (name_met k f (signature_of names f) q)
  name_links k f q at l h = by (is_some f.body && is_library_name f.name.name) h
    where
      known : ProgressTree
      known = known_as k f (signature_of names f) (meaning_of q.names f.name.name) q

      by : (b : Bool) → (if b then breaks REDECLARED f.extent q else known).found.faults ≡ [] → Links names (done ++ definitions_if f f.body) (if b then breaks REDECLARED f.extent q else known)
      by true h = broken REDECLARED f.extent q h
      by false h = known_links k f (meaning_of q.names f.name.name) q l at (sym (meaning_is q l f.name.name)) h

-- no library name is defined
abbrev pub AreOwn : List (List ℕ) → Type 0
AreOwn names = (j : ℕ) (n : List ℕ) → slice_get names j ≡ Some n → is_library_name n ≡ true → ⊥

module _ (names : List (List ℕ)) (own : AreOwn names) (done : List Definition) where
  some_is : (a b : Callee) → Some a ≡ Some b → a ≡ b
  some_is a b e = cc

  new_library : (name : List ℕ) (c : Callee) (q : ProgressTree) → is_library_name name ≡ true → (library c).callee ≡ Some c → is_library (Some c) ≡ true → Links names done q → Links names done (with_function name (library c) q)
  new_library name c q lib is one l =
      links_function name (library c) q l (λ k j e at. own j name at lib)
      (λ j e. let z : c ≡ callee.Function j = some_is c (callee.Function j) (sym is ∙ e) in let w : is_library (Some (callee.Function j)) ≡ true = ap (λ x. is_library (Some x)) (sym z) ∙ one in cc)
      (λ d e k. ap library (some_is c d (sym is ∙ e)))

  beside_links : (extent : Extent) (name : List ℕ) (c : Callee) (other : SignatureTree) (q : ProgressTree) → Links names done q → Links names done (with_function name (library c) q)
      → (placed (stands_with (library c) (Some other)) extent name (library c) q).found.faults ≡ [] → Links names done (placed (stands_with (library c) (Some other)) extent name (library c) q)
  beside_links extent name c other q l new h = by (is_library other.callee) (same_type other (library c)) refl refl h
    where
      by : (a b : Bool) → is_library other.callee ≡ a → same_type other (library c) ≡ b → (placed (stands_with (library c) (Some other)) extent name (library c) q).found.faults ≡ []
          → Links names done (placed (stands_with (library c) (Some other)) extent name (library c) q)
      by true b e d h = rw e l
      by false true e d h = rw (e, d) new
      by false false e d h =
          let taken : placed (stands_with (library c) (Some other)) extent name (library c) q ≡ breaks REDECLARED extent q = rw (e, d) refl in
          broken REDECLARED extent q (ap (λ z. z.found.faults) (sym taken) ∙ h)

  standing_links : (extent : Extent) (name : List ℕ) (c : Callee) (o : Option SignatureTree) (q : ProgressTree) → Links names done q → Links names done (with_function name (library c) q)
      → (placed (stands_with (library c) o) extent name (library c) q).found.faults ≡ [] → Links names done (placed (stands_with (library c) o) extent name (library c) q)
  standing_links extent name c (Some other) q l new h = beside_links extent name c other q l new h
  standing_links extent name c None q l new h = broken REDECLARED extent q h

  placed_links : (extent : Extent) (name : List ℕ) (c : Callee) (functions : List SignatureTree) (m : Option Meaning) (q : ProgressTree) → Links names done q → Links names done (with_function name (library c) q)
      → (placed (standing_of (library c) functions m) extent name (library c) q).found.faults ≡ [] → Links names done (placed (standing_of (library c) functions m) extent name (library c) q)
  placed_links extent name c functions None q l new h = new
  placed_links extent name c functions (Some (Function k)) q l new h = standing_links extent name c (slice_get functions k) q l new h
  placed_links extent name c functions (Some (Variable o of)) q l new h = broken REDECLARED extent q h
  placed_links extent name c functions (Some EndOfFile) q l new h = broken REDECLARED extent q h

  pub library_links : (extent : Extent) (name : List ℕ) (c : Callee) (q : ProgressTree) → is_library_name name ≡ true → (library c).callee ≡ Some c → is_library (Some c) ≡ true → Links names done q
      → (library_met extent name c q).found.faults ≡ [] → Links names done (library_met extent name c q)
  library_links extent name c q lib is one l h = placed_links extent name c q.names.signatures (meaning_of q.names name) q l (new_library name c q lib is one l) h

  end_links : (extent : Extent) (o : Option Meaning) (q : ProgressTree) (l : Links names done q) → l.scope (codes "EOF") ≡ o → (end_beside extent o q).found.faults ≡ [] → Links names done (end_beside extent o q)
  end_links extent None q l e h = links_name (codes "EOF") EndOfFile q l (free_none names l.scope (codes "EOF") e)
  end_links extent (Some EndOfFile) q l e h = l
  end_links extent (Some (Variable r of)) q l e h = broken REDECLARED extent q h
  end_links extent (Some (Function k)) q l e h = broken REDECLARED extent q h

  pub end_there : (extent : Extent) (q : ProgressTree) → Links names done q → (end_beside extent (meaning_of q.names (codes "EOF")) q).found.faults ≡ [] → Links names done (end_beside extent (meaning_of q.names (codes "EOF")) q)
  end_there extent q l h = end_links extent (meaning_of q.names (codes "EOF")) q l (sym (meaning_is q l (codes "EOF"))) h
