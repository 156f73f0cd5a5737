-- What is declared at file scope: static variables and the names of functions.
use Rattle.std.proofs.Common.{◌≡◌, ℕ, ◌-◌, List, [], ◌∷◌, ◌++◌, length, take, slice_get, cond, Bool, true, false, Option, Some, None, refl, sym, ap, ◌∙◌, subst, arith}
use Rattle.std.specs.Str.{bytes_eq}
use Rattle.debug_records.specs.declared.source.Spot.{Spot}
use Rattle.debug_records.specs.declared.code.Code.{Code}
use Rattle.debug_records.specs.declared.code.TheConstants.Code.{REDECLARED}
use Rattle.c_tree.specs.declared.extent.Extent.{Extent}
use Rattle.c_tree.specs.declared.types.IntegerType.{IntegerType}
use Rattle.c_tree.specs.declared.object_type.Object.{Object}
use Rattle.c_tree.specs.declared.object_type.Object.TheVariants as designator
use Rattle.c_tree.specs.declared.object_type.ObjectType.{ObjectType}
use Rattle.c_tree.specs.declared.object_type.ValueType.TheVariants.{Void}
use Rattle.c_tree.specs.declared.typed_expression.Callee.{Callee}
use Rattle.c_tree.specs.Expressions.{NameTree}
use Rattle.c_tree.specs.Declarations.{DeclaratorTree}
use Rattle.c_tree.specs.TypedStatements as typed-tree
use Rattle.c_tree.specs.Programs.{StaticTree, TypedFunctionTree, ProgramTree}
use Rattle.c_type_laws.specs.Kinds.{static_is}
use Rattle.c_type_expressions.specs.declared.names.Meaning.{Meaning}
use Rattle.c_type_expressions.specs.declared.names.Meaning.TheVariants.{Variable}
use Rattle.c_type_expressions.specs.Names.{Scope, Names, SignatureTree}
use Rattle.c_type_declarations.specs.Scopes.{with_meaning, innermost, declared_here}
use Rattle.c_type_declarations.specs.Progress.{ProgressTree, Met, means, reached_by, breaks, breaks_if, with_name}
use Rattle.c_type_declarations.specs.Objects.{count, type_met}
use Rattle.c_type_declarations.specs.Statics.{Contents, contents_met}
use Rattle.c_type_declarations.specs.Declarations.{with_static_object, static_of_type, static_met, statics_met}
use Rattle.c_type_laws.specs.Names.{is_name, has_few_elements, is_named}
use Rattle.c_source.specs.Values.{has_elements}
use Rattle.c_source.specs.Formed.{IsInitialFormed, IsDeclaratorFormed, AreDeclaratorsFormed}
use Rattle.c_source.specs.Findings.{Begins}
use Rattle.c_source.specs.Storage.{Fits, AreStored}
use Rattle.c_source.specs.Files.{Extends, Reaches, IsFileKnown, Passes}
use Rattle.c_source.specs.Known.{IsKnown}
use Rattle.c_source.specs.Progress.{Stands, Advances, IsScopeKnown, AreScopesKnown, Ensures}
use Rattle.c_source.specs.Making.{Looks, Makes}
use Rattle.c_source.proofs.Same.{both, object_itself}
use Rattle.c_source.proofs.Growing.{begins_itself, begins_on, grows_itself, grows_on, grows_fault, accepts_before}
use Rattle.c_source.proofs.Judging.{at_end}
use Rattle.c_source.proofs.Coming.{slice_more, known_push, known_take, known_at, declared_known}
use Rattle.c_source.proofs.Storing.{stored_on}
use Rattle.c_source.proofs.Containing.{contents_make}
use Rattle.c_source.proofs.Sizing.{Types, type_elements}
use Rattle.c_source.proofs.Bodies.{begins_same}

pub extends_itself : (q : ProgressTree) → Extends q q
extends_itself q =
    record { found = grows_itself q.found; automatics = begins_itself q.automatics; array_literals = begins_itself q.array_literals; statics = begins_itself q.statics; signatures = begins_itself q.names.signatures; kept = λ h. h; ended = λ h. h }

pub extends_on : {q t u : ProgressTree} → Extends q t → Extends t u → Extends q u
extends_on {q = q} {t = t} {u = u} g h =
    record {
      found = grows_on g.found h.found;
      automatics = begins_on q.automatics t.automatics u.automatics g.automatics h.automatics;
      array_literals = begins_on q.array_literals t.array_literals u.array_literals g.array_literals h.array_literals;
      statics = begins_on q.statics t.statics u.statics g.statics h.statics;
      signatures = begins_on q.names.signatures t.names.signatures u.names.signatures g.signatures h.signatures;
      kept = λ e. h.kept (g.kept e);
      ended = λ e. h.ended (g.ended e);
    }

pub advances_extends : {q t : ProgressTree} → Advances q t → Extends q t
advances_extends a = record { found = a.found; automatics = a.automatics; array_literals = a.array_literals; statics = begins_same a.statics; signatures = begins_same a.signatures; kept = a.kept; ended = a.ended }

module _ (p : ProgramTree) where
  -- what a program comes to later, it came to before
  pub reaches_before : {q t : ProgressTree} → Extends q t → Reaches p t → Reaches p q
  reaches_before {q = q} {t = t} e r =
      record {
        accepts = accepts_before e.found r.accepts;
        automatics = λ x a h. r.automatics x a (ap (λ l. slice_get l x) e.automatics.1 ∙ slice_more q.automatics e.automatics.0 x a h);
        array_literals = begins_on q.array_literals t.array_literals p.array_literals e.array_literals r.array_literals;
        statics = begins_on q.statics t.statics p.statics e.statics r.statics;
        functions = λ k g c h is. r.functions k g c (ap (λ l. slice_get l k) e.signatures.1 ∙ slice_more q.names.signatures e.signatures.0 k g h) is;
      }

  pub passes_itself : (q : ProgressTree) → Passes p q q
  passes_itself q = record { extends = extends_itself q; known = λ k b. k; same = refl; stored = λ k e s. s }

  pub passes_on : {q t u : ProgressTree} → Passes p q t → Passes p t u → Passes p q u
  passes_on {q = q} {t = t} {u = u} g h =
      record { extends = extends_on g.extends h.extends; known = λ k b. h.known (g.known k (begins_on t.statics u.statics p.statics h.extends.statics b)) b; same = h.same ∙ g.same; stored = λ k e s. h.stored (g.known k (begins_on t.statics u.statics p.statics h.extends.statics e.statics)) e (g.stored k (reaches_before h.extends e) s) }

  pub breaks_passes : (code : Code) (extent : Extent) (q : ProgressTree) → Passes p q (breaks code extent q)
  breaks_passes code extent q =
      record {
        extends = record { found = grows_fault code extent.first extent.last q.found; automatics = begins_itself q.automatics; array_literals = begins_itself q.array_literals; statics = begins_itself q.statics; signatures = begins_itself q.names.signatures; kept = λ h. h; ended = λ h. h };
        known = λ k b. k;
        same = refl;
        stored = λ k e s. s;
      }

  pub breaks_if_passes : {A : Type 0} (o : Option A) (code : Code) (extent : Extent) (q : ProgressTree) → Passes p q (breaks_if o code extent q)
  breaks_if_passes (Some a) code extent q = breaks_passes code extent q
  breaks_if_passes None code extent q = passes_itself q

  pub looks_passes : {f : TypedFunctionTree} {low : ℕ} {q t : ProgressTree} → Looks p f low q t → Passes p q t
  looks_passes l = record { extends = advances_extends l.comes.advances; known = λ k b one. subst (λ (n : Names). AreScopesKnown p one n.scopes) (sym l.names) (k one); same = l.same; stored = λ k e s. subst (AreStored p) (sym l.comes.advances.statics) s }

  -- a name that means no variable
  other_known : (f : TypedFunctionTree) (name : List ℕ) (m : Meaning) (scope : Scope) → ((o : Object) (of : ObjectType) → m ≡ Variable o of → ⊥) → IsScopeKnown p f scope → IsScopeKnown p f (with_meaning name m scope)
  other_known f name m scope never others other r to h = by (bytes_eq name other) h
    where
      by : (b : Bool) → cond b (Some m) (scope other) ≡ Some (Variable r to) → IsKnown p f r to
      by true e = let is : m ≡ Variable r to = cc in absurd (never r to is)
      by false e = others other r to e

  pub other_passes : (name : List ℕ) (m : Meaning) (q : ProgressTree) → ((o : Object) (of : ObjectType) → m ≡ Variable o of → ⊥) → Passes p q (with_name name m q)
  other_passes name m q never =
      record {
        extends = record { found = grows_itself q.found; automatics = begins_itself q.automatics; array_literals = begins_itself q.array_literals; statics = begins_itself q.statics; signatures = begins_itself q.names.signatures; kept = λ h. h; ended = λ h. h };
        known = λ k b one.
            known_push p one (take (length q.names.scopes - 1) q.names.scopes) _ (known_take p one (length q.names.scopes - 1) q.names.scopes (k one))
            (other_known one name m (innermost q.names.scopes) never (known_at p one q.names.scopes (length q.names.scopes - 1) (k one)));
        same = refl;
        stored = λ k e s. s;
      }

  -- any function with so many variables
  abbrev any_function : Spot → ℕ → TypedFunctionTree
  any_function spot count = record { name = []; spot = spot; result = Void; first_variable = 0; parameters = 0; variables = count; body = typed-tree.none; close = spot; weight = 0 }

  -- a static variable
  static_passes : (n : NameTree) (of : ObjectType) (q r u : ProgressTree) (c : Contents) → has_elements of ≡ true → is_named n.name of ≡ true → Passes p q r → r.names ≡ q.names → r.statics ≡ q.statics → Passes p (with_name n.name (Variable (designator.Static (length q.statics)) of) r) u
      → u.names ≡ (with_name n.name (Variable (designator.Static (length q.statics)) of) r).names → u.statics ≡ q.statics
      → (((f : TypedFunctionTree) → AreScopesKnown p f (with_name n.name (Variable (designator.Static (length q.statics)) of) r).names.scopes) → Reaches p (with_static_object n of c u) → Fits p of c) → Passes p q (with_static_object n of c u)
  static_passes n of q r u c elements name before names same behind later stays fits =
      let v : StaticTree = record { name = n.name; spot = n.spot; of = of; bytes = c.bytes; relocations = c.relocations } in
      let one = before.extends in
      let two = behind.extends in
      let here : IsFileKnown p q → Begins (u.statics ++ v ∷ []) p.statics → (f : TypedFunctionTree) → AreScopesKnown p f (with_name n.name (Variable (designator.Static (length q.statics)) of) r).names.scopes = λ k b f.
      let at : slice_get p.statics (length q.statics) ≡ Some v = ap (λ l. slice_get l (length q.statics)) (b.1 ∙ ap (λ l. (l ++ v ∷ []) ++ b.0) stays) ∙ at_end q.statics b.0 v in
      let is : IsKnown p f (designator.Static (length q.statics)) of = record { is = ap (λ o. static_is o of) at ∙ object_itself of; elements = elements } in
      declared_known p f n.name (designator.Static (length q.statics)) of r.names is (subst (λ (m : Names). AreScopesKnown p f m.scopes) (sym names) (k f)) in
      record {
        extends = record {
          found = grows_on one.found two.found;
          automatics = begins_on q.automatics r.automatics u.automatics one.automatics two.automatics;
          array_literals = begins_on q.array_literals r.array_literals u.array_literals one.array_literals two.array_literals;
          statics = (v ∷ [], ap (λ l. l ++ v ∷ []) stays);
          signatures = begins_on q.names.signatures r.names.signatures u.names.signatures one.signatures two.signatures;
          kept = λ h. two.kept (one.kept h);
          ended = λ h. two.ended (one.ended h);
        };
        known = λ k b f. subst (λ (m : Names). AreScopesKnown p f m.scopes) (sym later) (here k b f);
        same = behind.same ∙ before.same;
        stored = λ k e s. subst (λ all. AreStored p (all ++ v ∷ [])) (sym stays) (stored_on p q.statics v c s refl refl (fits (here k e.statics) e) name elements);
      }

  breaks_if_names : {A : Type 0} (o : Option A) (code : Code) (extent : Extent) (q : ProgressTree) → (breaks_if o code extent q).names ≡ q.names
  breaks_if_names (Some a) code extent q = refl
  breaks_if_names None code extent q = refl

  breaks_if_statics : {A : Type 0} (o : Option A) (code : Code) (extent : Extent) (q : ProgressTree) → (breaks_if o code extent q).statics ≡ q.statics
  breaks_if_statics (Some a) code extent q = refl
  breaks_if_statics None code extent q = refl

  of_type_passes : (d : DeclaratorTree) (of : ObjectType) (q : ProgressTree) → IsInitialFormed d.initializer → has_elements of ≡ true → is_named d.name.name of ≡ true → Passes p q (static_of_type d of q)
  unfolding reached_by
  of_type_passes d of q h elements name = by (contents_met of d.extent d.initializer s) (contents_make p fun 0 of d.extent d.initializer s h)
    where
      fun : TypedFunctionTree
      fun = any_function d.name.spot (length q.automatics)

      r : ProgressTree
      r = breaks_if (declared_here q.names d.name.name) REDECLARED d.extent q

      s : ProgressTree
      s = with_name d.name.name (Variable (designator.Static (length q.statics)) of) r

      by : (m : Met Contents) → Ensures (Makes p fun 0 (Fits p of) s) m → Passes p q (reached_by m (with_static_object d.name of))
      by (means c u) l =
          static_passes d.name of q r u c elements name (breaks_if_passes (declared_here q.names d.name.name) REDECLARED d.extent q) (breaks_if_names (declared_here q.names d.name.name) REDECLARED d.extent q)
          (breaks_if_statics (declared_here q.names d.name.name) REDECLARED d.extent q) (looks_passes l.looks) l.looks.names (l.looks.comes.advances.statics ∙ breaks_if_statics (declared_here q.names d.name.name) REDECLARED d.extent q)
          (λ scopes e.
          let same : u.automatics ≡ q.automatics = l.looks.same ∙ (breaks_if_passes (declared_here q.names d.name.name) REDECLARED d.extent q).same in
          let stands : Stands p fun u = record { accepts = e.accepts; automatics = e.automatics; array_literals = e.array_literals; within = let n = ap length same in omega (arith, n) } in
          let calls = λ (k : ℕ) (g : SignatureTree) (c : Callee) (h : slice_get s.names.signatures k ≡ Some g) (is : g.callee ≡ Some c). e.functions k g c (ap (λ l. slice_get l k) l.looks.comes.advances.signatures ∙ h) is in
          l.holds (record { scopes = scopes fun; functions = calls; begun = omega arith }) stands)

  one_passes : (t : IntegerType) (d : DeclaratorTree) (q : ProgressTree) → IsDeclaratorFormed d → Passes p q (static_met t d q)
  unfolding reached_by
  one_passes t d q h = by (type_met (record { base = t; stars = d.stars }) d q) (type_elements p (any_function d.name.spot 0) 0 (record { base = t; stars = d.stars }) d q h.0)
    where
      by : (m : Met ObjectType) → Ensures (Types p (any_function d.name.spot 0) 0 q) m → Passes p q (reached_by m (static_of_type d))
      by (means of u) l = passes_on (looks_passes l.0) (of_type_passes d of u h.1 l.1 (both (is_name d.name.name) (has_few_elements of) h.2 l.2))

  pub statics_pass : (t : IntegerType) (ds : List DeclaratorTree) (q : ProgressTree) → AreDeclaratorsFormed ds → Passes p q (statics_met t ds q)
  statics_pass t [] q h = passes_itself q
  statics_pass t (d ∷ ds) q h = passes_on (one_passes t d q h.0) (statics_pass t ds (static_met t d q) h.1)
