-- Declarators of a function's block declare its variables, with values of their types.
use Rattle.std.proofs.Common.{◌≡◌, ◌≤◌, ◌<◌, ℕ, ◌+◌, List, [], ◌∷◌, ◌++◌, length, slice_get, nat_le, nat_lt, true, Option, Some, None, refl, sym, ap, ◌∙◌, arith, append-nil, length-append}
use Rattle.std.specs.Prelude.{◌==◌}
use Rattle.debug_records.specs.declared.source.Spot.{Spot}
use Rattle.debug_records.specs.declared.code.TheConstants.Code.{REDECLARED}
use Rattle.debug_records.specs.declared.code.Code.{Code}
use Rattle.c_tree.specs.declared.extent.Extent.{Extent}
use Rattle.c_tree.specs.declared.types.IntegerType.{IntegerType}
use Rattle.c_tree.specs.declared.object_type.Object.TheVariants as designator
use Rattle.c_tree.specs.declared.object_type.ObjectType.{ObjectType}
use Rattle.c_tree.specs.declared.object_type.ObjectType.TheVariants as object
use Rattle.c_tree.specs.Expressions.{NameTree}
use Rattle.c_tree.specs.Declarations.{DeclaratorTree, DeclarationTree}
use Rattle.c_tree.specs.TypedStatements.{InitialTree, DeclaredTree}
use Rattle.c_tree.specs.Programs.{AutomaticTree, TypedFunctionTree, ProgramTree}
use Rattle.c_type_expressions.specs.declared.names.Meaning.TheVariants.{Variable}
use Rattle.c_type_expressions.specs.declared.names.Meaning.{Meaning}
use Rattle.c_type_declarations.specs.Scopes.{declared_here}
use Rattle.c_type_declarations.specs.Progress.{ProgressTree, breaks_if, with_name, declares}
use Rattle.c_type_declarations.specs.Objects.{type_met}
use Rattle.c_type_declarations.specs.Initials.{initial_met}
use Rattle.c_type_declarations.specs.Declarations.{is_array, with_automatic, automatic_of_type, automatic_met, automatics_met, declaration_met}
use Rattle.c_type_laws.specs.Kinds.{automatic_is, is_variable}
use Rattle.c_type_laws.specs.Statements.{same_spot, initialises, declares_as, is_declared, are_declared}
use Rattle.c_type_laws.specs.Declarations.{declared_by}
use Rattle.c_type_rules.specs.Types.{same_object}
use Rattle.c_type_laws.specs.Names.{is_name, has_few_elements, is_named, automatics_named}
use Rattle.c_type_laws.specs.Objects.{is_kept_array, arrays_are_kept}
use Rattle.c_source.specs.Values.{has_elements}
use Rattle.c_source.specs.Formed.{IsDeclaratorFormed, AreDeclaratorsFormed}
use Rattle.c_source.specs.Known.{IsKnown}
use Rattle.c_source.specs.Progress.{Stands, Comes, Ensures}
use Rattle.c_source.specs.Making.{Looks, Makes, DeclaresAll}
use Rattle.c_source.proofs.Same.{two_true, both, all_three, itself, object_itself}
use Rattle.c_source.proofs.Growing.{begins_itself, grows_itself}
use Rattle.c_source.proofs.Judging.{le_true, at_end}
use Rattle.c_source.proofs.Coming.{next_ensures, stands_before, declared_known, declared_outer, comes_itself, comes_on, breaks_if_comes}
use Rattle.c_source.proofs.Numbering.{nothing_numbered, one_numbered, both_numbered}
use Rattle.c_source.proofs.Sizing.{Types, type_elements}
use Rattle.c_source.proofs.Initialising.{initial_makes}
use Rattle.base_laws.proofs.Numbers.{less as lt_true}

pub spot_itself : (s : Spot) → same_spot s s ≡ true
spot_itself s = both (s.at == s.at) (s.line == s.line) (itself s.at) (itself s.line)

-- the variable that is declared
abbrev pub new_variable : NameTree → ObjectType → AutomaticTree
new_variable n of = record { name = n.name; spot = n.spot; of = of; in_memory = is_array of }

kept_array : (of : ObjectType) → has_elements of ≡ true → is_kept_array (is_array of) of ≡ true
kept_array (object.Scalar s) h = refl
kept_array (object.Array e n) h = rw h refl

arrays_push : (xs : List AutomaticTree) (a : AutomaticTree) → arrays_are_kept xs ≡ true → is_kept_array a.in_memory a.of ≡ true → arrays_are_kept (xs ++ a ∷ []) ≡ true
arrays_push [] a h g = rw g refl
arrays_push (x ∷ xs) a h g = let c = two_true (is_kept_array x.in_memory x.of) (arrays_are_kept xs) h in both (is_kept_array x.in_memory x.of) (arrays_are_kept (xs ++ a ∷ [])) c.0 (arrays_push xs a c.1 g)

named_push : (xs : List AutomaticTree) (a : AutomaticTree) → automatics_named xs ≡ true → is_named a.name a.of ≡ true → automatics_named (xs ++ a ∷ []) ≡ true
named_push [] a h g = both (is_named a.name a.of) true g refl
named_push (x ∷ xs) a h g = let c = two_true (is_named x.name x.of) (automatics_named xs) h in both (is_named x.name x.of) (automatics_named (xs ++ a ∷ [])) c.0 (named_push xs a c.1 g)

pub breaks_if_same : {A : Type 0} (o : Option A) (code : Code) (extent : Extent) (q : ProgressTree) → (breaks_if o code extent q).automatics ≡ q.automatics
breaks_if_same (Some a) code extent q = refl
breaks_if_same None code extent q = refl

module _ (p : ProgramTree) (f : TypedFunctionTree) where
  -- where a variable stands in the program
  pub record Placed (x : ℕ) (n : NameTree) (of : ObjectType) : Type 0 where
    pub variable : AutomaticTree
    pub is : slice_get p.automatics x ≡ Some variable
    pub of_is : variable.of ≡ of
    pub spot_is : variable.spot ≡ n.spot
    pub within : x < f.first_variable + f.variables

  -- the last variable so far
  pub placed : (r : ProgressTree) (n : NameTree) (of : ObjectType) (x : ℕ) (m : Meaning) → x ≡ length r.automatics → Stands p f (with_automatic n of (with_name n.name m r)) → Placed x n of
  placed r n of x m e s =
      let v = new_variable n of in
      let at : slice_get (r.automatics ++ v ∷ []) x ≡ Some v = ap (slice_get (r.automatics ++ v ∷ [])) e ∙ ap (λ l. slice_get l (length r.automatics)) (sym (append-nil (r.automatics ++ v ∷ []))) ∙ at_end r.automatics [] v in
      let c = s.automatics x v at in
      record { variable = c.0; is = c.1; of_is = c.2; spot_is = c.3; within = let w = s.within in let n = length-append r.automatics (v ∷ []) in omega arith }

  placed_known : (x : ℕ) (n : NameTree) (of : ObjectType) → f.first_variable ≤ x → has_elements of ≡ true → Placed x n of → IsKnown p f (designator.Automatic x) of
  placed_known x n of low h c =
      record {
        is = both (is_variable f x) (automatic_is (slice_get p.automatics x) of)
            (both (nat_le f.first_variable x) (nat_lt x (f.first_variable + f.variables)) (le_true f.first_variable x low) (lt_true x (f.first_variable + f.variables) c.within))
            (ap (λ o. automatic_is o of) c.is ∙ ap (λ t. same_object t of) c.of_is ∙ object_itself of);
        elements = h;
      }

  module _ (low : ℕ) (first : f.first_variable ≤ low) where
    -- one more variable, by its name
    pub new_comes : (n : NameTree) (of : ObjectType) (x : ℕ) (r : ProgressTree) → x ≡ length r.automatics → has_elements of ≡ true → is_named n.name of ≡ true → Comes p f low r (with_automatic n of (with_name n.name (Variable (designator.Automatic x) of) r))
    new_comes n of x r e h name =
        record {
          advances = record {
            found = grows_itself r.found;
            automatics = (new_variable n of ∷ [], refl);
            array_literals = begins_itself r.array_literals;
            statics = refl;
            signatures = refl;
            scopes = declared_outer n.name (Variable (designator.Automatic x) of) r.names;
            kept = λ k. (arrays_push r.automatics (new_variable n of) k.0 (kept_array of h), named_push r.automatics (new_variable n of) k.1 name);
            ended = λ k. k;
          };
          inside = λ i s.
              record {
                scopes = declared_known p f n.name (designator.Automatic x) of r.names
                    (placed_known x n of (let b = i.begun in omega (arith, first)) h (placed r n of x (Variable (designator.Automatic x) of) e s)) i.scopes;
                functions = i.functions;
                begun = let b = i.begun in let n = length-append r.automatics (new_variable n of ∷ []) in omega arith;
              };
        }

    -- one more variable, of a construct that may declare a name again
    pub declares_comes : (extent : Extent) (n : NameTree) (of : ObjectType) (q : ProgressTree) → has_elements of ≡ true → is_named n.name of ≡ true
        → Comes p f low q (with_automatic n of (declares extent n.name (Variable (designator.Automatic (length q.automatics)) of) q))
    declares_comes extent n of q h name =
        comes_on p f (breaks_if_comes p f low (declared_here q.names n.name) REDECLARED extent q)
        (new_comes n of (length q.automatics) (breaks_if (declared_here q.names n.name) REDECLARED extent q) (ap length (sym (breaks_if_same (declared_here q.names n.name) REDECLARED extent q))) h name)

    pub declares_count : (extent : Extent) (n : NameTree) (of : ObjectType) (m : Meaning) (q : ProgressTree) → length (with_automatic n of (declares extent n.name m q)).automatics ≡ length q.automatics + 1
    declares_count extent n of m q =
        length-append (breaks_if (declared_here q.names n.name) REDECLARED extent q).automatics (new_variable n of ∷ []) ∙ ap (λ l. length l + 1) (breaks_if_same (declared_here q.names n.name) REDECLARED extent q)

-- declarators of a function's block, whose parameters are declared
module _ (p : ProgramTree) (f : TypedFunctionTree) where
  abbrev low : ℕ
  low = f.first_variable + f.parameters

  first_low : f.first_variable ≤ f.first_variable + f.parameters
  first_low = omega arith

  -- the variable of a declarator
  abbrev pub one_variable : DeclaredTree → List ℕ → List ℕ
  one_variable d vs = vs ++ d.variable ∷ []

  abbrev pub DeclaresOne : ProgressTree → DeclaredTree → ProgressTree → Type 0
  DeclaresOne q d t = DeclaresAll p f (f.first_variable + f.parameters) one_variable (λ (one : DeclaredTree). is_declared p f one ≡ true) q d t

  abbrev pub DeclaresMany : ProgressTree → List DeclaredTree → ProgressTree → Type 0
  DeclaresMany q ds t = DeclaresAll p f (f.first_variable + f.parameters) declared_by (λ (all : List DeclaredTree). are_declared p f all ≡ true) q ds t

  declared_fits : (x : ℕ) (n : NameTree) (of : ObjectType) (i : InitialTree) → f.first_variable + f.parameters ≤ x → Placed p f x n of → initialises p f of i ≡ true → is_declared p f (record { variable = x; spot = n.spot; initial = i }) ≡ true
  declared_fits x n of i b c h =
      let d : DeclaredTree = record { variable = x; spot = n.spot; initial = i } in
      all_three (nat_le (f.first_variable + f.parameters) x) (nat_lt x (f.first_variable + f.variables)) (declares_as p f d (slice_get p.automatics x)) (le_true (f.first_variable + f.parameters) x b) (lt_true x (f.first_variable + f.variables) c.within)
      (ap (declares_as p f d) c.is
      ∙ both (same_spot n.spot c.variable.spot) (initialises p f c.variable.of i) (ap (same_spot n.spot) c.spot_is ∙ spot_itself n.spot) (ap (λ t. initialises p f t i) c.of_is ∙ h))

  of_type_declares : (d : DeclaratorTree) (q : ProgressTree) (of : ObjectType) (t : ProgressTree) → IsDeclaratorFormed d → Looks p f low q t → has_elements of ≡ true → has_few_elements of ≡ true → Ensures (DeclaresOne q) (automatic_of_type d of t)
  of_type_declares d q of t formed l h few =
      let x = length t.automatics in
      let m = Variable (designator.Automatic x) of in
      let r = with_automatic d.name of (declares d.extent d.name.name m t) in
      let s = breaks_if (declared_here t.names d.name.name) REDECLARED d.extent t in
      let here = declares_comes p f low first_low d.extent d.name of t h (both (is_name d.name.name) (has_few_elements of) formed.2 few) in
      let at : x ≡ length s.automatics = ap length (sym (breaks_if_same (declared_here t.names d.name.name) REDECLARED d.extent t)) in
      next_ensures (Makes p f low (λ (w : InitialTree). initialises p f of w ≡ true) r) (DeclaresOne q) (initial_met of d.extent d.initializer r) _ (initial_makes p f low of d.extent d.initializer r formed.1)
      (λ i u made.
      record {
        comes = comes_on p f l.comes (comes_on p f here made.looks.comes);
        numbers = one_numbered q u (one_variable (record { variable = x; spot = d.name.spot; initial = i })) (ap length made.looks.same ∙ declares_count p f low first_low d.extent d.name of m t ∙ ap (λ z. length z + 1) l.same) (λ vs. ap (λ z. vs ++ length z ∷ []) l.same);
        holds = λ inside e.
            let before = stands_before made.looks.comes.advances e in
            let there = l.comes.inside inside (stands_before here.advances before) in
            declared_fits x d.name of i there.begun (placed p f s d.name of x m at before) (made.holds (here.inside there before) e);
      })

  one_declares : (t : IntegerType) (d : DeclaratorTree) (q : ProgressTree) → IsDeclaratorFormed d → Ensures (DeclaresOne q) (automatic_met t d q)
  one_declares t d q h =
      next_ensures (Types p f low q) (DeclaresOne q) (type_met (record { base = t; stars = d.stars }) d q) _ (type_elements p f low (record { base = t; stars = d.stars }) d q h.0) (λ of u c. of_type_declares d q of u h c.0 c.1 c.2)

  pub many_declare : (t : IntegerType) (ds : List DeclaratorTree) (q : ProgressTree) → AreDeclaratorsFormed ds → Ensures (DeclaresMany q) (automatics_met t ds q)
  many_declare t [] q h = record { comes = comes_itself p f low q; numbers = nothing_numbered q q (declared_by []) refl (λ vs. refl); holds = λ i e. refl }
  many_declare t (d ∷ ds) q h =
      next_ensures (DeclaresOne q) (DeclaresMany q) (automatic_met t d q) _ (one_declares t d q h.0)
      (λ one r here.
      next_ensures (DeclaresMany r) (DeclaresMany q) (automatics_met t ds r) _ (many_declare t ds r h.1)
      (λ rest u more.
      record {
        comes = comes_on p f here.comes more.comes;
        numbers = both_numbered (one_variable one) (declared_by rest) (declared_by (one ∷ rest)) (λ vs. refl) here.numbers more.numbers;
        holds = λ i e.
            let before = stands_before more.comes.advances e in
            both (is_declared p f one) (are_declared p f rest) (here.holds i before) (more.holds (here.comes.inside i before) e);
      }))

  pub declaration_declares : (d : DeclarationTree) (q : ProgressTree) → AreDeclaratorsFormed d.declarators → Ensures (DeclaresMany q) (declaration_met d q)
  declaration_declares d q h = many_declare d.type d.declarators q h
