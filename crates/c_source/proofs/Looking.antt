-- Parts of a function's block that declare no variable: values, and what scalars are initialised with.
use Rattle.std.proofs.Common.{◌≡◌, ℕ, [], Bool, true, Option, Some, None, refl, ◌∙◌, subst}
use Rattle.debug_records.specs.declared.code.Code.{Code}
use Rattle.debug_records.specs.declared.code.TheConstants.Code.{INITIALIZER}
use Rattle.c_tree.specs.declared.extent.Extent.{Extent}
use Rattle.c_tree.specs.declared.object_type.Scalar.{Scalar}
use Rattle.c_tree.specs.Expressions.{ExpressionTree}
use Rattle.c_tree.specs.Declarations.{InitializerTree, InitializerTrees, Value, Braces, none, first}
use Rattle.c_tree.specs.Programs.{TypedFunctionTree, ProgramTree}
use Rattle.c_type_rules.specs.Types.{loaded_type}
use Rattle.c_type_values.specs.Values.{ValueTree, converted_value}
use Rattle.c_type_laws.specs.Kinds.{is_of}
use Rattle.c_type_laws.specs.Expressions.{kind_of}
use Rattle.c_type_expressions.specs.Findings.{Checked, gives}
use Rattle.c_type_expressions.specs.Judgements.{valued}
use Rattle.c_type_expressions.specs.Expressions.{typed, is_zero}
use Rattle.c_type_declarations.specs.Progress.{ProgressTree, Met, means, reached_by, check_within, value_met, breaks}
use Rattle.c_type_declarations.specs.Objects.{only_in}
use Rattle.c_type_declarations.specs.Initials.{or_misfit, fitted, fitting, looked_at_one, looked_at, misfit_met, braces_met, scalar_met, computed_tree}
use Rattle.c_source.specs.Addresses.{is_constant_of}
use Rattle.c_source.specs.Constants.{HasNumbers}
use Rattle.c_source.specs.Findings.{IsThere, HoldsOf, IsGood}
use Rattle.c_source.specs.Values.{IsTyped}
use Rattle.c_source.specs.Formed.{IsInitializerFormed, AreInitializersFormed}
use Rattle.c_source.specs.Progress.{Stands, Inside, Ensures}
use Rattle.c_source.specs.Making.{Looks, MakesIfAny, IsHeldIn}
use Rattle.c_source.proofs.Growing.{more_is_some, no_fault_before}
use Rattle.c_source.proofs.Values.{converted_typed, converted_constant_is}
use Rattle.c_source.proofs.Expressions.{valued_good, typed_good}
use Rattle.c_source.proofs.Coming.{next_ensures, inside_knows, comes_itself, comes_on, found_comes, breaks_comes}

-- what has two properties
both_hold : {A : Type 0} (P Q : A → Type 0) (o : Option A) → HoldsOf P o → HoldsOf Q o → HoldsOf (λ (a : A). P a × Q a) o
both_hold P Q None h g = tt
both_hold P Q (Some a) h g = (h, g)

module _ (p : ProgramTree) (f : TypedFunctionTree) (low : ℕ) where
  pub looks_itself : (q : ProgressTree) → Looks p f low q q
  looks_itself q = record { comes = comes_itself p f low q; same = refl; names = refl }

  pub looks_on : {q t u : ProgressTree} → Looks p f low q t → Looks p f low t u → Looks p f low q u
  looks_on g h = record { comes = comes_on p f g.comes h.comes; same = h.same ∙ g.same; names = h.names ∙ g.names }

  pub breaks_looks : (code : Code) (extent : Extent) (q : ProgressTree) → Looks p f low q (breaks code extent q)
  breaks_looks code extent q = record { comes = breaks_comes p f low code extent q; same = refl; names = refl }

  -- no rule is broken
  pub breaks_never : {A : Type 0} (code : Code) (extent : Extent) (q : ProgressTree) → (breaks code extent q).found.faults ≡ [] → A
  breaks_never code extent q h = absurd (more_is_some q.found.faults _ h)

  -- the value of an expression
  pub value_makes : (e : ExpressionTree) (q : ProgressTree) → HasNumbers e → Ensures (MakesIfAny p f low (IsTyped p f) q) (value_met e q)
  unfolding value_met
  value_makes e q numbers =
      by (valued (typed q.names e q.found))
      (valued_good (Inside p f low q) p f q.found (typed q.names e q.found) (typed_good (Inside p f low q) p f q.names (λ i. inside_knows p f low q i) e q.found numbers))
    where
      by : (c : Checked (Option ValueTree)) → IsGood (Inside p f low q) p (IsTyped p f) q.found c → Ensures (MakesIfAny p f low (IsTyped p f) q) (check_within q c)
      by (gives v s) h =
          record {
            looks = record { comes = found_comes p f low q s h.grows; same = refl; names = refl };
            there = h.there;
            holds = λ i stands. h.holds (record { given = i; faults = stands.accepts.faults; undefined = stands.accepts.undefined; literals = stands.accepts.literals });
          }

  -- a value as if assigned to a scalar
  or_misfit_makes : (s : Scalar) (o : Option ValueTree) (extent : Extent) (q t : ProgressTree) → Looks p f low q t → (Inside p f low q → Stands p f t → HoldsOf (IsHeldIn p f s) o)
      → Ensures (MakesIfAny p f low (IsHeldIn p f s) q) (or_misfit o extent t)
  or_misfit_makes s (Some v) extent q t l h = record { looks = l; there = λ e. tt; holds = h }
  or_misfit_makes s None extent q t l h = record { looks = looks_on l (breaks_looks INITIALIZER extent t); there = λ e. breaks_never INITIALIZER extent t e; holds = λ i e. tt }

  fitted_makes : (s : Scalar) (extent : Extent) (z : Bool) (q : ProgressTree) (v : Option ValueTree) (t : ProgressTree) → MakesIfAny p f low (IsTyped p f) q v t → Ensures (MakesIfAny p f low (IsHeldIn p f s) q) (fitted s extent z v t)
  fitted_makes s extent z q (Some v) t h = or_misfit_makes s (converted_value v (loaded_type s) z) extent q t h.looks (λ i e. both_hold (λ (r : ValueTree). is_of (kind_of p f r.tree) (loaded_type s) ≡ true) (λ (r : ValueTree). is_constant_of p (loaded_type s) r.constant ≡ true) (converted_value v (loaded_type s) z) (converted_typed p f v (loaded_type s) z (h.holds i e)) (converted_constant_is p f v (loaded_type s) z (h.holds i e)))
  fitted_makes s extent z q None t h = record { looks = h.looks; there = h.there; holds = λ i e. tt }

  fitting_makes : (s : Scalar) (extent : Extent) (e : ExpressionTree) (q : ProgressTree) → HasNumbers e → Ensures (MakesIfAny p f low (IsHeldIn p f s) q) (fitting s extent e q)
  fitting_makes s extent e q numbers =
      next_ensures (MakesIfAny p f low (IsTyped p f) q) (MakesIfAny p f low (IsHeldIn p f s) q) (value_met e q) _ (value_makes e q numbers) (λ v t h. fitted_makes s extent (is_zero e) q v t h)

  -- how far a check comes behind a value
  pub value_looks : (e : ExpressionTree) (q : ProgressTree) (g : Option ValueTree → ProgressTree → ProgressTree) → HasNumbers e → ((v : Option ValueTree) (t : ProgressTree) → Looks p f low t (g v t)) → Looks p f low q (reached_by (value_met e q) g)
  unfolding reached_by
  value_looks e q g numbers k = by (value_met e q) (value_makes e q numbers)
    where
      by : (m : Met (Option ValueTree)) → Ensures (MakesIfAny p f low (IsTyped p f) q) m → Looks p f low q (reached_by m g)
      by (means v t) h = looks_on h.looks (k v t)

  looked_at_one_looks : (i : InitializerTree) (q : ProgressTree) → IsInitializerFormed i → Looks p f low q (looked_at_one i q)
  looked_at_one_looks (Braces all) q h = looks_itself q
  looked_at_one_looks (Value e) q h = value_looks e q _ h (λ v t. looks_itself t)

  looked_at_looks : (all : InitializerTrees) (q : ProgressTree) → AreInitializersFormed all → Looks p f low q (looked_at all q)
  looked_at_looks none q h = looks_itself q
  looked_at_looks (first i more) q h = looks_on (looked_at_one_looks i q h.0) (looked_at_looks more (looked_at_one i q) h.1)

  pub misfit_looks : (extent : Extent) (e : ExpressionTree) (q : ProgressTree) → HasNumbers e → Looks p f low q (misfit_met extent e q)
  misfit_looks extent e q numbers = value_looks e q _ numbers (λ v t. breaks_looks INITIALIZER extent t)

  -- where a list has to stand a rule is broken
  pub misfit_never : {A : Type 0} (extent : Extent) (e : ExpressionTree) (q : ProgressTree) → (misfit_met extent e q).found.faults ≡ [] → A
  unfolding reached_by
  misfit_never {A} extent e q h = by (value_met e q) h
    where
      by : (m : Met (Option ValueTree)) → (reached_by m (λ v. breaks INITIALIZER extent)).found.faults ≡ [] → A
      by (means v t) h = breaks_never INITIALIZER extent t h

  -- the only expression in braces
  pub only_formed : (all : InitializerTrees) (e : ExpressionTree) → only_in all ≡ Some e → AreInitializersFormed all → HasNumbers e
  only_formed none e h k = cc
  only_formed (first (Value x) none) e h k = let same : x ≡ e = cc in subst HasNumbers same k.0
  only_formed (first (Value x) (first i more)) e h k = cc
  only_formed (first (Braces xs) more) e h k = cc

  braces_makes : (s : Scalar) (extent : Extent) (o : Option ExpressionTree) (all : InitializerTrees) (q : ProgressTree) → only_in all ≡ o → AreInitializersFormed all → Ensures (MakesIfAny p f low (IsHeldIn p f s) q) (braces_met s extent o all q)
  braces_makes s extent (Some e) all q is h = fitting_makes s extent e q (only_formed all e is h)
  braces_makes s extent None all q is h =
      record {
        looks = looks_on (breaks_looks INITIALIZER extent q) (looked_at_looks all (breaks INITIALIZER extent q) h);
        there = λ e. breaks_never INITIALIZER extent q (no_fault_before (looked_at_looks all (breaks INITIALIZER extent q) h).comes.advances.found e);
        holds = λ i e. tt;
      }

  -- the initializer of a scalar
  pub scalar_makes : (s : Scalar) (extent : Extent) (i : InitializerTree) (q : ProgressTree) → IsInitializerFormed i → Ensures (MakesIfAny p f low (IsHeldIn p f s) q) (scalar_met s extent i q)
  scalar_makes s extent (Value e) q h = fitting_makes s extent e q h
  scalar_makes s extent (Braces all) q h = braces_makes s extent (only_in all) all q refl h

  -- what there is where no rule is broken
  pub tree_held : (s : Scalar) (v : Option ValueTree) → IsThere v → HoldsOf (IsHeldIn p f s) v → is_of (kind_of p f (computed_tree v)) (loaded_type s) ≡ true
  tree_held s (Some v) there h = h.0
  tree_held s None there h = absurd there
