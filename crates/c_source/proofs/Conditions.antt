-- Conditions, results, steps and scopes of statements in an accepted program.
use Rattle.std.proofs.Common.{◌≡◌, ℕ, ◌+◌, List, [], Bool, true, false, ◌&&◌, not, Option, Some, None, refl, sym, ap, ◌∙◌, subst}
use Rattle.std.specs.Prelude.{if◌then◌else◌}
use Rattle.debug_records.specs.declared.code.Code.{Code}
use Rattle.debug_records.specs.declared.code.TheConstants.Code.{OPERAND_TYPES, RETURN_MISMATCH}
use Rattle.c_tree.specs.declared.extent.Extent.{Extent}
use Rattle.c_tree.specs.declared.object_type.ValueType.{ValueType}
use Rattle.c_tree.specs.declared.object_type.ValueType.TheVariants.{Void, Integer, Pointer}
use Rattle.c_tree.specs.Ends.{first_spot}
use Rattle.c_tree.specs.Expressions.{ExpressionTree}
use Rattle.c_tree.specs.Statements.{StartTree}
use Rattle.c_tree.specs.Statements as tree
use Rattle.c_tree.specs.TypedExpressions.{RvalueTree}
use Rattle.c_tree.specs.TypedStatements.{DeclaredTree, TypedStartTree, StepTree}
use Rattle.c_tree.specs.TypedStatements as typed-tree
use Rattle.c_tree.specs.Programs.{TypedFunctionTree, ProgramTree}
use Rattle.c_type_values.specs.Values.{ValueTree}
use Rattle.c_type_values.specs.Operations as operation
use Rattle.c_type_expressions.specs.Expressions.{is_zero}
use Rattle.c_type_declarations.specs.Scopes.{empty_scope}
use Rattle.c_type_declarations.specs.Progress.{ProgressTree, Met, value_met, breaks, opened, scope_left}
use Rattle.c_type_declarations.specs.Initials.{computed_tree}
use Rattle.c_type_declarations.specs.Declarations.{declaration_met}
use Rattle.c_type_statements.specs.Settings as setting
use Rattle.c_type_statements.specs.Settings.{rule_unless, run_met, checked_condition, condition_met, condition_if_any, start_met, step_met, returnable, returned_value as given, returns, return_met}
use Rattle.c_type_statements.specs.Statements.{in_scope}
use Rattle.c_type_laws.specs.Kinds.{is_of, is_typed, is_scalar}
use Rattle.c_type_laws.specs.Expressions.{kind_of}
use Rattle.c_type_laws.specs.Statements.{is_void, are_declared, is_start, is_step, is_condition, is_returned}
use Rattle.c_type_laws.specs.Declarations.{declared_by, declared_by_start}
use Rattle.c_source.specs.Constants.{HasNumbers}
use Rattle.c_source.specs.Findings.{IsThere, HoldsOf}
use Rattle.c_source.specs.Formed.{HasNumbersIfAny, IsStartFormed}
use Rattle.c_source.specs.Values.{IsTyped}
use Rattle.c_source.specs.Progress.{Stands, Inside, Comes, Ensures, AreScopesKnown}
use Rattle.c_source.specs.Making.{Looks, Makes, MakesIfAny, DeclaresAll}
use Rattle.c_source.proofs.Growing.{no_fault_before}
use Rattle.c_source.proofs.Fitting.{typed_kind, scalar_kind}
use Rattle.c_source.proofs.Values.{converted_typed}
use Rattle.c_source.proofs.Coming.{next_ensures, stands_before, known_push, empty_known, closed_scopes, comes_itself}
use Rattle.c_source.proofs.Numbering.{nothing_numbered, same_numbered}
use Rattle.c_source.proofs.Looking.{looks_itself, looks_on, breaks_looks, breaks_never, value_makes}
use Rattle.c_source.proofs.Declaring.{declaration_declares}

-- a function gives nothing
same_void : (t : ValueType) → setting.is_void t ≡ is_void t
same_void Void = refl
same_void (Integer t) = refl
same_void (Pointer o) = refl

module _ (p : ProgramTree) (f : TypedFunctionTree) (low : ℕ) where
  -- a rule
  pub unless_looks : (fine : Bool) (code : Code) (extent : Extent) (q : ProgressTree) → Looks p f low q (rule_unless fine code extent q)
  unless_looks true code extent q = looks_itself p f low q
  unless_looks false code extent q = breaks_looks p f low code extent q

  pub unless_fine : (fine : Bool) (code : Code) (extent : Extent) (q : ProgressTree) → (rule_unless fine code extent q).found.faults ≡ [] → fine ≡ true
  unless_fine true code extent q h = refl
  unless_fine false code extent q h = breaks_never p f low code extent q h

  -- an expression that is a statement or a part of a `for`
  run_typed : (v : Option ValueTree) → IsThere v → HoldsOf (IsTyped p f) v → is_typed (kind_of p f (computed_tree v)) ≡ true
  run_typed (Some v) there h = typed_kind (kind_of p f v.tree) v.of h.is
  run_typed None there h = absurd there

  pub run_makes : (e : ExpressionTree) (q : ProgressTree) → HasNumbers e → Ensures (Makes p f low (λ (r : RvalueTree). is_typed (kind_of p f r) ≡ true) q) (run_met e q)
  run_makes e q numbers =
      next_ensures (MakesIfAny p f low (IsTyped p f) q) (Makes p f low (λ (r : RvalueTree). is_typed (kind_of p f r) ≡ true) q) (value_met e q) _ (value_makes p f low e q numbers)
      (λ v t made. record { looks = made.looks; holds = λ i s. run_typed v (made.there s.accepts.faults) (made.holds i s) })

  -- a condition
  tested_makes : (extent : Extent) (q : ProgressTree) (v : Option ValueTree) (t : ProgressTree) → MakesIfAny p f low (IsTyped p f) q v t → Ensures (Makes p f low (λ (r : RvalueTree). is_scalar (kind_of p f r) ≡ true) q) (checked_condition extent v t)
  tested_makes extent q (Some v) t made =
      let rule = unless_looks (operation.is_scalar v.of) OPERAND_TYPES extent t in
      record {
        looks = looks_on p f low made.looks rule;
        holds = λ i s. scalar_kind (kind_of p f v.tree) v.of (made.holds i (stands_before rule.comes.advances s)).is (unless_fine (operation.is_scalar v.of) OPERAND_TYPES extent t s.accepts.faults);
      }
  tested_makes extent q None t made = record { looks = made.looks; holds = λ i s. absurd (made.there s.accepts.faults) }

  pub condition_makes : (extent : Extent) (e : ExpressionTree) (q : ProgressTree) → HasNumbers e → Ensures (Makes p f low (λ (r : RvalueTree). is_scalar (kind_of p f r) ≡ true) q) (condition_met extent e q)
  condition_makes extent e q numbers =
      next_ensures (MakesIfAny p f low (IsTyped p f) q) (Makes p f low (λ (r : RvalueTree). is_scalar (kind_of p f r) ≡ true) q) (value_met e q) _ (value_makes p f low e q numbers) (λ v t made. tested_makes extent q v t made)

  pub any_condition_makes : (extent : Extent) (e : Option ExpressionTree) (q : ProgressTree) → HasNumbersIfAny e → Ensures (Makes p f low (λ (r : Option RvalueTree). is_condition p f r ≡ true) q) (condition_if_any extent e q)
  any_condition_makes extent (Some e) q numbers =
      next_ensures (Makes p f low (λ (r : RvalueTree). is_scalar (kind_of p f r) ≡ true) q) (Makes p f low (λ (r : Option RvalueTree). is_condition p f r ≡ true) q) (condition_met extent e q) _ (condition_makes extent e q numbers)
      (λ r t made. record { looks = made.looks; holds = made.holds })
  any_condition_makes extent None q numbers = record { looks = looks_itself p f low q; holds = λ i s. refl }

  -- the third part of a `for`
  pub step_makes : (e : Option ExpressionTree) (q : ProgressTree) → HasNumbersIfAny e → Ensures (Makes p f low (λ (d : Option StepTree). is_step p f d ≡ true) q) (step_met e q)
  step_makes (Some e) q numbers =
      next_ensures (Makes p f low (λ (r : RvalueTree). is_typed (kind_of p f r) ≡ true) q) (Makes p f low (λ (d : Option StepTree). is_step p f d ≡ true) q) (run_met e q) _ (run_makes e q numbers)
      (λ r t made. record { looks = made.looks; holds = made.holds })
  step_makes None q numbers = record { looks = looks_itself p f low q; holds = λ i s. refl }

  -- what a `return` gives
  returnable_of : (of : ValueType) (v : ValueTree) (z : Bool) → IsTyped p f v → HoldsOf (λ (r : ValueTree). not (is_void of) && is_of (kind_of p f r.tree) of ≡ true) (returnable of v z)
  returnable_of Void v z h = tt
  returnable_of (Integer t) v z h = converted_typed p f v (Integer t) z h
  returnable_of (Pointer o) v z h = converted_typed p f v (Pointer o) z h

  module _ (of : ValueType) (result : of ≡ f.result) where
    abbrev Returns : ProgressTree → Option RvalueTree → ProgressTree → Type 0
    Returns q r t = Makes p f low (λ (given : Option RvalueTree). is_returned p f given ≡ true) q r t

    given_makes : (o : Option ValueTree) (extent : Extent) (q t : ProgressTree) → Looks p f low q t → (Inside p f low q → Stands p f t → HoldsOf (λ (r : ValueTree). not (is_void of) && is_of (kind_of p f r.tree) of ≡ true) o)
        → Ensures (Returns q) (given o extent t)
    given_makes (Some v) extent q t l h = record { looks = l; holds = λ i s. subst (λ w. not (is_void w) && is_of (kind_of p f v.tree) w ≡ true) result (h i s) }
    given_makes None extent q t l h = record { looks = looks_on p f low l (breaks_looks p f low RETURN_MISMATCH extent t); holds = λ i s. breaks_never p f low RETURN_MISMATCH extent t s.accepts.faults }

    void_looks : (b : Bool) (extent : Extent) (t : ProgressTree) → Looks p f low t (if b then breaks RETURN_MISMATCH extent t else t)
    void_looks true extent t = breaks_looks p f low RETURN_MISMATCH extent t
    void_looks false extent t = looks_itself p f low t

    returns_makes : (extent : Extent) (z : Bool) (q : ProgressTree) (v : Option ValueTree) (t : ProgressTree) → MakesIfAny p f low (IsTyped p f) q v t → Ensures (Returns q) (returns of extent z v t)
    returns_makes extent z q (Some v) t made = given_makes (returnable of v z) extent q t made.looks (λ i s. returnable_of of v z (made.holds i s))
    returns_makes extent z q None t made =
        let rule = void_looks (setting.is_void of) extent t in
        record { looks = looks_on p f low made.looks rule; holds = λ i s. absurd (made.there (no_fault_before rule.comes.advances.found s.accepts.faults)) }

    pub return_makes : (extent : Extent) (e : Option ExpressionTree) (q : ProgressTree) → HasNumbersIfAny e → Ensures (Makes p f low (λ (given : Option RvalueTree). is_returned p f given ≡ true) q) (return_met of extent e q)
    return_makes extent (Some e) q numbers =
        next_ensures (MakesIfAny p f low (IsTyped p f) q) (Returns q) (value_met e q) _ (value_makes p f low e q numbers) (λ v t made. returns_makes extent (is_zero e) q v t made)
    return_makes extent None q numbers =
        record {
          looks = unless_looks (setting.is_void of) RETURN_MISMATCH extent q;
          holds = λ i s. ap is_void (sym result) ∙ sym (same_void of) ∙ unless_fine (setting.is_void of) RETURN_MISMATCH extent q s.accepts.faults;
        }

  -- a scope of its own
  closed_comes : (q t : ProgressTree) → Comes p f low (opened q) t → Comes p f low q (scope_left t)
  closed_comes q t c =
      let a = c.advances in
      let same = closed_scopes q t a in
      record {
        advances = record { found = a.found; automatics = a.automatics; array_literals = a.array_literals; statics = a.statics; signatures = a.signatures; scopes = λ outer inner e. (inner, same ∙ e); kept = a.kept; ended = a.ended };
        inside = λ i s.
            let open_stands : Stands p f t = record { accepts = s.accepts; automatics = s.automatics; array_literals = s.array_literals; within = s.within } in
            let o = c.inside (record { scopes = known_push p f q.names.scopes empty_scope i.scopes (empty_known p f); functions = i.functions; begun = i.begun }) open_stands in
            record { scopes = subst (AreScopesKnown p f) (sym same) i.scopes; functions = o.functions; begun = o.begun };
      }

  pub scoped : {A : Type 0} (V : A → List ℕ → List ℕ) (P : A → Type 0) (m : ProgressTree → Met A) (q : ProgressTree) → Ensures (DeclaresAll p f low V P (opened q)) (m (opened q)) → Ensures (DeclaresAll p f low V P q) (in_scope m q)
  scoped V P m q h =
      next_ensures (DeclaresAll p f low V P (opened q)) (DeclaresAll p f low V P q) (m (opened q)) _ h
      (λ a t made.
      record {
        comes = closed_comes q t made.comes;
        numbers = record { more = made.numbers.more; adds = made.numbers.adds; numbered = made.numbers.numbered; count = made.numbers.count };
        holds = λ i s.
            made.holds (record { scopes = known_push p f q.names.scopes empty_scope i.scopes (empty_known p f); functions = i.functions; begun = i.begun })
            (record { accepts = s.accepts; automatics = s.automatics; array_literals = s.array_literals; within = s.within });
      })

-- the first part of a `for`
module _ (p : ProgramTree) (f : TypedFunctionTree) where
  abbrev pub Starts : ProgressTree → TypedStartTree → ProgressTree → Type 0
  Starts q a t = DeclaresAll p f (f.first_variable + f.parameters) declared_by_start (λ (s : TypedStartTree). is_start p f s ≡ true) q a t

  pub start_states : (start : StartTree) (q : ProgressTree) → IsStartFormed start → Ensures (Starts q) (start_met start q)
  start_states tree.Nothing q h = record { comes = comes_itself p f (f.first_variable + f.parameters) q; numbers = nothing_numbered q q (declared_by_start typed-tree.Nothing) refl (λ vs. refl); holds = λ i s. refl }
  start_states (tree.Value e) q h =
      next_ensures (Makes p f (f.first_variable + f.parameters) (λ (r : RvalueTree). is_typed (kind_of p f r) ≡ true) q) (Starts q) (run_met e q) _ (run_makes p f (f.first_variable + f.parameters) e q h)
      (λ r t made. record { comes = made.looks.comes; numbers = nothing_numbered q t (declared_by_start (typed-tree.Value (first_spot e) r)) made.looks.same (λ vs. refl); holds = made.holds })
  start_states (tree.Declares d) q h =
      next_ensures (DeclaresAll p f (f.first_variable + f.parameters) declared_by (λ (all : List DeclaredTree). are_declared p f all ≡ true) q) (Starts q) (declaration_met d q) _ (declaration_declares p f d q h)
      (λ all t made. record { comes = made.comes; numbers = same_numbered (declared_by all) (declared_by_start (typed-tree.Declares all)) (λ vs. refl) made.numbers; holds = made.holds })
