-- Labels of a `switch` have numbers of the type that it tests.
use Rattle.std.proofs.Common.{◌≡◌, ℕ, ℤ, List, [], ◌∷◌, ◌++◌, Bool, true, not, Option, Some, None, refl, ap, ◌∙◌}
use Rattle.std.specs.Prelude.{if◌then◌else◌}
use Rattle.debug_records.specs.declared.code.TheConstants.Code.{MISPLACED_JUMP, OPERAND_TYPES, REPEATED_LABEL}
use Rattle.c_tree.specs.declared.extent.Extent.{Extent}
use Rattle.c_tree.specs.declared.types.IntegerType.{IntegerType}
use Rattle.c_tree.specs.declared.object_type.ValueType.{ValueType}
use Rattle.c_tree.specs.declared.object_type.ValueType.TheVariants.{Void, Integer, Pointer}
use Rattle.c_tree.specs.Expressions.{ExpressionTree}
use Rattle.c_tree.specs.Statements.{LabelTree, CaseLabel, DefaultLabel}
use Rattle.c_tree.specs.TypedStatements.{TypedStatementTree, TypedStatementTrees}
use Rattle.c_tree.specs.Programs.{TypedFunctionTree, ProgramTree}
use Rattle.c_type_rules.specs.declared.constancy.Constancy.{Constancy}
use Rattle.c_type_rules.specs.declared.constancy.Constancy.TheVariants.{Known}
use Rattle.c_type_rules.specs.Integers.{promoted}
use Rattle.c_type_values.specs.Values.{ValueTree, to_integer}
use Rattle.c_type_declarations.specs.Progress.{ProgressTree, value_met, breaks}
use Rattle.c_type_statements.specs.Switches.{Chosen, chosen_by, controlling_value, chosen_met, Labels, is_among_numbers, in_kind, case_value, PartTree, Case, Default, Statement, put_all, Parts, case_numbered, case_by, misplaced_one, StatementPlace, Outside, behind_label, label_at}
use Rattle.c_type_statements.specs.Switches as switch
use Rattle.c_type_laws.specs.Kind.{Kind, Of}
use Rattle.c_type_laws.specs.Expressions.{kind_of}
use Rattle.c_type_laws.specs.Statements.{tested_type, is_label, is_switch, may_stand, is_statement, are_statements}
use Rattle.c_type_laws.specs.Declarations.{declared_in, declared_in_all}
use Rattle.c_source.specs.Constants.{HasNumbers}
use Rattle.c_source.specs.Findings.{HoldsOf}
use Rattle.c_source.specs.Values.{IsTyped}
use Rattle.c_source.specs.Progress.{Stands, Inside, Ensures}
use Rattle.c_source.specs.Making.{Looks, Makes, MakesIfAny}
use Rattle.c_source.specs.Stating.{is_kind, are_labels, labels_fit, FitAt}
use Rattle.c_source.proofs.Same.{two_true, both, all_three}
use Rattle.c_source.proofs.Fitting.{promoted_once}
use Rattle.c_source.proofs.Values.{to_integer_kind}
use Rattle.c_source.proofs.Wrapping.{wrapped_holds}
use Rattle.c_source.proofs.Coming.{next_ensures}
use Rattle.c_source.proofs.Looking.{looks_itself, looks_on, breaks_looks, breaks_never, value_makes, value_looks}
use Rattle.c_source.proofs.Conditions.{unless_looks}

kind_label : (kind : Option IntegerType) (z : ℤ) → is_kind kind ≡ true → is_label kind (in_kind kind z) ≡ true
kind_label None z h = cc
kind_label (Some t) z h = wrapped_holds t z

pub kind_switch : (kind : Option IntegerType) → is_kind kind ≡ true → is_switch kind ≡ true
kind_switch None h = cc
kind_switch (Some t) h = refl

case_fits : (kind : Option IntegerType) (t : ValueType) (k : Constancy) → is_kind kind ≡ true → HoldsOf (λ (z : ℤ). is_label kind z ≡ true) (case_value kind t k)
case_fits kind (Integer t) (Known z) h = kind_label kind z h
case_fits kind _ _ h = tt

-- labels behind labels
pub labels_on : (ps qs : List PartTree) → are_labels ps ≡ true → are_labels qs ≡ true → are_labels (ps ++ qs) ≡ true
labels_on [] qs h g = g
labels_on (Case z ∷ ps) qs h g = labels_on ps qs h g
labels_on (Default ∷ ps) qs h g = labels_on ps qs h g
labels_on (Statement s ∷ ps) qs h g = cc

fit_on : (kind : Option IntegerType) (ps qs : List PartTree) → labels_fit kind ps ≡ true → labels_fit kind qs ≡ true → labels_fit kind (ps ++ qs) ≡ true
fit_on kind [] qs h g = g
fit_on kind (Case z ∷ ps) qs h g = let c = two_true (is_label kind z) (labels_fit kind ps) h in both (is_label kind z) (labels_fit kind (ps ++ qs)) c.0 (fit_on kind ps qs c.1 g)
fit_on kind (Default ∷ ps) qs h g = let c = two_true (is_switch kind) (labels_fit kind ps) h in both (is_switch kind) (labels_fit kind (ps ++ qs)) c.0 (fit_on kind ps qs c.1 g)
fit_on kind (Statement s ∷ ps) qs h g = cc

-- at a place, behind a label
pub fit_behind : (place : StatementPlace) (ls : Labels) (ps qs : List PartTree) → FitAt place ps → FitAt (behind_label place ls) qs → FitAt place (ps ++ qs)
fit_behind Outside ls ps qs h g = tt
fit_behind (switch.Inside kind old) ls ps qs h g = λ k. fit_on kind ps qs (h k) (g k)

-- a statement with its labels, before others
pub put_declared : (ps : List PartTree) (s : TypedStatementTree) (ts : TypedStatementTrees) (vs : List ℕ) → are_labels ps ≡ true → declared_in_all (put_all (ps ++ Statement s ∷ []) ts) vs ≡ declared_in_all ts (declared_in s vs)
put_declared [] s ts vs h = refl
put_declared (Case z ∷ ps) s ts vs h = put_declared ps s ts vs h
put_declared (Default ∷ ps) s ts vs h = put_declared ps s ts vs h
put_declared (Statement r ∷ ps) s ts vs h = cc

module _ (p : ProgramTree) (f : TypedFunctionTree) (b c : Bool) where
  pub put_typed : (kind : Option IntegerType) (ps : List PartTree) (s : TypedStatementTree) (ts : TypedStatementTrees) → labels_fit kind ps ≡ true → may_stand kind s ≡ true → is_statement p f b c s ≡ true → are_statements p f b c kind ts ≡ true
      → are_statements p f b c kind (put_all (ps ++ Statement s ∷ []) ts) ≡ true
  put_typed kind [] s ts h m i r = all_three (may_stand kind s) (is_statement p f b c s) (are_statements p f b c kind ts) m i r
  put_typed kind (Case z ∷ ps) s ts h m i r =
      let d = two_true (is_label kind z) (labels_fit kind ps) h in
      both (is_label kind z) (are_statements p f b c kind (put_all (ps ++ Statement s ∷ []) ts)) d.0 (put_typed kind ps s ts d.1 m i r)
  put_typed kind (Default ∷ ps) s ts h m i r =
      let d = two_true (is_switch kind) (labels_fit kind ps) h in
      both (is_switch kind) (are_statements p f b c kind (put_all (ps ++ Statement s ∷ []) ts)) d.0 (put_typed kind ps s ts d.1 m i r)
  put_typed kind (Statement r ∷ ps) s ts h m i k = cc

module _ (p : ProgramTree) (f : TypedFunctionTree) (low : ℕ) where
  -- what a `switch` tests
  pub record IsChosen (ch : Chosen) : Type 0 where
    pub kind : is_kind ch.kind ≡ true
    pub tested : tested_type (kind_of p f ch.tree) ≡ ch.kind

  tested_promoted : (k : Kind) (t : IntegerType) → k ≡ Of (Integer (promoted t)) → tested_type k ≡ Some (promoted t)
  tested_promoted k t e = ap tested_type e ∙ ap (λ b. if b then Some (promoted t) else None) (promoted_once t)

  chosen_by_makes : (u : ValueType) (extent : Extent) (q : ProgressTree) (v : ValueTree) (t : ProgressTree) → v.of ≡ u → Looks p f low q t → (Inside p f low q → Stands p f t → IsTyped p f v) → Ensures (Makes p f low IsChosen q) (chosen_by u extent v t)
  chosen_by_makes (Integer u) extent q v t e l h =
      record { looks = l; holds = λ i s. record { kind = promoted_once u; tested = tested_promoted (kind_of p f (to_integer (promoted u) v).tree) u (to_integer_kind p f (promoted u) u v (h i s) e) } }
  chosen_by_makes Void extent q v t e l h = record { looks = looks_on p f low l (breaks_looks p f low OPERAND_TYPES extent t); holds = λ i s. breaks_never p f low OPERAND_TYPES extent t s.accepts.faults }
  chosen_by_makes (Pointer o) extent q v t e l h = record { looks = looks_on p f low l (breaks_looks p f low OPERAND_TYPES extent t); holds = λ i s. breaks_never p f low OPERAND_TYPES extent t s.accepts.faults }

  any_chosen_makes : (extent : Extent) (q : ProgressTree) (v : Option ValueTree) (t : ProgressTree) → MakesIfAny p f low (IsTyped p f) q v t → Ensures (Makes p f low IsChosen q) (controlling_value extent v t)
  any_chosen_makes extent q (Some v) t made = chosen_by_makes v.of extent q v t refl made.looks made.holds
  any_chosen_makes extent q None t made = record { looks = made.looks; holds = λ i s. absurd (made.there s.accepts.faults) }

  pub chosen_makes : (extent : Extent) (e : ExpressionTree) (q : ProgressTree) → HasNumbers e → Ensures (Makes p f low IsChosen q) (chosen_met extent e q)
  chosen_makes extent e q numbers = next_ensures (MakesIfAny p f low (IsTyped p f) q) (Makes p f low IsChosen q) (value_met e q) _ (value_makes p f low e q numbers) (λ v t made. any_chosen_makes extent q v t made)

  -- labels at a place
  pub record MakesLabels (place : StatementPlace) (q : ProgressTree) (l : Parts) (t : ProgressTree) : Type 0 where
    pub looks : Looks p f low q t
    pub labels : are_labels l.parts ≡ true
    pub fit : FitAt place l.parts

  case_numbered_makes : (kind : Option IntegerType) (o : Option ℤ) (extent : Extent) (ls old : Labels) (q t : ProgressTree) → Looks p f low q t → (is_kind kind ≡ true → HoldsOf (λ (z : ℤ). is_label kind z ≡ true) o)
      → Ensures (MakesLabels (switch.Inside kind old) q) (case_numbered o extent ls t)
  case_numbered_makes kind (Some z) extent ls old q t l h =
      record { looks = looks_on p f low l (unless_looks p f low (not (is_among_numbers z ls.values)) REPEATED_LABEL extent t); labels = refl; fit = λ k. both (is_label kind z) true (h k) refl }
  case_numbered_makes kind None extent ls old q t l h = record { looks = looks_on p f low l (breaks_looks p f low MISPLACED_JUMP extent t); labels = refl; fit = λ k. refl }

  case_by_makes : (kind : Option IntegerType) (extent : Extent) (ls old : Labels) (q : ProgressTree) (v : Option ValueTree) (t : ProgressTree) → Looks p f low q t → Ensures (MakesLabels (switch.Inside kind old) q) (case_by kind extent ls v t)
  case_by_makes kind extent ls old q (Some v) t l = case_numbered_makes kind (case_value kind v.of v.constant) extent ls old q t l (λ k. case_fits kind v.of v.constant k)
  case_by_makes kind extent ls old q None t l = record { looks = l; labels = refl; fit = λ k. refl }

  -- the expression of a label
  abbrev pub HasLabelNumbers : LabelTree → Type 0
  HasLabelNumbers (CaseLabel extent e) = HasNumbers e
  HasLabelNumbers (DefaultLabel extent) = Unit {0}

  misplaced_looks : (l : LabelTree) (q : ProgressTree) → HasLabelNumbers l → Looks p f low q (misplaced_one l q)
  misplaced_looks (CaseLabel extent e) q h = looks_on p f low (breaks_looks p f low MISPLACED_JUMP extent q) (value_looks p f low e (breaks MISPLACED_JUMP extent q) _ h (λ v t. looks_itself p f low t))
  misplaced_looks (DefaultLabel extent) q h = breaks_looks p f low MISPLACED_JUMP extent q

  pub label_makes : (place : StatementPlace) (l : LabelTree) (q : ProgressTree) → HasLabelNumbers l → Ensures (MakesLabels place q) (label_at place l q)
  label_makes Outside l q h = record { looks = misplaced_looks l q h; labels = refl; fit = tt }
  label_makes (switch.Inside kind ls) (CaseLabel extent e) q h =
      next_ensures (MakesIfAny p f low (IsTyped p f) q) (MakesLabels (switch.Inside kind ls) q) (value_met e q) _ (value_makes p f low e q h) (λ v t made. case_by_makes kind extent ls ls q v t made.looks)
  label_makes (switch.Inside kind ls) (DefaultLabel extent) q h =
      record { looks = unless_looks p f low (not ls.has_default) REPEATED_LABEL extent q; labels = refl; fit = λ k. both (is_switch kind) true (kind_switch kind k) refl }
