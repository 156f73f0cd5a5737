-- What the statements of an accepted source mean is well typed, and they declare the variables that come next.
use Rattle.std.proofs.Common.{◌≡◌, ℕ, ◌+◌, List, [], ◌∷◌, ◌++◌, Bool, true, false, ◌&&◌, Option, Some, None, refl, ap, ◌∙◌}
use Rattle.debug_records.specs.declared.source.Spot.{Spot}
use Rattle.debug_records.specs.declared.code.TheConstants.Code.{MISPLACED_JUMP}
use Rattle.c_tree.specs.declared.types.IntegerType.{IntegerType}
use Rattle.c_tree.specs.Ends.{first_spot}
use Rattle.c_tree.specs.Statements.{CaseLabel, DefaultLabel, StatementTree, StatementTrees}
use Rattle.c_tree.specs.Statements as tree
use Rattle.c_tree.specs.TypedExpressions.{RvalueTree}
use Rattle.c_tree.specs.TypedStatements.{DeclaredTree, TypedStartTree, StepTree, TypedStatementTree, TypedStatementTrees}
use Rattle.c_tree.specs.TypedStatements as typed-tree
use Rattle.c_tree.specs.Programs.{TypedFunctionTree, ProgramTree}
use Rattle.c_type_declarations.specs.Progress.{ProgressTree, Met, means, next_met, opened}
use Rattle.c_type_declarations.specs.Declarations.{declaration_met}
use Rattle.c_type_statements.specs.declared.setting.Setting.{Setting}
use Rattle.c_type_statements.specs.Settings.{in_loop, in_switch, rule_unless, run_met, condition_met, condition_if_any, start_met, step_met, return_met}
use Rattle.c_type_statements.specs.Switches.{Chosen, chosen_met, Labels, no_labels, StatementPlace, Outside, labels_at, behind_label, label_at, Labeled, Parts, Statement, without_label, bare, put_all}
use Rattle.c_type_statements.specs.Switches as switch
use Rattle.c_type_statements.specs.Statements.{to_end, head_of, in_scope, met, statements_met, block_items_met}
use Rattle.c_type_laws.specs.Kinds.{is_typed, is_scalar}
use Rattle.c_type_laws.specs.Expressions.{kind_of}
use Rattle.c_type_laws.specs.Statements.{is_switch, may_stand, are_declared, is_start, is_step, is_condition, is_returned, is_statement, are_statements}
use Rattle.c_type_laws.specs.Declarations.{declared_by, declared_by_start, declared_in, declared_in_all}
use Rattle.c_source.specs.Formed.{is_no_declaration, declare_nothing, IsFormed, AreFormed}
use Rattle.c_source.specs.Progress.{Stands, Inside, Ensures}
use Rattle.c_source.specs.Making.{Looks, Makes, DeclaresAll}
use Rattle.c_source.specs.Stating.{is_kind, FitAt, IsStated, States, StatesAll, StatesParts, StatesLabeled}
use Rattle.c_source.proofs.Same.{both, all_three, all_four}
use Rattle.c_source.proofs.Coming.{next_ensures, stands_before, comes_itself, comes_on}
use Rattle.c_source.proofs.Numbering.{nothing_numbered, both_numbered, same_numbered, numbered_from, numbered_to}
use Rattle.c_source.proofs.Looking.{looks_itself, looks_on}
use Rattle.c_source.proofs.Conditions.{unless_looks, unless_fine, run_makes, condition_makes, any_condition_makes, step_makes, return_makes, scoped, Starts, start_states}
use Rattle.c_source.proofs.Declaring.{declaration_declares}
use Rattle.c_source.proofs.Labelling.{kind_switch, labels_on, fit_behind, put_declared, put_typed, IsChosen, chosen_makes, MakesLabels, label_makes}

nothing_fits : (place : StatementPlace) → FitAt place []
nothing_fits Outside = tt
nothing_fits (switch.Inside kind ls) = λ k. refl

module _ (p : ProgramTree) (f : TypedFunctionTree) where
  abbrev low : ℕ
  low = f.first_variable + f.parameters

  -- a statement without a label, and without what is before it
  unlabeled_states : (place : StatementPlace) (g : Setting) (plain : Bool) (q : ProgressTree) (m : Met TypedStatementTree) → Ensures (States p f g plain q) m → Ensures (StatesLabeled p f place g plain q) (without_label (labels_at place) m)
  unfolding without_label
  unlabeled_states place g plain q m h = next_ensures (States p f g plain q) (StatesLabeled p f place g plain q) m _ h (λ s t states. record { states = states; labels = refl; fit = nothing_fits place })

  bare_states : (g : Setting) (plain : Bool) (q : ProgressTree) (m : Met Labeled) → Ensures (StatesLabeled p f Outside g plain q) m → Ensures (States p f g plain q) (bare m)
  unfolding bare
  bare_states g plain q m h = next_ensures (StatesLabeled p f Outside g plain q) (States p f g plain q) m _ h (λ x t states. states.states)

  -- a statement without parts that declare
  simple : (g : Setting) (q : ProgressTree) (s : TypedStatementTree) (t : ProgressTree) → Looks p f low q t → ((vs : List ℕ) → declared_in s vs ≡ vs) → (Inside p f low q → Stands p f t → is_statement p f g.may_break g.may_continue s ≡ true)
      → ((tested : IntegerType) → may_stand (Some tested) s ≡ true) → States p f g true q s t
  simple g q s t l none is stands = record { comes = l.comes; numbers = nothing_numbered q t (declared_in s) l.same none; holds = λ i e. record { is = is i e; stands = λ h. stands } }

  -- a statement behind a value
  behind_value : (P : Type 0) (g inner : Setting) (plain : Bool) (q t u : ProgressTree) (a whole : TypedStatementTree) → Looks p f low q t → (Inside p f low q → Stands p f t → P) → States p f inner plain t a u → ((vs : List ℕ) → declared_in whole vs ≡ declared_in a vs)
      → (P → is_statement p f inner.may_break inner.may_continue a ≡ true → is_statement p f g.may_break g.may_continue whole ≡ true) → ((tested : IntegerType) → may_stand (Some tested) whole ≡ true) → States p f g true q whole u
  behind_value P g inner plain q t u a whole l has states same is stands =
      record {
        comes = comes_on p f l.comes states.comes;
        numbers = same_numbered (declared_in a) (declared_in whole) same (numbered_from (declared_in a) l.same states.numbers);
        holds = λ i e.
            let before = stands_before states.comes.advances e in
            record { is = is (has i before) (states.holds (l.comes.inside i before) e).is; stands = λ h. stands };
      }

  -- two statements behind a value
  both_behind_value : (g : Setting) (plain other : Bool) (q t u v : ProgressTree) (r : RvalueTree) (a b : TypedStatementTree) (spot : Spot) → Makes p f low (λ (e : RvalueTree). is_scalar (kind_of p f e) ≡ true) q r t → States p f g plain t a u → States p f g other u b v
      → States p f g true q (typed-tree.IfElse spot r a b) v
  both_behind_value g plain other q t u v r a b spot made one rest =
      record {
        comes = comes_on p f made.looks.comes (comes_on p f one.comes rest.comes);
        numbers = numbered_from (declared_in (typed-tree.IfElse spot r a b)) made.looks.same (both_numbered (declared_in a) (declared_in b) (declared_in (typed-tree.IfElse spot r a b)) (λ vs. refl) one.numbers rest.numbers);
        holds = λ i e.
            let last = stands_before rest.comes.advances e in
            let first = stands_before one.comes.advances last in
            let inside = made.looks.comes.inside i first in
            record {
              is = all_three (is_scalar (kind_of p f r)) (is_statement p f g.may_break g.may_continue a) (is_statement p f g.may_break g.may_continue b) (made.holds i first) (one.holds inside last).is (rest.holds (one.comes.inside inside last) e).is;
              stands = λ h tested. refl;
            };
      }

  -- a loop that tests behind its body
  before_value : (g : Setting) (plain : Bool) (q t u : ProgressTree) (a : TypedStatementTree) (r : RvalueTree) (spot : Spot) → States p f (in_loop g) plain q a t → Makes p f low (λ (e : RvalueTree). is_scalar (kind_of p f e) ≡ true) t r u → States p f g true q (typed-tree.DoWhile a spot r) u
  before_value g plain q t u a r spot states made =
      record {
        comes = comes_on p f states.comes made.looks.comes;
        numbers = numbered_to (declared_in (typed-tree.DoWhile a spot r)) (same_numbered (declared_in a) (declared_in (typed-tree.DoWhile a spot r)) (λ vs. refl) states.numbers) made.looks.same;
        holds = λ i e.
            let before = stands_before made.looks.comes.advances e in
            record { is = both (is_scalar (kind_of p f r)) (is_statement p f true true a) (made.holds (states.comes.inside i before) e) (states.holds i before).is; stands = λ h tested. refl };
      }

  -- a `for` within its scope
  for_states : (g : Setting) (plain : Bool) (o q u v w : ProgressTree) (a : TypedStartTree) (b : Option RvalueTree) (d : Option StepTree) (s : TypedStatementTree) (spot : Spot) → Starts p f o a q → Makes p f low (λ (r : Option RvalueTree). is_condition p f r ≡ true) q b u
      → Makes p f low (λ (r : Option StepTree). is_step p f r ≡ true) u d v → States p f (in_loop g) plain v s w → States p f g true o (typed-tree.For a spot b d s) w
  for_states g plain o q u v w a b d s spot start condition step body =
      let looks = looks_on p f low condition.looks step.looks in
      record {
        comes = comes_on p f start.comes (comes_on p f looks.comes body.comes);
        numbers = both_numbered (declared_by_start a) (declared_in s) (declared_in (typed-tree.For a spot b d s)) (λ vs. refl) start.numbers (numbered_from (declared_in s) looks.same body.numbers);
        holds = λ i e.
            let at_body = stands_before body.comes.advances e in
            let at_step = stands_before step.looks.comes.advances at_body in
            let at_start = stands_before condition.looks.comes.advances at_step in
            let in_start = start.comes.inside i at_start in
            let in_step = condition.looks.comes.inside in_start at_step in
            record {
              is = all_four (is_start p f a) (is_condition p f b) (is_step p f d) (is_statement p f true true s) (start.holds i at_start) (condition.holds in_start at_step) (step.holds in_step at_body) (body.holds (step.looks.comes.inside in_step at_body) e).is;
              stands = λ h tested. refl;
            };
      }

  -- a `switch`
  switch_states : (g : Setting) (q t u : ProgressTree) (ch : Chosen) (ts : TypedStatementTrees) (spot : Spot) → Makes p f low (IsChosen p f low) q ch t → StatesParts p f (in_switch g) ch.kind t ts u → States p f g true q (typed-tree.Switch spot ch.tree ts) u
  switch_states g q t u ch ts spot made parts =
      record {
        comes = comes_on p f made.looks.comes parts.comes;
        numbers = same_numbered (declared_in_all ts) (declared_in (typed-tree.Switch spot ch.tree ts)) (λ vs. refl) (numbered_from (declared_in_all ts) made.looks.same parts.numbers);
        holds = λ i e.
            let before = stands_before parts.comes.advances e in
            let c = made.holds i before in
            let all = parts.holds (made.looks.comes.inside i before) e c.kind in
            record {
              is = ap (λ k. is_switch k && are_statements p f true g.may_continue k ts) c.tested ∙ both (is_switch ch.kind) (are_statements p f true g.may_continue ch.kind ts) (kind_switch ch.kind c.kind) all;
              stands = λ h tested. refl;
            };
      }

  -- a label before a statement
  labeled_states : (place : StatementPlace) (g : Setting) (plain : Bool) (q t : ProgressTree) (l : Parts) (x : Labeled) (u : ProgressTree) → plain ≡ true → MakesLabels p f low place q l t → StatesLabeled p f (behind_label place l.labels) g plain t x u
      → StatesLabeled p f place g true q (record { before = l.parts ++ x.before; statement = x.statement; labels = x.labels }) u
  labeled_states place g plain q t l x u fine made states =
      record {
        states = record {
          comes = comes_on p f made.looks.comes states.states.comes;
          numbers = numbered_from (declared_in x.statement) made.looks.same states.states.numbers;
          holds = λ i e.
              let before = stands_before states.states.comes.advances e in
              let one = states.states.holds (made.looks.comes.inside i before) e in
              record { is = one.is; stands = λ h. one.stands fine };
        };
        labels = labels_on l.parts x.before made.labels states.labels;
        fit = fit_behind place l.labels l.parts x.before made.fit states.fit;
      }

  -- a statement before others of a block
  first_states : (g : Setting) (plain : Bool) (q t u : ProgressTree) (s : TypedStatementTree) (ts : TypedStatementTrees) → States p f g plain q s t → StatesAll p f g t ts u → StatesAll p f g q (typed-tree.first s ts) u
  first_states g plain q t u s ts one rest =
      record {
        comes = comes_on p f one.comes rest.comes;
        numbers = both_numbered (declared_in s) (declared_in_all ts) (declared_in_all (typed-tree.first s ts)) (λ vs. refl) one.numbers rest.numbers;
        holds = λ i e.
            let before = stands_before rest.comes.advances e in
            both (is_statement p f g.may_break g.may_continue s) (are_statements p f g.may_break g.may_continue None ts) (one.holds i before).is (rest.holds (one.comes.inside i before) e);
      }

  -- a statement with its labels, before others of the block of a `switch`
  stand_in : (kind : Option IntegerType) (s : TypedStatementTree) → is_kind kind ≡ true → ((tested : IntegerType) → may_stand (Some tested) s ≡ true) → may_stand kind s ≡ true
  stand_in None s k h = cc
  stand_in (Some t) s k h = h t

  part_states : (g : Setting) (kind : Option IntegerType) (ls : Labels) (plain : Bool) (q t u : ProgressTree) (x : Labeled) (ts : TypedStatementTrees) → plain ≡ true → StatesLabeled p f (switch.Inside kind ls) g plain q x t → StatesParts p f g kind t ts u
      → StatesParts p f g kind q (put_all (x.before ++ Statement x.statement ∷ []) ts) u
  part_states g kind ls plain q t u x ts fine one rest =
      record {
        comes = comes_on p f one.states.comes rest.comes;
        numbers = both_numbered (declared_in x.statement) (declared_in_all ts) (declared_in_all (put_all (x.before ++ Statement x.statement ∷ []) ts)) (λ vs. put_declared x.before x.statement ts vs one.labels) one.states.numbers rest.numbers;
        holds = λ i e k.
            let before = stands_before rest.comes.advances e in
            let here = one.states.holds i before in
            put_typed p f g.may_break g.may_continue kind x.before x.statement ts (one.fit k) (stand_in kind x.statement k (here.stands fine)) here.is (rest.holds (one.states.comes.inside i before) e k);
      }

  mutual
    -- a statement where it stands, with its labels
    pub met_states : (place : StatementPlace) (g : Setting) (s : StatementTree) (q : ProgressTree) → IsFormed s → g.result ≡ f.result → Ensures (StatesLabeled p f place g (is_no_declaration s) q) (met place g s q)
    met_states place g (tree.Compound opening all closing) q h r =
        unlabeled_states place g true q _
        (next_ensures (StatesAll p f g q) (States p f g true q) (in_scope (statements_met g all) q) _
        (scoped p f low declared_in_all (λ (them : TypedStatementTrees). are_statements p f g.may_break g.may_continue None them ≡ true) (statements_met g all) q (all_states g all (opened q) h r))
        (λ ts t all_made.
        record {
          comes = all_made.comes;
          numbers = same_numbered (declared_in_all ts) (declared_in (typed-tree.Block ts)) (λ vs. refl) all_made.numbers;
          holds = λ i e. record { is = all_made.holds i e; stands = λ k tested. refl };
        }))
    met_states place g (tree.Declare d) q h r =
        unlabeled_states place g false q _
        (next_ensures (DeclaresAll p f low declared_by (λ (all : List DeclaredTree). are_declared p f all ≡ true) q) (States p f g false q) (declaration_met d q) _ (declaration_declares p f d q h)
        (λ all t made.
        record {
          comes = made.comes;
          numbers = same_numbered (declared_by all) (declared_in (typed-tree.Declaration all)) (λ vs. refl) made.numbers;
          holds = λ i e. record { is = made.holds i e; stands = λ k. cc };
        }))
    met_states place g (tree.Empty spot) q h r = unlabeled_states place g true q _ (simple g q (typed-tree.Empty spot) q (looks_itself p f low q) (λ vs. refl) (λ i e. refl) (λ tested. refl))
    met_states place g (tree.Run e last) q h r =
        unlabeled_states place g true q _
        (next_ensures (Makes p f low (λ (v : RvalueTree). is_typed (kind_of p f v) ≡ true) q) (States p f g true q) (run_met e q) _ (run_makes p f low e q h)
        (λ v t made. simple g q (typed-tree.Run (first_spot e) v) t made.looks (λ vs. refl) made.holds (λ tested. refl)))
    met_states place g (tree.If spot c s) q h r =
        unlabeled_states place g true q _
        (next_ensures (Makes p f low (λ (v : RvalueTree). is_scalar (kind_of p f v) ≡ true) q) (States p f g true q) (condition_met (to_end spot s) c q) _ (condition_makes p f low (to_end spot s) c q h.0)
        (λ v t made.
        next_ensures (States p f g (is_no_declaration s) t) (States p f g true q) (bare (met Outside g s t)) _ (bare_states g (is_no_declaration s) t (met Outside g s t) (met_states Outside g s t h.1 r))
        (λ a u body.
        behind_value (is_scalar (kind_of p f v) ≡ true) g g (is_no_declaration s) q t u a (typed-tree.If (first_spot c) v a) made.looks made.holds body (λ vs. refl)
        (λ k m. both (is_scalar (kind_of p f v)) (is_statement p f g.may_break g.may_continue a) k m) (λ tested. refl))))
    met_states place g (tree.IfElse spot c s o) q h r =
        unlabeled_states place g true q _
        (next_ensures (Makes p f low (λ (v : RvalueTree). is_scalar (kind_of p f v) ≡ true) q) (States p f g true q) (condition_met (to_end spot o) c q) _ (condition_makes p f low (to_end spot o) c q h.0)
        (λ v t made.
        next_ensures (States p f g (is_no_declaration s) t) (States p f g true q) (bare (met Outside g s t)) _ (bare_states g (is_no_declaration s) t (met Outside g s t) (met_states Outside g s t h.1 r))
        (λ a u one.
        next_ensures (States p f g (is_no_declaration o) u) (States p f g true q) (bare (met Outside g o u)) _ (bare_states g (is_no_declaration o) u (met Outside g o u) (met_states Outside g o u h.2 r))
        (λ b w rest. both_behind_value g (is_no_declaration s) (is_no_declaration o) q t u w v a b (first_spot c) made one rest))))
    met_states place g (tree.While spot c s) q h r =
        unlabeled_states place g true q _
        (next_ensures (Makes p f low (λ (v : RvalueTree). is_scalar (kind_of p f v) ≡ true) q) (States p f g true q) (condition_met (to_end spot s) c q) _ (condition_makes p f low (to_end spot s) c q h.0)
        (λ v t made.
        next_ensures (States p f (in_loop g) (is_no_declaration s) t) (States p f g true q) (bare (met Outside (in_loop g) s t)) _ (bare_states (in_loop g) (is_no_declaration s) t (met Outside (in_loop g) s t) (met_states Outside (in_loop g) s t h.1 r))
        (λ a u body.
        behind_value (is_scalar (kind_of p f v) ≡ true) g (in_loop g) (is_no_declaration s) q t u a (typed-tree.While (first_spot c) v a) made.looks made.holds body (λ vs. refl)
        (λ k m. both (is_scalar (kind_of p f v)) (is_statement p f true true a) k m) (λ tested. refl))))
    met_states place g (tree.DoWhile extent s c) q h r =
        unlabeled_states place g true q _
        (next_ensures (States p f (in_loop g) (is_no_declaration s) q) (States p f g true q) (bare (met Outside (in_loop g) s q)) _ (bare_states (in_loop g) (is_no_declaration s) q (met Outside (in_loop g) s q) (met_states Outside (in_loop g) s q h.0 r))
        (λ a t body.
        next_ensures (Makes p f low (λ (v : RvalueTree). is_scalar (kind_of p f v) ≡ true) t) (States p f g true q) (condition_met extent c t) _ (condition_makes p f low extent c t h.1)
        (λ v u made. before_value g (is_no_declaration s) q t u a v (first_spot c) body made)))
    met_states place g (tree.For spot start c step s) q h r =
        unlabeled_states place g true q _
        (scoped p f low declared_in (IsStated p f g true)
        (λ o. next_met (start_met start o) (λ a t. next_met (condition_if_any (to_end spot s) c t) (λ b u. next_met (step_met step u) (λ d v. next_met (bare (met Outside (in_loop g) s v)) (λ m. means (typed-tree.For a (head_of spot c) b d m)))))) q
        (next_ensures (Starts p f (opened q)) (States p f g true (opened q)) (start_met start (opened q)) _ (start_states p f start (opened q) h.0)
        (λ a t one.
        next_ensures (Makes p f low (λ (v : Option RvalueTree). is_condition p f v ≡ true) t) (States p f g true (opened q)) (condition_if_any (to_end spot s) c t) _ (any_condition_makes p f low (to_end spot s) c t h.1)
        (λ b u two.
        next_ensures (Makes p f low (λ (v : Option StepTree). is_step p f v ≡ true) u) (States p f g true (opened q)) (step_met step u) _ (step_makes p f low step u h.2)
        (λ d v three.
        next_ensures (States p f (in_loop g) (is_no_declaration s) v) (States p f g true (opened q)) (bare (met Outside (in_loop g) s v)) _ (bare_states (in_loop g) (is_no_declaration s) v (met Outside (in_loop g) s v) (met_states Outside (in_loop g) s v h.3 r))
        (λ m w four. for_states g (is_no_declaration s) (opened q) t u v w a b d m (head_of spot c) one two three four))))))
    met_states place g (tree.Switch spot e opening all closing) q h r =
        unlabeled_states place g true q _
        (next_ensures (Makes p f low (IsChosen p f low) q) (States p f g true q) (chosen_met (record { first = spot; last = closing.at }) e q) _ (chosen_makes p f low (record { first = spot; last = closing.at }) e q h.0)
        (λ ch t made.
        next_ensures (StatesParts p f (in_switch g) ch.kind t) (States p f g true q) (in_scope (block_items_met (in_switch g) ch.kind all no_labels) t) _
        (scoped p f low declared_in_all (λ (them : TypedStatementTrees). is_kind ch.kind ≡ true → are_statements p f true g.may_continue ch.kind them ≡ true) (block_items_met (in_switch g) ch.kind all no_labels) t (parts_state (in_switch g) ch.kind all no_labels (opened t) h.1 h.2 r))
        (λ ts u parts. switch_states g q t u ch ts (first_spot e) made parts)))
    met_states place g (tree.Case extent e s) q h r =
        next_ensures (MakesLabels p f low place q) (StatesLabeled p f place g true q) (label_at place (CaseLabel extent e) q) _ (label_makes p f low place (CaseLabel extent e) q h.0)
        (λ l t made.
        next_ensures (StatesLabeled p f (behind_label place l.labels) g (is_no_declaration s) t) (StatesLabeled p f place g true q) (met (behind_label place l.labels) g s t) _ (met_states (behind_label place l.labels) g s t h.1 r)
        (λ x u states. labeled_states place g (is_no_declaration s) q t l x u h.2 made states))
    met_states place g (tree.Default extent s) q h r =
        next_ensures (MakesLabels p f low place q) (StatesLabeled p f place g true q) (label_at place (DefaultLabel extent) q) _ (label_makes p f low place (DefaultLabel extent) q tt)
        (λ l t made.
        next_ensures (StatesLabeled p f (behind_label place l.labels) g (is_no_declaration s) t) (StatesLabeled p f place g true q) (met (behind_label place l.labels) g s t) _ (met_states (behind_label place l.labels) g s t h.0 r)
        (λ x u states. labeled_states place g (is_no_declaration s) q t l x u h.1 made states))
    met_states place g (tree.Break extent) q h r =
        unlabeled_states place g true q _
        (simple g q (typed-tree.Break extent.first) (rule_unless g.may_break MISPLACED_JUMP extent q) (unless_looks p f low g.may_break MISPLACED_JUMP extent q) (λ vs. refl) (λ i e. unless_fine p f low g.may_break MISPLACED_JUMP extent q e.accepts.faults) (λ tested. refl))
    met_states place g (tree.Continue extent) q h r =
        unlabeled_states place g true q _
        (simple g q (typed-tree.Continue extent.first) (rule_unless g.may_continue MISPLACED_JUMP extent q) (unless_looks p f low g.may_continue MISPLACED_JUMP extent q) (λ vs. refl) (λ i e. unless_fine p f low g.may_continue MISPLACED_JUMP extent q e.accepts.faults) (λ tested. refl))
    met_states place g (tree.Return extent e) q h r =
        unlabeled_states place g true q _
        (next_ensures (Makes p f low (λ (v : Option RvalueTree). is_returned p f v ≡ true) q) (States p f g true q) (return_met g.result extent e q) _ (return_makes p f low g.result r extent e q h)
        (λ v t made. simple g q (typed-tree.Return extent.first v) t made.looks (λ vs. refl) made.holds (λ tested. refl)))

    -- statements one behind the other
    pub all_states : (g : Setting) (all : StatementTrees) (q : ProgressTree) → AreFormed all → g.result ≡ f.result → Ensures (StatesAll p f g q) (statements_met g all q)
    all_states g tree.none q h r = record { comes = comes_itself p f low q; numbers = nothing_numbered q q (declared_in_all typed-tree.none) refl (λ vs. refl); holds = λ i e. refl }
    all_states g (tree.first s rest) q h r =
        next_ensures (States p f g (is_no_declaration s) q) (StatesAll p f g q) (bare (met Outside g s q)) _ (bare_states g (is_no_declaration s) q (met Outside g s q) (met_states Outside g s q h.0 r))
        (λ a t one. next_ensures (StatesAll p f g t) (StatesAll p f g q) (statements_met g rest t) _ (all_states g rest t h.1 r) (λ ts u more. first_states g (is_no_declaration s) q t u a ts one more))

    -- those of the block of a `switch`
    parts_state : (g : Setting) (kind : Option IntegerType) (all : StatementTrees) (ls : Labels) (q : ProgressTree) → AreFormed all → declare_nothing all → g.result ≡ f.result → Ensures (StatesParts p f g kind q) (block_items_met g kind all ls q)
    parts_state g kind tree.none ls q h plain r = record { comes = comes_itself p f low q; numbers = nothing_numbered q q (declared_in_all typed-tree.none) refl (λ vs. refl); holds = λ i e k. refl }
    parts_state g kind (tree.first s rest) ls q h plain r =
        next_ensures (StatesLabeled p f (switch.Inside kind ls) g (is_no_declaration s) q) (StatesParts p f g kind q) (met (switch.Inside kind ls) g s q) _ (met_states (switch.Inside kind ls) g s q h.0 r)
        (λ x t one.
        next_ensures (StatesParts p f g kind t) (StatesParts p f g kind q) (block_items_met g kind rest x.labels t) _ (parts_state g kind rest x.labels t h.1 plain.1 r)
        (λ ts u more. part_states g kind ls (is_no_declaration s) q t u x ts plain.0 one more))
