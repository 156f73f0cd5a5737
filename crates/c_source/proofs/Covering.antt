-- The literals, variables and places of a statement stand within it, in the order of the text.
use Rattle.std.proofs.Common.{◌≡◌, inl, List, [], ◌∷◌, ◌++◌, length, true, Option, Some, None, refl, sym, ap, ◌∙◌, subst, append_assoc, append-nil}
use Rattle.std.specs.Prelude.{is_some}
use Rattle.debug_records.specs.declared.source.Spot.{Spot}
use Rattle.debug_records.specs.declared.code.Code.{Code}
use Rattle.debug_records.specs.declared.code.TheConstants.Code.{MISPLACED_JUMP, REDECLARED}
use Rattle.c_tree.specs.declared.extent.Extent.{Extent}
use Rattle.c_tree.specs.declared.types.IntegerType.{IntegerType}
use Rattle.c_tree.specs.declared.object_type.Object.TheVariants as designator
use Rattle.c_tree.specs.declared.object_type.ObjectType.{ObjectType}
use Rattle.c_tree.specs.Ends.{first_spot}
use Rattle.c_tree.specs.Expressions.{ExpressionTree}
use Rattle.c_tree.specs.Declarations.{DeclaratorTree, DeclarationTree}
use Rattle.c_tree.specs.Statements.{StartTree, CaseLabel, DefaultLabel, StatementTree, StatementTrees}
use Rattle.c_tree.specs.Statements as tree
use Rattle.c_tree.specs.TypedExpressions.{RvalueTree}
use Rattle.c_tree.specs.TypedStatements.{DeclaredTree, TypedStatementTree, TypedStatementTrees}
use Rattle.c_tree.specs.TypedStatements as typed-tree
use Rattle.c_tree.specs.Programs.{AutomaticTree}
use Rattle.c_type_expressions.specs.declared.names.Meaning.TheVariants.{Variable}
use Rattle.c_type_declarations.specs.Scopes.{declared_here}
use Rattle.c_type_declarations.specs.Progress.{ProgressTree, Met, means, next_met, breaks_if, declares, opened}
use Rattle.c_type_declarations.specs.Objects.{type_met}
use Rattle.c_type_declarations.specs.Initials.{initial_met}
use Rattle.c_type_declarations.specs.Declarations.{is_array, with_automatic, automatic_of_type, automatic_met, automatics_met, declaration_met}
use Rattle.c_type_statements.specs.declared.setting.Setting.{Setting}
use Rattle.c_type_statements.specs.Settings.{in_loop, in_switch, rule_unless, run_met, condition_met, condition_if_any, start_met, step_met, return_met}
use Rattle.c_type_statements.specs.Switches.{PartTree, Case, Default, Statement, chosen_met, Labels, no_labels, StatementPlace, Outside, labels_at, behind_label, label_at, Labeled, without_label, bare, put_all}
use Rattle.c_type_statements.specs.Switches as switch
use Rattle.c_type_statements.specs.Statements.{to_end, head_of, in_scope, met, statements_met, block_items_met}
use Rattle.c_source.specs.TextOrder.{spots_of, spots_if_any, spots_of_brackets, spots_of_initial, spots_of_declarator, spots_of_declarators, spots_of_start, spots_of_statement, spots_of_statements}
use Rattle.c_source.specs.Progress.{Ensures}
use Rattle.c_source.specs.Stating.{are_labels}
use Rattle.c_source.proofs.Parts.{IsPart, part_none, part_all, part_with, part_first}
use Rattle.c_source.proofs.Coming.{next_ensures, ensures_more}
use Rattle.c_source.proofs.Labelling.{labels_on}
use Rattle.c_source.proofs.Adding.{Adds, adds_on, adds_more, literal_spot, Reads, Covers, reads_itself, reads_more, covers_read, covers_on, covers_more, covers_places}
use Rattle.c_source.proofs.Finding.{begins_with}
use Rattle.c_source.proofs.Reading.{ReadsIn, type_reads, initial_reads}
use Rattle.c_source.proofs.Deciding.{unless_reads, run_reads, condition_reads, return_reads, chosen_reads, Tests, any_condition_tests, LabelsIn, labels_in}
use Rattle.c_source.proofs.Stops.{stops_of_declarators, stops_of_start, stops_of_head, stops_of_step, stops_of, stops_of_all}

-- a part covers spots, with the places of what it means
abbrev pub CoversBy : {A : Type 0} → (A → List Spot) → List Spot → ProgressTree → Met A → Type 0
CoversBy {A} places whole q m = Ensures (λ (a : A) (t : ProgressTree). Covers whole q (places a) t) m

-- behind a part comes another one
behind : {A B : Type 0} (P : A → List Spot) (Q : B → List Spot) (S W : List Spot) (q t : ProgressTree) (m : Met A) (g : A → ProgressTree → Met B) → CoversBy P S t m
    → ((a : A) (u : ProgressTree) → Covers S t (P a) u → CoversBy Q W q (g a u)) → CoversBy Q W q (next_met m g)
behind {A} {B} P Q S W q t m g h k = next_ensures (λ (a : A) (u : ProgressTree). Covers S t (P a) u) (λ (b : B) (u : ProgressTree). Covers W q (Q b) u) m g h k

-- behind values comes a part
behind_read : {A B : Type 0} (Q : B → List Spot) (S W : List Spot) (q t : ProgressTree) (m : Met A) (g : A → ProgressTree → Met B) → ReadsIn S t m → ((a : A) (u : ProgressTree) → Reads S t u → CoversBy Q W q (g a u)) → CoversBy Q W q (next_met m g)
behind_read {A} {B} Q S W q t m g h k = next_ensures (λ (a : A) (u : ProgressTree). Reads S t u) (λ (b : B) (u : ProgressTree). Covers W q (Q b) u) m g h k

covers_wider : {A : Type 0} (P : A → List Spot) (S W : List Spot) (q : ProgressTree) (m : Met A) → IsPart S W → CoversBy P S q m → CoversBy P W q m
covers_wider {A} P S W q m h k = ensures_more (λ (a : A) (t : ProgressTree). Covers S q (P a) t) (λ (a : A) (t : ProgressTree). Covers W q (P a) t) m k (λ a t c. covers_more S W (P a) q t h c)

-- what is checked in a scope of its own
covers_scope : {A : Type 0} (whole : List Spot) (places : A → List Spot) (g : ProgressTree → Met A) (q : ProgressTree) → Ensures (λ (a : A) (t : ProgressTree). Covers whole (opened q) (places a) t) (g (opened q))
    → Ensures (λ (a : A) (t : ProgressTree). Covers whole q (places a) t) (in_scope g q)
covers_scope {A} whole places g q h =
    next_ensures (λ (a : A) (t : ProgressTree). Covers whole (opened q) (places a) t) (λ (a : A) (t : ProgressTree). Covers whole q (places a) t) (g (opened q)) _ h (λ a t c. record { literals = c.literals; automatics = c.automatics; stand = c.stand })

-- a declared name
pub breaks_if_literals : {A : Type 0} (o : Option A) (code : Code) (extent : Extent) (q : ProgressTree) → (breaks_if o code extent q).found.literals ≡ q.found.literals
breaks_if_literals (Some a) code extent q = refl
breaks_if_literals None code extent q = refl

pub breaks_if_automatics : {A : Type 0} (o : Option A) (code : Code) (extent : Extent) (q : ProgressTree) → (breaks_if o code extent q).automatics ≡ q.automatics
breaks_if_automatics (Some a) code extent q = refl
breaks_if_automatics None code extent q = refl

-- the place of a declarator
abbrev at_name : DeclaredTree → List Spot
at_name d = d.spot ∷ []

of_type_covers : (d : DeclaratorTree) (of : ObjectType) (q t : ProgressTree) → Reads (spots_of_brackets d.brackets) q t → CoversBy at_name (spots_of_declarator d) q (automatic_of_type d of t)
of_type_covers d of q t one =
    let named = declares d.extent d.name.name (Variable (designator.Automatic (length t.automatics)) of) t in
    let r = with_automatic d.name of named in
    let v : AutomaticTree = record { name = d.name.name; spot = d.name.spot; of = of; in_memory = is_array of } in
    let sizes = spots_of_brackets d.brackets in
    let values = spots_of_initial d.initializer in
    behind_read at_name values (spots_of_declarator d) q r (initial_met of d.extent d.initializer r) _ (initial_reads of d.extent d.initializer r)
    (λ i u two.
    record {
      literals = adds_more literal_spot q.found.literals u.found.literals (sizes ++ values) (spots_of_declarator d) (inl (part_all (sizes ++ values)))
          (adds_on literal_spot q.found.literals t.found.literals u.found.literals sizes values one.literals
          (subst (λ z. Adds literal_spot z u.found.literals values) (breaks_if_literals (declared_here t.names d.name.name) REDECLARED d.extent t) two.literals));
      automatics = record {
        more = v ∷ [];
        is = two.same ∙ ap (λ z. z ++ v ∷ []) (breaks_if_automatics (declared_here t.names d.name.name) REDECLARED d.extent t ∙ one.same);
        part = part_with d.name.spot [] (sizes ++ values) (part_none (sizes ++ values));
      };
      stand = part_with d.name.spot [] (sizes ++ values) (part_none (sizes ++ values));
    })

declarator_covers : (t : IntegerType) (d : DeclaratorTree) (q : ProgressTree) → CoversBy at_name (spots_of_declarator d) q (automatic_met t d q)
declarator_covers t d q =
    behind_read at_name (spots_of_brackets d.brackets) (spots_of_declarator d) q q (type_met (record { base = t; stars = d.stars }) d q) (automatic_of_type d) (type_reads (record { base = t; stars = d.stars }) d q)
    (λ of u one. of_type_covers d of q u one)

declarators_cover : (t : IntegerType) (ds : List DeclaratorTree) (q : ProgressTree) → CoversBy stops_of_declarators (spots_of_declarators ds) q (automatics_met t ds q)
declarators_cover t [] q = covers_read [] [] q q refl (reads_itself [] q)
declarators_cover t (d ∷ ds) q =
    let one_spots = spots_of_declarator d in
    let more_spots = spots_of_declarators ds in
    behind at_name stops_of_declarators one_spots (one_spots ++ more_spots) q q (automatic_met t d q) _ (declarator_covers t d q)
    (λ x u one.
    behind stops_of_declarators stops_of_declarators more_spots (one_spots ++ more_spots) q u (automatics_met t ds u) _ (declarators_cover t ds u)
    (λ xs v rest. covers_on one_spots more_spots (x.spot ∷ []) (stops_of_declarators xs) q u v one rest))

pub declaration_covers : (d : DeclarationTree) (q : ProgressTree) → CoversBy stops_of_declarators (spots_of_declarators d.declarators) q (declaration_met d q)
declaration_covers d q = declarators_cover d.type d.declarators q

-- the first part of a `for`, and its step
start_covers : (s : StartTree) (q : ProgressTree) → CoversBy stops_of_start (spots_of_start s) q (start_met s q)
start_covers tree.Nothing q = covers_read [] [] q q refl (reads_itself [] q)
start_covers (tree.Value e) q =
    behind_read stops_of_start (spots_of e) (spots_of e) q q (run_met e q) _ (run_reads e q) (λ r t one. covers_read (spots_of e) (first_spot e ∷ []) q t (begins_with e) one)
start_covers (tree.Declares d) q =
    behind stops_of_declarators stops_of_start (spots_of_declarators d.declarators) (spots_of_declarators d.declarators) q q (declaration_met d q) _ (declaration_covers d q) (λ all t c. c)

step_covers : (s : Option ExpressionTree) (q : ProgressTree) → CoversBy stops_of_step (spots_if_any s) q (step_met s q)
step_covers (Some e) q =
    behind_read stops_of_step (spots_of e) (spots_of e) q q (run_met e q) _ (run_reads e q) (λ r t one. covers_read (spots_of e) (first_spot e ∷ []) q t (begins_with e) one)
step_covers None q = covers_read [] [] q q refl (reads_itself [] q)

-- a `for`, by its parts
for_covers : (spot : Spot) (c : Option ExpressionTree) (b : Option RvalueTree) (A C D before step body : List Spot) (q t u v w : ProgressTree) → is_some b ≡ is_some c → Covers A q before t → Reads (spots_if_any c) t u → Covers C u step v
    → Covers D v body w → Covers (spot ∷ A ++ spots_if_any c ++ C ++ D) q (stops_of_head before (head_of spot c) b ++ step ++ body) w
for_covers spot None None A C D before step body q t u v w same one two three four =
    let W = A ++ [] ++ C ++ D in
    let first_two = subst (λ z. Covers (A ++ []) q z u) (append-nil before) (covers_on A [] before [] q t u one (covers_read [] [] t u refl two)) in
    let whole = covers_on (A ++ [] ++ C) D (before ++ step) body q v w (covers_on (A ++ []) C before step q u v first_two three) four in
    let wider = covers_more W (spot ∷ W) (before ++ step ++ body) q w (inl (part_all W)) whole in
    covers_places (spot ∷ W) (before ++ step ++ body) (spot ∷ before ++ step ++ body) q w (part_with spot (before ++ step ++ body) W whole.stand) wider
for_covers spot (Some e) (Some r) A C D before step body q t u v w same one two three four =
    let B = spots_of e in
    let W = A ++ B ++ C ++ D in
    let here = first_spot e ∷ [] in
    let first_two = covers_on A B before here q t u one (covers_read B here t u (begins_with e) two) in
    let whole = covers_on (A ++ B ++ C) D (before ++ here ++ step) body q v w (covers_on (A ++ B) C (before ++ here) step q u v first_two three) four in
    covers_more W (spot ∷ W) (before ++ here ++ step ++ body) q w (inl (part_all W)) whole
for_covers spot None (Some r) A C D before step body q t u v w same one two three four = cc
for_covers spot (Some e) None A C D before step body q t u v w same one two three four = cc

-- A statement with its labels covers spots.
pub record CoversLabeled (whole : List Spot) (q : ProgressTree) (x : Labeled) (t : ProgressTree) : Type 0 where
  pub covers : Covers whole q (stops_of x.statement) t
  pub labels : are_labels x.before ≡ true

unlabeled_covers : (place : StatementPlace) (whole : List Spot) (q : ProgressTree) (m : Met TypedStatementTree) → CoversBy stops_of whole q m → Ensures (CoversLabeled whole q) (without_label (labels_at place) m)
unfolding without_label
unlabeled_covers place whole q m h = next_ensures (λ (s : TypedStatementTree) (t : ProgressTree). Covers whole q (stops_of s) t) (CoversLabeled whole q) m _ h (λ s t c. record { covers = c; labels = refl })

bare_covers : (whole : List Spot) (q : ProgressTree) (m : Met Labeled) → Ensures (CoversLabeled whole q) m → CoversBy stops_of whole q (bare m)
unfolding bare
bare_covers whole q m h = next_ensures (CoversLabeled whole q) (λ (s : TypedStatementTree) (t : ProgressTree). Covers whole q (stops_of s) t) m _ h (λ x t c. c.covers)

-- labels are no places
put_stops : (before : List PartTree) (s : TypedStatementTree) (ts : TypedStatementTrees) → are_labels before ≡ true → stops_of s ++ stops_of_all ts ≡ stops_of_all (put_all (before ++ Statement s ∷ []) ts)
put_stops [] s ts h = refl
put_stops (Case z ∷ more) s ts h = put_stops more s ts h
put_stops (Default ∷ more) s ts h = put_stops more s ts h
put_stops (Statement x ∷ more) s ts h = cc

-- a condition, and a statement
behind_condition : (spot first : Spot) (C S stops : List Spot) (q t u : ProgressTree) → IsPart (first ∷ []) C → Reads C q t → Covers S t stops u → Covers (spot ∷ C ++ S) q (first ∷ stops) u
behind_condition spot first C S stops q t u h one two =
    covers_more (C ++ S) (spot ∷ C ++ S) (first ∷ stops) q u (inl (part_all (C ++ S))) (covers_on C S (first ∷ []) stops q t u (covers_read C (first ∷ []) q t h one) two)

mutual
  -- The check of a statement covers it.
  pub met_covers : (place : StatementPlace) (g : Setting) (s : StatementTree) (q : ProgressTree) → Ensures (CoversLabeled (spots_of_statement s) q) (met place g s q)
  met_covers place g (tree.Compound opening all closing) q =
      let S = spots_of_statements all in
      let W = opening ∷ S ++ closing ∷ [] in
      unlabeled_covers place W q _
      (behind stops_of_all stops_of W W q q (in_scope (statements_met g all) q) _
      (covers_scope W stops_of_all (statements_met g all) q (covers_wider stops_of_all S W (opened q) (statements_met g all (opened q)) (inl (part_first S S (closing ∷ []) (part_all S))) (all_cover g all (opened q)))) (λ ts t c. c))
  met_covers place g (tree.Declare d) q =
      let W = spots_of_declarators d.declarators in
      unlabeled_covers place W q _ (behind stops_of_declarators stops_of W W q q (declaration_met d q) _ (declaration_covers d q) (λ all t c. c))
  met_covers place g (tree.Empty spot) q = unlabeled_covers place (spot ∷ []) q _ (covers_read (spot ∷ []) (spot ∷ []) q q (part_all (spot ∷ [])) (reads_itself (spot ∷ []) q))
  met_covers place g (tree.Run e last) q =
      unlabeled_covers place (spots_of e) q _ (behind_read stops_of (spots_of e) (spots_of e) q q (run_met e q) _ (run_reads e q) (λ v t one. covers_read (spots_of e) (first_spot e ∷ []) q t (begins_with e) one))
  met_covers place g (tree.If spot c s) q =
      let C = spots_of c in
      let S = spots_of_statement s in
      let W = spot ∷ C ++ S in
      unlabeled_covers place W q _
      (behind_read stops_of C W q q (condition_met (to_end spot s) c q) _ (condition_reads (to_end spot s) c q)
      (λ v t one. behind stops_of stops_of S W q t (bare (met Outside g s t)) _ (bare_covers S t (met Outside g s t) (met_covers Outside g s t)) (λ a u two. behind_condition spot (first_spot c) C S (stops_of a) q t u (begins_with c) one two)))
  met_covers place g (tree.IfElse spot c s o) q =
      let C = spots_of c in
      let S = spots_of_statement s in
      let O = spots_of_statement o in
      let W = spot ∷ C ++ S ++ O in
      unlabeled_covers place W q _
      (behind_read stops_of C W q q (condition_met (to_end spot o) c q) _ (condition_reads (to_end spot o) c q)
      (λ v t one.
      behind stops_of stops_of S W q t (bare (met Outside g s t)) _ (bare_covers S t (met Outside g s t) (met_covers Outside g s t))
      (λ a u two.
      behind stops_of stops_of O W q u (bare (met Outside g o u)) _ (bare_covers O u (met Outside g o u) (met_covers Outside g o u))
      (λ b w three.
      subst (λ z. Covers (spot ∷ z) q (first_spot c ∷ stops_of a ++ stops_of b) w) (sym (append_assoc C S O))
      (behind_condition spot (first_spot c) C (S ++ O) (stops_of a ++ stops_of b) q t w (begins_with c) one (covers_on S O (stops_of a) (stops_of b) t u w two three))))))
  met_covers place g (tree.While spot c s) q =
      let C = spots_of c in
      let S = spots_of_statement s in
      let W = spot ∷ C ++ S in
      unlabeled_covers place W q _
      (behind_read stops_of C W q q (condition_met (to_end spot s) c q) _ (condition_reads (to_end spot s) c q)
      (λ v t one.
      behind stops_of stops_of S W q t (bare (met Outside (in_loop g) s t)) _ (bare_covers S t (met Outside (in_loop g) s t) (met_covers Outside (in_loop g) s t))
      (λ a u two. behind_condition spot (first_spot c) C S (stops_of a) q t u (begins_with c) one two)))
  met_covers place g (tree.DoWhile extent s c) q =
      let C = spots_of c in
      let S = spots_of_statement s in
      let W = extent.first ∷ S ++ C in
      unlabeled_covers place W q _
      (behind stops_of stops_of S W q q (bare (met Outside (in_loop g) s q)) _ (bare_covers S q (met Outside (in_loop g) s q) (met_covers Outside (in_loop g) s q))
      (λ a t one.
      behind_read stops_of C W q t (condition_met extent c t) _ (condition_reads extent c t)
      (λ v u two.
      covers_more (S ++ C) W (stops_of a ++ first_spot c ∷ []) q u (inl (part_all (S ++ C))) (covers_on S C (stops_of a) (first_spot c ∷ []) q t u one (covers_read C (first_spot c ∷ []) t u (begins_with c) two)))))
  met_covers place g (tree.For spot start c step s) q =
      let A = spots_of_start start in
      let S = spots_of_statement s in
      let W = spot ∷ A ++ spots_if_any c ++ spots_if_any step ++ S in
      let o = opened q in
      unlabeled_covers place W q _
      (covers_scope W stops_of
      (λ o. next_met (start_met start o) (λ a t. next_met (condition_if_any (to_end spot s) c t) (λ b u. next_met (step_met step u) (λ d v. next_met (bare (met Outside (in_loop g) s v)) (λ m. means (typed-tree.For a (head_of spot c) b d m)))))) q
      (behind stops_of_start stops_of A W o o (start_met start o) _ (start_covers start o)
      (λ a t one.
      next_ensures (Tests c t) (λ (x : TypedStatementTree) (w : ProgressTree). Covers W o (stops_of x) w) (condition_if_any (to_end spot s) c t) _ (any_condition_tests (to_end spot s) c t)
      (λ b u two.
      behind stops_of_step stops_of (spots_if_any step) W o u (step_met step u) _ (step_covers step u)
      (λ d v three.
      behind stops_of stops_of S W o v (bare (met Outside (in_loop g) s v)) _ (bare_covers S v (met Outside (in_loop g) s v) (met_covers Outside (in_loop g) s v))
      (λ m w four. for_covers spot c b A (spots_if_any step) S (stops_of_start a) (stops_of_step d) (stops_of m) o t u v w two.1 one two.0 three four))))))
  met_covers place g (tree.Switch spot e opening all closing) q =
      let C = spots_of e in
      let S = spots_of_statements all in
      let I = opening ∷ S ++ closing ∷ [] in
      let W = spot ∷ C ++ opening ∷ S ++ closing ∷ [] in
      unlabeled_covers place W q _
      (behind_read stops_of C W q q (chosen_met (record { first = spot; last = closing.at }) e q) _ (chosen_reads (record { first = spot; last = closing.at }) e q)
      (λ ch t one.
      behind stops_of_all stops_of I W q t (in_scope (block_items_met (in_switch g) ch.kind all no_labels) t) _
      (covers_scope I stops_of_all (block_items_met (in_switch g) ch.kind all no_labels) t
      (covers_wider stops_of_all S I (opened t) (block_items_met (in_switch g) ch.kind all no_labels (opened t)) (inl (part_first S S (closing ∷ []) (part_all S))) (parts_cover (in_switch g) ch.kind all no_labels (opened t))))
      (λ ts u two.
      subst (λ z. Covers (spot ∷ z) q (first_spot e ∷ stops_of_all ts) u) (sym (append_assoc C (opening ∷ S) (closing ∷ []))) (behind_condition spot (first_spot e) C I (stops_of_all ts) q t u (begins_with e) one two))))
  met_covers place g (tree.Case extent e s) q =
      let C = spots_of e in
      let S = spots_of_statement s in
      let W = extent.first ∷ C ++ S in
      next_ensures (LabelsIn C q) (CoversLabeled W q) (label_at place (CaseLabel extent e) q) _ (labels_in place (CaseLabel extent e) q)
      (λ l t made.
      next_ensures (CoversLabeled S t) (CoversLabeled W q) (met (behind_label place l.labels) g s t) _ (met_covers (behind_label place l.labels) g s t)
      (λ x u two.
      record {
        covers = covers_more (C ++ S) W (stops_of x.statement) q u (inl (part_all (C ++ S))) (covers_on C S [] (stops_of x.statement) q t u (covers_read C [] q t (part_none C) made.0) two.covers);
        labels = labels_on l.parts x.before made.1 two.labels;
      }))
  met_covers place g (tree.Default extent s) q =
      let S = spots_of_statement s in
      let W = extent.first ∷ S in
      next_ensures (LabelsIn [] q) (CoversLabeled W q) (label_at place (DefaultLabel extent) q) _ (labels_in place (DefaultLabel extent) q)
      (λ l t made.
      next_ensures (CoversLabeled S t) (CoversLabeled W q) (met (behind_label place l.labels) g s t) _ (met_covers (behind_label place l.labels) g s t)
      (λ x u two.
      record {
        covers = covers_more S W (stops_of x.statement) q u (inl (part_all S)) (covers_on [] S [] (stops_of x.statement) q t u (covers_read [] [] q t refl made.0) two.covers);
        labels = labels_on l.parts x.before made.1 two.labels;
      }))
  met_covers place g (tree.Break extent) q =
      let W = extent.first ∷ [] in unlabeled_covers place W q _ (covers_read W W q (rule_unless g.may_break MISPLACED_JUMP extent q) (part_all W) (unless_reads W g.may_break MISPLACED_JUMP extent q))
  met_covers place g (tree.Continue extent) q =
      let W = extent.first ∷ [] in unlabeled_covers place W q _ (covers_read W W q (rule_unless g.may_continue MISPLACED_JUMP extent q) (part_all W) (unless_reads W g.may_continue MISPLACED_JUMP extent q))
  met_covers place g (tree.Return extent e) q =
      let E = spots_if_any e in
      let W = extent.first ∷ E in
      unlabeled_covers place W q _
      (behind_read stops_of E W q q (return_met g.result extent e q) _ (return_reads g.result extent e q)
      (λ v t one. covers_read W (extent.first ∷ []) q t (part_with extent.first [] E (part_none E)) (reads_more E W q t (inl (part_all E)) one)))

  -- statements one behind the other
  pub all_cover : (g : Setting) (all : StatementTrees) (q : ProgressTree) → CoversBy stops_of_all (spots_of_statements all) q (statements_met g all q)
  all_cover g tree.none q = covers_read [] [] q q refl (reads_itself [] q)
  all_cover g (tree.first s rest) q =
      let S = spots_of_statement s in
      let R = spots_of_statements rest in
      behind stops_of stops_of_all S (S ++ R) q q (bare (met Outside g s q)) _ (bare_covers S q (met Outside g s q) (met_covers Outside g s q))
      (λ a t one. behind stops_of_all stops_of_all R (S ++ R) q t (statements_met g rest t) _ (all_cover g rest t) (λ ts u more. covers_on S R (stops_of a) (stops_of_all ts) q t u one more))

  -- those of the block of a `switch`
  parts_cover : (g : Setting) (kind : Option IntegerType) (all : StatementTrees) (ls : Labels) (q : ProgressTree) → CoversBy stops_of_all (spots_of_statements all) q (block_items_met g kind all ls q)
  parts_cover g kind tree.none ls q = covers_read [] [] q q refl (reads_itself [] q)
  parts_cover g kind (tree.first s rest) ls q =
      let S = spots_of_statement s in
      let R = spots_of_statements rest in
      next_ensures (CoversLabeled S q) (λ (ts : TypedStatementTrees) (u : ProgressTree). Covers (S ++ R) q (stops_of_all ts) u) (met (switch.Inside kind ls) g s q) _ (met_covers (switch.Inside kind ls) g s q)
      (λ x t one.
      behind stops_of_all stops_of_all R (S ++ R) q t (block_items_met g kind rest x.labels t) _ (parts_cover g kind rest x.labels t)
      (λ ts u more. subst (λ z. Covers (S ++ R) q z u) (put_stops x.before x.statement ts one.labels) (covers_on S R (stops_of x.statement) (stops_of_all ts) q t u one.covers more)))
