-- No statement of a source has a declaration alone as the body of an `if`, an `else` or a loop.
use Rattle.std.proofs.Common.{◌≡◌, ℤ, List, [], ◌∷◌, ◌++◌, Bool, true, false, Option, Some, None, refl}
use Rattle.c_tree.specs.declared.extent.Extent.{Extent}
use Rattle.c_tree.specs.declared.types.IntegerType.{IntegerType}
use Rattle.c_tree.specs.Ends.{first_spot}
use Rattle.c_tree.specs.Statements.{LabelTree, CaseLabel, DefaultLabel, StatementTree, StatementTrees}
use Rattle.c_tree.specs.Statements as tree
use Rattle.c_tree.specs.TypedStatements.{TypedStatementTree, TypedStatementTrees}
use Rattle.c_tree.specs.TypedStatements as typed-tree
use Rattle.c_type_declarations.specs.Progress.{ProgressTree, Met, means, next_met, opened, value_met}
use Rattle.c_type_statements.specs.declared.setting.Setting.{Setting}
use Rattle.c_type_statements.specs.Settings.{in_loop, in_switch}
use Rattle.c_type_statements.specs.Switches.{case_value, case_numbered, case_by, Labels, no_labels, StatementPlace, Outside, Inside, labels_at, behind_label, label_at, Labeled, Parts, PartTree, Case, Default, Statement, without_label, bare, put_all}
use Rattle.c_type_statements.specs.Statements.{in_scope, met, statements_met, block_items_met}
use Rattle.c_type_laws.specs.Plain.{is_body, is_plain, are_plain}
use Rattle.c_source.specs.Formed.{is_no_declaration, IsFormed, AreFormed}
use Rattle.c_source.specs.Progress.{Ensures}
use Rattle.c_source.specs.Stating.{are_labels}
use Rattle.c_source.proofs.Same.{both, all_four}
use Rattle.c_source.proofs.Coming.{next_ensures}
use Rattle.c_source.proofs.Labelling.{labels_on}

-- whatever a part means
pub next_any : {A B : Type 0} (S : B → ProgressTree → Type 0) (m : Met A) (g : A → ProgressTree → Met B) → ((a : A) (t : ProgressTree) → Ensures S (g a t)) → Ensures S (next_met m g)
unfolding next_met
next_any S (means a t) g k = k a t

-- A statement is plain; where it is no declaration, it may be a body.
pub record Plain (body : Bool) (s : TypedStatementTree) (t : ProgressTree) : Type 0 where
  pub plain : is_plain s ≡ true
  pub may : body ≡ true → is_body s ≡ true

-- So is one with its labels.
pub record PlainLabeled (body : Bool) (x : Labeled) (t : ProgressTree) : Type 0 where
  pub labels : are_labels x.before ≡ true
  pub plain : is_plain x.statement ≡ true
  pub may : body ≡ true → is_body x.statement ≡ true

-- so are statements
abbrev pub ArePlain : TypedStatementTrees → ProgressTree → Type 0
ArePlain ts t = are_plain ts ≡ true

plain_as : (s : TypedStatementTree) (t : ProgressTree) → is_plain s ≡ true → is_body s ≡ true → Plain true s t
plain_as s t h g = record { plain = h; may = λ e. g }

unlabeled_plain : (ls : Labels) (body : Bool) (m : Met TypedStatementTree) → Ensures (Plain body) m → Ensures (PlainLabeled body) (without_label ls m)
unfolding without_label
unlabeled_plain ls body m h = next_ensures (Plain body) (PlainLabeled body) m _ h (λ s t c. record { labels = refl; plain = c.plain; may = c.may })

bare_plain : (body : Bool) (m : Met Labeled) → Ensures (PlainLabeled body) m → Ensures (Plain body) (bare m)
unfolding bare
bare_plain body m h = next_ensures (PlainLabeled body) (Plain body) m _ h (λ x t c. record { plain = c.plain; may = c.may })

-- labels are no statements
numbered_labels : (o : Option ℤ) (extent : Extent) (ls : Labels) (q : ProgressTree) → Ensures (λ (l : Parts) t. are_labels l.parts ≡ true) (case_numbered o extent ls q)
numbered_labels (Some z) extent ls q = refl
numbered_labels None extent ls q = refl

by_labels : (kind : Option IntegerType) (extent : Extent) (ls : Labels) (v : Option _) (q : ProgressTree) → Ensures (λ (l : Parts) t. are_labels l.parts ≡ true) (case_by kind extent ls v q)
by_labels kind extent ls (Some v) q = numbered_labels (case_value kind v.of v.constant) extent ls q
by_labels kind extent ls None q = refl

label_labels : (place : StatementPlace) (l : LabelTree) (q : ProgressTree) → Ensures (λ (l : Parts) t. are_labels l.parts ≡ true) (label_at place l q)
label_labels Outside l q = refl
label_labels (Inside kind ls) (CaseLabel extent e) q = next_any (λ (l : Parts) t. are_labels l.parts ≡ true) (value_met e q) _ (λ v t. by_labels kind extent ls v t)
label_labels (Inside kind ls) (DefaultLabel extent) q = refl

put_plain : (ps : List PartTree) (s : TypedStatementTree) (ts : TypedStatementTrees) → are_labels ps ≡ true → is_plain s ≡ true → are_plain ts ≡ true → are_plain (put_all (ps ++ Statement s ∷ []) ts) ≡ true
put_plain [] s ts l h g = both (is_plain s) (are_plain ts) h g
put_plain (Case z ∷ ps) s ts l h g = put_plain ps s ts l h g
put_plain (Default ∷ ps) s ts l h g = put_plain ps s ts l h g
put_plain (Statement r ∷ ps) s ts l h g = cc

mutual
  -- a statement with its labels
  met_plain : (place : StatementPlace) (g : Setting) (s : StatementTree) (q : ProgressTree) → IsFormed s → Ensures (PlainLabeled (is_no_declaration s)) (met place g s q)
  met_plain place g (tree.Compound opening all closing) q h =
      unlabeled_plain (labels_at place) true _
      (next_ensures ArePlain (Plain true) (in_scope (statements_met g all) q) _ (next_ensures ArePlain ArePlain (statements_met g all (opened q)) _ (all_plain g all (opened q) h) (λ ts t c. c)) (λ ts t c. plain_as (typed-tree.Block ts) t c refl))
  met_plain place g (tree.Declare d) q h = unlabeled_plain (labels_at place) false _ (next_any (Plain false) _ _ (λ all t. record { plain = refl; may = λ e. cc }))
  met_plain place g (tree.Empty spot) q h = unlabeled_plain (labels_at place) true _ (plain_as (typed-tree.Empty spot) q refl refl)
  met_plain place g (tree.Run e last) q h = unlabeled_plain (labels_at place) true _ (next_any (Plain true) _ _ (λ r t. plain_as (typed-tree.Run (first_spot e) r) t refl refl))
  met_plain place g (tree.If spot c s) q h =
      unlabeled_plain (labels_at place) true _
      (next_any (Plain true) _ _
      (λ r t.
      next_ensures (Plain (is_no_declaration s)) (Plain true) (bare (met Outside g s t)) _ (bare_plain (is_no_declaration s) (met Outside g s t) (met_plain Outside g s t h.1))
      (λ a u d. plain_as (typed-tree.If (first_spot c) r a) u (both (is_body a) (is_plain a) (d.may h.2) d.plain) refl)))
  met_plain place g (tree.IfElse spot c s o) q h =
      unlabeled_plain (labels_at place) true _
      (next_any (Plain true) _ _
      (λ r t.
      next_ensures (Plain (is_no_declaration s)) (Plain true) (bare (met Outside g s t)) _ (bare_plain (is_no_declaration s) (met Outside g s t) (met_plain Outside g s t h.1))
      (λ a u d.
      next_ensures (Plain (is_no_declaration o)) (Plain true) (bare (met Outside g o u)) _ (bare_plain (is_no_declaration o) (met Outside g o u) (met_plain Outside g o u h.2))
      (λ b v e. plain_as (typed-tree.IfElse (first_spot c) r a b) v (all_four (is_body a) (is_plain a) (is_body b) (is_plain b) (d.may h.3) d.plain (e.may h.4) e.plain) refl))))
  met_plain place g (tree.While spot c s) q h =
      unlabeled_plain (labels_at place) true _
      (next_any (Plain true) _ _
      (λ r t.
      next_ensures (Plain (is_no_declaration s)) (Plain true) (bare (met Outside (in_loop g) s t)) _ (bare_plain (is_no_declaration s) (met Outside (in_loop g) s t) (met_plain Outside (in_loop g) s t h.1))
      (λ a u d. plain_as (typed-tree.While (first_spot c) r a) u (both (is_body a) (is_plain a) (d.may h.2) d.plain) refl)))
  met_plain place g (tree.DoWhile extent s c) q h =
      unlabeled_plain (labels_at place) true _
      (next_ensures (Plain (is_no_declaration s)) (Plain true) (bare (met Outside (in_loop g) s q)) _ (bare_plain (is_no_declaration s) (met Outside (in_loop g) s q) (met_plain Outside (in_loop g) s q h.0))
      (λ a t d. next_any (Plain true) _ _ (λ r u. plain_as (typed-tree.DoWhile a (first_spot c) r) u (both (is_body a) (is_plain a) (d.may h.2) d.plain) refl)))
  met_plain place g (tree.For spot start c step s) q h =
      unlabeled_plain (labels_at place) true _
      (next_ensures (λ (a : TypedStatementTree) t. (is_plain a ≡ true) × (is_body a ≡ true)) (Plain true) _ _
      (next_any (λ (a : TypedStatementTree) t. (is_plain a ≡ true) × (is_body a ≡ true)) _ _
      (λ a t.
      next_any (λ (a : TypedStatementTree) t. (is_plain a ≡ true) × (is_body a ≡ true)) _ _
      (λ b u.
      next_any (λ (a : TypedStatementTree) t. (is_plain a ≡ true) × (is_body a ≡ true)) _ _
      (λ d v.
      next_ensures (Plain (is_no_declaration s)) (λ (a : TypedStatementTree) t. (is_plain a ≡ true) × (is_body a ≡ true)) (bare (met Outside (in_loop g) s v)) _ (bare_plain (is_no_declaration s) (met Outside (in_loop g) s v) (met_plain Outside (in_loop g) s v h.3))
      (λ m w e. (both (is_body m) (is_plain m) (e.may h.4) e.plain, refl))))))
      (λ a t c. plain_as a _ c.0 c.1))
  met_plain place g (tree.Switch spot e opening all closing) q h =
      unlabeled_plain (labels_at place) true _
      (next_any (Plain true) _ _
      (λ ch t.
      next_ensures ArePlain (Plain true) (in_scope (block_items_met (in_switch g) ch.kind all no_labels) t) _
      (next_ensures ArePlain ArePlain (block_items_met (in_switch g) ch.kind all no_labels (opened t)) _ (parts_plain (in_switch g) ch.kind all no_labels (opened t) h.1) (λ ts u c. c))
      (λ ts u c. plain_as (typed-tree.Switch (first_spot e) ch.tree ts) u c refl)))
  met_plain place g (tree.Case extent e s) q h =
      next_ensures (λ (l : Parts) t. are_labels l.parts ≡ true) (PlainLabeled true) (label_at place (CaseLabel extent e) q) _ (label_labels place (CaseLabel extent e) q)
      (λ l t c.
      next_ensures (PlainLabeled (is_no_declaration s)) (PlainLabeled true) (met (behind_label place l.labels) g s t) _ (met_plain (behind_label place l.labels) g s t h.1)
      (λ x u d. record { labels = labels_on l.parts x.before c d.labels; plain = d.plain; may = λ k. d.may h.2 }))
  met_plain place g (tree.Default extent s) q h =
      next_ensures (λ (l : Parts) t. are_labels l.parts ≡ true) (PlainLabeled true) (label_at place (DefaultLabel extent) q) _ (label_labels place (DefaultLabel extent) q)
      (λ l t c.
      next_ensures (PlainLabeled (is_no_declaration s)) (PlainLabeled true) (met (behind_label place l.labels) g s t) _ (met_plain (behind_label place l.labels) g s t h.0)
      (λ x u d. record { labels = labels_on l.parts x.before c d.labels; plain = d.plain; may = λ k. d.may h.1 }))
  met_plain place g (tree.Break extent) q h = unlabeled_plain (labels_at place) true _ (plain_as (typed-tree.Break extent.first) _ refl refl)
  met_plain place g (tree.Continue extent) q h = unlabeled_plain (labels_at place) true _ (plain_as (typed-tree.Continue extent.first) _ refl refl)
  met_plain place g (tree.Return extent e) q h = unlabeled_plain (labels_at place) true _ (next_any (Plain true) _ _ (λ r t. plain_as (typed-tree.Return extent.first r) t refl refl))

  -- statements one behind the other
  pub all_plain : (g : Setting) (all : StatementTrees) (q : ProgressTree) → AreFormed all → Ensures ArePlain (statements_met g all q)
  all_plain g tree.none q h = refl
  all_plain g (tree.first s rest) q h =
      next_ensures (Plain (is_no_declaration s)) ArePlain (bare (met Outside g s q)) _ (bare_plain (is_no_declaration s) (met Outside g s q) (met_plain Outside g s q h.0))
      (λ a t c. next_ensures ArePlain ArePlain (statements_met g rest t) _ (all_plain g rest t h.1) (λ ts u d. both (is_plain a) (are_plain ts) c.plain d))

  -- those of the block of a `switch`
  parts_plain : (g : Setting) (kind : Option IntegerType) (all : StatementTrees) (ls : Labels) (q : ProgressTree) → AreFormed all → Ensures ArePlain (block_items_met g kind all ls q)
  parts_plain g kind tree.none ls q h = refl
  parts_plain g kind (tree.first s rest) ls q h =
      next_ensures (PlainLabeled (is_no_declaration s)) ArePlain (met (Inside kind ls) g s q) _ (met_plain (Inside kind ls) g s q h.0)
      (λ x t c. next_ensures ArePlain ArePlain (block_items_met g kind rest x.labels t) _ (parts_plain g kind rest x.labels t h.1) (λ ts u d. put_plain x.before x.statement ts c.labels c.plain d))
