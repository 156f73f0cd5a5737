-- Behind a statement the names before it still stand first.
use Rattle.std.proofs.Common.{◌≡◌, ◌<◌, ◌≤◌, ◌+◌, ◌^◌, get_or, drop, arith, ℕ, List, [], ◌∷◌, ◌++◌, length, take, Bool, true, false, if◌then◌else◌, refl, ap, ◌∙◌, sym}
use Rattle.std.specs.Prelude.{map}
use Rattle.std.specs.List.{list_any}
use Rattle.std.specs.Borrow.{Bor}
use Rattle.std.specs.Str.{bytes_eq}
use Rattle.std.proofs.lemmas.List.{append_assoc, append-nil, drop_all, drop_more, length-map, take-map}
use Rattle.c_tree.specs.Programs.{AutomaticTree}
use Rattle.c_tree.specs.TypedStatements.{DeclaredTree, TypedStartTree, Nothing, Value, Declares, TypedStatementTree, Block, Declaration, Empty, Run, If, IfElse, While, DoWhile, For, Switch, Break, Continue, Return, TypedStatementTrees, none, first, case, default}
use Rattle.c_tree.specs.declared.typed_statement.Declared.{Declared}
use Rattle.c_tree.specs.TypedStatements.{declared_view}
use Rattle.c_places.specs.Places.{name_of}
use Rattle.c_type_bounds.specs.Counts.{capped}
use Rattle.c_type_bounds.proofs.Sums.{capped_more, capped_more_of}
use Rattle.c_type_bounds.specs.Visible.{at_declared, at_statement, at_statements, names_view, with_visible, behind_one, behind_all, behind_start, behind_statement, behind_statements}

-- these names with more behind them
pub record Holds (names more : List (List ℕ)) : Type 0 where
  pub rest : List (List ℕ)
  pub is : more ≡ names ++ rest

same : (names : List (List ℕ)) → Holds names names
same names = record { rest = []; is = sym (append-nil names) }

further : (a b c : List (List ℕ)) → Holds a b → Holds b c → Holds a c
further a b c p q = record { rest = p.rest ++ q.rest; is = q.is ∙ ap (λ x. x ++ q.rest) p.is ∙ append_assoc a p.rest q.rest }

added : (name : List ℕ) (names : List (List ℕ)) (b : Bool) → Holds names (if b then names else names ++ name ∷ [])
added name names true = same names
added name names false = record { rest = name ∷ []; is = refl }

with_one : (name : List ℕ) (names : List (List ℕ)) → Holds names (with_visible name names)
with_one name names = added name names (list_any (λ n. bytes_eq n name) names)

take_whole : (xs ys : List (List ℕ)) → take (length xs) (xs ++ ys) ≡ xs
take_whole [] ys = refl
take_whole (x ∷ xs) ys = ap (λ zs. x ∷ zs) (take_whole xs ys)

module _ (all : List AutomaticTree) where
  one_holds : (k : ℕ) (names : List (List ℕ)) → Holds names (behind_one all k names)
  one_holds k names = with_one (name_of all k) names

  all_hold : (ds : List DeclaredTree) (names : List (List ℕ)) → Holds names (behind_all all ds names)
  all_hold [] names = same names
  all_hold (d ∷ ds) names = further names (behind_one all d.variable names) (behind_all all ds (behind_one all d.variable names)) (one_holds d.variable names) (all_hold ds (behind_one all d.variable names))

  start_holds : (s : TypedStartTree) (names : List (List ℕ)) → Holds names (behind_start all s names)
  start_holds Nothing names = same names
  start_holds (Value spot a) names = same names
  start_holds (Declares ds) names = all_hold ds names

  statement_holds : (s : TypedStatementTree) (names : List (List ℕ)) → Holds names (behind_statement all s names)
  statement_holds (Declaration ds) names = all_hold ds names
  statement_holds (Block ss) names = same names
  statement_holds (Empty spot) names = same names
  statement_holds (Run spot a) names = same names
  statement_holds (If spot c s) names = same names
  statement_holds (IfElse spot c s t) names = same names
  statement_holds (While spot c s) names = same names
  statement_holds (DoWhile s spot c) names = same names
  statement_holds (For spot start c step s) names = same names
  statement_holds (Switch spot a ss) names = same names
  statement_holds (Break spot) names = same names
  statement_holds (Continue spot) names = same names
  statement_holds (Return spot a) names = same names

  statements_hold : (ss : TypedStatementTrees) (names : List (List ℕ)) → Holds names (behind_statements all ss names)
  statements_hold none names = same names
  statements_hold (first s ss) names = further names (behind_statement all s names) (behind_statements all ss (behind_statement all s names)) (statement_holds s names) (statements_hold ss (behind_statement all s names))
  statements_hold (case value ss) names = statements_hold ss names
  statements_hold (default ss) names = statements_hold ss names

  -- cut off behind them
  cut : (names more : List (List ℕ)) → Holds names more → take (length names) more ≡ names
  cut names more h = ap (take (length names)) h.is ∙ take_whole names h.rest

  pub start_cut : (s : TypedStartTree) (names : List (List ℕ)) → take (length names) (behind_start all s names) ≡ names
  start_cut s names = cut names (behind_start all s names) (start_holds s names)

  pub statement_cut : (s : TypedStatementTree) (names : List (List ℕ)) → take (length names) (behind_statement all s names) ≡ names
  statement_cut s names = cut names (behind_statement all s names) (statement_holds s names)

  pub statements_cut : (ss : TypedStatementTrees) (names : List (List ℕ)) → take (length names) (behind_statements all ss names) ≡ names
  statements_cut ss names = cut names (behind_statements all ss names) (statements_hold ss names)

  -- one more declarator
  pub declared_more : (xs : List Declared) (i : ℕ) (x : Declared) (names after : List (List ℕ)) (total more : ℕ) → x ≡ get_or xs i x → i < length xs → more ≡ capped (total + length names)
      → after ≡ behind_one all x.variable names
      → capped (more + at_declared all (map declared_view (drop (i + 1) xs)) after) ≡ capped (total + at_declared all (map declared_view (drop i xs)) names)
  declared_more xs i x names after total more here lt sum is =
      rw (sum, is)
      (capped_more total (length names) (at_declared all (map declared_view (drop (i + 1) xs)) (behind_one all x.variable names))
      ∙ ap (λ ds. capped (total + at_declared all (map declared_view ds) names)) (ap (λ y. y ∷ drop (i + 1) xs) here ∙ sym (drop_more xs i x lt)))

  pub declared_whole : (xs : List Declared) (i : ℕ) (names : List (List ℕ)) (total n : ℕ) → length xs ≤ i → total < 2 ^ 64 → capped (total + at_declared all (map declared_view (drop i xs)) names) ≡ n → total ≡ n
  declared_whole xs i names total n whole below is =
      let none_left : drop i xs ≡ [] = drop_all i xs whole in
      let so : capped (total + at_declared all (map declared_view (drop i xs)) names) ≡ capped (total + 0) = rw none_left refl in
      omega (arith, so, is, below)

  pub names_more : (xs : List Declared) (i : ℕ) (x : Declared) (names after : List (List ℕ)) → x ≡ get_or xs i x → i < length xs → after ≡ behind_one all x.variable names
      → behind_all all (map declared_view (drop (i + 1) xs)) after ≡ behind_all all (map declared_view (drop i xs)) names
  names_more xs i x names after here lt is =
      rw (is) (ap (λ ds. behind_all all (map declared_view ds) names) (ap (λ y. y ∷ drop (i + 1) xs) here ∙ sym (drop_more xs i x lt)))

-- a count that goes over statements from a count on
module _ (all : List AutomaticTree) where
  abbrev pub count_from : ℕ → TypedStatementTrees → List (List ℕ) → ℕ
  count_from total none names = total
  count_from total (first s rest) names = count_from (capped (total + capped (at_statement all s names))) rest (behind_statement all s names)
  count_from total (case value rest) names = count_from total rest names
  count_from total (default rest) names = count_from total rest names

  counted : (total : ℕ) (ss : TypedStatementTrees) (names : List (List ℕ)) → total ≡ capped total → count_from total ss names ≡ capped (total + at_statements all ss names)
  counted total none names fits = omega (arith, fits)
  counted total (first s rest) names fits =
      counted (capped (total + capped (at_statement all s names))) rest (behind_statement all s names) (omega arith)
      ∙ capped_more_of total (at_statement all s names) (at_statements all rest (behind_statement all s names))
  counted total (case value rest) names fits = counted total rest names fits
  counted total (default rest) names fits = counted total rest names fits

  pub counted_all : (ss : TypedStatementTrees) (names : List (List ℕ)) → count_from 0 ss names ≡ capped (at_statements all ss names)
  counted_all ss names =
      let same : 0 + at_statements all ss names ≡ at_statements all ss names = omega arith in
      counted 0 ss names refl ∙ ap capped same

-- names cut off
pub names_cut : (xs ys : List (Bor (List ℕ))) (k : ℕ) (more : List (List ℕ)) → names_view ys ≡ more → k ≡ length xs → take (length (names_view xs)) more ≡ names_view xs → names_view (take k ys) ≡ names_view xs
names_cut xs ys k more is len whole =
    sym (take-map (λ n. n.now) k ys) ∙ ap (take k) is ∙ ap (λ j. take j more) (len ∙ sym (length-map xs (λ n. n.now))) ∙ whole
