-- What is read as a statement stands in its tokens in order, and is formed.
use Rattle.std.proofs.Common.{◌≡◌, ℕ, zero, suc, ◌+◌, Bool, true, false, List, [], ◌∷◌, ◌++◌, length, Option, Some, None, Result, Ok, refl, sym, ap, ◌∙◌, append-nil, append_assoc}
use Rattle.debug_records.specs.declared.source.Spot.{Spot}
use Rattle.c_token.specs.declared.token.Keyword.TheVariants as keyword
use Rattle.c_token.specs.declared.token.Punctuator.TheVariants as punctuator
use Rattle.c_token.specs.Lexemes.{Lexeme, Word}
use Rattle.c_token.specs.Lexemes as word
use Rattle.c_tree.specs.Statements.{StatementTree, BranchTree, LabelTree, CaseLabel, DefaultLabel, if_tree, else_tree, behind_labels, block_tree, chain_of_statements}
use Rattle.c_tree.specs.Statements as tree
use Rattle.c_parse_tokens.specs.declared.fault.Stuck.{Stuck}
use Rattle.c_parse_tokens.specs.declared.mark.Mark.TheVariants as mark
use Rattle.c_parse_tokens.specs.Outcome.{◌>>=◌}
use Rattle.c_parse_tokens.specs.Front.{inside, is_at, tokens_behind, want, spot_at, extent_before}
use Rattle.c_parse_tokens.specs.Specifiers.{begins_type}
use Rattle.c_parse_expressions.specs.Expressions.{nesting}
use Rattle.c_parse_statements.specs.Declarations.{declaration}
use Rattle.c_parse_statements.specs.Clauses.{condition, for_header, labels}
use Rattle.c_parse_statements.specs.Statements as reading
use Rattle.c_parse_statements.specs.Statements.{StatementLevel, nested_statement, statements_from, block, branch, else_from, if_statement, while_statement, do_statement, for_statement, switch_statement, unlabeled_of, unlabeled, statement_in, statement_of}
use Rattle.c_source.specs.Formed.{is_no_declaration, declare_nothing, IsFormed, AreFormed}
use Rattle.c_source.specs.TextOrder.{spots_of, spots_of_statement, spots_of_statements}
use Rattle.c_source.specs.Tokens.{AreSound}
use Rattle.c_source.specs.Standing.{Stand, none, told, Shape, Found, spots_of_many, AreAllFormed, many}
use Rattle.c_source.specs.Trees.{expressions, declarations, headers, label_shape, statements, blocks, branches}
use Rattle.c_source.proofs.Bytes.{by_test}
use Rattle.c_source.proofs.Standing.{join, trail, silent, same_spots, next, option_next, spots_on, formed_on}
use Rattle.c_source.proofs.Fronts.{behind_leads, want_next, less_next}
use Rattle.c_source.proofs.CReadingsExpressions.{nesting_good}
use Rattle.c_source.proofs.Declarations.{declaration_found}
use Rattle.c_source.proofs.Clauses.{condition_found, header_found, expression_statement_found, return_found, labels_found}

-- what may nest finds statements
abbrev pub AreGood : List StatementLevel → Type 0
AreGood [] = Unit {0}
AreGood (level ∷ deeper) = ((may_declare : Bool) (ts : List Lexeme) → AreSound ts → Found (statements may_declare) ts (level may_declare ts)) × AreGood deeper

nested_found : (within : List StatementLevel) (may_declare : Bool) (ts : List Lexeme) → AreGood within → AreSound ts → Found (statements may_declare) ts (nested_statement within may_declare ts)
unfolding nested_statement
nested_found [] may_declare ts g h = tt
nested_found (level ∷ deeper) may_declare ts g h = g.0 may_declare ts h

deeper_next : {B : Type 0} (T : Shape B) (within : List StatementLevel) (is_taken : Bool) (ts whole : List Lexeme) (f : List StatementLevel → Result (B × List Lexeme) Stuck) → AreGood within
    → ((deeper : List StatementLevel) → AreGood deeper → Found T whole (f deeper)) → Found T whole (inside within is_taken ts >>= f)
deeper_next T [] is_taken ts whole f g k = tt
deeper_next T (level ∷ deeper) is_taken ts whole f g k = k deeper g.1

-- ---- blocks

as_statements : (may_declare : Bool) (all : List StatementTree) → spots_of_many (statements may_declare) all ≡ spots_of_statements (chain_of_statements all)
as_statements may_declare [] = refl
as_statements may_declare (s ∷ all) = ap (λ (l : List Spot). spots_of_statement s ++ l) (as_statements may_declare all)

are_formed : (may_declare : Bool) (all : List StatementTree) → AreAllFormed (statements may_declare) all → AreFormed (chain_of_statements all)
are_formed may_declare [] h = tt
are_formed may_declare (s ∷ all) h = (h.0.0, are_formed may_declare all h.1)

none_declared : (may_declare : Bool) (all : List StatementTree) → AreAllFormed (statements may_declare) all → may_declare ≡ false → declare_nothing (chain_of_statements all)
none_declared may_declare [] h e = tt
none_declared may_declare (s ∷ all) h e = (h.0.1 e, none_declared may_declare all h.1 e)

module _ (within : List StatementLevel) (good : AreGood within) (may_declare : Bool) where
  further : (opening : Spot) (done : List StatementTree) (x : StatementTree) (ts rest whole : List Lexeme) → Stand (opening ∷ spots_of_many (statements may_declare) done) whole ts → Stand (spots_of_statement x) ts rest
      → Stand (opening ∷ spots_of_many (statements may_declare) (done ++ x ∷ [])) whole rest
  further opening done x ts rest whole s q = same_spots (ap (λ (l : List Spot). opening ∷ l) (sym (spots_on (statements may_declare) done x))) (join s q)

  from_found : (n : ℕ) (opening : Spot) (done : List StatementTree) (ts whole : List Lexeme) → Stand (opening ∷ spots_of_many (statements may_declare) done) whole ts → AreAllFormed (statements may_declare) done → AreSound ts
      → Found (blocks may_declare) whole (statements_from n within may_declare opening done ts)
  from_found zero opening done ts whole s f h = tt
  from_found (suc n) opening done ts whole s f h =
      option_next (blocks may_declare) ts whole (tokens_behind mark.CloseBrace ts) _ _ (behind_leads mark.CloseBrace ts h)
      (λ rest r u. (same_spots (ap (λ (l : List Spot). opening ∷ l ++ spot_at ts ∷ []) (as_statements may_declare done)) (join s r), (are_formed may_declare done f, none_declared may_declare done f), u))
      (next (statements may_declare) (blocks may_declare) ts whole (nested_statement within may_declare ts) _ (nested_found within may_declare ts good h)
      (λ x q g v. from_found n opening (done ++ x.0 ∷ []) x.1 whole (further opening done x.0 ts x.1 whole s q) (formed_on (statements may_declare) done x.0 f g) v))

  pub block_found : (ts : List Lexeme) → AreSound ts → Found (blocks may_declare) ts (block within may_declare ts)
  unfolding block
  block_found ts h =
      want_next (blocks may_declare) mark.OpenBrace ts ts _ h (λ its r u. from_found (length its + 1) (spot_at ts) [] its ts r tt u)

-- ---- if

-- the spots of what a last `else` has
abbrev last_spots : Option StatementTree → List Spot
last_spots None = []
last_spots (Some s) = spots_of_statement s

abbrev IsLastFormed : Option StatementTree → Type 0
IsLastFormed None = Unit {0}
IsLastFormed (Some s) = IsFormed s × (is_no_declaration s ≡ true)

if_spots : (b : BranchTree) (done : List BranchTree) (o : Option StatementTree) → branches.spots b ++ spots_of_many branches done ++ last_spots o ≡ spots_of_statement (if_tree b (else_tree done o))
if_spots b [] None = append-nil (branches.spots b ++ []) ∙ append-nil (branches.spots b)
if_spots b [] (Some s) = ap (λ (l : List Spot). l ++ spots_of_statement s) (append-nil (branches.spots b))
if_spots b (d ∷ done) o =
    append_assoc (branches.spots b) (branches.spots d ++ spots_of_many branches done) (last_spots o) ∙ ap (λ (l : List Spot). branches.spots b ++ l) (if_spots d done o)

if_no_declaration : (b : BranchTree) (o : Option StatementTree) → is_no_declaration (if_tree b o) ≡ true
if_no_declaration b None = refl
if_no_declaration b (Some s) = refl

if_formed : (b : BranchTree) (done : List BranchTree) (o : Option StatementTree) → branches.formed b → AreAllFormed branches done → IsLastFormed o → IsFormed (if_tree b (else_tree done o))
if_formed b [] None h f g = h
if_formed b [] (Some s) h f g = (h.0, h.1, g.0, h.2, g.1)
if_formed b (d ∷ done) o h f g = (h.0, h.1, if_formed d done o f.0 f.1 g, h.2, if_no_declaration d (else_tree done o))

module _ (depth : ℕ) (within : List StatementLevel) (good : AreGood within) where
  branch_found : (ts : List Lexeme) → AreSound ts → Found branches ts (branch (nesting depth) within ts)
  unfolding branch
  branch_found ts h =
      want_next branches mark.If ts ts _ h
      (λ rest r u. next expressions branches rest ts (condition (nesting depth) rest) _ (condition_found (nesting depth) rest (nesting_good depth) u)
      (λ c q f v. next (statements false) branches c.1 ts (nested_statement within false c.1) _ (nested_found within false c.1 good v)
      (λ s p g w. (join r (join q p), (f, g.0, g.1 refl), w))))

  if_there : (b : BranchTree) (done : List BranchTree) (o : Option StatementTree) (whole rest : List Lexeme) → Stand (branches.spots b ++ spots_of_many branches done ++ last_spots o) whole rest → branches.formed b → AreAllFormed branches done → IsLastFormed o → AreSound rest
      → Stand (spots_of_statement (if_tree b (else_tree done o))) whole rest × (statements false).formed (if_tree b (else_tree done o)) × AreSound rest
  if_there b done o whole rest s h f g u = (same_spots (if_spots b done o) s, (if_formed b done o h f g, λ _. if_no_declaration b (else_tree done o)), u)

  ended : (b : BranchTree) (done : List BranchTree) (ts whole : List Lexeme) → Stand (branches.spots b ++ spots_of_many branches done) whole ts → branches.formed b → AreAllFormed branches done → AreSound ts
      → Found (statements false) whole (Ok (if_tree b (else_tree done None), ts))
  ended b done ts whole s h f u = if_there b done None whole ts (same_spots (sym (append-nil (branches.spots b ++ spots_of_many branches done))) s) h f tt u

  another : (b : BranchTree) (done : List BranchTree) (x : BranchTree) (ts rest whole : List Lexeme) → Stand (branches.spots b ++ spots_of_many branches done) whole ts → Stand (branches.spots x) ts rest
      → Stand (branches.spots b ++ spots_of_many branches (done ++ x ∷ [])) whole rest
  another b done x ts rest whole s q =
      same_spots (append_assoc (branches.spots b) (spots_of_many branches done) (branches.spots x) ∙ ap (λ (l : List Spot). branches.spots b ++ l) (sym (spots_on branches done x))) (join s q)

  else_found : (n : ℕ) (b : BranchTree) (done : List BranchTree) (ts whole : List Lexeme) → Stand (branches.spots b ++ spots_of_many branches done) whole ts → branches.formed b → AreAllFormed branches done → AreSound ts
      → Found (statements false) whole (else_from n (nesting depth) within b done ts)
  else_found zero b done ts whole s h f u = ended b done ts whole s h f u
  else_found (suc n) b done ts whole s h f u =
      option_next (statements false) ts whole (tokens_behind mark.Else ts) _ _ (behind_leads mark.Else ts u)
      (λ after r v. by_test (Found (statements false) whole) (is_at mark.If after) _ _
      (λ _. next branches (statements false) after whole (branch (nesting depth) within after) _ (branch_found after v)
      (λ x q g w. else_found n b (done ++ x.0 ∷ []) x.1 whole (another b done x.0 after x.1 whole (trail s (silent r)) q) h (formed_on branches done x.0 f g) w))
      (λ _. next (statements false) (statements false) after whole (nested_statement within false after) _ (nested_found within false after good v)
      (λ x q g w. if_there b done (Some x.0) whole x.1 (join (trail s (silent r)) q) h f (g.0, g.1 refl) w)))
      (ended b done ts whole s h f u)

  if_found : (ts : List Lexeme) → AreSound ts → Found (statements false) ts (if_statement (nesting depth) within ts)
  unfolding if_statement
  if_found ts h =
      next branches (statements false) ts ts (branch (nesting depth) within ts) _ (branch_found ts h)
      (λ b s f u. else_found (length b.1) b.0 [] b.1 ts (same_spots (sym (append-nil (branches.spots b.0))) s) f tt u)

  -- ---- loops and switches

  while_found : (t : Lexeme) (ts : List Lexeme) → AreSound ts → Found (statements false) (t ∷ ts) (while_statement (nesting depth) within t.spot ts)
  unfolding while_statement
  while_found t ts h =
      next expressions (statements false) ts (t ∷ ts) (condition (nesting depth) ts) _ (condition_found (nesting depth) ts (nesting_good depth) h)
      (λ c r f u. next (statements false) (statements false) c.1 (t ∷ ts) (nested_statement within false c.1) _ (nested_found within false c.1 good u)
      (λ s q g v. (told t (join r q), ((f, g.0, g.1 refl), λ _. refl), v)))

  do_found : (t : Lexeme) (ts : List Lexeme) → AreSound ts → Found (statements false) (t ∷ ts) (do_statement (nesting depth) within (t ∷ ts) ts)
  unfolding do_statement extent_before
  do_found t ts h =
      next (statements false) (statements false) ts (t ∷ ts) (nested_statement within false ts) _ (nested_found within false ts good h)
      (λ s r f u. want_next (statements false) mark.While s.1 (t ∷ ts) _ u
      (λ rest q v. next expressions (statements false) rest (t ∷ ts) (condition (nesting depth) rest) _ (condition_found (nesting depth) rest (nesting_good depth) v)
      (λ c p g w. want_next (statements false) mark.Semicolon c.1 (t ∷ ts) _ w
      (λ end z x. (told t (join (trail r (silent q)) (trail p (silent z))), ((f.0, g, f.1 refl), λ _. refl), x)))))

  for_found : (t : Lexeme) (ts : List Lexeme) → AreSound ts → Found (statements false) (t ∷ ts) (for_statement depth within t.spot ts)
  unfolding for_statement
  for_found t ts h =
      want_next (statements false) mark.OpenParenthesis ts (t ∷ ts) _ h
      (λ its r u. less_next (statements false) depth _ its (t ∷ ts) _
      (λ less. next headers (statements false) its (t ∷ ts) (for_header less its) _ (header_found less its u)
      (λ x q f v. want_next (statements false) mark.CloseParenthesis x.1 (t ∷ ts) _ v
      (λ rest p w. next (statements false) (statements false) rest (t ∷ ts) (nested_statement within false rest) _ (nested_found within false rest good w)
      (λ s z g y. (told t (join (silent r) (join (trail q (silent p)) z)), ((f.0, f.1, f.2, g.0, g.1 refl), λ _. refl), y))))))

  switch_found : (t : Lexeme) (ts : List Lexeme) → AreSound ts → Found (statements false) (t ∷ ts) (switch_statement (nesting depth) within t.spot ts)
  unfolding switch_statement
  switch_found t ts h =
      next expressions (statements false) ts (t ∷ ts) (condition (nesting depth) ts) _ (condition_found (nesting depth) ts (nesting_good depth) h)
      (λ e r f u. deeper_next (statements false) within _ e.1 (t ∷ ts) _ good
      (λ deeper gd. next (blocks false) (statements false) e.1 (t ∷ ts) (block deeper false e.1) _ (block_found deeper gd false e.1 u)
      (λ b q g v. (told t (same_spots (sym (append_assoc (spots_of e.0) (b.0.opening ∷ spots_of_statements (chain_of_statements b.0.statements)) (b.0.closing ∷ []))) (join r q)), ((f, g.0, g.1 refl), λ _. refl), v))))

  -- ---- statements without labels

  break_found : (t : Lexeme) (ts : List Lexeme) → AreSound ts → Found (statements false) (t ∷ ts) (want mark.Semicolon ts >>= λ rest. Ok (tree.Break (extent_before (t ∷ ts) rest), rest))
  unfolding extent_before
  break_found t ts h = want_next (statements false) mark.Semicolon ts (t ∷ ts) _ h (λ rest r u. (told t (silent r), (tt, λ _. refl), u))

  continue_found : (t : Lexeme) (ts : List Lexeme) → AreSound ts → Found (statements false) (t ∷ ts) (want mark.Semicolon ts >>= λ rest. Ok (tree.Continue (extent_before (t ∷ ts) rest), rest))
  unfolding extent_before
  continue_found t ts h = want_next (statements false) mark.Semicolon ts (t ∷ ts) _ h (λ rest r u. (told t (silent r), (tt, λ _. refl), u))

  compound_found : (ts : List Lexeme) → AreSound ts → Found (statements false) ts (block within true ts >>= λ b. Ok (block_tree b.0, b.1))
  compound_found ts h = next (blocks true) (statements false) ts ts (block within true ts) _ (block_found within good true ts h) (λ b s f u. (s, (f.0, λ _. refl), u))

  unlabeled_found_of : (w : Word) (t : Lexeme) (ts : List Lexeme) → AreSound (t ∷ ts) → Found (statements false) (t ∷ ts) (unlabeled_of depth within w t ts)
  unlabeled_found_of (word.Punctuator punctuator.Semicolon) t ts h = (told t none, (tt, λ _. refl), h.1)
  unlabeled_found_of (word.Punctuator punctuator.OpenBrace) t ts h = compound_found (t ∷ ts) h
  unlabeled_found_of (word.Keyword keyword.If) t ts h = if_found (t ∷ ts) h
  unlabeled_found_of (word.Keyword keyword.While) t ts h = while_found t ts h.1
  unlabeled_found_of (word.Keyword keyword.Do) t ts h = do_found t ts h.1
  unlabeled_found_of (word.Keyword keyword.For) t ts h = for_found t ts h.1
  unlabeled_found_of (word.Keyword keyword.Switch) t ts h = switch_found t ts h.1
  unlabeled_found_of (word.Keyword keyword.Break) t ts h = break_found t ts h.1
  unlabeled_found_of (word.Keyword keyword.Continue) t ts h = continue_found t ts h.1
  unlabeled_found_of (word.Keyword keyword.Return) t ts h = return_found (nesting depth) (nesting_good depth) t ts h.1
  unlabeled_found_of w t ts h = expression_statement_found (nesting depth) (nesting_good depth) (t ∷ ts) h

  unlabeled_found : (ts : List Lexeme) → AreSound ts → Found (statements false) ts (unlabeled depth within ts)
  unfolding unlabeled
  unlabeled_found [] h = tt
  unlabeled_found (t ∷ ts) h = unlabeled_found_of t.kind t ts h

-- ---- labels

label_spots : (all : List LabelTree) (s : StatementTree) → spots_of_many label_shape all ++ spots_of_statement s ≡ spots_of_statement (behind_labels all s)
label_spots [] s = refl
label_spots (CaseLabel extent e ∷ all) s =
    ap (λ (l : List Spot). extent.first ∷ l) (append_assoc (spots_of e) (spots_of_many label_shape all) (spots_of_statement s) ∙ ap (λ (l : List Spot). spots_of e ++ l) (label_spots all s))
label_spots (DefaultLabel extent ∷ all) s = ap (λ (l : List Spot). extent.first ∷ l) (label_spots all s)

label_formed : (all : List LabelTree) (s : StatementTree) → AreAllFormed label_shape all → IsFormed s → is_no_declaration s ≡ true → IsFormed (behind_labels all s) × (is_no_declaration (behind_labels all s) ≡ true)
label_formed [] s h f e = (f, e)
label_formed (CaseLabel extent v ∷ all) s h f e = let l = label_formed all s h.1 f e in ((h.0, l.0, l.1), refl)
label_formed (DefaultLabel extent ∷ all) s h f e = let l = label_formed all s h.1 f e in ((l.0, l.1), refl)

module _ (depth : ℕ) (within : List StatementLevel) (good : AreGood within) where
  in_found : (may_declare : Bool) (ts : List Lexeme) → AreSound ts → Found (statements may_declare) ts (statement_in depth within ts)
  unfolding statement_in
  in_found may_declare ts h =
      next (many label_shape) (statements may_declare) ts ts (labels (length ts + 1) (nesting depth) [] ts) _ (labels_found (nesting depth) (nesting_good depth) (length ts + 1) [] ts ts none tt h)
      (λ all r f u. next (statements false) (statements may_declare) all.1 ts (unlabeled depth within all.1) _ (unlabeled_found depth within good all.1 u)
      (λ s q g v. let l = label_formed all.0 s.0 f g.0 (g.1 refl) in (same_spots (label_spots all.0 s.0) (join r q), (l.0, λ _. l.1), v)))

  of_found : (may_declare : Bool) (ts : List Lexeme) → AreSound ts → Found (statements may_declare) ts (statement_of depth within may_declare ts)
  of_found true ts h =
      by_test (Found (statements true) ts) (begins_type ts) _ _
      (λ _. next declarations (statements true) ts ts (declaration depth ts) _ (declaration_found depth ts h) (λ d s f u. (s, (f, λ e. absurd cc), u)))
      (λ _. in_found true ts h)
  of_found false ts h = in_found false ts h

pub statements_good : (depth : ℕ) → AreGood (reading.statements depth)
unfolding reading.statements
statements_good zero = tt
statements_good (suc depth) = ((λ may_declare ts h. of_found depth (reading.statements depth) (statements_good depth) may_declare ts h), statements_good depth)
