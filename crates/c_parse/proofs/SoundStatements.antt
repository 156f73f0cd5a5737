-- What is read as a statement is spelled by its tokens, and nests no deeper than it may.
use Rattle.std.proofs.Common.{◌≡◌, ℕ, zero, suc, ◌+◌, ◌≤◌, Bool, true, false, cond, List, [], ◌∷◌, ◌++◌, length, Option, Some, None, Result, Ok, Err, refl, sym, ap, ◌∙◌, subst, append-nil, append_assoc, arith}
use Rattle.std.specs.Prelude.{if◌then◌else◌}
use Rattle.std.specs.Option.{option_map_or}
use Rattle.debug_records.specs.declared.source.Spot.{Spot}
use Rattle.c_token.specs.declared.token.Keyword.TheVariants as keyword
use Rattle.c_token.specs.declared.token.Punctuator.{Punctuator}
use Rattle.c_token.specs.declared.token.Punctuator.TheVariants as punctuator
use Rattle.c_token.specs.Lexemes.{Lexeme, Word}
use Rattle.c_token.specs.Lexemes as word
use Rattle.c_tree.specs.Expressions.{ExpressionTree}
use Rattle.c_tree.specs.Statements.{StatementTree, StatementTrees, BlockTree, BranchTree, LabelTree, CaseLabel, DefaultLabel, labeled, if_tree, else_tree, behind_labels, block_tree, chain_of_statements}
use Rattle.c_tree.specs.Statements as tree
use Rattle.c_parse_tokens.specs.declared.fault.Stuck.{Stuck}
use Rattle.c_parse_tokens.specs.declared.mark.Mark.{Mark}
use Rattle.c_parse_tokens.specs.declared.mark.Mark.TheVariants as mark
use Rattle.c_parse_tokens.specs.Outcome.{◌>>=◌}
use Rattle.c_parse_tokens.specs.Front.{stuck, is, is_at, tokens_behind, want, spot_at, last_before, extent_before}
use Rattle.c_parse_tokens.specs.Specifiers.{begins_type}
use Rattle.c_parse_expressions.specs.declared.expression.Sort.TheVariants as sort
use Rattle.c_parse_expressions.specs.Expressions.{nested, conditional, comma, nesting}
use Rattle.c_parse_statements.specs.Declarations.{declaration}
use Rattle.c_parse_statements.specs.Clauses.{condition, optional, start_of, for_start, HeaderTree, for_header, expression_statement, return_statement, label_of, label, labels}
use Rattle.c_parse_statements.specs.Statements as reading
use Rattle.c_parse_statements.specs.Statements.{StatementLevel, nested_statement, statements_from, block, branch, else_from, if_statement, while_statement, do_statement, for_statement, switch_statement, unlabeled_of, unlabeled, statement_in, statement_of}
use Rattle.c_parse.specs.Tokens.{Grammar, IsPunctuator, IsKeyword, from_to}
use Rattle.c_parse.specs.Expressions.{IsConditional, IsExpression}
use Rattle.c_parse.specs.Declarations.{IsDeclaration}
use Rattle.c_parse.specs.Statements.{IsCondition, IsOptional, nothing, something, IsStart, nothing_first, value_first, declaration_first, IsNoElse, at_end, other, IsStatement, AreStatements, no_statement, statement, declares}
use Rattle.c_parse.specs.Statements as grammar
use Rattle.c_parse.specs.Depths.{is_if}
use Rattle.c_parse.proofs.Nesting.{Within, Nests, NestsIfAny, StartNests, Else, StatementNests, StatementsNest}
use Rattle.c_parse.proofs.Words.{is_word, no}
use Rattle.c_parse.proofs.Passing.{Passes, here, behind as passed, join, step, no_longer, last_known}
use Rattle.c_parse.proofs.ExpressionsPass.{conditional_passes, expression_passes}
use Rattle.c_parse.proofs.StatementsPass.{condition_passes, statement_passes}
use Rattle.c_parse.proofs.Reading.{Found, by_test, next, seen, want_next, behind_next, want_first, next_any, want_any}
use Rattle.c_parse.proofs.SoundExpressions.{IsOf, Deep, Inner, nested_found, conditional_found, comma_found, all_good}
use Rattle.c_parse.proofs.SoundDeclarations.{DeepDeclaration, declaration_found}

-- ---- parts without statements

abbrev Condition : ℕ → Grammar ExpressionTree
Condition depth e ts rest = IsCondition e ts rest × Within depth (λ d. Nests e d)

condition_found : (depth : ℕ) (ts : List Lexeme) → Found (Condition depth) ts (condition (nesting depth) ts)
unfolding condition
condition_found depth ts =
    want_first (Condition depth) mark.OpenParenthesis ts _
    (λ t its k. next (Inner depth (IsOf sort.Comma)) (Condition depth) its (t ∷ its) (nested (nesting depth) sort.Comma its) _ (nested_found depth sort.Comma its (all_good depth))
    (λ e d. want_next (Condition depth) mark.CloseParenthesis e.1 (t ∷ its) _ (λ l. IsExpression e.0 its l) d.0
    (λ c rest is x. (grammar.condition k x is, d.1))))

-- an expression, or none, before the mark that ends it
data IsIfAny : Option ExpressionTree → List Lexeme → List Lexeme → Type 0 where
  absent : {rest : List Lexeme} → IsIfAny None rest rest
  present : {e : ExpressionTree} {ts rest : List Lexeme} → IsExpression e ts rest → IsIfAny (Some e) ts rest

abbrev IfAny : ℕ → Grammar (Option ExpressionTree)
IfAny depth o ts rest = IsIfAny o ts rest × NestsIfAny o depth

optional_found : (depth : ℕ) (m : Mark) (ts : List Lexeme) → Found (IfAny depth) ts (optional (nesting depth) m ts)
unfolding optional
optional_found depth m ts =
    by_test (Found (IfAny depth) ts) (is_at m ts) _ _ (λ _. (absent, tt))
    (λ _. next (Deep depth IsExpression) (IfAny depth) ts ts (comma (nesting depth) ts) _ (comma_found depth (all_good depth) ts) (λ e d. (present d.0, d.1)))

ended : {end : Punctuator} {o : Option ExpressionTree} {c : Lexeme} {ts rest l : List Lexeme} → l ≡ c ∷ rest → IsIfAny o ts l → IsPunctuator end c → IsOptional end o ts rest
ended {end} {o} {c} {ts} {rest} same absent k = subst (λ (m : List Lexeme). IsOptional end None m rest) (sym same) (nothing k)
ended {end} {o} {c} {ts} {rest} same (present {e = e} x) k = something (subst (λ (m : List Lexeme). IsExpression e ts m) same x) k

-- ---- the header of a `for`

abbrev Start : ℕ → Grammar tree.StartTree
Start depth s ts rest = IsStart s ts rest × StartNests s depth

start_there : (depth : ℕ) (o : Option ExpressionTree) {ts rest : List Lexeme} → IsOptional punctuator.Semicolon o ts rest → NestsIfAny o depth → Start depth (start_of o) ts rest
start_there depth None x d = (nothing_first x, tt)
start_there depth (Some e) x d = (value_first x, d)

start_found : (depth : ℕ) (ts : List Lexeme) → Found (Start depth) ts (for_start depth ts)
unfolding for_start
start_found depth ts =
    by_test (Found (Start depth) ts) (begins_type ts) _ _
    (λ _. next (DeepDeclaration depth) (Start depth) ts ts (declaration depth ts) _ (declaration_found depth ts) (λ d h. (declaration_first h.0, h.1)))
    (λ _. next (IfAny depth) (Start depth) ts ts (optional (nesting depth) mark.Semicolon ts) _ (optional_found depth mark.Semicolon ts)
    (λ e d. want_next (Start depth) mark.Semicolon e.1 ts _ (λ l. IsIfAny e.0 ts l) d.0
    (λ c rest is x. start_there depth e.0 (ended refl x is) d.1)))

-- the parts of a `for`, up to its parenthesis
record IsHeader (h : HeaderTree) (ts rest : List Lexeme) : Type 0 where
  its : List Lexeme
  more : List Lexeme
  start : IsStart h.start ts its
  condition : IsOptional punctuator.Semicolon h.condition its more
  step : IsIfAny h.step more rest

abbrev Header : ℕ → Grammar HeaderTree
Header depth h ts rest = IsHeader h ts rest × StartNests h.start depth × NestsIfAny h.condition depth × NestsIfAny h.step depth

header_found : (depth : ℕ) (ts : List Lexeme) → Found (Header depth) ts (for_header depth ts)
unfolding for_header
header_found depth ts =
    next (Start depth) (Header depth) ts ts (for_start depth ts) _ (start_found depth ts)
    (λ s d. next (IfAny depth) (Header depth) s.1 ts (optional (nesting depth) mark.Semicolon s.1) _ (optional_found depth mark.Semicolon s.1)
    (λ c g. want_next (Header depth) mark.Semicolon c.1 ts _ (λ l. IsIfAny c.0 s.1 l) g.0
    (λ k rest is x. next (IfAny depth) (Header depth) rest ts (optional (nesting depth) mark.CloseParenthesis rest) _ (optional_found depth mark.CloseParenthesis rest)
    (λ p f. (record { its = s.1; more = rest; start = d.0; condition = ended refl x is; step = f.0 }, d.1, g.1, f.1)))))

-- ---- labels

abbrev pub DeepStatement : ℕ → Grammar StatementTree
DeepStatement depth s ts rest = IsStatement s ts rest × StatementNests s depth

-- with a label before it, a statement is one
abbrev OneLabel : ℕ → Grammar LabelTree
OneLabel depth l ts mid = (s : StatementTree) (rest : List Lexeme) → DeepStatement depth s mid rest → DeepStatement depth (labeled l s) ts rest

-- a label, or none
abbrev MayLabel : ℕ → List Lexeme → Result (Option (LabelTree × List Lexeme)) Stuck → Type 0
MayLabel depth ts (Err s) = Unit {0}
MayLabel depth ts (Ok None) = Unit {0}
MayLabel depth ts (Ok (Some x)) = OneLabel depth x.0 ts x.1

label_found_of : (depth : ℕ) (w : Word) (t : Lexeme) (ts : List Lexeme) → t.kind ≡ w → MayLabel depth (t ∷ ts) (label_of (nesting depth) w t ts)
unfolding extent_before
label_found_of depth (word.Keyword keyword.Case) t ts k =
    next_any (Deep depth IsConditional) (MayLabel depth (t ∷ ts)) (λ s. tt) ts (conditional (nesting depth) ts) _ (conditional_found depth (all_good depth) ts)
    (λ e d. want_any (MayLabel depth (t ∷ ts)) (λ s. tt) mark.Colon e.1 _ (λ l. IsConditional e.0 ts l) d.0
    (λ c mid is x. λ s rest h. let before : last_before (t ∷ ts) mid ≡ c.spot.at = last_known (passed (conditional_passes x)) in (rw before (grammar.case k x is h.0), (d.1, h.1))))
label_found_of depth (word.Keyword keyword.Default) t ts k =
    want_any (MayLabel depth (t ∷ ts)) (λ s. tt) mark.Colon ts _ (λ l. l ≡ ts) refl
    (λ c mid is same. λ s rest h. let before : last_before (t ∷ ts) mid ≡ c.spot.at = last_known (passed (subst (λ (l : List Lexeme). Passes l (c ∷ mid)) same here)) in
    (rw before (subst (λ (l : List Lexeme). IsStatement (tree.Default (from_to t c) s) (t ∷ l) rest) same (grammar.default k is h.0)), h.1))
label_found_of depth w t ts k = tt

label_found : (depth : ℕ) (ts : List Lexeme) → MayLabel depth ts (label (nesting depth) ts)
unfolding label
label_found depth [] = tt
label_found depth (t ∷ ts) = label_found_of depth t.kind t ts refl

-- with labels before it, a statement is one
abbrev Labels : ℕ → Grammar (List LabelTree)
Labels depth all ts mid = (s : StatementTree) (rest : List Lexeme) → DeepStatement depth s mid rest → DeepStatement depth (behind_labels all s) ts rest

pub label_on : (all : List LabelTree) (l : LabelTree) (s : StatementTree) → behind_labels (all ++ l ∷ []) s ≡ behind_labels all (labeled l s)
label_on [] l s = refl
label_on (x ∷ all) l s = ap (λ (r : StatementTree). labeled x r) (label_on all l s)

one_label : (depth : ℕ) (all : List LabelTree) (l : LabelTree) (whole ts mid : List Lexeme) → Labels depth all whole ts → OneLabel depth l ts mid → Labels depth (all ++ l ∷ []) whole mid
one_label depth all l whole ts mid h g s rest d = subst (λ (r : StatementTree). DeepStatement depth r whole rest) (sym (label_on all l s)) (h (labeled l s) rest (g s rest d))

labels_step : (depth n : ℕ) (done : List LabelTree) (ts whole : List Lexeme) → Labels depth done whole ts
    → ((all : List LabelTree) (mid : List Lexeme) → Labels depth all whole mid → Found (Labels depth) whole (labels n (nesting depth) all mid))
    → (r : Result (Option (LabelTree × List Lexeme)) Stuck) → MayLabel depth ts r
    → Found (Labels depth) whole (r >>= λ l. option_map_or (λ x. labels n (nesting depth) (done ++ x.0 ∷ []) x.1) l (Ok (done, ts)))
labels_step depth n done ts whole h on (Err s) g = tt
labels_step depth n done ts whole h on (Ok None) g = h
labels_step depth n done ts whole h on (Ok (Some x)) g = on (done ++ x.0 ∷ []) x.1 (one_label depth done x.0 whole ts x.1 h g)

labels_found : (depth n : ℕ) (done : List LabelTree) (ts whole : List Lexeme) → Labels depth done whole ts → Found (Labels depth) whole (labels n (nesting depth) done ts)
labels_found depth zero done ts whole h = h
labels_found depth (suc n) done ts whole h = labels_step depth n done ts whole h (λ all mid g. labels_found depth n all mid whole g) (label (nesting depth) ts) (label_found depth ts)

-- ---- statements without statements within

run_found : (depth : ℕ) (ts : List Lexeme) → Found (DeepStatement depth) ts (expression_statement (nesting depth) ts)
unfolding expression_statement
run_found depth ts =
    next (Deep depth IsExpression) (DeepStatement depth) ts ts (comma (nesting depth) ts) _ (comma_found depth (all_good depth) ts)
    (λ e d. want_next (DeepStatement depth) mark.Semicolon e.1 ts _ (λ l. IsExpression e.0 ts l) d.0
    (λ c rest is x. let before : last_before ts rest ≡ c.spot.at = last_known (expression_passes x) in (rw before (grammar.run x is), d.1)))

returned : {t c : Lexeme} (o : Option ExpressionTree) {ts rest l : List Lexeme} → l ≡ c ∷ rest → IsKeyword keyword.Return t → IsIfAny o ts l → IsPunctuator punctuator.Semicolon c
    → IsStatement (tree.Return (record { first = t.spot; last = last_before (t ∷ ts) rest }) o) (t ∷ ts) rest
returned {t} {c} o {ts} {rest} same k absent is =
    let before : last_before (t ∷ ts) rest ≡ c.spot.at = last_known (passed (subst (λ (l : List Lexeme). Passes ts l) same here)) in
    rw before (subst (λ (l : List Lexeme). IsStatement (tree.Return (from_to t c) None) (t ∷ l) rest) (sym same) (grammar.return k is))
returned {t} {c} o {ts} {rest} same k (present {e = e} x) is =
    let y = subst (λ (l : List Lexeme). IsExpression e ts l) same x in
    let before : last_before (t ∷ ts) rest ≡ c.spot.at = last_known (passed (expression_passes y)) in
    rw before (grammar.return_value k y is)

return_found : (depth : ℕ) (t : Lexeme) (ts : List Lexeme) → IsKeyword keyword.Return t → Found (DeepStatement depth) (t ∷ ts) (return_statement (nesting depth) (t ∷ ts) ts)
unfolding return_statement extent_before
return_found depth t ts k =
    next (IfAny depth) (DeepStatement depth) ts (t ∷ ts) (optional (nesting depth) mark.Semicolon ts) _ (optional_found depth mark.Semicolon ts)
    (λ e d. want_next (DeepStatement depth) mark.Semicolon e.1 (t ∷ ts) _ (λ l. IsIfAny e.0 ts l) d.0
    (λ c rest is x. (returned e.0 refl k x is, d.1)))

break_found : (depth : ℕ) (t : Lexeme) (ts : List Lexeme) → IsKeyword keyword.Break t → Found (DeepStatement depth) (t ∷ ts) (want mark.Semicolon ts >>= λ rest. Ok (tree.Break (extent_before (t ∷ ts) rest), rest))
unfolding extent_before
break_found depth t ts k =
    want_next (DeepStatement depth) mark.Semicolon ts (t ∷ ts) _ (λ l. l ≡ ts) refl
    (λ c rest is same. let before : last_before (t ∷ ts) rest ≡ c.spot.at = last_known (passed (subst (λ (l : List Lexeme). Passes l (c ∷ rest)) same here)) in
    (rw before (subst (λ (l : List Lexeme). IsStatement (tree.Break (from_to t c)) (t ∷ l) rest) same (grammar.break k is)), tt))

continue_found : (depth : ℕ) (t : Lexeme) (ts : List Lexeme) → IsKeyword keyword.Continue t → Found (DeepStatement depth) (t ∷ ts) (want mark.Semicolon ts >>= λ rest. Ok (tree.Continue (extent_before (t ∷ ts) rest), rest))
unfolding extent_before
continue_found depth t ts k =
    want_next (DeepStatement depth) mark.Semicolon ts (t ∷ ts) _ (λ l. l ≡ ts) refl
    (λ c rest is same. let before : last_before (t ∷ ts) rest ≡ c.spot.at = last_known (passed (subst (λ (l : List Lexeme). Passes l (c ∷ rest)) same here)) in
    (rw before (subst (λ (l : List Lexeme). IsStatement (tree.Continue (from_to t c)) (t ∷ l) rest) same (grammar.continue k is)), tt))

-- ---- what nests

-- what may stand in a block
pub data IsBlockItem (may_declare : Bool) : StatementTree → List Lexeme → List Lexeme → Type 0 where
  a_statement : {s : StatementTree} {ts rest : List Lexeme} → IsStatement s ts rest → IsBlockItem may_declare s ts rest
  a_declaration : {d : _} {ts rest : List Lexeme} → may_declare ≡ true → IsDeclaration d ts rest → IsBlockItem may_declare (tree.Declare d) ts rest

abbrev pub DeepItem : ℕ → Bool → Grammar StatementTree
DeepItem depth may_declare s ts rest = IsBlockItem may_declare s ts rest × StatementNests s depth

abbrev InnerItem : ℕ → Bool → Grammar StatementTree
InnerItem depth may_declare s ts rest = IsBlockItem may_declare s ts rest × Within depth (λ d. StatementNests s d)

is_statement : {s : StatementTree} {ts rest : List Lexeme} → IsBlockItem false s ts rest → IsStatement s ts rest
is_statement (a_statement s) = s
is_statement (a_declaration e d) = no e

-- what is read with so many levels is spelled
abbrev pub Goods : ℕ → Type 0
Goods zero = Unit {0}
Goods (suc depth) = ((may_declare : Bool) (ts : List Lexeme) → Found (DeepItem depth may_declare) ts (statement_of depth (reading.statements depth) may_declare ts)) × Goods depth

item_found : (depth : ℕ) (may_declare : Bool) (ts : List Lexeme) → Goods depth → Found (InnerItem depth may_declare) ts (nested_statement (reading.statements depth) may_declare ts)
unfolding nested_statement reading.statements
item_found zero may_declare ts g = tt
item_found (suc depth) may_declare ts g = g.0 may_declare ts

abbrev InnerStatement : ℕ → Grammar StatementTree
InnerStatement depth s ts rest = IsStatement s ts rest × Within depth (λ d. StatementNests s d)

inner_found : (depth : ℕ) (ts : List Lexeme) → Goods depth → Found (InnerStatement depth) ts (nested_statement (reading.statements depth) false ts)
inner_found depth ts g = seen (InnerItem depth false) (InnerStatement depth) ts ts (nested_statement (reading.statements depth) false ts) (λ s rest h. (is_statement h.0, h.1)) (item_found depth false ts g)

-- ---- blocks

pub data IsBlock (may_declare : Bool) : BlockTree → List Lexeme → List Lexeme → Type 0 where
  a_block : {opening closing : Lexeme} {all : List StatementTree} {ts rest : List Lexeme} → IsPunctuator punctuator.OpenBrace opening → AreStatements may_declare (chain_of_statements all) ts (closing ∷ rest)
      → IsPunctuator punctuator.CloseBrace closing → IsBlock may_declare (record { opening = opening.spot; statements = all; closing = closing.spot }) (opening ∷ ts) rest

abbrev pub Block : ℕ → Bool → Grammar BlockTree
Block depth may_declare b ts rest = IsBlock may_declare b ts rest × StatementsNest (chain_of_statements b.statements) depth

-- with these statements before them, statements are some
abbrev Before : ℕ → Bool → List StatementTree → (whole ts : List Lexeme) → Type 0
Before depth may_declare done whole ts = (more : List StatementTree) (rest : List Lexeme) → AreStatements may_declare (chain_of_statements more) ts rest → StatementsNest (chain_of_statements more) depth
    → AreStatements may_declare (chain_of_statements (done ++ more)) whole rest × StatementsNest (chain_of_statements (done ++ more)) depth

one_item : {may_declare : Bool} {s : StatementTree} (more : List StatementTree) {ts mid rest : List Lexeme} → IsBlockItem may_declare s ts mid → AreStatements may_declare (chain_of_statements more) mid rest → AreStatements may_declare (chain_of_statements (s ∷ more)) ts rest
one_item more (a_statement s) r = statement s r
one_item more (a_declaration e d) r = declares e d r

before_on : (depth : ℕ) (may_declare : Bool) (done : List StatementTree) (s : StatementTree) (whole ts mid : List Lexeme) → Before depth may_declare done whole ts → InnerItem depth may_declare s ts mid → Before depth may_declare (done ++ s ∷ []) whole mid
before_on depth may_declare done s whole ts mid h g more rest r n =
    subst (λ (l : List StatementTree). AreStatements may_declare (chain_of_statements l) whole rest × StatementsNest (chain_of_statements l) depth) (sym (append_assoc done (s ∷ []) more)) (h (s ∷ more) rest (one_item more g.0 r) (g.1, n))

module _ (depth : ℕ) (good : Goods depth) (may_declare : Bool) where
  from_found : (n : ℕ) (opening : Lexeme) (done : List StatementTree) (ts its : List Lexeme) → IsPunctuator punctuator.OpenBrace opening → Before depth may_declare done its ts
      → Found (Block depth may_declare) (opening ∷ its) (statements_from n (reading.statements depth) may_declare opening.spot done ts)
  unfolding tokens_behind
  from_found zero opening done ts its o h = tt
  from_found (suc n) opening done [] its o h =
      next (InnerItem depth may_declare) (Block depth may_declare) [] (opening ∷ its) (nested_statement (reading.statements depth) may_declare []) _ (item_found depth may_declare [] good)
      (λ s g. from_found n opening (done ++ s.0 ∷ []) s.1 its o (before_on depth may_declare done s.0 its [] s.1 h g))
  from_found (suc n) opening done (t ∷ ts) its o h =
      behind_next (Block depth may_declare) mark.CloseBrace (t ∷ ts) (opening ∷ its) _ _ (λ l. l ≡ t ∷ ts) refl
      (λ u rest k same. let all = closed u rest k same in (all.0, all.1))
      (next (InnerItem depth may_declare) (Block depth may_declare) (t ∷ ts) (opening ∷ its) (nested_statement (reading.statements depth) may_declare (t ∷ ts)) _ (item_found depth may_declare (t ∷ ts) good)
      (λ s g. from_found n opening (done ++ s.0 ∷ []) s.1 its o (before_on depth may_declare done s.0 its (t ∷ ts) s.1 h g)))
    where
      closed : (u : Lexeme) (rest : List Lexeme) → IsPunctuator punctuator.CloseBrace u → u ∷ rest ≡ t ∷ ts → Block depth may_declare (record { opening = opening.spot; statements = done; closing = t.spot }) (opening ∷ its) rest
      closed u rest k same =
          let x = h [] (u ∷ rest) (subst (λ (l : List Lexeme). AreStatements may_declare (chain_of_statements []) l (u ∷ rest)) same no_statement) tt in
          let y = subst (λ (l : List StatementTree). AreStatements may_declare (chain_of_statements l) its (u ∷ rest) × StatementsNest (chain_of_statements l) depth) (append-nil done) x in
          let spots : u.spot ≡ t.spot = ap (λ (l : List Lexeme). (spot_at l)) same in
          subst (λ (s : Spot). Block depth may_declare (record { opening = opening.spot; statements = done; closing = s }) (opening ∷ its) rest) spots (a_block o y.0 k, y.1)

  pub block_found : (ts : List Lexeme) → Found (Block depth may_declare) ts (block (reading.statements depth) may_declare ts)
  unfolding block want tokens_behind
  block_found ts = want_open ts
    where
      want_open : (l : List Lexeme) → Found (Block depth may_declare) l (want mark.OpenBrace l >>= λ its. statements_from (length its + 1) (reading.statements depth) may_declare (spot_at l) [] its)
      want_open [] = tt
      want_open (t ∷ ts) = by (is mark.OpenBrace t.kind) refl
        where
          by : (b : Bool) → is mark.OpenBrace t.kind ≡ b → Found (Block depth may_declare) (t ∷ ts) (option_map_or (λ rest. Ok rest) (cond b (Some ts) None) (Err (stuck (t ∷ ts))) >>= λ its. statements_from (length its + 1) (reading.statements depth) may_declare t.spot [] its)
          by true e = from_found (length ts + 1) t [] ts ts (is_word mark.OpenBrace t.kind e) (λ more rest r n. (r, n))
          by false e = tt

-- ---- if

data IsBranch : BranchTree → List Lexeme → List Lexeme → Type 0 where
  a_branch : {t : Lexeme} {c : ExpressionTree} {s : StatementTree} {ts mid rest : List Lexeme} → IsKeyword keyword.If t → IsCondition c ts mid → IsStatement s mid rest
      → IsBranch (record { spot = t.spot; condition = c; then = s }) (t ∷ ts) rest

abbrev Branch : ℕ → Grammar BranchTree
Branch depth b ts rest = IsBranch b ts rest × Within depth (λ d. Nests b.condition d) × Within depth (λ d. StatementNests b.then d)

branch_passes : {b : BranchTree} {ts rest : List Lexeme} → IsBranch b ts rest → Passes ts rest
branch_passes (a_branch k c s) = passed (join (condition_passes c) (statement_passes s))

-- what stands behind a branch, and ends an `if`
data Ending : Option StatementTree → List Lexeme → List Lexeme → Type 0 where
  no_else : {rest : List Lexeme} → IsNoElse rest → Ending None rest rest
  an_else : {t : Lexeme} {s : StatementTree} {ts rest : List Lexeme} → IsKeyword keyword.Else t → IsStatement s ts rest → Ending (Some s) (t ∷ ts) rest

abbrev EndingNests : Option StatementTree → ℕ → Type 0
EndingNests None depth = Unit {0}
EndingNests (Some s) depth = Else (is_if s) depth (λ d. StatementNests s d)

ended_if : {b : BranchTree} {o : Option StatementTree} {ts mid rest : List Lexeme} → IsBranch b ts mid → Ending o mid rest → IsStatement (if_tree b o) ts rest
ended_if (a_branch k c s) (no_else n) = grammar.if k c s n
ended_if (a_branch k c s) (an_else e r) = grammar.if_else k c s e r

if_nests : (b : BranchTree) (o : Option StatementTree) (depth : ℕ) → Within depth (λ d. Nests b.condition d) × Within depth (λ d. StatementNests b.then d) → EndingNests o depth → StatementNests (if_tree b o) depth
if_nests b None depth h g = h
if_nests b (Some s) depth h g = (h.0, h.1, g)

pub is_an_if : (b : BranchTree) (o : Option StatementTree) → is_if (if_tree b o) ≡ true
is_an_if b None = refl
is_an_if b (Some s) = refl

-- with these branches before it, an ending makes an `if`
abbrev Chain : ℕ → BranchTree → List BranchTree → (whole ts : List Lexeme) → Type 0
Chain depth b done whole ts = (o : Option StatementTree) (rest : List Lexeme) → Ending o ts rest → EndingNests o depth → DeepStatement depth (if_tree b (else_tree done o)) whole rest

pub else_on : (done : List BranchTree) (x : BranchTree) (o : Option StatementTree) → else_tree (done ++ x ∷ []) o ≡ else_tree done (Some (if_tree x o))
else_on [] x o = refl
else_on (y ∷ done) x o = ap (λ (r : Option StatementTree). Some (if_tree y r)) (else_on done x o)

chain_on : (depth : ℕ) (b : BranchTree) (done : List BranchTree) (x : BranchTree) (whole : List Lexeme) (t : Lexeme) (ts mid : List Lexeme) → IsKeyword keyword.Else t → Chain depth b done whole (t ∷ ts) → Branch depth x ts mid
    → Chain depth b (done ++ x ∷ []) whole mid
chain_on depth b done x whole t ts mid k h g o rest e n =
    subst (λ (r : Option StatementTree). DeepStatement depth (if_tree b r) whole rest) (sym (else_on done x o))
    (h (Some (if_tree x o)) rest (an_else k (ended_if g.0 e)) (rw (is_an_if x o) (if_nests x o depth (g.1, g.2) n)))

-- a statement whose first token is no `if` is none
no_if : {s : StatementTree} {ts rest : List Lexeme} → IsStatement s ts rest → is_at mark.If ts ≡ false → is_if s ≡ false
unfolding is_at
no_if (grammar.if {t = t} k c s n) e = let i : is mark.If t.kind ≡ true = rw k refl in let z : false ≡ true = sym e ∙ i in no z
no_if (grammar.if_else {t = t} k c s u r) e = let i : is mark.If t.kind ≡ true = rw k refl in let z : false ≡ true = sym e ∙ i in no z
no_if (grammar.case k x c s) e = refl
no_if (grammar.default k c s) e = refl
no_if (grammar.compound o all c) e = refl
no_if (grammar.empty k) e = refl
no_if (grammar.run x k) e = refl
no_if (grammar.switch k x o all c) e = refl
no_if (grammar.while k c s) e = refl
no_if (grammar.do_while k s w c u) e = refl
no_if (grammar.for k o start c t s) e = refl
no_if (grammar.break k u) e = refl
no_if (grammar.continue k u) e = refl
no_if (grammar.return k u) e = refl
no_if (grammar.return_value k x c) e = refl

no_else_there : (t : Lexeme) (ts : List Lexeme) → is mark.Else t.kind ≡ false → IsNoElse (t ∷ ts)
no_else_there t ts e = other (λ k. let i : is mark.Else t.kind ≡ true = rw k refl in let z : false ≡ true = sym e ∙ i in no z)

module _ (depth : ℕ) (good : Goods depth) where
  branch_found : (ts : List Lexeme) → Found (Branch depth) ts (branch (nesting depth) (reading.statements depth) ts)
  unfolding branch want tokens_behind
  branch_found [] = tt
  branch_found (t ∷ ts) =
      want_next (Branch depth) mark.If (t ∷ ts) (t ∷ ts) _ (λ l. l ≡ t ∷ ts) refl
      (λ u rest k same. next (Condition depth) (Branch depth) rest (t ∷ ts) (condition (nesting depth) rest) _ (condition_found depth rest)
      (λ c d. next (InnerStatement depth) (Branch depth) c.1 (t ∷ ts) (nested_statement (reading.statements depth) false c.1) _ (inner_found depth c.1 good)
      (λ s g. (made u rest k same c.0 c.1 s.0 s.1 d.0 g.0, d.1, g.1))))
    where
      made : (u : Lexeme) (rest : List Lexeme) → IsKeyword keyword.If u → u ∷ rest ≡ t ∷ ts → (c : ExpressionTree) (mid : List Lexeme) (s : StatementTree) (end : List Lexeme) → IsCondition c rest mid → IsStatement s mid end
          → IsBranch (record { spot = t.spot; condition = c; then = s }) (t ∷ ts) end
      made u rest k same c mid s end x y =
          let spots : u.spot ≡ t.spot = ap (λ (l : List Lexeme). (spot_at l)) same in
          subst (λ (l : List Lexeme). IsBranch (record { spot = t.spot; condition = c; then = s }) l end) same
          (subst (λ (p : Spot). IsBranch (record { spot = p; condition = c; then = s }) (u ∷ rest) end) spots (a_branch k x y))

  else_step : (n : ℕ) (b : BranchTree) (done : List BranchTree) (t : Lexeme) (ts whole : List Lexeme) → length (t ∷ ts) ≤ suc n → Chain depth b done whole (t ∷ ts)
      → ((all : List BranchTree) (mid : List Lexeme) → length mid ≤ n → Chain depth b all whole mid → Found (DeepStatement depth) whole (else_from n (nesting depth) (reading.statements depth) b all mid))
      → (q : Bool) → is mark.Else t.kind ≡ q
      → Found (DeepStatement depth) whole (option_map_or (λ after. if is_at mark.If after then (branch (nesting depth) (reading.statements depth) after >>= λ x. else_from n (nesting depth) (reading.statements depth) b (done ++ x.0 ∷ []) x.1)
      else (nested_statement (reading.statements depth) false after >>= λ s. Ok (if_tree b (else_tree done (Some s.0)), s.1)))
      (cond q (Some ts) None) (Ok (if_tree b (else_tree done None), t ∷ ts)))
  else_step n b done t ts whole le h on false e = h None (t ∷ ts) (no_else (no_else_there t ts e)) tt
  else_step n b done t ts whole le h on true e =
      let k : IsKeyword keyword.Else t = is_word mark.Else t.kind e in
      by_test (Found (DeepStatement depth) whole) (is_at mark.If ts) _ _
      (λ _. next (Branch depth) (DeepStatement depth) ts whole (branch (nesting depth) (reading.statements depth) ts) _ (branch_found ts)
      (λ x g. on (done ++ x.0 ∷ []) x.1 (omega (arith, le, no_longer (branch_passes g.0))) (chain_on depth b done x.0 whole t ts x.1 k h g)))
      (λ i. next (InnerStatement depth) (DeepStatement depth) ts whole (nested_statement (reading.statements depth) false ts) _ (inner_found depth ts good)
      (λ s g. h (Some s.0) s.1 (an_else k g.0) (rw (no_if g.0 i) g.1)))

  else_found : (n : ℕ) (b : BranchTree) (done : List BranchTree) (ts whole : List Lexeme) → length ts ≤ n → Chain depth b done whole ts → Found (DeepStatement depth) whole (else_from n (nesting depth) (reading.statements depth) b done ts)
  unfolding tokens_behind
  else_found zero b done [] whole le h = h None [] (no_else at_end) tt
  else_found zero b done (t ∷ ts) whole le h = absurd (omega (arith, le))
  else_found (suc n) b done [] whole le h = h None [] (no_else at_end) tt
  else_found (suc n) b done (t ∷ ts) whole le h = else_step n b done t ts whole le h (λ all mid less g. else_found n b all mid whole less g) (is mark.Else t.kind) refl

  if_found : (ts : List Lexeme) → Found (DeepStatement depth) ts (if_statement (nesting depth) (reading.statements depth) ts)
  unfolding if_statement
  if_found ts =
      next (Branch depth) (DeepStatement depth) ts ts (branch (nesting depth) (reading.statements depth) ts) _ (branch_found ts)
      (λ b g. else_found (length b.1) b.0 [] b.1 ts (omega arith) (λ o rest e n. (ended_if g.0 e, if_nests b.0 o depth (g.1, g.2) n)))

  -- ---- loops

  while_found : (t : Lexeme) (ts : List Lexeme) → IsKeyword keyword.While t → Found (DeepStatement depth) (t ∷ ts) (while_statement (nesting depth) (reading.statements depth) t.spot ts)
  unfolding while_statement
  while_found t ts k =
      next (Condition depth) (DeepStatement depth) ts (t ∷ ts) (condition (nesting depth) ts) _ (condition_found depth ts)
      (λ c d. next (InnerStatement depth) (DeepStatement depth) c.1 (t ∷ ts) (nested_statement (reading.statements depth) false c.1) _ (inner_found depth c.1 good)
      (λ s g. (grammar.while k d.0 g.0, (d.1, g.1))))

  do_found : (t : Lexeme) (ts : List Lexeme) → IsKeyword keyword.Do t → Found (DeepStatement depth) (t ∷ ts) (do_statement (nesting depth) (reading.statements depth) (t ∷ ts) ts)
  unfolding do_statement extent_before
  do_found t ts k =
      next (InnerStatement depth) (DeepStatement depth) ts (t ∷ ts) (nested_statement (reading.statements depth) false ts) _ (inner_found depth ts good)
      (λ s g. want_next (DeepStatement depth) mark.While s.1 (t ∷ ts) _ (λ l. IsStatement s.0 ts l) g.0
      (λ u rest is x. next (Condition depth) (DeepStatement depth) rest (t ∷ ts) (condition (nesting depth) rest) _ (condition_found depth rest)
      (λ c d. want_next (DeepStatement depth) mark.Semicolon c.1 (t ∷ ts) _ (λ l. IsCondition c.0 rest l) d.0
      (λ end last it y. let before : last_before (t ∷ ts) last ≡ end.spot.at = last_known (passed (join (step (statement_passes x)) (condition_passes y))) in
      (rw before (grammar.do_while k x is y it), (g.1, d.1))))))

for_there : {t opening closing : Lexeme} {h : HeaderTree} {s : StatementTree} {ts mid rest l : List Lexeme} → l ≡ closing ∷ mid → IsKeyword keyword.For t → IsPunctuator punctuator.OpenParenthesis opening → IsHeader h ts l
    → IsPunctuator punctuator.CloseParenthesis closing → IsStatement s mid rest → IsStatement (tree.For t.spot h.start h.condition h.step s) (t ∷ opening ∷ ts) rest
for_there same k o h c s = grammar.for k o h.start h.condition (ended same h.step c) s

for_found : (depth : ℕ) (t : Lexeme) (ts : List Lexeme) → Goods depth → IsKeyword keyword.For t → Found (DeepStatement depth) (t ∷ ts) (for_statement depth (reading.statements depth) t.spot ts)
unfolding for_statement
for_found zero t ts good k =
    want_next (DeepStatement zero) mark.OpenParenthesis ts (t ∷ ts) _ (λ l. l ≡ ts) refl (λ o its is same. tt)
for_found (suc depth) t ts good k =
    want_next (DeepStatement (suc depth)) mark.OpenParenthesis ts (t ∷ ts) _ (λ l. l ≡ ts) refl
    (λ o its is same. next (Header depth) (DeepStatement (suc depth)) its (t ∷ ts) (for_header depth its) _ (header_found depth its)
    (λ h d. want_next (DeepStatement (suc depth)) mark.CloseParenthesis h.1 (t ∷ ts) _ (λ l. IsHeader h.0 its l) d.0
    (λ c rest it x. next (InnerStatement (suc depth)) (DeepStatement (suc depth)) rest (t ∷ ts) (nested_statement (reading.statements (suc depth)) false rest) _ (inner_found (suc depth) rest good)
    (λ s g. (subst (λ (l : List Lexeme). IsStatement (tree.For t.spot h.0.start h.0.condition h.0.step s.0) (t ∷ l) s.1) same (for_there refl k is x it g.0), ((d.1, d.2, d.3), g.1))))))

switch_there : {t : Lexeme} {e : ExpressionTree} {b : BlockTree} {ts mid rest : List Lexeme} → IsKeyword keyword.Switch t → IsCondition e ts mid → IsBlock false b mid rest
    → IsStatement (tree.Switch t.spot e b.opening (chain_of_statements b.statements) b.closing) (t ∷ ts) rest
switch_there k c (a_block o all d) = grammar.switch k c o all d

switch_found : (depth : ℕ) (t : Lexeme) (ts : List Lexeme) → Goods depth → IsKeyword keyword.Switch t → Found (DeepStatement depth) (t ∷ ts) (switch_statement (nesting depth) (reading.statements depth) t.spot ts)
unfolding switch_statement reading.statements
switch_found zero t ts good k =
    next (Condition zero) (DeepStatement zero) ts (t ∷ ts) (condition (nesting zero) ts) _ (condition_found zero ts) (λ e d. tt)
switch_found (suc depth) t ts good k =
    next (Condition (suc depth)) (DeepStatement (suc depth)) ts (t ∷ ts) (condition (nesting (suc depth)) ts) _ (condition_found (suc depth) ts)
    (λ e d. next (Block depth false) (DeepStatement (suc depth)) e.1 (t ∷ ts) (block (reading.statements depth) false e.1) _ (block_found depth good.1 false e.1)
    (λ b g. (switch_there k d.0 g.0, (d.1, g.1))))

block_there : {b : BlockTree} {ts rest : List Lexeme} → IsBlock true b ts rest → IsStatement (block_tree b) ts rest
block_there (a_block o all c) = grammar.compound o all c

-- ---- statements without labels

module _ (depth : ℕ) (good : Goods depth) where
  unlabeled_found_of : (w : Word) (t : Lexeme) (ts : List Lexeme) → t.kind ≡ w → Found (DeepStatement depth) (t ∷ ts) (unlabeled_of depth (reading.statements depth) w t ts)
  unlabeled_found_of (word.Punctuator punctuator.Semicolon) t ts k = (grammar.empty k, tt)
  unlabeled_found_of (word.Punctuator punctuator.OpenBrace) t ts k =
      next (Block depth true) (DeepStatement depth) (t ∷ ts) (t ∷ ts) (block (reading.statements depth) true (t ∷ ts)) _ (block_found depth good true (t ∷ ts)) (λ b g. (block_there g.0, g.1))
  unlabeled_found_of (word.Keyword keyword.If) t ts k = if_found depth good (t ∷ ts)
  unlabeled_found_of (word.Keyword keyword.While) t ts k = while_found depth good t ts k
  unlabeled_found_of (word.Keyword keyword.Do) t ts k = do_found depth good t ts k
  unlabeled_found_of (word.Keyword keyword.For) t ts k = for_found depth t ts good k
  unlabeled_found_of (word.Keyword keyword.Switch) t ts k = switch_found depth t ts good k
  unlabeled_found_of (word.Keyword keyword.Break) t ts k = break_found depth t ts k
  unlabeled_found_of (word.Keyword keyword.Continue) t ts k = continue_found depth t ts k
  unlabeled_found_of (word.Keyword keyword.Return) t ts k = return_found depth t ts k
  unlabeled_found_of w t ts k = run_found depth (t ∷ ts)

  unlabeled_found : (ts : List Lexeme) → Found (DeepStatement depth) ts (unlabeled depth (reading.statements depth) ts)
  unfolding unlabeled
  unlabeled_found [] = tt
  unlabeled_found (t ∷ ts) = unlabeled_found_of t.kind t ts refl

  in_found : (ts : List Lexeme) → Found (DeepStatement depth) ts (statement_in depth (reading.statements depth) ts)
  unfolding statement_in
  in_found ts =
      next (Labels depth) (DeepStatement depth) ts ts (labels (length ts + 1) (nesting depth) [] ts) _ (labels_found depth (length ts + 1) [] ts ts (λ s rest h. h))
      (λ all l. next (DeepStatement depth) (DeepStatement depth) all.1 ts (unlabeled depth (reading.statements depth) all.1) _ (unlabeled_found all.1) (λ s h. l s.0 s.1 h))

  item_there : (may_declare : Bool) (ts : List Lexeme) → Found (DeepItem depth may_declare) ts (statement_in depth (reading.statements depth) ts)
  item_there may_declare ts =
      seen (DeepStatement depth) (DeepItem depth may_declare) ts ts (statement_in depth (reading.statements depth) ts) (λ s rest h. (a_statement h.0, h.1)) (in_found ts)

  of_found : (may_declare : Bool) (ts : List Lexeme) → Found (DeepItem depth may_declare) ts (statement_of depth (reading.statements depth) may_declare ts)
  of_found true ts =
      by_test (Found (DeepItem depth true) ts) (begins_type ts) _ _
      (λ _. next (DeepDeclaration depth) (DeepItem depth true) ts ts (declaration depth ts) _ (declaration_found depth ts) (λ d h. (a_declaration refl h.0, h.1)))
      (λ _. item_there true ts)
  of_found false ts = item_there false ts

-- what is read at each depth is spelled
pub all_good_statements : (depth : ℕ) → Goods depth
all_good_statements zero = tt
all_good_statements (suc depth) = ((λ may_declare ts. of_found depth (all_good_statements depth) may_declare ts), all_good_statements depth)
