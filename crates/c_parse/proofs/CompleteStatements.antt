-- A statement that tokens spell is read from them, where it nests no deeper than it may.
use Rattle.std.proofs.Common.{◌≡◌, ℕ, zero, suc, ◌+◌, ◌<◌, ◌≤◌, Bool, true, false, ◌||◌, List, [], ◌∷◌, ◌++◌, length, Option, Some, None, Result, Ok, refl, sym, ap, ◌∙◌, subst, append-nil, append_assoc, arith}
use Rattle.debug_records.specs.declared.source.Spot.{Spot}
use Rattle.c_token.specs.declared.token.Keyword.{Keyword}
use Rattle.c_token.specs.declared.token.Keyword.TheVariants as keyword
use Rattle.c_token.specs.declared.token.Punctuator.{Punctuator}
use Rattle.c_token.specs.declared.token.Punctuator.TheVariants as punctuator
use Rattle.c_token.specs.Lexemes.{Lexeme, Word}
use Rattle.c_token.specs.Lexemes as word
use Rattle.c_tree.specs.Expressions.{ExpressionTree}
use Rattle.c_tree.specs.Statements.{StartTree, StatementTree, StatementTrees, BlockTree, BranchTree, LabelTree, CaseLabel, DefaultLabel, labeled, if_tree, else_tree, behind_labels, block_tree, chain_of_statements, none, first}
use Rattle.c_tree.specs.Statements as tree
use Rattle.c_parse_tokens.specs.declared.fault.Stuck.{Stuck}
use Rattle.c_parse_tokens.specs.declared.mark.Mark.{Mark}
use Rattle.c_parse_tokens.specs.declared.mark.Mark.TheVariants as mark
use Rattle.c_parse_tokens.specs.Outcome.{◌>>=◌}
use Rattle.c_parse_tokens.specs.Front.{is, is_at, last_before, extent_before}
use Rattle.c_parse_tokens.specs.Operators.{is_beginning, begins_expression}
use Rattle.c_parse_tokens.specs.Specifiers.{is_void_word, is_type_word, begins_type, names_type}
use Rattle.c_parse_expressions.specs.declared.expression.Sort.TheVariants as sort
use Rattle.c_parse_expressions.specs.Expressions.{Nesting, conditional, comma, nesting}
use Rattle.c_parse_statements.specs.Declarations.{declaration}
use Rattle.c_parse_statements.specs.Clauses.{condition, optional, start_of, for_start, for_header, expression_statement, return_statement, label_of, label, labels}
use Rattle.c_parse_statements.specs.Statements as reading
use Rattle.c_parse_statements.specs.Statements.{StatementLevel, nested_statement, statements_from, block, branch, else_from, if_statement, while_statement, do_statement, for_statement, switch_statement, unlabeled_of, unlabeled, statement_in, statement_of}
use Rattle.c_parse.specs.Tokens.{IsPunctuator, IsKeyword, from_to}
use Rattle.c_parse.specs.Expressions.{IsExpression}
use Rattle.c_parse.specs.Declarations.{IsDeclaration, declaration as is_declaration}
use Rattle.c_parse.specs.Statements.{IsCondition, IsOptional, nothing, something, IsStart, nothing_first, value_first, declaration_first, IsNoElse, at_end, other, IsStatement, AreStatements, no_statement, statement, declares}
use Rattle.c_parse.specs.Statements as grammar
use Rattle.c_parse.specs.Depths.{is_if}
use Rattle.c_parse.proofs.Nesting.{Within, Nests, NestsIfAny, StartNests, DeclarationNests, Else, StatementNests, StatementsNest}
use Rattle.c_parse.proofs.Words.{word_of, is_word, no}
use Rattle.c_parse.proofs.Passing.{here, behind as passed, join, step, no_longer, last_known}
use Rattle.c_parse.proofs.ExpressionsPass.{conditional_passes, expression_passes}
use Rattle.c_parse.proofs.DeclarationsPass.{declarator_passes, separated_pass}
use Rattle.c_parse.proofs.ExpressionsPass.{specifiers_pass}
use Rattle.c_parse.proofs.StatementsPass.{condition_passes, optional_passes, start_passes, statement_passes, statements_pass}
use Rattle.c_parse.proofs.Binding.{rank, loose, no_mark, followed, there_is, there_is_none, at_mark, behind_mark, wanted}
use Rattle.c_parse.proofs.Fronts.{is_end, expression_begins, no_type, no_end, begins_with_object}
use Rattle.c_parse.proofs.SoundStatements.{label_on, else_on, is_an_if}
use Rattle.c_parse.proofs.CompleteExpressions.{by_level, nested_read, read, conditional_read, expression_read}
use Rattle.c_parse.proofs.CompleteDeclarations.{declaration_read}

-- ---- parts without statements

pub condition_read : {e : ExpressionTree} {ts rest : List Lexeme} → IsCondition e ts rest → (depth : ℕ) → Within depth (λ d. Nests e d) → condition (nesting depth) ts ≡ Ok (e, rest)
unfolding condition
condition_read (grammar.condition {opening = o} {closing = c} {e = e} {ts = ts} {rest = rest} k x i) depth d =
    followed _ (wanted mark.OpenParenthesis o ts k)
    (followed _ (nested_read depth sort.Comma e ts (c ∷ rest) d (λ n f. expression_read x n f (loose c rest 14 i (omega arith)))) (followed _ (wanted mark.CloseParenthesis c rest i) refl))

-- an expression or none, up to the token that ends it
abbrev OptionalRead : ℕ → Mark → Punctuator → Option ExpressionTree → List Lexeme → List Lexeme → Type 0
OptionalRead depth m p o ts rest = (c : Lexeme) × IsPunctuator p c × (optional (nesting depth) m ts ≡ Ok (o, c ∷ rest))

optional_read : (m : Mark) (p : Punctuator) → word.Punctuator p ≡ word_of m → is_end m ≡ true → 14 < rank p → {o : Option ExpressionTree} {ts rest : List Lexeme} → IsOptional p o ts rest → (depth : ℕ) → NestsIfAny o depth
    → OptionalRead depth m p o ts rest
unfolding optional is_at
optional_read m p same e r (nothing {t = t} {rest = rest} k) depth d = let i = at_mark m t (k ∙ same) in (t, k, rw i refl)
optional_read m p same e r (something {t = t} {e = x} {ts = ts} {rest = rest} y k) depth d =
    let i = no_end m ts e (expression_begins y) in (t, k, rw i (followed _ (expression_read y depth d (loose t rest 14 k r)) refl))

untyped_word : (a b : Bool) → a || b ≡ false → b ≡ false
untyped_word false b h = h
untyped_word true b h = no (sym h)

pub expression_untyped : (ts : List Lexeme) → begins_expression ts ≡ true → begins_type ts ≡ false
unfolding begins_type names_type
expression_untyped [] h = refl
expression_untyped (t ∷ ts) h = untyped_word (is_void_word t.kind) (is_type_word t.kind) (no_type (t ∷ ts) h)

start_untyped : {o : Option ExpressionTree} {ts rest : List Lexeme} → IsOptional punctuator.Semicolon o ts rest → begins_type ts ≡ false
unfolding begins_type
start_untyped (nothing k) = ap is_type_word k
start_untyped (something {ts = ts} x k) = expression_untyped ts (expression_begins x)

declaration_typed : {d : _} {ts rest : List Lexeme} → IsDeclaration d ts rest → begins_type ts ≡ true
declaration_typed (is_declaration s x k) = begins_with_object s

plain_start : (depth : ℕ) (o : Option ExpressionTree) (ts rest : List Lexeme) → begins_type ts ≡ false → OptionalRead depth mark.Semicolon punctuator.Semicolon o ts rest → for_start depth ts ≡ Ok (start_of o, rest)
unfolding for_start
plain_start depth o ts rest e r = rw e (followed _ r.2 (followed _ (wanted mark.Semicolon r.0 rest r.1) refl))

declared_start : (depth : ℕ) (d : _) (ts rest : List Lexeme) → begins_type ts ≡ true → declaration depth ts ≡ Ok (d, rest) → for_start depth ts ≡ Ok (tree.Declares d, rest)
unfolding for_start
declared_start depth d ts rest e r = rw e (followed _ r refl)

start_read : {s : StartTree} {ts rest : List Lexeme} → IsStart s ts rest → (depth : ℕ) → StartNests s depth → for_start depth ts ≡ Ok (s, rest)
start_read (nothing_first {ts = ts} {rest = rest} o) depth d = plain_start depth None ts rest (start_untyped o) (optional_read mark.Semicolon punctuator.Semicolon refl refl (omega arith) o depth tt)
start_read (value_first {e = e} {ts = ts} {rest = rest} o) depth d = plain_start depth (Some e) ts rest (start_untyped o) (optional_read mark.Semicolon punctuator.Semicolon refl refl (omega arith) o depth d)
start_read (declaration_first {d = x} {ts = ts} {rest = rest} y) depth d = declared_start depth x ts rest (declaration_typed y) (declaration_read y depth d)

-- the parts of a `for`, up to its parenthesis
header_read : (depth : ℕ) {start : StartTree} {c step : Option ExpressionTree} {ts its more mid : List Lexeme} → IsStart start ts its → IsOptional punctuator.Semicolon c its more → IsOptional punctuator.CloseParenthesis step more mid
    → StartNests start depth → NestsIfAny c depth → NestsIfAny step depth
    → (k : Lexeme) × IsPunctuator punctuator.CloseParenthesis k × (for_header depth ts ≡ Ok (record { start = start; condition = c; step = step }, k ∷ mid))
unfolding for_header
header_read depth {start} {c} {step} {ts} {its} {more} {mid} s o p d e f =
    let a = optional_read mark.Semicolon punctuator.Semicolon refl refl (omega arith) o depth e in
    let b = optional_read mark.CloseParenthesis punctuator.CloseParenthesis refl refl (omega arith) p depth f in
    (b.0, b.1, followed _ (start_read s depth d) (followed _ a.2 (followed _ (wanted mark.Semicolon a.0 more a.1) (followed _ b.2 refl))))

-- ---- with what statements begin

statement_untyped : {s : StatementTree} {ts rest : List Lexeme} → IsStatement s ts rest → begins_type ts ≡ false
unfolding begins_type
statement_untyped (grammar.case k e c s) = ap is_type_word k
statement_untyped (grammar.default k c s) = ap is_type_word k
statement_untyped (grammar.compound k all c) = ap is_type_word k
statement_untyped (grammar.empty k) = ap is_type_word k
statement_untyped (grammar.run {ts = ts} e k) = expression_untyped ts (expression_begins e)
statement_untyped (grammar.if k c s n) = ap is_type_word k
statement_untyped (grammar.if_else k c s e r) = ap is_type_word k
statement_untyped (grammar.switch k e o all c) = ap is_type_word k
statement_untyped (grammar.while k c s) = ap is_type_word k
statement_untyped (grammar.do_while k s w c e) = ap is_type_word k
statement_untyped (grammar.for k o start c t s) = ap is_type_word k
statement_untyped (grammar.break k e) = ap is_type_word k
statement_untyped (grammar.continue k e) = ap is_type_word k
statement_untyped (grammar.return k e) = ap is_type_word k
statement_untyped (grammar.return_value k e c) = ap is_type_word k

statement_no_brace : {s : StatementTree} {ts rest : List Lexeme} → IsStatement s ts rest → is_at mark.CloseBrace ts ≡ false
unfolding is_at
statement_no_brace (grammar.case k e c s) = ap (is mark.CloseBrace) k
statement_no_brace (grammar.default k c s) = ap (is mark.CloseBrace) k
statement_no_brace (grammar.compound k all c) = ap (is mark.CloseBrace) k
statement_no_brace (grammar.empty k) = ap (is mark.CloseBrace) k
statement_no_brace (grammar.run {ts = ts} e k) = no_end mark.CloseBrace ts refl (expression_begins e)
statement_no_brace (grammar.if k c s n) = ap (is mark.CloseBrace) k
statement_no_brace (grammar.if_else k c s e r) = ap (is mark.CloseBrace) k
statement_no_brace (grammar.switch k e o all c) = ap (is mark.CloseBrace) k
statement_no_brace (grammar.while k c s) = ap (is mark.CloseBrace) k
statement_no_brace (grammar.do_while k s w c e) = ap (is mark.CloseBrace) k
statement_no_brace (grammar.for k o start c t s) = ap (is mark.CloseBrace) k
statement_no_brace (grammar.break k e) = ap (is mark.CloseBrace) k
statement_no_brace (grammar.continue k e) = ap (is mark.CloseBrace) k
statement_no_brace (grammar.return k e) = ap (is mark.CloseBrace) k
statement_no_brace (grammar.return_value k e c) = ap (is mark.CloseBrace) k

typed_no_brace_word : (w : Word) → is_type_word w ≡ true → is mark.CloseBrace w ≡ false
typed_no_brace_word (word.Keyword k) h = refl
typed_no_brace_word w h = no h

typed_no_brace : (ts : List Lexeme) → begins_type ts ≡ true → is_at mark.CloseBrace ts ≡ false
unfolding begins_type is_at
typed_no_brace [] h = refl
typed_no_brace (t ∷ ts) h = typed_no_brace_word t.kind h

pub statement_shorter : {s : StatementTree} {ts rest : List Lexeme} → IsStatement s ts rest → suc (length rest) ≤ length ts
statement_shorter (grammar.case k e c s) = omega (arith, no_longer (join (step (conditional_passes e)) (statement_passes s)))
statement_shorter (grammar.default k c s) = omega (arith, no_longer (statement_passes s))
statement_shorter (grammar.compound k all c) = omega (arith, no_longer (statements_pass all))
statement_shorter (grammar.empty k) = omega arith
statement_shorter (grammar.run e k) = omega (arith, no_longer (expression_passes e))
statement_shorter (grammar.if k c s n) = omega (arith, no_longer (join (condition_passes c) (statement_passes s)))
statement_shorter (grammar.if_else k c s e r) = omega (arith, no_longer (join (condition_passes c) (join (step (statement_passes s)) (statement_passes r))))
statement_shorter (grammar.switch k e o all c) = omega (arith, no_longer (join (step (condition_passes e)) (statements_pass all)))
statement_shorter (grammar.while k c s) = omega (arith, no_longer (join (condition_passes c) (statement_passes s)))
statement_shorter (grammar.do_while k s w c e) = omega (arith, no_longer (join (step (statement_passes s)) (condition_passes c)))
statement_shorter (grammar.for k o start c t s) = omega (arith, no_longer (join (start_passes start) (join (optional_passes c) (join (optional_passes t) (statement_passes s)))))
statement_shorter (grammar.break k e) = omega arith
statement_shorter (grammar.continue k e) = omega arith
statement_shorter (grammar.return k e) = omega arith
statement_shorter (grammar.return_value k e c) = omega (arith, no_longer (expression_passes e))

declaration_shorter : {d : _} {ts rest : List Lexeme} → IsDeclaration d ts rest → suc (length rest) ≤ length ts
declaration_shorter (is_declaration s x k) = omega (arith, no_longer (join (specifiers_pass s.words) (separated_pass (λ a us more y. declarator_passes y) x)))

-- ---- what is read of a statement

-- labels are read, and the statement behind them
abbrev Labeled : ℕ → ℕ → List LabelTree → List Lexeme → Result (StatementTree × List Lexeme) Stuck
Labeled depth n done ts = labels n (nesting depth) done ts >>= λ all. unlabeled depth (reading.statements depth) all.1 >>= λ s. Ok (behind_labels all.0 s.0, s.1)

-- a statement is read, behind labels
abbrev IsRead : StatementTree → List Lexeme → List Lexeme → Type 0
IsRead s ts rest = (depth : ℕ) → StatementNests s depth → (n : ℕ) → suc (length ts) ≤ n → (done : List LabelTree) → Labeled depth n done ts ≡ Ok (behind_labels done s, rest)

-- a statement is read behind `else`
abbrev IsReadBehindElse : StatementTree → List Lexeme → List Lexeme → Type 0
IsReadBehindElse s ts rest =
    (depth : ℕ) → Else (is_if s) depth (λ d. StatementNests s d) → (u : Lexeme) → IsKeyword keyword.Else u → (n : ℕ) → suc (length ts) ≤ n → (b : BranchTree) (done : List BranchTree)
    → else_from n (nesting depth) (reading.statements depth) b done (u ∷ ts) ≡ Ok (if_tree b (else_tree done (Some s)), rest)

pub record Reads (s : StatementTree) (ts rest : List Lexeme) : Type 0 where
  alone : IsRead s ts rest
  otherwise : IsReadBehindElse s ts rest

-- as a statement within another
inner_read : (s : StatementTree) (ts rest : List Lexeme) → IsRead s ts rest → (depth : ℕ) → Within depth (λ d. StatementNests s d) → nested_statement (reading.statements depth) false ts ≡ Ok (s, rest)
unfolding nested_statement reading.statements statement_in
inner_read s ts rest r zero n = elim n [ ]
inner_read s ts rest r (suc depth) n = r depth n (length ts + 1) (omega arith) []

-- as an item of a block
item_read : (may_declare : Bool) (s : StatementTree) (ts rest : List Lexeme) → IsRead s ts rest → begins_type ts ≡ false → (depth : ℕ) → Within depth (λ d. StatementNests s d) → nested_statement (reading.statements depth) may_declare ts ≡ Ok (s, rest)
unfolding nested_statement reading.statements statement_in
item_read may_declare s ts rest r e zero n = elim n [ ]
item_read true s ts rest r e (suc depth) n = rw e (r depth n (length ts + 1) (omega arith) [])
item_read false s ts rest r e (suc depth) n = r depth n (length ts + 1) (omega arith) []

declared_read : (d : _) (ts rest : List Lexeme) → IsDeclaration d ts rest → (depth : ℕ) → Within depth (λ l. DeclarationNests d l) → nested_statement (reading.statements depth) true ts ≡ Ok (tree.Declare d, rest)
unfolding nested_statement reading.statements
declared_read d ts rest x zero n = elim n [ ]
declared_read d ts rest x (suc depth) n = let e = declaration_typed x in rw e (followed _ (declaration_read x depth n) refl)

-- a statement without labels
without_labels : (s : StatementTree) (ts rest : List Lexeme) → ((nest : Nesting) → label nest ts ≡ Ok None) → ((depth : ℕ) → StatementNests s depth → unlabeled depth (reading.statements depth) ts ≡ Ok (s, rest)) → IsRead s ts rest
without_labels s ts rest l r depth n zero le done = absurd (omega (arith, le))
without_labels s ts rest l r depth n (suc m) le done = followed _ (followed _ (l (nesting depth)) refl) (followed _ (r depth n) refl)

-- a statement behind one more label
with_label : (x : LabelTree) (s : StatementTree) (ts mid rest : List Lexeme) (depth : ℕ) → label (nesting depth) ts ≡ Ok (Some (x, mid)) → length mid < length ts → IsRead s mid rest → StatementNests s depth
    → (n : ℕ) → suc (length ts) ≤ n → (done : List LabelTree) → Labeled depth n done ts ≡ Ok (behind_labels done (labeled x s), rest)
with_label x s ts mid rest depth l less r d zero le done = absurd (omega (arith, le))
with_label x s ts mid rest depth l less r d (suc m) le done =
    same ∙ r depth d m (omega (arith, le, less)) (done ++ x ∷ []) ∙ ap (λ (t : StatementTree). read t rest) (label_on done x s)
  where
    one : labels (suc m) (nesting depth) done ts ≡ labels m (nesting depth) (done ++ x ∷ []) mid
    one = followed _ l refl

    same : Labeled depth (suc m) done ts ≡ Labeled depth m (done ++ x ∷ []) mid
    same = ap (λ (q : Result (List LabelTree × List Lexeme) Stuck). q >>= λ all. unlabeled depth (reading.statements depth) all.1 >>= λ s. Ok (behind_labels all.0 s.0, s.1)) one

-- ---- else

not_if : {s : StatementTree} {ts rest : List Lexeme} → is_if s ≡ false → is_at mark.If ts ≡ false → IsRead s ts rest → IsReadBehindElse s ts rest
not_if e i r depth d u k zero le b done = absurd (omega (arith, le))
not_if {s} {ts} {rest} e i r depth d u k (suc n) le b done =
    let w : Within depth (λ l. StatementNests s l) = subst (λ (q : Bool). Else q depth (λ l. StatementNests s l)) e d in
    there_is _ _ (behind_mark mark.Else u ts k) (rw i (followed _ (inner_read s ts rest r depth w) refl))

plain : {s : StatementTree} {ts rest : List Lexeme} → is_if s ≡ false → is_at mark.If ts ≡ false → IsRead s ts rest → Reads s ts rest
plain e i r = record { alone = r; otherwise = not_if e i r }

-- an `if` without `else`
ended_read : (n depth : ℕ) (b : BranchTree) (done : List BranchTree) (ts : List Lexeme) → IsNoElse ts → else_from n (nesting depth) (reading.statements depth) b done ts ≡ Ok (if_tree b (else_tree done None), ts)
unfolding is_at
ended_read zero depth b done ts e = refl
ended_read (suc n) depth b done ts at_end = there_is_none _ (no_mark mark.Else [] refl) refl
ended_read (suc n) depth b done ts (other {t = t} {ts = us} k) = there_is_none _ (no_mark mark.Else (t ∷ us) (by (is mark.Else t.kind) refl)) refl
  where
    by : (q : Bool) → is mark.Else t.kind ≡ q → q ≡ false
    by false e = refl
    by true e = absurd (k (is_word mark.Else t.kind e))

branch_read : (depth : ℕ) (t : Lexeme) (c : ExpressionTree) (s : StatementTree) (ts mid rest : List Lexeme) → IsKeyword keyword.If t → condition (nesting depth) ts ≡ Ok (c, mid)
    → nested_statement (reading.statements depth) false mid ≡ Ok (s, rest) → branch (nesting depth) (reading.statements depth) (t ∷ ts) ≡ Ok (record { spot = t.spot; condition = c; then = s }, rest)
unfolding branch
branch_read depth t c s ts mid rest k r z = followed _ (wanted mark.If t ts k) (followed _ r (followed _ z refl))

-- an `if`, its branch and what ends it
abbrev Tail : ℕ → BranchTree → Option StatementTree → List Lexeme → List Lexeme → Type 0
Tail depth x o mid rest = (n : ℕ) → length mid ≤ n → (b : BranchTree) (done : List BranchTree) → else_from n (nesting depth) (reading.statements depth) b done mid ≡ Ok (if_tree b (else_tree done o), rest)

if_read : (depth : ℕ) (t : Lexeme) (x : BranchTree) (o : Option StatementTree) (ts mid rest : List Lexeme) → IsKeyword keyword.If t → branch (nesting depth) (reading.statements depth) (t ∷ ts) ≡ Ok (x, mid) → Tail depth x o mid rest
    → unlabeled depth (reading.statements depth) (t ∷ ts) ≡ Ok (if_tree x o, rest)
unfolding unlabeled if_statement
if_read depth t x o ts mid rest k r z =
    subst (λ (w : Word). unlabeled_of depth (reading.statements depth) w t ts ≡ Ok (if_tree x o, rest)) (sym k) (followed _ r (z (length mid) (omega arith) x []))

if_behind_else : (depth : ℕ) (t : Lexeme) (x : BranchTree) (o : Option StatementTree) (ts mid rest : List Lexeme) → IsKeyword keyword.If t → branch (nesting depth) (reading.statements depth) (t ∷ ts) ≡ Ok (x, mid) → Tail depth x o mid rest
    → length mid ≤ length ts → (u : Lexeme) → IsKeyword keyword.Else u → (n : ℕ) → suc (length (t ∷ ts)) ≤ n → (b : BranchTree) (done : List BranchTree)
    → else_from n (nesting depth) (reading.statements depth) b done (u ∷ t ∷ ts) ≡ Ok (if_tree b (else_tree done (Some (if_tree x o))), rest)
unfolding is_at
if_behind_else depth t x o ts mid rest k r z shorter u e zero le b done = absurd (omega (arith, le))
if_behind_else depth t x o ts mid rest k r z shorter u e (suc n) le b done =
    let i = at_mark mark.If t k in
    there_is _ _ (behind_mark mark.Else u (t ∷ ts) e)
    (rw i (followed _ r (z n (omega (arith, le, shorter)) b (done ++ x ∷ []) ∙ ap (λ (l : Option StatementTree). read (if_tree b l) rest) (else_on done x o))))

-- ---- labels and words

no_label_word : (nest : Nesting) (w : Word) (t : Lexeme) (ts : List Lexeme) → is_beginning w ≡ true → label_of nest w t ts ≡ Ok None
no_label_word nest (word.Keyword keyword.Sizeof) t ts h = refl
no_label_word nest (word.Keyword k) t ts h = no h
no_label_word nest w t ts h = refl

no_label_before : (nest : Nesting) (ts : List Lexeme) → begins_expression ts ≡ true → label nest ts ≡ Ok None
unfolding label begins_expression
no_label_before nest [] h = refl
no_label_before nest (t ∷ ts) h = no_label_word nest t.kind t ts h

-- a token of a kind that is no label
no_label_of : (nest : Nesting) (w : Word) (t : Lexeme) (ts : List Lexeme) → t.kind ≡ w → label_of nest w t ts ≡ Ok None → label nest (t ∷ ts) ≡ Ok None
unfolding label
no_label_of nest w t ts k e = subst (λ (v : Word). label_of nest v t ts ≡ Ok None) (sym k) e

run_word : (depth : ℕ) (w : Word) (t : Lexeme) (ts : List Lexeme) → is_beginning w ≡ true → unlabeled_of depth (reading.statements depth) w t ts ≡ expression_statement (nesting depth) (t ∷ ts)
unfolding Rattle.c_parse_tokens.specs.Operators.prefix_operator
run_word depth (word.Keyword keyword.Sizeof) t ts h = refl
run_word depth (word.Keyword k) t ts h = no h
run_word depth (word.Punctuator punctuator.Semicolon) t ts h = no h
run_word depth (word.Punctuator punctuator.OpenBrace) t ts h = no h
run_word depth (word.Include i) t ts h = no h
run_word depth w t ts h = refl

run_read : (depth : ℕ) (e : ExpressionTree) (c : Lexeme) (ts rest : List Lexeme) → begins_expression ts ≡ true → comma (nesting depth) ts ≡ Ok (e, c ∷ rest) → IsPunctuator punctuator.Semicolon c → last_before ts rest ≡ c.spot.at
    → unlabeled depth (reading.statements depth) ts ≡ Ok (tree.Run e c.spot.at, rest)
unfolding unlabeled begins_expression expression_statement
run_read depth e c [] rest b r k before = no b
run_read depth e c (t ∷ ts) rest b r k before =
    run_word depth t.kind t ts b ∙ followed _ r (followed _ (wanted mark.Semicolon c rest k) (ap (λ (n : ℕ). read (tree.Run e n) rest) before))

-- the statement that begins with a token of a kind
of_word : (depth : ℕ) (w : Word) (t : Lexeme) (s : StatementTree) (ts rest : List Lexeme) → t.kind ≡ w → unlabeled_of depth (reading.statements depth) w t ts ≡ Ok (s, rest) → unlabeled depth (reading.statements depth) (t ∷ ts) ≡ Ok (s, rest)
unfolding unlabeled
of_word depth w t s ts rest k e = subst (λ (v : Word). unlabeled_of depth (reading.statements depth) v t ts ≡ Ok (s, rest)) (sym k) e

case_read : (depth : ℕ) (t c : Lexeme) (e : ExpressionTree) (ts mid : List Lexeme) → IsKeyword keyword.Case t → conditional (nesting depth) ts ≡ Ok (e, c ∷ mid) → IsPunctuator punctuator.Colon c → last_before (t ∷ ts) mid ≡ c.spot.at
    → label (nesting depth) (t ∷ ts) ≡ Ok (Some (CaseLabel (from_to t c) e, mid))
unfolding label extent_before
case_read depth t c e ts mid k r i before =
    subst (λ (v : Word). label_of (nesting depth) v t ts ≡ Ok (Some (CaseLabel (from_to t c) e, mid))) (sym k)
    (followed _ r (followed _ (wanted mark.Colon c mid i) (ap (λ (n : ℕ). found (CaseLabel (record { first = t.spot; last = n }) e)) before)))
  where
    found : LabelTree → Result (Option (LabelTree × List Lexeme)) Stuck
    found l = Ok (Some (l, mid))

default_read : (depth : ℕ) (t c : Lexeme) (mid : List Lexeme) → IsKeyword keyword.Default t → IsPunctuator punctuator.Colon c → label (nesting depth) (t ∷ c ∷ mid) ≡ Ok (Some (DefaultLabel (from_to t c), mid))
unfolding label extent_before
default_read depth t c mid k i =
    subst (λ (v : Word). label_of (nesting depth) v t (c ∷ mid) ≡ Ok (Some (DefaultLabel (from_to t c), mid))) (sym k)
    (followed _ (wanted mark.Colon c mid i) (ap (λ (n : ℕ). found (DefaultLabel (record { first = t.spot; last = n }))) (last_known (passed here))))
  where
    found : LabelTree → Result (Option (LabelTree × List Lexeme)) Stuck
    found l = Ok (Some (l, mid))

-- ---- blocks

-- the statements of a chain in a list
abbrev pub unchain : StatementTrees → List StatementTree
unchain none = []
unchain (first s all) = s ∷ unchain all

chained : (all : StatementTrees) → chain_of_statements (unchain all) ≡ all
chained none = refl
chained (first s all) = ap (λ (l : StatementTrees). first s l) (chained all)

pub unchained : (all : List StatementTree) → unchain (chain_of_statements all) ≡ all
unchained [] = refl
unchained (s ∷ all) = ap (λ (l : List StatementTree). s ∷ l) (unchained all)

-- statements are read up to the brace, behind those that were read
pub record AreRead (may_declare : Bool) (all : StatementTrees) (ts rest : List Lexeme) : Type 0 where
  pub reads : (depth : ℕ) → StatementsNest all depth → (c : Lexeme) (end : List Lexeme) → rest ≡ c ∷ end → IsPunctuator punctuator.CloseBrace c → (n : ℕ) → suc (length ts) ≤ n → (opening : Spot) (done : List StatementTree)
      → statements_from n (reading.statements depth) may_declare opening done ts ≡ Ok (record { opening = opening; statements = done ++ unchain all; closing = c.spot }, end)

abbrev block_of : Spot → List StatementTree → Spot → List Lexeme → Result (BlockTree × List Lexeme) Stuck
block_of opening all closing rest = Ok (record { opening = opening; statements = all; closing = closing }, rest)

none_read : (may_declare : Bool) (rest : List Lexeme) → AreRead may_declare none rest rest
none_read may_declare rest = record { reads = λ depth d c end same k n le opening done. by depth c end same k n le opening done }
  where
    at_brace : (m depth : ℕ) (c : Lexeme) (end : List Lexeme) (opening : Spot) (done : List StatementTree) → IsPunctuator punctuator.CloseBrace c
        → statements_from (suc m) (reading.statements depth) may_declare opening done (c ∷ end) ≡ block_of opening done c.spot end
    at_brace m depth c end opening done k = there_is _ _ (behind_mark mark.CloseBrace c end k) refl

    by : (depth : ℕ) (c : Lexeme) (end : List Lexeme) → rest ≡ c ∷ end → IsPunctuator punctuator.CloseBrace c → (n : ℕ) → suc (length rest) ≤ n → (opening : Spot) (done : List StatementTree)
        → statements_from n (reading.statements depth) may_declare opening done rest ≡ block_of opening (done ++ []) c.spot end
    by depth c end same k zero le opening done = absurd (omega (arith, le))
    by depth c end same k (suc m) le opening done =
        subst (λ (l : List Lexeme). statements_from (suc m) (reading.statements depth) may_declare opening done l ≡ block_of opening (done ++ []) c.spot end) (sym same)
        (at_brace m depth c end opening done k ∙ ap (λ (l : List StatementTree). block_of opening l c.spot end) (sym (append-nil done)))

item_on : (may_declare : Bool) (s : StatementTree) (all : StatementTrees) (ts mid rest : List Lexeme) → is_at mark.CloseBrace ts ≡ false
    → ((depth : ℕ) → Within depth (λ d. StatementNests s d) → nested_statement (reading.statements depth) may_declare ts ≡ Ok (s, mid)) → suc (length mid) ≤ length ts → AreRead may_declare all mid rest → AreRead may_declare (first s all) ts rest
item_on may_declare s all ts mid rest b r shorter g = record { reads = λ depth d c end same k n le opening done. by depth d c end same k n le opening done }
  where
    by : (depth : ℕ) → StatementsNest (first s all) depth → (c : Lexeme) (end : List Lexeme) → rest ≡ c ∷ end → IsPunctuator punctuator.CloseBrace c → (n : ℕ) → suc (length ts) ≤ n → (opening : Spot) (done : List StatementTree)
        → statements_from n (reading.statements depth) may_declare opening done ts ≡ block_of opening (done ++ unchain (first s all)) c.spot end
    by depth d c end same k zero le opening done = absurd (omega (arith, le))
    by depth d c end same k (suc m) le opening done =
        there_is_none _ (no_mark mark.CloseBrace ts b)
        (followed _ (r depth d.0)
        (g.reads depth d.1 c end same k m (omega (arith, le, shorter)) opening (done ++ s ∷ []) ∙ ap (λ (l : List StatementTree). block_of opening l c.spot end) (append_assoc done (s ∷ []) (unchain all))))

pub block_read : (depth : ℕ) (may_declare : Bool) (all : StatementTrees) (o c : Lexeme) (ts rest : List Lexeme) → IsPunctuator punctuator.OpenBrace o → AreRead may_declare all ts (c ∷ rest) → StatementsNest all depth → IsPunctuator punctuator.CloseBrace c
    → block (reading.statements depth) may_declare (o ∷ ts) ≡ Ok (record { opening = o.spot; statements = unchain all; closing = c.spot }, rest)
unfolding block
block_read depth may_declare all o c ts rest k r d e = followed _ (wanted mark.OpenBrace o ts k) (r.reads depth d c rest refl e (length ts + 1) (omega arith) o.spot [])

compound_read : (depth : ℕ) (all : StatementTrees) (o c : Lexeme) (ts rest : List Lexeme) → IsPunctuator punctuator.OpenBrace o → AreRead true all ts (c ∷ rest) → StatementsNest all depth → IsPunctuator punctuator.CloseBrace c
    → unlabeled depth (reading.statements depth) (o ∷ ts) ≡ Ok (tree.Compound o.spot all c.spot, rest)
compound_read depth all o c ts rest k r d e =
    of_word depth (word.Punctuator punctuator.OpenBrace) o (tree.Compound o.spot all c.spot) ts rest k
    (followed _ (block_read depth true all o c ts rest k r d e) (ap (λ (l : StatementTrees). read (tree.Compound o.spot l c.spot) rest) (chained all)))

switch_read : (depth : ℕ) (e : ExpressionTree) (all : StatementTrees) (t o c : Lexeme) (ts mid rest : List Lexeme) → IsKeyword keyword.Switch t → condition (nesting depth) ts ≡ Ok (e, o ∷ mid) → IsPunctuator punctuator.OpenBrace o
    → AreRead false all mid (c ∷ rest) → Within depth (λ d. StatementsNest all d) → IsPunctuator punctuator.CloseBrace c → unlabeled depth (reading.statements depth) (t ∷ ts) ≡ Ok (tree.Switch t.spot e o.spot all c.spot, rest)
unfolding switch_statement reading.statements
switch_read zero e all t o c ts mid rest k r i g d z = elim d [ ]
switch_read (suc depth) e all t o c ts mid rest k r i g d z =
    of_word (suc depth) (word.Keyword keyword.Switch) t (tree.Switch t.spot e o.spot all c.spot) ts rest k
    (followed _ r (followed _ (block_read depth false all o c mid rest i g d z) (ap (λ (l : StatementTrees). read (tree.Switch t.spot e o.spot l c.spot) rest) (chained all))))

-- ---- loops

while_read : (depth : ℕ) (t : Lexeme) (c : ExpressionTree) (s : StatementTree) (ts mid rest : List Lexeme) → IsKeyword keyword.While t → condition (nesting depth) ts ≡ Ok (c, mid) → nested_statement (reading.statements depth) false mid ≡ Ok (s, rest)
    → unlabeled depth (reading.statements depth) (t ∷ ts) ≡ Ok (tree.While t.spot c s, rest)
unfolding while_statement
while_read depth t c s ts mid rest k r z = of_word depth (word.Keyword keyword.While) t (tree.While t.spot c s) ts rest k (followed _ r (followed _ z refl))

do_read : (depth : ℕ) (t u e : Lexeme) (c : ExpressionTree) (s : StatementTree) (ts mid rest : List Lexeme) → IsKeyword keyword.Do t → nested_statement (reading.statements depth) false ts ≡ Ok (s, u ∷ mid) → IsKeyword keyword.While u
    → condition (nesting depth) mid ≡ Ok (c, e ∷ rest) → IsPunctuator punctuator.Semicolon e → last_before (t ∷ ts) rest ≡ e.spot.at → unlabeled depth (reading.statements depth) (t ∷ ts) ≡ Ok (tree.DoWhile (from_to t e) s c, rest)
unfolding do_statement extent_before
do_read depth t u e c s ts mid rest k r i z j before =
    of_word depth (word.Keyword keyword.Do) t (tree.DoWhile (from_to t e) s c) ts rest k
    (followed _ r (followed _ (wanted mark.While u mid i) (followed _ z (followed _ (wanted mark.Semicolon e rest j) (ap (λ (n : ℕ). read (tree.DoWhile (record { first = t.spot; last = n }) s c) rest) before)))))

for_read : (depth : ℕ) (t o k : Lexeme) (start : StartTree) (c step : Option ExpressionTree) (s : StatementTree) (ts mid rest : List Lexeme) → IsKeyword keyword.For t → IsPunctuator punctuator.OpenParenthesis o
    → for_header depth ts ≡ Ok (record { start = start; condition = c; step = step }, k ∷ mid) → IsPunctuator punctuator.CloseParenthesis k → nested_statement (reading.statements (suc depth)) false mid ≡ Ok (s, rest)
    → unlabeled (suc depth) (reading.statements (suc depth)) (t ∷ o ∷ ts) ≡ Ok (tree.For t.spot start c step s, rest)
unfolding for_statement
for_read depth t o k start c step s ts mid rest e i r j z =
    of_word (suc depth) (word.Keyword keyword.For) t (tree.For t.spot start c step s) (o ∷ ts) rest e
    (followed _ (wanted mark.OpenParenthesis o ts i) (followed _ r (followed _ (wanted mark.CloseParenthesis k mid j) (followed _ z refl))))

-- ---- jumps

break_read : (depth : ℕ) (t e : Lexeme) (rest : List Lexeme) → IsKeyword keyword.Break t → IsPunctuator punctuator.Semicolon e → unlabeled depth (reading.statements depth) (t ∷ e ∷ rest) ≡ Ok (tree.Break (from_to t e), rest)
unfolding extent_before
break_read depth t e rest k i =
    of_word depth (word.Keyword keyword.Break) t (tree.Break (from_to t e)) (e ∷ rest) rest k
    (followed _ (wanted mark.Semicolon e rest i) (ap (λ (n : ℕ). read (tree.Break (record { first = t.spot; last = n })) rest) (last_known (passed here))))

continue_read : (depth : ℕ) (t e : Lexeme) (rest : List Lexeme) → IsKeyword keyword.Continue t → IsPunctuator punctuator.Semicolon e → unlabeled depth (reading.statements depth) (t ∷ e ∷ rest) ≡ Ok (tree.Continue (from_to t e), rest)
unfolding extent_before
continue_read depth t e rest k i =
    of_word depth (word.Keyword keyword.Continue) t (tree.Continue (from_to t e)) (e ∷ rest) rest k
    (followed _ (wanted mark.Semicolon e rest i) (ap (λ (n : ℕ). read (tree.Continue (record { first = t.spot; last = n })) rest) (last_known (passed here))))

return_read : (depth : ℕ) (t e : Lexeme) (o : Option ExpressionTree) (ts rest : List Lexeme) → IsKeyword keyword.Return t → optional (nesting depth) mark.Semicolon ts ≡ Ok (o, e ∷ rest) → IsPunctuator punctuator.Semicolon e
    → last_before (t ∷ ts) rest ≡ e.spot.at → unlabeled depth (reading.statements depth) (t ∷ ts) ≡ Ok (tree.Return (from_to t e) o, rest)
unfolding return_statement extent_before
return_read depth t e o ts rest k r i before =
    of_word depth (word.Keyword keyword.Return) t (tree.Return (from_to t e) o) ts rest k
    (followed _ r (followed _ (wanted mark.Semicolon e rest i) (ap (λ (n : ℕ). read (tree.Return (record { first = t.spot; last = n }) o) rest) before)))

-- ---- all statements

-- the statements that begin with a keyword or a punctuator, and have no label
keyword_read : (k : Keyword) (s : StatementTree) (t : Lexeme) (ts rest : List Lexeme) → IsKeyword k t → is_if s ≡ false → is mark.If (word.Keyword k) ≡ false → ((nest : Nesting) → label_of nest (word.Keyword k) t ts ≡ Ok None)
    → ((depth : ℕ) → StatementNests s depth → unlabeled depth (reading.statements depth) (t ∷ ts) ≡ Ok (s, rest)) → Reads s (t ∷ ts) rest
unfolding is_at
keyword_read k s t ts rest e i j l r =
    plain i (ap (is mark.If) e ∙ j) (without_labels s (t ∷ ts) rest (λ nest. no_label_of nest (word.Keyword k) t ts e (l nest)) r)

punctuator_read : (p : Punctuator) (s : StatementTree) (t : Lexeme) (ts rest : List Lexeme) → IsPunctuator p t → is_if s ≡ false → ((depth : ℕ) → StatementNests s depth → unlabeled depth (reading.statements depth) (t ∷ ts) ≡ Ok (s, rest)) → Reads s (t ∷ ts) rest
unfolding is_at
punctuator_read p s t ts rest e i r =
    plain i (ap (is mark.If) e) (without_labels s (t ∷ ts) rest (λ nest. no_label_of nest (word.Punctuator p) t ts e refl) r)

expression_is_read : (e : ExpressionTree) (c : Lexeme) (ts rest : List Lexeme) → IsExpression e ts (c ∷ rest) → IsPunctuator punctuator.Semicolon c → Reads (tree.Run e c.spot.at) ts rest
unfolding is_at begins_expression
expression_is_read e c ts rest x k =
    let b = expression_begins x in
    plain refl (no_if_before ts b)
    (without_labels (tree.Run e c.spot.at) ts rest (λ nest. no_label_before nest ts b) (λ depth d. run_read depth e c ts rest b (expression_read x depth d (loose c rest 14 k (omega arith))) k (last_known (expression_passes x))))
  where
    not_if_word : (w : Word) → is_beginning w ≡ true → is mark.If w ≡ false
    not_if_word (word.Keyword keyword.Sizeof) h = refl
    not_if_word (word.Keyword l) h = no h
    not_if_word w h = refl

    no_if_before : (l : List Lexeme) → begins_expression l ≡ true → is_at mark.If l ≡ false
    no_if_before [] h = refl
    no_if_before (t ∷ l) h = not_if_word t.kind h

if_alone : (t : Lexeme) (x : BranchTree) (o : Option StatementTree) (ts mid rest : List Lexeme) → IsKeyword keyword.If t
    → ((depth : ℕ) → StatementNests (if_tree x o) depth → (branch (nesting depth) (reading.statements depth) (t ∷ ts) ≡ Ok (x, mid)) × Tail depth x o mid rest) → length mid ≤ length ts → Reads (if_tree x o) (t ∷ ts) rest
if_alone t x o ts mid rest k r shorter =
    record {
      alone = without_labels (if_tree x o) (t ∷ ts) rest (λ nest. no_label_of nest (word.Keyword keyword.If) t ts k refl) (λ depth d. let g = r depth d in if_read depth t x o ts mid rest k g.0 g.1);
      otherwise = λ depth d u e n le b done. let g = r depth (subst (λ (q : Bool). Else q depth (λ l. StatementNests (if_tree x o) l)) (is_an_if x o) d) in if_behind_else depth t x o ts mid rest k g.0 g.1 shorter u e n le b done;
    }

labeled_read : (x : LabelTree) (s : StatementTree) (t : Lexeme) (ts mid rest : List Lexeme) → is_if (labeled x s) ≡ false → is mark.If t.kind ≡ false → ((depth : ℕ) → StatementNests (labeled x s) depth → (label (nesting depth) (t ∷ ts) ≡ Ok (Some (x, mid))) × StatementNests s depth)
    → length mid ≤ length ts → IsRead s mid rest → Reads (labeled x s) (t ∷ ts) rest
unfolding is_at
labeled_read x s t ts mid rest i j l shorter r =
    plain i j (λ depth d n le done. let g = l depth d in with_label x s (t ∷ ts) mid rest depth g.0 (omega (arith, shorter)) r g.1 n le done)

no_value : (depth : ℕ) (c : Lexeme) (rest : List Lexeme) → IsPunctuator punctuator.Semicolon c → optional (nesting depth) mark.Semicolon (c ∷ rest) ≡ Ok (None, c ∷ rest)
unfolding optional is_at
no_value depth c rest k = let i = at_mark mark.Semicolon c k in rw i refl

a_value : (depth : ℕ) (e : ExpressionTree) (c : Lexeme) (ts rest : List Lexeme) → IsExpression e ts (c ∷ rest) → Nests e depth → IsPunctuator punctuator.Semicolon c → optional (nesting depth) mark.Semicolon ts ≡ Ok (Some e, c ∷ rest)
unfolding optional
a_value depth e c ts rest x d k =
    let i = no_end mark.Semicolon ts refl (expression_begins x) in rw i (followed _ (expression_read x depth d (loose c rest 14 k (omega arith))) refl)

mutual
  pub statement_reads : {s : StatementTree} {ts rest : List Lexeme} → IsStatement s ts rest → Reads s ts rest
  statement_reads (grammar.case {t = t} {colon = c} {e = e} {s = s} {ts = ts} {mid = mid} {rest = rest} k x i y) =
      labeled_read (CaseLabel (from_to t c) e) s t ts mid rest refl (ap (is mark.If) k)
      (λ depth d. (case_read depth t c e ts mid k (conditional_read x depth d.0 (loose c mid 12 i (omega arith))) i (last_known (passed (conditional_passes x))), d.1))
      (no_longer (step (conditional_passes x))) (statement_reads y).alone
  statement_reads (grammar.default {t = t} {colon = c} {s = s} {ts = ts} {rest = rest} k i y) =
      labeled_read (DefaultLabel (from_to t c)) s t (c ∷ ts) ts rest refl (ap (is mark.If) k) (λ depth d. (default_read depth t c ts k i, d)) (omega arith) (statement_reads y).alone
  statement_reads (grammar.compound {opening = o} {closing = c} {all = all} {ts = ts} {rest = rest} k x e) =
      punctuator_read punctuator.OpenBrace (tree.Compound o.spot all c.spot) o ts rest k refl (λ depth d. compound_read depth all o c ts rest k (statements_read x) d e)
  statement_reads (grammar.empty {t = t} {rest = rest} k) =
      punctuator_read punctuator.Semicolon (tree.Empty t.spot) t rest rest k refl (λ depth d. of_word depth (word.Punctuator punctuator.Semicolon) t (tree.Empty t.spot) rest rest k refl)
  statement_reads (grammar.run {t = t} {e = e} {ts = ts} {rest = rest} x k) = expression_is_read e t ts rest x k
  statement_reads (grammar.if {t = t} {c = c} {s = s} {ts = ts} {mid = mid} {rest = rest} k x y n) =
      if_alone t (record { spot = t.spot; condition = c; then = s }) None ts rest rest k
      (λ depth d. (branch_read depth t c s ts mid rest k (condition_read x depth d.0) (inner_read s mid rest (statement_reads y).alone depth d.1), λ m le b done. ended_read m depth b done rest n))
      (no_longer (join (condition_passes x) (statement_passes y)))
  statement_reads (grammar.if_else {t = t} {u = u} {c = c} {s = s} {r = r} {ts = ts} {mid = mid} {more = more} {rest = rest} k x y e z) =
      if_alone t (record { spot = t.spot; condition = c; then = s }) (Some r) ts (u ∷ more) rest k
      (λ depth d. (
        branch_read depth t c s ts mid (u ∷ more) k (condition_read x depth d.0) (inner_read s mid (u ∷ more) (statement_reads y).alone depth d.1),
        λ m le b done. (statement_reads z).otherwise depth d.2 u e m le b done,
      ))
      (no_longer (join (condition_passes x) (statement_passes y)))
  statement_reads (grammar.switch {t = t} {opening = o} {closing = c} {e = e} {all = all} {ts = ts} {mid = mid} {rest = rest} k x i y z) =
      keyword_read keyword.Switch (tree.Switch t.spot e o.spot all c.spot) t ts rest k refl refl (λ nest. refl)
      (λ depth d. switch_read depth e all t o c ts mid rest k (condition_read x depth d.0) i (statements_read y) d.1 z)
  statement_reads (grammar.while {t = t} {c = c} {s = s} {ts = ts} {mid = mid} {rest = rest} k x y) =
      keyword_read keyword.While (tree.While t.spot c s) t ts rest k refl refl (λ nest. refl)
      (λ depth d. while_read depth t c s ts mid rest k (condition_read x depth d.0) (inner_read s mid rest (statement_reads y).alone depth d.1))
  statement_reads (grammar.do_while {t = t} {u = u} {end = e} {c = c} {s = s} {ts = ts} {mid = mid} {rest = rest} k y i x j) =
      keyword_read keyword.Do (tree.DoWhile (from_to t e) s c) t ts rest k refl refl (λ nest. refl)
      (λ depth d. do_read depth t u e c s ts mid rest k (inner_read s ts (u ∷ mid) (statement_reads y).alone depth d.0) i (condition_read x depth d.1) j (last_known (passed (join (step (statement_passes y)) (condition_passes x)))))
  statement_reads (grammar.for {t = t} {opening = o} {start = start} {c = c} {step = p} {s = s} {ts = ts} {its = its} {more = more} {mid = mid} {rest = rest} k i x y z w) =
      keyword_read keyword.For (tree.For t.spot start c p s) t (o ∷ ts) rest k refl refl (λ nest. refl)
      (λ depth d. by_level (λ l. Within l (λ n. StatementNests s n) → unlabeled l (reading.statements l) (t ∷ o ∷ ts) ≡ Ok (tree.For t.spot start c p s, rest)) (λ l. StartNests start l × NestsIfAny c l × NestsIfAny p l) depth d.0
      (λ l f. λ g. let h = header_read l x y z f.0 f.1 f.2 in for_read l t o h.0 start c p s ts mid rest k i h.2 h.1 (inner_read s mid rest (statement_reads w).alone (suc l) g)) d.1)
  statement_reads (grammar.break {t = t} {end = e} {rest = rest} k i) =
      keyword_read keyword.Break (tree.Break (from_to t e)) t (e ∷ rest) rest k refl refl (λ nest. refl) (λ depth d. break_read depth t e rest k i)
  statement_reads (grammar.continue {t = t} {end = e} {rest = rest} k i) =
      keyword_read keyword.Continue (tree.Continue (from_to t e)) t (e ∷ rest) rest k refl refl (λ nest. refl) (λ depth d. continue_read depth t e rest k i)
  statement_reads (grammar.return {t = t} {end = e} {rest = rest} k i) =
      keyword_read keyword.Return (tree.Return (from_to t e) None) t (e ∷ rest) rest k refl refl (λ nest. refl)
      (λ depth d. return_read depth t e None (e ∷ rest) rest k (no_value depth e rest i) i (last_known (passed here)))
  statement_reads (grammar.return_value {t = t} {end = c} {e = e} {ts = ts} {rest = rest} k x i) =
      keyword_read keyword.Return (tree.Return (from_to t c) (Some e)) t ts rest k refl refl (λ nest. refl)
      (λ depth d. return_read depth t c (Some e) ts rest k (a_value depth e c ts rest x d i) i (last_known (passed (expression_passes x))))

  pub statements_read : {may_declare : Bool} {all : StatementTrees} {ts rest : List Lexeme} → AreStatements may_declare all ts rest → AreRead may_declare all ts rest
  statements_read (no_statement {may_declare = m} {rest = rest}) = none_read m rest
  statements_read (statement {may_declare = m} {s = s} {all = all} {ts = ts} {mid = mid} {rest = rest} x y) =
      item_on m s all ts mid rest (statement_no_brace x) (λ depth d. item_read m s ts mid (statement_reads x).alone (statement_untyped x) depth d) (statement_shorter x) (statements_read y)
  statements_read (declares {may_declare = m} {d = d} {all = all} {ts = ts} {mid = mid} {rest = rest} e x y) =
      item_on m (tree.Declare d) all ts mid rest (typed_no_brace ts (declaration_typed x))
      (λ depth n. subst (λ (q : Bool). nested_statement (reading.statements depth) q ts ≡ Ok (tree.Declare d, mid)) (sym e) (declared_read d ts mid x depth n)) (declaration_shorter x) (statements_read y)
