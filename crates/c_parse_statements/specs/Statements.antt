-- Statements.
use Rattle.std.specs.Prelude.{ℕ, zero, suc, ◌+◌, Bool, true, false, ◌&&◌, ◌||◌, if◌then◌else◌, List, [], ◌∷◌, ◌++◌, length, Some, None, Ok, Err}
use Rattle.std.specs.Option.{option_map_or}
use Rattle.debug_records.specs.declared.source.Spot.{Spot}
use Rattle.c_token.specs.declared.token.Keyword.TheVariants as keyword
use Rattle.c_token.specs.declared.token.Punctuator.TheVariants as punctuator
use Rattle.c_token.specs.Lexemes.{Lexeme, Word}
use Rattle.c_token.specs.Lexemes as word
use Rattle.c_tree.specs.Statements.{StatementTree, BlockTree, BranchTree, if_tree, else_tree, behind_labels, block_tree, chain_of_statements}
use Rattle.c_tree.specs.Statements as tree
use Rattle.c_parse_tokens.specs.declared.mark.Mark.TheVariants as mark
use Rattle.c_parse_tokens.specs.Outcome.{Parser, ◌>>=◌}
use Rattle.c_parse_tokens.specs.Front.{stuck, refusal, inside, one_less, is_at, tokens_behind, want, spot_at, extent_before}
use Rattle.c_parse_tokens.specs.Specifiers.{begins_type}
use Rattle.c_parse_expressions.specs.Expressions.{Nesting, nesting}
use Rattle.c_parse_statements.specs.Declarations.{declaration}
use Rattle.c_parse_statements.specs.Clauses.{begins_statement, condition, for_header, begins_header, expression_statement, return_statement, labels}

-- what reads a statement, or a declaration where one may stand
abbrev pub StatementLevel : Type 0
StatementLevel = (may_declare : Bool) → Parser StatementTree

-- a statement within another, where the nesting allows one more
unfoldable pub nested_statement : List StatementLevel → StatementLevel
nested_statement [] may_declare ts = Err (refusal ((may_declare && begins_type ts) || begins_statement ts) ts)
nested_statement (level ∷ deeper) may_declare ts = level may_declare ts

-- the statements of a block, behind those that were read, up to its brace; as many as there are tokens are enough
abbrev pub statements_from : ℕ → List StatementLevel → (may_declare : Bool) → (opening : Spot) → List StatementTree
    → Parser BlockTree
statements_from zero within may_declare opening done ts = Err (stuck ts)
statements_from (suc n) within may_declare opening done ts =
    option_map_or (λ rest. Ok (
      record {
        opening = opening;
        statements = done;
        closing = spot_at ts;
      },
      rest,
    )) (tokens_behind mark.CloseBrace ts)
    (nested_statement within may_declare ts
    >>= λ s. statements_from n within may_declare opening (done ++ s.0 ∷ []) s.1)

-- statements in braces
unfoldable pub block : List StatementLevel → (may_declare : Bool) → Parser BlockTree
block within may_declare ts =
    want mark.OpenBrace ts >>= λ its. statements_from (length its + 1) within may_declare (spot_at ts) [] its

-- `if`, its condition and what stands behind it
unfoldable pub branch : Nesting → List StatementLevel → Parser BranchTree
branch nest within ts =
    want mark.If ts >>= λ rest. condition nest rest >>= λ c. nested_statement within false c.1 >>= λ s. Ok (
      record {
        spot = spot_at ts;
        condition = c.0;
        then = s.0;
      },
      s.1,
    )

-- more `else if`, behind those that were read, which nest no deeper, and the last `else`; as many as there are tokens
-- are enough
abbrev pub else_from : ℕ → Nesting → List StatementLevel → BranchTree → List BranchTree → Parser StatementTree
else_from zero nest within b done ts = Ok (if_tree b (else_tree done None), ts)
else_from (suc n) nest within b done ts =
    option_map_or
    (λ after. if is_at mark.If after
    then (branch nest within after >>= λ x. else_from n nest within b (done ++ x.0 ∷ []) x.1)
    else (nested_statement within false after >>= λ s. Ok (if_tree b (else_tree done (Some s.0)), s.1)))
    (tokens_behind mark.Else ts)
    (Ok (if_tree b (else_tree done None), ts))

-- an `if` and what its `else`s have
unfoldable pub if_statement : Nesting → List StatementLevel → Parser StatementTree
if_statement nest within ts = branch nest within ts >>= λ b. else_from (length b.1) nest within b.0 [] b.1

-- the condition and the body of a `while`, behind its word
unfoldable pub while_statement : Nesting → List StatementLevel → Spot → Parser StatementTree
while_statement nest within spot ts =
    condition nest ts >>= λ c. nested_statement within false c.1 >>= λ s. Ok (tree.While spot c.0 s.0, s.1)

-- a `do` that begins at the start, behind its word
unfoldable pub do_statement : Nesting → List StatementLevel → (start : List Lexeme) → Parser StatementTree
do_statement nest within start ts =
    nested_statement within false ts >>= λ s. want mark.While s.1 >>= λ rest. condition nest rest
    >>= λ c. want mark.Semicolon c.1 >>= λ end.
    Ok (tree.DoWhile (extent_before start end) s.0 c.0, end)

-- the parts and the body of a `for`, behind its word; its parentheses nest
unfoldable pub for_statement : ℕ → List StatementLevel → Spot → Parser StatementTree
for_statement depth within spot ts =
    want mark.OpenParenthesis ts >>= λ its. one_less depth (begins_header its) its >>= λ less. for_header less its
    >>= λ h.
    want mark.CloseParenthesis h.1 >>= λ rest. nested_statement within false rest
    >>= λ s. Ok (tree.For spot h.0.start h.0.condition h.0.step s.0, s.1)

-- the value and the block of a `switch`, behind its word; the block is a statement within it, and no declaration stands
-- in it
unfoldable pub switch_statement : Nesting → List StatementLevel → Spot → Parser StatementTree
switch_statement nest within spot ts =
    condition nest ts >>= λ e. inside within (is_at mark.OpenBrace e.1) e.1 >>= λ deeper. block deeper false e.1
    >>= λ b.
    Ok (tree.Switch spot e.0 b.0.opening (chain_of_statements b.0.statements) b.0.closing, b.1)

-- a statement without labels
abbrev pub unlabeled_of : ℕ → List StatementLevel → Word → Lexeme → Parser StatementTree
unlabeled_of depth within (word.Punctuator punctuator.Semicolon) t ts = Ok (tree.Empty t.spot, ts)
unlabeled_of depth within (word.Punctuator punctuator.OpenBrace) t ts =
    block within true (t ∷ ts) >>= λ b. Ok (block_tree b.0, b.1)
unlabeled_of depth within (word.Keyword keyword.If) t ts = if_statement (nesting depth) within (t ∷ ts)
unlabeled_of depth within (word.Keyword keyword.While) t ts = while_statement (nesting depth) within t.spot ts
unlabeled_of depth within (word.Keyword keyword.Do) t ts = do_statement (nesting depth) within (t ∷ ts) ts
unlabeled_of depth within (word.Keyword keyword.For) t ts = for_statement depth within t.spot ts
unlabeled_of depth within (word.Keyword keyword.Switch) t ts = switch_statement (nesting depth) within t.spot ts
unlabeled_of depth within (word.Keyword keyword.Break) t ts =
    want mark.Semicolon ts >>= λ rest. Ok (tree.Break (extent_before (t ∷ ts) rest), rest)
unlabeled_of depth within (word.Keyword keyword.Continue) t ts =
    want mark.Semicolon ts >>= λ rest. Ok (tree.Continue (extent_before (t ∷ ts) rest), rest)
unlabeled_of depth within (word.Keyword keyword.Return) t ts = return_statement (nesting depth) (t ∷ ts) ts
unlabeled_of depth within w t ts = expression_statement (nesting depth) (t ∷ ts)

-- a statement without labels (C11 6.8)
unfoldable pub unlabeled : ℕ → List StatementLevel → Parser StatementTree
unlabeled depth within [] = Err (stuck [])
unlabeled depth within (t ∷ ts) = unlabeled_of depth within t.kind t ts

-- a statement with its labels
unfoldable pub statement_in : ℕ → List StatementLevel → Parser StatementTree
statement_in depth within ts =
    labels (length ts + 1) (nesting depth) [] ts >>= λ all. unlabeled depth within all.1
    >>= λ s. Ok (behind_labels all.0 s.0, s.1)

-- a statement, or a declaration where one may stand
abbrev pub statement_of : ℕ → List StatementLevel → StatementLevel
statement_of depth within may_declare ts =
    if may_declare && begins_type ts then (declaration depth ts >>= λ d. Ok (tree.Declare d.0, d.1))
    else statement_in depth within ts

-- what may nest where so many levels are left
unfoldable pub statements : ℕ → List StatementLevel
statements zero = []
statements (suc depth) = statement_of depth (statements depth) ∷ statements depth
