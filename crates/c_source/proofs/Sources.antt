-- Why a source is refused, and what its program is.
use Rattle.std.proofs.Common.{◌≡◌, ℕ, ◌≤◌, sym, ap, ◌∙◌, subst, arith, refl, List, length}
use Rattle.std.specs.Prelude.{Bool, true, false, nat_lt, if◌then◌else◌, Result, Err, Ok}
use Rattle.std.proofs.lemmas.Bool.Decides.{nat_tests}
use Rattle.debug_records.specs.declared.code.Code.{Code}
use Rattle.debug_records.specs.declared.code.TheConstants.Code.{TEXT_SIZE}
use Rattle.debug_records.specs.declared.source.SourceErr.{SourceErr}
use Rattle.debug_records.specs.declared.source.SourceErr.TheVariants.{Refused, NoMemory}
use Rattle.debug_records.specs.Refusals.{Refuses}
use Rattle.c_token.specs.Includes.{context_at_start}
use Rattle.c_token.specs.Lexemes.{Lexeme}
use Rattle.c_token.specs.Reading.{◌>>=◌}
use Rattle.c_token.specs.Texts.{tokens_from, tokens_of}
use Rattle.c_tree.specs.Trees.{ItemTree}
use Rattle.c_tree.specs.Programs.{ProgramTree}
use Rattle.c_type.specs.Programs.{checked}
use Rattle.c_parse.specs.Reading.{tree_of}
use Rattle.c_source.specs.Sources.{HasProgram, program_of_source}

-- the first fault of the tokens is that of the source
pub tokens_refused : (text : List ℕ) (e : SourceErr) → Refuses e (tokens_of text) → Refuses e (program_of_source text)
unfolding program_of_source
tokens_refused text NoMemory h = tt
tokens_refused text (Refused code line) h = ap (λ (r : Result (List Lexeme) (Code × ℕ)). r >>= tree_of >>= checked) h

-- where there are tokens, that of the grammar is
pub tree_refused : (text : List ℕ) (tokens : List Lexeme) (e : SourceErr) → tokens_of text ≡ Ok tokens → Refuses e (tree_of tokens) → Refuses e (program_of_source text)
unfolding program_of_source
tree_refused text tokens NoMemory is h = tt
tree_refused text tokens (Refused code line) is h =
    ap (λ (r : Result (List Lexeme) (Code × ℕ)). r >>= tree_of >>= checked) is ∙ ap (λ (r : Result (List ItemTree) (Code × ℕ)). r >>= checked) h

-- where there is a tree, that of names and types is
pub program_refused : (text : List ℕ) (tokens : List Lexeme) (tree : List ItemTree) (e : SourceErr) → tokens_of text ≡ Ok tokens → tree_of tokens ≡ Ok tree → Refuses e (checked tree) → Refuses e (program_of_source text)
unfolding program_of_source
program_refused text tokens tree NoMemory is has h = tt
program_refused text tokens tree (Refused code line) is has h =
    ap (λ (r : Result (List Lexeme) (Code × ℕ)). r >>= tree_of >>= checked) is ∙ ap (λ (r : Result (List ItemTree) (Code × ℕ)). r >>= checked) has ∙ h

-- and else the program of the tree is that of the source
pub program_found : (text : List ℕ) (tokens : List Lexeme) (tree : List ItemTree) (program : ProgramTree) → tokens_of text ≡ Ok tokens → tree_of tokens ≡ Ok tree → checked tree ≡ Ok program → program_of_source text ≡ Ok program
unfolding program_of_source
program_found text tokens tree program is has h =
    ap (λ (r : Result (List Lexeme) (Code × ℕ)). r >>= tree_of >>= checked) is ∙ ap (λ (r : Result (List ItemTree) (Code × ℕ)). r >>= checked) has ∙ h

-- a text that is too long has no tokens, and so no program
long_has_no_tokens : (text : List ℕ) → nat_lt 1048576 (length text) ≡ true → tokens_of text ≡ Err (TEXT_SIZE, 1)
unfolding tokens_of
long_has_no_tokens text long = ap (λ b. if b then Err (TEXT_SIZE, 1) else tokens_from text 0 0 context_at_start text) long

pub long_has_no_program : (text : List ℕ) → nat_lt 1048576 (length text) ≡ true → program_of_source text ≡ Err (TEXT_SIZE, 1)
unfolding program_of_source
long_has_no_program text long = ap (λ (r : Result (List Lexeme) (Code × ℕ)). r >>= tree_of >>= checked) (long_has_no_tokens text long)

-- a reading that gave a program
abbrev Gives : Result ProgramTree (Code × ℕ) → Type 0
Gives (Ok program) = Unit {0}
Gives (Err fault) = ⊥

-- a text of a program breaks no rule
pub unbroken : (text : List ℕ) (code : Code) (line : ℕ) → HasProgram text → program_of_source text ≡ Err (code, line) → ⊥
unbroken text code line has e = subst Gives (sym has.program_is ∙ e) tt

-- and is short
short_by : (text : List ℕ) (long : Bool) → nat_lt 1048576 (length text) ≡ long → HasProgram text → length text ≤ 1048576
short_by text true is has = absurd (unbroken text TEXT_SIZE 1 has (long_has_no_program text is))
short_by text false is has = grind (arith, nat_tests, is)

pub program_is_short : (text : List ℕ) → HasProgram text → length text ≤ 1048576
program_is_short text has = short_by text (nat_lt 1048576 (length text)) refl has
