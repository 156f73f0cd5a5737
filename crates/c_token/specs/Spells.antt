-- A text spells a list of tokens, or has a first fault.
use Rattle.std.specs.Prelude.{◌≡◌, ℕ, ◌<◌, ◌≤◌, List, [], ◌++◌, length, Ok, Err}
use Rattle.debug_records.specs.declared.code.Code.{Code}
use Rattle.debug_records.specs.declared.code.TheConstants.Code.{TEXT_SIZE}
use Rattle.debug_records.specs.declared.source.SourceErr.{SourceErr}
use Rattle.debug_records.specs.declared.source.SourceErr.TheVariants.{Refused, NoMemory}
use Rattle.c_token.specs.declared.context.Context.{Context}
use Rattle.c_token.specs.declared.fault.Fault.{Fault}
use Rattle.c_token.specs.Includes.{context_at_start}
use Rattle.c_token.specs.Items.{Piece, item_at, context_behind}
use Rattle.c_token.specs.Lexemes.{Lexeme}
use Rattle.c_token.specs.Texts.{line_of, tokens_at}

-- white space, a comment or a token stands at an offset and ends at another one
pub record Takes (text : List ℕ) (c : Context) (at : ℕ) (piece : Piece) (end : ℕ) : Type 0 where
  pub item : item_at c text at ≡ Ok (piece, end)
  pub some : at < end
  pub there : end ≤ length text

-- from an offset on, a text is white space, comments and these tokens
pub data SpellsFrom (text : List ℕ) : ℕ → Context → List Lexeme → Type 0 where
  nothing : {c : Context} → SpellsFrom text (length text) c []
  piece : {at end : ℕ} {c : Context} {p : Piece} {tokens : List Lexeme} → Takes text c at p end
      → SpellsFrom text end (context_behind c p) tokens → SpellsFrom text at c (tokens_at text at p ++ tokens)

-- from an offset on, a text is white space, comments and tokens up to one that breaks a rule
pub data FaultsFrom (text : List ℕ) : ℕ → Context → Fault → Type 0 where
  here : {at : ℕ} {c : Context} {f : Fault} → at < length text → item_at c text at ≡ Err f → FaultsFrom text at c f
  later : {at end : ℕ} {c : Context} {p : Piece} {f : Fault} → Takes text c at p end
      → FaultsFrom text end (context_behind c p) f → FaultsFrom text at c f

-- a text of at most 1,048,576 bytes that is white space, comments and these tokens
pub record Spells (text : List ℕ) (tokens : List Lexeme) : Type 0 where
  pub fits : length text ≤ 1048576
  pub from_start : SpellsFrom text 0 context_at_start tokens

-- a text is refused by this code and line: it is too long, or they are those of its first fault
pub data Breaks (text : List ℕ) : Code → ℕ → Type 0 where
  too_long : 1048576 < length text → Breaks text TEXT_SIZE 1
  first : {f : Fault} → length text ≤ 1048576 → FaultsFrom text 0 context_at_start f
      → Breaks text f.code (line_of text f.at)

-- a refusal tells why the text breaks a rule; the want of memory says nothing of it
abbrev pub IsRefusal : List ℕ → SourceErr → Type 0
IsRefusal text NoMemory = Unit {0}
IsRefusal text (Refused code line) = Breaks text code line
