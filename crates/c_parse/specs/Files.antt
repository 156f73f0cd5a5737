-- The grammar of what stands at file scope (ISO/IEC 9899:2011, 6.7.6.3, 6.9 and A.2.4), and what tokens spell a file.
use Rattle.std.specs.Prelude.{◌≡◌, ℕ, ◌≤◌, true, false, List, [], ◌∷◌, Option, Some, None}
use Rattle.c_token.specs.declared.token.Header as token
use Rattle.c_token.specs.declared.token.Header.TheVariants as token_headers
use Rattle.c_token.specs.declared.token.Keyword.TheVariants as keyword
use Rattle.c_token.specs.declared.token.Punctuator.TheVariants as punctuator
use Rattle.debug_records.specs.declared.source.SourceErr.{SourceErr}
use Rattle.debug_records.specs.declared.source.SourceErr.TheVariants.{Refused, NoMemory}
use Rattle.c_token.specs.Lexemes.{Lexeme}
use Rattle.c_token.specs.Lexemes as word
use Rattle.c_tree.specs.declared.declaration.Header.{Header}
use Rattle.c_tree.specs.declared.declaration.Header.TheVariants as headers
use Rattle.c_tree.specs.Expressions.{NameTree}
use Rattle.c_tree.specs.Declarations.{DeclaratorTree, ParameterTree}
use Rattle.c_tree.specs.Statements.{StatementTree, BlockTree, chain_of_statements}
use Rattle.c_tree.specs.Trees.{ItemTree, Include, Declares, Defines}
use Rattle.c_parse_tokens.specs.declared.specifier.Place.TheVariants as place
use Rattle.c_parse_tokens.specs.declared.specifier.SpecifierList.{SpecifierList}
use Rattle.c_parse_tokens.specs.Front.{spot_at, last_before}
use Rattle.c_parse_tokens.specs.Specifiers.{integer_type, base_of}
use Rattle.c_parse.specs.Tokens.{IsPunctuator, IsKeyword, IsName}
use Rattle.c_parse.specs.Types.{Specify, AreStars}
use Rattle.c_parse.specs.Declarations.{AreBrackets, IsDeclarator, Separated}
use Rattle.c_parse.specs.Statements.{AreStatements}
use Rattle.c_parse.specs.Depths.{file_depth}

-- a name, or none
pub data IsOptionalName : Option NameTree → (tokens rest : List Lexeme) → Type 0 where
  nameless : {rest : List Lexeme} → IsOptionalName None rest rest
  its_name : {t : Lexeme} {n : NameTree} {rest : List Lexeme} → IsName n t → IsOptionalName (Some n) (t ∷ rest) rest

-- parameter-declaration (6.7.6): specifiers, `*`, a name or none, and brackets
pub data IsParameter : ParameterTree → (tokens rest : List Lexeme) → Type 0 where
  parameter : {found : SpecifierList} {p : ParameterTree} {ts mid at_name behind_name rest : List Lexeme}
      → Specify place.Object found ts mid → AreStars p.stars mid at_name
      → IsOptionalName p.name at_name behind_name → AreBrackets p.brackets behind_name rest
      → p.type ≡ integer_type found
      → p.extent ≡ record { first = spot_at mid; last = last_before ts rest } → IsParameter p ts rest

-- the parameters of a function: none, `void`, or parameters with commas between them
pub data AreParameters : List ParameterTree → (tokens rest : List Lexeme) → Type 0 where
  no_parameter : {rest : List Lexeme} → AreParameters [] rest rest
  void : {t : Lexeme} {rest : List Lexeme} → IsKeyword keyword.Void t → AreParameters [] (t ∷ rest) rest
  parameters : {all : List ParameterTree} {ts rest : List Lexeme} → Separated IsParameter all ts rest
      → AreParameters all ts rest

-- each parameter has a name
pub data HaveNames : List ParameterTree → Type 0 where
  no_more : HaveNames []
  has_name : {p : ParameterTree} {all : List ParameterTree} (n : NameTree) → p.name ≡ Some n → HaveNames all
      → HaveNames (p ∷ all)

-- what stands behind a function's parameters (6.9.1): `;`, or its body, where each parameter has a name
pub data IsBody : List ParameterTree → Option BlockTree → (tokens rest : List Lexeme) → Type 0 where
  no_body : {t : Lexeme} {ps : List ParameterTree} {rest : List Lexeme} → IsPunctuator punctuator.Semicolon t
      → IsBody ps None (t ∷ rest) rest
  body : {opening closing : Lexeme} {ps : List ParameterTree} {all : List StatementTree} {ts rest : List Lexeme}
      → HaveNames ps → IsPunctuator punctuator.OpenBrace opening
      → AreStatements true (chain_of_statements all) ts (closing ∷ rest) → IsPunctuator punctuator.CloseBrace closing
      → IsBody ps (Some (record {
        opening = opening.spot;
        statements = all;
        closing = closing.spot;
      })) (opening ∷ ts) rest

-- `*` behind specifiers at file scope: behind `void` none stand
pub data AreResultStars (found : SpecifierList) : ℕ → (tokens rest : List Lexeme) → Type 0 where
  of_void : {rest : List Lexeme} → found.is_void ≡ true → AreResultStars found 0 rest rest
  of_integer : {count : ℕ} {ts rest : List Lexeme} → found.is_void ≡ false → AreStars count ts rest
      → AreResultStars found count ts rest

-- the headers that a line may include
pub data IsHeader : token.Header → Header → Type 0 where
  stdio : IsHeader token_headers.Stdio headers.Stdio
  stdlib : IsHeader token_headers.Stdlib headers.Stdlib

-- external-declaration (6.9): a line that includes a header; a function; a declaration of objects
pub data IsItem : ItemTree → (tokens rest : List Lexeme) → Type 0 where
  include : {t : Lexeme} {h : token.Header} {its : Header} {rest : List Lexeme} → t.kind ≡ word.Include h
      → IsHeader h its → IsItem (Include t.spot its) (t ∷ rest) rest
  -- specifiers, `*`, a name, `( parameters )`, and a body or `;`
  function : {t opening closing : Lexeme} {found : SpecifierList} {name : NameTree} {count : ℕ}
      {ps : List ParameterTree} {b : Option BlockTree} {ts declarator its mid rest : List Lexeme}
      → Specify place.File found ts declarator → AreResultStars found count declarator (t ∷ opening ∷ its)
      → IsName name t → IsPunctuator punctuator.OpenParenthesis opening
      → AreParameters ps its (closing ∷ mid) → IsPunctuator punctuator.CloseParenthesis closing → IsBody ps b mid rest
      → IsItem (Defines (record {
        extent = record { first = spot_at declarator; last = closing.spot.at };
        base = base_of found;
        stars = count;
        name = name;
        parameters = ps;
        body = b;
      })) ts rest
  -- specifiers, declarators with commas between them, and `;`
  objects : {end : Lexeme} {found : SpecifierList} {all : List DeclaratorTree} {ts mid rest : List Lexeme}
      → Specify place.File found ts mid → found.is_void ≡ false
      → Separated IsDeclarator all mid (end ∷ rest) → IsPunctuator punctuator.Semicolon end
      → IsItem (Declares (record {
        extent = record { first = spot_at ts; last = end.spot.at };
        type = integer_type found;
        declarators = all;
      })) ts rest

-- translation-unit (6.9): external declarations one behind the other
pub data IsFile : List ItemTree → List Lexeme → Type 0 where
  nothing_more : IsFile [] []
  item : {i : ItemTree} {all : List ItemTree} {ts rest : List Lexeme} → IsItem i ts rest → IsFile all rest
      → IsFile (i ∷ all) ts

-- These tokens, all of them, spell this tree.
abbrev pub Spells : List Lexeme → List ItemTree → Type 0
Spells tokens items = IsFile items tokens

-- These tokens spell this tree, in which constructs nest 64 deep at most.
pub record IsTreeOf (tokens : List Lexeme) (items : List ItemTree) : Type 0 where
  pub spelled : Spells tokens items
  pub fits : file_depth items ≤ 64

-- a refusal says that these tokens have no tree; the want of memory says nothing of them
abbrev pub HasNoTree : List Lexeme → SourceErr → Type 0
HasNoTree tokens NoMemory = Unit {0}
HasNoTree tokens (Refused code line) = (items : List ItemTree) → IsTreeOf tokens items → ⊥
