-- The grammar of declarations of objects (ISO/IEC 9899:2011, 6.7, 6.7.6, 6.7.9 and A.2.2): the tokens of the first
-- list, up to those of the second, spell the tree.
use Rattle.std.specs.Prelude.{◌≡◌, ◌≢◌, List, [], ◌∷◌, ◌++◌, Option, Some, None}
use Rattle.c_token.specs.declared.token.Punctuator.TheVariants as punctuator
use Rattle.c_token.specs.Lexemes.{Lexeme}
use Rattle.c_tree.specs.Expressions.{ExpressionTree}
use Rattle.c_tree.specs.Declarations.{BracketsTree, Absent, Empty, Sized, InitializerTree, Value, Braces, chain_of_initializers, DeclaratorTree, DeclarationTree}
use Rattle.c_parse_tokens.specs.declared.specifier.Place.TheVariants as place
use Rattle.c_parse_tokens.specs.declared.specifier.SpecifierList.{SpecifierList}
use Rattle.c_parse_tokens.specs.Front.{spot_at, extent_before}
use Rattle.c_parse_tokens.specs.Specifiers.{integer_type}
use Rattle.c_parse.specs.Tokens.{Grammar, IsPunctuator, IsName}
use Rattle.c_parse.specs.Types.{Specify, AreStars}
use Rattle.c_parse.specs.Expressions.{IsAssignment}

-- what stands behind a declarator's name (6.7.6.2): nothing, `[ ]`, or `[ assignment-expression ]`
pub data AreBrackets : BracketsTree → (tokens rest : List Lexeme) → Type 0 where
  no_brackets : {rest : List Lexeme} → AreBrackets Absent rest rest
  empty : {opening closing : Lexeme} {rest : List Lexeme} → IsPunctuator punctuator.OpenBracket opening
      → IsPunctuator punctuator.CloseBracket closing
      → AreBrackets Empty (opening ∷ closing ∷ rest) rest
  sized : {opening closing : Lexeme} {e : ExpressionTree} {ts rest : List Lexeme}
      → IsPunctuator punctuator.OpenBracket opening → IsAssignment e ts (closing ∷ rest)
      → IsPunctuator punctuator.CloseBracket closing → AreBrackets (Sized e) (opening ∷ ts) rest

mutual
  -- initializer (6.7.9): an assignment expression, or `{ initializer-list }` or `{ initializer-list , }`
  pub data IsInitializer : InitializerTree → (tokens rest : List Lexeme) → Type 0 where
    value : {e : ExpressionTree} {ts rest : List Lexeme} → IsAssignment e ts rest → IsInitializer (Value e) ts rest
    braces : {opening closing : Lexeme} {all : List InitializerTree} {ts rest : List Lexeme}
        → IsPunctuator punctuator.OpenBrace opening → AreInitializers all ts (closing ∷ rest)
        → IsPunctuator punctuator.CloseBrace closing
        → IsInitializer (Braces (chain_of_initializers all)) (opening ∷ ts) rest
    braces_with_comma : {opening comma closing : Lexeme} {all : List InitializerTree} {ts rest : List Lexeme}
        → IsPunctuator punctuator.OpenBrace opening
        → AreInitializers all ts (comma ∷ closing ∷ rest) → IsPunctuator punctuator.Comma comma
        → IsPunctuator punctuator.CloseBrace closing
        → IsInitializer (Braces (chain_of_initializers all)) (opening ∷ ts) rest

  -- initializer-list: an initializer, or such a list, `,` and an initializer
  pub data AreInitializers : List InitializerTree → (tokens rest : List Lexeme) → Type 0 where
    only : {i : InitializerTree} {ts rest : List Lexeme} → IsInitializer i ts rest → AreInitializers (i ∷ []) ts rest
    another : {t : Lexeme} {all : List InitializerTree} {i : InitializerTree} {ts mid rest : List Lexeme}
        → AreInitializers all ts (t ∷ mid) → IsPunctuator punctuator.Comma t
        → IsInitializer i mid rest → AreInitializers (all ++ i ∷ []) ts rest

-- what stands behind the brackets of a declarator (6.7): nothing, where the brackets are not empty, or `=` and an
-- initializer
pub data IsInitialized : BracketsTree → Option InitializerTree → (tokens rest : List Lexeme) → Type 0 where
  no_initializer : {b : BracketsTree} {rest : List Lexeme} → b ≢ Empty → IsInitialized b None rest rest
  initialized : {t : Lexeme} {b : BracketsTree} {i : InitializerTree} {ts rest : List Lexeme}
      → IsPunctuator punctuator.Equal t → IsInitializer i ts rest
      → IsInitialized b (Some i) (t ∷ ts) rest

-- what stands behind the name of a declarator that begins at the start
pub record IsNamed (start : List Lexeme) (d : DeclaratorTree) (tokens rest : List Lexeme) : Type 0 where
  pub behind_brackets : List Lexeme
  pub brackets : AreBrackets d.brackets tokens behind_brackets
  pub initial : IsInitialized d.brackets d.initializer behind_brackets rest
  pub extent : d.extent ≡ extent_before start rest

-- init-declarator of an object: `*`, a name, brackets and an initializer
pub data IsDeclarator : DeclaratorTree → (tokens rest : List Lexeme) → Type 0 where
  declarator : {t : Lexeme} {d : DeclaratorTree} {ts mid rest : List Lexeme} → AreStars d.stars ts (t ∷ mid)
      → IsName d.name t → IsNamed ts d mid rest → IsDeclarator d ts rest

-- Items of which each but the first stands behind a comma.
pub data Separated {A : Type 0} (G : Grammar A) : List A → (tokens rest : List Lexeme) → Type 0 where
  first : {a : A} {ts rest : List Lexeme} → G a ts rest → Separated G (a ∷ []) ts rest
  further : {t : Lexeme} {all : List A} {a : A} {ts mid rest : List Lexeme} → Separated G all ts (t ∷ mid)
      → IsPunctuator punctuator.Comma t → G a mid rest
      → Separated G (all ++ a ∷ []) ts rest

-- declaration of objects in a block: specifiers, declarators with commas between them, and `;`
pub data IsDeclaration : DeclarationTree → (tokens rest : List Lexeme) → Type 0 where
  declaration : {end : Lexeme} {found : SpecifierList} {all : List DeclaratorTree} {ts mid rest : List Lexeme}
      → Specify place.Object found ts mid
      → Separated IsDeclarator all mid (end ∷ rest) → IsPunctuator punctuator.Semicolon end
      → IsDeclaration (record {
        extent = record { first = spot_at ts; last = end.spot.at };
        type = integer_type found;
        declarators = all;
      }) ts rest
