-- The grammar of specifiers and of the names of types (ISO/IEC 9899:2011, 6.7, 6.7.2, 6.7.6 and 6.7.7).
use Rattle.std.specs.Prelude.{◌≡◌, ℕ, suc, true, false, List, ◌∷◌, Some}
use Rattle.c_token.specs.declared.token.Keyword.{Keyword}
use Rattle.c_token.specs.declared.token.Punctuator.TheVariants as punctuator
use Rattle.c_token.specs.Lexemes.{Lexeme}
use Rattle.c_tree.specs.declared.types.Base.TheVariants as base
use Rattle.c_tree.specs.declared.types.TypeName.{TypeName}
use Rattle.c_parse_tokens.specs.declared.specifier.Place.{Place}
use Rattle.c_parse_tokens.specs.declared.specifier.Place.TheVariants as place
use Rattle.c_parse_tokens.specs.declared.specifier.SpecifierList.{SpecifierList}
use Rattle.c_parse_tokens.specs.Specifiers.{no_specifiers, is_type, with_specifier, integer_type}
use Rattle.c_parse.specs.Tokens.{IsPunctuator, IsKeyword}

-- declaration-specifiers: specifiers one behind the other, behind those that stand before, each of which may stand
-- there (6.7.2p2)
pub data AreSpecifiers (p : Place) : (before all : SpecifierList) → (tokens rest : List Lexeme) → Type 0 where
  none : {found : SpecifierList} {rest : List Lexeme} → AreSpecifiers p found found rest rest
  more : {t : Lexeme} {k : Keyword} {before with_this all : SpecifierList} {ts rest : List Lexeme} → IsKeyword k t
      → with_specifier p k before ≡ Some with_this
      → AreSpecifiers p with_this all ts rest → AreSpecifiers p before all (t ∷ ts) rest

-- specifiers, with a word of a type among them
pub record Specify (p : Place) (found : SpecifierList) (tokens rest : List Lexeme) : Type 0 where
  pub words : AreSpecifiers p no_specifiers found tokens rest
  pub type : is_type found ≡ true

-- pointer: so many `*`, or none
pub data AreStars : (count : ℕ) → (tokens rest : List Lexeme) → Type 0 where
  no_star : {rest : List Lexeme} → AreStars 0 rest rest
  star : {t : Lexeme} {count : ℕ} {ts rest : List Lexeme} → IsPunctuator punctuator.Star t → AreStars count ts rest
      → AreStars (suc count) (t ∷ ts) rest

-- type-name, as it stands in a cast: `void`, or an integer type with `*` behind it
pub data IsTypeName : TypeName → (tokens rest : List Lexeme) → Type 0 where
  nothing : {found : SpecifierList} {ts rest : List Lexeme} → Specify place.Cast found ts rest → found.is_void ≡ true
      → IsTypeName (record { base = base.Void; stars = 0 }) ts rest
  integer : {found : SpecifierList} {count : ℕ} {ts mid rest : List Lexeme} → Specify place.Cast found ts mid
      → found.is_void ≡ false → AreStars count mid rest
      → IsTypeName (record { base = base.Integer (integer_type found); stars = count }) ts rest
