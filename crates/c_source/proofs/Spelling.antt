-- The tokens of a text of bytes are sound.
use Rattle.std.proofs.Common.{◌≡◌, ℕ, true, ◌&&◌, nat_le, eqb, List, ◌++◌, get_or, length, Result, Ok, Err}
use Rattle.std.specs.Prelude.{nat_lt}
use Rattle.c_token.specs.declared.context.Context.{Context}
use Rattle.c_token.specs.declared.fault.Fault.{Fault}
use Rattle.c_token.specs.Blanks.{blank_at}
use Rattle.c_token.specs.Bytes.{is_letter, is_replaced}
use Rattle.c_token.specs.Constants.{constant_at}
use Rattle.c_token.specs.Includes.{include_at}
use Rattle.c_token.specs.Items.{Piece, LineFeed, Blank, Token, begins_constant, plain_token_at, token_at, item_at}
use Rattle.c_token.specs.Lexemes.{Word, Lexeme}
use Rattle.c_token.specs.Literals.{literal_at, character_at}
use Rattle.c_token.specs.Punctuators.{punctuator_at}
use Rattle.c_token.specs.Spells.{SpellsFrom, nothing, piece}
use Rattle.c_token.specs.Texts.{tokens_at}
use Rattle.c_token.specs.Words.{keyword_or_name, word_at, keyword_of}
use Rattle.c_type_laws.specs.Names.{is_identifier}
use Rattle.c_type_laws.specs.Statics.{are_bytes}
use Rattle.c_source.specs.Tokens.{IsSound, AreSound}
use Rattle.c_source.proofs.Identifiers.{both_true, no_longer, word_identifies}
use Rattle.c_source.proofs.Bytes.{by_test, by_read, by_option, Reads, IsNumber, number_at, AreBytes, literal_there, character_there}

-- what is read has the property
there : {A : Type 0} (P : A → Type 0) (r : Result (A × ℕ) Fault) (x : A × ℕ) → Reads P r → r ≡ Ok x → P x.0
there P r x h e = rw e at h

abbrev WordIsSound : Result Word Fault → Type 0
WordIsSound (Ok w) = IsSound w
WordIsSound (Err f) = Unit {0}

in_sound : (at : ℕ) (s : List ℕ) → is_identifier s ≡ true → WordIsSound (keyword_or_name at s)
unfolding keyword_or_name
in_sound at s h = by_option WordIsSound _ (keyword_of s) _ (λ k e. tt) (by_test WordIsSound (nat_lt 63 (length s)) _ _ (λ _. tt) (λ e. both_true (is_identifier s) (nat_le (length s) 63) h (no_longer (length s) e)))

sound_there : (r : Result Word Fault) (w : Word) → WordIsSound r → r ≡ Ok w → IsSound w
sound_there r w h e = rw e at h

word_sound : (text : List ℕ) (at : ℕ) → is_letter (get_or text at 0) ≡ true → Reads IsSound (word_at text at)
unfolding word_at
word_sound text at h = by_read (Reads IsSound) (keyword_or_name at _) _ (λ e. tt) (λ w e. sound_there _ w (in_sound at _ (word_identifies text at h)) e)

plain_sound : (text : List ℕ) (at : ℕ) → are_bytes text ≡ true → Reads IsSound (plain_token_at text at)
unfolding plain_token_at
plain_sound text at h =
    by_test P (is_letter (get_or text at 0)) _ _ (λ e. word_sound text at e)
    (λ _. by_test P (begins_constant text at) _ _ (λ _. by_read P (constant_at text at) _ (λ e. tt) (λ x e. there IsNumber _ x (number_at text at) e))
    (λ _. by_test P (eqb (get_or text at 0) 39) _ _ (λ _. by_read P (character_at text at) _ (λ e. tt) (λ x e. there IsNumber _ x (character_there text at h) e))
    (λ _. by_test P (eqb (get_or text at 0) 34) _ _ (λ _. by_read P (literal_at text at) _ (λ e. tt) (λ x e. there AreBytes _ x (literal_there text at h) e))
    (λ _. by_read P (punctuator_at text at) _ (λ e. tt) (λ x e. tt)))))
  where
    P : Result (Word × ℕ) Fault → Type 0
    P r = Reads IsSound r

token_sound : (c : Context) (text : List ℕ) (at : ℕ) → are_bytes text ≡ true → Reads IsSound (token_at c text at)
unfolding token_at
token_sound c text at h =
    by_test P (is_replaced text at) _ _ (λ _. tt)
    (λ _. by_test P (eqb (get_or text at 0) 35 && c.starts_line) _ _ (λ _. by_read P (include_at c text at) _ (λ e. tt) (λ x e. tt)) (λ _. plain_sound text at h))
  where
    P : Result (Word × ℕ) Fault → Type 0
    P r = Reads IsSound r

abbrev PieceIsSound : Piece → Type 0
PieceIsSound LineFeed = Unit {0}
PieceIsSound Blank = Unit {0}
PieceIsSound (Token word) = IsSound word

item_sound : (c : Context) (text : List ℕ) (at : ℕ) → are_bytes text ≡ true → Reads PieceIsSound (item_at c text at)
unfolding item_at
item_sound c text at h =
    by_test P (eqb (get_or text at 0) 10) _ _ (λ _. tt)
    (λ _. by_read P (blank_at text at) _ (λ e. tt)
    (λ blank e. by_option P _ blank _ (λ end is. tt) (by_read P (token_at c text at) _ (λ e. tt) (λ x e. there IsSound _ x (token_sound c text at h) e))))
  where
    P : Result (Piece × ℕ) Fault → Type 0
    P r = Reads PieceIsSound r

join_sound : (text : List ℕ) (at : ℕ) (p : Piece) (ts : List Lexeme) → PieceIsSound p → AreSound ts → AreSound (tokens_at text at p ++ ts)
join_sound text at LineFeed ts h g = g
join_sound text at Blank ts h g = g
join_sound text at (Token word) ts h g = (h, g)

pub spelled_sound : {text : List ℕ} {at : ℕ} {c : Context} {ts : List Lexeme} → are_bytes text ≡ true → SpellsFrom text at c ts → AreSound ts
spelled_sound h nothing = tt
spelled_sound {text = text} {at = at} {c = c} h (piece {p = p} {tokens = more} t rest) = join_sound text at p more (there PieceIsSound (item_at c text at) _ (item_sound c text at h) t.item) (spelled_sound h rest)
