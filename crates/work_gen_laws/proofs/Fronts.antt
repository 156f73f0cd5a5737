-- What stands at an offset of a text is told by the bytes from there on.
use Rattle.std.proofs.Common.{◌≡◌, ℕ, ◌+◌, List, [], ◌∷◌, take, drop, length, get_or, Bool, ◌&&◌, ◌||◌, Option, Some, None, Result, Ok, Err, refl, sym, ap, ◌∙◌, add-zero, get_or-drop}
use Rattle.std.specs.Prelude.{◌==◌, if◌then◌else◌, nat_lt, slice_index, codes}
use Rattle.std.specs.List.{prefix_len, list_any}
use Rattle.std.specs.Option.{option_map_or}
use Rattle.debug_records.specs.declared.code.TheConstants.Code.{UNKNOWN_BYTE, MALFORMED_CONSTANT}
use Rattle.c_token.specs.declared.context.Context.{Context}
use Rattle.c_token.specs.declared.fault.Fault.{Fault}
use Rattle.c_token.specs.declared.token.Punctuator as punctuator
use Rattle.c_token.specs.declared.token.Constant as constant
use Rattle.c_token.specs.Bytes.{is_letter, is_digit, is_word_byte, is_blank, text_has, is_trigraph_end, is_replaced}
use Rattle.c_token.specs.Blanks.{line_comment, block_comment, blank_at}
use Rattle.c_token.specs.Constants.{digit_value, is_u, is_l, suffix_of, typed_constant, constant_in, constant_of, is_number_byte, constant_at}
use Rattle.c_token.specs.Includes.{include_at}
use Rattle.c_token.specs.Items.{Piece, LineFeed, Blank, Token, begins_constant, plain_token_at, token_at, item_at}
use Rattle.c_token.specs.Lexemes.{Word, Constant, Literal, Punctuator, Include}
use Rattle.c_token.specs.Literals.{literal_at, character_at}
use Rattle.c_token.specs.Punctuators.{punctuators, digraphs, is_digraph_at, find_punctuator, longest_punctuator, punctuator_at}
use Rattle.c_token.specs.Reading.{◌>>=◌, fault}
use Rattle.c_token.specs.Words.{keyword_of, keyword_or_name, word_at}

-- Each of these is the definition of what stands at an offset, of the bytes from there on.
unfoldable pub word_on : ℕ → List ℕ → Result (Word × ℕ) Fault
word_on at bs =
    let size = prefix_len is_word_byte bs in
    keyword_or_name at (take size bs) >>= λ w. Ok (w, at + size)

unfoldable pub constant_on : ℕ → List ℕ → Result (constant.Constant × ℕ) Fault
constant_on at bs =
    let size = prefix_len is_number_byte bs in
    option_map_or (λ c. Ok (c, at + size)) (constant_of (take size bs)) (Err (fault MALFORMED_CONSTANT at))

abbrev pub find_on : List (List ℕ × punctuator.Punctuator) → ℕ → List ℕ → Option (punctuator.Punctuator × ℕ)
find_on [] at bs = None
find_on (m ∷ table) at bs = if nat_lt 0 (length m.0) && text_has bs 0 m.0 then Some (m.1, at + length m.0) else find_on table at bs

unfoldable pub punctuator_on : ℕ → List ℕ → Result (punctuator.Punctuator × ℕ) Fault
punctuator_on at bs =
    if list_any (text_has bs 0) digraphs then Err (fault UNKNOWN_BYTE at)
    else option_map_or (λ m. Ok m) (find_on punctuators at bs) (Err (fault UNKNOWN_BYTE at))

unfoldable pub replaced_on : List ℕ → ℕ → List ℕ → Bool
replaced_on text at bs = text_has bs 0 (codes "\\\n") || (text_has bs 0 (codes "??") && is_trigraph_end (slice_index text (at + 2)))

unfoldable pub blank_on : List ℕ → ℕ → List ℕ → Result (Option ℕ) Fault
blank_on text at bs =
    if is_blank (slice_index bs 0) then Ok (Some (at + 1))
    else (if text_has bs 0 (codes "//") then (line_comment text (at + 2) (drop (at + 2) text) >>= λ end. Ok (Some end))
    else (if text_has bs 0 (codes "/*") then (block_comment text at (at + 2) (drop (at + 2) text) >>= λ end. Ok (Some end))
    else Ok None))

unfoldable pub plain_on : List ℕ → ℕ → List ℕ → Result (Word × ℕ) Fault
plain_on text at bs =
    let b = slice_index bs 0 in
    if is_letter b then word_on at bs
    else (if is_digit b || (b == 46 && is_digit (slice_index text (at + 1))) then (constant_on at bs >>= λ c. Ok (Constant c.0, c.1))
    else (if b == 39 then (character_at text at >>= λ c. Ok (Constant c.0, c.1))
    else (if b == 34 then (literal_at text at >>= λ l. Ok (Literal l.0, l.1))
    else punctuator_on at bs >>= λ p. Ok (Punctuator p.0, p.1))))

unfoldable pub token_on : Context → List ℕ → ℕ → List ℕ → Result (Word × ℕ) Fault
token_on c text at bs =
    if replaced_on text at bs then Err (fault UNKNOWN_BYTE at)
    else (if slice_index bs 0 == 35 && c.starts_line then (include_at c text at >>= λ h. Ok (Include h.0, h.1))
    else plain_on text at bs)

unfoldable pub item_on : Context → List ℕ → ℕ → List ℕ → Result (Piece × ℕ) Fault
item_on c text at bs =
    if slice_index bs 0 == 10 then Ok (LineFeed, at + 1)
    else (blank_on text at bs >>= λ blank.
    option_map_or (λ end. Ok (Blank, end)) blank (token_on c text at bs >>= λ t. Ok (Token t.0, t.1)))

-- all that they stand on
unfoldable pub opened : Unit {0}
unfolding item_on token_on plain_on blank_on replaced_on punctuator_on constant_on word_on keyword_or_name keyword_of is_word_byte is_letter is_digit is_blank text_has is_trigraph_end constant_of constant_in typed_constant suffix_of is_u is_l digit_value is_number_byte
opened = tt

byte_same : (text : List ℕ) (at : ℕ) → slice_index text at ≡ slice_index (drop at text) 0
byte_same text at = sym (get_or-drop at text 0 0 ∙ ap (λ (n : ℕ). get_or text n 0) (add-zero at))

word_same : (text : List ℕ) (at : ℕ) → word_at text at ≡ word_on at (drop at text)
unfolding word_at word_on
word_same text at = refl

constant_same : (text : List ℕ) (at : ℕ) → constant_at text at ≡ constant_on at (drop at text)
unfolding constant_at constant_on
constant_same text at = refl

find_same : (table : List (List ℕ × punctuator.Punctuator)) (text : List ℕ) (at : ℕ) → find_punctuator table text at ≡ find_on table at (drop at text)
unfolding text_has
find_same [] text at = refl
find_same (m ∷ table) text at =
    ap (λ (o : Option (punctuator.Punctuator × ℕ)). if nat_lt 0 (length m.0) && text_has text at m.0 then Some (m.1, at + length m.0) else o) (find_same table text at)

punctuator_same : (text : List ℕ) (at : ℕ) → punctuator_at text at ≡ punctuator_on at (drop at text)
unfolding punctuator_at is_digraph_at longest_punctuator punctuator_on text_has
punctuator_same text at =
    ap (λ (o : Option (punctuator.Punctuator × ℕ)). if list_any (text_has text at) digraphs then Err (fault UNKNOWN_BYTE at) else option_map_or (λ m. Ok m) o (Err (fault UNKNOWN_BYTE at))) (find_same punctuators text at)

replaced_same : (text : List ℕ) (at : ℕ) → is_replaced text at ≡ replaced_on text at (drop at text)
unfolding is_replaced replaced_on text_has
replaced_same text at = refl

blank_same : (text : List ℕ) (at : ℕ) → blank_at text at ≡ blank_on text at (drop at text)
unfolding blank_at blank_on text_has
blank_same text at = rw (byte_same text at) refl

plain_same : (text : List ℕ) (at : ℕ) → plain_token_at text at ≡ plain_on text at (drop at text)
unfolding plain_token_at begins_constant plain_on
plain_same text at = rw (byte_same text at, word_same text at, constant_same text at, punctuator_same text at) refl

token_same : (c : Context) (text : List ℕ) (at : ℕ) → token_at c text at ≡ token_on c text at (drop at text)
unfolding token_at token_on
token_same c text at = rw (byte_same text at, replaced_same text at, plain_same text at) refl

pub item_same : (c : Context) (text : List ℕ) (at : ℕ) → item_at c text at ≡ item_on c text at (drop at text)
unfolding item_at item_on
item_same c text at = rw (byte_same text at, blank_same text at, token_same c text at) refl
