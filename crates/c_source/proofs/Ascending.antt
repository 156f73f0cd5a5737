-- The tokens of a text stand one behind the other.
use Rattle.std.proofs.Common.{◌≡◌, ℕ, ◌<◌, ◌≤◌, true, nat_le, List, ◌++◌, map, Ok, refl, arith}
use Rattle.std.specs.Prelude.{nat_lt}
use Rattle.debug_records.specs.declared.source.Spot.{Spot}
use Rattle.c_token.specs.declared.context.Context.{Context}
use Rattle.c_token.specs.Includes.{context_at_start}
use Rattle.c_token.specs.Items.{Piece, LineFeed, Blank, Token}
use Rattle.c_token.specs.Lexemes.{Lexeme}
use Rattle.c_token.specs.Spells.{SpellsFrom, nothing, piece}
use Rattle.c_token.specs.Texts.{line_of, tokens_at, tokens_of}
use Rattle.c_token.proofs.TextSteps.{line_on}
use Rattle.c_token.proofs.Readings.{spells_reads}
use Rattle.c_type_laws.specs.Statics.{are_bytes}
use Rattle.c_type_laws.specs.Orders.{ascends_behind, ascends, never_falls}
use Rattle.c_source.specs.TextOrder.{AreInOrder}
use Rattle.c_source.specs.Tokens.{AreSound, spots_of_tokens}
use Rattle.c_source.proofs.Spelling.{spelled_sound}
use Rattle.base_laws.proofs.Booleans.{both}
use Rattle.base_laws.proofs.Numbers.{is_most as least, less}

-- the offsets of spots, and their lines
abbrev pub offsets : List Spot → List ℕ
offsets spots = map (λ (s : Spot). s.at) spots

abbrev pub lines : List Spot → List ℕ
lines spots = map (λ (s : Spot). s.line) spots

piece_ascends : (text : List ℕ) (last at end : ℕ) (p : Piece) (more : List Lexeme) → last < at → at < end
    → ((low : ℕ) → low < end → ascends_behind low (offsets (spots_of_tokens more)) ≡ true)
    → ascends_behind last (offsets (spots_of_tokens (tokens_at text at p ++ more))) ≡ true
piece_ascends text last at end LineFeed more h g on = on last (omega arith)
piece_ascends text last at end Blank more h g on = on last (omega arith)
piece_ascends text last at end (Token word) more h g on = both (nat_lt last at) _ (less last at h) (on at g)

behind_ascends : {text : List ℕ} {at : ℕ} {c : Context} {ts : List Lexeme} (last : ℕ) → last < at → SpellsFrom text at c ts → ascends_behind last (offsets (spots_of_tokens ts)) ≡ true
behind_ascends last h nothing = refl
behind_ascends {text = text} {at = at} last h (piece {end = end} {p = p} {tokens = more} t rest) = piece_ascends text last at end p more h t.some (λ low le. behind_ascends low le rest)

first_ascends : (text : List ℕ) (at end : ℕ) (p : Piece) (more : List Lexeme) → at < end → ascends (offsets (spots_of_tokens more)) ≡ true
    → ((low : ℕ) → low < end → ascends_behind low (offsets (spots_of_tokens more)) ≡ true)
    → ascends (offsets (spots_of_tokens (tokens_at text at p ++ more))) ≡ true
first_ascends text at end LineFeed more g all on = all
first_ascends text at end Blank more g all on = all
first_ascends text at end (Token word) more g all on = on at g

all_ascend : {text : List ℕ} {at : ℕ} {c : Context} {ts : List Lexeme} → SpellsFrom text at c ts → ascends (offsets (spots_of_tokens ts)) ≡ true
all_ascend nothing = refl
all_ascend {text = text} {at = at} (piece {end = end} {p = p} {tokens = more} t rest) = first_ascends text at end p more t.some (all_ascend rest) (λ low le. behind_ascends low le rest)

piece_lines : (text : List ℕ) (low at : ℕ) (p : Piece) (more : List Lexeme) → low ≤ line_of text at
    → ((last : ℕ) → last ≤ line_of text at → never_falls last (lines (spots_of_tokens more)) ≡ true)
    → never_falls low (lines (spots_of_tokens (tokens_at text at p ++ more))) ≡ true
piece_lines text low at LineFeed more h on = on low h
piece_lines text low at Blank more h on = on low h
piece_lines text low at (Token word) more h on = both (nat_le low (line_of text at)) _ (least low (line_of text at) h) (on (line_of text at) (omega arith))

all_lines : {text : List ℕ} {at : ℕ} {c : Context} {ts : List Lexeme} (low : ℕ) → low ≤ line_of text at → SpellsFrom text at c ts → never_falls low (lines (spots_of_tokens ts)) ≡ true
all_lines low h nothing = refl
all_lines {text = text} {at = at} low h (piece {end = end} {p = p} {tokens = more} t rest) =
    let on : line_of text at ≤ line_of text end = omega (arith, line_on text at end (omega (arith, t.some))) in
    piece_lines text low at p more h (λ last le. all_lines last (omega (arith, on)) rest)

spelled : (text : List ℕ) (tokens : List Lexeme) → tokens_of text ≡ Ok tokens → SpellsFrom text 0 context_at_start tokens
spelled text tokens e = ((spells_reads text tokens).1 e).from_start

-- The tokens of a text stand one behind the other.
pub tokens_ascend : (text : List ℕ) (tokens : List Lexeme) → tokens_of text ≡ Ok tokens → AreInOrder (spots_of_tokens tokens)
tokens_ascend text tokens e =
    let s = spelled text tokens e in
    record { offsets = all_ascend s; lines = all_lines 1 (omega arith) s }

-- The constants of a text of bytes are numbers of their types, its literals are of bytes.
pub tokens_sound : (text : List ℕ) (tokens : List Lexeme) → are_bytes text ≡ true → tokens_of text ≡ Ok tokens → AreSound tokens
tokens_sound text tokens bytes e = spelled_sound bytes (spelled text tokens e)
