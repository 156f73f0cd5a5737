-- The tokens of a text stand within it, and so does what is read of them.
use Rattle.std.proofs.Common.{◌≡◌, ℕ, zero, suc, ◌+◌, ◌<◌, ◌≤◌, List, [], ◌∷◌, ◌++◌, length, take, Ok, refl, arith}
use Rattle.std.specs.Prelude.{nat_lt, ◌==◌}
use Rattle.std.proofs.lemmas.List.Sums.{count_by-le-length}
use Rattle.debug_records.specs.declared.source.Spot.{Spot}
use Rattle.c_token.specs.declared.context.Context.{Context}
use Rattle.c_token.specs.Items.{Piece, LineFeed, Blank, Token}
use Rattle.c_token.specs.Lexemes.{Lexeme}
use Rattle.c_token.specs.Spells.{SpellsFrom, nothing, piece}
use Rattle.c_token.specs.Texts.{line_of, tokens_at, tokens_of}
use Rattle.c_token.proofs.Readings.{spells_reads}
use Rattle.c_type_laws.specs.Spots.{are_below}
use Rattle.c_source.specs.TextOrder.{AreWithinText}
use Rattle.c_source.specs.Tokens.{spots_of_tokens}
use Rattle.c_source.specs.Standing.{Stand, none, passed, told}
use Rattle.c_source.proofs.Ascending.{offsets, lines}
use Rattle.base_laws.proofs.Booleans.{both, two_true as both_true}
use Rattle.base_laws.proofs.Numbers.{less}

take_short : (at : ℕ) (text : List ℕ) → length (take at text) ≤ at
take_short zero text = omega arith
take_short (suc at) [] = omega arith
take_short (suc at) (b ∷ text) = let rest = take_short at text in omega (arith, rest)

-- an offset is on no later line than one more than its number
line_low : (text : List ℕ) (at : ℕ) → line_of text at ≤ 1 + at
line_low text at = let feeds = count_by-le-length (λ b. b == 10) (take at text) in let short = take_short at text in omega (arith, feeds, short)

one_within : (s : Spot) (more : List Spot) → s.at < 1048576 → s.line < 1048577 → AreWithinText more → AreWithinText (s ∷ more)
one_within s more h g all =
    record {
      offsets = both (nat_lt s.at 1048576) (are_below 1048576 (offsets more)) (less s.at 1048576 h) all.offsets;
      lines = both (nat_lt s.line 1048577) (are_below 1048577 (lines more)) (less s.line 1048577 g) all.lines;
    }

piece_within : (text : List ℕ) (at : ℕ) (p : Piece) (more : List Lexeme) → at < 1048576 → AreWithinText (spots_of_tokens more) → AreWithinText (spots_of_tokens (tokens_at text at p ++ more))
piece_within text at LineFeed more h all = all
piece_within text at Blank more h all = all
piece_within text at (Token word) more h all =
    let low = line_low text at in one_within (record { at = at; line = line_of text at }) (spots_of_tokens more) h (omega (arith, low, h)) all

all_within : {text : List ℕ} {at : ℕ} {c : Context} {ts : List Lexeme} → length text ≤ 1048576 → SpellsFrom text at c ts → AreWithinText (spots_of_tokens ts)
all_within fits nothing = record { offsets = refl; lines = refl }
all_within {text = text} {at = at} fits (piece {end = end} {p = p} {tokens = more} t rest) =
    let some = t.some in let there = t.there in piece_within text at p more (omega (arith, some, there, fits)) (all_within fits rest)

-- The tokens of a text stand within it.
pub tokens_within : (text : List ℕ) (tokens : List Lexeme) → tokens_of text ≡ Ok tokens → AreWithinText (spots_of_tokens tokens)
tokens_within text tokens e = let s = (spells_reads text tokens).1 e in all_within s.fits s.from_start

-- Spots of some tokens stand within a text where those of all do.
pub some_within : {spots : List Spot} {ts rest : List Lexeme} → Stand spots ts rest → AreWithinText (spots_of_tokens ts) → AreWithinText spots
some_within none h = record { offsets = refl; lines = refl }
some_within (passed {ts = ts} t s) h =
    some_within s
    (record {
      offsets = (both_true (nat_lt t.spot.at 1048576) (are_below 1048576 (offsets (spots_of_tokens ts))) h.offsets).1;
      lines = (both_true (nat_lt t.spot.line 1048577) (are_below 1048577 (lines (spots_of_tokens ts))) h.lines).1;
    })
some_within (told {spots = spots} {ts = ts} t s) h =
    let at = both_true (nat_lt t.spot.at 1048576) (are_below 1048576 (offsets (spots_of_tokens ts))) h.offsets in
    let line = both_true (nat_lt t.spot.line 1048577) (are_below 1048577 (lines (spots_of_tokens ts))) h.lines in
    let rest = some_within s (record { offsets = at.1; lines = line.1 }) in
    record {
      offsets = both (nat_lt t.spot.at 1048576) (are_below 1048576 (offsets spots)) at.0 rest.offsets;
      lines = both (nat_lt t.spot.line 1048577) (are_below 1048577 (lines spots)) line.0 rest.lines;
    }
