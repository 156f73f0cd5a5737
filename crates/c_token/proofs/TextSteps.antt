-- Going over a text, from what stands at an offset to what stands behind it.
use Rattle.std.proofs.Common.{◌≡◌, ℕ, zero, suc, ◌+◌, ◌-◌, ◌≤◌, ◌<◌, true, false, ltb, List, [], ◌∷◌, ◌++◌, length, take, drop, Result, Ok, Err, refl, sym, ap, ◌∙◌, append_assoc, arith, length-drop, length-append}
use Rattle.std.specs.Prelude.{count_by, ◌==◌}
use Rattle.std.proofs.lemmas.List.{drop-drop, length-take, length-map}
use Rattle.std.proofs.lemmas.Bool.{le-ltb, lt-ltb}
use Rattle.std.proofs.lemmas.List.Sums.{sum_by-append}
use Rattle.std.proofs.Math.Seq.{take-add}
use Rattle.debug_records.specs.declared.code.Code.{Code}
use Rattle.debug_records.specs.declared.code.TheConstants.Code.{TEXT_SIZE}
use Rattle.c_token.specs.declared.item.Item.{Item}
use Rattle.c_token.specs.declared.item.Item.TheVariants as item
use Rattle.c_token.specs.declared.token.Kind.{Kind}
use Rattle.c_token.specs.declared.token.Token.{Token}
use Rattle.c_token.specs.Items as items
use Rattle.c_token.specs.declared.context.Context.{Context}
use Rattle.c_token.specs.Includes.{context_at_start}
use Rattle.c_token.specs.Items.{Piece, LineFeed, Blank, item_view, item_at, context_behind}
use Rattle.c_token.specs.Lexemes.{Word, Lexeme, lexeme, lexemes}
use Rattle.c_token.specs.Texts.{line_of, tokens_at, with_line, with_tokens, tokens_from, tokens_of}
use Rattle.c_token.proofs.Steps.{cut}

tokens_inside : (text : List ℕ) (k at : ℕ) (c : Context) (rest : List ℕ) → k ≤ length rest → tokens_from text k at c rest ≡ tokens_from text 0 (at + k) c (drop k rest)
tokens_inside text zero at c rest le = ap (λ (a : ℕ). tokens_from text 0 a c rest) (omega arith)
tokens_inside text (suc k) at c [] le = absurd (omega arith)
tokens_inside text (suc k) at c (b ∷ rest) le =
    let a : at + 1 + k ≡ at + suc k = omega arith in
    tokens_inside text k (at + 1) c rest (omega arith) ∙ ap (λ (x : ℕ). tokens_from text 0 x c (drop k rest)) a

-- what stands at an offset, and what comes behind it
pub one_piece : (text : List ℕ) (at end : ℕ) (c : Context) (p : Piece) → at < end → end ≤ length text → with_line text (item_at c text at) ≡ Ok (p, end)
    → tokens_from text 0 at c (drop at text) ≡ with_tokens (tokens_at text at p) (tokens_from text 0 end (context_behind c p) (drop end text))
one_piece text at end c p lt le item =
    let k = end - (at + 1) in
    let enough : k ≤ length (drop (at + 1) text) = omega (arith, length-drop (at + 1) text) in
    let far : at + 1 + k ≡ end = omega arith in
    let rest : tokens_from text k (at + 1) (context_behind c p) (drop (at + 1) text) ≡ tokens_from text 0 end (context_behind c p) (drop end text) =
    tokens_inside text k (at + 1) (context_behind c p) (drop (at + 1) text) enough
    ∙ ap (tokens_from text 0 (at + 1 + k) (context_behind c p)) (drop-drop k (at + 1) text)
    ∙ ap (λ (x : ℕ). tokens_from text 0 x (context_behind c p) (drop x text)) far in
    ap (tokens_from text 0 at c) (cut text at (omega arith)) ∙ rw item (ap (with_tokens (tokens_at text at p)) rest)

-- what breaks a rule at an offset
pub one_fault : (text : List ℕ) (at : ℕ) (c : Context) (f : Code × ℕ) → at < length text → with_line text (item_at c text at) ≡ Err f → tokens_from text 0 at c (drop at text) ≡ Err f
one_fault text at c f lt item = ap (tokens_from text 0 at c) (cut text at lt) ∙ rw item refl

regroup : (front more : List Lexeme) (read : Result (List Lexeme) (Code × ℕ)) → with_tokens front (with_tokens more read) ≡ with_tokens (front ++ more) read
regroup front more (Ok ts) = ap Ok (sym (append_assoc front more ts))
regroup front more (Err e) = refl

-- an iteration of the loop
pub goes_on : (text : List ℕ) (at end : ℕ) (c : Context) (p : Piece) (front : List Lexeme) (total : Result (List Lexeme) (Code × ℕ)) → at < end → end ≤ length text
    → with_line text (item_at c text at) ≡ Ok (p, end)
    → with_tokens front (tokens_from text 0 at c (drop at text)) ≡ total
    → with_tokens (front ++ tokens_at text at p) (tokens_from text 0 end (context_behind c p) (drop end text)) ≡ total
goes_on text at end c p front total lt le item same =
    sym (regroup front (tokens_at text at p) _) ∙ ap (with_tokens front) (sym (one_piece text at end c p lt le item)) ∙ same

pub breaks_off : (text : List ℕ) (at : ℕ) (c : Context) (f : Code × ℕ) (front : List Lexeme) (total : Result (List Lexeme) (Code × ℕ)) → at < length text
    → with_line text (item_at c text at) ≡ Err f
    → with_tokens front (tokens_from text 0 at c (drop at text)) ≡ total → total ≡ Err f
breaks_off text at c f front total lt item same = sym same ∙ ap (with_tokens front) (one_fault text at c f lt item)

pub begins_with : (text : List ℕ) → length text ≤ 1048576 → with_tokens [] (tokens_from text 0 0 context_at_start text) ≡ tokens_of text
unfolding tokens_of
begins_with text le =
    let short : ltb 1048576 (length text) ≡ false = fits (length text) le in
    rw short (nothing_before (tokens_from text 0 0 context_at_start text))
  where
    fits : (n : ℕ) → n ≤ 1048576 → ltb 1048576 n ≡ false
    fits n le = le-ltb 1048576 n le

    nothing_before : (read : Result (List Lexeme) (Code × ℕ)) → with_tokens [] read ≡ read
    nothing_before (Ok ts) = refl
    nothing_before (Err e) = refl

-- the line behind an item is that of the item and its line feeds
pub line_on : (text : List ℕ) (at end : ℕ) → at ≤ end → line_of text end ≡ line_of text at + count_by (λ b. b == 10) (take (end - at) (drop at text))
line_on text at end le =
    let far : at + (end - at) ≡ end = omega arith in
    let split : take end text ≡ take at text ++ take (end - at) (drop at text) = ap (λ (n : ℕ). take n text) (sym far) ∙ take-add at (end - at) text in
    rw split (ap (λ (n : ℕ). 1 + n) (sum_by-append _ (take at text) (take (end - at) (drop at text))) ∙ omega arith)

-- a word with its offset and its line
abbrev pub token_view : Word → ℕ → ℕ → Lexeme
token_view word at line = record { kind = word; spot = record { at = at; line = line } }

-- white space and comments are no token
pub no_token : (text : List ℕ) (at : ℕ) (i : Item) → ((kind : Kind) → i ≡ item.Token kind → ⊥) → tokens_at text at (item_view i) ≡ []
no_token text at item.LineFeed h = refl
no_token text at item.Blank h = refl
no_token text at (item.Token kind) h = absurd (h kind refl)

pub too_long : (text : List ℕ) → 1048576 < length text → tokens_of text ≡ Err (TEXT_SIZE, 1)
unfolding tokens_of
too_long text lt = let long : ltb 1048576 (length text) ≡ true = lt-ltb 1048576 (length text) lt in rw long refl

pub few_feeds : (text : List ℕ) (at end n : ℕ) → n ≤ length (take (end - at) (drop at text)) → n ≤ end - at
few_feeds text at end n le = omega (arith, length-take (end - at) (drop at text))

at_most_one : (text : List ℕ) (at : ℕ) (p : Piece) → length (tokens_at text at p) ≤ 1
at_most_one text at LineFeed = omega arith
at_most_one text at Blank = omega arith
at_most_one text at (items.Token word) = omega arith

-- at most one token more
pub grown : (text : List ℕ) (at : ℕ) (p : Piece) (old new : List Token) → lexemes new ≡ lexemes old ++ tokens_at text at p → length new ≤ length old + 1
grown text at p old new e = omega (arith, ap length e, length-map new lexeme, length-map old lexeme, length-append (lexemes old) (tokens_at text at p), at_most_one text at p)
