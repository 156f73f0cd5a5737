-- The tokens that a text spells are those that are read, and the first fault is the one that is told.
use Rattle.std.proofs.Common.{◌≡◌, ◌⊎◌, inl, inr, ℕ, zero, suc, ◌+◌, ◌≤◌, ◌<◌, false, ltb, List, [], ◌++◌, length, drop, Result, Ok, Err, refl, sym, ap, subst, ◌∙◌, arith, append_assoc}
use Rattle.std.proofs.lemmas.List.{append-nil}
use Rattle.std.proofs.Math.ListN.{drop_of_length-le}
use Rattle.debug_records.specs.declared.code.Code.{Code}
use Rattle.debug_records.specs.declared.source.SourceErr.{SourceErr}
use Rattle.debug_records.specs.declared.source.SourceErr.TheVariants.{Refused, NoMemory}
use Rattle.c_token.specs.declared.context.Context.{Context}
use Rattle.c_token.specs.declared.fault.Fault.{Fault}
use Rattle.c_token.specs.Includes.{context_at_start}
use Rattle.c_token.specs.Items.{Piece, item_at, context_behind}
use Rattle.c_token.specs.Lexemes.{Lexeme}
use Rattle.c_token.specs.Texts.{line_of, tokens_at, with_line, with_tokens, tokens_from, tokens_of}
use Rattle.debug_records.specs.Refusals.{Refuses}
use Rattle.c_token.specs.Spells.{Takes, SpellsFrom, nothing, piece, FaultsFrom, here, later, Spells, Breaks, too_long, first, IsRefusal}
use Rattle.c_token.specs.Laws.{SpelledIsRead, BreachIsTold}
use Rattle.c_token.proofs.TextSteps as steps
use Rattle.c_token.proofs.TextSteps.{one_piece, one_fault, breaks_off, begins_with}
use Rattle.std.proofs.lemmas.Bool.{le-ltb}
use Rattle.std.proofs.lemmas.Bool.Decides.{leb_tells}
use Rattle.debug_records.specs.declared.code.TheConstants.Code.{TEXT_SIZE}
use Rattle.c_token.proofs.Bounds.{Ends, item_ends}

-- what is spelled so is read
pub spelled_is_read : {text : List ℕ} {at : ℕ} {c : Context} {ts : List Lexeme} → SpellsFrom text at c ts → tokens_from text 0 at c (drop at text) ≡ Ok ts
spelled_is_read {text = text} {c = c} nothing = ap (tokens_from text 0 (length text) c) (drop_of_length-le text (omega arith))
spelled_is_read {text = text} {at = at} {c = c} (piece {end = end} {p = p} t rest) =
    one_piece text at end c p t.some t.there (ap (with_line text) t.item) ∙ ap (with_tokens (tokens_at text at p)) (spelled_is_read rest)

-- what breaks a rule first is told
pub fault_is_told : {text : List ℕ} {at : ℕ} {c : Context} {f : Fault} → FaultsFrom text at c f → tokens_from text 0 at c (drop at text) ≡ Err (f.code, line_of text f.at)
fault_is_told {text = text} {at = at} {c = c} (here lt e) = one_fault text at c _ lt (ap (with_line text) e)
fault_is_told {text = text} {at = at} {c = c} (later {end = end} {p = p} t rest) =
    one_piece text at end c p t.some t.there (ap (with_line text) t.item) ∙ ap (with_tokens (tokens_at text at p)) (fault_is_told rest)

pub located_ok : {A : Type 0} (text : List ℕ) (r : Result A Fault) (x : A) → with_line text r ≡ Ok x → r ≡ Ok x
located_ok {A = A} text (Ok y) x e = let same : y ≡ x = cc in ap (λ (z : A). Ok z) same
located_ok text (Err f) x e = absurd cc

-- one piece more, and whatever follows it
pub one_more : (text : List ℕ) (at end : ℕ) (c : Context) (p : Piece) (front : List Lexeme) → Takes text c at p end
    → ((ts : List Lexeme) → SpellsFrom text at c ts → SpellsFrom text 0 context_at_start (front ++ ts))
    → (ts : List Lexeme) → SpellsFrom text end (context_behind c p) ts → SpellsFrom text 0 context_at_start ((front ++ tokens_at text at p) ++ ts)
one_more text at end c p front t so_far ts s =
    subst (λ (us : List Lexeme). SpellsFrom text 0 context_at_start us) (sym (append_assoc front (tokens_at text at p) ts)) (so_far (tokens_at text at p ++ ts) (piece t s))

pub at_end : (text : List ℕ) (at : ℕ) (c : Context) (front : List Lexeme) → at ≤ length text → length text ≤ at
    → ((ts : List Lexeme) → SpellsFrom text at c ts → SpellsFrom text 0 context_at_start (front ++ ts)) → SpellsFrom text 0 context_at_start front
at_end text at c front le ge so_far =
    let here : length text ≡ at = omega arith in
    subst (λ (us : List Lexeme). SpellsFrom text 0 context_at_start us) (append-nil front) (so_far [] (subst (λ (n : ℕ). SpellsFrom text n c []) here nothing))

-- a refusal of what stands at an offset is one of the text
pub refused_there : (text : List ℕ) (at : ℕ) (c : Context) (e : SourceErr) → length text ≤ 1048576 → at < length text
    → ((f : Fault) → FaultsFrom text at c f → FaultsFrom text 0 context_at_start f) → Refuses e (with_line text (item_at c text at)) → IsRefusal text e
refused_there text at c NoMemory short lt so_far told = tt
refused_there text at c (Refused code line) short lt so_far told = by_item (item_at c text at) refl told
  where
    by_item : (r : Result (Piece × ℕ) Fault) → item_at c text at ≡ r → with_line text r ≡ Err (code, line) → Breaks text code line
    by_item (Ok x) item e = absurd cc
    by_item (Err f) item e =
        let pair : ◌≡◌ {A = Code × ℕ} (f.code, line_of text f.at) (code, line) = cc in
        let is_code : f.code ≡ code = ap (λ (x : Code × ℕ). x.0) pair in
        let is_line : line_of text f.at ≡ line = ap (λ (x : Code × ℕ). x.1) pair in
        subst (λ (l : ℕ). Breaks text code l) is_line (subst (λ (k : Code). Breaks text k (line_of text f.at)) is_code (first short (so_far f (here lt item))))

-- a refusal of what stands at an offset is what reading the text gives
pub fails_there : (text : List ℕ) (at : ℕ) (c : Context) (e : SourceErr) (front : List Lexeme) → at < length text
    → with_tokens front (tokens_from text 0 at c (drop at text)) ≡ tokens_of text → Refuses e (with_line text (item_at c text at)) → Refuses e (tokens_of text)
fails_there text at c NoMemory front lt same told = tt
fails_there text at c (Refused code line) front lt same told = breaks_off text at c (code, line) front (tokens_of text) lt told same

-- a fault behind one piece more
pub one_later : (text : List ℕ) (at end : ℕ) (c : Context) (p : Piece) → Takes text c at p end
    → ((f : Fault) → FaultsFrom text at c f → FaultsFrom text 0 context_at_start f)
    → (f : Fault) → FaultsFrom text end (context_behind c p) f → FaultsFrom text 0 context_at_start f
one_later text at end c p t so_far f s = so_far f (later t s)

with_tokens_ok : (front : List Lexeme) (read : Result (List Lexeme) (Code × ℕ)) (ts : List Lexeme) → with_tokens front read ≡ Ok ts → (more : List Lexeme) × (read ≡ Ok more) × (front ++ more ≡ ts)
with_tokens_ok front (Ok more) ts e = (more, refl, cc)
with_tokens_ok front (Err f) ts e = absurd cc

with_tokens_err : (front : List Lexeme) (read : Result (List Lexeme) (Code × ℕ)) (f : Code × ℕ) → with_tokens front read ≡ Err f → read ≡ Err f
with_tokens_err front (Ok more) f e = absurd cc
with_tokens_err front (Err g) f e = cc

-- at the end of a text there is nothing more
end_read : (text : List ℕ) (at : ℕ) (c : Context) → length text ≤ at → tokens_from text 0 at c (drop at text) ≡ Ok []
end_read text at c le = ap (tokens_from text 0 at c) (drop_of_length-le text le)

spelled_at_end : (text : List ℕ) (at : ℕ) (c : Context) (ts : List Lexeme) → length text ≡ at → tokens_from text 0 at c (drop at text) ≡ Ok ts → SpellsFrom text at c ts
spelled_at_end text at c ts end e =
    let none = end_read text at c (omega arith) in
    let same : [] ≡ ts = cc in
    subst (λ (us : List Lexeme). SpellsFrom text at c us) same (subst (λ (a : ℕ). SpellsFrom text a c []) end nothing)

-- what is read from an offset on is spelled there, one piece and what follows it
read_piece : (text : List ℕ) (at : ℕ) (c : Context) (ts : List Lexeme) → at < length text → tokens_from text 0 at c (drop at text) ≡ Ok ts
    → ((end : ℕ) (p : Piece) (more : List Lexeme) → at < end → end ≤ length text → tokens_from text 0 end (context_behind c p) (drop end text) ≡ Ok more → SpellsFrom text end (context_behind c p) more)
    → (r : Result (Piece × ℕ) Fault) → item_at c text at ≡ r → Ends (at + 1) (length text) r → SpellsFrom text at c ts
read_piece text at c ts lt e on (Err f) item bounds = let fails = one_fault text at c _ lt (ap (with_line text) item) in absurd cc
read_piece text at c ts lt e on (Ok x) item bounds =
    let some : at < x.1 = omega (arith, bounds.0) in
    let step = one_piece text at x.1 c x.0 some bounds.1 (ap (with_line text) item) in
    let more = with_tokens_ok (tokens_at text at x.0) (tokens_from text 0 x.1 (context_behind c x.0) (drop x.1 text)) ts (sym step ∙ e) in
    let takes : Takes text c at x.0 x.1 = record { item = item; some = some; there = bounds.1 } in
    subst (λ (us : List Lexeme). SpellsFrom text at c us) more.2 (piece takes (on x.1 x.0 more.0 some bounds.1 more.1))

read_is_spelled : (n : ℕ) (text : List ℕ) (at : ℕ) (c : Context) (ts : List Lexeme) → length text ≤ at + n → at ≤ length text
    → tokens_from text 0 at c (drop at text) ≡ Ok ts → SpellsFrom text at c ts
read_is_spelled zero text at c ts enough le e = spelled_at_end text at c ts (omega arith) e
read_is_spelled (suc n) text at c ts enough le e = elim (leb_tells (length text) at) [
  | inl h ↦ let here : length text ≡ at = omega (arith, h.1) in spelled_at_end text at c ts here e
  | inr h ↦ read_piece text at c ts h.1 e (λ end p more some there rest. read_is_spelled n text end (context_behind c p) more (omega arith) there rest) (item_at c text at) refl (item_ends c text at h.1)
]

-- the fault that is told is one of the text
abbrev Told : List ℕ → ℕ → Context → Code → ℕ → Type 0
Told text at c code line = (f : Fault) × FaultsFrom text at c f × (f.code ≡ code) × (line_of text f.at ≡ line)

told_piece : (text : List ℕ) (at : ℕ) (c : Context) (code : Code) (line : ℕ) → at < length text → tokens_from text 0 at c (drop at text) ≡ Err (code, line)
    → ((end : ℕ) (p : Piece) → at < end → end ≤ length text → tokens_from text 0 end (context_behind c p) (drop end text) ≡ Err (code, line) → Told text end (context_behind c p) code line)
    → (r : Result (Piece × ℕ) Fault) → item_at c text at ≡ r → Ends (at + 1) (length text) r → Told text at c code line
told_piece text at c code line lt e on (Err f) item bounds =
    let fails = one_fault text at c _ lt (ap (with_line text) item) in
    let pair : ◌≡◌ {A = Code × ℕ} (f.code, line_of text f.at) (code, line) = cc in
    (f, here lt item, ap (λ (x : Code × ℕ). x.0) pair, ap (λ (x : Code × ℕ). x.1) pair)
told_piece text at c code line lt e on (Ok x) item bounds =
    let some : at < x.1 = omega (arith, bounds.0) in
    let step = one_piece text at x.1 c x.0 some bounds.1 (ap (with_line text) item) in
    let rest = with_tokens_err (tokens_at text at x.0) (tokens_from text 0 x.1 (context_behind c x.0) (drop x.1 text)) (code, line) (sym step ∙ e) in
    let takes : Takes text c at x.0 x.1 = record { item = item; some = some; there = bounds.1 } in
    let told = on x.1 x.0 some bounds.1 rest in
    (told.0, later takes told.1, told.2, told.3)

told_is_there : (n : ℕ) (text : List ℕ) (at : ℕ) (c : Context) (code : Code) (line : ℕ) → length text ≤ at + n → at ≤ length text
    → tokens_from text 0 at c (drop at text) ≡ Err (code, line) → Told text at c code line
told_is_there zero text at c code line enough le e = let none = end_read text at c (omega arith) in absurd cc
told_is_there (suc n) text at c code line enough le e = elim (leb_tells (length text) at) [
  | inl h ↦ let none = end_read text at c h.1 in absurd cc
  | inr h ↦ told_piece text at c code line h.1 e (λ end p some there rest. told_is_there n text end (context_behind c p) code line (omega arith) there rest) (item_at c text at) refl (item_ends c text at h.1)
]

fits_or_not : (text : List ℕ) (r : Result (List Lexeme) (Code × ℕ)) → tokens_of text ≡ r
    → ((length text ≤ 1048576) × (tokens_from text 0 0 context_at_start text ≡ r)) ⊎ ((1048576 < length text) × (r ≡ Err (TEXT_SIZE, 1)))
unfolding tokens_of
fits_or_not text r e = elim (leb_tells (length text) 1048576) [
  | inl h ↦ let short : ltb 1048576 (length text) ≡ false = le-ltb 1048576 (length text) h.1 in inl (h.1, rw short at e)
  | inr h ↦ inr (h.1, sym e ∙ steps.too_long text h.1)
]

spelling_read : (text : List ℕ) (tokens : List Lexeme) → Spells text tokens → tokens_of text ≡ Ok tokens
spelling_read text tokens s = sym (begins_with text s.fits) ∙ ap (with_tokens []) (spelled_is_read s.from_start)

reading_spelled : (text : List ℕ) (tokens : List Lexeme) → tokens_of text ≡ Ok tokens → Spells text tokens
reading_spelled text tokens e = elim (fits_or_not text _ e) [
  | inl h ↦ record { fits = h.0; from_start = read_is_spelled (length text) text 0 context_at_start tokens (omega arith) (omega arith) h.1 }
  | inr h ↦ absurd cc
]

breach_told : (text : List ℕ) (code : Code) (line : ℕ) → Breaks text code line → tokens_of text ≡ Err (code, line)
breach_told text code line (too_long lt) = steps.too_long text lt
breach_told text code line (first {f = f} fits s) = sym (begins_with text fits) ∙ ap (with_tokens []) (fault_is_told s)

told_breach : (text : List ℕ) (code : Code) (line : ℕ) → tokens_of text ≡ Err (code, line) → Breaks text code line
told_breach text code line e = elim (fits_or_not text _ e) [
  | inl h ↦ let told = told_is_there (length text) text 0 context_at_start code line (omega arith) (omega arith) h.1 in
      subst (λ (l : ℕ). Breaks text code l) told.3 (subst (λ (k : Code). Breaks text k (line_of text told.0.at)) told.2 (first h.0 told.1))
  | inr h ↦
      let pair : ◌≡◌ {A = Code × ℕ} (code, line) (TEXT_SIZE, 1) = cc in
      subst (λ (l : ℕ). Breaks text code l) (sym (ap (λ (x : Code × ℕ). x.1) pair)) (subst (λ (k : Code). Breaks text k 1) (sym (ap (λ (x : Code × ℕ). x.0) pair)) (too_long h.0))
]

pub spells_reads : SpelledIsRead
spells_reads text tokens = (spelling_read text tokens, reading_spelled text tokens)

pub breach_is_told : BreachIsTold
breach_is_told text code line = (breach_told text code line, told_breach text code line)
