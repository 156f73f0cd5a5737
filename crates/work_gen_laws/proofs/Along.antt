-- Tokens along the pieces of a text.
use Rattle.std.proofs.Common.{◌≡◌, ℕ, ◌+◌, ◌<◌, ◌≤◌, List, [], ◌∷◌, ◌++◌, length, drop, Result, Ok, refl, sym, ap, ◌∙◌, subst, arith, append_assoc, length-drop, drop-drop}
use Rattle.c_token.specs.declared.context.Context.{Context}
use Rattle.c_token.specs.declared.fault.Fault.{Fault}
use Rattle.c_token.specs.Includes.{context_at_start}
use Rattle.c_token.specs.Items.{Piece, item_at, context_behind}
use Rattle.c_token.specs.Lexemes.{Lexeme}
use Rattle.c_token.specs.Texts.{tokens_at}
use Rattle.c_token.specs.Spells.{Takes, SpellsFrom, piece}
use Rattle.c_token.proofs.Bounds.{Ends, item_ends}
use Rattle.work_gen_laws.specs.Pieces.{Sized, end_of, tokens_along}
use Rattle.work_gen_laws.proofs.Fronts.{item_on, item_same}

-- what stands at the front of bytes, wherever they stand
abbrev pub IsFront : List ℕ → Sized → Type 0
IsFront bs p = (c : Context) (text : List ℕ) (at : ℕ) → item_on c text at bs ≡ Ok (p.0, at + p.1)

-- bytes are pieces one behind the other, up to the rest
abbrev pub Reads : List ℕ → List Sized → List ℕ → Type 0
Reads bs [] rest = bs ≡ rest
Reads [] (p ∷ ps) rest = ⊥
Reads (b ∷ bs) (p ∷ ps) rest = IsFront (b ∷ bs) p × Reads (drop p.1 (b ∷ bs)) ps rest

-- a text spells tokens from an offset on, whatever stands before
abbrev pub Goes : List ℕ → ℕ → List Lexeme → Type 0
Goes text at ts = (c : Context) → SpellsFrom text at c ts

bounds_of : (c : Context) (text : List ℕ) (at : ℕ) (p : Piece) (end : ℕ) → at < length text → item_at c text at ≡ Ok (p, end) → (at < end) × (end ≤ length text)
bounds_of c text at p end lt e =
    let both : Ends (at + 1) (length text) (Ok (p, end)) = subst (λ (r : Result (Piece × ℕ) Fault). Ends (at + 1) (length text) r) e (item_ends c text at lt) in
    (omega (arith, both.0), both.1)

inside_of : (text : List ℕ) (at b : ℕ) (bs : List ℕ) → drop at text ≡ b ∷ bs → at < length text
inside_of text at b bs here = omega (arith, length-drop at text, ap length here)

step_bounds : (text : List ℕ) (at b : ℕ) (bs : List ℕ) (p : Sized) (c : Context) → drop at text ≡ b ∷ bs → IsFront (b ∷ bs) p → Takes text c at p.0 (at + p.1)
step_bounds text at b bs p c here front =
    let item : item_at c text at ≡ Ok (p.0, at + p.1) = item_same c text at ∙ ap (item_on c text at) here ∙ front c text at in
    let bounds = bounds_of c text at p.0 (at + p.1) (inside_of text at b bs here) item in
    record { item = item; some = bounds.0; there = bounds.1 }

pub along : (text : List ℕ) (ps : List Sized) (at : ℕ) (bs rest : List ℕ) (ts : List Lexeme) → at ≤ length text → drop at text ≡ bs → Reads bs ps rest
    → (end_of at ps ≤ length text → drop (end_of at ps) text ≡ rest → Goes text (end_of at ps) ts) → Goes text at (tokens_along text at ps ++ ts)
along text [] at bs rest ts fits here reads on = on fits (here ∙ reads)
along text (p ∷ ps) at [] rest ts fits here reads on = absurd reads
along text (p ∷ ps) at (b ∷ bs) rest ts fits here reads on =
    let next : drop (at + p.1) text ≡ drop p.1 (b ∷ bs) = sym (drop-drop p.1 at text) ∙ ap (drop p.1) here in
    let any = step_bounds text at b bs p context_at_start here reads.0 in
    let more = along text ps (at + p.1) (drop p.1 (b ∷ bs)) rest ts any.there next reads.1 on in
    λ c. subst (λ (us : List Lexeme). SpellsFrom text at c us) (sym (append_assoc (tokens_at text at p.0) (tokens_along text (at + p.1) ps) ts)) (piece (step_bounds text at b bs p c here reads.0) (more (context_behind c p.0)))

pub reads_on : (ps qs : List Sized) (bs mid rest : List ℕ) → Reads bs ps mid → Reads mid qs rest → Reads bs (ps ++ qs) rest
reads_on [] qs bs mid rest first more = subst (λ (x : List ℕ). Reads x qs rest) (sym first) more
reads_on (p ∷ ps) qs [] mid rest first more = absurd first
reads_on (p ∷ ps) qs (b ∷ bs) mid rest first more = (first.0, reads_on ps qs (drop p.1 (b ∷ bs)) mid rest first.1 more)

pub tokens_on : (text : List ℕ) (ps qs : List Sized) (at : ℕ) → tokens_along text at (ps ++ qs) ≡ tokens_along text at ps ++ tokens_along text (end_of at ps) qs
tokens_on text [] qs at = refl
tokens_on text (p ∷ ps) qs at =
    ap (λ (ts : List Lexeme). tokens_at text at p.0 ++ ts) (tokens_on text ps qs (at + p.1)) ∙ sym (append_assoc (tokens_at text at p.0) (tokens_along text (at + p.1) ps) (tokens_along text (end_of (at + p.1) ps) qs))
