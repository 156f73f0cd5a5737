-- Reading on behind what is read.
use Rattle.std.proofs.Common.{◌≡◌, ℕ, zero, suc, ◌+◌, ◌-◌, ◌≤◌, ◌<◌, true, false, List, [], ◌∷◌, length, get_or, drop, Some, None, Result, Ok, Err, refl, sym, ap, ◌∙◌, arith, drop-cons, length-drop, ◌++◌, append_assoc, eqb}
use Rattle.std.specs.Prelude.{codes}
use Rattle.std.proofs.lemmas.List.{drop-drop}
use Rattle.std.proofs.lemmas.Bool.{ne_eqb}
use Rattle.debug_records.specs.declared.code.TheConstants.Code.{UNKNOWN_BYTE}
use Rattle.c_token.specs.declared.fault.Fault.{Fault}
use Rattle.c_token.specs.Bytes.{text_has, is_replaced}
use Rattle.c_token.specs.Blanks.{block_comment, blank_at, blanks_from, blanks_end}
use Rattle.c_token.specs.Literals.{unit_at, literal_from, with_bytes}
use Rattle.c_token.specs.Reading.{fault}

-- the bytes from an offset on are the byte there and those behind it
pub cut : (text : List ℕ) (at : ℕ) → at < length text → drop at text ≡ get_or text at 0 ∷ drop (at + 1) text
cut text at lt = let next : at + 1 ≡ suc at = omega arith in rw next (drop-cons text at 0 lt)

-- a comment that ends here, that breaks a rule here, and that goes on
pub block_ends : (text : List ℕ) (start at : ℕ) (total : Result ℕ Fault) → at < length text → text_has text at (codes "*/") ≡ true → block_comment text start at (drop at text) ≡ total → Ok (at + 2) ≡ total
block_ends text start at total lt h same = let here = rw (cut text at lt) at same in rw h at here

pub block_breaks : (text : List ℕ) (start at : ℕ) (total : Result ℕ Fault) → at < length text → text_has text at (codes "*/") ≡ false → is_replaced text at ≡ true → block_comment text start at (drop at text) ≡ total → Err (fault UNKNOWN_BYTE at) ≡ total
block_breaks text start at total lt h r same = let here = rw (cut text at lt) at same in rw (h, r) at here

pub block_on : (text : List ℕ) (start at : ℕ) (total : Result ℕ Fault) → at < length text → text_has text at (codes "*/") ≡ false → is_replaced text at ≡ false → block_comment text start at (drop at text) ≡ total → block_comment text start (at + 1) (drop (at + 1) text) ≡ total
block_on text start at total lt h r same = let here = rw (cut text at lt) at same in rw (h, r) at here

blanks_inside : (text : List ℕ) (k at : ℕ) (rest : List ℕ) → k ≤ length rest → blanks_from text k at rest ≡ blanks_from text 0 (at + k) (drop k rest)
blanks_inside text zero at rest le = ap (λ (a : ℕ). blanks_from text 0 a rest) (omega arith)
blanks_inside text (suc k) at [] le = absurd (omega arith)
blanks_inside text (suc k) at (b ∷ rest) le =
    let a : at + 1 + k ≡ at + suc k = omega arith in
    blanks_inside text k (at + 1) rest (omega arith) ∙ ap (λ (x : ℕ). blanks_from text 0 x (drop k rest)) a

-- behind a blank byte or a comment, at what is neither, and at one that breaks a rule
pub blanks_on : (text : List ℕ) (from at end : ℕ) → blank_at text at ≡ Ok (Some end) → at < end → end ≤ length text → blanks_from text 0 at (drop at text) ≡ blanks_end text from → blanks_from text 0 end (drop end text) ≡ blanks_end text from
blanks_on text from at end blank lt le same =
    let k = end - (at + 1) in
    let enough : k ≤ length (drop (at + 1) text) = omega (arith, length-drop (at + 1) text) in
    let far : at + 1 + k ≡ end = omega arith in
    let here : blanks_from text 0 at (drop at text) ≡ blanks_from text 0 end (drop end text) =
    ap (blanks_from text 0 at) (cut text at (omega arith))
    ∙ rw blank (blanks_inside text k (at + 1) (drop (at + 1) text) enough)
    ∙ ap (blanks_from text 0 (at + 1 + k)) (drop-drop k (at + 1) text)
    ∙ ap (λ (x : ℕ). blanks_from text 0 x (drop x text)) far in
    sym here ∙ same

pub blanks_stop : (text : List ℕ) (from at : ℕ) → at < length text → blank_at text at ≡ Ok None → blanks_from text 0 at (drop at text) ≡ blanks_end text from → Ok at ≡ blanks_end text from
blanks_stop text from at lt blank same = let here = rw (cut text at lt) at same in rw blank at here

pub blanks_fail : (text : List ℕ) (from at : ℕ) (f : Fault) → at < length text → blank_at text at ≡ Err f → blanks_from text 0 at (drop at text) ≡ blanks_end text from → Err f ≡ blanks_end text from
blanks_fail text from at f lt blank same = let here = rw (cut text at lt) at same in rw blank at here

literal_inside : (text : List ℕ) (quote start k at : ℕ) (rest : List ℕ) → k ≤ length rest → literal_from text quote start k at rest ≡ literal_from text quote start 0 (at + k) (drop k rest)
literal_inside text quote start zero at rest le = ap (λ (a : ℕ). literal_from text quote start 0 a rest) (omega arith)
literal_inside text quote start (suc k) at [] le = absurd (omega arith)
literal_inside text quote start (suc k) at (b ∷ rest) le =
    let a : at + 1 + k ≡ at + suc k = omega arith in
    literal_inside text quote start k (at + 1) rest (omega arith) ∙ ap (λ (x : ℕ). literal_from text quote start 0 x (drop k rest)) a

bytes_regroup : (front more : List ℕ) (read : Result (List ℕ × ℕ) Fault) → with_bytes front (with_bytes more read) ≡ with_bytes (front ++ more) read
bytes_regroup front more (Ok r) = ap (λ (bytes : List ℕ). Ok (bytes, r.1)) (sym (append_assoc front more r.0))
bytes_regroup front more (Err f) = refl

-- behind a byte of a literal
pub literal_on : (text : List ℕ) (quote start at end byte : ℕ) (front : List ℕ) (total : Result (List ℕ × ℕ) Fault) → at < length text → (get_or text at 0 ≡ quote → ⊥)
    → unit_at text start at ≡ Ok (byte, end) → at < end → end ≤ length text
    → with_bytes front (literal_from text quote start 0 at (drop at text)) ≡ total
    → with_bytes (front ++ byte ∷ []) (literal_from text quote start 0 end (drop end text)) ≡ total
literal_on text quote start at end byte front total inside other unit lt le same =
    let k = end - (at + 1) in
    let enough : k ≤ length (drop (at + 1) text) = omega (arith, length-drop (at + 1) text) in
    let far : at + 1 + k ≡ end = omega arith in
    let test : eqb (get_or text at 0) quote ≡ false = ne_eqb _ _ other in
    let rest : literal_from text quote start k (at + 1) (drop (at + 1) text) ≡ literal_from text quote start 0 end (drop end text) =
    literal_inside text quote start k (at + 1) (drop (at + 1) text) enough
    ∙ ap (literal_from text quote start 0 (at + 1 + k)) (drop-drop k (at + 1) text)
    ∙ ap (λ (x : ℕ). literal_from text quote start 0 x (drop x text)) far in
    let here : literal_from text quote start 0 at (drop at text) ≡ with_bytes (byte ∷ []) (literal_from text quote start 0 end (drop end text)) =
    ap (literal_from text quote start 0 at) (cut text at inside) ∙ rw (test, unit) (ap (with_bytes (byte ∷ [])) rest) in
    sym (bytes_regroup front (byte ∷ []) _) ∙ ap (with_bytes front) (sym here) ∙ same
