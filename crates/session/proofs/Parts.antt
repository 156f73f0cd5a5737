-- What a sink has taken of a text that is put piece by piece.
use Rattle.std.proofs.Common.{◌≡◌, ℕ, zero, suc, ◌+◌, ◌<◌, sym, ap, ◌∙◌, arith, List, [], ◌∷◌, ◌++◌, length, drop, map, get_or, append_assoc}
use Rattle.std.specs.Prelude.{Result, Ok, Err, OnErr, Vec}
use Rattle.std.specs.Global.{Global}
use Rattle.line_form.specs.Lines.{line}
use Rattle.std.specs.List.{flat_map}
use Rattle.outside.specs.Taken.{TakesPart}

-- a front of the whole was taken, and the rest is still to come
pub record IsUnderWay (whole rest old now : List ℕ) : Type 0 where
  pub front : List ℕ
  pub split : whole ≡ front ++ rest
  pub taken : now ≡ old ++ front

-- a part of a piece is taken
pub under_way_part : (whole piece rest old now after : List ℕ) → TakesPart piece now after → IsUnderWay whole (piece ++ rest) old now → TakesPart whole old after
under_way_part whole piece rest old now after part h = (
  h.front ++ part.0,
  (part.1.0 ++ rest, h.split ∙ ap (λ l. h.front ++ (l ++ rest)) part.1.1 ∙ ap (λ l. h.front ++ l) (append_assoc part.0 part.1.0 rest) ∙ sym (append_assoc h.front part.0 (part.1.0 ++ rest))),
  part.2 ∙ ap (λ l. l ++ part.0) h.taken ∙ append_assoc old h.front part.0,
)

-- what holds anyway holds on an error, and on success
pub on_err_anyway : {A B : Type 0} (r : Result A B) (P : Type 0) → P → OnErr r P
on_err_anyway (Ok x) P p = tt
on_err_anyway (Err e) P p = p

-- the lines of the texts that are left
pub text_left : (texts : List (Vec ℕ Global)) (i : ℕ) (text : Vec ℕ Global) → i < length texts → text ≡ get_or texts i text → flat_map line (map (λ x. x.items) (drop i texts)) ≡ line text.items ++ flat_map line (map (λ x. x.items) (drop (i + 1) texts))
text_left [] i text lt e = absurd (omega arith)
text_left (x ∷ texts) zero text lt e = ap (λ y. line y.items ++ flat_map line (map (λ x. x.items) texts)) (sym e)
text_left (x ∷ texts) (suc i) text lt e =
    let k : suc (i + 1) ≡ suc i + 1 = omega arith in
    text_left texts i text (omega arith) e ∙ ap (λ j. line text.items ++ flat_map line (map (λ x. x.items) (drop j (x ∷ texts)))) k
