-- The word of an option, with its dashes and without.
use Rattle.std.proofs.Common.{arith, sym, refl, ap, ◌≡◌, ℕ, ◌+◌, ◌==◌, Bool, true, false, not, suc, [], ◌∷◌, drop, Option, Some, None, true≢false, subst}
use Rattle.std.specs.Prelude.{is_some}
use Rattle.std.specs.List.{after_first, list_any, position_or_len}
use Rattle.std.proofs.lemmas.Bool.{eqb-true}
use Rattle.command_line.specs.Words.{Text, has_dashed_value, is_dashed, is_equals, is_readable, long_word}

after_dashes : (rest : Text) → after_first is_equals (45 ∷ 45 ∷ rest) ≡ after_first is_equals rest
after_dashes rest =
    let n : 1 + (1 + position_or_len is_equals rest) + 1 ≡ suc (suc (position_or_len is_equals rest + 1)) = omega arith in
    ap (λ k. drop k (45 ∷ 45 ∷ rest)) n

dashed_value : (c : ℕ) (cs : Text) → not (has_dashed_value (45 ∷ 45 ∷ c ∷ cs)) ≡ is_readable (45 ∷ 45 ∷ c ∷ cs)
dashed_value c cs = go (list_any is_equals (c ∷ cs)) refl
  where
    go : (b : Bool) → list_any is_equals (c ∷ cs) ≡ b → not (has_dashed_value (45 ∷ 45 ∷ c ∷ cs)) ≡ is_readable (45 ∷ 45 ∷ c ∷ cs)
    go true e = rw e (ap (λ (t : Text). not (is_dashed t)) (after_dashes (c ∷ cs)))
    go false e = rw e refl

-- an option can be read where its value does not begin with `-`
pub readable_option : (w : Text) → is_dashed w ≡ true → is_some (long_word w) ≡ true → not (has_dashed_value w) ≡ is_readable w
readable_option [] d s = absurd (true≢false (sym d))
readable_option (a ∷ []) d s = let bad : false ≡ true = rw d at s in absurd (true≢false (sym bad))
readable_option (a ∷ b ∷ []) d s = go (b == 45) refl
  where
    go : (x : Bool) → (b == 45) ≡ x → not (has_dashed_value (a ∷ b ∷ [])) ≡ is_readable (a ∷ b ∷ [])
    go true e = let bad : false ≡ true = rw (d, e) at s in absurd (true≢false (sym bad))
    go false e = let bad : false ≡ true = rw (d, e) at s in absurd (true≢false (sym bad))
readable_option (a ∷ b ∷ c ∷ cs) d s = go (b == 45) refl
  where
    go : (x : Bool) → (b == 45) ≡ x → not (has_dashed_value (a ∷ b ∷ c ∷ cs)) ≡ is_readable (a ∷ b ∷ c ∷ cs)
    go true e =
        let one : 45 ≡ a = sym (eqb-true a 45 d) in
        let two : 45 ≡ b = sym (eqb-true b 45 e) in
        subst (λ (x : ℕ). not (has_dashed_value (x ∷ b ∷ c ∷ cs)) ≡ is_readable (x ∷ b ∷ c ∷ cs)) one
        (subst (λ (y : ℕ). not (has_dashed_value (45 ∷ y ∷ c ∷ cs)) ≡ is_readable (45 ∷ y ∷ c ∷ cs)) two (dashed_value c cs))
    go false e = let bad : false ≡ true = rw (d, e) at s in absurd (true≢false (sym bad))
