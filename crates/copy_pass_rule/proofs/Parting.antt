-- The rows that tell of which copies a scalar is a part, copy by copy.
use Rattle.std.proofs.Common.{◌≡◌, ◌≢◌, ℕ, suc, ◌+◌, ◌<◌, ◌≤◌, inl, inr, Bool, true, false, Some, List, length, get_or, refl, sym, ap, ◌∙◌, subst, arith}
use Rattle.std.specs.Prelude.{◌==◌, ◌||◌, slice_get}
use Rattle.std.proofs.lemmas.Bool.{eq-eqb, ne_eqb, cases_eq}
use Rattle.std.proofs.lemmas.Option.{slice_get-get_or, same_Some}
use Rattle.graph_paths.specs.Flood.{Bits}
use Rattle.copy_pass_rule.specs.declared.copies.CopyAt.{CopyAt}

both_parts : (target source : Bool) → (source || (target || false)) ≡ (target || source)
both_parts true true = refl
both_parts true false = refl
both_parts false true = refl
both_parts false false = refl

module _ (row bit : ℕ) (old new : Bits) (rows : (other some : ℕ) → other ≢ row → new other some ≡ old other some) (bits : (some : ℕ) → some ≢ bit → new row some ≡ old row some) where
  -- the other bits are as they were
  pub put_elsewhere : (n some : ℕ) → some ≢ bit → new n some ≡ old n some
  put_elsewhere n some other = elim (cases_eq n row) [
    | inl q ↦ ap (λ r. new r some) q ∙ bits some other ∙ ap (λ r. old r some) (sym q)
    | inr q ↦ rows n some q
  ]

  -- and the bit is set in this row
  pub put_there : new row bit ≡ true → (n : ℕ) → new n bit ≡ ((n == row) || old n bit)
  put_there there n = elim (cases_eq n row) [
    | inl q ↦ ap (λ r. new r bit) q ∙ there ∙ sym (ap (λ z. z || old n bit) (eq-eqb n row q))
    | inr q ↦ rows n bit q ∙ sym (ap (λ z. z || old n bit) (ne_eqb n row q))
  ]

-- one copy more is told
pub part_more : (copies : List CopyAt) (k : ℕ) (none : CopyAt) (old mid new : Bits) → k < length copies
    → mid (get_or copies k none).target (k + 1) ≡ true → ((other some : ℕ) → other ≢ (get_or copies k none).target → mid other some ≡ old other some)
    → ((some : ℕ) → some ≢ k + 1 → mid (get_or copies k none).target some ≡ old (get_or copies k none).target some)
    → new (get_or copies k none).source (k + 1) ≡ true → ((other some : ℕ) → other ≢ (get_or copies k none).source → new other some ≡ mid other some)
    → ((some : ℕ) → some ≢ k + 1 → new (get_or copies k none).source some ≡ mid (get_or copies k none).source some)
    → ((n : ℕ) → old n (k + 1) ≡ false)
    → (n : ℕ) (c : CopyAt) → slice_get copies k ≡ Some c → new n (suc k) ≡ ((n == c.target) || (n == c.source))
part_more copies k none old mid new lt set_target rows_target bits_target set_source rows_source bits_source clear n c at =
    let d = get_or copies k none in
    let same : d ≡ c = same_Some d c (sym (slice_get-get_or copies k none lt) ∙ at) in
    let all : new n (k + 1) ≡ ((n == d.source) || ((n == d.target) || false)) = put_there d.source (k + 1) mid new rows_source bits_source set_source n
    ∙ ap (λ z. (n == d.source) || z) (put_there d.target (k + 1) old mid rows_target bits_target set_target n ∙ ap (λ z. (n == d.target) || z) (clear n)) in
    let next : suc k ≡ k + 1 = omega arith in
    ap (λ (i : ℕ). new n i) next ∙ all ∙ both_parts (n == d.target) (n == d.source) ∙ ap (λ (e : CopyAt). (n == e.target) || (n == e.source)) same
