-- Where a copy is missing, along instructions and along paths.
use Rattle.std.proofs.Common.{◌≡◌, ◌≢◌, ℕ, ◌+◌, ◌<◌, Bool, true, false, true≢false, Option, Some, List, [], ◌∷◌, ◌++◌, length, refl, sym, ap, ◌∙◌, arith, length-append}
use Rattle.std.specs.Prelude.{◌==◌, ◌&&◌, ◌||◌, if◌then◌else◌}
use Rattle.std.proofs.lemmas.Bool.{or_parts, eq-eqb, ne_eqb}
use Rattle.std.proofs.lemmas.Option.{same_Some, none-some}
use Rattle.graph_core.specs.Uses.{target_of}
use Rattle.graph_core.specs.Paths.{Passed, History, writes}
use Rattle.pass_law.specs.Earned.{IsCopiedAt, last_write_of}
use Rattle.copy_pass_rule.specs.declared.copies.CopyAt.{CopyAt}
use Rattle.copy_pass_rule.specs.Flow.{is_written, stands_at, missing_behind, missing_along, missing_where}

-- whether it is missing behind a path
abbrev pub missing : CopyAt → History → Bool
missing c [] = true
missing c (i ∷ h) = missing_behind c i.block i.left (target_of i.instruction) (missing c h)

-- what is missing before stays so, and more
grows : (s w v a b : Bool) → (if s then false else (w || (v || a))) ≡ true → (a ≡ true → b ≡ true) → (if s then false else (w || (v || b))) ≡ true
grows true w v a b e f = e
grows false true v a b e f = refl
grows false false true a b e f = refl
grows false false false a b e f = f e

pub behind_grows : (c : CopyAt) (n left : ℕ) (t : Option ℕ) (a b : Bool) → missing_behind c n left t a ≡ true → (a ≡ true → b ≡ true) → missing_behind c n left t b ≡ true
behind_grows c n left t a b e f = grows (stands_at c n left) (is_written c.target t) (is_written c.source t) a b e f

module _ (c : CopyAt) (n : ℕ) where
  pub where_start : (ts : List (Option ℕ)) (b : Bool) → missing_where c n (length ts) ts b ≡ b
  where_start [] b = refl
  where_start (t ∷ more) b = ap (λ z. if z then b else missing_where c n (length (t ∷ more)) more (missing_behind c n (length more) t b)) (eq-eqb (length (t ∷ more)) (length (t ∷ more)) refl)

  -- where fewer are left than there are here
  pub where_on : (left : ℕ) (t : Option ℕ) (more : List (Option ℕ)) (b : Bool) → left < length (t ∷ more) → missing_where c n left (t ∷ more) b ≡ missing_where c n left more (missing_behind c n (length more) t b)
  where_on left t more b lt =
      let apart : length (t ∷ more) ≢ left = λ q. omega (arith, q, lt) in
      ap (λ z. if z then b else missing_where c n left more (missing_behind c n (length more) t b)) (ne_eqb (length (t ∷ more)) left apart)

  pub where_end : (ts : List (Option ℕ)) (b : Bool) → missing_where c n 0 ts b ≡ missing_along c n ts b
  where_end [] b = refl
  where_end (t ∷ more) b = where_on 0 t more b (omega arith) ∙ where_end more (missing_behind c n (length more) t b)

  pub where_step : (before : List (Option ℕ)) (t : Option ℕ) (more : List (Option ℕ)) (b : Bool)
      → missing_where c n (length more) (before ++ t ∷ more) b ≡ missing_behind c n (length more) t (missing_where c n (length (t ∷ more)) (before ++ t ∷ more) b)
  where_step [] t more b =
      where_on (length more) t more b (omega arith) ∙ where_start more (missing_behind c n (length more) t b)
      ∙ ap (missing_behind c n (length more) t) (sym (where_start (t ∷ more) b))
  where_step (s ∷ before) t more b =
      let all = before ++ t ∷ more in
      let count : length all ≡ length before + length (t ∷ more) = length-append before (t ∷ more) in
      let next : Bool = missing_behind c n (length all) s b in
      where_on (length more) s all b (omega (arith, count)) ∙ where_step before t more next
      ∙ ap (missing_behind c n (length more) t) (sym (where_on (length (t ∷ more)) s all b (omega (arith, count))))

  pub where_grows : (left : ℕ) (ts : List (Option ℕ)) (a b : Bool) → (a ≡ true → b ≡ true) → missing_where c n left ts a ≡ true → missing_where c n left ts b ≡ true
  where_grows left [] a b f e = f e
  where_grows left (t ∷ more) a b f e =
      at_test (where_grows left more (missing_behind c n (length more) t a) (missing_behind c n (length more) t b) (λ p. behind_grows c n (length more) t a b p f)) (length (t ∷ more) == left) refl e
    where
      at_test : (missing_where c n left more (missing_behind c n (length more) t a) ≡ true → missing_where c n left more (missing_behind c n (length more) t b) ≡ true) → (z : Bool) → (length (t ∷ more) == left) ≡ z
          → (if length (t ∷ more) == left then a else missing_where c n left more (missing_behind c n (length more) t a)) ≡ true
          → (if length (t ∷ more) == left then b else missing_where c n left more (missing_behind c n (length more) t b)) ≡ true
      at_test again true q e = ap (λ z. if z then b else missing_where c n left more (missing_behind c n (length more) t b)) q
          ∙ f (sym (ap (λ z. if z then a else missing_where c n left more (missing_behind c n (length more) t a)) q) ∙ e)
      at_test again false q e = ap (λ z. if z then b else missing_where c n left more (missing_behind c n (length more) t b)) q
          ∙ again (sym (ap (λ z. if z then a else missing_where c n left more (missing_behind c n (length more) t a)) q) ∙ e)

-- a copy that reaches along a path is not missing behind it
pub unheld : (c : CopyAt) (h : History) → IsCopiedAt c.block c.left c.target c.source h → missing c h ≡ false
unheld c [] is = absurd (none-some is.copy is.last)
unheld c (i ∷ h) is = at_test (unheld c h) (stands_at c i.block i.left) refl
  where
    on : (IsCopiedAt c.block c.left c.target c.source h → missing c h ≡ false) → (z : Bool) → (writes c.target i.instruction || writes c.source i.instruction) ≡ z → stands_at c i.block i.left ≡ false → missing c (i ∷ h) ≡ false
    on again true e none =
        let same : i ≡ is.copy = same_Some i is.copy (sym (ap (λ z. if z then Some i else last_write_of c.target c.source h) e) ∙ is.last) in
        let block : i.block ≡ c.block = ap (λ (p : Passed). p.block) same ∙ is.in_block in
        let left : i.left ≡ c.left = ap (λ (p : Passed). p.left) same ∙ is.before in
        let both : stands_at c i.block i.left ≡ true = ap (λ z. z && (i.left == c.left)) (eq-eqb i.block c.block block) ∙ eq-eqb i.left c.left left in
        absurd (true≢false (sym both ∙ none))
    on again false e none =
        let parts = or_parts (writes c.target i.instruction) (writes c.source i.instruction) e in
        let rest : missing c h ≡ false = again (record { copy = is.copy; last = sym (ap (λ z. if z then Some i else last_write_of c.target c.source h) e) ∙ is.last; in_block = is.in_block; before = is.before; copies = is.copies }) in
        ap (λ z. if z then false else (writes c.target i.instruction || (writes c.source i.instruction || missing c h))) none
        ∙ ap (λ z. z || (writes c.source i.instruction || missing c h)) parts.0 ∙ ap (λ z. z || missing c h) parts.1 ∙ rest

    at_test : (IsCopiedAt c.block c.left c.target c.source h → missing c h ≡ false) → (z : Bool) → stands_at c i.block i.left ≡ z → missing c (i ∷ h) ≡ false
    at_test again true e = ap (λ z. if z then false else (writes c.target i.instruction || (writes c.source i.instruction || missing c h))) e
    at_test again false e = on again (writes c.target i.instruction || writes c.source i.instruction) refl e
