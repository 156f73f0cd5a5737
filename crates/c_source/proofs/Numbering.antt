-- The variables of parts of a function's block, one part behind the other.
use Rattle.std.proofs.Common.{◌≡◌, ℕ, ◌+◌, List, [], ◌∷◌, ◌++◌, length, true, refl, sym, ap, ◌∙◌, subst, arith, append_assoc, append-nil, length-append}
use Rattle.std.specs.Prelude.{◌==◌}
use Rattle.c_type_declarations.specs.Progress.{ProgressTree}
use Rattle.c_type_laws.specs.Orders.{is_numbered}
use Rattle.c_source.specs.Numbers.{Numbers}
use Rattle.c_source.proofs.Same.{itself, two_true, both}

numbered_on : (n : ℕ) (xs ys : List ℕ) → is_numbered n xs ≡ true → is_numbered (n + length xs) ys ≡ true → is_numbered n (xs ++ ys) ≡ true
numbered_on n [] ys h g = let e : n + 0 ≡ n = omega arith in subst (λ k. is_numbered k ys ≡ true) e g
numbered_on n (x ∷ xs) ys h g =
    let c = two_true (x == n) (is_numbered (n + 1) xs) h in
    let e : n + length (x ∷ xs) ≡ (n + 1) + length xs = omega arith in
    both (x == n) (is_numbered (n + 1) (xs ++ ys)) c.0 (numbered_on (n + 1) xs ys c.1 (subst (λ k. is_numbered k ys ≡ true) e g))

-- nothing is declared
pub nothing_numbered : (q t : ProgressTree) (declared : List ℕ → List ℕ) → t.automatics ≡ q.automatics → ((vs : List ℕ) → declared vs ≡ vs) → Numbers q t declared
nothing_numbered q t declared same none =
    record { more = []; adds = λ vs. none vs ∙ sym (append-nil vs); numbered = refl; count = let e : length t.automatics ≡ length q.automatics = ap length same in omega arith }

-- one variable
pub one_numbered : (q t : ProgressTree) (declared : List ℕ → List ℕ) → length t.automatics ≡ length q.automatics + 1 → ((vs : List ℕ) → declared vs ≡ vs ++ length q.automatics ∷ []) → Numbers q t declared
one_numbered q t declared count adds = record { more = length q.automatics ∷ []; adds = adds; numbered = rw (itself (length q.automatics)) refl; count = count }

-- one part behind another
pub both_numbered : {q t u : ProgressTree} (one other whole : List ℕ → List ℕ) → ((vs : List ℕ) → whole vs ≡ other (one vs)) → Numbers q t one → Numbers t u other → Numbers q u whole
both_numbered {q = q} {t = t} {u = u} one other whole is g h =
    record {
      more = g.more ++ h.more;
      adds = λ vs. is vs ∙ ap other (g.adds vs) ∙ h.adds (vs ++ g.more) ∙ append_assoc vs g.more h.more;
      numbered = numbered_on (length q.automatics) g.more h.more g.numbered (subst (λ k. is_numbered k h.more ≡ true) g.count h.numbered);
      count = let e = length-append g.more h.more in let c = g.count in let d = h.count in omega arith;
    }

-- the same part, said otherwise
pub same_numbered : {q t : ProgressTree} (one whole : List ℕ → List ℕ) → ((vs : List ℕ) → whole vs ≡ one vs) → Numbers q t one → Numbers q t whole
same_numbered one whole is g = record { more = g.more; adds = λ vs. is vs ∙ g.adds vs; numbered = g.numbered; count = g.count }

-- the same, to a point with the same variables
pub numbered_to : {q t u : ProgressTree} (one : List ℕ → List ℕ) → Numbers q t one → u.automatics ≡ t.automatics → Numbers q u one
numbered_to one g same = record { more = g.more; adds = g.adds; numbered = g.numbered; count = ap length same ∙ g.count }

-- the same, from a point with the same variables
pub numbered_from : {q r t : ProgressTree} (one : List ℕ → List ℕ) → q.automatics ≡ r.automatics → Numbers q t one → Numbers r t one
numbered_from {q = q} {r = r} one same g =
    record { more = g.more; adds = g.adds; numbered = subst (λ l. is_numbered (length l) g.more ≡ true) same g.numbered; count = g.count ∙ ap (λ l. length l + length g.more) same }
