-- In a graph without cycles each node has a weight that pays for itself and for each of its successors, and no weight is more than all sizes together.
use Rattle.std.proofs.Common.{◌≡◌, ℕ, zero, suc, ◌+◌, ◌<◌, ◌≤◌, sym, ap, ◌∙◌, subst, arith, refl, List, [], ◌∷◌, Bool, true, false, cond, ⊎_elim}
use Rattle.std.specs.Prelude.{◌==◌, max, if◌then◌else◌}
use Rattle.std.proofs.lemmas.Bool.{cases_eq, cases_lt}
use Rattle.std.proofs.lemmas.Bool.Decides.{nat_tests}
use Rattle.graph_core.specs.Paths.{Among, front, behind}
use Rattle.graph_core_weights.specs.Costs.{sum_below}

-- a number is one of these
abbrev pub has : ℕ → List ℕ → Bool
has t [] = false
has t (x ∷ xs) = if t == x then true else has t xs

-- the greatest of what a function gives for these
abbrev pub best : (ℕ → ℕ) → List ℕ → ℕ
best g [] = 0
best g (t ∷ ts) = max (g t) (best g ts)

pub best_le : (g : ℕ → ℕ) (ts : List ℕ) (b : ℕ) → ((t : ℕ) → Among t ts → g t ≤ b) → best g ts ≤ b
best_le g [] b h = omega arith
best_le g (t ∷ ts) b h = let x : g t ≤ b = h t front in let y = best_le g ts b (λ u i. h u (behind i)) in omega arith

pub best_ge : (g : ℕ → ℕ) (ts : List ℕ) (t : ℕ) → Among t ts → g t ≤ best g ts
best_ge g [] t i = elim i [ ]
best_ge g (x ∷ ts) t front = omega arith
best_ge g (x ∷ ts) t (behind i) = let q = best_ge g ts t i in omega arith

best_same : (g h : ℕ → ℕ) (ts : List ℕ) → ((t : ℕ) → Among t ts → g t ≡ h t) → best g ts ≡ best h ts
best_same g h [] e = refl
best_same g h (t ∷ ts) e = ap (λ x. max x (best g ts)) (e t front) ∙ ap (max (h t)) (best_same g h ts (λ u i. e u (behind i)))

not_true : (b : Bool) → (b ≡ true → ⊥) → b ≡ false
not_true true h = absurd (h refl)
not_true false h = refl

module _ (count : ℕ) (next : ℕ → List ℕ) where
  -- a way of at least one step
  pub data Steps : ℕ → ℕ → Type 0 where
    one : {a b : ℕ} → Among b (next a) → Steps a b
    more : {a b c : ℕ} → Among b (next a) → Steps b c → Steps a c

  -- the most that a way over at most so many nodes costs
  abbrev pub weigh : (ℕ → ℕ) → ℕ → ℕ → ℕ
  weigh size zero l = 0
  weigh size (suc k) l = size l + best (weigh size k) (next l)

  -- the weight of a node
  abbrev pub weight : (ℕ → ℕ) → ℕ → ℕ
  weight size l = weigh size (suc count) l

  -- all sizes together, of the nodes that are not among these
  abbrev pub sum_to : (ℕ → ℕ) → List ℕ → ℕ → ℕ
  sum_to size seen zero = 0
  sum_to size seen (suc i) = (if has i seen then 0 else size i) + sum_to size seen i

  sum_less : (size : ℕ → ℕ) (l : ℕ) (seen : List ℕ) (i : ℕ) → sum_to size (l ∷ seen) i ≤ sum_to size seen i
  sum_less size l seen zero = omega arith
  sum_less size l seen (suc i) = let h = sum_less size l seen i in by_tests (i == l) (has i seen) h
    where
      by_tests : (a b : Bool) → sum_to size (l ∷ seen) i ≤ sum_to size seen i → cond (cond a true b) 0 (size i) + sum_to size (l ∷ seen) i ≤ cond b 0 (size i) + sum_to size seen i
      by_tests true true h = omega arith
      by_tests true false h = omega arith
      by_tests false true h = omega arith
      by_tests false false h = omega arith

  sum_one : (size : ℕ → ℕ) (l : ℕ) (seen : List ℕ) (i : ℕ) → l < i → has l seen ≡ false → size l + sum_to size (l ∷ seen) i ≤ sum_to size seen i
  sum_one size l seen zero lt h = absurd (omega arith)
  sum_one size l seen (suc i) lt h = ⊎_elim
      (λ (e : i ≡ l).
      let t : (i == l) ≡ true = grind (arith, nat_tests) in
      let u : has i seen ≡ false = ap (λ x. has x seen) e ∙ h in
      let s : size i ≡ size l = ap size e in
      let k = sum_less size l seen i in
      let a : cond (cond (i == l) true (has i seen)) 0 (size i) ≡ 0 = ap (λ b. cond (cond b true (has i seen)) 0 (size i)) t in
      let b : cond (has i seen) 0 (size i) ≡ size i = ap (λ b. cond b 0 (size i)) u in
      omega arith)
      (λ (d : i ≡ l → ⊥).
      let t : (i == l) ≡ false = grind (arith, nat_tests) in
      let k = sum_one size l seen i (below d) h in
      let a : cond (cond (i == l) true (has i seen)) 0 (size i) ≡ cond (has i seen) 0 (size i) = ap (λ b. cond (cond b true (has i seen)) 0 (size i)) t in
      omega arith)
      (cases_eq i l)
    where
      below : (i ≡ l → ⊥) → l < i
      below d = ⊎_elim (λ (x : l < i). x) (λ (x : i ≤ l). absurd (d (omega arith))) (cases_lt l i)

  sum_of_all : (size : ℕ → ℕ) (i : ℕ) → sum_to size [] i ≡ sum_below size i
  sum_of_all size zero = refl
  sum_of_all size (suc i) = ap (λ n. size i + n) (sum_of_all size i)

  module _ (inside : (a b : ℕ) → Among b (next a) → b < count) (acyclic : (a : ℕ) → Steps a a → ⊥) where
    -- no weight is more than the sizes of the nodes that were not yet seen
    weigh_le : (size : ℕ → ℕ) (k : ℕ) (seen : List ℕ) (l : ℕ) → l < count → has l seen ≡ false → ((x : ℕ) → has x seen ≡ true → Steps l x → ⊥) → weigh size k l ≤ sum_to size seen count
    weigh_le size zero seen l lt free apart = omega arith
    weigh_le size (suc k) seen l lt free apart =
        let s : size l + sum_to size (l ∷ seen) count ≤ sum_to size seen count = sum_one size l seen count lt free in
        let b : best (weigh size k) (next l) ≤ sum_to size (l ∷ seen) count = best_le (weigh size k) (next l) (sum_to size (l ∷ seen) count)
        (λ t i. weigh_le size k (l ∷ seen) t (inside l t i)
        (not_true (has t (l ∷ seen)) (λ h. has_cons t l seen h (λ e. acyclic l (subst (Steps l) e (one i))) (λ g. apart t g (one i))))
        (λ x h p. has_cons x l seen h (λ e. acyclic l (subst (Steps l) e (more i p))) (λ g. apart x g (more i p)))) in
        omega arith
      where
        has_cons : (x l : ℕ) (seen : List ℕ) → has x (l ∷ seen) ≡ true → (x ≡ l → ⊥) → (has x seen ≡ true → ⊥) → ⊥
        has_cons x l seen h first other =
            let t : (x == l) ≡ false = grind (arith, nat_tests) in
            other (sym (ap (λ b. cond b true (has x seen)) t) ∙ h)

    -- where ways are shorter than k, one more step makes no difference
    enough : (size : ℕ → ℕ) (k l : ℕ) → weigh (λ x. 1) k l < k → weigh size k l ≡ weigh size (suc k) l
    enough size zero l lt = absurd (omega arith)
    enough size (suc k) l lt = ap (λ b. size l + b) (best_same (weigh size k) (weigh size (suc k)) (next l)
        (λ t i. let g : weigh (λ x. 1) k t ≤ best (weigh (λ x. 1) k) (next l) = best_ge (weigh (λ x. 1) k) (next l) t i in enough size k t (omega arith)))

    sum_ones : (i : ℕ) → sum_to (λ x. 1) [] i ≡ i
    sum_ones zero = refl
    sum_ones (suc i) = let h = sum_ones i in omega arith

    pub weight_le : (size : ℕ → ℕ) (l : ℕ) → l < count → weight size l ≤ sum_below size count
    weight_le size l lt =
        let most = weigh_le size (suc count) [] l lt refl (λ x h p. cc) in
        let same = sum_of_all size count in
        omega (arith, most, same)

    pub weight_pays : (size : ℕ → ℕ) (l : ℕ) → l < count → size l + best (weight size) (next l) ≤ weight size l
    weight_pays size l lt =
        let short : weigh (λ x. 1) (suc count) l ≤ sum_to (λ x. 1) [] count = weigh_le (λ x. 1) (suc count) [] l lt refl (λ x h p. cc) in
        let ones : sum_to (λ x. 1) [] count ≡ count = sum_ones count in
        let e : weigh size (suc count) l ≡ weigh size (suc (suc count)) l = enough size (suc count) l (omega arith) in
        omega arith
