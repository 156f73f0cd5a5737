-- Of the variables in scope as many are visible as there are names among them: those that no later one hides, and those that come first of their name, are as many.
use Rattle.std.proofs.Common.{◌≡◌, ℕ, ◌+◌, List, [], ◌∷◌, ◌++◌, length, map, Bool, true, false, if◌then◌else◌, refl, ap, sym, ◌∙◌, arith, length-append}
use Rattle.std.specs.Prelude.{◌==◌, ◌&&◌, ◌||◌}
use Rattle.std.specs.List.{list_any}
use Rattle.std.specs.Str.{bytes_eq}
use Rattle.std.proofs.lemmas.Bool.{false≢true}
use Rattle.std.proofs.lemmas.Bool.Decides.{Decides-eqb}
use Rattle.std.proofs.lemmas.List.Folds.{list_any-append}
use Rattle.std.proofs.lemmas.Slice.Eq.{bytes_eq-Decides}
use Rattle.c_tree.specs.Programs.{AutomaticTree}
use Rattle.c_places.specs.Places.{is_hidden, is_same_name, name_of, visible}
use Rattle.c_type_bounds.specs.Visible.{behind_scope, with_visible}
use Rattle.base_laws.proofs.Booleans.{or_false as or_none, or_true}

-- a name is among these
abbrev among : List ℕ → List (List ℕ) → Bool
among name names = list_any (λ n. bytes_eq n name) names

-- how many of these names are neither among others nor among those behind them
abbrev fresh : List (List ℕ) → List (List ℕ) → ℕ
fresh seen [] = 0
fresh seen (name ∷ rest) = (if among name rest || among name seen then 0 else 1) + fresh seen rest

both_ways : (b c : Bool) → (b ≡ true → c ≡ true) → (c ≡ true → b ≡ true) → b ≡ c
both_ways true c h k = sym (h refl)
both_ways false true h k = k refl
both_ways false false h k = refl

both_true : (b c : Bool) → (b && c) ≡ true → (b ≡ true) × (c ≡ true)
both_true true c h = (refl, h)
both_true false c h = absurd (false≢true h)

and_true : (b c : Bool) → b ≡ true → c ≡ true → (b && c) ≡ true
and_true true c h k = k
and_true false c h k = h

same_sound : (s t : List ℕ) → is_same_name s t ≡ true → s ≡ t
same_sound [] [] h = refl
same_sound [] (b ∷ t) h = absurd (false≢true h)
same_sound (a ∷ s) [] h = absurd (false≢true h)
same_sound (a ∷ s) (b ∷ t) h =
    let both = both_true (a == b) (is_same_name s t) h in
    let head : a ≡ b = (Decides-eqb a b).0 both.0 in
    let tail : s ≡ t = same_sound s t both.1 in
    cc

same_self : (s : List ℕ) → is_same_name s s ≡ true
same_self [] = refl
same_self (a ∷ s) = and_true (a == a) (is_same_name s s) ((Decides-eqb a a).1 refl) (same_self s)

same_complete : (s t : List ℕ) → s ≡ t → is_same_name s t ≡ true
same_complete s t e = rw (← e) (same_self s)

-- the two tests of names are one
same_tests : (s t : List ℕ) → is_same_name s t ≡ bytes_eq t s
same_tests s t =
    both_ways (is_same_name s t) (bytes_eq t s) (λ h. (bytes_eq-Decides t s).1 (sym (same_sound s t h))) (λ h. same_complete s t (sym ((bytes_eq-Decides t s).0 h)))

turned : (s t : List ℕ) → bytes_eq s t ≡ bytes_eq t s
turned s t =
    both_ways (bytes_eq s t) (bytes_eq t s) (λ h. (bytes_eq-Decides t s).1 (sym ((bytes_eq-Decides s t).0 h))) (λ h. (bytes_eq-Decides s t).1 (sym ((bytes_eq-Decides t s).0 h)))

-- among names with one more at their end
among_more : (name last : List ℕ) (seen : List (List ℕ)) → among name (seen ++ last ∷ []) ≡ (among name seen || bytes_eq last name)
among_more name last seen = list_any-append (λ n. bytes_eq n name) seen (last ∷ []) ∙ ap (λ b. among name seen || b) (or_none (bytes_eq last name))

-- the same name once more
step_same : (r : Bool) (x y : ℕ) → x ≡ y + (if r then 1 else 0) → (if r || false then 0 else 1) + x ≡ (if r || true then 0 else 1) + y + 1
step_same true x y e = omega (arith, e)
step_same false x y e = omega (arith, e)

one_more : (a b : List ℕ) (seen rest : List (List ℕ)) (t : Bool) → bytes_eq b a ≡ t → among a seen ≡ false → fresh seen rest ≡ fresh (seen ++ a ∷ []) rest + (if among a rest then 1 else 0)
    → fresh seen (b ∷ rest) ≡ fresh (seen ++ a ∷ []) (b ∷ rest) + (if among a (b ∷ rest) then 1 else 0)
one_more a b seen rest true e h so_far =
    let is : b ≡ a = (bytes_eq-Decides b a).0 e in
    let self : bytes_eq a a ≡ true = (bytes_eq-Decides a a).1 refl in
    let last : among a (seen ++ a ∷ []) ≡ true = among_more a a seen ∙ ap (λ c. among a seen || c) self ∙ or_true (among a seen) in
    rw (is) (rw (h, last, self) (step_same (among a rest) (fresh seen rest) (fresh (seen ++ a ∷ []) rest) so_far))
one_more a b seen rest false e h so_far =
    let last : among b (seen ++ a ∷ []) ≡ among b seen = among_more b a seen ∙ ap (λ c. among b seen || c) (turned a b ∙ e) ∙ or_none (among b seen) in
    rw (last, e) (omega (arith, so_far))

-- one that is not among the names seen counts once
one_seen : (a : List ℕ) (seen rest : List (List ℕ)) → among a seen ≡ false → fresh seen rest ≡ fresh (seen ++ a ∷ []) rest + (if among a rest then 1 else 0)
one_seen a seen [] h = refl
one_seen a seen (b ∷ rest) h = one_more a b seen rest (bytes_eq b a) refl h (one_seen a seen rest h)

step_seen : (r : Bool) (n x y : ℕ) → x ≡ y + (if r then 1 else 0) → n + 1 + y ≡ n + ((if r || false then 0 else 1) + x)
step_seen true n x y e = omega (arith, e)
step_seen false n x y e = omega (arith, e)

-- one name more, which is among the names seen, or not
with_name : (name : List ℕ) (names rest : List (List ℕ)) (b : Bool) → among name names ≡ b
    → length (if b then names else names ++ name ∷ []) + fresh (if b then names else names ++ name ∷ []) rest ≡ length names + fresh names (name ∷ rest)
with_name name names rest true e = rw (e, or_true (among name rest)) (omega arith)
with_name name names rest false e =
    rw (e, length-append names (name ∷ [])) (step_seen (among name rest) (length names) (fresh names rest) (fresh (names ++ name ∷ []) rest) (one_seen name names rest e))

module _ (all : List AutomaticTree) where
  -- those that come first of their name
  first_ones : (scope : List ℕ) (seen : List (List ℕ)) → length (behind_scope all scope seen) ≡ length seen + fresh seen (map (name_of all) scope)
  first_ones [] seen = omega arith
  first_ones (x ∷ scope) seen =
      first_ones scope (with_visible (name_of all x) seen) ∙ with_name (name_of all x) seen (map (name_of all) scope) (among (name_of all x) seen) refl

  hidden_test : (x : ℕ) (later : List ℕ) → is_hidden all x later ≡ among (name_of all x) (map (name_of all) later)
  hidden_test x [] = refl
  hidden_test x (y ∷ later) = rw (same_tests (name_of all x) (name_of all y), hidden_test x later) refl

  last_step : (b : Bool) (x : ℕ) (rest : List ℕ) (n : ℕ) → length rest ≡ n → length (if b then rest else x ∷ rest) ≡ (if b || false then 0 else 1) + n
  last_step true x rest n e = omega (arith, e)
  last_step false x rest n e = omega (arith, e)

  -- those that no later one hides
  last_ones : (scope : List ℕ) → length (visible all scope) ≡ fresh [] (map (name_of all) scope)
  last_ones [] = refl
  last_ones (x ∷ scope) =
      rw (hidden_test x scope) (last_step (among (name_of all x) (map (name_of all) scope)) x (visible all scope) (fresh [] (map (name_of all) scope)) (last_ones scope))

  -- as many are visible as there are names
  pub as_many : (scope : List ℕ) → length (behind_scope all scope []) ≡ length (visible all scope)
  as_many scope = let first : length (behind_scope all scope []) ≡ 0 + fresh [] (map (name_of all) scope) = first_ones scope [] in omega (arith, first, last_ones scope)
