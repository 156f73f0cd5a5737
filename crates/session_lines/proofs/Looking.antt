-- Looking up names.
use Rattle.std.proofs.Common.{◌≡◌, ◌∙◌, ℕ, zero, suc, ◌+◌, ◌-◌, ◌<◌, ◌≤◌, refl, sym, ap, List, [], ◌∷◌, ◌++◌, map, length, get_or, arith}
use Rattle.base_laws.proofs.Lists.{map_twice}

-- what stands in the first part
within : (first more : List (List ℕ)) (x : ℕ) → x < length first → get_or (first ++ more) x [] ≡ get_or first x []
within [] more x under = absurd (omega (arith, under))
within (name ∷ first) more zero under = refl
within (name ∷ first) more (suc x) under = within first more x (omega (arith, under))

-- what stands so far behind it
behind : (first more : List (List ℕ)) (x far : ℕ) → x ≡ length first + far → get_or (first ++ more) x [] ≡ get_or more far []
behind [] more x far is = ap (λ n. get_or more n []) (omega (arith, is))
behind (name ∷ first) more zero far is = absurd (omega (arith, is))
behind (name ∷ first) more (suc x) far is = behind first more x far (omega (arith, is))

-- what has no name
nameless : {A : Type 0} (all : List A) (x : ℕ) → get_or {A = List ℕ} (map (λ (a : A). []) all) x [] ≡ []
nameless [] x = refl
nameless (b ∷ all) zero = refl
nameless (b ∷ all) (suc x) = nameless all x

counted : {A B : Type 0} (f : A → B) (all : List A) → length (map f all) ≡ length all
counted f [] = refl
counted f (a ∷ all) = ap suc (counted f all)

-- Names of three kinds: those of the first and of the last kind are told by what they are the names of, and those between them are none.
module _ {S L A : Type 0} {S' L' A' : Type 0} (s : S → S') (l : L → L') (a : A → A') (name : S' → List ℕ) (other : A' → List ℕ) (statics : List S) (literals : List L) (automatics : List A) (x : ℕ) where
  abbrev pub names : List (List ℕ)
  names = map name (map s statics) ++ (map (λ (v : L'). []) (map l literals) ++ map other (map a automatics))

  pub of_static : x < length statics → get_or (map (λ v. name (s v)) statics) x [] ≡ get_or names x []
  of_static under =
      let many = counted name (map s statics) ∙ counted s statics in
      sym (within (map name (map s statics)) (map (λ (v : L'). []) (map l literals) ++ map other (map a automatics)) x (omega (arith, under, many)) ∙ ap (λ n. get_or n x []) (map_twice name s statics))

  pub of_literal : length statics ≤ x → x - length statics < length literals → [] ≡ get_or names x []
  of_literal beyond under =
      let many = counted name (map s statics) ∙ counted s statics in
      let few = counted {B = List ℕ} (λ (v : L'). []) (map l literals) ∙ counted l literals in
      sym (behind (map name (map s statics)) (map (λ (v : L'). []) (map l literals) ++ map other (map a automatics)) x (x - length statics) (omega (arith, beyond, many))
      ∙ within (map (λ (v : L'). []) (map l literals)) (map other (map a automatics)) (x - length statics) (omega (arith, under, few)) ∙ nameless (map l literals) (x - length statics))

  pub of_automatic : length statics ≤ x → length literals ≤ x - length statics → get_or (map (λ v. other (a v)) automatics) (x - length statics - length literals) [] ≡ get_or names x []
  of_automatic beyond behind_them =
      let many = counted name (map s statics) ∙ counted s statics in
      let few = counted {B = List ℕ} (λ (v : L'). []) (map l literals) ∙ counted l literals in
      sym (behind (map name (map s statics)) (map (λ (v : L'). []) (map l literals) ++ map other (map a automatics)) x (x - length statics) (omega (arith, beyond, many))
      ∙ behind (map (λ (v : L'). []) (map l literals)) (map other (map a automatics)) (x - length statics) (x - length statics - length literals) (omega (arith, behind_them, few))
      ∙ ap (λ n. get_or n (x - length statics - length literals) []) (map_twice other a automatics))
