-- The numbers of definitions, one more at a time.
use Rattle.std.proofs.Common.{◌≡◌, ℕ, ◌+◌, List, [], ◌∷◌, ◌++◌, length, Bool, true, false, Option, Some, None, arith, Bor, is_some, refl, sym, subst, ◌∙◌, if◌then◌else◌, add-one}
use Rattle.std.specs.Option.{option_map, option_copied}
use Rattle.std.proofs.lemmas.Option.{none-some}
use Rattle.std.proofs.lemmas.Slice.Eq.{bytes_eq-Decides}
use Rattle.std.specs.Str.{bytes_eq}
use Rattle.c_type.specs.Functions.{definition_number}
use Rattle.c_type.specs.Programs.{or_else}

-- the number that a last definition has, where it is the first of its name
abbrev pub last_number : List ℕ → List ℕ → ℕ → Option ℕ
last_number q n k = if bytes_eq n q then Some k else None

behind_first : (b : Bool) (o : Option ℕ) (l : Option ℕ) → (if b then Some 0 else option_map (λ k. k + 1) (or_else o l)) ≡ or_else (if b then Some 0 else option_map (λ k. k + 1) o) (option_map (λ k. k + 1) l)
behind_first true o l = refl
behind_first false (Some k) l = refl
behind_first false None l = refl

one_more : (b : Bool) (k : ℕ) → option_map (λ k. k + 1) (if b then Some k else None) ≡ (if b then Some (k + 1) else None)
one_more true k = refl
one_more false k = refl

-- the number of a name behind one more definition
pub number_behind : (q n : List ℕ) (names : List (List ℕ)) → definition_number q (names ++ n ∷ []) ≡ or_else (definition_number q names) (last_number q n (length names))
number_behind q n [] = refl
number_behind q n (m ∷ ms) =
    rw (number_behind q n ms, behind_first (bytes_eq m q) (definition_number q ms) (last_number q n (length ms)), one_more (bytes_eq n q) (length ms), add-one) refl

none_is : is_some {T = ℕ} None ≡ true → ⊥
none_is h = grind (arith, h)

absorbed : (o : Option ℕ) (b : Bool) (k : ℕ) → (b ≡ true → is_some o ≡ true) → or_else o (if b then Some k else None) ≡ o
absorbed (Some j) b k h = refl
absorbed None true k h = absurd (none_is (h refl))
absorbed None false k h = refl

merged : (o : Option ℕ) (b : Bool) (k : ℕ) → (b ≡ true → o ≡ None) → or_else o (if b then Some k else None) ≡ (if b then Some k else o)
merged (Some j) true k h = absurd (none-some j (sym (h refl)))
merged (Some j) false k h = refl
merged None true k h = refl
merged None false k h = refl

-- a further definition of a name that is defined changes nothing
pub kept : (q n : List ℕ) (names : List (List ℕ)) → is_some (definition_number n names) ≡ true → definition_number q (names ++ n ∷ []) ≡ definition_number q names
kept q n names h =
    number_behind q n names ∙ absorbed (definition_number q names) (bytes_eq n q) (length names) (λ y. subst (λ x. is_some (definition_number x names) ≡ true) ((bytes_eq-Decides n q).0 y) h)

-- the first definition of a name
pub fresh : (q n : List ℕ) (names : List (List ℕ)) → definition_number n names ≡ None → definition_number q (names ++ n ∷ []) ≡ (if bytes_eq n q then Some (length names) else definition_number q names)
fresh q n names h =
    number_behind q n names ∙ merged (definition_number q names) (bytes_eq n q) (length names) (λ y. subst (λ x. definition_number x names ≡ None) ((bytes_eq-Decides n q).0 y) h)

-- what is copied is there or is not
pub copied_some : (o : Option (Bor ℕ)) → is_some o ≡ true → is_some (option_copied o) ≡ true
copied_some (Some x) h = refl
copied_some None h = h

pub copied_none : (o : Option (Bor ℕ)) → is_some o ≡ false → option_copied o ≡ None
copied_none (Some x) h = absurd (none_is (sym h))
copied_none None h = refl
