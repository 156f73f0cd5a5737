-- Passes of a name.
use Rattle.std.proofs.Common.{◌≡◌, ◌≢◌, ℕ, ◌<◌, ◌+◌, List, sym, subst, ap, ◌∙◌, take, length, get_or, map}
use Rattle.std.specs.Prelude.{Bool, true, false}
use Rattle.std.proofs.lemmas.List.{take_more, length-map, get_or-map, map_more}
use Rattle.std.proofs.lemmas.List.Elements.{All-push}
use Rattle.debug_records.specs.declared.change.PassName.{PassName}
use Rattle.debug_records.specs.Change.{letters}
use Rattle.pass_law.specs.HandedIn.{AreHandedIn, IsHandedIn, IsNoPass}

abbrev Is : Bool → Type 0
Is true = Unit {0}
Is false = ⊥

-- a test that is met does not fail
pub not_both : {b : Bool} → b ≡ true → b ≡ false → ⊥
not_both met fails = subst Is (sym met ∙ fails) tt

module _ {P : Type 0} (named : P → PassName) where
  pub found : (all : List P) (name : List ℕ) (i : ℕ) (p : P) → i < length all → p ≡ get_or all i p → letters (named p) ≡ name → IsHandedIn named all name
  found all name i p within is same = (i, p, within, sym is, same)

  -- where one more pass has another name, none of so many has the name
  pub none_more : (all : List P) (name : List ℕ) (i : ℕ) (p : P) → i < length all → p ≡ get_or all i p → letters (named p) ≢ name → IsNoPass named (take i all) name → IsNoPass named (take (i + 1) all) name
  none_more all name i p within is differs others =
      subst (λ some. IsNoPass named some name) (sym (take_more all i p within)) (All-push (λ q. letters (named q) ≢ name) (take i all) (get_or all i p) others (subst (λ q. letters (named q) ≢ name) is differs))

  pub contrary : (all : List P) (name : List ℕ) → IsNoPass named all name → IsHandedIn named all name → ⊥
  contrary all name none (k, p, within, at, same) = none k p within (ap (λ q. letters (named q)) at ∙ same)

  -- where one more name is a pass's, each of so many is
  pub all_more : (passes : List P) (names : List PassName) (i : ℕ) (d : PassName) → i < length names → IsHandedIn named passes (letters (get_or names i d)) → AreHandedIn named passes (map letters (take i names)) → AreHandedIn named passes (map letters (take (i + 1) names))
  all_more passes names i d within one others =
      subst (λ some. AreHandedIn named passes some) (sym (map_more letters names i d within))
      (All-push (IsHandedIn named passes) (map letters (take i names)) (letters (get_or names i d)) others one)

  -- each of the names is some pass's
  pub handed_at : (passes : List P) (names : List PassName) (i : ℕ) (d : PassName) → i < length names → AreHandedIn named passes (map letters names) → IsHandedIn named passes (letters (get_or names i d))
  handed_at passes names i d within all =
      let long : i < length (map letters names) = subst (λ k. i < k) (sym (length-map names letters)) within in
      let one : IsHandedIn named passes (get_or (map letters names) i (letters d)) = all i (letters d) long in
      subst (IsHandedIn named passes) (get_or-map letters names i d (letters d) within) one

  -- where one name is not handed in, not all are
  pub not_handed : (passes : List P) (names : List PassName) (i : ℕ) (d : PassName) → i < length names → ¬ IsHandedIn named passes (letters (get_or names i d)) → AreHandedIn named passes (map letters names) → ⊥
  not_handed passes names i d within none all = none (handed_at passes names i d within all)
