-- Of passes of one name the first is found, and names lead on by one more step.
use Rattle.std.proofs.Common.{◌≡◌, ◌≢◌, ℕ, zero, suc, ◌<◌, ◌+◌, List, [], ◌∷◌, ◌++◌, Option, Some, None, refl, sym, ap, ◌∙◌, subst, take, map, length, get_or, arith}
use Rattle.std.specs.Prelude.{slice_get, IsSomeAnd}
use Rattle.std.proofs.lemmas.List.{map_more}
use Rattle.std.proofs.lemmas.List.Elements.{All-head, All-tail}
use Rattle.std.proofs.lemmas.Option.{slice_get-get_or}
use Rattle.debug_records.specs.declared.change.PassName.{PassName}
use Rattle.debug_records.specs.Change.{letters}
use Rattle.graph_core.specs.Graphs.{UnitForm}
use Rattle.pass_law.specs.HandedIn.{IsNoPass}
use Rattle.pass_law.specs.Leading.{IsFirst, here, behind, IsStepOf, Lead}

module _ {P : Type 0} (named : P → PassName) where
  module _ (name : List ℕ) where
    some_behind : (q : P) (all : List P) → letters (named q) ≢ name → (o : Option P) → IsSomeAnd o (λ p. IsFirst named name p all) → IsSomeAnd o (λ p. IsFirst named name p (q ∷ all))
    some_behind q all differs None first = first
    some_behind q all differs (Some p) first = behind differs first

    -- a pass of the name, where those before it have other names, is the first
    pub found_first : (all : List P) (i : ℕ) (p : P) → i < length all → p ≡ get_or all i p → letters (named p) ≡ name → IsNoPass named (take i all) name → IsSomeAnd (slice_get all i) (λ q. IsFirst named name q all)
    found_first [] i p within is same others = absurd (omega arith)
    found_first (q ∷ all) zero p within is same others = here (subst (λ r. letters (named r) ≡ name) is same)
    found_first (q ∷ all) (suc i) p within is same others =
        let differs : letters (named q) ≢ name = All-head (λ r. letters (named r) ≢ name) q (take i all) others in
        some_behind q all differs (slice_get all i) (found_first all i p (omega arith) is same (All-tail (λ r. letters (named r) ≢ name) q (take i all) others))

    -- the first pass of a name has it, so that the name is some pass's
    pub first_is_some : (all : List P) (p : P) → IsFirst named name p all → IsNoPass named all name → ⊥
    first_is_some [] p first none = elim first [ ]
    first_is_some (q ∷ all) p (here same) none = All-head (λ r. letters (named r) ≢ name) q all none same
    first_is_some (q ∷ all) p (behind differs first) none = first_is_some all p first (All-tail (λ r. letters (named r) ≢ name) q all none)

    -- the pass at the index of the first is the first
    pub first_at : (all : List P) (k : ℕ) (p : P) → k < length all → p ≡ get_or all k p → IsSomeAnd (slice_get all k) (λ q. IsFirst named name q all) → IsFirst named name p all
    first_at all k p within is found = subst (λ o. IsSomeAnd o (λ q. IsFirst named name q all)) (slice_get-get_or all k p within ∙ ap Some (sym is)) found

  module _ (steps : P → UnitForm → UnitForm → Type 0) (passes : List P) where
    lead_more : (names : List (List ℕ)) (name : List ℕ) (u v w : UnitForm) → Lead named steps passes names u v → IsStepOf named steps passes name v w → Lead named steps passes (names ++ name ∷ []) u w
    lead_more [] name u v w same step = (w, subst (λ x. IsStepOf named steps passes name x w) same step, refl)
    lead_more (other ∷ names) name u v w (x, first, rest) step = (x, first, lead_more names name x v w rest step)

    -- behind a step of the pass of one more name so many names and that one lead there
    pub lead_on : (names : List PassName) (i : ℕ) (d : PassName) (p : P) (u v w : UnitForm) → i < length names → Lead named steps passes (map letters (take i names)) u v → IsFirst named (letters (get_or names i d)) p passes → steps p v w → Lead named steps passes (map letters (take (i + 1) names)) u w
    lead_on names i d p u v w within led first step =
        subst (λ all. Lead named steps passes all u w) (sym (map_more letters names i d within))
        (lead_more (map letters (take i names)) (letters (get_or names i d)) u v w led (record { pass = p; first = first; step = step }))
