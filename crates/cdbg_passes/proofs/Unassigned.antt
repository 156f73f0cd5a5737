-- A place that does not write a scalar assigns it never.
use Rattle.std.proofs.Common.{◌≡◌, ℕ, suc, ◌+◌, Bool, true, false, true≢false, Option, Some, None, List, [], ◌∷◌, refl, sym, ap, ◌∙◌, subst, arith}
use Rattle.std.specs.Prelude.{◌==◌, ◌&&◌, if◌then◌else◌, slice_get}
use Rattle.std.proofs.lemmas.Bool.{and_parts, eqb-true}
use Rattle.graph_core.specs.Graphs.{Instruction, Block, Graph}
use Rattle.graph_core.specs.Paths.{is_bound, writes}
use Rattle.graph_core.specs.Points.{assignments_in, is_place, writes_among, writes_in}
use Rattle.graph_core.specs.Validity.{place_behind, total}
use Rattle.graph_core.specs.WellMarked.{StandsIn, here, behind, WrittenIn, instruction, bound}

-- A place that is said to be in force is.
pub place_is : (p : ℕ) (o : Option ℕ) → is_place p o ≡ true → o ≡ Some p
place_is p None e = absurd (true≢false (sym e))
place_is p (Some q) e = ap (λ (n : ℕ). Some n) (eqb-true q p e)

zero_plus : (m : ℕ) → 0 + m ≡ m
zero_plus m = omega arith

-- Of instructions none is counted where none stands in the place and writes the name.
none_among : (p x : ℕ) (place : Option ℕ) (all : List Instruction) → ((i : Instruction) → StandsIn p i place all → writes x i ≡ true → ⊥) → writes_among p x place all ≡ 0
none_among p x place [] none = refl
none_among p x place (i ∷ more) none =
    ap (λ t. (if t then 1 else 0) + writes_among p x (place_behind (i ∷ []) place) more) (by_test (is_place p place && writes x i) refl)
    ∙ zero_plus (writes_among p x (place_behind (i ∷ []) place) more) ∙ none_among p x (place_behind (i ∷ []) place) more (λ j s it. none j (behind s) it)
  where
    by_test : (t : Bool) → (is_place p place && writes x i) ≡ t → t ≡ false
    by_test true e =
        let both = and_parts (is_place p place) (writes x i) e in
        absurd (none i (subst (λ o. StandsIn p i o (i ∷ more)) (sym (place_is p place both.0)) here) both.1)
    by_test false e = refl

none_total : (count : Block → ℕ) (all : List Block) → ((n : ℕ) (b : Block) → slice_get all n ≡ Some b → count b ≡ 0) → total count all ≡ 0
none_total count [] none = refl
none_total count (b ∷ all) none =
    let first = none 0 b refl in
    let rest = none_total count all (λ n c at. none (suc n) c at) in
    omega (arith, first, rest)

-- A place that does not write a scalar assigns it never.
pub unassigned : (g : Graph) (p x : ℕ) → (WrittenIn g p x → ⊥) → assignments_in g p x ≡ 0
unassigned g p x none =
    ap (λ t. (if t then 1 else 0) + writes_in g p x) (by_test (p == g.entry && is_bound x g.parameters) refl) ∙ zero_plus (writes_in g p x)
    ∙ none_total (λ (b : Block). writes_among p x b.place b.instructions) g.blocks (λ n b at. none_among p x b.place b.instructions (λ i s it. none (instruction i (record { number = n; block = b; is = at; stands = s }) it)))
  where
    by_test : (t : Bool) → (p == g.entry && is_bound x g.parameters) ≡ t → t ≡ false
    by_test true e = (let both = and_parts (p == g.entry) (is_bound x g.parameters) e in absurd (none (bound (eqb-true p g.entry both.0) both.1)))
    by_test false e = refl
