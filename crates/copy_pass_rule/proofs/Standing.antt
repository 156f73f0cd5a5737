-- Where a walk along a block stands, and a point of which the copies are not known.
use Rattle.std.proofs.Common.{◌≡◌, ℕ, suc, ◌+◌, ◌-◌, ◌≤◌, Bool, Option, Some, List, [], ◌∷◌, ◌++◌, length, map, refl, sym, ap, ◌∙◌, subst, arith, append_assoc, get_or, take, drop}
use Rattle.std.specs.Prelude.{slice_get}
use Rattle.std.proofs.lemmas.List.{length-map, map-append}
use Rattle.base_laws.proofs.Lists.{map_at, rest_is}
use Rattle.graph_core.specs.Graphs.{Graph, Instruction, Scalar}
use Rattle.graph_core.specs.Uses.{target_of}
use Rattle.copy_pass_rule.specs.declared.copies.CopyAt.{CopyAt}
use Rattle.copy_pass_rule.specs.Copying.{reading}
use Rattle.copy_pass_rule.specs.Flow.{AreFound, AreKnownIn, Bits, IsKnown, IsSomeUnknown, lines_of, missing_behind, missing_where, source_among}
use Rattle.copy_pass_rule.specs.Found.{AreCopiesOf}
use Rattle.copy_pass_rule.proofs.Missing.{where_start, where_step}

-- A walk along a block stands before what is left of it, and knows what is missing there.
pub record StandsBefore (copies : List CopyAt) (n : ℕ) (all left : List Instruction) (start now : ℕ → Bool) : Type 0 where
  pub before : List Instruction
  pub parts : all ≡ before ++ left
  pub at : (k : ℕ) (c : CopyAt) → slice_get copies k ≡ Some c → now k ≡ missing_where c n (length left) (map target_of all) (start k)

-- what is missing behind an instruction of a block, from what is missing before it
abbrev pub Steps : List CopyAt → (n left : ℕ) → (target : Option ℕ) → (now next : ℕ → Bool) → Type 0
Steps copies n left target now next = (k : ℕ) (c : CopyAt) → slice_get copies k ≡ Some c → next k ≡ missing_behind c n left target (now k)

module _ (copies : List CopyAt) (n : ℕ) (all : List Instruction) (start : ℕ → Bool) where
  pub stands_first : StandsBefore copies n all all start start
  stands_first = record {
    before = [];
    parts = refl;
    at = λ k c is.
        (let many : length (map target_of all) ≡ length all = length-map all target_of in
        sym (ap (λ m. missing_where c n m (map target_of all) (start k)) (sym many) ∙ where_start c n (map target_of all) (start k)));
  }

  -- It goes on over an instruction.
  stands_next : (left : List Instruction) (i : Instruction) (now next : ℕ → Bool) → Steps copies n (length left) (target_of i) now next
      → StandsBefore copies n all (i ∷ left) start now → StandsBefore copies n all left start next
  stands_next left i now next steps s = record {
    before = s.before ++ i ∷ [];
    parts = s.parts ∙ sym (append_assoc s.before (i ∷ []) left);
    at = λ k c is.
        (let writes : List (Option ℕ) = map target_of left in
        let many : length writes ≡ length left = length-map left target_of in
        let split : map target_of all ≡ map target_of s.before ++ target_of i ∷ writes =
        ap (map target_of) s.parts ∙ map-append target_of s.before (i ∷ left) in
        let here : List (Option ℕ) → Bool = λ ts. missing_where c n (length (target_of i ∷ writes)) ts (start k) in
        let step : missing_where c n (length writes) (map target_of all) (start k)
        ≡ missing_behind c n (length writes) (target_of i) (here (map target_of all)) =
        ap (λ ts. missing_where c n (length writes) ts (start k)) split
        ∙ where_step c n (map target_of s.before) (target_of i) writes (start k)
        ∙ ap (λ ts. missing_behind c n (length writes) (target_of i) (here ts)) (sym split) in
        steps k c is ∙ ap (missing_behind c n (length left) (target_of i)) (s.at k c is)
        ∙ ap (λ m. missing_behind c n m (target_of i) (missing_where c n (suc m) (map target_of all) (start k))) (sym many) ∙ sym step
        ∙ ap (λ m. missing_where c n m (map target_of all) (start k)) many);
  }

  -- Where the copies of the next instruction are not known, those of the block are not.
  unknown_here : (scalars : List Scalar) (left : List Instruction) (i made : Instruction) (now : ℕ → Bool)
      → made ≡ reading (source_among copies now 0) i → (IsKnown scalars copies n (length left) made → ⊥)
      → StandsBefore copies n all (i ∷ left) start now → AreKnownIn scalars copies n all start → ⊥
  unknown_here scalars left i made now is never s known =
      never (subst (λ j. IsKnown scalars copies n (length left) j) (sym is) (known s.before left i now s.parts s.at))

  module _ {A : Type 0} (view : A → Instruction) where
    pub stands_on : (left : List A) (x d : A) (l : ℕ) (t : Option ℕ) (now next : ℕ → Bool) → 1 ≤ length left → x ≡ get_or left 0 d
        → l ≡ length (take (length left - 1) (drop 1 left)) → t ≡ target_of (view x) → Steps copies n l t now next
        → StandsBefore copies n all (map view left) start now
        → StandsBefore copies n all (map view (take (length left - 1) (drop 1 left))) start next
    stands_on [] x d l t now next le e count writes steps s = absurd (omega arith)
    stands_on (y ∷ left) x d l t now next le e count writes steps s =
        let rest : take (length (y ∷ left) - 1) (drop 1 (y ∷ left)) ≡ left = rest_is y left in
        let counts : l ≡ length (map view left) = count ∙ ap length rest ∙ sym (length-map left view) in
        let target : t ≡ target_of (view y) = writes ∙ ap (λ z. target_of (view z)) e in
        subst (λ z. StandsBefore copies n all (map view z) start next) (sym rest)
        (stands_next (map view left) (view y) now next
        (λ k c at. steps k c at ∙ ap (λ m. missing_behind c n m t (now k)) counts
        ∙ ap (λ o. missing_behind c n (length (map view left)) o (now k)) target) s)

    pub unknown_on : (scalars : List Scalar) (left : List A) (x d : A) (made : Instruction) (l : ℕ) (now : ℕ → Bool) → 1 ≤ length left
        → x ≡ get_or left 0 d → l ≡ length (take (length left - 1) (drop 1 left)) → made ≡ reading (source_among copies now 0) (view x)
        → (IsKnown scalars copies n l made → ⊥) → StandsBefore copies n all (map view left) start now
        → AreKnownIn scalars copies n all start → ⊥
    unknown_on scalars [] x d made l now le e count is never s = absurd (omega arith)
    unknown_on scalars (y ∷ left) x d made l now le e count is never s =
        let rest : take (length (y ∷ left) - 1) (drop 1 (y ∷ left)) ≡ left = rest_is y left in
        let counts : l ≡ length (map view left) = count ∙ ap length rest ∙ sym (length-map left view) in
        unknown_here scalars (map view left) (view y) made now (is ∙ ap (λ z. reading (source_among copies now 0) (view z)) e)
        (λ known. never (subst (λ m. IsKnown scalars copies n m made) (sym counts) known)) s

-- Where the same are missing, the same are known.
pub known_from : (scalars : List Scalar) (copies : List CopyAt) (n : ℕ) (all : List Instruction) (start others : ℕ → Bool)
    → ((k : ℕ) → start k ≡ others k) → AreKnownIn scalars copies n all others → AreKnownIn scalars copies n all start
known_from scalars copies n all start others same known =
    λ before rest i here parts at. known before rest i here parts
    (λ k c is. at k c is ∙ ap (missing_where c n (length (i ∷ rest)) (map target_of all)) (same k))

-- Where a block is not known, the copies are not those of the graph.
pub refused : (g : Graph) (copies : List CopyAt) (bits : Bits) → AreFound (lines_of g.blocks) copies bits
    → IsSomeUnknown g.scalars copies bits g.blocks → AreCopiesOf g copies → ⊥
refused g copies bits found some are =
    some.unknown.unknown
    (λ before rest i here parts at. are.known bits found some.number some.block before rest i some.is some.unknown.led parts here at)

-- What is ahead are the members from a number on.
abbrev pub AreFrom : {A : Type 0} (all left : List A) (number : ℕ) → Type 0
AreFrom all left number = (k : ℕ) → slice_get left k ≡ slice_get all (number + k)

module _ {A : Type 0} (all : List A) (number : ℕ) where
  pub one_from : {B : Type 0} (view : A → B) (left : List A) (x d : A) → 1 ≤ length left → x ≡ get_or left 0 d → AreFrom all left number
      → slice_get (map view all) number ≡ Some (view x)
  one_from view [] x d le e from = absurd (omega arith)
  one_from view (y ∷ left) x d le e from =
      let here : number + 0 ≡ number = omega arith in
      map_at view all number x (sym (ap (slice_get all) here) ∙ sym (from 0) ∙ ap Some (sym e))

  pub rest_from : (left : List A) → 1 ≤ length left → AreFrom all left number
      → AreFrom all (take (length left - 1) (drop 1 left)) (number + 1)
  rest_from [] le from = absurd (omega arith)
  rest_from (y ∷ left) le from = λ k.
      (let next : number + suc k ≡ number + 1 + k = omega arith in
      ap (λ (z : List A). slice_get z k) (rest_is y left) ∙ from (suc k) ∙ ap (slice_get all) next)
