-- Recipes that are found are those that there are.
use Rattle.std.proofs.Common.{◌≡◌, ◌≢◌, ℕ, zero, suc, ◌+◌, ◌≤◌, Option, Some, None, List, [], ◌∷◌, refl, sym, ap, ◌∙◌, subst, arith}
use Rattle.std.specs.Prelude.{◌↔◌, max}
use Rattle.word_base.specs.declared.operation.Operation.{Operation}
use Rattle.word_base.specs.declared.operation.Truncation.{Truncation}
use Rattle.places.specs.declared.flow.Assignment.{Assignment}
use Rattle.graph_core.specs.declared.name.Name as declared-name
use Rattle.graph_core.specs.declared.name.Operand as declared-operand
use Rattle.graph_core.specs.declared.name.Operand.TheVariants as declared
use Rattle.graph_core.specs.Graphs.{operand_view, Operand, Name, Constant, StaticAddress, Recipe, Of, Truncated, Operated, Instruction, Move, Operate, Truncate, Graph}
use Rattle.graph_core.specs.Validity.{depth_of}
use Rattle.graph_core.specs.WellMarked.{IsLocal}
use Rattle.dead_pass_writes.specs.declared.writes.Spot.{Spot}
use Rattle.dead_pass_notes.specs.Spots.{left_at, end_at}
use Rattle.dead_pass_notes.specs.declared.recipes.NotePoint.{NotePoint}
use Rattle.dead_pass_notes.specs.declared.recipes.Source.{Source}
use Rattle.dead_pass_notes.specs.declared.recipes.Source.TheVariants.{Read, Made, Unknown}
use Rattle.dead_pass_notes.specs.declared.recipes.Computed.{Computed}
use Rattle.dead_pass_notes.specs.declared.recipes.Computed.TheVariants as computed
use Rattle.dead_pass_notes.specs.Said.{IsRecipe, constant, address, name, moved, truncated, operated, IsRightSide, moved as right_moved, truncated as right_truncated, operated as right_operated}
use Rattle.dead_pass_notes.specs.Sources.{noted, IsRead, IsMade, StillHolds, Gives, Computes, IsFound}
use Rattle.dead_pass_notes.proofs.Sources.{same_move}

same_truncate : {x y : ℕ} {t u : Truncation} {a b : Operand} {xs ys : List Instruction} → Truncate x t a ∷ xs ≡ Truncate y u b ∷ ys → (t ≡ u) × (a ≡ b)
same_truncate e = (cc, cc)

same_operate : {x y : ℕ} {o q : Operation} {a b c d : Operand} {xs ys : List Instruction} → Operate x o a b ∷ xs ≡ Operate y q c d ∷ ys → (o ≡ q) × (a ≡ c) × (b ≡ d)
same_operate e = (cc, cc, cc)

move_no_truncate : {x y : ℕ} {u : Truncation} {a b : Operand} {xs ys : List Instruction} → Move x a ∷ xs ≡ Truncate y u b ∷ ys → ⊥
move_no_truncate e = cc

move_no_operate : {x y : ℕ} {q : Operation} {a c d : Operand} {xs ys : List Instruction} → Move x a ∷ xs ≡ Operate y q c d ∷ ys → ⊥
move_no_operate e = cc

operate_no_truncate : {x y : ℕ} {o : Operation} {u : Truncation} {a b c : Operand} {xs ys : List Instruction} → Operate x o a b ∷ xs ≡ Truncate y u c ∷ ys → ⊥
operate_no_truncate e = cc

truncate_no_operate : {x y : ℕ} {o : Operation} {u : Truncation} {a b c : Operand} {xs ys : List Instruction} → Truncate y u c ∷ ys ≡ Operate x o a b ∷ xs → ⊥
truncate_no_operate e = cc

module _ {assignments : List Assignment} (g : Graph) (note : NotePoint) where
  -- a name that is no local temporary
  pub read_name : (at : Spot) (y depth : ℕ) → (IsLocal g y → ⊥) → StillHolds assignments g note at y → IsFound (suc depth) (IsRead assignments g note at (Name y)) (Some (Of (Name y)))
  read_name at y depth other holds = (name other holds.fresh holds.unwritten, omega arith)

  pub read_none : (at : Spot) (y depth : ℕ) → (IsLocal g y → ⊥) → (StillHolds assignments g note at y → ⊥) → IsFound depth (IsRead assignments g note at (Name y)) None
  read_none at y depth other lost r given le = by given
    where
      by : {q : Recipe} → IsRead assignments g note at (Name y) q → ⊥
      by (name not_local fresh unwritten) = lost (record { fresh = fresh; unwritten = unwritten })
      by (moved def q) = other def.local
      by (truncated def q) = other def.local
      by (operated def q w) = other def.local

  pub read_constant : (at : Spot) (w depth : ℕ) → IsFound (suc depth) (IsRead assignments g note at (Constant w)) (Some (Of (Constant w)))
  read_constant at w depth = (constant, omega arith)

  pub read_address : (at : Spot) (object offset depth : ℕ) → IsFound (suc depth) (IsRead assignments g note at (StaticAddress object offset)) (Some (Of (StaticAddress object offset)))
  read_address at object offset depth = (address, omega arith)

  -- an operand that is no name
  pub read_other : (at : Spot) (o : declared-operand.Operand) (depth : ℕ) → ((x : declared-name.Name) → o ≡ declared.Name x → ⊥) → IsFound (suc depth) (IsRead assignments g note at (operand_view o)) (Some (Of (operand_view o)))
  read_other at (declared.Name x) depth other = absurd (other x refl)
  read_other at (declared.Constant w) depth other = read_constant at w depth
  read_other at (declared.StaticAddress object offset) depth other = read_address at object offset depth

  module _ (d : Spot) where
    -- what is copied
    pub made_copied : (x : ℕ) (a : Operand) → left_at g d.block (suc d.left) ≡ Move x a ∷ left_at g d.block d.left → (r : Recipe) → IsMade assignments g note d r ↔ IsRead assignments g note d a r
    made_copied x a is r = (to, back)
      where
        to : IsMade assignments g note d r → IsRead assignments g note d a r
        to made = by made.right made.is
          where
            by : {i : Instruction} {q : Recipe} → IsRightSide assignments g note.place.0 note.spot.block (noted g note) (end_at g note.spot.block) d.block (left_at g d.block d.left) (end_at g d.block) i q → left_at g d.block (suc d.left) ≡ i ∷ left_at g d.block d.left → IsRead assignments g note d a q
            by {q = q} (right_moved s) e = subst (λ c. IsRead assignments g note d c q) (same_move (sym e ∙ is)) s
            by (right_truncated s) e = absurd (move_no_truncate (sym is ∙ e))
            by (right_operated s w) e = absurd (move_no_operate (sym is ∙ e))

        back : IsRead assignments g note d a r → IsMade assignments g note d r
        back s = record { instruction = Move x a; is = is; right = right_moved s }

    -- what is truncated
    pub made_truncated : (x : ℕ) (t : Truncation) (a : Operand) (from : Source) → left_at g d.block (suc d.left) ≡ Truncate x t a ∷ left_at g d.block d.left → ((r : Recipe) → IsRead assignments g note d a r ↔ Gives assignments g note from r)
        → (r : Recipe) → IsMade assignments g note d r ↔ Computes assignments g note (computed.Truncated t from) r
    made_truncated x t a from is same r = (to, back)
      where
        to : IsMade assignments g note d r → Computes assignments g note (computed.Truncated t from) r
        to made = by made.right made.is
          where
            by : {i : Instruction} {q : Recipe} → IsRightSide assignments g note.place.0 note.spot.block (noted g note) (end_at g note.spot.block) d.block (left_at g d.block d.left) (end_at g d.block) i q → left_at g d.block (suc d.left) ≡ i ∷ left_at g d.block d.left → Computes assignments g note (computed.Truncated t from) q
            by (right_moved s) e = absurd (move_no_truncate (sym e ∙ is))
            by (right_truncated {at = u} {r = w} s) e =
                let q = same_truncate (sym e ∙ is) in
                (w, ap (λ v. Truncated v w) q.0, (same w).0 (subst (λ b. IsRead assignments g note d b w) q.1 s))
            by (right_operated s w) e = absurd (operate_no_truncate (sym e ∙ is))

        back : Computes assignments g note (computed.Truncated t from) r → IsMade assignments g note d r
        back c = record { instruction = Truncate x t a; is = is; right = subst (λ q. IsRightSide assignments g note.place.0 note.spot.block (noted g note) (end_at g note.spot.block) d.block (left_at g d.block d.left) (end_at g d.block) (Truncate x t a) q) (sym c.1) (right_truncated ((same c.0).1 c.2)) }

    -- what is operated
    pub made_operated : (x : ℕ) (o : Operation) (a b : Operand) (left right : Source) → left_at g d.block (suc d.left) ≡ Operate x o a b ∷ left_at g d.block d.left → ((r : Recipe) → IsRead assignments g note d a r ↔ Gives assignments g note left r) → ((r : Recipe) → IsRead assignments g note d b r ↔ Gives assignments g note right r)
        → (r : Recipe) → IsMade assignments g note d r ↔ Computes assignments g note (computed.Operated o left right) r
    made_operated x o a b left right is one two r = (to, back)
      where
        to : IsMade assignments g note d r → Computes assignments g note (computed.Operated o left right) r
        to made = by made.right made.is
          where
            by : {i : Instruction} {q : Recipe} → IsRightSide assignments g note.place.0 note.spot.block (noted g note) (end_at g note.spot.block) d.block (left_at g d.block d.left) (end_at g d.block) i q → left_at g d.block (suc d.left) ≡ i ∷ left_at g d.block d.left → Computes assignments g note (computed.Operated o left right) q
            by (right_moved s) e = absurd (move_no_operate (sym e ∙ is))
            by (right_truncated s) e = absurd (truncate_no_operate (sym e ∙ is))
            by (right_operated {o = u} {r = v} {s = w} s z) e =
                let q = same_operate (sym e ∙ is) in
                (v, w, ap (λ p. Operated p v w) q.0, (one v).0 (subst (λ c. IsRead assignments g note d c v) q.1 s), (two w).0 (subst (λ c. IsRead assignments g note d c w) q.2 z))

        back : Computes assignments g note (computed.Operated o left right) r → IsMade assignments g note d r
        back c = record { instruction = Operate x o a b; is = is; right = subst (λ q. IsRightSide assignments g note.place.0 note.spot.block (noted g note) (end_at g note.spot.block) d.block (left_at g d.block d.left) (end_at g d.block) (Operate x o a b) q) (sym c.2) (right_operated ((one c.0).1 c.3) ((two c.1).1 c.4)) }

-- a recipe is at least 1 deep
deep : (r : Recipe) → 1 ≤ depth_of r
deep (Of a) = omega arith
deep (Truncated t r) = omega arith
deep (Operated o r s) = omega arith

pub none_shallow : (Given : Recipe → Type 0) → IsFound 0 Given None
none_shallow Given r given le = (let some = deep r in omega (arith, some, le))

-- what is found of the same recipes
pub found_same : (Given Other : Recipe → Type 0) (depth : ℕ) → ((r : Recipe) → Given r ↔ Other r) → (o : Option Recipe) → IsFound depth Other o → IsFound depth Given o
found_same Given Other depth same None none = λ r given le. none r ((same r).0 given) le
found_same Given Other depth same (Some r) found = ((same r).1 found.0, found.1)

max_left : (a b : ℕ) → a ≤ max a b
max_left zero b = omega arith
max_left (suc a) zero = omega arith
max_left (suc a) (suc b) = (let le = max_left a b in omega (arith, le))

max_right : (a b : ℕ) → b ≤ max a b
max_right zero b = omega arith
max_right (suc a) zero = omega arith
max_right (suc a) (suc b) = (let le = max_right a b in omega (arith, le))

max_most : (a b n : ℕ) → a ≤ n → b ≤ n → max a b ≤ n
max_most zero b n one two = omega (arith, two)
max_most (suc a) zero n one two = omega (arith, one)
max_most (suc a) (suc b) zero one two = absurd (omega (arith, one))
max_most (suc a) (suc b) (suc n) one two = (let le = max_most a b n (omega (arith, one)) (omega (arith, two)) in omega (arith, le))

-- and of an operation
module _ (Given Left Right : Recipe → Type 0) (o : Operation) (depth : ℕ) (same : (r : Recipe) → Given r ↔ ((q w : Recipe) × (r ≡ Operated o q w) × Left q × Right w)) where
  pub found_operated : (q w : Recipe) → IsFound depth Left (Some q) → IsFound depth Right (Some w) → IsFound (suc depth) Given (Some (Operated o q w))
  found_operated q w one two = (let le = max_most (depth_of q) (depth_of w) depth one.1 two.1 in ((same (Operated o q w)).1 (q, w, refl, one.0, two.0), omega (arith, le)))

  pub none_left : IsFound depth Left None → IsFound (suc depth) Given None
  none_left none r given le =
      let parts = (same r).0 given in
      let deep = ap depth_of parts.2 in
      let most = max_left (depth_of parts.0) (depth_of parts.1) in
      none parts.0 parts.3 (omega (arith, le, deep, most))

  pub none_right : IsFound depth Right None → IsFound (suc depth) Given None
  none_right none r given le =
      let parts = (same r).0 given in
      let deep = ap depth_of parts.2 in
      let most = max_right (depth_of parts.0) (depth_of parts.1) in
      none parts.1 parts.4 (omega (arith, le, deep, most))
