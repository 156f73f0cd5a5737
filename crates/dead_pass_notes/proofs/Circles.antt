-- Copies that lead back to where they began give no recipe.
use Rattle.std.proofs.Common.{◌≡◌, ℕ, zero, suc, ◌≤◌, ◌<◌, Option, Some, None, List, ◌∷◌, refl, sym, ap, ◌∙◌, subst, arith}
use Rattle.std.specs.Prelude.{◌↔◌, ⊤}
use Rattle.places.specs.declared.flow.Assignment.{Assignment}
use Rattle.graph_core.specs.Graphs.{Operand, Name, Recipe, Instruction, Move, End, Graph}
use Rattle.graph_core.specs.WellMarked.{IsLocal}
use Rattle.dead_pass_writes.specs.declared.writes.Spot.{Spot}
use Rattle.dead_pass_writes.specs.Once.{IsOnce}
use Rattle.dead_pass_notes.specs.Spots.{left_at, end_at}
use Rattle.dead_pass_notes.specs.declared.recipes.NotePoint.{NotePoint}
use Rattle.dead_pass_notes.specs.Said.{IsRecipe, constant, address, name, moved, truncated, operated}
use Rattle.dead_pass_notes.specs.Sources.{noted, IsRead}
use Rattle.dead_pass_notes.proofs.Sources.{same_definition, same_move, truncate_no_move, operate_no_move}

module _ (assignments : List Assignment) (g : Graph) (note : NotePoint) where
  abbrev pub RecipeAt : (n : ℕ) → List Instruction → End → Operand → Recipe → Type 0
  RecipeAt n rest e a r = IsRecipe assignments g note.place.0 note.spot.block (noted g note) (end_at g note.spot.block) n rest e a r

  -- through how many copies a recipe goes first
  pub copies : {n : ℕ} {rest : List Instruction} {e : End} {a : Operand} {r : Recipe} → RecipeAt n rest e a r → ℕ
  copies (moved def q) = suc (copies q)
  copies _ = 0

  -- a recipe that goes through so many
  abbrev pub Through : (n : ℕ) → List Instruction → End → Operand → Recipe → ℕ → Type 0
  Through n rest e a r k = (q : RecipeAt n rest e a r) × (copies q ≡ k)

  abbrev pub IsThrough : Spot → Operand → Recipe → ℕ → Type 0
  IsThrough at a r k = Through at.block (left_at g at.block at.left) (end_at g at.block) a r k

  -- Where each recipe at a spot has one there that goes through less copies, there is none.
  pub no_circle : (at : Spot) (a : Operand) → ((r : Recipe) (k : ℕ) → IsThrough at a r k → (j : ℕ) × (j < k) × IsThrough at a r j) → (r : Recipe) → IsRead assignments g note at a r → ⊥
  no_circle at a less r q = go (copies q) (copies q) (omega arith) (q, refl)
    where
      go : (most k : ℕ) → k ≤ most → IsThrough at a r k → ⊥
      go zero k le is = (let next = less r k is in let lt = next.1 in omega (arith, le, lt))
      go (suc most) k le is = (let next = less r k is in let lt = next.1 in go most next.0 (omega (arith, le, lt)) next.2)

  -- A recipe of a temporary that is copied goes through one copy more than that of what it copies.
  module _ (t : ℕ) (local : IsLocal g t) (only : Option Spot) (tells : (s : Spot) → (only ≡ Some s) ↔ IsOnce g note.place.0 t s.block s.left) (d : Spot) (is : only ≡ Some d)
      (x : ℕ) (a : Operand) (copied : left_at g d.block (suc d.left) ≡ Move x a ∷ left_at g d.block d.left) where
    pub copied_through : (at : Spot) (r : Recipe) (k : ℕ) → IsThrough at (Name t) r k → (j : ℕ) × (j < k) × IsThrough d a r j
    unfolding copies
    copied_through at r k through = by through.0 through.1
      where
        by : {q : Recipe} → (s : IsRead assignments g note at (Name t) q) → copies s ≡ k → (j : ℕ) × (j < k) × IsThrough d a q j
        by (name not_local fresh unwritten) e = absurd (not_local local)
        by {q} (moved {m} {more = more} {f = f} {a = b} def s) e =
            let same = same_definition g note t local only tells d is def in
            let first : Through m more f b q (copies s) = (s, refl) in
            let here : Through d.block more f b q (copies s) = subst (λ z. Through z more f b q (copies s)) same.number first in
            let rest : Through d.block (left_at g d.block d.left) f b q (copies s) = subst (λ z. Through d.block z f b q (copies s)) same.rest here in
            let ends : Through d.block (left_at g d.block d.left) (end_at g d.block) b q (copies s) = subst (λ z. Through d.block (left_at g d.block d.left) z b q (copies s)) same.ends rest in
            let one : suc (copies s) ≡ k = e in
            (copies s, omega (arith, one), subst (λ z. IsThrough d z q (copies s)) (same_move (sym same.whole ∙ copied)) ends)
        by (truncated def s) e = absurd (truncate_no_move (sym (same_definition g note t local only tells d is def).whole ∙ copied))
        by (operated def s w) e = absurd (operate_no_move (sym (same_definition g note t local only tells d is def).whole ∙ copied))

  -- From a copy that was marked a chain of copies came to what is read now.
  abbrev pub IsMarked : Option Spot → Spot → Operand → Type 0
  IsMarked None at a = ⊤
  IsMarked (Some d) at a = (x : ℕ) × (b : Operand) × (left_at g d.block (suc d.left) ≡ Move x b ∷ left_at g d.block d.left) × ((r : Recipe) (k : ℕ) → IsThrough d b r k → (j : ℕ) × (j ≤ k) × IsThrough at a r j)

  -- it is what was marked now
  pub marked_here : (d : Spot) (x : ℕ) (a : Operand) → left_at g d.block (suc d.left) ≡ Move x a ∷ left_at g d.block d.left → IsMarked (Some d) d a
  marked_here d x a copied = (x, a, copied, λ r k through. (k, omega arith, through))

  module _ (t : ℕ) (local : IsLocal g t) (only : Option Spot) (tells : (s : Spot) → (only ≡ Some s) ↔ IsOnce g note.place.0 t s.block s.left) (d : Spot) (is : only ≡ Some d) where
    -- one copy more
    pub marked_on : (mark : Option Spot) (at : Spot) (x : ℕ) (a : Operand) → left_at g d.block (suc d.left) ≡ Move x a ∷ left_at g d.block d.left → IsMarked mark at (Name t) → IsMarked mark d a
    marked_on None at x a copied marked = marked
    marked_on (Some m) at x a copied marked = (
      marked.0,
      marked.1,
      marked.2,
      λ r k through.
          (let so = marked.3 r k through in
          let next = copied_through t local only tells d is x a copied at r so.0 so.2 in
          let le = so.1 in
          let lt = next.1 in
          (next.0, omega (arith, le, lt), next.2)),
    )

    -- A chain that came back gives no recipe.
    pub marked_again : (at : Spot) → IsMarked (Some d) at (Name t) → (r : Recipe) → IsRead assignments g note at (Name t) r → ⊥
    marked_again at marked r q =
        let x = marked.0 in
        let a = marked.1 in
        let copied = marked.2 in
        let first = copied_through t local only tells d is x a copied at r (copies q) (q, refl) in
        no_circle d a (λ w k through.
        (let so = marked.3 w k through in
        let next = copied_through t local only tells d is x a copied at w so.0 so.2 in
        let le = so.1 in
        let lt = next.1 in
        (next.0, omega (arith, le, lt), next.2))) r first.2.0
