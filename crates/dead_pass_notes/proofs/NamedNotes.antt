-- What notes of a valid graph say behind the removal of dead assignments names what there is.
use Rattle.std.proofs.Common.{◌≤◌, ℕ, List, ◌∷◌, length, subst, arith}
use Rattle.std.specs.List.{AllByRecursion}
use Rattle.std.proofs.lemmas.Option.{slice_get_within}
use Rattle.places.specs.declared.flow.Assignment.{Assignment}
use Rattle.graph_core.specs.Graphs.{Operand, Recipe, NoteValue, Instruction, Move, Operate, Truncate, End, Graph, UnitForm, Logged}
use Rattle.graph_core.specs.Points.{StandsWith}
use Rattle.graph_core.specs.Validity.{IsOperand, AreOperandsOf, IsInstruction, IsBlock, IsGraph}
use Rattle.dead_pass_notes.specs.Said.{IsRecipe, constant, address, name, moved, truncated, operated, IsRightSide, moved as made_moved, truncated as made_truncated, operated as made_operated, IsSaid, recipe, gone, unlogged, lost, unlost, stays}
use Rattle.dead_pass_writes.specs.Removals.{IsRemoval}
use Rattle.dead_pass_notes.proofs.Lists.{all_at, all_within}
use Rattle.dead_pass_notes.proofs.Naming.{MayBeSaid}

-- A change that removed an assignment is one of the log.
removal_counted : (log : List Logged) (p variable number : ℕ) → IsRemoval log p variable number → (1 ≤ number) × (number ≤ length log)
removal_counted log p variable number is =
    let within = slice_get_within log is.k is.change is.is in
    (omega (arith, is.counted), omega (arith, is.counted, within))

module _ (u : UnitForm) (g : Graph) (valid : IsGraph u g) where
  -- An instruction that stands at a point names what there is.
  standing_names : (p n : ℕ) (i : Instruction) (rest : List Instruction) (e : End) → StandsWith g p n (i ∷ rest) e → IsInstruction u g i
  standing_names p n i rest e s =
      let block : IsBlock u g s.block = all_at (IsBlock u g) g.blocks n s.block valid.blocks s.is in
      all_within (IsInstruction u g) s.before i rest (subst (AllByRecursion (IsInstruction u g)) s.instructions block.instructions)

  module _ {assignments : List Assignment} (p k : ℕ) (note : List Instruction) (last : End) where
    -- The recipe of an operand that names what there is names what there is: so does each definition that it goes back to.
    recipe_names : (n : ℕ) (rest : List Instruction) (e : End) (a : Operand) (r : Recipe) → IsRecipe assignments g p k note last n rest e a r → IsOperand u.statics g a → AreOperandsOf u.statics g r
    recipe_names n rest e a r constant h = tt
    recipe_names n rest e a r address h = h
    recipe_names n rest e a r (name own fresh still) h = h
    recipe_names n rest e a r (moved {m} {more} {f} {x} {a = b} defined of) h = recipe_names m more f b r of (standing_names p m (Move x b) more f defined.stands).1
    recipe_names n rest e a r (truncated {m} {more} {f} {x} {at} {a = b} {r = s} defined of) h = recipe_names m more f b s of (standing_names p m (Truncate x at b) more f defined.stands).1
    recipe_names n rest e a r (operated {m} {more} {f} {x} {o} {a = b} {b = c} {r = s} {s = t} defined left right) h =
        let named = standing_names p m (Operate x o b c) more f defined.stands in
        (recipe_names m more f b s left named.1, recipe_names m more f c t right named.2)

    -- So does the recipe of what an instruction computes.
    right_names : (n : ℕ) (rest : List Instruction) (e : End) (i : Instruction) (r : Recipe) → IsRightSide assignments g p k note last n rest e i r → IsInstruction u g i → AreOperandsOf u.statics g r
    right_names n rest e i r (made_moved {a} of) h = recipe_names n rest e a r of h.1
    right_names n rest e i r (made_truncated {a} {r = s} of) h = recipe_names n rest e a s of h.1
    right_names n rest e i r (made_operated {a} {b} {r = s} {s = t} left right) h = (recipe_names n rest e a s left h.1, recipe_names n rest e b t right h.2)

    -- WHAT A NOTE SAYS behind the removal names what there is, by the log behind it, where what it said may still be said.
    pub said_names : (log : List Logged) (x : ℕ) (v w : NoteValue) → IsSaid assignments log g p k x v note last w → MayBeSaid u log g v → MayBeSaid u log g w
    said_names log x v w (recipe {r} is) h =
        let d = is.dropped in
        (right_names d.n d.rest d.end d.instruction r is.right (standing_names p d.n d.instruction d.rest d.end d.stands), is.shallow)
    said_names log x v w (gone {variable} {number} dropped none scalar is) h = removal_counted log p variable number is.is
    said_names log x v w (unlogged dropped none never) h = h
    said_names log x v w (lost {variable} {number} kept stale scalar is) h = removal_counted log p variable number is.is
    said_names log x v w (unlost kept stale never) h = h
    said_names log x v w (stays kept fresh) h = h
