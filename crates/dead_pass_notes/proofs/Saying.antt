-- What is said of assignments that go, and of those that went before.
use Rattle.std.proofs.Common.{◌≡◌, ◌≢◌, ℕ, suc, ◌≤◌, ◌⊎◌, inl, inr, Bool, true, false, true≢false, Option, Some, None, List, [], ◌∷◌, ◌++◌, length, refl, sym, ap, ◌∙◌, subst, arith}
use Rattle.std.specs.Prelude.{◌↔◌, IfSome, option_map, slice_get}
use Rattle.std.proofs.lemmas.Bool.{cases_Bool}
use Rattle.std.proofs.lemmas.Option.{same_Some, none-some}
use Rattle.places.specs.declared.flow.Assignment.{Assignment}
use Rattle.graph_core.specs.Bounds.{most_depth}
use Rattle.graph_core.specs.Graphs.{Name, Recipe, Of, Truncated, Operated, NoteValue, Is, Gone, Instruction, End, Scalar, Block, Graph, Logged}
use Rattle.graph_core.specs.Points.{StandsWith}
use Rattle.graph_core.specs.Validity.{depth_of}
use Rattle.graph_core.specs.WellMarked.{IsVariable}
use Rattle.dead_pass_rule.specs.Asking.{is_going}
use Rattle.dead_pass_rule.specs.Walks.{turn_of}
use Rattle.dead_pass_rule.specs.Idle.{Goes}
use Rattle.dead_pass_writes.specs.declared.writes.PlaceWrites.{PlaceWrites}
use Rattle.dead_pass_writes.specs.declared.writes.Spot.{Spot}
use Rattle.dead_pass_writes.specs.declared.writes.Written.{Written}
use Rattle.dead_pass_writes.specs.declared.writes.Written.TheVariants.{Once}
use Rattle.dead_pass_writes.specs.Once.{IsOnce}
use Rattle.dead_pass_writes.specs.Telling.{Tells}
use Rattle.dead_pass_notes.specs.Spots.{left_at, end_at}
use Rattle.dead_pass_notes.proofs.PlaceWaysPoints.{left_there, end_there, stands}
use Rattle.dead_pass_notes.specs.Stale.{ComesStale}
use Rattle.dead_pass_notes.specs.declared.idle_graph.IdleGraph.{IdleGraph}
use Rattle.dead_pass_notes.specs.declared.recipes.NotePoint.{NotePoint}
use Rattle.dead_pass_notes.specs.Idle.{IsBorneOut, assignments_of, graph_of}
use Rattle.dead_pass_notes.specs.Lost.{HasStale, IsToldLost, said_by}
use Rattle.dead_pass_writes.specs.Removals.{IsRemoval, IsFirstRemoval, IsLastRemoval}
use Rattle.dead_pass_notes.specs.Said.{IsDropped, IsRightSide, IsRecipeOf, IsLost, WasNeverRemoved, IsSaid, recipe, gone, unlogged, lost, unlost, stays}
use Rattle.dead_pass_notes.specs.Sources.{noted, IsMade, IsFound, IsKnown, IsSaidAt}
use Rattle.dead_pass_notes.proofs.Sources.{IsAtSpot, at_spot, same_spot, front_same}

module _ (idle : IdleGraph) (borne : IsBorneOut idle) (note : NotePoint) (x : ℕ) where
  abbrev g : Graph
  g = graph_of idle

  abbrev going : ℕ → ℕ → Bool
  going = is_going (turn_of idle.turns.items)

  -- a write that is told to go goes
  goes_at : (d : Spot) → (at : IsAtSpot g note x d) → going d.block d.left ≡ true → Goes (assignments_of idle) g d.block (at.instruction ∷ left_at g d.block d.left) (end_at g d.block)
  goes_at d at told =
      let st = at.stands in
      let point = stands g d.block (suc d.left) at.point in
      let long = point.behind in
      let whole = ap (λ l. length l) at.is in
      let count : length (left_at g d.block d.left) ≡ d.left = omega (arith, long, whole) in
      subst (λ e. Goes (assignments_of idle) g d.block (at.instruction ∷ left_at g d.block d.left) e) (sym st.ends)
      ((borne.goes.goes d.block st.block st.before (left_at g d.block d.left) at.instruction st.is st.instructions).0 (ap (going d.block) count ∙ told))

  pub dropped_at : (d : Spot) → IsOnce g note.place.0 x d.block d.left → going d.block d.left ≡ true → IsDropped (assignments_of idle) g note.place.0 x
  dropped_at d once told =
      let at = at_spot g note x d once in
      record {
        n = d.block;
        instruction = at.instruction;
        rest = left_at g d.block d.left;
        end = end_at g d.block;
        stands = at.stands;
        target = at.target;
        once = at.once;
        goes = goes_at d at told;
      }

  -- the spot of an assignment that goes
  abbrev spot_of : IsDropped (assignments_of idle) g note.place.0 x → Spot
  spot_of dropped = record { block = dropped.n; left = length dropped.rest }

  once_of : (dropped : IsDropped (assignments_of idle) g note.place.0 x) → IsOnce g note.place.0 x dropped.n (length dropped.rest)
  once_of dropped = record { instruction = dropped.instruction; rest = dropped.rest; end = dropped.end; stands = dropped.stands; target = dropped.target; behind = refl; once = dropped.once }

  goes_told : (dropped : IsDropped (assignments_of idle) g note.place.0 x) → going dropped.n (length dropped.rest) ≡ true
  goes_told dropped =
      let st = dropped.stands in
      (borne.goes.goes dropped.n st.block st.before dropped.rest dropped.instruction st.is st.instructions).1
      (subst (λ e. Goes (assignments_of idle) g dropped.n (dropped.instruction ∷ dropped.rest) e) st.ends dropped.goes)

  module _ (only : Option Spot) (tells : (s : Spot) → (only ≡ Some s) ↔ IsOnce g note.place.0 x s.block s.left) where
    pub none_dropped : only ≡ None → IsDropped (assignments_of idle) g note.place.0 x → ⊥
    none_dropped none dropped = none-some (spot_of dropped) (sym none ∙ (tells (spot_of dropped)).1 (once_of dropped))

    module _ (d : Spot) (is : only ≡ Some d) where
      same_place : (dropped : IsDropped (assignments_of idle) g note.place.0 x) → spot_of dropped ≡ d
      same_place dropped = same_Some (spot_of dropped) d (sym ((tells (spot_of dropped)).1 (once_of dropped)) ∙ is)

      pub stays_dropped : going d.block d.left ≡ false → IsDropped (assignments_of idle) g note.place.0 x → ⊥
      stays_dropped staying dropped =
          true≢false (sym (goes_told dropped) ∙ ap (λ (z : Spot). going z.block z.left) (same_place dropped) ∙ staying)

-- The recipe that is found of the one assignment is its recipe.
module _ (idle : IdleGraph) (borne : IsBorneOut idle) (note : NotePoint) (x : ℕ) (d : Spot) (once : IsOnce (graph_of idle) note.place.0 x d.block d.left) (going : is_going (turn_of idle.turns.items) d.block d.left ≡ true) where
  abbrev graph : Graph
  graph = graph_of idle

  abbrev RecipeHere : Recipe → Type 0
  RecipeHere r = IsRecipeOf (assignments_of idle) graph note.place.0 note.spot.block (noted graph note) (end_at graph note.spot.block) x r

  pub recipe_found : (r : Recipe) → IsFound most_depth (IsMade (assignments_of idle) graph note d) (Some r) → RecipeHere r
  unfolding dropped_at
  recipe_found r found =
      let made = found.0 in
      let at = at_spot graph note x d once in
      record {
        dropped = dropped_at idle borne note x d once going;
        right = subst (λ i. IsRightSide (assignments_of idle) graph note.place.0 note.spot.block (noted graph note) (end_at graph note.spot.block) d.block (left_at graph d.block d.left) (end_at graph d.block) i r) (front_same (sym made.is ∙ at.is)) made.right;
        shallow = found.1;
      }

  pub recipe_none : ((s : Spot) → IsOnce graph note.place.0 x s.block s.left → s ≡ d) → IsFound most_depth (IsMade (assignments_of idle) graph note d) None → (r : Recipe) → RecipeHere r → ⊥
  recipe_none unique none r of =
      let dropped = of.dropped in
      let st = dropped.stands in
      let s = same_spot graph note d dropped.n dropped.rest dropped.end dropped.instruction st
      (unique (record { block = dropped.n; left = length dropped.rest }) (record { instruction = dropped.instruction; rest = dropped.rest; end = dropped.end; stands = dropped.stands; target = dropped.target; behind = refl; once = dropped.once })) in
      none r (record {
        instruction = dropped.instruction;
        is = s.whole;
        right = subst (λ z. IsRightSide (assignments_of idle) graph note.place.0 note.spot.block (noted graph note) (end_at graph note.spot.block) d.block (left_at graph d.block d.left) z dropped.instruction r) s.ends
            (subst (λ z. IsRightSide (assignments_of idle) graph note.place.0 note.spot.block (noted graph note) (end_at graph note.spot.block) d.block z dropped.end dropped.instruction r) s.rest
            (subst (λ z. IsRightSide (assignments_of idle) graph note.place.0 note.spot.block (noted graph note) (end_at graph note.spot.block) z dropped.rest dropped.end dropped.instruction r) s.number of.right));
      }) of.shallow

same_spots : {s d : Spot} → ◌≡◌ {A = Option Written} (Some (Once s)) (Some (Once d)) → s ≡ d
same_spots e = cc

-- A name is written once at one spot.
pub once_there : (g : Graph) (writes : PlaceWrites) → Tells g writes → (p x : ℕ) (s d : Spot) → IsOnce g p x s.block s.left → IsOnce g p x d.block d.left → s ≡ d
once_there g writes tells p x s d one two = same_spots (sym ((tells p x s).1 one) ∙ (tells p x d).1 two)

-- one variable is that of a scalar
same_variable : (g : Graph) (x v w : ℕ) → IsVariable g x v → IsVariable g x w → v ≡ w
same_variable g x v w one two = same_Some v w (sym one ∙ two)

-- No change is of a scalar, where none is of its variable.
pub never_of : (log : List Logged) (g : Graph) (p x v : ℕ) → IsVariable g x v → ((number : ℕ) → IsRemoval log p v number → ⊥) → WasNeverRemoved log g p x
never_of log g p x v is none variable number other removal = none number (subst (λ w. IsRemoval log p w number) (same_variable g x variable v other is) removal)

-- What is told of a note that is lost is so.
module _ (idle : IdleGraph) (told : ℕ → Bool) (note : NotePoint) (tells : (y : ℕ) → (told y ≡ true) ↔ ComesStale (assignments_of idle) (graph_of idle) y note.spot.block (noted (graph_of idle) note) (end_at (graph_of idle) note.spot.block)) where
  pub lost_told : (log : List Logged) (x : ℕ) (v : NoteValue) → IsToldLost told x v → IsLost (assignments_of idle) log (graph_of idle) note.spot.block (noted (graph_of idle) note) (end_at (graph_of idle) note.spot.block) x v
  lost_told log x v l = record { r = l.r; is = l.is; other = l.other; y = l.stale.y; named = l.stale.named; stale = (tells l.stale.y).0 l.stale.is_told }

  pub told_lost : (log : List Logged) (x : ℕ) (v : NoteValue) → IsLost (assignments_of idle) log (graph_of idle) note.spot.block (noted (graph_of idle) note) (end_at (graph_of idle) note.spot.block) x v → IsToldLost told x v
  told_lost log x v l = record { r = l.r; is = l.is; other = l.other; stale = record { y = l.y; named = l.named; is_told = (tells l.y).1 l.stale } }

-- What is said by a change, or by none.
module _ {assignments : List Assignment} (log : List Logged) (g : Graph) (note : NotePoint) (x : ℕ) (before : NoteValue) where
  pub said_gone : (change : Option ℕ) → IsDropped assignments g note.place.0 x → ((r : Recipe) → IsRecipeOf assignments g note.place.0 note.spot.block (noted g note) (end_at g note.spot.block) x r → ⊥)
      → IfSome change (λ number. (variable : ℕ) × IsVariable g x variable × IsLastRemoval log note.place.0 variable number) → (change ≡ None → WasNeverRemoved log g note.place.0 x) → IsSaidAt assignments log g note x before (said_by change before)
  said_gone None dropped none some never = unlogged dropped none (never refl)
  said_gone (Some number) dropped none some never = gone dropped none some.1 some.2

  pub said_lost : (change : Option ℕ) → (IsDropped assignments g note.place.0 x → ⊥) → IsLost assignments log g note.spot.block (noted g note) (end_at g note.spot.block) x before
      → IfSome change (λ number. (variable : ℕ) × IsVariable g x variable × IsFirstRemoval log note.place.0 variable number) → (change ≡ None → WasNeverRemoved log g note.place.0 x) → IsSaidAt assignments log g note x before (said_by change before)
  said_lost None other is some never = unlost other is (never refl)
  said_lost (Some number) other is some never = lost other is some.1 some.2

  pub said_same : (IsDropped assignments g note.place.0 x → ⊥) → (IsLost assignments log g note.spot.block (noted g note) (end_at g note.spot.block) x before → ⊥) → IsSaidAt assignments log g note x before before
  said_same other found = stays other found

  pub said_recipe : (r : Recipe) → IsRecipeOf assignments g note.place.0 note.spot.block (noted g note) (end_at g note.spot.block) x r → IsSaidAt assignments log g note x before (Is r)
  said_recipe r of = recipe of
