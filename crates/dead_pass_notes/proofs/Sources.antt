-- Of what the recipes at a note are made: temporaries are resolved by their one definition.
use Rattle.std.proofs.Common.{◌≡◌, ◌≢◌, ℕ, zero, suc, ◌+◌, ◌-◌, ◌<◌, ◌≤◌, ◌⊎◌, inl, inr, Bool, true, false, true≢false, Option, Some, None, List, [], ◌∷◌, ◌++◌, length, refl, sym, ap, ◌∙◌, subst, arith, append_assoc}
use Rattle.std.specs.Prelude.{◌↔◌, slice_get}
use Rattle.std.proofs.lemmas.Option.{same_Some, none-some, slice_get_within}
use Rattle.std.proofs.lemmas.List.{length-append}
use Rattle.word_base.specs.declared.operation.Operation.{Operation}
use Rattle.word_base.specs.declared.operation.Truncation.{Truncation}
use Rattle.places.specs.declared.flow.Assignment.{Assignment}
use Rattle.graph_core.specs.Graphs.{Operand, Name, Constant, StaticAddress, Recipe, Of, Truncated, Operated, Instruction, Move, Operate, Truncate, End, Block, Graph}
use Rattle.graph_core.specs.Points.{StandsWith, assignments_in}
use Rattle.graph_core.specs.Uses.{target_of}
use Rattle.graph_core.specs.WellMarked.{IsLocal}
use Rattle.dead_pass_writes.specs.declared.writes.Spot.{Spot}
use Rattle.dead_pass_writes.specs.Once.{IsOnce}
use Rattle.dead_pass_notes.specs.Spots.{left_at, end_at, IsPoint}
use Rattle.dead_pass_notes.proofs.PlaceWaysPoints.{left_there, end_there}
use Rattle.dead_pass_notes.specs.declared.recipes.NotePoint.{NotePoint}
use Rattle.dead_pass_notes.specs.Said.{IsDefinition, IsRecipe, constant, address, name, moved, truncated, operated, IsRightSide, moved as right_moved, truncated as right_truncated, operated as right_operated}
use Rattle.dead_pass_notes.specs.Sources.{noted, IsRead, IsMade}

pub same_move : {x y : ℕ} {a b : Operand} {xs ys : List Instruction} → Move x a ∷ xs ≡ Move y b ∷ ys → a ≡ b
same_move e = cc

pub truncate_no_move : {x y : ℕ} {t : Truncation} {a b : Operand} {xs ys : List Instruction} → Truncate x t a ∷ xs ≡ Move y b ∷ ys → ⊥
truncate_no_move e = cc

pub operate_no_move : {x y : ℕ} {o : Operation} {a b c : Operand} {xs ys : List Instruction} → Operate x o a b ∷ xs ≡ Move y c ∷ ys → ⊥
operate_no_move e = cc

pub front_same : {i j : Instruction} {xs ys : List Instruction} → i ∷ xs ≡ j ∷ ys → i ≡ j
front_same e = cc

-- An instruction stands at a spot.
pub record IsSame (g : Graph) (d : Spot) (m : ℕ) (more : List Instruction) (f : End) (i : Instruction) : Type 0 where
  pub number : m ≡ d.block
  pub rest : more ≡ left_at g d.block d.left
  pub ends : f ≡ end_at g d.block
  pub whole : left_at g d.block (suc d.left) ≡ i ∷ left_at g d.block d.left

pub same_spot : (g : Graph) (note : NotePoint) (d : Spot) (m : ℕ) (more : List Instruction) (f : End) (i : Instruction) → StandsWith g note.place.0 m (i ∷ more) f → ◌≡◌ {A = Spot} (record { block = m; left = length more }) d → IsSame g d m more f i
same_spot g note d m more f i stood same =
    let rest : left_at g m (length more) ≡ more = left_there g m (length more) stood.block (stood.before ++ i ∷ []) more stood.is (stood.instructions ∙ sym (append_assoc stood.before (i ∷ []) more)) refl in
    let whole : left_at g m (suc (length more)) ≡ i ∷ more = left_there g m (suc (length more)) stood.block stood.before (i ∷ more) stood.is stood.instructions refl in
    record {
      number = ap (λ (z : Spot). z.block) same;
      rest = sym rest ∙ ap (λ (z : Spot). left_at g z.block z.left) same;
      ends = stood.ends ∙ sym (end_there g m stood.block stood.is) ∙ ap (λ (z : Spot). end_at g z.block) same;
      whole = sym (ap (λ (z : Spot). left_at g z.block (suc z.left)) same) ∙ whole ∙ ap (λ l. i ∷ l) (sym rest ∙ ap (λ (z : Spot). left_at g z.block z.left) same);
    }

module _ (g : Graph) (note : NotePoint) where
  -- the recipe of what is read at the same point
  moved_to : {assignments : List Assignment} → {n m : ℕ} {rest more : List Instruction} {e f : End} {a : Operand} {r : Recipe} → n ≡ m → rest ≡ more → e ≡ f → IsRecipe assignments g note.place.0 note.spot.block (noted g note) (end_at g note.spot.block) n rest e a r
      → IsRecipe assignments g note.place.0 note.spot.block (noted g note) (end_at g note.spot.block) m more f a r
  moved_to {assignments} {n} {m} {rest} {more} {e} {f} {a} {r} number same ends q =
      subst (λ z. IsRecipe assignments g note.place.0 note.spot.block (noted g note) (end_at g note.spot.block) m more z a r) ends
      (subst (λ z. IsRecipe assignments g note.place.0 note.spot.block (noted g note) (end_at g note.spot.block) m z e a r) same
      (subst (λ z. IsRecipe assignments g note.place.0 note.spot.block (noted g note) (end_at g note.spot.block) z rest e a r) number q))

  -- an instruction that writes a name once in the place of the note, at a spot
  pub record IsAtSpot (t : ℕ) (d : Spot) : Type 0 where
    pub instruction : Instruction
    pub is : left_at g d.block (suc d.left) ≡ instruction ∷ left_at g d.block d.left
    pub stands : StandsWith g note.place.0 d.block (instruction ∷ left_at g d.block d.left) (end_at g d.block)
    pub target : target_of instruction ≡ Some t
    pub once : assignments_in g note.place.0 t ≡ 1
    pub point : IsPoint g d.block (suc d.left)

  pub at_spot : (t : ℕ) (d : Spot) → IsOnce g note.place.0 t d.block d.left → IsAtSpot t d
  at_spot t d o =
      let st = o.stands in
      let whole : left_at g d.block (suc d.left) ≡ o.instruction ∷ o.rest = left_there g d.block (suc d.left) st.block st.before (o.instruction ∷ o.rest) st.is st.instructions (ap suc o.behind) in
      let behind : left_at g d.block d.left ≡ o.rest = left_there g d.block d.left st.block (st.before ++ o.instruction ∷ []) o.rest st.is (st.instructions ∙ sym (append_assoc st.before (o.instruction ∷ []) o.rest)) o.behind in
      let ends : end_at g d.block ≡ o.end = end_there g d.block st.block st.is ∙ sym st.ends in
      let long = length-append st.before (o.instruction ∷ o.rest) in
      let count = ap (λ l. length l) st.instructions in
      let behind_count = o.behind in
      record {
        instruction = o.instruction;
        is = whole ∙ ap (λ l. o.instruction ∷ l) (sym behind);
        stands = subst (λ l. StandsWith g note.place.0 d.block (o.instruction ∷ l) (end_at g d.block)) (sym behind) (subst (λ e. StandsWith g note.place.0 d.block (o.instruction ∷ o.rest) e) (sym ends) st);
        target = o.target;
        once = o.once;
        point = record { block = st.block; is = st.is; within = omega (arith, long, count, behind_count) };
      }

  abbrev Definition : (t n : ℕ) → List Instruction → End → Instruction → Type 0
  Definition t n rest e i = IsDefinition g note.place.0 note.spot.block (noted g note) (end_at g note.spot.block) t n rest e i

  once_of : {t m : ℕ} {more : List Instruction} {f : End} {i : Instruction} → Definition t m more f i → IsOnce g note.place.0 t m (length more)
  once_of {more = more} {f = f} {i = i} def = record { instruction = i; rest = more; end = f; stands = def.stands; target = def.target; behind = refl; once = def.once }

  definition_at : (t : ℕ) (d : Spot) → IsLocal g t → (at : IsAtSpot t d) → Definition t d.block (left_at g d.block d.left) (end_at g d.block) at.instruction
  definition_at t d local at = record { local = local; once = at.once; stands = at.stands; target = at.target }

  -- What the one write is of a local temporary, where it is looked for.
  module _ (t : ℕ) (local : IsLocal g t) (only : Option Spot) (tells : (s : Spot) → (only ≡ Some s) ↔ IsOnce g note.place.0 t s.block s.left) where
    pub none_read : {assignments : List Assignment} → only ≡ None → (at : Spot) (r : Recipe) → IsRead assignments g note at (Name t) r → ⊥
    none_read none at _ (name not_local fresh unwritten) = not_local local
    none_read none at _ (moved {m = m} {more = more} def q) = none-some (record { block = m; left = length more }) (sym none ∙ (tells (record { block = m; left = length more })).1 (once_of def))
    none_read none at _ (truncated {m = m} {more = more} def q) = none-some (record { block = m; left = length more }) (sym none ∙ (tells (record { block = m; left = length more })).1 (once_of def))
    none_read none at _ (operated {m = m} {more = more} def q w) = none-some (record { block = m; left = length more }) (sym none ∙ (tells (record { block = m; left = length more })).1 (once_of def))

    module _ (d : Spot) (is : only ≡ Some d) where
      pub here : IsAtSpot t d
      here = at_spot t d ((tells d).0 is)

      pub same_definition : {m : ℕ} {more : List Instruction} {f : End} {i : Instruction} → Definition t m more f i → IsSame g d m more f i
      same_definition {m} {more} {f} {i} def =
          let s : Spot = record { block = m; left = length more } in
          same_spot g note d m more f i def.stands (same_Some s d (sym ((tells s).1 (once_of def)) ∙ is))

      -- An operand that is made by another instruction than a copy.
      pub made_read : {assignments : List Assignment} → ((x : ℕ) (a : Operand) (rest : List Instruction) → left_at g d.block (suc d.left) ≢ Move x a ∷ rest) → (at : Spot) (r : Recipe) → IsRead assignments g note at (Name t) r ↔ IsMade assignments g note d r
      made_read {assignments} none at r = (to, from)
        where
          to : {q : Recipe} → IsRead assignments g note at (Name t) q → IsMade assignments g note d q
          to (name not_local fresh unwritten) = absurd (not_local local)
          to (moved {x = x} {a = a} def q) = absurd (none x a (left_at g d.block d.left) (same_definition def).whole)
          to (truncated {x = x} {at = truncation} {a = a} def q) =
              let s = same_definition def in
              record { instruction = Truncate x truncation a; is = s.whole; right = right_truncated (moved_to s.number s.rest s.ends q) }
          to (operated {x = x} {o = o} {a = a} {b = b} def q w) =
              let s = same_definition def in
              record { instruction = Operate x o a b; is = s.whole; right = right_operated (moved_to s.number s.rest s.ends q) (moved_to s.number s.rest s.ends w) }

          from : IsMade assignments g note d r → IsRead assignments g note at (Name t) r
          from made = by made.right (subst (λ i. Definition t d.block (left_at g d.block d.left) (end_at g d.block) i) (front_same (sym here.is ∙ made.is)) (definition_at t d local here)) made.is
            where
              by : {i : Instruction} {q : Recipe} → IsRightSide assignments g note.place.0 note.spot.block (noted g note) (end_at g note.spot.block) d.block (left_at g d.block d.left) (end_at g d.block) i q → Definition t d.block (left_at g d.block d.left) (end_at g d.block) i
                  → left_at g d.block (suc d.left) ≡ i ∷ left_at g d.block d.left → IsRead assignments g note at (Name t) q
              by (right_moved {x = x} {a = a} s) def is = absurd (none x a (left_at g d.block d.left) is)
              by (right_truncated s) def is = truncated def s
              by (right_operated s w) def is = operated def s w

      -- An operand that is copied from another.
      module _ (x : ℕ) (a : Operand) (copies : left_at g d.block (suc d.left) ≡ Move x a ∷ left_at g d.block d.left) where
        -- how many copies a recipe goes through first
        pub copied_read : {assignments : List Assignment} → (at : Spot) (r : Recipe) → IsRead assignments g note at (Name t) r ↔ IsRead assignments g note d a r
        copied_read {assignments} at r = (to, from)
          where
            to : {q : Recipe} → IsRead assignments g note at (Name t) q → IsRead assignments g note d a q
            to (name not_local fresh unwritten) = absurd (not_local local)
            to {q} (moved def s) =
                let same = same_definition def in
                subst (λ b. IsRead assignments g note d b q) (same_move (sym same.whole ∙ copies)) (moved_to same.number same.rest same.ends s)
            to (truncated def s) = absurd (truncate_no_move (sym (same_definition def).whole ∙ copies))
            to (operated def s w) = absurd (operate_no_move (sym (same_definition def).whole ∙ copies))

            from : IsRead assignments g note d a r → IsRead assignments g note at (Name t) r
            from s = moved (subst (λ i. Definition t d.block (left_at g d.block d.left) (end_at g d.block) i) (front_same (sym here.is ∙ copies)) (definition_at t d local here)) s
