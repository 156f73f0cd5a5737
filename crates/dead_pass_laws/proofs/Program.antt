-- The removal of dead assignments keeps the program of a unit.
use Rattle.std.proofs.Common.{◌≡◌, ℕ, suc, Some, List, [], ◌∷◌, ◌++◌, length, map, refl, sym, ap, ◌∙◌, subst, arith}
use Rattle.std.specs.Prelude.{slice_get}
use Rattle.event_runs.specs.Agreement.{Pairs}
use Rattle.debug_records.specs.declared.change.PassName.{PassName}
use Rattle.debug_records.specs.declared.change.Kind.TheVariants.{Removed}
use Rattle.places.specs.declared.flow.Assignment.{Assignment}
use Rattle.graph_core.specs.Graphs.{Instruction, Marker, Block, End, Graph, UnitForm}
use Rattle.graph_core.specs.Paths.{Among}
use Rattle.graph_core.specs.Validity.{markers_in, markers_of_blocks}
use Rattle.pass_law.specs.Changes.{AddsChangesOf, logged_as}
use Rattle.pass_law.specs.Kept.{EachFunction, ShareTheSame}
use Rattle.dead_pass_rule.specs.Removing.{without, StaysAs, same, noted, AreReduced, ends, gone, stays, IsReduced}
use Rattle.pass_law.specs.Keeps.{SameFunction, SameProgram}
use Rattle.dead_pass_notes.specs.Writes.{IsRemovedWrite}
use Rattle.dead_pass_laws.proofs.Instructions.{GoesAs, computed, called, goes_as, computed_plain}

-- ---- Markers of blocks

-- No marker goes.
going_markers : (i : Instruction) (rest others : List Instruction) → GoesAs i → markers_in others ≡ markers_in rest → markers_in (without i ++ others) ≡ markers_in (i ∷ rest)
going_markers i rest others (computed is) one = ap (λ l. markers_in (l ++ others)) (computed_plain i is).left ∙ one ∙ sym ((computed_plain i is).markers rest)
going_markers _ rest others called one = one

module _ (g : Graph) (n : ℕ) (e : End) where
  -- What is left of one that stays has the same markers.
  staying_markers : {i j : Instruction} (rest behind others : List Instruction) → StaysAs g n behind e i j → markers_in others ≡ markers_in rest → markers_in (j ∷ others) ≡ markers_in (i ∷ rest)
  staying_markers rest behind others (same {i}) one = marker_same i one
    where
      marker_same : (i : Instruction) → markers_in others ≡ markers_in rest → markers_in (i ∷ others) ≡ markers_in (i ∷ rest)
      marker_same (Marker p) one = ap (λ l. p ∷ l) one
      marker_same _ one = one
  staying_markers rest behind others (noted reached) one = one

module _ {assignments : List Assignment} (g : Graph) (n : ℕ) (e : End) where
  -- What is left of instructions has the same markers.
  reduced_markers : (xs ys : List Instruction) → AreReduced assignments g n e xs ys → markers_in ys ≡ markers_in xs
  reduced_markers xs ys ends = refl
  reduced_markers xs ys (gone {i} {rest} {after = others} it_goes more) = going_markers i rest others (goes_as g n i rest e it_goes) (reduced_markers rest others more)
  reduced_markers xs ys (stays {i} {j} {rest} {after = others} stay is more) = staying_markers g n e rest rest others is (reduced_markers rest others more)

-- Blocks that have the same markers one by one have the same together.
blocks_markers : (bs cs : List Block) → length cs ≡ length bs → ((n : ℕ) (b c : Block) → slice_get bs n ≡ Some b → slice_get cs n ≡ Some c → markers_in c.instructions ≡ markers_in b.instructions) → markers_of_blocks cs ≡ markers_of_blocks bs
blocks_markers [] [] count each = refl
blocks_markers [] (c ∷ cs) count each = absurd (omega (arith, count))
blocks_markers (b ∷ bs) [] count each = absurd (omega (arith, count))
blocks_markers (b ∷ bs) (c ∷ cs) count each =
    ap (λ l. l ++ markers_of_blocks cs) (each 0 b c refl refl) ∙ ap (λ l. markers_in b.instructions ++ l) (blocks_markers bs cs (omega (arith, count)) (λ n x y at there. each (suc n) x y at there))

-- ---- Functions

-- What is made of a function is of that function.
same_function : {assignments : List Assignment} → (g h : Graph) → IsReduced assignments g h → SameFunction g h
same_function g h made =
    let marks : markers_of_blocks h.blocks ≡ markers_of_blocks g.blocks =
    blocks_markers g.blocks h.blocks made.count (λ n b c at there. reduced_markers g n b.end b.instructions c.instructions (made.blocks n b c at there).instructions) in
    record {
      entry = ap (λ (k : Graph). k.entry) made.rest;
      parameters = ap (λ (k : Graph). k.parameters) made.rest;
      scalars = ap (λ (k : Graph). k.scalars) made.rest;
      objects = ap (λ (k : Graph). k.objects) made.rest;
      markers = λ p. (λ m. subst (λ ps. Among p ps) (sym marks) m, λ m. subst (λ ps. Among p ps) marks m);
    }

-- So it is of all.
same_functions : (assignments : List Assignment) (gs hs : List Graph) → EachFunction (IsReduced assignments) gs hs → Pairs SameFunction gs hs
same_functions assignments [] [] made = tt
same_functions assignments [] (h ∷ hs) made = absurd made
same_functions assignments (g ∷ gs) [] made = absurd made
same_functions assignments (g ∷ gs) (h ∷ hs) made = (same_function g h made.0, same_functions assignments gs hs made.1)

-- THE REMOVAL OF DEAD ASSIGNMENTS KEEPS THE PROGRAM. Where just the writes are gone that go, a change is logged for each write of a variable that went, and what functions share is the same, the unit
-- after is of the same program.
pub removed_program : (u v : UnitForm) → ShareTheSame u v → (pass : PassName) → AddsChangesOf pass Removed (λ before after. IsRemovedWrite u.assignments before) u v → EachFunction (IsReduced u.assignments) u.graphs v.graphs → SameProgram u v
removed_program u v shared pass adds made = record {
  main = shared.main;
  statics = shared.statics;
  array_bytes = shared.array_bytes;
  steps = shared.steps;
  assignments = shared.assignments;
  room = shared.room;
  added = map (logged_as pass Removed) adds.cases;
  log = adds.log;
  functions = same_functions u.assignments u.graphs v.graphs made;
}
