-- The blocks of a function's statements and of its closing brace stand in its graph.
use Rattle.std.proofs.Common.{◌≡◌, ℕ, zero, suc, ◌+◌, ◌-◌, Option, Some, None, Bool, true, List, [], ◌∷◌, ◌++◌, length, reverse, slice_get, refl, sym, ap, ◌∙◌, subst, arith, if◌then◌else◌}
use Rattle.std.specs.Prelude.{◌==◌}
use Rattle.c_tree.specs.Programs.{TypedFunctionTree, ProgramTree}
use Rattle.c_places.specs.Flow.{reaches_end}
use Rattle.c_places.specs.Places.{Place, brought_by_body, parameters_of, places_of_function, places_of_program, place_number_at}
use Rattle.c_meaning_steps.specs.declared.event.Frame.{Frame}
use Rattle.c_flow.specs.Flow.{start_of_all, ways_of_body}
use Rattle.graph_core.specs.Graphs as unit
use Rattle.graph_core.specs.Graphs.{Instruction, Marker, Graph, UnitForm, Return as Returning}
use Rattle.graph_core.specs.Memory.{Memory}
use Rattle.graph_core.specs.Runs.{Activation}
use Rattle.graph_build_names.specs.Names.{Names, names_of, scalar_of}
use Rattle.graph_build_steps.specs.Drafts.{Made, ending as ends_with}
use Rattle.graph_build_statements.specs.Coding.{Coding, Part, place_of, going}
use Rattle.graph_build_statements.specs.Forms.{add_all}
use Rattle.graph_build.specs.Units.{note_if, note_parameters, add_close, body_part, function_part, is_again, block_count, function_coding}
use Rattle.graph_build_laws.proofs.Blocks.{blocks_counted}
use Rattle.graph_build_laws.specs.Points.{StandIn}
use Rattle.graph_build_laws.proofs.Ascending.{AllAscend}
use Rattle.graph_build_laws.proofs.GraphMarkingFunctions.{function_heads}
use Rattle.graph_build_laws.proofs.Heads.{head_marker, heads, marks}
use Rattle.graph_build_laws.proofs.Instances.{got_before}
use Rattle.graph_build_laws.proofs.Standing.{stand_behind}
use Rattle.graph_build_runs.proofs.Leads.{size_in}
use Rattle.graph_build_runs.proofs.Later.{some_same}
use Rattle.graph_build_runs.proofs.Standing.{StandsFrom, Stands}
use Rattle.graph_build_runs.proofs.Activities.{Activity, coding_in}
use Rattle.graph_build_runs.proofs.AtPlaces.{Begins}
use Rattle.graph_build_runs.proofs.Outcomes.{There}
use Rattle.graph_build_runs.proofs.Closing.{closing_operand}
use Rattle.graph_build_runs.proofs.Forming.{IsHome, AreHome, PartStands}
use Rattle.graph_build_laws.proofs.Settings.{running, scalars_counted, place_number, entry_number}
use Rattle.graph_build_laws.proofs.Places.{close_is}
use Rattle.graph_build_laws.proofs.Closing.{all_back}

-- inner blocks stand, by their numbers
stands_from : (g : Graph) (top from : ℕ) (inner : List unit.Block) → ((i : ℕ) (b : unit.Block) → slice_get inner i ≡ Some b → slice_get g.blocks (top - (from + i + 1)) ≡ Some b) → StandsFrom g top from inner
stands_from g top from [] h = tt
stands_from g top from (b ∷ more) h =
    let here : from + 0 + 1 ≡ from + 1 = omega arith in
    (subst (λ n. slice_get g.blocks (top - n) ≡ Some b) here (h 0 b refl), stands_from g top (from + 1) more (λ i d e. subst (λ n. slice_get g.blocks (top - n) ≡ Some d) (next i) (h (suc i) d e)))
  where
    next : (i : ℕ) → from + suc i + 1 ≡ from + 1 + i + 1
    next i = omega arith

stands_in : (g : Graph) (top : ℕ) (inner : List unit.Block) → StandIn g.blocks top inner → Stands g top inner
stands_in g top inner h = stands_from g top 0 inner (λ i b e. subst (λ n. slice_get g.blocks (top - n) ≡ Some b) (none i) (h i b e))
  where
    none : (i : ℕ) → i + 1 ≡ 0 + i + 1
    none i = omega arith

-- notes and jumps have no inner blocks of their own
noted_inner : (n : Names) (all : List ℕ) (m : Made) → (note_parameters n all m).inner ≡ m.inner
noted_inner n [] m = refl
noted_inner n (x ∷ more) m = by (scalar_of n x) ∙ noted_inner n more m
  where
    by : (o : Option ℕ) → (note_if n o (note_parameters n more m)).inner ≡ (note_parameters n more m).inner
    by None = refl
    by (Some y) = refl

going_inner : (c : Coding) (next : Option ℕ) (inner : List unit.Block) → (going c next inner).inner ≡ inner
going_inner c None inner = refl
going_inner c (Some to) inner = refl

function_inner : (c : Coding) (tree : TypedFunctionTree) (is_main : Bool) → (function_part c tree is_main).inner ≡ (body_part c tree is_main).inner
function_inner c tree is_main =
    let to = start_of_all tree.body (ways_of_body tree).next in
    let inner = (body_part c tree is_main).inner in noted_inner c.names (parameters_of tree) (going c to inner) ∙ going_inner c to inner

-- blocks at home, by their numbers
all_home : (k : Activity) (xs : List unit.Block) → ((i : ℕ) (b : unit.Block) → slice_get xs i ≡ Some b → IsHome k b) → AreHome k xs
all_home k [] h = tt
all_home k (x ∷ xs) h = (h 0 x refl, all_home k xs (λ i b e. h (suc i) b e))

head_at : (xs : List unit.Block) (i : ℕ) (b : unit.Block) → slice_get xs i ≡ Some b → slice_get (heads xs) i ≡ Some (head_marker b.instructions)
head_at [] i b e = cc
head_at (x ∷ xs) zero b e = ap (λ z. Some (head_marker z.instructions)) (some_same e)
head_at (x ∷ xs) (suc i) b e = head_at xs i b e

block_with : (xs : List unit.Block) (i m : ℕ) → slice_get (heads xs) i ≡ Some m → (b : unit.Block) × (slice_get xs i ≡ Some b)
block_with [] i m e = cc
block_with (x ∷ xs) zero m e = (x, refl)
block_with (x ∷ xs) (suc i) m e = block_with xs i m e

mark_at : (c : Coding) (number : ℕ) (all : List Place) (i : ℕ) (q : Place) → slice_get all i ≡ Some q → slice_get (marks c number all) i ≡ Some (place_of c q.spot.at)
mark_at c number [] i q e = cc
mark_at c number (x ∷ all) zero q e = ap (λ z. Some (place_of c z.spot.at)) (some_same e)
mark_at c number (x ∷ all) (suc i) q e = mark_at c number all i q e

place_with : (c : Coding) (number : ℕ) (all : List Place) (i m : ℕ) → slice_get (marks c number all) i ≡ Some m → (q : Place) × (slice_get all i ≡ Some q) × (place_of c q.spot.at ≡ m)
place_with c number [] i m e = cc
place_with c number (x ∷ all) zero m e = (x, refl, some_same e)
place_with c number (x ∷ all) (suc i) m e = place_with c number all i m e

-- the part that stands before the body: the block of the closing brace, where flow reaches it
abbrev pub closing_of : ProgramTree → (f : ℕ) → TypedFunctionTree → Part
closing_of p f tree = add_close (function_coding p tree (f == p.main)) (f == p.main) (ways_of_body tree).next (record { placed = []; inner = [] })

module _ (p : ProgramTree) (u : UnitForm) (f : ℕ) (tree : TypedFunctionTree) (is : slice_get p.functions f ≡ Some tree) (ascend : AllAscend (places_of_program p)) (first : ℕ) (ws : List Activation) (objects : Memory) (frames : List Frame) (left : ℕ) where
  abbrev k : Activity
  k = running p u f tree first ws objects frames left

  abbrev main : Bool
  main = f == p.main

  abbrev c : Coding
  c = function_coding p tree main

  abbrev placed : List unit.Block
  placed = (function_part c tree main).placed

  abbrev inner : List unit.Block
  inner = (function_part c tree main).inner

  inner_stand : Stands k.setting.graph k.setting.top (body_part c tree main).inner
  inner_stand =
      let counted = blocks_counted p tree main in
      subst (λ l. Stands k.setting.graph k.setting.top l) (function_inner c tree main) (subst (λ n. Stands k.setting.graph n inner) counted (stands_in k.setting.graph (length (placed ++ reverse inner)) inner (stand_behind placed inner)))

  -- the block of a number has the marker of that place
  index_home : (i : ℕ) (b : unit.Block) → slice_get placed i ≡ Some b → IsHome k b
  index_home i b e place ops shape =
      let marked : slice_get (heads placed) i ≡ Some place = head_at placed i b e ∙ ap (λ l. Some (head_marker l)) shape in
      let r = place_with c f (places_of_function f tree) i place (ap (λ l. slice_get l i) (sym (function_heads c f tree main)) ∙ marked) in
      let number = place_number p f tree is ascend i r.0 r.1 in
      let at : place_number_at (places_of_program p) r.0.spot.at ≡ place = r.2 in
      let same : i ≡ place - place_number_at (places_of_program p) tree.spot.at = omega (arith, number, at, entry_number p f tree is ascend) in
      subst (λ j. slice_get (placed ++ reverse inner) j ≡ Some b) same (got_before placed (reverse inner) i b e)

  body_home : AreHome k (body_part c tree main).placed
  body_home = (all_home k placed index_home).1

  -- each place of the function has its block
  pub block_there : (i : ℕ) (q : Place) → slice_get (places_of_function f tree) i ≡ Some q → There k (Some q.spot.at)
  block_there i q e =
      let marked = ap (λ l. slice_get l i) (function_heads c f tree main) ∙ mark_at c f (places_of_function f tree) i q e in
      let b = block_with placed i (place_of c q.spot.at) marked in
      let same : i ≡ place_number_at (places_of_program p) q.spot.at - place_number_at (places_of_program p) tree.spot.at = omega (arith, place_number p f tree is ascend i q e, entry_number p f tree is ascend) in
      (b.0, subst (λ j. slice_get (placed ++ reverse inner) j ≡ Some b.0) same (got_before placed (reverse inner) i b.0 b.1))

  abbrev closing_part : Part
  closing_part = closing_of p f tree

  -- what the code stands on, with so many scalars
  abbrev with_scalars : ℕ → Coding
  with_scalars n = record {
    names = names_of p tree (is_again p tree);
    program = p;
    places = places_of_program p;
    entry = place_number_at (places_of_program p) tree.spot.at;
    scalars = n;
    top = block_count p tree main;
  }

  -- The blocks of the body stand behind those of the closing brace.
  pub body_stands : PartStands k (add_all (coding_in k) tree.body (size_in k.setting) (ways_of_body tree) closing_part)
  body_stands = subst (λ n. PartStands k (add_all (with_scalars n) tree.body n (ways_of_body tree) closing_part)) (sym (scalars_counted p tree main)) (inner_stand, body_home)

  -- The block of the closing brace stands, where flow reaches it.
  pub close_begins : reaches_end tree.body ≡ true → Begins k (parameters_of tree ++ brought_by_body tree.body) tree.close.at (λ t i. ends_with (Returning (closing_operand main)) i)
  close_begins e =
      let next : (ways_of_body tree).next ≡ Some tree.close.at = ap (λ b. if b then Some tree.close.at else None) e in
      let home = all_back k c tree.body c.scalars (ways_of_body tree) closing_part body_home in
      let closes = subst (λ o. AreHome k (add_close c main o (record { placed = []; inner = [] })).placed) next home in
      record { free = size_in k.setting; size = omega arith; inner = []; stands = tt; block = closes.0 (place_of c tree.close.at) [] refl; here = close_is p u f tree is ascend first ws objects frames left e }
