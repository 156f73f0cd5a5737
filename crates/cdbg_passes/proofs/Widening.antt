-- Instructions as code motion leaves them: each stays, and between them new ones write names that the graph had not.
use Rattle.std.proofs.Common.{◌≡◌, ℕ, suc, ◌≤◌, Option, Some, None, List, [], ◌∷◌, ◌++◌, refl, sym, ◌∙◌, subst, arith, append_assoc}
use Rattle.std.specs.List.{AllByRecursion}
use Rattle.std.proofs.lemmas.Option.{none-some}
use Rattle.graph_core.specs.Graphs.{Instruction, Marker, Note, Move, Operate, Truncate, Same, Address, Load, Store, Zero, CopyWords, Call, End, Block}
use Rattle.graph_core.specs.Uses.{marker_of, target_of}
use Rattle.graph_core.specs.Computations.{Computation, Operating, Truncating, Comparing, computed_by}
use Rattle.graph_core.specs.Validity.{place_behind}
use Rattle.base_laws.proofs.Lists.{append_nil}
use Rattle.pass_law.specs.Earned.{Widens, none, stays, puts}
use Rattle.motion_pass_points.specs.Ways.{Point, within}
use Rattle.motion_pass_points.specs.MotionPointsComputing.{doing}
use Rattle.motion_pass_placement.specs.Moving.{AreDoneAt, no_computation, one_done, one_passed, AreMoved, no_more, one_more, Becomes, stays as becomes_itself, reads}
use Rattle.cdbg_passes.proofs.NoDead.{place_kept, place_on}

-- ---- Instructions

-- An instruction writes a name, from this one on.
abbrev pub PutsFrom : (first : ℕ) → Instruction → Type 0
PutsFrom first i = (t : ℕ) × (target_of i ≡ Some t) × (first ≤ t)

-- An instruction that does a computation writes its name, and computes it.
pub doing_target : (x : ℕ) (e : Computation) → target_of (doing x e) ≡ Some x
doing_target x (Operating o a b) = refl
doing_target x (Truncating t a) = refl
doing_target x (Comparing a b) = refl

pub doing_computes : (x : ℕ) (e : Computation) → computed_by (doing x e) ≡ Some e
doing_computes x (Operating o a b) = refl
doing_computes x (Truncating t a) = refl
doing_computes x (Comparing a b) = refl

-- what writes a name begins no place
unmarked : (i : Instruction) (x : ℕ) → target_of i ≡ Some x → marker_of i ≡ None
unmarked (Marker p) x target = absurd (none-some x target)
unmarked (Note y v) x target = absurd (none-some x target)
unmarked (Move y a) x target = refl
unmarked (Operate y o a b) x target = refl
unmarked (Truncate y t a) x target = refl
unmarked (Same y a b) x target = refl
unmarked (Address y object) x target = refl
unmarked (Load y s l) x target = refl
unmarked (Store s l a) x target = absurd (none-some x target)
unmarked (Zero object words) x target = absurd (none-some x target)
unmarked (CopyWords object bytes words) x target = absurd (none-some x target)
unmarked (Call y f all) x target = refl

module _ (blocks : List Block) (first : ℕ) (treated : List Computation) where
  -- What becomes of an instruction writes the same,
  pub becomes_target : (p : Point) (i j : Instruction) → Becomes blocks first treated p i j → target_of j ≡ target_of i
  becomes_target p i _ (becomes_itself not) = refl
  becomes_target p i _ (reads e k x read at target) = sym target

  -- begins the same place,
  becomes_marker : (p : Point) (i j : Instruction) → Becomes blocks first treated p i j → marker_of j ≡ marker_of i
  becomes_marker p i _ (becomes_itself not) = refl
  becomes_marker p i _ (reads e k x read at target) = sym (unmarked i x target)

  -- and leaves the same one in force.
  pub becomes_place : (p : Point) (i j : Instruction) (o : Option ℕ) → Becomes blocks first treated p i j → place_behind (j ∷ []) o ≡ place_behind (i ∷ []) o
  becomes_place p i _ o (becomes_itself not) = refl
  becomes_place p i _ o (reads e k x read at target) = sym (place_kept i x o target)

  -- ---- What is done

  -- What is done at a point writes names from the first on.
  pub done_puts : (p : Point) (name : ℕ) (all : List Computation) (done : List Instruction) → first ≤ name → AreDoneAt blocks p name all done → AllByRecursion (PutsFrom first) done
  done_puts p name _ _ fresh no_computation = tt
  done_puts p name _ _ fresh (one_done {e = e} {more = more} {rest = rest} is are) = ((name, doing_target name e, fresh), done_puts p (suc name) more rest (omega (arith, fresh)) are)
  done_puts p name _ _ fresh (one_passed {more = more} {rest = rest} not are) = done_puts p (suc name) more rest (omega (arith, fresh)) are

  -- So no place begins there.
  pub puts_place : (done : List Instruction) (o : Option ℕ) → AllByRecursion (PutsFrom first) done → place_behind done o ≡ o
  puts_place [] o all = refl
  puts_place (i ∷ done) o all = place_on (i ∷ []) done o ∙ puts_place done (place_behind (i ∷ []) o) all.1 ∙ place_kept i all.0.0 o all.0.1

  -- ---- Wider lists

  pub puts_before : (done before after : List Instruction) → AllByRecursion (PutsFrom first) done → Widens first before after → Widens first before (done ++ after)
  puts_before [] before after all wide = wide
  puts_before (i ∷ done) before after all wide = puts all.0.1 all.0.2 (puts_before done before after all.1 wide)

  pub both_wide : (a b c d : List Instruction) → Widens first a b → Widens first c d → Widens first (a ++ c) (b ++ d)
  both_wide _ _ c d none more = more
  both_wide _ _ c d (stays {before = a} {after = b} target marker wide) more = stays target marker (both_wide a b c d wide more)
  both_wide a _ c d (puts {after = b} target fresh wide) more = puts target fresh (both_wide a b c d wide more)

  -- What becomes of an instruction is in its place.
  pub becomes_wide : (p : Point) (i j : Instruction) (before after : List Instruction) → Becomes blocks first treated p i j → Widens first before after → Widens first (i ∷ before) (j ∷ after)
  becomes_wide p i j before after becomes wide = stays (becomes_target p i j becomes) (becomes_marker p i j becomes) wide

  -- So it is with what becomes of instructions, with others behind.
  pub moved_wide : (n : ℕ) (end : End) (before moved done : List Instruction) → AreMoved blocks first treated n end before moved → AllByRecursion (PutsFrom first) done → Widens first before (moved ++ done)
  moved_wide n end _ _ done no_more all = subst (λ l. Widens first [] l) (append_nil done) (puts_before done [] [] all none)
  moved_wide n end _ _ done (one_more {i = i} {j = j} {rest = rest} {done = news} {moved = moved} are becomes more) all =
      subst (λ l. Widens first (i ∷ rest) l) (sym (append_assoc news (j ∷ moved) done))
      (puts_before news (i ∷ rest) (j ∷ (moved ++ done)) (done_puts (within n (i ∷ rest) end) first treated news (omega arith) are)
      (becomes_wide (within n (i ∷ rest) end) i j rest (moved ++ done) becomes (moved_wide n end rest moved done more all)))
