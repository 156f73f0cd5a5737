-- What is left by what is told to go is left by the rule.
use Rattle.std.proofs.Common.{◌≡◌, ℕ, zero, suc, ◌+◌, Bool, true, false, true≢false, Some, List, [], ◌∷◌, ◌++◌, length, refl, sym, ap, ◌∙◌, subst, arith, append_assoc}
use Rattle.std.specs.Prelude.{slice_get}
use Rattle.std.proofs.lemmas.Option.{same_Some, none-some}
use Rattle.places.specs.declared.flow.Assignment.{Assignment}
use Rattle.graph_core.specs.Graphs.{Instruction, Marker, Note, Move, Operate, Truncate, Same, Address, Load, Store, Zero, CopyWords, Call, End, Block, Graph}
use Rattle.graph_core.specs.Uses.{target_of}
use Rattle.pass_law.specs.Kept.{EachFunction, KeepsAllButBlocks}
use Rattle.graph_paths.specs.Reached.{IsReached, AreLed}
use Rattle.graph_paths.proofs.Points.{point_reached, reached_told}
use Rattle.dead_pass_rule.specs.Idle.{IsIdle, idle, Goes}
use Rattle.dead_pass_rule.specs.Certified.{AreIdle}
use Rattle.dead_pass_rule.specs.Removing.{without, StaysAs, same, noted, AreReduced, ends, gone, stays, IsReducedBlock, IsReduced}
use Rattle.dead_pass.specs.Left.{IsLeftAs, stays as left_stays, goes as left_goes, untargeted, noted as left_noted, AreLeft, none as left_none, kept as left_kept, gone as left_gone, IsLeftBlock, AreLeftBlocks, IsLeftGraph}
use Rattle.dead_pass.specs.LeftBy.{IsKeptAs, same as kept_same, noted as kept_noted, AreLeftBy, none, gone as went, kept, IsLeftBlockBy, unreached, reduced, AreLeftBlocksBy}

module _ {assignments : List Assignment} (g : Graph) (goes : (block left : ℕ) → Bool) (are : AreIdle assignments g goes) (led : ℕ → Bool) (reached : AreLed g.blocks led) where
  not_goes : (n : ℕ) (b : Block) (before rest : List Instruction) (i : Instruction) → slice_get g.blocks n ≡ Some b → b.instructions ≡ before ++ i ∷ rest → goes n (length rest) ≡ false → Goes assignments g n (i ∷ rest) b.end → ⊥
  not_goes n b before rest i at parts staying is = true≢false (sym ((are.goes n b before rest i at parts).1 is) ∙ staying)

  -- what is left of the instructions of a block that a path reaches
  left_reduced : (n : ℕ) (b : Block) → slice_get g.blocks n ≡ Some b → led n ≡ true → {rest left : List Instruction} → AreLeftBy (goes n) rest left → (before : List Instruction) → b.instructions ≡ before ++ rest → AreReduced assignments g n b.end rest left
  left_reduced n b at way none before parts = ends
  left_reduced n b at way (went {i} {rest} {left} going more) before parts =
      let whole : b.instructions ≡ (before ++ i ∷ []) ++ rest = parts ∙ sym (append_assoc before (i ∷ []) rest) in
      gone ((are.goes n b before rest i at parts).0 going) (left_reduced n b at way more (before ++ i ∷ []) whole)
  left_reduced n b at way (kept {i} {j} {rest} {left} staying is_kept more) before parts =
      let whole : b.instructions ≡ (before ++ i ∷ []) ++ rest = parts ∙ sym (append_assoc before (i ∷ []) rest) in
      stays (not_goes n b before rest i at parts staying) (stays_as i j is_kept (point_reached g led reached n b before (i ∷ rest) at parts way)) (left_reduced n b at way more (before ++ i ∷ []) whole)
    where
      stays_as : (k l : Instruction) → IsKeptAs k l → IsReached g n (k ∷ rest) b.end → StaysAs g n rest b.end k l
      stays_as k l kept_same r = same
      stays_as k l kept_noted r = noted r

  -- where none goes all is left
  all_left : (n : ℕ) (b : Block) → slice_get g.blocks n ≡ Some b → ((left : ℕ) → goes n left ≡ false) → (before rest : List Instruction) → b.instructions ≡ before ++ rest → AreReduced assignments g n b.end rest rest
  all_left n b at staying before [] parts = ends
  all_left n b at staying before (i ∷ rest) parts =
      let whole : b.instructions ≡ (before ++ i ∷ []) ++ rest = parts ∙ sym (append_assoc before (i ∷ []) rest) in
      stays (not_goes n b before rest i at parts (staying (length rest))) same (all_left n b at staying (before ++ i ∷ []) rest whole)

  -- and where no path comes
  unreached_left : (n : ℕ) (b : Block) → slice_get g.blocks n ≡ Some b → led n ≡ false → (before rest : List Instruction) → b.instructions ≡ before ++ rest → AreReduced assignments g n b.end rest rest
  unreached_left n b at none_comes before [] parts = ends
  unreached_left n b at none_comes before (i ∷ rest) parts =
      let whole : b.instructions ≡ (before ++ i ∷ []) ++ rest = parts ∙ sym (append_assoc before (i ∷ []) rest) in
      stays (λ is. true≢false (sym (reached_told g led reached is.reached) ∙ none_comes)) same (unreached_left n b at none_comes (before ++ i ∷ []) rest whole)

  block_reduced : (n : ℕ) (b c : Block) → slice_get g.blocks n ≡ Some b → IsLeftBlockBy goes led n b c → IsReducedBlock assignments g n b c
  block_reduced n b _ at (unreached none_comes) = record { place = refl; end = refl; instructions = unreached_left n b at none_comes [] b.instructions refl }
  block_reduced n b _ at (reduced {left} way more) = record { place = refl; end = refl; instructions = left_reduced n b at way more [] refl }

  -- the blocks one by one
  block_at : (from : ℕ) (before after : List Block) → AreLeftBlocksBy goes led from before after → (n : ℕ) (b c : Block) → slice_get before n ≡ Some b → slice_get after n ≡ Some c → IsLeftBlockBy goes led (from + n) b c
  block_at from [] after all n b c at there = absurd (none-some b at)
  block_at from (d ∷ before) [] all n b c at there = absurd all
  block_at from (d ∷ before) (f ∷ after) all zero b c at there =
      let one : d ≡ b = same_Some d b at in
      let two : f ≡ c = same_Some f c there in
      let z : from ≡ from + 0 = omega arith in
      subst (λ k. IsLeftBlockBy goes led k b c) z (subst (λ y. IsLeftBlockBy goes led from b y) two (subst (λ y. IsLeftBlockBy goes led from y f) one all.0))
  block_at from (d ∷ before) (f ∷ after) all (suc n) b c at there =
      let z : (from + 1) + n ≡ from + suc n = omega arith in
      subst (λ k. IsLeftBlockBy goes led k b c) z (block_at (from + 1) before after all.1 n b c at there)

  count : (from : ℕ) (before after : List Block) → AreLeftBlocksBy goes led from before after → length after ≡ length before
  count from [] [] all = refl
  count from [] (c ∷ after) all = absurd all
  count from (b ∷ before) [] all = absurd all
  count from (b ∷ before) (c ∷ after) all = ap suc (count (from + 1) before after all.1)

  -- Blocks of which that is left are those of the graph after.
  pub graph_reduced : (after : List Block) → AreLeftBlocksBy goes led 0 g.blocks after → IsReduced assignments g (record g { blocks = after })
  graph_reduced after all = record {
    rest = refl;
    count = count 0 g.blocks after all;
    blocks = λ n b c at there. (let z : 0 + n ≡ n = omega arith in block_reduced n b c at (subst (λ k. IsLeftBlockBy goes led k b c) z (block_at 0 g.blocks after all n b c at there)));
  }

  -- A graph of which nothing goes.
  pub graph_stays : ((n left : ℕ) → goes n left ≡ false) → IsReduced assignments g g
  graph_stays staying = record {
    rest = refl;
    count = refl;
    blocks = λ n b c at there. (let same_block : b ≡ c = same_Some b c (sym at ∙ there) in
        subst (λ d. IsReducedBlock assignments g n b d) same_block (record { place = refl; end = refl; instructions = all_left n b at (staying n) [] b.instructions refl }));
  }

-- WHAT MAY BE LEFT follows from what is.
target_idle : {assignments : List Assignment} → {g : Graph} {n : ℕ} {i : Instruction} {rest : List Instruction} {e : End} → IsIdle assignments g n (i ∷ rest) e → (x : ℕ) × (target_of i ≡ Some x)
target_idle (idle {n} {i} {rest} {e} {p} {x} stood target may computed read_by) = (x, target)

gone_left : (i : Instruction) (x : ℕ) (rest left : List Instruction) → target_of i ≡ Some x → AreLeft rest left → AreLeft (i ∷ rest) (without i ++ left)
gone_left (Marker p) x rest left target more = absurd (none-some x target)
gone_left (Note y v) x rest left target more = absurd (none-some x target)
gone_left (Move y a) x rest left target more = left_gone (left_goes refl) more
gone_left (Operate y o a b) x rest left target more = left_gone (left_goes refl) more
gone_left (Truncate y t a) x rest left target more = left_gone (left_goes refl) more
gone_left (Same y a b) x rest left target more = left_gone (left_goes refl) more
gone_left (Address y object) x rest left target more = left_gone (left_goes refl) more
gone_left (Load y e l) x rest left target more = left_gone (left_goes refl) more
gone_left (Store e l a) x rest left target more = absurd (none-some x target)
gone_left (Zero object words) x rest left target more = absurd (none-some x target)
gone_left (CopyWords object bytes words) x rest left target more = absurd (none-some x target)
gone_left (Call y f all) x rest left target more = left_kept untargeted more

instructions_left : {assignments : List Assignment} → {g : Graph} {n : ℕ} {e : End} {rest left : List Instruction} → AreReduced assignments g n e rest left → AreLeft rest left
instructions_left ends = left_none
instructions_left (gone {i} {rest} {after} goes more) = (let t = target_idle goes.idle in gone_left i t.0 rest after t.1 (instructions_left more))
instructions_left (stays {i} {j} {rest} {after} never is_kept more) = left_kept (stays_left is_kept) (instructions_left more)
  where
    stays_left : {g : Graph} {n : ℕ} {rest : List Instruction} {e : End} {k l : Instruction} → StaysAs g n rest e k l → IsLeftAs k (Some l)
    stays_left same = left_stays
    stays_left (noted r) = left_noted

block_left : {assignments : List Assignment} → {g : Graph} {n : ℕ} {b c : Block} → IsReducedBlock assignments g n b c → IsLeftBlock b c
block_left is = record { place = is.place; end = is.end; instructions = instructions_left is.instructions }

blocks_left : {assignments : List Assignment} → (g : Graph) (from : ℕ) (before after : List Block) → length after ≡ length before → ((n : ℕ) (b c : Block) → slice_get before n ≡ Some b → slice_get after n ≡ Some c → IsReducedBlock assignments g (from + n) b c) → AreLeftBlocks before after
blocks_left g from [] [] e are = tt
blocks_left g from [] (c ∷ after) e are = absurd (omega (arith, e))
blocks_left g from (b ∷ before) [] e are = absurd (omega (arith, e))
blocks_left {assignments} g from (b ∷ before) (c ∷ after) e are = (
  block_left (are 0 b c refl refl),
  blocks_left g (from + 1) before after (omega (arith, e)) (λ n d f at there. (let z : from + suc n ≡ (from + 1) + n = omega arith in subst (λ k. IsReducedBlock assignments g k d f) z (are (suc n) d f at there))),
)

graph_left : {assignments : List Assignment} → (g h : Graph) → IsReduced assignments g h → IsLeftGraph g h
graph_left {assignments} g h r = record {
  keeps = record {
    function = record {
      entry = ap (λ (x : Graph). x.entry) r.rest;
      parameters = ap (λ (x : Graph). x.parameters) r.rest;
      scalars = ap (λ (x : Graph). x.scalars) r.rest;
      objects = ap (λ (x : Graph). x.objects) r.rest;
      first_moved = ap (λ (x : Graph). x.first_moved) r.rest;
    };
    names = ap (λ (x : Graph). x.name_count) r.rest;
    blocks = r.count;
  };
  blocks = blocks_left g 0 g.blocks h.blocks r.count (λ n b c at there. (let z : n ≡ 0 + n = omega arith in subst (λ k. IsReducedBlock assignments g k b c) z (r.blocks n b c at there)));
}

-- functions of which that is left that the rule leaves
pub each_left : (assignments : List Assignment) (gs hs : List Graph) → EachFunction (IsReduced assignments) gs hs → EachFunction IsLeftGraph gs hs
each_left assignments [] [] all = tt
each_left assignments [] (h ∷ hs) all = absurd all
each_left assignments (g ∷ gs) [] all = absurd all
each_left assignments (g ∷ gs) (h ∷ hs) all = (graph_left g h all.0, each_left assignments gs hs all.1)

pub each_keeps : (assignments : List Assignment) (gs hs : List Graph) → EachFunction (IsReduced assignments) gs hs → EachFunction KeepsAllButBlocks gs hs
each_keeps assignments [] [] all = tt
each_keeps assignments [] (h ∷ hs) all = absurd all
each_keeps assignments (g ∷ gs) [] all = absurd all
each_keeps assignments (g ∷ gs) (h ∷ hs) all = ((graph_left g h all.0).keeps, each_keeps assignments gs hs all.1)
