-- Points that paths reach, by the blocks to which ways lead.
use Rattle.std.proofs.Common.{◌≡◌, ℕ, Bool, true, Some, List, [], ◌∷◌, ◌++◌, length, refl, sym, ◌∙◌, subst, append_assoc}
use Rattle.std.specs.Prelude.{slice_get}
use Rattle.std.proofs.lemmas.Option.{slice_get_within}
use Rattle.graph_core.specs.declared.value.Value.{Value}
use Rattle.graph_core.specs.declared.value.Value.TheVariants.{Odd}
use Rattle.graph_core.specs.Graphs.{Instruction, End, Block, Graph}
use Rattle.graph_core.specs.Uses.{targets_of}
use Rattle.graph_core.specs.Paths.{History, Among, Way, stays, passes, goes, Path, path}
use Rattle.graph_paths.specs.Reached.{IsReached, IsLed, entry, leads, AreLed}
use Rattle.base_laws.proofs.Lists.{append_nil}

module _ {g : Graph} where
  pub reached_behind : {n : ℕ} {i : Instruction} {rest : List Instruction} {e : End} → IsReached g n (i ∷ rest) e → Value → IsReached g n rest e
  reached_behind {n} {i} {rest} r v = behind r.path
    where
      behind : {h : History} {f : End} → Path g h n (i ∷ rest) f → IsReached g n rest f
      behind {h} (path b at way) = record { history = record { block = n; left = length rest; instruction = i; wrote = v } ∷ h; path = path b at (passes way v) }

  pub reached_next : {n l : ℕ} {e : End} → IsReached g n [] e → Among l (targets_of e) → (b : Block) → slice_get g.blocks l ≡ Some b → IsReached g l b.instructions b.end
  reached_next {n} {l} r to c there = next r.path to
    where
      next : {h : History} {f : End} → Path g h n [] f → Among l (targets_of f) → IsReached g l c.instructions c.end
      next {h} (path b at way) among = record { history = h; path = path b at (goes way among c there) }

  -- what a way comes to from a reached point is reached
  pub reached_on : {n : ℕ} {rest : List Instruction} {e : End} → IsReached g n rest e → {h : History} {m : ℕ} {left : List Instruction} {f : End} → Way g n rest e h m left f → IsReached g m left f
  reached_on r stays = r
  reached_on r (passes way v) = reached_behind (reached_on r way) v
  reached_on r (goes way to b at) = reached_next (reached_on r way) to b at

  -- and so is what is left of a block
  pub reached_along : (n : ℕ) (before rest : List Instruction) (e : End) → IsReached g n (before ++ rest) e → IsReached g n rest e
  reached_along n [] rest e r = r
  reached_along n (i ∷ before) rest e r = reached_along n before rest e (reached_behind r Odd)

module _ (g : Graph) where
  -- where a way leads, a path comes
  pub led_reached : {n : ℕ} → IsLed g.blocks n → (b : Block) → slice_get g.blocks n ≡ Some b → IsReached g n b.instructions b.end
  led_reached entry b at = record { history = []; path = path b at stays }
  led_reached (leads {n} c led there to) b at =
      let came : IsReached g n c.instructions c.end = led_reached led c there in
      let whole : IsReached g n (c.instructions ++ []) c.end = subst (λ l. IsReached g n l c.end) (sym (append_nil c.instructions)) came in
      reached_next (reached_along n c.instructions [] c.end whole) to b at

  module _ (led : ℕ → Bool) (are : AreLed g.blocks led) where
    -- a point of a block to which a way leads is reached
    pub point_reached : (n : ℕ) (b : Block) (before rest : List Instruction) → slice_get g.blocks n ≡ Some b → b.instructions ≡ before ++ rest → led n ≡ true → IsReached g n rest b.end
    point_reached n b before rest at parts way =
        reached_along n before rest b.end (subst (λ l. IsReached g n l b.end) parts (led_reached (are.is_led n way) b at))

    -- A point that a path comes to: where it stands.
    pub record IsAt (n : ℕ) (rest : List Instruction) (e : End) : Type 0 where
      pub block : Block
      pub before : List Instruction
      pub is : slice_get g.blocks n ≡ Some block
      pub instructions : block.instructions ≡ before ++ rest
      pub ends : e ≡ block.end
      pub told : led n ≡ true

    module _ (first : Block) (at_first : slice_get g.blocks 0 ≡ Some first) where
      way_at : {h : History} {n : ℕ} {rest : List Instruction} {e : End} → Way g 0 first.instructions first.end h n rest e → IsAt n rest e
      way_at stays = record { block = first; before = []; is = at_first; instructions = refl; ends = refl; told = are.first }
      way_at (passes {h} {n} {i} {left} {e} way v) =
          let s : IsAt n (i ∷ left) e = way_at way in
          record { block = s.block; before = s.before ++ i ∷ []; is = s.is; instructions = s.instructions ∙ sym (append_assoc s.before (i ∷ []) left); ends = s.ends; told = s.told }
      way_at (goes {h} {n} {l} {e} way to b at) =
          let s : IsAt n [] e = way_at way in
          let among : Among l (targets_of s.block.end) = subst (λ f. Among l (targets_of f)) s.ends to in
          record { block = b; before = []; is = at; instructions = refl; ends = refl; told = are.leads_on n s.block l s.is s.told among (slice_get_within g.blocks l b at) }

    pub path_at : {h : History} {n : ℕ} {rest : List Instruction} {e : End} → Path g h n rest e → IsAt n rest e
    path_at (path b at way) = way_at b at way

    -- a block of which a point is reached is told
    pub reached_told : {n : ℕ} {rest : List Instruction} {e : End} → IsReached g n rest e → led n ≡ true
    reached_told r = (path_at r.path).told
