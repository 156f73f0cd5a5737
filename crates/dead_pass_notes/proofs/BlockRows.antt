-- Rows of names that are stale, block by block.
use Rattle.std.proofs.Common.{◌≡◌, ◌≢◌, ℕ, suc, ◌+◌, ◌-◌, ◌<◌, ◌≤◌, Bool, true, false, true≢false, Option, Some, List, [], ◌∷◌, ◌++◌, length, get_or, take, map, sym, ap, ◌∙◌, subst, append-nil, inl, inr, ◌⊎◌, arith}
use Rattle.std.specs.Prelude.{if◌then◌else◌, slice_get}
use Rattle.std.proofs.lemmas.Bool.{cases_eq}
use Rattle.std.proofs.lemmas.List.{get_or-map, length-map, take_all, take_more}
use Rattle.std.proofs.lemmas.Option.{slice_get_within}
use Rattle.places.specs.declared.flow.Assignment.{Assignment}
use Rattle.graph_core.specs.Graphs.{Instruction, End, Block, Graph}
use Rattle.graph_core.specs.Uses.{target_of, targets_of}
use Rattle.graph_core.specs.Paths.{Among, goes, Path, path, writes}
use Rattle.graph_paths.specs.declared.marks.Marks.{Marks}
use Rattle.graph_paths.specs.Reached.{AreLed}
use Rattle.graph_paths.specs.PathMarksTable.{bits_of}
use Rattle.graph_paths.proofs.Points.{point_reached}
use Rattle.dead_pass_rule.specs.Certified.{AreIdle}
use Rattle.dead_pass_rule.specs.Walks.{AreSameBut, is_written}
use Rattle.dead_pass_notes.specs.Stale.{ComesStale}
use Rattle.dead_pass_notes.specs.Rows.{stale_behind, stale_past, going_stale, IsStaleAt, TellsOn}
use Rattle.graph_paths.specs.Flood.{Bits, Flows, IsBrought, begun, handed, AreSettled}
use Rattle.dead_pass_notes.proofs.Points.{stale_more, told_so}

-- a walk goes on over one instruction
pub walk_more : {A : Type 0} (view : A → Instruction) (xs : List A) (k : ℕ) (i d : A) (x : ℕ) (going : ℕ → Bool) (was gone now : Bool) (target : Option ℕ) → k < length xs → i ≡ get_or xs k d → target ≡ target_of (view i) → gone ≡ going (length xs - 1 - k)
    → now ≡ stale_behind going x was (take k (map view xs)) (length xs - k) → (if is_written x target then gone else now) ≡ stale_behind going x was (take (k + 1) (map view xs)) (length xs - (k + 1))
walk_more view xs k i d x going was gone now target lt is to gives so_far =
    let there : get_or (map view xs) k (view d) ≡ view i = get_or-map view xs k d (view d) lt ∙ ap view (sym is) in
    let inside : k < length (map view xs) = omega (arith, lt, length-map xs view) in
    let one : length xs - 1 - k ≡ length xs - (k + 1) = omega (arith, lt) in
    let left : length xs - k ≡ suc (length xs - (k + 1)) = omega (arith, lt) in
    ap (λ t. if is_written x t then gone else now) to
    ∙ ap (λ b. if writes x (view i) then b else now) (gives ∙ ap going one)
    ∙ ap (λ b. if writes x (view i) then going (length xs - (k + 1)) else b) (so_far ∙ ap (stale_behind going x was (take k (map view xs))) left)
    ∙ sym (stale_more going x was (take k (map view xs)) (view i) (length xs - (k + 1)))
    ∙ ap (λ a. stale_behind going x was (take k (map view xs) ++ a ∷ []) (length xs - (k + 1))) (sym there)
    ∙ ap (λ l. stale_behind going x was l (length xs - (k + 1))) (sym (take_more (map view xs) k (view d) inside))

-- a walk over a whole block
pub walk_done : (all : List Instruction) (n k x : ℕ) (going : ℕ → Bool) (was now : Bool) → n ≡ length all → n ≤ k → now ≡ stale_behind going x was (take k all) (n - k) → now ≡ stale_behind going x was all 0
walk_done all n k x going was now whole past so_far =
    let none : n - k ≡ 0 = omega (arith, past) in
    let over : length all ≤ k = omega (arith, whole, past) in
    so_far ∙ ap (stale_behind going x was (take k all)) none ∙ ap (λ l. stale_behind going x was l 0) (take_all k all over)

module _ {assignments : List Assignment} (g : Graph) where
  -- what comes stale to the end of a block comes so where it leads
  pub stale_on : (x n l : ℕ) (e : End) (c : Block) → ComesStale assignments g x n [] e → Among l (targets_of e) → slice_get g.blocks l ≡ Some c → ComesStale assignments g x l c.instructions c.end
  stale_on x n l e c s to at = step s.path
    where
      step : Path g s.history n [] e → ComesStale assignments g x l c.instructions c.end
      step (path b there way) = record { history = s.history; path = path b there (goes way to c at); stale = s.stale }

  module _ (going : (block left : ℕ) → Bool) (are : AreIdle assignments g going) (led : ℕ → Bool) (leads : AreLed g.blocks led) (names n : ℕ) (b : Block) (at : slice_get g.blocks n ≡ Some b) (way : led n ≡ true) where
    -- what is stale at the end of a block
    stale_at_end : (x : ℕ) (was : Bool) → (was ≡ true → ComesStale assignments g x n b.instructions b.end) → stale_behind (going n) x was b.instructions 0 ≡ true → ComesStale assignments g x n [] b.end
    stale_at_end x was so told =
        let whole : b.instructions ++ [] ≡ b.instructions = append-nil b.instructions in
        told_so g going are x n b at [] b.instructions [] was (sym whole) (point_reached g led leads n b [] (b.instructions ++ []) at (sym whole) way)
        (λ e. subst (λ l. ComesStale assignments g x n l b.end) (sym whole) (so e)) told

-- what a flood brings is stale, and it tells all
module _ {assignments : List Assignment} (g : Graph) (going : (block left : ℕ) → Bool) (are : AreIdle assignments g going) (led : ℕ → Bool) (leads : AreLed g.blocks led) where
  brought_stale : (x : ℕ) (begins : ℕ → Bool) → ((m : ℕ) → begins m ≡ false) → {n : ℕ} → IsBrought (Flows (going_stale g going led)) (λ m was. stale_past (going m) x was (slice_get g.blocks m)) begins n → IsStaleAt assignments g x n
  brought_stale x begins none {n} (begun e) = absurd (true≢false (sym e ∙ none n))
  brought_stale x begins none {n} (handed {m} was edge come e) = λ c at.
      stale_on g x m n edge.block.end c
      (stale_at_end g going are led leads g.name_count m edge.block edge.is edge.comes x was (λ q. brought_stale x begins none (come q) edge.block edge.is) (sym (ap (stale_past (going m) x was) edge.is) ∙ e))
      edge.leads at

  module _ (begins starts ends : Bits) (none : (n x : ℕ) → begins n x ≡ false) (settled : AreSettled (going_stale g going led) begins starts ends) where
    pub flood_stale : (n x : ℕ) → n < length g.blocks → x < g.name_count → starts n x ≡ true → IsStaleAt assignments g x n
    flood_stale n x inside named told = brought_stale x (λ m. begins m x) (λ m. none m x) (settled.brought.brought n x inside named told)

-- What is stale at the end of a block is told on.
module _ (g : Graph) (going : (block left : ℕ) → Bool) (led : ℕ → Bool) (begins starts ends : Bits) (settled : AreSettled (going_stale g going led) begins starts ends) where
  pub flood_tells : (n : ℕ) → TellsOn g going led g.name_count starts n
  flood_tells n b l x at way to inside named told =
      let here : n < length g.blocks = slice_get_within g.blocks n b at in
      settled.closed n l x (record { block = b; is = at; comes = way; leads = to }) here inside
      (settled.brought.made n x here named ∙ ap (stale_past (going n) x (starts n x)) at ∙ told)
