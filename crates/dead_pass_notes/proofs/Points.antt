-- What is told of names at points is so, and all.
use Rattle.std.proofs.Common.{◌≡◌, ℕ, suc, ◌+◌, ◌<◌, Bool, true, false, Some, List, [], ◌∷◌, ◌++◌, length, refl, sym, ap, ◌∙◌, subst, append_assoc, append-nil, inl, inr, arith}
use Rattle.std.specs.Prelude.{if◌then◌else◌, slice_get}
use Rattle.std.proofs.lemmas.Bool.{cases_Bool}
use Rattle.std.proofs.lemmas.List.{length-append}
use Rattle.std.proofs.lemmas.Option.{slice_get_within}
use Rattle.places.specs.declared.flow.Assignment.{Assignment}
use Rattle.graph_core.specs.declared.value.Value.{Value}
use Rattle.graph_core.specs.declared.value.Value.TheVariants.{Odd}
use Rattle.graph_core.specs.Graphs.{Instruction, End, Block, Graph}
use Rattle.graph_core.specs.Uses.{targets_of}
use Rattle.graph_core.specs.Paths.{Passed, History, Among, Way, stays, passes, goes, Path, path, writes}
use Rattle.graph_paths.specs.Reached.{IsReached, AreLed}
use Rattle.graph_paths.proofs.Points.{reached_behind}
use Rattle.dead_pass_rule.specs.Certified.{AreIdle}
use Rattle.dead_pass_rule.specs.Idle.{Goes}
use Rattle.dead_pass_notes.specs.Stale.{Went, IsStale, went, before as stale_before, ComesStale}
use Rattle.dead_pass_notes.specs.Rows.{stale_behind, TellsOn}
use Rattle.base_laws.proofs.Booleans.{if_false, if_true}

-- one instruction more
pub stale_more : (going : ℕ → Bool) (x : ℕ) (was : Bool) (before : List Instruction) (i : Instruction) (left : ℕ) → stale_behind going x was (before ++ i ∷ []) left ≡ (if writes x i then going left else stale_behind going x was before (suc left))
stale_more going x was [] i left = (let z : 0 + left ≡ left = omega arith in ap (λ k. if writes x i then going k else was) z)
stale_more going x was (j ∷ before) i left =
    let long = length-append before (i ∷ []) in
    let count : length (before ++ i ∷ []) + left ≡ length before + suc left = omega (arith, long) in
    ap (λ k. stale_behind going x (if writes x j then going k else was) (before ++ i ∷ []) left) count ∙ stale_more going x (if writes x j then going (length before + suc left) else was) before i left

module _ {assignments : List Assignment} (g : Graph) (going : (block left : ℕ) → Bool) (are : AreIdle assignments g going) where
  -- a name that is stale, or comes to a write of it that goes
  pub stale_next : (x n : ℕ) (i : Instruction) (rest : List Instruction) (e : End) → writes x i ≡ false → ComesStale assignments g x n (i ∷ rest) e → ComesStale assignments g x n rest e
  stale_next x n i rest e other s = step s.path
    where
      step : Path g s.history n (i ∷ rest) e → ComesStale assignments g x n rest e
      step (path b at way) = record { history = record { block = n; left = length rest; instruction = i; wrote = Odd } ∷ s.history; path = path b at (passes way Odd); stale = stale_before other s.stale }

  pub stale_by : (x n : ℕ) (b : Block) (before : List Instruction) (i : Instruction) (rest : List Instruction) → slice_get g.blocks n ≡ Some b → b.instructions ≡ before ++ i ∷ rest → writes x i ≡ true → going n (length rest) ≡ true
      → IsReached g n (i ∷ rest) b.end → ComesStale assignments g x n rest b.end
  stale_by x n b before i rest at parts it gone r = step r.path
    where
      is : Went assignments g (record { block = n; left = length rest; instruction = i; wrote = Odd })
      is = record { rest = rest; end = b.end; behind = record { block = b; before = before; is = at; instructions = parts; ends = refl }; left = refl; goes = (are.goes n b before rest i at parts).0 gone }

      step : Path g r.history n (i ∷ rest) b.end → ComesStale assignments g x n rest b.end
      step (path c there way) = record { history = record { block = n; left = length rest; instruction = i; wrote = Odd } ∷ r.history; path = path c there (passes way Odd); stale = went it is }

  -- What is told at a point of a block that a path reaches is so, if what is told at its start is.
  pub told_so : (x n : ℕ) (b : Block) → slice_get g.blocks n ≡ Some b → (past before rest : List Instruction) (was : Bool) → b.instructions ≡ past ++ (before ++ rest) → IsReached g n (before ++ rest) b.end
      → (was ≡ true → ComesStale assignments g x n (before ++ rest) b.end) → stale_behind (going n) x was before (length rest) ≡ true → ComesStale assignments g x n rest b.end
  told_so x n b at past [] rest was parts r so e = so e
  told_so x n b at past (i ∷ before) rest was parts r so e =
      let long = length-append before rest in
      let whole : b.instructions ≡ (past ++ i ∷ []) ++ (before ++ rest) = parts ∙ sym (append_assoc past (i ∷ []) (before ++ rest)) in
      told_so x n b at (past ++ i ∷ []) before rest (if writes x i then going n (length before + length rest) else was) whole (reached_behind r Odd)
      (λ told. elim (cases_Bool (writes x i)) [
        | inl it ↦ stale_by x n b past i (before ++ rest) at parts it (ap (going n) long ∙ sym (if_true (writes x i) (going n (length before + length rest)) was it) ∙ told) r
        | inr other ↦ stale_next x n i (before ++ rest) b.end other (so (sym (if_false (writes x i) (going n (length before + length rest)) was other) ∙ told))
      ])
      e

  went_told : (n : ℕ) (b : Block) (before : List Instruction) (i : Instruction) (rest : List Instruction) (p : Passed) → slice_get g.blocks n ≡ Some b → b.instructions ≡ before ++ i ∷ rest → p.block ≡ n → p.instruction ≡ i → p.left ≡ length rest → Went assignments g p
      → going n (length rest) ≡ true
  went_told n b before i rest p at parts in_block is left w =
      let there : slice_get g.blocks p.block ≡ Some w.behind.block = w.behind.is in
      let goes_there : going p.block (length w.rest) ≡ true = (are.goes p.block w.behind.block w.behind.before w.rest p.instruction there w.behind.instructions).1 (subst (λ e. Goes assignments g p.block (p.instruction ∷ w.rest) e) w.behind.ends w.goes) in
      sym (ap (λ m. going m (length rest)) in_block) ∙ sym (ap (going p.block) (w.left ∙ left)) ∙ goes_there

  passed_told : (x : ℕ) (h : History) (n : ℕ) (b : Block) (before : List Instruction) (i : Instruction) (left : List Instruction) (v : Value) → slice_get g.blocks n ≡ Some b → b.instructions ≡ before ++ i ∷ left → (was : Bool) → (IsStale assignments g x h → was ≡ true)
      → IsStale assignments g x (record { block = n; left = length left; instruction = i; wrote = v } ∷ h) → (if writes x i then going n (length left) else was) ≡ true
  passed_told x h n b before i left v at parts was below (went it w) =
      if_true (writes x i) (going n (length left)) was it ∙ went_told n b before i left (record { block = n; left = length left; instruction = i; wrote = v }) at parts refl refl refl w
  passed_told x h n b before i left v at parts was below (stale_before other s) = if_false (writes x i) (going n (length left)) was other ∙ below s

  module _ (led : ℕ → Bool) (leads : AreLed g.blocks led) (names : ℕ) (told : (n x : ℕ) → Bool) (on : (n : ℕ) → n < length g.blocks → TellsOn g going led names told n) (x : ℕ) (named : x < names) where
    -- A point to which a path came: where it stands, and that it is told of the name there if it is stale.
    pub record IsToldAt (h : History) (n : ℕ) (rest : List Instruction) (e : End) : Type 0 where
      pub block : Block
      pub before : List Instruction
      pub is : slice_get g.blocks n ≡ Some block
      pub instructions : block.instructions ≡ before ++ rest
      pub ends : e ≡ block.end
      pub led_there : led n ≡ true
      pub tells : IsStale assignments g x h → stale_behind (going n) x (told n x) before (length rest) ≡ true

    none_stale : IsStale assignments g x [] → ⊥
    none_stale s = elim s [ ]

    module _ (first : Block) (at_first : slice_get g.blocks 0 ≡ Some first) where
      way_told : {h : History} {n : ℕ} {rest : List Instruction} {e : End} → Way g 0 first.instructions first.end h n rest e → IsToldAt h n rest e
      way_told stays = record { block = first; before = []; is = at_first; instructions = refl; ends = refl; led_there = leads.first; tells = λ s. absurd (none_stale s) }
      way_told (passes {h} {n} {i} {left} {e} way v) =
          let s : IsToldAt h n (i ∷ left) e = way_told way in
          let p : Passed = record { block = n; left = length left; instruction = i; wrote = v } in
          record {
            block = s.block;
            before = s.before ++ i ∷ [];
            is = s.is;
            instructions = s.instructions ∙ sym (append_assoc s.before (i ∷ []) left);
            ends = s.ends;
            led_there = s.led_there;
            tells = λ stale. stale_more (going n) x (told n x) s.before i (length left) ∙ passed_told x h n s.block s.before i left v s.is s.instructions (stale_behind (going n) x (told n x) s.before (suc (length left))) s.tells stale;
          }
      way_told (goes {h} {n} {l} {e} way to b at) =
          let s : IsToldAt h n [] e = way_told way in
          let among : Among l (targets_of s.block.end) = subst (λ f. Among l (targets_of f)) s.ends to in
          let inside = slice_get_within g.blocks l b at in
          let here = slice_get_within g.blocks n s.block s.is in
          let whole : s.block.instructions ≡ s.before = s.instructions ∙ append-nil s.before in
          record {
            block = b;
            before = [];
            is = at;
            instructions = refl;
            ends = refl;
            led_there = leads.leads_on n s.block l s.is s.led_there among inside;
            tells = λ stale. on n here s.block l x s.is s.led_there among inside named (ap (λ all. stale_behind (going n) x (told n x) all 0) whole ∙ s.tells stale);
          }

    pub path_told : {h : History} {n : ℕ} {rest : List Instruction} {e : End} → Path g h n rest e → IsToldAt h n rest e
    path_told (path b at way) = way_told b at way
