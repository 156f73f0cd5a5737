-- A list of blocks that is a path from the entry names a path, and along it the blocks do a computation as often as it was done on the path.
use Rattle.std.proofs.Common.{◌≡◌, ◌⊎◌, inl, inr, ℕ, zero, suc, ◌+◌, ◌<◌, Some, List, [], ◌∷◌, ◌++◌, length, reverse, refl, sym, ap, ◌∙◌, subst, arith, append_assoc, append-nil}
use Rattle.std.specs.Prelude.{slice_get, ⊤}
use Rattle.std.proofs.lemmas.List.{reverse-append, length-append}
use Rattle.std.proofs.lemmas.Option.{none-some, same_Some, slice_get_within}
use Rattle.base_laws.proofs.Lists.{front_at, snoc_new}
use Rattle.graph_core.specs.declared.value.Value.TheVariants.{Number}
use Rattle.graph_core.specs.Graphs.{Instruction, End, Block, Graph}
use Rattle.graph_core.specs.Uses.{targets_of}
use Rattle.graph_core.specs.Paths.{History, Among, Way, stays, passes, goes, Path, path}
use Rattle.graph_core.specs.Computations.{Computation}
use Rattle.graph_core.specs.Validity.{total}
use Rattle.motion_pass.specs.Counts.{IsPath, LeadsTo, once, times_along, times_in}
use Rattle.motion_pass_laws.specs.Often.{times}
use Rattle.motion_pass_laws.specs.Optimal.{entered_along}
use Rattle.motion_pass_laws.proofs.Lists.{inside_or_behind}
use Rattle.cdbg_passes.specs.Counting.{blocks_on, NamesPath}

-- ---- How often

grouped : (a b c : ℕ) → a + (b + c) ≡ (a + b) + c
grouped a b c = omega arith

swapped : (a b c : ℕ) → b + (a + c) ≡ (a + b) + c
swapped a b c = omega arith

-- blocks and one more
along_more : (blocks : List Block) (e : Computation) (listed : List ℕ) (l : ℕ) → times_along blocks e (listed ++ l ∷ []) ≡ times_along blocks e listed + times_in e (slice_get blocks l)
along_more blocks e [] l = only (times_in e (slice_get blocks l))
  where
    only : (a : ℕ) → a + 0 ≡ 0 + a
    only a = omega arith
along_more blocks e (n ∷ listed) l =
    ap (λ m. times_in e (slice_get blocks n) + m) (along_more blocks e listed l) ∙ grouped (times_in e (slice_get blocks n)) (times_along blocks e listed) (times_in e (slice_get blocks l))

-- the blocks on a way that entered one more
turned : (l : ℕ) (before : List ℕ) → 0 ∷ reverse (l ∷ before) ≡ (0 ∷ reverse before) ++ l ∷ []
turned l before = ap (λ xs. 0 ∷ xs) (reverse-append (l ∷ []) before)

module _ (g : Graph) (b : Block) (first : slice_get g.blocks 0 ≡ Some b) (e : Computation) where
  -- Along the blocks on a way it is done as often as on the way and by what is left of the last block.
  along : {history : History} {n : ℕ} {rest : List Instruction} {f : End} (way : Way g 0 b.instructions b.end history n rest f) → times_along g.blocks e (0 ∷ reverse (entered_along way)) ≡ times e history + total (once e) rest
  along stays = ap (λ o. times_in e o + 0) first ∙ other (total (once e) b.instructions)
    where
      other : (a : ℕ) → a + 0 ≡ 0 + a
      other a = omega arith
  along (passes {h = h} {i = i} {left = left} way v) = along way ∙ swapped (once e i) (times e h) (total (once e) left)
  along (goes {h = h} {l = l} way among c at) =
      ap (times_along g.blocks e) (turned l (entered_along way)) ∙ along_more g.blocks e (0 ∷ reverse (entered_along way)) l ∙ ap (λ m. m + times_in e (slice_get g.blocks l)) (along way ∙ none_left (times e h)) ∙ ap (λ o. times e h + times_in e o) at
    where
      none_left : (a : ℕ) → a + 0 ≡ a
      none_left a = omega arith

-- On a path to the end of a block it was done as often as the blocks on it do it.
pub counted_times : (g : Graph) (e : Computation) (history : History) (n : ℕ) (f : End) (way : Path g history n [] f) → times_along g.blocks e (blocks_on way) ≡ times e history
counted_times g e history n f (path b first way) = along g b first e way ∙ none_left (times e history)
  where
    none_left : (a : ℕ) → a + 0 ≡ a
    none_left a = omega arith

-- ---- The blocks on a path are one from the entry

-- what stands in a list and one more
snoc_parts : {A : Type 0} (xs : List A) (y : A) (k : ℕ) (x : A) → slice_get (xs ++ y ∷ []) k ≡ Some x → (slice_get xs k ≡ Some x) ⊎ ((k ≡ length xs) × (x ≡ y))
snoc_parts [] y zero x at = inr (refl, sym (same_Some y x at))
snoc_parts [] y (suc k) x at = absurd (none-some x at)
snoc_parts (z ∷ xs) y zero x at = inl at
snoc_parts (z ∷ xs) y (suc k) x at = elim (snoc_parts xs y k x at) [ inl old ↦ inl old | inr new ↦ inr (ap suc new.0, new.1) ]

-- A path goes on to a block to which its last one leads.
longer : (blocks : List Block) (listed before : List ℕ) (n l : ℕ) → listed ≡ before ++ n ∷ [] → IsPath blocks listed → LeadsTo blocks n l → l < length blocks → IsPath blocks (listed ++ l ∷ [])
longer blocks listed before n l last is leads inside = record {
  begins = front_at listed (l ∷ []) 0 0 is.begins;
  blocks_all = λ k m at. (elim (snoc_parts listed l k m at) [
    | inl old ↦ is.blocks_all k m old
    | inr new ↦ subst (λ x. x < length blocks) (sym new.1) inside
  ]);
  leads = λ k from to at there. (elim (snoc_parts listed l (k + 1) to there) [
    | inl old ↦ before_last k from to at old
    | inr new ↦ at_last k from to at new
  ]);
}
  where
    size : length listed ≡ length before + 1
    size = ap length last ∙ length-append before (n ∷ [])

    before_last : (k from to : ℕ) → slice_get (listed ++ l ∷ []) k ≡ Some from → slice_get listed (k + 1) ≡ Some to → LeadsTo blocks from to
    before_last k from to at old = elim (snoc_parts listed l k from at) [
      | inl was ↦ is.leads k from to was old
      | inr new ↦ (let within = slice_get_within listed (k + 1) to old in let here : k ≡ length listed = new.0 in absurd (omega (arith, within, here)))
    ]

    at_last : (k from to : ℕ) → slice_get (listed ++ l ∷ []) k ≡ Some from → (k + 1 ≡ length listed) × (to ≡ l) → LeadsTo blocks from to
    at_last k from to at new = elim (snoc_parts listed l k from at) [
      | inl was ↦
          let next : k + 1 ≡ length listed = new.0 in
          let so = size in
          let here : k ≡ length before = omega (arith, next, so) in
          let stands : slice_get listed k ≡ Some n = ap (slice_get listed) here ∙ ap (λ xs. slice_get xs (length before)) last ∙ snoc_new before n in
          let same : n ≡ from = same_Some n from (sym stands ∙ was) in
          subst (λ x. LeadsTo blocks from x) (sym new.1) (subst (λ x. LeadsTo blocks x l) same leads)
      | inr behind ↦ (let next : k + 1 ≡ length listed = new.0 in let here : k ≡ length listed = behind.0 in absurd (omega (arith, next, here)))
    ]

-- The first block alone is a path.
alone : (blocks : List Block) (b : Block) → slice_get blocks 0 ≡ Some b → IsPath blocks (0 ∷ [])
alone blocks b first = record {
  begins = refl;
  blocks_all = λ k n at. (let within : k < 1 = slice_get_within (0 ∷ []) k n at in let here : k ≡ 0 = omega (arith, within) in subst (λ x. x < length blocks) (same_Some 0 n (sym (ap (slice_get (0 ∷ [])) here) ∙ at)) (slice_get_within blocks 0 b first));
  leads = λ k from to at there. (let within : k + 1 < 1 = slice_get_within (0 ∷ []) (k + 1) to there in absurd (omega (arith, within)));
}

module _ (g : Graph) where
  -- Blocks are a path to a block with such an end.
  record IsPathTo (blocks : List ℕ) (n : ℕ) (f : End) : Type 0 where
    pub is : IsPath g.blocks blocks
    pub before : List ℕ
    pub last : blocks ≡ before ++ n ∷ []
    pub block : Block
    pub stands : slice_get g.blocks n ≡ Some block
    pub ends : block.end ≡ f

  module _ (b : Block) (first : slice_get g.blocks 0 ≡ Some b) where
    path_to : {history : History} {n : ℕ} {rest : List Instruction} {f : End} (way : Way g 0 b.instructions b.end history n rest f) → IsPathTo (0 ∷ reverse (entered_along way)) n f
    path_to stays = record { is = alone g.blocks b first; before = []; last = refl; block = b; stands = first; ends = refl }
    path_to (passes way v) = path_to way
    path_to (goes {n = n} {l = l} way among c at) =
        let so_far = path_to way in
        subst (λ blocks. IsPathTo blocks l c.end) (sym (turned l (entered_along way))) (record {
          is = longer g.blocks (0 ∷ reverse (entered_along way)) so_far.before n l so_far.last so_far.is (so_far.block, so_far.stands, subst (λ x. Among l (targets_of x)) (sym so_far.ends) among) (slice_get_within g.blocks l c at);
          before = 0 ∷ reverse (entered_along way);
          last = refl;
          block = c;
          stands = at;
          ends = refl;
        })

  -- The blocks on a path are a path from the entry.
  pub path_of_blocks : (history : History) (n : ℕ) (f : End) (way : Path g history n [] f) → IsPath g.blocks (blocks_on way)
  path_of_blocks history n f (path b first way) = (path_to b first way).is

  -- ---- Each list of blocks that is a path names one

  -- A way goes on to the end of its block, and enters no other one.
  record IsThrough (from : ℕ) (start : List Instruction) (end : End) (n : ℕ) (f : End) (so_far : List ℕ) : Type 0 where
    pub history : History
    pub way : Way g from start end history n [] f
    pub same : entered_along way ≡ so_far

  -- what is left of a block can be passed
  through : (from : ℕ) (start : List Instruction) (end : End) (n : ℕ) (f : End) (rest : List Instruction) (history : History) (way : Way g from start end history n rest f) → IsThrough from start end n f (entered_along way)
  through from start end n f [] history way = record { history = history; way = way; same = refl }
  through from start end n f (i ∷ rest) history way = through from start end n f rest _ (passes way (Number 0))

  -- From a block on these are entered, each one from the one before.
  abbrev IsOnward : (n : ℕ) → List ℕ → Type 0
  IsOnward n [] = ⊤
  IsOnward n (m ∷ more) = LeadsTo g.blocks n m × ((c : Block) × (slice_get g.blocks m ≡ Some c)) × IsOnward m more

  onward : (more : List ℕ) {history : History} {n : ℕ} {f : End} (way : Path g history n [] f) (block : Block) → slice_get g.blocks n ≡ Some block → block.end ≡ f → IsOnward n more → NamesPath g (blocks_on way ++ more)
  onward [] {history} {n} {f} way block stands ends on = record { history = history; number = n; end = f; way = way; blocks_are = sym (append-nil (blocks_on way)) }
  onward (m ∷ more) {history} {n} {f} (path b first way) block stands ends on =
      let leads = on.0 in
      let there = on.1 in
      let same : leads.0 ≡ block = same_Some leads.0 block (sym leads.1 ∙ stands) in
      let among : Among m (targets_of f) = subst (λ x. Among m (targets_of x)) (ap (λ (x : Block). x.end) same ∙ ends) leads.2 in
      let passed = through 0 b.instructions b.end m there.0.end there.0.instructions history (goes way among there.0 there.1) in
      let next = path b first passed.way in
      let blocks : blocks_on next ≡ blocks_on (path b first way) ++ m ∷ [] = ap (λ xs. 0 ∷ reverse xs) passed.same ∙ turned m (entered_along way) in
      subst (NamesPath g) (ap (λ xs. xs ++ more) blocks ∙ append_assoc (blocks_on (path b first way)) (m ∷ []) more) (onward more next there.0 there.1 refl on.2)

  there_is : (m : ℕ) → m < length g.blocks → (c : Block) × (slice_get g.blocks m ≡ Some c)
  there_is m inside = elim (inside_or_behind g.blocks m) [
    | inl at ↦ at
    | inr over ↦ (let far : m ≡ length g.blocks + over.0 = over.1 in absurd (omega (arith, far, inside)))
  ]

  onward_of : (n : ℕ) (more : List ℕ) → ((k m : ℕ) → slice_get (n ∷ more) k ≡ Some m → m < length g.blocks) → ((k from to : ℕ) → slice_get (n ∷ more) k ≡ Some from → slice_get (n ∷ more) (k + 1) ≡ Some to → LeadsTo g.blocks from to) → IsOnward n more
  onward_of n [] all leads = tt
  onward_of n (m ∷ more) all leads = (leads 0 n m refl refl, there_is m (all 1 m refl), onward_of m more (λ k x at. all (suc k) x at) (λ k from to at there. leads (suc k) from to at (ap (slice_get (n ∷ m ∷ more)) (next k) ∙ there)))
    where
      next : (k : ℕ) → suc k + 1 ≡ suc (k + 1)
      next k = omega arith

  -- So such a list names a path.
  pub path_named : (blocks : List ℕ) → IsPath g.blocks blocks → NamesPath g blocks
  path_named [] is = absurd (none-some 0 is.begins)
  path_named (n ∷ more) is =
      let zero_is : n ≡ 0 = same_Some n 0 is.begins in
      let at = subst (λ x. slice_get g.blocks x ≡ Some (there_is n (is.blocks_all 0 n refl)).0) zero_is (there_is n (is.blocks_all 0 n refl)).1 in
      let c = (there_is n (is.blocks_all 0 n refl)).0 in
      let passed = through 0 c.instructions c.end 0 c.end c.instructions [] stays in
      let way = path c at passed.way in
      let begun : blocks_on way ≡ n ∷ [] = ap (λ xs. 0 ∷ reverse xs) passed.same ∙ ap (λ x. x ∷ []) (sym zero_is) in
      subst (NamesPath g) (ap (λ xs. xs ++ more) begun) (onward more way c at refl (subst (λ x. IsOnward x more) zero_is (onward_of n more is.blocks_all is.leads)))
