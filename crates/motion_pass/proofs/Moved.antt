-- Instructions and blocks, one after the other.
use Rattle.std.proofs.Common.{◌≡◌, ℕ, suc, ◌+◌, ◌<◌, ◌≤◌, List, [], ◌∷◌, ◌++◌, length, get_or, take, drop, map, Option, Some, None, refl, sym, ap, ◌∙◌, subst, arith, append_assoc}
use Rattle.std.specs.Option.{option_or}
use Rattle.std.specs.Prelude.{slice_get}
use Rattle.std.proofs.lemmas.List.{append-nil, drop_all, get_or-map, length-append, length-map, take_more}
use Rattle.debug_records.specs.declared.change.Place.{Place}
use Rattle.graph_core.specs.Graphs.{Instruction, End, Block}
use Rattle.graph_core.specs.Uses.{marker_of}
use Rattle.graph_core.specs.Validity.{place_behind}
use Rattle.graph_core.specs.Computations.{Computation}
use Rattle.motion_pass_points.specs.Ways.{within}
use Rattle.motion_pass_problems.proofs.Inner.{drop_at}
use Rattle.motion_pass_placement.specs.Moving.{AreDone, Becomes, AreMoved, no_more, one_more, IsLed, directly, by_own, IsEnd, returns, jumps, branches, IsMovedBlock, AreMovedBlocks, no_block, one_block}
use Rattle.motion_pass.specs.Placing.{placed}
use Rattle.graph_core.proofs.Among.{behind_last, behind_one as behind_it}

placed_or : (m s : Option Place) → placed (option_or m s) ≡ option_or (placed m) (placed s)
placed_or None s = refl
placed_or (Some q) s = refl

-- the place in force goes on over one instruction
pub place_next : {A : Type 0} (view : A → Instruction) (xs : List A) (k : ℕ) (x d : A) → k < length xs → x ≡ get_or xs k d → (m s : Option Place) (p : Option ℕ) → placed m ≡ marker_of (view x)
    → placed s ≡ place_behind (take k (map view xs)) p → placed (option_or m s) ≡ place_behind (take (k + 1) (map view xs)) p
place_next view xs k x d lt is m s p marks so_far =
    let there : get_or (map view xs) k (view d) ≡ view x = get_or-map view xs k d (view d) lt ∙ ap view (sym is) in
    let inside : k < length (map view xs) = omega (arith, lt, length-map xs view) in
    placed_or m s ∙ ap (λ a. option_or a (placed s)) marks ∙ ap (option_or (marker_of (view x))) so_far ∙ sym (behind_it (view x) (place_behind (take k (map view xs)) p))
    ∙ sym (behind_last (take k (map view xs)) (view x) p)
    ∙ ap (λ a. place_behind (take k (map view xs) ++ a ∷ []) p) (sym there)
    ∙ ap (λ l. place_behind l p) (sym (take_more (map view xs) k (view d) inside))

module _ (blocks : List Block) (first : ℕ) (treated : List Computation) where
  module _ (n : ℕ) (f : End) (all : List Instruction) where
    -- What became of the first instructions; with what becomes of the others behind it, it is what becomes of all.
    pub data IsBehind (k : ℕ) (made : List Instruction) : Type 0 where
      goes_on : ((later : List Instruction) → AreMoved blocks first treated n f (drop k all) later → AreMoved blocks first treated n f all (made ++ later)) → IsBehind k made

    pub behind_none : IsBehind 0 []
    behind_none = goes_on (λ later are. are)

    pub behind_one : (k : ℕ) (i j : Instruction) (done made longer : List Instruction) → slice_get all k ≡ Some i → AreDone blocks first treated (within n (drop k all) f) done → Becomes blocks first treated (within n (drop k all) f) i j
        → longer ≡ made ++ (done ++ j ∷ []) → IsBehind k made → IsBehind (k + 1) longer
    behind_one k i j done made longer at are becomes grown (goes_on go) =
        goes_on (λ later rest.
        (let P : List Instruction → Type 0 = λ l. AreMoved blocks first treated n f all l in
        let ahead = drop_at all k i at in
        let parts : longer ++ later ≡ made ++ (done ++ j ∷ later) = ap (λ l. l ++ later) grown ∙ append_assoc made (done ++ j ∷ []) later ∙ ap (λ l. made ++ l) (append_assoc done (j ∷ []) later) in
        subst P (sym parts) (go (done ++ j ∷ later) (subst (λ xs. AreMoved blocks first treated n f xs (done ++ j ∷ later)) (sym ahead)
        (one_more (subst (λ xs. AreDone blocks first treated (within n xs f) done) ahead are) (subst (λ xs. Becomes blocks first treated (within n xs f) i j) ahead becomes) rest)))))

    pub behind_all : (k : ℕ) (made : List Instruction) → length all ≤ k → IsBehind k made → AreMoved blocks first treated n f all made
    behind_all k made le (goes_on go) =
        let P : List Instruction → Type 0 = λ l. AreMoved blocks first treated n f all l in
        subst P (append-nil made) (go [] (subst (λ xs. AreMoved blocks first treated n f xs []) (sym (drop_all k all le)) no_more))

  module _ (all : List Block) (start : ℕ) where
    -- What became of the first blocks, with new ones so far.
    pub data AreBehind (k : ℕ) (made added : List Block) : Type 0 where
      go_on : ((later others : List Block) → AreMovedBlocks blocks first treated k (start + length added) (drop k all) later others → AreMovedBlocks blocks first treated 0 start all (made ++ later) (added ++ others)) → AreBehind k made added

    pub blocks_none : AreBehind 0 [] []
    blocks_none = go_on (λ later others are. (let same : start + 0 ≡ start = omega arith in subst (λ s. AreMovedBlocks blocks first treated 0 s all later others) same are))

    pub blocks_one : (k : ℕ) (b c : Block) (own made longer added more : List Block) → slice_get all k ≡ Some b → IsMovedBlock blocks first treated k (start + length added) b c own → longer ≡ made ++ c ∷ [] → more ≡ added ++ own → AreBehind k made added
        → AreBehind (k + 1) longer more
    blocks_one k b c own made longer added more at is grown also (go_on go) =
        go_on (λ later others rest.
        (let P : List Block → List Block → Type 0 = λ l o. AreMovedBlocks blocks first treated 0 start all l o in
        let ahead = drop_at all k b at in
        let count : length more ≡ length added + length own = ap length also ∙ length-append added own in
        let number : k + 1 ≡ suc k = omega arith in
        let next : start + length more ≡ start + length added + length own = omega (arith, count) in
        let one : longer ++ later ≡ made ++ c ∷ later = ap (λ l. l ++ later) grown ∙ append_assoc made (c ∷ []) later in
        let two : more ++ others ≡ added ++ (own ++ others) = ap (λ l. l ++ others) also ∙ append_assoc added own others in
        let far : AreMovedBlocks blocks first treated (suc k) (start + length added + length own) (drop (k + 1) all) later others
        = subst (λ m. AreMovedBlocks blocks first treated m (start + length added + length own) (drop (k + 1) all) later others) number (subst (λ s. AreMovedBlocks blocks first treated (k + 1) s (drop (k + 1) all) later others) next rest) in
        subst (λ l. P l (more ++ others)) (sym one) (subst (λ o. P (made ++ c ∷ later) o) (sym two)
        (go (c ∷ later) (own ++ others) (subst (λ xs. AreMovedBlocks blocks first treated k (start + length added) xs (c ∷ later) (own ++ others)) (sym ahead) (one_block is far))))))

    pub blocks_all : (k : ℕ) (made added : List Block) → length all ≤ k → AreBehind k made added → AreMovedBlocks blocks first treated 0 start all made added
    blocks_all k made added le (go_on go) =
        let P : List Block → List Block → Type 0 = λ l o. AreMovedBlocks blocks first treated 0 start all l o in
        subst (λ l. P l added) (append-nil made)
        (subst (λ o. P (made ++ []) o) (append-nil added) (go [] [] (subst (λ xs. AreMovedBlocks blocks first treated k (start + length added) xs [] []) (sym (drop_all k all le)) no_block)))

  -- an edge has one block of its own at most
  pub led_short : {from to next label : ℕ} {place : Option ℕ} {own : List Block} → IsLed blocks first treated from place to next label own → length own ≤ 1
  led_short (directly are) = omega arith
  led_short (by_own are) = omega arith

  -- an end two
  pub end_short : {from next : ℕ} {place : Option ℕ} {before after : End} {done : List Instruction} {own : List Block} → IsEnd blocks first treated from place next before done after own → length own ≤ 2
  end_short returns = omega arith
  end_short (jumps are) = omega arith
  end_short (branches {own} {others} one two) = (let a = led_short one in let b = led_short two in omega (arith, a, b, length-append own others))
