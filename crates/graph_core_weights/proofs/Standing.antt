-- Where a path of a well marked graph stands: at the beginning of the function, or behind a marker.
use Rattle.std.proofs.Common.{◌≡◌, ◌≢◌, ℕ, zero, suc, sym, ap, ◌∙◌, subst, refl, ◌⊎◌, inl, inr, Option, Some, List, [], ◌∷◌, ◌++◌, length, slice_get, true, false, None}
use Rattle.std.specs.List.{AllByRecursion}
use Rattle.graph_core.specs.Graphs.{Instruction, Marker, Note, Move, Operate, Truncate, Same, Address, Load, Store, Zero, CopyWords, Call, End, Block, Graph}
use Rattle.graph_core.specs.Paths.{Among, front, behind, History, Way, stays, passes, goes, Path, path, place_by, place_of, is_marker}
use Rattle.graph_core.specs.Uses.{targets_of}
use Rattle.graph_core.specs.Validity.{AreAllDifferent, HasPlace, markers_in, markers_of, markers_of_blocks, place_behind}
use Rattle.graph_core.specs.WellMarked.{StandsIn, InPlace, here, behind as further}
use Rattle.base_laws.proofs.Lists.{none_behind, one_behind}
use Rattle.base_laws.proofs.Options.{same_some}

-- ---- What a path passed

-- A marker was passed.
pub record IsMarked (h : History) : Type 0 where
  pub place : ℕ
  pub is : place_of h ≡ Some place

by_instruction : (i : Instruction) (before : Option ℕ) (p : ℕ) → before ≡ Some p → (q : ℕ) × (place_by i before ≡ Some q)
by_instruction (Marker q) before p is = (q, refl)
by_instruction (Note x v) before p is = (p, is)
by_instruction (Move x a) before p is = (p, is)
by_instruction (Operate x op a b) before p is = (p, is)
by_instruction (Truncate x t a) before p is = (p, is)
by_instruction (Same x a b) before p is = (p, is)
by_instruction (Address x o) before p is = (p, is)
by_instruction (Load x e l) before p is = (p, is)
by_instruction (Store e l a) before p is = (p, is)
by_instruction (Zero o w) before p is = (p, is)
by_instruction (CopyWords o b w) before p is = (p, is)
by_instruction (Call x f all) before p is = (p, is)

-- Nothing was passed: this is the beginning of the function.
pub record IsStart (b0 : Block) (h : History) (n : ℕ) (rest : List Instruction) : Type 0 where
  pub none : h ≡ []
  pub first : n ≡ 0
  pub whole : rest ≡ b0.instructions

-- What is left where a path stands is left of a block of the graph. Only the beginning of the function is that of its first block.
pub record StandsSo (g : Graph) (b0 : Block) (h : History) (n : ℕ) (rest : List Instruction) (e : End) : Type 0 where
  pub block : Block
  pub there : slice_get g.blocks n ≡ Some block
  pub passed : List Instruction
  pub whole : block.instructions ≡ passed ++ rest
  pub end : e ≡ block.end
  pub only : n ≡ 0 → passed ≡ [] → h ≡ []
  pub mode : IsStart b0 h n rest ⊎ IsMarked h

module _ (g : Graph) (b0 : Block) (there0 : slice_get g.blocks 0 ≡ Some b0) (rest0 : List Instruction) (begins : b0.instructions ≡ Marker g.entry ∷ rest0) (first : (n : ℕ) (b : Block) → slice_get g.blocks n ≡ Some b → Among 0 (targets_of b.end) → ⊥) where
  -- What passes the first instruction passes the entry's marker.
  begins_marked : (h : History) (i : Instruction) (left : List Instruction) → i ∷ left ≡ b0.instructions → (p : ℕ) × (place_by i (place_of h) ≡ Some p)
  begins_marked h i left is =
      let same : i ≡ Marker g.entry = first_of (is ∙ begins) in
      (g.entry, ap (λ j. place_by j (place_of h)) same)
    where
      first_of : {x y : Instruction} {xs ys : List Instruction} → x ∷ xs ≡ y ∷ ys → x ≡ y
      first_of e = cc

  never_empty : [] ≡ b0.instructions → ⊥
  never_empty is = let e = is ∙ begins in cc

  way_stands : {h : History} {n : ℕ} {rest : List Instruction} {e : End} → Way g 0 b0.instructions b0.end h n rest e → StandsSo g b0 h n rest e
  way_stands stays = record { block = b0; there = there0; passed = []; whole = refl; end = refl; only = λ a b. refl; mode = inl (record { none = refl; first = refl; whole = refl }) }
  way_stands (passes {h} {n} {i} {left} {e} way v) = by_before (way_stands way)
    where
      by_mode : IsStart b0 h n (i ∷ left) ⊎ IsMarked h → (p : ℕ) × (place_by i (place_of h) ≡ Some p)
      by_mode (inl start) = begins_marked h i left start.whole
      by_mode (inr marked) = by_instruction i (place_of h) marked.place marked.is

      by_before : StandsSo g b0 h n (i ∷ left) e → StandsSo g b0 (record { block = n; left = length left; instruction = i; wrote = v } ∷ h) n left e
      by_before s =
          let marked = by_mode s.mode in
          record {
            block = s.block;
            there = s.there;
            passed = s.passed ++ i ∷ [];
            whole = s.whole ∙ one_behind s.passed i left;
            end = s.end;
            only = λ zero_is none. absurd (none_behind s.passed i none);
            mode = inr (record { place = marked.0; is = marked.1 });
          }
  way_stands (goes {h} {n} {l} {e} way among b there) = by_before (way_stands way)
    where
      by_mode : IsStart b0 h n [] ⊎ IsMarked h → IsMarked h
      by_mode (inl start) = absurd (never_empty start.whole)
      by_mode (inr marked) = marked

      by_before : StandsSo g b0 h n [] e → StandsSo g b0 h l b.instructions b.end
      by_before s = record {
        block = b;
        there = there;
        passed = [];
        whole = refl;
        end = refl;
        only = λ zero_is none. absurd (first n s.block s.there (subst (λ z. Among 0 (targets_of z)) s.end (subst (λ k. Among k (targets_of e)) zero_is among)));
        mode = inr (by_mode s.mode);
      }

  -- Where a path stands.
  pub path_stands : {h : History} {n : ℕ} {rest : List Instruction} {e : End} → Path g h n rest e → StandsSo g b0 h n rest e
  path_stands {h} {n} {rest} {e} (path b there way) =
      let same : b ≡ b0 = same_some (sym there ∙ there0) in
      way_stands (subst (λ (z : Block). Way g 0 z.instructions z.end h n rest e) same way)

-- ---- The entry's marker

among_front : {A : Type 0} (x : A) (xs ys : List A) → Among x xs → Among x (xs ++ ys)
among_front x [] ys a = elim a [ ]
among_front x (y ∷ xs) ys front = front
among_front x (y ∷ xs) ys (behind a) = behind (among_front x xs ys a)

among_back : {A : Type 0} (x : A) (xs ys : List A) → Among x ys → Among x (xs ++ ys)
among_back x [] ys a = a
among_back x (y ∷ xs) ys a = behind (among_back x xs ys a)

marker_among : (passed : List Instruction) (p : ℕ) (more : List Instruction) → Among p (markers_in (passed ++ Marker p ∷ more))
marker_among [] p more = front
marker_among (Marker q ∷ passed) p more = behind (marker_among passed p more)
marker_among (Note x v ∷ passed) p more = marker_among passed p more
marker_among (Move x a ∷ passed) p more = marker_among passed p more
marker_among (Operate x op a b ∷ passed) p more = marker_among passed p more
marker_among (Truncate x t a ∷ passed) p more = marker_among passed p more
marker_among (Same x a b ∷ passed) p more = marker_among passed p more
marker_among (Address x o ∷ passed) p more = marker_among passed p more
marker_among (Load x e l ∷ passed) p more = marker_among passed p more
marker_among (Store e l a ∷ passed) p more = marker_among passed p more
marker_among (Zero o w ∷ passed) p more = marker_among passed p more
marker_among (CopyWords o b w ∷ passed) p more = marker_among passed p more
marker_among (Call x f all ∷ passed) p more = marker_among passed p more

block_among : (blocks : List Block) (n : ℕ) (b : Block) (p : ℕ) → slice_get blocks n ≡ Some b → Among p (markers_in b.instructions) → Among p (markers_of_blocks blocks)
block_among [] n b p there a = cc
block_among (c ∷ blocks) zero b p there a = let same : c ≡ b = same_some there in among_front p (markers_in c.instructions) (markers_of_blocks blocks) (subst (λ (z : Block). Among p (markers_in z.instructions)) (sym same) a)
block_among (c ∷ blocks) (suc n) b p there a = among_back p (markers_in c.instructions) (markers_of_blocks blocks) (block_among blocks n b p there a)

not_among : (p : ℕ) (xs : List ℕ) → AllByRecursion (λ q. p ≢ q) xs → Among p xs → ⊥
not_among p [] all a = elim a [ ]
not_among p (x ∷ xs) all front = all.0 refl
not_among p (x ∷ xs) all (behind a) = not_among p xs all.1 a

different_front : (xs ys : List ℕ) → AreAllDifferent (xs ++ ys) → AreAllDifferent xs
different_front [] ys all = tt
different_front (x ∷ xs) ys all = (each xs all.0, different_front xs ys all.1)
  where
    each : (zs : List ℕ) → AllByRecursion (λ q. x ≢ q) (zs ++ ys) → AllByRecursion (λ q. x ≢ q) zs
    each [] h = tt
    each (z ∷ zs) h = (h.0, each zs h.1)

different_back : (xs ys : List ℕ) → AreAllDifferent (xs ++ ys) → AreAllDifferent ys
different_back [] ys all = all
different_back (x ∷ xs) ys all = different_back xs ys all.1

pub graph_different : (graphs : List Graph) (f : ℕ) (g : Graph) → slice_get graphs f ≡ Some g → AreAllDifferent (markers_of graphs) → AreAllDifferent (markers_of_blocks g.blocks)
graph_different [] f g there all = cc
graph_different (z ∷ graphs) zero g there all = let same : z ≡ g = same_some there in subst (λ (q : Graph). AreAllDifferent (markers_of_blocks q.blocks)) same (different_front (markers_of_blocks z.blocks) (markers_of graphs) all)
graph_different (z ∷ graphs) (suc f) g there all = graph_different graphs f g there (different_back (markers_of_blocks z.blocks) (markers_of graphs) all)

-- The marker with which the first block begins stands nowhere else.
pub marker_once : (blocks : List Block) (b0 : Block) (entry : ℕ) (rest0 : List Instruction) → slice_get blocks 0 ≡ Some b0 → b0.instructions ≡ Marker entry ∷ rest0 → AreAllDifferent (markers_of_blocks blocks)
    → (n : ℕ) (b : Block) (passed more : List Instruction) → slice_get blocks n ≡ Some b → b.instructions ≡ passed ++ Marker entry ∷ more → (n ≡ 0) × (passed ≡ [])
marker_once [] b0 entry rest0 there0 begins all n b passed more there is = cc
marker_once (c ∷ blocks) b0 entry rest0 there0 begins all n b passed more there is = by_number n there passed is
  where
    first_is : c ≡ b0
    first_is = same_some there0

    listed : markers_in c.instructions ++ markers_of_blocks blocks ≡ entry ∷ (markers_in rest0 ++ markers_of_blocks blocks)
    listed = ap (λ (z : Block). markers_in z.instructions ++ markers_of_blocks blocks) first_is ∙ ap (λ l. markers_in l ++ markers_of_blocks blocks) begins

    others : AllByRecursion (λ q. entry ≢ q) (markers_in rest0 ++ markers_of_blocks blocks)
    others = (subst (λ l. AreAllDifferent l) listed all).0

    last_of : {x y : Instruction} {xs ys : List Instruction} → x ∷ xs ≡ y ∷ ys → xs ≡ ys
    last_of e = cc

    in_first : (ahead : List Instruction) → Marker entry ∷ rest0 ≡ ahead ++ Marker entry ∷ more → ahead ≡ []
    in_first [] e = refl
    in_first (x ∷ ahead) e =
        let again : Among entry (markers_in rest0) = subst (λ l. Among entry (markers_in l)) (sym (last_of e)) (marker_among ahead entry more) in
        absurd (not_among entry (markers_in rest0 ++ markers_of_blocks blocks) others (among_front entry (markers_in rest0) (markers_of_blocks blocks) again))

    by_number : (k : ℕ) → slice_get (c ∷ blocks) k ≡ Some b → (ahead : List Instruction) → b.instructions ≡ ahead ++ Marker entry ∷ more → (k ≡ 0) × (ahead ≡ [])
    by_number zero at ahead so =
        let same : b0 ≡ b = sym first_is ∙ same_some at in
        (refl, in_first ahead (sym begins ∙ ap (λ (z : Block). z.instructions) same ∙ so))
    by_number (suc k) at ahead so =
        let again : Among entry (markers_in b.instructions) = subst (λ l. Among entry (markers_in l)) (sym so) (marker_among ahead entry more) in
        absurd (not_among entry (markers_in rest0 ++ markers_of_blocks blocks) others (among_back entry (markers_in rest0) (markers_of_blocks blocks) (block_among blocks k b entry at again)))

-- ---- Instructions in their places

-- Behind instructions an instruction stands in the place that is in force there.
stands_behind : (passed : List Instruction) (i : Instruction) (more : List Instruction) (before : Option ℕ) (p : ℕ) → place_behind passed before ≡ Some p → StandsIn p i before (passed ++ i ∷ more)
stands_behind [] i more before p is = subst (λ o. StandsIn p i o (i ∷ more)) (sym is) here
stands_behind (Marker q ∷ passed) i more before p is = further (stands_behind passed i more (Some q) p is)
stands_behind (Note x v ∷ passed) i more before p is = further (stands_behind passed i more before p is)
stands_behind (Move x a ∷ passed) i more before p is = further (stands_behind passed i more before p is)
stands_behind (Operate x op a b ∷ passed) i more before p is = further (stands_behind passed i more before p is)
stands_behind (Truncate x t a ∷ passed) i more before p is = further (stands_behind passed i more before p is)
stands_behind (Same x a b ∷ passed) i more before p is = further (stands_behind passed i more before p is)
stands_behind (Address x o ∷ passed) i more before p is = further (stands_behind passed i more before p is)
stands_behind (Load x e l ∷ passed) i more before p is = further (stands_behind passed i more before p is)
stands_behind (Store e l a ∷ passed) i more before p is = further (stands_behind passed i more before p is)
stands_behind (Zero o w ∷ passed) i more before p is = further (stands_behind passed i more before p is)
stands_behind (CopyWords o b w ∷ passed) i more before p is = further (stands_behind passed i more before p is)
stands_behind (Call x f all ∷ passed) i more before p is = further (stands_behind passed i more before p is)

pub in_place : (g : Graph) (n : ℕ) (b : Block) (passed : List Instruction) (i : Instruction) (more : List Instruction) (p : ℕ) → slice_get g.blocks n ≡ Some b → b.instructions ≡ passed ++ i ∷ more → place_behind passed b.place ≡ Some p → InPlace g p i
in_place g n b passed i more p there is place = record { number = n; block = b; is = there; stands = subst (λ l. StandsIn p i b.place l) (sym is) (stands_behind passed i more b.place p place) }

-- Instructions begin with a marker, or they have the place that is kept.
has_place : (is : List Instruction) (kept : Option ℕ) → HasPlace is kept → ((p : ℕ) × (rest : List Instruction) × (is ≡ Marker p ∷ rest)) ⊎ (kept ≢ None)
has_place [] kept has = inr has
has_place (Marker p ∷ more) kept has = inl (p, more, refl)
has_place (Note x v ∷ more) kept has = inr has
has_place (Move x a ∷ more) kept has = inr has
has_place (Operate x op a b ∷ more) kept has = inr has
has_place (Truncate x t a ∷ more) kept has = inr has
has_place (Same x a b ∷ more) kept has = inr has
has_place (Address x o ∷ more) kept has = inr has
has_place (Load x e l ∷ more) kept has = inr has
has_place (Store e l a ∷ more) kept has = inr has
has_place (Zero o w ∷ more) kept has = inr has
has_place (CopyWords o b w ∷ more) kept has = inr has
has_place (Call x f all ∷ more) kept has = inr has

still_there : (passed : List Instruction) (p : ℕ) → (q : ℕ) × (place_behind passed (Some p) ≡ Some q)
still_there [] p = (p, refl)
still_there (Marker q ∷ passed) p = still_there passed q
still_there (Note x v ∷ passed) p = still_there passed p
still_there (Move x a ∷ passed) p = still_there passed p
still_there (Operate x op a b ∷ passed) p = still_there passed p
still_there (Truncate x t a ∷ passed) p = still_there passed p
still_there (Same x a b ∷ passed) p = still_there passed p
still_there (Address x o ∷ passed) p = still_there passed p
still_there (Load x e l ∷ passed) p = still_there passed p
still_there (Store e l a ∷ passed) p = still_there passed p
still_there (Zero o w ∷ passed) p = still_there passed p
still_there (CopyWords o b w ∷ passed) p = still_there passed p
still_there (Call x f all ∷ passed) p = still_there passed p

-- So a place is in force before each instruction of a block that is no marker.
pub place_there : (passed : List Instruction) (i : Instruction) (more : List Instruction) (before : Option ℕ) → HasPlace (passed ++ i ∷ more) before → is_marker i ≡ false → (p : ℕ) × (place_behind passed before ≡ Some p)
place_there passed i more before has none = by_way (has_place (passed ++ i ∷ more) before has)
  where
    by_front : (ahead : List Instruction) (p : ℕ) (rest : List Instruction) → ahead ++ i ∷ more ≡ Marker p ∷ rest → (q : ℕ) × (place_behind ahead before ≡ Some q)
    by_front [] p rest is = let same : i ≡ Marker p = first_of is in let clash : is_marker i ≡ true = ap is_marker same in cc
      where
        first_of : {x y : Instruction} {xs ys : List Instruction} → x ∷ xs ≡ y ∷ ys → x ≡ y
        first_of e = cc
    by_front (x ∷ ahead) p rest is =
        let same : x ≡ Marker p = first_of is in
        let later = still_there ahead p in
        (later.0, ap (λ j. place_behind (j ∷ ahead) before) same ∙ later.1)
      where
        first_of : {x y : Instruction} {xs ys : List Instruction} → x ∷ xs ≡ y ∷ ys → x ≡ y
        first_of e = cc

    by_kept : (kept : Option ℕ) → before ≡ kept → kept ≢ None → (p : ℕ) × (place_behind passed before ≡ Some p)
    by_kept None is some = absurd (some refl)
    by_kept (Some p) is some = let later = still_there passed p in (later.0, ap (place_behind passed) is ∙ later.1)

    by_way : ((p : ℕ) × (rest : List Instruction) × (passed ++ i ∷ more ≡ Marker p ∷ rest)) ⊎ (before ≢ None) → (p : ℕ) × (place_behind passed before ≡ Some p)
    by_way (inl begins) = by_front passed begins.0 begins.1 begins.2
    by_way (inr some) = by_kept before refl some
