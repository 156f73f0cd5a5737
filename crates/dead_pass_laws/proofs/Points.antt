-- Points to which paths come: where they stand, and which place is in force there.
use Rattle.std.proofs.Common.{◌≡◌, ℕ, false, true≢false, Option, Some, None, List, [], ◌∷◌, ◌++◌, length, refl, sym, ap, ◌∙◌, subst, append_assoc, append-nil, arith}
use Rattle.std.specs.Prelude.{slice_get}
use Rattle.std.proofs.lemmas.List.{length-append}
use Rattle.std.proofs.lemmas.Option.{same_Some}
use Rattle.graph_core.specs.Graphs.{Instruction, Marker, Note, Move, Operate, Truncate, Same, Address, Load, Store, Zero, CopyWords, Call, End, Block, Graph, UnitForm}
use Rattle.graph_core.specs.Paths.{History, Among, Way, stays, passes, goes, Path, path, place_by, place_of, is_marker}
use Rattle.graph_core.specs.Points.{StandsWith}
use Rattle.graph_core.specs.Uses.{targets_of}
use Rattle.graph_core.specs.Validity.{KeepsPlace, IsKept, IsBlock, IsGraph, place_behind, place_at_end}
use Rattle.graph_core.specs.WellMarked.{IsWellMarked}
use Rattle.dead_pass_laws.proofs.Lists.{all_at, all_among}
use Rattle.graph_core.proofs.Among.{behind_last}

-- The place in force behind one instruction and then others is the one behind all of them.
pub behind_one : (j : Instruction) (more : List Instruction) (place : Option ℕ) → place_behind more (place_behind (j ∷ []) place) ≡ place_behind (j ∷ more) place
behind_one (Marker p) more place = refl
behind_one _ more place = refl

-- A block that keeps the place in force keeps it whatever comes next.
keeps_same : (rest : List Instruction) (a b : Option ℕ) → a ≡ b → KeepsPlace rest a b
keeps_same [] a b e = e
keeps_same (Marker p ∷ rest) a b e = tt
keeps_same (Note x v ∷ rest) a b e = e
keeps_same (Move x v ∷ rest) a b e = e
keeps_same (Operate x o v w ∷ rest) a b e = e
keeps_same (Truncate x t v ∷ rest) a b e = e
keeps_same (Same x v w ∷ rest) a b e = e
keeps_same (Address x o ∷ rest) a b e = e
keeps_same (Load x f l ∷ rest) a b e = e
keeps_same (Store f l v ∷ rest) a b e = e
keeps_same (Zero o w ∷ rest) a b e = e
keeps_same (CopyWords o w v ∷ rest) a b e = e
keeps_same (Call x f all ∷ rest) a b e = e

-- where it does, the place in force behind its next instruction is one by the path and by the block
place_next : (i : Instruction) (rest : List Instruction) (a b : Option ℕ) → KeepsPlace (i ∷ rest) a b → place_by i a ≡ place_behind (i ∷ []) b
place_next (Marker p) rest a b e = refl
place_next (Note x v) rest a b e = e
place_next (Move x v) rest a b e = e
place_next (Operate x o v w) rest a b e = e
place_next (Truncate x t v) rest a b e = e
place_next (Same x v w) rest a b e = e
place_next (Address x o) rest a b e = e
place_next (Load x f l) rest a b e = e
place_next (Store f l v) rest a b e = e
place_next (Zero o w) rest a b e = e
place_next (CopyWords o w v) rest a b e = e
place_next (Call x f all) rest a b e = e

-- where no marker comes next the place in force is the one that the block keeps
place_kept : (i : Instruction) (rest : List Instruction) (a b : Option ℕ) → is_marker i ≡ false → KeepsPlace (i ∷ rest) a b → a ≡ b
place_kept (Marker p) rest a b m e = absurd (true≢false m)
place_kept (Note x v) rest a b m e = e
place_kept (Move x v) rest a b m e = e
place_kept (Operate x o v w) rest a b m e = e
place_kept (Truncate x t v) rest a b m e = e
place_kept (Same x v w) rest a b m e = e
place_kept (Address x o) rest a b m e = e
place_kept (Load x f l) rest a b m e = e
place_kept (Store f l v) rest a b m e = e
place_kept (Zero o w) rest a b m e = e
place_kept (CopyWords o w v) rest a b m e = e
place_kept (Call x f all) rest a b m e = e

-- of lists that are the same the first is, and the rest
pub first_same : {A : Type 0} {x y : A} {xs ys : List A} → x ∷ xs ≡ y ∷ ys → x ≡ y
first_same e = cc

-- and the rest is the same
pub rest_same : {A : Type 0} {x y : A} {xs ys : List A} → x ∷ xs ≡ y ∷ ys → xs ≡ ys
rest_same e = cc

-- What stands before the same end of one list is the same.
pub same_front : {A : Type 0} (zs xs ys : List A) → length (xs ++ zs) ≡ length (ys ++ zs) → xs ++ zs ≡ ys ++ zs → xs ≡ ys
same_front zs [] [] long e = refl
same_front zs [] (y ∷ ys) long e = (let l = length-append (y ∷ ys) zs in absurd (omega (arith, long, l)))
same_front zs (x ∷ xs) [] long e = (let l = length-append (x ∷ xs) zs in absurd (omega (arith, long, l)))
same_front zs (x ∷ xs) (y ∷ ys) long e = (let t = rest_same e in ap (λ z. z ∷ xs) (first_same e) ∙ ap (λ l. y ∷ l) (same_front zs xs ys (ap length t) t))

-- What stands behind is the same where as much does.
pub same_behind : {A : Type 0} (xs ys us vs : List A) → length us ≡ length vs → xs ++ us ≡ ys ++ vs → us ≡ vs
same_behind [] [] us vs long e = e
same_behind [] (y ∷ ys) us vs long e = (let l = length-append (y ∷ ys) vs in let m = ap length e in absurd (omega (arith, long, l, m)))
same_behind (x ∷ xs) [] us vs long e = (let l = length-append (x ∷ xs) us in let m = ap length e in absurd (omega (arith, long, l, m)))
same_behind (x ∷ xs) (y ∷ ys) us vs long e = same_behind xs ys us vs long (rest_same e)

-- A point to which a path came: where it stands, and that its place is in force.
pub record IsAt (g : Graph) (h : History) (n : ℕ) (rest : List Instruction) (e : End) : Type 0 where
  pub block : Block
  pub before : List Instruction
  pub is : slice_get g.blocks n ≡ Some block
  pub instructions : block.instructions ≡ before ++ rest
  pub ends : e ≡ block.end
  pub kept : KeepsPlace rest (place_of h) (place_behind before block.place)

module _ (u : UnitForm) (g : Graph) (valid : IsGraph u g) (marked : IsWellMarked u g) where
  -- the block to which an edge leads keeps the place in force
  kept_on : (place : Option ℕ) (l : ℕ) (b : Block) → IsKept place (slice_get g.blocks l) → slice_get g.blocks l ≡ Some b → KeepsPlace b.instructions place b.place
  kept_on place l b kept at = subst (λ o. IsKept place o) at kept

  module _ (first : Block) (at_first : slice_get g.blocks 0 ≡ Some first) where
    -- so it is along a way from the first block
    way_at : {h : History} {n : ℕ} {rest : List Instruction} {e : End} → Way g 0 first.instructions first.end h n rest e → IsAt g h n rest e
    way_at stays =
        let begins = marked.begins first at_first in
        record { block = first; before = []; is = at_first; instructions = refl; ends = refl; kept = subst (λ l. KeepsPlace l None first.place) (sym begins.1) tt }
    way_at (passes {h} {n} {i} {left} {e} way v) =
        let s : IsAt g h n (i ∷ left) e = way_at way in
        record {
          block = s.block;
          before = s.before ++ i ∷ [];
          is = s.is;
          instructions = s.instructions ∙ sym (append_assoc s.before (i ∷ []) left);
          ends = s.ends;
          kept = keeps_same left (place_by i (place_of h)) (place_behind (s.before ++ i ∷ []) s.block.place) (place_next i left (place_of h) (place_behind s.before s.block.place) s.kept ∙ sym (behind_last s.before i s.block.place));
        }
    way_at (goes {h} {n} {l} {e} way to b at) =
        let s : IsAt g h n [] e = way_at way in
        let among : Among l (targets_of s.block.end) = subst (λ f. Among l (targets_of f)) s.ends to in
        let one : IsBlock u g s.block = all_at (IsBlock u g) g.blocks n s.block valid.blocks s.is in
        let whole : s.block.instructions ≡ s.before = s.instructions ∙ append-nil s.before in
        let leads : KeepsPlace b.instructions (place_at_end s.block) b.place = kept_on (place_at_end s.block) l b (all_among (λ m. IsKept (place_at_end s.block) (slice_get g.blocks m)) (targets_of s.block.end) l one.edges among) at in
        let same : place_at_end s.block ≡ place_of h = ap (λ l. place_behind l s.block.place) whole ∙ sym s.kept in
        record { block = b; before = []; is = at; instructions = refl; ends = refl; kept = subst (λ o. KeepsPlace b.instructions o b.place) same leads }

  -- Where a path came to.
  pub path_at : {h : History} {n : ℕ} {rest : List Instruction} {e : End} → Path g h n rest e → IsAt g h n rest e
  path_at (path b at way) = way_at b at way

  -- An instruction to which a path came, that is no marker, stands in the place in force.
  pub path_stands : (h : History) (n : ℕ) (i : Instruction) (rest : List Instruction) (e : End) (p : ℕ) → Path g h n (i ∷ rest) e → is_marker i ≡ false → place_of h ≡ Some p → StandsWith g p n (i ∷ rest) e
  path_stands h n i rest e p along plain place =
      let s = path_at along in
      record { block = s.block; before = s.before; is = s.is; instructions = s.instructions; ends = s.ends; place = sym (place_kept i rest (place_of h) (place_behind s.before s.block.place) plain s.kept) ∙ place }

  -- And the place in which it stands is in force.
  pub stands_path : (h : History) (n : ℕ) (i : Instruction) (rest : List Instruction) (e : End) (p : ℕ) → Path g h n (i ∷ rest) e → is_marker i ≡ false → StandsWith g p n (i ∷ rest) e → place_of h ≡ Some p
  stands_path h n i rest e p along plain st =
      let s = path_at along in
      let one : s.block ≡ st.block = same_Some s.block st.block (sym s.is ∙ st.is) in
      let parts : s.before ++ (i ∷ rest) ≡ st.before ++ (i ∷ rest) = sym s.instructions ∙ ap (λ (b : Block). b.instructions) one ∙ st.instructions in
      let front : s.before ≡ st.before = same_front (i ∷ rest) s.before st.before (ap length parts) parts in
      place_kept i rest (place_of h) (place_behind s.before s.block.place) plain s.kept
      ∙ ap (λ l. place_behind l s.block.place) front ∙ ap (λ (b : Block). place_behind st.before b.place) one ∙ st.place
