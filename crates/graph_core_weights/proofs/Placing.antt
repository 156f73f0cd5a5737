-- What a path has written in the place in force an instruction of that place writes, or the call that binds the parameters.
use Rattle.std.proofs.Common.{◌≡◌, ◌⊎◌, inl, inr, ℕ, Bool, true, false, Option, Some, None, List, [], ◌∷◌, ◌++◌, slice_get, refl, sym, ap, ◌∙◌, subst, arith, if◌then◌else◌, ◌==◌}
use Rattle.std.specs.Prelude.{◌||◌}
use Rattle.std.specs.List.{AllByRecursion}
use Rattle.std.proofs.lemmas.Bool.Decides.{nat_tests}
use Rattle.graph_core.specs.Graphs.{Instruction, Marker, Note, Move, Operate, Truncate, Same, Address, Load, Store, Zero, CopyWords, Call, End, Block, Graph, UnitForm}
use Rattle.graph_core.specs.Uses.{targets_of}
use Rattle.graph_core.specs.Paths.{History, Among, Way, stays, passes, goes, Path, path, place_of, place_by, is_marker, is_bound, bound_at, writes, written}
use Rattle.graph_core.specs.Validity.{IsBlock, IsKept, KeepsPlace, place_behind}
use Rattle.graph_core.specs.WellMarked.{StandsIn, here, behind as further, InPlace, WrittenIn, instruction, bound}
use Rattle.base_laws.proofs.Booleans.{two_true as and_parts}
use Rattle.base_laws.proofs.Lists.{append_nil as nothing_behind, one_behind}
use Rattle.base_laws.proofs.Numbers.{false_true}
use Rattle.base_laws.proofs.Options.{some_same}
pub use Rattle.base_laws.proofs.Lists.{got_one}
use Rattle.graph_core.proofs.Among.{one_of_all}

-- the place behind one more instruction
place_on : (j : Instruction) (all : List Instruction) (place : Option ℕ) → place_behind (j ∷ all) place ≡ place_behind all (place_by j place)
place_on (Marker p) all place = refl
place_on (Note y v) all place = refl
place_on (Move y a) all place = refl
place_on (Operate y o a b) all place = refl
place_on (Truncate y t a) all place = refl
place_on (Same y a b) all place = refl
place_on (Address y o) all place = refl
place_on (Load y e l) all place = refl
place_on (Store e l a) all place = refl
place_on (Zero o k) all place = refl
place_on (CopyWords o b k) all place = refl
place_on (Call y f all') all place = refl

place_append : (xs : List Instruction) (i : Instruction) (place : Option ℕ) → place_behind (xs ++ i ∷ []) place ≡ place_by i (place_behind xs place)
place_append [] i place = place_on i [] place
place_append (j ∷ xs) i place = place_on j (xs ++ i ∷ []) place ∙ place_append xs i (place_by j place) ∙ ap (λ o. place_by i o) (sym (place_on j xs place))

-- an instruction behind others stands in the place behind them
stands_behind : (p : ℕ) (i : Instruction) (rest before : List Instruction) (place : Option ℕ) → place_behind before place ≡ Some p → StandsIn p i place (before ++ i ∷ rest)
stands_behind p i rest [] place e = subst (λ o. StandsIn p i o (i ∷ rest)) (sym e) here
stands_behind p i rest (j ∷ before) place e = further (stands_behind p i rest before (place_behind (j ∷ []) place) (ap (place_behind before) (place_on j [] place) ∙ sym (place_on j before place) ∙ e))

same_keeps : (l : List Instruction) (place kept : Option ℕ) → place ≡ kept → KeepsPlace l place kept
same_keeps [] place kept e = e
same_keeps (Marker p ∷ l) place kept e = tt
same_keeps (Note y v ∷ l) place kept e = e
same_keeps (Move y a ∷ l) place kept e = e
same_keeps (Operate y o a b ∷ l) place kept e = e
same_keeps (Truncate y t a ∷ l) place kept e = e
same_keeps (Same y a b ∷ l) place kept e = e
same_keeps (Address y o ∷ l) place kept e = e
same_keeps (Load y e' k ∷ l) place kept e = e
same_keeps (Store e' k a ∷ l) place kept e = e
same_keeps (Zero o k ∷ l) place kept e = e
same_keeps (CopyWords o b k ∷ l) place kept e = e
same_keeps (Call y f all ∷ l) place kept e = e

-- the place in force behind an instruction
by_both : (i : Instruction) (l : List Instruction) (place kept : Option ℕ) → KeepsPlace (i ∷ l) place kept → place_by i place ≡ place_by i kept
by_both (Marker p) l place kept h = refl
by_both (Note y v) l place kept h = h
by_both (Move y a) l place kept h = h
by_both (Operate y o a b) l place kept h = h
by_both (Truncate y t a) l place kept h = h
by_both (Same y a b) l place kept h = h
by_both (Address y o) l place kept h = h
by_both (Load y e k) l place kept h = h
by_both (Store e k a) l place kept h = h
by_both (Zero o k) l place kept h = h
by_both (CopyWords o b k) l place kept h = h
by_both (Call y f all) l place kept h = h

-- no marker, no other place
kept_by : (i : Instruction) (place : Option ℕ) → is_marker i ≡ false → place_by i place ≡ place
kept_by (Marker p) place h = cc
kept_by (Note y v) place h = refl
kept_by (Move y a) place h = refl
kept_by (Operate y o a b) place h = refl
kept_by (Truncate y t a) place h = refl
kept_by (Same y a b) place h = refl
kept_by (Address y o) place h = refl
kept_by (Load y e l) place h = refl
kept_by (Store e l a) place h = refl
kept_by (Zero o k) place h = refl
kept_by (CopyWords o b k) place h = refl
kept_by (Call y f all) place h = refl

pub marker_is : (i : Instruction) → is_marker i ≡ true → (p : ℕ) × (i ≡ Marker p)
marker_is (Marker p) h = (p, refl)
marker_is (Note y v) h = cc
marker_is (Move y a) h = cc
marker_is (Operate y o a b) h = cc
marker_is (Truncate y t a) h = cc
marker_is (Same y a b) h = cc
marker_is (Address y o) h = cc
marker_is (Load y e l) h = cc
marker_is (Store e l a) h = cc
marker_is (Zero o k) h = cc
marker_is (CopyWords o b k) h = cc
marker_is (Call y f all) h = cc

-- Where a path stands: what is left of a block, and the place in force there.
pub record StandsAt (g : Graph) (h : History) (n : ℕ) (rest : List Instruction) (e : End) : Type 0 where
  pub block : Block
  pub is : slice_get g.blocks n ≡ Some block
  pub before : List Instruction
  pub whole : block.instructions ≡ before ++ rest
  pub ends : e ≡ block.end
  pub place : KeepsPlace rest (place_of h) (place_behind before block.place)

module _ (u : UnitForm) (g : Graph) (valid : AllByRecursion (IsBlock u g) g.blocks) (begins : (b : Block) → slice_get g.blocks 0 ≡ Some b → (rest : List Instruction) × (b.instructions ≡ Marker g.entry ∷ rest)) where
  way_stands : {b0 : Block} {h : History} {n : ℕ} {rest : List Instruction} {e : End} → slice_get g.blocks 0 ≡ Some b0 → Way g 0 b0.instructions b0.end h n rest e → StandsAt g h n rest e
  way_stands {b0 = b0} is stays =
      let r = begins b0 is in record { block = b0; is = is; before = []; whole = refl; ends = refl; place = subst (λ (l : List Instruction). KeepsPlace l None b0.place) (sym r.1) tt }
  way_stands is (passes {h = h} {n = n} {i = i} {left = left} {e = e} way v) =
      let s = way_stands is way in
      let same = by_both i left (place_of h) (place_behind s.before s.block.place) s.place in
      record {
        block = s.block;
        is = s.is;
        before = s.before ++ i ∷ [];
        whole = s.whole ∙ one_behind s.before i left;
        ends = s.ends;
        place = same_keeps left (place_by i (place_of h)) (place_behind (s.before ++ i ∷ []) s.block.place) (same ∙ sym (place_append s.before i s.block.place));
      }
  way_stands is (goes {h = h} {l = l} {e = e} way a b at) =
      let s = way_stands is way in
      let block = got_one (IsBlock u g) g.blocks _ s.block valid s.is in
      let end_place : place_of h ≡ place_behind s.block.instructions s.block.place = s.place ∙ ap (λ (m : List Instruction). place_behind m s.block.place) (sym (s.whole ∙ nothing_behind s.before)) in
      let kept = one_of_all (λ m. IsKept (place_behind s.block.instructions s.block.place) (slice_get g.blocks m)) (targets_of s.block.end) l block.edges (subst (λ (d : End). Among l (targets_of d)) s.ends a) in
      record {
        block = b;
        is = at;
        before = [];
        whole = refl;
        ends = refl;
        place = subst (λ o. KeepsPlace b.instructions o b.place) (sym end_place) (subst (λ r. IsKept (place_behind s.block.instructions s.block.place) r) at kept);
      }

  -- Where a path stands.
  pub stands_at : (h : History) (n : ℕ) (rest : List Instruction) (e : End) → Path g h n rest e → StandsAt g h n rest e
  stands_at h n rest e (path b is way) = way_stands is way

  -- before an instruction that is no marker the place in force is that of its block
  pub place_before : (h : History) (n : ℕ) (p : ℕ) (i : Instruction) (rest : List Instruction) (e : End) (s : StandsAt g h n (i ∷ rest) e) → is_marker i ≡ false → place_of h ≡ Some p → place_behind s.before s.block.place ≡ Some p
  place_before h n p i rest e s off at =
      (let same : place_of h ≡ place_behind s.before s.block.place = sym (kept_by i (place_of h) off) ∙ by_both i rest (place_of h) (place_behind s.before s.block.place) s.place ∙ kept_by i (place_behind s.before s.block.place) off in
      sym same ∙ at)

  -- an instruction that a path comes to, and that is no marker, stands in the place in force
  in_place : (h : History) (n : ℕ) (p : ℕ) (i : Instruction) (rest : List Instruction) (e : End) → StandsAt g h n (i ∷ rest) e → is_marker i ≡ false → place_of h ≡ Some p → InPlace g p i
  in_place h n p i rest e s off at = record {
    number = n;
    block = s.block;
    is = s.is;
    stands = subst (λ (l : List Instruction). StandsIn p i s.block.place l) (sym s.whole) (stands_behind p i rest s.before s.block.place (place_before h n p i rest e s off at));
  }

  pub path_in_place : (h : History) (n : ℕ) (p : ℕ) (i : Instruction) (rest : List Instruction) (e : End) → Path g h n (i ∷ rest) e → is_marker i ≡ false → place_of h ≡ Some p → InPlace g p i
  path_in_place h n p i rest e way off at = in_place h n p i rest e (stands_at h n (i ∷ rest) e way) off at

  module _ (x p : ℕ) where
    or_cases : (a b : Bool) → a || b ≡ true → (a ≡ true) ⊎ (b ≡ true)
    or_cases true b h = inl refl
    or_cases false b h = inr h

    at_entry : (q : ℕ) → bound_at g x (Marker q) ≡ true → q ≡ p → WrittenIn g p x
    at_entry q w same = let b = and_parts (q == g.entry) (is_bound x g.parameters) w in bound (sym same ∙ same_name q g.entry b.0) b.1
      where
        same_name : (a b : ℕ) → (a == b) ≡ true → a ≡ b
        same_name a b h = grind (arith, nat_tests)

    way_writes : {b0 : Block} {h : History} {n : ℕ} {rest : List Instruction} {e : End} → slice_get g.blocks 0 ≡ Some b0 → Way g 0 b0.instructions b0.end h n rest e → written g x h ≡ true → place_of h ≡ Some p → WrittenIn g p x
    way_writes is stays w at = absurd (false_true w)
    way_writes is (passes {h = h} {n = n} {i = i} {left = left} {e = e} way v) w at = by (way_stands is way) (way_writes is way) (is_marker i) refl
      where
        by : StandsAt g h n (i ∷ left) e → (written g x h ≡ true → place_of h ≡ Some p → WrittenIn g p x) → (b : Bool) → is_marker i ≡ b → WrittenIn g p x
        by s again true m =
            let q = marker_is i m in
            at_entry q.0 (subst (λ (j : Instruction). bound_at g x j ≡ true) q.1 (subst (λ c. (if c then bound_at g x i else (writes x i || written g x h)) ≡ true) m w)) (some_same (subst (λ (j : Instruction). place_by j (place_of h) ≡ Some p) q.1 at))
        by s again false m = one (or_cases (writes x i) (written g x h) (subst (λ c. (if c then bound_at g x i else (writes x i || written g x h)) ≡ true) m w))
          where
            before : place_of h ≡ Some p
            before = sym (kept_by i (place_of h) m) ∙ at

            one : (writes x i ≡ true) ⊎ (written g x h ≡ true) → WrittenIn g p x
            one (inl y) = instruction i (in_place h n p i left e s m before) y
            one (inr y) = again y before
    way_writes is (goes way a b at') w at = way_writes is way w at

    -- What a path has written in the place in force, that place writes.
    pub path_writes : (h : History) (n : ℕ) (rest : List Instruction) (e : End) → Path g h n rest e → written g x h ≡ true → place_of h ≡ Some p → WrittenIn g p x
    path_writes h n rest e (path b is way) w at = way_writes is way w at
