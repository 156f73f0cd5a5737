-- A place that assigns a scalar once behind the removal of dead assignments did so before.
use Rattle.std.proofs.Common.{◌≡◌, ℕ, zero, suc, ◌+◌, ◌≤◌, ◌<◌, ◌⊎◌, inl, inr, Bool, true, false, true≢false, Option, Some, List, [], ◌∷◌, ◌++◌, length, refl, sym, ap, ◌∙◌, subst, arith}
use Rattle.std.specs.Prelude.{◌==◌, ◌&&◌, if◌then◌else◌, slice_get}
use Rattle.std.specs.List.{AllByRecursion}
use Rattle.std.specs.Option.{option_map_or}
use Rattle.std.proofs.lemmas.Bool.{and_parts, eqb-true}
use Rattle.std.proofs.lemmas.Option.{same_Some}
use Rattle.graph_core.specs.Graphs.{Instruction, Block, Graph, UnitForm}
use Rattle.graph_core.specs.Paths.{is_bound, writes}
use Rattle.graph_core.specs.Points.{assignments_in, is_place, writes_among, writes_in}
use Rattle.graph_core.specs.Validity.{place_behind, total}
use Rattle.dead_pass_rule.specs.Idle.{Goes, IsIdle, idle, MayGo, assigns_scalar}
use Rattle.cdbg_passes.specs.NothingLeft.{HasNoDead}
use Rattle.cdbg_passes.specs.Steps.{RemovesDead}
use Rattle.cdbg_passes.proofs.Functions.{each_so}
use Rattle.dead_pass_rule.specs.Removing.{AreReduced, ends, gone, stays as kept, IsReduced, StaysAs, same, noted, without}
use Rattle.cdbg_passes.proofs.Unassigned.{place_is}
use Rattle.cdbg_passes.proofs.NoDead.{LeftOf, nothing, call, left_of, goes_target, no_dead_before, no_write, place_kept, place_left, place_on, same_front, step_front}

total_same : (f k : Block → ℕ) (xs ys : List Block) → length ys ≡ length xs → ((n : ℕ) (b c : Block) → slice_get xs n ≡ Some b → slice_get ys n ≡ Some c → k c ≡ f b) → total k ys ≡ total f xs
total_same f k [] [] l each = refl
total_same f k [] (y ∷ ys) l each = absurd (omega (arith, l))
total_same f k (x ∷ xs) [] l each = absurd (omega (arith, l))
total_same f k (x ∷ xs) (y ∷ ys) l each =
    let one = each 0 x y refl refl in
    let rest = total_same f k xs ys (omega (arith, l)) (λ n b c is at. each (suc n) b c is at) in
    (λ i. one i + rest i)

module _ (u : UnitForm) (g h : Graph) (made : IsReduced u.assignments g h) (p x : ℕ) (scalar : x < length g.scalars) (more : assignments_in g p x ≡ 1 → ⊥) where
  -- a write of the scalar in the place stays
  stays_there : (n : ℕ) (b : Block) → slice_get g.blocks n ≡ Some b → (front : List Instruction) (i : Instruction) (rest : List Instruction) → b.instructions ≡ front ++ i ∷ rest → Goes u.assignments g n (i ∷ rest) b.end → (is_place p (place_behind front b.place) && writes x i) ≡ false
  stays_there n b is front i rest at goes_here = by_test (is_place p (place_behind front b.place) && writes x i) refl
    where
      of_idle : IsIdle u.assignments g n (i ∷ rest) b.end → is_place p (place_behind front b.place) ≡ true → writes x i ≡ true → ⊥
      of_idle (idle {p = q} {x = y} stands target may computed deeper) here wrote =
          let same_block : b ≡ stands.block = same_Some b stands.block (sym is ∙ stands.is) in
          let fronts : front ≡ stands.before = same_front front stands.before (i ∷ rest) (sym at ∙ ap (λ (c : Block). c.instructions) same_block ∙ stands.instructions) in
          let place : Some p ≡ Some q = sym (place_is p (place_behind front b.place) here) ∙ ap (λ (c : Block). place_behind front c.place) same_block ∙ ap (λ l. place_behind l stands.block.place) fronts ∙ stands.place in
          let p_is : p ≡ q = same_Some p q place in
          let y_is : y ≡ x = eqb-true y x (sym (ap (λ o. option_map_or (λ z. z == x) o false) target) ∙ wrote) in
          by_may may p_is y_is
        where
          by_may : MayGo u.assignments g q y → p ≡ q → y ≡ x → ⊥
          by_may (inl temporary) e f = (let t = temporary in let s = scalar in let low : y ≡ x = f in omega (arith, t, s, low))
          by_may (inr once) e f = more (ap (λ m. assignments_in g m x) e ∙ ap (assignments_in g q) (sym f) ∙ once.0)

      by_test : (t : Bool) → (is_place p (place_behind front b.place) && writes x i) ≡ t → t ≡ false
      by_test true e = (let both = and_parts (is_place p (place_behind front b.place)) (writes x i) e in absurd (of_idle goes_here.idle both.0 both.1))
      by_test false e = refl

  -- so as many writes of it stand there as before
  among_same : (n : ℕ) (b : Block) → slice_get g.blocks n ≡ Some b → (before after : List Instruction) → AreReduced u.assignments g n b.end before after → (front : List Instruction) → b.instructions ≡ front ++ before
      → writes_among p x (place_behind front b.place) after ≡ writes_among p x (place_behind front b.place) before
  among_same n b is [] after ends front at = refl
  among_same n b is (i ∷ rest) after (gone {after = behind} goes_here reduced) front at =
      let target = goes_target u goes_here in
      let o = place_behind front b.place in
      let quiet = stays_there n b is front i rest at goes_here in
      let deeper = among_same n b is rest behind reduced (front ++ i ∷ []) (step_front u g h made front i rest b.instructions at) in
      let here : place_behind (front ++ i ∷ []) b.place ≡ o = place_on front (i ∷ []) b.place ∙ place_kept i target.0 o target.1 in
      let at_rest : writes_among p x o behind ≡ writes_among p x o rest = subst (λ q. writes_among p x q behind ≡ writes_among p x q rest) here deeper in
      let before_is : writes_among p x o (i ∷ rest) ≡ writes_among p x o rest = ap (λ t. (if t then 1 else 0) + writes_among p x (place_behind (i ∷ []) o) rest) quiet ∙ zero_plus (writes_among p x (place_behind (i ∷ []) o) rest) ∙ ap (λ q. writes_among p x q rest) (place_kept i target.0 o target.1) in
      by_left o (left_of i target.0 target.1) at_rest ∙ sym before_is
    where
      zero_plus : (m : ℕ) → 0 + m ≡ m
      zero_plus m = omega arith

      and_false : (t : Bool) → (t && false) ≡ false
      and_false true = refl
      and_false false = refl

      by_left : (o : Option ℕ) → LeftOf i → writes_among p x o behind ≡ writes_among p x o rest → writes_among p x o (without i ++ behind) ≡ writes_among p x o rest
      by_left o (nothing none computed) e = ap (λ l. writes_among p x o (l ++ behind)) none ∙ e
      by_left o (call k one no_target reads) e =
          ap (λ l. writes_among p x o (l ++ behind)) one ∙ ap (λ t. (if is_place p o && t then 1 else 0) + writes_among p x (place_behind (k ∷ []) o) behind) (no_write u g h made x k no_target)
          ∙ ap (λ t. (if t then 1 else 0) + writes_among p x (place_behind (k ∷ []) o) behind) (and_false (is_place p o)) ∙ zero_plus (writes_among p x (place_behind (k ∷ []) o) behind) ∙ ap (λ q. writes_among p x q behind) (place_left i k o one) ∙ e
  among_same n b is (i ∷ rest) after (kept {j = j} {after = behind} stays_here as_is reduced) front at =
      let deeper = among_same n b is rest behind reduced (front ++ i ∷ []) (step_front u g h made front i rest b.instructions at) in
      by_stay i j as_is (place_behind front b.place) (subst (λ q. writes_among p x q behind ≡ writes_among p x q rest) (place_on front (i ∷ []) b.place) deeper)
    where
      by_stay : (i j : Instruction) → StaysAs g n rest b.end i j → (o : Option ℕ) → writes_among p x (place_behind (i ∷ []) o) behind ≡ writes_among p x (place_behind (i ∷ []) o) rest → writes_among p x o (j ∷ behind) ≡ writes_among p x o (i ∷ rest)
      by_stay i j same o e = ap (λ m. (if is_place p o && writes x i then 1 else 0) + m) e
      by_stay i j (noted reached) o e = ap (λ m. (if is_place p o && false then 1 else 0) + m) e

  -- and the place assigns it as often
  assigned_same : assignments_in h p x ≡ assignments_in g p x
  assigned_same =
      let entry : h.entry ≡ g.entry = ap (λ (q : Graph). q.entry) made.rest in
      let parameters : is_bound x h.parameters ≡ is_bound x g.parameters = ap (λ (q : Graph). is_bound x q.parameters) made.rest in
      let each : writes_in h p x ≡ writes_in g p x = total_same (λ b. writes_among p x b.place b.instructions) (λ b. writes_among p x b.place b.instructions) g.blocks h.blocks made.count (λ n b c is at. one n b c is at) in
      ap (λ e. (if p == e && is_bound x h.parameters then 1 else 0) + writes_in h p x) entry ∙ ap (λ t. (if p == g.entry && t then 1 else 0) + writes_in h p x) parameters ∙ ap (λ m. (if p == g.entry && is_bound x g.parameters then 1 else 0) + m) each
    where
      one : (n : ℕ) (b c : Block) → slice_get g.blocks n ≡ Some b → slice_get h.blocks n ≡ Some c → writes_among p x c.place c.instructions ≡ writes_among p x b.place b.instructions
      one n b c is at = (let r = made.blocks n b c is at in ap (λ o. writes_among p x o c.instructions) r.place ∙ among_same n b is b.instructions c.instructions r.instructions [] refl)

less_or_not : (a b : ℕ) → (a < b) ⊎ (b ≤ a)
less_or_not a zero = inr (omega arith)
less_or_not zero (suc b) = inl (omega arith)
less_or_not (suc a) (suc b) = elim (less_or_not a b) [ inl l ↦ inl (omega (arith, l)) | inr l ↦ inr (omega (arith, l)) ]

module _ (u : UnitForm) (g h : Graph) (made : IsReduced u.assignments g h) where
  may_go_before : (p x : ℕ) → MayGo u.assignments h p x → MayGo u.assignments g p x
  may_go_before p x (inl temporary) = inl (subst (λ m. m ≤ x) (ap (λ (q : Graph). length q.scalars) made.rest) temporary)
  may_go_before p x (inr once) = by_less (less_or_not x (length g.scalars))
    where
      by_test : (t : Bool) → (assignments_in g p x == 1) ≡ t → x < length g.scalars → assignments_in g p x ≡ 1
      by_test true e low = eqb-true (assignments_in g p x) 1 e
      by_test false e low = absurd (true≢false (sym (ap (λ m. m == 1) (sym (assigned_same u g h made p x low (λ o. true≢false (sym (ap (λ m. m == 1) o) ∙ e))) ∙ once.0)) ∙ e))

      by_less : (x < length g.scalars) ⊎ (length g.scalars ≤ x) → MayGo u.assignments g p x
      by_less (inl low) = inr (by_test (assignments_in g p x == 1) refl low, subst (λ (q : Graph). assigns_scalar u.assignments q p x ≡ true) made.rest once.1)
      by_less (inr high) = inl high

  -- No dead write is left.
  no_dead : (v : UnitForm) → v.assignments ≡ u.assignments → HasNoDead v h
  no_dead v shared n p x i rest e reached stands target may unread =
      no_dead_before u g h made n p x i rest e reached stands target (may_go_before p x (subst (λ all. MayGo all h p x) shared may)) unread

-- NO DEAD WRITE IS LEFT by a step of the removal of dead assignments.
pub no_dead_left : (u v : UnitForm) → RemovesDead u v → AllByRecursion (HasNoDead v) v.graphs
no_dead_left u v step = each_so (IsReduced u.assignments) (HasNoDead v) (λ g h made. no_dead u g h made v step.made.shared.assignments) u.graphs v.graphs step.functions
