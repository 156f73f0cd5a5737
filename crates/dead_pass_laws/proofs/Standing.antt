-- What stands in a place of the graph after, and of the graph before.
use Rattle.std.proofs.Common.{◌≡◌, ℕ, ◌⊎◌, inl, inr, Option, Some, None, List, [], ◌∷◌, ◌++◌, length, refl, sym, ap, ◌∙◌, subst, arith}
use Rattle.std.proofs.lemmas.List.{length-append}
use Rattle.places.specs.declared.flow.Assignment.{Assignment}
use Rattle.graph_core.specs.Graphs.{Instruction, Call, End, Block, Graph, Logged, UnitForm}
use Rattle.graph_core.specs.Points.{StandsWith}
use Rattle.graph_core.specs.Validity.{place_behind}
use Rattle.graph_core.specs.WellMarked.{StandsIn, here, behind, InPlace}
use Rattle.dead_pass_rule.specs.Idle.{Goes}
use Rattle.dead_pass_rule.specs.Removing.{without}
use Rattle.dead_pass_notes.specs.Said.{AreSaid, ends, gone, stays}
use Rattle.dead_pass.specs.LeftBy.{IsKeptAs}
use Rattle.dead_pass_laws.proofs.Came.{reduced_graph, IsTaken}
use Rattle.dead_pass_laws.proofs.Noted.{behind_one}
use Rattle.dead_pass_laws.proofs.Points.{first_same, rest_same}
use Rattle.dead_pass_laws.specs.Staying.{IsLeft, stays as left_stays, untargeted}
use Rattle.dead_pass_laws.proofs.Instructions.{GoesAs, computed, called, goes_as, computed_plain, said_kept, left_like}
use Rattle.dead_pass_laws.proofs.Ways.{was_block, block_after}

-- ---- Lists of instructions

-- Nothing stands among no instructions.
stands_none : {p : ℕ} {j : Instruction} {place : Option ℕ} {all : List Instruction} → StandsIn p j place all → all ≡ [] → ⊥
stands_none (here {all}) none = (let l = ap length none in omega (arith, l))
stands_none (behind {j = k} {all} s) none = (let l = ap length none in omega (arith, l))

-- What stands among instructions is the first of them, where the place is in force, or stands behind it.
stands_cases : {p : ℕ} {j k : Instruction} {place : Option ℕ} {all : List Instruction} → StandsIn p j place (k ∷ all) → ((place ≡ Some p) × (k ≡ j)) ⊎ StandsIn p j (place_behind (k ∷ []) place) all
stands_cases here = inl (refl, refl)
stands_cases (behind s) = inr s

-- An instruction stands in a place among others, behind these.
record StandsAt (p : ℕ) (i : Instruction) (place : Option ℕ) (all : List Instruction) : Type 0 where
  before : List Instruction
  rest : List Instruction
  whole : all ≡ before ++ i ∷ rest
  in_force : place_behind before place ≡ Some p

-- So does what stands in a place.
stands_at : {p : ℕ} {i : Instruction} {place : Option ℕ} {all : List Instruction} → StandsIn p i place all → StandsAt p i place all
stands_at (here {all}) = record { before = []; rest = all; whole = refl; in_force = refl }
stands_at {place = place} (behind {j} s) =
    let later = stands_at s in
    record { before = j ∷ later.before; rest = later.rest; whole = ap (λ l. j ∷ l) later.whole; in_force = sym (behind_one j later.before place) ∙ later.in_force }

-- ---- From after to before

module _ (assignments : List Assignment) (log : List Logged) (g : Graph) (n : ℕ) (e : End) (p : ℕ) (j : Instruction) where
  -- Among instructions before stood one in the place, of which this is left.
  record StoodIn (place : Option ℕ) (all : List Instruction) : Type 0 where
    instruction : Instruction
    before : List Instruction
    rest : List Instruction
    whole : all ≡ before ++ instruction ∷ rest
    in_force : place_behind before place ≡ Some p
    left : IsLeft assignments log g n rest e instruction j

  -- So it did with one more before it,
  stood_later : (i : Instruction) (place : Option ℕ) (rest : List Instruction) → StoodIn (place_behind (i ∷ []) place) rest → StoodIn place (i ∷ rest)
  stood_later i place rest s = record {
    instruction = s.instruction;
    before = i ∷ s.before;
    rest = s.rest;
    whole = ap (λ l. i ∷ l) s.whole;
    in_force = sym (behind_one i s.before place) ∙ s.in_force;
    left = s.left;
  }

  -- as the first of them,
  stood_first : (i k : Instruction) (place : Option ℕ) (rest : List Instruction) → place ≡ Some p → k ≡ j → IsLeft assignments log g n rest e i k → StoodIn place (i ∷ rest)
  stood_first i k place rest at one left = record { instruction = i; before = []; rest = rest; whole = refl; in_force = at; left = subst (λ l. IsLeft assignments log g n rest e i l) one left }

  -- and with one that goes before it, or as that.
  stood_going : (i : Instruction) (place : Option ℕ) (rest others : List Instruction) → GoesAs i → Goes assignments g n (i ∷ rest) e → ((o : Option ℕ) → StandsIn p j o others → StoodIn o rest) → StandsIn p j place (without i ++ others) → StoodIn place (i ∷ rest)
  stood_going i place rest others (computed is) it_goes later s =
      stood_later i place rest (later (place_behind (i ∷ []) place) (subst (λ o. StandsIn p j o others) (sym ((computed_plain i is).place [] place)) (subst (λ l. StandsIn p j place (l ++ others)) (computed_plain i is).left s)))
  stood_going _ place rest others (called {x} {f} {all}) it_goes later s = elim (stands_cases s) [
    | inl first ↦ stood_first (Call (Some x) f all) (Call None f all) place rest first.0 first.1 (untargeted it_goes)
    | inr more ↦ stood_later (Call (Some x) f all) place rest (later place more)
  ]

  -- What stands in a place among what is left stood there.
  stood_in : (place : Option ℕ) (xs ys : List Instruction) → AreSaid assignments log g n e xs ys → StandsIn p j place ys → StoodIn place xs
  stood_in place xs ys ends s = absurd (stands_none s refl)
  stood_in place xs ys (gone {i} {rest} {after = others} it_goes said) s = stood_going i place rest others (goes_as g n i rest e it_goes) it_goes (λ o more. stood_in o rest others said more) s
  stood_in place xs ys (stays {i} {j = k} {rest} {after = others} stay says said) s = elim (stands_cases s) [
    | inl first ↦ stood_first i k place rest first.0 first.1 (left_stays stay says)
    | inr more ↦ stood_later i place rest (stood_in (place_behind (i ∷ []) place) rest others said (subst (λ o. StandsIn p j o others) ((left_like log g n rest e (left_stays stay says)).behind place) more))
  ]

-- ---- From before to after

module _ (assignments : List Assignment) (log : List Logged) (g : Graph) (n : ℕ) (e : End) (p : ℕ) (i : Instruction) (rest : List Instruction) (stay : Goes assignments g n (i ∷ rest) e → ⊥) where
  -- An instruction that does not go stands in the place among what is left, itself or as a note of the same scalar.
  record StaysIn (place : Option ℕ) (ys : List Instruction) : Type 0 where
    other : Instruction
    kept : IsKeptAs i other
    stands : StandsIn p other place ys

  -- So it does behind what is left of one that goes.
  stays_going : (k : Instruction) (place : Option ℕ) (others : List Instruction) → GoesAs k → StaysIn (place_behind (k ∷ []) place) others → StaysIn place (without k ++ others)
  stays_going k place others (computed is) s = record {
    other = s.other;
    kept = s.kept;
    stands = subst (λ l. StandsIn p s.other place (l ++ others)) (sym (computed_plain k is).left) (subst (λ o. StandsIn p s.other o others) ((computed_plain k is).place [] place) s.stands);
  }
  stays_going _ place others called s = record { other = s.other; kept = s.kept; stands = behind s.stands }

  -- What stood in the place and does not go stands there among what is left.
  stays_in : (place : Option ℕ) (before xs ys : List Instruction) → AreSaid assignments log g n e xs ys → xs ≡ before ++ i ∷ rest → place_behind before place ≡ Some p → StaysIn place ys
  stays_in place before xs ys ends whole at = (let l = length-append before (i ∷ rest) in let m = ap length whole in absurd (omega (arith, l, m)))
  stays_in place [] xs ys (gone {i = k} {rest = more} it_goes said) whole at = absurd (stay (subst (λ l. Goes assignments g n l e) whole it_goes))
  stays_in place [] xs ys (stays {i = k} {j} {rest = more} {after = others} other says said) whole at = record {
    other = j;
    kept = subst (λ z. IsKeptAs z j) (first_same whole) (said_kept log g n more e says);
    stands = subst (λ o. StandsIn p j o (j ∷ others)) (sym at) here;
  }
  stays_in place (m ∷ before) xs ys (gone {i = k} {rest = more} {after = others} it_goes said) whole at =
      stays_going k place others (goes_as g n k more e it_goes)
      (stays_in (place_behind (k ∷ []) place) before more others said (rest_same whole) (ap (λ z. place_behind before (place_behind (z ∷ []) place)) (first_same whole) ∙ behind_one m before place ∙ at))
  stays_in place (m ∷ before) xs ys (stays {i = k} {j} {rest = more} {after = others} other says said) whole at =
      let s = stays_in (place_behind (k ∷ []) place) before more others said (rest_same whole) (ap (λ z. place_behind before (place_behind (z ∷ []) place)) (first_same whole) ∙ behind_one m before place ∙ at) in
      record {
        other = s.other;
        kept = s.kept;
        stands = behind (subst (λ o. StandsIn p s.other o others) (sym ((left_like log g n more e (left_stays other says)).behind place)) s.stands);
      }

-- ---- Graphs

-- What stands in a place stands at a point.
pub record IsPointOf (g : Graph) (p : ℕ) (i : Instruction) : Type 0 where
  pub n : ℕ
  pub rest : List Instruction
  pub end : End
  pub stands : StandsWith g p n (i ∷ rest) end

-- It does.
pub point_of : (g : Graph) (p : ℕ) (i : Instruction) → InPlace g p i → IsPointOf g p i
point_of g p i at =
    let s = stands_at at.stands in
    record {
      n = at.number;
      rest = s.rest;
      end = at.block.end;
      stands = record { block = at.block; before = s.before; is = at.is; instructions = s.whole; ends = refl; place = s.in_force };
    }

module _ (u : UnitForm) (log : List Logged) (g : Graph) (blocks : List Block) (taken : IsTaken u log g blocks) where
  -- An instruction stood at a point of the graph before in a place, of which this is left.
  pub record StoodBefore (p : ℕ) (j : Instruction) : Type 0 where
    pub n : ℕ
    pub instruction : Instruction
    pub rest : List Instruction
    pub end : End
    pub stands : StandsWith g p n (instruction ∷ rest) end
    pub left : IsLeft u.assignments log g n rest end instruction j

  -- WHAT STANDS IN A PLACE of the graph after is left of what stood there before.
  pub stood_before : (p : ℕ) (j : Instruction) → InPlace (reduced_graph g blocks) p j → StoodBefore p j
  stood_before p j at =
      let b = was_block u log g blocks taken at.number at.block at.is in
      let s = stood_in u.assignments log g at.number b.block.end p j b.block.place b.block.instructions at.block.instructions b.said (subst (λ o. StandsIn p j o at.block.instructions) b.place at.stands) in
      record {
        n = at.number;
        instruction = s.instruction;
        rest = s.rest;
        end = b.block.end;
        stands = record { block = b.block; before = s.before; is = b.is; instructions = s.whole; ends = refl; place = s.in_force };
        left = s.left;
      }

  -- An instruction stands in a place of the graph after, itself or as a note of the same scalar.
  pub record StandsAfter (p : ℕ) (i : Instruction) : Type 0 where
    pub other : Instruction
    pub kept : IsKeptAs i other
    pub stands : InPlace (reduced_graph g blocks) p other

  -- WHAT STOOD IN A PLACE of the graph before and does not go stands there after.
  pub stands_after : (p n : ℕ) (i : Instruction) (rest : List Instruction) (e : End) → StandsWith g p n (i ∷ rest) e → (Goes u.assignments g n (i ∷ rest) e → ⊥) → StandsAfter p i
  stands_after p n i rest e st stay =
      let c = block_after u log g blocks taken n st.block st.is in
      let s = stays_in u.assignments log g n st.block.end p i rest (λ it_goes. stay (subst (λ f. Goes u.assignments g n (i ∷ rest) f) (sym st.ends) it_goes)) st.block.place st.before st.block.instructions c.block.instructions c.said st.instructions st.place in
      record {
        other = s.other;
        kept = s.kept;
        stands = record { number = n; block = c.block; is = c.is; stands = subst (λ o. StandsIn p s.other o c.block.instructions) (sym c.place) s.stands };
      }
