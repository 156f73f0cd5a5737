-- Instructions of a block, one after the other, and its end.
use Rattle.std.proofs.Common.{◌≡◌, ℕ, ◌+◌, ◌<◌, ◌≤◌, ◌++◌, Option, Some, None, List, [], ◌∷◌, length, get_or, take, drop, map, refl, sym, ap, ◌∙◌, subst, arith}
use Rattle.std.specs.Option.{option_or}
use Rattle.std.proofs.lemmas.List.{drop_all, drop_more, get_or-map, length-map, take_more}
use Rattle.debug_records.specs.declared.change.Place.{Place}
use Rattle.graph_core.specs.Graphs.{Instruction, Block, End, Scalar}
use Rattle.graph_core.specs.Points.{reads_at}
use Rattle.graph_core.specs.Uses.{marker_of, reads_of, reads_of_end}
use Rattle.graph_core.specs.Validity.{place_behind}
use Rattle.pass_law.specs.declared.cases.Case.{Case}
use Rattle.pass_law.specs.Changes.{Adds, Below, Numbered}
use Rattle.pass_law.proofs.Adding.{adds_first, adds_last, adds_next, adds_same}
use Rattle.copy_pass.specs.Points.{IsInBoth, IsReplacedAt, IsReplacedIn, placed}
use Rattle.copy_pass.specs.Reads.{IsOther}
use Rattle.graph_core.proofs.Among.{behind_last, behind_one}

abbrev pub index_of : Case → ℕ
index_of c = c.index

placed_or : (m s : Option Place) → placed (option_or m s) ≡ option_or (placed m) (placed s)
placed_or None s = refl
placed_or (Some q) s = refl

module _ {A : Type 0} (view : A → Instruction) (xs : List A) (k : ℕ) (x d : A) (lt : k < length xs) (is : x ≡ get_or xs k d) where
  there : get_or (map view xs) k (view d) ≡ view x
  there = get_or-map view xs k d (view d) lt ∙ ap view (sym is)

  inside : k < length (map view xs)
  inside = omega (arith, lt, length-map xs view)

  -- the place in force goes on over one instruction
  pub place_next : (m s : Option Place) (p : Option ℕ) → placed m ≡ marker_of (view x) → placed s ≡ place_behind (take k (map view xs)) p → placed (option_or m s) ≡ place_behind (take (k + 1) (map view xs)) p
  place_next m s p marks so_far =
      placed_or m s ∙ ap (λ a. option_or a (placed s)) marks ∙ ap (option_or (marker_of (view x))) so_far ∙ sym (behind_one (view x) (place_behind (take k (map view xs)) p))
      ∙ sym (behind_last (take k (map view xs)) (view x) p)
      ∙ ap (λ a. place_behind (take k (map view xs) ++ a ∷ []) p) (sym there)
      ∙ ap (λ l. place_behind l p) (sym (take_more (map view xs) k (view d) inside))

  -- what an instruction of a block reads is read where it stands
  pub reads_there : (e : End) → reads_of (view x) ≡ reads_at (drop k (map view xs)) e
  reads_there e = ap reads_of (sym there) ∙ ap (λ l. reads_at l e) (sym (drop_more (map view xs) k (view d) inside))

pub reads_last : (all : List Instruction) (k : ℕ) (e : End) → length all ≤ k → reads_of_end e ≡ reads_at (drop k all) e
reads_last all k e le = ap (λ l. reads_at l e) (sym (drop_all k all le))

pub in_both_there : (stood stands both p q : Option ℕ) → stood ≡ p → stands ≡ q → IsInBoth stood stands both → IsInBoth p q both
in_both_there stood stands both p q e f is = subst (λ a. IsInBoth a q both) e (subst (λ a. IsInBoth stood a both) f is)

module _ (scalars : List Scalar) (n : ℕ) (b d : Block) where
  abbrev IsIn : Case → Type 0
  IsIn c = IsReplacedIn scalars n b d c

  pub points_first : (old : List Case) → Adds (Below IsIn index_of 0) old old
  points_first old = adds_first IsIn index_of old

  module _ (k : ℕ) (both : Option ℕ) (was is : List ℕ) (le : k ≤ length b.instructions) (in_both : IsInBoth (place_behind (take k b.instructions) b.place) (place_behind (take k d.instructions) d.place) both)
      (before : was ≡ reads_at (drop k b.instructions) b.end) (after : is ≡ reads_at (drop k d.instructions) d.end) where
    in_block : (c : Case) → IsReplacedAt scalars both n k was is c → Numbered IsIn index_of k c
    in_block c h =
        let places = (in_both c.place.0).0 h.in_place in (
          record {
            within = omega (arith, le, h.at_index);
            stood = subst (λ j. place_behind (take j b.instructions) b.place ≡ Some c.place.0) (sym h.at_index) places.0;
            stands = subst (λ j. place_behind (take j d.instructions) d.place ≡ Some c.place.0) (sym h.at_index) places.1;
            in_block = h.in_block;
            x = h.x;
            other = subst (λ j. IsOther (reads_at (drop j b.instructions) b.end) (reads_at (drop j d.instructions) d.end) c.operand h.x) (sym h.at_index)
                (subst (λ l. IsOther (reads_at (drop k b.instructions) b.end) l c.operand h.x) after (subst (λ l. IsOther l is c.operand h.x) before h.other));
            variable = h.variable;
          },
          h.at_index,
        )

    at_point : (c : Case) → Numbered IsIn index_of k c → IsReplacedAt scalars both n k was is c
    at_point c h = record {
      in_place = (in_both c.place.0).1 (subst (λ j. place_behind (take j b.instructions) b.place ≡ Some c.place.0) h.1 h.0.stood, subst (λ j. place_behind (take j d.instructions) d.place ≡ Some c.place.0) h.1 h.0.stands);
      in_block = h.0.in_block;
      at_index = h.1;
      x = h.0.x;
      other = subst (λ l. IsOther l is c.operand h.0.x) (sym before) (subst (λ l. IsOther (reads_at (drop k b.instructions) b.end) l c.operand h.0.x) (sym after)
          (subst (λ j. IsOther (reads_at (drop j b.instructions) b.end) (reads_at (drop j d.instructions) d.end) c.operand h.0.x) h.1 h.0.other));
      variable = h.0.variable;
    }

    pub point_step : (old mid new : List Case) → Adds (Below IsIn index_of k) old mid → Adds (IsReplacedAt scalars both n k was is) mid new → Adds (Below IsIn index_of (k + 1)) old new
    point_step old mid new so_far adds = adds_next IsIn index_of k old mid new so_far (adds_same (IsReplacedAt scalars both n k was is) (Numbered IsIn index_of k) mid new in_block at_point adds)

  -- all points were gone over, the last of which is the block's end
  pub points_done : (k : ℕ) (old new : List Case) → k ≡ length b.instructions → Adds (Below IsIn index_of (k + 1)) old new → Adds IsIn old new
  points_done k old new whole adds = adds_last IsIn index_of (k + 1) old new (λ c h. (let within = h.within in omega (arith, whole, within))) adds
