-- Instructions of a block, one after the other.
use Rattle.std.proofs.Common.{◌≡◌, ℕ, ◌+◌, ◌-◌, ◌<◌, ◌≤◌, ◌++◌, Bool, Option, Some, None, List, [], ◌∷◌, length, get_or, take, map, refl, sym, ap, ◌∙◌, arith}
use Rattle.std.specs.Option.{option_or}
use Rattle.std.specs.Prelude.{slice_get}
use Rattle.std.proofs.lemmas.List.{get_or-map, length-map, take_more}
use Rattle.std.proofs.lemmas.Option.{same_Some, slice_get_within}
use Rattle.debug_records.specs.declared.change.Place.{Place}
use Rattle.graph_core.specs.Graphs.{Instruction, Block, Scalar}
use Rattle.graph_core.specs.Uses.{marker_of, target_of}
use Rattle.graph_core.specs.Validity.{place_behind}
use Rattle.pass_law.specs.declared.cases.Case.{Case}
use Rattle.pass_law.specs.Changes.{Adds, Below, Numbered}
use Rattle.pass_law.proofs.Adding.{adds_first, adds_last, adds_next, adds_same}
use Rattle.dead_pass_notes.specs.Points.{IsRemovedAt, IsRemovedIn, placed}
use Rattle.graph_core.proofs.Among.{behind_last, behind_one}

abbrev pub index_of : Case → ℕ
index_of c = c.index

placed_or : (m s : Option Place) → placed (option_or m s) ≡ option_or (placed m) (placed s)
placed_or None s = refl
placed_or (Some q) s = refl

-- the place in force goes on over one instruction
pub place_next : {A : Type 0} (view : A → Instruction) (xs : List A) (k : ℕ) (x d : A) → k < length xs → x ≡ get_or xs k d → (m s : Option Place) (p : Option ℕ) → placed m ≡ marker_of (view x)
    → placed s ≡ place_behind (take k (map view xs)) p → placed (option_or m s) ≡ place_behind (take (k + 1) (map view xs)) p
place_next view xs k x d lt is m s p marks so_far =
    let there : get_or (map view xs) k (view d) ≡ view x = get_or-map view xs k d (view d) lt ∙ ap view (sym is) in
    let inside : k < length (map view xs) = omega (arith, lt, length-map xs view) in
    placed_or m s ∙ ap (λ a. option_or a (placed s)) marks ∙ ap (option_or (marker_of (view x))) so_far ∙ sym (behind_one (view x) (place_behind (take k (map view xs)) p))
    ∙ sym (behind_last (take k (map view xs)) (view x) p)
    ∙ ap (λ a. place_behind (take k (map view xs) ++ a ∷ []) p) (sym there)
    ∙ ap (λ l. place_behind l p) (sym (take_more (map view xs) k (view d) inside))

module _ (scalars : List Scalar) (goes : (left : ℕ) → Bool) (n : ℕ) (b : Block) where
  abbrev IsIn : Case → Type 0
  IsIn c = IsRemovedIn scalars goes n b c

  pub points_first : (old : List Case) → Adds (Below IsIn index_of 0) old old
  points_first old = adds_first IsIn index_of old

  module _ (k : ℕ) (i : Instruction) (going : Bool) (place target : Option ℕ) (there : slice_get b.instructions k ≡ Some i) (is_going : going ≡ goes (length b.instructions - 1 - k))
      (in_place : place ≡ place_behind (take k b.instructions) b.place) (is_target : target ≡ target_of i) where
    in_block : (c : Case) → IsRemovedAt scalars going place n k target c → Numbered IsIn index_of k c
    in_block c h = (
      record {
        instruction = i;
        is = ap (slice_get b.instructions) h.at_index ∙ there;
        gone = ap (λ j. goes (length b.instructions - 1 - j)) h.at_index ∙ sym is_going ∙ h.gone;
        in_place = ap (λ j. place_behind (take j b.instructions) b.place) h.at_index ∙ sym in_place ∙ h.in_place;
        in_block = h.in_block;
        x = h.x;
        written = sym is_target ∙ h.written;
        variable = h.variable;
        no_read = h.no_read;
      },
      h.at_index,
    )

    at_point : (c : Case) → Numbered IsIn index_of k c → IsRemovedAt scalars going place n k target c
    at_point c h =
        let same : h.0.instruction ≡ i = same_Some h.0.instruction i (sym h.0.is ∙ ap (slice_get b.instructions) h.1 ∙ there) in
        record {
          gone = is_going ∙ sym (ap (λ j. goes (length b.instructions - 1 - j)) h.1) ∙ h.0.gone;
          in_place = in_place ∙ sym (ap (λ j. place_behind (take j b.instructions) b.place) h.1) ∙ h.0.in_place;
          in_block = h.0.in_block;
          at_index = h.1;
          x = h.0.x;
          written = is_target ∙ sym (ap target_of same) ∙ h.0.written;
          variable = h.0.variable;
          no_read = h.0.no_read;
        }

    pub point_step : (old mid new : List Case) → Adds (Below IsIn index_of k) old mid → Adds (IsRemovedAt scalars going place n k target) mid new → Adds (Below IsIn index_of (k + 1)) old new
    point_step old mid new so_far adds = adds_next IsIn index_of k old mid new so_far (adds_same (IsRemovedAt scalars going place n k target) (Numbered IsIn index_of k) mid new in_block at_point adds)

  -- all instructions were gone over
  pub points_done : (k : ℕ) (old new : List Case) → length b.instructions ≤ k → Adds (Below IsIn index_of k) old new → Adds IsIn old new
  points_done k old new whole adds = adds_last IsIn index_of k old new (λ c h. (let within = slice_get_within b.instructions c.index h.instruction h.is in omega (arith, whole, within))) adds
