-- What a whole search tells.
use Rattle.std.proofs.Common.{◌≡◌, ℕ, suc, ◌+◌, ◌*◌, ◌≤◌, inl, inr, Bool, true, false, Some, List, [], length, sym, ap, ◌∙◌, subst, arith}
use Rattle.std.specs.Prelude.{◌↔◌, slice_get}
use Rattle.std.proofs.lemmas.List.{length-append}
use Rattle.std.proofs.lemmas.Option.{slice_get_within}
use Rattle.places.specs.declared.flow.Assignment.{Assignment}
use Rattle.graph_core.specs.Graphs.{Block, Graph}
use Rattle.dead_pass_rule.specs.Certified.{AreIdle}
use Rattle.dead_pass_writes.specs.declared.writes.Spot.{Spot}
use Rattle.dead_pass_notes.specs.declared.scans.Scanned.TheVariants.{Stops}
use Rattle.dead_pass_notes.specs.declared.ways.Way.{Way}
use Rattle.dead_pass_notes.specs.declared.ways.Ways.{Ways}
use Rattle.dead_pass_notes.specs.Between.{IsWrittenBetween}
use Rattle.dead_pass_notes.specs.Scans.{scan_of, AreSeen, HasGrown, GoesOn, IsReady, SomeComes}
use Rattle.dead_pass_notes.specs.Spots.{left_at, end_at, IsPoint}
use Rattle.dead_pass_notes.proofs.PlaceWaysPoints.{Stands, stands}
use Rattle.dead_pass_notes.proofs.Scanning.{scan_stops, written_on}
use Rattle.dead_pass_notes.proofs.Searching.{IsSearched, among_none, comes_back, searched_next, searched_skip}

-- A search goes on from these states to those, of which it has gone on from so many.
pub record IsSearching (g : Graph) (goes : (block left : ℕ) → Bool) (to : Spot) (y : ℕ) (first now : Ways) (at : ℕ) : Type 0 where
  pub count : length now.seen.items ≡ length first.seen.items
  pub seen : AreSeen first → AreSeen now
  pub within : at ≤ length now.ahead.items
  pub searched : (assignments : List Assignment) (ready : IsReady assignments g goes to first) → AreSeen first → IsSearched g goes ready.idle to y ready.point first.ahead.items now.ahead.items at

module _ (g : Graph) (goes : (block left : ℕ) → Bool) (to : Spot) (y : ℕ) (first now : Ways) (at : ℕ) (w : Way) (is : slice_get now.ahead.items at ≡ Some w) (so_far : IsSearching g goes to y first now at) where
  pub searching_on : (new : Ways) (b : Block) → slice_get g.blocks w.block ≡ Some b → length new.seen.items ≡ length now.seen.items → (AreSeen now → AreSeen new)
      → HasGrown b.end (scan_of goes to y w.block w.is_written b.instructions) now.ahead.items new.ahead.items
      → ((count : ℕ) → length now.seen.items ≡ count * 2 → AreSeen now → GoesOn count new.ahead.items b.end (scan_of goes to y w.block w.is_written b.instructions))
      → IsSearching g goes to y first new (at + 1)
  searching_on new b there size seen grown on =
      let inside = slice_get_within now.ahead.items at w is in
      let long : length new.ahead.items ≡ length now.ahead.items + length grown.more = ap (λ l. length l) grown.is ∙ length-append now.ahead.items grown.more in
      record {
        count = size ∙ so_far.count;
        seen = λ s. seen (so_far.seen s);
        within = omega (arith, inside, long);
        searched = λ assignments ready s. searched_next g goes ready.idle to y ready.point first.ahead.items now.ahead.items new.ahead.items at w b is there grown (on (length g.blocks) (so_far.count ∙ ready.count) (so_far.seen s)) (so_far.searched assignments ready s);
      }

  pub searching_skip : ((b : Block) → slice_get g.blocks w.block ≡ Some b → ⊥) → IsSearching g goes to y first now (at + 1)
  searching_skip none =
      let inside = slice_get_within now.ahead.items at w is in
      record {
        count = so_far.count;
        seen = so_far.seen;
        within = omega (arith, inside);
        searched = λ assignments ready s. searched_skip g goes ready.idle to y ready.point first.ahead.items now.ahead.items at w is none (so_far.searched assignments ready s);
      }

module _ {assignments : List Assignment} (g : Graph) (goes : (block left : ℕ) → Bool) (are : AreIdle assignments g goes) (to : Spot) (y : ℕ) (point : IsPoint g to.block (suc to.left)) (n left : ℕ) (from : IsPoint g n left) where
  abbrev Between : Type 0
  Between = IsWrittenBetween assignments g to.block (left_at g to.block (suc to.left)) y n (left_at g n left) (end_at g n)

  -- the first scan stops there
  pub found_at_once : scan_of goes to y n false (left_at g n left) ≡ Stops true → Between
  found_at_once stops =
      let st = stands g n left from in
      subst (λ e. IsWrittenBetween assignments g to.block (left_at g to.block (suc to.left)) y n (left_at g n left) e) (sym st.ends) (scan_stops g goes are to y point n st.block st.before (left_at g n left) st.is st.parts false stops)

  none_comes_yet : SomeComes assignments g to y [] → ⊥
  none_comes_yet some = among_none some.has_come

  -- or it goes on
  pub found_on : (old ahead : List Way) → old ≡ [] → HasGrown (end_at g n) (scan_of goes to y n false (left_at g n left)) old ahead → GoesOn (length g.blocks) ahead (end_at g n) (scan_of goes to y n false (left_at g n left)) → SomeComes assignments g to y ahead ↔ Between
  found_on old ahead none grown go = (to_between, on)
    where
      st : Stands g n left
      st = stands g n left from

      to_between : SomeComes assignments g to y ahead → Between
      to_between some =
          let grown_there = subst (λ e. HasGrown e (scan_of goes to y n false (left_at g n left)) old ahead) st.ends grown in
          elim (comes_back g goes are to y point n st.block st.before (left_at g n left) st.is st.parts false old ahead grown_there some) [
            | inl before ↦ absurd (none_comes_yet (let P : List Way → Type 0 = λ ways. SomeComes assignments g to y ways in subst P none before))
            | inr comes ↦ subst (λ e. IsWrittenBetween assignments g to.block (left_at g to.block (suc to.left)) y n (left_at g n left) e) (sym st.ends) comes
          ]

      on : Between → SomeComes assignments g to y ahead
      on between = written_on g goes are to y point ahead between st.block st.before st.is st.parts st.ends false go
