-- Blocks that are put by a plan.
use Rattle.std.proofs.Common.{◌≡◌, ◌<◌, ◌≤◌, ◌-◌, ℕ, min, Bool, zero, suc, Some, List, [], ◌∷◌, length, map, take, drop, get_or, slice_get, refl, sym, ap, ◌∙◌, subst, arith}
use Rattle.graph_core.specs.Graphs.{Block, Graph}
use Rattle.rv_emit_words.specs.declared.piece.Held.{Held}
use Rattle.rv_emit_words.specs.declared.piece.PlacedPiece.{PlacedPiece}
use Rattle.rv_emit_plan.specs.declared.planning.Plan.{Plan}
use Rattle.rv_emit_plan.specs.Plans.{held_at, HoldsWell}
use Rattle.rv_emit_sequence.specs.Sequences.{Ground, SequenceForm, first_number, standing_code, AreConstants, ArePut, HasEnd, IsOrder, IsPut, IsSequenceOf, LeadsWell, begun, ended, with_block}
use Rattle.rv_emit_sequence.proofs.Splitting.{split_first}
use Rattle.rv_emit_sequence.proofs.Standing.{put_before, sequence_is}

-- An element of a list that is seen as another.
pub seen_there : {A : Type 0} (view : A → Block) (all : List A) (n : ℕ) (x : A) → n < length all → x ≡ get_or all n x → slice_get (map view all) n ≡ Some (view x)
seen_there view [] n x low e = absurd (omega (arith, low))
seen_there view (y ∷ all) zero x low e = ap (λ z. Some (view z)) (sym e)
seen_there view (y ∷ all) (suc n) x low e = seen_there view all n x (omega (arith, low)) e

-- A block is put where it leads well.
pub one_put : (g : Ground) (blocks : List Block) (at : ℕ → List Held) (n e : ℕ) (known loads : List Held) (b : Block) (pieces : List PlacedPiece) (s t : SequenceForm) → known ≡ at n → slice_get blocks n ≡ Some b → AreConstants loads
    → LeadsWell g at (record { number = n; next = e; known = known; loads = loads; block = b }) → pieces ≡ (standing_code g (record { number = n; next = e; known = known; loads = loads; block = b })).pieces → t ≡ with_block n pieces s → IsPut g blocks at n e s t
one_put g blocks at n e known loads b pieces s t is there constants leads code put = record {
  standing = record { number = n; next = e; known = known; loads = loads; block = b };
  number = refl;
  next = refl;
  block = record { block = there; known = is; loads = constants; leads = leads };
  pieces = put ∙ ap (λ ps. with_block n ps s) code;
}

-- The first of the blocks that are left is put, and the others behind it.
pub put_step : (g : Ground) (blocks : List Block) (at : ℕ → List Held) (left : List ℕ) (d next : ℕ) (r s t : SequenceForm) → 1 ≤ length left → next ≡ first_number (take (length left - 1) (drop 1 left)) g.end → IsPut g blocks at (get_or left 0 d) next r s
    → ArePut g blocks at (take (length left - 1) (drop 1 left)) s t → ArePut g blocks at left r t
put_step g blocks at left d next r s t some is one more =
    subst (λ l. ArePut g blocks at l r t) (sym (split_first left (get_or left 0 d) d some refl))
    (put_before g blocks at (get_or left 0 d) (take (length left - 1) (drop 1 left)) r s t (subst (λ e. IsPut g blocks at (get_or left 0 d) e r s) is one) more)

-- All of it is a sequence of the function.
pub planned_sequence : (g : Ground) (f : Graph) (is_main : Bool) (p : Plan) (n : ℕ) (s r t : SequenceForm) → n ≡ length f.blocks → IsOrder (min n 4294967295) p.order.items → HoldsWell p → s ≡ begun g f is_main
    → ArePut g f.blocks (held_at p) p.order.items s r → t ≡ ended g r → HasEnd g f → IsSequenceOf g f is_main t
planned_sequence g f is_main p n s r t is order well start put e end =
    let few : length f.blocks < 4294967295 = end.few in
    let all : min n 4294967295 ≡ length f.blocks = omega (arith, is, few) in
    sequence_is g f is_main (held_at p) p.order.items r t end well.constants well.start (subst (λ k. IsOrder k p.order.items) all order) (subst (λ u. ArePut g f.blocks (held_at p) p.order.items u r) start put) e
