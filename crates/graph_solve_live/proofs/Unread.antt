-- A name is unread from a point on just where no path reads it first there.
use Rattle.std.proofs.Common.{◌≡◌, ℕ, suc, inl, inr, true, false, true≢false, List, [], ◌∷◌, ◌++◌, refl, sym, ◌∙◌, subst, arith}
use Rattle.std.specs.List.{Contains}
use Rattle.std.proofs.lemmas.Bool.{or_parts, or_from, true_from_ne_false}
use Rattle.graph_core.specs.declared.value.Value.TheVariants.{Odd}
use Rattle.graph_core.specs.Graphs.{Instruction, End, Graph}
use Rattle.graph_core.specs.Uses.{reads_of, reads_of_end, targets_of}
use Rattle.graph_core.specs.Paths.{History, Among, front, behind, Way, stays, passes, goes, writes}
use Rattle.graph_core.specs.Points.{ReadsNext, IsUnread, some_passed}
use Rattle.graph_solve_live.specs.Live.{IsReadFirst, read, read_at_end, passed, onward}
use Rattle.graph_solve.proofs.Working.{contains_cases}
use Rattle.graph_core.proofs.Among.{among_any, any_among}

-- the two notions of membership
pub among_contains : {A : Type 0} (a : A) (all : List A) → Among a all → Contains all a
among_contains a _ front = (0, omega arith, refl)
among_contains a _ (behind {b} {all} more) = let there = among_contains a all more in (suc there.0, omega (arith, there.1), there.2)

pub contains_among : {A : Type 0} (a : A) (all : List A) → Contains all a → Among a all
contains_among a [] (k, lt, e) = absurd (omega (arith, lt))
contains_among a (b ∷ all) has = elim (contains_cases b all a has) [ inl e ↦ subst (λ c. Among c (b ∷ all)) (sym e) front | inr rest ↦ behind (contains_among a all rest) ]

module _ (g : Graph) where
  joined : {n : ℕ} {rest : List Instruction} {e : End} {h : History} {m : ℕ} {left : List Instruction} {f : End} {k : History} {l : ℕ} {more : List Instruction} {d : End} →
      Way g n rest e h m left f → Way g m left f k l more d → Way g n rest e (k ++ h) l more d
  joined one stays = one
  joined one (passes two v) = passes (joined one two) v
  joined one (goes two has b at) = goes (joined one two) has b at

  module _ (x : ℕ) where
    none_passed : (k h : History) → some_passed (writes x) k ≡ false → some_passed (writes x) h ≡ false → some_passed (writes x) (k ++ h) ≡ false
    none_passed [] h e f = f
    none_passed (i ∷ k) h e f = let both = or_parts (writes x i.instruction) (some_passed (writes x) k) e in or_from _ _ both.0 (none_passed k h both.1 f)

    -- a way on which the name is not written, to where it is read next
    pub record ReadsOn (n : ℕ) (rest : List Instruction) (e : End) : Type 0 where
      pub history : History
      pub block : ℕ
      pub left : List Instruction
      pub end : End
      pub way : Way g n rest e history block left end
      pub next : ReadsNext x left end
      pub unwritten : some_passed (writes x) history ≡ false

    after : {n m : ℕ} {rest : List Instruction} {e : End} {h : History} {left : List Instruction} {f : End} → Way g n rest e h m left f → some_passed (writes x) h ≡ false → ReadsOn m left f → ReadsOn n rest e
    after {n} {m} {rest} {e} {h} one none on = record {
      history = on.history ++ h;
      block = on.block;
      left = on.left;
      end = on.end;
      way = joined one on.way;
      next = on.next;
      unwritten = none_passed on.history h on.unwritten none;
    }

    reads_on : {rest : List Instruction} {e : End} → IsReadFirst g x rest e → (n : ℕ) → ReadsOn n rest e
    reads_on (read {i} {left} {end} is) n = record { history = []; block = n; left = i ∷ left; end = end; way = stays; next = any_among x (reads_of i) is; unwritten = refl }
    reads_on (read_at_end {end} is) n = record { history = []; block = n; left = []; end = end; way = stays; next = any_among x (reads_of_end end) is; unwritten = refl }
    reads_on (passed {i} {left} {end} spared more) n = after (passes stays Odd) (or_from (writes x i) false spared refl) (reads_on more n)
    reads_on (onward {end} to b has at more) n = after (goes stays (contains_among to (targets_of end) has) b at) refl (reads_on more to)

    first_along : {n : ℕ} {rest : List Instruction} {e : End} {h : History} {m : ℕ} {left : List Instruction} {f : End} → Way g n rest e h m left f → some_passed (writes x) h ≡ false → IsReadFirst g x left f → IsReadFirst g x rest e
    first_along stays none is = is
    first_along (passes {h} {n} {i} {left} {e} way v) none is =
        let both = or_parts (writes x i) (some_passed (writes x) h) none in
        first_along way both.1 (passed both.0 is)
    first_along (goes {h} {n} {l} {e} way has b at) none is = first_along way none (onward l b (among_contains l (targets_of e) has) at is)

    next_first : (left : List Instruction) (f : End) → ReadsNext x left f → IsReadFirst g x left f
    next_first [] f is = read_at_end (among_any x (reads_of_end f) is)
    next_first (i ∷ left) f is = read (among_any x (reads_of i) is)

    -- what no path reads first is unread, and the other way round
    pub unread_first : (n : ℕ) (rest : List Instruction) (e : End) → IsUnread g x n rest e → IsReadFirst g x rest e → ⊥
    unread_first n rest e unread is = let on = reads_on is n in true≢false (sym (unread on.history on.block on.left on.end on.way on.next) ∙ on.unwritten)

    pub first_unread : (n : ℕ) (rest : List Instruction) (e : End) → (IsReadFirst g x rest e → ⊥) → IsUnread g x n rest e
    first_unread n rest e never h m left f way next = true_from_ne_false (some_passed (writes x) h) (λ none. never (first_along way none (next_first left f next)))
