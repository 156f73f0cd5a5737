-- The names that are live before instructions, one by one.
use Rattle.std.specs.Prelude.{◌≡◌, ℕ, ◌==◌, ◌||◌, ◌&&◌, Bool, true, false, not, nat_lt, cond, Option, Some, None, List, [], ◌∷◌, refl}
use Rattle.std.proofs.Common.{inl, inr, sym, ap, ◌∙◌}
use Rattle.std.proofs.lemmas.Bool.{and_right, eq-eqb, le-ltb, ne_eqb, or_from}
use Rattle.std.proofs.lemmas.Bool.Decides.{eqb_tells}
use Rattle.std.specs.Cmp.{nat_cmp_total, unsigned_tied}
use Rattle.std.specs.List.{list_any}
use Rattle.std.specs.Option.{option_map_or}
use Rattle.std.specs.FinSet.{contains, insert, contains-insert, contains-remove}
use Rattle.graph_core.specs.Graphs.{Instruction, Block}
use Rattle.graph_core.specs.Uses.{reads_of, reads_of_end, target_of}
use Rattle.graph_core.specs.Paths.{reads, writes}
use Rattle.graph_solve_problem.specs.Numbers.{Numbers, IsBelow}
use Rattle.graph_solve_live.specs.Live.{end_reads, with_names, without, before_all}

-- the names that are live at the start of a block, from those at its end
abbrev pub before_block : (width : ℕ) → Block → Numbers → Numbers
before_block width b live = before_all width b.instructions (with_names width (reads_of_end b.end) live)

same_symm : (x y : ℕ) → (x == y) ≡ (y == x)
same_symm x y = elim (eqb_tells x y) [ inl h ↦ h.0 ∙ sym (eq-eqb y x (sym h.1)) | inr h ↦ h.0 ∙ sym (ne_eqb y x (λ q. h.1 (sym q))) ]

or_move : (a b c : Bool) → (a || (b || c)) ≡ ((b || a) || c)
or_move true true c = refl
or_move true false c = refl
or_move false true c = refl
or_move false false c = refl

and_or : (a b w : Bool) → ((a && w) || (b && w)) ≡ ((a || b) && w)
and_or true b true = refl
and_or true true false = refl
and_or true false false = refl
and_or false b w = refl

module _ (width x : ℕ) where
  -- whether a name is read first in instructions, or else behind them
  abbrev pub read_in : List Instruction → (behind : Bool) → Bool
  read_in [] behind = behind
  read_in (i ∷ more) behind = (reads x i && nat_lt x width) || (not (writes x i) && read_in more behind)

  abbrev pub read_in_block : Block → (behind : Bool) → Bool
  read_in_block b behind = read_in b.instructions ((end_reads x b.end && nat_lt x width) || behind)

  tied_in : (y : ℕ) → nat_lt y width ≡ true → ((y == x) && nat_lt x width) ≡ (x == y)
  tied_in y lt = elim (eqb_tells y x) [
    | inl h ↦ ap (λ b. b && nat_lt x width) h.0 ∙ ap (λ n. nat_lt n width) (sym h.1) ∙ lt ∙ sym (eq-eqb x y (sym h.1))
    | inr h ↦ ap (λ b. b && nat_lt x width) h.0 ∙ sym (ne_eqb x y (λ q. h.1 (sym q)))
  ]

  tied_out : (y : ℕ) → nat_lt y width ≡ false → ((y == x) && nat_lt x width) ≡ false
  tied_out y lt = elim (eqb_tells y x) [
    | inl h ↦ ap (λ b. b && nat_lt x width) h.0 ∙ ap (λ n. nat_lt n width) (sym h.1) ∙ lt
    | inr h ↦ ap (λ b. b && nat_lt x width) h.0
  ]

  one_put : (b : Bool) (y : ℕ) (live : Numbers) → nat_lt y width ≡ b → contains (cond b (insert live y) live) x ≡ (((y == x) && nat_lt x width) || contains live x)
  one_put true y live e = contains-insert nat_cmp_total live y x ∙ ap (λ c. c || contains live x) (unsigned_tied x y ∙ sym (tied_in y e))
  one_put false y live e = ap (λ c. c || contains live x) (sym (tied_out y e))

  pub put_in : (names : List ℕ) (live : Numbers) → contains (with_names width names live) x ≡ ((list_any (λ y. y == x) names && nat_lt x width) || contains live x)
  put_in [] live = refl
  put_in (y ∷ more) live =
      let any = list_any (λ z. z == x) more in
      let w = nat_lt x width in
      put_in more (cond (nat_lt y width) (insert live y) live) ∙ ap (λ c. (any && w) || c) (one_put (nat_lt y width) y live refl)
      ∙ or_move (any && w) ((y == x) && w) (contains live x) ∙ ap (λ c. c || contains live x) (and_or (y == x) any w)

  pub without_in : (o : Option ℕ) (live : Numbers) → contains (without o live) x ≡ (not (option_map_or (λ y. y == x) o false) && contains live x)
  without_in None live = refl
  without_in (Some y) live = contains-remove nat_cmp_total live y x ∙ ap (λ b. not b && contains live x) (unsigned_tied x y ∙ same_symm x y)

  all_in : (all : List Instruction) (live : Numbers) → contains (before_all width all live) x ≡ read_in all (contains live x)
  all_in [] live = refl
  all_in (i ∷ more) live =
      put_in (reads_of i) (without (target_of i) (before_all width more live))
      ∙ ap (λ c. (reads x i && nat_lt x width) || c) (without_in (target_of i) (before_all width more live) ∙ ap (λ c. not (writes x i) && c) (all_in more live))

  pub block_in : (b : Block) (live : Numbers) → contains (before_block width b live) x ≡ read_in_block b (contains live x)
  block_in b live = all_in b.instructions (with_names width (reads_of_end b.end) live) ∙ ap (read_in b.instructions) (put_in (reads_of_end b.end) live)

  all_beyond : nat_lt x width ≡ false → (all : List Instruction) (c : Bool) → c ≡ false → read_in all c ≡ false
  all_beyond lt [] c e = e
  all_beyond lt (i ∷ more) c e = or_from _ _ (and_right (reads x i) _ lt) (and_right (not (writes x i)) _ (all_beyond lt more c e))

  block_beyond : nat_lt x width ≡ false → (block : Block) → read_in_block block false ≡ false
  block_beyond lt block = all_beyond lt block.instructions _ (or_from _ _ (and_right (end_reads x block.end) _ lt) refl)

pub block_below : (width : ℕ) (b : Block) (live : Numbers) → IsBelow width live → IsBelow width (before_block width b live)
block_below width b live below = λ x ge. block_in width x b live ∙ ap (read_in_block width x b) (below x ge) ∙ block_beyond width x (le-ltb x width ge) b
