-- What is missing at a point of a block, and what is read there.
use Rattle.std.proofs.Common.{◌≡◌, ◌≢◌, ℕ, suc, ◌+◌, ◌-◌, ◌<◌, ◌≤◌, Bool, Option, Some, List, [], ◌∷◌, length, map, get_or, take, drop, sym, ap, ◌∙◌, arith}
use Rattle.std.specs.Prelude.{◌==◌, if◌then◌else◌, slice_get}
use Rattle.std.proofs.lemmas.Bool.{eq-eqb, ne_eqb}
use Rattle.std.proofs.lemmas.List.{length-map}
use Rattle.std.proofs.lemmas.Option.{same_Some}
use Rattle.base_laws.proofs.Lists.{rest_is}
use Rattle.graph_core.specs.Graphs.{Instruction, Block, Graph}
use Rattle.graph_core.specs.Uses.{target_of}
use Rattle.copy_pass_rule.specs.declared.copies.CopyAt.{CopyAt}
use Rattle.copy_pass_rule.specs.Along.{IsPoint, IsReadBy}
use Rattle.copy_pass_rule.specs.Copying.{reading}
use Rattle.copy_pass_rule.specs.Flow.{Bits, AreFound, line_of, lines_of, missing_behind, missing_where, source_among}
use Rattle.copy_pass_rule.proofs.Missing.{where_start}

module _ {A : Type 0} (view : A → Instruction) where
  abbrev writes : List A → List (Option ℕ)
  writes left = map target_of (map view left)

  as_many : (left : List A) → length (writes left) ≡ length left
  as_many left = length-map (map view left) target_of ∙ length-map left view

  -- a walk goes on over one more, that has more or fewer behind it than are to be left
  pub walk_past : (left : List A) (x d : A) (c : CopyAt) (n there l : ℕ) (t : Option ℕ) (before after whole : Bool) → 1 ≤ length left → l ≢ there → x ≡ get_or left 0 d → l ≡ length (take (length left - 1) (drop 1 left)) → t ≡ target_of (view x)
      → after ≡ missing_behind c n l t before → missing_where c n (suc there) (writes left) before ≡ whole → missing_where c n (suc there) (writes (take (length left - 1) (drop 1 left))) after ≡ whole
  walk_past [] x d c n there l t before after whole le other e count is made so_far = absurd (omega arith)
  walk_past (y ∷ left) x d c n there l t before after whole le other e count is made so_far =
      let rest : take (length (y ∷ left) - 1) (drop 1 (y ∷ left)) ≡ left = rest_is y left in
      let later : List (Option ℕ) = writes left in
      let counts : l ≡ length later = count ∙ ap length rest ∙ sym (as_many left) in
      let apart : length (writes (y ∷ left)) ≢ suc there = λ q. other (let many = as_many left in omega (arith, q, counts)) in
      ap (λ z. missing_where c n (suc there) (writes z) after) rest
      ∙ ap (missing_where c n (suc there) later)
      (made ∙ ap (λ z. missing_behind c n z t before) counts ∙ ap (λ z. missing_behind c n (length later) z before) is ∙ ap (λ z. missing_behind c n (length later) (target_of (view z)) before) e)
      ∙ sym (ap (λ z. if z then before else missing_where c n (suc there) later (missing_behind c n (length later) (target_of (view y)) before)) (ne_eqb (length (writes (y ∷ left))) (suc there) apart)) ∙ so_far

  -- it has come to the point
  pub walk_there : (left : List A) (c : CopyAt) (n there l : ℕ) (now whole : Bool) → 1 ≤ length left → l ≡ length (take (length left - 1) (drop 1 left)) → l ≡ there → missing_where c n (suc there) (writes left) now ≡ whole → now ≡ whole
  walk_there [] c n there l now whole le count e so_far = absurd (omega arith)
  walk_there (y ∷ left) c n there l now whole le count e so_far =
      let counts : length (writes (y ∷ left)) ≡ suc there = as_many (y ∷ left) ∙ ap suc (sym (count ∙ ap length (rest_is y left)) ∙ e) in
      sym (where_start c n (writes (y ∷ left)) now) ∙ ap (λ z. missing_where c n z (writes (y ∷ left)) now) counts ∙ so_far

  -- or to the end
  pub walk_out : (left : List A) (c : CopyAt) (n there : ℕ) (now whole : Bool) → length left < 1 → missing_where c n there (writes left) now ≡ whole → now ≡ whole
  walk_out [] c n there now whole lt so_far = so_far
  walk_out (y ∷ left) c n there now whole lt so_far = absurd (omega arith)

-- An instruction is read at its point by the copies that are missing there.
pub read_at : (g : Graph) (n left : ℕ) (i : Instruction) (p : IsPoint g n left i) (copies : List CopyAt) (bits : Bits) → AreFound (lines_of g.blocks) copies bits → (missing : ℕ → Bool) (b : Block) → slice_get g.blocks n ≡ Some b
    → ((k : ℕ) (c : CopyAt) → slice_get copies k ≡ Some c → missing k ≡ missing_where c n (suc left) (line_of b).writes (bits n (suc k))) → (made : Instruction) → made ≡ reading (source_among copies missing 0) i → IsReadBy g n p.block i p.rest copies made
read_at g n left i p copies bits found missing b at are made is = record {
  bits = bits;
  found = found;
  missing = missing;
  are = λ k c there. are k c there ∙ ap (λ l. missing_where c n (suc l) (map target_of b.instructions) (bits n (suc k))) (sym p.behind)
      ∙ ap (λ (e : Block). missing_where c n (suc (length p.rest)) (map target_of e.instructions) (bits n (suc k))) (same_Some b p.block (sym at ∙ p.is));
  is = is;
}
