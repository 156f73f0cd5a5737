-- Names that have the values which the copies of a history gave them.
use Rattle.std.proofs.Common.{◌≡◌, ℕ, inl, inr, Bool, true, false, Option, Some, None, List, [], ◌∷◌, refl, sym, ap, ◌∙◌}
use Rattle.std.specs.Prelude.{◌==◌, ◌||◌, if◌then◌else◌}
use Rattle.std.specs.Option.{option_map_or}
use Rattle.std.proofs.lemmas.Bool.{or_parts, eq-eqb}
use Rattle.std.proofs.lemmas.Bool.Decides.{eqb_tells}
use Rattle.std.proofs.lemmas.Option.{none-some, same_Some}
use Rattle.graph_core.specs.declared.value.Value.{Value}
use Rattle.graph_core.specs.Graphs.{Name, Move, Instruction, End, Graph}
use Rattle.graph_core.specs.Uses.{target_of}
use Rattle.graph_core.specs.Paths.{Passed, History, Path}
use Rattle.graph_core.specs.Runs.{with_value_at}
use Rattle.pass_law.specs.Earned.{last_write_of}
use Rattle.copy_pass_rule.specs.Copying.{IsReadAs, of_copy, of_none}

-- Names are true to a history: where of two names what was written last is a copy of the one to the other, both have one value.
abbrev pub AreTrue : (names : ℕ → Value) → History → Type 0
AreTrue names h = (x y : ℕ) (copy : Passed) → last_write_of x y h ≡ Some copy → copy.instruction ≡ Move x (Name y) → names x ≡ names y

-- At the entry nothing was copied.
pub true_first : (names : ℕ → Value) → AreTrue names []
true_first names x y copy last is = absurd (none-some copy last)

-- whether what is written is one of two names
abbrev writes_either : (x y : ℕ) → Option ℕ → Bool
writes_either x y target = option_map_or (λ z. z == x) target false || option_map_or (λ z. z == y) target false

-- What writes no name leaves them true.
pub true_passed : (names : ℕ → Value) (h : History) (p : Passed) → target_of p.instruction ≡ None → AreTrue names h → AreTrue names (p ∷ h)
true_passed names h p target before x y copy last is =
    before x y copy (sym (ap (λ t. if writes_either x y t then Some p else last_write_of x y h) target) ∙ last) is

module _ (names : ℕ → Value) (h : History) (p : Passed) (z : ℕ) (v : Value) (target : target_of p.instruction ≡ Some z) (copies : (y : ℕ) → p.instruction ≡ Move z (Name y) → v ≡ names y) where
  -- a name that is not written
  kept : (x : ℕ) → (z == x) ≡ false → with_value_at names z v x ≡ names x
  kept x other = elim (eqb_tells x z) [
    | inl t ↦ absurd (differs (sym (eq-eqb z x (sym t.1)) ∙ other))
    | inr t ↦ ap (λ b. if b then v else names x) t.0
  ]
    where
      differs : true ≡ false → ⊥
      differs e = cc

  -- a name that the written one was copied from
  copied : (y : ℕ) → p.instruction ≡ Move z (Name y) → with_value_at names z v y ≡ v
  copied y is = elim (eqb_tells y z) [
    | inl t ↦ ap (λ b. if b then v else names y) t.0
    | inr t ↦ ap (λ b. if b then v else names y) t.0 ∙ sym (copies y is)
  ]

  -- the name that is written
  taken : with_value_at names z v z ≡ v
  taken = ap (λ b. if b then v else names z) (eq-eqb z z refl)

  -- the copy that was passed just now
  by_copy : (x y : ℕ) → p.instruction ≡ Move x (Name y) → with_value_at names z v x ≡ with_value_at names z v y
  by_copy x y is =
      let same : z ≡ x = same_Some z x (sym target ∙ ap target_of is) in
      let at : p.instruction ≡ Move z (Name y) = is ∙ ap (λ n. Move n (Name y)) (sym same) in
      ap (with_value_at names z v) (sym same) ∙ taken ∙ sym (copied y at)

  -- What writes a name leaves them true, if, where it is a copy, the value is that of the name that it reads.
  pub true_written : AreTrue names h → AreTrue (with_value_at names z v) (p ∷ h)
  true_written before x y copy last is = by_test (writes_either x y (Some z)) refl (sym (ap (λ t. if writes_either x y t then Some p else last_write_of x y h) target) ∙ last)
    where
      by_test : (b : Bool) → writes_either x y (Some z) ≡ b → (if b then Some p else last_write_of x y h) ≡ Some copy → with_value_at names z v x ≡ with_value_at names z v y
      by_test true e q = by_copy x y (ap (λ (o : Passed). o.instruction) (same_Some p copy q) ∙ is)
      by_test false e q = (let both = or_parts (z == x) (z == y) e in kept x both.0 ∙ before x y copy q is ∙ sym (kept y both.1))

-- What a name is read as at a point has the value of the name, where the names are true to a path to the point.
pub read_value : (g : Graph) (names : ℕ → Value) (hist : History) (n : ℕ) (rest : List Instruction) (e : End) (x y : ℕ) → Path g hist n rest e → AreTrue names hist → IsReadAs g n rest e x y → names y ≡ names x
read_value g names hist n rest e x y along before (of_copy reached copy) = (let one = copy.on_each hist along in sym (before x y one.copy one.last one.copies))
read_value g names hist n rest e x y along before (of_none none) = refl
