-- What is shown of the variable of a row is the text of what the program's variable holds.
use Rattle.std.proofs.Common.{◌≡◌, ◌≢◌, ℕ, ◌+◌, true, Some, List, [], ◌∷◌, length, slice_get, sym, subst}
use Rattle.word_base.specs.Owners.{Static, Variable as OfVariable}
use Rattle.c_tree.specs.declared.object_type.ObjectType.TheVariants as type
use Rattle.c_tree.specs.declared.object_type.Scalar.{Scalar}
use Rattle.c_tree.specs.Programs.{StaticTree, AutomaticTree, ProgramTree}
use Rattle.c_meaning_values.specs.declared.value.Value as source
use Rattle.c_meaning_values.specs.declared.value.Phase.TheVariants.{Live, Ended}
use Rattle.c_meaning_values.specs.Memory.{Memory, Object, contents}
use Rattle.image_form.specs.Form.{Form}
use Rattle.image_form.specs.declared.verdicts.Verdict.{Verdict}
use Rattle.image_form.specs.declared.verdicts.Verdict.TheVariants.{Home, Recovered, Noncurrent, Nonresident}
use Rattle.rv_machine.specs.State.{MachineState}
use Rattle.stop_engine_view.specs.Values.{held_text}
use Rattle.image_truth_units.specs.Texts.{IsObjectText}
use Rattle.image_truth_units.specs.Variables.{automatic_number, HasVariablesOf}
use Rattle.image_truth_units.specs.Standing.{Standing, HoldsMemory}
use Rattle.image_truth_units.specs.Rows.{IsShown, IsKeptBy}
use Rattle.image_truth_units.proofs.Contents.{contents_are}
use Rattle.image_truth_units.proofs.Shown.{static_shown, automatic_shown, home_shown, recipe_shown}

module _ (p : ProgramTree) (m : Form) (tables : HasVariablesOf p m) (memory : Memory) (here : Standing) (waiting : List Standing) (s : MachineState) (h : HoldsMemory p m memory here waiting s)
    (differ : (j k : ℕ) (q r : Object) → slice_get memory j ≡ Some q → slice_get memory k ≡ Some r → q.phase ≢ Ended → r.phase ≢ Ended → q.owner ≡ r.owner → j ≡ k) where
  -- The text of a static variable is that of what it holds.
  pub static_is_shown : (n k : ℕ) (t : StaticTree) (o : Object) → slice_get p.statics n ≡ Some t → slice_get memory k ≡ Some o → o.owner ≡ Static n → o.phase ≡ Live → IsObjectText p memory t.of (contents (Static n) memory) (held_text m s here.place n)
  static_is_shown n k t o declared is owner live =
      subst (λ vs. IsObjectText p memory t.of vs (held_text m s here.place n)) (sym (contents_are memory k o (Static n) differ is owner live)) (static_shown p m tables memory here waiting s h n k t o declared is owner live)

  -- What a row shows of a variable in memory, whose verdict is that it is there, is the text of what it holds.
  pub object_is_shown : (x k : ℕ) (a : AutomaticTree) (o : Object) (verdict : Verdict) → slice_get p.automatics x ≡ Some a → a.in_memory ≡ true → slice_get memory k ≡ Some o → o.owner ≡ OfVariable x (length waiting + 1) → o.phase ≡ Live → verdict ≡ Home
      → IsShown p m s memory a.of (contents (OfVariable x (length waiting + 1)) memory) here.place (automatic_number p x) verdict
  object_is_shown x k a o verdict declared inside is owner live there =
      subst (IsShown p m s memory a.of (contents (OfVariable x (length waiting + 1)) memory) here.place (automatic_number p x)) (sym there)
      (subst (λ vs. IsObjectText p memory a.of vs (held_text m s here.place (automatic_number p x))) (sym (contents_are memory k o (OfVariable x (length waiting + 1)) differ is owner live))
      (automatic_shown p m tables memory here waiting s h x k a o declared inside is owner live))

  -- What a row shows of a scalar that is kept in a home is the text of what it holds, where what its verdict says is so.
  pub scalar_is_shown : (x k : ℕ) (a : AutomaticTree) (e : Scalar) (o : Object) (value : source.Value) (verdict : Verdict) → slice_get p.automatics x ≡ Some a → a.of ≡ type.Scalar e → slice_get memory k ≡ Some o → o.owner ≡ OfVariable x (length waiting + 1) → o.phase ≡ Live
      → o.values ≡ value ∷ [] → IsKeptBy p m (here ∷ waiting) memory s (automatic_number p x) value verdict → IsShown p m s memory a.of (contents (OfVariable x (length waiting + 1)) memory) here.place (automatic_number p x) verdict
  scalar_is_shown x k a e o value verdict declared scalar is owner live holds kept =
      subst (λ vs. IsShown p m s memory a.of vs here.place (automatic_number p x) verdict) (sym (contents_are memory k o (OfVariable x (length waiting + 1)) differ is owner live)) (by_verdict verdict kept)
    where
      by_verdict : (verdict : Verdict) → IsKeptBy p m (here ∷ waiting) memory s (automatic_number p x) value verdict → IsShown p m s memory a.of o.values here.place (automatic_number p x) verdict
      by_verdict Home kept =
          let named = tables.automatics x a declared in
          let home = kept named.variable named.is in
          home_shown p m tables memory here waiting s h x k a e o (length waiting + 1) value declared scalar is owner holds named.variable named.is home.0 home.1
      by_verdict (Recovered change node) kept = recipe_shown p m tables memory here waiting s h x k a e o (length waiting + 1) value node declared scalar is owner holds kept
      by_verdict (Noncurrent change start writer) kept = tt
      by_verdict (Nonresident change start writer) kept = tt
