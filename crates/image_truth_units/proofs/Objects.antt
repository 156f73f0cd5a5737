-- The text of what stands in memory of a program's object is that of its values.
use Rattle.std.proofs.Common.{◌≡◌, ℕ, zero, suc, ◌+◌, ◌*◌, ◌<◌, true, false, Some, List, [], ◌∷◌, length, take, slice_get, refl, sym, ap, ◌∙◌, subst, arith}
use Rattle.std.specs.Prelude.{◌==◌, nat_lt, min, if◌then◌else◌}
use Rattle.std.proofs.lemmas.Bool.Decides.{nat_tests}
use Rattle.event_runs.specs.Agreement.{Pairs}
use Rattle.c_tree.specs.declared.object_type.ObjectType.{ObjectType}
use Rattle.c_tree.specs.declared.object_type.ObjectType.TheVariants as type
use Rattle.c_tree.specs.declared.object_type.Scalar.{Scalar}
use Rattle.c_tree.specs.Programs.{ProgramTree}
use Rattle.c_meaning_values.specs.declared.value.Value as source
use Rattle.c_meaning_values.specs.Types as c
use Rattle.c_meaning_values.specs.Types.{scalar_size}
use Rattle.c_meaning_values.specs.Memory.{Memory, Object}
use Rattle.image_build_tables.specs.Variables.{element_by_stars, element_of_object, element_count}
use Rattle.image_form.specs.Form.{Form}
use Rattle.image_form.specs.declared.variables.ElementType.{ElementType}
use Rattle.image_form.specs.declared.variables.Variable.{Variable}
use Rattle.line_form.specs.Values.{array_text}
use Rattle.rv_machine.specs.State.{MachineState, word}
use Rattle.stop_engine_view.specs.Values as view
use Rattle.stop_engine_view.specs.Values.{word_text, element_texts, memory_text}
use Rattle.stop_engine_view.specs.Words.{element_size, element_word}
use Rattle.image_truth_units.specs.Texts.{IsText, IsScalarText, IsObjectText, most_elements}
use Rattle.image_truth_units.specs.Variables.{HasVariablesOf, HasElements}
use Rattle.image_truth_units.specs.Standing.{Standing, AreBitsOf, HoldsMemory}
use Rattle.image_truth_units.proofs.Values.{size_same, element_shown}
use Rattle.base_laws.proofs.Numbers.{times_within}

same_most : view.most_elements ≡ most_elements
same_most = refl

module _ (p : ProgramTree) (m : Form) (tables : HasVariablesOf p m) (memory : Memory) (here : Standing) (waiting : List Standing) (s : MachineState) (h : HoldsMemory p m memory here waiting s) (n : ℕ) (o : Object) (is : slice_get memory n ≡ Some o) (start : ℕ) (fits : start + length o.values * scalar_size o.element < 4294967296)
    (values : (i : ℕ) (v : source.Value) → slice_get o.values i ≡ Some v → AreBitsOf p m (here ∷ waiting) memory v (scalar_size o.element) (element_word s (element_by_stars o.element.base o.element.stars) (start + i * scalar_size o.element))) where
  -- the element of the object's type
  element : ElementType
  element = element_by_stars o.element.base o.element.stars

  -- one value
  value_shown : (i : ℕ) (v : source.Value) → slice_get o.values i ≡ Some v → IsText p memory v (word_text m s here.place (element_by_stars o.element.base o.element.stars) (element_word s (element_by_stars o.element.base o.element.stars) (start + i * scalar_size o.element)))
  value_shown i v there =
      element_shown p m tables memory here waiting s h o.element v (element_word s (element_by_stars o.element.base o.element.stars) (start + i * scalar_size o.element)) (h.typed n i o v is there) (values i v there)

  -- values one by one, as far as they are shown
  values_shown : (vs : List source.Value) (i most count : ℕ) → ((j : ℕ) → slice_get vs j ≡ slice_get o.values (i + j)) → i + length vs ≡ length o.values → count ≡ min (length vs) most
      → Pairs (IsText p memory) (take most vs) (element_texts m s here.place (element_by_stars o.element.base o.element.stars) count (start + i * scalar_size o.element))
  values_shown [] i zero zero from whole few = tt
  values_shown [] i (suc most) zero from whole few = tt
  values_shown [] i most (suc count) from whole few = absurd (omega (arith, few))
  values_shown (v ∷ vs) i zero zero from whole few = tt
  values_shown (v ∷ vs) i zero (suc count) from whole few = absurd (omega (arith, few))
  values_shown (v ∷ vs) i (suc most) zero from whole few = absurd (omega (arith, few))
  values_shown (v ∷ vs) i (suc most) (suc count) from whole few =
      let at : i + 0 ≡ i = omega arith in
      let first = value_shown i v (sym (from 0 ∙ ap (slice_get o.values) at)) in
      let next = times_within (i + 1) (length o.values) (scalar_size o.element) (omega (arith, whole)) in
      let size = size_same o.element.base o.element.stars in
      let address : word (start + i * scalar_size o.element + element_size (element_by_stars o.element.base o.element.stars)) ≡ start + (i + 1) * scalar_size o.element = omega (arith, next, size, fits) in
      let rest = values_shown vs (i + 1) most count (λ j. from (suc j) ∙ ap (slice_get o.values) (omega arith)) (omega (arith, whole)) (omega (arith, few)) in
      (first, subst (λ a. Pairs (IsText p memory) (take most vs) (element_texts m s here.place (element_by_stars o.element.base o.element.stars) count a)) (sym address) rest)

  -- a scalar
  scalar_shown : (vs : List source.Value) → o.values ≡ vs → length vs ≡ 1 → IsScalarText p memory vs (word_text m s here.place (element_by_stars o.element.base o.element.stars) (element_word s (element_by_stars o.element.base o.element.stars) start))
  scalar_shown [] same one = absurd (omega (arith, one))
  scalar_shown (v ∷ []) same one =
      let first = value_shown 0 v (ap (λ l. slice_get l 0) same) in
      let at : start + 0 * scalar_size o.element ≡ start = omega arith in
      subst (λ a. IsText p memory v (word_text m s here.place (element_by_stars o.element.base o.element.stars) (element_word s (element_by_stars o.element.base o.element.stars) a))) at first
  scalar_shown (v ∷ w ∷ more) same one = absurd (omega (arith, one))

  -- The text of what stands in memory of an object of a type is that of its values.
  pub object_shown : (of : ObjectType) (v : Variable) → o.element ≡ c.element_scalar of → length o.values ≡ c.value_count of → HasElements of → v.element ≡ element_of_object of → v.count ≡ element_count of → IsObjectText p memory of o.values (memory_text m s here.place v start)
  object_shown (type.Scalar e) v typed counted some element_is count_is =
      let test : (v.count == 0) ≡ true = ap (λ k. k == 0) count_is in
      let same : v.element ≡ element_by_stars o.element.base o.element.stars = element_is ∙ ap (λ (e : Scalar). element_by_stars e.base e.stars) (sym typed) in
      let shown : memory_text m s here.place v start ≡ word_text m s here.place (element_by_stars o.element.base o.element.stars) (element_word s (element_by_stars o.element.base o.element.stars) start) =
      ap (λ b. if b then word_text m s here.place v.element (element_word s v.element start) else array_text (element_texts m s here.place v.element (min v.count view.most_elements) start) (nat_lt view.most_elements v.count)) test
      ∙ ap (λ e. word_text m s here.place e (element_word s e start)) same in
      subst (IsScalarText p memory o.values) (sym shown) (scalar_shown o.values refl counted)
  object_shown (type.Array e count) v typed counted some element_is count_is =
      let test : (v.count == 0) ≡ false = grind (arith, nat_tests, count_is, some) in
      let same : v.element ≡ element_by_stars o.element.base o.element.stars = element_is ∙ ap (λ (e : Scalar). element_by_stars e.base e.stars) (sym typed) in
      let number : v.count ≡ length o.values = count_is ∙ sym counted in
      let at : start + 0 * scalar_size o.element ≡ start = omega arith in
      let each = values_shown o.values 0 most_elements (min (length o.values) most_elements) (λ j. ap (slice_get o.values) (omega arith)) (omega arith) refl in
      record {
        texts = element_texts m s here.place (element_by_stars o.element.base o.element.stars) (min (length o.values) most_elements) start;
        each = subst (λ a. Pairs (IsText p memory) (take most_elements o.values) (element_texts m s here.place (element_by_stars o.element.base o.element.stars) (min (length o.values) most_elements) a)) at each;
        is = ap (λ b. if b then word_text m s here.place v.element (element_word s v.element start) else array_text (element_texts m s here.place v.element (min v.count view.most_elements) start) (nat_lt view.most_elements v.count)) test
            ∙ ap (λ e. array_text (element_texts m s here.place e (min v.count view.most_elements) start) (nat_lt view.most_elements v.count)) same
            ∙ ap (λ k. array_text (element_texts m s here.place (element_by_stars o.element.base o.element.stars) (min k view.most_elements) start) (nat_lt view.most_elements k)) number
            ∙ ap (λ k. array_text (element_texts m s here.place (element_by_stars o.element.base o.element.stars) (min (length o.values) k) start) (nat_lt k (length o.values))) same_most;
      }
