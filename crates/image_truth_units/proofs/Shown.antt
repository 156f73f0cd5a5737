-- What a stop shows of a program's variable is the text of what it holds.
use Rattle.std.proofs.Common.{◌≡◌, ℕ, ◌+◌, ◌*◌, true, false, Some, List, [], ◌∷◌, length, slice_get, refl, sym, ap, ◌∙◌, subst, arith}
use Rattle.std.specs.Prelude.{◌==◌, if◌then◌else◌}
use Rattle.std.specs.Option.{option_map_or}
use Rattle.std.proofs.lemmas.Bool.Decides.{nat_tests}
use Rattle.std.proofs.lemmas.Option.{same_Some}
use Rattle.word_base.specs.Owners.{Static, Variable as OfVariable}
use Rattle.c_tree.specs.declared.object_type.ObjectType.{ObjectType}
use Rattle.c_tree.specs.declared.object_type.ObjectType.TheVariants as type
use Rattle.c_tree.specs.declared.object_type.Scalar.{Scalar}
use Rattle.c_tree.specs.Programs.{StaticTree, AutomaticTree, ProgramTree}
use Rattle.c_meaning_values.specs.declared.value.Value as source
use Rattle.c_meaning_values.specs.declared.value.Phase.TheVariants.{Live}
use Rattle.c_meaning_values.specs.Types as c
use Rattle.c_meaning_values.specs.Types.{scalar_size}
use Rattle.c_meaning_values.specs.Memory.{Memory, Object}
use Rattle.image_build_tables.specs.Variables.{element_by_stars, element_of_object, element_count}
use Rattle.image_form.specs.Form.{Form}
use Rattle.image_form.specs.declared.variables.Storage.{Storage}
use Rattle.image_form.specs.declared.variables.Storage.TheVariants as kept
use Rattle.image_form.specs.declared.variables.Variable.{Variable}
use Rattle.rv_machine.specs.State.{MachineState, reg, word}
use Rattle.stop_engine_view.specs.Pointers.{variable_size}
use Rattle.stop_engine_view.specs.Recipes.{recipe_value}
use Rattle.stop_engine_view.specs.Values.{word_text, memory_text, stored_text, variable_text, held_text, recovered_text, recipe_levels}
use Rattle.stop_engine_view.specs.Words.{element_size, home_word}
use Rattle.image_truth_units.specs.Texts.{IsText, IsObjectText}
use Rattle.image_truth_units.specs.Variables.{automatic_number, HasVariablesOf, HasElements}
use Rattle.image_truth_units.specs.Standing.{Standing, IsArea, IsFrameArea, IsWordOf, IsDeclared, IsInMemory, StandsInMemory, HoldsMemory, IsHome}
use Rattle.image_truth_units.proofs.Values.{size_same, word_shown}
use Rattle.image_truth_units.proofs.Objects.{object_shown}

-- what a variable's bytes are by its type
pub size_of : (of : ObjectType) (v : Variable) → v.element ≡ element_of_object of → v.count ≡ element_count of → HasElements of → variable_size v ≡ c.value_count of * scalar_size (c.element_scalar of)
size_of (type.Scalar e) v element_is count_is some =
    let test : (v.count == 0) ≡ true = ap (λ k. k == 0) count_is in
    ap (λ b. (if b then 1 else v.count) * element_size v.element) test ∙ ap (λ k. 1 * k) (ap element_size element_is ∙ size_same e.base e.stars)
size_of (type.Array e count) v element_is count_is some =
    let test : (v.count == 0) ≡ false = grind (arith, nat_tests, count_is, some) in
    ap (λ b. (if b then 1 else v.count) * element_size v.element) test ∙ ap (λ k. k * element_size v.element) count_is ∙ ap (λ k. count * k) (ap element_size element_is ∙ size_same e.base e.stars)

module _ (p : ProgramTree) (m : Form) (tables : HasVariablesOf p m) (memory : Memory) (here : Standing) (waiting : List Standing) (s : MachineState) (h : HoldsMemory p m memory here waiting s) where
  -- the text of what stands at the address of an object, where it has its owner's type
  stored_shown : (n : ℕ) (o : Object) → slice_get memory n ≡ Some o → (stands : StandsInMemory p m (here ∷ waiting) memory s o) → (of : ObjectType) (v : Variable) → o.element ≡ c.element_scalar of → length o.values ≡ c.value_count of → HasElements of → v.element ≡ element_of_object of → v.count ≡ element_count of
      → stands.bytes ≡ variable_size v → IsObjectText p memory of o.values (memory_text m s here.place v stands.start)
  stored_shown n o is stands of v typed counted some element_is count_is size =
      let fits = h.inside o.owner stands.start stands.bytes stands.area in
      let whole : stands.bytes ≡ length o.values * scalar_size o.element = size ∙ size_of of v element_is count_is some ∙ sym (ap (λ k. k * scalar_size o.element) counted ∙ ap (λ (e : Scalar). c.value_count of * scalar_size e) typed) in
      object_shown p m tables memory here waiting s h n o is stands.start (omega (arith, fits, whole)) stands.values of v typed counted some element_is count_is

  -- a variable of an image, by what its storage is
  held_is : (k : ℕ) (v : Variable) (storage : Storage) → slice_get m.variables k ≡ Some v → v.storage ≡ storage → held_text m s here.place k ≡ stored_text m s here.place v storage
  held_is k v storage is stored = ap (λ r. option_map_or (λ (w : Variable). variable_text m s here.place w) r []) is ∙ ap (stored_text m s here.place v) stored

  -- ---- Static variables

  -- What is shown of a static variable is the text of its object's values.
  pub static_shown : (n k : ℕ) (t : StaticTree) (o : Object) → slice_get p.statics n ≡ Some t → slice_get memory k ≡ Some o → o.owner ≡ Static n → o.phase ≡ Live → IsObjectText p memory t.of o.values (held_text m s here.place n)
  static_shown n k t o declared is owner live =
      let stands = h.objects k o is live (subst (IsInMemory p) (sym owner) tt) in
      let named = tables.statics n t declared in
      let area = subst (λ q. IsArea p m (here ∷ waiting) q stands.start stands.bytes) owner stands.area in
      let type_is = subst (λ q. IsDeclared p q o) owner (h.declared k o is) in
      let tree : type_is.0 ≡ t = same_Some type_is.0 t (sym type_is.1 ∙ declared) in
      let same : area.1.variable ≡ named.variable = same_Some area.1.variable named.variable (sym area.1.is ∙ named.is) in
      let stored : named.variable.storage ≡ kept.Static stands.start = ap (λ (v : Variable). v.storage) (sym same) ∙ area.1.storage in
      subst (IsObjectText p memory t.of o.values) (sym (held_is n named.variable (kept.Static stands.start) named.is stored))
      (stored_shown k o is stands t.of named.variable (type_is.2 ∙ ap (λ (v : StaticTree). c.element_scalar v.of) tree) (type_is.3 ∙ ap (λ (v : StaticTree). c.value_count v.of) tree) named.some named.element named.count (area.1.size ∙ ap variable_size same))

  -- ---- Automatic variables in memory

  -- What is shown of an automatic variable that is kept in memory is the text of the values of its object of the innermost activation.
  pub automatic_shown : (x k : ℕ) (a : AutomaticTree) (o : Object) → slice_get p.automatics x ≡ Some a → a.in_memory ≡ true → slice_get memory k ≡ Some o → o.owner ≡ OfVariable x (length waiting + 1) → o.phase ≡ Live
      → IsObjectText p memory a.of o.values (held_text m s here.place (automatic_number p x))
  automatic_shown x k a o declared inside is owner live =
      let stands = h.objects k o is live (subst (IsInMemory p) (sym owner) (a, declared, inside)) in
      let named = tables.automatics x a declared in
      let area : IsFrameArea m (here ∷ waiting) (automatic_number p x) (length waiting + 1) stands.start stands.bytes = subst (λ q. IsArea p m (here ∷ waiting) q stands.start stands.bytes) owner stands.area in
      let type_is = subst (λ q. IsDeclared p q o) owner (h.declared k o is) in
      let tree : type_is.0 ≡ a = same_Some type_is.0 a (sym type_is.1 ∙ declared) in
      let same : area.variable ≡ named.variable = same_Some area.variable named.variable (sym area.is ∙ named.is) in
      let deep = area.deep in
      let first : 0 ≡ area.index = omega (arith, deep) in
      let innermost : here ≡ area.activation = same_Some here area.activation (ap (slice_get (here ∷ waiting)) first ∙ area.there) in
      let stored : named.variable.storage ≡ kept.Frame area.offset = ap (λ (v : Variable). v.storage) (sym same) ∙ area.storage in
      let fits = h.inside (OfVariable x (length waiting + 1)) stands.start stands.bytes area in
      let starts : stands.start ≡ reg s 2 + area.offset = area.starts ∙ ap (λ (b : Standing). b.frame + area.offset) (sym innermost) ∙ ap (λ f. f + area.offset) h.frame in
      let address : stands.start ≡ word (reg s 2 + area.offset) = omega (arith, fits, starts) in
      subst (IsObjectText p memory a.of o.values) (sym (held_is (automatic_number p x) named.variable (kept.Frame area.offset) named.is stored ∙ ap (memory_text m s here.place named.variable) (sym address)))
      (stored_shown k o is stands a.of named.variable (type_is.2 ∙ ap (λ (v : AutomaticTree). c.element_scalar v.of) tree) (type_is.3 ∙ ap (λ (v : AutomaticTree). c.value_count v.of) tree) named.some named.element named.count (area.size ∙ ap variable_size same))

  -- ---- Variables in homes

  -- the word that a home holds is shown as a variable's
  home_is : (k : ℕ) (v : Variable) → slice_get m.variables k ≡ Some v → IsHome v.storage → held_text m s here.place k ≡ word_text m s here.place v.element (home_word s v.storage)
  home_is k v is home = by_storage v.storage refl home
    where
      by_storage : (storage : Storage) → v.storage ≡ storage → IsHome storage → held_text m s here.place k ≡ word_text m s here.place v.element (home_word s v.storage)
      by_storage (kept.Static a) stored kind = absurd kind
      by_storage (kept.Frame a) stored kind = absurd kind
      by_storage (kept.Register r) stored kind = held_is k v (kept.Register r) is stored ∙ ap (λ storage. word_text m s here.place v.element (home_word s storage)) (sym stored)
      by_storage (kept.Slot a) stored kind = held_is k v (kept.Slot a) is stored ∙ ap (λ storage. word_text m s here.place v.element (home_word s storage)) (sym stored)

  -- the text of a word of the value of a scalar variable is that of what its object holds
  word_is : (x k : ℕ) (a : AutomaticTree) (e : Scalar) (o : Object) (deep : ℕ) (value : source.Value) (w : ℕ) → slice_get p.automatics x ≡ Some a → a.of ≡ type.Scalar e → slice_get memory k ≡ Some o → o.owner ≡ OfVariable x deep → o.values ≡ value ∷ [] → IsWordOf p m (here ∷ waiting) memory value w
      → (v : Variable) → v.element ≡ element_of_object a.of → IsObjectText p memory a.of o.values (word_text m s here.place v.element w)
  word_is x k a e o deep value w declared scalar is owner holds means v element_is =
      let type_is = subst (λ q. IsDeclared p q o) owner (h.declared k o is) in
      let tree : type_is.0 ≡ a = same_Some type_is.0 a (sym type_is.1 ∙ declared) in
      let of : o.element ≡ e = type_is.2 ∙ ap (λ (v : AutomaticTree). c.element_scalar v.of) tree ∙ ap c.element_scalar scalar in
      let typed = h.typed k 0 o value is (ap (λ l. slice_get l 0) holds) in
      let text = word_shown p m tables memory here waiting s h o.element.base o.element.stars value w typed means in
      let element_same : v.element ≡ element_by_stars o.element.base o.element.stars = element_is ∙ ap element_of_object scalar ∙ ap (λ (e : Scalar). element_by_stars e.base e.stars) (sym of) in
      subst (λ of. IsObjectText p memory of o.values (word_text m s here.place v.element w)) (sym scalar)
      (subst (λ vs. IsObjectText p memory (type.Scalar e) vs (word_text m s here.place v.element w)) (sym holds)
      (subst (λ t. IsText p memory value (word_text m s here.place t w)) (sym element_same) text))

  -- What is shown of a scalar variable that is kept in a home is the text of its value, where the home holds the value's word.
  pub home_shown : (x k : ℕ) (a : AutomaticTree) (e : Scalar) (o : Object) (deep : ℕ) (value : source.Value) → slice_get p.automatics x ≡ Some a → a.of ≡ type.Scalar e → slice_get memory k ≡ Some o → o.owner ≡ OfVariable x deep → o.values ≡ value ∷ []
      → (v : Variable) → slice_get m.variables (automatic_number p x) ≡ Some v → IsHome v.storage → IsWordOf p m (here ∷ waiting) memory value (home_word s v.storage)
      → IsObjectText p memory a.of o.values (held_text m s here.place (automatic_number p x))
  home_shown x k a e o deep value declared scalar is owner holds v there home means =
      let named = tables.automatics x a declared in
      let same : named.variable ≡ v = same_Some named.variable v (sym named.is ∙ there) in
      subst (IsObjectText p memory a.of o.values) (sym (home_is (automatic_number p x) v there home))
      (word_is x k a e o deep value (home_word s v.storage) declared scalar is owner holds means v (ap (λ (w : Variable). w.element) (sym same) ∙ named.element))

  -- What is computed anew of a scalar variable is the text of its value, where the recipe's value is the word of the variable's.
  pub recipe_shown : (x k : ℕ) (a : AutomaticTree) (e : Scalar) (o : Object) (deep : ℕ) (value : source.Value) (node : ℕ) → slice_get p.automatics x ≡ Some a → a.of ≡ type.Scalar e → slice_get memory k ≡ Some o → o.owner ≡ OfVariable x deep → o.values ≡ value ∷ []
      → IsWordOf p m (here ∷ waiting) memory value (recipe_value m s recipe_levels node) → IsObjectText p memory a.of o.values (recovered_text m s here.place (automatic_number p x) node)
  recipe_shown x k a e o deep value node declared scalar is owner holds means =
      let named = tables.automatics x a declared in
      subst (IsObjectText p memory a.of o.values) (sym (ap (λ r. option_map_or (λ (v : Variable). word_text m s here.place v.element (recipe_value m s recipe_levels node)) r []) named.is))
      (word_is x k a e o deep value (recipe_value m s recipe_levels node) declared scalar is owner holds means named.variable named.element)
