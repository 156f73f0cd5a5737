-- What a program's run keeps is kept by declarators of arrays with elements.
use Rattle.std.proofs.Common.{◌≡◌, ℕ, ◌+◌, inl, inr, List, [], ◌∷◌, Some, true, slice_get, slice_set, sym, subst, arith}
use Rattle.debug_records.specs.declared.source.Spot.{Spot}
use Rattle.c_tree.specs.declared.types.IntegerType.{IntegerType}
use Rattle.c_tree.specs.declared.object_type.Scalar.{Scalar}
use Rattle.c_tree.specs.declared.object_type.ValueType.TheVariants.{Integer}
use Rattle.c_tree.specs.TypedExpressions.{RvalueTree, Convert}
use Rattle.c_tree.specs.Programs.{AutomaticTree}
use Rattle.c_type_rules.specs.Integers.{wrapped}
use Rattle.c_type_rules.specs.Types.{loaded_type}
use Rattle.c_type_laws.specs.Kind.{Kind}
use Rattle.c_type_laws.specs.Kinds.{is_of, is_integer}
use Rattle.c_type_laws.specs.Expressions.{kind_of}
use Rattle.c_meaning_values.specs.declared.value.Value as source-value
use Rattle.c_meaning_values.specs.declared.value.Value.TheVariants as source
use Rattle.c_meaning_values.specs.Types.{element_scalar}
use Rattle.c_meaning_values.specs.Memory.{set_value}
use Rattle.c_meaning_values.specs.Operations.{convert}
use Rattle.c_meaning_steps.specs.States.{State, value_or_undefined, Outcome, on_value}
use Rattle.c_meaning.specs.Statements.{value_at, initialise_elements}
use Rattle.graph_build_names.specs.Names.{object_of}
use Rattle.graph_build_statements.specs.Reached.{bare}
use Rattle.graph_build_runs.specs.Typed.{IsOf}
use Rattle.graph_build_runs.proofs.Leads.{names_in, depth_in}
use Rattle.graph_build_runs.proofs.Kept.{Since, Sound}
use Rattle.graph_build_runs.proofs.Types.{kind_is_of}
use Rattle.graph_build_runs.proofs.Wrapping.{wrapped_holds}
use Rattle.graph_build_runs.proofs.Activities.{Activity, here_in, place_at}
use Rattle.graph_build_runs.proofs.Living.{grown_since}
use Rattle.graph_build_runs.proofs.Outcomes.{grown_none}
use Rattle.graph_build_runs.proofs.Stops.{Lawful, Ready}
use Rattle.graph_build_runs.proofs.AtPlaces.{Works}
use Rattle.graph_build_runs.proofs.Keeping.{KeptBy, kept_since, value_kept}
use Rattle.graph_build_runs.proofs.Arrays.{ready_since, IsArray, array_later, set_is, since_set, sound_element}
use Rattle.graph_build_runs.proofs.ArrayElements.{bare_cases, mapped_value, element_is, integer_value, converted_fits, ElementsWork}

module _ (k : Activity) (law : Lawful k) (v j : ℕ) (a : AutomaticTree) (is : slice_get k.setting.program.automatics v ≡ Some a) (named : object_of (names_in k.setting) v ≡ Some j) (inside : a.in_memory ≡ true) (low : ℕ) (spot : Spot) where
  abbrev here : ℕ
  here = place_at k spot.at

  abbrev kind : RvalueTree → Kind
  kind e = kind_of k.setting.program k.setting.tree e

  abbrev element : Scalar
  element = element_scalar a.of

  -- What is kept where an element is evaluated by way of its expression without the conversion.
  abbrev Kept : (q b : RvalueTree) → Type 0
  Kept q b = Works k here b → is_of (kind q) (loaded_type element) ≡ true → (s : State) → Sound k.setting.program s.memory s → Ready k here s.memory → (next : source-value.Value → State → Outcome)
      → ((val : source-value.Value) (s2 : State) → Sound k.setting.program s2.memory s2 → Since s.memory s2.memory → IsOf s2.memory (loaded_type element) val → KeptBy k low (v + 1) (v ∷ []) s2.memory (next val s2))
      → KeptBy k low (v + 1) (v ∷ []) s.memory (on_value (value_at k.calls (here_in k) spot q s) next)

  plain_kept : (e : RvalueTree) → Kept e e
  plain_kept e works fits_type s sound ready next go =
      value_kept k spot.at e works s sound ready low (v + 1) (v ∷ []) next (λ val s2 sound2 since kind_is. go val s2 sound2 since (kind_is_of s2.memory (kind e) (loaded_type element) val fits_type kind_is))

  converted_kept : (ty : IntegerType) (b : RvalueTree) → Kept (Convert ty b) b
  converted_kept ty b works fits_type s sound ready next go =
      let both = converted_fits (is_integer (kind b)) (Integer ty) (loaded_type element) fits_type in
      let scalar = element_is ty element.base element.stars both.1 in
      let convert_then : source-value.Value → State → Outcome = λ val s2. on_value (value_or_undefined (convert ty val) s2) next in
      subst (λ o. KeptBy k low (v + 1) (v ∷ []) s.memory o) (sym (mapped_value (value_at k.calls (here_in k) spot b s) (convert ty) next))
      (value_kept k spot.at b works s sound ready low (v + 1) (v ∷ []) convert_then
      (λ val s2 sound2 since kind_is.
      (let n = integer_value s2.memory (kind b) val both.0 kind_is in
      let typed = subst (λ z. IsOf s2.memory (loaded_type z) (source.Number (wrapped ty n.1))) scalar (wrapped_holds ty n.1) in
      subst (λ q. KeptBy k low (v + 1) (v ∷ []) s2.memory (on_value (value_or_undefined (convert ty q) s2) next)) (sym n.2) (go (source.Number (wrapped ty n.1)) s2 sound2 since typed))))

  kept_so : (e : RvalueTree) → Kept e (bare e)
  kept_so e = elim (bare_cases e) [
    | inl found ↦ subst (λ q. Kept q (bare q)) (sym found.2) (converted_kept found.0 found.1)
    | inr same ↦ subst (λ b. Kept e b) (sym same) (plain_kept e)
  ]

  pub elements_keep : (all : List RvalueTree) (index : ℕ) → ElementsWork k here element all → (s : State) → Sound k.setting.program s.memory s → Ready k here s.memory → (n : ℕ) → IsArray k v a s.memory n
      → KeptBy k low (v + 1) (v ∷ []) s.memory (initialise_elements k.calls (here_in k) spot n index all s)
  elements_keep [] index work s sound ready n arr =
      record { sound = sound; grown = grown_none k low (v + 1) s.memory; brings = (record { number = n; object = arr.object; is = arr.is; owner = arr.owner; lives = arr.lives }, tt) }
  elements_keep (e ∷ more) index work s sound ready n arr =
      kept_so e work.0 work.1 s sound ready (λ val z. initialise_elements k.calls (here_in k) spot n (index + 1) more (record z { memory = set_value z.memory n index val }))
      (λ val s2 sound2 since typed.
      (let arr2 = array_later k v a s.memory s2.memory n since.later arr in
      let memory = slice_set s2.memory n (record arr2.object { values = slice_set arr2.object.values index val }) in
      let s3 : State = record s2 { memory = memory } in
      let since3 = since_set k law v j a is named inside s2.memory n index arr2 val in
      subst (λ z. KeptBy k low (v + 1) (v ∷ []) s2.memory (initialise_elements k.calls (here_in k) spot n (index + 1) more (record s2 { memory = z }))) (sym (set_is k law v j a is named inside s2.memory n index arr2 val))
      (kept_since k low (v + 1) low (v + 1) (v ∷ []) s2.memory memory (initialise_elements k.calls (here_in k) spot n (index + 1) more s3) (omega arith) (omega arith) (grown_since (depth_in k.setting) low (v + 1) s2.memory memory since3)
      (elements_keep more (index + 1) work.2 s3 (sound_element k law v j a is named inside s2 n index arr2 val sound2 typed) (ready_since k here s2.memory memory since3 (ready_since k here s.memory s2.memory since ready)) n
      (array_later k v a s2.memory memory n since3.later arr2)))))
