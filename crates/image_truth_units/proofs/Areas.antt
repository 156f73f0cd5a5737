-- Addresses that lie in what an owner owns, and those that do not.
use Rattle.std.proofs.Common.{◌≡◌, ◌≢◌, ℕ, ◌+◌, ◌-◌, ◌<◌, ◌≤◌, ◌⊎◌, inl, inr, true, false, Option, Some, None, List, ◌∷◌, length, slice_get, refl, sym, ap, ◌∙◌, arith}
use Rattle.std.specs.Prelude.{◌==◌, nat_le, if◌then◌else◌}
use Rattle.std.specs.Option.{option_map_or}
use Rattle.std.proofs.lemmas.Bool.{cases_lt, le-leb}
use Rattle.std.proofs.lemmas.Bool.Decides.{nat_tests}
use Rattle.std.proofs.lemmas.Option.{same_Some}
use Rattle.word_base.specs.Owners.{Owner, Static, Literal, Variable as OfVariable}
use Rattle.c_tree.specs.Programs.{ProgramTree}
use Rattle.c_meaning_values.specs.Memory.{Memory}
use Rattle.image_form.specs.Form.{Form}
use Rattle.image_form.specs.declared.variables.Storage.TheVariants as kept
use Rattle.image_form.specs.declared.variables.Variable.{Variable}
use Rattle.rv_machine.specs.State.{MachineState}
use Rattle.stop_engine_view.specs.Pointers.{offset_from, variable_size, is_within, literal_count, offset_within, is_variable_of, function_of_place}
use Rattle.image_truth_units.specs.Variables.{static_count, automatic_number, HasVariablesOf}
use Rattle.image_truth_units.specs.Standing.{Standing, IsArea, HoldsMemory}
pub use Rattle.base_laws.proofs.Lists.{there_again as there}

-- ---- Lists

-- ---- Distances

-- an address in an object lies so many bytes behind its start
pub found_within : (v : Variable) (start offset : ℕ) → offset ≤ variable_size v → start + variable_size v < 4294967296 → offset_within v start (start + offset) ≡ Some offset
found_within v start offset le fits =
    let behind : offset_from (start + offset) start ≡ offset = omega (arith, le, fits) in
    let test : is_within v start (start + offset) ≡ true = ap (λ k. nat_le k (variable_size v)) behind ∙ le-leb offset (variable_size v) le in
    ap (λ b. if b then Some (offset_from (start + offset) start) else None) test ∙ ap Some behind

far : (size start address : ℕ) → start + size < 4294967296 → address < 4294967296 → (address < start) ⊎ (start + size < address) → size < offset_from address start
far size start address fits small (inl before) = omega (arith, fits, small, before)
far size start address fits small (inr behind) = omega (arith, fits, small, behind)

-- an address outside of an object lies in none of its bytes
pub missed_within : (v : Variable) (start address : ℕ) → start + variable_size v < 4294967296 → address < 4294967296 → (address < start) ⊎ (start + variable_size v < address) → offset_within v start address ≡ None
missed_within v start address fits small outside =
    let more = far (variable_size v) start address fits small outside in
    let test : is_within v start address ≡ false = not_le (offset_from address start) (variable_size v) more in
    ap (λ b. if b then Some (offset_from address start) else None) test
  where
    not_le : (a b : ℕ) → b < a → nat_le a b ≡ false
    not_le a b lt = grind (arith, nat_tests, lt)

-- ---- Owners and their numbers

-- the number of an owner's variable among all of an image
abbrev pub number_of : ProgramTree → Owner → ℕ
number_of p (Static n) = n
number_of p (Literal n) = length p.statics + n
number_of p (OfVariable x depth) = automatic_number p x

-- static variables have names, and literals have none: so many literals come before a variable of static storage
pub literals_before : (p : ProgramTree) (m : Form) → HasVariablesOf p m → (k : ℕ) (v : Variable) → slice_get m.variables k ≡ Some v → k < static_count p → k - length p.statics + literal_count v ≡ k + 1 - length p.statics
literals_before p m tables k v is lt = elim (cases_lt k (length p.statics)) [
  | inl static ↦
      let t = there p.statics k static in
      let named = tables.statics k t.0 t.1 in
      let same : named.variable ≡ v = same_Some named.variable v (sym named.is ∙ is) in
      let none : literal_count v ≡ 0 = grind (arith, nat_tests, same, named.length_is) in
      omega (arith, none, static)
  | inr literal ↦
      let t = there p.literals (k - length p.statics) (omega (arith, lt, literal)) in
      let one = tables.literals (k - length p.statics) t.0 t.1 in
      let at : length p.statics + (k - length p.statics) ≡ k = omega (arith, literal) in
      let same : one.variable ≡ v = same_Some one.variable v (sym one.is ∙ ap (slice_get m.variables) at ∙ is) in
      let some : literal_count v ≡ 1 = ap (λ n. if n == 0 then 1 else 0) (ap (λ (w : Variable). w.name_length) (sym same) ∙ one.length_is) in
      omega (arith, some, literal)
]

module _ (p : ProgramTree) (m : Form) (tables : HasVariablesOf p m) (stack : List Standing) where
  -- a variable that is kept at an address is an owner's, whose area begins there
  pub static_area : (k a : ℕ) (v : Variable) → slice_get m.variables k ≡ Some v → v.storage ≡ kept.Static a → (q : Owner) × (number_of p q ≡ k) × IsArea p m stack q a (variable_size v)
  static_area k a v is stored = elim (cases_lt k (length p.statics)) [
    | inl static ↦ (Static k, refl, (static, record { variable = v; is = is; storage = stored; size = refl }))
    | inr literal ↦
        let below = tables.fixed k a v is stored in
        let at : length p.statics + (k - length p.statics) ≡ k = omega (arith, literal) in
        let less : k - length p.statics < length p.literals = omega (arith, below, literal) in
        (Literal (k - length p.statics), at, (less, record { variable = v; is = ap (slice_get m.variables) at ∙ is; storage = stored; size = refl }))
  ]

  -- a variable of a function belongs to no static storage
  pub owned_behind : (k f : ℕ) (v : Variable) → slice_get m.variables k ≡ Some v → is_variable_of f v ≡ true → static_count p ≤ k
  owned_behind k f v is own = by_function v.function refl
    where
      by_function : (o : Option ℕ) → v.function ≡ o → static_count p ≤ k
      by_function None e = let no : is_variable_of f v ≡ false = ap (λ o. option_map_or (λ g. g == f) o false) e in cc
      by_function (Some g) e = tables.owned k g v is e

  -- a variable of an activation's function that is kept in its frame is an owner's, whose area begins there
  pub frame_area : (index depth k offset : ℕ) (a : Standing) (v : Variable) → slice_get stack index ≡ Some a → depth + index ≡ length stack → slice_get m.variables k ≡ Some v → is_variable_of (function_of_place m a.place) v ≡ true → v.storage ≡ kept.Frame offset
      → IsArea p m stack (OfVariable (k - static_count p) depth) (a.frame + offset) (variable_size v)
  frame_area index depth k offset a v there_is deep is own stored =
      let least = owned_behind k (function_of_place m a.place) v is own in
      let at : automatic_number p (k - static_count p) ≡ k = omega (arith, least) in
      record { index = index; activation = a; there = there_is; deep = deep; variable = v; is = ap (slice_get m.variables) at ∙ is; own = own; offset = offset; storage = stored; starts = refl; size = refl }

-- ---- What is not the owner's

module _ (p : ProgramTree) (m : Form) (memory : Memory) (here : Standing) (waiting : List Standing) (s : MachineState) (h : HoldsMemory p m memory here waiting s) (o : Owner) (start bytes offset : ℕ) (area : IsArea p m (here ∷ waiting) o start bytes) (within : offset ≤ bytes) where
  -- an address in what an owner owns lies in no other one's
  pub elsewhere : (q : Owner) (v : Variable) (a : ℕ) → o ≢ q → IsArea p m (here ∷ waiting) q a (variable_size v) → offset_within v a (start + offset) ≡ None
  elsewhere q v a other its =
      let mine = h.inside o start bytes area in
      let fits = h.inside q a (variable_size v) its in
      missed_within v a (start + offset) fits.1 (omega (arith, mine, within)) (outside (h.apart o q start a bytes (variable_size v) other area its))
    where
      outside : (start + bytes < a) ⊎ (a + variable_size v < start) → (start + offset < a) ⊎ (a + variable_size v < start + offset)
      outside (inl before) = inl (omega (arith, before, within))
      outside (inr behind) = inr (omega (arith, behind))
