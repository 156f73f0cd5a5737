-- What a debugger takes an address for: the object in which, or directly behind which, it lies.
use Rattle.std.proofs.Common.{◌≡◌, ◌≢◌, ℕ, zero, suc, ◌+◌, ◌-◌, ◌<◌, ◌≤◌, Bool, true, false, Some, None, List, [], ◌∷◌, length, slice_get, refl, sym, ap, ◌∙◌, subst, arith}
use Rattle.std.specs.Prelude.{◌==◌, if◌then◌else◌}
use Rattle.std.specs.Option.{option_map_or}
use Rattle.std.proofs.lemmas.Bool.Decides.{nat_tests}
use Rattle.std.proofs.lemmas.Option.{same_Some}
use Rattle.word_base.specs.Owners.{Owner, Static, Literal, Variable as OfVariable}
use Rattle.c_tree.specs.Programs.{ProgramTree}
use Rattle.c_meaning_values.specs.Memory.{Memory}
use Rattle.image_form.specs.Form.{Form}
use Rattle.image_form.specs.declared.variables.Storage.{Storage}
use Rattle.image_form.specs.declared.variables.Storage.TheVariants as kept
use Rattle.image_form.specs.declared.variables.Variable.{Variable}
use Rattle.rv_machine.specs.State.{MachineState, word}
use Rattle.stop_engine_view.specs.declared.target.Target.{Target}
use Rattle.stop_engine_view.specs.declared.target.Target.TheVariants as target
use Rattle.stop_engine_view.specs.Pointers.{variable_size, static_start, local_start, literal_count, offset_within, static_offset, static_target, static_target_of, is_variable_of, function_of_place, local_offset, local_target}
use Rattle.image_truth_units.specs.Variables.{static_count, automatic_number, HasVariablesOf}
use Rattle.image_truth_units.specs.Standing.{Standing, IsArea, IsStaticArea, HoldsMemory}
use Rattle.image_truth_units.proofs.Areas.{there, found_within, number_of, literals_before, static_area, owned_behind, frame_area, elsewhere}

-- what an address so far behind the start of what an owner owns is to be taken for
abbrev pub owner_target : ProgramTree → Owner → (offset : ℕ) → Target
owner_target p (Static n) offset = target.Static n offset
owner_target p (Literal n) offset = target.Literal (n + 1) offset
owner_target p (OfVariable x deep) offset = target.Local (automatic_number p x) deep offset

-- these are the variables of an image from a number on
abbrev pub AreFrom : Form → (number : ℕ) → List Variable → Type 0
AreFrom m number vs = (j : ℕ) → slice_get vs j ≡ slice_get m.variables (number + j)

pub from_next : (m : Form) (number : ℕ) (v : Variable) (vs : List Variable) → AreFrom m number (v ∷ vs) → AreFrom m (number + 1) vs
from_next m number v vs from j = let at : number + suc j ≡ number + 1 + j = omega arith in from (suc j) ∙ ap (slice_get m.variables) at

pub from_here : (m : Form) (number : ℕ) (v : Variable) (vs : List Variable) → AreFrom m number (v ∷ vs) → slice_get m.variables number ≡ Some v
from_here m number v vs from = let at : number ≡ number + 0 = omega arith in ap (slice_get m.variables) at ∙ sym (from 0)

pub from_first : (m : Form) → AreFrom m 0 m.variables
from_first m j = ap (slice_get m.variables) (omega arith)

module _ (p : ProgramTree) (m : Form) (tables : HasVariablesOf p m) (memory : Memory) (here : Standing) (waiting : List Standing) (s : MachineState) (h : HoldsMemory p m memory here waiting s) (o : Owner) (start bytes offset : ℕ) (area : IsArea p m (here ∷ waiting) o start bytes) (within : offset ≤ bytes) where
  -- ---- Static storage

  -- a variable that is not the owner's own does not have the address among its bytes
  no_static : (k : ℕ) (v : Variable) → slice_get m.variables k ≡ Some v → (k < static_count p → number_of p o ≢ k) → static_offset v (start + offset) ≡ None
  no_static k v is other = by_storage v.storage refl
    where
      by_storage : (storage : Storage) → v.storage ≡ storage → static_offset v (start + offset) ≡ None
      by_storage (kept.Static a) e =
          let q = static_area p m tables (here ∷ waiting) k a v is e in
          let differs : o ≢ q.0 = λ same. other (tables.fixed k a v is e) (ap (number_of p) same ∙ q.1) in
          ap (λ storage. option_map_or (λ first. offset_within v first (start + offset)) (static_start storage) None) e
          ∙ elsewhere p m memory here waiting s h o start bytes offset area within q.0 v a differs q.2
      by_storage (kept.Frame a) e = ap (λ storage. option_map_or (λ first. offset_within v first (start + offset)) (static_start storage) None) e
      by_storage (kept.Register a) e = ap (λ storage. option_map_or (λ first. offset_within v first (start + offset)) (static_start storage) None) e
      by_storage (kept.Slot a) e = ap (λ storage. option_map_or (λ first. offset_within v first (start + offset)) (static_start storage) None) e

  -- no variable of static storage has the address of one that is not of it
  pub static_none : (vs : List Variable) (number count : ℕ) → AreFrom m number vs → static_count p ≤ number_of p o → static_target (start + offset) number count vs ≡ None
  static_none [] number count from local = refl
  static_none (v ∷ vs) number count from local =
      let none = no_static number v (from_here m number v vs from) (λ below same. absurd (omega (arith, below, same, local))) in
      let rest = static_none vs (number + 1) (count + literal_count v) (from_next m number v vs from) local in
      ap (λ r. option_map_or (λ n. Some (static_target_of v number (count + literal_count v) n)) r (static_target (start + offset) (number + 1) (count + literal_count v) vs)) none ∙ rest

  -- the address lies in the variable that is kept where it leads
  static_hit : (number : ℕ) → IsStaticArea m number start bytes → (v : Variable) → slice_get m.variables number ≡ Some v → static_offset v (start + offset) ≡ Some offset
  static_hit number a v is =
      let same : a.variable ≡ v = same_Some a.variable v (sym a.is ∙ is) in
      let stored : v.storage ≡ kept.Static start = ap (λ (w : Variable). w.storage) (sym same) ∙ a.storage in
      let size : bytes ≡ variable_size v = a.size ∙ ap variable_size same in
      let fits = h.inside o start bytes area in
      ap (λ storage. option_map_or (λ first. offset_within v first (start + offset)) (static_start storage) None) stored
      ∙ found_within v start offset (omega (arith, within, size)) (omega (arith, fits, size))

  -- the owner's own variable is taken for what it is
  static_here : (q : Owner) → IsArea p m (here ∷ waiting) q start bytes → (v : Variable) (number count : ℕ) → slice_get m.variables number ≡ Some v → number_of p q ≡ number → number < static_count p → count ≡ number - length p.statics
      → (static_offset v (start + offset) ≡ Some offset) × (static_target_of v number (count + literal_count v) offset ≡ owner_target p q offset)
  static_here (Static n) its v number count is at below counted =
      let t = there p.statics n its.0 in
      let named = tables.statics n t.0 t.1 in
      let same : named.variable ≡ v = same_Some named.variable v (sym named.is ∙ ap (slice_get m.variables) at ∙ is) in
      let test : (v.name_length == 0) ≡ false = grind (arith, nat_tests, same, named.length_is) in (
        static_hit number (subst (λ k. IsStaticArea m k start bytes) at its.1) v is,
        ap (λ b. if b then target.Literal (count + literal_count v) offset else target.Static number offset) test ∙ ap (λ k. target.Static k offset) (sym at),
      )
  static_here (Literal n) its v number count is at below counted =
      let t = there p.literals n its.0 in
      let one = tables.literals n t.0 t.1 in
      let same : one.variable ≡ v = same_Some one.variable v (sym one.is ∙ ap (slice_get m.variables) at ∙ is) in
      let length_is : v.name_length ≡ 0 = ap (λ (w : Variable). w.name_length) (sym same) ∙ one.length_is in
      let test : (v.name_length == 0) ≡ true = ap (λ k. k == 0) length_is in
      let some : literal_count v ≡ 1 = ap (λ b. if b then 1 else 0) test in
      let place : count + literal_count v ≡ n + 1 = omega (arith, some, counted, at) in (
        static_hit number (subst (λ k. IsStaticArea m k start bytes) at its.1) v is,
        ap (λ b. if b then target.Literal (count + literal_count v) offset else target.Static number offset) test ∙ ap (λ k. target.Literal k offset) place,
      )
  static_here (OfVariable x d) its v number count is at below counted = absurd (omega (arith, at, below))

  -- the owner's own variable of static storage is found
  pub static_found : (vs : List Variable) (j number count : ℕ) → AreFrom m number vs → j < length vs → number + j ≡ number_of p o → number_of p o < static_count p → count ≡ number - length p.statics
      → static_target (start + offset) number count vs ≡ Some (owner_target p o offset)
  static_found [] j number count from lt at below counted = absurd (omega (arith, lt))
  static_found (v ∷ vs) zero number count from lt at below counted =
      let r = static_here o area v number count (from_here m number v vs from) (omega (arith, at)) (omega (arith, at, below)) counted in
      ap (λ r. option_map_or (λ n. Some (static_target_of v number (count + literal_count v) n)) r (static_target (start + offset) (number + 1) (count + literal_count v) vs)) r.0 ∙ ap (λ t. Some t) r.1
  static_found (v ∷ vs) (suc j) number count from lt at below counted =
      let is = from_here m number v vs from in
      let none = no_static number v is (λ few same. absurd (omega (arith, at, same))) in
      let next = literals_before p m tables number v is (omega (arith, at, below)) in
      let rest = static_found vs j (number + 1) (count + literal_count v) (from_next m number v vs from) (omega (arith, lt)) (omega (arith, at)) below (omega (arith, next, counted)) in
      ap (λ r. option_map_or (λ n. Some (static_target_of v number (count + literal_count v) n)) r (static_target (start + offset) (number + 1) (count + literal_count v) vs)) none ∙ rest

  -- ---- Frames

  -- a variable of an activation's function that is not the owner's own does not have the address among its bytes
  pub no_local : (index deep k : ℕ) (a : Standing) (v : Variable) → slice_get (here ∷ waiting) index ≡ Some a → deep + index ≡ length (here ∷ waiting) → slice_get m.variables k ≡ Some v → (static_count p ≤ k → o ≢ OfVariable (k - static_count p) deep)
      → local_offset v (function_of_place m a.place) a.frame (start + offset) ≡ None
  no_local index deep k a v at depth_is is other = by_test (is_variable_of (function_of_place m a.place) v) refl
    where
      by_storage : (storage : Storage) → is_variable_of (function_of_place m a.place) v ≡ true → v.storage ≡ storage → option_map_or (λ first. offset_within v first (start + offset)) (local_start a.frame v.storage) None ≡ None
      by_storage (kept.Frame n) own e =
          let its = frame_area p m tables (here ∷ waiting) index deep k n a v at depth_is is own e in
          let fits = h.inside (OfVariable (k - static_count p) deep) (a.frame + n) (variable_size v) its in
          let small : word (a.frame + n) ≡ a.frame + n = omega (arith, fits) in
          ap (λ storage. option_map_or (λ first. offset_within v first (start + offset)) (local_start a.frame storage) None) e
          ∙ ap (λ first. offset_within v first (start + offset)) small
          ∙ elsewhere p m memory here waiting s h o start bytes offset area within (OfVariable (k - static_count p) deep) v (a.frame + n) (other (owned_behind p m tables (here ∷ waiting) k (function_of_place m a.place) v is own)) its
      by_storage (kept.Static n) own e = ap (λ storage. option_map_or (λ first. offset_within v first (start + offset)) (local_start a.frame storage) None) e
      by_storage (kept.Register n) own e = ap (λ storage. option_map_or (λ first. offset_within v first (start + offset)) (local_start a.frame storage) None) e
      by_storage (kept.Slot n) own e = ap (λ storage. option_map_or (λ first. offset_within v first (start + offset)) (local_start a.frame storage) None) e

      by_test : (b : Bool) → is_variable_of (function_of_place m a.place) v ≡ b → local_offset v (function_of_place m a.place) a.frame (start + offset) ≡ None
      by_test false e = ap (λ b. if b then option_map_or (λ first. offset_within v first (start + offset)) (local_start a.frame v.storage) None else None) e
      by_test true e =
          ap (λ b. if b then option_map_or (λ first. offset_within v first (start + offset)) (local_start a.frame v.storage) None else None) e ∙ by_storage v.storage e refl

  -- no variable of an activation at another depth has the address
  pub local_none : (index deep : ℕ) (a : Standing) → slice_get (here ∷ waiting) index ≡ Some a → deep + index ≡ length (here ∷ waiting) → ((x : ℕ) → o ≢ OfVariable x deep) → (vs : List Variable) (number : ℕ) → AreFrom m number vs
      → local_target (start + offset) (function_of_place m a.place) a.frame deep number vs ≡ None
  local_none index deep a at depth_is other [] number from = refl
  local_none index deep a at depth_is other (v ∷ vs) number from =
      let none = no_local index deep number a v at depth_is (from_here m number v vs from) (λ least. other (number - static_count p)) in
      let rest = local_none index deep a at depth_is other vs (number + 1) (from_next m number v vs from) in
      ap (λ r. option_map_or (λ n. Some (target.Local number deep n)) r (local_target (start + offset) (function_of_place m a.place) a.frame deep (number + 1) vs)) none ∙ rest
