-- A pointer of a program's run is taken for what it points to.
use Rattle.std.proofs.Common.{◌≡◌, ◌≢◌, ℕ, zero, suc, ◌+◌, ◌-◌, ◌<◌, ◌≤◌, true, false, Some, None, List, [], ◌∷◌, length, slice_get, refl, sym, ap, ◌∙◌, subst, arith}
use Rattle.std.specs.Prelude.{◌==◌, if◌then◌else◌}
use Rattle.std.specs.Option.{option_map_or}
use Rattle.std.proofs.lemmas.Bool.Decides.{nat_tests}
use Rattle.std.proofs.lemmas.Option.{same_Some, slice_get_within}
use Rattle.word_base.specs.Owners.{Owner, Static, Literal, Variable as OfVariable}
use Rattle.c_tree.specs.Programs.{StaticTree, AutomaticTree, ProgramTree}
use Rattle.c_meaning_values.specs.Memory.{Memory, Object}
use Rattle.image_form.specs.Form.{Form}
use Rattle.image_form.specs.declared.variables.Storage.TheVariants as kept
use Rattle.image_form.specs.declared.variables.Variable.{Variable}
use Rattle.line_form.specs.Values.{static_pointer, frame_pointer, null_text, unknown_pointer}
use Rattle.rv_machine.specs.State.{MachineState, reg, word}
use Rattle.stop_engine_view.specs.declared.target.Target.TheVariants as target
use Rattle.stop_engine_view.specs.Callers.{calling_place}
use Rattle.stop_engine_view.specs.Reading.{depth, frame_of, greatest_depth}
use Rattle.stop_engine_view.specs.Pointers.{variable_size, local_start, offset_within, is_variable_of, function_of_place, local_offset, local_target, target_or_else, stack_target, pointed_at, target_text, pointer_text}
use Rattle.image_truth_units.specs.Texts.{owner_text}
use Rattle.image_truth_units.specs.Variables.{static_count, automatic_number, HasVariablesOf}
use Rattle.image_truth_units.specs.Standing.{Standing, AreCallers, IsArea, IsStaticArea, IsFrameArea, IsDeclared, HoldsMemory}
use Rattle.image_truth_units.proofs.Areas.{found_within, number_of}
use Rattle.image_truth_units.proofs.Finding.{owner_target, AreFrom, from_next, from_here, from_first, static_none, static_found, no_local, local_none}

-- the depth of an automatic variable's activation
abbrev depth_of : Owner → ℕ
depth_of (Static n) = 0
depth_of (Literal n) = 0
depth_of (OfVariable x deep) = deep

depth_bound : greatest_depth ≡ 1024
unfolding greatest_depth
depth_bound = refl

-- ---- Objects of frames

module _ (p : ProgramTree) (m : Form) (tables : HasVariablesOf p m) (memory : Memory) (here : Standing) (waiting : List Standing) (s : MachineState) (h : HoldsMemory p m memory here waiting s) (x deep start bytes offset : ℕ) (area : IsFrameArea m (here ∷ waiting) (automatic_number p x) deep start bytes) (within : offset ≤ bytes) where
  -- the address lies in the variable of the activation
  local_hit : (v : Variable) → slice_get m.variables (automatic_number p x) ≡ Some v → local_offset v (function_of_place m area.activation.place) area.activation.frame (start + offset) ≡ Some offset
  local_hit v is =
      let same : area.variable ≡ v = same_Some area.variable v (sym area.is ∙ is) in
      let own : is_variable_of (function_of_place m area.activation.place) v ≡ true = ap (is_variable_of (function_of_place m area.activation.place)) (sym same) ∙ area.own in
      let stored : v.storage ≡ kept.Frame area.offset = ap (λ (w : Variable). w.storage) (sym same) ∙ area.storage in
      let size : bytes ≡ variable_size v = area.size ∙ ap variable_size same in
      let fits = h.inside (OfVariable x deep) start bytes area in
      let starts = area.starts in
      let first : word (area.activation.frame + area.offset) ≡ start = omega (arith, fits, starts) in
      ap (λ b. if b then option_map_or (λ f. offset_within v f (start + offset)) (local_start area.activation.frame v.storage) None else None) own
      ∙ ap (λ storage. option_map_or (λ f. offset_within v f (start + offset)) (local_start area.activation.frame storage) None) stored
      ∙ ap (λ f. offset_within v f (start + offset)) first
      ∙ found_within v start offset (omega (arith, within, size)) (omega (arith, fits, size))

  -- it is found in its frame
  local_found : (vs : List Variable) (j number : ℕ) → AreFrom m number vs → j < length vs → number + j ≡ automatic_number p x
      → local_target (start + offset) (function_of_place m area.activation.place) area.activation.frame deep number vs ≡ Some (target.Local (automatic_number p x) deep offset)
  local_found [] j number from lt at = absurd (omega (arith, lt))
  local_found (v ∷ vs) zero number from lt at =
      let same : number ≡ automatic_number p x = omega (arith, at) in
      let hit = local_hit v (ap (slice_get m.variables) (sym same) ∙ from_here m number v vs from) in
      ap (λ r. option_map_or (λ n. Some (target.Local number deep n)) r (local_target (start + offset) (function_of_place m area.activation.place) area.activation.frame deep (number + 1) vs)) hit ∙ ap (λ k. Some (target.Local k deep offset)) same
  local_found (v ∷ vs) (suc j) number from lt at =
      let other : static_count p ≤ number → OfVariable x deep ≢ OfVariable (number - static_count p) deep = λ least same. absurd (let e : automatic_number p x ≡ automatic_number p (number - static_count p) = ap (number_of p) same in omega (arith, e, at, least)) in
      let none = no_local p m tables memory here waiting s h (OfVariable x deep) start bytes offset area within area.index deep number area.activation v area.there area.deep (from_here m number v vs from) other in
      let rest = local_found vs j (number + 1) (from_next m number v vs from) (omega (arith, lt)) (omega (arith, at)) in
      ap (λ r. option_map_or (λ n. Some (target.Local number deep n)) r (local_target (start + offset) (function_of_place m area.activation.place) area.activation.frame deep (number + 1) vs)) none ∙ rest

  -- and so it is among the frames, where no inner one has it
  stack_found : (n : ℕ) (a : Standing) (more : List Standing) (i j : ℕ) → ((k : ℕ) → slice_get (a ∷ more) k ≡ slice_get (here ∷ waiting) (i + k)) → i + (length more + 1) ≡ length waiting + 1 → AreCallers m s a more → i + j ≡ area.index → length more < n
      → stack_target n m s (start + offset) a.place a.frame (length more + 1) ≡ Some (target.Local (automatic_number p x) deep offset)
  stack_found zero a more i j from long callers at few = absurd (omega (arith, few))
  stack_found (suc n) a more i zero from long callers at few =
      let index : i + 0 ≡ area.index = at in
      let same : a ≡ area.activation = same_Some a area.activation (from 0 ∙ ap (slice_get (here ∷ waiting)) index ∙ area.there) in
      let level = area.deep in
      let deep_is : length more + 1 ≡ deep = omega (arith, level, long, index) in
      let number = slice_get_within m.variables (automatic_number p x) area.variable area.is in
      let found = local_found m.variables (automatic_number p x) 0 (from_first m) number (omega arith) in
      let first : local_target (start + offset) (function_of_place m a.place) a.frame (length more + 1) 0 m.variables ≡ Some (target.Local (automatic_number p x) deep offset) =
      ap (λ d. local_target (start + offset) (function_of_place m a.place) a.frame d 0 m.variables) deep_is ∙ ap (λ (b : Standing). local_target (start + offset) (function_of_place m b.place) b.frame deep 0 m.variables) same ∙ found in
      ap (λ r. target_or_else r (if calling_place m s a.frame == 0 then None else stack_target n m s (start + offset) (calling_place m s a.frame) (word (a.frame + frame_of m a.place)) (word (length more + 1 + 4294967295)))) first
  stack_found (suc n) a [] i (suc j) from long callers at few = absurd (none (from (suc j) ∙ ap (slice_get (here ∷ waiting)) at ∙ area.there))
    where
      none : {A : Type 0} {y : A} → None ≡ Some y → ⊥
      none e = cc
  stack_found (suc n) a (b ∷ more) i (suc j) from long callers at few =
      let level = area.deep in
      let start_is : i + 0 ≡ i = omega arith in
      let first = local_none p m tables memory here waiting s h (OfVariable x deep) start bytes offset area within i (length (b ∷ more) + 1) a (ap (slice_get (here ∷ waiting)) (sym start_is) ∙ sym (from 0)) (omega (arith, long))
      (λ y same. absurd (let e : deep ≡ length (b ∷ more) + 1 = ap depth_of same in omega (arith, e, level, long, at))) m.variables 0 (from_first m) in
      let test : (calling_place m s a.frame == 0) ≡ false = grind (arith, nat_tests, callers.0, callers.1) in
      let next_frame = callers.2 in let small = callers.3 in
      let frame_is : word (a.frame + frame_of m a.place) ≡ b.frame = omega (arith, next_frame, small) in
      let most = h.few in
      let deep_is : word (length (b ∷ more) + 1 + 4294967295) ≡ length more + 1 = omega (arith, most, long) in
      let rest = stack_found n b more (i + 1) j (λ k. from (suc k) ∙ ap (slice_get (here ∷ waiting)) (omega arith)) (omega (arith, long)) callers.4 (omega (arith, at)) (omega (arith, few)) in
      ap (λ r. target_or_else r (if calling_place m s a.frame == 0 then None else stack_target n m s (start + offset) (calling_place m s a.frame) (word (a.frame + frame_of m a.place)) (word (length (b ∷ more) + 1 + 4294967295)))) first
      ∙ ap (λ c. if c then None else stack_target n m s (start + offset) (calling_place m s a.frame) (word (a.frame + frame_of m a.place)) (word (length (b ∷ more) + 1 + 4294967295))) test
      ∙ ap (λ q. stack_target n m s (start + offset) q (word (a.frame + frame_of m a.place)) (word (length (b ∷ more) + 1 + 4294967295))) callers.0
      ∙ ap (λ f. stack_target n m s (start + offset) b.place f (word (length (b ∷ more) + 1 + 4294967295))) frame_is
      ∙ ap (λ d. stack_target n m s (start + offset) b.place b.frame d) deep_is ∙ rest

-- ---- All objects

module _ (p : ProgramTree) (m : Form) (tables : HasVariablesOf p m) (memory : Memory) (here : Standing) (waiting : List Standing) (s : MachineState) (h : HoldsMemory p m memory here waiting s) where
  static_pointed : (o : Owner) (start bytes offset number : ℕ) → (area : IsArea p m (here ∷ waiting) o start bytes) → offset ≤ bytes → number ≡ number_of p o → number < static_count p → IsStaticArea m number start bytes
      → pointed_at m s here.place (start + offset) ≡ Some (owner_target p o offset)
  static_pointed o start bytes offset number area within at below its =
      let lt = slice_get_within m.variables number its.variable its.is in
      let found = static_found p m tables memory here waiting s h o start bytes offset area within m.variables number 0 0 (from_first m) lt (omega (arith, at)) (subst (λ k. k < static_count p) at below) (omega arith) in
      ap (λ r. target_or_else r (stack_target greatest_depth m s (start + offset) here.place (reg s 2) (depth s))) found

  -- an address in what an owner owns, or directly behind it, is taken for one in it
  pub pointed : (o : Owner) (start bytes offset : ℕ) → IsArea p m (here ∷ waiting) o start bytes → offset ≤ bytes → pointed_at m s here.place (start + offset) ≡ Some (owner_target p o offset)
  pointed (Static n) start bytes offset area within = static_pointed (Static n) start bytes offset n area within refl (let few = area.0 in omega (arith, few)) area.1
  pointed (Literal n) start bytes offset area within = static_pointed (Literal n) start bytes offset (length p.statics + n) area within refl (let few = area.0 in omega (arith, few)) area.1
  pointed (OfVariable x deep) start bytes offset area within =
      let none = static_none p m tables memory here waiting s h (OfVariable x deep) start bytes offset area within m.variables 0 0 (from_first m) (omega arith) in
      let few = h.few in
      let enough : length waiting < greatest_depth = omega (arith, few, depth_bound) in
      let found = stack_found p m tables memory here waiting s h x deep start bytes offset area within greatest_depth here waiting 0 area.index (λ k. ap (slice_get (here ∷ waiting)) (omega arith)) (omega arith) h.callers (omega arith) enough in
      ap (λ r. target_or_else r (stack_target greatest_depth m s (start + offset) here.place (reg s 2) (depth s))) none
      ∙ ap (λ f. stack_target greatest_depth m s (start + offset) here.place f (depth s)) (sym h.frame)
      ∙ ap (λ d. stack_target greatest_depth m s (start + offset) here.place here.frame d) h.depth_is ∙ found

  -- its text is that of the pointer
  named : (owner : Owner) (o : Object) (offset : ℕ) → IsDeclared p owner o → target_text m (owner_target p owner offset) ≡ owner_text p owner offset
  named (Static n) o offset declared =
      let its = tables.statics n declared.0 declared.1 in
      ap (λ name. static_pointer name offset) (its.name_is ∙ sym (ap (λ r. option_map_or (λ (v : StaticTree). v.name) r []) declared.1))
  named (Literal n) o offset declared = refl
  named (OfVariable x deep) o offset declared =
      let its = tables.automatics x declared.0 declared.1 in
      ap (λ name. frame_pointer name deep offset) (its.name_is ∙ sym (ap (λ r. option_map_or (λ (v : AutomaticTree). v.name) r []) declared.1))

  some_address : (address : ℕ) → 1 ≤ address → (text other : List ℕ) → (if address == 0 then text else other) ≡ other
  some_address address some text other = ap (λ b. if b then text else other) (not_null address some)
    where
      not_null : (k : ℕ) → 1 ≤ k → (k == 0) ≡ false
      not_null k some = grind (arith, nat_tests, some)

  -- The text of an address in what an owner owns, or directly behind it, is that of a pointer into it.
  pub pointer_shown : (owner : Owner) (o : Object) (start bytes offset : ℕ) → IsDeclared p owner o → IsArea p m (here ∷ waiting) owner start bytes → offset ≤ bytes → pointer_text m s here.place (start + offset) ≡ owner_text p owner offset
  unfolding pointer_text
  pointer_shown owner o start bytes offset declared area within =
      let fits = h.inside owner start bytes area in
      some_address (start + offset) (omega (arith, fits)) null_text (option_map_or (target_text m) (pointed_at m s here.place (start + offset)) (unknown_pointer (start + offset)))
      ∙ ap (λ r. option_map_or (target_text m) r (unknown_pointer (start + offset))) (pointed owner start bytes offset area within) ∙ named owner o offset declared
