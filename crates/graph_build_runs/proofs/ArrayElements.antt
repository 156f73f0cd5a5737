-- Declarators of arrays with elements do what they mean: the array is zero, and then its elements are stored in order.
use Rattle.std.proofs.Common.{◌≡◌, ℕ, zero, suc, ◌+◌, ◌*◌, ◌<◌, ◌≤◌, ◌⊎◌, inl, inr, List, [], ◌∷◌, length, Option, Some, None, Bool, true, false, not, ◌||◌, slice_get, slice_set, refl, sym, ap, ◌∙◌, subst, arith, ℤ}
use Rattle.std.specs.Prelude.{◌==◌, if◌then◌else◌}
use Rattle.std.proofs.lemmas.Bool.Decides.{nat_tests}
use Rattle.debug_records.specs.declared.source.Spot.{Spot}
use Rattle.word_base.specs.Types.{holds}
use Rattle.c_tree.specs.declared.types.IntegerType.{IntegerType}
use Rattle.c_tree.specs.declared.types.IntegerType.TheVariants.{Char, SignedChar, UnsignedChar, Short, UnsignedShort, Int, UnsignedInt, Long, UnsignedLong}
use Rattle.c_tree.specs.declared.object_type.Scalar.{Scalar}
use Rattle.c_tree.specs.declared.object_type.ObjectType.TheVariants as of-object
use Rattle.c_tree.specs.declared.object_type.ValueType.{ValueType}
use Rattle.c_tree.specs.declared.object_type.ValueType.TheVariants.{Void, Integer, Pointer}
use Rattle.c_tree.specs.TypedExpressions.{RvalueTree, Constant, Null, Load, Decay, AddressOf, Convert, Discard, Signed, Not, Arithmetic, Compare, ComparePointers, Move, MoveFrom, Difference, And, Or, Conditional, Comma, Assign, Update, UpdatePointer, Step, StepPointer, Call}
use Rattle.c_tree.specs.Programs.{AutomaticTree}
use Rattle.c_type_rules.specs.Integers.{integer, wrapped, scalar_size as type_size}
use Rattle.c_type_rules.specs.Types.{loaded_type, pointed_to, same_value}
use Rattle.c_type_laws.specs.Kind.{Kind, Wrong, NullPointer, Of}
use Rattle.c_type_laws.specs.Kinds.{is_of, of_if, is_integer}
use Rattle.c_type_laws.specs.Expressions.{kind_of}
use Rattle.c_meaning_values.specs.declared.value.Value as source-value
use Rattle.c_meaning_values.specs.declared.value.Value.TheVariants as source
use Rattle.c_meaning_values.specs.Types.{element_scalar, value_count}
use Rattle.c_meaning_values.specs.Memory.{Memory as SourceMemory, set_value}
use Rattle.c_meaning_values.specs.Operations.{convert}
use Rattle.c_meaning_steps.specs.States.{State, Evaluated, Gives, Leaves, Ends, mapped, value_or_undefined, Outcome, on_value}
use Rattle.c_meaning.specs.Statements.{value_at, initialise_elements}
use Rattle.c_flow.specs.declared.edge.Ways.{Ways}
use Rattle.graph_core.specs.declared.value.Value.TheVariants.{Number}
use Rattle.graph_core.specs.Graphs as unit
use Rattle.graph_core.specs.Graphs.{Automatic, Store}
use Rattle.graph_core.specs.Runs.{Configuration, Event, Goes, step, value}
use Rattle.graph_core.specs.Values.{as_element}
use Rattle.graph_build_names.specs.Conversions.{unsigned_bits, is_narrow, is_within}
use Rattle.graph_build_layout.specs.declared.laid.Use.TheVariants.{Anywhere}
use Rattle.graph_build_layout.specs.Layout.{laid}
use Rattle.graph_build_names.specs.Names.{object_of, pick}
use Rattle.graph_build_steps.specs.Rules as rule
use Rattle.graph_build_steps.specs.Drafts.{Made, To, instruction_before}
use Rattle.graph_build_code.specs.Code.{code}
use Rattle.graph_build_statements.specs.Coding.{going}
use Rattle.graph_build_statements.specs.Reached.{bare}
use Rattle.graph_build_statements.specs.Declaring.{store_elements}
use Rattle.graph_build_runs.specs.Typed.{IsOf}
use Rattle.graph_build_runs.specs.Correspondence.{SameValue}
use Rattle.graph_build_runs.proofs.Leads.{names_in, size_in, depth_in, Local, World, Leads, goes, stays, then_leads}
use Rattle.graph_build_runs.proofs.Kept.{Since, Sound, Fits}
use Rattle.graph_build_runs.proofs.Standing.{Stands}
use Rattle.graph_build_runs.proofs.Growing.{grows}
use Rattle.graph_build_runs.proofs.Lays.{lays}
use Rattle.graph_build_runs.proofs.Typing.{HasKind}
use Rattle.graph_build_runs.proofs.Types.{integer_is, kind_is_of}
use Rattle.graph_build_runs.proofs.Noting.{known_value}
use Rattle.graph_build_runs.proofs.Elements.{element_keeps}
use Rattle.graph_build_runs.proofs.Converting.{truncated_word, kept_word}
use Rattle.graph_build_runs.proofs.Wrapping.{wrapped_holds}
use Rattle.graph_build_runs.proofs.Arithmetic.{pick_between}
use Rattle.graph_build_runs.proofs.Activities.{Activity, coding_in, here_in, place_at, before_in}
use Rattle.graph_build_runs.proofs.Living.{grown_since}
use Rattle.graph_build_runs.proofs.Outcomes.{Runs, runs_since, grown_none}
use Rattle.graph_build_runs.proofs.Stops.{Lawful, Ready}
use Rattle.graph_build_runs.proofs.AtPlaces.{Works, going_comes, value_runs}
use Rattle.graph_build_runs.proofs.Declarators.{type_sizes}
use Rattle.graph_build_runs.proofs.Arrays.{ready_since, IsArray, array_later, Taken, element_stored, set_is, since_set, sound_element}

-- An element is stored without its conversion.
pub bare_cases : (e : RvalueTree) → ((t : IntegerType) × (b : RvalueTree) × (e ≡ Convert t b)) ⊎ (bare e ≡ e)
bare_cases (Constant z t) = inr refl
bare_cases Null = inr refl
bare_cases (Load s l) = inr refl
bare_cases (Decay l) = inr refl
bare_cases (AddressOf l) = inr refl
bare_cases (Convert t e) = inl (t, e, refl)
bare_cases (Discard e) = inr refl
bare_cases (Signed o t e) = inr refl
bare_cases (Not e) = inr refl
bare_cases (Arithmetic o t a b) = inr refl
bare_cases (Compare o t a b) = inr refl
bare_cases (ComparePointers o a b) = inr refl
bare_cases (Move d of a b) = inr refl
bare_cases (MoveFrom a of b) = inr refl
bare_cases (Difference of a b) = inr refl
bare_cases (And a b) = inr refl
bare_cases (Or a b) = inr refl
bare_cases (Conditional c a b) = inr refl
bare_cases (Comma a b) = inr refl
bare_cases (Assign s l e) = inr refl
bare_cases (Update o t u l e) = inr refl
bare_cases (UpdatePointer d of l e) = inr refl
bare_cases (Step d g t u l) = inr refl
bare_cases (StepPointer d g of l) = inr refl
bare_cases (Call c all) = inr refl

-- what follows a conversion
pub mapped_value : (r : Evaluated) (f : source-value.Value → Option source-value.Value) (next : source-value.Value → State → Outcome) → on_value (mapped r f) next ≡ on_value r (λ v s. on_value (value_or_undefined (f v) s) next)
mapped_value (Gives v s) f next = refl
mapped_value (Leaves s) f next = refl
mapped_value (Ends e s) f next = refl

-- a number that an element keeps is converted
wide_element : (t : IntegerType) (z : ℤ) → is_narrow t ≡ false → as_element (rule.element_of (record { base = t; stars = 0 })) (Number (unsigned_bits z)) ≡ Number (unsigned_bits z)
wide_element Char z w = cc
wide_element SignedChar z w = cc
wide_element UnsignedChar z w = cc
wide_element Short z w = cc
wide_element UnsignedShort z w = cc
wide_element Int z w = refl
wide_element UnsignedInt z w = refl
wide_element Long z w = refl
wide_element UnsignedLong z w = refl

narrow_element : (t : IntegerType) (z : ℤ) → is_narrow t ≡ true → as_element (rule.element_of (record { base = t; stars = 0 })) (Number (unsigned_bits z)) ≡ Number (unsigned_bits (wrapped t z))
narrow_element Char z w = ap Number (truncated_word Char z refl)
narrow_element SignedChar z w = ap Number (truncated_word SignedChar z refl)
narrow_element UnsignedChar z w = ap Number (truncated_word UnsignedChar z refl)
narrow_element Short z w = ap Number (truncated_word Short z refl)
narrow_element UnsignedShort z w = ap Number (truncated_word UnsignedShort z refl)
narrow_element Int z w = cc
narrow_element UnsignedInt z w = cc
narrow_element Long z w = cc
narrow_element UnsignedLong z w = cc

-- a number of any integer type has the word of its conversion to a type of 32 bits
wide_word : (u t : IntegerType) (z : ℤ) → is_narrow t ≡ false → holds (integer u) z ≡ true → unsigned_bits (wrapped t z) ≡ unsigned_bits z
wide_word u t z w h = kept_word u t z (ap (λ b. not b || is_within u t) w) h

converted_element : (u t : IntegerType) (z : ℤ) → holds (integer u) z ≡ true → as_element (rule.element_of (record { base = t; stars = 0 })) (Number (unsigned_bits z)) ≡ Number (unsigned_bits (wrapped t z))
converted_element u t z h = by (is_narrow t) refl
  where
    by : (b : Bool) → is_narrow t ≡ b → as_element (rule.element_of (record { base = t; stars = 0 })) (Number (unsigned_bits z)) ≡ Number (unsigned_bits (wrapped t z))
    by true e = narrow_element t z e
    by false e = wide_element t z e ∙ ap Number (sym (wide_word u t z e h))

-- the scalar of an integer type
abbrev pub integer_scalar : IntegerType → Scalar
integer_scalar t = record { base = t; stars = 0 }

-- the element of an array that takes a converted value
pub element_is : (t base : IntegerType) (stars : ℕ) → same_value (Integer t) (loaded_type (record { base = base; stars = stars })) ≡ true → integer_scalar t ≡ record { base = base; stars = stars }
element_is t base zero h = ap (λ b. record { base = b; stars = 0 }) (integer_is t base h)
element_is t base (suc stars) h = no_number (subst (λ b. same_value (Integer t) (if b then Integer base else Pointer (of-object.Scalar (pointed_to (record { base = base; stars = suc stars })))) ≡ true) (some_stars stars) h)
  where
    some_stars : (n : ℕ) → (suc n == 0) ≡ false
    some_stars n = grind (arith, nat_tests)

    no_number : {A : Type 0} → false ≡ true → A
    no_number h = cc

-- a value of an integer kind is a number
pub integer_value : (memory : SourceMemory) (kind : Kind) (v : source-value.Value) → is_integer kind ≡ true → HasKind memory kind v → (u : IntegerType) × (z : ℤ) × (v ≡ source.Number z) × (holds (integer u) z ≡ true)
integer_value memory Wrong v h is = cc
integer_value memory NullPointer v h is = cc
integer_value memory (Of Void) v h is = cc
integer_value memory (Of (Pointer of)) v h is = cc
integer_value memory (Of (Integer u)) (source.Number z) h is = (u, z, refl, is)
integer_value memory (Of (Integer u)) source.Null h is = absurd is
integer_value memory (Of (Integer u)) (source.Pointer n offset) h is = absurd is

pub converted_fits : (b : Bool) (t r : ValueType) → is_of (of_if b t) r ≡ true → (b ≡ true) × (same_value t r ≡ true)
converted_fits true t r h = (refl, h)
converted_fits false t r h = cc

-- Elements whose code does what they mean, of the type of an array's elements.
abbrev pub ElementsWork : Activity → (place : ℕ) → Scalar → List RvalueTree → Type 0
ElementsWork k place sc [] = Unit {0}
ElementsWork k place sc (e ∷ more) = Works k place (bare e) × (is_of (kind_of k.setting.program k.setting.tree e) (loaded_type sc) ≡ true) × ElementsWork k place sc more

module _ (k : Activity) (law : Lawful k) (v j : ℕ) (a : AutomaticTree) (is : slice_get k.setting.program.automatics v ≡ Some a) (named : object_of (names_in k.setting) v ≡ Some j) (inside : a.in_memory ≡ true) (low : ℕ) (w : Ways) (spot : Spot) where
  abbrev here : ℕ
  here = place_at k spot.at

  abbrev kind : RvalueTree → Kind
  kind e = kind_of k.setting.program k.setting.tree e

  abbrev element : Scalar
  element = element_scalar a.of

  -- what the code of an expression leaves to what follows
  abbrev operand : RvalueTree → ℕ → unit.Operand
  operand e t = (laid (names_in k.setting) e Anywhere t).value

  abbrev made : RvalueTree → ℕ → Made → Made
  made e t m = code (names_in k.setting) here k.setting.top e t (To None m)

  -- The code of one expression gives the value of another as elements take it.
  abbrev Stored : (q b : RvalueTree) → Type 0
  Stored q b = Works k here b → is_of (kind q) (loaded_type element) ≡ true → (c : Configuration) (es : List Event) (l : Local) (u : World) (s : State) → Sound k.setting.program s.memory s → Fits k.setting None s l u → Ready k here s.memory → (t : ℕ) → size_in k.setting ≤ t → (m : Made)
      → Stands k.setting.graph k.setting.top (made b t m).inner → Leads k.setting.unit c es (before_in k here (made b t m).ops (made b t m).end l u) u.seen → (next : source-value.Value → State → Outcome)
      → ((val : source-value.Value) (s2 : State) (l2 : Local) (u2 : World) → Leads k.setting.unit c es (before_in k here m.ops m.end l2 u2) u2.seen → Sound k.setting.program s2.memory s2 → Fits k.setting None s2 l2 u2 → Since s.memory s2.memory
      → Taken k s2.memory u2.memory element val (value k.setting.unit.statics l2.names (operand b t)) → IsOf s2.memory (loaded_type element) val → Runs k c es low (v + 1) (v ∷ []) s2.memory w (next val s2))
      → Runs k c es low (v + 1) (v ∷ []) s.memory w (on_value (value_at k.calls (here_in k) spot q s) next)

  plain_stored : (e : RvalueTree) → Stored e e
  plain_stored e works fits_type c es l u s sound fits ready t size m st leads next go =
      value_runs k spot.at e works c es l u s sound fits ready t size low (v + 1) (v ∷ []) w None m next st tt leads
      (λ val s2 l2 u2 leads2 sound2 fits2 since same kind_is.
      (let given_value = value k.setting.unit.statics l2.names (operand e t) in
      let typed = kind_is_of s2.memory (kind e) (loaded_type element) val fits_type kind_is in
      go val s2 l2 u2 leads2 sound2 fits2 since
      (record { kept = given_value; keeps = element_keeps k.setting.program s2.memory u2.memory element val given_value typed same; same = same; known = known_value k.setting.program s2.memory u2.memory val given_value same }) typed))

  converted_stored : (ty : IntegerType) (b : RvalueTree) → Stored (Convert ty b) b
  converted_stored ty b works fits_type c es l u s sound fits ready t size m st leads next go =
      let both = converted_fits (is_integer (kind b)) (Integer ty) (loaded_type element) fits_type in
      let scalar = element_is ty element.base element.stars both.1 in
      let convert_then : source-value.Value → State → Outcome = λ val s2. on_value (value_or_undefined (convert ty val) s2) next in
      subst (λ o. Runs k c es low (v + 1) (v ∷ []) s.memory w o) (sym (mapped_value (value_at k.calls (here_in k) spot b s) (convert ty) next))
      (value_runs k spot.at b works c es l u s sound fits ready t size low (v + 1) (v ∷ []) w None m convert_then st tt leads
      (λ val s2 l2 u2 leads2 sound2 fits2 since same kind_is.
      (let given_value = value k.setting.unit.statics l2.names (operand b t) in
      let n = integer_value s2.memory (kind b) val both.0 kind_is in
      let given_is : given_value ≡ Number (unsigned_bits n.1) = subst (λ q. SameValue k.setting.program s2.memory u2.memory q given_value) n.2 same in
      let keeps : as_element (rule.element_of element) given_value ≡ Number (unsigned_bits (wrapped ty n.1)) =
      ap (as_element (rule.element_of element)) given_is ∙ ap (λ z. as_element (rule.element_of z) (Number (unsigned_bits n.1))) (sym scalar) ∙ converted_element n.0 ty n.1 n.3 in
      let typed = subst (λ z. IsOf s2.memory (loaded_type z) (source.Number (wrapped ty n.1))) scalar (wrapped_holds ty n.1) in
      subst (λ q. Runs k c es low (v + 1) (v ∷ []) s2.memory w (on_value (value_or_undefined (convert ty q) s2) next)) (sym n.2)
      (go (source.Number (wrapped ty n.1)) s2 l2 u2 leads2 sound2 fits2 since
      (record { kept = Number (unsigned_bits (wrapped ty n.1)); keeps = keeps; same = refl; known = known_value k.setting.program s2.memory u2.memory val given_value same }) typed))))

  -- The code of an element without its conversion.
  stored_so : (e : RvalueTree) → Stored e (bare e)
  stored_so e = elim (bare_cases e) [
    | inl found ↦ subst (λ q. Stored q (bare q)) (sym found.2) (converted_stored found.0 found.1)
    | inr same ↦ subst (λ b. Stored e b) (sym same) (plain_stored e)
  ]

  -- The elements of an array from an index on.
  module _ (inner : List unit.Block) where
    abbrev stores : (index : ℕ) → List RvalueTree → (t : ℕ) → Made
    stores index all t = store_elements (coding_in k) spot.at element j index all t (going (coding_in k) w.next inner)

    pub elements_go : (all : List RvalueTree) (index t : ℕ) → size_in k.setting ≤ t → ElementsWork k here element all → index + length all ≤ value_count a.of → Stands k.setting.graph k.setting.top (stores index all t).inner → (c : Configuration) (es : List Event) (l : Local) (u : World) (s : State)
        → Leads k.setting.unit c es (before_in k here (stores index all t).ops (stores index all t).end l u) u.seen → Sound k.setting.program s.memory s → Fits k.setting None s l u → Ready k here s.memory → (n : ℕ) → IsArray k v a s.memory n
        → Runs k c es low (v + 1) (v ∷ []) s.memory w (initialise_elements k.calls (here_in k) spot n index all s)
    elements_go [] index t size work room st c es l u s leads sound fits ready n arr = record {
      place = here;
      local = l;
      world = u;
      comes = going_comes k c es w.next inner here l u leads;
      sound = sound;
      fits = fits;
      grown = grown_none k low (v + 1) s.memory;
      brings = (record { number = n; object = arr.object; is = arr.is; owner = arr.owner; lives = arr.lives }, tt);
    }
    elements_go (e ∷ more) index t size work room st c es l u s leads sound fits ready n arr =
        let next = pick (names_in k.setting) t (laid (names_in k.setting) (bare e) Anywhere t).top in
        let rest = stores (index + 1) more next in
        let m = instruction_before (Store (rule.element_of element) (Automatic j (index * type_size element)) (operand (bare e) t)) rest in
        let top = (lays (names_in k.setting) (size_in k.setting) law.low (bare e) Anywhere t size).top in
        let later : size_in k.setting ≤ next = pick_between (names_in k.setting) t (laid (names_in k.setting) (bare e) Anywhere t).top (size_in k.setting) size (omega (arith, size, top)) in
        let inner_st = grows (names_in k.setting) here k.setting.top k.setting.graph (bare e) t (To None m) st in
        stored_so e work.0 work.1 c es l u s sound fits ready t size m st leads (λ val z. initialise_elements k.calls (here_in k) spot n (index + 1) more (record z { memory = set_value z.memory n index val }))
        (λ val s2 l2 u2 leads2 sound2 fits2 since taken typed.
        (let arr2 = array_later k v a s.memory s2.memory n since.later arr in
        let less : index < value_count a.of = omega (arith, room) in
        let stored = element_stored k law v j a is named inside s2 l2 u2 n index arr2 val (operand (bare e) t) less sound2 fits2 taken in
        let memory = slice_set s2.memory n (record arr2.object { values = slice_set arr2.object.values index val }) in
        let s3 : State = record s2 { memory = memory } in
        let u3 : World = record u2 { memory = stored.memory } in
        let since3 = since_set k law v j a is named inside s2.memory n index arr2 val in
        let steps = subst (λ z. step k.setting.unit (before_in k here (Store (rule.element_of element) (Automatic j (index * z)) (operand (bare e) t) ∷ rest.ops) rest.end l2 u2) ≡ Goes (before_in k here rest.ops rest.end l2 u3)) (sym (type_sizes element.base element.stars)) (stored.steps here rest.ops rest.end) in
        subst (λ z. Runs k c es low (v + 1) (v ∷ []) s2.memory w (initialise_elements k.calls (here_in k) spot n (index + 1) more (record s2 { memory = z }))) (sym (set_is k law v j a is named inside s2.memory n index arr2 val))
        (runs_since k c es low (v + 1) low (v + 1) (v ∷ []) s2.memory memory w (initialise_elements k.calls (here_in k) spot n (index + 1) more s3) (omega arith) (omega arith) (grown_since (depth_in k.setting) low (v + 1) s2.memory memory since3)
        (elements_go more (index + 1) next later work.2 (omega (arith, room)) inner_st c es l2 u3 s3 (then_leads leads2 (goes steps stays)) (sound_element k law v j a is named inside s2 n index arr2 val sound2 typed) stored.fits
        (ready_since k here s2.memory memory since3 (ready_since k here s.memory s2.memory since ready)) n (array_later k v a s2.memory memory n since3.later arr2)))))
