-- Arguments are bound in a unit's run: what names and objects hold then.
use Rattle.std.proofs.Common.{◌≡◌, ◌≢◌, ℕ, zero, suc, ◌+◌, ◌*◌, ◌<◌, ◌≤◌, inl, inr, List, [], ◌∷◌, length, map, Option, Some, None, true, slice_get, slice_set, refl, sym, ap, ◌∙◌, subst, arith}
use Rattle.std.specs.Prelude.{option_map, option_and_then}
use Rattle.std.specs.Option.{option_map_or}
use Rattle.std.proofs.lemmas.List.{length-set}
use Rattle.c_tree.specs.declared.object_type.Scalar.{Scalar}
use Rattle.c_places.specs.Places.{numbers_from}
use Rattle.graph_core.specs.declared.value.Value.{Value}
use Rattle.graph_core.specs.declared.value.Value.TheVariants.{Pointer, Odd}
use Rattle.graph_core.specs.Graphs.{Binding, ToScalar, ToObject}
use Rattle.graph_core.specs.Memory.{Object, Memory, bytes_of, index_in, pointer_to_object, write, write_in, written_in, with_value}
use Rattle.graph_core.specs.Runs.{with_value_at, bind_names, bind_objects, set_first}
use Rattle.graph_core.specs.Values.{as_element}
use Rattle.graph_build_names.specs.Names.{Names, scalar_of, object_of}
use Rattle.graph_build_steps.specs.Rules.{element_of}
use Rattle.graph_build_steps.specs.Steps.{or_zero}
use Rattle.c_meaning_values.specs.Types.{scalar_size}
use Rattle.graph_build_runs.proofs.Leads.{put_here, put_elsewhere}
use Rattle.graph_build_runs.proofs.Later.{some_same, get_set, set_here, set_elsewhere, OthersLater, others_refl, others_trans, others_changed}
use Rattle.graph_build_runs.proofs.Noting.{other_number}
use Rattle.graph_build_runs.proofs.Elements.{reaches}

-- what an argument is bound to: the name or the object of its variable
abbrev pub bound_as : Names → Option ℕ → (variable : ℕ) → Binding
bound_as n (Some k) v = ToScalar k
bound_as n None v = ToObject (or_zero (object_of n v))

abbrev pub bound_to : Names → (variable : ℕ) → Binding
bound_to n v = bound_as n (scalar_of n v) v

-- what the arguments of so many variables are bound to, from one on
abbrev pub bindings : Names → (first count : ℕ) → List Binding
bindings n first count = map (bound_to n) (numbers_from first count)

-- A name that is no argument's stays.
names_past : (n : Names) (x first count : ℕ) (vs : List Value) (names : ℕ → Value) → ((v : ℕ) → first ≤ v → scalar_of n v ≢ Some x) → bind_names (bindings n first count) vs names x ≡ names x
names_past n x first zero vs names none = refl
names_past n x first (suc count) [] names none = refl
names_past n x first (suc count) (w ∷ vs) names none = by (λ more. names_past n x (first + 1) count vs more (λ v le. none v (omega (arith, le)))) (scalar_of n first) refl
  where
    by : ((more : ℕ → Value) → bind_names (bindings n (first + 1) count) vs more x ≡ more x) → (o : Option ℕ) → scalar_of n first ≡ o → bind_names (bound_as n o first ∷ bindings n (first + 1) count) (w ∷ vs) names x ≡ names x
    by rest (Some k) e = rest (with_value_at names k w) ∙ put_elsewhere names k x w (other_number x k (λ same. none first (omega arith) (e ∙ ap Some (sym same))))
    by rest None e = rest names

-- The name of an argument holds it.
pub names_at : (n : Names) (x v : ℕ) → scalar_of n v ≡ Some x → ((w : ℕ) → scalar_of n w ≡ Some x → w ≡ v) → (first count i : ℕ) → v ≡ first + i → i < count → (vs : List Value) (u : Value) → slice_get vs i ≡ Some u → (names : ℕ → Value) → bind_names (bindings n first count) vs names x ≡ u
names_at n x v is one first zero i at lt vs u found names = absurd (omega (arith, lt))
names_at n x v is one first (suc count) i at lt [] u found names = cc
names_at n x v is one first (suc count) zero at lt (w ∷ vs) u found names =
    let here : first ≡ v = omega (arith, at) in
    ap (λ o. bind_names (bound_as n o first ∷ bindings n (first + 1) count) (w ∷ vs) names x) (ap (scalar_of n) here ∙ is)
    ∙ names_past n x (first + 1) count vs (with_value_at names x w) (λ v2 le e. (let same = one v2 e in absurd (omega (arith, le, same, here)))) ∙ put_here names x w ∙ some_same found
names_at n x v is one first (suc count) (suc i) at lt (w ∷ vs) u found names = by (λ more. names_at n x v is one (first + 1) count i (omega (arith, at)) (omega (arith, lt)) vs u found more) (scalar_of n first)
  where
    by : ((more : ℕ → Value) → bind_names (bindings n (first + 1) count) vs more x ≡ u) → (o : Option ℕ) → bind_names (bound_as n o first ∷ bindings n (first + 1) count) (w ∷ vs) names x ≡ u
    by rest (Some k) = rest (with_value_at names k w)
    by rest None = rest names

-- The first element of an object takes a value.
first_steps : (memory : Memory) (m : ℕ) (q : Object) (v : Value) → slice_get memory m ≡ Some q → set_first m v memory ≡ option_map_or (λ z. z) (option_map (written_in memory m v q) (index_in q.element 0 q)) memory
first_steps memory m q v is =
    ap (λ r. option_map_or (λ (o : Object). option_map_or (λ z. z) (write memory o.element (pointer_to_object memory m) v) memory) r memory) is
    ∙ ap (λ r. option_map_or (λ z. z) (write memory q.element r v) memory) (ap (λ r. option_map_or (λ o. Pointer m (bytes_of o) 0) r Odd) is)
    ∙ ap (λ r. option_map_or (λ z. z) (option_and_then (write_in memory m q.element 0 v) r) memory) is

first_none : (memory : Memory) (m : ℕ) (v : Value) → slice_get memory m ≡ None → set_first m v memory ≡ memory
first_none memory m v is = ap (λ r. option_map_or (λ (o : Object). option_map_or (λ z. z) (write memory o.element (pointer_to_object memory m) v) memory) r memory) is

first_later : (memory : Memory) (m : ℕ) (v : Value) → OthersLater memory (set_first m v memory)
first_later memory m v = by (slice_get memory m) refl
  where
    at_index : (q : Object) → slice_get memory m ≡ Some q → (i : Option ℕ) → OthersLater memory (option_map_or (λ z. z) (option_map (written_in memory m v q) i) memory)
    at_index q is (Some i) = others_changed memory m q (with_value i v q) is refl refl refl (length-set q.values i (as_element q.element v))
    at_index q is None = others_refl memory

    by : (o : Option Object) → slice_get memory m ≡ o → OthersLater memory (set_first m v memory)
    by None e = subst (OthersLater memory) (sym (first_none memory m v e)) (others_refl memory)
    by (Some q) e = subst (OthersLater memory) (sym (first_steps memory m q v e)) (at_index q e (index_in q.element 0 q))

first_elsewhere : (memory : Memory) (m k : ℕ) (v : Value) → k ≢ m → slice_get (set_first m v memory) k ≡ slice_get memory k
first_elsewhere memory m k v ne = by (slice_get memory m) refl
  where
    at_index : (q : Object) → (i : Option ℕ) → slice_get (option_map_or (λ z. z) (option_map (written_in memory m v q) i) memory) k ≡ slice_get memory k
    at_index q (Some i) = set_elsewhere memory m k (with_value i v q) ne
    at_index q None = refl

    by : (o : Option Object) → slice_get memory m ≡ o → slice_get (set_first m v memory) k ≡ slice_get memory k
    by None e = ap (λ z. slice_get z k) (first_none memory m v e)
    by (Some q) e = ap (λ z. slice_get z k) (first_steps memory m q v e) ∙ at_index q (index_in q.element 0 q)

first_is : (memory : Memory) (m : ℕ) (q : Object) (sc : Scalar) (v : Value) → slice_get memory m ≡ Some q → q.live ≡ true → q.element ≡ element_of sc → length q.values ≡ 1 → as_element (element_of sc) v ≡ v → set_first m v memory ≡ slice_set memory m (record q { values = slice_set q.values 0 v })
first_is memory m q sc v is lives element single keeps =
    let zero_at : 0 ≡ 0 * scalar_size sc = omega arith in
    let less : 0 < length q.values = omega (arith, single) in
    first_steps memory m q v is
    ∙ ap (λ i. option_map_or (λ z. z) (option_map (written_in memory m v q) i) memory) (subst (λ e. index_in e 0 q ≡ Some 0) (sym element) (reaches sc q 0 0 lives element zero_at less))
    ∙ ap (λ z. slice_set memory m (record q { values = slice_set q.values 0 z })) (ap (λ e. as_element e v) element ∙ keeps)

-- what stands in memory then stood there before, its owner's
first_back : (memory : Memory) (k : ℕ) (v : Value) (m : ℕ) (q : Object) → slice_get (set_first k v memory) m ≡ Some q → (z : Object) × (slice_get memory m ≡ Some z) × (q.owner ≡ z.owner)
first_back memory k v m q h = by (slice_get memory k) refl
  where
    at_index : (o : Object) → slice_get memory k ≡ Some o → (i : Option ℕ) → slice_get (option_map_or (λ z. z) (option_map (written_in memory k v o) i) memory) m ≡ Some q → (z : Object) × (slice_get memory m ≡ Some z) × (q.owner ≡ z.owner)
    at_index o is (Some i) found = elim (get_set memory k m (with_value i v o) q found) [
      | inl both ↦ (o, ap (slice_get memory) both.0 ∙ is, ap (λ z. z.owner) both.1)
      | inr both ↦ (q, both.1, refl)
    ]
    at_index o is None found = (q, found, refl)

    by : (o : Option Object) → slice_get memory k ≡ o → (z : Object) × (slice_get memory m ≡ Some z) × (q.owner ≡ z.owner)
    by None e = (q, ap (λ z. slice_get z m) (sym (first_none memory k v e)) ∙ h, refl)
    by (Some o) e = at_index o e (index_in o.element 0 o) (ap (λ z. slice_get z m) (sym (first_steps memory k o v e)) ∙ h)

pub objects_back : (f : ℕ) (all : List Binding) (vs : List Value) (memory : Memory) (m : ℕ) (q : Object) → slice_get (bind_objects f all vs memory) m ≡ Some q → (z : Object) × (slice_get memory m ≡ Some z) × (q.owner ≡ z.owner)
objects_back f [] vs memory m q h = (q, h, refl)
objects_back f (b ∷ more) [] memory m q h = (q, h, refl)
objects_back f (ToScalar x ∷ more) (v ∷ vs) memory m q h = objects_back f more vs memory m q h
objects_back f (ToObject o ∷ more) (v ∷ vs) memory m q h =
    let z = objects_back f more vs (set_first (f + o) v memory) m q h in let y = first_back memory (f + o) v m z.0 z.1 in (y.0, y.1, z.2 ∙ y.2)

-- Objects stay what they are, and those before the activation's hold what they did.
pub objects_later : (f : ℕ) (all : List Binding) (vs : List Value) (memory : Memory) → OthersLater memory (bind_objects f all vs memory)
objects_later f [] vs memory = others_refl memory
objects_later f (b ∷ more) [] memory = others_refl memory
objects_later f (ToScalar x ∷ more) (v ∷ vs) memory = objects_later f more vs memory
objects_later f (ToObject o ∷ more) (v ∷ vs) memory =
    others_trans memory (set_first (f + o) v memory) (bind_objects f more vs (set_first (f + o) v memory)) (first_later memory (f + o) v) (objects_later f more vs (set_first (f + o) v memory))

pub objects_before : (f : ℕ) (all : List Binding) (vs : List Value) (memory : Memory) (m : ℕ) → m < f → slice_get (bind_objects f all vs memory) m ≡ slice_get memory m
objects_before f [] vs memory m lt = refl
objects_before f (b ∷ more) [] memory m lt = refl
objects_before f (ToScalar x ∷ more) (v ∷ vs) memory m lt = objects_before f more vs memory m lt
objects_before f (ToObject o ∷ more) (v ∷ vs) memory m lt =
    objects_before f more vs (set_first (f + o) v memory) m lt ∙ first_elsewhere memory (f + o) m v (λ e. omega (arith, lt, e))

-- The object of an argument.
pub record Filled (found : Option Object) (q : Object) (u : Value) : Type 0 where
  pub object : Object
  pub is : found ≡ Some object
  pub owner : object.owner ≡ q.owner
  pub element : object.element ≡ q.element
  pub live : object.live ≡ q.live
  pub values : object.values ≡ u ∷ []

one_there : (vs : List Value) (u : Value) → length vs ≡ 1 → slice_set vs 0 u ≡ u ∷ []
one_there [] u e = absurd (omega (arith, e))
one_there (x ∷ []) u e = refl
one_there (x ∷ y ∷ vs) u e = absurd (omega (arith, e))

-- Variables from one number on and below another that have no name have objects, each one of its own.
module _ (n : Names) (low high : ℕ) (homes : (v : ℕ) → low ≤ v → v < high → scalar_of n v ≡ None → (j : ℕ) × (object_of n v ≡ Some j)) (one : (v w j : ℕ) → object_of n v ≡ Some j → object_of n w ≡ Some j → v ≡ w) where
  -- an argument's object is another's only where they are one
  elsewhere : (f j v w : ℕ) → low ≤ w → w < high → v ≢ w → object_of n v ≡ Some j → scalar_of n w ≡ None → f + j ≢ f + or_zero (object_of n w)
  elsewhere f j v w le lt ne is none e =
      let h = homes w le lt none in
      let there : or_zero (object_of n w) ≡ h.0 = ap or_zero h.1 in
      let same : h.0 ≡ j = omega (arith, e, there) in
      ne (one v w j is (h.1 ∙ ap Some same))

  objects_past : (f v j : ℕ) → object_of n v ≡ Some j → (first count : ℕ) → low ≤ first → first + count ≤ high → v < first → (vs : List Value) (memory : Memory) → slice_get (bind_objects f (bindings n first count) vs memory) (f + j) ≡ slice_get memory (f + j)
  objects_past f v j is first zero le ge lt vs memory = refl
  objects_past f v j is first (suc count) le ge lt [] memory = refl
  objects_past f v j is first (suc count) le ge lt (w ∷ vs) memory = by (λ more. objects_past f v j is (first + 1) count (omega (arith, le)) (omega (arith, ge)) (omega (arith, lt)) vs more) (scalar_of n first) refl
    where
      by : ((more : Memory) → slice_get (bind_objects f (bindings n (first + 1) count) vs more) (f + j) ≡ slice_get more (f + j)) → (o : Option ℕ) → scalar_of n first ≡ o
          → slice_get (bind_objects f (bound_as n o first ∷ bindings n (first + 1) count) (w ∷ vs) memory) (f + j) ≡ slice_get memory (f + j)
      by rest (Some k) e = rest memory
      by rest None e =
          rest (set_first (f + or_zero (object_of n first)) w memory)
          ∙ first_elsewhere memory (f + or_zero (object_of n first)) (f + j) w (elsewhere f j v first le (omega (arith, ge)) (λ same. omega (arith, lt, same)) is e)

  -- The object of an argument holds it.
  pub objects_at : (f v j : ℕ) → object_of n v ≡ Some j → scalar_of n v ≡ None → (q : Object) (sc : Scalar) → q.live ≡ true → q.element ≡ element_of sc → length q.values ≡ 1 → (u : Value) → as_element (element_of sc) u ≡ u
      → (first count i : ℕ) → v ≡ first + i → i < count → low ≤ first → first + count ≤ high → (vs : List Value) → slice_get vs i ≡ Some u → (memory : Memory) → slice_get memory (f + j) ≡ Some q → Filled (slice_get (bind_objects f (bindings n first count) vs memory) (f + j)) q u
  objects_at f v j is none q sc lives element single u keeps first zero i at lt le ge vs found memory there = absurd (omega (arith, lt))
  objects_at f v j is none q sc lives element single u keeps first (suc count) i at lt le ge [] found memory there = cc
  objects_at f v j is none q sc lives element single u keeps first (suc count) zero at lt le ge (w ∷ vs) found memory there =
      let here : first ≡ v = omega (arith, at) in
      let same : w ≡ u = some_same found in
      let object : or_zero (object_of n first) ≡ j = ap or_zero (ap (object_of n) here ∙ is) in
      let now : Object = record q { values = slice_set q.values 0 u } in
      let set : set_first (f + or_zero (object_of n first)) w memory ≡ slice_set memory (f + j) now = ap (λ o. set_first (f + o) w memory) object ∙ ap (λ z. set_first (f + j) z memory) same ∙ first_is memory (f + j) q sc u there lives element single keeps in
      let none_first : scalar_of n first ≡ None = ap (scalar_of n) here ∙ none in record {
        object = now;
        is = ap (λ o. slice_get (bind_objects f (bound_as n o first ∷ bindings n (first + 1) count) (w ∷ vs) memory) (f + j)) none_first
            ∙ ap (λ z. slice_get (bind_objects f (bindings n (first + 1) count) vs z) (f + j)) set
            ∙ objects_past f v j is (first + 1) count (omega (arith, le)) (omega (arith, ge)) (omega (arith, here)) vs (slice_set memory (f + j) now) ∙ set_here memory (f + j) q now there;
        owner = refl;
        element = refl;
        live = refl;
        values = one_there q.values u single;
      }
  objects_at f v j is none q sc lives element single u keeps first (suc count) (suc i) at lt le ge (w ∷ vs) found memory there =
      by (λ more still. objects_at f v j is none q sc lives element single u keeps (first + 1) count i (omega (arith, at)) (omega (arith, lt)) (omega (arith, le)) (omega (arith, ge)) vs found more still) (scalar_of n first) refl
    where
      by : ((more : Memory) → slice_get more (f + j) ≡ Some q → Filled (slice_get (bind_objects f (bindings n (first + 1) count) vs more) (f + j)) q u) → (o : Option ℕ) → scalar_of n first ≡ o → Filled (slice_get (bind_objects f (bound_as n o first ∷ bindings n (first + 1) count) (w ∷ vs) memory) (f + j)) q u
      by rest (Some k) e = rest memory there
      by rest None e =
          rest (set_first (f + or_zero (object_of n first)) w memory)
          (first_elsewhere memory (f + or_zero (object_of n first)) (f + j) w (elsewhere f j v first le (omega (arith, ge)) (λ same. omega (arith, at, same)) is e) ∙ there)
