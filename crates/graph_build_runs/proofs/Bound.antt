-- What the objects of parameters are, and the arguments that they hold.
use Rattle.std.proofs.Common.{◌≡◌, ℕ, zero, suc, ◌+◌, ◌<◌, ◌≤◌, ◌⊎◌, inl, inr, List, [], ◌∷◌, ◌++◌, length, take, drop, Some, slice_get, refl, sym, ap, ◌∙◌, subst, arith}
use Rattle.std.specs.Prelude.{option_map}
use Rattle.std.proofs.lemmas.Option.{slice_get-map}
use Rattle.c_tree.specs.declared.object_type.ValueType.{ValueType}
use Rattle.c_tree.specs.Programs.{AutomaticTree, ProgramTree}
use Rattle.c_type_rules.specs.Types.{loaded_type}
use Rattle.c_type_laws.specs.Kinds.{element_type, types_of}
use Rattle.c_places.specs.Places.{numbers_from}
use Rattle.c_meaning_values.specs.declared.value.Value as source-value
use Rattle.c_meaning_values.specs.Types.{element_scalar}
use Rattle.c_meaning_values.specs.Memory.{Object as SourceObject, Memory as SourceMemory}
use Rattle.c_meaning.specs.Calls.{bind}
use Rattle.graph_core.specs.declared.value.Value.{Value}
use Rattle.graph_core.specs.Memory.{Memory}
use Rattle.graph_build_runs.specs.Typed.{IsOf}
use Rattle.graph_build_runs.specs.Correspondence.{SameValue, SameValues}
use Rattle.graph_build_runs.proofs.Arguments.{AreOf}
use Rattle.graph_build_runs.proofs.Activities.{Activity, here_in}
use Rattle.graph_build_runs.proofs.Living.{there_is}
use Rattle.graph_build_runs.proofs.Making.{got_last}
use Rattle.graph_build_runs.proofs.OwnObjects.{taken_is, dropped_is}
use Rattle.graph_build_runs.proofs.Binding.{parameter, bound_one, element_loaded}

-- The object of one of so many parameters, from one on, and its argument.
pub record IsParameter (k : Activity) (same_depth : length k.frames ≡ length k.setting.waiting) (first count : ℕ) (vs : List source-value.Value) (o : SourceObject) : Type 0 where
  pub index : ℕ
  pub variable : ℕ
  pub at : variable ≡ first + index
  pub within : index < count
  pub tree : AutomaticTree
  pub is : slice_get k.setting.program.automatics variable ≡ Some tree
  pub value : source-value.Value
  pub found : slice_get vs index ≡ Some value
  pub object : o ≡ parameter k same_depth variable tree value

-- What stands in memory where so many parameters are bound stood there before, or is one of them.
pub bound_found : (k : Activity) (same_depth : length k.frames ≡ length k.setting.waiting) (count first : ℕ) → ((v : ℕ) → first ≤ v → v < first + count → (a : AutomaticTree) × (slice_get k.setting.program.automatics v ≡ Some a))
    → (vs : List source-value.Value) (memory : SourceMemory) (n : ℕ) (o : SourceObject) → slice_get (bind (here_in k) (numbers_from first count) vs memory) n ≡ Some o → (slice_get memory n ≡ Some o) ⊎ IsParameter k same_depth first count vs o
bound_found k same_depth zero first there vs memory n o h = inl h
bound_found k same_depth (suc count) first there [] memory n o h = inl h
bound_found k same_depth (suc count) first there (u ∷ vs) memory n o h =
    let a = there first (omega arith) (omega arith) in
    let one = parameter k same_depth first a.0 u in
    let rest : slice_get (bind (here_in k) (numbers_from (first + 1) count) vs (memory ++ one ∷ [])) n ≡ Some o = ap (λ m. slice_get (bind (here_in k) (numbers_from (first + 1) count) vs m) n) (sym (bound_one k same_depth first a.0 u memory a.1)) ∙ h in
    elim (bound_found k same_depth count (first + 1) (λ v le lt. there v (omega (arith, le)) (omega (arith, lt))) vs (memory ++ one ∷ []) n o rest) [
      | inl old ↦ elim (got_last memory one o n old) [
        | inl here ↦ inl here
        | inr both ↦ inr (record { index = 0; variable = first; at = omega arith; within = omega arith; tree = a.0; is = a.1; value = u; found = refl; object = both.1 })
      ]
      | inr new ↦ let e = new.at in let lt = new.within in inr (record { index = suc new.index; variable = new.variable; at = omega (arith, e); within = omega (arith, lt); tree = new.tree; is = new.is; value = new.value; found = new.found; object = new.object })
    ]

-- an argument is there, of its type
typed_there : (memory : SourceMemory) (types : List ValueType) (vs : List source-value.Value) → AreOf memory types vs → (i : ℕ) (t : ValueType) → slice_get types i ≡ Some t → (v : source-value.Value) × (slice_get vs i ≡ Some v) × IsOf memory t v
typed_there memory [] [] are i t is = cc
typed_there memory [] (v ∷ vs) are i t is = absurd are
typed_there memory (s ∷ types) [] are i t is = absurd are
typed_there memory (s ∷ types) (v ∷ vs) are zero t is = let same : s ≡ t = cc in (v, refl, subst (λ z. IsOf memory z v) same are.0)
typed_there memory (s ∷ types) (v ∷ vs) are (suc i) t is = typed_there memory types vs are.1 i t is

same_there : (p : ProgramTree) (memory : SourceMemory) (others : Memory) (vs : List source-value.Value) (ws : List Value) → SameValues p memory others vs ws → (i : ℕ) (v : source-value.Value) → slice_get vs i ≡ Some v → (w : Value) × (slice_get ws i ≡ Some w) × SameValue p memory others v w
same_there p memory others [] ws same i v is = cc
same_there p memory others (u ∷ vs) [] same i v is = absurd same
same_there p memory others (u ∷ vs) (w ∷ ws) same zero v is = let e : u ≡ v = cc in (w, refl, subst (λ z. SameValue p memory others z w) e same.0)
same_there p memory others (u ∷ vs) (w ∷ ws) same (suc i) v is = same_there p memory others vs ws same.1 i v is

-- The argument of one of so many parameters, in both runs.
pub record Argument (p : ProgramTree) (memory : SourceMemory) (others : Memory) (vs : List source-value.Value) (ws : List Value) (first i : ℕ) : Type 0 where
  pub tree : AutomaticTree
  pub is : slice_get p.automatics (first + i) ≡ Some tree
  pub value : source-value.Value
  pub found : slice_get vs i ≡ Some value
  pub typed : IsOf memory (loaded_type (element_scalar tree.of)) value
  pub other : Value
  pub there : slice_get ws i ≡ Some other
  pub same : SameValue p memory others value other

pub argument : (p : ProgramTree) (memory : SourceMemory) (others : Memory) (vs : List source-value.Value) (ws : List Value) (first count : ℕ) → count ≤ length (drop first p.automatics) → AreOf memory (types_of (take count (drop first p.automatics))) vs → SameValues p memory others vs ws
    → (i : ℕ) → i < count → Argument p memory others vs ws first i
argument p memory others vs ws first count enough are same i lt =
    let all = drop first p.automatics in
    let a = there_is all i (omega (arith, lt, enough)) in
    let type_is : slice_get (types_of (take count all)) i ≡ Some (element_type a.0.of) = slice_get-map (λ (q : AutomaticTree). element_type q.of) (take count all) i ∙ ap (option_map (λ (q : AutomaticTree). element_type q.of)) (taken_is all count i lt ∙ a.1) in
    let v = typed_there memory (types_of (take count all)) vs are i (element_type a.0.of) type_is in
    let w = same_there p memory others vs ws same i v.0 v.1 in
    record { tree = a.0; is = dropped_is p.automatics first i ∙ a.1; value = v.0; found = v.1; typed = subst (λ t. IsOf memory t v.0) (element_loaded a.0.of) v.2; other = w.0; there = w.1; same = w.2 }
