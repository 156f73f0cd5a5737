-- Parameters are bound to objects of their own: what a program's run keeps of it.
use Rattle.std.proofs.Common.{◌≡◌, ℕ, zero, suc, ◌+◌, ◌≤◌, List, [], ◌∷◌, ◌++◌, length, map, take, replicate, Some, slice_get, slice_set, refl, sym, ap, ◌∙◌, subst, arith}
use Rattle.std.specs.List.{AllByRecursion}
use Rattle.std.specs.Option.{option_map_or}
use Rattle.std.proofs.lemmas.List.{length-set, length-replicate}
use Rattle.word_base.specs.Owners.{Variable}
use Rattle.c_tree.specs.declared.object_type.ObjectType.{ObjectType}
use Rattle.c_tree.specs.declared.object_type.ObjectType.TheVariants as of-object
use Rattle.c_tree.specs.declared.object_type.ValueType.{ValueType}
use Rattle.c_tree.specs.Programs.{AutomaticTree}
use Rattle.c_type_rules.specs.Types.{loaded_type}
use Rattle.c_type_laws.specs.Kinds.{element_type, types_of}
use Rattle.c_places.specs.Places.{numbers_from}
use Rattle.c_meaning_values.specs.declared.value.Value as source-value
use Rattle.c_meaning_values.specs.declared.value.Phase.TheVariants.{Live}
use Rattle.c_meaning_values.specs.Types.{element_scalar, value_count, zero_of}
use Rattle.c_meaning_values.specs.Memory.{Object as SourceObject, Memory as SourceMemory, new_object, with_value}
use Rattle.c_meaning_steps.specs.States.{State}
use Rattle.c_meaning.specs.Calls.{bind_one, bind}
use Rattle.graph_build_runs.specs.Typed.{IsOf}
use Rattle.graph_build_runs.proofs.Leads.{depth_in}
use Rattle.graph_build_runs.proofs.Later.{not_initialising, Later}
use Rattle.graph_build_runs.proofs.Kept.{Sound}
use Rattle.graph_build_runs.proofs.Typing.{of_later}
use Rattle.graph_build_runs.proofs.Arguments.{AreOf}
use Rattle.graph_build_runs.proofs.Activities.{Activity, here_in}
use Rattle.graph_build_runs.proofs.Living.{AllLive, lives_later, LivesAt, Under, under_grown, Grown, grown_wider, grown_trans}
use Rattle.graph_build_runs.proofs.Outcomes.{grown_none}
use Rattle.graph_build_runs.proofs.Making.{later_more, last_is, zero_typed, all_alike, sound_more, grown_more}

-- values stay of their type where one becomes another
all_first : (P : source-value.Value → Type 0) (vs : List source-value.Value) (v : source-value.Value) → AllByRecursion P vs → P v → AllByRecursion P (slice_set vs 0 v)
all_first P [] v all h = tt
all_first P (x ∷ vs) v all h = (h, all.1)

types_later : (memory after : SourceMemory) → Later memory after → (types : List ValueType) (vs : List source-value.Value) → AreOf memory types vs → AreOf after types vs
types_later memory after later [] [] are = tt
types_later memory after later [] (v ∷ vs) are = absurd are
types_later memory after later (t ∷ types) [] are = absurd are
types_later memory after later (t ∷ types) (v ∷ vs) are = (of_later memory after later t v are.0, types_later memory after later types vs are.1)

pub element_loaded : (of : ObjectType) → element_type of ≡ loaded_type (element_scalar of)
element_loaded (of-object.Scalar s) = refl
element_loaded (of-object.Array s count) = refl

-- What is kept where so many parameters are bound, from one on.
pub record BoundFrom (k : Activity) (first count : ℕ) (before : SourceMemory) (s : State) : Type 0 where
  pub sound : Sound k.setting.program s.memory s
  pub grown : Grown (depth_in k.setting) first (first + count) before s.memory
  pub live : AllLive s.memory (depth_in k.setting) (numbers_from first count)

module _ (k : Activity) (same_depth : length k.frames ≡ length k.setting.waiting) where
  -- a parameter's object
  abbrev pub parameter : (v : ℕ) → AutomaticTree → source-value.Value → SourceObject
  parameter v a u = with_value (new_object (Variable v (depth_in k.setting)) a.of Live) 0 u

  pub bound_one : (v : ℕ) (a : AutomaticTree) (u : source-value.Value) (memory : SourceMemory) → slice_get k.setting.program.automatics v ≡ Some a → bind_one (here_in k) v u memory ≡ memory ++ parameter v a u ∷ []
  bound_one v a u memory is =
      ap (λ r. memory ++ map (λ o. with_value o 0 u) (option_map_or (λ (q : AutomaticTree). new_object (Variable v (length k.frames + 1)) q.of Live ∷ []) r [])) is
      ∙ ap (λ n. memory ++ with_value (new_object (Variable v (n + 1)) a.of Live) 0 u ∷ []) same_depth

  pub binds_from : (count first : ℕ) (all : List AutomaticTree) → ((i : ℕ) → slice_get k.setting.program.automatics (first + i) ≡ slice_get all i) → count ≤ length all → (vs : List source-value.Value) (s : State) → Sound k.setting.program s.memory s → Under s.memory (depth_in k.setting) first
      → AreOf s.memory (types_of (take count all)) vs → BoundFrom k first count s.memory (record s { memory = bind (here_in k) (numbers_from first count) vs s.memory })
  binds_from zero first all there le vs s sound under are = record { sound = sound; grown = grown_none k first (first + 0) s.memory; live = tt }
  binds_from (suc count) first [] there le vs s sound under are = absurd (omega (arith, le))
  binds_from (suc count) first (a ∷ all) there le [] s sound under are = absurd are
  binds_from (suc count) first (a ∷ all) there le (u ∷ vs) s sound under are =
      let d = depth_in k.setting in
      let e : first + 0 ≡ first = omega arith in
      let is : slice_get k.setting.program.automatics first ≡ Some a = ap (slice_get k.setting.program.automatics) (sym e) ∙ there 0 in
      let o = parameter first a u in
      let memory = s.memory ++ o ∷ [] in
      let s1 : State = record s { memory = memory } in
      let self : first ≤ first = omega arith in
      let more = later_more s.memory o in
      let typed = subst (λ t. IsOf memory t u) (element_loaded a.of) (of_later s.memory memory more (element_type a.of) u are.0) in
      let zeros = all_alike (IsOf memory (loaded_type (element_scalar a.of))) (value_count a.of) (zero_of (element_scalar a.of)) (zero_typed memory (element_scalar a.of).base (element_scalar a.of).stars) in
      let sound1 = sound_more k first a is o refl refl (length-set (replicate (value_count a.of) (zero_of (element_scalar a.of))) 0 u ∙ length-replicate (value_count a.of) (zero_of (element_scalar a.of))) (λ young. not_initialising young) s first self under sound
      (all_first (IsOf memory (loaded_type (element_scalar a.of))) (replicate (value_count a.of) (zero_of (element_scalar a.of))) u zeros typed) in
      let grown1 = grown_more d s.memory o first first self refl in
      let next : first ≤ first + 1 = omega arith in
      let r = binds_from count (first + 1) all (λ i. (let q : first + 1 + i ≡ first + suc i = omega arith in ap (slice_get k.setting.program.automatics) q ∙ there (suc i))) (omega (arith, le)) vs s1 sound1 (under_grown d first (first + 1) s.memory memory next under grown1)
      (types_later s.memory memory more (types_of (take count all)) vs are.1) in
      let lives : LivesAt memory first d = record { number = length s.memory; object = o; is = last_is s.memory o; owner = refl; lives = refl } in
      let after = bind (here_in k) (numbers_from (first + 1) count) vs memory in
      let total = grown_trans d first (first + suc count) s.memory memory after (grown_wider d first first (first + suc count) (first + 1) s.memory memory self (omega arith) grown1)
      (grown_wider d first (first + 1) (first + suc count) (first + 1 + count) memory after next (omega arith) r.grown) in
      subst (λ m. BoundFrom k first (suc count) s.memory (record s { memory = bind (here_in k) (numbers_from (first + 1) count) vs m })) (sym (bound_one first a u s.memory is))
      (record { sound = r.sound; grown = total; live = (lives_later memory after r.grown.later first d lives, r.live) })
