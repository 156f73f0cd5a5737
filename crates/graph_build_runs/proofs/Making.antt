-- A declarator makes a new object: what is kept with it.
use Rattle.std.proofs.Common.{◌≡◌, ◌≢◌, ℕ, zero, suc, ◌+◌, ◌≤◌, ◌⊎◌, inl, inr, List, [], ◌∷◌, ◌++◌, length, replicate, Some, None, true, false, slice_get, refl, sym, ap, ◌∙◌, subst, arith, pos}
use Rattle.std.specs.Prelude.{◌==◌, if◌then◌else◌}
use Rattle.std.specs.List.{AllByRecursion}
use Rattle.std.proofs.lemmas.Bool.Decides.{nat_tests}
use Rattle.std.specs.Option.{option_map_or}
use Rattle.std.proofs.lemmas.Option.{slice_get_within}
use Rattle.std.proofs.lemmas.List.{length-replicate}
use Rattle.word_base.specs.Owners.{Variable}
use Rattle.word_base.specs.Types.{holds}
use Rattle.c_tree.specs.declared.types.IntegerType.{IntegerType}
use Rattle.c_tree.specs.declared.types.IntegerType.TheVariants.{Char, SignedChar, UnsignedChar, Short, UnsignedShort, Int, UnsignedInt, Long, UnsignedLong}
use Rattle.c_tree.specs.declared.object_type.ObjectType.TheVariants as of-object
use Rattle.c_tree.specs.declared.object_type.ValueType.{ValueType}
use Rattle.c_tree.specs.declared.object_type.ValueType.TheVariants.{Integer, Pointer}
use Rattle.c_tree.specs.Programs.{AutomaticTree, ProgramTree}
use Rattle.c_type_rules.specs.Integers.{integer}
use Rattle.c_type_rules.specs.Types.{loaded_type, pointed_to}
use Rattle.c_meaning_values.specs.declared.value.Value as source-value
use Rattle.c_meaning_values.specs.declared.value.Value.TheVariants.{Null}
use Rattle.c_meaning_values.specs.declared.value.Phase.{Phase}
use Rattle.c_meaning_values.specs.declared.value.Phase.TheVariants.{Initialising, Live, Ended}
use Rattle.c_meaning_values.specs.Types.{element_scalar, value_count, zero_of, zero_by_stars}
use Rattle.c_meaning_values.specs.Memory.{Object as SourceObject, Memory as SourceMemory, new_object}
use Rattle.c_meaning_steps.specs.States.{State}
use Rattle.c_meaning.specs.Lifetimes.{made}
use Rattle.graph_build_runs.specs.Typed.{IsOf, OwnersDiffer}
use Rattle.graph_build_runs.specs.Correspondence.{IsInMemory}
use Rattle.graph_build_runs.specs.Stops.{IsDeclared, AreDeclared}
use Rattle.graph_build_runs.proofs.Leads.{depth_in, Local, World}
use Rattle.graph_build_runs.proofs.Later.{some_same, onward, Later, later_refl, others_refl}
use Rattle.graph_build_runs.proofs.Kept.{Sound, Placed, Fits}
use Rattle.graph_build_runs.proofs.Noting.{scalar_later, outer_later, placed_later}
use Rattle.graph_build_runs.proofs.Typing.{of_later}
use Rattle.graph_build_runs.proofs.Activities.{Activity, here_in}
use Rattle.graph_build_runs.proofs.Living.{statics_later, lives_later, frames_later, Under, Grown}
use Rattle.graph_build_runs.proofs.Stops.{Ready}
pub use Rattle.base_laws.proofs.Lists.{last_is}

-- a list with one more
pub got_last : {A : Type 0} (xs : List A) (x z : A) (i : ℕ) → slice_get (xs ++ x ∷ []) i ≡ Some z → (slice_get xs i ≡ Some z) ⊎ ((i ≡ length xs) × (z ≡ x))
got_last [] x z zero h = inr (refl, sym (some_same h))
got_last [] x z (suc i) h = cc
got_last (y ∷ xs) x z zero h = inl h
got_last (y ∷ xs) x z (suc i) h = elim (got_last xs x z i h) [
  | inl found ↦ inl found
  | inr both ↦ inr (ap (λ n. suc n) both.0, both.1)
]

pub front_stays : {A : Type 0} (xs ys : List A) (z : A) (i : ℕ) → slice_get xs i ≡ Some z → slice_get (xs ++ ys) i ≡ Some z
front_stays [] ys z i h = cc
front_stays (x ∷ xs) ys z zero h = h
front_stays (x ∷ xs) ys z (suc i) h = front_stays xs ys z i h

pub later_more : (memory : SourceMemory) (o : SourceObject) → Later memory (memory ++ o ∷ [])
later_more memory o n z is = record { object = z; is = front_stays memory (o ∷ []) z n is; owner = refl; element = refl; phase = onward z.phase z.phase refl; count = refl }

-- zero is of each type
zero_holds : (t : IntegerType) → holds (integer t) (pos 0) ≡ true
zero_holds Char = refl
zero_holds SignedChar = refl
zero_holds UnsignedChar = refl
zero_holds Short = refl
zero_holds UnsignedShort = refl
zero_holds Int = refl
zero_holds UnsignedInt = refl
zero_holds Long = refl
zero_holds UnsignedLong = refl

pub zero_typed : (memory : SourceMemory) (base : IntegerType) (stars : ℕ) → IsOf memory (loaded_type (record { base = base; stars = stars })) (zero_by_stars stars)
zero_typed memory base zero = zero_holds base
zero_typed memory base (suc stars) = subst (λ b. IsOf memory (if b then Integer base else Pointer (of-object.Scalar (pointed_to (record { base = base; stars = suc stars })))) Null) (sym (no_zero stars)) tt
  where
    no_zero : (n : ℕ) → suc n == 0 ≡ false
    no_zero n = grind (arith, nat_tests)

pub all_alike : (P : source-value.Value → Type 0) (count : ℕ) (v : source-value.Value) → P v → AllByRecursion P (replicate count v)
all_alike P zero v h = tt
all_alike P (suc count) v h = (h, all_alike P count v h)

pub typed_later : (memory after : SourceMemory) → Later memory after → (t : ValueType) (vs : List source-value.Value) → AllByRecursion (IsOf memory t) vs → AllByRecursion (IsOf after t) vs
typed_later memory after later t [] all = tt
typed_later memory after later t (v ∷ vs) all = (of_later memory after later t v all.0, typed_later memory after later t vs all.1)

depth_is : {a b d e : ℕ} → Variable a d ≡ Variable b e → d ≡ e
depth_is h = cc

-- Owners differ with a new object of a variable above those that live.
differ_more : (depth v : ℕ) (o : SourceObject) → o.owner ≡ Variable v depth → (memory : SourceMemory) (low : ℕ) → low ≤ v → Under memory depth low → OwnersDiffer memory → OwnersDiffer (memory ++ o ∷ [])
differ_more depth v o owner_is memory low le under differ i j q r fi fj qa ra same = elim (got_last memory o q i fi) [
  | inl here ↦ elim (got_last memory o r j fj) [
    | inl there ↦ differ i j q r here there qa ra same
    | inr both ↦ older i q here qa (same ∙ ap (λ z. z.owner) both.1 ∙ owner_is)
  ]
  | inr front ↦ elim (got_last memory o r j fj) [
    | inl there ↦ older j r there ra (sym same ∙ ap (λ z. z.owner) front.1 ∙ owner_is)
    | inr both ↦ front.0 ∙ sym both.0
  ]
]
  where
    older : {A : Type 0} (i : ℕ) (q : SourceObject) → slice_get memory i ≡ Some q → q.phase ≢ Ended → q.owner ≡ Variable v depth → A
    older i q found alive owner = let c = under i q v depth found alive owner in let less = c.1 refl in absurd (omega (arith, less, le))

-- objects are of the types of their variables with a new one that is
declared_more : (p : ProgramTree) (depth v : ℕ) (a : AutomaticTree) → slice_get p.automatics v ≡ Some a → (o : SourceObject) → o.owner ≡ Variable v depth → o.element ≡ element_scalar a.of → length o.values ≡ value_count a.of → (memory : SourceMemory) → AreDeclared p memory → AreDeclared p (memory ++ o ∷ [])
declared_more p depth v a is o owner_is element count memory declared n z found = elim (got_last memory o z n found) [
  | inl here ↦ declared n z here
  | inr both ↦ subst (λ q. IsDeclared p q.owner q) (sym both.1) (subst (λ w. IsDeclared p w o) (sym owner_is) (a, is, element, count))
]

-- What a program's run keeps is kept with a new object of a variable above those that live.
pub sound_more : (k : Activity) (v : ℕ) (a : AutomaticTree) → slice_get k.setting.program.automatics v ≡ Some a → (o : SourceObject) → o.owner ≡ Variable v (depth_in k.setting) → o.element ≡ element_scalar a.of → length o.values ≡ value_count a.of → (o.phase ≡ Initialising → length o.values ≡ 1)
    → (s : State) (low : ℕ) → low ≤ v → Under s.memory (depth_in k.setting) low → Sound k.setting.program s.memory s → AllByRecursion (IsOf (s.memory ++ o ∷ []) (loaded_type o.element)) o.values → Sound k.setting.program (s.memory ++ o ∷ []) (record s { memory = s.memory ++ o ∷ [] })
sound_more k v a is o owner_is element count single s low le under sound typed = record {
  typed = λ n z found. elim (got_last s.memory o z n found) [
    | inl here ↦ typed_later s.memory (s.memory ++ o ∷ []) (later_more s.memory o) (loaded_type z.element) z.values (sound.typed n z here)
    | inr both ↦ subst (λ q. AllByRecursion (IsOf (s.memory ++ o ∷ []) (loaded_type q.element)) q.values) (sym both.1) typed
  ];
  differ = differ_more (depth_in k.setting) v o owner_is s.memory low le under sound.differ;
  declared = declared_more k.setting.program (depth_in k.setting) v a is o owner_is element count s.memory sound.declared;
  single = λ n z found young. elim (got_last s.memory o z n found) [
    | inl here ↦ sound.single n z here young
    | inr both ↦ ap (λ q. length q.values) both.1 ∙ single (sym (ap (λ q. q.phase) both.1) ∙ young)
  ];
  bytes = sound.bytes;
  since = record { later = later_refl (s.memory ++ o ∷ []); ends = λ n z found alive. slice_get_within (s.memory ++ o ∷ []) n z found };
}

pub grown_more : (depth : ℕ) (memory : SourceMemory) (o : SourceObject) (low v : ℕ) → low ≤ v → o.owner ≡ Variable v depth → Grown depth low (v + 1) memory (memory ++ o ∷ [])
grown_more depth memory o low v le owner = record {
  later = later_more memory o;
  fresh = λ n z found alive. elim (got_last memory o z n found) [
    | inl here ↦ inl (slice_get_within memory n z here)
    | inr both ↦ inr (v, ap (λ q. q.owner) both.1 ∙ owner, le, omega arith)
  ];
}

module _ (k : Activity) (v : ℕ) (a : AutomaticTree) (is : slice_get k.setting.program.automatics v ≡ Some a) (phase : Phase) where
  -- the new object, and the memory with it
  abbrev pub new_in : SourceObject
  new_in = new_object (Variable v (depth_in k.setting)) a.of phase

  abbrev pub with_new : SourceMemory → SourceMemory
  with_new memory = memory ++ new_in ∷ []

  pub made_is : (s : State) → length k.frames ≡ length k.setting.waiting → made (here_in k) phase v s ≡ record s { memory = with_new s.memory }
  made_is s e =
      ap (λ r. record s { memory = s.memory ++ option_map_or (λ (q : AutomaticTree). new_object (Variable v (length k.frames + 1)) q.of phase ∷ []) r [] }) is
      ∙ ap (λ n. record s { memory = s.memory ++ new_object (Variable v (n + 1)) a.of phase ∷ [] }) e

  pub grown_made : (memory : SourceMemory) (low : ℕ) → low ≤ v → Grown (depth_in k.setting) low (v + 1) memory (with_new memory)
  grown_made memory low le = grown_more (depth_in k.setting) memory new_in low v le refl

  pub ready_made : (place : ℕ) (memory : SourceMemory) → Ready k place memory → Ready k place (with_new memory)
  ready_made place memory h = record {
    statics = statics_later k.setting.program memory (with_new memory) (later_more memory new_in) h.statics;
    above = λ n o w d found alive owner. elim (got_last memory new_in o n found) [
      | inl here ↦ h.above n o w d here alive owner
      | inr both ↦ let e : d ≡ depth_in k.setting = depth_is (sym owner ∙ ap (λ q. q.owner) both.1) in omega (arith, e)
    ];
    frames = frames_later k.setting.program k.setting.unit memory (with_new memory) (later_more memory new_in) k.frames k.setting.waiting h.frames;
    sees = λ q found j w vis. lives_later memory (with_new memory) (later_more memory new_in) w (depth_in k.setting) (h.sees q found j w vis);
  }

  -- Owners differ with the new object, whose variable is above those that live, and objects are of the types of their variables.
  pub differ_made : (memory : SourceMemory) (low : ℕ) → low ≤ v → Under memory (depth_in k.setting) low → OwnersDiffer memory → OwnersDiffer (with_new memory)
  differ_made memory low le under differ = differ_more (depth_in k.setting) v new_in refl memory low le under differ

  pub declared_made : (memory : SourceMemory) → AreDeclared k.setting.program memory → AreDeclared k.setting.program (with_new memory)
  declared_made memory declared = declared_more k.setting.program (depth_in k.setting) v a is new_in refl refl (length-replicate (value_count a.of) (zero_of (element_scalar a.of))) memory declared

  -- What a program's run keeps is kept with the new object, which is a scalar where it is being initialised.
  pub sound_made : (phase ≡ Initialising → value_count a.of ≡ 1) → (s : State) (low : ℕ) → low ≤ v → Under s.memory (depth_in k.setting) low → Sound k.setting.program s.memory s → Sound k.setting.program (with_new s.memory) (record s { memory = with_new s.memory })
  sound_made single s low le under sound =
      sound_more k v a is new_in refl refl (length-replicate (value_count a.of) (zero_of (element_scalar a.of))) (λ young. length-replicate (value_count a.of) (zero_of (element_scalar a.of)) ∙ single young) s low le under sound
      (all_alike (IsOf (with_new s.memory) (loaded_type (element_scalar a.of))) (value_count a.of) (zero_of (element_scalar a.of)) (zero_typed (with_new s.memory) (element_scalar a.of).base (element_scalar a.of).stars))

-- What the unit's run keeps is kept with an object that is being initialised.
pub fits_made : (k : Activity) (v : ℕ) (a : AutomaticTree) (s : State) (l : Local) (u : World) → Fits k.setting None s l u
    → (IsInMemory k.setting.program (Variable v (depth_in k.setting)) → Placed k.setting.program (s.memory ++ new_object (Variable v (depth_in k.setting)) a.of Initialising ∷ []) u.memory (new_object (Variable v (depth_in k.setting)) a.of Initialising))
    → Fits k.setting None (record s { memory = s.memory ++ new_object (Variable v (depth_in k.setting)) a.of Initialising ∷ [] }) l u
fits_made k v a s l u f inside = let new : SourceObject = new_object (Variable v (depth_in k.setting)) a.of Initialising in record {
  own = record {
    scalars = λ w j m q named found owner live. elim (got_last s.memory new q m found) [
      | inl here ↦ scalar_later k.setting.program s.memory (s.memory ++ new ∷ []) u.memory u.memory (later_more s.memory new) (others_refl u.memory) None q j l.names l.shadows (f.own.scalars w j m q named here owner live)
      | inr both ↦ no (sym (ap (λ z. z.phase) both.1) ∙ live)
    ];
    objects = f.own.objects;
  };
  outer = outer_later k.setting.program s.memory (s.memory ++ new ∷ []) u.memory u.memory (later_more s.memory new) (others_refl u.memory) k.setting.waiting
      (λ depth n w j m q le found owner. elim (got_last s.memory new q m found) [
        | inl here ↦ here
        | inr both ↦ let e : depth ≡ depth_in k.setting = depth_is (sym owner ∙ ap (λ z. z.owner) both.1) in absurd (omega (arith, e, le))
      ]) f.outer;
  placed = λ n q found alive in_it. elim (got_last s.memory new q n found) [
    | inl here ↦ placed_later k.setting.program s.memory (s.memory ++ new ∷ []) u.memory u.memory (later_more s.memory new) (others_refl u.memory) q (λ c. c.is) (f.placed n q here alive in_it)
    | inr both ↦ subst (Placed k.setting.program (s.memory ++ new ∷ []) u.memory) (sym both.1) (inside (subst (λ z. IsInMemory k.setting.program z.owner) both.1 in_it))
  ];
  differ = f.differ;
  above = f.above;
  later = f.later;
  statics = f.statics;
  input = f.input;
  events = f.events;
}
  where
    no : {A : Type 0} → Initialising ≡ Live → A
    no h = cc
