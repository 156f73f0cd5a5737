-- Memories that go on: objects stay what they are, whatever they hold.
use Rattle.std.proofs.Common.{◌≡◌, ◌≢◌, ℕ, zero, suc, ◌*◌, ◌≤◌, inl, inr, List, [], ◌∷◌, length, Option, Some, slice_get, slice_set, refl, sym, ap, ◌∙◌, subst}
use Rattle.std.specs.Option.{option_map_or}
use Rattle.std.proofs.lemmas.Bool.{cases_eq}
use Rattle.std.proofs.lemmas.List.{length-set}
use Rattle.c_tree.specs.Programs.{ProgramTree}
use Rattle.c_meaning_values.specs.declared.value.Value as source-value
use Rattle.c_meaning_values.specs.declared.value.Value.TheVariants as source
use Rattle.c_meaning_values.specs.declared.value.Phase.{Phase}
use Rattle.c_meaning_values.specs.declared.value.Phase.TheVariants.{Initialising, Live, Ended}
use Rattle.c_meaning_values.specs.Memory.{Object as SourceObject, Memory as SourceMemory, with_value, set_value, in_phase, begun as begun_in}
use Rattle.graph_core.specs.declared.value.Value.{Value}
use Rattle.graph_core.specs.declared.value.Value.TheVariants.{Pointer}
use Rattle.graph_core.specs.Memory.{Object, Memory, bytes_of}
use Rattle.graph_core.specs.Values.{size_of}
use Rattle.graph_build_steps.specs.Rules.{element_of}
use Rattle.graph_build_runs.specs.Correspondence.{owner_of, IsInMemory, SameObject, SamePointer, points, ended, SameValue, SameValues}
pub use Rattle.base_laws.proofs.Lists.{get_set, set_elsewhere, set_here}
pub use Rattle.base_laws.proofs.Options.{same_some as some_same}

-- How the phase of an object goes on: one that is being initialised may come to live.
pub record Onward (before after : Phase) : Type 0 where
  pub live : before ≡ Live → after ≡ Live
  pub over : before ≡ Ended → after ≡ Ended
  pub open_before : after ≡ Ended → before ≡ Ended

pub onward : (before after : Phase) → after ≡ before → Onward before after
onward before after same = record { live = λ e. same ∙ e; over = λ e. same ∙ e; open_before = λ e. sym same ∙ e }

pub onward_trans : (a b c : Phase) → Onward a b → Onward b c → Onward a c
onward_trans a b c f g = record { live = λ e. g.live (f.live e); over = λ e. g.over (f.over e); open_before = λ e. f.open_before (g.open_before e) }

-- what lives is not being initialised
pub not_initialising : {A : Type 0} → Live ≡ Initialising → A
not_initialising h = cc

-- an object that has not ended comes to live
pub live_open : (phase : Phase) → phase ≢ Ended → Onward phase Live
live_open phase alive = record { live = λ e. refl; over = λ e. absurd (alive e); open_before = λ e. no e }
  where
    no : {A : Type 0} → Live ≡ Ended → A
    no h = cc

-- one that is being initialised was so before
pub still_initialising : (before after : Phase) → Onward before after → after ≡ Initialising → before ≡ Initialising
still_initialising Initialising after goes_on e = refl
still_initialising Live after goes_on e = let lives : after ≡ Live = goes_on.live refl in cc
still_initialising Ended after goes_on e = let over : after ≡ Ended = goes_on.over refl in cc

-- An object of a program's run is there later, the same but for what it holds, and that it may have come to live.
pub record StillThere (o : SourceObject) (found : Option SourceObject) : Type 0 where
  pub object : SourceObject
  pub is : found ≡ Some object
  pub owner : object.owner ≡ o.owner
  pub element : object.element ≡ o.element
  pub phase : Onward o.phase object.phase
  pub count : length object.values ≡ length o.values

-- All objects of a memory are there in another, and the same but for what they hold.
abbrev pub Later : SourceMemory → SourceMemory → Type 0
Later memory after = (n : ℕ) (o : SourceObject) → slice_get memory n ≡ Some o → StillThere o (slice_get after n)

pub later_refl : (memory : SourceMemory) → Later memory memory
later_refl memory n o is = record { object = o; is = is; owner = refl; element = refl; phase = onward o.phase o.phase refl; count = refl }

pub later_trans : (a b c : SourceMemory) → Later a b → Later b c → Later a c
later_trans a b c f g n o is =
    let x = f n o is in let y = g n x.object x.is in
    record { object = y.object; is = y.is; owner = y.owner ∙ x.owner; element = y.element ∙ x.element; phase = onward_trans o.phase x.object.phase y.object.phase x.phase y.phase; count = y.count ∙ x.count }

-- an object became another, the same but for what it holds and that it may have come to live
pub later_changed : (memory : SourceMemory) (n : ℕ) (o now : SourceObject) → slice_get memory n ≡ Some o → now.owner ≡ o.owner → now.element ≡ o.element → Onward o.phase now.phase → length now.values ≡ length o.values → Later memory (slice_set memory n now)
later_changed memory n o now at owner element phase count m q is = elim (cases_eq m n) [
  | inl e ↦
      let same : o ≡ q = some_same (sym at ∙ ap (slice_get memory) (sym e) ∙ is) in
      record {
        object = now;
        is = ap (slice_get (slice_set memory n now)) e ∙ set_here memory n o now at;
        owner = owner ∙ ap (λ x. x.owner) same;
        element = element ∙ ap (λ x. x.element) same;
        phase = subst (λ z. Onward z now.phase) (ap (λ x. x.phase) same) phase;
        count = count ∙ ap (λ x. length x.values) same;
      }
  | inr ne ↦ record { object = q; is = set_elsewhere memory n m now ne ∙ is; owner = refl; element = refl; phase = onward q.phase q.phase refl; count = refl }
]

-- a value of an object was replaced
pub later_set : (memory : SourceMemory) (n i : ℕ) (o : SourceObject) (v : source-value.Value) → slice_get memory n ≡ Some o → Later memory (slice_set memory n (record o { values = slice_set o.values i v }))
later_set memory n i o v at m q is = elim (cases_eq m n) [
  | inl e ↦
      let same : o ≡ q = some_same (sym at ∙ ap (slice_get memory) (sym e) ∙ is) in
      record {
        object = record o { values = slice_set o.values i v };
        is = ap (slice_get (slice_set memory n (record o { values = slice_set o.values i v }))) e ∙ set_here memory n o (record o { values = slice_set o.values i v }) at;
        owner = ap (λ x. x.owner) same;
        element = ap (λ x. x.element) same;
        phase = onward q.phase o.phase (ap (λ x. x.phase) same);
        count = length-set o.values i v ∙ ap (λ x. length x.values) same;
      }
  | inr ne ↦ record { object = q; is = set_elsewhere memory n m (record o { values = slice_set o.values i v }) ne ∙ is; owner = refl; element = refl; phase = onward q.phase q.phase refl; count = refl }
]

-- a value of an object was replaced, and the object lives
pub later_written : (memory : SourceMemory) (n i : ℕ) (o : SourceObject) (v : source-value.Value) → slice_get memory n ≡ Some o → o.phase ≢ Ended → Later memory (slice_set memory n (record o { values = slice_set o.values i v; phase = Live }))
later_written memory n i o v at alive = later_changed memory n o (record o { values = slice_set o.values i v; phase = Live }) at refl refl (live_open o.phase alive) (length-set o.values i v)

pub set_twice : {A : Type 0} (xs : List A) (n : ℕ) (a b : A) → slice_set (slice_set xs n a) n b ≡ slice_set xs n b
set_twice [] n a b = refl
set_twice (x ∷ xs) zero a b = refl
set_twice (x ∷ xs) (suc n) a b = ap (λ ys. x ∷ ys) (set_twice xs n a b)

-- What a write makes of a memory: the object has the value, and lives.
pub written_is : (memory : SourceMemory) (n i : ℕ) (o : SourceObject) (v : source-value.Value) → slice_get memory n ≡ Some o → begun_in (set_value memory n i v) n ≡ slice_set memory n (record o { values = slice_set o.values i v; phase = Live })
written_is memory n i o v at =
    ap (λ q. begun_in (option_map_or (λ z. slice_set memory n (with_value z i v)) q memory) n) at
    ∙ ap (λ q. option_map_or (λ z. slice_set (slice_set memory n (with_value o i v)) n (in_phase Live z)) q (slice_set memory n (with_value o i v))) (set_here memory n o (with_value o i v) at)
    ∙ set_twice memory n (with_value o i v) (record o { values = slice_set o.values i v; phase = Live })

-- An object of a unit's run is there later, the same but for what it holds.
pub record OtherThere (q : Object) (found : Option Object) : Type 0 where
  pub object : Object
  pub is : found ≡ Some object
  pub owner : object.owner ≡ q.owner
  pub element : object.element ≡ q.element
  pub live : object.live ≡ q.live
  pub count : length object.values ≡ length q.values

abbrev pub OthersLater : Memory → Memory → Type 0
OthersLater others after = (m : ℕ) (q : Object) → slice_get others m ≡ Some q → OtherThere q (slice_get after m)

pub others_refl : (others : Memory) → OthersLater others others
others_refl others m q is = record { object = q; is = is; owner = refl; element = refl; live = refl; count = refl }

pub others_trans : (a b c : Memory) → OthersLater a b → OthersLater b c → OthersLater a c
others_trans a b c f g m q is =
    let x = f m q is in let y = g m x.object x.is in
    record { object = y.object; is = y.is; owner = y.owner ∙ x.owner; element = y.element ∙ x.element; live = y.live ∙ x.live; count = y.count ∙ x.count }

pub others_set : (others : Memory) (n i : ℕ) (o : Object) (v : Value) → slice_get others n ≡ Some o → OthersLater others (slice_set others n (record o { values = slice_set o.values i v }))
others_set others n i o v at m q is = elim (cases_eq m n) [
  | inl e ↦
      let same : o ≡ q = some_same (sym at ∙ ap (slice_get others) (sym e) ∙ is) in
      record {
        object = record o { values = slice_set o.values i v };
        is = ap (slice_get (slice_set others n (record o { values = slice_set o.values i v }))) e ∙ set_here others n o (record o { values = slice_set o.values i v }) at;
        owner = ap (λ x. x.owner) same;
        element = ap (λ x. x.element) same;
        live = ap (λ x. x.live) same;
        count = length-set o.values i v ∙ ap (λ x. length x.values) same;
      }
  | inr ne ↦ record { object = q; is = set_elsewhere others n m (record o { values = slice_set o.values i v }) ne ∙ is; owner = refl; element = refl; live = refl; count = refl }
]

-- an object became another, the same but for what it holds
pub others_changed : (others : Memory) (n : ℕ) (o now : Object) → slice_get others n ≡ Some o → now.owner ≡ o.owner → now.element ≡ o.element → now.live ≡ o.live → length now.values ≡ length o.values → OthersLater others (slice_set others n now)
others_changed others n o now at owner element live count m q is = elim (cases_eq m n) [
  | inl e ↦
      let same : o ≡ q = some_same (sym at ∙ ap (slice_get others) (sym e) ∙ is) in
      record {
        object = now;
        is = ap (slice_get (slice_set others n now)) e ∙ set_here others n o now at;
        owner = owner ∙ ap (λ x. x.owner) same;
        element = element ∙ ap (λ x. x.element) same;
        live = live ∙ ap (λ x. x.live) same;
        count = count ∙ ap (λ x. length x.values) same;
      }
  | inr ne ↦ record { object = q; is = set_elsewhere others n m now ne ∙ is; owner = refl; element = refl; live = refl; count = refl }
]

pub same_bytes : (q r : Object) → r.element ≡ q.element → length r.values ≡ length q.values → bytes_of r ≡ bytes_of q
same_bytes q r element count = ap (λ k. k * size_of r.element) count ∙ ap (λ e. length q.values * size_of e) element

module _ (p : ProgramTree) (memory after : SourceMemory) (others others_after : Memory) (later : Later memory after) (others_later : OthersLater others others_after) where
  -- the unit's object of an object is so later
  pub object_later : (o : SourceObject) (q : Object) (n m : ℕ) (is : slice_get memory n ≡ Some o) (at : slice_get others m ≡ Some q) → SameObject p o q → SameObject p (later n o is).object (others_later m q at).object
  object_later o q n m is at same =
      let a = later n o is in let b = others_later m q at in
      record {
        owner = b.owner ∙ same.owner ∙ ap (owner_of p) (sym a.owner);
        lives = b.live ∙ same.lives;
        element = b.element ∙ same.element ∙ ap element_of (sym a.element);
        count = b.count ∙ same.count ∙ sym a.count;
      }

  pub pointer_later : (n offset : ℕ) (w : Value) → SamePointer p memory others n offset w → SamePointer p after others_after n offset w
  pointer_later n offset w (points o is begun inside m q at same within e) =
      let a = later n o is in let b = others_later m q at in
      let bytes : bytes_of q ≡ bytes_of b.object = sym (same_bytes q b.object b.element b.count) in
      points a.object a.is (λ h. begun (a.phase.open_before h)) (subst (IsInMemory p) (sym a.owner) inside) m b.object b.is (object_later o q n m is at same) (subst (λ k. offset ≤ k) bytes within) (e ∙ ap (λ k. Pointer m k offset) bytes)
  pointer_later n offset w (ended o is over known) = let a = later n o is in ended a.object a.is (a.phase.over over) known

  pub value_later : (v : source-value.Value) (w : Value) → SameValue p memory others v w → SameValue p after others_after v w
  value_later (source.Number z) w same = same
  value_later source.Null w same = same
  value_later (source.Pointer n offset) w same = pointer_later n offset w same

  pub values_later : (vs : List source-value.Value) (ws : List Value) → SameValues p memory others vs ws → SameValues p after others_after vs ws
  values_later [] [] same = tt
  values_later [] (w ∷ ws) same = absurd same
  values_later (v ∷ vs) [] same = absurd same
  values_later (v ∷ vs) (w ∷ ws) same = (value_later v w same.0, values_later vs ws same.1)
