-- Both memories as a run begins: what runs keep holds of them.
use Rattle.std.proofs.Common.{◌≡◌, ℕ, ◌+◌, ◌*◌, ◌%◌, ◌<◌, inl, inr, List, [], ◌∷◌, length, map, Some, true, slice_get, refl, sym, ap, ◌∙◌, subst, arith, pos}
use Rattle.std.specs.List.{AllByRecursion}
use Rattle.std.proofs.lemmas.Option.{slice_get_within}
use Rattle.std.proofs.lemmas.List.{length-map}
use Rattle.word_base.specs.Owners.{Variable}
use Rattle.word_base.specs.Types.{holds}
use Rattle.c_tree.specs.declared.types.IntegerType.TheVariants.{Char}
use Rattle.c_tree.specs.Programs.{ProgramTree}
use Rattle.c_type_rules.specs.Integers.{integer}
use Rattle.c_type_rules.specs.Types.{loaded_type}
use Rattle.c_places.specs.Places.{numbers_from}
use Rattle.c_meaning_values.specs.declared.value.Value.TheVariants as source
use Rattle.c_meaning_values.specs.declared.value.Phase.TheVariants.{Live}
use Rattle.c_meaning_values.specs.Types.{element_scalar, value_count, scalar_size}
use Rattle.c_meaning_values.specs.Memory.{Object as SourceObject, Memory as SourceMemory}
use Rattle.c_meaning_steps.specs.States.{State}
use Rattle.c_meaning.specs.StaticStorage as source-storage
use Rattle.c_meaning.specs.StaticStorage.{static_object, literal_object, first_memory}
use Rattle.graph_core.specs.declared.value.Owner.TheVariants as unit-owner
use Rattle.graph_core.specs.Graphs.{UnitForm}
use Rattle.graph_core.specs.Memory as unit-memory
use Rattle.graph_core.specs.Memory.{Object}
use Rattle.graph_build_runs.specs.Typed.{IsOf}
use Rattle.graph_build_runs.specs.Correspondence.{owner_of, SameValues, AreBytes}
use Rattle.graph_build_runs.specs.Stops.{IsDeclared}
use Rattle.graph_build_runs.proofs.Wrapping.{wrapped_holds}
use Rattle.graph_build_runs.proofs.Later.{not_initialising, later_refl}
use Rattle.graph_build_runs.proofs.Kept.{Sound, Placed}
use Rattle.graph_build_runs.proofs.Entry.{Awaits}
use Rattle.graph_build_runs.proofs.StaticObjects.{static_of, literal_of, statics_of, unit_object, unit_found, unit_length, count_same, first_found, unit_static, unit_literal}
use Rattle.graph_build_runs.proofs.StaticValues.{Bytes, StaticsFit, literal_values}
use Rattle.graph_build_runs.proofs.StaticAddresses.{numbers_length, others_first, unit_at, static_same, literal_same, static_values}

-- bytes are of type char
bytes_typed : (memory : SourceMemory) (bytes : List ℕ) → Bytes bytes → AllByRecursion (IsOf memory (loaded_type (record { base = Char; stars = 0 }))) (map (λ byte. source.Number (pos byte)) bytes)
bytes_typed memory [] h = tt
bytes_typed memory (b ∷ bytes) h = (byte b h.0, bytes_typed memory bytes h.1)
  where
    byte : (b : ℕ) → b < 256 → holds (integer Char) (pos b) ≡ true
    byte b lt = let e : b % 256 ≡ b = omega (arith, lt) in subst (λ k. holds (integer Char) (pos k) ≡ true) e (wrapped_holds Char (pos b))

module _ (p : ProgramTree) (fit : StaticsFit p) where
  -- the unit's object of each
  placed_first : (n : ℕ) (o : SourceObject) → slice_get (first_memory p) n ≡ Some o → Placed p (first_memory p) (others_first p) o
  placed_first n o is = elim (first_found p n o is) [
    | inl found ↦
        let v = found.0 in
        subst (Placed p (first_memory p) (others_first p)) (sym found.2)
        (record {
          number = n;
          object = unit_object (statics_of p) n (static_of p v);
          is = unit_at p n (static_of p v) (unit_static p n v found.1);
          same = static_same p n v;
          values = λ live. subst (λ count. SameValues p (first_memory p) (others_first p) (static_object p n v).values (unit-memory.first_values (statics_of p) (static_of p v) 0 count)) (sym (count_same v.of)) (static_values p v (fit.statics n v found.1) (value_count v.of) 0).0;
        })
    | inr found ↦
        let l = found.1 in
        subst (Placed p (first_memory p) (others_first p)) (sym found.4)
        (record {
          number = length p.statics + found.0;
          object = unit_object (statics_of p) (length p.statics + found.0) (literal_of l);
          is = unit_at p (length p.statics + found.0) (literal_of l) (unit_literal p found.0 l found.3);
          same = literal_same p found.0 l;
          values = λ live. literal_values p (first_memory p) (others_first p) (statics_of p) l l.bytes 0 refl (fit.literals found.0 l found.3);
        })
  ]

  -- an object of the unit's is a static one of its number
  unit_owner : (m : ℕ) (q : Object) → slice_get (others_first p) m ≡ Some q → q.owner ≡ unit-owner.Static m
  unit_owner m q is = let z = unit_found (statics_of p) 0 (statics_of p) m q is in let e : 0 + m ≡ m = omega arith in ap (λ o. o.owner) z.2 ∙ ap unit-owner.Static e

  owner_differs : {a b : ℕ} → unit-owner.Static a ≡ unit-owner.Static b → a ≡ b
  owner_differs h = cc

  never_automatic : {A : Type 0} {a v d : ℕ} → unit-owner.Static a ≡ unit-owner.Automatic v d → A
  never_automatic h = cc

  pub awaits_first : (u : UnitForm) → u.statics ≡ statics_of p → Awaits p u (first_memory p) (others_first p) []
  awaits_first u are = record {
    outer = tt;
    placed = λ n o at alive inside. placed_first n o at;
    differ = λ m n q r at_m at_n live_m live_n owners. owner_differs (sym (unit_owner m q at_m) ∙ owners ∙ unit_owner n r at_n);
    above = λ m q v d at live owner. never_automatic (sym (unit_owner m q at) ∙ owner);
    statics = λ n s at.
        (let found = subst (λ all. slice_get all n ≡ Some s) are at in
        record { object = unit_object (statics_of p) n s; is = unit_at p n s found; owner = refl; lives = refl; element = refl; count = unit_length (statics_of p) s 0 s.count });
  }

  -- What a program's run keeps holds where it begins.
  declared_first : (n : ℕ) (o : SourceObject) → slice_get (first_memory p) n ≡ Some o → IsDeclared p o.owner o
  declared_first n o is = elim (first_found p n o is) [
    | inl found ↦
        let v = found.0 in
        subst (λ z. IsDeclared p z.owner z) (sym found.2) (v, found.1, refl, length-map (numbers_from 0 (value_count v.of)) (λ i. source-storage.first_value p v (element_scalar v.of) (i * scalar_size (element_scalar v.of))) ∙ numbers_length 0 (value_count v.of))
    | inr found ↦ let l = found.1 in subst (λ z. IsDeclared p z.owner z) (sym found.4) (l, found.3, refl, length-map l.bytes (λ byte. source.Number (pos byte)))
  ]

  live_first : (n : ℕ) (o : SourceObject) → slice_get (first_memory p) n ≡ Some o → o.phase ≡ Live
  live_first n o is = elim (first_found p n o is) [
    | inl found ↦ ap (λ z. z.phase) found.2
    | inr found ↦ ap (λ z. z.phase) found.4
  ]

  typed_first : (n : ℕ) (o : SourceObject) → slice_get (first_memory p) n ≡ Some o → AllByRecursion (IsOf (first_memory p) (loaded_type o.element)) o.values
  typed_first n o is = elim (first_found p n o is) [
    | inl found ↦ subst (λ z. AllByRecursion (IsOf (first_memory p) (loaded_type z.element)) z.values) (sym found.2) (static_values p found.0 (fit.statics n found.0 found.1) (value_count found.0.of) 0).1
    | inr found ↦ subst (λ z. AllByRecursion (IsOf (first_memory p) (loaded_type z.element)) z.values) (sym found.4) (bytes_typed (first_memory p) found.1.bytes (fit.literals found.0 found.1 found.3))
  ]

  -- an owner in static storage has one number
  static_is : (n : ℕ) (o : SourceObject) → slice_get (first_memory p) n ≡ Some o → owner_of p o.owner ≡ unit-owner.Static n
  static_is n o is = elim (first_found p n o is) [
    | inl found ↦ ap (λ z. owner_of p z.owner) found.2
    | inr found ↦ ap (λ z. owner_of p z.owner) found.4 ∙ ap unit-owner.Static (sym found.2)
  ]

  pub never_variable : {A : Type 0} (n : ℕ) (o : SourceObject) (v d : ℕ) → slice_get (first_memory p) n ≡ Some o → o.owner ≡ Variable v d → A
  never_variable n o v d is owner = never_automatic (sym (static_is n o is) ∙ ap (owner_of p) owner)

  pub sound_first : (s : State) → s.memory ≡ first_memory p → AreBytes s.input → Sound p (first_memory p) s
  sound_first s same bytes = subst (λ m. Sound p (first_memory p) (record s { memory = m })) (sym same) (record {
    typed = typed_first;
    differ = λ m n o q at_m at_n open_m open_n owners. owner_differs (sym (static_is m o at_m) ∙ ap (owner_of p) owners ∙ static_is n q at_n);
    declared = declared_first;
    single = λ n o is young. not_initialising (sym (live_first n o is) ∙ young);
    bytes = bytes;
    since = record { later = later_refl (first_memory p); ends = λ n o is alive. slice_get_within (first_memory p) n o is };
  })
