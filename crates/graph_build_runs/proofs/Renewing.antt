-- New values that changes make: the unit computes what the source does.
use Rattle.std.proofs.Common.{◌≡◌, ℕ, ◌<◌, ◌≤◌, ◌∷◌, Option, Some, None, Bool, true, false, not, ◌||◌, refl, sym, ap, ◌∙◌, subst, ℤ, pos, ◌*ℤ◌}
use Rattle.std.specs.Prelude.{◌==◌, if◌then◌else◌, option_map, option_and_then}
use Rattle.word_base.specs.Types.{holds}
use Rattle.c_tree.specs.declared.types.IntegerType.{IntegerType}
use Rattle.c_tree.specs.declared.types.IntegerType.TheVariants.{Char, SignedChar, UnsignedChar, Short, UnsignedShort, Int, UnsignedInt, Long, UnsignedLong}
use Rattle.c_tree.specs.declared.object_type.ObjectType.{ObjectType}
use Rattle.c_tree.specs.declared.object_type.ValueType.{ValueType}
use Rattle.c_tree.specs.declared.object_type.ValueType.TheVariants.{Integer, Pointer as PointerType}
use Rattle.c_tree.specs.declared.typed_expression.Arithmetic as declared-arithmetic
use Rattle.c_tree.specs.declared.typed_expression.Direction.{Direction}
use Rattle.c_type_rules.specs.Constants.{calculated}
use Rattle.c_type_rules.specs.Integers.{integer, wrapped, object_size}
use Rattle.c_type_laws.specs.Kinds.{is_promoted}
use Rattle.c_meaning_values.specs.declared.value.Value as source-value
use Rattle.c_meaning_values.specs.declared.value.Value.TheVariants as source
use Rattle.c_meaning_values.specs.Memory.{Memory as SourceMemory}
use Rattle.c_meaning_values.specs.Operations.{convert, moved_by_elements}
use Rattle.c_meaning_steps.specs.States.{State}
use Rattle.c_meaning_steps.specs.Steps.{updated_value}
use Rattle.graph_core.specs.declared.value.Value.{Value}
use Rattle.graph_core.specs.declared.value.Value.TheVariants.{Number}
use Rattle.graph_core.specs.Graphs.{Operand, Name, Constant, StaticAddress, Operate, Truncate}
use Rattle.graph_core.specs.Runs.{Goes, value}
use Rattle.graph_core.specs.Values.{operate, truncate}
use Rattle.graph_build_names.specs.Conversions.{unsigned_bits, is_narrow, is_within}
use Rattle.graph_build_names.specs.Scales.{scaled}
use Rattle.graph_build_steps.specs.Rules.{truncation_to, operation_for, move_by}
use Rattle.graph_build_steps.specs.Drafts.{Made, instruction_before, scale, renew}
use Rattle.graph_build_steps.specs.declared.change.Change as declared-change
use Rattle.graph_build_steps.specs.declared.change.Change.TheVariants as change
use Rattle.graph_build_steps.specs.Steps.{changed}
use Rattle.graph_build_runs.specs.Typed.{IsOf}
use Rattle.graph_build_runs.specs.Correspondence.{SameValue}
use Rattle.graph_build_runs.proofs.Leads.{Setting, size_in, Local, World, set_name, at, stays, goes, then_leads, put_here, put_elsewhere, less_other}
use Rattle.graph_build_runs.proofs.Later.{some_same}
use Rattle.graph_build_runs.proofs.Kept.{Sound, Fits}
use Rattle.graph_build_runs.proofs.Results.{Passes}
use Rattle.graph_build_runs.proofs.Operands.{IsBelow}
use Rattle.graph_build_runs.proofs.Arithmetic.{IsRight, Computes}
use Rattle.graph_build_runs.proofs.Converting.{kept_word, truncated_word}
use Rattle.graph_build_runs.proofs.Wrapping.{wrapped_holds}
use Rattle.graph_build_runs.proofs.Remaining.{Remains}
use Rattle.graph_build_runs.proofs.Scaling.{scale_done}
use Rattle.graph_build_runs.proofs.Moving.{AreSmall, pointer_moves, moved_typed}

-- What stands before the last instruction of a change that gives a new value, and the value that it writes to a name.
pub record Renewed (x : Setting) (P : Local → Type 0) (k t free : ℕ) (code m : Made) (l : Local) (w : World) (given : Value) : Type 0 where
  pub local : Local
  pub leads : Passes x code.ops code.end l w m.ops m.end (set_name local k given) w
  pub holds : P local
  pub kept : (y : ℕ) → y < free → y == t ≡ false → local.names y ≡ l.names y
  pub shadows : local.shadows ≡ l.shadows

-- a promoted type is not narrow
pub promoted_wide : (t : IntegerType) → is_promoted t ≡ true → is_narrow t ≡ false
promoted_wide Char p = cc
promoted_wide SignedChar p = cc
promoted_wide UnsignedChar p = cc
promoted_wide Short p = cc
promoted_wide UnsignedShort p = cc
promoted_wide Int p = refl
promoted_wide UnsignedInt p = refl
promoted_wide Long p = refl
promoted_wide UnsignedLong p = refl

-- a conversion to a type that is not narrow keeps the word
wide_kept : (t u : IntegerType) (z : ℤ) → is_narrow u ≡ false → holds (integer t) z ≡ true → unsigned_bits (wrapped u z) ≡ unsigned_bits z
wide_kept t u z e h = kept_word t u z (ap (λ b. not b || is_within t u) e) h

module _ (x : Setting) (P : Local → Type 0) (temporary : (l : Local) (j : ℕ) (v : Value) → size_in x ≤ j → P l → P (set_name l j v)) (o : declared-arithmetic.Arithmetic) (ty v : IntegerType) (promoted : is_promoted v ≡ true) (computes : Computes o v) (remains : Remains o v) where
  -- A new integer: the operation's result, truncated where its type is narrow.
  pub renew_integer : (k t free : ℕ) (old by : Operand) (m : Made) (l : Local) (w : World) (zo zb z : ℤ) → size_in x ≤ t → P l → holds (integer ty) zo ≡ true → IsRight o v zb → value x.unit.statics l.names old ≡ Number (unsigned_bits zo) → value x.unit.statics l.names by ≡ Number (unsigned_bits zb)
      → calculated o v (wrapped v zo) zb ≡ Some z → Renewed x P k t free (renew ty k t (λ y. Operate y (operation_for o v) old by) m) m l w (Number (unsigned_bits (wrapped ty z)))
  renew_integer k t free old by m l w zo zb z size p ho hb same_o same_b gives = by_width (is_narrow ty) refl
    where
      old_word : unsigned_bits (wrapped v zo) ≡ unsigned_bits zo
      old_word = wide_kept ty v zo (promoted_wide v promoted) ho

      first : operate (operation_for o v) (value x.unit.statics l.names old) (value x.unit.statics l.names by) ≡ Number (unsigned_bits z)
      first =
          ap (λ a. operate (operation_for o v) a (value x.unit.statics l.names by)) (same_o ∙ ap Number (sym old_word)) ∙ ap (operate (operation_for o v) (Number (unsigned_bits (wrapped v zo)))) same_b
          ∙ ap Number (computes (wrapped v zo) zb z (wrapped_holds v zo) hb gives).0

      by_width : (c : Bool) → is_narrow ty ≡ c
          → Renewed x P k t free (if c then instruction_before (Operate t (operation_for o v) old by) (instruction_before (Truncate k (truncation_to ty) (Name t)) m) else instruction_before (Operate k (operation_for o v) old by) m) m l w (Number (unsigned_bits (wrapped ty z)))
      by_width true e =
          let l1 = set_name l t (Number (unsigned_bits z)) in
          record {
            local = l1;
            leads = goes (ap (λ a. Goes (at x (Truncate k (truncation_to ty) (Name t) ∷ m.ops) m.end (set_name l t a) w)) first)
                (goes (ap (λ a. Goes (at x m.ops m.end (set_name l1 k (truncate (truncation_to ty) a)) w)) (put_here l.names t (Number (unsigned_bits z))) ∙ ap (λ a. Goes (at x m.ops m.end (set_name l1 k (Number a)) w)) (truncated_word ty z e)) stays);
            holds = temporary l t (Number (unsigned_bits z)) size p;
            kept = λ y lt ne. put_elsewhere l.names t y (Number (unsigned_bits z)) ne;
            shadows = refl;
          }
      by_width false e =
          let wide : unsigned_bits z ≡ unsigned_bits (wrapped ty z) = sym (wide_kept v ty z e (remains (wrapped v zo) zb z (wrapped_holds v zo) hb gives)) in
          record {
            local = l;
            leads = goes (ap (λ a. Goes (at x m.ops m.end (set_name l k a) w)) (first ∙ ap Number wide)) stays;
            holds = p;
            kept = λ y lt ne. refl;
            shadows = refl;
          }

-- A new pointer: the old one, moved by a scaled index.
pub renew_pointer : (x : Setting) (P : Local → Type 0) (temporary : (l : Local) (j : ℕ) (v : Value) → size_in x ≤ j → P l → P (set_name l j v)) (d : Direction) (bytes k t free : ℕ) (old by : Operand) (m : Made) (l : Local) (w : World) (z : ℤ) → size_in x ≤ free → IsBelow free old → P l
    → value x.unit.statics l.names by ≡ Number (unsigned_bits z)
    → Renewed x P k t free (scale bytes by free (instruction_before (Operate k (move_by d) old (scaled bytes by free)) m)) m l w (operate (move_by d) (value x.unit.statics l.names old) (Number (unsigned_bits (z *ℤ pos bytes))))
renew_pointer x P temporary d bytes k t free old by m l w z size below p same_b =
    let n = instruction_before (Operate k (move_by d) old (scaled bytes by free)) m in
    let c = scale_done x P temporary bytes by free n l w z size p same_b in
    record {
      local = c.local;
      leads = then_leads c.leads
          (goes (ap (λ a. Goes (at x m.ops m.end (set_name c.local k (operate (move_by d) a (value x.unit.statics c.local.names (scaled bytes by free)))) w)) (kept_old c.local c.kept old below)
          ∙ ap (λ a. Goes (at x m.ops m.end (set_name c.local k (operate (move_by d) (value x.unit.statics l.names old) a)) w)) c.index) stays);
      holds = c.holds;
      kept = λ y lt ne. c.kept y (less_other y free lt);
      shadows = c.shadows;
    }
  where
    kept_old : (k : Local) → ((y : ℕ) → y == free ≡ false → k.names y ≡ l.names y) → (a : Operand) → IsBelow free a → value x.unit.statics k.names a ≡ value x.unit.statics l.names a
    kept_old k kept (Name y) lt = kept y (less_other y free lt)
    kept_old k kept (Constant word) lt = refl
    kept_old k kept (StaticAddress o j) lt = refl

-- The unit's code for a change computes what the source's change gives: from an old value that stands below the free names, and another.
pub record Changes (x : Setting) (c : declared-change.Change) (target : ValueType) (HasBy : source-value.Value → Type 0) (next : SourceMemory → source-value.Value → source-value.Value → Option source-value.Value) : Type 1 where
  pub renews : (P : Local → Type 0) (temporary : (l : Local) (j : ℕ) (v : Value) → size_in x ≤ j → P l → P (set_name l j v)) (k t free : ℕ) (old by : Operand) (m : Made) (s : State) (want : Option ℕ) (f l : Local) (w : World) (vo vb v : source-value.Value) → size_in x ≤ t → size_in x ≤ free → IsBelow free old
      → Sound x.program x.begun s → Fits x want s f w → P l → IsOf s.memory target vo → HasBy vb → SameValue x.program s.memory w.memory vo (value x.unit.statics l.names old) → SameValue x.program s.memory w.memory vb (value x.unit.statics l.names by) → next s.memory vo vb ≡ Some v
      → (given : Value) × Renewed x P k t free (changed c k t free old by m) m l w given × SameValue x.program s.memory w.memory v given
  pub typed : (memory : SourceMemory) (vo vb v : source-value.Value) → IsOf memory target vo → HasBy vb → next memory vo vb ≡ Some v → IsOf memory target v

-- a right operand's value
abbrev pub IsRightValue : declared-arithmetic.Arithmetic → IntegerType → source-value.Value → Type 0
IsRightValue o v (source.Number z) = IsRight o v z
IsRightValue o v source.Null = ⊥
IsRightValue o v (source.Pointer n offset) = ⊥

-- a number
abbrev pub IsNumber : source-value.Value → Type 0
IsNumber (source.Number z) = Unit {0}
IsNumber source.Null = ⊥
IsNumber (source.Pointer n offset) = ⊥

-- an operator on integers, its result converted to a type
pub integer_changes : (x : Setting) (o : declared-arithmetic.Arithmetic) (ty v : IntegerType) → is_promoted v ≡ true → Computes o v → Remains o v
    → Changes x (change.Integer o ty v) (Integer ty) (IsRightValue o v) (λ memory a b. updated_value o ty v a b)
integer_changes x o ty v promoted computes remains = record {
  renews = λ P temporary k t free old by m s want f l w vo vb new size size2 below sound fits p ho hb same_o same_b gives.
      go P temporary k t free old by m s w l vo vb new size p ho hb same_o same_b gives;
  typed = λ memory vo vb new ho hb gives. is_typed memory vo vb new ho hb gives;
}
  where
    is_typed : (memory : SourceMemory) (vo vb new : source-value.Value) → IsOf memory (Integer ty) vo → IsRightValue o v vb → updated_value o ty v vo vb ≡ Some new → IsOf memory (Integer ty) new
    is_typed memory (source.Number zo) (source.Number zb) new ho hb gives = by_result (calculated o v (wrapped v zo) zb) gives
      where
        by_result : (r : Option ℤ) → option_and_then (λ a. convert ty a) (option_map source.Number r) ≡ Some new → IsOf memory (Integer ty) new
        by_result None h = cc
        by_result (Some z) h = subst (IsOf memory (Integer ty)) (some_same h) (wrapped_holds ty z)
    is_typed memory (source.Number zo) source.Null new ho hb gives = absurd hb
    is_typed memory (source.Number zo) (source.Pointer n i) new ho hb gives = absurd hb
    is_typed memory source.Null vb new ho hb gives = absurd ho
    is_typed memory (source.Pointer n i) vb new ho hb gives = absurd ho

    go : (P : Local → Type 0) (temporary : (l : Local) (j : ℕ) (u : Value) → size_in x ≤ j → P l → P (set_name l j u)) (k t free : ℕ) (old by : Operand) (m : Made) (s : State) (w : World) (l : Local) (vo vb new : source-value.Value) → size_in x ≤ t → P l → IsOf s.memory (Integer ty) vo → IsRightValue o v vb
        → SameValue x.program s.memory w.memory vo (value x.unit.statics l.names old) → SameValue x.program s.memory w.memory vb (value x.unit.statics l.names by) → updated_value o ty v vo vb ≡ Some new
        → (given : Value) × Renewed x P k t free (renew ty k t (λ y. Operate y (operation_for o v) old by) m) m l w given × SameValue x.program s.memory w.memory new given
    go P temporary k t free old by m s w l (source.Number zo) (source.Number zb) new size p ho hb same_o same_b gives = by_result (calculated o v (wrapped v zo) zb) refl gives
      where
        by_result : (r : Option ℤ) → calculated o v (wrapped v zo) zb ≡ r → option_and_then (λ a. convert ty a) (option_map source.Number r) ≡ Some new
            → (given : Value) × Renewed x P k t free (renew ty k t (λ y. Operate y (operation_for o v) old by) m) m l w given × SameValue x.program s.memory w.memory new given
        by_result None e h = cc
        by_result (Some z) e h =
            let same : source.Number (wrapped ty z) ≡ new = some_same h in
            (Number (unsigned_bits (wrapped ty z)), renew_integer x P temporary o ty v promoted computes remains k t free old by m l w zo zb z size p ho hb same_o same_b e, subst (λ a. SameValue x.program s.memory w.memory a (Number (unsigned_bits (wrapped ty z)))) same refl)
    go P temporary k t free old by m s w l (source.Number zo) source.Null new size p ho hb same_o same_b gives = absurd hb
    go P temporary k t free old by m s w l (source.Number zo) (source.Pointer n i) new size p ho hb same_o same_b gives = absurd hb
    go P temporary k t free old by m s w l source.Null vb new size p ho hb same_o same_b gives = absurd ho
    go P temporary k t free old by m s w l (source.Pointer n i) vb new size p ho hb same_o same_b gives = absurd ho

-- a pointer that is moved
pub pointer_changes : (x : Setting) (d : Direction) (of : ObjectType) → AreSmall x.program → Changes x (change.Pointer d (object_size of)) (PointerType of) IsNumber (λ memory a b. moved_by_elements memory d of a b)
pointer_changes x d of small = record {
  renews = λ P temporary k t free old by m s want f l w vo vb new size size2 below sound fits p ho hb same_o same_b gives.
      go P temporary k t free old by m s want f l w vo vb new size2 below sound fits p hb same_o same_b gives;
  typed = λ memory vo vb new ho hb gives. is_typed memory vo vb new ho hb gives;
}
  where
    is_typed : (memory : SourceMemory) (vo vb new : source-value.Value) → IsOf memory (PointerType of) vo → IsNumber vb → moved_by_elements memory d of vo vb ≡ Some new → IsOf memory (PointerType of) new
    is_typed memory vo (source.Number z) new ho hb gives = moved_typed memory d of vo z new ho gives
    is_typed memory vo source.Null new ho hb gives = absurd hb
    is_typed memory vo (source.Pointer n i) new ho hb gives = absurd hb

    go : (P : Local → Type 0) (temporary : (l : Local) (j : ℕ) (u : Value) → size_in x ≤ j → P l → P (set_name l j u)) (k t free : ℕ) (old by : Operand) (m : Made) (s : State) (want : Option ℕ) (f l : Local) (w : World) (vo vb new : source-value.Value) → size_in x ≤ free → IsBelow free old
        → Sound x.program x.begun s → Fits x want s f w → P l → IsNumber vb → SameValue x.program s.memory w.memory vo (value x.unit.statics l.names old) → SameValue x.program s.memory w.memory vb (value x.unit.statics l.names by) → moved_by_elements s.memory d of vo vb ≡ Some new
        → (given : Value) × Renewed x P k t free (scale (object_size of) by free (instruction_before (Operate k (move_by d) old (scaled (object_size of) by free)) m)) m l w given × SameValue x.program s.memory w.memory new given
    go P temporary k t free old by m s want f l w vo (source.Number z) new size below sound fits p hb same_o same_b gives = (
      operate (move_by d) (value x.unit.statics l.names old) (Number (unsigned_bits (z *ℤ pos (object_size of)))),
      renew_pointer x P temporary d (object_size of) k t free old by m l w z size below p same_b,
      pointer_moves x want s f w d of vo z new (value x.unit.statics l.names old) sound fits small same_o gives,
    )
    go P temporary k t free old by m s want f l w vo source.Null new size below sound fits p hb same_o same_b gives = absurd hb
    go P temporary k t free old by m s want f l w vo (source.Pointer n i) new size below sound fits p hb same_o same_b gives = absurd hb
