-- What names, shadows and homes hold behind a path.
use Rattle.std.proofs.Common.{◌≡◌, ℕ, ◌⊎◌, inl, inr, Bool, true, false, true≢false, Option, Some, None, List, [], ◌∷◌, length, map, refl, sym, ap, ◌∙◌, arith}
use Rattle.std.specs.Prelude.{◌==◌, ◌||◌, if◌then◌else◌}
use Rattle.std.proofs.lemmas.Bool.{or_parts, eq-eqb, ne_eqb}
use Rattle.std.proofs.lemmas.Option.{none-some, same_Some}
use Rattle.graph_homes.specs.declared.home.Home.{Home}
use Rattle.graph_homes.specs.Homes.{is_same_home, is_home_of, home_by, homes_behind, bound_last, last_writer, written_since}
use Rattle.graph_core.specs.declared.value.Value.{Value}
use Rattle.graph_core.specs.declared.value.Shadow.{Shadow}
use Rattle.graph_core.specs.declared.value.Shadow.TheVariants as shadow
use Rattle.graph_core.specs.Graphs.{Recipe, NoteValue, Is, Gone, Instruction, Marker, Note, Move, Operate, Truncate, Same, Address, Load, Store, Zero, CopyWords, Call, Binding, ToScalar, ToObject, StaticObject}
use Rattle.graph_core.specs.Uses.{target_of, names_in}
use Rattle.graph_core.specs.Paths.{History, Among, front, behind, notes, note_by, last_note}
use Rattle.graph_core.specs.Histories.{name_by, values_behind, shadow_by, shadow_of}
use Rattle.graph_core.specs.Runs.{with_value_at, recipe_value, bind_names}
use Rattle.graph_homes.specs.Homed.{placed, placed_binding, home_number, IsHomeAmong}
use Rattle.home_assign.proofs.HomeRunsNumbers.{same_number, same_self, same_turned}
use Rattle.home_assign.proofs.Values.{recipe_same}

-- ---- Instructions that are no note

-- An instruction is no note.
abbrev pub IsNoNote : Instruction → Type 0
IsNoNote (Note x v) = ⊥
IsNoNote (Marker p) = Unit {0}
IsNoNote (Move x a) = Unit {0}
IsNoNote (Operate x o a b) = Unit {0}
IsNoNote (Truncate x t a) = Unit {0}
IsNoNote (Same x a b) = Unit {0}
IsNoNote (Address x object) = Unit {0}
IsNoNote (Load x e l) = Unit {0}
IsNoNote (Store e l a) = Unit {0}
IsNoNote (Zero object words) = Unit {0}
IsNoNote (CopyWords object bytes words) = Unit {0}
IsNoNote (Call x f all) = Unit {0}

pub kept_note : (x : ℕ) (i : Instruction) (before : Option NoteValue) → IsNoNote i → note_by x i before ≡ before
kept_note x (Note y v) before is = absurd is
kept_note x (Marker p) before is = refl
kept_note x (Move y a) before is = refl
kept_note x (Operate y o a b) before is = refl
kept_note x (Truncate y t a) before is = refl
kept_note x (Same y a b) before is = refl
kept_note x (Address y object) before is = refl
kept_note x (Load y f l) before is = refl
kept_note x (Store f l a) before is = refl
kept_note x (Zero object words) before is = refl
kept_note x (CopyWords object bytes words) before is = refl
kept_note x (Call y f all) before is = refl

pub kept_shadow : (statics : List StaticObject) (x : ℕ) (i : Instruction) (names : ℕ → Value) (before : Shadow) → IsNoNote i → shadow_by statics x i names before ≡ before
kept_shadow statics x (Note y v) names before is = absurd is
kept_shadow statics x (Marker p) names before is = refl
kept_shadow statics x (Move y a) names before is = refl
kept_shadow statics x (Operate y o a b) names before is = refl
kept_shadow statics x (Truncate y t a) names before is = refl
kept_shadow statics x (Same y a b) names before is = refl
kept_shadow statics x (Address y object) names before is = refl
kept_shadow statics x (Load y f l) names before is = refl
kept_shadow statics x (Store f l a) names before is = refl
kept_shadow statics x (Zero object words) names before is = refl
kept_shadow statics x (CopyWords object bytes words) names before is = refl
kept_shadow statics x (Call y f all) names before is = refl

no_notes : (x : ℕ) (i : Instruction) → IsNoNote i → notes x i ≡ false
no_notes x (Note y v) is = absurd is
no_notes x (Marker p) is = refl
no_notes x (Move y a) is = refl
no_notes x (Operate y o a b) is = refl
no_notes x (Truncate y t a) is = refl
no_notes x (Same y a b) is = refl
no_notes x (Address y object) is = refl
no_notes x (Load y f l) is = refl
no_notes x (Store f l a) is = refl
no_notes x (Zero object words) is = refl
no_notes x (CopyWords object bytes words) is = refl
no_notes x (Call y f all) is = refl

pub target_no_note : (x : ℕ) (i : Instruction) → target_of i ≡ Some x → IsNoNote i
target_no_note x (Note y v) e = absurd (none-some x e)
target_no_note x (Marker p) e = tt
target_no_note x (Move y a) e = tt
target_no_note x (Operate y o a b) e = tt
target_no_note x (Truncate y t a) e = tt
target_no_note x (Same y a b) e = tt
target_no_note x (Address y object) e = tt
target_no_note x (Load y f l) e = tt
target_no_note x (Store f l a) e = tt
target_no_note x (Zero object words) e = tt
target_no_note x (CopyWords object bytes words) e = tt
target_no_note x (Call y f all) e = tt

-- ---- The last note

module _ (home : ℕ → Home) (statics : List StaticObject) (names : ℕ → Value) where
  -- a name whose home is not written keeps its value
  kept_value : (t : Option ℕ) (v : Value) (values : ℕ → Value) (y : ℕ) → is_home_of home (home y) t ≡ false → values y ≡ name_by t v values y
  kept_value None v values y e = refl
  kept_value (Some z) v values y e =
      let other : (y == z) ≡ false = ne_eqb y z (λ same. true≢false (sym (same_self (home y)) ∙ ap (λ n. is_same_home (home n) (home y)) same ∙ e)) in
      sym (ap (λ b. if b then v else values y) other)

  -- one instruction more, behind which this is so
  abbrev IsNoted : (x : ℕ) → Recipe → History → Type 0
  IsNoted x r h = last_note x h ≡ Some (Is r) → ((y : ℕ) → Among y (names_in r) → written_since home x (home y) h ≡ false) → shadow_of statics names x h ≡ shadow.Known (recipe_value statics (values_behind names h) r)

  noted_plain : (x : ℕ) (r : Recipe) (h : History) (j : Instruction) (w : Value) → IsNoNote j → IsNoted x r h → note_by x j (last_note x h) ≡ Some (Is r)
      → ((y : ℕ) → Among y (names_in r) → (if notes x j then false else (is_home_of home (home y) (target_of j) || written_since home x (home y) h)) ≡ false)
      → shadow_by statics x j (values_behind names h) (shadow_of statics names x h) ≡ shadow.Known (recipe_value statics (name_by (target_of j) w (values_behind names h)) r)
  noted_plain x r h j w plain before e unwritten =
      kept_shadow statics x j (values_behind names h) (shadow_of statics names x h) plain
      ∙ before (sym (kept_note x j (last_note x h) plain) ∙ e) (λ y among. (parts y among).1)
      ∙ ap shadow.Known (recipe_same statics r (name_by (target_of j) w (values_behind names h)) (values_behind names h) (λ y among. kept_value (target_of j) w (values_behind names h) y (parts y among).0))
    where
      parts : (y : ℕ) → Among y (names_in r) → (is_home_of home (home y) (target_of j) ≡ false) × (written_since home x (home y) h ≡ false)
      parts y among =
          or_parts (is_home_of home (home y) (target_of j)) (written_since home x (home y) h)
          (sym (ap (λ b. if b then false else (is_home_of home (home y) (target_of j) || written_since home x (home y) h)) (no_notes x j plain)) ∙ unwritten y among)

  noted_by : (x : ℕ) (r : Recipe) (h : History) (j : Instruction) (w : Value) → IsNoted x r h → note_by x j (last_note x h) ≡ Some (Is r)
      → ((y : ℕ) → Among y (names_in r) → (if notes x j then false else (is_home_of home (home y) (target_of j) || written_since home x (home y) h)) ≡ false)
      → shadow_by statics x j (values_behind names h) (shadow_of statics names x h) ≡ shadow.Known (recipe_value statics (name_by (target_of j) w (values_behind names h)) r)
  noted_by x r h (Note y (Is s)) w before e unwritten = by_test (y == x) e unwritten
    where
      by_test : (b : Bool) → (if b then Some (Is s) else last_note x h) ≡ Some (Is r) → ((z : ℕ) → Among z (names_in r) → (if b then false else written_since home x (home z) h) ≡ false)
          → (if b then shadow.Known (recipe_value statics (values_behind names h) s) else shadow_of statics names x h) ≡ shadow.Known (recipe_value statics (values_behind names h) r)
      by_test true q kept = let same : s ≡ r = cc in ap (λ t. shadow.Known (recipe_value statics (values_behind names h) t)) same
      by_test false q kept = before q kept
  noted_by x r h (Note y (Gone change)) w before e unwritten = by_test (y == x) e unwritten
    where
      by_test : (b : Bool) → (if b then Some (Gone change) else last_note x h) ≡ Some (Is r) → ((z : ℕ) → Among z (names_in r) → (if b then false else written_since home x (home z) h) ≡ false)
          → (if b then shadow.Gone else shadow_of statics names x h) ≡ shadow.Known (recipe_value statics (values_behind names h) r)
      by_test true q kept = cc
      by_test false q kept = before q kept
  noted_by x r h (Marker p) w before e unwritten = noted_plain x r h (Marker p) w tt before e unwritten
  noted_by x r h (Move y a) w before e unwritten = noted_plain x r h (Move y a) w tt before e unwritten
  noted_by x r h (Operate y o a b) w before e unwritten = noted_plain x r h (Operate y o a b) w tt before e unwritten
  noted_by x r h (Truncate y t a) w before e unwritten = noted_plain x r h (Truncate y t a) w tt before e unwritten
  noted_by x r h (Same y a b) w before e unwritten = noted_plain x r h (Same y a b) w tt before e unwritten
  noted_by x r h (Address y object) w before e unwritten = noted_plain x r h (Address y object) w tt before e unwritten
  noted_by x r h (Load y f l) w before e unwritten = noted_plain x r h (Load y f l) w tt before e unwritten
  noted_by x r h (Store f l a) w before e unwritten = noted_plain x r h (Store f l a) w tt before e unwritten
  noted_by x r h (Zero object words) w before e unwritten = noted_plain x r h (Zero object words) w tt before e unwritten
  noted_by x r h (CopyWords object bytes words) w before e unwritten = noted_plain x r h (CopyWords object bytes words) w tt before e unwritten
  noted_by x r h (Call y f all) w before e unwritten = noted_plain x r h (Call y f all) w tt before e unwritten

  -- Where a recipe is a scalar's last note and no home of a name in it is written since, the scalar's shadow is what the recipe gives now.
  pub noted_value : (x : ℕ) (r : Recipe) (h : History) → last_note x h ≡ Some (Is r) → ((y : ℕ) → Among y (names_in r) → written_since home x (home y) h ≡ false) → shadow_of statics names x h ≡ shadow.Known (recipe_value statics (values_behind names h) r)
  noted_value x r [] e unwritten = absurd (none-some (Is r) e)
  noted_value x r (i ∷ h) e unwritten = noted_by x r h i.instruction i.wrote (noted_value x r h) e unwritten

-- ---- The last writer

-- A home holds the value of a name: it is the name's home, too.
abbrev pub HoldsLast : (home : ℕ → Home) (k : Home) → (held : Value) (values : ℕ → Value) (y : ℕ) → Type 0
HoldsLast home k held values y = (is_same_home (home y) k ≡ true) × (held ≡ values y)

module _ (home : ℕ → Home) (k : Home) where
  -- behind one more write
  holds_written : (z : ℕ) (v held : Value) (values : ℕ → Value) (before : Option ℕ) (y : ℕ) → (if is_same_home (home z) k then Some z else before) ≡ Some y → (before ≡ Some y → HoldsLast home k held values y)
      → HoldsLast home k (if is_same_home k (home z) then v else held) (with_value_at values z v) y
  holds_written z v held values before y e earlier = by_test (is_same_home (home z) k) refl e
    where
      by_test : (b : Bool) → is_same_home (home z) k ≡ b → (if b then Some z else before) ≡ Some y → HoldsLast home k (if is_same_home k (home z) then v else held) (with_value_at values z v) y
      by_test true is q =
          let one : z ≡ y = same_Some z y q in (
            ap (λ n. is_same_home (home n) k) (sym one) ∙ is,
            ap (λ b. if b then v else held) (same_turned k (home z) ∙ is) ∙ sym (ap (λ b. if b then v else values y) (eq-eqb y z (sym one))),
          )
      by_test false is q =
          let last = earlier q in
          let other : (y == z) ≡ false = ne_eqb y z (λ same. true≢false (sym last.0 ∙ ap (λ n. is_same_home (home n) k) same ∙ is)) in
          (last.0, ap (λ b. if b then v else held) (same_turned k (home z) ∙ is) ∙ last.1 ∙ sym (ap (λ b. if b then v else values y) other))

  -- Behind a path a home holds the value of the name for which it was last written.
  pub last_value : (ps : List Binding) (holds : Home → Value) (names : ℕ → Value) → ((y : ℕ) → bound_last home k ps None ≡ Some y → HoldsLast home k (holds k) names y) → (h : History) (y : ℕ) → last_writer home ps k h ≡ Some y
      → HoldsLast home k (homes_behind home holds h k) (values_behind names h) y
  last_value ps holds names first [] y e = first y e
  last_value ps holds names first (i ∷ h) y e = by_target (target_of i.instruction) e (last_value ps holds names first h y)
    where
      by_target : (t : Option ℕ) → (if is_home_of home k t then t else last_writer home ps k h) ≡ Some y → (last_writer home ps k h ≡ Some y → HoldsLast home k (homes_behind home holds h k) (values_behind names h) y)
          → HoldsLast home k (home_by home t i.wrote (homes_behind home holds h) k) (name_by t i.wrote (values_behind names h)) y
      by_target None q earlier = earlier q
      by_target (Some z) q earlier = holds_written z i.wrote (homes_behind home holds h k) (values_behind names h) (last_writer home ps k h) y q earlier

  -- The same where a call has bound parameters.
  pub bound_value : (count : ℕ) → IsHomeAmong count k → (ps : List Binding) → ((x : ℕ) → Among (ToScalar x) ps → IsHomeAmong count (home x)) → (vs : List Value) → length vs ≡ length ps → (names held : ℕ → Value) (before : Option ℕ)
      → ((y : ℕ) → before ≡ Some y → HoldsLast home k (held (home_number k)) names y) → (y : ℕ) → bound_last home k ps before ≡ Some y
      → HoldsLast home k (bind_names (map (placed_binding home) ps) vs held (home_number k)) (bind_names ps vs names) y
  bound_value count is [] are vs long names held before earlier y e = earlier y e
  bound_value count is (b ∷ ps) are [] long names held before earlier y e = absurd (omega (arith, long))
  bound_value count is (ToObject object ∷ ps) are (v ∷ vs) long names held before earlier y e = bound_value count is ps (λ x among. are x (behind among)) vs (omega (arith, long)) names held before earlier y e
  bound_value count is (ToScalar x ∷ ps) are (v ∷ vs) long names held before earlier y e =
      bound_value count is ps (λ z among. are z (behind among)) vs (omega (arith, long)) (with_value_at names x v) (with_value_at held (placed home x) v) (if is_same_home (home x) k then Some x else before)
      (λ z q.
      let one = holds_written x v (held (home_number k)) names before z q (earlier z) in
      (one.0, ap (λ b. if b then v else held (home_number k)) (same_number count k (home x) is (are x front)) ∙ one.1))
      y e
