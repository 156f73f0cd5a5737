-- What names, shadows and homes hold at a point of a function that a run has come to, and how instructions keep that.
use Rattle.std.proofs.Common.{◌≡◌, ◌≢◌, ℕ, ◌<◌, ◌⊎◌, inl, inr, Bool, true, false, true≢false, Some, None, List, [], ◌∷◌, ◌++◌, length, map, refl, sym, ap, ◌∙◌, subst, arith, append_assoc}
use Rattle.std.specs.Prelude.{◌==◌, if◌then◌else◌, slice_get}
use Rattle.std.specs.Option.{option_map_or}
use Rattle.std.specs.List.{AllByRecursion}
use Rattle.std.proofs.lemmas.Bool.{eq-eqb, ne_eqb}
use Rattle.std.proofs.lemmas.Bool.Decides.{eqb_tells}
use Rattle.std.proofs.lemmas.Option.{none-some}
use Rattle.graph_homes.specs.declared.home.Home.{Home}
use Rattle.graph_homes.specs.Homes.{Holds, HoldsOnAllPaths, is_same_home, home_by, homes_behind}
use Rattle.graph_core.specs.declared.value.Value.{Value}
use Rattle.graph_core.specs.declared.value.Value.TheVariants.{Odd}
use Rattle.graph_core.specs.declared.value.Shadow.{Shadow}
use Rattle.graph_core.specs.declared.value.Shadow.TheVariants as shadow
use Rattle.graph_core.specs.Graphs.{Recipe, Is, Instruction, Marker, End, Block, Binding, ToScalar, Graph}
use Rattle.graph_core.specs.Uses.{target_of, names_in}
use Rattle.graph_core.specs.Paths.{History, Among, front, behind, Way, stays, passes, goes, Path, path, writes, last_note}
use Rattle.graph_core.specs.Points.{Behind}
use Rattle.graph_core.specs.Validity.{AreOperandsOf, IsInstruction, IsBlock, IsGraph, IsBinding, IsValid}
use Rattle.graph_core.specs.Values.{is_odd}
use Rattle.graph_core.specs.Histories.{name_by, values_behind, shadow_of}
use Rattle.graph_core.specs.Runs.{with_value_at, recipe_value, bind_names}
use Rattle.graph_homes.specs.Homed.{HomedForm, HaveHomes, IsHomeAmong, home_of, home_number, placed, placed_binding}
use Rattle.graph_solve_live.specs.Live.{IsReadFirst, passed}
use Rattle.home_assign.specs.Clashes.{IsNoCopyOf, written}
use Rattle.home_assign.specs.Rule.{HaveHomesApart}
use Rattle.home_assign.specs.Alike.{IsAlone, held_in, shown_value}
use Rattle.home_assign.proofs.Histories.{IsNoNote, kept_note, kept_shadow, target_no_note, noted_value, last_value, bound_value}
use Rattle.home_assign.proofs.Lists.{all_at, all_behind}
use Rattle.home_assign.proofs.NamesRead.{recipe_within, target_within}
use Rattle.home_assign.proofs.HomeRunsNumbers.{same_number, same_turned, home_among}
use Rattle.home_assign.proofs.Values.{recipe_same}
pub use Rattle.graph_core.proofs.Among.{path_goes}

-- ---- Points

-- A point of a graph lies in a block of it.
pub record Stands (g : Graph) (n : ℕ) (point : List Instruction) (end : End) : Type 0 where
  pub block : Block
  pub before : List Instruction
  pub is : slice_get g.blocks n ≡ Some block
  pub instructions : block.instructions ≡ before ++ point
  pub ends : end ≡ block.end

way_stands : {g : Graph} {from : ℕ} {rest : List Instruction} {end : End} {h : History} {n : ℕ} {left : List Instruction} {e : End} → Stands g from rest end → Way g from rest end h n left e → Stands g n left e
way_stands start stays = start
way_stands start (passes {h} {n} {i} {left} {e} way v) =
    let s = way_stands start way in
    record { block = s.block; before = s.before ++ i ∷ []; is = s.is; instructions = s.instructions ∙ sym (append_assoc s.before (i ∷ []) left); ends = s.ends }
way_stands start (goes {h} {n} {l} {e} way among b is) = record { block = b; before = []; is = is; instructions = refl; ends = refl }

pub path_stands : (g : Graph) (h : History) (n : ℕ) (left : List Instruction) (e : End) → Path g h n left e → Stands g n left e
path_stands g h n left e (path b is way) = way_stands (record { block = b; before = []; is = is; instructions = refl; ends = refl }) way

pub path_passes : (g : Graph) (h : History) (n : ℕ) (i : Instruction) (left : List Instruction) (e : End) (v : Value) → Path g h n (i ∷ left) e → Path g (record { block = n; left = length left; instruction = i; wrote = v } ∷ h) n left e
path_passes g h n i left e v (path b is way) = path b is (passes way v)

-- ---- What is held

-- the values of a function's names as it begins with arguments, and what its homes hold then
abbrev pub first_names : Graph → (arguments : List Value) → ℕ → Value
first_names g vs = bind_names g.parameters vs (λ x. Odd)

abbrev pub first_homes : (ℕ → Home) → Graph → (arguments : List Value) → Home → Value
first_homes home g vs k = bind_names (map (placed_binding home) g.parameters) vs (λ x. Odd) (home_number k)

module _ (h : HomedForm) where
  -- A run of a function has come along a path to a point: names, shadows and homes hold what that path makes them hold, and the homes of names that are read from there on, and of those that share
  -- it with none, hold their values.
  pub record Fits (f : ℕ) (g : Graph) (values : ℕ → Value) (shadows : ℕ → Shadow) (point : List Instruction) (end : End) (held : ℕ → Value) : Type 0 where
    pub of : slice_get h.unit.graphs f ≡ Some g
    pub history : History
    pub block : ℕ
    pub arguments : List Value
    pub as_many : length arguments ≡ length g.parameters
    pub along : Path g history block point end
    pub values_are : (x : ℕ) → values x ≡ values_behind (first_names g arguments) history x
    pub shadows_are : (x : ℕ) → shadows x ≡ shadow_of h.unit.statics (first_names g arguments) x history
    pub known : (x : ℕ) (v : Value) → shadows x ≡ shadow.Known v → is_odd v ≡ false
    pub noted : (x : ℕ) (r : Recipe) → last_note x history ≡ Some (Is r) → AreOperandsOf h.unit.statics g r
    pub homes : (k : Home) → IsHomeAmong g.name_count k → held (home_number k) ≡ homes_behind (home_of h f) (first_homes (home_of h f) g arguments) history k
    pub kept : (x : ℕ) → x < g.name_count → IsAlone h f g x ⊎ IsReadFirst g x point end → held_in h f held x ≡ values x

module _ (h : HomedForm) (valid : IsValid h.unit) (homed : HaveHomes h) (f : ℕ) (g : Graph) (of : slice_get h.unit.graphs f ≡ Some g) where
  pub graph_valid : IsGraph h.unit g
  graph_valid = all_at (IsGraph h.unit) h.unit.graphs f g valid.graphs of

  pub block_valid : (n : ℕ) (b : Block) → slice_get g.blocks n ≡ Some b → IsBlock h.unit g b
  block_valid n b is = all_at (IsBlock h.unit g) g.blocks n b graph_valid.blocks is

  -- What stands at a point is valid.
  pub instruction_valid : (n : ℕ) (i : Instruction) (rest : List Instruction) (e : End) → Stands g n (i ∷ rest) e → IsInstruction h.unit g i
  instruction_valid n i rest e s = all_behind (IsInstruction h.unit g) s.before i rest (subst (AllByRecursion (IsInstruction h.unit g)) s.instructions (block_valid n s.block s.is).instructions)

  pub parameter_within : (ps : List Binding) → AllByRecursion (IsBinding g) ps → (x : ℕ) → Among (ToScalar x) ps → x < g.name_count
  parameter_within [] all x among = elim among [ ]
  parameter_within (b ∷ ps) all x front = let v = graph_valid in let low = all.0 in omega (arith, v.scalars, v.temporaries, low)
  parameter_within (b ∷ ps) all x (behind among) = parameter_within ps all.1 x among

  -- Where a recipe gives a scalar's value on all paths to a place, the scalar's shadow is known there, and it is the value of that recipe over homes.
  pub shown : (values : ℕ → Value) (shadows : ℕ → Shadow) (p : ℕ) (rest : List Instruction) (e : End) (held : ℕ → Value) → Fits h f g values shadows (Marker p ∷ rest) e held → (x : ℕ) (r : Recipe) → HoldsOnAllPaths (home_of h f) g p x r
      → (shadows x ≡ shadow.Known (shown_value h f held r)) × (is_odd (shown_value h f held r) ≡ false)
  shown values shadows p rest e held fits x r on_all =
      let is : shadows x ≡ shadow.Known (shown_value h f held r) = fits.shadows_are x ∙ noted_value home h.unit.statics names x r fits.history holds.note holds.before ∙ ap shadow.Known (sym same) in
      (is, fits.known x (shown_value h f held r) is)
    where
      home : ℕ → Home
      home = home_of h f

      names : ℕ → Value
      names = first_names g fits.arguments

      holds : Holds home g x r fits.history
      holds = on_all fits.history fits.block rest e fits.along

      own : (y : ℕ) → Among y (names_in r) → held_in h f held y ≡ values_behind names fits.history y
      own y among =
          let lt : y < g.name_count = recipe_within h.unit.statics g r y (fits.noted x r holds.note) among in
          let k : Home = home y in
          let is = home_among h homed f g of y lt in
          let first = bound_value home k g.name_count is g.parameters (λ z there. home_among h homed f g of z (parameter_within g.parameters graph_valid.bindings z there)) fits.arguments fits.as_many (λ z. Odd) (λ z. Odd) None (λ z q. absurd (none-some z q)) in
          fits.homes k is ∙ (last_value home k g.parameters (first_homes home g fits.arguments) names first fits.history y (holds.own y among)).1

      same : shown_value h f held r ≡ recipe_value h.unit.statics (values_behind names fits.history) r
      same = recipe_same h.unit.statics r (values_behind names fits.history) (held_in h f held) own

  -- ---- Instructions

  -- An instruction that neither writes nor notes was passed.
  pub fits_passed : (values : ℕ → Value) (shadows : ℕ → Shadow) (i : Instruction) (rest : List Instruction) (e : End) (held : ℕ → Value) → target_of i ≡ None → IsNoNote i → Fits h f g values shadows (i ∷ rest) e held → Fits h f g values shadows rest e held
  fits_passed values shadows i rest e held none plain fits = record {
    of = of;
    history = record { block = fits.block; left = length rest; instruction = i; wrote = Odd } ∷ fits.history;
    block = fits.block;
    arguments = fits.arguments;
    as_many = fits.as_many;
    along = path_passes g fits.history fits.block i rest e Odd fits.along;
    values_are = λ x. fits.values_are x ∙ sym (ap (λ t. name_by t Odd (values_behind (first_names g fits.arguments) fits.history) x) none);
    shadows_are = λ x. fits.shadows_are x ∙ sym (kept_shadow h.unit.statics x i (values_behind (first_names g fits.arguments) fits.history) (shadow_of h.unit.statics (first_names g fits.arguments) x fits.history) plain);
    known = fits.known;
    noted = λ x r q. fits.noted x r (sym (kept_note x i (last_note x fits.history) plain) ∙ q);
    homes = λ k is. fits.homes k is ∙ sym (ap (λ t. home_by (home_of h f) t Odd (homes_behind (home_of h f) (first_homes (home_of h f) g fits.arguments) fits.history) k) none);
    kept = λ x lt kind. fits.kept x lt (elim kind [ inl alone ↦ inl alone | inr live ↦ inr (passed (ap (λ t. option_map_or (λ y. y == x) t false) none) live) ]);
  }

  -- A name was written: another name whose value it takes may have its home, and so may one that is not read from there on before it is written.
  pub fits_written : HaveHomesApart h → (values : ℕ → Value) (shadows : ℕ → Shadow) (i : Instruction) (rest : List Instruction) (e : End) (held : ℕ → Value) (x : ℕ) (v : Value) → target_of i ≡ Some x → ((y : ℕ) → (v ≡ values y) ⊎ IsNoCopyOf x y i)
      → Fits h f g values shadows (i ∷ rest) e held → Fits h f g (with_value_at values x v) shadows rest e (with_value_at held (placed (home_of h f) x) v)
  fits_written apart values shadows i rest e held x v target copies fits = record {
    of = of;
    history = record { block = fits.block; left = length rest; instruction = i; wrote = v } ∷ fits.history;
    block = fits.block;
    arguments = fits.arguments;
    as_many = fits.as_many;
    along = path_passes g fits.history fits.block i rest e v fits.along;
    values_are = λ y. ap (λ z. if y == x then v else z) (fits.values_are y) ∙ sym (ap (λ t. name_by t v (values_behind (first_names g fits.arguments) fits.history) y) target);
    shadows_are = λ y. fits.shadows_are y ∙ sym (kept_shadow h.unit.statics y i (values_behind (first_names g fits.arguments) fits.history) (shadow_of h.unit.statics (first_names g fits.arguments) y fits.history) plain);
    known = fits.known;
    noted = λ y r q. fits.noted y r (sym (kept_note y i (last_note y fits.history) plain) ∙ q);
    homes = λ k is.
        ap (λ b. if b then v else held (home_number k)) (same_number g.name_count k (home x) is (among x low))
        ∙ ap (λ z. if is_same_home k (home x) then v else z) (fits.homes k is)
        ∙ sym (ap (λ t. home_by home t v (homes_behind home (first_homes home g fits.arguments) fits.history) k) target);
    kept = kept;
  }
    where
      home : ℕ → Home
      home = home_of h f

      plain : IsNoNote i
      plain = target_no_note x i target

      stands : Stands g fits.block (i ∷ rest) e
      stands = path_stands g fits.history fits.block (i ∷ rest) e fits.along

      low : x < g.name_count
      low = target_within h.unit g i x (instruction_valid fits.block i rest e stands) target

      among : (y : ℕ) → y < g.name_count → IsHomeAmong g.name_count (home y)
      among y lt = home_among h homed f g of y lt

      test : (y : ℕ) → y < g.name_count → (placed home y == placed home x) ≡ is_same_home (home y) (home x)
      test y lt = same_number g.name_count (home y) (home x) (among y lt) (among x low)

      -- of a name that does not share the home
      other : (y : ℕ) → y < g.name_count → is_same_home (home y) (home x) ≡ false → held_in h f held y ≡ values y → (if placed home y == placed home x then v else held_in h f held y) ≡ values y
      other y lt differ before = ap (λ b. if b then v else held_in h f held y) (test y lt ∙ differ) ∙ before

      clash : (y : ℕ) → y < g.name_count → x ≢ y → IsReadFirst g y rest e → IsNoCopyOf x y i → is_same_home (home x) (home y) ≡ false
      clash y lt ne live unlike =
          let stood : Behind g i fits.block rest e = record { block = stands.block; before = stands.before; is = stands.is; instructions = stands.instructions; ends = stands.ends } in
          let wrote : writes x i ≡ true = ap (λ t. option_map_or (λ z. z == x) t false) target ∙ eq-eqb x x refl in
          apart f g of x y low lt (ne, inl (written stood wrote unlike live))

      live_kept : (y : ℕ) → y < g.name_count → y ≢ x → IsReadFirst g y rest e → (if placed home y == placed home x then v else held_in h f held y) ≡ values y
      live_kept y lt ne live = by_test (is_same_home (home y) (home x)) refl
        where
          before : held_in h f held y ≡ values y
          before = fits.kept y lt (inr (passed (ap (λ t. option_map_or (λ z. z == y) t false) target ∙ ne_eqb x y (λ q. ne (sym q))) live))

          by_test : (b : Bool) → is_same_home (home y) (home x) ≡ b → (if placed home y == placed home x then v else held_in h f held y) ≡ values y
          by_test false q = other y lt q before
          by_test true q = elim (copies y) [
            | inl same ↦ ap (λ b. if b then v else held_in h f held y) (test y lt ∙ q) ∙ same
            | inr unlike ↦ absurd (true≢false (sym q ∙ same_turned (home y) (home x) ∙ clash y lt (λ r. ne (sym r)) live unlike))
          ]

      kept : (y : ℕ) → y < g.name_count → IsAlone h f g y ⊎ IsReadFirst g y rest e → held_in h f (with_value_at held (placed home x) v) y ≡ with_value_at values x v y
      kept y lt kind = elim (eqb_tells y x) [
        | inl t ↦ ap (λ b. if b then v else held_in h f held y) (eq-eqb (placed home y) (placed home x) (ap (placed home) t.1)) ∙ sym (ap (λ b. if b then v else values y) t.0)
        | inr t ↦ elim kind [
          | inl alone ↦ other y lt (same_turned (home y) (home x) ∙ alone x low (λ q. t.1 (sym q))) (fits.kept y lt (inl alone))
          | inr live ↦ live_kept y lt t.1 live
        ] ∙ sym (ap (λ b. if b then v else values y) t.0)
      ]
