-- Notes, the blocks to which control goes, and the beginnings of functions keep what names, shadows and homes hold.
use Rattle.std.proofs.Common.{◌≡◌, ◌≢◌, ℕ, ◌<◌, ◌⊎◌, inl, inr, Bool, true, false, true≢false, Some, List, [], ◌∷◌, length, map, refl, sym, ap, ◌∙◌, subst}
use Rattle.std.specs.Prelude.{◌==◌, if◌then◌else◌, slice_get}
use Rattle.std.proofs.lemmas.Bool.{eq-eqb, ne_eqb, or_left, or_right, or_cases, eqb-true}
use Rattle.std.proofs.lemmas.Bool.Decides.{eqb_tells}
use Rattle.std.proofs.lemmas.Option.{none-some, same_Some}
use Rattle.graph_homes.specs.declared.home.Home.{Home}
use Rattle.graph_core.specs.declared.value.Value.{Value}
use Rattle.graph_core.specs.declared.value.Value.TheVariants.{Odd}
use Rattle.graph_core.specs.declared.value.Shadow.{Shadow}
use Rattle.graph_core.specs.declared.value.Shadow.TheVariants as shadow
use Rattle.graph_core.specs.Graphs.{Recipe, NoteValue, Is, Gone, Instruction, Note, End, Block, Binding, ToScalar, ToObject, Graph}
use Rattle.graph_core.specs.Uses.{targets_of}
use Rattle.graph_core.specs.Paths.{Among, front, behind, stays, path, is_bound, last_note}
use Rattle.graph_core.specs.Validity.{AreOperandsOf, IsValid}
use Rattle.graph_core.specs.Values.{is_odd}
use Rattle.graph_core.specs.Histories.{values_behind, shadow_by, shadow_of}
use Rattle.graph_core.specs.Runs.{with_value_at, recipe_value, bind_names}
use Rattle.graph_homes.specs.Homed.{HomedForm, HaveHomes, home_of, placed, placed_binding}
use Rattle.graph_solve_live.specs.Live.{IsReadFirst, passed, onward}
use Rattle.home_assign.specs.Clashes.{bound}
use Rattle.home_assign.specs.Rule.{HaveHomesApart}
use Rattle.home_assign.specs.Alike.{IsAlone}
use Rattle.home_assign.proofs.Fits.{Fits, first_names, path_passes, path_goes, parameter_within, graph_valid}
use Rattle.home_assign.proofs.Lists.{among_contained}
use Rattle.home_assign.proofs.HomeRunsNumbers.{same_number, same_turned, home_among}
use Rattle.home_assign.proofs.Values.{recipe_same}

-- a scalar to which a parameter is bound
bound_among : (x : ℕ) (ps : List Binding) → is_bound x ps ≡ true → Among (ToScalar x) ps
bound_among x [] is = absurd (true≢false (sym is))
bound_among x (ToScalar y ∷ ps) is = elim (or_cases (y == x) (is_bound x ps) is) [
  | inl e ↦ subst (λ z. Among (ToScalar x) (ToScalar z ∷ ps)) (sym (eqb-true y x e)) front
  | inr later ↦ behind (bound_among x ps later)
]
bound_among x (ToObject object ∷ ps) is = behind (bound_among x ps is)

-- a home that no other parameter has
bound_kept : (home : ℕ → Home) (ps : List Binding) (vs : List Value) (names held : ℕ → Value) (x : ℕ) → ((z : ℕ) → is_bound z ps ≡ true → z ≢ x → (placed home x == placed home z) ≡ false) → held (placed home x) ≡ names x
    → bind_names (map (placed_binding home) ps) vs held (placed home x) ≡ bind_names ps vs names x
bound_kept home [] vs names held x apart same = same
bound_kept home (b ∷ ps) [] names held x apart same = same
bound_kept home (ToObject object ∷ ps) (v ∷ vs) names held x apart same = bound_kept home ps vs names held x apart same
bound_kept home (ToScalar z ∷ ps) (v ∷ vs) names held x apart same = bound_kept home ps vs (with_value_at names z v) (with_value_at held (placed home z) v) x (λ y is. apart y (or_right (z == y) (is_bound y ps) is)) both
  where
    both : with_value_at held (placed home z) v (placed home x) ≡ with_value_at names z v x
    both = elim (eqb_tells x z) [
      | inl t ↦ ap (λ b. if b then v else held (placed home x)) (eq-eqb (placed home x) (placed home z) (ap (placed home) t.1)) ∙ sym (ap (λ b. if b then v else names x) t.0)
      | inr t ↦ ap (λ b. if b then v else held (placed home x)) (apart z (or_left (z == z) (is_bound z ps) (eq-eqb z z refl)) (λ e. t.1 (sym e))) ∙ same ∙ sym (ap (λ b. if b then v else names x) t.0)
    ]

module _ (h : HomedForm) (valid : IsValid h.unit) (homed : HaveHomes h) (f : ℕ) (g : Graph) (of : slice_get h.unit.graphs f ≡ Some g) where
  -- A note was passed.
  noted_by : (values : ℕ → Value) (shadows : ℕ → Shadow) (x : ℕ) (n : NoteValue) (s : Shadow) (rest : List Instruction) (e : End) (held : ℕ → Value) (fits : Fits h f g values shadows (Note x n ∷ rest) e held)
      → ((y : ℕ) (before : Shadow) → (if x == y then s else before) ≡ shadow_by h.unit.statics y (Note x n) (values_behind (first_names g fits.arguments) fits.history) before) → ((v : Value) → s ≡ shadow.Known v → is_odd v ≡ false)
      → ((r : Recipe) → n ≡ Is r → AreOperandsOf h.unit.statics g r) → Fits h f g values (with_value_at shadows x s) rest e held
  noted_by values shadows x n s rest e held fits says whole operands = record {
    of = of;
    history = record { block = fits.block; left = length rest; instruction = Note x n; wrote = Odd } ∷ fits.history;
    block = fits.block;
    arguments = fits.arguments;
    as_many = fits.as_many;
    along = path_passes g fits.history fits.block (Note x n) rest e Odd fits.along;
    values_are = fits.values_are;
    shadows_are = λ y. ap (λ b. if b then s else shadows y) (turned y) ∙ ap (λ z. if x == y then s else z) (fits.shadows_are y) ∙ says y (shadow_of h.unit.statics (first_names g fits.arguments) y fits.history);
    known = λ y v. at_known y v (y == x);
    noted = λ y r. at_noted y r (x == y);
    homes = fits.homes;
    kept = λ y lt kind. fits.kept y lt (elim kind [ inl alone ↦ inl alone | inr live ↦ inr (passed refl live) ]);
  }
    where
      turned : (y : ℕ) → (y == x) ≡ (x == y)
      turned y = elim (eqb_tells y x) [ inl t ↦ t.0 ∙ sym (eq-eqb x y (sym t.1)) | inr t ↦ t.0 ∙ sym (ne_eqb x y (λ q. t.1 (sym q))) ]

      at_known : (y : ℕ) (v : Value) (b : Bool) → (if b then s else shadows y) ≡ shadow.Known v → is_odd v ≡ false
      at_known y v true q = whole v q
      at_known y v false q = fits.known y v q

      at_noted : (y : ℕ) (r : Recipe) (b : Bool) → (if b then Some n else last_note y fits.history) ≡ Some (Is r) → AreOperandsOf h.unit.statics g r
      at_noted y r true q = operands r (same_Some n (Is r) q)
      at_noted y r false q = fits.noted y r q

  pub fits_gone : (values : ℕ → Value) (shadows : ℕ → Shadow) (x change : ℕ) (rest : List Instruction) (e : End) (held : ℕ → Value) → Fits h f g values shadows (Note x (Gone change) ∷ rest) e held → Fits h f g values (with_value_at shadows x shadow.Gone) rest e held
  fits_gone values shadows x change rest e held fits = noted_by values shadows x (Gone change) shadow.Gone rest e held fits (λ y before. refl) (λ v q. cc) (λ r q. cc)

  pub fits_noted : (values : ℕ → Value) (shadows : ℕ → Shadow) (x : ℕ) (r : Recipe) (rest : List Instruction) (e : End) (held : ℕ → Value) → is_odd (recipe_value h.unit.statics values r) ≡ false → AreOperandsOf h.unit.statics g r
      → Fits h f g values shadows (Note x (Is r) ∷ rest) e held → Fits h f g values (with_value_at shadows x (shadow.Known (recipe_value h.unit.statics values r))) rest e held
  fits_noted values shadows x r rest e held whole operands fits =
      noted_by values shadows x (Is r) (shadow.Known (recipe_value h.unit.statics values r)) rest e held fits
      (λ y before. ap (λ v. if x == y then shadow.Known v else before) (recipe_same h.unit.statics r (values_behind (first_names g fits.arguments) fits.history) values (λ z among. fits.values_are z)))
      (λ v q. let same : recipe_value h.unit.statics values r ≡ v = cc in ap is_odd (sym same) ∙ whole)
      (λ s q. let same : r ≡ s = cc in subst (AreOperandsOf h.unit.statics g) same operands)

  -- Control went from the end of a block to another one.
  pub fits_entered : (values : ℕ → Value) (shadows : ℕ → Shadow) (e : End) (held : ℕ → Value) (l : ℕ) (b : Block) → Among l (targets_of e) → slice_get g.blocks l ≡ Some b → Fits h f g values shadows [] e held
      → Fits h f g values shadows b.instructions b.end held
  fits_entered values shadows e held l b among at fits = record {
    of = of;
    history = fits.history;
    block = l;
    arguments = fits.arguments;
    as_many = fits.as_many;
    along = path_goes g fits.history fits.block e l b among at fits.along;
    values_are = fits.values_are;
    shadows_are = fits.shadows_are;
    known = fits.known;
    noted = fits.noted;
    homes = fits.homes;
    kept = λ x lt kind. fits.kept x lt (elim kind [ inl alone ↦ inl alone | inr live ↦ inr (onward l b (among_contained l (targets_of e) among) at live) ]);
  }

  -- A function began.
  pub fits_begun : HaveHomesApart h → (vs : List Value) → length vs ≡ length g.parameters → (b : Block) → slice_get g.blocks 0 ≡ Some b
      → Fits h f g (first_names g vs) (λ x. shadow.Gone) b.instructions b.end (bind_names (map (placed_binding (home_of h f)) g.parameters) vs (λ x. Odd))
  fits_begun apart vs long b at = record {
    of = of;
    history = [];
    block = 0;
    arguments = vs;
    as_many = long;
    along = path b at stays;
    values_are = λ x. refl;
    shadows_are = λ x. refl;
    known = λ x v q. cc;
    noted = λ x r q. absurd (none-some (Is r) q);
    homes = λ k is. refl;
    kept = λ x lt kind. bound_kept (home_of h f) g.parameters vs (λ y. Odd) (λ y. Odd) x (λ z is ne. differ x lt kind z is ne) refl;
  }
    where
      differ : (x : ℕ) → x < g.name_count → IsAlone h f g x ⊎ IsReadFirst g x b.instructions b.end → (z : ℕ) → is_bound z g.parameters ≡ true → z ≢ x → (placed (home_of h f) x == placed (home_of h f) z) ≡ false
      differ x lt kind z is ne =
          let low : z < g.name_count = parameter_within h valid homed f g of g.parameters (graph_valid h valid homed f g of).bindings z (bound_among z g.parameters is) in
          same_number g.name_count (home_of h f x) (home_of h f z) (home_among h homed f g of x lt) (home_among h homed f g of z low) ∙ same_turned (home_of h f x) (home_of h f z)
          ∙ elim kind [
            | inl alone ↦ alone z low ne
            | inr live ↦ apart f g of z x low lt (ne, inl (bound is at live))
          ]
