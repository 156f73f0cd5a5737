-- What is met and told of goes on.
use mathlib.Core.Bool.{true≢false}
use Rattle.std.proofs.Common.{◌≡◌, ◌≢◌, inl, inr, ℕ, ◌<◌, true, false, Option, Some, List, [], ◌∷◌, ◌++◌, length, get_or, refl, sym, ap, subst, ◌∙◌}
use Rattle.std.specs.Prelude.{slice_get, slice_set, ◌⊎◌}
use Rattle.std.specs.Global.{Vec}
use Rattle.std.proofs.lemmas.Bool.Decides.{eqb_tells}
use Rattle.std.proofs.lemmas.List.{get_or-set_same, get_or-set_other, length-set}
use Rattle.std.proofs.lemmas.Option.{same_Some}
use Rattle.places.specs.declared.table.PlaceRow as declared-row
use Rattle.graph_core.specs.Graphs.{graph_view}
use Rattle.graph_core.specs.Paths.{Among, front}
use Rattle.std.specs.Option.{option_map_or}
use Rattle.currency_notes.proofs.Lists.{among_left, among_one, among_parts, among_right, get_put_other, get_put_same}
use Rattle.currency_notes.specs.declared.homes.Homes as declared-homes
use Rattle.currency_notes.specs.declared.state.State as declared-state
use Rattle.currency_shown.specs.declared.found.Unshown as declared-unshown
use Rattle.currency_shown.specs.declared.found.Found as declared-found
use Rattle.currency_shown.specs.declared.survey.Survey as declared-survey
use Rattle.currency_shown.specs.Found.{entries_of, is_met, AreOnlyOf, IsPlaceOf, IsPlaceReached, IsShownBy, IsTold, IsAdded, IsNewPlace, Shows}
use Rattle.currency_shown.specs.Survey.{AreMet, IsExtended, IsFound, IsMetWith}
use Rattle.base_laws.proofs.Booleans.{by_bool}

pub extended_same : (v : declared-survey.Survey) (f : declared-found.Found) → AreMet v f → IsExtended v f f
extended_same v f all = record { met = λ p e. e; kept = λ x u there. there; only = λ x u there. inl there; all = all }

pub extended_on : (v : declared-survey.Survey) (f g h : declared-found.Found) → IsExtended v f g → IsExtended v g h → IsExtended v f h
extended_on v f g h one two = record {
  met = λ p e. two.met p (one.met p e);
  kept = λ x u there. two.kept x u (one.kept x u there);
  only = λ x u there. elim (two.only x u there) [
    | inl a ↦ one.only x u a
    | inr b ↦ by_bool (is_met f u.place.0) (λ e. absurd (true≢false (sym (one.met u.place.0 e) ∙ b))) (λ e. inr e)
  ];
  all = two.all;
}

-- what is found at a place stays
pub found_on : (v : declared-survey.Survey) (f g : declared-found.Found) (s : declared-state.State) (p : ℕ) → IsExtended v f g → IsFound v f s p → IsFound v g s p
found_on v f g s p more here = record {
  row = here.row;
  some = here.some;
  is = here.is;
  of = here.of;
  met = more.met p here.met;
  told = λ var x among number. elim (here.told var x among number) [ inl a ↦ inl a | inr b ↦ inr (b.0, more.kept x b.0 b.1, b.2) ];
  shown = λ x u there at. elim (more.only x u there) [
    | inl a ↦ here.shown x u a at
    | inr b ↦ absurd (true≢false (sym here.met ∙ sym (ap (λ q. is_met f q) at) ∙ b))
  ];
  apart = λ x u there at. elim (more.only x u there) [
    | inl a ↦ here.apart x u a at
    | inr b ↦ absurd (true≢false (sym here.met ∙ sym (ap (λ q. is_met f q) at) ∙ b))
  ];
}

-- a place that is new
module _ (v : declared-survey.Survey) (f g : declared-found.Found) (s : declared-state.State) (p : ℕ) (new : IsNewPlace v.function.now.homes s v.numbering v.table.now p f g) (all : AreMet v f) (placed : IsPlaceOf v.table.now v.number p) (reached : IsPlaceReached (graph_view v.function.now.graph.now) p) where
  met_more : (q : ℕ) → is_met f q ≡ true → is_met g q ≡ true
  met_more q e = ap (λ xs. get_or xs q false) new.met ∙ elim (eqb_tells q p) [
    | inl a ↦ ap (λ n. get_or (slice_set f.met.items p true) n false) a.1 ∙ get_or-set_same f.met.items p true false new.room
    | inr b ↦ get_or-set_other f.met.items p q true false b.1 ∙ e
  ]

  met_here : is_met g p ≡ true
  met_here = ap (λ xs. get_or xs p false) new.met ∙ get_or-set_same f.met.items p true false new.room

  pub extended_new : IsExtended v f g
  extended_new = record {
    met = met_more;
    kept = new.added.kept;
    only = λ x u there. elim (new.added.only x u there) [ inl a ↦ inl a | inr b ↦ inr (ap (λ q. is_met f q) b.0 ∙ new.fresh) ];
    all = record {
      each = λ x u there. elim (new.added.only x u there) [
        | inl a ↦ met_on u.place.0 x (all.each x u a)
        | inr b ↦ elim (new.only x u there) [
          | inl a ↦ met_on u.place.0 x (all.each x u a)
          | inr seen ↦ subst (λ q. IsMetWith v g x q) (sym b.0) (met_here, placed, reached, record { row = new.row; is = new.is; seen = seen })
        ]
      ];
      places = ap (λ xs. length xs) new.met ∙ length-set f.met.items p true ∙ all.places;
      scalars = new.added.size ∙ all.scalars;
    };
  }
    where
      met_on : (q x : ℕ) → IsMetWith v f x q → IsMetWith v g x q
      met_on q x met = (met_more q met.0, met.1, met.2, met.3)

  pub found_new : IsFound v g s p
  found_new = record {
    row = new.row;
    some = new.some;
    is = new.is;
    of = ap (λ (r : declared-row.PlaceRow). r.function) (same_Some new.row placed.row (sym new.is ∙ placed.is)) ∙ placed.of;
    met = met_here;
    told = new.told;
    shown = λ x u there at. elim (new.added.only x u there) [
      | inl a ↦ absurd (true≢false (sym (all.each x u a).0 ∙ ap (λ q. is_met f q) at ∙ new.fresh))
      | inr b ↦ b.1
    ];
    apart = λ x u there at. elim (new.added.only x u there) [
      | inl a ↦ absurd (true≢false (sym (all.each x u a).0 ∙ ap (λ q. is_met f q) at ∙ new.fresh))
      | inr b ↦ b.2
    ];
  }

-- what shows scalars at a place, one after the other
module _ (m : declared-homes.Homes) (s : declared-state.State) (p : ℕ) where
  pub added_same : (all : List (Vec declared-unshown.Unshown)) → IsAdded m s p all all
  added_same all = record { size = refl; kept = λ x u there. there; only = λ x u there. inl there }

  pub added_on : (a b c : List (Vec declared-unshown.Unshown)) → IsAdded m s p a b → IsAdded m s p b c → IsAdded m s p a c
  added_on a b c one two = record {
    size = two.size ∙ one.size;
    kept = λ x u there. two.kept x u (one.kept x u there);
    only = λ x u there. elim (two.only x u there) [ inl f ↦ one.only x u f | inr f ↦ inr f ];
  }

  pub told_on : (a b : List (Vec declared-unshown.Unshown)) (x : ℕ) → IsAdded m s p a b → IsTold m s p a x → IsTold m s p b x
  told_on a b x more told = elim told [ inl f ↦ inl f | inr f ↦ inr (f.0, more.kept x f.0 f.1, f.2) ]

  -- an entry of a scalar
  module _ (old new : List (Vec declared-unshown.Unshown)) (x : ℕ) (v w : Vec declared-unshown.Unshown) (u : declared-unshown.Unshown) (lt : x < length old) (is : slice_get old x ≡ Some v) (put : new ≡ slice_set old x w) (more : w.items ≡ v.items ++ (u ∷ []))
      (at : u.place.0 ≡ p) (shows : Shows m s x u.last) (apart : IsShownBy m s x → ⊥) where
    entries_there : entries_of new x ≡ v.items ++ (u ∷ [])
    entries_there = ap (λ all. entries_of all x) put ∙ ap (λ (o : Option (Vec declared-unshown.Unshown)). option_map_or (λ z. z.items) o []) (get_put_same old x w lt) ∙ more

    entries_before : entries_of old x ≡ v.items
    entries_before = ap (λ (o : Option (Vec declared-unshown.Unshown)). option_map_or (λ z. z.items) o []) is

    entries_other : (y : ℕ) → y ≢ x → entries_of new y ≡ entries_of old y
    entries_other y other = ap (λ all. entries_of all y) put ∙ ap (λ (o : Option (Vec declared-unshown.Unshown)). option_map_or (λ z. z.items) o []) (get_put_other old x w y other)

    kept_there : (z : declared-unshown.Unshown) → Among z (entries_of old x) → Among z (entries_of new x)
    kept_there z there = subst (λ l. Among z l) (sym entries_there) (among_left v.items (u ∷ []) (subst (λ l. Among z l) entries_before there))

    only_there : (z : declared-unshown.Unshown) → Among z (entries_of new x) → Among z (entries_of old x) ⊎ ((z.place.0 ≡ p) × Shows m s x z.last × (IsShownBy m s x → ⊥))
    only_there z there = elim (among_parts v.items (u ∷ []) (subst (λ l. Among z l) entries_there there)) [
      | inl f ↦ inl (subst (λ l. Among z l) (sym entries_before) f)
      | inr f ↦ inr (subst (λ (q : declared-unshown.Unshown). (q.place.0 ≡ p) × Shows m s x q.last × (IsShownBy m s x → ⊥)) (sym (among_one f)) (at, shows, apart))
    ]

    pub added_one : IsAdded m s p old new
    added_one = record {
      size = ap (λ (all : List (Vec declared-unshown.Unshown)). length all) put ∙ length-set old x w;
      kept = λ y z there. elim (eqb_tells y x) [
        | inl e ↦ subst (λ k. Among z (entries_of new k)) (sym e.1) (kept_there z (subst (λ k. Among z (entries_of old k)) e.1 there))
        | inr e ↦ subst (λ l. Among z l) (sym (entries_other y e.1)) there
      ];
      only = λ y z there. elim (eqb_tells y x) [
        | inl e ↦ subst (λ k. Among z (entries_of old k) ⊎ ((z.place.0 ≡ p) × Shows m s k z.last × (IsShownBy m s k → ⊥))) (sym e.1) (only_there z (subst (λ k. Among z (entries_of new k)) e.1 there))
        | inr e ↦ inl (subst (λ l. Among z l) (entries_other y e.1) there)
      ];
    }

    pub told_one : IsTold m s p new x
    told_one = inr (u, subst (λ l. Among u l) (sym entries_there) (among_right v.items (u ∷ []) front), at)

    -- and it is one of that scalar alone
    pub only_one : AreOnlyOf (λ y. y ≡ x) old new
    only_one y z there = elim (eqb_tells y x) [ inl e ↦ inr e.1 | inr e ↦ inl (subst (λ l. Among z l) (entries_other y e.1) there) ]

-- entries of some scalars alone, one list after the other
pub only_same : (Is : ℕ → Type 0) (all : List (Vec declared-unshown.Unshown)) → AreOnlyOf Is all all
only_same Is all x u there = inl there

pub only_on : (Is : ℕ → Type 0) (a b c : List (Vec declared-unshown.Unshown)) → AreOnlyOf Is a b → AreOnlyOf Is b c → AreOnlyOf Is a c
only_on Is a b c one two x u there = elim (two x u there) [ inl f ↦ one x u f | inr f ↦ inr f ]

pub only_of : (Is Are : ℕ → Type 0) (a b : List (Vec declared-unshown.Unshown)) → ((x : ℕ) → Is x → Are x) → AreOnlyOf Is a b → AreOnlyOf Are a b
only_of Is Are a b each one x u there = elim (one x u there) [ inl f ↦ inl f | inr f ↦ inr (each x f) ]

-- what was met behind a place that is new
pub met_cases : (v : declared-survey.Survey) (f g : declared-found.Found) (s : declared-state.State) (p : ℕ) → IsNewPlace v.function.now.homes s v.numbering v.table.now p f g → (q : ℕ) → is_met g q ≡ true → (is_met f q ≡ true) ⊎ (p ≡ q)
met_cases v f g s p new q e = elim (eqb_tells q p) [
  | inl a ↦ inr (sym a.1)
  | inr b ↦ inl (sym (get_or-set_other f.met.items p q true false b.1) ∙ ap (λ xs. get_or xs q false) (sym new.met) ∙ e)
]
