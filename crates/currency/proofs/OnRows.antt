-- What verdicts say, row by row.
use Rattle.std.proofs.Common.{◌≡◌, inl, inr, ℕ, ◌+◌, ◌-◌, ◌<◌, ◌≤◌, Option, Some, None, List, [], ◌∷◌, ◌++◌, length, get_or, map, take, drop, refl, sym, ap, subst, ◌∙◌, arith}
use Rattle.std.specs.Prelude.{slice_get, slice_set, MatchOption}
use Rattle.std.proofs.lemmas.Bool.Decides.{eqb_tells}
use Rattle.std.proofs.lemmas.List.{get_or-set_same, get_or-set_other}
use Rattle.std.proofs.lemmas.Option.{same_Some, slice_get_within}
use Rattle.debug_records.specs.declared.change.Var as declared-var
use Rattle.places.specs.declared.table.PlaceRow as declared-place
use Rattle.places.specs.declared.table.PlaceTable as declared-table
use Rattle.graph_homes.specs.declared.home.Home.{Home}
use Rattle.graph_homes.specs.Homes.{HoldsOnAllPaths}
use Rattle.graph_core.specs.declared.recipe.Recipe as declared-recipe
use Rattle.graph_core.specs.Graphs.{Graph, Logged, Of, Name, Recipe, Is, NoteValue, recipe_view}
use Rattle.graph_core.specs.Paths.{Among}
use Rattle.graph_core.specs.WellMarked.{IsVariable}
use Rattle.graph_homes.specs.Homed.{HomedForm, home_of, homes_in}
use Rattle.currency_notes.specs.Homes.{home_in}
use Rattle.currency_notes.proofs.Lists.{among_at, among_parts, among_one, drop_end, drop_more, get_among, get_any, take_whole}
use Rattle.std.proofs.lemmas.List.{take_more}
use Rattle.currency.specs.Visible.{Sight, next, sight, sights_at, sights_from}
use Rattle.currency_shown.specs.Shown.{AreDistinct, IsHiddenAt, IsLeastAt, IsOther, IsVisible}
use Rattle.currency.specs.declared.telling.Told as declared-told
use Rattle.currency.specs.declared.telling.Told.TheVariants as told
use Rattle.currency.specs.declared.telling.ToldVariable as declared-variable
use Rattle.currency.specs.declared.told.ToldPlaces as declared-places
use Rattle.currency.specs.declared.verdict.Verdict as declared-verdict
use Rattle.currency.specs.declared.verdict.Verdict.TheVariants as verdict
use Rattle.currency.specs.declared.verdict.PlaceVerdict as declared-row
use Rattle.currency.specs.Telling.{told_at, AreRowsTold, AreSlotted, AreTold, IsNoneTold, IsRowTold, IsToldOf, IsToldRight, IsVerdictOf, IsVerdictOn}
use Rattle.currency.proofs.Distinct.{distinct_homes}
use Rattle.currency.specs.Sound.{AreApart, AreHidden, AreHome, AreLeast, AreOnly, AreReached, AreRecovered, AreSo, IsHidden, IsReached}
use Rattle.base_laws.proofs.Lists.{append_nil as more_none, take_none}

-- where a verdict hides a variable, nothing is told that shows it
hidden_told : (log : List Logged) (homes : List Home) (g : Graph) (p : ℕ) (t : declared-variable.ToldVariable) (what : declared-told.Told) (v : declared-verdict.Verdict) → IsHidden v → IsVerdictOf what v → IsToldRight log homes g p t what → AreDistinct homes → (x : ℕ) → IsVariable g x t.var.0 → IsHiddenAt (home_in homes) g p x
hidden_told log homes g p t (told.Hidden hiding) v hid of right = right
hidden_told log homes g p t (told.Recovered r c) verdict.Home hid of right = elim hid [ ]
hidden_told log homes g p t (told.Recovered r c) (verdict.Recovered s d) hid of right = elim hid [ ]
hidden_told log homes g p t (told.Recovered r c) (verdict.Noncurrent d s w q) hid of right = elim of [ ]
hidden_told log homes g p t (told.Recovered r c) (verdict.Nonresident d s w q) hid of right = elim of [ ]

-- slots of the first of what is told
abbrev pub AreSlottedTo : List declared-variable.ToldVariable → List ℕ → (count : ℕ) → Type 0
AreSlottedTo told slots count =
    (j : ℕ) (t : declared-variable.ToldVariable) → j < count → slice_get told j ≡ Some t → (k : ℕ) × (one : declared-variable.ToldVariable) × (get_or slots t.var.0 0 ≡ k + 1) × (slice_get told k ≡ Some one) × (one.var.0 ≡ t.var.0)

pub slot_next : (told : List declared-variable.ToldVariable) (slots : List ℕ) (k : ℕ) (here : declared-variable.ToldVariable) → slice_get told k ≡ Some here → here.var.0 < length slots → AreSlottedTo told slots k → AreSlottedTo told (slice_set slots here.var.0 (k + 1)) (k + 1)
slot_next told slots k here is lt before j t small at = elim (eqb_tells t.var.0 here.var.0) [
  | inl e ↦ (k, here, ap (λ v. get_or (slice_set slots here.var.0 (k + 1)) v 0) e.1 ∙ get_or-set_same slots here.var.0 (k + 1) 0 lt, is, sym e.1)
  | inr e ↦ elim (eqb_tells j k) [
    | inl q ↦ absurd (e.1 (ap (λ (z : declared-variable.ToldVariable). z.var.0) (same_Some t here (sym at ∙ ap (λ i. slice_get told i) q.1 ∙ is))))
    | inr q ↦ (let f = before j t (omega (arith, small, q.1)) at in (f.0, f.1, get_or-set_other slots here.var.0 t.var.0 (k + 1) 0 e.1 ∙ f.2, f.3, f.4))
  ]
]

pub slots_all : (told : List declared-variable.ToldVariable) (slots : List ℕ) (count : ℕ) → length told ≤ count → AreSlottedTo told slots count → AreSlotted told slots
slots_all told slots count le each t among = (let f = among_at told among in (let lt = slice_get_within told f.0 t f.1 in each f.0 t (omega (arith, le, lt)) f.1))

-- nothing is told of a variable whose slot has no such number
pub none_told : (told : List declared-variable.ToldVariable) (slots : List ℕ) (v : declared-var.Var) → AreSlotted told slots → ((k : ℕ) (one : declared-variable.ToldVariable) → get_or slots v.0 0 ≡ k + 1 → slice_get told k ≡ Some one → one.var.0 ≡ v.0 → ⊥) → IsNoneTold told v
none_told told slots v slotted none t among of =
    (let f = slotted t among in none f.0 f.1 (ap (λ k. get_or slots k 0) (sym of) ∙ f.2) f.3 (f.4 ∙ of))

-- one more verdict at a place
pub told_more : (told : List declared-variable.ToldVariable) (p : ℕ) (visible : List declared-var.Var) (old rows : List declared-row.PlaceVerdict) (w : declared-row.PlaceVerdict) → w.place.0 ≡ p → Among w.var visible → IsRowTold told w → AreTold told p visible old rows
    → AreTold told p visible old (rows ++ (w ∷ []))
told_more told p visible old rows w at among row before z there = elim (among_parts rows (w ∷ []) there) [
  | inl a ↦ before z a
  | inr b ↦ inr (subst (λ (r : declared-row.PlaceVerdict). (r.place.0 ≡ p) × Among r.var visible × IsRowTold told r) (sym (among_one b)) (at, among, row))
]

map_more : {A B : Type 0} (f : A → B) (xs : List A) (y : A) → map f (xs ++ (y ∷ [])) ≡ map f xs ++ (f y ∷ [])
map_more f [] y = refl
map_more f (x ∷ xs) y = ap (λ ys. f x ∷ ys) (map_more f xs y)

more_more : {A : Type 0} (xs ys zs : List A) → (xs ++ ys) ++ zs ≡ xs ++ (ys ++ zs)
more_more [] ys zs = refl
more_more (x ∷ xs) ys zs = ap (λ all. x ∷ all) (more_more xs ys zs)

-- one more verdict at a place, on the variable that was read
module _ (told : List declared-variable.ToldVariable) (p : ℕ) (visible : List declared-var.Var) (first rows new : List declared-row.PlaceVerdict) (k : ℕ) (d : declared-var.Var) (v : declared-verdict.Verdict) (lt : k < length visible)
    (put : new ≡ rows ++ (record { place = record { 0 = p }; var = get_or visible k d; verdict = v } ∷ [])) where
  pub told_next : (what : Option declared-variable.ToldVariable) → MatchOption what (IsNoneTold told (get_or visible k d)) (λ t. IsToldOf told (get_or visible k d) t) → IsVerdictOn what v → AreTold told p visible first rows → AreTold told p visible first new
  told_next what is verdict before =
      subst (λ (all : List declared-row.PlaceVerdict). AreTold told p visible first all) (sym put)
      (told_more told p visible first rows (record { place = record { 0 = p }; var = get_or visible k d; verdict = v }) refl (get_among visible k (get_or visible k d) lt (get_any visible k d (get_or visible k d) lt)) (record { what = what; is = is; verdict = verdict }) before)

  pub sights_next : (before : List Sight) → map sight rows ≡ before ++ sights_at p (take k visible) → map sight new ≡ before ++ sights_at p (take (k + 1) visible)
  sights_next before e =
      ap (map sight) put ∙ map_more sight rows (record { place = record { 0 = p }; var = get_or visible k d; verdict = v }) ∙ ap (λ (all : List Sight). all ++ (record { place = p; variable = (get_or visible k d).0 } ∷ [])) e
      ∙ more_more before (sights_at p (take k visible)) (record { place = p; variable = (get_or visible k d).0 } ∷ [])
      ∙ ap (λ (all : List Sight). before ++ all) (sym (map_more (λ (w : declared-var.Var). record { place = p; variable = w.0 }) (take k visible) (get_or visible k d)))
      ∙ ap (λ vars. before ++ sights_at p vars) (sym (take_more visible k d lt))

pub sights_first : (p : ℕ) (visible : List declared-var.Var) (rows : List declared-row.PlaceVerdict) → map sight rows ≡ map sight rows ++ sights_at p (take 0 visible)
sights_first p visible rows = sym (ap (λ vars. map sight rows ++ sights_at p vars) (take_none visible) ∙ more_none (map sight rows))

pub sights_all : (p : ℕ) (visible : List declared-var.Var) (k : ℕ) (before after : List Sight) → length visible ≤ k → after ≡ before ++ sights_at p (take k visible) → after ≡ before ++ sights_at p visible
sights_all p visible k before after le e = e ∙ ap (λ vars. before ++ sights_at p vars) (take_whole visible k le)

-- the variables of one more place
pub sights_more : (p q : ℕ) (rows new : List declared-row.PlaceVerdict) (all : List declared-place.PlaceRow) (k : ℕ) (row : declared-place.PlaceRow) (visible : List declared-var.Var) (whole : List Sight) → k < length all → row ≡ get_or all k row → visible ≡ row.visible.items
    → map sight new ≡ map sight rows ++ sights_at p visible → q ≡ next p → map sight rows ++ sights_from p (drop k all) ≡ whole → map sight new ++ sights_from q (drop (k + 1) all) ≡ whole
sights_more p q rows new all k row visible whole lt is same more number before =
    ap (λ l. l ++ sights_from q (drop (k + 1) all)) more ∙ ap (λ n. (map sight rows ++ sights_at p visible) ++ sights_from n (drop (k + 1) all)) number
    ∙ ap (λ vars. (map sight rows ++ sights_at p vars) ++ sights_from (next p) (drop (k + 1) all)) same
    ∙ more_more (map sight rows) (sights_at p row.visible.items) (sights_from (next p) (drop (k + 1) all)) ∙ ap (λ (l : List declared-place.PlaceRow). map sight rows ++ sights_from p l) (sym (drop_more all k row lt is)) ∙ before

pub sights_done : (p : ℕ) (rows : List declared-row.PlaceVerdict) (all : List declared-place.PlaceRow) (k : ℕ) (whole : List Sight) → length all ≤ k → map sight rows ++ sights_from p (drop k all) ≡ whole → map sight rows ≡ whole
sights_done p rows all k whole le e = sym (more_none (map sight rows)) ∙ sym (ap (λ (l : List declared-place.PlaceRow). map sight rows ++ sights_from p l) (drop_end all k le)) ∙ e

pub other_by_slot : (told : List declared-variable.ToldVariable) (slots : List ℕ) (v : declared-var.Var) (number : ℕ) (one : declared-variable.ToldVariable) → AreSlotted told slots → number ≡ get_or slots v.0 0 → slice_get told (number - 1) ≡ Some one → (one.var.0 ≡ v.0 → ⊥) → IsNoneTold told v
other_by_slot told slots v number one slotted is at other = none_told told slots v slotted (λ k two e there of.
    (let same : number - 1 ≡ k = omega (arith, is, e) in
    other (ap (λ (z : declared-variable.ToldVariable). z.var.0) (same_Some one two (sym at ∙ ap (λ n. slice_get told n) same ∙ there)) ∙ of)))

-- the verdicts of one more place
pub rows_more : (table : declared-table.PlaceTable) (told : declared-places.ToldPlaces) (p : ℕ) (row : declared-place.PlaceRow) (old new : List declared-row.PlaceVerdict) → slice_get table.rows.items p ≡ Some row → AreRowsTold table told old
    → AreTold (told_at told (p + 1)) (p + 1) row.visible.items old new → AreRowsTold table told new
rows_more table told p row old new is before more w there = elim (more w there) [ inl a ↦ before w a | inr b ↦ one b.0 b.1 b.2 ]
  where
    one : w.place.0 ≡ p + 1 → Among w.var row.visible.items → IsRowTold (told_at told (p + 1)) w → IsVisible table w.place.0 w.var.0 × IsRowTold (told_at told w.place.0) w
    one at among what = (
      record { row = row; var = w.var; some = omega (arith, at); is = (let e : w.place.0 - 1 ≡ p = omega (arith, at) in ap (λ k. slice_get table.rows.items k) e ∙ is); among = among; of = refl },
      subst (λ k. IsRowTold (told_at told k) w) (sym at) what,
    )

-- What verdicts say is so on all paths.
module _ (u : HomedForm) (table : declared-table.PlaceTable) (found : declared-places.ToldPlaces) (rows : List declared-row.PlaceVerdict) (so : AreSo u table found) (each : AreRowsTold table found rows) where
  not_hidden : (what : declared-told.Told) (v : declared-verdict.Verdict) → v ≡ verdict.Home → IsVerdictOf what v → ⊥
  not_hidden (told.Recovered r c) v e of = subst (λ (z : declared-verdict.Verdict). IsVerdictOf (told.Recovered r c) z) e of
  not_hidden (told.Hidden cause) v e of = subst (λ (z : declared-verdict.Verdict). IsVerdictOf (told.Hidden cause) z) e of

  pub are_home : AreHome u rows
  are_home w among home f x g at is = at_what row.what row.is row.verdict
    where
      visible : IsVisible table w.place.0 w.var.0
      visible = (each w among).0

      row : IsRowTold (told_at found w.place.0) w
      row = (each w among).1

      at_what : (o : Option declared-variable.ToldVariable) → MatchOption o (IsNoneTold (told_at found w.place.0) w.var) (λ t. IsToldOf (told_at found w.place.0) w.var t) → IsVerdictOn o w.verdict → HoldsOnAllPaths (home_of u f) g w.place.0 x (Of (Name x))
      at_what None none v = elim (so.own f g w.place.0 x w.var.0 (slice_get_within u.unit.graphs f g at) at is visible) [ inl a ↦ a | inr b ↦ absurd (none b.t b.among b.of) ]
      at_what (Some t) of v = absurd (not_hidden t.told w.verdict home v)

  -- a recipe that is given holds on all paths, is not the variable's own value, and has the least change
  abbrev IsGiven : (f p x : ℕ) → Graph → Recipe → (change : ℕ) → Type 0
  IsGiven f p x g r c = HoldsOnAllPaths (home_of u f) g p x r × IsOther g p x r × IsLeastAt u.unit.log g p x (Some c)

  is_right : (what : declared-told.Told) (r : declared-recipe.Recipe) (c : ℕ) (p : ℕ) (t : declared-variable.ToldVariable) (f x : ℕ) (g : Graph) → IsVerdictOf what (verdict.Recovered r c) → IsToldRight u.unit.log (homes_in u f) g p t what → IsVariable g x t.var.0
      → IsGiven f p x g (recipe_view r) c
  is_right (told.Recovered s d) r c p t f x g of right is = subst (λ k. IsGiven f p x g (recipe_view r) k) of.1 (subst (λ (q : Recipe). IsGiven f p x g q d) of.0 (right x is))
  is_right (told.Hidden cause) r c p t f x g v right is = elim v [ ]

  -- a recipe that is given, by what is told
  is_given : (w : declared-row.PlaceVerdict) (r : declared-recipe.Recipe) (c : ℕ) → Among w rows → w.verdict ≡ verdict.Recovered r c → (f x : ℕ) (g : Graph) → slice_get u.unit.graphs f ≡ Some g → IsVariable g x w.var.0
      → IsGiven f w.place.0 x g (recipe_view r) c
  is_given w r c among is f x g at variable = at_what row.what row.is row.verdict
    where
      row : IsRowTold (told_at found w.place.0) w
      row = (each w among).1

      home_recovered : verdict.Recovered r c ≡ verdict.Home → ⊥
      home_recovered e = cc

      at_what : (o : Option declared-variable.ToldVariable) → MatchOption o (IsNoneTold (told_at found w.place.0) w.var) (λ t. IsToldOf (told_at found w.place.0) w.var t) → IsVerdictOn o w.verdict
          → IsGiven f w.place.0 x g (recipe_view r) c
      at_what None none v = absurd (home_recovered (sym is ∙ v))
      at_what (Some t) of v =
          is_right t.told r c w.place.0 t f x g (subst (λ (z : declared-verdict.Verdict). IsVerdictOf t.told z) is v) (so.right w.place.0 t f g of.0 (slice_get_within u.unit.graphs f g at) at) (subst (λ k. IsVariable g x k) (sym of.1) variable)

  pub are_recovered : AreRecovered u rows
  are_recovered w r c among is f x g at variable = (is_given w r c among is f x g at variable).0

  pub are_least : AreLeast u rows
  are_least w r c among is f x g at variable = (is_given w r c among is f x g at variable).2

  -- the recipe that a note says
  abbrev recipe_in : NoteValue → Recipe → Recipe
  recipe_in (Is q) d = q
  recipe_in _ d = d

  pub are_only : AreOnly u rows
  are_only w r c among is f x g at variable h n rest e way other holds =
      let given = (is_given w r c among is f x g at variable).0 in
      let noted : Is other ≡ Is (recipe_view r) = same_Some (Is other) (Is (recipe_view r)) (sym (holds h n rest e way).note ∙ (given h n rest e way).note) in
      ap (λ (v : NoteValue). recipe_in v other) noted

  pub are_apart : AreApart u rows
  are_apart w r c among is f x g at variable h n rest e way own = (is_given w r c among is f x g at variable).1 h n rest e way (sym (are_only w r c among is f x g at variable h n rest e way (Of (Name x)) own))

  pub are_reached : AreReached u rows
  are_reached w among other = at_what row.what row.is row.verdict
    where
      row : IsRowTold (told_at found w.place.0) w
      row = (each w among).1

      at_what : (o : Option declared-variable.ToldVariable) → MatchOption o (IsNoneTold (told_at found w.place.0) w.var) (λ t. IsToldOf (told_at found w.place.0) w.var t) → IsVerdictOn o w.verdict → IsReached u w.place.0
      at_what None none v = absurd (other v)
      at_what (Some t) of v = so.reached w.place.0 t of.0

  pub are_hidden : AreHidden u rows
  are_hidden w among hid homed f x g at some few variable = at_what row.what row.is row.verdict
    where
      row : IsRowTold (told_at found w.place.0) w
      row = (each w among).1

      no_home : w.verdict ≡ verdict.Home → ⊥
      no_home e = subst (λ (v : declared-verdict.Verdict). IsHidden v) e hid

      at_what : (o : Option declared-variable.ToldVariable) → MatchOption o (IsNoneTold (told_at found w.place.0) w.var) (λ t. IsToldOf (told_at found w.place.0) w.var t) → IsVerdictOn o w.verdict → IsHiddenAt (home_of u f) g w.place.0 x
      at_what None none v = absurd (no_home v)
      at_what (Some t) of v =
          hidden_told u.unit.log (homes_in u f) g w.place.0 t t.told w.verdict hid v (so.right w.place.0 t f g of.0 (slice_get_within u.unit.graphs f g at) at) (distinct_homes u f g homed at some few) x (subst (λ k. IsVariable g x k) (sym of.1) variable)
