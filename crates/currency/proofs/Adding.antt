-- One thing more is told.
use Rattle.std.proofs.Common.{◌≡◌, ◌≢◌, inl, inr, ℕ, ◌<◌, Option, Some, None, List, [], ◌∷◌, ◌++◌, length, refl, sym, ap, subst, ◌∙◌}
use Rattle.std.specs.Prelude.{slice_get, slice_set, ◌⊎◌}
use Rattle.std.specs.Option.{option_map_or}
use Rattle.std.specs.Global.{Vec}
use Rattle.std.proofs.lemmas.Bool.Decides.{eqb_tells}
use Rattle.debug_records.specs.declared.change.Var as declared-var
use Rattle.graph_core.specs.Paths.{Among, front}
use Rattle.currency_notes.proofs.Lists.{among_left, among_one, among_parts, among_right, get_put_other, get_put_same}
use Rattle.debug_records.specs.declared.change.Place.{Place}
use Rattle.graph_core.specs.declared.recipe.Recipe as declared-recipe
use Rattle.currency_hiding.specs.declared.causes.Cause as declared-cause
use Rattle.currency_hiding.specs.declared.hiding.Hiding as declared-hiding
use Rattle.currency_writers.specs.declared.writers.Writer as declared-writer
use Rattle.currency.specs.declared.telling.Told as declared-told
use Rattle.currency.specs.declared.telling.Told.TheVariants as told
use Rattle.currency.specs.declared.telling.ToldVariable as declared-variable
use Rattle.currency.specs.declared.told.ToldPlaces as declared-places
use Rattle.currency.specs.declared.verdict.Verdict as declared-verdict
use Rattle.currency.specs.declared.verdict.Verdict.TheVariants as verdict
use Rattle.currency.specs.Telling.{told_at, IsCauseOf, IsHidingOf, IsToldOne, IsVerdictOf}
use Rattle.currency_hiding.specs.declared.causes.Cause.TheVariants as cause

pub cause_removed : (h : declared-hiding.Hiding) (n start : ℕ) → h.cause ≡ cause.Removed n start → IsHidingOf h (verdict.Noncurrent n (record { 0 = start }) None h.quiet)
cause_removed h n start e = subst (λ (y : declared-cause.Cause). IsCauseOf y h.quiet (verdict.Noncurrent n (record { 0 = start }) None h.quiet)) (sym e) refl

pub cause_moved : (h : declared-hiding.Hiding) (n start : ℕ) (w : declared-writer.Writer) → h.cause ≡ cause.Moved n start w → IsHidingOf h (verdict.Noncurrent n (record { 0 = start }) (Some w) h.quiet)
cause_moved h n start w e = subst (λ (y : declared-cause.Cause). IsCauseOf y h.quiet (verdict.Noncurrent n (record { 0 = start }) (Some w) h.quiet)) (sym e) refl

pub cause_reused : (h : declared-hiding.Hiding) (n start : ℕ) (w : declared-writer.Writer) → h.cause ≡ cause.Reused n start w → IsHidingOf h (verdict.Nonresident n (record { 0 = start }) w h.quiet)
cause_reused h n start w e = subst (λ (y : declared-cause.Cause). IsCauseOf y h.quiet (verdict.Nonresident n (record { 0 = start }) w h.quiet)) (sym e) refl

module _ (old new : declared-places.ToldPlaces) (place : ℕ) (var : declared-var.Var) (what : declared-told.Told) (v w : Vec declared-variable.ToldVariable) (lt : place < length old.by_place.items) (is : slice_get old.by_place.items place ≡ Some v)
    (put : new.by_place.items ≡ slice_set old.by_place.items place w) (more : w.items ≡ v.items ++ (record { var = var; told = what } ∷ [])) where
  abbrev one : declared-variable.ToldVariable
  one = record { var = var; told = what }

  told_there : told_at new place ≡ v.items ++ (one ∷ [])
  told_there =
      ap (λ (all : List (Vec declared-variable.ToldVariable)). option_map_or (λ (z : Vec declared-variable.ToldVariable). z.items) (slice_get all place) []) put
      ∙ ap (λ (o : Option (Vec declared-variable.ToldVariable)). option_map_or (λ (z : Vec declared-variable.ToldVariable). z.items) o []) (get_put_same old.by_place.items place w lt) ∙ more

  told_before : told_at old place ≡ v.items
  told_before = ap (λ (o : Option (Vec declared-variable.ToldVariable)). option_map_or (λ (z : Vec declared-variable.ToldVariable). z.items) o []) is

  told_other : (p : ℕ) → p ≢ place → told_at new p ≡ told_at old p
  told_other p other =
      ap (λ (all : List (Vec declared-variable.ToldVariable)). option_map_or (λ (z : Vec declared-variable.ToldVariable). z.items) (slice_get all p) []) put
      ∙ ap (λ (o : Option (Vec declared-variable.ToldVariable)). option_map_or (λ (z : Vec declared-variable.ToldVariable). z.items) o []) (get_put_other old.by_place.items place w p other)

  kept_there : (t : declared-variable.ToldVariable) → Among t (told_at old place) → Among t (told_at new place)
  kept_there t there = subst (λ l. Among t l) (sym told_there) (among_left v.items (one ∷ []) (subst (λ l. Among t l) told_before there))

  only_there : (t : declared-variable.ToldVariable) → Among t (told_at new place) → Among t (told_at old place) ⊎ (t ≡ one)
  only_there t there = elim (among_parts v.items (one ∷ []) (subst (λ l. Among t l) told_there there)) [ inl f ↦ inl (subst (λ l. Among t l) (sym told_before) f) | inr f ↦ inr (among_one f) ]

  pub told_one : IsToldOne old new place var what
  told_one = record {
    kept = λ p t there. elim (eqb_tells p place) [
      | inl e ↦ subst (λ k. Among t (told_at new k)) (sym e.1) (kept_there t (subst (λ k. Among t (told_at old k)) e.1 there))
      | inr e ↦ subst (λ l. Among t l) (sym (told_other p e.1)) there
    ];
    only = λ p t there. elim (eqb_tells p place) [
      | inl e ↦ elim (only_there t (subst (λ k. Among t (told_at new k)) e.1 there)) [
        | inl f ↦ inl (subst (λ k. Among t (told_at old k)) (sym e.1) f)
        | inr f ↦ inr (e.1, ap (λ (z : declared-variable.ToldVariable). z.var) f, ap (λ (z : declared-variable.ToldVariable). z.told) f)
      ]
      | inr e ↦ inl (subst (λ l. Among t l) (told_other p e.1) there)
    ];
    told = (one, subst (λ l. Among one l) (sym told_there) (among_right v.items (one ∷ []) front), refl);
  }

not_home : (c : declared-cause.Cause) (q : Option Place) → IsCauseOf c q verdict.Home → ⊥
not_home (cause.Removed n start) q e = cc
not_home (cause.Moved n start w) q e = cc
not_home (cause.Reused n start w) q e = cc

not_recovered : (c : declared-cause.Cause) (q : Option Place) (r : declared-recipe.Recipe) (d : ℕ) → IsCauseOf c q (verdict.Recovered r d) → ⊥
not_recovered (cause.Removed n start) q r d e = cc
not_recovered (cause.Moved n start w) q r d e = cc
not_recovered (cause.Reused n start w) q r d e = cc

-- the verdict that tells what hides a scalar tells what is told
pub hidden_verdict : (h : declared-hiding.Hiding) (v : declared-verdict.Verdict) → IsHidingOf h v → IsVerdictOf (told.Hidden h) v
hidden_verdict h verdict.Home e = not_home h.cause h.quiet e
hidden_verdict h (verdict.Recovered r d) e = not_recovered h.cause h.quiet r d e
hidden_verdict h (verdict.Noncurrent d p w q) e = e
hidden_verdict h (verdict.Nonresident d p w q) e = e
