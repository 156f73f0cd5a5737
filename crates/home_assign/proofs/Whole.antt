-- The run of a unit over homes shows what the unit shows, from the beginning on and for each number of steps.
use Rattle.std.proofs.Common.{◌≡◌, ℕ, zero, suc, ◌⊎◌, inl, inr, refl, sym, ap, ◌∙◌, subst, Option, Some, None, cond, List, [], ◌∷◌}
use Rattle.event_runs.specs.Agreement.{Pairs}
use Rattle.graph_core.specs.declared.value.Shadow.TheVariants as shadow
use Rattle.graph_core.specs.Memory.{first_memory}
use Rattle.graph_core.specs.Runs.{Configuration, Stepped, Goes, Shows, Ends, Wild, with_value_at, recipe_value, enter, step_from, step}
use Rattle.graph_core.specs.Validity.{IsValid}
use Rattle.graph_homes.specs.Homed.{HomedForm, HaveHomes, over_homes}
use Rattle.graph_homes.specs.Seen.{Over, seen_after, seen, seen_some, seen_run}
use Rattle.home_assign.specs.Alike.{SameSeen, over, IsOddNote}
use Rattle.home_assign.specs.Running.{Leads, ComesToOddNote, here, goes, shows, MeetsOddNote, LeadsOverHomes, ShowsAsMuch}
use Rattle.home_assign.specs.Rule.{HaveHomesApart}
use Rattle.home_assign.proofs.Related.{Related, DoesSame}
use Rattle.home_assign.proofs.Steps.{BeginSame, enter_same, step_same}

pairs_lead : {A B : Type 0} (R : A → B → Type 0) (xs : List A) (ys : List B) → Pairs R xs ys → Leads R xs ys
pairs_lead R [] ys all = tt
pairs_lead R (x ∷ xs) [] all = absurd all
pairs_lead R (x ∷ xs) (y ∷ ys) all = (all.0, pairs_lead R xs ys all.1)

module _ (h : HomedForm) (valid : IsValid h.unit) (homed : HaveHomes h) (apart : HaveHomesApart h) where
  -- As much is seen, or the unit has come to a note of what is not known.
  abbrev Goal : (steps : ℕ) → Configuration → Configuration → Type 0
  Goal n c d = Pairs (SameSeen h) (seen h.unit n c) (seen (over_homes h) n d) ⊎ (ComesToOddNote h.unit n c × Leads (SameSeen h) (seen h.unit n c) (seen (over_homes h) n d))

  stepped : (n : ℕ) (c d : Configuration) → ((a b : Configuration) → Related h a b → Goal n a b) → (p q : Stepped) → step h.unit c ≡ p → step (over_homes h) d ≡ q → DoesSame h p q
      → Pairs (SameSeen h) (seen_after p (seen h.unit n)) (seen_after q (seen (over_homes h) n)) ⊎ (ComesToOddNote h.unit (suc n) c × Leads (SameSeen h) (seen_after p (seen h.unit n)) (seen_after q (seen (over_homes h) n)))
  stepped n c d later (Goes a) (Goes b) is other does = elim (later a b does) [ inl all ↦ inl all | inr some ↦ inr (goes is some.0, some.1) ]
  stepped n c d later (Goes a) (Shows o b) is other does = absurd does
  stepped n c d later (Goes a) (Ends o) is other does = absurd does
  stepped n c d later (Goes a) Wild is other does = absurd does
  stepped n c d later (Shows e a) (Goes b) is other does = absurd does
  stepped n c d later (Shows e a) (Shows o b) is other does = elim (later a b does.0) [ inl all ↦ inl (does.1, all) | inr some ↦ inr (shows is some.0, (does.1, some.1)) ]
  stepped n c d later (Shows e a) (Ends o) is other does = absurd does
  stepped n c d later (Shows e a) Wild is other does = absurd does
  stepped n c d later (Ends e) (Goes b) is other does = absurd does
  stepped n c d later (Ends e) (Shows o b) is other does = absurd does
  stepped n c d later (Ends e) (Ends o) is other does = inl (subst (λ z. SameSeen h (Over e) (Over z)) (sym does) over, tt)
  stepped n c d later (Ends e) Wild is other does = absurd does
  stepped n c d later Wild (Goes b) is other does = absurd does
  stepped n c d later Wild (Shows o b) is other does = absurd does
  stepped n c d later Wild (Ends o) is other does = absurd does
  stepped n c d later Wild Wild is other does = inl tt

  odd_is_wild : (c : Configuration) → IsOddNote h.unit c → step h.unit c ≡ Wild
  odd_is_wild c o =
      ap (λ rest. step_from h.unit rest c) o.next
      ∙ ap (λ b. cond b Wild (Goes (record c { here = record c.here { rest = o.rest; shadows = with_value_at c.here.shadows o.x (shadow.Known (recipe_value h.unit.statics c.here.names o.recipe)) } }))) o.odd

  pub all_same : (n : ℕ) (c d : Configuration) → Related h c d → Goal n c d
  all_same zero c d r = inl tt
  all_same (suc n) c d r = elim (step_same h valid homed apart c d r) [
    | inl does ↦ stepped n c d (all_same n) (step h.unit c) (step (over_homes h) d) refl refl does
    | inr odd ↦ inr (here odd, subst (λ s. Leads (SameSeen h) (seen_after s (seen h.unit n)) (seen (over_homes h) (suc n) d)) (sym (odd_is_wild c odd)) tt)
  ]

  -- From the beginning on.
  pub run_same : (input : List ℕ) (n : ℕ)
      → Pairs (SameSeen h) (seen_run h.unit input n) (seen_run (over_homes h) input n) ⊎ (MeetsOddNote h.unit input n × Leads (SameSeen h) (seen_run h.unit input n) (seen_run (over_homes h) input n))
  run_same input n =
      by_first (enter h.unit (first_memory h.unit.statics) input h.unit.main [] []) (enter (over_homes h) (first_memory h.unit.statics) input h.unit.main [] []) refl
      (enter_same h valid homed apart (first_memory h.unit.statics) input h.unit.main [] [] [] tt valid.main)
    where
      by_first : (o p : Option Configuration) → enter h.unit (first_memory h.unit.statics) input h.unit.main [] [] ≡ o → BeginSame h valid homed apart o p
          → Pairs (SameSeen h) (seen_some h.unit n o) (seen_some (over_homes h) n p) ⊎ (MeetsOddNote h.unit input n × Leads (SameSeen h) (seen_some h.unit n o) (seen_some (over_homes h) n p))
      by_first None None is same = inl tt
      by_first None (Some d) is same = absurd same
      by_first (Some c) None is same = absurd same
      by_first (Some c) (Some d) is same = elim (all_same n c d same) [ inl all ↦ inl all | inr some ↦ inr (record { first = c; begins = is; comes = some.0 }, some.1) ]

  pub leads_over_homes : LeadsOverHomes h
  leads_over_homes input n = elim (run_same input n) [ inl all ↦ pairs_lead (SameSeen h) (seen_run h.unit input n) (seen_run (over_homes h) input n) all | inr some ↦ some.1 ]

  pub shows_as_much : ShowsAsMuch h
  shows_as_much input n never = elim (run_same input n) [ inl all ↦ all | inr some ↦ absurd (never some.0) ]
