-- The cases of functions, one function after the other.
use Rattle.std.proofs.Common.{◌≡◌, ℕ, ◌+◌, ◌<◌, ◌≤◌, Some, None, List, [], ◌∷◌, ◌++◌, length, get_or, map, refl, sym, ap, ◌∙◌, subst, arith}
use Rattle.std.specs.List.{Contains, slice_get}
use Rattle.std.proofs.lemmas.List.{length-map, get_or-map, map-append}
use Rattle.std.proofs.lemmas.Option.{same_Some, slice_get_within}
use Rattle.graph_core.specs.Graphs.{Graph}
use Rattle.pass_law.specs.declared.cases.Case.{Case}
use Rattle.pass_law.specs.Changes.{AreAll, AreCasesOf, Adds, Below, IsCaseOf, Numbered}
use Rattle.pass_law.proofs.Adding.{adds_none, adds_same, all_next, all_none, all_same, stands_in}
use Rattle.base_laws.proofs.Options.{none_there}

-- a case with the number of its function
abbrev tagged : (f : ℕ) → Case → ℕ × Case
tagged f c = (f, c)

abbrev untagged : ℕ × Case → Case
untagged c = c.1

abbrev number_of : ℕ × Case → ℕ
number_of c = c.0

tagged_as : (f : ℕ) (xs : List Case) → map untagged (map (tagged f) xs) ≡ xs
tagged_as f [] = refl
tagged_as f (x ∷ xs) = ap (λ l. x ∷ l) (tagged_as f xs)

module _ (IsCase : (before after : Graph) → Case → Type 0) (gs hs : List Graph) where
  -- the cases of the functions below a number
  pub record AreCasesBelow (k : ℕ) (cases : List Case) : Type 0 where
    pub of : List (ℕ × Case)
    pub all : AreAll (Below (IsCaseOf IsCase gs hs) number_of k) of
    pub are : cases ≡ map (λ (c : ℕ × Case). c.1) of

  pub cases_first : AreCasesBelow 0 []
  cases_first = record { of = []; all = all_none (Below (IsCaseOf IsCase gs hs) number_of 0) (λ c h. absurd (omega (arith, h.1))); are = refl }

  module _ (k : ℕ) where
    abbrev IsOfFunction : Case → Type 0
    IsOfFunction c = IsCaseOf IsCase gs hs (k, c)

    -- a function that is gone has no case
    pub function_gone : (old : List Case) → slice_get gs k ≡ None → Adds IsOfFunction old old
    function_gone old gone = adds_none IsOfFunction old (λ c h. none_there (slice_get gs k) h.before gone h.stood)

    pub function_gone_after : (old : List Case) → slice_get hs k ≡ None → Adds IsOfFunction old old
    function_gone_after old gone = adds_none IsOfFunction old (λ c h. none_there (slice_get hs k) h.after gone h.stands)

    -- the cases of its graphs are those of a function
    pub function_step : (g h : Graph) (old new : List Case) → slice_get gs k ≡ Some g → slice_get hs k ≡ Some h → Adds (IsCase g h) old new → Adds IsOfFunction old new
    function_step g h old new stood stands adds =
        adds_same (IsCase g h) IsOfFunction old new (λ c is. record { before = g; after = h; stood = stood; stands = stands; case = is })
        (λ c of. subst (λ a. IsCase g a c) (same_Some of.after h (sym of.stands ∙ stands)) (subst (λ b. IsCase b of.after c) (same_Some of.before g (sym of.stood ∙ stood)) of.case)) adds

    tagged_only : (xs : List Case) → AreAll IsOfFunction xs → (c : ℕ × Case) → Contains (map (tagged k) xs) c → Numbered (IsCaseOf IsCase gs hs) number_of k c
    tagged_only xs all c (j, lt, e) =
        let inside : j < length xs = omega (arith, lt, length-map xs (tagged k)) in
        subst (λ z. Numbered (IsCaseOf IsCase gs hs) number_of k z) (sym (get_or-map (tagged k) xs j c.1 c inside) ∙ e) (all.only (get_or xs j c.1) (stands_in xs j c.1 inside), refl)

    tagged_each : (xs : List Case) → AreAll IsOfFunction xs → (c : ℕ × Case) → Numbered (IsCaseOf IsCase gs hs) number_of k c → Contains (map (tagged k) xs) c
    tagged_each xs all c m =
        let same : c ≡ tagged k c.1 = ap (λ n. tagged n c.1) m.1 in
        let there = all.each c.1 (subst (IsCaseOf IsCase gs hs) same m.0) in
        (there.0, omega (arith, there.1, length-map xs (tagged k)), get_or-map (tagged k) xs there.0 c.1 c there.1 ∙ ap (tagged k) there.2 ∙ sym same)

    tagged_all : (xs : List Case) → AreAll IsOfFunction xs → AreAll (Numbered (IsCaseOf IsCase gs hs) number_of k) (map (tagged k) xs)
    tagged_all xs all = record {
      only = tagged_only xs all;
      each = tagged_each xs all;
      once = λ i j d less within e.
          (let inside : j < length xs = omega (arith, within, length-map xs (tagged k)) in
          all.once i j d.1 less inside (ap untagged (sym (get_or-map (tagged k) xs i d.1 d (omega (arith, less, inside))) ∙ e ∙ get_or-map (tagged k) xs j d.1 d inside)));
    }

    -- one function more
    pub cases_next : (old new : List Case) → AreCasesBelow k old → Adds IsOfFunction old new → AreCasesBelow (k + 1) new
    cases_next old new so_far adds = record {
      of = so_far.of ++ map (tagged k) adds.added;
      all = all_next (IsCaseOf IsCase gs hs) number_of k so_far.of (map (tagged k) adds.added) so_far.all (tagged_all adds.added adds.all);
      are = adds.behind ∙ ap (λ l. l ++ adds.added) so_far.are ∙ ap (λ l. map untagged so_far.of ++ l) (sym (tagged_as k adds.added)) ∙ sym (map-append untagged so_far.of (map (tagged k) adds.added));
    }

  -- all functions were gone over
  pub cases_last : (n : ℕ) (cases : List Case) → length gs ≤ n → AreCasesBelow n cases → AreCasesOf IsCase gs hs cases
  cases_last n cases whole so_far = record {
    of = so_far.of;
    all = all_same (Below (IsCaseOf IsCase gs hs) number_of n) (IsCaseOf IsCase gs hs) so_far.of (λ c h. h.0) (λ c h. (h, (let within = slice_get_within gs c.0 h.before h.stood in omega (arith, whole, within)))) so_far.all;
    are = so_far.are;
  }
