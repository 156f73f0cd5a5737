-- What verdicts say to hide variables is evident, function by function and row by row.
use Rattle.std.proofs.Common.{◌≡◌, inl, inr, ℕ, ◌<◌, Option, Some, None, List, [], length, get_or, sym, ap, subst, ◌∙◌}
use Rattle.std.specs.Prelude.{MatchOption, option_map, slice_get}
use Rattle.std.proofs.lemmas.Option.{slice_get-get_or, slice_get-map}
use Rattle.places.specs.declared.flow.FlowTable.{FlowTable}
use Rattle.places.specs.declared.table.PlaceTable as declared-table
use Rattle.graph_homes.specs.declared.home.Home.{Home}
use Rattle.graph_core.specs.declared.graph.Graph as declared-graph
use Rattle.graph_core.specs.Graphs.{Graph, Logged, graph_view}
use Rattle.graph_core.specs.Paths.{Among}
use Rattle.graph_core.specs.WellMarked.{IsVariable}
use Rattle.currency_notes.specs.Homes.{home_in}
use Rattle.graph_homes.specs.declared.homed.FunctionHomes as declared-homes
use Rattle.graph_homes.specs.declared.homed.HomedUnit as declared-homed
use Rattle.graph_homes.specs.Homed.{HomedForm, home_of, homed_view, homes_in}
use Rattle.currency_hiding.specs.First.{Tells}
use Rattle.currency.specs.declared.telling.Told as declared-told
use Rattle.currency.specs.declared.telling.Told.TheVariants as told
use Rattle.currency.specs.declared.telling.ToldVariable as declared-variable
use Rattle.currency.specs.declared.told.ToldPlaces as declared-places
use Rattle.currency.specs.declared.verdict.Verdict as declared-verdict
use Rattle.currency.specs.declared.verdict.Verdict.TheVariants as verdict
use Rattle.currency.specs.declared.verdict.PlaceVerdict as declared-row
use Rattle.currency.specs.Telling.{AreRowsTold, IsNoneTold, IsRowTold, IsToldOf, IsVerdictOf, IsVerdictOn, told_at}
use Rattle.currency.specs.Evident.{AreEvident, AreNew, AreToldEvident, IsEvident, IsHiding, IsHidingIn}
use Rattle.currency.proofs.OfFunctions.{names_at}

module _ (log : List Logged) (flow : FlowTable) where
  -- what is new by the log and the flow of a search
  pub new_by : (other : List Logged) (table : FlowTable) (home : ℕ → Home) (f : ℕ) (g : Graph) (old new : declared-places.ToldPlaces) → other ≡ log → table ≡ flow → AreNew (IsHidingIn other table home f g) old new → AreNew (IsHidingIn log flow home f g) old new
  new_by other table home f g old new same one all = subst (λ (t : FlowTable). AreNew (IsHidingIn log t home f g) old new) one (subst (λ (l : List Logged). AreNew (IsHidingIn l table home f g) old new) same all)

  -- nothing is told at first
  pub evident_first : (u : HomedForm) (all : declared-places.ToldPlaces) → ((p : ℕ) → told_at all p ≡ []) → AreToldEvident log flow u all
  evident_first u all none p t among = absurd (nothing t (subst (λ l. Among t l) (none p) among))
    where
      nothing : (t : declared-variable.ToldVariable) → Among t [] → ⊥
      nothing t among = elim among [ ]

  -- one more function, as it was read
  pub evident_next : (h : declared-homed.HomedUnit) (old new : declared-places.ToldPlaces) (f number : ℕ) (g : declared-graph.Graph) (one : declared-homes.FunctionHomes) (names : List Home) → number ≡ f → f < length h.unit.graphs.items → g ≡ get_or h.unit.graphs.items f g → f < length h.homes.items
      → one ≡ get_or h.homes.items f one → names ≡ one.homes.items → AreToldEvident log flow (homed_view h) old → AreNew (IsHidingIn log flow (home_in names) number (graph_view g)) old new → AreToldEvident log flow (homed_view h) new
  evident_next h old new f number g one names same lt is small kept of before more p t among = elim (more p t among) [
    | inl a ↦ before p t a
    | inr b ↦ (let at : slice_get (homed_view h).unit.graphs f ≡ Some (graph_view g) = slice_get-map graph_view h.unit.graphs.items f ∙ ap (λ o. option_map graph_view o) (slice_get-get_or h.unit.graphs.items f g lt ∙ ap Some (sym is)) in
        let homes : homes_in (homed_view h) f ≡ names = names_at h f one (slice_get-get_or h.homes.items f one small ∙ ap Some (sym kept)) ∙ sym of in
        record {
          f = f;
          graph = graph_view g;
          is = at;
          of = subst (λ (l : List Home). IsHidingIn log flow (home_in l) f (graph_view g) p t) (sym homes) (subst (λ n. IsHidingIn log flow (home_in names) n (graph_view g) p t) same b);
        })
  ]

  module _ (u : HomedForm) where
    hidden : (variable p f x : ℕ) (g : Graph) → slice_get u.unit.graphs f ≡ Some g → IsVariable g x variable → (what : declared-told.Told) (v : declared-verdict.Verdict) → IsHiding (λ c. Tells log flow (home_of u f) f g x variable p c) what → IsVerdictOf what v → IsEvident log flow u variable p v
    hidden variable p f x g is of what verdict.Home hiding v = tt
    hidden variable p f x g is of what (verdict.Recovered r c) hiding v = record { function = f; index = x; graph = g; is = is; of = of }
    hidden variable p f x g is of (told.Recovered r d) (verdict.Noncurrent c s w q) hiding v = elim v [ ]
    hidden variable p f x g is of (told.Recovered r d) (verdict.Nonresident c s w q) hiding v = elim v [ ]
    hidden variable p f x g is of (told.Hidden h) (verdict.Noncurrent c s w q) hiding v = record { f = f; graph = g; x = x; hiding = h; is = is; scalar = of; told = v; evident = hiding.0; first = hiding.1; quiet = hiding.2 }
    hidden variable p f x g is of (told.Hidden h) (verdict.Nonresident c s w q) hiding v = record { f = f; graph = g; x = x; hiding = h; is = is; scalar = of; told = v; evident = hiding.0; first = hiding.1; quiet = hiding.2 }

    -- what the verdicts say to hide variables does
    pub are_evident : (table : declared-table.PlaceTable) (found : declared-places.ToldPlaces) (rows : List declared-row.PlaceVerdict) → AreToldEvident log flow u found → AreRowsTold table found rows → AreEvident log flow u rows
    are_evident table found rows all each w among = at_what row.what row.is row.verdict
      where
        row : IsRowTold (told_at found w.place.0) w
        row = (each w among).1

        at_what : (o : Option declared-variable.ToldVariable) → MatchOption o (IsNoneTold (told_at found w.place.0) w.var) (λ t. IsToldOf (told_at found w.place.0) w.var t) → IsVerdictOn o w.verdict → IsEvident log flow u w.var.0 w.place.0 w.verdict
        at_what None none v = subst (λ (z : declared-verdict.Verdict). IsEvident log flow u w.var.0 w.place.0 z) (sym v) tt
        at_what (Some t) of v =
            (let one = all w.place.0 t of.0 in
            subst (λ k. IsEvident log flow u k w.place.0 w.verdict) of.1 (hidden t.var.0 w.place.0 one.f one.of.x one.graph one.is one.of.of t.told w.verdict one.of.hiding v))
