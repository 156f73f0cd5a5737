-- What a pass logs of the small program, and what none logs.
use Rattle.std.proofs.Common.{◌≡◌, ◌≢◌, ℕ, zero, suc, ◌<◌, ◌≤◌, List, [], ◌∷◌, length, refl, sym, ap, subst, slice_get, arith, lit≤, lit<}
use Rattle.std.specs.Prelude.{Some, option_map}
use Rattle.std.specs.List.{AllByRecursion}
use Rattle.memory_map.specs.declared.map.Room.TheVariants.{Small}
use Rattle.debug_records.specs.declared.change.PassName.{PassName}
use Rattle.debug_records.specs.declared.change.Kind.TheVariants.{Sunk}
use Rattle.graph_core.specs.Graphs.{Graph, Logged, Scalar}
use Rattle.graph_core.specs.Paths.{Among, front, behind}
use Rattle.graph_core.specs.Validity.{markers_of}
use Rattle.pass_law.specs.Logs.{most_changes, IsScalarIn, LogsWell}
use Rattle.pass_law.specs.Worked.{assigning, built, logging, reduced, removal, removal_in, sinking, NoPassLogs}
use Rattle.pass_law.proofs.Inversions.{some_same, none_is_some, apart, only_scalar}

-- no marker begins the place 0
no_place : Among 0 (markers_of built.graphs) → ⊥
no_place (behind (behind (behind a))) = elim a [ ]

-- no scalar is of the variable 1
no_scalar : (function : ℕ) (g : Graph) (x : ℕ) → slice_get built.graphs function ≡ Some g → option_map (λ (s : Scalar). s.variable) (slice_get g.scalars x) ≡ Some 1 → ⊥
no_scalar zero g x is of =
    let one : option_map (λ (s : Scalar). s.variable) (slice_get assigning.scalars x) ≡ Some 1 = subst (λ (k : Graph). option_map (λ (s : Scalar). s.variable) (slice_get k.scalars x) ≡ Some 1) (sym (some_same is)) of in
    apart 0 1 (lit< tt) (sym (only_scalar x 1 one).1)
no_scalar (suc f) g x is of = absurd (none_is_some is)

module _ (pass : PassName) where
  pub removal_logged : LogsWell pass built (reduced pass)
  removal_logged = record {
    added = removal pass ∷ [];
    log = refl;
    few = lit≤ tt;
    by = (refl, tt);
    kinds = ((λ e. absurd cc), tt);
    at = (behind front, tt);
    of = (record { function = 0; graph = assigning; x = 0; is = refl; of = refl }, tt);
  }

  placeless : LogsWell pass built (logging (removal_in pass 0 0 ∷ [])) → ⊥
  placeless w = no_place (subst (λ log. AllByRecursion (λ (c : Logged). Among c.place (markers_of built.graphs)) log) (sym w.log) w.at).0

  of_none : LogsWell pass built (logging (removal_in pass 2 1 ∷ [])) → ⊥
  of_none w =
      let s : IsScalarIn built 1 = (subst (λ log. AllByRecursion (λ (c : Logged). IsScalarIn built c.variable) log) (sym w.log) w.of).0 in
      no_scalar s.function s.graph s.x s.is s.of

  by_another : (other : PassName) → other ≢ pass → LogsWell pass built (logging (removal_in other 2 0 ∷ [])) → ⊥
  by_another other differs w = differs (subst (λ log. AllByRecursion (λ (c : Logged). c.pass ≡ pass) log) (sym w.log) w.by).0

  sunk : LogsWell pass built (logging (sinking pass ∷ [])) → ⊥
  sunk w = (subst (λ log. AllByRecursion (λ (c : Logged). c.kind ≢ Sunk) log) (sym w.log) w.kinds).0 refl

  too_many : (log : List Logged) → most_changes Small < length log → LogsWell pass built (logging log) → ⊥
  too_many log many w =
      let few : length w.added ≤ 100000 = w.few in
      let same : length log ≡ length w.added = ap (λ (l : List Logged). length l) w.log in
      absurd (omega (arith, many, few, same))

pub no_pass_logs : (pass : PassName) → NoPassLogs pass
no_pass_logs pass = record { placeless = placeless pass; no_scalar = of_none pass; by_another = by_another pass; sunk = sunk pass; too_many = too_many pass }
