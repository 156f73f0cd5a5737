-- The case of a function for which a change was logged.
use Rattle.std.proofs.Common.{◌≡◌, ℕ, zero, suc, ◌≤◌, Some, List, [], ◌∷◌, ◌++◌, length, map, sym, ap, ◌∙◌, subst, arith}
use Rattle.std.specs.Prelude.{slice_get}
use Rattle.std.specs.List.{Contains}
use Rattle.std.proofs.lemmas.Option.{same_Some, none-some}
use Rattle.debug_records.specs.declared.change.PassName.{PassName}
use Rattle.debug_records.specs.declared.change.Kind as declared-kind
use Rattle.graph_core.specs.Graphs.{Graph, Logged, UnitForm}
use Rattle.graph_core.specs.Paths.{Among}
use Rattle.pass_law.specs.declared.cases.Case.{Case}
use Rattle.pass_law.specs.Changes.{AddsChangesOf, logged_as}
use Rattle.base_laws.proofs.Lists.{from_map}
use Rattle.graph_core.proofs.Among.{at_among}

back_at : (xs ys : List Logged) (k : ℕ) (c : Logged) → length xs ≤ k → slice_get (xs ++ ys) k ≡ Some c → (m : ℕ) × (slice_get ys m ≡ Some c)
back_at [] ys k c low e = (k, e)
back_at (x ∷ xs) ys zero c low e = absurd (omega (arith, low))
back_at (x ∷ xs) ys (suc k) c low e = back_at xs ys k c (omega (arith, low)) e

contained : {A : Type 0} (xs : List A) (m : ℕ) (a : A) → slice_get xs m ≡ Some a → Contains xs a
contained [] m a e = absurd (none-some a e)
contained (x ∷ xs) zero a e = (0, omega arith, same_Some x a e)
contained (x ∷ xs) (suc m) a e = (let r = contained xs m a e in let low = r.1 in (suc r.0, omega (arith, low), r.2))

module _ (pass : PassName) (kind : declared-kind.Kind) (IsCase : (before after : Graph) → Case → Type 0) (u v : UnitForm) where
  -- A change is logged for a case of a function.
  pub record IsLoggedFor (c : Logged) : Type 0 where
    pub function : ℕ
    pub before : Graph
    pub after : Graph
    pub stood : slice_get u.graphs function ≡ Some before
    pub stands : slice_get v.graphs function ≡ Some after
    pub of : Case
    pub is : IsCase before after of
    pub logged : Among c v.log
    pub kind_is : c.kind ≡ kind
    pub place_is : of.place.0 ≡ c.place
    pub variable_is : of.var.0 ≡ c.variable

  -- So is each change behind the old ones.
  pub logged_for : AddsChangesOf pass kind IsCase u v → (k : ℕ) (c : Logged) → length u.log ≤ k → slice_get v.log k ≡ Some c → IsLoggedFor c
  logged_for changes k c low at =
      let added = back_at u.log (map (logged_as pass kind) changes.cases) k c low (ap (λ l. slice_get l k) (sym changes.log) ∙ at) in
      let found = from_map (logged_as pass kind) changes.cases added.0 c added.1 in
      let numbered = from_map (λ (p : ℕ × Case). p.1) changes.all.of added.0 found.0 (ap (λ l. slice_get l added.0) (sym changes.all.are) ∙ found.1) in
      let one = changes.all.all.only numbered.0 (contained changes.all.of added.0 numbered.0 numbered.1) in
      record {
        function = numbered.0.0;
        before = one.before;
        after = one.after;
        stood = one.stood;
        stands = one.stands;
        of = found.0;
        is = subst (λ q. IsCase one.before one.after q) numbered.2 one.case;
        logged = at_among v.log k c at;
        kind_is = sym (ap (λ (l : Logged). l.kind) found.2);
        place_is = ap (λ (l : Logged). l.place) found.2;
        variable_is = ap (λ (l : Logged). l.variable) found.2;
      }
