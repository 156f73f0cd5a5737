-- Names that are read at a point: where they differ, there is a case.
use Rattle.std.proofs.Common.{◌≡◌, ℕ, ◌+◌, ◌≤◌, ◌++◌, Option, Some, None, List, [], ◌∷◌, length, refl, sym, ap, ◌∙◌, subst, arith}
use Rattle.std.specs.Prelude.{slice_get}
use Rattle.std.proofs.lemmas.Option.{same_Some, slice_get_within}
use Rattle.debug_records.specs.declared.change.Place.{Place}
use Rattle.debug_records.specs.declared.change.Var.{Var}
use Rattle.graph_core.specs.Graphs.{Scalar}
use Rattle.pass_law.specs.declared.cases.Case.{Case}
use Rattle.pass_law.specs.Changes.{Adds, Below, Numbered}
use Rattle.pass_law.proofs.Adding.{adds_first, adds_last, adds_next, adds_none, adds_one}
use Rattle.copy_pass.specs.Points.{IsReplacedAt, variable_in}
use Rattle.copy_pass.specs.Reads.{IsOther}
use Rattle.base_laws.proofs.Options.{none_there}

abbrev pub operand_of : Case → ℕ
operand_of c = c.operand

module _ (scalars : List Scalar) (p : Option ℕ) (n i : ℕ) (was is : List ℕ) where
  abbrev IsAt : Case → Type 0
  IsAt c = IsReplacedAt scalars p n i was is c

  pub no_name : (k : ℕ) (old : List Case) → ((x : ℕ) → IsOther was is k x → ⊥) → Adds (Numbered IsAt operand_of k) old old
  no_name k old none = adds_none (Numbered IsAt operand_of k) old (λ c h. none h.0.x (subst (λ q. IsOther was is q h.0.x) h.1 h.0.other))

  pub no_place : (k : ℕ) (old : List Case) → p ≡ None → Adds (Numbered IsAt operand_of k) old old
  no_place k old gone = adds_none (Numbered IsAt operand_of k) old (λ c h. none_there p c.place.0 gone h.0.in_place)

  same_read : (k x : ℕ) (c : Case) → IsOther was is k x → (h : Numbered IsAt operand_of k c) → h.0.x ≡ x
  same_read k x c other h = same_Some h.0.x x (sym h.0.other.before ∙ ap (slice_get was) h.1 ∙ other.before)

  pub no_variable : (k x : ℕ) (old : List Case) → IsOther was is k x → variable_in scalars x ≡ None → Adds (Numbered IsAt operand_of k) old old
  no_variable k x old other gone = adds_none (Numbered IsAt operand_of k) old (λ c h. none_there (variable_in scalars x) c.var.0 gone (sym (ap (variable_in scalars) (same_read k x c other h)) ∙ h.0.variable))

  module _ (k x : ℕ) (place : Place) (var : Var) (other : IsOther was is k x) (in_place : p ≡ Some place.0) (variable : variable_in scalars x ≡ Some var.0) where
    abbrev pub case_there : Case
    case_there = record { place = place; block = n; index = i; operand = k; var = var }

    only_case : (c : Case) → Numbered IsAt operand_of k c → c ≡ case_there
    only_case c h =
        let at_place : c.place.0 ≡ place.0 = same_Some c.place.0 place.0 (sym h.0.in_place ∙ in_place) in
        let of_variable : c.var.0 ≡ var.0 = same_Some c.var.0 var.0 (sym h.0.variable ∙ ap (variable_in scalars) (same_read k x c other h) ∙ variable) in
        λ t. (record { place = record { 0 = at_place t }; block = h.0.in_block t; index = h.0.at_index t; operand = h.1 t; var = record { 0 = of_variable t } })

    pub one_read : (old new : List Case) → new ≡ old ++ case_there ∷ [] → Adds (Numbered IsAt operand_of k) old new
    one_read old new grown =
        adds_one (Numbered IsAt operand_of k) old new case_there grown (record { in_place = in_place; in_block = refl; at_index = refl; x = x; other = other; variable = variable }, refl) only_case

  -- operands one by one
  pub operands_first : (old : List Case) → Adds (Below IsAt operand_of 0) old old
  operands_first old = adds_first IsAt operand_of old

  pub operand_step : (k : ℕ) (old mid new : List Case) → Adds (Below IsAt operand_of k) old mid → Adds (Numbered IsAt operand_of k) mid new → Adds (Below IsAt operand_of (k + 1)) old new
  operand_step k old mid new so_far adds = adds_next IsAt operand_of k old mid new so_far adds

  pub operands_done : (k : ℕ) (old new : List Case) → length was ≤ k → Adds (Below IsAt operand_of k) old new → Adds IsAt old new
  operands_done k old new whole adds = adds_last IsAt operand_of k old new (λ c h. (let within = slice_get_within was c.operand h.x h.other.before in omega (arith, whole, within))) adds
