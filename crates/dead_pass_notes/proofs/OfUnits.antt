-- What the graphs before say of cases, they say whatever stands behind.
use Rattle.std.proofs.Common.{◌≡◌, ℕ, ◌<◌, List, [], ◌∷◌, length, get_or, arith}
use Rattle.std.proofs.lemmas.Option.{slice_get-get_or, slice_get_within}
use Rattle.graph_core.specs.Graphs.{Graph}
use Rattle.pass_law.specs.declared.cases.Case.{Case}
use Rattle.pass_law.specs.Changes.{AreCasesOf, IsCaseOf}
use Rattle.pass_law.specs.Kept.{EachFunction}
use Rattle.pass_law.proofs.Adding.{all_same}

-- there are as many functions as before
pub each_count : (IsMade : Graph → Graph → Type 0) (gs hs : List Graph) → EachFunction IsMade gs hs → length hs ≡ length gs
each_count IsMade [] [] all = omega arith
each_count IsMade [] (h ∷ hs) all = absurd all
each_count IsMade (g ∷ gs) [] all = absurd all
each_count IsMade (g ∷ gs) (h ∷ hs) all = (let rest = each_count IsMade gs hs all.1 in omega (arith, rest))

module _ (IsOne : Graph → Case → Type 0) (gs hs : List Graph) (count : length hs ≡ length gs) where
  abbrev Before : (before after : Graph) → Case → Type 0
  Before before after = IsOne before

  to_both : (c : ℕ × Case) → IsCaseOf Before gs gs c → IsCaseOf Before gs hs c
  to_both c is =
      let within = slice_get_within gs c.0 is.before is.stood in
      let inside : c.0 < length hs = omega (arith, within, count) in
      record { before = is.before; after = get_or hs c.0 is.before; stood = is.stood; stands = slice_get-get_or hs c.0 is.before inside; case = is.case }

  from_both : (c : ℕ × Case) → IsCaseOf Before gs hs c → IsCaseOf Before gs gs c
  from_both c is = record { before = is.before; after = is.before; stood = is.stood; stands = is.stood; case = is.case }

  pub cases_before : (cases : List Case) → AreCasesOf Before gs gs cases → AreCasesOf Before gs hs cases
  cases_before cases are = record { of = are.of; all = all_same (IsCaseOf Before gs gs) (IsCaseOf Before gs hs) are.of to_both from_both are.all; are = are.are }
