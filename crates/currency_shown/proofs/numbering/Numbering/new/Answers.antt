use Rattle.std.proofs.Common.{◌≡◌, ◌+◌, ◌-◌, ◌<◌, ◌≤◌, ℕ, List, Option, Some, ap, arith, get_or, length, subst, sym, ◌∙◌}
use Rattle.std.specs.Prelude.{slice_get, slice_set}
use Rattle.std.proofs.lemmas.List.{length-set}
use Rattle.std.proofs.lemmas.Option.{slice_get-get_or}
use Rattle.graph_core.specs.declared.graph.Scalar as declared-scalar
use Rattle.currency_notes.proofs.Lists.{get_any}
use Rattle.currency_shown.proofs.Scalars.{all_numbered, only_more, only_numbered, put_more}
use Rattle.currency_shown.proofs.numbering.Numbering.new.Goals as goal

pub loop-name-preserved : goal.loop-name-preserved
loop-name-preserved c =
    let scalars = c.args.scalars.now in
    let first = c.least_variable-first.result in
    let k = c.loop-name.name in
    let names = c.loop-name.names.items in
    let inv = c.loop-name.invariant in
    let put = c.put_scalar.ensures ∙ ap (λ i. slice_set names i (Some k)) c.saturating_sub-variable.ensures in
    let lt : k < length scalars = omega (arith, c.loop-name-test.true, c.loop-name.auto) in
    let s : declared-scalar.Scalar = get_or scalars k _ in
    let is : s ≡ get_or scalars k s = get_any scalars k _ s lt in
    let low = c.least_variable-first.ensures k s (slice_get-get_or scalars k _ lt) in
    let high = c.greatest_variable-last.ensures k s (slice_get-get_or scalars k _ lt) in
    let size = inv.size in
    let small : s.var.0 - first < length names = omega (arith, low, high, size, c.saturating_sub-count.ensures) in
    record {
      size = ap (λ xs. length xs) put ∙ length-set names (s.var.0 - first) (Some k) ∙ inv.size;
      put = λ x t less at. subst (λ ns. slice_get ns (t.var.0 - first) ≡ Some (Some x)) (sym put) (put_more scalars names k first s lt is c.requires.different c.least_variable-first.ensures small inv.put x t less at);
      only = λ i x at. only_more scalars names k first s lt is c.requires.different c.least_variable-first.ensures small inv.only i x (subst (λ ns. slice_get ns i ≡ Some (Some x)) put at);
    }

pub returns-clause-numbered : goal.returns-clause-numbered
returns-clause-numbered c = all_numbered (record { first = c.least_variable-first.result; names = c.loop-name.names }) c.args.scalars.now c.loop-name.name (omega (arith, c.loop-name-test.false, c.loop-name.auto)) c.least_variable-first.ensures c.loop-name.invariant.put

pub returns-clause-only : goal.returns-clause-only
returns-clause-only c = only_numbered (record { first = c.least_variable-first.result; names = c.loop-name.names }) c.args.scalars.now c.loop-name.invariant.only
