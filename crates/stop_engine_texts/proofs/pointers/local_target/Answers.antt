use Rattle.std.proofs.Common.{◌≡◌, ℕ, ◌+◌, ◌<◌, ◌≤◌, List, None, Some, drop, length, sym, ap, ◌∙◌, refl, arith}
use Rattle.std.specs.Prelude.{slice_index_or}
use Rattle.std.proofs.lemmas.Grind.{get_or_default_zero}
use Rattle.std.proofs.lemmas.List.{length-drop}
use Rattle.image_form.specs.Views.{viewed}
use Rattle.image_form.specs.declared.variables.Variable.{Variable}
use Rattle.stop_engine_tables.specs.VariableLists.{next_of}
use Rattle.stop_engine_view.specs.Pointers.{local_offset}
use Rattle.stop_engine_tables.proofs.Records.{record_at}
use Rattle.stop_engine_tables.proofs.VariableListLaws.{local-next, local-skip, next-least, next-most, next-owned, next-there}
use Rattle.stop_engine_texts.proofs.VariablesInTurn.{local_here}
use Rattle.stop_engine_texts.proofs.pointers.local_target.Goals as goal

pub loop-index-init : goal.loop-index-init
loop-index-init c =
    let vs : List Variable = (viewed c.args.image.now).variables in
    let f = c.args.function in
    let lt : f < length c.args.lists.now.first.items = omega (arith, c.requires.function, c.requires.lists.functions) in
    let is : c.index.result.now ≡ next_of f 0 vs = c.index.ensures ∙ (get_or_default_zero c.args.lists.now.first.items f c.index.result.now lt ∙ c.requires.lists.first f lt) in
    let most = next-most f 0 vs in
    rw is (omega (arith, most), next-there f 0 vs vs refl, sym (local-skip c.args.address f c.args.frame c.args.depth 0 vs vs refl))

pub returns-in-Some-clause-found : goal.returns-in-Some-clause-found
returns-in-Some-clause-found c =
    let vs : List Variable = (viewed c.args.image.now).variables in
    sym (local_here c.args.address c.args.function c.args.frame c.args.depth c.loop-index.index c.in-Some.offset c.variable_at.result vs c.variable_at.ensures c.in-Some.ensures) ∙ c.loop-index.invariant.2

next_is : (c : goal.After-row_known-in-loop-index-1) → c.index-in-loop-index.result.now ≡ next_of c.args.function (c.loop-index.index + 1) (drop (c.loop-index.index + 1) (viewed c.args.image.now).variables)
next_is c =
    let vs : List Variable = (viewed c.args.image.now).variables in
    let i = c.loop-index.index in
    let d = c.variable_at.result in
    let within : i < length vs = omega (arith, c.loop-index-test.true, c.variable_count.ensures.count) in
    let lt : i < length c.args.lists.now.next.items = omega (arith, within, c.requires.lists.rows) in
    let own : (slice_index_or vs i d).function ≡ Some c.args.function = next-owned c.args.function i d vs within c.loop-index.invariant.1 in
    c.index-in-loop-index.ensures ∙ (get_or_default_zero c.args.lists.now.next.items i c.index-in-loop-index.result.now lt ∙ c.requires.lists.next i c.args.function d within own)

pub loop-index-smaller : goal.loop-index-smaller
loop-index-smaller c =
    let vs : List Variable = (viewed c.args.image.now).variables in
    let i = c.loop-index.index in
    let least = next-least c.args.function (i + 1) (drop (i + 1) vs) in
    let is = next_is c in
    omega (arith, is, least, c.loop-index-test.true, c.variable_count.ensures.count)

pub loop-index-preserved : goal.loop-index-preserved
loop-index-preserved c =
    let vs : List Variable = (viewed c.args.image.now).variables in
    let i = c.loop-index.index in
    let d = c.variable_at.result in
    let f = c.args.function in
    let is = next_is c in
    let lt : i < length vs = omega (arith, c.loop-index-test.true, c.variable_count.ensures.count) in
    let none : None ≡ local_offset (slice_index_or vs i d) f c.args.frame c.args.address =
    c.in-None.ensures ∙ ap (λ (v : Variable). local_offset v f c.args.frame c.args.address) (record_at vs i d d c.variable_at.ensures) in
    (within vs i f is lt, there vs i f is, sym (local-next c.args.address f c.args.frame c.args.depth i c.index-in-loop-index.result.now d vs lt none is) ∙ c.loop-index.invariant.2)
  where
    within : (vs : List Variable) (i f : ℕ) {j : ℕ} → j ≡ next_of f (i + 1) (drop (i + 1) vs) → i < length vs → j ≤ length vs
    within vs i f is lt = let most = next-most f (i + 1) (drop (i + 1) vs) in omega (arith, is, most, lt, length-drop (i + 1) vs)

    there : (vs : List Variable) (i f : ℕ) {j : ℕ} → j ≡ next_of f (i + 1) (drop (i + 1) vs) → next_of f j (drop j vs) ≡ j
    there vs i f is = rw is (next-there f (i + 1) (drop (i + 1) vs) vs refl)
