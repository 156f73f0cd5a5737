use Rattle.std.proofs.Common.{◌≡◌, ◌∙◌, ◌+◌, Some, None, sym, ap, drop, length, arith}
use Rattle.image_form_sections.specs.declared.name_rules.NameKind.TheVariants.{Identifier, Letters}
use Rattle.image_form_sections.specs.Layouts.{rows_in}
use Rattle.image_form_sections.specs.TestsOfNames.{first_unfit, table_tests}
use Rattle.image_form_sections.proofs.Unfit.{misfit_first, misfit_second, misfit_third, misfit_nowhere, misfit_behind}
use Rattle.image_form_sections.proofs.name_rules.first_misfit.Goals as goal

pub returns-in-Err-clause-first : goal.returns-in-Err-clause-first
returns-in-Err-clause-first c =
    let a = table_tests Identifier (rows_in c.args.layout.now.functions) in
    let b = table_tests Identifier (rows_in c.args.layout.now.variables) in
    let p = table_tests Letters (rows_in c.args.layout.now.changes) in
    sym (misfit_first a b p c.args.layout.now.names.now c.in-Err.at c.in-Err.ensures.unfit)

pub returns-in-Err-names_end-clause-first : goal.returns-in-Err-names_end-clause-first
returns-in-Err-names_end-clause-first c =
    let a = table_tests Identifier (rows_in c.args.layout.now.functions) in
    let b = table_tests Identifier (rows_in c.args.layout.now.variables) in
    let p = table_tests Letters (rows_in c.args.layout.now.changes) in
    let names = c.args.layout.now.names.now in
    let rest : c.split_at.result.1.now ≡ drop (length a) names = c.split_at.ensures.back ∙ ap (λ n. drop n names) c.in-Ok.ensures.fit.1 in
    let unfit : first_unfit b (drop (length a) names) ≡ Some c.in-Err-names_end.at = ap (first_unfit b) (sym rest) ∙ c.in-Err-names_end.ensures.unfit in
    sym (misfit_second a b p names c.in-Err-names_end.at c.in-Ok.ensures.fit.0 unfit ∙ ap (λ n. Some (n + c.in-Err-names_end.at)) (sym c.in-Ok.ensures.fit.1))

pub returns-in-Err-names_end-2-clause-first : goal.returns-in-Err-names_end-2-clause-first
returns-in-Err-names_end-2-clause-first c =
    let a = table_tests Identifier (rows_in c.args.layout.now.functions) in
    let b = table_tests Identifier (rows_in c.args.layout.now.variables) in
    let p = table_tests Letters (rows_in c.args.layout.now.changes) in
    let names = c.args.layout.now.names.now in
    let rest : c.split_at.result.1.now ≡ drop (length a) names = c.split_at.ensures.back ∙ ap (λ n. drop n names) c.in-Ok.ensures.fit.1 in
    let rest2 : c.split_at-2.result.1.now ≡ drop (length b) (drop (length a) names) = c.split_at-2.ensures.back ∙ (λ i. drop (c.in-Ok-names_end.ensures.fit.1 i) (rest i)) in
    let fit_b : first_unfit b (drop (length a) names) ≡ None = ap (first_unfit b) (sym rest) ∙ c.in-Ok-names_end.ensures.fit.0 in
    let at = c.in-Err-names_end-2.at in
    let unfit : first_unfit p (drop (length b) (drop (length a) names)) ≡ Some at = ap (first_unfit p) (sym rest2) ∙ c.in-Err-names_end-2.ensures.unfit in
    let sums : length a + length b + at ≡ c.in-Ok.end + c.in-Ok-names_end.end + at = omega (arith, c.in-Ok.ensures.fit.1, c.in-Ok-names_end.ensures.fit.1) in
    sym (misfit_third a b p names at c.in-Ok.ensures.fit.0 fit_b unfit ∙ ap Some sums)

pub returns-then-passes-names-clause-first : goal.returns-then-passes-names-clause-first
returns-then-passes-names-clause-first c =
    let a = table_tests Identifier (rows_in c.args.layout.now.functions) in
    let b = table_tests Identifier (rows_in c.args.layout.now.variables) in
    let p = table_tests Letters (rows_in c.args.layout.now.changes) in
    let names = c.args.layout.now.names.now in
    let rest : c.split_at.result.1.now ≡ drop (length a) names = c.split_at.ensures.back ∙ ap (λ n. drop n names) c.in-Ok.ensures.fit.1 in
    let rest2 : c.split_at-2.result.1.now ≡ drop (length b) (drop (length a) names) = c.split_at-2.ensures.back ∙ (λ i. drop (c.in-Ok-names_end.ensures.fit.1 i) (rest i)) in
    let fit_b : first_unfit b (drop (length a) names) ≡ None = ap (first_unfit b) (sym rest) ∙ c.in-Ok-names_end.ensures.fit.0 in
    let fit_p : first_unfit p (drop (length b) (drop (length a) names)) ≡ None = ap (first_unfit p) (sym rest2) ∙ c.in-Ok-names_end-2.ensures.fit.0 in
    sym (misfit_nowhere a b p names c.in-Ok.ensures.fit.0 fit_b fit_p (sym c.in-Ok-names_end-2.ensures.fit.1 ∙ c.if-passes-names.true ∙ ap length rest2))

pub returns-else-passes-names-clause-first : goal.returns-else-passes-names-clause-first
returns-else-passes-names-clause-first c =
    let a = table_tests Identifier (rows_in c.args.layout.now.functions) in
    let b = table_tests Identifier (rows_in c.args.layout.now.variables) in
    let p = table_tests Letters (rows_in c.args.layout.now.changes) in
    let names = c.args.layout.now.names.now in
    let rest : c.split_at.result.1.now ≡ drop (length a) names = c.split_at.ensures.back ∙ ap (λ n. drop n names) c.in-Ok.ensures.fit.1 in
    let rest2 : c.split_at-2.result.1.now ≡ drop (length b) (drop (length a) names) = c.split_at-2.ensures.back ∙ (λ i. drop (c.in-Ok-names_end.ensures.fit.1 i) (rest i)) in
    let fit_b : first_unfit b (drop (length a) names) ≡ None = ap (first_unfit b) (sym rest) ∙ c.in-Ok-names_end.ensures.fit.0 in
    let fit_p : first_unfit p (drop (length b) (drop (length a) names)) ≡ None = ap (first_unfit p) (sym rest2) ∙ c.in-Ok-names_end-2.ensures.fit.0 in
    let sums : length a + length b + length p ≡ c.in-Ok.end + c.in-Ok-names_end.end + c.in-Ok-names_end-2.end = omega (arith, c.in-Ok.ensures.fit.1, c.in-Ok-names_end.ensures.fit.1, c.in-Ok-names_end-2.ensures.fit.1) in
    sym (misfit_behind a b p names c.in-Ok.ensures.fit.0 fit_b fit_p (λ e. c.if-passes-names.false (c.in-Ok-names_end-2.ensures.fit.1 ∙ e ∙ sym (ap length rest2))) ∙ ap Some sums)
