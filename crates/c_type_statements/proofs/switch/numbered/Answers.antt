use Rattle.std.proofs.Common.{◌≡◌, [], ◌∷◌, SFits, w64, rules}
use Rattle.std.specs.Prelude.{map}
use Rattle.std.proofs.lemmas.Int.{to_z-of_z}
use Rattle.std.proofs.lemmas.List.{map-append}
use Rattle.std.proofs.lemmas.Result.{on_ok_weaker}
use Rattle.c_type_declarations.specs.Progress.{progress_view}
use Rattle.c_type_statements.specs.Switches.{is_among_numbers, labels_view, part_view}
use Rattle.c_type_statements.specs.declared.part.Part.TheVariants as part
use Rattle.c_type_statements.proofs.Labels.{case_added, case_unnumbered}
use Rattle.c_type_statements.proofs.switch.numbered.Goals as goal

pub returns-in_default : goal.returns-in_default
returns-in_default c =
    on_ok_weaker c.fault.result
    (λ e. rw c.in_default.is (case_unnumbered c.args.extent (labels_view c.args.labels.now) (map part_view c.args.parts.now.items) (progress_view c.args.progress.now) (progress_view c.fault.new.self) e))
    c.fault.ensures

pub returns : goal.returns
returns c =
    let z = c.in-Some.value in
    let fits : SFits w64 z = search rules in
    let among : c.is_among-is_new.result ≡ is_among_numbers z c.args.labels.now.values.items = cc (to_z-of_z w64 z fits) in
    rw (c.in-Some.is, c.in_ok-push-2.ensures.items, c.in_ok-push.ensures.items, to_z-of_z w64 z fits, map-append part_view c.args.parts.now.items (part.Case z ∷ []))
    (case_added z c.args.extent (labels_view c.args.labels.now) (map part_view c.args.parts.now.items) (progress_view c.args.progress.now) (progress_view c.unless.new.progress) (rw among at c.in_ok-unless.ensures))
