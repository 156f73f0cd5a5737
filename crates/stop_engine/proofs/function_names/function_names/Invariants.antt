use Rattle.std.proofs.Common.{◌≡◌, ℕ, List, nat_cmp, take}
use Rattle.std.specs.BTreeMap as tree
use Rattle.std.specs.Cmp.Lexicographic.{slice_cmp}
use Rattle.image_form.specs.Views.{viewed}
use Rattle.stop_engine.specs.FunctionNames.{number_called}
use Rattle.stop_engine.proofs.function_names.function_names.Given as goal

abbrev pub invariant-loop-number : goal.invariant-loop-number
invariant-loop-number l =
    (name : List ℕ) → tree.get_by (λ k. slice_cmp nat_cmp name k.now) l.first ≡ number_called (viewed l.image) name 0 (take l.number (viewed l.image).functions)
