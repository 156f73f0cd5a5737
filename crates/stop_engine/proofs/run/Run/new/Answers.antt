use Rattle.std.proofs.Common.{◌≡◌, List, ℕ, ap, ◌∙◌, refl}
use Rattle.image_form.specs.Form.{Form}
use Rattle.image_form.specs.Views.{viewed}
use Rattle.rv_machine.specs.State.{MachineState}
use Rattle.rv_machine.specs.Table.{started}
use Rattle.stop_engine.specs.EngineState.{run_state}
use Rattle.stop_engine.specs.declared.halt.Standing.TheVariants.{Fresh}
use Rattle.stop_engine.proofs.CodeWords.{code-few, code-whole, words-back}
use Rattle.stop_engine.proofs.run.Run.new.Goals as goal

-- src/run.rt:70:22
pub load-requires-clause-whole : goal.load-requires-clause-whole
load-requires-clause-whole c = rw c.code_bytes.ensures (code-whole (viewed c.args.image.now))

-- src/run.rt:70:22
pub load-requires-clause-code : goal.load-requires-clause-code
load-requires-clause-code c =
    rw (c.code_bytes.ensures, c.version-regions.ensures) (code-few (viewed c.args.image.now) c.requires)

-- src/run.rt:58:5
pub returns : goal.returns
returns c =
    let m = viewed c.args.image.now in
    let limit = c.args.limit in
    let start : MachineState = started m.version.map m.code m.initial c.args.input.now in
    let words = words-back m.code c.requires.fits.code in
    let machine : c.in_ok-load.field-0 ≡ start =
    c.in_ok-load.ensures
    ∙ (rw (c.version-regions.ensures, c.code_bytes.ensures, c.initial.ensures, words) refl) in
    let output = c.new-2.result.items in
    ap (λ (f : Form). run_state f limit limit Fresh c.in_ok-load.field-0 output) c.in_ok-new.ensures
    ∙ ap (λ (s : MachineState). run_state m limit limit Fresh s output) machine
    ∙ ap (λ (l : List ℕ). run_state m limit limit Fresh start l) c.new-2.ensures.items
