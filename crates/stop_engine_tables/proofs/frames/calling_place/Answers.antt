use Rattle.std.proofs.Common.{◌+◌, sym, subst, ◌∙◌}
use Rattle.image_form.specs.Views.{viewed}
use Rattle.image_form.specs.RulesOfFunctions.{IsPlaceNumber}
use Rattle.rv_machine.specs.State.{word}
use Rattle.stop_engine_view.proofs.Callers.{owner_number}
use Rattle.stop_engine_tables.proofs.frames.calling_place.Goals as goal

pub returns-clause-number : goal.returns-clause-number
returns-clause-number c = λ some.
    subst (IsPlaceNumber (viewed c.args.image.now)) (sym c.owner_of.ensures)
    (owner_number (viewed c.args.image.now) (word (c.return_address-address.result + 4294967292)) c.requires (λ none. some (c.owner_of.ensures ∙ none)))
