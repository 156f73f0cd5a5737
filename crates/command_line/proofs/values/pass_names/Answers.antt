use Rattle.std.proofs.Common.{sym, ap, subst, ◌∙◌, map, Some}
use Rattle.std.proofs.lemmas.List.{take_all}
use Rattle.debug_records.specs.Change.{IsPassName}
use Rattle.command_line.proofs.NamesLemmas.{all_are_named, none_named}
use Rattle.command_line.proofs.values.pass_names.Goals as goal

pub returns-in-None : goal.returns-in-None
returns-in-None c = none_named c.args.texts.now c.loop-text.text-index _ c.loop-text-test.true (λ h. c.in-None.ensures.letters (subst IsPassName (sym c.as_bytes.ensures.value) h))

pub returns : goal.returns
returns c = ap Some (c.loop-text.invariant.names ∙ ap (map (λ s. s.now)) (take_all c.loop-text.text-index c.args.texts.now c.loop-text-test.false)) ∙ all_are_named c.args.texts.now c.loop-text.text-index c.loop-text-test.false c.loop-text.invariant.named
