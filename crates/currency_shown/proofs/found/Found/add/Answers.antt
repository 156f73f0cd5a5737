use Rattle.std.proofs.Common.{Some, ap, refl, sym, true≢false, ◌∙◌}
use Rattle.std.specs.Prelude.{slice_set}
use Rattle.std.proofs.lemmas.Option.{slice_get-get_or}
use Rattle.currency_shown.specs.declared.found.Unshown as declared-unshown
use Rattle.currency_shown.proofs.Adding.{added_one, only_one, told_one}
use Rattle.currency_shown.proofs.found.Found.add.Goals as goal

pub returns-clause-added : goal.returns-clause-added
returns-clause-added c =
    (let old = c.args.self.now.unshown.items in
    let v = c.index_mut.result.now in
    let u : declared-unshown.Unshown = record { place = c.args.place; last = c.last_note-last.result } in
    added_one c.args.function.now.homes c.args.state.now c.args.place.0 old (slice_set old c.args.scalar c.push.new.self) c.args.scalar v c.push.new.self u c.requires.scalar
    (slice_get-get_or old c.args.scalar v c.requires.scalar ∙ ap Some (sym c.index_mut.ensures.value)) refl c.in_ok-push.ensures.items refl c.last_note-last.ensures
    (λ shown. true≢false (sym (c.is_shown.ensures.1 shown) ∙ c.if-is_shown.false)))

pub returns-clause-told : goal.returns-clause-told
returns-clause-told c =
    (let old = c.args.self.now.unshown.items in
    let v = c.index_mut.result.now in
    let u : declared-unshown.Unshown = record { place = c.args.place; last = c.last_note-last.result } in
    told_one c.args.function.now.homes c.args.state.now c.args.place.0 old (slice_set old c.args.scalar c.push.new.self) c.args.scalar v c.push.new.self u c.requires.scalar
    (slice_get-get_or old c.args.scalar v c.requires.scalar ∙ ap Some (sym c.index_mut.ensures.value)) refl c.in_ok-push.ensures.items refl c.last_note-last.ensures
    (λ shown. true≢false (sym (c.is_shown.ensures.1 shown) ∙ c.if-is_shown.false)))

pub returns-clause-only : goal.returns-clause-only
returns-clause-only c =
    (let old = c.args.self.now.unshown.items in
    let v = c.index_mut.result.now in
    let u : declared-unshown.Unshown = record { place = c.args.place; last = c.last_note-last.result } in
    only_one c.args.function.now.homes c.args.state.now c.args.place.0 old (slice_set old c.args.scalar c.push.new.self) c.args.scalar v c.push.new.self u c.requires.scalar
    (slice_get-get_or old c.args.scalar v c.requires.scalar ∙ ap Some (sym c.index_mut.ensures.value)) refl c.in_ok-push.ensures.items refl c.last_note-last.ensures
    (λ shown. true≢false (sym (c.is_shown.ensures.1 shown) ∙ c.if-is_shown.false)))
