use Rattle.std.proofs.Common.{Some, ap, refl, sym, ◌∙◌}
use Rattle.std.proofs.lemmas.Option.{slice_get-get_or}
use Rattle.currency.proofs.Adding.{told_one}
use Rattle.currency.proofs.told.ToldPlaces.add.Goals as goal

pub returns-clause-told : goal.returns-clause-told
returns-clause-told c =
    (let old = c.args.self.now in
    let v = c.index_mut.result.now in
    told_one old _ c.args.place.0 c.args.var c.args.told v c.push.new.self c.requires (slice_get-get_or old.by_place.items c.args.place.0 v c.requires ∙ ap Some (sym c.index_mut.ensures.value)) refl c.in_ok-push.ensures.items)
