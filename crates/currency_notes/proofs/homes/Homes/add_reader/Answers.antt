use Rattle.std.proofs.Common.{Some, ap, arith, refl, subst, sym, ◌∙◌}
use Rattle.std.proofs.lemmas.Option.{slice_get-get_or}
use Rattle.std.specs.Vec.{with_item}
use Rattle.graph_core.specs.Paths.{Among}
use Rattle.currency_notes.specs.declared.homes.Homes as declared-homes
use Rattle.currency_notes.proofs.Numbering.{more_reader, reader_new}
use Rattle.currency_notes.proofs.homes.Homes.add_reader.Goals as goal

pub returns-clause-more : goal.returns-clause-more
returns-clause-more c =
    (let old = c.args.self.now in
    let v = c.index_mut.result.now in
    more_reader old _ c.args.number c.args.scalar v c.push.new.self refl refl (slice_get-get_or old.readers.items c.args.number v (omega arith) ∙ ap Some (sym c.index_mut.ensures.value)) refl c.in_ok-push.ensures.items)

pub returns-clause-read : goal.returns-clause-read
returns-clause-read c = λ lt.
    (let old = c.args.self.now in
    let v = c.index_mut.result.now in
    let new : declared-homes.Homes = record { homes = old.homes; numbers = old.numbers; readers = with_item old.readers c.args.number c.push.new.self } in
    reader_new old new c.args.number c.args.scalar v c.push.new.self refl refl (slice_get-get_or old.readers.items c.args.number v lt ∙ ap Some (sym c.index_mut.ensures.value)) refl c.in_ok-push.ensures.items)

pub returns-then-has-clause-read : goal.returns-then-has-clause-read
returns-then-has-clause-read c = λ lt. subst (λ l. Among c.args.scalar l) c.readers.ensures (c.has.ensures.0 c.if-has.true)
